use Rattle.ata_types.specs.declared.memory.TheConstants.{DRIVER_BYTES}
use Rattle.std.proofs.Common.{ℕ, [], ◌∷◌, ◌≡◌, ◌≤◌, ap, arith}
use Rattle.adapter.specs.declared.command.Prd.{Prd}
use Rattle.refinement.specs.MemoryLayout.{scratch_frame_address}
use Rattle.command_table.proofs.Storing.{block_followed, block_free, block_on, block_there, block_told, table_agrees, table_size, with_block}
use Rattle.command_table.proofs.write_table_with_block.Goals as goal

-- the address at which the block is stored
at_scratch : (prd : Prd) (port : ℕ) → prd ≡ record { address = scratch_frame_address port; bytes = 512 } → prd.address ≡ scratch_frame_address port
at_scratch prd port is = ap (λ (e : Prd). e.address) is

pub store-requires : goal.store-requires
store-requires g c =
    let r = c.requires in
    let had = r.may.driver_memory_fits in
    let size = table_size c.law_other_ports_are_untouched.ensures.adapter_is_same c.args.port.0 _ _ c.write_table.ensures.followed in
    let room : DRIVER_BYTES ≤ (g.A.Adapter.device c.write_table.new.adapter).memory_size = omega (arith, size, had) in
    block_free c.law_prerequisites.ensures r.may.machine_is_related.0 _ c.args.port.0 _ c.args.block.now (table_agrees c.law_prerequisites.ensures c.args.port.0 r.may.machine_is_related.0 _ _ r.may.machine_is_related.1 c.write_table.ensures.followed r.may.machine_is_related.2) room r.may.port_in_range
    (at_scratch _ c.args.port.0 c.scratch_prd-scratch.ensures.is) c.told-block r.may.machine_is_related.1

pub returns-clause-adapter_is_on : goal.returns-clause-adapter_is_on
returns-clause-adapter_is_on g c =
    block_on c.law_prerequisites.ensures c.args.port.0 _ c.requires.may.port_in_range (at_scratch _ c.args.port.0 c.scratch_prd-scratch.ensures.is) c.args.block.now c.told-block _ _ c.store.ensures.does c.write_table.ensures.adapter_is_on

pub returns-clause-followed : goal.returns-clause-followed
returns-clause-followed g c =
    with_block c.law_prerequisites.ensures c.args.port.0 _ _ _ c.write_table.ensures.followed
    (block_followed c.law_prerequisites.ensures c.args.port.0 _ c.requires.may.port_in_range (at_scratch _ c.args.port.0 c.scratch_prd-scratch.ensures.is) c.args.block.now c.told-block _ _ c.store.ensures.does)

pub returns-clause-slot_decodes : goal.returns-clause-slot_decodes
returns-clause-slot_decodes g c = λ m meaning fields one.
    let r = c.requires in
    block_told c.law_prerequisites.ensures c.args.port.0 _ r.may.port_in_range (at_scratch _ c.args.port.0 c.scratch_prd-scratch.ensures.is) c.args.block.now c.told-block _ _ c.store.ensures.does r.may.machine_is_related.0
    (table_agrees c.law_prerequisites.ensures c.args.port.0 r.may.machine_is_related.0 _ _ r.may.machine_is_related.1 c.write_table.ensures.followed r.may.machine_is_related.2) c.write_table.ensures.adapter_is_on m (scratch_frame_address c.args.port.0 ∷ [])
    (c.write_table.ensures.slot_decodes m (scratch_frame_address c.args.port.0 ∷ []) (c.scratch_prd-scratch.ensures.one_block 0 c.args.command.now m meaning fields one))

pub returns-clause-block : goal.returns-clause-block
returns-clause-block g c =
    block_there c.law_prerequisites.ensures c.args.port.0 _ c.requires.may.port_in_range (at_scratch _ c.args.port.0 c.scratch_prd-scratch.ensures.is) c.args.block.now c.told-block _ _ c.store.ensures.does
