use Rattle.std.proofs.Common.{◌≡◌, ◌*◌, refl, ap, arith}
use Rattle.adapter.specs.declared.command.Prd.{Prd}
use Rattle.refinement.specs.MemoryLayout.{scratch_frame_address}
use Rattle.command_table.proofs.Storing.{table_for_block}
use Rattle.command_table.proofs.scratch_prd.Goals as goal

pub returns : goal.returns
returns c =
    let at : 4096 * c.from-2.result ≡ scratch_frame_address c.args.port.0 = let x = c.from.ensures in let y = c.from-2.ensures in omega (arith, x, y) in
    let is : ◌≡◌ {A = Prd} (record { address = 4096 * c.from-2.result; bytes = 512 }) (record { address = scratch_frame_address c.args.port.0; bytes = 512 }) = ap (λ a. record { address = a; bytes = 512 }) at in
    record {
      is = is;
      allowed = record { even_address = omega (arith, at); even_bytes = refl; is_not_empty = omega arith; is_at_most_4_mib = omega arith };
      one_block = λ slot command m meaning fields one. table_for_block _ c.args.port.0 slot command m is meaning fields one;
    }
