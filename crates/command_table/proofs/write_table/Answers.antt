use Rattle.ata_types.specs.declared.memory.TheConstants.{DRIVER_BYTES, DRIVER_BYTES_PER_PORT, PRD_BYTES, TABLES_OFFSET, TABLE_BYTES, TABLE_HEAD_BYTES}
use Rattle.ata_types.specs.declared.limits.TheConstants.{MOST_REQUEST_FRAMES}
use Rattle.std.proofs.Common.{ℕ, List, ◌≡◌, ◌+◌, ◌*◌, ◌≤◌, refl, ap, ◌∙◌, subst, sym, inl, inr, arith, length, replicate, take}
use Rattle.byteorder.specs.Endian.{little_from}
use Rattle.std.proofs.lemmas.List.{length-replicate, length-take}
use Rattle.adapter.specs.Access.{Stores}
use Rattle.adapter.specs.Access.Access.{Storing}
use Rattle.adapter.specs.Device.{Device}
use Rattle.adapter.specs.Memory.{bytes_at}
use Rattle.adapter.specs.Rules.{IsInMemoryNotOwnedByDevice, IsStable}
use Rattle.adapter.specs.Encoding.{EncodesHeader}
use Rattle.refinement.specs.MemoryLayout.{command_list_address, command_table_address}
use Rattle.command_table.specs.Laws.AccessPurpose.{Tables}
use Rattle.command_table.specs.TableStores.{IsHeaderOrTableStore}
use Rattle.command_table.proofs.Storing.{store_free, store_followed, store_on, store_size, store_there, store_agrees, stored_says}
use Rattle.command_table.proofs.write_table.Goals as goal

-- a number of the port and one of the slot stand for them
at_places : (P : ℕ → ℕ → Type 0) (port slot p s : ℕ) → p ≡ port → s ≡ slot → P p s → P port slot
at_places P port slot p s here there h = let Q : ℕ → Type 0 = λ x. P x slot in subst Q here (let R : ℕ → Type 0 = λ x. P p x in subst R there h)

-- bytes that were stored at the table's place, or at the header's
table_stored : (port slot p t : ℕ) (bytes : List ℕ) (old new : Device) → p ≡ port → t ≡ slot → Stores (DRIVER_BYTES_PER_PORT * p + TABLES_OFFSET + TABLE_BYTES * t) bytes old new → Stores (command_table_address port slot) bytes old new
table_stored port slot p t bytes old new = at_places (λ a b. Stores (DRIVER_BYTES_PER_PORT * a + TABLES_OFFSET + TABLE_BYTES * b) bytes old new) port slot p t

header_stored : (port slot p t : ℕ) (bytes : List ℕ) (old new : Device) → p ≡ port → t ≡ slot → Stores (DRIVER_BYTES_PER_PORT * p + 32 * t) bytes old new → Stores (command_list_address port + 32 * slot) bytes old new
header_stored port slot p t bytes old new = at_places (λ a b. Stores (DRIVER_BYTES_PER_PORT * a + 32 * b) bytes old new) port slot p t

table_bounds : (port slot n : ℕ) (table : List ℕ) → n ≤ MOST_REQUEST_FRAMES → IsHeaderOrTableStore port slot (Storing (command_table_address port slot) (take (TABLE_HEAD_BYTES + PRD_BYTES * n) table))
table_bounds port slot n table few = let size = length-take (TABLE_HEAD_BYTES + PRD_BYTES * n) table in inr (omega arith, omega (arith, few, size))

header_bounds : (port slot : ℕ) (header : List ℕ) → length header ≡ 32 → little_from 4 4 header ≡ 0 → IsHeaderOrTableStore port slot (Storing (command_list_address port + 32 * slot) header)
header_bounds port slot header size none = inl (refl, size, none)

-- a slot's place has room for a table
table_room : (port slot n : ℕ) → n ≤ MOST_REQUEST_FRAMES → IsHeaderOrTableStore port slot (Storing (command_table_address port slot) (replicate (TABLE_HEAD_BYTES + PRD_BYTES * n) 0))
table_room port slot n few = let size = length-replicate {A = ℕ} (TABLE_HEAD_BYTES + PRD_BYTES * n) 0 in inr (omega arith, omega (arith, few, size))

pub store_table-requires-clause-free : goal.store_table-requires-clause-free
store_table-requires-clause-free g c =
    let r = c.requires in
    let n : ℕ = length c.args.prds.now in
    let F : ℕ → ℕ → Type 0 = λ p s. IsStable (IsInMemoryNotOwnedByDevice (DRIVER_BYTES_PER_PORT * p + TABLES_OFFSET + TABLE_BYTES * s) (TABLE_HEAD_BYTES + PRD_BYTES * length c.args.prds.now)) (g.A.Adapter.device c.args.adapter.now) in
    let Free : ℕ → Type 0 = λ k. IsStable (IsInMemoryNotOwnedByDevice (command_table_address c.args.port.0 c.args.slot.0) k) (g.A.Adapter.device c.args.adapter.now) in
    at_places F c.from-list.result c.from.result c.args.port.0 c.args.slot.0 (sym c.from-list.ensures) (sym c.from.ensures)
    (subst Free (length-replicate {A = ℕ} (TABLE_HEAD_BYTES + PRD_BYTES * n) 0)
    (store_free c.law_prerequisites.ensures r.may.machine_is_related.0 _ c.args.port.0 c.args.slot.0 _ _ r.may.machine_is_related.2 r.may.driver_memory_fits r.may.port_in_range r.fits.slot_in_range r.may.machine_is_related.1 (table_room c.args.port.0 c.args.slot.0 n r.fits.prd_count_is_allowed)))

pub store-requires : goal.store-requires
store-requires g c =
    let r = c.requires in
    let first = table_stored _ _ _ _ _ _ _ c.from-list.ensures c.from.ensures c.store_table.ensures.stores.stored in
    let here = table_bounds c.args.port.0 c.args.slot.0 (length c.args.prds.now) c.store_table.ensures.stores.bytes r.fits.prd_count_is_allowed in
    let size = store_size c.law_prerequisites.ensures c.args.port.0 c.args.slot.0 r.may.port_in_range r.fits.slot_in_range _ _ _ _ here first in
    let room : DRIVER_BYTES ≤ (g.A.Adapter.device c.store_table.new.adapter).memory_size = let had = r.may.driver_memory_fits in omega (arith, size, had) in
    let F : ℕ → ℕ → Type 0 = λ p s. IsStable (IsInMemoryNotOwnedByDevice (DRIVER_BYTES_PER_PORT * p + 32 * s) (length c.header-head.result)) (g.A.Adapter.device c.store_table.new.adapter) in
    at_places F c.from-list.result c.from-2.result c.args.port.0 c.args.slot.0 (sym c.from-list.ensures) (sym c.from-2.ensures)
    (store_free c.law_prerequisites.ensures r.may.machine_is_related.0 _ c.args.port.0 c.args.slot.0 _ _ (store_agrees c.law_prerequisites.ensures c.args.port.0 c.args.slot.0 r.may.port_in_range r.fits.slot_in_range _ _ _ _ here first r.may.adapter_is_on r.may.machine_is_related.0 r.may.machine_is_related.1 r.may.machine_is_related.2) room r.may.port_in_range r.fits.slot_in_range r.may.machine_is_related.1
    (header_bounds c.args.port.0 c.args.slot.0 c.header-head.result c.header-head.ensures.says.size c.header-head.ensures.none_moved))

pub returns-clause-adapter_is_on : goal.returns-clause-adapter_is_on
returns-clause-adapter_is_on g c =
    let r = c.requires in
    let first = table_stored _ _ _ _ _ _ _ c.from-list.ensures c.from.ensures c.store_table.ensures.stores.stored in
    let second = header_stored _ _ _ _ _ _ _ c.from-list.ensures c.from-2.ensures c.store.ensures.does in
    let here = table_bounds c.args.port.0 c.args.slot.0 (length c.args.prds.now) c.store_table.ensures.stores.bytes r.fits.prd_count_is_allowed in
    let there = header_bounds c.args.port.0 c.args.slot.0 c.header-head.result c.header-head.ensures.says.size c.header-head.ensures.none_moved in
    store_on c.law_prerequisites.ensures c.args.port.0 c.args.slot.0 r.may.port_in_range r.fits.slot_in_range _ _ _ _ there second (store_on c.law_prerequisites.ensures c.args.port.0 c.args.slot.0 r.may.port_in_range r.fits.slot_in_range _ _ _ _ here first r.may.adapter_is_on)

pub returns-clause-followed : goal.returns-clause-followed
returns-clause-followed g c =
    let r = c.requires in
    let first = table_stored _ _ _ _ _ _ _ c.from-list.ensures c.from.ensures c.store_table.ensures.stores.stored in
    let second = header_stored _ _ _ _ _ _ _ c.from-list.ensures c.from-2.ensures c.store.ensures.does in
    let here = table_bounds c.args.port.0 c.args.slot.0 (length c.args.prds.now) c.store_table.ensures.stores.bytes r.fits.prd_count_is_allowed in
    let there = header_bounds c.args.port.0 c.args.slot.0 c.header-head.result c.header-head.ensures.says.size c.header-head.ensures.none_moved in
    (c.law_prerequisites.ensures.fragments.fragments_join (Tables c.args.port.0 c.args.slot.0) (Tables c.args.port.0 c.args.slot.0) (λ uses. uses) (λ uses. uses) (λ access is. is) (λ uses free. free) _ _ _
    (store_followed c.law_prerequisites.ensures c.args.port.0 c.args.slot.0 r.may.port_in_range r.fits.slot_in_range _ _ _ _ here first)
    (store_followed c.law_prerequisites.ensures c.args.port.0 c.args.slot.0 r.may.port_in_range r.fits.slot_in_range _ _ _ _ there second)).is_simulated

pub returns-clause-slot_decodes : goal.returns-clause-slot_decodes
returns-clause-slot_decodes g c =
    let r = c.requires in
    let few = r.fits.prd_count_is_allowed in
    let first = table_stored _ _ _ _ _ _ _ c.from-list.ensures c.from.ensures c.store_table.ensures.stores.stored in
    let second = header_stored _ _ _ _ _ _ _ c.from-list.ensures c.from-2.ensures c.store.ensures.does in
    let size = c.store_table.ensures.stores.table.size in
    let cut = length-take (TABLE_HEAD_BYTES + PRD_BYTES * length c.args.prds.now) c.store_table.ensures.stores.bytes in
    let H : ℕ → ℕ → Type 0 = λ p s. EncodesHeader c.header-head.result c.is_write.result (length c.args.prds.now) (DRIVER_BYTES_PER_PORT * p + TABLES_OFFSET + TABLE_BYTES * s) in
    let heads : EncodesHeader c.header-head.result c.is_write.result (length c.args.prds.now) (command_table_address c.args.port.0 c.args.slot.0) =
    at_places H c.args.port.0 c.args.slot.0 _ _ c.from-list.ensures c.from.ensures c.header-head.ensures.says in
    stored_says c.law_prerequisites.ensures c.args.port.0 c.args.slot.0 r.may.port_in_range r.fits.slot_in_range r.may.machine_is_related.0 r.may.machine_is_related.1 _ _ _ r.may.adapter_is_on r.may.machine_is_related.2 c.args.prds.now c.store_table.ensures.stores.bytes c.header-head.result few size
    (omega (arith, cut, size, few)) first second c.is_write.result c.args.command.now c.is_write.ensures c.store_table.ensures.stores.table.fis c.store_table.ensures.stores.table.prds_are_encoded heads c.header-head.ensures.none_moved

pub returns-clause-prdbc_is_zero : goal.returns-clause-prdbc_is_zero
returns-clause-prdbc_is_zero g c =
    let r = c.requires in
    let heads = c.header-head.ensures in
    let second = header_stored _ _ _ _ _ _ _ c.from-list.ensures c.from-2.ensures c.store.ensures.does in
    let there = header_bounds c.args.port.0 c.args.slot.0 c.header-head.result heads.says.size heads.none_moved in
    let at : ℕ = command_list_address c.args.port.0 + 32 * c.args.slot.0 in
    let P : ℕ → Type 0 = λ n. bytes_at (g.A.Adapter.device c.store.new.self).memory at n ≡ c.header-head.result in
    let same = subst P heads.says.size (store_there c.law_prerequisites.ensures c.args.port.0 c.args.slot.0 r.may.port_in_range r.fits.slot_in_range _ _ _ _ there second) in
    ap (little_from 4 4) same ∙ heads.none_moved
