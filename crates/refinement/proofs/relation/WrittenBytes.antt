-- Which bytes a step of the device writes, and that no slot rests on them.
use Rattle.ata_types.specs.declared.memory.TheConstants.{DRIVER_BYTES, DRIVER_BYTES_PER_PORT, SCRATCH_OFFSET, TABLE_BYTES}
use Rattle.std.proofs.Common.{ℕ, ◌≡◌, ◌≢◌, ◌⊎◌, ◌<◌, ◌≤◌, ◌+◌, ◌*◌, List, length, sym, subst, arith, inl, inr, ⊎_elim}
use Rattle.std.proofs.lemmas.Bool.{cases_order}
use Rattle.adapter.specs.Memory.{patched}
use Rattle.adapter.specs.declared.tape.Entry.{Entry}
use Rattle.adapter.specs.declared.command.Operation.{Operation}
use Rattle.adapter.proofs.MemoryLemmas.{patched_apart}
use Rattle.refinement.specs.MemoryLayout.{command_list_address, received_fis_address, command_table_address, scratch_frame_address, IsTableOrHeaderByteButPrdbc, IsScratchByte}
use Rattle.refinement.specs.Slots.{Free, Own, SlotStates}
use Rattle.refinement.specs.Driver.{IsInMemoryOfFreeSlot}
use Rattle.refinement.proofs.relation.SlotRelation.{SameFixed, GainsNone, GainsNone-refl, NoPort}

pub record InReceived (at n : ℕ) : Type 0 where
  pub port : ℕ
  pub below : port < 4
  pub from : received_fis_address port ≤ at
  pub to : at + n ≤ received_fis_address port + 256

pub record InCount (at n : ℕ) : Type 0 where
  pub port : ℕ
  pub slot : ℕ
  pub below : port < 4
  pub slot_below : slot < 32
  pub here : at ≡ command_list_address port + 32 * slot + 4
  pub size : n ≡ 4

pub record InScratch (Except : ℕ → Type 0) (at n : ℕ) : Type 0 where
  pub port : ℕ
  pub below : port < 4
  pub excepted : Except port
  pub here : at ≡ scratch_frame_address port
  pub size : n ≡ 512

-- n bytes from here on that the device may write: in the scratch frames of these ports alone
abbrev pub MayChange : (ℕ → Type 0) → ℕ → ℕ → Type 0
MayChange Except at n = InReceived at n ⊎ (InCount at n ⊎ (InScratch Except at n ⊎ (DRIVER_BYTES ≤ at)))

-- ports don't meet
module _ (port q a : ℕ) (low : DRIVER_BYTES_PER_PORT * port ≤ a) (high : a < DRIVER_BYTES_PER_PORT * port + DRIVER_BYTES_PER_PORT) (low' : DRIVER_BYTES_PER_PORT * q ≤ a) (high' : a < DRIVER_BYTES_PER_PORT * q + DRIVER_BYTES_PER_PORT) where
  pub same_port : port ≡ q
  same_port = ⊎_elim (λ e. e) (λ x. ⊎_elim (λ (l : port < q). absurd (omega (arith, l, low, high, low', high'))) (λ (g : q < port). absurd (omega (arith, g, low, high, low', high'))) x) (cases_order port q)

table_in : (port slot a : ℕ) → slot < 32 → IsTableOrHeaderByteButPrdbc port slot a → (DRIVER_BYTES_PER_PORT * port ≤ a) × (a < DRIVER_BYTES_PER_PORT * port + SCRATCH_OFFSET)
table_in port slot a below (inl x) = (omega (arith, x.0), omega (arith, x.1, below))
table_in port slot a below (inr (inl x)) = (omega (arith, x.0), omega (arith, x.1, below))
table_in port slot a below (inr (inr x)) = (omega (arith, x.0), omega (arith, x.1, below))

-- the bytes of a header are before the received area, its tables after
table_not_received : (port slot a : ℕ) → slot < 32 → IsTableOrHeaderByteButPrdbc port slot a → received_fis_address port ≤ a → a < received_fis_address port + 256 → ⊥
table_not_received port slot a below (inl x) low high = omega (arith, x.1, below, low)
table_not_received port slot a below (inr (inl x)) low high = omega (arith, x.1, below, low)
table_not_received port slot a below (inr (inr x)) low high = omega (arith, x.0, high)

table_not_count : (port slot k a : ℕ) → slot < 32 → k < 32 → IsTableOrHeaderByteButPrdbc port slot a → command_list_address port + 32 * k + 4 ≤ a → a < command_list_address port + 32 * k + 8 → ⊥
table_not_count port slot k a below small (inr (inr x)) low high = omega (arith, x.0, high, small)
table_not_count port slot k a below small (inl x) low high = ⊎_elim (λ e. omega (arith, e, x.1, low))
    (λ y. ⊎_elim (λ (l : slot < k). omega (arith, l, x.1, low)) (λ (g : k < slot). omega (arith, g, x.0, high)) y) (cases_order slot k)
table_not_count port slot k a below small (inr (inl x)) low high = ⊎_elim (λ e. omega (arith, e, x.0, high))
    (λ y. ⊎_elim (λ (l : slot < k). omega (arith, l, x.1, low)) (λ (g : k < slot). omega (arith, g, x.0, high)) y) (cases_order slot k)

pub table_spared : (Except : ℕ → Type 0) (port slot at n a : ℕ) → port < 4 → slot < 32 → MayChange Except at n → IsTableOrHeaderByteButPrdbc port slot a → at ≤ a → a < at + n → ⊥
table_spared Except port slot at n a below small (inl x) t low high =
    let r = table_in port slot a small t in
    let e : port ≡ x.port = same_port port x.port a r.0 (omega (arith, r.1)) (omega (arith, x.from, low)) (omega (arith, x.to, high)) in
    table_not_received port slot a small t (omega (arith, e, x.from, low)) (omega (arith, e, x.to, high))
table_spared Except port slot at n a below small (inr (inl x)) t low high =
    let r = table_in port slot a small t in
    let e : port ≡ x.port = same_port port x.port a r.0 (omega (arith, r.1)) (omega (arith, x.here, low)) (omega (arith, x.here, x.size, x.slot_below, high)) in
    table_not_count port slot x.slot a small x.slot_below t (omega (arith, e, x.here, low)) (omega (arith, e, x.here, x.size, high))
table_spared Except port slot at n a below small (inr (inr (inl x))) t low high =
    let r = table_in port slot a small t in
    let e : port ≡ x.port = same_port port x.port a r.0 (omega (arith, r.1)) (omega (arith, x.here, low)) (omega (arith, x.here, x.size, high)) in
    omega (arith, e, r.1, x.here, low)
table_spared Except port slot at n a below small (inr (inr (inr x))) t low high =
    let r = table_in port slot a small t in
    omega (arith, r.1, x, low, below)

pub scratch_spared : (Except : ℕ → Type 0) (port at n a : ℕ) → port < 4 → (Except port → ⊥) → MayChange Except at n → IsScratchByte port a → at ≤ a → a < at + n → ⊥
scratch_spared Except port at n a below out (inl x) s low high =
    let e : port ≡ x.port = same_port port x.port a (omega (arith, s.0)) (omega (arith, s.1)) (omega (arith, x.from, low)) (omega (arith, x.to, high)) in
    omega (arith, e, s.0, x.to, high)
scratch_spared Except port at n a below out (inr (inl x)) s low high =
    let e : port ≡ x.port = same_port port x.port a (omega (arith, s.0)) (omega (arith, s.1)) (omega (arith, x.here, low)) (omega (arith, x.here, x.size, x.slot_below, high)) in
    omega (arith, e, s.0, x.here, x.size, x.slot_below, high)
scratch_spared Except port at n a below out (inr (inr (inl x))) s low high =
    let e : port ≡ x.port = same_port port x.port a (omega (arith, s.0)) (omega (arith, s.1)) (omega (arith, x.here, low)) (omega (arith, x.here, x.size, high)) in
    out (subst Except (sym e) x.excepted)
scratch_spared Except port at n a below out (inr (inr (inr x))) s low high = omega (arith, s.1, x, low, below)

-- what the slots rest on stays
pub fixed_stays : (Except : ℕ → Type 0) (uses : SlotStates) (memory : ℕ → ℕ) (at : ℕ) (bytes : List ℕ) (tape later : List Entry) → MayChange Except at (length bytes) →
    ((port : ℕ) (o : Operation) → uses port 0 ≡ Own o → (Except port → ⊥) → GainsNone tape later port o) → SameFixed Except uses memory (patched memory at bytes) tape later
fixed_stays Except uses memory at bytes tape later may gains = record {
  tables = λ port slot used below small a t. patched_apart memory at bytes a (λ low high. table_spared Except port slot at (length bytes) a below small may t low high);
  scratch = λ port used out below a s. patched_apart memory at bytes a (λ low high. scratch_spared Except port at (length bytes) a below out may s low high);
  gains = gains;
}

-- ---- what the driver may write: the header and table of a free slot, and the scratch frame where slot 0 is free

-- headers and tables of two slots don't meet
tables_apart : (port slot k a : ℕ) → slot < 32 → k < 32 → slot ≢ k → IsTableOrHeaderByteButPrdbc port slot a →
    ((command_list_address port + 32 * k ≤ a) × (a < command_list_address port + 32 * k + 32)) ⊎ ((command_table_address port k ≤ a) × (a < command_table_address port k + TABLE_BYTES)) → ⊥
tables_apart port slot k a sb kb ne t other = ⊎_elim ne (λ y. ⊎_elim (λ (l : slot < k). less l t other) (λ (g : k < slot). more g t other) y) (cases_order slot k)
  where
    less : slot < k → IsTableOrHeaderByteButPrdbc port slot a → ((command_list_address port + 32 * k ≤ a) × (a < command_list_address port + 32 * k + 32)) ⊎ ((command_table_address port k ≤ a) × (a < command_table_address port k + TABLE_BYTES)) → ⊥
    less l (inl x) (inl y) = omega (arith, l, x.1, y.0)
    less l (inr (inl x)) (inl y) = omega (arith, l, x.1, y.0)
    less l (inr (inr x)) (inl y) = omega (arith, x.0, y.1, kb)
    less l (inl x) (inr y) = omega (arith, x.1, y.0, sb)
    less l (inr (inl x)) (inr y) = omega (arith, x.1, y.0, sb)
    less l (inr (inr x)) (inr y) = omega (arith, l, x.1, y.0)

    more : k < slot → IsTableOrHeaderByteButPrdbc port slot a → ((command_list_address port + 32 * k ≤ a) × (a < command_list_address port + 32 * k + 32)) ⊎ ((command_table_address port k ≤ a) × (a < command_table_address port k + TABLE_BYTES)) → ⊥
    more g (inl x) (inl y) = omega (arith, g, x.0, y.1)
    more g (inr (inl x)) (inl y) = omega (arith, g, x.0, y.1)
    more g (inr (inr x)) (inl y) = omega (arith, x.0, y.1, kb)
    more g (inl x) (inr y) = omega (arith, x.1, y.0, sb)
    more g (inr (inl x)) (inr y) = omega (arith, x.1, y.0, sb)
    more g (inr (inr x)) (inr y) = omega (arith, g, x.0, y.1)

pub in_free : (port k a : ℕ) → k < 32 → ((command_list_address port + 32 * k ≤ a) × (a < command_list_address port + 32 * k + 32)) ⊎ ((command_table_address port k ≤ a) × (a < command_table_address port k + TABLE_BYTES)) → (DRIVER_BYTES_PER_PORT * port ≤ a) × (a < DRIVER_BYTES_PER_PORT * port + SCRATCH_OFFSET)
in_free port k a kb (inl x) = (omega (arith, x.0), omega (arith, x.1, kb))
in_free port k a kb (inr x) = (omega (arith, x.0), omega (arith, x.1, kb))

pub narrow : (port k at n a : ℕ) → at ≤ a → a < at + n → ((command_list_address port + 32 * k ≤ at) × (at + n ≤ command_list_address port + 32 * k + 32)) ⊎ ((command_table_address port k ≤ at) × (at + n ≤ command_table_address port k + TABLE_BYTES)) →
    ((command_list_address port + 32 * k ≤ a) × (a < command_list_address port + 32 * k + 32)) ⊎ ((command_table_address port k ≤ a) × (a < command_table_address port k + TABLE_BYTES))
narrow port k at n a low high (inl x) = inl (omega (arith, x.0, low), omega (arith, x.1, high))
narrow port k at n a low high (inr x) = inr (omega (arith, x.0, low), omega (arith, x.1, high))

pub store_table : (uses : SlotStates) (port slot at n a : ℕ) → (uses port slot ≡ Free → ⊥) → port < 4 → slot < 32 → IsInMemoryOfFreeSlot uses at n → IsTableOrHeaderByteButPrdbc port slot a → at ≤ a → a < at + n → ⊥
store_table uses port slot at n a used below small (inl x) t low high =
    let r = table_in port slot a small t in
    let y = narrow x.port x.slot at n a low high x.is_in_header_or_table in
    let s = in_free x.port x.slot a x.slot_below y in
    let e : port ≡ x.port = same_port port x.port a r.0 (omega (arith, r.1)) s.0 (omega (arith, s.1)) in
    tables_apart port slot x.slot a small x.slot_below
    (λ same. used (subst (λ (k : ℕ). uses port k ≡ Free) (sym same) (subst (λ (q : ℕ). uses q x.slot ≡ Free) (sym e) x.free))) t
    (subst (λ (q : ℕ). ((command_list_address q + 32 * x.slot ≤ a) × (a < command_list_address q + 32 * x.slot + 32)) ⊎ ((command_table_address q x.slot ≤ a) × (a < command_table_address q x.slot + TABLE_BYTES))) (sym e) y)
store_table uses port slot at n a used below small (inr x) t low high =
    let r = table_in port slot a small t in
    let e : port ≡ x.port = same_port port x.port a r.0 (omega (arith, r.1)) (omega (arith, x.begins_in_scratch, low)) (omega (arith, x.ends_in_scratch, high)) in
    omega (arith, e, r.1, x.begins_in_scratch, low)

pub store_scratch : (uses : SlotStates) (port at n a : ℕ) → port < 4 → (uses port 0 ≡ Free → ⊥) → IsInMemoryOfFreeSlot uses at n → IsScratchByte port a → at ≤ a → a < at + n → ⊥
store_scratch uses port at n a below used (inl x) s low high =
    let y = in_free x.port x.slot a x.slot_below (narrow x.port x.slot at n a low high x.is_in_header_or_table) in
    let e : port ≡ x.port = same_port port x.port a (omega (arith, s.0)) (omega (arith, s.1)) y.0 (omega (arith, y.1)) in
    omega (arith, e, s.0, y.1)
store_scratch uses port at n a below used (inr x) s low high =
    let e : port ≡ x.port = same_port port x.port a (omega (arith, s.0)) (omega (arith, s.1)) (omega (arith, x.begins_in_scratch, low)) (omega (arith, x.ends_in_scratch, high)) in
    used (subst (λ (q : ℕ). uses q 0 ≡ Free) (sym e) x.free)

pub stored_fixed : (uses : SlotStates) (memory : ℕ → ℕ) (at : ℕ) (bytes : List ℕ) (tape : List Entry) → IsInMemoryOfFreeSlot uses at (length bytes) → SameFixed NoPort uses memory (patched memory at bytes) tape tape
stored_fixed uses memory at bytes tape may = record {
  tables = λ port slot used below small a t. patched_apart memory at bytes a (λ low high. store_table uses port slot at (length bytes) a used below small may t low high);
  scratch = λ port used out below a s. patched_apart memory at bytes a (λ low high. store_scratch uses port at (length bytes) a below used may s low high);
  gains = λ port o u out. GainsNone-refl tape port o;
}

pub stored_low : (uses : SlotStates) (at n : ℕ) → IsInMemoryOfFreeSlot uses at n → at + n ≤ DRIVER_BYTES
stored_low uses at n (inl x) = ⊎_elim (λ y. omega (arith, y.1, x.port_is_below_4, x.slot_below)) (λ y. omega (arith, y.1, x.port_is_below_4, x.slot_below)) x.is_in_header_or_table
stored_low uses at n (inr x) = omega (arith, x.ends_in_scratch, x.below)
