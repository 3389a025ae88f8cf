-- Stores into the header and the table of an unused slot.
use Rattle.std.proofs.Common.{ℕ, ◌≡◌, ◌⊎◌, ◌+◌, ◌*◌, ◌<◌, ◌≤◌, Bool, List, [], ◌∷◌, length, take, refl, sym, ◌∙◌, ap, subst, inl, inr, arith, slice_index_or}
use Rattle.byteorder.specs.Endian.{little_from}
use Rattle.std.proofs.lemmas.List.Elements.{All-cons, All-nil, All-weaker}
use Rattle.ata_types.specs.declared.Port.{Port}
use Rattle.ata_types.specs.declared.memory.TheConstants.{DRIVER_BYTES, PRD_BYTES, TABLE_BYTES, TABLE_HEAD_BYTES}
use Rattle.ata_types.specs.declared.limits.TheConstants.{MOST_REQUEST_FRAMES}
use Rattle.hba_regs.specs.declared.reg.Reg.{Reg}
use Rattle.adapter.specs.Access.{Access, Stores}
use Rattle.adapter.specs.Access.Access.{Reading, Writing, Loading, Storing}
use Rattle.adapter.specs.Commands.{IsValidMeaning, Meaning, command_of, transfer_sector_count, reads_memory}
use Rattle.adapter.specs.Decoding.{IsWholePieces}
use Rattle.adapter.specs.Device.{Device}
use Rattle.adapter.specs.Memory.{patched, bytes_at}
use Rattle.adapter.specs.Rules.{IsOn, IsInMemoryNotOwnedByDevice, IsStable}
use Rattle.adapter.specs.Encoding.{EncodesCommand, EncodesHeader, EncodesPrd}
use Rattle.adapter.specs.declared.command.Command.{Command}
use Rattle.adapter.specs.declared.command.Operation.{Operation}
use Rattle.adapter.specs.declared.command.Prd.{Prd}
use Rattle.refinement.specs.Fragments.{AnyAccess, SomeMachineAgrees, IsDrivenBy, IsSimulated, AccessesNoOtherPort, NoneWrites}
use Rattle.refinement.specs.PreservedParts.{SameAdapter}
use Rattle.refinement.specs.Driver.{KeepsTablesAndScratchUnlessOwn, IsInMemoryOfFreeSlot, MissesTableAndHeaderButPrdbc}
use Rattle.refinement.specs.MemoryLayout.{command_list_address, scratch_frame_address, command_table_address}
use Rattle.refinement.specs.Slots.{SlotStates, SlotDecodesTo}
use Rattle.command_table.specs.BufferBytes.{bytes_from}
use Rattle.command_table.specs.Laws.{Laws}
use Rattle.command_table.specs.Laws.AccessPurpose.{Tables, TablesAndBlock}
use Rattle.command_table.specs.TableStores.{IsTableFor, FillsHeaderWithPrdbcZero, IsInTable, IsHeaderTableOrBlockStore, IsHeaderOrTableStore, IsSlotStateFree}
use Rattle.command_table.proofs.Saying.{table_says}

-- the driver may store them
may_store : (uses : SlotStates) (port slot at : ℕ) (bytes : List ℕ) → port < 4 → slot < 32 → IsSlotStateFree port slot uses → IsHeaderOrTableStore port slot (Storing at bytes) → IsInMemoryOfFreeSlot uses at (length bytes)
may_store uses port slot at bytes below small free here = inl (record { port = port; slot = slot; port_is_below_4 = below; slot_below = small; free = free; is_in_header_or_table = of here })
  where
    of : FillsHeaderWithPrdbcZero port slot at bytes ⊎ IsInTable port slot at bytes →
        ((command_list_address port + 32 * slot ≤ at) × (at + length bytes ≤ command_list_address port + 32 * slot + 32)) ⊎ ((command_table_address port slot ≤ at) × (at + length bytes ≤ command_table_address port slot + TABLE_BYTES))
    of (inl h) = let place = h.0 in let size = h.1 in inl (omega (arith, place), omega (arith, place, size))
    of (inr t) = inr t

-- whatever the device does first
pub store_free : Laws → (uses : SlotStates) (d : Device) (port slot at : ℕ) (bytes : List ℕ) → SomeMachineAgrees uses d → DRIVER_BYTES ≤ d.memory_size → port < 4 → slot < 32 → IsSlotStateFree port slot uses → IsHeaderOrTableStore port slot (Storing at bytes) →
    IsStable (IsInMemoryNotOwnedByDevice at (length bytes)) d
store_free laws uses d port slot at bytes a room below small free here =
    laws.device_owns_no_storable_bytes uses a.machine d a.reached a.driver_relation.state_relation at (length bytes)
    (elim here [ inl h ↦ let place = h.0 in let size = h.1 in omega (arith, room, place, size, below, small) | inr table ↦ let t = table.1 in omega (arith, room, t) ])
    (may_store uses port slot at bytes below small free here)

-- no such access is of a register
pub table_is_of : (port : Port) (at slot : ℕ) (access : Access) → IsHeaderOrTableStore at slot access → AccessesNoOtherPort port access
table_is_of port at slot (Storing place bytes) here = tt
table_is_of port at slot (Loading place bytes) here = tt
table_is_of port at slot (Reading r v) here = absurd here
table_is_of port at slot (Writing r v) here = absurd here

pub table_spares : (port slot : ℕ) (r : Reg) → NoneWrites (IsHeaderOrTableStore port slot) r
table_spares port slot r (Storing at bytes) here = tt
table_spares port slot r (Loading at bytes) here = tt
table_spares port slot r (Reading s v) here = tt
table_spares port slot r (Writing s v) here = absurd here

-- ---- one store

module _ (laws : Laws) (port slot : ℕ) (below : port < 4) (small : slot < 32) (at : ℕ) (bytes : List ℕ) (old new : Device) (here : IsHeaderOrTableStore port slot (Storing at bytes)) (call : Stores at bytes old new) where
  pub store_followed : IsSimulated (IsHeaderOrTableStore port slot) (IsSlotStateFree port slot) old new
  store_followed = laws.fragments.stores (Tables port slot) at bytes old new here (λ uses free. may_store uses port slot at bytes below small free here) call

  pub store_on : IsOn old → IsOn new
  store_on on = laws.access_keeps_on (Storing at bytes) old new on (λ v e. absurd cc) call

  pub store_there : bytes_at new.memory at (length bytes) ≡ bytes
  store_there = ap (λ (d : Device). bytes_at d.memory at (length bytes)) call.effect ∙ laws.memory.reads_back_patch call.at_access.memory at bytes

  pub store_size : new.memory_size ≡ old.memory_size
  store_size = (laws.access_keeps_adapter (Storing at bytes) old new call).memory_size

  module _ (on : IsOn old) (uses : SlotStates) (free : IsSlotStateFree port slot uses) (a : SomeMachineAgrees uses old) where
    pub store_left : KeepsTablesAndScratchUnlessOwn uses (record old { memory = patched old.memory at bytes }) new
    store_left = laws.store_keeps_tables uses a.machine old new a.reached a.driver_relation.state_relation on.no_reset at bytes call

    pub store_agrees : SomeMachineAgrees uses new
    store_agrees = laws.fragments.some_machine_agrees (Tables port slot) (λ uses. uses) uses old new free store_followed a

-- ---- the table, and then the header

module _ (laws : Laws) (port slot : ℕ) (below : port < 4) (small : slot < 32) (uses : SlotStates) (free : IsSlotStateFree port slot uses) (old mid new : Device) (on : IsOn old) (a : SomeMachineAgrees uses old)
    (prds : List Prd) (table header : List ℕ) (few : length prds ≤ MOST_REQUEST_FRAMES) (size : TABLE_HEAD_BYTES + PRD_BYTES * length prds ≤ length table) (front : length (take (TABLE_HEAD_BYTES + PRD_BYTES * length prds) table) ≡ TABLE_HEAD_BYTES + PRD_BYTES * length prds)
    (first : Stores (command_table_address port slot) (take (TABLE_HEAD_BYTES + PRD_BYTES * length prds) table) old mid) (second : Stores (command_list_address port + 32 * slot) header mid new)
    (writes : Bool) (command : Command) (direction : (o : Operation) (s first count : ℕ) → command ≡ command_of o s first count → writes ≡ reads_memory o) (fis : EncodesCommand (bytes_from table 0 20) command)
    (each : (i : ℕ) (d : Prd) → i < length prds → EncodesPrd (bytes_from table (TABLE_HEAD_BYTES + PRD_BYTES * i) 16) (slice_index_or prds i d))
    (heads : EncodesHeader header writes (length prds) (command_table_address port slot)) (none_moved : little_from 4 4 header ≡ 0) where
  in_table : IsHeaderOrTableStore port slot (Storing (command_table_address port slot) (take (TABLE_HEAD_BYTES + PRD_BYTES * length prds) table))
  in_table = inr (omega arith, omega (arith, front, few))

  in_header : IsHeaderOrTableStore port slot (Storing (command_list_address port + 32 * slot) header)
  in_header = inl (refl, heads.size, none_moved)

  mid_on : IsOn mid
  mid_on = store_on laws port slot below small (command_table_address port slot) _ old mid in_table first on

  mid_agrees : SomeMachineAgrees uses mid
  mid_agrees = store_agrees laws port slot below small (command_table_address port slot) _ old mid in_table first on uses free a

  -- the memory that the second store leaves at once
  abbrev stored : ℕ → ℕ
  stored = patched mid.memory (command_list_address port + 32 * slot) header

  table_stays : (at : ℕ) → command_table_address port slot ≤ at → at < command_table_address port slot + (TABLE_HEAD_BYTES + PRD_BYTES * length prds) → stored at ≡ patched old.memory (command_table_address port slot) (take (TABLE_HEAD_BYTES + PRD_BYTES * length prds) table) at
  table_stays at low high =
      laws.memory.patch_leaves_others mid.memory (command_list_address port + 32 * slot) header at (λ from to. let h = heads.size in absurd (omega (arith, h, small, low, to)))
      ∙ (store_left laws port slot below small (command_table_address port slot) _ old mid in_table first on uses free a).tables port slot at below small
      (inr (inr (low, omega (arith, few))))

  table_there : bytes_at stored (command_table_address port slot) (TABLE_HEAD_BYTES + PRD_BYTES * length prds) ≡ take (TABLE_HEAD_BYTES + PRD_BYTES * length prds) table
  table_there =
      laws.memory.same_memory_same_bytes (patched old.memory (command_table_address port slot) (take (TABLE_HEAD_BYTES + PRD_BYTES * length prds) table)) stored (command_table_address port slot) (TABLE_HEAD_BYTES + PRD_BYTES * length prds) table_stays
      ∙ ap (bytes_at (patched old.memory (command_table_address port slot) (take (TABLE_HEAD_BYTES + PRD_BYTES * length prds) table)) (command_table_address port slot)) (sym front)
      ∙ laws.memory.reads_back_patch old.memory (command_table_address port slot) (take (TABLE_HEAD_BYTES + PRD_BYTES * length prds) table)

  header_there : bytes_at stored (command_list_address port + 32 * slot) 32 ≡ header
  header_there = ap (bytes_at stored (command_list_address port + 32 * slot)) (sym heads.size) ∙ laws.memory.reads_back_patch mid.memory (command_list_address port + 32 * slot) header

  pub stored_says : (m : Meaning) (places : List ℕ) → IsTableFor slot command prds m places → SlotDecodesTo new.memory (command_list_address port) port slot m places
  stored_says m places is =
      let x = table_says laws.memory stored (command_list_address port) slot (command_table_address port slot) prds table header few size table_there header_there writes command direction fis each heads m places is in
      laws.kept_tables_keep_meaning uses (record mid { memory = stored }) new
      (store_left laws port slot below small (command_list_address port + 32 * slot) header mid new in_header second mid_on uses free mid_agrees)
      port slot m places below small
      (record { decodes_to = x.0; table_is = x.1; prds_are_few = let same = x.2 in rw same few })

-- ---- a block behind them

-- the block is no byte of a table or of a header
block_misses : (port at n : ℕ) → at ≡ scratch_frame_address port → MissesTableAndHeaderButPrdbc port 0 at n
block_misses port at n is place (inl header) from to = let h = header.1 in omega (arith, is, h, from)
block_misses port at n is place (inr (inl header)) from to = let h = header.1 in omega (arith, is, h, from)
block_misses port at n is place (inr (inr table)) from to = let t = table.1 in omega (arith, is, t, from)

may_store_block : (uses : SlotStates) (port at : ℕ) (block : List ℕ) → port < 4 → at ≡ scratch_frame_address port → length block ≡ 512 → IsSlotStateFree port 0 uses → IsInMemoryOfFreeSlot uses at (length block)
may_store_block uses port at block below is size free = inr (record { port = port; below = below; free = free; begins_in_scratch = omega (arith, is); ends_in_scratch = omega (arith, is, size) })

pub block_free : Laws → (uses : SlotStates) (d : Device) (port at : ℕ) (block : List ℕ) → SomeMachineAgrees uses d → DRIVER_BYTES ≤ d.memory_size → port < 4 → at ≡ scratch_frame_address port → length block ≡ 512 → IsSlotStateFree port 0 uses →
    IsStable (IsInMemoryNotOwnedByDevice at (length block)) d
block_free laws uses d port at block a room below is size free =
    laws.device_owns_no_storable_bytes uses a.machine d a.reached a.driver_relation.state_relation at (length block) (omega (arith, room, below, is, size)) (may_store_block uses port at block below is size free)

module _ (laws : Laws) (port at : ℕ) (below : port < 4) (is : at ≡ scratch_frame_address port) (block : List ℕ) (size : length block ≡ 512) (old new : Device) (call : Stores at block old new) where
  pub block_followed : IsSimulated (IsHeaderTableOrBlockStore port 0) (IsSlotStateFree port 0) old new
  block_followed =
      laws.fragments.stores (TablesAndBlock port) at block old new (inr (refl, is, size)) (λ uses free. may_store_block uses port at block below is size free) call

  pub block_on : IsOn old → IsOn new
  block_on on = laws.access_keeps_on (Storing at block) old new on (λ v e. absurd cc) call

  pub block_there : bytes_at new.memory (scratch_frame_address port) 512 ≡ block
  block_there =
      ap (λ (place : ℕ). bytes_at new.memory place 512) (sym is)
      ∙ (ap (bytes_at new.memory at) (sym size) ∙ (ap (λ (d : Device). bytes_at d.memory at (length block)) call.effect ∙ laws.memory.reads_back_patch call.at_access.memory at block))

  pub block_told : (uses : SlotStates) → SomeMachineAgrees uses old → IsOn old → (m : Meaning) (places : List ℕ) → SlotDecodesTo old.memory (command_list_address port) port 0 m places → SlotDecodesTo new.memory (command_list_address port) port 0 m places
  block_told uses a on m places told =
      laws.store_keeps_other_tables uses at block old new (laws.store_keeps_tables uses a.machine old new a.reached a.driver_relation.state_relation on.no_reset at block call) port 0 m places below (omega arith) (block_misses port at (length block) is) told

-- after header and table, the slot is unused still, and the memory as large
pub table_agrees : Laws → (port : ℕ) (uses : SlotStates) (old mid : Device) → IsSlotStateFree port 0 uses → IsSimulated (IsHeaderOrTableStore port 0) (IsSlotStateFree port 0) old mid → SomeMachineAgrees uses old → SomeMachineAgrees uses mid
table_agrees laws port uses old mid = laws.fragments.some_machine_agrees (Tables port 0) (λ uses. uses) uses old mid

pub table_size : ((old new : Device) → IsDrivenBy AnyAccess old new → SameAdapter old new) → (port : ℕ) (old mid : Device) → IsSimulated (IsHeaderOrTableStore port 0) (IsSlotStateFree port 0) old mid → mid.memory_size ≡ old.memory_size
table_size same port old mid table = (same old mid (record { accesses = table.is_driven.accesses; all_are_done = table.is_driven.all_are_done; accesses_are_of_kind = All-weaker (IsHeaderOrTableStore port 0) AnyAccess (λ access here. tt) table.is_driven.accesses table.is_driven.accesses_are_of_kind })).memory_size

-- header and table, and then a block
pub with_block : Laws → (port : ℕ) (old mid new : Device) → IsSimulated (IsHeaderOrTableStore port 0) (IsSlotStateFree port 0) old mid → IsSimulated (IsHeaderTableOrBlockStore port 0) (IsSlotStateFree port 0) mid new →
    IsSimulated (IsHeaderTableOrBlockStore port 0) (IsSlotStateFree port 0) old new
with_block laws port old mid new table block =
    let wider = laws.fragments.is_of_wider_kind (Tables port 0) (TablesAndBlock port) (λ uses. uses) (λ access here. inl here) (λ uses free. free) old mid table in
    (laws.fragments.fragments_join (TablesAndBlock port) (TablesAndBlock port) (λ uses. uses) (λ uses. uses) (λ access here. here) (λ uses free. free) old mid new wider.is_simulated block).is_simulated

-- the table of a command that moves one block, to or from the port's scratch frame
pub table_for_block : (prd : Prd) (port slot : ℕ) (command : Command) (m : Meaning) → prd ≡ record { address = scratch_frame_address port; bytes = 512 } → IsValidMeaning m → command ≡ command_of m.operation slot m.first m.count →
    transfer_sector_count m.operation m.count ≡ 1 → IsTableFor slot command (prd ∷ []) m (scratch_frame_address port ∷ [])
table_for_block prd port slot command m is meaning fields one =
    let whole : Prd = record { address = scratch_frame_address port; bytes = 512 } in
    subst (λ (e : Prd). IsTableFor slot command (e ∷ []) m (scratch_frame_address port ∷ [])) (sym is) (record {
      meaning = meaning;
      fields = fields;
      prds_are_whole_pieces = All-cons IsWholePieces whole [] refl (All-nil IsWholePieces);
      places_are = refl;
      place_count_is = sym one;
    })
