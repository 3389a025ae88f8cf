-- A batch grows by a transfer that is prepared.
use Rattle.std.proofs.Common.{ℕ, ◌≡◌, ◌≢◌, ◌<◌, ◌≤◌, ◌/◌, ◌%◌, ◌++◌, true, List, [], ◌∷◌, length, inl, inr, sym, ◌∙◌, subst, ⊎_elim, arith}
use Rattle.std.proofs.lemmas.List.{get_or_default}
use Rattle.std.proofs.lemmas.List.Elements.{All-contains, All-nil, All-push, Contains-append_left, Contains-append_right}
use Rattle.std.proofs.lemmas.List.Quantifiers.{all_pairs_push}
use Rattle.std.specs.List.{All, Contains}
use Rattle.ata_types.specs.declared.Port.{Port}
use Rattle.ata_types.specs.declared.memory.TheConstants.{DRIVER_BYTES}
use Rattle.ata_types.specs.declared.request.Op.{Op}
use Rattle.adapter.specs.Access.{Access}
use Rattle.adapter.specs.Access.Access.{Reading, Writing, Loading, Storing}
use Rattle.adapter.specs.Commands.{Meaning}
use Rattle.adapter.specs.Device.{Device}
use Rattle.adapter.specs.Rules.{IsOn, HasPort}
use Rattle.block_machine.specs.Histories.{IsReachable}
use Rattle.block_machine.specs.Expected.{after}
use Rattle.block_machine.specs.State.{Machine}
use Rattle.refinement.specs.Acts.{Act, ActsReach, AreActsDone, DriverSlots, accesses_of, newest_first_steps_of_acts, driver_state_of_slots}
use Rattle.refinement.specs.Fragments.{AreByDeviceAndKeepUnwrittenSlots, SomeMachineAgreesWith}
use Rattle.refinement.specs.Driver.{DriverAdvances, DriverRelation, DriverState, IsInMemoryOfFreeSlot, MissesTableAndHeaderButPrdbc}
use Rattle.refinement.specs.PreservedParts.{SameAdapter}
use Rattle.refinement.specs.ReadySlots.{IsStoredOnPortWithStSet, KeepsStoredCommand}
use Rattle.refinement.specs.Slots.{Free, Armed, SlotDecodesTo, SlotStates, set_slot_state}
use Rattle.command_table.specs.TableStores.{FillsHeaderWithPrdbcZero, IsInTable, IsHeaderOrTableStore, IsSlotStateFree}
use Rattle.ncq.specs.Batches.{BatchSlotsAreUnused, IsBatchStored, IsSlotOf, IsStoreForBatch, MemoryEncodesTask, PlacedTask, StoresTransfer}
use Rattle.ncq.specs.Issuing.{MayIssueTransfer}
use Rattle.ncq.specs.Tasks.{IsFitTransfer, IsStoreFor, IsReadOrWrite, RunsItsList, task_places, meaning_of}
use Rattle.ncq.proofs.Batch.{PutsHere, PutsNoOther, all_as, all_in, contains_here}
use Rattle.ncq.proofs.Stores.{ActLaws, IsStoring, Leaving, batch_stores, simulated_as, simulated_none, simulated_then, stored_in, stores_may, stores_on, stores_same, stores_there, table_stores}
use Rattle.ncq.proofs.Telling.{no_block, of_transfer}

-- what laws of the crates below say
pub record Laws : Type 0 where
  pub leaving : Leaving
  pub acts : ActLaws
  pub stays : (port : Port) (slot : ℕ) (c : Meaning) (places : List ℕ) (acts : List Act) (k later : DriverState) (m : Machine) → IsReachable m → DriverRelation m k → AreActsDone acts k m later
      → All (KeepsStoredCommand port slot) (accesses_of acts) → IsOn k.device → IsStoredOnPortWithStSet k.device port.0 slot c places → IsStoredOnPortWithStSet later.device port.0 slot c places
  pub misses : (uses : SlotStates) (port slot at n : ℕ) → uses port slot ≢ Free → port < 4 → slot < 32 → IsInMemoryOfFreeSlot uses at n → MissesTableAndHeaderButPrdbc port slot at n
  pub put_here : PutsHere
  pub put_others : PutsNoOther

pub none_stored : (port : Port) (d : Device) → IsOn d → HasPort d port.0 → DRIVER_BYTES ≤ d.memory_size → RunsItsList port.0 d → SomeMachineAgreesWith (BatchSlotsAreUnused port.0 []) d → IsBatchStored port [] d d
none_stored port d on there room may agreed = record {
  adapter_is_on = on;
  has_port = there;
  driver_memory_fits = room;
  list_runs = may;
  machine_is_related = agreed;
  slots_are_apart = λ i j x less small. absurd (omega (arith, small));
  slots_in_range = All-nil (λ (t : PlacedTask). t.slot < 32);
  slots_are_usable = All-nil (λ (t : PlacedTask). t.slot ≤ d.cap / 256 % 32);
  transfers_fit = All-nil (λ (t : PlacedTask). IsFitTransfer t.task t.frames);
  all_are_queued = All-nil (λ (t : PlacedTask). t.task.queued ≡ true);
  stores = simulated_none (IsStoreForBatch port.0 []) (BatchSlotsAreUnused port.0 []) d;
  slots_say_tasks = All-nil (λ (t : PlacedTask). MemoryEncodesTask port.0 t d.memory);
}

-- what is stored for one slot misses header and table of another
module _ (laws : Laws) (port : Port) (slot other : ℕ) (low : port.0 < 4) (small : slot < 32) (other_small : other < 32) (apart : other ≢ slot) where
  -- the other one is used
  abbrev uses : SlotStates
  uses = set_slot_state (λ p k. Free) port.0 other Armed

  table_misses : (at : ℕ) (bytes : List ℕ) → IsHeaderOrTableStore port.0 slot (Storing at bytes) → MissesTableAndHeaderButPrdbc port.0 other at (length bytes)
  table_misses at bytes here =
      laws.misses uses port.0 other at (length bytes) (λ e. let z : Armed ≡ Free = sym (laws.put_here (λ p k. Free) port.0 other Armed) ∙ e in cc) low other_small (inl (record {
        port = port.0;
        slot = slot;
        port_is_below_4 = low;
        slot_below = small;
        free = laws.put_others (λ p k. Free) port.0 other Armed port.0 slot (λ _ e. apart (sym e));
        is_in_header_or_table = ⊎_elim
            (λ (h : FillsHeaderWithPrdbcZero port.0 slot at bytes). let e = h.0 in let n = h.1 in inl (omega (arith, e), omega (arith, e, n)))
            (λ (t : IsInTable port.0 slot at bytes). inr t)
            here;
      }))

  table_leaves : (access : Access) → IsHeaderOrTableStore port.0 slot access → KeepsStoredCommand port other access
  table_leaves (Storing place bytes) here = record {
    ghc_is_not_written = tt;
    st_is_not_cleared = λ v e. absurd cc;
    clb_is_not_written = tt;
    table_is_not_stored_to = λ at some e.
        let z : IsHeaderOrTableStore port.0 slot (Storing at some) = subst (IsHeaderOrTableStore port.0 slot) e here in
        table_misses at some z;
  }
  table_leaves (Loading place bytes) here = absurd here
  table_leaves (Reading q v) here = absurd here
  table_leaves (Writing q v) here = absurd here

store_of_table : (port slot : ℕ) (access : Access) (op : Op) → IsReadOrWrite op → IsHeaderOrTableStore port slot access → IsStoreFor op port slot access
store_of_table port slot access op is here = of_transfer (λ o. IsStoreFor o port slot access) here here op is

module _ (laws : Laws) (port : Port) (tasks : List PlacedTask) (t : PlacedTask) (start mid : Device) (b : IsBatchStored port tasks start mid) (agreed : SomeMachineAgreesWith (BatchSlotsAreUnused port.0 (tasks ++ t ∷ [])) start)
    (apart : IsSlotOf tasks t.slot → ⊥) (small : t.slot < 32) (usable : t.slot ≤ start.cap / 256 % 32) (fit : IsFitTransfer t.task t.frames) (queued : t.task.queued ≡ true) where
  abbrev both : List PlacedTask
  both = tasks ++ t ∷ []

  kinds : (access : Access) → IsStoreForBatch port.0 tasks access → IsStoring access
  kinds = batch_stores port.0 tasks

  mid_on : IsOn mid
  mid_on = stores_on laws.leaving port (IsStoreForBatch port.0 tasks) kinds start mid b.stores.is_driven b.adapter_is_on

  mid_may : RunsItsList port.0 mid
  mid_may = stores_may laws.leaving port (IsStoreForBatch port.0 tasks) kinds start mid b.stores.is_driven b.adapter_is_on b.list_runs

  mid_there : HasPort mid port.0
  mid_there = stores_there laws.leaving port (IsStoreForBatch port.0 tasks) kinds start mid b.stores.is_driven b.has_port

  mid_same : SameAdapter start mid
  mid_same = stores_same laws.leaving port (IsStoreForBatch port.0 tasks) kinds start mid b.stores.is_driven

  fewer : (uses : SlotStates) → BatchSlotsAreUnused port.0 both uses → BatchSlotsAreUnused port.0 tasks uses
  fewer uses free = all_in (λ x. uses port.0 x.slot ≡ Free) tasks (λ x is. All-contains (λ y. uses port.0 y.slot ≡ Free) both x free (Contains-append_left tasks (t ∷ []) x is))

  its : (uses : SlotStates) → BatchSlotsAreUnused port.0 both uses → uses port.0 t.slot ≡ Free
  its uses free = All-contains (λ y. uses port.0 y.slot ≡ Free) both t free (Contains-append_right tasks (t ∷ []) t (contains_here t []))

  -- a machine agrees still
  s : DriverSlots
  s = record { slot_states = agreed.0; awaiting_disposition = agreed.2.parked }

  x : ActsReach b.stores.is_driven.accesses (driver_state_of_slots s start) agreed.2.machine (driver_state_of_slots s mid) (AreByDeviceAndKeepUnwrittenSlots (IsStoreForBatch port.0 tasks) agreed.0)
  unfolding s
  x = b.stores.acts_reach s agreed.2.machine agreed.2.reached agreed.2.driver_relation (fewer agreed.0 agreed.1)

  m : Machine
  m = after agreed.2.machine (newest_first_steps_of_acts x.acts)

  goes : DriverAdvances (driver_state_of_slots s start) agreed.2.machine (newest_first_steps_of_acts x.acts) (driver_state_of_slots s mid)
  unfolding s
  goes = laws.acts.goes x.acts (driver_state_of_slots s start) (driver_state_of_slots s mid) agreed.2.machine agreed.2.driver_relation x.acts_are_done

  m_reached : IsReachable m
  unfolding s m
  m_reached = laws.acts.reached (driver_state_of_slots s start) (driver_state_of_slots s mid) agreed.2.machine (newest_first_steps_of_acts x.acts) agreed.2.reached goes

  pub may_prepare : MayIssueTransfer port t.slot t.task t.frames mid
  unfolding s m
  may_prepare = record {
    may_issue_task = record {
      adapter_is_on = mid_on;
      has_port = mid_there;
      driver_memory_fits = subst (λ (n : ℕ). DRIVER_BYTES ≤ n) (sym mid_same.memory_size) b.driver_memory_fits;
      machine_is_related = (agreed.0, its agreed.0 agreed.1, record { machine = m; parked = agreed.2.parked; reached = m_reached; driver_relation = goes.driver_relation });
      list_runs = mid_may;
    };
    slot_in_range = small;
    slot_is_usable = subst (λ (n : ℕ). t.slot ≤ n / 256 % 32) (sym mid_same.cap) usable;
    transfer_fits = fit;
  }

  module _ (new : Device) (w : StoresTransfer port t mid new) where
    new_may : RunsItsList port.0 new
    new_may = stores_may laws.leaving port (IsHeaderOrTableStore port.0 t.slot) (table_stores port.0 t.slot) mid new w.stores.is_driven mid_on mid_may

    stays : (y : PlacedTask) → Contains tasks y → MemoryEncodesTask port.0 y new.memory
    unfolding s m
    stays y is =
        let says : MemoryEncodesTask port.0 y mid.memory = All-contains (λ z. MemoryEncodesTask port.0 z mid.memory) tasks y b.slots_say_tasks is in
        let its_small : y.slot < 32 = All-contains (λ z. z.slot < 32) tasks y b.slots_in_range is in
        let its_fit : IsFitTransfer y.task y.frames = All-contains (λ z. IsFitTransfer z.task z.frames) tasks y b.transfers_fit is in
        let places : List ℕ = task_places port.0 y.task.op y.task.range.count y.frames in
        let z : ActsReach w.stores.is_driven.accesses (driver_state_of_slots s mid) m (driver_state_of_slots s new) (AreByDeviceAndKeepUnwrittenSlots (IsHeaderOrTableStore port.0 t.slot) s.slot_states) = w.stores.acts_reach s m m_reached goes.driver_relation (its agreed.0 agreed.1) in
        let after_both : IsStoredOnPortWithStSet new port.0 y.slot (meaning_of y.task) places =
        laws.stays port y.slot (meaning_of y.task) places z.acts (driver_state_of_slots s mid) (driver_state_of_slots s new) m m_reached goes.driver_relation z.acts_are_done
        (subst (All (KeepsStoredCommand port y.slot)) (sym z.accesses_match_acts)
        (all_as (IsHeaderOrTableStore port.0 t.slot) (KeepsStoredCommand port y.slot) (table_leaves laws port t.slot y.slot b.has_port.0 small its_small (λ e. apart (y, is, e))) w.stores.is_driven.accesses w.stores.is_driven.accesses_are_of_kind))
        mid_on (stored_in port y.slot (meaning_of y.task) places mid mid_there its_small mid_may says.slot_says_task) in
        record {
          slot_says_task = subst (λ (list : ℕ). SlotDecodesTo new.memory list port.0 y.slot (meaning_of y.task) places) new_may.list_is_in_place after_both.slot_decodes_to;
          block_names_sectors = no_block y.task.range port.0 new.memory y.task.op its_fit.is_transfer;
        }

    pub grows : IsBatchStored port both start new
    grows = record {
      adapter_is_on = b.adapter_is_on;
      has_port = b.has_port;
      driver_memory_fits = b.driver_memory_fits;
      list_runs = b.list_runs;
      machine_is_related = agreed;
      slots_are_apart = all_pairs_push (λ (one other : PlacedTask). one.slot ≡ other.slot → ⊥) tasks t b.slots_are_apart (λ k d below e. apart (_, (k, below, get_or_default tasks k _ d below), e));
      slots_in_range = All-push (λ y. y.slot < 32) tasks t b.slots_in_range small;
      slots_are_usable = All-push (λ y. y.slot ≤ start.cap / 256 % 32) tasks t b.slots_are_usable usable;
      transfers_fit = All-push (λ y. IsFitTransfer y.task y.frames) tasks t b.transfers_fit fit;
      all_are_queued = All-push (λ y. y.task.queued ≡ true) tasks t b.all_are_queued queued;
      stores = simulated_then laws.acts (IsStoreForBatch port.0 both) (BatchSlotsAreUnused port.0 both) start mid new
          (simulated_as (IsStoreForBatch port.0 tasks) (IsStoreForBatch port.0 both) (BatchSlotsAreUnused port.0 tasks) (BatchSlotsAreUnused port.0 both) start mid
          (λ access is. (is.0, Contains-append_left tasks (t ∷ []) is.0 is.1, is.2)) fewer b.stores)
          (simulated_as (IsHeaderOrTableStore port.0 t.slot) (IsStoreForBatch port.0 both) (IsSlotStateFree port.0 t.slot) (BatchSlotsAreUnused port.0 both) mid new
          (λ access is. (t, Contains-append_right tasks (t ∷ []) t (contains_here t []), store_of_table port.0 t.slot access t.task.op fit.is_transfer is)) its w.stores);
      slots_say_tasks = All-push (λ y. MemoryEncodesTask port.0 y new.memory) tasks t (all_in (λ y. MemoryEncodesTask port.0 y new.memory) tasks stays) w.slot_says_task;
    }
