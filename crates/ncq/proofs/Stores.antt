-- What stores for commands leave, and how they compose.
use Rattle.std.proofs.Common.{ℕ, ◌≡◌, ◌≢◌, ◌+◌, ◌<◌, ◌++◌, List, [], ◌∷◌, inl, inr, refl, sym, ◌∙◌, ap, subst, arith}
use Rattle.std.proofs.lemmas.List.Elements.{All-append, All-nil}
use Rattle.ata_types.specs.declared.Port.{Port}
use Rattle.ata_types.specs.declared.request.Op.{Op}
use Rattle.ata_types.specs.declared.request.Op.TheVariants.{Read, Write, Trim, Flush}
use Rattle.hba_regs.specs.Bits.{bit}
use Rattle.hba_regs.specs.declared.reg.Reg.{Reg}
use Rattle.adapter.specs.Access.{Access, DoesAll}
use Rattle.adapter.specs.Access.Access.{Reading, Writing, Loading, Storing}
use Rattle.adapter.specs.Commands.{Meaning}
use Rattle.adapter.specs.Device.{Bases, Device}
use Rattle.adapter.specs.Rules.{IsOn, HasPort}
use Rattle.block_machine.specs.Events.{AllByDevice}
use Rattle.block_machine.specs.Histories.{IsReachable}
use Rattle.block_machine.specs.Expected.{after}
use Rattle.block_machine.specs.State.{Machine}
use Rattle.block_machine.specs.Steps.{Step}
use Rattle.refinement.specs.Acts.{Act, AreActsDone, driver_state_of_slots, accesses_of, newest_first_steps_of_acts}
use Rattle.refinement.specs.Fragments.{AnyAccess, IsDrivenBy, IsSimulated, OnlyDeviceChangesPort, AccessesNoOtherPort}
use Rattle.refinement.specs.Driver.{DriverAdvances, DriverRelation, DriverState}
use Rattle.refinement.specs.PreservedParts.{SameAdapter, DoesNotWrite}
use Rattle.refinement.specs.MemoryLayout.{command_list_address}
use Rattle.refinement.specs.ReadySlots.{IsStoredOnPortWithStSet}
use Rattle.refinement.specs.Slots.{SlotDecodesTo, SlotStates}
use Rattle.command_table.specs.TableStores.{IsHeaderTableOrBlockStore, IsHeaderOrTableStore}
use Rattle.ncq.specs.Batches.{IsStoreForBatch, PlacedTask}
use Rattle.ncq.specs.Tasks.{IsStoreFor, RunsItsList}
use Rattle.ncq.proofs.Batch.{all_as}

-- ---- stores

-- it stores, whatever and wherever
abbrev pub IsStoring : Access → Type 0
IsStoring (Storing at bytes) = Unit {0}
IsStoring access = ⊥

with_block_stores : (port slot : ℕ) (access : Access) → IsHeaderTableOrBlockStore port slot access → IsStoring access
with_block_stores port slot (Storing place bytes) here = tt
with_block_stores port slot (Loading place bytes) here = elim here [ inl x ↦ x | inr x ↦ x ]
with_block_stores port slot (Reading q v) here = elim here [ inl x ↦ x | inr x ↦ x ]
with_block_stores port slot (Writing q v) here = elim here [ inl x ↦ x | inr x ↦ x ]

-- what is stored for a task is header and table, or a block
pub store_for : (op : Op) (port slot : ℕ) (access : Access) → IsStoreFor op port slot access → IsHeaderTableOrBlockStore port slot access
store_for Trim port slot access here = here
store_for Read port slot access here = inl here
store_for Write port slot access here = inl here
store_for Flush port slot access here = inl here

pub batch_stores : (port : ℕ) (tasks : List PlacedTask) (access : Access) → IsStoreForBatch port tasks access → IsStoring access
batch_stores port tasks access here = with_block_stores port here.0.slot access (store_for here.0.task.op port here.0.slot access here.2)

pub table_stores : (port slot : ℕ) (access : Access) → IsHeaderOrTableStore port slot access → IsStoring access
table_stores port slot (Storing place bytes) here = tt
table_stores port slot (Loading place bytes) here = here
table_stores port slot (Reading q v) here = here
table_stores port slot (Writing q v) here = here

storing_spares : (port : Port) (access : Access) → IsStoring access → AccessesNoOtherPort port access
storing_spares port (Storing place bytes) here = tt
storing_spares port (Loading place bytes) here = tt
storing_spares port (Reading q v) here = absurd here
storing_spares port (Writing q v) here = absurd here

pub storing_writes_none : (r : Reg) (access : Access) → IsStoring access → DoesNotWrite r access
storing_writes_none r (Storing place bytes) here = tt
storing_writes_none r (Loading place bytes) here = tt
storing_writes_none r (Reading q v) here = tt
storing_writes_none r (Writing q v) here = absurd here

-- ---- what they leave

-- what laws say: accesses of another port leave the port to the device, and any leave the adapter what it is
pub record Leaving : Type 0 where
  pub left : (port : Port) (q : ℕ) (old new : Device) → q ≢ port.0 → IsOn old → IsDrivenBy (AccessesNoOtherPort port) old new → OnlyDeviceChangesPort (old.port q) (new.port q)
  pub on : (port : Port) (old new : Device) → IsOn old → IsDrivenBy (AccessesNoOtherPort port) old new → IsOn new
  pub adapter : (old new : Device) → IsDrivenBy AnyAccess old new → SameAdapter old new

module _ (laws : Leaving) (port : Port) (May : Access → Type 0) (stores : (access : Access) → May access → IsStoring access) (old mid : Device) (driven : IsDrivenBy May old mid) where
  as_kind : (Kind : Access → Type 0) → ((access : Access) → IsStoring access → Kind access) → IsDrivenBy Kind old mid
  as_kind Kind more = record {
    accesses = driven.accesses;
    all_are_done = driven.all_are_done;
    accesses_are_of_kind = all_as May Kind (λ access is. more access (stores access is)) driven.accesses driven.accesses_are_of_kind;
  }

  -- no store is of a register, so the port is left as by accesses of another one
  stores_left : IsOn old → OnlyDeviceChangesPort (old.port port.0) (mid.port port.0)
  stores_left on =
      let q : Port = record { 0 = port.0 + 1 } in
      laws.left q port.0 old mid (λ (e : port.0 ≡ port.0 + 1). omega (arith, e)) on (as_kind (AccessesNoOtherPort q) (storing_spares q))

  pub stores_on : IsOn old → IsOn mid
  stores_on on = laws.on port old mid on (as_kind (AccessesNoOtherPort port) (storing_spares port))

  pub stores_same : SameAdapter old mid
  stores_same = laws.adapter old mid (as_kind AnyAccess (λ access is. tt))

  pub stores_there : HasPort old port.0 → HasPort mid port.0
  stores_there there = (there.0, ap (λ (pi : ℕ). bit pi port.0) stores_same.pi ∙ there.1)

  pub stores_may : IsOn old → RunsItsList port.0 old → RunsItsList port.0 mid
  stores_may on may = record {
    st_is_set = (stores_left on).controls.st_is_kept ∙ may.st_is_set;
    list_is_in_place = ap (λ (x : Bases). x.clb) (stores_left on).bits_only_fall.bases_are_kept ∙ may.list_is_in_place;
  }

pub stored_in : (port : Port) (slot : ℕ) (c : Meaning) (places : List ℕ) (d : Device) → HasPort d port.0 → slot < 32 → RunsItsList port.0 d → SlotDecodesTo d.memory (command_list_address port.0) port.0 slot c places → IsStoredOnPortWithStSet d port.0 slot c places
stored_in port slot c places d there small may told = record {
  st_is_set = may.st_is_set;
  list_is_in_place = record { port_below = there.0; slot_below = small; list = may.list_is_in_place };
  slot_decodes_to = subst (λ (list : ℕ). SlotDecodesTo d.memory list port.0 slot c places) (sym may.list_is_in_place) told;
}

-- ---- one fragment after another

-- what laws say of acts
pub record ActLaws : Type 0 where
  pub goes : (acts : List Act) (k later : DriverState) (m : Machine) → DriverRelation m k → AreActsDone acts k m later → DriverAdvances k m (newest_first_steps_of_acts acts) later
  pub reached : (k later : DriverState) (m : Machine) (steps : List Step) → IsReachable m → DriverAdvances k m steps later → IsReachable (after m steps)
  pub more : (early late : List Act) (a b c : DriverState) (m : Machine) → AreActsDone early a m b → AreActsDone late b (after m (newest_first_steps_of_acts early)) c → AreActsDone (early ++ late) a m c
  pub accesses : (early late : List Act) → accesses_of (early ++ late) ≡ accesses_of early ++ accesses_of late
  pub steps : (early late : List Act) → newest_first_steps_of_acts (early ++ late) ≡ newest_first_steps_of_acts late ++ newest_first_steps_of_acts early
  pub device : (late early : List Step) → AllByDevice late → AllByDevice early → AllByDevice (late ++ early)

pub does_then : (first then : List Access) (old mid new : Device) → DoesAll first old mid → DoesAll then mid new → DoesAll (first ++ then) old new
does_then [] then old mid new e rest = let P : Device → Type 0 = λ d. DoesAll then d new in subst P e rest
does_then (access ∷ accesses) then old mid new (one, does, more) rest = (one, does, does_then accesses then one mid new more rest)

-- no access is made
pub simulated_none : (May : Access → Type 0) (Fits : SlotStates → Type 0) (d : Device) → IsSimulated May Fits d d
simulated_none May Fits d = record {
  is_driven = record { accesses = []; all_are_done = refl; accesses_are_of_kind = All-nil May };
  acts_reach = λ s m reached knows fits. record {
    acts = [];
    acts_are_done = refl;
    accesses_match_acts = refl;
    acts_are_such = record { all_steps_are_by_device = tt; unwritten_ports_keep_slots = λ q issues arms. All-nil (λ (act : Act). act.state_after.slot_states q.0 ≡ s.slot_states q.0) };
  };
}

-- more accesses are of this kind, or fewer uses fit
pub simulated_as : (May More : Access → Type 0) (Fits Fewer : SlotStates → Type 0) (old new : Device) → ((access : Access) → May access → More access) → ((uses : SlotStates) → Fewer uses → Fits uses) → IsSimulated May Fits old new →
    IsSimulated More Fewer old new
simulated_as May More Fits Fewer old new more fewer x = record {
  is_driven = record { accesses = x.is_driven.accesses; all_are_done = x.is_driven.all_are_done; accesses_are_of_kind = all_as May More more x.is_driven.accesses x.is_driven.accesses_are_of_kind };
  acts_reach = λ s m reached knows fits.
      let y = x.acts_reach s m reached knows (fewer s.slot_states fits) in
      record {
        acts = y.acts;
        acts_are_done = y.acts_are_done;
        accesses_match_acts = y.accesses_match_acts;
        acts_are_such = record { all_steps_are_by_device = y.acts_are_such.all_steps_are_by_device; unwritten_ports_keep_slots = λ q issues arms. y.acts_are_such.unwritten_ports_keep_slots q (λ access is. issues access (more access is)) (λ access is. arms access (more access is)) };
      };
}

pub simulated_then : ActLaws → (May : Access → Type 0) (Fits : SlotStates → Type 0) (old mid new : Device) → IsSimulated May Fits old mid → IsSimulated May Fits mid new → IsSimulated May Fits old new
simulated_then laws May Fits old mid new a b = record {
  is_driven = record {
    accesses = a.is_driven.accesses ++ b.is_driven.accesses;
    all_are_done = does_then a.is_driven.accesses b.is_driven.accesses old mid new a.is_driven.all_are_done b.is_driven.all_are_done;
    accesses_are_of_kind = All-append May a.is_driven.accesses b.is_driven.accesses a.is_driven.accesses_are_of_kind b.is_driven.accesses_are_of_kind;
  };
  acts_reach = λ s m reached knows fits.
      let x = a.acts_reach s m reached knows fits in
      let g = laws.goes x.acts (driver_state_of_slots s old) (driver_state_of_slots s mid) m knows x.acts_are_done in
      let y = b.acts_reach s (after m (newest_first_steps_of_acts x.acts)) (laws.reached (driver_state_of_slots s old) (driver_state_of_slots s mid) m (newest_first_steps_of_acts x.acts) reached g) g.driver_relation fits in
      record {
        acts = x.acts ++ y.acts;
        acts_are_done = laws.more x.acts y.acts (driver_state_of_slots s old) (driver_state_of_slots s mid) (driver_state_of_slots s new) m x.acts_are_done y.acts_are_done;
        accesses_match_acts = laws.accesses x.acts y.acts
            ∙ (ap (λ (early : List Access). early ++ accesses_of y.acts) x.accesses_match_acts ∙ ap (λ (late : List Access). a.is_driven.accesses ++ late) y.accesses_match_acts);
        acts_are_such = record {
          all_steps_are_by_device = subst AllByDevice (sym (laws.steps x.acts y.acts)) (laws.device (newest_first_steps_of_acts y.acts) (newest_first_steps_of_acts x.acts) y.acts_are_such.all_steps_are_by_device x.acts_are_such.all_steps_are_by_device);
          unwritten_ports_keep_slots = λ q issues arms. All-append (λ (act : Act). act.state_after.slot_states q.0 ≡ s.slot_states q.0) x.acts y.acts (x.acts_are_such.unwritten_ports_keep_slots q issues arms) (y.acts_are_such.unwritten_ports_keep_slots q issues arms);
        };
      };
}
