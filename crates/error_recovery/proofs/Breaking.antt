-- The port of the first read, which a fatal error breaks; it is given up by three accesses.
use Rattle.std.proofs.Common.{ℕ, zero, suc, ◌≡◌, ◌≢◌, ◌==◌, ◌++◌, Bool, true, false, List, [], ◌∷◌, inl, refl, sym, ◌∙◌, ap, subst, arith}
use Rattle.std.proofs.lemmas.Bool.{false≢true}
use Rattle.std.proofs.lemmas.List.Elements.{All-nil}
use Rattle.std.proofs.lemmas.Nat.Bits.{bit_at-suc}
use Rattle.ata_types.specs.declared.Port.{Port}
use Rattle.hba_regs.specs.Bits.{bit}
use Rattle.hba_regs.specs.declared.reg.PortReg.TheVariants.{Cmd, Ssts}
use Rattle.hba_regs.specs.declared.reg.Reg.TheVariants.{Px}
use Rattle.adapter.specs.Access.{Access, Reads, Writes, device_after_reading, device_after_write}
use Rattle.adapter.specs.Access.Access.{Reading, Writing}
use Rattle.adapter.specs.Device.{Device}
use Rattle.adapter.specs.FirstRead.{first_read_device}
use Rattle.adapter.specs.Memory.{changed}
use Rattle.adapter.specs.Rules.{HasPort, IsOn, MayWrite, IsStable}
use Rattle.adapter.specs.Steps.{device_after}
use Rattle.adapter.specs.Steps.DeviceTransition.{Fatal, Fall}
use Rattle.refinement.specs.Relation.{port_at}
use Rattle.refinement.specs.Fragments.{AnySlotStates, SomeMachineAgrees, ReadsPortOrWrites, IsSimulatedAlong}
use Rattle.refinement.specs.Driver.{StAndFreBitsMayBeWritten, KeepsOtherCmdBits}
use Rattle.refinement.specs.PreservedParts.{DoesNotWrite}
use Rattle.refinement.specs.Slots.{Free, Serves, SlotState, SlotStates, set_slot_state}
use Rattle.refinement.specs.ReadWitness.{FirstReadWitness, first_id, first_slot_states}
use Rattle.port_control.specs.Engines.{Stops}
use Rattle.port_control.specs.Ports.{PortStops, IsStopped, IsCommandRegister}
use Rattle.error_recovery.specs.Evidence.{ShowsFatal}
use Rattle.error_recovery.specs.Laws.{Laws, AccessPurpose}
use Rattle.error_recovery.specs.Laws.SlotCondition.{AnyUses}
use Rattle.error_recovery.specs.Laws.RegisterSet.{CommandRegister}
use Rattle.error_recovery.specs.Laws.AccessPurpose.{Controlling}
use Rattle.error_recovery.specs.Witness.{StopWitness}
use Rattle.error_recovery.proofs.GivingUp.{gives_up_stopped}
use Rattle.error_recovery.proofs.Stretching.{told_both}

-- ---- the way of the device

abbrev broken : Device
broken = device_after (Fatal 0 27) first_read_device

abbrev seen : Device
seen = device_after_reading (Px (port_at 0) Ssts) 3 broken

abbrev commanded : Device
commanded = device_after_reading (Px (port_at 0) Cmd) 0xc011 seen

abbrev stopping : Device
stopping = device_after_write (Px (port_at 0) Cmd) 0xc010 commanded

abbrev fallen : Device
fallen = device_after (Fall 0) stopping

abbrev stopped : Device
stopped = device_after_reading (Px (port_at 0) Cmd) 0x4010 fallen

sees : Reads (Px (port_at 0) Ssts) 3 first_read_device seen
unfolding changed
sees = record { at_access = broken; steps = record { steps = Fatal 0 27 ∷ []; lead = ((refl, inl refl), refl) }; shows = refl; effect = refl }

finds : Reads (Px (port_at 0) Cmd) 0xc011 seen commanded
unfolding changed
finds = record { at_access = seen; steps = record { steps = []; lead = refl }; shows = (refl, refl, refl, refl); effect = refl }

stops : Writes (Px (port_at 0) Cmd) 0xc010 commanded stopping
stops = record { at_access = commanded; steps = record { steps = []; lead = refl }; effect = refl }

falls : Reads (Px (port_at 0) Cmd) 0x4010 stopping stopped
unfolding changed
falls = record { at_access = fallen; steps = record { steps = Fall 0 ∷ []; lead = ((refl, refl), refl) }; shows = (refl, refl, refl, refl); effect = refl }

is_on : IsOn commanded
is_on = record { ae_is_set = refl; no_reset = refl }

-- ---- what is written

-- but for bit 0 it is as it was read
as_read : (place : ℕ) → place ≢ 0 → bit 0xc010 place ≡ bit 0xc011 place
as_read zero ne = absurd (ne refl)
as_read (suc k) ne = ap (λ (b : ℕ). b == 1) (bit_at-suc 0xc010 k ∙ sym (bit_at-suc 0xc011 k))

written_back : KeepsOtherCmdBits false true 0xc011 0xc010
written_back = record { start = refl; receive = refl; others = λ place low start receive. as_read place start }

leaves : (uses : SlotStates) → StAndFreBitsMayBeWritten uses 0 0xc010 (commanded.port 0)
unfolding changed
leaves uses = record { start = λ set. absurd (false≢true set); receive = λ set. (omega arith, refl) }

noted_so : ((commanded.port 0).notes.last_cmd ≡ 0xc011) × ((commanded.port 0).fre ≡ true)
unfolding changed
noted_so = (refl, refl)

stands : IsStopped (stopped.port 0)
unfolding changed
stands = record { engine_is_stopped = record { st_is_clear = refl; cr_is_clear = refl; no_command_is_issued = λ slot. refl; no_command_is_taken = λ slot. refl }; sact_is_clear = λ slot. refl }

errs : ShowsFatal (seen.port 0)
unfolding changed
errs = record { place = 27; from = omega arith; to = omega arith; cause_is_set = refl }

is_broken : (seen.port 0).broken ≡ true
unfolding changed
is_broken = refl

-- ---- it is given up

abbrev stop_list : List Access
stop_list = Reading (Px (port_at 0) Cmd) 0xc011 ∷ Writing (Px (port_at 0) Cmd) 0xc010 ∷ []

module _ (laws : Laws)
    (permits : (port : Port) (was v : ℕ) (d : Device) → IsOn d → HasPort d port.0 → (d.port port.0).notes.last_cmd ≡ was → KeepsOtherCmdBits false (d.port port.0).fre was v → IsStable (MayWrite (Px port Cmd) v) d)
  where
    may_stop : IsStable (MayWrite (Px (port_at 0) Cmd) 0xc010) commanded
    may_stop = permits (port_at 0) 0xc011 0xc010 commanded is_on (omega arith, refl) noted_so.0 (subst (λ (fre : Bool). KeepsOtherCmdBits false fre 0xc011 0xc010) (sym noted_so.1) written_back)

    abbrev Commands : List Access → Device → Device → Type 0
    Commands accesses old new = IsSimulatedAlong (λ made. made ≡ accesses) (ReadsPortOrWrites IsCommandRegister (port_at 0)) AnySlotStates old new

    abbrev kind : AccessPurpose
    kind = Controlling CommandRegister AnyUses (port_at 0)

    found : Commands (Reading (Px (port_at 0) Cmd) 0xc011 ∷ []) seen commanded
    found = laws.fragments.reads kind (Px (port_at 0) Cmd) 0xc011 seen commanded refl finds

    cleared : Commands (Writing (Px (port_at 0) Cmd) 0xc010 ∷ []) commanded stopping
    cleared = laws.fragments.writes kind (Px (port_at 0) Cmd) 0xc010 commanded stopping (refl, refl) may_stop (λ uses fits. leaves uses) stops

    fell : Commands (Reading (Px (port_at 0) Cmd) 0x4010 ∷ []) stopping stopped
    fell = laws.fragments.reads kind (Px (port_at 0) Cmd) 0x4010 stopping stopped refl falls

    began : Commands stop_list seen stopping
    began = told_both laws (λ made. made ≡ Reading (Px (port_at 0) Cmd) 0xc011 ∷ []) (λ made. made ≡ Writing (Px (port_at 0) Cmd) 0xc010 ∷ []) (λ made. made ≡ stop_list)
        (λ early late a b. ap (λ (xs : List Access). xs ++ late) a ∙ ap (λ (xs : List Access). Reading (Px (port_at 0) Cmd) 0xc011 ∷ xs) b)
        kind kind (λ uses. uses) (λ uses. uses) (λ access is. is) (λ uses fits. fits) seen commanded stopping found cleared

    tells_stop : (early late : List Access) → early ≡ stop_list → late ≡ Reading (Px (port_at 0) Cmd) 0x4010 ∷ [] → Stops (port_at 0) (early ++ late)
    tells_stop early late a b = record {
      before = Reading (Px (port_at 0) Cmd) 0xc011 ∷ [];
      written_cmd = 0xc010;
      between = [];
      read_cmd = 0x4010;
      later = [];
      accesses_are = ap (λ (xs : List Access). xs ++ late) a ∙ ap (λ (xs : List Access). stop_list ++ xs) b;
      start_is_cleared = refl;
      cmd_is_unwritten = All-nil (DoesNotWrite (Px (port_at 0) Cmd));
      stop_is_shown = refl;
    }

    halts : PortStops (port_at 0) seen stopped
    halts = record {
      is_simulated = told_both laws (λ made. made ≡ stop_list) (λ made. made ≡ Reading (Px (port_at 0) Cmd) 0x4010 ∷ []) (Stops (port_at 0)) tells_stop
          kind kind (λ uses. uses) (λ uses. uses) (λ access is. is) (λ uses fits. fits) seen stopping stopped began fell;
      stopped = stands;
    }

    agreed : SomeMachineAgrees first_slot_states first_read_device → SomeMachineAgrees first_slot_states seen
    agreed a = laws.fragments.some_machine_agrees kind (λ uses. uses) first_slot_states first_read_device seen tt (laws.fragments.reads kind (Px (port_at 0) Ssts) 3 first_read_device seen refl sees).is_simulated a

    pub may_be_given_up : ((uses : SlotStates) (port slot : ℕ) (u : SlotState) → set_slot_state uses port slot u port slot ≡ u) → FirstReadWitness → StopWitness
    may_be_given_up here k = record {
      device = seen;
      adapter_is_on = record { ae_is_set = refl; no_reset = refl };
      has_port = (omega arith, refl);
      machine_is_related = (first_slot_states, tt, agreed (record { machine = k.machine; parked = λ port. []; reached = k.reached; driver_relation = k.driver_relation }));
      shows_fatal_error = errs;
      broken = is_broken;
      serves = (first_id, here (λ port at. Free) 0 0 (Serves first_id));
      outstanding = 1;
      is_outstanding = refl;
      stopped = stopped;
      token = record { port = port_at 0 };
      stops_for_reset = λ queued. gives_up_stopped laws (port_at 0) 1 queued seen stopped (record { ae_is_set = refl; no_reset = refl }) (record { port = port_at 0 }) refl halts;
    }
