-- The first read's request when it was taken from its slot, and when it is kept.
use Rattle.std.proofs.Common.{ℕ, ◌≡◌, ◌==◌, [], ◌∷◌, refl, sym, ◌∙◌, ap, arith, inl, ⊎_elim}
use Rattle.std.specs.List.{Contains}
use Rattle.std.proofs.lemmas.Nat.Bits.{bit_at-pow_other, bit_at-zero}
use Rattle.ata_types.specs.declared.request.RequestId.{RequestId}
use Rattle.ata_types.specs.declared.request.Outcome.TheVariants.{PortDead}
use Rattle.hba_regs.specs.Bits.{bit}
use Rattle.hba_regs.specs.declared.reg.Reg.TheVariants.{Px}
use Rattle.hba_regs.specs.declared.reg.PortReg.TheVariants.{Cmd}
use Rattle.adapter.specs.Device.{Notes}
use Rattle.adapter.specs.FirstRead.{first_read_device}
use Rattle.adapter.specs.KeptBySteps.{KeepsOverSteps, KeepsOutsideReset}
use Rattle.adapter.specs.Memory.{changed}
use Rattle.adapter.specs.Rules.{MayWrite, IsStable}
use Rattle.adapter.specs.Steps.{Can}
use Rattle.adapter.specs.Steps.DeviceTransition.{Fall}
use Rattle.block_machine.specs.State.{Pending, Machine}
use Rattle.block_machine.specs.Steps.{Answer, after_step, newly_issued}
use Rattle.block_machine.proofs.Members.{contains_here, contains_cases, contains_none}
use Rattle.refinement.specs.StepLaws.{StepLaws}
use Rattle.refinement.specs.Relation.{StateRelation, port_at}
use Rattle.refinement.specs.Driver.{DriverRelation, HasNoSlot, KeepsSlotStates}
use Rattle.refinement.specs.PortFacts.{IsEngineStopped}
use Rattle.refinement.specs.Slots.{Free, Serves, set_slot_state}
use Rattle.refinement.specs.ReadWitness.{first_id, first_slot_states, first_driver_state, PortDeadReadAgreesServedAndParked, stopping_read, stopped_read, parked_driver_state, ParkedReadWitness}
use Rattle.refinement.proofs.driver.OwnSteps.{keeping_knows, park_knows}
use Rattle.refinement.proofs.steps.FollowedSteps.{silent_agrees}
use Rattle.refinement.proofs.driver.PutSlot.{put_same, put_cases}
use Rattle.refinement.proofs.relation.OtherSlots.{true_false, fall_follows}
use Rattle.refinement.proofs.witnesses.AcceptedRequests.{has_its_grant}
use Rattle.refinement.proofs.witnesses.FirstRead.{waits, issued, reached, first_knows}
use Rattle.refinement.proofs.steps.RegisterWrites.{written_agrees}

-- the request is in the book
booked : Contains issued.book (newly_issued waits)
booked = contains_here (newly_issued waits) [] (newly_issued waits) refl

-- ---- taken from its slot

-- the write keeps FRE as it is, and the bits that it doesn't change were read 0
permitted : StepLaws → IsStable (MayWrite (Px (port_at 0) Cmd) 0x10) first_read_device
unfolding changed
permitted laws mid s =
    let k : KeepsOverSteps first_read_device mid = laws.steps_keep _ _ s in
    let on : KeepsOutsideReset first_read_device mid = k.keeps_outside_reset refl in (
      record { ae_is_set = on.ae_is_kept; no_reset = on.no_reset },
      (omega arith, ap (λ (v : ℕ). bit v 0) k.pi_is_kept),
      record {
        start = λ b. true_false b refl;
        receive = λ _. inl (on.controls_are_kept 0).fre_is_kept;
        stop_receiving = λ b. true_false refl b;
        other_bits_are_kept = λ place lt head receive.
            ap (λ (n : ℕ). n == 1) (bit_at-pow_other 4 place receive) ∙ sym (ap (λ (n : ℕ). n == 1) (bit_at-zero place)) ∙ ap (λ (n : Notes). bit n.last_cmd place) (sym (k.notes_are_kept 0));
      },
    )

leaves : KeepsSlotStates first_slot_states (Px (port_at 0) Cmd) 0x10 first_read_device
unfolding changed
leaves = record { start = λ b. true_false b refl; receive = λ _. (omega arith, refl) }

stopping_agrees : StepLaws → StateRelation first_slot_states issued stopping_read
stopping_agrees laws = written_agrees first_slot_states issued first_read_device first_knows.state_relation (Px (port_at 0) Cmd) 0x10 (permitted laws first_read_device (record { steps = []; lead = refl })) leaves

can_fall : Can (Fall 0) stopping_read
unfolding changed
can_fall = (refl, refl)

-- nothing is told of, so the machine makes no step
stopped_agrees : StepLaws → StateRelation first_slot_states issued stopped_read
stopped_agrees laws =
    silent_agrees first_slot_states issued stopping_read stopped_read (fall_follows first_slot_states issued stopping_read (stopping_agrees laws) 0 can_fall.0) refl

stopped_halted : IsEngineStopped (stopped_read.port 0)
unfolding changed
stopped_halted = record { st_is_clear = refl; cr_is_clear = refl; no_command_is_issued = λ slot. refl; no_command_is_taken = λ slot. refl }

-- whose slot it is
served_at : (q k : ℕ) (id : RequestId) → first_slot_states q k ≡ Serves id → (q ≡ 0) × (k ≡ 0)
served_at q k id u = ⊎_elim
    (λ (x : (q ≡ 0) × (k ≡ 0)). x)
    (λ x. let z : Free ≡ Serves id = sym x.1 ∙ u in absurd cc)
    (put_cases (λ _ _. Free) 0 0 (Serves first_id) q k)

unserved : HasNoSlot parked_driver_state.slot_states first_id
unserved q k u = ⊎_elim
    (λ (h : (q ≡ 0) × (k ≡ 0)).
    let z : Free ≡ Serves first_id =
    sym (put_same first_slot_states 0 0 Free) ∙ ap (λ (n : ℕ). set_slot_state first_slot_states 0 0 Free n 0) (sym h.0) ∙ ap (λ (n : ℕ). set_slot_state first_slot_states 0 0 Free q n) (sym h.1) ∙ u in absurd cc)
    (λ h. let w = served_at q k first_id (sym h.1 ∙ u) in h.0 w.0 w.1)
    (put_cases first_slot_states 0 0 Free q k)

parked_knows : StepLaws → DriverRelation issued parked_driver_state
parked_knows laws =
    park_knows (record first_driver_state { device = stopped_read }) issued (record { state_relation = (stopped_agrees laws); have_slots_unless_parked = first_knows.have_slots_unless_parked }) 0 0
    (record { is_not_issued = stopped_halted.no_command_is_issued 0; is_not_taken = stopped_halted.no_command_is_taken 0 }) first_id (put_same (λ _ _. Free) 0 0 (Serves first_id))

pub parked_is_known : StepLaws → ParkedReadWitness
parked_is_known laws = record {
  permitted = (permitted laws);
  writes = record { at_access = first_read_device; steps = record { steps = []; lead = refl }; effect = refl };
  falls = record { steps = (Fall 0) ∷ []; lead = (can_fall, refl) };
  engine_is_stopped = stopped_halted;
  machine = issued;
  reached = (reached laws);
  driver_relation = (parked_knows laws);
  request_has_no_slot = unserved;
  request = newly_issued waits;
  id_is = refl;
  wait_again_is_enabled = (booked, refl, omega arith, has_its_grant refl);
}

-- ---- kept

abbrev keeping : Machine
keeping = after_step issued (Answer (newly_issued waits) PortDead)

-- it keeps request 1 alone
kept_one : (e : Pending) → Contains keeping.kept e → e.request.id ≡ first_id
kept_one e h = ⊎_elim (λ (is : e ≡ newly_issued waits). ap (λ (x : Pending). x.request.id) is) (λ i. absurd (contains_none e i)) (contains_cases (newly_issued waits) [] e h)

pub kept_is_known : StepLaws → PortDeadReadAgreesServedAndParked
kept_is_known laws = record {
  machine = keeping;
  reached = laws.reachable_goes_on issued (Answer (newly_issued waits) PortDead ∷ []) (reached laws) (tt, (booked, tt));
  request = newly_issued waits;
  kept = booked;
  id_is = refl;
  driver_relation = keeping_knows first_driver_state issued (newly_issued waits) PortDead (reached laws) first_knows booked refl;
  relation_once_parked = keeping_knows parked_driver_state issued (newly_issued waits) PortDead (reached laws) (parked_knows laws) booked refl;
  kept_have_no_slot = λ e h q k u. unserved q k (u ∙ ap Serves (kept_one e h));
}
