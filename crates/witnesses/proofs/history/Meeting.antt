-- The device is told to meet a fatal error while the read is issued: what holds then, and it meets all that is asked of that call.
use Rattle.std.proofs.Common.{ℕ, zero, suc, ◌≡◌, ◌≢◌, ◌∙◌, ◌++◌, true, false, not, List, [], ◌∷◌, inl, inr, ⊎_elim, refl, sym, ap, subst, arith}
use Rattle.std.specs.List.{All}
use Rattle.std.proofs.lemmas.Bool.{le-ltb}
use Rattle.std.proofs.lemmas.List.Elements.{All-nil, All-cons}
use Rattle.ata_types.specs.declared.Port.{Port}
use Rattle.ata_types.specs.declared.PortState.TheVariants.{Ready}
use Rattle.adapter.specs.Commands.{is_queued}
use Rattle.adapter.specs.Device.{Device}
use Rattle.adapter.specs.Memory.{changed}
use Rattle.adapter.specs.ReadDone.{read_of}
use Rattle.adapter.specs.Decoding.{piece_addresses}
use Rattle.adapter.specs.declared.access.DeviceStep.{DeviceStep}
use Rattle.adapter.specs.declared.access.DeviceStep.TheVariants.{Fatal}
use Rattle.adapter.specs.declared.access.FatalError.TheVariants.{Interface}
use Rattle.adapter.specs.declared.command.Operation.TheVariants.{Identify}
use Rattle.adapter.specs.declared.tape.Entry.{Entry}
use Rattle.adapter.specs.declared.tape.Entry.TheVariants as entry
use Rattle.refinement.specs.Acts.{driver_state_of_slots}
use Rattle.refinement.specs.Relation.{port_at}
use Rattle.refinement.specs.Driver.{TapeBacksSteps, DriverRelation}
use Rattle.refinement.specs.PortFacts.{IsFaultOf}
use Rattle.refinement.specs.PreservedParts.{IsPlugEvent}
use Rattle.refinement.specs.Slots.{IsMove, RelatesSlot, ServesRequest}
use Rattle.refinement.specs.ReadWitness.{first_id}
use Rattle.block_machine.specs.DueRequests.{is_plain}
use Rattle.block_machine.specs.Events.{StepDevice, Happens, Stepped}
use Rattle.block_machine.specs.Histories.{JointEvent, JointState}
use Rattle.block_machine.specs.State.{Pending}
use Rattle.error_recovery.specs.Evidence.{ShowsFatal}
use Rattle.host_boot.specs.TakeOver.{wanted_of}
use Rattle.identify.specs.declared.wanted.Wanted.TheVariants.{Any}
use Rattle.driver_history.specs.Evidence.{TapeGainsEntry, IsEvidencedOf, ShowsFailure, ShowedLinkChangeOrNoDeviceAndNoneCame}
use Rattle.driver_history.specs.Histories.{LosesNoPortError, CallCorresponds, PortCorresponds}
use Rattle.driver_history.specs.PortInvariants.{PortStateInvariant, DriverInvariantWith, SlotCommandIsQueuedUnlessPlain, IsReadyAt}
use Rattle.driver_history.specs.AccessTrace.{WritesNeitherCmdNorSctl}
use Rattle.witnesses.specs.RunningAdapter.{port_or_empty, page_entry, plain_disk_mode}
use Rattle.witnesses.proofs.history.Accepting.{both, holds_submitted, in_book, issuing, submitted_at, waiting}
use Rattle.witnesses.proofs.history.Breaking.{breaks, broken, can_break, dev, tape_broken}
use Rattle.witnesses.proofs.history.Command.{read_memory, told}
use Rattle.witnesses.proofs.history.Holding.{IsCalm, first_slots, fit_disk, gained_none, no_trouble, ran_none, requests_first, runs_on, unnamed_evidenced, unserved_at, uses_first}
use Rattle.witnesses.proofs.history.Issuing.{none_named, nothing}
use Rattle.witnesses.proofs.history.Members.{nowhere}
use Rattle.witnesses.proofs.history.Memory.{past_driver}
use Rattle.witnesses.proofs.history.Pages.{plain_disks}
use Rattle.witnesses.proofs.history.Ready.{agreeing, calm, fit_ready, no_page, other_page, second_ready, served_of, served_ready}
use Rattle.witnesses.proofs.history.Serving.{serves_one}
use Rattle.witnesses.proofs.history.Submitting.{issued, others_clear, second, submitted}

-- ---- what holds

abbrev pub broken_at : JointState Device
broken_at = record { device = dev broken; abstract = record { machine = issuing; ports = both } }

-- the fatal error is the one entry that the tape has gained
abbrev pub gained : List Entry
gained = entry.Fatal (port_at 0) ∷ []

-- no page came after those of the two ports
pub unpaged : (port : ℕ) → All (λ e. IsMove port Identify e → ⊥) gained
unpaged port = All-cons (λ e. IsMove port Identify e → ⊥) (entry.Fatal (port_at 0)) [] (λ x. x) (no_page port)

pub shows_fatal : ShowsFatal broken
unfolding changed
shows_fatal = record { place = 27; from = omega arith; to = omega arith; cause_is_set = refl }

-- it has no other flag
pub no_fault : (n : ℕ) → ((dev broken).port n).is 30 ≡ false
unfolding changed
no_fault zero = refl
no_fault (suc zero) = refl
no_fault (suc (suc n)) = refl

-- the slot serves the request as before
serves_still : ServesRequest issuing read_memory broken 0 0 first_id
serves_still = serves_one issuing read_memory broken 0 (read_of 100 1) first_id 100 100 waiting.request.blocks_at_acceptance 0 refl (omega arith) (0, omega arith, refl) refl refl told
    (inl (record { started = refl; issued = refl; is_not_taken = refl; sact = refl; has_block_if_trim = tt; untouched = λ i. sym (le-ltb i 0 (omega arith)); unended = refl }))

slots : (n k : ℕ) → RelatesSlot issuing read_memory tape_broken (port_or_empty (broken ∷ second ∷ []) n) n k (uses_first n k)
slots zero zero = serves_still
slots zero (suc k) = record { is_not_issued = others_clear k; is_not_taken = refl; unarmed = refl }
slots (suc n) k = holds_submitted.driver_relation.state_relation.relates_slots (suc n) k

present : (n : ℕ) → issuing.present (port_at n) ≡ (port_or_empty (broken ∷ second ∷ []) n).present
present zero = refl
present (suc zero) = refl
present (suc (suc n)) = refl

knows : DriverRelation issuing (driver_state_of_slots first_slots (dev broken))
knows = agreeing issuing first_slots tape_broken read_memory broken second
    (record { own_first = refl; own_second = refl; disks = (refl, refl); present = present; ids = refl; sizes = refl; bytes = refl; lasting = (refl, refl); still = refl })
    slots holds_submitted.driver_relation.state_relation.serve_distinct_requests (λ f b from small. past_driver f b from) holds_submitted.driver_relation.have_slots_unless_parked

kind_of : (e : Pending) → e ≡ waiting → SlotCommandIsQueuedUnlessPlain plain_disk_mode (dev broken) 0 0 e
kind_of e is = record {
  command = read_of 100 1;
  places = piece_addresses 0x64000 1;
  slot_decodes_to = told;
  is_queued_if_not_plain = subst (λ (x : Pending). is_queued (read_of 100 1).operation ≡ not (is_plain plain_disk_mode x.request.asked.op)) (sym is) refl;
}

port_ready : IsReadyAt Any first_slots broken_at (port_at 0)
port_ready = record {
  adapter_is_on = record { ae_is_set = refl; no_reset = refl };
  engine_runs = runs_on 0 (dev broken) refl refl refl refl refl (omega arith) refl (no_fault 0) refl;
  info = plain_disks.info;
  has_fit_disk = fit_disk plain_disks 0 (dev broken) [] (page_entry plain_disks.page 1 ∷ gained) refl refl refl refl (other_page plain_disks.page gained (unpaged 0));
  shows_disk_info = record { serial = refl; sectors = refl; zeroes_after_trim_is = refl; mode = refl };
  slots_invariant = requests_first broken_at plain_disk_mode (omega arith) (λ e here. kind_of e (in_book 0 e here));
  none_is_quarantined = λ e k. absurd (nowhere e k);
}

port_broken : (n : ℕ) → PortStateInvariant (wanted_of (Any ∷ Any ∷ []) n) first_slots broken_at (port_at n) (both.served (port_at n)) (both.state (port_at n))
port_broken zero = port_ready
port_broken (suc zero) = second_ready plain_disks first_slots issuing gained read_memory broken (unpaged 1) (λ slot. refl) refl refl
port_broken (suc (suc n)) = unserved_at first_slots broken_at (suc (suc n)) refl refl (record { all_are_free = λ slot. refl; none_is_parked = refl })
    (λ e here is. let z : 0 ≡ suc (suc n) = sym (ap (λ (x : Pending). x.request.port.0) (in_book 0 e here)) ∙ ap (λ (p : Port). p.0) is in omega (arith, z))
    (λ e kept. absurd (nowhere e kept))

pub holds_broken : DriverInvariantWith (Any ∷ Any ∷ []) first_slots broken_at
holds_broken = record {
  driver_relation = knows;
  served_iff_wanted_and_there = λ port low. served_of tape_broken read_memory (broken ∷ second ∷ []) port.0;
  is_on_or_served_are_dead = inl (record { ae_is_set = refl; no_reset = refl });
  ports_hold = λ port low. port_broken port.0;
}

-- ---- the call

abbrev pub meeting : JointEvent Device DeviceStep
meeting = record {
  event = record { call = StepDevice (Fatal (port_at 0) Interface); result = Stepped true; evidence = nothing; steps = []; ports = both };
  device = dev broken;
}

pub meeting_happens : Happens submitted_at.abstract meeting.event
meeting_happens = record {
  steps_are_enabled = tt;
  steps_are_of_call = tt;
  issue_is_last_of_request = tt;
  answers_are_lawful = tt;
  ports_are_well_formed = fit_ready plain_disks;
  unanswered_keep_serial_and_size = λ e o here there same. (refl, refl);
  result_matches_steps = (tt, λ port. (refl, refl, refl, refl, refl, refl));
}

pub backed : TapeBacksSteps submitted (dev broken) issuing []
backed = record {
  disks_tell_sectors_is_same = refl;
  new_entries = gained;
  tape_is = refl;
  tells_device_steps = ([], [], [], tt, refl, tt, refl);
  steps_are_faithful = λ _. tt;
  plugged_disks_match_steps = λ port. ([], plugs port, refl);
}
  where
    plugs : (n : ℕ) → ((dev broken).port n).plug_history ≡ (submitted.port n).plug_history ++ []
    plugs zero = refl
    plugs (suc zero) = refl
    plugs (suc (suc n)) = refl

quiet : (n : ℕ) → both.state (port_at n) ≡ Ready → (ShowedLinkChangeOrNoDeviceAndNoneCame (port_at n) submitted (dev broken) → ⊥) × (ShowsFailure (submitted.port n) → ⊥)
quiet = calm submitted.tape read_memory issued refl refl refl (λ place from. refl) (dev broken)

pub evidenced : (n : ℕ) → IsEvidencedOf meeting.event.call meeting.event.result [] submitted_at both (dev broken) nothing (port_at n)
evidenced n = unnamed_evidenced meeting.event.call meeting.event.result [] submitted_at both (dev broken) nothing (port_at n) (none_named (port_at n)) (quiet n) (All-nil (WritesNeitherCmdNorSctl (port_at n)))

-- the error is no trouble of another port
fatal_alone : (n : ℕ) → n ≢ 0 → All (IsCalm n) gained
fatal_alone n ne = All-cons (IsCalm n) (entry.Fatal (port_at 0)) [] (λ x. x, λ (is : 0 ≡ n). ne (sym is), λ x. x) (All-nil (IsCalm n))

pub no_plugging : All (λ e. IsPlugEvent 0 e → ⊥) gained
no_plugging = All-cons (λ e. IsPlugEvent 0 e → ⊥) (entry.Fatal (port_at 0)) [] (λ x. x) (All-nil (λ e. IsPlugEvent 0 e → ⊥))

port_error : (n : ℕ) → LosesNoPortError nothing submitted_at both (dev broken) (port_at n)
port_error zero = record {
  ready_errors_are_handled_or_shown = λ ready why. inr (inl shows_fatal);
  changes_are_handled_or_shown_unless_dead = λ tends why. absurd (⊎_elim (λ change. (quiet 0 refl).0 (inl change)) plugs why);
  ready_shows_fault_since_start = λ ready g. absurd (ran_none (IsFaultOf 0) 0 submitted (dev broken) faults g);
  ready_shows_fatal_since_start = λ ready g. shows_fatal;
  ready_shows_plug_event_since_start = λ ready g. absurd (ran_none (IsPlugEvent 0) 0 submitted (dev broken) plugs g);
}
  where
    faults : TapeGainsEntry (IsFaultOf 0) submitted (dev broken) → ⊥
    faults = gained_none (IsFaultOf 0) submitted (dev broken) gained refl (All-cons (λ e. IsFaultOf 0 e → ⊥) (entry.Fatal (port_at 0)) [] (λ x. x) (All-nil (λ e. IsFaultOf 0 e → ⊥)))

    plugs : TapeGainsEntry (IsPlugEvent 0) submitted (dev broken) → ⊥
    plugs = gained_none (IsPlugEvent 0) submitted (dev broken) gained refl no_plugging
port_error (suc n) = no_trouble nothing submitted_at both (dev broken) (port_at (suc n)) gained refl (fatal_alone (suc n) (omega arith)) (served_ready (suc n)) (quiet (suc n))

pub meeting_part : (n : ℕ) → PortCorresponds submitted_at meeting [] (port_at n)
meeting_part n = record {
  finds_done = tt;
  lone_plain_faults_are_told_unless_dead = tt;
  probes_disk = tt;
  boots_anew = tt;
  loses_no_error = port_error n;
  runs_well_anew = λ why. absurd (⊎_elim (nowhere (port_at n)) (nowhere (port_at n)) why);
  handles_evidence = λ why. ⊎_elim (nowhere (port_at n)) (nowhere (port_at n)) why;
}

unfoldable pub meeting_ties : CallCorresponds (Any ∷ Any ∷ []) submitted_at meeting
meeting_ties = record {
  accesses = [];
  accesses_are_explained = (refl, inl (record { can = can_break; effect = breaks }));
  is_backed = backed;
  is_evidenced = record { faults_are_told = λ f here. absurd (nowhere f here); each_port_is_evidenced = λ port. evidenced port.0 };
  only_failed_requeue_if_service = tt;
  issues_all_due = λ port. tt;
  ports_correspond = λ port. meeting_part port.0;
  invariant_holds = (first_slots, holds_broken);
}
