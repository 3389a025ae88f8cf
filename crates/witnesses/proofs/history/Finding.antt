-- A service finds one queued read of a sector done on port 0, and answers it; nothing else is done meanwhile.
use Rattle.std.proofs.Common.{ℕ, zero, suc, ◌≡◌, ◌<◌, ◌*◌, ◌+◌, ◌↔◌, ◌∙◌, ◌++◌, Bool, true, false, List, [], ◌∷◌, map, slice_index, Some, inl, inr, ⊎_elim, refl, sym, ap, subst, arith}
use Rattle.std.proofs.lemmas.Bool.{true≢false}
use Rattle.std.specs.List.{All, Contains}
use Rattle.std.proofs.lemmas.List.Elements.{All-contains, All-from_recursion}
use Rattle.std.proofs.lemmas.List.Sorted.{IsPermutation-refl}
use Rattle.ata_types.specs.declared.Port.{Port}
use Rattle.ata_types.specs.declared.PortState.TheVariants.{Ready}
use Rattle.ata_types.specs.declared.request.Op.TheVariants.{Read, Write}
use Rattle.ata_types.specs.declared.request.Outcome.{Outcome}
use Rattle.ata_types.specs.declared.request.Outcome.TheVariants as outcome
use Rattle.ata_types.specs.declared.request.Reply.{Reply}
use Rattle.ata_types.specs.declared.request.RequestId.{RequestId}
use Rattle.hba_regs.specs.Bits.{bit}
use Rattle.hba_regs.specs.declared.reg.Reg.TheVariants.{Px}
use Rattle.hba_regs.specs.declared.reg.PortReg.TheVariants.{Sact, Ci}
use Rattle.adapter.specs.Access.{Access, DoesAll}
use Rattle.adapter.specs.Access.Access.{Reading}
use Rattle.adapter.specs.Device.{DevicePort, Device, FetchedCommand}
use Rattle.adapter.specs.FirstRead.{first_disk_sector}
use Rattle.adapter.specs.Memory.{patched}
use Rattle.adapter.specs.Decoding.{piece_addresses}
use Rattle.adapter.specs.Steps.{newly_fetched, done_entry, move_of}
use Rattle.adapter.specs.declared.access.DeviceStep.{DeviceStep}
use Rattle.adapter.specs.declared.command.Operation.TheVariants.{ReadQueued}
use Rattle.adapter.specs.declared.tape.Entry.{Entry}
use Rattle.adapter.specs.declared.tape.Entry.TheVariants as entry
use Rattle.refinement.specs.Acts.{DriverSlots}
use Rattle.refinement.specs.Relation.{port_at}
use Rattle.refinement.specs.Driver.{TapeBacksSteps}
use Rattle.refinement.specs.Slots.{ServesRequest}
use Rattle.block_machine.specs.DueRequests.{IsDue, NoneDue}
use Rattle.block_machine.specs.Events.{Happens, Service, Replied, ShowsDisk}
use Rattle.block_machine.specs.Histories.{JointState, JointEvent}
use Rattle.block_machine.specs.Expected.{after}
use Rattle.block_machine.specs.Ports.{Evidence, MayBecomeInService}
use Rattle.block_machine.specs.State.{Block, Machine, Pending, unanswered}
use Rattle.block_machine.specs.Steps.{Step, Answer, End, Touch, AllTouched, mark_ended, touch}
use Rattle.block_machine.specs.declared.due.Unanswered.{Unanswered}
use Rattle.identify.specs.declared.wanted.Wanted.TheVariants.{Any}
use Rattle.driver_history.specs.EvidenceHandling.{ServicesReadyPort}
use Rattle.driver_history.specs.Evidence.{IsEvidencedOf, ShowsFailure, ShowedLinkChangeOrNoDeviceAndNoneCame}
use Rattle.driver_history.specs.Histories.{FindsDone, IsAnsweredOk, IsIssuedOn, IsServedAndNotDead, CallCorresponds, PortCorresponds, with_issue_undone}
use Rattle.driver_history.specs.PortInvariants.{mode_of_disk}
use Rattle.driver_history.specs.AccessTrace.{DoesNotWriteCmd, WritesNeitherCmdNorSctl}
use Rattle.witnesses.specs.RunningAdapter.{queueing_cap}
use Rattle.witnesses.proofs.history.Command.{queued_read}
use Rattle.witnesses.proofs.history.Devices.{serving}
use Rattle.witnesses.proofs.history.Holding.{IsCalm, no_trouble, tries_ready, unnamed_evidenced}
use Rattle.witnesses.proofs.history.Issuing.{none_named, nothing, unplugged}
use Rattle.witnesses.proofs.history.Members.{nowhere}
use Rattle.witnesses.proofs.history.Memory.{tells}
use Rattle.witnesses.proofs.history.Pages.{Kind}
use Rattle.witnesses.proofs.history.Ready.{Agreeing, fit_ready, holds, instant_with, not_dead, served_ready, shows_none, two_ready, two_states}
use Rattle.witnesses.proofs.history.Serving.{outstanding_as}

-- ports that stay what they are, where none gets stuck
pub stay_serviced : (disk : Kind) (evidence : Evidence) (n : ℕ) → (Contains evidence.stuck (port_at n) → ⊥) → MayBecomeInService (two_ready disk) evidence (two_ready disk) (port_at n)
stay_serviced disk evidence n unstuck = (
  λ is. absurd (not_dead n is),
  λ _. (
    record {
      served_is_unchanged = refl;
      dead_exactly_if_stuck = (λ is. absurd (not_dead n is), λ h. absurd (unstuck h));
      disk_is_remembered_unless_ready = λ is. (refl, refl);
    },
    inl (refl, refl, refl, refl, refl, refl),
  ),
)

-- A service that finds the read in this slot done: what was in memory, and the port, before it and after it; what the tape had gained since the
-- pages; and the values of PxCI and PxSACT that were read.
pub record Discovery : Type 0 where
  pub disk : Kind
  pub machine : Machine
  pub slots : DriverSlots
  pub slots_then : DriverSlots
  pub more : List Entry
  pub memory : ℕ → ℕ
  pub port : DevicePort
  pub port_then : DevicePort
  pub id : RequestId
  pub sector : ℕ
  pub frame_number : ℕ
  pub held : ℕ → Block
  pub slot : ℕ
  pub ci : ℕ
  pub sact : ℕ

module _ (c : Discovery) where
  abbrev pub outstanding : Pending
  outstanding = outstanding_as c.id c.sector c.frame_number c.held

  abbrev pub touching : Step
  touching = Touch outstanding 0 (slice_index (first_disk_sector c.sector))

  abbrev pub ended : Pending
  ended = mark_ended (touch 0 outstanding)

  abbrev pub steps : List Step
  steps = Answer ended outcome.Ok ∷ End (touch 0 outstanding) ∷ touching ∷ []

  abbrev pub answered : Machine
  answered = after c.machine steps

  abbrev pub command : FetchedCommand
  command = newly_fetched (queued_read c.sector) (piece_addresses (4096 * c.frame_number) 1)

  -- the sector was moved, and the command ended
  abbrev pub gained : List Entry
  gained = entry.Move (move_of 0 c.slot command (first_disk_sector c.sector)) ∷ done_entry 0 c.slot ReadQueued ∷ []

  abbrev pub memory_then : ℕ → ℕ
  memory_then = patched c.memory (4096 * c.frame_number) (first_disk_sector c.sector)

  abbrev pub masks : List Access
  masks = Reading (Px (port_at 0) Ci) c.ci ∷ Reading (Px (port_at 0) Sact) c.sact ∷ []

  abbrev pub before : JointState Device
  before = instant_with c.disk c.slots c.machine c.more c.memory c.port

  abbrev pub served_at : JointState Device
  served_at = instant_with c.disk c.slots_then answered (c.more ++ gained) memory_then c.port_then

  abbrev pub replies : List Reply
  replies = record { id = c.id; client = outstanding.request.asked.client; outcome = outcome.Ok } ∷ []

  abbrev pub service : JointEvent Device DeviceStep
  service = record {
    event = record { call = Service; result = Replied replies; evidence = nothing; steps = steps; ports = two_ready c.disk };
    device = served_at.device;
  }

  -- there is one answer
  pub only_answer : (e : Pending) (o : Outcome) → Contains steps (Answer e o) → (e ≡ ended) × (o ≡ outcome.Ok)
  only_answer e o here = All-contains IsOne steps (Answer e o) (All-from_recursion IsOne steps (λ e o same. (cc, cc), (λ e o same. absurd cc, (λ e o same. absurd cc, tt)))) here e o refl
    where
      IsOne : Step → Type 0
      IsOne step = (e : Pending) (o : Outcome) → step ≡ Answer e o → (e ≡ ended) × (o ≡ outcome.Ok)

  pub record IsFound : Type 0 where
    pub agreed : Agreeing c.disk c.slots c.machine c.more c.memory c.port
    pub agreeing : Agreeing c.disk c.slots_then answered (c.more ++ gained) memory_then c.port_then
    pub here : Contains c.machine.book outstanding
    pub touched_here : Contains (after c.machine (touching ∷ [])).book (touch 0 outstanding)
    pub ended_here : Contains (after c.machine (End (touch 0 outstanding) ∷ touching ∷ [])).book ended
    pub lent : c.machine.lent (record { 0 = c.frame_number }) ≡ Some c.id
    pub on_disk : c.sector < 256
    pub unended : (e : Pending) → Contains c.machine.book e → e.ended ≡ false
    pub none_due : (port : Port) → NoneDue (mode_of_disk queueing_cap c.disk.info) (map unanswered answered.book) port
    pub none_issued : with_issue_undone steps (map unanswered answered.book) ≡ map unanswered answered.book
    pub does : DoesAll masks before.device served_at.device
    pub exact : (e : Pending) (slot : ℕ) → IsIssuedOn (port_at 0) c.machine e → ServesRequest c.machine c.memory c.port 0 slot e.request.id
        → IsAnsweredOk e steps ↔ ((bit c.ci slot ≡ false) × (bit c.sact slot ≡ false))

  module _ (is : IsFound) where
    in_then : c.machine.present (port_at 0) ≡ true
    in_then = ap (λ (f : Port → Bool). f (port_at 0)) is.agreed.disks.0

    all_touched : AllTouched (touch 0 outstanding)
    all_touched zero low = refl
    all_touched (suc i) low = absurd (omega (arith, low))

    not_unplugged : (e : Pending) → Contains steps (Answer e outcome.Unplugged) → ⊥
    not_unplugged e here = let x : outcome.Unplugged ≡ outcome.Ok = (only_answer e outcome.Unplugged here).1 in cc

    pub backed : TapeBacksSteps before.device served_at.device c.machine steps
    backed = record {
      disks_tell_sectors_is_same = refl;
      new_entries = gained;
      tape_is = refl;
      tells_device_steps = (
        [],
        touching ∷ [],
        Answer ended outcome.Ok ∷ End (touch 0 outstanding) ∷ [],
        tt,
        record {
          pending = outstanding;
          may_still_move = inl (is.here, refl);
          port_is = refl;
          op_is = refl;
          sector_number = 0;
          number_is_in_range = omega arith;
          sector_is = refl;
          place_is = omega arith;
          direction_is = refl;
          frame_is_lent = is.lent;
          step_is = refl;
        },
        (
          [],
          End (touch 0 outstanding) ∷ [],
          Answer ended outcome.Ok ∷ [],
          tt,
          record { pending = touch 0 outstanding; may_still_move = inl (is.touched_here, refl); port_is = refl; op_is = refl; step_is = refl },
          (tt, λ d. d),
          refl,
        ),
        refl,
      );
      steps_are_faithful = λ _. (((tt, λ _ b low. brought b low), tt), tt);
      plugged_disks_match_steps = λ port. ([], unplugged c.port c.port_then is.agreed.stands is.agreeing.stands port, refl);
    }
      where
        brought : (b : ℕ) → b < 512 → slice_index (first_disk_sector c.sector) b ≡ c.machine.disk_bytes (port_at 0) (c.sector + 0) b
        brought b low = tells c.sector b low ∙ (let same : c.sector ≡ c.sector + 0 = omega arith in same) ∙ sym (ap (λ (f : Port → ℕ → ℕ → ℕ). f (port_at 0) (c.sector + 0) b) is.agreed.disks.3)

    quiet : (n : ℕ) → two_states (port_at n) ≡ Ready → (ShowedLinkChangeOrNoDeviceAndNoneCame (port_at n) before.device served_at.device → ⊥) × (ShowsFailure (before.device.port n) → ⊥)
    quiet = shows_none before.device.tape c.memory c.port is.agreed.stands served_at.device

    pub evidenced : (n : ℕ) → IsEvidencedOf Service (Replied replies) masks before (two_ready c.disk) served_at.device nothing (port_at n)
    evidenced n = unnamed_evidenced Service (Replied replies) masks before (two_ready c.disk) served_at.device nothing (port_at n) (none_named (port_at n)) (quiet n)
        (All-from_recursion (WritesNeitherCmdNorSctl (port_at n)) masks ((tt, tt), ((tt, tt), tt)))

    finds : (n : ℕ) (e : Pending) → IsIssuedOn (port_at n) c.machine e → FindsDone (port_at n) masks before steps
    finds zero e on = record {
      ci = c.ci;
      sact = c.sact;
      reads = record { before = []; later = []; accesses_are_split = refl; cmd_is_unwritten_before = All-from_recursion (DoesNotWriteCmd (port_at 0)) [] tt };
      answered_iff_done = is.exact;
    }
    finds (suc n) e on = absurd (let z : 0 ≡ suc n = sym (is.agreed.first_alone e on.is_in_book) ∙ ap (λ (q : Port). q.0) on.port_is in omega (arith, z))

    not_ended : (e : Pending) → Contains c.machine.book e → e.ended ≡ true → ⊥
    not_ended e here at = true≢false (sym at ∙ is.unended e here)

    heeds : (n : ℕ) → ServicesReadyPort before.abstract nothing steps served_at.abstract (port_at n)
    heeds n = record {
      answers_ok_what_had_ended = λ e here at_port done. absurd (not_ended e here done);
      link_change_leaves_none = λ g. absurd (nowhere (port_at n) g);
      link_change_tells_alike = λ g. absurd (nowhere (port_at n) g);
      trouble_stops_or_sticks = λ why. absurd (⊎_elim (nowhere (port_at n)) (nowhere (port_at n)) why);
      error_or_stop_leaves_no_old_issue = λ why. absurd (⊎_elim (nowhere (port_at n)) (nowhere (port_at n)) why);
      one_fault_at_most = omega arith;
      fatal_tells_no_fault = λ h. absurd (nowhere (port_at n) h);
      shown_disk_was_in_or_came = λ shows. inl (in_of n shows);
      is_left_alone_if_calm = inr (record {
        port_is_same = (refl, refl, refl, refl, refl, refl);
        only_ok_is_told = λ e o here at_port. inl (only_answer e o here).1;
        is_neither_stopped_nor_stuck = λ why. ⊎_elim (nowhere (port_at n)) (nowhere (port_at n)) why;
      });
    }
      where
        in_of : (n : ℕ) → ShowsDisk (two_states (port_at n)) → c.machine.present (port_at n) ≡ true
        in_of zero shows = in_then
        in_of (suc zero) shows = ap (λ (f : Port → Bool). f (port_at 1)) is.agreed.disks.0
        in_of (suc (suc n)) shows = absurd shows

    gained_calm : (n : ℕ) → All (IsCalm n) gained
    gained_calm n = All-from_recursion (IsCalm n) gained ((λ x. x, λ x. x, λ x. x), ((λ x. x, λ x. x, λ x. x), tt))

    pub service_happens : Happens before.abstract service.event
    service_happens = record {
      steps_are_enabled = (
        (
          (tt, (inl (is.here, refl), omega arith, in_then, sizes, λ e. absurd (let x : Read ≡ Write = e in cc))),
          (inl (is.touched_here, refl), all_touched, in_then),
        ),
        (is.ended_here, tt),
      );
      steps_are_of_call = (((tt, inl tt), inl tt), inr tt);
      issue_is_last_of_request = (((tt, λ id h i. absurd (true≢false (sym i))), λ id h i. absurd (true≢false (sym i))), λ id h i. absurd (true≢false (sym i)));
      answers_are_lawful = (tt, (record { pending = outstanding; is_in_book = is.here; id_is = refl; issued = refl }, refl, all_touched, refl));
      ports_are_well_formed = fit_ready c.disk;
      unanswered_keep_serial_and_size = λ e o here there same. (refl, refl);
      result_matches_steps = record {
        replies_match = record { answers = (ended, outcome.Ok) ∷ []; is_permutation = IsPermutation-refl _; ordered = λ i j d less low. absurd (omega (arith, less, low)); replies_are_of_answers = refl };
        dead_ports_tell_only_port_dead = λ e o here dead. absurd (not_dead e.request.port.0 dead);
        unplugged_outcome_empties_port = record { none_is_left = λ e other here. absurd (not_unplugged e here); none_is_told_dead = λ e other here. absurd (not_unplugged e here) };
        none_is_due_where_ready = λ port ready. is.none_due port;
        empty_unless_ready = λ port other e here at. other (ap (λ (n : ℕ). two_states (port_at n)) (ap (λ (q : Port). q.0) (sym at) ∙ is.agreeing.first_alone e here));
        answers_ok_what_had_ended = λ port ready e here at_port done. absurd (true≢false (sym done ∙ is.unended e here));
        port_is_serviced = λ port. stay_serviced c.disk nothing port.0 (nowhere port);
        shown_disk_was_in_or_came = λ port. inl (refl, refl, refl, refl, refl, refl);
      };
    }
      where
        sizes : c.sector + 0 < c.machine.sizes (port_at 0)
        sizes = let low = is.on_disk in let size : c.machine.sizes (port_at 0) ≡ 256 = ap (λ (f : Port → ℕ). f (port_at 0)) is.agreed.disks.2 in omega (arith, low, size)

    pub service_part : (n : ℕ) → PortCorresponds before service masks (port_at n)
    service_part n = record {
      finds_done = λ ready e on. finds n e on;
      lone_plain_faults_are_told_unless_dead = λ alone. absurd ((quiet n alone.ready).1 (inr alone.shows_only_tfes.tfes_is_set));
      probes_disk = λ served none. tries_ready masks before (two_ready c.disk) served_at.device (port_at n) (served_ready n served);
      boots_anew = (λ ready f. absurd (⊎_elim (λ fatal. (quiet n ready).1 (inl fatal)) (quiet n ready).0 f), inl (refl, refl, refl, refl, refl, refl));
      loses_no_error = no_trouble nothing before (two_ready c.disk) served_at.device (port_at n) gained refl (gained_calm n) (served_ready n) (quiet n);
      runs_well_anew = λ why. absurd (⊎_elim (nowhere (port_at n)) (nowhere (port_at n)) why);
      handles_evidence = λ ready. heeds n;
    }

    unfoldable pub service_ties : CallCorresponds (Any ∷ Any ∷ []) before service
    service_ties = record {
      accesses = masks;
      accesses_are_explained = (is.does, serving (IsServedAndNotDead (two_ready c.disk)) masks ((refl, not_dead 0), ((refl, not_dead 0), tt)));
      is_backed = backed;
      is_evidenced = record { faults_are_told = λ f here. absurd (nowhere f here); each_port_is_evidenced = λ port. evidenced port.0 };
      only_failed_requeue_if_service = tt;
      issues_all_due = λ port ready r here at_port. (
        λ issued. absurd (true≢false (sym issued)),
        λ due. absurd (is.none_due port r at_port (subst (λ (book : List Unanswered). IsDue (mode_of_disk queueing_cap c.disk.info) book r) is.none_issued due)),
      );
      ports_correspond = λ port. service_part port.0;
      invariant_holds = (c.slots_then, holds c.disk c.slots_then answered (c.more ++ gained) memory_then c.port_then is.agreeing);
    }
