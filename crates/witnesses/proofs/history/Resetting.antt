-- A reset that ends meets all that is asked of it.
use Rattle.std.proofs.Common.{ℕ, zero, suc, ◌≡◌, ◌≢◌, ◌≤◌, ◌<◌, ◌++◌, ◌⊎◌, true, false, List, [], ◌∷◌, Some, inl, inr, ⊎_elim, refl, sym, ap, arith, append-nil}
use Rattle.std.proofs.lemmas.Bool.{true≢false}
use Rattle.std.proofs.lemmas.List.Elements.{All-nil, All-from_recursion}
use Rattle.std.proofs.lemmas.List.Sorted.{IsPermutation-refl}
use Rattle.std.specs.List.{All, Contains}
use Rattle.ata_types.specs.declared.Port.{Port}
use Rattle.ata_types.specs.declared.PortState.TheVariants.{Absent, Dead, Ready, Unfit}
use Rattle.ata_types.specs.declared.request.Frame.{Frame}
use Rattle.ata_types.specs.declared.request.Outcome.{Outcome}
use Rattle.ata_types.specs.declared.request.Outcome.TheVariants as outcome
use Rattle.ata_types.specs.declared.request.Reply.{Reply}
use Rattle.hba_regs.specs.declared.reg.PortReg.{PortReg}
use Rattle.hba_regs.specs.declared.reg.PortReg.TheVariants.{Clb, Clbu, Fb, Fbu, Is, Cmd, Tfd, Sig, Ssts, Sctl, Serr}
use Rattle.hba_regs.specs.declared.reg.Reg.{Reg}
use Rattle.hba_regs.specs.declared.reg.Reg.TheVariants.{Ghc, Px}
use Rattle.adapter.specs.Access.{Access}
use Rattle.adapter.specs.Access.Access.{Reading, Writing}
use Rattle.adapter.specs.Device.{Device}
use Rattle.adapter.specs.declared.access.DeviceStep.{DeviceStep}
use Rattle.refinement.specs.Acts.{driver_state_of_slots}
use Rattle.refinement.specs.Relation.{port_at}
use Rattle.refinement.specs.Driver.{TapeBacksSteps, DriverRelation}
use Rattle.refinement.specs.PreservedParts.{DoesNotWrite}
use Rattle.refinement.specs.MemoryLayout.{command_list_address, received_fis_address}
use Rattle.refinement.specs.Slots.{IsEmptySlot}
use Rattle.refinement.specs.ReadWitness.{first_id}
use Rattle.block_machine.specs.Events.{AnswersReset, Happens, Reset, ShowsDisk, WasReset}
use Rattle.block_machine.specs.Histories.{JointEvent, JointState}
use Rattle.block_machine.specs.Expected.{after}
use Rattle.block_machine.specs.Ports.{PortsWellFormed, Evidence, IsStoppedOrStuck, MayBecome, Ports}
use Rattle.block_machine.specs.State.{Machine, Pending}
use Rattle.block_machine.specs.Steps.{Answer, Release, Step}
use Rattle.host_boot.specs.Resets.{ReadsHrSet}
use Rattle.host_boot.specs.TakeOver.{wanted_of}
use Rattle.identify.specs.declared.wanted.Wanted.TheVariants.{Any}
use Rattle.driver_history.specs.Evidence.{IsEvidencedOf}
use Rattle.driver_history.specs.Histories.{IsPortServed, CallCorresponds, PortCorresponds}
use Rattle.driver_history.specs.PortInvariants.{PortStateInvariant}
use Rattle.driver_history.specs.AccessTrace.{StaysInDriverFrames, UsesPortRegistersOf, WritesNeitherCmdNorSctl, LastSctlWritesResetLink}
use Rattle.witnesses.specs.Reset.{ResetIsAHistory, ended_reset_and_enable_accesses, boot_accesses, reset_and_boot_accesses}
use Rattle.witnesses.specs.RunningAdapter.{port_or_empty, ports_with_disks}
use Rattle.witnesses.proofs.history.Accepting.{asked, both, first, issuing, submit, submit_happens, submit_parts, submit_ties, submitted_at, waiting}
use Rattle.witnesses.proofs.history.Booting.{allowed, does, rebooted, unfit}
use Rattle.witnesses.proofs.history.Command.{read_memory}
use Rattle.witnesses.proofs.history.Devices.{WritesOf, leaves}
use Rattle.witnesses.proofs.history.Holding.{named, no_slots, unserved_at}
use Rattle.witnesses.proofs.history.Members.{either, nowhere}
use Rattle.witnesses.proofs.history.Memory.{past_driver}
use Rattle.witnesses.proofs.history.Pages.{plain_disks}
use Rattle.witnesses.proofs.history.Ready.{agreeing, begins, calm, fit_ready, free_apart, served_of, starts}
use Rattle.witnesses.proofs.history.Submitting.{issued, pages, submitted}

-- ---- the call

abbrev pub unfit_ports : Ports
unfit_ports = ports_with_disks plain_disks.info (true ∷ true ∷ []) (Unfit 8 ∷ Unfit 8 ∷ [])

-- both ports were stopped, and port 0 has lost its disk
abbrev evidence : Evidence
evidence = record { faults = []; lost = port_at 0 ∷ []; link_changed = []; showing_error = []; showing_fatal_error = []; stopped = port_at 0 ∷ port_at 1 ∷ []; stuck = [] }

abbrev answer : Step
answer = Answer waiting outcome.Unplugged

abbrev steps : List Step
steps = answer ∷ Release ∷ []

abbrev replies : List Reply
replies = record { id = first_id; client = asked.client; outcome = outcome.Unplugged } ∷ []

abbrev pub reset : JointEvent Device DeviceStep
reset = record {
  event = record { call = Reset; result = WasReset (Some replies); evidence = evidence; steps = steps; ports = unfit_ports };
  device = rebooted;
}

abbrev pub answered : Machine
answered = after issuing steps

abbrev pub rebooted_at : JointState Device
rebooted_at = record { device = rebooted; abstract = record { machine = answered; ports = unfit_ports } }

-- ---- the ports

pub not_ready : (n : ℕ) → unfit_ports.state (port_at n) ≡ Ready → ⊥
not_ready zero is = let x : Unfit 8 ≡ Ready = is in cc
not_ready (suc zero) is = let x : Unfit 8 ≡ Ready = is in cc
not_ready (suc (suc n)) is = let x : Absent ≡ Ready = is in cc

pub not_dead : (n : ℕ) → unfit_ports.state (port_at n) ≡ Dead → ⊥
not_dead zero is = let x : Unfit 8 ≡ Dead = is in cc
not_dead (suc zero) is = let x : Unfit 8 ≡ Dead = is in cc
not_dead (suc (suc n)) is = let x : Absent ≡ Dead = is in cc

pub fit : PortsWellFormed unfit_ports
fit = record {
  served_are_ports_0_to_3 = (fit_ready plain_disks).served_are_ports_0_to_3;
  unserved_are_absent = λ port is. absent_of port.0 is;
  modes_are_valid = λ port is. absurd (not_ready port.0 is);
  causes_are_valid = λ port cause is. cause_of port.0 cause is;
}
  where
    absent_of : (n : ℕ) → unfit_ports.served (port_at n) ≡ false → unfit_ports.state (port_at n) ≡ Absent
    absent_of zero is = absurd (true≢false is)
    absent_of (suc zero) is = absurd (true≢false is)
    absent_of (suc (suc n)) is = refl

    cause_of : (n cause : ℕ) → unfit_ports.state (port_at n) ≡ Unfit cause → (1 ≤ cause) × (cause ≤ 9)
    cause_of zero cause is = let x : Unfit 8 ≡ Unfit cause = is in let same : 8 ≡ cause = cc in (omega (arith, same), omega (arith, same))
    cause_of (suc zero) cause is = let x : Unfit 8 ≡ Unfit cause = is in let same : 8 ≡ cause = cc in (omega (arith, same), omega (arith, same))
    cause_of (suc (suc n)) cause is = absurd (let x : Absent ≡ Unfit cause = is in cc)

-- each served port is named as stopped, and no other
pub stopped_served : (n : ℕ) → both.served (port_at n) ≡ true → Contains evidence.stopped (port_at n)
stopped_served zero is = (0, omega arith, refl)
stopped_served (suc zero) is = (1, omega arith, refl)
stopped_served (suc (suc n)) is = absurd (true≢false (sym is))

pub served_stopped : (n : ℕ) → Contains evidence.stopped (port_at n) → both.served (port_at n) ≡ true
served_stopped zero h = refl
served_stopped (suc zero) h = refl
served_stopped (suc (suc n)) h = absurd (⊎_elim
    (λ (same : port_at (suc (suc n)) ≡ port_at 0). let z : suc (suc n) ≡ 0 = ap (λ (p : Port). p.0) same in omega (arith, z))
    (λ (same : port_at (suc (suc n)) ≡ port_at 1). let z : suc (suc n) ≡ 1 = ap (λ (p : Port). p.0) same in omega (arith, z))
    (either (port_at 0) (port_at 1) (port_at (suc (suc n))) h))

becomes : (n : ℕ) → MayBecome both evidence unfit_ports (port_at n)
becomes n = record {
  served_is_unchanged = refl;
  dead_exactly_if_stuck = (λ is. absurd (not_dead n is), λ h. absurd (nowhere (port_at n) h));
  disk_is_remembered_unless_ready = λ is. (refl, refl);
}

-- ---- the machine

-- there is one answer
the_answer : (e : Pending) (o : Outcome) → Contains steps (Answer e o) → (e ≡ waiting) × (o ≡ outcome.Unplugged)
the_answer e o here = ⊎_elim
    (λ (same : Answer e o ≡ answer). (cc, cc))
    (λ (same : Answer e o ≡ Release). absurd cc)
    (either answer Release (Answer e o) here)

-- a port that isn't served is absent
had : (n : ℕ) → ShowsDisk (unfit_ports.state (port_at n)) → issuing.present (port_at n) ≡ true
had zero shows = refl
had (suc zero) shows = refl
had (suc (suc n)) shows = absurd shows

answers : AnswersReset submitted_at.abstract evidence steps replies rebooted_at.abstract
answers = record {
  replies_match = record { answers = (waiting, outcome.Unplugged) ∷ []; is_permutation = IsPermutation-refl _; ordered = λ i j d less low. absurd (omega (arith, less, low)); replies_are_of_answers = refl };
  releases_once = record { later = answer ∷ []; earlier = []; release_splits_steps = refl; earlier_are_by_device = tt; no_other_release = refl };
  unplugged_outcome_empties_port = record {
    none_is_left = λ e other here there. absurd (nowhere other there);
    none_is_told_dead = λ e other here there. absurd (let x : outcome.PortDead ≡ outcome.Unplugged = (the_answer other outcome.PortDead there).1 in cc);
  };
  unplugged_lost_disk = λ e here. (not_dead e.request.port.0, λ ready. absurd (not_ready e.request.port.0 ready));
  none_is_due_where_ready = λ port is r at_port due. absurd (nowhere r due.is_in_book);
  empty_unless_ready = λ port other e here. absurd (nowhere e here);
  port_may_become = λ port. becomes port.0;
  issued_are_issued_in_steps = λ port e here. absurd (nowhere e here);
  served_are_stopped = λ port. stopped_served port.0;
  shown_disk_was_in_or_came = λ port shows. inl (had port.0 shows);
}

pub happens : Happens submitted_at.abstract reset.event
happens = record {
  steps_are_enabled = ((tt, tt), ((0, omega arith, refl), tt));
  steps_are_of_call = ((tt, inr tt), inr tt);
  issue_is_last_of_request = ((tt, λ id handled issued_in. absurd (true≢false (sym handled))), λ id handled issued_in. absurd (true≢false (sym issued_in)));
  answers_are_lawful = (tt, (named 0, (0, omega arith, refl)));
  ports_are_well_formed = fit;
  unanswered_keep_serial_and_size = λ e o here. absurd (nowhere e here);
  result_matches_steps = answers;
}

-- ---- the accesses

own : All StaysInDriverFrames reset_and_boot_accesses
own = All-from_recursion StaysInDriverFrames reset_and_boot_accesses (tt, (tt, (tt, (tt, (tt, (tt, (tt, (tt, (tt, (tt, (tt, (tt, (tt, (tt, (tt, (tt, (tt, (tt, (tt, (tt, (tt, (tt, (tt, (tt, (tt, (tt, (tt, (tt, (tt, (tt, (tt, tt)))))))))))))))))))))))))))))))

of_ports : All (UsesPortRegistersOf (IsPortServed both)) reset_and_boot_accesses
of_ports = All-from_recursion (UsesPortRegistersOf (IsPortServed both)) reset_and_boot_accesses (tt, (tt, (tt, (refl, (refl, (refl, (refl, (refl, (refl, (refl, (refl, (refl, (refl, (refl, (refl, (refl, (refl, (refl, (refl, (refl, (refl, (refl, (refl, (refl, (refl, (refl, (refl, (refl, (refl, (refl, (refl, tt)))))))))))))))))))))))))))))))

-- what follows COMRESET
abbrev after_link : ℕ → List Access
after_link port =
    Reading (Px (port_at port) Ssts) 3 ∷ Writing (Px (port_at port) Serr) 0xffffffff ∷ Writing (Px (port_at port) Is) 0xffffffff
    ∷ Reading (Px (port_at port) Tfd) 0x77 ∷ Reading (Px (port_at port) Sig) 0xeb140101 ∷ []

-- what comes before
abbrev before_link : ℕ → List Access
before_link port =
    Reading (Px (port_at port) Cmd) 0 ∷ Writing (Px (port_at port) Clb) (command_list_address port) ∷ Writing (Px (port_at port) Clbu) 0
    ∷ Writing (Px (port_at port) Fb) (received_fis_address port) ∷ Writing (Px (port_at port) Fbu) 0 ∷ Reading (Px (port_at port) Cmd) 0
    ∷ Writing (Px (port_at port) Cmd) 0x10 ∷ []

-- the number of the port that a register is of
abbrev number : Reg → ℕ
number (Px port r) = port.0
number r = 0

other_port : (r : PortReg) → Px (port_at 1) r ≢ Px (port_at 0) Sctl
other_port r is = let same : 1 ≡ 0 = ap number is in omega (arith, same)

links : (n : ℕ) → both.served (port_at n) ≡ true → LastSctlWritesResetLink (port_at n) reset_and_boot_accesses
links zero is = record {
  before = ended_reset_and_enable_accesses ++ before_link 0;
  between = [];
  later = after_link 0 ++ boot_accesses 1;
  comreset_value = 1;
  end_of_comreset_value = 0;
  accesses_are_split = refl;
  sends_comreset = refl;
  ends_comreset = refl;
  sctl_is_unwritten_between = All-nil (DoesNotWrite (Px (port_at 0) Sctl));
  sctl_is_unwritten_later = All-from_recursion (DoesNotWrite (Px (port_at 0) Sctl)) (after_link 0 ++ boot_accesses 1)
      (tt, (λ is. cc, (λ is. cc, (tt, (tt, (tt, (other_port Clb, (other_port Clbu, (other_port Fb, (other_port Fbu, (tt, (other_port Cmd, (other_port Sctl, (other_port Sctl, (tt, (other_port Serr, (other_port Is, (tt, (tt, tt)))))))))))))))))));
}
links (suc zero) is = record {
  before = ended_reset_and_enable_accesses ++ (boot_accesses 0 ++ before_link 1);
  between = [];
  later = after_link 1;
  comreset_value = 1;
  end_of_comreset_value = 0;
  accesses_are_split = refl;
  sends_comreset = refl;
  ends_comreset = refl;
  sctl_is_unwritten_between = All-nil (DoesNotWrite (Px (port_at 1) Sctl));
  sctl_is_unwritten_later = All-from_recursion (DoesNotWrite (Px (port_at 1) Sctl)) (after_link 1) (tt, (λ is. cc, (λ is. cc, (tt, (tt, tt)))));
}
links (suc (suc n)) is = absurd (true≢false (sym is))

-- ---- what stands behind its evidence

-- the register is of port 0 or 1, or the adapter's
abbrev IsWritten : Reg → Type 0
IsWritten r = number r < 2

evidenced : (n : ℕ) → IsEvidencedOf Reset (WasReset (Some replies)) reset_and_boot_accesses submitted_at unfit_ports rebooted evidence (port_at n)
evidenced n =
    let quiet = calm submitted.tape read_memory issued refl refl refl (λ place from. refl) rebooted n in
    record {
      named_lost_showed_loss_or_changed = λ h. inr (inr (inr (not_dead n, λ ready. absurd (not_ready n ready))));
      shown_loss_of_ready_is_named = λ is loss. absurd ((quiet is).0 loss);
      named_link_changed_had_change_or_no_device = λ h. absurd (nowhere (port_at n) h);
      shown_failure_of_ready_is_named = λ is f. absurd ((quiet is).1 f);
      named_showing_error_had_error = λ h. absurd (nowhere (port_at n) h);
      shown_fatal_of_ready_is_named = λ is f. absurd ((quiet is).1 (inl f));
      named_showing_fatal_had_fatal = λ h. absurd (nowhere (port_at n) h);
      engine_is_left_or_stopped = engines n;
      named_stopped_was_stopped_or_reset = λ h. inr (tt, served_stopped n h);
      stuck_only = λ h. absurd (nowhere (port_at n) h);
    }
  where
    written : WritesOf IsWritten reset_and_boot_accesses
    written = (omega arith, (omega arith, (omega arith, (omega arith, (omega arith, (omega arith, (omega arith, (omega arith, (omega arith, (omega arith, (omega arith, (omega arith, (omega arith, (omega arith, (omega arith, (omega arith, (omega arith, (omega arith, (omega arith, (omega arith, tt))))))))))))))))))))

    -- a port that isn't served has its engine left
    engines : (n : ℕ) → All (WritesNeitherCmdNorSctl (port_at n)) reset_and_boot_accesses ⊎ IsStoppedOrStuck evidence (port_at n)
    engines zero = inr (inl (0, omega arith, refl))
    engines (suc zero) = inr (inl (1, omega arith, refl))
    engines (suc (suc n)) = inl (leaves IsWritten (port_at (suc (suc n))) (λ below. omega (arith, below)) (λ below. omega (arith, below)) reset_and_boot_accesses written)

-- ---- what it owes each port

part_of : (n : ℕ) → PortCorresponds submitted_at reset reset_and_boot_accesses (port_at n)
part_of n = record {
  finds_done = tt;
  lone_plain_faults_are_told_unless_dead = tt;
  probes_disk = tt;
  boots_anew = λ served. inr (links n served);
  loses_no_error = record {
    ready_errors_are_handled_or_shown = λ ready why. inl (inl (stopped_served n (was_served n ready)));
    changes_are_handled_or_shown_unless_dead = λ tends why. inl (inl (stopped_served n tends.0));
    ready_shows_fault_since_start = λ ready g. absurd (not_ready n ready);
    ready_shows_fatal_since_start = λ ready g. absurd (not_ready n ready);
    ready_shows_plug_event_since_start = λ ready g. absurd (not_ready n ready);
  };
  runs_well_anew = λ why ready. absurd (not_ready n ready);
  handles_evidence = tt;
}
  where
    was_served : (n : ℕ) → both.state (port_at n) ≡ Ready → both.served (port_at n) ≡ true
    was_served zero is = refl
    was_served (suc zero) is = refl
    was_served (suc (suc n)) is = absurd (let x : Absent ≡ Ready = is in cc)

backed : TapeBacksSteps submitted rebooted issuing steps
backed = record {
  disks_tell_sectors_is_same = refl;
  new_entries = [];
  tape_is = sym (append-nil _);
  tells_device_steps = ((tt, λ d. d), λ d. d);
  steps_are_faithful = λ _. ((tt, tt), tt);
  plugged_disks_match_steps = λ port. ([], plugs port, refl);
}
  where
    plugs : (n : ℕ) → (rebooted.port n).plug_history ≡ (submitted.port n).plug_history ++ []
    plugs zero = refl
    plugs (suc zero) = refl
    plugs (suc (suc n)) = refl

-- ---- what holds after it

free : (n k : ℕ) → IsEmptySlot (port_or_empty (unfit 0 ∷ unfit 1 ∷ []) n) k
free zero k = record { is_not_issued = refl; is_not_taken = refl; unarmed = refl }
free (suc zero) k = record { is_not_issued = refl; is_not_taken = refl; unarmed = refl }
free (suc (suc n)) k = record { is_not_issued = refl; is_not_taken = refl; unarmed = refl }

knows : DriverRelation answered (driver_state_of_slots no_slots rebooted)
knows = agreeing answered no_slots pages read_memory (unfit 0) (unfit 1)
    (record { own_first = refl; own_second = refl; disks = (refl, refl); present = present; ids = refl; sizes = refl; bytes = refl; lasting = (refl, refl); still = refl })
    free free_apart (λ f b from small. past_driver f b from) (λ n e may at_port. ⊎_elim (λ z. absurd (nowhere e z.0)) (λ z. absurd (nowhere e z)) may)
  where
    present : (n : ℕ) → answered.present (port_at n) ≡ (port_or_empty (unfit 0 ∷ unfit 1 ∷ []) n).present
    present zero = refl
    present (suc zero) = refl
    present (suc (suc n)) = refl

pub holds_of : (n : ℕ) → PortStateInvariant (wanted_of (Any ∷ Any ∷ []) n) no_slots rebooted_at (port_at n) (unfit_ports.served (port_at n)) (unfit_ports.state (port_at n))
holds_of zero = record {
  adapter_is_on = record { ae_is_set = refl; no_reset = refl };
  backs_state = (
    record { engine_is_stopped = record { st_is_clear = refl; cr_is_clear = refl; no_command_is_issued = λ k. refl; no_command_is_taken = λ k. refl }; sact_is_clear = λ k. refl },
    inr (inl (refl, (0xeb140101, ((refl, refl), refl, refl, λ (e : 0xeb140101 ≡ 0x101). omega (arith, e))))),
  );
  shows_disk_if_in = λ bad. inl refl;
  has_nothing_in_slots = record { all_are_free = λ k. refl; none_is_parked = refl };
  has_no_unanswered = λ e here. absurd (nowhere e here);
  none_is_quarantined = λ e k. absurd (nowhere e k);
}
holds_of (suc zero) = record {
  adapter_is_on = record { ae_is_set = refl; no_reset = refl };
  backs_state = (
    record { engine_is_stopped = record { st_is_clear = refl; cr_is_clear = refl; no_command_is_issued = λ k. refl; no_command_is_taken = λ k. refl }; sact_is_clear = λ k. refl },
    inr (inl (refl, (0xeb140101, ((refl, refl), refl, refl, λ (e : 0xeb140101 ≡ 0x101). omega (arith, e))))),
  );
  shows_disk_if_in = λ bad. inl refl;
  has_nothing_in_slots = record { all_are_free = λ k. refl; none_is_parked = refl };
  has_no_unanswered = λ e here. absurd (nowhere e here);
  none_is_quarantined = λ e k. absurd (nowhere e k);
}
holds_of (suc (suc n)) = unserved_at no_slots rebooted_at (suc (suc n)) refl refl (record { all_are_free = λ slot. refl; none_is_parked = refl }) (λ e here. absurd (nowhere e here)) (λ e kept. absurd (nowhere e kept))

pub ties : CallCorresponds (Any ∷ Any ∷ []) submitted_at reset
ties = record {
  accesses = reset_and_boot_accesses;
  accesses_are_explained = (does, own, of_ports, record { reset_accesses = Writing Ghc 0x80000001 ∷ Reading Ghc 0 ∷ []; rest = Writing Ghc 0x80000002 ∷ (boot_accesses 0 ++ boot_accesses 1); accesses_are = refl; hr_is_awaited = record { polls = []; last_ghc = 0; accesses_are = refl; polls_show_hr = All-nil ReadsHrSet; hr_is = refl } }, (record { ae_is_set = refl; no_reset = refl }, refl));
  is_backed = backed;
  is_evidenced = record { faults_are_told = λ f here. absurd (nowhere f here); each_port_is_evidenced = λ port. evidenced port.0 };
  only_failed_requeue_if_service = tt;
  issues_all_due = λ port is. absurd (not_ready port.0 is);
  ports_correspond = λ port. part_of port.0;
  invariant_holds = (
    no_slots,
    record {
      driver_relation = knows;
      served_iff_wanted_and_there = λ port low. served_of pages read_memory (unfit 0 ∷ unfit 1 ∷ []) port.0;
      is_on_or_served_are_dead = inl (record { ae_is_set = refl; no_reset = refl });
      ports_hold = λ port low. holds_of port.0;
    },
  );
}

-- ---- the history

abbrev frame : Frame
frame = record { 0 = 100 }

pub reset_is_a_history : ResetIsAHistory
unfolding ties
reset_is_a_history = record {
  initial_state = first;
  submit = submit;
  asked = asked;
  submits = (refl, refl);
  frame = frame;
  frames_are = refl;
  lent = refl;
  reset = reset;
  resets = (refl, refl);
  both_become_unfit = (refl, refl);
  frame_is_given_back = refl;
  reset_makes_accesses = does;
  accesses_are_allowed = allowed;
  history = ((((starts, fit_ready plain_disks), begins plain_disks), submit_happens, submit_ties), happens, ties);
  accesses = refl;
  submit_corresponds = submit_parts;
  reset_corresponds = λ port. part_of port.0;
}
