-- An unfit disk is taken out, and the service that follows meets all that is asked of it.
use Rattle.std.proofs.Common.{ℕ, zero, suc, ◌≡◌, ◌≤◌, ◌++◌, ◌==◌, ◌⊎◌, true, false, [], ◌∷◌, inl, inr, ⊎_elim, refl, sym, ap, arith, append-nil}
use Rattle.std.proofs.lemmas.Bool.{cond-false, ne_eqb, true≢false}
use Rattle.std.proofs.lemmas.List.Elements.{All-nil, All-cons}
use Rattle.std.proofs.lemmas.List.Sorted.{IsPermutation-refl}
use Rattle.ata_types.specs.declared.Port.{Port}
use Rattle.ata_types.specs.declared.PortState.TheVariants.{Absent, Dead, Foreign, Ready, Unfit}
use Rattle.ata_types.specs.declared.request.Outcome.TheVariants as outcome
use Rattle.hba_regs.specs.declared.reg.PortReg.TheVariants.{Cmd, Is, Serr, Ssts}
use Rattle.hba_regs.specs.declared.reg.Reg.TheVariants.{Px}
use Rattle.adapter.specs.Access.Access.{Reading, Writing}
use Rattle.adapter.specs.Device.{Device}
use Rattle.adapter.specs.declared.access.DeviceStep.{DeviceStep}
use Rattle.adapter.specs.declared.access.DeviceStep.TheVariants as asked
use Rattle.adapter.specs.declared.tape.Entry.TheVariants as entry
use Rattle.refinement.specs.Acts.{driver_state_of_slots}
use Rattle.refinement.specs.Relation.{port_at}
use Rattle.refinement.specs.Driver.{TapeBacksSteps, DriverRelation}
use Rattle.refinement.specs.PreservedParts.{IsPlugEvent}
use Rattle.refinement.specs.Slots.{IsEmptySlot}
use Rattle.block_machine.specs.Events.{AnswersService, StepDevice, ShownDiskWasInOrCame, Happens, Replied, Service, Stepped}
use Rattle.block_machine.specs.Histories.{JointEvent, JointState}
use Rattle.block_machine.specs.Expected.{after}
use Rattle.block_machine.specs.Ports.{PortsWellFormed, Evidence, IsStoppedOrStuck, MayBecomeInService, Ports, SamePort}
use Rattle.block_machine.specs.State.{Machine}
use Rattle.block_machine.specs.Steps.{Answer, Step, Unplug}
use Rattle.host_boot.specs.TakeOver.{wanted_of}
use Rattle.identify.specs.declared.wanted.Wanted.TheVariants.{Any}
use Rattle.port_control.specs.Engines.{Stops}
use Rattle.driver_history.specs.Evidence.{TapeGainsEntry, IsEvidencedOf, ShowsLinkChange}
use Rattle.driver_history.specs.Histories.{IsForeignOrUnfit, IsServedAndNotDead, CallCorresponds, PortCorresponds, ProbesDisk}
use Rattle.driver_history.specs.PortInvariants.{PortStateInvariant}
use Rattle.driver_history.specs.AccessTrace.{DoesNotWriteCmd, WritesNeitherCmdNorSctl, LastSctlWritesResetLink}
use Rattle.witnesses.specs.RunningAdapter.{port_or_empty, ports_with_disks}
use Rattle.witnesses.specs.MissingDisk.{MissingDiskIsAHistory, unfit_look_accesses, missing_disk_turn}
use Rattle.witnesses.proofs.history.Accepting.{first, submit, submit_happens, submit_ties}
use Rattle.witnesses.proofs.history.Booting.{rebooted, unfit}
use Rattle.witnesses.proofs.history.Command.{read_memory}
use Rattle.witnesses.proofs.history.Devices.{AreServing, IsOf, WritesOf, leaves, serving}
use Rattle.witnesses.proofs.history.Holding.{IsUnnamed, gained_none, named, named_is, no_slots, unnamed_evidenced, unserved_at}
use Rattle.witnesses.proofs.history.Issuing.{none_named, nothing}
use Rattle.witnesses.proofs.history.Members.{nowhere}
use Rattle.witnesses.proofs.history.Memory.{past_driver}
use Rattle.witnesses.proofs.history.Pages.{plain_disks}
use Rattle.witnesses.proofs.history.Ready.{agreeing, begins, fit_ready, free_apart, served_of, starts}
use Rattle.witnesses.proofs.history.Resetting.{answered, fit, not_dead, not_ready, rebooted_at, reset, unfit_ports}
use Rattle.witnesses.proofs.history.Resetting as resetting
use Rattle.witnesses.proofs.history.Looking.{absent, allowed, can_go, does, gained, goes, gone, passed, tape_gone, looked_over, unplugged}

-- ---- the calls

abbrev going : Step
going = Unplug (port_at 0)

abbrev unplug : JointEvent Device DeviceStep
unplug = record {
  event = record { call = StepDevice (asked.Unplug (port_at 0)); result = Stepped true; evidence = nothing; steps = going ∷ []; ports = unfit_ports };
  device = unplugged;
}

abbrev without : Machine
without = after answered (going ∷ [])

abbrev unplugged_at : JointState Device
unplugged_at = record { device = unplugged; abstract = record { machine = without; ports = unfit_ports } }

abbrev one_absent : Ports
one_absent = ports_with_disks plain_disks.info (true ∷ true ∷ []) (Absent ∷ Unfit 8 ∷ [])

-- port 0 was stopped
abbrev evidence : Evidence
evidence = record { faults = []; lost = []; link_changed = []; showing_error = []; showing_fatal_error = []; stopped = port_at 0 ∷ []; stuck = [] }

abbrev service : JointEvent Device DeviceStep
service = record {
  event = record { call = Service; result = Replied []; evidence = evidence; steps = []; ports = one_absent };
  device = looked_over;
}

abbrev looked_at : JointState Device
looked_at = record { device = looked_over; abstract = record { machine = without; ports = one_absent } }

-- ---- the ports

not_ready_then : (n : ℕ) → one_absent.state (port_at n) ≡ Ready → ⊥
not_ready_then zero is = let x : Absent ≡ Ready = is in cc
not_ready_then (suc zero) is = let x : Unfit 8 ≡ Ready = is in cc
not_ready_then (suc (suc n)) is = let x : Absent ≡ Ready = is in cc

not_dead_then : (n : ℕ) → one_absent.state (port_at n) ≡ Dead → ⊥
not_dead_then zero is = let x : Absent ≡ Dead = is in cc
not_dead_then (suc zero) is = let x : Unfit 8 ≡ Dead = is in cc
not_dead_then (suc (suc n)) is = let x : Absent ≡ Dead = is in cc

fit_then : PortsWellFormed one_absent
fit_then = record {
  served_are_ports_0_to_3 = fit.served_are_ports_0_to_3;
  unserved_are_absent = λ port is. absent_of port.0 is;
  modes_are_valid = λ port is. absurd (not_ready_then port.0 is);
  causes_are_valid = λ port cause is. cause_of port.0 cause is;
}
  where
    absent_of : (n : ℕ) → one_absent.served (port_at n) ≡ false → one_absent.state (port_at n) ≡ Absent
    absent_of zero is = absurd (true≢false is)
    absent_of (suc zero) is = absurd (true≢false is)
    absent_of (suc (suc n)) is = refl

    cause_of : (n cause : ℕ) → one_absent.state (port_at n) ≡ Unfit cause → (1 ≤ cause) × (cause ≤ 9)
    cause_of zero cause is = absurd (let x : Absent ≡ Unfit cause = is in cc)
    cause_of (suc zero) cause is = let x : Unfit 8 ≡ Unfit cause = is in let same : 8 ≡ cause = cc in (omega (arith, same), omega (arith, same))
    cause_of (suc (suc n)) cause is = absurd (let x : Absent ≡ Unfit cause = is in cc)

-- a port is as it was, but for the first
same_past : (n : ℕ) → SamePort unfit_ports one_absent (port_at (suc n))
same_past zero = (refl, refl, refl, refl, refl, refl)
same_past (suc n) = (refl, refl, refl, refl, refl, refl)

becomes : (n : ℕ) → MayBecomeInService unfit_ports evidence one_absent (port_at n)
becomes n = (
  λ is. absurd (not_dead n is),
  λ _. (record { served_is_unchanged = refl; dead_exactly_if_stuck = (λ is. absurd (not_dead_then n is), λ h. absurd (nowhere (port_at n) h)); disk_is_remembered_unless_ready = λ is. (refl, refl) }, changes n),
)
  where
    changes : (n : ℕ) → SamePort unfit_ports one_absent (port_at n) ⊎ IsStoppedOrStuck evidence (port_at n)
    changes zero = inr (inl (named 0))
    changes (suc n) = inl (same_past n)

had_disk : (n : ℕ) → SamePort unfit_ports one_absent (port_at n) ⊎ ShownDiskWasInOrCame unplugged_at.abstract [] looked_at.abstract (port_at n)
had_disk zero = inr (λ shows. absurd shows)
had_disk (suc n) = inl (same_past n)

-- ---- the disk is taken out

unplug_happens : Happens rebooted_at.abstract unplug.event
unplug_happens = record {
  steps_are_enabled = (tt, refl);
  steps_are_of_call = (tt, inl tt);
  issue_is_last_of_request = (tt, λ id handled issued_in. absurd (true≢false (sym handled)));
  answers_are_lawful = tt;
  ports_are_well_formed = fit;
  unanswered_keep_serial_and_size = λ e o here. absurd (nowhere e here);
  result_matches_steps = ((tt, tt), λ port. (refl, refl, refl, refl, refl, refl));
}

-- another port's disk neither goes nor comes
gains_none : (n : ℕ) → TapeGainsEntry (IsPlugEvent (suc n)) rebooted unplugged → ⊥
gains_none n = gained_none (IsPlugEvent (suc n)) rebooted unplugged gained refl
    (All-cons (λ e. IsPlugEvent (suc n) e → ⊥) (entry.Unplug (port_at 0)) [] (λ (is : 0 ≡ suc n). omega (arith, is)) (All-nil (λ e. IsPlugEvent (suc n) e → ⊥)))

-- a port that isn't the first shows no change
quiet : (n : ℕ) → ShowsLinkChange (port_or_empty (unfit 0 ∷ unfit 1 ∷ []) (suc n)) → ⊥
quiet zero (inl is) = true≢false (sym is)
quiet zero (inr is) = true≢false (sym is)
quiet (suc n) (inl is) = true≢false (sym is)
quiet (suc n) (inr is) = true≢false (sym is)

unplug_part : (n : ℕ) → PortCorresponds rebooted_at unplug [] (port_at n)
unplug_part n = record {
  finds_done = tt;
  lone_plain_faults_are_told_unless_dead = tt;
  probes_disk = tt;
  boots_anew = tt;
  loses_no_error = record {
    ready_errors_are_handled_or_shown = λ ready why. absurd (not_ready n ready);
    changes_are_handled_or_shown_unless_dead = λ tends why. inr (changes n why);
    ready_shows_fault_since_start = λ ready g. absurd (not_ready n ready);
    ready_shows_fatal_since_start = λ ready g. absurd (not_ready n ready);
    ready_shows_plug_event_since_start = λ ready g. absurd (not_ready n ready);
  };
  runs_well_anew = λ why ready. absurd (not_ready n ready);
  handles_evidence = λ why. ⊎_elim (nowhere (port_at n)) (nowhere (port_at n)) why;
}
  where
    changes : (n : ℕ) → ShowsLinkChange (rebooted.port n) ⊎ TapeGainsEntry (IsPlugEvent n) rebooted unplugged → ShowsLinkChange (unplugged.port n)
    changes zero why = inl refl
    changes (suc n) why = absurd (⊎_elim (quiet n) (gains_none n) why)

unplug_backed : TapeBacksSteps rebooted unplugged answered (going ∷ [])
unplug_backed = record {
  disks_tell_sectors_is_same = refl;
  new_entries = gained;
  tape_is = refl;
  tells_device_steps = ([], going ∷ [], [], tt, refl, tt, refl);
  steps_are_faithful = λ _. (tt, tt);
  plugged_disks_match_steps = λ port. ([], plugs port, refl);
}
  where
    plugs : (n : ℕ) → (unplugged.port n).plug_history ≡ (rebooted.port n).plug_history ++ []
    plugs zero = refl
    plugs (suc zero) = refl
    plugs (suc (suc n)) = refl

free : (n k : ℕ) → IsEmptySlot (port_or_empty (gone ∷ unfit 1 ∷ []) n) k
free zero k = record { is_not_issued = refl; is_not_taken = refl; unarmed = refl }
free (suc zero) k = record { is_not_issued = refl; is_not_taken = refl; unarmed = refl }
free (suc (suc n)) k = record { is_not_issued = refl; is_not_taken = refl; unarmed = refl }

unplug_knows : DriverRelation without (driver_state_of_slots no_slots unplugged)
unplug_knows = agreeing without no_slots tape_gone read_memory gone (unfit 1)
    (record { own_first = refl; own_second = refl; disks = (refl, refl); present = present; ids = refl; sizes = refl; bytes = refl; lasting = (refl, refl); still = refl })
    free free_apart (λ f b from small. past_driver f b from) (λ n e may at_port. ⊎_elim (λ z. absurd (nowhere e z.0)) (λ z. absurd (nowhere e z)) may)
  where
    present : (n : ℕ) → without.present (port_at n) ≡ (port_or_empty (gone ∷ unfit 1 ∷ []) n).present
    present zero = refl
    present (suc zero) = refl
    present (suc (suc n)) = cond-false (suc (suc n) == 0) false false (ne_eqb (suc (suc n)) 0 (omega arith))

still_unfit : (n : ℕ) → PortStateInvariant (wanted_of (Any ∷ Any ∷ []) n) no_slots unplugged_at (port_at n) (unfit_ports.served (port_at n)) (unfit_ports.state (port_at n))
still_unfit zero = record {
  adapter_is_on = record { ae_is_set = refl; no_reset = refl };
  backs_state = (
    record { engine_is_stopped = record { st_is_clear = refl; cr_is_clear = refl; no_command_is_issued = λ k. refl; no_command_is_taken = λ k. refl }; sact_is_clear = λ k. refl },
    inr (inl (refl, (0xeb140101, ((refl, refl), refl, refl, λ (e : 0xeb140101 ≡ 0x101). omega (arith, e))))),
  );
  shows_disk_if_in = λ bad. inr refl;
  has_nothing_in_slots = record { all_are_free = λ k. refl; none_is_parked = refl };
  has_no_unanswered = λ e here. absurd (nowhere e here);
  none_is_quarantined = λ e k. absurd (nowhere e k);
}
still_unfit (suc zero) = record {
  adapter_is_on = record { ae_is_set = refl; no_reset = refl };
  backs_state = (
    record { engine_is_stopped = record { st_is_clear = refl; cr_is_clear = refl; no_command_is_issued = λ k. refl; no_command_is_taken = λ k. refl }; sact_is_clear = λ k. refl },
    inr (inl (refl, (0xeb140101, ((refl, refl), refl, refl, λ (e : 0xeb140101 ≡ 0x101). omega (arith, e))))),
  );
  shows_disk_if_in = λ bad. inl refl;
  has_nothing_in_slots = record { all_are_free = λ k. refl; none_is_parked = refl };
  has_no_unanswered = λ e here. absurd (nowhere e here);
  none_is_quarantined = λ e k. absurd (nowhere e k);
}
still_unfit (suc (suc n)) = unserved_at no_slots unplugged_at (suc (suc n)) refl refl (record { all_are_free = λ slot. refl; none_is_parked = refl }) (λ e here. absurd (nowhere e here)) (λ e kept. absurd (nowhere e kept))

unplug_evidenced : (n : ℕ) → IsEvidencedOf unplug.event.call unplug.event.result [] rebooted_at unfit_ports unplugged nothing (port_at n)
unplug_evidenced n = unnamed_evidenced unplug.event.call unplug.event.result [] rebooted_at unfit_ports unplugged nothing (port_at n) (none_named (port_at n)) (λ ready. absurd (not_ready n ready)) (All-nil (WritesNeitherCmdNorSctl (port_at n)))

unfoldable unplug_ties : CallCorresponds (Any ∷ Any ∷ []) rebooted_at unplug
unplug_ties = record {
  accesses = [];
  accesses_are_explained = (refl, inl (record { can = can_go; effect = goes }));
  is_backed = unplug_backed;
  is_evidenced = record { faults_are_told = λ f here. absurd (nowhere f here); each_port_is_evidenced = λ port. unplug_evidenced port.0 };
  only_failed_requeue_if_service = tt;
  issues_all_due = λ port. tt;
  ports_correspond = λ port. unplug_part port.0;
  invariant_holds = (
    no_slots,
    record {
      driver_relation = unplug_knows;
      served_iff_wanted_and_there = λ port low. served_of tape_gone read_memory (gone ∷ unfit 1 ∷ []) port.0;
      is_on_or_served_are_dead = inl (record { ae_is_set = refl; no_reset = refl });
      ports_hold = λ port low. still_unfit port.0;
    },
  );
}

-- ---- the service

answers : AnswersService unplugged_at.abstract evidence [] [] looked_at.abstract
answers = record {
  replies_match = record { answers = []; is_permutation = IsPermutation-refl _; ordered = λ i j d less low. absurd (omega (arith, less, low)); replies_are_of_answers = refl };
  dead_ports_tell_only_port_dead = λ e o here. absurd (nowhere (Answer e o) here);
  unplugged_outcome_empties_port = record { none_is_left = λ e other here. absurd (nowhere (Answer e outcome.Unplugged) here); none_is_told_dead = λ e other here. absurd (nowhere (Answer e outcome.Unplugged) here) };
  none_is_due_where_ready = λ port ready. absurd (not_ready_then port.0 ready);
  empty_unless_ready = λ port other e here. absurd (nowhere e here);
  answers_ok_what_had_ended = λ port ready e here. absurd (nowhere e here);
  port_is_serviced = λ port. becomes port.0;
  shown_disk_was_in_or_came = λ port. had_disk port.0;
}

service_happens : Happens unplugged_at.abstract service.event
service_happens = record {
  steps_are_enabled = tt;
  steps_are_of_call = tt;
  issue_is_last_of_request = tt;
  answers_are_lawful = tt;
  ports_are_well_formed = fit_then;
  unanswered_keep_serial_and_size = λ e o here. absurd (nowhere e here);
  result_matches_steps = answers;
}

stops : Stops (port_at 0) (missing_disk_turn ++ unfit_look_accesses)
stops = record {
  before = Reading (Px (port_at 0) Is) 0x400000 ∷ Reading (Px (port_at 0) Ssts) 0 ∷ Reading (Px (port_at 0) Cmd) 0x4010 ∷ [];
  written_cmd = 0x4010;
  between = [];
  read_cmd = 0x4010;
  later = Writing (Px (port_at 0) Serr) 0xffffffff ∷ Reading (Px (port_at 0) Ssts) 0 ∷ unfit_look_accesses;
  accesses_are = refl;
  start_is_cleared = refl;
  cmd_is_unwritten = All-nil (DoesNotWriteCmd (port_at 0));
  stop_is_shown = refl;
}

of_first : WritesOf (IsOf (port_at 0)) (missing_disk_turn ++ unfit_look_accesses)
of_first = (refl, (refl, tt))

of_served : AreServing (IsServedAndNotDead unfit_ports) (missing_disk_turn ++ unfit_look_accesses)
of_served = (tended 0 refl, (tended 0 refl, (tended 0 refl, ((λ is. cc, tended 0 refl), (tended 0 refl, ((λ is. cc, tended 0 refl), (tended 0 refl, (tended 1 refl, (tended 1 refl, tt)))))))))
  where
    tended : (n : ℕ) → unfit_ports.served (port_at n) ≡ true → IsServedAndNotDead unfit_ports (port_at n)
    tended n served = (served, not_dead n)

unnamed : (n : ℕ) → IsUnnamed evidence (port_at (suc n))
unnamed n = record {
  lost = nowhere (port_at (suc n));
  gone = nowhere (port_at (suc n));
  failed = nowhere (port_at (suc n));
  fatal = nowhere (port_at (suc n));
  stopped = λ h. let same = named_is 0 (suc n) h in omega (arith, same);
  stuck = nowhere (port_at (suc n));
}

service_evidenced : (n : ℕ) → IsEvidencedOf Service (Replied []) (missing_disk_turn ++ unfit_look_accesses) unplugged_at one_absent looked_over evidence (port_at n)
service_evidenced zero = record {
  named_lost_showed_loss_or_changed = λ h. absurd (nowhere (port_at 0) h);
  shown_loss_of_ready_is_named = λ ready loss. absurd (not_ready 0 ready);
  named_link_changed_had_change_or_no_device = λ h. absurd (nowhere (port_at 0) h);
  shown_failure_of_ready_is_named = λ ready f. absurd (not_ready 0 ready);
  named_showing_error_had_error = λ h. absurd (nowhere (port_at 0) h);
  shown_fatal_of_ready_is_named = λ ready f. absurd (not_ready 0 ready);
  named_showing_fatal_had_fatal = λ h. absurd (nowhere (port_at 0) h);
  engine_is_left_or_stopped = inr (inl (named 0));
  named_stopped_was_stopped_or_reset = λ h. inl stops;
  stuck_only = λ h. absurd (nowhere (port_at 0) h);
}
service_evidenced (suc n) = unnamed_evidenced Service (Replied []) (missing_disk_turn ++ unfit_look_accesses) unplugged_at one_absent looked_over evidence (port_at (suc n)) (unnamed n) (λ ready. absurd (not_ready (suc n) ready))
    (leaves (IsOf (port_at 0)) (port_at (suc n)) (λ is. apart (ap (λ (p : Port). p.0) is)) (λ is. apart (ap (λ (p : Port). p.0) is)) (missing_disk_turn ++ unfit_look_accesses) of_first)
  where
    apart : suc n ≡ 0 → ⊥
    apart e = omega (arith, e)

-- the first port's disk isn't there; the other's is, and shows no change
probes : (n : ℕ) → ProbesDisk (missing_disk_turn ++ unfit_look_accesses) unplugged_at one_absent looked_over (port_at n)
probes zero = record {
  absent_with_device_is_booted_dead_or_has_plug_event = λ is. absurd (let x : Unfit 8 ≡ Absent = is in cc);
  absent_gets_first_fis_or_dead_or_no_device = λ is. absurd (let x : Unfit 8 ≡ Absent = is in cc);
  missing_disk_makes_absent_or_dead = λ bad none. inl refl;
  changed_disk_is_booted_or_absent_or_dead = λ bad x. absurd (true≢false (sym x));
}
probes (suc zero) = record {
  absent_with_device_is_booted_dead_or_has_plug_event = λ is. absurd (let x : Unfit 8 ≡ Absent = is in cc);
  absent_gets_first_fis_or_dead_or_no_device = λ is. absurd (let x : Unfit 8 ≡ Absent = is in cc);
  missing_disk_makes_absent_or_dead = λ bad none. absurd (none refl);
  changed_disk_is_booted_or_absent_or_dead = λ bad x. absurd (true≢false (sym x));
}
probes (suc (suc n)) = record {
  absent_with_device_is_booted_dead_or_has_plug_event = λ is there. absurd (let x : 0 ≡ 3 = there in omega (arith, x));
  absent_gets_first_fis_or_dead_or_no_device = λ is there. absurd (let x : 0 ≡ 3 = there in omega (arith, x));
  missing_disk_makes_absent_or_dead = λ bad. absurd (not_bad bad);
  changed_disk_is_booted_or_absent_or_dead = λ bad. absurd (not_bad bad);
}
  where
    not_bad : IsForeignOrUnfit unfit_ports (port_at (suc (suc n))) → ⊥
    not_bad (inl is) = let x : Absent ≡ Foreign = is in cc
    not_bad (inr is) = let x : Absent ≡ Unfit is.0 = is.1 in cc

service_part : (n : ℕ) → PortCorresponds unplugged_at service (missing_disk_turn ++ unfit_look_accesses) (port_at n)
service_part n = record {
  finds_done = λ ready. absurd (not_ready n ready);
  lone_plain_faults_are_told_unless_dead = λ alone. absurd (not_ready n alone.ready);
  probes_disk = λ served none. probes n;
  boots_anew = (λ ready. absurd (not_ready n ready), boots n);
  loses_no_error = record {
    ready_errors_are_handled_or_shown = λ ready why. absurd (not_ready n ready);
    changes_are_handled_or_shown_unless_dead = λ tends why. changes n why;
    ready_shows_fault_since_start = λ ready g. absurd (not_ready_then n ready);
    ready_shows_fatal_since_start = λ ready g. absurd (not_ready_then n ready);
    ready_shows_plug_event_since_start = λ ready g. absurd (not_ready_then n ready);
  };
  runs_well_anew = λ why ready. absurd (not_ready_then n ready);
  handles_evidence = λ ready. absurd (not_ready n ready);
}
  where
    boots : (n : ℕ) → SamePort unfit_ports one_absent (port_at n) ⊎ ((one_absent.state (port_at n) ≡ Dead) ⊎ ((one_absent.state (port_at n) ≡ Absent) ⊎ LastSctlWritesResetLink (port_at n) (missing_disk_turn ++ unfit_look_accesses)))
    boots zero = inr (inr (inl refl))
    boots (suc n) = inl (same_past n)

    quiet_past : (n : ℕ) → ShowsLinkChange (unplugged.port (suc n)) → ⊥
    quiet_past zero shows = quiet 0 shows
    quiet_past (suc n) shows = quiet (suc n) shows

    changes : (n : ℕ) → ShowsLinkChange (unplugged.port n) ⊎ TapeGainsEntry (IsPlugEvent n) unplugged looked_over → IsStoppedOrStuck evidence (port_at n) ⊎ ShowsLinkChange (looked_over.port n)
    changes zero why = inl (inl (named 0))
    changes (suc n) why = absurd (⊎_elim (quiet_past n) (gained_none (IsPlugEvent (suc n)) unplugged looked_over [] (sym (append-nil _)) (All-nil (λ e. IsPlugEvent (suc n) e → ⊥))) why)

service_backed : TapeBacksSteps unplugged looked_over without []
service_backed = record {
  disks_tell_sectors_is_same = refl;
  new_entries = [];
  tape_is = sym (append-nil _);
  tells_device_steps = tt;
  steps_are_faithful = λ _. tt;
  plugged_disks_match_steps = λ port. ([], plugs port, refl);
}
  where
    plugs : (n : ℕ) → (looked_over.port n).plug_history ≡ (unplugged.port n).plug_history ++ []
    plugs zero = refl
    plugs (suc zero) = refl
    plugs (suc (suc n)) = refl

free_then : (n k : ℕ) → IsEmptySlot (port_or_empty (absent ∷ passed ∷ []) n) k
free_then zero k = record { is_not_issued = refl; is_not_taken = refl; unarmed = refl }
free_then (suc zero) k = record { is_not_issued = refl; is_not_taken = refl; unarmed = refl }
free_then (suc (suc n)) k = record { is_not_issued = refl; is_not_taken = refl; unarmed = refl }

service_knows : DriverRelation without (driver_state_of_slots no_slots looked_over)
service_knows = agreeing without no_slots tape_gone read_memory absent passed
    (record { own_first = refl; own_second = refl; disks = (refl, refl); present = present; ids = refl; sizes = refl; bytes = refl; lasting = (refl, refl); still = refl })
    free_then free_apart (λ f b from small. past_driver f b from) (λ n e may at_port. ⊎_elim (λ z. absurd (nowhere e z.0)) (λ z. absurd (nowhere e z)) may)
  where
    present : (n : ℕ) → without.present (port_at n) ≡ (port_or_empty (absent ∷ passed ∷ []) n).present
    present zero = refl
    present (suc zero) = refl
    present (suc (suc n)) = cond-false (suc (suc n) == 0) false false (ne_eqb (suc (suc n)) 0 (omega arith))

holds_of : (n : ℕ) → PortStateInvariant (wanted_of (Any ∷ Any ∷ []) n) no_slots looked_at (port_at n) (one_absent.served (port_at n)) (one_absent.state (port_at n))
holds_of zero = record {
  adapter_is_on = record { ae_is_set = refl; no_reset = refl };
  backs_state = (
    record { engine_is_stopped = record { st_is_clear = refl; cr_is_clear = refl; no_command_is_issued = λ k. refl; no_command_is_taken = λ k. refl }; sact_is_clear = λ k. refl },
    (λ (e : 0 ≡ 3). omega (arith, e), refl),
  );
  shows_disk_if_in = λ bad. inr refl;
  has_nothing_in_slots = record { all_are_free = λ k. refl; none_is_parked = refl };
  has_no_unanswered = λ e here. absurd (nowhere e here);
  none_is_quarantined = λ e k. absurd (nowhere e k);
}
holds_of (suc zero) = record {
  adapter_is_on = record { ae_is_set = refl; no_reset = refl };
  backs_state = (
    record { engine_is_stopped = record { st_is_clear = refl; cr_is_clear = refl; no_command_is_issued = λ k. refl; no_command_is_taken = λ k. refl }; sact_is_clear = λ k. refl },
    inr (inl (refl, (0xeb140101, ((refl, refl), refl, refl, λ (e : 0xeb140101 ≡ 0x101). omega (arith, e))))),
  );
  shows_disk_if_in = λ bad. inl refl;
  has_nothing_in_slots = record { all_are_free = λ k. refl; none_is_parked = refl };
  has_no_unanswered = λ e here. absurd (nowhere e here);
  none_is_quarantined = λ e k. absurd (nowhere e k);
}
holds_of (suc (suc n)) = unserved_at no_slots looked_at (suc (suc n)) refl refl (record { all_are_free = λ slot. refl; none_is_parked = refl }) (λ e here. absurd (nowhere e here)) (λ e kept. absurd (nowhere e kept))

service_ties : CallCorresponds (Any ∷ Any ∷ []) unplugged_at service
service_ties = record {
  accesses = missing_disk_turn ++ unfit_look_accesses;
  accesses_are_explained = (does, serving (IsServedAndNotDead unfit_ports) (missing_disk_turn ++ unfit_look_accesses) of_served);
  is_backed = service_backed;
  is_evidenced = record { faults_are_told = λ f here. absurd (nowhere f here); each_port_is_evidenced = λ port. service_evidenced port.0 };
  only_failed_requeue_if_service = tt;
  issues_all_due = λ port ready. absurd (not_ready_then port.0 ready);
  ports_correspond = λ port. service_part port.0;
  invariant_holds = (
    no_slots,
    record {
      driver_relation = service_knows;
      served_iff_wanted_and_there = λ port low. served_of tape_gone read_memory (absent ∷ passed ∷ []) port.0;
      is_on_or_served_are_dead = inl (record { ae_is_set = refl; no_reset = refl });
      ports_hold = λ port low. holds_of port.0;
    },
  );
}

-- ---- the history

pub missing_disk_is_a_history : MissingDiskIsAHistory
unfolding service_ties unplug_ties
missing_disk_is_a_history = record {
  initial_state = first;
  past = reset ∷ submit ∷ [];
  both_are_unfit = (refl, refl);
  unplug = unplug;
  disk_is_unplugged = (refl, refl);
  port_0_shows_unfit_still = refl;
  service = service;
  service_has_no_replies = (refl, refl);
  port_0_becomes_absent = refl;
  port_1_stays_unfit = refl;
  service_makes_accesses = does;
  accesses_are_allowed = allowed;
  history = ((((((starts, fit_ready plain_disks), begins plain_disks), submit_happens, submit_ties), resetting.happens, resetting.ties), unplug_happens, unplug_ties), service_happens, service_ties);
  accesses = refl;
  unplug_corresponds = λ port. unplug_part port.0;
  service_corresponds = λ port. service_part port.0;
}
