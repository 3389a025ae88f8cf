-- What holds after a restart that found no ATA disk; and what every call that makes it, a service or a tick, has done of the evidence and of each port.
use Rattle.std.proofs.Common.{ℕ, zero, suc, ◌≡◌, ◌≤◌, ◌++◌, true, false, List, [], ◌∷◌, inl, inr, ⊎_elim, refl, sym, ap, arith, ◌⊎◌, append_assoc, append-nil}
use Rattle.std.specs.List.{All, Contains}
use Rattle.std.proofs.lemmas.Bool.{true≢false}
use Rattle.std.proofs.lemmas.List.Elements.{All-nil, All-from_recursion}
use Rattle.ata_types.specs.declared.Port.{Port}
use Rattle.ata_types.specs.declared.PortState.TheVariants.{Absent, Dead, Ready, Unfit}
use Rattle.ata_types.specs.declared.request.Outcome.{Outcome}
use Rattle.ata_types.specs.declared.request.Outcome.TheVariants as outcome
use Rattle.ata_types.specs.declared.request.Reply.{Reply}
use Rattle.hba_regs.specs.Bits.{bit}
use Rattle.hba_regs.specs.declared.reg.Reg.{Reg}
use Rattle.hba_regs.specs.declared.reg.Reg.TheVariants.{Px}
use Rattle.hba_regs.specs.declared.reg.Reg.TheVariants as registers
use Rattle.hba_regs.specs.declared.reg.PortReg.TheVariants.{Cmd, Is, Sctl, Serr, Sig, Ssts, Tfd}
use Rattle.adapter.specs.Access.{Access}
use Rattle.adapter.specs.Access.Access.{Reading, Writing}
use Rattle.adapter.specs.Device.{Device, DevicePort}
use Rattle.adapter.specs.declared.access.DeviceStep.{DeviceStep}
use Rattle.adapter.specs.declared.command.Operation.TheVariants.{Identify}
use Rattle.refinement.specs.Acts.{driver_state_of_slots}
use Rattle.refinement.specs.Relation.{port_at}
use Rattle.refinement.specs.Driver.{TapeBacksSteps, DriverRelation}
use Rattle.refinement.specs.PreservedParts.{DoesNotWrite}
use Rattle.refinement.specs.Slots.{IsEmptySlot, IsMove, ServesRequest}
use Rattle.refinement.specs.Tape.{NoneByDevice, PortPlugsPutInDisks}
use Rattle.refinement.specs.ReadWitness.{first_id}
use Rattle.block_machine.specs.Events.{AbstractCall, AbstractCallResult, UnpluggedOutcomeEmptiesPort}
use Rattle.block_machine.specs.Histories.{JointState}
use Rattle.block_machine.specs.Expected.{AllStepsFaithful, after}
use Rattle.block_machine.specs.Ports.{PortsWellFormed, Evidence, MayBecome, Ports, SamePort}
use Rattle.block_machine.specs.State.{Machine, Pending}
use Rattle.block_machine.specs.Steps.{Step, Answer}
use Rattle.host_boot.specs.TakeOver.{wanted_of}
use Rattle.identify.specs.declared.wanted.Wanted.TheVariants.{Any}
use Rattle.driver_history.specs.Evidence.{IsEvidencedOf, ShowsFailure, ShowedLinkChangeOrNoDeviceAndNoneCame}
use Rattle.error_recovery.specs.Evidence.{ShowsFatal}
use Rattle.driver_history.specs.Histories.{FindsDone, IsAnsweredOk, LosesNoPortError, RunsWellAnew}
use Rattle.driver_history.specs.PortInvariants.{PortStateInvariant, DriverInvariantWith, IsReadyAt, IsStoppedAt}
use Rattle.driver_history.specs.AccessTrace.{DoesNotWriteCmd, LastSctlWritesResetLink}
use Rattle.port_control.specs.Engines.{Stops}
use Rattle.witnesses.specs.Restart.{mask_accesses, base_address_accesses, comreset_accesses, port_0_lost_and_stopped_evidence, stop_and_comreset_accesses, stop_engine_accesses}
use Rattle.witnesses.specs.RunningAdapter.{port_or_empty, page_entry, plain_disk_mode, ports_with_disks}
use Rattle.witnesses.proofs.history.Accepting.{asked, both, issuing, waiting}
use Rattle.witnesses.proofs.history.Command.{read_memory}
use Rattle.witnesses.proofs.history.Devices.{AreServing, IsOf, WritesOf, leaves}
use Rattle.witnesses.proofs.history.Holding.{IsCalm, IsUnnamed, fit_disk, named, named_is, no_slots, no_trouble, requests_none, runs_on, unfailing, unlost, unnamed_evidenced, unserved_at}
use Rattle.witnesses.proofs.history.Members.{nowhere}
use Rattle.witnesses.proofs.history.Memory.{past_driver}
use Rattle.witnesses.proofs.history.Pages.{plain_disks}
use Rattle.witnesses.proofs.history.Ready.{agreeing, fit_ready, free_apart, served_of, served_ready}
use Rattle.witnesses.proofs.history.Restarting.{Outset, dev, tape, unfit}
use Rattle.witnesses.proofs.history.Submitting.{issued, second}

-- ---- the ports

abbrev pub one : Ports
one = ports_with_disks plain_disks.info (true ∷ true ∷ []) (Unfit 8 ∷ Ready ∷ [])

pub fit_one : PortsWellFormed one
fit_one = record {
  served_are_ports_0_to_3 = (fit_ready plain_disks).served_are_ports_0_to_3;
  unserved_are_absent = λ port is. absent_of port.0 is;
  modes_are_valid = λ port is. plain_disks.mode;
  causes_are_valid = λ port cause is. cause_of port.0 cause is;
}
  where
    absent_of : (n : ℕ) → one.served (port_at n) ≡ false → one.state (port_at n) ≡ Absent
    absent_of zero is = absurd (true≢false is)
    absent_of (suc zero) is = absurd (true≢false is)
    absent_of (suc (suc n)) is = refl

    cause_of : (n cause : ℕ) → one.state (port_at n) ≡ Unfit cause → (1 ≤ cause) × (cause ≤ 9)
    cause_of zero cause is = let x : Unfit 8 ≡ Unfit cause = is in let same : 8 ≡ cause = cc in (omega (arith, same), omega (arith, same))
    cause_of (suc zero) cause is = absurd (let x : Ready ≡ Unfit cause = is in cc)
    cause_of (suc (suc n)) cause is = absurd (let x : Absent ≡ Unfit cause = is in cc)

pub not_dead_then : (n : ℕ) → one.state (port_at n) ≡ Dead → ⊥
not_dead_then zero is = let x : Unfit 8 ≡ Dead = is in cc
not_dead_then (suc zero) is = let x : Ready ≡ Dead = is in cc
not_dead_then (suc (suc n)) is = let x : Absent ≡ Dead = is in cc

pub not_ready_then : one.state (port_at 0) ≡ Ready → ⊥
not_ready_then is = let x : Unfit 8 ≡ Ready = is in cc

-- what a restart may make of them
pub may_become : (failed : List Port) (n : ℕ) → MayBecome both (port_0_lost_and_stopped_evidence failed) one (port_at n)
may_become failed n = record {
  served_is_unchanged = refl;
  dead_exactly_if_stuck = (λ is. absurd (not_dead_then n is), λ h. absurd (nowhere (port_at n) h));
  disk_is_remembered_unless_ready = λ is. (refl, refl);
}

-- and the others are left as they are
pub others_same : (n : ℕ) → SamePort both one (port_at (suc n))
others_same zero = (refl, refl, refl, refl, refl, refl)
others_same (suc n) = (refl, refl, refl, refl, refl, refl)

-- ---- the machine: the read is answered

abbrev pub answered : Machine
answered = after issuing (Answer waiting outcome.Unplugged ∷ [])

abbrev pub replies : List Reply
replies = record { id = first_id; client = asked.client; outcome = outcome.Unplugged } ∷ []

-- ---- what holds

module _ (c : Outset) where
  abbrev pub booted : Device
  booted = dev (tape c) (unfit c)

  abbrev pub booted_at : JointState Device
  booted_at = record { device = booted; abstract = record { machine = answered; ports = one } }

  free : (n k : ℕ) → IsEmptySlot (port_or_empty (unfit c ∷ second ∷ []) n) k
  free zero k = record { is_not_issued = refl; is_not_taken = refl; unarmed = refl }
  free (suc zero) k = record { is_not_issued = refl; is_not_taken = refl; unarmed = refl }
  free (suc (suc n)) k = record { is_not_issued = refl; is_not_taken = refl; unarmed = refl }

  present : (n : ℕ) → answered.present (port_at n) ≡ (port_or_empty (unfit c ∷ second ∷ []) n).present
  present zero = refl
  present (suc zero) = refl
  present (suc (suc n)) = refl

  knows : DriverRelation answered (driver_state_of_slots no_slots booted)
  knows = agreeing answered no_slots (tape c) read_memory (unfit c) second
      (record { own_first = refl; own_second = refl; disks = (refl, refl); present = present; ids = refl; sizes = refl; bytes = refl; lasting = (refl, refl); still = c.still })
      free free_apart (λ f b from small. past_driver f b from) (λ n e may at_port. ⊎_elim (λ z. absurd (nowhere e z.0)) (λ z. absurd (nowhere e z)) may)

  -- its signature was read, and is no ATA disk's
  port_unfit : IsStoppedAt Any no_slots booted_at (port_at 0) (Unfit 8)
  port_unfit = record {
    adapter_is_on = record { ae_is_set = refl; no_reset = refl };
    backs_state = (
      record { engine_is_stopped = record { st_is_clear = refl; cr_is_clear = refl; no_command_is_issued = λ k. refl; no_command_is_taken = λ k. refl }; sact_is_clear = λ k. refl },
      inr (inl (refl, (0xeb140101, ((refl, refl), refl, refl, λ (e : 0xeb140101 ≡ 0x101). omega (arith, e))))),
    );
    shows_disk_if_in = λ bad. inl refl;
    has_nothing_in_slots = record { all_are_free = λ k. refl; none_is_parked = refl };
    has_no_unanswered = λ e here. absurd (nowhere e here);
    none_is_quarantined = λ e k. absurd (nowhere e k);
  }

  -- where no page of port 1 came since its boot
  module _ (unpaged : All (λ e. IsMove 1 Identify e → ⊥) c.new_entries) where
    port_ready : IsReadyAt Any no_slots booted_at (port_at 1)
    port_ready = record {
      adapter_is_on = record { ae_is_set = refl; no_reset = refl };
      engine_runs = runs_on 1 booted refl refl refl refl refl (omega arith) refl refl refl;
      info = plain_disks.info;
      has_fit_disk = fit_disk plain_disks 1 booted (page_entry plain_disks.page 0 ∷ []) c.new_entries refl refl refl refl unpaged;
      shows_disk_info = record { serial = refl; sectors = refl; zeroes_after_trim_is = refl; mode = refl };
      slots_invariant = requests_none no_slots booted_at (port_at 1) plain_disk_mode (λ slot. refl) refl;
      none_is_quarantined = λ e k. absurd (nowhere e k);
    }

    port_booted : (n : ℕ) → PortStateInvariant (wanted_of (Any ∷ Any ∷ []) n) no_slots booted_at (port_at n) (one.served (port_at n)) (one.state (port_at n))
    port_booted zero = port_unfit
    port_booted (suc zero) = port_ready
    port_booted (suc (suc n)) = unserved_at no_slots booted_at (suc (suc n)) refl refl (record { all_are_free = λ slot. refl; none_is_parked = refl }) (λ e here. absurd (nowhere e here)) (λ e kept. absurd (nowhere e kept))

    pub holds_booted : DriverInvariantWith (Any ∷ Any ∷ []) no_slots booted_at
    holds_booted = record {
      driver_relation = knows;
      served_iff_wanted_and_there = λ port low. served_of (tape c) read_memory (unfit c ∷ second ∷ []) port.0;
      is_on_or_served_are_dead = inl (record { ae_is_set = refl; no_reset = refl });
      ports_hold = λ port low. port_booted port.0;
    }

-- ---- what the accesses tell

-- the last of them, once COMRESET was sent
abbrev rest : List Access
rest =
    Reading (Px (port_at 0) Ssts) 3 ∷ Writing (Px (port_at 0) Serr) 0xffffffff ∷ Writing (Px (port_at 0) Is) 0xffffffff
    ∷ Reading (Px (port_at 0) Tfd) 0x77 ∷ Reading (Px (port_at 0) Sig) 0xeb140101 ∷ []

-- the accesses before them are these
module _ (looked : List Access) where
  pub stops : Stops (port_at 0) (looked ++ stop_and_comreset_accesses)
  stops = record {
    before = looked ++ (mask_accesses ++ Reading (Px (port_at 0) Cmd) 0xc011 ∷ []);
    written_cmd = 0xc010;
    between = [];
    read_cmd = 0x4010;
    later = base_address_accesses ++ comreset_accesses;
    accesses_are = sym (append_assoc looked (mask_accesses ++ Reading (Px (port_at 0) Cmd) 0xc011 ∷ []) _);
    start_is_cleared = refl;
    cmd_is_unwritten = All-nil (DoesNotWriteCmd (port_at 0));
    stop_is_shown = refl;
  }

  pub resets : LastSctlWritesResetLink (port_at 0) (looked ++ stop_and_comreset_accesses)
  resets = record {
    before = looked ++ (mask_accesses ++ (stop_engine_accesses ++ base_address_accesses));
    between = [];
    later = rest;
    comreset_value = 1;
    end_of_comreset_value = 0;
    accesses_are_split = sym (append_assoc looked (mask_accesses ++ (stop_engine_accesses ++ base_address_accesses)) _);
    sends_comreset = refl;
    ends_comreset = refl;
    sctl_is_unwritten_between = All-nil (DoesNotWrite (Px (port_at 0) Sctl));
    sctl_is_unwritten_later = All-from_recursion (DoesNotWrite (Px (port_at 0) Sctl)) rest (tt, (λ is. cc, (λ is. cc, (tt, (tt, tt)))));
  }

-- they write registers of port 0, and IS
abbrev pub IsWritten : Reg → Type 0
IsWritten r = IsOf (port_at 0) r ⊎ (r ≡ registers.Is)

pub of_first : WritesOf IsWritten stop_and_comreset_accesses
of_first = (inl refl, (inl refl, (inl refl, (inl refl, (inl refl, (inl refl, (inl refl, (inl refl, (inl refl, (inl refl, (inl refl, tt)))))))))))

-- a call that may use that port may make them
pub of_served : (Such : Port → Type 0) → Such (port_at 0) → AreServing Such stop_and_comreset_accesses
of_served Such tended = (tended, (tended, (tended, ((λ is. cc, tended), (tended, (tended, ((λ is. cc, tended), (tended, ((λ is. cc, tended), ((λ is. cc, tended), ((λ is. cc, tended), ((λ is. cc, tended), (tended, ((λ is. cc, tended), ((λ is. cc, tended), ((λ is. cc, tended), (tended, ((λ is. cc, tended), ((λ is. cc, tended), (tended, (tended, tt)))))))))))))))))))))

-- ---- the call

-- A call that restarts the port: what it asks and says, its steps, the machine and port 0 when it began, its accesses before the masks are read, what was so
-- then, and the ports on which something had failed.
pub record Restart : Type 0 where
  pub ask : AbstractCall DeviceStep
  pub said : AbstractCallResult
  pub steps : List Step
  pub machine : Machine
  pub port : DevicePort
  pub looked : List Access
  pub outset : Outset
  pub failed : List Port

module _ (c : Restart) where
  abbrev pub old_device : Device
  old_device = dev (tape c.outset) c.port

  abbrev pub old : JointState Device
  old = record { device = old_device; abstract = record { machine = c.machine; ports = both } }

  abbrev pub accesses : List Access
  accesses = c.looked ++ stop_and_comreset_accesses

  abbrev pub evidence : Evidence
  evidence = port_0_lost_and_stopped_evidence c.failed

  abbrev after_it : Device
  after_it = booted c.outset

  -- Port 0 shows its device, and no change; a failure it shows exactly if it is named; the masks are those of the read; the steps are the driver's own, and answer nothing but Unplugged.
  pub record IsRestart : Type 0 where
    pub no_change : (c.port.serr_n ≡ false) × (c.port.serr_x ≡ false)
    pub device : c.port.ssts_det ≡ 3
    pub failed_all : ShowsFailure c.port → Contains c.failed (port_at 0)
    pub failed_only : (n : ℕ) → Contains c.failed (port_at n) → (n ≡ 0) × ShowsFatal c.port
    pub writes : WritesOf IsWritten accesses
    pub running : All (DoesNotWriteCmd (port_at 0)) c.looked
    pub unfound : (e : Pending) (slot : ℕ) → ServesRequest c.machine read_memory c.port 0 slot e.request.id → bit 1 slot ≡ false → ⊥
    pub told : (e : Pending) (o : Outcome) → Contains c.steps (Answer e o) → o ≡ outcome.Unplugged
    pub own : NoneByDevice c.steps × AllStepsFaithful c.machine c.steps × ((n : ℕ) → PortPlugsPutInDisks n [] c.steps)
    pub plugged : issued.plug_history ≡ c.port.plug_history ++ []

  module _ (is : IsRestart) where
    pub there : (n : ℕ) → both.state (port_at n) ≡ Ready → ShowedLinkChangeOrNoDeviceAndNoneCame (port_at n) old_device after_it → ⊥
    there zero ready = unlost (port_at 0) old_device after_it is.no_change.0 is.no_change.1 is.device
    there (suc zero) ready = unlost (port_at 1) old_device after_it refl refl refl
    there (suc (suc n)) ready = absurd (let x : Absent ≡ Ready = ready in cc)

    -- another port shows no failure
    pub quiet : (n : ℕ) → both.state (port_at (suc n)) ≡ Ready → ShowsFailure (old_device.port (suc n)) → ⊥
    quiet zero ready = unfailing second (λ place from. refl)
    quiet (suc n) ready = absurd (let x : Absent ≡ Ready = ready in cc)

    pub unnamed : (n : ℕ) → IsUnnamed evidence (port_at (suc n))
    unnamed n = record {
      lost = other;
      gone = nowhere (port_at (suc n));
      failed = λ h. let z = (is.failed_only (suc n) h).0 in omega (arith, z);
      fatal = λ h. let z = (is.failed_only (suc n) h).0 in omega (arith, z);
      stopped = other;
      stuck = nowhere (port_at (suc n));
    }
      where
        other : Contains (port_at 0 ∷ []) (port_at (suc n)) → ⊥
        other h = let same = named_is 0 (suc n) h in omega (arith, same)

    pub evidenced : (n : ℕ) → IsEvidencedOf c.ask c.said accesses old one after_it evidence (port_at n)
    evidenced zero = record {
      named_lost_showed_loss_or_changed = λ h. inr (inr (inr (not_dead_then 0, λ ready. absurd (not_ready_then ready))));
      shown_loss_of_ready_is_named = λ ready loss. absurd (there 0 ready loss);
      named_link_changed_had_change_or_no_device = λ h. absurd (nowhere (port_at 0) h);
      shown_failure_of_ready_is_named = λ ready f. is.failed_all f;
      named_showing_error_had_error = λ h. (refl, inl (inl (is.failed_only 0 h).1));
      shown_fatal_of_ready_is_named = λ ready f. is.failed_all (inl f);
      named_showing_fatal_had_fatal = λ h. (refl, inl (is.failed_only 0 h).1);
      engine_is_left_or_stopped = inr (inl (named 0));
      named_stopped_was_stopped_or_reset = λ h. inl (stops c.looked);
      stuck_only = λ h. absurd (nowhere (port_at 0) h);
    }
    evidenced (suc n) = unnamed_evidenced c.ask c.said accesses old one after_it evidence (port_at (suc n)) (unnamed n) (λ ready. (there (suc n) ready, quiet n ready))
        (leaves IsWritten (port_at (suc n)) (⊎_elim (λ is. apart (ap (λ (p : Port). p.0) is)) (λ is. cc)) (⊎_elim (λ is. apart (ap (λ (p : Port). p.0) is)) (λ is. cc)) accesses is.writes)
      where
        apart : suc n ≡ 0 → ⊥
        apart e = omega (arith, e)

    -- no answer is Ok
    none_ok : (e : Pending) → IsAnsweredOk e c.steps → ⊥
    none_ok e a = let same : outcome.Ok ≡ outcome.Unplugged = is.told a.0 outcome.Ok a.2 in cc

    -- and no request is left
    pub unplugs : UnpluggedOutcomeEmptiesPort c.steps answered
    unplugs = record {
      none_is_left = λ e other here there. absurd (nowhere other there);
      none_is_told_dead = λ e other here there. absurd (let x : outcome.PortDead ≡ outcome.Unplugged = is.told other outcome.PortDead there in cc);
    }

    pub backed : TapeBacksSteps old_device after_it c.machine c.steps
    backed = record {
      disks_tell_sectors_is_same = refl;
      new_entries = [];
      tape_is = sym (append-nil _);
      tells_device_steps = is.own.0;
      steps_are_faithful = λ _. is.own.1;
      plugged_disks_match_steps = λ port. ([], plugs port, is.own.2 port);
    }
      where
        plugs : (n : ℕ) → (after_it.port n).plug_history ≡ (old_device.port n).plug_history ++ []
        plugs zero = is.plugged
        plugs (suc zero) = refl
        plugs (suc (suc n)) = refl

    pub finds : FindsDone (port_at 0) accesses old c.steps
    finds = record {
      ci = 1;
      sact = 0;
      reads = record { before = c.looked; later = stop_engine_accesses ++ (base_address_accesses ++ comreset_accesses); accesses_are_split = refl; cmd_is_unwritten_before = is.running };
      answered_iff_done = λ e slot on s. (λ ok. absurd (none_ok e ok), λ clear. absurd (is.unfound e slot s clear.0));
    }

    pub port_error : (n : ℕ) → LosesNoPortError evidence old one after_it (port_at n)
    port_error zero = record {
      ready_errors_are_handled_or_shown = λ ready why. inl (inl (named 0));
      changes_are_handled_or_shown_unless_dead = λ tends why. inl (inl (named 0));
      ready_shows_fault_since_start = λ ready g. absurd (not_ready_then ready);
      ready_shows_fatal_since_start = λ ready g. absurd (not_ready_then ready);
      ready_shows_plug_event_since_start = λ ready g. absurd (not_ready_then ready);
    }
    port_error (suc n) = no_trouble evidence old one after_it (port_at (suc n)) [] (sym (append-nil _)) (All-nil (IsCalm (suc n))) (served_ready (suc n)) (λ ready. (there (suc n) ready, quiet n ready))

    pub well : (n : ℕ) → RunsWellAnew evidence accesses old one after_it (port_at n)
    well zero = λ why ready. absurd (not_ready_then ready)
    well (suc n) = λ why. absurd (⊎_elim (unnamed n).stopped (unnamed n).stuck why)
