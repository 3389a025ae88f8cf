-- What comes where no command was issued: the port meets a fatal error, loses its disk, gets it again, is written to, and is stopped.
use Rattle.std.proofs.Common.{ℕ, ◌≡◌, ◌≢◌, true, List, [], ◌∷◌, inl, inr, arith, refl, sym, ap, ◌∙◌}
use Rattle.std.proofs.lemmas.Option.{same_Some}
use Rattle.hba_regs.specs.declared.reg.Reg.TheVariants.{Px}
use Rattle.hba_regs.specs.declared.reg.PortReg.TheVariants.{Cmd}
use Rattle.adapter.specs.Access.Access.{Writing}
use Rattle.adapter.specs.Device.{Device}
use Rattle.adapter.specs.FirstRead.{first_disk, first_disk_sector}
use Rattle.adapter.specs.Memory.{changed}
use Rattle.adapter.specs.Steps.{Can}
use Rattle.adapter.specs.Steps.DeviceTransition.{Fall, Fatal, FrFall, LinkUp, Plug, Scribble, Unplug}
use Rattle.witnesses.specs.AdapterRuns.{AccessOrStep, IsReachableByRun, CommandBytesAreGuarded, device_after_run}
use Rattle.witnesses.specs.AdapterRuns.AccessOrStep.{MadeAccess, DeviceStepCame}
use Rattle.witnesses.proofs.adapter.Ports.{are_of, is_of, disk_is, first, others_are, reached_more, run_elsewhere, same_others, unused_safe}
use Rattle.witnesses.proofs.adapter.Sets.{all_bytes, are_bytes, true-false}
use Rattle.witnesses.proofs.adapter.Started.{at_port, prepared, prepared_elsewhere, prepared_reached, started, started_elsewhere, started_reached}

-- ---- the link comes up

abbrev pub linking : Device
linking = prepared 0x400

pub linking_reached : IsReachableByRun linking
linking_reached = prepared_reached 0x400 refl (omega arith)

pub linking_safe : CommandBytesAreGuarded linking
unfolding changed
linking_safe = unused_safe linking (λ k. refl) (λ k. refl) (prepared_elsewhere 0x400)

pub may_link : Can (LinkUp 0 0x101 true) linking
unfolding changed
may_link = record { present = refl; no_comreset = refl; link_is_due = refl; sig_is_32_bit = omega arith }

-- ---- the port runs

abbrev pub running : Device
running = started 0x400

pub running_reached : IsReachableByRun running
running_reached = started_reached 0x400 refl (omega arith)

pub running_safe : CommandBytesAreGuarded running
unfolding changed
running_safe = unused_safe running (λ k. refl) (λ k. refl) (started_elsewhere 0x400)

pub may_break : Can (Fatal 0 27) running
unfolding changed
may_break = (refl, inl refl)

pub may_scribble : Can (Scribble 0 0 0x400 (0xff ∷ [])) running
unfolding changed are_bytes
may_scribble = record { fre_is_set = refl; place = inl (omega arith, omega arith); are_bytes = all_bytes (0xff ∷ []) refl }

-- ---- the disk is taken out, and put in again

pub may_unplug : Can (Unplug 0) running
unfolding changed
may_unplug = refl

abbrev pub unplugged : Device
unplugged = device_after_run (DeviceStepCame (Unplug 0) ∷ []) running

pub unplugged_reached : IsReachableByRun unplugged
unplugged_reached = reached_more running_reached (DeviceStepCame (Unplug 0) ∷ []) (may_unplug, tt)

pub unplugged_safe : CommandBytesAreGuarded unplugged
unfolding changed are_of is_of
unplugged_safe = unused_safe unplugged (λ k. refl) (λ k. refl)
    (λ q away. run_elsewhere 0 (DeviceStepCame (Unplug 0) ∷ []) running refl q away ∙ started_elsewhere 0x400 q away)

pub may_plug : Can (Plug 0 first_disk) unplugged
unfolding changed
may_plug = (refl, disk_is, λ _. (first_disk_sector, refl), λ _. record { size = refl; holds = λ last told is_last is_told k lt. inl (ap (λ (f : ℕ → List ℕ). f k) (sym (same_Some first_disk_sector told is_told) ∙ same_Some first_disk_sector last is_last)) })

-- ---- it is stopped

abbrev stop : List AccessOrStep
stop = MadeAccess (Writing (Px (at_port 0) Cmd) 0x10) ∷ []

abbrev pub stopped : Device
stopped = device_after_run stop running

pub stopped_reached : IsReachableByRun stopped
unfolding changed same_others
stopped_reached = reached_more running_reached stop (
  (
    record { ae_is_set = refl; no_reset = refl },
    (omega arith, refl),
    record {
      start = λ h. absurd (true-false h refl);
      receive = λ _. inl refl;
      stop_receiving = λ h. absurd (true-false refl h);
      other_bits_are_kept = others_are 0x10 0 refl;
    },
  ),
  tt,
)

stopped_elsewhere : (q : ℕ) → q ≢ 0 → stopped.port q ≡ first.port q
unfolding are_of is_of
stopped_elsewhere q away = run_elsewhere 0 stop running refl q away ∙ started_elsewhere 0x400 q away

pub stopped_safe : CommandBytesAreGuarded stopped
unfolding changed
stopped_safe = unused_safe stopped (λ k. refl) (λ k. refl) stopped_elsewhere

pub may_fall : Can (Fall 0) stopped
unfolding changed
may_fall = (refl, refl)

abbrev stop_receiving : List AccessOrStep
stop_receiving = DeviceStepCame (Fall 0) ∷ MadeAccess (Writing (Px (at_port 0) Cmd) 0) ∷ []

abbrev pub silent : Device
silent = device_after_run stop_receiving stopped

pub silent_reached : IsReachableByRun silent
unfolding changed same_others
silent_reached = reached_more stopped_reached stop_receiving (
  may_fall,
  (
    (
      record { ae_is_set = refl; no_reset = refl },
      (omega arith, refl),
      record {
        start = λ h. absurd (true-false h refl);
        receive = λ h. absurd (true-false h refl);
        stop_receiving = λ _. inr (record { st_is_clear = refl; cr_is_clear = refl }, refl);
        other_bits_are_kept = others_are 0 0 refl;
      },
    ),
    tt,
  ),
)

pub silent_safe : CommandBytesAreGuarded silent
unfolding changed are_of is_of
silent_safe = unused_safe silent (λ k. refl) (λ k. refl)
    (λ q away. run_elsewhere 0 stop_receiving stopped refl q away ∙ stopped_elsewhere q away)

pub may_fall_silent : Can (FrFall 0) silent
unfolding changed
may_fall_silent = (refl, refl, refl)
