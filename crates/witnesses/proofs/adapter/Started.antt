-- A port is brought up: its command list and received FIS area are programmed, the link comes up, and it runs.
use Rattle.std.proofs.Common.{ℕ, ◌≡◌, ◌≢◌, ◌∙◌, ◌+◌, ◌*◌, ◌%◌, ◌≤◌, true, List, [], ◌∷◌, inl, inr, arith, refl}
use Rattle.ata_types.specs.declared.Port.{Port}
use Rattle.hba_regs.specs.declared.reg.Reg.TheVariants.{Ghc, Px}
use Rattle.hba_regs.specs.declared.reg.PortReg.TheVariants.{Clb, Clbu, Fb, Fbu, Cmd, Tfd, Ssts, Sctl}
use Rattle.adapter.specs.Access.Access.{Reading, Writing}
use Rattle.adapter.specs.Device.{Device}
use Rattle.adapter.specs.Memory.{changed}
use Rattle.adapter.specs.Steps.DeviceTransition.{LinkUp}
use Rattle.witnesses.specs.AdapterRuns.{AccessOrStep, IsReachableByRun, device_after_run}
use Rattle.witnesses.specs.AdapterRuns.AccessOrStep.{MadeAccess, DeviceStepCame}
use Rattle.witnesses.proofs.adapter.Ports.{are_of, is_of, first, first_reached, may_receive, may_start, reached_more, run_elsewhere, same_others}

abbrev pub at_port : ℕ → Port
at_port p = record { 0 = p }

abbrev pub switch_on : List AccessOrStep
switch_on = MadeAccess (Writing Ghc 0x80000000) ∷ []

-- until COMRESET has ended
abbrev pub prepare : ℕ → ℕ → ℕ → List AccessOrStep
prepare p list area =
    MadeAccess (Writing (Px (at_port p) Clb) list) ∷ MadeAccess (Writing (Px (at_port p) Clbu) 0) ∷ MadeAccess (Writing (Px (at_port p) Fb) area)
    ∷ MadeAccess (Writing (Px (at_port p) Fbu) 0) ∷ MadeAccess (Writing (Px (at_port p) Cmd) 0x10) ∷ MadeAccess (Writing (Px (at_port p) Sctl) 1)
    ∷ MadeAccess (Writing (Px (at_port p) Sctl) 0) ∷ []

-- the link comes up, and the port is started
abbrev pub start : ℕ → List AccessOrStep
start p =
    DeviceStepCame (LinkUp p 0x101 true) ∷ MadeAccess (Reading (Px (at_port p) Ssts) 3) ∷ MadeAccess (Reading (Px (at_port p) Tfd) 0x77)
    ∷ MadeAccess (Writing (Px (at_port p) Cmd) 0x11) ∷ []

abbrev pub on : Device
on = device_after_run switch_on first

pub on_reached : IsReachableByRun on
on_reached = reached_more first_reached switch_on (tt, tt)

-- where the received FIS area is, is the driver's choice
abbrev pub prepared : ℕ → Device
prepared area = device_after_run (prepare 0 0 area) on

pub prepared_reached : (area : ℕ) → area % 256 ≡ 0 → area + 256 ≤ 4096 * 256 → IsReachableByRun (prepared area)
unfolding changed same_others
prepared_reached area aligned inside = reached_more on_reached (prepare 0 0 area) (
  (record { ae_is_set = refl; no_reset = refl }, (omega arith, refl), (refl, refl, refl, omega arith)),
  (
    (record { ae_is_set = refl; no_reset = refl }, (omega arith, refl), (refl, refl, refl)),
    (
      (record { ae_is_set = refl; no_reset = refl }, (omega arith, refl), (refl, refl, aligned, inside)),
      (
        (record { ae_is_set = refl; no_reset = refl }, (omega arith, refl), (refl, refl, refl)),
        (
          (record { ae_is_set = refl; no_reset = refl }, (omega arith, refl), may_receive _ refl refl refl refl),
          (
            (record { ae_is_set = refl; no_reset = refl }, (omega arith, refl), (refl, inr refl)),
            (
              (record { ae_is_set = refl; no_reset = refl }, (omega arith, refl), (refl, inl refl)),
              tt,
            ),
          ),
        ),
      ),
    ),
  ),
)

abbrev pub started : ℕ → Device
started area = device_after_run (start 0) (prepared area)

pub started_reached : (area : ℕ) → area % 256 ≡ 0 → area + 256 ≤ 4096 * 256 → IsReachableByRun (started area)
unfolding changed same_others
started_reached area aligned inside = reached_more (prepared_reached area aligned inside) (start 0) (
  record { present = refl; no_comreset = refl; link_is_due = refl; sig_is_32_bit = omega arith },
  (
    ((record { ae_is_set = refl; no_reset = refl }, (omega arith, refl)), refl),
    (
      ((record { ae_is_set = refl; no_reset = refl }, (omega arith, refl)), refl),
      (
        (
          record { ae_is_set = refl; no_reset = refl },
          (omega arith, refl),
          may_start _ refl refl (record { clb_is_written = refl; clbu_is_written = refl; fb_is_written = refl; fbu_is_written = refl }) refl refl refl,
        ),
        tt,
      ),
    ),
  ),
)

-- the other ports are as they were
pub prepared_elsewhere : (area q : ℕ) → q ≢ 0 → (prepared area).port q ≡ first.port q
unfolding are_of is_of
prepared_elsewhere area q other = run_elsewhere 0 (prepare 0 0 area) on refl q other

pub started_elsewhere : (area q : ℕ) → q ≢ 0 → (started area).port q ≡ first.port q
unfolding are_of is_of
started_elsewhere area q other = run_elsewhere 0 (start 0) (prepared area) refl q other ∙ prepared_elsewhere area q other
