-- A second port is brought up beside the first, each has a command, and the adapter is told to reset itself.
use Rattle.std.proofs.Common.{ℕ, ◌≡◌, ◌≢◌, true, List, [], ◌∷◌, inl, inr, arith, refl, sym, subst, ◌∙◌}
use Rattle.std.proofs.lemmas.Bool.Decides.{eqb_tells}
use Rattle.hba_regs.specs.Bits.{bit}
use Rattle.hba_regs.specs.declared.reg.Reg.TheVariants.{Ghc}
use Rattle.adapter.specs.Access.Access.{Writing}
use Rattle.adapter.specs.Device.{DevicePort, Device}
use Rattle.adapter.specs.Guarded.{IsGuarded, IsGuardedPort, IsGuardedSlot, PassesTest}
use Rattle.adapter.specs.Memory.{changed}
use Rattle.witnesses.specs.AdapterRuns.{AccessOrStep, IsReachableByRun, device_after_run}
use Rattle.witnesses.specs.AdapterRuns.AccessOrStep.{MadeAccess}
use Rattle.witnesses.proofs.adapter.Ports.{are_of, is_of, first, issue_allowed, issued_port, no_bit, may_receive, may_start, reached_more, run_elsewhere, same_others, slot_guarded, untouched}
use Rattle.witnesses.proofs.adapter.Queued.{one_issued, one_issued_reached, queue}
use Rattle.witnesses.proofs.adapter.RunningAdapter.{memory, queued_read, first_says, first_table, other_port_says, other_port_table}
use Rattle.witnesses.proofs.adapter.Sets.{Range, is_in, covers, spares, spares_all, true-false}
use Rattle.witnesses.proofs.adapter.Started.{prepare, start, started, started_elsewhere}

abbrev prepared : Device
prepared = device_after_run (prepare 1 0x800 0x500) one_issued

prepared_reached : IsReachableByRun prepared
unfolding changed same_others
prepared_reached = reached_more one_issued_reached (prepare 1 0x800 0x500) (
  (record { ae_is_set = refl; no_reset = refl }, (omega arith, refl), (refl, refl, refl, omega arith)),
  (
    (record { ae_is_set = refl; no_reset = refl }, (omega arith, refl), (refl, refl, refl)),
    (
      (record { ae_is_set = refl; no_reset = refl }, (omega arith, refl), (refl, refl, refl, omega arith)),
      (
        (record { ae_is_set = refl; no_reset = refl }, (omega arith, refl), (refl, refl, refl)),
        (
          (record { ae_is_set = refl; no_reset = refl }, (omega arith, refl), may_receive _ refl refl refl refl),
          (
            (record { ae_is_set = refl; no_reset = refl }, (omega arith, refl), (refl, inr refl)),
            (
              (record { ae_is_set = refl; no_reset = refl }, (omega arith, refl), (refl, inl refl)),
              tt,
            ),
          ),
        ),
      ),
    ),
  ),
)

abbrev both_started : Device
both_started = device_after_run (start 1) prepared

both_started_reached : IsReachableByRun both_started
unfolding changed same_others
both_started_reached = reached_more prepared_reached (start 1) (
  record { present = refl; no_comreset = refl; link_is_due = refl; sig_is_32_bit = omega arith },
  (
    ((record { ae_is_set = refl; no_reset = refl }, (omega arith, refl)), refl),
    (
      ((record { ae_is_set = refl; no_reset = refl }, (omega arith, refl)), refl),
      (
        (
          record { ae_is_set = refl; no_reset = refl },
          (omega arith, refl),
          may_start _ refl refl (record { clb_is_written = refl; clbu_is_written = refl; fb_is_written = refl; fbu_is_written = refl }) refl refl refl,
        ),
        tt,
      ),
    ),
  ),
)

abbrev both_issued : Device
both_issued = device_after_run (queue 1 1) both_started

both_issued_reached : IsReachableByRun both_issued
unfolding changed
both_issued_reached = reached_more both_started_reached (queue 1 1) (
  (record { ae_is_set = refl; no_reset = refl }, (omega arith, refl), refl),
  (
    (record { ae_is_set = refl; no_reset = refl }, (omega arith, refl), issue_allowed _ _ 0 refl (omega arith) refl refl queued_read (0x2a000 ∷ []) other_port_says (λ n more says is. refl)),
    tt,
  ),
)

abbrev ask_reset : List AccessOrStep
ask_reset = MadeAccess (Writing Ghc 0x80000001) ∷ []

abbrev pub resetting : Device
resetting = device_after_run ask_reset both_issued

pub resetting_reached : IsReachableByRun resetting
resetting_reached = reached_more both_issued_reached ask_reset (tt, tt)

-- ---- safe

-- the headers and tables of both ports' slot 0, but for PRDBC
abbrev pub kept : List Range
kept =
    record { from = 0; to = 4 } ∷ record { from = 8; to = 32 } ∷ record { from = 0x1000; to = 0x1090 } ∷ record { from = 0x800; to = 0x804 }
    ∷ record { from = 0x808; to = 0x820 } ∷ record { from = 0x1c00; to = 0x1c90 } ∷ []

abbrev Safe : ℕ → DevicePort → Type 0
Safe q p = IsGuardedPort (PassesTest (is_in kept)) (PassesTest (is_in kept)) memory p

first_guarded : IsGuardedSlot (PassesTest (is_in kept)) (PassesTest (is_in kept)) memory 0 0
unfolding covers spares spares_all
first_guarded = slot_guarded kept memory 0 0 queued_read (0x28000 ∷ []) first_says 0x1000 first_table refl refl refl refl refl

other_guarded : IsGuardedSlot (PassesTest (is_in kept)) (PassesTest (is_in kept)) memory 0x800 0
unfolding covers spares spares_all
other_guarded = slot_guarded kept memory 0x800 0 queued_read (0x2a000 ∷ []) other_port_says 0x1c00 other_port_table refl refl refl refl refl

-- slot 0 alone is issued
zeroth : (list k : ℕ) → IsGuardedSlot (PassesTest (is_in kept)) (PassesTest (is_in kept)) memory list 0 → bit 1 k ≡ true
    → IsGuardedSlot (PassesTest (is_in kept)) (PassesTest (is_in kept)) memory list k
zeroth list k guarded set =
    elim (eqb_tells k 0) [
      | inl here ↦ (let P : ℕ → Type 0 = λ s. IsGuardedSlot (PassesTest (is_in kept)) (PassesTest (is_in kept)) memory list s in subst P (sym here.1) guarded)
      | inr away ↦ absurd (true-false set (no_bit 0 k away.1))
    ]

port_zero : Safe 0 (resetting.port 0)
unfolding changed spares
port_zero = issued_port kept memory (resetting.port 0) (λ k set. zeroth 0 k first_guarded set) (λ k. refl) (λ _. refl)

port_one : Safe 1 (resetting.port 1)
unfolding changed spares
port_one = issued_port kept memory (resetting.port 1) (λ k set. zeroth 0x800 k other_guarded set) (λ k. refl) (λ _. refl)

elsewhere : (q : ℕ) → q ≢ 0 → q ≢ 1 → resetting.port q ≡ first.port q
unfolding are_of is_of
elsewhere q zero one =
    run_elsewhere 1 ask_reset both_issued refl q one
    ∙ (run_elsewhere 1 (queue 1 1) both_started refl q one
    ∙ (run_elsewhere 1 (start 1) prepared refl q one
    ∙ (run_elsewhere 1 (prepare 1 0x800 0x500) one_issued refl q one
    ∙ (run_elsewhere 0 (queue 0 1) (started 0x400) refl q zero ∙ started_elsewhere 0x400 q zero))))

pub resetting_safe : IsGuarded (PassesTest (is_in kept)) (PassesTest (is_in kept)) resetting
resetting_safe = record {
  tables_are_kept = λ at h. h;
  ports_are_guarded = λ q. elim (eqb_tells q 0) [
    | inl here ↦ (let P : ℕ → Type 0 = λ n. Safe n (resetting.port n) in subst P (sym here.1) port_zero)
    | inr away ↦ elim (eqb_tells q 1) [
      | inl there ↦ (let P : ℕ → Type 0 = λ n. Safe n (resetting.port n) in subst P (sym there.1) port_one)
      | inr further ↦ (let P : DevicePort → Type 0 = λ p. Safe q p in subst P (sym (elsewhere q away.1 further.1)) (untouched kept memory q))
    ]
  ];
}
