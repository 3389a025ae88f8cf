-- Two queued reads are issued and taken; the second moves its sector and may end, while the first is taken still, or fails.
use Rattle.std.proofs.Common.{ℕ, ◌≡◌, ◌≢◌, subst, ◌⊎◌, ◌+◌, ◌*◌, ◌%◌, ◌≤◌, ◌||◌, true, false, List, [], ◌∷◌, Option, Some, None, ne_eqb, inl, inr, arith, refl, sym, ap, ◌∙◌}
use Rattle.std.proofs.lemmas.Bool.Decides.{eqb_tells}
use Rattle.hba_regs.specs.Bits.{bit}
use Rattle.hba_regs.specs.declared.reg.Reg.TheVariants.{Px}
use Rattle.hba_regs.specs.declared.reg.PortReg.TheVariants.{Ci, Sact}
use Rattle.adapter.specs.Access.Access.{Writing}
use Rattle.adapter.specs.Commands.{is_queued}
use Rattle.adapter.specs.Device.{FetchedCommand, DevicePort, Device}
use Rattle.adapter.specs.FirstRead.{first_disk_sector}
use Rattle.adapter.specs.Guarded.{IsGuarded, IsGuardedPort, IsGuardedSlot, PassesTest}
use Rattle.adapter.specs.Memory.{changed}
use Rattle.adapter.specs.Steps.{Steps, Can, newly_fetched, device_after}
use Rattle.adapter.specs.Steps.DeviceTransition.{Fetch, Move, Done, Fault}
use Rattle.adapter.specs.declared.command.Operation.TheVariants.{ReadQueued, Trim}
use Rattle.witnesses.specs.AdapterRuns.{AccessOrStep, IsReachableByRun, device_after_run}
use Rattle.witnesses.specs.AdapterRuns.AccessOrStep.{MadeAccess, DeviceStepCame}
use Rattle.witnesses.proofs.adapter.Ports.{reached_more, issue_allowed, slot_guarded, issued_port, told_bytes, are_of, is_of, run_elsewhere, first, no_bit, untouched}
use Rattle.witnesses.proofs.adapter.RunningAdapter.{memory, queued_read, first_says, first_table, second_says, second_table}
use Rattle.witnesses.proofs.adapter.Sets.{Range, is_in, covers, spares, spares_all, true-false}
use Rattle.witnesses.proofs.adapter.Started.{at_port, started, started_reached, started_elsewhere}

-- the slot's bits of PxSACT and PxCI are set
abbrev pub queue : ℕ → ℕ → List AccessOrStep
queue p bits = MadeAccess (Writing (Px (at_port p) Sact) bits) ∷ MadeAccess (Writing (Px (at_port p) Ci) bits) ∷ []

-- the read in slot 0 is issued, whatever the received FIS area is
abbrev pub issued_at : ℕ → Device
issued_at area = device_after_run (queue 0 1) (started area)

pub issued_at_reached : (area : ℕ) → area % 256 ≡ 0 → area + 256 ≤ 4096 * 256 → IsReachableByRun (issued_at area)
unfolding changed
issued_at_reached area aligned inside = reached_more (started_reached area aligned inside) (queue 0 1) (
  (record { ae_is_set = refl; no_reset = refl }, (omega arith, refl), refl),
  (
    (record { ae_is_set = refl; no_reset = refl }, (omega arith, refl), issue_allowed _ _ 0 refl (omega arith) refl refl queued_read (0x28000 ∷ []) first_says (λ n more says is. refl)),
    tt,
  ),
)

abbrev pub one_issued : Device
one_issued = issued_at 0x400

pub one_issued_reached : IsReachableByRun one_issued
one_issued_reached = issued_at_reached 0x400 refl (omega arith)

abbrev pub issued : Device
issued = device_after_run (queue 0 2) one_issued

pub issued_reached : IsReachableByRun issued
unfolding changed
issued_reached = reached_more one_issued_reached (queue 0 2) (
  (record { ae_is_set = refl; no_reset = refl }, (omega arith, refl), refl),
  (
    (record { ae_is_set = refl; no_reset = refl }, (omega arith, refl), issue_allowed _ _ 1 refl (omega arith) refl refl queued_read (0x29000 ∷ []) second_says (λ n more says is. refl)),
    tt,
  ),
)

-- ---- safe

-- the headers and tables of slots 0 and 1, but for PRDBC
abbrev pub kept : List Range
kept =
    record { from = 0; to = 4 } ∷ record { from = 8; to = 36 } ∷ record { from = 40; to = 64 } ∷ record { from = 0x1000; to = 0x1090 }
    ∷ record { from = 0x1400; to = 0x1490 } ∷ []

first_guarded : IsGuardedSlot (PassesTest (is_in kept)) (PassesTest (is_in kept)) memory 0 0
unfolding covers spares spares_all
first_guarded = slot_guarded kept memory 0 0 queued_read (0x28000 ∷ []) first_says 0x1000 first_table refl refl refl refl refl

second_guarded : IsGuardedSlot (PassesTest (is_in kept)) (PassesTest (is_in kept)) memory 0 1
unfolding covers spares spares_all
second_guarded = slot_guarded kept memory 0 1 queued_read (0x29000 ∷ []) second_says 0x1400 second_table refl refl refl refl refl

neither : (k : ℕ) → k ≢ 0 → k ≢ 1 → bit 1 k || bit 2 k ≡ true → ⊥
neither k low high h =
    let a : bit 1 k ≡ false = no_bit 0 k low in
    let b : bit 2 k ≡ false = no_bit 1 k high in
    true-false h (rw (a, b) refl)

either_slot : (k : ℕ) → bit 1 k || bit 2 k ≡ true → (k ≡ 0) ⊎ (k ≡ 1)
either_slot k h =
    elim (eqb_tells k 0) [
      | inl zeroth ↦ inl zeroth.1
      | inr low ↦ elim (eqb_tells k 1) [ inl oneth ↦ inr oneth.1 | inr high ↦ absurd (neither k low.1 high.1 h) ]
    ]

issued_elsewhere : (q : ℕ) → q ≢ 0 → issued.port q ≡ first.port q
unfolding are_of is_of
issued_elsewhere q other = run_elsewhere 0 (queue 0 2) one_issued refl q other ∙ (run_elsewhere 0 (queue 0 1) (started 0x400) refl q other ∙ started_elsewhere 0x400 q other)

issued_here : IsGuardedPort (PassesTest (is_in kept)) (PassesTest (is_in kept)) memory (issued.port 0)
unfolding changed spares
issued_here = issued_port kept memory (issued.port 0)
    (λ k set. elim (either_slot k set) [
      | inl zeroth ↦ (let P : ℕ → Type 0 = λ s. IsGuardedSlot (PassesTest (is_in kept)) (PassesTest (is_in kept)) memory 0 s in subst P (sym zeroth) first_guarded)
      | inr oneth ↦ (let P : ℕ → Type 0 = λ s. IsGuardedSlot (PassesTest (is_in kept)) (PassesTest (is_in kept)) memory 0 s in subst P (sym oneth) second_guarded)
    ])
    (λ k. refl) (λ _. refl)

pub issued_safe : IsGuarded (PassesTest (is_in kept)) (PassesTest (is_in kept)) issued
issued_safe = record {
  tables_are_kept = λ at h. h;
  ports_are_guarded = λ q. elim (eqb_tells q 0) [
    | inl here ↦ (let P : ℕ → Type 0 = λ n. IsGuardedPort (PassesTest (is_in kept)) (PassesTest (is_in kept)) memory (issued.port n) in subst P (sym here.1) issued_here)
    | inr other ↦ (let P : DevicePort → Type 0 = λ p. IsGuardedPort (PassesTest (is_in kept)) (PassesTest (is_in kept)) memory p in
        subst P (sym (issued_elsewhere q other.1)) (untouched kept memory q))
  ];
}

not_a_trim : ReadQueued ≡ Trim → ⊥
not_a_trim e = (cc)

pub no_steps : Steps issued issued
no_steps = record { steps = []; lead = refl }

-- ---- the commands are taken, and the second ends first

abbrev pub one : FetchedCommand
one = newly_fetched queued_read (0x28000 ∷ [])

abbrev pub other : FetchedCommand
other = newly_fetched queued_read (0x29000 ∷ [])

abbrev pub other_moved : FetchedCommand
other_moved = record other { moved = 1 }

abbrev fetches : List AccessOrStep
fetches = DeviceStepCame (Fetch 0 0 queued_read (0x28000 ∷ [])) ∷ DeviceStepCame (Fetch 0 1 queued_read (0x29000 ∷ [])) ∷ []

abbrev pub taken : Device
taken = device_after_run fetches issued

only_one : (k : ℕ) (t : FetchedCommand) → changed (λ _. None) 0 (Some one) k ≡ Some t → is_queued t.meaning.operation ≡ true
unfolding changed
only_one k t is =
    elim (eqb_tells k 0) [
      | inl here ↦
          let there : Some one ≡ Some t = sym (ap (λ (n : ℕ). changed {A = Option FetchedCommand} (λ _. None) 0 (Some one) n) here.1) ∙ is in
          let same : one ≡ t = (cc) in
          ap (λ (u : FetchedCommand). is_queued u.meaning.operation) (sym same)
      | inr away ↦
          let none : changed {A = Option FetchedCommand} (λ _. None) 0 (Some one) k ≡ None = rw (ne_eqb k 0 away.1) refl in
          absurd (let e : None ≡ Some t = sym none ∙ is in (cc))
    ]

pub may_fetch : Can (Fetch 0 0 queued_read (0x28000 ∷ [])) issued
unfolding changed
may_fetch = record {
  fetchable = record { st_is_set = refl; issued = refl; free = refl };
  working = record { cr_is_set = refl; present = refl; fresh = refl; admitted = refl; is_not_broken = refl };
  is_alone_or_all_are_queued = λ slot t is. absurd (let e : None ≡ Some t = is in (cc));
  says = first_says;
}

abbrev first_taken : Device
first_taken = device_after (Fetch 0 0 queued_read (0x28000 ∷ [])) issued

pub may_fetch_other : Can (Fetch 0 1 queued_read (0x29000 ∷ [])) first_taken
unfolding changed
may_fetch_other = record {
  fetchable = record { st_is_set = refl; issued = refl; free = refl };
  working = record { cr_is_set = refl; present = refl; fresh = refl; admitted = refl; is_not_broken = refl };
  is_alone_or_all_are_queued = λ slot t is. only_one slot t is;
  says = second_says;
}

pub taken_reached : IsReachableByRun taken
taken_reached = reached_more issued_reached fetches (may_fetch, (may_fetch_other, tt))

pub taken_steps : Steps issued taken
taken_steps = record { steps = Fetch 0 0 queued_read (0x28000 ∷ []) ∷ Fetch 0 1 queued_read (0x29000 ∷ []) ∷ []; lead = (may_fetch, (may_fetch_other, refl)) }

pub may_move : Can (Move 0 1 other (first_disk_sector 100)) taken
unfolding changed
may_move = record {
  works = record { taken = refl; working = record { cr_is_set = refl; present = refl; fresh = refl; admitted = refl; is_not_broken = refl } };
  piece_is_left = omega arith;
  bytes_are_sector = told_bytes 100 (omega arith);
  brings = (omega arith, refl);
}

abbrev pub moved : Device
moved = device_after (Move 0 1 other (first_disk_sector 100)) taken

pub moved_reached : IsReachableByRun moved
moved_reached = reached_more taken_reached (DeviceStepCame (Move 0 1 other (first_disk_sector 100)) ∷ []) (may_move, tt)

pub moved_steps : Steps issued moved
moved_steps = record {
  steps = Fetch 0 0 queued_read (0x28000 ∷ []) ∷ Fetch 0 1 queued_read (0x29000 ∷ []) ∷ Move 0 1 other (first_disk_sector 100) ∷ [];
  lead = (may_fetch, (may_fetch_other, (may_move, refl)));
}

pub may_end : Can (Done 0 1 3 other_moved) moved
unfolding changed
may_end = record {
  works = record { taken = refl; working = record { cr_is_set = refl; present = refl; fresh = refl; admitted = refl; is_not_broken = refl } };
  finished = record { all_is_moved = refl; all_is_cleared = λ e. absurd (not_a_trim e) };
  cause_is_allowed = inr (inr refl);
}

-- ---- the first fails

pub may_fail : Can (Fault 0 0 0x40 0 one) taken
unfolding changed
may_fail = record { taken = refl; cr_is_set = refl; is_byte = omega arith; kept_bits_are_allowed = refl }

abbrev pub failed : Device
failed = device_after (Fault 0 0 0x40 0 one) taken

pub failed_reached : IsReachableByRun failed
failed_reached = reached_more taken_reached (DeviceStepCame (Fault 0 0 0x40 0 one) ∷ []) (may_fail, tt)

pub failed_steps : Steps issued failed
failed_steps = record {
  steps = Fetch 0 0 queued_read (0x28000 ∷ []) ∷ Fetch 0 1 queued_read (0x29000 ∷ []) ∷ Fault 0 0 0x40 0 one ∷ [];
  lead = (may_fetch, (may_fetch_other, (may_fail, refl)));
}
