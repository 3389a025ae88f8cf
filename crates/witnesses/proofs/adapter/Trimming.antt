-- A trim is issued and taken, its block is moved, and its sectors may be cleared.
use Rattle.std.proofs.Common.{ℕ, ◌≡◌, ◌≢◌, true, false, List, [], ◌∷◌, Some, None, length, inl, inr, arith, refl, sym, ap, subst, ◌∙◌}
use Rattle.std.proofs.lemmas.Bool.Decides.{eqb_tells}
use Rattle.hba_regs.specs.Bits.{bit}
use Rattle.hba_regs.specs.declared.reg.Reg.TheVariants.{Px}
use Rattle.hba_regs.specs.declared.reg.PortReg.TheVariants.{Ci}
use Rattle.adapter.specs.Access.Access.{Writing}
use Rattle.adapter.specs.Commands.{Meaning, is_queued}
use Rattle.adapter.specs.Device.{FetchedCommand, DevicePort, Device}
use Rattle.adapter.specs.Guarded.{IsGuarded, IsGuardedPort, IsGuardedSlot, PassesTest}
use Rattle.adapter.specs.Memory.{bytes_at, changed, patched}
use Rattle.adapter.specs.Decoding.{DecodesTo}
use Rattle.adapter.specs.Steps.{Steps, Can, newly_fetched, device_after}
use Rattle.adapter.specs.Steps.DeviceTransition.{Fetch, Move, Clear}
use Rattle.witnesses.specs.AdapterRuns.{AccessOrStep, IsReachableByRun, device_after_run}
use Rattle.witnesses.specs.AdapterRuns.AccessOrStep.{MadeAccess, DeviceStepCame}
use Rattle.witnesses.proofs.adapter.Ports.{are_of, is_of, first, issue_allowed, issued_port, no_bit, reached_more, run_elsewhere, slot_guarded, untouched}
use Rattle.witnesses.proofs.adapter.RunningAdapter.{memory, a_trim, trim_says, trim_table}
use Rattle.witnesses.proofs.adapter.Sets.{Range, is_in, are_bytes, covers, spares, spares_all, is_sector, true-false}
use Rattle.witnesses.proofs.adapter.Started.{at_port, started, started_elsewhere, started_reached}

abbrev issue : List AccessOrStep
issue = MadeAccess (Writing (Px (at_port 0) Ci) 4) ∷ []

abbrev pub issued : Device
issued = device_after_run issue (started 0x400)

-- what the slot says is the trim alone, which isn't queued
abbrev pub OneMeaning : Type 0
OneMeaning = (m : Meaning) (places : List ℕ) → DecodesTo memory 0 2 m places → m ≡ a_trim

armed : OneMeaning → (m : Meaning) (places : List ℕ) → DecodesTo memory 0 2 m places → is_queued m.operation ≡ true → false ≡ true
armed alone m places says queued = sym (ap (λ (n : Meaning). is_queued n.operation) (alone m places says)) ∙ queued

pub issued_reached : OneMeaning → IsReachableByRun issued
unfolding changed
issued_reached alone = reached_more (started_reached 0x400 refl (omega arith)) issue
    ((record { ae_is_set = refl; no_reset = refl }, (omega arith, refl), issue_allowed _ _ 2 refl (omega arith) refl refl a_trim (0x9000 ∷ []) trim_says (armed alone)), tt)

-- ---- safe

-- the header and table of slot 2, but for PRDBC
abbrev pub kept : List Range
kept = record { from = 64; to = 68 } ∷ record { from = 72; to = 96 } ∷ record { from = 0x1800; to = 0x1890 } ∷ []

abbrev Safe : DevicePort → Type 0
Safe p = IsGuardedPort (PassesTest (is_in kept)) (PassesTest (is_in kept)) memory p

trim_guarded : IsGuardedSlot (PassesTest (is_in kept)) (PassesTest (is_in kept)) memory 0 2
unfolding covers spares spares_all
trim_guarded = slot_guarded kept memory 0 2 a_trim (0x9000 ∷ []) trim_says 0x1800 trim_table refl refl refl refl refl

second : (k : ℕ) → bit 4 k ≡ true → IsGuardedSlot (PassesTest (is_in kept)) (PassesTest (is_in kept)) memory 0 k
second k set =
    elim (eqb_tells k 2) [
      | inl here ↦ (let P : ℕ → Type 0 = λ s. IsGuardedSlot (PassesTest (is_in kept)) (PassesTest (is_in kept)) memory 0 s in subst P (sym here.1) trim_guarded)
      | inr away ↦ absurd (true-false set (no_bit 2 k away.1))
    ]

port_zero : Safe (issued.port 0)
unfolding changed spares
port_zero = issued_port kept memory (issued.port 0) (λ k set. second k set) (λ k. refl) (λ _. refl)

elsewhere : (q : ℕ) → q ≢ 0 → issued.port q ≡ first.port q
unfolding are_of is_of
elsewhere q away = run_elsewhere 0 issue (started 0x400) refl q away ∙ started_elsewhere 0x400 q away

pub issued_safe : IsGuarded (PassesTest (is_in kept)) (PassesTest (is_in kept)) issued
issued_safe = record {
  tables_are_kept = λ at h. h;
  ports_are_guarded = λ q. elim (eqb_tells q 0) [
    | inl here ↦ (let P : ℕ → Type 0 = λ n. Safe (issued.port n) in subst P (sym here.1) port_zero)
    | inr away ↦ (let P : DevicePort → Type 0 = Safe in subst P (sym (elsewhere q away.1)) (untouched kept memory q))
  ];
}

-- ---- the trim goes on

abbrev block : List ℕ
block = bytes_at memory 0x9000 512

abbrev taken_trim : FetchedCommand
taken_trim = newly_fetched a_trim (0x9000 ∷ [])

abbrev pub block_moved : FetchedCommand
block_moved = record taken_trim { moved = 1; block = block }

may_fetch : Can (Fetch 0 2 a_trim (0x9000 ∷ [])) issued
unfolding changed
may_fetch = record {
  fetchable = record { st_is_set = refl; issued = refl; free = refl };
  working = record { cr_is_set = refl; present = refl; fresh = refl; admitted = refl; is_not_broken = refl };
  is_alone_or_all_are_queued = λ slot t is. absurd (let e : None ≡ Some t = is in (cc));
  says = trim_says;
}

abbrev fetched : Device
fetched = device_after (Fetch 0 2 a_trim (0x9000 ∷ [])) issued

block_size : length block ≡ 512
unfolding bytes_at
block_size = refl

block_bytes : are_bytes block ≡ true
unfolding memory patched bytes_at are_bytes
block_bytes = refl

may_move : Can (Move 0 2 taken_trim block) fetched
unfolding changed
may_move = record {
  works = record { taken = refl; working = record { cr_is_set = refl; present = refl; fresh = refl; admitted = refl; is_not_broken = refl } };
  piece_is_left = omega arith;
  bytes_are_sector = is_sector block block_size block_bytes;
  brings = refl;
}

abbrev pub moved : Device
moved = device_after (Move 0 2 taken_trim block) fetched

pub moved_reached : OneMeaning → IsReachableByRun moved
moved_reached alone = reached_more (issued_reached alone) (DeviceStepCame (Fetch 0 2 a_trim (0x9000 ∷ [])) ∷ DeviceStepCame (Move 0 2 taken_trim block) ∷ []) (may_fetch, (may_move, tt))

pub moved_steps : Steps issued moved
moved_steps = record { steps = Fetch 0 2 a_trim (0x9000 ∷ []) ∷ Move 0 2 taken_trim block ∷ []; lead = (may_fetch, (may_move, refl)) }

pub may_clear : Can (Clear 0 2 block_moved 100 8) moved
unfolding changed memory patched bytes_at
may_clear = record {
  works = record { taken = refl; working = record { cr_is_set = refl; present = refl; fresh = refl; admitted = refl; is_not_broken = refl } };
  trim = refl;
  block_is_moved = refl;
  first_is_next = refl;
  sectors_follow = refl;
  inside = inr (omega arith);
}
