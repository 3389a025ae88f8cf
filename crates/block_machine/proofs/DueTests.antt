-- The tests of the definitions as facts.
use Rattle.std.proofs.Common.{◌≡◌, ◌↔◌, Bool, true, false, ◌||◌, List, max, refl, sym, ◌∙◌, arith, lt-ltb, ltb-true, ⊎_elim}
use Rattle.std.proofs.lemmas.Bool.{and_parts, and_from, or_cases, or_left, or_right, false≢true}
use Rattle.std.specs.Bool.{IsTrue}
use Rattle.std.specs.Prelude.{nat_lt}
use Rattle.std.specs.List.{Contains}
use Rattle.ata_types.specs.declared.range.Range.{Range}
use Rattle.ata_types.specs.Range.{range_end, Overlaps}
use Rattle.block_machine.specs.declared.due.QueueMode.{QueueMode}
use Rattle.block_machine.specs.declared.due.Unanswered.{Unanswered}
use Rattle.block_machine.specs.DueRequests.{are_overlapping, is_plain, unblocked_ahead_count, free_slots, IsDue, is_due}

-- two tests of one fact are one
pub same_test : {P : Type 0} (r t : Bool) → (IsTrue r ↔ P) → (IsTrue t ↔ P) → r ≡ t
same_test true true p q = refl
same_test true false p q = sym (q.1 (p.0 refl))
same_test false true p q = p.1 (q.0 refl)
same_test false false p q = refl

-- the test on ranges says that a sector is in both
pub overlap_is_overlaps : (a b : Range) → IsTrue (are_overlapping a b) ↔ Overlaps a b
overlap_is_overlaps a b = (to, from)
  where
    to : are_overlapping a b ≡ true → Overlaps a b
    to t =
        let p = and_parts _ _ t in
        let ends = and_parts _ _ p.0 in
        let counts = and_parts _ _ p.1 in
        let l = ltb-true a.first.0 (range_end b) ends.0 in
        let r = ltb-true b.first.0 (range_end a) ends.1 in
        let ca = ltb-true 0 a.count counts.0 in
        let cb = ltb-true 0 b.count counts.1 in
        (max a.first.0 b.first.0, (omega (arith, l, r, ca, cb), omega (arith, l, r, ca, cb)), (omega (arith, l, r, ca, cb), omega (arith, l, r, ca, cb)))

    from : Overlaps a b → are_overlapping a b ≡ true
    from o =
        let la = o.1.0 in let ha = o.1.1 in let lb = o.2.0 in let hb = o.2.1 in
        and_from _ _ (and_from _ _ (lt-ltb a.first.0 (range_end b) (omega (arith, la, ha, lb, hb))) (lt-ltb b.first.0 (range_end a) (omega (arith, la, ha, lb, hb))))
        (and_from _ _ (lt-ltb 0 a.count (omega (arith, la, ha, lb, hb))) (lt-ltb 0 b.count (omega (arith, la, ha, lb, hb))))

-- the test says which requests of the book are due
pub due_test : (mode : QueueMode) (book : List Unanswered) (r : Unanswered) → Contains book r → IsTrue (is_due mode book r) ↔ IsDue mode book r
due_test mode book r here = (to, from)
  where
    to : is_due mode book r ≡ true → IsDue mode book r
    to t =
        let p = and_parts _ _ t in
        record {
          is_in_book = here;
          waits_and_nothing_blocks = p.0;
          slot_is_left = λ queued. ⊎_elim
              (λ plain. absurd (false≢true (sym queued ∙ plain)))
              (λ few. ltb-true (unblocked_ahead_count mode book r) (free_slots mode book r.port) few)
              (or_cases (is_plain mode r.op) _ p.1);
        }

    from : IsDue mode book r → is_due mode book r ≡ true
    from d = and_from _ _ d.waits_and_nothing_blocks (by (is_plain mode r.op) refl)
      where
        by : (b : Bool) → is_plain mode r.op ≡ b → (is_plain mode r.op || nat_lt (unblocked_ahead_count mode book r) (free_slots mode book r.port)) ≡ true
        by true plain = or_left _ _ plain
        by false queued = or_right _ _ (lt-ltb (unblocked_ahead_count mode book r) (free_slots mode book r.port) (d.slot_is_left queued))
