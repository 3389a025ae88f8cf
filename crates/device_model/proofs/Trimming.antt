-- A trim that is to be done to its end: its block is moved, its sectors are cleared, and it ends.
use Rattle.std.proofs.Common.{ℕ, Bool, true, zero, suc, ◌≡◌, ◌<◌, ◌≤◌, ◌+◌, ◌-◌, List, [], ◌∷◌, length, drop, take, slice_index, refl, sym, ◌∙◌, ap, subst, inl, inr, arith, length-drop, length-take}
use Rattle.std.specs.Prelude.{if◌then◌else◌}
use Rattle.std.proofs.lemmas.Bool.{cases_lt, le-ltb, lt-ltb}
use Rattle.std.proofs.lemmas.List.{take_all}
use Rattle.adapter.specs.Device.{Disk, FetchedCommand}
use Rattle.adapter.specs.Memory.{bytes_at, patched}
use Rattle.adapter.specs.Commands.{reads_memory, sends_page}
use Rattle.adapter.specs.Steps.{MayBring, block_after, next_place}
use Rattle.adapter.specs.Trim.{consecutive, trim_sectors}
use Rattle.adapter.specs.declared.command.Operation.{Operation}
use Rattle.adapter.specs.declared.command.Operation.TheVariants.{Identify, Read, ReadQueued, Write, WriteQueued, Flush, Trim, ReadLog}
use Rattle.device_model.specs.Trims.{HasRunsLeft, HasClearsLeft, trim_block_after_moves, sectors_left_to_change, sectors_left_to_clear, sectors_left_to_write, next_uncleared, first_run_length, run_count_of, next_run_length, uncleared}
use Rattle.device_model.proofs.Runs.{drop_twice, no_runs, one_less, run_long, some_runs, take_run}

-- ---- the block that a trim is going to have

-- the one that it has, once all is moved
pub ahead_moved : (memory : ℕ → ℕ) (t : FetchedCommand) → t.moved ≡ length t.places → trim_block_after_moves memory t ≡ t.block
ahead_moved memory t all =
    ap (λ (b : Bool). if b then bytes_at memory (slice_index t.places (length t.places - 1)) 512 else t.block)
    (le-ltb t.moved (length t.places) (omega (arith, all)))

ahead_unmoved : (memory : ℕ → ℕ) (t : FetchedCommand) → t.moved < length t.places → trim_block_after_moves memory t ≡ bytes_at memory (slice_index t.places (length t.places - 1)) 512
ahead_unmoved memory t left =
    ap (λ (b : Bool). if b then bytes_at memory (slice_index t.places (length t.places - 1)) 512 else t.block) (lt-ltb t.moved (length t.places) left)

-- no move changes which one it is
moved_ahead : (memory : ℕ → ℕ) (t : FetchedCommand) (bytes : List ℕ) → t.moved < length t.places → bytes ≡ bytes_at memory (next_place t) 512 →
    trim_block_after_moves memory (record t { moved = t.moved + 1; block = bytes }) ≡ trim_block_after_moves memory t
moved_ahead memory t bytes left brings =
    let u : FetchedCommand = record t { moved = t.moved + 1; block = bytes } in
    elim (cases_lt (t.moved + 1) (length t.places)) [
      | inl more ↦ ahead_unmoved memory u more ∙ sym (ahead_unmoved memory t left)
      | inr all ↦
          let last : t.moved ≡ length t.places - 1 = omega (arith, left, all) in
          ahead_moved memory u (omega (arith, left, all))
          ∙ (brings ∙ (ap (λ (k : ℕ). bytes_at memory (slice_index t.places k) 512) last ∙ sym (ahead_unmoved memory t left)))
    ]

-- ---- what a command is going to clear

-- a command that sends a page clears nothing
pub page_clears : (o : Operation) (memory : ℕ → ℕ) (t : FetchedCommand) → sends_page o ≡ true → HasClearsLeft o memory t 0
page_clears Identify memory t is = refl
page_clears ReadLog memory t is = refl
page_clears Read memory t is = refl
page_clears Write memory t is = refl
page_clears ReadQueued memory t is = refl
page_clears WriteQueued memory t is = refl
page_clears Flush memory t is = refl
page_clears Trim memory t is = absurd (cc is)

pub page_cleared : (o : Operation) (memory : ℕ → ℕ) (t : FetchedCommand) (clears : ℕ) → sends_page o ≡ true → HasClearsLeft o memory t clears → clears ≡ 0
page_cleared Identify memory t clears is will = will
page_cleared ReadLog memory t clears is will = will
page_cleared Read memory t clears is will = will
page_cleared Write memory t clears is will = will
page_cleared ReadQueued memory t clears is will = will
page_cleared WriteQueued memory t clears is will = will
page_cleared Flush memory t clears is will = will
page_cleared Trim memory t clears is will = absurd (cc is)

-- a move changes none of that
pub moved_clears : (o : Operation) (disk : Disk) (memory : ℕ → ℕ) (t : FetchedCommand) (bytes : List ℕ) (clears : ℕ) → t.moved < length t.places →
    MayBring disk memory t o bytes → HasClearsLeft o memory t clears →
    HasClearsLeft o (if reads_memory o then memory else patched memory (next_place t) bytes) (record t { moved = t.moved + 1; block = block_after o bytes t.block }) clears
moved_clears Trim disk memory t bytes clears left brings will =
    subst (λ (b : List ℕ). HasRunsLeft b t.cleared clears) (sym (moved_ahead memory t bytes left brings)) will
moved_clears Identify disk memory t bytes clears left brings will = will
moved_clears Read disk memory t bytes clears left brings will = will
moved_clears Write disk memory t bytes clears left brings will = will
moved_clears ReadQueued disk memory t bytes clears left brings will = will
moved_clears WriteQueued disk memory t bytes clears left brings will = will
moved_clears Flush disk memory t bytes clears left brings will = will
moved_clears ReadLog disk memory t bytes clears left brings will = will

-- and so is what it is going to change, but for what this piece has written
pub moved_changes : (o : Operation) (disk : Disk) (memory : ℕ → ℕ) (t : FetchedCommand) (bytes : List ℕ) (left : ℕ) → t.moved < length t.places → MayBring disk memory t o bytes →
    sectors_left_to_change o memory t (suc left)
    ≡ sectors_left_to_write o 1
    + sectors_left_to_change o (if reads_memory o then memory else patched memory (next_place t) bytes) (record t { moved = t.moved + 1; block = block_after o bytes t.block }) left
moved_changes Trim disk memory t bytes left small brings =
    let same = ap (λ (b : List ℕ). length (drop t.cleared (trim_sectors b))) (moved_ahead memory t bytes small brings) in
    omega (arith, same)
moved_changes Write disk memory t bytes left small brings = omega arith
moved_changes WriteQueued disk memory t bytes left small brings = omega arith
moved_changes Identify disk memory t bytes left small brings = refl
moved_changes Read disk memory t bytes left small brings = refl
moved_changes ReadQueued disk memory t bytes left small brings = refl
moved_changes Flush disk memory t bytes left small brings = refl
moved_changes ReadLog disk memory t bytes left small brings = refl

-- and once a run was cleared, but for that run
pub cleared_changes : (memory : ℕ → ℕ) (t : FetchedCommand) (most : ℕ) → t.moved ≡ length t.places → t.meaning.operation ≡ Trim →
    next_run_length most t + sectors_left_to_change t.meaning.operation memory (record t { cleared = t.cleared + next_run_length most t }) 0 ≤ sectors_left_to_change t.meaning.operation memory t 0
cleared_changes memory t most all trim =
    let xs : List ℕ = trim_sectors t.block in
    let n = next_run_length most t in
    let block : (k : ℕ) → trim_block_after_moves memory (record t { cleared = k }) ≡ t.block = λ k. ahead_moved memory (record t { cleared = k }) all in
    let before : sectors_left_to_clear t.meaning.operation memory t ≡ length (drop t.cleared xs) =
    ap (λ (o : Operation). sectors_left_to_clear o memory t) trim ∙ ap (λ (b : List ℕ). length (drop t.cleared (trim_sectors b))) (block t.cleared) in
    let now : sectors_left_to_clear t.meaning.operation memory (record t { cleared = t.cleared + n }) ≡ length (drop (t.cleared + n) xs) =
    ap (λ (o : Operation). sectors_left_to_clear o memory (record t { cleared = t.cleared + n })) trim
    ∙ ap (λ (b : List ℕ). length (drop (t.cleared + n) (trim_sectors b))) (block (t.cleared + n)) in
    let none : sectors_left_to_write t.meaning.operation 0 ≡ 0 = ap (λ (o : Operation). sectors_left_to_write o 0) trim in
    let was = length-drop t.cleared xs in
    let is = length-drop (t.cleared + n) xs in
    let run = run_long (take most (uncleared t)) in
    let few = length-take most (uncleared t) in
    omega (arith, before, now, none, was, is, run, few)

-- what is going to be cleared is a trim's
clears_trim : (o : Operation) (memory : ℕ → ℕ) (t : FetchedCommand) (clears : ℕ) → HasClearsLeft o memory t (suc clears) → o ≡ Trim
clears_trim Trim memory t clears will = refl
clears_trim Identify memory t clears will = absurd (omega (arith, will))
clears_trim Read memory t clears will = absurd (omega (arith, will))
clears_trim Write memory t clears will = absurd (omega (arith, will))
clears_trim ReadQueued memory t clears will = absurd (omega (arith, will))
clears_trim WriteQueued memory t clears will = absurd (omega (arith, will))
clears_trim Flush memory t clears will = absurd (omega (arith, will))
clears_trim ReadLog memory t clears will = absurd (omega (arith, will))

-- where nothing is left to clear, all is cleared
pub none_left : (o : Operation) (memory : ℕ → ℕ) (t : FetchedCommand) → t.moved ≡ length t.places → HasClearsLeft o memory t 0 → o ≡ Trim →
    t.cleared ≡ length (trim_sectors t.block)
none_left o memory t all will trim =
    let there : HasClearsLeft Trim memory t 0 = subst (λ (x : Operation). HasClearsLeft x memory t 0) trim will in
    let is : HasRunsLeft t.block t.cleared 0 = subst (λ (b : List ℕ). HasRunsLeft b t.cleared 0) (ahead_moved memory t all) there in
    let none = ap length (no_runs (uncleared t) (sym is.clears_are_runs)) in
    let size = length-drop t.cleared (trim_sectors t.block) in
    let within = is.cleared_is_within in
    omega (arith, none, size, within)

module _ (memory : ℕ → ℕ) (t : FetchedCommand) (clears : ℕ) (all : t.moved ≡ length t.places) (will : HasClearsLeft t.meaning.operation memory t (suc clears)) where
  pub is_a_trim : t.meaning.operation ≡ Trim
  is_a_trim = clears_trim t.meaning.operation memory t clears will

  is_cleared : HasRunsLeft t.block t.cleared (suc clears)
  is_cleared =
      let there : HasClearsLeft Trim memory t (suc clears) = subst (λ (x : Operation). HasClearsLeft x memory t (suc clears)) is_a_trim will in
      subst (λ (b : List ℕ). HasRunsLeft b t.cleared (suc clears)) (ahead_moved memory t all) there

  pub some_uncleared : 1 ≤ length (uncleared t)
  some_uncleared = some_runs (uncleared t) clears (sym is_cleared.clears_are_runs)

  -- the whole run is cleared at once
  span_whole : next_run_length (length (uncleared t)) t ≡ first_run_length (uncleared t)
  span_whole = ap first_run_length (take_all (length (uncleared t)) (uncleared t) (omega arith))

  -- and one run less is left
  pub span_less : HasClearsLeft t.meaning.operation memory (record t { cleared = t.cleared + next_run_length (length (uncleared t)) t }) clears
  span_less =
      let n : ℕ = first_run_length (uncleared t) in
      let u : FetchedCommand = record t { cleared = t.cleared + next_run_length (length (uncleared t)) t } in
      let xs : List ℕ = trim_sectors t.block in
      let same : t.cleared + next_run_length (length (uncleared t)) t ≡ t.cleared + n = ap (λ (k : ℕ). t.cleared + k) span_whole in
      let rest : drop n (drop t.cleared xs) ≡ drop (t.cleared + n) xs = drop_twice t.cleared n xs in
      let size = length-drop t.cleared xs in
      let long = run_long (uncleared t) in
      let some = some_uncleared in
      let done : HasRunsLeft t.block (t.cleared + n) clears =
      record {
        cleared_is_within = omega (arith, size, long, some);
        clears_are_runs = sym (ap run_count_of (sym rest) ∙ one_less (uncleared t) clears (sym is_cleared.clears_are_runs));
      } in
      let there : HasClearsLeft Trim memory u clears =
      subst (λ (b : List ℕ). HasRunsLeft b u.cleared clears) (sym (ahead_moved memory u all))
      (subst (λ (k : ℕ). HasRunsLeft t.block k clears) (sym same) done) in
      subst (λ (o : Operation). HasClearsLeft o memory u clears) (sym is_a_trim) there

-- ---- clearing

-- of the sectors that can be cleared at once each number follow one another
pub span_sectors : (most count : ℕ) (t : FetchedCommand) → count ≤ next_run_length most t → most ≤ length (uncleared t) →
    take count (uncleared t) ≡ consecutive (next_uncleared t) count
span_sectors most count t few enough =
    let run = run_long (take most (uncleared t)) in
    let fits : count ≤ first_run_length (take most (uncleared t)) = few in
    let size_is = take_length most (uncleared t) enough in
    let part : take count (take most (uncleared t)) ≡ take count (uncleared t) = take_twice count most (uncleared t) (omega (arith, fits, run, size_is)) in
    let all = take_run (take most (uncleared t)) count fits in
    sym part ∙ (all ∙ start count most (uncleared t) (omega (arith, fits, run, size_is)))
  where
    take_length : (n : ℕ) (xs : List ℕ) → n ≤ length xs → length (take n xs) ≡ n
    take_length zero xs small = refl
    take_length (suc n) [] small = absurd (omega (arith, small))
    take_length (suc n) (x ∷ xs) small = ap suc (take_length n xs (omega (arith, small)))

    take_twice : (n m : ℕ) (xs : List ℕ) → n ≤ m → take n (take m xs) ≡ take n xs
    take_twice zero m xs small = refl
    take_twice (suc n) zero xs small = absurd (omega (arith, small))
    take_twice (suc n) (suc m) [] small = refl
    take_twice (suc n) (suc m) (x ∷ xs) small = ap (λ (l : List ℕ). x ∷ l) (take_twice n m xs (omega (arith, small)))

    start : (n m : ℕ) (xs : List ℕ) → n ≤ m → consecutive (slice_index (take m xs) 0) n ≡ consecutive (slice_index xs 0) n
    start zero m xs small = refl
    start (suc n) zero xs small = absurd (omega (arith, small))
    start (suc n) (suc m) [] small = refl
    start (suc n) (suc m) (x ∷ xs) small = refl

-- the next one, where one is left
pub next_one : (t : FetchedCommand) → 1 ≤ length (uncleared t) → take 1 (uncleared t) ≡ next_uncleared t ∷ []
next_one t some = by (uncleared t) some
  where
    by : (xs : List ℕ) → 1 ≤ length xs → take 1 xs ≡ slice_index xs 0 ∷ []
    by [] none = absurd (omega (arith, none))
    by (x ∷ xs) some = refl

-- of some sectors, and some of them, one at least is in the first run
pub run_one : (n : ℕ) (xs : List ℕ) → 1 ≤ n → n ≤ length xs → 1 ≤ first_run_length (take n xs)
run_one zero xs some small = absurd (omega (arith, some))
run_one (suc n) [] some small = absurd (omega (arith, small))
run_one (suc n) (x ∷ xs) some small = omega arith

pub span_some : (most : ℕ) (t : FetchedCommand) → 1 ≤ most → most ≤ length (uncleared t) → 1 ≤ next_run_length most t
span_some most t some enough = run_one most (uncleared t) some enough

-- what is left behind so many
pub uncleared_on : (t : FetchedCommand) (count : ℕ) → uncleared (record t { cleared = t.cleared + count }) ≡ drop count (uncleared t)
uncleared_on t count = sym (drop_twice t.cleared count (trim_sectors t.block))

-- the next one behind so many that were cleared at once, of more that could be
pub next_on : (most count : ℕ) (t : FetchedCommand) → count < next_run_length most t → most ≤ length (uncleared t) →
    (1 ≤ length (uncleared (record t { cleared = t.cleared + count }))) × (next_uncleared (record t { cleared = t.cleared + count }) ≡ next_uncleared t + count)
next_on most count t more enough =
    let follow = span_sectors most (suc count) t (omega (arith, more)) enough in
    let here = by count (uncleared t) (next_uncleared t) follow in
    let rest = uncleared_on t count in (
      subst (λ (l : List ℕ). 1 ≤ length l) (sym rest) here.0,
      ap (λ (l : List ℕ). slice_index l 0) rest ∙ here.1,
    )
  where
    by : (n : ℕ) (xs : List ℕ) (a : ℕ) → take (suc n) xs ≡ consecutive a (suc n) → (1 ≤ length (drop n xs)) × (slice_index (drop n xs) 0 ≡ a + n)
    by n [] a follow = absurd (cc follow)
    by zero (x ∷ xs) a follow = let same : x ≡ a = ap (λ (l : List ℕ). slice_index l 0) follow in (omega arith, omega (arith, same))
    by (suc n) (x ∷ xs) a follow =
        let rest = by n xs (suc a) (ap (λ (l : List ℕ). drop 1 l) follow) in
        let at = rest.1 in
        (rest.0, omega (arith, at))

-- so many at the most
pub span_most : (most : ℕ) (t : FetchedCommand) → next_run_length most t ≤ most
span_most most t =
    let long = run_long (take most (uncleared t)) in
    let taken = by most (uncleared t) in
    omega (arith, long, taken)
  where
    by : (n : ℕ) (xs : List ℕ) → length (take n xs) ≤ n
    by zero xs = omega arith
    by (suc n) [] = omega arith
    by (suc n) (x ∷ xs) = let rest = by n xs in omega (arith, rest)
