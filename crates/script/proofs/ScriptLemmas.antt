-- Scripts line by line.
use Rattle.std.proofs.Common.{◌≡◌, ◌<◌, ◌≤◌, ◌+◌, ◌∙◌, ℕ, suc, Bool, true, false, cond, ltb, List, [], ◌∷◌, ◌++◌, length, arith, append_assoc, length-append, ap, subst, sym, refl, take, drop, Option, Some, None}
use Rattle.std.specs.Borrow.{Bor}
use Rattle.std.specs.Prelude.{IfSome, MatchOption}
use Rattle.std.specs.Bool.{◌==◌}
use Rattle.std.specs.List.{position, position_or_len}
use borrow.Author.Tests.{ltb-true, ltb-false}
use Rattle.std.proofs.lemmas.List.Splits.{slice_split_first, slice_split_none}
use Rattle.std.proofs.lemmas.List.Sums.{fails_before_first}
use Rattle.script.specs.Script.{Asks, AskForCalls, IsFirstLine, SplitsAt, asked_calls, no_lines, line_asks_nothing, line_asks_call, IsBadLine, lines_after, lines_of}
use Rattle.adapter.specs.declared.access.DeviceStep.{DeviceStep}
use Rattle.ata_types.specs.declared.call.Call.{Call}

-- lines after lines
pub ask_more : (texts more : List (List ℕ)) (lines rest : List (Call DeviceStep)) → AskForCalls texts lines → AskForCalls more rest → AskForCalls (texts ++ more) (lines ++ rest)
ask_more [] more [] rest no_lines then = then
ask_more [] more (_ ∷ _) rest first then = elim first [ ]
ask_more (t ∷ texts) more lines rest (line_asks_nothing asks others) then = line_asks_nothing asks (ask_more texts more lines rest others then)
ask_more (t ∷ texts) more (line ∷ lines) rest (line_asks_call asks others) then = line_asks_call asks (ask_more texts more lines rest others then)

-- one line
pub ask_one : (text : List ℕ) (asked : Option (Call DeviceStep)) → Asks text asked → AskForCalls (text ∷ []) (asked_calls asked)
ask_one text None asks = line_asks_nothing asks no_lines
ask_one text (Some line) asks = line_asks_call asks no_lines

-- a text that stands among others
pub ask_from : (before : List (List ℕ)) (text : List ℕ) (after : List (List ℕ)) (lines : List (Call DeviceStep)) → AskForCalls (before ++ text ∷ after) lines
    → SplitsAt before text after lines
ask_from [] text after lines (line_asks_nothing asks others) = record { earlier = []; before_ask = no_lines; asked = None; text_asks = asks; rest = lines; after_ask = others; lines_are = refl }
ask_from [] text after (line ∷ lines) (line_asks_call asks others) = record { earlier = []; before_ask = no_lines; asked = Some line; text_asks = asks; rest = lines; after_ask = others; lines_are = refl }
ask_from (t ∷ before) text after lines (line_asks_nothing asks others) =
    let s = ask_from before text after lines others in
    record { earlier = s.earlier; before_ask = line_asks_nothing asks s.before_ask; asked = s.asked; text_asks = s.text_asks; rest = s.rest; after_ask = s.after_ask; lines_are = s.lines_are }
ask_from (t ∷ before) text after (line ∷ lines) (line_asks_call asks others) =
    let s = ask_from before text after lines others in
    record {
      earlier = line ∷ s.earlier;
      before_ask = line_asks_call asks s.before_ask;
      asked = s.asked;
      text_asks = s.text_asks;
      rest = s.rest;
      after_ask = s.after_ask;
      lines_are = ap (λ (more : List (Call DeviceStep)). line ∷ more) s.lines_are;
    }

-- a text that asks something or nothing isn't bad
pub not_bad : (text : List ℕ) (asked : Option (Call DeviceStep)) → Asks text asked → IsBadLine text → ⊥
not_bad text None asks bad = bad.0 asks
not_bad text (Some line) asks bad = bad.1 line asks.0 asks.1

-- where a text's first line feed is
pub record IsLineFeed (text : List ℕ) (at : ℕ) : Type 0 where
  pub within : at < length text
  pub lines : lines_of text ≡ take at text ∷ lines_of (drop (at + 1) text)

pub line_feed_at : (text : List ℕ) (r : Option ℕ) → r ≡ position (λ b. b == 10) text → MatchOption r (lines_of text ≡ text ∷ []) (IsLineFeed text)
line_feed_at text r is = subst (λ (o : Option ℕ). MatchOption o (lines_of text ≡ text ∷ []) (IsLineFeed text)) (sym is)
    (by_test (ltb (position_or_len (λ b. b == 10) text) (length text)) refl)
  where
    by_test : (b : Bool) → b ≡ ltb (position_or_len (λ b. b == 10) text) (length text)
        → MatchOption (cond b (Some (position_or_len (λ b. b == 10) text)) None) (lines_of text ≡ text ∷ []) (IsLineFeed text)
    by_test true e = let l = ltb-true _ _ (sym e) in record { within = l; lines = slice_split_first (λ b. b == 10) text 0 l }
    by_test false e =
        let past : length text ≤ position_or_len (λ b. b == 10) text = ltb-false _ _ (sym e) in
        slice_split_none (λ b. b == 10) text (λ k d l. fails_before_first (λ b. b == 10) text k d (omega arith))

-- how many bytes are left, and one more if any line is
abbrev pub bytes_left : Option (Bor (List ℕ)) → ℕ
bytes_left None = 0
bytes_left (Some text) = suc (length text.now)

-- so many lines of a text were looked at, and this is left of it
pub record LookedAt (text : List ℕ) (number : ℕ) (rest : Option (Bor (List ℕ))) : Type 0 where
  pub before : List (List ℕ)
  pub lines : List (Call DeviceStep)
  pub good : AskForCalls before lines
  pub cut : lines_of text ≡ before ++ lines_after rest
  pub counted : number ≡ length before
  pub few : number + bytes_left rest ≤ length text + 1

pub fewer_left : (after : Option (Bor (List ℕ))) (n : ℕ) → IfSome after (λ a. length a.now < n) → bytes_left after ≤ n
fewer_left None n less = omega arith
fewer_left (Some a) n less = omega (arith, less)

-- one line more
pub looked_further : (text : List ℕ) (number : ℕ) (left : Bor (List ℕ)) (line : List ℕ) (after : Option (Bor (List ℕ))) (asked : Option (Call DeviceStep)) →
    LookedAt text number (Some left) → IsFirstLine left.now line after → IfSome after (λ a. length a.now < length left.now) →
    Asks line asked → LookedAt text (number + 1) after
looked_further text number left line after asked is first less asks =
    record {
      before = is.before ++ line ∷ [];
      lines = is.lines ++ asked_calls asked;
      good = ask_more is.before (line ∷ []) is.lines (asked_calls asked) is.good (ask_one line asked asks);
      cut = is.cut ∙ (ap (λ (ts : List (List ℕ)). is.before ++ ts) first ∙ sym (append_assoc is.before (line ∷ []) (lines_after after)));
      counted = let so_far = is.counted in omega (arith, so_far, length-append is.before (line ∷ []));
      few = let few = is.few in let rest = fewer_left after (length left.now) less in omega (arith, few, rest);
    }
