-- A whole script: its lines, cut at line feeds (this project's own).
use Rattle.std.specs.Prelude.{Bool, true, false, ◌≡◌, ◌==◌, ◌+◌, ◌++◌, ℕ, List, [], ◌∷◌, Option, Some, None, length}
use Rattle.std.specs.Borrow.{Bor}
use Rattle.std.specs.List.{slice_split}
use Rattle.adapter.specs.declared.access.DeviceStep.{DeviceStep}
use Rattle.ata_types.specs.declared.call.Call.{Call}
use Rattle.script.specs.Line.{HasLine, line_text}

-- what stands between line feeds; bytes after the last one are a line too
abbrev pub lines_of : List ℕ → List (List ℕ)
lines_of text = slice_split (λ b. b == 10) text

-- The lines of what comes after a line. There are none if nothing does.
abbrev pub lines_after : Option (Bor (List ℕ)) → List (List ℕ)
lines_after None = []
lines_after (Some after) = lines_of after.now

-- the first line of a text, and what stands after its line feed
abbrev pub IsFirstLine : List ℕ → List ℕ → Option (Bor (List ℕ)) → Type 0
IsFirstLine text first after = lines_of text ≡ first ∷ lines_after after

-- an empty line, or one that begins with `#`
abbrev pub IsEmptyOrComment : List ℕ → Type 0
IsEmptyOrComment [] = Unit {0}
IsEmptyOrComment (b ∷ rest) = b ≡ 35

-- the line's text asks this, or nothing
abbrev pub Asks : List ℕ → Option (Call DeviceStep) → Type 0
Asks text None = IsEmptyOrComment text
Asks text (Some line) = HasLine line × (line_text line ≡ text)

-- the line that is asked, if one is
abbrev pub call_if_asked : Bool → Call DeviceStep → Option (Call DeviceStep)
call_if_asked true line = Some line
call_if_asked false line = None

-- the lines' texts ask these in turn
pub data AskForCalls : List (List ℕ) → List (Call DeviceStep) → Type 0 where
  no_lines : AskForCalls [] []
  line_asks_nothing : {text : List ℕ} {texts : List (List ℕ)} {rest : List (Call DeviceStep)} → Asks text None
      → AskForCalls texts rest → AskForCalls (text ∷ texts) rest
  line_asks_call : {text : List ℕ} {texts : List (List ℕ)} {line : Call DeviceStep} {rest : List (Call DeviceStep)}
      → Asks text (Some line) → AskForCalls texts rest → AskForCalls (text ∷ texts) (line ∷ rest)

-- The text is a script of these calls.
abbrev pub IsScript : List ℕ → List (Call DeviceStep) → Type 0
IsScript text lines = AskForCalls (lines_of text) lines

-- the text of a line that is neither empty, nor a comment, nor spelled as a line
abbrev pub IsBadLine : List ℕ → Type 0
IsBadLine text = (IsEmptyOrComment text → ⊥) × ((l : Call DeviceStep) → HasLine l → line_text l ≡ text → ⊥)

-- what one text asks, as a list
abbrev pub asked_calls : Option (Call DeviceStep) → List (Call DeviceStep)
asked_calls None = []
asked_calls (Some line) = line ∷ []

-- A text stands among others: the lines are what those before it ask, what it asks itself, and what those after it do.
pub record SplitsAt (before : List (List ℕ)) (text : List ℕ) (after : List (List ℕ)) (lines : List (Call DeviceStep))
    : Type 0 where
  pub earlier : List (Call DeviceStep)
  pub before_ask : AskForCalls before earlier
  pub asked : Option (Call DeviceStep)
  pub text_asks : Asks text asked
  pub rest : List (Call DeviceStep)
  pub after_ask : AskForCalls after rest
  pub lines_are : lines ≡ earlier ++ (asked_calls asked ++ rest)

-- What laws say of a script's lines: lines after lines, one line, a line among others; and one that asks something or
-- nothing isn't bad.
pub record LineLaws : Type 0 where
  pub asked_lists_join : (texts more : List (List ℕ)) (lines rest : List (Call DeviceStep)) → AskForCalls texts lines
      → AskForCalls more rest → AskForCalls (texts ++ more) (lines ++ rest)
  pub one_line_asks : (text : List ℕ) (asked : Option (Call DeviceStep)) → Asks text asked
      → AskForCalls (text ∷ []) (asked_calls asked)
  pub asked_lists_split : (before : List (List ℕ)) (text : List ℕ) (after : List (List ℕ))
      (lines : List (Call DeviceStep))
      → AskForCalls (before ++ text ∷ after) lines → SplitsAt before text after lines
  pub asked_line_is_not_bad : (text : List ℕ) (asked : Option (Call DeviceStep)) → Asks text asked → IsBadLine text → ⊥

-- The line with this number, counted from 1, is bad, and each line before it asks something or nothing.
pub record IsFirstBadLine (text : List ℕ) (number : ℕ) : Type 0 where
  pub before : List (List ℕ)
  pub bad : List ℕ
  pub after : List (List ℕ)
  pub lines : List (Call DeviceStep)
  pub lines_are : lines_of text ≡ before ++ bad ∷ after
  pub is_bad : IsBadLine bad
  pub earlier_lines_ask : AskForCalls before lines
  pub number_is : number ≡ length before + 1
