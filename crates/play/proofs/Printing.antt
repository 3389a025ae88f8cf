-- What the lines so far have printed.
use Rattle.std.proofs.Common.{ℕ, suc, ◌<◌, true, false, ◌≡◌, ◌≤◌, ◌-◌, drop, Bool, List, [], ◌∷◌, ◌++◌, ◌+◌, Option, Some, None, sym, ap, ◌∙◌, append-nil, append_assoc, subst, length, take, refl, arith}
use Rattle.std.specs.Prelude.{IfErr, IfSome, IsErr, OnOk, Ok, Err}
use Rattle.std.specs.declared.result.Result.{Result}
use Rattle.std.specs.Borrow.{Bor}
use Rattle.std.specs.Io.KnownBytes.{Appends, Keeps}
use Rattle.std.proofs.Math.Seq.{take-add}
use Rattle.std.proofs.lemmas.Bool.{false≢true}
use Rattle.std.proofs.lemmas.Grind.{common_steps}
use Rattle.std.proofs.lemmas.List.{take_all}
use Rattle.ata_types.specs.declared.call.Call.{Call}
use Rattle.block_machine.specs.Events.{AbstractCallResult}
use Rattle.adapter.specs.Device.{Device}
use Rattle.adapter.specs.declared.access.DeviceStep.{DeviceStep}
use Rattle.adapter.specs.declared.tape.Entry.{Entry}
use Rattle.block_server.specs.Promise.{Simulates}
use Rattle.block_server.specs.Said.{said_of}
use Rattle.block_server.specs.ServerView.{ServerView}
use Rattle.script.specs.Script.{Asks, AskForCalls, no_lines, IsFirstLine, IsScript, LineLaws, SplitsAt, asked_calls, lines_of, lines_after}
use Rattle.play.specs.PrintedText.{call_text}
use Rattle.play.specs.PlayedScript.{CallsAnswerAndPrint, prints_nothing, prints_call, PrintsAllOrBeginning, RanFirstLines, RanWholeScript}

pub appends_none : (known : Option (List ℕ)) → Appends known known []
appends_none None = tt
appends_none (Some xs) = sym (append-nil xs)

pub appends_more : (old mid new : Option (List ℕ)) (a b : List ℕ) → Appends old mid a → Appends mid new b → Appends old new (a ++ b)
appends_more None mid new a b x y = tt
appends_more (Some xs) None new a b x y = absurd x
appends_more (Some xs) (Some ys) None a b x y = y
appends_more (Some xs) (Some ys) (Some zs) a b x y = y ∙ ap (λ (text : List ℕ). text ++ b) x ∙ append_assoc xs a b

pub appends_kept : (old mid new : Option (List ℕ)) (a : List ℕ) → Appends old mid a → Keeps mid new → Appends old new a
appends_kept None mid new a x y = tt
appends_kept (Some xs) None new a x y = absurd x
appends_kept (Some xs) (Some ys) None a x y = y
appends_kept (Some xs) (Some ys) (Some zs) a x y = y ∙ x

-- how much there is to read
abbrev pub bytes_left : Option (Bor (List ℕ)) → ℕ
bytes_left None = 0
bytes_left (Some left) = length left.now + 1

-- less is left after a line
pub fewer_left : (after : Option (Bor (List ℕ))) (n : ℕ) → IfSome after (λ a. length a.now < n) → suc (bytes_left after) ≤ n + 1
fewer_left None n less = omega arith
fewer_left (Some a) n less = omega (arith, less)

-- the first line and those after it stand after the lines before
pub cut_more : (all before : List (List ℕ)) (text first : List ℕ) (after : Option (Bor (List ℕ))) → all ≡ before ++ lines_of text → IsFirstLine text first after
    → all ≡ before ++ first ∷ lines_after after
cut_more all before text first after cut is = cut ∙ ap (λ (lines : List (List ℕ)). before ++ lines) is

module _ {A : Type 0} (device : A → Device) (starved : A → Bool) (trace : Bool) (first : ServerView A) (all : List (List ℕ)) where
  -- these texts were read, their lines led to the server, and what they printed stands in the output
  pub record PlayedSoFar (now : ServerView A) (shown : ℕ) (left : Option (Bor (List ℕ))) (before after : Option (List ℕ)) : Type 0 where
    pub texts : List (List ℕ)
    pub cut : all ≡ texts ++ lines_after left
    pub played : List (Call DeviceStep)
    pub asks : AskForCalls texts played
    pub said : List AbstractCallResult
    pub text : List ℕ
    pub last : List ℕ
    pub prints : CallsAnswerAndPrint device starved trace first now shown played said text last
    pub printed : Appends before after (text ++ last)

  pub played_none : (left : Option (Bor (List ℕ))) (before : Option (List ℕ)) → all ≡ lines_after left → PlayedSoFar first 0 left before before
  played_none left before cut = record {
    texts = [];
    cut = cut;
    played = [];
    asks = no_lines;
    said = [];
    text = [];
    last = [];
    prints = prints_nothing;
    printed = appends_none before;
  }

  -- the lines of one text more
  asks_more : (laws : LineLaws) (texts : List (List ℕ)) (played : List (Call DeviceStep)) (text : List ℕ) (asked : Option (Call DeviceStep)) → AskForCalls texts played → Asks text asked
      → AskForCalls (texts ++ text ∷ []) (played ++ asked_calls asked)
  asks_more laws texts played text asked asks more = laws.asked_lists_join texts (text ∷ []) played (asked_calls asked) asks (laws.one_line_asks text asked more)

  cut_on : (texts : List (List ℕ)) (text : List ℕ) (left : Option (Bor (List ℕ))) → all ≡ texts ++ text ∷ lines_after left
      → all ≡ (texts ++ text ∷ []) ++ lines_after left
  cut_on texts text left cut = cut ∙ sym (append_assoc texts (text ∷ []) (lines_after left))

  -- a text that asks nothing
  pub played_nothing : (laws : LineLaws) (now : ServerView A) (shown : ℕ) (text line : List ℕ) (t : Bor (List ℕ)) (left : Option (Bor (List ℕ))) (before after : Option (List ℕ))
      → PlayedSoFar now shown (Some t) before after → IsFirstLine t.now line left → Asks line None → PlayedSoFar now shown left before after
  played_nothing laws now shown text line t left before after so_far is asks = record {
    texts = so_far.texts ++ line ∷ [];
    cut = cut_on so_far.texts line left (cut_more all so_far.texts t.now line left so_far.cut is);
    played = so_far.played;
    asks = subst (λ (lines : List (Call DeviceStep)). AskForCalls (so_far.texts ++ line ∷ []) lines) (append-nil so_far.played)
        (asks_more laws so_far.texts so_far.played line None so_far.asks asks);
    said = so_far.said;
    text = so_far.text;
    last = so_far.last;
    prints = so_far.prints;
    printed = so_far.printed;
  }

  -- a line that was played, and printed whole
  pub played_line : (laws : LineLaws) (now next : ServerView A) (shown : ℕ) (text : List ℕ) (asked : Call DeviceStep) (t : Bor (List ℕ)) (left : Option (Bor (List ℕ)))
      (before mid after : Option (List ℕ)) → PlayedSoFar now shown (Some t) before mid → IsFirstLine t.now text left → Asks text (Some asked)
      → (p : PrintsAllOrBeginning device starved trace shown asked now next mid after) → length p.text ≤ p.part
      → starved now.adapter ≡ false → PlayedSoFar next (length (device next.adapter).tape) left before after
  played_line laws now next shown text asked t left before mid after so_far is asks p whole fed = record {
    texts = so_far.texts ++ text ∷ [];
    cut = cut_on so_far.texts text left (cut_more all so_far.texts t.now text left so_far.cut is);
    played = so_far.played ++ asked ∷ [];
    asks = asks_more laws so_far.texts so_far.played text (Some asked) so_far.asks asks;
    said = so_far.said ++ p.call_result ∷ [];
    text = so_far.text ++ so_far.last;
    last = call_text trace shown (device next.adapter).tape (said_of p.call_result);
    prints = prints_call so_far.prints fed p.simulates;
    printed = appends_more before mid after (so_far.text ++ so_far.last) _ so_far.printed
        (subst (λ (printed : List ℕ). Appends mid after printed) (take_all p.part p.text whole ∙ p.text_is) p.part_is_printed);
  }

module _ {A : Type 0} (device : A → Device) (starved : A → Bool) (trace : Bool) (first : ServerView A) (script : List ℕ) where
  -- a line that was played, and that was the last one; the lines after it ask what they ask
  pub ran_part : (laws : LineLaws) (now next : ServerView A) (shown : ℕ) (text : List ℕ) (asked : Call DeviceStep) (t : Bor (List ℕ)) (left : Option (Bor (List ℕ)))
      (before mid after : Option (List ℕ)) → PlayedSoFar device starved trace first (lines_of script) now shown (Some t) before mid → IsFirstLine t.now text left → Asks text (Some asked)
      → (texts : List (List ℕ)) (lines : List (Call DeviceStep)) → SplitsAt texts text (lines_after left) lines → (p : PrintsAllOrBeginning device starved trace shown asked now next mid after)
      → starved now.adapter ≡ false → (ran : RanFirstLines device starved trace script first next before after) × (ran.part ≡ p.part)
  ran_part laws now next shown text asked t left before mid after so_far is asks texts lines from p fed = (
    record {
      played = so_far.played ++ asked ∷ [];
      rest = from.rest;
      is_script = subst (λ (texts : List (List ℕ)). AskForCalls texts ((so_far.played ++ asked ∷ []) ++ from.rest))
          (sym (cut_on device starved trace first (lines_of script) so_far.texts text left (cut_more (lines_of script) so_far.texts t.now text left so_far.cut is)))
          (laws.asked_lists_join (so_far.texts ++ text ∷ []) (lines_after left) (so_far.played ++ asked ∷ []) from.rest
          (asks_more device starved trace first (lines_of script) laws so_far.texts so_far.played text (Some asked) so_far.asks asks) from.after_ask);
      shown_entry_count = length (device next.adapter).tape;
      call_results = so_far.said ++ p.call_result ∷ [];
      text = so_far.text ++ so_far.last;
      last_text = call_text trace shown (device next.adapter).tape (said_of p.call_result);
      prints = prints_call so_far.prints fed p.simulates;
      part = p.part;
      text_is_printed = appends_more before mid after (so_far.text ++ so_far.last) _ so_far.printed
          (subst (λ (whole : List ℕ). Appends mid after (take p.part whole)) p.text_is p.part_is_printed);
      starved_prints_nothing = p.starved_prints_nothing;
    },
    refl,
  )

  -- before the first one
  pub ran_none : (before : Option (List ℕ)) (lines : List (Call DeviceStep)) → IsScript script lines → (ran : RanFirstLines device starved trace script first first before before) × (ran.part ≡ 0)
  ran_none before lines asks = (
    record {
      played = [];
      rest = lines;
      is_script = asks;
      shown_entry_count = 0;
      call_results = [];
      text = [];
      last_text = [];
      prints = prints_nothing;
      part = 0;
      text_is_printed = appends_none before;
      starved_prints_nothing = λ is. refl;
    },
    refl,
  )

  -- at the end
  pub ran_all : (now : ServerView A) (shown : ℕ) (before after : Option (List ℕ)) → PlayedSoFar device starved trace first (lines_of script) now shown None before after
      → starved now.adapter ≡ false → (ran : RanFirstLines device starved trace script first now before after) × RanWholeScript ran
  ran_all now shown before after so_far fed = (
    record {
      played = so_far.played;
      rest = [];
      is_script = subst (λ (lines : List (Call DeviceStep)). AskForCalls (lines_of script) lines) (sym (append-nil so_far.played))
          (subst (λ (texts : List (List ℕ)). AskForCalls texts so_far.played) (sym (so_far.cut ∙ append-nil so_far.texts)) so_far.asks);
      shown_entry_count = shown;
      call_results = so_far.said;
      text = so_far.text;
      last_text = so_far.last;
      prints = so_far.prints;
      part = length so_far.last;
      text_is_printed = subst (λ (part : List ℕ). Appends before after (so_far.text ++ part)) (sym (take_all (length so_far.last) so_far.last (omega arith))) so_far.printed;
      starved_prints_nothing = λ is. absurd (false≢true (sym fed ∙ is));
    },
    record { all_is_played = refl; all_is_printed = omega arith; is_not_starved = fed },
  )

-- a call whose text is these bytes, of which a part was printed
abbrev pub part_of : {A : Type 0} (device : A → Device) (starved : A → Bool) (trace : Bool) (shown : ℕ) (asked : Call DeviceStep) (one : AbstractCallResult) (old new : ServerView A)
    (before after : Option (List ℕ)) (part : ℕ) (bytes : List ℕ) (tape : List Entry) → Simulates device old new (asked ∷ []) (one ∷ [])
    → tape ≡ (device new.adapter).tape → bytes ≡ call_text trace shown tape (said_of one) → Appends before after (take part bytes)
    → (starved new.adapter ≡ true → part ≡ 0) → PrintsAllOrBeginning device starved trace shown asked old new before after
part_of device starved trace shown asked one old new before after part bytes tape keeps tape_is bytes_are printed silent = record {
  call_result = one;
  simulates = keeps;
  text = bytes;
  text_is = bytes_are ∙ ap (λ (t : List Entry). call_text trace shown t (said_of one)) tape_is;
  part = part;
  part_is_printed = printed;
  starved_prints_nothing = silent;
}

-- some bytes were written, and then some of those after them
pub written_more : (bytes : List ℕ) (written count : ℕ)
    → take written bytes ++ take count (take (length bytes - written) (drop written bytes)) ≡ take (written + count) bytes
written_more bytes written count =
    let rest : take (length bytes - written) (drop written bytes) ≡ drop written bytes = grind (arith, common_steps) in
    ap (λ (left : List ℕ). take written bytes ++ take count left) rest ∙ sym (take-add written count bytes)

-- what holds of an Ok holds where there is an error
pub on_error : {T E : Type 0} (r : Result T E) (P : Type 0) → IsErr r → OnOk r P
on_error (Ok x) P err = cc
on_error (Err e) P err = tt

-- what is known of an error holds of the same one
pub if_error : {T E : Type 0} (r : Result T E) (e : E) (P : E → Type 0) → r ≡ Err e → P e → IfErr r P
if_error (Ok x) e P is given = tt
if_error (Err x) e P is given = let same : x ≡ e = cc in subst P (sym same) given
