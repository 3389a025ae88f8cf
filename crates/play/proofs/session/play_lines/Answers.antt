use Rattle.std.proofs.Common.{◌≤◌, length, suc, refl, rules, ap, ◌∙◌, sym, subst, Bool, Option, List, ℕ, Err, Some}
use Rattle.std.proofs.lemmas.Result.{err_from_is_err_and}
use Rattle.std.specs.Borrow.{Bor}
use Rattle.adapter.specs.declared.access.DeviceStep.{DeviceStep}
use Rattle.ata_types.specs.declared.call.Call.{Call}
use Rattle.script.specs.Script.{Asks, AskForCalls, call_if_asked, lines_of, lines_after}
use Rattle.play.specs.PlayedScript.{NoMemoryPrintsNoneUnwrittenIsNotStarved}
use Rattle.play.proofs.Printing.{PlayedSoFar, bytes_left, fewer_left, played_none, played_nothing, played_line, ran_none, ran_part, ran_all, cut_more, if_error, on_error}
use Rattle.play.proofs.session.play_lines.Goals as goal

pub loop-rest-init : goal.loop-rest-init
loop-rest-init g c = record { fed = ap g.A.TapedAdapter.ended (sym c.adapter.ensures) ∙ sym c.is_exhausted.ensures ∙ c.if-is_exhausted.false; room = search rules; played = played_none _ _ _ _ _ _ _ refl }

pub returns-then-is_exhausted : goal.returns-then-is_exhausted
returns-then-is_exhausted g c =
    let ran = ran_none g.A.Adapter.device g.A.TapedAdapter.ended c.args.trace c.args.server.now c.args.script.now _ c.requires.good.0 c.requires.good.1 in
    (ran.0, tt, ran.1)

pub returns-then-is_err : goal.returns-then-is_err
returns-then-is_err g c =
    let ran = ran_none g.A.Adapter.device g.A.TapedAdapter.ended c.args.trace c.args.server.now c.args.script.now _ c.requires.good.0 c.requires.good.1 in
    (ran.0, tt, ran.1)

pub play_line-requires-clause-room : goal.play_line-requires-clause-room
play_line-requires-clause-room g c = c.loop-rest.invariant.room

-- a line that asks nothing
pub loop-rest-preserved-in-Ok-false : goal.loop-rest-preserved-in-Ok-false
loop-rest-preserved-in-Ok-false g c =
    let device = g.A.Adapter.device in
    let before = g.W.Write.contents c.args.out.now in
    let here = g.W.Write.contents c.loop-rest.out in
    let all = lines_of c.args.script.now in
    let so_far = subst (λ (rest : Option (Bor (List ℕ))). PlayedSoFar device g.A.TapedAdapter.ended c.args.trace c.args.server.now all c.loop-rest.server c.loop-rest.shown rest before here) c.in-Some.is c.loop-rest.invariant.played in
    let asks = subst (λ (some : Bool). Asks c.first_line.result.0.now (call_if_asked some c.parse_script_line.new.call)) c.in-Ok-false.field-0-test c.in-Ok-false.ensures.ok in
    record {
      fed = c.loop-rest.invariant.fed;
      room = c.loop-rest.invariant.room;
      played = played_nothing device g.A.TapedAdapter.ended c.args.trace c.args.server.now all c.law_lines_are_asked_in_turn.ensures c.loop-rest.server c.loop-rest.shown c.in-Some.text.now c.first_line.result.0.now c.in-Some.text
          c.first_line.result.1 before here so_far c.first_line.ensures.is_first_line asks;
    }

-- no line of a script that was looked at is bad
pub loop-rest-preserved : goal.loop-rest-preserved
loop-rest-preserved g c =
    let device = g.A.Adapter.device in
    let before = g.W.Write.contents c.args.out.now in
    let here = g.W.Write.contents c.loop-rest.out in
    let all = lines_of c.args.script.now in
    let so_far = subst (λ (rest : Option (Bor (List ℕ))). PlayedSoFar device g.A.TapedAdapter.ended c.args.trace c.args.server.now all c.loop-rest.server c.loop-rest.shown rest before here) c.in-Some.is c.loop-rest.invariant.played in
    let cut = cut_more all so_far.texts c.in-Some.text.now c.first_line.result.0.now c.first_line.result.1 so_far.cut c.first_line.ensures.is_first_line in
    let from = c.law_lines_are_asked_in_turn.ensures.asked_lists_split so_far.texts c.first_line.result.0.now (lines_after c.first_line.result.1) c.requires.good.0 (subst (λ (texts : List (List ℕ)). AskForCalls texts c.requires.good.0) cut c.requires.good.1) in
    absurd (c.law_lines_are_asked_in_turn.ensures.asked_line_is_not_bad c.first_line.result.0.now from.asked from.text_asks c.in-Err.ensures.bad)

-- the line is the last one that was played
pub returns-in_err-shown-in-Ok-true : goal.returns-in_err-shown-in-Ok-true
returns-in_err-shown-in-Ok-true g c =
    let device = g.A.Adapter.device in
    let before = g.W.Write.contents c.args.out.now in
    let here = g.W.Write.contents c.loop-rest.out in
    let after = g.W.Write.contents c.play_line.new.out in
    let all = lines_of c.args.script.now in
    let so_far = subst (λ (rest : Option (Bor (List ℕ))). PlayedSoFar device g.A.TapedAdapter.ended c.args.trace c.args.server.now all c.loop-rest.server c.loop-rest.shown rest before here) c.in-Some.is c.loop-rest.invariant.played in
    let cut = cut_more all so_far.texts c.in-Some.text.now c.first_line.result.0.now c.first_line.result.1 so_far.cut c.first_line.ensures.is_first_line in
    let from = c.law_lines_are_asked_in_turn.ensures.asked_lists_split so_far.texts c.first_line.result.0.now (lines_after c.first_line.result.1) c.requires.good.0 (subst (λ (texts : List (List ℕ)). AskForCalls texts c.requires.good.0) cut c.requires.good.1) in
    let reads = subst (λ (some : Bool). Asks c.first_line.result.0.now (call_if_asked some c.parse_script_line.new.call)) c.in-Ok-true.field-0-test c.in-Ok-true.ensures.ok in
    let asks = subst (λ (call : Call DeviceStep). Asks c.first_line.result.0.now (Some call)) (sym c.call.ensures) reads in
    let printed = c.in_err-shown-in-Ok-true.ensures.printed in
    let ran = ran_part device g.A.TapedAdapter.ended c.args.trace c.args.server.now c.args.script.now c.law_lines_are_asked_in_turn.ensures c.loop-rest.server c.play_line.new.server c.loop-rest.shown c.first_line.result.0.now
    c.call.result.now c.in-Some.text c.first_line.result.1 before here after so_far c.first_line.ensures.is_first_line asks so_far.texts c.requires.good.0 from
    printed.0 c.loop-rest.invariant.fed in
    let told = err_from_is_err_and c.from_residual.result c.from_residual.ensures.1 in (
      ran.0,
      on_error c.from_residual.result _ c.from_residual.ensures.0,
      if_error c.from_residual.result _ (NoMemoryPrintsNoneUnwrittenIsNotStarved (g.A.TapedAdapter.ended c.play_line.new.server.adapter) ran.0.part) (told.1 ∙ ap Err told.2)
          (subst (λ (part : ℕ). NoMemoryPrintsNoneUnwrittenIsNotStarved (g.A.TapedAdapter.ended c.play_line.new.server.adapter) part c.in_err-shown-in-Ok-true.field-0.0) (sym ran.1) printed.2),
    )

pub returns : goal.returns
returns g c =
    let device = g.A.Adapter.device in
    let before = g.W.Write.contents c.args.out.now in
    let here = g.W.Write.contents c.loop-rest.out in
    let all = lines_of c.args.script.now in
    let so_far = subst (λ (rest : Option (Bor (List ℕ))). PlayedSoFar device g.A.TapedAdapter.ended c.args.trace c.args.server.now all c.loop-rest.server c.loop-rest.shown rest before here) c.in_default.is c.loop-rest.invariant.played in
    let whole = ran_all device g.A.TapedAdapter.ended c.args.trace c.args.server.now c.args.script.now c.loop-rest.server c.loop-rest.shown before here so_far c.loop-rest.invariant.fed in (whole.0, whole.1, tt)

-- the line was played and printed
pub loop-rest-preserved-in_ok-shown-in-Ok-true : goal.loop-rest-preserved-in_ok-shown-in-Ok-true
loop-rest-preserved-in_ok-shown-in-Ok-true g c =
    let device = g.A.Adapter.device in
    let before = g.W.Write.contents c.args.out.now in
    let here = g.W.Write.contents c.loop-rest.out in
    let after = g.W.Write.contents c.play_line.new.out in
    let all = lines_of c.args.script.now in
    let so_far = subst (λ (rest : Option (Bor (List ℕ))). PlayedSoFar device g.A.TapedAdapter.ended c.args.trace c.args.server.now all c.loop-rest.server c.loop-rest.shown rest before here) c.in-Some.is c.loop-rest.invariant.played in
    let reads = subst (λ (some : Bool). Asks c.first_line.result.0.now (call_if_asked some c.parse_script_line.new.call)) c.in-Ok-true.field-0-test c.in-Ok-true.ensures.ok in
    let asks = subst (λ (call : Call DeviceStep). Asks c.first_line.result.0.now (Some call)) (sym c.call.ensures) reads in
    let printed = c.in_ok-shown-in-Ok-true.ensures.printed in
    record {
      fed = c.in_ok-shown-in-Ok-true.ensures.fed;
      room = c.play_line.ensures.room;
      played = subst (λ (shown : ℕ). PlayedSoFar device g.A.TapedAdapter.ended c.args.trace c.args.server.now all c.play_line.new.server shown c.first_line.result.1 before after) (sym c.in_ok-shown-in-Ok-true.ensures.shown)
          (played_line device g.A.TapedAdapter.ended c.args.trace c.args.server.now all c.law_lines_are_asked_in_turn.ensures c.loop-rest.server c.play_line.new.server c.loop-rest.shown c.first_line.result.0.now
          c.call.result.now c.in-Some.text c.first_line.result.1 before here after so_far c.first_line.ensures.is_first_line asks printed.0 printed.1 c.loop-rest.invariant.fed);
    }

pub loop-rest-smaller-in_ok-shown-in-Ok-true : goal.loop-rest-smaller-in_ok-shown-in-Ok-true
loop-rest-smaller-in_ok-shown-in-Ok-true g c =
    subst (λ (rest : Option (Bor (List ℕ))). suc (bytes_left c.first_line.result.1) ≤ bytes_left rest) (sym c.in-Some.is)
    (fewer_left c.first_line.result.1 (length c.in-Some.text.now) c.first_line.ensures.rest_is_shorter)
