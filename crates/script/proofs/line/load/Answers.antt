use Rattle.std.proofs.Common.{rules, ◌∙◌, sym, arith}
use Rattle.script.proofs.StepLemmas.{as_load}
use Rattle.script.proofs.line.load.Goals as goal

pub returns-in_err-client-clause-only : goal.returns-in_err-client-clause-only
returns-in_err-client-clause-only c = λ line is e.
    let l = as_load line c.args.client.now c.args.frame.now c.args.offset.now c.args.count.now is e in
    let read = sym c.in_err-client.was ∙ c.parse_client.ensures.spelled_value_is_found l.by l.by_small l.client_is in
    search rules

pub returns-in_err-frame-clause-only : goal.returns-in_err-frame-clause-only
returns-in_err-frame-clause-only c = λ line is e.
    let l = as_load line c.args.client.now c.args.frame.now c.args.offset.now c.args.count.now is e in
    let read = sym c.in_err-frame.was ∙ c.parse_frame.ensures.spelled_value_is_found l.in_frame l.frame_small l.frame_is in
    search rules

pub returns-in_err-offset-clause-only : goal.returns-in_err-offset-clause-only
returns-in_err-offset-clause-only c = λ line is e.
    let l = as_load line c.args.client.now c.args.frame.now c.args.offset.now c.args.count.now is e in
    let read = sym c.in_err-offset.was ∙ c.parse_u32.ensures.spelled_value_is_found l.at (omega (arith, l.at_small)) l.offset_is in
    search rules

pub returns-in_err-count-clause-only : goal.returns-in_err-count-clause-only
returns-in_err-count-clause-only c = λ line is e.
    let l = as_load line c.args.client.now c.args.frame.now c.args.offset.now c.args.count.now is e in
    let read = sym c.in_err-count.was ∙ c.parse_byte_count.ensures.spelled_value_is_found l.many l.least l.most l.count_is in
    search rules

pub returns-clause-only : goal.returns-clause-only
returns-clause-only c = λ line is e.
    let l = as_load line c.args.client.now c.args.frame.now c.args.offset.now c.args.count.now is e in
    let client_read = sym c.in_ok-client.was ∙ c.parse_client.ensures.spelled_value_is_found l.by l.by_small l.client_is in
    let frame_read = sym c.in_ok-frame.was ∙ c.parse_frame.ensures.spelled_value_is_found l.in_frame l.frame_small l.frame_is in
    let offset_read = sym c.in_ok-offset.was ∙ c.parse_u32.ensures.spelled_value_is_found l.at (omega (arith, l.at_small)) l.offset_is in
    let count_read = sym c.in_ok-count.was ∙ c.parse_byte_count.ensures.spelled_value_is_found l.many l.least l.most l.count_is in
    let whole = l.line_is in
    search rules
