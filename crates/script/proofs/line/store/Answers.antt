use Rattle.std.proofs.Common.{rules, ◌∙◌, sym, arith}
use Rattle.script.proofs.StepLemmas.{as_store}
use Rattle.script.proofs.line.store.Goals as goal

pub returns-in_err-client-clause-only : goal.returns-in_err-client-clause-only
returns-in_err-client-clause-only c = λ line is e.
    let l = as_store line c.args.client.now c.args.frame.now c.args.offset.now c.args.bytes.now is e in
    let read = sym c.in_err-client.was ∙ c.parse_client.ensures.spelled_value_is_found l.by l.by_small l.client_is in
    search rules

pub returns-in_err-frame-clause-only : goal.returns-in_err-frame-clause-only
returns-in_err-frame-clause-only c = λ line is e.
    let l = as_store line c.args.client.now c.args.frame.now c.args.offset.now c.args.bytes.now is e in
    let read = sym c.in_err-frame.was ∙ c.parse_frame.ensures.spelled_value_is_found l.in_frame l.frame_small l.frame_is in
    search rules

pub returns-in_err-offset-clause-only : goal.returns-in_err-offset-clause-only
returns-in_err-offset-clause-only c = λ line is e.
    let l = as_store line c.args.client.now c.args.frame.now c.args.offset.now c.args.bytes.now is e in
    let read = sym c.in_err-offset.was ∙ c.parse_u32.ensures.spelled_value_is_found l.at (omega (arith, l.at_small)) l.offset_is in
    search rules

pub returns-in_err-bytes-clause-only : goal.returns-in_err-bytes-clause-only
returns-in_err-bytes-clause-only c = λ line is e.
    let l = as_store line c.args.client.now c.args.frame.now c.args.offset.now c.args.bytes.now is e in
    let read = sym c.in_err-bytes.was ∙ c.parse_bytes.ensures.spelled_value_is_found l.put l.all l.least l.most l.bytes_are in
    search rules

pub returns-clause-only : goal.returns-clause-only
returns-clause-only c = λ line is e.
    let l = as_store line c.args.client.now c.args.frame.now c.args.offset.now c.args.bytes.now is e in
    let client_read = sym c.in_ok-client.was ∙ c.parse_client.ensures.spelled_value_is_found l.by l.by_small l.client_is in
    let frame_read = sym c.in_ok-frame.was ∙ c.parse_frame.ensures.spelled_value_is_found l.in_frame l.frame_small l.frame_is in
    let offset_read = sym c.in_ok-offset.was ∙ c.parse_u32.ensures.spelled_value_is_found l.at (omega (arith, l.at_small)) l.offset_is in
    let bytes_read = sym c.in_ok-bytes.was ∙ c.parse_bytes.ensures.spelled_value_is_found l.put l.all l.least l.most l.bytes_are in
    let whole = l.line_is in
    search rules

pub returns-clause-found : goal.returns-clause-found
returns-clause-found c =
    let client = c.in_ok-client.ensures.spelled in
    let frame = c.in_ok-frame.ensures.spelled in
    let offset = c.in_ok-offset.ensures.spelled in
    let bytes = c.in_ok-bytes.ensures.spelled in (
      (client.0, frame.0, offset.0, c.in_ok-bytes.ensures.bytes, bytes.0, c.in_ok-bytes.ensures.count_is_allowed),
      cc,
    )
