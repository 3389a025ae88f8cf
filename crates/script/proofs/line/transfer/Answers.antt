use Rattle.std.proofs.Common.{rules, ◌≡◌, ◌∙◌, ◌∷◌, [], get_or, arith, refl, ap, sym}
use Rattle.script.proofs.WordLemmas.{five}
use Rattle.script.proofs.line.transfer.Goals as goal

pub returns-in_ok-parse_frames-in-len5-clause-found : goal.returns-in_ok-parse_frames-in-len5-clause-found
returns-in_ok-parse_frames-in-len5-clause-found c =
    let by = c.in_ok-request-in-len5.ensures.spelled.1 in
    let under = c.in_ok-request-in-len5-2.ensures.spelled.1 in
    let from = c.in_ok-parse_number-in-len5.ensures.spelled.1 in
    let many = c.in_ok-request-in-len5-3.ensures.spelled.1 in
    let lent = c.in_ok-parse_frames-in-len5.ensures.spelled.1 in (
      refl,
      record {
        client_in_range = search rules;
        grant_in_range = search rules;
        first_in_range = search rules;
        count_in_range = search rules;
        frames_in_range = search rules;
        frame_count_in_range = search rules;
      },
      (λ i. by i ∷ under i ∷ from i ∷ many i ∷ lent i ∷ []) ∙ sym (five c.args.words.now (record { ref_ptr = (0, 0); now = [] }) (omega arith)),
    )

pub returns-in_ok-parse_frames-in-len5-clause-only : goal.returns-in_ok-parse_frames-in-len5-clause-only
returns-in_ok-parse_frames-in-len5-clause-only c = λ r op is e.
    let words = e ∙ five c.args.words.now (record { ref_ptr = (0, 0); now = [] }) (omega arith) in
    let by = sym c.in_ok-request-in-len5.was ∙ c.parse_client.ensures.spelled_value_is_found r.client is.client_in_range (ap (λ ws. get_or ws 0 []) words) in
    let under = sym c.in_ok-request-in-len5-2.was ∙ c.parse_number.ensures.spelled_value_is_found r.grant (omega (arith, is.grant_in_range)) (ap (λ ws. get_or ws 1 []) words) in
    let from = sym c.in_ok-parse_number-in-len5.was ∙ c.parse_number-in-len5.ensures.spelled_value_is_found r.first.0 (omega (arith, is.first_in_range)) (ap (λ ws. get_or ws 2 []) words) in
    let many = sym c.in_ok-request-in-len5-3.was ∙ c.parse_u32.ensures.spelled_value_is_found r.count (omega (arith, is.count_in_range)) (ap (λ ws. get_or ws 3 []) words) in
    let lent = c.parse_frames.ensures.spelled_value_is_found r.frames is.frames_in_range is.frame_count_in_range (ap (λ ws. get_or ws 4 []) words) in
    let client : c.in_ok-request-in-len5.field-0 ≡ r.client = cc in
    let grant : c.in_ok-request-in-len5-2.field-0 ≡ r.grant = cc in
    let first : c.in_ok-parse_number-in-len5.field-0 ≡ r.first.0 = cc in
    let count : c.in_ok-request-in-len5-3.field-0 ≡ r.count = cc in
    (refl, λ i. record { client = client i; grant = grant i; op = sym op i; first = record { 0 = first i }; count = count i; frames = lent.1 i })
