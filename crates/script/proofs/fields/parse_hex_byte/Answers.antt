use Rattle.std.proofs.Common.{rules, ◌≡◌, ◌<◌, ◌∙◌, ◌∷◌, [], Some, ap, sym, arith, length, get_or}
use Rattle.std.proofs.lemmas.List.Elements.{All-nil, All-cons}
use Rattle.script.proofs.fields.parse_hex_byte.Goals as goal

pub returns-in_err-parse_bytes-clause-spelled_value_is_found : goal.returns-in_err-parse_bytes-clause-spelled_value_is_found
returns-in_err-parse_bytes-clause-spelled_value_is_found c = λ b small e.
    let read = c.parse_bytes.ensures.spelled_value_is_found (record { items = b ∷ [] }) (All-cons (λ b. b < 256) b [] small (All-nil (λ b. b < 256))) (omega arith) (omega arith) e in
    search rules

pub returns-in-len1-clause-spelled_value_is_found : goal.returns-in-len1-clause-spelled_value_is_found
returns-in-len1-clause-spelled_value_is_found c = λ b small e.
    let read = c.parse_bytes.ensures.spelled_value_is_found (record { items = b ∷ [] }) (All-cons (λ b. b < 256) b [] small (All-nil (λ b. b < 256))) (omega arith) (omega arith) e in
    let both = sym c.in_ok-parse_bytes.was ∙ read in
    let same : c.in_ok-parse_bytes.field-0.items ≡ b ∷ [] = cc in
    let items : c.as_slice.result.now ≡ b ∷ [] = search rules in
    ap (λ xs. Some (get_or xs 0 0)) items

pub returns-in_default-2-clause-spelled_value_is_found : goal.returns-in_default-2-clause-spelled_value_is_found
returns-in_default-2-clause-spelled_value_is_found c = λ b small e.
    let read = c.parse_bytes.ensures.spelled_value_is_found (record { items = b ∷ [] }) (All-cons (λ b. b < 256) b [] small (All-nil (λ b. b < 256))) (omega arith) (omega arith) e in
    let both = sym c.in_ok-parse_bytes.was ∙ read in
    let same : c.in_ok-parse_bytes.field-0.items ≡ b ∷ [] = cc in
    let items : c.as_slice.result.now ≡ b ∷ [] = search rules in
    absurd (omega (arith, c.in_default.len_at_least, ap length items))
