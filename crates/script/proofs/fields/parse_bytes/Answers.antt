use Rattle.std.proofs.Common.{rules, ◌≡◌, ◌/◌, ◌∙◌, Some, length, arith, ap, inl, inr}
use Rattle.hex.specs.Hex.{encode_lower}
use Rattle.script.proofs.HexLemmas.{sized_as, decoded}
use Rattle.script.proofs.fields.parse_bytes.Goals as goal
use Rattle.script.proofs.fields.parse_bytes.Goals.{then-is_empty-via-then-is_empty, then-is_empty-via-else-is_empty+then-ne}

pub returns-in_err-bytes-clause-spelled_value_is_found : goal.returns-in_err-bytes-clause-spelled_value_is_found
returns-in_err-bytes-clause-spelled_value_is_found c = λ v all least most e.
    let sized = sized_as v.items c.args.word.now e in
    elim c.in_err-bytes.ensures.lookup.0 [ inl a ↦ absurd (omega arith) | inr b ↦ absurd (omega arith) ]

pub returns-in_err-ok-clause-spelled_value_is_found : goal.returns-in_err-ok-clause-spelled_value_is_found
returns-in_err-ok-clause-spelled_value_is_found c = λ v all least most e.
    let sized = sized_as v.items c.args.word.now e in
    let room : length c.in_ok-bytes.bytes.now ≡ length c.args.word.now / 2 = search rules in
    let read = decoded v.items c.args.word.now (length c.in_ok-bytes.bytes.now) (omega arith) all e c.decode_to_slice.result c.decode_to_slice.new.out c.decode_to_slice.ensures.value in
    let good = read.0 in
    search rules

pub returns-then-is_empty-clause-spelled_value_is_found : goal.returns-then-is_empty-clause-spelled_value_is_found
returns-then-is_empty-clause-spelled_value_is_found c = λ v all least most e.
    let sized = sized_as v.items c.args.word.now e in
    let room : length c.in_ok-bytes.bytes.now ≡ length c.args.word.now / 2 = search rules in
    let read = decoded v.items c.args.word.now (length c.in_ok-bytes.bytes.now) (omega arith) all e c.decode_to_slice.result c.decode_to_slice.new.out c.decode_to_slice.ensures.value in
    let good : c.decode_to_slice.new.out ≡ v.items = read.1 in
    let written : c.encode_to_slice.new.output ≡ encode_lower c.decode_to_slice.new.out = search rules in
    let same : c.encode_to_slice.new.output ≡ c.args.word.now = written ∙ ap encode_lower good ∙ e in
    elim c.then-is_empty.branch [ then-is_empty-via-then-is_empty w ↦ search rules | then-is_empty-via-else-is_empty+then-ne w ↦ search rules ]

pub returns-clause-spelled_value_is_found : goal.returns-clause-spelled_value_is_found
returns-clause-spelled_value_is_found c = λ v all least most e.
    let sized = sized_as v.items c.args.word.now e in
    let room : length c.in_ok-bytes.bytes.now ≡ length c.args.word.now / 2 = search rules in
    let read = decoded v.items c.args.word.now (length c.in_ok-bytes.bytes.now) (omega arith) all e c.decode_to_slice.result c.decode_to_slice.new.out c.decode_to_slice.ensures.value in
    let good : c.decode_to_slice.new.out ≡ v.items = read.1 in
    let taken : c.try_extend_from_slice.new.self.items ≡ c.decode_to_slice.new.out = search rules in
    ap (λ items. Some (record { items = items })) (taken ∙ good)
