use Rattle.std.proofs.Common.{rules, ◌<◌, ◌≤◌, length, ◌≡◌, ◌+◌, ◌*◌, ◌/◌, ◌∙◌, refl, sym, arith, slice_index_or}
use Rattle.device_model.specs.FetchedBytes.{no_prd}
use Rattle.device_model.proofs.Fetches.{before_none, before_more, before_here, before_on, before_all}
use Rattle.device_model.proofs.fetch.place_at.Goals as goal

pub loop-prd-init : goal.loop-prd-init
loop-prd-init c = before_none c.args.prds.now c.args.number

pub loop-prd-preserved : goal.loop-prd-preserved
loop-prd-preserved c =
    let small : c.loop-prd.prd-index < length c.args.prds.now = search rules in
    before_more c.args.prds.now c.loop-prd.prd-index c.args.number c.loop-prd.left (slice_index_or c.args.prds.now c.loop-prd.prd-index no_prd) small refl c.if-left-here.false (omega arith) c.loop-prd.invariant

pub returns-then-left-here-clause-found : goal.returns-then-left-here-clause-found
returns-then-left-here-clause-found c =
    let small : c.loop-prd.prd-index < length c.args.prds.now = search rules in
    let e = slice_index_or c.args.prds.now c.loop-prd.prd-index no_prd in
    let here = before_here c.args.prds.now c.loop-prd.prd-index c.args.number c.loop-prd.left e small refl c.if-left-here.true c.loop-prd.invariant in
    let same : c.from.result + 512 * c.from-then-left-here.result ≡ e.address + 512 * c.loop-prd.left = omega (arith, c.from.ensures, c.from-then-left-here.ensures) in
    (here.0, same ∙ here.1)

pub returns-then-left-here-clause-pieces_follow : goal.returns-then-left-here-clause-pieces_follow
returns-then-left-here-clause-pieces_follow c = λ k few.
    let small : c.loop-prd.prd-index < length c.args.prds.now = search rules in
    let e = slice_index_or c.args.prds.now c.loop-prd.prd-index no_prd in
    let here : c.loop-prd.left + k < e.bytes / 512 = omega (arith, few, c.if-left-here.true) in
    let on = before_here c.args.prds.now c.loop-prd.prd-index (c.args.number + k) (c.loop-prd.left + k) e small refl here (before_on c.args.prds.now c.loop-prd.prd-index c.args.number c.loop-prd.left k c.loop-prd.invariant) in
    let same : c.from.result + 512 * c.from-then-left-here.result + 512 * k ≡ e.address + 512 * (c.loop-prd.left + k) = omega (arith, c.from.ensures, c.from-then-left-here.ensures) in
    (on.0, sym (same ∙ on.1))

pub returns-then-left-here-clause-room : goal.returns-then-left-here-clause-room
returns-then-left-here-clause-room c =
    let b = c.loop-prd.invariant.bound in
    let s = c.loop-prd.invariant.sum in
    omega arith

pub returns-clause-none : goal.returns-clause-none
returns-clause-none c = λ _.
    let past : length c.args.prds.now ≤ c.loop-prd.prd-index = search rules in
    before_all c.args.prds.now c.loop-prd.prd-index c.args.number c.loop-prd.left past c.loop-prd.invariant
