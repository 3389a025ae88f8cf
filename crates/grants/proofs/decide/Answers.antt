use Rattle.std.proofs.Common.{◌∙◌, sym}
use Rattle.std.proofs.lemmas.Bool.{iff_false}
use Rattle.dma_frames.specs.FrameTables.{owner_of, lent_to}
use Rattle.grants.proofs.RowLemmas.{found_row}
use Rattle.grants.proofs.RuleLemmas.{no_grant, no_right, bad_count, outside, frame_count, fault, nothing}
use Rattle.grants.proofs.decide.Goals as goal

pub returns-in_default-clause-err : goal.returns-in_default-clause-err
returns-in_default-clause-err c =
    no_grant c.args.grants.now (owner_of c.args.table.now) (lent_to c.args.table.now) c.args.request.now
    (λ row named. c.in_default.ensures.place row named.0 named.1)

pub returns-then-not-allows-clause-err : goal.returns-then-not-allows-clause-err
returns-then-not-allows-clause-err c =
    no_right c.args.grants.now (owner_of c.args.table.now) (lent_to c.args.table.now) c.args.request.now _
    (found_row _ _ c.grants.view_is c.grants.invariant.rows_differ_in_name c.args.request.now.client c.args.request.now.grant c.in-Some.place _ _ c.index.ensures c.in-Some.ensures.place)
    (iff_false c.allows.ensures c.if-not-allows.true)

pub returns-then-not-is_allowed_count-clause-err : goal.returns-then-not-is_allowed_count-clause-err
returns-then-not-is_allowed_count-clause-err c =
    bad_count c.args.grants.now (owner_of c.args.table.now) (lent_to c.args.table.now) c.args.request.now _
    (found_row _ _ c.grants.view_is c.grants.invariant.rows_differ_in_name c.args.request.now.client c.args.request.now.grant c.in-Some.place _ _ c.index.ensures c.in-Some.ensures.place)
    (c.allows.ensures.0 c.if-not-allows.false) (iff_false c.is_allowed_count.ensures c.if-not-is_allowed_count.true)

pub returns-then-leaves_row-clause-err : goal.returns-then-leaves_row-clause-err
returns-then-leaves_row-clause-err c =
    outside c.args.grants.now (owner_of c.args.table.now) (lent_to c.args.table.now) c.args.request.now _
    (found_row _ _ c.grants.view_is c.grants.invariant.rows_differ_in_name c.args.request.now.client c.args.request.now.grant c.in-Some.place _ _ c.index.ensures c.in-Some.ensures.place)
    (c.allows.ensures.0 c.if-not-allows.false) (c.is_allowed_count.ensures.0 c.if-not-is_allowed_count.false) (c.leaves_row.ensures.0 c.if-leaves_row.true)

pub returns-then-len-frame_count-clause-err : goal.returns-then-len-frame_count-clause-err
returns-then-len-frame_count-clause-err c =
    frame_count c.args.grants.now (owner_of c.args.table.now) (lent_to c.args.table.now) c.args.request.now _
    (found_row _ _ c.grants.view_is c.grants.invariant.rows_differ_in_name c.args.request.now.client c.args.request.now.grant c.in-Some.place _ _ c.index.ensures c.in-Some.ensures.place)
    (c.allows.ensures.0 c.if-not-allows.false) (c.is_allowed_count.ensures.0 c.if-not-is_allowed_count.false) (iff_false c.leaves_row.ensures c.if-leaves_row.false)
    (λ e. c.if-len-frame_count.true (c.len.ensures.value ∙ e ∙ sym c.frame_count.ensures))

pub returns-in-Err-clause-err : goal.returns-in-Err-clause-err
returns-in-Err-clause-err c =
    fault c.args.grants.now (owner_of c.args.table.now) (lent_to c.args.table.now) c.args.request.now _
    (found_row _ _ c.grants.view_is c.grants.invariant.rows_differ_in_name c.args.request.now.client c.args.request.now.grant c.in-Some.place _ _ c.index.ensures c.in-Some.ensures.place)
    (c.allows.ensures.0 c.if-not-allows.false) (c.is_allowed_count.ensures.0 c.if-not-is_allowed_count.false) (iff_false c.leaves_row.ensures c.if-leaves_row.false)
    (sym c.len.ensures.value ∙ c.if-len-frame_count.false ∙ c.frame_count.ensures)
    c.in-Err.fault (rw c.as_slice.ensures.value at c.in-Err.ensures.err)

pub returns-in-Ok-clause-ok : goal.returns-in-Ok-clause-ok
returns-in-Ok-clause-ok c =
    nothing c.args.grants.now (owner_of c.args.table.now) (lent_to c.args.table.now) c.args.request.now _
    (found_row _ _ c.grants.view_is c.grants.invariant.rows_differ_in_name c.args.request.now.client c.args.request.now.grant c.in-Some.place _ _ c.index.ensures c.in-Some.ensures.place)
    (c.allows.ensures.0 c.if-not-allows.false) (c.is_allowed_count.ensures.0 c.if-not-is_allowed_count.false) (iff_false c.leaves_row.ensures c.if-leaves_row.false)
    (sym c.len.ensures.value ∙ c.if-len-frame_count.false ∙ c.frame_count.ensures)
    (rw c.as_slice.ensures.value at c.in-Ok.ensures.ok)
