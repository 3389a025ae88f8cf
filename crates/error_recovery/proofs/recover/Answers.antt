use Rattle.std.proofs.Common.{sym, subst}
use Rattle.error_recovery.specs.Recovery.{Recovers}
use Rattle.error_recovery.specs.declared.Recovered as recovered
use Rattle.error_recovery.proofs.Finishing.{is_stuck, recovers_at, resumes_at}
use Rattle.error_recovery.proofs.recover.Goals as goal

pub returns-in_default-clause-recovers : goal.returns-in_default-clause-recovers
returns-in_default-clause-recovers g c =
    let R : recovered.Recovered → Type 0 = λ result. Recovers c.args.port c.args.outstanding c.args.queued result (g.A.Adapter.device c.args.adapter.now) (g.A.Adapter.device c.stop_and_clear.new.adapter) in
    subst R (sym c.unnamed.ensures) (is_stuck c.law_prerequisites.ensures c.args.port c.args.outstanding c.args.queued _ _ c.requires.may_handle_error.adapter_is_on c.requires.may c.in_default.ensures.sticks)

pub finish_queued-requires : goal.finish_queued-requires
finish_queued-requires g c =
    let e = c.in-Some.ensures in
    let r = c.requires in
    record { resumes = (_, resumes_at c.args.port _ c.args.outstanding _ _ _ _ _ _ e.quiets.0 c.if-queued.true (record { adapter_is_on = r.may_handle_error.adapter_is_on; machine_is_related = r.may_handle_error.machine_is_related; may_recover = r.may; plain_is_slot_0 = r.may_handle_error.plain_is_slot_0; stops_and_clears = e.quiets.1 })) }

pub finish_plain-requires : goal.finish_plain-requires
finish_plain-requires g c =
    let e = c.in-Some.ensures in
    let r = c.requires in
    record { resumes = (_, resumes_at c.args.port _ c.args.outstanding _ _ _ _ _ _ e.quiets.0 c.if-queued.false (record { adapter_is_on = r.may_handle_error.adapter_is_on; machine_is_related = r.may_handle_error.machine_is_related; may_recover = r.may; plain_is_slot_0 = r.may_handle_error.plain_is_slot_0; stops_and_clears = e.quiets.1 })) }

pub returns-then-queued-clause-recovers : goal.returns-then-queued-clause-recovers
returns-then-queued-clause-recovers g c =
    let e = c.in-Some.ensures in
    let r = c.requires in
    recovers_at c.args.port _ c.args.outstanding _ _ _ _ _ e.quiets.0 c.if-queued.true
    (c.finish_queued.ensures.finishes.recovers _ (resumes_at c.args.port _ c.args.outstanding _ _ _ _ _ _ e.quiets.0 c.if-queued.true (record { adapter_is_on = r.may_handle_error.adapter_is_on; machine_is_related = r.may_handle_error.machine_is_related; may_recover = r.may; plain_is_slot_0 = r.may_handle_error.plain_is_slot_0; stops_and_clears = e.quiets.1 })))

pub returns-else-queued-clause-recovers : goal.returns-else-queued-clause-recovers
returns-else-queued-clause-recovers g c =
    let e = c.in-Some.ensures in
    let r = c.requires in
    recovers_at c.args.port _ c.args.outstanding _ _ _ _ _ e.quiets.0 c.if-queued.false
    (c.finish_plain.ensures.finishes.recovers _ (resumes_at c.args.port _ c.args.outstanding _ _ _ _ _ _ e.quiets.0 c.if-queued.false (record { adapter_is_on = r.may_handle_error.adapter_is_on; machine_is_related = r.may_handle_error.machine_is_related; may_recover = r.may; plain_is_slot_0 = r.may_handle_error.plain_is_slot_0; stops_and_clears = e.quiets.1 })))

pub returns-then-queued-clause-adapter_is_on : goal.returns-then-queued-clause-adapter_is_on
returns-then-queued-clause-adapter_is_on g c = c.finish_queued.ensures.finishes.adapter_is_on

pub returns-else-queued-clause-adapter_is_on : goal.returns-else-queued-clause-adapter_is_on
returns-else-queued-clause-adapter_is_on g c = c.finish_plain.ensures.finishes.adapter_is_on
