use Rattle.std.proofs.Common.{◌≡◌, [], append-nil, refl, sym, ◌∙◌, subst, ⊎_elim}
use Rattle.ata_types.specs.declared.PortState.TheVariants.{Dead}
use Rattle.host_boot.specs.declared.ProbeResult.{ProbeResult}
use Rattle.host_boot.specs.declared.ProbeResult.TheVariants.{Ready, Unready, Unserved}
use Rattle.server_history.specs.ServerState.{ServerState}
use Rattle.port_driver.specs.PortAndShared.{TakesTurn, ServesReadyOrProbesUnready, with_served_port}
use Rattle.port_driver.proofs.Placing as placing
use Rattle.port_driver.proofs.served_port.ServedPort.service.Goals as goal

pub returns-in-Ready-clause-turn : goal.returns-in-Ready-clause-turn
returns-in-Ready-clause-turn g c = λ s h.
    let turn = c.service_ready.ensures.serves s h in
    subst (λ (found : ProbeResult). TakesTurn (ServesReadyOrProbesUnready found c.args.port) c.args.replies.now.items c.service_ready.new.replies.items s (with_served_port s (g.A.Adapter.device c.service_ready.new.adapter) c.service_ready.new.shared c.args.port c.service_ready.new.self)) (sym c.in-Ready.is)
    (record { new_replies = turn.new_replies; replies_are = turn.replies_are; turn_is_taken = turn.turn_is_taken; invariant_with_none_due = turn.invariant_with_none_due })

pub returns-in-Unready-clause-turn : goal.returns-in-Unready-clause-turn
returns-in-Unready-clause-turn g c = λ s h.
    let probed = c.probe.ensures.probes s c.args.shared.now h in
    subst (λ (found : ProbeResult). TakesTurn (ServesReadyOrProbesUnready found c.args.port) c.args.replies.now.items c.args.replies.now.items s (with_served_port s (g.A.Adapter.device c.probe.new.adapter) c.args.shared.now c.args.port c.probe.new.self)) (sym c.in-Unready.is)
    (record { new_replies = []; replies_are = sym (append-nil c.args.replies.now.items); turn_is_taken = (refl, probed.0); invariant_with_none_due = probed.1 })

-- no access is made of one that isn't served, or is dead
pub returns-in-Ready-clause-no_access_if_unserved_or_dead : goal.returns-in-Ready-clause-no_access_if_unserved_or_dead
returns-in-Ready-clause-no_access_if_unserved_or_dead g c = λ which. ⊎_elim
    (λ unserved. let z : Ready c.in-Ready.field-0 ≡ Unserved = sym c.in-Ready.is ∙ unserved in absurd cc)
    (λ dead. let z : Ready c.in-Ready.field-0 ≡ Unready Dead = sym c.in-Ready.is ∙ dead in absurd cc)
    which

pub returns-in-Unready-clause-no_access_if_unserved_or_dead : goal.returns-in-Unready-clause-no_access_if_unserved_or_dead
returns-in-Unready-clause-no_access_if_unserved_or_dead g c = λ which. ⊎_elim
    (λ unserved. let z : Unready c.in-Unready.state ≡ Unserved = sym c.in-Unready.is ∙ unserved in absurd cc)
    (λ dead. let z : Unready c.in-Unready.state ≡ Unready Dead = sym c.in-Unready.is ∙ dead in c.probe.ensures.dead cc)
    which

pub returns-in-Unserved-clause-turn : goal.returns-in-Unserved-clause-turn
returns-in-Unserved-clause-turn g c = λ s h.
    let same = placing.with_same s c.args.port c.args.self.now h.has_port_and_shared.port_is (g.A.Adapter.device c.args.adapter.now) c.args.shared.now
    ∙ (λ i. record s { device = sym h.has_port_and_shared.device_is i; table = sym h.has_port_and_shared.table_is i; book = sym h.has_port_and_shared.book_is i }) in
    subst (λ (x : ServerState). TakesTurn (ServesReadyOrProbesUnready c.args.self.now.probe_result c.args.port) c.args.replies.now.items c.args.replies.now.items s x) (sym same)
    (subst (λ (found : ProbeResult). TakesTurn (ServesReadyOrProbesUnready found c.args.port) c.args.replies.now.items c.args.replies.now.items s s) (sym c.in-Unserved.is)
    (record { new_replies = []; replies_are = sym (append-nil c.args.replies.now.items); turn_is_taken = (refl, refl); invariant_with_none_due = h.invariant_with_none_due }))
