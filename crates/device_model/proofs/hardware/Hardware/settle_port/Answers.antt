use Rattle.std.proofs.Common.{rules, ℕ, ◌<◌, ◌∙◌, List, length, slice_index_or, sym, ap, subst, get_or-set_same, get_or-set_other}
use Rattle.std.specs.Prelude.{slice_set}
use Rattle.adapter.specs.Device.{Device}
use Rattle.device_model.specs.ModelOwnSteps.{LeadsBySteps, Settles, IsSettledPort}
use Rattle.device_model.specs.PortView.{port_of, reset_port_without_disk}
use Rattle.device_model.specs.WholeAdapter.{device_of}
use Rattle.device_model.specs.declared.hardware.Hardware.{Hardware}
use Rattle.device_model.specs.declared.port.PortModel.{PortModel}
use Rattle.device_model.proofs.GoingOn.{linked_settled}
use Rattle.device_model.proofs.Own.{own_on}
use Rattle.device_model.proofs.Ports.{port_links, port_same, port_settles}
use Rattle.device_model.proofs.SlotLemmas.{at_port}
use Rattle.device_model.proofs.hardware.Hardware.settle_port.Goals as goal

pub returns-then-link_up_if_possible-clause-own : goal.returns-then-link_up_if_possible-clause-own
returns-then-link_up_if_possible-clause-own c = λ o held loose.
    let h : Hardware = c.args.self.now in
    let p : ℕ = c.args.port in
    let mid : Hardware = record h { ports = slice_set h.ports p c.let_cr_and_fr_fall.new.self } in
    let small : p < length h.ports = search rules in
    let still : p < length mid.ports = search rules in
    let up = rw (at_port mid.ports p c.index-self-port-2.result still) at (c.link_up_if_possible.ensures.up c.if-link_up_if_possible.true (o.media p)) in
    let does = rw (at_port h.ports p c.index-self-port.result small) at (c.let_cr_and_fr_fall.ensures.does (o.media p)) in
    own_on (Settles held) (device_of h o) (device_of mid o) _ (port_settles h o p c.let_cr_and_fr_fall.new.self held small loose does)
    (port_links mid o p c.link_up_if_possible.new.self held _ still loose up.0 up.1 (c.send_signature.ensures.sent o))

pub returns-else-link_up_if_possible-clause-own : goal.returns-else-link_up_if_possible-clause-own
returns-else-link_up_if_possible-clause-own c = λ o held loose.
    let h : Hardware = c.args.self.now in
    let p : ℕ = c.args.port in
    let mid : Hardware = record h { ports = slice_set h.ports p c.let_cr_and_fr_fall.new.self } in
    let small : p < length h.ports = search rules in
    let still : p < length mid.ports = search rules in
    let P : Device → Type 0 = λ d. LeadsBySteps (Settles held) (device_of h o) d in
    subst P (sym (port_same mid o p c.link_up_if_possible.new.self still (rw (at_port mid.ports p c.index-self-port-2.result still) at (c.link_up_if_possible.ensures.same c.if-link_up_if_possible.false))))
    (port_settles h o p c.let_cr_and_fr_fall.new.self held small loose (rw (at_port h.ports p c.index-self-port.result small) at (c.let_cr_and_fr_fall.ensures.does (o.media p))))

pub returns-then-link_up_if_possible-clause-settled : goal.returns-then-link_up_if_possible-clause-settled
returns-then-link_up_if_possible-clause-settled c = λ o.
    let h : Hardware = c.args.self.now in
    let p : ℕ = c.args.port in
    let mid : List PortModel = slice_set h.ports p c.let_cr_and_fr_fall.new.self in
    let small : p < length h.ports = search rules in
    let still : p < length mid = search rules in
    let there = ap (λ (x : Hardware). slice_index_or x.ports p reset_port_without_disk) c.send_signature.ensures.rest ∙ get_or-set_same mid p c.link_up_if_possible.new.self reset_port_without_disk still in
    let P : PortModel → Type 0 = λ x. IsSettledPort (port_of x (o.media p)) in
    subst P (sym there)
    (linked_settled c.let_cr_and_fr_fall.new.self _ c.link_up_if_possible.new.self (o.media p) (get_or-set_same h.ports p c.let_cr_and_fr_fall.new.self c.index-self-port-2.result small) c.let_cr_and_fr_fall.ensures.cr_is_clear_without_st
    c.let_cr_and_fr_fall.ensures.fr_is_clear_without_fre_and_cr c.link_up_if_possible.ensures.no_link_may_come c.link_up_if_possible.ensures.engine c.link_up_if_possible.ensures.fre_and_fr_are_kept)

pub returns-else-link_up_if_possible-clause-settled : goal.returns-else-link_up_if_possible-clause-settled
returns-else-link_up_if_possible-clause-settled c = λ o.
    let h : Hardware = c.args.self.now in
    let p : ℕ = c.args.port in
    let mid : List PortModel = slice_set h.ports p c.let_cr_and_fr_fall.new.self in
    let small : p < length h.ports = search rules in
    let still : p < length mid = search rules in
    let P : PortModel → Type 0 = λ x. IsSettledPort (port_of x (o.media p)) in
    subst P (sym (get_or-set_same mid p c.link_up_if_possible.new.self reset_port_without_disk still))
    (linked_settled c.let_cr_and_fr_fall.new.self _ c.link_up_if_possible.new.self (o.media p) (get_or-set_same h.ports p c.let_cr_and_fr_fall.new.self c.index-self-port-2.result small) c.let_cr_and_fr_fall.ensures.cr_is_clear_without_st
    c.let_cr_and_fr_fall.ensures.fr_is_clear_without_fre_and_cr c.link_up_if_possible.ensures.no_link_may_come c.link_up_if_possible.ensures.engine c.link_up_if_possible.ensures.fre_and_fr_are_kept)

pub returns-then-link_up_if_possible-clause-others : goal.returns-then-link_up_if_possible-clause-others
returns-then-link_up_if_possible-clause-others c = λ o q ne.
    let h : Hardware = c.args.self.now in
    let p : ℕ = c.args.port in
    ap (λ (x : Hardware). port_of (slice_index_or x.ports q reset_port_without_disk) (o.media q)) c.send_signature.ensures.rest
    ∙ ap (λ (x : PortModel). port_of x (o.media q))
    (get_or-set_other (slice_set h.ports p c.let_cr_and_fr_fall.new.self) p q c.link_up_if_possible.new.self reset_port_without_disk ne ∙ get_or-set_other h.ports p q c.let_cr_and_fr_fall.new.self reset_port_without_disk ne)

pub returns-else-link_up_if_possible-clause-others : goal.returns-else-link_up_if_possible-clause-others
returns-else-link_up_if_possible-clause-others c = λ o q ne.
    let h : Hardware = c.args.self.now in
    let p : ℕ = c.args.port in
    ap (λ (x : PortModel). port_of x (o.media q))
    (get_or-set_other (slice_set h.ports p c.let_cr_and_fr_fall.new.self) p q c.link_up_if_possible.new.self reset_port_without_disk ne ∙ get_or-set_other h.ports p q c.let_cr_and_fr_fall.new.self reset_port_without_disk ne)
