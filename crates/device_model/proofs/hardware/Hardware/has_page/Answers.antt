use Rattle.std.proofs.Common.{rules, Bool, Option, None, false, ◌≡◌, ◌<◌, ◌∙◌, ◌||◌, length, refl, sym, ap, subst}
use Rattle.std.specs.Prelude.{is_some}
use Rattle.std.proofs.lemmas.Bool.{or_parts}
use Rattle.adapter.specs.Commands.{sends_page}
use Rattle.device_model.proofs.Absurd.{some_one, true-false}
use Rattle.device_model.specs.Finishing.{FindsPageCommandAndWhetherItCanEnd}
use Rattle.device_model.specs.WholeAdapter.{device_of}
use Rattle.device_model.specs.declared.port.TakenCommand.{TakenCommand}
use Rattle.device_model.proofs.Ready.{Ends, page_barred, page_held, page_unheld, page_unmeant, page_unsaid, page_unused}
use Rattle.device_model.proofs.SlotLemmas.{at_port, none_filled}
use Rattle.device_model.proofs.hardware.Hardware.has_page.Goals as goal

pub decodes_page-requires-clause-may : goal.decodes_page-requires-clause-may
decodes_page-requires-clause-may c = c.is_fetchable_if_halt_admits.ensures.may c.if-is_fetchable_if_halt_admits.true

pub returns-then-can_end : goal.returns-then-can_end
returns-then-can_end c =
    page_held c.args.self.now c.args.port c.args.slot c.len.result c.len.ensures c.in_ok-command.command.now c.in_ok-command.ensures.found (sym c.sends_page.ensures ∙ c.if-not-sends_page.false)
    (c.can_end.ensures.ends c.if-can_end.true)

pub returns-else-can_end : goal.returns-else-can_end
returns-else-can_end c = λ o.
    let never = c.is_fetchable_if_halt_admits.ensures.complete c.if-is_fetchable_if_halt_admits.false in (
      page_barred c.args.self.now c.args.port c.args.slot never o,
      page_unheld c.args.self.now c.args.port c.args.slot c.len.result c.len.ensures
          (λ r held kind ends.
          let same : r ≡ c.in_ok-command.command.now = some_one (sym held.is_taken ∙ c.in_ok-command.ensures.found.is_taken) in
          let here = subst (λ (x : TakenCommand). Ends c.args.self.now c.args.port c.args.slot c.len.result c.len.ensures x) same ends in
          c.can_end.ensures.only c.if-can_end.false here.0 here.1 here.2)
          never o,
    )

pub returns-in_err-command : goal.returns-in_err-command
returns-in_err-command c = λ o.
    let never = c.is_fetchable_if_halt_admits.ensures.complete c.if-is_fetchable_if_halt_admits.false in
    let P : Option Bool → Type 0 = λ r. FindsPageCommandAndWhetherItCanEnd (device_of c.args.self.now o) c.args.port c.args.slot r in
    subst P (sym c.from_residual.ensures) (
      page_barred c.args.self.now c.args.port c.args.slot never o,
      page_unheld c.args.self.now c.args.port c.args.slot _ refl (λ r held kind ends. c.working_on.ensures.none c.in_err-command.was r held) never o,
    )

pub returns-then-not-sends_page : goal.returns-then-not-sends_page
returns-then-not-sends_page c = λ o.
    let never = c.is_fetchable_if_halt_admits.ensures.complete c.if-is_fetchable_if_halt_admits.false in (
      page_barred c.args.self.now c.args.port c.args.slot never o,
      page_unheld c.args.self.now c.args.port c.args.slot _ refl
          (λ r held kind ends.
          let same : r ≡ c.in_ok-command.command.now = some_one (sym held.is_taken ∙ c.in_ok-command.ensures.found.is_taken) in
          true-false (ap (λ (x : TakenCommand). sends_page x.operation) (sym same) ∙ kind) (sym c.sends_page.ensures ∙ c.if-not-sends_page.true))
          never o,
    )

unused_parts : {r issued : Bool} {held : Option TakenCommand} → r ≡ (issued || is_some held) → r ≡ false →
    (issued ≡ false) × (held ≡ None)
unused_parts {r} {issued} {held} is none =
    let parts = or_parts issued (is_some held) (sym is ∙ none) in
    (parts.0, none_filled held parts.1)

-- neither issued nor taken
pub returns-then-not-is_issued_or_taken : goal.returns-then-not-is_issued_or_taken
returns-then-not-is_issued_or_taken c = λ o.
    let h = c.args.self.now in
    let some : c.args.port < length h.ports = search rules in
    let unused = unused_parts c.is_issued_or_taken.ensures c.if-not-is_issued_or_taken.true in
    let unissued = rw (at_port h.ports c.args.port c.index-self-port.result some) at unused.0 in
    let untaken = rw (at_port h.ports c.args.port c.index-self-port.result some) at unused.1 in
    page_unused h c.args.port c.args.slot unissued untaken o

-- issued, with the code of another command
pub returns-then-not-may_be_page_command : goal.returns-then-not-may_be_page_command
returns-then-not-may_be_page_command c = λ o.
    let h = c.args.self.now in
    let some : c.args.port < length h.ports = search rules in
    let none = rw (at_port h.ports c.args.port c.index-self-port-then-is_fetchable_if_halt_admits.result some) at (rw c.deref.ensures.value at (c.may_be_page_command.ensures c.if-not-may_be_page_command.true)) in
    (page_unmeant h c.args.port c.args.slot none o, page_unsaid h c.args.port c.args.slot _ refl none (c.is_fetchable_if_halt_admits.ensures.may c.if-is_fetchable_if_halt_admits.true) o)
