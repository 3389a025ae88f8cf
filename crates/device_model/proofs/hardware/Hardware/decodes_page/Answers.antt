use Rattle.std.proofs.Common.{rules, ◌<◌, length, Bool, Option, refl, subst, sym}
use Rattle.device_model.specs.Finishing.{FindsPageCommandAndWhetherItCanEnd}
use Rattle.device_model.specs.WholeAdapter.{device_of}
use Rattle.device_model.proofs.Ready.{finds, page_crowded, page_said, page_unmeant, page_unsaid, page_endless, may_page, ready_may}
use Rattle.device_model.proofs.SlotLemmas.{at_port}
use Rattle.device_model.proofs.hardware.Hardware.decodes_page.Goals as goal

pub returns-then-admits_by_halt_and_taken : goal.returns-then-admits_by_halt_and_taken
returns-then-admits_by_halt_and_taken c = λ o.
    let h = c.args.self.now in
    let some : c.args.port < length c.args.self.now.ports = search rules in
    let said = rw (at_port h.ports c.args.port c.index-self-port.result some) at (rw c.deref.ensures.value at c.in_ok-command.ensures.found) in
    let kind = c.in_ok-command.ensures.operation in
    let beside = rw (at_port h.ports c.args.port c.index-self-port-2.result some) at (c.admits_by_halt_and_taken.ensures.open c.if-admits_by_halt_and_taken.true) in
    finds (device_of h o) c.args.port c.args.slot c.can_end.result
    (λ e. page_said h c.args.port c.args.slot c.len.result c.len.ensures c.in_ok-command.command said.0 said.1 kind c.requires.may beside (c.can_end.ensures.ends e) o)
    (λ e. (
      may_page h c.args.port c.args.slot c.in_ok-command.command said.1 kind c.requires.may beside o,
      page_endless h c.args.port c.args.slot c.len.result c.len.ensures c.in_ok-command.command said.0 said.1 c.requires.may (c.can_end.ensures.only e) o,
    ))

-- another command is taken
pub returns : goal.returns
returns c = λ o.
    let h = c.args.self.now in
    let some : c.args.port < length c.args.self.now.ports = search rules in
    let said = rw (at_port h.ports c.args.port c.index-self-port.result some) at (rw c.deref.ensures.value at c.in_ok-command.ensures.found) in
    let never = page_crowded h c.args.port c.args.slot c.in_ok-command.command said.1 (rw (at_port h.ports c.args.port c.index-self-port-2.result some) at (c.admits_by_halt_and_taken.ensures.complete c.if-admits_by_halt_and_taken.false)) o in
    (never, λ has. never (ready_may h c.args.port c.args.slot c.requires.may o has))

pub returns-in_err-command : goal.returns-in_err-command
returns-in_err-command c = λ o.
    let some : c.args.port < length c.args.self.now.ports = search rules in
    let none = rw (at_port c.args.self.now.ports c.args.port c.index-self-port.result some) at (rw c.deref.ensures.value at c.decode_page_command.ensures.complete c.in_err-command.was) in
    let P : Option Bool → Type 0 = λ r. FindsPageCommandAndWhetherItCanEnd (device_of c.args.self.now o) c.args.port c.args.slot r in
    subst P (sym c.from_residual.ensures) (page_unmeant c.args.self.now c.args.port c.args.slot none o, page_unsaid c.args.self.now c.args.port c.args.slot _ refl none c.requires.may o)
