use Rattle.std.proofs.Common.{rules, ◌≡◌, ◌∙◌, ◌<◌, length, subst, sym}
use Rattle.adapter.specs.Steps.{IsWorking}
use Rattle.device_model.proofs.Absurd.{some_one}
use Rattle.device_model.specs.WholeAdapter.{no_media}
use Rattle.device_model.specs.PortView.{reset_port_without_disk, taken_in, port_of}
use Rattle.device_model.specs.declared.port.PortModel.{PortModel}
use Rattle.device_model.specs.declared.port.TakenCommand.{TakenCommand}
use Rattle.device_model.proofs.SlotLemmas.{at_port, slot_taken}
use Rattle.std.specs.Prelude.{slice_index_or}
use Rattle.device_model.proofs.slots.working_on.Goals as goal

pub returns-else-is_working_on-clause-none : goal.returns-else-is_working_on-clause-none
returns-else-is_working_on-clause-none c = λ _ t holds.
    let p : PortModel = slice_index_or c.args.ports.now c.args.port reset_port_without_disk in
    let small : c.args.port < length c.args.ports.now = search rules in
    let found = rw (at_port c.args.ports.now c.args.port c.index-ports-port.result small) at c.in_ok-command.ensures.found in
    let same : t ≡ c.in_ok-command.command.now = some_one (sym holds.is_taken ∙ found) in
    let never = rw (at_port c.args.ports.now c.args.port c.index-ports-port-2.result small) at c.is_working_on.ensures.complete c.if-is_working_on.false no_media in
    never (subst (λ (x : TakenCommand). IsWorking (port_of p no_media) x.operation) same (holds.works no_media).working)

pub returns-then-is_working_on-clause-found : goal.returns-then-is_working_on-clause-found
returns-then-is_working_on-clause-found c =
    let p : PortModel = slice_index_or c.args.ports.now c.args.port reset_port_without_disk in
    let small : c.args.port < length c.args.ports.now = search rules in
    let found = rw (at_port c.args.ports.now c.args.port c.index-ports-port.result small) at c.in_ok-command.ensures.found in
    let works = rw (at_port c.args.ports.now c.args.port c.index-ports-port-2.result small) at c.is_working_on.ensures.works c.if-is_working_on.true in
    record {
      is_taken = found;
      works = λ m. record { taken = slot_taken (taken_in p.taken) c.in_ok-command.command.now c.args.slot found; working = works m };
    }
