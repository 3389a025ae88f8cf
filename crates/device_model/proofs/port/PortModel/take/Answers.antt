use Rattle.std.proofs.Common.{ℕ, Bool, true, false, ◌≡◌, ◌∙◌, sym, ap}
use Rattle.std.specs.Prelude.{bit_or, if◌then◌else◌}
use Rattle.adapter.specs.Commands.{is_queued}
use Rattle.adapter.specs.Device.{DevicePort}
use Rattle.adapter.specs.Memory.{changed}
use Rattle.adapter.specs.Steps.{port_after_fetch}
use Rattle.device_model.specs.WordBits.{word_bits}
use Rattle.device_model.specs.PortView.{taken_in, port_of, taken_commands_by_slot, taken_of}
use Rattle.device_model.specs.declared.port.PortModel.{PortModel}
use Rattle.device_model.specs.declared.port.TakenCommand.{TakenCommand}
use Rattle.device_model.specs.WholeAdapter.{no_media}
use Rattle.device_model.proofs.Transfers.{both_queued}
use Rattle.device_model.proofs.SlotLemmas.{slot_taken, slots_begun}
use Rattle.device_model.proofs.port.PortModel.take.Goals as goal

pub put-requires-clause-alone : goal.put-requires-clause-alone
put-requires-clause-alone c = λ other u ne held.
    both_queued c.args.command.now.operation u.operation (c.requires.alone no_media other (taken_of u) (slot_taken (taken_in c.args.self.now.taken) u other held))

-- a queued one
pub returns-then-queued : goal.returns-then-queued
returns-then-queued c = λ m.
    let p : PortModel = c.args.self.now in
    let r : TakenCommand = c.args.command.now in
    let state : DevicePort = port_after_fetch (port_of p m) c.args.slot (taken_of r).meaning (taken_of r).places in
    let queued : true ≡ is_queued r.operation = sym c.if-queued.true ∙ c.is_queued-queued.ensures in
    let taken = ap taken_commands_by_slot c.put.ensures ∙ slots_begun (taken_in p.taken) c.args.slot r c.requires.new in
    let ci : word_bits c.with_bit_as-self.result ≡ changed (word_bits p.ci) c.args.slot false =
    c.with_bit_as-self.ensures ∙ ap (λ (place : ℕ). changed (word_bits p.ci) place false) c.from.ensures in
    (λ i. record (port_of p m) { taken = taken i; ci = ci i })
    ∙ ap (λ (b : Bool). record state { ci = if b then changed (word_bits p.ci) c.args.slot false else word_bits p.ci; tfd = if b then (port_of p m).tfd else bit_or (port_of p m).tfd 0x80 }) queued

-- a plain one
pub returns-else-queued : goal.returns-else-queued
returns-else-queued c = λ m.
    let p : PortModel = c.args.self.now in
    let r : TakenCommand = c.args.command.now in
    let state : DevicePort = port_after_fetch (port_of p m) c.args.slot (taken_of r).meaning (taken_of r).places in
    let plain : false ≡ is_queued r.operation = sym c.if-queued.false ∙ c.is_queued-queued.ensures in
    let taken = ap taken_commands_by_slot c.put.ensures ∙ slots_begun (taken_in p.taken) c.args.slot r c.requires.new in
    let tfd : bit_or c.task_file.result 0x80 ≡ bit_or (port_of p m).tfd 0x80 = ap (λ (n : ℕ). bit_or n 0x80) c.task_file.ensures in
    (λ i. record (port_of p m) { taken = taken i; tfd = tfd i })
    ∙ ap (λ (b : Bool). record state { ci = if b then changed (word_bits p.ci) c.args.slot false else word_bits p.ci; tfd = if b then (port_of p m).tfd else bit_or (port_of p m).tfd 0x80 }) plain
