use Rattle.std.proofs.Common.{ℕ, Bool, true, false, ◌≡◌, ◌∙◌, None, refl, sym, ap}
use Rattle.std.specs.Prelude.{bit_and, if◌then◌else◌}
use Rattle.adapter.specs.Commands.{is_queued}
use Rattle.adapter.specs.Device.{DurableState, DevicePort}
use Rattle.adapter.specs.Device.Halt.{NotHalted}
use Rattle.adapter.specs.Memory.{changed}
use Rattle.adapter.specs.Steps.{lasting_after, port_after_done_except_lasting, port_with_lasting_after_operation}
use Rattle.adapter.specs.declared.command.Operation.{Operation}
use Rattle.adapter.specs.declared.command.Operation.TheVariants as operation
use Rattle.device_model.specs.WordBits.{word_bits}
use Rattle.device_model.specs.PortView.{Media, cause_of, taken_in, lasting_sectors_after_end, port_of, taken_commands_by_slot}
use Rattle.device_model.specs.declared.port.PortModel.{PortModel}
use Rattle.device_model.proofs.SlotLemmas.{slots_changed}
use Rattle.device_model.proofs.port.PortModel.end.Goals as goal

-- what is lasting then
ended_lasting : (o : Operation) (m : Media) (was here since : ℕ) → since ≡ (lasting_after o (record { sectors = m.lasting; tape_length = was }) m.disk here).tape_length →
    ◌≡◌ {A = DurableState} (record { sectors = lasting_sectors_after_end o m; tape_length = since }) (lasting_after o (record { sectors = m.lasting; tape_length = was }) m.disk here)
ended_lasting operation.Flush m was here since e = λ i. record { sectors = m.disk.sectors; tape_length = e i }
ended_lasting operation.Identify m was here since e = λ i. record { sectors = m.lasting; tape_length = e i }
ended_lasting operation.ReadLog m was here since e = λ i. record { sectors = m.lasting; tape_length = e i }
ended_lasting operation.Read m was here since e = λ i. record { sectors = m.lasting; tape_length = e i }
ended_lasting operation.ReadQueued m was here since e = λ i. record { sectors = m.lasting; tape_length = e i }
ended_lasting operation.Write m was here since e = λ i. record { sectors = m.lasting; tape_length = e i }
ended_lasting operation.WriteQueued m was here since e = λ i. record { sectors = m.lasting; tape_length = e i }
ended_lasting operation.Trim m was here since e = λ i. record { sectors = m.lasting; tape_length = e i }

-- a queued one
pub returns-then-is_queued : goal.returns-then-is_queued
returns-then-is_queued c = λ m.
    let p : PortModel = c.args.self.now in
    let k : Operation = c.args.operation in
    let slot : ℕ = c.args.slot in
    let state : DevicePort = port_with_lasting_after_operation (port_after_done_except_lasting (port_of p m) slot (cause_of k) k) k c.args.here in
    let lasting = ended_lasting k m p.lasting_tape_length c.args.here c.lasting_tape_length_after-self.result (c.lasting_tape_length_after-self.ensures (record { sectors = m.lasting; tape_length = p.lasting_tape_length }) m.disk refl) in
    let queued : true ≡ is_queued k = sym c.if-is_queued.true ∙ c.is_queued.ensures in
    let taken = ap taken_commands_by_slot c.remove.ensures ∙ slots_changed (taken_in p.taken) slot None in
    let is : word_bits c.with_bit_as-self.result ≡ changed (word_bits p.is) (cause_of k) true =
    c.with_bit_as-self.ensures ∙ ap (λ (place : ℕ). changed (word_bits p.is) place true) c.end_cause_bit_number.ensures in
    let tfd : bit_and c.task_file.result 0xff7f ≡ bit_and (port_of p m).tfd 0xff7f = ap (λ (n : ℕ). bit_and n 0xff7f) c.task_file.ensures in
    let sact : word_bits c.with_bit_as-self-then-is_queued.result ≡ changed (word_bits p.sact) slot false =
    c.with_bit_as-self-then-is_queued.ensures ∙ ap (λ (place : ℕ). changed (word_bits p.sact) place false) c.from.ensures in
    (λ i. record (port_of p m) { halt = NotHalted; taken = taken i; is = is i; tfd = tfd i; sact = sact i; lasting = lasting i })
    ∙ ap (λ (b : Bool). record state { ci = if b then word_bits p.ci else changed (word_bits p.ci) slot false; sact = if b then changed (word_bits p.sact) slot false else word_bits p.sact }) queued

-- a plain one
pub returns-else-is_queued : goal.returns-else-is_queued
returns-else-is_queued c = λ m.
    let p : PortModel = c.args.self.now in
    let k : Operation = c.args.operation in
    let slot : ℕ = c.args.slot in
    let state : DevicePort = port_with_lasting_after_operation (port_after_done_except_lasting (port_of p m) slot (cause_of k) k) k c.args.here in
    let lasting = ended_lasting k m p.lasting_tape_length c.args.here c.lasting_tape_length_after-self.result (c.lasting_tape_length_after-self.ensures (record { sectors = m.lasting; tape_length = p.lasting_tape_length }) m.disk refl) in
    let plain : false ≡ is_queued k = sym c.if-is_queued.false ∙ c.is_queued.ensures in
    let taken = ap taken_commands_by_slot c.remove.ensures ∙ slots_changed (taken_in p.taken) slot None in
    let is : word_bits c.with_bit_as-self.result ≡ changed (word_bits p.is) (cause_of k) true =
    c.with_bit_as-self.ensures ∙ ap (λ (place : ℕ). changed (word_bits p.is) place true) c.end_cause_bit_number.ensures in
    let tfd : bit_and c.task_file.result 0xff7f ≡ bit_and (port_of p m).tfd 0xff7f = ap (λ (n : ℕ). bit_and n 0xff7f) c.task_file.ensures in
    let ci : word_bits c.with_bit_as-self-else-is_queued.result ≡ changed (word_bits p.ci) slot false =
    c.with_bit_as-self-else-is_queued.ensures ∙ ap (λ (place : ℕ). changed (word_bits p.ci) place false) c.from-else-is_queued.ensures in
    (λ i. record (port_of p m) { halt = NotHalted; taken = taken i; is = is i; tfd = tfd i; ci = ci i; lasting = lasting i })
    ∙ ap (λ (b : Bool). record state { ci = if b then word_bits p.ci else changed (word_bits p.ci) slot false; sact = if b then changed (word_bits p.sact) slot false else word_bits p.sact }) plain
