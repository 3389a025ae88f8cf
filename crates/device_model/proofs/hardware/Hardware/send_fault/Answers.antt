use Rattle.std.proofs.Common.{rules, ◌<◌, length, ℕ, ◌%◌, ◌∙◌, ap, slice_index_or, subst, arith}
use Rattle.std.specs.Prelude.{bit_and}
use Rattle.std.specs.Int.Bits.{and_zero_r}
use Rattle.std.proofs.lemmas.Nat.{and_assoc}
use Rattle.fis.specs.Encoding.{EncodesDeviceToHost, EncodesSetDeviceBits}
use Rattle.fis.specs.declared.DeviceToHost.{DeviceToHost}
use Rattle.fis.specs.declared.SetDeviceBits.{SetDeviceBits}
use Rattle.adapter.specs.Device.{Device}
use Rattle.device_model.specs.SentFises.{SendsSetDeviceBits, SendsDeviceToHost, end_or_failure_d2h_fis, queued_failure_fis}
use Rattle.device_model.specs.PortView.{port_of}
use Rattle.device_model.specs.WholeAdapter.{device_of, no_media}
use Rattle.device_model.proofs.SlotLemmas.{at_port}
use Rattle.device_model.proofs.hardware.Hardware.send_fault.Goals as goal

pub encode_d2h-fis-requires : goal.encode_d2h-fis-requires
encode_d2h-fis-requires c = let e = ap (λ (f : DeviceToHost). f.lba) (c.end_registers.ensures no_media) in omega (arith, e)

pub encode_set_device_bits-fis-requires : goal.encode_set_device_bits-fis-requires
encode_set_device_bits-fis-requires c =
    let status : ℕ = ((port_of (slice_index_or c.args.self.now.ports c.args.port c.index-self-port.result) no_media).tfd) % 256 in
    ap (λ (f : SetDeviceBits). bit_and f.status 0x88) (c.failed_bits.ensures no_media) ∙ (and_assoc 0x88 status 0x77 ∙ and_zero_r status)

pub returns-then-queued-clause-sent : goal.returns-then-queued-clause-sent
returns-then-queued-clause-sent c = λ o.
    let small : c.args.port < length c.args.self.now.ports = search rules in
    let P : SetDeviceBits → Type 0 = λ f. EncodesSetDeviceBits c.encode_set_device_bits-fis.result f in
    let d : Device = device_of c.args.self.now o in
    let sent : SendsSetDeviceBits c.args.port (queued_failure_fis (d.port c.args.port)) d (device_of c.send.new.self o) =
    (c.encode_set_device_bits-fis.result, subst P (rw (at_port c.args.self.now.ports c.args.port c.index-self-port.result small) at (c.failed_bits.ensures (o.media c.args.port))) c.encode_set_device_bits-fis.ensures, c.send.ensures.sent o) in
    rw c.if-queued.true sent

pub returns-else-queued-clause-sent : goal.returns-else-queued-clause-sent
returns-else-queued-clause-sent c = λ o.
    let small : c.args.port < length c.args.self.now.ports = search rules in
    let P : DeviceToHost → Type 0 = λ f. EncodesDeviceToHost c.encode_d2h-fis.result f in
    let d : Device = device_of c.args.self.now o in
    let sent : SendsDeviceToHost c.args.port (end_or_failure_d2h_fis (d.port c.args.port)) d (device_of c.send-else-queued.new.self o) =
    (c.encode_d2h-fis.result, subst P (rw (at_port c.args.self.now.ports c.args.port c.index-self-port-else-queued.result small) at (c.end_registers.ensures (o.media c.args.port))) c.encode_d2h-fis.ensures, c.send-else-queued.ensures.sent o) in
    rw c.if-queued.false sent
