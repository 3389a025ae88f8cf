use Rattle.std.proofs.Common.{rules, ◌<◌, length, ap, subst, arith}
use Rattle.fis.specs.Encoding.{EncodesDeviceToHost}
use Rattle.fis.specs.declared.DeviceToHost.{DeviceToHost}
use Rattle.device_model.specs.WholeAdapter.{no_media}
use Rattle.device_model.proofs.SlotLemmas.{at_port}
use Rattle.device_model.proofs.hardware.Hardware.send_signature.Goals as goal

pub encode_d2h-fis-requires : goal.encode_d2h-fis-requires
encode_d2h-fis-requires c = let e = ap (λ (f : DeviceToHost). f.lba) (c.signature.ensures no_media) in omega (arith, e)

pub returns-clause-sent : goal.returns-clause-sent
returns-clause-sent c = λ o.
    let small : c.args.port < length c.args.self.now.ports = search rules in
    let P : DeviceToHost → Type 0 = λ f. EncodesDeviceToHost c.encode_d2h-fis.result f in
    (c.encode_d2h-fis.result, subst P (rw (at_port c.args.self.now.ports c.args.port c.index-self-port.result small) at (c.signature.ensures (o.media c.args.port))) c.encode_d2h-fis.ensures, c.send.ensures.sent o)
