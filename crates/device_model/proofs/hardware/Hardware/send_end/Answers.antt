use Rattle.std.proofs.Common.{rules, ◌<◌, length, ℕ, ◌%◌, ◌∙◌, ap, refl, slice_index_or, subst, arith, inl, inr}
use Rattle.std.specs.Prelude.{bit_and}
use Rattle.std.specs.Int.Bits.{and_zero_r}
use Rattle.std.proofs.lemmas.Nat.{and_assoc}
use Rattle.fis.specs.Encoding.{EncodesDeviceToHost, EncodesPioSetup, EncodesSetDeviceBits}
use Rattle.fis.specs.declared.DeviceToHost.{DeviceToHost}
use Rattle.fis.specs.declared.PioSetup.{PioSetup}
use Rattle.fis.specs.declared.SetDeviceBits.{SetDeviceBits}
use Rattle.adapter.specs.Device.{Device}
use Rattle.device_model.specs.SentFises.{SendsSetDeviceBits, SendsDeviceToHost, SendsPioSetup, end_or_failure_d2h_fis, page_setup_fis, ended_tag_fis}
use Rattle.device_model.specs.PortView.{port_of}
use Rattle.device_model.specs.WholeAdapter.{device_of, no_media}
use Rattle.device_model.proofs.SlotLemmas.{at_port}
use Rattle.device_model.proofs.hardware.Hardware.send_end.Goals as goal

pub encode_pio_setup-fis-requires : goal.encode_pio_setup-fis-requires
encode_pio_setup-fis-requires c = let e = ap (λ (f : PioSetup). f.lba) (c.page_setup_fis.ensures no_media) in omega (arith, e)

pub encode_d2h-fis-requires : goal.encode_d2h-fis-requires
encode_d2h-fis-requires c = let e = ap (λ (f : DeviceToHost). f.lba) (c.end_registers.ensures no_media) in omega (arith, e)

pub returns-in-Identify-clause-sent : goal.returns-in-Identify-clause-sent
returns-in-Identify-clause-sent c = λ o.
    let P : PioSetup → Type 0 = λ f. EncodesPioSetup c.encode_pio_setup-fis.result f in
    let small : c.args.port < length c.args.self.now.ports = search rules in
    let d : Device = device_of c.args.self.now o in
    let sent : SendsPioSetup c.args.port (page_setup_fis (d.port c.args.port)) d (device_of c.send.new.self o) =
    (c.encode_pio_setup-fis.result, subst P (rw (at_port c.args.self.now.ports c.args.port c.index-self-port.result small) at (c.page_setup_fis.ensures (o.media c.args.port))) c.encode_pio_setup-fis.ensures, c.send.ensures.sent o) in
    elim c.in-Identify.is [ inl identity ↦ rw identity (refl, sent) | inr log ↦ rw log (refl, sent) ]

pub returns-in-Read : goal.returns-in-Read
returns-in-Read c = record {
  sent = λ o.
      let small : c.args.port < length c.args.self.now.ports = search rules in
      let P : DeviceToHost → Type 0 = λ f. EncodesDeviceToHost c.encode_d2h-fis.result f in
      let d : Device = device_of c.args.self.now o in
      let sent : SendsDeviceToHost c.args.port (end_or_failure_d2h_fis (d.port c.args.port)) d (device_of c.send-in-Read.new.self o) =
      (c.encode_d2h-fis.result, subst P (rw (at_port c.args.self.now.ports c.args.port c.index-self-port-in-Read.result small) at (c.end_registers.ensures (o.media c.args.port))) c.encode_d2h-fis.ensures, c.send-in-Read.ensures.sent o) in
      elim c.in-Read.is [
        | inl read ↦ rw read (refl, sent)
        | inr more ↦
            elim more [
              | inl write ↦ rw write (refl, sent)
              | inr bare ↦ elim bare [ inl flush ↦ rw flush (refl, sent) | inr trim ↦ rw trim (refl, sent) ]
            ]
      ];
  rest = c.send-in-Read.ensures.rest;
}

pub encode_set_device_bits-fis-requires : goal.encode_set_device_bits-fis-requires
encode_set_device_bits-fis-requires c =
    let status : ℕ = ((port_of (slice_index_or c.args.self.now.ports c.args.port c.index-self-port-in-ReadQueued.result) no_media).tfd) % 256 in
    ap (λ (f : SetDeviceBits). bit_and f.status 0x88) (c.ended_tag.ensures no_media) ∙ (and_assoc 0x88 status 0x77 ∙ and_zero_r status)

pub returns-in-ReadQueued-clause-sent : goal.returns-in-ReadQueued-clause-sent
returns-in-ReadQueued-clause-sent c = λ o.
    let small : c.args.port < length c.args.self.now.ports = search rules in
    let P : SetDeviceBits → Type 0 = λ f. EncodesSetDeviceBits c.encode_set_device_bits-fis.result f in
    let d : Device = device_of c.args.self.now o in
    let sent : SendsSetDeviceBits c.args.port (ended_tag_fis c.args.slot (d.port c.args.port)) d (device_of c.send-in-ReadQueued.new.self o) =
    (c.encode_set_device_bits-fis.result, subst P (rw (at_port c.args.self.now.ports c.args.port c.index-self-port-in-ReadQueued.result small) at (c.ended_tag.ensures (o.media c.args.port))) c.encode_set_device_bits-fis.ensures, c.send-in-ReadQueued.ensures.sent o) in
    elim c.in-ReadQueued.is [ inl read ↦ rw read (refl, sent) | inr write ↦ rw write (refl, sent) ]
