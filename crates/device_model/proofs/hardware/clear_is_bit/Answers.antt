use Rattle.std.proofs.Common.{rules, Bool, true, false, ◌≡◌, ◌<◌, ◌≤◌, ◌∙◌, sym, refl, length}
use Rattle.std.specs.Prelude.{if◌then◌else◌}
use Rattle.adapter.specs.Access.{port_after_hba_is_write}
use Rattle.device_model.specs.PortView.{Media, port_after_hba_is_bits, port_of, reset_port_without_disk}
use Rattle.device_model.proofs.EachPort.{none_done, skip_port, change_port, all_done}
use Rattle.device_model.proofs.SlotLemmas.{at_port}
use Rattle.device_model.proofs.hardware.clear_is_bit.Goals as goal
use Rattle.device_model.proofs.hardware.clear_is_bit.Goals.{then-is_set, else-is_set}

pub loop-port-init : goal.loop-port-init
loop-port-init c = none_done (port_after_hba_is_bits c.args.value) c.args.ports.now

pub loop-port-preserved : goal.loop-port-preserved
loop-port-preserved c =
    let small : c.loop-port.port < length c.loop-port.ports = search rules in
    let f = port_after_hba_is_bits c.args.value in
    elim c.if-is_set.branch [
      | then-is_set w ↦
          let one = sym c.is_set.ensures ∙ w.if-is_set.true in
          rw w.ports-is
          (change_port f c.args.ports.now c.loop-port.ports c.loop-port.port w.clear_is_bit.new.self small (λ m. rw one (rw (at_port c.loop-port.ports c.loop-port.port w.index-ports-port.result small) at (w.clear_is_bit.ensures m)))
          c.loop-port.invariant)
      | else-is_set w ↦
          let zero = sym c.is_set.ensures ∙ w.if-is_set.false in
          rw w.ports-is (skip_port f c.args.ports.now c.loop-port.ports c.loop-port.port (λ p. rw zero refl) c.loop-port.invariant)
    ]

blank_stays : (b : Bool) (m : Media) → (if b then port_after_hba_is_write (port_of reset_port_without_disk m) else port_of reset_port_without_disk m) ≡ port_of reset_port_without_disk m
blank_stays true m = refl
blank_stays false m = refl

pub returns : goal.returns
returns c = λ m port.
    let past : length c.args.ports.now ≤ c.loop-port.port = search rules in
    all_done (port_after_hba_is_bits c.args.value) c.args.ports.now c.loop-port.ports c.loop-port.port past (λ k n. blank_stays _ n) c.loop-port.invariant port m
