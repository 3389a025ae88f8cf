use Rattle.std.proofs.Common.{rules, ◌<◌, ℕ, arith, inr, length}
use Rattle.device_model.proofs.Absurd.{true-false}
use Rattle.device_model.specs.PortView.{taken_of}
use Rattle.device_model.specs.declared.hardware.Hardware.{Hardware}
use Rattle.device_model.proofs.SlotLemmas.{at_port}
use Rattle.device_model.proofs.Stepping.{may_fail, port_fails}
use Rattle.device_model.proofs.hardware.Hardware.fail.Goals as goal

pub returns-clause-did : goal.returns-clause-did
returns-clause-did c = λ o.
    let h : Hardware = c.args.self.now in
    let p : ℕ = c.from.result in
    let small : p < length h.ports = search rules in
    let found = c.in_ok-queued.ensures.found in
    port_fails h o p c.args.port c.args.slot c.args.error c.args.busy c.fail.new.self found.0 c.in_ok-queued.queued c.record.new.tape c.from.ensures small (omega (arith, c.ranges.error.fits))
    found.1 found.2 found.3 (rw (at_port h.ports p c.index-self-from.result small) at (c.fail.ensures (o.media p))) (rw c.failed_status.ensures at (c.record.ensures.added c.if-not-record.false))

pub returns-then-not-record-clause-step_is_skipped : goal.returns-then-not-record-clause-step_is_skipped
returns-then-not-record-clause-step_is_skipped c = λ _ o.
    let found = c.in_ok-queued.ensures.found in
    inr (
      (taken_of found.0, may_fail c.args.self.now o c.args.port c.args.slot c.args.error c.args.busy found.0 (omega (arith, c.ranges.error.fits)) found.1 found.2),
      λ room. true-false (c.record.ensures.room (omega (arith, room))) c.if-not-record.true,
      c.record.ensures.starved c.if-not-record.true,
    )
