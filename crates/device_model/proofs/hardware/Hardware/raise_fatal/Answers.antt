use Rattle.std.proofs.Common.{rules, ◌≡◌, ◌<◌, ℕ, true, false, arith, inl, inr, length, refl, subst, sym}
use Rattle.std.specs.Prelude.{slice_index_or}
use Rattle.adapter.specs.AskedSteps.{fatal_bit}
use Rattle.adapter.specs.Steps.{Can}
use Rattle.adapter.specs.Steps.DeviceTransition.{Fatal}
use Rattle.device_model.proofs.Absurd.{true-false}
use Rattle.device_model.specs.PortView.{reset_port_without_disk}
use Rattle.device_model.specs.WholeAdapter.{device_of}
use Rattle.device_model.specs.declared.hardware.Hardware.{Hardware}
use Rattle.device_model.proofs.SlotLemmas.{at_port}
use Rattle.device_model.proofs.Stepping.{is_fatal, port_breaks}
use Rattle.device_model.proofs.hardware.Hardware.raise_fatal.Goals as goal

-- its engine has fallen
pub returns-then-not-self-place-clause-step_is_skipped : goal.returns-then-not-self-place-clause-step_is_skipped
returns-then-not-self-place-clause-step_is_skipped c = λ _ o.
    let h : Hardware = c.args.self.now in
    let p : ℕ = c.from-place.result in
    let small : p < length h.ports = search rules in
    let P : ℕ → Type 0 = λ q. Can (Fatal q (fatal_bit c.args.error)) (device_of h o) in
    let fallen : (slice_index_or h.ports p reset_port_without_disk).cr ≡ false = rw (at_port h.ports p c.index-self-place.result small) at c.if-not-self-place.true in
    inl (λ may. true-false (subst P (sym c.from-place.ensures) may).0 fallen, refl)

pub returns-then-not-record-clause-step_is_skipped : goal.returns-then-not-record-clause-step_is_skipped
returns-then-not-record-clause-step_is_skipped c = λ _ o.
    let h : Hardware = c.args.self.now in
    let p : ℕ = c.from-place.result in
    let small : p < length h.ports = search rules in
    let P : ℕ → Type 0 = λ q. Can (Fatal q (fatal_bit c.args.error)) (device_of h o) in
    let runs : (slice_index_or h.ports p reset_port_without_disk).cr ≡ true = rw (at_port h.ports p c.index-self-place.result small) at c.if-not-self-place.false in
    inr (
      subst P c.from-place.ensures (runs, is_fatal c.args.error),
      λ room. true-false (c.record.ensures.room (omega (arith, room))) c.if-not-record.true,
      c.record.ensures.starved c.if-not-record.true,
    )

pub returns-clause-did : goal.returns-clause-did
returns-clause-did c = λ _ o.
    let h : Hardware = c.args.self.now in
    let p : ℕ = c.from-place.result in
    let small : p < length h.ports = search rules in
    let runs : (slice_index_or h.ports p reset_port_without_disk).cr ≡ true = rw (at_port h.ports p c.index-self-place.result small) at c.if-not-self-place.false in
    port_breaks h o p c.args.port c.args.error c.enter_fatal.new.self c.record.new.tape c.from-place.ensures small runs
    (rw (at_port h.ports p c.index-self-place-2.result small) at (c.enter_fatal.ensures (o.media p))) (c.record.ensures.added c.if-not-record.false)
