use Rattle.std.proofs.Common.{rules, ◌∙◌, ◌<◌, ℕ, arith, inl, inr, length, refl, subst, sym}
use Rattle.adapter.specs.Steps.{MayFetchFault}
use Rattle.adapter.specs.declared.command.Operation.TheVariants.{Identify}
use Rattle.device_model.proofs.Absurd.{true-false}
use Rattle.device_model.specs.WholeAdapter.{device_of}
use Rattle.device_model.specs.declared.hardware.Hardware.{Hardware}
use Rattle.device_model.proofs.SlotLemmas.{at_port}
use Rattle.device_model.proofs.Stepping.{may_fail_senseless, port_fails_senseless}
use Rattle.device_model.proofs.hardware.Hardware.abort_invalid.Goals as goal

-- nothing is issued there that may be taken
pub returns-then-not-is_fetchable_if_halt_admits-clause-step_is_skipped : goal.returns-then-not-is_fetchable_if_halt_admits-clause-step_is_skipped
returns-then-not-is_fetchable_if_halt_admits-clause-step_is_skipped c = λ _ o.
    inl (
      λ may.
          let P : ℕ → Type 0 = λ q. MayFetchFault (device_of c.args.self.now o) q c.args.slot 0 in
          let here = subst P (sym c.from-place.ensures) may in
          c.is_fetchable_if_halt_admits.ensures.is_not_fetchable c.if-not-is_fetchable_if_halt_admits.true (o.media c.from-place.result) Identify here.fetchable here.working,
      refl,
    )

-- a fault keeps it waiting
pub returns-then-not-admits-clause-step_is_skipped : goal.returns-then-not-admits-clause-step_is_skipped
returns-then-not-admits-clause-step_is_skipped c = λ _ o.
    let small : c.from-place.result < length c.args.self.now.ports = search rules in
    let waits = sym (rw (at_port c.args.self.now.ports c.from-place.result c.index-self-place.result small) at c.admits.ensures) ∙ c.if-not-admits.true in
    inl (
      λ may.
          let P : ℕ → Type 0 = λ q. MayFetchFault (device_of c.args.self.now o) q c.args.slot 0 in
          true-false (subst P (sym c.from-place.ensures) may).working.admitted waits,
      refl,
    )

-- its bytes say a command
pub returns-then-decodes_command-clause-step_is_skipped : goal.returns-then-decodes_command-clause-step_is_skipped
returns-then-decodes_command-clause-step_is_skipped c = λ _ o.
    let small : c.from-place.result < length c.args.self.now.ports = search rules in
    let said = rw (at_port c.args.self.now.ports c.from-place.result c.index-self-place-2.result small) at (rw c.deref.ensures.value at (c.decodes_command.ensures.bytes_mean_command c.if-decodes_command.true)) in
    inl (
      λ may.
          let P : ℕ → Type 0 = λ q. MayFetchFault (device_of c.args.self.now o) q c.args.slot 0 in
          (subst P (sym c.from-place.ensures) may).says_nothing said.0 said.1 said.2,
      refl,
    )

pub returns-then-not-record-clause-step_is_skipped : goal.returns-then-not-record-clause-step_is_skipped
returns-then-not-record-clause-step_is_skipped c = λ _ o.
    let h : Hardware = c.args.self.now in
    let small : c.from-place.result < length h.ports = search rules in
    let senseless = may_fail_senseless h o c.from-place.result c.args.port c.args.slot c.from-place.ensures (c.is_fetchable_if_halt_admits.ensures.may c.if-not-is_fetchable_if_halt_admits.false)
    (sym (rw (at_port h.ports c.from-place.result c.index-self-place.result small) at c.admits.ensures) ∙ c.if-not-admits.false)
    (rw (at_port h.ports c.from-place.result c.index-self-place-2.result small) at (rw c.deref.ensures.value at (c.decodes_command.ensures.bytes_mean_none c.if-decodes_command.false))) in
    inr (
      senseless,
      λ room. true-false (c.record.ensures.room (omega (arith, room))) c.if-not-record.true,
      c.record.ensures.starved c.if-not-record.true,
    )

pub returns-clause-did : goal.returns-clause-did
returns-clause-did c = λ _ o.
    let h : Hardware = c.args.self.now in
    let small : c.from-place.result < length h.ports = search rules in
    let senseless = may_fail_senseless h o c.from-place.result c.args.port c.args.slot c.from-place.ensures (c.is_fetchable_if_halt_admits.ensures.may c.if-not-is_fetchable_if_halt_admits.false)
    (sym (rw (at_port h.ports c.from-place.result c.index-self-place.result small) at c.admits.ensures) ∙ c.if-not-admits.false)
    (rw (at_port h.ports c.from-place.result c.index-self-place-2.result small) at (rw c.deref.ensures.value at (c.decodes_command.ensures.bytes_mean_none c.if-decodes_command.false))) in (
      senseless,
      port_fails_senseless h o c.from-place.result c.args.port c.args.slot c.fail.new.self c.record.new.tape c.from-place.ensures small
          (rw (at_port h.ports c.from-place.result c.index-self-place-3.result small) at (c.fail.ensures (o.media c.from-place.result))) (c.record.ensures.added c.if-not-record.false),
    )
