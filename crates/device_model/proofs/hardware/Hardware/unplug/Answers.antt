use Rattle.std.proofs.Common.{rules, arith, ◌<◌, length, ℕ, inl, inr, refl}
use Rattle.device_model.proofs.Absurd.{true-false}
use Rattle.device_model.proofs.Stepping.{unplugged}
use Rattle.device_model.proofs.SlotLemmas.{at_port}
use Rattle.device_model.proofs.hardware.Hardware.unplug.Goals as goal

pub returns-clause-did : goal.returns-clause-did
returns-clause-did c = λ _ o.
    let h = c.args.self.now in
    let p : ℕ = c.from-place.result in
    let small : p < length h.ports = search rules in
    let there = rw (at_port h.ports p c.index-self-place.result small) at c.if-not-self-place.false in (
      rw c.from-place.ensures at there,
      unplugged h o p c.args.port _ c.record.new.tape c.from-place.ensures small
          (rw (at_port h.ports p c.index-self-place-2.result small) at (c.note_disk_out.ensures (o.media p))) (c.record.ensures.added c.if-not-record.false),
    )

pub returns-then-not-self-place-clause-step_is_skipped : goal.returns-then-not-self-place-clause-step_is_skipped
returns-then-not-self-place-clause-step_is_skipped c = λ _ o.
    let h = c.args.self.now in
    let p : ℕ = c.from-place.result in
    let small : p < length h.ports = search rules in
    let never = rw (at_port h.ports p c.index-self-place.result small) at c.if-not-self-place.true in
    inl (λ may. true-false may (rw c.from-place.ensures at never), refl)

pub returns-then-not-record-clause-step_is_skipped : goal.returns-then-not-record-clause-step_is_skipped
returns-then-not-record-clause-step_is_skipped c = λ _ o.
    let h = c.args.self.now in
    let p : ℕ = c.from-place.result in
    let small : p < length h.ports = search rules in
    let there = rw (at_port h.ports p c.index-self-place.result small) at c.if-not-self-place.false in
    inr (rw c.from-place.ensures at there, λ room. true-false (c.record.ensures.room (omega (arith, room))) c.if-not-record.true, c.record.ensures.starved c.if-not-record.true)
