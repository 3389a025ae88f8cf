use Rattle.std.proofs.Common.{rules, arith, inl, inr, refl, ℕ, sym, subst, ◌≡◌, ◌<◌, length, slice_index_or}
use Rattle.adapter.specs.Device.{FetchedCommand}
use Rattle.adapter.specs.Steps.{IsFinished}
use Rattle.device_model.proofs.Absurd.{true-false}
use Rattle.device_model.specs.Slots.{WorksOnIn}
use Rattle.adapter.specs.AskedSteps.{EndsAndPosts}
use Rattle.device_model.specs.SentFises.{SendsEnd}
use Rattle.device_model.specs.PortView.{reset_port_without_disk, cause_of, taken_of}
use Rattle.device_model.specs.WholeAdapter.{device_of, all_media_after_end}
use Rattle.adapter.specs.declared.command.Operation.{Operation}
use Rattle.device_model.specs.declared.hardware.Hardware.{Hardware}
use Rattle.device_model.proofs.Finishing.{holds}
use Rattle.device_model.proofs.Stepping.{may_end, port_ends}
use Rattle.device_model.proofs.SlotLemmas.{at_port}
use Rattle.device_model.proofs.hardware.Hardware.done.Goals as goal

pub returns-clause-did : goal.returns-clause-did
returns-clause-did c = λ o.
    let h : Hardware = c.args.self.now in
    let p : ℕ = c.from-place.result in
    let port : ℕ = c.args.port in
    let small : p < length h.ports = search rules in
    let found = c.in-Some.ensures.found in
    let kind : c.in-Some.operation ≡ found.0.operation = found.3 in
    let P : ℕ → Type 0 = λ q. WorksOnIn (slice_index_or h.ports q reset_port_without_disk) c.args.slot found.0 in
    let R : Operation → ℕ → Type 0 = λ k q. EndsAndPosts (SendsEnd c.args.slot) port c.args.slot (device_of h o) (device_of c.send_end.new.self (all_media_after_end o q k)) in
    subst (λ q. R c.in-Some.operation q) c.from-place.ensures
    (subst (λ k. R k p) (sym kind)
    (port_ends h o p port c.args.slot c.end.new.self found.0 c.record.new.tape _ c.from-place.ensures small (subst P (sym c.from-place.ensures) found.1)
    found.2 (rw kind at (rw (at_port h.ports p c.index-self-place.result small) at (rw (c.len-here.ensures, h.tape.ok.0) at (c.end.ensures (o.media p))))) (rw kind at (c.record.ensures.added c.if-not-record.false))
    (rw kind at (c.send_end.ensures.sent (all_media_after_end o p (c.in-Some.operation))))))

pub returns-in_default-clause-step_is_skipped : goal.returns-in_default-clause-step_is_skipped
returns-in_default-clause-step_is_skipped c = λ _ o.
    inl (
      λ may.
          let t : FetchedCommand = may.1 in
          let w = holds c.args.self.now o c.args.port c.args.slot t may.2.works in
          absurd (c.operation_if_finished.ensures.none c.in_default.is w.0 w.1 (subst IsFinished w.2 may.2.finished)),
      refl,
    )

pub returns-then-not-record-clause-step_is_skipped : goal.returns-then-not-record-clause-step_is_skipped
returns-then-not-record-clause-step_is_skipped c = λ _ o.
    let found = c.in-Some.ensures.found in
    inr (
      (cause_of found.0.operation, taken_of found.0, may_end c.args.self.now o c.args.port c.args.slot found.0 found.1 found.2),
      λ room. true-false (c.record.ensures.room (omega (arith, room))) c.if-not-record.true,
      c.record.ensures.starved c.if-not-record.true,
    )
