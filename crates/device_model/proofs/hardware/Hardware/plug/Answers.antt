use Rattle.std.proofs.Common.{rules, arith, ◌≡◌, ◌<◌, ◌∙◌, Bool, length, nat_eq, ℕ, inl, inr, ap, refl, sym}
use Rattle.std.specs.Prelude.{if◌then◌else◌, slice_index_or}
use Rattle.device_model.specs.PortView.{reset_port_without_disk}
use Rattle.device_model.proofs.Absurd.{true-false}
use Rattle.device_model.proofs.Stepping.{plugged_in}
use Rattle.device_model.proofs.SlotLemmas.{at_port}
use Rattle.device_model.proofs.hardware.Hardware.plug.Goals as goal

pub returns-clause-no_disk_was_in : goal.returns-clause-no_disk_was_in
returns-clause-no_disk_was_in c = λ _ o.
    let h = c.args.self.now in
    let p : ℕ = c.from-place.result in
    let small : p < length h.ports = search rules in
    let free = rw (at_port h.ports p c.index-self-place.result small) at c.if-self-place.false in
    rw c.from-place.ensures at free

pub returns-clause-did : goal.returns-clause-did
returns-clause-did c = λ _ o disk name same.
    let h = c.args.self.now in
    let p : ℕ = c.from-place.result in
    let small : p < length h.ports = search rules in
    let at : ℕ = (slice_index_or h.ports p reset_port_without_disk).lasting_tape_length in
    let since : c.lasting_since-lasting_at.result ≡ (if c.args.same then at else length h.tape.items) =
    rw (c.len-here.ensures, h.tape.ok.0) at (rw (at_port h.ports p c.index-self-place-2.result small) at c.lasting_since-lasting_at.ensures) in
    plugged_in h o p c.args.port _ c.record.new.tape disk c.args.number c.lasting_since-lasting_at.result name c.from-place.ensures small
    (since ∙ ap (λ (b : Bool). if b then at else length h.tape.items) (same ∙ ap (λ (q : ℕ). nat_eq disk.name (o.media q).disk.name) (sym c.from-place.ensures)))
    (rw (at_port h.ports p c.index-self-place-3.result small) at c.note_disk_in_with_det_3.ensures) (c.record.ensures.added c.if-not-record.false)

pub returns-then-self-place-clause-step_is_skipped : goal.returns-then-self-place-clause-step_is_skipped
returns-then-self-place-clause-step_is_skipped c = λ _ o.
    let h = c.args.self.now in
    let p : ℕ = c.from-place.result in
    let small : p < length h.ports = search rules in
    let never = rw (at_port h.ports p c.index-self-place.result small) at c.if-self-place.true in
    inl (λ free. true-false (rw c.from-place.ensures at never) free, refl)

pub returns-then-not-record-clause-step_is_skipped : goal.returns-then-not-record-clause-step_is_skipped
returns-then-not-record-clause-step_is_skipped c = λ _ o.
    let h = c.args.self.now in
    let p : ℕ = c.from-place.result in
    let small : p < length h.ports = search rules in
    let free = rw (at_port h.ports p c.index-self-place.result small) at c.if-self-place.false in
    inr (rw c.from-place.ensures at free, λ room. true-false (c.record.ensures.room (omega (arith, room))) c.if-not-record.true, c.record.ensures.starved c.if-not-record.true)
