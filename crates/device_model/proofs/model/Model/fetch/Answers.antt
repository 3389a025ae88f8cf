use Rattle.std.proofs.Common.{ℕ, false, true, ◌≡◌, ◌∙◌, ap, arith, subst}
use Rattle.adapter.specs.Device.{Device}
use Rattle.adapter.specs.Steps.{Can, device_after}
use Rattle.adapter.specs.Steps.DeviceTransition.{FetchFault}
use Rattle.device_model.specs.Finishing.{IsImpossibleOrLacksTape}
use Rattle.device_model.specs.ModelState.{all_media_at}
use Rattle.device_model.specs.SentFises.{SendsFault}
use Rattle.device_model.specs.WholeAdapter.{AllMedia, device_of}
use Rattle.device_model.specs.declared.hardware.Hardware.{Hardware}
use Rattle.device_model.proofs.Told.{fetch_answers, senseless_answers}
use Rattle.device_model.proofs.model.Model.fetch.Goals as goal

pub returns-then-fetch : goal.returns-then-fetch
returns-then-fetch g c =
    let m = c.args.self.now in
    let f = c.fetch.ensures in
    fetch_answers g.S.SectorStore.size g.S.SectorStore.told g.S.SectorStore.failures m c.fetch.new.self c.args.port c.args.slot
    (omega (arith, c.if-port-ge4.false)) (omega (arith, c.if-slot-ge32.false)) (f.did c.if-fetch.true _) f.tape f.starved

-- nothing was taken, and nothing failed
pub returns-then-not-abort_invalid : goal.returns-then-not-abort_invalid
returns-then-not-abort_invalid g c =
    let m = c.args.self.now in
    let o : AllMedia = all_media_at g.S.SectorStore.size g.S.SectorStore.told m in
    let f = c.abort_invalid.ensures in
    let kept : c.fetch.new.self ≡ m.hardware = c.fetch.ensures.refused c.if-fetch.false in
    let not : c.abort_invalid.result ≡ false = c.if-not-abort_invalid.true in
    let Q : Hardware → Type 0 = λ h. IsImpossibleOrLacksTape h c.abort_invalid.new.self (Can (FetchFault c.args.port.0 c.args.slot.0 false 0) (device_of h o)) in
    senseless_answers g.S.SectorStore.size g.S.SectorStore.told g.S.SectorStore.failures m c.abort_invalid.new.self c.args.port c.args.slot
    false (omega (arith, c.if-port-ge4.false)) (omega (arith, c.if-slot-ge32.false)) (c.fetch.ensures.complete c.if-fetch.false o)
    (λ e. absurd (cc e)) (λ _. f.refused not o ∙ ap (λ (h : Hardware). device_of h o) kept) (λ _. subst Q kept (f.step_is_skipped not o)) (λ e. absurd (cc e))

-- what is issued means no command, and failed for that
pub returns : goal.returns
returns g c =
    let m = c.args.self.now in
    let o : AllMedia = all_media_at g.S.SectorStore.size g.S.SectorStore.told m in
    let f = c.abort_invalid.ensures in
    let kept : c.fetch.new.self ≡ m.hardware = c.fetch.ensures.refused c.if-fetch.false in
    let did = f.did c.if-not-abort_invalid.false o in
    let new : Device = device_of c.send_fault.new.self o in
    let P : Hardware → Type 0 = λ h. Can (FetchFault c.args.port.0 c.args.slot.0 false 0) (device_of h o)
    × SendsFault false c.args.port.0 (device_after (FetchFault c.args.port.0 c.args.slot.0 false 0) (device_of h o)) new in
    let sent : SendsFault false c.args.port.0 (device_of c.abort_invalid.new.self o) new =
    subst (λ (q : ℕ). SendsFault false q (device_of c.abort_invalid.new.self o) new) c.from.ensures (c.send_fault.ensures.sent o) in
    senseless_answers g.S.SectorStore.size g.S.SectorStore.told g.S.SectorStore.failures m c.send_fault.new.self c.args.port c.args.slot
    true (omega (arith, c.if-port-ge4.false)) (omega (arith, c.if-slot-ge32.false)) (c.fetch.ensures.complete c.if-fetch.false o)
    (λ _. subst P kept (did.0, subst (λ (d : Device). SendsFault false c.args.port.0 d new) did.1 sent)) (λ e. absurd (cc e)) (λ e. absurd (cc e))
    (λ _. ap (λ (h : Hardware). h.starved) c.send_fault.ensures.rest ∙ (f.starved_is_kept c.if-not-abort_invalid.false ∙ ap (λ (h : Hardware). h.starved) kept))
