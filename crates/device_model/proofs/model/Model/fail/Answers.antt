use Rattle.std.proofs.Common.{ℕ, ◌∙◌, ap, refl, sym, subst, arith}
use Rattle.adapter.specs.AskedSteps.{FailsAndPosts}
use Rattle.device_model.specs.ModelState.{all_media_at}
use Rattle.device_model.specs.Disks.{OnlyChangesPageSource}
use Rattle.device_model.specs.DiskPages.{with_logged_error}
use Rattle.device_model.specs.SentFises.{SendsFaultOfOperation}
use Rattle.device_model.specs.PortView.{bsy_if_disk_left_busy}
use Rattle.device_model.specs.WholeAdapter.{AllMedia, device_of}
use Rattle.device_model.specs.declared.hardware.Hardware.{Hardware}
use Rattle.device_model.proofs.Told.{fail_left, fault_sent, plain_answers, queued_answers}
use Rattle.device_model.proofs.model.Model.fail.Goals as goal

-- no command failed
pub returns-in_default : goal.returns-in_default
returns-in_default g c =
    let o : AllMedia = all_media_at g.S.SectorStore.size g.S.SectorStore.told c.args.self.now in
    fail_left g.S.SectorStore.size g.S.SectorStore.told g.S.SectorStore.failures c.args.self.now c.fail.new.self c.args.busy c.args.port c.args.slot c.args.error
    (omega (arith, c.if-port-ge4.false)) (omega (arith, c.if-slot-ge32.false)) (c.in_default.ensures.refused refl o) (c.in_default.ensures.step_is_skipped refl o)

-- a queued one did
pub returns-then-queued : goal.returns-then-queued
returns-then-queued g c =
    let m = c.args.self.now in
    let o : AllMedia = all_media_at g.S.SectorStore.size g.S.SectorStore.told m in
    let did = c.in-Some.ensures.did o in
    let P : ℕ → Type 0 = λ q. OnlyChangesPageSource (with_logged_error (record { tag = c.args.slot.0; error = c.args.error })) q m.bays.items c.log_failed.new.bays.items in
    let fails : FailsAndPosts SendsFaultOfOperation c.args.port.0 c.args.slot.0 c.args.error (bsy_if_disk_left_busy c.args.busy) (device_of m.hardware o) (device_of c.send_fault.new.self o) =
    fault_sent c.args.port.0 _ c.args.slot.0 c.args.error _ _ _ _ _ did.0 did.1 c.from.ensures (c.send_fault.ensures.sent o) in
    queued_answers g.S.SectorStore.size g.S.SectorStore.told g.S.SectorStore.failures m c.send_fault.new.self c.args.busy c.args.port c.args.slot c.args.error
    (omega (arith, c.if-port-ge4.false)) (omega (arith, c.if-slot-ge32.false)) fails (ap (λ (h : Hardware). h.starved) c.send_fault.ensures.rest ∙ c.in-Some.ensures.starved_is_kept)
    c.log_failed.new.bays (subst P c.from-then-queued.ensures c.log_failed.ensures) (sym did.1 ∙ c.if-queued.true)

-- a plain one did
pub returns-else-queued : goal.returns-else-queued
returns-else-queued g c =
    let m = c.args.self.now in
    let o : AllMedia = all_media_at g.S.SectorStore.size g.S.SectorStore.told m in
    let did = c.in-Some.ensures.did o in
    let fails : FailsAndPosts SendsFaultOfOperation c.args.port.0 c.args.slot.0 c.args.error (bsy_if_disk_left_busy c.args.busy) (device_of m.hardware o) (device_of c.send_fault.new.self o) =
    fault_sent c.args.port.0 _ c.args.slot.0 c.args.error _ _ _ _ _ did.0 did.1 c.from.ensures (c.send_fault.ensures.sent o) in
    plain_answers g.S.SectorStore.size g.S.SectorStore.told g.S.SectorStore.failures m c.send_fault.new.self c.args.busy c.args.port c.args.slot c.args.error
    (omega (arith, c.if-port-ge4.false)) (omega (arith, c.if-slot-ge32.false)) fails (ap (λ (h : Hardware). h.starved) c.send_fault.ensures.rest ∙ c.in-Some.ensures.starved_is_kept)
    (sym did.1 ∙ c.if-queued.false)
