use Rattle.std.proofs.Common.{ℕ, true, false, ◌≡◌, ◌<◌, ◌∙◌, None, Some, Option, slice_index_or, below_more, sym, subst, arith}
use Rattle.std.specs.Prelude.{IfSome}
use Rattle.adapter.specs.Device.{Device}
use Rattle.device_model.specs.Finishing.{FindsPageCommandAndWhetherItCanEnd}
use Rattle.device_model.specs.HeldPorts.{IsPortReleased}
use Rattle.device_model.specs.ModelState.{device_at, all_media_at}
use Rattle.device_model.specs.WholeAdapter.{HasDisks, AllMedia, device_of}
use Rattle.device_model.specs.declared.hardware.Hardware.{Hardware}
use Rattle.device_model.specs.declared.steps.PendingPageCommand.{PendingPageCommand}
use Rattle.device_model.proofs.Absurd.{true-false}
use Rattle.device_model.proofs.SlotLemmas.{none_filled}
use Rattle.device_model.proofs.TwoDisks.{no_bay, no_disks}
use Rattle.device_model.proofs.model.Model.next_page_command.Goals as goal
use Rattle.device_model.proofs.model.Model.next_page_command.Goals.{then-not-left_out-from+then-has_disks+else-is_some, else-not-left_out-from, else-not-left_out-from-via-then-not-left_out-from+else-has_disks, else-not-left_out-from-via-else-not-left_out-from}

-- what was found is of the port that it names
named : (h : Hardware) (o : AllMedia) (port : ℕ) (r : Option PendingPageCommand) → IfSome r (λ found. found.port ≡ port) →
    IfSome r (λ found. (o : AllMedia) → FindsPageCommandAndWhetherItCanEnd (device_of h o) port found.slot (Some found.can_end)) → IfSome r (λ found. FindsPageCommandAndWhetherItCanEnd (device_of h o) found.port found.slot (Some found.can_end))
named h o port None at found = found
named h o port (Some f) at found = subst (λ q. FindsPageCommandAndWhetherItCanEnd (device_of h o) q f.slot (Some f.can_end)) (sym at) (found o)

pub returns-then-is_some-clause-found : goal.returns-then-is_some-clause-found
returns-then-is_some-clause-found g c =
    let m = c.args.self.now in
    named m.hardware (all_media_at g.S.SectorStore.size g.S.SectorStore.told m) c.loop-port.port c.next_page_command-found.result c.next_page_command-found.ensures.port c.next_page_command-found.ensures.found

pub loop-port-preserved : goal.loop-port-preserved
loop-port-preserved g c = λ port slot small.
    let m = c.args.self.now in
    let o : AllMedia = all_media_at g.S.SectorStore.size g.S.SectorStore.told m in
    let d : Device = device_at g.S.SectorStore.size g.S.SectorStore.told m in
    let P : ℕ → Type 0 = λ k. (slot : ℕ) → IsPortReleased c.args.left_out.now k → HasDisks d k → slot < 32 → FindsPageCommandAndWhetherItCanEnd d k slot None in
    let here : P c.loop-port.port = elim c.if-not-left_out-from.branch [
      | then-not-left_out-from+then-has_disks+else-is_some w ↦
          λ s loose disks low. w.next_page_command-found.ensures.none (none_filled w.next_page_command-found.result (sym w.is_some.ensures ∙ w.if-is_some.false)) o s low
      | else-not-left_out-from w ↦ elim w.else-not-left_out-from.branch [
        | else-not-left_out-from-via-then-not-left_out-from+else-has_disks v ↦
            λ s loose disks low.
            absurd (no_disks g.S.SectorStore.size g.S.SectorStore.told m c.loop-port.port
            (no_bay m v.from-then-not-left_out-from.result c.loop-port.port _ v.from-then-not-left_out-from.ensures v.as_slice.ensures.value
            (sym v.has_disks.ensures.disks ∙ v.if-has_disks.false)) disks)
        | else-not-left_out-from-via-else-not-left_out-from v ↦
            λ s loose disks low.
            let held = subst (λ k. slice_index_or c.args.left_out.now k false ≡ true) c.from.ensures v.if-not-left_out-from.false in true-false held loose
      ]
    ] in
    below_more P c.loop-port.port (λ k less s. c.loop-port.invariant k s less) here port small slot

pub returns-clause-none : goal.returns-clause-none
returns-clause-none g c = λ _ port slot small. c.loop-port.invariant port slot (omega (arith, small, c.loop-port-test.false))
