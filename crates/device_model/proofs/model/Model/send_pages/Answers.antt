use Rattle.std.proofs.Common.{ℕ, true, false, ◌≡◌, ◌∙◌, slice_set, inl, inr, sym, ap, subst}
use Rattle.adapter.specs.Device.{Device}
use Rattle.adapter.specs.declared.access.DeviceStep.TheVariants as asked
use Rattle.ata_types.specs.declared.Port.{Port}
use Rattle.ata_types.specs.declared.Slot.{Slot}
use Rattle.device_model.specs.Finishing.{HasFinishablePageCommand, MayTakePageCommand}
use Rattle.device_model.specs.ModelState.{device_at}
use Rattle.device_model.proofs.Absurd.{true-false}
use Rattle.device_model.proofs.Doing.{left_it}
use Rattle.device_model.proofs.Paging.{found_ends, found_stuck}
use Rattle.device_model.proofs.SentPages.{IsSoFar, fewer, lacking_told, less_done, less_taken, none_left, so_far_done, so_far_lacking, so_far_taken}
use Rattle.device_model.proofs.model.Model.send_pages.Goals as goal

-- ---- one that can't be done to its end, or for which no memory is looked for

pub loop-found-smaller-then-lacks : goal.loop-found-smaller-then-lacks
loop-found-smaller-then-lacks g c =
    let found = c.in-Some.ensures.port in
    less_taken (device_at g.S.SectorStore.size g.S.SectorStore.told c.loop-found.self) (device_at g.S.SectorStore.size g.S.SectorStore.told c.take_page.new.self) c.loop-found.left_out c.in-Some.found.port c.from.result c.from.ensures found.0 c.loop-found.invariant.long found.1 c.take_page.ensures.other_ports_are_kept

pub loop-found-preserved-then-lacks : goal.loop-found-preserved-then-lacks
loop-found-preserved-then-lacks g c =
    let m = c.loop-found.self in
    let p : Port = record { 0 = c.in-Some.found.port } in
    let s : Slot = record { 0 = c.in-Some.found.slot } in
    let d : Device = device_at g.S.SectorStore.size g.S.SectorStore.told m in
    let found = c.in-Some.ensures.port in
    let stuck : c.loop-found.lacks ≡ false → MayTakePageCommand d p.0 s.0 × (HasFinishablePageCommand d p.0 s.0 → ⊥) =
    λ (fed : c.loop-found.lacks ≡ false).
    elim c.if-lacks.either [
      | inl ends ↦ found_stuck d p.0 s.0 c.in-Some.found.can_end ends c.in-Some.ensures.found
      | inr lacks ↦ true-false lacks.1 fed
    ] in
    let P : ℕ → Type 0 = λ k. IsSoFar g.S.SectorStore.size g.S.SectorStore.told g.S.SectorStore.failures c.args.self.now c.take_page.new.self
    (slice_set c.loop-found.left_out k true) c.loop-found.lacks in
    subst P (sym c.from.ensures)
    (so_far_taken g.S.SectorStore.size g.S.SectorStore.told g.S.SectorStore.failures c.args.self.now m c.loop-found.left_out c.loop-found.lacks c.loop-found.invariant p s
    found.0 c.in-Some.ensures.small found.1 found.2 c.take_page.new.self c.take_page.ensures stuck)

-- ---- one for which the tape had no memory

pub loop-found-smaller-then-not-finish : goal.loop-found-smaller-then-not-finish
loop-found-smaller-then-not-finish g c =
    let m = c.loop-found.self in
    let p : Port = record { 0 = c.in-Some.found.port } in
    let s : Slot = record { 0 = c.in-Some.found.slot } in
    let found = c.in-Some.ensures.port in
    let same = (left_it g.S.SectorStore.size g.S.SectorStore.told g.S.SectorStore.failures (asked.Finish p s) m c.finish.new.self c.finish.result c.finish.ensures.answers c.if-not-finish.true).device_is_kept in
    less_taken (device_at g.S.SectorStore.size g.S.SectorStore.told m) (device_at g.S.SectorStore.size g.S.SectorStore.told c.take_page-then-not-finish.new.self) c.loop-found.left_out c.in-Some.found.port c.from-then-not-finish.result c.from-then-not-finish.ensures found.0 c.loop-found.invariant.long found.1
    (λ q ne. c.take_page-then-not-finish.ensures.other_ports_are_kept q ne ∙ ap (λ (d : Device). d.port q) same)

pub loop-found-preserved-then-not-finish : goal.loop-found-preserved-then-not-finish
loop-found-preserved-then-not-finish g c =
    let m = c.loop-found.self in
    let p : Port = record { 0 = c.in-Some.found.port } in
    let s : Slot = record { 0 = c.in-Some.found.slot } in
    let d : Device = device_at g.S.SectorStore.size g.S.SectorStore.told m in
    let found = c.in-Some.ensures.port in
    let has = found_ends d p.0 s.0 c.in-Some.found.can_end c.if-lacks.false.0 c.in-Some.ensures.found in
    let P : ℕ → Type 0 = λ k. IsSoFar g.S.SectorStore.size g.S.SectorStore.told g.S.SectorStore.failures c.args.self.now c.take_page-then-not-finish.new.self
    (slice_set c.loop-found.left_out k true) true in
    subst P (sym c.from-then-not-finish.ensures)
    (so_far_lacking g.S.SectorStore.size g.S.SectorStore.told g.S.SectorStore.failures c.args.self.now m c.loop-found.left_out c.loop-found.lacks c.loop-found.invariant p s
    found.0 c.in-Some.ensures.small found.1 found.2 c.finish.new.self c.finish.result c.finish.ensures.answers has c.take_page-then-not-finish.new.self c.if-lacks.false.1
    c.if-not-finish.true ((c.finish.ensures.sends found.2 has).1 c.if-not-finish.true) c.take_page-then-not-finish.ensures)

-- ---- one that is done

pub loop-found-smaller : goal.loop-found-smaller
loop-found-smaller g c =
    let m = c.loop-found.self in
    let p : Port = record { 0 = c.in-Some.found.port } in
    let s : Slot = record { 0 = c.in-Some.found.slot } in
    let d : Device = device_at g.S.SectorStore.size g.S.SectorStore.told m in
    let found = c.in-Some.ensures.port in
    let has = found_ends d p.0 s.0 c.in-Some.found.can_end c.if-lacks.false.0 c.in-Some.ensures.found in
    let less = fewer g.S.SectorStore.size g.S.SectorStore.told g.S.SectorStore.failures c.args.self.now m c.loop-found.left_out c.loop-found.lacks c.loop-found.invariant p s
    found.0 c.in-Some.ensures.small found.1 found.2 c.finish.new.self c.finish.result c.finish.ensures.answers has c.if-not-finish.false
    ((c.finish.ensures.sends found.2 has).0 c.if-not-finish.false) in
    less_done d (device_at g.S.SectorStore.size g.S.SectorStore.told c.finish.new.self) c.loop-found.left_out p.0 found.0 found.1 less.0 less.1

pub loop-found-preserved : goal.loop-found-preserved
loop-found-preserved g c =
    let m = c.loop-found.self in
    let p : Port = record { 0 = c.in-Some.found.port } in
    let s : Slot = record { 0 = c.in-Some.found.slot } in
    let d : Device = device_at g.S.SectorStore.size g.S.SectorStore.told m in
    let found = c.in-Some.ensures.port in
    let has = found_ends d p.0 s.0 c.in-Some.found.can_end c.if-lacks.false.0 c.in-Some.ensures.found in
    so_far_done g.S.SectorStore.size g.S.SectorStore.told g.S.SectorStore.failures c.args.self.now m c.loop-found.left_out c.loop-found.lacks c.loop-found.invariant p s
    found.0 c.in-Some.ensures.small found.1 found.2 c.finish.new.self c.finish.result c.finish.ensures.answers has c.if-lacks.false.1 c.if-not-finish.false

-- ---- none is left

pub returns-clause-left : goal.returns-clause-left
returns-clause-left g c =
    none_left g.S.SectorStore.size g.S.SectorStore.told g.S.SectorStore.failures c.args.self.now c.loop-found.self c.loop-found.left_out c.loop-found.lacks
    c.loop-found.invariant (c.next_page_command.ensures.none c.in_default.is)

pub returns-clause-told : goal.returns-clause-told
returns-clause-told g c =
    lacking_told g.S.SectorStore.size g.S.SectorStore.told g.S.SectorStore.failures c.args.self.now c.loop-found.self c.loop-found.left_out c.loop-found.lacks
    c.loop-found.invariant (c.next_page_command.ensures.none c.in_default.is)
