use Rattle.std.proofs.Common.{Some, ◌∙◌, refl, sym, ap, inl, inr, arith}
use Rattle.std.specs.Prelude.{slice_set}
use Rattle.adapter.specs.Device.{Device}
use Rattle.device_model.specs.ModelState.{all_media_at}
use Rattle.device_model.specs.WholeAdapter.{AllMedia}
use Rattle.device_model.proofs.Doing.{left_same}
use Rattle.device_model.proofs.Losing.{did_lose, lose_left}
use Rattle.device_model.proofs.TwoDisks.{seat_is}
use Rattle.device_model.proofs.model.Model.lose_plug.Goals as goal

-- no disk may be put in
pub returns-then-not-may_plug : goal.returns-then-not-may_plug
returns-then-not-may_plug g c =
    left_same g.S.SectorStore.size g.S.SectorStore.told g.S.SectorStore.failures _ c.args.self.now (c.may_plug.ensures.no c.if-not-may_plug.true)

-- the tape had no memory for it
pub returns-then-not-plug : goal.returns-then-not-plug
returns-then-not-plug g c =
    let m = c.args.self.now in
    let o : AllMedia = all_media_at g.S.SectorStore.size g.S.SectorStore.told m in
    let a = c.in-Some.bay in
    let at = c.from-place.ensures in
    let may = c.may_plug.ensures.yes c.if-not-may_plug.false in
    let there = may.0 in
    let free = may.1.2 in
    let was = seat_is m c.from-place.result c.args.port.0 c.index_mut.result.now a c.from-place.ensures (omega (arith, there, at))
    c.index_mut.ensures.value c.in-Some.is in
    elim (c.plug.ensures.step_is_skipped c.if-not-plug.true o) [
      | inl never ↦ absurd (never.0 free)
      | inr missed ↦
          lose_left g.S.SectorStore.size g.S.SectorStore.told g.S.SectorStore.failures m _ c.args.port refl refl refl a a was
          (ap (λ k. slice_set m.bays.items k (Some a)) c.from-place.ensures) refl (c.plug.ensures.refused c.if-not-plug.true)
          may.1
          missed.1 missed.2
    ]

pub returns : goal.returns
returns g c =
    let m = c.args.self.now in
    let a = c.in-Some.bay in
    let b = c.plug_after_cache_loss.new.self in
    let at = c.from-place.ensures in
    let may = c.may_plug.ensures.yes c.if-not-may_plug.false in
    let there = may.0 in
    let was = seat_is m c.from-place.result c.args.port.0 c.index_mut.result.now a c.from-place.ensures (omega (arith, there, at))
    c.index_mut.ensures.value c.in-Some.is in
    let yes = c.if-not-plug.false in
    did_lose g.S.SectorStore.size g.S.SectorStore.told g.S.SectorStore.failures m _ c.args.port refl refl refl a b was
    (ap (λ k. slice_set m.bays.items k (Some b)) c.from-place.ensures) c.plug_after_cache_loss.ensures.loses c.plug_after_cache_loss.ensures.rest c.plug_after_cache_loss.ensures.later
    may.1.0
    (λ d is. ap (λ (x : Device). (x.port c.args.port.0).present) is ∙ c.plug.ensures.no_disk_was_in yes (all_media_at g.S.SectorStore.size g.S.SectorStore.told m))
    g.met.S.SectorStore.told_sectors_are_valid (λ o disk name same. c.plug.ensures.did yes o disk (name ∙ sym c.number.ensures) same) (c.plug.ensures.starved_is_kept yes)
