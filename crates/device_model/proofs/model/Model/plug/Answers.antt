use Rattle.std.proofs.Common.{Some, ◌∙◌, refl, sym, ap, inl, inr, arith}
use Rattle.std.specs.Prelude.{slice_set}
use Rattle.adapter.specs.Device.{Device}
use Rattle.device_model.specs.ModelState.{all_media_at}
use Rattle.device_model.specs.WholeAdapter.{AllMedia}
use Rattle.device_model.specs.declared.bay.Bay.{Bay}
use Rattle.device_model.proofs.Doing.{left_same}
use Rattle.device_model.proofs.Plugging.{did_plug, plug_left}
use Rattle.device_model.proofs.TwoDisks.{number_small, seat_is}
use Rattle.device_model.proofs.model.Model.plug.Goals as goal

-- the tape had no memory for it
pub returns-then-not-plug : goal.returns-then-not-plug
returns-then-not-plug g c =
    let m = c.args.self.now in
    let o : AllMedia = all_media_at g.S.SectorStore.size g.S.SectorStore.told m in
    let a = c.in-Some-index_mut.bay in
    let at = c.from-place.ensures in
    let may = c.may_plug.ensures.yes c.if-not-may_plug.false in
    let there = may.0 in
    let free = may.1.2 in
    let few = number_small c.in-Some.which in
    let was = seat_is m c.from-place.result c.args.port.0 c.index_mut.result.now a c.from-place.ensures (omega (arith, there, at))
    c.index_mut.ensures.value c.in-Some-index_mut.is in
    elim (c.plug.ensures.step_is_skipped c.if-not-plug.true o) [
      | inl never ↦ absurd (never.0 free)
      | inr missed ↦
          plug_left g.S.SectorStore.size g.S.SectorStore.told g.S.SectorStore.failures m _ c.args.port refl refl refl a a was
          (ap (λ k. slice_set m.bays.items k (Some a)) c.from-place.ensures) c.args.disk refl (c.plug.ensures.refused c.if-not-plug.true)
          (may.1.0, may.1.1, omega (arith, few, c.in-Some.ensures.found), free)
          missed.1 missed.2
    ]

pub returns : goal.returns
returns g c =
    let m = c.args.self.now in
    let a = c.in-Some-index_mut.bay in
    let b = c.put_in.new.self in
    let at = c.from-place.ensures in
    let may = c.may_plug.ensures.yes c.if-not-may_plug.false in
    let there = may.0 in
    let was = seat_is m c.from-place.result c.args.port.0 c.index_mut.result.now a c.from-place.ensures (omega (arith, there, at))
    c.index_mut.ensures.value c.in-Some-index_mut.is in
    let selects = c.put_in.ensures.selects in
    let put = selects.rest_is_kept in
    let yes = c.if-not-plug.false in
    did_plug g.S.SectorStore.size g.S.SectorStore.told g.S.SectorStore.failures m _ c.args.port refl refl refl a b was
    (ap (λ k. slice_set m.bays.items k (Some b)) c.from-place.ensures) c.args.disk c.in-Some.which c.in-Some.ensures.found selects.it_is_in
    selects.disks_are_kept
    c.put_in.ensures.later
    (ap (λ (x : Bay g.row.S.Denot). x.page_source) put)
    (ap (λ (x : Bay g.row.S.Denot). x.first) put)
    selects.has_cache_as_before
    selects.lasting_is
    may.1.0
    (λ d is. ap (λ (x : Device). (x.port c.args.port.0).present) is ∙ c.plug.ensures.no_disk_was_in yes (all_media_at g.S.SectorStore.size g.S.SectorStore.told m))
    g.met.S.SectorStore.told_sectors_are_valid (λ o disk name same. c.plug.ensures.did yes o disk (name ∙ (sym c.in-Some.ensures.found ∙ sym c.number.ensures)) (c.equals.ensures ∙ same)) (c.plug.ensures.starved_is_kept yes)

-- no disk may be put in
pub returns-then-not-may_plug : goal.returns-then-not-may_plug
returns-then-not-may_plug g c =
    left_same g.S.SectorStore.size g.S.SectorStore.told g.S.SectorStore.failures _ c.args.self.now
    (λ may. c.may_plug.ensures.no c.if-not-may_plug.true (may.0, may.1, may.3))
