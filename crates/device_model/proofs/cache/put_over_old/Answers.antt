use Rattle.std.proofs.Common.{◌≡◌, ◌≤◌, ◌+◌, ◌∙◌, ap, sym, subst, refl, arith}
use Rattle.std.specs.Vec.{vec_len, vec_capacity}
use Rattle.device_model.proofs.Caching.{had_lasts, kept_lasts, kept_written, put_lasts}
use Rattle.device_model.proofs.OldSectors.{gap_none}
use Rattle.device_model.specs.declared.old_sectors.OldSectors.{OldSectors}
use Rattle.device_model.specs.OldSectors.{with_old_bytes}
use Rattle.std.specs.Prelude.{option_map}
use Rattle.device_model.proofs.cache.put_over_old.Goals as goal
use Rattle.device_model.proofs.cache.put_over_old.Goals.{in-Some+else-not-read, in_default}

pub returns-clause-lasting : goal.returns-clause-lasting
returns-clause-lasting g c =
    let write = c.write.ensures in
    let olds = c.args.kept.now.sectors.items in
    let told = g.S.SectorStore.told c.args.store.now in
    let then = g.S.SectorStore.told c.write.new.self in
    let sector = c.args.sector in
    let bytes = c.args.bytes.now in
    elim c.match-gap_for.branch [
      | in-Some+else-not-read w ↦
          let same : g.S.SectorStore.told c.match-gap_for.store ≡ told = ap g.S.SectorStore.told w.store-is ∙ w.read.ensures.told_contents_are_kept in
          let none = gap_none olds sector w.in-Some.place w.in-Some.ensures.gap in
          let keeps = w.keep.ensures.keeps in
          let gives = w.read.ensures.bytes_are_told w.if-not-read.false in
          let now = w.keep.new.self.sectors.items in
          subst (λ (x : OldSectors). option_map (with_old_bytes x.sectors.items) then ≡ option_map (with_old_bytes olds) told) (sym w.kept-is)
          (put_lasts olds now sector bytes told then (kept_lasts olds now sector w.read.new.out told none keeps gives)
          (kept_written olds now sector w.read.new.out told none keeps gives bytes) c.write.result (rw same at write.sector_is_replaced) (rw same at write.failure_keeps_told_contents))
      | in_default w ↦
          let same : g.S.SectorStore.told c.match-gap_for.store ≡ told = ap g.S.SectorStore.told w.store-is in
          subst (λ (x : OldSectors). option_map (with_old_bytes x.sectors.items) then ≡ option_map (with_old_bytes olds) told) (sym w.kept-is)
          (put_lasts olds olds sector bytes told then refl (had_lasts olds sector told (w.in_default.ensures.has_old_bytes refl) bytes) c.write.result
          (rw same at write.sector_is_replaced) (rw same at write.failure_keeps_told_contents))
    ]

pub returns-clause-left : goal.returns-clause-left
returns-clause-left g c = λ n room.
    elim c.match-gap_for.branch [
      | in-Some+else-not-read w ↦ subst (λ (x : OldSectors). vec_len x.sectors + n ≤ vec_capacity x.sectors) (sym w.kept-is) (w.keep.ensures.room_is_left n room)
      | in_default w ↦ subst (λ (x : OldSectors). vec_len x.sectors + n ≤ vec_capacity x.sectors) (sym w.kept-is) (omega (arith, room))
    ]
