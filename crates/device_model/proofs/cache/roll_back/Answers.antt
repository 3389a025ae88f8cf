use Rattle.std.proofs.Common.{rules, ◌≡◌, ◌∙◌, List, sym, subst, take, slice_index_or, arith}
use Rattle.std.proofs.lemmas.List.{take_all}
use Rattle.device_model.specs.OldSectors.{no_old_sector}
use Rattle.device_model.specs.declared.old_sectors.OldSector.{OldSector}
use Rattle.device_model.proofs.Caching.{WritesBack, take_more, writes_more, writes_turn, wrote_one}
use Rattle.device_model.proofs.cache.roll_back.Goals as goal

pub loop-old-preserved : goal.loop-old-preserved
loop-old-preserved g c =
    let olds = c.as_slice-old-items.result.now in
    let place = c.loop-old.old-index in
    let P : List OldSector → Type 0 = λ l. WritesBack g.S.SectorStore.size g.S.SectorStore.told g.S.SectorStore.failures l c.args.store.now c.write-written.new.self in
    let write = c.write-written.ensures in
    let old = slice_index_or olds place no_old_sector in
    subst P (sym (take_more olds place no_old_sector c.loop-old-test.true))
    (writes_more g.S.SectorStore.size g.S.SectorStore.told g.S.SectorStore.failures (take place olds) old c.args.store.now c.loop-old.store c.write-written.new.self c.loop-old.invariant
    (wrote_one g.S.SectorStore.size g.S.SectorStore.told g.S.SectorStore.failures old c.write-written.result c.loop-old.store c.write-written.new.self write.size_is_kept
    (search rules) (search rules) write.no_call_fails write.failure_keeps_told_contents (search rules)))

pub returns : goal.returns
returns g c =
    let olds = c.args.kept.now.sectors.items in
    let all : take c.loop-old.old-index c.as_slice-old-items.result.now ≡ olds = take_all c.loop-old.old-index c.as_slice-old-items.result.now (omega (arith, c.loop-old-test.false)) ∙ c.as_slice-old-items.ensures in
    let P : List OldSector → Type 0 = λ l. WritesBack g.S.SectorStore.size g.S.SectorStore.told g.S.SectorStore.failures l c.args.store.now c.loop-old.store in
    writes_turn g.S.SectorStore.size g.S.SectorStore.told g.S.SectorStore.failures olds c.args.kept.now.rising c.args.store.now c.loop-old.store (subst P all c.loop-old.invariant)
