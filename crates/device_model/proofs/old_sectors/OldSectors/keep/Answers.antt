use Rattle.std.proofs.Common.{subst, sym}
use Rattle.device_model.specs.OldSectors.{AreRising, SetsOldBytesOfSector}
use Rattle.device_model.proofs.OldSectors.{gap_keeps, still_rising}
use Rattle.device_model.proofs.old_sectors.OldSectors.keep.Goals as goal

pub returns-clause-keeps : goal.returns-clause-keeps
returns-clause-keeps c =
    let olds = c.args.self.now.sectors.items in
    let items = rw (c.insert.ensures.succeeds c.requires.room) at c.insert.ensures.items in
    subst (λ now. SetsOldBytesOfSector olds now c.args.sector c.args.bytes.now) (sym items) (gap_keeps olds c.args.sector c.args.place c.requires.gap c.args.bytes.now)

pub invariant_of-self : goal.invariant_of-self
invariant_of-self c =
    let olds = c.args.self.now.sectors.items in
    let items = rw (c.insert.ensures.succeeds c.requires.room) at c.insert.ensures.items in
    record { rising = subst AreRising (sym items) (still_rising olds c.args.sector c.args.place c.requires.gap c.args.bytes.now c.args.self.now.rising) }
