use Rattle.std.proofs.Common.{arith, refl}
use Rattle.device_model.proofs.Told.{done_answers, done_left}
use Rattle.device_model.proofs.model.Model.done.Goals as goal

pub returns : goal.returns
returns g c =
    let f = c.in-Some.ensures in
    done_answers g.S.SectorStore.size g.S.SectorStore.told g.S.SectorStore.failures c.args.self.now c.done.new.self c.args.port c.args.slot (c.in-Some.operation) c.note_end_of.new.bays
    (omega (arith, c.if-port-ge4.false)) (omega (arith, c.if-slot-ge32.false)) (f.did _) f.starved_is_kept (rw c.from.ensures at c.note_end_of.ensures)

pub returns-in_default : goal.returns-in_default
returns-in_default g c =
    let f = c.in_default.ensures in
    done_left g.S.SectorStore.size g.S.SectorStore.told g.S.SectorStore.failures c.args.self.now c.done.new.self c.args.port c.args.slot
    (omega (arith, c.if-port-ge4.false)) (omega (arith, c.if-slot-ge32.false)) (f.refused refl _) (f.step_is_skipped refl _)
