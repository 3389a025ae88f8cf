use Rattle.std.proofs.Common.{arith}
use Rattle.device_model.specs.ModelState.{all_media_at}
use Rattle.device_model.specs.WholeAdapter.{AllMedia}
use Rattle.device_model.proofs.Told.{fatal_answers}
use Rattle.device_model.proofs.model.Model.raise_fatal.Goals as goal

pub returns-then-port-lt4 : goal.returns-then-port-lt4
returns-then-port-lt4 g c =
    let f = c.raise_fatal.ensures in
    let o : AllMedia = all_media_at g.S.SectorStore.size g.S.SectorStore.told c.args.self.now in
    fatal_answers g.S.SectorStore.size g.S.SectorStore.told g.S.SectorStore.failures c.args.self.now c.raise_fatal.new.self c.args.port c.args.error c.raise_fatal.result
    (omega (arith, c.if-port-lt4.true)) (λ e. f.did e o) (λ e. f.refused e o) (λ e. f.step_is_skipped e o) f.starved_is_kept
