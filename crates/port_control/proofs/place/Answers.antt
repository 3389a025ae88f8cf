use Rattle.ata_types.specs.declared.memory.TheConstants.{DRIVER_BYTES_PER_PORT, RECEIVED_FIS_OFFSET}
use Rattle.std.proofs.Common.{◌+◌, ◌*◌, ap, ◌∙◌}
use Rattle.port_control.proofs.Placing.{placed_first, clb_may, clb_placed, clbu_may, clbu_placed, fb_may, fb_placed, fbu_may, fbu_placed, programmed_by}
use Rattle.port_control.proofs.place.Goals as goal

pub write-requires : goal.write-requires
write-requires g c =
    let a = placed_first c.law_prerequisites.ensures c.args.port _ c.requires.usable c.requires.quiet c.requires.room in
    clb_may c.law_prerequisites.ensures c.args.port _ _ (g.A.Adapter.device c.args.adapter.now) _ a _ (ap (λ n. DRIVER_BYTES_PER_PORT * n) c.from-list.ensures)

pub write-requires-2 : goal.write-requires-2
write-requires-2 g c =
    let a = placed_first c.law_prerequisites.ensures c.args.port _ c.requires.usable c.requires.quiet c.requires.room in
    let b = clb_placed c.law_prerequisites.ensures c.args.port _ _ _ _ a _ (ap (λ n. DRIVER_BYTES_PER_PORT * n) c.from-list.ensures) c.write.ensures.does in
    clbu_may c.law_prerequisites.ensures c.args.port _ _ (g.A.Adapter.device c.args.adapter.now) _ b

pub write-requires-3 : goal.write-requires-3
write-requires-3 g c =
    let a = placed_first c.law_prerequisites.ensures c.args.port _ c.requires.usable c.requires.quiet c.requires.room in
    let b = clb_placed c.law_prerequisites.ensures c.args.port _ _ _ _ a _ (ap (λ n. DRIVER_BYTES_PER_PORT * n) c.from-list.ensures) c.write.ensures.does in
    let d = clbu_placed c.law_prerequisites.ensures c.args.port _ _ _ _ b c.write-2.ensures.does in
    fb_may c.law_prerequisites.ensures c.args.port _ _ (g.A.Adapter.device c.args.adapter.now) _ d _ (ap (λ n. DRIVER_BYTES_PER_PORT * n + RECEIVED_FIS_OFFSET) c.from-list.ensures)

pub write-requires-4 : goal.write-requires-4
write-requires-4 g c =
    let a = placed_first c.law_prerequisites.ensures c.args.port _ c.requires.usable c.requires.quiet c.requires.room in
    let b = clb_placed c.law_prerequisites.ensures c.args.port _ _ _ _ a _ (ap (λ n. DRIVER_BYTES_PER_PORT * n) c.from-list.ensures) c.write.ensures.does in
    let d = clbu_placed c.law_prerequisites.ensures c.args.port _ _ _ _ b c.write-2.ensures.does in
    let e = fb_placed c.law_prerequisites.ensures c.args.port _ _ _ _ d _ (ap (λ n. DRIVER_BYTES_PER_PORT * n + RECEIVED_FIS_OFFSET) c.from-list.ensures) c.write-3.ensures.does in
    fbu_may c.law_prerequisites.ensures c.args.port _ _ (g.A.Adapter.device c.args.adapter.now) _ e

pub returns-clause-followed : goal.returns-clause-followed
returns-clause-followed g c =
    let a = placed_first c.law_prerequisites.ensures c.args.port _ c.requires.usable c.requires.quiet c.requires.room in
    let b = clb_placed c.law_prerequisites.ensures c.args.port _ _ _ _ a _ (ap (λ n. DRIVER_BYTES_PER_PORT * n) c.from-list.ensures) c.write.ensures.does in
    let d = clbu_placed c.law_prerequisites.ensures c.args.port _ _ _ _ b c.write-2.ensures.does in
    let e = fb_placed c.law_prerequisites.ensures c.args.port _ _ _ _ d _ (ap (λ n. DRIVER_BYTES_PER_PORT * n + RECEIVED_FIS_OFFSET) c.from-list.ensures) c.write-3.ensures.does in
    let f = fbu_placed c.law_prerequisites.ensures c.args.port _ _ _ _ e c.write-4.ensures.does in
    f.followed

pub returns-clause-places : goal.returns-clause-places
returns-clause-places g c =
    let a = placed_first c.law_prerequisites.ensures c.args.port _ c.requires.usable c.requires.quiet c.requires.room in
    let b = clb_placed c.law_prerequisites.ensures c.args.port _ _ _ _ a _ (ap (λ n. DRIVER_BYTES_PER_PORT * n) c.from-list.ensures) c.write.ensures.does in
    let d = clbu_placed c.law_prerequisites.ensures c.args.port _ _ _ _ b c.write-2.ensures.does in
    let e = fb_placed c.law_prerequisites.ensures c.args.port _ _ _ _ d _ (ap (λ n. DRIVER_BYTES_PER_PORT * n + RECEIVED_FIS_OFFSET) c.from-list.ensures) c.write-3.ensures.does in
    let f = fbu_placed c.law_prerequisites.ensures c.args.port _ _ _ _ e c.write-4.ensures.does in
    record {
      is_quiescent = f.quiet;
      areas_are_in_place = f.bases ∙ programmed_by c.args.port.0 _ ((g.A.Adapter.device c.args.adapter.now).port c.args.port.0).bases (ap (λ n. DRIVER_BYTES_PER_PORT * n) c.from-list.ensures);
      sctl_and_notes_but_cmd_are_kept = f.same;
    }
