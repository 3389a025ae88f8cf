use Rattle.port_control.proofs.Clearing.{serr_may, is_may, clearing, clears, cleared_saw, cleared_calm, cleared_by, cleared_clear}
use Rattle.port_control.proofs.clear_errors.Goals as goal

pub write-requires : goal.write-requires
write-requires g c = serr_may c.law_prerequisites.ensures c.args.port 0xffffffff _ c.requires.usable

pub write-requires-2 : goal.write-requires-2
write-requires-2 g c = is_may c.law_prerequisites.ensures c.args.port 0xffffffff _ (clearing c.law_prerequisites.ensures c.args.port _ _ (g.A.Adapter.device c.args.adapter.now) c.requires.usable c.write.ensures.does)

pub returns-clause-followed : goal.returns-clause-followed
returns-clause-followed g c = clears c.law_prerequisites.ensures _ _ _ _ c.requires.usable c.write.ensures.does c.write-2.ensures.does

pub returns-clause-saw : goal.returns-clause-saw
returns-clause-saw g c = cleared_saw c.law_prerequisites.ensures _ _ _ _ c.requires.usable c.write.ensures.does c.write-2.ensures.does

pub returns-clause-clears : goal.returns-clause-clears
returns-clause-clears g c = record {
  clears = cleared_by c.law_prerequisites.ensures _ _ _ _ c.requires.usable c.write.ensures.does c.write-2.ensures.does;
  no_cause_is_set = cleared_calm c.law_prerequisites.ensures _ _ _ _ c.requires.usable c.write.ensures.does c.write-2.ensures.does;
  serr_shows_only_new_plugs = cleared_clear c.law_prerequisites.ensures _ _ _ _ c.requires.usable c.write.ensures.does c.write-2.ensures.does;
}
