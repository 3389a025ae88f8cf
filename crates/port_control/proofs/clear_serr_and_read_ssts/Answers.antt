use Rattle.std.proofs.Common.{◌∙◌, sym, arith}
use Rattle.std.proofs.lemmas.Bool.{eq-eqb, eqb-true, true≢false}
use Rattle.port_control.proofs.Clearing.{clearing, serr_may}
use Rattle.port_control.proofs.Seeing.{seen_clear, seen_followed, seen_none, seen_on, seen_stopped, seen_there}
use Rattle.port_control.proofs.clear_serr_and_read_ssts.Goals as goal

pub write-requires : goal.write-requires
write-requires g c = serr_may c.law_prerequisites.ensures c.args.port 0xffffffff _ c.requires.on_and_agrees

pub read-requires : goal.read-requires
read-requires g c =
    let u = clearing c.law_prerequisites.ensures c.args.port _ _ (g.A.Adapter.device c.args.adapter.now) c.requires.on_and_agrees c.write.ensures.does in
    (u.adapter_is_on, u.has_port)

pub returns-clause-adapter_is_on : goal.returns-clause-adapter_is_on
returns-clause-adapter_is_on g c = seen_on c.law_prerequisites.ensures c.args.port _ _ _ _ c.requires.on_and_agrees c.write.ensures.does c.read.ensures.does

pub returns-clause-followed : goal.returns-clause-followed
returns-clause-followed g c = seen_followed c.law_prerequisites.ensures c.args.port _ _ _ _ c.requires.on_and_agrees c.write.ensures.does c.read.ensures.does

pub returns-clause-detects : goal.returns-clause-detects
returns-clause-detects g c = record {
  stopped = seen_stopped c.law_prerequisites.ensures c.args.port _ _ _ _ c.requires.on_and_agrees c.write.ensures.does c.read.ensures.does;
  serr_shows_only_new_plugs = seen_clear c.law_prerequisites.ensures c.args.port _ _ _ _ c.requires.on_and_agrees c.write.ensures.does c.read.ensures.does;
  device_is_shown = λ is. let device = eqb-true _ _ is in let shown = c.detection.ensures in seen_there c.law_prerequisites.ensures c.args.port _ _ _ _ c.requires.on_and_agrees c.write.ensures.does c.read.ensures.does (omega (arith, device, shown));
  no_device_is_backed_if_waited = λ is. let shown = c.detection.ensures in seen_none c.law_prerequisites.ensures c.args.port _ _ _ _ c.requires.on_and_agrees c.write.ensures.does c.read.ensures.does (λ three. absurd (true≢false (sym (eq-eqb _ 3 (omega (arith, three, shown))) ∙ is)));
}
