use Rattle.port_driver.proofs.probing.needs_probe.Goals as goal

pub returns-in-Ready-clause-followed : goal.returns-in-Ready-clause-followed
returns-in-Ready-clause-followed g c = c.law_looks_preserve_invariant.ensures.empty_look_is_simulated c.args.port (g.A.Adapter.device c.args.adapter.now)

pub returns-in-Dead-clause-followed : goal.returns-in-Dead-clause-followed
returns-in-Dead-clause-followed g c = c.law_looks_preserve_invariant.ensures.empty_look_is_simulated c.args.port (g.A.Adapter.device c.args.adapter.now)
