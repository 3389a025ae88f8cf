use Rattle.std.proofs.Common.{sym, ap, ◌∙◌}
use Rattle.ata_types.specs.declared.PortState.TheVariants.{Absent, Ready}
use Rattle.server_history.specs.ServerState.{state_of}
use Rattle.block_server.specs.ServerFieldsView.{server_view_of}
use Rattle.block_server.proofs.Running.{shown_adds}
use Rattle.block_server.proofs.server.Server.state.Goals as goal

pub returns-in-Unserved-clause-extends_history : goal.returns-in-Unserved-clause-extends_history
returns-in-Unserved-clause-extends_history g c =
    shown_adds g.A.Adapter.device c.law_refusals_extend_history.ensures.state (server_view_of c.self.inside) c.args.self.now c.self.view_is c.args.port Absent c.self.invariant
    (ap state_of (sym c.in-Unserved.is ∙ c.found.ensures))

pub returns-in-Ready-clause-extends_history : goal.returns-in-Ready-clause-extends_history
returns-in-Ready-clause-extends_history g c =
    shown_adds g.A.Adapter.device c.law_refusals_extend_history.ensures.state (server_view_of c.self.inside) c.args.self.now c.self.view_is c.args.port Ready c.self.invariant
    (ap state_of (sym c.in-Ready.is ∙ c.found.ensures))

pub returns-in-Unready-clause-extends_history : goal.returns-in-Unready-clause-extends_history
returns-in-Unready-clause-extends_history g c =
    shown_adds g.A.Adapter.device c.law_refusals_extend_history.ensures.state (server_view_of c.self.inside) c.args.self.now c.self.view_is c.args.port c.in-Unready.state c.self.invariant
    (ap state_of (sym c.in-Unready.is ∙ c.found.ensures))
