use Rattle.std.proofs.Common.{sym, subst}
use Rattle.adapter.specs.Access.{Reads}
use Rattle.followed.specs.Asking.AsksUntilDivergence.{asks_nothing}
use Rattle.followed.proofs.Asking.{stays_so}
use Rattle.followed.proofs.Going.{may_read_still, reads_since}
use Rattle.followed.proofs.followed.FollowedAdapter.read.Goals as goal

pub read-shown-requires : goal.read-shown-requires
read-shown-requires g c =
    let device = g.A.Adapter.device in
    let old = device c.args.self.now.model in
    let mid = device c.prepare_read-said.new.self.model in
    let steps = c.prepare_read-said.ensures.goes old (c.law_steps_compose.ensures.reflexive old) in
    may_read_still c.args.r old mid (c.law_step_lists_keep_what_steps_keep.ensures old mid steps) c.requires

pub returns-clause-reads : goal.returns-clause-reads
returns-clause-reads g c =
    let device = g.A.Adapter.device in
    let old = device c.args.self.now.model in
    let mid = device c.prepare_read-said.new.self.model in
    let steps = c.prepare_read-said.ensures.goes old (c.law_steps_compose.ensures.reflexive old) in
    let Read : g.row.A.Denot → Type 0 = λ model. Reads c.args.r c.read-shown.result old (device model) in
    subst Read (sym c.compare.ensures.model) (reads_since c.args.r c.read-shown.result old mid (device c.read-shown.new.self) c.law_steps_compose.ensures.transitive steps c.read-shown.ensures.does)

pub returns-clause-asks : goal.returns-clause-asks
returns-clause-asks g c =
    let old = c.args.self.now in
    c.compare.ensures.asks old.peer old.divergence (c.prepare_read-said.ensures.asks old.peer old.divergence asks_nothing)

pub returns-clause-stays : goal.returns-clause-stays
returns-clause-stays g c =
    let old = c.args.self.now in
    stays_so (c.compare.ensures.asks old.peer old.divergence (c.prepare_read-said.ensures.asks old.peer old.divergence asks_nothing))
