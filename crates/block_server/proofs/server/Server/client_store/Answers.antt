use Rattle.std.proofs.Common.{ℕ, length, Ok, Err, refl, sym, ap, ◌∙◌, subst}
use Rattle.std.proofs.lemmas.Result.{err_from_is_err_and}
use Rattle.adapter.specs.Access.{Stores}
use Rattle.adapter.specs.Rules.{IsInMemoryNotOwnedByDevice, IsStable}
use Rattle.block_machine.specs.Events.{StoreAt}
use Rattle.block_machine.specs.Refusals.{MayAccessFrame}
use Rattle.dma_frames.specs.FrameTables.{owner_of, lent_to}
use Rattle.block_server.specs.ServerFieldsView.{server_view_of}
use Rattle.block_server.specs.ServerView.{ServerView, server_of}
use Rattle.server_history.specs.Histories.{ExtendsHistory, InvariantBetweenCalls, store_result}
use Rattle.block_server.proofs.server.Server.client_store.Given.{Over}
use Rattle.block_server.proofs.server.Server.client_store.Goals as goal
use Rattle.block_server.proofs.server.Server.client_store.Goals.{After-store}

pub returns-in_err-address-clause-extends_history : goal.returns-in_err-address-clause-extends_history
returns-in_err-address-clause-extends_history g c =
    let told = err_from_is_err_and c.from_residual.result c.from_residual.ensures.1 in
    let s = server_of g.A.Adapter.device c.args.self.now in
    subst (λ r. ExtendsHistory s s (StoreAt c.args.client c.args.frame c.args.offset c.args.bytes.now) (store_result r)) (sym (told.1 ∙ ap Err told.2)) (c.in_err-address.ensures.refused_store c.args.bytes.now refl)

pub store-requires : goal.store-requires
store-requires g c =
    subst (λ (v : ServerView g.row.A.Denot). IsStable (IsInMemoryNotOwnedByDevice c.in_ok-address.address (length c.args.bytes.now)) (g.A.Adapter.device v.adapter)) (sym c.self.view_is) c.in_ok-address.ensures.accessible

-- what it leaves, and that it adds an event
went : (g : Over) (c : After-store g) → InvariantBetweenCalls c.self.inside.stuck (server_of g.A.Adapter.device (record (server_view_of c.self.inside) { adapter = c.store.new.self }))
    × ExtendsHistory (server_of g.A.Adapter.device (server_view_of c.self.inside)) (server_of g.A.Adapter.device (record (server_view_of c.self.inside) { adapter = c.store.new.self })) (StoreAt c.args.client c.args.frame c.args.offset c.args.bytes.now) (store_result (Ok tt))
went g c =
    let device = g.A.Adapter.device in
    let s = server_view_of c.self.inside in
    let Q : ServerView g.row.A.Denot → Type 0 = λ v. MayAccessFrame (owner_of v.table) (lent_to v.table) c.args.client c.args.frame c.args.offset (length c.args.bytes.now) in
    let opened = subst Q (sym c.self.view_is) c.in_ok-address.ensures.ok.0 in
    let stores = subst (λ (at : ℕ). Stores at c.args.bytes.now (device s.adapter) (device c.store.new.self)) c.in_ok-address.ensures.ok.1 c.store.ensures.does in
    c.law_client_loads_and_stores_extend_history.ensures.store s.stuck (server_of device s) (device c.store.new.self) c.args.client c.args.frame c.args.offset c.args.bytes.now c.self.invariant opened stores

pub invariant_of-self : goal.invariant_of-self
invariant_of-self g c = (went g c).0

pub returns-clause-extends_history : goal.returns-clause-extends_history
returns-clause-extends_history g c =
    let device = g.A.Adapter.device in
    let P : ServerView g.row.A.Denot → Type 0 = λ v. ExtendsHistory (server_of device v) (server_of device (record (server_view_of c.self.inside) { adapter = c.store.new.self })) (StoreAt c.args.client c.args.frame c.args.offset c.args.bytes.now) (store_result (Ok tt)) in
    subst P c.self.view_is (went g c).1
