use Rattle.std.proofs.Common.{sym, subst, inr}
use Rattle.block_server.specs.InitialServer.{IsInitialServer}
use Rattle.block_server.specs.ServerView.{ServerView}
use Rattle.play.proofs.session.play_adapter.Goals as goal

pub returns-clause-given_back_adapter_is_as_played : goal.returns-clause-given_back_adapter_is_as_played
returns-clause-given_back_adapter_is_as_played g c =
    let New : ServerView g.row.A.Denot → Type 0 = λ server. IsInitialServer g.A.Adapter.device c.args.config c.args.adapter server in
    let there = subst New (sym c.in-Ok-on_heap.ensures) c.in-Ok.ensures.made in
    let performed = c.play_lines-performed.ensures in
    inr (
      c.deref_mut.result.now,
      c.play_lines-performed.new.server,
      subst New (sym c.deref_mut.ensures.value) there,
      c.close_server.ensures,
      performed.0,
      performed.1,
      performed.2,
    )
