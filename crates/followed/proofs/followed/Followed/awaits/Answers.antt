use Rattle.std.proofs.Common.{◌≡◌, ◌∙◌, Option, false, subst, sym, ℕ}
use Rattle.hba_regs.specs.Bits.{bit}
use Rattle.followed.specs.Asking.{AsksUntilDivergence}
use Rattle.followed.specs.Asking.AsksUntilDivergence.{asks_nothing}
use Rattle.followed.specs.declared.divergence.Divergence.{Divergence}
use Rattle.followed.proofs.followed.Followed.awaits.Goals as goal

pub returns-in-Some-2-clause-ended : goal.returns-in-Some-2-clause-ended
returns-in-Some-2-clause-ended g c = λ yes.
    let old = c.args.self.now in
    let peer = c.loop-look.self.peer in
    let To : Option Divergence → Type 0 = λ d. AsksUntilDivergence g.P.Peer.makes g.P.Peer.fails old.peer old.divergence peer d in
    let Clear : ℕ → Type 0 = λ place. bit c.in-Some.left place ≡ false in
    (peer, c.in-Some.left, subst To c.in-Some.ensures.answered (c.loop-look.invariant.asks old.peer old.divergence asks_nothing), c.in-Some.ensures.reads.1, subst Clear c.from.ensures (sym c.is_set.ensures ∙ c.if-is_set.false), c.in-Some.ensures.reads.0)
