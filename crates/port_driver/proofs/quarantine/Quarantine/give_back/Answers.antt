use Rattle.std.proofs.Common.{rules, ◌≡◌, ◌++◌, ◌∷◌, [], List, sym, subst, arith}
use Rattle.std.specs.List.{All, AllPairs, Contains}
use Rattle.std.proofs.lemmas.List.Elements.{All-contains}
use Rattle.dma_frames.specs.Loan.{Lending}
use Rattle.server_history.specs.KeptLoans.{GivesBackLoans}
use Rattle.server_history.specs.ServerState.{DifferInRequest, IsLentOut}
use Rattle.port_driver.proofs.Keeping.{all_back, is_last, lent_left, none_back, two_left}
use Rattle.port_driver.proofs.quarantine.Quarantine.give_back.Goals as goal

pub loop-loan-init : goal.loop-loan-init
loop-loan-init c = record {
  room = c.self.invariant.0;
  lent = subst (All (IsLentOut c.args.table.now)) (sym c.self.view_is) c.requires.lent;
  two = subst (AllPairs DifferInRequest) (sym c.self.view_is) c.requires.loans_differ_in_request;
  goes = λ new given. subst (λ (loans : List Lending). GivesBackLoans c.args.table.now new (Contains loans)) c.self.view_is given;
}

pub give_back-requires : goal.give_back-requires
give_back-requires c =
    let lent = subst (All (IsLentOut c.loop-loan.table)) c.in-Some.ensures.items c.loop-loan.invariant.lent in
    All-contains (IsLentOut c.loop-loan.table) (c.pop.new.self.items ++ c.in-Some.loan ∷ []) c.in-Some.loan lent (is_last c.pop.new.self.items c.in-Some.loan)

pub loop-loan-preserved : goal.loop-loan-preserved
loop-loan-preserved c =
    let rest = c.pop.new.self.items in
    let loan = c.in-Some.loan in
    let lent = subst (All (IsLentOut c.loop-loan.table)) c.in-Some.ensures.items c.loop-loan.invariant.lent in
    let two = subst (AllPairs DifferInRequest) c.in-Some.ensures.items c.loop-loan.invariant.two in
    record {
      room = let same = c.in-Some.ensures.capacity in let room = c.loop-loan.invariant.room in omega (arith, same, room);
      lent = lent_left rest loan c.law_giving_back_loans_composes.ensures c.loop-loan.table c.give_back.new.self lent two c.give_back.ensures;
      two = two_left rest loan two;
      goes = λ new given. c.loop-loan.invariant.goes new
          (subst (λ (loans : List Lending). GivesBackLoans c.loop-loan.table new (Contains loans)) (sym c.in-Some.ensures.items)
          (all_back rest loan c.law_giving_back_loans_composes.ensures c.loop-loan.table c.give_back.new.self lent two c.give_back.ensures new given));
    }

pub returns-clause-takes_loans_back : goal.returns-clause-takes_loans_back
returns-clause-takes_loans_back c =
    let none : c.loop-loan.self-inside.loans.items ≡ [] = search rules in
    c.loop-loan.invariant.goes c.loop-loan.table (subst (λ (loans : List Lending). GivesBackLoans c.loop-loan.table c.loop-loan.table (Contains loans)) (sym none)
    (none_back c.loop-loan.table))
