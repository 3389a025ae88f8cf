use Rattle.std.proofs.Common.{ℕ, ◌≡◌, ◌<◌, ◌+◌, ◌++◌, List, [], append-nil, drop, map, take, length, get_or, set, refl, sym, ap, ◌∙◌, subst, arith}
use Rattle.std.specs.List.{All, AllPairs, Contains}
use Rattle.std.proofs.Math.ListN.{get_or-map}
use Rattle.std.proofs.lemmas.List.{drop_all, get_or_default, length-map, map-set, take_all}
use Rattle.std.proofs.lemmas.List.Edits.{map_over_more}
use Rattle.dma_frames.specs.Loan.{Lending}
use Rattle.server_history.specs.KeptLoans.{GivesBackLoans}
use Rattle.server_history.specs.ServerState.{DifferInRequest, IsLentOut, quarantined_at}
use Rattle.block_server.specs.FourPorts.{by_port, without_kept_loans}
use Rattle.port_driver.specs.PortAndShared.{no_port}
use Rattle.port_driver.specs.declared.served_port.ServedPort.{ServedPort}
use Rattle.block_server.proofs.Keeping.{BackSoFar, all_taken, next_out, next_so_far, next_two, none_so_far}
use Rattle.block_server.proofs.resetting.give_all_back.Goals as goal

-- what is kept of the port at this place
kept_there : (ports : List ServedPort) (number : ℕ) (default : ServedPort) → number < length ports → quarantined_at (by_port (λ p. p.kept) ports) number ≡ (get_or ports number default).kept
kept_there ports number default low = get_or-map (λ (p : ServedPort). p.kept) ports number no_port ∙ ap (λ (p : ServedPort). p.kept) (get_or_default ports number no_port default low)

four : (ports : List ServedPort) → length (by_port (λ p. p.kept) ports) ≡ 4 → length ports ≡ 4
four ports long = sym (length-map ports (λ (p : ServedPort). p.kept)) ∙ long

pub loop-number-init : goal.loop-number-init
loop-number-init c = record { back = none_so_far (by_port (λ p. p.kept) c.args.ports.now) c.args.table.now (length-map c.args.ports.now (λ (p : ServedPort). p.kept) ∙ c.told-ports); ports = refl }

pub give_back-requires-clause-lent : goal.give_back-requires-clause-lent
give_back-requires-clause-lent c =
    let so_far = c.loop-number.invariant.back in
    let ports = c.loop-number.ports in
    let number = c.loop-number.number in
    subst (All (IsLentOut c.loop-number.table)) (kept_there ports number _ (let long = four ports so_far.four in let low = c.loop-number-test.true in omega (arith, long, low)))
    (next_out c.law_giving_back_loans_composes.ensures (by_port (λ p. p.kept) c.args.ports.now) (by_port (λ p. p.kept) ports) c.args.table.now c.loop-number.table number c.requires so_far.back (so_far.left number (omega arith)))

pub give_back-requires-clause-loans_differ_in_request : goal.give_back-requires-clause-loans_differ_in_request
give_back-requires-clause-loans_differ_in_request c =
    let so_far = c.loop-number.invariant.back in
    let ports = c.loop-number.ports in
    let number = c.loop-number.number in
    subst (AllPairs DifferInRequest) (kept_there ports number _ (let long = four ports so_far.four in let low = c.loop-number-test.true in omega (arith, long, low)))
    (next_two c.law_giving_back_loans_composes.ensures (by_port (λ p. p.kept) c.args.ports.now) (by_port (λ p. p.kept) ports) c.args.table.now c.loop-number.table number c.requires so_far.back (so_far.left number (omega arith)))

-- one more has none
next : (old now : List ServedPort) (number : ℕ) (default : ServedPort) (kept : List Lending) → number < length old → number < length now → kept ≡ [] → now ≡ map without_kept_loans (take number old) ++ drop number old
    → set now number (record (get_or now number default) { kept = kept }) ≡ map without_kept_loans (take (number + 1) old) ++ drop (number + 1) old
next old now number default kept low small none is =
    ap (λ (k : List Lending). set now number (record (get_or now number default) { kept = k })) none
    ∙ map_over_more without_kept_loans old now number (get_or now number default) low is (get_or_default now number default (get_or now number default) small)

pub loop-number-preserved : goal.loop-number-preserved
loop-number-preserved c =
    let so_far = c.loop-number.invariant.back in
    let ports = c.loop-number.ports in
    let number = c.loop-number.number in
    let low = c.loop-number-test.true in
    let long = four ports so_far.four in
    let told = c.told-ports in
    let small : number < length ports = omega (arith, long, low) in
    let first = by_port (λ p. p.kept) c.args.ports.now in
    let B : List (List Lending) → Type 0 = λ kept. BackSoFar first kept c.args.table.now c.give_back.new.table (number + 1) in
    let here = sym (kept_there ports number c.index-ports-number.result small) in
    record {
      back = subst B (sym (map-set (λ (p : ServedPort). p.kept) ports number (record (get_or ports number c.index-ports-number.result) { kept = c.give_back.new.self })
          ∙ ap (set (by_port (λ p. p.kept) ports) number) c.give_back.ensures.empty))
          (next_so_far c.law_giving_back_loans_composes.ensures first (by_port (λ p. p.kept) ports) c.args.table.now c.loop-number.table c.give_back.new.table number c.requires so_far low
          (subst (λ (loans : List Lending). GivesBackLoans c.loop-number.table c.give_back.new.table (Contains loans)) here c.give_back.ensures.takes_loans_back));
      ports = next c.args.ports.now ports number c.index-ports-number.result c.give_back.new.self (omega (arith, told, low)) small c.give_back.ensures.empty c.loop-number.invariant.ports;
    }

pub returns-clause-ports : goal.returns-clause-ports
returns-clause-ports c =
    let past = c.loop-number-test.false in
    let told = c.told-ports in
    let number = c.loop-number.number in
    let old = c.args.ports.now in
    c.loop-number.invariant.ports
    ∙ (λ i. map without_kept_loans (take_all number old (omega (arith, past, told)) i) ++ drop_all number old (omega (arith, past, told)) i)
    ∙ append-nil (map without_kept_loans old)

pub returns-clause-takes_kept_loans_back : goal.returns-clause-takes_kept_loans_back
returns-clause-takes_kept_loans_back c =
    all_taken (by_port (λ p. p.kept) c.args.ports.now) (by_port (λ p. p.kept) c.loop-number.ports) c.args.table.now c.loop-number.table c.loop-number.number c.loop-number.invariant.back
    (length-map c.args.ports.now (λ (p : ServedPort). p.kept) ∙ c.told-ports) (let past = c.loop-number-test.false in omega (arith, past))
