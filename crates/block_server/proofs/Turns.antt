-- Ports take their turns in rising number.
use Rattle.std.proofs.Common.{ℕ, ◌≡◌, ◌+◌, ◌<◌, ◌≤◌, ◌++◌, List, [], ◌∷◌, append_assoc, arith, drop, get_or, length, set, refl, sym, ap, ◌∙◌, subst}
use Rattle.std.proofs.lemmas.List.{append-nil, drop_all, drop_more, length-set}
use Rattle.ata_types.specs.declared.Port.{Port}
use Rattle.ata_types.specs.declared.request.Reply.{Reply}
use Rattle.adapter.specs.Device.{Device}
use Rattle.refinement.specs.Relation.{port_at}
use Rattle.host_boot.specs.TakeOver.{probe_result_of}
use Rattle.host_boot.specs.declared.ProbeResult.{ProbeResult}
use Rattle.host_boot.specs.declared.ProbeResult.TheVariants.{Ready, Unready, Unserved}
use Rattle.server_history.specs.ServerState.{ServerState, InvariantWithNoneDue}
use Rattle.server_history.specs.Turns.{EachPortTakesTurn}
use Rattle.port_driver.specs.PortAndShared.{HasNoneDueAndParts, TakesTurn, TurnByProbeResult, with_served_port}
use Rattle.port_driver.specs.declared.served_port.ServedPort.{ServedPort}
use Rattle.port_driver.specs.declared.served_port.Shared.{Shared}
use Rattle.block_server.specs.FourPorts.{by_port}
use Rattle.block_server.specs.ServerFieldsView.{with_ports}
use Rattle.block_server.proofs.Placing as placing

module _ (Such : Port → List Reply → ServerState → ServerState → Type 0) (Other : Port → ServerState → ServerState → Type 0) (found : List ProbeResult) (first : ServerState) where
  -- The ports below this number have had their turns, with these replies, and the others are as they were found. With
  -- the turns of those all have had theirs.
  pub record TurnsSoFar (ports : List ServedPort) (told : List Reply) (now : ServerState) (number : ℕ) : Type 0 where
    pub four : length ports ≡ 4
    pub left : (q : ℕ) → number ≤ q → probe_result_of (by_port (λ p. p.probe_result) ports) q ≡ probe_result_of found q
    pub invariant_with_none_due : InvariantWithNoneDue now
    pub rest : (later : List Reply) (last : ServerState) → EachPortTakesTurn Such Other number (drop number found) later now last → EachPortTakesTurn Such Other 0 found (told ++ later) first last

  -- at first none has had its turn
  pub none_yet : (ports : List ServedPort) (now : ServerState) → length ports ≡ 4 → by_port (λ p. p.probe_result) ports ≡ found → InvariantWithNoneDue now → now ≡ first → TurnsSoFar ports [] now 0
  none_yet ports now four is settled same = record {
    four = four;
    left = λ q more. ap (λ (list : List ProbeResult). probe_result_of list q) is;
    invariant_with_none_due = settled;
    rest = λ later last turns. subst (λ (x : ServerState). EachPortTakesTurn Such Other 0 found later x last) same turns;
  }

  -- the port of this number has its turn, and then those after it
  one_turn : (number : ℕ) → number < length found → (s mid new : ServerState) (its later : List Reply) → InvariantWithNoneDue mid → TurnByProbeResult Such Other (probe_result_of found number) (port_at number) its s mid
      → EachPortTakesTurn Such Other (number + 1) (drop (number + 1) found) later mid new → EachPortTakesTurn Such Other number (drop number found) (its ++ later) s new
  one_turn number low s mid new its later kept turn rest =
      subst (λ (left : List ProbeResult). EachPortTakesTurn Such Other number left (its ++ later) s new) (sym (drop_more found number Unserved low)) (by (probe_result_of found number) turn)
    where
      by : (one : ProbeResult) → TurnByProbeResult Such Other one (port_at number) its s mid → EachPortTakesTurn Such Other number (one ∷ drop (number + 1) found) (its ++ later) s new
      by (Ready info) had = (mid, its, later, refl, kept, had, rest)
      by (Unready state) had = subst (λ (told : List Reply). EachPortTakesTurn Such Other number (Unready state ∷ drop (number + 1) found) (told ++ later) s new) (sym had.0) (mid, kept, had.1, rest)
      by Unserved had = subst (λ (told : List Reply). EachPortTakesTurn Such Other number (Unserved ∷ drop (number + 1) found) (told ++ later) s new) (sym had.0)
          (subst (λ (x : ServerState). EachPortTakesTurn Such Other (number + 1) (drop (number + 1) found) later x new) had.1 rest)

  module _ (s : ServerState) (device : Device) (shared : Shared) (ports : List ServedPort) (told : List Reply) (number : ℕ) (so_far : TurnsSoFar ports told (with_ports s device shared ports) number) where
    -- the port of this number has its part
    pub its_part : number < 4 → (default : ServedPort) → HasNoneDueAndParts (with_ports s device shared ports) device shared (port_at number) (get_or ports number default)
    its_part low default = record { invariant_with_none_due = so_far.invariant_with_none_due; has_port_and_shared = placing.has_parts s device shared ports number default (let four = so_far.four in omega (arith, four, low)) }

    -- and now it has had its turn
    pub one_more : (low : number < 4) → length found ≡ 4 → (default : ServedPort) (d : Device) (other : Shared) (p : ServedPort) (after : List Reply)
        → TakesTurn (TurnByProbeResult Such Other (get_or ports number default).probe_result (port_at number)) told after (with_ports s device shared ports) (with_served_port (with_ports s device shared ports) d other (port_at number) p)
        → TurnsSoFar (set ports number p) after (with_ports s d other (set ports number p)) (number + 1)
    one_more low many default d other p after takes =
        let mid : ServerState = with_ports s d other (set ports number p) in
        let there : (get_or ports number default).probe_result ≡ probe_result_of found number = sym (its_part low default).has_port_and_shared.port_is.probe_result_is ∙ so_far.left number (omega arith) in
        let turn = subst (λ (one : ProbeResult). TakesTurn (TurnByProbeResult Such Other one (port_at number)) told after (with_ports s device shared ports) mid) there
        (subst (TakesTurn (TurnByProbeResult Such Other (get_or ports number default).probe_result (port_at number)) told after (with_ports s device shared ports)) (placing.placed s device shared ports number d other p) takes) in
        record {
          four = length-set ports number p ∙ so_far.four;
          left = λ q more. placing.other_found ports number p q (λ same. omega (arith, more, same)) ∙ so_far.left q (omega (arith, more));
          invariant_with_none_due = turn.invariant_with_none_due;
          rest = λ later last more.
              let W : List Reply → Type 0 = λ all. EachPortTakesTurn Such Other 0 found all first last in
              subst W (sym (ap (λ (all : List Reply). all ++ later) turn.replies_are ∙ append_assoc told turn.new_replies later))
              (so_far.rest (turn.new_replies ++ later) last (one_turn number (omega (arith, many, low)) (with_ports s device shared ports) mid last turn.new_replies later turn.invariant_with_none_due turn.turn_is_taken more));
        }

    -- after the last there is none, so the turns of the others are all
    pub all_turns : length found ≤ number → EachPortTakesTurn Such Other 0 found told first (with_ports s device shared ports)
    all_turns all =
        let now = with_ports s device shared ports in
        subst (λ (replies : List Reply). EachPortTakesTurn Such Other 0 found replies first now) (append-nil told)
        (so_far.rest [] now (subst (λ (left : List ProbeResult). EachPortTakesTurn Such Other number left [] now now) (sym (drop_all number found all)) (refl, refl)))
