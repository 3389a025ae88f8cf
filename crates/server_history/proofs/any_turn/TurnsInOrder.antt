-- The steps of a call in which ports have their turns one after another.
use Rattle.std.proofs.Common.{Bool, eq-eqb, ◌||◌, if◌then◌else◌, ◌+◌, ◌⊎◌, ℕ, ◌≡◌, ◌≢◌, ◌≤◌, ◌<◌, ◌==◌, true, false, List, [], ◌∷◌, ◌++◌, refl, sym, ap, ◌∙◌, subst, inl, inr, ⊎_elim, arith}
use Rattle.std.specs.List.{All, Contains, list_any}
use Rattle.std.proofs.lemmas.Bool.{cases_eq, false≢true, ne_eqb, or_left, or_right}
use Rattle.std.proofs.lemmas.List.Elements.{All-append, All-contains, All-nil, All-tail, All-weaker, Contains-append_cases, Contains-append_right, Contains-get_or}
use Rattle.ata_types.specs.declared.Port.{Port}
use Rattle.ata_types.specs.declared.request.Outcome.{Outcome}
use Rattle.ata_types.specs.declared.request.Outcome.TheVariants.{Ok, DeviceError, Aborted, Unplugged, PortDead, Revoked}
use Rattle.ata_types.specs.declared.request.RequestId.{RequestId}
use Rattle.adapter.specs.declared.access.DeviceStep.{DeviceStep}
use Rattle.refinement.specs.Relation.{port_at}
use Rattle.block_machine.specs.Events.{AbstractCall, AbstractState, AnswersLawfulAndWaitsOnStoppedPorts, AllEnabled, AreStepsOfCall, IsIssuedIn, IsLawfulAnswer, IssueIsLastOfRequest, UnpluggedOutcomeEmptiesPort, changes_disk}
use Rattle.block_machine.specs.Histories.{IsReachable}
use Rattle.block_machine.specs.Expected.{after}
use Rattle.block_machine.specs.Ports.{Evidence, Ports}
use Rattle.block_machine.specs.State.{Machine, Pending}
use Rattle.block_machine.specs.Steps.{Step, WaitAgain, Answer, Issue, PlugDisk, Unplug}
use Rattle.driver_history.specs.EvidenceHandling.{OnlyPortsShowingErrorRequeueAbortRevokeFault}
use Rattle.server_history.specs.Turns.{IsTurnOrDeviceStep, IsByDeviceOrOnSuchPort}
use Rattle.server_history.proofs.any_turn.TurnSteps.{IsSame, StandsIn, handled_own, issued_before, others_left, others_were, same_as, same_more, stood}
use Rattle.server_history.proofs.plain_calls.IssueRounds.{issued_parts}
use Rattle.server_history.specs.Prerequisites.{PrerequisiteLaws}

-- ---- lists of steps

-- steps of ports of one kind are of ports of another
of_ports : (One Other : Port → Type 0) → ((q : Port) → One q → Other q) → (step : Step) → IsByDeviceOrOnSuchPort One step → IsByDeviceOrOnSuchPort Other step
of_ports One Other each (Issue mode e) is = each e.request.port is
of_ports One Other each (WaitAgain e) is = each e.request.port is
of_ports One Other each (Answer e o) is = each e.request.port is
of_ports One Other each step is = is

pub all_of_ports : (One Other : Port → Type 0) → ((q : Port) → One q → Other q) → (steps : List Step) → All (IsByDeviceOrOnSuchPort One) steps → All (IsByDeviceOrOnSuchPort Other) steps
all_of_ports One Other each steps all = All-weaker (IsByDeviceOrOnSuchPort One) (IsByDeviceOrOnSuchPort Other) (λ step is. of_ports One Other each step is) steps all

-- who is answered in them is of such a port
pub answered_of : (Such : Port → Type 0) (steps : List Step) → All (IsByDeviceOrOnSuchPort Such) steps → (e : Pending) (o : Outcome) → Contains steps (Answer e o) → Such e.request.port
answered_of Such steps all e o here = All-contains (IsByDeviceOrOnSuchPort Such) steps (Answer e o) all here

-- and so is who waits again in them
pub again_of : (Such : Port → Type 0) (steps : List Step) → All (IsByDeviceOrOnSuchPort Such) steps → (e : Pending) → Contains steps (WaitAgain e) → Such e.request.port
again_of Such steps all e here = All-contains (IsByDeviceOrOnSuchPort Such) steps (WaitAgain e) all here

pub belong_join : (ask : AbstractCall DeviceStep) (ports : Ports) (late early : List Step) → AreStepsOfCall ask ports late → AreStepsOfCall ask ports early → AreStepsOfCall ask ports (late ++ early)
belong_join ask ports [] early a b = b
belong_join ask ports (step ∷ late) early a b = (belong_join ask ports late early a.0 b, a.1)

pub lawful_join : (old : AbstractState) (evidence : Evidence) (ports : Ports) (late early : List Step) → AnswersLawfulAndWaitsOnStoppedPorts old evidence ports late → AnswersLawfulAndWaitsOnStoppedPorts old evidence ports early → AnswersLawfulAndWaitsOnStoppedPorts old evidence ports (late ++ early)
lawful_join old evidence ports [] early a b = b
lawful_join old evidence ports (Answer e o ∷ late) early a b = (lawful_join old evidence ports late early a.0 b, a.1)
lawful_join old evidence ports (WaitAgain e ∷ late) early a b = (lawful_join old evidence ports late early a.0 b, a.1)
lawful_join old evidence ports (step ∷ late) early a b = lawful_join old evidence ports late early a b

-- answers are lawful in another call where each of them is
pub lawful_on : (old new : AbstractState) (evidence other : Evidence) (ports later : Ports) (steps : List Step)
    → ((e : Pending) (o : Outcome) → Contains steps (Answer e o) → IsLawfulAnswer old evidence ports e o → IsLawfulAnswer new other later e o)
    → ((e : Pending) → Contains steps (WaitAgain e) → Contains evidence.stopped e.request.port → Contains other.stopped e.request.port)
    → AnswersLawfulAndWaitsOnStoppedPorts old evidence ports steps → AnswersLawfulAndWaitsOnStoppedPorts new other later steps
lawful_on old new evidence other ports later [] each again a = tt
lawful_on old new evidence other ports later (Answer e o ∷ steps) each again a = (
  lawful_on old new evidence other ports later steps (λ x y h. each x y (Contains-append_right ((Answer e o) ∷ []) steps (Answer x y) h)) (λ x h. again x (Contains-append_right ((Answer e o) ∷ []) steps (WaitAgain x) h)) a.0,
  each e o (Contains-get_or ((Answer e o) ∷ steps) 0 (Answer e o) (omega arith)) a.1,
)
lawful_on old new evidence other ports later (WaitAgain e ∷ steps) each again a = (
  lawful_on old new evidence other ports later steps (λ x y h. each x y (Contains-append_right ((WaitAgain e) ∷ []) steps (Answer x y) h)) (λ x h. again x (Contains-append_right ((WaitAgain e) ∷ []) steps (WaitAgain x) h)) a.0,
  again e (Contains-get_or ((WaitAgain e) ∷ steps) 0 (WaitAgain e) (omega arith)) a.1,
)
lawful_on old new evidence other ports later (step ∷ steps) each again a =
    lawful_on old new evidence other ports later steps (λ x y h. each x y (Contains-append_right (step ∷ []) steps (Answer x y) h)) (λ x h. again x (Contains-append_right (step ∷ []) steps (WaitAgain x) h)) a

pub grounded_join : (evidence : Evidence) (late early : List Step) → OnlyPortsShowingErrorRequeueAbortRevokeFault evidence late → OnlyPortsShowingErrorRequeueAbortRevokeFault evidence early → OnlyPortsShowingErrorRequeueAbortRevokeFault evidence (late ++ early)
grounded_join evidence [] early a b = b
grounded_join evidence (WaitAgain e ∷ late) early a b = (grounded_join evidence late early a.0 b, a.1)
grounded_join evidence (Answer e Aborted ∷ late) early a b = (grounded_join evidence late early a.0 b, a.1)
grounded_join evidence (Answer e Revoked ∷ late) early a b = (grounded_join evidence late early a.0 b, a.1)
grounded_join evidence (Answer e (DeviceError status error) ∷ late) early a b = (grounded_join evidence late early a.0 b, a.1)
grounded_join evidence (Answer e Ok ∷ late) early a b = grounded_join evidence late early a b
grounded_join evidence (Answer e Unplugged ∷ late) early a b = grounded_join evidence late early a b
grounded_join evidence (Answer e PortDead ∷ late) early a b = grounded_join evidence late early a b
grounded_join evidence (step ∷ late) early a b = grounded_join evidence late early a b

pub grounded_on : (evidence other : Evidence) → ((q : Port) → Contains evidence.showing_error q → Contains other.showing_error q) → (steps : List Step) → OnlyPortsShowingErrorRequeueAbortRevokeFault evidence steps → OnlyPortsShowingErrorRequeueAbortRevokeFault other steps
grounded_on evidence other more [] a = tt
grounded_on evidence other more (WaitAgain e ∷ steps) a = (grounded_on evidence other more steps a.0, more e.request.port a.1)
grounded_on evidence other more (Answer e Aborted ∷ steps) a = (grounded_on evidence other more steps a.0, more e.request.port a.1)
grounded_on evidence other more (Answer e Revoked ∷ steps) a = (grounded_on evidence other more steps a.0, more e.request.port a.1)
grounded_on evidence other more (Answer e (DeviceError status error) ∷ steps) a = (grounded_on evidence other more steps a.0, more e.request.port a.1)
grounded_on evidence other more (Answer e Ok ∷ steps) a = grounded_on evidence other more steps a
grounded_on evidence other more (Answer e Unplugged ∷ steps) a = grounded_on evidence other more steps a
grounded_on evidence other more (Answer e PortDead ∷ steps) a = grounded_on evidence other more steps a
grounded_on evidence other more (step ∷ steps) a = grounded_on evidence other more steps a

-- a disk that is in was in before the steps, or one of them changed it
pub present_before : (m : Machine) (q : Port) (steps : List Step) → (after m steps).present q ≡ true → (m.present q ≡ true) ⊎ (list_any (changes_disk q) steps ≡ true)
present_before m q [] is = inl is
present_before m q (Unplug p ∷ steps) is = ⊎_elim
    (λ (same : p.0 ≡ q.0). inr (or_left (p.0 == q.0) (list_any (changes_disk q) steps) (eq-eqb p.0 q.0 same)))
    (λ (ne : p.0 ≢ q.0). more (p.0 == q.0) (present_before m q steps (other ne)))
    (cases_eq p.0 q.0)
  where
    other : p.0 ≢ q.0 → (after m steps).present q ≡ true
    other ne = subst (λ (b : Bool). (if b then false else (after m steps).present q) ≡ true) (ne_eqb q.0 p.0 (λ e. ne (sym e))) is

    more : (b : Bool) → (m.present q ≡ true) ⊎ (list_any (changes_disk q) steps ≡ true) → (m.present q ≡ true) ⊎ ((b || list_any (changes_disk q) steps) ≡ true)
    more b w = ⊎_elim (λ a. inl a) (λ c. inr (or_right b (list_any (changes_disk q) steps) c)) w
present_before m q (PlugDisk p id size disk ∷ steps) is = ⊎_elim
    (λ (same : p.0 ≡ q.0). inr (or_left (p.0 == q.0) (list_any (changes_disk q) steps) (eq-eqb p.0 q.0 same)))
    (λ (ne : p.0 ≢ q.0). more (p.0 == q.0) (present_before m q steps (other ne)))
    (cases_eq p.0 q.0)
  where
    other : p.0 ≢ q.0 → (after m steps).present q ≡ true
    other ne = subst (λ (b : Bool). (if b then true else (after m steps).present q) ≡ true) (ne_eqb q.0 p.0 (λ e. ne (sym e))) is

    more : (b : Bool) → (m.present q ≡ true) ⊎ (list_any (changes_disk q) steps ≡ true) → (m.present q ≡ true) ⊎ ((b || list_any (changes_disk q) steps) ≡ true)
    more b w = ⊎_elim (λ a. inl a) (λ c. inr (or_right b (list_any (changes_disk q) steps) c)) w
present_before m q (step ∷ steps) is = present_before m q steps is

-- ---- ports that had their turns

-- Steps of a call in which ports below this number had their turns: the server's are of requests of those, so that each request of another port is as
-- it was when the call began; and each that is unanswered was so then.
pub record AreTurns (old : AbstractState) (n : ℕ) (steps : List Step) : Type 0 where
  pub may : AllEnabled old.machine steps
  pub last : IssueIsLastOfRequest steps
  pub below : All (IsByDeviceOrOnSuchPort (λ q. q.0 < n)) steps
  pub issued : (id : RequestId) → IsIssuedIn id steps → (e : Pending) × Contains old.machine.book e × (e.request.id.0 ≡ id.0) × (e.request.port.0 < n)
  pub from : (z : Pending) → Contains (after old.machine steps).book z → StandsIn old.machine.book z
  pub further : (e : Pending) → Contains old.machine.book e → n ≤ e.request.port.0 → (x : Pending) × Contains (after old.machine steps).book x × IsSame e x
  pub origin : (x : Pending) → Contains (after old.machine steps).book x → n ≤ x.request.port.0 → (e : Pending) × Contains old.machine.book e × IsSame e x

module _ (laws : PrerequisiteLaws) (old : AbstractState) (reached : IsReachable old.machine) where
  pub no_turns : AreTurns old 0 []
  no_turns = record {
    may = tt;
    last = tt;
    below = All-nil (IsByDeviceOrOnSuchPort (λ q. q.0 < 0));
    issued = λ id h. absurd (false≢true h);
    from = λ z here. record { was = z; here = here; request = refl };
    further = λ e h low. (e, h, same_as e);
    origin = λ e h low. (e, h, same_as e);
  }

  -- one more port may have had its turn
  pub turns_more : (n more : ℕ) (steps : List Step) → n ≤ more → AreTurns old n steps → AreTurns old more steps
  turns_more n more steps le x = record {
    may = x.may;
    last = x.last;
    below = all_of_ports (λ q. q.0 < n) (λ q. q.0 < more) (λ q small. omega (arith, le, small)) steps x.below;
    issued = λ id i. let w = x.issued id i in let small = w.3 in (w.0, w.1, w.2, omega (arith, le, small));
    from = x.from;
    further = λ e h far. x.further e h (omega (arith, le, far));
    origin = λ e h far. x.origin e h (omega (arith, le, far));
  }

  module _ (n : ℕ) (base late : List Step) (x : AreTurns old n base) (own : All (IsTurnOrDeviceStep (port_at n)) late) (may : AllEnabled (after old.machine base) late) (last : IssueIsLastOfRequest late) where
    m_reached : IsReachable (after old.machine base)
    m_reached = laws.steps_and_accesses.reachable_stays_reachable old.machine base reached x.may

    one_of : (e y : Pending) → Contains old.machine.book e → Contains old.machine.book y → e.request.id.0 ≡ y.request.id.0 → e ≡ y
    one_of e y here there same = laws.steps_and_accesses.an_id_is_one_request old.machine reached e y here there same

    -- what the turn handles wasn't issued before
    fresh : (e : Pending) → Contains (after old.machine base).book e → e.request.port ≡ port_at n → (id : RequestId) → e.request.id.0 ≡ id.0 → IsIssuedIn id base → ⊥
    fresh e here its id same i =
        let w = x.issued id i in
        let b = x.from e here in
        let it : w.0 ≡ b.was = one_of w.0 b.was w.1 b.here (w.2 ∙ sym same ∙ ap (λ r. r.id.0) (sym b.request)) in
        let small = w.3 in
        let is : w.0.request.port.0 ≡ n = ap (λ (y : Pending). y.request.port.0) it ∙ ap (λ r. r.port.0) b.request ∙ ap (λ (q : Port). q.0) its in
        absurd (omega (arith, small, is))

    last_join : (steps : List Step) → All (IsTurnOrDeviceStep (port_at n)) steps → AllEnabled (after old.machine base) steps → IssueIsLastOfRequest steps → IssueIsLastOfRequest (steps ++ base)
    last_join [] all its_may l = x.last
    last_join (step ∷ steps) all its_may l = (
      last_join steps (All-tail (IsTurnOrDeviceStep (port_at n)) step steps all) its_may.0 l.0,
      λ id h i. ⊎_elim
          (λ late_one. l.1 id h late_one)
          (λ early. let o = handled_own laws (port_at n) (after old.machine base) step steps all its_may id h in fresh o.pending o.here o.port_is id o.id_is early)
          (issued_parts id steps base i),
    )

    whole_is : after old.machine (late ++ base) ≡ after (after old.machine base) late
    whole_is = laws.steps_and_accesses.after_joins old.machine late base

    in_whole : (z : Pending) → Contains (after old.machine (late ++ base)).book z → Contains (after (after old.machine base) late).book z
    in_whole z here = subst (λ (k : Machine). Contains k.book z) whole_is here

    not_own : (r : Port) → n + 1 ≤ r.0 → r ≢ port_at n
    not_own r far same = let is : r.0 ≡ n = ap (λ (q : Port). q.0) same in absurd (omega (arith, far, is))

    pub turn_on : AreTurns old (n + 1) (late ++ base)
    turn_on = record {
      may = laws.steps_and_accesses.enabled_lists_join old.machine late base x.may may;
      last = last_join late own may last;
      below = All-append (IsByDeviceOrOnSuchPort (λ q. q.0 < n + 1)) late base
          (all_of_ports (λ q. q ≡ port_at n) (λ q. q.0 < n + 1) (λ q is. let same : q.0 ≡ n = ap (λ (r : Port). r.0) is in omega (arith, same)) late own)
          (all_of_ports (λ q. q.0 < n) (λ q. q.0 < n + 1) (λ q small. omega (arith, small)) base x.below);
      issued = λ id i. ⊎_elim
          (λ its.
          let o = issued_before laws (port_at n) (after old.machine base) late own may id its in
          let b = x.from o.pending o.here in
          let is : b.was.request.port.0 ≡ n = ap (λ r. r.port.0) b.request ∙ ap (λ (q : Port). q.0) o.port_is in
          (b.was, b.here, ap (λ r. r.id.0) b.request ∙ o.id_is, omega (arith, is)))
          (λ early. let w = x.issued id early in let small = w.3 in (w.0, w.1, w.2, omega (arith, small)))
          (issued_parts id late base i);
      from = λ z here.
          let b = stood laws (port_at n) (after old.machine base) late own z (in_whole z here) in
          let c = x.from b.was b.here in
          record { was = c.was; here = c.here; request = c.request ∙ b.request };
      further = λ e here far.
          let w = x.further e here (omega (arith, far)) in
          let l = others_left laws (port_at n) (after old.machine base) m_reached late own may w.0 w.1 (λ same. not_own e.request.port far (sym (ap (λ r. r.port) w.2.request) ∙ same)) in
          (l.0, subst (λ (k : Machine). Contains k.book l.0) (sym whole_is) l.1, same_more e w.0 l.0 w.2 l.2);
      origin = λ z here far.
          let b = others_were laws (port_at n) (after old.machine base) m_reached late own may z (in_whole z here) (not_own z.request.port far) in
          let c = x.origin b.0 b.1 (subst (λ (q : ℕ). n ≤ q) (ap (λ r. r.port.0) b.2.request) (omega (arith, far))) in
          (c.0, c.1, same_more c.0 b.0 z c.2 b.2);
    }

    -- who is left of what was answered before, or stays, stays answered so
    pub unplugs_join : UnpluggedOutcomeEmptiesPort base (after old.machine base) → UnpluggedOutcomeEmptiesPort late (after (after old.machine base) late) → UnpluggedOutcomeEmptiesPort (late ++ base) (after old.machine (late ++ base))
    unplugs_join early its = record {
      none_is_left = λ e other here there. ⊎_elim
          (λ i. its.none_is_left e other i (in_whole other there))
          (λ i same.
          let b = stood laws (port_at n) (after old.machine base) late own other (in_whole other there) in
          early.none_is_left e b.was i b.here (ap (λ r. r.port) b.request ∙ same))
          (Contains-append_cases late base (Answer e Unplugged) here);
      none_is_told_dead = λ e other here there same. ⊎_elim
          (λ i. ⊎_elim
          (λ j. its.none_is_told_dead e other i j same)
          (λ j. crossed e.request.port other.request.port (answered_of (λ q. q ≡ port_at n) late own e Unplugged i) (answered_of (λ q. q.0 < n) base x.below other PortDead j) same)
          (Contains-append_cases late base (Answer other PortDead) there))
          (λ i. ⊎_elim
          (λ j. crossed other.request.port e.request.port (answered_of (λ q. q ≡ port_at n) late own other PortDead j) (answered_of (λ q. q.0 < n) base x.below e Unplugged i) (sym same))
          (λ j. early.none_is_told_dead e other i j same)
          (Contains-append_cases late base (Answer other PortDead) there))
          (Contains-append_cases late base (Answer e Unplugged) here);
    }
      where
        crossed : (a b : Port) → a ≡ port_at n → b.0 < n → b ≡ a → ⊥
        crossed a b is small same = let q : b.0 ≡ n = ap (λ (r : Port). r.0) (same ∙ is) in absurd (omega (arith, small, q))
