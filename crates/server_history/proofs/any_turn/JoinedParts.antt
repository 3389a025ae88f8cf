-- Answers and evidence of two parts of a call, joined.
use Rattle.std.proofs.Common.{ℕ, ◌+◌, ◌<◌, map, get_or, ◌⊎◌, suc, ◌≡◌, ◌≢◌, not, List, [], ◌∷◌, ◌++◌, refl, sym, ap, ◌∙◌, subst, inl, inr, ⊎_elim, arith, append_assoc, append-nil}
use Rattle.std.specs.List.{All, AllPairs, Contains}
use Rattle.std.specs.Prelude.{◌↔◌}
use Rattle.std.proofs.lemmas.List.Elements.{All-append, All-cons, All-contains, All-contains_itself, All-weaker, Contains-append_cases, Contains-append_left, Contains-append_right}
use Rattle.std.proofs.lemmas.List.{map-append}
use Rattle.std.proofs.lemmas.List.Quantifiers.{all_pairs_push}
use Rattle.std.proofs.lemmas.List.Sorted.{Contains-permutation, IsPermutation-append, IsPermutation-append_comm, IsPermutation-trans}
use Rattle.std.specs.List.Sorted.{IsPermutation}
use Rattle.ata_types.specs.declared.Port.{Port}
use Rattle.ata_types.specs.declared.PortState.{PortState}
use Rattle.ata_types.specs.declared.PortState.TheVariants.{Absent, Dead, Foreign, Ready as ReadyState, Unfit}
use Rattle.ata_types.specs.declared.request.Outcome.{Outcome}
use Rattle.ata_types.specs.declared.request.Outcome.TheVariants.{Aborted, DeviceError, Ok, PortDead, Revoked, Unplugged}
use Rattle.ata_types.specs.declared.request.Reply.{Reply}
use Rattle.refinement.specs.Relation.{port_at}
use Rattle.block_machine.specs.Events.{IsLawfulAnswer, IsLowerByPortThenId, AbstractState, RepliesMatch, IsIssuedInBook, answers_of, reply_of}
use Rattle.block_machine.specs.Ports.{Evidence, RequestFault, MayBecomeInService, Ports, SameSerialAndSize, SamePort}
use Rattle.block_machine.specs.State.{Pending}
use Rattle.block_machine.specs.Steps.{Step, Answer}
use Rattle.host_boot.specs.TakeOver.{probe_result_of}
use Rattle.host_boot.specs.declared.ProbeResult.{ProbeResult}
use Rattle.driver_history.specs.PortTurn.{EvidenceAgreesOn}
use Rattle.server_history.specs.Turns.{PortListsNameOnly}
use Rattle.server_history.specs.ServerState.{ServerState, last_disk_in, last_disk_of, is_served, mode_in, ports_of, remembered_at, last_sectors_of, last_serial_of, state_of, zeroes_after_trim_of}
use Rattle.server_history.proofs.state.FirstMembers.{nowhere}

-- ---- answers of lists of steps

pub first_or_later : {X : Type 0} (y : X) (ys : List X) (x : X) → Contains (y ∷ ys) x → (x ≡ y) ⊎ Contains ys x
first_or_later {X} y ys x here =
    let Either : X → Type 0 = λ z. (z ≡ y) ⊎ Contains ys z in
    All-contains Either (y ∷ ys) x (All-cons Either y ys (inl refl) (All-weaker (Contains ys) Either (λ z there. inr there) ys (All-contains_itself ys))) here

pub answers_append : (late early : List Step) → answers_of (late ++ early) ≡ answers_of late ++ answers_of early
answers_append [] early = refl
answers_append (Answer e o ∷ late) early = ap (λ (list : List (Pending × Outcome)). (e, o) ∷ list) (answers_append late early)
answers_append (step ∷ late) early = answers_append late early

pub answers_there : (steps : List Step) (a : Pending × Outcome) → Contains (answers_of steps) a → Contains steps (Answer a.0 a.1)
answers_there [] a here = absurd (nowhere a here)
answers_there (Answer e o ∷ steps) a here = ⊎_elim
    (λ (is : a ≡ (e, o)). Contains-append_left (Answer e o ∷ []) steps (Answer a.0 a.1) (0, omega arith, ap (λ (b : Pending × Outcome). Answer b.0 b.1) (sym is)))
    (λ there. Contains-append_right (Answer e o ∷ []) steps (Answer a.0 a.1) (answers_there steps a there))
    (first_or_later (e, o) (answers_of steps) a here)
answers_there (step ∷ steps) a here = Contains-append_right (step ∷ []) steps (Answer a.0 a.1) (answers_there steps a here)

pub all_pairs_append : {X : Type 0} (R : X → X → Type 0) (xs ys : List X) → AllPairs R xs → AllPairs R ys → ((a b : X) → Contains xs a → Contains ys b → R a b) → AllPairs R (xs ++ ys)
all_pairs_append {X} R xs [] one other crossed = subst (AllPairs R) (sym (append-nil xs)) one
all_pairs_append {X} R xs (y ∷ ys) one other crossed = subst (AllPairs R) (append_assoc xs (y ∷ []) ys)
    (all_pairs_append R (xs ++ y ∷ []) ys
    (all_pairs_push R xs y one (λ k d small. crossed (get_or xs k d) y (All-contains_itself xs k d small) (0, omega arith, refl)))
    (λ i j d lt below. other (suc i) (suc j) d (omega (arith, lt)) (omega (arith, below)))
    (λ a b here there. ⊎_elim
    (λ its. crossed a b its (Contains-append_right (y ∷ []) ys b there))
    (λ last. ⊎_elim
    (λ (is : a ≡ y). let lt = there.1 in subst (λ (z : X). R z b) (sym is) (subst (R y) there.2 (other 0 (suc there.0) b (omega arith) (omega (arith, lt)))))
    (λ none. absurd (nowhere a none))
    (first_or_later y [] a last))
    (Contains-append_cases xs (y ∷ []) a here)))

-- The replies are those of the steps' answers, which are of ports below this number, by port, and then by id.
pub record AreToldBelow (n : ℕ) (steps : List Step) (replies : List Reply) : Type 0 where
  pub answers : List (Pending × Outcome)
  pub permuted : IsPermutation answers (answers_of steps)
  pub ordered : AllPairs IsLowerByPortThenId answers
  pub low : All (λ a. a.0.request.port.0 < n) answers
  pub told : replies ≡ map reply_of answers

-- and then the next port's answers are told
pub told_then : (n : ℕ) (early late : List Step) (before its : List Reply) → AreToldBelow n early before → RepliesMatch late its → ((e : Pending) (o : Outcome) → Contains late (Answer e o) → e.request.port ≡ port_at n)
    → AreToldBelow (n + 1) (late ++ early) (before ++ its)
told_then n early late before its p x own = record {
  answers = p.answers ++ x.answers;
  permuted = subst (IsPermutation (p.answers ++ x.answers)) (sym (answers_append late early))
      (IsPermutation-trans (p.answers ++ x.answers) (answers_of early ++ answers_of late) (answers_of late ++ answers_of early)
      (IsPermutation-append p.answers (answers_of early) x.answers (answers_of late) p.permuted x.is_permutation)
      (IsPermutation-append_comm (answers_of early) (answers_of late)));
  ordered = all_pairs_append IsLowerByPortThenId p.answers x.answers p.ordered x.ordered (λ a b here there.
      let lt = All-contains (λ (y : Pending × Outcome). y.0.request.port.0 < n) p.answers a p.low here in
      let is : b.0.request.port.0 ≡ n = ap (λ (q : Port). q.0) (its_port b there) in
      inl (omega (arith, lt, is)));
  low = All-append (λ a. a.0.request.port.0 < n + 1) p.answers x.answers
      (All-weaker (λ a. a.0.request.port.0 < n) (λ a. a.0.request.port.0 < n + 1) (λ a lt. omega (arith, lt)) p.answers p.low)
      (All-weaker (Contains x.answers) (λ a. a.0.request.port.0 < n + 1) (λ a here. let is : a.0.request.port.0 ≡ n = ap (λ (q : Port). q.0) (its_port a here) in omega (arith, is)) x.answers
      (All-contains_itself x.answers));
  told = ap (λ (list : List Reply). list ++ its) p.told ∙ ap (λ (list : List Reply). map reply_of p.answers ++ list) x.replies_are_of_answers ∙ sym (map-append reply_of p.answers x.answers);
}
  where
    its_port : (a : Pending × Outcome) → Contains x.answers a → a.0.request.port ≡ port_at n
    its_port a here = own a.0 a.1 (answers_there late a (Contains-permutation x.answers (answers_of late) a x.is_permutation here))

-- ---- evidence

-- what both name
abbrev pub joined : Evidence → Evidence → Evidence
joined one other = record {
  faults = one.faults ++ other.faults;
  lost = one.lost ++ other.lost;
  link_changed = one.link_changed ++ other.link_changed;
  showing_error = one.showing_error ++ other.showing_error;
  showing_fatal_error = one.showing_fatal_error ++ other.showing_fatal_error;
  stopped = one.stopped ++ other.stopped;
  stuck = one.stuck ++ other.stuck;
}

-- the evidence names such ports alone
pub record NamesSome (Such : Port → Type 0) (evidence : Evidence) : Type 0 where
  pub lost : All Such evidence.lost
  pub gone : All Such evidence.link_changed
  pub failed : All Such evidence.showing_error
  pub fatal : All Such evidence.showing_fatal_error
  pub stopped : All Such evidence.stopped
  pub stuck : All Such evidence.stuck

pub names_more : (One Other : Port → Type 0) → ((q : Port) → One q → Other q) → (evidence : Evidence) → NamesSome One evidence → NamesSome Other evidence
names_more One Other each evidence n = record {
  lost = All-weaker One Other each evidence.lost n.lost;
  gone = All-weaker One Other each evidence.link_changed n.gone;
  failed = All-weaker One Other each evidence.showing_error n.failed;
  fatal = All-weaker One Other each evidence.showing_fatal_error n.fatal;
  stopped = All-weaker One Other each evidence.stopped n.stopped;
  stuck = All-weaker One Other each evidence.stuck n.stuck;
}

pub names_only : (port : Port) (evidence : Evidence) → PortListsNameOnly port evidence → NamesSome (λ q. q ≡ port) evidence
names_only port evidence n = record { lost = n.lost; gone = n.link_changed; failed = n.showing_error; fatal = n.showing_fatal_error; stopped = n.stopped; stuck = n.stuck }

pub names_joined : (Such : Port → Type 0) (one other : Evidence) → NamesSome Such one → NamesSome Such other → NamesSome Such (joined one other)
names_joined Such one other a b = record {
  lost = All-append Such one.lost other.lost a.lost b.lost;
  gone = All-append Such one.link_changed other.link_changed a.gone b.gone;
  failed = All-append Such one.showing_error other.showing_error a.failed b.failed;
  fatal = All-append Such one.showing_fatal_error other.showing_fatal_error a.fatal b.fatal;
  stopped = All-append Such one.stopped other.stopped a.stopped b.stopped;
  stuck = All-append Such one.stuck other.stuck a.stuck b.stuck;
}

-- lists of which the other doesn't name the port
pub list_alike : (port : Port) (one other : List Port) → (Contains other port → ⊥) → Contains one port ↔ Contains (one ++ other) port
list_alike port one other none = (
  (λ here. Contains-append_left one other port here),
  (λ here. ⊎_elim (λ a. a) (λ b. absurd (none b)) (Contains-append_cases one other port here)),
)

pub list_alike_right : (port : Port) (one other : List Port) → (Contains one port → ⊥) → Contains other port ↔ Contains (one ++ other) port
list_alike_right port one other none = (
  (λ here. Contains-append_right one other port here),
  (λ here. ⊎_elim (λ a. absurd (none a)) (λ b. b) (Contains-append_cases one other port here)),
)

pub alike_first : (Such : Port → Type 0) (port : Port) → (Such port → ⊥) → (one other : Evidence) → NamesSome Such other → EvidenceAgreesOn port one (joined one other)
alike_first Such port not one other n = record {
  lost = list_alike port one.lost other.lost (λ here. not (All-contains Such other.lost port n.lost here));
  link_changed = list_alike port one.link_changed other.link_changed (λ here. not (All-contains Such other.link_changed port n.gone here));
  showing_error = list_alike port one.showing_error other.showing_error (λ here. not (All-contains Such other.showing_error port n.failed here));
  showing_fatal_error = list_alike port one.showing_fatal_error other.showing_fatal_error (λ here. not (All-contains Such other.showing_fatal_error port n.fatal here));
  stopped = list_alike port one.stopped other.stopped (λ here. not (All-contains Such other.stopped port n.stopped here));
  stuck = list_alike port one.stuck other.stuck (λ here. not (All-contains Such other.stuck port n.stuck here));
}

pub alike_then : (Such : Port → Type 0) (port : Port) → (Such port → ⊥) → (one other : Evidence) → NamesSome Such one → EvidenceAgreesOn port other (joined one other)
alike_then Such port not one other n = record {
  lost = list_alike_right port one.lost other.lost (λ here. not (All-contains Such one.lost port n.lost here));
  link_changed = list_alike_right port one.link_changed other.link_changed (λ here. not (All-contains Such one.link_changed port n.gone here));
  showing_error = list_alike_right port one.showing_error other.showing_error (λ here. not (All-contains Such one.showing_error port n.failed here));
  showing_fatal_error = list_alike_right port one.showing_fatal_error other.showing_fatal_error (λ here. not (All-contains Such one.showing_fatal_error port n.fatal here));
  stopped = list_alike_right port one.stopped other.stopped (λ here. not (All-contains Such one.stopped port n.stopped here));
  stuck = list_alike_right port one.stuck other.stuck (λ here. not (All-contains Such one.stuck port n.stuck here));
}

-- answers are lawful in a call with more evidence, where so much of ports and of the call's beginning is as in the part
pub lawful_lift : (old new : AbstractState) (evidence other : Evidence) (ports later : Ports) (e : Pending) (o : Outcome)
    → (IsIssuedInBook old.machine e.request.id → IsIssuedInBook new.machine e.request.id) → ((told : RequestFault) → Contains evidence.faults told → Contains other.faults told)
    → (Contains evidence.lost e.request.port → Contains other.lost e.request.port) → (Contains evidence.stopped e.request.port → Contains other.stopped e.request.port)
    → later.state e.request.port ≡ ports.state e.request.port → (SameSerialAndSize old.ports ports e.request.port → SameSerialAndSize new.ports later e.request.port)
    → IsLawfulAnswer old evidence ports e o → IsLawfulAnswer new other later e o
lawful_lift old new evidence other ports later e Ok was faults lost stopped state disk l = (was l.0, l.1, l.2, l.3)
lawful_lift old new evidence other ports later e (DeviceError status error) was faults lost stopped state disk l = (was l.0, l.1, faults _ l.2, stopped l.3)
lawful_lift old new evidence other ports later e Aborted was faults lost stopped state disk l = (was l.0, l.1, (state ∙ l.2.0, stopped l.2.1, disk l.2.2))
lawful_lift old new evidence other ports later e Unplugged was faults lost stopped state disk l = (lost l.0, stopped l.1)
lawful_lift old new evidence other ports later e PortDead was faults lost stopped state disk l = state ∙ l
lawful_lift old new evidence other ports later e Revoked was faults lost stopped state disk (inl waits) = inl waits
lawful_lift old new evidence other ports later e Revoked was faults lost stopped state disk (inr again) = inr (state ∙ again.0, stopped again.1, disk again.2)

-- ---- ports that are what they were

-- all that clients see of the port is as it was
pub same_at : (one other : ServerState) (q : Port) → probe_result_of other.probe_results q.0 ≡ probe_result_of one.probe_results q.0 → remembered_at other.remembered q.0 ≡ remembered_at one.remembered q.0 → mode_in other q ≡ mode_in one q
    → SamePort (ports_of one) (ports_of other) q
same_at one other q found remembered mode =
    let disk : last_disk_in other q ≡ last_disk_in one q = ap (λ (f : ProbeResult). last_disk_of f (remembered_at other.remembered q.0)) found ∙ ap (last_disk_of (probe_result_of one.probe_results q.0)) remembered in
    (ap is_served found, ap state_of found, ap last_serial_of disk, ap last_sectors_of disk, ap zeroes_after_trim_of found, mode)

pub same_then : (a b c : Ports) (q : Port) → SamePort a b q → SamePort b c q → SamePort a c q
same_then a b c q x y = (y.0 ∙ x.0, y.1 ∙ x.1, y.2 ∙ x.2, y.3 ∙ x.3, y.4 ∙ x.4, y.5 ∙ x.5)

pub same_disk : (a b c d : Ports) (q : Port) → SamePort a b q → SamePort c d q → SameSerialAndSize b c q → SameSerialAndSize a d q
same_disk a b c d q x y z = (y.2 ∙ z.0 ∙ x.2, y.3 ∙ z.1 ∙ x.3)

-- what a service made of the port it made of it too where the port was the same before and is the same after, and the evidence names it alike
pub serviced_lift : (a b c d : Ports) (one other : Evidence) (q : Port) → SamePort a b q → SamePort c d q → EvidenceAgreesOn q one other → MayBecomeInService b one c q → MayBecomeInService a other d q
serviced_lift a b c d one other q x y alike i = (
  (λ dead. same_then a c d q (same_then a b c q x (i.0 (x.1 ∙ dead))) y),
  (λ lives. let w = i.1 (λ dead. lives (sym x.1 ∙ dead)) in (
    record {
      served_is_unchanged = y.0 ∙ w.0.served_is_unchanged ∙ x.0;
      dead_exactly_if_stuck = (λ dead. alike.stuck.0 (w.0.dead_exactly_if_stuck.0 (sym y.1 ∙ dead)), λ named. y.1 ∙ w.0.dead_exactly_if_stuck.1 (alike.stuck.1 named));
      disk_is_remembered_unless_ready = λ unready. same_disk a b c d q x y (w.0.disk_is_remembered_unless_ready (λ ready. unready (y.1 ∙ ready)));
    },
    ⊎_elim (λ same. inl (same_then a c d q (same_then a b c q x same) y)) (λ int. inr (⊎_elim (λ s. inl (alike.stopped.0 s)) (λ t. inr (alike.stuck.0 t)) int)) w.1,
  )),
)

pub ready_or_not : (state : PortState) → (state ≡ ReadyState) ⊎ (state ≢ ReadyState)
ready_or_not ReadyState = inl refl
ready_or_not Absent = inr (λ is. let z : Absent ≡ ReadyState = is in absurd cc)
ready_or_not Foreign = inr (λ is. let z : Foreign ≡ ReadyState = is in absurd cc)
ready_or_not (Unfit cause) = inr (λ is. let z : Unfit cause ≡ ReadyState = is in absurd cc)
ready_or_not Dead = inr (λ is. let z : Dead ≡ ReadyState = is in absurd cc)

pub dead_or_not : (state : PortState) → (state ≡ Dead) ⊎ (state ≢ Dead)
dead_or_not Dead = inl refl
dead_or_not Absent = inr (λ is. let z : Absent ≡ Dead = is in absurd cc)
dead_or_not Foreign = inr (λ is. let z : Foreign ≡ Dead = is in absurd cc)
dead_or_not (Unfit cause) = inr (λ is. let z : Unfit cause ≡ Dead = is in absurd cc)
dead_or_not ReadyState = inr (λ is. let z : ReadyState ≡ Dead = is in absurd cc)
