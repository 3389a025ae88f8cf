-- Between any two calls of a run, a request that waits has its grant: a call that takes the grant back answers it, and it waits again only under its grant.
use Rattle.std.proofs.Common.{◌≡◌, ◌≢◌, ◌⊎◌, ℕ, Bool, true, false, cond, not, ◌&&◌, ◌==◌, List, [], ◌∷◌, map, None, Some, inl, inr, ⊎_elim, refl, sym, ap, ◌∙◌, subst, suc, eqb-true}
use Rattle.std.proofs.lemmas.Bool.{and_parts, false≢true, true≢false}
use Rattle.std.specs.List.{Contains, filter}
use Rattle.ata_types.specs.declared.Port.{Port}
use Rattle.ata_types.specs.declared.grant.GrantRow.{GrantRow}
use Rattle.ata_types.specs.declared.request.ClientId.{ClientId}
use Rattle.ata_types.specs.declared.request.Outcome.{Outcome}
use Rattle.ata_types.specs.declared.request.Outcome.TheVariants.{Revoked}
use Rattle.ata_types.specs.declared.request.RequestId.{RequestId}
use Rattle.block_machine.specs.Ports.{Evidence, Ports}
use Rattle.block_machine.specs.Rules.{HasRow, IsSameGrantName, is_same_grant_name}
use Rattle.block_machine.specs.State.{Accepted, Pending, Machine}
use Rattle.block_machine.specs.Steps.{Step, Accept, Issue, Touch, End, Age, WaitAgain, Answer, Revoke, HasGrant, IsEnabled, IsIssuedOrKept, after_step, update_pending, newly_issued, touch, mark_ended, requeued, aged_pending, newly_accepted}
use Rattle.block_machine.specs.Expected.{after}
use Rattle.block_machine.specs.Events.{AbstractState, AbstractCall, RevokeOf, AbstractCallResult, WasRevoked, CallRecord, AllEnabled, AreStepsOfCall, ResultMatchesSteps, IsByDevice, IsRun, IsByServer, abstract_after_all, steps_of}
use Rattle.block_machine.proofs.Accepts.{law_accepted_is_granted}
use Rattle.block_machine.proofs.EventLemmas.{moment_is, run_steps_are_enabled, run_starts}
use Rattle.block_machine.proofs.Keeps.{keeps, older_issued}
use Rattle.block_machine.proofs.Members.{append_in, at_cases, contains_cases, contains_here, contains_none, contains_there, map_in, without_in}
use Rattle.block_machine.proofs.Runs.{nobody, traced}
use Rattle.block_machine.proofs.Sound.{Sound}

-- ---- where one that waits comes from

-- the step has a request wait that didn't
abbrev IsNewer : Step → Type 0
IsNewer (Accept r) = Unit {0}
IsNewer (WaitAgain p) = Unit {0}
IsNewer _ = ⊥

-- it was in the book as it is, or has its grant
abbrev From : Machine → Step → Pending → Type 0
From m step e = Contains m.book e ⊎ (IsNewer step × HasGrant m e)

changed_or_was : (m : Machine) (step : Step) (id : RequestId) (f : Pending → Pending) (e : Pending) → Contains (map (update_pending id f) m.book) e
    → ((o : Pending) → Contains m.book o → o.request.id.0 ≡ id.0 → e ≡ f o → From m step e) → From m step e
changed_or_was m step id f e h changed =
    let r = map_in (update_pending id f) m.book e h in
    ⊎_elim (λ c. changed r.0 r.1 c.0 (r.2 ∙ c.1)) (λ c. inl (subst (λ (y : Pending). Contains m.book y) (sym (r.2 ∙ c.1)) r.1)) (at_cases id f r.0)

-- a request that moves is issued
is_issued : (m : Machine) → Sound m → (p o : Pending) → IsIssuedOrKept m p → Contains m.book o → o.request.id.0 ≡ p.request.id.0 → o.issued ≡ true
is_issued m s p o (inl moves) here same = ap (λ (y : Pending). y.issued) (s.one o p here moves.0 same) ∙ moves.1
is_issued m s p o (inr kept) here same = absurd (s.apart o p here kept same)

older_waits : (ready : Port → Bool) (o : Pending) → o.issued ≡ false → aged_pending ready o ≡ o
older_waits ready o waits = go o.issued (ready o.request.port) waits
  where
    go : (a b : Bool) → a ≡ false → cond (a && b) (record o { age = suc o.age }) o ≡ o
    go true b is = absurd (true≢false is)
    go false b is = refl

waits_from : (m : Machine) (step : Step) (e : Pending) → IsEnabled m step → Sound m → Contains (after_step m step).book e → e.issued ≡ false → From m step e
waits_from m (Accept r) e may s h waits = ⊎_elim
    (λ i. inl i)
    (λ (is : e ≡ newly_accepted r). let g = law_accepted_is_granted m r may in inr (tt, subst (λ (y : Pending). HasGrant m y) (sym is) (g.row, g.is_named.0, g.is_named.1)))
    (append_in m.book (newly_accepted r) e h)
waits_from m (Issue mode p) e may s h waits = changed_or_was m (Issue mode p) p.request.id newly_issued e h
    (λ o here same is. absurd (false≢true (sym waits ∙ ap (λ (y : Pending). y.issued) is)))
waits_from m (Touch p i block) e may s h waits = changed_or_was m (Touch p i block) p.request.id (touch i) e h
    (λ o here same is. absurd (false≢true (sym waits ∙ ap (λ (y : Pending). y.issued) is ∙ is_issued m s p o may.0 here same)))
waits_from m (End p) e may s h waits = changed_or_was m (End p) p.request.id mark_ended e h
    (λ o here same is. absurd (false≢true (sym waits ∙ ap (λ (y : Pending). y.issued) is ∙ is_issued m s p o may.0 here same)))
waits_from m (WaitAgain p) e may s h waits = changed_or_was m (WaitAgain p) p.request.id requeued e h
    (λ o here same is.
    let its : e.request ≡ p.request = ap (λ (y : Pending). y.request) is ∙ ap (λ (y : Pending). y.request) (s.one o p here may.0 same) in
    inr (tt, subst (λ (x : Accepted). HasRow x.asked.client x.asked.grant m.rows) (sym its) may.3))
waits_from m (Age ready) e may s h waits =
    let r = map_in (aged_pending ready) m.book e h in
    let waited : r.0.issued ≡ false = sym (older_issued ready r.0) ∙ ap (λ (y : Pending). y.issued) (sym r.2) ∙ waits in
    inl (subst (λ (y : Pending). Contains m.book y) (sym (r.2 ∙ older_waits ready r.0 waited)) r.1)
waits_from m (Answer p o) e may s h waits = inl (without_in p.request.id m.book e h).0
waits_from m _ e may s h waits = inl h

sound_after : (m : Machine) (steps : List Step) → Sound m → AllEnabled m steps → Sound (after m steps)
sound_after m [] s may = s
sound_after m (step ∷ before) s may = keeps (after m before) step may.1 (sound_after m before s may.0)

-- ---- calls that take no grant back

abbrev IsGrantedAll : Machine → Type 0
IsGrantedAll m = (e : Pending) → Contains m.book e → e.issued ≡ false → HasGrant m e

abbrev LeavesRows : Step → Type 0
LeavesRows (Revoke client number) = ⊥
LeavesRows _ = Unit {0}

abbrev AllLeaveRows : List Step → Type 0
AllLeaveRows [] = Unit {0}
AllLeaveRows (step ∷ before) = AllLeaveRows before × LeavesRows step

still_granted : (m : Machine) (step : Step) (e : Pending) → LeavesRows step → HasGrant m e → HasGrant (after_step m step) e
still_granted m (Revoke client number) e leaves has = absurd leaves
still_granted m _ e leaves has = has

granted_after : (m : Machine) (steps : List Step) → Sound m → AllEnabled m steps → AllLeaveRows steps → IsGrantedAll m → IsGrantedAll (after m steps)
granted_after m [] s may leave g e h waits = g e h waits
granted_after m (step ∷ before) s may leave g e h waits = ⊎_elim
    (λ i. still_granted (after m before) step e leave.1 (granted_after m before s may.0 leave.0 g e i waits))
    (λ n. still_granted (after m before) step e leave.1 n.1)
    (waits_from (after m before) step e may.1 (sound_after m before s may.0) h waits)

abbrev is_revocation : {D : Type 0} → AbstractCall D → Bool
is_revocation (RevokeOf client number) = true
is_revocation _ = false

devices_leave : (step : Step) → IsByDevice step → LeavesRows step
devices_leave (Revoke client number) h = absurd h
devices_leave _ h = tt

servers_leave : {D : Type 0} (ask : AbstractCall D) (ports : Ports) (step : Step) → is_revocation ask ≡ false → IsByServer ask ports step → LeavesRows step
servers_leave (RevokeOf client number) ports step other h = absurd (true≢false other)
servers_leave ask ports (Revoke client number) other h = absurd h
servers_leave ask ports _ other h = tt

all_leave : {D : Type 0} (ask : AbstractCall D) (ports : Ports) (steps : List Step) → is_revocation ask ≡ false → AreStepsOfCall ask ports steps → AllLeaveRows steps
all_leave ask ports [] other b = tt
all_leave ask ports (step ∷ before) other b = (all_leave ask ports before other b.0, ⊎_elim (devices_leave step) (servers_leave ask ports step other) b.1)

-- ---- a call that takes one back

module _ (D : Type 0) (client : ClientId) (number : ℕ) (ports : Ports) (m : Machine) (s : Sound m) where
  abbrev Its : List Step → Type 0
  Its steps = AreStepsOfCall {D = D} (RevokeOf client number) ports steps

  not_newer : (step : Step) → IsByDevice step ⊎ IsByServer {D = D} (RevokeOf client number) ports step → IsNewer step → ⊥
  not_newer (Accept r) (inl d) newer = d
  not_newer (Accept r) (inr h) newer = h
  not_newer (WaitAgain p) (inl d) newer = d
  not_newer (WaitAgain p) (inr h) newer = h
  not_newer _ b newer = newer

  waited_before : (step : Step) (before : List Step) → AllEnabled m (step ∷ before) → Its (step ∷ before) → (e : Pending) → Contains (after m (step ∷ before)).book e → e.issued ≡ false → Contains (after m before).book e
  waited_before step before may b e h waits = ⊎_elim
      (λ i. i)
      (λ n. absurd (not_newer step b.1 n.0))
      (waits_from (after m before) step e may.1 (sound_after m before s may.0) h waits)

  waited : (steps : List Step) → AllEnabled m steps → Its steps → (e : Pending) → Contains (after m steps).book e → e.issued ≡ false → Contains m.book e
  waited [] may b e h waits = h
  waited (step ∷ before) may b e h waits = waited before may.0 b.0 e (waited_before step before may b e h waits) waits

  -- one that is answered waits no more
  answered_gone : (steps : List Step) → AllEnabled m steps → Its steps → (p e : Pending) (o : Outcome) → Contains steps (Answer p o) → Contains (after m steps).book e → e.issued ≡ false → e.request.id.0 ≢ p.request.id.0
  answered_gone [] may b p e o here h waits = absurd (contains_none (Answer p o) here)
  answered_gone (step ∷ before) may b p e o here h waits = ⊎_elim
      (λ (same : Answer p o ≡ step).
      let h_then : Contains (after_step (after m before) (Answer p o)).book e = subst (λ (x : Step). Contains (after_step (after m before) x).book e) (sym same) h in
      (without_in p.request.id (after m before).book e h_then).1)
      (λ i. answered_gone before may.0 b.0 p e o i (waited_before step before may b e h waits) waits)
      (contains_cases step before (Answer p o) here)

-- who passes a test is there still
in_filter : {A : Type 0} (passes : A → Bool) (xs : List A) (x : A) → Contains xs x → passes x ≡ true → Contains (filter passes xs) x
in_filter passes [] x h is = absurd (contains_none x h)
in_filter {A} passes (y ∷ ys) x h is = ⊎_elim
    (λ (q : x ≡ y). kept (passes y) (ap passes (sym q) ∙ is) q)
    (λ i. more (passes y) (in_filter passes ys x i is))
    (contains_cases y ys x h)
  where
    kept : (b : Bool) → b ≡ true → x ≡ y → Contains (cond b (y ∷ filter passes ys) (filter passes ys)) x
    kept true t q = contains_here y (filter passes ys) x q
    kept false t q = absurd (false≢true t)

    more : (b : Bool) → Contains (filter passes ys) x → Contains (cond b (y ∷ filter passes ys) (filter passes ys)) x
    more true i = contains_there y (filter passes ys) x i
    more false i = i

-- ---- each call

granted_event : {D : Type 0} (ask : AbstractCall D) (said : AbstractCallResult) (old : AbstractState) (evidence : Evidence) (steps : List Step) (ports : Ports) → ResultMatchesSteps ask said old evidence steps (record { machine = after old.machine steps; ports = ports })
    → Sound old.machine → AllEnabled old.machine steps → AreStepsOfCall ask ports steps → IsGrantedAll old.machine → IsGrantedAll (after old.machine steps)
granted_event {D} (RevokeOf client number) (WasRevoked (Some replies)) old evidence steps ports a s may b g e h waits =
    let here = waited D client number ports old.machine s steps may b e h waits in
    let had = g e here waits in
    by had (is_same_grant_name client number had.0.client had.0.number) refl here
  where
    by : (had : HasGrant old.machine e) (under : Bool) → is_same_grant_name client number had.0.client had.0.number ≡ under → Contains old.machine.book e → HasGrant (after old.machine steps) e
    by had true is here =
        let parts = and_parts (had.0.client.0 == client.0) (had.0.number == number) is in
        let its_client : had.0.client ≡ client = ap (λ (n : ℕ). record { 0 = n }) (eqb-true had.0.client.0 client.0 parts.0) in
        let under : IsSameGrantName client number e.request.asked.client e.request.asked.grant = (sym had.2.0 ∙ its_client, sym had.2.1 ∙ eqb-true had.0.number number parts.1) in
        absurd (answered_gone D client number ports old.machine s steps may b e e Revoked ((a.waiting_are_revoked e).1 (here, waits, under)) h waits refl)
    by had false is here =
        (had.0, subst (λ (rows : List GrantRow). Contains rows had.0) (sym a.row_is_removed) (in_filter (λ (row : GrantRow). not (is_same_grant_name client number row.client row.number)) old.machine.rows had.0 had.1 (ap not is)), had.2)
granted_event (RevokeOf client number) (WasRevoked None) old evidence steps ports a s may b g e h waits = subst (λ (list : List Step). IsGrantedAll (after old.machine list)) (sym a.1) g e h waits
granted_event (RevokeOf client number) said old evidence steps ports a s may b g e h waits = absurd a
granted_event ask said old evidence steps ports a s may b g e h waits = granted_after old.machine steps s may (all_leave ask ports steps refl b) g e h waits

pub law_what_waits_has_its_grant : {D : Type 0} (first : AbstractState) (run : List (CallRecord D)) (e : Pending) → IsRun first run → Contains (abstract_after_all first run).machine.book e → e.issued ≡ false → HasGrant (abstract_after_all first run).machine e
law_what_waits_has_its_grant first [] e r h waits = absurd (nobody first.machine r.0 e (inl h))
law_what_waits_has_its_grant first (event ∷ past) e r h waits =
    let sound = subst Sound (sym (moment_is first past)) (traced first.machine (steps_of past) (run_starts first past r.0) (run_steps_are_enabled first past r.0)).sound in
    granted_event event.call event.result (abstract_after_all first past) event.evidence event.steps event.ports r.1.result_matches_steps sound r.1.steps_are_enabled r.1.steps_are_of_call (λ x i w. law_what_waits_has_its_grant first past x r.0 i w) e h waits
