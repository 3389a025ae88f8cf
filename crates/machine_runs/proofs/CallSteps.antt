-- What the steps of a call leave in the book: where each request comes from, and how old its issue is.
use Rattle.std.proofs.Common.{◌≡◌, ◌⊎◌, ℕ, ◌+◌, ◌≤◌, Bool, true, false, cond, ◌&&◌, List, [], ◌∷◌, suc, inl, inr, ⊎_elim, refl, sym, ap, ◌∙◌, subst, arith, eq-eqb, ne_eqb}
use Rattle.std.proofs.lemmas.Bool.{or_left, or_right, or_from, false≢true}
use Rattle.std.specs.List.{Contains, count_by, list_any}
use Rattle.ata_types.specs.declared.Port.{Port}
use Rattle.ata_types.specs.declared.grant.GrantRow.{GrantRow}
use Rattle.ata_types.specs.declared.request.Request.{Request}
use Rattle.block_machine.specs.Ports.{Ports}
use Rattle.block_machine.specs.State.{Accepted, Pending, Machine}
use Rattle.block_machine.specs.Steps.{Step, Accept, Issue, Touch, End, Age, WaitAgain, Answer, Release, Revoke, Unplug, PlugDisk, Store, Load, MayAccept, after_step, newly_issued, touch, mark_ended, requeued, aged_pending}
use Rattle.block_machine.specs.Expected.{after, IsAccept}
use Rattle.block_machine.specs.Events.{AbstractCall, Submit, StoreAt, LoadAt, Service, Tick, Reset, State, StepDevice, RevokeOf, AllEnabled, IsByDevice, IsByServer, AreStepsOfCall, accepts_of, issues_id, IsIssuedIn}
use Rattle.block_machine.proofs.Members.{contains_none, contains_here, contains_there, contains_cases, map_in, at_cases, without_in, append_in}
use Rattle.block_machine.proofs.Keeps.{older_keeps, older_issued}
use Rattle.block_machine.proofs.Counting.{count_cons}
use Rattle.block_machine.proofs.Configured.{rows_shrink}

-- the step is a tick of this port
abbrev pub ages_it : Port → Step → Bool
ages_it port (Age ready) = ready port
ages_it port _ = false

-- How an issued request got there: the step issued it, or it was issued before, and is a tick older at most.
abbrev pub IsIssuedBy : Step → Pending → Pending → Type 0
IsIssuedBy step old e = ((issues_id e.request.id step ≡ true) × (e.age ≡ 0))
    ⊎ ((issues_id e.request.id step ≡ false) × (old.issued ≡ true) × (e.age ≤ old.age + cond (ages_it e.request.port step) 1 0))

-- a request of the book was there before the step
pub record Came (m : Machine) (step : Step) (e : Pending) : Type 0 where
  pub old : Pending
  pub here : Contains m.book old
  pub same : old.request ≡ e.request
  pub issued : e.issued ≡ true → IsIssuedBy step old e

-- the step neither issues nor ages the request
stayed : (m : Machine) (step : Step) (e o : Pending) → Contains m.book o → o.request ≡ e.request → issues_id e.request.id step ≡ false → (e.issued ≡ true → (o.issued ≡ true) × (e.age ≡ o.age)) → Came m step e
stayed m step e o here same not f = record {
  old = o;
  here = here;
  same = same;
  issued = λ t. let q = f t in let age = q.1 in inr (not, q.0, omega (arith, age));
}

-- the same request, as it was
stayed_same : (m : Machine) (step : Step) (e o : Pending) → Contains m.book o → e ≡ o → issues_id e.request.id step ≡ false → Came m step e
stayed_same m step e o here same not = stayed m step e e (subst (λ (y : Pending). Contains m.book y) (sym same) here) refl not (λ t. (t, refl))

pending_request : {a b : Pending} → a ≡ b → b.request ≡ a.request
pending_request e = ap (λ (y : Pending). y.request) (sym e)

tick_older : (ready : Port → Bool) (o : Pending) → (aged_pending ready o).age ≤ o.age + cond (ready o.request.port) 1 0
tick_older ready o = go o.issued (ready o.request.port)
  where
    go : (a b : Bool) → (cond (a && b) (record o { age = suc o.age }) o).age ≤ o.age + cond b 1 0
    go true true = omega arith
    go true false = omega arith
    go false b = omega arith

pub came : (m : Machine) (step : Step) (e : Pending) → Contains (after_step m step).book e → Came m step e ⊎ (IsAccept step e.request × (e.issued ≡ false))
came m (Accept r) e h = ⊎_elim
    (λ o. inl (stayed_same m (Accept r) e e o refl refl))
    (λ p. inr (ap (λ (y : Pending). y.request) (sym p), ap (λ (y : Pending). y.issued) p))
    (append_in m.book _ e h)
came m (Issue mode p) e h =
    let r = map_in _ m.book e h in
    ⊎_elim
    (λ c. inl (record {
      old = r.0;
      here = r.1;
      same = pending_request (r.2 ∙ c.1);
      issued = λ _. inl (eq-eqb p.request.id.0 e.request.id.0 (sym c.0 ∙ ap (λ (x : Accepted). x.id.0) (pending_request (r.2 ∙ c.1))), ap (λ (y : Pending). y.age) (r.2 ∙ c.1));
    }))
    (λ c. inl (stayed_same m (Issue mode p) e r.0 r.1 (r.2 ∙ c.1)
    (ne_eqb p.request.id.0 e.request.id.0 (λ same. c.0 (ap (λ (y : Pending). y.request.id.0) (sym (r.2 ∙ c.1)) ∙ sym same)))))
    (at_cases p.request.id newly_issued r.0)
came m (Touch p i block) e h =
    let r = map_in _ m.book e h in
    ⊎_elim
    (λ c. inl (stayed m (Touch p i block) e r.0 r.1 (pending_request (r.2 ∙ c.1)) refl (λ t. (ap (λ (y : Pending). y.issued) (sym (r.2 ∙ c.1)) ∙ t, ap (λ (y : Pending). y.age) (r.2 ∙ c.1)))))
    (λ c. inl (stayed_same m (Touch p i block) e r.0 r.1 (r.2 ∙ c.1) refl))
    (at_cases p.request.id (touch i) r.0)
came m (End p) e h =
    let r = map_in _ m.book e h in
    ⊎_elim
    (λ c. inl (stayed m (End p) e r.0 r.1 (pending_request (r.2 ∙ c.1)) refl (λ t. (ap (λ (y : Pending). y.issued) (sym (r.2 ∙ c.1)) ∙ t, ap (λ (y : Pending). y.age) (r.2 ∙ c.1)))))
    (λ c. inl (stayed_same m (End p) e r.0 r.1 (r.2 ∙ c.1) refl))
    (at_cases p.request.id mark_ended r.0)
came m (WaitAgain p) e h =
    let r = map_in _ m.book e h in
    ⊎_elim
    (λ c. inl (stayed m (WaitAgain p) e r.0 r.1 (pending_request (r.2 ∙ c.1)) refl (λ t. absurd (false≢true (ap (λ (y : Pending). y.issued) (sym (r.2 ∙ c.1)) ∙ t)))))
    (λ c. inl (stayed_same m (WaitAgain p) e r.0 r.1 (r.2 ∙ c.1) refl))
    (at_cases p.request.id requeued r.0)
came m (Age ready) e h =
    let r = map_in _ m.book e h in
    let same : r.0.request ≡ e.request = sym (ap (λ (y : Pending). y.request) r.2 ∙ older_keeps ready r.0) in
    inl (record {
      old = r.0;
      here = r.1;
      same = same;
      issued = λ t. inr (
        refl,
        sym (older_issued ready r.0) ∙ ap (λ (y : Pending). y.issued) (sym r.2) ∙ t,
        subst (λ (x : Accepted). e.age ≤ r.0.age + cond (ready x.port) 1 0) same (subst (λ (y : Pending). y.age ≤ r.0.age + cond (ready r.0.request.port) 1 0) (sym r.2) (tick_older ready r.0)),
      );
    })
came m (Answer p o) e h = inl (stayed_same m (Answer p o) e e (without_in p.request.id m.book e h).0 refl refl)
came m (Revoke client number) e h = inl (stayed_same m (Revoke client number) e e h refl refl)
came m Release e h = inl (stayed_same m Release e e h refl refl)
came m (Unplug p) e h = inl (stayed_same m (Unplug p) e e h refl refl)
came m (PlugDisk p id size disk) e h = inl (stayed_same m (PlugDisk p id size disk) e e h refl refl)
came m (Store c f o b) e h = inl (stayed_same m (Store c f o b) e e h refl refl)
came m (Load c f o b) e h = inl (stayed_same m (Load c f o b) e e h refl refl)

-- Where the requests of the book come from, in the steps of a call.

-- an issue that these steps made, of the age that it has after their ticks
abbrev IsAnew : List Step → Pending → Type 0
IsAnew steps e = IsIssuedIn e.request.id steps × (e.age ≤ count_by (ages_it e.request.port) steps)

-- an issue from before these steps, older by their ticks
abbrev IsKept : List Step → Pending → Pending → Type 0
IsKept steps old e = (list_any (issues_id e.request.id) steps ≡ false) × (old.issued ≡ true) × (e.age ≤ old.age + count_by (ages_it e.request.port) steps)

-- a request of the book was there before the steps
pub record Since (m : Machine) (steps : List Step) (e : Pending) : Type 0 where
  pub old : Pending
  pub here : Contains m.book old
  pub same : old.request ≡ e.request
  pub issued : e.issued ≡ true → IsAnew steps e ⊎ IsKept steps old e

-- or they accepted it
abbrev pub IsAccepted : List Step → Pending → Type 0
IsAccepted steps e = Contains (accepts_of steps) e.request × (e.issued ≡ true → IsAnew steps e)

accepts_more : (step : Step) (before : List Step) (r : Accepted) → Contains (accepts_of before) r → Contains (accepts_of (step ∷ before)) r
accepts_more (Accept new) before r h = contains_there new (accepts_of before) r h
accepts_more _ before r h = h

accepts_now : (step : Step) (before : List Step) (r : Accepted) → IsAccept step r → Contains (accepts_of (step ∷ before)) r
accepts_now (Accept new) before r is = contains_here new (accepts_of before) r (sym is)
accepts_now _ before r is = absurd is

-- an issue before a step that leaves the request issued
anew_more : (step : Step) (before : List Step) (old e : Pending) → old.request ≡ e.request → IsIssuedBy step old e → (old.issued ≡ true → IsAnew before old) → IsAnew (step ∷ before) e
anew_more step before old e same (inl q) f = let zero = q.1 in (or_left _ _ q.0, omega (arith, zero))
anew_more step before old e same (inr q) f =
    let a = subst (λ (r : Accepted). IsIssuedIn r.id before × (old.age ≤ count_by (ages_it r.port) before)) same (f q.1) in
    let age = q.2 in
    let more = a.1 in
    (or_right _ _ a.0, omega (arith, age, more, count_cons (ages_it e.request.port) step before))

pub since : (m : Machine) (steps : List Step) (e : Pending) → Contains (after m steps).book e → Since m steps e ⊎ IsAccepted steps e
since m [] e h = inl (record { old = e; here = h; same = refl; issued = λ t. inr (refl, t, omega arith) })
since m (step ∷ before) e h = ⊎_elim
    (λ (c : Came (after m before) step e). ⊎_elim
    (λ (s : Since m before c.old). inl (record {
      old = s.old;
      here = s.here;
      same = s.same ∙ c.same;
      issued = λ t. ⊎_elim
          (λ now. let zero = now.1 in inl (or_left _ _ now.0, omega (arith, zero)))
          (λ was. ⊎_elim
          (λ anew. inl (anew_more step before c.old e c.same (inr was) (λ _. anew)))
          (λ kept.
          let k = subst (λ (r : Accepted). (list_any (issues_id r.id) before ≡ false) × (s.old.issued ≡ true) × (c.old.age ≤ s.old.age + count_by (ages_it r.port) before)) c.same kept in
          let age = was.2 in
          let more = k.2 in
          inr (or_from _ _ was.0 k.0, k.1, omega (arith, age, more, count_cons (ages_it e.request.port) step before)))
          (s.issued was.1))
          (c.issued t);
    }))
    (λ (a : IsAccepted before c.old). inr (
      accepts_more step before e.request (subst (λ (r : Accepted). Contains (accepts_of before) r) c.same a.0),
      λ t. anew_more step before c.old e c.same (c.issued t) a.1,
    ))
    (since m before c.old c.here))
    (λ n. inr (accepts_now step before e.request n.0, λ t. absurd (false≢true (sym n.1 ∙ t))))
    (came (after m before) step e h)

-- a request that the steps accept was new to a machine whose rows are all of the first
pub accepted_new : (m : Machine) (steps : List Step) (r : Accepted) → AllEnabled m steps → Contains (accepts_of steps) r → (n : Machine) × ((row : GrantRow) → Contains n.rows row → Contains m.rows row) × MayAccept n r
accepted_new m [] r may h = absurd (contains_none r h)
accepted_new m (Accept new ∷ before) r may h = ⊎_elim
    (λ p. (after m before, rows_shrink m before, subst (λ (x : Accepted). MayAccept (after m before) x) (sym p) may.1))
    (λ i. accepted_new m before r may.0 i)
    (contains_cases new (accepts_of before) r h)
accepted_new m (_ ∷ before) r may h = accepted_new m before r may.0 h

-- Which steps stand in which call.

abbrev pub is_submit : {D : Type 0} → AbstractCall D → Bool
is_submit (Submit r) = true
is_submit _ = false

abbrev pub is_tick : {D : Type 0} → AbstractCall D → Bool
is_tick Tick = true
is_tick _ = false

abbrev pub is_reset : {D : Type 0} → AbstractCall D → Bool
is_reset Reset = true
is_reset _ = false

-- accepting, ageing and releasing have a call each
abbrev pub Fits : {D : Type 0} → AbstractCall D → Step → Type 0
Fits ask (Accept r) = is_submit ask ≡ true
Fits ask (Age ready) = is_tick ask ≡ true
Fits ask Release = is_reset ask ≡ true
Fits ask _ = Unit {0}

devices_fit : {D : Type 0} (ask : AbstractCall D) (step : Step) → IsByDevice step → Fits ask step
devices_fit ask (Accept r) h = absurd h
devices_fit ask (Age ready) h = absurd h
devices_fit ask Release h = absurd h
devices_fit ask _ h = tt

servers_fit : {D : Type 0} (ask : AbstractCall D) (ports : Ports) (step : Step) → IsByServer ask ports step → Fits ask step
servers_fit (Submit q) ports (Accept r) h = refl
servers_fit (Submit q) ports (Age ready) h = absurd h
servers_fit (Submit q) ports Release h = absurd h
servers_fit Tick ports (Accept r) h = absurd h
servers_fit Tick ports (Age ready) h = refl
servers_fit Tick ports Release h = absurd h
servers_fit Reset ports (Accept r) h = absurd h
servers_fit Reset ports (Age ready) h = absurd h
servers_fit Reset ports Release h = refl
servers_fit Service ports (Accept r) h = absurd h
servers_fit Service ports (Age ready) h = absurd h
servers_fit Service ports Release h = absurd h
servers_fit (StoreAt c f o b) ports (Accept r) h = absurd h
servers_fit (StoreAt c f o b) ports (Age ready) h = absurd h
servers_fit (StoreAt c f o b) ports Release h = absurd h
servers_fit (LoadAt c f o n) ports (Accept r) h = absurd h
servers_fit (LoadAt c f o n) ports (Age ready) h = absurd h
servers_fit (LoadAt c f o n) ports Release h = absurd h
servers_fit (State p) ports (Accept r) h = absurd h
servers_fit (State p) ports (Age ready) h = absurd h
servers_fit (State p) ports Release h = absurd h
servers_fit (StepDevice d) ports (Accept r) h = absurd h
servers_fit (StepDevice d) ports (Age ready) h = absurd h
servers_fit (StepDevice d) ports Release h = absurd h
servers_fit (RevokeOf c n) ports (Accept r) h = absurd h
servers_fit (RevokeOf c n) ports (Age ready) h = absurd h
servers_fit (RevokeOf c n) ports Release h = absurd h
servers_fit ask ports _ h = tt

-- each step of a call fits it
abbrev pub AllFit : {D : Type 0} → AbstractCall D → List Step → Type 0
AllFit ask [] = Unit {0}
AllFit ask (step ∷ before) = AllFit ask before × Fits ask step

pub all_fit : {D : Type 0} (ask : AbstractCall D) (ports : Ports) (steps : List Step) → AreStepsOfCall ask ports steps → AllFit ask steps
all_fit ask ports [] b = tt
all_fit ask ports (step ∷ before) b = (all_fit ask ports before b.0, ⊎_elim (devices_fit ask step) (servers_fit ask ports step) b.1)

-- what a submit accepts is what it asked
pub accepted_asked : (D : Type 0) (q : Request) (ports : Ports) (steps : List Step) (r : Accepted) → AreStepsOfCall {D = D} (Submit q) ports steps → Contains (accepts_of steps) r → r.asked ≡ q
accepted_asked D q ports [] r b h = absurd (contains_none r h)
accepted_asked D q ports (Accept new ∷ before) r b h = ⊎_elim
    (λ p. ap (λ (x : Accepted). x.asked) p ∙ ⊎_elim (λ d. absurd d) (λ s. s) b.1)
    (λ i. accepted_asked D q ports before r b.0 i)
    (contains_cases new (accepts_of before) r h)
accepted_asked D q ports (_ ∷ before) r b h = accepted_asked D q ports before r b.0 h

-- no other call accepts
pub none_accepted : {D : Type 0} (ask : AbstractCall D) (steps : List Step) → is_submit ask ≡ false → AllFit ask steps → accepts_of steps ≡ []
none_accepted ask [] other f = refl
none_accepted ask (Accept r ∷ before) other f = absurd (false≢true (sym other ∙ f.1))
none_accepted ask (_ ∷ before) other f = none_accepted ask before other f.0

-- and none but a tick ages
pub none_aged : {D : Type 0} (ask : AbstractCall D) (port : Port) (steps : List Step) → is_tick ask ≡ false → AllFit ask steps → count_by (ages_it port) steps ≡ 0
none_aged ask port [] other f = refl
none_aged ask port (step ∷ before) other f =
    let rest = none_aged ask port before other f.0 in
    let own : ◌≡◌ {A = ℕ} (cond (ages_it port step) 1 0) 0 = ap (λ (b : Bool). cond {A = ℕ} b 1 0) (quiet step f.1) in
    omega (arith, rest, own, count_cons (ages_it port) step before)
  where
    quiet : (step : Step) → Fits ask step → ages_it port step ≡ false
    quiet (Age ready) h = absurd (false≢true (sym other ∙ h))
    quiet _ h = refl
