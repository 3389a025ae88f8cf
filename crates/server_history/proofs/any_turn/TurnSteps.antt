-- Steps of a port's turn: which requests they leave, which they issue, and what they leave of other ports.
use Rattle.std.proofs.Common.{ℕ, ◌+◌, eq-eqb, ◌≡◌, ◌≢◌, ◌==◌, Bool, true, false, cond, arith, List, [], ◌∷◌, map, refl, sym, ap, ◌∙◌, subst, ⊎_elim, eqb-true}
use Rattle.std.specs.List.{All, Contains, count_by, list_any}
use Rattle.std.proofs.lemmas.Bool.{false≢true, or_cases, or_parts}
use Rattle.std.proofs.lemmas.List.Elements.{All-head, All-tail}
use Rattle.std.proofs.lemmas.List.Sums.{sum_by-cons}
use Rattle.ata_types.specs.declared.Port.{Port}
use Rattle.ata_types.specs.declared.request.Outcome.{Outcome}
use Rattle.ata_types.specs.declared.request.RequestId.{RequestId}
use Rattle.refinement.specs.SparedBook.{KeepsLoansAndPendingsOnlyAdvance}
use Rattle.block_machine.specs.Events.{AllEnabled, IsByDevice, IsIssuedIn, issues_requeues_or_answers_id, issues_id}
use Rattle.block_machine.specs.Histories.{IsReachable}
use Rattle.block_machine.specs.Expected.{after}
use Rattle.block_machine.specs.State.{Machine, Pending}
use Rattle.block_machine.specs.Steps.{Step, WaitAgain, Answer, Issue, after_step, update_pending, newly_issued, requeued}
use Rattle.server_history.proofs.state.ListMembers.{at_cases, contains_cases, into_map, map_in, without_in, without_into}
use Rattle.server_history.specs.Turns.{IsTurnOrDeviceStep}
use Rattle.server_history.proofs.state.DeviceSteps.{not_handled}
use Rattle.server_history.specs.Prerequisites.{PrerequisiteLaws}
use Rattle.server_history.proofs.state.FirstMembers.{nowhere}

-- where no step passes a test, none is counted
pub counts_none : (p : Step → Bool) (steps : List Step) → list_any p steps ≡ false → count_by p steps ≡ 0
counts_none p [] none = refl
counts_none p (step ∷ steps) none =
    let parts = or_parts (p step) (list_any p steps) none in
    let rest = counts_none p steps parts.1 in
    let zero : ◌≡◌ {A = ℕ} (cond (p step) 1 0) 0 = ap (λ (b : Bool). cond {A = ℕ} b 1 0) parts.0 in
    let counted : count_by p (step ∷ steps) ≡ cond (p step) 1 0 + count_by p steps = sum_by-cons (λ (s : Step). cond (p s) 1 0) step steps in
    omega (arith, rest, zero, counted)

-- the same request, issued as it was; and where it had ended, it has
pub record IsSame (old new : Pending) : Type 0 where
  pub request : new.request ≡ old.request
  pub issued : new.issued ≡ old.issued
  pub ended : old.ended ≡ true → new.ended ≡ true

pub same_as : (e : Pending) → IsSame e e
same_as e = record { request = refl; issued = refl; ended = λ is. is }

pub same_more : (a b c : Pending) → IsSame a b → IsSame b c → IsSame a c
same_more a b c one two = record { request = two.request ∙ one.request; issued = two.issued ∙ one.issued; ended = λ is. two.ended (one.ended is) }

-- the same request stands in a book, perhaps not as far
pub record StandsIn (book : List Pending) (e : Pending) : Type 0 where
  pub was : Pending
  pub here : Contains book was
  pub request : was.request ≡ e.request

-- a change of a request that keeps what was asked
abbrev Keeps : (Pending → Pending) → Type 0
Keeps change = (e : Pending) → (change e).request ≡ e.request

changed_request : (id : RequestId) (change : Pending → Pending) → Keeps change → (e : Pending) → (update_pending id change e).request ≡ e.request
changed_request id change keeps e = ⊎_elim (λ q. ap (λ (x : Pending). x.request) q.1 ∙ keeps e) (λ q. ap (λ (x : Pending). x.request) q.1) (at_cases id change e)

module _ (laws : PrerequisiteLaws) (port : Port) (m : Machine) where
  -- ---- who stood before

  device_before : (step : Step) (before : List Step) → IsByDevice step → (z : Pending) → Contains (after m (step ∷ before)).book z → (x : Pending) × Contains (after m before).book x × IsSame x z
  device_before step before is z here =
      let spares : KeepsLoansAndPendingsOnlyAdvance (after m before) (after_step (after m before) step) = laws.steps_and_accesses.device_steps_spare_book (after m before) (step ∷ []) (tt, is) in
      let l = laws.steps_and_accesses.entry_is_found_in_earlier_book (after m before).book (after m (step ∷ before)).book z spares.book here in
      (l.0, l.1, record { request = l.2.request; issued = l.2.issued; ended = l.2.ended })

  device_later : (step : Step) (before : List Step) → IsByDevice step → (y : Pending) → Contains (after m before).book y → (x : Pending) × Contains (after m (step ∷ before)).book x × IsSame y x
  device_later step before is y here =
      let spares : KeepsLoansAndPendingsOnlyAdvance (after m before) (after_step (after m before) step) = laws.steps_and_accesses.device_steps_spare_book (after m before) (step ∷ []) (tt, is) in
      let l = laws.steps_and_accesses.entry_is_found_in_later_book (after m before).book (after m (step ∷ before)).book y spares.book here in
      (l.0, l.1, record { request = l.2.request; issued = l.2.issued; ended = l.2.ended })

  changed_before : (id : RequestId) (change : Pending → Pending) → Keeps change → (book : List Pending) (z : Pending) → Contains (map (update_pending id change) book) z → StandsIn book z
  changed_before id change keeps book z here =
      let w = map_in (update_pending id change) book z here in
      record { was = w.0; here = w.1; request = sym (changed_request id change keeps w.0) ∙ ap (λ (x : Pending). x.request) (sym w.2) }

  stood_more : (book later : List Pending) (z : Pending) → ((x : Pending) → Contains later x → StandsIn book x) → StandsIn later z → StandsIn book z
  stood_more book later z each s = let b = each s.was s.here in record { was = b.was; here = b.here; request = b.request ∙ s.request }

  -- who is unanswered after such steps was so before
  pub stood : (steps : List Step) → All (IsTurnOrDeviceStep port) steps → (z : Pending) → Contains (after m steps).book z → StandsIn m.book z
  stood [] own z here = record { was = z; here = here; request = refl }
  stood (Issue mode e ∷ steps) own z here =
      stood_more m.book (after m steps).book z (stood steps (All-tail (IsTurnOrDeviceStep port) (Issue mode e) steps own)) (changed_before e.request.id newly_issued (λ x. refl) (after m steps).book z here)
  stood (WaitAgain e ∷ steps) own z here =
      stood_more m.book (after m steps).book z (stood steps (All-tail (IsTurnOrDeviceStep port) (WaitAgain e) steps own)) (changed_before e.request.id requeued (λ x. refl) (after m steps).book z here)
  stood (Answer e o ∷ steps) own z here = stood steps (All-tail (IsTurnOrDeviceStep port) (Answer e o) steps own) z (without_in e.request.id (after m steps).book z here).0
  stood (step ∷ steps) own z here =
      let x = device_before step steps (All-head (IsTurnOrDeviceStep port) step steps own) z here in
      let b = stood steps (All-tail (IsTurnOrDeviceStep port) step steps own) x.0 x.1 in
      record { was = b.was; here = b.here; request = b.request ∙ sym x.2.request }

  -- ---- requests of other ports

  module _ (reached : IsReachable m) where
    -- a request of the port, and one of another, differ in their ids
    apart : (steps : List Step) → AllEnabled m steps → (e y : Pending) → Contains (after m steps).book e → Contains (after m steps).book y → e.request.port ≡ port → y.request.port ≢ port → y.request.id.0 ≢ e.request.id.0
    apart steps may e y here there own other same =
        other (ap (λ (x : Pending). x.request.port) (laws.steps_and_accesses.an_id_is_one_request (after m steps) (laws.steps_and_accesses.reachable_stays_reachable m steps reached may) y e there here same) ∙ own)

    left_by : (steps : List Step) (e : Pending) (change : Pending → Pending) → AllEnabled m steps → Contains (after m steps).book e → e.request.port ≡ port → (y : Pending) → Contains (after m steps).book y → y.request.port ≢ port → update_pending e.request.id change y ≡ y
    left_by steps e change may here own y there other = ⊎_elim (λ q. absurd (apart steps may e y here there own other q.0)) (λ q. q.1) (at_cases e.request.id change y)

    -- requests of other ports that are the same
    abbrev LaterIn : List Pending → Pending → Type 0
    LaterIn book y = (x : Pending) × Contains book x × IsSame y x

    abbrev BeforeIn : List Pending → Pending → Type 0
    BeforeIn book z = (x : Pending) × Contains book x × IsSame x z

    changed_left : (steps : List Step) (e : Pending) (change : Pending → Pending) → AllEnabled m steps → Contains (after m steps).book e → e.request.port ≡ port → (y : Pending) → y.request.port ≢ port
        → LaterIn (after m steps).book y → LaterIn (map (update_pending e.request.id change) (after m steps).book) y
    changed_left steps e change may here own y other w =
        let still : update_pending e.request.id change w.0 ≡ w.0 = left_by steps e change may here own w.0 w.1 (λ same. other (sym (ap (λ r. r.port) w.2.request) ∙ same)) in
        (w.0, subst (Contains (map (update_pending e.request.id change) (after m steps).book)) still (into_map (update_pending e.request.id change) (after m steps).book w.0 w.1), w.2)

    -- one of another port is left as it is
    pub others_left : (steps : List Step) → All (IsTurnOrDeviceStep port) steps → AllEnabled m steps → (y : Pending) → Contains m.book y → y.request.port ≢ port → LaterIn (after m steps).book y
    others_left [] own may y here other = (y, here, same_as y)
    others_left (Issue mode e ∷ steps) own may y here other =
        changed_left steps e newly_issued may.0 may.1.0 (All-head (IsTurnOrDeviceStep port) (Issue mode e) steps own) y other (others_left steps (All-tail (IsTurnOrDeviceStep port) (Issue mode e) steps own) may.0 y here other)
    others_left (WaitAgain e ∷ steps) own may y here other =
        changed_left steps e requeued may.0 may.1.0 (All-head (IsTurnOrDeviceStep port) (WaitAgain e) steps own) y other (others_left steps (All-tail (IsTurnOrDeviceStep port) (WaitAgain e) steps own) may.0 y here other)
    others_left (Answer e o ∷ steps) own may y here other =
        let w = others_left steps (All-tail (IsTurnOrDeviceStep port) (Answer e o) steps own) may.0 y here other in
        let differs = apart steps may.0 e w.0 may.1.0 w.1 (All-head (IsTurnOrDeviceStep port) (Answer e o) steps own) (λ same. other (sym (ap (λ r. r.port) w.2.request) ∙ same)) in
        (w.0, without_into e.request.id (after m steps).book w.0 (λ same. differs (ap (λ (i : RequestId). i.0) same)) w.1, w.2)
    others_left (step ∷ steps) own may y here other =
        let w = others_left steps (All-tail (IsTurnOrDeviceStep port) step steps own) may.0 y here other in
        let l = device_later step steps (All-head (IsTurnOrDeviceStep port) step steps own) w.0 w.1 in
        (l.0, l.1, same_more y w.0 l.0 w.2 l.2)

    changed_were : (steps : List Step) (e : Pending) (change : Pending → Pending) → Keeps change → AllEnabled m steps → Contains (after m steps).book e → e.request.port ≡ port → (z : Pending) → z.request.port ≢ port
        → Contains (map (update_pending e.request.id change) (after m steps).book) z → Contains (after m steps).book z
    changed_were steps e change keeps may here own z other there =
        let w = map_in (update_pending e.request.id change) (after m steps).book z there in
        let not_own : w.0.request.port ≢ port = λ same. other (ap (λ (x : Pending). x.request.port) w.2 ∙ ap (λ r. r.port) (changed_request e.request.id change keeps w.0) ∙ same) in
        subst (Contains (after m steps).book) (sym (w.2 ∙ left_by steps e change may here own w.0 w.1 not_own)) w.1

    -- and was as it is
    pub others_were : (steps : List Step) → All (IsTurnOrDeviceStep port) steps → AllEnabled m steps → (z : Pending) → Contains (after m steps).book z → z.request.port ≢ port → BeforeIn m.book z
    others_were [] own may z here other = (z, here, same_as z)
    others_were (Issue mode e ∷ steps) own may z here other =
        others_were steps (All-tail (IsTurnOrDeviceStep port) (Issue mode e) steps own) may.0 z (changed_were steps e newly_issued (λ x. refl) may.0 may.1.0 (All-head (IsTurnOrDeviceStep port) (Issue mode e) steps own) z other here) other
    others_were (WaitAgain e ∷ steps) own may z here other =
        others_were steps (All-tail (IsTurnOrDeviceStep port) (WaitAgain e) steps own) may.0 z (changed_were steps e requeued (λ x. refl) may.0 may.1.0 (All-head (IsTurnOrDeviceStep port) (WaitAgain e) steps own) z other here) other
    others_were (Answer e o ∷ steps) own may z here other = others_were steps (All-tail (IsTurnOrDeviceStep port) (Answer e o) steps own) may.0 z (without_in e.request.id (after m steps).book z here).0 other
    others_were (step ∷ steps) own may z here other =
        let x = device_before step steps (All-head (IsTurnOrDeviceStep port) step steps own) z here in
        let b = others_were steps (All-tail (IsTurnOrDeviceStep port) step steps own) may.0 x.0 x.1 (λ same. other (ap (λ r. r.port) x.2.request ∙ same)) in
        (b.0, b.1, same_more b.0 x.0 z b.2 x.2)

  -- ---- what is handled

  -- what such steps handle is of the port, and was unanswered before
  pub record IsOwn (id : RequestId) : Type 0 where
    pub pending : Pending
    pub here : Contains m.book pending
    pub id_is : pending.request.id.0 ≡ id.0
    pub port_is : pending.request.port ≡ port

  own_of : (steps : List Step) → All (IsTurnOrDeviceStep port) steps → (e : Pending) → Contains (after m steps).book e → e.request.port ≡ port → (id : RequestId) → (e.request.id.0 == id.0) ≡ true → IsOwn id
  own_of steps own e here its id same =
      let b = stood steps own e here in
      record { pending = b.was; here = b.here; id_is = ap (λ r. r.id.0) b.request ∙ eqb-true e.request.id.0 id.0 same; port_is = ap (λ r. r.port) b.request ∙ its }

  pub handled_own : (step : Step) (steps : List Step) → All (IsTurnOrDeviceStep port) (step ∷ steps) → AllEnabled m (step ∷ steps) → (id : RequestId) → issues_requeues_or_answers_id id step ≡ true → IsOwn id
  handled_own (Issue mode e) steps own may id h = own_of steps (All-tail (IsTurnOrDeviceStep port) (Issue mode e) steps own) e may.1.0 (All-head (IsTurnOrDeviceStep port) (Issue mode e) steps own) id h
  handled_own (WaitAgain e) steps own may id h = own_of steps (All-tail (IsTurnOrDeviceStep port) (WaitAgain e) steps own) e may.1.0 (All-head (IsTurnOrDeviceStep port) (WaitAgain e) steps own) id h
  handled_own (Answer e o) steps own may id h = own_of steps (All-tail (IsTurnOrDeviceStep port) (Answer e o) steps own) e may.1.0 (All-head (IsTurnOrDeviceStep port) (Answer e o) steps own) id h
  handled_own step steps own may id h = absurd (not_handled id step (All-head (IsTurnOrDeviceStep port) step steps own) h)

  issues_handles : (id : RequestId) (step : Step) → issues_id id step ≡ true → issues_requeues_or_answers_id id step ≡ true
  issues_handles id (Issue mode e) i = i
  issues_handles id step i = absurd (false≢true i)

  pub issued_before : (steps : List Step) → All (IsTurnOrDeviceStep port) steps → AllEnabled m steps → (id : RequestId) → IsIssuedIn id steps → IsOwn id
  issued_before [] own may id i = absurd (false≢true i)
  issued_before (step ∷ steps) own may id i = ⊎_elim
      (λ (here : issues_id id step ≡ true). handled_own step steps own may id (issues_handles id step here))
      (λ (before : IsIssuedIn id steps). issued_before steps (All-tail (IsTurnOrDeviceStep port) step steps own) may.0 id before)
      (or_cases (issues_id id step) (list_any (issues_id id) steps) i)

  -- so is what they answer
  pub answered_own : (steps : List Step) → All (IsTurnOrDeviceStep port) steps → AllEnabled m steps → (e : Pending) (o : Outcome) → Contains steps (Answer e o) → IsOwn e.request.id
  answered_own [] own may e o here = absurd (nowhere (Answer e o) here)
  answered_own (step ∷ steps) own may e o here = ⊎_elim
      (λ (is : Answer e o ≡ step). handled_own step steps own may e.request.id (subst (λ (x : Step). issues_requeues_or_answers_id e.request.id x ≡ true) is (eq-eqb e.request.id.0 e.request.id.0 refl)))
      (λ (there : Contains steps (Answer e o)). answered_own steps (All-tail (IsTurnOrDeviceStep port) step steps own) may.0 e o there)
      (contains_cases step steps (Answer e o) here)
