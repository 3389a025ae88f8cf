-- The driver's own steps: what it accepts, answers, has wait again, and forgets.
use Rattle.std.proofs.Common.{ℕ, suc, ◌≡◌, ◌≢◌, ◌⊎◌, Bool, true, false, not, ◌&&◌, ◌++◌, ◌==◌, map, List, [], ◌∷◌, refl, sym, ◌∙◌, ap, subst, inl, inr, ⊎_elim, cond, eqb-true}
use Rattle.std.specs.List.{Contains}
use Rattle.std.proofs.lemmas.Bool.{cases_eq, cond-true, cond-false}
use Rattle.std.proofs.lemmas.List.Elements.{Contains-append_left}
use Rattle.ata_types.specs.declared.Port.{Port}
use Rattle.ata_types.specs.declared.request.Op.{Op}
use Rattle.ata_types.specs.declared.request.Op.TheVariants.{Read, Write, Trim, Flush}
use Rattle.ata_types.specs.declared.request.Outcome.{Outcome}
use Rattle.ata_types.specs.declared.request.Outcome.TheVariants as told
use Rattle.ata_types.specs.declared.request.RequestId.{RequestId}
use Rattle.adapter.specs.Commands.{Meaning}
use Rattle.adapter.specs.Device.{FetchedCommand, DevicePort, Device}
use Rattle.adapter.specs.declared.command.Operation.{Operation}
use Rattle.adapter.specs.Memory.{changed}
use Rattle.adapter.proofs.Changed.{changed_same}
use Rattle.block_machine.specs.State.{Accepted, Pending, Machine, DiskBytes, Memory}
use Rattle.block_machine.specs.Histories.{IsReachable}
use Rattle.block_machine.specs.Steps.{Accept, Answer, WaitAgain, Age, Release, IsIssuedOrKept, after_step, update_pending, without_pending, newly_accepted, aged_pending, requeued, is_kept_at_answer, Revoke}
use Rattle.block_machine.proofs.Members.{map_in, into_map, at_cases, without_in, contains_here, contains_there, contains_cases, contains_none, append_in}
use Rattle.block_machine.proofs.Sound.{Sound}
use Rattle.block_machine.proofs.Standing.{standing}
use Rattle.adapter.specs.OneCommand.{SlotHasNoCommand}
use Rattle.refinement.specs.Slots.{SlotState, Free, Own, Serves, SlotStates, set_slot_state, TouchedAsMovedOrCleared, IsInSomeStage, RelatesSlot, Armed, IsArmedIfSt}
use Rattle.refinement.specs.Relation.{StateRelation, port_at}
use Rattle.refinement.specs.Driver.{DriverState, DriverRelation, HasNoSlot, OthersStayParked, ParkedStayUnlessKept, with_slot_freed_and_request_parked, with_slot_freed}
use Rattle.refinement.proofs.relation.LastingSectors.{gains_none, keeps_same, lasting_on}
use Rattle.refinement.proofs.relation.OneSlot.{sectors_on, changed_at}
use Rattle.refinement.proofs.device.ClearSactBits.{over_unarmed}
use Rattle.refinement.proofs.driver.PutSlot.{SameWorld, put_agrees, put_cases, put_have, serves_same}
use Rattle.refinement.proofs.relation.TouchesAndEnds.{into_other}
use Rattle.refinement.proofs.relation.OtherSlots.{true_false}
use Rattle.refinement.proofs.relation.SlotRelation.{SameSlot-refl}
use Rattle.ata_types.specs.declared.request.ClientId.{ClientId}

-- ---- the relation of a slot over a machine that has the request still

-- another form of a request that asks the same and is as far
module _ (memory : ℕ → ℕ) (p : DevicePort) (port slot : ℕ) (e : Pending) (c : Meaning) (places : List ℕ) (issues age : ℕ) (issued : Bool) where
  progress_of : (op : Op) (t : FetchedCommand) → TouchedAsMovedOrCleared op memory port e t → TouchedAsMovedOrCleared op memory port (record e { issue_count = issues; age = age; issued = issued }) t
  progress_of Read t h = h
  progress_of Write t h = h
  progress_of Trim t h = h
  progress_of Flush t h = h

  stage_of : IsInSomeStage memory p port slot e c places → IsInSomeStage memory p port slot (record e { issue_count = issues; age = age; issued = issued }) c places
  stage_of (inl w) = inl (record { started = w.started; issued = w.issued; is_not_taken = w.is_not_taken; sact = w.sact; has_block_if_trim = w.has_block_if_trim; untouched = w.untouched; unended = w.unended })
  stage_of (inr (inl t)) = inr (inl (record { command = t.command; taken = t.taken; meaning = t.meaning; places_are = t.places_are; running = t.running; ci_is_set_iff_st_and_plain = t.ci_is_set_iff_st_and_plain; sact = t.sact; progress = progress_of e.request.asked.op t.command t.progress; unended = t.unended }))
  stage_of (inr (inr (inl x))) = inr (inr (inl (record { is_not_issued = x.is_not_issued; sact_is_clear = x.sact_is_clear; is_not_taken = x.is_not_taken; ended = x.ended; touched = x.touched })))
  stage_of (inr (inr (inr x))) = inr (inr (inr (record { st_is_clear = x.st_is_clear; is_not_issued = x.is_not_issued; sact_is_clear = x.sact_is_clear; is_not_taken = x.is_not_taken; unended = x.unended })))

-- each request that may move may so afterwards, perhaps older or is_not_issued more often
pub record GoesOn (m m' : Machine) (e : Pending) : Type 0 where
  pub issues : ℕ
  pub age : ℕ
  pub issued : Bool
  pub moves : IsIssuedOrKept m' (record e { issue_count = issues; age = age; issued = issued })

pub goes_on_same : (m m' : Machine) (e : Pending) → IsIssuedOrKept m' e → GoesOn m m' e
goes_on_same m m' e r = record { issues = e.issue_count; age = e.age; issued = e.issued; moves = r }

served_goes : (m m' : Machine) (d : Device) (p : DevicePort) (port slot : ℕ) (u : SlotState) → ((id : RequestId) → u ≡ Serves id → (e : Pending) → e.request.id ≡ id → IsIssuedOrKept m e → GoesOn m m' e) →
    RelatesSlot m d.memory d.tape p port slot u → RelatesSlot m' d.memory d.tape p port slot u
served_goes m m' d p port slot Free goes h = h
served_goes m m' d p port slot Armed goes h = h
served_goes m m' d p port slot (Own o) goes h = h
served_goes m m' d p port slot (Serves id) goes h =
    let g = goes id refl h.pending h.id_is h.may_still_move in
    record {
      pending = record h.pending { issue_count = g.issues; age = g.age; issued = g.issued };
      may_still_move = g.moves;
      id_is = h.id_is;
      port_is = h.port_is;
      list_is_in_place = h.list_is_in_place;
      command = h.command;
      places = h.places;
      slot_decodes_to = h.slot_decodes_to;
      means = h.means;
      stage = stage_of d.memory p port slot h.pending h.command h.places g.issues g.age g.issued h.stage;
    }

-- Another machine with the same disks and memory, in which each request that a slot serves may move still, agrees too.
pub agrees_on : (uses : SlotStates) (m m' : Machine) (d : Device) → StateRelation uses m d → SameWorld m m' →
    ((q k : ℕ) (id : RequestId) → uses q k ≡ Serves id → (e : Pending) → e.request.id ≡ id → IsIssuedOrKept m e → GoesOn m m' e) → StateRelation uses m' d
agrees_on uses m m' d a world goes = record {
  relates_slots = λ q k. served_goes m m' d (d.port q) q k (uses q k) (goes q k) (a.relates_slots q k);
  serve_distinct_requests = a.serve_distinct_requests;
  received_areas_in_use_are_placed = a.received_areas_in_use_are_placed;
  disks_are_same = λ q. record {
    present = ap (λ (f : Port → Bool). f (port_at q)) world.present ∙ (a.disks_are_same q).present;
    id = ap (λ (f : Port → ℕ). f (port_at q)) world.ids ∙ (a.disks_are_same q).id;
    sector_count = ap (λ (f : Port → ℕ). f (port_at q)) world.sizes ∙ (a.disks_are_same q).sector_count;
  };
  client_frames_are_same = λ f b from small. a.client_frames_are_same f b from small ∙ ap (λ (g : Memory). g f b) (sym world.memory);
  sectors_are_same_if_disks_tell = λ t q. sectors_on m m' (d.port q).disk q (λ k b lb. ap (λ (g : Port → DiskBytes). g (port_at q) k b) world.disks) (a.sectors_are_same_if_disks_tell t q);
  knows_replug_candidates_if_disks_tell = λ t q. lasting_on m m' d.tape d.tape (d.port q) (d.port q) q refl refl (keeps_same m m' q world.disks world.aside) (gains_none d.tape m' q) (a.knows_replug_candidates_if_disks_tell t q);
}

-- ---- accept

pub accept_knows : (k : DriverState) (m : Machine) (r : Accepted) → DriverRelation m k → DriverRelation (after_step m (Accept r)) k
accept_knows k m r x = record {
  state_relation = agrees_on k.slot_states m (after_step m (Accept r)) k.device x.state_relation (record { present = refl; ids = refl; sizes = refl; disks = refl; aside = refl; memory = refl })
      (λ q s id u e is may. goes_on_same m (after_step m (Accept r)) e (⊎_elim
      (λ (z : Contains m.book e × (e.issued ≡ true)). inl (Contains-append_left m.book (newly_accepted r ∷ []) e z.0, z.1))
      (λ (z : Contains m.kept e). inr z) may));
  have_slots_unless_parked = λ q y may at_port. x.have_slots_unless_parked q y (⊎_elim
      (λ (z : Contains (m.book ++ newly_accepted r ∷ []) y × (y.issued ≡ true)). ⊎_elim
      (λ (w : Contains m.book y). inl (w, z.1))
      (λ (w : y ≡ newly_accepted r). true_false (ap (λ (e : Pending). e.issued) (sym w) ∙ z.1) refl)
      (append_in m.book (newly_accepted r) y z.0))
      (λ (z : Contains m.kept y). inr z) may) at_port;
}

-- ---- a tick

-- a tick changes a request's age alone
pub older_is : (ready : Port → Bool) (e : Pending) → aged_pending ready e ≡ record e { age = (aged_pending ready e).age }
older_is ready e = by (e.issued && ready e.request.port) refl
  where
    aged : (age : ℕ) → aged_pending ready e ≡ record e { age = age } → aged_pending ready e ≡ record e { age = (aged_pending ready e).age }
    aged age is = is ∙ ap (λ (n : ℕ). record e { age = n }) (ap (λ (x : Pending). x.age) (sym is))

    by : (b : Bool) → (e.issued && ready e.request.port) ≡ b → aged_pending ready e ≡ record e { age = (aged_pending ready e).age }
    by true h = aged (suc e.age) (cond-true (e.issued && ready e.request.port) (record e { age = suc e.age }) e h)
    by false h = aged e.age (cond-false (e.issued && ready e.request.port) (record e { age = suc e.age }) e h)

pub tick_knows : (k : DriverState) (m : Machine) (ready : Port → Bool) → DriverRelation m k → DriverRelation (after_step m (Age ready)) k
tick_knows k m ready x = record {
  state_relation = agrees_on k.slot_states m (after_step m (Age ready)) k.device x.state_relation (record { present = refl; ids = refl; sizes = refl; disks = refl; aside = refl; memory = refl })
      (λ q s id u e is may. goes e may);
  have_slots_unless_parked = λ q y may at_port. ⊎_elim
      (λ (z : Contains (map (aged_pending ready) m.book) y × (y.issued ≡ true)).
      let w = map_in (aged_pending ready) m.book y z.0 in
      let same : y ≡ record w.0 { age = (aged_pending ready w.0).age } = w.2 ∙ older_is ready w.0 in
      subst (λ (r : Accepted). Contains (k.awaiting_disposition q) r.id ⊎ ((slot : ℕ) × (k.slot_states q slot ≡ Serves r.id))) (sym (ap (λ (e : Pending). e.request) same))
      (x.have_slots_unless_parked q w.0 (inl (w.1, ap (λ (e : Pending). e.issued) (sym same) ∙ z.1)) (ap (λ (e : Pending). e.request.port.0) (sym same) ∙ at_port)))
      (λ (z : Contains m.kept y). x.have_slots_unless_parked q y (inr z) at_port) may;
}
  where
    goes : (e : Pending) → IsIssuedOrKept m e → GoesOn m (after_step m (Age ready)) e
    goes e may = ⊎_elim
        (λ (z : Contains m.book e × (e.issued ≡ true)). record {
          issues = e.issue_count;
          age = (aged_pending ready e).age;
          issued = e.issued;
          moves = inl (subst (λ (y : Pending). Contains (map (aged_pending ready) m.book) y) (older_is ready e) (into_map (aged_pending ready) m.book e z.0), z.1);
        })
        (λ (z : Contains m.kept e). goes_on_same m (after_step m (Age ready)) e (inr z)) may

-- the row of a grant goes, of which the relation says nothing
pub revoke_knows : (k : DriverState) (m : Machine) (client : ClientId) (number : ℕ) → DriverRelation m k → DriverRelation (after_step m (Revoke client number)) k
revoke_knows k m client number x = record {
  state_relation = agrees_on k.slot_states m (after_step m (Revoke client number)) k.device x.state_relation (record { present = refl; ids = refl; sizes = refl; disks = refl; aside = refl; memory = refl })
      (λ q s id u e is may. goes_on_same m (after_step m (Revoke client number)) e may);
  have_slots_unless_parked = x.have_slots_unless_parked;
}

-- ---- a request is decided

pub without_into : (id : RequestId) (es : List Pending) (e : Pending) → e.request.id ≢ id → Contains es e → Contains (without_pending id es) e
without_into id [] e ne c = absurd (contains_none e c)
without_into id (y ∷ ys) e ne c = go (y.request.id.0 == id.0) refl (λ w. without_into id ys e ne w)
  where
    rest : e ≡ y ⊎ Contains ys e
    rest = contains_cases y ys e c

    go : (b : Bool) → (y.request.id.0 == id.0) ≡ b → (Contains ys e → Contains (without_pending id ys) e) → Contains (cond (not b) (y ∷ without_pending id ys) (without_pending id ys)) e
    go true p on = ⊎_elim
        (λ (w : e ≡ y). absurd (ne (ap (λ (x : Pending). x.request.id) w ∙ ap (λ (n : ℕ). record { 0 = n }) (eqb-true y.request.id.0 id.0 p))))
        (λ (w : Contains ys e). on w) rest
    go false p on = ⊎_elim
        (λ (w : e ≡ y). contains_here y (without_pending id ys) e w)
        (λ (w : Contains ys e). contains_there y (without_pending id ys) e (on w)) rest

-- What an answer that keeps nothing, or an Again, leaves: the others, and nothing of the request itself that may move.
record Leaves (m m' : Machine) (id : RequestId) : Type 0 where
  world : SameWorld m m'
  moves : (e : Pending) → e.request.id ≢ id → IsIssuedOrKept m e → IsIssuedOrKept m' e
  back : (e : Pending) → IsIssuedOrKept m' e → IsIssuedOrKept m e × (e.request.id ≢ id)

leaves_knows : (k : DriverState) (m m' : Machine) (id : RequestId) (later : ℕ → List RequestId) → DriverRelation m k → HasNoSlot k.slot_states id → OthersStayParked id k.awaiting_disposition later → Leaves m m' id → DriverRelation m' (record k { awaiting_disposition = later })
leaves_knows k m m' id later x none forgets l = record {
  state_relation = agrees_on k.slot_states m m' k.device x.state_relation l.world
      (λ q s other u e is may. goes_on_same m m' e (l.moves e (λ same. none q s (u ∙ ap Serves (sym is ∙ same))) may));
  have_slots_unless_parked = λ q y may at_port.
      let b = l.back y may in
      ⊎_elim
      (λ (p : Contains (k.awaiting_disposition q) y.request.id). inl (forgets q y.request.id p b.1))
      (λ (w : (slot : ℕ) × (k.slot_states q slot ≡ Serves y.request.id)). inr w)
      (x.have_slots_unless_parked q y b.0 at_port);
}

answer_leaves : (m : Machine) (e : Pending) (outcome : Outcome) → Sound m → Contains m.book e → is_kept_at_answer e outcome ≡ false → Leaves m (after_step m (Answer e outcome)) e.request.id
answer_leaves m e outcome s here gives = record {
  world = record { present = refl; ids = refl; sizes = refl; disks = refl; aside = refl; memory = refl };
  moves = λ y ne r. ⊎_elim
      (λ (z : Contains m.book y × (y.issued ≡ true)). inl (without_into e.request.id m.book y ne z.0, z.1))
      (λ (z : Contains m.kept y). inr (subst (λ (es : List Pending). Contains es y) (sym kept) z)) r;
  back = λ y r. ⊎_elim
      (λ (z : Contains (without_pending e.request.id m.book) y × (y.issued ≡ true)). let q = without_in e.request.id m.book y z.0 in (inl (q.0, z.1), λ same. q.1 (ap (λ (i : RequestId). i.0) same)))
      (λ (z : Contains (after_step m (Answer e outcome)).kept y).
      let old : Contains m.kept y = subst (λ (es : List Pending). Contains es y) kept z in
      (inr old, λ same. s.apart e y here old (ap (λ (i : RequestId). i.0) (sym same)))) r;
}
  where
    kept : (after_step m (Answer e outcome)).kept ≡ m.kept
    kept = cond-false (is_kept_at_answer e outcome) (e ∷ m.kept) m.kept gives

again_leaves : (m : Machine) (e : Pending) → Sound m → Contains m.book e → Leaves m (after_step m (WaitAgain e)) e.request.id
again_leaves m e s here = record {
  world = record { present = refl; ids = refl; sizes = refl; disks = refl; aside = refl; memory = refl };
  moves = λ y ne r. ⊎_elim
      (λ (z : Contains m.book y × (y.issued ≡ true)). inl (into_other requeued e.request.id m.book y ne z.0, z.1))
      (λ (z : Contains m.kept y). inr z) r;
  back = λ y r. ⊎_elim
      (λ (z : Contains (map (update_pending e.request.id requeued) m.book) y × (y.issued ≡ true)).
      let q = map_in (update_pending e.request.id requeued) m.book y z.0 in
      ⊎_elim
      (λ (p : (q.0.request.id.0 ≡ e.request.id.0) × (update_pending e.request.id requeued q.0 ≡ requeued q.0)). true_false z.1 (ap (λ (x : Pending). x.issued) (q.2 ∙ p.1)))
      (λ (p : (q.0.request.id.0 ≢ e.request.id.0) × (update_pending e.request.id requeued q.0 ≡ q.0)).
      let is : y ≡ q.0 = q.2 ∙ p.1 in
      (inl (subst (λ (x : Pending). Contains m.book x) (sym is) q.1, z.1), λ same. p.0 (ap (λ (x : Pending). x.request.id.0) (sym is) ∙ ap (λ (i : RequestId). i.0) same)))
      (at_cases e.request.id requeued q.0))
      (λ (z : Contains m.kept y). (inr z, λ same. s.apart e y here z (ap (λ (i : RequestId). i.0) (sym same)))) r;
}

pub answer_knows : (k : DriverState) (m : Machine) (e : Pending) (outcome : Outcome) (later : ℕ → List RequestId) → IsReachable m → DriverRelation m k → Contains m.book e → is_kept_at_answer e outcome ≡ false →
    HasNoSlot k.slot_states e.request.id → OthersStayParked e.request.id k.awaiting_disposition later → DriverRelation (after_step m (Answer e outcome)) (record k { awaiting_disposition = later })
answer_knows k m e outcome later r x here gives none forgets =
    leaves_knows k m (after_step m (Answer e outcome)) e.request.id later x none forgets (answer_leaves m e outcome (standing m r).sound here gives)

pub again_knows : (k : DriverState) (m : Machine) (e : Pending) (later : ℕ → List RequestId) → IsReachable m → DriverRelation m k → Contains m.book e →
    HasNoSlot k.slot_states e.request.id → OthersStayParked e.request.id k.awaiting_disposition later → DriverRelation (after_step m (WaitAgain e)) (record k { awaiting_disposition = later })
again_knows k m e later r x here none forgets =
    leaves_knows k m (after_step m (WaitAgain e)) e.request.id later x none forgets (again_leaves m e (standing m r).sound here)

-- an answer that keeps the frames: the request stays in its slot
pub keeping_knows : (k : DriverState) (m : Machine) (e : Pending) (outcome : Outcome) → IsReachable m → DriverRelation m k → Contains m.book e → is_kept_at_answer e outcome ≡ true → DriverRelation (after_step m (Answer e outcome)) k
keeping_knows k m e outcome r x here stay = record {
  state_relation = agrees_on k.slot_states m (after_step m (Answer e outcome)) k.device x.state_relation (record { present = refl; ids = refl; sizes = refl; disks = refl; aside = refl; memory = refl })
      (λ q s id u y is may. goes_on_same m (after_step m (Answer e outcome)) y (goes y may));
  have_slots_unless_parked = λ q y may at_port. x.have_slots_unless_parked q y (⊎_elim
      (λ (z : Contains (without_pending e.request.id m.book) y × (y.issued ≡ true)). inl ((without_in e.request.id m.book y z.0).0, z.1))
      (λ (z : Contains (after_step m (Answer e outcome)).kept y). ⊎_elim
      (λ (w : y ≡ e). inl (subst (λ (o : Pending). Contains m.book o) (sym w) here, ap (λ (o : Pending). o.issued) w ∙ was_issued outcome stay))
      (λ (w : Contains m.kept y). inr w)
      (contains_cases e m.kept y (subst (λ (es : List Pending). Contains es y) kept z))) may) at_port;
}
  where
    sound : Sound m
    sound = (standing m r).sound

    kept : (after_step m (Answer e outcome)).kept ≡ e ∷ m.kept
    kept = cond-true (is_kept_at_answer e outcome) (e ∷ m.kept) m.kept stay

    -- only what was issued is kept
    was_issued : (o : Outcome) → is_kept_at_answer e o ≡ true → e.issued ≡ true
    was_issued told.PortDead h = h
    was_issued told.Ok h = true_false h refl
    was_issued (told.DeviceError status error) h = true_false h refl
    was_issued told.Aborted h = true_false h refl
    was_issued told.Unplugged h = true_false h refl
    was_issued told.Revoked h = true_false h refl

    goes : (y : Pending) → IsIssuedOrKept m y → IsIssuedOrKept (after_step m (Answer e outcome)) y
    goes y (inr z) = inr (subst (λ (es : List Pending). Contains es y) (sym kept) (contains_there e m.kept y z))
    goes y (inl z) = ⊎_elim
        (λ (same : y.request.id.0 ≡ e.request.id.0). inr (subst (λ (es : List Pending). Contains es y) (sym kept) (contains_here e m.kept y (sound.one y e z.0 here same))))
        (λ (ne : y.request.id.0 ≡ e.request.id.0 → ⊥). inl (without_into e.request.id m.book y (λ same. ne (ap (λ (i : RequestId). i.0) same)) z.0, z.1))
        (cases_eq y.request.id.0 e.request.id.0)

-- ---- the frames of kept requests are given back

pub release_knows : (k : DriverState) (m : Machine) (later : ℕ → List RequestId) → IsReachable m → DriverRelation m k → ((e : Pending) → Contains m.kept e → HasNoSlot k.slot_states e.request.id) →
    ParkedStayUnlessKept m k.awaiting_disposition later →
    DriverRelation (after_step m Release) (record k { awaiting_disposition = later })
release_knows k m later r x none forgets = record {
  state_relation = agrees_on k.slot_states m (after_step m Release) k.device x.state_relation (record { present = refl; ids = refl; sizes = refl; disks = refl; aside = refl; memory = refl })
      (λ q s id u e is may. goes_on_same m (after_step m Release) e (⊎_elim
      (λ (z : Contains m.book e × (e.issued ≡ true)). inl z)
      (λ (z : Contains m.kept e). absurd (none e z q s (u ∙ ap Serves (sym is)))) may));
  have_slots_unless_parked = λ q y may at_port. ⊎_elim
      (λ (z : Contains m.book y × (y.issued ≡ true)). ⊎_elim
      (λ (p : Contains (k.awaiting_disposition q) y.request.id). inl (forgets q y.request.id p (λ e kept same. (standing m r).sound.apart y e z.0 kept (ap (λ (i : RequestId). i.0) (sym same)))))
      (λ (w : (slot : ℕ) × (k.slot_states q slot ≡ Serves y.request.id)). inr w)
      (x.have_slots_unless_parked q y (inl z) at_port))
      (λ (z : Contains [] y). absurd (contains_none y z)) may;
}

-- ---- slots are given up

-- a slot whose command is over
module _ (k : DriverState) (m : Machine) (x : DriverRelation m k) (port slot : ℕ) (over : SlotHasNoCommand (k.device.port port) slot) where
  free_agrees : (k.slot_states port slot ≡ Armed → ⊥) → StateRelation (set_slot_state k.slot_states port slot Free) m k.device
  free_agrees unarmed = put_agrees k.slot_states m m k.device x.state_relation k.device.port port slot Free (record {
    world = record { present = refl; ids = refl; sizes = refl; disks = refl; aside = refl; memory = refl };
    moves = λ q s id u ne e is r. r;
    others = λ q s ne. SameSlot-refl (k.device.port q) s;
    here = record { is_not_issued = over.is_not_issued; is_not_taken = over.is_not_taken; unarmed = over_unarmed k.slot_states m k.device port slot x.state_relation unarmed over };
    apart = λ q s id f u. absurd (let z : Free ≡ Serves id = f in cc);
    fre = λ q. refl;
    received_at = λ q. refl;
    present = λ q. refl;
    disk = λ q. refl;
  })

  pub park_knows : (id : RequestId) → k.slot_states port slot ≡ Serves id → DriverRelation m (with_slot_freed_and_request_parked k port slot id)
  park_knows id u = record {
    state_relation = free_agrees (λ e. let z : Serves id ≡ Armed = sym u ∙ e in cc);
    have_slots_unless_parked = λ q y may at_port. ⊎_elim
        (λ (p : Contains (k.awaiting_disposition q) y.request.id). inl (more q y.request.id p))
        (λ (w : (s : ℕ) × (k.slot_states q s ≡ Serves y.request.id)). ⊎_elim
        (λ (here : (q ≡ port) × (w.0 ≡ slot)).
        let same : y.request.id ≡ id = serves_same (sym w.1 ∙ ap (λ (n : ℕ). k.slot_states n w.0) here.0 ∙ ap (λ (n : ℕ). k.slot_states port n) here.1 ∙ u) in
        inl (subst (λ (n : ℕ). Contains (changed k.awaiting_disposition port (id ∷ k.awaiting_disposition port) n) y.request.id) (sym here.0)
        (subst (λ (l : List RequestId). Contains l y.request.id) (sym (changed_same k.awaiting_disposition port (id ∷ k.awaiting_disposition port))) (contains_here id (k.awaiting_disposition port) y.request.id same))))
        (λ (there : (q ≡ port → w.0 ≡ slot → ⊥) × (set_slot_state k.slot_states port slot Free q w.0 ≡ k.slot_states q w.0)). inr (w.0, there.1 ∙ w.1))
        (put_cases k.slot_states port slot Free q w.0))
        (x.have_slots_unless_parked q y may at_port);
  }
    where
      more : (q : ℕ) (i : RequestId) → Contains (k.awaiting_disposition q) i → Contains (changed k.awaiting_disposition port (id ∷ k.awaiting_disposition port) q) i
      more q i = changed_at k.awaiting_disposition port (id ∷ k.awaiting_disposition port) (λ n l. Contains (k.awaiting_disposition n) i → Contains l i) (λ c. contains_there id (k.awaiting_disposition port) i c) (λ n _ c. c) q

  pub own_release_knows : (o : Operation) → k.slot_states port slot ≡ Own o → DriverRelation m (with_slot_freed k port slot)
  own_release_knows o u = record {
    state_relation = free_agrees (λ e. let z : Own o ≡ Armed = sym u ∙ e in cc);
    have_slots_unless_parked = λ q. put_have k.slot_states m port slot Free q (k.awaiting_disposition q) (λ id v. absurd (let z : Own o ≡ Serves id = sym u ∙ v in cc)) (x.have_slots_unless_parked q);
  }

-- an armed slot of a port whose ST is 0, which has cleared the bit
pub disarm_knows : (k : DriverState) (m : Machine) → DriverRelation m k → (port slot : ℕ) → (k.device.port port).st ≡ false → k.slot_states port slot ≡ Armed → DriverRelation m (with_slot_freed k port slot)
disarm_knows k m x port slot st u = record {
  state_relation = put_agrees k.slot_states m m k.device x.state_relation k.device.port port slot Free (record {
    world = record { present = refl; ids = refl; sizes = refl; disks = refl; aside = refl; memory = refl };
    moves = λ q s id u ne e is r. r;
    others = λ q s ne. SameSlot-refl (k.device.port q) s;
    here = (let h : IsArmedIfSt (k.device.port port) slot = subst (λ (w : SlotState). RelatesSlot m k.device.memory k.device.tape (k.device.port port) port slot w) u (x.state_relation.relates_slots port slot) in record { is_not_issued = h.is_not_issued; is_not_taken = h.is_not_taken; unarmed = h.armed ∙ st });
    apart = λ q s id f u. absurd (let z : Free ≡ Serves id = f in cc);
    fre = λ q. refl;
    received_at = λ q. refl;
    present = λ q. refl;
    disk = λ q. refl;
  });
  have_slots_unless_parked = λ q. put_have k.slot_states m port slot Free q (k.awaiting_disposition q) (λ id v. absurd (let z : Armed ≡ Serves id = sym u ∙ v in cc)) (x.have_slots_unless_parked q);
}
