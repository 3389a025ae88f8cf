-- Only frames of clients are lent, and each to a request that has it.
use Rattle.std.proofs.Common.{◌≡◌, ◌⊎◌, ◌≤◌, ◌==◌, Bool, true, false, List, [], ◌∷◌, Option, Some, None, refl, sym, ◌∙◌, ap, subst, inl, inr, ⊎_elim}
use Rattle.std.specs.Prelude.{if◌then◌else◌}
use Rattle.std.specs.List.{list_any}
use Rattle.std.proofs.lemmas.Bool.{cond-true, cond-false}
use Rattle.ata_types.specs.declared.request.Frame.{Frame}
use Rattle.ata_types.specs.declared.request.RequestId.{RequestId}
use Rattle.ata_types.specs.declared.refusal.FrameFault.TheVariants.{FrameForeign}
use Rattle.ata_types.specs.declared.refusal.Rule.TheVariants.{Frames}
use Rattle.ata_types.specs.declared.memory.TheConstants.{DRIVER_FRAMES}
use Rattle.block_machine.specs.Confinement.{WasAccepted, HasFrame}
use Rattle.block_machine.specs.State.{Accepted, Pending, Machine, nth_frame}
use Rattle.block_machine.specs.Steps.{Step, Accept, Answer, Release, IsEnabled, IsInBookOrKept, after_step, is_kept_at_answer, unlend, is_lent_to}
use Rattle.block_machine.specs.Events.{AllEnabled}
use Rattle.block_machine.specs.Expected.{after, IsInitial}
use Rattle.block_machine.specs.Histories.{IsReachable}
use Rattle.block_machine.proofs.Accepts.{living_accepted, law_one_id_is_one_request}
use Rattle.block_machine.proofs.Configured.{owners_stay}
use Rattle.block_machine.proofs.Keeps.{get_frame, place_of}
use Rattle.block_machine.proofs.Limits.{owned}
use Rattle.block_machine.proofs.Trace.{Comes}

-- it was lent before, or to the request that comes
abbrev IsComing : Machine → Step → Frame → RequestId → Type 0
IsComing m step f id = (m.lent f ≡ Some id) ⊎ ((r : Accepted) × Comes m step r × (r.id ≡ id) × HasFrame r f)

some-none : {A B : Type 0} {o : Option B} {x : B} → o ≡ Some x → o ≡ None → A
some-none {A} {B} {o} {x} h k = absurd (let e : Some x ≡ None = sym h ∙ k in cc)

-- where nothing or the loan as it was is there now
as_was : (b : Bool) (lent : Option RequestId) (id : RequestId) → (if b then None else lent) ≡ Some id → lent ≡ Some id
as_was true lent id h = some-none h refl
as_was false lent id h = h

one_id : {a b : RequestId} → Some a ≡ Some b → a ≡ b
one_id h = cc

lent_before : (m : Machine) (step : Step) (f : Frame) (id : RequestId) → IsEnabled m step → (after_step m step).lent f ≡ Some id → IsComing m step f id
lent_before m (Accept r) f id may h = by (list_any (λ g. g.0 == f.0) r.asked.frames.items) refl
  where
    by : (b : Bool) → list_any (λ g. g.0 == f.0) r.asked.frames.items ≡ b → IsComing m (Accept r) f id
    by true e = inr (r, (refl, may), one_id (sym (cond-true (list_any (λ g. g.0 == f.0) r.asked.frames.items) (Some r.id) (m.lent f) e) ∙ h), place_of f r.asked.frames.items e)
    by false e = inl (sym (cond-false (list_any (λ g. g.0 == f.0) r.asked.frames.items) (Some r.id) (m.lent f) e) ∙ h)
lent_before m (Answer e outcome) f id may h = by (is_kept_at_answer e outcome) refl
  where
    by : (b : Bool) → is_kept_at_answer e outcome ≡ b → IsComing m (Answer e outcome) f id
    by true s = inl (sym (ap (λ (lent : Frame → Option RequestId). lent f) (cond-true (is_kept_at_answer e outcome) m.lent (unlend e.request.id m.lent) s)) ∙ h)
    by false s = inl (as_was (is_lent_to e.request.id (m.lent f)) (m.lent f) id (sym (ap (λ (lent : Frame → Option RequestId). lent f) (cond-false (is_kept_at_answer e outcome) m.lent (unlend e.request.id m.lent) s)) ∙ h))
lent_before m Release f id may h = inl (as_was (list_any (λ e. is_lent_to e.request.id (m.lent f)) m.kept) (m.lent f) id h)
lent_before m _ f id may h = inl h

lent_at : (start : Machine) (past : List Step) (f : Frame) (id : RequestId) → IsInitial start → AllEnabled start past → (after start past).lent f ≡ Some id → DRIVER_FRAMES ≤ f.0
lent_at start [] f id s enabled h = some-none h (s.no_frame_is_lent f)
lent_at start (step ∷ past) f id s enabled h = ⊎_elim
    (λ (l : (after start past).lent f ≡ Some id). lent_at start past f id s enabled.0 l)
    (λ (o : (r : Accepted) × Comes (after start past) step r × (r.id ≡ id) × HasFrame r f).
    (s.owned_frames_are_clients f o.0.asked.client (sym (owners_stay start past f) ∙ ap (after start past).owner (sym o.3.2)
    ∙ owned _ o.0.asked.client (λ ne. o.1.1.breaks_no_rule (Frames (FrameForeign o.3.0)) (nth_frame o.0.asked.frames.items o.3.0, get_frame o.0.asked.frames.items o.3.0 o.3.1, ne)))).2)
    (lent_before (after start past) step f id enabled.1 h)

pub lent_clients : (m : Machine) (f : Frame) (id : RequestId) → IsReachable m → m.lent f ≡ Some id → DRIVER_FRAMES ≤ f.0
lent_clients m f id r h = lent_at r.initial_machine r.steps_since f id r.is_initial r.steps_since_are_enabled (ap (λ (x : Machine). x.lent f) (sym r.leads_to_machine) ∙ h)

-- what is lent, is lent to an accepted request that has it
pub lent_accepted : (start : Machine) (past : List Step) (f : Frame) (id : RequestId) → IsInitial start → AllEnabled start past → (after start past).lent f ≡ Some id →
    (r : Accepted) × WasAccepted start past r × (r.id ≡ id) × HasFrame r f
lent_accepted start [] f id s enabled h = some-none h (s.no_frame_is_lent f)
lent_accepted start (step ∷ past) f id s enabled h = ⊎_elim
    (λ (l : (after start past).lent f ≡ Some id). let x = lent_accepted start past f id s enabled.0 l in (x.0, inr x.1, x.2, x.3))
    (λ (o : (r : Accepted) × Comes (after start past) step r × (r.id ≡ id) × HasFrame r f). (o.0, inl o.1, o.2, o.3))
    (lent_before (after start past) step f id enabled.1 h)

-- a frame that is lent to a request is one of its frames
pub lent_own : (m : Machine) (f : Frame) (e : Pending) → IsReachable m → IsInBookOrKept m e → m.lent f ≡ Some e.request.id → HasFrame e.request f
lent_own m f e r l h =
    let x = lent_accepted r.initial_machine r.steps_since f e.request.id r.is_initial r.steps_since_are_enabled (ap (λ (n : Machine). n.lent f) (sym r.leads_to_machine) ∙ h) in
    let mine = living_accepted r.initial_machine r.steps_since r.is_initial r.steps_since_are_enabled e (subst (λ (n : Machine). IsInBookOrKept n e) r.leads_to_machine l) in
    subst (λ (o : Accepted). HasFrame o f) (law_one_id_is_one_request r.initial_machine r.steps_since x.0 e.request x.1 mine x.2) x.3
