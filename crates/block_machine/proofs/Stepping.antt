-- What the machine's steps on requests leave of what says which are due.
use Rattle.std.proofs.Common.{◌≡◌, suc, Bool, true, false, cond, not, ◌&&◌, ◌==◌, ℕ, List, [], ◌∷◌, map, refl, sym, ap, ◌∙◌}
use Rattle.std.proofs.lemmas.Bool.{cond-true, cond-false}
use Rattle.ata_types.specs.declared.Port.{Port}
use Rattle.ata_types.specs.declared.request.RequestId.{RequestId}
use Rattle.block_machine.specs.declared.due.Unanswered.{Unanswered}
use Rattle.block_machine.specs.DueRequests.{with_issued, with_waiting, without_request}
use Rattle.block_machine.specs.State.{Pending, unanswered}
use Rattle.block_machine.specs.Steps.{update_pending, without_pending, newly_issued, requeued, touch, mark_ended, aged_pending}

pub asks_issued : (ps : List Pending) (id : RequestId) → map unanswered (map (update_pending id newly_issued) ps) ≡ with_issued id (map unanswered ps)
asks_issued [] id = refl
asks_issued (p ∷ ps) id = go (p.request.id.0 == id.0) refl (asks_issued ps id)
  where
    go : (b : Bool) → (p.request.id.0 == id.0) ≡ b → map unanswered (map (update_pending id newly_issued) ps) ≡ with_issued id (map unanswered ps)
        → map unanswered (map (update_pending id newly_issued) (p ∷ ps)) ≡ with_issued id (map unanswered (p ∷ ps))
    go true e rest =
        ap (λ (x : Pending). unanswered x ∷ map unanswered (map (update_pending id newly_issued) ps)) (cond-true (p.request.id.0 == id.0) (newly_issued p) p e)
        ∙ (ap (λ (us : List Unanswered). unanswered (newly_issued p) ∷ us) rest
        ∙ ap (λ (x : Unanswered). x ∷ with_issued id (map unanswered ps)) (sym (cond-true (p.request.id.0 == id.0) (record (unanswered p) { issued = true }) (unanswered p) e)))
    go false e rest =
        ap (λ (x : Pending). unanswered x ∷ map unanswered (map (update_pending id newly_issued) ps)) (cond-false (p.request.id.0 == id.0) (newly_issued p) p e)
        ∙ (ap (λ (us : List Unanswered). unanswered p ∷ us) rest
        ∙ ap (λ (x : Unanswered). x ∷ with_issued id (map unanswered ps)) (sym (cond-false (p.request.id.0 == id.0) (record (unanswered p) { issued = true }) (unanswered p) e)))

pub asks_waiting : (ps : List Pending) (id : RequestId) → map unanswered (map (update_pending id requeued) ps) ≡ with_waiting id (map unanswered ps)
asks_waiting [] id = refl
asks_waiting (p ∷ ps) id = go (p.request.id.0 == id.0) refl (asks_waiting ps id)
  where
    go : (b : Bool) → (p.request.id.0 == id.0) ≡ b → map unanswered (map (update_pending id requeued) ps) ≡ with_waiting id (map unanswered ps)
        → map unanswered (map (update_pending id requeued) (p ∷ ps)) ≡ with_waiting id (map unanswered (p ∷ ps))
    go true e rest =
        ap (λ (x : Pending). unanswered x ∷ map unanswered (map (update_pending id requeued) ps)) (cond-true (p.request.id.0 == id.0) (requeued p) p e)
        ∙ (ap (λ (us : List Unanswered). unanswered (requeued p) ∷ us) rest
        ∙ ap (λ (x : Unanswered). x ∷ with_waiting id (map unanswered ps)) (sym (cond-true (p.request.id.0 == id.0) (record (unanswered p) { issued = false }) (unanswered p) e)))
    go false e rest =
        ap (λ (x : Pending). unanswered x ∷ map unanswered (map (update_pending id requeued) ps)) (cond-false (p.request.id.0 == id.0) (requeued p) p e)
        ∙ (ap (λ (us : List Unanswered). unanswered p ∷ us) rest
        ∙ ap (λ (x : Unanswered). x ∷ with_waiting id (map unanswered ps)) (sym (cond-false (p.request.id.0 == id.0) (record (unanswered p) { issued = false }) (unanswered p) e)))

pub asks_gone : (ps : List Pending) (id : RequestId) → map unanswered (without_pending id ps) ≡ without_request id (map unanswered ps)
asks_gone [] id = refl
asks_gone (p ∷ ps) id = go (not (p.request.id.0 == id.0)) refl (asks_gone ps id)
  where
    go : (b : Bool) → not (p.request.id.0 == id.0) ≡ b → map unanswered (without_pending id ps) ≡ without_request id (map unanswered ps)
        → map unanswered (cond b (p ∷ without_pending id ps) (without_pending id ps)) ≡ cond b (unanswered p ∷ without_request id (map unanswered ps)) (without_request id (map unanswered ps))
    go true e rest = ap (λ (us : List Unanswered). unanswered p ∷ us) rest
    go false e rest = rest

-- steps that leave it as it is
asks_kept : (f : Pending → Pending) → ((p : Pending) → unanswered (f p) ≡ unanswered p) → (ps : List Pending) → map unanswered (map f ps) ≡ map unanswered ps
asks_kept f same [] = refl
asks_kept f same (p ∷ ps) = ap (λ (u : Unanswered). u ∷ map unanswered (map f ps)) (same p) ∙ ap (λ (us : List Unanswered). unanswered p ∷ us) (asks_kept f same ps)

at_kept : (id : RequestId) (g : Pending → Pending) → ((p : Pending) → unanswered (g p) ≡ unanswered p) → (p : Pending) → unanswered (update_pending id g p) ≡ unanswered p
at_kept id g same p = go (p.request.id.0 == id.0) refl
  where
    go : (b : Bool) → (p.request.id.0 == id.0) ≡ b → unanswered (update_pending id g p) ≡ unanswered p
    go true e = ap unanswered (cond-true (p.request.id.0 == id.0) (g p) p e) ∙ same p
    go false e = ap unanswered (cond-false (p.request.id.0 == id.0) (g p) p e)

pub asks_touched : (ps : List Pending) (id : RequestId) (i : ℕ) → map unanswered (map (update_pending id (touch i)) ps) ≡ map unanswered ps
asks_touched ps id i = asks_kept (update_pending id (touch i)) (at_kept id (touch i) (λ p. refl)) ps

pub asks_ended : (ps : List Pending) (id : RequestId) → map unanswered (map (update_pending id mark_ended) ps) ≡ map unanswered ps
asks_ended ps id = asks_kept (update_pending id mark_ended) (at_kept id mark_ended (λ p. refl)) ps

pub asks_older : (ps : List Pending) (ports : Port → Bool) → map unanswered (map (aged_pending ports) ps) ≡ map unanswered ps
asks_older ps ports = asks_kept (aged_pending ports) (λ p. go p (p.issued && ports p.request.port) refl) ps
  where
    go : (p : Pending) (b : Bool) → (p.issued && ports p.request.port) ≡ b → unanswered (aged_pending ports p) ≡ unanswered p
    go p true e = ap unanswered (cond-true (p.issued && ports p.request.port) (record p { age = suc p.age }) p e)
    go p false e = ap unanswered (cond-false (p.issued && ports p.request.port) (record p { age = suc p.age }) p e)
