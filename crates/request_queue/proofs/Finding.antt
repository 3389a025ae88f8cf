-- The request with an id.
use Rattle.std.proofs.Common.{◌≡◌, ◌≢◌, ◌↔◌, ◌⊎◌, Bool, true, false, not, cond, List, [], ◌∷◌, map, Option, Some, None, inl, inr, refl, sym, ap, ◌∙◌, subst, ⊎_elim, eqb-true, eq-eqb}
use Rattle.std.specs.List.{AllPairs, Contains}
use Rattle.std.proofs.lemmas.Bool.{cond-true, cond-false, both_ways, ne_eqb}
use Rattle.std.proofs.lemmas.Option.{same_Some}
use Rattle.ata_types.specs.declared.request.RequestId.{RequestId}
use Rattle.request_queue.specs.BookEntries.{BookEntry, has_id, entry_with_id, update_if_id, without_entry, IsEarlier, IsUnanswered}
use Rattle.request_queue.specs.declared.PendingRequest.{PendingRequest}
use Rattle.request_queue.proofs.Members.{contains_none, contains_here, contains_there, contains_cases, into_map}
use Rattle.request_queue.proofs.Changing.{rest_ordered, one_by_id, without_in}

named : (id : RequestId) (e : BookEntry) → has_id id e ≡ true → e.request.id ≡ id
named id e t = ap (λ n. record { 0 = n }) (eqb-true e.request.id.0 id.0 t)

names : (id : RequestId) (e : BookEntry) → e.request.id ≡ id → has_id id e ≡ true
names id e is = eq-eqb e.request.id.0 id.0 (ap (λ (i : RequestId). i.0) is)

unnamed : (id : RequestId) (e : BookEntry) → e.request.id ≢ id → has_id id e ≡ false
unnamed id e other = ne_eqb e.request.id.0 id.0 (λ same. other (ap (λ n. record { 0 = n }) same))

pub found : (es : List BookEntry) (e : BookEntry) → AllPairs IsEarlier es → Contains es e → entry_with_id e.request.id es ≡ Some e
found [] e ordered h = absurd (contains_none e h)
found (x ∷ xs) e ordered h = by (λ k. found xs e (rest_ordered x xs ordered) k) (has_id e.request.id x) refl
  where
    by : (Contains xs e → entry_with_id e.request.id xs ≡ Some e) → (b : Bool) → has_id e.request.id x ≡ b → entry_with_id e.request.id (x ∷ xs) ≡ Some e
    by later true t =
        cond-true (has_id e.request.id x) (Some x) (entry_with_id e.request.id xs) t
        ∙ ap Some (one_by_id (x ∷ xs) x e ordered (contains_here x xs x refl) h (ap (λ (i : RequestId). i.0) (named e.request.id x t)))
    by later false t =
        cond-false (has_id e.request.id x) (Some x) (entry_with_id e.request.id xs) t
        ∙ later (⊎_elim (λ (same : e ≡ x). absurd (both_ways _ t (names e.request.id x (ap (λ (y : BookEntry). y.request.id) (sym same))))) (λ k. k) (contains_cases x xs e h))

pub found_is : (es : List BookEntry) (id : RequestId) (e : BookEntry) → entry_with_id id es ≡ Some e → Contains es e × (e.request.id ≡ id)
found_is [] id e is = let no : ◌≡◌ {A = Option BookEntry} None (Some e) = is in absurd cc
found_is (x ∷ xs) id e is = by (λ later. found_is xs id e later) (has_id id x) refl
  where
    by : (entry_with_id id xs ≡ Some e → Contains xs e × (e.request.id ≡ id)) → (b : Bool) → has_id id x ≡ b → Contains (x ∷ xs) e × (e.request.id ≡ id)
    by later true t =
        let same : x ≡ e = same_Some x e (sym (cond-true (has_id id x) (Some x) (entry_with_id id xs) t) ∙ is) in
        (contains_here x xs e (sym same), ap (λ (y : BookEntry). y.request.id) (sym same) ∙ named id x t)
    by later false t = let r = later (sym (cond-false (has_id id x) (Some x) (entry_with_id id xs) t) ∙ is) in (contains_there x xs e r.0, r.1)

pub none_found : (es : List BookEntry) (id : RequestId) → entry_with_id id es ≡ None → IsUnanswered id es → ⊥
none_found [] id is h = contains_none h.0 h.1
none_found (x ∷ xs) id is h = by (λ later k. none_found xs id later k) (has_id id x) refl
  where
    by : (entry_with_id id xs ≡ None → IsUnanswered id xs → ⊥) → (b : Bool) → has_id id x ≡ b → ⊥
    by later true t = let both : Some x ≡ None = sym (cond-true (has_id id x) (Some x) (entry_with_id id xs) t) ∙ is in cc
    by later false t = ⊎_elim
        (λ (same : h.0 ≡ x). both_ways _ t (names id x (ap (λ (y : BookEntry). y.request.id) (sym same) ∙ h.2)))
        (λ there. later (sym (cond-false (has_id id x) (Some x) (entry_with_id id xs) t) ∙ is) (h.0, there, h.2))
        (contains_cases x xs h.0 h.1)

-- ---- after a change

pub changed_there : (es : List BookEntry) (id : RequestId) (f : PendingRequest → PendingRequest) (e : BookEntry) → Contains es e → e.request.id ≡ id → Contains (map (update_if_id id f) es) (record e { request = f e.request })
changed_there es id f e h is =
    subst (λ (x : BookEntry). Contains (map (update_if_id id f) es) x) (cond-true (has_id id e) (record e { request = f e.request }) e (names id e is)) (into_map (update_if_id id f) es e h)

pub other_there : (es : List BookEntry) (id : RequestId) (f : PendingRequest → PendingRequest) (e : BookEntry) → Contains es e → e.request.id ≢ id → Contains (map (update_if_id id f) es) e
other_there es id f e h other =
    subst (λ (x : BookEntry). Contains (map (update_if_id id f) es) x) (cond-false (has_id id e) (record e { request = f e.request }) e (unnamed id e other)) (into_map (update_if_id id f) es e h)

pub without_other : (id : RequestId) (es : List BookEntry) (e : BookEntry) → Contains (without_entry id es) e → e.request.id ≢ id
without_other id [] e h = absurd (contains_none e h)
without_other id (x ∷ xs) e h = go (has_id id x) refl (λ k. without_other id xs e k) h
  where
    go : (b : Bool) → has_id id x ≡ b → (Contains (without_entry id xs) e → e.request.id ≢ id) → Contains (cond (not b) (x ∷ without_entry id xs) (without_entry id xs)) e → e.request.id ≢ id
    go true t rest k = rest k
    go false t rest k = ⊎_elim
        (λ (same : e ≡ x) (is : e.request.id ≡ id). both_ways _ t (names id x (ap (λ (y : BookEntry). y.request.id) (sym same) ∙ is)))
        (λ later. rest later)
        (contains_cases x (without_entry id xs) e k)

pub stays : (id : RequestId) (es : List BookEntry) (e : BookEntry) → Contains es e → e.request.id ≢ id → Contains (without_entry id es) e
stays id [] e h other = absurd (contains_none e h)
stays id (x ∷ xs) e h other = go (has_id id x) refl (λ k. stays id xs e k other) (contains_cases x xs e h)
  where
    go : (b : Bool) → has_id id x ≡ b → (Contains xs e → Contains (without_entry id xs) e) → (e ≡ x) ⊎ Contains xs e → Contains (cond (not b) (x ∷ without_entry id xs) (without_entry id xs)) e
    go true t rest (inl same) = absurd (other (ap (λ (y : BookEntry). y.request.id) same ∙ named id x t))
    go true t rest (inr k) = rest k
    go false t rest (inl same) = contains_here x (without_entry id xs) e same
    go false t rest (inr k) = contains_there x (without_entry id xs) e (rest k)

pub without_is : (es : List BookEntry) (id : RequestId) (e : BookEntry) → Contains (without_entry id es) e ↔ (Contains es e × (e.request.id ≢ id))
without_is es id e = ((λ h. (without_in id es e h, without_other id es e h)), (λ h. stays id es e h.0 h.1))
