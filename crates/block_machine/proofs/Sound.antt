-- What holds of the machine's book, kept requests and loans after every step.
use Rattle.std.proofs.Common.{◌≡◌, ℕ, ◌*◌, ◌<◌, ◌≤◌, true, List, length, Option, Some, inl, inr, sym, ap, ◌∙◌, subst}
use Rattle.std.specs.List.{Contains}
use Rattle.ata_types.specs.declared.request.Frame.{Frame}
use Rattle.ata_types.specs.declared.request.RequestId.{RequestId}
use Rattle.block_machine.specs.State.{Accepted, Pending, Machine, is_reader, nth_frame, newly_unanswered}
use Rattle.block_machine.specs.DueRequests.{conflict_on_port_by_flush_or_overlap}
use Rattle.block_machine.specs.Steps.{IsInBookOrKept, IsIssuedOrKept}

abbrev pub IsLentAll : (Frame → Option RequestId) → Accepted → Type 0
IsLentAll lent request = (i : ℕ) → i < length request.asked.frames.items → lent (nth_frame request.asked.frames.items i) ≡ Some request.id

abbrev pub IsDistinct : List Frame → Type 0
IsDistinct frames = (i j : ℕ) → j < i → i < length frames → nth_frame frames j ≡ nth_frame frames i → ⊥

pub record Sound (m : Machine) : Type 0 where
  pub below : (e : Pending) → IsInBookOrKept m e → e.request.id.0 < m.next_id
  pub one : (a b : Pending) → Contains m.book a → Contains m.book b → a.request.id.0 ≡ b.request.id.0 → a ≡ b
  pub kept_one : (a b : Pending) → Contains m.kept a → Contains m.kept b → a.request.id.0 ≡ b.request.id.0 → a ≡ b
  pub apart : (a b : Pending) → Contains m.book a → Contains m.kept b → a.request.id.0 ≡ b.request.id.0 → ⊥
  pub lent : (e : Pending) → IsInBookOrKept m e → IsLentAll m.lent e.request
  pub distinct : (e : Pending) → IsInBookOrKept m e → IsDistinct e.request.asked.frames.items
  pub room : (e : Pending) → IsInBookOrKept m e → is_reader e.request.asked.op ≡ true → e.request.asked.count ≤ 8 * length e.request.asked.frames.items
  -- no earlier request that conflicts with a running one is left
  pub order : (e a : Pending) → IsIssuedOrKept m e → IsInBookOrKept m a → a.request.id.0 < e.request.id.0 → conflict_on_port_by_flush_or_overlap (newly_unanswered a.request) (newly_unanswered e.request) ≡ true → ⊥

-- each member of the new list is a member of the old one, changed
abbrev pub IsChanged : (Pending → Pending) → List Pending → List Pending → Type 0
IsChanged f old new = (e : Pending) → Contains new e → (o : Pending) × Contains old o × (e ≡ f o)

abbrev pub KeepsRequest : (Pending → Pending) → Type 0
KeepsRequest f = (e : Pending) → (f e).request ≡ e.request

-- A step that changes requests and leaves their requests, and what is lent.
pub record Carries (f g : Pending → Pending) (m n : Machine) : Type 0 where
  pub f_keeps : KeepsRequest f
  pub g_keeps : KeepsRequest g
  pub book : IsChanged f m.book n.book
  pub kept : IsChanged g m.kept n.kept
  pub next : n.next_id ≡ m.next_id
  pub lent : (x : Frame) → n.lent x ≡ m.lent x

pub lived : (f g : Pending → Pending) (m n : Machine) → Carries f g m n → (e : Pending) → IsInBookOrKept n e → (o : Pending) × IsInBookOrKept m o × (e.request ≡ o.request)
lived f g m n c e (inl h) = let r = c.book e h in (r.0, inl r.1, ap (λ (x : Pending). x.request) r.2 ∙ c.f_keeps r.0)
lived f g m n c e (inr h) = let r = c.kept e h in (r.0, inr r.1, ap (λ (x : Pending). x.request) r.2 ∙ c.g_keeps r.0)

-- the order holds after a step that issues nothing
pub order_carried : (f g : Pending → Pending) (m n : Machine) → Carries f g m n → ((e : Pending) → (f e).issued ≡ true → e.issued ≡ true) → Sound m → (e a : Pending) → IsIssuedOrKept n e → IsInBookOrKept n a → a.request.id.0 < e.request.id.0 → conflict_on_port_by_flush_or_overlap (newly_unanswered a.request) (newly_unanswered e.request) ≡ true → ⊥
order_carried f g m n c quiet s e a (inl h) l lt con =
    let r = c.book e h.0 in
    let q = lived f g m n c a l in
    let je : e.request ≡ r.0.request = ap (λ (x : Pending). x.request) r.2 ∙ c.f_keeps r.0 in
    s.order r.0 q.0 (inl (r.1, quiet r.0 (ap (λ (x : Pending). x.issued) (sym r.2) ∙ h.1))) q.1
    (subst (λ (j : Accepted). q.0.request.id.0 < j.id.0) je (subst (λ (j : Accepted). j.id.0 < e.request.id.0) q.2 lt))
    (subst (λ (j : Accepted). conflict_on_port_by_flush_or_overlap (newly_unanswered q.0.request) (newly_unanswered j) ≡ true) je (subst (λ (j : Accepted). conflict_on_port_by_flush_or_overlap (newly_unanswered j) (newly_unanswered e.request) ≡ true) q.2 con))
order_carried f g m n c quiet s e a (inr h) l lt con =
    let r = c.kept e h in
    let q = lived f g m n c a l in
    let je : e.request ≡ r.0.request = ap (λ (x : Pending). x.request) r.2 ∙ c.g_keeps r.0 in
    s.order r.0 q.0 (inr r.1) q.1
    (subst (λ (j : Accepted). q.0.request.id.0 < j.id.0) je (subst (λ (j : Accepted). j.id.0 < e.request.id.0) q.2 lt))
    (subst (λ (j : Accepted). conflict_on_port_by_flush_or_overlap (newly_unanswered q.0.request) (newly_unanswered j) ≡ true) je (subst (λ (j : Accepted). conflict_on_port_by_flush_or_overlap (newly_unanswered j) (newly_unanswered e.request) ≡ true) q.2 con))

abbrev pub IsOrdered : Machine → Type 0
IsOrdered n = (e a : Pending) → IsIssuedOrKept n e → IsInBookOrKept n a → a.request.id.0 < e.request.id.0 → conflict_on_port_by_flush_or_overlap (newly_unanswered a.request) (newly_unanswered e.request) ≡ true → ⊥

pub carried : (f g : Pending → Pending) (m n : Machine) → Carries f g m n → IsOrdered n → Sound m → Sound n
carried f g m n c o s = record {
  below = λ e l. let q = lived f g m n c e l in rw (c.next, q.2) (s.below q.0 q.1);
  one = λ a b ha hb eq.
      let p = c.book a ha in
      let q = c.book b hb in
      let jp : a.request ≡ p.0.request = ap (λ (x : Pending). x.request) p.2 ∙ c.f_keeps p.0 in
      let jq : b.request ≡ q.0.request = ap (λ (x : Pending). x.request) q.2 ∙ c.f_keeps q.0 in
      p.2 ∙ ap f (s.one p.0 q.0 p.1 q.1 (ap (λ (j : Accepted). j.id.0) (sym jp) ∙ eq ∙ ap (λ (j : Accepted). j.id.0) jq)) ∙ sym q.2;
  kept_one = λ a b ha hb eq.
      let p = c.kept a ha in
      let q = c.kept b hb in
      let jp : a.request ≡ p.0.request = ap (λ (x : Pending). x.request) p.2 ∙ c.g_keeps p.0 in
      let jq : b.request ≡ q.0.request = ap (λ (x : Pending). x.request) q.2 ∙ c.g_keeps q.0 in
      p.2 ∙ ap g (s.kept_one p.0 q.0 p.1 q.1 (ap (λ (j : Accepted). j.id.0) (sym jp) ∙ eq ∙ ap (λ (j : Accepted). j.id.0) jq)) ∙ sym q.2;
  apart = λ a b ha hb eq.
      let p = c.book a ha in
      let q = c.kept b hb in
      let jp : a.request ≡ p.0.request = ap (λ (x : Pending). x.request) p.2 ∙ c.f_keeps p.0 in
      let jq : b.request ≡ q.0.request = ap (λ (x : Pending). x.request) q.2 ∙ c.g_keeps q.0 in
      s.apart p.0 q.0 p.1 q.1 (ap (λ (j : Accepted). j.id.0) (sym jp) ∙ eq ∙ ap (λ (j : Accepted). j.id.0) jq);
  lent = λ e l i lt. let q = lived f g m n c e l in
      c.lent (nth_frame e.request.asked.frames.items i) ∙ (subst (λ (j : Accepted). IsLentAll m.lent j) (sym q.2) (s.lent q.0 q.1)) i lt;
  distinct = λ e l. let q = lived f g m n c e l in subst (λ (j : Accepted). IsDistinct j.asked.frames.items) (sym q.2) (s.distinct q.0 q.1);
  room = λ e l. let q = lived f g m n c e l in subst (λ (j : Accepted). is_reader j.asked.op ≡ true → j.asked.count ≤ 8 * length j.asked.frames.items) (sym q.2) (s.room q.0 q.1);
  order = o;
}
