-- What a touch or an end of one request leaves of the machine.
use Rattle.std.proofs.Common.{ℕ, ◌≡◌, ◌≢◌, true, ◌==◌, map, List, refl, sym, ◌∙◌, ap, subst, inl, inr, ⊎_elim, eq-eqb}
use Rattle.std.specs.List.{Contains}
use Rattle.std.proofs.lemmas.Bool.{cond-true}
use Rattle.ata_types.specs.declared.Port.{Port}
use Rattle.ata_types.specs.declared.request.RequestId.{RequestId}
use Rattle.block_machine.specs.State.{Block, Pending, Machine}
use Rattle.block_machine.specs.Steps.{Touch, End, IsIssuedOrKept, after_step, update_pending, touch, mark_ended}
use Rattle.block_machine.proofs.Members.{map_in, into_map, at_cases}
use Rattle.block_machine.proofs.Keeps.{at_keeps}

-- all but the request of this id goes on as it was
pub record Goes (m m' : Machine) (id : RequestId) : Type 0 where
  pub present : (port : Port) → m'.present port ≡ m.present port
  pub ids : (port : Port) → m'.disk_ids port ≡ m.disk_ids port
  pub sizes : (port : Port) → m'.sizes port ≡ m.sizes port
  pub moves : (e : Pending) → e.request.id ≢ id → IsIssuedOrKept m e → IsIssuedOrKept m' e
  pub back : (e : Pending) → IsIssuedOrKept m' e → (o : Pending) × IsIssuedOrKept m o × (e.request ≡ o.request)

pub Goes-refl : (m : Machine) (id : RequestId) → Goes m m id
Goes-refl m id = record { present = λ _. refl; ids = λ _. refl; sizes = λ _. refl; moves = λ e ne r. r; back = λ e r. (e, r, refl) }

pub Goes-trans : (a b c : Machine) (id : RequestId) → Goes a b id → Goes b c id → Goes a c id
Goes-trans a b c id x y = record {
  present = λ p. y.present p ∙ x.present p;
  ids = λ p. y.ids p ∙ x.ids p;
  sizes = λ p. y.sizes p ∙ x.sizes p;
  moves = λ e ne r. y.moves e ne (x.moves e ne r);
  back = λ e r. let q = y.back e r in let s = x.back q.0 q.1 in (s.0, s.1, q.2 ∙ s.2);
}

-- a request is left by a change of another
pub into_other : (f : Pending → Pending) (id : RequestId) (es : List Pending) (e : Pending) → e.request.id ≢ id → Contains es e → Contains (map (update_pending id f) es) e
into_other f id es e ne i =
    ⊎_elim (λ p. absurd (ne (ap (λ (n : ℕ). record { 0 = n }) p.0))) (λ p. subst (λ (x : Pending). Contains (map (update_pending id f) es) x) p.1 (into_map (update_pending id f) es e i)) (at_cases id f e)

-- a change of one request that keeps what it asks, and whether it is issued
module _ (f : Pending → Pending) (issued : (e : Pending) → (f e).issued ≡ e.issued) (request : (e : Pending) → (f e).request ≡ e.request) where
  at_own : (e : Pending) → update_pending e.request.id f e ≡ f e
  at_own e = cond-true (e.request.id.0 == e.request.id.0) (f e) e (eq-eqb e.request.id.0 e.request.id.0 refl)

  at_issued : (id : RequestId) (e : Pending) → (update_pending id f e).issued ≡ e.issued
  at_issued id e = ⊎_elim (λ p. ap (λ (x : Pending). x.issued) p.1 ∙ issued e) (λ p. ap (λ (x : Pending). x.issued) p.1) (at_cases id f e)

  goes_at : (m n : Machine) (id : RequestId) → n.book ≡ map (update_pending id f) m.book → n.kept ≡ map (update_pending id f) m.kept →
      ((port : Port) → n.present port ≡ m.present port) → ((port : Port) → n.disk_ids port ≡ m.disk_ids port) → ((port : Port) → n.sizes port ≡ m.sizes port) → Goes m n id
  goes_at m n id book kept present ids sizes = record {
    present = present;
    ids = ids;
    sizes = sizes;
    moves = λ e ne r. ⊎_elim
        (λ (x : Contains m.book e × (e.issued ≡ true)). inl (subst (λ (es : List Pending). Contains es e) (sym book) (into_other f id m.book e ne x.0), x.1))
        (λ (x : Contains m.kept e). inr (subst (λ (es : List Pending). Contains es e) (sym kept) (into_other f id m.kept e ne x))) r;
    back = λ e r. ⊎_elim
        (λ (x : Contains n.book e × (e.issued ≡ true)).
        let q = map_in (update_pending id f) m.book e (subst (λ (es : List Pending). Contains es e) book x.0) in
        (q.0, inl (q.1, sym (at_issued id q.0) ∙ ap (λ (y : Pending). y.issued) (sym q.2) ∙ x.1), ap (λ (y : Pending). y.request) q.2 ∙ at_keeps id f request q.0))
        (λ (x : Contains n.kept e).
        let q = map_in (update_pending id f) m.kept e (subst (λ (es : List Pending). Contains es e) kept x) in
        (q.0, inr q.1, ap (λ (y : Pending). y.request) q.2 ∙ at_keeps id f request q.0)) r;
  }

  own_moves : (m n : Machine) (e : Pending) → n.book ≡ map (update_pending e.request.id f) m.book → n.kept ≡ map (update_pending e.request.id f) m.kept → IsIssuedOrKept m e → IsIssuedOrKept n (f e)
  own_moves m n e book kept r = ⊎_elim
      (λ (x : Contains m.book e × (e.issued ≡ true)).
      inl (subst (λ (es : List Pending). Contains es (f e)) (sym book) (subst (λ (y : Pending). Contains (map (update_pending e.request.id f) m.book) y) (at_own e) (into_map (update_pending e.request.id f) m.book e x.0)), issued e ∙ x.1))
      (λ (x : Contains m.kept e).
      inr (subst (λ (es : List Pending). Contains es (f e)) (sym kept) (subst (λ (y : Pending). Contains (map (update_pending e.request.id f) m.kept) y) (at_own e) (into_map (update_pending e.request.id f) m.kept e x)))) r

pub touch_goes : (m : Machine) (e : Pending) (i : ℕ) (block : Block) → Goes m (after_step m (Touch e i block)) e.request.id
touch_goes m e i block = goes_at (touch i) (λ x. refl) (λ x. refl) m (after_step m (Touch e i block)) e.request.id refl refl (λ p. refl) (λ p. refl) (λ p. refl)

pub touch_moves : (m : Machine) (e : Pending) (i : ℕ) (block : Block) → IsIssuedOrKept m e → IsIssuedOrKept (after_step m (Touch e i block)) (touch i e)
touch_moves m e i block r = own_moves (touch i) (λ x. refl) (λ x. refl) m (after_step m (Touch e i block)) e refl refl r

pub end_goes : (m : Machine) (e : Pending) → Goes m (after_step m (End e)) e.request.id
end_goes m e = goes_at mark_ended (λ x. refl) (λ x. refl) m (after_step m (End e)) e.request.id refl refl (λ p. refl) (λ p. refl) (λ p. refl)

pub end_moves : (m : Machine) (e : Pending) → IsIssuedOrKept m e → IsIssuedOrKept (after_step m (End e)) (mark_ended e)
end_moves m e r = own_moves mark_ended (λ x. refl) (λ x. refl) m (after_step m (End e)) e refl refl r
