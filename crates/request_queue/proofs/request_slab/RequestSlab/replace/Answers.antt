use Rattle.std.proofs.Common.{◌≡◌, ℕ, ◌<◌, List, length, get_or, set, refl, arith, sym, ap, subst, ◌∙◌, Some, Option, None}
use Rattle.std.specs.List.{slice_get}
use Rattle.std.specs.Option.{IfSome}
use Rattle.std.proofs.lemmas.List.{length-map, get_or_default}
use Rattle.request_queue.specs.BookEntries.{BookEntry}
use Rattle.request_queue.specs.RequestSlab.{entry_at_key, frames_of}
use Rattle.request_queue.proofs.Keeping.{sound_replaced, entries_replaced, stands_at}
use Rattle.request_queue.proofs.request_slab.RequestSlab.replace.Goals as goal
use Rattle.request_queue.proofs.request_slab.RequestSlab.replace.Goals.{After-self-1}

within : (c : After-self-1) → c.args.place < length c.self.inside.order.items
within c =
    let same = sym (length-map c.self.inside.order.items (entry_at_key c.self.inside.requests c.self.inside.loans.items)) ∙ ap length c.self.view_is in
    omega (arith, same, c.requires.place_is_in_range)

is_key : (c : After-self-1) (d : ℕ) → get_or c.self.inside.order.items c.args.place d ≡ c.index-key.result.now
is_key c d = get_or_default c.self.inside.order.items c.args.place d c.index-key.result.now (within c) ∙ sym c.index-key.ensures

stands : (c : After-self-1) → slice_get c.args.self.now c.args.place ≡ Some (record { request = c.index_mut.result.now; frames = frames_of (get_or c.self.inside.loans.items c.index-key.result.now None) })
stands c = rw (sym c.self.view_is) (stands_at c.self.inside.requests c.self.inside.loans.items c.self.inside.order.items c.index-key.result.now c.args.place (within c) (is_key c) ∙ rw c.index_mut.ensures.value refl)

same_id : (c : After-self-1) → c.args.request.id ≡ c.index_mut.result.now.id
same_id c = subst (λ (o : Option BookEntry). IfSome o (λ old. c.args.request.id ≡ old.request.id)) (stands c) c.requires.same_id

pub invariant_of-self : goal.invariant_of-self
invariant_of-self c = (
  sound_replaced _ _ _ _ c.args.place c.index_mut.result.now c.args.request c.self.invariant.0 (within c) (is_key c) c.index_mut.ensures.value (same_id c),
  c.self.invariant.1,
)

pub returns : goal.returns
returns c = (
  record { request = c.index_mut.result.now; frames = frames_of (get_or c.self.inside.loans.items c.index-key.result.now None) },
  stands c,
  entries_replaced _ _ _ _ c.args.place c.index_mut.result.now c.args.request c.self.invariant.0 (within c) (is_key c) c.index_mut.ensures.value
      ∙ ap (λ (es : List BookEntry). set es c.args.place (record { request = c.args.request; frames = frames_of (get_or c.self.inside.loans.items c.index-key.result.now None) })) c.self.view_is,
)
