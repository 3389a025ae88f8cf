use Rattle.std.proofs.Common.{◌∙◌, [], Some, List, ℕ, ap, sym, subst, rules, slice_index_or}
use Rattle.std.proofs.Common.{length-set}
use Rattle.std.proofs.lemmas.Grind.{get_or_default_zero}
use Rattle.sector_store.specs.Stores.{AreSectors, filled_with_zeros_to_size, with_sector}
use Rattle.sector_store.proofs.Sectors.{sector_rewritten, replaced_are_sectors}
use Rattle.sector_store.proofs.store.MemStoreSectorStore.write.Goals as goal

pub invariant_of-self-clause-are_sectors : goal.invariant_of-self-clause-are_sectors
invariant_of-self-clause-are_sectors c =
    let now = c.extend_to.new.self in
    subst (λ (told : ℕ → List ℕ). AreSectors now.size (Some told))
    (sym (sector_rewritten now.size c.args.sector now.written.items c.args.bytes.now c.extend_to.ensures.there))
    (replaced_are_sectors now.size c.args.sector (λ k. slice_index_or (filled_with_zeros_to_size now.size now.written.items) k []) c.args.bytes.now now.are_sectors
    (search rules, λ k d lt. rw (get_or_default_zero c.args.bytes.now k d lt) (c.fits-bytes k)))

pub invariant_of-self-clause-inside : goal.invariant_of-self-clause-inside
invariant_of-self-clause-inside c = let now = c.extend_to.new.self in rw (length-set now.written.items c.args.sector c.args.bytes.now) now.inside

pub returns : goal.returns
returns c =
    let now = c.extend_to.new.self in
    record {
      is_inside = search rules;
      sector_is_replaced = λ _. ap (λ (f : ℕ → List ℕ). Some f)
          (sector_rewritten now.size c.args.sector now.written.items c.args.bytes.now c.extend_to.ensures.there
          ∙ ap (λ (l : List (List ℕ)). with_sector (λ k. slice_index_or l k []) c.args.sector c.args.bytes.now) c.extend_to.ensures.kept);
      failure_keeps_told_contents = search rules;
      no_call_fails = search rules;
      failure_is_noted = search rules;
      size_is_kept = search rules;
    }
