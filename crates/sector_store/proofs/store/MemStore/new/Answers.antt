use Rattle.std.proofs.Common.{[], Some, List, ℕ, subst, sym, slice_index_or}
use Rattle.sector_store.specs.Stores.{AreSectors, filled_with_zeros_to_size}
use Rattle.sector_store.proofs.Sectors.{zeros_are_sectors}
use Rattle.sector_store.proofs.store.MemStore.new.Goals as goal

pub invariant_of-result-clause-are_sectors : goal.invariant_of-result-clause-are_sectors
invariant_of-result-clause-are_sectors c =
    subst (λ (l : List (List ℕ)). AreSectors c.args.sectors (Some (λ (k : ℕ). slice_index_or (filled_with_zeros_to_size c.args.sectors l) k [])))
    (sym c.in_ok-written.ensures.items) (zeros_are_sectors c.args.sectors)
