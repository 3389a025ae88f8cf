use Rattle.std.proofs.Common.{◌∙◌, [], Some, List, ℕ, sym, subst, rules, slice_index_or}
use Rattle.sector_store.specs.Stores.{AreSectors}
use Rattle.sector_store.proofs.Sectors.{zero_written}
use Rattle.sector_store.proofs.store.MemStore.extend_to.Goals as goal

pub invariant_of-self-clause-are_sectors : goal.invariant_of-self-clause-are_sectors
invariant_of-self-clause-are_sectors c =
    let now = c.loop-sector.self in
    subst (λ (l : List (List ℕ)). AreSectors now.size (Some (λ (k : ℕ). slice_index_or l k [])))
    (sym (zero_written now.size now.written.items c.push_reserved.new.self.items c.push_reserved.ensures.items (search rules)))
    now.are_sectors

pub loop-sector-preserved : goal.loop-sector-preserved
loop-sector-preserved c =
    let now = c.loop-sector.self in (
      search rules,
      search rules,
      zero_written now.size now.written.items c.push_reserved.new.self.items c.push_reserved.ensures.items (search rules)
          ∙ c.loop-sector.invariant.2,
      search rules,
    )

pub returns-clause-extends_no_further : goal.returns-clause-extends_no_further
returns-clause-extends_no_further c = search rules
