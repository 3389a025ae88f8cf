use Rattle.std.proofs.Common.{rules, ℕ, List, Some, ◌+◌, ap, sym, ◌∙◌}
use Rattle.sector_store.specs.Stores.{with_sector}
use Rattle.server_examples.proofs.Numbered.{numbered_clears, numbered_sector}
use Rattle.server_examples.specs.NumberedSectors.{numbered_sectors_with_cleared_range}
use Rattle.server_examples.proofs.tests.numbered_store.NumberedStoreSectorStore.write.Goals as goal

pub invariant_of-self-2-clause-are_sectors : goal.invariant_of-self-2-clause-are_sectors
invariant_of-self-2-clause-are_sectors c = numbered_sector c.args.self.now.first (c.args.self.now.next + 1)

pub returns : goal.returns
returns c =
    record {
      is_inside = search rules;
      sector_is_replaced = λ _.
          let s = c.args.self.now in
          let told = numbered_sectors_with_cleared_range s.first s.next in
          let cleared = c.is_next.ensures c.if-not-is_next.false in
          ap (λ (f : ℕ → List ℕ). Some f) (
          numbered_clears s.first s.next s.rising
          ∙ sym (ap (λ (k : ℕ). with_sector told k c.args.bytes.now) cleared.0 ∙ ap (λ (bytes : List ℕ). with_sector told s.next bytes) cleared.1)
          );
      failure_keeps_told_contents = search rules;
      no_call_fails = search rules;
      failure_is_noted = search rules;
      size_is_kept = search rules;
    }
