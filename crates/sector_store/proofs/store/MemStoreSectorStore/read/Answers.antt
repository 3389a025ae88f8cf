use Rattle.std.proofs.Common.{◌∙◌, [], refl, sym, rules, replicate, length}
use Rattle.std.specs.Prelude.{◌-◌}
use Rattle.std.proofs.lemmas.List.{get_or-append_right, get_or-replicate}
use Rattle.sector_store.proofs.Sectors.{zero_sector}
use Rattle.sector_store.proofs.store.MemStoreSectorStore.read.Goals as goal

pub returns-then-sector-self : goal.returns-then-sector-self
returns-then-sector-self c =
    let written = c.args.self.now.written.items in
    let left = c.args.self.now.size - length written in
    record {
      is_inside = search rules;
      bytes_are_told = λ _. sym (get_or-append_right written (replicate left (replicate 512 0)) (length written) c.args.sector [] refl (search rules)
          ∙ get_or-replicate left (c.args.sector - length written) (replicate 512 0) [] (search rules));
      is_sector = λ _. zero_sector;
      place_is_kept = search rules;
      no_call_fails = search rules;
      failure_is_noted = search rules;
      told_contents_are_kept = search rules;
      size_is_kept = search rules;
    }
