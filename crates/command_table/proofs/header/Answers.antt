use Rattle.std.proofs.Common.{ℕ, List, [], ◌∷◌, ◌++◌, slice_index_or, replicate, refl, rules, arith}
use Rattle.std.proofs.lemmas.Grind.{common_steps}
use Rattle.command_table.proofs.Zeros.{zero_from}
use Rattle.command_table.proofs.header.Goals as goal

pub returns-clause-says : goal.returns-clause-says
returns-clause-says c =
    let dword : List ℕ → List ℕ = λ (xs : List ℕ). slice_index_or xs 0 0 ∷ slice_index_or xs 1 0 ∷ slice_index_or xs 2 0 ∷ slice_index_or xs 3 0 ∷ [] in
    let bytes : List ℕ = dword c.to_le_bytes-first.result ++ replicate 4 0 ++ dword c.to_le_bytes-table.result ++ replicate 20 0 in
    record {
      size = refl;
      dword0_is = grind (arith, common_steps);
      table_address_is = search rules;
      aligned = c.requires;
      zeros = λ i ge lt. zero_from bytes 12 20 i refl ge;
    }
