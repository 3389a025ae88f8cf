use Rattle.std.proofs.Common.{List, ◌≡◌, map, length, subst, ◌∙◌, ap, rules, arith}
use Rattle.std.specs.List.{AllPairs}
use Rattle.std.specs.List.Sorted.{IsPermutation}
use Rattle.std.proofs.lemmas.List.Sorted.{IsNonDecreasingBy-from_sort_by_key, length_permutation}
use Rattle.ata_types.specs.declared.grant.GrantRow.{GrantRow}
use Rattle.block_machine.specs.Rules.{DifferInName}
use Rattle.grants.specs.NamedRows.{row_name_of, name_rank}
use Rattle.grants.proofs.RowLemmas.{in_order, sorted_differ, sorted_same}
use Rattle.grants.proofs.Grants.from_rows.Goals as goal

pub invariant_of-result : goal.invariant_of-result
invariant_of-result c =
    let rows = c.sort_unstable_by_key.new.self.items in
    let moved = c.sort_unstable_by_key.ensures.permutation in
    let differ : AllPairs DifferInName rows = sorted_differ c.args.rows.now rows (subst (λ (xs : List GrantRow). IsPermutation xs rows) c.in_ok-rows.ensures.items moved) c.requires.names_differ in
    let keys : c.in_ok-keys.keys.items ≡ map row_name_of rows = c.in_ok-keys.ensures.keys ∙ ap (map row_name_of) c.as_slice.ensures.value in
    record {
      keys_are_row_names = keys;
      names_are_in_order = in_order rows _ keys (IsNonDecreasingBy-from_sort_by_key (λ row. name_rank (row_name_of row)) _ c.sort_unstable_by_key.ensures.sorted (λ a r q k. search rules)) differ c.in_ok-keys.ensures.bytes;
      rows_differ_in_name = differ;
      rows_are_at_most_64 = let n = ap length c.in_ok-rows.ensures.items in let few = c.requires.rows_are_at_most_64 in omega (arith, length_permutation _ _ moved, n, few);
    }

pub returns-clause-names_differ : goal.returns-clause-names_differ
returns-clause-names_differ c =
    let rows = c.sort_unstable_by_key.new.self.items in
    sorted_differ c.args.rows.now rows (subst (λ (xs : List GrantRow). IsPermutation xs rows) c.in_ok-rows.ensures.items c.sort_unstable_by_key.ensures.permutation) c.requires.names_differ

pub returns-clause-holds_same_rows : goal.returns-clause-holds_same_rows
returns-clause-holds_same_rows c =
    let rows = c.sort_unstable_by_key.new.self.items in
    sorted_same c.args.rows.now rows (subst (λ (xs : List GrantRow). IsPermutation xs rows) c.in_ok-rows.ensures.items c.sort_unstable_by_key.ensures.permutation)
