use Rattle.std.proofs.Common.{◌≡◌, ◌∙◌, ◌+◌, ◌++◌, ◌∷◌, [], Err, Some, None, ap, append-nil, option_map, rules, subst, sym, take}
use Rattle.std.specs.List.{AllZip, cons_option}
use Rattle.toml.specs.Data.{as_table}
use Rattle.toml.specs.View.{items_view, table_view, view}
use Rattle.configuration.specs.declared.read.ReadFault.TheVariants.{NoValue}
use Rattle.configuration.specs.TomlTables.{tables_of}
use Rattle.configuration.proofs.Lists.{AllZip-push}
use Rattle.configuration.proofs.Tables.{table-spells, tables-more}
use Rattle.configuration.proofs.read.each_from_table.Goals as goal
use Rattle.configuration.proofs.read.each_from_table.Goals.{in-Some+in-Ok+in_ok-push-in-Ok, in_default}

pub returns-in-Err-clause-none : goal.returns-in-Err-clause-none
returns-in-Err-clause-none g c = λ e xs h.
    let here : as_table (view c.item-item.result) ≡ Some (table_view c.in-Some.table.now) =
    sym c.as_table.ensures ∙ ap (option_map (λ t. table_view t.now)) c.in-Some.is in
    let found = table-spells g.T.FromTable.spells c.args.items.now xs c.loop-item.item-index c.item-item.result
    (table_view c.in-Some.table.now) h (search rules) (ap (λ v. as_table (view v)) (sym c.item-item.is) ∙ here) in
    let is_fault : c.in-Err.fault ≡ NoValue = cc in
    c.from_table.ensures.none (c.in-Err.is ∙ ap Err is_fault) found.0 found.1

pub loop-item-preserved : goal.loop-item-preserved
loop-item-preserved g c =
    let S = g.T.FromTable.spells in
    let before = tables_of (items_view (take c.loop-item.item-index c.args.items.now)) in
    let more : tables_of (items_view (take (c.loop-item.item-index + 1) c.args.items.now))
    ≡ before ++ cons_option (as_table (view c.item-item.result)) [] =
    tables-more c.args.items.now c.loop-item.item-index c.item-item.result (search rules) (sym c.item-item.is) in
    elim c.match-as_table.branch [
      | in-Some+in-Ok+in_ok-push-in-Ok w ↦
          let members = table_view w.in-Some.table.now in
          let here : as_table (view c.item-item.result) ≡ Some members =
          sym c.as_table.ensures ∙ ap (option_map (λ t. table_view t.now)) w.in-Some.is in
          let grown = more ∙ ap (λ o. before ++ cons_option o []) here in
          let pushed = AllZip-push S before c.loop-item.values.items members w.in-Ok.value c.loop-item.invariant
          w.in-Ok.ensures.ok in
          let was = w.in_ok-push-in-Ok.ensures.items in
          let items : c.match-as_table.values.items ≡ c.loop-item.values.items ++ w.in-Ok.value ∷ [] = cc in
          subst (λ ts. AllZip S ts c.match-as_table.values.items) (sym grown)
          (subst (λ vs. AllZip S (before ++ members ∷ []) vs) (sym items) pushed)
      | in_default w ↦
          let none : as_table (view c.item-item.result) ≡ None =
          sym c.as_table.ensures ∙ ap (option_map (λ t. table_view t.now)) w.in_default.is in
          let same = more ∙ ap (λ o. before ++ cons_option o []) none ∙ append-nil before in
          let items : c.match-as_table.values.items ≡ c.loop-item.values.items = cc in
          subst (λ ts. AllZip S ts c.match-as_table.values.items) (sym same)
          (subst (λ vs. AllZip S before vs) (sym items) c.loop-item.invariant)
    ]
