use Rattle.std.proofs.Common.{take}
use Rattle.std.specs.List.{AllZip}
use Rattle.toml.specs.View.{items_view}
use Rattle.configuration.specs.TomlTables.{tables_of}
use Rattle.configuration.proofs.read.each_from_table.Given as goal

abbrev pub invariant-loop-item : goal.invariant-loop-item
invariant-loop-item g l =
    AllZip g.T.FromTable.spells (tables_of (items_view (take l.item-index l.items))) l.values.items
