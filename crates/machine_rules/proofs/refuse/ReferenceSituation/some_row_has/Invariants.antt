use Rattle.std.proofs.Common.{ℕ, ◌<◌, get_or}
use Rattle.ata_types.specs.declared.grant.GrantRow.{GrantRow}
use Rattle.block_machine.specs.Rules.{HasGrantName}
use Rattle.machine_rules.specs.ReferenceSituations.{reference_admission_context, RowHasRowPartOfCause}
use Rattle.machine_rules.proofs.refuse.ReferenceSituation.some_row_has.Given as goal

abbrev pub invariant-loop-row : goal.invariant-loop-row
invariant-loop-row l = (k : ℕ) (d : GrantRow) → k < l.row-index → HasGrantName l.request.client l.request.grant (get_or l.row-items k d)
    → RowHasRowPartOfCause (reference_admission_context l.self) l.request l.cause (get_or l.row-items k d) → ⊥
