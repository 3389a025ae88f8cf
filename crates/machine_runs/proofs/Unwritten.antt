-- Where no grant lets its client write or trim, each disk holds what it held when it was put in.
use Rattle.std.proofs.Common.{◌≡◌, ℕ, true, List, [], ◌∷◌, inl, inr, sym, ◌∙◌, subst}
use Rattle.std.proofs.lemmas.Bool.{false≢true}
use Rattle.std.specs.List.{Contains}
use Rattle.ata_types.specs.declared.request.Op.{Op}
use Rattle.ata_types.specs.declared.request.Op.TheVariants.{Read, Write, Trim, Flush}
use Rattle.ata_types.specs.declared.grant.GrantRow.{GrantRow}
use Rattle.ata_types.specs.SectorGrants.{AllowsOp}
use Rattle.block_machine.specs.DueRequests.{changes_sectors}
use Rattle.block_machine.specs.State.{Block, Accepted, Machine}
use Rattle.block_machine.specs.Steps.{Step, Touch, IsEnabled}
use Rattle.block_machine.specs.Events.{AllEnabled}
use Rattle.block_machine.specs.Expected.{after, IsInitial, IsTouch, HasTouched, IsExpectedBlock, disk_number_read, bytes_when_plugged}
use Rattle.block_machine.specs.Confinement.{WasAccepted, GrantsNoWriteOrTrim}
use Rattle.block_machine.proofs.Trace.{runs_lives}
use Rattle.block_machine.proofs.Accepts.{living_accepted}
use Rattle.block_machine.proofs.Configured.{was_granted}

-- the request of a touch that may come was accepted
toucher_lives : (start : Machine) (h : List Step) → IsInitial start → AllEnabled start h → (step : Step) → IsEnabled (after start h) step → (r : Accepted) (k : ℕ) → IsTouch step r k → WasAccepted start h r
toucher_lives start h s enabled (Touch e i block) may r k t = subst (WasAccepted start h) t.0 (living_accepted start h s enabled e (runs_lives (after start h) e may.0))
toucher_lives start h s enabled _ may r k t = absurd t

-- each request that touched a sector was accepted
toucher_accepted : (start : Machine) (h : List Step) → IsInitial start → AllEnabled start h → (r : Accepted) (k n : ℕ) → HasTouched r k n h → WasAccepted start h r
toucher_accepted start [] s enabled r k n t = absurd t
toucher_accepted start (step ∷ past) s enabled r k n (inl t) = inr (toucher_lives start past s enabled.0 step enabled.1 r k t.0)
toucher_accepted start (step ∷ past) s enabled r k n (inr t) = inr (toucher_accepted start past s enabled.0 r k n t)

-- a row without writes and trims allows no writer
never_writes : (row : GrantRow) → GrantsNoWriteOrTrim row → (op : Op) → AllowsOp row.rights op → changes_sectors op ≡ true → ⊥
never_writes row none Read may writes = false≢true writes
never_writes row none Write may writes = false≢true (sym none.0 ∙ may)
never_writes row none Trim may writes = false≢true (sym none.1 ∙ may)
never_writes row none Flush may writes = false≢true writes

-- so no write or trim touched a sector, and what is left came with the disk
pub law_expected_is_plugged_if_no_write_trim_grants : (start : Machine) (h : List Step) (read : Accepted) (k : ℕ) (block : Block) → IsInitial start → AllEnabled start h
    → ((row : GrantRow) → Contains start.rows row → GrantsNoWriteOrTrim row)
    → IsExpectedBlock start h read k block → block ≡ bytes_when_plugged start read.port (disk_number_read read k h) h k
law_expected_is_plugged_if_no_write_trim_grants start h read k block s enabled none (inl last) =
    let writer = last.0 in
    let wrote = last.1 in
    let g = was_granted start h writer (toucher_accepted start h s enabled writer k _ wrote.touched) in
    absurd (never_writes g.row (none g.row g.is_named.0) writer.asked.op g.op_is_allowed wrote.op_changes_sectors)
law_expected_is_plugged_if_no_write_trim_grants start h read k block s enabled none (inr untouched) = untouched.1
