use Rattle.std.proofs.Common.{ℕ, ◌≡◌, false, List, inl, inr, sym, subst}
use Rattle.ata_types.specs.declared.Port.{Port}
use Rattle.ata_types.specs.declared.request.Frame.{Frame}
use Rattle.ata_types.specs.declared.request.Op.{Op}
use Rattle.ata_types.specs.declared.request.Op.TheVariants.{Trim, Flush}
use Rattle.adapter.specs.Device.{Device}
use Rattle.ncq.specs.Issuing.{IsIssued, MayIssueTask}
use Rattle.ncq.specs.declared.tasks.Task.{Task}
use Rattle.port_driver.proofs.issuing.issue_task.Goals as goal

-- a plain task of this operation, wherever its slot and its kind are told
module _ (port : Port) (slot : ℕ) (task : Task) (op : Op) (is : task.op ≡ op) (head : slot ≡ 0) (plain : task.queued ≡ false) where
  as_told : (P : ℕ → Task → Type 0) → P 0 (record { op = op; range = task.range; queued = false }) → P slot task
  as_told P told = subst (λ (n : ℕ). P n task) (sym head) (subst (P 0) (λ i. record { op = sym is i; range = task.range; queued = sym plain i }) told)

abbrev IsIssuedIn : Port → List Frame → Device → Device → ℕ → Task → Type 0
IsIssuedIn port frames old new slot task = IsIssued port slot task frames old new

-- where the slot is 0
may_at : (port : Port) (slot : ℕ) (d : Device) → slot ≡ 0 → MayIssueTask port slot d → MayIssueTask port 0 d
may_at port slot d head may = subst (λ (n : ℕ). MayIssueTask port n d) head may

pub issue_trim-requires-clause-may : goal.issue_trim-requires-clause-may
issue_trim-requires-clause-may g c =
    let m = c.requires.fits.trim_and_flush_are_plain_in_slot_0 (inl c.in-Trim.is) in
    may_at c.args.port c.args.what.now.slot.0 _ m.0 c.requires.may

pub issue_flush-requires : goal.issue_flush-requires
issue_flush-requires g c =
    let m = c.requires.fits.trim_and_flush_are_plain_in_slot_0 (inr c.in-Flush.is) in
    record { may = may_at c.args.port c.args.what.now.slot.0 _ m.0 c.requires.may }

pub returns-in-Trim-clause-issued : goal.returns-in-Trim-clause-issued
returns-in-Trim-clause-issued g c =
    let m = c.requires.fits.trim_and_flush_are_plain_in_slot_0 (inl c.in-Trim.is) in
    as_told c.args.port c.args.what.now.slot.0 c.args.what.now.task Trim c.in-Trim.is m.0 m.1 (IsIssuedIn c.args.port c.args.what.now.loan.now.frames _ _) (c.issue_trim.ensures.issued c.args.what.now.loan.now.frames)

pub returns-in-Flush-clause-issued : goal.returns-in-Flush-clause-issued
returns-in-Flush-clause-issued g c =
    let m = c.requires.fits.trim_and_flush_are_plain_in_slot_0 (inr c.in-Flush.is) in
    as_told c.args.port c.args.what.now.slot.0 c.args.what.now.task Flush c.in-Flush.is m.0 m.1 (IsIssuedIn c.args.port c.args.what.now.loan.now.frames _ _) (c.issue_flush.ensures.issued c.args.what.now.task.range c.args.what.now.loan.now.frames)

pub issue-requires : goal.issue-requires
issue-requires g c = record { may = record { may_issue_task = c.requires.may; slot_in_range = c.requires.small; slot_is_usable = c.requires.usable; transfer_fits = c.requires.fits.transfer_fits_frames (inl c.in-Read.is) } }

pub issue-requires-in-Write : goal.issue-requires-in-Write
issue-requires-in-Write g c = record { may = record { may_issue_task = c.requires.may; slot_in_range = c.requires.small; slot_is_usable = c.requires.usable; transfer_fits = c.requires.fits.transfer_fits_frames (inr c.in-Write.is) } }
