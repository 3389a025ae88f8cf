-- A request that is issued breaks no rule on grants by the rows as they are then: its row is there, and is the one under which it was accepted.
use Rattle.std.proofs.Common.{◌≡◌, List, inl, sym, subst}
use Rattle.std.specs.List.{Contains}
use Rattle.ata_types.specs.declared.grant.GrantRow.{GrantRow}
use Rattle.ata_types.specs.declared.refusal.Rule.{Rule}
use Rattle.ata_types.specs.declared.refusal.Rule.TheVariants.{NoGrant, NoRight, BadCount, OutsideGrant, FrameCount, Frames}
use Rattle.ata_types.specs.SectorGrants.{AllowsOp, CoversSectors}
use Rattle.block_machine.specs.declared.due.QueueMode.{QueueMode}
use Rattle.block_machine.specs.Rules.{Breaks, HasRow, IsNamed}
use Rattle.block_machine.specs.State.{Accepted, Pending, Machine}
use Rattle.block_machine.specs.Steps.{Step, Issue, IsEnabled, MayAccept}
use Rattle.block_machine.specs.Events.{AllEnabled}
use Rattle.block_machine.specs.Expected.{after, IsInitial}
use Rattle.block_machine.specs.Confinement.{IsGranted, IsNotOnFrames, KeepsNonFrameRulesAndHoldsFrames, WasAccepted}
use Rattle.block_machine.proofs.Accepts.{living_accepted, was_new}
use Rattle.block_machine.proofs.Configured.{rows_shrink, was_granted}
use Rattle.block_machine.proofs.RuleLemmas.{one_row}
use Rattle.block_machine.proofs.Runs.{traced}

module _ (start m : Machine) (r : Accepted) (s : IsInitial start) (granted : IsGranted start.rows r) (new : (then : Machine) × MayAccept then r) (shrunk : (row : GrantRow) → Contains m.rows row → Contains start.rows row) where
  -- the row that it names now is the one that granted it
  its_row : (row : GrantRow) → IsNamed m.rows r.asked row → row ≡ granted.row
  its_row row named = one_row start.rows s.rows_differ_in_name r.asked.client r.asked.grant row granted.row (shrunk row named.0) named.1 granted.is_named.0 granted.is_named.1

  pub unbroken : HasRow r.asked.client r.asked.grant m.rows → (rule : Rule) → IsNotOnFrames rule → Breaks m.rows m.owner m.lent r.asked rule → ⊥
  unbroken has NoGrant is breaks = breaks has.0 (has.1, has.2)
  unbroken has NoRight is (row, named, denied) = denied (subst (λ (x : GrantRow). AllowsOp x.rights r.asked.op) (sym (its_row row named)) granted.op_is_allowed)
  unbroken has BadCount is breaks = new.1.breaks_no_rule BadCount breaks
  unbroken has OutsideGrant is (op, (row, named, outside)) = outside (subst (λ (x : GrantRow). CoversSectors x r.asked.first.0 r.asked.count) (sym (its_row row named)) (granted.sectors_are_covered op))
  unbroken has FrameCount is breaks = new.1.breaks_no_rule FrameCount breaks
  unbroken has (Frames fault) is breaks = is

pub law_issued_was_accepted_and_granted_at_issue : (start : Machine) (h : List Step) (mode : QueueMode) (e : Pending) → IsInitial start → AllEnabled start h → IsEnabled (after start h) (Issue mode e)
    → WasAccepted start h e.request × KeepsNonFrameRulesAndHoldsFrames (after start h) e.request
law_issued_was_accepted_and_granted_at_issue start h mode e s enabled may =
    let was = living_accepted start h s enabled e (inl may.0) in (
      was,
      record {
        breaks_none_not_on_frames = unbroken start (after start h) e.request s (was_granted start h e.request was) (was_new start h e.request was) (rows_shrink start h) may.3;
        frames_are_lent = (traced start h s enabled).sound.lent e (inl may.0);
      },
    )
