-- What a device may rest on at a machine that is reached: a frame of each sector of a request that may move, lent to it, and
-- what its places hold.
use Rattle.std.proofs.Common.{◌≡◌, ℕ, ◌/◌, ◌<◌, List, length, Some, sym, subst}
use Rattle.ata_types.specs.declared.request.Op.TheVariants.{Flush}
use Rattle.block_machine.specs.State.{Pending, Machine, nth_frame}
use Rattle.block_machine.specs.Steps.{Step, IsIssuedOrKept}
use Rattle.block_machine.specs.Events.{AllEnabled}
use Rattle.block_machine.specs.Expected.{after, IsInitial}
use Rattle.block_machine.specs.Confinement.{MovesBytes, FramesAreAsAcceptedOutsideReadRange}
use Rattle.block_machine.specs.Histories.{IsReachable}
use Rattle.block_machine.proofs.Sound.{Sound}
use Rattle.block_machine.proofs.Trace.{runs_lives}
use Rattle.block_machine.proofs.Runs.{traced}
use Rattle.block_machine.proofs.Accepts.{living_accepted, was_new, has_frame, flush_empty}

pub record Standing (m : Machine) : Type 0 where
  pub sound : Sound m
  pub framed : (e : Pending) → IsIssuedOrKept m e → MovesBytes e.request.asked.op → (i : ℕ) → i < e.request.asked.count → i / 8 < length e.request.asked.frames.items
  pub lent : (e : Pending) → IsIssuedOrKept m e → (i : ℕ) → i < length e.request.asked.frames.items → m.lent (nth_frame e.request.asked.frames.items i) ≡ Some e.request.id
  pub held : (e : Pending) → IsIssuedOrKept m e → FramesAreAsAcceptedOutsideReadRange m e.request
  pub flush : (e : Pending) → IsIssuedOrKept m e → e.request.asked.op ≡ Flush → e.request.asked.count ≡ 0

standing_at : (start : Machine) (h : List Step) → IsInitial start → AllEnabled start h → Standing (after start h)
standing_at start h s enabled =
    let t = traced start h s enabled in
    record {
      sound = t.sound;
      framed = λ e r moves i lt.
          let new = was_new start h e.request (living_accepted start h s enabled e (runs_lives (after start h) e r)) in
          has_frame new.0 e.request new.1 moves i lt;
      lent = λ e r i lt. t.sound.lent e (runs_lives (after start h) e r) i lt;
      held = λ e r. t.held e (runs_lives (after start h) e r);
      flush = λ e r op.
          let new = was_new start h e.request (living_accepted start h s enabled e (runs_lives (after start h) e r)) in
          flush_empty new.0 e.request new.1 op;
    }

pub standing : (m : Machine) → IsReachable m → Standing m
standing m r = subst Standing (sym r.leads_to_machine) (standing_at r.initial_machine r.steps_since r.is_initial r.steps_since_are_enabled)
