-- What a reached machine gives to the relation.
use Rattle.ata_types.specs.declared.memory.TheConstants.{DRIVER_FRAMES}
use Rattle.std.proofs.Common.{ℕ, ◌<◌, ◌≤◌, length, List, sym, ◌∙◌, subst}
use Rattle.block_machine.specs.State.{Pending, Machine, nth_frame}
use Rattle.block_machine.specs.Steps.{Step, IsIssuedOrKept}
use Rattle.block_machine.specs.Events.{AllEnabled}
use Rattle.block_machine.specs.Expected.{after, IsInitial}
use Rattle.block_machine.specs.Histories.{IsReachable}
use Rattle.block_machine.proofs.Configured.{owners_stay}
use Rattle.block_machine.proofs.Limits.{law_book_limits_hold_and_frames_are_lent}
use Rattle.block_machine.proofs.Trace.{runs_lives}

-- the frames of what may move are clients'
abbrev pub AreClients : Machine → Type 0
AreClients m = (e : Pending) → IsIssuedOrKept m e → (i : ℕ) → i < length e.request.asked.frames.items → DRIVER_FRAMES ≤ (nth_frame e.request.asked.frames.items i).0

clients_at : (start : Machine) (past : List Step) → IsInitial start → AllEnabled start past → AreClients (after start past)
clients_at start past s enabled e r i lt =
    let owner = (law_book_limits_hold_and_frames_are_lent start past s enabled).frames_are_owned e (runs_lives (after start past) e r) i lt in
    (s.owned_frames_are_clients (nth_frame e.request.asked.frames.items i) e.request.asked.client (sym (owners_stay start past (nth_frame e.request.asked.frames.items i)) ∙ owner)).2

pub client_frame : (m : Machine) → IsReachable m → AreClients m
client_frame m r = subst AreClients (sym r.leads_to_machine) (clients_at r.initial_machine r.steps_since r.is_initial r.steps_since_are_enabled)
