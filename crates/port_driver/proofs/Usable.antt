-- How many slots of a port may be used, at most.
use Rattle.std.proofs.Common.{rules, arith, ℕ, Bool, true, false, if◌then◌else◌, ◌&&◌, min, ◌+◌, ◌/◌, ◌%◌, ◌≤◌}
use Rattle.hba_regs.specs.Bits.{bit}
use Rattle.block_machine.specs.declared.due.QueueMode.{QueueMode}
use Rattle.host_boot.specs.declared.ProbeResult.{ProbeResult}
use Rattle.host_boot.specs.declared.ProbeResult.TheVariants.{Ready, Unready, Unserved}
use Rattle.server_history.specs.ServerState.{probed_mode}

abbrev either_mode : Bool → ℕ → ℕ → QueueMode
either_mode queues slots depth = if queues then record { queued = true; usable_slots = min slots (min depth 32) } else record { queued = false; usable_slots = 1 }

few_slots : (queues : Bool) (slots depth : ℕ) → (either_mode queues slots depth).usable_slots ≤ 32
few_slots true slots depth = search rules
few_slots false slots depth = omega arith

pub few_usable : (cap : ℕ) (found : ProbeResult) → (probed_mode cap found).usable_slots ≤ 32
few_usable cap (Ready info) = few_slots (bit cap 30 && info.ncq) (cap / 256 % 32 + 1) info.depth
few_usable cap (Unready state) = omega arith
few_usable cap Unserved = omega arith
