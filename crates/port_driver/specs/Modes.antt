-- How a port takes commands (this project's own).
use Rattle.std.specs.Prelude.{ℕ, Bool, true, if◌then◌else◌, ◌&&◌, min}
use Rattle.block_machine.specs.declared.due.QueueMode.{QueueMode}
use Rattle.host_boot.specs.declared.ProbeResult.{ProbeResult}
use Rattle.host_boot.specs.declared.ProbeResult.TheVariants.{Ready}
use Rattle.server_history.specs.ServerState.{plain_mode}

-- How a port that was found so takes commands, by an adapter with so many slots a port, which queues or doesn't: queued
-- where adapter and disk both can, in as many slots as both have, 32 at most; else one at a time.
abbrev pub mode_by_slot_count : ℕ → Bool → ProbeResult → QueueMode
mode_by_slot_count slots queued (Ready info) =
    if queued && info.ncq then record { queued = true; usable_slots = min (min slots info.depth) 32 } else plain_mode
mode_by_slot_count slots queued _ = plain_mode
