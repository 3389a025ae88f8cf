-- How many accesses of its adapter what is done on a port makes, at most, whatever the device does.
use Rattle.ata_types.specs.declared.limits.TheConstants.{SLOTS}
use Rattle.std.specs.Prelude.{ℕ, ◌+◌, ◌*◌}
use Rattle.error_recovery.specs.Costs.{RECOVER_ACCESSES}
use Rattle.host_boot.specs.Costs.{REBOOT_ACCESSES, REBOOT_IF_PRESENT_ACCESSES}
use Rattle.command_table.specs.Costs.{TABLE_ACCESSES}
use Rattle.ncq.specs.Costs.{BATCH_WRITE_ACCESSES, DONE_ACCESSES}
use Rattle.port_control.specs.Costs.{STOP_ACCESSES}
use Rattle.port_control.specs.EventCosts.{TAKE_EVENT_ACCESSES}
use Rattle.port_control.specs.declared.events.PortError.{PortError}
use Rattle.port_control.specs.declared.events.PortError.TheVariants.{TaskFileError, LinkChanged}

-- what is due on a port is issued: a command is stored in each of its slots, at most, and all go by one batch
abbrev pub ISSUE_DUE_ACCESSES : ℕ
ISSUE_DUE_ACCESSES = SLOTS * TABLE_ACCESSES + BATCH_WRITE_ACCESSES

-- a port in such trouble is recovered where a command failed, and else stopped
abbrev pub handling_accesses : PortError → ℕ
handling_accesses TaskFileError = RECOVER_ACCESSES
handling_accesses _ = STOP_ACCESSES

-- and then it is booted: one whose disk was lost only where a device shows
abbrev pub booting_accesses : PortError → ℕ
booting_accesses LinkChanged = REBOOT_IF_PRESENT_ACCESSES
booting_accesses _ = REBOOT_ACCESSES

-- what is done is found out, its error is handled, it is booted, and what is due is issued
abbrev pub port_error_accesses : PortError → ℕ
port_error_accesses port_error =
    DONE_ACCESSES + handling_accesses port_error + booting_accesses port_error + ISSUE_DUE_ACCESSES

-- a port is looked at, and its trouble is a command that failed: no other turn of a port in a service has as many
abbrev pub TURN_ACCESSES : ℕ
TURN_ACCESSES = TAKE_EVENT_ACCESSES + port_error_accesses TaskFileError
