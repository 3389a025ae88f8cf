-- How many accesses the calls make, at most.
use Rattle.ata_types.specs.declared.limits.TheConstants.{PORTS, MOST_READINGS}
use Rattle.std.specs.Prelude.{ℕ, ◌+◌, ◌*◌}
use Rattle.port_boot.specs.Costs.{BOOT_ACCESSES, BOOT_STOPPED_ACCESSES}
use Rattle.port_control.specs.Costs.{DETECT_ACCESSES}

-- GHC is written, CAP and PI are read, each port is booted, and GHC is written
abbrev pub TAKE_OVER_ACCESSES : ℕ
TAKE_OVER_ACCESSES = 4 + PORTS * BOOT_ACCESSES

-- CAP is read, and the stopped port is booted
abbrev pub REBOOT_ACCESSES : ℕ
REBOOT_ACCESSES = 1 + BOOT_STOPPED_ACCESSES

-- CAP is read, it is looked whether a device shows, and the port is booted
abbrev pub REBOOT_IF_PRESENT_ACCESSES : ℕ
REBOOT_IF_PRESENT_ACCESSES = 1 + DETECT_ACCESSES + BOOT_STOPPED_ACCESSES

-- GHC is written, and read until HR is 0
abbrev pub RESET_ACCESSES : ℕ
RESET_ACCESSES = 1 + MOST_READINGS
