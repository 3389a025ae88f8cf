-- How many accesses the calls make, at most: each wait has as many readings as waits may have.
use Rattle.ata_types.specs.declared.limits.TheConstants.{MOST_READINGS}
use Rattle.std.specs.Prelude.{ℕ, ◌+◌}

-- PxCMD is read and written, and read until an engine stands
abbrev pub STOP_ACCESSES : ℕ
STOP_ACCESSES = 2 + MOST_READINGS

-- PxCMD is read and written
abbrev pub START_ACCESSES : ℕ
START_ACCESSES = 2

-- the engine that receives is stopped, the four registers of list and area are written, and it is started
abbrev pub RECEIVE_ACCESSES : ℕ
RECEIVE_ACCESSES = STOP_ACCESSES + 4 + START_ACCESSES

-- PxSERR and PxIS are written
abbrev pub CLEAR_ACCESSES : ℕ
CLEAR_ACCESSES = 2

-- errors are cleared, and PxTFD is read
abbrev pub ERROR_STATE_ACCESSES : ℕ
ERROR_STATE_ACCESSES = CLEAR_ACCESSES + 1

-- PxSERR is written, and PxSSTS read
abbrev pub DETECT_ACCESSES : ℕ
DETECT_ACCESSES = 2

-- PxSSTS is read until it shows a device, errors are cleared, PxTFD is read until it shows an idle one, and PxSIG is
-- read
abbrev pub FIND_ATA_DISK_ACCESSES : ℕ
FIND_ATA_DISK_ACCESSES = MOST_READINGS + CLEAR_ACCESSES + MOST_READINGS + 1

-- PxSCTL is written twice, and the port is looked at
abbrev pub COMRESET_ACCESSES : ℕ
COMRESET_ACCESSES = 2 + FIND_ATA_DISK_ACCESSES
