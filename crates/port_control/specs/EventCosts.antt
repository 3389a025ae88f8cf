-- How many accesses the calls make.
use Rattle.std.specs.Prelude.{ℕ}

-- PxIS is read and written, IS is written, and PxSSTS read
abbrev pub TAKE_EVENT_ACCESSES : ℕ
TAKE_EVENT_ACCESSES = 4

-- PxIS is read, and PxSSTS; or that alone
abbrev pub CHANGE_CHECK_ACCESSES : ℕ
CHANGE_CHECK_ACCESSES = 2
