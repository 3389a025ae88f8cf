-- A host adapter that is reset (AHCI 1.3.1, 3.1.2 and 10.4.3; how often it is asked is this project's own).
use Rattle.std.specs.Prelude.{ℕ, Bool, true, false, ◌≡◌, ◌≤◌, ◌++◌, List, [], ◌∷◌, All, length}
use Rattle.hba_regs.specs.Bits.{bit}
use Rattle.hba_regs.specs.declared.reg.Reg.TheVariants.{Ghc}
use Rattle.adapter.specs.Access.{Access}
use Rattle.adapter.specs.Access.Access.{Reading, Writing}
use Rattle.adapter.specs.Device.{Device}
use Rattle.adapter.specs.Idle.{IsIdle}
use Rattle.refinement.specs.Fragments.{AnySlotStates, IsSimulated}
use Rattle.refinement.specs.PreservedParts.{SameAdapter}

-- ---- accesses

-- GHC is read with HR one: the reset isn't done
abbrev pub ReadsHrSet : Access → Type 0
ReadsHrSet (Reading Ghc v) = bit v 0 ≡ true
ReadsHrSet access = ⊥

-- GHC is read, or written with AE and HR
abbrev pub IsResetAccess : Access → Type 0
IsResetAccess (Reading Ghc v) = Unit {0}
IsResetAccess (Writing Ghc v) = v ≡ 0x80000001
IsResetAccess access = ⊥

-- HR was set, and then GHC alone was read: each time but the last with HR one, and the last time with HR as given.
pub record SetsHrAndPollsWhileSet (hr : Bool) (accesses : List Access) : Type 0 where
  pub polls : List Access
  pub last_ghc : ℕ
  pub accesses_are : accesses ≡ Writing Ghc 0x80000001 ∷ (polls ++ Reading Ghc last_ghc ∷ [])
  pub polls_show_hr : All ReadsHrSet polls
  pub hr_is : bit last_ghc 0 ≡ hr

-- First of all the adapter was reset: HR was set, and GHC was read until HR was 0.
pub record BeginsWithReset (accesses : List Access) : Type 0 where
  pub reset_accesses : List Access
  pub rest : List Access
  pub accesses_are : accesses ≡ reset_accesses ++ rest
  pub hr_is_awaited : SetsHrAndPollsWhileSet false reset_accesses

-- ---- the whole

-- The adapter was reset: GHC was read 64 times at most, and HR was read 0 at last. It is idle: none of its slots has a
-- command any more. A machine that agreed followed, by steps of the device alone.
pub record Resets (old new : Device) : Type 0 where
  pub followed : IsSimulated IsResetAccess AnySlotStates old new
  pub awaited : SetsHrAndPollsWhileSet false followed.is_driven.accesses
  pub count_is_allowed : length followed.is_driven.accesses ≤ 65
  pub idle : IsIdle new
  pub adapter_is_kept : SameAdapter old new

-- The adapter didn't end its reset: GHC was read 64 times, each time with HR one, and it is one still. A machine that
-- agreed followed.
pub record ResetStaysPending (old new : Device) : Type 0 where
  pub followed : IsSimulated IsResetAccess AnySlotStates old new
  pub awaited : SetsHrAndPollsWhileSet true followed.is_driven.accesses
  pub count_is : length followed.is_driven.accesses ≡ 65
  pub hr_is_set : new.hr ≡ true
  pub adapter_is_kept : SameAdapter old new
