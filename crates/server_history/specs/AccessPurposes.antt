-- The kinds of accesses of a port's turn, for the laws on fragments.
use Rattle.ata_types.specs.declared.Port.{Port}
use Rattle.adapter.specs.Access.{Access}
use Rattle.ncq.specs.Masks.{ReadsCiOrSact}
use Rattle.port_control.specs.PortEvents.{IsPxisSstsOrOwnIsAccess}
use Rattle.port_control.specs.ServiceAccesses.{WritesOnlyHbaIsPxIsCiOrSact}
use Rattle.refinement.specs.Fragments.{AnySlotStates}
use Rattle.refinement.specs.Slots.{SlotStates}

-- a port is looked at; or its PxCI and PxSACT are read; or ports are serviced, with issuing
pub data AccessPurpose : Type 0 where
  Looking : Port → AccessPurpose
  ReadingMasks : Port → AccessPurpose
  Servicing : AccessPurpose

-- The accesses that a part of a call makes, by its purpose.
abbrev pub accesses_for : AccessPurpose → Access → Type 0
accesses_for (Looking port) = IsPxisSstsOrOwnIsAccess port
accesses_for (ReadingMasks port) = ReadsCiOrSact port
accesses_for Servicing = WritesOnlyHbaIsPxIsCiOrSact

-- What a part of a call needs of the slots, by its purpose.
abbrev pub slot_uses_for : AccessPurpose → SlotStates → Type 0
slot_uses_for kind = AnySlotStates
