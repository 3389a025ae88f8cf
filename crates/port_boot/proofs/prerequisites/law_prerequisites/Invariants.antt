use Rattle.port_boot.specs.Laws.{AccessPurpose, RegisterSet, slot_uses_for, accesses_for, registers_of}
use Rattle.port_boot.proofs.prerequisites.law_prerequisites.Given as goal

-- The laws on fragments are asked of this crate's kinds of accesses.
abbrev pub ghosts-law_access_kinds_satisfy_fragment_laws : goal.ghosts-law_access_kinds_satisfy_fragment_laws
ghosts-law_access_kinds_satisfy_fragment_laws a = record { Kind = AccessPurpose; may = accesses_for; fits = slot_uses_for }

abbrev pub ghosts-law_port_register_accesses_are_of_port : goal.ghosts-law_port_register_accesses_are_of_port
ghosts-law_port_register_accesses_are_of_port a = record { Set = RegisterSet; has = registers_of }
