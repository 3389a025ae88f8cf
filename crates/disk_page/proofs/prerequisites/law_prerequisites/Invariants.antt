use Rattle.disk_page.specs.Laws.{AccessPurpose, slot_uses_for, accesses_for}
use Rattle.disk_page.proofs.prerequisites.law_prerequisites.Given as goal

-- The laws on fragments are asked of this crate's kinds of accesses.
abbrev pub ghosts-law_access_kinds_satisfy_fragment_laws : goal.ghosts-law_access_kinds_satisfy_fragment_laws
ghosts-law_access_kinds_satisfy_fragment_laws a = record { Kind = AccessPurpose; may = accesses_for; fits = slot_uses_for }
