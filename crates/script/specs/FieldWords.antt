-- The words of a script's lines, and how values are spelled in them (this project's own).
use Rattle.std.specs.Prelude.{ℕ, List, [], ◌∷◌, map, codes}
use Rattle.std.specs.List.{join_with_byte}
use Rattle.std.specs.Fmt.{decimal}
use Rattle.ata_types.specs.declared.request.Frame.{Frame}
use Rattle.adapter.specs.declared.access.FatalError.{FatalError}
use Rattle.adapter.specs.declared.access.FatalError.TheVariants.{Interface, HostBus}

-- the bytes of a word
abbrev pub Word : Type 0
Word = List ℕ

-- frames by their numbers, parted by commas, or `-` for none
abbrev pub frames_word : List Frame → Word
frames_word [] = codes "-"
frames_word (frame ∷ frames) = join_with_byte 44 (map (λ f. decimal f.0) (frame ∷ frames))

-- a fatal error by its bit of PxIS: IFS or HBFS (AHCI 1.3.1, 3.3.5)
abbrev pub fatal_word : FatalError → Word
fatal_word Interface = codes "ifs"
fatal_word HostBus = codes "hbfs"
