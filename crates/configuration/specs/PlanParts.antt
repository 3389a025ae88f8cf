-- What the parts of a configuration stand for (this project's own).
use Rattle.std.specs.Prelude.{◌≡◌, ◌==◌, ◌-◌, ◌<◌, ◌++◌, Bool, ℕ, List, Option, Some, None, All, length, option_map, replicate, slice_get, string_bytes}
use Rattle.std.specs.List.{list_any}
use Rattle.ata_types.specs.declared.grant.GrantRow.{GrantRow}
use Rattle.ata_types.specs.declared.grant.Rights.{Rights}
use Rattle.configuration.specs.declared.ClientConfig.{ClientConfig}
use Rattle.configuration.specs.declared.GrantConfig.{GrantConfig}
use Rattle.configuration.specs.declared.PortConfig.{PortConfig}
use Rattle.configuration.specs.Rules.{ConfiguresPort}
use Rattle.dma_frames.specs.FrameTables.{FrameExtent}
use Rattle.identify.specs.declared.wanted.Wanted.{Wanted}
use Rattle.identify.specs.declared.wanted.Wanted.TheVariants.{Nothing, Any, Serial}

-- the run of frames that a client owns
abbrev pub owner_extent : ClientConfig → FrameExtent
owner_extent c = (record { 0 = c.id }, record { 0 = c.first_frame }, c.frames)

-- the letter with this code is one of the text's
abbrev pub has_letter : ℕ → List ℕ → Bool
has_letter letter text = list_any (λ c. c == letter) text

-- the rights that the letters r, w, t and f name
abbrev pub rights_of : List ℕ → Rights
rights_of text = record {
  read = has_letter 114 text;
  write = has_letter 119 text;
  trim = has_letter 116 text;
  flush = has_letter 102 text;
}

-- the row that a grant stands for
abbrev pub row_of : GrantConfig → GrantRow
row_of g = record {
  client = record { 0 = g.client };
  number = g.number;
  port = record { 0 = g.port };
  first = record { 0 = g.first };
  count = g.count;
  rights = rights_of (string_bytes g.rights);
}

-- a serial number, filled with spaces to 20 bytes
abbrev pub filled_serial : List ℕ → List ℕ
filled_serial serial = serial ++ replicate (20 - length serial) 32

-- the disk that is asked for by a serial number, or without one
abbrev pub wanted_disk : Option (List ℕ) → Wanted
wanted_disk None = Any
wanted_disk (Some serial) = Serial (filled_serial serial)

-- in the port with this number the disk is wanted that the port asks for; nothing, if there is no such port
pub record IsWantedIn (ports : List PortConfig) (number : ℕ) (wanted : Wanted) : Type 0 where
  pub configured_port_wants_disk : All (λ p. p.number ≡ number
      → wanted ≡ wanted_disk (option_map string_bytes p.serial)) ports
  pub other_port_wants_nothing : (ConfiguresPort ports number → ⊥) → wanted ≡ Nothing

-- what is wanted in each of the ports 0 to 3
abbrev pub AreWantedOf : List PortConfig → List Wanted → Type 0
AreWantedOf ports wanted = (number : ℕ) → number < 4
    → (w : Wanted) × (slice_get wanted number ≡ Some w) × IsWantedIn ports number w
