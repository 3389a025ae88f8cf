-- The ranges of the numbers and texts in the lists of a configuration (this project's own).
use Rattle.std.specs.Prelude.{◌≡◌, ◌≢◌, ◌==◌, ◌∷◌, if◌then◌else◌, Bool, ◌+◌, ◌^◌, ◌≤◌, ◌++◌, ℕ, List, [], All, IfSome, codes, length, string_bytes}
use Rattle.ata_types.specs.declared.limits.TheConstants.{CLIENTS}
use Rattle.ata_types.specs.declared.memory.TheConstants.{DRIVER_FRAMES}
use Rattle.configuration.specs.declared.PortConfig.{PortConfig}
use Rattle.configuration.specs.declared.ClientConfig.{ClientConfig}
use Rattle.configuration.specs.declared.GrantConfig.{GrantConfig}

-- 1 to 20 printable ASCII characters; the space is one of them.
pub record IsSerialText (text : List ℕ) : Type 0 where
  pub is_not_empty : 1 ≤ length text
  pub at_most_20 : length text ≤ 20
  pub printable : All (λ c. (32 ≤ c) × (c ≤ 126)) text

-- The port is 0 to 3, and its serial number, if it has one, is a text of a disk.
pub record IsPortInRange (p : PortConfig) : Type 0 where
  pub number : p.number ≤ 3
  pub serial : IfSome p.serial (λ s. IsSerialText (string_bytes s))

-- The client's frames begin behind the driver's and end within the memory's.
pub record IsClientInRange (memory_frames : ℕ) (c : ClientConfig) : Type 0 where
  pub id_is_positive : 1 ≤ c.id
  pub id_is_a_clients : c.id ≤ CLIENTS
  pub first_frame_is_no_drivers : DRIVER_FRAMES ≤ c.first_frame
  pub has_a_frame : 1 ≤ c.frames
  pub frames_end_in_memory : c.first_frame + c.frames ≤ memory_frames

-- what is left of a text after a letter that it may begin with
abbrev pub without_first_letter : ℕ → List ℕ → List ℕ
without_first_letter letter [] = []
without_first_letter letter (c ∷ cs) = if c == letter then cs else c ∷ cs

-- a letter that is chosen, or none
abbrev pub letter_if : Bool → List ℕ → List ℕ
letter_if is_chosen letter = if is_chosen then letter else []

-- a choice of r, w, t and f, in this order, that isn't empty
pub record IsRightsText (text : List ℕ) : Type 0 where
  pub is_not_empty : text ≢ []
  pub is_choice_of_rwtf : (r : Bool) × (w : Bool) × (t : Bool) × (f : Bool)
      × (text ≡ letter_if r (codes "r") ++ (letter_if w (codes "w") ++ (letter_if t (codes "t") ++ letter_if f (codes
      "f"))))

-- The numbers of the grant are in their ranges, its sectors end at 2^48 or before, and its rights are a choice of
-- letters.
pub record IsGrantInRange (g : GrantConfig) : Type 0 where
  pub client_is_positive : 1 ≤ g.client
  pub client_is_a_clients : g.client ≤ CLIENTS
  pub number : g.number ≤ 63
  pub port : g.port ≤ 3
  pub has_a_sector : 1 ≤ g.count
  pub sectors_end_by_2_48 : g.first + g.count ≤ 2 ^ 48
  pub rights : IsRightsText (string_bytes g.rights)
