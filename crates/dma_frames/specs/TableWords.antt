-- How a table stands in memory: words of owners' numbers, words of bits, and ids by the frame's number.
use Rattle.std.specs.Prelude.{ℕ, ◌≡◌, ◌*◌, ◌/◌, ◌%◌, ◌^◌, ◌<◌, ◌↔◌, ◌==◌, if◌then◌else◌, List, map, length, Option, None, Some, IsSome, slice_index, slice_index_or}
use Rattle.std.specs.List.{range_with_len}
use Rattle.ata_types.specs.declared.memory.TheConstants.{MOST_FRAMES}
use Rattle.ata_types.specs.declared.request.ClientId.{ClientId}
use Rattle.ata_types.specs.declared.request.RequestId.{RequestId}
use Rattle.dma_frames.specs.FrameBits.{frame_bit}

-- one of a word's sixteen numbers of four bits
abbrev pub number_at : ℕ → ℕ → ℕ
number_at word k = word / 2 ^ (4 * k) % 16

-- the client of a number; 0 is nobody
abbrev pub client_of : ℕ → Option ClientId
client_of n = if n == 0 then None else Some (record { 0 = n })

-- the owner of a frame whose number stands in these words
abbrev pub owner_in : List ℕ → ℕ → Option ClientId
owner_in words frame = client_of (number_at (slice_index words (frame / 16)) (frame % 16))

-- the owners of the frames, sixteen to a word
abbrev pub owners_of : List ℕ → List (Option ClientId)
owners_of words = map (owner_in words) (range_with_len 0 (16 * length words))

-- a frame's bit is set exactly if a request's id stands at the frame
abbrev pub AreLentBits : List ℕ → List (Option RequestId) → Type 0
AreLentBits words ids =
    (frame : ℕ) → frame < MOST_FRAMES → (frame_bit words frame ≡ 1) ↔ IsSome (slice_index_or ids frame None)

-- There are 64 words of owners, 16 words of bits, and an id or none for each frame, and bits and ids agree.
pub record WordsAgreeWithIds (owners lent : List ℕ) (ids : List (Option RequestId)) : Type 0 where
  pub owner_words : length owners ≡ 64
  pub bit_words : length lent ≡ 16
  pub all_frames : length ids ≡ MOST_FRAMES
  pub lent_bits : AreLentBits lent ids
