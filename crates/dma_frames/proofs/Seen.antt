-- The bits of the frames that were seen.
use Rattle.std.proofs.Common.{ℕ, ◌≡◌, ◌≢◌, ◌+◌, ◌<◌, ◌↔◌, List, Some, get_or, sym, ap, ◌∙◌, arith, inl, inr}
use Rattle.std.specs.List.{slice_get}
use Rattle.std.proofs.lemmas.Bool.{cases_eq}
use Rattle.std.proofs.lemmas.Option.{same_Some}
use Rattle.ata_types.specs.declared.request.Frame.{Frame}
use Rattle.ata_types.specs.declared.memory.TheConstants.{MOST_FRAMES}
use Rattle.block_machine.specs.Rules.{IsRepeatAt}
use Rattle.dma_frames.specs.FrameBits.{frame_bit}
use Rattle.dma_frames.proofs.FrameBits.{no_bit}

-- one of the first n frames is the one of this number
abbrev pub StandsBefore : List Frame → ℕ → ℕ → Type 0
StandsBefore frames n f = (j : ℕ) × (j < n) × (slice_get frames j ≡ Some (record { 0 = f }))

-- the bits that are set are those of the first n frames
abbrev pub AreSeen : List ℕ → List Frame → ℕ → Type 0
AreSeen words frames n = (f : ℕ) → f < MOST_FRAMES → (frame_bit words f ≡ 1) ↔ StandsBefore frames n f

pub none_seen : (words : List ℕ) (frames : List Frame) → ((i : ℕ) → get_or words i 0 ≡ 0) → AreSeen words frames 0
none_seen words frames zero f lt = (
  λ one. absurd (no_bit words zero f one),
  λ w. absurd (let h = w.1 in omega (arith, h)),
)

-- one of one frame more, and not that one, is one of those before
pub earlier : (frames : List Frame) (n : ℕ) (frame : Frame) → slice_get frames n ≡ Some frame → (f : ℕ) → StandsBefore frames (n + 1) f → f ≢ frame.0 → StandsBefore frames n f
earlier frames n frame here f w not = elim (cases_eq w.0 n) [
  | inl e ↦ absurd (not (ap (λ (k : Frame). k.0) (same_Some _ _ (sym w.2 ∙ (ap (slice_get frames) e ∙ here)))))
  | inr other ↦ let h = w.1 in (w.0, omega (arith, h), w.2)
]

-- a frame whose bit isn't set doesn't stand twice, where the bits of those before it are set
pub once_by : (words : List ℕ) (frames : List Frame) (n : ℕ) (frame : Frame) → slice_get frames n ≡ Some frame → frame.0 < MOST_FRAMES
    → ((f : ℕ) → f < MOST_FRAMES → StandsBefore frames n f → frame_bit words f ≡ 1) → (frame_bit words frame.0 ≡ 1 → ⊥) → IsRepeatAt frames n → ⊥
once_by words frames n frame here within seen not twice =
    let same : twice.0 ≡ frame = same_Some _ _ (sym twice.4 ∙ here) in
    not (seen frame.0 within (twice.1, twice.2, twice.3 ∙ ap Some same))

module _ (words : List ℕ) (frames : List Frame) (n : ℕ) (frame : Frame) (here : slice_get frames n ≡ Some frame) (within : frame.0 < MOST_FRAMES)
    (seen : AreSeen words frames n) where
  pub seen_more : (new : List ℕ) → frame_bit new frame.0 ≡ 1 → ((k : ℕ) → k ≢ frame.0 → frame_bit new k ≡ frame_bit words k)
      → AreSeen new frames (n + 1)
  seen_more new this others f lt = elim (cases_eq f frame.0) [
    | inl e ↦ (
      λ _. (n, omega arith, here ∙ ap (λ (k : ℕ). Some (record { 0 = k })) (sym e)),
      λ _. ap (frame_bit new) e ∙ this,
    )
    | inr not ↦ (
      λ one. let w = (seen f lt).0 (sym (others f not) ∙ one) in (w.0, (let h = w.1 in omega (arith, h)), w.2),
      λ w. others f not ∙ (seen f lt).1 (earlier frames n frame here f w not),
    )
  ]

  pub once_here : (frame_bit words frame.0 ≡ 1 → ⊥) → IsRepeatAt frames n → ⊥
  once_here = once_by words frames n frame here within (λ f lt. (seen f lt).1)
