-- The bits of lent frames, and the ids beside them.
use Rattle.std.proofs.Common.{ℕ, ◌≡◌, ◌≢◌, ◌<◌, ◌⊎◌, ◌↔◌, true, List, length, get_or, set, Option, None, Some, sym, subst, arith, inl, inr, refl}
use Rattle.std.proofs.lemmas.Bool.{cases_eq, cases_lt}
use Rattle.std.proofs.lemmas.List.{get_or_past, get_or-set_other, get_or-set_same}
use Rattle.std.specs.Option.{is_some, IsSome}
use Rattle.ata_types.specs.declared.memory.TheConstants.{MOST_FRAMES}
use Rattle.ata_types.specs.declared.request.RequestId.{RequestId}
use Rattle.dma_frames.specs.FrameBits.{frame_bit}
use Rattle.dma_frames.specs.TableWords.{AreLentBits}
use Rattle.dma_frames.proofs.FrameBits.{no_bit, within_if_set}

some_true : (to : Option RequestId) → IsSome to → is_some to ≡ true
some_true None some = some
some_true (Some id) some = some

true_some : (to : Option RequestId) → is_some to ≡ true → IsSome to
true_some None is = is
true_some (Some id) is = is

-- one frame's bit and id are put
pub agree_with_one_more : (lent later : List ℕ) (ids : List (Option RequestId)) (f : ℕ) (to : Option RequestId) → length ids ≡ MOST_FRAMES → f < MOST_FRAMES → AreLentBits lent ids
    → ((is_some to ≡ true) ↔ (frame_bit later f ≡ 1)) → ((k : ℕ) → k ≢ f → frame_bit later k ≡ frame_bit lent k) → AreLentBits later (set ids f to)
agree_with_one_more lent later ids f to many within agree this others k lt = by (cases_eq k f)
  where
    by : (k ≡ f) ⊎ (k ≢ f) → (frame_bit later k ≡ 1) ↔ IsSome (get_or (set ids f to) k None)
    by (inl e) =
        subst (λ (n : ℕ). (frame_bit later n ≡ 1) ↔ IsSome (get_or (set ids f to) n None)) (sym e)
        (subst (λ (o : Option RequestId). (frame_bit later f ≡ 1) ↔ IsSome o) (sym (get_or-set_same ids f to None (omega (arith, many, within))))
        (λ one. true_some to (this.1 one), λ some. this.0 (some_true to some)))
    by (inr not) =
        subst (λ (o : Option RequestId). (frame_bit later k ≡ 1) ↔ IsSome o) (sym (get_or-set_other ids f k to None not))
        (subst (λ (b : ℕ). (b ≡ 1) ↔ IsSome (get_or ids k None)) (sym (others k not)) (agree k lt))

-- no bit, no id
pub none_agree : (lent : List ℕ) (ids : List (Option RequestId)) → ((i : ℕ) → get_or lent i 0 ≡ 0) → ((i : ℕ) → get_or ids i None ≡ None) → AreLentBits lent ids
none_agree lent ids zero none f lt = (
  λ one. absurd (no_bit lent zero f one),
  λ some. absurd (let no = subst IsSome (none f) some in cc),
)

module _ (lent : List ℕ) (ids : List (Option RequestId)) (words : length lent ≡ 16) (all_frames : length ids ≡ MOST_FRAMES) (agree : AreLentBits lent ids) (f : ℕ) where
  -- the bit of a frame is set exactly if it is lent; that of none past the memory is
  pub lent_if_set : frame_bit lent f ≡ 1 → IsSome (get_or ids f None)
  lent_if_set one = (agree f (within_if_set lent words f one)).0 one

  pub set_if_lent : IsSome (get_or ids f None) → frame_bit lent f ≡ 1
  set_if_lent is = elim (cases_lt f MOST_FRAMES) [
    | inl within ↦ (agree f within).1 is
    | inr past ↦ absurd (let no = subst IsSome (get_or_past ids f None (omega (arith, all_frames, past))) is in cc)
  ]

pub none_unless_some : (o : Option RequestId) → (IsSome o → ⊥) → o ≡ None
none_unless_some None not = refl
none_unless_some (Some id) not = absurd (not (true_some (Some id) refl))
