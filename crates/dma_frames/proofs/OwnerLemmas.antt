-- What marking one more run of frames does to the owners.
use Rattle.std.proofs.Common.{zero, suc, replicate, refl, ◌≡◌, ℕ, ◌<◌, ◌+◌, length, get_or, Some, None, List, Option, arith, ap, ◌∙◌, sym, inl, inr, ◌⊎◌}
use Rattle.std.specs.List.{AllPairs, All}
use Rattle.std.proofs.lemmas.Bool.{cases_lt, cases_eq}
use Rattle.std.proofs.lemmas.Option.{same_Some, slice_get-get_or}
use Rattle.std.proofs.lemmas.List.{get_or_default, get_or_past}
use Rattle.ata_types.specs.declared.request.ClientId.{ClientId}
use Rattle.ata_types.specs.declared.request.Frame.{Frame}
use Rattle.ata_types.specs.declared.request.RequestId.{RequestId}
use Rattle.ata_types.specs.declared.memory.TheConstants.{MOST_FRAMES}
use Rattle.ata_types.specs.declared.refusal.FrameFault.TheVariants.{FrameForeign}
use Rattle.block_machine.specs.Rules.{HasNoFault, IsForeignAt}
use Rattle.dma_frames.specs.FrameTables.{FrameExtent, ExtentHasFrame, ExtentsApart, owner_of, lent_to, OwnersAndLoans}

-- the frames of the first i runs are their owners'
abbrev pub Owned : List FrameExtent → List (Option ClientId) → ℕ → Type 0
Owned runs owners i = (k : ℕ) (d : FrameExtent) (f : Frame) → k < i → ExtentHasFrame (get_or runs k d) f → get_or owners f.0 None ≡ Some (get_or runs k d).0

-- a frame that has an owner is of one of the first i runs, and that run is the owner's
abbrev pub Only : List FrameExtent → List (Option ClientId) → ℕ → Type 0
Only runs owners i = (f : Frame) (client : ClientId) → get_or owners f.0 None ≡ Some client
    → (k : ℕ) × (k < i) × ((d : FrameExtent) → ExtentHasFrame (get_or runs k d) f × ((get_or runs k d).0 ≡ client))

cases_frame : (run : FrameExtent) (f : Frame) → ExtentHasFrame run f ⊎ (ExtentHasFrame run f → ⊥)
cases_frame run f = elim (cases_lt f.0 run.1.0) [
  | inl low ↦ inr (λ has. absurd (omega (arith, has.0)))
  | inr high ↦ elim (cases_lt f.0 (run.1.0 + run.2)) [
    | inl inside ↦ inl (high, inside)
    | inr past ↦ inr (λ has. absurd (omega (arith, has.1)))
  ]
]

module _ (runs : List FrameExtent) (old new : List (Option ClientId)) (i : ℕ) (z : FrameExtent) (within : i < length runs)
    (these : (f : Frame) → ExtentHasFrame (get_or runs i z) f → get_or new f.0 None ≡ Some (get_or runs i z).0)
    (others : (f : Frame) → (ExtentHasFrame (get_or runs i z) f → ⊥) → get_or new f.0 None ≡ get_or old f.0 None) where
  pub owned_more : AllPairs ExtentsApart runs → Owned runs old i → Owned runs new (i + 1)
  owned_more apart owned k d f lt has = elim (cases_eq k i) [
    | inl e ↦ let same : get_or runs k d ≡ get_or runs i z = ap (λ n. get_or runs n d) e ∙ get_or_default runs i d z within in
        let there = rw same at has in rw same (these f there)
    | inr ne ↦ let earlier : k < i = omega arith in
        others f (λ h. apart k i d earlier within f has (rw (get_or_default runs i d z within) h)) ∙ owned k d f earlier has
  ]

  pub only_more : Only runs old i → Only runs new (i + 1)
  only_more only f client e = elim (cases_frame (get_or runs i z) f) [
    | inl has ↦ (i, omega arith, λ d. rw (get_or_default runs i d z within) (has, same_Some _ _ (sym (these f has) ∙ e)))
    | inr none ↦ let w = only f client (sym (others f none) ∙ e) in (w.0, omega (arith, w.1), w.2)
  ]

pub none_is : {A : Type 0} {o : Option A} {x : A} → o ≡ None → o ≡ Some x → ⊥
none_is p q = let r = sym p ∙ q in cc

-- a frame that is lent is in the memory
pub lent_within : (t : OwnersAndLoans) (request : RequestId) (frames : List Frame)
    → All (λ f. lent_to t f ≡ Some request) frames → All (λ f. f.0 < length t.lent) frames
lent_within t request frames lent k d h = elim (cases_lt (get_or frames k d).0 (length t.lent)) [
  | inl low ↦ low
  | inr past ↦ absurd (none_is (get_or_past t.lent (get_or frames k d).0 None past) (lent k d h))
]

-- frames that the client owns are in the memory
pub owned_within : (t : OwnersAndLoans) (client : ClientId) (frames : List Frame)
    → ((k : ℕ) → k < length frames → IsForeignAt (owner_of t) client frames k → ⊥) → All (λ f. f.0 < length t.owners) frames
owned_within t client frames own k d h = elim (cases_lt (get_or frames k d).0 (length t.owners)) [
  | inl low ↦ low
  | inr past ↦ absurd (own k h
      (get_or frames k d, slice_get-get_or frames k d h, λ e. none_is (get_or_past t.owners (get_or frames k d).0 None past) e))
]

-- a list of copies has the copy everywhere
pub get_or-copies : {A : Type 0} (n k : ℕ) (x : A) → get_or (replicate n x) k x ≡ x
get_or-copies zero k x = refl
get_or-copies (suc n) zero x = refl
get_or-copies (suc n) (suc k) x = get_or-copies n k x

-- frames with no fault are in the memory
pub faultless_within : (table : OwnersAndLoans) (client : ClientId) (frames : List Frame) → HasNoFault (owner_of table) (lent_to table) client frames → length table.owners ≡ MOST_FRAMES
    → All (λ f. f.0 < MOST_FRAMES) frames
faultless_within table client frames clear many k d less = let owned = owned_within table client frames (λ j _. clear (FrameForeign j)) k d less in omega (arith, owned, many)

-- a frame of one more run is nobody's yet
pub nobody_yet : (runs : List FrameExtent) (owners : List (Option ClientId)) (i : ℕ) (z : FrameExtent) → i < length runs → AllPairs ExtentsApart runs → Only runs owners i
    → (f : Frame) → ExtentHasFrame (get_or runs i z) f → get_or owners f.0 None ≡ None
nobody_yet runs owners i z within apart only f has = by (get_or owners f.0 None) refl
  where
    by : (o : Option ClientId) → get_or owners f.0 None ≡ o → get_or owners f.0 None ≡ None
    by None e = e
    by (Some client) e = let w = only f client e in absurd (apart w.0 i z w.1 within f (w.2 z).0 has)
