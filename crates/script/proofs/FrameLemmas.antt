-- Lists of frames as words.
use Rattle.std.proofs.Common.{◌≡◌, ◌<◌, ◌∙◌, ℕ, suc, List, [], ◌∷◌, ◌++◌, length, get_or, arith, ap, ap₂, sym, refl, map, append-nil, subst}
use Rattle.std.proofs.lemmas.List.{map-append}
use Rattle.std.proofs.lemmas.Fmt.{decimal_nonempty, decimal_injective}
use Rattle.std.proofs.lemmas.List.Splits.{join_with_byte-slice_split, length-slice_split}
use Rattle.std.proofs.lemmas.List.Elements.{All-nil, All-cons, All-head, All-tail, All-append}
use Rattle.std.specs.Bool.{◌==◌}
use Rattle.std.specs.Fmt.{decimal}
use Rattle.std.specs.List.{All, join_with_byte, slice_split}
use Rattle.ata_types.specs.declared.request.Frame.{Frame}
use Rattle.script.specs.FieldWords.{frames_word}
use Rattle.script.proofs.WordLemmas.{Among, Within, Lacks, Lacks-below, Within-decimal, slice_split-join}

abbrev pub IsFrame : Frame → Type 0
IsFrame frame = frame.0 < 65536

abbrev pub spelled : Frame → List ℕ
spelled frame = decimal frame.0

pub decimals : (frames : List Frame) → All IsFrame frames → All (Within 48 58) (map spelled frames)
decimals [] h = All-nil (Within 48 58)
decimals (f ∷ frames) h =
    let small : f.0 < 65536 = All-head IsFrame f frames h in
    All-cons (Within 48 58) (decimal f.0) (map spelled frames) (Within-decimal f.0 (omega arith))
    (decimals frames (All-tail IsFrame f frames h))

no_commas : (words : List (List ℕ)) → All (Within 48 58) words → All (Lacks 44) words
no_commas words h = λ k d l. Lacks-below 48 58 44 (get_or words k d) (omega arith) (h k d l)

-- a list that isn't empty is parted into its frames
pub parted : (f : Frame) (frames : List Frame) → All IsFrame (f ∷ frames)
    → slice_split (λ b. b == 44) (frames_word (f ∷ frames)) ≡ map spelled (f ∷ frames)
parted f frames h = slice_split-join 44 (spelled f) (map spelled frames) (no_commas (map spelled (f ∷ frames)) (decimals (f ∷ frames) h))

-- `-` is the word of no other list
first_digit : (text rest : List ℕ) → Within 48 58 text → 0 < length text → text ++ rest ≡ 45 ∷ [] → ⊥
first_digit [] rest h l e = omega arith
first_digit (b ∷ text) rest h l e =
    let digit : Among 48 58 b = All-head (Among 48 58) b text h in
    let same : b ≡ 45 = ap (λ t. get_or t 0 0) e in
    omega (arith, digit.0, same)

pub no_dash : (f : Frame) (frames : List Frame) → All IsFrame (f ∷ frames) → frames_word (f ∷ frames) ≡ 45 ∷ [] → ⊥
no_dash f [] h e =
    let small : f.0 < 65536 = All-head IsFrame f [] h in
    first_digit (decimal f.0) [] (Within-decimal f.0 (omega arith)) (decimal_nonempty f.0 (omega arith)) (append-nil (decimal f.0) ∙ e)
no_dash f (g ∷ frames) h e =
    let small : f.0 < 65536 = All-head IsFrame f (g ∷ frames) h in
    first_digit (decimal f.0) (44 ∷ join_with_byte 44 (map spelled (g ∷ frames))) (Within-decimal f.0 (omega arith)) (decimal_nonempty f.0 (omega arith)) e

pub none_for_dash : (frames : List Frame) → All IsFrame frames → frames_word frames ≡ 45 ∷ [] → frames ≡ []
none_for_dash [] h e = refl
none_for_dash (f ∷ frames) h e = absurd (no_dash f frames h e)

pub parted_word : (frames : List Frame) (word : List ℕ) → All IsFrame frames → frames_word frames ≡ word → (word ≡ 45 ∷ [] → ⊥)
    → slice_split (λ b. b == 44) word ≡ map spelled frames
parted_word [] word h e other = absurd (other (sym e))
parted_word (f ∷ frames) word h e other = ap (slice_split (λ b. b == 44)) (sym e) ∙ parted f frames h

-- what is spelled next to some of these frames is one of them
pub next_frame : (xs : List Frame) (word : List ℕ) (rest : List (List ℕ)) (vs : List Frame) → All IsFrame vs
    → map spelled xs ++ word ∷ rest ≡ map spelled vs → (f : Frame) × IsFrame f × (decimal f.0 ≡ word) × (length xs < length vs)
next_frame [] word rest [] h e = let bad : suc (length rest) ≡ 0 = ap length e in absurd (omega (arith, bad))
next_frame [] word rest (v ∷ vs) h e = let head : word ≡ decimal v.0 = cc in (v, All-head IsFrame v vs h, sym head, omega arith)
next_frame (x ∷ xs) word rest [] h e = let bad : suc (length (map spelled xs ++ word ∷ rest)) ≡ 0 = ap length e in absurd (omega (arith, bad))
next_frame (x ∷ xs) word rest (v ∷ vs) h e =
    let tails : map spelled xs ++ word ∷ rest ≡ map spelled vs = cc in
    let more = next_frame xs word rest vs (All-tail IsFrame v vs h) tails in
    (more.0, more.1, more.2, omega (arith, more.3))

-- one frame more is spelled by the next part
pub frame_pushed : (xs : List Frame) (f : Frame) (word : List ℕ) (ys : List Frame) → ys ≡ xs ++ f ∷ [] → decimal f.0 ≡ word
    → map spelled ys ≡ map spelled xs ++ word ∷ []
frame_pushed xs f word ys is e = ap (map spelled) is ∙ (map-append spelled xs (f ∷ []) ∙ ap (λ w. map spelled xs ++ w ∷ []) e)

pub frames_small : (xs : List Frame) (f : Frame) (ys : List Frame) → ys ≡ xs ++ f ∷ [] → All IsFrame xs → f.0 < 65536 → All IsFrame ys
frames_small xs f ys is all small = subst (All IsFrame) (sym is) (All-append IsFrame xs (f ∷ []) all (All-cons IsFrame f [] small (All-nil IsFrame)))

-- frames are known by how they are spelled
pub same_frames : (xs ys : List Frame) → All IsFrame xs → All IsFrame ys → map spelled xs ≡ map spelled ys → xs ≡ ys
same_frames [] [] h k e = refl
same_frames [] (y ∷ ys) h k e = let bad : 0 ≡ suc (length (map spelled ys)) = ap length e in absurd (omega (arith, bad))
same_frames (x ∷ xs) [] h k e = let bad : suc (length (map spelled xs)) ≡ 0 = ap length e in absurd (omega (arith, bad))
same_frames (x ∷ xs) (y ∷ ys) h k e =
    let a : x.0 < 65536 = All-head IsFrame x xs h in
    let b : y.0 < 65536 = All-head IsFrame y ys k in
    let heads : decimal x.0 ≡ decimal y.0 = cc in
    let tails : map spelled xs ≡ map spelled ys = cc in
    let same : x.0 ≡ y.0 = decimal_injective x.0 y.0 (omega arith) (omega arith) heads in
    ap₂ ◌∷◌ (ap (λ n. record { 0 = n }) same) (same_frames xs ys (All-tail IsFrame x xs h) (All-tail IsFrame y ys k) tails)

-- the parts of a word that are frames are spelled by it
pub whole_word : (frames : List Frame) (word : List ℕ) → map spelled frames ≡ slice_split (λ b. b == 44) word → frames_word frames ≡ word
whole_word [] word e = absurd (omega (arith, ap length e, length-slice_split (λ b. b == 44) word))
whole_word (f ∷ frames) word e = ap (join_with_byte 44) e ∙ join_with_byte-slice_split 44 word
