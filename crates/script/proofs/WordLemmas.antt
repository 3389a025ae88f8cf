-- Words joined and parted again, and the bytes of which the words of lines are made.
use Rattle.std.proofs.Common.{◌≡◌, ◌<◌, ◌≤◌, ◌+◌, ◌%◌, ◌/◌, ◌^◌, ◌∙◌, ℕ, zero, suc, true, false, List, [], ◌∷◌, get_or, length, map, arith, ap, refl, nat_le, nat_lt, ◌&&◌}
use Rattle.std.specs.Borrow.{Bor}
use Rattle.std.proofs.lemmas.Fmt.{decimal_by_steps}
use Rattle.std.proofs.lemmas.List.Elements.{All-nil, All-cons, All-head, All-tail, All-append}
use Rattle.std.proofs.lemmas.List.Sums.{AllPass-from_list_all}
use Rattle.std.proofs.lemmas.List.Splits.{slice_split_none, slice_split_at}
use Rattle.std.proofs.lemmas.Str.{IsUtf8-from_ascii}
use Rattle.std.specs.Bool.{◌==◌}
use Rattle.std.specs.Fmt.{decimal}
use Rattle.std.specs.List.{All, list_all, join_with_byte, slice_split}
use Rattle.std.specs.Str.{IsUtf8}
use Rattle.hex.specs.Hex.{encode_with, encode_lower, lower_digits}

-- the byte is from low on and below high
abbrev pub Among : ℕ → ℕ → ℕ → Type 0
Among low high b = (low ≤ b) × (b < high)

-- each byte is
abbrev pub Within : ℕ → ℕ → List ℕ → Type 0
Within low high text = All (Among low high) text

-- no byte of the text is c
abbrev pub Lacks : ℕ → List ℕ → Type 0
Lacks c text = All (λ b. (b == c) ≡ false) text

pub Within-weaker : (low high low' high' : ℕ) (text : List ℕ) → low' ≤ low → high ≤ high' → Within low high text → Within low' high' text
Within-weaker low high low' high' text down up h = λ k d l. let both = h k d l in (omega (arith, both.0), omega (arith, both.1))

-- the bytes of a number's digits
pub Within-decimal : (n : ℕ) → n < 2 ^ 64 → Within 48 58 (decimal n)
Within-decimal n fits =
    decimal_by_steps (λ n ds. Within 48 58 ds)
    (λ n l. All-cons (Among 48 58) (48 + n) [] (omega arith, omega arith) (All-nil (Among 48 58)))
    (λ n ds l h. All-append (Among 48 58) ds ((48 + n % 10) ∷ []) h
    (All-cons (Among 48 58) (48 + n % 10) [] (omega arith, omega arith) (All-nil (Among 48 58))))
    n fits

pub Lacks-below : (low high c : ℕ) (text : List ℕ) → c < low → Within low high text → Lacks c text
Lacks-below low high c text below h = λ k d l. let both = h k d l in grind arith

pub Within-join : (low high c : ℕ) → low ≤ c → c < high → (words : List (List ℕ)) → All (Within low high) words
    → Within low high (join_with_byte c words)
Within-join low high c from to [] h = All-nil (Among low high)
Within-join low high c from to (w ∷ []) h = All-head (Within low high) w [] h
Within-join low high c from to (w ∷ v ∷ words) h =
    All-append (Among low high) w (c ∷ join_with_byte c (v ∷ words)) (All-head (Within low high) w (v ∷ words) h)
    (All-cons (Among low high) c (join_with_byte c (v ∷ words)) (from, to)
    (Within-join low high c from to (v ∷ words) (All-tail (Within low high) w (v ∷ words) h)))

-- parting gives back what was joined
pub slice_split-join : (c : ℕ) (w : List ℕ) (words : List (List ℕ)) → All (Lacks c) (w ∷ words)
    → slice_split (λ b. b == c) (join_with_byte c (w ∷ words)) ≡ w ∷ words
slice_split-join c w [] h = slice_split_none (λ b. b == c) w (All-head (Lacks c) w [] h)
slice_split-join c w (v ∷ words) h =
    slice_split_at (λ b. b == c) w c (join_with_byte c (v ∷ words)) (All-head (Lacks c) w (v ∷ words) h) (grind arith)
    ∙ ap (λ ws. w ∷ ws) (slice_split-join c v words (All-tail (Lacks c) w (v ∷ words) h))

-- text of such bytes is UTF-8
pub IsUtf8-from_Within : (low : ℕ) (text : List ℕ) → Within low 128 text → IsUtf8 text
IsUtf8-from_Within low text h = IsUtf8-from_ascii text (ascii text h)
  where
    ascii : (text : List ℕ) → Within low 128 text → (i : ℕ) → get_or text i 0 < 128
    ascii [] h i = omega arith
    ascii (b ∷ rest) h zero = (All-head (Among low 128) b rest h).1
    ascii (b ∷ rest) h (suc i) = ascii rest (All-tail (Among low 128) b rest h) i

-- a word that stands in the grammar itself
pub Within-literal : (text : List ℕ) → list_all (λ b. nat_le 33 b && nat_lt b 128) text ≡ true → Within 33 128 text
Within-literal text h = λ k d l. let passes = AllPass-from_list_all (λ b. nat_le 33 b && nat_lt b 128) text h k d l in grind arith

-- the bytes of hexadecimal pairs
pub Within-hex : (bytes : List ℕ) → All (λ b. b < 256) bytes → Within 33 128 (encode_lower bytes)
unfolding encode_with
Within-hex [] h = All-nil (Among 33 128)
Within-hex (b ∷ bytes) h =
    let small : b < 256 = All-head (λ b. b < 256) b bytes h in
    let digit = Within-literal lower_digits refl in
    let high : Among 33 128 (get_or lower_digits (b / 16) 0) = digit (b / 16) 0 (omega arith) in
    let low : Among 33 128 (get_or lower_digits (b % 16) 0) = digit (b % 16) 0 (omega arith) in
    All-cons (Among 33 128) (get_or lower_digits (b / 16) 0) (get_or lower_digits (b % 16) 0 ∷ encode_lower bytes) high
    (All-cons (Among 33 128) (get_or lower_digits (b % 16) 0) (encode_lower bytes) low
    (Within-hex bytes (All-tail (λ b. b < 256) b bytes h)))

-- five words, one by one
pub five : (words : List (Bor (List ℕ))) (d : Bor (List ℕ)) → length words ≡ 5
    → map (λ w. w.now) words ≡ (get_or words 0 d).now ∷ (get_or words 1 d).now ∷ (get_or words 2 d).now ∷ (get_or words 3 d).now ∷ (get_or words 4 d).now ∷ []
five [] d l = absurd (omega (arith, l))
five (v ∷ []) d l = absurd (omega (arith, l))
five (v ∷ w ∷ []) d l = absurd (omega (arith, l))
five (v ∷ w ∷ x ∷ []) d l = absurd (omega (arith, l))
five (v ∷ w ∷ x ∷ y ∷ []) d l = absurd (omega (arith, l))
five (v ∷ w ∷ x ∷ y ∷ z ∷ []) d l = refl
five (v ∷ w ∷ x ∷ y ∷ z ∷ u ∷ words) d l = absurd (omega (arith, l))
