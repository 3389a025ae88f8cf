-- A choice of letters in their order, taken apart letter by letter.
use Rattle.std.proofs.Common.{◌≡◌, ◌==◌, ◌∙◌, ◌++◌, ℕ, Bool, true, false, if◌then◌else◌, List, [], ◌∷◌, codes, ◌↔◌, IsTrue, length, refl, ap, append-nil, arith, sym}
use Rattle.std.proofs.lemmas.Bool.{eqb-true}
use Rattle.configuration.specs.Ranges.{IsRightsText, letter_if, without_first_letter}

letter_or_not : (letter c : ℕ) (cs : List ℕ) (b : Bool) → (c == letter) ≡ b
    → (p : Bool) × (c ∷ cs ≡ letter_if p (letter ∷ []) ++ (if b then cs else c ∷ cs))
letter_or_not letter c cs true is = (true, ap (λ d. d ∷ cs) (eqb-true c letter is))
letter_or_not letter c cs false is = (false, refl)

-- a text is the letter, or not, and what is left without it
pub letter_first : (letter : ℕ) (text : List ℕ)
    → (p : Bool) × (text ≡ letter_if p (letter ∷ []) ++ without_first_letter letter text)
letter_first letter [] = (false, refl)
letter_first letter (c ∷ cs) = letter_or_not letter c cs (c == letter) refl

-- what is left of a text without its letters
abbrev pub left : List ℕ → List ℕ
left text = without_first_letter 102 (without_first_letter 116 (without_first_letter 119 (without_first_letter 114 text)))

abbrev spelled : Bool → Bool → Bool → Bool → List ℕ
spelled r w t f = letter_if r (codes "r") ++ (letter_if w (codes "w") ++ (letter_if t (codes "t") ++ letter_if f (codes "f")))

pub choice_of : (text : List ℕ) → left text ≡ []
    → (r : Bool) × (w : Bool) × (t : Bool) × (f : Bool) × (text ≡ spelled r w t f)
choice_of text none =
    let r = letter_first 114 text in
    let w = letter_first 119 (without_first_letter 114 text) in
    let t = letter_first 116 (without_first_letter 119 (without_first_letter 114 text)) in
    let f = letter_first 102 (without_first_letter 116 (without_first_letter 119 (without_first_letter 114 text))) in
    let last = f.1 ∙ ap (λ rest. letter_if f.0 (codes "f") ++ rest) none ∙ append-nil (letter_if f.0 (codes "f")) in
    let third = t.1 ∙ ap (λ rest. letter_if t.0 (codes "t") ++ rest) last in
    let second = w.1 ∙ ap (λ rest. letter_if w.0 (codes "w") ++ rest) third in
    (r.0, w.0, t.0, f.0, r.1 ∙ ap (λ rest. letter_if r.0 (codes "r") ++ rest) second)

pub left_of_choice : (r w t f : Bool) → left (spelled r w t f) ≡ []
left_of_choice true true true true = refl
left_of_choice true true true false = refl
left_of_choice true true false true = refl
left_of_choice true true false false = refl
left_of_choice true false true true = refl
left_of_choice true false true false = refl
left_of_choice true false false true = refl
left_of_choice true false false false = refl
left_of_choice false true true true = refl
left_of_choice false true true false = refl
left_of_choice false true false true = refl
left_of_choice false true false false = refl
left_of_choice false false true true = refl
left_of_choice false false true false = refl
left_of_choice false false false true = refl
left_of_choice false false false false = refl

no_length : (xs : List ℕ) → (length xs == 0) ≡ true → xs ≡ []
no_length [] is = refl
no_length (x ∷ xs) is = absurd (omega (arith, eqb-true (length (x ∷ xs)) 0 is))

-- a text is rights where it isn't empty, and nothing is left of it without its letters
pub rights_by_left : (text rest : List ℕ) (is_empty is_right : Bool) → rest ≡ left text → is_empty ≡ (length text == 0)
    → is_empty ≡ false → is_right ≡ (length rest == 0) → IsTrue is_right ↔ IsRightsText text
rights_by_left text rest is_empty is_right left_is empty_is some is =
    let empty = λ (xs : List ℕ) (no : xs ≡ []). ap (λ ys. length ys == 0) no in (
      (λ yes. record {
        is_not_empty = λ no. let e = empty text no in cc;
        is_choice_of_rwtf = choice_of text (sym left_is ∙ no_length rest (sym is ∙ yes));
      }),
      (λ h.
          let p = h.is_choice_of_rwtf in
          let none = left_is ∙ ap left p.4 ∙ left_of_choice p.0 p.1 p.2 p.3 in
          is ∙ empty rest none),
    )
