-- Texts that are parted where a byte stands.
use Rattle.std.proofs.Common.{◌≡◌, ◌<◌, ◌≤◌, ◌+◌, ◌-◌, ◌∙◌, ℕ, Bool, true, false, List, Option, Some, None, [], ◌∷◌, length, take, take_all, drop, get_or, arith, ap, sym, cond, ltb, slice_index_or, inl, inr, OnSome, ne_eqb, lt-ltb, le-ltb}
use Rattle.std.proofs.lemmas.Bool.{cases_lt}
use Rattle.std.proofs.lemmas.List.{get_or-drop, get_or_default, drop-drop, length-drop}
use Rattle.std.proofs.lemmas.List.Splits.{slice_split_first, slice_split_none}
use Rattle.std.proofs.lemmas.List.Sums.{position_or_len_is}
use Rattle.std.specs.Bool.{◌==◌}
use Rattle.std.specs.List.{position, position_or_len, slice_split}

-- no byte of these places is c
abbrev pub LacksAmong : ℕ → List ℕ → (from to : ℕ) → Type 0
LacksAmong c text from to = (k : ℕ) → from ≤ k → k < to → (slice_index_or text k 0 == c) ≡ false

-- where the first one is
pub first_is : (c : ℕ) (text : List ℕ) (from at : ℕ) → from ≤ at → at ≤ length text → LacksAmong c text from at
    → (at < length text → slice_index_or text at 0 ≡ c) → position_or_len (λ b. b == c) (drop from text) ≡ at - from
first_is c text from at order within lacks is =
    let p : ℕ → Bool = λ b. b == c in
    let long = length-drop from text in
    let here : from + (at - from) ≡ at = omega (arith, order) in
    position_or_len_is p (drop from text) (at - from) 0 (omega (arith, long, order, within))
    (λ k less. ap p (get_or-drop from text k 0) ∙ lacks (from + k) (omega arith) (omega (arith, less, order)))
    (λ less. ap p (get_or-drop from text (at - from) 0 ∙ (ap (λ n. get_or text n 0) here ∙ is (omega (arith, less, long, order)))) ∙ grind arith)

-- the part before it
pub part_first : (c : ℕ) (text : List ℕ) (from at : ℕ) → from ≤ at → at < length text → LacksAmong c text from at → slice_index_or text at 0 ≡ c
    → slice_split (λ b. b == c) (drop from text) ≡ take (at - from) (drop from text) ∷ slice_split (λ b. b == c) (drop (at + 1) text)
part_first c text from at order within lacks is =
    let p : ℕ → Bool = λ b. b == c in
    let xs : List ℕ = drop from text in
    let long = length-drop from text in
    let first = first_is c text from at order (omega (arith, within)) lacks (λ _. is) in
    let on : from + (at - from + 1) ≡ at + 1 = omega (arith, order) in
    slice_split_first p xs 0 (omega (arith, first, long, order, within))
    ∙ (ap (λ n. take n xs ∷ slice_split p (drop (n + 1) xs)) first
    ∙ ap (λ ys. take (at - from) xs ∷ slice_split p ys) (drop-drop (at - from + 1) from text ∙ ap (λ n. drop n text) on))

-- the last part, in which none is
pub part_last : (c : ℕ) (text : List ℕ) (from : ℕ) → LacksAmong c text from (length text)
    → slice_split (λ b. b == c) (drop from text) ≡ take (length text - from) (drop from text) ∷ []
part_last c text from lacks =
    let p : ℕ → Bool = λ b. b == c in
    let long = length-drop from text in
    slice_split_none p (drop from text)
    (λ k d less.
    ap p (get_or-drop from text k d ∙ get_or_default text (from + k) d 0 (omega (arith, less, long)))
    ∙ lacks (from + k) (omega arith) (omega (arith, less, long)))
    ∙ ap (λ w. w ∷ []) (sym (take_all (length text - from) (drop from text) (omega (arith, long))))

-- none is on one more place
pub lacks_more : (c : ℕ) (text : List ℕ) (from to : ℕ) → LacksAmong c text from to → (slice_index_or text to 0 ≡ c → ⊥) → LacksAmong c text from (to + 1)
lacks_more c text from to lacks not k above below = elim (cases_lt k to) [
  | inl less ↦ lacks k above less
  | inr more ↦
      let here : k ≡ to = omega (arith, below, more) in
      ne_eqb (slice_index_or text k 0) c (λ is. not (ap (λ n. slice_index_or text n 0) (sym here) ∙ is))
]

-- the first place of a text where it is, or none
pub position_found : (c : ℕ) (text : List ℕ) (at : ℕ) → at < length text → LacksAmong c text 0 at → slice_index_or text at 0 ≡ c
    → Some at ≡ position (λ b. b == c) text
position_found c text at within lacks is =
    let first : position_or_len (λ b. b == c) text ≡ at = position_or_len_is (λ b. b == c) text at 0 (omega (arith, within)) (λ k less. lacks k (omega arith) less)
    (λ _. ap (λ b. b == c) is ∙ grind arith) in
    let yes : ltb at (length text) ≡ true = lt-ltb at (length text) within in
    sym (ap (λ n. cond (ltb n (length text)) (Some n) None) first ∙ ap (λ b. cond b (Some at) None) yes)

pub position_none : (c : ℕ) (text : List ℕ) → LacksAmong c text 0 (length text) → None ≡ position (λ b. b == c) text
position_none c text lacks =
    let first : position_or_len (λ b. b == c) text ≡ length text =
    position_or_len_is (λ b. b == c) text (length text) 0 (omega arith) (λ k less. lacks k (omega arith) less)
    (λ less. absurd (omega (arith, less))) in
    let no : ltb (length text) (length text) ≡ false = le-ltb (length text) (length text) (omega arith) in
    sym (ap (λ n. cond (ltb n (length text)) (Some n) None) first ∙ ap (λ b. cond b (Some (length text)) None) no)

-- what follows from what holds where something is found
pub on_some : {P Q : Type 0} (found : Option (Unit {0})) → (P → Q) → OnSome found P → OnSome found Q
on_some None by h = h
on_some (Some x) by h = by h
