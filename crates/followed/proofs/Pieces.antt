-- Bytes that are compared piece by piece.
use Rattle.std.proofs.Common.{ℕ, ◌≡◌, ◌∙◌, ◌+◌, ◌-◌, ◌%◌, ◌^◌, ◌≤◌, ◌++◌, List, ap, arith, drop, length, subst, sym, take}
use Rattle.std.proofs.lemmas.List.{drop-take, length-take-le, take-append-drop, take-take}
use Rattle.adapter.specs.Access.{Access}
use Rattle.adapter.specs.Access.Access.{Loading}
use Rattle.followed.specs.Asking.{ComparesPieces}
use Rattle.followed.specs.Asking.ComparesPieces.{next_piece}
use Rattle.followed.specs.ComparedBytes.{AreTakenForSame}

-- the first bytes, and those behind them
take_plus : (m n : ℕ) (xs : List ℕ) → take m xs ++ take n (drop m xs) ≡ take (m + n) xs
take_plus m n xs =
    let le : m ≤ m + n = omega arith in
    ap (λ ys. take m xs ++ ys) (sym (drop-take m n xs)) ∙ ap (λ ys. ys ++ drop m (take (m + n) xs)) (sym (take-take m (m + n) xs le))
    ∙ take-append-drop m (take (m + n) xs)

-- one piece more was compared
pub pieces_more : {P : Type 0} {makes : P → Access → P → Type 0} {first before after : P} (address compared end place : ℕ) (shown said : List ℕ)
    → compared ≤ end → end ≤ length shown → place ≡ (address + compared) % 2 ^ 32
    → ComparesPieces makes address first (take compared shown) before
    → makes before (Loading place said) after
    → AreTakenForSame place (take (end - compared) (drop compared shown)) said
    → ComparesPieces makes address first (take end shown) after
pieces_more {makes = makes} {first = first} {before = before} {after = after} address compared end place shown said more inside is so it same =
    let within : compared ≤ length shown = omega arith in
    let long : length (take compared shown) ≡ compared = length-take-le compared shown within in
    let there : place ≡ (address + length (take compared shown)) % 2 ^ 32 = is ∙ ap (λ n. (address + n) % 2 ^ 32) (sym long) in
    let sum : compared + (end - compared) ≡ end = omega arith in
    let whole : take compared shown ++ take (end - compared) (drop compared shown) ≡ take end shown = take_plus compared (end - compared) shown ∙ ap (λ n. take n shown) sum in
    let Seen : List ℕ → Type 0 = λ seen. ComparesPieces makes address first seen after in
    let At : ℕ → Type 0 = λ p. makes before (Loading p said) after in
    let Same : ℕ → Type 0 = λ p. AreTakenForSame p (take (end - compared) (drop compared shown)) said in
    subst Seen whole (next_piece so (subst At there it) (subst Same there same))
