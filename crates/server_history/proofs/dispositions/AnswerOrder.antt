-- Answers of a port's requests in the order in which they are told.
use Rattle.std.proofs.Common.{ℕ, ◌≡◌, ◌≢◌, ◌<◌, ◌≤◌, ◌==◌, List, [], ◌∷◌, get_or, length, map, refl, sym, ap, ◌∙◌, subst, inr, ⊎_elim, arith}
use Rattle.std.specs.List.{All, AllPairs, IsDistinct, swap}
use Rattle.std.specs.List.Sorted.{IsPermutation}
use Rattle.std.proofs.lemmas.Bool.Decides.{Decides-eqb, nat_tests}
use Rattle.std.proofs.lemmas.List.{get_or-map, length-map, map-set}
use Rattle.std.proofs.lemmas.List.Edits.{swap_is}
use Rattle.std.proofs.lemmas.List.Sorted.{All-permutation, IsPermutation-keeps, IsPermutation-map, IsPermutation-refl, IsPermutation-swap, IsPermutation-sym, IsPermutation-trans}
use Rattle.std.proofs.lemmas.Map.Keys.{IsDistinct-IsPermutation}
use Rattle.std.proofs.lemmas.Map.Made.{AllPairs-from_IsDistinct, IsDistinct-from_AllPairs}
use Rattle.std.proofs.Math.ListN.{set}
use Rattle.ata_types.specs.declared.Port.{Port}
use Rattle.ata_types.specs.declared.request.Outcome.{Outcome}
use Rattle.ata_types.specs.declared.request.Reply.{Reply}
use Rattle.block_machine.specs.Events.{IsLowerByPortThenId, reply_of}
use Rattle.block_machine.specs.State.{Pending}

-- ---- what is in another order

map_swap : {X Y : Type 0} (g : X → Y) (xs : List X) (i j : ℕ) → i < length xs → j < length xs → map g (swap xs i j) ≡ swap (map g xs) i j
map_swap g [] i j x y = absurd (omega (arith, x))
map_swap g (d ∷ rest) i j x y =
    let xs = d ∷ rest in
    let long = length-map xs g in
    ap (map g) (sym (swap_is xs i j d x y)) ∙ map-set g (set xs i (get_or xs j d)) j (get_or xs i d)
    ∙ (λ t. set ((map-set g xs i (get_or xs j d) ∙ ap (set (map g xs) i) (sym (get_or-map g xs j d (g d) y))) t) j (sym (get_or-map g xs i d (g d) x) t))
    ∙ swap_is (map g xs) i j (g d) (omega (arith, long, x)) (omega (arith, long, y))

-- the images in another order are those of the list in another order
unpermuted : {X Y : Type 0} (g : X → Y) (xs : List X) (ys : List Y) → IsPermutation (map g xs) ys → (zs : List X) × (map g zs ≡ ys) × IsPermutation xs zs
unpermuted {X} g xs ys other = IsPermutation-keeps (map g xs) (λ l. (zs : List X) × (map g zs ≡ l) × IsPermutation xs zs) (xs, refl, IsPermutation-refl xs)
    (λ l i j x y w.
    let long : length (map g w.0) ≡ length l = ap length w.1 in
    let same = length-map w.0 g in
    let a : i < length w.0 = omega (arith, long, same, x) in
    let b : j < length w.0 = omega (arith, long, same, y) in
    (swap w.0 i j, map_swap g w.0 i j a b ∙ ap (λ z. swap z i j) w.1, IsPermutation-trans xs w.0 (swap w.0 i j) w.2 (IsPermutation-swap w.0 (swap w.0 i j) i j a b refl))) ys other

-- ---- ids

abbrev pub answered_id : Pending × Outcome → ℕ
answered_id answer = answer.0.request.id.0

-- the answers are of requests of different ids
abbrev pub AreDifferent : List (Pending × Outcome) → Type 0
AreDifferent answers = AllPairs (λ a b. answered_id a ≢ answered_id b) answers

-- of requests of the port
abbrev pub AreOfPort : Port → List (Pending × Outcome) → Type 0
AreOfPort port answers = All (λ a. a.0.request.port ≡ port) answers

-- what is told in order is of different ids
pub told_differ : (port : Port) (answers : List (Pending × Outcome)) → AreOfPort port answers → AllPairs IsLowerByPortThenId answers → AreDifferent answers
told_differ port answers of ordered i j d lt below same = ⊎_elim
    (λ (less : (get_or answers i d).0.request.port.0 < (get_or answers j d).0.request.port.0).
    let a = ap (λ (q : Port). q.0) (of i d (omega (arith, lt, below))) in
    let b = ap (λ (q : Port). q.0) (of j d below) in
    absurd (omega (arith, less, a, b)))
    (λ before. let less = before.1 in absurd (omega (arith, less, same)))
    (ordered i j d lt below)

abbrev ids : List (Pending × Outcome) → List ℕ
ids answers = map answered_id answers

different_ids : (answers : List (Pending × Outcome)) → AreDifferent answers → IsDistinct (λ (x y : ℕ). x == y) (ids answers)
different_ids answers differ = IsDistinct-from_AllPairs Decides-eqb (ids answers) (λ i j d lt below same.
    let long = length-map answers answered_id in
    by answers differ i j d lt (omega (arith, long, below)) same)
  where
    by : (list : List (Pending × Outcome)) → AreDifferent list → (i j d : ℕ) → i < j → j < length list → get_or (ids list) i d ≡ get_or (ids list) j d → ⊥
    by [] differ i j d lt below same = absurd (omega (arith, below))
    by (a ∷ rest) differ i j d lt below same =
        differ i j a lt below (sym (get_or-map answered_id (a ∷ rest) i a d (omega (arith, lt, below))) ∙ same ∙ get_or-map answered_id (a ∷ rest) j a d below)

pub still_differ : (answers other : List (Pending × Outcome)) → IsPermutation answers other → AreDifferent answers → AreDifferent other
still_differ answers other moved differ i j d lt below same =
    let long = length-map other answered_id in
    AllPairs-from_IsDistinct Decides-eqb (ids other)
    (IsDistinct-IsPermutation (λ (x y : ℕ). x == y) (λ x y. flips x y) (ids answers) (ids other) (IsPermutation-map answered_id answers other moved) (different_ids answers differ))
    i j (answered_id d) lt (omega (arith, long, below))
    (get_or-map answered_id other i d (answered_id d) (omega (arith, lt, below)) ∙ same ∙ sym (get_or-map answered_id other j d (answered_id d) below))
  where
    flips : (x y : ℕ) → (x == y) ≡ (y == x)
    flips x y = grind (arith, nat_tests)

-- ---- the order

-- Replies that are those of a port's answers in another order, with their ids in order, are those of the answers as they are told.
pub told_in_order : (port : Port) (answers : List (Pending × Outcome)) (replies : List Reply) → IsPermutation replies (map reply_of answers) → AllPairs (λ (a b : Reply). a.id.0 ≤ b.id.0) replies
    → AreOfPort port answers → AreDifferent answers → (told : List (Pending × Outcome)) × IsPermutation told answers × AllPairs IsLowerByPortThenId told × (replies ≡ map reply_of told)
told_in_order port answers replies moved ordered of differ = (x.0, IsPermutation-sym answers x.0 x.2, before, sym x.1)
  where
    x : (zs : List (Pending × Outcome)) × (map reply_of zs ≡ replies) × IsPermutation answers zs
    x = unpermuted reply_of answers replies (IsPermutation-sym replies (map reply_of answers) moved)

    of_x : AreOfPort port x.0
    of_x = All-permutation (λ a. a.0.request.port ≡ port) answers x.0 x.2 of

    differ_x : AreDifferent x.0
    differ_x = still_differ answers x.0 x.2 differ

    in_order : AllPairs (λ (a b : Reply). a.id.0 ≤ b.id.0) (map reply_of x.0)
    in_order = subst (AllPairs (λ (a b : Reply). a.id.0 ≤ b.id.0)) (sym x.1) ordered

    before : AllPairs IsLowerByPortThenId x.0
    before i j d lt below =
        let long = length-map x.0 reply_of in
        let small : i < length x.0 = omega (arith, lt, below) in
        let le = in_order i j (reply_of d) lt (omega (arith, long, below)) in
        let a = ap (λ (r : Reply). r.id.0) (get_or-map reply_of x.0 i d (reply_of d) small) in
        let b = ap (λ (r : Reply). r.id.0) (get_or-map reply_of x.0 j d (reply_of d) below) in
        let ne = differ_x i j d lt below in
        inr (of_x i d small ∙ sym (of_x j d below), omega (arith, le, a, b, ne))
