-- A port on which a command failed is recovered: what is asked of the calls, and what came of them.
use Rattle.std.proofs.Common.{ℕ, false, ◌≡◌, ◌≤◌, ◌<◌, ◌-◌, ◌++◌, List, length, take, drop, Some, None, sym, ap, ◌∙◌, subst, arith, append-nil, ⊎_elim}
use Rattle.std.specs.Int.{bit_at}
use Rattle.std.specs.List.{AllPairs}
use Rattle.std.specs.List.Sorted.{IsNonDecreasingBy, IsPermutation}
use Rattle.std.proofs.lemmas.Bool.{cases_lt}
use Rattle.std.proofs.lemmas.Nat.Bits.{bit_at_ones}
use Rattle.std.proofs.lemmas.List.{drop_all, get_or_past, length-append, length-drop, length-take-le, take_all}
use Rattle.std.proofs.lemmas.List.Sorted.{IsPermutation-sym, length_permutation}
use Rattle.ata_types.specs.declared.request.Reply.{Reply}
use Rattle.server_history.specs.ErrorHandling.{AreAllQueuedAs}
use Rattle.slots.specs.SlotUses.{PortSlots, use_at}

-- ---- slots

-- each of 32 bits is one here
all_ones : (slot : ℕ) → slot < 32 → bit_at 4294967295 slot ≡ 1
all_ones slot small = bit_at_ones 32 slot small

-- where none is used, each that is used has whatever kind
pub none_queued : (slots : PortSlots) → length slots.slot_uses ≡ 32 → ((slot : ℕ) → slot < 32 → bit_at 4294967295 slot ≡ 1 → use_at slots slot ≡ None) → AreAllQueuedAs false slots
none_queued slots places none slot used taken =
    ⊎_elim
    (λ (small : slot < 32). let z : None ≡ Some used = sym (none slot small (all_ones slot small)) ∙ taken in absurd cc)
    (λ (past : 32 ≤ slot). let z : None ≡ Some used = sym (get_or_past slots.slot_uses slot None (omega (arith, past, places))) ∙ taken in absurd cc)
    (cases_lt slot 32)

-- ---- replies

-- what is at the end of a list, put in another order, is as much
pub part_ordered : (xs now new : List Reply) (first : ℕ) → now ≡ xs → first ≤ length xs → IsPermutation (take (length now - first) (drop first now)) new
    → IsPermutation new (drop first xs) × (length new ≡ length xs - first)
part_ordered xs now new first is low moved = (back, (length_permutation (drop first xs) new there) ∙ length-drop first xs)
  where
    there : IsPermutation (drop first xs) new
    there = subst (λ (part : List Reply). IsPermutation part new)
        (ap (λ (ys : List Reply). take (length ys - first) (drop first ys)) is ∙ take_all (length xs - first) (drop first xs) (let l = length-drop first xs in omega (arith, l))) moved

    back : IsPermutation new (drop first xs)
    back = IsPermutation-sym (drop first xs) new there

-- replies in order of their ids, as pairs
pub ordered_pairs : (xs : List Reply) → IsNonDecreasingBy (λ (r : Reply). r.id.0) xs → AllPairs (λ (a b : Reply). a.id.0 ≤ b.id.0) xs
ordered_pairs xs order i j d lt low = order i j d (omega (arith, lt)) low

-- a part of a list that was put in order stands at its end
pub ordered_last : (xs now new : List Reply) (first : ℕ) → now ≡ xs → first ≤ length xs → length new ≡ length xs - first
    → take (length xs) ((take first now ++ (new ++ drop (length now - first) (drop first now))) ++ drop (length (take first now ++ (new ++ drop (length now - first) (drop first now)))) xs) ≡ take first xs ++ new
ordered_last xs now new first is low many =
    subst (λ (ys : List Reply). take (length xs) ((take first ys ++ (new ++ drop (length ys - first) (drop first ys))) ++ drop (length (take first ys ++ (new ++ drop (length ys - first) (drop first ys)))) xs) ≡ take first xs ++ new) (sym is)
    (ap (λ (part : List Reply). take (length xs) (part ++ drop (length part) xs)) whole ∙ cut)
  where
    whole : take first xs ++ (new ++ drop (length xs - first) (drop first xs)) ≡ take first xs ++ new
    whole = ap (λ (rest : List Reply). take first xs ++ (new ++ rest)) (drop_all (length xs - first) (drop first xs) (let l = length-drop first xs in omega (arith, l))) ∙ ap (λ (rest : List Reply). take first xs ++ rest) (append-nil new)

    as_many : length (take first xs ++ new) ≡ length xs
    as_many = let a = length-append (take first xs) new in let b = length-take-le first xs low in omega (arith, a, b, many, low)

    cut : take (length xs) ((take first xs ++ new) ++ drop (length (take first xs ++ new)) xs) ≡ take first xs ++ new
    cut = ap (λ (rest : List Reply). take (length xs) ((take first xs ++ new) ++ rest)) (drop_all (length (take first xs ++ new)) xs (omega (arith, as_many))) ∙ ap (take (length xs)) (append-nil (take first xs ++ new))
        ∙ take_all (length xs) (take first xs ++ new) (omega (arith, as_many))
