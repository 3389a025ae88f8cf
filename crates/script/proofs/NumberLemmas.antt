-- Numbers digit by digit.
use Rattle.std.proofs.Common.{◌≡◌, ◌<◌, ◌≤◌, ◌+◌, ◌-◌, ◌*◌, ◌/◌, ◌%◌, ◌^◌, ◌∙◌, ℕ, List, [], ◌∷◌, ◌++◌, length, take, get_or, arith, ap, sym, refl, subst, inl, inr, length-append}
use Rattle.std.proofs.lemmas.Bool.{cases_lt}
use Rattle.std.proofs.lemmas.Fmt.{decimal_by_steps, decimal_digit, decimal_injective, decimal_step}
use Rattle.std.proofs.lemmas.Grind.{common_steps}
use Rattle.std.proofs.lemmas.List.{get_or_append_left, get_or-append_right}
use Rattle.std.specs.Fmt.{decimal}
use Rattle.script.proofs.WordLemmas.{Within-decimal}

-- the byte at this place is a digit, and with it the number before is one that isn't zero, and not above the whole
pub record GoesOn (n number k : ℕ) (word : List ℕ) : Type 0 where
  pub digit : ℕ
  pub small : digit < 10
  pub byte_is : get_or word k 0 ≡ 48 + digit
  pub some : 0 < number
  pub within : number * 10 + digit ≤ n

-- what a number's digits are, and what those before a place say
abbrev HasNoFieldsWithoutWord : ℕ → List ℕ → Type 0
HasNoFieldsWithoutWord n ds = n < 2 ^ 64 → (ds ≡ decimal n)
    × ((k number digit : ℕ) → 0 < k → k < length ds → number < 2 ^ 64 → decimal number ≡ take k ds → get_or ds k 0 ≡ 48 + digit
    → (0 < number) × (number * 10 + digit ≤ n))

last_digit : (n : ℕ) (ds : List ℕ) → 10 ≤ n → HasNoFieldsWithoutWord (n / 10) ds → HasNoFieldsWithoutWord n (ds ++ ((48 + n % 10) ∷ []))
last_digit n ds many front small =
    let before = front (omega arith) in (
      ap (λ (xs : List ℕ). xs ++ ((48 + n % 10) ∷ [])) before.0 ∙ sym (decimal_step n many small),
      λ k number digit least below fits said byte.
          elim (cases_lt k (length ds)) [
            | inl inside ↦
                let cut : take k (ds ++ ((48 + n % 10) ∷ [])) ≡ take k ds = grind (arith, common_steps) in
                let at = get_or_append_left ds ((48 + n % 10) ∷ []) 0 k inside in
                let more = before.1 k number digit least inside fits (said ∙ cut) (sym at ∙ byte) in (more.0, omega (arith, more.1))
            | inr past ↦
                let here : k ≡ length ds = omega (arith, below, past, length-append ds ((48 + n % 10) ∷ [])) in
                let cut : take k (ds ++ ((48 + n % 10) ∷ [])) ≡ ds = grind (arith, common_steps) in
                let same : number ≡ n / 10 = decimal_injective number (n / 10) fits (omega arith) (said ∙ cut ∙ before.0) in
                let at = get_or-append_right ds ((48 + n % 10) ∷ []) (length ds) k 0 refl past in
                let none : k - length ds ≡ 0 = omega (arith, here) in
                let digit_is : 48 + n % 10 ≡ 48 + digit = sym (at ∙ ap (λ (i : ℕ). get_or ((48 + n % 10) ∷ []) i 0) none) ∙ byte in
                (omega (arith, same, many), omega (arith, same, digit_is))
          ],
    )

spelled_by_steps : (n : ℕ) → n < 2 ^ 64 → HasNoFieldsWithoutWord n (decimal n)
spelled_by_steps n small =
    decimal_by_steps HasNoFieldsWithoutWord (λ n few. λ _. (sym (decimal_digit n few), λ k number digit least below fits said byte. absurd (omega (arith, least, below))))
    last_digit n small

-- a digit of a number
pub digit_at : (n k : ℕ) (word : List ℕ) → n < 2 ^ 64 → decimal n ≡ word → k < length word → (d : ℕ) × (d < 10) × (get_or word k 0 ≡ 48 + d)
digit_at n k word small spells below =
    let among = Within-decimal n small k 0 (omega (arith, below, ap length spells)) in
    let same : get_or (decimal n) k 0 ≡ get_or word k 0 = ap (λ (text : List ℕ). get_or text k 0) spells in
    (get_or word k 0 - 48, omega (arith, among.1, same), omega (arith, among.0, same))

-- a number that is spelled by the first bytes of another's word, and isn't all of it
pub goes_on : (n number k : ℕ) (word : List ℕ) → n < 2 ^ 64 → decimal n ≡ word → number < 2 ^ 64 → 0 < k → k < length word → decimal number ≡ take k word
    → GoesOn n number k word
goes_on n number k word small spells fits least below said =
    let d = digit_at n k word small spells below in
    let P : List ℕ → Type 0 = λ ds. (k number digit : ℕ) → 0 < k → k < length ds → number < 2 ^ 64 → decimal number ≡ take k ds → get_or ds k 0 ≡ 48 + digit
    → (0 < number) × (number * 10 + digit ≤ n) in
    let all = subst P spells (spelled_by_steps n small small).1 k number d.0 least below fits said d.2 in
    record { digit = d.0; small = d.1; byte_is = d.2; some = all.0; within = all.1 }

-- one digit more
pub one_more : (number digit k : ℕ) (word : List ℕ) → 0 < number → digit < 10 → number * 10 + digit < 2 ^ 64 → k < length word → get_or word k 0 ≡ 48 + digit
    → decimal number ≡ take k word → decimal (number * 10 + digit) ≡ take (k + 1) word
one_more number digit k word some few small below byte said =
    let front : (number * 10 + digit) / 10 ≡ number = omega (arith, few) in
    let end : (number * 10 + digit) % 10 ≡ digit = omega (arith, few) in
    let step = decimal_step (number * 10 + digit) (omega (arith, some)) small in
    let cut : take (k + 1) word ≡ take k word ++ (get_or word k 0 ∷ []) = grind (arith, common_steps) in
    step ∙ (λ i. decimal (front i) ++ ((48 + end i) ∷ [])) ∙ ap (λ (ds : List ℕ). ds ++ ((48 + digit) ∷ [])) said
    ∙ ap (λ (b : ℕ). take k word ++ (b ∷ [])) (sym byte) ∙ sym cut
