-- The disk that is wanted in a port.
use Rattle.std.proofs.Common.{ℕ, ◌≡◌, ◌<◌, ◌∙◌, zero, suc, List, [], ◌∷◌, Some, AllPairs, ap, arith, get_or, length, option_map, refl, string_bytes, sym, ⊎_elim}
use Rattle.std.proofs.lemmas.Bool.{cases_lt}
use Rattle.std.proofs.lemmas.List.{get_or_default}
use Rattle.std.specs.List.{slice_get}
use Rattle.configuration.specs.Rules.{DifferInNumber, ConfiguresPort}
use Rattle.configuration.specs.declared.PortConfig.{PortConfig}
use Rattle.identify.specs.declared.wanted.Wanted.{Wanted}
use Rattle.configuration.specs.PlanParts.{IsWantedIn, wanted_disk}

-- ports of one number stand at one place
one_place : (ports : List PortConfig) (i j : ℕ) (d : PortConfig) → AllPairs DifferInNumber ports → i < length ports
    → j < length ports → (get_or ports i d).number ≡ (get_or ports j d).number → i ≡ j
one_place ports i j d once low high same = ⊎_elim
    (λ before. absurd (once i j d before high same))
    (λ from. ⊎_elim (λ after. absurd (once j i d after low (sym same))) (λ to. omega (arith, from, to)) (cases_lt j i))
    (cases_lt i j)

-- the first port of a number is the only one
pub wanted_at : (ports : List PortConfig) (number i : ℕ) (p : PortConfig) → AllPairs DifferInNumber ports → i < length ports
    → get_or ports i p ≡ p → p.number ≡ number → IsWantedIn ports number (wanted_disk (option_map string_bytes p.serial))
unfolding ConfiguresPort
wanted_at ports number i p once within there is = record {
  configured_port_wants_disk = λ k d low same.
      let here : get_or ports k d ≡ get_or ports k p = get_or_default ports k d p low in
      let numbers = ap (λ (q : PortConfig). q.number) there ∙ is ∙ sym same ∙ ap (λ (q : PortConfig). q.number) here in
      let place : i ≡ k = one_place ports i k p once within low numbers in
      let one : p ≡ get_or ports k d = sym there ∙ ap (λ n. get_or ports n p) place ∙ sym here in
      ap (λ (q : PortConfig). wanted_disk (option_map string_bytes q.serial)) one;
  other_port_wants_nothing = λ none. absurd (none (i, p, within, there, is));
}

-- what holds of each of four disks at its number
pub four : (P : ℕ → Wanted → Type 0) (a b d e : Wanted) → P 0 a → P 1 b → P 2 d → P 3 e → (number : ℕ) → number < 4
    → (w : Wanted) × (slice_get (a ∷ b ∷ d ∷ e ∷ []) number ≡ Some w) × P number w
four P a b d e first second third fourth zero less = (a, refl, first)
four P a b d e first second third fourth (suc zero) less = (b, refl, second)
four P a b d e first second third fourth (suc (suc zero)) less = (d, refl, third)
four P a b d e first second third fourth (suc (suc (suc zero))) less = (e, refl, fourth)
four P a b d e first second third fourth (suc (suc (suc (suc n)))) less = absurd (omega (arith, less))
