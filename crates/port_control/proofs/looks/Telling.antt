-- What each answer of a look says of what was read.
use Rattle.std.proofs.Common.{ℕ, ◌≡◌, ◌≢◌, ◌≤◌, ◌⊎◌, ◌%◌, ◌||◌, ◌==◌, not, Bool, true, false, inl, inr, refl, sym, ◌∙◌, ap, subst, arith, if◌then◌else◌}
use Rattle.std.proofs.lemmas.Bool.{cases_eq, eqb-true, eq-eqb, ne_eqb}
use Rattle.hba_regs.specs.Bits.{bit}
use Rattle.refinement.specs.PortFacts.{PxisValueTellsNoTrouble}
use Rattle.port_control.specs.PortEvents.{port_event_of}
use Rattle.port_control.specs.declared.events.PortEvent.{PortEvent}
use Rattle.port_control.specs.declared.events.PortEvent.TheVariants.{LinkChanged, FatalError, TaskFileError, NoEvent}

-- the answer by PCS, PRCS, whether DET is 3, HBDS, HBFS, IFS and TFES
abbrev chosen : Bool → Bool → Bool → Bool → Bool → Bool → Bool → PortEvent
chosen pcs prcs three hbds hbfs ifs tfes =
    if pcs || prcs || not three then LinkChanged
    else (if hbds || hbfs || ifs then FatalError
    else (if tfes then TaskFileError else NoEvent))

lost : (a b c d e f g : Bool) → chosen a b c d e f g ≡ LinkChanged → (a ≡ true) ⊎ (b ≡ true) ⊎ (c ≡ false)
lost true b c d e f g h = inl refl
lost false true c d e f g h = inr (inl refl)
lost false false false d e f g h = inr (inr refl)
lost false false true true e f g h = absurd cc
lost false false true false true f g h = absurd cc
lost false false true false false true g h = absurd cc
lost false false true false false false true h = absurd cc
lost false false true false false false false h = absurd cc

broken : (a b c d e f g : Bool) → chosen a b c d e f g ≡ FatalError → ((d ≡ true) ⊎ (e ≡ true) ⊎ (f ≡ true)) × (a ≡ false) × (b ≡ false) × (c ≡ true)
broken true b c d e f g h = absurd cc
broken false true c d e f g h = absurd cc
broken false false false d e f g h = absurd cc
broken false false true true e f g h = (inl refl, refl, refl, refl)
broken false false true false true f g h = (inr (inl refl), refl, refl, refl)
broken false false true false false true g h = (inr (inr refl), refl, refl, refl)
broken false false true false false false true h = absurd cc
broken false false true false false false false h = absurd cc

failed : (a b c d e f g : Bool) → chosen a b c d e f g ≡ TaskFileError → (g ≡ true) × (a ≡ false) × (b ≡ false) × ((d ≡ false) × (e ≡ false) × (f ≡ false)) × (c ≡ true)
failed true b c d e f g h = absurd cc
failed false true c d e f g h = absurd cc
failed false false false d e f g h = absurd cc
failed false false true true e f g h = absurd cc
failed false false true false true f g h = absurd cc
failed false false true false false true g h = absurd cc
failed false false true false false false true h = (refl, refl, refl, (refl, refl, refl), refl)
failed false false true false false false false h = absurd cc

calm : (a b c d e f g : Bool) → chosen a b c d e f g ≡ NoEvent → ((a ≡ false) × (b ≡ false)) × ((d ≡ false) × (e ≡ false) × (f ≡ false) × (g ≡ false)) × (c ≡ true)
calm true b c d e f g h = absurd cc
calm false true c d e f g h = absurd cc
calm false false false d e f g h = absurd cc
calm false false true true e f g h = absurd cc
calm false false true false true f g h = absurd cc
calm false false true false false true g h = absurd cc
calm false false true false false false true h = absurd cc
calm false false true false false false false h = ((refl, refl), (refl, refl, refl, refl), refl)

-- a fact of 27 to 29, and of 27 to 30
three_places : (P : ℕ → Type 0) → P 27 → P 28 → P 29 → (place : ℕ) → 27 ≤ place → place ≤ 29 → P place
three_places P a b c place low high =
    elim (cases_eq place 27) [
      | inl e ↦ subst P (sym e) a
      | inr n ↦ elim (cases_eq place 28) [ inl e ↦ subst P (sym e) b | inr o ↦ subst P (last n o) c ]
    ]
  where
    last : place ≢ 27 → place ≢ 28 → 29 ≡ place
    last n o = omega (arith, n, o, low, high)

four_places : (P : ℕ → Type 0) → P 27 → P 28 → P 29 → P 30 → (place : ℕ) → 27 ≤ place → place ≤ 30 → P place
four_places P a b c d place low high =
    elim (cases_eq place 30) [ inl e ↦ subst P (sym e) d | inr n ↦ three_places P a b c place low (omega (arith, n, high)) ]

module _ (causes status : ℕ) where
  pub answered_lost : port_event_of causes status ≡ LinkChanged → (bit causes 6 ≡ true) ⊎ (bit causes 22 ≡ true) ⊎ (status % 16 ≢ 3)
  answered_lost h =
      elim (lost (bit causes 6) (bit causes 22) (status % 16 == 3) (bit causes 28) (bit causes 29) (bit causes 27) (bit causes 30) h) [
        | inl pcs ↦ inl pcs
        | inr more ↦ elim more [
          | inl prcs ↦ inr (inl prcs)
          | inr none ↦ inr (inr (λ (three : status % 16 ≡ 3). let z : true ≡ false = sym (eq-eqb (status % 16) 3 three) ∙ none in cc))
        ]
      ]

  pub answered_broken : port_event_of causes status ≡ FatalError → ((bit causes 28 ≡ true) ⊎ (bit causes 29 ≡ true) ⊎ (bit causes 27 ≡ true)) × (bit causes 6 ≡ false) × (bit causes 22 ≡ false) × (status % 16 ≡ 3)
  answered_broken h =
      let x = broken (bit causes 6) (bit causes 22) (status % 16 == 3) (bit causes 28) (bit causes 29) (bit causes 27) (bit causes 30) h in
      (x.0, x.1, x.2, eqb-true (status % 16) 3 x.3)

  pub answered_failed : port_event_of causes status ≡ TaskFileError →
      (bit causes 30 ≡ true) × (bit causes 6 ≡ false) × (bit causes 22 ≡ false) × ((place : ℕ) → 27 ≤ place → place ≤ 29 → bit causes place ≡ false) × (status % 16 ≡ 3)
  answered_failed h =
      let x = failed (bit causes 6) (bit causes 22) (status % 16 == 3) (bit causes 28) (bit causes 29) (bit causes 27) (bit causes 30) h in
      (x.0, x.1, x.2, three_places (λ place. bit causes place ≡ false) x.3.2 x.3.0 x.3.1, eqb-true (status % 16) 3 x.4)

  pub answered_undisturbed : port_event_of causes status ≡ NoEvent → PxisValueTellsNoTrouble causes × (status % 16 ≡ 3)
  answered_undisturbed h =
      let x = calm (bit causes 6) (bit causes 22) (status % 16 == 3) (bit causes 28) (bit causes 29) (bit causes 27) (bit causes 30) h in
      (record { pcs_is_clear = x.0.0; prcs_is_clear = x.0.1; bits_27_to_30_are_clear = four_places (λ place. bit causes place ≡ false) x.1.2 x.1.0 x.1.1 x.1.3 }, eqb-true (status % 16) 3 x.2)

  pub told_undisturbed : PxisValueTellsNoTrouble causes → status % 16 ≡ 3 → port_event_of causes status ≡ NoEvent
  told_undisturbed t three = rw (t.pcs_is_clear, t.prcs_is_clear, eq-eqb (status % 16) 3 three, t.bits_27_to_30_are_clear 28 (omega arith) (omega arith), t.bits_27_to_30_are_clear 29 (omega arith) (omega arith), t.bits_27_to_30_are_clear 27 (omega arith) (omega arith), t.bits_27_to_30_are_clear 30 (omega arith) (omega arith)) refl

  -- each of the three comes first
  pub told_lost : (bit causes 6 ≡ true) ⊎ (bit causes 22 ≡ true) ⊎ (status % 16 ≢ 3) → port_event_of causes status ≡ LinkChanged
  told_lost (inl pcs) = rw pcs refl
  told_lost (inr (inl prcs)) = ap (λ (b : Bool). if b then LinkChanged else rest) (two (bit causes 6) (bit causes 22) (not (status % 16 == 3)) prcs)
    where
      rest : PortEvent
      rest = if bit causes 28 || bit causes 29 || bit causes 27 then FatalError else (if bit causes 30 then TaskFileError else NoEvent)

      two : (a b c : Bool) → b ≡ true → (a || b || c) ≡ true
      two true b c h = refl
      two false true c h = refl
      two false false c h = cc
  told_lost (inr (inr none)) = ap (λ (b : Bool). if b then LinkChanged else rest) (three (bit causes 6) (bit causes 22) (status % 16 == 3) (ne_eqb (status % 16) 3 none))
    where
      rest : PortEvent
      rest = if bit causes 28 || bit causes 29 || bit causes 27 then FatalError else (if bit causes 30 then TaskFileError else NoEvent)

      three : (a b c : Bool) → c ≡ false → (a || b || not c) ≡ true
      three true b c h = refl
      three false true c h = refl
      three false false false h = refl
      three false false true h = cc
