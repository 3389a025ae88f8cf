-- What a scribble fills: the received FIS area, and PRDBC of one slot after another.
use Rattle.std.proofs.Common.{ℕ, Bool, zero, suc, true, false, ◌≡◌, ◌⊎◌, ◌<◌, ◌≤◌, ◌+◌, ◌-◌, ◌*◌, ◌∙◌, length, refl, sym, subst, inl, inr, ⊎_elim, arith}
use Rattle.std.specs.Prelude.{if◌then◌else◌, is_some, replicate}
use Rattle.std.proofs.lemmas.Bool.{cases_lt, false≢true}
use Rattle.std.proofs.lemmas.Bool.Decides.{leb_tells}
use Rattle.std.proofs.lemmas.List.{length-replicate, get_or-replicate}
use Rattle.ata_types.specs.declared.memory.TheConstants.{HEADER_BYTES, RECEIVED_FIS_BYTES}
use Rattle.adapter.specs.AskedSteps.{IsByteOfSpanInsideMemory, IsInReceivedFisOrTakenPrdbc, IsScribbled, memory_filled_if_all_inside}
use Rattle.adapter.specs.Device.{DevicePort}
use Rattle.adapter.specs.Memory.{patched}
use Rattle.adapter.proofs.MemoryLemmas.{patched_before, patched_past}

-- ---- one place of memory

patched_within : (memory : ℕ → ℕ) (at count byte place : ℕ) → at ≤ place → place < at + count → patched memory at (replicate count byte) place ≡ byte
unfolding patched
patched_within memory at count byte place from inside =
    elim (leb_tells at place) [
      | inl here ↦ let less : place - at < count = omega (arith, from, inside) in rw here.0 (get_or-replicate count (place - at) byte (memory place) less)
      | inr there ↦ absurd (omega (arith, from, there.1))
    ]

-- either it is one of the bytes, and has the new one, or it isn't, and has what it had
abbrev Told : (size at count byte place was is : ℕ) → Type 0
Told size at count byte place was is = (IsByteOfSpanInsideMemory size at count place × (is ≡ byte)) ⊎ ((IsByteOfSpanInsideMemory size at count place → ⊥) × (is ≡ was))

fill_told : (size at count byte place : ℕ) (memory : ℕ → ℕ) → Told size at count byte place (memory place) (memory_filled_if_all_inside size at count byte memory place)
fill_told size at count byte place memory =
    elim (leb_tells (at + count) size) [
      | inl there ↦
          elim (cases_lt place at) [
            | inl before ↦ inr ((λ one. omega (arith, before, one.1)), rw there.0 (patched_before memory at (replicate count byte) place before))
            | inr from ↦
                elim (cases_lt place (at + count)) [
                  | inl inside ↦ inl ((there.1, from, inside), rw there.0 (patched_within memory at count byte place from inside))
                  | inr past ↦
                      let long : length (replicate count byte) ≡ count = length-replicate count byte in
                      inr ((λ one. omega (arith, past, one.2)), rw there.0 (patched_past memory at (replicate count byte) place (omega (arith, long, past))))
                ]
          ]
      | inr out ↦ inr ((λ one. omega (arith, out.1, one.0)), rw out.0 refl)
    ]

-- ---- the places of a scribble

module _ (size byte : ℕ) (p : DevicePort) where
  -- PRDBC of the slot
  abbrev count_at : ℕ → ℕ
  count_at slot = p.bases.clb + HEADER_BYTES * slot + 4

  -- of no slot: the received FIS area
  pub area_filled : (old : ℕ → ℕ) → IsScribbled 0 size byte p old (memory_filled_if_all_inside size p.bases.fb RECEIVED_FIS_BYTES byte old)
  area_filled old = record {
    filled = λ place it.
        elim (fill_told size p.bases.fb RECEIVED_FIS_BYTES byte place old) [
          | inl there ↦ there.1
          | inr not ↦ absurd (⊎_elim not.0 (λ (w : (slot : ℕ) × (slot < 0) × (is_some (p.taken slot) ≡ true) × IsByteOfSpanInsideMemory size (count_at slot) 4 place). omega (arith, w.1)) it)
        ];
    others_are_kept = λ place none. elim (fill_told size p.bases.fb RECEIVED_FIS_BYTES byte place old) [ inl there ↦ absurd (none (inl there.0)) | inr not ↦ not.1 ];
  }

  -- a place of one slot more
  earlier : (slot place : ℕ) → IsInReceivedFisOrTakenPrdbc (slot + 1) size p place → IsInReceivedFisOrTakenPrdbc slot size p place ⊎ ((is_some (p.taken slot) ≡ true) × IsByteOfSpanInsideMemory size (count_at slot) 4 place)
  earlier slot place (inl area) = inl (inl area)
  earlier slot place (inr (own, less, held, it)) =
      elim (cases_lt own slot) [
        | inl before ↦ inl (inr (own, before, held, it))
        | inr from ↦ let same : own ≡ slot = omega (arith, less, from) in
            let P : ℕ → Type 0 = λ k. (is_some (p.taken k) ≡ true) × IsByteOfSpanInsideMemory size (count_at k) 4 place in
            inr (subst P same (held, it))
      ]

  later : (slot place : ℕ) → IsInReceivedFisOrTakenPrdbc slot size p place → IsInReceivedFisOrTakenPrdbc (slot + 1) size p place
  later slot place (inl area) = inl area
  later slot place (inr (own, less, held, it)) = inr (own, omega (arith, less), held, it)

  -- PRDBC of one slot more is filled, if its command is taken
  pub one_filled : (slot : ℕ) (old before new : ℕ → ℕ) → IsScribbled slot size byte p old before
      → new ≡ (if is_some (p.taken slot) then memory_filled_if_all_inside size (count_at slot) 4 byte before else before) → IsScribbled (slot + 1) size byte p old new
  one_filled slot old before new so_far one = by (is_some (p.taken slot)) refl one
    where
      by : (b : Bool) → is_some (p.taken slot) ≡ b → new ≡ (if b then memory_filled_if_all_inside size (count_at slot) 4 byte before else before) → IsScribbled (slot + 1) size byte p old new
      by false free is = record {
        filled = λ place it. (λ i. is i place) ∙ ⊎_elim (so_far.filled place) (λ w. absurd (false≢true (sym free ∙ w.0))) (earlier slot place it);
        others_are_kept = λ place none. (λ i. is i place) ∙ so_far.others_are_kept place (λ it. none (later slot place it));
      }
      by true held is = record {
        filled = λ place it. (λ i. is i place) ∙
            elim (fill_told size (count_at slot) 4 byte place before) [
              | inl there ↦ there.1
              | inr not ↦ not.1 ∙ ⊎_elim (so_far.filled place) (λ w. absurd (not.0 w.1)) (earlier slot place it)
            ];
        others_are_kept = λ place none. (λ i. is i place) ∙
            elim (fill_told size (count_at slot) 4 byte place before) [
              | inl there ↦ absurd (none (inr (slot, omega arith, held, there.0)))
              | inr not ↦ not.1 ∙ so_far.others_are_kept place (λ it. none (later slot place it))
            ];
      }

  -- whether a place is one
  is_within : (at count place : ℕ) → IsByteOfSpanInsideMemory size at count place ⊎ (IsByteOfSpanInsideMemory size at count place → ⊥)
  is_within at count place = ⊎_elim (λ there. inl there.0) (λ not. inr not.0) (fill_told size at count 0 place (λ k. 0))

  is_place : (slots place : ℕ) → IsInReceivedFisOrTakenPrdbc slots size p place ⊎ (IsInReceivedFisOrTakenPrdbc slots size p place → ⊥)
  is_place zero place =
      elim (is_within p.bases.fb RECEIVED_FIS_BYTES place) [
        | inl area ↦ inl (inl area)
        | inr not ↦ inr (λ it. ⊎_elim not (λ (w : (slot : ℕ) × (slot < 0) × (is_some (p.taken slot) ≡ true) × IsByteOfSpanInsideMemory size (count_at slot) 4 place). omega (arith, w.1)) it)
      ]
  is_place (suc slot) place =
      let next : slot + 1 ≡ suc slot = omega arith in
      let P : ℕ → Type 0 = λ n. IsInReceivedFisOrTakenPrdbc n size p place in
      elim (is_place slot place) [
        | inl before ↦ inl (subst P next (later slot place before))
        | inr none ↦ by slot none (is_some (p.taken slot)) refl (is_within (count_at slot) 4 place)
      ]
    where
      by : (slot : ℕ) → (IsInReceivedFisOrTakenPrdbc slot size p place → ⊥) → (b : Bool) → is_some (p.taken slot) ≡ b → IsByteOfSpanInsideMemory size (count_at slot) 4 place ⊎ (IsByteOfSpanInsideMemory size (count_at slot) 4 place → ⊥)
          → IsInReceivedFisOrTakenPrdbc (suc slot) size p place ⊎ (IsInReceivedFisOrTakenPrdbc (suc slot) size p place → ⊥)
      by slot none true held (inl there) = inl (inr (slot, omega arith, held, there))
      by slot none true held (inr not) = inr (λ it. ⊎_elim none (λ w. not w.1) (earlier slot place (subst (λ n. IsInReceivedFisOrTakenPrdbc n size p place) (omega arith) it)))
      by slot none false free within = inr (λ it. ⊎_elim none (λ w. false≢true (sym free ∙ w.0)) (earlier slot place (subst (λ n. IsInReceivedFisOrTakenPrdbc n size p place) (omega arith) it)))

  -- what a scribble leaves is fixed
  pub scribbled_is_one : (slots : ℕ) (old one other : ℕ → ℕ) → IsScribbled slots size byte p old one → IsScribbled slots size byte p old other → one ≡ other
  scribbled_is_one slots old one other a b = λ i place. same place i
    where
      same : (place : ℕ) → one place ≡ other place
      same place =
          elim (is_place slots place) [
            | inl it ↦ a.filled place it ∙ sym (b.filled place it)
            | inr none ↦ a.others_are_kept place none ∙ sym (b.others_are_kept place none)
          ]
