use Rattle.std.proofs.Common.{rules, ℕ, ◌≡◌, ◌≢◌, ◌≤◌, ◌||◌, ◌^◌, Bool, true, false, length, slice_index_or, refl, ◌∙◌, arith, subst, sym, inl, inr}
use Rattle.std.specs.Prelude.{bit_or, if◌then◌else◌}
use Rattle.std.proofs.lemmas.Bool.{cases_eq}
use Rattle.std.proofs.lemmas.List.{get_or_past}
use Rattle.std.proofs.lemmas.Nat.Bits.{bit_at-pow_same, bit_at-pow_other, bit_at-zero}
use Rattle.hba_regs.specs.Bits.{bit}
use Rattle.adapter.specs.Access.{is_ips_set}
use Rattle.device_model.specs.PortView.{port_of, reset_port_without_disk}
use Rattle.device_model.proofs.BitLemmas.{bit-or}
use Rattle.device_model.proofs.SlotLemmas.{at_port}
use Rattle.device_model.proofs.hardware.pending.Goals as goal

-- a value of one bit, or none, there and elsewhere
here : (set : Bool) (k : ℕ) → bit (if set then 2 ^ k else 0) k ≡ set
here true k = rw (bit_at-pow_same k) refl
here false k = rw (bit_at-zero k) refl

elsewhere : (set : Bool) (k i : ℕ) → i ≢ k → bit (if set then 2 ^ k else 0) i ≡ false
elsewhere true k i ne = rw (bit_at-pow_other k i ne) refl
elsewhere false k i ne = rw (bit_at-zero i) refl

or_none : (b : Bool) → (b || false) ≡ b
or_none true = refl
or_none false = refl

-- the word of four bits, by place
module _ (a b c d : Bool) where
  abbrev word : ℕ
  word = bit_or (bit_or (bit_or (if a then 2 ^ 0 else 0) (if b then 2 ^ 1 else 0)) (if c then 2 ^ 2 else 0)) (if d then 2 ^ 3 else 0)

  parts : (k : ℕ) → bit word k ≡ (bit (if a then 2 ^ 0 else 0) k || bit (if b then 2 ^ 1 else 0) k || bit (if c then 2 ^ 2 else 0) k || bit (if d then 2 ^ 3 else 0) k)
  parts k = rw (bit-or _ (if d then 2 ^ 3 else 0) k, bit-or _ (if c then 2 ^ 2 else 0) k, bit-or (if a then 2 ^ 0 else 0) (if b then 2 ^ 1 else 0) k) refl

  first : bit word 0 ≡ a
  first = parts 0 ∙ rw (here a 0, elsewhere b 1 0 (omega arith), elsewhere c 2 0 (omega arith), elsewhere d 3 0 (omega arith), or_none a, or_none a) (or_none a)

  second : bit word 1 ≡ b
  second = parts 1 ∙ rw (elsewhere a 0 1 (omega arith), here b 1, elsewhere c 2 1 (omega arith), elsewhere d 3 1 (omega arith), or_none b) (or_none b)

  third : bit word 2 ≡ c
  third = parts 2 ∙ rw (elsewhere a 0 2 (omega arith), elsewhere b 1 2 (omega arith), here c 2, elsewhere d 3 2 (omega arith)) (or_none c)

  fourth : bit word 3 ≡ d
  fourth = parts 3 ∙ rw (elsewhere a 0 3 (omega arith), elsewhere b 1 3 (omega arith), elsewhere c 2 3 (omega arith), here d 3) refl

  none : (k : ℕ) → 4 ≤ k → bit word k ≡ false
  none k past = parts k ∙ rw (elsewhere a 0 k (omega (arith, past)), elsewhere b 1 k (omega (arith, past)), elsewhere c 2 k (omega (arith, past)), elsewhere d 3 k (omega (arith, past))) refl

pub returns : goal.returns
returns c = λ m port low.
    let ports = c.args.ports.now in
    let w : Bool = c.is_ips_set.result in
    let x : Bool = c.is_ips_set-2.result in
    let y : Bool = c.is_ips_set-3.result in
    let z : Bool = c.is_ips_set-4.result in
    let four : length ports ≡ 4 = search rules in
    let P : ℕ → Type 0 = λ k. bit (word w x y z) k ≡ is_ips_set (port_of (slice_index_or ports k reset_port_without_disk) m) in
    let at_0 : P 0 = first w x y z ∙ (rw (at_port ports 0 c.index-ports-0.result (omega (arith, four))) at (c.is_ips_set.ensures m)) in
    let at_1 : P 1 = second w x y z ∙ (rw (at_port ports 1 c.index-ports-1.result (omega (arith, four))) at (c.is_ips_set-2.ensures m)) in
    let at_2 : P 2 = third w x y z ∙ (rw (at_port ports 2 c.index-ports-2.result (omega (arith, four))) at (c.is_ips_set-3.ensures m)) in
    let at_3 : P 3 = fourth w x y z ∙ (rw (at_port ports 3 c.index-ports-3.result (omega (arith, four))) at (c.is_ips_set-4.ensures m)) in
    rw (c.bit_if.ensures, c.bit_if-2.ensures, c.bit_if-3.ensures, c.bit_if-4.ensures)
    (elim (cases_eq port 0) [
      | inl e ↦ subst P (sym e) at_0
      | inr a ↦ elim (cases_eq port 1) [
        | inl e ↦ subst P (sym e) at_1
        | inr b ↦ elim (cases_eq port 2) [
          | inl e ↦ subst P (sym e) at_2
          | inr d ↦ elim (cases_eq port 3) [
            | inl e ↦ subst P (sym e) at_3
            | inr f ↦ none w x y z port (omega (arith, a, b, d, f)) ∙ rw (get_or_past ports port reset_port_without_disk (omega (arith, four, a, b, d, f))) refl
          ]
        ]
      ]
    ])
