-- The one block of a port stays that of its trim, as commands are taken, go on and end.
use Rattle.std.specs.Prelude.{is_some}
use Rattle.std.proofs.Common.{ℕ, true, ◌≡◌, ◌≢◌, ◌<◌, ◌^◌, ◌⊎◌, arith, inl, inr, List, Option, None, Some, refl, sym, ◌∙◌, ap, subst}
use Rattle.std.specs.declared.snapshot.Snapshot.{Snapshot}
use Rattle.std.proofs.lemmas.Bool.Decides.{eqb_tells}
use Rattle.adapter.specs.Memory.{changed}
use Rattle.adapter.specs.Steps.{snapshot_of_bytes}
use Rattle.device_model.proofs.Absurd.{some-none, some_one, true-false}
use Rattle.device_model.proofs.Places.{changed_same, changed_other}
use Rattle.device_model.specs.TakenBlocks.{BlockIsOfTakenTrim, brought}
use Rattle.device_model.specs.declared.port.TakenCommand.{TakenCommand}
use Rattle.adapter.specs.declared.command.Operation.TheVariants.{Trim}

-- what is taken in a slot, once one has changed
at_set : (taken : ℕ → Option TakenCommand) (slot : ℕ) (new : Option TakenCommand) (k : ℕ) (t : TakenCommand) → changed taken slot new k ≡ Some t →
    ((k ≡ slot) × (new ≡ Some t)) ⊎ ((k ≢ slot) × (taken k ≡ Some t))
at_set taken slot new k t is =
    elim (eqb_tells k slot) [
      | inl here ↦
          let P : ℕ → Type 0 = λ j. changed taken slot new j ≡ Some t in
          inl (here.1, sym (changed_same taken slot new) ∙ subst P here.1 is)
      | inr there ↦ inr (there.1, sym (changed_other taken slot new k there.1) ∙ is)
    ]

-- no command is taken any more
pub block_gone : (taken : ℕ → Option TakenCommand) (block : List ℕ) → ((k : ℕ) → taken k ≡ None) → BlockIsOfTakenTrim taken block
block_gone taken block none = record {
  trim_is_alone = λ slot other t u here there trim. some-none here (none slot);
  block_is = λ slot t b here brought. some-none here (none slot);
  first_in_range = λ slot t here. some-none here (none slot);
}

module _ (taken : ℕ → Option TakenCommand) (block : List ℕ) (slot : ℕ) (has : BlockIsOfTakenTrim taken block) where
  -- a command is taken beside those that are
  pub block_put : (command : TakenCommand) → command.block ≡ None → command.first < 2 ^ 48 →
      ((other : ℕ) (u : TakenCommand) → other ≢ slot → taken other ≡ Some u → (command.operation ≡ Trim → ⊥) × (u.operation ≡ Trim → ⊥)) →
      BlockIsOfTakenTrim (changed taken slot (Some command)) block
  block_put command new low beside = record {
    trim_is_alone = λ a b t u here there trim.
        elim (at_set taken slot (Some command) a t here) [
          | inl first ↦
              elim (at_set taken slot (Some command) b u there) [
                | inl second ↦ second.0 ∙ sym first.0
                | inr second ↦
                    let kind = ap (λ (x : TakenCommand). x.operation) (some_one first.1) ∙ trim in
                    absurd ((beside b u second.0 second.1).0 kind)
              ]
          | inr first ↦
              elim (at_set taken slot (Some command) b u there) [
                | inl second ↦ absurd ((beside a t first.0 first.1).1 trim)
                | inr second ↦ has.trim_is_alone a b t u first.1 second.1 trim
              ]
        ];
    block_is = λ a t b here brought.
        elim (at_set taken slot (Some command) a t here) [
          | inl first ↦ some-none brought (ap (λ (x : TakenCommand). x.block) (sym (some_one first.1)) ∙ new)
          | inr first ↦ has.block_is a t b first.1 brought
        ];
    first_in_range = λ a t here.
        elim (at_set taken slot (Some command) a t here) [
          | inl first ↦ subst (λ (x : TakenCommand). x.first < 2 ^ 48) (some_one first.1) low
          | inr first ↦ has.first_in_range a t first.1
        ];
  }

  -- one is taken no more
  pub block_removed : BlockIsOfTakenTrim (changed taken slot None) block
  block_removed = record {
    trim_is_alone = λ a b t u here there trim.
        elim (at_set taken slot None a t here) [
          | inl first ↦ absurd (cc first.1)
          | inr first ↦
              elim (at_set taken slot None b u there) [
                | inl second ↦ absurd (cc second.1)
                | inr second ↦ has.trim_is_alone a b t u first.1 second.1 trim
              ]
        ];
    block_is = λ a t b here brought.
        elim (at_set taken slot None a t here) [ inl first ↦ absurd (cc first.1) | inr first ↦ has.block_is a t b first.1 brought ];
    first_in_range = λ a t here. elim (at_set taken slot None a t here) [ inl first ↦ absurd (cc first.1) | inr first ↦ has.first_in_range a t first.1 ];
  }

  module _ (old new : TakenCommand) (held : taken slot ≡ Some old) (kind : new.operation ≡ old.operation) (number : new.first ≡ old.first) where
    goes_low : (a : ℕ) (t : TakenCommand) → changed taken slot (Some new) a ≡ Some t → t.first < 2 ^ 48
    goes_low a t here =
        elim (at_set taken slot (Some new) a t here) [
          | inl first ↦
              let one : t.first ≡ new.first = ap (λ (x : TakenCommand). x.first) (sym (some_one first.1)) in
              let was = has.first_in_range slot old held in
              omega (arith, one, number, was)
          | inr first ↦ has.first_in_range a t first.1
        ]

    goes_alone : (a b : ℕ) (t u : TakenCommand) → changed taken slot (Some new) a ≡ Some t →
        changed taken slot (Some new) b ≡ Some u → t.operation ≡ Trim → b ≡ a
    goes_alone a b t u here there trim =
        elim (at_set taken slot (Some new) a t here) [
          | inl first ↦
              let was : old.operation ≡ Trim = sym kind ∙ (ap (λ (x : TakenCommand). x.operation) (some_one first.1) ∙ trim) in
              elim (at_set taken slot (Some new) b u there) [
                | inl second ↦ second.0 ∙ sym first.0
                | inr second ↦ has.trim_is_alone slot b old u held second.1 was ∙ sym first.0
              ]
          | inr first ↦
              elim (at_set taken slot (Some new) b u there) [
                | inl second ↦ second.0 ∙ has.trim_is_alone a slot t old first.1 held trim
                | inr second ↦ has.trim_is_alone a b t u first.1 second.1 trim
              ]
        ]

    -- a command goes on, with the block that it had
    pub block_on : new.block ≡ old.block → BlockIsOfTakenTrim (changed taken slot (Some new)) block
    block_on same = record {
      trim_is_alone = goes_alone;
      first_in_range = goes_low;
      block_is = λ a t b here brought.
          elim (at_set taken slot (Some new) a t here) [
            | inl first ↦
                let one : new ≡ t = some_one first.1 in
                let had = has.block_is slot old b held (sym same ∙ (ap (λ (x : TakenCommand). x.block) one ∙ brought)) in
                (ap (λ (x : TakenCommand). x.operation) (sym one) ∙ (kind ∙ had.0), had.1)
            | inr first ↦ has.block_is a t b first.1 brought
          ];
    }

    -- a trim has brought a block
    pub block_moved : (bytes : List ℕ) → old.operation ≡ Trim → new.block ≡ Some (snapshot_of_bytes bytes) → BlockIsOfTakenTrim (changed taken slot (Some new)) bytes
    block_moved bytes trim is_new = record {
      trim_is_alone = goes_alone;
      first_in_range = goes_low;
      block_is = λ a t b here brought.
          elim (at_set taken slot (Some new) a t here) [
            | inl first ↦
                let one : new ≡ t = some_one first.1 in
                let same : snapshot_of_bytes bytes ≡ b = some_one (sym is_new ∙ (ap (λ (x : TakenCommand). x.block) one ∙ brought)) in
                (ap (λ (x : TakenCommand). x.operation) (sym one) ∙ (kind ∙ trim), ap (λ (x : Snapshot (List ℕ)). x.value) (sym same))
            | inr first ↦ let ne = first.0 in absurd (ne (has.trim_is_alone slot a old t held first.1 trim))
          ];
    }

-- it is the block of a command that has brought one
pub block_is : (taken : ℕ → Option TakenCommand) (block : List ℕ) (slot : ℕ) (t : TakenCommand) → BlockIsOfTakenTrim taken block → taken slot ≡ Some t → is_some t.block ≡ true →
    block ≡ brought t.block
block_is taken block slot t has held some = by t.block refl
  where
    by : (o : Option (Snapshot (List ℕ))) → t.block ≡ o → block ≡ brought t.block
    by None e = true-false some (ap is_some e)
    by (Some b) e = sym (has.block_is slot t b held e).1 ∙ ap brought (sym e)
