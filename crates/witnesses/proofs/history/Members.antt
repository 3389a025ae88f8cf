-- Members of lists with none, with one and with two.
use Rattle.std.proofs.Common.{◌≡◌, ◌⊎◌, [], ◌∷◌, inl, inr, refl}
use Rattle.std.specs.List.{Contains}
use Rattle.std.proofs.lemmas.List.Elements.{All-contains, All-cons, All-nil}

pub nowhere : {X : Type 0} (x : X) → Contains [] x → ⊥
nowhere x here = All-contains (λ y. ⊥) [] x (All-nil (λ y. ⊥)) here

pub only : {X : Type 0} (y x : X) → Contains (y ∷ []) x → x ≡ y
only y x here = All-contains (λ z. z ≡ y) (y ∷ []) x (All-cons (λ z. z ≡ y) y [] refl (All-nil (λ z. z ≡ y))) here

pub either : {X : Type 0} (y z x : X) → Contains (y ∷ z ∷ []) x → (x ≡ y) ⊎ (x ≡ z)
either {X} y z x here =
    let P : X → Type 0 = λ w. (w ≡ y) ⊎ (w ≡ z) in
    All-contains P (y ∷ z ∷ []) x (All-cons P y (z ∷ []) (inl refl) (All-cons P z [] (inr refl) (All-nil P))) here
