-- A function that is changed at one place: the lemmas of the crate `adapter`, imported here for all of this crate.
use Rattle.std.proofs.Common.{ℕ, ◌≡◌, ◌≢◌}
use Rattle.adapter.specs.Memory.{changed}
use Rattle.adapter.proofs.Changed as places

pub fun_ext : {A B : Type 0} {f g : A → B} → ((x : A) → f x ≡ g x) → f ≡ g
fun_ext same = places.fun_ext same

module _ {A : Type 0} (f : ℕ → A) (place : ℕ) (new : A) where
  pub changed_same : changed f place new place ≡ new
  changed_same = places.changed_same f place new

  pub changed_other : (k : ℕ) → k ≢ place → changed f place new k ≡ f k
  changed_other = places.changed_other f place new

  pub changed_each : (P : ℕ → A → Type 0) → P place new → ((k : ℕ) → P k (f k)) → (k : ℕ) → P k (changed f place new k)
  changed_each = places.changed_each f place new
