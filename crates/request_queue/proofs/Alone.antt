-- A request that is alone in the book.
use Rattle.std.proofs.Common.{◌≡◌, ℕ, suc, Bool, true, cond, ◌&&◌, ◌==◌, List, [], ◌∷◌, length, Some, ap, arith}
use Rattle.std.proofs.lemmas.Option.{same_Some}
use Rattle.std.specs.List.{slice_get}
use Rattle.ata_types.specs.declared.Port.{Port}
use Rattle.block_machine.specs.DueRequests.{due_of, is_due}
use Rattle.block_machine.specs.declared.due.QueueMode.{QueueMode}
use Rattle.block_machine.specs.declared.due.Unanswered.{Unanswered}

-- the list has one element, and it is this one
pub one_of : (xs : List Unanswered) (x : Unanswered) → length xs ≡ 1 → slice_get xs 0 ≡ Some x → xs ≡ x ∷ []
one_of [] x many at = absurd (let none : ◌≡◌ {A = ℕ} 0 1 = many in omega (arith, none))
one_of (y ∷ []) x many at = ap (λ (z : Unanswered). z ∷ []) (same_Some y x at)
one_of (y ∷ z ∷ zs) x many at = absurd (let two : suc (suc (length zs)) ≡ 1 = many in omega (arith, two))

-- where it is due on a port, no other is
pub only_due : (mode : QueueMode) (port : Port) (r : Unanswered) → (r.port.0 == port.0 && is_due mode (r ∷ []) r) ≡ true → due_of mode port (r ∷ []) ≡ r ∷ []
only_due mode port r due = ap (λ (b : Bool). cond b (r ∷ []) []) due
