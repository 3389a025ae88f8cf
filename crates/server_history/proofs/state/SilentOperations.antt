-- No data comes for commands of an operation in two stretches of accesses, one after the other.
use Rattle.std.proofs.Common.{ℕ, List, [], ◌++◌, append_assoc, append-nil, sym, ap, ◌∙◌}
use Rattle.std.proofs.lemmas.List.Elements.{All-append, All-nil}
use Rattle.adapter.specs.Device.{Device}
use Rattle.adapter.specs.declared.command.Operation.{Operation}
use Rattle.adapter.specs.declared.tape.Entry.{Entry}
use Rattle.refinement.specs.Fragments.{GainsNoMove}
use Rattle.refinement.specs.Slots.{IsMove}

module _ (port : ℕ) (o : Operation) where
  pub silent_none : (d : Device) → GainsNoMove port o d d
  silent_none d = ([], sym (append-nil d.tape), All-nil (λ e. IsMove port o e → ⊥))

  pub silent_more : (old mid new : Device) → GainsNoMove port o old mid → GainsNoMove port o mid new → GainsNoMove port o old new
  silent_more old mid new (early, one, none) (late, two, more) = (
    early ++ late,
    two ∙ ap (λ (tape : List Entry). tape ++ late) one ∙ append_assoc old.tape early late,
    All-append (λ e. IsMove port o e → ⊥) early late none more,
  )
