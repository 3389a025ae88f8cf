-- What each access of a stretch keeps, the stretch keeps.
use Rattle.std.proofs.Common.{All, List, [], ◌∷◌, refl, sym, subst}
use Rattle.std.proofs.lemmas.List.Elements.{All-head, All-tail, All-weaker}
use Rattle.hba_regs.specs.declared.reg.Reg.TheVariants.{Ghc}
use Rattle.adapter.specs.Access.{Access, Does, DoesAll}
use Rattle.adapter.specs.Device.{Device}
use Rattle.adapter.specs.Rules.{IsOn}
use Rattle.refinement.specs.Fragments.{IsDrivenBy}
use Rattle.refinement.specs.PreservedParts.{DoesNotWrite}
use Rattle.port_control.specs.EventLaws.{Laws}

-- accesses of one kind are of each wider one
pub driven_as : (May More : Access → Type 0) (old new : Device) → ((access : Access) → May access → More access) → IsDrivenBy May old new → IsDrivenBy More old new
driven_as May More old new wider a = record { accesses = a.accesses; all_are_done = a.all_are_done; accesses_are_of_kind = All-weaker May More wider a.accesses a.accesses_are_of_kind }

module _ (Keeps : Device → Device → Type 0) (none : (d : Device) → Keeps d d) (more : (a b c : Device) → Keeps a b → Keeps b c → Keeps a c) (May : Access → Type 0) where
  kept_over : ((access : Access) (old new : Device) → May access → Does access old new → Keeps old new) →
      (accesses : List Access) (old new : Device) → All May accesses → DoesAll accesses old new → Keeps old new
  kept_over each [] old new only is = subst (Keeps old) (sym is) (none old)
  kept_over each (access ∷ rest) old new only (mid, does, then) =
      more old mid new (each access old mid (All-head May access rest only) does) (kept_over each rest mid new (All-tail May access rest only) then)

  pub kept : ((access : Access) (old new : Device) → May access → Does access old new → Keeps old new) → (old new : Device) → IsDrivenBy May old new → Keeps old new
  kept each old new a = kept_over each a.accesses old new a.accesses_are_of_kind a.all_are_done

-- an access that doesn't write GHC leaves an adapter on
pub spared_on : (laws : Laws) (access : Access) (old new : Device) → DoesNotWrite Ghc access → Does access old new → IsOn old → IsOn new
spared_on laws access old new spares does on = laws.access_keeps_on access old new on (λ v e. absurd (subst (DoesNotWrite Ghc) e spares refl)) does

-- so it is with what each keeps of an adapter that is on, where none writes GHC
pub kept_on : (laws : Laws) (Keeps : Device → Device → Type 0) → ((d : Device) → Keeps d d) → ((a b c : Device) → Keeps a b → Keeps b c → Keeps a c) → (May : Access → Type 0) →
    ((access : Access) → May access → DoesNotWrite Ghc access) → ((access : Access) (old new : Device) → IsOn old → May access → Does access old new → Keeps old new) →
    (old new : Device) → IsOn old → IsDrivenBy May old new → Keeps old new × IsOn new
kept_on laws Keeps none more May spares each old new on a =
    kept (λ x y. IsOn x → Keeps x y × IsOn y) (λ d here. (none d, here)) (λ x y z p q here. let first = p here in let second = q first.1 in (more x y z first.0 second.0, second.1)) May
    (λ access x y may does here. (each access x y here may does, spared_on laws access x y (spares access may) does here)) old new a on
