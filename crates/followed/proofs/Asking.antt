-- How a peer that is asked goes on, step by step.
use Rattle.std.proofs.Common.{◌≡◌, Option, None, Some, false, is_some, refl, subst, sym}
use Rattle.adapter.specs.Access.{Access}
use Rattle.followed.specs.Asking.{AsksUntilDivergence, IsDifference}
use Rattle.followed.specs.Asking.AsksUntilDivergence.{asks_nothing, differs, is_answered, is_silent}
use Rattle.followed.specs.declared.divergence.Divergence.{Divergence}
use Rattle.followed.specs.declared.divergence.Divergence.TheVariants.{Silent}
use Rattle.followed.specs.declared.peer.PeerFault.{PeerFault}

-- where it isn't so that a divergence is noted, none is
pub none_noted : (noted : Option Divergence) → is_some noted ≡ false → noted ≡ None
none_noted None is = refl
none_noted (Some found) is = absurd (cc)

module _ {P : Type 0} {makes : P → Access → P → Type 0} {fails : P → PeerFault → P → Type 0} {first : P} {noted : Option Divergence} where
  -- an access more, that was made
  pub answered : {before after : P} {was : Option Divergence} {access : Access} → was ≡ None
      → AsksUntilDivergence makes fails first noted before was
      → makes before access after → AsksUntilDivergence makes fails first noted after was
  answered {before} {after} none so it =
      let At : Option Divergence → Type 0 = λ d. AsksUntilDivergence makes fails first noted before d in
      let After : Option Divergence → Type 0 = λ d. AsksUntilDivergence makes fails first noted after d in
      subst After (sym none) (is_answered (subst At none so) it)

  -- one more, at which the peer failed
  pub silent : {before after : P} {was : Option Divergence} {fault : PeerFault} → was ≡ None
      → AsksUntilDivergence makes fails first noted before was
      → fails before fault after → AsksUntilDivergence makes fails first noted after (Some (Silent fault))
  silent {before} none so it =
      let At : Option Divergence → Type 0 = λ d. AsksUntilDivergence makes fails first noted before d in
      is_silent (subst At none so) it

  -- a difference that was found
  pub strays : {before : P} {was : Option Divergence} {found : Divergence} → was ≡ None
      → AsksUntilDivergence makes fails first noted before was
      → IsDifference found → AsksUntilDivergence makes fails first noted before (Some found)
  strays {before} none so other =
      let At : Option Divergence → Type 0 = λ d. AsksUntilDivergence makes fails first noted before d in
      differs (subst At none so) other

-- a divergence that was noted stays, and nothing is asked after it
pub stays : {P : Type 0} {makes : P → Access → P → Type 0} {fails : P → PeerFault → P → Type 0} {found : Divergence} {first last : P} {noted : Option Divergence}
    → AsksUntilDivergence makes fails first (Some found) last noted
    → (noted ≡ Some found) × (last ≡ first)
stays asks_nothing = (refl, refl)
stays {found} (is_answered so it) = let none : None ≡ Some found = (stays so).0 in absurd (cc)
stays {found} (is_silent so it) = let none : None ≡ Some found = (stays so).0 in absurd (cc)
stays {found} (differs so other) = let none : None ≡ Some found = (stays so).0 in absurd (cc)

-- the same of a divergence that is found to be there
pub stays_so : {P : Type 0} {makes : P → Access → P → Type 0} {fails : P → PeerFault → P → Type 0} {first last : P} {was noted : Option Divergence}
    → AsksUntilDivergence makes fails first was last noted → (found : Divergence) → was ≡ Some found
    → (noted ≡ Some found) × (last ≡ first)
stays_so {makes = makes} {fails = fails} {first = first} {last = last} {noted = noted} asks found is =
    let From : Option Divergence → Type 0 = λ d. AsksUntilDivergence makes fails first d last noted in
    stays (subst From is asks)

-- where none is noted, that is where it begins
pub begins : {P : Type 0} {makes : P → Access → P → Type 0} {fails : P → PeerFault → P → Type 0} {first : P} {was : Option Divergence}
    → was ≡ None → AsksUntilDivergence makes fails first None first was
begins {makes = makes} {fails = fails} {first = first} none =
    let At : Option Divergence → Type 0 = λ d. AsksUntilDivergence makes fails first None first d in
    subst At (sym none) asks_nothing

-- where none is noted at last, none was at first
pub was_none : (before after : Option Divergence) → ((found : Divergence) → before ≡ Some found → after ≡ Some found) → after ≡ None → before ≡ None
was_none None after kept none = refl
was_none (Some found) after kept none = let still : after ≡ Some found = kept found refl in absurd (cc)

-- and so nothing but accesses that were made came between
pub between_none : {P : Type 0} {makes : P → Access → P → Type 0} {fails : P → PeerFault → P → Type 0} {first last : P} {was noted : Option Divergence}
    → AsksUntilDivergence makes fails first was last noted → noted ≡ None
    → AsksUntilDivergence makes fails first None last None
between_none {makes = makes} {fails = fails} {first = first} {last = last} {was = was} {noted = noted} asks none =
    let at_first : was ≡ None = was_none was noted (λ found is. (stays_so asks found is).0) none in
    let From : Option Divergence → Type 0 = λ d. AsksUntilDivergence makes fails first d last None in
    let To : Option Divergence → Type 0 = λ d. AsksUntilDivergence makes fails first was last d in
    subst From at_first (subst To none asks)
