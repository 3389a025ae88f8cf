-- Accesses of one kind that lead from a device to another.
use Rattle.std.proofs.Common.{List, [], ◌∷◌, ◌++◌, refl, sym, subst}
use Rattle.std.proofs.lemmas.List.Elements.{All-append, All-cons, All-head, All-nil, All-tail, All-weaker}
use Rattle.std.specs.List.{All}
use Rattle.adapter.specs.Access.{Access, Does, DoesAll}
use Rattle.adapter.specs.Device.{Device}
use Rattle.refinement.specs.Fragments.{IsDrivenBy}
use Rattle.server_history.specs.Prerequisites.{PrerequisiteLaws}

-- what is of one kind is of a wider one
pub driven_as : (May More : Access → Type 0) (old new : Device) → ((access : Access) → May access → More access) → IsDrivenBy May old new → IsDrivenBy More old new
driven_as May More old new kind d = record { accesses = d.accesses; all_are_done = d.all_are_done; accesses_are_of_kind = All-weaker May More kind d.accesses d.accesses_are_of_kind }

-- no access leads nowhere
pub by_none : (May : Access → Type 0) (d : Device) → IsDrivenBy May d d
by_none May d = record { accesses = []; all_are_done = refl; accesses_are_of_kind = All-nil May }

-- and one access where it leads
pub by_one : (May : Access → Type 0) (access : Access) (old new : Device) → May access → Does access old new → IsDrivenBy May old new
by_one May access old new may does = record { accesses = access ∷ []; all_are_done = (new, does, refl); accesses_are_of_kind = All-cons May access [] may (All-nil May) }

-- one stretch of accesses, and then another
pub by_then : PrerequisiteLaws → {May : Access → Type 0} {old mid new : Device} → IsDrivenBy May old mid → IsDrivenBy May mid new → IsDrivenBy May old new
by_then laws {May} {old} {mid} {new} a b = record {
  accesses = a.accesses ++ b.accesses;
  all_are_done = laws.steps_and_accesses.does_append a.accesses b.accesses old mid new a.all_are_done b.all_are_done;
  accesses_are_of_kind = All-append May a.accesses b.accesses a.accesses_are_of_kind b.accesses_are_of_kind;
}

-- what each access of a kind keeps, a stretch of them keeps
pub kept_over : (Holds : Device → Type 0) (May : Access → Type 0) → ((access : Access) (old new : Device) → May access → Does access old new → Holds old → Holds new)
    → (old new : Device) → IsDrivenBy May old new → Holds old → Holds new
kept_over Holds May each old new driven = over driven.accesses old driven.accesses_are_of_kind driven.all_are_done
  where
    over : (accesses : List Access) (from : Device) → All May accesses → DoesAll accesses from new → Holds from → Holds new
    over [] from only is here = subst Holds (sym is) here
    over (access ∷ rest) from only (mid, does, more) here =
        over rest mid (All-tail May access rest only) more (each access from mid (All-head May access rest only) does here)
