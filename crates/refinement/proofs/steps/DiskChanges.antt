-- The disks that go and come are told alike by the tape and by the machine's steps.
use Rattle.std.proofs.Common.{ℕ, zero, suc, ◌≡◌, ◌⊎◌, ◌==◌, ◌++◌, Bool, true, false, Option, None, Some, List, [], ◌∷◌, refl, ◌∙◌, ap, subst, inl, inr, ⊎_elim}
use Rattle.std.specs.Prelude.{All, ◌||◌}
use Rattle.std.specs.List.{Contains, list_any}
use Rattle.std.proofs.lemmas.Bool.{cases_eq, eq-eqb, ne_eqb, or_right, both_ways}
use Rattle.std.proofs.lemmas.List.Elements.{All-nil, All-cons}
use Rattle.std.proofs.lemmas.List.Folds.{list_any-append}
use Rattle.ata_types.specs.declared.Port.{Port}
use Rattle.ata_types.specs.declared.request.Op.{Op}
use Rattle.ata_types.specs.declared.request.Op.TheVariants.{Read, Write, Trim, Flush}
use Rattle.adapter.specs.declared.tape.Move as tape_move
use Rattle.adapter.specs.declared.tape.Done as tape_done
use Rattle.adapter.specs.declared.tape.Entry.{Entry}
use Rattle.adapter.specs.declared.tape.Entry.TheVariants as entry
use Rattle.block_machine.specs.State.{Pending, Machine}
use Rattle.block_machine.specs.Steps.{Step, Unplug, PlugDisk}
use Rattle.block_machine.specs.Expected.{after}
use Rattle.block_machine.specs.Events.{IsByDevice, changes_disk}
use Rattle.block_machine.proofs.Members.{contains_none, contains_here, contains_there, contains_cases}
use Rattle.refinement.specs.PreservedParts.{IsPlugEvent}
use Rattle.refinement.specs.Slots.{client_operation_of}
use Rattle.refinement.specs.Tape.{TellsTouchOrIsScratchMove, TellsDone, TellsEntry, TellsDeviceSteps, NoneByDevice, touch_steps}

module _ (port : Port) where
  abbrev Changes : List Step → Bool
  Changes steps = list_any (changes_disk port) steps

  -- ---- steps

  -- a step that isn't the device's changes no disk
  own_step : (step : Step) → (IsByDevice step → ⊥) → changes_disk port step ≡ false
  own_step (Unplug p) own = absurd (own tt)
  own_step (PlugDisk p name size content) own = absurd (own tt)
  own_step _ own = refl

  own_steps : (steps : List Step) → NoneByDevice steps → Changes steps ≡ false
  own_steps [] own = refl
  own_steps (step ∷ steps) own = ap (λ (b : Bool). b || Changes steps) (own_step step own.1) ∙ own_steps steps own.0

  touches_none : (e : Pending) (from n : ℕ) → Changes (touch_steps e from n) ≡ false
  touches_none e from zero = refl
  touches_none e from (suc n) = touches_none e from n

  -- ---- an entry

  -- it is of a disk of the port that goes or comes, and so are its steps, or neither is
  abbrev Alike : Entry → List Step → Type 0
  Alike e steps = (IsPlugEvent port.0 e × (Changes steps ≡ true)) ⊎ ((IsPlugEvent port.0 e → ⊥) × (Changes steps ≡ false))

  none_of : (all steps : List Step) → steps ≡ all → Changes all ≡ false → Changes steps ≡ false
  none_of all steps e none = ap Changes e ∙ none

  move_none : (o : Option Op) (m : Machine) (move : tape_move.Move) (steps : List Step) → TellsTouchOrIsScratchMove o m move steps → Changes steps ≡ false
  move_none None m move steps t = none_of _ steps t.1 refl
  move_none (Some Read) m move steps t = none_of _ steps t.step_is refl
  move_none (Some Write) m move steps t = none_of _ steps t.step_is refl
  move_none (Some Trim) m move steps t = none_of _ steps t.1 refl
  move_none (Some Flush) m move steps t = absurd t

  done_none : (o : Option Op) (m : Machine) (done : tape_done.Done) (steps : List Step) → TellsDone o m done steps → Changes steps ≡ false
  done_none None m done steps t = none_of _ steps t refl
  done_none (Some op) m done steps t = none_of _ steps t.step_is refl

  -- one step, at this port or at another
  at_one : (at : Port) (step : Step) → changes_disk port step ≡ (at.0 == port.0) → (steps : List Step) → steps ≡ step ∷ [] →
      ((at.0 ≡ port.0) × (Changes steps ≡ true)) ⊎ ((at.0 ≡ port.0 → ⊥) × (Changes steps ≡ false))
  at_one at step here steps is = ⊎_elim
      (λ (e : at.0 ≡ port.0). inl (e, ap Changes is ∙ ap (λ (b : Bool). b || false) (here ∙ eq-eqb at.0 port.0 e)))
      (λ (ne : at.0 ≡ port.0 → ⊥). inr (ne, ap Changes is ∙ ap (λ (b : Bool). b || false) (here ∙ ne_eqb at.0 port.0 ne)))
      (cases_eq at.0 port.0)

  entry_alike : (m : Machine) (e : Entry) (steps : List Step) → TellsEntry m e steps → Alike e steps
  entry_alike m (entry.Move move) steps t = inr (λ x. x, move_none (client_operation_of move.operation) m move steps t)
  entry_alike m (entry.Clear clear) steps t = inr (λ x. x, none_of _ steps t.step_is (touches_none t.pending t.first_number clear.count))
  entry_alike m (entry.Done done) steps t = inr (λ x. x, done_none (client_operation_of done.operation) m done steps t)
  entry_alike m (entry.Fault fault) steps t = inr (λ x. x, none_of _ steps t refl)
  entry_alike m (entry.Fatal at) steps t = inr (λ x. x, none_of _ steps t refl)
  entry_alike m (entry.Unplug at) steps t = at_one at (Unplug at) refl steps t
  entry_alike m (entry.Plug at name) steps t = at_one at (PlugDisk at name t.0 t.1) refl steps t.2

  -- ---- entries

  abbrev HasOne : List Entry → Type 0
  HasOne entries = (e : Entry) × Contains entries e × IsPlugEvent port.0 e

  abbrev HasNone : List Entry → Type 0
  HasNone entries = ((e : Entry) → Contains entries e → IsPlugEvent port.0 e → ⊥) × All (λ e. IsPlugEvent port.0 e → ⊥) entries

  -- the entries and the steps
  abbrev AllAlike : List Entry → List Step → Type 0
  AllAlike entries steps = (HasOne entries × (Changes steps ≡ true)) ⊎ (HasNone entries × (Changes steps ≡ false))

  -- the oldest steps are the driver's, then come the entry's
  parted : (rest first own steps : List Step) → NoneByDevice own → steps ≡ rest ++ (first ++ own) → Changes steps ≡ (Changes rest || (Changes first || false))
  parted rest first own steps alone is =
      ap Changes is ∙ list_any-append (changes_disk port) rest (first ++ own)
      ∙ ap (λ (b : Bool). Changes rest || b) (list_any-append (changes_disk port) first own ∙ ap (λ (b : Bool). Changes first || b) (own_steps own alone))

  entries_alike : (m : Machine) (entries : List Entry) (steps : List Step) → TellsDeviceSteps m entries steps → AllAlike entries steps
  entries_alike m [] steps t = inr ((λ e here x. contains_none e here, All-nil (λ e. IsPlugEvent port.0 e → ⊥)), own_steps steps t)
  entries_alike m (entry ∷ entries) steps t = ⊎_elim
      (λ (late : HasOne entries × (Changes t.2 ≡ true)).
      inl ((late.0.0, contains_there entry entries late.0.0 late.0.1, late.0.2), same ∙ ap (λ (b : Bool). b || (Changes t.1 || false)) late.1))
      (λ (late : HasNone entries × (Changes t.2 ≡ false)). ⊎_elim
      (λ (here : IsPlugEvent port.0 entry × (Changes t.1 ≡ true)).
      inl ((entry, contains_here entry entries entry refl, here.0), same ∙ or_right (Changes t.2) (Changes t.1 || false) (ap (λ (b : Bool). b || false) here.1)))
      (λ (here : (IsPlugEvent port.0 entry → ⊥) × (Changes t.1 ≡ false)).
      inr (
        (
          λ e in_them x. ⊎_elim (λ (z : e ≡ entry). here.0 (subst (IsPlugEvent port.0) z x)) (λ i. late.0.0 e i x) (contains_cases entry entries e in_them),
          All-cons (λ e. IsPlugEvent port.0 e → ⊥) entry entries here.0 late.0.1,
        ),
        same ∙ ap (λ (b : Bool). b || (Changes t.1 || false)) late.1 ∙ ap (λ (b : Bool). b || false) here.1,
      ))
      (entry_alike (after m t.0) entry t.1 t.4))
      (entries_alike (after m (t.1 ++ t.0)) entries t.2 t.5)
    where
      same : Changes steps ≡ (Changes t.2 || (Changes t.1 || false))
      same = parted t.2 t.1 t.0 steps t.3 t.6

  pub steps_told : (m : Machine) (entries : List Entry) (steps : List Step) → TellsDeviceSteps m entries steps → (e : Entry) → Contains entries e → IsPlugEvent port.0 e → Changes steps ≡ true
  steps_told m entries steps t e here x = ⊎_elim
      (λ (has : HasOne entries × (Changes steps ≡ true)). has.1)
      (λ (none : HasNone entries × (Changes steps ≡ false)). absurd (none.0.0 e here x))
      (entries_alike m entries steps t)

  pub entry_told : (m : Machine) (entries : List Entry) (steps : List Step) → TellsDeviceSteps m entries steps → Changes steps ≡ true → (e : Entry) × Contains entries e × IsPlugEvent port.0 e
  entry_told m entries steps t changes = ⊎_elim
      (λ (has : HasOne entries × (Changes steps ≡ true)). has.0)
      (λ (none : HasNone entries × (Changes steps ≡ false)). absurd (both_ways _ none.1 changes))
      (entries_alike m entries steps t)

  pub none_told : (m : Machine) (entries : List Entry) (steps : List Step) → TellsDeviceSteps m entries steps → Changes steps ≡ false → All (λ e. IsPlugEvent port.0 e → ⊥) entries
  none_told m entries steps t changes = ⊎_elim
      (λ (has : HasOne entries × (Changes steps ≡ true)). absurd (both_ways _ changes has.1))
      (λ (none : HasNone entries × (Changes steps ≡ false)). none.0.1)
      (entries_alike m entries steps t)
