-- What came since ST of a port was last set.
use Rattle.std.proofs.Common.{ℕ, ◌≡◌, ◌≤◌, ◌++◌, List, [], ◌∷◌, length, sym, ap, ◌∙◌, append_assoc, length-append, arith}
use Rattle.std.specs.List.{All}
use Rattle.std.proofs.lemmas.List.Elements.{All-cons, All-head, All-nil, All-tail}
use Rattle.adapter.specs.Device.{Device}
use Rattle.adapter.specs.declared.tape.Entry.{Entry}
use Rattle.adapter.specs.declared.tape.Entry.TheVariants as entry
use Rattle.refinement.specs.Fragments.{TapeGrows}
use Rattle.refinement.specs.Errors.{IsFatalEntryOf}
use Rattle.refinement.specs.PortFacts.{IsDisturbance, IsFaultOf, Undisturbed}
use Rattle.refinement.specs.PreservedParts.{IsPlugEvent, NoPlugEvents}
use Rattle.error_recovery.specs.Evidence.{GainsSinceStart}
use Rattle.driver_history.specs.Laws.{AccessLaws}

-- an entry that the later part of a stretch gained, at its place in the whole
pub gained_later : {X : Type 0} (old early before : List X) (e : X) (later last : List X) {mid end new : List X} → mid ≡ old ++ early → end ≡ mid ++ (before ++ e ∷ later) → new ≡ end ++ last
    → new ≡ old ++ ((early ++ before) ++ e ∷ (later ++ last))
gained_later {X} old early before e later last p q r =
    r ∙ ap (λ (xs : List X). xs ++ last) (q ∙ ap (λ (xs : List X). xs ++ (before ++ e ∷ later)) p)
    ∙ append_assoc (old ++ early) (before ++ e ∷ later) last ∙ append_assoc old early ((before ++ e ∷ later) ++ last)
    ∙ ap (λ (xs : List X). old ++ (early ++ xs)) (append_assoc before (e ∷ later) last)
    ∙ ap (λ (xs : List X). old ++ xs) (sym (append_assoc early before (e ∷ (later ++ last))))

-- what a part of a stretch gained since ST was set, the stretch did, where ST was not set again after the part
pub running_in_part : (Such : Entry → Type 0) (port : ℕ) (old start end new : Device) → TapeGrows old start → TapeGrows end new → (new.port port).notes.st_set_at ≡ (end.port port).notes.st_set_at → GainsSinceStart Such port start end
    → GainsSinceStart Such port old new
running_in_part Such port old start end new first last same g =
    let since = g.came_since_start in
    let long = ap (λ (xs : List Entry). length xs) first.1 ∙ length-append old.tape first.0 in
    let more = length-append first.0 g.before in
    record {
      before = first.0 ++ g.before;
      entry = g.entry;
      later = g.later ++ last.0;
      tape_grows = gained_later old.tape first.0 g.before g.entry g.later last.0 first.1 g.tape_grows last.1;
      is_of_kind = g.is_of_kind;
      came_since_start = omega (arith, same, since, long, more);
    }

module _ (laws : AccessLaws) (port : ℕ) (old mid new : Device) (early : TapeGrows old mid) (late : TapeGrows mid new) (set : (new.port port).notes.st_set_at ≤ length mid.tape) where
  running : (Such : Entry → Type 0) (before : List Entry) (e : Entry) (later : List Entry) → new.tape ≡ mid.tape ++ (before ++ e ∷ later) → Such e → GainsSinceStart Such port old new
  running Such before e later tape is =
      let long = ap (λ (xs : List Entry). length xs) early.1 ∙ length-append old.tape early.0 in
      let more = length-append early.0 before in
      record {
        before = early.0 ++ before;
        entry = e;
        later = later;
        tape_grows = tape ∙ ap (λ (xs : List Entry). xs ++ (before ++ e ∷ later)) early.1 ∙ append_assoc old.tape early.0 (before ++ e ∷ later)
            ∙ ap (λ (xs : List Entry). old.tape ++ xs) (sym (append_assoc early.0 before (e ∷ later)));
        is_of_kind = is;
        came_since_start = omega (arith, set, long, more);
      }

  module _ (unfailed : GainsSinceStart (IsFaultOf port) port old new → ⊥) (unbroken : GainsSinceStart (IsFatalEntryOf port) port old new → ⊥) where
    one_calm : (before : List Entry) (e : Entry) (later : List Entry) → new.tape ≡ mid.tape ++ (before ++ e ∷ later) → (IsPlugEvent port e → ⊥) → IsDisturbance port e → ⊥
    one_calm before (entry.Fault fault) later tape none is = unfailed (running (IsFaultOf port) before (entry.Fault fault) later tape is)
    one_calm before (entry.Fatal at) later tape none is = unbroken (running (IsFatalEntryOf port) before (entry.Fatal at) later tape is)
    one_calm before (entry.Unplug at) later tape none is = none is
    one_calm before (entry.Plug at name) later tape none is = none is
    one_calm before (entry.Move x) later tape none is = absurd is
    one_calm before (entry.Clear x) later tape none is = absurd is
    one_calm before (entry.Done x) later tape none is = absurd is

    all_calm : (before later : List Entry) → new.tape ≡ mid.tape ++ (before ++ later) → All (λ e. IsPlugEvent port e → ⊥) later → All (λ e. IsDisturbance port e → ⊥) later
    all_calm before [] tape none = All-nil (λ e. IsDisturbance port e → ⊥)
    all_calm before (e ∷ later) tape none =
        All-cons (λ e. IsDisturbance port e → ⊥) e later (one_calm before e later tape (All-head (λ e. IsPlugEvent port e → ⊥) e later none))
        (all_calm (before ++ e ∷ []) later (tape ∙ ap (λ (xs : List Entry). mid.tape ++ xs) (sym (append_assoc before (e ∷ []) later))) (All-tail (λ e. IsPlugEvent port e → ⊥) e later none))

  pub calm_since : NoPlugEvents port old new → (GainsSinceStart (IsFaultOf port) port old new → ⊥) → (GainsSinceStart (IsFatalEntryOf port) port old new → ⊥) → Undisturbed port mid new
  calm_since none unfailed unbroken =
      let after = (laws.tape.no_plug_events_in_parts port old mid new early.0 late.0 early.1 late.1 none).1 in
      record { new_entries = after.new_entries; tape_is = after.tape_is; no_disturbance = all_calm unfailed unbroken [] after.new_entries after.tape_is after.no_such_entry }
