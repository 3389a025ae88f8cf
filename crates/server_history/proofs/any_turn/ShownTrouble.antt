-- What came on a port since ST was set is shown, where neither PxIS nor PxSERR was written since.
use Rattle.std.proofs.Common.{ℕ, ◌≡◌, ◌≢◌, ◌≤◌, ◌+◌, ◌++◌, Bool, true, false, List, [], ◌∷◌, length, refl, sym, ap, ◌∙◌, subst, inl, inr, arith, append_assoc, ⊎_elim}
use Rattle.std.specs.List.{All, Contains}
use Rattle.std.specs.Prelude.{◌⊎◌}
use Rattle.std.proofs.lemmas.Bool.{cases_eq}
use Rattle.std.proofs.lemmas.List.{length-append}
use Rattle.std.proofs.lemmas.List.Elements.{All-contains, All-head, All-tail, Contains-append_right}
use Rattle.ata_types.specs.declared.Port.{Port}
use Rattle.hba_regs.specs.Bits.{bit}
use Rattle.hba_regs.specs.declared.reg.PortReg.TheVariants.{Cmd, Is, Sctl, Serr}
use Rattle.hba_regs.specs.declared.reg.Reg.TheVariants.{Ghc, Px}
use Rattle.adapter.specs.Access.{Access, Does, DoesAll}
use Rattle.adapter.specs.Access.Access.{Writing}
use Rattle.adapter.specs.Device.{Device, DevicePort}
use Rattle.adapter.specs.Rules.{IsOn}
use Rattle.adapter.specs.declared.tape.Entry.{Entry}
use Rattle.refinement.specs.Fragments.{TapeGrows}
use Rattle.refinement.specs.Errors.{IsFatalEntryOf, NoFaults, NoFatalErrors}
use Rattle.refinement.specs.PortFacts.{IsFaultOf}
use Rattle.refinement.specs.PreservedParts.{IsPlugEvent, NoPlugEvents, DoesNotWrite}
use Rattle.error_recovery.specs.Evidence.{GainsSinceStart, ShowsFatal, HidesNoTrouble}
use Rattle.server_history.specs.Prerequisites.{PrerequisiteLaws}

-- ---- lists

-- what stands in the whole behind its first part stands in the rest
behind : {X : Type 0} (first rest xs ys : List X) → xs ++ ys ≡ first ++ rest → length first ≤ length xs → (mid : List X) × (rest ≡ mid ++ ys) × (length xs ≡ length first + length mid)
behind [] rest xs ys is long = (xs, sym is, omega arith)
behind (f ∷ first) rest [] ys is long = absurd (omega (arith, long))
behind (f ∷ first) rest (x ∷ xs) ys is long =
    let tails : xs ++ ys ≡ first ++ rest = (let z : x ∷ (xs ++ ys) ≡ f ∷ (first ++ rest) = is in cc) in
    let m = behind first rest xs ys tails (omega (arith, long)) in
    let same = m.2 in
    (m.0, m.1, omega (arith, same))

-- it stands in the first of two parts, or in the second
split : {X : Type 0} (before : List X) (e : X) (later first rest : List X) → before ++ (e ∷ later) ≡ first ++ rest → ((last : List X) × (first ≡ before ++ (e ∷ last))) ⊎ Contains rest e
split before e later [] rest is = inr (subst (λ (list : List _). Contains list e) is (Contains-append_right before (e ∷ later) e ((0, omega arith, refl))))
split [] e later (f ∷ first) rest is = inl (first, (let z : e ∷ later ≡ f ∷ (first ++ rest) = is in let same : e ≡ f = cc in ap (λ x. x ∷ first) (sym same)))
split (b ∷ before) e later (f ∷ first) rest is =
    let z : b ∷ (before ++ (e ∷ later)) ≡ f ∷ (first ++ rest) = is in
    let tails : before ++ (e ∷ later) ≡ first ++ rest = cc in
    let heads : b ≡ f = cc in
    ⊎_elim
    (λ early. inl (early.0, ap (λ x. x ∷ first) (sym heads) ∙ ap (λ xs. b ∷ xs) early.1))
    (λ late. inr late)
    (split before e later first rest tails)

-- ---- accesses one after another

-- the tape grows over them
pub grows_over : PrerequisiteLaws → (accesses : List Access) (old new : Device) → DoesAll accesses old new → TapeGrows old new
grows_over laws [] old new is = subst (TapeGrows old) (sym is) (laws.port_event_laws.tape.growth_is_reflexive old)
grows_over laws (access ∷ accesses) old new (mid, does, rest) = laws.port_event_laws.tape.growth_is_transitive old mid new (laws.port_event_laws.tape.access_grows access old mid does) (grows_over laws accesses mid new rest)

-- ---- what came since ST was set

module _ (Such : Entry → Type 0) (port : ℕ) where
  -- it came after a moment that wasn't later
  pub since_then : (old start new : Device) → TapeGrows start new → length start.tape ≤ (new.port port).notes.st_set_at → GainsSinceStart Such port old new → GainsSinceStart Such port start new
  since_then old start new grows set g =
      let at : (old.tape ++ g.before) ++ (g.entry ∷ g.later) ≡ start.tape ++ grows.0 = append_assoc old.tape g.before (g.entry ∷ g.later) ∙ sym g.tape_grows ∙ grows.1 in
      let long = length-append old.tape g.before in
      let since = g.came_since_start in
      let m = behind start.tape grows.0 (old.tape ++ g.before) (g.entry ∷ g.later) at (omega (arith, set, long, since)) in
      let same = m.2 in
      record { before = m.0; entry = g.entry; later = g.later; tape_grows = grows.1 ∙ ap (λ (list : List Entry). start.tape ++ list) m.1; is_of_kind = g.is_of_kind; came_since_start = omega (arith, since, long, same) }

  -- and by a moment after which none came
  pub until_then : (start mid new : Device) → TapeGrows start mid → (later : List Entry) → new.tape ≡ mid.tape ++ later → All (λ e. Such e → ⊥) later → (new.port port).notes.st_set_at ≡ (mid.port port).notes.st_set_at
      → GainsSinceStart Such port start new → GainsSinceStart Such port start mid
  until_then start mid new grows later is none same g =
      let at : g.before ++ (g.entry ∷ g.later) ≡ grows.0 ++ later = cancel start.tape (sym g.tape_grows ∙ is ∙ ap (λ (list : List Entry). list ++ later) grows.1 ∙ append_assoc start.tape grows.0 later) in
      let since = g.came_since_start in
      ⊎_elim
      (λ early. record { before = g.before; entry = g.entry; later = early.0; tape_grows = grows.1 ∙ ap (λ (list : List Entry). start.tape ++ list) early.1; is_of_kind = g.is_of_kind; came_since_start = omega (arith, since, same) })
      (λ late. absurd (All-contains (λ e. Such e → ⊥) later g.entry none late g.is_of_kind))
      (split g.before g.entry g.later grows.0 later at)
    where
      cancel : (first : List Entry) {xs ys : List Entry} → first ++ xs ≡ first ++ ys → xs ≡ ys
      cancel [] e = e
      cancel (f ∷ first) {xs} {ys} e = cancel first (let z : f ∷ (first ++ xs) ≡ f ∷ (first ++ ys) = e in cc)

  -- none has come where the stretch has none
  pub none_came : (start new : Device) (later : List Entry) → new.tape ≡ start.tape ++ later → All (λ e. Such e → ⊥) later → GainsSinceStart Such port start new → ⊥
  none_came start new later is none g =
      let here = split [] g.entry g.later [] (g.entry ∷ g.later) refl in
      let m = behind start.tape later (start.tape ++ g.before) (g.entry ∷ g.later) (append_assoc start.tape g.before (g.entry ∷ g.later) ∙ sym g.tape_grows ∙ is) (let long = length-append start.tape g.before in omega (arith, long)) in
      All-contains (λ e. Such e → ⊥) later g.entry none (subst (λ (list : List Entry). Contains list g.entry) (sym m.1) (Contains-append_right m.0 (g.entry ∷ g.later) g.entry ((0, omega arith, refl)))) g.is_of_kind

-- ---- stretches that clear nothing

-- where it writes GHC, it sets AE and doesn't set HR
abbrev pub StaysOn : Access → Type 0
StaysOn access = (v : ℕ) → access ≡ Writing Ghc v → (bit v 31 ≡ true) × (bit v 0 ≡ false)

pub stays_on : (access : Access) → DoesNotWrite Ghc access → StaysOn access
stays_on access spares v is = absurd (subst (DoesNotWrite Ghc) is spares refl)

-- it writes neither PxIS nor PxSERR, nor PxCMD or PxSCTL, and leaves the adapter on
abbrev pub LeavesTrouble : Port → Access → Type 0
LeavesTrouble port access = DoesNotWrite (Px port Is) access × DoesNotWrite (Px port Serr) access × DoesNotWrite (Px port Cmd) access × DoesNotWrite (Px port Sctl) access × StaysOn access

abbrev ShowsNoFatal : DevicePort → Type 0
ShowsNoFatal p = (place : ℕ) → 27 ≤ place → place ≤ 29 → p.is place ≡ false

-- what isn't shown hasn't come
pub record ShowsAll (port : ℕ) (old new : Device) : Type 0 where
  pub grows : TapeGrows old new
  pub fault : (new.port port).is 30 ≡ false → ((old.port port).is 30 ≡ false) × NoFaults port old new
  pub fatal : ShowsNoFatal (new.port port) → ShowsNoFatal (old.port port) × NoFatalErrors port old new
  pub disk : (new.port port).serr_n ≡ false → ((old.port port).serr_n ≡ false) × NoPlugEvents port old new
  pub same : (new.port port).notes.st_set_at ≡ (old.port port).notes.st_set_at

-- where a bit isn't clear, it is set
pub set_unless : (b : Bool) → (b ≡ false → ⊥) → b ≡ true
set_unless true not = refl
set_unless false not = absurd (not refl)

-- one of the three bits is set, unless all are clear
pub fatal_unless : (p : DevicePort) → (ShowsNoFatal p → ⊥) → ShowsFatal p
fatal_unless p not = by (p.is 27) (p.is 28) (p.is 29) refl refl refl
  where
    by : (a b c : Bool) → p.is 27 ≡ a → p.is 28 ≡ b → p.is 29 ≡ c → ShowsFatal p
    by true b c x y z = record { place = 27; from = omega arith; to = omega arith; cause_is_set = x }
    by false true c x y z = record { place = 28; from = omega arith; to = omega arith; cause_is_set = y }
    by false false true x y z = record { place = 29; from = omega arith; to = omega arith; cause_is_set = z }
    by false false false x y z = absurd (not (λ place from to. at place from to))
      where
        at : (place : ℕ) → 27 ≤ place → place ≤ 29 → p.is place ≡ false
        at place from to = ⊎_elim (λ (e : place ≡ 27). rw e x)
            (λ (ne : place ≢ 27). ⊎_elim (λ (e : place ≡ 28). rw e y) (λ (other : place ≢ 28). let e : place ≡ 29 = omega (arith, from, to, ne, other) in rw e z) (cases_eq place 28))
            (cases_eq place 27)

-- the adapter stays on over them
pub on_over : PrerequisiteLaws → (accesses : List Access) (old new : Device) → IsOn old → All StaysOn accesses → DoesAll accesses old new → IsOn new
on_over laws [] old new on all is = subst IsOn (sym is) on
on_over laws (access ∷ accesses) old new on all (mid, does, rest) =
    on_over laws accesses mid new (laws.port_event_laws.access_keeps_on access old mid on (All-head StaysOn access accesses all) does) (All-tail StaysOn access accesses all) rest

module _ (laws : PrerequisiteLaws) (port : Port) where
  pub on_one : (access : Access) (old new : Device) → IsOn old → DoesNotWrite Ghc access → Does access old new → IsOn new
  on_one access old new on spares does = laws.port_event_laws.access_keeps_on access old new on (stays_on access spares) does

  pub shows_over : (accesses : List Access) (old new : Device) → IsOn old → All (LeavesTrouble port) accesses → DoesAll accesses old new → ShowsAll port.0 old new
  shows_over [] old new on all is = subst (ShowsAll port.0 old) (sym is) (record {
    grows = laws.port_event_laws.tape.growth_is_reflexive old;
    fault = λ clear. (clear, laws.port_event_laws.tape.no_faults_reflexive port.0 old);
    fatal = λ clear. (clear, laws.port_event_laws.tape.no_fatal_errors_reflexive port.0 old);
    disk = λ clear. (clear, laws.port_event_laws.tape.no_plug_events_reflexive port.0 old);
    same = refl;
  })
  shows_over (access ∷ accesses) old new on all (mid, does, rest) =
      let kind = All-head (LeavesTrouble port) access accesses all in
      let later = shows_over accesses mid new (laws.port_event_laws.access_keeps_on access old mid on kind.4 does) (All-tail (LeavesTrouble port) access accesses all) rest in
      record {
        grows = laws.port_event_laws.tape.growth_is_transitive old mid new (laws.port_event_laws.tape.access_grows access old mid does) later.grows;
        fault = λ clear.
            let l = later.fault clear in
            let e = laws.port_event_laws.access_hides_no_fault port access old mid on.no_reset kind.0 does l.0 in (e.0, laws.port_event_laws.tape.no_faults_transitive port.0 old mid new e.1 l.1);
        fatal = λ clear.
            let l = later.fatal clear in
            let e = laws.port_error.pxis_shows_fatal_errors port access old mid on.no_reset kind.0 does l.0 in (e.0, laws.port_event_laws.tape.no_fatal_errors_transitive port.0 old mid new e.1 l.1);
        disk = λ clear.
            let l = later.disk clear in
            let e = laws.port_error.serr_n_shows_plug_events port access old mid on.no_reset kind.1 does l.0 in (e.0, laws.port_event_laws.tape.no_plug_events_transitive port.0 old mid new e.1 l.1);
        same = later.same ∙ ((laws.port_event_laws.access_controls port access old mid on.no_reset does).command kind.2).2;
      }

-- where ST was set before the stretch, at its beginning
pub shown_since : (port : ℕ) (old start new : Device) → ShowsAll port start new → (start.port port).notes.st_set_at ≡ length start.tape → HidesNoTrouble port old new
shown_since port old start new a set = record {
  fault_is_shown = λ g. set_unless ((new.port port).is 30) (λ clear. let n = (a.fault clear).1 in none_came (IsFaultOf port) port start new n.new_entries n.tape_is n.no_such_entry (since_then (IsFaultOf port) port old start new a.grows early g));
  fatal_is_shown = λ g. fatal_unless (new.port port) (λ clear. let n = (a.fatal clear).1 in none_came (IsFatalEntryOf port) port start new n.new_entries n.tape_is n.no_such_entry (since_then (IsFatalEntryOf port) port old start new a.grows early g));
  plug_is_shown = λ g. set_unless (new.port port).serr_n (λ clear. let n = (a.disk clear).1 in none_came (IsPlugEvent port) port start new n.new_entries n.tape_is n.no_such_entry (since_then (IsPlugEvent port) port old start new a.grows early g));
}
  where
    early : length start.tape ≤ (new.port port).notes.st_set_at
    early = let same = a.same in omega (arith, same, set)

-- where it was shown when the stretch began, ST having been set after another moment
pub shown_more : (port : ℕ) (old start mid new : Device) → HidesNoTrouble port start mid → TapeGrows start mid → length start.tape ≤ (mid.port port).notes.st_set_at → ShowsAll port mid new → HidesNoTrouble port old new
shown_more port old start mid new shown grows set a = record {
  fault_is_shown = λ g. set_unless ((new.port port).is 30) (λ clear.
      let n = a.fault clear in
      let before = until_then (IsFaultOf port) port start mid new grows n.1.new_entries n.1.tape_is n.1.no_such_entry a.same (since_then (IsFaultOf port) port old start new whole early g) in
      let z : false ≡ true = sym n.0 ∙ shown.fault_is_shown before in absurd cc);
  fatal_is_shown = λ g. fatal_unless (new.port port) (λ clear.
      let n = a.fatal clear in
      let before = until_then (IsFatalEntryOf port) port start mid new grows n.1.new_entries n.1.tape_is n.1.no_such_entry a.same (since_then (IsFatalEntryOf port) port old start new whole early g) in
      let f = shown.fatal_is_shown before in
      let z : false ≡ true = sym (n.0 f.place f.from f.to) ∙ f.cause_is_set in absurd cc);
  plug_is_shown = λ g. set_unless (new.port port).serr_n (λ clear.
      let n = a.disk clear in
      let before = until_then (IsPlugEvent port) port start mid new grows n.1.new_entries n.1.tape_is n.1.no_such_entry a.same (since_then (IsPlugEvent port) port old start new whole early g) in
      let z : false ≡ true = sym n.0 ∙ shown.plug_is_shown before in absurd cc);
}
  where
    early : length start.tape ≤ (new.port port).notes.st_set_at
    early = let same = a.same in omega (arith, same, set)

    whole : TapeGrows start new
    whole = (grows.0 ++ a.grows.0, a.grows.1 ∙ ap (λ (list : List Entry). list ++ a.grows.0) grows.1 ∙ append_assoc start.tape grows.0 a.grows.0)
