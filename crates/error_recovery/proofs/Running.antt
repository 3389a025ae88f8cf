-- A port that runs again: what it shows, and that it goes well.
use Rattle.std.proofs.Common.{ℕ, Bool, ◌≡◌, ◌≤◌, ◌++◌, true, false, List, [], ◌∷◌, length, inl, inr, refl, sym, ◌∙◌, ap, subst, arith, append_assoc, ⊎_elim}
use Rattle.std.specs.Prelude.{All, Contains}
use Rattle.std.proofs.lemmas.Bool.{true≢false, cases_eq}
use Rattle.std.proofs.lemmas.List.{length-append}
use Rattle.std.proofs.lemmas.List.Elements.{All-cons, All-contains, All-nil}
use Rattle.ata_types.specs.declared.Port.{Port}
use Rattle.adapter.specs.Device.{Device, Notes, DevicePort}
use Rattle.adapter.specs.Device.Halt.{LogOnly, NotHalted}
use Rattle.adapter.specs.Steps.{halt_after_start}
use Rattle.adapter.specs.declared.tape.Entry.{Entry}
use Rattle.refinement.specs.Fragments.{TapeGrows, NoCommandIsIssuedOrTaken}
use Rattle.refinement.specs.Errors.{IsFatalEntryOf, NoFatalErrors}
use Rattle.refinement.specs.PortFacts.{RecordsFaults, IsFaultOf, IsHaltedByPlainOrQueued}
use Rattle.refinement.specs.PreservedParts.{IsPlugEvent}
use Rattle.adapter.specs.OneCommand.{SlotHasNoCommand}
use Rattle.disk_page.specs.PageRequests.{LeavesPortWhileAsking}
use Rattle.port_control.specs.Ports.{RunsInPlaceWithoutCommands}
use Rattle.error_recovery.specs.Evidence.{GainsSinceStart, ShowsFatal, HidesNoTrouble}
use Rattle.error_recovery.specs.Laws.{Laws}
use Rattle.error_recovery.specs.RecoveryParts.{StartsAgain, IsStoppedAndCleared}
use Rattle.error_recovery.specs.Recovery.{RunsAgain}
use Rattle.error_recovery.proofs.Going.{Asks, Goes, plugs_in_parts}
use Rattle.error_recovery.proofs.Lists.{behind, stands}
use Rattle.error_recovery.proofs.Quieting.{commands_plain}

-- an entry that has come since ST was set isn't one that a stretch from then on hasn't gained
gained_since : (Is : Entry → Type 0) (port : ℕ) (old start new : Device) → (new.port port).notes.st_set_at ≡ length start.tape → (gained : List Entry) → new.tape ≡ start.tape ++ gained →
    All (λ e. Is e → ⊥) gained → GainsSinceStart Is port old new → ⊥
gained_since Is port old start new set gained is none g =
    let at : start.tape ++ gained ≡ (old.tape ++ g.before) ++ (g.entry ∷ g.later) = sym is ∙ (g.tape_grows ∙ sym (append_assoc old.tape g.before (g.entry ∷ g.later))) in
    let long = length-append old.tape g.before in
    let since = g.came_since_start in
    let split = behind start.tape gained (old.tape ++ g.before) g.entry g.later at (omega (arith, set, long, since)) in
    let here : Contains gained g.entry = subst (λ (es : List Entry). Contains es g.entry) (sym split.1) (stands split.0 g.entry g.later) in
    All-contains (λ e. Is e → ⊥) gained g.entry none here g.is_of_kind

-- and what hasn't come since ST was set, a stretch from then on hasn't gained
none_since : (Is : Entry → Type 0) (port : ℕ) (old start new : Device) → TapeGrows old start → (new.port port).notes.st_set_at ≡ length start.tape → (GainsSinceStart Is port old new → ⊥) → (before later : List Entry) →
    new.tape ≡ start.tape ++ (before ++ later) → All (λ e. Is e → ⊥) later
none_since Is port old start new grows set none before [] tape = All-nil (λ e. Is e → ⊥)
none_since Is port old start new grows set none before (e ∷ later) tape =
    let long = ap (λ (es : List Entry). length es) grows.1 ∙ length-append old.tape grows.0 in
    let more = length-append grows.0 before in
    All-cons (λ e. Is e → ⊥) e later
    (λ is. none (record {
      before = grows.0 ++ before;
      entry = e;
      later = later;
      tape_grows = tape ∙ ap (λ (es : List Entry). es ++ (before ++ e ∷ later)) grows.1 ∙ append_assoc old.tape grows.0 (before ++ e ∷ later)
          ∙ ap (λ (es : List Entry). old.tape ++ es) (sym (append_assoc grows.0 before (e ∷ later)));
      is_of_kind = is;
      came_since_start = omega (arith, set, long, more);
    }))
    (none_since Is port old start new grows set none (before ++ e ∷ []) later (tape ∙ ap (λ (es : List Entry). start.tape ++ es) (sym (append_assoc before (e ∷ []) later))))

-- where a bit isn't clear, it is set
set_unless_clear : (b : Bool) → (b ≡ false → ⊥) → b ≡ true
set_unless_clear true not = refl
set_unless_clear false not = absurd (not refl)

-- one of the three bits is set, unless all are clear
pub fatal_unless_clear : (p : DevicePort) → (((place : ℕ) → 27 ≤ place → place ≤ 29 → p.is place ≡ false) → ⊥) → ShowsFatal p
fatal_unless_clear p not = by (p.is 27) (p.is 28) (p.is 29) refl refl refl
  where
    by : (a b c : Bool) → p.is 27 ≡ a → p.is 28 ≡ b → p.is 29 ≡ c → ShowsFatal p
    by true b c x y z = record { place = 27; from = omega arith; to = omega arith; cause_is_set = x }
    by false true c x y z = record { place = 28; from = omega arith; to = omega arith; cause_is_set = y }
    by false false true x y z = record { place = 29; from = omega arith; to = omega arith; cause_is_set = z }
    by false false false x y z = absurd (not (λ place from to. at place from to))
      where
        at : (place : ℕ) → 27 ≤ place → place ≤ 29 → p.is place ≡ false
        at place from to = ⊎_elim (λ (e : place ≡ 27). rw e x)
            (λ (ne : place ≡ 27 → ⊥). ⊎_elim (λ (e : place ≡ 28). rw e y) (λ (other : place ≡ 28 → ⊥). let e : place ≡ 29 = omega (arith, from, to, ne, other) in rw e z) (cases_eq place 28))
            (cases_eq place 27)

-- trouble since ST was set is shown, where what isn't shown hasn't come
shows_trouble : (port : Port) (old start new : Device) → (new.port port.0).notes.st_set_at ≡ length start.tape → Asks port start new → HidesNoTrouble port.0 old new
shows_trouble port old start new set a = record {
  fault_is_shown = λ g. set_unless_clear ((new.port port.0).is 30) (λ clear. let n = (a.fault clear).1 in gained_since (IsFaultOf port.0) port.0 old start new set n.new_entries n.tape_is n.no_such_entry g);
  fatal_is_shown = λ g. fatal_unless_clear (new.port port.0) (λ clear. let n = (a.fatal clear).1 in gained_since (IsFatalEntryOf port.0) port.0 old start new set n.new_entries n.tape_is n.no_such_entry g);
  plug_is_shown = λ g. set_unless_clear (new.port port.0).serr_n (λ clear. let n = (a.disk clear).1 in gained_since (IsPlugEvent port.0) port.0 old start new set n.new_entries n.tape_is n.no_such_entry g);
}

pub no_command : (port : ℕ) (p : DevicePort) → RunsInPlaceWithoutCommands port p → NoCommandIsIssuedOrTaken p
no_command port p runs slot = record { is_not_issued = runs.ci_is_clear slot; is_not_taken = runs.none_is_taken slot }

-- ST was set at such a moment
since_set : (port : Port) (old at new : Device) → TapeGrows old at → (new.port port.0).notes.st_set_at ≡ length at.tape → length old.tape ≤ (new.port port.0).notes.st_set_at
since_set port old at new grows set =
    let n = ap (λ (es : List Entry). length es) grows.1 ∙ length-append old.tape grows.0 in omega (arith, n, set)

-- a port that runs with no command, and had its log read
pub asked_running : (laws : Laws) (port : ℕ) (start new : Device) → RunsInPlaceWithoutCommands port (start.port port) → LeavesPortWhileAsking port start new → SlotHasNoCommand (new.port port) 0 → RunsInPlaceWithoutCommands port (new.port port)
asked_running laws port start new runs l over =
    let none = laws.asking_leaves_no_command port start new l (no_command port (start.port port) runs) over in
    record {
      st_is_set = l.controls_are_kept.st_is_kept ∙ runs.st_is_set;
      cr_is_set = l.controls_are_kept.engine_stays_running runs.st_is_set runs.cr_is_set;
      fre_is_set = l.controls_are_kept.fre_is_kept ∙ runs.fre_is_set;
      areas_are_in_place = l.bases_are_kept ∙ runs.areas_are_in_place;
      ci_is_clear = λ slot. (none slot).is_not_issued;
      sact_is_clear = λ slot. l.sact_stays_clear slot (runs.sact_is_clear slot);
      none_is_taken = λ slot. (none slot).is_not_taken;
    }

module _ (laws : Laws) (port : Port) (outstanding : ℕ) (queued : Bool) (before after : ℕ) (old d : Device) (r : IsStoppedAndCleared port outstanding queued before after old d) (first : Goes port old d) where
  -- ---- that was started, and no more

  module _ (new : Device) (s : StartsAgain port d new) (then : Goes port d new) (whole : Goes port old new) where
    nothing_came : (Is : Entry → Type 0) → GainsSinceStart Is port.0 old new → ⊥
    nothing_came Is g =
        let n = ap (λ (es : List Entry). length es) g.tape_grows ∙ length-append old.tape (g.before ++ g.entry ∷ g.later) in
        let m = length-append g.before (g.entry ∷ g.later) in
        let set = s.tape_is_as_at_st_set in
        let since = g.came_since_start in
        omega (arith, n, m, set, since)

    pub runs_plain : queued ≡ false → RunsAgain queued port.0 old new
    runs_plain is = record {
      runs = s.runs;
      faults_are_on_record = s.faults_are_on_record;
      st_set_in_call = since_set port old new new whole.grows (s.tape_is_as_at_st_set);
      link_wait_count_is_kept = ap (λ (n : Notes). n.link_wait_count) s.other_notes_are_kept.1 ∙ r.stops_and_clears.link_wait_count_is_kept;
      queued_halt_ends = λ on. absurd (true≢false (sym on ∙ is));
      plain_port_stays_plain = λ _ plain. commands_plain laws port d new s.starts r.stops_and_clears.machine_is_related (r.stops_and_clears.plain_port_stays_plain plain);
      is_not_log_only = λ plain log.
          let w = commands_plain laws port d new s.starts r.stops_and_clears.machine_is_related (r.stops_and_clears.plain_port_stays_plain (plain is)) in
          let e : LogOnly ≡ NotHalted = ap halt_after_start (sym log) ∙ w.start_ends_halt in absurd cc;
      hides_no_trouble = record {
        fault_is_shown = λ g. absurd (nothing_came (IsFaultOf port.0) g);
        fatal_is_shown = λ g. absurd (nothing_came (IsFatalEntryOf port.0) g);
        plug_is_shown = λ g. absurd (nothing_came (IsPlugEvent port.0) g);
      };
      runs_well_if_linked_without_plug_or_fatal = λ none calm linked plain.
          let n = plugs_in_parts laws port.0 old d new first.grows then.grows none in
          let up = laws.linked_plain_port_is_up (d.port port.0) (first.linked n.0 linked) (r.stops_and_clears.plain_port_stays_plain (plain is)) in
          laws.started_quiet_port_runs_well (new.port port.0) (s.port_is_started up n.1)
          (record {
            serr_n_is_clear = s.errors_change_by_disks.serr_n_rises_by_plug_events n.1 (r.stops_and_clears.serr_shows_only_new_plugs.serr_n_is_clear n.0);
            serr_x_is_clear = s.errors_change_by_disks.serr_x_rises_by_disk_coming (laws.tape.no_plug_event_no_disk port.0 d new n.1) (r.stops_and_clears.serr_shows_only_new_plugs.serr_x_is_clear (laws.tape.no_plug_event_no_disk port.0 old d n.0));
            bits_27_to_30_are_clear = λ place from to. s.no_cause_rises place (r.stops_and_clears.no_cause_is_set place (omega (arith, to)));
          });
    }

  -- ---- whose log was read

  module _ (start new : Device) (s : StartsAgain port d start) (then : Goes port d start) (l : LeavesPortWhileAsking port.0 start new) (a : Asks port start new) (later : Goes port start new)
      (over : SlotHasNoCommand (new.port port.0) 0) (running : (new.port port.0).halt ≡ NotHalted) where
    runs : RunsInPlaceWithoutCommands port.0 (new.port port.0)
    runs = asked_running laws port.0 start new s.runs l over

    recorded : RecordsFaults new.tape (new.port port.0) port.0
    recorded = l.faults_are_on_record (λ _. s.faults_are_on_record) runs.st_is_set

    -- no fault halts it, so TFES is clear
    unflagged : (new.port port.0).is 30 ≡ false
    unflagged = by ((new.port port.0).is 30) refl
      where
        unhalted : IsHaltedByPlainOrQueued (new.port port.0).halt → ⊥
        unhalted f = not_faulted (subst IsHaltedByPlainOrQueued running f)
          where
            not_faulted : IsHaltedByPlainOrQueued NotHalted → ⊥
            not_faulted (inl e) = absurd cc
            not_faulted (inr e) = absurd cc

        by : (b : Bool) → (new.port port.0).is 30 ≡ b → (new.port port.0).is 30 ≡ false
        by true is = absurd (unhalted (recorded.tfes_tells_fault is))
        by false is = is

    undue : (d.port port.0).link_due ≡ false
    undue = r.stops_and_clears.is_clean_to_start.no_link_is_due

    pub runs_queued : queued ≡ true → RunsAgain queued port.0 old new
    runs_queued is = record {
      runs = runs;
      faults_are_on_record = recorded;
      st_set_in_call = since_set port old start new (laws.tape.growth_is_transitive old d start first.grows then.grows) (ap (λ (n : Notes). n.st_set_at) l.other_notes_are_kept ∙ s.tape_is_as_at_st_set);
      link_wait_count_is_kept = ap (λ (n : Notes). n.link_wait_count) l.other_notes_are_kept ∙ (ap (λ (n : Notes). n.link_wait_count) s.other_notes_are_kept.1 ∙ r.stops_and_clears.link_wait_count_is_kept);
      queued_halt_ends = λ _. running;
      plain_port_stays_plain = λ off. absurd (true≢false (sym is ∙ off));
      is_not_log_only = λ plain log. let e : LogOnly ≡ NotHalted = sym log ∙ running in absurd cc;
      hides_no_trouble = shows_trouble port old start new (ap (λ (n : Notes). n.st_set_at) l.other_notes_are_kept ∙ s.tape_is_as_at_st_set) a;
      runs_well_if_linked_without_plug_or_fatal = λ none calm linked plain.
          let n = plugs_in_parts laws port.0 old d new first.grows (laws.tape.growth_is_transitive d start new then.grows later.grows) none in
          let m = plugs_in_parts laws port.0 d start new then.grows later.grows n.1 in
          let unbroken : NoFatalErrors port.0 start new = record {
            new_entries = later.grows.0;
            tape_is = later.grows.1;
            no_such_entry = none_since (IsFatalEntryOf port.0) port.0 old start new (laws.tape.growth_is_transitive old d start first.grows then.grows) (ap (λ (n : Notes). n.st_set_at) l.other_notes_are_kept ∙ s.tape_is_as_at_st_set) calm [] later.grows.0 later.grows.1;
          } in
          let c = later.changes (then.undue undue) in
          laws.runs_well (new.port port.0) (a.runs m.1 unbroken (s.link_stays_up_without_plug_events (first.linked n.0 linked) m.0)) running unflagged
          (c.serr_n_rises_by_plug_events m.1 (s.errors_change_by_disks.serr_n_rises_by_plug_events m.0 (r.stops_and_clears.serr_shows_only_new_plugs.serr_n_is_clear n.0)))
          (c.serr_x_rises_by_disk_coming (laws.tape.no_plug_event_no_disk port.0 start new m.1) (s.errors_change_by_disks.serr_x_rises_by_disk_coming (laws.tape.no_plug_event_no_disk port.0 d start m.0) (r.stops_and_clears.serr_shows_only_new_plugs.serr_x_is_clear (laws.tape.no_plug_event_no_disk port.0 old d n.0))))
          (a.raises unbroken (λ place from to. s.no_cause_rises place (r.stops_and_clears.no_cause_is_set place (omega (arith, to)))));
    }
