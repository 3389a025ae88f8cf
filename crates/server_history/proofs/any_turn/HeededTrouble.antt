-- A port's turn heeds trouble that comes: a command that fails, a fatal error, or a disk that goes or comes. Its look told it, or it is shown still.
use Rattle.std.proofs.Common.{ℕ, ◌≡◌, ◌≤◌, ◌++◌, true, false, List, ◌∷◌, inl, inr, refl, sym, ◌∙◌, subst, ⊎_elim, arith}
use Rattle.std.specs.List.{All, Contains}
use Rattle.std.proofs.lemmas.Bool.{false≢true}
use Rattle.std.proofs.lemmas.List.{append_cancel_left}
use Rattle.std.proofs.lemmas.List.Elements.{All-contains, Contains-append_right}
use Rattle.ata_types.specs.declared.Port.{Port}
use Rattle.ata_types.specs.declared.request.Reply.{Reply}
use Rattle.hba_regs.specs.Bits.{bit}
use Rattle.hba_regs.specs.declared.reg.Reg.TheVariants.{Px}
use Rattle.hba_regs.specs.declared.reg.PortReg.TheVariants.{Is, Ci, Sact}
use Rattle.adapter.specs.Access.{Access}
use Rattle.adapter.specs.Access.Access.{Reading, Writing, Loading, Storing}
use Rattle.adapter.specs.Device.{Device}
use Rattle.adapter.specs.Rules.{IsOn}
use Rattle.adapter.specs.declared.tape.Entry.{Entry}
use Rattle.refinement.specs.Fragments.{IsDrivenBy, AccessesNoOtherPort}
use Rattle.refinement.specs.Errors.{IsFatalEntryOf}
use Rattle.refinement.specs.PortFacts.{IsFaultOf, ShowsNoTrouble}
use Rattle.refinement.specs.PreservedParts.{IsPlugEvent, DoesNotWrite}
use Rattle.server_history.proofs.state.DrivenAccesses.{by_none, by_then, driven_as}
use Rattle.block_machine.specs.Histories.{JointState}
use Rattle.block_machine.specs.Ports.{Evidence, Ports}
use Rattle.driver_history.specs.Evidence.{TapeGainsEntry, ShowsLinkChange, ShowsFailure}
use Rattle.driver_history.specs.Histories.{LosesNoPortError}
use Rattle.error_recovery.specs.Evidence.{GainsSinceStart, ShowsFatal}
use Rattle.ncq.specs.Masks.{ReadsCiOrSact}
use Rattle.ncq.specs.Batches.{IsCommandIssueAccess}
use Rattle.port_control.specs.PortEvents.{IsPxisSstsOrOwnIsAccess}
use Rattle.port_control.specs.ServiceAccesses.{WritesOnlyHbaIsCiSactOrOtherPxIs}
use Rattle.port_control.specs.declared.events.PortEvent.TheVariants.{NoEvent}
use Rattle.slots.specs.SlotUses.{PortSlots}
use Rattle.server_history.specs.Prerequisites.{PrerequisiteLaws}
use Rattle.server_history.specs.IssuingAndAnswering.{PollsUsedSlots, IsEmptyMask, PollsInTurnWithoutEvent}
use Rattle.server_history.proofs.state.TurnAccesses.{none_or_some}
use Rattle.server_history.proofs.state.TransferAccesses.{issuing_serves}
use Rattle.server_history.proofs.any_turn.ShownTrouble.{fatal_unless, set_unless}

-- ---- what the tape gained

-- a kind of entry that none of those gained is of
pub gains_none : (Such : Entry → Type 0) (old new : Device) (gained : List Entry) → new.tape ≡ old.tape ++ gained → All (λ e. Such e → ⊥) gained → TapeGainsEntry Such old new → ⊥
gains_none Such old new gained tape none g =
    let same : g.new_entries ≡ gained = append_cancel_left old.tape g.new_entries gained (sym g.tape_is ∙ tape) in
    All-contains (λ e. Such e → ⊥) gained g.entry none (subst (λ (xs : List Entry). Contains xs g.entry) same g.entry_is_new) g.entry_is_of_kind

-- what was gained since ST was set was gained
pub gained_running : (Such : Entry → Type 0) (port : ℕ) (old new : Device) → GainsSinceStart Such port old new → TapeGainsEntry Such old new
gained_running Such port old new g = record {
  new_entries = g.before ++ (g.entry ∷ g.later);
  tape_is = g.tape_grows;
  entry = g.entry;
  entry_is_new = Contains-append_right g.before (g.entry ∷ g.later) g.entry (0, omega arith, refl);
  entry_is_of_kind = g.is_of_kind;
}

-- ---- accesses that are ordinary

finding_ordinary : (port : Port) (access : Access) → ReadsCiOrSact port access → WritesOnlyHbaIsCiSactOrOtherPxIs port access
finding_ordinary port (Reading r v) here = (tt, tt)
finding_ordinary port (Writing r v) here = absurd here
finding_ordinary port (Loading at bytes) here = absurd here
finding_ordinary port (Storing at bytes) here = absurd here

issuing_spares : (port : Port) (access : Access) → IsCommandIssueAccess port access → DoesNotWrite (Px port Is) access
issuing_spares port (Writing r v) here = ⊎_elim
    (λ (is : r ≡ Px port Sact). λ q. let z : Px port Sact ≡ Px port Is = sym is ∙ q in absurd cc)
    (λ (is : r ≡ Px port Ci). λ q. let z : Px port Ci ≡ Px port Is = sym is ∙ q in absurd cc)
    here
issuing_spares port (Storing at bytes) here = tt
issuing_spares port (Loading at bytes) here = tt
issuing_spares port (Reading r v) here = tt

issuing_ordinary : (port : Port) (access : Access) → IsCommandIssueAccess port access → WritesOnlyHbaIsCiSactOrOtherPxIs port access
issuing_ordinary port access here = (issuing_serves port access here, issuing_spares port access here)

module _ (laws : PrerequisiteLaws) where
  module _ (port : Port) (slots : PortSlots) (replies : List Reply) (old : JointState Device) (new : Device) (turn : PollsInTurnWithoutEvent port slots replies old.device new) (on : IsOn old.device) where
    -- what comes after a look that told nothing
    pub later_driven : turn.look ≡ NoEvent → IsDrivenBy (WritesOnlyHbaIsCiSactOrOtherPxIs port) turn.device_after_look new
    later_driven calm = ⊎_elim
        (λ (none : IsEmptyMask c.mask). subst (IsDrivenBy (WritesOnlyHbaIsCiSactOrOtherPxIs port) turn.device_after_look) (sym (c.none_used_reads_nothing none).1) (by_none (WritesOnlyHbaIsCiSactOrOtherPxIs port) turn.device_after_look))
        (λ some.
        let k = c.polls_slots (λ none. false≢true (sym (none some.0 some.1) ∙ some.2)) in
        by_then laws (driven_as (ReadsCiOrSact port) (WritesOnlyHbaIsCiSactOrOtherPxIs port) turn.device_after_look k.device_after_read (finding_ordinary port) k.reads.driven)
        (driven_as (IsCommandIssueAccess port) (WritesOnlyHbaIsCiSactOrOtherPxIs port) k.device_after_read new (issuing_ordinary port) k.only_issuing_follows))
        (none_or_some 32 c.mask)
      where
        c : PollsUsedSlots port slots replies turn.device_after_look new
        c = turn.polls_used_slots

    seen_on : IsOn turn.device_after_look
    seen_on = laws.one_port_keeps_adapter_on port old.device turn.device_after_look on (driven_as (IsPxisSstsOrOwnIsAccess port) (AccessesNoOtherPort port) old.device turn.device_after_look (laws.look_laws.look_access_is_of_port port) (laws.look_laws.look_is_driven_by_its_accesses port turn.look old.device turn.device_after_look turn.takes_event))

    module _ (calm : turn.look ≡ NoEvent) where
      -- it showed no trouble, then
      pub shown_none : ShowsNoTrouble (old.device.port port.0)
      shown_none = (laws.look_laws.no_event_means_undisturbed port turn.look old.device turn.device_after_look on turn.takes_event calm).0

      -- what was read told of no error
      told_none : (place : ℕ) → 27 ≤ place → place ≤ 30 → bit turn.takes_event.causes place ≡ false
      told_none = (laws.look_laws.no_event_bits turn.takes_event.causes turn.takes_event.status (sym turn.takes_event.result_is ∙ calm)).0.bits_27_to_30_are_clear

      -- so a fault that came is shown
      fault_shown : TapeGainsEntry (IsFaultOf port.0) old.device new → (new.port port.0).is 30 ≡ true
      fault_shown g = set_unless ((new.port port.0).is 30) (λ clear.
          let late = laws.look_laws.pxis_spared_hides_no_fault port turn.device_after_look new seen_on (later_driven calm) clear in
          let early = laws.look_laws.look_hides_no_fault port turn.look old.device turn.device_after_look on turn.takes_event (told_none 30 (omega arith) (omega arith)) late.0 in
          let none = laws.port_event_laws.tape.no_faults_transitive port.0 old.device turn.device_after_look new early.1 late.1 in
          gains_none (IsFaultOf port.0) old.device new none.new_entries none.tape_is none.no_such_entry g)

      -- and so is a fatal error
      fatal_shown : TapeGainsEntry (IsFatalEntryOf port.0) old.device new → ShowsFatal (new.port port.0)
      fatal_shown g = fatal_unless (new.port port.0) (λ clear.
          let late = laws.look_laws.pxis_spared_hides_no_fatal port turn.device_after_look new seen_on (later_driven calm) clear in
          let early = laws.look_laws.look_hides_no_fatal port turn.look old.device turn.device_after_look on turn.takes_event (λ place low high. told_none place low (omega (arith, high))) late.0 in
          let none = laws.port_event_laws.tape.no_fatal_errors_transitive port.0 old.device turn.device_after_look new early.1 late.1 in
          gains_none (IsFatalEntryOf port.0) old.device new none.new_entries none.tape_is none.no_such_entry g)

      -- and so is a disk that went or came
      disk_shown : TapeGainsEntry (IsPlugEvent port.0) old.device new → (new.port port.0).serr_n ≡ true
      disk_shown g = set_unless (new.port port.0).serr_n (λ clear.
          let late = laws.look_laws.pxis_spared_hides_no_plug_event port turn.device_after_look new seen_on (later_driven calm) clear in
          let early = laws.look_laws.look_hides_no_plug_event port turn.look old.device turn.device_after_look on turn.takes_event late.0 in
          let none = laws.port_event_laws.tape.no_plug_events_transitive port.0 old.device turn.device_after_look new early.1 late.1 in
          gains_none (IsPlugEvent port.0) old.device new none.new_entries none.tape_is none.no_such_entry g)

      -- no failure was shown when it began
      pub never_failed : ShowsFailure (old.device.port port.0) → ⊥
      never_failed (inl fatal) = let high = fatal.to in false≢true (sym (shown_none.bits_27_to_30_are_clear fatal.place fatal.from (omega (arith, high))) ∙ fatal.cause_is_set)
      never_failed (inr fault) = false≢true (sym (shown_none.bits_27_to_30_are_clear 30 (omega arith) (omega arith)) ∙ fault)

      -- nor a change of its link
      pub never_changed : ShowsLinkChange (old.device.port port.0) → ⊥
      never_changed (inl n) = false≢true (sym shown_none.serr_n_is_clear ∙ n)
      never_changed (inr x) = false≢true (sym shown_none.serr_x_is_clear ∙ x)

      pub trouble_shown : (evidence : Evidence) (ports : Ports) → LosesNoPortError evidence old ports new port
      trouble_shown evidence ports = record {
        ready_errors_are_handled_or_shown = λ ready port_error. inr (⊎_elim (λ shows. absurd (never_failed shows)) (λ gains. ⊎_elim (λ g. inr (fault_shown g)) (λ g. inl (fatal_shown g)) gains) port_error);
        changes_are_handled_or_shown_unless_dead = λ tended port_error. inr (⊎_elim (λ shows. absurd (never_changed shows)) (λ g. inl (disk_shown g)) port_error);
        ready_shows_fault_since_start = λ ready g. fault_shown (gained_running (IsFaultOf port.0) port.0 old.device new g);
        ready_shows_fatal_since_start = λ ready g. fatal_shown (gained_running (IsFatalEntryOf port.0) port.0 old.device new g);
        ready_shows_plug_event_since_start = λ ready g. disk_shown (gained_running (IsPlugEvent port.0) port.0 old.device new g);
      }
