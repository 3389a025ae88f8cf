-- What trouble leads to, and what a look that tells of it says of the port when the turn began.
use Rattle.std.proofs.Common.{ℕ, Bool, ◌≡◌, ◌≢◌, ◌%◌, ◌⊎◌, ◌≤◌, ◌++◌, ◌||◌, true, false, List, [], ◌∷◌, append_assoc, inl, inr, refl, sym, ap, ◌∙◌, subst, arith, ⊎_elim}
use Rattle.std.specs.List.{All, Contains}
use Rattle.std.proofs.lemmas.Bool.{cases_Bool, cases_eq, false≢true, or_cases}
use Rattle.std.proofs.lemmas.List.Elements.{All-cons, All-nil, Contains-append_left}
use Rattle.ata_types.specs.declared.Port.{Port}
use Rattle.hba_regs.specs.Bits.{bit}
use Rattle.hba_regs.specs.declared.reg.PortReg.TheVariants.{Cmd, Is, Sctl, Ssts}
use Rattle.hba_regs.specs.declared.reg.Reg.TheVariants as reg
use Rattle.hba_regs.specs.declared.reg.Reg.TheVariants.{Ghc, Px}
use Rattle.adapter.specs.Access.{Access, is_named_cause, shown_interrupt}
use Rattle.adapter.specs.Access.Access.{Reading, Writing}
use Rattle.adapter.specs.Device.{Device}
use Rattle.adapter.specs.Rules.{IsOn}
use Rattle.adapter.specs.declared.tape.Entry.{Entry}
use Rattle.adapter.specs.declared.tape.Entry.TheVariants as entry
use Rattle.refinement.specs.Fragments.{TapeGrows}
use Rattle.refinement.specs.Errors.{IsFatalEntryOf, NoDiskComes}
use Rattle.refinement.specs.PortFacts.{IsFaultOf}
use Rattle.refinement.specs.PreservedParts.{IsPlugEvent, DoesNotWrite}
use Rattle.server_history.proofs.state.ListMembers.{contains_there}
use Rattle.driver_history.specs.Evidence.{TapeGainsEntry, ShowsLinkChange, ShowsFailure}
use Rattle.error_recovery.specs.Evidence.{ShowsFatal}
use Rattle.error_recovery.specs.declared.Recovered.{Recovered}
use Rattle.port_boot.specs.States.{StaysRunningIfUndisturbed}
use Rattle.port_control.specs.PortEvents.{TakesEvent, port_event_of}
use Rattle.port_control.specs.declared.events.PortEvent.{PortEvent}
use Rattle.port_control.specs.declared.events.PortEvent.TheVariants.{FatalError, TaskFileError, LinkChanged, NoEvent}
use Rattle.server_history.specs.Prerequisites.{PrerequisiteLaws}
use Rattle.server_history.specs.ErrorHandling.{NamesNoneAndIsNotRunning, TellsRecoveryIfTaskFileErrorElseNamesNone}
use Rattle.port_control.specs.declared.events.PortError.{PortError}
use Rattle.port_control.specs.declared.events.PortError.TheVariants as kinds
use Rattle.server_history.proofs.state.CallEvidence.{fatal_shows}
use Rattle.server_history.proofs.state.FirstMembers.{first_here}

-- ---- faults on the tape

is_fault : (port : ℕ) (e : Entry) → IsFaultOf port e ⊎ (IsFaultOf port e → ⊥)
is_fault port (entry.Fault x) = cases_eq x.port.0 port
is_fault port (entry.Unplug at) = inr (λ is. is)
is_fault port (entry.Plug at name) = inr (λ is. is)
is_fault port (entry.Move x) = inr (λ is. is)
is_fault port (entry.Clear x) = inr (λ is. is)
is_fault port (entry.Done x) = inr (λ is. is)
is_fault port (entry.Fatal x) = inr (λ is. is)

is_fatal : (port : ℕ) (e : Entry) → IsFatalEntryOf port e ⊎ (IsFatalEntryOf port e → ⊥)
is_fatal port (entry.Fatal at) = cases_eq at.0 port
is_fatal port (entry.Fault x) = inr (λ is. is)
is_fatal port (entry.Unplug at) = inr (λ is. is)
is_fatal port (entry.Plug at name) = inr (λ is. is)
is_fatal port (entry.Move x) = inr (λ is. is)
is_fatal port (entry.Clear x) = inr (λ is. is)
is_fatal port (entry.Done x) = inr (λ is. is)

pub is_plugging : (port : ℕ) (e : Entry) → IsPlugEvent port e ⊎ (IsPlugEvent port e → ⊥)
is_plugging port (entry.Unplug at) = cases_eq at.0 port
is_plugging port (entry.Plug at name) = cases_eq at.0 port
is_plugging port (entry.Fatal x) = inr (λ is. is)
is_plugging port (entry.Fault x) = inr (λ is. is)
is_plugging port (entry.Move x) = inr (λ is. is)
is_plugging port (entry.Clear x) = inr (λ is. is)
is_plugging port (entry.Done x) = inr (λ is. is)

-- of a kind that is told from others, an entry is among these, or none is
pub one_or_none : (Such : Entry → Type 0) → ((e : Entry) → Such e ⊎ (Such e → ⊥)) → (gained : List Entry) → ((e : Entry) × Contains gained e × Such e) ⊎ All (λ e. Such e → ⊥) gained
one_or_none Such told [] = inr (All-nil (λ e. Such e → ⊥))
one_or_none Such told (e ∷ gained) = ⊎_elim
    (λ (is : Such e). inl (e, first_here e gained, is))
    (λ none. ⊎_elim
    (λ found. inl (found.0, contains_there e gained found.0 found.1, found.2))
    (λ others. inr (All-cons (λ x. Such x → ⊥) e gained none others))
    (one_or_none Such told gained))
    (told e)

-- what the first of two stretches gained, both did
gains_more : (Such : Entry → Type 0) (old mid new : Device) → TapeGrows mid new → TapeGainsEntry Such old mid → TapeGainsEntry Such old new
gains_more Such old mid new grows g = record {
  new_entries = g.new_entries ++ grows.0;
  tape_is = grows.1 ∙ ap (λ (tape : List Entry). tape ++ grows.0) g.tape_is ∙ append_assoc old.tape g.new_entries grows.0;
  entry = g.entry;
  entry_is_new = Contains-append_left g.new_entries grows.0 g.entry g.entry_is_new;
  entry_is_of_kind = g.entry_is_of_kind;
}

-- ---- kinds of trouble

-- no command is named, and the port doesn't run, unless a command had failed
pub given_up : (port_error : PortError) (port : Port) (outstanding : ℕ) (queued : Bool) (result : Recovered) (accesses : List Access) (old new : Device)
    → TellsRecoveryIfTaskFileErrorElseNamesNone port_error port outstanding queued result accesses old new → port_error ≢ kinds.TaskFileError → NamesNoneAndIsNotRunning result
given_up kinds.TaskFileError port outstanding queued result accesses old new t other = absurd (other refl)
given_up kinds.FatalError port outstanding queued result accesses old new t other = t
given_up kinds.LinkChanged port outstanding queued result accesses old new t other = t
given_up kinds.TimedOut port outstanding queued result accesses old new t other = t

pub lost_or_not : (port_error : PortError) → (port_error ≡ kinds.LinkChanged) ⊎ (port_error ≢ kinds.LinkChanged)
lost_or_not kinds.LinkChanged = inl refl
lost_or_not kinds.TaskFileError = inr (λ e. let z : kinds.TaskFileError ≡ kinds.LinkChanged = e in absurd cc)
lost_or_not kinds.FatalError = inr (λ e. let z : kinds.FatalError ≡ kinds.LinkChanged = e in absurd cc)
lost_or_not kinds.TimedOut = inr (λ e. let z : kinds.TimedOut ≡ kinds.LinkChanged = e in absurd cc)

-- ---- what a look saw

module _ (laws : PrerequisiteLaws) (port : Port) (look : PortEvent) (old seen : Device) (l : TakesEvent port look old seen) (on : IsOn old) where
  its : (told : PortEvent) → look ≡ told → port_event_of l.causes l.status ≡ told
  its told is = sym l.result_is ∙ is

  -- a bit that was set when the turn began
  set_then : (place : ℕ) → (old.port port.0).is place ≡ true → (l.after_is_read.port port.0).is place ≡ true
  set_then place = laws.port_event_laws.access_keeps_causes port (Reading (Px port Is) l.causes) old l.after_is_read on.no_reset tt l.reads place

  shown_at : (place : ℕ) → is_named_cause place ≡ true → bit l.causes place ≡ shown_interrupt (l.after_is_read.port port.0) place
  shown_at = laws.port_event_laws.shown_after port Is l.causes old l.after_is_read on.no_reset l.reads

  looked : TapeGrows old seen
  looked =
      laws.port_event_laws.tape.growth_is_transitive old l.after_is_read seen (laws.port_event_laws.tape.access_grows (Reading (Px port Is) l.causes) old l.after_is_read l.reads)
      (laws.port_event_laws.tape.growth_is_transitive l.after_is_read l.cleared seen (laws.port_event_laws.tape.access_grows (Writing (Px port Is) l.causes) l.after_is_read l.cleared l.clears)
      (laws.port_event_laws.tape.growth_is_transitive l.cleared l.acknowledged seen (laws.port_event_laws.tape.access_grows (Writing reg.Is l.port_mask) l.cleared l.acknowledged l.acknowledges)
      (laws.port_event_laws.tape.access_grows (Reading (Px port Ssts) l.status) l.acknowledged seen l.reads_status)))

  grows : TapeGrows old l.after_is_read
  grows = laws.port_event_laws.tape.access_grows (Reading (Px port Is) l.causes) old l.after_is_read l.reads

  goes : StaysRunningIfUndisturbed port.0 old l.after_is_read
  goes = laws.runs_on_after_accesses port (Reading (Px port Is) l.causes ∷ []) old l.after_is_read on (l.after_is_read, l.reads, refl) (All-cons (DoesNotWrite Ghc) (Reading (Px port Is) l.causes) [] tt (All-nil (DoesNotWrite Ghc)))
      (All-cons (DoesNotWrite (Px port Sctl)) (Reading (Px port Is) l.causes) [] tt (All-nil (DoesNotWrite (Px port Sctl)))) (All-cons (DoesNotWrite (Px port Cmd)) (Reading (Px port Is) l.causes) [] tt (All-nil (DoesNotWrite (Px port Cmd))))

  -- ---- a command had failed

  module _ (failed : look ≡ TaskFileError) where
    -- TFES, and no fatal error
    told : (bit l.causes 30 ≡ true) × ((place : ℕ) → 27 ≤ place → place ≤ 29 → bit l.causes place ≡ false)
    told = let t = laws.look_laws.tfes_event_bits l.causes l.status (its TaskFileError failed) in (t.0, t.3)

    -- no fatal error was shown when the turn began
    pub no_fatal : ShowsFatal (old.port port.0) → ⊥
    no_fatal f = let p = old.port port.0 in ⊎_elim
        (λ a. false≢true (sym (told.1 27 (omega arith) (omega arith)) ∙ shown_at 27 refl ∙ set_then 27 a))
        (λ more. ⊎_elim
        (λ a. false≢true (sym (told.1 28 (omega arith) (omega arith)) ∙ shown_at 28 refl ∙ set_then 28 a))
        (λ a. false≢true (sym (told.1 29 (omega arith) (omega arith)) ∙ shown_at 29 refl ∙ set_then 29 a))
        (or_cases (p.is 28) (p.is 29) more))
        (or_cases (p.is 27) (p.is 28 || p.is 29) (fatal_shows p f))

    -- TFES was shown then, or a fault came before PxIS was read
    pub fault_shown : (new : Device) → TapeGrows l.after_is_read new → ((old.port port.0).is 30 ≡ true) ⊎ TapeGainsEntry (IsFaultOf port.0) old new
    fault_shown new later = ⊎_elim
        (λ (is : (old.port port.0).is 30 ≡ true). inl is)
        (λ (clear : (old.port port.0).is 30 ≡ false). inr (⊎_elim
        (λ found. gains_more (IsFaultOf port.0) old l.after_is_read new later (record { new_entries = grows.0; tape_is = grows.1; entry = found.0; entry_is_new = found.1; entry_is_of_kind = found.2 }))
        (λ none. absurd (false≢true (sym (goes.bits_rise_with_cause.error_bits_rise_by_errors.fault (record { new_entries = grows.0; tape_is = grows.1; no_such_entry = none }) clear) ∙ sym (shown_at 30 refl) ∙ told.0)))
        (one_or_none (IsFaultOf port.0) (is_fault port.0) grows.0)))
        (cases_Bool ((old.port port.0).is 30))

  -- ---- the link or the host's bus had failed

  module _ (broken : look ≡ FatalError) where
    -- one of those three was shown then, or a fatal error came before PxIS was read
    pub fatal_shown : (new : Device) → TapeGrows l.after_is_read new → ShowsFatal (old.port port.0) ⊎ TapeGainsEntry (IsFatalEntryOf port.0) old new
    fatal_shown new later = ⊎_elim (at 28 (omega arith) (omega arith) refl refl) (λ more. ⊎_elim (at 29 (omega arith) (omega arith) refl refl) (at 27 (omega arith) (omega arith) refl refl) more)
        (laws.look_laws.fatal_event_bits l.causes l.status (its FatalError broken)).0
      where
        at : (place : ℕ) → 27 ≤ place → place ≤ 29 → is_named_cause place ≡ true → shown_interrupt (l.after_is_read.port port.0) place ≡ (l.after_is_read.port port.0).is place → bit l.causes place ≡ true
            → ShowsFatal (old.port port.0) ⊎ TapeGainsEntry (IsFatalEntryOf port.0) old new
        at place from to cause plain set = ⊎_elim
            (λ (is : (old.port port.0).is place ≡ true). inl (record { place = place; from = from; to = to; cause_is_set = is }))
            (λ (clear : (old.port port.0).is place ≡ false). inr (⊎_elim
            (λ found. gains_more (IsFatalEntryOf port.0) old l.after_is_read new later (record { new_entries = grows.0; tape_is = grows.1; entry = found.0; entry_is_new = found.1; entry_is_of_kind = found.2 }))
            (λ none. absurd (false≢true (sym (goes.bits_rise_with_cause.error_bits_rise_by_errors.fatal (record { new_entries = grows.0; tape_is = grows.1; no_such_entry = none }) place from to clear) ∙ sym plain ∙ sym (shown_at place cause) ∙ set)))
            (one_or_none (IsFatalEntryOf port.0) (is_fatal port.0) grows.0)))
            (cases_Bool ((old.port port.0).is place))

  -- ---- no loss

  module _ (not_lost : look ≢ LinkChanged) where
    -- the link told of no change when the turn began
    pub no_change : ShowsLinkChange (old.port port.0) → ⊥
    no_change change = not_lost (laws.look_laws.look_tells_shown_change port look old seen on l change)

    -- nor was a device missing, unless a disk came
    pub not_missing : (new : Device) → TapeGrows seen new → (old.port port.0).link_due ≡ false → (old.port port.0).ssts_det ≢ 3 → NoDiskComes port.0 old new → ⊥
    not_missing new later undue missing none =
        not_lost (laws.look_laws.look_tells_missing_device_if_none_comes port look old seen on l missing undue (laws.port_event_laws.tape.no_disk_comes_in_parts port.0 old seen new looked.0 later.0 looked.1 later.1 none).0)

  -- where it told of no loss, a device showed
  pub shows_link : look ≢ LinkChanged → l.status % 16 ≡ 3
  shows_link not_lost = by look refl
    where
      by : (told : PortEvent) → look ≡ told → l.status % 16 ≡ 3
      by TaskFileError is = (laws.look_laws.tfes_event_bits l.causes l.status (its TaskFileError is)).4
      by FatalError is = (laws.look_laws.fatal_event_bits l.causes l.status (its FatalError is)).3
      by NoEvent is = (laws.look_laws.no_event_bits l.causes l.status (its NoEvent is)).1
      by LinkChanged is = absurd (not_lost is)

  -- and a failure was shown when the turn began, or came
  pub errors_shown : (look ≡ TaskFileError) ⊎ (look ≡ FatalError) → (new : Device) → TapeGrows l.after_is_read new → ShowsFailure (old.port port.0) ⊎ (TapeGainsEntry (IsFaultOf port.0) old new ⊎ TapeGainsEntry (IsFatalEntryOf port.0) old new)
  errors_shown error new later = ⊎_elim
      (λ failed. ⊎_elim (λ is. inl (inr is)) (λ came. inr (inl came)) (fault_shown failed new later))
      (λ broken. ⊎_elim (λ is. inl (inl is)) (λ came. inr (inr came)) (fatal_shown broken new later))
      error

  -- ---- a loss

  -- it was there to tell when the turn began, or a disk went or came
  pub loss_shown : look ≡ LinkChanged → (old.port port.0).link_due ≡ false → (new : Device) → TapeGrows seen new → ShowsLinkChange (old.port port.0) ⊎ (((old.port port.0).ssts_det ≢ 3) ⊎ TapeGainsEntry (IsPlugEvent port.0) old new)
  loss_shown lost undue new later = ⊎_elim
      (λ change. inl change)
      (λ more. inr (⊎_elim (λ out. inl out) (λ some. inr (⊎_elim
      (λ found. gains_more (IsPlugEvent port.0) old seen new later (record { new_entries = looked.0; tape_is = looked.1; entry = found.0; entry_is_new = found.1; entry_is_of_kind = found.2 }))
      (λ none. absurd (some (record { new_entries = looked.0; tape_is = looked.1; no_such_entry = none })))
      (one_or_none (IsPlugEvent port.0) (is_plugging port.0) looked.0))) more))
      (laws.look_laws.link_changed_means_loss port old seen on (subst (λ (told : PortEvent). TakesEvent port told old seen) lost l) undue)
