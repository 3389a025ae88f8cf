-- What stands behind a port's evidence in its own turn stands behind it in the whole call.
use Rattle.std.proofs.Common.{ℕ, ◌≡◌, ◌≢◌, ◌⊎◌, ◌++◌, true, false, List, [], ◌∷◌, refl, sym, ap, ◌∙◌, subst, inl, inr, ⊎_elim, append_assoc, arith, drop}
use Rattle.std.specs.List.{All, Contains}
use Rattle.std.proofs.lemmas.Bool.{cases_Bool, cases_eq, false≢true}
use Rattle.std.proofs.lemmas.List.Elements.{All-append, All-cons, All-head, All-nil, All-tail, All-weaker, Contains-append_left, Contains-append_right}
use Rattle.ata_types.specs.declared.Port.{Port}
use Rattle.ata_types.specs.declared.PortState.TheVariants.{Ready}
use Rattle.hba_regs.specs.declared.reg.PortReg.TheVariants.{Cmd, Sctl}
use Rattle.adapter.specs.Access.{Access, Does, DoesAll}
use Rattle.adapter.specs.Device.{Device}
use Rattle.adapter.specs.Rules.{IsOn}
use Rattle.adapter.specs.declared.access.DeviceStep.{DeviceStep}
use Rattle.adapter.specs.declared.tape.Entry.{Entry}
use Rattle.adapter.specs.declared.tape.Entry.TheVariants as entry
use Rattle.adapter.specs.declared.tape.Fault as tape_fault
use Rattle.adapter.specs.declared.command.Operation.TheVariants.{ReadLog}
use Rattle.refinement.specs.Fragments.{IsDrivenBy, AccessesNoOtherPort, TapeGrows, OnlyDeviceChangesPort, GainsNoMove}
use Rattle.refinement.specs.Slots.{IsMove}
use Rattle.refinement.specs.Errors.{LinkErrorsRiseByDisks, ErrorBitsRiseByErrors, IsFatalEntryOf}
use Rattle.refinement.specs.PortFacts.{IsFaultOf}
use Rattle.refinement.specs.PreservedParts.{ComesUp, IsPlugEvent, NoPlugEvents, SameLink}
use Rattle.block_machine.specs.Events.{AbstractCall, AbstractState, AbstractCallResult}
use Rattle.block_machine.specs.Histories.{JointState}
use Rattle.block_machine.specs.Ports.{Ports, SamePort, Evidence, IsStoppedOrStuck}
use Rattle.driver_history.specs.Evidence.{TapeGainsEntry, ReadyPortShowedOrHadFailure, ReadyPortShowedOrHadFatalError, IsEvidencedOf, ReadyPortShowedLossOrHadPlugEvent, HasEvidenceOfLoss, ShowsLinkChange, ShowedLinkChangeOrNoDeviceAndNoneCame}
use Rattle.error_recovery.specs.Evidence.{BringsLastLogPage, HasFailed, ShowsFatal}
use Rattle.driver_history.specs.Laws.{AccessLaws}
use Rattle.driver_history.specs.PortTurn.{HasTurnIn, KeepsToAnotherPort, EvidenceAgreesOn, call_accesses}
use Rattle.driver_history.specs.AccessTrace.{DoesNotWriteCmd, WritesNeitherCmdNorSctl}
use Rattle.driver_history.proofs.Errors.{AreShown, TroubleKind, access_shows, change_still, failure_still, fatals, register_of, shown_more, shown_none}

-- ---- entries of a kind, or none

-- the tape gained one of these, or none
unfoldable pub GainsOrNone : (Is : Entry → Type 0) (old new : Device) → Type 0
GainsOrNone Is old new = TapeGainsEntry Is old new ⊎ ((gained : List Entry) × (new.tape ≡ old.tape ++ gained) × All (λ e. Is e → ⊥) gained)

one_or_none : (Is : Entry → Type 0) → ((e : Entry) → Is e ⊎ (Is e → ⊥)) → (gained : List Entry) → ((e : Entry) × Contains gained e × Is e) ⊎ All (λ e. Is e → ⊥) gained
one_or_none Is decides [] = inr (All-nil (λ e. Is e → ⊥))
one_or_none Is decides (e ∷ gained) = ⊎_elim
    (λ is. inl (e, Contains-append_left (e ∷ []) gained e (0, omega arith, refl), is))
    (λ none. ⊎_elim
    (λ found. inl (found.0, Contains-append_right (e ∷ []) gained found.0 found.1, found.2))
    (λ others. inr (All-cons (λ x. Is x → ⊥) e gained none others))
    (one_or_none Is decides gained))
    (decides e)

pub gains_or_none : (Is : Entry → Type 0) → ((e : Entry) → Is e ⊎ (Is e → ⊥)) → (old new : Device) → TapeGrows old new → GainsOrNone Is old new
unfolding GainsOrNone
gains_or_none Is decides old new grows = ⊎_elim
    (λ found. inl (record { new_entries = grows.0; tape_is = grows.1; entry = found.0; entry_is_new = found.1; entry_is_of_kind = found.2 }))
    (λ none. inr (grows.0, grows.1, none))
    (one_or_none Is decides grows.0)

is_plugging : (port : ℕ) (e : Entry) → IsPlugEvent port e ⊎ (IsPlugEvent port e → ⊥)
is_plugging port (entry.Unplug at) = cases_eq at.0 port
is_plugging port (entry.Plug at name) = cases_eq at.0 port
is_plugging port (entry.Move x) = inr (λ is. is)
is_plugging port (entry.Clear x) = inr (λ is. is)
is_plugging port (entry.Done x) = inr (λ is. is)
is_plugging port (entry.Fault x) = inr (λ is. is)
is_plugging port (entry.Fatal x) = inr (λ is. is)

pub is_fault : (port : ℕ) (e : Entry) → IsFaultOf port e ⊎ (IsFaultOf port e → ⊥)
is_fault port (entry.Fault x) = cases_eq x.port.0 port
is_fault port (entry.Unplug at) = inr (λ is. is)
is_fault port (entry.Plug at name) = inr (λ is. is)
is_fault port (entry.Move x) = inr (λ is. is)
is_fault port (entry.Clear x) = inr (λ is. is)
is_fault port (entry.Done x) = inr (λ is. is)
is_fault port (entry.Fatal x) = inr (λ is. is)

is_fatal : (port : ℕ) (e : Entry) → IsFatalEntryOf port e ⊎ (IsFatalEntryOf port e → ⊥)
is_fatal port (entry.Fatal at) = cases_eq at.0 port
is_fatal port (entry.Unplug at) = inr (λ is. is)
is_fatal port (entry.Plug at name) = inr (λ is. is)
is_fatal port (entry.Move x) = inr (λ is. is)
is_fatal port (entry.Clear x) = inr (λ is. is)
is_fatal port (entry.Done x) = inr (λ is. is)
is_fatal port (entry.Fault x) = inr (λ is. is)

-- a disk of the port went or came, or none did
pub plugged_or_not : (port : ℕ) (old new : Device) → TapeGrows old new → TapeGainsEntry (IsPlugEvent port) old new ⊎ NoPlugEvents port old new
unfolding GainsOrNone
plugged_or_not port old new grows = ⊎_elim (λ g. inl g) (λ none. inr (record { new_entries = none.0; tape_is = none.1; no_such_entry = none.2 })) (gains_or_none (IsPlugEvent port) (is_plugging port) old new grows)

-- what a part of a call gained, the call did
pub gains_within : (Is : Entry → Type 0) (old start end new : Device) → TapeGrows old start → TapeGrows end new → TapeGainsEntry Is start end → TapeGainsEntry Is old new
gains_within Is old start end new first last g = record {
  new_entries = first.0 ++ (g.new_entries ++ last.0);
  tape_is = last.1 ∙ ap (λ (tape : List Entry). tape ++ last.0) (g.tape_is ∙ ap (λ (tape : List Entry). tape ++ g.new_entries) first.1)
      ∙ append_assoc (old.tape ++ first.0) g.new_entries last.0 ∙ append_assoc old.tape first.0 (g.new_entries ++ last.0);
  entry = g.entry;
  entry_is_new = Contains-append_right first.0 (g.new_entries ++ last.0) g.entry (Contains-append_left g.new_entries last.0 g.entry g.entry_is_new);
  entry_is_of_kind = g.entry_is_of_kind;
}

-- ---- accesses of other ports

module _ (laws : AccessLaws) (port : Port) where
  -- What is left of the port by accesses of others: the adapter is on; the port is left to its device; its errors rise by errors alone; and its trouble is shown.
  pub record IsLeft (old new : Device) : Type 0 where
    pub on : IsOn new
    pub leaves : OnlyDeviceChangesPort (old.port port.0) (new.port port.0)
    pub grows : TapeGrows old new
    pub errors : ErrorBitsRiseByErrors port.0 old new
    pub undue : (old.port port.0).link_due ≡ false → (new.port port.0).link_due ≡ false
    pub disks : (old.port port.0).link_due ≡ false → LinkErrorsRiseByDisks port.0 old new
    pub shows : (old.port port.0).link_due ≡ false → NoPlugEvents port.0 old new → (new.port port.0).ssts_det ≡ (old.port port.0).ssts_det
    pub shown : NoPlugEvents port.0 old new → (old.port port.0).ssts_det ≡ 3 → (new.port port.0).ssts_det ≡ 3
    pub fresh : (old.port port.0).link_due ≡ false → NoPlugEvents port.0 old new → (new.port port.0).fresh ≡ (old.port port.0).fresh
    pub trouble_shown : (kind : TroubleKind) → AreShown kind port.0 old new

  pub errors_none : (d : Device) → ErrorBitsRiseByErrors port.0 d d
  errors_none d = record { fatal = λ none place low high is. is; fault = λ none is. is }

  pub errors_more : (old mid new : Device) → TapeGrows old mid → TapeGrows mid new → ErrorBitsRiseByErrors port.0 old mid → ErrorBitsRiseByErrors port.0 mid new → ErrorBitsRiseByErrors port.0 old new
  errors_more old mid new first last a b = record {
    fatal = λ none place low high is.
        let parts = laws.tape.no_fatal_errors_in_parts port.0 old mid new first.0 last.0 first.1 last.1 none in
        b.fatal parts.1 place low high (a.fatal parts.0 place low high is);
    fault = λ none is.
        let parts = laws.tape.no_faults_in_parts port.0 old mid new first.0 last.0 first.1 last.1 none in
        b.fault parts.1 (a.fault parts.0 is);
  }

  one_left : (access : Access) (old new : Device) → IsOn old → KeepsToAnotherPort port access → Does access old new → IsLeft old new
  one_left access old new on (other, apart, of) does =
      let driven : IsDrivenBy (AccessesNoOtherPort other) old new = record { accesses = access ∷ []; all_are_done = (new, does, refl); accesses_are_of_kind = All-cons (AccessesNoOtherPort other) access [] of (All-nil (AccessesNoOtherPort other)) } in
      record {
        on = laws.one_port_keeps_adapter_on other old new on driven;
        leaves = laws.other_ports_are_left other port.0 old new apart on driven;
        grows = laws.tape.access_grows access old new does;
        errors = laws.access_changes_by_errors port access old new does;
        undue = λ undue. laws.tape.access_but_sctl_write_makes_no_link_due port access old new on.no_reset undue (laws.one_port_spares_registers other port Sctl apart access of) does;
        disks = λ undue. laws.tape.access_raises_link_errors_by_disks port access old new on.no_reset undue does;
        shows = λ undue none. ⊎_elim
            (λ (same : SameLink (old.port port.0) (new.port port.0)). same.det)
            (λ (up : ComesUp (old.port port.0) (new.port port.0)). absurd (false≢true (sym undue ∙ up.link_was_due)))
            (laws.link_is_same_or_comes_up_without_plugs port access old new on.no_reset (laws.one_port_spares_registers other port Sctl apart access of) does none);
        shown = λ none shows. ⊎_elim
            (λ (same : SameLink (old.port port.0) (new.port port.0)). same.det ∙ shows)
            (λ (up : ComesUp (old.port port.0) (new.port port.0)). up.det)
            (laws.link_is_same_or_comes_up_without_plugs port access old new on.no_reset (laws.one_port_spares_registers other port Sctl apart access of) does none);
        fresh = λ undue none. ⊎_elim
            (λ (same : SameLink (old.port port.0) (new.port port.0)). same.fresh)
            (λ (up : ComesUp (old.port port.0) (new.port port.0)). absurd (false≢true (sym undue ∙ up.link_was_due)))
            (laws.link_is_same_or_comes_up_without_plugs port access old new on.no_reset (laws.one_port_spares_registers other port Sctl apart access of) does none);
        trouble_shown = λ kind. access_shows laws kind port access old new on.no_reset (laws.one_port_spares_registers other port (register_of kind) apart access of) does;
      }

  pub others_leave : (accesses : List Access) (old new : Device) → IsOn old → DoesAll accesses old new → All (KeepsToAnotherPort port) accesses → IsLeft old new
  others_leave [] old new on same of = subst (IsLeft old) (sym same) (record {
    on = on;
    leaves = laws.leaves_port_is_reflexive (old.port port.0);
    grows = laws.tape.growth_is_reflexive old;
    errors = errors_none old;
    undue = λ undue. undue;
    disks = λ undue. laws.tape.link_errors_reflexive port.0 old;
    shows = λ undue none. refl;
    shown = λ none shows. shows;
    fresh = λ undue none. refl;
    trouble_shown = λ kind. shown_none kind port.0 old;
  })
  others_leave (access ∷ accesses) old new on (mid, does, rest) of =
      let a = one_left access old mid on (All-head (KeepsToAnotherPort port) access accesses of) does in
      let b = others_leave accesses mid new a.on rest (All-tail (KeepsToAnotherPort port) access accesses of) in
      record {
        on = b.on;
        leaves = laws.leaves_port_is_transitive (old.port port.0) (mid.port port.0) (new.port port.0) a.leaves b.leaves;
        grows = laws.tape.growth_is_transitive old mid new a.grows b.grows;
        errors = errors_more old mid new a.grows b.grows a.errors b.errors;
        undue = λ undue. b.undue (a.undue undue);
        disks = λ undue. laws.tape.link_errors_transitive port.0 old mid new a.grows b.grows (a.disks undue) (b.disks (a.undue undue));
        shows = λ undue none.
            let parts = laws.tape.no_plug_events_in_parts port.0 old mid new a.grows.0 b.grows.0 a.grows.1 b.grows.1 none in
            b.shows (a.undue undue) parts.1 ∙ a.shows undue parts.0;
        shown = λ none shows.
            let parts = laws.tape.no_plug_events_in_parts port.0 old mid new a.grows.0 b.grows.0 a.grows.1 b.grows.1 none in
            b.shown parts.1 (a.shown parts.0 shows);
        fresh = λ undue none.
            let parts = laws.tape.no_plug_events_in_parts port.0 old mid new a.grows.0 b.grows.0 a.grows.1 b.grows.1 none in
            b.fresh (a.undue undue) parts.1 ∙ a.fresh undue parts.0;
        trouble_shown = λ kind. shown_more kind port.0 old mid new a.grows b.grows (a.trouble_shown kind) (b.trouble_shown kind);
      }

  -- they write neither PxCMD nor PxSCTL of it
  pub others_leave_engine : (accesses : List Access) → All (KeepsToAnotherPort port) accesses → All (WritesNeitherCmdNorSctl port) accesses
  others_leave_engine accesses of =
      All-weaker (KeepsToAnotherPort port) (WritesNeitherCmdNorSctl port) (λ access x. (laws.one_port_spares_registers x.0 port Cmd x.1 access x.2, laws.one_port_spares_registers x.0 port Sctl x.1 access x.2)) accesses of

  -- the tape gains over accesses
  pub grows_over : (accesses : List Access) (old new : Device) → DoesAll accesses old new → TapeGrows old new
  grows_over [] old new same = subst (TapeGrows old) (sym same) (laws.tape.growth_is_reflexive old)
  grows_over (access ∷ accesses) old new (mid, does, rest) = laws.tape.growth_is_transitive old mid new (laws.tape.access_grows access old mid does) (grows_over accesses mid new rest)

  -- ---- a turn in a call

  -- a loss that the port shows in the call it shows in its turn
  pub loss_then : (old new : Device) → IsOn old → (old.port port.0).link_due ≡ false → (t : HasTurnIn port old new) → ShowedLinkChangeOrNoDeviceAndNoneCame port old new → ShowedLinkChangeOrNoDeviceAndNoneCame port t.start t.end
  loss_then old new on undue t loss = ⊎_elim
      (λ change. inl (change_still port.0 old t.start first.trouble_shown change))
      (λ missing.
      let a = laws.tape.no_disk_comes_in_parts port.0 old t.start new first.grows.0 since.0 first.grows.1 since.1 missing.1 in
      let b = laws.tape.no_disk_comes_in_parts port.0 t.start t.end new middle.0 last.0 middle.1 last.1 a.1 in
      inr ((λ there. missing.0 ((first.disks undue).det_3_was_3_and_none_went_if_none_comes a.0 there).0), b.0))
      loss
    where
      first : IsLeft old t.start
      first = others_leave t.before old t.start on t.leads_to_start t.earlier_are_of_others

      middle : TapeGrows t.start t.end
      middle = grows_over t.turn t.start t.end t.turn_leads_to_end

      last : TapeGrows t.end new
      last = grows_over t.later t.end new t.leads_to_new

      since : TapeGrows t.start new
      since = laws.tape.growth_is_transitive t.start t.end new middle last

  module _ (old : JointState Device) (begun : AbstractState) (ended ports : Ports) (new : Device) (turn call : Evidence) (ask : AbstractCall DeviceStep) (said : AbstractCallResult)
      (on : IsOn old.device) (linked : (old.abstract.ports.state port ≡ Ready) ⊎ Contains turn.lost port → (old.device.port port.0).link_due ≡ false) (t : HasTurnIn port old.device new) (on_then : IsOn t.end)
      (was : SamePort old.abstract.ports begun.ports port) (stays : SamePort ended ports port) (alike : EvidenceAgreesOn port turn call)
      (its : IsEvidencedOf ask said t.turn (record { device = t.start; abstract = begun }) ended t.end turn port) where
    first : IsLeft old.device t.start
    first = others_leave t.before old.device t.start on t.leads_to_start t.earlier_are_of_others

    last : IsLeft t.end new
    last = others_leave t.later t.end new on_then t.leads_to_new t.later_are_of_others

    since : TapeGrows t.start new
    since = laws.tape.growth_is_transitive t.start t.end new (grows_over t.turn t.start t.end t.turn_leads_to_end) last.grows

    -- what the turn gained, and what was gained before it, the call gained
    within : (Is : Entry → Type 0) → TapeGainsEntry Is t.start t.end → TapeGainsEntry Is old.device new
    within Is = gains_within Is old.device t.start t.end new first.grows last.grows

    before : (Is : Entry → Type 0) → TapeGainsEntry Is old.device t.start → TapeGainsEntry Is old.device new
    before Is = gains_within Is old.device old.device t.start new (laws.tape.growth_is_reflexive old.device) since

    -- a disk went or came before the turn, or none did
    plugged : TapeGainsEntry (IsPlugEvent port.0) old.device t.start ⊎ NoPlugEvents port.0 old.device t.start
    plugged = plugged_or_not port.0 old.device t.start first.grows

    -- what the port shows when its turn begins, it showed when the call began, or the call gained what it tells of
    changes : (old.device.port port.0).link_due ≡ false → ShowsLinkChange (t.start.port port.0) → ShowsLinkChange (old.device.port port.0) ⊎ TapeGainsEntry (IsPlugEvent port.0) old.device new
    changes undue shown = ⊎_elim (λ g. inr (before (IsPlugEvent port.0) g)) (λ none. inl (⊎_elim (n none) (x none) shown)) plugged
      where
        n : NoPlugEvents port.0 old.device t.start → (t.start.port port.0).serr_n ≡ true → ShowsLinkChange (old.device.port port.0)
        n none is = ⊎_elim (λ set. inl set) (λ clear. absurd (false≢true (sym ((first.disks undue).serr_n_rises_by_plug_events none clear) ∙ is))) (cases_Bool (old.device.port port.0).serr_n)

        x : NoPlugEvents port.0 old.device t.start → (t.start.port port.0).serr_x ≡ true → ShowsLinkChange (old.device.port port.0)
        x none is = ⊎_elim (λ set. inr set) (λ clear. absurd (false≢true (sym ((first.disks undue).serr_x_rises_by_disk_coming (laws.tape.no_plug_event_no_disk port.0 old.device t.start none) clear) ∙ is)))
            (cases_Bool (old.device.port port.0).serr_x)

    missing : (old.device.port port.0).link_due ≡ false → (t.start.port port.0).ssts_det ≢ 3 → ((old.device.port port.0).ssts_det ≢ 3) ⊎ TapeGainsEntry (IsPlugEvent port.0) old.device new
    missing undue gone = ⊎_elim (λ g. inr (before (IsPlugEvent port.0) g)) (λ none. inl (λ there. gone (first.shows undue none ∙ there))) plugged

    fatal : ShowsFatal (t.start.port port.0) → ShowsFatal (old.device.port port.0) ⊎ TapeGainsEntry (IsFatalEntryOf port.0) old.device new
    unfolding GainsOrNone
    fatal shown = ⊎_elim
        (λ g. inr (before (IsFatalEntryOf port.0) g))
        (λ none. inl (record {
          place = shown.place;
          from = shown.from;
          to = shown.to;
          cause_is_set = ⊎_elim (λ set. set)
              (λ clear. absurd (false≢true (sym (first.errors.fatal (record { new_entries = none.0; tape_is = none.1; no_such_entry = none.2 }) shown.place shown.from shown.to clear) ∙ shown.cause_is_set)))
              (cases_Bool ((old.device.port port.0).is shown.place));
        }))
        (gains_or_none (IsFatalEntryOf port.0) (is_fatal port.0) old.device t.start first.grows)

    failed : (t.start.port port.0).is 30 ≡ true → ((old.device.port port.0).is 30 ≡ true) ⊎ TapeGainsEntry (IsFaultOf port.0) old.device new
    unfolding GainsOrNone
    failed shown = ⊎_elim
        (λ g. inr (before (IsFaultOf port.0) g))
        (λ none. inl (⊎_elim (λ set. set)
        (λ clear. absurd (false≢true (sym (first.errors.fault (record { new_entries = none.0; tape_is = none.1; no_such_entry = none.2 }) clear) ∙ shown)))
        (cases_Bool ((old.device.port port.0).is 30))))
        (gains_or_none (IsFaultOf port.0) (is_fault port.0) old.device t.start first.grows)

    -- ready then, ready now
    ready : old.abstract.ports.state port ≡ Ready → begun.ports.state port ≡ Ready
    ready is = was.1 ∙ is

    ready_then : begun.ports.state port ≡ Ready → old.abstract.ports.state port ≡ Ready
    ready_then is = sym was.1 ∙ is

    lost : (old.device.port port.0).link_due ≡ false → HasEvidenceOfLoss port (record { device = t.start; abstract = begun }) ended t.end → HasEvidenceOfLoss port old ports new
    lost undue (inl shown) = ⊎_elim (λ change. inl change) (λ g. inr (inr (inl g))) (changes undue shown)
    lost undue (inr (inl gone)) = ⊎_elim (λ out. inr (inl out)) (λ g. inr (inr (inl g))) (missing undue gone)
    lost undue (inr (inr (inl g))) = inr (inr (inl (within (IsPlugEvent port.0) g)))
    lost undue (inr (inr (inr end))) = inr (inr (inr (
      (λ dead. end.0 (sym stays.1 ∙ dead)),
      (λ is same. end.1 (sym stays.1 ∙ is) (sym stays.2 ∙ same.0 ∙ sym was.2, sym stays.3 ∙ same.1 ∙ sym was.3)),
    )))

    gone_only : ReadyPortShowedLossOrHadPlugEvent port (record { device = t.start; abstract = begun }) t.end → ReadyPortShowedLossOrHadPlugEvent port old new
    gone_only (is, inl shown) = (ready_then is, ⊎_elim (λ change. inl change) (λ g. inr (inr g)) (changes (linked (inl (ready_then is))) shown))
    gone_only (is, inr (inl gone)) = (ready_then is, ⊎_elim (λ out. inr (inl out)) (λ g. inr (inr g)) (missing (linked (inl (ready_then is))) gone))
    gone_only (is, inr (inr g)) = (ready_then is, inr (inr (within (IsPlugEvent port.0) g)))

    errors : ReadyPortShowedOrHadFailure port (record { device = t.start; abstract = begun }) t.end → ReadyPortShowedOrHadFailure port old new
    errors (is, inl (inl shown)) = (ready_then is, ⊎_elim (λ f. inl (inl f)) (λ g. inr (inr g)) (fatal shown))
    errors (is, inl (inr shown)) = (ready_then is, ⊎_elim (λ f. inl (inr f)) (λ g. inr (inl g)) (failed shown))
    errors (is, inr (inl g)) = (ready_then is, inr (inl (within (IsFaultOf port.0) g)))
    errors (is, inr (inr g)) = (ready_then is, inr (inr (within (IsFatalEntryOf port.0) g)))

    fatal_errors : ReadyPortShowedOrHadFatalError port (record { device = t.start; abstract = begun }) t.end → ReadyPortShowedOrHadFatalError port old new
    fatal_errors (is, inl shown) = (ready_then is, ⊎_elim (λ f. inl f) (λ g. inr g) (fatal shown))
    fatal_errors (is, inr g) = (ready_then is, inr (within (IsFatalEntryOf port.0) g))

    pub evidence_is_the_calls : IsEvidencedOf ask said (call_accesses t) old ports new call port
    evidence_is_the_calls = record {
      named_lost_showed_loss_or_changed = λ named. lost (linked (inr (alike.lost.1 named))) (its.named_lost_showed_loss_or_changed (alike.lost.1 named));
      shown_loss_of_ready_is_named = λ is loss. alike.link_changed.0 (its.shown_loss_of_ready_is_named (ready is) (loss_then old.device new on (linked (inl is)) t loss));
      named_link_changed_had_change_or_no_device = λ named. gone_only (its.named_link_changed_had_change_or_no_device (alike.link_changed.1 named));
      shown_failure_of_ready_is_named = λ is failure. alike.showing_error.0 (its.shown_failure_of_ready_is_named (ready is) (failure_still port.0 old.device t.start first.trouble_shown failure));
      named_showing_error_had_error = λ named. errors (its.named_showing_error_had_error (alike.showing_error.1 named));
      shown_fatal_of_ready_is_named = λ is shown. alike.showing_fatal_error.0 (its.shown_fatal_of_ready_is_named (ready is) ((first.trouble_shown fatals).still shown));
      named_showing_fatal_had_fatal = λ named. fatal_errors (its.named_showing_fatal_had_fatal (alike.showing_fatal_error.1 named));
      engine_is_left_or_stopped = ⊎_elim
          (λ left. inl (All-append (WritesNeitherCmdNorSctl port) t.before (t.turn ++ t.later) (others_leave_engine t.before t.earlier_are_of_others)
          (All-append (WritesNeitherCmdNorSctl port) t.turn t.later left (others_leave_engine t.later t.later_are_of_others))))
          (λ (i : IsStoppedOrStuck turn port). inr (⊎_elim (λ a. inl (alike.stopped.0 a)) (λ b. inr (alike.stuck.0 b)) i))
          its.engine_is_left_or_stopped;
      named_stopped_was_stopped_or_reset = λ named. ⊎_elim
          (λ stops. inl (laws.fall_holds_with_earlier t.before (t.turn ++ t.later) 0 15 port (laws.fall_holds_with_later t.turn t.later 0 15 port stops)))
          (λ reset. inr (reset.0, sym was.0 ∙ reset.1))
          (its.named_stopped_was_stopped_or_reset (alike.stopped.1 named));
      stuck_only = λ named. ⊎_elim
          (λ sticks. inl (
            laws.sticking_holds_with_earlier t.before (t.turn ++ t.later) port (laws.sticking_holds_with_later t.turn t.later port sticks.0),
            ap (λ n. n.engine_wait_count) last.leaves.notes ∙ sticks.1,
          ))
          (λ reset. inr (reset.0, sym was.0 ∙ reset.1))
          (its.stuck_only (alike.stuck.1 named));
    }

  -- ---- a fault that is told

  module _ (old new : Device) (on : IsOn old) (t : HasTurnIn port old new) where
    ahead : IsLeft old t.start
    ahead = others_leave t.before old t.start on t.leads_to_start t.earlier_are_of_others

    -- a fault on the tape at a moment of the turn before the port was stopped stands there before it was stopped in the call
    pub failed_in_call : (fault : tape_fault.Fault) → HasFailed port t.turn t.start t.end fault → HasFailed port (call_accesses t) old new fault
    failed_in_call fault f = record {
      device_before_stop = f.device_before_stop;
      cmd_is_unwritten = record {
        early = t.before ++ f.cmd_is_unwritten.early;
        late = f.cmd_is_unwritten.late ++ t.later;
        accesses_are = ap (λ (turn : List Access). t.before ++ (turn ++ t.later)) f.cmd_is_unwritten.accesses_are
            ∙ ap (λ (rest : List Access). t.before ++ rest) (append_assoc f.cmd_is_unwritten.early f.cmd_is_unwritten.late t.later)
            ∙ sym (append_assoc t.before f.cmd_is_unwritten.early (f.cmd_is_unwritten.late ++ t.later));
        cmd_is_unwritten = All-append (DoesNotWriteCmd port) t.before f.cmd_is_unwritten.early
            (All-weaker (WritesNeitherCmdNorSctl port) (DoesNotWriteCmd port) (λ access leaves. leaves.0) t.before (others_leave_engine t.before t.earlier_are_of_others)) f.cmd_is_unwritten.cmd_is_unwritten;
        does_early = laws.does_append t.before f.cmd_is_unwritten.early old t.start f.device_before_stop t.leads_to_start f.cmd_is_unwritten.does_early;
        does_late = laws.does_append f.cmd_is_unwritten.late t.later f.device_before_stop t.end new f.cmd_is_unwritten.does_late t.leads_to_new;
      };
      fault_is_told = subst (λ (n : ℕ). Contains (drop n f.device_before_stop.tape) (entry.Fault fault)) (ap (λ n. n.st_set_at) ahead.leaves.notes) f.fault_is_told;
      port_is = f.port_is;
    }

    -- the last page of the log that the turn brought is the call's last
    pub brought_in_call : (page : List ℕ) → GainsNoMove port.0 ReadLog t.end new → BringsLastLogPage port t.start t.end page → BringsLastLogPage port old new page
    brought_in_call page (later, tape, none) b = record {
      new_entries = ahead.grows.0 ++ (b.new_entries ++ later);
      tape_grows = tape ∙ ap (λ (xs : List Entry). xs ++ later) (b.tape_grows ∙ ap (λ (xs : List Entry). xs ++ b.new_entries) ahead.grows.1)
          ∙ append_assoc (old.tape ++ ahead.grows.0) b.new_entries later ∙ append_assoc old.tape ahead.grows.0 (b.new_entries ++ later);
      before = ahead.grows.0 ++ b.before;
      move = b.move;
      later = b.later ++ later;
      entries_are = ap (λ (xs : List Entry). ahead.grows.0 ++ (xs ++ later)) b.entries_are ∙ ap (λ (xs : List Entry). ahead.grows.0 ++ xs) (append_assoc b.before (entry.Move b.move ∷ b.later) later)
          ∙ sym (append_assoc ahead.grows.0 b.before (entry.Move b.move ∷ (b.later ++ later)));
      is_move = b.is_move;
      no_later_page = All-append (λ e. IsMove port.0 ReadLog e → ⊥) b.later later b.no_later_page none;
      bytes_are = b.bytes_are;
    }
