-- What isn't shown of a port's trouble hasn't come, and what a look tells of a loss.
use Rattle.std.proofs.Common.{ℕ, ◌≡◌, ◌≢◌, ◌≤◌, ◌⊎◌, ◌%◌, true, false, [], ◌∷◌, inl, inr, refl, sym, ◌∙◌, ap, ⊎_elim}
use Rattle.std.proofs.lemmas.Bool.{cases_Bool, cases_eq, false≢true}
use Rattle.std.proofs.lemmas.List.{append-nil}
use Rattle.std.proofs.lemmas.List.Elements.{All-cons, All-nil}
use Rattle.ata_types.specs.declared.Port.{Port}
use Rattle.hba_regs.specs.Bits.{bit}
use Rattle.hba_regs.specs.declared.reg.Reg.TheVariants as reg
use Rattle.hba_regs.specs.declared.reg.Reg.TheVariants.{Px}
use Rattle.hba_regs.specs.declared.reg.PortReg.TheVariants.{Is, Sctl, Serr, Ssts}
use Rattle.adapter.specs.Access.{Access, Does, Writes}
use Rattle.adapter.specs.Access.Access.{Reading, Writing}
use Rattle.adapter.specs.Device.{DevicePort, Device}
use Rattle.adapter.specs.Rules.{IsOn}
use Rattle.adapter.specs.Steps.{Steps}
use Rattle.refinement.specs.Fragments.{TapeGrows, IsDrivenBy}
use Rattle.refinement.specs.Errors.{IsFatalEntryOf, NoFaults, NoFatalErrors}
use Rattle.refinement.specs.PortFacts.{IsFaultOf}
use Rattle.refinement.specs.PreservedParts.{LinkIsSameOrComesUp, NoPlugEvents, DoesNotWrite}
use Rattle.port_control.specs.EventLaws.{Laws}
use Rattle.port_control.specs.PortEvents.{TakesEvent}
use Rattle.port_control.specs.ServiceAccesses.{ShowedLossOrHadPlugEvent, WritesOnlyHbaIsPxIsCiOrSact, WritesOnlyHbaIsCiSactOrOtherPxIs, HidesNoPlugEvent, HidesNoFatal, HidesNoFault, ShowsNoFatal}
use Rattle.port_control.specs.declared.events.PortEvent.{PortEvent}
use Rattle.port_control.specs.declared.events.PortEvent.TheVariants.{LinkChanged}
use Rattle.port_control.proofs.looks.Seeing.{cleared_on, left_set, rest, seen_on}
use Rattle.port_control.proofs.looks.Serving.{services_keep, spares_ghc, spares_port}
use Rattle.port_control.proofs.looks.Stretching.{kept_on}
use Rattle.port_control.proofs.looks.Telling.{answered_lost}

-- a device that shows is shown still
shows_still : (p new : DevicePort) → LinkIsSameOrComesUp p new → p.ssts_det ≡ 3 → new.ssts_det ≡ 3
shows_still p new (inl same) det = same.det ∙ det
shows_still p new (inr up) det = up.det

-- where no link is due and a device shows, so it is still, unless a disk goes or comes
abbrev StaysLinked : ℕ → Device → Device → Type 0
StaysLinked port old new =
    TapeGrows old new
    × (NoPlugEvents port old new → (old.port port).link_due ≡ false → (old.port port).ssts_det ≡ 3 → ((new.port port).link_due ≡ false) × ((new.port port).ssts_det ≡ 3))

-- ---- what isn't shown hasn't come

-- Of a kind of trouble that is clear in a state, and of which none is on the tape: over accesses of ordinary kind, and over a look whose write of PxIS leaves it.
module _ (laws : Laws) (Clear : DevicePort → Type 0) (None : ℕ → Device → Device → Type 0) (none : (port : ℕ) (d : Device) → None port d d)
    (more : (port : ℕ) (old mid new : Device) → None port old mid → None port mid new → None port old new) (port : Port) where
  abbrev Shown : Device → Device → Type 0
  Shown old new = Clear (new.port port.0) → Clear (old.port port.0) × None port.0 old new

  shown_more : (a b c : Device) → Shown a b → Shown b c → Shown a c
  shown_more a b c p q clear =
      let late = q clear in
      let early = p late.0 in
      (early.0, more port.0 a b c early.1 late.1)

  module _ (over : (access : Access) (old new : Device) → IsOn old → WritesOnlyHbaIsCiSactOrOtherPxIs port access → Does access old new → Shown old new) where
    ordinary_over : (old new : Device) → IsOn old → IsDrivenBy (WritesOnlyHbaIsCiSactOrOtherPxIs port) old new → Shown old new
    ordinary_over old new on a =
        (kept_on laws Shown (λ d clear. (clear, none port.0 d)) shown_more (WritesOnlyHbaIsCiSactOrOtherPxIs port) (λ access is. spares_ghc access is.0) (λ access x y here is does. over access x y here is does) old new on a).0

    look_over : (result : PortEvent) (old new : Device) (l : TakesEvent port result old new) → IsOn old → Shown l.after_is_read l.cleared → Shown old new
    look_over result old new l on write =
        shown_more old l.after_is_read new (over (Reading (Px port Is) l.causes) old l.after_is_read on (tt, tt) l.reads)
        (shown_more l.after_is_read l.cleared new write (ordinary_over l.cleared new (cleared_on laws port result old new l on) (rest port result old new l)))

  -- a write of PxIS, where what is clear after it was so before it
  write_over : (steps : (old new : Device) → old.hr ≡ false → Steps old new → Shown old new) → (v : ℕ) (old new : Device) → old.hr ≡ false → (w : Writes (Px port Is) v old new)
      → (Clear (new.port port.0) → Clear (w.at_access.port port.0)) → (w.at_access.tape ≡ new.tape → None port.0 w.at_access new) → Shown old new
  write_over steps v old new off w leaves ends clear =
      let early = steps old w.at_access off w.steps (leaves clear) in
      (early.0, more port.0 old w.at_access new early.1 (ends (sym (ap (λ (d : Device). d.tape) w.effect))))

-- neither PxIS nor PxSERR is among the registers that are written
ordinary_spares : (port : Port) (access : Access) → WritesOnlyHbaIsCiSactOrOtherPxIs port access → DoesNotWrite (Px port Serr) access
ordinary_spares port access is = spares_port port Serr (λ e. cc) (λ e. cc) (λ e. cc) access is.0

module _ (laws : Laws) where
  -- ---- the link

  linked_more : (port : ℕ) (a b c : Device) → StaysLinked port a b → StaysLinked port b c → StaysLinked port a c
  linked_more port a b c p q = (
    laws.tape.growth_is_transitive a b c p.0 q.0,
    λ none undue det.
        let parts = laws.tape.no_plug_events_in_parts port a b c p.0.0 q.0.0 p.0.1 q.0.1 none in
        let x = p.1 parts.0 undue det in
        q.1 parts.1 x.0 x.1,
  )

  service_linked : (port : Port) (access : Access) (old new : Device) → IsOn old → WritesOnlyHbaIsPxIsCiOrSact access → Does access old new → StaysLinked port.0 old new
  service_linked port access old new on is does =
      let spares = spares_port port Sctl (λ e. cc) (λ e. cc) (λ e. cc) access is in (
        laws.tape.access_grows access old new does,
        λ none undue det. (
          laws.tape.access_but_sctl_write_makes_no_link_due port access old new on.no_reset undue spares does,
          shows_still (old.port port.0) (new.port port.0) (laws.link_stays_or_comes_up port access old new on.no_reset spares does none) det,
        ),
      )

  -- ---- what isn't shown hasn't come

  fault_over : (port : Port) (access : Access) (old new : Device) → IsOn old → WritesOnlyHbaIsCiSactOrOtherPxIs port access → Does access old new → HidesNoFault port.0 old new
  fault_over port access old new on is does = laws.access_hides_no_fault port access old new on.no_reset is.1 does

  fatal_over : (port : Port) (access : Access) (old new : Device) → IsOn old → WritesOnlyHbaIsCiSactOrOtherPxIs port access → Does access old new → HidesNoFatal port.0 old new
  fatal_over port access old new on is does = laws.access_hides_no_fatal port access old new on.no_reset is.1 does

  disk_over : (port : Port) (access : Access) (old new : Device) → IsOn old → WritesOnlyHbaIsCiSactOrOtherPxIs port access → Does access old new → HidesNoPlugEvent port.0 old new
  disk_over port access old new on is does = laws.access_hides_no_plug_event port access old new on.no_reset (ordinary_spares port access is) does

  abbrev Tfes : DevicePort → Type 0
  Tfes p = p.is 30 ≡ false

  abbrev Change : DevicePort → Type 0
  Change p = p.serr_n ≡ false

  pub ordinary_shows : (port : Port) (old new : Device) → IsOn old → IsDrivenBy (WritesOnlyHbaIsCiSactOrOtherPxIs port) old new → HidesNoFault port.0 old new
  ordinary_shows port = ordinary_over laws Tfes NoFaults laws.tape.no_faults_reflexive laws.tape.no_faults_transitive port (fault_over port)

  pub ordinary_fatals : (port : Port) (old new : Device) → IsOn old → IsDrivenBy (WritesOnlyHbaIsCiSactOrOtherPxIs port) old new → HidesNoFatal port.0 old new
  ordinary_fatals port = ordinary_over laws ShowsNoFatal NoFatalErrors laws.tape.no_fatal_errors_reflexive laws.tape.no_fatal_errors_transitive port (fatal_over port)

  pub ordinary_disks : (port : Port) (old new : Device) → IsOn old → IsDrivenBy (WritesOnlyHbaIsCiSactOrOtherPxIs port) old new → HidesNoPlugEvent port.0 old new
  ordinary_disks port = ordinary_over laws Change NoPlugEvents laws.tape.no_plug_events_reflexive laws.tape.no_plug_events_transitive port (disk_over port)

  -- a bit that is clear after a write that leaves it was clear
  was_clear : (port : Port) (v place : ℕ) (old new : Device) → old.hr ≡ false → (w : Writes (Px port Is) v old new) → bit v place ≡ false → (new.port port.0).is place ≡ false → (w.at_access.port port.0).is place ≡ false
  was_clear port v place old new off w unread clear = ⊎_elim
      (λ (set : (w.at_access.port port.0).is place ≡ true). absurd (false≢true (sym clear ∙ left_set laws port v place old new off w set unread)))
      (λ unset. unset)
      (cases_Bool ((w.at_access.port port.0).is place))

  -- ---- a look

  module _ (port : Port) (result : PortEvent) (old new : Device) (l : TakesEvent port result old new) (on : IsOn old) where
    off : l.after_is_read.hr ≡ false
    off = (seen_on laws port result old new l on).no_reset

    pub unread_shows : bit l.causes 30 ≡ false → HidesNoFault port.0 old new
    unread_shows unread =
        look_over laws Tfes NoFaults laws.tape.no_faults_reflexive laws.tape.no_faults_transitive port (fault_over port) result old new l on
        (write_over laws Tfes NoFaults laws.tape.no_faults_reflexive laws.tape.no_faults_transitive port (laws.steps_hide_no_fault port.0) l.causes l.after_is_read l.cleared off l.clears
        (was_clear port l.causes 30 l.after_is_read l.cleared off l.clears unread)
        (λ tape. record { new_entries = []; tape_is = sym tape ∙ sym (append-nil l.clears.at_access.tape); no_such_entry = All-nil (λ e. IsFaultOf port.0 e → ⊥) }))

    pub unread_fatals : ((place : ℕ) → 27 ≤ place → place ≤ 29 → bit l.causes place ≡ false) → HidesNoFatal port.0 old new
    unread_fatals unread =
        look_over laws ShowsNoFatal NoFatalErrors laws.tape.no_fatal_errors_reflexive laws.tape.no_fatal_errors_transitive port (fatal_over port) result old new l on
        (write_over laws ShowsNoFatal NoFatalErrors laws.tape.no_fatal_errors_reflexive laws.tape.no_fatal_errors_transitive port (laws.steps_hide_no_fatal port.0) l.causes l.after_is_read l.cleared off l.clears
        (λ clear place from to. was_clear port l.causes place l.after_is_read l.cleared off l.clears (unread place from to) (clear place from to))
        (λ tape. record { new_entries = []; tape_is = sym tape ∙ sym (append-nil l.clears.at_access.tape); no_such_entry = All-nil (λ e. IsFatalEntryOf port.0 e → ⊥) }))

    -- the write of PxIS is none of PxSERR
    pub look_disks : HidesNoPlugEvent port.0 old new
    look_disks =
        look_over laws Change NoPlugEvents laws.tape.no_plug_events_reflexive laws.tape.no_plug_events_transitive port (disk_over port) result old new l on
        (laws.access_hides_no_plug_event port (Writing (Px port Is) l.causes) l.after_is_read l.cleared off (λ e. absurd (let z : Px port Is ≡ Px port Serr = e in cc)) l.clears)

    -- what comes before PxSSTS is read
    early : IsDrivenBy WritesOnlyHbaIsPxIsCiOrSact old l.acknowledged
    early = record {
      accesses = Reading (Px port Is) l.causes ∷ Writing (Px port Is) l.causes ∷ Writing reg.Is l.port_mask ∷ [];
      all_are_done = (l.after_is_read, l.reads, (l.cleared, l.clears, (l.acknowledged, l.acknowledges, refl)));
      accesses_are_of_kind = All-cons WritesOnlyHbaIsPxIsCiOrSact (Reading (Px port Is) l.causes) (Writing (Px port Is) l.causes ∷ Writing reg.Is l.port_mask ∷ []) tt
          (All-cons WritesOnlyHbaIsPxIsCiOrSact (Writing (Px port Is) l.causes) (Writing reg.Is l.port_mask ∷ []) (inr (port, inl refl))
          (All-cons WritesOnlyHbaIsPxIsCiOrSact (Writing reg.Is l.port_mask) [] (inl refl) (All-nil WritesOnlyHbaIsPxIsCiOrSact)));
    }

    -- It told a loss: so it had one to tell when it began, or a disk went or came meanwhile.
    pub tells_loss : (old.port port.0).link_due ≡ false → result ≡ LinkChanged → ShowedLossOrHadPlugEvent port.0 old new
    tells_loss undue is = ⊎_elim
        (λ x. by_change (inr x))
        (λ more. ⊎_elim (λ n. by_change (inl n)) by_link more)
        (answered_lost l.causes l.status (sym l.result_is ∙ is))
      where
        reading : TapeGrows old l.after_is_read
        reading = laws.tape.access_grows (Reading (Px port Is) l.causes) old l.after_is_read l.reads

        showing : TapeGrows l.acknowledged new
        showing = laws.tape.access_grows (Reading (Px port Ssts) l.status) l.acknowledged new l.reads_status

        later : TapeGrows l.after_is_read new
        later =
            laws.tape.growth_is_transitive l.after_is_read l.cleared new (laws.tape.access_grows (Writing (Px port Is) l.causes) l.after_is_read l.cleared l.clears)
            (laws.tape.growth_is_transitive l.cleared l.acknowledged new (laws.tape.access_grows (Writing reg.Is l.port_mask) l.cleared l.acknowledged l.acknowledges) showing)

        linked : StaysLinked port.0 old l.acknowledged × IsOn l.acknowledged
        linked = services_keep laws (StaysLinked port.0) (λ d. (laws.tape.growth_is_reflexive d, λ none due det. (due, det))) (linked_more port.0) (λ access x y ready kind does. service_linked port access x y ready kind does)
            old l.acknowledged on early

        parts : NoPlugEvents port.0 old new → NoPlugEvents port.0 old l.acknowledged × NoPlugEvents port.0 l.acknowledged new
        parts = laws.tape.no_plug_events_in_parts port.0 old l.acknowledged new linked.0.0.0 showing.0 linked.0.0.1 showing.1

        by_change : (bit l.causes 22 ≡ true) ⊎ (bit l.causes 6 ≡ true) → ShowedLossOrHadPlugEvent port.0 old new
        by_change told = ⊎_elim
            (λ n. inl (inl n))
            (λ more. ⊎_elim (λ x. inl (inr x)) (λ came. inr (inr (λ none. came (laws.tape.no_plug_events_in_parts port.0 old l.after_is_read new reading.0 later.0 reading.1 later.1 none).0))) more)
            (laws.change_read_has_cause port l.causes old l.after_is_read on.no_reset undue l.reads told)

        by_link : l.status % 16 ≢ 3 → ShowedLossOrHadPlugEvent port.0 old new
        by_link other = ⊎_elim
            (λ (shows : (old.port port.0).ssts_det ≡ 3). inr (inr (λ none.
            let still = linked.0.1 (parts none).0 undue shows in
            ⊎_elim (λ out. out still.1) (λ came. came (parts none).1) (laws.no_link_read_has_cause port l.status l.acknowledged new linked.1.no_reset still.0 l.reads_status other))))
            (λ out. inr (inl out))
            (cases_eq (old.port port.0).ssts_det 3)
