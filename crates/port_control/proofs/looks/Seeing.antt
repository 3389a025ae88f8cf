-- What a look sees of a port, and what it leaves told.
use Rattle.std.proofs.Common.{ℕ, ◌≡◌, ◌≢◌, ◌⊎◌, ◌%◌, Bool, true, false, not, ◌&&◌, List, [], ◌∷◌, inl, inr, refl, sym, ◌∙◌, ap}
use Rattle.std.proofs.lemmas.List.Elements.{All-cons, All-nil}
use Rattle.ata_types.specs.declared.Port.{Port}
use Rattle.hba_regs.specs.Bits.{bit}
use Rattle.hba_regs.specs.declared.reg.Reg.TheVariants as reg
use Rattle.hba_regs.specs.declared.reg.Reg.TheVariants.{Px}
use Rattle.hba_regs.specs.declared.reg.PortReg.TheVariants.{Is, Sctl, Ssts}
use Rattle.adapter.specs.Access.{Access, Does, Writes}
use Rattle.adapter.specs.Access.Access.{Reading, Writing}
use Rattle.adapter.specs.Device.{DevicePort, Device}
use Rattle.adapter.specs.Rules.{IsOn}
use Rattle.adapter.specs.RegisterEffects.{PortRegisterWritten}
use Rattle.refinement.specs.Fragments.{TapeGrows, IsDrivenBy}
use Rattle.refinement.specs.Errors.{KeepsSetBitsOfPxisAndSerrNX, NoDiskComes}
use Rattle.refinement.specs.PortFacts.{RunsWell, ShowsNoTrouble, Undisturbed}
use Rattle.port_control.specs.EventLaws.{Laws}
use Rattle.port_control.specs.PortEvents.{IsPxisSstsOrOwnIsAccess, TakesEvent}
use Rattle.port_control.specs.ServiceAccesses.{WritesOnlyHbaIsPxIsCiOrSact, WritesOnlyHbaIsCiSactOrOtherPxIs, SerrNXStaySet}
use Rattle.port_control.specs.declared.events.PortEvent.{PortEvent}
use Rattle.port_control.specs.declared.events.PortEvent.TheVariants as look
use Rattle.port_control.proofs.looks.Serving.{looking_service, spares_port, services_keep, calm_parts, services_well, errors_stay}
use Rattle.port_control.proofs.looks.Stretching.{driven_as, spared_on}
use Rattle.port_control.proofs.looks.Telling.{answered_undisturbed, told_lost, told_undisturbed}

-- no link is due then either, and a device shows only where one did
abbrev Unlinks : ℕ → Device → Device → Type 0
Unlinks port old new =
    TapeGrows old new
    × ((old.port port).link_due ≡ false → ((new.port port).link_due ≡ false) × (NoDiskComes port old new → (new.port port).ssts_det ≡ 3 → (old.port port).ssts_det ≡ 3))

module _ (port : Port) (result : PortEvent) (old new : Device) (l : TakesEvent port result old new) where
  -- the last of the accesses, the last two, and the last three
  abbrev shows : List Access
  shows = Reading (Px port Ssts) l.status ∷ []

  abbrev clears_own : List Access
  clears_own = Writing reg.Is l.port_mask ∷ shows

  abbrev clears_causes : List Access
  clears_causes = Writing (Px port Is) l.causes ∷ clears_own

  pub look_driven : IsDrivenBy (IsPxisSstsOrOwnIsAccess port) old new
  look_driven = record {
    accesses = Reading (Px port Is) l.causes ∷ clears_causes;
    all_are_done = (l.after_is_read, l.reads, (l.cleared, l.clears, (l.acknowledged, l.acknowledges, (new, l.reads_status, refl))));
    accesses_are_of_kind = All-cons (IsPxisSstsOrOwnIsAccess port) (Reading (Px port Is) l.causes) clears_causes (inl refl)
        (All-cons (IsPxisSstsOrOwnIsAccess port) (Writing (Px port Is) l.causes) clears_own (inl refl)
        (All-cons (IsPxisSstsOrOwnIsAccess port) (Writing reg.Is l.port_mask) shows (inr (refl, l.is_sole_bit))
        (All-cons (IsPxisSstsOrOwnIsAccess port) (Reading (Px port Ssts) l.status) [] (inr refl) (All-nil (IsPxisSstsOrOwnIsAccess port)))));
  }

  -- what comes once PxIS is cleared
  pub rest : IsDrivenBy (WritesOnlyHbaIsCiSactOrOtherPxIs port) l.cleared new
  rest = record {
    accesses = clears_own;
    all_are_done = (l.acknowledged, l.acknowledges, (new, l.reads_status, refl));
    accesses_are_of_kind = All-cons (WritesOnlyHbaIsCiSactOrOtherPxIs port) (Writing reg.Is l.port_mask) shows (inl refl, λ e. let z : reg.Is ≡ Px port Is = e in cc)
        (All-cons (WritesOnlyHbaIsCiSactOrOtherPxIs port) (Reading (Px port Ssts) l.status) [] (tt, tt) (All-nil (WritesOnlyHbaIsCiSactOrOtherPxIs port)));
  }

module _ (laws : Laws) where
  -- ---- no link comes up by itself

  unlinks_more : (port : ℕ) (a b c : Device) → Unlinks port a b → Unlinks port b c → Unlinks port a c
  unlinks_more port a b c p q = (
    laws.tape.growth_is_transitive a b c p.0 q.0,
    λ undue.
        let x = p.1 undue in
        let y = q.1 x.0 in
        (y.0, λ none up. let parts = laws.tape.no_disk_comes_in_parts port a b c p.0.0 q.0.0 p.0.1 q.0.1 none in x.1 parts.0 (y.1 parts.1 up)),
  )

  service_unlinks : (port : Port) (access : Access) (old new : Device) → IsOn old → WritesOnlyHbaIsPxIsCiOrSact access → Does access old new → Unlinks port.0 old new
  service_unlinks port access old new on is does = (
    laws.tape.access_grows access old new does,
    λ undue. (
      laws.tape.access_but_sctl_write_makes_no_link_due port access old new on.no_reset undue (spares_port port Sctl (λ e. cc) (λ e. cc) (λ e. cc) access is) does,
      λ none up. ((laws.tape.access_raises_link_errors_by_disks port access old new on.no_reset undue does).det_3_was_3_and_none_went_if_none_comes none up).0,
    ),
  )

  unlinked_stays : (port : Port) (old new : Device) → IsOn old → IsDrivenBy WritesOnlyHbaIsPxIsCiOrSact old new → Unlinks port.0 old new
  unlinked_stays port old new on a =
      (services_keep laws (Unlinks port.0) (λ d. (laws.tape.growth_is_reflexive d, λ undue. (undue, λ none up. up))) (unlinks_more port.0) (λ access x y ready is does. service_unlinks port access x y ready is does) old new on a).0

  -- ---- a bit of PxIS that a write leaves set

  pub left_set : (port : Port) (v place : ℕ) (old new : Device) → old.hr ≡ false → (w : Writes (Px port Is) v old new) → (w.at_access.port port.0).is place ≡ true → bit v place ≡ false → (new.port port.0).is place ≡ true
  left_set port v place old new off w set unread =
      let again : Writes (Px port Is) v w.at_access new = record { at_access = w.at_access; steps = laws.steps_reflexive w.at_access; effect = w.effect } in
      let p : PortRegisterWritten port.0 Is v w.at_access new = laws.write_changes_port_register port Is v w.at_access new again ((laws.law_step_lists_keep_what_steps_keep old w.at_access w.steps).keeps_outside_reset off).no_reset in
      let still : (p.at_access.port port.0).is place ≡ true = (p.keeps.keeps_outside_reset.controls_are_kept port.0).causes_stay_set place set in
      ap (λ (q : DevicePort). q.is place) p.port_is_written ∙ (ap (λ (b : Bool). b && not (bit v place)) still ∙ ap (λ (b : Bool). not b) unread)

  -- ---- a look

  module _ (port : Port) (result : PortEvent) (old new : Device) (l : TakesEvent port result old new) (on : IsOn old) where
    pub seen_on : IsOn l.after_is_read
    seen_on = spared_on laws (Reading (Px port Is) l.causes) old l.after_is_read tt l.reads on

    pub cleared_on : IsOn l.cleared
    cleared_on = spared_on laws (Writing (Px port Is) l.causes) l.after_is_read l.cleared (λ e. cc) l.clears seen_on

    acknowledged_on : IsOn l.acknowledged
    acknowledged_on = spared_on laws (Writing reg.Is l.port_mask) l.cleared l.acknowledged (λ e. cc) l.acknowledges cleared_on

    as_services : IsDrivenBy WritesOnlyHbaIsPxIsCiOrSact old new
    as_services = driven_as (IsPxisSstsOrOwnIsAccess port) WritesOnlyHbaIsPxIsCiOrSact old new (looking_service port) (look_driven port result old new l)

    -- what PxSSTS shows, the port has
    shown : l.status % 16 ≡ (new.port port.0).ssts_det
    shown = laws.shown_after port Ssts l.status l.acknowledged new acknowledged_on.no_reset l.reads_status

    -- ---- what it sees

    pub seen_calm : result ≡ look.NoEvent → ShowsNoTrouble (old.port port.0) × Undisturbed port.0 old l.after_is_read
    seen_calm is =
        let told = answered_undisturbed l.causes l.status (sym l.result_is ∙ is) in
        laws.no_trouble_read_none_before port.0 (Px port Is) l.causes old l.after_is_read on.no_reset l.reads (laws.calm_causes_show_no_trouble port l.causes old l.after_is_read on.no_reset l.reads told.0)

    pub seen_changed : ((old.port port.0).serr_n ≡ true) ⊎ ((old.port port.0).serr_x ≡ true) → result ≡ look.LinkChanged
    seen_changed (inl n) = l.result_is ∙ told_lost l.causes l.status (inr (inl ((laws.serr_changes_are_read port l.causes old l.after_is_read on.no_reset l.reads).0 n)))
    seen_changed (inr x) = l.result_is ∙ told_lost l.causes l.status (inl ((laws.serr_changes_are_read port l.causes old l.after_is_read on.no_reset l.reads).1 x))

    pub seen_unlinked : (old.port port.0).ssts_det ≢ 3 → (old.port port.0).link_due ≡ false → NoDiskComes port.0 old new → result ≡ look.LinkChanged
    seen_unlinked none undue comes =
        let stays = unlinked_stays port old new on as_services in
        l.result_is ∙ told_lost l.causes l.status (inr (inr (λ (three : l.status % 16 ≡ 3). none ((stays.1 undue).1 comes (sym shown ∙ three)))))

    -- ---- a port that runs well

    pub seen_well : RunsWell (old.port port.0) → Undisturbed port.0 old new → (result ≡ look.NoEvent) × RunsWell (new.port port.0)
    seen_well well calm =
        let early : TapeGrows old l.after_is_read = laws.tape.access_grows (Reading (Px port Is) l.causes) old l.after_is_read l.reads in
        let late : TapeGrows l.after_is_read new =
        laws.tape.growth_is_transitive l.after_is_read l.cleared new (laws.tape.access_grows (Writing (Px port Is) l.causes) l.after_is_read l.cleared l.clears)
        (laws.tape.growth_is_transitive l.cleared l.acknowledged new (laws.tape.access_grows (Writing reg.Is l.port_mask) l.cleared l.acknowledged l.acknowledges)
        (laws.tape.access_grows (Reading (Px port Ssts) l.status) l.acknowledged new l.reads_status)) in
        let seen_so : RunsWell (l.after_is_read.port port.0) = laws.read_keeps_running_well port.0 (Px port Is) l.causes old l.after_is_read on.no_reset l.reads (calm_parts laws port.0 old l.after_is_read new early late calm).0 well in
        let still : RunsWell (new.port port.0) = services_well laws port old new on as_services calm well in
        (l.result_is ∙ told_undisturbed l.causes l.status (laws.no_trouble_reads_calm_causes port l.causes old l.after_is_read on.no_reset l.reads seen_so.shows_no_trouble) (shown ∙ still.det_is_3), still)

    -- ---- what it leaves told

    later : KeepsSetBitsOfPxisAndSerrNX (l.cleared.port port.0) (new.port port.0)
    later = errors_stay laws port l.cleared new cleared_on (rest port result old new l)

    pub looking_changes : SerrNXStaySet (old.port port.0) (new.port port.0)
    looking_changes =
        let a = laws.access_keeps_serr_changes port (Reading (Px port Is) l.causes) old l.after_is_read on.no_reset tt l.reads in
        let b = laws.access_keeps_serr_changes port (Writing (Px port Is) l.causes) l.after_is_read l.cleared seen_on.no_reset (λ e. cc) l.clears in
        (λ h. later.serr_n_is_kept (b.0 (a.0 h)), λ h. later.serr_x_is_kept (b.1 (a.1 h)))

    -- a cause that wasn't read stays told
    pub looking_causes : (place : ℕ) → (l.clears.at_access.port port.0).is place ≡ true → bit l.causes place ≡ false → (new.port port.0).is place ≡ true
    looking_causes place set unread = later.set_pxis_bits_stay_set place (left_set port l.causes place l.after_is_read l.cleared seen_on.no_reset l.clears set unread)
