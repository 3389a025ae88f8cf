-- A service in which no disk of a port comes tries what is there, where the port isn't ready: by how it was looked at, and booted.
use Rattle.std.proofs.Common.{true, false, sym, ℕ, ◌≡◌, ◌≢◌, ◌++◌, List, [], ◌∷◌, refl, ◌∙◌, subst, inl, inr, ⊎_elim, ◌⊎◌}
use Rattle.std.proofs.lemmas.Bool.{cases_Bool, cases_eq, false≢true}
use Rattle.std.proofs.lemmas.List.Elements.{All-head, All-tail}
use Rattle.std.specs.List.{All}
use Rattle.ata_types.specs.declared.Port.{Port}
use Rattle.ata_types.specs.declared.PortState.{PortState as Shown}
use Rattle.ata_types.specs.declared.PortState.TheVariants.{Absent, Dead, Foreign, Ready as ReadyState, Unfit}
use Rattle.hba_regs.specs.declared.reg.PortReg.TheVariants.{Is, Sctl, Serr, Ssts}
use Rattle.hba_regs.specs.declared.reg.Reg.TheVariants.{Px}
use Rattle.adapter.specs.Access.{Access, DoesAll, Reads}
use Rattle.adapter.specs.Access.Access.{Reading, Writing}
use Rattle.adapter.specs.Device.{Device, DevicePort}
use Rattle.adapter.specs.Rules.{IsOn}
use Rattle.refinement.specs.Fragments.{TapeGrows}
use Rattle.refinement.specs.Errors.{NoDiskComes}
use Rattle.refinement.specs.PreservedParts.{IsPlugEvent, NoPlugEvents}
use Rattle.refinement.specs.Vacant.{HasFirstFisIfDet3, IsVacant}
use Rattle.block_machine.specs.Events.{ShowsDisk}
use Rattle.driver_history.specs.Evidence.{TapeGainsEntry, ShowsLinkChange}
use Rattle.driver_history.specs.Histories.{HasFirstFisOrNoDevice}
use Rattle.driver_history.specs.AccessTrace.{LastSctlWritesResetLink}
use Rattle.host_boot.specs.Reboots.{EndsReadyOrUnready}
use Rattle.port_boot.specs.Outcomes.{EndsUnready}
use Rattle.host_boot.specs.declared.ProbeResult.{ProbeResult}
use Rattle.host_boot.specs.declared.ProbeResult.TheVariants.{Ready, Unready, Unserved}
use Rattle.identify.specs.Wanted.{serial_of}
use Rattle.identify.specs.declared.DiskInfo.{DiskInfo}
use Rattle.identify.specs.declared.wanted.Wanted.{Wanted}
use Rattle.port_boot.specs.States.{BacksState, EndsBeforeStart, EndsAfterStart, IsStateOfFault}
use Rattle.port_control.specs.Ports.{SerrShowsOnlyNewPlugs}
use Rattle.port_control.specs.PortEvents.{IsPxisSstsOrOwnIsAccess}
use Rattle.server_history.specs.Prerequisites.{PrerequisiteLaws}
use Rattle.server_history.specs.ServerState.{state_of}
use Rattle.server_history.proofs.any_turn.ToldTrouble.{is_plugging, one_or_none}
use Rattle.server_history.proofs.any_turn.HeededTrouble.{gains_none}
use Rattle.server_history.proofs.plain_calls.Looks.{looking_spares}
use Rattle.server_history.proofs.any_turn.ShownTrouble.{grows_over, on_one}
use Rattle.server_history.proofs.any_turn.ShownDevice.{stays_so}

-- ---- accesses in which no disk comes

-- accesses lead to a device between them
split : (early late : List Access) (old new : Device) → DoesAll (early ++ late) old new → (mid : Device) × DoesAll early old mid × DoesAll late mid new
split [] late old new does = (old, refl, does)
split (access ∷ early) late old new (next, one, rest) = let x = split early late next new rest in (x.0, (next, one, x.1), x.2)

module _ (laws : PrerequisiteLaws) (port : Port) where
  -- the first and the second of two parts, each by accesses
  pub none_parts : (old mid new : Device) → TapeGrows old mid → TapeGrows mid new → NoDiskComes port.0 old new → NoDiskComes port.0 old mid × NoDiskComes port.0 mid new
  none_parts old mid new early late none = laws.port_event_laws.tape.no_disk_comes_in_parts port.0 old mid new early.0 late.0 early.1 late.1 none

  pub stays_vacant : (accesses : List Access) (old new : Device) → DoesAll accesses old new → NoDiskComes port.0 old new → IsVacant (old.port port.0) → IsVacant (new.port port.0)
  stays_vacant = stays_so laws port IsVacant (laws.vacant_port_stays_vacant_if_no_disk_comes port)

  -- once the link was reset, the first FIS of a disk that shows has come
  reset_fresh : (accesses : List Access) (old new : Device) → LastSctlWritesResetLink port accesses → DoesAll accesses old new → NoDiskComes port.0 old new → HasFirstFisIfDet3 (new.port port.0)
  reset_fresh accesses old new r does none =
      let rest = r.between ++ (Writing (Px port Sctl) r.end_of_comreset_value ∷ r.later) in
      let x = split r.before (Writing (Px port Sctl) r.comreset_value ∷ rest) old new (subst (λ (list : List Access). DoesAll list old new) r.accesses_are_split does) in
      let sent = x.2.0 in
      let early = laws.port_event_laws.tape.growth_is_transitive old x.0 sent (grows_over laws r.before old x.0 x.1) (laws.port_event_laws.tape.access_grows (Writing (Px port Sctl) r.comreset_value) x.0 sent x.2.1) in
      stays_so laws port HasFirstFisIfDet3 (laws.first_fis_if_det_3_stays_if_no_disk_comes port) rest sent new x.2.2 (none_parts old sent new early (grows_over laws rest sent new x.2.2) none).1 (laws.comreset_has_first_fis_if_det_3 port r.comreset_value x.0 sent r.sends_comreset x.2.1)

  fresh_or_gone : (p : DevicePort) → HasFirstFisIfDet3 p → HasFirstFisOrNoDevice p
  fresh_or_gone p fresh = ⊎_elim (λ (shows : p.ssts_det ≡ 3). inl (fresh shows)) (λ (gone : p.ssts_det ≢ 3). inr gone) (cases_eq p.ssts_det 3)

  pub reset_fresh_or_gone : (accesses : List Access) (old new : Device) → LastSctlWritesResetLink port accesses → DoesAll accesses old new → NoDiskComes port.0 old new → HasFirstFisOrNoDevice (new.port port.0)
  reset_fresh_or_gone accesses old new r does none = fresh_or_gone (new.port port.0) (reset_fresh accesses old new r does none)

  -- a device that showed, and shows no more, has gone
  pub has_gone : (v : ℕ) (old new : Device) → IsOn old → Reads (Px port Ssts) v old new → (old.port port.0).ssts_det ≡ 3 → (new.port port.0).ssts_det ≢ 3 → TapeGainsEntry (IsPlugEvent port.0) old new
  has_gone v old new on reads shows gone =
      let grows = laws.port_event_laws.tape.access_grows (Reading (Px port Ssts) v) old new reads in
      ⊎_elim
      (λ found. record { new_entries = grows.0; tape_is = grows.1; entry = found.0; entry_is_new = found.1; entry_is_of_kind = found.2 })
      (λ none. absurd (gone (⊎_elim (λ same. same.det ∙ shows) (λ up. up.det)
      (laws.port_event_laws.link_stays_or_comes_up port (Reading (Px port Ssts) v) old new on.no_reset tt reads (record { new_entries = grows.0; tape_is = grows.1; no_such_entry = none })))))
      (one_or_none (IsPlugEvent port.0) (is_plugging port.0) grows.0)

-- ---- a look

-- what isn't shown in PxSERR hasn't come, and X is shown still
record KeepsChange (port : ℕ) (old new : Device) : Type 0 where
  disk : (new.port port).serr_n ≡ false → ((old.port port).serr_n ≡ false) × NoPlugEvents port old new
  came : (old.port port).serr_x ≡ true → (new.port port).serr_x ≡ true

module _ (laws : PrerequisiteLaws) (port : Port) where
  change_over : (accesses : List Access) (old new : Device) → IsOn old → All (IsPxisSstsOrOwnIsAccess port) accesses → DoesAll accesses old new → KeepsChange port.0 old new
  change_over [] old new on all is = subst (KeepsChange port.0 old) (sym is) (record { disk = λ clear. (clear, laws.port_event_laws.tape.no_plug_events_reflexive port.0 old); came = λ came. came })
  change_over (access ∷ accesses) old new on all (mid, does, rest) =
      let its = All-head (IsPxisSstsOrOwnIsAccess port) access accesses all in
      let spares = looking_spares port port Serr (λ e. let z : Is ≡ Serr = e in cc) access its in
      let later = change_over accesses mid new (on_one laws port access old mid on (laws.one_port_spares_ghc port access (laws.look_laws.look_access_is_of_port port access its)) does) (All-tail (IsPxisSstsOrOwnIsAccess port) access accesses all) rest in
      record {
        disk = λ clear.
            let l = later.disk clear in
            let e = laws.port_error.serr_n_shows_plug_events port access old mid on.no_reset spares does l.0 in (e.0, laws.port_event_laws.tape.no_plug_events_transitive port.0 old mid new e.1 l.1);
        came = λ came. later.came ((laws.port_event_laws.access_keeps_serr_changes port access old mid on.no_reset spares does).1 came);
      }

  -- what the link told before, and what came, is shown still
  pub change_shown : (accesses : List Access) (old new : Device) → IsOn old → All (IsPxisSstsOrOwnIsAccess port) accesses → DoesAll accesses old new → ShowsLinkChange (old.port port.0) ⊎ TapeGainsEntry (IsPlugEvent port.0) old new → ShowsLinkChange (new.port port.0)
  change_shown accesses old new on all does port_error = ⊎_elim
      (λ (is : (new.port port.0).serr_n ≡ true). inl is)
      (λ (clear : (new.port port.0).serr_n ≡ false).
      let none = keeps.disk clear in ⊎_elim
      (λ change. ⊎_elim (λ went. absurd (false≢true (sym none.0 ∙ went))) (λ came. inr (keeps.came came)) change)
      (λ gains. absurd (gains_none (IsPlugEvent port.0) old new none.1.new_entries none.1.tape_is none.1.no_such_entry gains))
      port_error)
      (cases_Bool ((new.port port.0).serr_n))
    where
      keeps : KeepsChange port.0 old new
      keeps = change_over accesses old new on all does

-- ---- a boot

-- what a boot finds shows a disk, or no device, or a dead port
pub shows_or_not : (found : ProbeResult) → ShowsDisk (state_of found) ⊎ ((state_of found ≡ Absent) ⊎ (found ≡ Unready Dead))
shows_or_not Unserved = inr (inl refl)
shows_or_not (Ready info) = inl tt
shows_or_not (Unready Absent) = inr (inl refl)
shows_or_not (Unready ReadyState) = inl tt
shows_or_not (Unready Foreign) = inl tt
shows_or_not (Unready (Unfit n)) = inl tt
shows_or_not (Unready Dead) = inr (inr refl)

module _ (wanted : Wanted) (port : Port) (old new : Device) where
  -- where the port is ready then, it found a disk that fits
  pub boot_ready : (found : ProbeResult) → EndsReadyOrUnready wanted port found old new → state_of found ≡ ReadyState → (info : DiskInfo) × (found ≡ Ready info)
  boot_ready Unserved none is = absurd none
  boot_ready (Ready info) e is = (info, refl)
  boot_ready (Unready state) e is = absurd (subst (λ (its : Shown). BacksState (serial_of wanted) its port.0 new) is e.state_is_backed)

  -- A boot that finds a disk leaves nothing of before in PxSERR; and where no disk came, no link is due.
  pub record LeavesClear : Type 0 where
    pub clear : SerrShowsOnlyNewPlugs port.0 old new
    pub undue : NoDiskComes port.0 old new → (new.port port.0).link_due ≡ false

  early_clear : (state : Shown) → state ≢ Absent → EndsBeforeStart port state old new → LeavesClear
  early_clear state other e = let f = e.is_clear_and_up_unless_plug_events (λ none. other (subst (IsStateOfFault state) none e.state_is)) in record { clear = f.serr_shows_only_new_plugs; undue = f.no_link_is_due }

  late_clear : EndsAfterStart port old new → LeavesClear
  late_clear e = record { clear = e.serr_shows_only_new_plugs; undue = λ none. e.no_link_is_due }

  unready_clear : (state : Shown) → EndsUnready (serial_of wanted) port state old new → ShowsDisk state → LeavesClear
  unready_clear Absent x shows = absurd shows
  unready_clear Dead x shows = absurd shows
  unready_clear ReadyState x shows = absurd x.state_is_backed
  unready_clear Foreign x shows = late_clear (x.stopped_state_ends_after_start tt)
  unready_clear (Unfit n) x shows = ⊎_elim
      (λ (seven : n ≡ 7). early_clear (Unfit n) no (x.unstarted_state_ends_before_start (inl seven)))
      (λ (not_seven : n ≢ 7). ⊎_elim
      (λ (eight : n ≡ 8). early_clear (Unfit n) no (x.unstarted_state_ends_before_start (inr eight)))
      (λ (not_eight : n ≢ 8). late_clear (x.stopped_state_ends_after_start (not_seven, not_eight)))
      (cases_eq n 8))
      (cases_eq n 7)
    where
      no : Unfit n ≢ Absent
      no is = let z : Unfit n ≡ Absent = is in cc

  pub boot_clear : (found : ProbeResult) → EndsReadyOrUnready wanted port found old new → ShowsDisk (state_of found) → LeavesClear
  boot_clear Unserved none shows = absurd none
  boot_clear (Ready info) e shows = record { clear = e.shows_only_new_errors.serr_shows_only_new_plugs; undue = λ none. (e.shows_only_new_errors.faults_are_on_record e.ready.runs.st_is_set).no_link_is_due }
  boot_clear (Unready state) e shows = unready_clear state e shows
