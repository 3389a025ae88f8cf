-- What stands behind a port that isn't ready goes on over a look that found nothing: but for what was read of PxIS and PxSSTS, the port is left to the device.
use Rattle.std.proofs.Common.{ℕ, ◌≡◌, ◌≢◌, ◌≤◌, ◌%◌, ◌==◌, ◌||◌, Bool, true, false, not, List, length, inl, inr, refl, sym, ap, ◌∙◌, subst, eq-eqb, eqb-true}
use Rattle.std.proofs.lemmas.Bool.{false≢true}
use Rattle.ata_types.specs.declared.Port.{Port}
use Rattle.ata_types.specs.declared.PortState.{PortState as Shown}
use Rattle.ata_types.specs.declared.PortState.TheVariants.{Absent, Dead, Foreign, Ready as ReadyState, Unfit}
use Rattle.ata_types.specs.declared.limits.TheConstants.{MOST_READINGS}
use Rattle.hba_regs.specs.Bits.{bit}
use Rattle.hba_regs.specs.declared.reg.PortReg.TheVariants.{Is, Ssts}
use Rattle.hba_regs.specs.declared.reg.Reg.TheVariants.{Px}
use Rattle.adapter.specs.Access.{Reads}
use Rattle.adapter.specs.Access.Access.{Reading}
use Rattle.adapter.specs.Device.{Device, Notes, DevicePort}
use Rattle.adapter.specs.KeptBySteps.{KeepsControlsFlagsRise, PortBitsOnlyFallFreeSlotsStay}
use Rattle.adapter.specs.Rules.{IsOn}
use Rattle.adapter.specs.RegisterEffects.{PortRegisterRead}
use Rattle.adapter.specs.declared.command.Operation.TheVariants.{Identify}
use Rattle.refinement.specs.Fragments.{OnlyDeviceChangesPort, GainsNoMove}
use Rattle.refinement.specs.PreservedParts.{SameAdapter}
use Rattle.host_boot.specs.TakeOver.{StillBacksProbeResult}
use Rattle.host_boot.specs.declared.ProbeResult.TheVariants.{Unready}
use Rattle.identify.specs.Wanted.{serial_of}
use Rattle.identify.specs.declared.wanted.Wanted.{Wanted}
use Rattle.port_boot.specs.States.{BacksState, HasLastIdentifyPage, BacksUnfitNumber}
use Rattle.port_control.specs.Ports.{IsStopped, SawDeviceSinceSctlWrite}
use Rattle.port_control.specs.DeviceChecks.{ChecksForChangeOrNoDevice}
use Rattle.server_history.specs.Prerequisites.{PrerequisiteLaws}
use Rattle.server_history.specs.Probing.{FindsReasonToBoot}
use Rattle.server_history.proofs.state.PortGrounds.{left_on}
use Rattle.server_history.proofs.state.RunningPorts.{link_still}

-- ---- what was read

-- what PxSSTS was read to show, where a port in such a state is what it was
abbrev pub ShowsAsBefore : Shown → ℕ → Type 0
ShowsAsBefore Absent v = v % 16 ≢ 3
ShowsAsBefore state v = v % 16 ≡ 3

-- nothing is told of a change, and a device shows
pub unchanged : (one other there : Bool) → (one || other || not there) ≡ false → (one ≡ false) × (there ≡ true)
unchanged true other there is = absurd (false≢true (sym is))
unchanged false true there is = absurd (false≢true (sym is))
unchanged false false true is = (refl, refl)
unchanged false false false is = absurd (false≢true (sym is))

pub unequal : (m n : ℕ) → (m == n) ≡ false → m ≢ n
unequal m n is same = false≢true (sym is ∙ eq-eqb m n same)

-- ---- a reading of PxSSTS

-- the device, with what readings noted of its ports before
abbrev noted_before : Device → Device → Device
noted_before old new = record new { port = λ q. record (new.port q) { notes = (old.port q).notes } }

-- a port is left to the device, but for what was noted
but_notes : (noted : Notes) (old new : DevicePort) → PortBitsOnlyFallFreeSlotsStay old new → KeepsControlsFlagsRise old new → OnlyDeviceChangesPort (record old { notes = noted }) (record new { notes = noted })
but_notes noted old new k c = record {
  bits_only_fall = record { bases_are_kept = k.bases_are_kept; st_stays_clear = k.st_stays_clear; fre_stays_clear = k.fre_stays_clear; cr_stays_clear = k.cr_stays_clear; fr_stays_clear = k.fr_stays_clear; ci_stays_clear = k.ci_stays_clear; sact_stays_clear = k.sact_stays_clear; none_stays_taken_while_cr_is_clear = k.none_stays_taken_while_cr_is_clear; cr_fall_drops_taken_commands = k.cr_fall_drops_taken_commands; slots_stay_free = k.slots_stay_free };
  controls = record { st_is_kept = c.st_is_kept; fre_is_kept = c.fre_is_kept; sctl_det_is_kept = c.sctl_det_is_kept; ie_is_kept = c.ie_is_kept; causes_stay_set = c.causes_stay_set; ips_is_kept = c.ips_is_kept; serr_n_stays_set = c.serr_n_stays_set; serr_x_stays_set = c.serr_x_stays_set; engine_stays_running = c.engine_stays_running };
  notes = refl;
}

-- PxIS may have been read, and nothing else
abbrev SameButAcknowledged : Notes → Notes → Type 0
SameButAcknowledged old new = new ≡ record old { acknowledged = new.acknowledged }

module _ (laws : PrerequisiteLaws) (wanted : Wanted) (port : Port) (first old new : Device) (v : ℕ) (on : IsOn old) (same : SameAdapter first new)
    (left : OnlyDeviceChangesPort (first.port port.0) (record (old.port port.0) { notes = (first.port port.0).notes })) (noted : SameButAcknowledged (first.port port.0).notes (old.port port.0).notes)
    (reads : Reads (Px port Ssts) v old new) (silent : GainsNoMove port.0 Identify first new) where
  at : PortRegisterRead port.0 Ssts v old new
  at = laws.look_laws.port_register_read port Ssts v old new reads on.no_reset

  abbrev was : Notes
  was = (first.port port.0).notes

  abbrev now : Notes
  now = (new.port port.0).notes

  abbrev before : Device
  before = noted_before first new

  shown : now.last_ssts ≡ v
  shown = ap (λ (n : Notes). n.last_ssts) at.notes

  busy : now.busy_count ≡ was.busy_count
  busy = ap (λ (n : Notes). n.busy_count) at.notes ∙ ap (λ (n : Notes). n.busy_count) noted

  commands : now.slot0_issued_count ≡ was.slot0_issued_count
  commands = ap (λ (n : Notes). n.slot0_issued_count) at.notes ∙ ap (λ (n : Notes). n.slot0_issued_count) noted

  file : now.last_tfd ≡ was.last_tfd
  file = ap (λ (n : Notes). n.last_tfd) at.notes ∙ ap (λ (n : Notes). n.last_tfd) noted

  signature : now.last_sig ≡ was.last_sig
  signature = ap (λ (n : Notes). n.last_sig) at.notes ∙ ap (λ (n : Notes). n.last_sig) noted

  written : now.sctl_written_at ≡ was.sctl_written_at
  written = ap (λ (n : Notes). n.sctl_written_at) at.notes ∙ ap (λ (n : Notes). n.sctl_written_at) noted

  counted : was.link_wait_count ≡ MOST_READINGS → now.link_wait_count ≡ MOST_READINGS
  counted count = link_still laws port (Reading (Px port Ssts) v) old new on tt reads (ap (λ (n : Notes). n.link_wait_count) noted ∙ count)

  -- but for that, the port is left to the device
  left_before : OnlyDeviceChangesPort (first.port port.0) (before.port port.0)
  left_before =
      laws.look_laws.leaves_port_is_transitive (first.port port.0) (record (old.port port.0) { notes = was }) (before.port port.0) left
      (but_notes was (old.port port.0) (new.port port.0) (at.keeps.ports_keep_what_steps_keep port.0) (at.keeps.keeps_outside_reset.controls_are_kept port.0))

  stopped : IsStopped (before.port port.0) → IsStopped (new.port port.0)
  stopped s = record { engine_is_stopped = record { st_is_clear = s.engine_is_stopped.st_is_clear; cr_is_clear = s.engine_is_stopped.cr_is_clear; no_command_is_issued = s.engine_is_stopped.no_command_is_issued; no_command_is_taken = s.engine_is_stopped.no_command_is_taken }; sact_is_clear = s.sact_is_clear }

  paged : (page : List ℕ) → HasLastIdentifyPage port.0 before page → HasLastIdentifyPage port.0 new page
  paged page h = record {
    before = h.before;
    move = h.move;
    later = h.later;
    tape_is = h.tape_is;
    came_after_sctl = subst (λ (n : ℕ). n ≤ length h.before) (sym written) h.came_after_sctl;
    is_move = h.is_move;
    no_later_page = h.no_later_page;
    bytes_are = h.bytes_are;
  }

  saw : v % 16 ≡ 3 → SawDeviceSinceSctlWrite was → SawDeviceSinceSctlWrite now
  saw shows s = (ap (λ (n : ℕ). n % 16) shown ∙ shows, counted s.1)

  unfit : v % 16 ≡ 3 → (n : ℕ) → BacksUnfitNumber n port.0 before → BacksUnfitNumber n port.0 new
  unfit shows n (inl (is, its)) = inl (is, (saw shows its.0, busy ∙ its.1))
  unfit shows n (inr (inl (is, (other, its)))) = inr (inl (is, (other, (saw shows its.0, ap idle file ∙ its.1, signature ∙ its.2, its.3))))
    where
      idle : ℕ → Bool
      idle tfd = bit tfd 7 || bit tfd 3
  unfit shows n (inr (inr (inl (is, its, count)))) = inr (inr (inl (is, saw shows its, commands ∙ count)))
  unfit shows n (inr (inr (inr (page, has, fault)))) = inr (inr (inr (page, paged page has, fault)))

  ends : (state : Shown) → state ≢ Dead → ShowsAsBefore state v → BacksState (serial_of wanted) state port.0 before → BacksState (serial_of wanted) state port.0 new
  ends Absent lives out (s, its) = (stopped s, ((λ shows. out (sym (ap (λ (n : ℕ). n % 16) shown) ∙ shows)), counted its.1))
  ends (Unfit n) lives shows (s, its) = (stopped s, unfit shows n its)
  ends Foreign lives shows (s, (page, has, other)) = (stopped s, (page, paged page has, other))
  ends Dead lives shows e = absurd (lives refl)
  ends ReadyState lives shows none = absurd none

  stands : (state : Shown) → state ≢ Dead → ShowsAsBefore state v → StillBacksProbeResult wanted (Unready state) port.0 first → StillBacksProbeResult wanted (Unready state) port.0 new
  stands state lives shows s =
      let x = left_on laws wanted (Unready state) port.0 first before (record { disks_tell_sectors = same.disks_tell_sectors; memory_size = same.memory_size; cap = same.cap; pi = same.pi }) left_before (λ _. silent) s in
      (x.0, ends state lives shows x.1)

-- ---- a look

pub looked_stands : (laws : PrerequisiteLaws) (wanted : Wanted) (port : Port) (state : Shown) (result : Bool) (old new : Device) → IsOn old → state ≢ Dead → FindsReasonToBoot state port result old new → result ≡ false → SameAdapter old new
    → GainsNoMove port.0 Identify old new → StillBacksProbeResult wanted (Unready state) port.0 old → StillBacksProbeResult wanted (Unready state) port.0 new
looked_stands laws wanted port state result old new on lives looks none same silent s = by state lives looks s
  where
    change : (its : Shown) → its ≢ Dead → (ShowsAsBefore its ≡ (λ v. v % 16 ≡ 3)) → ChecksForChangeOrNoDevice port result old new → StillBacksProbeResult wanted (Unready its) port.0 old → StillBacksProbeResult wanted (Unready its) port.0 new
    change its alive kind f behind =
        let first = laws.look_laws.port_register_read port Is f.causes old f.after_is_read f.reads on.no_reset in
        let there = laws.port_event_laws.access_keeps_on (Reading (Px port Is) f.causes) old f.after_is_read on (λ v e. absurd cc) f.reads in
        let link : (f.status % 16) ≡ 3 = eqb-true (f.status % 16) 3 (unchanged (bit f.causes 6) (bit f.causes 22) (f.status % 16 == 3) (sym f.result_is ∙ none)).1 in
        let was : Notes = (old.port port.0).notes in
        let noted : SameButAcknowledged was (f.after_is_read.port port.0).notes =
        first.notes ∙ ap (λ (yes : Bool). record was { acknowledged = yes }) (sym (ap (λ (n : Notes). n.acknowledged) first.notes)) in
        stands laws wanted port old f.after_is_read new f.status there same (but_notes was (old.port port.0) (f.after_is_read.port port.0) (first.keeps.ports_keep_what_steps_keep port.0) (first.keeps.keeps_outside_reset.controls_are_kept port.0)) noted f.reads_status silent its alive (subst (λ (P : ℕ → Type 0). P f.status) (sym kind) link) behind

    by : (its : Shown) → its ≢ Dead → FindsReasonToBoot its port result old new → StillBacksProbeResult wanted (Unready its) port.0 old → StillBacksProbeResult wanted (Unready its) port.0 new
    by Absent alive f behind = stands laws wanted port old old new f.status on same (laws.look_laws.leaves_port_is_reflexive (old.port port.0)) refl f.reads silent Absent alive (unequal (f.status % 16) 3 (sym f.result_is ∙ none)) behind
    by Foreign alive f behind = change Foreign alive refl f behind
    by (Unfit cause) alive f behind = change (Unfit cause) alive refl f behind
    by Dead alive f behind = absurd (alive refl)
    by ReadyState alive f behind = absurd behind.1
