-- What accesses leave of ports that they aren't of: what stands behind a port goes on.
use Rattle.std.proofs.Common.{ℕ, false, ◌≡◌, ◌≢◌, ◌≤◌, refl, sym, ◌∙◌, ap, subst}
use Rattle.ata_types.specs.declared.PortState.TheVariants.{Absent, Ready as ReadyState, Foreign, Unfit, Dead}
use Rattle.hba_regs.specs.Bits.{bit}
use Rattle.hba_regs.specs.declared.reg.Reg.TheVariants.{Cap, Ghc, Pi}
use Rattle.adapter.specs.Access.{Reads, Writes}
use Rattle.adapter.specs.Device.{Notes, Device}
use Rattle.adapter.specs.Device as device
use Rattle.adapter.specs.Idle.{IsIdlePort}
use Rattle.adapter.specs.KeptBySteps.{KeepsOverSteps, KeepsOutsideReset}
use Rattle.adapter.specs.Steps.{Steps}
use Rattle.adapter.specs.declared.command.Operation.TheVariants.{Identify}
use Rattle.refinement.specs.Fragments.{OnlyDeviceChangesPort, GainsNoMove}
use Rattle.refinement.specs.PreservedParts.{SameAdapter}
use Rattle.identify.specs.Wanted.{serial_of}
use Rattle.identify.specs.declared.wanted.Wanted.{Wanted}
use Rattle.host_boot.specs.TakeOver.{IsWantedAndImplemented, KeepsWhatBacksProbeResult, BacksProbeResult, StillBacksProbeResult, WroteSctlUnlessUnservedOrDead}
use Rattle.host_boot.specs.declared.ProbeResult.{ProbeResult}
use Rattle.host_boot.specs.declared.ProbeResult.TheVariants.{Unserved, Ready, Unready}
use Rattle.host_boot.specs.Laws.{ProbeResultLaws, Laws}

module _ (old new : device.DevicePort) (l : OnlyDeviceChangesPort old new) where
  pub idle_on : IsIdlePort old → IsIdlePort new
  idle_on i = record {
    st_is_clear = l.bits_only_fall.st_stays_clear i.st_is_clear;
    cr_is_clear = l.bits_only_fall.cr_stays_clear i.cr_is_clear;
    fre_is_clear = l.bits_only_fall.fre_stays_clear i.fre_is_clear;
    fr_is_clear = l.bits_only_fall.fr_stays_clear i.fr_is_clear;
    ci_is_clear = λ slot. l.bits_only_fall.ci_stays_clear slot (i.ci_is_clear slot);
    sact_is_clear = λ slot. l.bits_only_fall.sact_stays_clear slot (i.sact_is_clear slot);
    none_is_taken = l.bits_only_fall.none_stays_taken_while_cr_is_clear i.cr_is_clear i.none_is_taken;
  }

module _ (port : ℕ) (old new : Device) (same : SameAdapter old new) (wanted : Wanted) where
  served_on : IsWantedAndImplemented wanted port old → IsWantedAndImplemented wanted port new
  served_on (is, there) = (is, ap (λ (pi : ℕ). bit pi port) same.pi ∙ there)

  served_back : IsWantedAndImplemented wanted port new → IsWantedAndImplemented wanted port old
  served_back (is, there) = (is, ap (λ (pi : ℕ). bit pi port) (sym same.pi) ∙ there)

-- a port of which a boot found anything is served
pub is_served : (wanted : Wanted) (port : ℕ) (d : Device) (found : ProbeResult) → found ≢ Unserved → BacksProbeResult wanted found port d → IsWantedAndImplemented wanted port d
is_served wanted port d Unserved other h = absurd (other refl)
is_served wanted port d (Ready info) other h = h.0
is_served wanted port d (Unready state) other h = h.0

pub boots_begin : (wanted : Wanted) (found : ProbeResult) (port : ℕ) (d : Device) → BacksProbeResult wanted found port d → StillBacksProbeResult wanted found port d
boots_begin wanted Unserved port d h = h
boots_begin wanted (Ready info) port d (is, ready) = (is, ready.has_fit_disk)
boots_begin wanted (Unready state) port d h = h

module _ (port : ℕ) (old new : Device) (l : OnlyDeviceChangesPort (old.port port) (new.port port)) where
  pub reset_on : (found : ProbeResult) (since : ℕ) → WroteSctlUnlessUnservedOrDead found port since old → WroteSctlUnlessUnservedOrDead found port since new
  reset_on Unserved since is = is
  reset_on (Ready info) since is = subst (λ (k : Notes). since ≤ k.sctl_written_at) (sym l.notes) is
  reset_on (Unready Absent) since is = subst (λ (k : Notes). since ≤ k.sctl_written_at) (sym l.notes) is
  reset_on (Unready ReadyState) since is = subst (λ (k : Notes). since ≤ k.sctl_written_at) (sym l.notes) is
  reset_on (Unready Foreign) since is = subst (λ (k : Notes). since ≤ k.sctl_written_at) (sym l.notes) is
  reset_on (Unready (Unfit n)) since is = subst (λ (k : Notes). since ≤ k.sctl_written_at) (sym l.notes) is
  reset_on (Unready Dead) since is = is

module _ (laws : ProbeResultLaws) where
  -- ---- what stands behind it

  module _ (port : ℕ) (old new : Device) (l : OnlyDeviceChangesPort (old.port port) (new.port port)) where
    pub stands_on : SameAdapter old new → (wanted : Wanted) (found : ProbeResult) → (found ≢ Unready Dead → GainsNoMove port Identify old new)
        → BacksProbeResult wanted found port old → BacksProbeResult wanted found port new
    stands_on same wanted Unserved silent (not, idle) = (λ is. not (served_back port old new same wanted is), idle_on (old.port port) (new.port port) l idle)
    stands_on same wanted (Ready info) silent (is, ready) = (served_on port old new same wanted is, laws.ready_port_stays_backed (serial_of wanted) port old new info l (silent (λ e. absurd cc)) ready)
    stands_on same wanted (Unready state) silent (is, ends) =
        (served_on port old new same wanted is, laws.state_stays_backed (serial_of wanted) state port old new l (λ other. silent (λ e. other (let k : Unready state ≡ Unready Dead = e in cc))) ends)

  pub still_on : (wanted : Wanted) (found : ProbeResult) (port : ℕ) (old new : Device) → SameAdapter old new → KeepsWhatBacksProbeResult found (old.port port) (new.port port) →
      (found ≢ Unready Dead → GainsNoMove port Identify old new) → StillBacksProbeResult wanted found port old → StillBacksProbeResult wanted found port new
  still_on wanted Unserved port old new same left silent h = stands_on port old new left same wanted Unserved silent h
  still_on wanted (Ready info) port old new same left silent (is, disk) =
      (served_on port old new same wanted is, laws.fit_disk_stays (serial_of wanted) port old new info (silent (λ e. absurd cc)) left.0 left.1 left.2 disk)
  still_on wanted (Unready state) port old new same left silent h = stands_on port old new left same wanted (Unready state) silent h

module _ (laws : Laws) where
  -- ---- what the device does by itself, and accesses of the adapter's own registers

  pub steps_same : (old new : Device) → Steps old new → SameAdapter old new
  steps_same old new s = let k : KeepsOverSteps old new = laws.steps_keep_adapter_and_notes _ _ s in record { disks_tell_sectors = k.disks_tell_sectors_is_kept; memory_size = k.memory_size_is_kept; cap = k.cap_is_kept; pi = k.pi_is_kept }

  module _ (old : Device) (off : old.hr ≡ false) (port : ℕ) where
    pub steps_leave : (mid : Device) → Steps old mid → OnlyDeviceChangesPort (old.port port) (mid.port port)
    steps_leave mid s =
        let k : KeepsOverSteps old mid = laws.steps_keep_adapter_and_notes _ _ s in
        let c : KeepsOutsideReset old mid = k.keeps_outside_reset off in
        record { bits_only_fall = k.port_bits_only_fall port; controls = c.controls_are_kept port; notes = k.notes_are_kept port }

    pub cap_leaves : (v : ℕ) (new : Device) → Reads Cap v old new → OnlyDeviceChangesPort (old.port port) (new.port port)
    cap_leaves v new call = subst (λ (d : Device). OnlyDeviceChangesPort (old.port port) (d.port port)) (sym call.effect) (steps_leave call.at_access call.steps)

    pub pi_leaves : (v : ℕ) (new : Device) → Reads Pi v old new → OnlyDeviceChangesPort (old.port port) (new.port port)
    pi_leaves v new call = subst (λ (d : Device). OnlyDeviceChangesPort (old.port port) (d.port port)) (sym call.effect) (steps_leave call.at_access call.steps)

    pub ghc_leaves : (v : ℕ) (new : Device) → Writes Ghc v old new → OnlyDeviceChangesPort (old.port port) (new.port port)
    ghc_leaves v new call = subst (λ (d : Device). OnlyDeviceChangesPort (old.port port) (d.port port)) (sym call.effect) (steps_leave call.at_access call.steps)
