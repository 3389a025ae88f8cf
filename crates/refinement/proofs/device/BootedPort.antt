-- A port that was started with its link up, and what tells that it runs well.
use Rattle.std.proofs.Common.{ℕ, ◌≡◌, true, false, length, refl, sym, ◌∙◌, ap, subst, Bool}
use Rattle.std.proofs.lemmas.Bool.{cond-false}
use Rattle.ata_types.specs.declared.Port.{Port}
use Rattle.hba_regs.specs.Bits.{bit}
use Rattle.hba_regs.specs.declared.reg.Reg.TheVariants.{Px}
use Rattle.hba_regs.specs.declared.reg.PortReg.TheVariants.{Is, Cmd, Serr}
use Rattle.adapter.specs.Access.{Reads, Writes, port_after_st_write, port_after_fre_write}
use Rattle.adapter.specs.Access.Access.{Reading}
use Rattle.adapter.specs.Device.{DevicePort, Device}
use Rattle.adapter.specs.KeptBySteps.{KeepsOverSteps}
use Rattle.adapter.proofs.Changed.{changed_same}
use Rattle.refinement.specs.StepLaws.{StepLaws}
use Rattle.refinement.specs.PortFacts.{RunsWell, Undisturbed, ShowsNoTrouble, PxisValueTellsNoTrouble, ClearsNoTrouble}
use Rattle.refinement.specs.PreservedParts.{NoPlugEvents}
use Rattle.refinement.specs.StartedPort.{IsUpForStart, IsStarted}
use Rattle.refinement.proofs.device.RisingLink.{steps_up}
use Rattle.refinement.proofs.device.HealthyPort.{written_tape}
use Rattle.refinement.proofs.device.PortControls.{plugs_before, undisturbed_plugs}
use Rattle.refinement.proofs.device.RunningPort.{access_started, well_of, reading_clears}
use Rattle.refinement.proofs.device.TroubleBits.{told_calm, reads_show, writes_show}

-- ST goes to 1
started_now : (v tape : ℕ) (p : DevicePort) → bit v 0 ≡ true → p.st ≡ false → IsUpForStart p → IsStarted (port_after_fre_write (bit v 4) (port_after_st_write (bit v 0) tape p))
started_now v tape p on off u =
    subst (λ (b : Bool). IsStarted (port_after_fre_write (bit v 4) (port_after_st_write b tape p))) (sym on)
    (subst (λ (x : DevicePort). IsStarted (port_after_fre_write (bit v 4) x)) (sym (cond-false p.st p _ off))
    (record { st_is_set = refl; cr_is_set = refl; det_is_3 = u.det_is_3; present = u.present; fresh = u.fresh; no_link_is_due = u.no_link_is_due; is_not_halted = u.start_ends_halt; is_not_broken = refl }))

module _ (laws : StepLaws) (port : Port) (v : ℕ) (old new : Device) (off : old.hr ≡ false) (stopped : (old.port port.0).st ≡ false) (stands : (old.port port.0).cr ≡ false) (on : bit v 0 ≡ true) (call : Writes (Px port Cmd) v old new) (up : IsUpForStart (old.port port.0)) where
  pub start_of_up_port_is_started : NoPlugEvents port.0 old new → IsStarted (new.port port.0)
  start_of_up_port_is_started none =
      let k : KeepsOverSteps old call.at_access = laws.steps_keep _ _ call.steps in
      let before : NoPlugEvents port.0 old call.at_access = plugs_before port.0 old call.at_access new (ap (λ (d : Device). d.tape) call.effect ∙ written_tape (Px port Cmd) v call.at_access) none in
      subst IsStarted (sym (ap (λ (d : Device). d.port port.0) call.effect ∙ changed_same call.at_access.port port.0 _))
      (started_now v (length call.at_access.tape) (call.at_access.port port.0) on ((k.port_bits_only_fall port.0).st_stays_clear stopped) (steps_up laws port.0 old call.at_access off stands before call.steps up))

-- PxIS tells of no trouble on a port that was started
pub well_is_told : StepLaws → (port : Port) (v : ℕ) (old new : Device) → old.hr ≡ false → Reads (Px port Is) v old new → PxisValueTellsNoTrouble v → IsStarted (old.port port.0) → RunsWell (new.port port.0)
well_is_told laws port v old new off call calm h =
    let shows : ShowsNoTrouble (new.port port.0) = told_calm laws port v old new off call calm in
    let u : Undisturbed port.0 old new = (reads_show laws port.0 (Px port Is) v old new off call shows).1 in
    well_of (new.port port.0) (access_started laws port (Reading (Px port Is) v) old new off (reading_clears port (Px port Is) v) tt u call h) shows

-- a write of PxCMD clears no bit
command_clears : (port : Port) (v : ℕ) → ClearsNoTrouble port (Px port Cmd) v
command_clears port v = record {
  pxis_trouble_is_kept = λ e. absurd (let z : Px port Cmd ≡ Px port Is = e in cc);
  serr_trouble_is_kept = λ e. absurd (let z : Px port Cmd ≡ Px port Serr = e in cc);
}

-- ST is set, and PxIS tells of no trouble then
pub well_is_found : StepLaws → (port : Port) (v causes : ℕ) (old mid new : Device) → old.hr ≡ false → (old.port port.0).st ≡ false → (old.port port.0).cr ≡ false → bit v 0 ≡ true → IsUpForStart (old.port port.0) →
    Writes (Px port Cmd) v old mid → Reads (Px port Is) causes mid new → PxisValueTellsNoTrouble causes → RunsWell (new.port port.0)
well_is_found laws port v causes old mid new off stopped stands on up start call calm =
    let off_mid : mid.hr ≡ false = ap (λ (d : Device). d.hr) start.effect ∙ ((laws.steps_keep _ _ start.steps).keeps_outside_reset off).no_reset in
    let late = reads_show laws port.0 (Px port Is) causes mid new off_mid call (told_calm laws port causes mid new off_mid call calm) in
    let early = writes_show laws port (Px port Cmd) v old mid off (command_clears port v) start late.0 in
    (well_is_told laws) port causes mid new off_mid call calm
    (start_of_up_port_is_started laws port v old mid off stopped stands on start up (undisturbed_plugs port.0 old mid early.1))
