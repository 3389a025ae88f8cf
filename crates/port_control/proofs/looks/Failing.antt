-- A look that tells of a command that failed finds the fault.
use Rattle.std.proofs.Common.{ℕ, ◌≡◌, ◌≢◌, ◌%◌, true, sym, ◌∙◌, ap}
use Rattle.ata_types.specs.declared.Port.{Port}
use Rattle.hba_regs.specs.declared.reg.Reg.{Reg}
use Rattle.hba_regs.specs.declared.reg.Reg.TheVariants as reg
use Rattle.hba_regs.specs.declared.reg.Reg.TheVariants.{Px}
use Rattle.hba_regs.specs.declared.reg.PortReg.{PortReg}
use Rattle.hba_regs.specs.declared.reg.PortReg.TheVariants.{Cmd, Is, Sctl, Ssts}
use Rattle.adapter.specs.Access.{Access, Does, Reads, Writes}
use Rattle.adapter.specs.Access.Access.{Reading, Writing}
use Rattle.adapter.specs.Device.{Device}
use Rattle.adapter.specs.Rules.{IsOn}
use Rattle.refinement.specs.PortFacts.{IsHaltedByPlainOrQueued, RecordsFaultsIfSt}
use Rattle.refinement.specs.PreservedParts.{DoesNotWrite}
use Rattle.port_control.specs.EventLaws.{Laws}
use Rattle.port_control.specs.PortEvents.{TakesEvent}
use Rattle.port_control.specs.declared.events.PortEvent.TheVariants as look
use Rattle.port_control.proofs.looks.Stretching.{spared_on}
use Rattle.port_control.proofs.looks.Telling.{answered_failed}

-- it runs, with its faults on record, and one has halted it
pub record StandsFaulted (port : Port) (d : Device) : Type 0 where
  pub st : (d.port port.0).st ≡ true
  pub recorded : RecordsFaultsIfSt d.tape (d.port port.0) port.0
  pub halted : IsHaltedByPlainOrQueued (d.port port.0).halt

module _ (laws : Laws) (port : Port) where
  -- what an access leaves that writes neither PxCMD nor PxSCTL
  runs_on : (access : Access) (old new : Device) → IsOn old → DoesNotWrite (Px port Cmd) access → Does access old new → (old.port port.0).st ≡ true → (new.port port.0).st ≡ true
  runs_on access old new on spares does st = ((laws.access_controls port access old new on.no_reset does).command spares).0 ∙ st

  pub reading_on : (r : Reg) (v : ℕ) (old new : Device) → IsOn old → Reads r v old new → StandsFaulted port old → StandsFaulted port new
  reading_on r v old new on reads f = record {
    st = runs_on (Reading r v) old new on tt reads f.st;
    recorded = laws.access_keeps_fault_record port (Reading r v) old new tt tt reads f.recorded;
    halted = laws.read_keeps_faulted port.0 r v old new on.no_reset f.st f.recorded f.halted reads;
  }

  writing_on : (r : Reg) (v : ℕ) (old new : Device) → IsOn old → r ≢ Px port Cmd → r ≢ Px port Sctl → Writes r v old new → StandsFaulted port old → StandsFaulted port new
  writing_on r v old new on command control writes f = record {
    st = runs_on (Writing r v) old new on command writes f.st;
    recorded = laws.access_keeps_fault_record port (Writing r v) old new command control writes f.recorded;
    halted = laws.write_keeps_faulted port.0 r v old new on.no_reset f.st f.recorded f.halted writes;
  }

  -- what another reading leaves of what PxSSTS showed
  pub law_link_is_same_or_comes_up_without_plugs : (r : PortReg) (v : ℕ) (old new : Device) → r ≢ Ssts → Reads (Px port r) v old new → (new.port port.0).notes.last_ssts ≡ (old.port port.0).notes.last_ssts
  law_link_is_same_or_comes_up_without_plugs r v old new other reads = ((laws.access_notes port (Reading (Px port r) v) old new reads).link (λ e. other (let z : Px port r ≡ Px port Ssts = e in cc))).0

  module _ (old new : Device) (on : IsOn old) (l : TakesEvent port look.TaskFileError old new) (st : (old.port port.0).st ≡ true) (recorded : RecordsFaultsIfSt old.tape (old.port port.0) port.0) where
    seen_on : IsOn l.after_is_read
    seen_on = spared_on laws (Reading (Px port Is) l.causes) old l.after_is_read tt l.reads on

    cleared_on : IsOn l.cleared
    cleared_on = spared_on laws (Writing (Px port Is) l.causes) l.after_is_read l.cleared (λ e. cc) l.clears seen_on

    acknowledged_on : IsOn l.acknowledged
    acknowledged_on = spared_on laws (Writing reg.Is l.port_mask) l.cleared l.acknowledged (λ e. cc) l.acknowledges cleared_on

    seen : StandsFaulted port l.after_is_read
    seen = record {
      st = runs_on (Reading (Px port Is) l.causes) old l.after_is_read on tt l.reads st;
      recorded = laws.access_keeps_fault_record port (Reading (Px port Is) l.causes) old l.after_is_read tt tt l.reads recorded;
      halted = laws.tfes_read_means_faulted port l.causes old l.after_is_read on.no_reset st recorded l.reads (answered_failed l.causes l.status (sym l.result_is)).0;
    }

    pub finds_fault : StandsFaulted port new
    finds_fault =
        reading_on (Px port Ssts) l.status l.acknowledged new acknowledged_on l.reads_status
        (writing_on reg.Is l.port_mask l.cleared l.acknowledged cleared_on (λ e. let z : reg.Is ≡ Px port Cmd = e in cc) (λ e. let z : reg.Is ≡ Px port Sctl = e in cc) l.acknowledges
        (writing_on (Px port Is) l.causes l.after_is_read l.cleared seen_on (λ e. let z : Px port Is ≡ Px port Cmd = e in absurd cc) (λ e. let z : Px port Is ≡ Px port Sctl = e in absurd cc) l.clears seen))

    pub finds_link : (new.port port.0).notes.last_ssts % 16 ≡ 3
    finds_link = ap (λ (n : ℕ). n % 16) (laws.last_ssts_is_read port l.status l.acknowledged new l.reads_status) ∙ (answered_failed l.causes l.status (sym l.result_is)).4
