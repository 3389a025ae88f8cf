-- What readings and writes leave of the faults since ST was set.
use Rattle.std.proofs.Common.{ℕ, ◌≡◌, ◌⊎◌, Bool, true, false, not, List, length, refl, sym, subst, inl, inr, ⊎_elim, le_refl}
use Rattle.std.specs.Prelude.{if◌then◌else◌}
use Rattle.std.proofs.lemmas.Bool.{cond-true, cond-false, and_parts, or_left, both_ways}
use Rattle.ata_types.specs.declared.Port.{Port}
use Rattle.hba_regs.specs.Bits.{bit}
use Rattle.hba_regs.specs.declared.reg.Reg.{Reg}
use Rattle.hba_regs.specs.declared.reg.Reg.TheVariants.{Cap, Ghc, Pi, Vs, Cap2, Bohc, Px}
use Rattle.hba_regs.specs.declared.reg.Reg.TheVariants as adapter
use Rattle.hba_regs.specs.declared.reg.PortReg.TheVariants.{Clb, Clbu, Fb, Fbu, Is, Ie, Cmd, Tfd, Sig, Ssts, Sctl, Serr, Sact, Ci}
use Rattle.adapter.specs.Access.{Reads, Writes, device_after_reading, device_after_write, port_after_write, port_after_st_write, port_after_fre_write, port_after_hba_is_write}
use Rattle.adapter.specs.Device.{DevicePort, Device}
use Rattle.adapter.specs.Memory.{changed}
use Rattle.adapter.specs.Rules.{MayWrite, IsStable}
use Rattle.adapter.specs.Steps.{halt_after_start}
use Rattle.adapter.specs.declared.tape.Entry.{Entry}
use Rattle.refinement.specs.PortFacts.{RecordsFaultsIfSt, IsCleanToStart, StartsCleanAndWritesSctlStopped}
use Rattle.refinement.proofs.steps.AdapterCalls.{noted_tape, note_times}
use Rattle.refinement.proofs.device.HealthyPort.{at_port}
use Rattle.refinement.proofs.device.RecordedFaults.{SameRecord, same_with, recorded_on, restarted_faulted, steps_recorded, stopped_recorded}

-- ---- readings

noted_recorded : (port : ℕ) (r : Reg) (v : ℕ) (d : Device) → RecordsFaultsIfSt d.tape (d.port port) port → RecordsFaultsIfSt d.tape ((device_after_reading r v d).port port) port
noted_recorded port (Px p r) v d h = at_port (λ x. RecordsFaultsIfSt d.tape x port) (λ x. RecordsFaultsIfSt d.tape x port) d p.0 port _ h
    (λ e x. recorded_on d.tape (d.port p.0) _ port (record { st = refl; set_at = (note_times r v (d.port p.0)).0; linked = refl; flag = λ f. f; halt = refl; tfd = refl; used = λ slot u. u }) x)
    (λ ne x. x)
noted_recorded port Cap v d h = h
noted_recorded port Ghc v d h = h
noted_recorded port adapter.Is v d h = h
noted_recorded port Pi v d h = h
noted_recorded port Vs v d h = h
noted_recorded port Cap2 v d h = h
noted_recorded port Bohc v d h = h

pub reads_recorded : (port : ℕ) (r : Reg) (v : ℕ) (old new : Device) → Reads r v old new → RecordsFaultsIfSt old.tape (old.port port) port → RecordsFaultsIfSt new.tape (new.port port) port
reads_recorded port r v old new call h =
    subst (λ (d : Device). RecordsFaultsIfSt d.tape (d.port port) port) (sym call.effect)
    (subst (λ (tape : List Entry). RecordsFaultsIfSt tape ((device_after_reading r v call.at_access).port port) port) (sym (noted_tape r v call.at_access))
    (noted_recorded port r v call.at_access (steps_recorded port old call.at_access call.steps h)))

-- ---- writes

module _ (tape : List Entry) (p : DevicePort) (port v : ℕ) (h : RecordsFaultsIfSt tape p port) where
  -- ST is set on a quiet port: nothing is recorded yet
  started_recorded : IsCleanToStart p → RecordsFaultsIfSt tape (record p { st = true; cr = true; broken = false; halt = halt_after_start p.halt; notes = record p.notes { st_set_at = length tape } }) port
  started_recorded q st = record {
    st_set_is_on_tape = le_refl (length tape);
    no_link_is_due = q.no_link_is_due;
    tfes_tells_fault = λ f. absurd (both_ways _ q.is_stopped_tfes_clear.1 f);
    shows_last_fault = λ f. restarted_faulted p.halt f;
  }

  fre_recorded : (fre : Bool) (x : DevicePort) → RecordsFaultsIfSt tape x port → RecordsFaultsIfSt tape (port_after_fre_write fre x) port
  fre_recorded fre x r = recorded_on tape x (port_after_fre_write fre x) port (same_with x _ _ _ _ _ _ _ _ _ _ _ _ _ _ _) r

  command_recorded : (bit v 0 ≡ true → (p.st ≡ true) ⊎ IsCleanToStart p) → RecordsFaultsIfSt tape (port_after_write Cmd v (length tape) p) port
  command_recorded may = fre_recorded (bit v 4) (port_after_st_write (bit v 0) (length tape) p) (by (bit v 0) refl p.st refl)
    where
      by : (b : Bool) → bit v 0 ≡ b → (s : Bool) → p.st ≡ s → RecordsFaultsIfSt tape (port_after_st_write b (length tape) p) port
      by false e s is = stopped_recorded tape _ port refl
      by true e true is = subst (λ (x : DevicePort). RecordsFaultsIfSt tape x port) (sym (cond-true p.st p _ is)) h
      by true e false is = subst (λ (x : DevicePort). RecordsFaultsIfSt tape x port) (sym (cond-false p.st p _ is))
          (⊎_elim (λ (on : p.st ≡ true). absurd (both_ways _ is on)) (λ (q : IsCleanToStart p). started_recorded q) (may e))

  acknowledged_recorded : RecordsFaultsIfSt tape (if bit v port then port_after_hba_is_write p else p) port
  acknowledged_recorded = by (bit v port)
    where
      by : (b : Bool) → RecordsFaultsIfSt tape (if b then port_after_hba_is_write p else p) port
      by true = recorded_on tape p _ port (record { st = refl; set_at = refl; linked = refl; flag = λ f. f; halt = refl; tfd = refl; used = λ slot u. u }) h
      by false = h

-- a write that leaves the port as its record sees it
module _ (port : ℕ) (d : Device) (h : RecordsFaultsIfSt d.tape (d.port port) port) where
  same_recorded : (p : ℕ) (new : DevicePort) → SameRecord (d.port p) new → RecordsFaultsIfSt d.tape (changed d.port p new port) port
  same_recorded p new same = at_port (λ x. RecordsFaultsIfSt d.tape x port) (λ x. RecordsFaultsIfSt d.tape x port) d p port new h (λ e x. recorded_on d.tape (d.port p) new port same x) (λ ne x. x)

  issued_recorded : (p : Port) (v : ℕ) → RecordsFaultsIfSt (device_after_write (Px p Ci) v d).tape ((device_after_write (Px p Ci) v d).port port) port
  issued_recorded p v = same_recorded p.0 _ (record {
    st = refl;
    set_at = refl;
    linked = refl;
    flag = λ f. f;
    halt = refl;
    tfd = refl;
    used = λ slot u. ⊎_elim (λ (set : (d.port p.0).ci slot ≡ true). inl (or_left _ _ set)) (λ t. inr t) u;
  })

  written_recorded : (r : Reg) (v : ℕ) → MayWrite r v d → StartsCleanAndWritesSctlStopped r v d → RecordsFaultsIfSt (device_after_write r v d).tape ((device_after_write r v d).port port) port
  written_recorded Ghc v may x = h
  written_recorded adapter.Is v may x = acknowledged_recorded d.tape (d.port port) port v h
  written_recorded (Px p Clb) v may x = same_recorded p.0 _ (same_with (d.port p.0) _ _ _ _ _ _ _ _ _ _ _ _ _ _ _)
  written_recorded (Px p Clbu) v may x = same_recorded p.0 _ (same_with (d.port p.0) _ _ _ _ _ _ _ _ _ _ _ _ _ _ _)
  written_recorded (Px p Fb) v may x = same_recorded p.0 _ (same_with (d.port p.0) _ _ _ _ _ _ _ _ _ _ _ _ _ _ _)
  written_recorded (Px p Fbu) v may x = same_recorded p.0 _ (same_with (d.port p.0) _ _ _ _ _ _ _ _ _ _ _ _ _ _ _)
  written_recorded (Px p Ie) v may x = same_recorded p.0 _ (same_with (d.port p.0) _ _ _ _ _ _ _ _ _ _ _ _ _ _ _)
  written_recorded (Px p Serr) v may x = same_recorded p.0 _ (same_with (d.port p.0) _ _ _ _ _ _ _ _ _ _ _ _ _ _ _)
  written_recorded (Px p Sact) v may x = same_recorded p.0 _ (same_with (d.port p.0) _ _ _ _ _ _ _ _ _ _ _ _ _ _ _)
  written_recorded (Px p Is) v may x = same_recorded p.0 _ (record { st = refl; set_at = refl; linked = refl; flag = λ f. (and_parts ((d.port p.0).is 30) (not (bit v 30)) f).0; halt = refl; tfd = refl; used = λ slot u. u })
  written_recorded (Px p Ci) v may x = issued_recorded p v
  written_recorded (Px p Cmd) v may x = at_port (λ y. RecordsFaultsIfSt d.tape y port) (λ y. RecordsFaultsIfSt d.tape y port) d p.0 port _ h (λ e y. command_recorded d.tape (d.port p.0) port v y x) (λ ne y. y)
  written_recorded (Px p Sctl) v may x = at_port (λ y. RecordsFaultsIfSt d.tape y port) (λ y. RecordsFaultsIfSt d.tape y port) d p.0 port _ h (λ e y. stopped_recorded d.tape _ port may.2.0) (λ ne y. y)
  written_recorded (Px p Tfd) v may x = absurd may.2
  written_recorded (Px p Sig) v may x = absurd may.2
  written_recorded (Px p Ssts) v may x = absurd may.2
  written_recorded Cap v may x = absurd may
  written_recorded Pi v may x = absurd may
  written_recorded Vs v may x = absurd may
  written_recorded Cap2 v may x = absurd may
  written_recorded Bohc v may x = absurd may

pub writes_recorded : (port : ℕ) (r : Reg) (v : ℕ) (old new : Device) → IsStable (MayWrite r v) old → IsStable (StartsCleanAndWritesSctlStopped r v) old → Writes r v old new →
    RecordsFaultsIfSt old.tape (old.port port) port → RecordsFaultsIfSt new.tape (new.port port) port
writes_recorded port r v old new may keeps call h =
    subst (λ (d : Device). RecordsFaultsIfSt d.tape (d.port port) port) (sym call.effect)
    (written_recorded port call.at_access (steps_recorded port old call.at_access call.steps h) r v (may call.at_access call.steps) (keeps call.at_access call.steps))

-- commands are issued, on whatever port
pub issues_recorded : (port : ℕ) (at : Port) (v : ℕ) (old new : Device) → Writes (Px at Ci) v old new → RecordsFaultsIfSt old.tape (old.port port) port → RecordsFaultsIfSt new.tape (new.port port) port
issues_recorded port at v old new call h =
    subst (λ (d : Device). RecordsFaultsIfSt d.tape (d.port port) port) (sym call.effect) (issued_recorded port call.at_access (steps_recorded port old call.at_access call.steps h) at v)
