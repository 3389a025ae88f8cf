-- A port that a fault has halted, and what its task file shows.
use Rattle.std.proofs.Common.{ℕ, ◌≡◌, ◌≢◌, ◌<◌, ◌+◌, ◌*◌, ◌/◌, ◌%◌, Bool, true, false, List, length, drop, refl, sym, ◌∙◌, ap, subst, arith}
use Rattle.std.specs.Prelude.{if◌then◌else◌}
use Rattle.std.proofs.lemmas.Bool.{cond-true, both_ways, false≢true}
use Rattle.ata_types.specs.declared.Port.{Port}
use Rattle.hba_regs.specs.Bits.{bit}
use Rattle.hba_regs.specs.declared.reg.Reg.{Reg}
use Rattle.hba_regs.specs.declared.reg.Reg.TheVariants.{Cap, Ghc, Pi, Vs, Cap2, Bohc, Px}
use Rattle.hba_regs.specs.declared.reg.Reg.TheVariants as adapter
use Rattle.hba_regs.specs.declared.reg.PortReg.{PortReg}
use Rattle.hba_regs.specs.declared.reg.PortReg.TheVariants.{Clb, Clbu, Fb, Fbu, Is, Ie, Cmd, Tfd, Sig, Ssts, Sctl, Serr, Sact, Ci}
use Rattle.adapter.specs.Access.{Reads, Writes, device_after_reading, device_after_write, port_after_write, port_after_st_write, port_after_fre_write, port_after_hba_is_write}
use Rattle.adapter.specs.Device.{DevicePort, Device}
use Rattle.adapter.specs.KeptBySteps.{KeepsOverSteps, KeepsOutsideReset}
use Rattle.adapter.specs.Steps.{DeviceTransition, Can, device_after, Steps}
use Rattle.adapter.specs.Steps.DeviceTransition.{Fetch, FetchFault, Move, Clear, Done, Fault, Fatal, Fall, FrFall, LinkUp, Unplug, Plug, ResetEnds, Scribble}
use Rattle.adapter.specs.RegisterEffects.{PortRegisterRead}
use Rattle.adapter.specs.declared.tape.Entry.{Entry}
use Rattle.block_machine.specs.State.{Machine}
use Rattle.refinement.specs.StepLaws.{StepLaws}
use Rattle.refinement.specs.Relation.{StateRelation}
use Rattle.refinement.specs.Slots.{SlotState, Free, SlotStates, RelatesSlot, IsEmptySlot}
use Rattle.refinement.proofs.steps.StillFrames.{over_unused}
use Rattle.refinement.specs.PortFacts.{IsHaltedByPlainOrQueued, ShowsFault, RecordsFaults, RecordsFaultsIfSt}
use Rattle.refinement.proofs.device.AwaitedLink.{leads_keep}
use Rattle.refinement.proofs.device.HealthyPort.{at_port}
use Rattle.refinement.proofs.device.RecordedFaults.{faulted_admits, fault_halts}
use Rattle.refinement.proofs.device.FaultsOverAccesses.{reads_recorded}

-- while ST is 1, a fault has halted the port, and no link is due that ends it
abbrev IsStuck : DevicePort → Type 0
IsStuck p = p.st ≡ true → (p.link_due ≡ false) × IsHaltedByPlainOrQueued p.halt

step_stuck : (d : Device) (port : ℕ) (step : DeviceTransition) → Can step d → IsStuck (d.port port) → IsStuck ((device_after step d).port port)
step_stuck d port (Fetch p slot c places) can h = at_port IsStuck IsStuck d p port _ h (λ e x. x) (λ ne x. x)
step_stuck d port (FetchFault p slot queued kept_bits) can h = at_port IsStuck IsStuck d p port _ h (λ e x st. ((x st).0, fault_halts (d.port p).halt queued)) (λ ne x. x)
step_stuck d port (Move p slot t bytes) can h = at_port IsStuck IsStuck d p port _ h (λ e x. x) (λ ne x. x)
step_stuck d port (Clear p slot t first count) can h = at_port IsStuck IsStuck d p port _ h (λ e x. x) (λ ne x. x)
step_stuck d port (Done p slot flag t) can h = at_port IsStuck IsStuck d p port _ h
    (λ e x st. faulted_admits (d.port p).halt t.meaning.operation (x st).1 can.works.working.admitted) (λ ne x. x)
step_stuck d port (Fault p slot error kept_bits t) can h = at_port IsStuck IsStuck d p port _ h (λ e x st. ((x st).0, fault_halts (d.port p).halt _)) (λ ne x. x)
step_stuck d port (Fatal p place) can h = at_port IsStuck IsStuck d p port _ h (λ e x. x) (λ ne x. x)
step_stuck d port (Fall p) can h = at_port IsStuck IsStuck d p port _ h (λ e x. x) (λ ne x. x)
step_stuck d port (FrFall p) can h = at_port IsStuck IsStuck d p port _ h (λ e x. x) (λ ne x. x)
step_stuck d port (LinkUp p sig n) can h = at_port IsStuck IsStuck d p port _ h (λ e x st. absurd (both_ways _ (x st).0 can.link_is_due)) (λ ne x. x)
step_stuck d port (Unplug p) can h = at_port IsStuck IsStuck d p port _ h (λ e x. x) (λ ne x. x)
step_stuck d port (Plug p disk) can h = at_port IsStuck IsStuck d p port _ h (λ e x. x) (λ ne x. x)
step_stuck d port ResetEnds can h = λ st. absurd (false≢true st)
step_stuck d port (Scribble p slot at bytes) can h = h

module _ (laws : StepLaws) (port : ℕ) (old new : Device) (off : old.hr ≡ false) (st : (old.port port).st ≡ true) (h : RecordsFaultsIfSt old.tape (old.port port) port) (faulted : IsHaltedByPlainOrQueued (old.port port).halt) where
  running : Steps old new → (new.port port).st ≡ true
  running s = let k : KeepsOverSteps old new = laws.steps_keep _ _ s in let on : KeepsOutsideReset old new = k.keeps_outside_reset off in (on.controls_are_kept port).st_is_kept ∙ st

  pub steps_faulted : Steps old new → IsHaltedByPlainOrQueued (new.port port).halt
  steps_faulted s = (leads_keep IsStuck step_stuck port s.steps old new s.lead (λ on. ((h st).no_link_is_due, faulted)) (running s)).1

noted_halt : (port : ℕ) (r : Reg) (v : ℕ) (d : Device) → IsHaltedByPlainOrQueued (d.port port).halt → IsHaltedByPlainOrQueued ((device_after_reading r v d).port port).halt
noted_halt port (Px p r) v d h = at_port (λ x. IsHaltedByPlainOrQueued x.halt) (λ x. IsHaltedByPlainOrQueued x.halt) d p.0 port _ h (λ e x. x) (λ ne x. x)
noted_halt port Cap v d h = h
noted_halt port Ghc v d h = h
noted_halt port adapter.Is v d h = h
noted_halt port Pi v d h = h
noted_halt port Vs v d h = h
noted_halt port Cap2 v d h = h
noted_halt port Bohc v d h = h

pub reads_faulted : StepLaws → (port : ℕ) (r : Reg) (v : ℕ) (old new : Device) → old.hr ≡ false → (old.port port).st ≡ true → RecordsFaultsIfSt old.tape (old.port port) port → IsHaltedByPlainOrQueued (old.port port).halt →
    Reads r v old new → IsHaltedByPlainOrQueued (new.port port).halt
reads_faulted laws port r v old new off st h faulted call =
    subst (λ (d : Device). IsHaltedByPlainOrQueued (d.port port).halt) (sym call.effect) (noted_halt port r v call.at_access (steps_faulted laws port old call.at_access off st h faulted call.steps))

-- no write ends a halt while ST is 1
port_halt : (r : PortReg) (v tape : ℕ) (p : DevicePort) → p.st ≡ true → (port_after_write r v tape p).halt ≡ p.halt
port_halt Cmd v tape p st = by (bit v 0)
  where
    by : (b : Bool) → (port_after_fre_write (bit v 4) (port_after_st_write b tape p)).halt ≡ p.halt
    by true = ap (λ (x : DevicePort). x.halt) (cond-true p.st p _ st)
    by false = refl
port_halt Clb v tape p st = refl
port_halt Clbu v tape p st = refl
port_halt Fb v tape p st = refl
port_halt Fbu v tape p st = refl
port_halt Is v tape p st = refl
port_halt Ie v tape p st = refl
port_halt Tfd v tape p st = refl
port_halt Sig v tape p st = refl
port_halt Ssts v tape p st = refl
port_halt Sctl v tape p st = refl
port_halt Serr v tape p st = refl
port_halt Sact v tape p st = refl
port_halt Ci v tape p st = refl

written_halt : (port : ℕ) (r : Reg) (v : ℕ) (d : Device) → (d.port port).st ≡ true → ((device_after_write r v d).port port).halt ≡ (d.port port).halt
written_halt port (Px p r) v d st = at_port (λ x. x.st ≡ true) (λ x. x.halt ≡ (d.port port).halt) d p.0 port _ st
    (λ e x. port_halt r v (length d.tape) (d.port p.0) x ∙ ap (λ (k : ℕ). (d.port k).halt) e) (λ ne x. refl)
written_halt port adapter.Is v d st = by (bit v port)
  where
    by : (b : Bool) → (if b then port_after_hba_is_write (d.port port) else d.port port).halt ≡ (d.port port).halt
    by true = refl
    by false = refl
written_halt port Cap v d st = refl
written_halt port Ghc v d st = refl
written_halt port Pi v d st = refl
written_halt port Vs v d st = refl
written_halt port Cap2 v d st = refl
written_halt port Bohc v d st = refl

pub writes_faulted : StepLaws → (port : ℕ) (r : Reg) (v : ℕ) (old new : Device) → old.hr ≡ false → (old.port port).st ≡ true → RecordsFaultsIfSt old.tape (old.port port) port → IsHaltedByPlainOrQueued (old.port port).halt →
    Writes r v old new → IsHaltedByPlainOrQueued (new.port port).halt
writes_faulted laws port r v old new off st h faulted call =
    let mid : IsHaltedByPlainOrQueued (call.at_access.port port).halt = steps_faulted laws port old call.at_access off st h faulted call.steps in
    let same : (new.port port).halt ≡ (call.at_access.port port).halt =
    ap (λ (d : Device). (d.port port).halt) call.effect ∙ written_halt port r v call.at_access (running laws port old call.at_access off st h faulted call.steps) in
    subst IsHaltedByPlainOrQueued (sym same) mid

-- TFES is read
pub tfes_tells : StepLaws → (port : Port) (v : ℕ) (old new : Device) → old.hr ≡ false → (old.port port.0).st ≡ true → RecordsFaultsIfSt old.tape (old.port port.0) port.0 → Reads (Px port Is) v old new → bit v 30 ≡ true →
    IsHaltedByPlainOrQueued (new.port port.0).halt
tfes_tells laws port v old new off st h call set =
    let x : PortRegisterRead port.0 Is v old new = laws.reading_shows_register port Is v old new call off in
    let now : RecordsFaults new.tape (new.port port.0) port.0 = reads_recorded port.0 (Px port Is) v old new call h ((x.keeps.keeps_outside_reset.controls_are_kept port.0).st_is_kept ∙ st) in
    now.tfes_tells_fault (sym (x.shows 30 refl) ∙ set)

-- the status and the error of the value
parts_read : (v tfd status error : ℕ) → v % 65536 ≡ tfd → tfd ≡ status + 256 * error → status < 256 → error < 256 → (v % 256 ≡ status) × (v / 256 % 256 ≡ error)
parts_read v tfd status error e f low high = (omega (arith, e, f, low, high), omega (arith, e, f, low, high))

-- TFD of a port that a fault has halted shows the last one
pub fault_is_read : StepLaws → (port : Port) (v : ℕ) (old new : Device) → old.hr ≡ false → (old.port port.0).st ≡ true → RecordsFaultsIfSt old.tape (old.port port.0) port.0 → IsHaltedByPlainOrQueued (old.port port.0).halt →
    Reads (Px port Tfd) v old new → (s : ShowsFault (drop (new.port port.0).notes.st_set_at new.tape) (new.port port.0) port.0) × (v % 256 ≡ s.fault.status) × (v / 256 % 256 ≡ s.fault.error)
fault_is_read laws port v old new off st h faulted call =
    let x : PortRegisterRead port.0 Tfd v old new = laws.reading_shows_register port Tfd v old new call off in
    let now : RecordsFaults new.tape (new.port port.0) port.0 = reads_recorded port.0 (Px port Tfd) v old new call h ((x.keeps.keeps_outside_reset.controls_are_kept port.0).st_is_kept ∙ st) in
    let s : ShowsFault (drop (new.port port.0).notes.st_set_at new.tape) (new.port port.0) port.0 = now.shows_last_fault (reads_faulted laws port.0 (Px port Tfd) v old new off st h faulted call) in
    let parts = parts_read v (new.port port.0).tfd s.fault.status s.fault.error x.shows s.tfd_is s.bytes_fit.0 s.bytes_fit.1 in
    (s, parts.0, parts.1)

-- the slot of the fault is in use, so the driver has put something into it
pub fault_has_a_use : (uses : SlotStates) (m : Machine) (d : Device) (port : ℕ) (entries : List Entry) → StateRelation uses m d → (s : ShowsFault entries (d.port port) port) → uses port s.fault.slot.0 ≢ Free
fault_has_a_use uses m d port entries a s u =
    let h : IsEmptySlot (d.port port) s.fault.slot.0 = subst (λ (w : SlotState). RelatesSlot m d.memory d.tape (d.port port) port s.fault.slot.0 w) u (a.relates_slots port s.fault.slot.0) in
    over_unused (d.port port) s.fault.slot.0 (record { is_not_issued = h.is_not_issued; is_not_taken = h.is_not_taken }) s.slot_is_issued_or_taken
