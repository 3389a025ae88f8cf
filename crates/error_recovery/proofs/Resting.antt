-- What stands behind a command that is named: a fault on the tape, and the page of the log.
use Rattle.std.proofs.Common.{ℕ, Bool, ◌≡◌, ◌≤◌, ◌%◌, ◌/◌, ◌++◌, false, List, [], ◌∷◌, length, drop, inl, refl, sym, ◌∙◌, ap, subst, arith, append_assoc}
use Rattle.std.specs.Prelude.{Contains}
use Rattle.std.proofs.lemmas.List.{length-append}
use Rattle.std.proofs.lemmas.List.Elements.{All-append, All-cons, All-nil}
use Rattle.ata_types.specs.declared.Port.{Port}
use Rattle.hba_regs.specs.declared.reg.PortReg.TheVariants.{Cmd, Tfd}
use Rattle.hba_regs.specs.declared.reg.Reg.TheVariants.{Px}
use Rattle.adapter.specs.Access.{Access, DoesAll}
use Rattle.adapter.specs.Access.Access.{Reading}
use Rattle.adapter.specs.Device.{Device}
use Rattle.adapter.specs.declared.command.Operation.TheVariants.{ReadLog}
use Rattle.adapter.specs.declared.tape.Entry.{Entry}
use Rattle.adapter.specs.declared.tape.Entry.TheVariants as entry
use Rattle.adapter.specs.declared.tape.Fault as tape_fault
use Rattle.refinement.specs.Fragments.{TapeGrows, GainsNoMove}
use Rattle.refinement.specs.PreservedParts.{DoesNotWrite}
use Rattle.refinement.specs.Slots.{IsMove}
use Rattle.disk_page.specs.PageRequests.{BringsLastPage}
use Rattle.error_recovery.specs.Evidence.{BringsLastLogPage, HasFailed}
use Rattle.error_recovery.specs.Laws.{Laws}
use Rattle.error_recovery.specs.Laws.SlotCondition.{AnyUses}
use Rattle.error_recovery.specs.Laws.AccessPurpose.{Recovering}
use Rattle.error_recovery.specs.RecoveryParts.{IsStoppedAndCleared}
use Rattle.error_recovery.proofs.Lists.{behind, stands}

-- A fault that is told of the port, in its slot, with status and error as PxTFD showed them.
pub record IsTold (port : Port) (queued : Bool) (shown : ℕ) (accesses : List Access) (old new : Device) : Type 0 where
  pub fault : tape_fault.Fault
  pub has_failed : HasFailed port accesses old new fault
  pub status_is : fault.status ≡ shown % 256
  pub error_is : fault.error ≡ shown / 256 % 256
  pub fault_slot_is : queued ≡ false → fault.slot.0 ≡ 0

longer : (old new : Device) → TapeGrows old new → length old.tape ≤ length new.tape
longer old new (gained, is) = let n = ap (λ (es : List Entry). length es) is ∙ length-append old.tape gained in omega (arith, n)

-- the last page of the log that came is the last that a longer stretch brought, where none came later
pub brings_log : (port : Port) (old start asked new : Device) (page : List ℕ) → TapeGrows old start → TapeGrows old asked → BringsLastPage port.0 ReadLog (length start.tape) page asked → GainsNoMove port.0 ReadLog asked new →
    BringsLastLogPage port old new page
brings_log port old start asked new page early whole b (gained, later, none) =
    let w = b.page_stands in
    let le = longer old start early in
    let after = w.came_since in
    let split = behind old.tape whole.0 w.before (entry.Move w.move) w.later (sym whole.1 ∙ w.tape_is_split) (omega (arith, le, after)) in
    record {
      new_entries = whole.0 ++ gained;
      tape_grows = later ∙ (ap (λ (es : List Entry). es ++ gained) whole.1 ∙ append_assoc old.tape whole.0 gained);
      before = split.0;
      move = w.move;
      later = w.later ++ gained;
      entries_are = ap (λ (es : List Entry). es ++ gained) split.1 ∙ append_assoc split.0 (entry.Move w.move ∷ w.later) gained;
      is_move = w.is_move;
      no_later_page = All-append (λ e. IsMove port.0 ReadLog e → ⊥) w.later gained w.no_later_move none;
      bytes_are = b.page_bytes_are;
    }

module _ (laws : Laws) (port : Port) (outstanding : ℕ) (queued : Bool) (before after : ℕ) (old d : Device) (r : IsStoppedAndCleared port outstanding queued before after old d) where
  told_by : (rest : List Access) (new : Device) → DoesAll (Reading (Px port Tfd) before ∷ rest) old new → IsTold port queued before (Reading (Px port Tfd) before ∷ rest) old new
  told_by rest new (at, read, more) =
      let off = r.adapter_is_on.no_reset in
      let s = laws.fault_shown port before old at off r.may_recover.st_is_set (λ _. r.may_recover.faults_are_on_record) r.may_recover.halted read in
      let set = ((laws.access_controls port (Reading (Px port Tfd) before) old at off read).command tt).2 in
      let F : ℕ → Type 0 = λ n. Contains (drop n at.tape) (entry.Fault s.0.fault) in
      let E : List Entry → Type 0 = λ es. Contains es (entry.Fault s.0.fault) in
      let followed = (laws.fragments.reads (Recovering AnyUses port) (Px port Tfd) before old at (inl refl) read).is_simulated in
      let a = laws.fragments.some_machine_agrees (Recovering AnyUses port) (λ uses. uses) r.machine_is_related.0 old at tt followed r.machine_is_related.2 in
      record {
        fault = s.0.fault;
        has_failed = record {
          device_before_stop = at;
          cmd_is_unwritten = record {
            early = Reading (Px port Tfd) before ∷ [];
            late = rest;
            accesses_are = refl;
            cmd_is_unwritten = All-cons (DoesNotWrite (Px port Cmd)) (Reading (Px port Tfd) before) [] tt (All-nil (DoesNotWrite (Px port Cmd)));
            does_early = (at, read, refl);
            does_late = more;
          };
          fault_is_told = subst F set (subst E (sym s.0.entries_are_split) (stands s.0.before (entry.Fault s.0.fault) s.0.later));
          port_is = s.0.port_is;
        };
        status_is = sym s.1;
        error_is = sym s.2;
        fault_slot_is = λ plain. laws.fault_is_of_sole_slot r.machine_is_related.0 a.machine at port.0 0 _ a.driver_relation.state_relation s.0 (λ other differs. r.machine_is_related.1 plain other differs);
      }

  -- so it is told of each list of accesses that begins with the reading
  pub is_told : (accesses rest : List Access) (new : Device) → accesses ≡ Reading (Px port Tfd) before ∷ rest → DoesAll accesses old new → IsTold port queued before accesses old new
  is_told accesses rest new is does =
      let D : List Access → Type 0 = λ made. DoesAll made old new in
      let T : List Access → Type 0 = λ made. IsTold port queued before made old new in
      subst T (sym is) (told_by rest new (subst D is does))
