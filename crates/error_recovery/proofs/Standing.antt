-- What stands behind a fault in a part of a call, in the whole.
use Rattle.std.proofs.Common.{ℕ, ◌≡◌, ◌++◌, List, [], ◌∷◌, drop, refl, sym, ◌∙◌, ap, subst, append_assoc}
use Rattle.std.specs.Prelude.{All, Contains}
use Rattle.std.proofs.lemmas.List.Elements.{All-append, All-head, All-tail}
use Rattle.ata_types.specs.declared.Port.{Port}
use Rattle.hba_regs.specs.declared.reg.PortReg.TheVariants.{Cmd}
use Rattle.hba_regs.specs.declared.reg.Reg.TheVariants.{Ghc, Px}
use Rattle.adapter.specs.Access.{Access, DoesAll}
use Rattle.adapter.specs.Device.{Device}
use Rattle.adapter.specs.Rules.{IsOn}
use Rattle.adapter.specs.declared.command.Operation.TheVariants.{ReadLog}
use Rattle.adapter.specs.declared.tape.Entry.{Entry}
use Rattle.adapter.specs.declared.tape.Entry.TheVariants as entry
use Rattle.adapter.specs.declared.tape.Fault as tape_fault
use Rattle.refinement.specs.Fragments.{TapeGrows, GainsNoMove}
use Rattle.refinement.specs.PreservedParts.{DoesNotWrite}
use Rattle.refinement.specs.Slots.{IsMove}
use Rattle.error_recovery.specs.Evidence.{BringsLastLogPage, HasFailed}
use Rattle.error_recovery.specs.Laws.{Laws}

module _ (laws : Laws) where
  -- ST was last set when it was, as long as PxCMD isn't written
  set_still : (port : Port) (accesses : List Access) (old new : Device) → IsOn old → All (DoesNotWrite Ghc) accesses → All (DoesNotWrite (Px port Cmd)) accesses → DoesAll accesses old new →
      (new.port port.0).notes.st_set_at ≡ (old.port port.0).notes.st_set_at
  set_still port [] old new on hosts commands is = ap (λ (d : Device). (d.port port.0).notes.st_set_at) is
  set_still port (access ∷ accesses) old new on hosts commands (mid, does, rest) =
      let host = All-head (DoesNotWrite Ghc) access accesses hosts in
      let command = All-head (DoesNotWrite (Px port Cmd)) access accesses commands in
      let later = laws.access_keeps_on access old mid on (λ v e. absurd (subst (DoesNotWrite Ghc) e host refl)) does in
      set_still port accesses mid new later (All-tail (DoesNotWrite Ghc) access accesses hosts) (All-tail (DoesNotWrite (Px port Cmd)) access accesses commands) rest
      ∙ ((laws.access_controls port access old mid on.no_reset does).command command).2

  pub failed_stays : ((early late : List Access) (old mid new : Device) → DoesAll early old mid → DoesAll late mid new → DoesAll (early ++ late) old new) →
      (port : Port) (early part late : List Access) (start old new end : Device) (fault : tape_fault.Fault) → IsOn start → All (DoesNotWrite Ghc) early → All (DoesNotWrite (Px port Cmd)) early →
      DoesAll early start old → DoesAll late new end → HasFailed port part old new fault → HasFailed port (early ++ (part ++ late)) start end fault
  failed_stays append port early part late start old new end fault on hosts commands first last h =
      let r = h.cmd_is_unwritten in
      let F : ℕ → Type 0 = λ n. Contains (drop n h.device_before_stop.tape) (entry.Fault fault) in
      record {
        device_before_stop = h.device_before_stop;
        cmd_is_unwritten = record {
          early = early ++ r.early;
          late = r.late ++ late;
          accesses_are = ap (λ (made : List Access). early ++ (made ++ late)) r.accesses_are
              ∙ (ap (λ (made : List Access). early ++ made) (append_assoc r.early r.late late) ∙ sym (append_assoc early r.early (r.late ++ late)));
          cmd_is_unwritten = All-append (DoesNotWrite (Px port Cmd)) early r.early commands r.cmd_is_unwritten;
          does_early = append early r.early start old h.device_before_stop first r.does_early;
          does_late = append r.late late h.device_before_stop new end r.does_late last;
        };
        fault_is_told = subst F (set_still port early start old on hosts commands first) h.fault_is_told;
        port_is = h.port_is;
      }

pub log_stays : (port : Port) (start old new end : Device) (page : List ℕ) → TapeGrows start old → GainsNoMove port.0 ReadLog new end → BringsLastLogPage port old new page → BringsLastLogPage port start end page
log_stays port start old new end page (early, first) (late, last, none) b = record {
  new_entries = early ++ (b.new_entries ++ late);
  tape_grows = last
      ∙ (ap (λ (es : List Entry). es ++ late) (b.tape_grows ∙ ap (λ (es : List Entry). es ++ b.new_entries) first)
      ∙ (append_assoc (start.tape ++ early) b.new_entries late ∙ append_assoc start.tape early (b.new_entries ++ late)));
  before = early ++ b.before;
  move = b.move;
  later = b.later ++ late;
  entries_are = ap (λ (es : List Entry). early ++ (es ++ late)) b.entries_are
      ∙ (ap (λ (es : List Entry). early ++ es) (append_assoc b.before (entry.Move b.move ∷ b.later) late) ∙ sym (append_assoc early b.before (entry.Move b.move ∷ (b.later ++ late))));
  is_move = b.is_move;
  no_later_page = All-append (λ e. IsMove port.0 ReadLog e → ⊥) b.later late b.no_later_page none;
  bytes_are = b.bytes_are;
}
