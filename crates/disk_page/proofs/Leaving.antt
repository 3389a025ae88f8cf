-- What asking for a page leaves of a port.
use Rattle.std.proofs.Common.{ℕ, ◌≡◌, ◌≢◌, ◌≤◌, false, List, [], ◌∷◌, length, None, inl, inr, refl, sym, ◌∙◌, ap, subst, le_refl, le_trans}
use Rattle.ata_types.specs.declared.Port.{Port}
use Rattle.hba_regs.specs.declared.reg.Reg.{Reg}
use Rattle.hba_regs.specs.declared.reg.Reg.TheVariants.{Px, Ghc}
use Rattle.hba_regs.specs.declared.reg.PortReg.TheVariants.{Ci}
use Rattle.adapter.specs.Access.{Access, Does, Reads, Writes, notes_after_reading, port_after_write, DoesAll}
use Rattle.adapter.specs.Access.Access.{Reading, Writing, Loading, Storing}
use Rattle.adapter.specs.Device.{Notes, DevicePort, Device}
use Rattle.adapter.specs.KeptBySteps.{KeepsOverSteps, PortBitsOnlyFallFreeSlotsStay, KeepsControlsFlagsRise}
use Rattle.adapter.specs.Memory.{patched}
use Rattle.adapter.specs.Rules.{IsOn}
use Rattle.adapter.specs.Steps.{Steps}
use Rattle.adapter.specs.declared.tape.Entry.{Entry}
use Rattle.adapter.specs.RegisterEffects.{PortRegisterRead}
use Rattle.adapter.specs.RegisterEffects.{PortRegisterWritten}
use Rattle.refinement.specs.Fragments.{NoCommandIsIssuedOrTaken, IsDrivenBy}
use Rattle.adapter.specs.OneCommand.{SlotHasNoCommand}
use Rattle.disk_page.specs.PageRequests.{IsPxciOrSlot0PageMemoryAccess, LeavesPortWhileAsking, SameButCiNotes}
use Rattle.disk_page.proofs.Asking.{reading_leaves, grown, asking_spares_ghc, bit_one_other}
use Rattle.disk_page.specs.Laws.{Laws}
use Rattle.std.specs.List.{All}
use Rattle.std.proofs.lemmas.Bool.{cases_eq}
use Rattle.std.proofs.lemmas.List.Elements.{All-head, All-tail}
use Rattle.refinement.specs.PreservedParts.{DoesNotWrite}

-- the same of one port's state
record HasAfter (port : ℕ) (old : Device) (p : DevicePort) : Type 0 where
  controls : KeepsControlsFlagsRise (old.port port) p
  bases : p.bases ≡ (old.port port).bases
  ci : (slot : ℕ) → slot ≢ 0 → (old.port port).ci slot ≡ false → p.ci slot ≡ false
  taken : (slot : ℕ) → slot ≢ 0 → (old.port port).ci slot ≡ false → (old.port port).taken slot ≡ None → p.taken slot ≡ None
  sact : (slot : ℕ) → (old.port port).sact slot ≡ false → p.sact slot ≡ false
  notes : SameButCiNotes (old.port port).notes p.notes

-- readings of PxCI, one after another
same_more : (a b c : Notes) → SameButCiNotes a b → SameButCiNotes b c → SameButCiNotes a c
same_more a b c p q =
    let P : Notes → Type 0 = λ n. c ≡ record n { last_ci = c.last_ci; slot0_issued_count = c.slot0_issued_count } in
    subst P p q

same_notes : (old new : Notes) → new ≡ old → SameButCiNotes old new
same_notes old new is = let P : Notes → Type 0 = λ n. SameButCiNotes old n in subst P (sym is) refl

-- a port that has as many of these words as another
with_memory : (port at : ℕ) (bytes : List ℕ) (old mid : Device) → LeavesPortWhileAsking port old mid → LeavesPortWhileAsking port old (record mid { memory = patched mid.memory at bytes })
with_memory port at bytes old mid l =
    record { controls_are_kept = l.controls_are_kept; bases_are_kept = l.bases_are_kept; ci_stays_clear = l.ci_stays_clear; empty_slots_stay_empty = l.empty_slots_stay_empty; sact_stays_clear = l.sact_stays_clear; other_notes_are_kept = l.other_notes_are_kept; tape_is_not_shorter = l.tape_is_not_shorter; faults_are_on_record = l.faults_are_on_record }

-- a reading of PxCI noted its value alone
same_read : (v : ℕ) (old : Notes) (p : DevicePort) → p.notes ≡ notes_after_reading Ci v (record p { notes = old }) → SameButCiNotes old p.notes
same_read v old p is =
    let P : Notes → Type 0 = λ n. SameButCiNotes old n in
    subst P (sym is) refl

-- a port without a command, but for slot 0's, which is over
pub asked_none : (port : ℕ) (old new : Device) → LeavesPortWhileAsking port old new → NoCommandIsIssuedOrTaken (old.port port) → SlotHasNoCommand (new.port port) 0 → NoCommandIsIssuedOrTaken (new.port port)
asked_none port old new l none over slot = elim (cases_eq slot 0) [
  | inl e ↦ let P : ℕ → Type 0 = λ k. SlotHasNoCommand (new.port port) k in subst P (sym e) over
  | inr ne ↦ record { is_not_issued = l.ci_stays_clear slot ne (none slot).is_not_issued; is_not_taken = l.empty_slots_stay_empty slot ne (none slot).is_not_issued (none slot).is_not_taken }
]

module _ (laws : Laws) where
  pub running_none : (port : ℕ) (d : Device) → LeavesPortWhileAsking port d d
  running_none port d = record {
    controls_are_kept = laws.kept_controls_reflexive (d.port port);
    bases_are_kept = refl;
    ci_stays_clear = λ slot other clear. clear;
    empty_slots_stay_empty = λ slot other clear free. free;
    sact_stays_clear = λ slot clear. clear;
    other_notes_are_kept = refl;
    tape_is_not_shorter = le_refl (length d.tape);
    faults_are_on_record = λ h. h;
  }

  pub running_more : (port : ℕ) (a b c : Device) → LeavesPortWhileAsking port a b → LeavesPortWhileAsking port b c → LeavesPortWhileAsking port a c
  running_more port a b c p q = record {
    controls_are_kept = laws.kept_controls_compose _ _ _ p.controls_are_kept q.controls_are_kept;
    bases_are_kept = q.bases_are_kept ∙ p.bases_are_kept;
    ci_stays_clear = λ slot other clear. q.ci_stays_clear slot other (p.ci_stays_clear slot other clear);
    empty_slots_stay_empty = λ slot other clear free. q.empty_slots_stay_empty slot other (p.ci_stays_clear slot other clear) (p.empty_slots_stay_empty slot other clear free);
    sact_stays_clear = λ slot clear. q.sact_stays_clear slot (p.sact_stays_clear slot clear);
    other_notes_are_kept = same_more (a.port port).notes (b.port port).notes (c.port port).notes p.other_notes_are_kept q.other_notes_are_kept;
    tape_is_not_shorter = le_trans p.tape_is_not_shorter q.tape_is_not_shorter;
    faults_are_on_record = λ h. q.faults_are_on_record (p.faults_are_on_record h);
  }

  -- what the device alone leaves
  by_device : (port : ℕ) (old new : Device) → old.hr ≡ false → Steps old new → LeavesPortWhileAsking port old new
  by_device port old new off steps =
      let k : KeepsOverSteps old new = laws.law_step_lists_keep_what_steps_keep _ _ steps in
      let p : PortBitsOnlyFallFreeSlotsStay (old.port port) (new.port port) = k.port_bits_only_fall port in
      record {
        controls_are_kept = (k.keeps_outside_reset off).controls_are_kept port;
        bases_are_kept = p.bases_are_kept;
        ci_stays_clear = λ slot other. p.ci_stays_clear slot;
        empty_slots_stay_empty = λ slot other. p.slots_stay_free slot;
        sact_stays_clear = p.sact_stays_clear;
        other_notes_are_kept = same_notes (old.port port).notes (new.port port).notes (k.notes_are_kept port);
        tape_is_not_shorter = grown old.tape new.tape k.new_entries k.tape_grows;
        faults_are_on_record = laws.steps_keep_fault_record port old new steps;
      }

  -- bit 0 of PxCI was written
  issued_leaves : (port : ℕ) (old mid : Device) → LeavesPortWhileAsking port old mid → HasAfter port old (port_after_write Ci 1 (length mid.tape) (mid.port port))
  issued_leaves port old mid l = record {
    controls = record { st_is_kept = l.controls_are_kept.st_is_kept; fre_is_kept = l.controls_are_kept.fre_is_kept; sctl_det_is_kept = l.controls_are_kept.sctl_det_is_kept; ie_is_kept = l.controls_are_kept.ie_is_kept; causes_stay_set = l.controls_are_kept.causes_stay_set; ips_is_kept = l.controls_are_kept.ips_is_kept; serr_n_stays_set = l.controls_are_kept.serr_n_stays_set; serr_x_stays_set = l.controls_are_kept.serr_x_stays_set; engine_stays_running = l.controls_are_kept.engine_stays_running };
    bases = l.bases_are_kept;
    ci = λ slot other clear. rw (l.ci_stays_clear slot other clear, bit_one_other slot other) refl;
    taken = l.empty_slots_stay_empty;
    sact = l.sact_stays_clear;
    notes = l.other_notes_are_kept;
  }

  asking_leaves : (port : Port) (access : Access) (old new : Device) → IsOn old → IsPxciOrSlot0PageMemoryAccess port access → Does access old new → LeavesPortWhileAsking port.0 old new
  asking_leaves port (Loading at bytes) old new on here x = by_device port.0 old new on.no_reset x.steps
  asking_leaves port (Storing at bytes) old new on here x =
      let P : Device → Type 0 = λ d. LeavesPortWhileAsking port.0 old d in subst P (sym x.effect) (with_memory port.0 at bytes old x.at_access (by_device port.0 old x.at_access on.no_reset x.steps))
  asking_leaves port (Reading r v) old new on here x =
      let R : Reg → Type 0 = λ q. Reads q v old new in
      let call : Reads (Px port Ci) v old new = subst R here x in
      let s : PortRegisterRead port.0 Ci v old new = laws.read_changes_port_register port Ci v old new call on.no_reset in
      record {
        controls_are_kept = s.keeps.keeps_outside_reset.controls_are_kept port.0;
        bases_are_kept = (s.keeps.ports_keep_what_steps_keep port.0).bases_are_kept;
        ci_stays_clear = λ slot other. (s.keeps.ports_keep_what_steps_keep port.0).ci_stays_clear slot;
        empty_slots_stay_empty = λ slot other. (s.keeps.ports_keep_what_steps_keep port.0).slots_stay_free slot;
        sact_stays_clear = (s.keeps.ports_keep_what_steps_keep port.0).sact_stays_clear;
        other_notes_are_kept = same_read v (old.port port.0).notes (new.port port.0) s.notes;
        tape_is_not_shorter = (reading_leaves laws port v old new on call).later;
        faults_are_on_record = laws.reads_keep_fault_record port.0 (Px port Ci) v old new call;
      }
  asking_leaves port (Writing r v) old new on here x =
      let R : Reg → Type 0 = λ q. Writes q v old new in
      let V : ℕ → Type 0 = λ n. Writes (Px port Ci) n old new in
      let call : Writes (Px port Ci) 1 old new = subst V here.1 (subst R here.0 x) in
      let w : PortRegisterWritten port.0 Ci 1 old new = laws.write_changes_port_register port Ci 1 old new call on.no_reset in
      let d : LeavesPortWhileAsking port.0 old w.at_access = by_device port.0 old w.at_access on.no_reset w.steps in
      let P : DevicePort → Type 0 = λ p. HasAfter port.0 old p in
      let h : HasAfter port.0 old (new.port port.0) = subst P (sym w.port_is_written) (issued_leaves port.0 old w.at_access d) in
      record {
        controls_are_kept = h.controls;
        bases_are_kept = h.bases;
        ci_stays_clear = h.ci;
        empty_slots_stay_empty = h.taken;
        sact_stays_clear = h.sact;
        other_notes_are_kept = h.notes;
        tape_is_not_shorter = let same : length w.at_access.tape ≡ length new.tape = ap (λ (es : List Entry). length es) (sym w.tape_is_as_at_access) in subst (λ (n : ℕ). length old.tape ≤ n) same d.tape_is_not_shorter;
        faults_are_on_record = laws.issues_keep_fault_record port.0 port 1 old new call;
      }

  leaves_over : (port : Port) (accesses : List Access) (old new : Device) → IsOn old → All (IsPxciOrSlot0PageMemoryAccess port) accesses → DoesAll accesses old new → LeavesPortWhileAsking port.0 old new
  leaves_over port [] old new on all is = subst (LeavesPortWhileAsking port.0 old) (sym is) (running_none port.0 old)
  leaves_over port (access ∷ accesses) old new on all (mid, does, rest) =
      let here = All-head (IsPxciOrSlot0PageMemoryAccess port) access accesses all in
      let host = asking_spares_ghc laws port access here in
      let later = laws.access_keeps_on access old mid on (λ v is. absurd (subst (DoesNotWrite Ghc) is host refl)) does in
      running_more port.0 old mid new (asking_leaves port access old mid on here does) (leaves_over port accesses mid new later (All-tail (IsPxciOrSlot0PageMemoryAccess port) access accesses all) rest)

  pub asking_leaves_running : (port : Port) (old new : Device) → IsOn old → IsDrivenBy (IsPxciOrSlot0PageMemoryAccess port) old new → LeavesPortWhileAsking port.0 old new
  asking_leaves_running port old new on a = leaves_over port a.accesses old new on a.accesses_are_of_kind a.all_are_done
