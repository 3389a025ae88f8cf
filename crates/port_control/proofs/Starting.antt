-- ST is set.
use Rattle.std.proofs.Common.{ℕ, ◌≡◌, ◌≤◌, ◌%◌, ◌||◌, Bool, true, false, length, inr, refl, sym, ◌∙◌, ap, subst, arith}
use Rattle.std.proofs.lemmas.Bool.{cond-true, cond-false}
use Rattle.ata_types.specs.declared.Port.{Port}
use Rattle.hba_regs.specs.Bits.{bit}
use Rattle.hba_regs.specs.declared.reg.PortReg.TheVariants.{Cmd, Sctl}
use Rattle.hba_regs.specs.declared.reg.Reg.TheVariants.{Px}
use Rattle.adapter.specs.Access.{Reads, Writes, port_after_write, port_after_st_write, port_after_fre_write}
use Rattle.adapter.specs.Access.Access.{Reading, Writing}
use Rattle.adapter.specs.Device.{Bases, Notes, DevicePort, Device}
use Rattle.adapter.specs.Rules.{MayWrite, IsStable}
use Rattle.adapter.specs.RegisterEffects.{PortRegisterRead, PortRegisterWritten}
use Rattle.refinement.specs.Fragments.{ReadsPortOrWrites, IsSimulated}
use Rattle.refinement.specs.Driver.{AllFree, KeepsSlotStates}
use Rattle.refinement.specs.Errors.{LinkErrorsRiseByDisks}
use Rattle.refinement.specs.PortFacts.{IsCleanToStart, RecordsFaultsIfSt}
use Rattle.refinement.specs.PreservedParts.{NoPlugEvents}
use Rattle.refinement.specs.HaltRecovery.{IsLinked, RunsLinked}
use Rattle.adapter.specs.OneCommand.{SlotHasNoCommand}
use Rattle.refinement.specs.Slots.{SlotState, Free, SlotStates, RelatesSlot, IsEmptySlot}
use Rattle.refinement.specs.StartedPort.{IsUpForStart, IsStarted}
use Rattle.refinement.specs.Fragments.{TapeGrows}
use Rattle.port_control.specs.Ports.{IsCommandRegister, IsOnWithPortAndAgrees, IsStoppedReceiving, RunsInPlaceWithoutCommands, SawIdle, SameSctlAndNotesButCmdAndStart}
use Rattle.port_control.proofs.Using.{usable_read, receiving_read, usable_by}
use Rattle.port_control.proofs.Ceasing.{IsButAt, bit_four}
use Rattle.port_control.proofs.Resetting.{grows_longer}
use Rattle.port_control.proofs.Settling.{plugs_in_parts}
use Rattle.port_control.specs.Laws.RegisterSet.{Commanding}
use Rattle.port_control.specs.Laws.{Laws}
use Rattle.port_control.specs.Laws.AccessPurpose.{StartingWithAllFree}
use Rattle.port_control.proofs.Stretching.{followed_read, followed_then, followed_write}

-- a write of PxCMD leaves the addresses and PxSCTL.DET
abbrev SameBases : DevicePort → DevicePort → Type 0
SameBases p q = (q.bases ≡ p.bases) × (q.sctl_det ≡ p.sctl_det)

abbrev NoneUsed : Port → SlotStates → Type 0
NoneUsed port uses = AllFree uses port.0

command_bases : (v tape : ℕ) (p : DevicePort) → SameBases p (port_after_write Cmd v tape p)
command_bases v tape p = by (bit v 0) p.st refl
  where
    by : (b s : Bool) → p.st ≡ s → SameBases p (port_after_fre_write (bit v 4) (port_after_st_write b tape p))
    by false s is = (refl, refl)
    by true true is = subst (λ (x : DevicePort). SameBases p (port_after_fre_write (bit v 4) x)) (sym (cond-true p.st p _ is)) (refl, refl)
    by true false is = subst (λ (x : DevicePort). SameBases p (port_after_fre_write (bit v 4) x)) (sym (cond-false p.st p _ is)) (refl, refl)

-- what PxCMD was read as, and then when ST was set
start_notes : (old mid new : Notes) (last count at : ℕ) → mid ≡ record old { last_cmd = last; engine_wait_count = count } → new ≡ record mid { st_set_at = at } →
    new ≡ record old { last_cmd = new.last_cmd; engine_wait_count = new.engine_wait_count; st_set_at = new.st_set_at }
start_notes old mid new last count at read set =
    let both : new ≡ record old { last_cmd = last; engine_wait_count = count; st_set_at = at } = set ∙ ap (λ (n : Notes). record n { st_set_at = at }) read in
    subst (λ (n : Notes). n ≡ record old { last_cmd = n.last_cmd; engine_wait_count = n.engine_wait_count; st_set_at = n.st_set_at }) (sym both) refl

-- a free slot has no command
over_free : (P : SlotState → Type 0) (u : SlotState) → u ≡ Free → P u → P Free
over_free P u is h = subst P is h

module _ (laws : Laws) where
  module _ (port : Port) (was v : ℕ) (old mid : Device) (u : IsOnWithPortAndAgrees (NoneUsed port) port old) (read : Reads (Px port Cmd) was old mid) (receives : IsStoppedReceiving port.0 (old.port port.0))
      (linked : (old.port port.0).notes.last_ssts % 16 ≡ 3) (idle : SawIdle (old.port port.0).notes) (one : bit v 0 ≡ true) (others : IsButAt 0 was v) where
    here : IsOnWithPortAndAgrees (NoneUsed port) port mid
    here = usable_read laws (NoneUsed port) port Cmd was old mid u read

    still : IsStoppedReceiving port.0 (mid.port port.0)
    still = receiving_read laws port Cmd was old mid u.adapter_is_on.no_reset read receives

    fre : bit v 4 ≡ true
    fre = bit_four was v others ∙ (laws.shown_after port Cmd was old mid u.adapter_is_on.no_reset read).1 ∙ still.fre_is_set

    same : (mid.port port.0).notes ≡ record (old.port port.0).notes { last_cmd = was; engine_wait_count = (mid.port port.0).notes.engine_wait_count }
    same = let n = laws.notes_read port Cmd was old mid u.adapter_is_on.no_reset read in
        subst (λ (k : Notes). k ≡ record (old.port port.0).notes { last_cmd = was; engine_wait_count = k.engine_wait_count }) (sym n) refl

    pub start_may : IsStable (MayWrite (Px port Cmd) v) mid
    start_may = laws.starting_is_permitted port was v mid here.adapter_is_on here.has_port (laws.last_cmd_is_read port was old mid read)
        (record {
          cr_is_clear = still.stopped.engine_is_stopped.cr_is_clear;
          receives = still.fre_is_set;
          programmed = record {
            clb_is_written = ap (λ (b : Bases). b.clb_set) still.areas_are_in_place;
            clbu_is_written = ap (λ (b : Bases). b.clbu_set) still.areas_are_in_place;
            fb_is_written = ap (λ (b : Bases). b.fb_set) still.areas_are_in_place;
            fbu_is_written = ap (λ (b : Bases). b.fbu_set) still.areas_are_in_place;
          };
          link_was_seen = ap (λ (n : Notes). n.last_ssts % 16) same ∙ linked;
          last_tfd_was_idle = ap (λ (n : Notes). bit n.last_tfd 7 || bit n.last_tfd 3) same ∙ idle;
        })
        (record { start = one; receive = fre; others = λ k small st fre. others k small st })

    start_leaves : (uses : SlotStates) → NoneUsed port uses → KeepsSlotStates uses (Px port Cmd) v mid
    start_leaves uses free = record { start = λ on. inr free; receive = λ on. (here.has_port.0, ap (λ (b : Bases). b.fb) still.areas_are_in_place) }

    module _ (new : Device) (write : Writes (Px port Cmd) v mid new) where
      pub start_followed : IsSimulated (ReadsPortOrWrites IsCommandRegister port) (NoneUsed port) old new
      start_followed = followed_then laws (StartingWithAllFree port) old mid new (followed_read laws (StartingWithAllFree port) (Px port Cmd) was old mid refl read)
          (followed_write laws (StartingWithAllFree port) (Px port Cmd) v mid new (refl, refl) start_may start_leaves write)

      pub start_usable : IsOnWithPortAndAgrees (NoneUsed port) port new
      start_usable = usable_by laws Commanding port old new (NoneUsed port) start_followed.is_driven (λ uses free. laws.fragments.some_machine_agrees (StartingWithAllFree port) (λ uses. uses) uses old new free start_followed) u

      started : ((new.port port.0).cr ≡ true) × ((new.port port.0).notes.st_set_at ≡ length new.tape)
      started = laws.start_sets_cr_and_time port v mid new still.stopped.engine_is_stopped.st_is_clear one write

      w : PortRegisterWritten port.0 Cmd v mid new
      w = laws.write_changes_port_register port Cmd v mid new write here.adapter_is_on.no_reset

      pub start_runs : RunsInPlaceWithoutCommands port.0 (new.port port.0)
      start_runs =
          let a = start_usable.machine_is_related in
          let over : (slot : ℕ) → SlotHasNoCommand (new.port port.0) slot =
          λ slot.
          let h : IsEmptySlot (new.port port.0) slot = over_free (RelatesSlot a.2.machine new.memory new.tape (new.port port.0) port.0 slot) (a.0 port.0 slot) (a.1 slot) (a.2.driver_relation.state_relation.relates_slots port.0 slot) in
          record { is_not_issued = h.is_not_issued; is_not_taken = h.is_not_taken } in
          let set = laws.cmd_write_sets_st_and_fre port v mid new write in
          record {
            st_is_set = set.0 ∙ one;
            cr_is_set = started.0;
            fre_is_set = set.1 ∙ fre;
            areas_are_in_place = ap (λ (p : DevicePort). p.bases) w.port_is_written ∙ (command_bases v _ (w.at_access.port port.0)).0 ∙ (w.keeps.ports_keep_what_steps_keep port.0).bases_are_kept ∙ still.areas_are_in_place;
            ci_is_clear = λ slot. (over slot).is_not_issued;
            sact_is_clear = λ slot. laws.free_unarmed a.0 a.2.machine new a.2.driver_relation.state_relation port.0 slot (a.1 slot);
            none_is_taken = λ slot. (over slot).is_not_taken;
          }

      pub start_same : SameSctlAndNotesButCmdAndStart (old.port port.0) (new.port port.0)
      start_same =
          let s : PortRegisterRead port.0 Cmd was old mid = laws.read_changes_port_register port Cmd was old mid read u.adapter_is_on.no_reset in (
            ap (λ (p : DevicePort). p.sctl_det) w.port_is_written ∙ (command_bases v _ (w.at_access.port port.0)).1 ∙ (w.keeps.keeps_outside_reset.controls_are_kept port.0).sctl_det_is_kept ∙ (s.keeps.keeps_outside_reset.controls_are_kept port.0).sctl_det_is_kept,
            start_notes (old.port port.0).notes (mid.port port.0).notes (new.port port.0).notes _ _ _ same (laws.cmd_write_keeps_notes_but_st_time port v mid new write),
          )

      pub start_set_at : (new.port port.0).notes.st_set_at ≡ length new.tape
      start_set_at = started.1

      early : TapeGrows old mid
      early = laws.tape.access_grows (Reading (Px port Cmd) was) old mid read

      late : TapeGrows mid new
      late = laws.tape.access_grows (Writing (Px port Cmd) v) mid new write

      pub start_marked : (old.port port.0).notes.sctl_written_at ≤ length old.tape → (new.port port.0).notes.sctl_written_at ≤ length new.tape
      start_marked low =
          let at = ap (λ (n : Notes). n.sctl_written_at) start_same.1 in
          let longer = grows_longer old new (laws.tape.growth_is_transitive old mid new early late) in
          omega (arith, low, at, longer)

      pub start_well : IsUpForStart (old.port port.0) → NoPlugEvents port.0 old new → IsStarted (new.port port.0)
      start_well up none =
          let parts = plugs_in_parts laws port.0 old mid new early late none in
          laws.start_of_up_port_is_started port v mid new here.adapter_is_on.no_reset still.stopped.engine_is_stopped.st_is_clear still.stopped.engine_is_stopped.cr_is_clear one write
          (laws.access_keeps_up port (Reading (Px port Cmd) was) old mid u.adapter_is_on.no_reset receives.stopped.engine_is_stopped.cr_is_clear (λ n (e : Reading (Px port Cmd) was ≡ Writing (Px port Cmd) n). absurd (cc)) tt parts.0 read up)
          parts.1

      pub start_linked : IsLinked (old.port port.0) → NoPlugEvents port.0 old new → RunsLinked (new.port port.0)
      start_linked link none =
          let parts = plugs_in_parts laws port.0 old mid new early late none in
          laws.start_runs_linked port v mid new here.adapter_is_on.no_reset still.stopped.engine_is_stopped.st_is_clear still.stopped.engine_is_stopped.cr_is_clear one parts.1 write
          (laws.access_keeps_linked port (Reading (Px port Cmd) was) old mid u.adapter_is_on.no_reset tt parts.0 read link)

      -- ---- what was there before: nothing new comes while ST is set

      pub start_calm : (place : ℕ) → (old.port port.0).is place ≡ false → (new.port port.0).is place ≡ false
      start_calm place clear =
          laws.access_keeps_cause_clear port place (Writing (Px port Cmd) v) mid new still.stopped.engine_is_stopped.cr_is_clear write
          (laws.access_keeps_cause_clear port place (Reading (Px port Cmd) was) old mid receives.stopped.engine_is_stopped.cr_is_clear read clear)

      undue_mid : (old.port port.0).link_due ≡ false → (mid.port port.0).link_due ≡ false
      undue_mid undue = laws.tape.access_but_sctl_write_makes_no_link_due port (Reading (Px port Cmd) was) old mid u.adapter_is_on.no_reset undue tt read

      pub start_undue : (old.port port.0).link_due ≡ false → (new.port port.0).link_due ≡ false
      start_undue undue = laws.tape.access_but_sctl_write_makes_no_link_due port (Writing (Px port Cmd) v) mid new here.adapter_is_on.no_reset (undue_mid undue) (λ (e : Px port Cmd ≡ Px port Sctl). absurd (cc)) write

      pub start_changes : (old.port port.0).link_due ≡ false → LinkErrorsRiseByDisks port.0 old new
      start_changes undue = laws.tape.link_errors_transitive port.0 old mid new early late
          (laws.tape.access_raises_link_errors_by_disks port (Reading (Px port Cmd) was) old mid u.adapter_is_on.no_reset undue read)
          (laws.tape.access_raises_link_errors_by_disks port (Writing (Px port Cmd) v) mid new here.adapter_is_on.no_reset (undue_mid undue) write)

      -- ST is set on a quiet port
      pub start_recorded : IsCleanToStart (old.port port.0) → RecordsFaultsIfSt new.tape (new.port port.0) port.0
      start_recorded quiet =
          laws.writes_keep_fault_record port.0 (Px port Cmd) v mid new start_may
          (λ d steps set. inr (laws.steps_keep_clean_to_start port.0 mid d steps (laws.reads_keep_clean_to_start port.0 (Px port Cmd) was old mid read quiet))) write
          (laws.stopped_port_has_fault_record mid.tape (mid.port port.0) port.0 still.stopped.engine_is_stopped.st_is_clear)
