-- PxCMD is read and written back, and read until an engine stands.
use Rattle.std.proofs.Common.{ℕ, ◌≡◌, ◌≢◌, ◌+◌, ◌<◌, ◌≤◌, ◌&&◌, ◌||◌, not, Bool, true, false, List, [], ◌∷◌, ◌++◌, refl, sym, ◌∙◌, ap, subst, arith, lit<}
use Rattle.std.proofs.lemmas.Bool.{true≢false}
use Rattle.ata_types.specs.declared.Port.{Port}
use Rattle.ata_types.specs.declared.limits.TheConstants.{MOST_READINGS}
use Rattle.hba_regs.specs.Bits.{bit}
use Rattle.hba_regs.specs.declared.reg.PortReg.TheVariants.{Cmd, Sact}
use Rattle.hba_regs.specs.declared.reg.Reg.TheVariants.{Px}
use Rattle.adapter.specs.Access.{Access, Reads, Writes, capped_count_after_reading}
use Rattle.adapter.specs.Access.Access.{Reading, Writing}
use Rattle.adapter.specs.Device.{Bases, Notes, DevicePort, Device}
use Rattle.adapter.specs.Rules.{MayWrite, IsStable}
use Rattle.adapter.specs.RegisterEffects.{PortRegisterRead}
use Rattle.refinement.specs.Fragments.{AnySlotStates, ReadsPortOrWrites, IsSimulated, IsSimulatedAlong}
use Rattle.refinement.specs.Driver.{KeepsSlotStates}
use Rattle.refinement.specs.PortFacts.{IsQuiescentPort}
use Rattle.refinement.specs.Slots.{SlotStates}
use Rattle.port_control.specs.Engines.{AwaitsEngineStop, EngineFalls, ShowsStillRunning}
use Rattle.port_control.specs.Ports.{IsCommandRegister, IsOnWithPortAndAgrees, IsStopped, IsStoppedReceiving, SameSctlAndNotesButCmd, ClearsStAlone, programmed_bases}
use Rattle.port_control.proofs.Awaiting.{awaits_none, awaits_more, awaits_falls}
use Rattle.port_control.proofs.Using.{usable_after, usable_read, beside_then, beside_read, beside_command, bases_command, stopped_on, stopped_read, stopped_write}
use Rattle.port_control.specs.Laws.RegisterSet.{Commanding}
use Rattle.port_control.specs.Laws.AccessPurpose.{Controlling}
use Rattle.port_control.specs.Laws.{Laws}
use Rattle.port_control.proofs.Stretching.{followed_read, followed_then, followed_write, told_both}

-- beside what the value's bits are, it is the reading's
abbrev pub IsButAt : ℕ → ℕ → ℕ → Type 0
IsButAt at was v = (k : ℕ) → k < 32 → k ≢ at → bit v k ≡ bit was k

-- ST was cleared, and so many readings found CR set
pub record IsFalling (port : Port) (start : Device) (n : ℕ) (d : Device) : Type 0 where
  pub told : IsSimulatedAlong (AwaitsEngineStop 0 15 port n) (ReadsPortOrWrites IsCommandRegister port) AnySlotStates start d
  pub usable : IsOnWithPortAndAgrees AnySlotStates port d
  pub has : ClearsStAlone (start.port port.0) (d.port port.0)
  pub low : n ≤ (d.port port.0).notes.engine_wait_count
  pub high : 0 < n → (d.port port.0).notes.engine_wait_count ≤ MOST_READINGS

-- the port is stopped still, FRE is 0, and all else is as it was
pub record HasEmptied (port : Port) (start d : Device) : Type 0 where
  pub usable : IsOnWithPortAndAgrees AnySlotStates port d
  pub stopped : IsStopped (d.port port.0)
  pub fre : (d.port port.0).fre ≡ false
  pub bases : (d.port port.0).bases ≡ (start.port port.0).bases
  pub same : SameSctlAndNotesButCmd (start.port port.0) (d.port port.0)

-- FRE was cleared, and so many readings found FR set
pub record IsEmptying (port : Port) (start : Device) (n : ℕ) (d : Device) : Type 0 where
  pub told : IsSimulatedAlong (AwaitsEngineStop 4 14 port n) (ReadsPortOrWrites IsCommandRegister port) AnySlotStates start d
  pub has : HasEmptied port start d
  pub low : n ≤ (d.port port.0).notes.engine_wait_count
  pub high : 0 < n → (d.port port.0).notes.engine_wait_count ≤ MOST_READINGS

-- one more reading that the wait goes on for
pub counted_again : (again : Bool) (n count : ℕ) → again ≡ true → n ≤ count → n < MOST_READINGS → (n + 1 ≤ capped_count_after_reading again count) × (capped_count_after_reading again count ≤ MOST_READINGS)
counted_again again n count on low small = rw on (omega arith, omega arith)

or_true : (a b : Bool) → b ≡ true → a || b ≡ true
or_true true b h = refl
or_true false b h = h

pub bit_four : (was v : ℕ) → IsButAt 0 was v → bit v 4 ≡ bit was 4
bit_four was v others = others 4 (lit< tt) (λ e. absurd (omega (arith, e)))

bit_zero : (was v : ℕ) → IsButAt 4 was v → bit v 0 ≡ bit was 0
bit_zero was v others = others 0 (lit< tt) (λ e. absurd (omega (arith, e)))

module _ (laws : Laws) where
  pub reading : (port : Port) (v : ℕ) (old new : Device) → Reads (Px port Cmd) v old new → IsSimulated (ReadsPortOrWrites IsCommandRegister port) AnySlotStates old new
  reading port v old new call = followed_read laws (Controlling Commanding port) (Px port Cmd) v old new refl call

  -- ---- what is told of the accesses

  module _ (start running : ℕ) (port : Port) where
    -- PxCMD was read, and written with the bit of an engine 0
    pub told_clears : (was v : ℕ) (old mid new : Device) → bit v start ≡ false → Reads (Px port Cmd) was old mid → IsStable (MayWrite (Px port Cmd) v) mid →
        ((uses : SlotStates) → AnySlotStates uses → KeepsSlotStates uses (Px port Cmd) v mid) → Writes (Px port Cmd) v mid new → IsSimulatedAlong (AwaitsEngineStop start running port 0) (ReadsPortOrWrites IsCommandRegister port) AnySlotStates old new
    told_clears was v old mid new zero read may leaves write =
        told_both laws (λ accesses. accesses ≡ Reading (Px port Cmd) was ∷ []) (λ accesses. accesses ≡ Writing (Px port Cmd) v ∷ []) (AwaitsEngineStop start running port 0)
        (λ early late is then. awaits_none start running port v zero early late then) (Controlling Commanding port) old mid new
        (laws.fragments.reads (Controlling Commanding port) (Px port Cmd) was old mid refl read)
        (laws.fragments.writes (Controlling Commanding port) (Px port Cmd) v mid new (refl, refl) may leaves write)

    module _ (n v : ℕ) (old mid new : Device) (a : IsSimulatedAlong (AwaitsEngineStop start running port n) (ReadsPortOrWrites IsCommandRegister port) AnySlotStates old mid) (call : Reads (Px port Cmd) v mid new) where
      -- what is told of them, and of one more reading
      with_reading : (Tells : List Access → Type 0) → ((early late : List Access) → AwaitsEngineStop start running port n early → late ≡ Reading (Px port Cmd) v ∷ [] → Tells (early ++ late)) →
          IsSimulatedAlong Tells (ReadsPortOrWrites IsCommandRegister port) AnySlotStates old new
      with_reading Tells join =
          told_both laws (AwaitsEngineStop start running port n) (λ accesses. accesses ≡ Reading (Px port Cmd) v ∷ []) Tells join
          (Controlling Commanding port) old mid new a
          (laws.fragments.reads (Controlling Commanding port) (Px port Cmd) v mid new refl call)

      pub told_stuck : ShowsStillRunning start running v → IsSimulatedAlong (AwaitsEngineStop start running port (n + 1)) (ReadsPortOrWrites IsCommandRegister port) AnySlotStates old new
      told_stuck shows = with_reading (AwaitsEngineStop start running port (n + 1)) (λ early late a is. awaits_more start running port n v early late a is shows)

      pub told_falls : bit v running ≡ false → IsSimulatedAlong (EngineFalls start running port) (ReadsPortOrWrites IsCommandRegister port) AnySlotStates old new
      told_falls zero = with_reading (EngineFalls start running port) (λ early late a is. awaits_falls start running port n v early late a is zero)

    -- after all of them
    pub told_awaits : (n : ℕ) → n ≡ MOST_READINGS → (old new : Device) → IsSimulatedAlong (AwaitsEngineStop start running port n) (ReadsPortOrWrites IsCommandRegister port) AnySlotStates old new →
        IsSimulatedAlong (AwaitsEngineStop start running port MOST_READINGS) (ReadsPortOrWrites IsCommandRegister port) AnySlotStates old new
    told_awaits n all old new a = subst (λ (k : ℕ). IsSimulatedAlong (AwaitsEngineStop start running port k) (ReadsPortOrWrites IsCommandRegister port) AnySlotStates old new) all a

  -- PxCMD is read, and written
  module _ (port : Port) (was v : ℕ) (old mid : Device) (u : IsOnWithPortAndAgrees AnySlotStates port old) (read : Reads (Px port Cmd) was old mid) where
    p : DevicePort
    p = mid.port port.0

    here : IsOnWithPortAndAgrees AnySlotStates port mid
    here = usable_read laws AnySlotStates port Cmd was old mid u read

    s : PortRegisterRead port.0 Cmd was old mid
    s = laws.read_changes_port_register port Cmd was old mid read u.adapter_is_on.no_reset

    last : (mid.port port.0).notes.last_cmd ≡ was
    last = laws.last_cmd_is_read port was old mid read

    shown_st : bit was 0 ≡ (mid.port port.0).st
    shown_st = (laws.shown_after port Cmd was old mid u.adapter_is_on.no_reset read).0

    shown_fre : bit was 4 ≡ (mid.port port.0).fre
    shown_fre = (laws.shown_after port Cmd was old mid u.adapter_is_on.no_reset read).1

    -- ---- ST is cleared

    module _ (zero : bit v 0 ≡ false) (others : IsButAt 0 was v) where
      fre_same : bit v 4 ≡ (mid.port port.0).fre
      fre_same = bit_four was v others ∙ shown_fre

      pub stop_may : IsStable (MayWrite (Px port Cmd) v) mid
      stop_may = laws.stopping_is_permitted port was v mid here.adapter_is_on here.has_port last (record { start = zero; receive = fre_same; others = λ k small st fre. others k small st })

      stop_leaves : (uses : SlotStates) → AnySlotStates uses → KeepsSlotStates uses (Px port Cmd) v mid
      stop_leaves uses is = record {
        start = λ on. absurd (true≢false (sym on ∙ zero));
        receive = λ on. let r = here.machine_is_related.2.driver_relation.state_relation.received_areas_in_use_are_placed port.0 (sym fre_same ∙ on) in (r.port_is_below_4, r.area_is_in_place);
      }

      module _ (new : Device) (write : Writes (Px port Cmd) v mid new) where
        pub stop_told : IsSimulatedAlong (AwaitsEngineStop 0 15 port 0) (ReadsPortOrWrites IsCommandRegister port) AnySlotStates old new
        stop_told = told_clears 0 15 port was v old mid new zero read stop_may stop_leaves write

        pub stop_has : ClearsStAlone (old.port port.0) (new.port port.0)
        stop_has =
            let after : IsOnWithPortAndAgrees AnySlotStates port new = usable_after laws Commanding port old new u stop_told.is_simulated in
            let set = laws.cmd_write_sets_st_and_fre port v mid new write in
            let same = beside_then (old.port port.0) (mid.port port.0) (new.port port.0) (beside_read laws port was old mid u.adapter_is_on.no_reset read) (beside_command laws port v mid new here.adapter_is_on.no_reset zero write) in
            let bits : (slot : ℕ) → ((new.port port.0).ci slot ≡ false) × ((new.port port.0).sact slot ≡ false) =
            λ slot. laws.stopped_port_bits_are_clear after.machine_is_related.0 after.machine_is_related.2.machine new port.0 slot after.machine_is_related.2.driver_relation.state_relation (set.0 ∙ zero) in
            record {
              st_is_clear = set.0 ∙ zero;
              ci_is_clear = λ slot. (bits slot).0;
              sact_is_clear = λ slot. (bits slot).1;
              fre_is_kept = set.1 ∙ fre_same ∙ (s.keeps.keeps_outside_reset.controls_are_kept port.0).fre_is_kept;
              bases_are_kept = bases_command laws port v mid new here.adapter_is_on.no_reset zero write ∙ (s.keeps.ports_keep_what_steps_keep port.0).bases_are_kept;
              sctl_det_is_kept = same.0;
              other_notes_are_kept = same.1;
            }

    -- ---- FRE is cleared

    module _ (stopped : IsStopped (old.port port.0)) (zero : bit v 4 ≡ false) (others : IsButAt 4 was v) where
      still : IsStopped (mid.port port.0)
      still = stopped_read laws port Cmd was old mid u.adapter_is_on.no_reset read stopped

      st_zero : bit v 0 ≡ false
      st_zero = bit_zero was v others ∙ shown_st ∙ still.engine_is_stopped.st_is_clear

      pub empty_may : IsStable (MayWrite (Px port Cmd) v) mid
      empty_may = laws.clearing_fre_is_permitted port was v mid here.adapter_is_on here.has_port last (record { st_is_clear = still.engine_is_stopped.st_is_clear; cr_is_clear = still.engine_is_stopped.cr_is_clear }) (record { start = st_zero; receive = zero; others = λ k small st fre. others k small fre })

      empty_leaves : (uses : SlotStates) → AnySlotStates uses → KeepsSlotStates uses (Px port Cmd) v mid
      empty_leaves uses is = record { start = λ on. absurd (true≢false (sym on ∙ st_zero)); receive = λ on. absurd (true≢false (sym on ∙ zero)) }

      module _ (new : Device) (write : Writes (Px port Cmd) v mid new) where
        pub empty_begins : IsSimulatedAlong (AwaitsEngineStop 4 14 port 0) (ReadsPortOrWrites IsCommandRegister port) AnySlotStates old new × IsStopped (new.port port.0) × ((new.port port.0).fre ≡ false)
            × ((new.port port.0).bases ≡ (old.port port.0).bases) × SameSctlAndNotesButCmd (old.port port.0) (new.port port.0)
        empty_begins = (
          told_clears 4 14 port was v old mid new zero read empty_may empty_leaves write,
          stopped_write laws port Cmd v mid new empty_may (λ _. st_zero) (λ (e : Cmd ≡ Sact). cc) write still,
          (laws.cmd_write_sets_st_and_fre port v mid new write).1 ∙ zero,
          bases_command laws port v mid new here.adapter_is_on.no_reset st_zero write ∙ (s.keeps.ports_keep_what_steps_keep port.0).bases_are_kept,
          beside_then (old.port port.0) (mid.port port.0) (new.port port.0) (beside_read laws port was old mid u.adapter_is_on.no_reset read) (beside_command laws port v mid new here.adapter_is_on.no_reset st_zero write),
        )

    -- ---- FRE is set

    module _ (quiet : IsQuiescentPort (old.port port.0)) (placed : (old.port port.0).bases ≡ programmed_bases port.0) (one : bit v 4 ≡ true) (others : IsButAt 4 was v) where
      stands : IsStopped (mid.port port.0)
      stands = stopped_read laws port Cmd was old mid u.adapter_is_on.no_reset read (record { engine_is_stopped = quiet.engine_is_stopped; sact_is_clear = quiet.sact_is_clear })

      in_place : (mid.port port.0).bases ≡ programmed_bases port.0
      in_place = (s.keeps.ports_keep_what_steps_keep port.0).bases_are_kept ∙ placed

      st_same : bit v 0 ≡ (mid.port port.0).st
      st_same = bit_zero was v others ∙ shown_st

      pub receive_may : IsStable (MayWrite (Px port Cmd) v) mid
      receive_may = laws.receiving_is_permitted port was v mid here.adapter_is_on here.has_port last
          (record { fr_is_clear = (s.keeps.ports_keep_what_steps_keep port.0).fr_stays_clear quiet.fr_is_clear; fb_is_written = ap (λ (b : Bases). b.fb_set) in_place; fbu_is_written = ap (λ (b : Bases). b.fbu_set) in_place })
          (record { start = st_same; receive = one; others = λ k small st fre. others k small fre })

      receive_leaves : (uses : SlotStates) → AnySlotStates uses → KeepsSlotStates uses (Px port Cmd) v mid
      receive_leaves uses is = record { start = λ on. absurd (true≢false (sym on ∙ (st_same ∙ stands.engine_is_stopped.st_is_clear))); receive = λ on. (here.has_port.0, ap (λ (b : Bases). b.fb) in_place) }

      module _ (new : Device) (write : Writes (Px port Cmd) v mid new) where
        pub receive_done : IsSimulated (ReadsPortOrWrites IsCommandRegister port) AnySlotStates old new × IsStoppedReceiving port.0 (new.port port.0) × SameSctlAndNotesButCmd (old.port port.0) (new.port port.0)
        receive_done = (
          followed_then laws (Controlling Commanding port) old mid new (reading port was old mid read)
              (followed_write laws (Controlling Commanding port) (Px port Cmd) v mid new (refl, refl) receive_may receive_leaves write),
          record {
            stopped = stopped_write laws port Cmd v mid new receive_may (λ _. st_same ∙ stands.engine_is_stopped.st_is_clear) (λ (e : Cmd ≡ Sact). cc) write stands;
            fre_is_set = (laws.cmd_write_sets_st_and_fre port v mid new write).1 ∙ one;
            areas_are_in_place = bases_command laws port v mid new here.adapter_is_on.no_reset (st_same ∙ stands.engine_is_stopped.st_is_clear) write ∙ in_place;
          },
          beside_then (old.port port.0) (mid.port port.0) (new.port port.0) (beside_read laws port was old mid u.adapter_is_on.no_reset read)
              (beside_command laws port v mid new here.adapter_is_on.no_reset (st_same ∙ stands.engine_is_stopped.st_is_clear) write),
        )

  module _ (port : Port) (start d e : Device) (v n : ℕ) (w : IsFalling port start n d) (call : Reads (Px port Cmd) v d e) where
    off : d.hr ≡ false
    off = w.usable.adapter_is_on.no_reset

    pub falls : bit v 15 ≡ false → IsSimulatedAlong (EngineFalls 0 15 port) (ReadsPortOrWrites IsCommandRegister port) AnySlotStates start e
    falls clear = told_falls 0 15 port n v start d e w.told call clear

    pub falling_on : IsOnWithPortAndAgrees AnySlotStates port e
    falling_on = usable_read laws AnySlotStates port Cmd v d e w.usable call

    pub has_still : ClearsStAlone (start.port port.0) (e.port port.0)
    has_still =
        let s : PortRegisterRead port.0 Cmd v d e = laws.read_changes_port_register port Cmd v d e call off in
        let k = s.keeps.ports_keep_what_steps_keep port.0 in
        let c = s.keeps.keeps_outside_reset.controls_are_kept port.0 in
        let same = beside_then (start.port port.0) (d.port port.0) (e.port port.0) (w.has.sctl_det_is_kept, w.has.other_notes_are_kept) (beside_read laws port v d e off call) in
        record {
          st_is_clear = k.st_stays_clear w.has.st_is_clear;
          ci_is_clear = λ slot. k.ci_stays_clear slot (w.has.ci_is_clear slot);
          sact_is_clear = λ slot. k.sact_stays_clear slot (w.has.sact_is_clear slot);
          fre_is_kept = c.fre_is_kept ∙ w.has.fre_is_kept;
          bases_are_kept = k.bases_are_kept ∙ w.has.bases_are_kept;
          sctl_det_is_kept = same.0;
          other_notes_are_kept = same.1;
        }

    pub fallen : bit v 15 ≡ false → IsStopped (e.port port.0)
    fallen clear = record {
      engine_is_stopped = laws.law_cr_read_clear_means_engine_stopped w.usable.machine_is_related.0 w.usable.machine_is_related.2.machine port v d e w.usable.machine_is_related.2.reached w.usable.machine_is_related.2.driver_relation.state_relation w.has.st_is_clear call clear;
      sact_is_clear = has_still.sact_is_clear;
    }

    awaited : bit v 15 ≡ true → not (d.port port.0).st && bit v 15 || not (d.port port.0).fre && bit v 14 ≡ true
    awaited set = ap (λ (st : Bool). not st && bit v 15 || not (d.port port.0).fre && bit v 14) w.has.st_is_clear ∙ ap (λ (b : Bool). b || not (d.port port.0).fre && bit v 14) set

    pub falls_still : n < MOST_READINGS → bit v 15 ≡ true → IsFalling port start (n + 1) e
    falls_still small set =
        let count = ap (λ (k : Notes). k.engine_wait_count) (laws.notes_read port Cmd v d e off call) in
        let one = counted_again _ n (d.port port.0).notes.engine_wait_count (awaited set) w.low small in
        record {
          told = told_stuck 0 15 port n v start d e w.told call ((laws.shown_after port Cmd v d e off call).0 ∙ has_still.st_is_clear, set);
          usable = falling_on;
          has = has_still;
          low = rw count one.0;
          high = λ _. rw count one.1;
        }

  module _ (port : Port) (start d e : Device) (v n : ℕ) (w : IsEmptying port start n d) (call : Reads (Px port Cmd) v d e) where
    quiet : d.hr ≡ false
    quiet = w.has.usable.adapter_is_on.no_reset

    -- what goes on, whatever was read
    pub empties : HasEmptied port start e
    empties =
        let s : PortRegisterRead port.0 Cmd v d e = laws.read_changes_port_register port Cmd v d e call quiet in
        record {
          usable = usable_read laws AnySlotStates port Cmd v d e w.has.usable call;
          stopped = stopped_on (s.keeps.ports_keep_what_steps_keep port.0) w.has.stopped;
          fre = (s.keeps.keeps_outside_reset.controls_are_kept port.0).fre_is_kept ∙ w.has.fre;
          bases = (s.keeps.ports_keep_what_steps_keep port.0).bases_are_kept ∙ w.has.bases;
          same = beside_then (start.port port.0) (d.port port.0) (e.port port.0) w.has.same (beside_read laws port v d e quiet call);
        }

    pub emptied : bit v 14 ≡ false → (e.port port.0).fr ≡ false
    emptied clear = sym (laws.shown_after port Cmd v d e quiet call).2 ∙ clear

    pub empties_told : bit v 14 ≡ false → IsSimulatedAlong (EngineFalls 4 14 port) (ReadsPortOrWrites IsCommandRegister port) AnySlotStates start e
    empties_told clear = told_falls 4 14 port n v start d e w.told call clear

    held : bit v 14 ≡ true → not (d.port port.0).st && bit v 15 || not (d.port port.0).fre && bit v 14 ≡ true
    held set = or_true _ _ (ap (λ (fre : Bool). not fre && bit v 14) w.has.fre ∙ set)

    pub empties_still : n < MOST_READINGS → bit v 14 ≡ true → IsEmptying port start (n + 1) e
    empties_still small set =
        let count = ap (λ (k : Notes). k.engine_wait_count) (laws.notes_read port Cmd v d e quiet call) in
        let one = counted_again _ n (d.port port.0).notes.engine_wait_count (held set) w.low small in
        record {
          told = told_stuck 4 14 port n v start d e w.told call ((laws.shown_after port Cmd v d e quiet call).1 ∙ empties.fre, set);
          has = empties;
          low = rw count one.0;
          high = λ _. rw count one.1;
        }
