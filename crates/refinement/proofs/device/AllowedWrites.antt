-- A write that may be made may be made later.
use Rattle.std.proofs.Common.{ℕ, ◌≡◌, ◌≢◌, ◌⊎◌, ◌<◌, ◌≤◌, ◌+◌, ◌%◌, ◌||◌, Bool, true, false, refl, sym, ◌∙◌, ap, arith, inl, inr, ⊎_elim}
use Rattle.std.proofs.lemmas.Bool.{cases_eq, both_ways}
use Rattle.ata_types.specs.declared.Port.{Port}
use Rattle.ata_types.specs.declared.memory.TheConstants.{LIST_BYTES}
use Rattle.hba_regs.specs.Bits.{bit}
use Rattle.hba_regs.specs.declared.reg.Reg.{Reg}
use Rattle.hba_regs.specs.declared.reg.Reg.TheVariants.{Cap, Ghc, Pi, Vs, Cap2, Bohc, Px}
use Rattle.hba_regs.specs.declared.reg.Reg.TheVariants as adapter
use Rattle.hba_regs.specs.declared.reg.PortReg.{PortReg}
use Rattle.hba_regs.specs.declared.reg.PortReg.TheVariants.{Clb, Clbu, Fb, Fbu, Is, Ie, Cmd, Tfd, Sig, Ssts, Sctl, Serr, Sact, Ci}
use Rattle.adapter.specs.Access.{Writes}
use Rattle.adapter.specs.Device.{Bases, Notes, DevicePort, Device}
use Rattle.adapter.specs.KeptBySteps.{KeepsOverSteps, KeepsOutsideReset, PortBitsOnlyFallFreeSlotsStay, KeepsControlsFlagsRise}
use Rattle.adapter.specs.Rules.{IsOn, HasPort, MayStart, MaySetFre, MayStopReceiving, MayWriteCmd, MayWritePort, MayWrite, IsStable}
use Rattle.adapter.proofs.Calls.{PortRegisterWritten, put, on_after, on_stays}
use Rattle.adapter.proofs.KeptLemmas.{law_step_lists_keep_what_steps_keep}
use Rattle.refinement.specs.Driver.{KeepsSlotStates, AllFree, KeepsOtherCmdBits}
use Rattle.refinement.specs.PortFacts.{StartsCleanAndWritesSctlStopped, IsCleanToStart}
use Rattle.refinement.specs.MemoryLayout.{command_list_address, received_fis_address}
use Rattle.refinement.specs.Slots.{SlotStates}
use Rattle.refinement.proofs.device.StartConditions.{steps_quiet}

-- ---- a port

module _ (p q : DevicePort) (k : PortBitsOnlyFallFreeSlotsStay p q) (c : KeepsControlsFlagsRise p q) (notes : q.notes ≡ p.notes) where
  same_base : {A : Type 0} (f : Bases → A) → f q.bases ≡ f p.bases
  same_base f = ap f k.bases_are_kept

  start_stays : MayStart p → MayStart q
  start_stays x = record {
    cr_is_clear = k.cr_stays_clear x.cr_is_clear;
    receives = c.fre_is_kept ∙ x.receives;
    programmed = record {
      clb_is_written = same_base (λ b. b.clb_set) ∙ x.programmed.clb_is_written;
      clbu_is_written = same_base (λ b. b.clbu_set) ∙ x.programmed.clbu_is_written;
      fb_is_written = same_base (λ b. b.fb_set) ∙ x.programmed.fb_is_written;
      fbu_is_written = same_base (λ b. b.fbu_set) ∙ x.programmed.fbu_is_written;
    };
    link_was_seen = ap (λ (n : Notes). n.last_ssts % 16) notes ∙ x.link_was_seen;
    last_tfd_was_idle = ap (λ (n : Notes). bit n.last_tfd 7 || bit n.last_tfd 3) notes ∙ x.last_tfd_was_idle;
  }

  receive_stays : MaySetFre p → MaySetFre q
  receive_stays x = record {
    fr_is_clear = k.fr_stays_clear x.fr_is_clear;
    fb_is_written = same_base (λ b. b.fb_set) ∙ x.fb_is_written;
    fbu_is_written = same_base (λ b. b.fbu_set) ∙ x.fbu_is_written;
  }

  stop_stays : MayStopReceiving p → MayStopReceiving q
  stop_stays x = record { st_is_clear = c.st_is_kept ∙ x.st_is_clear; cr_is_clear = k.cr_stays_clear x.cr_is_clear }

  command_stays : (v : ℕ) → MayWriteCmd p v → MayWriteCmd q v
  command_stays v x = record {
    start = λ b. ⊎_elim (λ (on : p.st ≡ true). inl (c.st_is_kept ∙ on)) (λ (y : MayStart p). inr (start_stays y)) (x.start b);
    receive = λ b. ⊎_elim (λ (on : p.fre ≡ true). inl (c.fre_is_kept ∙ on)) (λ (y : MaySetFre p). inr (receive_stays y)) (x.receive b);
    stop_receiving = λ b. ⊎_elim
        (λ (off : p.fre ≡ false). inl (c.fre_is_kept ∙ off))
        (λ (y : MayStopReceiving p × (bit v 0 ≡ false)). inr (stop_stays y.0, y.1))
        (x.stop_receiving b);
    other_bits_are_kept = λ place small start receive. x.other_bits_are_kept place small start receive ∙ ap (λ (n : Notes). bit n.last_cmd place) (sym notes);
  }

  port_stays : (r : PortReg) (v : ℕ) (old new : Device) → new.memory_size ≡ old.memory_size → r ≢ Ci → MayWritePort r v old p → MayWritePort r v new q
  port_stays Cmd v old new size other x = command_stays v x
  port_stays Sctl v old new size other x = (c.st_is_kept ∙ x.0, x.1)
  port_stays Clb v old new size other x = (k.cr_stays_clear x.0, c.st_is_kept ∙ x.1, x.2, omega (arith, size, x.3))
  port_stays Clbu v old new size other x = (k.cr_stays_clear x.0, c.st_is_kept ∙ x.1, x.2)
  port_stays Fb v old new size other x = (k.fr_stays_clear x.0, c.fre_is_kept ∙ x.1, x.2, omega (arith, size, x.3))
  port_stays Fbu v old new size other x = (k.fr_stays_clear x.0, c.fre_is_kept ∙ x.1, x.2)
  port_stays Ci v old new size other x = absurd (other refl)
  port_stays Sact v old new size other x = c.st_is_kept ∙ x
  port_stays Serr v old new size other x = x
  port_stays Is v old new size other x = x
  port_stays Ie v old new size other x = x
  port_stays Tfd v old new size other x = x
  port_stays Sig v old new size other x = x
  port_stays Ssts v old new size other x = x

-- ---- any register

pub write_stays : (r : Reg) (v : ℕ) (d : Device) → ((port : Port) → r ≢ Px port Ci) → MayWrite r v d → IsStable (MayWrite r v) d
write_stays Ghc v d other x mid s = x
write_stays adapter.Is v d other x mid s = (
  on_stays x.0 s,
  λ port small set. ap (λ (n : Notes). n.acknowledged) ((law_step_lists_keep_what_steps_keep s).notes_are_kept port) ∙ x.1 port small set,
)
write_stays (Px port r) v d other x mid s =
    let k : KeepsOverSteps d mid = law_step_lists_keep_what_steps_keep s in
    let c : KeepsOutsideReset d mid = k.keeps_outside_reset x.0.no_reset in (
      on_after x.0 c,
      (x.1.0, ap (λ (n : ℕ). bit n port.0) k.pi_is_kept ∙ x.1.1),
      port_stays (d.port port.0) (mid.port port.0) (k.port_bits_only_fall port.0) (c.controls_are_kept port.0) (k.notes_are_kept port.0) r v d mid k.memory_size_is_kept (λ e. other port (ap (Px port) e)) x.2,
    )
write_stays Cap v d other x mid s = x
write_stays Pi v d other x mid s = x
write_stays Vs v d other x mid s = x
write_stays Cap2 v d other x mid s = x
write_stays Bohc v d other x mid s = x

-- ---- what is asked beside the rules

pub uses_stay : (uses : SlotStates) (r : Reg) (v : ℕ) (d : Device) → d.hr ≡ false → KeepsSlotStates uses r v d → IsStable (KeepsSlotStates uses r v) d
uses_stay uses (Px port Cmd) v d off x mid s =
    let k : KeepsOverSteps d mid = law_step_lists_keep_what_steps_keep s in
    let c : KeepsOutsideReset d mid = k.keeps_outside_reset off in
    record {
      start = λ b. ⊎_elim (λ (on : (d.port port.0).st ≡ true). inl ((c.controls_are_kept port.0).st_is_kept ∙ on)) (λ (free : AllFree uses port.0). inr free) (x.start b);
      receive = λ b. let y = x.receive b in (y.0, ap (λ (z : Bases). z.fb) (k.port_bits_only_fall port.0).bases_are_kept ∙ y.1);
    }
uses_stay uses (Px port Clb) v d off x mid s = x
uses_stay uses (Px port Sact) v d off x mid s = x
uses_stay uses (Px port Ci) v d off x mid s = x
uses_stay uses (Px port Clbu) v d off x mid s = x
uses_stay uses (Px port Fb) v d off x mid s = x
uses_stay uses (Px port Fbu) v d off x mid s = x
uses_stay uses (Px port Is) v d off x mid s = x
uses_stay uses (Px port Ie) v d off x mid s = x
uses_stay uses (Px port Tfd) v d off x mid s = x
uses_stay uses (Px port Sig) v d off x mid s = x
uses_stay uses (Px port Ssts) v d off x mid s = x
uses_stay uses (Px port Sctl) v d off x mid s = x
uses_stay uses (Px port Serr) v d off x mid s = x
uses_stay uses Cap v d off x mid s = x
uses_stay uses Ghc v d off x mid s = x
uses_stay uses adapter.Is v d off x mid s = x
uses_stay uses Pi v d off x mid s = x
uses_stay uses Vs v d off x mid s = x
uses_stay uses Cap2 v d off x mid s = x
uses_stay uses Bohc v d off x mid s = x

pub record_stays : (r : Reg) (v : ℕ) (d : Device) → d.hr ≡ false → StartsCleanAndWritesSctlStopped r v d → IsStable (StartsCleanAndWritesSctlStopped r v) d
record_stays (Px port Cmd) v d off x mid s =
    let c : KeepsOutsideReset d mid = (law_step_lists_keep_what_steps_keep s).keeps_outside_reset off in
    λ b. ⊎_elim (λ (on : (d.port port.0).st ≡ true). inl ((c.controls_are_kept port.0).st_is_kept ∙ on)) (λ (quiet : IsCleanToStart (d.port port.0)). inr (steps_quiet port.0 d mid s quiet)) (x b)
record_stays (Px port Sctl) v d off x mid s = ((law_step_lists_keep_what_steps_keep s).port_bits_only_fall port.0).cr_stays_clear x
record_stays (Px port Clb) v d off x mid s = x
record_stays (Px port Clbu) v d off x mid s = x
record_stays (Px port Fb) v d off x mid s = x
record_stays (Px port Fbu) v d off x mid s = x
record_stays (Px port Is) v d off x mid s = x
record_stays (Px port Ie) v d off x mid s = x
record_stays (Px port Tfd) v d off x mid s = x
record_stays (Px port Sig) v d off x mid s = x
record_stays (Px port Ssts) v d off x mid s = x
record_stays (Px port Serr) v d off x mid s = x
record_stays (Px port Sact) v d off x mid s = x
record_stays (Px port Ci) v d off x mid s = x
record_stays Cap v d off x mid s = x
record_stays Ghc v d off x mid s = x
record_stays adapter.Is v d off x mid s = x
record_stays Pi v d off x mid s = x
record_stays Vs v d off x mid s = x
record_stays Cap2 v d off x mid s = x
record_stays Bohc v d off x mid s = x

-- ---- the four registers of addresses

module _ (d : Device) (port : Port) (on : IsOn d) (there : HasPort d port.0) where
  module _ (st : (d.port port.0).st ≡ false) (cr : (d.port port.0).cr ≡ false) where
    pub list_may : command_list_address port.0 + LIST_BYTES ≤ d.memory_size → IsStable (MayWrite (Px port Clb) (command_list_address port.0)) d
    list_may inside = write_stays (Px port Clb) (command_list_address port.0) d (λ p e. cc) (on, there, (cr, st, omega arith, inside))

    pub list_upper_may : IsStable (MayWrite (Px port Clbu) 0) d
    list_upper_may = write_stays (Px port Clbu) 0 d (λ p e. cc) (on, there, (cr, st, refl))

  module _ (fre : (d.port port.0).fre ≡ false) (fr : (d.port port.0).fr ≡ false) where
    pub received_may : received_fis_address port.0 + 256 ≤ d.memory_size → IsStable (MayWrite (Px port Fb) (received_fis_address port.0)) d
    received_may inside = write_stays (Px port Fb) (received_fis_address port.0) d (λ p e. cc) (on, there, (fr, fre, omega arith, inside))

    pub received_upper_may : IsStable (MayWrite (Px port Fbu) 0) d
    received_upper_may = write_stays (Px port Fbu) 0 d (λ p e. cc) (on, there, (fr, fre, refl))

-- ---- PxCMD, as it was last read but for ST and FRE

module _ (port : Port) (was v : ℕ) (d : Device) (on : IsOn d) (there : HasPort d port.0) (last : (d.port port.0).notes.last_cmd ≡ was) where
  may : MayWriteCmd (d.port port.0) v → IsStable (MayWrite (Px port Cmd) v) d
  may x = write_stays (Px port Cmd) v d (λ p e. cc) (on, there, x)

  others : (st fre : Bool) → KeepsOtherCmdBits st fre was v → (place : ℕ) → place < 32 → place ≢ 0 → place ≢ 4 → bit v place ≡ bit (d.port port.0).notes.last_cmd place
  others st fre x place small start receive = x.others place small start receive ∙ ap (λ (n : ℕ). bit n place) (sym last)

  pub starting_may : MayStart (d.port port.0) → KeepsOtherCmdBits true true was v → IsStable (MayWrite (Px port Cmd) v) d
  starting_may ready x = may (record {
    start = λ b. inr ready;
    receive = λ b. inl ready.receives;
    stop_receiving = λ b. absurd (both_ways _ b x.receive);
    other_bits_are_kept = others true true x;
  })

  pub stopping_may : KeepsOtherCmdBits false (d.port port.0).fre was v → IsStable (MayWrite (Px port Cmd) v) d
  stopping_may x = may (record {
    start = λ b. absurd (both_ways _ x.start b);
    receive = λ b. inl (sym x.receive ∙ b);
    stop_receiving = λ b. inl (sym x.receive ∙ b);
    other_bits_are_kept = others false (d.port port.0).fre x;
  })

  pub receiving_may : MaySetFre (d.port port.0) → KeepsOtherCmdBits (d.port port.0).st true was v → IsStable (MayWrite (Px port Cmd) v) d
  receiving_may ready x = may (record {
    start = λ b. inl (sym x.start ∙ b);
    receive = λ b. inr ready;
    stop_receiving = λ b. absurd (both_ways _ b x.receive);
    other_bits_are_kept = others (d.port port.0).st true x;
  })

  pub no_receiving_may : MayStopReceiving (d.port port.0) → KeepsOtherCmdBits false false was v → IsStable (MayWrite (Px port Cmd) v) d
  no_receiving_may ready x = may (record {
    start = λ b. absurd (both_ways _ x.start b);
    receive = λ b. absurd (both_ways _ x.receive b);
    stop_receiving = λ b. inr (ready, x.start);
    other_bits_are_kept = others false false x;
  })

-- ---- IS, after PxIS

module _ (port : Port) (v : ℕ) (old new : Device) (on : IsOn old) (call : Writes (Px port Is) v old new) where
  wrote : PortRegisterWritten port.0 Is v old new
  wrote = put port Is v old new call on.no_reset

  acknowledged_here : (q : ℕ) → q ≡ port.0 → (new.port q).notes.acknowledged ≡ true
  acknowledged_here q e = ap (λ (k : ℕ). (new.port k).notes.acknowledged) e ∙ ap (λ (p : DevicePort). p.notes.acknowledged) wrote.port_is_written

  acknowledged_still : (q : ℕ) → (old.port q).notes.acknowledged ≡ true → (new.port q).notes.acknowledged ≡ true
  acknowledged_still q was = ⊎_elim
      (acknowledged_here q)
      (λ (ne : q ≡ port.0 → ⊥). ap (λ (p : DevicePort). p.notes.acknowledged) (wrote.other_ports_are_kept q ne) ∙ (ap (λ (n : Notes). n.acknowledged) (wrote.steps_keep_notes q) ∙ was))
      (cases_eq q port.0)

  pub acknowledging_may : (ports : ℕ) → ((q : ℕ) → q < 32 → bit ports q ≡ true → (q ≡ port.0) ⊎ ((old.port q).notes.acknowledged ≡ true)) → IsStable (MayWrite adapter.Is ports) new
  acknowledging_may ports h = write_stays adapter.Is ports new (λ p e. cc) (
    record { ae_is_set = wrote.ae_is_kept ∙ on.ae_is_set; no_reset = wrote.no_reset },
    λ q small set. ⊎_elim (acknowledged_here q) (acknowledged_still q) (h q small set),
  )
