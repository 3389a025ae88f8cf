-- The four registers of addresses are written.
use Rattle.std.proofs.Common.{ℕ, ◌≡◌, ◌≢◌, ◌+◌, ◌≤◌, true, inl, inr, refl, sym, ◌∙◌, ap, subst, arith}
use Rattle.ata_types.specs.declared.Port.{Port}
use Rattle.ata_types.specs.declared.memory.TheConstants.{DRIVER_BYTES, RECEIVED_FIS_OFFSET}
use Rattle.hba_regs.specs.declared.reg.PortReg.{PortReg}
use Rattle.hba_regs.specs.declared.reg.PortReg.TheVariants.{Clb, Clbu, Fb, Fbu, Is, Cmd, Sctl}
use Rattle.hba_regs.specs.declared.reg.Reg.TheVariants.{Px}
use Rattle.adapter.specs.Access.{Writes, port_after_write}
use Rattle.adapter.specs.Device.{Bases, DevicePort, Device}
use Rattle.adapter.specs.Rules.{MayWrite, IsStable}
use Rattle.adapter.specs.RegisterEffects.{PortRegisterWritten}
use Rattle.refinement.specs.Fragments.{AnySlotStates, ReadsPortOrWrites, IsSimulated}
use Rattle.refinement.specs.Driver.{KeepsSlotStates}
use Rattle.refinement.specs.PortFacts.{IsQuiescentPort}
use Rattle.refinement.specs.MemoryLayout.{command_list_address, received_fis_address}
use Rattle.refinement.specs.Slots.{SlotStates}
use Rattle.port_control.specs.Ports.{IsCmdOrBaseRegister, IsOnWithPortAndAgrees, SameButCmdNotes, SameSctlAndNotesButCmd, programmed_bases}
use Rattle.port_control.proofs.Using.{usable_after, beside_none, beside_then, same_adapter}
use Rattle.port_control.specs.Laws.AccessPurpose.{Controlling}
use Rattle.port_control.specs.Laws.{Laws}
use Rattle.port_control.specs.Laws.RegisterSet.{Placing}
use Rattle.port_control.proofs.Stretching.{followed_then, followed_write}

-- some of the four were written, and the addresses are these
pub record IsPlacedBy (port : Port) (start d : Device) (b : Bases) : Type 0 where
  pub followed : IsSimulated (ReadsPortOrWrites IsCmdOrBaseRegister port) AnySlotStates start d
  pub usable : IsOnWithPortAndAgrees AnySlotStates port d
  pub quiet : IsQuiescentPort (d.port port.0)
  pub room : DRIVER_BYTES ≤ d.memory_size
  pub bases : (d.port port.0).bases ≡ b
  pub same : SameSctlAndNotesButCmd (start.port port.0) (d.port port.0)

-- all four
pub programmed_by : (port list : ℕ) (b : Bases) → list ≡ command_list_address port → (record b { clb = list; fb = list + RECEIVED_FIS_OFFSET; clb_set = true; clbu_set = true; fb_set = true; fbu_set = true }) ≡ programmed_bases port
programmed_by port list b is = ap (λ (n : ℕ). record b { clb = n; fb = n + RECEIVED_FIS_OFFSET; clb_set = true; clbu_set = true; fb_set = true; fbu_set = true }) is

module _ (laws : Laws) where
  pub placed_first : (port : Port) (d : Device) → IsOnWithPortAndAgrees AnySlotStates port d → IsQuiescentPort (d.port port.0) → DRIVER_BYTES ≤ d.memory_size → IsPlacedBy port d d (d.port port.0).bases
  placed_first port d u quiet room = record { followed = (laws.fragments.empty_fragment_is_simulated (Controlling Placing port) d).is_simulated; usable = u; quiet = quiet; room = room; bases = refl; same = beside_none (d.port port.0) }

  module _ (port : Port) (start d e : Device) (b : Bases) (w : IsPlacedBy port start d b) where
    -- one more
    more : (r : PortReg) (v : ℕ) (change : Bases → Bases) → IsCmdOrBaseRegister r → r ≢ Sctl → r ≢ Is → r ≢ Cmd → IsStable (MayWrite (Px port r) v) d →
        ((uses : SlotStates) → KeepsSlotStates uses (Px port r) v d) → ((tape : ℕ) (p : DevicePort) → ((port_after_write r v tape p).bases ≡ change p.bases) × ((port_after_write r v tape p).sctl_det ≡ p.sctl_det)) →
        Writes (Px port r) v d e → IsPlacedBy port start e (change b)
    more r v change kind control causes command may leaves effect call =
        let one : IsSimulated (ReadsPortOrWrites IsCmdOrBaseRegister port) AnySlotStates d e = followed_write laws (Controlling Placing port) (Px port r) v d e (refl, kind) may (λ uses is. leaves uses) call in
        let x : PortRegisterWritten port.0 r v d e = laws.write_changes_port_register port r v d e call w.usable.adapter_is_on.no_reset in
        let notes = laws.writes_keep_notes port r v d e control causes (λ is. absurd (command is)) call in
        record {
          followed = followed_then laws (Controlling Placing port) start d e w.followed one;
          usable = usable_after laws Placing port d e w.usable one;
          quiet = laws.writes_keep_port_quiescent port (Px port r) v d e may (λ (is : Px port r ≡ Px port Cmd). let same : r ≡ Cmd = cc in absurd (command same)) call w.quiet;
          room = rw (same_adapter laws Placing port d e one.is_driven).memory_size w.room;
          bases = ap (λ (p : DevicePort). p.bases) x.port_is_written ∙ (effect _ (x.at_access.port port.0)).0 ∙ ap change ((x.keeps.ports_keep_what_steps_keep port.0).bases_are_kept ∙ w.bases);
          same = beside_then (start.port port.0) (d.port port.0) (e.port port.0) w.same (
            ap (λ (p : DevicePort). p.sctl_det) x.port_is_written ∙ (effect _ (x.at_access.port port.0)).1 ∙ (x.keeps.keeps_outside_reset.controls_are_kept port.0).sctl_det_is_kept,
            subst (SameButCmdNotes (d.port port.0).notes) (sym notes) refl,
          );
        }

    module _ (v : ℕ) (is : v ≡ command_list_address port.0) where
      pub clb_may : IsStable (MayWrite (Px port Clb) v) d
      clb_may = subst (λ (n : ℕ). IsStable (MayWrite (Px port Clb) n) d) (sym is)
          (laws.writing_clb_is_permitted d port w.usable.adapter_is_on w.usable.has_port w.quiet.engine_is_stopped.st_is_clear w.quiet.engine_is_stopped.cr_is_clear (let below = w.usable.has_port.0 in let room = w.room in omega (arith, below, room)))

      pub clb_placed : Writes (Px port Clb) v d e → IsPlacedBy port start e (record b { clb = v; clb_set = true })
      clb_placed call = more Clb v (λ (x : Bases). record x { clb = v; clb_set = true }) (inr (inl refl)) (λ (k : Clb ≡ Sctl). absurd (cc)) (λ (k : Clb ≡ Is). absurd (cc)) (λ (k : Clb ≡ Cmd). absurd (cc))
          clb_may (λ uses. inl is) (λ tape p. (refl, refl)) call

    pub clbu_may : IsStable (MayWrite (Px port Clbu) 0) d
    clbu_may = laws.writing_clbu_is_permitted d port w.usable.adapter_is_on w.usable.has_port w.quiet.engine_is_stopped.st_is_clear w.quiet.engine_is_stopped.cr_is_clear

    pub clbu_placed : Writes (Px port Clbu) 0 d e → IsPlacedBy port start e (record b { clbu_set = true })
    clbu_placed call = more Clbu 0 (λ (x : Bases). record x { clbu_set = true }) (inr (inr (inl refl))) (λ (k : Clbu ≡ Sctl). absurd (cc)) (λ (k : Clbu ≡ Is). absurd (cc)) (λ (k : Clbu ≡ Cmd). absurd (cc))
        clbu_may (λ uses. tt) (λ tape p. (refl, refl)) call

    module _ (v : ℕ) (is : v ≡ received_fis_address port.0) where
      pub fb_may : IsStable (MayWrite (Px port Fb) v) d
      fb_may = subst (λ (n : ℕ). IsStable (MayWrite (Px port Fb) n) d) (sym is)
          (laws.writing_fb_is_permitted d port w.usable.adapter_is_on w.usable.has_port w.quiet.fre_is_clear w.quiet.fr_is_clear (let below = w.usable.has_port.0 in let room = w.room in omega (arith, below, room)))

      pub fb_placed : Writes (Px port Fb) v d e → IsPlacedBy port start e (record b { fb = v; fb_set = true })
      fb_placed call = more Fb v (λ (x : Bases). record x { fb = v; fb_set = true }) (inr (inr (inr (inl refl)))) (λ (k : Fb ≡ Sctl). absurd (cc)) (λ (k : Fb ≡ Is). absurd (cc)) (λ (k : Fb ≡ Cmd). absurd (cc))
          fb_may (λ uses. tt) (λ tape p. (refl, refl)) call

    pub fbu_may : IsStable (MayWrite (Px port Fbu) 0) d
    fbu_may = laws.writing_fbu_is_permitted d port w.usable.adapter_is_on w.usable.has_port w.quiet.fre_is_clear w.quiet.fr_is_clear

    pub fbu_placed : Writes (Px port Fbu) 0 d e → IsPlacedBy port start e (record b { fbu_set = true })
    fbu_placed call = more Fbu 0 (λ (x : Bases). record x { fbu_set = true }) (inr (inr (inr (inr refl)))) (λ (k : Fbu ≡ Sctl). absurd (cc)) (λ (k : Fbu ≡ Is). absurd (cc)) (λ (k : Fbu ≡ Cmd). absurd (cc))
        fbu_may (λ uses. tt) (λ tape p. (refl, refl)) call
