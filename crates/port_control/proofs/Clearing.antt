-- PxSERR and then PxIS are cleared.
use Rattle.std.proofs.Common.{ℕ, ◌≡◌, ◌<◌, ◌%◌, ◌==◌, true, false, inl, inr, refl, ◌∙◌, ap, arith}
use Rattle.std.proofs.lemmas.Nat.Bits.{bit_at_ones}
use Rattle.ata_types.specs.declared.Port.{Port}
use Rattle.hba_regs.specs.Bits.{bit}
use Rattle.hba_regs.specs.declared.reg.PortReg.{PortReg}
use Rattle.hba_regs.specs.declared.reg.PortReg.TheVariants.{Is, Sctl, Serr, Ssts, Tfd}
use Rattle.hba_regs.specs.declared.reg.Reg.TheVariants.{Px}
use Rattle.adapter.specs.Access.{Reads, Writes}
use Rattle.adapter.specs.Access.Access.{Reading, Writing}
use Rattle.adapter.specs.Device.{Device}
use Rattle.adapter.specs.Rules.{IsOn, MayWrite, IsStable}
use Rattle.refinement.specs.Fragments.{AnySlotStates, ReadsPortOrWrites, IsSimulated}
use Rattle.refinement.specs.PreservedParts.{DoesNotWrite}
use Rattle.port_control.specs.Ports.{IsSerrOrIs, IsOnWithPortAndAgrees, IsStoppedReceiving, SawDeviceSinceSctlWrite, ClearsErrors, SerrShowsOnlyNewPlugs, ClearsErrorState}
use Rattle.port_control.proofs.Using.{usable_after}
use Rattle.port_control.proofs.Settling.{comes_in_parts, plugs_in_parts, Settles, settles}
use Rattle.port_control.specs.Laws.RegisterSet.{ClearingErrors}
use Rattle.port_control.specs.Laws.AccessPurpose.{Controlling}
use Rattle.port_control.specs.Laws.{Laws}
use Rattle.port_control.proofs.Stretching.{followed_read, followed_then, followed_write}

pub ones : (place : ℕ) → place < 32 → bit 0xffffffff place ≡ true
ones place small = ap (λ (n : ℕ). n == 1) (bit_at_ones 32 place small)

module _ (laws : Laws) where
  pub serr_may : (port : Port) (v : ℕ) (d : Device) → IsOnWithPortAndAgrees AnySlotStates port d → IsStable (MayWrite (Px port Serr) v) d
  serr_may port v d u = laws.write_stays (Px port Serr) v d (λ p e. cc) (u.adapter_is_on, u.has_port, tt)

  pub is_may : (port : Port) (v : ℕ) (d : Device) → IsOnWithPortAndAgrees AnySlotStates port d → IsStable (MayWrite (Px port Is) v) d
  is_may port v d u = laws.write_stays (Px port Is) v d (λ p e. cc) (u.adapter_is_on, u.has_port, tt)

  -- what PxSSTS was read as stays
  saw_still : (port : Port) (r : PortReg) (v : ℕ) (old new : Device) → DoesNotWrite (Px port Sctl) (Writing (Px port r) v) → Writes (Px port r) v old new →
      SawDeviceSinceSctlWrite (old.port port.0).notes → SawDeviceSinceSctlWrite (new.port port.0).notes
  saw_still port r v old new spares call saw =
      let link = (laws.access_notes port (Writing (Px port r) v) old new call).link tt in
      (ap (λ (n : ℕ). n % 16) link.0 ∙ saw.0, link.1 spares ∙ saw.1)

  module _ (port : Port) (old mid new : Device) (u : IsOnWithPortAndAgrees AnySlotStates port old) (serr : Writes (Px port Serr) 0xffffffff old mid) where
    pub first : IsSimulated (ReadsPortOrWrites IsSerrOrIs port) AnySlotStates old mid
    first = followed_write laws (Controlling ClearingErrors port) (Px port Serr) 0xffffffff old mid (refl, inl refl) (serr_may port 0xffffffff old u) (λ uses is. tt) serr

    pub clearing : IsOnWithPortAndAgrees AnySlotStates port mid
    clearing = usable_after laws ClearingErrors port old mid u first

    -- PxSERR tells no disk of before, whatever is cleared after it
    pub since_clear : IsSimulated (ReadsPortOrWrites IsSerrOrIs port) AnySlotStates mid new → (old.port port.0).link_due ≡ false → SerrShowsOnlyNewPlugs port.0 old new
    since_clear second undue =
        let s : Settles port old mid = settles laws port old mid u.adapter_is_on first.is_driven in
        let t : Settles port mid new = settles laws port mid new clearing.adapter_is_on second.is_driven in
        let errors = laws.errors_cleared port 0xffffffff old mid serr in
        let c = t.change (s.undue undue) in
        record {
          serr_n_is_clear = λ none. c.serr_n_rises_by_plug_events (plugs_in_parts laws port.0 old mid new s.grows t.grows none).1 (errors.0 (ones 16 (omega arith)));
          serr_x_is_clear = λ none. c.serr_x_rises_by_disk_coming (comes_in_parts laws port.0 old mid new s.grows t.grows none).1 (errors.1 (ones 26 (omega arith)));
        }

    module _ (is : Writes (Px port Is) 0xffffffff mid new) where
      second : IsSimulated (ReadsPortOrWrites IsSerrOrIs port) AnySlotStates mid new
      second = followed_write laws (Controlling ClearingErrors port) (Px port Is) 0xffffffff mid new (refl, inr refl) (is_may port 0xffffffff mid clearing) (λ uses is. tt) is

      pub clears : IsSimulated (ReadsPortOrWrites IsSerrOrIs port) AnySlotStates old new
      clears = followed_then laws (Controlling ClearingErrors port) old mid new first second

      pub cleared_saw : SawDeviceSinceSctlWrite (old.port port.0).notes → SawDeviceSinceSctlWrite (new.port port.0).notes
      cleared_saw saw =
          saw_still port Is 0xffffffff mid new (λ (e : Px port Is ≡ Px port Sctl). absurd (cc)) is
          (saw_still port Serr 0xffffffff old mid (λ (e : Px port Serr ≡ Px port Sctl). absurd (cc)) serr saw)

      pub cleared_calm : (place : ℕ) → place < 32 → (new.port port.0).is place ≡ false
      cleared_calm place small = laws.causes_cleared port 0xffffffff mid new is place (ones place small)

      pub cleared_by : ClearsErrors port old new
      cleared_by = record { between = mid; clears_serr = serr; clears_is = is }

      pub cleared_clear : (old.port port.0).link_due ≡ false → SerrShowsOnlyNewPlugs port.0 old new
      cleared_clear = since_clear second

  -- ---- and PxTFD is read then

  module _ (port : Port) (v : ℕ) (old mid new : Device) (u : IsOnWithPortAndAgrees AnySlotStates port old) (receives : IsStoppedReceiving port.0 (old.port port.0))
      (undue : (old.port port.0).link_due ≡ false) (det : (old.port port.0).sctl_det ≡ 0) (first : IsSimulated (ReadsPortOrWrites IsSerrOrIs port) AnySlotStates old mid)
      (clears : ClearsErrors port old mid) (read : Reads (Px port Tfd) v mid new) where
    forgetting : IsOnWithPortAndAgrees AnySlotStates port mid
    forgetting = usable_after laws ClearingErrors port old mid u first

    then : IsSimulated (ReadsPortOrWrites IsSerrOrIs port) AnySlotStates mid new
    then = followed_read laws (Controlling ClearingErrors port) (Px port Tfd) v mid new refl read

    pub forgets_followed : IsSimulated (ReadsPortOrWrites IsSerrOrIs port) AnySlotStates old new
    forgets_followed = followed_then laws (Controlling ClearingErrors port) old mid new first then

    pub forgets_on : IsOn new
    forgets_on = (usable_after laws ClearingErrors port mid new forgetting then).adapter_is_on

    -- neither a write nor a reading of another register leaves another value of PxSSTS, or another count
    abbrev SameLink : Device → Device → Type 0
    SameLink a b = ((b.port port.0).notes.last_ssts ≡ (a.port port.0).notes.last_ssts) × ((b.port port.0).notes.link_wait_count ≡ (a.port port.0).notes.link_wait_count)

    same_written : (r : PortReg) (w : ℕ) (a b : Device) → DoesNotWrite (Px port Sctl) (Writing (Px port r) w) → Writes (Px port r) w a b → SameLink a b
    same_written r w a b spares call = let link = (laws.access_notes port (Writing (Px port r) w) a b call).link tt in (link.0, link.1 spares)

    same_link : SameLink old new
    same_link =
        let first = same_written Serr 0xffffffff old clears.between (λ (e : Px port Serr ≡ Px port Sctl). absurd (cc)) clears.clears_serr in
        let second = same_written Is 0xffffffff clears.between mid (λ (e : Px port Is ≡ Px port Sctl). absurd (cc)) clears.clears_is in
        let third = (laws.access_notes port (Reading (Px port Tfd) v) mid new read).link (λ (e : Px port Tfd ≡ Px port Ssts). absurd (cc)) in
        (third.0 ∙ second.0 ∙ first.0, third.1 tt ∙ second.1 ∙ first.1)

    pub forgets : ((place : ℕ) → place < 32 → (mid.port port.0).is place ≡ false) → SerrShowsOnlyNewPlugs port.0 old mid → ClearsErrorState port v old new
    forgets calm clear =
        let s : Settles port old mid = settles laws port old mid u.adapter_is_on first.is_driven in
        let t : Settles port mid new = settles laws port mid new forgetting.adapter_is_on then.is_driven in
        let c = t.change (s.undue undue) in
        let still = s.receiving receives in
        let after = t.receiving still in
        let quiet : (place : ℕ) → place < 32 → (new.port port.0).is place ≡ false = λ place small. t.calm still place (calm place small) in
        record {
          cleared = mid;
          clears = clears;
          reads = read;
          receives = after;
          last_tfd_is = laws.last_tfd_is_read port v mid new read;
          last_ssts_is_kept = same_link.0;
          link_wait_count_is_kept = same_link.1;
          no_cause_is_set = quiet;
          serr_shows_only_new_plugs = record {
            serr_n_is_clear = λ none. let n = plugs_in_parts laws port.0 old mid new s.grows t.grows none in c.serr_n_rises_by_plug_events n.1 (clear.serr_n_is_clear n.0);
            serr_x_is_clear = λ none. let n = comes_in_parts laws port.0 old mid new s.grows t.grows none in c.serr_x_rises_by_disk_coming n.1 (clear.serr_x_is_clear n.0);
          };
          is_clean_to_start = record {
            is_stopped_tfes_clear = (after.stopped.engine_is_stopped.cr_is_clear, quiet 30 (omega arith));
            no_link_is_due = t.undue (s.undue undue);
            no_comreset = λ e. let d = t.det ∙ s.det ∙ det in absurd (omega (arith, e, d));
          };
        }
