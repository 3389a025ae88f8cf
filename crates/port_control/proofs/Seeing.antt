-- Whether a device shows, once PxSERR was cleared.
use Rattle.std.proofs.Common.{ℕ, ◌≡◌, ◌≢◌, ◌%◌, false, inl, inr, refl, sym, ◌∙◌, ap, nat_eq, if◌then◌else◌}
use Rattle.std.proofs.lemmas.Bool.Decides.{eqb_tells}
use Rattle.ata_types.specs.declared.Port.{Port}
use Rattle.ata_types.specs.declared.limits.TheConstants.{MOST_READINGS}
use Rattle.hba_regs.specs.declared.reg.PortReg.TheVariants.{Cmd, Sact, Sctl, Serr, Ssts}
use Rattle.hba_regs.specs.declared.reg.Reg.TheVariants.{Px}
use Rattle.adapter.specs.Access.{Reads, Writes, link_wait_count_full_once_linked}
use Rattle.adapter.specs.Access.Access.{Writing}
use Rattle.adapter.specs.Device.{Notes, Device}
use Rattle.adapter.specs.Rules.{IsOn}
use Rattle.refinement.specs.Fragments.{AnySlotStates, ReadsPortOrWrites, IsSimulated}
use Rattle.port_control.specs.Ports.{IsSerrOrIs, IsStopped, IsOnWithPortAndAgrees, SerrShowsOnlyNewPlugs, BacksFault}
use Rattle.port_control.specs.declared.PortFault.TheVariants.{NoDevice}
use Rattle.port_control.specs.Laws.{Laws}
use Rattle.port_control.specs.Laws.RegisterSet.{ClearingErrors}
use Rattle.port_control.specs.Laws.AccessPurpose.{Controlling}
use Rattle.port_control.proofs.Clearing.{clearing, first, serr_may, since_clear}
use Rattle.port_control.proofs.Looking.{looks}
use Rattle.port_control.proofs.Stretching.{followed_then}
use Rattle.port_control.proofs.Using.{stopped_read, stopped_write, usable_read}

-- a count of 64 readings stays, whatever the next one shows
full_stays : (shown : ℕ) → link_wait_count_full_once_linked shown MOST_READINGS ≡ MOST_READINGS
full_stays shown = elim (eqb_tells shown 3) [
  | inl both ↦ rw both.0 refl
  | inr both ↦ rw both.0 refl
]

-- and whether it is counted or not
full_noted : (det shown : ℕ) → (if nat_eq det 0 then link_wait_count_full_once_linked shown MOST_READINGS else MOST_READINGS) ≡ MOST_READINGS
full_noted det shown = elim (eqb_tells det 0) [
  | inl both ↦ rw both.0 (full_stays shown)
  | inr both ↦ rw both.0 refl
]

module _ (laws : Laws) (port : Port) (v : ℕ) (old mid new : Device) (u : IsOnWithPortAndAgrees AnySlotStates port old) (serr : Writes (Px port Serr) 0xffffffff old mid)
    (read : Reads (Px port Ssts) v mid new) where
  usable : IsOnWithPortAndAgrees AnySlotStates port mid
  usable = clearing laws port old mid new u serr

  pub seen_followed : IsSimulated (ReadsPortOrWrites IsSerrOrIs port) AnySlotStates old new
  seen_followed = followed_then laws (Controlling ClearingErrors port) old mid new (first laws port old mid new u serr) (looks laws port Ssts v mid new read)

  pub seen_on : IsOn new
  seen_on = (usable_read laws AnySlotStates port Ssts v mid new usable read).adapter_is_on

  pub seen_stopped : IsStopped (old.port port.0) → IsStopped (new.port port.0)
  seen_stopped is = stopped_read laws port Ssts v mid new usable.adapter_is_on.no_reset read
      (stopped_write laws port Serr 0xffffffff old mid (serr_may laws port 0xffffffff old u) (λ (e : Serr ≡ Cmd). absurd (cc)) (λ (e : Serr ≡ Sact). cc) serr is)

  pub seen_clear : (old.port port.0).link_due ≡ false → SerrShowsOnlyNewPlugs port.0 old new
  seen_clear = since_clear laws port old mid new u serr (looks laws port Ssts v mid new read)

  pub seen_there : v % 16 ≡ 3 → (new.port port.0).ssts_det ≡ 3
  seen_there three = sym (laws.shown_after port Ssts v mid new usable.adapter_is_on.no_reset read) ∙ three

  pub seen_none : v % 16 ≢ 3 → (old.port port.0).notes.link_wait_count ≡ MOST_READINGS → BacksFault NoDevice (new.port port.0).notes
  seen_none far full =
      let noted = laws.notes_read port Ssts v mid new usable.adapter_is_on.no_reset read in
      let still = ((laws.access_notes port (Writing (Px port Serr) 0xffffffff) old mid serr).link tt).1 (λ (e : Px port Serr ≡ Px port Sctl). absurd (cc)) ∙ full in
      let det = (mid.port port.0).sctl_det in (
        λ three. far (sym (ap (λ (k : Notes). k.last_ssts % 16) noted) ∙ three),
        ap (λ (k : Notes). k.link_wait_count) noted ∙ (ap (λ (n : ℕ). if nat_eq det 0 then link_wait_count_full_once_linked (v % 16) n else n) still ∙ full_noted det (v % 16)),
      )
