-- What readings of PxIS and PxSSTS tell of what was before.
use Rattle.std.proofs.Common.{ℕ, ◌≡◌, ◌≢◌, ◌⊎◌, ◌≤◌, ◌%◌, true, false, refl, ◌∙◌, inl, inr, ⊎_elim}
use Rattle.std.proofs.lemmas.Bool.{cases_eq, cases_Bool, both_ways}
use Rattle.ata_types.specs.declared.Port.{Port}
use Rattle.hba_regs.specs.Bits.{bit}
use Rattle.hba_regs.specs.declared.reg.Reg.TheVariants.{Px}
use Rattle.hba_regs.specs.declared.reg.PortReg.TheVariants.{Is, Ssts}
use Rattle.adapter.specs.Access.{Reads}
use Rattle.adapter.specs.Access.Access.{Reading}
use Rattle.adapter.specs.Device.{Device}
use Rattle.adapter.specs.KeptBySteps.{KeepsControlsFlagsRise}
use Rattle.adapter.specs.RegisterEffects.{PortRegisterRead}
use Rattle.refinement.specs.StepLaws.{StepLaws}
use Rattle.refinement.specs.Errors.{LinkErrorsRiseByDisks, NoFaults}
use Rattle.refinement.specs.PreservedParts.{NoPlugEvents, LinkIsSameOrComesUp, SameLink, ComesUp}
use Rattle.refinement.proofs.device.ErrorBits.{access_change, plugs_come}
use Rattle.refinement.proofs.device.PortControls.{access_link}
use Rattle.refinement.proofs.device.RaisedBits.{access_raises}
use Rattle.refinement.proofs.device.TroubleBits.{shown_place}

module _ (laws : StepLaws) (port : Port) (v : ℕ) (old new : Device) (off : old.hr ≡ false) where
  module _ (call : Reads (Px port Is) v old new) where
    seen_is : PortRegisterRead port.0 Is v old new
    seen_is = laws.reading_shows_register port Is v old new call off

    kept : KeepsControlsFlagsRise (old.port port.0) (new.port port.0)
    kept = seen_is.keeps.keeps_outside_reset.controls_are_kept port.0

    pub causes_told : (place : ℕ) → 27 ≤ place → place ≤ 30 → (old.port port.0).is place ≡ true → bit v place ≡ true
    causes_told place low up set = shown_place v (new.port port.0) seen_is.shows place low up ∙ kept.causes_stay_set place set

    pub errors_told : ((old.port port.0).serr_n ≡ true → bit v 22 ≡ true) × ((old.port port.0).serr_x ≡ true → bit v 6 ≡ true)
    errors_told = (λ n. seen_is.shows 22 refl ∙ kept.serr_n_stays_set n, λ x. seen_is.shows 6 refl ∙ kept.serr_x_stays_set x)

    pub lost_told : (old.port port.0).link_due ≡ false → (bit v 22 ≡ true) ⊎ (bit v 6 ≡ true) →
        ((old.port port.0).serr_n ≡ true) ⊎ (((old.port port.0).serr_x ≡ true) ⊎ (NoPlugEvents port.0 old new → ⊥))
    lost_told undue told = ⊎_elim
        (λ (n : (old.port port.0).serr_n ≡ true). inl n)
        (λ (n : (old.port port.0).serr_n ≡ false). ⊎_elim
        (λ (x : (old.port port.0).serr_x ≡ true). inr (inl x))
        (λ (x : (old.port port.0).serr_x ≡ false). inr (inr (λ none. neither n x none)))
        (cases_Bool (old.port port.0).serr_x))
        (cases_Bool (old.port port.0).serr_n)
      where
        change : LinkErrorsRiseByDisks port.0 old new
        change = access_change laws port (Reading (Px port Is) v) old new off undue call

        neither : (old.port port.0).serr_n ≡ false → (old.port port.0).serr_x ≡ false → NoPlugEvents port.0 old new → ⊥
        neither n x none = ⊎_elim
            (λ (t : bit v 22 ≡ true). absurd (both_ways _ (seen_is.shows 22 refl ∙ change.serr_n_rises_by_plug_events none n) t))
            (λ (t : bit v 6 ≡ true). absurd (both_ways _ (seen_is.shows 6 refl ∙ change.serr_x_rises_by_disk_coming (plugs_come port.0 old new none) x) t))
            told

    pub tfes_read_means_faulted : bit v 30 ≡ true → ((old.port port.0).is 30 ≡ true) ⊎ (NoFaults port.0 old new → ⊥)
    tfes_read_means_faulted told = ⊎_elim
        (λ (t : (old.port port.0).is 30 ≡ true). inl t)
        (λ (f : (old.port port.0).is 30 ≡ false). inr (λ none. absurd (both_ways _ (seen_is.shows 30 refl ∙ (access_raises laws port (Reading (Px port Is) v) old new call).fault none f) told)))
        (cases_Bool ((old.port port.0).is 30))

  pub unlinked_told : (old.port port.0).link_due ≡ false → Reads (Px port Ssts) v old new → v % 16 ≢ 3 → ((old.port port.0).ssts_det ≢ 3) ⊎ (NoPlugEvents port.0 old new → ⊥)
  unlinked_told undue call other = ⊎_elim
      (λ (three : (old.port port.0).ssts_det ≡ 3). inr (λ none. other (shows ∙ same three (access_link laws port (Reading (Px port Ssts) v) old new off tt call none))))
      (λ (ne : (old.port port.0).ssts_det ≡ 3 → ⊥). inl ne)
      (cases_eq (old.port port.0).ssts_det 3)
    where
      shows : v % 16 ≡ (new.port port.0).ssts_det
      shows = (laws.reading_shows_register port Ssts v old new call off).shows

      same : (old.port port.0).ssts_det ≡ 3 → LinkIsSameOrComesUp (old.port port.0) (new.port port.0) → (new.port port.0).ssts_det ≡ 3
      same three = ⊎_elim (λ (s : SameLink (old.port port.0) (new.port port.0)). s.det ∙ three) (λ (c : ComesUp (old.port port.0) (new.port port.0)). c.det)
