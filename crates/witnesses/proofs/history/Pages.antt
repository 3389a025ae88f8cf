-- The pages are of disks that fit.
use Rattle.std.proofs.Common.{ℕ, Bool, ◌≡◌, ◌<◌, ◌+◌, ◌*◌, ◌%◌, ◌^◌, ◌↔◌, true, false, slice_index, replicate, List, ◌∷◌, ◌++◌, None, ⊎_elim, refl, sym, ◌∙◌, arith}
use Rattle.std.specs.Int.{bit_at}
use Rattle.std.specs.Prelude.{IsTrue}
use Rattle.std.proofs.lemmas.Bool.{true≢false}
use Rattle.std.proofs.lemmas.List.{get_or-replicate, get_or_append_left}
use Rattle.block_machine.specs.Ports.{IsValidMode}
use Rattle.driver_history.specs.PortInvariants.{mode_of_disk}
use Rattle.identify.specs.IdentityPage.{IsFitPage, ZeroesAfterTrim, identity_word}
use Rattle.identify.specs.declared.DiskInfo.{DiskInfo}
use Rattle.identify.specs.declared.Unfit.TheVariants.{BadChecksum, Word83, No48Bit, SectorSize, NoFlush, NoSectors}
use Rattle.port_boot.specs.States.{IsFitAndWanted}
use Rattle.witnesses.specs.RunningAdapter.{fit_page, page_from_byte_167, identify_page, queueing_cap, queueing_page}

-- what a page with this queue says
abbrev pub info_with : ℕ → Bool → DiskInfo
info_with depth ncq = record { serial = replicate 20 0; depth = depth; ncq = ncq; sectors = 256; trim = false }

module _ (depth queues : ℕ) where
  abbrev page : List ℕ
  page = identify_page depth queues

  no_fault : IsFitPage page
  no_fault BadChecksum (a, b) = let x : 0 ≡ 0xa5 = a in absurd (omega (arith, x))
  no_fault Word83 a = a refl
  no_fault No48Bit a = let x : 1 ≡ 0 = a in absurd (omega (arith, x))
  no_fault SectorSize (a, b) = let x : 0 ≡ 1 = a in absurd (omega (arith, x))
  no_fault NoFlush a = let x : 1 ≡ 0 = a in absurd (omega (arith, x))
  no_fault NoSectors a = ⊎_elim (λ (x : 256 ≡ 0). absurd (omega (arith, x))) (λ x. absurd (omega (arith, x))) a

  -- what the first bytes of the page are
  zero_at : (n : ℕ) → n < 150 → slice_index page n ≡ 0
  zero_at n low = get_or_append_left (replicate 150 0) (depth ∷ 0 ∷ 0 ∷ queues ∷ (replicate 13 0 ++ page_from_byte_167)) 0 n low ∙ get_or-replicate 150 n 0 0 low

  zero_in : (n : ℕ) → n < 20 → slice_index (replicate 20 0) n ≡ 0
  zero_in n low = get_or-replicate 20 n 0 0 low

  pub page_fits : (ncq : Bool) → IsTrue ncq ↔ (bit_at (identity_word page 76) 8 ≡ 1) → IsFitAndWanted None page (info_with (identity_word page 75 % 2 ^ 5 + 1) ncq)
  page_fits ncq queue = record {
    no_fault = no_fault;
    page_tells = record {
      serial = record {
        size = refl;
        high = λ i low. zero_in (2 * i) (omega (arith, low)) ∙ sym (zero_at (21 + 2 * i) (omega (arith, low)));
        low = λ i low. zero_in (2 * i + 1) (omega (arith, low)) ∙ sym (zero_at (20 + 2 * i) (omega (arith, low)));
      };
      depth = refl;
      ncq = queue;
      sectors = refl;
      trim = (λ f. absurd (true≢false (sym f)), λ (a : ZeroesAfterTrim page). let x : 0 ≡ 1 = a.trim in absurd (omega (arith, x)));
    };
    serial_matches = tt;
  }

-- Disks of a kind: their page, and what it says; a port with such a disk has a mode.
pub record Kind : Type 0 where
  pub page : List ℕ
  pub info : DiskInfo
  pub fits : IsFitAndWanted None page info
  pub mode : IsValidMode (mode_of_disk queueing_cap info)

-- the disks that take commands one at a time
abbrev pub plain_disks : Kind
plain_disks = record {
  page = fit_page;
  info = info_with 1 false;
  fits = page_fits 0 0 false (λ f. absurd (true≢false (sym f)), λ a. let x : 0 ≡ 1 = a in absurd (omega (arith, x)));
  mode = (omega arith, omega arith, λ _. refl);
}

-- and those that queue them
abbrev pub queueing_disks : Kind
queueing_disks = record {
  page = queueing_page;
  info = info_with 32 true;
  fits = page_fits 31 1 true (λ _. refl, λ _. refl);
  mode = (omega arith, omega arith, λ none. absurd (true≢false none));
}
