-- Kept bytes that are no command's may be loaded and stored, whatever the device does first.
use Rattle.std.proofs.Common.{ℕ, ◌≡◌, ◌<◌, ◌≤◌, ◌+◌, List, length, ap, subst, inl, inr, arith}
use Rattle.adapter.specs.Device.{Bases, Device}
use Rattle.adapter.specs.KeptBySteps.{KeepsOverSteps, PortBitsOnlyFallFreeSlotsStay}
use Rattle.adapter.specs.Steps.{Steps}
use Rattle.adapter.specs.Rules.{DeviceOwns, IsInMemoryNotOwnedByDevice, IsStable, InDataBlocks}
use Rattle.adapter.specs.Guarded.{IsGuardedSlot, IsGuarded, IsKeptOutsideTables}
use Rattle.adapter.proofs.Guards.{steps_guard, in_use_before}
use Rattle.adapter.proofs.KeptLemmas.{law_step_lists_keep_what_steps_keep}
use Rattle.adapter.proofs.SaysLemmas.{says_table, says_prds, says_places}

module _ (Tables Kept : ℕ → Type 0) (at n : ℕ) where
  unused_byte : (d : Device) → IsGuarded Tables Kept d → IsKeptOutsideTables Tables Kept at n d →
      (port slot a : ℕ) → at ≤ a → a < at + n → DeviceOwns d (d.port port) slot a → ⊥
  unused_byte d g apart port slot a low high (inl (used, inl header)) = apart.no_header port slot a used low high header.0 header.1
  unused_byte d g apart port slot a low high (inl (used, inr (m, places, s, inl table))) =
      let h : IsGuardedSlot Tables Kept d.memory (d.port port).bases.clb slot = (g.ports_are_guarded port).slots_are_guarded slot used in
      let t : s.table ≡ h.says.table = says_table d.memory (d.port port).bases.clb slot m h.meaning places h.places s h.says in
      let e : length s.prds ≡ length h.says.prds =
      ap length (says_prds d.memory (d.port port).bases.clb slot m h.meaning places h.places s h.says) in
      apart.no_table a low high (h.table_is_guarded a (omega (arith, t, table.0)) (omega (arith, t, e, table.1)))
  unused_byte d g apart port slot a low high (inl (used, inr (m, places, s, inr place))) =
      let h : IsGuardedSlot Tables Kept d.memory (d.port port).bases.clb slot = (g.ports_are_guarded port).slots_are_guarded slot used in
      let e : places ≡ h.places = says_places d.memory (d.port port).bases.clb slot m h.meaning places h.places s h.says in
      let P : List ℕ → Type 0 = λ l. InDataBlocks l a in
      h.pieces_are_not_kept a (apart.kept a low high) (subst P e place)
  unused_byte d g apart port slot a low high (inr (inl (t, is, place))) =
      (g.ports_are_guarded port).taken_pieces_are_not_kept slot t is a (apart.kept a low high) place
  unused_byte d g apart port slot a low high (inr (inr (fre, from, to))) =
      (g.ports_are_guarded port).received_fis_is_not_kept fre a from to (apart.kept a low high)

  apart_free : (d : Device) → IsGuarded Tables Kept d → IsKeptOutsideTables Tables Kept at n d → IsInMemoryNotOwnedByDevice at n d
  apart_free d g apart = record { inside = apart.inside; is_not_owned = unused_byte d g apart }

  apart_stays : (old mid : Device) → IsKeptOutsideTables Tables Kept at n old → Steps old mid → IsKeptOutsideTables Tables Kept at n mid
  apart_stays old mid apart steps =
      let k : KeepsOverSteps old mid = law_step_lists_keep_what_steps_keep steps in
      record {
        inside = rw k.memory_size_is_kept apart.inside;
        kept = apart.kept;
        no_table = apart.no_table;
        no_header = λ port slot a used low high from to.
            let p : PortBitsOnlyFallFreeSlotsStay (old.port port) (mid.port port) = k.port_bits_only_fall port in
            let list = ap (λ (b : Bases). b.clb) p.bases_are_kept in
            apart.no_header port slot a (in_use_before (old.port port) (mid.port port) p slot used) low high (omega (arith, list, from)) (omega (arith, list, to));
      }

  -- what `load` and `store` ask
  pub apart_free_stays : (d : Device) → IsGuarded Tables Kept d → IsKeptOutsideTables Tables Kept at n d → IsStable (IsInMemoryNotOwnedByDevice at n) d
  apart_free_stays d g apart mid steps =
      apart_free mid (steps_guard Tables Kept d mid g steps).0 (apart_stays d mid apart steps)
