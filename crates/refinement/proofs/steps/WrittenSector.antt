-- A sector in memory, as the device and as the machine write it.
use Rattle.std.proofs.Common.{inl, inr, ℕ, ◌≡◌, ◌<◌, ◌≤◌, ◌+◌, ◌-◌, ◌*◌, ◌==◌, ◌&&◌, List, length, slice_index, refl, sym, ◌∙◌, ap, arith, ⊎_elim, eq-eqb, eqb-true}
use Rattle.std.specs.Prelude.{slice_index_or, option_map}
use Rattle.std.proofs.lemmas.Bool.{cases_eq, cases_lt, cond-true, cond-false, and_from, and_parts, false_from_ne_true}
use Rattle.std.proofs.lemmas.Bool.Decides.{leb_tells}
use Rattle.std.proofs.lemmas.Grind.{get_or_default_zero}
use Rattle.ata_types.specs.declared.Port.{Port}
use Rattle.ata_types.specs.declared.request.Frame.{Frame}
use Rattle.ata_types.specs.declared.memory.TheConstants.{DRIVER_FRAMES}
use Rattle.adapter.specs.Memory.{patched, changed}
use Rattle.adapter.specs.Device as device
use Rattle.adapter.specs.Steps.{disk_with_sector}
use Rattle.adapter.proofs.Changed.{changed_same, changed_other}
use Rattle.adapter.proofs.MemoryLemmas.{patched_apart}
use Rattle.block_machine.specs.State.{Block, DiskBytes, Machine}
use Rattle.block_machine.specs.Steps.{put_bytes, put_sector}
use Rattle.block_machine.proofs.Reading.{put_other, put_same}
use Rattle.refinement.specs.Relation.{port_at, SameSectors, SameClientFrames}

pub patched_in : (memory : ℕ → ℕ) (at : ℕ) (bytes : List ℕ) (j : ℕ) → j < length bytes → patched memory at bytes (at + j) ≡ slice_index bytes j
unfolding patched
patched_in memory at bytes j lt =
    elim (leb_tells at (at + j)) [
      | inl here ↦ rw here.0 (ap (λ (k : ℕ). slice_index_or bytes k (memory (at + j))) (let e : at + j - at ≡ j = omega arith in e) ∙ get_or_default_zero bytes j (memory (at + j)) lt)
      | inr there ↦ absurd (omega (arith, there.1))
    ]

-- n bytes of a frame, as both write them
module _ (m : Machine) (memory : ℕ → ℕ) (at : ℕ) (frame : Frame) (offset : ℕ) (bytes : List ℕ) (here : at ≡ 4096 * frame.0 + offset) (fits : offset + length bytes ≤ 4096)
    (same : SameClientFrames m memory) where
  inside : (f : Frame) (b : ℕ) → f ≡ frame → offset ≤ b → b < offset + length bytes →
      patched memory at bytes (4096 * f.0 + b) ≡ put_bytes frame offset (length bytes) (slice_index bytes) m.memory f b
  inside f b e low high =
      let bj : b ≡ offset + (b - offset) = omega (arith, low) in
      let ef : f.0 ≡ frame.0 = ap (λ (x : Frame). x.0) e in
      let aj : 4096 * f.0 + b ≡ at + (b - offset) = omega (arith, here, ef, low) in
      let small : b - offset < length bytes = omega (arith, low, high) in
      ap (patched memory at bytes) aj
      ∙ patched_in memory at bytes (b - offset) small
      ∙ sym (put_same frame offset (length bytes) (b - offset) (slice_index bytes) m.memory small)
      ∙ ap (put_bytes frame offset (length bytes) (slice_index bytes) m.memory frame) (sym bj)
      ∙ ap (λ (x : Frame). put_bytes frame offset (length bytes) (slice_index bytes) m.memory x b) (sym e)

  outside : (f : Frame) (b : ℕ) → DRIVER_FRAMES ≤ f.0 → b < 4096 → (f ≡ frame → offset ≤ b → b < offset + length bytes → ⊥) →
      patched memory at bytes (4096 * f.0 + b) ≡ put_bytes frame offset (length bytes) (slice_index bytes) m.memory f b
  outside f b from small out =
      patched_apart memory at bytes (4096 * f.0 + b) (λ low high.
      let e : f.0 ≡ frame.0 = omega (arith, here, fits, small, low, high) in
      out (ap (λ (n : ℕ). record { 0 = n }) e) (omega (arith, here, e, low)) (omega (arith, here, e, high)))
      ∙ same f b from small
      ∙ sym (put_other frame f offset b (length bytes) (slice_index bytes) m.memory (λ e low high. out (sym e) low high))

  pub memory_put : (f : Frame) (b : ℕ) → DRIVER_FRAMES ≤ f.0 → b < 4096 → patched memory at bytes (4096 * f.0 + b) ≡ put_bytes frame offset (length bytes) (slice_index bytes) m.memory f b
  memory_put f b from small = ⊎_elim
      (λ (e : f.0 ≡ frame.0). ⊎_elim
      (λ (l : b < offset). outside f b from small (λ _ low high. omega (arith, l, low)))
      (λ (g : offset ≤ b). ⊎_elim
      (λ (l : b < offset + length bytes). inside f b (ap (λ (n : ℕ). record { 0 = n }) e) g l)
      (λ (h : offset + length bytes ≤ b). outside f b from small (λ _ low high. omega (arith, h, high)))
      (cases_lt b (offset + length bytes)))
      (cases_lt b offset))
      (λ (ne : f.0 ≡ frame.0 → ⊥). outside f b from small (λ e _ _. ne (ap (λ (x : Frame). x.0) e)))
      (cases_eq f.0 frame.0)

-- ---- a sector that is written

pub put_there : (port : Port) (k : ℕ) (block : Block) (disks : Port → DiskBytes) → put_sector port k block disks port k ≡ block
put_there port k block disks = cond-true ((port.0 == port.0) && (k == k)) block (disks port k) (and_from _ _ (eq-eqb port.0 port.0 refl) (eq-eqb k k refl))

pub put_elsewhere : (port : Port) (k : ℕ) (block : Block) (disks : Port → DiskBytes) (p : Port) (s : ℕ) → (p.0 ≡ port.0 → s ≡ k → ⊥) → put_sector port k block disks p s ≡ disks p s
put_elsewhere port k block disks p s ne =
    cond-false ((p.0 == port.0) && (s == k)) block (disks p s)
    (false_from_ne_true _ (λ t. let q = and_parts (p.0 == port.0) (s == k) t in ne (eqb-true p.0 port.0 q.0) (eqb-true s k q.1)))

pub sector_written : (m m' : Machine) (disk : device.Disk) (port k : ℕ) (bytes : List ℕ) (block : Block) →
    ((s b : ℕ) → m'.disk_bytes (port_at port) s b ≡ put_sector (port_at port) k block m.disk_bytes (port_at port) s b) →
    ((b : ℕ) → b < 512 → slice_index bytes b ≡ block b) → SameSectors m disk port → SameSectors m' (disk_with_sector disk k bytes) port
sector_written m m' disk port k bytes block now brings s = record {
  told_sectors = changed s.told_sectors k bytes;
  disk_tells = ap (option_map (λ (told : ℕ → List ℕ). changed told k bytes)) s.disk_tells;
  bytes_are_same = λ x b xl bl. ⊎_elim (here x b bl) (there x b xl bl) (cases_eq x k);
}
  where
    here : (x b : ℕ) → b < 512 → x ≡ k → slice_index (changed s.told_sectors k bytes x) b ≡ m'.disk_bytes (port_at port) x b
    here x b bl e =
        ap (λ (y : ℕ). slice_index (changed s.told_sectors k bytes y) b) e
        ∙ ap (λ (l : List ℕ). slice_index l b) (changed_same s.told_sectors k bytes)
        ∙ brings b bl
        ∙ ap (λ (f : Block). f b) (sym (put_there (port_at port) k block m.disk_bytes))
        ∙ sym (now k b)
        ∙ ap (λ (y : ℕ). m'.disk_bytes (port_at port) y b) (sym e)

    there : (x b : ℕ) → x < disk.sector_count → b < 512 → (x ≡ k → ⊥) → slice_index (changed s.told_sectors k bytes x) b ≡ m'.disk_bytes (port_at port) x b
    there x b xl bl ne =
        ap (λ (l : List ℕ). slice_index l b) (changed_other s.told_sectors k bytes x ne)
        ∙ s.bytes_are_same x b xl bl
        ∙ ap (λ (f : Block). f b) (sym (put_elsewhere (port_at port) k block m.disk_bytes (port_at port) x (λ _ e. ne e)))
        ∙ sym (now x b)
