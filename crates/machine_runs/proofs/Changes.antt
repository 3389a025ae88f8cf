-- What changes a byte of a client's frame, or a sector of a disk.
use Rattle.std.proofs.Common.{◌≡◌, ◌≢◌, ℕ, ◌+◌, ◌-◌, ◌*◌, ◌/◌, ◌%◌, ◌<◌, ◌≤◌, Bool, true, false, ◌&&◌, ◌==◌, ltb, leb, List, ◌∷◌, length, slice_index, refl, sym, ap, ◌∙◌, arith, eqb-true, ltb-true, leb-true}
use Rattle.std.proofs.lemmas.Bool.{and_parts, cond-true, cond-false, false≢true}
use Rattle.ata_types.specs.declared.Port.{Port}
use Rattle.ata_types.specs.declared.request.Frame.{Frame}
use Rattle.ata_types.specs.declared.request.Op.{Op}
use Rattle.ata_types.specs.declared.request.Op.TheVariants.{Read, Write, Trim, Flush}
use Rattle.ata_types.specs.declared.refusal.MemFault.TheVariants as fault
use Rattle.block_machine.specs.DueRequests.{changes_sectors}
use Rattle.block_machine.specs.State.{Block, DiskBytes, Memory, Machine, nth_frame, sector_of, is_reader, block_written}
use Rattle.block_machine.specs.Steps.{Step, Touch, PlugDisk, Store, after_step, put_bytes, put_sector, disks_after_touch}
use Rattle.block_machine.specs.Events.{AllEnabled}
use Rattle.block_machine.specs.Expected.{after, IsInitial}
use Rattle.block_machine.specs.Confinement.{MayChangeByte, MayChangeSector}
use Rattle.block_machine.proofs.Trace.{runs_lives}
use Rattle.block_machine.proofs.Reading.{open_unlent}
use Rattle.block_machine.proofs.Runs.{traced}
use Rattle.block_machine.proofs.Limits.{owned}

reads_only : (op : Op) → is_reader op ≡ true → op ≡ Read
reads_only Read t = refl
reads_only Write t = absurd (false≢true t)
reads_only Trim t = absurd (false≢true t)
reads_only Flush t = absurd (false≢true t)

-- where a byte of a frame is another after bytes were put, it is one of these
put_there : (f g : Frame) (offset n b : ℕ) (bytes : Block) (memory : Memory) → put_bytes f offset n bytes memory g b ≢ memory g b → (f ≡ g) × (offset ≤ b) × (b < offset + n)
put_there f g offset n b bytes memory ne = go ((g.0 == f.0) && (leb offset b && ltb b (offset + n))) refl
  where
    go : (t : Bool) → ((g.0 == f.0) && (leb offset b && ltb b (offset + n))) ≡ t → (f ≡ g) × (offset ≤ b) × (b < offset + n)
    go true t =
        let p = and_parts (g.0 == f.0) (leb offset b && ltb b (offset + n)) t in
        let q = and_parts (leb offset b) (ltb b (offset + n)) p.1 in
        (sym (ap (λ (n : ℕ). record { 0 = n }) (eqb-true g.0 f.0 p.0)), leb-true offset b q.0, ltb-true b (offset + n) q.1)
    go false t = absurd (ne (cond-false ((g.0 == f.0) && (leb offset b && ltb b (offset + n))) (bytes (b - offset)) (memory g b) t))

pub law_frame_bytes_change_only_by_touch_or_store : (start : Machine) (h : List Step) (step : Step) (f : Frame) (b : ℕ) → IsInitial start → AllEnabled start (step ∷ h)
    → (after start (step ∷ h)).memory f b ≢ (after start h).memory f b → MayChangeByte (after start h) step f b
law_frame_bytes_change_only_by_touch_or_store start h (Touch e i block) f b s enabled ne = by (is_reader e.request.asked.op) refl
  where
    by : (t : Bool) → is_reader e.request.asked.op ≡ t → MayChangeByte (after start h) (Touch e i block) f b
    by false t = absurd (ne (ap (λ (x : Memory). x f b)
        (cond-false (is_reader e.request.asked.op) (put_bytes (nth_frame e.request.asked.frames.items (i / 8)) (512 * (i % 8)) 512 block (after start h).memory) (after start h).memory t)))
    by true t =
        let put = cond-true (is_reader e.request.asked.op) (put_bytes (nth_frame e.request.asked.frames.items (i / 8)) (512 * (i % 8)) 512 block (after start h).memory) (after start h).memory t in
        let there = put_there (nth_frame e.request.asked.frames.items (i / 8)) f (512 * (i % 8)) 512 b block (after start h).memory (λ same. ne (ap (λ (x : Memory). x f b) put ∙ same)) in
        let sound = (traced start h s enabled.0).sound in
        let l = runs_lives (after start h) e enabled.1.0 in
        let room = sound.room e l t in
        let lt = enabled.1.1 in
        (reads_only e.request.asked.op t, there.0, ap (after start h).lent (sym there.0) ∙ sound.lent e l (i / 8) (omega (arith, room, lt)), there.1, there.2)
law_frame_bytes_change_only_by_touch_or_store start h (Store client frame offset bytes) f b s enabled ne =
    let there = put_there frame f offset (length bytes) b (slice_index bytes) (after start h).memory ne in (
      there.0,
      ap (after start h).owner (sym there.0) ∙ owned ((after start h).owner frame) client (enabled.1 fault.FrameForeign),
      ap (after start h).lent (sym there.0) ∙ open_unlent (after start h) client frame offset (length bytes) enabled.1,
      there.1,
      there.2,
    )
law_frame_bytes_change_only_by_touch_or_store start h _ f b s enabled ne = ne refl

pub law_sectors_change_by_touch_or_plug : (m : Machine) (step : Step) (port : Port) (k b : ℕ) → (after_step m step).disk_bytes port k b ≢ m.disk_bytes port k b → MayChangeSector step port k
law_sectors_change_by_touch_or_plug m (Touch e i block) port k b ne = by (changes_sectors e.request.asked.op) refl
  where
    by : (t : Bool) → changes_sectors e.request.asked.op ≡ t → MayChangeSector (Touch e i block) port k
    by false t = absurd (ne (ap (λ (d : Port → DiskBytes). d port k b)
        (cond-false (changes_sectors e.request.asked.op) (put_sector e.request.port (sector_of e.request i) (block_written e.request.asked.op e.request.blocks_at_acceptance i) m.disk_bytes) m.disk_bytes t)))
    by true t = go ((port.0 == e.request.port.0) && (k == sector_of e.request i)) refl
      where
        put : disks_after_touch e.request i m.disk_bytes ≡ put_sector e.request.port (sector_of e.request i) (block_written e.request.asked.op e.request.blocks_at_acceptance i) m.disk_bytes
        put = cond-true (changes_sectors e.request.asked.op) (put_sector e.request.port (sector_of e.request i) (block_written e.request.asked.op e.request.blocks_at_acceptance i) m.disk_bytes) m.disk_bytes t

        go : (u : Bool) → ((port.0 == e.request.port.0) && (k == sector_of e.request i)) ≡ u → MayChangeSector (Touch e i block) port k
        go true u =
            let p = and_parts (port.0 == e.request.port.0) (k == sector_of e.request i) u in
            (t, sym (ap (λ (n : ℕ). record { 0 = n }) (eqb-true port.0 e.request.port.0 p.0)), sym (eqb-true k (sector_of e.request i) p.1))
        go false u = absurd (ne (ap (λ (d : Port → DiskBytes). d port k b) put
            ∙ ap (λ (x : Block). x b) (cond-false ((port.0 == e.request.port.0) && (k == sector_of e.request i)) (block_written e.request.asked.op e.request.blocks_at_acceptance i) (m.disk_bytes port k) u)))
law_sectors_change_by_touch_or_plug m (PlugDisk p id size disk) port k b ne = go (port.0 == p.0) refl
  where
    go : (u : Bool) → (port.0 == p.0) ≡ u → p ≡ port
    go true u = sym (ap (λ (n : ℕ). record { 0 = n }) (eqb-true port.0 p.0 u))
    go false u = absurd (ne (ap (λ (d : DiskBytes). d k b) (cond-false (port.0 == p.0) disk (m.disk_bytes port) u)))
law_sectors_change_by_touch_or_plug m _ port k b ne = ne refl
