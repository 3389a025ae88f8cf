-- What stands in memory, and in the machine's frames.
use Rattle.std.proofs.Common.{ℕ, length, ◌≡◌, ◌≢◌, ◌+◌, ◌-◌, ◌*◌, ◌<◌, ◌≤◌, ◌==◌, ◌&&◌, ◌∙◌, List, replicate, slice_index, slice_index_or, ⊎_elim, refl, sym, arith, eqb-true, le-leb, leb-true, lt-ltb, ltb-true}
use Rattle.std.proofs.lemmas.Bool.{and_from, and_parts, cases_eq, cases_lt, cond_both, cond-true, cond-false, eq-eqb, false_from_ne_true}
use Rattle.std.proofs.lemmas.List.{get_or_past, get_or-replicate, length-replicate}
use Rattle.std.specs.Prelude.{nat_le, nat_lt}
use Rattle.ata_types.specs.declared.memory.TheConstants.{DRIVER_BYTES, DRIVER_FRAMES}
use Rattle.ata_types.specs.declared.request.Frame.{Frame}
use Rattle.adapter.specs.FirstRead.{header_up_to_ctba, first_disk_sector}
use Rattle.adapter.specs.Memory.{patched}
use Rattle.block_machine.specs.Steps.{put_bytes}
use Rattle.witnesses.proofs.history.Client.{frame}
use Rattle.witnesses.proofs.history.Command.{place_bytes, read_bytes, read_memory, zeros}
use Rattle.witnesses.proofs.history.Losing.{memory_done}

-- each byte of a sector of the first read's disk is its number
pub tells : (k b : ℕ) → b < 512 → slice_index (first_disk_sector k) b ≡ k
unfolding first_disk_sector
tells k b low = get_or-replicate 512 b k 0 low

-- bytes of the driver's frames are none of clients'
pub spares : (memory : ℕ → ℕ) (at : ℕ) (bytes : List ℕ) → at + length bytes ≤ DRIVER_BYTES → (f : Frame) (b : ℕ) → DRIVER_FRAMES ≤ f.0 → patched memory at bytes (4096 * f.0 + b) ≡ memory (4096 * f.0 + b)
unfolding patched
spares memory at bytes room f b from = beyond (4096 * f.0 + b) (omega (arith, room, from))
  where
    beyond : (place : ℕ) → at + length bytes ≤ place → patched memory at bytes place ≡ memory place
    beyond place past = cond_both (nat_le at place) (slice_index_or bytes (place - at) (memory place)) (memory place) (λ byte. byte ≡ memory place)
        (λ _. get_or_past bytes (place - at) (memory place) (omega (arith, past))) (λ _. refl)

-- frames of clients are zeros when the read is issued
pub past_driver : (f : Frame) (b : ℕ) → DRIVER_FRAMES ≤ f.0 → read_memory (4096 * f.0 + b) ≡ 0
unfolding read_memory
past_driver f b from =
    spares (patched (patched zeros 0 header_up_to_ctba) 0x1000 read_bytes) 0x1080 place_bytes (omega arith) f b from
    ∙ (spares (patched zeros 0 header_up_to_ctba) 0x1000 read_bytes (omega arith) f b from ∙ spares zeros 0 header_up_to_ctba (omega arith) f b from)

-- ---- a sector is moved

-- A sector is moved into the first bytes of a frame, and the machine's frames held what memory did: so they do then.
pub moved_alike : (memory : ℕ → ℕ) (frames : Frame → ℕ → ℕ) (n k : ℕ) → ((f : Frame) (b : ℕ) → DRIVER_FRAMES ≤ f.0 → b < 4096 → memory (4096 * f.0 + b) ≡ frames f b)
    → (f : Frame) (b : ℕ) → DRIVER_FRAMES ≤ f.0 → b < 4096 → patched memory (4096 * n) (first_disk_sector k) (4096 * f.0 + b) ≡ put_bytes (frame n) 0 512 (slice_index (first_disk_sector k)) frames f b
unfolding first_disk_sector patched
moved_alike memory frames n k alike f b from small = ⊎_elim
    (λ (e : f.0 ≡ n). ⊎_elim (λ (low : b < 512). inside e low) (λ (high : 512 ≤ b). outside (λ _ low. omega (arith, low, high))) (cases_lt b 512))
    (λ (ne : f.0 ≢ n). outside (λ e low. ne e))
    (cases_eq f.0 n)
  where
    at : ℕ
    at = 4096 * f.0 + b

    -- a byte of the sector that was moved: each is its number
    inside : f.0 ≡ n → b < 512 → patched memory (4096 * n) (first_disk_sector k) (4096 * f.0 + b) ≡ put_bytes (frame n) 0 512 (slice_index (first_disk_sector k)) frames f b
    inside e low =
        cond-true (nat_le (4096 * n) at) (slice_index_or (replicate 512 k) (at - 4096 * n) (memory at)) (memory at) (le-leb (4096 * n) at (omega (arith, e)))
        ∙ get_or-replicate 512 (at - 4096 * n) k (memory at) (omega (arith, e, low))
        ∙ sym (cond-true (f.0 == n && (nat_le 0 b && nat_lt b 512)) (slice_index (replicate 512 k) (b - 0)) (frames f b) (and_from _ _ (eq-eqb f.0 n e) (and_from _ _ (le-leb 0 b (omega arith)) (lt-ltb b 512 low)))
        ∙ get_or-replicate 512 (b - 0) k 0 (omega (arith, low)))

    outside : (f.0 ≡ n → b < 512 → ⊥) → patched memory (4096 * n) (first_disk_sector k) (4096 * f.0 + b) ≡ put_bytes (frame n) 0 512 (slice_index (first_disk_sector k)) frames f b
    outside out =
        cond_both (nat_le (4096 * n) at) (slice_index_or (replicate 512 k) (at - 4096 * n) (memory at)) (memory at) (λ byte. byte ≡ memory at)
        (λ behind. get_or_past (replicate 512 k) (at - 4096 * n) (memory at) (past (leb-true (4096 * n) at behind)))
        (λ _. refl)
        ∙ alike f b from small
        ∙ sym (cond-false (f.0 == n && (nat_le 0 b && nat_lt b 512)) (slice_index (replicate 512 k) (b - 0)) (frames f b) (false_from_ne_true _ (λ both.
        let parts = and_parts (f.0 == n) (nat_le 0 b && nat_lt b 512) both in
        out (eqb-true f.0 n parts.0) (ltb-true b 512 (and_parts (nat_le 0 b) (nat_lt b 512) parts.1).1))))
      where
        past : 4096 * n ≤ at → length (replicate 512 k) ≤ at - 4096 * n
        past behind =
            let long = length-replicate {A = ℕ} 512 k in
            ⊎_elim (λ (short : at - 4096 * n < 512). absurd (out (omega (arith, behind, short, small)) (omega (arith, behind, short, small)))) (λ (beyond : 512 ≤ at - 4096 * n). omega (arith, long, beyond)) (cases_lt (at - 4096 * n) 512)

-- so it is when the read is done
pub moved_in_place : (f : Frame) (b : ℕ) → DRIVER_FRAMES ≤ f.0 → b < 4096 → memory_done (4096 * f.0 + b) ≡ put_bytes (frame 100) 0 512 (slice_index (first_disk_sector 100)) (λ f b. 0) f b
unfolding memory_done
moved_in_place = moved_alike read_memory (λ f b. 0) 100 100 (λ f b from small. past_driver f b from)
