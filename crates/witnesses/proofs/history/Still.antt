-- A tape of reads, pages and endings: nothing was put on a disk, and each may come back as it was first in.
use Rattle.std.proofs.Common.{ℕ, zero, suc, ◌≡◌, ◌<◌, ◌==◌, ◌&&◌, Bool, true, false, not, cond, List, [], ◌∷◌, length, get_or, slice_index, None, Some, inl, inr, refl, sym, ◌∙◌, ap, subst, arith}
use Rattle.std.specs.List.{Contains}
use Rattle.std.proofs.lemmas.Bool.{and_parts, cond-false, true≢false}
use Rattle.std.proofs.lemmas.Option.{same_Some}
use Rattle.adapter.specs.Commands.{moves_disk_sectors, reads_memory}
use Rattle.adapter.specs.Device.{DurableState}
use Rattle.adapter.specs.FirstRead.{first_disk, first_disk_sector}
use Rattle.adapter.specs.Steps.{WereHeldSinceFlush, bytes_put_into}
use Rattle.adapter.specs.declared.tape.Entry.{Entry}
use Rattle.adapter.specs.declared.tape.Entry.TheVariants as entry
use Rattle.witnesses.proofs.history.Memory.{tells}

-- what of the first disk is lasting, before any flush
abbrev pub first_lasting : DurableState
first_lasting = record { sectors = first_disk.sectors; tape_length = 0 }

-- the entry puts nothing anywhere
abbrev pub is_still : Entry → Bool
is_still (entry.Move move) = not (moves_disk_sectors move.operation && reads_memory move.operation)
is_still (entry.Clear clear) = false
is_still _ = true

abbrev pub all_still : List Entry → Bool
all_still [] = true
all_still (e ∷ es) = is_still e && all_still es

still_of : (tape : List Entry) (e : Entry) → all_still tape ≡ true → Contains tape e → is_still e ≡ true
still_of [] e still here = let lt = here.1 in absurd (omega (arith, lt))
still_of (x ∷ xs) e still here = by (λ c. still_of xs e (and_parts (is_still x) (all_still xs) still).1 c) here.0 here.1 here.2
  where
    by : (Contains xs e → is_still e ≡ true) → (i : ℕ) → i < suc (length xs) → get_or (x ∷ xs) i e ≡ e → is_still e ≡ true
    by rest zero lt at = ap is_still (sym at) ∙ (and_parts (is_still x) (all_still xs) still).0
    by rest (suc i) lt at = rest (i, omega (arith, lt), at)

puts_none : (e : Entry) (port k : ℕ) → is_still e ≡ true → bytes_put_into port k e ≡ None
puts_none (entry.Move move) port k still = by (moves_disk_sectors move.operation && reads_memory move.operation) still
  where
    and_false : (a : Bool) → a && false ≡ false
    and_false true = refl
    and_false false = refl

    by : (b : Bool) → not b ≡ true → cond (((move.port.0 == port) && (move.sector == k)) && b) (Some move.bytes.value) None ≡ None
    by true e = absurd (true≢false (sym e))
    by false e = cond-false (((move.port.0 == port) && (move.sector == k)) && false) (Some move.bytes.value) None (and_false ((move.port.0 == port) && (move.sector == k)))
puts_none (entry.Clear clear) port k still = absurd (true≢false (sym still))
puts_none (entry.Done done) port k still = refl
puts_none (entry.Fault fault) port k still = refl
puts_none (entry.Fatal at) port k still = refl
puts_none (entry.Unplug at) port k still = refl
puts_none (entry.Plug at name) port k still = refl

pub still_bytes : (tape : List Entry) (lasting : DurableState) (port k : ℕ) (bytes : List ℕ) → lasting ≡ first_lasting → all_still tape ≡ true → WereHeldSinceFlush tape lasting port k bytes
    → (b : ℕ) → b < 512 → slice_index bytes b ≡ k
still_bytes tape lasting port k bytes is still w b bl = by (subst (λ (l : DurableState). WereHeldSinceFlush tape l port k bytes) is w)
  where
    by : WereHeldSinceFlush tape first_lasting port k bytes → slice_index bytes b ≡ k
    by (inl now) = ap (λ (l : List ℕ). slice_index l b) (sym (same_Some (first_disk_sector k) bytes now)) ∙ tells k b bl
    by (inr (e, here, put)) = absurd (let z : None ≡ Some bytes = sym (puts_none e port k (still_of tape e still here)) ∙ put in cc)
