-- What the commands that the model takes have in common.
use Rattle.std.proofs.Common.{ℕ, Bool, true, false, ◌≡◌, ◌<◌, ◌&&◌, List, Option, None, Some, refl, ap}
use Rattle.std.proofs.lemmas.Grind.{get_or_default_zero}
use Rattle.std.specs.Prelude.{is_some, length, option_map, slice_index}
use Rattle.sector_store.specs.Stores.{with_sector}
use Rattle.adapter.specs.Commands.{is_queued, moves_disk_sectors, sends_page}
use Rattle.adapter.specs.Device.{Disk, FetchedCommand, DevicePort, IsValidSector}
use Rattle.adapter.specs.Memory.{changed}
use Rattle.adapter.specs.Steps.{IsAloneOrAllAreQueued, block_after, disk_after}
use Rattle.adapter.specs.declared.command.Operation.{Operation}
use Rattle.adapter.specs.declared.command.Operation.TheVariants.{Identify, Read, ReadQueued, Write, WriteQueued, Flush, Trim, ReadLog}
use Rattle.device_model.proofs.Absurd.{true-false}
use Rattle.device_model.specs.Trims.{sectors_left_to_change, sectors_left_to_write}
use Rattle.adapter.specs.declared.command.Operation.TheVariants as operation

-- so many bytes are a sector
pub fits_sector : (bytes : List ℕ) → length bytes ≡ 512 → ((k : ℕ) → slice_index bytes k < 256) → IsValidSector bytes
fits_sector bytes long small = (long, λ k d less. rw (get_or_default_zero bytes k d less) (small k))

-- no command but a trim keeps what it moves
pub no_block : (k : Operation) (bytes old : List ℕ) → (k ≡ operation.Trim → ⊥) → block_after k bytes old ≡ old
no_block operation.Read bytes old other = refl
no_block operation.Write bytes old other = refl
no_block operation.ReadQueued bytes old other = refl
no_block operation.WriteQueued bytes old other = refl
no_block operation.Identify bytes old other = refl
no_block operation.Flush bytes old other = refl
no_block operation.Trim bytes old other = absurd (other refl)
no_block operation.ReadLog bytes old other = refl

-- a command that names no sectors is plain
pub unranged_plain : (o : Operation) → moves_disk_sectors o ≡ false → is_queued o ≡ false
unranged_plain Read e = refl
unranged_plain Write e = refl
unranged_plain ReadQueued e = cc
unranged_plain WriteQueued e = cc
unranged_plain Identify e = refl
unranged_plain Flush e = refl
unranged_plain Trim e = refl
unranged_plain ReadLog e = refl

-- where a plain one is alone, no slot is taken
pub alone_none : (p : DevicePort) (o : Operation) → is_queued o ≡ false → IsAloneOrAllAreQueued p o → (slot : ℕ) → p.taken slot ≡ None
alone_none p o plain alone slot = by (p.taken slot) refl
  where
    by : (held : Option FetchedCommand) → p.taken slot ≡ held → p.taken slot ≡ None
    by None e = e
    by (Some t) e = true-false (alone slot t e) (ap (λ b. b && is_queued t.meaning.operation) plain)

mapped_tells : (sector : ℕ) (bytes : List ℕ) (o : Option (ℕ → List ℕ)) → is_some (option_map (λ f. changed f sector bytes) o) ≡ is_some o
mapped_tells sector bytes None = refl
mapped_tells sector bytes (Some f) = refl

-- a disk tells its sectors after a move as it did
pub still_tells : (k : Operation) (disk : Disk) (sector : ℕ) (bytes : List ℕ) →
    is_some (disk_after k disk sector bytes).sectors ≡ is_some disk.sectors
still_tells operation.Read disk sector bytes = refl
still_tells operation.ReadQueued disk sector bytes = refl
still_tells operation.Identify disk sector bytes = refl
still_tells operation.Flush disk sector bytes = refl
still_tells operation.Trim disk sector bytes = refl
still_tells operation.ReadLog disk sector bytes = refl
still_tells operation.Write disk sector bytes = mapped_tells sector bytes disk.sectors
still_tells operation.WriteQueued disk sector bytes = mapped_tells sector bytes disk.sectors

one_replaced : (f : ℕ → List ℕ) (sector : ℕ) (bytes : List ℕ) → with_sector f sector bytes ≡ changed f sector bytes
unfolding changed
one_replaced f sector bytes = refl

-- what a store tells after a write is what its disk has
pub replaced_is : (told : Option (ℕ → List ℕ)) (sector : ℕ) (bytes : List ℕ) →
    option_map (λ f. with_sector f sector bytes) told ≡ option_map (λ f. changed f sector bytes) told
replaced_is told sector bytes = ap (λ (g : (ℕ → List ℕ) → ℕ → List ℕ). option_map g told) (λ i f. one_replaced f sector bytes i)

-- a command that sends a page names no sectors, and is plain
pub page_unranged : (o : Operation) → sends_page o ≡ true → moves_disk_sectors o ≡ false
page_unranged Identify e = refl
page_unranged ReadLog e = refl
page_unranged Flush e = refl
page_unranged Trim e = refl
page_unranged Read e = absurd (cc e)
page_unranged Write e = absurd (cc e)
page_unranged ReadQueued e = absurd (cc e)
page_unranged WriteQueued e = absurd (cc e)

pub page_unwritten : (o : Operation) (left : ℕ) → sends_page o ≡ true → sectors_left_to_write o left ≡ 0
page_unwritten Identify left e = refl
page_unwritten ReadLog left e = refl
page_unwritten Flush left e = refl
page_unwritten Trim left e = refl
page_unwritten Read left e = refl
page_unwritten ReadQueued left e = refl
page_unwritten Write left e = absurd (cc e)
page_unwritten WriteQueued left e = absurd (cc e)

pub page_unchanged : (o : Operation) (memory : ℕ → ℕ) (t : FetchedCommand) (left : ℕ) → sends_page o ≡ true → sectors_left_to_change o memory t left ≡ 0
page_unchanged Identify memory t left e = refl
page_unchanged ReadLog memory t left e = refl
page_unchanged Flush memory t left e = refl
page_unchanged Trim memory t left e = absurd (cc e)
page_unchanged Read memory t left e = refl
page_unchanged ReadQueued memory t left e = refl
page_unchanged Write memory t left e = absurd (cc e)
page_unchanged WriteQueued memory t left e = absurd (cc e)

pub page_plain : (o : Operation) → sends_page o ≡ true → is_queued o ≡ false
page_plain o e = unranged_plain o (page_unranged o e)

-- of two that are queued neither is a trim
pub both_queued : (k l : Operation) → is_queued k && is_queued l ≡ true → (k ≡ operation.Trim → ⊥) × (l ≡ operation.Trim → ⊥)
both_queued k l both = (λ trim. true-false both (first trim), λ trim. true-false both (second (is_queued k) trim))
  where
    first : k ≡ operation.Trim → is_queued k && is_queued l ≡ false
    first trim = ap (λ (x : Operation). is_queued x && is_queued l) trim

    second : (b : Bool) → l ≡ operation.Trim → b && is_queued l ≡ false
    second true trim = ap (λ (x : Operation). is_queued x) trim
    second false trim = refl
