-- The table that is stored says a transfer; and what a task is, is what its request asks.
use Rattle.std.proofs.Common.{ℕ, ◌≡◌, ◌^◌, ◌<◌, ◌≤◌, Bool, true, false, not, List, length, Some, slice_index, inl, inr, refl, sym, ◌∙◌, ap, subst, arith}
use Rattle.std.proofs.lemmas.Bool.{true≢false}
use Rattle.std.proofs.lemmas.List.FromFn.{length-map-range_with_len, get_or-map-range_with_len}
use Rattle.std.specs.List.{All}
use Rattle.ata_types.specs.declared.Port.{Port}
use Rattle.ata_types.specs.declared.range.Range.{Range}
use Rattle.ata_types.specs.declared.range.Sector.{Sector}
use Rattle.ata_types.specs.declared.request.Frame.{Frame}
use Rattle.ata_types.specs.declared.request.Op.{Op}
use Rattle.ata_types.specs.declared.request.Op.TheVariants.{Read, Write, Trim, Flush}
use Rattle.ata_types.specs.declared.limits.TheConstants.{MOST_READ_OR_WRITE_SECTORS}
use Rattle.adapter.specs.Device.{Device}
use Rattle.adapter.specs.Trim.{consecutive}
use Rattle.adapter.specs.Commands.{command_of, is_queued, moves_disk_sectors, transfer_sector_count}
use Rattle.adapter.specs.Decoding.{pieces, IsWholePieces}
use Rattle.adapter.specs.declared.command.Command.{Command}
use Rattle.adapter.specs.declared.command.Prd.{Prd}
use Rattle.block_machine.specs.DueRequests.{is_plain}
use Rattle.block_machine.specs.State.{Accepted, Pending}
use Rattle.block_machine.specs.declared.due.QueueMode.{QueueMode}
use Rattle.refinement.specs.Fragments.{IsSimulated}
use Rattle.refinement.specs.MemoryLayout.{sector_address}
use Rattle.refinement.specs.Slots.{AreRequestPlaces, HasBlockIfTrim, MeansRequest, client_operation_of}
use Rattle.command_table.specs.SectorPlaces.{place_of, places_of}
use Rattle.command_table.specs.TableStores.{IsTableFor, IsHeaderOrTableStore, IsSlotStateFree}
use Rattle.ncq.specs.Tasks.{BlockNamesSectors, IsStoreFor, IsReadOrWrite, IsTaskOf, task_places, number_if_read_or_write, meaning_of, task_operation}
use Rattle.ncq.specs.declared.tasks.Task.{Task}

-- what holds of a read and of a write holds of a transfer
pub of_transfer : (P : Op → Type 0) → P Read → P Write → (op : Op) → IsReadOrWrite op → P op
of_transfer P read write op (inl is) = subst P (sym is) read
of_transfer P read write op (inr is) = subst P (sym is) write

-- and what holds of the four commands, of a transfer's
of_command : (P : Bool → Op → Type 0) → P true Read → P true Write → P false Read → P false Write → (queued : Bool) (op : Op) → IsReadOrWrite op → P queued op
of_command P a b c d true = of_transfer (P true) a b
of_command P a b c d false = of_transfer (P false) c d

pub kind_of : (queued : Bool) (op : Op) → IsReadOrWrite op → is_queued (task_operation queued op) ≡ queued
kind_of = of_command (λ queued op. is_queued (task_operation queued op) ≡ queued) refl refl refl refl

moves_sectors : (queued : Bool) (op : Op) → IsReadOrWrite op → moves_disk_sectors (task_operation queued op) ≡ true
moves_sectors = of_command (λ queued op. moves_disk_sectors (task_operation queued op) ≡ true) refl refl refl refl

moves_all : (count : ℕ) (queued : Bool) (op : Op) → IsReadOrWrite op → transfer_sector_count (task_operation queued op) count ≡ count
moves_all count = of_command (λ queued op. transfer_sector_count (task_operation queued op) count ≡ count) refl refl refl refl

pub in_its_fis : (n : ℕ) (op : Op) → IsReadOrWrite op → number_if_read_or_write op n ≡ n
in_its_fis n = of_transfer (λ op. number_if_read_or_write op n ≡ n) refl refl

pub in_frames : (port count : ℕ) (frames : List Frame) (op : Op) → IsReadOrWrite op → task_places port op count frames ≡ places_of frames count
in_frames port count frames = of_transfer (λ op. task_places port op count frames ≡ places_of frames count) refl refl

-- what is stored for a transfer is header and table
pub stored_for : (port slot : ℕ) (old new : Device) (op : Op) → IsReadOrWrite op → IsSimulated (IsHeaderOrTableStore port slot) (IsSlotStateFree port slot) old new →
    IsSimulated (IsStoreFor op port slot) (IsSlotStateFree port slot) old new
stored_for port slot old new op is followed = of_transfer (λ op. IsSimulated (IsStoreFor op port slot) (IsSlotStateFree port slot) old new) followed followed op is

pub never_trim : (slot : ℕ) (op : Op) → IsReadOrWrite op → op ≡ Trim → slot ≡ 0
never_trim slot = of_transfer (λ op. op ≡ Trim → slot ≡ 0) (λ (h : Read ≡ Trim). absurd cc) (λ (h : Write ≡ Trim). absurd cc)

-- a transfer has no block
pub no_block : (range : Range) (port : ℕ) (memory : ℕ → ℕ) (op : Op) → IsReadOrWrite op → BlockNamesSectors op range port memory
no_block range port memory = of_transfer (λ op. BlockNamesSectors op range port memory) tt tt

-- ---- the table of a transfer

as_many : (frames : List Frame) (count : ℕ) → length (places_of frames count) ≡ count
as_many frames count = length-map-range_with_len (place_of frames) 0 count

pub table_says : (r : Task) (frames : List Frame) (port slot : ℕ) → IsReadOrWrite r.op → 1 ≤ r.range.count → r.range.count ≤ MOST_READ_OR_WRITE_SECTORS → r.range.first.0 < 2 ^ 48 → (command : Command) (prds : List Prd) →
    command ≡ command_of (task_operation r.queued r.op) slot r.range.first.0 r.range.count → All IsWholePieces prds → pieces prds ≡ places_of frames r.range.count →
    IsTableFor slot command prds (meaning_of r) (task_places port r.op r.range.count frames)
table_says r frames port slot transfers some few first command prds fields whole places =
    subst (λ (first : ℕ). IsTableFor slot command prds (record { operation = task_operation r.queued r.op; first = first; count = number_if_read_or_write r.op r.range.count }) (task_places port r.op r.range.count frames)) (sym (in_its_fis r.range.first.0 r.op transfers))
    (subst (λ (count : ℕ). IsTableFor slot command prds (record { operation = task_operation r.queued r.op; first = r.range.first.0; count = count }) (task_places port r.op r.range.count frames)) (sym (in_its_fis r.range.count r.op transfers))
    (subst (IsTableFor slot command prds (record { operation = task_operation r.queued r.op; first = r.range.first.0; count = r.range.count })) (sym (in_frames port r.range.count frames r.op transfers)) (record {
      meaning = record {
        sectors_fit_if_it_moves_some = λ _. (some, omega (arith, few), first);
        sectors_are_zero_if_it_moves_none = λ h. absurd (true≢false (sym (moves_sectors r.queued r.op transfers) ∙ h));
      };
      fields = fields;
      prds_are_whole_pieces = whole;
      places_are = sym places;
      place_count_is = as_many frames r.range.count ∙ sym (moves_all r.range.count r.queued r.op transfers);
    })))

-- ---- the request of a task

op_is : (queued : Bool) (op : Op) → client_operation_of (task_operation queued op) ≡ Some op
op_is true Read = refl
op_is true Write = refl
op_is false Read = refl
op_is false Write = refl
op_is queued Trim = refl
op_is queued Flush = refl

-- a transfer's sectors stand at their places
in_order : (count : ℕ) (frames : List Frame) (r : Accepted) → r.asked.count ≡ count → r.asked.frames.items ≡ frames →
    (length (places_of frames count) ≡ r.asked.count) × ((i : ℕ) → i < r.asked.count → slice_index (places_of frames count) i ≡ sector_address r.asked.frames.items i)
in_order count frames r counts same = (
  as_many frames count ∙ sym counts,
  λ i small.
      get_or-map-range_with_len (place_of frames) 0 count i i 0 (subst (λ (n : ℕ). i < n) counts small) (omega arith)
      ∙ ap (λ (fs : List Frame). sector_address fs i) (sym same),
)

-- the addresses that the slot's bytes say are those of the request's sectors, or of its block
are_places : (op : Op) (port count : ℕ) (frames : List Frame) (r : Accepted) → r.asked.count ≡ count → r.asked.frames.items ≡ frames → AreRequestPlaces op port r (task_places port op count frames)
are_places Trim port count frames r counts same = refl
are_places Flush port count frames r counts same = refl
are_places Read port count frames r counts same = in_order count frames r counts same
are_places Write port count frames r counts same = in_order count frames r counts same

module _ (port : Port) (slot : ℕ) (r : Task) (frames : List Frame) (mode : QueueMode) (e : Pending) (is : IsTaskOf port slot r frames mode e) where
  -- a trim is plain, so it is in slot 0
  head : r.op ≡ Trim → slot ≡ 0
  head trim = is.plain_in_slot_0 (is.queued_is ∙ ap (λ (op : Op). not (is_plain mode op)) trim)

  names_first : (queued : Bool) (op : Op) → moves_disk_sectors (task_operation queued op) ≡ true → number_if_read_or_write op r.range.first.0 ≡ e.request.asked.first.0
  names_first true Read named = sym (ap (λ (s : Sector). s.0) is.first_is)
  names_first false Read named = sym (ap (λ (s : Sector). s.0) is.first_is)
  names_first true Write named = sym (ap (λ (s : Sector). s.0) is.first_is)
  names_first false Write named = sym (ap (λ (s : Sector). s.0) is.first_is)
  names_first queued Trim named = absurd (true≢false (sym named))
  names_first queued Flush named = absurd (true≢false (sym named))

  pub task_means : MeansRequest port.0 slot e.request (meaning_of r) (task_places port.0 r.op r.range.count frames)
  task_means = record {
    op_is = op_is r.queued r.op ∙ ap Some (sym is.operation_is);
    first_sector_is_if_it_moves_sectors = names_first r.queued r.op;
    places_are =
        subst (λ (o : Op). AreRequestPlaces o port.0 e.request (task_places port.0 r.op r.range.count frames)) (sym is.operation_is)
        (are_places r.op port.0 r.range.count frames e.request is.count_is is.frames_are);
    trim_is_in_slot_0 = λ trim. head (sym is.operation_is ∙ trim);
  }

  -- its block is the request's
  block_of : (op : Op) (memory : ℕ → ℕ) → BlockNamesSectors op r.range port.0 memory → HasBlockIfTrim op memory port.0 e.request
  block_of Trim memory block =
      block ∙ (ap (λ (s : Sector). consecutive s.0 r.range.count) (sym is.first_is) ∙ ap (consecutive e.request.asked.first.0) (sym is.count_is))
  block_of Read memory block = tt
  block_of Write memory block = tt
  block_of Flush memory block = tt

  pub task_block : (memory : ℕ → ℕ) → BlockNamesSectors r.op r.range port.0 memory → HasBlockIfTrim e.request.asked.op memory port.0 e.request
  task_block memory block = subst (λ (o : Op). HasBlockIfTrim o memory port.0 e.request) (sym is.operation_is) (block_of r.op memory block)
