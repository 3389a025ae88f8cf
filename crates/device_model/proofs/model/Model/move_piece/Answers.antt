use Rattle.std.proofs.lemmas.Bool.{cases_lt}
use Rattle.std.specs.Prelude.{IfSome, option_map, slice_set}
use Rattle.std.specs.Vec.{with_item}
use Rattle.std.proofs.Common.{Bool, Some, Option, refl, ◌++◌, ℕ, true, false, ◌≡◌, ◌<◌, ◌≤◌, ◌∙◌, ◌+◌, ◌^◌, ◌∷◌, [], length, sym, ap, subst, arith, inl, inr}
use Rattle.device_model.proofs.Absurd.{some_one, true-false}
use Rattle.adapter.specs.AskedSteps.{DoesMove}
use Rattle.adapter.specs.Commands.{moves_disk_sectors, reads_memory}
use Rattle.adapter.specs.Device.{Device, FetchedCommand}
use Rattle.adapter.specs.Steps.{next_place, next_sector, Can, device_after, move_of}
use Rattle.adapter.specs.Steps.DeviceTransition.{Move}
use Rattle.adapter.specs.declared.tape.Entry.{Entry}
use Rattle.adapter.specs.declared.tape.Entry.TheVariants as entry
use Rattle.sector_store.specs.declared.store.Failures.{Failures}
use Rattle.adapter.specs.declared.access.DeviceStep.TheVariants as asked
use Rattle.device_model.specs.Disks.{bay_of, port_has_cache, disk_in_bay, bay_failures, disk_failures, has_cache, lasting_of}
use Rattle.device_model.specs.WriteCaches.{OneMoreCallFails, HasRoomForOldSectors}
use Rattle.device_model.specs.StepEffects.{Completes, CommandOfStepFails, LacksMemory}
use Rattle.device_model.specs.PieceTransfers.{TransfersPieceOrFails, piece_in_memory}
use Rattle.device_model.specs.Finishing.{HasMove}
use Rattle.device_model.specs.ModelState.{device_at, media_of, all_media_at}
use Rattle.device_model.specs.Slots.{IsNextMove}
use Rattle.device_model.specs.Trims.{sectors_left_to_write}
use Rattle.device_model.specs.PortView.{Media, taken_of}
use Rattle.adapter.specs.declared.command.Operation.{Operation}
use Rattle.device_model.specs.WholeAdapter.{AllMedia, device_of, all_media_after_move}
use Rattle.device_model.specs.declared.bay.Bay.{Bay}
use Rattle.device_model.specs.declared.hardware.Hardware.{Hardware}
use Rattle.device_model.specs.declared.model.Model.{Model}
use Rattle.device_model.specs.declared.steps.NextMove.{NextMove}
use Rattle.device_model.specs.declared.port.TakenCommand.{TakenCommand}
use Rattle.device_model.proofs.TwoDisks.{has_disks, outside_kept, outside_moved, seat_is, seated_here, seated_others, seated_same, store_fine, store_keeps, store_says, store_whichs}
use Rattle.device_model.proofs.Doing.{IsFailed, is_failed}
use Rattle.device_model.proofs.Exchanging.{next_grown, next_over, room_over, starved_over}
use Rattle.device_model.proofs.Faults.{did_fail, fails_to_move}
use Rattle.device_model.proofs.Finishing.{move_fits, next_has_move}
use Rattle.device_model.proofs.Growing.{grown_lasts, grown_left, room_here, room_there}
use Rattle.device_model.proofs.Caching.{no_room}
use Rattle.device_model.proofs.Paging.{next_unranged}
use Rattle.device_model.proofs.Transfers.{page_unwritten}
use Rattle.device_model.proofs.Stepping.{may_move}
use Rattle.device_model.proofs.Telling.{gains_moved, gains_none}
use Rattle.device_model.proofs.model.Model.move_piece.Given.{Over}
use Rattle.device_model.proofs.model.Model.move_piece.Goals as goal

-- the next move is one still, where the tape has grown
grow : {old h : Hardware} {next : NextMove} → (port slot : ℕ) → h ≡ record old { tape = h.tape } →
    (t : TakenCommand) × IsNextMove old port slot next t → (t : TakenCommand) × IsNextMove h port slot next t
grow port slot is found = (found.0, next_grown port slot is found.1)

-- there is no move that is possible
pub returns-in_default-next_move-clause-answers : goal.returns-in_default-next_move-clause-answers
returns-in_default-next_move-clause-answers g c =
    let m = c.args.self.now in
    let a = c.in-Some.bay in
    let o : AllMedia = all_media_at g.S.SectorStore.size g.S.SectorStore.told m in
    let was = seat_is m c.from-place.result c.args.port.0 c.index_mut.result.now a c.from-place.ensures
    (omega (arith, c.if-place-len.false, c.len.ensures)) c.index_mut.ensures.value c.in-Some.is in
    grown_left g.S.SectorStore.size g.S.SectorStore.told g.S.SectorStore.failures m _ c.args.port.0 a a.cache was
    (ap (λ k. slice_set m.bays.items k (Some a)) c.from-place.ensures)
    (record { cache_mode_is_kept = refl; old_sectors_are = refl }) (asked.Move c.args.port c.args.slot) refl refl refl refl refl
    (λ served may.
    absurd (
    let few : length m.hardware.memory.items ≤ 2 ^ 32 = served in
    let found = move_fits m.hardware o _ c.args.port.0 c.args.slot.0 may.1 refl may.2 in
    c.next_move.ensures.none c.in_default-next_move.is found.r found.holds found.left
    (let there = found.inside in omega (arith, few, there)) found.inside))
    (λ yes. yes) (λ yes. inl yes)

-- the tape had no memory for it, and that is told
pub returns-then-not-room-clause-answers : goal.returns-then-not-room-clause-answers
returns-then-not-room-clause-answers g c =
    let m = c.args.self.now in
    let a = c.in-Some.bay in
    let o : AllMedia = all_media_at g.S.SectorStore.size g.S.SectorStore.told m in
    let found = c.in-Some-next_move.ensures.found in
    let was = seat_is m c.from-place.result c.args.port.0 c.index_mut.result.now a c.from-place.ensures
    (omega (arith, c.if-place-len.false, c.len.ensures)) c.index_mut.ensures.value c.in-Some.is in
    let fits = next_has_move m.hardware o _ c.args.port.0 c.args.slot.0 c.in-Some-next_move.next found.0
    (has_disks g.S.SectorStore.size g.S.SectorStore.told m c.args.port.0 a was) refl found.1 in
    let lacks : LacksMemory (asked.Move c.args.port c.args.slot) (device_at g.S.SectorStore.size g.S.SectorStore.told m) m.hardware m.bays.items =
    (taken_of found.0, fits, λ room _. true-false (c.reserve-room.ensures.enough room) c.if-not-room.true) in
    grown_left g.S.SectorStore.size g.S.SectorStore.told g.S.SectorStore.failures m _ c.args.port.0 a a.cache was
    (ap (λ k. slice_set m.bays.items k (Some a)) c.from-place.ensures)
    (record { cache_mode_is_kept = refl; old_sectors_are = refl }) (asked.Move c.args.port c.args.slot) refl (c.reserve-room.ensures.device_is_kept o) refl refl refl
    (λ _ _. (lacks, refl)) (λ _. refl) (λ _. inr ((c.requires.small, taken_of found.0, fits), lacks))

-- ---- the bay of the port, as the piece is moved

was : (g : Over) (c : goal.After-note_move g) → bay_of c.args.self.now c.args.port.0 ≡ Some c.in-Some.bay
was g c =
    seat_is c.args.self.now c.from-place.result c.args.port.0 c.index_mut.result.now c.in-Some.bay c.from-place.ensures
    (omega (arith, c.if-place-len.false, c.len.ensures))
    c.index_mut.ensures.value c.in-Some.is

-- it was exchanged with the bay as it was, but that its cache has grown
exchanged : (g : Over) (c : goal.After-note_move g) →
    TransfersPieceOrFails g.S.SectorStore.size g.S.SectorStore.told g.S.SectorStore.failures (record c.in-Some.bay { cache = c.reserve.new.self.cache }) c.transfer_piece.new.self c.in-Some-next_move.next
    (piece_in_memory c.reserve-room.new.self c.in-Some-next_move.next) (piece_in_memory c.transfer_piece.new.hardware c.in-Some-next_move.next) c.transfer_piece.result
exchanged g c =
    let P : Bay g.row.S.Denot → Type 0 = λ x. TransfersPieceOrFails g.S.SectorStore.size g.S.SectorStore.told g.S.SectorStore.failures x c.transfer_piece.new.self c.in-Some-next_move.next
    (piece_in_memory c.reserve-room.new.self c.in-Some-next_move.next) (piece_in_memory c.transfer_piece.new.hardware c.in-Some-next_move.next) c.transfer_piece.result in
    subst P c.reserve.ensures.rest c.transfer_piece.ensures.exchanges

lasts : (g : Over) (c : goal.After-note_move g) → lasting_of g.S.SectorStore.told c.transfer_piece.new.self ≡ lasting_of g.S.SectorStore.told c.in-Some.bay
lasts g c = (exchanged g c).lasting_is_kept ∙ grown_lasts g.S.SectorStore.told c.in-Some.bay c.reserve.new.self.cache c.reserve.ensures.old_sectors_are_kept

cached : (g : Over) (c : goal.After-note_move g) → c.transfer_piece.new.self.cache.is_on ≡ c.in-Some.bay.cache.is_on
cached g c = (exchanged g c).cache_mode_is_kept ∙ c.reserve.ensures.old_sectors_are_kept.cache_mode_is_kept

-- the model afterwards
abbrev moved_model : (g : Over) (c : goal.After-note_move g) → Model g.row.S.Denot
moved_model g c = record c.args.self.now { hardware = c.note_move.new.self; bays = with_item c.args.self.now.bays c.from-place.result (Some c.transfer_piece.new.self) }

items : (g : Over) (c : goal.After-note_move g) → (moved_model g c).bays.items ≡ slice_set c.args.self.now.bays.items c.args.port.0 (Some c.transfer_piece.new.self)
items g c = ap (λ k. slice_set c.args.self.now.bays.items k (Some c.transfer_piece.new.self)) c.from-place.ensures

fits : (g : Over) (c : goal.After-note_move g) →
    HasMove (device_at g.S.SectorStore.size g.S.SectorStore.told c.args.self.now) c.args.port.0 c.args.slot.0 (taken_of (grow c.args.port.0 c.args.slot.0 c.reserve-room.ensures.rest c.in-Some-next_move.ensures.found).0)
fits g c =
    let m = c.args.self.now in
    let o : AllMedia = all_media_at g.S.SectorStore.size g.S.SectorStore.told m in
    next_has_move c.reserve-room.new.self o _ c.args.port.0 c.args.slot.0 c.in-Some-next_move.next (grow c.args.port.0 c.args.slot.0 c.reserve-room.ensures.rest c.in-Some-next_move.ensures.found).0
    (has_disks g.S.SectorStore.size g.S.SectorStore.told m c.args.port.0 c.in-Some.bay (was g c)) (c.reserve-room.ensures.device_is_kept o) (grow c.args.port.0 c.args.slot.0 c.reserve-room.ensures.rest c.in-Some-next_move.ensures.found).1

moved : (g : Over) (c : goal.After-note_move g) →
    DoesMove c.args.port.0 c.args.slot.0 (device_at g.S.SectorStore.size g.S.SectorStore.told c.args.self.now)
    (device_at g.S.SectorStore.size g.S.SectorStore.told (moved_model g c))
moved g c =
    let m = c.args.self.now in
    let a = c.in-Some.bay in
    let o : AllMedia = all_media_at g.S.SectorStore.size g.S.SectorStore.told m in
    let h = c.reserve-room.new.self in
    let bytes = piece_in_memory c.transfer_piece.new.hardware c.in-Some-next_move.next in
    let did = c.if-not-transfer_piece.false in
    let r : TakenCommand = (grow c.args.port.0 c.args.slot.0 c.reserve-room.ensures.rest c.in-Some-next_move.ensures.found).0 in
    let is : IsNextMove h c.args.port.0 c.args.slot.0 c.in-Some-next_move.next r = (grow c.args.port.0 c.args.slot.0 c.reserve-room.ensures.rest c.in-Some-next_move.ensures.found).1 in
    let here : Media = media_of g.S.SectorStore.size g.S.SectorStore.told (Some a) in
    let at : here ≡ o.media c.args.port.0 = sym (ap (media_of g.S.SectorStore.size g.S.SectorStore.told) (was g c)) in
    let behind : all_media_at g.S.SectorStore.size g.S.SectorStore.told (moved_model g c) ≡ all_media_after_move o c.args.port.0 (taken_of r) bytes =
    outside_moved m (moved_model g c) c.args.port.0 a c.transfer_piece.new.self (was g c) (items g c)
    (exchanged g c).rest_is_kept g.S.SectorStore.size g.S.SectorStore.told
    c.in-Some-next_move.next r bytes (lasts g c) is.operation_is is.sector_is ((exchanged g c).disk_is did) in
    let R : Device → Type 0 = λ d. Can (Move c.args.port.0 c.args.slot.0 (taken_of r) bytes) d in
    record {
      fetched_command = taken_of r;
      bytes = bytes;
      can = subst R (c.reserve-room.ensures.device_is_kept o)
          (may_move h o c.args.port.0 c.args.slot.0 c.in-Some-next_move.next r bytes is (exchanged g c).bytes_are_sector
          (subst (λ (x : Media). moves_disk_sectors (c.in-Some-next_move.next.operation) ≡ true →
          c.in-Some-next_move.next.sector < x.disk.sector_count) at ((exchanged g c).done_sector_is_on_disk did))
          (subst (λ (x : Media). moves_disk_sectors (c.in-Some-next_move.next.operation) ≡ true → reads_memory (c.in-Some-next_move.next.operation) ≡ false →
          IfSome x.disk.sectors (λ f. bytes ≡ f c.in-Some-next_move.next.sector)) at ((exchanged g c).read_gives_told did))
          (exchanged g c).write_keeps_bytes);
      effect = ap (λ (x : AllMedia). device_of c.note_move.new.self x) behind
          ∙ (c.note_move.ensures.moved h o r c.transfer_piece.ensures.memory is
          ∙ ap (λ (d : Device). device_after (Move c.args.port.0 c.args.slot.0 (taken_of r) bytes) d)
          (c.reserve-room.ensures.device_is_kept o));
    }

whole : (g : Over) (c : goal.After-note_move g) →
    Completes g.S.SectorStore.size g.S.SectorStore.told g.S.SectorStore.failures (asked.Move c.args.port c.args.slot) c.args.self.now (moved_model g c)
whole g c =
    let m = c.args.self.now in
    let a = c.in-Some.bay in
    record {
      does_asked_step = moved g c;
      no_call_failed = λ _. store_fine m (moved_model g c) c.args.port.0 a c.transfer_piece.new.self (was g c) (items g c)
          (exchanged g c).rest_is_kept g.S.SectorStore.failures
          ((exchanged g c).no_call_failed c.if-not-transfer_piece.false);
      page_source_is = store_says m (moved_model g c) c.args.port.0 a c.transfer_piece.new.self (was g c) (items g c)
          (exchanged g c).rest_is_kept c.args.port.0;
      clear_and_finish_do_all_below_4_gib = λ _. tt;
      lose_plug_loses_cache = λ yes. true-false yes refl;
    }

pub returns-clause-whole : goal.returns-clause-whole
returns-clause-whole g c = λ _. whole g c

pub returns-clause-answers : goal.returns-clause-answers
returns-clause-answers g c =
    let m = c.args.self.now in
    let a = c.in-Some.bay in
    let b = c.transfer_piece.new.self in
    let o : AllMedia = all_media_at g.S.SectorStore.size g.S.SectorStore.told m in
    let found = (grow c.args.port.0 c.args.slot.0 c.reserve-room.ensures.rest c.in-Some-next_move.ensures.found) in
    let bytes = piece_in_memory c.transfer_piece.new.hardware c.in-Some-next_move.next in
    let noted = c.note_move.ensures.moved c.reserve-room.new.self o found.0 c.transfer_piece.ensures.memory found.1 in
    let entry : Entry = entry.Move (move_of c.args.port.0 c.args.slot.0 (taken_of found.0) bytes) in
    let disks = has_disks g.S.SectorStore.size g.S.SectorStore.told m c.args.port.0 a (was g c) in (
      (c.requires.small, taken_of (grow c.args.port.0 c.args.slot.0 c.reserve-room.ensures.rest c.in-Some-next_move.ensures.found).0, fits g c),
      record {
        completes_or_fails = inl (whole g c);
        held_ports_are = refl;
        disk_index_is = store_whichs m (moved_model g c) c.args.port.0 a b (was g c) (items g c)
            (exchanged g c).rest_is_kept c.args.port.0;
        other_bays_are_kept = seated_others m (moved_model g c) c.args.port.0 a b (was g c) (items g c);
        gains_own_pages = gains_moved g.S.SectorStore.size m _ a found.0.operation
            (move_of c.args.port.0 c.args.slot.0 (taken_of found.0) bytes) (was g c)
            (ap (λ (d : Device). d.tape) noted ∙ ap (λ (d : Device). d.tape ++ entry ∷ [])
            (c.reserve-room.ensures.device_is_kept o)) refl
            (λ identify. (exchanged g c).identify_page_is_sent c.if-not-transfer_piece.false (found.1.operation_is ∙ identify))
            (λ log. (exchanged g c).log_page_is_sent c.if-not-transfer_piece.false (found.1.operation_is ∙ log));
        disks_are_kept = λ none w.
            seated_same m (moved_model g c) c.args.port.0 a b (was g c) (items g c) (option_map (λ (x : Bay g.row.S.Denot). disk_in_bay x w))
            (ap (λ (x : Bay g.row.S.Denot). Some (disk_in_bay x w))
            ((exchanged g c).unranged_keeps_bay
            (next_unranged c.reserve-room.new.self o _ c.args.port c.args.slot c.in-Some-next_move.next (grow c.args.port.0 c.args.slot.0 c.reserve-room.ensures.rest c.in-Some-next_move.ensures.found).0 disks c.requires.small
            (c.reserve-room.ensures.device_is_kept o) (grow c.args.port.0 c.args.slot.0 c.reserve-room.ensures.rest c.in-Some-next_move.ensures.found).1 none))) c.args.port.0;
        step_keeps = store_keeps m (moved_model g c) c.args.port.0 a b (was g c) (items g c)
            (exchanged g c).rest_is_kept g.S.SectorStore.size (exchanged g c).size_is_kept (cached g c) refl refl;
        starved_is_kept = c.note_move.ensures.starved ∙ (starved_over c.transfer_piece.ensures.memory
            ∙ c.reserve-room.ensures.starved);
      },
    )

-- ---- the sector is past the disk

was_past : (g : Over) (c : goal.After-fail-failed g) → bay_of c.args.self.now c.args.port.0 ≡ Some c.in-Some.bay
was_past g c =
    seat_is c.args.self.now c.from-place.result c.args.port.0 c.index_mut.result.now c.in-Some.bay c.from-place.ensures
    (omega (arith, c.if-place-len.false, c.len.ensures))
    c.index_mut.ensures.value c.in-Some.is

-- the bay is as it was
abbrev past_model : (g : Over) (c : goal.After-fail-failed g) → Model g.row.S.Denot
past_model g c = record c.args.self.now { hardware = c.reserve-room.new.self; bays = with_item c.args.self.now.bays c.from-place.result (Some c.in-Some.bay) }

past_items : (g : Over) (c : goal.After-fail-failed g) → (past_model g c).bays.items ≡ slice_set c.args.self.now.bays.items c.args.port.0 (Some c.in-Some.bay)
past_items g c = ap (λ k. slice_set c.args.self.now.bays.items k (Some c.in-Some.bay)) c.from-place.ensures

past_same : (g : Over) (c : goal.After-fail-failed g) →
    device_at g.S.SectorStore.size g.S.SectorStore.told (past_model g c) ≡ device_at g.S.SectorStore.size g.S.SectorStore.told c.args.self.now
past_same g c =
    let m = c.args.self.now in
    let a = c.in-Some.bay in
    ap (λ (x : AllMedia). device_of c.reserve-room.new.self x)
    (outside_kept m (past_model g c) c.args.port.0 a a (was_past g c) (past_items g c) refl g.S.SectorStore.size g.S.SectorStore.told refl refl refl)
    ∙ c.reserve-room.ensures.device_is_kept (all_media_at g.S.SectorStore.size g.S.SectorStore.told m)

past_fits : (g : Over) (c : goal.After-fail-failed g) →
    HasMove (device_at g.S.SectorStore.size g.S.SectorStore.told c.args.self.now) c.args.port.0 c.args.slot.0 (taken_of (grow c.args.port.0 c.args.slot.0 c.reserve-room.ensures.rest c.in-Some-next_move.ensures.found).0)
past_fits g c =
    let m = c.args.self.now in
    next_has_move c.reserve-room.new.self (all_media_at g.S.SectorStore.size g.S.SectorStore.told m) _ c.args.port.0 c.args.slot.0 c.in-Some-next_move.next (grow c.args.port.0 c.args.slot.0 c.reserve-room.ensures.rest c.in-Some-next_move.ensures.found).0
    (has_disks g.S.SectorStore.size g.S.SectorStore.told m c.args.port.0 c.in-Some.bay (was_past g c))
    (c.reserve-room.ensures.device_is_kept (all_media_at g.S.SectorStore.size g.S.SectorStore.told m)) (grow c.args.port.0 c.args.slot.0 c.reserve-room.ensures.rest c.in-Some-next_move.ensures.found).1

past : (g : Over) (c : goal.After-fail-failed g) →
    IsFailed g.S.SectorStore.size g.S.SectorStore.told g.S.SectorStore.failures c.args.port c.args.slot 0x10 (taken_of (grow c.args.port.0 c.args.slot.0 c.reserve-room.ensures.rest c.in-Some-next_move.ensures.found).0)
    (past_model g c) c.fail-failed.new.self
past g c =
    let o : AllMedia = all_media_at g.S.SectorStore.size g.S.SectorStore.told (past_model g c) in
    let found = (grow c.args.port.0 c.args.slot.0 c.reserve-room.ensures.rest c.in-Some-next_move.ensures.found) in
    let works = found.1.works_on.works (o.media c.args.port.0) in
    let small = c.if-place-ge-PORTS.false in
    let at = c.from-place.ensures in
    is_failed g.S.SectorStore.size g.S.SectorStore.told g.S.SectorStore.failures c.args.port c.args.slot 0x10 (taken_of found.0) c.fail-failed.result
    (past_model g c) c.fail-failed.new.self c.fail-failed.ensures (omega (arith, small, at)) c.requires.small
    (record { taken = works.taken; cr_is_set = works.working.cr_is_set; is_byte = omega arith; kept_bits_are_allowed = refl }) (c.reserve-room.ensures.room c.if-not-room.false)

-- it names one
past_ranged : (g : Over) (c : goal.After-fail-failed g) → (next_sector (taken_of (grow c.args.port.0 c.args.slot.0 c.reserve-room.ensures.rest c.in-Some-next_move.ensures.found).0) ≡ c.in-Some-next_move.next.sector)
    × (moves_disk_sectors ((grow c.args.port.0 c.args.slot.0 c.reserve-room.ensures.rest c.in-Some-next_move.ensures.found).0.operation) ≡ true) × (g.S.SectorStore.size c.in-Some.bay.disk.store ≤ c.in-Some-next_move.next.sector)
past_ranged g c = by (moves_disk_sectors (c.in-Some-next_move.next.operation)) refl
  where
    found : (t : TakenCommand) × IsNextMove c.reserve-room.new.self c.args.port.0 c.args.slot.0 c.in-Some-next_move.next t
    found = (grow c.args.port.0 c.args.slot.0 c.reserve-room.ensures.rest c.in-Some-next_move.ensures.found)

    never : (moves_disk_sectors (c.in-Some-next_move.next.operation) ≡ true → c.in-Some-next_move.next.sector < c.sectors.result) → ⊥
    never on = true-false (c.is_within_disk_if_it_moves_sectors.ensures.1 on) c.if-not-is_within_disk_if_it_moves_sectors.true

    by : (b : Bool) → moves_disk_sectors (c.in-Some-next_move.next.operation) ≡ b → (next_sector (taken_of found.0) ≡ c.in-Some-next_move.next.sector)
        × (moves_disk_sectors found.0.operation ≡ true) × (g.S.SectorStore.size c.in-Some.bay.disk.store ≤ c.in-Some-next_move.next.sector)
    by true e = (
      sym found.1.sector_is,
      ap moves_disk_sectors (sym found.1.operation_is) ∙ e,
      elim (cases_lt c.in-Some-next_move.next.sector c.sectors.result) [
        | inl below ↦ absurd (never (λ _. below))
        | inr past ↦ let size = c.sectors.ensures in omega (arith, past, size)
      ],
    )
    by false e = absurd (never (λ moves_sectors. true-false moves_sectors e))

past_failed : (g : Over) (c : goal.After-fail-failed g) →
    CommandOfStepFails g.S.SectorStore.size g.S.SectorStore.told g.S.SectorStore.failures (asked.Move c.args.port c.args.slot) c.args.self.now c.fail-failed.new.self
past_failed g c =
    let m = c.args.self.now in
    let a = c.in-Some.bay in
    let found = (grow c.args.port.0 c.args.slot.0 c.reserve-room.ensures.rest c.in-Some-next_move.ensures.found) in
    let is = past_ranged g c in
    let size : ((device_at g.S.SectorStore.size g.S.SectorStore.told m).port c.args.port.0).disk.sector_count ≡ g.S.SectorStore.size a.disk.store =
    ap (λ x. (media_of g.S.SectorStore.size g.S.SectorStore.told x).disk.sector_count) (was_past g c) in
    let sector = is.0 in
    let below = is.2 in
    let calls : disk_failures g.S.SectorStore.failures (past_model g c) c.args.port.0 ≡ disk_failures g.S.SectorStore.failures m c.args.port.0 =
    seated_same m (past_model g c) c.args.port.0 a a (was_past g c) (past_items g c) (bay_failures g.S.SectorStore.failures) refl c.args.port.0 in
    fails_to_move g.S.SectorStore.size g.S.SectorStore.told g.S.SectorStore.failures c.args.port c.args.slot 0x10 (taken_of found.0) m
    (past_model g c) c.fail-failed.new.self (past g c) (past_same g c)
    (store_says m (past_model g c) c.args.port.0 a a (was_past g c) (past_items g c) refl c.args.port.0) (past_fits g c) is.1
    (inl (omega (arith, size, sector, below), refl, calls))

pub returns-then-not-is_within_disk_if_it_moves_sectors-clause-failed : goal.returns-then-not-is_within_disk_if_it_moves_sectors-clause-failed
returns-then-not-is_within_disk_if_it_moves_sectors-clause-failed g c = λ _. past_failed g c

pub returns-then-not-is_within_disk_if_it_moves_sectors-clause-answers : goal.returns-then-not-is_within_disk_if_it_moves_sectors-clause-answers
returns-then-not-is_within_disk_if_it_moves_sectors-clause-answers g c =
    let m = c.args.self.now in
    let a = c.in-Some.bay in
    let found = (grow c.args.port.0 c.args.slot.0 c.reserve-room.ensures.rest c.in-Some-next_move.ensures.found) in (
      (c.requires.small, taken_of found.0, past_fits g c),
      did_fail g.S.SectorStore.size g.S.SectorStore.told g.S.SectorStore.failures c.args.port c.args.slot 0x10 (taken_of found.0) m
          (past_model g c) c.fail-failed.new.self (past g c) (asked.Move c.args.port c.args.slot) refl (past_failed g c) refl refl refl
          (store_says m (past_model g c) c.args.port.0 a a (was_past g c) (past_items g c) refl c.args.port.0)
          (store_whichs m (past_model g c) c.args.port.0 a a (was_past g c) (past_items g c) refl c.args.port.0)
          (seated_others m (past_model g c) c.args.port.0 a a (was_past g c) (past_items g c))
          (gains_none g.S.SectorStore.size m _ (ap (λ (d : Device). d.tape) (past_same g c)))
          (store_keeps m (past_model g c) c.args.port.0 a a (was_past g c) (past_items g c) refl g.S.SectorStore.size refl refl refl refl) c.reserve-room.ensures.starved
          (c.requires.small, taken_of found.0, past_fits g c, (past_ranged g c).1),
    )

-- ---- the store failed

was_store : (g : Over) (c : goal.After-fail-failed-then-not-transfer_piece g) → bay_of c.args.self.now c.args.port.0 ≡ Some c.in-Some.bay
was_store g c =
    seat_is c.args.self.now c.from-place.result c.args.port.0 c.index_mut.result.now c.in-Some.bay c.from-place.ensures
    (omega (arith, c.if-place-len.false, c.len.ensures))
    c.index_mut.ensures.value c.in-Some.is

exchanged_so : (g : Over) (c : goal.After-fail-failed-then-not-transfer_piece g) →
    TransfersPieceOrFails g.S.SectorStore.size g.S.SectorStore.told g.S.SectorStore.failures (record c.in-Some.bay { cache = c.reserve.new.self.cache }) c.transfer_piece.new.self c.in-Some-next_move.next
    (piece_in_memory c.reserve-room.new.self c.in-Some-next_move.next) (piece_in_memory c.transfer_piece.new.hardware c.in-Some-next_move.next) c.transfer_piece.result
exchanged_so g c =
    let P : Bay g.row.S.Denot → Type 0 = λ x. TransfersPieceOrFails g.S.SectorStore.size g.S.SectorStore.told g.S.SectorStore.failures x c.transfer_piece.new.self c.in-Some-next_move.next
    (piece_in_memory c.reserve-room.new.self c.in-Some-next_move.next) (piece_in_memory c.transfer_piece.new.hardware c.in-Some-next_move.next) c.transfer_piece.result in
    subst P c.reserve.ensures.rest c.transfer_piece.ensures.exchanges

lasts_so : (g : Over) (c : goal.After-fail-failed-then-not-transfer_piece g) → lasting_of g.S.SectorStore.told c.transfer_piece.new.self ≡ lasting_of g.S.SectorStore.told c.in-Some.bay
lasts_so g c = (exchanged_so g c).lasting_is_kept ∙ grown_lasts g.S.SectorStore.told c.in-Some.bay c.reserve.new.self.cache c.reserve.ensures.old_sectors_are_kept

cached_so : (g : Over) (c : goal.After-fail-failed-then-not-transfer_piece g) → c.transfer_piece.new.self.cache.is_on ≡ c.in-Some.bay.cache.is_on
cached_so g c = (exchanged_so g c).cache_mode_is_kept ∙ c.reserve.ensures.old_sectors_are_kept.cache_mode_is_kept

abbrev store_model : (g : Over) (c : goal.After-fail-failed-then-not-transfer_piece g) → Model g.row.S.Denot
store_model g c = record c.args.self.now {
  hardware = c.transfer_piece.new.hardware;
  bays = with_item c.args.self.now.bays
      c.from-place.result (Some c.transfer_piece.new.self);
}

store_items : (g : Over) (c : goal.After-fail-failed-then-not-transfer_piece g) →
    (store_model g c).bays.items ≡ slice_set c.args.self.now.bays.items c.args.port.0 (Some c.transfer_piece.new.self)
store_items g c = ap (λ k. slice_set c.args.self.now.bays.items k (Some c.transfer_piece.new.self)) c.from-place.ensures

store_fits : (g : Over) (c : goal.After-fail-failed-then-not-transfer_piece g) →
    HasMove (device_at g.S.SectorStore.size g.S.SectorStore.told c.args.self.now) c.args.port.0 c.args.slot.0 (taken_of (grow c.args.port.0 c.args.slot.0 c.reserve-room.ensures.rest c.in-Some-next_move.ensures.found).0)
store_fits g c =
    let m = c.args.self.now in
    next_has_move c.reserve-room.new.self (all_media_at g.S.SectorStore.size g.S.SectorStore.told m) _ c.args.port.0 c.args.slot.0 c.in-Some-next_move.next (grow c.args.port.0 c.args.slot.0 c.reserve-room.ensures.rest c.in-Some-next_move.ensures.found).0
    (has_disks g.S.SectorStore.size g.S.SectorStore.told m c.args.port.0 c.in-Some.bay (was_store g c))
    (c.reserve-room.ensures.device_is_kept (all_media_at g.S.SectorStore.size g.S.SectorStore.told m)) (grow c.args.port.0 c.args.slot.0 c.reserve-room.ensures.rest c.in-Some-next_move.ensures.found).1

store : (g : Over) (c : goal.After-fail-failed-then-not-transfer_piece g) →
    IsFailed g.S.SectorStore.size g.S.SectorStore.told g.S.SectorStore.failures c.args.port c.args.slot 0x40 (taken_of (grow c.args.port.0 c.args.slot.0 c.reserve-room.ensures.rest c.in-Some-next_move.ensures.found).0)
    (store_model g c) c.fail-failed-then-not-transfer_piece.new.self
store g c =
    let mid = store_model g c in
    let o : AllMedia = all_media_at g.S.SectorStore.size g.S.SectorStore.told mid in
    let found = (grow c.args.port.0 c.args.slot.0 c.reserve-room.ensures.rest c.in-Some-next_move.ensures.found) in
    let works = (next_over c.args.port.0 c.args.slot.0 c.transfer_piece.ensures.memory found.1).works_on.works
    (o.media c.args.port.0) in
    let small = c.if-place-ge-PORTS.false in
    let at = c.from-place.ensures in
    is_failed g.S.SectorStore.size g.S.SectorStore.told g.S.SectorStore.failures c.args.port c.args.slot 0x40 (taken_of found.0) c.fail-failed-then-not-transfer_piece.result
    mid c.fail-failed-then-not-transfer_piece.new.self c.fail-failed-then-not-transfer_piece.ensures (omega (arith, small, at)) c.requires.small
    (record { taken = works.taken; cr_is_set = works.working.cr_is_set; is_byte = omega arith; kept_bits_are_allowed = refl })
    (room_over 1 c.transfer_piece.ensures.memory (c.reserve-room.ensures.room c.if-not-room.false))

-- it is as it was, but for the store
store_same : (g : Over) (c : goal.After-fail-failed-then-not-transfer_piece g) →
    device_at g.S.SectorStore.size g.S.SectorStore.told (store_model g c) ≡ device_at g.S.SectorStore.size g.S.SectorStore.told c.args.self.now
store_same g c =
    let m = c.args.self.now in
    ap (λ (x : AllMedia). device_of c.transfer_piece.new.hardware x)
    (outside_kept m (store_model g c) c.args.port.0 c.in-Some.bay c.transfer_piece.new.self (was_store g c)
    (store_items g c) (exchanged_so g c).rest_is_kept
    g.S.SectorStore.size g.S.SectorStore.told (exchanged_so g c).size_is_kept
    ((exchanged_so g c).failure_keeps_told_contents c.if-not-transfer_piece.true) (lasts_so g c))
    ∙ (c.transfer_piece.ensures.stays c.if-not-transfer_piece.true (all_media_at g.S.SectorStore.size g.S.SectorStore.told m)
    ∙ c.reserve-room.ensures.device_is_kept (all_media_at g.S.SectorStore.size g.S.SectorStore.told m))

store_failed : (g : Over) (c : goal.After-fail-failed-then-not-transfer_piece g) →
    CommandOfStepFails g.S.SectorStore.size g.S.SectorStore.told g.S.SectorStore.failures (asked.Move c.args.port c.args.slot) c.args.self.now c.fail-failed-then-not-transfer_piece.new.self
store_failed g c =
    let m = c.args.self.now in
    let a = c.in-Some.bay in
    let b = c.transfer_piece.new.self in
    let next = (grow c.args.port.0 c.args.slot.0 c.reserve-room.ensures.rest c.in-Some-next_move.ensures.found) in
    let moves_sectors = (exchanged_so g c).only_ranged_fails c.if-not-transfer_piece.true in
    let here = c.is_within_disk_if_it_moves_sectors.ensures.0 c.if-not-is_within_disk_if_it_moves_sectors.false moves_sectors in
    let listed = c.sectors.ensures in
    let on : c.reserve.new.self.cache.is_on ≡ port_has_cache m c.args.port.0 = c.reserve.ensures.old_sectors_are_kept.cache_mode_is_kept ∙ sym (ap has_cache (was_store g c)) in
    let Q : Bool → ℕ → Type 0 = λ writes sector. OneMoreCallFails (port_has_cache m c.args.port.0) writes sector (g.S.SectorStore.failures a.disk.store) (g.S.SectorStore.failures b.disk.store) in
    let O : Bool → Type 0 = λ x. OneMoreCallFails x (reads_memory (c.in-Some-next_move.next.operation)) c.in-Some-next_move.next.sector (g.S.SectorStore.failures a.disk.store) (g.S.SectorStore.failures b.disk.store) in
    let failed = subst O on ((exchanged_so g c).failure_is_noted c.if-not-transfer_piece.true (omega (arith, here, listed))) in
    let writes = ap reads_memory next.1.operation_is in
    let size : ((device_at g.S.SectorStore.size g.S.SectorStore.told m).port c.args.port.0).disk.sector_count ≡ g.S.SectorStore.size a.disk.store =
    ap (λ x. (media_of g.S.SectorStore.size g.S.SectorStore.told x).disk.sector_count) (was_store g c) in
    let sector : c.in-Some-next_move.next.sector ≡ next_sector (taken_of next.0) = next.1.sector_is in
    let before : disk_failures g.S.SectorStore.failures m c.args.port.0 ≡ g.S.SectorStore.failures a.disk.store = ap (bay_failures g.S.SectorStore.failures) (was_store g c) in
    let now : disk_failures g.S.SectorStore.failures (store_model g c) c.args.port.0 ≡ g.S.SectorStore.failures b.disk.store =
    ap (bay_failures g.S.SectorStore.failures) (seated_here m (store_model g c) c.args.port.0 a b (was_store g c) (store_items g c)) in
    let R : Option Failures → Option Failures → Type 0 = λ x y. OneMoreCallFails (port_has_cache m c.args.port.0) (reads_memory next.0.operation) (next_sector (taken_of next.0)) x y in
    let called = subst (λ w. Q w (next_sector (taken_of next.0))) writes (subst (Q (reads_memory (c.in-Some-next_move.next.operation))) next.1.sector_is failed) in
    fails_to_move g.S.SectorStore.size g.S.SectorStore.told g.S.SectorStore.failures c.args.port c.args.slot 0x40 (taken_of next.0) m
    (store_model g c) c.fail-failed-then-not-transfer_piece.new.self (store g c) (store_same g c)
    (store_says m (store_model g c) c.args.port.0 a b (was_store g c) (store_items g c)
    (exchanged_so g c).rest_is_kept c.args.port.0) (store_fits g c)
    (ap moves_disk_sectors (sym next.1.operation_is) ∙ moves_sectors)
    (inr (
      omega (arith, here, listed, size, sector),
      refl,
      subst (R (disk_failures g.S.SectorStore.failures m c.args.port.0)) (sym now) (subst (λ x. R x (g.S.SectorStore.failures b.disk.store)) (sym before) called),
    ))

pub returns-then-not-transfer_piece-clause-failed : goal.returns-then-not-transfer_piece-clause-failed
returns-then-not-transfer_piece-clause-failed g c = λ _. store_failed g c

pub returns-then-not-transfer_piece-clause-answers : goal.returns-then-not-transfer_piece-clause-answers
returns-then-not-transfer_piece-clause-answers g c =
    let m = c.args.self.now in
    let a = c.in-Some.bay in
    let b = c.transfer_piece.new.self in
    let next = (grow c.args.port.0 c.args.slot.0 c.reserve-room.ensures.rest c.in-Some-next_move.ensures.found) in
    let moves_sectors = ap moves_disk_sectors (sym next.1.operation_is)
    ∙ (exchanged_so g c).only_ranged_fails c.if-not-transfer_piece.true in (
      (c.requires.small, taken_of next.0, store_fits g c),
      did_fail g.S.SectorStore.size g.S.SectorStore.told g.S.SectorStore.failures c.args.port c.args.slot 0x40 (taken_of next.0) m
          (store_model g c) c.fail-failed-then-not-transfer_piece.new.self (store g c) (asked.Move c.args.port c.args.slot) refl (store_failed g c) refl refl refl
          (store_says m (store_model g c) c.args.port.0 a b (was_store g c) (store_items g c)
          (exchanged_so g c).rest_is_kept c.args.port.0)
          (store_whichs m (store_model g c) c.args.port.0 a b (was_store g c) (store_items g c)
          (exchanged_so g c).rest_is_kept c.args.port.0)
          (seated_others m (store_model g c) c.args.port.0 a b (was_store g c) (store_items g c))
          (gains_none g.S.SectorStore.size m _ (ap (λ (d : Device). d.tape) (store_same g c)))
          (store_keeps m (store_model g c) c.args.port.0 a b (was_store g c) (store_items g c)
          (exchanged_so g c).rest_is_kept g.S.SectorStore.size (exchanged_so g c).size_is_kept (cached_so g c) refl refl)
          (starved_over c.transfer_piece.ensures.memory ∙ c.reserve-room.ensures.starved)
          (c.requires.small, taken_of next.0, store_fits g c, moves_sectors),
    )

-- ---- what is found and known for the pieces behind

pub returns-clause-readies : goal.returns-clause-readies
returns-clause-readies g c = λ _.
    record {
      tape_has_room = λ n room.
          c.note_move.ensures.room_is_left n (room_over (n + 1) c.transfer_piece.ensures.memory (c.reserve-room.ensures.room_is_kept (n + 1) room));
      cache_has_room = λ t taken n room.
          let m = c.args.self.now in
          let a = c.in-Some.bay in
          let found = (grow c.args.port.0 c.args.slot.0 c.reserve-room.ensures.rest c.in-Some-next_move.ensures.found) in
          let o : AllMedia = all_media_at g.S.SectorStore.size g.S.SectorStore.told m in
          let one : t ≡ taken_of found.0 = some_one (sym taken ∙ (fits g c).works.taken) in
          let kind : sectors_left_to_write t.meaning.operation 1 ≡ sectors_left_to_write (c.in-Some-next_move.next.operation) 1 =
          ap (λ (x : FetchedCommand). sectors_left_to_write x.meaning.operation 1) one ∙ ap (λ (k : Operation). sectors_left_to_write k 1) (sym found.1.operation_is) in
          let P : ℕ → Type 0 = λ k. HasRoomForOldSectors a.cache (k + n) in
          room_there (moved_model g c) c.args.port.0 n c.transfer_piece.new.self (seated_here m (moved_model g c) c.args.port.0 a c.transfer_piece.new.self (was g c) (items g c))
          ((exchanged g c).cache_has_room n
          (c.reserve.ensures.room_is_kept (sectors_left_to_write (c.in-Some-next_move.next.operation) 1 + n)
          (subst P kind (room_here m c.args.port.0 (sectors_left_to_write t.meaning.operation 1 + n) a (was g c) room))));
      next_move_is = c.note_move.ensures.after;
    }

-- ---- a page, for which no store is asked

pub returns-in_default-next_move-clause-page : goal.returns-in_default-next_move-clause-page
returns-in_default-next_move-clause-page g c = λ t taken sends _ move low _.
    let m = c.args.self.now in
    let o : AllMedia = all_media_at g.S.SectorStore.size g.S.SectorStore.told m in
    let found = move_fits m.hardware o _ c.args.port.0 c.args.slot.0 t refl move in
    let one : t ≡ taken_of found.r = some_one (sym move.works.taken ∙ (found.holds.works (o.media c.args.port.0)).taken) in
    let place : next_place t ≡ next_place (taken_of found.r) = ap next_place one in
    c.next_move.ensures.none c.in_default-next_move.is found.r found.holds found.left (omega (arith, place, low)) found.inside

-- ---- the cache had no memory for what the sector holds, and that is told

pub transfer_piece-requires-clause-room : goal.transfer_piece-requires-clause-room
transfer_piece-requires-clause-room g c = subst (HasRoomForOldSectors c.reserve.new.self.cache) c.sectors_to_write.ensures (c.reserve.ensures.room c.if-not-reserve.false)

pub returns-then-not-reserve-clause-answers : goal.returns-then-not-reserve-clause-answers
returns-then-not-reserve-clause-answers g c =
    let m = c.args.self.now in
    let a = c.in-Some.bay in
    let o : AllMedia = all_media_at g.S.SectorStore.size g.S.SectorStore.told m in
    let found = (grow c.args.port.0 c.args.slot.0 c.reserve-room.ensures.rest c.in-Some-next_move.ensures.found) in
    let r = found.0 in
    let was = seat_is m c.from-place.result c.args.port.0 c.index_mut.result.now a c.from-place.ensures
    (omega (arith, c.if-place-len.false, c.len.ensures))
    c.index_mut.ensures.value c.in-Some.is in
    let fits : HasMove (device_at g.S.SectorStore.size g.S.SectorStore.told m) c.args.port.0 c.args.slot.0 (taken_of r) =
    next_has_move c.reserve-room.new.self o _ c.args.port.0 c.args.slot.0 c.in-Some-next_move.next r (has_disks g.S.SectorStore.size g.S.SectorStore.told m c.args.port.0 a was)
    (c.reserve-room.ensures.device_is_kept o) found.1 in
    let changes : sectors_left_to_write r.operation 1 ≡ c.sectors_to_write.result = ap (λ (k : Operation). sectors_left_to_write k 1) (sym found.1.operation_is) ∙ sym c.sectors_to_write.ensures in
    let lacks : LacksMemory (asked.Move c.args.port c.args.slot) (device_at g.S.SectorStore.size g.S.SectorStore.told m) m.hardware m.bays.items = (
      taken_of r,
      fits,
      λ _ old. c.reserve.ensures.lacked c.if-not-reserve.true
          (subst (HasRoomForOldSectors a.cache) changes (room_here m c.args.port.0 (sectors_left_to_write r.operation 1) a was old)),
    ) in
    grown_left g.S.SectorStore.size g.S.SectorStore.told g.S.SectorStore.failures m _ c.args.port.0 a c.reserve.new.self.cache was
    (ap (λ k. slice_set m.bays.items k (Some c.reserve.new.self)) c.from-place.ensures ∙ ap (λ (x : Bay g.row.S.Denot). slice_set m.bays.items c.args.port.0 (Some x)) c.reserve.ensures.rest)
    c.reserve.ensures.old_sectors_are_kept (asked.Move c.args.port c.args.slot) refl (c.reserve-room.ensures.device_is_kept o) refl refl refl (λ _ _. (lacks, refl)) (λ _. refl)
    (λ _. inr ((c.requires.small, taken_of r, fits), lacks))

-- a page changes no sector
pub returns-then-not-reserve-clause-page : goal.returns-then-not-reserve-clause-page
returns-then-not-reserve-clause-page g c = λ t taken sends _ _ _ _.
    let m = c.args.self.now in
    let a = c.in-Some.bay in
    let o : AllMedia = all_media_at g.S.SectorStore.size g.S.SectorStore.told m in
    let found = (grow c.args.port.0 c.args.slot.0 c.reserve-room.ensures.rest c.in-Some-next_move.ensures.found) in
    let P : Device → Type 0 = λ d. (d.port c.args.port.0).taken c.args.slot.0 ≡ Some (taken_of found.0) in
    let here = subst P (c.reserve-room.ensures.device_is_kept o) (found.1.works_on.works (o.media c.args.port.0)).taken in
    let one : t ≡ taken_of found.0 = some_one (sym taken ∙ here) in
    let none : sectors_left_to_write found.0.operation 1 ≡ 0 =
    ap (λ (x : FetchedCommand). sectors_left_to_write x.meaning.operation 1) (sym one) ∙ page_unwritten t.meaning.operation 1 sends in
    let changes : sectors_left_to_write found.0.operation 1 ≡ c.sectors_to_write.result = ap (λ (k : Operation). sectors_left_to_write k 1) (sym found.1.operation_is) ∙ sym c.sectors_to_write.ensures in
    c.reserve.ensures.lacked c.if-not-reserve.true (subst (HasRoomForOldSectors a.cache) (sym none ∙ changes) (no_room a.cache))
