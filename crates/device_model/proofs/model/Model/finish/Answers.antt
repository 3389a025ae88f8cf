use Rattle.std.proofs.Common.{rules, ℕ, suc, Some, ◌≡◌, ◌≤◌, length, slice_index_or, ◌+◌, ◌-◌, ◌∙◌, true, false, inl, inr, refl, sym, ap, subst, arith}
use Rattle.std.specs.Prelude.{slice_set}
use Rattle.std.specs.Vec.{with_item}
use Rattle.adapter.specs.AskedSteps.{DoesFetch}
use Rattle.adapter.specs.Device.{Device, FetchedCommand}
use Rattle.adapter.specs.declared.access.DeviceStep.TheVariants as asked
use Rattle.device_model.specs.Finishing.{HasFinishablePageCommand, TapeHasRoom, IsInProgress, MayFinish}
use Rattle.device_model.specs.WriteCaches.{HasRoomForOldSectors}
use Rattle.device_model.specs.Disks.{bay_of}
use Rattle.device_model.specs.StepEffects.{LacksMemory, IsPossible, is_step_not_skipped}
use Rattle.device_model.specs.ModelState.{device_at, all_media_at}
use Rattle.device_model.specs.SentFises.{SendsEnd}
use Rattle.device_model.specs.Slots.{WorksOnIn}
use Rattle.device_model.specs.Trims.{HasClear, sectors_left_to_change, uncleared}
use Rattle.device_model.specs.PortView.{reset_port_without_disk, taken_of}
use Rattle.device_model.specs.WholeAdapter.{HasDisks, AllMedia, device_of}
use Rattle.device_model.specs.declared.bay.Bay.{Bay}
use Rattle.device_model.specs.declared.hardware.Hardware.{Hardware}
use Rattle.device_model.specs.declared.model.Model.{Model}
use Rattle.device_model.specs.declared.port.TakenCommand.{TakenCommand}
use Rattle.device_model.proofs.Absurd.{true-false}
use Rattle.adapter.proofs.Going.{goes_one, goes_next}
use Rattle.device_model.proofs.Doing.{answered_true, done_whole, clear_fails, cut_short, did_it, left_it, left_same, meanwhile_on, move_fails}
use Rattle.device_model.proofs.Paging.{finish_clears, finish_moves, page_asks_none, page_taken}
use Rattle.device_model.proofs.Finishing.{never_past, cleared_goes, fetched_size, going_has_clear, going_has_sector, holds, moved_goes, going_has_move, going_may_end, done_ended, done_frees, no_more_going}
use Rattle.device_model.proofs.Telling.{gains_none}
use Rattle.device_model.proofs.Caching.{no_room}
use Rattle.device_model.proofs.Growing.{RoomAhead, cleared_room, grown_disks, grown_keeps, grown_left, grown_outside, moved_room, one_room, room_here, room_there, run_room}
use Rattle.device_model.proofs.Transfers.{page_plain, page_unchanged, page_unranged}
use Rattle.device_model.proofs.TwoDisks.{disks_kept, found_disks, has_disks, no_bay, no_disks, seat_is, seated_here, seated_others, store_fine, store_says, store_whichs}
use Rattle.device_model.proofs.model.Model.finish.Given.{Over}
use Rattle.device_model.proofs.model.Model.finish.Goals as goal
use Rattle.device_model.proofs.model.Model.finish.Goals.{then-port-ge4-via-then-port-ge4, then-port-ge4-via-else-port-ge4+then-not-has_disks}

-- the bay of the port as the command is begun
was : (g : Over) (c : goal.In-Some-begin g) → bay_of c.args.self.now c.args.port.0 ≡ Some c.in-Some.bay
was g c =
    seat_is c.args.self.now c.from-2.result c.args.port.0 c.index_mut.result.now c.in-Some.bay c.from-2.ensures
    (let there = c.has_disks.ensures.there c.if-not-has_disks.false in
    let long = ap length c.as_slice.ensures.value in
    let one = c.from.ensures in
    let two = c.from-2.ensures in
    omega (arith, there, long, one, two))
    c.index_mut.ensures.value c.in-Some.is

-- it is as it was, but that its cache has grown
abbrev begun_model : (g : Over) (c : goal.In-Some-begin g) → Model g.row.S.Denot
begun_model g c = record c.args.self.now {
  hardware = c.begin.new.hardware;
  bays = with_item c.args.self.now.bays c.from-2.result (Some c.begin.new.self);
}

begun_items : (g : Over) (c : goal.In-Some-begin g) →
    (begun_model g c).bays.items ≡ slice_set c.args.self.now.bays.items c.args.port.0 (Some (record c.in-Some.bay { cache = c.begin.new.self.cache }))
begun_items g c = ap (λ k. slice_set c.args.self.now.bays.items k (Some c.begin.new.self)) c.from-2.ensures
    ∙ ap (λ (x : Bay g.row.S.Denot). slice_set c.args.self.now.bays.items c.args.port.0 (Some x)) c.begin.ensures.rest

begun_outside : (g : Over) (c : goal.In-Some-begin g) →
    all_media_at g.S.SectorStore.size g.S.SectorStore.told (begun_model g c) ≡ all_media_at g.S.SectorStore.size g.S.SectorStore.told c.args.self.now
begun_outside g c =
    grown_outside g.S.SectorStore.size g.S.SectorStore.told g.S.SectorStore.failures c.args.self.now (begun_model g c) c.args.port.0 c.in-Some.bay c.begin.new.self.cache (was g c) (begun_items g c)
    c.begin.ensures.old_sectors_are_kept

pub loop-piece-init : goal.loop-piece-init
loop-piece-init g c =
    let m = c.args.self.now in
    let a = c.in-Some.bay in
    let mid = begun_model g c in
    let start : AllMedia = all_media_at g.S.SectorStore.size g.S.SectorStore.told m in
    let o : AllMedia = all_media_at g.S.SectorStore.size g.S.SectorStore.told mid in
    let behind : o ≡ start = begun_outside g c in
    let old : Device = device_of m.hardware start in
    let new : Device = device_of c.begin.new.hardware o in
    let is = c.in-Some-begin.ensures.begun in
    let P : AllMedia → Type 0 = λ x. DoesFetch c.args.port.0 c.args.slot.0 (device_of m.hardware x) new in
    let did : c.in-Some-begin.field-0.is_newly_taken ≡ true → DoesFetch c.args.port.0 c.args.slot.0 old new = λ e. subst P behind (is.newly_taken_is_fetched e o) in
    let same : c.in-Some-begin.field-0.is_newly_taken ≡ false → new ≡ old = λ e. is.device_is_kept e o ∙ ap (device_of m.hardware) behind in
    record {
      did = λ e. goes_one (SendsEnd c.args.slot.0) c.args.port.0 c.args.slot.0 old new (inl (did e));
      refused = same;
      size = fetched_size c.args.port.0 c.args.slot.0 c.in-Some-begin.field-0.is_newly_taken old new did same;
      disks = λ _ w.
          grown_disks g.S.SectorStore.size g.S.SectorStore.told g.S.SectorStore.failures m mid c.args.port.0 a c.begin.new.self.cache (was g c) (begun_items g c) c.begin.ensures.old_sectors_are_kept c.args.port.0 w refl;
      untouched = λ _ w.
          grown_disks g.S.SectorStore.size g.S.SectorStore.told g.S.SectorStore.failures m mid c.args.port.0 a c.begin.new.self.cache (was g c) (begun_items g c) c.begin.ensures.old_sectors_are_kept c.args.port.0 w refl;
      fine = store_fine m mid c.args.port.0 a (record a { cache = c.begin.new.self.cache }) (was g c) (begun_items g c) refl g.S.SectorStore.failures refl;
      meanwhile = record {
        held = refl;
        says = store_says m mid c.args.port.0 a (record a { cache = c.begin.new.self.cache }) (was g c) (begun_items g c) refl c.args.port.0;
        which = store_whichs m mid c.args.port.0 a (record a { cache = c.begin.new.self.cache }) (was g c) (begun_items g c) refl c.args.port.0;
        others = seated_others m mid c.args.port.0 a (record a { cache = c.begin.new.self.cache }) (was g c) (begun_items g c);
        pages = gains_none g.S.SectorStore.size _ _ is.tape_is_kept;
        keeps = grown_keeps g.S.SectorStore.size g.S.SectorStore.told g.S.SectorStore.failures m mid c.args.port.0 a c.begin.new.self.cache (was g c) (begun_items g c) c.begin.ensures.old_sectors_are_kept refl refl;
        starved = is.starved_is_kept;
      };
      room = let enough = is.tape_has_room in omega (arith, enough);
      going =
          let Q : ℕ → Type 0 = λ n. IsInProgress new c.args.port.0 c.args.slot.0 n c.in-Some-begin.field-0.remaining.clears in
          let all : c.in-Some-begin.field-0.remaining.moves ≡ c.in-Some-begin.field-0.remaining.moves - 0 = omega arith in
          subst Q all (is.is_in_progress o);
      ahead =
          let all : c.in-Some-begin.field-0.remaining.moves ≡ c.in-Some-begin.field-0.remaining.moves - 0 = omega arith in
          subst (RoomAhead g.S.SectorStore.size g.S.SectorStore.told mid c.args.port.0 c.args.slot.0) all
          (λ t taken. room_there mid c.args.port.0 _ (record a { cache = c.begin.new.self.cache }) (seated_here m mid c.args.port.0 a (record a { cache = c.begin.new.self.cache }) (was g c) (begun_items g c))
          (c.in-Some-begin.ensures.ahead o t taken));
      next = tt;
    }

pub loop-piece-preserved : goal.loop-piece-preserved
loop-piece-preserved g c =
    let step = did_it g.S.SectorStore.size g.S.SectorStore.told g.S.SectorStore.failures (asked.Move c.args.port c.args.slot) _ _ (is_step_not_skipped c.move_piece.result)
    c.move_piece.ensures.answers (ap is_step_not_skipped c.in-Done.is) in
    let whole = c.move_piece.ensures.whole c.in-Done.is in
    let moved = whole.does_asked_step in
    record {
      did = λ _. goes_next (SendsEnd c.args.slot.0) c.args.port.0 c.args.slot.0 _ _ _ c.loop-piece.did c.loop-piece.invariant.did c.loop-piece.invariant.refused (inr (inl moved));
      refused = λ never. absurd (let e : true ≡ false = never in cc);
      size = ap (λ (d : Device). d.memory_size) moved.effect ∙ c.loop-piece.invariant.size;
      meanwhile = meanwhile_on g.S.SectorStore.size g.S.SectorStore.told g.S.SectorStore.failures c.args.port.0 _ _ _ c.loop-piece.invariant.meanwhile
          (record { held = step.held_ports_are; says = whole.page_source_is; which = step.disk_index_is; others = step.other_bays_are_kept; pages = step.gains_own_pages; keeps = step.step_keeps; starved = step.starved_is_kept });
      disks = λ none which.
          let o : AllMedia = all_media_at g.S.SectorStore.size g.S.SectorStore.told c.args.self.now in
          let moves = finish_moves c.args.port c.args.slot c.loop-piece.did _ _ c.in-Some-begin.field-0.remaining.moves c.in-Some-begin.field-0.remaining.clears (found_disks g.S.SectorStore.size g.S.SectorStore.told c.args.self.now c.from.result c.args.port.0 _ c.from.ensures c.as_slice.ensures.value (sym c.has_disks.ensures.disks ∙ c.if-not-has_disks.false))
          (omega (arith, c.loop-piece-test.true)) c.loop-piece.invariant.did c.loop-piece.invariant.refused (c.in-Some-begin.ensures.begun.may_finish o) in
          step.disks_are_kept (λ sector. none (moves sector)) which ∙ c.loop-piece.invariant.disks none which;
      untouched = λ never. absurd (let e : true ≡ false = never in cc);
      fine = λ q which. whole.no_call_failed refl q which ∙ c.loop-piece.invariant.fine q which;
      room = (c.move_piece.ensures.readies c.in-Done.is).tape_has_room _ (omega (arith, c.loop-piece.invariant.room, c.loop-piece-test.true));
      going =
          let P : ℕ → Type 0 = λ n. IsInProgress (device_at g.S.SectorStore.size g.S.SectorStore.told c.loop-piece.self) c.args.port.0 c.args.slot.0 n c.in-Some-begin.field-0.remaining.clears in
          let next : c.in-Some-begin.field-0.remaining.moves - c.loop-piece.piece ≡ suc (c.in-Some-begin.field-0.remaining.moves - (c.loop-piece.piece + 1)) = omega (arith, c.loop-piece-test.true) in
          moved_goes c.args.port.0 c.args.slot.0 (c.in-Some-begin.field-0.remaining.moves - (c.loop-piece.piece + 1)) c.in-Some-begin.field-0.remaining.clears _ _ (subst P next c.loop-piece.invariant.going) moved;
      ahead =
          let next : c.in-Some-begin.field-0.remaining.moves - c.loop-piece.piece ≡ suc (c.in-Some-begin.field-0.remaining.moves - (c.loop-piece.piece + 1)) = omega (arith, c.loop-piece-test.true) in
          moved_room g.S.SectorStore.size g.S.SectorStore.told c.args.port.0 c.args.slot.0 c.loop-piece.self c.move_piece.new.self (c.in-Some-begin.field-0.remaining.moves - (c.loop-piece.piece + 1)) moved
          (subst (RoomAhead g.S.SectorStore.size g.S.SectorStore.told c.loop-piece.self c.args.port.0 c.args.slot.0) next c.loop-piece.invariant.ahead) (c.move_piece.ensures.readies c.in-Done.is).cache_has_room;
      next = (c.move_piece.ensures.readies c.in-Done.is).next_move_is;
    }

-- a move was left: no move that is possible is, where it is served
pub returns-in-Skipped-clause-answers : goal.returns-in-Skipped-clause-answers
returns-in-Skipped-clause-answers g c =
    let m = c.loop-piece.self in
    let first = c.args.self.now in
    let o : AllMedia = all_media_at g.S.SectorStore.size g.S.SectorStore.told first in
    let is = c.loop-piece.invariant in
    let d : Device = device_at g.S.SectorStore.size g.S.SectorStore.told m in
    let step = left_it g.S.SectorStore.size g.S.SectorStore.told g.S.SectorStore.failures (asked.Move c.args.port c.args.slot) _ _ (is_step_not_skipped c.move_piece.result)
    c.move_piece.ensures.answers (ap is_step_not_skipped c.in-Skipped.is) in
    let left = c.in-Some-begin.field-0.remaining.moves - (c.loop-piece.piece + 1) in
    let clears = c.in-Some-begin.field-0.remaining.clears in
    let P : ℕ → Type 0 = λ n. IsInProgress d c.args.port.0 c.args.slot.0 n clears in
    let next : c.in-Some-begin.field-0.remaining.moves - c.loop-piece.piece ≡ suc left = omega (arith, c.loop-piece-test.true) in
    let disks : HasDisks (device_at g.S.SectorStore.size g.S.SectorStore.told first) c.args.port.0 = found_disks g.S.SectorStore.size g.S.SectorStore.told c.args.self.now c.from.result c.args.port.0 _ c.from.ensures c.as_slice.ensures.value (sym c.has_disks.ensures.disks ∙ c.if-not-has_disks.false) in
    let going = subst P next is.going in
    let move = going_has_move d c.args.port.0 c.args.slot.0 left clears (disks_kept g.S.SectorStore.size g.S.SectorStore.told first m c.args.port.0 is.meanwhile.which disks) going in
    let room : TapeHasRoom m.hardware 1 = omega (arith, is.room) in
    cut_short g.S.SectorStore.size g.S.SectorStore.told g.S.SectorStore.failures (asked.Move c.args.port c.args.slot) c.args.port c.args.slot c.loop-piece.did first m _
    (disks, c.requires, c.in-Some-begin.field-0.remaining.moves, c.in-Some-begin.field-0.remaining.clears, c.in-Some-begin.ensures.begun.may_finish o) is.did is.refused is.meanwhile is.disks is.untouched
    is.fine refl step (λ small_enough. omega (arith, is.size, small_enough)) (c.requires, going.fetched_command, move)
    (λ lacks. lacks.2 room (one_room m.bays.items c.args.port.0 lacks.0 _ left (subst (RoomAhead g.S.SectorStore.size g.S.SectorStore.told m c.args.port.0 c.args.slot.0) next is.ahead lacks.0 lacks.1.works.taken)))
    going.fetched_command going.works.taken

-- a move came to a sector on which the command failed
pub returns-in-Failed-clause-answers : goal.returns-in-Failed-clause-answers
returns-in-Failed-clause-answers g c =
    let first = c.args.self.now in
    let o : AllMedia = all_media_at g.S.SectorStore.size g.S.SectorStore.told first in
    let is = c.loop-piece.invariant in
    let step = did_it g.S.SectorStore.size g.S.SectorStore.told g.S.SectorStore.failures (asked.Move c.args.port c.args.slot) _ _ (is_step_not_skipped c.move_piece.result)
    c.move_piece.ensures.answers (ap is_step_not_skipped c.in-Failed.is) in
    let failed = c.move_piece.ensures.failed c.in-Failed.is in
    let left = c.in-Some-begin.field-0.remaining.moves in
    let asks = finish_moves c.args.port c.args.slot c.loop-piece.did _ _ left c.in-Some-begin.field-0.remaining.clears (found_disks g.S.SectorStore.size g.S.SectorStore.told c.args.self.now c.from.result c.args.port.0 _ c.from.ensures c.as_slice.ensures.value (sym c.has_disks.ensures.disks ∙ c.if-not-has_disks.false))
    (omega (arith, c.loop-piece-test.true)) is.did is.refused (c.in-Some-begin.ensures.begun.may_finish o) (c.requires, failed.fetched_command, failed.has_move, failed.moves_sectors) in
    move_fails g.S.SectorStore.size g.S.SectorStore.told g.S.SectorStore.failures c.args.port c.args.slot c.loop-piece.did first _ _
    ((found_disks g.S.SectorStore.size g.S.SectorStore.told c.args.self.now c.from.result c.args.port.0 _ c.from.ensures c.as_slice.ensures.value (sym c.has_disks.ensures.disks ∙ c.if-not-has_disks.false)), c.requires, left, c.in-Some-begin.field-0.remaining.clears, c.in-Some-begin.ensures.begun.may_finish o) is.did is.refused is.meanwhile asks is.fine step failed

-- ---- the clears

pub loop-run-init : goal.loop-run-init
loop-run-init g c =
    let is = c.loop-piece.invariant in
    let d : Device = device_at g.S.SectorStore.size g.S.SectorStore.told c.loop-piece.self in
    let none : c.in-Some-begin.field-0.remaining.moves - c.loop-piece.piece ≡ 0 = omega (arith, c.loop-piece-test.false) in
    let all : c.in-Some-begin.field-0.remaining.clears ≡ c.in-Some-begin.field-0.remaining.clears - 0 = omega arith in
    let P : ℕ → Type 0 = λ n. IsInProgress d c.args.port.0 c.args.slot.0 n c.in-Some-begin.field-0.remaining.clears in
    let Q : ℕ → Type 0 = λ n. IsInProgress d c.args.port.0 c.args.slot.0 0 n in
    record {
      did = is.did;
      refused = is.refused;
      room = let enough = is.room in omega (arith, enough, none);
      going = subst Q all (subst P none is.going);
      ahead = subst (RoomAhead g.S.SectorStore.size g.S.SectorStore.told c.loop-piece.self c.args.port.0 c.args.slot.0) none is.ahead;
      disks = is.disks;
      untouched = is.untouched;
      fine = is.fine;
      meanwhile = is.meanwhile;
    }

-- as many sectors as are left to clear
as_many : (h : Hardware) (o : AllMedia) (port slot left clears most : ℕ) (going : IsInProgress (device_of h o) port slot left clears) →
    ((t : TakenCommand) → WorksOnIn (slice_index_or h.ports port reset_port_without_disk) slot t → most ≡ length (uncleared (taken_of t))) → most ≡ length (uncleared going.fetched_command)
as_many h o port slot left clears most going counted =
    let w = holds h o port slot going.fetched_command going.works in
    counted w.0 w.1 ∙ ap (λ (t : FetchedCommand). length (uncleared t)) (sym w.2)

pub loop-run-preserved : goal.loop-run-preserved
loop-run-preserved g c =
    let m = c.loop-run.self in
    let first = c.args.self.now in
    let o : AllMedia = all_media_at g.S.SectorStore.size g.S.SectorStore.told m in
    let start : AllMedia = all_media_at g.S.SectorStore.size g.S.SectorStore.told first in
    let is = c.loop-run.invariant in
    let d : Device = device_at g.S.SectorStore.size g.S.SectorStore.told m in
    let most = c.count_uncleared-most.result in
    let step = did_it g.S.SectorStore.size g.S.SectorStore.told g.S.SectorStore.failures (asked.Clear c.args.port c.args.slot most) _ _ (is_step_not_skipped c.clear_run.result)
    c.clear_run.ensures.answers (ap is_step_not_skipped c.in-Done-clear_run.is) in
    let whole = c.clear_run.ensures.whole c.in-Done-clear_run.is in
    let left = c.in-Some-begin.field-0.remaining.clears - (c.loop-run._run + 1) in
    let P : ℕ → Type 0 = λ n. IsInProgress d c.args.port.0 c.args.slot.0 0 n in
    let next : c.in-Some-begin.field-0.remaining.clears - c.loop-run._run ≡ suc left = omega (arith, c.loop-run-test.true) in
    let going = subst P next is.going in
    let asks = finish_clears c.args.port c.args.slot _ c.in-Some-begin.field-0.remaining.moves c.in-Some-begin.field-0.remaining.clears (found_disks g.S.SectorStore.size g.S.SectorStore.told c.args.self.now c.from.result c.args.port.0 _ c.from.ensures c.as_slice.ensures.value (sym c.has_disks.ensures.disks ∙ c.if-not-has_disks.false)) c.requires
    (omega (arith, c.loop-run-test.true)) (c.in-Some-begin.ensures.begun.may_finish start) in
    let all = as_many m.hardware o c.args.port.0 c.args.slot.0 0 (suc left) most going c.count_uncleared-most.ensures in
    let one = going_has_sector d c.args.port.0 c.args.slot.0 left going in
    let some : 1 ≤ most = omega (arith, all, one) in
    record {
      did = λ _. goes_next (SendsEnd c.args.slot.0) c.args.port.0 c.args.slot.0 _ _ _ c.loop-run.did is.did is.refused (inr (inr (inr (most, some, whole.1.does_asked_step))));
      refused = λ never. absurd (let e : true ≡ false = never in cc);
      meanwhile = meanwhile_on g.S.SectorStore.size g.S.SectorStore.told g.S.SectorStore.failures c.args.port.0 _ _ _ is.meanwhile
          (record { held = step.held_ports_are; says = whole.1.page_source_is; which = step.disk_index_is; others = step.other_bays_are_kept; pages = step.gains_own_pages; keeps = step.step_keeps; starved = step.starved_is_kept });
      disks = λ none. absurd (none asks);
      untouched = λ never. absurd (let e : true ≡ false = never in cc);
      fine = λ q which. whole.1.no_call_failed refl q which ∙ is.fine q which;
      room = c.clear_run.ensures.left c.in-Done-clear_run.is _ (omega (arith, is.room, c.loop-run-test.true));
      going = cleared_goes c.args.port.0 c.args.slot.0 left d _ going most all whole.1.does_asked_step whole.0;
      ahead = cleared_room g.S.SectorStore.size g.S.SectorStore.told c.args.port.0 c.args.slot.0 m c.clear_run.new.self most whole.1.does_asked_step whole.0 is.ahead (c.clear_run.ensures.old_room c.in-Done-clear_run.is);
    }

-- a clear was left
pub returns-in-Skipped-clear_run-clause-answers : goal.returns-in-Skipped-clear_run-clause-answers
returns-in-Skipped-clear_run-clause-answers g c =
    let m = c.loop-run.self in
    let first = c.args.self.now in
    let o : AllMedia = all_media_at g.S.SectorStore.size g.S.SectorStore.told m in
    let start : AllMedia = all_media_at g.S.SectorStore.size g.S.SectorStore.told first in
    let is = c.loop-run.invariant in
    let disks : HasDisks (device_at g.S.SectorStore.size g.S.SectorStore.told first) c.args.port.0 = found_disks g.S.SectorStore.size g.S.SectorStore.told c.args.self.now c.from.result c.args.port.0 _ c.from.ensures c.as_slice.ensures.value (sym c.has_disks.ensures.disks ∙ c.if-not-has_disks.false) in
    let d : Device = device_at g.S.SectorStore.size g.S.SectorStore.told m in
    let most = c.count_uncleared-most.result in
    let step = left_it g.S.SectorStore.size g.S.SectorStore.told g.S.SectorStore.failures (asked.Clear c.args.port c.args.slot most) _ _ (is_step_not_skipped c.clear_run.result)
    c.clear_run.ensures.answers (ap is_step_not_skipped c.in-Skipped-clear_run.is) in
    let left = c.in-Some-begin.field-0.remaining.clears - (c.loop-run._run + 1) in
    let P : ℕ → Type 0 = λ n. IsInProgress d c.args.port.0 c.args.slot.0 0 n in
    let next : c.in-Some-begin.field-0.remaining.clears - c.loop-run._run ≡ suc left = omega (arith, c.loop-run-test.true) in
    let going = subst P next is.going in
    let whole = as_many m.hardware o c.args.port.0 c.args.slot.0 0 (suc left) most going c.count_uncleared-most.ensures in
    let has = subst (λ (n : ℕ). HasClear d c.args.port.0 c.args.slot.0 n going.fetched_command) (sym whole) (going_has_clear d c.args.port.0 c.args.slot.0 left (disks_kept g.S.SectorStore.size g.S.SectorStore.told first m c.args.port.0 is.meanwhile.which disks) going) in
    let room : TapeHasRoom m.hardware 2 = omega (arith, is.room, next) in
    cut_short g.S.SectorStore.size g.S.SectorStore.told g.S.SectorStore.failures (asked.Clear c.args.port c.args.slot most) c.args.port c.args.slot c.loop-run.did first m _
    (disks, c.requires, c.in-Some-begin.field-0.remaining.moves, c.in-Some-begin.field-0.remaining.clears, c.in-Some-begin.ensures.begun.may_finish start) is.did is.refused is.meanwhile is.disks is.untouched
    is.fine refl step (λ _. tt) (c.requires, going.fetched_command, has)
    (λ lacks. lacks.2 room (run_room g.S.SectorStore.size g.S.SectorStore.told m c.args.port.0 c.args.slot.0 most lacks.0 lacks.1 is.ahead)) going.fetched_command going.works.taken

-- a clear came to a sector on which the command failed
pub returns-in-Failed-clear_run-clause-answers : goal.returns-in-Failed-clear_run-clause-answers
returns-in-Failed-clear_run-clause-answers g c =
    let first = c.args.self.now in
    let start : AllMedia = all_media_at g.S.SectorStore.size g.S.SectorStore.told first in
    let is = c.loop-run.invariant in
    let most = c.count_uncleared-most.result in
    let step = did_it g.S.SectorStore.size g.S.SectorStore.told g.S.SectorStore.failures (asked.Clear c.args.port c.args.slot most) _ _ (is_step_not_skipped c.clear_run.result)
    c.clear_run.ensures.answers (ap is_step_not_skipped c.in-Failed-clear_run.is) in
    let asks = finish_clears c.args.port c.args.slot _ c.in-Some-begin.field-0.remaining.moves c.in-Some-begin.field-0.remaining.clears (found_disks g.S.SectorStore.size g.S.SectorStore.told c.args.self.now c.from.result c.args.port.0 _ c.from.ensures c.as_slice.ensures.value (sym c.has_disks.ensures.disks ∙ c.if-not-has_disks.false)) c.requires
    (omega (arith, c.loop-run-test.true)) (c.in-Some-begin.ensures.begun.may_finish start) in
    clear_fails g.S.SectorStore.size g.S.SectorStore.told g.S.SectorStore.failures c.args.port c.args.slot c.loop-run.did first _ _
    ((found_disks g.S.SectorStore.size g.S.SectorStore.told c.args.self.now c.from.result c.args.port.0 _ c.from.ensures c.as_slice.ensures.value (sym c.has_disks.ensures.disks ∙ c.if-not-has_disks.false)), c.requires, c.in-Some-begin.field-0.remaining.moves, c.in-Some-begin.field-0.remaining.clears, c.in-Some-begin.ensures.begun.may_finish start) is.did is.refused is.meanwhile asks
    is.fine most step (c.clear_run.ensures.failed c.in-Failed-clear_run.is)

-- ---- the end

pub returns-then-done-clause-answers : goal.returns-then-done-clause-answers
returns-then-done-clause-answers g c =
    let m = c.loop-run.self in
    let first = c.args.self.now in
    let o : AllMedia = all_media_at g.S.SectorStore.size g.S.SectorStore.told m in
    let start : AllMedia = all_media_at g.S.SectorStore.size g.S.SectorStore.told first in
    let is = c.loop-run.invariant in
    let step = did_it g.S.SectorStore.size g.S.SectorStore.told g.S.SectorStore.failures (asked.Done c.args.port c.args.slot) _ _ c.done.result c.done.ensures c.if-done.true in
    let whole = done_whole g.S.SectorStore.size g.S.SectorStore.told g.S.SectorStore.failures c.args.port c.args.slot _ _ step in
    let done = whole.does_asked_step in
    let all = meanwhile_on g.S.SectorStore.size g.S.SectorStore.told g.S.SectorStore.failures c.args.port.0 first m _ is.meanwhile
    (record { held = step.held_ports_are; says = whole.page_source_is; which = step.disk_index_is; others = step.other_bays_are_kept; pages = step.gains_own_pages; keeps = step.step_keeps; starved = step.starved_is_kept }) in
    answered_true g.S.SectorStore.size g.S.SectorStore.told g.S.SectorStore.failures (asked.Finish c.args.port c.args.slot) first _ c.done.result c.if-done.true (
      ((found_disks g.S.SectorStore.size g.S.SectorStore.told c.args.self.now c.from.result c.args.port.0 _ c.from.ensures c.as_slice.ensures.value (sym c.has_disks.ensures.disks ∙ c.if-not-has_disks.false)), c.requires, c.in-Some-begin.field-0.remaining.moves, c.in-Some-begin.field-0.remaining.clears, c.in-Some-begin.ensures.begun.may_finish start),
      record {
        completes_or_fails = inl (record {
          does_asked_step = goes_next (SendsEnd c.args.slot.0) c.args.port.0 c.args.slot.0 _ _ _ c.loop-run.did is.did is.refused (inr (inr (inl done)));
          no_call_failed = λ _ q which. whole.no_call_failed refl q which ∙ is.fine q which;
          page_source_is = all.says;
          clear_and_finish_do_all_below_4_gib = λ _.
              let issued = no_more_going c.args.port.0 c.args.slot.0 c.loop-run.did _ _ is.did is.refused in
              done_ended c.args.port.0 c.args.slot.0 _ _ _ issued done;
          lose_plug_loses_cache = λ yes. true-false yes refl;
        });
        held_ports_are = all.held;
        disk_index_is = all.which;
        other_bays_are_kept = all.others;
        gains_own_pages = all.pages;
        disks_are_kept = λ none which. step.disks_are_kept (λ asks. asks) which ∙ is.disks none which;
        step_keeps = all.keeps;
        starved_is_kept = all.starved;
      },
    )

-- an end that is possible, and for which there is memory, isn't left
end_is_done : (g : Over) (c : goal.Else-done g) → ⊥
end_is_done g c =
    let m = c.loop-run.self in
    let o : AllMedia = all_media_at g.S.SectorStore.size g.S.SectorStore.told m in
    let P : ℕ → Type 0 = λ n. IsInProgress (device_at g.S.SectorStore.size g.S.SectorStore.told m) c.args.port.0 c.args.slot.0 0 n in
    let none : c.in-Some-begin.field-0.remaining.clears - c.loop-run._run ≡ 0 = omega (arith, c.loop-run-test.false) in
    let going = subst P none c.loop-run.invariant.going in
    let left = left_it g.S.SectorStore.size g.S.SectorStore.told g.S.SectorStore.failures (asked.Done c.args.port c.args.slot) _ _ c.done.result c.done.ensures c.if-done.false in
    (left.possible_step_lacks_memory tt (omega (arith, c.if-port-ge4.false), c.requires, 0, going.fetched_command, going_may_end c.args.port.0 c.args.slot.0 _ going)).0 (omega (arith, c.loop-run.invariant.room))

pub returns-else-done-clause-answers : goal.returns-else-done-clause-answers
returns-else-done-clause-answers g c = absurd (end_is_done g c)

-- there is no such port, or it has no disks
pub returns-then-port-ge4-clause-answers : goal.returns-then-port-ge4-clause-answers
returns-then-port-ge4-clause-answers g c =
    let m = c.args.self.now in
    let o : AllMedia = all_media_at g.S.SectorStore.size g.S.SectorStore.told m in
    let four : length m.hardware.ports ≡ 4 = search rules in
    left_same g.S.SectorStore.size g.S.SectorStore.told g.S.SectorStore.failures _ m
    (λ may.
    elim c.then-port-ge4.branch [
      | then-port-ge4-via-then-port-ge4 w ↦
          let past = w.if-port-ge4.true in never_past m.hardware o c.args.port.0 c.args.slot.0 may.2 may.3 (omega (arith, four, past)) may.4
      | then-port-ge4-via-else-port-ge4+then-not-has_disks w ↦
          no_disks g.S.SectorStore.size g.S.SectorStore.told m c.args.port.0
          (no_bay m w.from.result c.args.port.0 _ w.from.ensures w.as_slice.ensures.value (sym w.has_disks.ensures.disks ∙ w.if-not-has_disks.true)) may.0
    ])

pub returns-then-port-ge4-clause-sends : goal.returns-then-port-ge4-clause-sends
returns-then-port-ge4-clause-sends g c = λ disks has.
    let m = c.args.self.now in
    let o : AllMedia = all_media_at g.S.SectorStore.size g.S.SectorStore.told m in
    let four : length m.hardware.ports ≡ 4 = search rules in
    absurd (elim c.then-port-ge4.branch [
      | then-port-ge4-via-then-port-ge4 w ↦
          let past = w.if-port-ge4.true in never_past m.hardware o c.args.port.0 c.args.slot.0 has.moves_left 0 (omega (arith, four, past)) has.may_finish
      | then-port-ge4-via-else-port-ge4+then-not-has_disks w ↦
          no_disks g.S.SectorStore.size g.S.SectorStore.told m c.args.port.0
          (no_bay m w.from.result c.args.port.0 _ w.from.ensures w.as_slice.ensures.value (sym w.has_disks.ensures.disks ∙ w.if-not-has_disks.true)) disks
    ])

-- there is no command that can be done
pub returns-in_default-begin-clause-answers : goal.returns-in_default-begin-clause-answers
returns-in_default-begin-clause-answers g c =
    let m = c.args.self.now in
    let a = c.in-Some.bay in
    let o : AllMedia = all_media_at g.S.SectorStore.size g.S.SectorStore.told m in
    let here = seat_is c.args.self.now c.from-2.result c.args.port.0 c.index_mut.result.now c.in-Some.bay c.from-2.ensures
    (let there = c.has_disks.ensures.there c.if-not-has_disks.false in
    let long = ap length c.as_slice.ensures.value in
    let one = c.from.ensures in
    let two = c.from-2.ensures in
    omega (arith, there, long, one, two))
    c.index_mut.ensures.value c.in-Some.is in
    let items = ap (λ k. slice_set m.bays.items k (Some c.begin.new.self)) c.from-2.ensures ∙ ap (λ (x : Bay g.row.S.Denot). slice_set m.bays.items c.args.port.0 (Some x)) c.begin.ensures.rest in
    elim (c.in_default-begin.ensures.is_unbegun refl) [
      | inl never ↦
          grown_left g.S.SectorStore.size g.S.SectorStore.told g.S.SectorStore.failures m _ c.args.port.0 a c.begin.new.self.cache here items c.begin.ensures.old_sectors_are_kept
          (asked.Finish c.args.port c.args.slot) refl (ap (λ (h : Hardware). device_of h o) never.1) refl refl refl (λ _ may. absurd (never.0 o may.2 may.3 may.4))
          (λ yes. ap (λ (h : Hardware). h.starved) never.1 ∙ yes) (λ yes. inl (sym (ap (λ (h : Hardware). h.starved) never.1) ∙ yes))
      | inr lacks ↦
          let ready = lacks.may_finish o in
          let may : IsPossible (asked.Finish c.args.port c.args.slot) (device_at g.S.SectorStore.size g.S.SectorStore.told m) =
          (has_disks g.S.SectorStore.size g.S.SectorStore.told m c.args.port.0 a here, c.requires, lacks.moves_left, lacks.clears_left, ready) in
          let none : LacksMemory (asked.Finish c.args.port c.args.slot) (device_at g.S.SectorStore.size g.S.SectorStore.told m) m.hardware m.bays.items =
          (lacks.moves_left, lacks.clears_left, ready, λ room old. lacks.room_was_lacking o lacks.moves_left lacks.clears_left ready room (room_here m c.args.port.0 _ a here old)) in
          grown_left g.S.SectorStore.size g.S.SectorStore.told g.S.SectorStore.failures m _ c.args.port.0 a c.begin.new.self.cache here items c.begin.ensures.old_sectors_are_kept
          (asked.Finish c.args.port c.args.slot) refl (lacks.device_is_kept o) refl refl refl (λ _ _. (none, lacks.starved_is_set)) (λ _. lacks.starved_is_set) (λ _. inr (may, none))
    ]

-- ---- a command that sends a page, for which no store is asked

-- a move that is left, and for which there is memory, isn't refused
pub returns-in-Skipped-clause-sends : goal.returns-in-Skipped-clause-sends
returns-in-Skipped-clause-sends g c = λ disks has.
    let m = c.loop-piece.self in
    let first = c.args.self.now in
    let is = c.loop-piece.invariant in
    let d : Device = device_at g.S.SectorStore.size g.S.SectorStore.told m in
    let left = c.in-Some-begin.field-0.remaining.moves - (c.loop-piece.piece + 1) in
    let clears = c.in-Some-begin.field-0.remaining.clears in
    let P : ℕ → Type 0 = λ n. IsInProgress d c.args.port.0 c.args.slot.0 n clears in
    let next : c.in-Some-begin.field-0.remaining.moves - c.loop-piece.piece ≡ suc left = omega (arith, c.loop-piece-test.true) in
    let going = subst P next is.going in
    let move = going_has_move d c.args.port.0 c.args.slot.0 left clears (disks_kept g.S.SectorStore.size g.S.SectorStore.told first m c.args.port.0 is.meanwhile.which disks) going in
    let t : FetchedCommand = going.fetched_command in
    let page = page_taken c.args.port.0 c.args.slot.0 c.loop-piece.did _ _ is.did is.refused has t going.works.taken in
    let low = page.1 t.moved move.piece_is_left in
    absurd (c.move_piece.ensures.page t going.works.taken page.0 c.in-Skipped.is move (omega (arith, low)) (omega (arith, is.room)))

-- nor does it fail
pub returns-in-Failed-clause-sends : goal.returns-in-Failed-clause-sends
returns-in-Failed-clause-sends g c = λ disks has.
    let is = c.loop-piece.invariant in
    let failed = c.move_piece.ensures.failed c.in-Failed.is in
    let page = page_taken c.args.port.0 c.args.slot.0 c.loop-piece.did _ _ is.did is.refused has failed.fetched_command failed.has_move.works.taken in
    true-false failed.moves_sectors (page_unranged _ page.0)

pub returns-then-done-clause-sends : goal.returns-then-done-clause-sends
returns-then-done-clause-sends g c = λ disks has.
    let m = c.loop-run.self in
    let o : AllMedia = all_media_at g.S.SectorStore.size g.S.SectorStore.told m in
    let P : ℕ → Type 0 = λ n. IsInProgress (device_at g.S.SectorStore.size g.S.SectorStore.told m) c.args.port.0 c.args.slot.0 0 n in
    let none : c.in-Some-begin.field-0.remaining.clears - c.loop-run._run ≡ 0 = omega (arith, c.loop-run-test.false) in
    let going = subst P none c.loop-run.invariant.going in
    let page = page_taken c.args.port.0 c.args.slot.0 c.loop-run.did _ _ c.loop-run.invariant.did c.loop-run.invariant.refused has going.fetched_command going.works.taken in (
      λ _. done_frees c.args.port.0 c.args.slot.0 _ _ going (page_plain _ page.0) (done_whole g.S.SectorStore.size g.S.SectorStore.told g.S.SectorStore.failures c.args.port c.args.slot _ _ (did_it g.S.SectorStore.size g.S.SectorStore.told g.S.SectorStore.failures (asked.Done c.args.port c.args.slot) _ _ c.done.result c.done.ensures c.if-done.true)).does_asked_step,
      λ never. true-false c.if-done.true never,
    )

pub returns-else-done-clause-sends : goal.returns-else-done-clause-sends
returns-else-done-clause-sends g c = λ _ _. absurd (end_is_done g c)

pub returns-in_default-begin-clause-sends : goal.returns-in_default-begin-clause-sends
returns-in_default-begin-clause-sends g c = λ disks has.
    let m = c.args.self.now in
    let o : AllMedia = all_media_at g.S.SectorStore.size g.S.SectorStore.told m in
    let ready = has.may_finish in
    elim (c.in_default-begin.ensures.is_unbegun refl) [
      | inl never ↦ absurd (never.0 o has.moves_left 0 ready)
      | inr lacks ↦
          let none : sectors_left_to_change ready.fetched_command.meaning.operation (device_of m.hardware o).memory ready.fetched_command has.moves_left ≡ 0 = page_unchanged ready.fetched_command.meaning.operation _ ready.fetched_command has.moves_left has.sends_page in (
            λ never. absurd (let e : false ≡ true = never in cc),
            λ _. (lacks.starved_is_set, λ room. lacks.room_is_lacking o has.moves_left 0 ready (omega (arith, room)) (subst (HasRoomForOldSectors c.begin.new.self.cache) (sym none) (no_room c.begin.new.self.cache))),
          )
    ]

-- it clears nothing
no_clears : (d : Device) (port slot left clears : ℕ) → HasFinishablePageCommand d port slot → MayFinish d port slot left clears → 1 ≤ clears → ⊥
no_clears d port slot left clears has may some = page_asks_none d port slot left clears has may (inr some)

pub returns-in-Skipped-clear_run-clause-sends : goal.returns-in-Skipped-clear_run-clause-sends
returns-in-Skipped-clear_run-clause-sends g c = λ _ has.
    let o : AllMedia = all_media_at g.S.SectorStore.size g.S.SectorStore.told c.args.self.now in
    absurd (no_clears _ c.args.port.0 c.args.slot.0 _ _ has (c.in-Some-begin.ensures.begun.may_finish o) (omega (arith, c.loop-run-test.true)))

pub returns-in-Failed-clear_run-clause-sends : goal.returns-in-Failed-clear_run-clause-sends
returns-in-Failed-clear_run-clause-sends g c = λ _ has.
    let o : AllMedia = all_media_at g.S.SectorStore.size g.S.SectorStore.told c.args.self.now in
    absurd (no_clears _ c.args.port.0 c.args.slot.0 _ _ has (c.in-Some-begin.ensures.begun.may_finish o) (omega (arith, c.loop-run-test.true)))
