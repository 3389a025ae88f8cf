use Rattle.std.proofs.Common.{rules, ℕ, Bool, true, min, ◌-◌, ◌≡◌, ◌<◌, ◌≤◌, ◌+◌, ◌⊎◌, ◌∙◌, Some, length, refl, sym, ap, subst, arith, inl, inr}
use Rattle.std.proofs.lemmas.Bool.{cases_lt}
use Rattle.adapter.specs.declared.access.DeviceStep.TheVariants as asked
use Rattle.adapter.specs.Steps.{disk_cleared}
use Rattle.device_model.specs.WriteCaches.{OneMoreCallFails, HasRoomForOldSectors}
use Rattle.device_model.specs.Disks.{bay_of, disk_over, bay_failures, lasting_of}
use Rattle.device_model.specs.StepEffects.{Completes, HasCleared, CommandOfStepFails, SectorIsPastDiskOrStoreFails, LacksMemory, cleared_count_on_disk}
use Rattle.device_model.specs.ModelState.{device_at, media_of, all_media_at}
use Rattle.device_model.specs.Trims.{HasClear, next_uncleared, next_run_length}
use Rattle.device_model.specs.PortView.{taken_of}
use Rattle.device_model.specs.WholeAdapter.{AllMedia}
use Rattle.device_model.proofs.Absurd.{some_one, true-false}
use Rattle.device_model.proofs.Caching.{less_room}
use Rattle.device_model.proofs.Growing.{grown_lasts, grown_left, room_here, room_there}
use Rattle.device_model.proofs.Clears.{IsPart, cut_part, found_clear, part_fails}
use Rattle.device_model.proofs.Doing.{IsFailed, is_failed, left_same}
use Rattle.device_model.proofs.Faults.{did_fail, fine_on}
use Rattle.device_model.proofs.Finishing.{clear_fits, stopped_past}
use Rattle.device_model.proofs.Trimming.{span_some}
use Rattle.std.specs.Vec.{with_item}
use Rattle.std.specs.Prelude.{slice_set}
use Rattle.device_model.specs.declared.bay.Bay.{Bay}
use Rattle.device_model.specs.declared.model.Model.{Model}
use Rattle.device_model.proofs.TwoDisks.{found_bay, has_disks, no_bay, no_disks, seat_is, seated_here, seated_others, store_fine, store_keeps, store_says, store_whichs, with_store}
use Rattle.device_model.proofs.model.Model.clear_run.Given.{Over}
use Rattle.device_model.proofs.model.Model.clear_run.Goals as goal
use Rattle.device_model.proofs.model.Model.clear_run.Goals.{then-count-on_disk, else-count-on_disk, then-place-ge-PORTS-via-then-place-ge-PORTS, then-place-ge-PORTS-via-else-place-ge-PORTS+then-not-has_disks}

-- there is no such port, or it has no disks
pub returns-then-place-ge-PORTS-clause-answers : goal.returns-then-place-ge-PORTS-clause-answers
returns-then-place-ge-PORTS-clause-answers g c =
    let m = c.args.self.now in
    let o : AllMedia = all_media_at g.S.SectorStore.size g.S.SectorStore.told m in
    let four : length m.hardware.ports ≡ 4 = search rules in
    left_same g.S.SectorStore.size g.S.SectorStore.told g.S.SectorStore.failures _ m
    (λ may.
    elim c.then-place-ge-PORTS.branch [
      | then-place-ge-PORTS-via-then-place-ge-PORTS w ↦
          let past = w.if-place-ge-PORTS.true in
          let at = c.from-place.ensures in
          stopped_past m.hardware o c.args.port.0 (omega (arith, four, past, at)) may.2.works.working.cr_is_set
      | then-place-ge-PORTS-via-else-place-ge-PORTS+then-not-has_disks w ↦
          no_disks g.S.SectorStore.size g.S.SectorStore.told m c.args.port.0
          (no_bay m c.from-place.result c.args.port.0 _ c.from-place.ensures w.as_slice.ensures.value (sym w.has_disks.ensures.disks ∙ w.if-not-has_disks.true)) may.2.has_disks
    ])

-- there is none that is possible
pub returns-in_default-clause-answers : goal.returns-in_default-clause-answers
returns-in_default-clause-answers g c =
    let m = c.args.self.now in
    let o : AllMedia = all_media_at g.S.SectorStore.size g.S.SectorStore.told m in
    let starved = c.reserve-room.ensures.starved in
    record {
      device_is_kept = c.reserve-room.ensures.device_is_kept o;
      held_ports_are = refl;
      page_source_is = refl;
      disk_index_is = refl;
      other_bays_are_kept = λ _ _. refl;
      step_keeps = record { identities_are_kept = λ _ _. refl; disks_not_last_in_are_kept = λ _ _ _. refl; cache_modes_are_kept = λ _. refl; queue_is_kept = refl; access_count_is_kept = refl };
      disks_are_kept = λ _. refl;
      possible_step_lacks_memory = λ served may.
          absurd (
          let found = clear_fits c.reserve-room.new.self o _ c.args.port.0 c.args.slot.0 c.args.most may.1 (c.reserve-room.ensures.device_is_kept o) may.2 in
          c.run_to_clear.ensures.none c.in_default.is found.0 found.1 found.2);
      stays_starved = λ yes. starved ∙ yes;
      starves_for_want = λ yes. inl (sym starved ∙ yes);
    }

-- the tape had no memory for it, and that is told
pub returns-then-not-room-clause-answers : goal.returns-then-not-room-clause-answers
returns-then-not-room-clause-answers g c =
    let m = c.args.self.now in
    let o : AllMedia = all_media_at g.S.SectorStore.size g.S.SectorStore.told m in
    let found = c.in-Some.ensures.found in
    let bay = found_bay m c.from-place.result c.args.port.0 _ c.from-place.ensures c.as_slice.ensures.value (sym c.has_disks.ensures.disks ∙ c.if-not-has_disks.false) in
    let has = found_clear c.reserve-room.new.self o _ c.args.port.0 c.args.slot.0 c.args.most c.in-Some.run' found.0
    (has_disks g.S.SectorStore.size g.S.SectorStore.told m c.args.port.0 bay.0 bay.1) (c.reserve-room.ensures.device_is_kept o) found.1 in
    let lacks : LacksMemory (asked.Clear c.args.port c.args.slot c.args.most) (device_at g.S.SectorStore.size g.S.SectorStore.told m) m.hardware m.bays.items =
    (taken_of found.0, has, λ room _. true-false (c.reserve-room.ensures.enough room) c.if-not-room.true) in
    record {
      device_is_kept = c.reserve-room.ensures.device_is_kept o;
      held_ports_are = refl;
      page_source_is = refl;
      disk_index_is = refl;
      other_bays_are_kept = λ _ _. refl;
      step_keeps = record { identities_are_kept = λ _ _. refl; disks_not_last_in_are_kept = λ _ _ _. refl; cache_modes_are_kept = λ _. refl; queue_is_kept = refl; access_count_is_kept = refl };
      disks_are_kept = λ _. refl;
      possible_step_lacks_memory = λ _ _. (lacks, refl);
      stays_starved = λ _. refl;
      starves_for_want = λ _. inr ((c.requires, taken_of found.0, has), lacks);
    }

pub note_clear-requires-clause-slot_has_command : goal.note_clear-requires-clause-slot_has_command
note_clear-requires-clause-slot_has_command g c =
    let found = c.in-Some.ensures.found in
    let fits = found.1.cleared_fits in
    let few = c.clear-count.ensures.zero.count_is_allowed in
    let cut = c.cut-on_disk.ensures.count in
    (found.0, found.1.works_on, omega (arith, fits, few, cut))

pub note_clear-requires-clause-room : goal.note_clear-requires-clause-room
note_clear-requires-clause-room g c = let room = c.reserve-room.ensures.room c.if-not-room.false in omega (arith, room)

-- ---- some of the run is cleared, all of it, or none

whole_was : (g : Over) (c : goal.Then-count-run g) → bay_of c.args.self.now c.args.port.0 ≡ Some c.in-Some-index_mut.bay
whole_was g c =
    seat_is c.args.self.now c.from-place.result c.args.port.0 c.index_mut.result.now c.in-Some-index_mut.bay c.from-place.ensures
    (let there = c.has_disks.ensures.there c.if-not-has_disks.false in let long = ap length c.as_slice.ensures.value in omega (arith, there, long))
    c.index_mut.ensures.value c.in-Some-index_mut.is

-- what the store made of it, with the bay as it was, but that its cache has grown
whole_rest : (g : Over) (c : goal.Then-count-run g) → c.clear-count.new.self ≡ with_store c.in-Some-index_mut.bay c.clear-count.new.self.disk.store c.clear-count.new.self.cache
whole_rest g c =
    c.clear-count.ensures.rest ∙ ap (λ (x : Bay g.row.S.Denot). with_store x c.clear-count.new.self.disk.store c.clear-count.new.self.cache) c.reserve.ensures.rest

whole_store : (g : Over) (c : goal.Then-count-run g) → c.reserve.new.self.disk.store ≡ c.in-Some-index_mut.bay.disk.store
whole_store g c = ap (λ (x : Bay g.row.S.Denot). x.disk.store) c.reserve.ensures.rest

whole_lasts : (g : Over) (c : goal.Then-count-run g) → lasting_of g.S.SectorStore.told c.clear-count.new.self ≡ lasting_of g.S.SectorStore.told c.in-Some-index_mut.bay
whole_lasts g c =
    c.clear-count.ensures.lasting
    ∙ (ap (lasting_of g.S.SectorStore.told) c.reserve.ensures.rest ∙ grown_lasts g.S.SectorStore.told c.in-Some-index_mut.bay c.reserve.new.self.cache c.reserve.ensures.old_sectors_are_kept)

whole_cached : (g : Over) (c : goal.Then-count-run g) → c.clear-count.new.self.cache.is_on ≡ c.in-Some-index_mut.bay.cache.is_on
whole_cached g c = c.clear-count.ensures.zero.cache_mode_is_kept ∙ c.reserve.ensures.old_sectors_are_kept.cache_mode_is_kept

whole_disk : (g : Over) (c : goal.Then-count-run g) →
    disk_over c.in-Some-index_mut.bay.which (g.S.SectorStore.size c.clear-count.new.self.disk.store) (g.S.SectorStore.told c.clear-count.new.self.disk.store)
    ≡ disk_cleared (disk_over c.in-Some-index_mut.bay.which (g.S.SectorStore.size c.in-Some-index_mut.bay.disk.store) (g.S.SectorStore.told c.in-Some-index_mut.bay.disk.store))
    c.cut-on_disk.result.first c.clear-count.result
whole_disk g c =
    let P : Bay g.row.S.Denot → Type 0 = λ x. disk_over x.which (g.S.SectorStore.size c.clear-count.new.self.disk.store) (g.S.SectorStore.told c.clear-count.new.self.disk.store)
    ≡ disk_cleared (disk_over x.which (g.S.SectorStore.size x.disk.store) (g.S.SectorStore.told x.disk.store)) c.cut-on_disk.result.first c.clear-count.result in
    subst P c.reserve.ensures.rest c.clear-count.ensures.zero.disk_is

abbrev whole_mid : (g : Over) (c : goal.Then-count-run g) → Model g.row.S.Denot
whole_mid g c = record c.args.self.now { hardware = c.note_clear.new.self; bays = with_item c.args.self.now.bays c.from-place.result (Some c.clear-count.new.self) }

whole_items : (g : Over) (c : goal.Then-count-run g) → (whole_mid g c).bays.items ≡ slice_set c.args.self.now.bays.items c.args.port.0 (Some c.clear-count.new.self)
whole_items g c = ap (λ k. slice_set c.args.self.now.bays.items k (Some c.clear-count.new.self)) c.from-place.ensures

whole_can : (g : Over) (c : goal.Then-count-run g) →
    HasClear (device_at g.S.SectorStore.size g.S.SectorStore.told c.args.self.now) c.args.port.0 c.args.slot.0 c.args.most (taken_of c.in-Some.ensures.found.0)
whole_can g c =
    let m = c.args.self.now in
    let o : AllMedia = all_media_at g.S.SectorStore.size g.S.SectorStore.told m in
    let found = c.in-Some.ensures.found in
    found_clear c.reserve-room.new.self o _ c.args.port.0 c.args.slot.0 c.args.most c.in-Some.run' found.0
    (has_disks g.S.SectorStore.size g.S.SectorStore.told m c.args.port.0 c.in-Some-index_mut.bay (whole_was g c)) (c.reserve-room.ensures.device_is_kept o) found.1

whole_part : (g : Over) (c : goal.Then-count-run g) →
    IsPart g.S.SectorStore.size g.S.SectorStore.told c.args.port c.args.slot c.args.most c.in-Some.run'.first c.clear-count.result
    (taken_of c.in-Some.ensures.found.0) c.args.self.now (whole_mid g c)
whole_part g c =
    let found = c.in-Some.ensures.found in
    let cut = c.cut-on_disk.ensures in
    let zeros = c.clear-count.ensures.zero in
    cut_part g.S.SectorStore.size g.S.SectorStore.told g.S.SectorStore.failures c.args.port c.args.slot c.args.most c.args.self.now (whole_mid g c)
    c.in-Some-index_mut.bay c.clear-count.new.self (whole_was g c) (whole_items g c) (whole_rest g c) (whole_lasts g c) c.reserve-room.new.self
    c.in-Some.run'.first c.clear-count.result found.0 c.reserve-room.ensures.device_is_kept
    c.in-Some.run' c.cut-on_disk.result c.sectors.result refl found.1 c.sectors.ensures cut.inside cut.count cut.first zeros.count_is_allowed (whole_disk g c) (λ none. zeros.no_clear_keeps_sectors none ∙ ap g.S.SectorStore.told (whole_store g c)) (zeros.size_is_kept ∙ ap g.S.SectorStore.size (whole_store g c))
    c.note_clear.ensures.none_changes_nothing (λ some o. c.note_clear.ensures.cleared some o found.0 found.1.works_on)

-- all of it is
all : (g : Over) (c : goal.Then-count-run g) →
    HasCleared (device_at g.S.SectorStore.size g.S.SectorStore.told c.args.self.now) (device_at g.S.SectorStore.size g.S.SectorStore.told (whole_mid g c))
    c.args.port.0 c.args.slot.0 c.args.most
    × Completes g.S.SectorStore.size g.S.SectorStore.told g.S.SectorStore.failures (asked.Clear c.args.port c.args.slot c.args.most) c.args.self.now (whole_mid g c)
all g c =
    let m = c.args.self.now in
    let a = c.in-Some-index_mut.bay in
    let b = c.clear-count.new.self in
    let found = c.in-Some.ensures.found in
    let p = whole_part g c in
    let able = whole_can g c in
    let whole : c.in-Some.run'.count ≡ next_run_length c.args.most (taken_of found.0) = found.1.count_is in
    let same = c.if-count-run.true in
    let some : (1 ≤ c.clear-count.result) ⊎ (c.args.most ≡ 0) = elim (cases_lt 0 c.args.most) [
      | inl asked ↦ let one = span_some c.args.most (taken_of found.0) (omega (arith, asked)) able.enough_are_left in inl (omega (arith, one, whole, same))
      | inr none ↦ inr (omega (arith, none))
    ] in
    let few = c.clear-count.ensures.zero.count_is_allowed in
    let cut = c.cut-on_disk.ensures.count in
    let cleared = p.all some (omega (arith, whole, same)) in (
      cleared,
      record {
        does_asked_step = p.whole some;
        no_call_failed = λ _. store_fine m (whole_mid g c) c.args.port.0 a b (whole_was g c) (whole_items g c) (whole_rest g c) g.S.SectorStore.failures
            (c.clear-count.ensures.zero.no_call_failed (omega (arith, few, cut, same)) ∙ ap g.S.SectorStore.failures (whole_store g c));
        page_source_is = store_says m (whole_mid g c) c.args.port.0 a b (whole_was g c) (whole_items g c) (whole_rest g c) c.args.port.0;
        clear_and_finish_do_all_below_4_gib = λ _. cleared;
        lose_plug_loses_cache = λ yes. true-false yes refl;
      },
    )

pub returns-then-count-run-clause-whole : goal.returns-then-count-run-clause-whole
returns-then-count-run-clause-whole g c = λ _. all g c

pub returns-then-count-run-clause-answers : goal.returns-then-count-run-clause-answers
returns-then-count-run-clause-answers g c =
    let m = c.args.self.now in
    let a = c.in-Some-index_mut.bay in
    let b = c.clear-count.new.self in
    let found = c.in-Some.ensures.found in (
      (c.requires, taken_of found.0, whole_can g c),
      record {
        completes_or_fails = inl (all g c).1;
        held_ports_are = refl;
        disk_index_is = store_whichs m (whole_mid g c) c.args.port.0 a b (whole_was g c) (whole_items g c) (whole_rest g c) c.args.port.0;
        other_bays_are_kept = seated_others m (whole_mid g c) c.args.port.0 a b (whole_was g c) (whole_items g c);
        gains_own_pages = (whole_part g c).gains_own_pages;
        disks_are_kept = λ none. absurd (none (c.requires, taken_of found.0, whole_can g c));
        step_keeps = store_keeps m (whole_mid g c) c.args.port.0 a b (whole_was g c) (whole_items g c) (whole_rest g c) g.S.SectorStore.size (c.clear-count.ensures.zero.size_is_kept ∙ ap g.S.SectorStore.size (whole_store g c)) (whole_cached g c) refl refl;
        starved_is_kept = c.note_clear.ensures.starved ∙ c.reserve-room.ensures.starved;
      },
    )

pub returns-then-count-run-clause-left : goal.returns-then-count-run-clause-left
returns-then-count-run-clause-left g c = λ _ n room. c.note_clear.ensures.room_is_left n (c.reserve-room.ensures.room_is_kept (n + 1) room)

-- ---- the command fails on the next one

was : (g : Over) (c : goal.After-fail-failed g) → bay_of c.args.self.now c.args.port.0 ≡ Some c.in-Some-index_mut.bay
was g c =
    seat_is c.args.self.now c.from-place.result c.args.port.0 c.index_mut.result.now c.in-Some-index_mut.bay c.from-place.ensures
    (let there = c.has_disks.ensures.there c.if-not-has_disks.false in let long = ap length c.as_slice.ensures.value in omega (arith, there, long))
    c.index_mut.ensures.value c.in-Some-index_mut.is

-- what the store made of it, with the bay as it was, but that its cache has grown
then_rest : (g : Over) (c : goal.After-fail-failed g) → c.clear-count.new.self ≡ with_store c.in-Some-index_mut.bay c.clear-count.new.self.disk.store c.clear-count.new.self.cache
then_rest g c =
    c.clear-count.ensures.rest ∙ ap (λ (x : Bay g.row.S.Denot). with_store x c.clear-count.new.self.disk.store c.clear-count.new.self.cache) c.reserve.ensures.rest

then_store : (g : Over) (c : goal.After-fail-failed g) → c.reserve.new.self.disk.store ≡ c.in-Some-index_mut.bay.disk.store
then_store g c = ap (λ (x : Bay g.row.S.Denot). x.disk.store) c.reserve.ensures.rest

then_lasts : (g : Over) (c : goal.After-fail-failed g) → lasting_of g.S.SectorStore.told c.clear-count.new.self ≡ lasting_of g.S.SectorStore.told c.in-Some-index_mut.bay
then_lasts g c =
    c.clear-count.ensures.lasting
    ∙ (ap (lasting_of g.S.SectorStore.told) c.reserve.ensures.rest ∙ grown_lasts g.S.SectorStore.told c.in-Some-index_mut.bay c.reserve.new.self.cache c.reserve.ensures.old_sectors_are_kept)

then_cached : (g : Over) (c : goal.After-fail-failed g) → c.clear-count.new.self.cache.is_on ≡ c.in-Some-index_mut.bay.cache.is_on
then_cached g c = c.clear-count.ensures.zero.cache_mode_is_kept ∙ c.reserve.ensures.old_sectors_are_kept.cache_mode_is_kept

then_disk : (g : Over) (c : goal.After-fail-failed g) →
    disk_over c.in-Some-index_mut.bay.which (g.S.SectorStore.size c.clear-count.new.self.disk.store) (g.S.SectorStore.told c.clear-count.new.self.disk.store)
    ≡ disk_cleared (disk_over c.in-Some-index_mut.bay.which (g.S.SectorStore.size c.in-Some-index_mut.bay.disk.store) (g.S.SectorStore.told c.in-Some-index_mut.bay.disk.store))
    c.cut-on_disk.result.first c.clear-count.result
then_disk g c =
    let P : Bay g.row.S.Denot → Type 0 = λ x. disk_over x.which (g.S.SectorStore.size c.clear-count.new.self.disk.store) (g.S.SectorStore.told c.clear-count.new.self.disk.store)
    ≡ disk_cleared (disk_over x.which (g.S.SectorStore.size x.disk.store) (g.S.SectorStore.told x.disk.store)) c.cut-on_disk.result.first c.clear-count.result in
    subst P c.reserve.ensures.rest c.clear-count.ensures.zero.disk_is

abbrev mid : (g : Over) (c : goal.After-fail-failed g) → Model g.row.S.Denot
mid g c = record c.args.self.now { hardware = c.note_clear.new.self; bays = with_item c.args.self.now.bays c.from-place.result (Some c.clear-count.new.self) }

items : (g : Over) (c : goal.After-fail-failed g) → (mid g c).bays.items ≡ slice_set c.args.self.now.bays.items c.args.port.0 (Some c.clear-count.new.self)
items g c = ap (λ k. slice_set c.args.self.now.bays.items k (Some c.clear-count.new.self)) c.from-place.ensures

can : (g : Over) (c : goal.After-fail-failed g) →
    HasClear (device_at g.S.SectorStore.size g.S.SectorStore.told c.args.self.now) c.args.port.0 c.args.slot.0 c.args.most (taken_of c.in-Some.ensures.found.0)
can g c =
    let m = c.args.self.now in
    let o : AllMedia = all_media_at g.S.SectorStore.size g.S.SectorStore.told m in
    let found = c.in-Some.ensures.found in
    found_clear c.reserve-room.new.self o _ c.args.port.0 c.args.slot.0 c.args.most c.in-Some.run' found.0
    (has_disks g.S.SectorStore.size g.S.SectorStore.told m c.args.port.0 c.in-Some-index_mut.bay (was g c)) (c.reserve-room.ensures.device_is_kept o) found.1

part : (g : Over) (c : goal.After-fail-failed g) →
    IsPart g.S.SectorStore.size g.S.SectorStore.told c.args.port c.args.slot c.args.most c.in-Some.run'.first c.clear-count.result
    (taken_of c.in-Some.ensures.found.0) c.args.self.now (mid g c)
part g c =
    let found = c.in-Some.ensures.found in
    let cut = c.cut-on_disk.ensures in
    let zeros = c.clear-count.ensures.zero in
    cut_part g.S.SectorStore.size g.S.SectorStore.told g.S.SectorStore.failures c.args.port c.args.slot c.args.most c.args.self.now (mid g c)
    c.in-Some-index_mut.bay c.clear-count.new.self (was g c) (items g c) (then_rest g c) (then_lasts g c) c.reserve-room.new.self
    c.in-Some.run'.first c.clear-count.result found.0 c.reserve-room.ensures.device_is_kept
    c.in-Some.run' c.cut-on_disk.result c.sectors.result refl found.1 c.sectors.ensures cut.inside cut.count cut.first zeros.count_is_allowed (then_disk g c) (λ none. zeros.no_clear_keeps_sectors none ∙ ap g.S.SectorStore.told (then_store g c)) (zeros.size_is_kept ∙ ap g.S.SectorStore.size (then_store g c))
    c.note_clear.ensures.none_changes_nothing (λ some o. c.note_clear.ensures.cleared some o found.0 found.1.works_on)

fewer : (g : Over) (c : goal.After-fail-failed g) → c.clear-count.result < next_run_length c.args.most (taken_of c.in-Some.ensures.found.0)
fewer g c =
    let whole : c.in-Some.run'.count ≡ next_run_length c.args.most (taken_of c.in-Some.ensures.found.0) = c.in-Some.ensures.found.1.count_is in
    let few = c.clear-count.ensures.zero.count_is_allowed in
    let cut = c.cut-on_disk.ensures.count in
    let other = c.if-count-run.false in
    omega (arith, whole, few, cut, other)

-- with this error
cause : (g : Over) (c : goal.After-fail-failed g) →
    SectorIsPastDiskOrStoreFails c.in-Some-index_mut.bay.cache.is_on true (c.in-Some.run'.first + c.clear-count.result) (g.S.SectorStore.size c.in-Some-index_mut.bay.disk.store) c.if-count-on_disk.error
    (g.S.SectorStore.failures c.in-Some-index_mut.bay.disk.store) (g.S.SectorStore.failures c.clear-count.new.self.disk.store) × (c.if-count-on_disk.error < 256)
cause g c =
    let a = c.in-Some-index_mut.bay in
    let run = c.in-Some.run' in
    let on = c.cut-on_disk.result in
    let count = c.clear-count.result in
    let few = c.clear-count.ensures.zero.count_is_allowed in
    let cut = c.cut-on_disk.ensures.count in
    let inside = c.cut-on_disk.ensures.inside in
    let size = c.sectors.ensures in
    let other = c.if-count-run.false in
    elim c.if-count-on_disk.branch [
      | then-count-on_disk w ↦
          let less = w.if-count-on_disk.true in
          let first : on.first ≡ run.first = c.cut-on_disk.ensures.first (omega (arith, less)) in
          let error = w.error-is in
          let Q : ℕ → Type 0 = λ k. OneMoreCallFails a.cache.is_on true k (g.S.SectorStore.failures a.disk.store) (g.S.SectorStore.failures c.clear-count.new.self.disk.store) in
          let V : Bool → Type 0 = λ x. OneMoreCallFails x true (on.first + count) (g.S.SectorStore.failures c.reserve.new.self.disk.store) (g.S.SectorStore.failures c.clear-count.new.self.disk.store) in
          let W : g.row.S.Denot → Type 0 = λ x. OneMoreCallFails a.cache.is_on true (on.first + count) (g.S.SectorStore.failures x) (g.S.SectorStore.failures c.clear-count.new.self.disk.store) in
          let sector : on.first + count ≡ run.first + count = omega (arith, first) in
          (inr (omega (arith, less, first, inside, size), error, subst Q sector (subst W (then_store g c) (subst V c.reserve.ensures.old_sectors_are_kept.cache_mode_is_kept (c.clear-count.ensures.zero.failure_is_noted less)))), omega (arith, error))
      | else-count-on_disk w ↦
          let most = w.if-count-on_disk.false in
          let error = w.error-is in
          (inl (omega (arith, few, cut, most, other, size), error, c.clear-count.ensures.zero.no_call_failed (omega (arith, few, most)) ∙ ap g.S.SectorStore.failures (then_store g c)), omega (arith, error))
    ]

failed : (g : Over) (c : goal.After-fail-failed g) →
    IsFailed g.S.SectorStore.size g.S.SectorStore.told g.S.SectorStore.failures c.args.port c.args.slot c.if-count-on_disk.error
    (record (taken_of c.in-Some.ensures.found.0) { cleared = c.in-Some.ensures.found.0.cleared + c.clear-count.result })
    (mid g c) c.fail-failed.new.self
failed g c =
    let more = (part g c).more (fewer g c) in
    let small = c.if-place-ge-PORTS.false in
    let at = c.from-place.ensures in
    is_failed g.S.SectorStore.size g.S.SectorStore.told g.S.SectorStore.failures c.args.port c.args.slot c.if-count-on_disk.error
    (record (taken_of c.in-Some.ensures.found.0) { cleared = c.in-Some.ensures.found.0.cleared + c.clear-count.result }) c.fail-failed.result
    (mid g c) c.fail-failed.new.self c.fail-failed.ensures (omega (arith, small, at)) c.requires
    (record { taken = more.works.taken; cr_is_set = more.works.working.cr_is_set; is_byte = (cause g c).1; kept_bits_are_allowed = refl })
    (c.note_clear.ensures.room_is_left 1 (c.reserve-room.ensures.room c.if-not-room.false))

has_failed : (g : Over) (c : goal.After-fail-failed g) →
    CommandOfStepFails g.S.SectorStore.size g.S.SectorStore.told g.S.SectorStore.failures (asked.Clear c.args.port c.args.slot c.args.most) c.args.self.now c.fail-failed.new.self
has_failed g c =
    let found = c.in-Some.ensures.found in
    let f = failed g c in
    part_fails g.S.SectorStore.size g.S.SectorStore.told g.S.SectorStore.failures c.args.port c.args.slot c.args.most c.args.self.now (mid g c)
    c.in-Some-index_mut.bay c.clear-count.new.self (was g c) (items g c) (then_rest g c) (then_lasts g c) c.reserve-room.new.self
    c.in-Some.run'.first c.clear-count.result found.0 c.reserve-room.ensures.device_is_kept c.requires (can g c) (part g c)
    (fewer g c) c.if-count-on_disk.error c.fail-failed.new.self
    (fine_on g.S.SectorStore.size g.S.SectorStore.told g.S.SectorStore.failures c.args.port c.args.slot c.if-count-on_disk.error _ _ _ f
    ∙ ap (bay_failures g.S.SectorStore.failures) (seated_here c.args.self.now (mid g c) c.args.port.0 c.in-Some-index_mut.bay c.clear-count.new.self (was g c) (items g c)))
    (cause g c).0 found.1.first_is f

pub returns-clause-failed : goal.returns-clause-failed
returns-clause-failed g c = λ _. has_failed g c

pub returns-clause-answers : goal.returns-clause-answers
returns-clause-answers g c =
    let m = c.args.self.now in
    let a = c.in-Some-index_mut.bay in
    let b = c.clear-count.new.self in
    let found = c.in-Some.ensures.found in (
      (c.requires, taken_of found.0, can g c),
      did_fail g.S.SectorStore.size g.S.SectorStore.told g.S.SectorStore.failures c.args.port c.args.slot c.if-count-on_disk.error _ m
          (mid g c) c.fail-failed.new.self (failed g c)
          (asked.Clear c.args.port c.args.slot c.args.most) refl (has_failed g c) refl refl refl
          (store_says m (mid g c) c.args.port.0 a b (was g c) (items g c) (then_rest g c) c.args.port.0)
          (store_whichs m (mid g c) c.args.port.0 a b (was g c) (items g c) (then_rest g c) c.args.port.0)
          (seated_others m (mid g c) c.args.port.0 a b (was g c) (items g c)) (part g c).gains_own_pages
          (store_keeps m (mid g c) c.args.port.0 a b (was g c) (items g c) (then_rest g c) g.S.SectorStore.size (c.clear-count.ensures.zero.size_is_kept ∙ ap g.S.SectorStore.size (then_store g c)) (then_cached g c) refl refl)
          (c.note_clear.ensures.starved ∙ c.reserve-room.ensures.starved) (c.requires, taken_of found.0, can g c),
    )

-- ---- the cache had no memory for what the sectors hold, and that is told

pub clear-count-requires-clause-inside : goal.clear-count-requires-clause-inside
clear-count-requires-clause-inside g c =
    let inside = c.cut-on_disk.ensures.inside in
    let size = c.sectors.ensures in
    let same : g.S.SectorStore.size c.reserve.new.self.disk.store ≡ g.S.SectorStore.size c.in-Some-index_mut.bay.disk.store =
    ap (λ (x : Bay g.row.S.Denot). g.S.SectorStore.size x.disk.store) c.reserve.ensures.rest in
    omega (arith, inside, size, same)

pub clear-count-requires-clause-room : goal.clear-count-requires-clause-room
clear-count-requires-clause-room g c = c.reserve.ensures.room c.if-not-reserve.false

pub returns-then-not-reserve-clause-answers : goal.returns-then-not-reserve-clause-answers
returns-then-not-reserve-clause-answers g c =
    let m = c.args.self.now in
    let a = c.in-Some-index_mut.bay in
    let o : AllMedia = all_media_at g.S.SectorStore.size g.S.SectorStore.told m in
    let found = c.in-Some.ensures.found in
    let t = taken_of found.0 in
    let push_bay = seat_is m c.from-place.result c.args.port.0 c.index_mut.result.now a c.from-place.ensures
    (let there = c.has_disks.ensures.there c.if-not-has_disks.false in let long = ap length c.as_slice.ensures.value in omega (arith, there, long))
    c.index_mut.ensures.value c.in-Some-index_mut.is in
    let has = found_clear c.reserve-room.new.self o _ c.args.port.0 c.args.slot.0 c.args.most c.in-Some.run' found.0
    (has_disks g.S.SectorStore.size g.S.SectorStore.told m c.args.port.0 a push_bay) (c.reserve-room.ensures.device_is_kept o) found.1 in
    let size : ((device_at g.S.SectorStore.size g.S.SectorStore.told m).port c.args.port.0).disk.sector_count ≡ c.sectors.result =
    ap (λ x. (media_of g.S.SectorStore.size g.S.SectorStore.told x).disk.sector_count) push_bay ∙ sym c.sectors.ensures in
    let cut : c.cut-on_disk.result.count ≡ min c.in-Some.run'.count (c.sectors.result - c.in-Some.run'.first) = c.cut-on_disk.ensures.count in
    let whole : c.in-Some.run'.count ≡ next_run_length c.args.most t = found.1.count_is in
    let start : c.in-Some.run'.first ≡ next_uncleared t = found.1.first_is in
    let here : cleared_count_on_disk ((device_at g.S.SectorStore.size g.S.SectorStore.told m).port c.args.port.0).disk.sector_count c.args.most t ≡ c.cut-on_disk.result.count =
    sym (cut ∙ (λ i. min (whole i) (sym size i - start i))) in
    let lacks : LacksMemory (asked.Clear c.args.port c.args.slot c.args.most) (device_at g.S.SectorStore.size g.S.SectorStore.told m) m.hardware m.bays.items =
    (t, has, λ _ old. c.reserve.ensures.lacked c.if-not-reserve.true (subst (HasRoomForOldSectors a.cache) here (room_here m c.args.port.0 _ a push_bay old))) in
    grown_left g.S.SectorStore.size g.S.SectorStore.told g.S.SectorStore.failures m _ c.args.port.0 a c.reserve.new.self.cache push_bay
    (ap (λ k. slice_set m.bays.items k (Some c.reserve.new.self)) c.from-place.ensures ∙ ap (λ (x : Bay g.row.S.Denot). slice_set m.bays.items c.args.port.0 (Some x)) c.reserve.ensures.rest)
    c.reserve.ensures.old_sectors_are_kept (asked.Clear c.args.port c.args.slot c.args.most) refl (c.reserve-room.ensures.device_is_kept o) refl refl refl (λ _ _. (lacks, refl)) (λ _. refl)
    (λ _. inr ((c.requires, t, has), lacks))

-- ---- old bytes for which there is still room

pub returns-then-count-run-clause-old_room : goal.returns-then-count-run-clause-old_room
returns-then-count-run-clause-old_room g c = λ _ t taken n room.
    let m = c.args.self.now in
    let a = c.in-Some-index_mut.bay in
    let found = c.in-Some.ensures.found in
    let able = whole_can g c in
    let one : t ≡ taken_of found.0 = some_one (sym taken ∙ able.works.taken) in
    let whole : c.in-Some.run'.count ≡ next_run_length c.args.most t = found.1.count_is ∙ ap (next_run_length c.args.most) (sym one) in
    let few = c.clear-count.ensures.zero.count_is_allowed in
    let cut = c.cut-on_disk.ensures.count in
    let same = c.if-count-run.true in
    room_there (whole_mid g c) c.args.port.0 n c.clear-count.new.self (seated_here m (whole_mid g c) c.args.port.0 a c.clear-count.new.self (whole_was g c) (whole_items g c))
    (c.clear-count.ensures.zero.cache_has_room n
    (c.reserve.ensures.room_is_kept (c.cut-on_disk.result.count + n)
    (less_room a.cache (next_run_length c.args.most t + n) (c.cut-on_disk.result.count + n) (omega (arith, whole, cut, few, same)) (room_here m c.args.port.0 (next_run_length c.args.most t + n) a (whole_was g c) room))))
