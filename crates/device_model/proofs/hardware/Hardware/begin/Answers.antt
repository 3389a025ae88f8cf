use Rattle.std.proofs.Common.{ℕ, false, ◌≡◌, ◌≤◌, ◌+◌, ◌∙◌, List, inl, inr, refl, sym, ap, subst, arith, slice_index_or}
use Rattle.std.specs.Vec.{vec_len, vec_capacity}
use Rattle.adapter.specs.declared.tape.Entry.{Entry}
use Rattle.device_model.proofs.Absurd.{none_and, some_and, some_one, true-false}
use Rattle.device_model.specs.WriteCaches.{HasRoomForOldSectors}
use Rattle.device_model.specs.FetchedBytes.{bytes_of}
use Rattle.device_model.specs.Finishing.{MayFinish}
use Rattle.device_model.specs.Slots.{IsFetchableIfHaltAdmits, WorksOnIn}
use Rattle.device_model.specs.Trims.{sectors_left_to_change}
use Rattle.device_model.specs.PortView.{reset_port_without_disk, taken_of}
use Rattle.device_model.specs.WholeAdapter.{AllMedia, device_of}
use Rattle.device_model.specs.declared.cache.Cache.{Cache}
use Rattle.device_model.specs.declared.hardware.Hardware.{Hardware}
use Rattle.device_model.proofs.Finishing.{fetched_goes}
use Rattle.device_model.proofs.Ready.{ahead_is, ahead_of, ready_held, ready_to_go, ready_is_held}
use Rattle.device_model.proofs.Stepping.{fetch_takes}
use Rattle.device_model.proofs.hardware.Hardware.begin.Goals as goal

pub begin_decoded-requires-clause-may : goal.begin_decoded-requires-clause-may
begin_decoded-requires-clause-may c =
    let P : ℕ → Type 0 = λ q. IsFetchableIfHaltAdmits (slice_index_or c.args.self.now.ports q reset_port_without_disk) c.args.slot in
    subst P c.from-place.ensures (c.is_fetchable_if_halt_admits.ensures.may c.if-is_fetchable_if_halt_admits.true)

pub returns-in_err-remaining-clause-is_unbegun : goal.returns-in_err-remaining-clause-is_unbegun
returns-in_err-remaining-clause-is_unbegun c = λ _.
    inl (
      λ o left clears ready.
          let w = ready_held c.args.self.now o c.from-place.result c.args.port c.args.slot left clears c.from-place.ensures ready
          (c.is_fetchable_if_halt_admits.ensures.complete c.if-is_fetchable_if_halt_admits.false) in
          let P : ℕ → Type 0 = λ q. WorksOnIn (slice_index_or c.args.self.now.ports q reset_port_without_disk) c.args.slot w.0 in
          let rest = ready_is_held c.args.self.now c.from-place.result c.args.port c.args.slot w.0 c.from-place.ensures w.1
          (c.is_fetchable_if_halt_admits.ensures.complete c.if-is_fetchable_if_halt_admits.false) o left clears ready in
          none_and _ _ (c.remaining_at.ensures.only w.0 left clears (subst P c.from-place.ensures w.1) rest) c.in_err-remaining.was,
      refl,
    )

pub returns-then-not-reserve_all-clause-is_unbegun : goal.returns-then-not-reserve_all-clause-is_unbegun
returns-then-not-reserve_all-clause-is_unbegun c = λ _.
    -- the command that is ready is the one that is held, and so much is left of it
    let ready_one : (o : AllMedia) (n m : ℕ) (may : MayFinish (device_of c.args.self.now o) c.args.port c.args.slot n m) (cache : Cache) → (c.in_ok-remaining.remaining.moves ≡ n) × (c.in_ok-remaining.remaining.clears ≡ m) × (HasRoomForOldSectors cache (sectors_left_to_change may.fetched_command.meaning.operation (bytes_of c.args.self.now.memory.items) may.fetched_command n) → HasRoomForOldSectors cache c.reservations_of.result.old_sectors) =
    λ o n m may cache.
    let h = c.args.self.now in
    let rest = c.in_ok-remaining.remaining in
    let found = c.in_ok-remaining.ensures.found in
    let never = c.is_fetchable_if_halt_admits.ensures.complete c.if-is_fetchable_if_halt_admits.false in
    let P : ℕ → Type 0 = λ q. WorksOnIn (slice_index_or h.ports q reset_port_without_disk) c.args.slot found.0 in
    let held = subst P (sym c.from-place.ensures) found.1 in
    let one = some_and _ _ rest (c.remaining_at.ensures.only found.0 n m found.1 (ready_is_held h c.from-place.result c.args.port c.args.slot found.0 c.from-place.ensures held never o n m may)) c.in_ok-remaining.was in
    let w = ready_held h o c.from-place.result c.args.port c.args.slot n m c.from-place.ensures may never in
    let same : may.fetched_command ≡ taken_of found.0 = w.2 ∙ ap taken_of (some_one (sym w.1.is_taken ∙ held.is_taken)) in (
      one.0,
      one.1,
      ahead_is h o cache c.args.port c.args.slot rest.moves c.reservations_of.result.old_sectors n m found.0 may same one.0
          (c.reservations_of.ensures.old_sectors ∙ c.in_ok-remaining.ensures.changes found.0 found.1),
    ) in
    let h = c.args.self.now in
    let rest = c.in_ok-remaining.remaining in
    let found = c.in_ok-remaining.ensures.found in
    let P : ℕ → Type 0 = λ q. WorksOnIn (slice_index_or h.ports q reset_port_without_disk) c.args.slot found.0 in
    let held = subst P (sym c.from-place.ensures) found.1 in
    let entries = c.reservations_of.ensures.entries in
    inr (record {
      moves_left = rest.moves;
      clears_left = rest.clears;
      may_finish = ready_to_go h c.from-place.result c.args.port c.args.slot found.0 c.from-place.ensures rest.moves rest.clears found.2 held;
      room_was_lacking = λ o n m may room old.
          let one = ready_one o n m may c.args.cache.now in
          let left = one.0 in
          let clears = one.1 in
          c.reserve_all.ensures.lacked c.if-not-reserve_all.true (omega (arith, room, left, clears, entries)) (one.2 old);
      room_is_lacking = λ o n m may room old.
          let one = ready_one o n m may c.reserve_all.new.cache in
          let left = one.0 in
          let clears = one.1 in
          c.reserve_all.ensures.lacks c.if-not-reserve_all.true (omega (arith, room, left, clears, entries)) (one.2 old);
      device_is_kept = λ o. ap (λ (items : List Entry). record (device_of h o) { tape = items }) c.reserve_all.ensures.items;
      starved_is_set = refl;
    })

pub returns-clause-ahead : goal.returns-clause-ahead
returns-clause-ahead c = λ o t taken.
    let h = c.args.self.now in
    let found = c.in_ok-remaining.ensures.found in
    let P : ℕ → Type 0 = λ q. WorksOnIn (slice_index_or h.ports q reset_port_without_disk) c.args.slot found.0 in
    let same : taken_of found.0 ≡ t = some_one (sym (found.1.works (o.media c.args.port)).taken ∙ taken) in
    ahead_of c.reserve_all.new.cache (bytes_of h.memory.items) c.in_ok-remaining.remaining.moves c.reservations_of.result.old_sectors found.0 t same
    (c.reservations_of.ensures.old_sectors ∙ c.in_ok-remaining.ensures.changes found.0 found.1) (c.reserve_all.ensures.old_room c.if-not-reserve_all.false)

pub returns-clause-begun : goal.returns-clause-begun
returns-clause-begun c =
    let h = c.args.self.now in
    let rest = c.in_ok-remaining.remaining in
    let found = c.in_ok-remaining.ensures.found in
    let P : ℕ → Type 0 = λ q. WorksOnIn (slice_index_or h.ports q reset_port_without_disk) c.args.slot found.0 in
    let held = subst P (sym c.from-place.ensures) found.1 in
    let new : Hardware = record h { tape = c.reserve_all.new.tape } in
    let room : vec_len c.reserve_all.new.tape + c.reservations_of.result.entries ≤ vec_capacity c.reserve_all.new.tape = c.reserve_all.ensures.room c.if-not-reserve_all.false in
    let entries = c.reservations_of.ensures.entries in
    let ready : (o : AllMedia) → MayFinish (device_of h o) c.args.port c.args.slot rest.moves rest.clears =
    ready_to_go h c.from-place.result c.args.port c.args.slot found.0 c.from-place.ensures rest.moves rest.clears found.2 held in
    let same : (o : AllMedia) → device_of new o ≡ device_of h o = λ o. ap (λ (items : List Entry). record (device_of h o) { tape = items }) c.reserve_all.ensures.items in
    record {
      may_finish = ready;
      is_in_progress = λ o.
          fetched_goes c.args.port c.args.slot rest.moves rest.clears false (device_of h o) (device_of new o) (ready o) (λ never. true-false never refl) (λ _. same o)
          (λ _ m places can.
          c.is_fetchable_if_halt_admits.ensures.complete c.if-is_fetchable_if_halt_admits.false (o.media c.from-place.result) m.operation
          (fetch_takes h o c.from-place.result c.args.port c.args.slot m places c.from-place.ensures can));
      tape_has_room = omega (arith, room, entries);
      newly_taken_is_fetched = λ never. true-false never refl;
      device_is_kept = λ _ o. same o;
      tape_is_kept = c.reserve_all.ensures.items;
      starved_is_kept = refl;
    }
