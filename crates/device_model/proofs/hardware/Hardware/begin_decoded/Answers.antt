use Rattle.std.proofs.Common.{rules, ℕ, ◌≡◌, ◌<◌, ◌≤◌, ◌+◌, ◌∙◌, List, true, inl, inr, refl, sym, ap, subst, arith, length, slice_index_or, slice_set}
use Rattle.std.specs.Vec.{vec_len, vec_capacity}
use Rattle.std.proofs.lemmas.List.{set-get_or}
use Rattle.device_model.specs.declared.port.PortModel.{PortModel}
use Rattle.adapter.specs.AskedSteps.{DoesFetch}
use Rattle.adapter.specs.Device.{Device}
use Rattle.adapter.specs.declared.tape.Entry.{Entry}
use Rattle.device_model.proofs.Absurd.{none_and, some_and, true-false}
use Rattle.adapter.specs.Decoding.{DecodesTo}
use Rattle.device_model.specs.WriteCaches.{HasRoomForOldSectors}
use Rattle.device_model.specs.FetchedBytes.{bytes_of}
use Rattle.device_model.specs.Finishing.{MayFinish}
use Rattle.device_model.specs.Slots.{IsFetchableIfHaltAdmits}
use Rattle.device_model.specs.Trims.{sectors_left_to_change}
use Rattle.device_model.specs.PortView.{reset_port_without_disk, taken_of}
use Rattle.device_model.specs.WholeAdapter.{AllMedia, device_of}
use Rattle.device_model.specs.declared.hardware.Hardware.{Hardware}
use Rattle.device_model.specs.declared.cache.Cache.{Cache}
use Rattle.device_model.proofs.Finishing.{fetched_goes}
use Rattle.device_model.proofs.Ready.{ahead_is, ahead_of, fetched_is, may_be_taken, ready_beside, ready_said, ready_to_take, ready_is_one, ready_is_said}
use Rattle.device_model.proofs.Stepping.{port_takes}
use Rattle.device_model.proofs.SlotLemmas.{at_port}
use Rattle.device_model.proofs.hardware.Hardware.begin_decoded.Goals as goal
use Rattle.device_model.proofs.hardware.Hardware.begin_decoded.Goals.{After-self-2-1}

-- a port that was lent and comes back as it was
ports_same : (h : Hardware) (p : ℕ) (any : PortModel) → record h { ports = slice_set h.ports p (slice_index_or h.ports p any) } ≡ h
ports_same h p any = ap (λ (l : List PortModel). record h { ports = l }) (set-get_or h.ports p any)

pub take-requires-clause-alone : goal.take-requires-clause-alone
take-requires-clause-alone c = λ m.
    let ports = c.args.self.now.ports in
    let small : c.from.result < length ports = search rules in
    rw (at_port ports c.from.result c.index-self-from.result small)
    (rw (at_port ports c.from.result c.index-self-from.result small) at ((c.admits_by_halt_and_taken.ensures.open c.if-not-admits_by_halt_and_taken.false).1 m))

pub returns-in_default-clause-left : goal.returns-in_default-clause-left
returns-in_default-clause-left c = λ _.
    inl (
      λ o left clears ready.
          let P : ℕ → Type 0 = λ q. IsFetchableIfHaltAdmits (slice_index_or c.args.self.now.ports q reset_port_without_disk) c.args.slot in
          let may = subst P (sym c.from.ensures) c.requires.may in
          let says = ready_said c.args.self.now o c.from.result c.args.port c.args.slot left clears c.from.ensures ready may in
          let small : c.from.result < length c.args.self.now.ports = search rules in
          (rw (at_port c.args.self.now.ports c.from.result c.index-self-from.result small) at (c.read.ensures.complete c.in_default.is ready.fetched_command.meaning ready.fetched_command.places))
          (rw (← c.deref.ensures.value) at says),
      ports_same c.args.self.now c.from.result c.index-self-from.result,
    )

pub returns-in_err-remaining-clause-left : goal.returns-in_err-remaining-clause-left
returns-in_err-remaining-clause-left c = λ _.
    inl (
      λ o left clears ready.
          let P : ℕ → Type 0 = λ q. IsFetchableIfHaltAdmits (slice_index_or c.args.self.now.ports q reset_port_without_disk) c.args.slot in
          let may = subst P (sym c.from.ensures) c.requires.may in
          let small : c.from.result < length c.args.self.now.ports = search rules in
          let said = c.in-Some.ensures.found in
          let rest = ready_is_said c.args.self.now c.from.result c.args.port c.args.slot c.in-Some.command.now
          c.from.ensures may said.0 (rw (at_port c.args.self.now.ports c.from.result c.index-self-from.result small) at (rw c.deref.ensures.value at said.1)) o left clears ready in
          none_and _ _ ((rw c.deref-2.ensures.value at (c.remaining_of.ensures.only left clears)) rest) c.in_err-remaining.was,
      ports_same c.args.self.now c.from.result c.index-self-from.result,
    )

pub returns-then-not-reserve_all-clause-left : goal.returns-then-not-reserve_all-clause-left
returns-then-not-reserve_all-clause-left c = λ _.
    -- the command that is ready is the one that its slot's bytes say, and so much is left of it
    let ready_one : (o : AllMedia) (n m : ℕ) (may : MayFinish (device_of c.args.self.now o) c.args.port c.args.slot n m) (cache : Cache) → (c.in_ok-remaining.remaining.moves ≡ n) × (c.in_ok-remaining.remaining.clears ≡ m) × (HasRoomForOldSectors cache (sectors_left_to_change may.fetched_command.meaning.operation (bytes_of c.args.self.now.memory.items) may.fetched_command n) → HasRoomForOldSectors cache c.reservations_of.result.old_sectors) =
    λ o n m ready cache.
    let h = c.args.self.now in
    let rest = c.in_ok-remaining.remaining in
    let P : ℕ → Type 0 = λ q. IsFetchableIfHaltAdmits (slice_index_or h.ports q reset_port_without_disk) c.args.slot in
    let may = subst P (sym c.from.ensures) c.requires.may in
    let small : c.from.result < length c.args.self.now.ports = search rules in
    let said = c.in-Some.ensures.found in
    let says = rw (at_port c.args.self.now.ports c.from.result c.index-self-from.result small) at (rw c.deref.ensures.value at said.1) in
    let one = some_and _ _ rest ((rw c.deref-2.ensures.value at (c.remaining_of.ensures.only n m))
    (ready_is_said h c.from.result c.args.port c.args.slot c.in-Some.command.now c.from.ensures may said.0 says o n m ready)) c.in_ok-remaining.was in
    let same = ready_is_one h c.from.result c.args.port c.args.slot c.in-Some.command.now c.from.ensures may said.0 says o n m ready in (
      one.0,
      one.1,
      ahead_is h o cache c.args.port c.args.slot rest.moves c.reservations_of.result.old_sectors n m c.in-Some.command.now ready same one.0
          (c.reservations_of.ensures.old_sectors ∙ (rw c.deref-2.ensures.value at c.in_ok-remaining.ensures.changes)),
    ) in
    let h = c.args.self.now in
    let rest = c.in_ok-remaining.remaining in
    let P : ℕ → Type 0 = λ q. IsFetchableIfHaltAdmits (slice_index_or h.ports q reset_port_without_disk) c.args.slot in
    let may = subst P (sym c.from.ensures) c.requires.may in
    let small : c.from.result < length c.args.self.now.ports = search rules in
    let said = c.in-Some.ensures.found in
    let says = rw (at_port c.args.self.now.ports c.from.result c.index-self-from.result small) at (rw c.deref.ensures.value at said.1) in
    let entries = c.reservations_of.ensures.entries in
    inr (record {
      moves_left = rest.moves;
      clears_left = rest.clears;
      may_finish = ready_to_take h c.from.result c.args.port c.args.slot c.in-Some.command.now c.from.ensures rest.moves rest.clears
          (rw c.deref-2.ensures.value at c.in_ok-remaining.ensures.rest) said.0 may (rw (at_port c.args.self.now.ports c.from.result c.index-self-from.result small) at (c.admits_by_halt_and_taken.ensures.open c.if-not-admits_by_halt_and_taken.false)) says;
      room_was_lacking = λ o n m may room old.
          let one = ready_one o n m may c.args.cache.now in
          let left = one.0 in
          let clears = one.1 in
          c.reserve_all.ensures.lacked c.if-not-reserve_all.true (omega (arith, room, left, clears, entries)) (one.2 old);
      room_is_lacking = λ o n m may room old.
          let one = ready_one o n m may c.reserve_all.new.cache in
          let left = one.0 in
          let clears = one.1 in
          c.reserve_all.ensures.lacks c.if-not-reserve_all.true (omega (arith, room, left, clears, entries)) (one.2 old);
      device_is_kept = λ o.
          ap (λ (l : List PortModel). record (device_of (record h { ports = l }) o) { tape = c.reserve_all.new.tape.items }) (set-get_or h.ports c.from.result c.index-self-from.result)
          ∙ ap (λ (items : List Entry). record (device_of h o) { tape = items }) c.reserve_all.ensures.items;
      starved_is_set = c.note_no_memory.ensures;
    })

-- it is taken
did : (c : After-self-2-1) (o : AllMedia) → DoesFetch c.args.port c.args.slot (device_of c.args.self.now o)
    (device_of (record c.args.self.now { tape = c.reserve_all.new.tape; ports = slice_set c.args.self.now.ports c.from.result c.take.new.self }) o)
did c o =
    let h = c.args.self.now in
    let held : Hardware = record h { tape = c.reserve_all.new.tape } in
    let new : Hardware = record held { ports = slice_set h.ports c.from.result c.take.new.self } in
    let P : ℕ → Type 0 = λ q. IsFetchableIfHaltAdmits (slice_index_or h.ports q reset_port_without_disk) c.args.slot in
    let may = subst P (sym c.from.ensures) c.requires.may in
    let small : c.from.result < length h.ports = search rules in
    let said = c.in-Some.ensures.found in
    let says = rw (at_port h.ports c.from.result c.index-self-from.result small) at (rw c.deref.ensures.value at said.1) in
    let alone = rw (at_port c.args.self.now.ports c.from.result c.index-self-from.result small) at (c.admits_by_halt_and_taken.ensures.open c.if-not-admits_by_halt_and_taken.false) in
    let taken = may_be_taken (slice_index_or h.ports c.from.result reset_port_without_disk) c.args.slot c.in-Some.command.now may alone in
    let kept : device_of held o ≡ device_of h o = ap (λ (items : List Entry). record (device_of h o) { tape = items }) c.reserve_all.ensures.items in
    let Q : Device → Type 0 = λ d. DoesFetch c.args.port c.args.slot d (device_of new o) in
    subst Q kept
    (port_takes held o c.from.result c.args.port c.args.slot c.take.new.self c.in-Some.command.now c.from.ensures small
    (taken (o.media c.from.result)) says (rw (at_port c.args.self.now.ports c.from.result c.index-self-from.result small) at (c.take.ensures (o.media c.from.result))))

pub returns-clause-ahead : goal.returns-clause-ahead
returns-clause-ahead c = λ o t taken.
    let h = c.args.self.now in
    let said = c.in-Some.ensures.found in
    let small : c.from.result < length h.ports = search rules in
    let says = rw (at_port h.ports c.from.result c.index-self-from.result small) at (rw c.deref.ensures.value at said.1) in
    let P : ℕ → Type 0 = λ q. DecodesTo (bytes_of h.memory.items) (slice_index_or h.ports q reset_port_without_disk).addresses.clb c.args.slot (taken_of c.in-Some.command.now).meaning (taken_of c.in-Some.command.now).places in
    let new : Hardware = record h { tape = c.reserve_all.new.tape; ports = slice_set h.ports c.from.result c.take.new.self } in
    let same = fetched_is c.args.port c.args.slot (device_of h o) (device_of new o) c.in-Some.command.now (did c o) said.0 (subst P c.from.ensures says) t taken in
    ahead_of c.reserve_all.new.cache (bytes_of h.memory.items) c.in_ok-remaining.remaining.moves c.reservations_of.result.old_sectors c.in-Some.command.now t same
    (c.reservations_of.ensures.old_sectors ∙ (rw c.deref-2.ensures.value at c.in_ok-remaining.ensures.changes)) (c.reserve_all.ensures.old_room c.if-not-reserve_all.false)

pub returns-clause-begun : goal.returns-clause-begun
returns-clause-begun c =
    let h = c.args.self.now in
    let rest = c.in_ok-remaining.remaining in
    let held : Hardware = record h { tape = c.reserve_all.new.tape } in
    let P : ℕ → Type 0 = λ q. IsFetchableIfHaltAdmits (slice_index_or h.ports q reset_port_without_disk) c.args.slot in
    let may = subst P (sym c.from.ensures) c.requires.may in
    let small : c.from.result < length h.ports = search rules in
    let said = c.in-Some.ensures.found in
    let says = rw (at_port h.ports c.from.result c.index-self-from.result small) at (rw c.deref.ensures.value at said.1) in
    let alone = rw (at_port c.args.self.now.ports c.from.result c.index-self-from.result small) at (c.admits_by_halt_and_taken.ensures.open c.if-not-admits_by_halt_and_taken.false) in
    let room : vec_len c.reserve_all.new.tape + c.reservations_of.result.entries ≤ vec_capacity c.reserve_all.new.tape = c.reserve_all.ensures.room c.if-not-reserve_all.false in
    let entries = c.reservations_of.ensures.entries in
    let ready : (o : AllMedia) → MayFinish (device_of h o) c.args.port c.args.slot rest.moves rest.clears =
    ready_to_take h c.from.result c.args.port c.args.slot c.in-Some.command.now c.from.ensures rest.moves rest.clears
    (rw c.deref-2.ensures.value at c.in_ok-remaining.ensures.rest) said.0 may alone says in
    let new : Hardware = record held { ports = slice_set h.ports c.from.result c.take.new.self } in
    record {
      may_finish = ready;
      is_in_progress = λ o.
          fetched_goes c.args.port c.args.slot rest.moves rest.clears true (device_of h o) (device_of new o) (ready o) (λ _. did c o) (λ never. true-false refl never)
          (λ never. true-false refl never);
      tape_has_room = omega (arith, room, entries);
      newly_taken_is_fetched = λ _ o. did c o;
      device_is_kept = λ never. true-false refl never;
      tape_is_kept = c.reserve_all.ensures.items;
      starved_is_kept = refl;
    }

-- another command is taken
pub returns-then-not-admits_by_halt_and_taken-clause-left : goal.returns-then-not-admits_by_halt_and_taken-clause-left
returns-then-not-admits_by_halt_and_taken-clause-left c = λ _.
    inl (
      λ o left clears ready.
          let P : ℕ → Type 0 = λ q. IsFetchableIfHaltAdmits (slice_index_or c.args.self.now.ports q reset_port_without_disk) c.args.slot in
          let may = subst P (sym c.from.ensures) c.requires.may in
          let small : c.from.result < length c.args.self.now.ports = search rules in
          let said = c.in-Some.ensures.found in
          let both = ready_beside c.args.self.now c.from.result c.args.port c.args.slot c.in-Some.command.now c.from.ensures may
          said.0 (rw (at_port c.args.self.now.ports c.from.result c.index-self-from.result small) at (rw c.deref.ensures.value at said.1)) o left clears ready in
          (rw (at_port c.args.self.now.ports c.from.result c.index-self-from.result small) at (c.admits_by_halt_and_taken.ensures.complete c.if-not-admits_by_halt_and_taken.true (o.media c.from.result)))
          both.0 both.1,
      ports_same c.args.self.now c.from.result c.index-self-from.result,
    )
