-- The cache of a port's disks has grown: nothing else is another, and what is lasting stays so.
use Rattle.std.proofs.Common.{ℕ, suc, true, ◌≡◌, ◌≤◌, ◌+◌, ◌-◌, min, arith, slice_index_or, ◌⊎◌, ◌∙◌, List, length, Option, None, Some, refl, sym, ap, subst}
use Rattle.std.specs.Prelude.{if◌then◌else◌, option_map, slice_set}
use Rattle.adapter.specs.AskedSteps.{DoesClear, DoesMove}
use Rattle.adapter.specs.Device.{Device, DevicePort, FetchedCommand}
use Rattle.adapter.specs.Steps.{WorksOn, block_after, port_after_move}
use Rattle.adapter.specs.declared.command.Operation.{Operation}
use Rattle.adapter.specs.declared.command.Operation.TheVariants.{Trim}
use Rattle.adapter.specs.declared.command.Operation.TheVariants as operation
use Rattle.adapter.specs.declared.access.DeviceStep.{DeviceStep}
use Rattle.sector_store.specs.declared.store.Failures.{Failures}
use Rattle.device_model.specs.WriteCaches.{HasRoomForOldSectors, KeepsSameOldSectors}
use Rattle.device_model.specs.Disks.{ModelHasRoomForOldSectors, BayHasRoomForOldSectors, BaysHaveRoomForOldSectors, bay_of, disk_in_bay, numbered_disk, lasting_of}
use Rattle.device_model.specs.StepEffects.{HasCleared, IsLeftOut, LacksMemory, MemoryIs4GibAtMostIfMoveOrTakenFinish, IsPossible, StepKeeps, asked_port, cleared_count_on_disk}
use Rattle.device_model.specs.ModelState.{device_at, all_media_at}
use Rattle.device_model.specs.OldSectors.{with_old_bytes}
use Rattle.device_model.specs.Trims.{HasClear, sectors_left_to_change, next_uncleared, next_run_length, sectors_left_to_write}
use Rattle.device_model.specs.WholeAdapter.{AllMedia, device_of}
use Rattle.device_model.specs.declared.bay.Bay.{Bay}
use Rattle.device_model.specs.declared.cache.Cache.{Cache}
use Rattle.device_model.specs.declared.disks.DiskIndex.{DiskIndex}
use Rattle.device_model.specs.declared.model.Model.{Model}
use Rattle.device_model.proofs.Absurd.{some_one}
use Rattle.device_model.proofs.Caching.{less_room}
use Rattle.device_model.proofs.Finishing.{here_after, taken_after}
use Rattle.device_model.proofs.Trimming.{cleared_changes, moved_changes}
use Rattle.device_model.proofs.TwoDisks.{outside_kept, seated_here, seated_others, store_keeps, store_says, store_whichs}

-- what is lasting of a disk, where the same is kept
pub grown_lasts : {S : Type 0} (told : S → Option (ℕ → List ℕ)) (a : Bay S) (cache : Cache) → KeepsSameOldSectors a.cache cache → lasting_of told (record a { cache = cache }) ≡ lasting_of told a
grown_lasts told a cache same =
    λ i. if same.cache_mode_is_kept i then option_map (with_old_bytes (same.old_sectors_are i)) (told a.disk.store) else told a.lasting.value

-- there is room in the cache of a port
pub room_here : {S : Type 0} (m : Model S) (port more : ℕ) (b : Bay S) → bay_of m port ≡ Some b → ModelHasRoomForOldSectors m port more → HasRoomForOldSectors b.cache more
room_here m port more b is = subst (λ x. BayHasRoomForOldSectors x more) is

pub room_there : {S : Type 0} (m : Model S) (port more : ℕ) (b : Bay S) → bay_of m port ≡ Some b → HasRoomForOldSectors b.cache more → ModelHasRoomForOldSectors m port more
room_there m port more b is = subst (λ x. BayHasRoomForOldSectors x more) (sym is)

module _ {S : Type 0} (size : S → ℕ) (told : S → Option (ℕ → List ℕ)) (failures : S → Option Failures) (m new : Model S) (port : ℕ) (a : Bay S) (cache : Cache)
    (was : bay_of m port ≡ Some a) (items : new.bays.items ≡ slice_set m.bays.items port (Some (record a { cache = cache }))) (same : KeepsSameOldSectors a.cache cache) where
  abbrev grown : Bay S
  grown = record a { cache = cache }

  pub grown_outside : all_media_at size told new ≡ all_media_at size told m
  grown_outside = outside_kept m new port a grown was items refl size told refl refl (grown_lasts told a cache same)

  pub grown_disks : (q : ℕ) (w : DiskIndex) → q ≡ port → numbered_disk new q w ≡ numbered_disk m q w
  grown_disks q w at =
      subst (λ k. numbered_disk new k w ≡ numbered_disk m k w) (sym at)
      (ap (option_map (λ (x : Bay S). disk_in_bay x w)) (seated_here m new port a grown was items) ∙ sym (ap (option_map (λ (x : Bay S). disk_in_bay x w)) was))

  pub grown_keeps : new.queue ≡ m.queue → new.accesses ≡ m.accesses → StepKeeps size m new
  grown_keeps queue accesses = store_keeps m new port a grown was items refl size refl same.cache_mode_is_kept queue accesses

  -- a step is left
  pub grown_left : (s : DeviceStep) → asked_port s ≡ port → device_of new.hardware (all_media_at size told m) ≡ device_at size told m → new.held ≡ m.held → new.queue ≡ m.queue →
      new.accesses ≡ m.accesses →
      (MemoryIs4GibAtMostIfMoveOrTakenFinish s (device_at size told m) → IsPossible s (device_at size told m) → LacksMemory s (device_at size told m) m.hardware m.bays.items × (new.hardware.starved ≡ true)) →
      (m.hardware.starved ≡ true → new.hardware.starved ≡ true) →
      (new.hardware.starved ≡ true → (m.hardware.starved ≡ true) ⊎ (IsPossible s (device_at size told m) × LacksMemory s (device_at size told m) m.hardware m.bays.items)) →
      IsLeftOut size told failures s m new
  grown_left s at hardware held queue accesses why on since = record {
    device_is_kept = ap (λ (o : AllMedia). device_of new.hardware o) grown_outside ∙ hardware;
    held_ports_are = held;
    page_source_is = store_says m new port a grown was items refl (asked_port s);
    disk_index_is = store_whichs m new port a grown was items refl (asked_port s);
    other_bays_are_kept = λ q ne. seated_others m new port a grown was items q (λ here. ne (here ∙ sym at));
    disks_are_kept = λ w. grown_disks (asked_port s) w at;
    possible_step_lacks_memory = why;
    step_keeps = grown_keeps queue accesses;
    stays_starved = on;
    starves_for_want = since;
  }

-- where there is room for some, there is for fewer
less_room_at : {S : Type 0} (m : Model S) (port more less : ℕ) → less ≤ more → ModelHasRoomForOldSectors m port more → ModelHasRoomForOldSectors m port less
less_room_at {S} m port more less le = by (bay_of m port)
  where
    by : (x : Option (Bay S)) → BayHasRoomForOldSectors x more → BayHasRoomForOldSectors x less
    by None room = tt
    by (Some b) room = less_room b.cache more less le room

-- there is room for the old bytes of what the command that is taken in a slot is going to change, of so many moves
abbrev pub RoomAhead : {S : Type 0} → (S → ℕ) → (S → Option (ℕ → List ℕ)) → Model S → (port slot left : ℕ) → Type 0
RoomAhead size told m port slot left = (t : FetchedCommand) → ((device_at size told m).port port).taken slot ≡ Some t →
    ModelHasRoomForOldSectors m port (sectors_left_to_change t.meaning.operation (device_at size told m).memory t left)

module _ {S : Type 0} (size : S → ℕ) (told : S → Option (ℕ → List ℕ)) (port slot : ℕ) (old new : Model S) where
  -- a piece was moved
  pub moved_room : (left : ℕ) → DoesMove port slot (device_at size told old) (device_at size told new) → RoomAhead size told old port slot (suc left) →
      ((t : FetchedCommand) → ((device_at size told old).port port).taken slot ≡ Some t → (n : ℕ) → ModelHasRoomForOldSectors old port (sectors_left_to_write t.meaning.operation 1 + n) → ModelHasRoomForOldSectors new port n) →
      RoomAhead size told new port slot left
  moved_room left m ahead takes t taken =
      let d : Device = device_at size told old in
      let p : DevicePort = d.port port in
      let u : FetchedCommand = record m.fetched_command { moved = m.fetched_command.moved + 1; block = block_after m.fetched_command.meaning.operation m.bytes m.fetched_command.block } in
      let state : DevicePort = port_after_move p slot m.fetched_command m.bytes in
      let there : (device_at size told new).port port ≡ state = ap (λ (x : Device). x.port port) m.effect ∙ here_after d port state in
      let same : u ≡ t = some_one (sym (ap (λ (x : DevicePort). x.taken slot) there ∙ taken_after p slot (Some u)) ∙ taken) in
      let memory = ap (λ (x : Device). x.memory) m.effect in
      let is = moved_changes m.fetched_command.meaning.operation p.disk d.memory m.fetched_command m.bytes left m.can.piece_is_left m.can.brings in
      let P : ℕ → Type 0 = λ n. ModelHasRoomForOldSectors old port n in
      let Q : (ℕ → ℕ) → FetchedCommand → Type 0 = λ f x. ModelHasRoomForOldSectors new port (sectors_left_to_change x.meaning.operation f x left) in
      let now = takes m.fetched_command m.can.works.taken _ (subst P is (ahead m.fetched_command m.can.works.taken)) in
      subst (Q (device_at size told new).memory) same (subst (λ f. Q f u) (sym memory) now)

  -- a run was cleared
  pub cleared_room : (most : ℕ) → DoesClear port slot most (device_at size told old) (device_at size told new) →
      HasCleared (device_at size told old) (device_at size told new) port slot most → RoomAhead size told old port slot 0 →
      ((t : FetchedCommand) → ((device_at size told old).port port).taken slot ≡ Some t → (n : ℕ) → ModelHasRoomForOldSectors old port (next_run_length most t + n) → ModelHasRoomForOldSectors new port n) →
      RoomAhead size told new port slot 0
  cleared_room most c has ahead takes t taken =
      let d : Device = device_at size told old in
      let u : FetchedCommand = record has.fetched_command { cleared = has.fetched_command.cleared + next_run_length most has.fetched_command } in
      let same : u ≡ t = some_one (sym has.command_after ∙ taken) in
      let one : c.fetched_command ≡ has.fetched_command = some_one (sym c.can.works.taken ∙ has.command_before) in
      let memory = ap (λ (x : Device). x.memory) c.effect in
      let less = cleared_changes d.memory has.fetched_command most (subst (λ (x : FetchedCommand). x.moved ≡ length x.places) one c.can.block_is_moved) (subst (λ (x : FetchedCommand). x.meaning.operation ≡ Trim) one c.can.trim) in
      let Q : (ℕ → ℕ) → FetchedCommand → Type 0 = λ f x. ModelHasRoomForOldSectors new port (sectors_left_to_change x.meaning.operation f x 0) in
      let now = takes has.fetched_command has.command_before (sectors_left_to_change u.meaning.operation d.memory u 0) (less_room_at old port _ _ less (ahead has.fetched_command has.command_before)) in
      subst (Q (device_at size told new).memory) same (subst (λ f. Q f u) (sym memory) now)

-- there is room for the next piece
pub one_room : {S : Type 0} (bays : List (Option (Bay S))) (port : ℕ) (t : FetchedCommand) (memory : ℕ → ℕ) (left : ℕ) →
    BaysHaveRoomForOldSectors bays port (sectors_left_to_change t.meaning.operation memory t (suc left)) → BaysHaveRoomForOldSectors bays port (sectors_left_to_write t.meaning.operation 1)
one_room {S} bays port t memory left = by (slice_index_or bays port None)
  where
    few : (o : Operation) → sectors_left_to_write o 1 ≤ sectors_left_to_change o memory t (suc left)
    few operation.Write = omega arith
    few operation.WriteQueued = omega arith
    few operation.Identify = omega arith
    few operation.Read = omega arith
    few operation.ReadQueued = omega arith
    few operation.Flush = omega arith
    few operation.Trim = omega arith
    few operation.ReadLog = omega arith

    by : (x : Option (Bay S)) → BayHasRoomForOldSectors x (sectors_left_to_change t.meaning.operation memory t (suc left)) → BayHasRoomForOldSectors x (sectors_left_to_write t.meaning.operation 1)
    by None room = tt
    by (Some b) room = less_room b.cache _ _ (few t.meaning.operation) room

-- and for the next run
pub run_room : {S : Type 0} (size : S → ℕ) (told : S → Option (ℕ → List ℕ)) (m : Model S) (port slot most : ℕ) (t : FetchedCommand) → HasClear (device_at size told m) port slot most t →
    RoomAhead size told m port slot 0 → ModelHasRoomForOldSectors m port (cleared_count_on_disk ((device_at size told m).port port).disk.sector_count most t)
run_room size told m port slot most t has ahead =
    let d : Device = device_at size told m in
    let disk = (d.port port).disk.sector_count in
    let less = cleared_changes d.memory t most has.block_is_moved has.trim in
    let on : min (next_run_length most t) (disk - next_uncleared t) ≤ next_run_length most t = omega arith in
    let taken = subst (λ (o : Operation). WorksOn (d.port port) slot t o) (sym has.trim) has.works in
    less_room_at m port _ _ (omega (arith, less, on)) (ahead t taken.taken)
