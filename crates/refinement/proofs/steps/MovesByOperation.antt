-- Every move, by its operation.
use Rattle.std.proofs.Common.{ℕ, ◌++◌, ◌≡◌, ◌⊎◌, ◌<◌, ◌+◌, List, [], ◌∷◌, length, slice_index, Option, Some, None, refl, sym, ◌∙◌, ap, subst, arith, inl, inr}
use Rattle.ata_types.specs.declared.request.Op.{Op}
use Rattle.ata_types.specs.declared.request.Op.TheVariants.{Write, Flush}
use Rattle.ata_types.specs.declared.request.RequestId.{RequestId}
use Rattle.adapter.specs.Commands.{Meaning}
use Rattle.adapter.specs.Memory.{patched, bytes_at, changed}
use Rattle.adapter.specs.Device.{FetchedCommand, Device}
use Rattle.adapter.specs.Steps.{device_after, MayMove, next_place, move_of}
use Rattle.adapter.specs.Steps.DeviceTransition.{Move}
use Rattle.adapter.specs.declared.command.Operation.{Operation}
use Rattle.adapter.specs.declared.command.Operation.TheVariants as operation
use Rattle.adapter.specs.declared.tape.Entry.{Entry}
use Rattle.adapter.specs.declared.tape.Entry.TheVariants as entry
use Rattle.adapter.proofs.Changed.{changed_same, changed_other}
use Rattle.adapter.proofs.MemoryLemmas.{patched_bytes}
use Rattle.block_machine.specs.State.{Machine}
use Rattle.block_machine.specs.Histories.{IsReachable}
use Rattle.refinement.specs.MemoryLayout.{scratch_frame_address}
use Rattle.refinement.specs.Slots.{SlotState, Free, Own, Serves, SlotStates, AreRequestPlaces, ServesRequest, PageCameSinceAndStandsInScratch, OwnAwaitsFetch, OwnIsTaken, OwnIsOverWithPageIfSt, ServesOwn, RelatesSlot, client_operation_of, Armed}
use Rattle.refinement.specs.Relation.{StateRelation}
use Rattle.refinement.specs.Tape.{TellsTouchOrIsScratchMove}
use Rattle.refinement.specs.Simulation.{SimulatesSteps}
use Rattle.refinement.proofs.relation.SlotRelation.{known_on, SameFixed, told_on, placed_on}
use Rattle.refinement.proofs.relation.TouchesAndEnds.{Goes-refl}
use Rattle.refinement.proofs.relation.WrittenBytes.{fixed_stays}
use Rattle.refinement.proofs.relation.LastingSectors.{IsQuiet, gains_quiet, lasting_on, quiet_move}
use Rattle.refinement.proofs.relation.OneSlot.{acted, memory_low}
use Rattle.refinement.proofs.relation.OtherSlots.{some_none, gains_one, plugged_kept}
use Rattle.refinement.proofs.steps.TakenCommand.{none_op}
use Rattle.refinement.proofs.steps.MovedSector.{TakenAs, taken_as, means_taken, some_same, op_same, read_follows, write_follows, block_follows}

-- a taken command, by its parts
abbrev taken_of : Operation → ℕ → ℕ → List ℕ → ℕ → List ℕ → ℕ → FetchedCommand
taken_of o first count places moved block cleared =
    record { meaning = record { operation = o; first = first; count = count }; places = places; moved = moved; block = block; cleared = cleared }

-- a move of a client's command, by the operation
client_move : (uses : SlotStates) (m : Machine) (d : Device) (a : StateRelation uses m d) (reached : IsReachable m) (port slot : ℕ) (id : RequestId) (u : uses port slot ≡ Serves id)
    (h : ServesRequest m d.memory (d.port port) port slot id) (bytes : List ℕ)
    (o : Operation) (first count : ℕ) (places : List ℕ) (moved : ℕ) (block : List ℕ) (cleared : ℕ)
    → MayMove d port slot (taken_of o first count places moved block cleared) bytes
    → TakenAs d.memory (d.port port) port slot h.pending h.command h.places (taken_of o first count places moved block cleared)
    → SimulatesSteps uses m d (device_after (Move port slot (taken_of o first count places moved block cleared) bytes) d)
client_move uses m d a reached port slot id u h bytes operation.Identify first count places moved block cleared can x =
    none_op (ap (λ (c : Meaning). client_operation_of c.operation) x.meaning ∙ h.means.op_is)
client_move uses m d a reached port slot id u h bytes operation.ReadLog first count places moved block cleared can x =
    none_op (ap (λ (c : Meaning). client_operation_of c.operation) x.meaning ∙ h.means.op_is)
client_move uses m d a reached port slot id u h bytes operation.Flush first count places moved block cleared can x =
    let w = means_taken port slot h.pending.request h.command (record { operation = operation.Flush; first = first; count = count }) h.places places x.meaning x.places_are h.means in
    absurd (let op : Flush ≡ h.pending.request.asked.op = op_same w.op_is in
    let none : places ≡ [] = subst (λ (o : Op). AreRequestPlaces o port h.pending.request places) (sym op) w.places_are in
    let n : length places ≡ 0 = ap length none in
    let l : moved < length places = can.piece_is_left in omega (arith, n, l))
client_move uses m d a reached port slot id u h bytes operation.Read first count places moved block cleared can x =
    let w = means_taken port slot h.pending.request h.command (record { operation = operation.Read; first = first; count = count }) h.places places x.meaning x.places_are h.means in
    read_follows uses m d a reached port slot id u h (taken_of operation.Read first count places moved block cleared) x bytes can.bytes_are_sector.0 can.piece_is_left can.works.working.present
    (sym (op_same w.op_is)) refl (ap (λ (k : ℕ). k + moved) (w.first_sector_is_if_it_moves_sectors refl)) can.brings.0 can.brings.1
client_move uses m d a reached port slot id u h bytes operation.ReadQueued first count places moved block cleared can x =
    let w = means_taken port slot h.pending.request h.command (record { operation = operation.ReadQueued; first = first; count = count }) h.places places x.meaning x.places_are h.means in
    read_follows uses m d a reached port slot id u h (taken_of operation.ReadQueued first count places moved block cleared) x bytes can.bytes_are_sector.0 can.piece_is_left can.works.working.present
    (sym (op_same w.op_is)) refl (ap (λ (k : ℕ). k + moved) (w.first_sector_is_if_it_moves_sectors refl)) can.brings.0 can.brings.1
client_move uses m d a reached port slot id u h bytes operation.Write first count places moved block cleared can x =
    let w = means_taken port slot h.pending.request h.command (record { operation = operation.Write; first = first; count = count }) h.places places x.meaning x.places_are h.means in
    write_follows uses m d a reached port slot id u h (taken_of operation.Write first count places moved block cleared) x bytes can.bytes_are_sector.0 can.piece_is_left can.works.working.present
    (sym (op_same w.op_is)) refl (ap (λ (k : ℕ). k + moved) (w.first_sector_is_if_it_moves_sectors refl)) can.brings.0 can.brings.1
client_move uses m d a reached port slot id u h bytes operation.WriteQueued first count places moved block cleared can x =
    let w = means_taken port slot h.pending.request h.command (record { operation = operation.WriteQueued; first = first; count = count }) h.places places x.meaning x.places_are h.means in
    write_follows uses m d a reached port slot id u h (taken_of operation.WriteQueued first count places moved block cleared) x bytes can.bytes_are_sector.0 can.piece_is_left can.works.working.present
    (sym (op_same w.op_is)) refl (ap (λ (k : ℕ). k + moved) (w.first_sector_is_if_it_moves_sectors refl)) can.brings.0 can.brings.1
client_move uses m d a reached port slot id u h bytes operation.Trim first count places moved block cleared can x =
    let w = means_taken port slot h.pending.request h.command (record { operation = operation.Trim; first = first; count = count }) h.places places x.meaning x.places_are h.means in
    block_follows uses m d a reached port slot id u h (taken_of operation.Trim first count places moved block cleared) x bytes can.bytes_are_sector.0 can.piece_is_left can.works.working.present
    (sym (op_same w.op_is)) refl can.brings

-- a move of a command of the driver's own: a page into the scratch frame
module _ (uses : SlotStates) (m : Machine) (d : Device) (a : StateRelation uses m d) (port slot : ℕ) (o : Operation) (u : uses port slot ≡ Own o) (h : ServesOwn d.memory d.tape (d.port port) port slot o) where
  module _ (t : FetchedCommand) (x : OwnIsTaken d.memory d.tape (d.port port) port slot h.command) (is : x.command ≡ t) (bytes : List ℕ) (left : t.moved < length t.places) (size : length bytes ≡ 512) where
    places_are : t.places ≡ scratch_frame_address port ∷ []
    places_are = ap (λ (y : FetchedCommand). y.places) (sym is) ∙ x.places_are

    none_moved : t.moved ≡ 0
    none_moved = let n : length t.places ≡ 1 = ap length places_are in omega (arith, left, n)

    place : next_place t ≡ scratch_frame_address port
    place = ap (λ (k : ℕ). slice_index t.places k) none_moved ∙ ap (λ (l : List ℕ). slice_index l 0) places_are

    operation_is : t.meaning.operation ≡ o
    operation_is = ap (λ (y : FetchedCommand). y.meaning.operation) (sym is) ∙ ap (λ (c : Meaning). c.operation) x.meaning ∙ h.operation_is

    abbrev later : List Entry
    later = d.tape ++ entry.Move (move_of port slot t bytes) ∷ []

    abbrev Here : ℕ → Type 0
    Here q = q ≡ port

    fixed : SameFixed Here uses d.memory (patched d.memory (next_place t) bytes) d.tape (d.tape ++ entry.Move (move_of port slot t bytes) ∷ [])
    fixed = fixed_stays Here uses d.memory (next_place t) bytes d.tape (d.tape ++ entry.Move (move_of port slot t bytes) ∷ [])
        (inr (inr (inl (record { port = port; below = h.list_is_in_place.port_below; excepted = refl; here = place; size = size }))))
        (λ q w v out. gains_one d.tape (entry.Move (move_of port slot t bytes)) q w (λ y. out (sym y.0)))

    -- the page stands there
    brought : PageCameSinceAndStandsInScratch (patched d.memory (next_place t) bytes) (d.tape ++ entry.Move (move_of port slot t bytes) ∷ []) port h.command.operation (d.port port).notes.st_set_at
    brought = record {
      before = d.tape;
      came_since = h.st_set_is_on_tape;
      move = move_of port slot t bytes;
      later = [];
      tape_is_split = refl;
      is_move = (refl, operation_is ∙ sym h.operation_is);
      no_later_move = λ k e small. absurd (omega (arith, small));
      scratch_holds_page = ap (λ (n : ℕ). bytes_at (patched d.memory (next_place t) bytes) (scratch_frame_address port) n) (sym size)
          ∙ ap (λ (at : ℕ). bytes_at (patched d.memory (next_place t) bytes) at (length bytes)) (sym place)
          ∙ patched_bytes d.memory (next_place t) bytes;
    }

    no_write : {w : Option Op} → w ≡ None → w ≡ Some Write → ⊥
    no_write r w = let z : None ≡ Some Write = sym r ∙ w in cc

    quiet : IsQuiet (entry.Move (move_of port slot t bytes))
    quiet = quiet_move port slot t bytes (no_write (ap client_operation_of operation_is ∙ h.operation_is_drivers_own))

    used : uses port slot ≡ Free → ⊥
    used f = let z : Own o ≡ Free = sym u ∙ f in cc

    pub page_follows : SimulatesSteps uses m d (record d {
      memory = patched d.memory (next_place t) bytes;
      port = changed d.port port (record (d.port port) { taken = changed (d.port port).taken slot (Some (record t { moved = t.moved + 1 })); disk = (d.port port).disk });
      tape = d.tape ++ entry.Move (move_of port slot t bytes) ∷ [];
    })
    page_follows = record {
      steps = [];
      steps_are_enabled = tt;
      disks_tell_sectors_is_same = refl;
      steps_are_faithful = λ _. tt;
      new_entries = _;
      tape_is = refl;
      tape_tells_steps = ([], [], subst (λ (w : Option Op). TellsTouchOrIsScratchMove w m (move_of port slot t bytes) []) (sym (ap client_operation_of operation_is ∙ h.operation_is_drivers_own)) (place, refl), refl, refl);
      plugged_disks_match_steps = plugged_kept d port _ [] refl (λ _. refl);
      state_relation = acted Here uses m m d a (patched d.memory (next_place t) bytes) (d.tape ++ entry.Move (move_of port slot t bytes) ∷ []) port slot _ (record {
        id = record { 0 = 0 };
        goes = Goes-refl m (record { 0 = 0 });
        moves = λ port' slot' id' v ne y is r. r;
        only = λ q z. (z, h.slot_is_0);
        fixed = fixed;
        others = λ k ne. record { issued = refl; sact = refl; taken = changed_other (d.port port).taken slot _ k ne; st = refl; cr = refl; since = refl; list = refl };
        here = subst (λ (v : SlotState). RelatesSlot m (patched d.memory (next_place t) bytes) (d.tape ++ entry.Move (move_of port slot t bytes) ∷ []) (record (d.port port) { taken = changed (d.port port).taken slot (Some (record t { moved = t.moved + 1 })); disk = (d.port port).disk }) port slot v) (sym u)
            (record {
              operation_is_drivers_own = h.operation_is_drivers_own;
              slot_is_0 = h.slot_is_0;
              list_is_in_place = placed_on (d.port port) _ port slot refl h.list_is_in_place;
              command = h.command;
              operation_is = h.operation_is;
              slot_decodes_to = told_on d.memory (patched d.memory (next_place t) bytes) (d.port port).bases.clb (d.port port).bases.clb port slot h.command (scratch_frame_address port ∷ []) h.list_is_in_place.list refl
                  (fixed.tables port slot used h.list_is_in_place.port_below h.list_is_in_place.slot_below) h.slot_decodes_to;
              unqueued = h.unqueued;
              st_set_is_on_tape = known_on d.tape (entry.Move (move_of port slot t bytes) ∷ []) (d.port port).notes.st_set_at h.st_set_is_on_tape;
              stage = inr (inl (record {
                command = record t { moved = t.moved + 1 };
                taken = changed_same (d.port port).taken slot _;
                meaning = ap (λ (y : FetchedCommand). y.meaning) (sym is) ∙ x.meaning;
                places_are = places_are;
                running = x.running;
                issued = x.issued;
                page_stands_in_scratch_if_moved = inr (let n = none_moved in omega (arith, n), brought);
              }));
            });
        fre = refl;
        received_at = refl;
        present = refl;
        name = refl;
        size = refl;
        sectors = λ t'. a.sectors_are_same_if_disks_tell t' port;
        other_sectors = λ t' q ne. a.sectors_are_same_if_disks_tell t' q;
        lasting = λ t'. lasting_on m m d.tape _ (d.port port) (d.port port) port refl refl (λ _ _ held. held) (gains_quiet d.tape _ m port quiet) (a.knows_replug_candidates_if_disks_tell t' port);
        other_lasting = λ t' q ne. lasting_on m m d.tape _ (d.port q) (d.port q) q refl refl (λ _ _ held. held) (gains_quiet d.tape _ m q quiet) (a.knows_replug_candidates_if_disks_tell t' q);
        memory = memory_low m d.memory (next_place t) bytes (let below = h.list_is_in_place.port_below in let p = place in omega (arith, p, size, below)) a.client_frames_are_same;
      });
    }

  own_by : (bytes : List ℕ) (w : Operation) (first count : ℕ) (places : List ℕ) (moved : ℕ) (block : List ℕ) (cleared : ℕ) → client_operation_of w ≡ None
      → MayMove d port slot (taken_of w first count places moved block cleared) bytes
      → (x : OwnIsTaken d.memory d.tape (d.port port) port slot h.command) → x.command ≡ taken_of w first count places moved block cleared
      → SimulatesSteps uses m d (device_after (Move port slot (taken_of w first count places moved block cleared) bytes) d)
  own_by bytes operation.Identify first count places moved block cleared own can x is =
      page_follows (taken_of operation.Identify first count places moved block cleared) x is bytes can.piece_is_left can.bytes_are_sector.0
  own_by bytes operation.ReadLog first count places moved block cleared own can x is =
      page_follows (taken_of operation.ReadLog first count places moved block cleared) x is bytes can.piece_is_left can.bytes_are_sector.0
  own_by bytes operation.Read first count places moved block cleared own can x is = none_op (sym own)
  own_by bytes operation.ReadQueued first count places moved block cleared own can x is = none_op (sym own)
  own_by bytes operation.Write first count places moved block cleared own can x is = none_op (sym own)
  own_by bytes operation.WriteQueued first count places moved block cleared own can x is = none_op (sym own)
  own_by bytes operation.Trim first count places moved block cleared own can x is = none_op (sym own)
  own_by bytes operation.Flush first count places moved block cleared own can x is = none_op (sym own)

  own_follows : (t : FetchedCommand) (bytes : List ℕ) → MayMove d port slot t bytes →
      OwnAwaitsFetch (d.port port) slot ⊎ (OwnIsTaken d.memory d.tape (d.port port) port slot h.command ⊎ OwnIsOverWithPageIfSt d.memory d.tape (d.port port) port slot h.command) → SimulatesSteps uses m d (device_after (Move port slot t bytes) d)
  own_follows t bytes can (inl x) = some_none can.works.taken x.is_not_taken
  own_follows t bytes can (inr (inl x)) =
      let e : x.command ≡ t = some_same (sym x.taken ∙ can.works.taken) in
      own_by bytes t.meaning.operation t.meaning.first t.meaning.count t.places t.moved t.block t.cleared
      (ap (λ (y : FetchedCommand). client_operation_of y.meaning.operation) (sym e) ∙ ap (λ (c : Meaning). client_operation_of c.operation) x.meaning ∙ ap client_operation_of h.operation_is ∙ h.operation_is_drivers_own) can x e
  own_follows t bytes can (inr (inr x)) = some_none can.works.taken x.over.is_not_taken

-- every move
pub move_follows : (uses : SlotStates) (m : Machine) (d : Device) (a : StateRelation uses m d) → IsReachable m → (port slot : ℕ) (t : FetchedCommand) (bytes : List ℕ) → MayMove d port slot t bytes →
    SimulatesSteps uses m d (device_after (Move port slot t bytes) d)
move_follows uses m d a reached port slot t bytes can = by (uses port slot) refl (a.relates_slots port slot)
  where
    by : (v : SlotState) → uses port slot ≡ v → RelatesSlot m d.memory d.tape (d.port port) port slot v → SimulatesSteps uses m d (device_after (Move port slot t bytes) d)
    by Free u h = some_none can.works.taken h.is_not_taken
    by Armed u h = some_none can.works.taken h.is_not_taken
    by (Own o) u h = own_follows uses m d a port slot o u h t bytes can h.stage
    by (Serves id) u h =
        client_move uses m d a reached port slot id u h bytes t.meaning.operation t.meaning.first t.meaning.count t.places t.moved t.block t.cleared can
        (taken_as d.memory (d.port port) port slot h.pending h.command h.places t can.works.taken h.stage)
