-- A sector goes between the disk and memory.
use Rattle.std.proofs.Common.{ℕ, ◌++◌, ◌≡◌, ◌≢◌, ◌<◌, ◌≤◌, ◌+◌, ◌*◌, ◌/◌, ◌%◌, ◌==◌, ◌||◌, Bool, true, false, not, ◌&&◌, List, [], ◌∷◌, length, slice_index, Option, Some, refl, sym, ◌∙◌, ap, subst, arith, inl, inr, ⊎_elim, nat_lt, eq-eqb, ne_eqb, lt-ltb, ltb-true}
use Rattle.std.specs.Prelude.{IfSome}
use Rattle.std.proofs.lemmas.Bool.{cases_eq, cases_lt, cases_Bool, cond-true, cond-false, or_left}
use Rattle.ata_types.specs.declared.Port.{Port}
use Rattle.ata_types.specs.declared.request.Op.{Op}
use Rattle.ata_types.specs.declared.request.Op.TheVariants.{Read, Write, Trim}
use Rattle.ata_types.specs.declared.request.RequestId.{RequestId}
use Rattle.ata_types.specs.declared.memory.TheConstants.{DRIVER_FRAMES}
use Rattle.adapter.specs.Commands.{Meaning, is_queued}
use Rattle.adapter.specs.Memory.{patched, bytes_at, changed}
use Rattle.adapter.specs.Device.{Disk, FetchedCommand, DevicePort, Device}
use Rattle.adapter.specs.Steps.{next_place, next_sector, disk_with_sector, move_of}
use Rattle.adapter.specs.declared.command.Operation.{Operation}
use Rattle.adapter.specs.declared.tape.Entry.{Entry}
use Rattle.adapter.specs.declared.tape.Entry.TheVariants as entry
use Rattle.adapter.proofs.Changed.{changed_same, changed_other}
use Rattle.adapter.proofs.MemoryLemmas.{bytes_index}
use Rattle.block_machine.specs.State.{Block, Pending, Machine, is_reader, block_written, block_of, nth_frame, sector_of}
use Rattle.block_machine.specs.State as state
use Rattle.block_machine.specs.DueRequests.{changes_sectors}
use Rattle.block_machine.specs.Confinement.{MovesBytes}
use Rattle.block_machine.specs.Histories.{IsReachable}
use Rattle.block_machine.specs.Steps as machine
use Rattle.block_machine.specs.Steps.{Touch, after_step, touch, put_sector, put_bytes}
use Rattle.block_machine.proofs.Standing.{Standing, standing}
use Rattle.refinement.specs.MemoryLayout.{scratch_frame_address, sector_address}
use Rattle.refinement.specs.Slots.{SlotState, Free, Own, Serves, SlotStates, MeansRequest, MeansRange, AreRequestPlaces, TouchedUpTo, TouchedAsMovedOrCleared, IsInSomeStage, ServesRequest, IsMove, ServesOwn, RelatesSlot, client_operation_of}
use Rattle.refinement.specs.Relation.{StateRelation, port_at, SameSectors}
use Rattle.refinement.specs.Tape.{TellsTouchOrIsScratchMove, MovesSector}
use Rattle.refinement.specs.Simulation.{SimulatesSteps}
use Rattle.refinement.proofs.relation.SlotRelation.{SameSlot, SameFixed, SameTable, NoPort, told_on, placed_on}
use Rattle.refinement.proofs.relation.TouchesAndEnds.{Goes, Goes-refl, touch_goes, touch_moves}
use Rattle.refinement.proofs.relation.WrittenBytes.{fixed_stays}
use Rattle.refinement.proofs.relation.LastingSectors.{gains_quiet, gains_write, lasting_on, lasting_touched, quiet_move}
use Rattle.refinement.proofs.relation.OneSlot.{acted, sectors_on, others_move}
use Rattle.refinement.proofs.relation.OtherSlots.{some_none, gains_one, fixed_more, plugged_kept}
use Rattle.refinement.proofs.steps.WrittenSector.{memory_put, put_elsewhere, put_there, sector_written}
use Rattle.refinement.proofs.relation.ReachedMachine.{client_frame}
use Rattle.refinement.proofs.steps.TakenCommand.{none_op}

pub some_same : {t u : FetchedCommand} → Some t ≡ Some u → t ≡ u
some_same e = cc

pub op_same : {a b : Op} → Some a ≡ Some b → a ≡ b
op_same e = cc

-- What is known of the command that a request's slot has taken.
pub record TakenAs (memory : ℕ → ℕ) (p : DevicePort) (port slot : ℕ) (e : Pending) (c : Meaning) (places : List ℕ) (t : FetchedCommand) : Type 0 where
  pub meaning : t.meaning ≡ c
  pub places_are : t.places ≡ places
  pub running : p.cr ≡ true
  pub issued : p.ci slot ≡ p.st && not (is_queued c.operation)
  pub sact : p.sact slot ≡ p.st && is_queued c.operation
  pub progress : TouchedAsMovedOrCleared e.request.asked.op memory port e t
  pub unended : e.ended ≡ false

pub taken_as : (memory : ℕ → ℕ) (p : DevicePort) (port slot : ℕ) (e : Pending) (c : Meaning) (places : List ℕ) (t : FetchedCommand) → p.taken slot ≡ Some t → IsInSomeStage memory p port slot e c places → TakenAs memory p port slot e c places t
taken_as memory p port slot e c places t is (inl w) = some_none is w.is_not_taken
taken_as memory p port slot e c places t is (inr (inl x)) =
    subst (λ (u : FetchedCommand). TakenAs memory p port slot e c places u) (some_same (sym x.taken ∙ is))
    (record { meaning = x.meaning; places_are = x.places_are; running = x.running; issued = x.ci_is_set_iff_st_and_plain; sact = x.sact; progress = x.progress; unended = x.unended })
taken_as memory p port slot e c places t is (inr (inr (inl x))) = some_none is x.is_not_taken
taken_as memory p port slot e c places t is (inr (inr (inr x))) = some_none is x.is_not_taken

-- the command that was taken is the request's
pub means_taken : (port slot : ℕ) (r : state.Accepted) (c d : Meaning) (places others : List ℕ) → d ≡ c → others ≡ places → MeansRequest port slot r c places → MeansRequest port slot r d others
means_taken port slot r c d places others e f means =
    subst (λ (x : Meaning). MeansRequest port slot r x others) (sym e) (subst (λ (l : List ℕ). MeansRequest port slot r c l) (sym f) means)

-- one more sector is touched
pub upto_more : (f : ℕ → Bool) (n : ℕ) → TouchedUpTo f n → TouchedUpTo (λ k. k == n || f k) (n + 1)
upto_more f n h k = ⊎_elim
    (λ (e : k ≡ n). or_left _ _ (eq-eqb k n e) ∙ sym (lt-ltb k (n + 1) (omega (arith, e))))
    (λ (ne : k ≡ n → ⊥). ap (λ (b : Bool). b || f k) (ne_eqb k n ne) ∙ h k ∙ same ne)
    (cases_eq k n)
  where
    ltb_ge : (a b : ℕ) → b ≤ a → nat_lt a b ≡ false
    ltb_ge a b le = ⊎_elim (λ (t : nat_lt a b ≡ true). absurd (let l : a < b = ltb-true a b t in omega (arith, l, le))) (λ (f : nat_lt a b ≡ false). f) (cases_Bool (nat_lt a b))

    same : (k ≡ n → ⊥) → nat_lt k n ≡ nat_lt k (n + 1)
    same ne = ⊎_elim
        (λ (l : k < n). lt-ltb k n l ∙ sym (lt-ltb k (n + 1) (omega (arith, l))))
        (λ (g : n ≤ k). ltb_ge k n g ∙ sym (ltb_ge k (n + 1) (⊎_elim (λ (l : k < n + 1). absurd (ne (omega (arith, l, g)))) (λ (h : n + 1 ≤ k). h) (cases_lt k (n + 1)))))
        (cases_lt k n)

-- an entry of a client's command is no move of the driver's own
pub clients_move : (uses : SlotStates) (m : Machine) (d : Device) → StateRelation uses m d → (port slot : ℕ) (t : FetchedCommand) (bytes : List ℕ) (op : Op) → client_operation_of t.meaning.operation ≡ Some op →
    (q : ℕ) (o : Operation) → uses q 0 ≡ Own o → IsMove q o (entry.Move (move_of port slot t bytes)) → ⊥
clients_move uses m d a port slot t bytes op is q o u same =
    let h : ServesOwn d.memory d.tape (d.port q) q 0 o = subst (λ (v : SlotState). RelatesSlot m d.memory d.tape (d.port q) q 0 v) u (a.relates_slots q 0) in
    none_op (sym h.operation_is_drivers_own ∙ ap client_operation_of (sym same.1) ∙ is)

module _ (uses : SlotStates) (m : Machine) (d : Device) (a : StateRelation uses m d) (reached : IsReachable m) (port slot : ℕ) (id : RequestId) (u : uses port slot ≡ Serves id)
    (h : ServesRequest m d.memory (d.port port) port slot id) where
  e : Pending
  e = h.pending

  std : Standing m
  std = standing m reached

  here_port : h.pending.request.port ≡ port_at port
  here_port = ap port_at h.port_is

  serves_used : uses port slot ≡ Free → ⊥
  serves_used f = let x : Serves id ≡ Free = sym u ∙ f in cc

  module _ (t : FetchedCommand) (x : TakenAs d.memory (d.port port) port slot h.pending h.command h.places t) (bytes : List ℕ) (size : length bytes ≡ 512) (left : t.moved < length t.places)
      (present : (d.port port).present ≡ true) where
    means : MeansRequest port slot h.pending.request t.meaning t.places
    means = means_taken port slot h.pending.request h.command t.meaning h.places t.places x.meaning x.places_are h.means

    -- the slot after a sector of a read or write
    moved_slot : (m' : Machine) (memory' : ℕ → ℕ) (later : List Entry) (disk : Disk) (e' : Pending) (t' : FetchedCommand) → SameTable d.memory memory' port slot → machine.IsIssuedOrKept m' e' → e'.request ≡ h.pending.request → e'.ended ≡ h.pending.ended →
        t'.meaning ≡ t.meaning → t'.places ≡ t.places → TouchedAsMovedOrCleared e'.request.asked.op memory' port e' t' →
        RelatesSlot m' memory' later (record (d.port port) { taken = changed (d.port port).taken slot (Some t'); disk = disk }) port slot (Serves id)
    moved_slot m' memory' later disk e' t' tables moves request ended meaning places progress = record {
      pending = e';
      may_still_move = moves;
      id_is = ap (λ (r : state.Accepted). r.id) request ∙ h.id_is;
      port_is = ap (λ (r : state.Accepted). r.port.0) request ∙ h.port_is;
      list_is_in_place = placed_on (d.port port) _ port slot refl h.list_is_in_place;
      command = h.command;
      places = h.places;
      slot_decodes_to = told_on d.memory memory' (d.port port).bases.clb (d.port port).bases.clb port slot h.command h.places h.list_is_in_place.list refl tables h.slot_decodes_to;
      means = subst (λ (r : state.Accepted). MeansRequest port slot r h.command h.places) (sym request) h.means;
      stage = inr (inl (record {
        command = t';
        taken = changed_same (d.port port).taken slot _;
        meaning = meaning ∙ x.meaning;
        places_are = places ∙ x.places_are;
        running = x.running;
        ci_is_set_iff_st_and_plain = x.issued;
        sact = x.sact;
        progress = progress;
        unended = ended ∙ x.unended;
      }));
    }

    others_same : (disk : Disk) (t' : FetchedCommand) (k : ℕ) → k ≢ slot → SameSlot (d.port port) (record (d.port port) { taken = changed (d.port port).taken slot (Some t'); disk = disk }) k
    others_same disk t' k ne = record { issued = refl; sact = refl; taken = changed_other (d.port port).taken slot _ k ne; st = refl; cr = refl; since = refl; list = refl }

    -- ---- a sector of a read or of a write

    module _ (op : Op) (op_is : h.pending.request.asked.op ≡ op) (bytes_move : MovesBytes op) (places : AreRequestPlaces op port h.pending.request t.places ≡ AreRequestPlaces Read port h.pending.request t.places)
        (sector : next_sector t ≡ sector_of h.pending.request t.moved) (inside : next_sector t < (d.port port).disk.sector_count) where
      places_are : AreRequestPlaces Read port h.pending.request t.places
      places_are = subst (λ (X : Type 0). X) places (subst (λ (o : Op). AreRequestPlaces o port h.pending.request t.places) op_is means.places_are)

      within : t.moved < h.pending.request.asked.count
      within = omega (arith, left, places_are.0)

      place : next_place t ≡ sector_address h.pending.request.asked.frames.items t.moved
      place = places_are.1 t.moved within

      framed : t.moved / 8 < length h.pending.request.asked.frames.items
      framed = std.framed h.pending h.may_still_move (subst (λ (o : Op). MovesBytes o) (sym op_is) bytes_move) t.moved within

      client : DRIVER_FRAMES ≤ (nth_frame h.pending.request.asked.frames.items (t.moved / 8)).0
      client = client_frame m reached h.pending h.may_still_move (t.moved / 8) framed

      abbrev touched : Machine
      touched = after_step m (Touch h.pending t.moved (slice_index bytes))

      is_touch : MovesSector m op (move_of port slot t bytes) (Touch h.pending t.moved (slice_index bytes) ∷ [])
      is_touch = record {
        pending = h.pending;
        may_still_move = h.may_still_move;
        port_is = here_port;
        op_is = op_is;
        sector_number = t.moved;
        number_is_in_range = within;
        sector_is = sector;
        place_is = place;
        direction_is = refl;
        frame_is_lent = std.lent h.pending h.may_still_move (t.moved / 8) framed;
        step_is = refl;
      }

      may : ((b : ℕ) → h.pending.request.asked.op ≡ Write → b < 512 → slice_index bytes b ≡ h.pending.request.blocks_at_acceptance t.moved b) → machine.IsEnabled m (Touch h.pending t.moved (slice_index bytes))
      may own = (
        h.may_still_move,
        within,
        ap m.present here_port ∙ (a.disks_are_same port).present ∙ present,
        (let s : m.sizes h.pending.request.port ≡ (d.port port).disk.sector_count = ap m.sizes here_port ∙ (a.disks_are_same port).sector_count in omega (arith, s, sector, inside)),
        λ w b lt. own b w lt,
      )

      moves_on : (port' slot' : ℕ) (id' : RequestId) → uses port' slot' ≡ Serves id' → (port' ≡ port → slot' ≡ slot → ⊥) → (y : Pending) → y.request.id ≡ id' → machine.IsIssuedOrKept m y → machine.IsIssuedOrKept touched y
      moves_on = others_move uses m touched d a port slot id u (subst (λ (n : RequestId). Goes m touched n) h.id_is (touch_goes m h.pending t.moved (slice_index bytes)))

    -- ---- a read

    module _ (reads : h.pending.request.asked.op ≡ Read) (o : client_operation_of t.meaning.operation ≡ Some Read) (sector : next_sector t ≡ sector_of h.pending.request t.moved) (inside : next_sector t < (d.port port).disk.sector_count)
        (brings : IfSome (d.port port).disk.sectors (λ told. bytes ≡ told (next_sector t))) where
      told : (s : SameSectors m (d.port port).disk port) (b : ℕ) → b < 512 → slice_index bytes b ≡ m.disk_bytes h.pending.request.port (sector_of h.pending.request t.moved) b
      told s b lb =
          let is : bytes ≡ s.told_sectors (next_sector t) = subst (λ (x : Option (ℕ → List ℕ)). IfSome x (λ told. bytes ≡ told (next_sector t))) s.disk_tells brings in
          ap (λ (l : List ℕ). slice_index l b) is
          ∙ s.bytes_are_same (next_sector t) b inside lb
          ∙ ap (λ (q : Port). m.disk_bytes q (next_sector t) b) (sym here_port)
          ∙ ap (λ (k : ℕ). m.disk_bytes h.pending.request.port k b) sector

      disks_same : (q : Port) (k b : ℕ) → (after_step m (Touch h.pending t.moved (slice_index bytes))).disk_bytes q k b ≡ m.disk_bytes q k b
      disks_same q k b = ap (λ (f : Port → state.DiskBytes). f q k b) (cond-false (changes_sectors h.pending.request.asked.op) (put_sector h.pending.request.port (sector_of h.pending.request t.moved) (block_written h.pending.request.asked.op h.pending.request.blocks_at_acceptance t.moved) m.disk_bytes) m.disk_bytes (ap changes_sectors reads))

      memory_is : (after_step m (Touch h.pending t.moved (slice_index bytes))).memory ≡ put_bytes (nth_frame h.pending.request.asked.frames.items (t.moved / 8)) (512 * (t.moved % 8)) 512 (slice_index bytes) m.memory
      memory_is = cond-true (is_reader h.pending.request.asked.op) _ m.memory (ap is_reader reads)

      abbrev new_memory : ℕ → ℕ
      new_memory = patched d.memory (next_place t) bytes

      abbrev later : List Entry
      later = d.tape ++ entry.Move (move_of port slot t bytes) ∷ []

      fixed : SameFixed NoPort uses d.memory new_memory d.tape later
      fixed = fixed_stays NoPort uses d.memory (next_place t) bytes d.tape later
          (inr (inr (inr (let p = place Read reads tt refl sector inside in let c = client Read reads tt refl sector inside in omega (arith, p, c)))))
          (λ q w v out. gains_one d.tape (entry.Move (move_of port slot t bytes)) q w (clients_move uses m d a port slot t bytes Read o q w v))

      progress : TouchedAsMovedOrCleared h.pending.request.asked.op new_memory port (touch t.moved h.pending) (record t { moved = t.moved + 1 })
      progress = subst (λ (w : Op). TouchedAsMovedOrCleared w new_memory port (touch t.moved h.pending) (record t { moved = t.moved + 1 })) (sym reads)
          (upto_more h.pending.touched t.moved (subst (λ (w : Op). TouchedAsMovedOrCleared w d.memory port h.pending t) reads x.progress))

      pub read_follows : SimulatesSteps uses m d (record d {
        memory = patched d.memory (next_place t) bytes;
        port = changed d.port port (record (d.port port) { taken = changed (d.port port).taken slot (Some (record t { moved = t.moved + 1 })); disk = (d.port port).disk });
        tape = d.tape ++ entry.Move (move_of port slot t bytes) ∷ [];
      })
      read_follows = record {
        steps = Touch h.pending t.moved (slice_index bytes) ∷ [];
        steps_are_enabled = (tt, may Read reads tt refl sector inside (λ b w lb. read_is_no_write (sym reads ∙ w)));
        disks_tell_sectors_is_same = refl;
        steps_are_faithful = λ t'. (tt, λ _ b lb. told (a.sectors_are_same_if_disks_tell t' port) b lb);
        new_entries = _;
        tape_is = refl;
        tape_tells_steps = (Touch h.pending t.moved (slice_index bytes) ∷ [], [], subst (λ (w : Option Op). TellsTouchOrIsScratchMove w m (move_of port slot t bytes) (Touch h.pending t.moved (slice_index bytes) ∷ [])) (sym o) (is_touch Read reads tt refl sector inside), refl, refl);
        plugged_disks_match_steps = plugged_kept d port _ (Touch h.pending t.moved (slice_index bytes) ∷ []) refl (λ _. refl);
        state_relation = acted NoPort uses m (after_step m (Touch h.pending t.moved (slice_index bytes))) d a new_memory later port slot _ (record {
          id = h.pending.request.id;
          goes = touch_goes m h.pending t.moved (slice_index bytes);
          moves = moves_on Read reads tt refl sector inside;
          only = λ q z. absurd z;
          fixed = fixed;
          others = others_same (d.port port).disk _;
          here = subst (λ (v : SlotState). RelatesSlot (after_step m (Touch h.pending t.moved (slice_index bytes))) new_memory later (record (d.port port) { taken = changed (d.port port).taken slot (Some (record t { moved = t.moved + 1 })); disk = (d.port port).disk }) port slot v) (sym u)
              (moved_slot (after_step m (Touch h.pending t.moved (slice_index bytes))) new_memory later (d.port port).disk (touch t.moved h.pending) (record t { moved = t.moved + 1 })
              (fixed.tables port slot serves_used h.list_is_in_place.port_below h.list_is_in_place.slot_below) (touch_moves m h.pending t.moved (slice_index bytes) h.may_still_move) refl refl refl refl progress);
          fre = refl;
          received_at = refl;
          present = refl;
          name = refl;
          size = refl;
          sectors = λ t'. sectors_on m (after_step m (Touch h.pending t.moved (slice_index bytes))) (d.port port).disk port (λ k b lb. disks_same (port_at port) k b) (a.sectors_are_same_if_disks_tell t' port);
          other_sectors = λ t' q ne. sectors_on m (after_step m (Touch h.pending t.moved (slice_index bytes))) (d.port q).disk q (λ k b lb. disks_same (port_at q) k b) (a.sectors_are_same_if_disks_tell t' q);
          lasting = λ t'. lasting_on m (after_step m (Touch h.pending t.moved (slice_index bytes))) d.tape later (d.port port) (d.port port) port refl refl (lasting_touched m h.pending t.moved (slice_index bytes) port) (gains_quiet d.tape (entry.Move (move_of port slot t bytes)) (after_step m (Touch h.pending t.moved (slice_index bytes))) port (quiet_move port slot t bytes (no_write o))) (a.knows_replug_candidates_if_disks_tell t' port);
          other_lasting = λ t' q ne. lasting_on m (after_step m (Touch h.pending t.moved (slice_index bytes))) d.tape later (d.port q) (d.port q) q refl refl (lasting_touched m h.pending t.moved (slice_index bytes) q) (gains_quiet d.tape (entry.Move (move_of port slot t bytes)) (after_step m (Touch h.pending t.moved (slice_index bytes))) q (quiet_move port slot t bytes (no_write o))) (a.knows_replug_candidates_if_disks_tell t' q);
          memory = λ f b from small.
              memory_put m d.memory (next_place t) (nth_frame h.pending.request.asked.frames.items (t.moved / 8)) (512 * (t.moved % 8)) bytes
              (place Read reads tt refl sector inside) (omega (arith, size)) a.client_frames_are_same f b from small
              ∙ ap (λ (n : ℕ). put_bytes (nth_frame h.pending.request.asked.frames.items (t.moved / 8)) (512 * (t.moved % 8)) n (slice_index bytes) m.memory f b) size
              ∙ ap (λ (g : state.Memory). g f b) (sym memory_is);
        });
      }
        where
          read_is_no_write : {A : Type 0} → Read ≡ Write → A
          read_is_no_write z = absurd cc

          no_write : {w : Option Op} → w ≡ Some Read → w ≡ Some Write → ⊥
          no_write r w = let z : Some Read ≡ Some Write = sym r ∙ w in cc

    -- ---- a write

    module _ (writes : h.pending.request.asked.op ≡ Write) (o : client_operation_of t.meaning.operation ≡ Some Write) (sector : next_sector t ≡ sector_of h.pending.request t.moved) (inside : next_sector t < (d.port port).disk.sector_count)
        (brings : bytes ≡ bytes_at d.memory (next_place t) 512) where
      -- the frames hold the write's bytes
      holds : (b : ℕ) → b < 512 → slice_index bytes b ≡ h.pending.request.blocks_at_acceptance t.moved b
      holds b lb =
          let w = place Write writes tt refl sector inside in
          let c = client Write writes tt refl sector inside in
          let f = framed Write writes tt refl sector inside in
          ap (λ (l : List ℕ). slice_index l b) brings
          ∙ bytes_index d.memory (next_place t) 512 b lb
          ∙ ap d.memory (let r : next_place t + b ≡ 4096 * (nth_frame h.pending.request.asked.frames.items (t.moved / 8)).0 + (512 * (t.moved % 8) + b) = omega (arith, w) in r)
          ∙ a.client_frames_are_same (nth_frame h.pending.request.asked.frames.items (t.moved / 8)) (512 * (t.moved % 8) + b) c (omega (arith, lb))
          ∙ std.held h.pending h.may_still_move t.moved b (λ reads. absurd (let z : true ≡ false = sym reads ∙ ap is_reader writes in cc)) (omega (arith, f)) lb

      now : (q : Port) (k b : ℕ) → (after_step m (Touch h.pending t.moved (slice_index bytes))).disk_bytes q k b ≡ put_sector (port_at port) (sector_of h.pending.request t.moved) (h.pending.request.blocks_at_acceptance t.moved) m.disk_bytes q k b
      now q k b =
          ap (λ (f : Port → state.DiskBytes). f q k b) (cond-true (changes_sectors h.pending.request.asked.op) (put_sector h.pending.request.port (sector_of h.pending.request t.moved) (block_written h.pending.request.asked.op h.pending.request.blocks_at_acceptance t.moved) m.disk_bytes) m.disk_bytes (ap changes_sectors writes))
          ∙ ap (λ (r : Port). put_sector r (sector_of h.pending.request t.moved) (block_written h.pending.request.asked.op h.pending.request.blocks_at_acceptance t.moved) m.disk_bytes q k b) here_port
          ∙ ap (λ (w : Op). put_sector (port_at port) (sector_of h.pending.request t.moved) (block_written w h.pending.request.blocks_at_acceptance t.moved) m.disk_bytes q k b) writes

      memory_kept : (after_step m (Touch h.pending t.moved (slice_index bytes))).memory ≡ m.memory
      memory_kept = cond-false (is_reader h.pending.request.asked.op) (put_bytes (nth_frame h.pending.request.asked.frames.items (t.moved / 8)) (512 * (t.moved % 8)) 512 (slice_index bytes) m.memory) m.memory (ap is_reader writes)

      progressed : TouchedAsMovedOrCleared h.pending.request.asked.op d.memory port (touch t.moved h.pending) (record t { moved = t.moved + 1 })
      progressed = subst (λ (w : Op). TouchedAsMovedOrCleared w d.memory port (touch t.moved h.pending) (record t { moved = t.moved + 1 })) (sym writes)
          (upto_more h.pending.touched t.moved (subst (λ (w : Op). TouchedAsMovedOrCleared w d.memory port h.pending t) writes x.progress))

      pub write_follows : SimulatesSteps uses m d (record d {
        port = changed d.port port (record (d.port port) { taken = changed (d.port port).taken slot (Some (record t { moved = t.moved + 1 })); disk = disk_with_sector (d.port port).disk (next_sector t) bytes });
        tape = d.tape ++ entry.Move (move_of port slot t bytes) ∷ [];
      })
      write_follows = record {
        steps = Touch h.pending t.moved (slice_index bytes) ∷ [];
        steps_are_enabled = (tt, may Write writes tt refl sector inside (λ b w lb. holds b lb));
        disks_tell_sectors_is_same = refl;
        steps_are_faithful = λ t'. (tt, λ reads. write_is_no_read (sym writes ∙ reads));
        new_entries = _;
        tape_is = refl;
        tape_tells_steps = (Touch h.pending t.moved (slice_index bytes) ∷ [], [], subst (λ (w : Option Op). TellsTouchOrIsScratchMove w m (move_of port slot t bytes) (Touch h.pending t.moved (slice_index bytes) ∷ [])) (sym o) (is_touch Write writes tt refl sector inside), refl, refl);
        plugged_disks_match_steps = plugged_kept d port _ (Touch h.pending t.moved (slice_index bytes) ∷ []) refl (λ _. refl);
        state_relation = acted NoPort uses m (after_step m (Touch h.pending t.moved (slice_index bytes))) d a d.memory _ port slot _ (record {
          id = h.pending.request.id;
          goes = touch_goes m h.pending t.moved (slice_index bytes);
          moves = moves_on Write writes tt refl sector inside;
          only = λ q z. absurd z;
          fixed = fixed_more uses d.memory d.tape (entry.Move (move_of port slot t bytes)) (clients_move uses m d a port slot t bytes Write o);
          others = others_same _ _;
          here = subst (λ (v : SlotState). RelatesSlot (after_step m (Touch h.pending t.moved (slice_index bytes))) d.memory (d.tape ++ entry.Move (move_of port slot t bytes) ∷ []) (record (d.port port) { taken = changed (d.port port).taken slot (Some (record t { moved = t.moved + 1 })); disk = disk_with_sector (d.port port).disk (next_sector t) bytes }) port slot v) (sym u)
              (moved_slot (after_step m (Touch h.pending t.moved (slice_index bytes))) d.memory (d.tape ++ entry.Move (move_of port slot t bytes) ∷ []) (disk_with_sector (d.port port).disk (next_sector t) bytes) (touch t.moved h.pending) (record t { moved = t.moved + 1 })
              (λ _ _. refl) (touch_moves m h.pending t.moved (slice_index bytes) h.may_still_move) refl refl refl refl progressed);
          fre = refl;
          received_at = refl;
          present = refl;
          name = refl;
          size = refl;
          sectors = λ t'. subst (λ (k : ℕ). SameSectors (after_step m (Touch h.pending t.moved (slice_index bytes))) (disk_with_sector (d.port port).disk k bytes) port) (sym sector)
              (sector_written m (after_step m (Touch h.pending t.moved (slice_index bytes))) (d.port port).disk port (sector_of h.pending.request t.moved) bytes (h.pending.request.blocks_at_acceptance t.moved) (λ k b. now (port_at port) k b) holds (a.sectors_are_same_if_disks_tell t' port));
          other_sectors = λ t' q ne. sectors_on m (after_step m (Touch h.pending t.moved (slice_index bytes))) (d.port q).disk q
              (λ k b lb. now (port_at q) k b ∙ ap (λ (f : Block). f b) (put_elsewhere (port_at port) (sector_of h.pending.request t.moved) (h.pending.request.blocks_at_acceptance t.moved) m.disk_bytes (port_at q) k (λ z _. ne z))) (a.sectors_are_same_if_disks_tell t' q);
          lasting = λ t'. lasting_on m (after_step m (Touch h.pending t.moved (slice_index bytes))) d.tape _ (d.port port) (d.port port) port refl refl (lasting_touched m h.pending t.moved (slice_index bytes) port) (gains_write d.tape (after_step m (Touch h.pending t.moved (slice_index bytes))) port slot t bytes port written) (a.knows_replug_candidates_if_disks_tell t' port);
          other_lasting = λ t' q ne. lasting_on m (after_step m (Touch h.pending t.moved (slice_index bytes))) d.tape _ (d.port q) (d.port q) q refl refl (lasting_touched m h.pending t.moved (slice_index bytes) q) (gains_write d.tape (after_step m (Touch h.pending t.moved (slice_index bytes))) port slot t bytes q written) (a.knows_replug_candidates_if_disks_tell t' q);
          memory = λ f b from small. a.client_frames_are_same f b from small ∙ ap (λ (g : state.Memory). g f b) (sym memory_kept);
        });
      }
        where
          write_is_no_read : {A : Type 0} → Write ≡ Read → A
          write_is_no_read z = absurd cc

          -- the machine's disk holds what was moved
          written : (b : ℕ) → b < 512 → slice_index bytes b ≡ (after_step m (Touch h.pending t.moved (slice_index bytes))).disk_bytes (port_at port) (next_sector t) b
          written b lb =
              holds b lb
              ∙ ap (λ (f : Block). f b) (sym (put_there (port_at port) (sector_of h.pending.request t.moved) (h.pending.request.blocks_at_acceptance t.moved) m.disk_bytes))
              ∙ sym (now (port_at port) (sector_of h.pending.request t.moved) b)
              ∙ ap (λ (k : ℕ). (after_step m (Touch h.pending t.moved (slice_index bytes))).disk_bytes (port_at port) k b) (sym sector)

    -- ---- a trim's block

    module _ (trims : h.pending.request.asked.op ≡ Trim) (o : client_operation_of t.meaning.operation ≡ Some Trim) (brings : bytes ≡ bytes_at d.memory (next_place t) 512) where
      trim_place : (t.places ≡ scratch_frame_address port ∷ []) × (t.moved ≡ 0) × (next_place t ≡ scratch_frame_address port)
      trim_place =
          let is : t.places ≡ scratch_frame_address port ∷ [] = subst (λ (w : Op). AreRequestPlaces w port h.pending.request t.places) trims means.places_are in
          let one : t.moved ≡ 0 = let n : length t.places ≡ 1 = ap length is in omega (arith, left, n) in
          (is, one, ap (λ (k : ℕ). slice_index t.places k) one ∙ ap (λ (l : List ℕ). slice_index l 0) is)

      was : TouchedAsMovedOrCleared Trim d.memory port h.pending t
      was = subst (λ (w : Op). TouchedAsMovedOrCleared w d.memory port h.pending t) trims x.progress

      names : MeansRange bytes h.pending.request
      names = ⊎_elim
          (λ (y : (t.moved ≡ 0) × (t.cleared ≡ 0) × MeansRange (bytes_at d.memory (scratch_frame_address port) 512) h.pending.request).
          subst (λ (l : List ℕ). MeansRange l h.pending.request) (ap (λ (k : ℕ). bytes_at d.memory k 512) (sym trim_place.2) ∙ sym brings) y.2)
          (λ (y : (t.moved ≡ 1) × MeansRange t.block h.pending.request). absurd (let z : t.moved ≡ 0 = trim_place.1 in omega (arith, z, y.0)))
          was.1

      fetched : TouchedAsMovedOrCleared h.pending.request.asked.op d.memory port h.pending (record t { moved = t.moved + 1; block = bytes })
      fetched = subst (λ (w : Op). TouchedAsMovedOrCleared w d.memory port h.pending (record t { moved = t.moved + 1; block = bytes })) (sym trims)
          (was.0, inr ((let z : t.moved ≡ 0 = trim_place.1 in let r : t.moved + 1 ≡ 1 = omega (arith, z) in r), names))

      pub block_follows : SimulatesSteps uses m d (record d {
        port = changed d.port port (record (d.port port) { taken = changed (d.port port).taken slot (Some (record t { moved = t.moved + 1; block = bytes })); disk = (d.port port).disk });
        tape = d.tape ++ entry.Move (move_of port slot t bytes) ∷ [];
      })
      block_follows = record {
        steps = [];
        steps_are_enabled = tt;
        disks_tell_sectors_is_same = refl;
        steps_are_faithful = λ _. tt;
        new_entries = _;
        tape_is = refl;
        tape_tells_steps = ([], [], subst (λ (w : Option Op). TellsTouchOrIsScratchMove w m (move_of port slot t bytes) []) (sym o) (trim_place.2, refl), refl, refl);
        plugged_disks_match_steps = plugged_kept d port _ [] refl (λ _. refl);
        state_relation = acted NoPort uses m m d a d.memory (d.tape ++ entry.Move (move_of port slot t bytes) ∷ []) port slot _ (record {
          id = record { 0 = 0 };
          goes = Goes-refl m (record { 0 = 0 });
          moves = λ port' slot' id' v ne y is r. r;
          only = λ q z. absurd z;
          fixed = fixed_more uses d.memory d.tape (entry.Move (move_of port slot t bytes)) (clients_move uses m d a port slot t bytes Trim o);
          others = others_same _ _;
          here = subst (λ (v : SlotState). RelatesSlot m d.memory (d.tape ++ entry.Move (move_of port slot t bytes) ∷ []) (record (d.port port) { taken = changed (d.port port).taken slot (Some (record t { moved = t.moved + 1; block = bytes })); disk = (d.port port).disk }) port slot v) (sym u)
              (moved_slot m d.memory (d.tape ++ entry.Move (move_of port slot t bytes) ∷ []) (d.port port).disk h.pending (record t { moved = t.moved + 1; block = bytes }) (λ _ _. refl) h.may_still_move refl refl refl refl fetched);
          fre = refl;
          received_at = refl;
          present = refl;
          name = refl;
          size = refl;
          sectors = λ t'. a.sectors_are_same_if_disks_tell t' port;
          other_sectors = λ t' q ne. a.sectors_are_same_if_disks_tell t' q;
          lasting = λ t'. lasting_on m m d.tape _ (d.port port) (d.port port) port refl refl (λ _ _ held. held) (gains_quiet d.tape _ m port (quiet_move port slot t bytes (no_write o))) (a.knows_replug_candidates_if_disks_tell t' port);
          other_lasting = λ t' q ne. lasting_on m m d.tape _ (d.port q) (d.port q) q refl refl (λ _ _ held. held) (gains_quiet d.tape _ m q (quiet_move port slot t bytes (no_write o))) (a.knows_replug_candidates_if_disks_tell t' q);
          memory = a.client_frames_are_same;
        });
      }
        where
          no_write : {w : Option Op} → w ≡ Some Trim → w ≡ Some Write → ⊥
          no_write r w = let z : Some Trim ≡ Some Write = sym r ∙ w in cc
