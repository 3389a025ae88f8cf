-- What a disk and the memory exchange, where it stands in memory.
use Rattle.std.proofs.Common.{ℕ, ◌≡◌, ◌<◌, ◌≤◌, ◌+◌, ◌-◌, ◌*◌, Bool, true, false, Some, List, [], ◌∷◌, ◌++◌, length, take, drop, sym}
use Rattle.std.proofs.Common.{◌∙◌, ap, subst, arith, get_or-set_same, length-take, length-drop, slice_index}
use Rattle.std.specs.Prelude.{if◌then◌else◌, slice_index_or, slice_set}
use Rattle.std.specs.Global.{Vec}
use Rattle.std.specs.Vec.{with_items}
use Rattle.std.proofs.Math.Seq.{drop-append_seam, take-append_seam}
use Rattle.std.proofs.lemmas.List.{drop-drop, take-append-drop, with_items_is}
use Rattle.adapter.specs.Commands.{direction_of, moves_disk_sectors, reads_memory}
use Rattle.adapter.specs.Device.{Device}
use Rattle.adapter.specs.Memory.{patched}
use Rattle.adapter.specs.Decoding.{pieces}
use Rattle.adapter.specs.Steps.{IsWorking, device_after, next_sector, port_after_move}
use Rattle.adapter.specs.Steps.DeviceTransition.{Move}
use Rattle.adapter.specs.declared.command.Direction.{Direction}
use Rattle.adapter.specs.declared.command.Operation.{Operation}
use Rattle.adapter.specs.declared.tape.Entry.{Entry}
use Rattle.adapter.specs.declared.tape.Entry.TheVariants as entry
use Rattle.device_model.specs.PieceTransfers.{IsTransferred, piece_in_memory}
use Rattle.device_model.specs.FetchedBytes.{bytes_of}
use Rattle.device_model.specs.Finishing.{TapeHasRoom}
use Rattle.device_model.specs.Slots.{WorksOnIn, IsNextMove}
use Rattle.device_model.specs.PortView.{reset_port_without_disk, taken_in, media_after_move, port_of, taken_of}
use Rattle.device_model.specs.WholeAdapter.{AllMedia, device_of, all_media_after_move}
use Rattle.device_model.specs.declared.hardware.Hardware.{Hardware}
use Rattle.device_model.specs.declared.port.PortModel.{PortModel}
use Rattle.device_model.specs.declared.port.TakenCommand.{TakenCommand}
use Rattle.device_model.specs.declared.steps.NextMove.{NextMove}
use Rattle.device_model.proofs.Absurd.{fun_ext}
use Rattle.device_model.proofs.Bytes.{bytes_at-list, put_length, put_reads}
use Rattle.device_model.proofs.SlotLemmas.{slot_taken}
use Rattle.device_model.proofs.Stepping.{moved_by, port_moves}

-- a list with these bytes in the place of so many
abbrev pub over : (at k : ℕ) (d b : List ℕ) → List ℕ
over at k d b = take at d ++ (b ++ drop k (drop at d))

over_put : (at k : ℕ) (d b : List ℕ) → length b ≡ k → over at k d b ≡ take at d ++ (b ++ drop (at + length b) d)
over_put at k d b size =
    ap (λ (l : List ℕ). take at d ++ (b ++ l)) (drop-drop k at d ∙ ap (λ (n : ℕ). drop (at + n) d) (sym size))

over_same : (at k : ℕ) (d : List ℕ) → over at k d (take k (drop at d)) ≡ d
over_same at k d = ap (λ (l : List ℕ). take at d ++ l) (take-append-drop k (drop at d)) ∙ take-append-drop at d

over_there : (at k : ℕ) (d b : List ℕ) → at + k ≤ length d → length b ≡ k → take k (drop at (over at k d b)) ≡ b
over_there at k d b small size =
    let e : length (take at d) ≡ at = simp length-take (omega arith) in
    let rest : List ℕ = drop k (drop at d) in
    let past : drop at (over at k d b) ≡ b ++ rest =
    ap (λ (n : ℕ). drop n (take at d ++ (b ++ rest))) (sym e) ∙ drop-append_seam (take at d) (b ++ rest) in
    ap (λ (l : List ℕ). take k l) past ∙ (ap (λ (n : ℕ). take n (b ++ rest)) (sym size) ∙ take-append_seam b rest)

-- the hardware, where these bytes stand
abbrev pub with_piece : (h : Hardware) (at k : ℕ) (d b : List ℕ) → Hardware
with_piece h at k d b = record h { memory = with_items h.memory (over at k d b) }

with_piece_is : (h : Hardware) (at k : ℕ) (d b : List ℕ) → d ≡ h.memory.items → at + k ≤ length d → length b ≡ k →
    (with_piece h at k d b).memory.items ≡ over at k d b
with_piece_is h at k d b is small size =
    let ok = h.memory.ok.0 in
    let long : length (over at k d b) ≡ length d =
    ap length (over_put at k d b size) ∙ put_length d b at (omega (arith, small, size)) in
    let all : length d ≡ length h.memory.items = ap length is in
    with_items_is h.memory (over at k d b) (omega (arith, long, all, ok))

-- the piece that stood there
pub piece_was : (h : Hardware) (next : NextMove) (k : ℕ) (d : List ℕ) → d ≡ h.memory.items → k ≡ 512 →
    next.address + 512 ≤ length h.memory.items → piece_in_memory h next ≡ take k (drop next.address d)
piece_was h next k d is whole small =
    bytes_at-list h.memory.items next.address 512 small ∙ (λ i. take (sym whole i) (drop next.address (sym is i)))

-- and the one that stands there now
pub piece_is : (h : Hardware) (next : NextMove) (k : ℕ) (d b : List ℕ) → d ≡ h.memory.items → k ≡ 512 →
    next.address + 512 ≤ length h.memory.items → length b ≡ 512 → piece_in_memory (with_piece h next.address k d b) next ≡ b
piece_is h next k d b is whole small size =
    let all : length d ≡ length h.memory.items = ap length is in
    let items = with_piece_is h next.address k d b is (omega (arith, all, whole, small)) (omega (arith, size, whole)) in
    let long : length (over next.address k d b) ≡ length d =
    ap length (over_put next.address k d b (omega (arith, size, whole)))
    ∙ put_length d b next.address (omega (arith, all, size, small)) in
    let room : next.address + 512 ≤ length (with_piece h next.address k d b).memory.items =
    let e = ap length items in omega (arith, e, long, all, small) in
    bytes_at-list (with_piece h next.address k d b).memory.items next.address 512 room
    ∙ ((λ i. take (sym whole i) (drop next.address (items i)))
    ∙ over_there next.address k d b (omega (arith, all, whole, small)) (omega (arith, size, whole)))

pub exchanged : (h : Hardware) (next : NextMove) (k : ℕ) (d b : List ℕ) → d ≡ h.memory.items → k ≡ 512 →
    next.address + 512 ≤ length h.memory.items → length b ≡ 512 →
    (reads_memory next.operation ≡ true → b ≡ take k (drop next.address d)) →
    IsTransferred h (with_piece h next.address k d b) next
exchanged h next k d b is whole small size takes =
    record {
      rest_is_kept = λ _. with_piece h next.address k d b;
      memory_size_is_kept = ap length items ∙ (long ∙ all);
      memory_is = by (reads_memory next.operation) takes;
    }
  where
    all : length d ≡ length h.memory.items
    all = ap length is

    sized : length b ≡ k
    sized = omega (arith, size, whole)

    items : (with_piece h next.address k d b).memory.items ≡ over next.address k d b
    items = with_piece_is h next.address k d b is (let e = all in omega (arith, e, whole, small)) sized

    long : length (over next.address k d b) ≡ length d
    long =
        ap length (over_put next.address k d b sized)
        ∙ put_length d b next.address (let e = all in omega (arith, e, size, small))

    by : (reads : Bool) → (reads ≡ true → b ≡ take k (drop next.address d)) →
        bytes_of (with_piece h next.address k d b).memory.items
        ≡ (if reads then bytes_of h.memory.items
        else patched (bytes_of h.memory.items) next.address (piece_in_memory (with_piece h next.address k d b) next))
    by true same =
        ap (λ (l : List ℕ). bytes_of l)
        (items ∙ (ap (over next.address k d) (same (λ _. true)) ∙ (over_same next.address k d ∙ is)))
    by false same =
        let put : bytes_of (over next.address k d b) ≡ patched (bytes_of d) next.address b =
        fun_ext (λ a. ap (λ (l : List ℕ). bytes_of l a) (over_put next.address k d b sized)
        ∙ put_reads d b next.address a (let e = all in omega (arith, e, size, small))) in
        ap (λ (l : List ℕ). bytes_of l) items
        ∙ (put ∙ (λ i. patched (bytes_of (is i)) next.address (sym (piece_is h next k d b is whole small size) i)))

-- where it is what stood there, nothing is another
pub piece_stays : (h : Hardware) (o : AllMedia) (next : NextMove) (k : ℕ) (d b : List ℕ) → d ≡ h.memory.items → k ≡ 512 →
    next.address + 512 ≤ length h.memory.items → b ≡ take k (drop next.address d) →
    device_of (with_piece h next.address k d b) o ≡ device_of h o
piece_stays h o next k d b is whole small same =
    let all : length d ≡ length h.memory.items = ap length is in
    let sized : length b ≡ k = ap length same ∙ simp (length-take, length-drop) (omega (arith, all, whole, small)) in
    let items =
    with_piece_is h next.address k d b is (omega (arith, all, whole, small)) sized
    ∙ (ap (over next.address k d) same ∙ (over_same next.address k d ∙ is)) in
    λ i. record (device_of h o) { memory_size = length (items i); memory = bytes_of (items i) }

-- the next piece of a command is noted, where it was exchanged
pub port_moves_over : (old h : Hardware) (o : AllMedia) (p port slot : ℕ) (next : NextMove) (new : PortModel)
    (t : TakenCommand) (tape : Vec Entry) (operation : Operation) (direction : Direction) →
    IsTransferred old h next → p ≡ port → p < length h.ports → IsNextMove old port slot next t →
    port_of new (media_after_move (o.media p) (taken_of t) (piece_in_memory h next))
    ≡ port_after_move (port_of (slice_index_or h.ports p reset_port_without_disk) (o.media p)) slot (taken_of t) (piece_in_memory h next) →
    operation ≡ next.operation → direction ≡ direction_of next.operation →
    tape.items
    ≡ h.tape.items
    ++ entry.Move (moved_by port slot operation next.sector next.address direction (piece_in_memory h next)) ∷ [] →
    device_of (record h { ports = slice_set h.ports p new; tape = tape })
    (all_media_after_move o port (taken_of t) (piece_in_memory h next))
    ≡ device_after (Move port slot (taken_of t) (piece_in_memory h next)) (device_of old o)
port_moves_over old h o p port slot next new t tape operation direction is e small at moves named way more =
    let noted : Vec Entry = tape in
    let bytes : List ℕ = piece_in_memory h next in
    let effect : Device = device_after (Move port slot (taken_of t) bytes) (device_of old o) in
    let moved = port_moves old o p port slot next new t tape h.memory bytes operation direction e
    (subst (λ (x : Hardware). p < length x.ports) is.rest_is_kept small) at
    (subst (λ (x : Hardware). port_of new (media_after_move (o.media p) (taken_of t) bytes)
    ≡ port_after_move (port_of (slice_index_or x.ports p reset_port_without_disk) (o.media p)) slot (taken_of t) bytes) is.rest_is_kept moves)
    named way
    (subst (λ (x : Hardware). noted.items ≡ x.tape.items ++ entry.Move
    (moved_by port slot operation next.sector next.address direction bytes) ∷ []) is.rest_is_kept more)
    is.memory_size_is_kept is.memory_is in
    subst (λ (x : Hardware). device_of (record x { ports = slice_set x.ports p new; tape = noted })
    (all_media_after_move o port (taken_of t) bytes) ≡ effect) (sym is.rest_is_kept) moved

-- it is the next one still
pub next_over : {old h : Hardware} {next : NextMove} {t : TakenCommand} → (port slot : ℕ) → IsTransferred old h next →
    IsNextMove old port slot next t → IsNextMove h port slot next t
next_over {old} {h} {next} {t} port slot is at = record {
  works_on = subst (λ (x : Hardware). WorksOnIn (slice_index_or x.ports port reset_port_without_disk) slot t) (sym is.rest_is_kept) at.works_on;
  piece_is_left = at.piece_is_left;
  moved_fits = at.moved_fits;
  operation_is = at.operation_is;
  sector_is = at.sector_is;
  address_is = at.address_is;
  inside = let size = is.memory_size_is_kept in let inside = at.inside in omega (arith, size, inside);
  pieces_follow = record {
    pieces_are = at.pieces_follow.pieces_are;
    moved_fits = at.pieces_follow.moved_fits;
    inside = let size = is.memory_size_is_kept in let inside = at.pieces_follow.inside in omega (arith, size, inside);
    addresses_fit = at.pieces_follow.addresses_fit;
    sectors_fit = at.pieces_follow.sectors_fit;
    is_ranged_if_any = at.pieces_follow.is_ranged_if_any;
  };
}

-- it is the next one still, where the tape has grown
pub next_grown : {old h : Hardware} {next : NextMove} {t : TakenCommand} → (port slot : ℕ) → h ≡ record old { tape = h.tape } →
    IsNextMove old port slot next t → IsNextMove h port slot next t
next_grown {old} {h} {next} {t} port slot is at =
    let size : length h.memory.items ≡ length old.memory.items = ap (λ (x : Hardware). length x.memory.items) is in
    record {
      works_on = subst (λ (x : Hardware). WorksOnIn (slice_index_or x.ports port reset_port_without_disk) slot t) (sym is) at.works_on;
      piece_is_left = at.piece_is_left;
      moved_fits = at.moved_fits;
      operation_is = at.operation_is;
      sector_is = at.sector_is;
      address_is = at.address_is;
      inside = let inside = at.inside in omega (arith, size, inside);
      pieces_follow = record {
        pieces_are = at.pieces_follow.pieces_are;
        moved_fits = at.pieces_follow.moved_fits;
        inside = let inside = at.pieces_follow.inside in omega (arith, size, inside);
        addresses_fit = at.pieces_follow.addresses_fit;
        sectors_fit = at.pieces_follow.sectors_fit;
        is_ranged_if_any = at.pieces_follow.is_ranged_if_any;
      };
    }

-- the sector that a command names next, once one more piece is moved
one_further : (t : TakenCommand) (sector : ℕ) → moves_disk_sectors t.operation ≡ true → sector ≡ next_sector (taken_of t) →
    sector + 1 ≡ next_sector (taken_of (record t { moved = t.moved + 1 }))
one_further t sector moves_sectors is =
    let was : next_sector (taken_of t) ≡ t.first + t.moved = ap (λ (b : Bool). if b then t.first + t.moved else 0) moves_sectors in
    let now : next_sector (taken_of (record t { moved = t.moved + 1 })) ≡ t.first + (t.moved + 1) =
    ap (λ (b : Bool). if b then t.first + (t.moved + 1) else 0) moves_sectors in
    omega (arith, is, was, now)

-- once the next piece of a command is noted, the one behind it is next
pub next_after : (old : Hardware) (p port slot : ℕ) (next : NextMove) (t : TakenCommand) (new : PortModel) (tape : Vec Entry) (starved : Bool) →
    IsNextMove old port slot next t → 1 ≤ next.pieces_following → p ≡ port → p < length old.ports →
    new ≡ record (slice_index_or old.ports p reset_port_without_disk) { taken = new.taken } →
    taken_in new.taken slot ≡ Some (record t { moved = t.moved + 1 }) →
    IsNextMove (record old { ports = slice_set old.ports p new; tape = tape; starved = starved }) port slot
    (record next { sector = next.sector + 1; address = next.address + 512; pieces_following = next.pieces_following - 1 })
    (record t { moved = t.moved + 1 })
next_after old p port slot next t new tape starved at some e small same held =
    let u : TakenCommand = record t { moved = t.moved + 1 } in
    let there : slice_index_or (slice_set old.ports p new) port reset_port_without_disk ≡ new =
    ap (λ k. slice_index_or (slice_set old.ports p new) k reset_port_without_disk) (sym e) ∙ get_or-set_same old.ports p new reset_port_without_disk small in
    let inside = at.pieces_follow.inside in
    let one = at.pieces_follow.pieces_are 1 some in
    record {
      works_on = subst (λ (x : PortModel). WorksOnIn x slot u) (sym there)
          (record {
            is_taken = held;
            works = λ m.
                let was = (at.works_on.works m).working in
                let P : PortModel → Type 0 = λ x. IsWorking (port_of x m) t.operation in
                let here : PortModel = slice_index_or old.ports port reset_port_without_disk in
                let is : new ≡ record here { taken = new.taken } =
                same ∙ ap (λ k. record (slice_index_or old.ports k reset_port_without_disk) { taken = new.taken }) e in
                record {
                  taken = slot_taken (taken_in new.taken) u slot held;
                  working = subst P (sym is)
                      (record { cr_is_set = was.cr_is_set; present = was.present; fresh = was.fresh; admitted = was.admitted; is_not_broken = was.is_not_broken });
                };
          });
      piece_is_left = one.0;
      moved_fits = let room = at.pieces_follow.moved_fits in omega (arith, room, some);
      operation_is = at.operation_is;
      sector_is = one_further t next.sector (at.pieces_follow.is_ranged_if_any some) at.sector_is;
      address_is = sym one.1;
      inside = omega (arith, inside, some);
      pieces_follow = record {
        pieces_are = λ k few.
            let on = at.pieces_follow.pieces_are (k + 1) (omega (arith, few, some)) in
            let place : t.moved + 1 + k ≡ t.moved + (k + 1) = omega arith in
            let far : next.address + 512 * (k + 1) ≡ next.address + 512 + 512 * k = omega arith in
            (let lt = on.0 in omega (arith, lt), ap (λ j. slice_index (pieces t.prds) j) place ∙ (on.1 ∙ far));
        moved_fits = let room = at.pieces_follow.moved_fits in omega (arith, room, some);
        inside = omega (arith, inside, some);
        addresses_fit = let low = at.pieces_follow.addresses_fit in omega (arith, low, some);
        sectors_fit = let numbered = at.pieces_follow.sectors_fit in omega (arith, numbered, some);
        is_ranged_if_any = λ _. at.pieces_follow.is_ranged_if_any some;
      };
    }

-- the tape has the memory that it had
pub room_over : {old h : Hardware} {next : NextMove} → (n : ℕ) → IsTransferred old h next → TapeHasRoom old n → TapeHasRoom h n
room_over {old} {h} {next} n is room = subst (λ (x : Hardware). TapeHasRoom x n) (sym is.rest_is_kept) room

pub starved_over : {old h : Hardware} {next : NextMove} → IsTransferred old h next → h.starved ≡ old.starved
starved_over is = ap (λ (x : Hardware). x.starved) is.rest_is_kept
