-- Steps of the hardware, of a port by its index in the array.
use Rattle.std.proofs.Common.{ℕ, Bool, true, false, ◌≡◌, ◌<◌, List, [], ◌∷◌, ◌++◌, Option, Some, length, nat_eq, ◌⊎◌, refl, sym, ◌∙◌, ap, subst, inl, inr}
use Rattle.std.specs.Prelude.{slice_set, slice_index_or, IfSome, if◌then◌else◌}
use Rattle.std.specs.Global.{Vec}
use Rattle.adapter.specs.Commands.{Meaning, direction_of, is_queued, moves_disk_sectors, reads_memory}
use Rattle.adapter.specs.Device.{Disk, DurableState, DevicePort, Device, IsValidSector}
use Rattle.adapter.specs.Memory.{changed, patched, bytes_at}
use Rattle.adapter.specs.Decoding.{DecodesTo}
use Rattle.adapter.specs.Steps.{AreBsyDrqBits, admits, device_after, IsFinished, MayBeDone, MayFault, MayFetch, MayFetchFault, MayMove, MayBring, with_port_and_entry, port_after_clear, port_after_fault, port_after_fetch, port_after_move, port_after_done_except_lasting, port_with_lasting_after_operation, clear_entry, done_entry, fault_entry, move_of, snapshot_of_bytes, memory_after_move, next_place, next_sector}
use Rattle.adapter.specs.Steps.DeviceTransition.{Clear, FetchFault, Move, Unplug, Plug}
use Rattle.adapter.specs.declared.access.FatalError.{FatalError}
use Rattle.adapter.specs.declared.access.FatalError.TheVariants.{Interface, HostBus}
use Rattle.adapter.specs.declared.command.Direction.{Direction}
use Rattle.adapter.specs.declared.command.Operation.{Operation}
use Rattle.adapter.specs.declared.command.Operation.TheVariants.{Identify}
use Rattle.adapter.specs.declared.tape.Entry.{Entry}
use Rattle.adapter.specs.declared.tape.Entry.TheVariants as entry
use Rattle.adapter.specs.declared.tape.Move as tape_move
use Rattle.adapter.specs.AskedSteps.{DoesFatal, DoesFault, DoesFetch, EndsAndPosts, fatal_bit}
use Rattle.device_model.specs.FetchedBytes.{bytes_of}
use Rattle.device_model.specs.SentFises.{SendsEnd}
use Rattle.device_model.specs.Slots.{IsFetchableIfHaltAdmits, MayTakeIfDecoded, WorksOnIn, IsNextMove}
use Rattle.device_model.specs.PortView.{Media, cause_of, halt_of, taken_in, bsy_if_disk_left_busy, media_after_move, media_after_clear, media_after_end, port_of, taken_of, reset_port_without_disk}
use Rattle.device_model.specs.WholeAdapter.{AllMedia, device_of, media_after_plug, all_media_after_move, all_media_after_clear, all_media_after_end, all_media_after_plug}
use Rattle.device_model.specs.declared.port.TakenCommand.{TakenCommand}
use Rattle.adapter.specs.declared.command.Operation.TheVariants as operation
use Rattle.device_model.specs.declared.port.PortModel.{PortModel}
use Rattle.device_model.specs.declared.hardware.Hardware.{Hardware}
use Rattle.device_model.specs.declared.steps.NextMove.{NextMove}
use Rattle.device_model.proofs.SlotLemmas.{slot_taken}
use Rattle.device_model.proofs.Ports.{set_port, set_port_plugged, set_port_recorded, set_port_moved}

-- an entry of a move, by its parts
abbrev pub moved_by : (port slot : ℕ) (operation : Operation) (sector address : ℕ) (direction : Direction) (bytes : List ℕ) → tape_move.Move
moved_by port slot operation sector address direction bytes = record {
  port = record { 0 = port };
  slot = record { 0 = slot };
  operation = operation;
  sector = sector;
  address = address;
  direction = direction;
  bytes = snapshot_of_bytes bytes;
}

-- a command is taken
pub port_takes : (h : Hardware) (o : AllMedia) (p port slot : ℕ) (new : PortModel) (t : TakenCommand) → p ≡ port → p < length h.ports →
    MayTakeIfDecoded (port_of (slice_index_or h.ports p reset_port_without_disk) (o.media p)) slot t.operation →
    DecodesTo (device_of h o).memory ((device_of h o).port p).bases.clb slot (taken_of t).meaning (taken_of t).places →
    port_of new (o.media p) ≡ port_after_fetch (port_of (slice_index_or h.ports p reset_port_without_disk) (o.media p)) slot (taken_of t).meaning (taken_of t).places →
    DoesFetch port slot (device_of h o) (device_of (record h { ports = slice_set h.ports p new }) o)
port_takes h o p port slot new t e small may says is =
    subst (λ q. DoesFetch q slot (device_of h o) (device_of (record h { ports = slice_set h.ports p new }) o)) e
    (record {
      meaning = (taken_of t).meaning;
      places = (taken_of t).places;
      can = record { fetchable = may.fetchable; working = may.working; is_alone_or_all_are_queued = may.is_alone_or_all_are_queued; says = says };
      effect = set_port h o p new _ small is;
    })

-- where a command may be fetched, it may be taken
pub fetch_takes : (h : Hardware) (o : AllMedia) (p port slot : ℕ) (m : Meaning) (places : List ℕ) → p ≡ port →
    MayFetch (device_of h o) port slot m places → MayTakeIfDecoded (port_of (slice_index_or h.ports p reset_port_without_disk) (o.media p)) slot m.operation
fetch_takes h o p port slot m places e may =
    rw e (record { fetchable = may.fetchable; working = may.working; is_alone_or_all_are_queued = may.is_alone_or_all_are_queued })

-- and its bytes say it
pub fetch_says : (h : Hardware) (o : AllMedia) (p port slot : ℕ) (m : Meaning) (places : List ℕ) → p ≡ port →
    MayFetch (device_of h o) port slot m places → DecodesTo (bytes_of h.memory.items) (slice_index_or h.ports p reset_port_without_disk).addresses.clb slot m places
fetch_says h o p port slot m places e may = rw e may.says

-- the disk is taken out
pub unplugged : (h : Hardware) (o : AllMedia) (p port : ℕ) (new : PortModel) (tape : Vec Entry) → p ≡ port → p < length h.ports →
    port_of new (o.media p) ≡ record (port_of (slice_index_or h.ports p reset_port_without_disk) (o.media p)) { ssts_det = 0; present = false; fresh = false; serr_n = true } →
    tape.items ≡ h.tape.items ++ entry.Unplug (record { 0 = port }) ∷ [] →
    device_of (record h { ports = slice_set h.ports p new; tape = tape }) o ≡ device_after (Unplug port) (device_of h o)
unplugged h o p port new tape e small is more =
    let P : ℕ → Type 0 = λ q. device_of (record h { ports = slice_set h.ports p new; tape = tape }) o ≡ device_after (Unplug q) (device_of h o) in
    subst P e (set_port_recorded h o p new _ tape (entry.Unplug (record { 0 = p })) small is (rw (← e) at more))

-- what of another disk is lasting, or of the same
lasting_put : (same : Bool) (was comes : Option (ℕ → List ℕ)) (at here since : ℕ) → since ≡ (if same then at else here) →
    ◌≡◌ {A = DurableState} (record { sectors = if same then was else comes; tape_length = since }) (if same then record { sectors = was; tape_length = at } else record { sectors = comes; tape_length = here })
lasting_put true was comes at here since e = λ i. record { sectors = was; tape_length = e i }
lasting_put false was comes at here since e = λ i. record { sectors = comes; tape_length = e i }

-- a disk is put in
pub plugged_in : (h : Hardware) (o : AllMedia) (p port : ℕ) (new : PortModel) (tape : Vec Entry) (disk : Disk) (number since : ℕ) → disk.name ≡ number → p ≡ port → p < length h.ports →
    since ≡ (if nat_eq disk.name (o.media p).disk.name then (slice_index_or h.ports p reset_port_without_disk).lasting_tape_length else length h.tape.items) →
    ((m : Media) → port_of new m ≡ record (port_of (slice_index_or h.ports p reset_port_without_disk) m) { ssts_det = 3; present = true; fresh = false; serr_n = true; serr_x = true; lasting = record { sectors = m.lasting; tape_length = since } }) →
    tape.items ≡ h.tape.items ++ entry.Plug (record { 0 = port }) number ∷ [] →
    device_of (record h { ports = slice_set h.ports p new; tape = tape }) (all_media_after_plug o port disk) ≡ device_after (Plug port disk) (device_of h o)
plugged_in h o p port new tape disk number since name e some lasts is more =
    let media : Media = media_after_plug (o.media p) disk in
    let state : DevicePort = port_of (slice_index_or h.ports p reset_port_without_disk) media in
    let lasting = lasting_put (nat_eq disk.name (o.media p).disk.name) (o.media p).lasting disk.sectors (slice_index_or h.ports p reset_port_without_disk).lasting_tape_length (length h.tape.items) since lasts in
    let named : entry.Plug (record { 0 = p }) number ≡ entry.Plug (record { 0 = p }) disk.name = ap (entry.Plug (record { 0 = p })) (sym name) in
    let P : ℕ → Type 0 = λ q. device_of (record h { ports = slice_set h.ports p new; tape = tape }) (all_media_after_plug o q disk) ≡ device_after (Plug q disk) (device_of h o) in
    subst P e
    (set_port_plugged h o p new media _ tape (entry.Plug (record { 0 = p }) disk.name) some
    (is media ∙ ap (λ (l : DurableState). record state { ssts_det = 3; present = true; fresh = false; serr_n = true; serr_x = true; lasting = l }) lasting)
    (rw (← e) at more ∙ ap (λ (x : Entry). h.tape.items ++ x ∷ []) named))

is_cause : (k : Operation) → (cause_of k ≡ 0) ⊎ (cause_of k ≡ 1) ⊎ (cause_of k ≡ 3)
is_cause operation.Identify = inr (inl refl)
is_cause operation.Flush = inl refl
is_cause operation.Trim = inl refl
is_cause operation.ReadLog = inr (inl refl)
is_cause operation.Read = inl refl
is_cause operation.Write = inl refl
is_cause operation.ReadQueued = inr (inr refl)
is_cause operation.WriteQueued = inr (inr refl)

-- a command of which nothing is left may end
pub may_end : (h : Hardware) (o : AllMedia) (port slot : ℕ) (t : TakenCommand) → WorksOnIn (slice_index_or h.ports port reset_port_without_disk) slot t →
    IsFinished (taken_of t) → MayBeDone (device_of h o) port slot (cause_of t.operation) (taken_of t)
may_end h o port slot t holds all = record {
  works = holds.works (o.media port);
  finished = all;
  cause_is_allowed = is_cause t.operation;
}

-- a command is at its end, and its FIS is sent
pub port_ends : (h : Hardware) (o : AllMedia) (p port slot : ℕ) (new : PortModel) (t : TakenCommand) (tape : Vec Entry) (last : Device) → p ≡ port →
    p < length h.ports → WorksOnIn (slice_index_or h.ports p reset_port_without_disk) slot t → IsFinished (taken_of t) →
    port_of new (media_after_end (o.media p) t.operation) ≡ port_with_lasting_after_operation (port_after_done_except_lasting (port_of (slice_index_or h.ports p reset_port_without_disk) (o.media p)) slot (cause_of t.operation) t.operation) t.operation (length h.tape.items) →
    tape.items ≡ h.tape.items ++ done_entry port slot t.operation ∷ [] →
    SendsEnd slot p (cause_of t.operation) t.operation (device_of (record h { ports = slice_set h.ports p new; tape = tape }) (all_media_after_end o p t.operation)) last →
    EndsAndPosts (SendsEnd slot) port slot (device_of h o) last
port_ends h o p port slot new t tape last e small holds all is more sends =
    subst (λ q. EndsAndPosts (SendsEnd slot) q slot (device_of h o) last) e
    (record {
      after_end = device_of (record h { ports = slice_set h.ports p new; tape = tape }) (all_media_after_end o p t.operation);
      done = record {
        cause_bit = cause_of t.operation;
        fetched_command = taken_of t;
        can = may_end h o p slot t holds all;
        effect = set_port_plugged h o p new (media_after_end (o.media p) t.operation) _ tape (done_entry p slot t.operation) small is (rw e more);
      };
      posts = sends;
    })

-- what is issued and means no command may fail for that, where no fault keeps it waiting
pub may_fail_senseless : (h : Hardware) (o : AllMedia) (p port slot : ℕ) → p ≡ port → IsFetchableIfHaltAdmits (slice_index_or h.ports p reset_port_without_disk) slot →
    admits (halt_of (slice_index_or h.ports p reset_port_without_disk).halting) Identify ≡ true →
    ((m : Meaning) (places : List ℕ) → DecodesTo (bytes_of h.memory.items) (slice_index_or h.ports p reset_port_without_disk).addresses.clb slot m places → ⊥) →
    MayFetchFault (device_of h o) port slot 0
may_fail_senseless h o p port slot e may admitted none =
    let w = may (o.media p) Identify admitted in
    let P : ℕ → Type 0 = λ q. MayFetchFault (device_of h o) q slot 0 in
    subst P e (record { fetchable = w.0; working = w.1; says_nothing = none; kept_bits_are_allowed = refl })

-- and it does
pub port_fails_senseless : (h : Hardware) (o : AllMedia) (p port slot : ℕ) (new : PortModel) (tape : Vec Entry) → p ≡ port → p < length h.ports →
    port_of new (o.media p) ≡ port_after_fault (port_of (slice_index_or h.ports p reset_port_without_disk) (o.media p)) false 4 0 →
    tape.items ≡ h.tape.items ++ fault_entry port slot 4 0 ∷ [] →
    device_of (record h { ports = slice_set h.ports p new; tape = tape }) o ≡ device_after (FetchFault port slot false 0) (device_of h o)
port_fails_senseless h o p port slot new tape e small is more =
    let P : ℕ → Type 0 = λ q. device_of (record h { ports = slice_set h.ports p new; tape = tape }) o ≡ device_after (FetchFault q slot false 0) (device_of h o) in
    subst P e (set_port_recorded h o p new _ tape (fault_entry p slot 4 0) small is (rw (← e) at more))

-- BSY is one of the bits that may be left set
kept_well : (busy : Bool) → AreBsyDrqBits (bsy_if_disk_left_busy busy)
kept_well true = refl
kept_well false = refl

-- a command that is taken may fail, while the engine runs
pub may_fail : (h : Hardware) (o : AllMedia) (port slot error : ℕ) (busy : Bool) (t : TakenCommand) → error < 256 → taken_in (slice_index_or h.ports port reset_port_without_disk).taken slot ≡ Some t →
    (slice_index_or h.ports port reset_port_without_disk).cr ≡ true → MayFault ((device_of h o).port port) slot error (bsy_if_disk_left_busy busy) (taken_of t)
may_fail h o port slot error busy t byte held cr = record {
  taken = slot_taken (taken_in (slice_index_or h.ports port reset_port_without_disk).taken) t slot held;
  cr_is_set = cr;
  is_byte = byte;
  kept_bits_are_allowed = kept_well busy;
}

-- and it does
pub port_fails : (h : Hardware) (o : AllMedia) (p port slot error : ℕ) (busy : Bool) (new : PortModel) (t : TakenCommand) (queued : Bool) (tape : Vec Entry) → p ≡ port →
    p < length h.ports → error < 256 → taken_in (slice_index_or h.ports port reset_port_without_disk).taken slot ≡ Some t → (slice_index_or h.ports port reset_port_without_disk).cr ≡ true →
    queued ≡ is_queued t.operation → port_of new (o.media p) ≡ port_after_fault (port_of (slice_index_or h.ports p reset_port_without_disk) (o.media p)) queued error (bsy_if_disk_left_busy busy) →
    tape.items ≡ h.tape.items ++ fault_entry port slot error (bsy_if_disk_left_busy busy) ∷ [] →
    (f : DoesFault port slot error (bsy_if_disk_left_busy busy) (device_of h o) (device_of (record h { ports = slice_set h.ports p new; tape = tape }) o)) × (queued ≡ is_queued f.fetched_command.meaning.operation)
port_fails h o p port slot error busy new t queued tape e small byte held cr kind is more = (
  record {
    fetched_command = taken_of t;
    can = may_fail h o port slot error busy t byte held cr;
    effect =
        let P : ℕ → Type 0 = λ q. device_of (record h { ports = slice_set h.ports p new; tape = tape }) o
        ≡ with_port_and_entry (device_of h o) q (port_after_fault ((device_of h o).port q) (is_queued t.operation) error (bsy_if_disk_left_busy busy)) (fault_entry q slot error (bsy_if_disk_left_busy busy)) in
        subst P e
        (set_port_recorded h o p new _ tape (fault_entry p slot error (bsy_if_disk_left_busy busy)) small
        (is ∙ ap (λ (b : Bool). port_after_fault (port_of (slice_index_or h.ports p reset_port_without_disk) (o.media p)) b error (bsy_if_disk_left_busy busy)) kind) (rw (← e) at more));
  },
  kind,
)

-- a fatal error that there is
pub is_fatal : (error : FatalError) → (fatal_bit error ≡ 27) ⊎ (fatal_bit error ≡ 29)
is_fatal Interface = inl refl
is_fatal HostBus = inr refl

-- a port meets one, while its engine runs
pub port_breaks : (h : Hardware) (o : AllMedia) (p port : ℕ) (error : FatalError) (new : PortModel) (tape : Vec Entry) → p ≡ port → p < length h.ports →
    (slice_index_or h.ports p reset_port_without_disk).cr ≡ true →
    port_of new (o.media p) ≡ (let state = port_of (slice_index_or h.ports p reset_port_without_disk) (o.media p) in record state { is = changed state.is (fatal_bit error) true; broken = true }) →
    tape.items ≡ h.tape.items ++ entry.Fatal (record { 0 = port }) ∷ [] →
    DoesFatal port error (device_of h o) (device_of (record h { ports = slice_set h.ports p new; tape = tape }) o)
port_breaks h o p port error new tape e small runs is more =
    let P : ℕ → Type 0 = λ q. DoesFatal q error (device_of h o) (device_of (record h { ports = slice_set h.ports p new; tape = tape }) o) in
    subst P e
    (record {
      can = (runs, is_fatal error);
      effect = set_port_recorded h o p new _ tape (entry.Fatal (record { 0 = p })) small is (rw (← e) at more);
    })

-- the next piece of a command is moved
pub port_moves : (h : Hardware) (o : AllMedia) (p port slot : ℕ) (next : NextMove) (new : PortModel) (t : TakenCommand) (tape : Vec Entry) (memory : Vec ℕ)
    (bytes : List ℕ) (operation : Operation) (direction : Direction) → p ≡ port → p < length h.ports → IsNextMove h port slot next t →
    port_of new (media_after_move (o.media p) (taken_of t) bytes) ≡ port_after_move (port_of (slice_index_or h.ports p reset_port_without_disk) (o.media p)) slot (taken_of t) bytes →
    operation ≡ next.operation → direction ≡ direction_of next.operation →
    tape.items ≡ h.tape.items ++ entry.Move (moved_by port slot operation next.sector next.address direction bytes) ∷ [] →
    length memory.items ≡ length h.memory.items →
    bytes_of memory.items
    ≡ (if reads_memory next.operation then bytes_of h.memory.items else patched (bytes_of h.memory.items) next.address bytes) →
    device_of (record h { memory = memory; ports = slice_set h.ports p new; tape = tape }) (all_media_after_move o port (taken_of t) bytes)
    ≡ device_after (Move port slot (taken_of t) bytes) (device_of h o)
port_moves h o p port slot next new t tape memory bytes operation direction e small is moves named way more size put =
    let kind : next.operation ≡ t.operation = is.operation_is in
    let sector : next.sector ≡ next_sector (taken_of t) = is.sector_is in
    let place : next.address ≡ next_place (taken_of t) = is.address_is in
    let asks : operation ≡ t.operation = named ∙ kind in
    let goes : direction ≡ direction_of t.operation = way ∙ ap direction_of kind in
    let back : port ≡ p = sym e in
    let entries : tape.items ≡ h.tape.items ++ entry.Move (move_of p slot (taken_of t) bytes) ∷ [] =
    more ∙ (λ i. h.tape.items ++ entry.Move (moved_by (back i) slot (asks i) (sector i) (place i) (goes i) bytes) ∷ []) in
    let kept : bytes_of memory.items ≡ memory_after_move (bytes_of h.memory.items) (taken_of t) bytes =
    put ∙ (λ i. if reads_memory (kind i) then bytes_of h.memory.items else patched (bytes_of h.memory.items) (place i) bytes) in
    let new_memory : Vec ℕ = memory in
    subst (λ q. device_of (record h { memory = new_memory; ports = slice_set h.ports p new; tape = tape }) (all_media_after_move o q (taken_of t) bytes)
    ≡ device_after (Move q slot (taken_of t) bytes) (device_of h o)) e
    (set_port_moved h o p new (media_after_move (o.media p) (taken_of t) bytes) (port_after_move ((device_of h o).port p) slot (taken_of t) bytes) tape
    (entry.Move (move_of p slot (taken_of t) bytes)) new_memory (memory_after_move (bytes_of h.memory.items) (taken_of t) bytes) small moves entries size kept)

-- what the disk gave or took may be moved
pub may_move : (h : Hardware) (o : AllMedia) (port slot : ℕ) (next : NextMove) (t : TakenCommand) (bytes : List ℕ) → IsNextMove h port slot next t →
    IsValidSector bytes → (moves_disk_sectors next.operation ≡ true → next.sector < (o.media port).disk.sector_count) →
    (moves_disk_sectors next.operation ≡ true → reads_memory next.operation ≡ false → IfSome (o.media port).disk.sectors (λ f. bytes ≡ f next.sector)) →
    (reads_memory next.operation ≡ true → bytes ≡ bytes_at (bytes_of h.memory.items) next.address 512) → MayMove (device_of h o) port slot (taken_of t) bytes
may_move h o port slot next t bytes is sized small gives takes =
    record {
      works = is.works_on.works (o.media port);
      piece_is_left = is.piece_is_left;
      bytes_are_sector = sized;
      brings = subst (λ (k : Operation). MayBring (o.media port).disk (bytes_of h.memory.items) (taken_of t) k bytes) is.operation_is
          (by next.operation refl);
    }
  where
    given : moves_disk_sectors next.operation ≡ true → reads_memory next.operation ≡ false →
        (next_sector (taken_of t) < (o.media port).disk.sector_count) × IfSome (o.media port).disk.sectors (λ f. bytes ≡ f (next_sector (taken_of t)))
    given moves_sectors reads =
        let sector : next.sector ≡ next_sector (taken_of t) = is.sector_is in
        (rw sector at (small moves_sectors), rw sector at (gives moves_sectors reads))

    taken : moves_disk_sectors next.operation ≡ true → reads_memory next.operation ≡ true →
        (next_sector (taken_of t) < (o.media port).disk.sector_count) × (bytes ≡ bytes_at (bytes_of h.memory.items) (next_place (taken_of t)) 512)
    taken moves_sectors reads =
        let sector : next.sector ≡ next_sector (taken_of t) = is.sector_is in
        let place : next.address ≡ next_place (taken_of t) = is.address_is in
        (rw sector at (small moves_sectors), rw place at (takes reads))

    by : (k : Operation) → next.operation ≡ k → MayBring (o.media port).disk (bytes_of h.memory.items) (taken_of t) k bytes
    by operation.Read e = given (ap moves_disk_sectors e) (ap reads_memory e)
    by operation.Write e = taken (ap moves_disk_sectors e) (ap reads_memory e)
    by operation.ReadQueued e = given (ap moves_disk_sectors e) (ap reads_memory e)
    by operation.WriteQueued e = taken (ap moves_disk_sectors e) (ap reads_memory e)
    by operation.Identify e = tt
    by operation.Flush e = tt
    by operation.ReadLog e = tt
    by operation.Trim e =
        let place : next.address ≡ next_place (taken_of t) = is.address_is in rw place at (takes (ap reads_memory e))

-- sectors of a trim are cleared
pub port_clears : (h : Hardware) (o : AllMedia) (p port slot first count : ℕ) (new : PortModel) (t : TakenCommand) (tape : Vec Entry) → p ≡ port →
    p < length h.ports →
    port_of new (media_after_clear (o.media p) first count) ≡ port_after_clear (port_of (slice_index_or h.ports p reset_port_without_disk) (o.media p)) slot (taken_of t) first count →
    tape.items ≡ h.tape.items ++ clear_entry port slot first count ∷ [] →
    device_of (record h { ports = slice_set h.ports p new; tape = tape }) (all_media_after_clear o port first count) ≡ device_after (Clear port slot (taken_of t) first count) (device_of h o)
port_clears h o p port slot first count new t tape e small is more =
    let new_tape : Vec Entry = tape in
    let back : port ≡ p = sym e in
    let entries : tape.items ≡ h.tape.items ++ clear_entry p slot first count ∷ [] = more ∙ (λ i. h.tape.items ++ clear_entry (back i) slot first count ∷ []) in
    subst (λ q. device_of (record h { ports = slice_set h.ports p new; tape = new_tape }) (all_media_after_clear o q first count)
    ≡ device_after (Clear q slot (taken_of t) first count) (device_of h o)) e
    (set_port_plugged h o p new (media_after_clear (o.media p) first count) _ tape (clear_entry p slot first count) small is entries)
