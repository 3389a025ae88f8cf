-- What the device may do by itself between two accesses, step by step: when each step is possible, and what it changes.
-- The choices that the device makes stand in the step.
use Rattle.std.specs.Prelude.{ℕ, Bool, true, false, ◌≡◌, ◌+◌, ◌*◌, ◌^◌, ◌<◌, ◌≤◌, ◌⊎◌, ◌&&◌, ◌||◌, List, [], ◌∷◌, ◌++◌, length, Option, None, Some, IfSome, option_map, if◌then◌else◌, slice_index, bit_and, bit_or, take, drop, replicate, nat_le, nat_lt, nat_eq, ◌==◌, All, Contains}
use Rattle.std.specs.declared.snapshot.Snapshot.{Snapshot}
use Rattle.ata_types.specs.declared.memory.TheConstants.{HEADER_BYTES, RECEIVED_FIS_BYTES}
use Rattle.adapter.specs.Memory.{patched, bytes_at, changed}
use Rattle.adapter.specs.Commands.{Meaning, is_queued, moves_disk_sectors, reads_memory, direction_of}
use Rattle.adapter.specs.Device.{Disk, HasKnownSectors, HasValidSectors, IsValidSector, FetchedCommand, Halt, DurableState, DevicePort, Device}
use Rattle.adapter.specs.Device.Halt.{NotHalted, HaltedByPlain, HaltedByQueued, LogOnly}
use Rattle.adapter.specs.Decoding.{DecodesTo}
use Rattle.adapter.specs.Trim.{trim_sectors, consecutive}
use Rattle.adapter.specs.declared.command.Operation.{Operation}
use Rattle.adapter.specs.declared.command.Operation.TheVariants.{Identify, Read, Write, ReadQueued, WriteQueued, Trim, Flush, ReadLog}
use Rattle.adapter.specs.declared.tape.Move as tape_move
use Rattle.adapter.specs.declared.tape.Entry.{Entry}
use Rattle.adapter.specs.declared.tape.Entry.TheVariants as entry

-- One step of the device, with the choices that the device makes in it.
pub data DeviceTransition : Type 0 where
  -- an issued command is taken; its bytes mean no command; a piece is moved; sectors of a trim are cleared
  Fetch : (port slot : ℕ) (meaning : Meaning) (places : List ℕ) → DeviceTransition
  FetchFault : (port slot : ℕ) (queued : Bool) (kept_bits : ℕ) → DeviceTransition
  Move : (port slot : ℕ) (t : FetchedCommand) (bytes : List ℕ) → DeviceTransition
  Clear : (port slot : ℕ) (t : FetchedCommand) (first count : ℕ) → DeviceTransition
  -- a taken command ends without error, or fails; the port meets a fatal error (27 IFS, 29 HBFS)
  Done : (port slot cause_bit : ℕ) (t : FetchedCommand) → DeviceTransition
  Fault : (port slot error kept_bits : ℕ) (t : FetchedCommand) → DeviceTransition
  Fatal : (port place : ℕ) → DeviceTransition
  -- CR falls; FR falls; the link comes up
  Fall : (port : ℕ) → DeviceTransition
  FrFall : (port : ℕ) → DeviceTransition
  LinkUp : (port sig : ℕ) (n : Bool) → DeviceTransition
  Unplug : (port : ℕ) → DeviceTransition
  Plug : (port : ℕ) (disk : Disk) → DeviceTransition
  ResetEnds : DeviceTransition
  -- any bytes in the received FIS area or in the PRDBC of a taken slot
  Scribble : (port slot at : ℕ) (bytes : List ℕ) → DeviceTransition

-- ---- halts: which commands a port takes and works on, what a fault makes of it, and what setting ST makes of it

-- A halted port takes no command and works on none, except READ LOG EXT once ST was set after a queued command failed.
abbrev pub admits : Halt → Operation → Bool
admits NotHalted operation = true
admits LogOnly ReadLog = true
admits _ operation = false

-- The halt of a port after a command failed. After a queued one it lasts through the next start.
abbrev pub halt_after_fault : Halt → Bool → Halt
halt_after_fault HaltedByQueued queued = HaltedByQueued
halt_after_fault LogOnly queued = HaltedByQueued
halt_after_fault _ queued = if queued then HaltedByQueued else HaltedByPlain

-- The halt of a port after ST was set.
abbrev pub halt_after_start : Halt → Halt
halt_after_start HaltedByQueued = LogOnly
halt_after_start LogOnly = LogOnly
halt_after_start _ = NotHalted

-- ---- conditions that several steps have

-- the port works on commands of this kind
pub record IsWorking (p : DevicePort) (operation : Operation) : Type 0 where
  pub cr_is_set : p.cr ≡ true
  pub present : p.present ≡ true
  pub fresh : p.fresh ≡ true
  pub admitted : admits p.halt operation ≡ true
  pub is_not_broken : p.broken ≡ false

-- the port works on this command, which it has taken in this slot
pub record WorksOn (p : DevicePort) (slot : ℕ) (t : FetchedCommand) (operation : Operation) : Type 0 where
  pub taken : p.taken slot ≡ Some t
  pub working : IsWorking p operation

-- the slot's command is issued, and not taken yet
pub record IsFetchable (p : DevicePort) (slot : ℕ) : Type 0 where
  pub st_is_set : p.st ≡ true
  pub issued : p.ci slot ≡ true
  pub free : p.taken slot ≡ None

-- a plain command is taken alone, a queued one beside queued ones
abbrev pub IsAloneOrAllAreQueued : DevicePort → Operation → Type 0
IsAloneOrAllAreQueued p operation =
    (slot : ℕ) (t : FetchedCommand) → p.taken slot ≡ Some t → is_queued operation
    && is_queued t.meaning.operation ≡ true

-- BSY and DRQ may be left set, and no other bit
abbrev pub AreBsyDrqBits : ℕ → Type 0
AreBsyDrqBits kept_bits = bit_and kept_bits 0x88 ≡ kept_bits

-- ---- Fetch

-- The command of the slot may be taken: its bytes mean this, with these places of its pieces (AHCI 1.3.1, 5.3).
pub record MayFetch (d : Device) (port slot : ℕ) (meaning : Meaning) (places : List ℕ) : Type 0 where
  pub fetchable : IsFetchable (d.port port) slot
  pub working : IsWorking (d.port port) meaning.operation
  pub is_alone_or_all_are_queued : IsAloneOrAllAreQueued (d.port port) meaning.operation
  pub says : DecodesTo d.memory (d.port port).bases.clb slot meaning places

-- The port may fail at a slot whose bytes mean no command.
pub record MayFetchFault (d : Device) (port slot kept_bits : ℕ) : Type 0 where
  pub fetchable : IsFetchable (d.port port) slot
  pub working : IsWorking (d.port port) Identify
  pub says_nothing : (meaning : Meaning) (places : List ℕ)
      → DecodesTo d.memory (d.port port).bases.clb slot meaning places
      → ⊥
  pub kept_bits_are_allowed : AreBsyDrqBits kept_bits

-- A command as it is taken, with nothing moved or cleared.
abbrev pub newly_fetched : Meaning → List ℕ → FetchedCommand
newly_fetched meaning places = record { meaning = meaning; places = places; moved = 0; block = []; cleared = 0 }

-- The port after it took the command: a queued one leaves CI, and a plain one sets BSY.
abbrev pub port_after_fetch : DevicePort → ℕ → Meaning → List ℕ → DevicePort
port_after_fetch p slot meaning places =
    record p {
      taken = changed p.taken slot (Some (newly_fetched meaning places));
      ci = if is_queued meaning.operation then changed p.ci slot false else p.ci;
      tfd = if is_queued meaning.operation then p.tfd else bit_or p.tfd 0x80;
    }

-- status 41h (with BSY and DRQ left set or not), an error, TFES; the port is halted
abbrev pub port_after_fault : DevicePort → Bool → ℕ → ℕ → DevicePort
port_after_fault p queued error kept_bits =
    record p { tfd = 0x41 + kept_bits + 256 * error; is = changed p.is 30 true; halt = halt_after_fault p.halt queued }

-- ---- Move

-- The address of the next piece, and its sector (0 if the command names none).
abbrev pub next_place : FetchedCommand → ℕ
next_place t = slice_index t.places t.moved

abbrev pub next_sector : FetchedCommand → ℕ
next_sector t = if moves_disk_sectors t.meaning.operation then t.meaning.first + t.moved else 0

-- The bytes that a move may bring: the disk's, if its contents are specified; memory's, for a command that reads
-- memory; or any page, for IDENTIFY DEVICE and READ LOG EXT.
abbrev pub MayBring : Disk → (ℕ → ℕ) → FetchedCommand → Operation → List ℕ → Type 0
MayBring disk memory t Read bytes = (next_sector t < disk.sector_count)
    × IfSome disk.sectors (λ told. bytes ≡ told (next_sector t))
MayBring disk memory t ReadQueued bytes = (next_sector t < disk.sector_count)
    × IfSome disk.sectors (λ told. bytes ≡ told (next_sector t))
MayBring disk memory t Write bytes = (next_sector t < disk.sector_count) × (bytes ≡ bytes_at memory (next_place t) 512)
MayBring disk memory t WriteQueued bytes = (next_sector t < disk.sector_count)
    × (bytes ≡ bytes_at memory (next_place t) 512)
MayBring disk memory t Trim bytes = bytes ≡ bytes_at memory (next_place t) 512
MayBring disk memory t _ bytes = Unit {0}

-- A sector moves in one step: which of its bytes come first isn't modelled.
pub record MayMove (d : Device) (port slot : ℕ) (t : FetchedCommand) (bytes : List ℕ) : Type 0 where
  pub works : WorksOn (d.port port) slot t t.meaning.operation
  pub piece_is_left : t.moved < length t.places
  pub bytes_are_sector : IsValidSector bytes
  pub brings : MayBring (d.port port).disk d.memory t t.meaning.operation bytes

-- a disk with one sector changed
abbrev pub disk_with_sector : Disk → ℕ → List ℕ → Disk
disk_with_sector disk sector bytes =
    record disk { sectors = option_map (λ told. changed told sector bytes) disk.sectors }

-- The disk after a piece moved: a write puts the bytes into the sector.
abbrev pub disk_after : Operation → Disk → ℕ → List ℕ → Disk
disk_after Write disk sector bytes = disk_with_sector disk sector bytes
disk_after WriteQueued disk sector bytes = disk_with_sector disk sector bytes
disk_after _ disk sector bytes = disk

-- a trim keeps the block that it brought
abbrev pub block_after : Operation → List ℕ → List ℕ → List ℕ
block_after Trim bytes old = bytes
block_after _ bytes old = old

-- The port after the next piece of the command moved.
abbrev pub port_after_move : DevicePort → ℕ → FetchedCommand → List ℕ → DevicePort
port_after_move p slot t bytes =
    record p {
      taken = changed p.taken slot
          (Some (record t { moved = t.moved + 1; block = block_after t.meaning.operation bytes t.block }));
      disk = disk_after t.meaning.operation p.disk (next_sector t) bytes;
    }

-- The memory after the next piece of the command moved, which a command that reads the disk puts there.
abbrev pub memory_after_move : (ℕ → ℕ) → FetchedCommand → List ℕ → ℕ → ℕ
memory_after_move memory t bytes = if reads_memory t.meaning.operation then memory
    else patched memory (next_place t) bytes

-- ---- Clear

-- The next sectors of the block, from `first` on, become zero, with a sector left to clear; none of them is past the
-- disk.
pub record MayClear (d : Device) (port slot : ℕ) (t : FetchedCommand) (first count : ℕ) : Type 0 where
  pub works : WorksOn (d.port port) slot t Trim
  pub trim : t.meaning.operation ≡ Trim
  pub block_is_moved : t.moved ≡ length t.places
  pub first_is_next : take 1 (drop t.cleared (trim_sectors t.block)) ≡ first ∷ []
  pub sectors_follow : take count (drop t.cleared (trim_sectors t.block)) ≡ consecutive first count
  pub inside : (count ≡ 0) ⊎ (first + count ≤ (d.port port).disk.sector_count)

-- The disk with zeros in these sectors.
abbrev pub disk_cleared : Disk → ℕ → ℕ → Disk
disk_cleared disk first count =
    record disk {
      sectors = option_map (λ told k. if nat_le first k && nat_lt k (first + count) then replicate 512 0 else told k)
          disk.sectors;
    }

-- The port after these sectors of the trim were cleared.
abbrev pub port_after_clear : DevicePort → ℕ → FetchedCommand → ℕ → ℕ → DevicePort
port_after_clear p slot t first count =
    record p {
      taken = changed p.taken slot (Some (record t { cleared = t.cleared + count }));
      disk = disk_cleared p.disk first count;
    }

-- ---- Done

-- nothing is left to move or to clear
pub record IsFinished (t : FetchedCommand) : Type 0 where
  pub all_is_moved : t.moved ≡ length t.places
  pub all_is_cleared : t.meaning.operation ≡ Trim → t.cleared ≡ length (trim_sectors t.block)

-- The command of the slot may end without error.
pub record MayBeDone (d : Device) (port slot cause_bit : ℕ) (t : FetchedCommand) : Type 0 where
  pub works : WorksOn (d.port port) slot t t.meaning.operation
  pub finished : IsFinished t
  -- DHRS, PSS or SDBS
  pub cause_is_allowed : (cause_bit ≡ 0) ⊎ (cause_bit ≡ 1) ⊎ (cause_bit ≡ 3)

-- from the end of a flush on what the disk then holds is lasting (ACS-3, FLUSH CACHE EXT)
abbrev pub lasting_after : Operation → DurableState → Disk → ℕ → DurableState
lasting_after Flush lasting disk here = record { sectors = disk.sectors; tape_length = here }
lasting_after _ lasting disk here = lasting

-- The port with what is lasting after a command of this operation ended.
abbrev pub port_with_lasting_after_operation : DevicePort → Operation → ℕ → DevicePort
port_with_lasting_after_operation p operation here = record p {
  lasting = lasting_after operation p.lasting p.disk here;
}

-- The port after the command ended: the bit of its slot, BSY and a halt are cleared, and its cause is set.
abbrev pub port_after_done_except_lasting : DevicePort → ℕ → ℕ → Operation → DevicePort
port_after_done_except_lasting p slot cause_bit operation =
    record p {
      taken = changed p.taken slot None;
      ci = if is_queued operation then p.ci else changed p.ci slot false;
      sact = if is_queued operation then changed p.sact slot false else p.sact;
      tfd = bit_and p.tfd 0xff7f;
      is = changed p.is cause_bit true;
      halt = NotHalted;
    }

-- ---- Fault

-- The command of the slot may fail with this error, and leave these bits of BSY and DRQ set.
pub record MayFault (p : DevicePort) (slot error kept_bits : ℕ) (t : FetchedCommand) : Type 0 where
  pub taken : p.taken slot ≡ Some t
  pub cr_is_set : p.cr ≡ true
  pub is_byte : error < 256
  pub kept_bits_are_allowed : AreBsyDrqBits kept_bits

-- ---- LinkUp

-- The link may come up: a disk is in, and a COMRESET has ended (AHCI 1.3.1, 10.4.2).
pub record MayLinkUp (p : DevicePort) (sig : ℕ) : Type 0 where
  pub present : p.present ≡ true
  pub no_comreset : p.sctl_det ≡ 0
  pub link_is_due : p.link_due ≡ true
  pub sig_is_32_bit : sig < 2 ^ 32

-- DET 3, and the disk's first FIS: its signature; BSY and DRQ clear. No step shows DET 1: the driver takes each value
-- but 3 as no link.
abbrev pub port_after_link_up : DevicePort → ℕ → Bool → DevicePort
port_after_link_up p sig n =
    record p {
      ssts_det = 3;
      fresh = true;
      halt = NotHalted;
      broken = false;
      tfd = bit_and p.tfd 0xff77;
      sig = sig;
      serr_x = true;
      serr_n = p.serr_n || n;
      link_due = false;
    }

-- ---- ResetEnds

-- CLB, CLBU, FB and FBU stay, and so do the disk and a halt
abbrev pub port_after_hba_reset : DevicePort → DevicePort
port_after_hba_reset p =
    record p {
      st = false;
      cr = false;
      fre = false;
      fr = false;
      ci = λ _. false;
      sact = λ _. false;
      is = λ _. false;
      ips_latched = false;
      other_causes = false;
      serr_n = false;
      serr_x = false;
      link_due = p.link_due || nat_eq p.sctl_det 1;
      sctl_det = 0;
      ie = 0;
      ssts_det = 0;
      tfd = 0x7f;
      sig = 0xffffffff;
      taken = λ _. None;
      fresh = false;
      broken = false;
    }

-- ---- Scribble

-- A place at which the device may write any bytes: the received FIS area, or the number in PRDBC of a taken slot.
pub record MayScribble (p : DevicePort) (slot at : ℕ) (bytes : List ℕ) : Type 0 where
  pub fre_is_set : p.fre ≡ true
  pub place : ((p.bases.fb ≤ at) × (at + length bytes ≤ p.bases.fb + RECEIVED_FIS_BYTES))
      ⊎ ((t : FetchedCommand) × (p.taken slot ≡ Some t) × (at ≡ p.bases.clb + HEADER_BYTES * slot + 4)
      × (length bytes ≡ 4))
  pub are_bytes : All (λ byte. byte < 256) bytes

-- ---- Plug

-- the bytes that the entry puts into the port's sector k, if any: a write's move, or a clear
abbrev pub bytes_put_into : (port k : ℕ) → Entry → Option (List ℕ)
bytes_put_into port k (entry.Move move) =
    if (move.port.0 == port && move.sector == k) && (moves_disk_sectors move.operation && reads_memory move.operation)
    then Some move.bytes.value else None
bytes_put_into port k (entry.Clear clear) =
    if clear.port.0 == port && (nat_le clear.first k && nat_lt k (clear.first + clear.count))
    then Some (replicate 512 0) else None
bytes_put_into port k _ = None

-- A disk of the port with this lasting state held these bytes in its sector k when it last ended a flush or, if it
-- ended none, when it was first in; or they were put there since.
abbrev pub WereHeldSinceFlush : List Entry → DurableState → (port k : ℕ) → List ℕ → Type 0
WereHeldSinceFlush tape lasting port k bytes = (option_map (λ sectors. sectors k) lasting.sectors ≡ Some bytes)
    ⊎ ((entry : Entry) × Contains (drop lasting.tape_length tape) entry × (bytes_put_into port k entry ≡ Some bytes))

-- A disk with the name of the one that was in last is that one. It has as many sectors. If both have specified
-- contents, each sector is as it was at some moment since a flush was last ended: what its cache held may be lost
-- (FLUSH CACHE EXT, ACS-3).
pub record IsReplugOf (d : Device) (port : ℕ) (disk : Disk) : Type 0 where
  pub size : disk.sector_count ≡ (d.port port).disk.sector_count
  pub holds : (last told : ℕ → List ℕ) → (d.port port).disk.sectors ≡ Some last → disk.sectors ≡ Some told
      → (k : ℕ) → k < disk.sector_count → (told k ≡ last k)
      ⊎ WereHeldSinceFlush d.tape (d.port port).lasting port k (told k)

-- What is lasting stays so if that disk comes back. For another disk it is what the disk comes with.
abbrev pub lasting_after_plug_or_replug : DurableState → (last disk : Disk) → ℕ → DurableState
lasting_after_plug_or_replug lasting last disk here =
    if nat_eq disk.name last.name then lasting else record { sectors = disk.sectors; tape_length = here }

-- ---- all steps: when each is possible

-- The step is possible.
abbrev pub Can : DeviceTransition → Device → Type 0
Can (Fetch port slot meaning places) d = MayFetch d port slot meaning places
Can (FetchFault port slot queued kept_bits) d = MayFetchFault d port slot kept_bits
Can (Move port slot t bytes) d = MayMove d port slot t bytes
Can (Clear port slot t first count) d = MayClear d port slot t first count
Can (Done port slot cause_bit t) d = MayBeDone d port slot cause_bit t
Can (Fault port slot error kept_bits t) d = MayFault (d.port port) slot error kept_bits t
Can (Fatal port place) d = ((d.port port).cr ≡ true) × ((place ≡ 27) ⊎ (place ≡ 29))
Can (Fall port) d = ((d.port port).st ≡ false) × ((d.port port).cr ≡ true)
Can (FrFall port) d = ((d.port port).fre ≡ false) × ((d.port port).cr ≡ false) × ((d.port port).fr ≡ true)
Can (LinkUp port sig n) d = MayLinkUp (d.port port) sig
Can (Unplug port) d = (d.port port).present ≡ true
Can (Plug port disk) d = ((d.port port).present ≡ false) × HasValidSectors disk
    × (d.disks_tell_sectors ≡ true → HasKnownSectors disk)
    × (disk.name ≡ (d.port port).disk.name → IsReplugOf d port disk)
Can ResetEnds d = d.hr ≡ true
Can (Scribble port slot at bytes) d = MayScribble (d.port port) slot at bytes

-- ---- all steps: what each changes

-- The device with another state of this port.
abbrev pub with_port : Device → ℕ → DevicePort → Device
with_port d port new = record d { port = changed d.port port new }

-- a port changed, and an entry stands on the tape
abbrev pub with_port_and_entry : Device → ℕ → DevicePort → Entry → Device
with_port_and_entry d port new entry = record d { port = changed d.port port new; tape = d.tape ++ entry ∷ [] }

-- a move's bytes as its entry has them, for contracts alone
abbrev pub snapshot_of_bytes : List ℕ → Snapshot (List ℕ)
snapshot_of_bytes bytes = record { marker = record {}; value = bytes }

-- The entry of a move.
abbrev pub move_of : ℕ → ℕ → FetchedCommand → List ℕ → tape_move.Move
move_of port slot t bytes = record {
  port = record { 0 = port };
  slot = record { 0 = slot };
  operation = t.meaning.operation;
  sector = next_sector t;
  address = next_place t;
  direction = direction_of t.meaning.operation;
  bytes = snapshot_of_bytes bytes;
}

-- The entry of a clear.
abbrev pub clear_entry : ℕ → ℕ → ℕ → ℕ → Entry
clear_entry port slot first count =
    entry.Clear (record { port = record { 0 = port }; slot = record { 0 = slot }; first = first; count = count })

-- The entry of an end.
abbrev pub done_entry : ℕ → ℕ → Operation → Entry
done_entry port slot operation =
    entry.Done (record { port = record { 0 = port }; slot = record { 0 = slot }; operation = operation })

-- The entry of a fault.
abbrev pub fault_entry : ℕ → ℕ → ℕ → ℕ → Entry
fault_entry port slot error kept_bits =
    entry.Fault (record {
      port = record { 0 = port };
      slot = record { 0 = slot };
      status = 0x41
          + kept_bits;
      error = error;
    })

-- The device after the step.
abbrev pub device_after : DeviceTransition → Device → Device
device_after (Fetch port slot meaning places) d = with_port d port (port_after_fetch (d.port port) slot meaning places)
device_after (FetchFault port slot queued kept_bits) d =
    with_port_and_entry d port (port_after_fault (d.port port) queued 4 kept_bits) (fault_entry port slot 4 kept_bits)
device_after (Move port slot t bytes) d =
    record (with_port_and_entry d port (port_after_move (d.port port) slot t bytes)
    (entry.Move (move_of port slot t bytes))) {
      memory = memory_after_move d.memory t bytes;
    }
device_after (Clear port slot t first count) d =
    with_port_and_entry d port (port_after_clear (d.port port) slot t first count) (clear_entry port slot first count)
device_after (Done port slot cause_bit t) d =
    with_port_and_entry d port
    (port_with_lasting_after_operation (port_after_done_except_lasting
    (d.port port) slot cause_bit t.meaning.operation) t.meaning.operation (length d.tape))
    (done_entry port slot t.meaning.operation)
device_after (Fault port slot error kept_bits t) d =
    with_port_and_entry d port (port_after_fault (d.port port) (is_queued t.meaning.operation) error kept_bits)
    (fault_entry port slot error kept_bits)
device_after (Fatal port place) d =
    with_port_and_entry d port (record (d.port port) { is = changed (d.port port).is place true; broken = true })
    (entry.Fatal (record { 0 = port }))
device_after (Fall port) d = with_port d port (record (d.port port) { cr = false; taken = λ _. None })
device_after (FrFall port) d = with_port d port (record (d.port port) { fr = false })
device_after (LinkUp port sig n) d = with_port d port (port_after_link_up (d.port port) sig n)
device_after (Unplug port) d =
    with_port_and_entry d port (record (d.port port) { ssts_det = 0; present = false; fresh = false; serr_n = true })
    (entry.Unplug (record { 0 = port }))
device_after (Plug port disk) d =
    with_port_and_entry d port
    (record (d.port port) {
      disk = disk;
      plug_history = (d.port port).plug_history ++ disk ∷ [];
      lasting = lasting_after_plug_or_replug (d.port port).lasting (d.port port).disk disk (length d.tape);
      ssts_det = 3;
      present = true;
      fresh = false;
      serr_n = true;
      serr_x = true;
    })
    (entry.Plug (record { 0 = port }) disk.name)
device_after ResetEnds d =
    record d { hr = false; ae = false; ie = false; port = λ port. port_after_hba_reset (d.port port) }
device_after (Scribble port slot at bytes) d = record d { memory = patched d.memory at bytes }

-- ---- lists of steps

-- The steps, each possible when it comes, lead from the one device to the other.
abbrev pub TransitionsLead : List DeviceTransition → Device → Device → Type 0
TransitionsLead [] old new = new ≡ old
TransitionsLead (step ∷ steps) old new = Can step old × TransitionsLead steps (device_after step old) new

-- the device may go from the one state to the other by itself
pub record Steps (old new : Device) : Type 0 where
  pub steps : List DeviceTransition
  pub lead : TransitionsLead steps old new
