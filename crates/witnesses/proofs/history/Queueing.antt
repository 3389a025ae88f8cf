-- Two queued reads of a sector each are issued on port 0, in slots 0 and 1.
use Rattle.std.proofs.Common.{ℕ, suc, ◌≡◌, ◌≤◌, ◌+◌, ◌*◌, ◌∙◌, ◌||◌, ◌==◌, Bool, false, List, [], ◌∷◌, inl, inr, refl, ap, arith}
use Rattle.std.specs.List.{All}
use Rattle.std.proofs.lemmas.List.Elements.{All-from_recursion}
use Rattle.std.proofs.lemmas.Nat.Bits.{bit_at-suc}
use Rattle.ata_types.specs.declared.request.Frame.{Frame}
use Rattle.ata_types.specs.declared.memory.TheConstants.{DRIVER_FRAMES}
use Rattle.hba_regs.specs.Bits.{bit}
use Rattle.hba_regs.specs.declared.reg.Reg.TheVariants.{Px}
use Rattle.hba_regs.specs.declared.reg.PortReg.TheVariants.{Sact, Ci}
use Rattle.adapter.specs.Access.{Access, DoesAll, port_after_write}
use Rattle.adapter.specs.Access.Access.{Writing, Storing}
use Rattle.adapter.specs.Device.{DevicePort}
use Rattle.adapter.specs.Memory.{bytes_at, patched}
use Rattle.adapter.specs.Decoding.{piece_addresses}
use Rattle.adapter.specs.declared.tape.Entry.{Entry}
use Rattle.refinement.specs.Relation.{port_at}
use Rattle.refinement.specs.MemoryLayout.{command_table_address}
use Rattle.refinement.specs.Slots.{SlotDecodesTo}
use Rattle.driver_history.specs.Histories.{StoresOrWritesSactOrCi}
use Rattle.witnesses.specs.RunningAdapter.{running_device, running_port}
use Rattle.witnesses.proofs.history.Command.{header_to, frame_head, queued_bytes, queued_read, told_queued, zeros}
use Rattle.witnesses.proofs.history.Devices.{but_first, other_bit, stores, writes}
use Rattle.witnesses.proofs.history.Memory.{spares}
use Rattle.witnesses.proofs.history.Submitting.{second}

-- ---- memory

-- header, FIS and PRD of a slot of port 0 are stored
abbrev pub with_read : (ℕ → ℕ) → (slot k frame : ℕ) → ℕ → ℕ
with_read memory slot k frame =
    patched (patched (patched memory (32 * slot) (header_to slot)) (command_table_address 0 slot) (queued_bytes slot k)) (command_table_address 0 slot + 128) (frame_head frame)

-- a read of sector 100 into frame 100; and then one of sector 101 into frame 101
unfoldable pub one_memory : ℕ → ℕ
one_memory = with_read zeros 0 100 100

unfoldable pub two_reads_memory : ℕ → ℕ
two_reads_memory = with_read one_memory 1 101 101

pub one_told : SlotDecodesTo one_memory 0 0 0 (queued_read 100) (piece_addresses 0x64000 1)
unfolding one_memory patched bytes_at
one_told = told_queued one_memory 0 100 100 (omega arith) refl refl refl refl refl refl refl

pub first_told : SlotDecodesTo two_reads_memory 0 0 0 (queued_read 100) (piece_addresses 0x64000 1)
unfolding two_reads_memory one_memory patched bytes_at
first_told = told_queued two_reads_memory 0 100 100 (omega arith) refl refl refl refl refl refl refl

pub second_told : SlotDecodesTo two_reads_memory 0 0 1 (queued_read 101) (piece_addresses 0x65000 1)
unfolding two_reads_memory one_memory patched bytes_at
second_told = told_queued two_reads_memory 1 101 101 (omega arith) refl refl refl refl refl refl refl

-- frames of clients are zeros then
pub one_zeros : (f : Frame) (b : ℕ) → DRIVER_FRAMES ≤ f.0 → one_memory (4096 * f.0 + b) ≡ 0
unfolding one_memory
one_zeros f b from =
    spares (patched (patched zeros 0 (header_to 0)) 0x1000 (queued_bytes 0 100)) 0x1080 (frame_head 100) (omega arith) f b from
    ∙ (spares (patched zeros 0 (header_to 0)) 0x1000 (queued_bytes 0 100) (omega arith) f b from ∙ spares zeros 0 (header_to 0) (omega arith) f b from)

pub two_zeros : (f : Frame) (b : ℕ) → DRIVER_FRAMES ≤ f.0 → two_reads_memory (4096 * f.0 + b) ≡ 0
unfolding two_reads_memory
two_zeros f b from =
    spares (patched (patched one_memory 32 (header_to 1)) (command_table_address 0 1) (queued_bytes 1 101)) (command_table_address 0 1 + 128) (frame_head 101) (omega arith) f b from
    ∙ (spares (patched one_memory 32 (header_to 1)) (command_table_address 0 1) (queued_bytes 1 101) (omega arith) f b from ∙ (spares one_memory 32 (header_to 1) (omega arith) f b from ∙ one_zeros f b from))

-- ---- accesses

-- the slot's bit of PxSACT is written, and then that of PxCI
abbrev pub with_bits : ℕ → DevicePort → DevicePort
with_bits v p = port_after_write Ci v 0 (port_after_write Sact v 0 p)

abbrev pub queue_accesses : (slot k frame v : ℕ) → List Access
queue_accesses slot k frame v =
    Storing (32 * slot) (header_to slot) ∷ Storing (command_table_address 0 slot) (queued_bytes slot k) ∷ Storing (command_table_address 0 slot + 128) (frame_head frame)
    ∷ Writing (Px (port_at 0) Sact) v ∷ Writing (Px (port_at 0) Ci) v ∷ []

pub queues : (tape : List Entry) (memory : ℕ → ℕ) (p : DevicePort) (slot k frame v : ℕ) → DoesAll (queue_accesses slot k frame v) (running_device tape memory (p ∷ second ∷ []))
    (running_device tape (with_read memory slot k frame) (with_bits v p ∷ second ∷ []))
queues tape memory p slot k frame v = (
  running_device tape (patched memory (32 * slot) (header_to slot)) (p ∷ second ∷ []),
  stores (32 * slot) (header_to slot) tape memory (p ∷ second ∷ []),
  (
    running_device tape (patched (patched memory (32 * slot) (header_to slot)) (command_table_address 0 slot) (queued_bytes slot k)) (p ∷ second ∷ []),
    stores (command_table_address 0 slot) (queued_bytes slot k) tape (patched memory (32 * slot) (header_to slot)) (p ∷ second ∷ []),
    (
      running_device tape (with_read memory slot k frame) (p ∷ second ∷ []),
      stores (command_table_address 0 slot + 128) (frame_head frame) tape (patched (patched memory (32 * slot) (header_to slot)) (command_table_address 0 slot) (queued_bytes slot k)) (p ∷ second ∷ []),
      (
        running_device tape (with_read memory slot k frame) (armed ∷ second ∷ []),
        writes tape (with_read memory slot k frame) 0 (p ∷ second ∷ []) (armed ∷ second ∷ []) (but_first p armed (second ∷ [])) Sact v refl,
        (
          running_device tape (with_read memory slot k frame) (with_bits v p ∷ second ∷ []),
          writes tape (with_read memory slot k frame) 0 (armed ∷ second ∷ []) (with_bits v p ∷ second ∷ []) (but_first armed (with_bits v p) (second ∷ [])) Ci v refl,
          refl,
        ),
      ),
    ),
  ),
)
  where
    armed : DevicePort
    armed = port_after_write Sact v 0 p

-- ---- the port

abbrev pub one_issued : DevicePort
one_issued = with_bits 1 (running_port 0)

abbrev pub two_issued : DevicePort
two_issued = with_bits 2 one_issued

-- slots 0 and 1 alone have bits
pub neither : (k : ℕ) → (bit 1 (suc (suc k)) || bit 2 (suc (suc k))) ≡ false
neither k =
    ap (λ (b : Bool). b || bit 2 (suc (suc k))) (other_bit (suc (suc k)) (omega arith))
    ∙ (ap (λ (b : ℕ). b == 1) (bit_at-suc 2 (suc k)) ∙ other_bit (suc k) (omega arith))

pub one_submits : All (StoresOrWritesSactOrCi (port_at 0)) (queue_accesses 0 100 100 1)
one_submits = All-from_recursion (StoresOrWritesSactOrCi (port_at 0)) (queue_accesses 0 100 100 1) (omega arith, (omega arith, (omega arith, (inl refl, (inr refl, tt)))))

pub two_submits : All (StoresOrWritesSactOrCi (port_at 0)) (queue_accesses 1 101 101 2)
two_submits = All-from_recursion (StoresOrWritesSactOrCi (port_at 0)) (queue_accesses 1 101 101 2) (omega arith, (omega arith, (omega arith, (inl refl, (inr refl, tt)))))
