-- What plain work can't do without.
use Rattle.std.proofs.Common.{ℕ, ◌≡◌, ◌<◌, ◌+◌, ◌*◌, ◌%◌, ◌^◌, false, ◌==◌, Some, refl, sym, ◌∙◌, ap, arith, inl, [], ◌∷◌}
use Rattle.std.proofs.lemmas.Nat.Bits.{bit_at-pow_other, bit_at-zero}
use Rattle.std.proofs.lemmas.Bool.{both_ways, false≢true, true≢false}
use Rattle.std.proofs.lemmas.Option.{none-some}
use Rattle.hba_regs.specs.declared.reg.Reg.TheVariants.{Px}
use Rattle.hba_regs.specs.declared.reg.PortReg.TheVariants.{Cmd, Ci}
use Rattle.adapter.specs.Access.{device_after_write}
use Rattle.adapter.specs.Commands.{is_queued, command_of}
use Rattle.adapter.specs.Device.{FetchedCommand, Device}
use Rattle.adapter.specs.Device.Halt.{NotHalted, LogOnly}
use Rattle.adapter.specs.FirstRead.{first_memory}
use Rattle.adapter.specs.Memory.{patched, bytes_at, changed}
use Rattle.adapter.specs.Rules.{MayWrite}
use Rattle.adapter.specs.Decoding.{piece_addresses}
use Rattle.adapter.specs.Steps.{Can, device_after, newly_fetched, Steps, halt_after_start}
use Rattle.adapter.specs.Steps.DeviceTransition.{Fetch, Fault}
use Rattle.adapter.specs.declared.command.Operation.TheVariants.{ReadQueued}
use Rattle.adapter.specs.declared.command.Prd.{Prd}
use Rattle.block_machine.specs.Histories.{IsReachable}
use Rattle.block_machine.specs.State.{Machine}
use Rattle.refinement.specs.StepLaws.{StepLaws}
use Rattle.refinement.specs.Relation.{StateRelation, port_at}
use Rattle.refinement.specs.Driver.{KeepsSlotStates}
use Rattle.refinement.specs.MemoryLayout.{command_table_address}
use Rattle.refinement.specs.TwoReadsWitness.{queued_read, two_reads_memory, two_issued, one_taken, two_reads_driver_state, TwoReadsWitness}
use Rattle.refinement.specs.Slots.{SlotStates, SlotDecodesTo}
use Rattle.refinement.specs.ReadWitness.{ready_device}
use Rattle.refinement.proofs.witnesses.QueuedReads.{two_are_known}
use Rattle.refinement.proofs.witnesses.SpeltSlot.{IsSpelt, IsSpeltHeader, IsSpeltCommand, IsSpeltPrd, spelt_told, zeros_from}
use Rattle.refinement.proofs.steps.RegisterWrites.{written_agrees}
use Rattle.refinement.specs.HaltRecovery.{WorksOnUnqueuedCommandsOnly}

abbrev AreTakenPlainly : Device → ℕ → Type 0
AreTakenPlainly d port = (slot : ℕ) (t : FetchedCommand) → (d.port port).taken slot ≡ Some t → is_queued t.meaning.operation ≡ false

-- ---- a queued command waits with its bit of PxSACT

none_taken : AreTakenPlainly two_issued 0
unfolding changed
none_taken slot t is = absurd (none-some _ is)

issued_runs : halt_after_start (two_issued.port 0).halt ≡ NotHalted
unfolding changed
issued_runs = refl

pub needs_unarmed : StepLaws → ((uses : SlotStates) (m : Machine) (port : ℕ) (old new : Device) → IsReachable m → StateRelation uses m old → Steps old new → halt_after_start (old.port port).halt ≡ NotHalted → AreTakenPlainly old port → AreTakenPlainly new port) → ⊥
needs_unarmed laws law =
    let w : TwoReadsWitness = two_are_known laws in
    absurd (both_ways _ (law (two_reads_driver_state two_issued).slot_states w.machine 0 two_issued one_taken w.reached w.issued.state_relation w.takes issued_runs none_taken 0 w.command w.taken) w.queued)

-- ---- one was taken before ST was cleared

abbrev stopping : Device
stopping = device_after_write (Px (port_at 0) Cmd) 0x10 one_taken

abbrev queued_taken : FetchedCommand
queued_taken = newly_fetched (queued_read 100) (piece_addresses 0x64000 8)

may_stop : MayWrite (Px (port_at 0) Cmd) 0x10 one_taken
unfolding changed
may_stop = (
  record { ae_is_set = refl; no_reset = refl },
  (omega arith, refl),
  record {
    start = λ b. absurd (false≢true b);
    receive = λ b. inl refl;
    stop_receiving = λ b. absurd (true≢false b);
    other_bits_are_kept = λ place lt start receive. ap (λ (n : ℕ). n == 1) (bit_at-pow_other 4 place receive ∙ sym (bit_at-zero place));
  },
)

leaves : KeepsSlotStates (two_reads_driver_state one_taken).slot_states (Px (port_at 0) Cmd) 0x10 one_taken
unfolding changed
leaves = record { start = λ b. absurd (false≢true b); receive = λ _. (omega arith, refl) }

can_fail : Can (Fault 0 0 0x40 0 queued_taken) stopping
unfolding changed
can_fail = record { taken = refl; cr_is_set = refl; is_byte = omega arith; kept_bits_are_allowed = refl }

stopping_is : (halt_after_start (stopping.port 0).halt ≡ NotHalted) × ((slot : ℕ) → (stopping.port 0).sact slot ≡ false)
unfolding changed
stopping_is = (refl, λ slot. refl)

log_only : halt_after_start ((device_after (Fault 0 0 0x40 0 queued_taken) stopping).port 0).halt ≡ LogOnly
unfolding changed
log_only = refl

pub needs_plain : StepLaws → ((uses : SlotStates) (m : Machine) (port : ℕ) (old new : Device) → IsReachable m → StateRelation uses m old → Steps old new → halt_after_start (old.port port).halt ≡ NotHalted → ((slot : ℕ) → (old.port port).sact slot ≡ false) →
    halt_after_start (new.port port).halt ≡ NotHalted) → ⊥
needs_plain laws law =
    let w : TwoReadsWitness = two_are_known laws in
    let a : StateRelation (two_reads_driver_state one_taken).slot_states w.machine stopping = written_agrees (two_reads_driver_state one_taken).slot_states w.machine one_taken w.driver_relation.state_relation (Px (port_at 0) Cmd) 0x10 may_stop leaves in
    let z : LogOnly ≡ NotHalted = sym log_only ∙ law (two_reads_driver_state one_taken).slot_states w.machine 0 stopping (device_after (Fault 0 0 0x40 0 queued_taken) stopping) w.reached a
    (record { steps = (Fault 0 0 0x40 0 queued_taken) ∷ []; lead = (can_fail, refl) }) stopping_is.0 stopping_is.1 in
    cc

-- ---- a queued command was issued without its bit

abbrev frame_prd : ℕ → Prd
frame_prd n = record { address = 4096 * n; bytes = 4096 }

-- a queued read of eight sectors into a frame
queued_spelt : (memory : ℕ → ℕ) (slot first n : ℕ) → first < 2 ^ 48 → command_table_address 0 slot % 128 ≡ 0 → 4096 * n % 2 ≡ 0 →
    IsSpeltHeader (bytes_at memory (0 + 32 * slot) 32) false (command_table_address 0 slot) →
    IsSpeltCommand (bytes_at memory (command_table_address 0 slot) 20) (command_of ReadQueued slot first 8) →
    IsSpeltPrd (bytes_at memory (command_table_address 0 slot + 128) 16) (frame_prd n) → IsSpelt memory slot (queued_read first) (frame_prd n)
queued_spelt memory slot first n small aligned even header fis prd = record {
  header = header;
  aligned = aligned;
  fis = fis;
  meaning = record { sectors_fit_if_it_moves_some = λ _. (omega arith, omega arith, small); sectors_are_zero_if_it_moves_none = λ h. absurd (true≢false h) };
  prd = prd;
  allowed = record { even_address = even; even_bytes = refl; is_not_empty = omega arith; is_at_most_4_mib = omega arith };
  whole = refl;
  as_many = refl;
}

first_told : SlotDecodesTo two_reads_memory 0 0 0 (queued_read 100) (piece_addresses 0x64000 8)
unfolding two_reads_memory first_memory patched bytes_at zeros_from
first_told = spelt_told two_reads_memory 0 (queued_read 100) (frame_prd 100)
    (queued_spelt two_reads_memory 0 100 100 (omega arith) refl refl (refl, refl, refl) (refl, refl, refl, refl, refl, refl, refl, refl) (refl, refl, refl))

abbrev unarmed : Device
unarmed = device_after_write (Px (port_at 0) Ci) 1 (ready_device two_reads_memory)

can_fetch : Can (Fetch 0 0 (queued_read 100) (piece_addresses 0x64000 8)) unarmed
unfolding changed
can_fetch = record {
  fetchable = record { st_is_set = refl; issued = refl; free = refl };
  working = record { cr_is_set = refl; present = refl; fresh = refl; admitted = refl; is_not_broken = refl };
  is_alone_or_all_are_queued = λ slot t is. absurd (none-some _ is);
  says = first_told.decodes_to;
}

unarmed_works : WorksOnUnqueuedCommandsOnly (unarmed.port 0)
unfolding changed
unarmed_works = record { start_ends_halt = refl; unarmed = λ slot. refl; taken_are_plain = λ slot t is. absurd (none-some _ is) }

taken_then : ((device_after (Fetch 0 0 (queued_read 100) (piece_addresses 0x64000 8)) unarmed).port 0).taken 0 ≡ Some queued_taken
unfolding changed
taken_then = refl

pub needs_agreed : ((port : ℕ) (old new : Device) → Steps old new → WorksOnUnqueuedCommandsOnly (old.port port) → WorksOnUnqueuedCommandsOnly (new.port port)) → ⊥
needs_agreed law =
    absurd (true≢false ((law 0 unarmed (device_after (Fetch 0 0 (queued_read 100) (piece_addresses 0x64000 8)) unarmed)
    (record { steps = (Fetch 0 0 (queued_read 100) (piece_addresses 0x64000 8)) ∷ []; lead = (can_fetch, refl) }) unarmed_works).taken_are_plain 0 queued_taken taken_then))
