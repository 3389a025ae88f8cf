-- What is stored for a slot stays so while others are issued in.
use Rattle.std.proofs.Common.{ℕ, Bool, true, false, ◌≡◌, ◌≢◌, ◌⊎◌, ◌<◌, ◌≤◌, ◌+◌, ◌*◌, length, List, [], ◌∷◌, inl, inr, refl, sym, ◌∙◌, subst, ⊎_elim, arith}
use Rattle.std.specs.List.{All, Contains}
use Rattle.std.proofs.lemmas.List.Elements.{All-append, All-cons, All-nil, All-weaker}
use Rattle.ata_types.specs.declared.request.Op.{Op}
use Rattle.ata_types.specs.declared.request.Op.TheVariants.{Read, Write, Trim, Flush}
use Rattle.std.proofs.lemmas.Bool.{cases_eq, cases_lt}
use Rattle.ata_types.specs.declared.Port.{Port}
use Rattle.ata_types.specs.declared.memory.TheConstants.{DRIVER_BYTES_PER_PORT, SCRATCH_OFFSET, TABLES_OFFSET, TABLE_BYTES}
use Rattle.hba_regs.specs.declared.reg.PortReg.TheVariants.{Ci, Cmd, Clb, Sact}
use Rattle.hba_regs.specs.declared.reg.Reg.{Reg}
use Rattle.hba_regs.specs.declared.reg.Reg.TheVariants.{Px}
use Rattle.adapter.specs.Access.{Access}
use Rattle.adapter.specs.Access.Access.{Storing, Writing}
use Rattle.refinement.specs.PreservedParts.{DoesNotWrite}
use Rattle.refinement.specs.MemoryLayout.{IsTableOrHeaderByteButPrdbc}
use Rattle.refinement.specs.ReadySlots.{KeepsStoredCommand}
use Rattle.command_table.specs.TableStores.{IsBlockStore, IsHeaderTableOrBlockStore, IsHeaderOrTableStore}
use Rattle.ncq.specs.Batches.{IsCommandIssueAccess, IsStoreForBatch, PlacedTask, StoresThenWritesAll}
use Rattle.ncq.specs.Tasks.{IsStoreFor, issuing_writes}
use Rattle.port_control.specs.ServiceAccesses.{WritesOnlyHbaIsPxIsCiOrSact}
use Rattle.server_history.specs.Prerequisites.{PrerequisiteLaws}
use Rattle.server_history.proofs.state.TransferAccesses.{issuing_serves}

-- the slots are two
abbrev pub AreApart : (port slot other k : ℕ) → Type 0
AreApart port slot other k = other ≡ port → k ≡ slot → ⊥

-- a byte of the slot's header or table
abbrev pub IsSubsetOf : (port slot place : ℕ) → Type 0
IsSubsetOf port slot place =
    ((DRIVER_BYTES_PER_PORT * port + 32 * slot ≤ place) × (place < DRIVER_BYTES_PER_PORT * port + 32 * slot + 32))
    ⊎ ((DRIVER_BYTES_PER_PORT * port + TABLES_OFFSET + TABLE_BYTES * slot ≤ place) × (place < DRIVER_BYTES_PER_PORT * port + TABLES_OFFSET + TABLE_BYTES * slot + TABLE_BYTES))

pub of_table : (port slot place : ℕ) → IsTableOrHeaderByteButPrdbc port slot place → IsSubsetOf port slot place
of_table port slot place (inl t) = inl (omega (arith, t.0), omega (arith, t.1))
of_table port slot place (inr (inl t)) = inl (omega (arith, t.0), omega (arith, t.1))
of_table port slot place (inr (inr t)) = inr (omega (arith, t.0), omega (arith, t.1))

-- and one of the scratch frame
abbrev IsBeyond : (port place : ℕ) → Type 0
IsBeyond port place = (DRIVER_BYTES_PER_PORT * port + SCRATCH_OFFSET ≤ place) × (place < DRIVER_BYTES_PER_PORT * port + SCRATCH_OFFSET + 512)

pub of_store : (port slot at place : ℕ) (bytes : List ℕ) → IsHeaderOrTableStore port slot (Storing at bytes) → at ≤ place → place < at + length bytes → IsSubsetOf port slot place
of_store port slot at place bytes (inl h) from to = inl (omega (arith, h.0, from), omega (arith, h.0, h.1, to))
of_store port slot at place bytes (inr t) from to = inr (omega (arith, t.0, from), omega (arith, t.1, to))

-- of two slots none is the other's
pub never_both : (port slot other k place : ℕ) → port < 4 → slot < 32 → other < 4 → k < 32 → AreApart port slot other k → IsSubsetOf port slot place → IsSubsetOf other k place → ⊥
never_both port slot other k place a b c d apart x y = ⊎_elim
    (λ (same : other ≡ port). ⊎_elim (λ (its : k ≡ slot). apart same its) (λ (ne : k ≢ slot). same_port same ne x y) (cases_eq k slot))
    (λ (ne : other ≢ port). other_port ne x y)
    (cases_eq other port)
  where
    same_port : other ≡ port → k ≢ slot → IsSubsetOf port slot place → IsSubsetOf other k place → ⊥
    same_port same ne (inl h) (inl i) = omega (arith, a, b, c, d, same, ne, h.0, h.1, i.0, i.1)
    same_port same ne (inl h) (inr i) = omega (arith, a, b, c, d, same, ne, h.0, h.1, i.0, i.1)
    same_port same ne (inr h) (inl i) = omega (arith, a, b, c, d, same, ne, h.0, h.1, i.0, i.1)
    same_port same ne (inr h) (inr i) = omega (arith, a, b, c, d, same, ne, h.0, h.1, i.0, i.1)

    other_port : other ≢ port → IsSubsetOf port slot place → IsSubsetOf other k place → ⊥
    other_port ne (inl h) (inl i) = omega (arith, a, b, c, d, ne, h.0, h.1, i.0, i.1)
    other_port ne (inl h) (inr i) = omega (arith, a, b, c, d, ne, h.0, h.1, i.0, i.1)
    other_port ne (inr h) (inl i) = omega (arith, a, b, c, d, ne, h.0, h.1, i.0, i.1)
    other_port ne (inr h) (inr i) = omega (arith, a, b, c, d, ne, h.0, h.1, i.0, i.1)

-- an access that serves ports leaves what is stored for a slot, if its store misses header and table
pub service_leaves_stored : PrerequisiteLaws → (other : Port) (k : ℕ) (access : Access) → WritesOnlyHbaIsPxIsCiOrSact access
    → ((at : ℕ) (bytes : List ℕ) (place : ℕ) → access ≡ Storing at bytes → IsTableOrHeaderByteButPrdbc other.0 k place → at ≤ place → place < at + length bytes → ⊥) → KeepsStoredCommand other k access
service_leaves_stored laws other k access is misses = record {
  ghc_is_not_written = laws.look_laws.services_do_not_write_ghc access is;
  st_is_not_cleared = λ v e. absurd (subst (DoesNotWrite (Px other Cmd)) e (laws.look_laws.services_spare_other_registers other Cmd (λ e. cc) (λ e. cc) (λ e. cc) access is) refl);
  clb_is_not_written = laws.look_laws.services_spare_other_registers other Clb (λ e. cc) (λ e. cc) (λ e. cc) access is;
  table_is_not_stored_to = λ at bytes e place t from to. misses at bytes place e t from to;
}

-- the block of a trim is no byte of a header or table
never_beyond : (port other k place : ℕ) → port < 4 → other < 4 → k < 32 → IsBeyond port place → IsSubsetOf other k place → ⊥
never_beyond port other k place a b c block (inl h) = ⊎_elim
    (λ (less : other < port). omega (arith, a, b, c, less, block.0, block.1, h.0, h.1))
    (λ (most : port ≤ other). omega (arith, a, b, c, most, block.0, block.1, h.0, h.1))
    (cases_lt other port)
never_beyond port other k place a b c block (inr h) = ⊎_elim
    (λ (less : other < port). omega (arith, a, b, c, less, block.0, block.1, h.0, h.1))
    (λ (most : port ≤ other). omega (arith, a, b, c, most, block.0, block.1, h.0, h.1))
    (cases_lt other port)

-- An access that issues a batch: it stores what one of its tasks needs, or writes PxSACT or PxCI.
abbrev pub IsOfBatch : Port → List PlacedTask → Access → Type 0
IsOfBatch port tasks access = IsStoreForBatch port.0 tasks access ⊎ ((r : Reg) × (v : ℕ) × (access ≡ Writing r v))

-- so are all that issue it
pub of_batch : (port : Port) (queued : Bool) (tasks : List PlacedTask) (accesses : List Access) → StoresThenWritesAll port queued tasks accesses → All (IsOfBatch port tasks) accesses
of_batch port queued tasks accesses order =
    subst (All (IsOfBatch port tasks)) (sym order.accesses_are)
    (All-append (IsOfBatch port tasks) order.stores (issuing_writes port queued order.mask) (All-weaker (IsStoreForBatch port.0 tasks) (IsOfBatch port tasks) (λ access is. inl is) order.stores order.all_are_batch_stores) (writes queued))
  where
    write : (r : Reg) (v : ℕ) → IsOfBatch port tasks (Writing r v)
    write r v = inr (r, v, refl)

    writes : (b : Bool) → All (IsOfBatch port tasks) (issuing_writes port b order.mask)
    writes true =
        All-cons (IsOfBatch port tasks) (Writing (Px port Sact) order.mask) (Writing (Px port Ci) order.mask ∷ []) (write (Px port Sact) order.mask)
        (All-cons (IsOfBatch port tasks) (Writing (Px port Ci) order.mask) [] (write (Px port Ci) order.mask) (All-nil (IsOfBatch port tasks)))
    writes false = All-cons (IsOfBatch port tasks) (Writing (Px port Ci) order.mask) [] (write (Px port Ci) order.mask) (All-nil (IsOfBatch port tasks))

-- what issues in some slots leaves what is stored for another
pub batch_leaves_stored : PrerequisiteLaws → (port other : Port) (tasks : List PlacedTask) (k : ℕ) → port.0 < 4 → other.0 < 4 → k < 32 → ((t : PlacedTask) → Contains tasks t → (t.slot < 32) × AreApart port.0 t.slot other.0 k)
    → (access : Access) → IsCommandIssueAccess port access → IsOfBatch port tasks access → KeepsStoredCommand other k access
batch_leaves_stored laws port other tasks k a c d apart access is (inr (r, v, same)) =
    service_leaves_stored laws other k access (issuing_serves port access is) (λ at bytes place e t from to. let z : Writing r v ≡ Storing at bytes = sym same ∙ e in cc)
batch_leaves_stored laws port other tasks k a c d apart access is (inl (task, there, store)) = service_leaves_stored laws other k access (issuing_serves port access is) (λ at bytes place e t from to.
    let its = apart task there in
    let b : task.slot < 32 = its.0 in
    ⊎_elim
    (λ (table : IsHeaderOrTableStore port.0 task.slot (Storing at bytes)). never_both port.0 task.slot other.0 k place a b c d its.1 (of_store port.0 task.slot at place bytes table from to) (of_table other.0 k place t))
    (λ (block : IsBlockStore port.0 task.slot (Storing at bytes)).
    never_beyond port.0 other.0 k place a c d (let here = block.1 in let size = block.2 in (omega (arith, here, from), omega (arith, here, size, to))) (of_table other.0 k place t))
    (subst (IsHeaderTableOrBlockStore port.0 task.slot) e (with_block task.task.op store)))
  where
    with_block : (op : Op) → IsStoreFor op port.0 task.slot access → IsHeaderTableOrBlockStore port.0 task.slot access
    with_block Read table = inl table
    with_block Write table = inl table
    with_block Trim its = its
    with_block Flush table = inl table
