-- What stands before the write of PxCI that issues commands.
use Rattle.std.proofs.Common.{ℕ, ◌≡◌, ◌<◌, ◌≤◌, ◌/◌, ◌%◌, Bool, true, List, [], ◌∷◌, refl, sym, ◌∙◌, subst, arith}
use Rattle.std.proofs.lemmas.List.Elements.{All-head}
use Rattle.ata_types.specs.declared.Port.{Port}
use Rattle.ata_types.specs.declared.request.Frame.{Frame}
use Rattle.ata_types.specs.declared.request.Op.TheVariants.{Trim}
use Rattle.hba_regs.specs.declared.reg.Reg.TheVariants.{Px}
use Rattle.hba_regs.specs.declared.reg.PortReg.TheVariants.{Sact}
use Rattle.adapter.specs.Access.{Writes}
use Rattle.adapter.specs.Commands.{is_queued}
use Rattle.adapter.specs.Device.{Device}
use Rattle.adapter.specs.Rules.{IsOn, HasPort}
use Rattle.refinement.specs.Fragments.{SomeMachineAgreesWith, IsSoleBit, IsSimulated}
use Rattle.refinement.specs.Slots.{Free}
use Rattle.command_table.specs.TableStores.{IsSlotStateFree}
use Rattle.ncq.specs.Batches.{BatchSlotsAreUnused, HasExactlySlotBitsOf, IsBatchStored, IsStoreForBatch, MemoryEncodesTask, PlacedTask, StoresTransfer, batch_of_one}
use Rattle.ncq.specs.Issuing.{IsArmedFor, IsPlainTaskStored, MayIssueTransfer}
use Rattle.ncq.specs.Tasks.{WritesSactIfQueued, IsFitTransfer, IsStoreFor, RunsItsList, meaning_of}
use Rattle.ncq.specs.declared.tasks.Task.{Task}
use Rattle.ncq.proofs.Batch.{all_as, all_one, contains_here, one_apart, one_has_bits}
use Rattle.ncq.proofs.Stores.{simulated_as}
use Rattle.ncq.proofs.Telling.{kind_of, never_trim, stored_for}

-- a task alone is armed
pub armed_one : (port : Port) (t : PlacedTask) (own : ℕ) (old mid armed : Device) → IsOn old → HasPort old port.0 → t.slot < 32 → t.slot ≤ old.cap / 256 % 32 → RunsItsList port.0 old → SomeMachineAgreesWith (IsSlotStateFree port.0 t.slot) old →
    is_queued (meaning_of t.task).operation ≡ t.task.queued → (t.task.op ≡ Trim → t.slot ≡ 0) → IsSimulated (IsStoreFor t.task.op port.0 t.slot) (IsSlotStateFree port.0 t.slot) old mid → MemoryEncodesTask port.0 t mid.memory →
    IsSoleBit t.slot own → WritesSactIfQueued t.task.queued port own mid armed → IsArmedFor port t.task.queued (t ∷ []) own old armed
armed_one port t own old mid armed on there small usable may agreed kind head stores say sole arms = record {
  adapter_is_on = on;
  has_port = there;
  list_runs = may;
  machine_is_related = (agreed.0, all_one (λ x. agreed.0 port.0 x.slot ≡ Free) t agreed.1, agreed.2);
  slots_are_apart = one_apart t;
  slots_in_range = all_one (λ x. x.slot < 32) t small;
  slots_are_usable = all_one (λ x. x.slot ≤ old.cap / 256 % 32) t usable;
  all_are_of_kind = all_one (λ x. x.task.queued ≡ t.task.queued) t refl;
  operation_is_queued = all_one (λ x. is_queued (meaning_of x.task).operation ≡ x.task.queued) t kind;
  trim_in_slot_0 = all_one (λ x. x.task.op ≡ Trim → x.slot ≡ 0) t head;
  after_stores = mid;
  stores = simulated_as (IsStoreFor t.task.op port.0 t.slot) (IsStoreForBatch port.0 (t ∷ [])) (IsSlotStateFree port.0 t.slot) (BatchSlotsAreUnused port.0 (t ∷ [])) old mid (λ access is. (t, contains_here t [], is))
      (λ uses free. All-head (λ x. uses port.0 x.slot ≡ Free) t [] free) stores;
  slots_say_tasks = all_one (λ x. MemoryEncodesTask port.0 x mid.memory) t say;
  mask_has_slots = one_has_bits t own sole;
  arms = arms;
}

-- a plain task that was stored
pub armed_plain : (port : Port) (r : Task) (frames : List Frame) (own : ℕ) (old stored : Device) → IsPlainTaskStored port r frames old stored → IsSoleBit 0 own → IsArmedFor port r.queued (batch_of_one 0 r frames) own old stored
armed_plain port r frames own old stored x sole =
    let may = x.may_issue_task in
    armed_one port (record { slot = 0; task = r; frames = frames }) own old stored stored may.adapter_is_on may.has_port (omega arith) (omega arith) may.list_runs may.machine_is_related (x.operation_is_plain ∙ sym x.is_plain) (λ trim. refl) x.stores x.slot_says_task sole
    (subst (λ (queued : Bool). WritesSactIfQueued queued port own stored stored) (sym x.is_plain) refl)

-- a transfer that was stored
pub armed_transfer : (port : Port) (t : PlacedTask) (own : ℕ) (old mid armed : Device) → MayIssueTransfer port t.slot t.task t.frames old → StoresTransfer port t old mid → IsSoleBit t.slot own → WritesSactIfQueued t.task.queued port own mid armed →
    IsArmedFor port t.task.queued (t ∷ []) own old armed
armed_transfer port t own old mid armed may x sole arms =
    armed_one port t own old mid armed may.may_issue_task.adapter_is_on may.may_issue_task.has_port may.slot_in_range may.slot_is_usable may.may_issue_task.list_runs may.may_issue_task.machine_is_related (kind_of t.task.queued t.task.op may.transfer_fits.is_transfer) (never_trim t.slot t.task.op may.transfer_fits.is_transfer)
    (stored_for port.0 t.slot old mid t.task.op may.transfer_fits.is_transfer x.stores) x.slot_says_task sole arms

-- a batch that was stored, whose bits of PxSACT are written
pub armed_batch : (port : Port) (tasks : List PlacedTask) (mask : ℕ) (old mid armed : Device) → IsBatchStored port tasks old mid → HasExactlySlotBitsOf tasks mask → Writes (Px port Sact) mask mid armed → IsArmedFor port true tasks mask old armed
armed_batch port tasks mask old mid armed x bits call = record {
  adapter_is_on = x.adapter_is_on;
  has_port = x.has_port;
  list_runs = x.list_runs;
  machine_is_related = x.machine_is_related;
  slots_are_apart = x.slots_are_apart;
  slots_in_range = x.slots_in_range;
  slots_are_usable = x.slots_are_usable;
  all_are_of_kind = x.all_are_queued;
  operation_is_queued = all_as (λ t. IsFitTransfer t.task t.frames) (λ t. is_queued (meaning_of t.task).operation ≡ t.task.queued) (λ t fit. kind_of t.task.queued t.task.op fit.is_transfer) tasks x.transfers_fit;
  trim_in_slot_0 = all_as (λ t. IsFitTransfer t.task t.frames) (λ t. t.task.op ≡ Trim → t.slot ≡ 0) (λ t fit. never_trim t.slot t.task.op fit.is_transfer) tasks x.transfers_fit;
  after_stores = mid;
  stores = x.stores;
  slots_say_tasks = x.slots_say_tasks;
  mask_has_slots = bits;
  arms = call;
}
