use Rattle.std.proofs.Common.{◌≡◌, ◌+◌, ◌-◌, true, false, IfSome}
use Rattle.adapter.specs.AskedSteps.{DoesAtLeastOneSlotStep}
use Rattle.adapter.specs.declared.access.DeviceStep.TheVariants as asked
use Rattle.device_model.specs.Disks.{numbered_disk}
use Rattle.device_model.specs.StepEffects.{MayAskStore, NoCallFailed}
use Rattle.device_model.specs.Finishing.{TapeHasRoom, IsInProgress}
use Rattle.device_model.specs.ModelState.{device_at}
use Rattle.device_model.specs.SentFises.{SendsEnd}
use Rattle.device_model.specs.Slots.{IsNextMove}
use Rattle.device_model.specs.declared.port.TakenCommand.{TakenCommand}
use Rattle.device_model.specs.declared.disks.DiskIndex.{DiskIndex}
use Rattle.device_model.proofs.Doing.{Meanwhile}
use Rattle.device_model.proofs.Growing.{RoomAhead}
use Rattle.device_model.proofs.model.Model.finish.Given as goal

abbrev pub invariant-loop-piece : goal.invariant-loop-piece
invariant-loop-piece g l = record {
  did : l.did ≡ true → DoesAtLeastOneSlotStep (SendsEnd l.slot.0) l.port.0 l.slot.0
      (device_at g.S.SectorStore.size g.S.SectorStore.told l.fn.self) (device_at g.S.SectorStore.size g.S.SectorStore.told l.self);
  refused : l.did ≡ false →
      device_at g.S.SectorStore.size g.S.SectorStore.told l.self ≡ device_at g.S.SectorStore.size g.S.SectorStore.told l.fn.self;
  size : (device_at g.S.SectorStore.size g.S.SectorStore.told l.self).memory_size ≡ (device_at g.S.SectorStore.size g.S.SectorStore.told l.fn.self).memory_size;
  room : TapeHasRoom l.self.hardware (l.remaining.moves - l.piece + l.remaining.clears + 1);
  going : IsInProgress (device_at g.S.SectorStore.size g.S.SectorStore.told l.self) l.port.0 l.slot.0 (l.remaining.moves - l.piece) l.remaining.clears;
  ahead : RoomAhead g.S.SectorStore.size g.S.SectorStore.told l.self l.port.0 l.slot.0 (l.remaining.moves - l.piece);
  disks : (MayAskStore (asked.Finish l.port l.slot) (device_at g.S.SectorStore.size g.S.SectorStore.told l.fn.self) → ⊥) → (which : DiskIndex) →
      numbered_disk l.self l.port.0 which ≡ numbered_disk l.fn.self l.port.0 which;
  untouched : l.did ≡ false → (which : DiskIndex) → numbered_disk l.self l.port.0 which ≡ numbered_disk l.fn.self l.port.0 which;
  fine : NoCallFailed g.S.SectorStore.failures l.fn.self l.self;
  meanwhile : Meanwhile g.S.SectorStore.size l.port.0 l.fn.self l.self;
  next : IfSome l.known (λ n. (t : TakenCommand) × IsNextMove l.self.hardware l.port.0 l.slot.0 n t);
}

abbrev pub invariant-loop-run : goal.invariant-loop-run
invariant-loop-run g l = record {
  did : l.did ≡ true → DoesAtLeastOneSlotStep (SendsEnd l.slot.0) l.port.0 l.slot.0
      (device_at g.S.SectorStore.size g.S.SectorStore.told l.fn.self) (device_at g.S.SectorStore.size g.S.SectorStore.told l.self);
  refused : l.did ≡ false →
      device_at g.S.SectorStore.size g.S.SectorStore.told l.self ≡ device_at g.S.SectorStore.size g.S.SectorStore.told l.fn.self;
  room : TapeHasRoom l.self.hardware (l._run-end - l._run + 1);
  going : IsInProgress (device_at g.S.SectorStore.size g.S.SectorStore.told l.self) l.port.0 l.slot.0 0 (l._run-end - l._run);
  ahead : RoomAhead g.S.SectorStore.size g.S.SectorStore.told l.self l.port.0 l.slot.0 0;
  disks : (MayAskStore (asked.Finish l.port l.slot) (device_at g.S.SectorStore.size g.S.SectorStore.told l.fn.self) → ⊥) → (which : DiskIndex) →
      numbered_disk l.self l.port.0 which ≡ numbered_disk l.fn.self l.port.0 which;
  untouched : l.did ≡ false → (which : DiskIndex) → numbered_disk l.self l.port.0 which ≡ numbered_disk l.fn.self l.port.0 which;
  fine : NoCallFailed g.S.SectorStore.failures l.fn.self l.self;
  meanwhile : Meanwhile g.S.SectorStore.size l.port.0 l.fn.self l.self;
}
