-- A command fails on a sector: the store of the disk has failed, or the sector is past the disk.
use Rattle.std.specs.Prelude.{option_map}
use Rattle.std.proofs.Common.{ℕ, true, ◌≡◌, ◌≢◌, ◌∙◌, List, Option, Some, sym, ap, subst, inr}
use Rattle.adapter.specs.Commands.{is_queued, moves_disk_sectors, reads_memory}
use Rattle.adapter.specs.Device.{Device, FetchedCommand}
use Rattle.adapter.specs.Steps.{Can, device_after, next_sector}
use Rattle.adapter.specs.Steps.DeviceTransition.{Fault}
use Rattle.adapter.specs.declared.access.DeviceStep.{DeviceStep}
use Rattle.adapter.specs.declared.access.DeviceStep.TheVariants as asked
use Rattle.ata_types.specs.declared.Port.{Port}
use Rattle.ata_types.specs.declared.Slot.{Slot}
use Rattle.sector_store.specs.declared.store.Failures.{Failures}
use Rattle.device_model.specs.Disks.{bay_of, port_has_cache, disk_failures, page_source_of, disk_index_of}
use Rattle.device_model.specs.StepEffects.{MayAskStore, DidStep, CommandOfStepFails, SectorIsPastDiskOrStoreFails, StepKeeps, asked_port, page_source_after_failure, disk_index_after}
use Rattle.device_model.specs.Finishing.{HasMove}
use Rattle.device_model.specs.HeldPorts.{held_after}
use Rattle.device_model.specs.ModelState.{device_at}
use Rattle.device_model.specs.DiskPages.{GainsOwnPages}
use Rattle.device_model.specs.SentFises.{SendsFault}
use Rattle.device_model.specs.declared.disks.ModelDisk.{ModelDisk}
use Rattle.device_model.specs.declared.model.Model.{Model}
use Rattle.device_model.proofs.Doing.{IsFailed, keeps_on, pages_on, whichs}
use Rattle.device_model.proofs.TwoDisks.{failures_kept}

-- a disk that is in, and the store that it has failed on, are as the fault has found them
pub fine_on : {S : Type 0} (size : S → ℕ) (told : S → Option (ℕ → List ℕ)) (failures : S → Option Failures) (p : Port) (slot : Slot)
    (error : ℕ) (t : FetchedCommand) (mid last : Model S) → IsFailed size told failures p slot error t mid last → disk_failures failures last p.0 ≡ disk_failures failures mid p.0
fine_on {S} size told failures p slot error t mid last failed =
    failures_kept failures mid last p.0 failed.which (λ w. ap (option_map (λ (x : ModelDisk S). failures x.store)) (failed.disks w))

module _ {S : Type 0} (size : S → ℕ) (told : S → Option (ℕ → List ℕ)) (failures : S → Option Failures) (p : Port) (slot : Slot) (error : ℕ) (t : FetchedCommand)
    (m mid last : Model S) (failed : IsFailed size told failures p slot error t mid last) where
  -- as the next sector was to be moved
  pub fails_to_move : device_at size told mid ≡ device_at size told m → page_source_of mid p.0 ≡ page_source_of m p.0 → HasMove (device_at size told m) p.0 slot.0 t →
      moves_disk_sectors t.meaning.operation ≡ true →
      SectorIsPastDiskOrStoreFails (port_has_cache m p.0) (reads_memory t.meaning.operation) (next_sector t) ((device_at size told m).port p.0).disk.sector_count error (disk_failures failures m p.0) (disk_failures failures mid p.0) →
      CommandOfStepFails size told failures (asked.Move p slot) m last
  fails_to_move same says move moves_sectors cause =
      let P : Option Failures → Type 0 = λ now.
      SectorIsPastDiskOrStoreFails (port_has_cache m p.0) (reads_memory t.meaning.operation) (next_sector t) ((device_at size told m).port p.0).disk.sector_count error (disk_failures failures m p.0) now in
      let Q : FetchedCommand → Device → Type 0 = λ x d. Can (Fault p.0 slot.0 error 0 x) d in
      let R : FetchedCommand → Device → Type 0 = λ x d. SendsFault (is_queued x.meaning.operation) p.0 d (device_at size told last) in
      record {
        fetched_command = t;
        has_move = move;
        moves_sectors = moves_sectors;
        error = error;
        cause = subst P (sym (fine_on size told failures p slot error t mid last failed)) cause;
        can = subst (λ (d : Device). Q t d) same (subst (λ (x : FetchedCommand). Q x (device_at size told mid)) failed.same failed.fails.fault.can);
        sends = subst (R t) (failed.fails.fault.effect ∙ (λ i. device_after (Fault p.0 slot.0 error 0 (failed.same i)) (same i)))
            (subst (λ (x : FetchedCommand). R x failed.fails.after_failure) failed.same failed.fails.posts);
        page_source_after_is = failed.says ∙ ap (λ says. page_source_after_failure (Some t) slot.0 error says) says;
      }

  -- the step is done, as far as that
  pub did_fail : (s : DeviceStep) → asked_port s ≡ p.0 → CommandOfStepFails size told failures s m last → held_after s m.held ≡ m.held →
      disk_index_after s (disk_index_of m (asked_port s)) ≡ disk_index_of m (asked_port s) → mid.held ≡ m.held → page_source_of mid p.0 ≡ page_source_of m p.0 → disk_index_of mid p.0 ≡ disk_index_of m p.0 →
      ((q : ℕ) → q ≢ p.0 → bay_of mid q ≡ bay_of m q) → GainsOwnPages size m mid → StepKeeps size m mid → mid.hardware.starved ≡ m.hardware.starved →
      MayAskStore s (device_at size told m) → DidStep size told failures s m last
  did_fail s at fails held_on which_on held says which others pages keeps starved asks = record {
    completes_or_fails = inr fails;
    held_ports_are = failed.held ∙ (held ∙ sym held_on);
    disk_index_is = subst (λ q. disk_index_of last q ≡ disk_index_of m q) (sym at) (failed.which ∙ which) ∙ sym which_on;
    other_bays_are_kept = λ q ne. let apart : q ≢ p.0 = λ is. ne (is ∙ sym at) in failed.others q apart ∙ others q apart;
    gains_own_pages = pages_on size told failures p.0 m mid last says which others keeps pages failed.pages;
    disks_are_kept = λ never. absurd (never asks);
    step_keeps = keeps_on size told failures m mid last (whichs size told failures p.0 m mid which others) keeps failed.keeps;
    starved_is_kept = failed.starved ∙ starved;
  }
