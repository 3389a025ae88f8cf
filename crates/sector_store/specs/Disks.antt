-- What a disk is that is a file or stands in memory (this project's own).
use Rattle.std.specs.Prelude.{ℕ, List, [], Option, Some, None, slice_index_or}
use Rattle.sector_store.specs.declared.disks.DiskStore.{DiskStore}
use Rattle.sector_store.specs.declared.disks.DiskStore.TheVariants.{File, Memory}
use Rattle.sector_store.specs.declared.store.Failures.{Failures}
use Rattle.sector_store.specs.Stores.{filled_with_zeros_to_size}

-- how many sectors there are
abbrev pub sector_count_of : DiskStore → ℕ
sector_count_of (File file) = file.sectors
sector_count_of (Memory memory) = memory.size

-- the sectors in memory; a file tells none
abbrev pub contents_of : DiskStore → Option (ℕ → List ℕ)
contents_of (File file) = None
contents_of (Memory memory) =
    Some (λ sector. slice_index_or (filled_with_zeros_to_size memory.size memory.written.items) sector [])

-- how many calls failed on sectors that are there, and the last of these; in memory none does
abbrev pub failures_if_file_backed : DiskStore → Option Failures
failures_if_file_backed (File file) = Some file.failures
failures_if_file_backed (Memory memory) = None
