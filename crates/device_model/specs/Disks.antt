-- The disks of a model: two for each port that has some, of which one is in at a time, and how they stand (this
-- project's own).
use Rattle.std.specs.Prelude.{ℕ, ◌≡◌, Bool, true, false, List, [], ◌∷◌, ◌++◌, Option, None, Some, codes, if◌then◌else◌, option_map, slice_index_or, slice_set}
use Rattle.adapter.specs.Device.{Disk}
use Rattle.adapter.specs.declared.command.Operation.{Operation}
use Rattle.adapter.specs.declared.command.Operation.TheVariants.{Flush}
use Rattle.sector_store.specs.declared.store.Failures.{Failures}
use Rattle.device_model.specs.WriteCaches.{HasRoomForOldSectors, KeepsNoOldSectors, RollsBack, lasting_in}
use Rattle.device_model.specs.declared.bay.Bay.{Bay}
use Rattle.device_model.specs.declared.bay.PageSource.{PageSource}
use Rattle.device_model.specs.declared.disks.Disks.{Disks}
use Rattle.device_model.specs.declared.disks.ModelDisk.{ModelDisk}
use Rattle.device_model.specs.declared.disks.PluggedDisks.{PluggedDisks, Nothing, After'}
use Rattle.device_model.specs.declared.disks.PortDisks.{PortDisks}
use Rattle.device_model.specs.declared.disks.DiskIndex.{DiskIndex}
use Rattle.device_model.specs.declared.disks.DiskIndex.TheVariants.{Disk0, Disk1}
use Rattle.device_model.specs.declared.model.Model.{Model}

-- The number of the disk.
abbrev pub disk_number : DiskIndex → ℕ
disk_number Disk0 = 0
disk_number Disk1 = 1

-- Both are the same disk.
abbrev pub is_same_index : DiskIndex → DiskIndex → Bool
is_same_index Disk0 Disk0 = true
is_same_index Disk1 Disk1 = true
is_same_index _ _ = false

-- a disk over a store of so many sectors, which tells these
abbrev pub disk_over : DiskIndex → ℕ → Option (ℕ → List ℕ) → Disk
disk_over which size told = record { name = disk_number which; sector_count = size; sectors = told }

-- ---- those that are given

-- the disks that are given for a port
abbrev pub disks_given_for : {S : Type 0} → Disks S → ℕ → Option (PortDisks S)
disks_given_for d port = slice_index_or (d.port0 ∷ d.port1 ∷ d.port2 ∷ d.port3 ∷ []) port None

-- port 0 alone has disks: this one is in at first, and this one can be put in for it
abbrev pub port_0_alone : {S : Type 0} → (image blank : S) → Disks S
port_0_alone image blank =
    record {
      port0 = Some (record {
        first = record { serial = codes "IMAGEDISK           "; store = image };
        spare = record { serial = codes "BLANKDISK           "; store = blank };
      });
      port1 = None;
      port2 = None;
      port3 = None;
    }

-- ---- those of a port

-- A port has the disk that is in, or was last, and the other one.
abbrev pub disk_in_bay : {S : Type 0} → Bay S → DiskIndex → ModelDisk S
disk_in_bay b which = if is_same_index which b.which then b.disk else b.other

-- the disks that were put in one after another, each as it is made of which one it was and of its store then
abbrev pub plugged_as : {S : Type 0} → (DiskIndex → S → Disk) → PluggedDisks S → List Disk
plugged_as disk Nothing = []
plugged_as disk (After' shape before which store) = plugged_as disk before ++ disk which store.value ∷ []

-- what is fixed of a disk: its serial number, and how many sectors it has
pub record DiskIdentity : Type 0 where
  pub serial : List ℕ
  pub size : ℕ

-- What a page says of the disk: its serial number and its size.
abbrev pub identity : {S : Type 0} → (S → ℕ) → ModelDisk S → DiskIdentity
identity size disk = record { serial = disk.serial; size = size disk.store }

-- ---- those of a model, port by port; `None` stands for a port that has no disks, ever

-- The bay of the port, if it has disks.
abbrev pub bay_of : {S : Type 0} → Model S → ℕ → Option (Bay S)
bay_of m port = slice_index_or m.bays.items port None

-- which of its disks is in, or was last
abbrev pub disk_index_of : {S : Type 0} → Model S → ℕ → Option DiskIndex
disk_index_of {S} m port = option_map (λ (b : Bay S). b.which) (bay_of m port)

-- what both say of themselves
abbrev pub page_source_of : {S : Type 0} → Model S → ℕ → Option PageSource
page_source_of {S} m port = option_map (λ (b : Bay S). b.page_source) (bay_of m port)

-- the one or the other of them
abbrev pub numbered_disk : {S : Type 0} → Model S → ℕ → DiskIndex → Option (ModelDisk S)
numbered_disk {S} m port which = option_map (λ (b : Bay S). disk_in_bay b which) (bay_of m port)

-- what is fixed of the disk that is in, or was last
abbrev pub identity_of : {S : Type 0} → (S → ℕ) → Model S → ℕ → Option DiskIdentity
identity_of {S} size m port = option_map (λ (b : Bay S). identity size b.disk) (bay_of m port)

-- what the store of that disk tells of calls that failed
abbrev pub bay_failures : {S : Type 0} → (S → Option Failures) → Option (Bay S) → Option Failures
bay_failures failures None = None
bay_failures failures (Some b) = failures b.disk.store

-- How often the stores of the port have failed, if they count that.
abbrev pub disk_failures : {S : Type 0} → (S → Option Failures) → Model S → ℕ → Option Failures
disk_failures failures m port = bay_failures failures (bay_of m port)

-- ---- what is lasting of the one that is in, or was last

-- what is, where it tells
abbrev pub lasting_of : {S : Type 0} → (S → Option (ℕ → List ℕ)) → Bay S → Option (ℕ → List ℕ)
lasting_of told b = lasting_in b.cache (told b.disk.store) (told b.lasting.value)

-- This disk stands as the one that is in. Each has the sectors that it had; those of another one are lasting.
pub record SelectsDisk {S : Type 0} (told : S → Option (ℕ → List ℕ)) (which : DiskIndex) (old new : Bay S) : Type 0
  where
    pub it_is_in : new.which ≡ which
    pub disks_are_kept : (w : DiskIndex) → disk_in_bay new w ≡ disk_in_bay old w
    pub lasting_is : lasting_of told new
        ≡ (if is_same_index which old.which then lasting_of told old else told new.disk.store)
    pub has_cache_as_before : new.cache.is_on ≡ old.cache.is_on
    pub rest_is_kept : new ≡ record old {
      which = new.which;
      disk = new.disk;
      other = new.other;
      lasting = new.lasting;
      cache = new.cache;
    }

-- the disks of a port have a volatile write cache
abbrev pub has_cache : {S : Type 0} → Option (Bay S) → Bool
has_cache None = false
has_cache (Some b) = b.cache.is_on

-- The disks of the port have a cache.
abbrev pub port_has_cache : {S : Type 0} → Model S → ℕ → Bool
port_has_cache m port = has_cache (bay_of m port)

-- without growing, that of a port has room for the old bytes of so many sectors more
abbrev pub BayHasRoomForOldSectors : {S : Type 0} → Option (Bay S) → ℕ → Type 0
BayHasRoomForOldSectors None more = Unit {0}
BayHasRoomForOldSectors (Some b) more = HasRoomForOldSectors b.cache more

-- The bay of the port has room for so many more old sectors.
abbrev pub BaysHaveRoomForOldSectors : {S : Type 0} → List (Option (Bay S)) → ℕ → ℕ → Type 0
BaysHaveRoomForOldSectors bays port more = BayHasRoomForOldSectors (slice_index_or bays port None) more

-- The model has room for so many more old sectors of the port.
abbrev pub ModelHasRoomForOldSectors : {S : Type 0} → Model S → ℕ → ℕ → Type 0
ModelHasRoomForOldSectors m port more = BaysHaveRoomForOldSectors m.bays.items port more

-- The disks of a port after such a command has ended: a flush makes lasting what the disk that is in holds, and nothing
-- older is kept any more.
abbrev pub BayEndsCommand : {S : Type 0} → Operation → (old new : Bay S) → Type 0
BayEndsCommand Flush old new = KeepsNoOldSectors old.cache new.cache
    × (new ≡ record old { lasting = record { marker = record {}; value = old.disk.store }; cache = new.cache })
BayEndsCommand _ old new = new ≡ old

-- the same of a port that has disks, or none
abbrev pub EndsCommandIn : {S : Type 0} → Operation → (old new : Option (Bay S)) → Type 0
EndsCommandIn operation None new = new ≡ None
EndsCommandIn operation (Some old) None = ⊥
EndsCommandIn operation (Some old) (Some new) = BayEndsCommand operation old new

-- a command of this port has ended, and nothing else is another
abbrev pub OnlyEndsCommand : {S : Type 0} → Operation → ℕ → (old new : List (Option (Bay S))) → Type 0
OnlyEndsCommand {S} operation port old new =
    (bay : Option (Bay S)) × EndsCommandIn operation (slice_index_or old port None) bay × (new ≡ slice_set old port bay)

-- What was in a cache is lost: its disk is turned back into what is lasting of it. Without one the disk is as it was.
pub record LosesCache {S : Type 0} (size : S → ℕ) (told : S → Option (ℕ → List ℕ)) (failures : S → Option Failures)
    (old new : Bay S) : Type 0 where
  pub is_rolled_back_with_cache : old.cache.is_on ≡ true
      → RollsBack size told failures (lasting_of told old) old.disk.store new.disk.store
  pub store_is_kept_without_cache : old.cache.is_on ≡ false → new.disk.store ≡ old.disk.store

-- what the disks of this port say is another, if it has some, and nothing else
abbrev pub OnlyChangesPageSource : {S : Type 0} → (PageSource → PageSource) → ℕ → (old new : List (Option (Bay S)))
    → Type 0
OnlyChangesPageSource {S} says port old new =
    new ≡ slice_set old port (option_map (λ (b : Bay S). record b { page_source = says b.page_source })
    (slice_index_or old port None))
