-- What a reset that ends makes of a server (this project's own; the adapter's part: AHCI 1.3.1, 10.4.3 and 10.1.2).
use Rattle.std.specs.Prelude.{ℕ, ◌≡◌, ◌≢◌, ◌+◌, ◌<◌, ◌≤◌, ◌++◌, List, [], ◌∷◌, Option, None, Some, All, count_by, length, slice_set}
use Rattle.ata_types.specs.declared.Port.{Port}
use Rattle.ata_types.specs.declared.PortState.TheVariants.{Dead as DeadState}
use Rattle.ata_types.specs.declared.request.Reply.{Reply}
use Rattle.adapter.specs.Device.{Device}
use Rattle.refinement.specs.Relation.{port_at}
use Rattle.host_boot.specs.Resets.{Resets}
use Rattle.host_boot.specs.TakeOver.{TakesOver, probe_result_of}
use Rattle.host_boot.specs.declared.ProbeResult.{ProbeResult}
use Rattle.host_boot.specs.declared.ProbeResult.TheVariants.{Ready, Unready}
use Rattle.host_boot.specs.declared.Host.{Host}
use Rattle.identify.specs.declared.DiskInfo.{DiskInfo}
use Rattle.request_queue.specs.BookEntries.{BookEntry, IsWellFormedEntry, BookIsWellFormed}
use Rattle.request_queue.specs.Dispositions.{BookAndLoans, AreResolved, disposition_of}
use Rattle.request_queue.specs.declared.disposition.Revalidation.{Revalidation}
use Rattle.request_queue.specs.declared.disposition.Revalidation.TheVariants.{SameDisk, DiskLost, Dead}
use Rattle.server_history.specs.KeptLoans.{IsKeptIn, GivesBackLoans}
use Rattle.server_history.specs.ErrorHandling.{IsDiskOfSameSerialAndSize, book_and_loans_of, requests_of}
use Rattle.server_history.specs.IssuingAndAnswering.{IssuesDueOfPort}
use Rattle.server_history.specs.ServerState.{ServerState, last_disk_in, quarantined_at, mode_at, probed_mode, remembered_at, slots_at, used_for}

-- ---- the adapter is taken over again

-- The adapter was reset, the frames of the kept loans were given back, and the idle adapter was taken over: ports are
-- what they were found to be, with no slot used; and the disk that each was last ready with is remembered. No request
-- is answered, nor issued.
pub record IsReinitialized (old taken : ServerState) : Type 0 where
  pub idle_device : Device
  pub resets : Resets old.device idle_device
  pub loans_are_taken_back : GivesBackLoans old.table taken.table (IsKeptIn old.kept_loans)
  pub no_loan_is_kept : (port : ℕ) → quarantined_at taken.kept_loans port ≡ []
  pub kept_loans_are_of_four_ports : length taken.kept_loans ≡ 4
  pub host : Host
  pub takes_over : TakesOver old.wanted host idle_device taken.device
  pub host_has_four_ports : length host.ports ≡ 4
  pub last_disks_are_remembered : (port : ℕ) → remembered_at taken.remembered port ≡ last_disk_in old (port_at port)
  pub remembered_is_of_four_ports : length taken.remembered ≡ 4
  pub modes_are_of_four_ports : length taken.modes ≡ 4
  pub modes_are_probed : (port : ℕ) → port < 4
      → mode_at taken.modes port ≡ probed_mode taken.device.cap (probe_result_of host.ports port)
  pub slots_are_of_four_ports : length taken.slots ≡ 4
  pub has_32_slots : (port : ℕ) → port < 4 → length (slots_at taken.slots port).slot_uses ≡ 32
  pub usable_count_is_of_mode : (port : ℕ) → port < 4 → (slots_at taken.slots port).usable_count
      ≡ (mode_at taken.modes port).usable_slots
  pub no_slot_is_used : (port slot : ℕ) → used_for taken.slots port slot ≡ None
  pub server_is : taken ≡ record old {
    device = taken.device;
    table = taken.table;
    probe_results = host.ports;
    remembered = taken.remembered;
    modes = taken.modes;
    slots = taken.slots;
    kept_loans = taken.kept_loans;
  }

-- ---- what becomes of its requests

-- What a port's requests may expect then, by the disk that it was last ready with, if it ever was.
abbrev pub IsResetRevalidation : Option DiskInfo → ProbeResult → Revalidation → Type 0
IsResetRevalidation was found SameDisk = (before now : DiskInfo) × (was ≡ Some before) × (found ≡ Ready now)
    × IsDiskOfSameSerialAndSize before now
IsResetRevalidation was found DiskLost = (found ≢ Unready DeadState)
    × ((before now : DiskInfo) → was ≡ Some before → found ≡ Ready now → IsDiskOfSameSerialAndSize before now → ⊥)
IsResetRevalidation was found Dead = found ≡ Unready DeadState

-- the server, with these holdings of the port
abbrev pub with_book_and_loans : Port → BookAndLoans → ServerState → ServerState
with_book_and_loans port now s = record s {
  table = now.table;
  kept_loans = slice_set s.kept_loans port.0 now.kept;
  book = now.book;
}

-- The requests of a port were resolved, in order of acceptance. None is answered with a fault, and what becomes of each
-- depends on its port's revalidation. This leads to this server.
pub record ResolvesPort (port : Port) (replies : List Reply) (old new : ServerState) : Type 0 where
  pub revalidation : Revalidation
  pub is_revalidation : IsResetRevalidation (remembered_at old.remembered port.0)
      (probe_result_of old.probe_results port.0) revalidation
  pub book_and_loans_after : BookAndLoans
  pub are_resolved : AreResolved (disposition_of None revalidation) (requests_of port old.book) replies
      (book_and_loans_of port old) book_and_loans_after
  pub server_is : new ≡ with_book_and_loans port book_and_loans_after old

-- The same for these ports, one after another; the first of them has this number.
abbrev pub ResolvesEachPort : ℕ → List ProbeResult → List Reply → ServerState → ServerState → Type 0
ResolvesEachPort port [] replies old new = (replies ≡ []) × (new ≡ old)
ResolvesEachPort port (found ∷ rest) replies old new =
    (mid : ServerState) × (its later : List Reply) × (replies ≡ its ++ later) × ResolvesPort (port_at port) its old mid
    × ResolvesEachPort (port + 1) rest later mid new

-- Its requests may be resolved: there are loans of four ports; the requests are in order, each as it was accepted,
-- with its frames lent to it; and there is a place for the loan of each that is issued, beside those that are kept of
-- its port.
pub record MayResolve (s : ServerState) : Type 0 where
  pub kept_loans_are_of_four_ports : length s.kept_loans ≡ 4
  pub book_is_well_formed : BookIsWellFormed s.book
  pub entries_are_well_formed : All (IsWellFormedEntry s.table) s.book
  pub kept_loans_have_room : (port : Port)
      → length (quarantined_at s.kept_loans port.0) + count_by (λ (e : BookEntry). e.request.issued)
      (requests_of port s.book) ≤ 32

-- ---- the whole

-- What is due was issued on those of these ports that are ready, one after another; the first of them has this number.
abbrev pub IssuesOnEachReadyPort : ℕ → List ProbeResult → ServerState → ServerState → Type 0
IssuesOnEachReadyPort port [] old new = new ≡ old
IssuesOnEachReadyPort port (Ready info ∷ rest) old new = (mid : ServerState) × IssuesDueOfPort (port_at port) old mid
    × IssuesOnEachReadyPort (port + 1) rest mid new
IssuesOnEachReadyPort port (found ∷ rest) old new = IssuesOnEachReadyPort (port + 1) rest old new

-- A reset that ended: the adapter was taken over again, all requests were resolved, port by port, and then what is
-- due was issued.
pub record ResetsServer (replies : List Reply) (old new : ServerState) : Type 0 where
  pub server_after_take_over : ServerState
  pub is_reinitialized : IsReinitialized old server_after_take_over
  pub server_after_resolving : ServerState
  pub resolves_each_port : ResolvesEachPort 0 server_after_take_over.probe_results replies server_after_take_over
      server_after_resolving
  pub issues_on_each_ready_port : IssuesOnEachReadyPort 0 server_after_take_over.probe_results server_after_resolving
      new
