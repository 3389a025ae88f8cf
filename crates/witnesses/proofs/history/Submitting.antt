-- A read is issued on the first of two ports, and the device takes it.
use Rattle.std.proofs.Common.{ℕ, suc, ◌≡◌, false, List, [], ◌∷◌, None, Some, refl, arith}
use Rattle.hba_regs.specs.declared.reg.Reg.TheVariants.{Px}
use Rattle.hba_regs.specs.declared.reg.PortReg.TheVariants.{Ci}
use Rattle.adapter.specs.Access.{Access, DoesAll, port_after_write}
use Rattle.adapter.specs.Access.Access.{Writing, Storing}
use Rattle.adapter.specs.Device.{DevicePort, FetchedCommand, Device}
use Rattle.adapter.specs.FirstRead.{header_up_to_ctba}
use Rattle.adapter.specs.Memory.{changed, patched}
use Rattle.adapter.specs.ReadDone.{read_of}
use Rattle.adapter.specs.Decoding.{piece_addresses}
use Rattle.adapter.specs.Steps.{Steps, newly_fetched, port_after_fetch}
use Rattle.adapter.specs.Steps.DeviceTransition.{Fetch}
use Rattle.adapter.specs.declared.tape.Entry.{Entry}
use Rattle.refinement.specs.Relation.{port_at}
use Rattle.witnesses.specs.RunningAdapter.{running_device, fit_page, page_entry, running_port}
use Rattle.witnesses.proofs.history.Command.{place_bytes, read_bytes, read_memory, told, zeros}
use Rattle.witnesses.proofs.history.Devices.{but_first, other_bit, put_device, step_first, stores, writes}

-- ---- it is issued

-- both ports have sent this page
abbrev pub sent : List ℕ → List Entry
sent page = page_entry page 0 ∷ page_entry page 1 ∷ []

abbrev pub pages : List Entry
pages = sent fit_page

abbrev pub second : DevicePort
second = running_port 1

abbrev pub booted : Device
booted = running_device pages zeros (running_port 0 ∷ second ∷ [])

abbrev pub issued : DevicePort
issued = port_after_write Ci 1 2 (running_port 0)

abbrev pub submitted : Device
submitted = running_device pages read_memory (issued ∷ second ∷ [])

abbrev pub submit_accesses : List Access
submit_accesses = Storing 0 header_up_to_ctba ∷ Storing 0x1000 read_bytes ∷ Storing 0x1080 place_bytes ∷ Writing (Px (port_at 0) Ci) 1 ∷ []

pub submits : DoesAll submit_accesses booted submitted
unfolding read_memory
submits = (
  running_device pages (patched zeros 0 header_up_to_ctba) (running_port 0 ∷ second ∷ []),
  stores 0 header_up_to_ctba pages zeros (running_port 0 ∷ second ∷ []),
  (
    running_device pages (patched (patched zeros 0 header_up_to_ctba) 0x1000 read_bytes) (running_port 0 ∷ second ∷ []),
    stores 0x1000 read_bytes pages (patched zeros 0 header_up_to_ctba) (running_port 0 ∷ second ∷ []),
    (
      running_device pages read_memory (running_port 0 ∷ second ∷ []),
      stores 0x1080 place_bytes pages (patched (patched zeros 0 header_up_to_ctba) 0x1000 read_bytes) (running_port 0 ∷ second ∷ []),
      (submitted, writes pages read_memory 0 (running_port 0 ∷ second ∷ []) (issued ∷ second ∷ []) (but_first (running_port 0) issued (second ∷ [])) Ci 1 refl, refl),
    ),
  ),
)

-- slot 0 alone has a bit
pub others_clear : (k : ℕ) → issued.ci (suc k) ≡ false
others_clear k = other_bit (suc k) (omega arith)

-- ---- and taken by the device

abbrev pub command : FetchedCommand
command = newly_fetched (read_of 100 1) (piece_addresses 0x64000 1)

abbrev pub taken : DevicePort
taken = port_after_fetch issued 0 (read_of 100 1) (piece_addresses 0x64000 1)

-- and then the device does more
pub fetches : (new : Device) → Steps (running_device pages read_memory (taken ∷ second ∷ [])) new → Steps submitted new
unfolding changed
fetches new = step_first (Fetch 0 0 (read_of 100 1) (piece_addresses 0x64000 1)) submitted (running_device pages read_memory (taken ∷ second ∷ [])) new
    (record {
      fetchable = record { st_is_set = refl; issued = refl; free = refl };
      working = record { cr_is_set = refl; present = refl; fresh = refl; admitted = refl; is_not_broken = refl };
      is_alone_or_all_are_queued = λ slot t is. absurd (let x : None ≡ Some t = is in cc);
      says = told.decodes_to;
    })
    (put_device pages read_memory 0 (issued ∷ second ∷ []) (taken ∷ second ∷ []) taken refl (but_first issued taken (second ∷ [])))
