-- What a server holds when it is made.
use Rattle.std.proofs.Common.{ℕ, zero, suc, List, ◌∷◌, refl, sym, ap, ◌∙◌, ◌≡◌, ◌+◌, ◌*◌, ◌/◌, ◌%◌, ◌<◌, ◌≤◌, [], length, Some, None, get_or, replicate, subst, arith, ⊎_elim}
use Rattle.std.proofs.lemmas.Bool.{cases_lt}
use Rattle.std.specs.List.{AllPairs, Contains}
use Rattle.std.proofs.lemmas.List.{get_or-replicate, get_or_default, get_or_past, length-map, length-replicate}
use Rattle.std.proofs.lemmas.List.Elements.{All-contains}
use Rattle.ata_types.specs.declared.grant.GrantRow.{GrantRow}
use Rattle.ata_types.specs.declared.request.ClientId.{ClientId}
use Rattle.ata_types.specs.declared.request.Frame.{Frame}
use Rattle.ata_types.specs.declared.memory.TheConstants.{DRIVER_FRAMES}
use Rattle.block_machine.specs.Rules.{DifferInName}
use Rattle.block_machine.specs.Expected.{IsValidRow}
use Rattle.dma_frames.specs.Loan.{Lending}
use Rattle.dma_frames.specs.FrameTables.{ExtentHasFrame, FrameExtent, owner_of, lent_to}
use Rattle.grants.specs.Rows.{SameRows}
use Rattle.host_boot.specs.TakeOver.{probe_result_of}
use Rattle.host_boot.specs.declared.Host.{Host}
use Rattle.hba_regs.specs.Bits.{bit}
use Rattle.block_machine.specs.declared.due.QueueMode.{QueueMode}
use Rattle.host_boot.specs.declared.ProbeResult.{ProbeResult}
use Rattle.host_boot.specs.declared.ProbeResult.TheVariants.{Unserved}
use Rattle.identify.specs.declared.wanted.Wanted.{Wanted}
use Rattle.configuration.specs.Plan.{HasClientFrames, IsClientNumber, IsServablePlan, IsServableGrant, PlanView}
use Rattle.server_history.specs.ServerState.{IsNewServer, ServerState, quarantined_at, last_disk_of, mode_at, probed_mode, no_slots, remembered_at, used_for}
use Rattle.block_server.specs.FourPorts.{EachBecomes, IsAsHostProbed, by_port, port_in}
use Rattle.port_driver.specs.PortAndShared.{NotesProbeResult}
use Rattle.port_driver.specs.declared.served_port.ServedPort.{ServedPort}
use Rattle.block_server.proofs.Becoming as becoming

-- each of so many is the same
at_replicate : {X : Type 0} (n : ℕ) (x : X) (place : ℕ) → get_or (replicate n x) place x ≡ x
at_replicate n x place = ⊎_elim
    (λ (low : place < n). get_or-replicate n place x x low)
    (λ (high : n ≤ place). get_or_past (replicate n x) place x (let l = length-replicate n x in omega (arith, high, l)))
    (cases_lt place n)

-- and no loan of the four ports is kept
empty_quarantines : (kept : List (List Lending)) → kept ≡ [] ∷ [] ∷ [] ∷ [] ∷ [] → (length kept ≡ 4) × ((port : ℕ) → quarantined_at kept port ≡ [])
empty_quarantines kept is = (ap length is, λ port. ap (λ (lists : List (List Lending)). quarantined_at lists port) is ∙ empty port)
  where
    empty : (port : ℕ) → quarantined_at ([] ∷ [] ∷ [] ∷ [] ∷ []) port ≡ []
    empty zero = refl
    empty (suc zero) = refl
    empty (suc (suc zero)) = refl
    empty (suc (suc (suc zero))) = refl
    empty (suc (suc (suc (suc n)))) = refl

module _ (s : ServerState) (host : Host) (plan : PlanView) (is : IsServablePlan plan) (rows : SameRows plan.grants s.grants)
    (only : (f : Frame) (client : ClientId) → owner_of s.table f ≡ Some client → (run : FrameExtent) × Contains plan.owners run × ExtentHasFrame run f × (run.0 ≡ client))
    (room : 4096 * plan.frames ≤ s.device.memory_size) where
  planned : (row : GrantRow) → Contains s.grants row → IsValidRow row
  planned row here = (All-contains (IsServableGrant plan.wanted) plan.grants row is.grants (rows.1 row here)).row_is_valid

  within : (frame : Frame) (client : ClientId) → owner_of s.table frame ≡ Some client → (DRIVER_FRAMES ≤ frame.0) × (frame.0 < plan.frames) × IsClientNumber client
  within frame client own =
      let run = only frame client own in
      let inside = All-contains (HasClientFrames plan.frames) plan.owners run.0 is.runs.frames_are_clients_frames run.1 in
      let its = All-contains (λ (r : FrameExtent). IsClientNumber r.0) plan.owners run.0 is.runs.owners_are_clients run.1 in
      (omega (arith, inside.0, run.2.0), omega (arith, inside.2, run.2.1), subst IsClientNumber run.3 its)

  pub new_fits : AllPairs DifferInName s.grants → length s.grants ≤ 64 → ((frame : Frame) → lent_to s.table frame ≡ None) → s.probe_results ≡ host.ports → length host.ports ≡ 4
      → length s.remembered ≡ 4 → ((port : ℕ) → remembered_at s.remembered port ≡ None)
      → length s.kept_loans ≡ 4 → ((port : ℕ) → quarantined_at s.kept_loans port ≡ []) → length s.slots ≡ 4 → length s.modes ≡ 4 → ((port : ℕ) → port < 4 → length (get_or s.slots port no_slots).slot_uses ≡ 32) → ((port : ℕ) → port < 4 → mode_at s.modes port ≡ probed_mode s.device.cap (probe_result_of s.probe_results port))
      → ((port : ℕ) → port < 4 → (get_or s.slots port no_slots).usable_count ≡ (mode_at s.modes port).usable_slots)
      → ((port slot : ℕ) → used_for s.slots port slot ≡ None) → s.book ≡ [] → s.last_id ≡ 0 → IsNewServer host s
  new_fits names few free ports four four_remembered forgotten four_kept unkept four_slots four_modes places modes usable unused book last = record {
    probe_results_are_of_host = ports;
    host_has_four_ports = four;
    remembered_is_of_four_ports = four_remembered;
    no_disk_is_remembered = forgotten;
    kept_loans_are_of_four_ports = four_kept;
    no_loan_is_kept = unkept;
    rows_are_valid = λ k d small. planned (get_or s.grants k d) (k, small, get_or_default s.grants k (get_or s.grants k d) d small);
    grants_differ_in_name = names;
    at_most_64_grants = few;
    owned_frames_are_clients = λ frame client own. let w = within frame client own in (w.0, omega (arith, w.1, room));
    owners_are_clients = λ frame client own. let w = within frame client own in let m = is.memory in (w.2.0, w.2.1, omega (arith, w.1, m.1));
    driver_memory_fits = let m = is.memory in omega (arith, m.0, room);
    no_frame_is_lent = free;
    slots_are_of_four_ports = four_slots;
    modes_are_of_four_ports = four_modes;
    has_32_slots = places;
    modes_are_probed = modes;
    usable_count_is_of_mode = usable;
    no_slot_is_used = unused;
    book_is_empty = book;
    no_id_was_handed_out = last;
  }

-- ---- its ports

-- What a new server has of its ports: what was found and wanted, with nothing kept, remembered or used.
pub record NewPorts (host : Host) (wanted_disks : List Wanted) (ports : List ServedPort) : Type 0 where
  pub wanted : by_port (λ p. p.wanted) ports ≡ wanted_disks
  pub found : by_port (λ p. p.probe_result) ports ≡ host.ports
  pub four_remembered : length (by_port (λ p. p.remembered) ports) ≡ 4
  pub forgotten : (port : ℕ) → remembered_at (by_port (λ p. p.remembered) ports) port ≡ None
  pub four_kept : length (by_port (λ p. p.kept) ports) ≡ 4
  pub unkept : (port : ℕ) → quarantined_at (by_port (λ p. p.kept) ports) port ≡ []
  pub four_slots : length (by_port (λ p. p.slots) ports) ≡ 4
  pub four_modes : length (by_port (λ p. p.mode) ports) ≡ 4
  pub places : (port : ℕ) → port < 4 → length (get_or (by_port (λ p. p.slots) ports) port no_slots).slot_uses ≡ 32
  pub modes : (cap : ℕ) → host.slot_count ≡ cap / 256 % 32 + 1 → host.supports_ncq ≡ bit cap 30 → (port : ℕ) → port < 4 → mode_at (by_port (λ p. p.mode) ports) port ≡ probed_mode cap (probe_result_of host.ports port)
  pub usable : (port : ℕ) → port < 4 → (get_or (by_port (λ p. p.slots) ports) port no_slots).usable_count ≡ (mode_at (by_port (λ p. p.mode) ports) port).usable_slots
  pub unused : (port slot : ℕ) → used_for (by_port (λ p. p.slots) ports) port slot ≡ None

-- so it is once its adapter was taken over, where none was served before
module _ (host : Host) (four_host : length host.ports ≡ 4) (wanted_disks : List Wanted) (kept : List (List Lending)) (none : kept ≡ [] ∷ [] ∷ [] ∷ [] ∷ []) (first ports : List ServedPort)
    (wanted : by_port (λ p. p.wanted) first ≡ wanted_disks) (keeps : by_port (λ p. p.kept) first ≡ kept) (found : by_port (λ p. p.probe_result) first ≡ replicate 4 Unserved) (forgotten : by_port (λ p. p.remembered) first ≡ replicate 4 None)
    (taken : EachBecomes (IsAsHostProbed host) first ports) where
  four_first : length first ≡ 4
  four_first = sym (length-map first (λ (p : ServedPort). p.probe_result)) ∙ ap length found ∙ length-replicate 4 Unserved

  abbrev f : ℕ → ProbeResult
  f = becoming.found_by host four_host first ports four_first taken

  abbrev m : ℕ → QueueMode
  m = becoming.mode_by host four_host first ports four_first taken

  e : (number : ℕ) → number < 4 → NotesProbeResult (f number) (m number) (port_in first number) (port_in ports number)
  e = becoming.each host four_host first ports four_first taken

  pub new_ports : NewPorts host wanted_disks ports
  new_ports =
      let lists = becoming.same_kept f m first ports four_first taken.four_ports e ∙ keeps in
      record {
        wanted = becoming.same_wanted f m first ports four_first taken.four_ports e ∙ wanted;
        found = becoming.found_host host four_host first ports four_first taken;
        four_remembered = length-map ports (λ (p : ServedPort). p.remembered) ∙ taken.four_ports;
        forgotten = λ port.
            becoming.its_last_disk f m first ports four_first taken.four_ports e port
            ∙ (λ i. last_disk_of (probe_result_of (found i) port) (remembered_at (forgotten i) port))
            ∙ ap (λ (one : ProbeResult). last_disk_of one (remembered_at (replicate 4 None) port)) (at_replicate 4 Unserved port) ∙ at_replicate 4 None port;
        four_kept = length-map ports (λ (p : ServedPort). p.kept) ∙ taken.four_ports;
        unkept = λ port. ap (λ (all : List (List Lending)). quarantined_at all port) lists ∙ (empty_quarantines kept none).1 port;
        four_slots = length-map ports (λ (p : ServedPort). p.slots) ∙ taken.four_ports;
        four_modes = length-map ports (λ (p : ServedPort). p.mode) ∙ taken.four_ports;
        places = becoming.its_places f m first ports four_first taken.four_ports e;
        modes = becoming.modes_follow host four_host first ports four_first taken;
        usable = becoming.its_usable f m first ports four_first taken.four_ports e;
        unused = becoming.none_used f m first ports four_first taken.four_ports e;
      }
