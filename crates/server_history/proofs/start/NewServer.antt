-- A new server keeps what a server keeps, and a history without calls leads to it.
use Rattle.std.proofs.Common.{ℕ, ◌≡◌, ◌+◌, ◌*◌, ◌<◌, ◌≤◌, true, false, List, [], length, Option, Some, None, slice_index, refl, sym, ◌∙◌, ap, subst, arith, inl, inr, ⊎_elim}
use Rattle.std.specs.List.{All, AllPairs, Contains}
use Rattle.std.proofs.lemmas.Bool.{false≢true, cases_lt}
use Rattle.std.proofs.lemmas.List.Elements.{All-contains, All-nil}
use Rattle.ata_types.specs.declared.PortState.{PortState}
use Rattle.ata_types.specs.declared.PortState.TheVariants.{Absent, Ready as ReadyState, Unfit}
use Rattle.ata_types.specs.declared.Port.{Port}
use Rattle.ata_types.specs.declared.grant.GrantRow.{GrantRow}
use Rattle.ata_types.specs.declared.request.ClientId.{ClientId}
use Rattle.ata_types.specs.declared.request.Frame.{Frame}
use Rattle.ata_types.specs.declared.request.RequestId.{RequestId}
use Rattle.adapter.specs.Device.{Device}
use Rattle.adapter.specs.Idle.{IsIdle, DisksAreKnownIfTheyTell}
use Rattle.refinement.specs.Relation.{SameSectors}
use Rattle.refinement.specs.Replug.{replug_candidates}
use Rattle.refinement.specs.Fragments.{driver_state_of}
use Rattle.refinement.specs.Driver.{DriverRelation, idle_driver_state}
use Rattle.refinement.specs.Slots.{Free, SlotStates}
use Rattle.refinement.specs.SparedBook.{AllAsFarOrFurther, KeepsLoansAndPendingsOnlyAdvance}
use Rattle.block_machine.specs.Histories.{IsReachable}
use Rattle.block_machine.specs.Expected.{after, IsValidRow, IsInitial}
use Rattle.block_machine.specs.Ports.{PortsWellFormed, IsValidMode}
use Rattle.block_machine.specs.State.{DiskBytes, Machine, Pending}
use Rattle.block_machine.specs.Rules.{DifferInName}
use Rattle.dma_frames.specs.Loan.{Lending}
use Rattle.dma_frames.specs.FrameTables.{owner_of}
use Rattle.host_boot.specs.TakeOver.{StillBacksProbeResult, IsUnusedOrIdentifyOfDeadPort, BacksProbeResult, TakesOver, probe_result_of, wanted_of}
use Rattle.host_boot.specs.declared.ProbeResult.{ProbeResult}
use Rattle.host_boot.specs.declared.ProbeResult.TheVariants.{Unserved, Ready, Unready}
use Rattle.host_boot.specs.declared.Host.{Host}
use Rattle.identify.specs.IdentityPage.{unfit_number}
use Rattle.identify.specs.declared.Unfit.{Unfit as Fault}
use Rattle.identify.specs.declared.Unfit.TheVariants as fault
use Rattle.identify.specs.Wanted.{serial_of}
use Rattle.identify.specs.declared.wanted.Wanted.{Wanted}
use Rattle.port_boot.specs.States.{BacksState, BacksUnfitNumber}
use Rattle.refinement.specs.PortFacts.{RunsWell, Undisturbed}
use Rattle.server_history.proofs.state.PortSlots.{its_mode, ready_found, stood_mode}
use Rattle.server_history.proofs.state.ServerInstant.{holds_with, slots}
use Rattle.server_history.specs.Prerequisites.{PrerequisiteLaws}
use Rattle.server_history.specs.ResetLaws.{TakeOverLaws}
use Rattle.server_history.specs.Histories.{StartsHistory}
use Rattle.block_machine.specs.DueRequests.{NoneDue}
use Rattle.request_queue.specs.BookEntries.{BookEntry, IsWellFormedEntry, BookIsWellFormed, unanswered_of}
use Rattle.request_queue.specs.BookRelation.{BookRelation}
use Rattle.slots.specs.SlotUses.{PortSlots}
use Rattle.server_history.specs.ServerState.{ServerState, SlotStatesAgreeUnlessDead, InCallInvariant, MachineRelation, IsNewServer, PortInvariant, InvariantWithNoneDue, SlotStateAgreesUnlessDead, is_served, KeptRequestsRelation, DifferInRequest, quarantined_at, mode_in, ports_of, state_of, slot_state_of_use, used_for, RevokedMarkInvariant}
use Rattle.server_history.proofs.state.FollowedAccesses.{followed_adds}
use Rattle.server_history.proofs.start.TakenOverPorts.{behind, found_is, four, none_past, ports_on, served_there}
use Rattle.server_history.proofs.state.FirstMembers.{nowhere}

-- ---- the machine of an idle device

-- what a disk holds, or zeros where it doesn't tell
abbrev told_bytes : Option (ℕ → List ℕ) → DiskBytes
told_bytes None k b = 0
told_bytes (Some told) k b = slice_index (told k) b

-- the device's disks and client frames, with these grants and owners
abbrev machine_of : Device → List GrantRow → (Frame → Option ClientId) → Machine
machine_of d rows owner = record {
  present = λ port. (d.port port.0).present;
  disk_ids = λ port. (d.port port.0).disk.name;
  sizes = λ port. (d.port port.0).disk.sector_count;
  disk_bytes = λ port. told_bytes (d.port port.0).disk.sectors;
  overwritten_since_flush = λ port k. replug_candidates d.tape (d.port port.0).lasting port.0 k;
  book = [];
  kept = [];
  lent = λ frame. None;
  memory = λ frame b. d.memory (4096 * frame.0 + b);
  rows = rows;
  owner = owner;
  next_id = 1;
}

machine_knows : PrerequisiteLaws → (d : Device) (rows : List GrantRow) (owner : Frame → Option ClientId) → IsInitial (machine_of d rows owner) → IsIdle d
    → DisksAreKnownIfTheyTell d → DriverRelation (machine_of d rows owner) (idle_driver_state d)
machine_knows laws d rows owner start is told =
    laws.idle_device_is_related (machine_of d rows owner) d start is (λ q. record { present = refl; id = refl; sector_count = refl }) (λ f b low small. refl) sectors (λ _ port k. refl)
  where
    sectors : d.disks_tell_sectors ≡ true → (port : ℕ) → SameSectors (machine_of d rows owner) (d.port port).disk port
    sectors tells q =
        let t = told tells q in
        record { told_sectors = t.0; disk_tells = t.1; bytes_are_same = λ k b inside small. sym (ap (λ (s : Option (ℕ → List ℕ)). told_bytes s k b) t.1) }

-- ---- steps of the device

-- steps that spare the book leave a machine to begin with
start_on : (m later : Machine) → IsInitial m → KeepsLoansAndPendingsOnlyAdvance m later → IsInitial later
start_on m later s spares = record {
  book_is_empty = subst (λ (es : List Pending). AllAsFarOrFurther es later.book) s.book_is_empty spares.book;
  none_is_kept = subst (λ (es : List Pending). AllAsFarOrFurther es later.kept) s.none_is_kept spares.kept;
  no_frame_is_lent = λ frame. ap (λ (lent : Frame → Option RequestId). lent frame) spares.lent ∙ s.no_frame_is_lent frame;
  next_id_is_1 = spares.next_id ∙ s.next_id_is_1;
  rows_are_at_most_64 = subst (λ (rows : List GrantRow). length rows ≤ 64) (sym spares.rows) s.rows_are_at_most_64;
  rows_differ_in_name = subst (AllPairs DifferInName) (sym spares.rows) s.rows_differ_in_name;
  rows_are_valid = λ row here. s.rows_are_valid row (subst (λ (rows : List GrantRow). Contains rows row) spares.rows here);
  owned_frames_are_clients = λ frame client own. s.owned_frames_are_clients frame client (sym (ap (λ (owner : Frame → Option ClientId). owner frame) spares.owner) ∙ own);
}

-- ---- the ports

-- a page's fault has a number from 1 to 6
numbered : (f : Fault) → (1 ≤ unfit_number f) × (unfit_number f ≤ 9)
numbered fault.BadChecksum = (omega arith, omega arith)
numbered fault.Word83 = (omega arith, omega arith)
numbered fault.No48Bit = (omega arith, omega arith)
numbered fault.SectorSize = (omega arith, omega arith)
numbered fault.NoFlush = (omega arith, omega arith)
numbered fault.NoSectors = (omega arith, omega arith)

unfit_numbered : (n port : ℕ) (d : Device) → BacksUnfitNumber n port d → (1 ≤ n) × (n ≤ 9)
unfit_numbered n port d (inl (is, shown)) = (omega (arith, is), omega (arith, is))
unfit_numbered n port d (inr (inl (is, shown))) = (omega (arith, is), omega (arith, is))
unfit_numbered n port d (inr (inr (inl (is, saw, count)))) = (omega (arith, is), omega (arith, is))
unfit_numbered n port d (inr (inr (inr (page, has, (f, first, is))))) = let b = numbered f in (omega (arith, is, b.0), omega (arith, is, b.1))

-- a cause to be unfit is one that there is
cause_is : (wanted : Wanted) (found : ProbeResult) (port cause : ℕ) (d : Device) → BacksProbeResult wanted found port d → state_of found ≡ Unfit cause → (1 ≤ cause) × (cause ≤ 9)
cause_is wanted Unserved port cause d s is = absurd (let z : Absent ≡ Unfit cause = is in cc)
cause_is wanted (Ready info) port cause d s is = absurd (let z : ReadyState ≡ Unfit cause = is in cc)
cause_is wanted (Unready state) port cause d s is = unfit_numbered cause port d ((subst (λ (x : PortState). BacksState (serial_of wanted) x port d) is s.1).1)

-- what is known of ports at each moment of a call makes them fit
pub kept_fit : (s : ServerState) → InCallInvariant s → PortsWellFormed (ports_of s)
kept_fit s k = record {
  served_are_ports_0_to_3 = λ port served. (k.served_ports_exist port.0 served).0;
  unserved_are_absent = λ port other. absent_is (probe_result_of s.probe_results port.0) other;
  modes_are_valid = λ port ready. (its_mode s port.0 k (ready_found s port.0 k ready).0).0;
  causes_are_valid = λ port cause is. caused (probe_result_of s.probe_results port.0) port cause is refl;
}
  where
    absent_is : (f : ProbeResult) → is_served f ≡ false → state_of f ≡ Absent
    absent_is Unserved other = refl
    absent_is (Ready info) other = absurd (false≢true (sym other))
    absent_is (Unready state) other = absurd (false≢true (sym other))

    caused : (f : ProbeResult) (port : Port) (cause : ℕ) → state_of f ≡ Unfit cause → probe_result_of s.probe_results port.0 ≡ f → (1 ≤ cause) × (cause ≤ 9)
    caused Unserved port cause is e = absurd (let z : Absent ≡ Unfit cause = is in cc)
    caused (Ready info) port cause is e = absurd (let z : ReadyState ≡ Unfit cause = is in cc)
    caused (Unready state) port cause is e =
        cause_is (wanted_of s.wanted port.0) (Unready state) port.0 cause s.device
        (subst (λ (f : ProbeResult). StillBacksProbeResult (wanted_of s.wanted port.0) f port.0 s.device) e (k.port_invariant port.0 (k.served_ports_exist port.0 (ap is_served e)).0).probe_result_is_backed) is

-- ---- slots

-- a slot that was left as it was is used as a server without requests has it
pub left_as : (ports found : List ProbeResult) (slots : List PortSlots) (uses : SlotStates) (port slot : ℕ) → probe_result_of found port ≡ probe_result_of ports port → used_for slots port slot ≡ None → IsUnusedOrIdentifyOfDeadPort ports uses port slot
    → SlotStateAgreesUnlessDead (probe_result_of found port) (used_for slots port slot) (uses port slot)
left_as ports found list uses port slot same none (inl free) = λ _. free ∙ sym (ap slot_state_of_use none)
left_as ports found list uses port slot same none (inr (zero_is, own, dead)) = λ alive. absurd (alive (same ∙ dead))

-- where no request is kept, no loan is
pub none_are_kept : (found : List ProbeResult) (kept : List (List Lending)) (requests : List Pending) → requests ≡ [] → ((port : ℕ) → quarantined_at kept port ≡ []) → KeptRequestsRelation found kept requests
none_are_kept found kept requests none empty = record {
  quarantine_ports_are_dead = λ e here. absurd (nobody e here);
  each_request_has_its_loan = λ e here. absurd (nobody e here);
  each_loan_has_its_request = λ port loan here. absurd (nowhere loan (subst (λ (loans : List Lending). Contains loans loan) (empty port) here));
  loans_differ_in_request = λ port. subst (AllPairs DifferInRequest) (sym (empty port)) (λ i j d lt small. absurd (omega (arith, small)));
}
  where
    nobody : (e : Pending) → Contains requests e → ⊥
    nobody e here = nowhere e (subst (λ (es : List Pending). Contains es e) none here)

-- no requests are in order
none_in_order : BookIsWellFormed []
none_in_order = record {
  ids_rise = λ i j d lt small. absurd (omega (arith, small));
  clients_are_valid = λ k d small. absurd (omega (arith, small));
  clients_are_within_limit = λ client. omega arith;
  issues_are_within_limit = λ k d small. absurd (omega (arith, small));
}

-- ---- the whole

module _ (below : PrerequisiteLaws) (laws : TakeOverLaws) (s : ServerState) (host : Host) (d : Device) (is : IsIdle d) (told : DisksAreKnownIfTheyTell d) (taken : TakesOver s.wanted host d s.device) (n : IsNewServer host s) where
  ports_as : (port : ℕ) → port < 4 → PortInvariant s.wanted s.probe_results port s.device
  ports_as port low = ports_on laws s host d is taken n.probe_results_are_of_host n.host_has_four_ports below port low

  stood : (port : ℕ) → port < 4 → BacksProbeResult (wanted_of s.wanted port) (probe_result_of s.probe_results port) port s.device
  stood port low = behind laws s host d is taken n.probe_results_are_of_host n.host_has_four_ports port low

  found_as : (port : ℕ) → probe_result_of s.probe_results port ≡ probe_result_of host.ports port
  found_as port = found_is laws s host d is taken n.probe_results_are_of_host n.host_has_four_ports port

  low_as : (port : ℕ) → is_served (probe_result_of s.probe_results port) ≡ true → port < 4
  low_as port served = four laws s host d is taken n.probe_results_are_of_host n.host_has_four_ports port served

  abbrev first_machine : Machine
  first_machine = machine_of d s.grants (owner_of s.table)

  start : IsInitial first_machine
  start = record {
    book_is_empty = refl;
    none_is_kept = refl;
    no_frame_is_lent = λ frame. refl;
    next_id_is_1 = refl;
    rows_are_at_most_64 = n.at_most_64_grants;
    rows_differ_in_name = n.grants_differ_in_name;
    rows_are_valid = λ row here. All-contains (λ (row : GrantRow). IsValidRow row) s.grants row n.rows_are_valid here;
    owned_frames_are_clients = λ frame client own. let c = n.owners_are_clients frame client own in (c.0, c.1, (n.owned_frames_are_clients frame client own).0, c.2);
  }

  reached_first : IsReachable first_machine
  reached_first = record { initial_machine = first_machine; steps_since = []; is_initial = start; steps_since_are_enabled = tt; leads_to_machine = refl }

  uses_are : SlotStatesAgreeUnlessDead s taken.uses
  uses_are port slot = left_as host.ports s.probe_results s.slots taken.uses port slot (found_as port) (n.no_slot_is_used port slot) (taken.slots_are_unused_or_dead port slot)

  stands_for : (m : Machine) → IsInitial m → KeepsLoansAndPendingsOnlyAdvance first_machine m → DriverRelation m (driver_state_of taken.uses (λ port. []) s.device) → MachineRelation s m
  stands_for m begun spares knows = record {
    uses = taken.uses;
    slot_states_agree_unless_dead = uses_are;
    awaiting_disposition = λ port. [];
    only_dead_ports_park = λ port alive. refl;
    driver_relation = knows;
    book = subst (λ (book : List BookEntry). BookRelation book m.book) (sym n.book_is_empty) (subst (λ (es : List Pending). BookRelation [] es) (sym begun.book_is_empty) tt);
    quarantine_relation = none_are_kept s.probe_results s.kept_loans m.kept begun.none_is_kept n.no_loan_is_kept;
    rows = spares.rows;
    owner = λ frame. ap (λ (owner : Frame → Option ClientId). owner frame) spares.owner;
    lent = λ frame. begun.no_frame_is_lent frame ∙ sym (n.no_frame_is_lent frame);
    next_id_is = begun.next_id_is_1 ∙ ap (λ (k : ℕ). k + 1) (sym n.no_id_was_handed_out);
  }

  ports_fit : PortsWellFormed (ports_of s)
  ports_fit = record {
    served_are_ports_0_to_3 = λ port served. low_as port.0 served;
    unserved_are_absent = λ port other. absent_is (probe_result_of s.probe_results port.0) other;
    modes_are_valid = λ port ready. ⊎_elim
        (λ (low : port.0 < 4). subst IsValidMode (sym (n.modes_are_probed port.0 low)) (stood_mode (wanted_of s.wanted port.0) (probe_result_of s.probe_results port.0) port.0 s.device (ports_as port.0 low).probe_result_is_backed).0)
        (λ (high : 4 ≤ port.0). absurd (let z : Absent ≡ ReadyState = sym (ap state_of (found_as port.0 ∙ none_past host.ports port.0 (let l = n.host_has_four_ports in omega (arith, l, high)))) ∙ ready in cc))
        (cases_lt port.0 4);
    causes_are_valid = λ port cause is. ⊎_elim
        (λ (low : port.0 < 4). cause_is (wanted_of s.wanted port.0) (probe_result_of s.probe_results port.0) port.0 cause s.device (stood port.0 low) is)
        (λ (high : 4 ≤ port.0). absurd (let z : Absent ≡ Unfit cause = sym (ap state_of (found_as port.0 ∙ none_past host.ports port.0 (let l = n.host_has_four_ports in omega (arith, l, high)))) ∙ is in cc))
        (cases_lt port.0 4);
  }
    where
      absent_is : (f : ProbeResult) → is_served f ≡ false → state_of f ≡ Absent
      absent_is Unserved other = refl
      absent_is (Ready info) other = absurd (false≢true (sym other))
      absent_is (Unready state) other = absurd (false≢true (sym other))

  kept_by : (m : Machine) → IsReachable m → MachineRelation s m → InCallInvariant s
  kept_by m reached stands = record {
    adapter_is_on = taken.adapter_is_on;
    driver_memory_fits = n.driver_memory_fits;
    served_ports_exist = λ port served. let low = low_as port served in (low, served_there (wanted_of s.wanted port) (probe_result_of s.probe_results port) port s.device (stood port low) served);
    port_invariant = ports_as;
    rows_are_valid = n.rows_are_valid;
    owned_frames_are_clients = n.owned_frames_are_clients;
    slots_are_of_four_ports = n.slots_are_of_four_ports;
    modes_are_of_four_ports = n.modes_are_of_four_ports;
    remembered_is_of_four_ports = n.remembered_is_of_four_ports;
    kept_loans_are_of_four_ports = n.kept_loans_are_of_four_ports;
    at_most_32_loans_kept_by_port = λ port. let none = ap length (n.no_loan_is_kept port) in omega (arith, none);
    slots_invariant = λ port low. record { has_32_slots = n.has_32_slots port low; usable_count_is_of_mode = n.usable_count_is_of_mode port low; unusable_are_unused = λ slot high. n.no_slot_is_used port slot };
    modes_are_probed = n.modes_are_probed;
    slots_queue_as_asked = λ port slot used e is. absurd (let z : None ≡ Some used = sym (n.no_slot_is_used port.0 slot) ∙ is in cc);
    slots_store_commands = λ port slot used is. absurd (let z : None ≡ Some used = sym (n.no_slot_is_used port slot) ∙ is in cc);
    plain_is_alone_in_slot_0 = λ port slot used is. absurd (let z : None ≡ Some used = sym (n.no_slot_is_used port slot) ∙ is in cc);
    entries_are_well_formed = subst (λ (book : List BookEntry). All (IsWellFormedEntry s.table) book) (sym n.book_is_empty) (All-nil (IsWellFormedEntry s.table));
    book_is_well_formed = subst BookIsWellFormed (sym n.book_is_empty) none_in_order;
    revoked_marks_agree = subst (λ (book : List BookEntry). All (RevokedMarkInvariant s.grants) book) (sym n.book_is_empty) (All-nil (RevokedMarkInvariant s.grants));
    ids_were_handed_out = subst (λ (book : List BookEntry). All (λ e. e.request.id.0 ≤ s.last_id) book) (sym n.book_is_empty) (All-nil (λ (e : BookEntry). e.request.id.0 ≤ s.last_id));
    requests_are_of_ready_ports = subst (λ (book : List BookEntry). All (λ e. state_of (probe_result_of s.probe_results e.request.port.0) ≡ ReadyState) book) (sym n.book_is_empty) (All-nil (λ (e : BookEntry). state_of (probe_result_of s.probe_results e.request.port.0) ≡ ReadyState));
    machine = m;
    reached = reached;
    machine_relation = stands;
  }

  -- nothing is asked, so nothing is due
  none_due : (port : Port) → NoneDue (mode_in s port) (unanswered_of s.book) port
  none_due port = subst (λ (book : List BookEntry). NoneDue (mode_in s port) (unanswered_of book) port) (sym n.book_is_empty) (λ r own due. nowhere r due.is_in_book)

  pub new_server : InvariantWithNoneDue s × StartsHistory s
  new_server =
      let x = (followed_adds below taken.followed (λ port slot. Free) (λ port. []) refl).simulates first_machine reached_first (machine_knows below d s.grants (owner_of s.table) start is told) in
      let later : Machine = after first_machine x.0 in
      let spares : KeepsLoansAndPendingsOnlyAdvance first_machine later = below.steps_and_accesses.device_steps_spare_book first_machine x.0 x.3.all_steps_are_by_device in
      let begun : IsInitial later = start_on first_machine later start spares in
      let stands : MachineRelation s later = stands_for later begun spares x.2 in
      let reached : IsReachable later = below.steps_and_accesses.reachable_stays_reachable first_machine x.0 reached_first x.1 in
      let kept : InCallInvariant s = kept_by later reached stands in (
        record { in_call_invariant = kept; none_is_due = none_due },
        (
          record { device = s.device; abstract = record { machine = later; ports = ports_of s } },
          record {
            history = ((begun, ports_fit), ((slots s kept later reached stands, holds_with s kept later reached stands), (kept.adapter_is_on, taken.ie_is_set)));
            state_is_at_history_end = record { device_is = refl; ports_are = refl; machine_stands_for_it = stands };
          },
        ),
      )

-- ---- a new server

pub new_well : TakeOverLaws → (s : ServerState) (host : Host) (idle : Device) (port : Port) → InCallInvariant s → IsIdle idle → TakesOver s.wanted host idle s.device → s.probe_results ≡ host.ports
    → state_of (probe_result_of s.probe_results port.0) ≡ ReadyState → Undisturbed port.0 idle s.device → RunsWell (s.device.port port.0)
new_well laws s host idle port k rest taken same ready calm =
    let found = (ready_found s port.0 k ready).1 in
    laws.port_runs_well s.wanted host port.0 found.0 idle s.device rest taken (ap (λ (ports : List ProbeResult). probe_result_of ports port.0) (sym same) ∙ found.1) calm
