-- Once all requests met their fates, a machine stands for the server, which keeps what a server keeps.
use Rattle.std.proofs.Common.{List, None, Option, Some, [], ap, arith, get_or, length, refl, subst, sym, true, ℕ, ⊎_elim, ◌*◌, ◌++◌, ◌+◌, ◌<◌, ◌∙◌, ◌∷◌, ◌≡◌, ◌≢◌, ◌≤◌}
use Rattle.std.proofs.lemmas.Bool.{cases_lt}
use Rattle.std.proofs.lemmas.List.Elements.{All-contains, All-contains_itself, All-weaker}
use Rattle.std.specs.List.{All, Contains}
use Rattle.adapter.specs.Device.{Device}
use Rattle.refinement.specs.Relation.{port_at}
use Rattle.ata_types.specs.declared.Port.{Port}
use Rattle.ata_types.specs.declared.PortState.TheVariants.{Dead, Ready as ReadyState}
use Rattle.ata_types.specs.declared.request.ClientId.{ClientId}
use Rattle.ata_types.specs.declared.request.Reply.{Reply}
use Rattle.ata_types.specs.declared.request.RequestId.{RequestId}
use Rattle.block_machine.specs.Histories.{IsReachable}
use Rattle.block_machine.specs.Expected.{IsValidRow, after}
use Rattle.block_machine.specs.State.{Machine}
use Rattle.block_machine.specs.Steps.{Release, Step}
use Rattle.host_boot.specs.TakeOver.{IsUnusedOrIdentifyOfDeadPort, IsUnusedOrIdentifyOfDeadPort, TakesOver, probe_result_of, wanted_of}
use Rattle.host_boot.specs.declared.ProbeResult.{ProbeResult}
use Rattle.host_boot.specs.declared.ProbeResult.TheVariants.{Unready}
use Rattle.identify.specs.declared.wanted.Wanted.{Wanted}
use Rattle.request_queue.specs.BookEntries.{BookEntry}
use Rattle.request_queue.specs.BookRelation.{BookRelation, EntryRelation}
use Rattle.server_history.proofs.start.NewServer.{left_as, none_are_kept}
use Rattle.server_history.proofs.failed_reset.ServerBook.{all_settle_on}
use Rattle.server_history.proofs.reset_call.FatesOfAllPorts.{AreFated, HasItsDisk, IsFatedTo, fate_all}
use Rattle.server_history.proofs.dispositions.MetFates.{nobody}
use Rattle.server_history.proofs.start.TakenOverPorts.{behind, four, ports_on, served_there}
use Rattle.server_history.proofs.reset_call.IssuesOfAllPorts.{AreReissued, all_reissued, settled_then}
use Rattle.server_history.proofs.dispositions.RemainingBook.{WasIn}
use Rattle.server_history.proofs.reset_call.RetakenMachine.{IsRetaken, issued_in, issued_on, may_settle, retaken}
use Rattle.server_history.specs.ResetLaws.{ResetLaws}
use Rattle.server_history.proofs.state.PairedLists.{at_right}
use Rattle.server_history.specs.Resets.{IsReinitialized, IssuesOnEachReadyPort, MayResolve, ResolvesEachPort}
use Rattle.server_history.specs.ServerState.{SlotsInvariant, InCallInvariant, MachineRelation, InvariantWithNoneDue, ServerState, is_served, mode_at, probed_mode, state_of, used_for, RevokedMarkInvariant}
use Rattle.server_history.specs.StuckServer.{ServerInvariant}

module _ (laws : ResetLaws) (s taken settled : ServerState) (booked : ServerInvariant s) (takes : IsReinitialized s taken) (replies : List Reply) (settles : ResolvesEachPort 0 taken.probe_results replies taken settled) (m : Machine) (reached : IsReachable m)
    (is : MachineRelation s m) where
  pub its_retaken : IsRetaken s taken takes.takes_over.uses m
  its_retaken = retaken laws s taken takes m reached is

  abbrev pub base : List Step
  base = its_retaken.second ++ Release ∷ its_retaken.first

  abbrev pub mid : Machine
  mid = after m base

  mid_reached : IsReachable mid
  mid_reached = laws.prerequisites.steps_and_accesses.reachable_stays_reachable m base reached its_retaken.may

  -- ---- what was taken over

  pub ports_are : taken.probe_results ≡ takes.host.ports
  ports_are = ap (λ (c : ServerState). c.probe_results) takes.server_is

  may : MayResolve taken
  may = may_settle laws s taken booked takes

  begin : IsFatedTo 0 taken mid
  begin = record {
    four_kept = takes.kept_loans_are_of_four_ports;
    uses = takes.takes_over.uses;
    left = λ port slot. subst (λ (ports : List ProbeResult). IsUnusedOrIdentifyOfDeadPort ports takes.takes_over.uses port slot) (sym ports_are) (takes.takes_over.slots_are_unused_or_dead port slot);
    parked = issued_on mid;
    driver_relation = its_retaken.driver_relation;
    unparked = λ port lt. absurd (omega (arith, lt));
    its = λ port high id here.
        let p = issued_in mid port id here in
        let h = at_right EntryRelation s.book mid.book its_retaken.book p.0 p.1 in
        (h.0, subst (λ (book : List BookEntry). Contains book h.0) (sym (ap (λ (c : ServerState). c.book) takes.server_is)) h.1, sym h.2.id ∙ p.2, sym h.2.issued ∙ p.3, ap (λ (q : Port). q.0) (sym h.2.port) ∙ p.4);
    book = subst (λ (book : List BookEntry). BookRelation book mid.book) (sym (ap (λ (c : ServerState). c.book) takes.server_is)) its_retaken.book;
    kept = none_are_kept taken.probe_results taken.kept_loans mid.kept its_retaken.kept takes.no_loan_is_kept;
    unkept = λ port high. takes.no_loan_is_kept port;
    rows = its_retaken.rows ∙ sym (ap (λ (c : ServerState). c.grants) takes.server_is);
    owner = λ frame. its_retaken.owner frame ∙ ap (λ (owners : List (Option ClientId)). get_or owners frame.0 None) (sym takes.loans_are_taken_back.owners_are_kept);
    lent = its_retaken.lent;
    next = its_retaken.next ∙ ap (λ (k : ℕ). k + 1) (sym (ap (λ (c : ServerState). c.last_id) takes.server_is));
    ordered = may.book_is_well_formed;
    accepted = may.entries_are_well_formed;
    marked = subst (λ (c : ServerState). All (RevokedMarkInvariant c.grants) c.book) (sym takes.server_is) booked.revoked_marks_agree;
    alive = λ e here lt. absurd (omega (arith, lt));
  }

  many : length taken.probe_results ≡ 4
  many = ap (λ (ports : List ProbeResult). length ports) ports_are ∙ takes.host_has_four_ports

  pub its_fated : AreFated 0 taken.probe_results replies taken settled mid
  its_fated = fate_all laws.prerequisites taken.probe_results 0 (let few = many in omega (arith, few)) replies taken settled settles mid mid_reached begin

  abbrev pub z : Machine
  z = after mid its_fated.steps

  pub all_fated : IsFatedTo 4 settled z
  all_fated = subst (λ (k : ℕ). IsFatedTo k settled z) (let few = many in omega (arith, few)) its_fated.fated

  -- ---- the machine

  pub ports_then : settled.probe_results ≡ takes.host.ports
  ports_then = ap (λ (c : ServerState). c.probe_results) its_fated.settings ∙ ports_are

  pub unused_then : (port slot : ℕ) → used_for settled.slots port slot ≡ None
  unused_then port slot = ap (λ (c : ServerState). used_for c.slots port slot) its_fated.settings ∙ takes.no_slot_is_used port slot

  -- who is left was unanswered before
  pub was_in : (e : BookEntry) → Contains settled.book e → WasIn s.book e
  was_in e here = subst (λ (book : List BookEntry). WasIn book e) (ap (λ (c : ServerState). c.book) takes.server_is) (its_fated.from e here)

  pub low : (e : BookEntry) → Contains settled.book e → e.request.port.0 < 4
  low e here =
      let w = was_in e here in
      subst (λ (p : Port). p.0 < 4) (sym w.port) (booked.served_are_below_4 w.was.request.port.0 (All-contains (λ (x : BookEntry). is_served (probe_result_of s.probe_results x.request.port.0) ≡ true) s.book w.was booked.requests_are_of_served_ports w.there))

  unparked : (port : ℕ) → probe_result_of settled.probe_results port ≢ Unready Dead → all_fated.parked port ≡ []
  unparked port lives = ⊎_elim
      (λ (below : port < 4). all_fated.unparked port below lives)
      (λ (high : 4 ≤ port). nobody (all_fated.parked port) (λ id here.
      let w = all_fated.its port high id here in
      let small = low w.0 w.1 in
      let own = w.4 in omega (arith, small, own, high)))
      (cases_lt port 4)

  pub stands_regained : MachineRelation settled z
  stands_regained = record {
    uses = all_fated.uses;
    slot_states_agree_unless_dead = λ port slot. left_as settled.probe_results settled.probe_results settled.slots all_fated.uses port slot refl (unused_then port slot) (all_fated.left port slot);
    awaiting_disposition = all_fated.parked;
    only_dead_ports_park = unparked;
    driver_relation = all_fated.driver_relation;
    book = all_fated.book;
    quarantine_relation = all_fated.kept;
    rows = all_fated.rows;
    owner = all_fated.owner;
    lent = all_fated.lent;
    next_id_is = all_fated.next;
  }

  pub z_reached : IsReachable z
  z_reached = laws.prerequisites.steps_and_accesses.reachable_stays_reachable mid its_fated.steps mid_reached its_fated.may

  -- ---- what it keeps

  pub wanted_then : settled.wanted ≡ s.wanted
  wanted_then = ap (λ (c : ServerState). c.wanted) its_fated.settings ∙ ap (λ (c : ServerState). c.wanted) takes.server_is

  pub device_then : settled.device ≡ taken.device
  device_then = ap (λ (c : ServerState). c.device) its_fated.settings

  over : TakesOver settled.wanted takes.host takes.idle_device settled.device
  over = subst (λ (d : Device). TakesOver settled.wanted takes.host takes.idle_device d) (sym device_then) (subst (λ (wanted : List Wanted). TakesOver wanted takes.host takes.idle_device taken.device) (sym wanted_then) takes.takes_over)

  size_then : settled.device.memory_size ≡ s.device.memory_size
  size_then = over.adapter_is_kept.memory_size ∙ takes.resets.adapter_is_kept.memory_size

  pub its_disk : (e : BookEntry) → Contains settled.book e → HasItsDisk settled.remembered settled.probe_results e.request.port.0
  its_disk e here = all_fated.alive e here (low e here)

  pub keeps_all : InCallInvariant settled
  keeps_all = record {
    adapter_is_on = over.adapter_is_on;
    driver_memory_fits = let room = booked.driver_memory_fits in let size = size_then in omega (arith, room, size);
    served_ports_exist = λ port served.
        let below = four laws.take_over settled takes.host takes.idle_device takes.resets.idle over ports_then takes.host_has_four_ports port served in
        (below, served_there (wanted_of settled.wanted port) (probe_result_of settled.probe_results port) port settled.device (behind laws.take_over settled takes.host takes.idle_device takes.resets.idle over ports_then takes.host_has_four_ports port below) served);
    port_invariant = ports_on laws.take_over settled takes.host takes.idle_device takes.resets.idle over ports_then takes.host_has_four_ports laws.prerequisites;
    slots_are_of_four_ports = ap (λ (c : ServerState). length c.slots) its_fated.settings ∙ takes.slots_are_of_four_ports;
    modes_are_of_four_ports = ap (λ (c : ServerState). length c.modes) its_fated.settings ∙ takes.modes_are_of_four_ports;
    remembered_is_of_four_ports = ap (λ (c : ServerState). length c.remembered) its_fated.settings ∙ takes.remembered_is_of_four_ports;
    kept_loans_are_of_four_ports = all_fated.four_kept;
    at_most_32_loans_kept_by_port = λ port. let p = (all_settle_on laws.prerequisites taken.probe_results 0 (let few = many in omega (arith, few)) replies taken settled settles (may_settle laws s taken booked takes)).kept_loans_have_room (port_at port) in omega (arith, p);
    modes_are_probed = λ port below. subst (λ (c : ServerState). mode_at c.modes port ≡ probed_mode c.device.cap (probe_result_of c.probe_results port)) (sym its_fated.settings)
        (takes.modes_are_probed port below ∙ ap (λ (ports : List ProbeResult). probed_mode taken.device.cap (probe_result_of ports port)) (sym ports_are));
    slots_invariant = λ port below. subst (λ (c : ServerState). SlotsInvariant c.probe_results c.modes c.slots port) (sym its_fated.settings)
        (record { has_32_slots = takes.has_32_slots port below; usable_count_is_of_mode = takes.usable_count_is_of_mode port below; unusable_are_unused = λ slot high. takes.no_slot_is_used port slot });
    slots_queue_as_asked = λ port slot used e its. absurd (let y : None ≡ Some used = sym (unused_then port.0 slot) ∙ its in cc);
    slots_store_commands = λ port slot used its. absurd (let y : None ≡ Some used = sym (unused_then port slot) ∙ its in cc);
    plain_is_alone_in_slot_0 = λ port slot used its. absurd (let y : None ≡ Some used = sym (unused_then port slot) ∙ its in cc);
    rows_are_valid = subst (All IsValidRow) (sym (ap (λ (c : ServerState). c.grants) its_fated.settings ∙ ap (λ (c : ServerState). c.grants) takes.server_is)) booked.rows_are_valid;
    owned_frames_are_clients = λ frame client own.
        let o = booked.owned_frames_are_clients frame client (ap (λ (list : List (Option ClientId)). get_or list frame.0 None) (sym (its_fated.owners ∙ takes.loans_are_taken_back.owners_are_kept)) ∙ own) in
        (o.0, subst (λ (n : ℕ). 4096 * frame.0 + 4096 ≤ n) (sym size_then) o.1);
    entries_are_well_formed = all_fated.accepted;
    revoked_marks_agree = all_fated.marked;
    book_is_well_formed = all_fated.ordered;
    ids_were_handed_out = All-weaker (Contains settled.book) (λ (e : BookEntry). e.request.id.0 ≤ settled.last_id)
        (λ e here.
        let w = was_in e here in
        let most = All-contains (λ (x : BookEntry). x.request.id.0 ≤ s.last_id) s.book w.was booked.ids_were_handed_out w.there in
        let id = ap (λ (i : RequestId). i.0) w.id in
        let last = ap (λ (c : ServerState). c.last_id) its_fated.settings ∙ ap (λ (c : ServerState). c.last_id) takes.server_is in omega (arith, most, id, last))
        settled.book (All-contains_itself settled.book);
    requests_are_of_ready_ports = All-weaker (Contains settled.book) (λ (e : BookEntry). state_of (probe_result_of settled.probe_results e.request.port.0) ≡ ReadyState)
        (λ e here. ap state_of (its_disk e here).3) settled.book (All-contains_itself settled.book);
    machine = z;
    reached = z_reached;
    machine_relation = stands_regained;
  }

  -- ---- what is due is issued

  module _ (new : ServerState) (issues : IssuesOnEachReadyPort 0 taken.probe_results settled new) where
    pub its_reissued : AreReissued laws.prerequisites settled keeps_all z z_reached stands_regained 4 new
    its_reissued = all_reissued laws.prerequisites settled keeps_all z z_reached stands_regained taken.probe_results (ap (λ (c : ServerState). c.probe_results) its_fated.settings) many new issues

    pub settled_at_last : InvariantWithNoneDue new
    settled_at_last = settled_then laws.prerequisites settled keeps_all z z_reached stands_regained new its_reissued
