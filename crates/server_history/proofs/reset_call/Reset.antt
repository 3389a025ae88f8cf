-- A reset that ends adds an event to a history, where its accesses did what a reset does of the device.
use Rattle.std.proofs.Common.{Bool, List, None, Option, Some, [], ap, append_assoc, arith, false, inl, inr, length, map, not, refl, subst, sym, true, ℕ, ⊎_elim, ◌++◌, ◌<◌, ◌||◌, ◌∙◌, ◌∷◌, ◌≡◌, ◌≢◌, ◌≤◌}
use Rattle.std.proofs.lemmas.Bool.{cases_Bool, cases_lt}
use Rattle.std.proofs.lemmas.List.{append-nil}
use Rattle.std.proofs.lemmas.List.Elements.{All-append, All-contains, All-weaker, Contains-append_cases, Contains-append_left}
use Rattle.std.specs.List.{All, Contains, list_any}
use Rattle.std.specs.List.Sorted.{IsPermutation}
use Rattle.adapter.specs.Device.{Device}
use Rattle.adapter.specs.declared.access.DeviceStep.{DeviceStep}
use Rattle.refinement.specs.Fragments.{TapeGrows}
use Rattle.refinement.specs.Driver.{TapeBacksSteps}
use Rattle.ata_types.specs.declared.Port.{Port}
use Rattle.ata_types.specs.declared.PortState.{PortState as ShownState}
use Rattle.ata_types.specs.declared.PortState.TheVariants.{Absent, Dead, Ready as ReadyState}
use Rattle.ata_types.specs.declared.request.Outcome.{Outcome}
use Rattle.ata_types.specs.declared.request.Reply.{Reply}
use Rattle.ata_types.specs.declared.request.RequestId.{RequestId}
use Rattle.server_history.proofs.state.ListMembers.{contains_cases}
use Rattle.block_machine.specs.DueRequests.{requests_of_port}
use Rattle.block_machine.specs.Events.{AnswersLawfulAndWaitsOnStoppedPorts, AllEnabled, AnswersReset, AreStepsOfCall, UnpluggedExcludesDeadAndSameDisk, IsNeitherOkNorDeviceError, ShownDiskWasInOrCame, IsLawfulAnswer, IssueIsLastOfRequest, UnansweredKeepSerialAndSize, AbstractState, IssuedOnPortAreIssuedInSteps, ReleasesOnceBeforeServerSteps, Reset, ShowsDisk, RepliesMatch, UnpluggedOutcomeEmptiesPort, IsIssuedInBook, WasReset, answers_of, issues_id, IsReadyAfterStopSerialAndSizeKept}
use Rattle.block_machine.specs.Histories.{JointEvent, JointState, IsReachable, joint_state_after}
use Rattle.block_machine.specs.Expected.{after}
use Rattle.block_machine.specs.Ports.{MayBecome, Ports, SameSerialAndSize}
use Rattle.block_machine.specs.State.{Machine, Pending, unanswered}
use Rattle.block_machine.specs.Steps.{WaitAgain, Answer, Release, Step}
use Rattle.block_machine.specs.declared.due.QueueMode.{QueueMode}
use Rattle.driver_history.specs.Evidence.{IsEvidenced, IsEvidencedOf}
use Rattle.driver_history.specs.Histories.{BootsAnewWhereRequired, IssuesDue, LosesNoPortError, RunsWellAnew, IsPortServed, PortCorresponds}
use Rattle.driver_history.specs.AccessTrace.{UsesPortRegistersOf}
use Rattle.hba_regs.specs.Bits.{bit}
use Rattle.host_boot.specs.TakeOver.{IsWantedAndImplemented, BacksProbeResult, StillBacksProbeResult, probe_result_of, wanted_of}
use Rattle.host_boot.specs.declared.ProbeResult.{ProbeResult}
use Rattle.host_boot.specs.declared.ProbeResult.TheVariants.{Ready, Unready, Unserved}
use Rattle.identify.specs.declared.DiskInfo.{DiskInfo}
use Rattle.request_queue.specs.BookEntries.{BookEntry, update_if_id}
use Rattle.request_queue.specs.BookRelation.{EntryRelation}
use Rattle.request_queue.specs.declared.disposition.Disposition.{Disposition}
use Rattle.request_queue.specs.declared.disposition.Disposition.TheVariants.{Complete, Requeue}
use Rattle.request_queue.specs.declared.disposition.Revalidation.{Revalidation}
use Rattle.request_queue.specs.declared.disposition.Revalidation.TheVariants.{Dead as NoEnd, DiskLost, SameDisk as Same}
use Rattle.server_history.proofs.state.AnswerSteps.{no_answer}
use Rattle.server_history.proofs.state.DueRequests.{none_due}
use Rattle.server_history.proofs.start.NewServer.{kept_fit}
use Rattle.server_history.proofs.state.DeviceSteps.{devices_belong, devices_lawful}
use Rattle.server_history.proofs.reset_call.FatesOfAllPorts.{AreFated, Decides, HasFate, HasItsDisk}
use Rattle.server_history.proofs.state.HistorySteps.{happening_with, holding, lead_with, with_device}
use Rattle.server_history.proofs.any_turn.JoinedParts.{answers_append}
use Rattle.server_history.proofs.state.FirstMembers.{nowhere}
use Rattle.server_history.proofs.healthy_turn.CallPart.{devices_answers, none_last}
use Rattle.server_history.proofs.start.TakenOverPorts.{none_past}
use Rattle.server_history.proofs.dispositions.FateReasons.{Why, why, why_again}
use Rattle.server_history.proofs.reset_call.ResetSteps.{KeepsLoans, answered_issued, decided_belong, decided_lawful, decided_none, decides_keeps, devices_keep, issued_from, last_then, none_released, reissue_keeps, reissued_answers, reissued_belong, reissued_lawful}
use Rattle.server_history.proofs.reset_call.ServerAfterReset.{device_then, its_disk, its_fated, its_reissued, its_retaken, keeps_all, ports_are, settled_at_last, stands_regained, unused_then, wanted_then, z_reached}
use Rattle.server_history.proofs.reset_call.IssuesOfAllPorts.{AreReissued, IsReissue}
use Rattle.server_history.proofs.reset_call.RetakenMachine.{IsRetaken}
use Rattle.server_history.proofs.plain_calls.IssueRounds.{any_append, devices_issue_none, dues_carried, issued_late, or_none}
use Rattle.server_history.proofs.any_turn.ShownDevice.{had_disk}
use Rattle.server_history.proofs.reset_call.FoundDisks.{SawDisk, saw_before, taken_saw}
use Rattle.server_history.proofs.state.PortSlots.{issued_has, of_ready, ready_found}
use Rattle.server_history.proofs.any_turn.TurnsInOrder.{belong_join, lawful_join}
use Rattle.server_history.proofs.state.PairedLists.{at_right}
use Rattle.server_history.specs.ResetLaws.{ResetLaws}
use Rattle.server_history.specs.Histories.{ExtendsToNoneDue, LeadsToServer}
use Rattle.server_history.proofs.reset_call.ResetDevice.{IsRebootedBy}
use Rattle.server_history.specs.Resets.{IsResetRevalidation, IsReinitialized, IssuesOnEachReadyPort, ResetsServer, ResolvesEachPort}
use Rattle.server_history.specs.ServerState.{InCallInvariant, MachineRelation, InvariantWithNoneDue, ServerState, last_disk_in, last_disk_of, is_served, mode_in, ports_of, remembered_at, last_sectors_of, last_serial_of, state_of}
use Rattle.server_history.specs.StuckServer.{ServerInvariant}
use Rattle.server_history.specs.Turns.{joint_state_of, abstract_state_of}
use Rattle.ata_types.specs.declared.request.Outcome.TheVariants as outcome

-- a port that is found in the state of a dead one is dead
dead_found : (found : ProbeResult) → state_of found ≡ Dead → found ≡ Unready Dead
dead_found Unserved is = let z : Absent ≡ Dead = is in absurd cc
dead_found (Ready info) is = let z : ReadyState ≡ Dead = is in absurd cc
dead_found (Unready state) is = ap Unready is

-- what doesn't run shows the disk that is remembered
remembers : (found : ProbeResult) (remembered : Option DiskInfo) → state_of found ≢ ReadyState → last_disk_of found remembered ≡ remembered
remembers Unserved remembered other = refl
remembers (Ready info) remembered other = absurd (other refl)
remembers (Unready state) remembered other = refl

module _ (laws : ResetLaws) (s taken settled new : ServerState) (replies : List Reply) (booked : ServerInvariant s) (takes : IsReinitialized s taken) (settles : ResolvesEachPort 0 taken.probe_results replies taken settled) (issues : IssuesOnEachReadyPort 0 taken.probe_results settled new)
    (by : IsRebootedBy s new replies) (first : JointState Device) (past : List (JointEvent Device DeviceStep)) (leads : LeadsToServer first past s) where
  abbrev was : AbstractState
  was = (joint_state_after first past).abstract

  abbrev m : Machine
  m = was.machine

  is : MachineRelation s m
  is = leads.state_is_at_history_end.machine_stands_for_it

  same : was.ports ≡ ports_of s
  same = leads.state_is_at_history_end.ports_are

  reached : IsReachable m
  reached = laws.prerequisites.steps_and_accesses.history_machine_is_reachable s.wanted first past leads.history

  -- ---- its steps

  abbrev r : IsRetaken s taken takes.takes_over.uses m
  r = its_retaken laws s taken settled booked takes replies settles m reached is

  abbrev begun : List Step
  begun = r.second ++ Release ∷ r.first

  abbrev f : AreFated 0 taken.probe_results replies taken settled (after m begun)
  f = its_fated laws s taken settled booked takes replies settles m reached is

  abbrev base : List Step
  base = f.steps ++ begun

  abbrev z : Machine
  z = after (after m begun) f.steps

  abbrev kept : InCallInvariant settled
  kept = keeps_all laws s taken settled booked takes replies settles m reached is

  abbrev stands : MachineRelation settled z
  stands = stands_regained laws s taken settled booked takes replies settles m reached is

  abbrev a : AreReissued laws.prerequisites settled kept z (z_reached laws s taken settled booked takes replies settles m reached is) stands 4 new
  a = its_reissued laws s taken settled booked takes replies settles m reached is new issues

  abbrev steps : List Step
  steps = a.steps ++ base

  base_is : after m base ≡ z
  base_is = laws.prerequisites.steps_and_accesses.after_joins m f.steps begun

  whole_is : after m steps ≡ after z a.steps
  whole_is = laws.prerequisites.steps_and_accesses.after_joins m a.steps base ∙ ap (λ (n : Machine). after n a.steps) base_is

  base_may : AllEnabled m base
  base_may = laws.prerequisites.steps_and_accesses.enabled_lists_join m f.steps begun r.may f.may

  may : AllEnabled m steps
  may = laws.prerequisites.steps_and_accesses.enabled_lists_join m a.steps base base_may (subst (λ (n : Machine). AllEnabled n a.steps) (sym base_is) a.may)

  device_same : settled.device ≡ taken.device
  device_same = device_then laws s taken settled booked takes replies settles m reached is

  backed : TapeBacksSteps s.device new.device m steps
  backed = laws.prerequisites.backed_parts_join s.device taken.device new.device m base a.steps
      (laws.prerequisites.backed_parts_join s.device taken.device taken.device m begun f.steps r.backed (f.backed taken.device))
      (subst (λ (n : Machine). TapeBacksSteps taken.device new.device n a.steps) (sym base_is) (subst (λ (d : Device). TapeBacksSteps d new.device z a.steps) device_same a.backed))

  stands_new : MachineRelation new (after m steps)
  stands_new = subst (MachineRelation new) (sym whole_is) a.stands

  -- ---- ports

  ports_new : ports_of new ≡ ports_of settled
  ports_new = ap (λ (c : ServerState). ports_of c) a.settings

  found_new : (port : ℕ) → probe_result_of new.probe_results port ≡ probe_result_of settled.probe_results port
  found_new port = ap (λ (c : ServerState). probe_result_of c.probe_results port) a.settings

  found_taken : (port : ℕ) → probe_result_of settled.probe_results port ≡ probe_result_of taken.probe_results port
  found_taken port = ap (λ (c : ServerState). probe_result_of c.probe_results port) f.settings

  -- the disk that is remembered is the one that the port was last ready with
  remembered_new : (port : Port) → remembered_at new.remembered port.0 ≡ last_disk_in s port
  remembered_new port = ap (λ (c : ServerState). remembered_at c.remembered port.0) (a.settings ∙ ap (λ (c : ServerState). record c { device = new.device; slots = new.slots; book = new.book }) f.settings) ∙ takes.last_disks_are_remembered port.0

  -- with another state than Ready it shows the same disk
  shows_same : (port : Port) → (ports_of new).state port ≢ ReadyState → SameSerialAndSize (ports_of s) (ports_of new) port
  shows_same port other =
      let disk : last_disk_in new port ≡ last_disk_in s port = remembers (probe_result_of new.probe_results port.0) (remembered_at new.remembered port.0) other ∙ remembered_new port in
      (ap last_serial_of disk, ap last_sectors_of disk)

  -- a port is served as it was
  served_same : (port : ℕ) → is_served (probe_result_of taken.probe_results port) ≡ is_served (probe_result_of s.probe_results port)
  served_same port = ⊎_elim
      (λ (low : port < 4). by_device low)
      (λ (high : 4 ≤ port). ap is_served (ap (λ (ports : List ProbeResult). probe_result_of ports port) (ports_are laws s taken settled booked takes replies settles m reached is)
      ∙ none_past takes.host.ports port (let four = takes.host_has_four_ports in omega (arith, four, high)))
      ∙ sym (not_served port high (is_served (probe_result_of s.probe_results port)) refl))
      (cases_lt port 4)
    where
      not_served : (q : ℕ) → 4 ≤ q → (b : Bool) → is_served (probe_result_of s.probe_results q) ≡ b → is_served (probe_result_of s.probe_results q) ≡ false
      not_served q high false its = its
      not_served q high true its = let low = booked.served_are_below_4 q its in absurd (omega (arith, low, high))

      pi_same : taken.device.pi ≡ s.device.pi
      pi_same = takes.takes_over.adapter_is_kept.pi ∙ takes.resets.adapter_is_kept.pi

      by_device : port < 4 → is_served (probe_result_of taken.probe_results port) ≡ is_served (probe_result_of s.probe_results port)
      by_device low = alike (probe_result_of takes.host.ports port) (ap (λ (ports : List ProbeResult). probe_result_of ports port) (ports_are laws s taken settled booked takes replies settles m reached is)) (takes.takes_over.results_are_backed port low)
        where
          over : IsWantedAndImplemented (wanted_of s.wanted port) port taken.device → is_served (probe_result_of s.probe_results port) ≡ true
          over served = (booked.served_iff_wanted_and_there port low).1 (served.0, ap (λ (pi : ℕ). bit pi port) (sym pi_same) ∙ served.1)

          none : (IsWantedAndImplemented (wanted_of s.wanted port) port taken.device → ⊥) → is_served (probe_result_of s.probe_results port) ≡ false
          none not = ⊎_elim
              (λ (so : is_served (probe_result_of s.probe_results port) ≡ true). let served = (booked.served_iff_wanted_and_there port low).0 so in absurd (not (served.0, ap (λ (pi : ℕ). bit pi port) pi_same ∙ served.1)))
              (λ (not_so : is_served (probe_result_of s.probe_results port) ≡ false). not_so)
              (cases_Bool (is_served (probe_result_of s.probe_results port)))

          alike : (found : ProbeResult) → probe_result_of taken.probe_results port ≡ found → BacksProbeResult (wanted_of s.wanted port) found port taken.device → is_served (probe_result_of taken.probe_results port) ≡ is_served (probe_result_of s.probe_results port)
          alike Unserved update_if_id stood = ap is_served update_if_id ∙ sym (none stood.0)
          alike (Ready info) update_if_id stood = ap is_served update_if_id ∙ sym (over stood.0)
          alike (Unready state) update_if_id stood = ap is_served update_if_id ∙ sym (over stood.0)

  -- ---- who has a fate

  -- it is of a port that was served
  of_served : (e : Pending) (disposition : Disposition) → HasFate taken e disposition → (ports_of s).served e.request.port ≡ true
  of_served e disposition has =
      let here : Contains s.book has.from.was = subst (λ (book : List BookEntry). Contains book has.from.was) (ap (λ (c : ServerState). c.book) takes.server_is) has.from.there in
      subst (λ (p : Port). is_served (probe_result_of s.probe_results p.0) ≡ true) (sym (has.entry.port ∙ has.from.port))
      (All-contains (λ (x : BookEntry). is_served (probe_result_of s.probe_results x.request.port.0) ≡ true) s.book has.from.was booked.requests_are_of_served_ports here)

  -- its port is what it expects
  expects_new : (e : Pending) (disposition : Disposition) (has : HasFate taken e disposition) → IsResetRevalidation (last_disk_in s e.request.port) (probe_result_of new.probe_results e.request.port.0) has.revalidation
  expects_new e disposition has = subst (λ (found : ProbeResult). IsResetRevalidation (last_disk_in s e.request.port) found has.revalidation) (sym (found_new e.request.port.0 ∙ found_taken e.request.port.0))
      (subst (λ (disk : Option DiskInfo). IsResetRevalidation disk (probe_result_of taken.probe_results e.request.port.0) has.revalidation) (takes.last_disks_are_remembered e.request.port.0) has.expects)

  -- a port with the disk that it had
  module _ (port : Port) (expects : IsResetRevalidation (last_disk_in s port) (probe_result_of new.probe_results port.0) Same) where
    is_ready : (ports_of new).state port ≡ ReadyState
    is_ready = ap state_of expects.3

    same_disk : SameSerialAndSize (ports_of s) (ports_of new) port
    same_disk =
        let now_is : last_disk_in new port ≡ Some expects.1 = ap (λ (found : ProbeResult). last_disk_of found (remembered_at new.remembered port.0)) expects.3 in
        (ap last_serial_of now_is ∙ expects.4.0 ∙ sym (ap last_serial_of expects.2), ap last_sectors_of now_is ∙ expects.4.1 ∙ sym (ap last_sectors_of expects.2))

  -- one with another
  module _ (port : Port) (expects : IsResetRevalidation (last_disk_in s port) (probe_result_of new.probe_results port.0) DiskLost) where
    not_dead : (ports_of new).state port ≢ Dead
    not_dead dead = expects.0 (dead_found (probe_result_of new.probe_results port.0) dead)

    other_disk : (ports_of new).state port ≡ ReadyState → SameSerialAndSize (ports_of s) (ports_of new) port → ⊥
    other_disk ready alike = by_disk (last_disk_in s port) refl
      where
        new_kept : InCallInvariant new
        new_kept = a.kept

        found : (port.0 < 4) × ((info : DiskInfo) × (probe_result_of new.probe_results port.0 ≡ Ready info))
        found = ready_found new port.0 new_kept ready

        info : DiskInfo
        info = found.1.0

        now_is : last_disk_in new port ≡ Some info
        now_is = ap (λ (x : ProbeResult). last_disk_of x (remembered_at new.remembered port.0)) found.1.1

        fit : StillBacksProbeResult (wanted_of new.wanted port.0) (Ready info) port.0 new.device
        fit = subst (λ (x : ProbeResult). StillBacksProbeResult (wanted_of new.wanted port.0) x port.0 new.device) found.1.1 (new_kept.port_invariant port.0 found.0).probe_result_is_backed

        serials : info.serial ≡ last_serial_of (last_disk_in s port)
        serials = sym (ap last_serial_of now_is) ∙ alike.0

        counts : info.sectors ≡ last_sectors_of (last_disk_in s port)
        counts = sym (ap last_sectors_of now_is) ∙ alike.1

        by_disk : (disk : Option DiskInfo) → last_disk_in s port ≡ disk → ⊥
        by_disk None update_if_id =
            let long = fit.1.disk_is_fit.page_tells.serial.size in
            let short : length info.serial ≡ 0 = ap (λ (serial : List ℕ). length serial) (serials ∙ ap last_serial_of update_if_id) in omega (arith, long, short)
        by_disk (Some before) update_if_id = expects.1 before info update_if_id found.1.1 (serials ∙ ap last_serial_of update_if_id, counts ∙ ap last_sectors_of update_if_id)

  -- ---- what its steps are

  again_ready : (e : Pending) → Contains f.steps (WaitAgain e) → (ports_of new).state e.request.port ≡ ReadyState
  again_ready e here =
      let has = f.again e here in
      is_ready e.request.port (subst (IsResetRevalidation (last_disk_in s e.request.port) (probe_result_of new.probe_results e.request.port.0)) (why_again None has.revalidation has.request.request has.disposition) (expects_new e Requeue has))

  gives_up : (e : Pending) (o : Outcome) → Contains f.steps (Answer e o) → IsNeitherOkNorDeviceError o
  gives_up e o here =
      let has = f.answered e o here in
      ⊎_elim
      (λ named. let none : None ≡ Some named.0 = named.1 in absurd cc)
      (λ rest. ⊎_elim
      (λ aborted. subst IsNeitherOkNorDeviceError (sym aborted.3) tt)
      (λ rest. ⊎_elim
      (λ gone. subst IsNeitherOkNorDeviceError (sym gone.1) tt)
      (λ rest. ⊎_elim (λ dead. subst IsNeitherOkNorDeviceError (sym dead.1) tt) (λ revoked. subst IsNeitherOkNorDeviceError (sym revoked.3) tt) rest)
      rest)
      rest)
      (why None has.revalidation has.request.request o has.disposition)

  begun_belong : AreStepsOfCall {D = DeviceStep} Reset (ports_of new) begun
  begun_belong = belong_join Reset (ports_of new) r.second (Release ∷ r.first) (devices_belong {D = DeviceStep} Reset (ports_of new) r.second r.second_only)
      (devices_belong {D = DeviceStep} Reset (ports_of new) r.first r.first_only, inr tt)

  base_belong : AreStepsOfCall {D = DeviceStep} Reset (ports_of new) base
  base_belong = belong_join Reset (ports_of new) f.steps begun (decided_belong (ports_of new) f.steps f.decides gives_up again_ready) begun_belong

  late_belong : AreStepsOfCall {D = DeviceStep} Reset (ports_of new) a.steps
  late_belong = subst (λ (ports : Ports). AreStepsOfCall {D = DeviceStep} Reset ports a.steps) (sym ports_new) (reissued_belong (ports_of settled) a.steps a.only)

  belong : AreStepsOfCall {D = DeviceStep} Reset (ports_of new) steps
  belong = belong_join Reset (ports_of new) a.steps base late_belong base_belong

  begun_none : (id : RequestId) → list_any (issues_id id) begun ≡ false
  begun_none id = any_append (issues_id id) r.second (Release ∷ r.first) ∙ ap (λ (b : Bool). b || list_any (issues_id id) (Release ∷ r.first)) (devices_issue_none id r.second r.second_only) ∙ devices_issue_none id r.first r.first_only

  base_none : (id : RequestId) → list_any (issues_id id) base ≡ false
  base_none id = any_append (issues_id id) f.steps begun ∙ ap (λ (b : Bool). b || list_any (issues_id id) begun) (decided_none id f.steps f.decides) ∙ begun_none id

  last : IssueIsLastOfRequest steps
  last = last_then a.steps base a.last (none_last base base_none) base_none

  -- who is answered is in the steps that decide
  answer_in : (e : Pending) (o : Outcome) → Contains steps (Answer e o) → Contains f.steps (Answer e o)
  answer_in e o here = ⊎_elim
      (λ late. absurd (All-contains (IsReissue (ports_of settled)) a.steps (Answer e o) a.only late))
      (λ rest. ⊎_elim
      (λ disposition. disposition)
      (λ early. ⊎_elim
      (λ second. absurd (no_answer r.second r.second_only e o second))
      (λ release. ⊎_elim
      (λ (its : Answer e o ≡ Release). let y : Answer e o ≡ Release = its in absurd cc)
      (λ head. absurd (no_answer r.first r.first_only e o head))
      (contains_cases Release r.first (Answer e o) release))
      (Contains-append_cases r.second (Release ∷ r.first) (Answer e o) early))
      (Contains-append_cases f.steps begun (Answer e o) rest))
      (Contains-append_cases a.steps base (Answer e o) here)

  -- ---- its answers are lawful

  -- an issued request that has a fate was issued when the call began
  was_issued : (e : Pending) (o : Outcome) → Contains f.steps (Answer e o) → e.issued ≡ true → IsIssuedInBook m e.request.id
  was_issued e o here = answered_issued laws.prerequisites (ports_of new) m base base_belong base_may base_none e o (Contains-append_left f.steps begun (Answer e o) here)

  is_lawful : (e : Pending) (o : Outcome) → Contains f.steps (Answer e o) → IsLawfulAnswer was by.evidence (ports_of new) e o
  is_lawful e o here = because (why None has.revalidation has.request.request o has.disposition)
    where
      has : HasFate taken e (Complete o)
      has = f.answered e o here

      stopped : Contains by.evidence.stopped e.request.port
      stopped = by.stopped e.request.port (of_served e (Complete o) has)

      expects : (p : Revalidation) → has.revalidation ≡ p → IsResetRevalidation (last_disk_in s e.request.port) (probe_result_of new.probe_results e.request.port.0) p
      expects p update_if_id = subst (IsResetRevalidation (last_disk_in s e.request.port) (probe_result_of new.probe_results e.request.port.0)) update_if_id (expects_new e (Complete o) has)

      goes_on : has.revalidation ≡ Same → IsReadyAfterStopSerialAndSizeKept was by.evidence (ports_of new) e.request.port
      goes_on as_before = (
        is_ready e.request.port (expects Same as_before),
        stopped,
        subst (λ (ports : Ports). SameSerialAndSize ports (ports_of new) e.request.port) (sym same) (same_disk e.request.port (expects Same as_before)),
      )

      because : Why None has.revalidation has.request.request o → IsLawfulAnswer was by.evidence (ports_of new) e o
      because (inl named) = let none : None ≡ Some named.0 = named.1 in absurd cc
      because (inr (inl aborted)) = subst (IsLawfulAnswer was by.evidence (ports_of new) e) (sym aborted.3) (
        was_issued e o here (has.entry.issued ∙ aborted.1),
        has.entry.issues ∙ aborted.2,
        goes_on aborted.0,
      )
      because (inr (inr (inl gone))) = subst (IsLawfulAnswer was by.evidence (ports_of new) e) (sym gone.1) (
        by.lost_all e.request.port (of_served e (Complete o) has) (not_dead e.request.port (expects DiskLost gone.0)) (other_disk e.request.port (expects DiskLost gone.0)),
        stopped,
      )
      because (inr (inr (inr (inl dead)))) = subst (IsLawfulAnswer was by.evidence (ports_of new) e) (sym dead.1) (ap state_of (expects NoEnd dead.0))
      because (inr (inr (inr (inr revoked)))) = subst (IsLawfulAnswer was by.evidence (ports_of new) e) (sym revoked.3) (inr (goes_on revoked.0))

  lawful : AnswersLawfulAndWaitsOnStoppedPorts was by.evidence (ports_of new) steps
  lawful = lawful_join was by.evidence (ports_of new) a.steps base (reissued_lawful (ports_of settled) was by.evidence (ports_of new) a.steps a.only)
      (lawful_join was by.evidence (ports_of new) f.steps begun
      (decided_lawful was by.evidence (ports_of new) f.steps f.decides is_lawful (λ e here. by.stopped e.request.port (of_served e Requeue (f.again e here))))
      (lawful_join was by.evidence (ports_of new) r.second (Release ∷ r.first) (devices_lawful was by.evidence (ports_of new) r.second r.second_only) (devices_lawful was by.evidence (ports_of new) r.first r.first_only)))

  -- ---- what it says and does

  tells : RepliesMatch steps replies
  tells = record { answers = f.answers; is_permutation = subst (IsPermutation f.answers) (sym answers_are) f.permuted; ordered = f.ordered; replies_are_of_answers = f.told }
    where
      begun_answers : answers_of begun ≡ []
      begun_answers = answers_append r.second (Release ∷ r.first) ∙ ap (λ (list : List (Pending × Outcome)). list ++ answers_of (Release ∷ r.first)) (devices_answers r.second r.second_only) ∙ devices_answers r.first r.first_only

      answers_are : answers_of steps ≡ answers_of f.steps
      answers_are =
          answers_append a.steps base ∙ ap (λ (list : List (Pending × Outcome)). list ++ answers_of base) (reissued_answers (ports_of settled) a.steps a.only)
          ∙ answers_append f.steps begun ∙ ap (λ (list : List (Pending × Outcome)). answers_of f.steps ++ list) begun_answers ∙ append-nil (answers_of f.steps)

  releases : ReleasesOnceBeforeServerSteps steps
  releases = record {
    later = a.steps ++ (f.steps ++ r.second);
    earlier = r.first;
    release_splits_steps = ap (λ (list : List Step). a.steps ++ list) (sym (append_assoc f.steps r.second (Release ∷ r.first))) ∙ sym (append_assoc a.steps (f.steps ++ r.second) (Release ∷ r.first));
    earlier_are_by_device = r.first_only;
    no_other_release = none_released (a.steps ++ (f.steps ++ r.second)) (All-append KeepsLoans a.steps (f.steps ++ r.second)
        (All-weaker (IsReissue (ports_of settled)) KeepsLoans (reissue_keeps (ports_of settled)) a.steps a.only)
        (All-append KeepsLoans f.steps r.second (All-weaker Decides KeepsLoans decides_keeps f.steps f.decides) (devices_keep r.second r.second_only)));
  }

  -- where one is told that its disk has gone, its port has another, or none
  unplugged_expects : (e : Pending) → Contains steps (Answer e outcome.Unplugged) → IsResetRevalidation (last_disk_in s e.request.port) (probe_result_of new.probe_results e.request.port.0) DiskLost
  unplugged_expects e here = because (why None has.revalidation has.request.request outcome.Unplugged has.disposition)
    where
      has : HasFate taken e (Complete outcome.Unplugged)
      has = f.answered e outcome.Unplugged (answer_in e outcome.Unplugged here)

      because : Why None has.revalidation has.request.request outcome.Unplugged → IsResetRevalidation (last_disk_in s e.request.port) (probe_result_of new.probe_results e.request.port.0) DiskLost
      because (inl x) = let y : outcome.Unplugged ≡ outcome.DeviceError x.0.status x.0.error = x.3 in absurd cc
      because (inr (inl x)) = let y : outcome.Unplugged ≡ outcome.Aborted = x.3 in absurd cc
      because (inr (inr (inl x))) = subst (IsResetRevalidation (last_disk_in s e.request.port) (probe_result_of new.probe_results e.request.port.0)) x.0 (expects_new e (Complete outcome.Unplugged) has)
      because (inr (inr (inr (inl x)))) = let y : outcome.Unplugged ≡ outcome.PortDead = x.1 in absurd cc
      because (inr (inr (inr (inr x)))) = let y : outcome.Unplugged ≡ outcome.Revoked = x.3 in absurd cc

  dead_expects : (e : Pending) → Contains steps (Answer e outcome.PortDead) → probe_result_of new.probe_results e.request.port.0 ≡ Unready Dead
  dead_expects e here = because (why None has.revalidation has.request.request outcome.PortDead has.disposition)
    where
      has : HasFate taken e (Complete outcome.PortDead)
      has = f.answered e outcome.PortDead (answer_in e outcome.PortDead here)

      because : Why None has.revalidation has.request.request outcome.PortDead → probe_result_of new.probe_results e.request.port.0 ≡ Unready Dead
      because (inl x) = let y : outcome.PortDead ≡ outcome.DeviceError x.0.status x.0.error = x.3 in absurd cc
      because (inr (inl x)) = let y : outcome.PortDead ≡ outcome.Aborted = x.3 in absurd cc
      because (inr (inr (inl x))) = let y : outcome.PortDead ≡ outcome.Unplugged = x.1 in absurd cc
      because (inr (inr (inr (inr x)))) = let y : outcome.PortDead ≡ outcome.Revoked = x.3 in absurd cc
      because (inr (inr (inr (inl x)))) = subst (IsResetRevalidation (last_disk_in s e.request.port) (probe_result_of new.probe_results e.request.port.0)) x.0 (expects_new e (Complete outcome.PortDead) has)

  -- who is left is of a port that has its disk
  left_has : (e : Pending) → Contains (after m steps).book e → HasItsDisk settled.remembered settled.probe_results e.request.port.0
  left_has e here =
      let h = at_right EntryRelation new.book (after m steps).book stands_new.book e here in
      let w = a.from h.0 h.1 in
      subst (λ (p : Port). HasItsDisk settled.remembered settled.probe_results p.0) (sym (h.2.port ∙ w.port)) (its_disk laws s taken settled booked takes replies settles m reached is w.was w.there)

  left_expects : (e : Pending) → Contains (after m steps).book e → IsResetRevalidation (last_disk_in s e.request.port) (probe_result_of new.probe_results e.request.port.0) Same
  left_expects e here =
      let has = left_has e here in
      (has.0, has.1, sym (remembered_new e.request.port) ∙ ap (λ (c : ServerState). remembered_at c.remembered e.request.port.0) a.settings ∙ has.2, found_new e.request.port.0 ∙ has.3, has.4)

  unplugs : UnpluggedOutcomeEmptiesPort steps (after m steps)
  unplugs = record {
    none_is_left = λ e other here there own.
        let lost = unplugged_expects e here in
        let has = subst (λ (p : Port). IsResetRevalidation (last_disk_in s p) (probe_result_of new.probe_results p.0) Same) own (left_expects other there) in
        lost.1 has.0 has.1 has.2 has.3 has.4;
    none_is_told_dead = λ e other here there own. (unplugged_expects e here).0 (ap (λ (p : Port). probe_result_of new.probe_results p.0) (sym own) ∙ dead_expects other there);
  }

  finds : UnpluggedExcludesDeadAndSameDisk steps (ports_of s) (ports_of new)
  finds e here = let lost = unplugged_expects e here in (not_dead e.request.port lost, other_disk e.request.port lost)

  -- no request keeps its issue
  anew : (port : Port) → IssuedOnPortAreIssuedInSteps steps (after m steps) port
  anew port e here own issued = ⊎_elim
      (λ late. issued_late e.request.id a.steps base late)
      (λ before. absurd (none_before before))
      (issued_from laws.prerequisites (ports_of new) z a.steps late_belong e (subst (λ (n : Machine). Contains n.book e) whole_is here) issued)
    where
      none_before : IsIssuedInBook z e.request.id → ⊥
      none_before w =
          let h = at_right EntryRelation settled.book z.book stands.book w.pending w.is_in_book in
          let ready : state_of (probe_result_of settled.probe_results w.pending.request.port.0) ≡ ReadyState = ap (λ (p : Port). state_of (probe_result_of settled.probe_results p.0)) h.2.port ∙ of_ready settled kept h.0 h.1 in
          let slot = issued_has settled z w.pending.request.port stands kept ready w.pending w.is_in_book refl w.issued in
          let y : None ≡ Some slot.used = sym (unused_then laws s taken settled booked takes replies settles m reached is w.pending.request.port.0 slot.slot) ∙ slot.used_is in absurd cc

  none_waits : (port : Port) → (ports_of new).state port ≢ ReadyState → (e : Pending) → Contains (after m steps).book e → e.request.port ≢ port
  none_waits port other e here own = other (ap (λ (p : Port). (ports_of new).state p) (sym own) ∙ is_ready e.request.port (left_expects e here))

  becomes : (port : Port) → MayBecome (ports_of s) by.evidence (ports_of new) port
  becomes port = record {
    served_is_unchanged = ap is_served (found_new port.0 ∙ found_taken port.0) ∙ served_same port.0;
    dead_exactly_if_stuck = (by.stuck_all port, by.stuck_only port);
    disk_is_remembered_unless_ready = shows_same port;
  }

  abbrev end : AbstractState
  end = record { machine = after m steps; ports = ports_of new }

  new_settled : InvariantWithNoneDue new
  new_settled = settled_at_last laws s taken settled booked takes replies settles m reached is new issues

  -- ---- the disks that it shows

  -- a port that shows a disk had one in at some moment
  had : (port : Port) → ShownDiskWasInOrCame (abstract_state_of s m) steps end port
  had port shows = had_disk laws.prerequisites port s saw.seen new.device m saw.accesses saw.does saw.present is (laws.prerequisites.port_event_laws.tape.growth_is_transitive saw.seen taken.device new.device saw.later grows) steps backed
    where
      found_is : probe_result_of new.probe_results port.0 ≡ probe_result_of takes.host.ports port.0
      found_is = found_new port.0 ∙ found_taken port.0 ∙ ap (λ (ports : List ProbeResult). probe_result_of ports port.0) (ports_are laws s taken settled booked takes replies settles m reached is)

      never : (state : ShownState) → probe_result_of takes.host.ports port.0 ≡ Unready state → state ≢ ReadyState
      never state update_if_id ready = ⊎_elim
          (λ (low : port.0 < 4). (subst (λ (x : ShownState). BacksProbeResult (wanted_of s.wanted port.0) (Unready x) port.0 taken.device) ready
          (subst (λ (x : ProbeResult). BacksProbeResult (wanted_of s.wanted port.0) x port.0 taken.device) update_if_id (takes.takes_over.results_are_backed port.0 low))).1)
          (λ (high : 4 ≤ port.0). absurd (let four = takes.host_has_four_ports in let y : Unserved ≡ Unready state = sym (none_past takes.host.ports port.0 (omega (arith, four, high))) ∙ update_if_id in cc))
          (cases_lt port.0 4)

      grows : TapeGrows taken.device new.device
      grows = subst (λ (d : Device). TapeGrows d new.device) device_same (a.backed.new_entries, a.backed.tape_is)

      saw : SawDisk port s.device taken.device
      saw = saw_before laws.prerequisites port takes.resets.followed.is_driven.accesses s.device takes.idle_device taken.device takes.resets.followed.is_driven.all_are_done
          (taken_saw laws port (probe_result_of takes.host.ports port.0) never (subst (λ (x : ProbeResult). ShowsDisk (state_of x)) found_is shows) takes.host.ports takes.idle_device taken.device takes.resets.idle refl takes.takes_over.switches_on_and_boots)

  answered : AnswersReset (abstract_state_of s m) by.evidence steps replies end
  answered = record {
    replies_match = tells;
    releases_once = releases;
    unplugged_outcome_empties_port = unplugs;
    unplugged_lost_disk = finds;
    none_is_due_where_ready = λ port ready. none_due new (after m steps) stands_new (mode_in new port) port (new_settled.none_is_due port);
    empty_unless_ready = none_waits;
    port_may_become = becomes;
    issued_are_issued_in_steps = anew;
    served_are_stopped = by.stopped;
    shown_disk_was_in_or_came = had;
  }

  was_is : abstract_state_of s m ≡ was
  was_is = ap (λ (ports : Ports). record { machine = m; ports = ports }) (sym same)

  instant_is : joint_state_of s m ≡ with_device s.device (joint_state_after first past)
  instant_is = ap (λ (abstract : AbstractState). record { device = s.device; abstract = abstract }) was_is

  disks : UnansweredKeepSerialAndSize was end
  disks e o here there same_id = subst (λ (ports : Ports). SameSerialAndSize ports (ports_of new) e.request.port) (sym same) (same_disk e.request.port (left_expects e here))

  evidenced : IsEvidenced Reset (WasReset (Some replies)) by.accesses (with_device s.device (joint_state_after first past)) (ports_of new) new.device by.evidence
  evidenced = record {
    faults_are_told = λ told here. absurd (nowhere told (subst (λ list. Contains list told) by.faults here));
    each_port_is_evidenced = λ port. subst (λ (old : JointState Device). IsEvidencedOf Reset (WasReset (Some replies)) by.accesses old (ports_of new) new.device by.evidence port) instant_is (by.evidenced m port);
  }

  port_part : (port : Port) → PortCorresponds (with_device s.device (joint_state_after first past)) (happening_with by.evidence new.device Reset (WasReset (Some replies)) steps (ports_of new)) by.accesses port
  port_part port = record {
    finds_done = tt;
    lone_plain_faults_are_told_unless_dead = tt;
    probes_disk = tt;
    boots_anew = subst (λ (old : JointState Device). BootsAnewWhereRequired Reset (WasReset (Some replies)) by.accesses old (ports_of new) new.device port) instant_is (by.boots m port);
    loses_no_error = subst (λ (old : JointState Device). LosesNoPortError by.evidence old (ports_of new) new.device port) instant_is (by.port_error m port);
    runs_well_anew = subst (λ (old : JointState Device). RunsWellAnew by.evidence by.accesses old (ports_of new) new.device port) instant_is (by.well m port);
    handles_evidence = tt;
  }

  due_then : (port : Port) → (ports_of new).state port ≡ ReadyState → IssuesDue (mode_in new port) steps (after m steps) port
  due_then port ready =
      let there : state_of (probe_result_of settled.probe_results port.0) ≡ ReadyState = sym (ap state_of (found_new port.0)) ∙ ready in
      subst (λ (mode : QueueMode). IssuesDue mode steps (after m steps) port) (sym (ap (λ (c : ServerState). mode_in c port) a.settings))
      (dues_carried laws.prerequisites (mode_in settled port) a.steps steps (after z a.steps) (after m steps) port (ap (λ (n : Machine). requests_of_port port (map unanswered n.book)) (sym whole_is))
      (λ u here own. sym (any_append (issues_id u.id) a.steps base ∙ ap (λ (b : Bool). list_any (issues_id u.id) a.steps || b) (base_none u.id) ∙ or_none (list_any (issues_id u.id) a.steps)))
      (a.dues port (ready_found settled port.0 kept there).0 there))

  pub reset_event : (h : JointEvent Device DeviceStep) × (h.event.call ≡ Reset) × (h.event.result ≡ WasReset (Some replies)) × LeadsToServer first (h ∷ past) new
  reset_event =
      lead_with laws.prerequisites first past s new Reset (WasReset (Some replies)) by.evidence steps
      (ap (λ (c : ServerState). c.wanted) a.settings ∙ wanted_then laws s taken settled booked takes replies settles m reached is) leads (holding new a.kept) (kept_fit new a.kept)
      may belong last lawful disks
      (subst (λ (old : AbstractState). AnswersReset old by.evidence steps replies end) was_is answered)
      tt
      by.accesses
      (by.does, by.own, subst (λ (ports : Ports). All (UsesPortRegistersOf (IsPortServed ports)) by.accesses) (sym same) by.of, by.begins, by.tells)
      evidenced due_then port_part backed stands_new

-- ---- the whole

pub resets_add_given : ResetLaws → (s new : ServerState) (replies : List Reply) → IsRebootedBy s new replies → ServerInvariant s → ResetsServer replies s new → ExtendsToNoneDue s new Reset (WasReset (Some replies))
resets_add_given laws s new replies by booked resets = record {
  invariant_with_none_due = settled_at_last laws s resets.server_after_take_over resets.server_after_resolving booked resets.is_reinitialized replies resets.resolves_each_port booked.machine booked.reached booked.machine_relation new resets.issues_on_each_ready_port;
  extends_history = λ first past leads. reset_event laws s resets.server_after_take_over resets.server_after_resolving new replies booked resets.is_reinitialized resets.resolves_each_port resets.issues_on_each_ready_port by first past leads;
}
