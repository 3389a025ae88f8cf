-- What the device vouches for in a reset that ended, and what it has done.
use Rattle.std.proofs.Common.{ℕ, ◌≡◌, ◌≢◌, ◌⊎◌, ◌<◌, Bool, true, false, List, [], ◌∷◌, Some, inl, inr, refl, sym, ap, ◌∙◌, subst, arith, ⊎_elim}
use Rattle.std.specs.List.{All, Contains}
use Rattle.std.proofs.lemmas.Bool.{cases_Bool, cases_eq, false≢true}
use Rattle.std.proofs.lemmas.List.Elements.{All-head, All-nil, All-tail, All-weaker}
use Rattle.ata_types.specs.declared.Port.{Port}
use Rattle.ata_types.specs.declared.PortState.TheVariants.{Absent, Ready as ReadyState, Dead as DeadState}
use Rattle.ata_types.specs.declared.request.Reply.{Reply}
use Rattle.ata_types.specs.declared.limits.TheConstants.{MOST_READINGS}
use Rattle.hba_regs.specs.declared.reg.Reg.{Reg}
use Rattle.adapter.specs.Access.{Access, DoesAll}
use Rattle.adapter.specs.Access.Access.{Loading, Reading, Storing, Writing}
use Rattle.adapter.specs.Device.{Device, Notes}
use Rattle.adapter.specs.Rules.{IsOn}
use Rattle.block_machine.specs.Events.{Reset, WasReset}
use Rattle.block_machine.specs.Ports.{Evidence, Ports, SameSerialAndSize}
use Rattle.block_machine.specs.State.{Machine}
use Rattle.driver_history.specs.Evidence.{IsEvidencedOf}
use Rattle.driver_history.specs.Histories.{LosesNoPortError, RunsWellAnew, IsPortServed}
use Rattle.driver_history.specs.PortTurn.{KeepsToAnotherPort}
use Rattle.driver_history.specs.AccessTrace.{UsesPortRegistersOf, WritesNeitherCmdNorSctl, LastSctlWritesResetLink}
use Rattle.host_boot.specs.TakeOver.{BacksProbeResult, probe_result_of, wanted_of}
use Rattle.host_boot.specs.declared.ProbeResult.{ProbeResult}
use Rattle.host_boot.specs.declared.ProbeResult.TheVariants.{Unserved, Ready, Unready}
use Rattle.identify.specs.declared.DiskInfo.{DiskInfo}
use Rattle.port_control.specs.Engines.{EngineSticks}
use Rattle.server_history.specs.Prerequisites.{PrerequisiteLaws}
use Rattle.server_history.proofs.reset_call.ResetDevice.{IsRebootedBy}
use Rattle.server_history.specs.Resets.{IsReinitialized, ResetsServer}
use Rattle.server_history.specs.ServerState.{ServerState, is_served, ports_of, state_of}
use Rattle.server_history.specs.StuckServer.{ServerInvariant}
use Rattle.server_history.specs.Turns.{joint_state_of}
use Rattle.server_history.proofs.recovery_turn.MendedPort.{dead_is}
use Rattle.server_history.proofs.reset_call.BootedPorts.{DidBoot}
use Rattle.server_history.proofs.state.DrivenAccesses.{by_one}
use Rattle.server_history.proofs.any_turn.JoinedParts.{dead_or_not, ready_or_not}
use Rattle.server_history.proofs.reset_call.ResetAccesses.{IsOfReady, accesses, begins, did, does, goes_well, is_found, issues, low_of, of, own, ports_new, resets, shows, sticks, tells, turn}
use Rattle.server_history.proofs.state.CallEvidence.{chosen, chosen_is, evidenced_of, four, in_four, is_chosen, told_by}

-- ---- decisions

-- whether the first is so
is_left : {A B : Type 0} → A ⊎ B → Bool
is_left (inl a) = true
is_left (inr b) = false

left_is : {A B : Type 0} (x : A ⊎ B) → is_left x ≡ true → A
unfolding is_left
left_is (inl a) so = a
left_is (inr b) so = absurd (false≢true so)

is_left_if : {A : Type 0} (x : A ⊎ (A → ⊥)) → A → is_left x ≡ true
unfolding is_left
is_left_if (inl a) so = refl
is_left_if (inr none) so = absurd (none so)

same_or_not : (xs ys : List ℕ) → (xs ≡ ys) ⊎ (xs ≢ ys)
same_or_not [] [] = inl refl
same_or_not [] (y ∷ ys) = inr (λ e. let z : [] ≡ y ∷ ys = e in absurd cc)
same_or_not (x ∷ xs) [] = inr (λ e. let z : x ∷ xs ≡ [] = e in absurd cc)
same_or_not (x ∷ xs) (y ∷ ys) = ⊎_elim
    (λ (first : x ≡ y). ⊎_elim
    (λ (rest : xs ≡ ys). inl (ap (λ (n : ℕ). n ∷ xs) first ∙ ap (λ (list : List ℕ). y ∷ list) rest))
    (λ (other : xs ≢ ys). inr (λ e. other (let z : x ∷ xs ≡ y ∷ ys = e in cc)))
    (same_or_not xs ys))
    (λ (other : x ≢ y). inr (λ e. other (let z : x ∷ xs ≡ y ∷ ys = e in cc)))
    (cases_eq x y)

disk_or_not : (old new : Ports) (port : Port) → SameSerialAndSize old new port ⊎ (SameSerialAndSize old new port → ⊥)
disk_or_not old new port = ⊎_elim
    (λ (serial : new.serial port ≡ old.serial port). ⊎_elim (λ (sectors : new.sectors port ≡ old.sectors port). inl (serial, sectors)) (λ other. inr (λ same. other same.1)) (cases_eq (new.sectors port) (old.sectors port)))
    (λ other. inr (λ same. other same.0))
    (same_or_not (new.serial port) (old.serial port))

-- ---- accesses

-- those of such ports stop no other one
unserved_leaves : (Such : Port → Type 0) (port : Port) → (Such port → ⊥) → (access : Access) → UsesPortRegistersOf Such access → WritesNeitherCmdNorSctl port access
unserved_leaves Such port none (Reading r v) is = (tt, tt)
unserved_leaves Such port none (Writing r v) is =
    ((λ e. none (subst (λ (x : Reg). UsesPortRegistersOf Such (Writing x v)) e is)), (λ e. none (subst (λ (x : Reg). UsesPortRegistersOf Such (Writing x v)) e is)))
unserved_leaves Such port none (Loading at bytes) is = (tt, tt)
unserved_leaves Such port none (Storing at bytes) is = (tt, tt)

-- what was noted of a port stays so over accesses of others
notes_over : PrerequisiteLaws → (port : Port) (list : List Access) (old new : Device) → IsOn old → All (KeepsToAnotherPort port) list → DoesAll list old new → (new.port port.0).notes ≡ (old.port port.0).notes
notes_over laws port [] old new on all is = ap (λ (d : Device). (d.port port.0).notes) is
notes_over laws port (access ∷ list) old new on all (mid, does, rest) =
    let other = All-head (KeepsToAnotherPort port) access list all in
    let driven = by_one _ access old mid other.2 does in
    notes_over laws port list mid new (laws.one_port_keeps_adapter_on other.0 old mid on driven) (All-tail (KeepsToAnotherPort port) access list all) rest
    ∙ (laws.port_event_laws.other_ports_are_left other.0 port.0 old mid other.1 on driven).notes

-- ---- the whole

module _ (laws : PrerequisiteLaws) (s new : ServerState) (replies : List Reply) (k : ServerInvariant s) (r : ResetsServer replies s new) where
  abbrev t : IsReinitialized s r.server_after_take_over
  t = r.is_reinitialized

  abbrev ports : List ProbeResult
  ports = t.host.ports

  abbrev list : List Access
  list = accesses laws s new replies k r

  abbrev old_ports : Ports
  old_ports = ports_of s

  abbrev new_ports : Ports
  new_ports = ports_of new

  -- ---- what a port is then

  found_new : (port : ℕ) → probe_result_of new.probe_results port ≡ probe_result_of ports port
  found_new port = ap (λ (found : List ProbeResult). probe_result_of found port) (ports_new laws s new replies k r)

  low_found : (port : Port) → probe_result_of ports port.0 ≢ Unserved → port.0 < 4
  low_found port other = low_of laws s new replies k r port port.0 (omega arith) other

  dead_found : (port : Port) → new_ports.state port ≡ DeadState → probe_result_of ports port.0 ≡ Unready DeadState
  dead_found port dead = sym (found_new port.0) ∙ dead_is (probe_result_of new.probe_results port.0) dead

  dead_low : (port : Port) → new_ports.state port ≡ DeadState → port.0 < 4
  dead_low port dead = low_found port (λ unserved. let z : Unready DeadState ≡ Unserved = sym (dead_found port dead) ∙ unserved in cc)

  -- no port is found unready in the state of a ready one
  never_ready : (port : Port) → probe_result_of ports port.0 ≡ Unready ReadyState → ⊥
  never_ready port is =
      (subst (λ (f : ProbeResult). BacksProbeResult (wanted_of s.wanted port.0) f port.0 r.server_after_take_over.device) is
      (t.takes_over.results_are_backed port.0 (low_found port (λ unserved. let z : Unready ReadyState ≡ Unserved = sym is ∙ unserved in cc)))).1

  ready_info : (port : Port) → new_ports.state port ≡ ReadyState → (info : DiskInfo) × (probe_result_of ports port.0 ≡ Ready info)
  ready_info port ready = by (probe_result_of ports port.0) refl
    where
      state_is : (f : ProbeResult) → probe_result_of ports port.0 ≡ f → state_of f ≡ ReadyState
      state_is f is = sym (ap state_of (found_new port.0 ∙ is)) ∙ ready

      by : (f : ProbeResult) → probe_result_of ports port.0 ≡ f → (info : DiskInfo) × (probe_result_of ports port.0 ≡ Ready info)
      by Unserved is = let z : Absent ≡ ReadyState = state_is Unserved is in absurd cc
      by (Ready info) is = (info, is)
      by (Unready state) is = absurd (never_ready port (is ∙ ap Unready (state_is (Unready state) is)))

  ready_low : (port : Port) (info : DiskInfo) → probe_result_of ports port.0 ≡ Ready info → port.0 < 4
  ready_low port info is = low_found port (λ unserved. let z : Ready info ≡ Unserved = sym is ∙ unserved in cc)

  served_ready : (port : Port) → old_ports.state port ≡ ReadyState → old_ports.served port ≡ true
  served_ready port ready = by (probe_result_of s.probe_results port.0) refl
    where
      by : (f : ProbeResult) → probe_result_of s.probe_results port.0 ≡ f → is_served (probe_result_of s.probe_results port.0) ≡ true
      by Unserved is = let z : Absent ≡ ReadyState = sym (ap state_of is) ∙ ready in absurd cc
      by (Ready info) is = ap is_served is
      by (Unready state) is = ap is_served is

  -- ---- evidence

  -- the port was served, and ends neither dead nor ready with its disk
  abbrev IsLostAnew : Port → Type 0
  IsLostAnew port = (old_ports.served port ≡ true) × (new_ports.state port ≢ DeadState) × (new_ports.state port ≡ ReadyState → SameSerialAndSize old_ports new_ports port → ⊥)

  lost_or_not : (port : Port) → IsLostAnew port ⊎ (IsLostAnew port → ⊥)
  lost_or_not port = ⊎_elim
      (λ (served : old_ports.served port ≡ true). ⊎_elim
      (λ (dead : new_ports.state port ≡ DeadState). inr (λ lost. lost.1 dead))
      (λ (lives : new_ports.state port ≢ DeadState). ⊎_elim
      (λ (ready : new_ports.state port ≡ ReadyState). ⊎_elim (λ same. inr (λ lost. lost.2 ready same)) (λ other. inl (served, lives, λ _ same. other same)) (disk_or_not old_ports new_ports port))
      (λ (other : new_ports.state port ≢ ReadyState). inl (served, lives, λ ready _. other ready))
      (ready_or_not (new_ports.state port)))
      (dead_or_not (new_ports.state port)))
      (λ (none : old_ports.served port ≡ false). inr (λ lost. false≢true (sym none ∙ lost.0)))
      (cases_Bool (old_ports.served port))

  abbrev is_lost : Port → Bool
  is_lost port = is_left (lost_or_not port)

  abbrev is_dead : Port → Bool
  is_dead port = is_left (dead_or_not (new_ports.state port))

  -- of trouble it names what each ready port showed when the reset began
  abbrev evidence : Evidence
  evidence = record (told_by s.device old_ports) { lost = chosen is_lost four; stopped = chosen old_ports.served four; stuck = chosen is_dead four }

  stopped_all : (port : Port) → old_ports.served port ≡ true → Contains evidence.stopped port
  stopped_all port served = is_chosen old_ports.served four port (in_four port (k.served_are_below_4 port.0 served)) served

  stuck_all : (port : Port) → new_ports.state port ≡ DeadState → Contains evidence.stuck port
  stuck_all port dead = is_chosen is_dead four port (in_four port (dead_low port dead)) (is_left_if (dead_or_not (new_ports.state port)) dead)

  stuck_only : (port : Port) → Contains evidence.stuck port → new_ports.state port ≡ DeadState
  stuck_only port here = left_is (dead_or_not (new_ports.state port)) (chosen_is is_dead four port here)

  lost_all : (port : Port) → old_ports.served port ≡ true → new_ports.state port ≢ DeadState → (new_ports.state port ≡ ReadyState → SameSerialAndSize old_ports new_ports port → ⊥) → Contains evidence.lost port
  lost_all port served lives other = is_chosen is_lost four port (in_four port (k.served_are_below_4 port.0 served)) (is_left_if (lost_or_not port) (served, lives, other))

  named_lost_showed_loss_or_changed : (port : Port) → Contains evidence.lost port → IsLostAnew port
  named_lost_showed_loss_or_changed port here = left_is (lost_or_not port) (chosen_is is_lost four port here)

  -- ---- a dead port

  module _ (port : Port) (dead : new_ports.state port ≡ DeadState) where
    its_sticks : EngineSticks port list
    its_sticks =
        let part = turn laws s new replies k r port (dead_low port dead) in
        sticks laws s new replies k r port (dead_low port dead) ((subst (λ (f : ProbeResult). DidBoot port f part.turn.turn part.turn.start part.turn.end) (dead_found port dead) part.did).0 refl)

    -- what is issued is of other ports
    others : (access : Access) → IsOfReady 0 ports access → KeepsToAnotherPort port access
    others access (q, n, info, at, is, its) = (
      q,
      (λ same.
          let number : n ≡ port.0 = omega (arith, at, same) in
          let z : Ready info ≡ Unready DeadState = sym is ∙ ap (probe_result_of ports) number ∙ dead_found port dead in
          cc),
      laws.batch_access_is_of_port q access its,
    )

    counted : (new.device.port port.0).notes.engine_wait_count ≡ MOST_READINGS
    counted =
        let issuing = issues laws s new replies k r in
        ap (λ (n : Notes). n.engine_wait_count) (notes_over laws port issuing.accesses r.server_after_take_over.device new.device t.takes_over.adapter_is_on (All-weaker (IsOfReady 0 ports) (KeepsToAnotherPort port) others issuing.accesses issuing.accesses_are_of_kind) issuing.all_are_done)
        ∙ (subst (λ (f : ProbeResult). BacksProbeResult (wanted_of s.wanted port.0) f port.0 r.server_after_take_over.device) (dead_found port dead) (t.takes_over.results_are_backed port.0 (dead_low port dead))).1.1

  -- ---- what is vouched for

  evidenced : (m : Machine) (port : Port) → IsEvidencedOf Reset (WasReset (Some replies)) list (joint_state_of s m) new_ports new.device evidence port
  evidenced m port =
      let told = evidenced_of four Reset (WasReset (Some replies)) [] (joint_state_of s m) new_ports new.device port (λ ready. in_four port (k.served_are_below_4 port.0 (served_ready port ready))) (All-nil (WritesNeitherCmdNorSctl port)) in
      record {
        named_lost_showed_loss_or_changed = λ here. let lost = named_lost_showed_loss_or_changed port here in inr (inr (inr (lost.1, lost.2)));
        shown_loss_of_ready_is_named = told.shown_loss_of_ready_is_named;
        named_link_changed_had_change_or_no_device = told.named_link_changed_had_change_or_no_device;
        shown_failure_of_ready_is_named = told.shown_failure_of_ready_is_named;
        named_showing_error_had_error = told.named_showing_error_had_error;
        shown_fatal_of_ready_is_named = told.shown_fatal_of_ready_is_named;
        named_showing_fatal_had_fatal = told.named_showing_fatal_had_fatal;
        engine_is_left_or_stopped = ⊎_elim
            (λ (served : old_ports.served port ≡ true). inr (inl (stopped_all port served)))
            (λ (none : old_ports.served port ≡ false). inl (All-weaker (UsesPortRegistersOf (IsPortServed old_ports)) (WritesNeitherCmdNorSctl port)
            (unserved_leaves (IsPortServed old_ports) port (λ served. false≢true (sym none ∙ served))) list (of laws s new replies k r)))
            (cases_Bool (old_ports.served port));
        named_stopped_was_stopped_or_reset = λ here. inr (tt, chosen_is old_ports.served four port here);
        stuck_only = λ here. let dead = stuck_only port here in inl (its_sticks port dead, counted port dead);
      }

  -- each port that isn't dead was booted
  booted : (port : Port) → old_ports.served port ≡ true → (new_ports.state port ≡ DeadState) ⊎ LastSctlWritesResetLink port list
  booted port served = by (probe_result_of ports port.0) refl
    where
      found : probe_result_of ports port.0 ≢ Unserved
      found = is_found laws s new replies k r port.0 served

      by : (f : ProbeResult) → probe_result_of ports port.0 ≡ f → (new_ports.state port ≡ DeadState) ⊎ LastSctlWritesResetLink port list
      by Unserved is = absurd (found is)
      by (Ready info) is = inr (resets laws s new replies k r port (low_found port found) (did laws s new replies k r port (low_found port found) info is).0)
      by (Unready state) is = ⊎_elim
          (λ (dead : state ≡ DeadState). inl (ap state_of (found_new port.0 ∙ is) ∙ dead))
          (λ (lives : state ≢ DeadState).
          let part = turn laws s new replies k r port (low_found port found) in
          inr (resets laws s new replies k r port (low_found port found)
          ((subst (λ (f : ProbeResult). DidBoot port f part.turn.turn part.turn.start part.turn.end) is part.did).1 lives (λ ready. never_ready port (is ∙ ap Unready ready)))))
          (dead_or_not state)

  port_error : (m : Machine) (port : Port) → LosesNoPortError evidence (joint_state_of s m) new_ports new.device port
  port_error m port = record {
    ready_errors_are_handled_or_shown = λ ready _. inl (inl (stopped_all port (served_ready port ready)));
    changes_are_handled_or_shown_unless_dead = λ tends _. inl (inl (stopped_all port tends.0));
    ready_shows_fault_since_start = λ ready. let its = ready_info port ready in (shows laws s new replies k r port (ready_low port its.0 its.1) its.0 its.1).fault_is_shown;
    ready_shows_fatal_since_start = λ ready. let its = ready_info port ready in (shows laws s new replies k r port (ready_low port its.0 its.1) its.0 its.1).fatal_is_shown;
    ready_shows_plug_event_since_start = λ ready. let its = ready_info port ready in (shows laws s new replies k r port (ready_low port its.0 its.1) its.0 its.1).plug_is_shown;
  }

  well : (m : Machine) (port : Port) → RunsWellAnew evidence list (joint_state_of s m) new_ports new.device port
  well m port _ ready none unfailed unbroken _ = let its = ready_info port ready in goes_well laws s new replies k r port (ready_low port its.0 its.1) its.0 its.1 none unfailed unbroken

  -- the device's part in a reset that ended
  pub is_rebooted : IsRebootedBy s new replies
  is_rebooted = record {
    accesses = list;
    does = does laws s new replies k r;
    own = own laws s new replies k r;
    of = of laws s new replies k r;
    begins = begins laws s new replies k r;
    tells = tells laws s new replies k r;
    evidence = evidence;
    faults = refl;
    evidenced = evidenced;
    stopped = stopped_all;
    stuck_all = stuck_all;
    stuck_only = stuck_only;
    lost_all = lost_all;
    boots = λ m. booted;
    port_error = port_error;
    well = well;
  }
