-- What holds at the instant of a server each of whose served ports is dead, and whose adapter isn't on.
use Rattle.std.proofs.Common.{ℕ, true, ◌≡◌, ◌≢◌, ◌⊎◌, ◌<◌, ◌≤◌, ◌+◌, ◌*◌, List, [], ◌∷◌, length, get_or, Option, None, inl, inr, refl, sym, ap, ◌∙◌, subst, ⊎_elim}
use Rattle.std.specs.Prelude.{count_by}
use Rattle.std.specs.List.{All}
use Rattle.std.proofs.lemmas.Bool.{false≢true}
use Rattle.std.proofs.lemmas.List.Elements.{All-contains, All-head, All-tail}
use Rattle.ata_types.specs.declared.Port.{Port}
use Rattle.ata_types.specs.declared.PortState.TheVariants.{Absent, Ready as ReadyState, Unfit, Dead}
use Rattle.ata_types.specs.declared.grant.GrantRow.{GrantRow}
use Rattle.ata_types.specs.declared.memory.TheConstants.{DRIVER_BYTES}
use Rattle.ata_types.specs.declared.request.ClientId.{ClientId}
use Rattle.hba_regs.specs.Bits.{bit}
use Rattle.hba_regs.specs.declared.reg.Reg.TheVariants.{Ghc}
use Rattle.adapter.specs.Access.{Access, Does, DoesAll}
use Rattle.adapter.specs.Access.Access.{Loading, Reading, Storing, Writing}
use Rattle.adapter.specs.Device.{Device}
use Rattle.adapter.specs.Idle.{IsIdlePort}
use Rattle.adapter.specs.Rules.{IsOn}
use Rattle.adapter.specs.Steps.{Steps}
use Rattle.refinement.specs.PreservedParts.{SameAdapter}
use Rattle.block_machine.specs.Histories.{JointState, IsReachable}
use Rattle.block_machine.specs.Expected.{IsValidRow}
use Rattle.block_machine.specs.Ports.{PortsWellFormed, Evidence, Ports}
use Rattle.block_machine.specs.State.{Machine}
use Rattle.driver_history.specs.Histories.{LosesNoPortError, IsServedAndNotDead}
use Rattle.refinement.specs.Acts.{DriverSlots}
use Rattle.driver_history.specs.PortInvariants.{PortStateInvariant, DriverInvariantWith, HasNoUnanswered}
use Rattle.dma_frames.specs.Loan.{Lending}
use Rattle.dma_frames.specs.FrameTables.{OwnersAndLoans}
use Rattle.host_boot.specs.TakeOver.{probe_result_of, wanted_of}
use Rattle.host_boot.specs.declared.ProbeResult.{ProbeResult}
use Rattle.host_boot.specs.declared.ProbeResult.TheVariants.{Ready, Unready, Unserved}
use Rattle.request_queue.specs.BookEntries.{BookEntry, IsWellFormedEntry, BookIsWellFormed}
use Rattle.request_queue.specs.BookRelation.{EntryRelation}
use Rattle.server_history.specs.Prerequisites.{PrerequisiteLaws}
use Rattle.server_history.specs.ErrorHandling.{requests_of}
use Rattle.server_history.specs.ServerState.{RevokedMarkInvariant, ServerState, MachineRelation, is_served, quarantined_at, ports_of, state_of, slot_state_of_use}
use Rattle.server_history.specs.StuckServer.{ServedPortsAreDead, ServerInvariant}
use Rattle.server_history.proofs.state.HistorySteps.{IsHolding}
use Rattle.server_history.proofs.state.PortSlots.{none_kept}
use Rattle.server_history.proofs.state.PairedLists.{at_right}

-- ---- ports

-- a port that is dead if it is served
pub dead_if_served : (found : ProbeResult) → (is_served found ≡ true → found ≡ Unready Dead) → (found ≡ Unserved) ⊎ (found ≡ Unready Dead)
dead_if_served Unserved dead = inl refl
dead_if_served (Ready info) dead = inr (dead refl)
dead_if_served (Unready state) dead = inr (dead refl)

module _ (s : ServerState) (dead : ServedPortsAreDead s.probe_results) where
  pub either : (port : ℕ) → (probe_result_of s.probe_results port ≡ Unserved) ⊎ (probe_result_of s.probe_results port ≡ Unready Dead)
  either port = dead_if_served (probe_result_of s.probe_results port) (dead port)

  pub never_ready : (port : ℕ) → state_of (probe_result_of s.probe_results port) ≢ ReadyState
  never_ready port ready = ⊎_elim
      (λ unserved. let z : Absent ≡ ReadyState = sym (ap state_of unserved) ∙ ready in cc)
      (λ is. let z : Dead ≡ ReadyState = sym (ap state_of is) ∙ ready in cc)
      (either port)

  never_tended : (port : Port) → IsServedAndNotDead (ports_of s) port → ⊥
  never_tended port tends = tends.1 (ap state_of (dead port.0 tends.0))

  -- so no trouble of it can be lost
  pub never_troubled : (evidence : Evidence) (old : JointState Device) (ports : Ports) (new : Device) (port : Port) → old.abstract.ports ≡ ports_of s → ports.state port ≢ ReadyState
      → LosesNoPortError evidence old ports new port
  never_troubled evidence old ports new port were now = record {
    ready_errors_are_handled_or_shown = λ ready. absurd (never_ready port.0 (ap (λ (p : Ports). p.state port) (sym were) ∙ ready));
    changes_are_handled_or_shown_unless_dead = λ tends. absurd (never_tended port (subst (λ (p : Ports). IsServedAndNotDead p port) were tends));
    ready_shows_fault_since_start = λ ready. absurd (now ready);
    ready_shows_fatal_since_start = λ ready. absurd (now ready);
    ready_shows_plug_event_since_start = λ ready. absurd (now ready);
  }

  pub dead_fit : ((port : ℕ) → is_served (probe_result_of s.probe_results port) ≡ true → port < 4) → PortsWellFormed (ports_of s)
  dead_fit few = record {
    served_are_ports_0_to_3 = λ port its. few port.0 its;
    unserved_are_absent = λ port other. ⊎_elim (λ unserved. ap state_of unserved) (λ is. absurd (false≢true (sym other ∙ ap is_served is))) (either port.0);
    modes_are_valid = λ port ready. absurd (never_ready port.0 ready);
    causes_are_valid = λ port cause unfit. ⊎_elim
        (λ unserved. absurd (let z : Absent ≡ Unfit cause = sym (ap state_of unserved) ∙ unfit in cc))
        (λ is. absurd (let z : Dead ≡ Unfit cause = sym (ap state_of is) ∙ unfit in cc))
        (either port.0);
  }

-- ---- an instant

module _ (s : ServerState) (b : ServerInvariant s) (dead : ServedPortsAreDead s.probe_results) (off : IsOn s.device → ⊥) (m : Machine) (is : MachineRelation s m) where
  abbrev slots : DriverSlots
  slots = record { slot_states = is.uses; awaiting_disposition = is.awaiting_disposition }

  abbrev instant : JointState Device
  instant = record { device = s.device; abstract = record { machine = m; ports = ports_of s } }

  abbrev HoldsAs : Port → ProbeResult → Type 0
  HoldsAs port f = PortStateInvariant (wanted_of s.wanted port.0) slots instant port (is_served f) (state_of f)

  nobody_waits : (port : Port) → probe_result_of s.probe_results port.0 ≡ Unserved → HasNoUnanswered m port
  nobody_waits port unserved e here own =
      let a = at_right EntryRelation s.book m.book is.book e here in
      let its = All-contains (λ (x : BookEntry). is_served (probe_result_of s.probe_results x.request.port.0) ≡ true) s.book a.0 b.requests_are_of_served_ports a.1 in
      false≢true (sym (ap is_served unserved) ∙ ap (λ (q : Port). is_served (probe_result_of s.probe_results q.0)) (sym own ∙ a.2.port) ∙ its)

  of_unserved : (port : Port) → port.0 < 4 → probe_result_of s.probe_results port.0 ≡ Unserved → HoldsAs port (probe_result_of s.probe_results port.0)
  of_unserved port low unserved =
      let alive : probe_result_of s.probe_results port.0 ≢ Unready Dead = λ is_dead. let z : Unserved ≡ Unready Dead = sym unserved ∙ is_dead in cc in
      subst (HoldsAs port) (sym unserved) (record {
        state_is_absent = ap state_of unserved;
        port_is_idle = b.unserved_are_idle port.0 low unserved;
        has_nothing_in_slots = record { all_are_free = λ slot. is.slot_states_agree_unless_dead port.0 slot alive ∙ ap slot_state_of_use (b.unserved_use_no_slot port.0 slot unserved); none_is_parked = is.only_dead_ports_park port.0 alive };
        has_no_unanswered = nobody_waits port unserved;
        none_is_quarantined = none_kept s m port is alive;
      })

  of_dead : (port : Port) → probe_result_of s.probe_results port.0 ≡ Unready Dead → HoldsAs port (probe_result_of s.probe_results port.0)
  of_dead port is_dead = subst (HoldsAs port) (sym is_dead) (record { is_backed_or_off = inr off; has_no_unanswered = λ on. absurd (off on) })

  holds_with_off : DriverInvariantWith s.wanted slots instant
  holds_with_off = record {
    driver_relation = is.driver_relation;
    served_iff_wanted_and_there = λ port low. b.served_iff_wanted_and_there port.0 low;
    is_on_or_served_are_dead = inr (λ port its. ap state_of (dead port.0 its));
    ports_hold = λ port low. ⊎_elim (of_unserved port low) (of_dead port) (either s dead port.0);
  }

pub holds_off : (s : ServerState) → ServerInvariant s → ServedPortsAreDead s.probe_results → (IsOn s.device → ⊥) → IsHolding s
holds_off s b dead off m reached is = (slots s b dead off m is, holds_with_off s b dead off m is)

-- ---- what accesses leave

-- an access that touches no register of a port: GHC is read or written, or bytes are loaded or stored
abbrev pub OnlyDeviceChangesPorts : Access → Type 0
OnlyDeviceChangesPorts (Reading Ghc v) = Unit {0}
OnlyDeviceChangesPorts (Writing Ghc v) = Unit {0}
OnlyDeviceChangesPorts (Loading at bytes) = Unit {0}
OnlyDeviceChangesPorts (Storing at bytes) = Unit {0}
OnlyDeviceChangesPorts access = ⊥

module _ (laws : PrerequisiteLaws) where
  pub steps_idle : (old new : Device) → Steps old new → (port : ℕ) → IsIdlePort (old.port port) → IsIdlePort (new.port port)
  steps_idle old new steps port idle =
      let keeps = (laws.steps_and_accesses.steps_keep_adapter_and_notes old new steps).port_bits_only_fall port in
      record {
        st_is_clear = keeps.st_stays_clear idle.st_is_clear;
        cr_is_clear = keeps.cr_stays_clear idle.cr_is_clear;
        fre_is_clear = keeps.fre_stays_clear idle.fre_is_clear;
        fr_is_clear = keeps.fr_stays_clear idle.fr_is_clear;
        ci_is_clear = λ slot. keeps.ci_stays_clear slot (idle.ci_is_clear slot);
        sact_is_clear = λ slot. keeps.sact_stays_clear slot (idle.sact_is_clear slot);
        none_is_taken = keeps.none_stays_taken_while_cr_is_clear idle.cr_is_clear idle.none_is_taken;
      }

  pub access_idle : (access : Access) → OnlyDeviceChangesPorts access → (old new : Device) → Does access old new → (port : ℕ) → IsIdlePort (old.port port) → IsIdlePort (new.port port)
  access_idle (Reading Ghc v) its old new does port idle = subst (λ (d : Device). IsIdlePort (d.port port)) (sym does.effect) (steps_idle old does.at_access does.steps port idle)
  access_idle (Writing Ghc v) its old new does port idle = subst (λ (d : Device). IsIdlePort (d.port port)) (sym does.effect) (steps_idle old does.at_access does.steps port idle)
  access_idle (Loading at bytes) its old new does port idle = steps_idle old new does.steps port idle
  access_idle (Storing at bytes) its old new does port idle = subst (λ (d : Device). IsIdlePort (d.port port)) (sym does.effect) (steps_idle old does.at_access does.steps port idle)
  access_idle (Reading r v) its old new does port idle = absurd its
  access_idle (Writing r v) its old new does port idle = absurd its

  pub accesses_idle : (accesses : List Access) → All OnlyDeviceChangesPorts accesses → (old new : Device) → DoesAll accesses old new → (port : ℕ) → IsIdlePort (old.port port) → IsIdlePort (new.port port)
  accesses_idle [] its old new same port idle = subst (λ (d : Device). IsIdlePort (d.port port)) (sym same) idle
  accesses_idle (access ∷ accesses) its old new (mid, does, more) port idle =
      accesses_idle accesses (All-tail OnlyDeviceChangesPorts access accesses its) mid new more port (access_idle access (All-head OnlyDeviceChangesPorts access accesses its) old mid does port idle)

  pub steps_same : (old new : Device) → Steps old new → SameAdapter old new
  steps_same old new steps = let keeps = laws.steps_and_accesses.steps_keep_adapter_and_notes old new steps in record { disks_tell_sectors = keeps.disks_tell_sectors_is_kept; memory_size = keeps.memory_size_is_kept; cap = keeps.cap_is_kept; pi = keeps.pi_is_kept }

-- ---- the server with another device

pub booked_on : (s : ServerState) (new : Device) → ServerInvariant s → SameAdapter s.device new → ((port : ℕ) → IsIdlePort (s.device.port port) → IsIdlePort (new.port port))
    → (m : Machine) → IsReachable m → MachineRelation (record s { device = new }) m → ServerInvariant (record s { device = new })
booked_on s new b same idle m reached is = record {
  driver_memory_fits = subst (λ (n : ℕ). DRIVER_BYTES ≤ n) (sym same.memory_size) b.driver_memory_fits;
  served_iff_wanted_and_there = λ port low.
      let was = b.served_iff_wanted_and_there port low in
      ((λ its. let w = was.0 its in (w.0, ap (λ (pi : ℕ). bit pi port) same.pi ∙ w.1)), (λ w. was.1 (w.0, ap (λ (pi : ℕ). bit pi port) (sym same.pi) ∙ w.1)));
  served_are_below_4 = b.served_are_below_4;
  unserved_are_idle = λ port low unserved. idle port (b.unserved_are_idle port low unserved);
  unserved_use_no_slot = b.unserved_use_no_slot;
  slots_are_of_four_ports = b.slots_are_of_four_ports;
  modes_are_of_four_ports = b.modes_are_of_four_ports;
  remembered_is_of_four_ports = b.remembered_is_of_four_ports;
  kept_loans_are_of_four_ports = b.kept_loans_are_of_four_ports;
  kept_loans_have_room = b.kept_loans_have_room;
  rows_are_valid = b.rows_are_valid;
  owned_frames_are_clients = λ frame client own. let o = b.owned_frames_are_clients frame client own in (o.0, subst (λ (n : ℕ). 4096 * frame.0 + 4096 ≤ n) (sym same.memory_size) o.1);
  entries_are_well_formed = b.entries_are_well_formed;
  book_is_well_formed = b.book_is_well_formed;
  revoked_marks_agree = b.revoked_marks_agree;
  ids_were_handed_out = b.ids_were_handed_out;
  requests_are_of_served_ports = b.requests_are_of_served_ports;
  machine = m;
  reached = reached;
  machine_relation = is;
}

-- ---- the server with other requests

pub booked_then : (s : ServerState) (grants : List GrantRow) (table : OwnersAndLoans) (kept : List (List Lending)) (book : List BookEntry) → ServerInvariant s → All IsValidRow grants → table.owners ≡ s.table.owners → length kept ≡ 4
    → ((port : Port) → length (quarantined_at kept port.0) + count_by (λ (e : BookEntry). e.request.issued) (requests_of port book) ≤ 32) → All (IsWellFormedEntry table) book → BookIsWellFormed book → All (RevokedMarkInvariant grants) book
    → All (λ e. e.request.id.0 ≤ s.last_id) book → All (λ e. is_served (probe_result_of s.probe_results e.request.port.0) ≡ true) book → (m : Machine) → IsReachable m → MachineRelation (record s { grants = grants; table = table; kept_loans = kept; book = book }) m
    → ServerInvariant (record s { grants = grants; table = table; kept_loans = kept; book = book })
booked_then s grants table kept book b rows owners four places accepted ordered marked handed_out asked m reached is = record {
  driver_memory_fits = b.driver_memory_fits;
  served_iff_wanted_and_there = b.served_iff_wanted_and_there;
  served_are_below_4 = b.served_are_below_4;
  unserved_are_idle = b.unserved_are_idle;
  unserved_use_no_slot = b.unserved_use_no_slot;
  slots_are_of_four_ports = b.slots_are_of_four_ports;
  modes_are_of_four_ports = b.modes_are_of_four_ports;
  remembered_is_of_four_ports = b.remembered_is_of_four_ports;
  kept_loans_are_of_four_ports = four;
  kept_loans_have_room = places;
  rows_are_valid = rows;
  owned_frames_are_clients = λ frame client own. b.owned_frames_are_clients frame client (ap (λ (list : List (Option ClientId)). get_or list frame.0 None) (sym owners) ∙ own);
  entries_are_well_formed = accepted;
  book_is_well_formed = ordered;
  revoked_marks_agree = marked;
  ids_were_handed_out = handed_out;
  requests_are_of_served_ports = asked;
  machine = m;
  reached = reached;
  machine_relation = is;
}
