-- A ready port that a look tells a failure of may be recovered.
use Rattle.std.proofs.Common.{ℕ, ◌≡◌, ◌≢◌, ◌<◌, ◌%◌, Bool, true, false, None, Some, sym, ap, ◌∙◌, subst, ⊎_elim}
use Rattle.std.proofs.lemmas.Bool.{cases_Bool, cases_eq}
use Rattle.ata_types.specs.declared.Port.{Port}
use Rattle.ata_types.specs.declared.PortState.TheVariants.{Ready as ReadyState}
use Rattle.hba_regs.specs.declared.reg.Reg.TheVariants.{Px}
use Rattle.hba_regs.specs.declared.reg.PortReg.TheVariants.{Ci, Sact}
use Rattle.adapter.specs.Access.Access.{Reading}
use Rattle.adapter.specs.Device.{Device}
use Rattle.adapter.specs.Rules.{IsOn}
use Rattle.refinement.specs.Fragments.{SomeMachineAgreesWith, AnySlotStates, IsSimulated}
use Rattle.refinement.specs.PortFacts.{IsHaltedByPlainOrQueued}
use Rattle.error_recovery.specs.Recovery.{PlainUsesSlot0, PlainIsSlot0, PortMayRecover}
use Rattle.driver_history.specs.PortInvariants.{EngineRuns}
use Rattle.host_boot.specs.TakeOver.{StillBacksProbeResult, probe_result_of, wanted_of}
use Rattle.host_boot.specs.declared.ProbeResult.{ProbeResult}
use Rattle.ncq.specs.Masks.{ReadsDone}
use Rattle.port_control.specs.PortEvents.{IsPxisSstsOrOwnIsAccess, TakesEvent}
use Rattle.port_control.specs.declared.events.PortEvent.TheVariants.{TaskFileError}
use Rattle.slots.specs.declared.SlotUse.{SlotUse}
use Rattle.server_history.specs.Prerequisites.{PrerequisiteLaws}
use Rattle.server_history.specs.ServerState.{ServerState, InCallInvariant, IsLoneSlot0, slots_at, state_of, used_for}
use Rattle.server_history.specs.ErrorHandling.{AreAllQueuedAs}
use Rattle.server_history.specs.IssuingAndAnswering.{IsMaskOf}
use Rattle.server_history.proofs.plain_calls.Looks.{finding_kept, looking_kept}
use Rattle.server_history.proofs.state.TransferAccesses.{both_read}
use Rattle.server_history.proofs.state.PortSlots.{busy_used, free_unused, ready_found, used_or_not}

-- COMRESET isn't being sent
released : (s : ServerState) (port : Port) → InCallInvariant s → state_of (probe_result_of s.probe_results port.0) ≡ ReadyState → (s.device.port port.0).sctl_det ≡ 0
released s port k ready =
    let r = ready_found s port.0 k ready in
    (subst (λ (f : ProbeResult). StillBacksProbeResult (wanted_of s.wanted port.0) f port.0 s.device) r.1.1 (k.port_invariant port.0 r.0).probe_result_is_backed).1.no_comreset

module _ (laws : PrerequisiteLaws) (s : ServerState) (seen found : Device) (port : Port) (mask done : ℕ) (k : InCallInvariant s) (ready : state_of (probe_result_of s.probe_results port.0) ≡ ReadyState)
    (l : TakesEvent port TaskFileError s.device seen) (looks : IsSimulated (IsPxisSstsOrOwnIsAccess port) AnySlotStates s.device seen) (finds : ReadsDone port mask done seen found) where
  low : port.0 < 4
  low = (ready_found s port.0 k ready).0

  seen_kept : InCallInvariant (record s { device = seen })
  seen_kept = looking_kept s seen port k ready laws looks

  found_kept : InCallInvariant (record s { device = found })
  found_kept = finding_kept (record s { device = seen }) found port seen_kept ready laws mask done finds

  -- it runs, before and after
  was : EngineRuns port.0 s.device
  was = (k.port_invariant port.0 low).ready_engine_runs ready

  then_runs : EngineRuns port.0 seen
  then_runs = (seen_kept.port_invariant port.0 low).ready_engine_runs ready

  runs : EngineRuns port.0 found
  runs = (found_kept.port_invariant port.0 low).ready_engine_runs ready

  first : IsHaltedByPlainOrQueued (seen.port port.0).halt × ((seen.port port.0).notes.last_ssts % 16 ≡ 3)
  first = laws.look_laws.look_finds_fault_halted port s.device seen k.adapter_is_on l was.st_is_set (λ _. was.faults_are_recorded)

  halted : IsHaltedByPlainOrQueued (found.port port.0).halt × ((found.port port.0).notes.last_ssts % 16 ≡ 3)
  halted =
      let r = both_read port mask done seen found finds in
      let mid = r.0 in
      let access = Reading (Px port Ci) finds.issued in
      let a = laws.look_laws.reading_keeps_fault_halted port Ci finds.issued seen mid seen_kept.adapter_is_on r.1 (λ e. absurd cc) then_runs.st_is_set (λ _. then_runs.faults_are_recorded) first.0 in
      let on : IsOn mid = laws.port_event_laws.access_keeps_on access seen mid seen_kept.adapter_is_on (λ v e. absurd cc) r.1 in
      let st = ((laws.port_event_laws.access_controls port access seen mid seen_kept.adapter_is_on.no_reset r.1).command tt).0 ∙ then_runs.st_is_set in
      let recorded = laws.port_event_laws.access_keeps_fault_record port access seen mid tt tt r.1 (λ _. then_runs.faults_are_recorded) in
      let b = laws.look_laws.reading_keeps_fault_halted port Sact finds.active mid found on r.2 (λ e. absurd cc) st recorded a.0 in
      (b.0, ap (λ (n : ℕ). n % 16) (b.1 ∙ a.1) ∙ first.1)

  pub may_recover : PortMayRecover port.0 found
  may_recover = record {
    st_is_set = runs.st_is_set;
    cr_is_set = runs.cr_is_set;
    fre_is_set = runs.fre_is_set;
    areas_are_in_place = runs.bases_are_programmed;
    no_comreset = released (record s { device = found }) port found_kept ready;
    link_was_seen = halted.1;
    faults_are_on_record = runs.faults_are_recorded;
    halted = halted.0;
  }

-- of plain commands a port has one alone
pub fits_for : (s : ServerState) (port : Port) (queued : Bool) (k : InCallInvariant s) → state_of (probe_result_of s.probe_results port.0) ≡ ReadyState
    → ((slot : ℕ) (used : SlotUse) → used_for s.slots port.0 slot ≡ Some used → used.queued ≡ queued) → SomeMachineAgreesWith (PlainUsesSlot0 queued port.0) s.device
fits_for s port queued k ready kinds = (
  k.machine_relation.uses,
  (λ plain slot other. ⊎_elim
      (λ x. absurd (other (k.plain_is_alone_in_slot_0 port.0 slot x.0 x.1 (kinds slot x.0 x.1 ∙ plain)).0))
      (λ none. free_unused s k.machine port.0 k.machine_relation ready slot none)
      (used_or_not (used_for s.slots port.0 slot))),
  record { machine = k.machine; parked = k.machine_relation.awaiting_disposition; reached = k.reached; driver_relation = k.machine_relation.driver_relation },
)

-- where a slot has a plain command, so it is of each used one
one_plain : (s : ServerState) (port slot other : ℕ) (used its : SlotUse) → InCallInvariant s → used_for s.slots port slot ≡ Some used → used_for s.slots port other ≡ Some its → used.queued ≡ false → its ≡ used
one_plain s port slot other used its k is there plain = ⊎_elim
    (λ (same : other ≡ 0).
    let z : Some its ≡ Some used = sym there ∙ ap (used_for s.slots port) (same ∙ sym alone.0) ∙ is in
    let e : its ≡ used = cc in e)
    (λ (ne : other ≢ 0). let z : None ≡ Some its = sym (alone.1 other ne) ∙ there in absurd cc)
    (cases_eq other 0)
  where
    alone : IsLoneSlot0 s.slots port slot
    alone = k.plain_is_alone_in_slot_0 port slot used is plain

-- the used slots of a port have queued commands, or plain ones
pub are_alike : (s : ServerState) (port : Port) (slot : ℕ) (used : SlotUse) → InCallInvariant s → used_for s.slots port.0 slot ≡ Some used → AreAllQueuedAs used.queued (slots_at s.slots port.0)
are_alike s port slot used k is other its there = ⊎_elim
    (λ (queued : used.queued ≡ true). ⊎_elim
    (λ (so : its.queued ≡ true). so ∙ sym queued)
    (λ (plain : its.queued ≡ false). ap (λ (u : SlotUse). u.queued) (sym (one_plain s port.0 other slot its used k there is plain)))
    (cases_Bool its.queued))
    (λ (plain : used.queued ≡ false). ap (λ (u : SlotUse). u.queued) (one_plain s port.0 slot other used its k is there plain))
    (cases_Bool used.queued)

-- of plain ones it is slot 0 alone
pub is_alone : (s : ServerState) (port : Port) (queued : Bool) (outstanding : ℕ) → InCallInvariant s → IsMaskOf (slots_at s.slots port.0) outstanding → AreAllQueuedAs queued (slots_at s.slots port.0)
    → PlainIsSlot0 queued outstanding
is_alone s port queued outstanding k its alike plain slot small is =
    let used = busy_used (used_for s.slots port.0 slot) (sym (its slot small) ∙ is) in
    (k.plain_is_alone_in_slot_0 port.0 slot used.0 used.1 (alike slot used.0 used.1 ∙ plain)).0
