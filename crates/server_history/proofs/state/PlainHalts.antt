-- A port that is recovered with plain commands outstanding has worked on plain commands alone, where a halt is of a command that is taken still.
use Rattle.std.proofs.Common.{ℕ, ◌≡◌, ◌&&◌, Bool, true, false, List, Some, None, refl, sym, ap, ◌∙◌, subst, inl, inr, ⊎_elim}
use Rattle.std.specs.List.{All}
use Rattle.std.proofs.lemmas.Bool.{false≢true}
use Rattle.std.proofs.lemmas.List.Elements.{All-weaker}
use Rattle.ata_types.specs.declared.Port.{Port}
use Rattle.ata_types.specs.declared.PortState.TheVariants.{Ready as ReadyState}
use Rattle.hba_regs.specs.declared.reg.PortReg.TheVariants.{Cmd}
use Rattle.hba_regs.specs.declared.reg.Reg.TheVariants.{Px}
use Rattle.adapter.specs.Commands.{Meaning, is_queued}
use Rattle.adapter.specs.Access.{Access}
use Rattle.adapter.specs.Device.{Device, Halt, DevicePort, FetchedCommand}
use Rattle.adapter.specs.Device.Halt.{HaltedByPlain, HaltedByQueued, LogOnly, NotHalted}
use Rattle.adapter.specs.Steps.{halt_after_start}
use Rattle.refinement.specs.Acts.{DriverSlots, driver_state_of_slots}
use Rattle.refinement.specs.Fragments.{AnySlotStates, IsSimulated}
use Rattle.refinement.specs.Halting.{HaltFitsTakenCommands, HaltFitsTakenCommandsIfSt}
use Rattle.refinement.specs.PreservedParts.{DoesNotWrite}
use Rattle.refinement.specs.HaltRecovery.{WorksOnUnqueuedCommandsOnly}
use Rattle.refinement.specs.Slots.{IsEmptySlot, RelatesSlot, IsInSomeStage, SlotState}
use Rattle.block_machine.specs.State.{Pending}
use Rattle.error_recovery.specs.Recovery.{RunsAgain}
use Rattle.host_boot.specs.TakeOver.{probe_result_of}
use Rattle.server_history.specs.Prerequisites.{PrerequisiteLaws}
use Rattle.server_history.specs.ErrorHandling.{AreAllQueuedAs}
use Rattle.server_history.specs.ServerState.{ServerState, InCallInvariant, slots_at, state_of, used_for}
use Rattle.server_history.proofs.state.PortSlots.{IsServedBy, free_unused, served_request, serves_used, used_or_not}
use Rattle.slots.specs.declared.SlotUse.{SlotUse}

and_false : (b : Bool) → b && false ≡ false
and_false true = refl
and_false false = refl

-- a plain request's command sets no bit of PxSACT, and is what is taken
plain_stage : (memory : ℕ → ℕ) (p : DevicePort) (port slot : ℕ) (e : Pending) (c : Meaning) (places : List ℕ) → IsInSomeStage memory p port slot e c places → is_queued c.operation ≡ false
    → (p.sact slot ≡ false) × ((t : FetchedCommand) → p.taken slot ≡ Some t → is_queued t.meaning.operation ≡ false)
plain_stage memory p port slot e c places (inl waits) plain = (waits.sact ∙ plain, λ t is. let z : None ≡ Some t = sym waits.is_not_taken ∙ is in absurd cc)
plain_stage memory p port slot e c places (inr (inl taken)) plain = (
  taken.sact ∙ ap (λ (b : Bool). p.st && b) plain ∙ and_false p.st,
  λ t is.
      let z : Some taken.command ≡ Some t = sym taken.taken ∙ is in
      let same : taken.command ≡ t = cc in
      ap (λ (y : FetchedCommand). is_queued y.meaning.operation) (sym same) ∙ ap (λ (m : Meaning). is_queued m.operation) taken.meaning ∙ plain,
)
plain_stage memory p port slot e c places (inr (inr (inl ended))) plain = (ended.sact_is_clear, λ t is. let z : None ≡ Some t = sym ended.is_not_taken ∙ is in absurd cc)
plain_stage memory p port slot e c places (inr (inr (inr dropped))) plain = (dropped.sact_is_clear, λ t is. let z : None ≡ Some t = sym dropped.is_not_taken ∙ is in absurd cc)

module _ (laws : PrerequisiteLaws) (s : ServerState) (k : InCallInvariant s) (port : Port) (ready : state_of (probe_result_of s.probe_results port.0) ≡ ReadyState) (alike : AreAllQueuedAs false (slots_at s.slots port.0)) where
  -- each slot is free, or has a plain command
  each : (slot : ℕ) → ((s.device.port port.0).sact slot ≡ false) × ((t : FetchedCommand) → (s.device.port port.0).taken slot ≡ Some t → is_queued t.meaning.operation ≡ false)
  each slot = ⊎_elim
      (λ (u : (used : SlotUse) × (used_for s.slots port.0 slot ≡ Some used)).
      let b : IsServedBy s k.machine port.0 slot u.0.id = served_request s k.machine port.0 slot k.machine_relation ready u.0.id (serves_used s k.machine port.0 k.machine_relation ready slot u.0 u.1) in
      let c = k.slots_store_commands port.0 slot u.0 u.1 in
      let one = (laws.slots.decoding_is_unique s.device.memory (s.device.port port.0).bases.clb slot b.serves.command c.command b.serves.places c.places b.serves.slot_decodes_to.decodes_to c.stored.slot_decodes_to.decodes_to).0 in
      plain_stage s.device.memory (s.device.port port.0) port.0 slot b.serves.pending b.serves.command b.serves.places b.serves.stage
      (ap (λ (y : Meaning). is_queued y.operation) one ∙ c.is_queued_as_given ∙ alike slot u.0 u.1))
      (λ none.
      let f : IsEmptySlot (s.device.port port.0) slot = subst (λ (u : SlotState). RelatesSlot k.machine s.device.memory s.device.tape (s.device.port port.0) port.0 slot u)
      (free_unused s k.machine port.0 k.machine_relation ready slot none) (k.machine_relation.driver_relation.state_relation.relates_slots port.0 slot) in
      (f.unarmed, λ t is. let z : None ≡ Some t = sym f.is_not_taken ∙ is in absurd cc))
      (used_or_not (used_for s.slots port.0 slot))

  pub plain_port_stays_plain : HaltFitsTakenCommands (s.device.port port.0) → WorksOnUnqueuedCommandsOnly (s.device.port port.0)
  plain_port_stays_plain h = record { start_ends_halt = by (s.device.port port.0).halt refl; unarmed = λ slot. (each slot).0; taken_are_plain = λ slot t is. (each slot).1 t is }
    where
      by : (halt : Halt) → (s.device.port port.0).halt ≡ halt → halt_after_start (s.device.port port.0).halt ≡ NotHalted
      by NotHalted is = ap halt_after_start is
      by HaltedByPlain is = ap halt_after_start is
      by HaltedByQueued is = let q = h.queued_is_taken is in absurd (false≢true (sym ((each q.0).1 q.1 q.2) ∙ q.3))
      by LogOnly is = absurd (h.is_not_log_only is)

-- ---- where a halt is of a taken command

-- so it stays over what was followed, without a write of PxCMD
pub followed_halts : PrerequisiteLaws → (port : Port) (May : Access → Type 0) (s : ServerState) (k : InCallInvariant s) (new : Device) → (f : IsSimulated May AnySlotStates s.device new) → ((access : Access) → May access → DoesNotWrite (Px port Cmd) access)
    → HaltFitsTakenCommandsIfSt (s.device.port port.0) → HaltFitsTakenCommandsIfSt (new.port port.0)
followed_halts laws port May s k new f spares h =
    let slots : DriverSlots = record { slot_states = k.machine_relation.uses; awaiting_disposition = k.machine_relation.awaiting_disposition } in
    let c = f.acts_reach slots k.machine k.reached k.machine_relation.driver_relation tt in
    laws.port_error.halt_of_taken_stays_over_acts port c.acts (driver_state_of_slots slots s.device) (driver_state_of_slots slots new) k.machine k.reached k.machine_relation.driver_relation c.acts_are_done
    (subst (All (DoesNotWrite (Px port Cmd))) (sym c.accesses_match_acts) (All-weaker May (DoesNotWrite (Px port Cmd)) spares f.is_driven.accesses f.is_driven.accesses_are_of_kind)) h

-- and so it is once a port was recovered
pub again_halts : PrerequisiteLaws → (queued : Bool) (port : ℕ) (old new : Device) → RunsAgain queued port old new → (queued ≡ false → WorksOnUnqueuedCommandsOnly (old.port port)) → HaltFitsTakenCommands (new.port port)
again_halts laws true port old new again plainly = laws.port_error.not_halted_fits_taken_commands (new.port port) (again.queued_halt_ends refl)
again_halts laws false port old new again plainly = laws.port_error.plain_port_halt_is_of_taken (new.port port) (again.plain_port_stays_plain refl (plainly refl))
