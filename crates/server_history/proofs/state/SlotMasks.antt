-- What the masks show of a slot whose command is over, and of one whose bytes say a request still that another slot serves.
use Rattle.std.proofs.Common.{ℕ, ◌≡◌, ◌≢◌, true, Some, None, sym, ap, ◌∙◌, subst, inl, inr, ⊎_elim}
use Rattle.std.specs.List.{Contains}
use Rattle.std.proofs.lemmas.Bool.{false≢true}
use Rattle.ata_types.specs.declared.PortState.TheVariants.{Ready as ReadyState}
use Rattle.ata_types.specs.declared.request.RequestId.{RequestId}
use Rattle.refinement.specs.Slots.{IsEmptySlot, RelatesSlot, Serves, ServesRequest, IsInSomeStage, SlotState}
use Rattle.block_machine.specs.Histories.{IsReachable}
use Rattle.block_machine.specs.State.{Machine, Pending}
use Rattle.host_boot.specs.TakeOver.{probe_result_of}
use Rattle.slots.specs.declared.SlotUse.{SlotUse}
use Rattle.server_history.specs.Prerequisites.{PrerequisiteLaws}
use Rattle.server_history.specs.ServerState.{ServerState, InCallInvariant, MachineRelation, state_of, used_for}
use Rattle.server_history.proofs.state.SlotCommands.{one_said}
use Rattle.server_history.proofs.state.PortSlots.{free_unused, ready_found, serves_used, still_booked, used_or_not}

-- ---- bytes of another slot

-- Where a slot of a ready port serves a request, bytes of another slot may say its command still: then it has ended, and that slot isn't used.
module _ (laws : PrerequisiteLaws) (s : ServerState) (k : InCallInvariant s) (m : Machine) (reached : IsReachable m) (is : MachineRelation s m) (n : ℕ) (ready : state_of (probe_result_of s.probe_results n) ≡ ReadyState) (e : Pending) (here : Contains m.book e)
    (its : ℕ) (used : SlotUse) (used_is : used_for s.slots n its ≡ Some used) (id_is : used.id ≡ e.request.id) (slot : ℕ) (apart : slot ≢ its)
    (says : ServesRequest m s.device.memory (s.device.port n) n slot e.request.id) where
  pub unused : used_for s.slots n slot ≡ None
  unused = ⊎_elim
      (λ (y : (u : SlotUse) × (used_for s.slots n slot ≡ Some u)).
      let same : e.request.id ≡ y.0.id = one_said laws s k m is n slot y.0 e.request.id ready y.1 says in
      let there = serves_used s m n is ready slot y.0 y.1 ∙ ap Serves (sym same) in
      let own = serves_used s m n is ready its used used_is ∙ ap Serves id_is in
      absurd (apart (is.driver_relation.state_relation.serve_distinct_requests n slot n its e.request.id there own).1))
      (λ none. none)
      (used_or_not (used_for s.slots n slot))

  pub is_free : IsEmptySlot (s.device.port n) slot
  is_free = subst (λ (u : SlotState). RelatesSlot m s.device.memory s.device.tape (s.device.port n) n slot u) (free_unused s m n is ready slot unused) (is.driver_relation.state_relation.relates_slots n slot)

  pub has_ended : e.ended ≡ true
  has_ended = ap (λ (y : Pending). y.ended) (sym same) ∙ by says.stage
    where
      same : says.pending ≡ e
      same = laws.steps_and_accesses.an_id_is_one_request m reached says.pending e (still_booked s m n is ready says.pending says.may_still_move says.port_is).0 here (ap (λ (i : RequestId). i.0) says.id_is)

      by : IsInSomeStage s.device.memory (s.device.port n) n slot says.pending says.command says.places → says.pending.ended ≡ true
      by (inl waits) = absurd (false≢true (sym is_free.is_not_issued ∙ waits.issued))
      by (inr (inl taken)) = let z : None ≡ Some taken.command = sym is_free.is_not_taken ∙ taken.taken in absurd cc
      by (inr (inr (inl ended))) = ended.ended
      by (inr (inr (inr dropped))) = absurd (false≢true (sym dropped.st_is_clear ∙ ((k.port_invariant n (ready_found s n k ready).0).ready_engine_runs ready).st_is_set))
