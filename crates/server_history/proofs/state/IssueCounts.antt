-- A ready port has as many requests issued as slots.
use Rattle.std.proofs.Common.{ℕ, zero, suc, ◌≡◌, ◌≢◌, ◌≤◌, ◌+◌, ◌==◌, ◌&&◌, Bool, true, false, cond, if◌then◌else◌, List, [], ◌∷◌, refl, sym, ap, ◌∙◌, subst, arith, le_refl}
use Rattle.std.specs.Prelude.{count_by}
use Rattle.std.proofs.lemmas.List.Sums.{sum_by-cons}
use Rattle.ata_types.specs.declared.Port.{Port}
use Rattle.ata_types.specs.declared.PortState.TheVariants.{Dead, Ready as ReadyState}
use Rattle.ata_types.specs.declared.request.RequestId.{RequestId}
use Rattle.refinement.specs.Relation.{HaveSlotsUnlessParked}
use Rattle.refinement.specs.Slots.{SlotStates, is_serving, serving_count}
use Rattle.block_machine.specs.DueRequests.{issued_count}
use Rattle.block_machine.specs.declared.due.Unanswered.{Unanswered}
use Rattle.host_boot.specs.TakeOver.{probe_result_of}
use Rattle.host_boot.specs.declared.ProbeResult.TheVariants.{Unready}
use Rattle.request_queue.specs.BookEntries.{BookEntry, as_unanswered, unanswered_of, is_of_port}
use Rattle.server_history.specs.Prerequisites.{PrerequisiteLaws}
use Rattle.server_history.specs.ErrorHandling.{requests_of}
use Rattle.server_history.specs.ServerState.{ServerState, InCallInvariant, quarantined_at, state_of}
use Rattle.server_history.proofs.state.DueRequests.{same_book}
use Rattle.server_history.proofs.state.Quarantine.{none_alive}
use Rattle.server_history.proofs.state.PortSlots.{none_kept, not_dead, used_serves, used_small}

few_serve : (uses : SlotStates) (port n : ℕ) → serving_count uses port n ≤ n
few_serve uses port zero = le_refl 0
few_serve uses port (suc n) = by (is_serving (uses port n)) (few_serve uses port n)
  where
    by : (b : Bool) → serving_count uses port n ≤ n → (if b then suc (serving_count uses port n) else serving_count uses port n) ≤ suc n
    by true few = omega (arith, few)
    by false few = omega (arith, few)

-- those that are issued of the port's, and those of the port that are issued
same_count : (port : Port) (book : List BookEntry) → count_by (λ (e : BookEntry). e.request.issued) (requests_of port book) ≡ issued_count (unanswered_of book) port
same_count port [] = refl
same_count port (e ∷ book) = by (is_of_port port e.request) (same_count port book) ∙ sym (sum_by-cons (λ (u : Unanswered). cond (u.port.0 == port.0 && u.issued) 1 0) (as_unanswered e.request) (unanswered_of book))
  where
    by : (own : Bool) → count_by (λ (x : BookEntry). x.request.issued) (requests_of port book) ≡ issued_count (unanswered_of book) port
        → count_by (λ (x : BookEntry). x.request.issued) (cond own (e ∷ requests_of port book) (requests_of port book)) ≡ cond (own && e.request.issued) 1 0 + issued_count (unanswered_of book) port
    by true same = sum_by-cons (λ (x : BookEntry). cond x.request.issued 1 0) e (requests_of port book) ∙ ap (λ (n : ℕ). cond e.request.issued 1 0 + n) same
    by false same = omega (arith, same)

pub places : PrerequisiteLaws → (s : ServerState) (port : Port) → InCallInvariant s → state_of (probe_result_of s.probe_results port.0) ≡ ReadyState
    → (quarantined_at s.kept_loans port.0 ≡ []) × (count_by (λ (e : BookEntry). e.request.issued) (requests_of port s.book) ≤ 32)
places laws s port k ready = (none_alive s k port.0 alive (quarantined_at s.kept_loans port.0) refl, subst (λ (n : ℕ). n ≤ 32) (sym counts) (few_serve k.machine_relation.uses port.0 32))
  where
    alive : probe_result_of s.probe_results port.0 ≢ Unready Dead
    alive = not_dead s port.0 ready

    counts : count_by (λ (e : BookEntry). e.request.issued) (requests_of port s.book) ≡ serving_count k.machine_relation.uses port.0 32
    counts =
        same_count port s.book ∙ ap (λ (us : List Unanswered). issued_count us port) (sym (same_book s.book k.machine.book k.machine_relation.book))
        ∙ sym (laws.recovery.serving_slots_are_issued_count k.machine_relation.uses k.machine s.device k.reached k.machine_relation.driver_relation.state_relation port (none_kept s k.machine port k.machine_relation alive) 32
        (subst (λ (ids : List RequestId). HaveSlotsUnlessParked k.machine_relation.uses k.machine port.0 ids) (k.machine_relation.only_dead_ports_park port.0 alive) (k.machine_relation.driver_relation.have_slots_unless_parked port.0))
        (λ slot id serves. let u = used_serves s k.machine port.0 k.machine_relation ready slot id serves in used_small s port.0 slot u.0 k ready u.1))
