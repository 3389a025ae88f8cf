-- What the machine's book asks is what the server's asks, and what is due where nothing is issued.
use Rattle.std.proofs.Common.{◌≡◌, false, List, [], ◌∷◌, map, refl, sym, ap₂, ◌∙◌, subst}
use Rattle.std.specs.Prelude.{◌↔◌}
use Rattle.std.specs.List.{Contains, list_any}
use Rattle.std.proofs.lemmas.Bool.{cond-false, false≢true}
use Rattle.ata_types.specs.declared.Port.{Port}
use Rattle.ata_types.specs.declared.request.RequestId.{RequestId}
use Rattle.block_machine.specs.DueRequests.{IsDue, NoneDue}
use Rattle.block_machine.specs.Events.{IsIssuedIn, issues_id}
use Rattle.block_machine.specs.State.{Machine, Pending, unanswered}
use Rattle.block_machine.specs.Steps.{Step}
use Rattle.block_machine.specs.declared.due.QueueMode.{QueueMode}
use Rattle.block_machine.specs.declared.due.Unanswered.{Unanswered}
use Rattle.driver_history.specs.Histories.{IssuesDue, with_issue_undone}
use Rattle.request_queue.specs.BookEntries.{BookEntry, as_unanswered, unanswered_of}
use Rattle.request_queue.specs.BookRelation.{BookRelation, EntryRelation}
use Rattle.server_history.specs.ServerState.{ServerState, MachineRelation}

pub asked_alike : (e : BookEntry) (p : Pending) → EntryRelation e p → unanswered p ≡ as_unanswered e.request
asked_alike e p is = λ i. record { id = is.id i; port = is.port i; op = is.op i; range = is.range i; issued = is.issued i }

pub same_book : (book : List BookEntry) (pending : List Pending) → BookRelation book pending → map unanswered pending ≡ unanswered_of book
same_book [] [] all = refl
same_book [] (p ∷ pending) all = absurd all
same_book (e ∷ book) [] all = absurd all
same_book (e ∷ book) (p ∷ pending) all = ap₂ (λ (u : Unanswered) (us : List Unanswered). u ∷ us) (asked_alike e p all.0) (same_book book pending all.1)

-- where the server has nothing due, the machine has nothing
pub none_due : (s : ServerState) (m : Machine) → MachineRelation s m → (mode : QueueMode) (port : Port) → NoneDue mode (unanswered_of s.book) port → NoneDue mode (map unanswered m.book) port
none_due s m is mode port none = subst (λ (us : List Unanswered). NoneDue mode us port) (sym (same_book s.book m.book is.book)) none

-- Steps that issue nothing issue what is due, where nothing is.
pub none_issued : (s : ServerState) (m : Machine) → MachineRelation s m → (steps : List Step) → ((id : RequestId) → list_any (issues_id id) steps ≡ false) → (mode : QueueMode) (port : Port) → NoneDue mode (unanswered_of s.book) port
    → IssuesDue mode steps m port
none_issued s m is steps issues mode port none =
    subst (λ (us : List Unanswered). (r : Unanswered) → Contains us r → r.port ≡ port → IsIssuedIn r.id steps ↔ IsDue mode us r) (sym (unmarked (map unanswered m.book)))
    (λ r here own. ((λ issued. absurd (false≢true (sym (issues r.id) ∙ issued))), (λ due. absurd (none_due s m is mode port none r own due))))
  where
    unmarked : (us : List Unanswered) → with_issue_undone steps us ≡ us
    unmarked [] = refl
    unmarked (u ∷ us) = ap₂ (λ (x : Unanswered) (xs : List Unanswered). x ∷ xs) (cond-false (list_any (issues_id u.id) steps) (record u { issued = false }) u (issues u.id)) (unmarked us)
