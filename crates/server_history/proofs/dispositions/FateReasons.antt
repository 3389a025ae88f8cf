-- Why a request has its fate, what fates leave of the book, and steps that decide.
use Rattle.std.proofs.Common.{ℕ, ◌≡◌, ◌≢◌, ◌⊎◌, ◌==◌, Bool, true, false, eq-eqb, eqb-true, if◌then◌else◌, List, [], ◌∷◌, Option, Some, None, inl, inr, refl, sym, ap, ◌∙◌, subst, ⊎_elim}
use Rattle.std.specs.List.{All, Contains, list_any}
use Rattle.std.proofs.lemmas.Bool.{or_left, or_right}
use Rattle.std.proofs.lemmas.List.Elements.{All-head, All-tail, All-weaker}
use Rattle.ata_types.specs.declared.Port.{Port}
use Rattle.ata_types.specs.declared.PortState.TheVariants.{Ready as ReadyState}
use Rattle.ata_types.specs.declared.request.Outcome.{Outcome}
use Rattle.ata_types.specs.declared.request.Outcome.TheVariants as outcome
use Rattle.ata_types.specs.declared.request.Reply.{Reply}
use Rattle.ata_types.specs.declared.request.RequestId.{RequestId}
use Rattle.adapter.specs.declared.access.DeviceStep.{DeviceStep}
use Rattle.block_machine.specs.Events.{AnswersLawfulAndWaitsOnStoppedPorts, AreStepsOfCall, IsNeitherOkNorDeviceError, IsByDevice, IsIssuedIn, IsLawfulAnswer, IsByServer, AbstractState, Service, Tick, issues_id}
use Rattle.block_machine.specs.Ports.{Evidence, Ports}
use Rattle.block_machine.specs.State.{Pending}
use Rattle.block_machine.specs.Steps.{Step, WaitAgain, Answer, Issue}
use Rattle.block_machine.specs.declared.due.QueueMode.{QueueMode}
use Rattle.driver_history.specs.EvidenceHandling.{OnlyPortsShowingErrorRequeueAbortRevokeFault}
use Rattle.server_history.proofs.state.ListMembers.{contains_cases, contains_there}
use Rattle.request_queue.specs.BookEntries.{BookEntry}
use Rattle.request_queue.specs.Dispositions.{BookAndLoans, AreResolved, IsResolved, disposition_of, disposition_of_unfailed}
use Rattle.request_queue.specs.declared.PendingRequest.{PendingRequest}
use Rattle.request_queue.specs.declared.disposition.FailedRequest.{FailedRequest}
use Rattle.request_queue.specs.declared.disposition.Disposition.{Disposition}
use Rattle.request_queue.specs.declared.disposition.Disposition.TheVariants.{Complete, Requeue, Wait}
use Rattle.request_queue.specs.declared.disposition.Revalidation.{Revalidation}
use Rattle.request_queue.specs.declared.disposition.Revalidation.TheVariants.{SameDisk, DiskLost, Dead as NoEnd}
use Rattle.server_history.specs.Prerequisites.{PrerequisiteLaws}
use Rattle.server_history.specs.ResolvedRequests.{IsResolveStep}
use Rattle.server_history.specs.IssuingAndAnswering.{AnswersEach, AllByDeviceOrIssue}
use Rattle.server_history.specs.ServerState.{ServerState}
use Rattle.server_history.specs.Turns.{IsTurnOrDeviceStep}
use Rattle.server_history.proofs.state.FirstMembers.{nowhere, first_here}

-- ---- why

-- it failed; or it was issued four times, its disk is another one, its port is dead, or its grant was revoked
abbrev pub Why : Option FailedRequest → Revalidation → PendingRequest → Outcome → Type 0
Why failed revalidation e o =
    ((its : FailedRequest) × (failed ≡ Some its) × (its.id.0 ≡ e.id.0) × (o ≡ outcome.DeviceError its.status its.error))
    ⊎ (((revalidation ≡ SameDisk) × (e.issued ≡ true) × (e.issue_count ≡ 4) × (o ≡ outcome.Aborted))
    ⊎ (((revalidation ≡ DiskLost) × (o ≡ outcome.Unplugged))
    ⊎ (((revalidation ≡ NoEnd) × (o ≡ outcome.PortDead))
    ⊎ ((revalidation ≡ SameDisk) × (e.issued ≡ true) × (e.revoked ≡ true) × (o ≡ outcome.Revoked)))))

why_on : (failed : Option FailedRequest) (revalidation : Revalidation) (e : PendingRequest) (o : Outcome) → disposition_of_unfailed revalidation e ≡ Complete o → Why failed revalidation e o
why_on failed SameDisk e o is = by e.issued e.revoked (e.issue_count == 4) refl refl refl is
  where
    by : (a b c : Bool) → e.issued ≡ a → e.revoked ≡ b → (e.issue_count == 4) ≡ c
        → (if a then (if b then Complete outcome.Revoked else (if c then Complete outcome.Aborted else Requeue)) else Wait) ≡ Complete o → Why failed SameDisk e o
    by true true c x y z told = let is : o ≡ outcome.Revoked = cc in inr (inr (inr (inr (refl, x, y, is))))
    by true false true x y z told = let is : o ≡ outcome.Aborted = cc in inr (inl (refl, x, eqb-true e.issue_count 4 z, is))
    by true false false x y z told = absurd cc
    by false b c x y z told = absurd cc
why_on failed DiskLost e o is = let w : Complete outcome.Unplugged ≡ Complete o = is in let told : o ≡ outcome.Unplugged = cc in inr (inr (inl (refl, told)))
why_on failed NoEnd e o is = let w : Complete outcome.PortDead ≡ Complete o = is in let told : o ≡ outcome.PortDead = cc in inr (inr (inr (inl (refl, told))))

pub why : (failed : Option FailedRequest) (revalidation : Revalidation) (e : PendingRequest) (o : Outcome) → disposition_of failed revalidation e ≡ Complete o → Why failed revalidation e o
why None revalidation e o is = why_on None revalidation e o is
why (Some its) revalidation e o is = by (its.id.0 == e.id.0) refl
  where
    by : (b : Bool) → (its.id.0 == e.id.0) ≡ b → Why (Some its) revalidation e o
    by true x =
        let w : Complete (outcome.DeviceError its.status its.error) ≡ Complete o = sym (λ i. if x i then Complete (outcome.DeviceError its.status its.error) else disposition_of_unfailed revalidation e) ∙ is in
        let told : o ≡ outcome.DeviceError its.status its.error = cc in
        inl (its, refl, eqb-true its.id.0 e.id.0 x, told)
    by false x = why_on (Some its) revalidation e o (sym (λ i. if x i then Complete (outcome.DeviceError its.status its.error) else disposition_of_unfailed revalidation e) ∙ is)

pub ok_or_not : (o : Outcome) → (o ≡ outcome.Ok) ⊎ (o ≢ outcome.Ok)
ok_or_not outcome.Ok = inl refl
ok_or_not (outcome.DeviceError status error) = inr (λ e. let z : outcome.DeviceError status error ≡ outcome.Ok = e in absurd cc)
ok_or_not outcome.Aborted = inr (λ e. let z : outcome.Aborted ≡ outcome.Ok = e in absurd cc)
ok_or_not outcome.Unplugged = inr (λ e. let z : outcome.Unplugged ≡ outcome.Ok = e in absurd cc)
ok_or_not outcome.PortDead = inr (λ e. let z : outcome.PortDead ≡ outcome.Ok = e in absurd cc)
ok_or_not outcome.Revoked = inr (λ e. let z : outcome.Revoked ≡ outcome.Ok = e in absurd cc)

-- one goes again only on the disk that it had
again_on : (revalidation : Revalidation) (e : PendingRequest) → disposition_of_unfailed revalidation e ≡ Requeue → revalidation ≡ SameDisk
again_on SameDisk e is = refl
again_on DiskLost e is = let w : Complete outcome.Unplugged ≡ Requeue = is in absurd cc
again_on NoEnd e is = let w : Complete outcome.PortDead ≡ Requeue = is in absurd cc

pub why_again : (failed : Option FailedRequest) (revalidation : Revalidation) (e : PendingRequest) → disposition_of failed revalidation e ≡ Requeue → revalidation ≡ SameDisk
why_again None revalidation e is = again_on revalidation e is
why_again (Some its) revalidation e is = by (its.id.0 == e.id.0) refl
  where
    by : (b : Bool) → (its.id.0 == e.id.0) ≡ b → revalidation ≡ SameDisk
    by true x =
        let w : Complete (outcome.DeviceError its.status its.error) ≡ Requeue = sym (λ i. if x i then Complete (outcome.DeviceError its.status its.error) else disposition_of_unfailed revalidation e) ∙ is in absurd cc
    by false x = again_on revalidation e (sym (λ i. if x i then Complete (outcome.DeviceError its.status its.error) else disposition_of_unfailed revalidation e) ∙ is)

-- but with the same disk each ends
ends_on : (revalidation : Revalidation) → revalidation ≢ SameDisk → (e : PendingRequest) → (o : Outcome) × (disposition_of_unfailed revalidation e ≡ Complete o)
ends_on SameDisk other e = absurd (other refl)
ends_on DiskLost other e = (outcome.Unplugged, refl)
ends_on NoEnd other e = (outcome.PortDead, refl)

pub other_ends : (failed : Option FailedRequest) (revalidation : Revalidation) → revalidation ≢ SameDisk → (e : PendingRequest) → (o : Outcome) × (disposition_of failed revalidation e ≡ Complete o)
other_ends None revalidation other e = ends_on revalidation other e
other_ends (Some its) revalidation other e = by (its.id.0 == e.id.0) refl
  where
    by : (b : Bool) → (its.id.0 == e.id.0) ≡ b → (o : Outcome) × (disposition_of (Some its) revalidation e ≡ Complete o)
    by true x = (outcome.DeviceError its.status its.error, λ i. if x i then Complete (outcome.DeviceError its.status its.error) else disposition_of_unfailed revalidation e)
    by false x = let ends = ends_on revalidation other e in (ends.0, (λ i. if x i then Complete (outcome.DeviceError its.status its.error) else disposition_of_unfailed revalidation e) ∙ ends.1)

-- ---- what is left of the book

-- where each of them ends, none of them is left
pub none_left : PrerequisiteLaws → (disposition : PendingRequest → Disposition) → ((e : PendingRequest) → (o : Outcome) × (disposition e ≡ Complete o)) → (requests : List BookEntry) (replies : List Reply) (old new : BookAndLoans) → AreResolved disposition requests replies old new
    → (x : BookEntry) → Contains new.book x → Contains old.book x × (Contains requests x → ⊥)
none_left laws disposition ends [] replies old new (none, is) x here = (subst (λ (h : BookAndLoans). Contains h.book x) is here, λ there. absurd (nowhere x there))
none_left laws disposition ends (request ∷ requests) replies old new (mid, its, later, split, meets, more) x here =
    let w = ends request.request in
    let m : IsResolved request (Complete w.0) its old mid = subst (λ (f : Disposition). IsResolved request f its old mid) w.1 meets in
    let rest = none_left laws disposition ends requests later mid new more x here in
    let left = (laws.removal_keeps_other_entries old.book request.request.id x).0 (subst (λ (book : List BookEntry). Contains book x) m.1 rest.0) in
    (left.0, λ there. ⊎_elim (λ (same : x ≡ request). left.1 (ap (λ (y : BookEntry). y.request.id) same)) (λ late. rest.1 late) (contains_cases request requests x there))

-- who was answered has left it
pub answered_left : PrerequisiteLaws → (port : Port) (done : ℕ) (requests : List BookEntry) (old new : ServerState) → AnswersEach port done requests old new → (x : BookEntry) → Contains new.book x
    → Contains old.book x × ((e : BookEntry) → Contains requests e → x.request.id ≢ e.request.id)
answered_left laws port done [] old new none x here = (subst (λ (s : ServerState). Contains s.book x) none here, λ e there. absurd (nowhere e there))
answered_left laws port done (request ∷ requests) old new (mid, one, its, more) x here =
    let rest = answered_left laws port done requests mid new more x here in
    let left = (laws.removal_keeps_other_entries old.book request.request.id x).0 (subst (λ (s : ServerState). Contains s.book x) one.server_is rest.0) in
    (left.0, λ e there. ⊎_elim (λ (same : e ≡ request). λ is. left.1 (is ∙ ap (λ (y : BookEntry). y.request.id) same)) (λ late. rest.1 e late) (contains_cases request requests e there))

-- ---- steps that decide

-- it is told only where the port failed
abbrev pub RestsOnFailure : Outcome → Type 0
RestsOnFailure outcome.Aborted = Unit {0}
RestsOnFailure outcome.Revoked = Unit {0}
RestsOnFailure (outcome.DeviceError status error) = Unit {0}
RestsOnFailure o = ⊥

module _ (port : Port) where
  pub deciding_own : (steps : List Step) → All (IsResolveStep port) steps → All (IsTurnOrDeviceStep port) steps
  deciding_own steps all = All-weaker (IsResolveStep port) (IsTurnOrDeviceStep port) own steps all
    where
      own : (step : Step) → IsResolveStep port step → IsTurnOrDeviceStep port step
      own (WaitAgain e) is = is
      own (Answer e o) is = is
      own step is = absurd is

  pub deciding_belong : (ports : Ports) (steps : List Step) → All (IsResolveStep port) steps → ((e : Pending) → Contains steps (WaitAgain e) → ports.state e.request.port ≡ ReadyState) → AreStepsOfCall {D = DeviceStep} Service ports steps
  deciding_belong ports [] all again = tt
  deciding_belong ports (WaitAgain e ∷ steps) all again = (
    deciding_belong ports steps (All-tail (IsResolveStep port) (WaitAgain e) steps all) (λ x there. again x (contains_there (WaitAgain e) steps (WaitAgain x) there)),
    inr (again e (first_here (WaitAgain e) steps)),
  )
  deciding_belong ports (Answer e o ∷ steps) all again =
      (deciding_belong ports steps (All-tail (IsResolveStep port) (Answer e o) steps all) (λ x there. again x (contains_there (Answer e o) steps (WaitAgain x) there)), inr tt)
  deciding_belong ports (step ∷ steps) all again = absurd (All-head (IsResolveStep port) step steps all)

  pub deciding_lawful : (old : AbstractState) (evidence : Evidence) (ports : Ports) (steps : List Step) → All (IsResolveStep port) steps → ((e : Pending) (o : Outcome) → Contains steps (Answer e o) → IsLawfulAnswer old evidence ports e o)
      → ((e : Pending) → Contains steps (WaitAgain e) → Contains evidence.stopped e.request.port) → AnswersLawfulAndWaitsOnStoppedPorts old evidence ports steps
  deciding_lawful old evidence ports [] all answer again = tt
  deciding_lawful old evidence ports (WaitAgain e ∷ steps) all answer again = (
    deciding_lawful old evidence ports steps (All-tail (IsResolveStep port) (WaitAgain e) steps all) (λ x o there. answer x o (contains_there (WaitAgain e) steps (Answer x o) there)) (λ x there. again x (contains_there (WaitAgain e) steps (WaitAgain x) there)),
    again e (first_here (WaitAgain e) steps),
  )
  deciding_lawful old evidence ports (Answer e o ∷ steps) all answer again = (
    deciding_lawful old evidence ports steps (All-tail (IsResolveStep port) (Answer e o) steps all) (λ x y there. answer x y (contains_there (Answer e o) steps (Answer x y) there)) (λ x there. again x (contains_there (Answer e o) steps (WaitAgain x) there)),
    answer e o (first_here (Answer e o) steps),
  )
  deciding_lawful old evidence ports (step ∷ steps) all answer again = absurd (All-head (IsResolveStep port) step steps all)

  -- a request that goes again, or is aborted, told Revoked or told a fault in its place, is of a port that failed
  pub deciding_grounded : (evidence : Evidence) (steps : List Step) → All (IsResolveStep port) steps → ((e : Pending) → Contains steps (WaitAgain e) → Contains evidence.showing_error port)
      → ((e : Pending) (o : Outcome) → Contains steps (Answer e o) → RestsOnFailure o → Contains evidence.showing_error port) → OnlyPortsShowingErrorRequeueAbortRevokeFault evidence steps
  deciding_grounded evidence [] all again answer = tt
  deciding_grounded evidence (WaitAgain e ∷ steps) all again answer = (
    deciding_grounded evidence steps (All-tail (IsResolveStep port) (WaitAgain e) steps all) (λ x there. again x (contains_there (WaitAgain e) steps (WaitAgain x) there)) (λ x o there. answer x o (contains_there (WaitAgain e) steps (Answer x o) there)),
    subst (Contains evidence.showing_error) (sym (All-head (IsResolveStep port) (WaitAgain e) steps all)) (again e (first_here (WaitAgain e) steps)),
  )
  deciding_grounded evidence (Answer e outcome.Aborted ∷ steps) all again answer = (
    deciding_grounded evidence steps (All-tail (IsResolveStep port) (Answer e outcome.Aborted) steps all) (λ x there. again x (contains_there (Answer e outcome.Aborted) steps (WaitAgain x) there)) (λ x o there. answer x o (contains_there (Answer e outcome.Aborted) steps (Answer x o) there)),
    subst (Contains evidence.showing_error) (sym (All-head (IsResolveStep port) (Answer e outcome.Aborted) steps all)) (answer e outcome.Aborted (first_here (Answer e outcome.Aborted) steps) tt),
  )
  deciding_grounded evidence (Answer e outcome.Revoked ∷ steps) all again answer = (
    deciding_grounded evidence steps (All-tail (IsResolveStep port) (Answer e outcome.Revoked) steps all) (λ x there. again x (contains_there (Answer e outcome.Revoked) steps (WaitAgain x) there)) (λ x o there. answer x o (contains_there (Answer e outcome.Revoked) steps (Answer x o) there)),
    subst (Contains evidence.showing_error) (sym (All-head (IsResolveStep port) (Answer e outcome.Revoked) steps all)) (answer e outcome.Revoked (first_here (Answer e outcome.Revoked) steps) tt),
  )
  deciding_grounded evidence (Answer e (outcome.DeviceError status error) ∷ steps) all again answer = (
    deciding_grounded evidence steps (All-tail (IsResolveStep port) (Answer e (outcome.DeviceError status error)) steps all) (λ x there. again x (contains_there (Answer e (outcome.DeviceError status error)) steps (WaitAgain x) there)) (λ x o there. answer x o (contains_there (Answer e (outcome.DeviceError status error)) steps (Answer x o) there)),
    subst (Contains evidence.showing_error) (sym (All-head (IsResolveStep port) (Answer e (outcome.DeviceError status error)) steps all)) (answer e (outcome.DeviceError status error) (first_here (Answer e (outcome.DeviceError status error)) steps) tt),
  )
  deciding_grounded evidence (Answer e outcome.Ok ∷ steps) all again answer =
      deciding_grounded evidence steps (All-tail (IsResolveStep port) (Answer e outcome.Ok) steps all) (λ x there. again x (contains_there (Answer e outcome.Ok) steps (WaitAgain x) there)) (λ x o there. answer x o (contains_there (Answer e outcome.Ok) steps (Answer x o) there))
  deciding_grounded evidence (Answer e outcome.Unplugged ∷ steps) all again answer =
      deciding_grounded evidence steps (All-tail (IsResolveStep port) (Answer e outcome.Unplugged) steps all) (λ x there. again x (contains_there (Answer e outcome.Unplugged) steps (WaitAgain x) there)) (λ x o there. answer x o (contains_there (Answer e outcome.Unplugged) steps (Answer x o) there))
  deciding_grounded evidence (Answer e outcome.PortDead ∷ steps) all again answer =
      deciding_grounded evidence steps (All-tail (IsResolveStep port) (Answer e outcome.PortDead) steps all) (λ x there. again x (contains_there (Answer e outcome.PortDead) steps (WaitAgain x) there)) (λ x o there. answer x o (contains_there (Answer e outcome.PortDead) steps (Answer x o) there))
  deciding_grounded evidence (step ∷ steps) all again answer = absurd (All-head (IsResolveStep port) step steps all)

  pub deciding_issues_none : (id : RequestId) (steps : List Step) → All (IsResolveStep port) steps → list_any (issues_id id) steps ≡ false
  deciding_issues_none id [] all = refl
  deciding_issues_none id (WaitAgain e ∷ steps) all = deciding_issues_none id steps (All-tail (IsResolveStep port) (WaitAgain e) steps all)
  deciding_issues_none id (Answer e o ∷ steps) all = deciding_issues_none id steps (All-tail (IsResolveStep port) (Answer e o) steps all)
  deciding_issues_none id (step ∷ steps) all = absurd (All-head (IsResolveStep port) step steps all)

  -- steps that issue belong to a service after which the port is ready, and takes commands so, if they issue anything
  pub issuing_belong : (mode : QueueMode) (ports : Ports) → ports.mode port ≡ mode → (steps : List Step) → AllByDeviceOrIssue mode port steps → ((id : RequestId) → IsIssuedIn id steps → ports.state port ≡ ReadyState)
      → AreStepsOfCall {D = DeviceStep} Service ports steps
  issuing_belong mode ports its [] only ready = tt
  issuing_belong mode ports its (Issue m e ∷ steps) only ready = (
    issuing_belong mode ports its steps only.2 (λ id there. ready id (or_right (e.request.id.0 == id.0) (list_any (issues_id id) steps) there)),
    inr (ap ports.state only.1 ∙ ready e.request.id (or_left (e.request.id.0 == e.request.id.0) (list_any (issues_id e.request.id) steps) (eq-eqb e.request.id.0 e.request.id.0 refl)), ap ports.mode only.1 ∙ its ∙ sym only.0),
  )
  issuing_belong mode ports its (step ∷ steps) only ready = (
    issuing_belong mode ports its steps only.1 (λ id there. ready id (or_right (issues_id id step) (list_any (issues_id id) steps) there)),
    inl only.0,
  )

-- ---- a tick

-- steps that belong to a service belong to a tick, where no fault is told
pub belong_tick : (ports : Ports) (steps : List Step) → ((e : Pending) (o : Outcome) → Contains steps (Answer e o) → IsNeitherOkNorDeviceError o ⊎ (o ≡ outcome.Ok))
    → AreStepsOfCall {D = DeviceStep} Service ports steps → AreStepsOfCall {D = DeviceStep} Tick ports steps
belong_tick ports [] gives b = tt
belong_tick ports (step ∷ steps) gives b = (
  belong_tick ports steps (λ e o there. gives e o (contains_there step steps (Answer e o) there)) b.0,
  ⊎_elim (λ device. inl device) (λ its. one step (λ e o is. gives e o (subst (λ (s : Step). Contains (step ∷ steps) s) (sym is) (first_here step steps))) its) b.1,
)
  where
    one : (step : Step) → ((e : Pending) (o : Outcome) → Answer e o ≡ step → IsNeitherOkNorDeviceError o ⊎ (o ≡ outcome.Ok)) → IsByServer {D = DeviceStep} Service ports step
        → IsByDevice step ⊎ IsByServer {D = DeviceStep} Tick ports step
    one (Issue mode e) gives its = inr its
    one (WaitAgain e) gives its = inr its
    one (Answer e o) gives its = inr (gives e o refl)
    one step gives its = absurd its
