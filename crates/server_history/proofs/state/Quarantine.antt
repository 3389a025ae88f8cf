-- What is kept may be given back.
use Rattle.std.proofs.Common.{ℕ, ◌≡◌, ◌≢◌, ◌<◌, List, Some, get_or, length, inr, sym, ap, ◌∙◌, subst, [], ◌∷◌, refl, arith}
use Rattle.std.specs.List.{All, Contains}
use Rattle.std.proofs.lemmas.List.{get_or_default}
use Rattle.ata_types.specs.declared.PortState.TheVariants.{Dead}
use Rattle.ata_types.specs.declared.request.Frame.{Frame}
use Rattle.ata_types.specs.declared.request.RequestId.{RequestId}
use Rattle.block_machine.specs.Confinement.{WasAccepted, KeepsLimitsAndHoldsOwnFrames}
use Rattle.block_machine.specs.Histories.{IsReachable}
use Rattle.block_machine.specs.State.{Machine, Pending}
use Rattle.block_machine.specs.Steps.{IsInBookOrKept}
use Rattle.dma_frames.specs.Loan.{Lending}
use Rattle.dma_frames.specs.FrameTables.{lent_to}
use Rattle.host_boot.specs.TakeOver.{probe_result_of}
use Rattle.host_boot.specs.declared.ProbeResult.TheVariants.{Unready}
use Rattle.request_queue.specs.BookEntries.{BookEntry}
use Rattle.request_queue.specs.BookRelation.{EntryRelation}
use Rattle.server_history.specs.BasicLaws.{FrameHolderLaws}
use Rattle.server_history.specs.ServerState.{ServerState, InCallInvariant, IsLentOut, MachineRelation, quarantined_at}
use Rattle.server_history.proofs.state.PairedLists.{at_left}

module _ (laws : FrameHolderLaws) (s : ServerState) (m : Machine) (reached : IsReachable m) (stands : MachineRelation s m) where
  accepted : (e : Pending) → IsInBookOrKept m e → WasAccepted reached.initial_machine reached.steps_since e.request
  accepted e lives = laws.frame_holders_were_accepted reached.initial_machine reached.steps_since e reached.is_initial reached.steps_since_are_enabled (subst (λ (x : Machine). IsInBookOrKept x e) reached.leads_to_machine lives)

  -- one id is one request
  same_request : (a b : Pending) → IsInBookOrKept m a → IsInBookOrKept m b → a.request.id ≡ b.request.id → a.request ≡ b.request
  same_request a b left right same = laws.an_id_is_accepted_once reached.initial_machine reached.steps_since a.request b.request (accepted a left) (accepted b right) same

  within : KeepsLimitsAndHoldsOwnFrames m
  within = subst KeepsLimitsAndHoldsOwnFrames (sym reached.leads_to_machine) (laws.enabled_histories_stay_in_limits reached.initial_machine reached.steps_since reached.is_initial reached.steps_since_are_enabled)

  module _ (port : ℕ) (loan : Lending) (here : Contains (quarantined_at s.kept_loans port) loan) where
    its : (e : Pending) × Contains m.kept e × (e.request.port.0 ≡ port) × (loan.request ≡ e.request.id) × (loan.frames ≡ e.request.asked.frames.items)
    its = let e = stands.quarantine_relation.each_loan_has_its_request port loan here in (e.0, e.1, e.2, e.3.0, e.3.1)

    -- its frames are lent to its request
    pub lent_out : IsLentOut s.table loan
    lent_out = subst (λ (frames : List Frame). All (λ f. lent_to s.table f ≡ Some loan.request) frames) (sym its.4) (λ i d small. of i d small)
      where
        of : (i : ℕ) (d : Frame) → i < length its.0.request.asked.frames.items → lent_to s.table (get_or its.0.request.asked.frames.items i d) ≡ Some loan.request
        of i d small =
            let f = get_or its.0.request.asked.frames.items i d in
            sym (stands.lent f)
            ∙ ap m.lent (get_or_default its.0.request.asked.frames.items i d _ small)
            ∙ within.frames_are_lent its.0 (inr its.1) i small ∙ ap Some (sym its.3)

    -- its request isn't unanswered
    pub answered : (e : BookEntry) → Contains s.book e → e.request.id ≢ loan.request
    answered e there same =
        let y = at_left EntryRelation s.book m.book stands.book e there in
        laws.kept_is_not_in_book m y.0 its.0 reached y.1 its.1 (ap (λ (id : RequestId). id.0) (y.2.id ∙ same ∙ its.3))

    -- a loan of that request is this one
    pub one_loan : (other : ℕ) (b : Lending) → Contains (quarantined_at s.kept_loans other) b → loan.request ≡ b.request → (port ≡ other) × (loan ≡ b)
    one_loan other b there same =
        let y = stands.quarantine_relation.each_loan_has_its_request other b there in
        let one : its.0.request ≡ y.0.request = same_request its.0 y.0 (inr its.1) (inr y.1) (sym its.3 ∙ same ∙ y.3.0) in
        let frames : loan.frames ≡ b.frames = its.4 ∙ ap (λ r. r.asked.frames.items) one ∙ sym y.3.1 in
        (sym its.2 ∙ ap (λ r. r.port.0) one ∙ y.2, λ i. record { frames = frames i; request = same i })

  pub all_lent : (port : ℕ) → All (IsLentOut s.table) (quarantined_at s.kept_loans port)
  all_lent port i d small = lent_out port (get_or (quarantined_at s.kept_loans port) i d) (i, small, get_or_default (quarantined_at s.kept_loans port) i (get_or (quarantined_at s.kept_loans port) i d) d small)

-- a port that isn't dead keeps no loan
pub none_alive : (s : ServerState) → InCallInvariant s → (port : ℕ) → probe_result_of s.probe_results port ≢ Unready Dead → (loans : List Lending) → quarantined_at s.kept_loans port ≡ loans → loans ≡ []
none_alive s k port alive [] is = refl
none_alive s k port alive (loan ∷ rest) is =
    let e = k.machine_relation.quarantine_relation.each_loan_has_its_request port loan (subst (λ (list : List Lending). Contains list loan) (sym is) (0, omega arith, refl)) in
    absurd (alive (ap (λ (q : ℕ). probe_result_of s.probe_results q) (sym e.2) ∙ k.machine_relation.quarantine_relation.quarantine_ports_are_dead e.0 e.1))
