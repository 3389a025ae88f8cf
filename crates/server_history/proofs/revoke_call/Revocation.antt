-- A grant that is revoked adds an event: what waited under it is answered, and then what is due on its port is issued, if it is ready.
use Rattle.std.proofs.Common.{ℕ, ◌≡◌, ◌≢◌, ◌<◌, ◌++◌, ◌||◌, Bool, List, [], Some, refl, sym, ap, ◌∙◌, subst, arith, ⊎_elim}
use Rattle.std.specs.List.{Contains, list_any}
use Rattle.std.specs.List.Sorted.{IsPermutation}
use Rattle.std.proofs.lemmas.Bool.{false≢true}
use Rattle.std.proofs.lemmas.List.Elements.{All-contains, All-nil, All-weaker, Contains-append_cases, Contains-append_right}
use Rattle.ata_types.specs.declared.Port.{Port}
use Rattle.ata_types.specs.declared.PortState.TheVariants.{Ready as ReadyState}
use Rattle.ata_types.specs.declared.request.ClientId.{ClientId}
use Rattle.ata_types.specs.declared.request.Outcome.{Outcome}
use Rattle.ata_types.specs.declared.request.Outcome.TheVariants.{Revoked}
use Rattle.ata_types.specs.declared.request.Reply.{Reply}
use Rattle.ata_types.specs.declared.request.RequestId.{RequestId}
use Rattle.adapter.specs.Device.{Device}
use Rattle.adapter.specs.declared.access.DeviceStep.{DeviceStep}
use Rattle.refinement.specs.Fragments.{IsDrivenBy}
use Rattle.refinement.specs.PreservedParts.{DoesNotWrite}
use Rattle.block_machine.specs.DueRequests.{NoneDue}
use Rattle.block_machine.specs.Events.{AnswersRevoke, AbstractState, RevokeOf, WasRevoked, answers_of, issues_id}
use Rattle.block_machine.specs.Histories.{JointState, IsReachable, joint_state_after}
use Rattle.block_machine.specs.Expected.{IsValidRow, after}
use Rattle.block_machine.specs.Ports.{Ports}
use Rattle.block_machine.specs.Rules.{without_row}
use Rattle.block_machine.specs.State as machine
use Rattle.block_machine.specs.State.{Machine}
use Rattle.block_machine.specs.Steps.{Step, Answer}
use Rattle.block_machine.specs.declared.due.QueueMode.{QueueMode}
use Rattle.driver_history.specs.Histories.{IssuesDue, StoresOrWritesSactOrCi}
use Rattle.driver_history.specs.AccessTrace.{WritesOneToNoTroubleBit, WritesNeitherCmdNorSctl}
use Rattle.hba_regs.specs.declared.reg.Reg.TheVariants.{Ghc}
use Rattle.host_boot.specs.TakeOver.{probe_result_of}
use Rattle.request_queue.specs.BookEntries.{unanswered_of, due_ids}
use Rattle.server_history.specs.Prerequisites.{PrerequisiteLaws}
use Rattle.server_history.specs.Histories.{ExtendsToNoneDue, ExtendsHistory}
use Rattle.server_history.specs.Revoking.{RevokesGrant}
use Rattle.ncq.specs.Batches.{IsCommandIssueAccess}
use Rattle.server_history.specs.IssuingAndAnswering.{IssuesDueOfPort, IssuesTogetherIfAny}
use Rattle.server_history.specs.ServerState.{InCallInvariant, MachineRelation, InvariantWithNoneDue, ServerState, mode_in, ports_of, state_of}
use Rattle.server_history.proofs.any_turn.JoinedParts.{ready_or_not}
use Rattle.server_history.proofs.plain_calls.Acceptances.{issuing_clears_none, issuing_spares_host}
use Rattle.server_history.proofs.plain_calls.IssueRounds.{AreIssued, any_append, belong_on, dues, dues_carried, each_driven, each_issued, each_settings, last_on, lawful_on, or_none, settled}
use Rattle.server_history.proofs.plain_calls.RefusalsAndBytes.{GoesTo, reached, stays}
use Rattle.server_history.proofs.recovery_turn.CallPart.{unready_undue}
use Rattle.server_history.proofs.revoke_call.RevokedEach.{RevokesEach, revokes_each, with_revoked}
use Rattle.server_history.proofs.revoke_call.RevokedMachine as revoked
use Rattle.server_history.proofs.revoke_call.RevokedMachine.{MayRevoke}
use Rattle.server_history.proofs.revoke_call.RevokedServer.{none_other, revoked_kept}
use Rattle.server_history.proofs.state.AnswerSteps.{issuing_answers, no_answer_issuing}
use Rattle.server_history.proofs.state.CallEvidence.{no_evidence, told_by, uninterrupted}
use Rattle.server_history.proofs.state.DueRequests.{none_due, none_issued}
use Rattle.server_history.proofs.state.FirstMembers.{nowhere}
use Rattle.server_history.proofs.state.HistorySteps.{IsHolding, holding, lead_by, ports_same, with_device}
use Rattle.server_history.proofs.state.TurnAccesses.{issuing_is, issuing_leaves}

module _ (laws : PrerequisiteLaws) (s : ServerState) (client : ClientId) (number : ℕ) (replies : List Reply) (mid : ServerState) (r : RevokesEach client number replies s mid) where
  abbrev port : Port
  port = r.has.0.port

  -- the server once those that waited are answered
  abbrev then_is : ServerState
  then_is = with_revoked client number mid.table r.now.book s

  -- ---- what is said of it

  module _ (new : ServerState) (new_is : ports_of new ≡ ports_of s) (rows_are : new.grants ≡ then_is.grants) (old : AbstractState) (ports_are : old.ports ≡ ports_of s) (h : MayRevoke s old.machine) (late : List Step)
      (none : (e : machine.Pending) (o : Outcome) → Contains late (Answer e o) → ⊥) (unanswered : answers_of (late ++ revoked.steps laws s client number replies mid r old.machine h) ≡ answers_of (revoked.steps laws s client number replies mid r old.machine h))
      (stands : MachineRelation new (after old.machine (late ++ revoked.steps laws s client number replies mid r old.machine h)))
      (issued : (q : Port) → (ports_of new).state q ≡ ReadyState → NoneDue (mode_in new q) (unanswered_of new.book) q) where
    abbrev early : List Step
    early = revoked.steps laws s client number replies mid r old.machine h

    early_answer : (e : machine.Pending) (o : Outcome) → Contains (late ++ early) (Answer e o) → Contains early (Answer e o)
    early_answer e o there = ⊎_elim (λ here. absurd (none e o here)) (λ here. here) (Contains-append_cases late early (Answer e o) there)

    pub answers : AnswersRevoke client number old (late ++ early) replies (record { machine = after old.machine (late ++ early); ports = ports_of new })
    answers = record {
      has_row = revoked.has_row laws s client number replies mid r old.machine h;
      row_is_removed = stands.rows ∙ rows_are ∙ ap (without_row client number) (sym h.stands.rows);
      replies_match = let t = revoked.tells_replies laws s client number replies mid r old.machine h in
          record { answers = t.answers; is_permutation = subst (IsPermutation t.answers) (sym unanswered) t.is_permutation; ordered = t.ordered; replies_are_of_answers = t.replies_are_of_answers };
      waiting_are_revoked = λ e. (
        λ there. revoked.only laws s client number replies mid r old.machine h e Revoked (early_answer e Revoked there),
        λ of. Contains-append_right late early (Answer e Revoked) (revoked.all laws s client number replies mid r old.machine h e of.0 of.1 of.2),
      );
      ports_are_same = ports_same old.ports (ports_of new) (ports_are ∙ sym new_is);
      none_is_due_where_ready = λ q ready. none_due new (after old.machine (late ++ early)) stands (mode_in new q) q (issued q ready);
    }

  -- ---- where the port isn't ready, nothing is issued, and there is no access

  module _ (holds : IsHolding then_is) (goes : GoesTo s s.device) (unready : state_of (probe_result_of s.probe_results port.0) ≢ ReadyState)
      (issued : (q : Port) → (ports_of s).state q ≡ ReadyState → NoneDue (mode_in s q) (unanswered_of r.now.book) q) (may : (m : Machine) → IsReachable m → MachineRelation s m → MayRevoke s m) where
    pub quiet_event : ExtendsHistory s then_is (RevokeOf client number) (WasRevoked (Some replies))
    quiet_event first past leads =
        lead_by laws first past s then_is (RevokeOf client number) (WasRevoked (Some replies)) steps refl refl leads holds
        (revoked.may laws s client number replies mid r m h)
        (revoked.belong laws s client number replies mid r m h (ports_of s))
        (revoked.last laws s client number replies mid r m h)
        (revoked.lawful laws s client number replies mid r m h old.abstract no_evidence (ports_of s))
        (answers then_is refl refl old.abstract leads.state_is_at_history_end.ports_are h [] (λ e o here. nowhere (Answer e o) here) refl stands issued)
        tt
        []
        (refl, (revoked.has_row laws s client number replies mid r m h, All-nil (StoresOrWritesSactOrCi port), λ other. refl))
        (λ q. All-nil (WritesNeitherCmdNorSctl q))
        (λ q ready. none_issued then_is (after m steps) stands steps (revoked.issue_none laws s client number replies mid r m h) (mode_in s q) q (issued q ready))
        (λ q. record { finds_done = tt; lone_plain_faults_are_told_unless_dead = tt; probes_disk = tt; boots_anew = tt; loses_no_error = goes.port_error old.abstract leads.state_is_at_history_end.ports_are q; runs_well_anew = λ i. absurd (uninterrupted s.device old.abstract.ports q i); handles_evidence = uninterrupted s.device old.abstract.ports q })
        (revoked.backed laws s client number replies mid r m h)
        stands
      where
        old : JointState Device
        old = joint_state_after first past

        m : Machine
        m = old.abstract.machine

        h : MayRevoke s m
        h = may m (reached laws first past s leads) leads.state_is_at_history_end.machine_stands_for_it

        steps : List Step
        steps = revoked.steps laws s client number replies mid r m h

        stands : MachineRelation then_is (after m steps)
        stands = revoked.stands laws s client number replies mid r m h

  -- ---- where it is ready

  module _ (t : InvariantWithNoneDue s) where
    abbrev k : InCallInvariant s
    k = t.in_call_invariant

    may : (m : Machine) → IsReachable m → MachineRelation s m → MayRevoke s m
    may m was is = record { ordered = k.book_is_well_formed; accepted = k.entries_are_well_formed; marked = k.revoked_marks_agree; reached = was; stands = is }

    kept : InCallInvariant then_is
    kept = revoked_kept laws s client number replies mid r k

    apart : (q : Port) → q ≢ port → NoneDue (mode_in s q) (unanswered_of r.now.book) q
    apart = none_other laws s client number replies mid r k t.none_is_due

    port_low : port.0 < 4
    port_low = let low = (All-contains IsValidRow s.grants r.has.0 k.rows_are_valid r.has.1).port_is_at_most_3 in omega (arith, low)

    module _ (new : ServerState) (issues : IssuesDueOfPort port then_is new) where
      settles : InvariantWithNoneDue new
      settles = settled laws port then_is new kept apart issues

      abbrev ids : List RequestId
      ids = due_ids (mode_in s port) port (unanswered_of r.now.book)

      same : new ≡ record then_is { device = new.device; slots = new.slots; book = new.book }
      same = each_settings laws port ids then_is new issues

      -- nothing is due where it isn't ready
      with_issue_undone : state_of (probe_result_of s.probe_results port.0) ≢ ReadyState → new ≡ then_is
      with_issue_undone other =
          subst (λ (list : List RequestId). IssuesTogetherIfAny port list then_is new)
          (unready_undue laws then_is kept port (λ info found. other (ap state_of found))) issues

      quiet : state_of (probe_result_of s.probe_results port.0) ≢ ReadyState → ExtendsHistory s new (RevokeOf client number) (WasRevoked (Some replies))
      quiet other =
          subst (λ (n : ServerState). ExtendsHistory s n (RevokeOf client number) (WasRevoked (Some replies))) (sym (with_issue_undone other))
          (quiet_event (holding then_is kept) (stays laws s k) other (λ q ready. (subst InvariantWithNoneDue (with_issue_undone other) settles).none_is_due q) may)

      module _ (ready : state_of (probe_result_of s.probe_results port.0) ≡ ReadyState) where
        driven : IsDrivenBy (IsCommandIssueAccess port) s.device new.device
        driven = each_driven laws port ids then_is new issues

        event : ExtendsHistory s new (RevokeOf client number) (WasRevoked (Some replies))
        event first past leads =
            lead_by laws first past s new (RevokeOf client number) (WasRevoked (Some replies)) (x.steps ++ early) (ap (λ (n : ServerState). n.wanted) same) (ap ports_of same) leads (holding new settles.in_call_invariant)
            (laws.steps_and_accesses.enabled_lists_join m x.steps early (revoked.may laws s client number replies mid r m h) x.may)
            (belong_on mode port {D = DeviceStep} (RevokeOf client number) (ports_of new) (λ p own. (its_ready p own, its_mode p own)) x.steps early x.only (revoked.belong laws s client number replies mid r m h (ports_of new)))
            (last_on mode port x.steps early x.only x.last (revoked.last laws s client number replies mid r m h) (λ id late first_too. false≢true (sym (revoked.issue_none laws s client number replies mid r m h id) ∙ first_too)))
            (lawful_on mode port old.abstract no_evidence (ports_of new) x.steps early x.only (revoked.lawful laws s client number replies mid r m h old.abstract no_evidence (ports_of new)))
            (answers new (ap ports_of same) (ap (λ (n : ServerState). n.grants) same) old.abstract leads.state_is_at_history_end.ports_are h x.steps (no_answer_issuing mode port x.steps x.only) (issuing_answers mode port x.steps early x.only) stands (λ q on. settles.none_is_due q))
            tt
            driven.accesses
            (driven.all_are_done, (revoked.has_row laws s client number replies mid r m h, All-weaker (IsCommandIssueAccess port) (StoresOrWritesSactOrCi port) (λ access here. issuing_is port port_low access here) driven.accesses driven.accesses_are_of_kind, λ other. absurd (other its_state)))
            (λ q. All-weaker (IsCommandIssueAccess port) (WritesNeitherCmdNorSctl q) (issuing_leaves laws port q) driven.accesses driven.accesses_are_of_kind)
            (λ q is_ready. due_now q)
            (λ q. record {
              finds_done = tt;
              lone_plain_faults_are_told_unless_dead = tt;
              probes_disk = tt;
              boots_anew = tt;
              loses_no_error = laws.calls.ordinary_accesses_lose_no_error q (with_device s.device old) new.device driven.accesses (told_by s.device old.abstract.ports) (ports_of new) k.adapter_is_on driven.all_are_done
                  (All-weaker (IsCommandIssueAccess port) (DoesNotWrite Ghc) (issuing_spares_host port) driven.accesses driven.accesses_are_of_kind) (All-weaker (IsCommandIssueAccess port) (WritesOneToNoTroubleBit q) (issuing_clears_none port q) driven.accesses driven.accesses_are_of_kind);
              runs_well_anew = λ i. absurd (uninterrupted s.device old.abstract.ports q i);
              handles_evidence = uninterrupted s.device old.abstract.ports q;
            })
            (laws.backed_parts_join s.device s.device new.device m early x.steps (revoked.backed laws s client number replies mid r m h) x.backed)
            stands
          where
            old : JointState Device
            old = joint_state_after first past

            m : Machine
            m = old.abstract.machine

            h : MayRevoke s m
            h = may m (reached laws first past s leads) leads.state_is_at_history_end.machine_stands_for_it

            early : List Step
            early = revoked.steps laws s client number replies mid r m h

            x : AreIssued port ids then_is new (after m early)
            x = each_issued laws port ids then_is new kept issues (after m early) (revoked.reached_then laws s client number replies mid r m h) (revoked.stands laws s client number replies mid r m h)

            stands : MachineRelation new (after m (x.steps ++ early))
            stands = subst (MachineRelation new) (sym (laws.steps_and_accesses.after_joins m x.steps early)) x.stands

            mode : QueueMode
            mode = mode_in s port

            its_state : old.abstract.ports.state port ≡ ReadyState
            its_state = ap (λ (ports : Ports). ports.state port) leads.state_is_at_history_end.ports_are ∙ ready

            its_mode : (p : machine.Pending) → p.request.port ≡ port → (ports_of new).mode p.request.port ≡ mode
            its_mode p own = ap (mode_in new) own ∙ ap (λ (n : ServerState). mode_in n port) same

            its_ready : (p : machine.Pending) → p.request.port ≡ port → (ports_of new).state p.request.port ≡ ReadyState
            its_ready p own = ap (λ (q : Port). state_of (probe_result_of new.probe_results q.0)) own ∙ ap (λ (n : ServerState). state_of (probe_result_of n.probe_results port.0)) same ∙ ready

            mode_is : (q : Port) → mode_in new q ≡ mode_in s q
            mode_is q = ap (λ (n : ServerState). mode_in n q) same

            due_now : (q : Port) → IssuesDue (mode_in new q) (x.steps ++ early) (after m (x.steps ++ early)) q
            due_now q =
                subst (λ (takes : QueueMode). IssuesDue takes (x.steps ++ early) (after m (x.steps ++ early)) q) (sym (mode_is q))
                (subst (λ (n : Machine). IssuesDue (mode_in s q) (x.steps ++ early) n q) (sym (laws.steps_and_accesses.after_joins m x.steps early))
                (dues_carried laws (mode_in s q) x.steps (x.steps ++ early) (after (after m early) x.steps) (after (after m early) x.steps) q refl
                (λ u here own. sym (any_append (issues_id u.id) x.steps early ∙ ap (λ (b : Bool). list_any (issues_id u.id) x.steps || b) (revoked.issue_none laws s client number replies mid r m h u.id) ∙ or_none (list_any (issues_id u.id) x.steps)))
                (dues laws port then_is new kept issues (after m early) x q (apart q))))

      pub adds : ExtendsHistory s new (RevokeOf client number) (WasRevoked (Some replies))
      adds = ⊎_elim event quiet (ready_or_not (state_of (probe_result_of s.probe_results port.0)))

revocation_by : (laws : PrerequisiteLaws) (s mid new : ServerState) (client : ClientId) (number : ℕ) (replies : List Reply) → InvariantWithNoneDue s → (each : RevokesEach client number replies s mid) → IssuesDueOfPort each.has.0.port mid new
    → ExtendsToNoneDue s new (RevokeOf client number) (WasRevoked (Some replies))
revocation_by laws s mid new client number replies t each i = record { invariant_with_none_due = settles laws s client number replies mid each t new issues; extends_history = adds laws s client number replies mid each t new issues }
  where
    issues : IssuesDueOfPort each.has.0.port (with_revoked client number mid.table each.now.book s) new
    issues = subst (λ (n : ServerState). IssuesDueOfPort each.has.0.port n new) each.server i

pub revocation : PrerequisiteLaws → (s mid new : ServerState) (client : ClientId) (number : ℕ) (replies : List Reply) → InvariantWithNoneDue s → (r : RevokesGrant client number replies s mid) → IssuesDueOfPort r.has_grant_row.0.port mid new
    → ExtendsToNoneDue s new (RevokeOf client number) (WasRevoked (Some replies))
revocation laws s mid new client number replies t r i = revocation_by laws s mid new client number replies t (revokes_each laws s mid client number replies t.in_call_invariant.book_is_well_formed t.in_call_invariant.entries_are_well_formed r) i
