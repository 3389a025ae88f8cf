-- Runs in which a grant is revoked while a write of it runs and a read of it waits: then the write ends, or its port fails.
use Rattle.std.proofs.Common.{◌≡◌, false, List, [], ◌∷◌, Some, inl, inr, ⊎_elim, refl, sym, ap, ◌∙◌, subst, arith, Contains}
use Rattle.std.proofs.lemmas.Bool.{false≢true}
use Rattle.ata_types.specs.declared.PortState.TheVariants.{Ready}
use Rattle.ata_types.specs.declared.grant.GrantRow.{GrantRow}
use Rattle.ata_types.specs.declared.request.Outcome.TheVariants as outcome
use Rattle.ata_types.specs.declared.request.Reply.{Reply}
use Rattle.block_machine.specs.Rules.{HasRow, IsSameGrantName}
use Rattle.block_machine.specs.State.{Pending, nth_frame, unanswered}
use Rattle.block_machine.specs.Steps.{Step, Touch, End, Answer, Revoke, newly_accepted, newly_issued, touch}
use Rattle.block_machine.specs.Events.{RevokeOf, Service, Replied, WasRevoked, CallRecord, Happens, reply_of, abstract_after_all}
use Rattle.machine_runs.specs.RevocationRuns.{RevokesWhileIssued}
use Rattle.block_machine.proofs.Members.{contains_none, contains_here, contains_there, contains_cases}
use Rattle.block_machine.proofs.Setting.{client, row, empty_starts, granted, port}
use Rattle.machine_runs.proofs.Scene.{first, reply, call, done, served, row_zero, one_issued, none_there, one_told, one_touched, ports_fit, plain_service, none_dead, none_ended, none_unplugged, stay_ready}
use Rattle.machine_runs.proofs.WaitingRun.{run2, write, read, happens1, happens2}
use Rattle.block_machine.specs.Ports.{Evidence}

abbrev revoked : Reply
revoked = reply_of (newly_accepted read, outcome.Revoked)

abbrev event3 : CallRecord (Unit {0})
event3 = call (RevokeOf client 0) (WasRevoked (Some (revoked ∷ []))) (Answer (newly_accepted read) outcome.Revoked ∷ Revoke client 0 ∷ [])

abbrev run3 : List (CallRecord (Unit {0}))
run3 = event3 ∷ run2

abbrev event4 : CallRecord (Unit {0})
event4 = call Service (Replied (reply 1 ∷ [])) (served write)

abbrev run4 : List (CallRecord (Unit {0}))
run4 = event4 ∷ run3

-- the row that is left isn't the one
no_row : HasRow client 0 (row 1 ∷ []) → ⊥
no_row (r, i, named) = ⊎_elim
    (λ (same : r ≡ row 1). let is : r.number ≡ 0 = named.1 in let one : r.number ≡ 1 = ap (λ (x : GrantRow). x.number) same in omega (arith, is, one))
    (λ n. contains_none r n)
    (contains_cases (row 1) [] r i)

abbrev told_of : Step → Pending
told_of (Answer e o) = e
told_of _ = newly_accepted write

happens3 : Happens (abstract_after_all first run2) event3
happens3 = record {
  steps_are_enabled = ((tt, granted 0 row_zero refl), (contains_there (newly_issued (newly_accepted write)) (newly_accepted read ∷ []) (newly_accepted read) (contains_here (newly_accepted read) [] (newly_accepted read) refl), no_row));
  steps_are_of_call = ((tt, inr (refl, refl)), inr refl);
  issue_is_last_of_request = ((tt, λ id h i. false≢true i), λ id h i. false≢true i);
  answers_are_lawful = (tt, inl refl);
  ports_are_well_formed = ports_fit Ready refl;
  unanswered_keep_serial_and_size = λ e o h i same. (refl, refl);
  result_matches_steps = record {
    has_row = granted 0 row_zero refl;
    row_is_removed = refl;
    replies_match = one_told (newly_accepted read) outcome.Revoked event3.steps refl revoked refl;
    waiting_are_revoked = λ e. (told e, λ of. waiting_told e of.0 of.1 of.2);
    ports_are_same = λ p. (refl, refl, refl, refl, refl, refl);
    none_is_due_where_ready = λ p _. one_issued (unanswered (newly_issued (newly_accepted write))) refl p;
  };
}
  where
    waiting_told : (e : Pending) → Contains (abstract_after_all first run2).machine.book e → e.issued ≡ false → IsSameGrantName client 0 e.request.asked.client e.request.asked.grant → Contains event3.steps (Answer e outcome.Revoked)
    waiting_told e h waits under = ⊎_elim
        (λ (same : e ≡ newly_issued (newly_accepted write)). absurd (false≢true (sym waits ∙ ap (λ (x : Pending). x.issued) same)))
        (λ i. ⊎_elim
        (λ (same : e ≡ newly_accepted read). contains_here (Answer (newly_accepted read) outcome.Revoked) (Revoke client 0 ∷ []) (Answer e outcome.Revoked) (ap (λ (x : Pending). Answer x outcome.Revoked) same))
        (λ n. absurd (contains_none e n))
        (contains_cases (newly_accepted read) [] e i))
        (contains_cases (newly_issued (newly_accepted write)) (newly_accepted read ∷ []) e h)

    told : (e : Pending) → Contains event3.steps (Answer e outcome.Revoked) → Contains (abstract_after_all first run2).machine.book e × (e.issued ≡ false) × IsSameGrantName client 0 e.request.asked.client e.request.asked.grant
    told e h = ⊎_elim
        (λ (same : Answer e outcome.Revoked ≡ Answer (newly_accepted read) outcome.Revoked).
        let its : e ≡ newly_accepted read = ap told_of same in (
          contains_there (newly_issued (newly_accepted write)) (newly_accepted read ∷ []) e (contains_here (newly_accepted read) [] e its),
          ap (λ (x : Pending). x.issued) its,
          subst (λ (x : Pending). IsSameGrantName client 0 x.request.asked.client x.request.asked.grant) (sym its) (refl, refl),
        ))
        (λ i. ⊎_elim
        (λ (same : Answer e outcome.Revoked ≡ Revoke client 0). let no : ⊥ = cc in absurd no)
        (λ n. absurd (contains_none (Answer e outcome.Revoked) n))
        (contains_cases (Revoke client 0) [] (Answer e outcome.Revoked) i))
        (contains_cases (Answer (newly_accepted read) outcome.Revoked) (Revoke client 0 ∷ []) (Answer e outcome.Revoked) h)

happens4 : Happens (abstract_after_all first run3) event4
happens4 = record {
  steps_are_enabled = (((tt, (inl (contains_here (newly_issued (newly_accepted write)) [] (newly_issued (newly_accepted write)) refl, refl), omega arith, refl, omega arith, λ _ b lt. refl)), (inl (contains_here (touch 0 (newly_issued (newly_accepted write))) [] (touch 0 (newly_issued (newly_accepted write))) refl, refl), one_touched, refl)), (contains_here (done write) [] (done write) refl, tt));
  steps_are_of_call = (((tt, inl tt), inl tt), inr tt);
  issue_is_last_of_request = (((tt, λ id h i. false≢true i), λ id h i. false≢true i), λ id h i. false≢true i);
  answers_are_lawful = (tt, (record { pending = newly_issued (newly_accepted write); is_in_book = contains_here (newly_issued (newly_accepted write)) [] (newly_issued (newly_accepted write)) refl; id_is = refl; issued = refl }, refl, one_touched, refl));
  ports_are_well_formed = ports_fit Ready refl;
  unanswered_keep_serial_and_size = λ e o h i same. (refl, refl);
  result_matches_steps = plain_service (abstract_after_all first run3).machine (abstract_after_all first run4).machine event4.steps (reply 1 ∷ []) (one_told (done write) outcome.Ok event4.steps refl (reply 1) refl) refl (none_ended (abstract_after_all first run3).machine event4.steps refl) (λ p. none_there p) (λ e h. absurd (contains_none e h));
}

-- ---- where the port fails first

abbrev running : Pending
running = newly_issued (newly_accepted write)

-- port 0 failed, and was stopped
abbrev failure : Evidence
failure = record { faults = []; lost = []; link_changed = []; showing_error = port ∷ []; showing_fatal_error = []; stopped = port ∷ []; stuck = [] }

abbrev failed : CallRecord (Unit {0})
failed = record (call Service (Replied (reply_of (running, outcome.Revoked) ∷ [])) (Answer running outcome.Revoked ∷ [])) { evidence = failure }

happens_failed : Happens (abstract_after_all first run3) failed
happens_failed = record {
  steps_are_enabled = (tt, (contains_here running [] running refl, no_row));
  steps_are_of_call = (tt, inr tt);
  issue_is_last_of_request = (tt, λ id h i. false≢true i);
  answers_are_lawful = (tt, inr (refl, contains_here port [] port refl, (refl, refl)));
  ports_are_well_formed = ports_fit Ready refl;
  unanswered_keep_serial_and_size = λ e o h i same. (refl, refl);
  result_matches_steps = record {
    replies_match = one_told running outcome.Revoked failed.steps refl (reply_of (running, outcome.Revoked)) refl;
    dead_ports_tell_only_port_dead = λ e o i dead. none_dead e.request.port dead;
    unplugged_outcome_empties_port = none_unplugged failed.steps (abstract_after_all first (failed ∷ run3)).machine refl;
    none_is_due_where_ready = λ p _. none_there p;
    empty_unless_ready = λ p ne e h. absurd (contains_none e h);
    answers_ok_what_had_ended = λ p _. none_ended (abstract_after_all first run3).machine failed.steps refl p;
    port_is_serviced = λ p. (λ dead. none_dead p dead, λ _. (stay_ready failure refl p, inl (refl, refl, refl, refl, refl, refl)));
    shown_disk_was_in_or_came = λ p. inl (refl, refl, refl, refl, refl, refl);
  };
}

-- ---- both

pub is_taken_back : RevokesWhileIssued
is_taken_back = record {
  initial_state = first;
  run = run4;
  runs = (((((empty_starts, ports_fit Ready refl), happens1), happens2), happens3), happens4);
  steps_are_faithful = ((((((((tt, tt), tt), tt), tt), tt), λ _ b lt. refl), tt), tt);
  early = run2;
  revoking_call = event3;
  service = event4;
  run_is = refl;
  client = client;
  number = 0;
  call_revokes = refl;
  issued = newly_issued (newly_accepted write);
  waiter = newly_accepted read;
  book_has_both = refl;
  both_are_under_grant = ((refl, refl), (refl, refl));
  is_issued = refl;
  is_waiting = refl;
  replies = refl;
  issued_stays = refl;
  grant_is_gone = no_row;
  asks_for_service = refl;
  done = done write;
  request_is = refl;
  answers = contains_here (Answer (done write) outcome.Ok) (End (touch 0 (newly_issued (newly_accepted write))) ∷ Touch (newly_issued (newly_accepted write)) 0 (write.blocks_at_acceptance 0) ∷ []) (Answer (done write) outcome.Ok) refl;
  failing_service = failed;
  failing_runs = (((((empty_starts, ports_fit Ready refl), happens1), happens2), happens3), happens_failed);
  failing_steps_are_faithful = ((((((tt, tt), tt), tt), tt), tt), tt);
  failing_is_service = refl;
  port_is_named_failed = contains_here port [] port refl;
  ready = refl;
  issued_once = refl;
  tells = refl;
  book_becomes_empty = refl;
  frame = nth_frame write.asked.frames.items 0;
  frames_are = refl;
  frame_is_given_back = refl;
}
