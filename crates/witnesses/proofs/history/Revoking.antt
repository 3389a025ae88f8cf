-- The read is issued, and its grant is revoked.
use Rattle.std.proofs.Common.{◌≡◌, ℕ, List, [], ◌∷◌, Some, inr, ⊎_elim, refl, sym, ap, ◌∙◌, arith, append-nil}
use Rattle.std.proofs.lemmas.Bool.{true≢false}
use Rattle.std.proofs.lemmas.List.Elements.{All-nil}
use Rattle.std.proofs.lemmas.List.Sorted.{IsPermutation-refl}
use Rattle.std.specs.List.{Contains}
use Rattle.ata_types.specs.declared.grant.GrantRow.{GrantRow}
use Rattle.ata_types.specs.declared.request.Outcome.{Outcome}
use Rattle.ata_types.specs.declared.request.Outcome.TheVariants as outcome
use Rattle.adapter.specs.Device.{Device}
use Rattle.adapter.specs.declared.access.DeviceStep.{DeviceStep}
use Rattle.refinement.specs.Relation.{port_at}
use Rattle.block_machine.specs.Events.{Happens, RevokeOf, WasRevoked}
use Rattle.block_machine.specs.Histories.{JointEvent}
use Rattle.block_machine.specs.Rules.{HasRow}
use Rattle.block_machine.specs.State.{Pending}
use Rattle.block_machine.specs.Steps.{Answer, Revoke, Step}
use Rattle.identify.specs.declared.wanted.Wanted.TheVariants.{Any}
use Rattle.driver_history.specs.Histories.{StoresOrWritesSactOrCi, CallCorresponds, PortCorresponds}
use Rattle.driver_history.specs.AccessTrace.{WritesNeitherCmdNorSctl}
use Rattle.witnesses.specs.Revocation.{RevocationIsAHistory}
use Rattle.witnesses.proofs.history.Accepting.{asked, both, first, in_book, issued_agrees, issued_at, issued_under, submit, submit_happens, submit_parts, submit_ties, waiting_for}
use Rattle.witnesses.proofs.history.Aging.{not_due, quiet}
use Rattle.witnesses.proofs.history.Command.{read_memory}
use Rattle.witnesses.proofs.history.Holding.{IsCalm, first_slots, no_trouble, unnamed_evidenced}
use Rattle.witnesses.proofs.history.Issuing.{none_named, nothing}
use Rattle.witnesses.proofs.history.Members.{nowhere, only}
use Rattle.witnesses.proofs.history.Pages.{plain_disks}
use Rattle.witnesses.proofs.history.Ready.{begins, client, fit_ready, granted, holds, row, served_ready, starts}
use Rattle.witnesses.proofs.history.Submitting.{issued, submitted}

-- the row that is left
abbrev left : List GrantRow
left = row 1 ∷ []

not_left : HasRow client 0 left → ⊥
not_left (r, here, named) =
    let same : r ≡ row 1 = only (row 1) r here in
    let is : r.number ≡ 0 = named.1 in
    let one : r.number ≡ 1 = ap (λ (x : GrantRow). x.number) same in
    omega (arith, is, one)

abbrev steps : List Step
steps = Revoke client 0 ∷ []

abbrev revoke : JointEvent Device DeviceStep
revoke = record {
  event = record { call = RevokeOf client 0; result = WasRevoked (Some []); evidence = nothing; steps = steps; ports = both };
  device = submitted;
}

-- nobody is answered
unanswered_then : (e : Pending) (o : Outcome) → Contains steps (Answer e o) → ⊥
unanswered_then e o here = let same : Answer e o ≡ Revoke client 0 = only (Revoke client 0) (Answer e o) here in cc

happens : Happens (issued_at 0).abstract revoke.event
happens = record {
  steps_are_enabled = (tt, granted);
  steps_are_of_call = (tt, inr (refl, refl));
  issue_is_last_of_request = (tt, λ id handled issued_in. absurd (true≢false (sym handled)));
  answers_are_lawful = tt;
  ports_are_well_formed = fit_ready plain_disks;
  unanswered_keep_serial_and_size = λ e o here there same. (refl, refl);
  result_matches_steps = record {
    has_row = granted;
    row_is_removed = refl;
    replies_match = record { answers = []; is_permutation = IsPermutation-refl _; ordered = λ i j d less low. absurd (omega (arith, less, low)); replies_are_of_answers = refl };
    waiting_are_revoked = λ e. (
      λ here. absurd (unanswered_then e outcome.Revoked here),
      λ of. absurd (true≢false (sym (ap (λ (x : Pending). x.issued) (in_book 0 e of.0)) ∙ of.1)),
    );
    ports_are_same = λ port. (refl, refl, refl, refl, refl, refl);
    none_is_due_where_ready = λ port is. not_due 0 port;
  };
}

part : (n : ℕ) → PortCorresponds (issued_at 0) revoke [] (port_at n)
part n = record {
  finds_done = tt;
  lone_plain_faults_are_told_unless_dead = tt;
  probes_disk = tt;
  boots_anew = tt;
  loses_no_error = no_trouble nothing (issued_at 0) both submitted (port_at n) [] refl (All-nil (IsCalm n)) (served_ready n) (quiet n);
  runs_well_anew = λ why. absurd (⊎_elim (nowhere (port_at n)) (nowhere (port_at n)) why);
  handles_evidence = λ why. ⊎_elim (nowhere (port_at n)) (nowhere (port_at n)) why;
}

unfoldable ties : CallCorresponds (Any ∷ Any ∷ []) (issued_at 0) revoke
ties = record {
  accesses = [];
  accesses_are_explained = (refl, ((row 0, (0, omega arith, refl), (refl, refl)), All-nil (StoresOrWritesSactOrCi (port_at 0)), λ ready. refl));
  is_backed = record {
    disks_tell_sectors_is_same = refl;
    new_entries = [];
    tape_is = refl;
    tells_device_steps = (tt, λ d. d);
    steps_are_faithful = λ _. (tt, tt);
    plugged_disks_match_steps = λ port. ([], sym (append-nil (submitted.port port).plug_history), refl);
  };
  is_evidenced = record {
    faults_are_told = λ f here. absurd (nowhere f here);
    each_port_is_evidenced = λ port. unnamed_evidenced (RevokeOf client 0) (WasRevoked (Some [])) [] (issued_at 0) both submitted nothing (port_at port.0) (none_named (port_at port.0)) (quiet port.0) (All-nil (WritesNeitherCmdNorSctl (port_at port.0)));
  };
  only_failed_requeue_if_service = tt;
  issues_all_due = λ port is r here at_port. (λ f. absurd (true≢false (sym f)), λ due. absurd (not_due 0 port r at_port due));
  ports_correspond = λ port. part port.0;
  invariant_holds = (first_slots, holds plain_disks first_slots (issued_under left 0) [] read_memory issued (issued_agrees left 0));
}

pub revocation_is_a_history : RevocationIsAHistory
unfolding ties
revocation_is_a_history = record {
  initial_state = first;
  submit = submit;
  asked = asked;
  submits = (refl, refl);
  revoke = revoke;
  revokes = (refl, refl);
  issued = waiting_for 0;
  book = refl;
  read_stays_issued = (refl, refl);
  grant_is_gone = not_left;
  history = ((((starts, fit_ready plain_disks), begins plain_disks), submit_happens, submit_ties), happens, ties);
  accesses = refl;
  submit_corresponds = submit_parts;
  revoke_corresponds = λ port. part port.0;
}
