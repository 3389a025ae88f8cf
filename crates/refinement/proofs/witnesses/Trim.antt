-- A trim, from its issue to its end.
use Rattle.std.proofs.Common.{ℕ, ◌≡◌, ◌<◌, ◌&&◌, Bool, true, false, List, [], ◌∷◌, All, nat_lt, Some, refl, sym, ◌∙◌, ap, arith, inl, inr, ltb-true}
use Rattle.std.specs.List.{Contains}
use Rattle.std.proofs.lemmas.Bool.{and_parts, false≢true, true≢false}
use Rattle.std.proofs.lemmas.List.Elements.{All-nil, All-cons}
use Rattle.adapter.specs.Device.{FetchedCommand, Device}
use Rattle.adapter.specs.FirstRead.{first_memory}
use Rattle.adapter.specs.Memory.{patched, bytes_at, changed}
use Rattle.adapter.specs.Steps.{Can, Steps, device_after, newly_fetched}
use Rattle.adapter.specs.Steps.DeviceTransition.{Fetch, Move, Clear, Done}
use Rattle.adapter.specs.Trim.{trim_sectors, consecutive}
use Rattle.adapter.specs.declared.command.Operation.TheVariants.{Trim}
use Rattle.adapter.proofs.MemoryLemmas.{patched_bytes}
use Rattle.block_machine.specs.Histories.{IsReachable}
use Rattle.block_machine.specs.State.{Accepted, Pending, Machine, unanswered}
use Rattle.block_machine.specs.Steps.{Accept, Issue, IsEnabled, after_step, newly_accepted, newly_issued}
use Rattle.block_machine.proofs.Members.{contains_here, contains_none, into_map}
use Rattle.refinement.specs.StepLaws.{StepLaws}
use Rattle.refinement.specs.Relation.{port_at}
use Rattle.refinement.specs.Driver.{DriverRelation, IsRequestPreparedToIssue, idle_driver_state}
use Rattle.refinement.specs.MemoryLayout.{scratch_frame_address}
use Rattle.refinement.specs.Slots.{Free, Serves, SlotDecodesTo}
use Rattle.refinement.specs.TrimWitness.{trim_meaning_without_range, example_trim_block, trim_memory, prepared_trim, issued_trim, taken_trim, trim_driver_state, TrimAgrees}
use Rattle.refinement.specs.ReadWitness.{first_id, first_slot_states}
use Rattle.refinement.proofs.witnesses.AcceptedRequests.{accepted_of, has_its_grant, trim_of, trim_is_new}
use Rattle.refinement.proofs.driver.OwnSteps.{accept_knows}
use Rattle.refinement.proofs.witnesses.EndedRead.{done_is_known}
use Rattle.refinement.proofs.steps.FollowedSteps.{silent_agrees}
use Rattle.refinement.proofs.driver.PermittedAccesses.{issue_is_permitted}
use Rattle.refinement.proofs.driver.PutSlot.{put_same, issue_agrees, issue_have}
use Rattle.refinement.proofs.witnesses.SpeltSlot.{page_told, zeros_from}
use Rattle.refinement.proofs.steps.TakenCommand.{fetch_follows}
use Rattle.refinement.proofs.witnesses.FirstRead.{start_with, starts_with, plain, ready_knows, can_take, bit_one_other}

-- ---- what the bytes say

told : SlotDecodesTo trim_memory 0 0 0 trim_meaning_without_range (scratch_frame_address 0 ∷ [])
unfolding trim_memory first_memory patched bytes_at zeros_from
told = page_told trim_memory Trim refl refl (refl, refl, refl) (refl, refl, refl, refl, refl, refl, refl, refl) (refl, refl, refl)

-- the block stands in the scratch frame, and names eight sectors
block_is : bytes_at trim_memory (scratch_frame_address 0) 512 ≡ example_trim_block
unfolding trim_memory
block_is = patched_bytes _ (scratch_frame_address 0) example_trim_block

block_means : trim_sectors example_trim_block ≡ consecutive 100 8
block_means = refl

-- ---- the machine

abbrev start : Machine
start = start_with trim_memory

abbrev request : Accepted
request = accepted_of start (trim_of 100)

abbrev accepted : Machine
accepted = after_step start (Accept request)

accepted_reached : IsReachable accepted
accepted_reached = record {
  initial_machine = start;
  steps_since = Accept request ∷ [];
  is_initial = starts_with trim_memory;
  steps_since_are_enabled = (tt, trim_is_new start 100 refl (omega arith) (omega arith) (omega arith) (omega arith));
  leads_to_machine = refl;
}

abbrev waits : Pending
waits = newly_accepted request

waits_in : Contains accepted.book waits
waits_in = contains_here waits [] waits refl

may_issue : IsEnabled accepted (Issue plain waits)
may_issue = (waits_in, record { is_in_book = into_map unanswered accepted.book waits waits_in; waits_and_nothing_blocks = refl; slot_is_left = λ h. absurd (true≢false h) }, λ e h. absurd (contains_none e h), has_its_grant refl)

abbrev issued : Machine
issued = after_step accepted (Issue plain waits)

reached : StepLaws → IsReachable issued
reached laws = laws.reachable_goes_on accepted (Issue plain waits ∷ []) accepted_reached (tt, may_issue)

-- ---- it is issued, and taken

accepted_knows : DriverRelation accepted (idle_driver_state prepared_trim)
accepted_knows = accept_knows (idle_driver_state prepared_trim) start request (ready_knows trim_memory)

prepared : IsRequestPreparedToIssue (idle_driver_state prepared_trim).slot_states accepted prepared_trim 0 0 plain waits 1
unfolding changed
prepared = record {
  issue_is_enabled = may_issue;
  port_is = refl;
  armed_if_queued_else_free = refl;
  slot_is_usable = omega arith;
  plain_is_in_slot_0 = λ _. refl;
  st_is_set = refl;
  list_is_in_place = record { port_below = omega arith; slot_below = omega arith; list = refl };
  command = trim_meaning_without_range;
  places = scratch_frame_address 0 ∷ [];
  slot_decodes_to = told;
  means = record { op_is = refl; first_sector_is_if_it_moves_sectors = λ h. absurd (false≢true h); places_are = refl; trim_is_in_slot_0 = λ _. refl };
  queued_as_request = refl;
  has_block_if_trim = ap trim_sectors block_is ∙ block_means;
  bit_is_set = refl;
  no_other_bit_is_set = bit_one_other;
}

issued_knows : DriverRelation issued trim_driver_state
issued_knows = record {
  state_relation = issue_agrees (idle_driver_state prepared_trim).slot_states accepted prepared_trim accepted_reached accepted_knows.state_relation 0 0 plain waits 1 prepared;
  have_slots_unless_parked = λ q. issue_have (idle_driver_state prepared_trim).slot_states accepted prepared_trim accepted_reached accepted_knows.state_relation 0 0 plain waits 1 prepared q [] (accepted_knows.have_slots_unless_parked q);
}

can_fetch : Can (Fetch 0 0 trim_meaning_without_range (scratch_frame_address 0 ∷ [])) issued_trim
can_fetch = can_take trim_memory trim_meaning_without_range (scratch_frame_address 0 ∷ []) told.decodes_to

-- ---- and done

abbrev brought : FetchedCommand
brought = record (newly_fetched trim_meaning_without_range (scratch_frame_address 0 ∷ [])) { moved = 1; block = example_trim_block }

abbrev cleared : FetchedCommand
cleared = record brought { cleared = 8 }

abbrev moved : Device
moved = device_after (Move 0 0 (newly_fetched trim_meaning_without_range (scratch_frame_address 0 ∷ [])) example_trim_block) taken_trim

abbrev zeroed : Device
zeroed = device_after (Clear 0 0 brought 100 8) moved

abbrev ended : Device
ended = device_after (Done 0 0 0 cleared) zeroed

-- its bytes are bytes
are_small : List ℕ → Bool
are_small [] = true
are_small (b ∷ bytes) = nat_lt b 256 && are_small bytes

all_small : (bytes : List ℕ) → are_small bytes ≡ true → All (λ b. b < 256) bytes
unfolding are_small
all_small [] h = All-nil (λ b. b < 256)
all_small (b ∷ bytes) h = let x = and_parts _ _ h in All-cons (λ b. b < 256) b bytes (ltb-true b 256 x.0) (all_small bytes x.1)

small : All (λ b. b < 256) example_trim_block
unfolding are_small
small = all_small example_trim_block refl

can_move : Can (Move 0 0 (newly_fetched trim_meaning_without_range (scratch_frame_address 0 ∷ [])) example_trim_block) taken_trim
unfolding changed
can_move = record {
  works = record { taken = refl; working = record { cr_is_set = refl; present = refl; fresh = refl; admitted = refl; is_not_broken = refl } };
  piece_is_left = omega arith;
  bytes_are_sector = (refl, small);
  brings = sym block_is;
}

can_clear : Can (Clear 0 0 brought 100 8) moved
unfolding changed
can_clear = record {
  works = record { taken = refl; working = record { cr_is_set = refl; present = refl; fresh = refl; admitted = refl; is_not_broken = refl } };
  trim = refl;
  block_is_moved = refl;
  first_is_next = refl;
  sectors_follow = refl;
  inside = inr (omega arith);
}

can_end : Can (Done 0 0 0 cleared) zeroed
unfolding changed
can_end = record {
  works = record { taken = refl; working = record { cr_is_set = refl; present = refl; fresh = refl; admitted = refl; is_not_broken = refl } };
  finished = record { all_is_moved = refl; all_is_cleared = λ _. refl };
  cause_is_allowed = inl refl;
}

comes : Steps issued_trim ended
comes = record {
  steps = Fetch 0 0 trim_meaning_without_range (scratch_frame_address 0 ∷ []) ∷ Move 0 0 (newly_fetched trim_meaning_without_range (scratch_frame_address 0 ∷ [])) example_trim_block ∷ Clear 0 0 brought 100 8 ∷ Done 0 0 0 cleared ∷ [];
  lead = (can_fetch, (can_move, (can_clear, (can_end, refl))));
}

bits : ((issued_trim.port 0).st ≡ true) × ((ended.port 0).ci 0 ≡ false) × ((ended.port 0).sact 0 ≡ false) × ((taken_trim.port 0).taken 0 ≡ Some (newly_fetched trim_meaning_without_range (scratch_frame_address 0 ∷ [])))
unfolding changed
bits = (refl, refl, refl, refl)

pub trim_is_known : StepLaws → TrimAgrees
trim_is_known laws = record {
  machine = issued;
  reached = (reached laws);
  request = newly_issued waits;
  may_still_move = inl (contains_here (newly_issued waits) [] (newly_issued waits) refl, refl);
  id_is = refl;
  op_is = refl;
  permitted = issue_is_permitted laws (idle_driver_state prepared_trim).slot_states accepted prepared_trim accepted_reached accepted_knows.state_relation (port_at 0) 0 plain waits 1
      (record { ae_is_set = refl; no_reset = refl }) (omega arith, refl) (omega arith) prepared;
  issued = issued_knows;
  takes = record { steps = (Fetch 0 0 trim_meaning_without_range (scratch_frame_address 0 ∷ [])) ∷ []; lead = (can_fetch, refl) };
  taken = bits.3;
  driver_relation = record {
    state_relation = silent_agrees first_slot_states issued issued_trim taken_trim (fetch_follows first_slot_states issued issued_trim issued_knows.state_relation 0 0 trim_meaning_without_range (scratch_frame_address 0 ∷ []) can_fetch) refl;
    have_slots_unless_parked = issued_knows.have_slots_unless_parked;
  };
  done = done_is_known laws trim_driver_state issued (reached laws) issued_knows first_id (put_same (λ _ _. Free) 0 0 (Serves first_id)) refl ended comes refl bits.0 bits.1 bits.2;
}
