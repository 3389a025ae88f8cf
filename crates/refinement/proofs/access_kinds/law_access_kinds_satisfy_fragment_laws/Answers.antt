use Rattle.refinement.proofs.access_kinds.law_access_kinds_satisfy_fragment_laws.Goals as goal

pub returns : goal.returns
returns g c = record {
  empty_fragment_is_simulated = c.law_slot_keeping_accesses_are_simulated.ensures.no_access;
  reads = c.law_slot_keeping_accesses_are_simulated.ensures.reads;
  loads = c.law_slot_keeping_accesses_are_simulated.ensures.loads;
  writes = c.law_slot_keeping_accesses_are_simulated.ensures.writes;
  own_command_is_issued = c.law_slot_keeping_accesses_are_simulated.ensures.own_command_is_issued;
  stores = c.law_free_slot_stores_are_simulated.ensures;
  fragments_join = c.law_fragments_compose.ensures.fragments_join;
  is_of_wider_kind = c.law_fragments_compose.ensures.wider;
  own_command_is_over = c.law_fragments_compose.ensures.own_command_is_over;
  some_machine_agrees = c.law_simulated_fragments_keep_agreement.ensures.agreed;
  unused_slot_gains_no_move = c.law_simulated_fragments_keep_agreement.ensures.gains_no_move;
  works_plainly_still = c.law_simulated_fragments_keep_agreement.ensures.works_plainly_still;
  fragment_is_a_part = c.law_simulated_fragments_are_call_parts.ensures.is_a_part;
  parts_join_by_giving_up = c.law_simulated_fragments_are_call_parts.ensures.giving_up;
}
