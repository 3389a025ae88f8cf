use Rattle.refinement.proofs.driver.GivenUpSlots.{given_up_over, given_up_halted, all_free, others_same, parks_all, still_parked, ids_served, parking_frees_all, parking_leaves_all}
use Rattle.refinement.proofs.giving_up.law_giving_up_stopped_port_slots_agrees.Goals as goal

pub returns-clause-over : goal.returns-clause-over
returns-clause-over c = given_up_over

pub returns-clause-engine_stopped : goal.returns-clause-engine_stopped
returns-clause-engine_stopped c = given_up_halted

pub returns-clause-given_up_port_is_free : goal.returns-clause-given_up_port_is_free
returns-clause-given_up_port_is_free c = all_free

pub returns-clause-others : goal.returns-clause-others
returns-clause-others c = others_same

pub returns-clause-parks : goal.returns-clause-parks
returns-clause-parks c = λ k m port slot id a u. parks_all k port m slot id a u

pub returns-clause-keeps : goal.returns-clause-keeps
returns-clause-keeps c = still_parked

pub returns-clause-ids_in_slots_are_served : goal.returns-clause-ids_in_slots_are_served
returns-clause-ids_in_slots_are_served c = ids_served

pub returns-clause-frees : goal.returns-clause-frees
returns-clause-frees c = parking_frees_all

pub returns-clause-leaves : goal.returns-clause-leaves
returns-clause-leaves c = parking_leaves_all
