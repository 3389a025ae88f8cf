use Rattle.error_recovery.proofs.Quieting.{quiets, read_agreed, read_room, read_stuck, stopped_agreed, stopped_det, stopped_receives, stopped_room, stopped_undue}
use Rattle.error_recovery.proofs.stop_and_clear.Goals as goal

pub stop-requires : goal.stop-requires
stop-requires g c = record {
  on_and_agrees = record {
    adapter_is_on = (read_room c.law_prerequisites.ensures c.args.port _ _ _ c.requires.room c.requires.may c.requires.some_machine_agrees c.read.ensures.does).adapter_is_on;
    has_port = (read_room c.law_prerequisites.ensures c.args.port _ _ _ c.requires.room c.requires.may c.requires.some_machine_agrees c.read.ensures.does).has_port;
    machine_is_related = read_agreed c.law_prerequisites.ensures c.args.port _ _ _ c.requires.room c.requires.may c.requires.some_machine_agrees c.read.ensures.does;
  };
}

pub returns-in_default-clause-sticks : goal.returns-in_default-clause-sticks
returns-in_default-clause-sticks g c = read_stuck c.law_prerequisites.ensures c.args.port _ _ _ c.requires.room c.requires.may c.requires.some_machine_agrees c.read.ensures.does _ c.stop.ensures.st_is_cleared c.in_default.ensures.fails.2

pub clear_error_state-shown-requires : goal.clear_error_state-shown-requires
clear_error_state-shown-requires g c = record {
  may = record {
    adapter_is_on = c.stop.ensures.adapter_is_on;
    has_port = (stopped_room c.law_prerequisites.ensures c.args.port _ _ _ c.requires.room c.requires.may c.requires.some_machine_agrees c.read.ensures.does _ c.stop.ensures.st_is_cleared c.in-Ok.ensures.stops).has_port;
    machine_is_related = stopped_agreed c.law_prerequisites.ensures c.args.port _ _ _ c.requires.room c.requires.may c.requires.some_machine_agrees c.read.ensures.does _ c.stop.ensures.st_is_cleared c.in-Ok.ensures.stops;
    receives = stopped_receives c.law_prerequisites.ensures c.args.port _ _ _ c.requires.room c.requires.may c.requires.some_machine_agrees c.read.ensures.does _ c.stop.ensures.st_is_cleared c.in-Ok.ensures.stops;
    no_link_is_due = stopped_undue c.law_prerequisites.ensures c.args.port _ _ _ c.requires.room c.requires.may c.requires.some_machine_agrees c.read.ensures.does _ c.stop.ensures.st_is_cleared c.in-Ok.ensures.stops;
    no_comreset = stopped_det c.law_prerequisites.ensures c.args.port _ _ _ c.requires.room c.requires.may c.requires.some_machine_agrees c.read.ensures.does _ c.stop.ensures.st_is_cleared c.in-Ok.ensures.stops;
  };
}

pub returns-clause-quiets : goal.returns-clause-quiets
returns-clause-quiets g c = (
  c.in-Ok.ensures.token_is_of_port,
  quiets c.law_prerequisites.ensures c.args.port _ _ _ c.requires.room c.requires.may c.requires.some_machine_agrees c.read.ensures.does _ c.stop.ensures.st_is_cleared c.in-Ok.ensures.stops _ _
      c.clear_error_state-shown.ensures.followed c.clear_error_state-shown.ensures.forgets,
)
