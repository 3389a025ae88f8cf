use Rattle.port_driver.proofs.Mending.{none_queued}
use Rattle.port_driver.proofs.recovery.is_any_queued.Goals as goal

pub returns-in_default : goal.returns-in_default
returns-in_default c = none_queued c.args.slots.now c.requires.places c.in_default.ensures.no_such_slot
