use Rattle.port_control.proofs.Ceasing.{receive_may, receive_done}
use Rattle.port_control.proofs.start_receiving.Goals as goal

pub write-requires : goal.write-requires
write-requires g c = receive_may c.law_prerequisites.ensures _ _ _ _ _ c.requires.usable c.read.ensures.does c.requires.quiet c.requires.bases c.with_receive.ensures.set c.with_receive.ensures.others_are_kept

pub returns-clause-followed : goal.returns-clause-followed
returns-clause-followed g c = (receive_done c.law_prerequisites.ensures _ _ _ _ _ c.requires.usable c.read.ensures.does c.requires.quiet c.requires.bases c.with_receive.ensures.set c.with_receive.ensures.others_are_kept _ c.write.ensures.does).0

pub returns-clause-receives : goal.returns-clause-receives
returns-clause-receives g c = (receive_done c.law_prerequisites.ensures _ _ _ _ _ c.requires.usable c.read.ensures.does c.requires.quiet c.requires.bases c.with_receive.ensures.set c.with_receive.ensures.others_are_kept _ c.write.ensures.does).1

pub returns-clause-same : goal.returns-clause-same
returns-clause-same g c = (receive_done c.law_prerequisites.ensures _ _ _ _ _ c.requires.usable c.read.ensures.does c.requires.quiet c.requires.bases c.with_receive.ensures.set c.with_receive.ensures.others_are_kept _ c.write.ensures.does).2
