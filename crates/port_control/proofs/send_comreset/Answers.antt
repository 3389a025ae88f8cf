use Rattle.std.proofs.Common.{inr, refl}
use Rattle.port_control.proofs.Resetting.{sctl_may, ending_may, reset_followed, reset_receives, was_reset, reset_awaited, reset_coming}
use Rattle.port_control.proofs.send_comreset.Goals as goal

pub write-requires : goal.write-requires
write-requires g c = sctl_may c.law_prerequisites.ensures c.args.port 1 _ c.requires.usable c.requires.receives (inr refl)

pub write-requires-2 : goal.write-requires-2
write-requires-2 g c = ending_may c.law_prerequisites.ensures _ _ _ c.requires.usable c.requires.receives c.write.ensures.does

pub returns-clause-followed : goal.returns-clause-followed
returns-clause-followed g c = reset_followed c.law_prerequisites.ensures _ _ _ c.requires.usable c.requires.receives c.write.ensures.does _ c.write-2.ensures.does

pub returns-clause-sends : goal.returns-clause-sends
returns-clause-sends g c = record {
  comreset_is_sent = was_reset c.law_prerequisites.ensures _ _ _ c.requires.usable c.requires.receives c.write.ensures.does _ c.write-2.ensures.does;
  receives = reset_receives c.law_prerequisites.ensures _ _ _ c.requires.usable c.requires.receives c.write.ensures.does _ c.write-2.ensures.does;
  shows_drq_till_link = reset_awaited c.law_prerequisites.ensures _ _ _ c.requires.usable c.requires.receives c.write.ensures.does _ c.write-2.ensures.does;
  link_is_up_if_det_3_unless_disk_comes = reset_coming c.law_prerequisites.ensures _ _ _ c.requires.usable c.requires.receives c.write.ensures.does _ c.write-2.ensures.does;
}
