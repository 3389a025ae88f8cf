use Rattle.hba_regs.specs.declared.reg.PortReg.TheVariants.{Ci}
use Rattle.std.proofs.Common.{◌≢◌, refl}
use Rattle.refinement.specs.Slots.{IsMove}
use Rattle.refinement.proofs.device.TapeGains.{gains_more}
use Rattle.refinement.proofs.driver.UnmovingPort.{steps_unmoving, access_unmoving, controls_unmoving}
use Rattle.refinement.proofs.fragments.law_port_without_command_gains_no_move.Goals as goal

pub returns-clause-steps : goal.returns-clause-steps
returns-clause-steps c = steps_unmoving c.law_prerequisites.ensures

pub returns-clause-access : goal.returns-clause-access
returns-clause-access c = access_unmoving c.law_prerequisites.ensures

pub returns-clause-port_accesses_gain_no_move : goal.returns-clause-port_accesses_gain_no_move
returns-clause-port_accesses_gain_no_move c = controls_unmoving c.law_prerequisites.ensures (λ r. r ≢ Ci) (λ same. same refl)

pub returns-clause-transitive : goal.returns-clause-transitive
returns-clause-transitive c = λ port o. gains_more (IsMove port o)
