use Rattle.std.proofs.Common.{inr, refl}
use Rattle.hba_regs.specs.declared.reg.PortReg.TheVariants.{Ssts}
use Rattle.hba_regs.specs.declared.reg.Reg.TheVariants.{Px}
use Rattle.adapter.specs.Access.Access.{Reading}
use Rattle.port_control.specs.EventLaws.AccessPurpose.{TakingEvents}
use Rattle.port_control.proofs.looks.Stretching.{spared_on}
use Rattle.port_control.proofs.events.has_device.Goals as goal

pub returns-clause-adapter_is_on : goal.returns-clause-adapter_is_on
returns-clause-adapter_is_on g c = spared_on c.law_prerequisites.ensures (Reading (Px c.args.port Ssts) c.read.result) _ _ tt c.read.ensures.does c.requires.adapter_is_on

pub returns-clause-finds : goal.returns-clause-finds
returns-clause-finds g c = record { status = c.read.result; reads = c.read.ensures.does; result_is = c.shows_linked_device.ensures }

pub returns-clause-followed : goal.returns-clause-followed
returns-clause-followed g c = (c.law_prerequisites.ensures.fragments.reads (TakingEvents c.args.port) (Px c.args.port Ssts) c.read.result _ _ (inr refl) c.read.ensures.does).is_simulated
