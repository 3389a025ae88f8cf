use Rattle.hba_regs.specs.declared.reg.Reg.TheVariants.{Cap, Pi}
use Rattle.adapter.specs.Access.Access.{Reading}
use Rattle.host_boot.specs.TakeOver.{ReadsCapOrPi}
use Rattle.host_boot.proofs.Hosting.{cap_followed, pi_followed, cap_on, pi_on, cap_is, pi_is, hosted_then}
use Rattle.host_boot.proofs.Leaving.{cap_leaves, pi_leaves}
use Rattle.host_boot.proofs.survey.Goals as goal
use Rattle.host_boot.proofs.Stretching.{by_one, by_then}

pub read-implemented-requires : goal.read-implemented-requires
read-implemented-requires g c = cap_on c.law_prerequisites.ensures _ _ _ c.requires.adapter_is_on c.read.ensures.does

pub returns-clause-adapter_is_on : goal.returns-clause-adapter_is_on
returns-clause-adapter_is_on g c = pi_on c.law_prerequisites.ensures _ _ _ (cap_on c.law_prerequisites.ensures _ _ _ c.requires.adapter_is_on c.read.ensures.does) c.read-implemented.ensures.does

pub returns-clause-leaves : goal.returns-clause-leaves
returns-clause-leaves g c = λ port.
    c.law_prerequisites.ensures.leaves_port_is_transitive _ _ _ (cap_leaves c.law_prerequisites.ensures _ c.requires.adapter_is_on.no_reset port _ _ c.read.ensures.does)
    (pi_leaves c.law_prerequisites.ensures _ (cap_on c.law_prerequisites.ensures _ _ _ c.requires.adapter_is_on c.read.ensures.does).no_reset port _ _ c.read-implemented.ensures.does)

pub returns-clause-followed : goal.returns-clause-followed
returns-clause-followed g c = hosted_then c.law_prerequisites.ensures _ _ _ (cap_followed c.law_prerequisites.ensures _ _ _ c.read.ensures.does) (pi_followed c.law_prerequisites.ensures _ _ _ c.read-implemented.ensures.does)

pub returns-clause-told : goal.returns-clause-told
returns-clause-told g c = (cap_is c.law_prerequisites.ensures _ _ _ _ _ c.read.ensures.does c.read-implemented.ensures.does, pi_is _ _ _ c.read-implemented.ensures.does)

pub returns-clause-surveys : goal.returns-clause-surveys
returns-clause-surveys g c = by_then c.law_prerequisites.ensures (by_one ReadsCapOrPi (Reading Cap c.read.result) _ _ tt c.read.ensures.does) (by_one ReadsCapOrPi (Reading Pi c.read-implemented.result) _ _ tt c.read-implemented.ensures.does)
