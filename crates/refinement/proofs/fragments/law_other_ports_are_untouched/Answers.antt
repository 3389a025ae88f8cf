use Rattle.std.proofs.Common.{refl}
use Rattle.hba_regs.specs.declared.reg.PortReg.TheVariants.{Sact, Ci}
use Rattle.refinement.specs.Fragments.{AnyAccess, AccessesNoOtherPort}
use Rattle.refinement.proofs.driver.PortAccesses.{leaves_none, leaves_more, other_left, other_recorded, of_spares_ghc, of_spares_others, on_over, same_over, tape_over}
use Rattle.refinement.proofs.driver.Stretches.{followed_silent}
use Rattle.refinement.proofs.fragments.law_other_ports_are_untouched.Goals as goal

pub returns-clause-other_port_is_untouched : goal.returns-clause-other_port_is_untouched
returns-clause-other_port_is_untouched c = λ port q old new other on driven. other_left port old new driven q other on

pub returns-clause-recorded : goal.returns-clause-recorded
returns-clause-recorded c = λ port q old new other driven. other_recorded port old new driven q other

pub returns-clause-reflexive : goal.returns-clause-reflexive
returns-clause-reflexive c = leaves_none

pub returns-clause-transitive : goal.returns-clause-transitive
returns-clause-transitive c = leaves_more

pub returns-clause-adapter_stays_on : goal.returns-clause-adapter_stays_on
returns-clause-adapter_stays_on c = λ port old new on driven. on_over (AccessesNoOtherPort port) old new driven (of_spares_ghc port) on

pub returns-clause-adapter_is_same : goal.returns-clause-adapter_is_same
returns-clause-adapter_is_same c = same_over AnyAccess

pub returns-clause-tape_grows : goal.returns-clause-tape_grows
returns-clause-tape_grows c = tape_over AnyAccess

pub returns-clause-silent : goal.returns-clause-silent
returns-clause-silent c = λ port q uses next o old new other followed a own none.
    (followed_silent c.law_prerequisites.ensures) followed uses a.parked a.machine refl a.reached a.driver_relation q o own (of_spares_others port q Ci other) (of_spares_others port q Sact other) none

pub returns-clause-spares : goal.returns-clause-spares
returns-clause-spares c = of_spares_others

pub returns-clause-spares_host : goal.returns-clause-spares_host
returns-clause-spares_host c = of_spares_ghc
