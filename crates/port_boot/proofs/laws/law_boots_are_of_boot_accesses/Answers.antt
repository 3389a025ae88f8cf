use Rattle.std.proofs.Common.{inl}
use Rattle.port_control.specs.Engines.{StopsEachEngine}
use Rattle.port_boot.specs.Laws.RegisterSet.{BootRegisters, CommandRegister}
use Rattle.port_boot.specs.States.{StopsReceivingAndStartedEngine}
use Rattle.port_boot.proofs.Bringing.{starting}
use Rattle.port_boot.proofs.Staying.{boot_driven}
use Rattle.port_boot.proofs.laws.law_boots_are_of_boot_accesses.Goals as goal

pub returns-clause-boots : goal.returns-clause-boots
returns-clause-boots c = λ port state old new. boot_driven (StopsReceivingAndStartedEngine port state) port old new state

pub returns-clause-stops : goal.returns-clause-stops
returns-clause-stops c = λ port state old new. boot_driven (StopsEachEngine port) port old new state

pub returns-clause-cmd_access_is_boot_access : goal.returns-clause-cmd_access_is_boot_access
returns-clause-cmd_access_is_boot_access c = λ port access is. inl (c.law_prerequisites.ensures.control_of_larger_set CommandRegister BootRegisters port starting access is)
