use Rattle.port_boot.proofs.Identifying.{page_on}
use Rattle.port_boot.proofs.Staying.{disk_on, ready_on, ends_on}
use Rattle.port_boot.proofs.laws.law_boot_findings_stay_until_next_port_boot.Goals as goal

pub returns-clause-page : goal.returns-clause-page
returns-clause-page c = page_on

pub returns-clause-disk : goal.returns-clause-disk
returns-clause-disk c = disk_on

pub returns-clause-ready : goal.returns-clause-ready
returns-clause-ready c = λ wanted port old new info left. ready_on port old new left wanted info

pub returns-clause-state_stays_backed : goal.returns-clause-state_stays_backed
returns-clause-state_stays_backed c = λ wanted state port old new left. ends_on port old new left wanted state
