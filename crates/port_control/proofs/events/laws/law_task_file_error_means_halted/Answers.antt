use Rattle.port_control.proofs.looks.Failing.{finds_fault, finds_link, law_link_is_same_or_comes_up_without_plugs, reading_on}
use Rattle.hba_regs.specs.declared.reg.Reg.TheVariants.{Px}
use Rattle.port_control.proofs.events.laws.law_task_file_error_means_halted.Goals as goal

pub returns-clause-look_finds_fault : goal.returns-clause-look_finds_fault
returns-clause-look_finds_fault c = λ port old new on l st recorded.
    let laws = c.law_prerequisites.ensures in
    ((finds_fault laws port old new on l st recorded).halted, finds_link laws port old new on l st recorded)

pub returns-clause-reads_keep_fault : goal.returns-clause-reads_keep_fault
returns-clause-reads_keep_fault c = λ port r v old new on reads other st recorded halted.
    let laws = c.law_prerequisites.ensures in
    ((reading_on laws port (Px port r) v old new on reads (record { st = st; recorded = recorded; halted = halted })).halted, law_link_is_same_or_comes_up_without_plugs laws port r v old new other reads)
