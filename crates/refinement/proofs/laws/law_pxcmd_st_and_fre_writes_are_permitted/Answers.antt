use Rattle.refinement.proofs.device.AllowedWrites.{starting_may, stopping_may, receiving_may, no_receiving_may}
use Rattle.refinement.proofs.laws.law_pxcmd_st_and_fre_writes_are_permitted.Goals as goal

pub returns-clause-start : goal.returns-clause-start
returns-clause-start c = starting_may

pub returns-clause-stop : goal.returns-clause-stop
returns-clause-stop c = stopping_may

pub returns-clause-receive : goal.returns-clause-receive
returns-clause-receive c = receiving_may

pub returns-clause-stop_receiving : goal.returns-clause-stop_receiving
returns-clause-stop_receiving c = no_receiving_may
