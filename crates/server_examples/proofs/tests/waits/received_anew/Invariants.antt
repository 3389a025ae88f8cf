use Rattle.std.specs.Prelude.{⊤}
use Rattle.refinement.specs.Fragments.{AnySlotStates, ReadsPortOrWrites}
use Rattle.port_control.specs.Ports.{IsCommandRegister}
use Rattle.server_examples.proofs.tests.waits.received_anew.Given as goal

-- accesses of the port's engine, with any use of the slots
abbrev pub ghosts-law_simulated_fragments_keep_agreement : goal.ghosts-law_simulated_fragments_keep_agreement
ghosts-law_simulated_fragments_keep_agreement a args = record { Kind = ⊤; may = λ kind. ReadsPortOrWrites IsCommandRegister (record { 0 = 0 }); fits = λ kind. AnySlotStates }
