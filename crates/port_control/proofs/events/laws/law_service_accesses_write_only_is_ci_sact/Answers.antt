use Rattle.std.proofs.Common.{sym}
use Rattle.port_control.proofs.looks.Serving.{spares_ghc, spares_port}
use Rattle.port_control.proofs.events.laws.law_service_accesses_write_only_is_ci_sact.Goals as goal

pub returns-clause-ghc_is_unwritten : goal.returns-clause-ghc_is_unwritten
returns-clause-ghc_is_unwritten c = spares_ghc

pub returns-clause-port_register_is_unwritten : goal.returns-clause-port_register_is_unwritten
returns-clause-port_register_is_unwritten c = λ port r one two three. spares_port port r (λ same. one (sym same)) (λ same. two (sym same)) (λ same. three (sym same))
