use Rattle.std.proofs.Common.{subst}
use Rattle.ata_types.specs.declared.Port.{Port}
use Rattle.refinement.specs.Fragments.{ReadsPortOrWrites, IsSimulated}
use Rattle.refinement.specs.Driver.{AllFree}
use Rattle.port_control.specs.Ports.{IsCommandRegister}
use Rattle.port_control.specs.Calls.{Starts}
use Rattle.error_recovery.proofs.Starting.{goes_on}
use Rattle.error_recovery.proofs.start_again.Goals as goal

pub returns-clause-goes : goal.returns-clause-goes
returns-clause-goes g c =
    let s = c.start.ensures in
    let may = c.requires.may in
    let same = c.keep_receiving-receiving.ensures in
    let S : Port → Type 0 = λ p. IsSimulated (ReadsPortOrWrites IsCommandRegister p) (λ uses. AllFree uses p.0) (g.A.Adapter.device c.args.adapter.now) (g.A.Adapter.device c.start.new.adapter)
    × Starts p (g.A.Adapter.device c.args.adapter.now) (g.A.Adapter.device c.start.new.adapter) in
    let started = subst S same (s.followed, s.starts) in
    goes_on c.law_prerequisites.ensures c.args.stopped.port _ _ may started.0 s.adapter_is_on started.1
