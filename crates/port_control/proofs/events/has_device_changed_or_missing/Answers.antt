use Rattle.port_control.proofs.looks.Looking.{one_on, one_there, changing_on, changing_followed}
use Rattle.port_control.proofs.events.has_device_changed_or_missing.Goals as goal

pub read-requires-2 : goal.read-requires-2
read-requires-2 g c =
    (one_on c.law_prerequisites.ensures c.args.port _ _ _ c.requires.adapter_is_on c.requires.has_port c.read.ensures.does, one_there c.law_prerequisites.ensures c.args.port _ _ _ c.requires.adapter_is_on c.requires.has_port c.read.ensures.does)

pub returns-clause-adapter_is_on : goal.returns-clause-adapter_is_on
returns-clause-adapter_is_on g c = changing_on c.law_prerequisites.ensures c.args.port _ _ _ c.requires.adapter_is_on c.requires.has_port c.read.ensures.does _ _ c.read-2.ensures.does

pub returns-clause-finds : goal.returns-clause-finds
returns-clause-finds g c = record {
  causes = c.read.result;
  after_is_read = _;
  reads = c.read.ensures.does;
  status = c.read-2.result;
  reads_status = c.read-2.ensures.does;
  result_is = c.tells_change.ensures;
}

pub returns-clause-followed : goal.returns-clause-followed
returns-clause-followed g c = changing_followed c.law_prerequisites.ensures c.args.port _ _ _ c.requires.adapter_is_on c.requires.has_port c.read.ensures.does _ _ c.read-2.ensures.does
