use Rattle.command_table.proofs.Storing.{table_is_of, table_spares}
use Rattle.command_table.proofs.laws.law_table_stores_touch_no_register.Goals as goal

pub returns-clause-spares_other_ports : goal.returns-clause-spares_other_ports
returns-clause-spares_other_ports c = λ port. table_is_of port port.0

pub returns-clause-of_any_port : goal.returns-clause-of_any_port
returns-clause-of_any_port c = table_is_of

pub returns-clause-writes_no_register : goal.returns-clause-writes_no_register
returns-clause-writes_no_register c = table_spares
