use Rattle.std.proofs.Common.{rules}
use Rattle.configuration.proofs.Config.from_table.Goals as goal

pub returns-in_err-is_set-clause-none : goal.returns-in_err-is_set-clause-none
returns-in_err-is_set-clause-none c = λ fault d spelled. c.in_err-is_set.ensures.none (search rules) d.cache spelled.cache
