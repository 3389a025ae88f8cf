use Rattle.adapter.proofs.Pending.{told_pend}
use Rattle.adapter.proofs.laws.law_interrupting_entries_set_ips_until_written.Goals as goal

pub returns : goal.returns
returns c = told_pend
