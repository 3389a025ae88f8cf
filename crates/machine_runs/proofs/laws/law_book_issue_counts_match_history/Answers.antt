use Rattle.machine_runs.proofs.Issuing.{law_book_issue_counts_match_history}
use Rattle.machine_runs.proofs.laws.law_book_issue_counts_match_history.Goals as goal

pub returns : goal.returns
returns c = law_book_issue_counts_match_history
