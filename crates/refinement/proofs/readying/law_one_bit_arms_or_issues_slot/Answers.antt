use Rattle.refinement.proofs.driver.IssueWrite.{bit_arms, bit_issues}
use Rattle.refinement.proofs.readying.law_one_bit_arms_or_issues_slot.Goals as goal

pub returns-clause-arms : goal.returns-clause-arms
returns-clause-arms c = bit_arms

pub returns-clause-issues : goal.returns-clause-issues
returns-clause-issues c = bit_issues
