use Rattle.driver_history.proofs.laws.law_due_are_issued.Goals as goal

pub returns : goal.returns
returns c = λ wanted first past h port history. history.2.issues_all_due port
