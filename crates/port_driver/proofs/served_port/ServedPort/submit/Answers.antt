use Rattle.std.proofs.Common.{List, sym, subst}
use Rattle.request_queue.specs.BookEntries.{BookEntry}
use Rattle.port_driver.specs.Issuing.{IssuesWhatIsDue, MayIssueDue}
use Rattle.port_driver.proofs.served_port.ServedPort.submit.Goals as goal

pub issue_due-requires : goal.issue_due-requires
issue_due-requires g c =
    subst (λ (book : List BookEntry). MayIssueDue g.A.Adapter.device c.args.request.port c.args.self.now c.args.adapter.now book) (sym c.accept.ensures.request_is_appended)
    (c.requires.may_issue_then c.accept.new.table (rw c.deref_mut.ensures.value at c.accept.ensures.frames_are_lent_to_request))

pub returns-clause-issues_due : goal.returns-clause-issues_due
returns-clause-issues_due g c =
    subst (λ (book : List BookEntry). IssuesWhatIsDue g.A.Adapter.device g.A.Adapter.access_count c.args.request.port c.args.self.now c.issue_due.new.self c.args.adapter.now c.issue_due.new.adapter book c.issue_due.new.book) c.accept.ensures.request_is_appended
    c.issue_due.ensures
