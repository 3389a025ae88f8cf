use Rattle.std.proofs.Common.{rules, ℕ, ◌≡◌, List, [], map, sym, ap, ◌∙◌, subst}
use Rattle.std.proofs.Math.ListN.{get_or-map}
use Rattle.dma_frames.specs.Loan.{Lending}
use Rattle.dma_frames.specs.FrameTables.{OwnersAndLoans}
use Rattle.request_queue.specs.BookEntries.{GivesBack}
use Rattle.server_history.specs.ServerState.{ServerState, quarantined_at}
use Rattle.block_server.specs.FourPorts.{by_port, without_kept_loans}
use Rattle.port_driver.specs.PortAndShared.{no_port}
use Rattle.port_driver.specs.declared.served_port.ServedPort.{ServedPort}
use Rattle.server_history.specs.KeptLoans.{MayGiveBack}
use Rattle.block_server.specs.ServerFieldsView.{server_view_of}
use Rattle.block_server.specs.ServerView.{server_of}
use Rattle.block_server.proofs.Keeping.{may_go_back}
use Rattle.block_server.proofs.Standing.{holds_either}
use Rattle.block_server.proofs.server.Server.close.Goals as goal

pub give_all_back-requires : goal.give_all_back-requires
give_all_back-requires g c = search rules

pub give_all_back-requires-2 : goal.give_all_back-requires-2
give_all_back-requires-2 g c =
    let s : ServerState = server_of g.A.Adapter.device (server_view_of c.self.inside) in
    let kept = holds_either c.self.inside.stuck c.self.invariant (λ _ settled. c.law_in_call_gives_server_invariant.ensures.server_invariant s settled.in_call_invariant) (λ _ stalled. stalled.server_invariant) in
    let laws = c.law_quarantined_loans_are_lent.ensures in
    subst (λ (table : OwnersAndLoans). MayGiveBack table (server_view_of c.self.inside).kept) (sym c.deref_mut-2.ensures.value)
    (may_go_back s c.give_all_back.new.table
    (record {
      lent = λ port. laws.lent s port kept;
      two = λ port. laws.differ_in_one_port s port kept;
      one = λ port other a b. laws.differ_between_ports s port other a b kept;
      answered = λ port loan e. laws.book_has_other_ids s port loan e kept;
    })
    (λ k d small. (kept.entries_are_well_formed k d small).frames_are_lent)
    (subst (λ (table : OwnersAndLoans). GivesBack table c.give_all_back.new.table c.self.inside.shared.book) c.deref_mut.ensures.value c.give_all_back.ensures))

pub destroy_quarantines-requires : goal.destroy_quarantines-requires
destroy_quarantines-requires g c =
    let ports = c.self.inside.ports in
    subst (λ (lists : List (List Lending)). (port : ℕ) → quarantined_at lists port ≡ []) (sym (c.into_quarantines.ensures ∙ ap (by_port (λ p. p.kept)) c.give_all_back-2.ensures.ports))
    (λ port. get_or-map (λ (p : ServedPort). p.kept) (map without_kept_loans ports) port no_port ∙ ap (λ (p : ServedPort). p.kept) (get_or-map without_kept_loans ports port no_port))
