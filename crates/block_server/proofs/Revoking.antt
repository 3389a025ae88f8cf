-- A grant is revoked: what is asked of the calls, and what came of them.
use Rattle.std.proofs.Common.{ℕ, ◌≡◌, ◌<◌, ◌++◌, List, [], set, refl, sym, ap, ◌∙◌, subst, arith}
use Rattle.std.specs.List.{Contains}
use Rattle.std.proofs.lemmas.List.Elements.{All-contains}
use Rattle.ata_types.specs.declared.grant.GrantRow.{GrantRow}
use Rattle.ata_types.specs.declared.request.ClientId.{ClientId}
use Rattle.ata_types.specs.declared.request.Outcome.TheVariants.{Revoked}
use Rattle.ata_types.specs.declared.request.Reply.{Reply}
use Rattle.adapter.specs.Device.{Device}
use Rattle.block_machine.specs.Expected.{IsValidRow}
use Rattle.block_machine.specs.Rules.{HasGrantName, without_row}
use Rattle.dma_frames.specs.Loan.{Lending}
use Rattle.dma_frames.specs.FrameTables.{OwnersAndLoans}
use Rattle.request_queue.specs.BookEntries.{BookEntry, with_requests_under_grant_revoked, waits_under}
use Rattle.request_queue.specs.Dispositions.{CompletesAllWith}
use Rattle.server_history.specs.Revoking.{RevokesGrant}
use Rattle.server_history.specs.IssuingAndAnswering.{IssuesDueOfPort}
use Rattle.server_history.specs.ServerState.{InCallInvariant, ServerState, quarantined_at}
use Rattle.slots.specs.SlotUses.{PortSlots}
use Rattle.port_driver.specs.LoanRoom.{book_and_loans}
use Rattle.port_driver.specs.PortAndShared.{HasPortAt}
use Rattle.port_driver.specs.LentSlots.{HasPortToIssue, with_port_slots}
use Rattle.port_driver.specs.declared.served_port.ServedPort.{ServedPort}

-- the row was there, and these are left
abbrev pub TakesRow : List GrantRow → ClientId → ℕ → GrantRow → List GrantRow → Type 0
TakesRow rows client number row left = Contains rows row × HasGrantName client number row × (left ≡ without_row client number rows)

-- the requests that wait in this book were told so, by replies that came after these
abbrev pub AreTold : ClientId → ℕ → List BookEntry → OwnersAndLoans → List Reply → List BookEntry → OwnersAndLoans → List Reply → Type 0
AreTold client number book table before later then replies = (kept : List Lending) → (its : List Reply) × (replies ≡ before ++ its)
    × CompletesAllWith (waits_under client number) Revoked its (book_and_loans book table kept) (book_and_loans later then kept)

module _ (s : ServerState) (client : ClientId) (number : ℕ) (row : GrantRow) (grants : List GrantRow) (takes : TakesRow s.grants client number row grants)
    (marked : List BookEntry) (marked_is : marked ≡ with_requests_under_grant_revoked client number s.book) (table : OwnersAndLoans) (table_is : table ≡ s.table) (before : List Reply) (none : before ≡ [])
    (book : List BookEntry) (then : OwnersAndLoans) (replies : List Reply) (told : AreTold client number marked table before book then replies) where
  -- the server once they are
  abbrev pub mid : ServerState
  mid = record s { grants = grants; table = then; book = book }

  abbrev kept : List Lending
  kept = quarantined_at s.kept_loans row.port.0

  pub answered : CompletesAllWith (waits_under client number) Revoked replies (book_and_loans (with_requests_under_grant_revoked client number s.book) s.table kept) (book_and_loans book then kept)
  answered =
      let its = told kept in
      subst (λ (r : List Reply). CompletesAllWith (waits_under client number) Revoked r (book_and_loans (with_requests_under_grant_revoked client number s.book) s.table kept) (book_and_loans book then kept)) (sym (its.1 ∙ ap (λ (b : List Reply). b ++ its.0) none))
      (subst (λ (b : List BookEntry). CompletesAllWith (waits_under client number) Revoked its.0 (book_and_loans b s.table kept) (book_and_loans book then kept)) marked_is
      (subst (λ (t : OwnersAndLoans). CompletesAllWith (waits_under client number) Revoked its.0 (book_and_loans marked t kept) (book_and_loans book then kept)) table_is its.2))

  abbrev pub revokes : RevokesGrant client number replies s mid
  revokes = record {
    has_grant_row = (row, takes.0, takes.1);
    waiting_are_told_revoked = answered;
    server_is = λ i. record s { grants = takes.2 i; table = then; book = book };
  }

  module _ (k : InCallInvariant s) (goes_on : InCallInvariant mid) where
    pub low : row.port.0 < 4
    low = let its = (All-contains IsValidRow s.grants row k.rows_are_valid takes.0).port_is_at_most_3 in omega (arith, its)

    -- the port has what issuing asks
    pub lends : (p : ServedPort) → HasPortAt s row.port.0 p → HasPortToIssue mid s.device book p.slots row.port p.mode p.probe_result
    lends p has = record { in_call_invariant = goes_on; probe_result_is = has.probe_result_is; device_is = refl; book_is = refl; slots_are = has.slots_are; mode_is = has.mode_is }

    -- and then what is due was issued
    pub issued : (place : ℕ) → place ≡ row.port.0 → (new : Device) (later : List BookEntry) (slots : PortSlots) → IssuesDueOfPort row.port mid (with_port_slots mid new later slots row.port)
        → IssuesDueOfPort row.port mid (record mid { device = new; slots = set s.slots place slots; book = later })
    issued place is new later slots issues = subst (λ (n : ℕ). IssuesDueOfPort row.port mid (record mid { device = new; slots = set s.slots n slots; book = later })) (sym is) issues
