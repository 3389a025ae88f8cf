-- An accepted request: what is asked of the calls that accept it, and what the server then is.
use Rattle.std.proofs.Common.{◌≡◌, ◌+◌, ◌^◌, ◌<◌, ◌++◌, ◌∷◌, [], List, Some, inl, inr, refl, sym, ◌∙◌, ap, subst, arith}
use Rattle.std.specs.Prelude.{slice_index_or}
use Rattle.std.proofs.lemmas.Bool.{cases_lt}
use Rattle.std.proofs.lemmas.List.Elements.{All-contains}
use Rattle.ata_types.specs.declared.limits.TheConstants.{MOST_UNANSWERED_OF_A_CLIENT}
use Rattle.ata_types.specs.declared.Port.{Port}
use Rattle.ata_types.specs.declared.grant.GrantRow.{GrantRow}
use Rattle.ata_types.specs.declared.refusal.Refusal.TheVariants.{ClientFull, Rule, IdsSpent}
use Rattle.ata_types.specs.declared.request.Frame.{Frame}
use Rattle.ata_types.specs.declared.request.Request.{Request}
use Rattle.ata_types.specs.declared.request.RequestId.{RequestId}
use Rattle.block_machine.specs.Expected.{IsValidRow}
use Rattle.block_machine.specs.Refusals.{IsAcceptable}
use Rattle.block_machine.specs.declared.due.QueueMode.{QueueMode}
use Rattle.block_machine.specs.Rules.{BreaksNone, HasNoFault, IsNamed}
use Rattle.dma_frames.specs.FrameTables.{SetsLoanOnly, OwnersAndLoans, owner_of, lent_to}
use Rattle.host_boot.specs.TakeOver.{probe_result_of}
use Rattle.host_boot.specs.declared.ProbeResult.{ProbeResult}
use Rattle.request_queue.specs.BookEntries.{BookEntry, entry_count_of_client}
use Rattle.server_history.specs.IssuingAndAnswering.{AcceptsAndIssues, IssuesDueOfPort, accepted_as, with_accepted}
use Rattle.server_history.specs.ServerState.{ServerState, InCallInvariant, mode_in, no_slots, admission_context}
use Rattle.slots.specs.SlotUses.{PortSlots}
use Rattle.block_server.specs.Calls.{IsRequestForPort}
use Rattle.port_driver.specs.LentSlots.{HasPortToIssue}

-- ---- what is asked of the calls

module _ (s : ServerState) (r : Request) (acc : IsAcceptable (admission_context s) r) where
  pub next_fits : s.last_id + 1 < 2 ^ 64
  next_fits = elim (cases_lt (s.last_id + 1) (2 ^ 64)) [ inl low ↦ low | inr high ↦ absurd (acc IdsSpent high) ]

  none : BreaksNone s.grants (owner_of s.table) (lent_to s.table) r
  none rule = acc (Rule rule)

  pub faultless : HasNoFault (owner_of s.table) (lent_to s.table) r.client r.frames.items
  faultless fault = none (Rattle.ata_types.specs.declared.refusal.Rule.TheVariants.Frames fault)

  module _ (k : InCallInvariant s) (port : Port) (is : IsRequestForPort s.grants r port) where
    pub has_place : entry_count_of_client s.book r.client.0 < MOST_UNANSWERED_OF_A_CLIENT
    has_place = elim (cases_lt (entry_count_of_client s.book r.client.0) MOST_UNANSWERED_OF_A_CLIENT) [ inl low ↦ low | inr high ↦ absurd (acc ClientFull high) ]

    pub low : port.0 < 4
    low = let its = (All-contains IsValidRow s.grants is.0 k.rows_are_valid is.1.0).port_is_at_most_3 in let same = ap (λ (p : Port). p.0) is.2 in omega (arith, its, same)

    -- ---- what the server then is

    -- It was put last into the book, and these frames lent to it.
    module _ (keeps : (s : ServerState) (port : Port) (r : Request) (row : GrantRow) (id : RequestId) (table : OwnersAndLoans) → InCallInvariant s → IsAcceptable (admission_context s) r
        → IsNamed s.grants r row → row.port ≡ port → id.0 ≡ s.last_id + 1 → SetsLoanOnly s.table table r.frames.items (Some id) → InCallInvariant (with_accepted port r id table s))
        (id : RequestId) (id_is : id.0 ≡ s.last_id + 1) (frames : List Frame) (frames_are : frames ≡ r.frames.items)
        (table : OwnersAndLoans) (lent : SetsLoanOnly s.table table frames (Some id))
        (book : List BookEntry) (book_is : book ≡ s.book ++ record { request = (accepted_as port r id).request; frames = frames } ∷ []) where
      its_lent : SetsLoanOnly s.table table r.frames.items (Some id)
      its_lent = subst (λ (fs : List Frame). SetsLoanOnly s.table table fs (Some id)) frames_are lent

      pub its_book : s.book ++ accepted_as port r id ∷ [] ≡ book
      its_book = sym (book_is ∙ ap (λ (fs : List Frame). s.book ++ record { request = (accepted_as port r id).request; frames = fs } ∷ []) frames_are)

      pub lends : (slots : PortSlots) → slice_index_or s.slots port.0 no_slots ≡ slots → (mode : QueueMode) → mode_in s port ≡ mode → (found : ProbeResult) → probe_result_of s.probe_results port.0 ≡ found → HasPortToIssue (with_accepted port r id table s) s.device book slots port mode found
      lends slots are mode mode_is found found_is = record {
        in_call_invariant = keeps s port r is.0 id table k acc is.1 is.2 id_is its_lent;
        probe_result_is = found_is;
        device_is = refl;
        book_is = its_book;
        slots_are = are;
        mode_is = mode_is;
      }

      pub accepts : (new : ServerState) → IssuesDueOfPort port (with_accepted port r id table s) new → AcceptsAndIssues port r id s new
      accepts new issues = record { row = is.0; named = is.1; port_is = is.2; id_is = id_is; table = table; lends_only = its_lent; issues_due = issues }
