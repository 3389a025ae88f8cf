-- The first cause to refuse a request, as the server looks for it.
use Rattle.std.proofs.Common.{ℕ, ◌≡◌, ◌≢◌, ◌+◌, ◌^◌, ◌<◌, ◌≤◌, Option, Some, Bool, true, false, refl, sym, ◌∙◌, ap, subst, arith}
use Rattle.std.specs.Prelude.{IsTrue}
use Rattle.std.proofs.lemmas.Bool.{true≢false}
use Rattle.ata_types.specs.declared.limits.TheConstants.{MOST_UNANSWERED_OF_A_CLIENT}
use Rattle.ata_types.specs.declared.PortState.{PortState}
use Rattle.ata_types.specs.declared.PortState.TheVariants.{Ready}
use Rattle.ata_types.specs.declared.grant.GrantRow.{GrantRow}
use Rattle.ata_types.specs.declared.refusal.Refusal.TheVariants.{PortNotReady, OutsideDisk, TrimUnsupported, ClientFull, IdsSpent}
use Rattle.ata_types.specs.declared.request.Op.TheVariants.{Trim, Flush}
use Rattle.ata_types.specs.declared.request.Request.{Request}
use Rattle.block_machine.specs.Refusals.{RefusalApplies, IsAcceptable, IsFirstRefusal}
use Rattle.block_machine.specs.Rules.{IsNamed, BreaksNone}
use Rattle.dma_frames.specs.FrameTables.{owner_of, lent_to}
use Rattle.request_queue.specs.BookEntries.{entry_count_of_client}
use Rattle.server_history.specs.ServerState.{ServerState, ports_of, admission_context}
use Rattle.block_server.proofs.Ruling as ruling

-- what is told of a trim that its port doesn't take tells of each other request that it isn't so
pub takes_trim : (trims told : Bool) (trim : Type 0) → (trim × (trims ≡ false) → IsTrue told) → told ≡ false → trim → trims ≡ true
takes_trim true told trim lacks none asked = refl
takes_trim false told trim lacks none asked = absurd (true≢false (sym (lacks (asked, refl)) ∙ none))

-- the row is the only one that the request names
module _ (s : ServerState) (r : Request) (none : BreaksNone s.grants (owner_of s.table) (lent_to s.table) r)
    (row : GrantRow) (found : Option GrantRow) (is : found ≡ Some row) (all : (other : GrantRow) → IsNamed s.grants r other → found ≡ Some other)
    (named : IsNamed s.grants r row) where
  the_same : (other : GrantRow) → IsNamed s.grants r other → other ≡ row
  the_same other its = let e : Some other ≡ Some row = sym (all other its) ∙ is in cc

  below : {B : Type 0} (n m : ℕ) → m ≤ n → n < m → B
  below n m le lt = absurd (omega (arith, le, lt))

  none_nine : ruling.NoneBelow (admission_context s) r 9
  none_nine = record {
    rules = none;
    ready = λ h. below 9 9 (omega arith) h;
    disk = λ h. below 10 9 (omega arith) h;
    trim = λ h. below 11 9 (omega arith) h;
    full = λ h. below 12 9 (omega arith) h;
    ids = λ h. below 13 9 (omega arith) h;
  }

  pub not_ready : (state : PortState) → state ≡ (ports_of s).state row.port → (state ≡ Ready → ⊥) → IsFirstRefusal (admission_context s) r (PortNotReady state)
  not_ready state state_is other = ruling.not_ready_first (admission_context s) r state (other, (row, named, sym state_is)) none_nine

  module _ (ready : (ports_of s).state row.port ≡ Ready) where
    always_ready : (state : PortState) → RefusalApplies (admission_context s) r (PortNotReady state) → ⊥
    always_ready state applies =
        let its = applies.1 in
        applies.0 (sym its.2 ∙ ap (λ (x : GrantRow). (ports_of s).state x.port) (the_same its.0 its.1) ∙ ready)

    pub outside_disk : ((r.op ≢ Flush) × ((ports_of s).sectors row.port < r.first.0 + r.count)) → IsFirstRefusal (admission_context s) r OutsideDisk
    outside_disk leaves = ruling.outside_disk_first (admission_context s) r (leaves.0, (row, named, leaves.1)) (record {
      rules = none;
      ready = λ _. always_ready;
      disk = λ h. below 10 10 (omega arith) h;
      trim = λ h. below 11 10 (omega arith) h;
      full = λ h. below 12 10 (omega arith) h;
      ids = λ h. below 13 10 (omega arith) h;
    })

    module _ (inside : ((r.op ≢ Flush) × ((ports_of s).sectors row.port < r.first.0 + r.count)) → ⊥) where
      never_outside : RefusalApplies (admission_context s) r OutsideDisk → ⊥
      never_outside applies = inside (applies.0, subst (λ (x : GrantRow). (ports_of s).sectors x.port < r.first.0 + r.count) (the_same applies.1.0 applies.1.1) applies.1.2)

      pub trim_unsupported : r.op ≡ Trim → (ports_of s).zeroes_after_trim row.port ≡ false → IsFirstRefusal (admission_context s) r TrimUnsupported
      trim_unsupported trims none_trims = ruling.trim_unsupported_first (admission_context s) r (trims, (row, named, λ (does : IsTrue ((ports_of s).zeroes_after_trim row.port)). absurd (true≢false (sym does ∙ none_trims)))) (record {
        rules = none;
        ready = λ _. always_ready;
        disk = λ _. never_outside;
        trim = λ h. below 11 11 (omega arith) h;
        full = λ h. below 12 11 (omega arith) h;
        ids = λ h. below 13 11 (omega arith) h;
      })

      module _ (trims : r.op ≡ Trim → (ports_of s).zeroes_after_trim row.port ≡ true) where
        never_trim : RefusalApplies (admission_context s) r TrimUnsupported → ⊥
        never_trim applies = applies.1.2 (subst (λ (x : GrantRow). IsTrue ((ports_of s).zeroes_after_trim x.port)) (sym (the_same applies.1.0 applies.1.1)) (trims applies.0))

        pub client_full : MOST_UNANSWERED_OF_A_CLIENT ≤ entry_count_of_client s.book r.client.0 → IsFirstRefusal (admission_context s) r ClientFull
        client_full full = ruling.client_full_first (admission_context s) r full (record {
          rules = none;
          ready = λ _. always_ready;
          disk = λ _. never_outside;
          trim = λ _. never_trim;
          full = λ h. below 12 12 (omega arith) h;
          ids = λ h. below 13 12 (omega arith) h;
        })

        module _ (room : entry_count_of_client s.book r.client.0 < MOST_UNANSWERED_OF_A_CLIENT) where
          pub ids_spent : 2 ^ 64 ≤ s.last_id + 1 → IsFirstRefusal (admission_context s) r IdsSpent
          ids_spent spent = ruling.ids_spent_first (admission_context s) r spent (record {
            rules = none;
            ready = λ _. always_ready;
            disk = λ _. never_outside;
            trim = λ _. never_trim;
            full = λ _ applies. omega (arith, applies, room);
            ids = λ h. below 13 13 (omega arith) h;
          })

          pub not_found_only_if_none_applies : s.last_id + 1 < 2 ^ 64 → IsAcceptable (admission_context s) r
          not_found_only_if_none_applies left = ruling.acceptable (admission_context s) r (record {
            rules = none;
            ready = λ _. always_ready;
            disk = λ _. never_outside;
            trim = λ _. never_trim;
            full = λ _ applies. omega (arith, applies, room);
            ids = λ _ applies. omega (arith, applies, left);
          })
