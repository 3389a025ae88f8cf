-- Loans that are kept once more requests of a port are.
use Rattle.std.proofs.Common.{ℕ, ◌≡◌, ◌≢◌, ◌++◌, List, refl, sym, ap, ◌∙◌, subst, ⊎_elim}
use Rattle.std.specs.List.{AllPairs, Contains}
use Rattle.std.proofs.lemmas.Bool.{cases_eq}
use Rattle.std.proofs.lemmas.List.Elements.{Contains-append_cases, Contains-append_left, Contains-append_right}
use Rattle.ata_types.specs.declared.Port.{Port}
use Rattle.ata_types.specs.declared.PortState.TheVariants.{Dead}
use Rattle.block_machine.specs.State.{Pending}
use Rattle.dma_frames.specs.Loan.{Lending}
use Rattle.host_boot.specs.TakeOver.{probe_result_of}
use Rattle.host_boot.specs.declared.ProbeResult.{ProbeResult}
use Rattle.host_boot.specs.declared.ProbeResult.TheVariants.{Unready}
use Rattle.server_history.specs.ResolvedRequests.{loan_of, loans_newest_first}
use Rattle.server_history.specs.ServerState.{KeptRequestsRelation, DifferInRequest, quarantined_at}
use Rattle.server_history.proofs.any_turn.JoinedParts.{all_pairs_append}
use Rattle.server_history.proofs.dispositions.MetFates.{in_loans, loans_in}

-- these requests of a port, which is dead then, are kept beside those that were, each with one more loan
pub more_kept : (port : Port) (found then_found : List ProbeResult) (kept then_kept : List (List Lending)) (held was : List Pending) → KeptRequestsRelation found kept was
    → quarantined_at then_kept port.0 ≡ quarantined_at kept port.0 ++ loans_newest_first held → ((q : ℕ) → q ≢ port.0 → quarantined_at then_kept q ≡ quarantined_at kept q)
    → ((e : Pending) → Contains was e → probe_result_of then_found e.request.port.0 ≡ Unready Dead) → ((e : Pending) → Contains held e → (e.request.port ≡ port) × (probe_result_of then_found port.0 ≡ Unready Dead))
    → AllPairs DifferInRequest (loans_newest_first held) → ((a b : Lending) → Contains (quarantined_at kept port.0) a → Contains (loans_newest_first held) b → DifferInRequest a b)
    → KeptRequestsRelation then_found then_kept (held ++ was)
more_kept port found then_found kept then_kept held was are same other still dies two crossed = record {
  quarantine_ports_are_dead = λ e here. ⊎_elim
      (λ new. let d = dies e new in ap (λ (q : Port). probe_result_of then_found q.0) d.0 ∙ d.1)
      (λ old. still e old)
      (Contains-append_cases held was e here);
  each_request_has_its_loan = λ e here. ⊎_elim
      (λ new. (
        loan_of e,
        subst (λ (loans : List Lending). Contains loans (loan_of e)) (sym (ap (λ (q : Port). quarantined_at then_kept q.0) (dies e new).0 ∙ same))
            (Contains-append_right (quarantined_at kept port.0) (loans_newest_first held) (loan_of e) (in_loans held e new)),
        (refl, refl),
      ))
      (λ old. let l = are.each_request_has_its_loan e old in (l.0, grows e.request.port.0 l.0 l.1, l.2))
      (Contains-append_cases held was e here);
  each_loan_has_its_request = λ q loan here. ⊎_elim
      (λ (is : q ≡ port.0). ⊎_elim
      (λ old. let x = are.each_loan_has_its_request q loan (subst (λ (n : ℕ). Contains (quarantined_at kept n) loan) (sym is) old) in (x.0, Contains-append_right held was x.0 x.1, x.2, x.3))
      (λ new.
      let x = loans_in held loan new in
      (x.0, Contains-append_left held was x.0 x.1, ap (λ (p : Port). p.0) (dies x.0 x.1).0 ∙ sym is, (ap (λ (l : Lending). l.request) x.2, ap (λ (l : Lending). l.frames) x.2)))
      (Contains-append_cases (quarantined_at kept port.0) (loans_newest_first held) loan (subst (λ (loans : List Lending). Contains loans loan) (ap (quarantined_at then_kept) is ∙ same) here)))
      (λ (ne : q ≢ port.0).
      let x = are.each_loan_has_its_request q loan (subst (λ (loans : List Lending). Contains loans loan) (other q ne) here) in
      (x.0, Contains-append_right held was x.0 x.1, x.2, x.3))
      (cases_eq q port.0);
  loans_differ_in_request = λ q. ⊎_elim
      (λ (is : q ≡ port.0). subst (AllPairs DifferInRequest) (sym (ap (quarantined_at then_kept) is ∙ same)) (all_pairs_append DifferInRequest (quarantined_at kept port.0) (loans_newest_first held) (are.loans_differ_in_request port.0) two crossed))
      (λ (ne : q ≢ port.0). subst (AllPairs DifferInRequest) (sym (other q ne)) (are.loans_differ_in_request q))
      (cases_eq q port.0);
}
  where
    -- a loan that was kept is
    grows : (q : ℕ) (loan : Lending) → Contains (quarantined_at kept q) loan → Contains (quarantined_at then_kept q) loan
    grows q loan here = ⊎_elim
        (λ (is : q ≡ port.0).
        subst (λ (loans : List Lending). Contains loans loan) (sym (ap (quarantined_at then_kept) is ∙ same))
        (Contains-append_left (quarantined_at kept port.0) (loans_newest_first held) loan (subst (λ (n : ℕ). Contains (quarantined_at kept n) loan) is here)))
        (λ (ne : q ≢ port.0). subst (λ (loans : List Lending). Contains loans loan) (sym (other q ne)) here)
        (cases_eq q port.0)
