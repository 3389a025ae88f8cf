-- Where the adapter is reset: requests are resolved, and what is due is issued, port by port.
use Rattle.std.proofs.Common.{ℕ, ◌≡◌, ◌+◌, ◌<◌, ◌≤◌, ◌++◌, List, [], ◌∷◌, drop, length, refl, sym, ap, ◌∙◌, subst}
use Rattle.std.proofs.lemmas.List.{drop_all, drop_more}
use Rattle.std.specs.List.{All, AllPairs, Contains}
use Rattle.ata_types.specs.declared.Port.{Port}
use Rattle.ata_types.specs.declared.request.Reply.{Reply}
use Rattle.adapter.specs.Device.{Device}
use Rattle.refinement.specs.Relation.{port_at}
use Rattle.dma_frames.specs.Loan.{Lending}
use Rattle.host_boot.specs.TakeOver.{probe_result_of}
use Rattle.host_boot.specs.declared.ProbeResult.{ProbeResult}
use Rattle.host_boot.specs.declared.ProbeResult.TheVariants.{Ready, Unready, Unserved}
use Rattle.identify.specs.declared.DiskInfo.{DiskInfo}
use Rattle.server_history.specs.KeptLoans.{MayGiveBack}
use Rattle.server_history.specs.Resets.{IssuesOnEachReadyPort, ResolvesEachPort, ResolvesPort}
use Rattle.server_history.specs.IssuingAndAnswering.{IssuesDueOfPort}
use Rattle.server_history.specs.ServerState.{DifferInRequest, ServerState, InCallInvariant, IsLentOut, quarantined_at}
use Rattle.server_history.specs.StuckServer.{ServerInvariant}
use Rattle.port_driver.specs.PortAndShared.{HasPortAndShared}
use Rattle.port_driver.specs.LentSlots.{HasPortToIssue}
use Rattle.port_driver.specs.declared.served_port.ServedPort.{ServedPort}
use Rattle.port_driver.specs.declared.served_port.Shared.{Shared}

-- ---- port by port

-- one port's requests were resolved, and then those of the ports after it
pub one_settled : (found : List ProbeResult) (number : ℕ) → number < length found → (s mid new : ServerState) (its later : List Reply) → ResolvesPort (port_at number) its s mid
    → ResolvesEachPort (number + 1) (drop (number + 1) found) later mid new → ResolvesEachPort number (drop number found) (its ++ later) s new
one_settled found number low s mid new its later one rest =
    subst (λ (left : List ProbeResult). ResolvesEachPort number left (its ++ later) s new) (sym (drop_more found number Unserved low)) (mid, its, later, refl, one, rest)

-- after the last there is none
pub none_to_settle : (found : List ProbeResult) (number : ℕ) → length found ≤ number → (s : ServerState) → ResolvesEachPort number (drop number found) [] s s
none_to_settle found number all s = subst (λ (left : List ProbeResult). ResolvesEachPort number left [] s s) (sym (drop_all number found all)) (refl, refl)

-- ---- what is due

module _ (found : List ProbeResult) (number : ℕ) (low : number < length found) where
  from_it : (one : ProbeResult) → probe_result_of found number ≡ one → one ∷ drop (number + 1) found ≡ drop number found
  from_it one is = sym (drop_more found number Unserved low ∙ ap (λ (f : ProbeResult). f ∷ drop (number + 1) found) is)

  -- what is due was issued on the port of this number, if it is ready: on another nothing is due
  pub one_issued : (s mid new : ServerState) → IssuesDueOfPort (port_at number) s mid → (((info : DiskInfo) → probe_result_of found number ≡ Ready info → ⊥) → mid ≡ s)
      → IssuesOnEachReadyPort (number + 1) (drop (number + 1) found) mid new → IssuesOnEachReadyPort number (drop number found) s new
  one_issued s mid new all none rest = by (probe_result_of found number) refl
    where
      passed : ((info : DiskInfo) → probe_result_of found number ≡ Ready info → ⊥) → IssuesOnEachReadyPort (number + 1) (drop (number + 1) found) s new
      passed unready = subst (λ (from : ServerState). IssuesOnEachReadyPort (number + 1) (drop (number + 1) found) from new) (none unready) rest

      by : (one : ProbeResult) → probe_result_of found number ≡ one → IssuesOnEachReadyPort number (drop number found) s new
      by (Ready info) is = subst (λ (left : List ProbeResult). IssuesOnEachReadyPort number left s new) (from_it (Ready info) is) (mid, all, rest)
      by (Unready state) is = subst (λ (left : List ProbeResult). IssuesOnEachReadyPort number left s new) (from_it (Unready state) is) (passed (λ info ready. let z : Unready state ≡ Ready info = sym is ∙ ready in absurd cc))
      by Unserved is = subst (λ (left : List ProbeResult). IssuesOnEachReadyPort number left s new) (from_it Unserved is) (passed (λ info ready. let z : Unserved ≡ Ready info = sym is ∙ ready in absurd cc))

pub none_to_issue : (found : List ProbeResult) (number : ℕ) → length found ≤ number → (s : ServerState) → IssuesOnEachReadyPort number (drop number found) s s
none_to_issue found number all s = subst (λ (left : List ProbeResult). IssuesOnEachReadyPort number left s s) (sym (drop_all number found all)) refl

-- what the server has of one port
pub found_one : (s : ServerState) (device : Device) (shared : Shared) (port : Port) (p : ServedPort) → InCallInvariant s → HasPortAndShared s device shared port p → HasPortToIssue s device shared.book p.slots port p.mode p.probe_result
found_one s device shared port p kept has = record {
  in_call_invariant = kept;
  probe_result_is = has.port_is.probe_result_is;
  device_is = has.device_is;
  book_is = has.book_is;
  slots_are = has.port_is.slots_are;
  mode_is = has.port_is.mode_is;
}

-- ---- the whole

-- what is kept may be given back
pub may_go : (s : ServerState) (b : ServerInvariant s) → ((port : ℕ) → All (IsLentOut s.table) (quarantined_at s.kept_loans port)) → ((port : ℕ) → AllPairs DifferInRequest (quarantined_at s.kept_loans port))
    → ((port other : ℕ) (x y : Lending) → Contains (quarantined_at s.kept_loans port) x → Contains (quarantined_at s.kept_loans other) y → x.request ≡ y.request → (port ≡ other) × (x ≡ y)) → MayGiveBack s.table s.kept_loans
may_go s b lent two one = record { loans_are_lent_out = lent; differ_in_request = two; loans_differ_between_ports = λ port other x y ne here there same. ne (one port other x y here there same).0 }
