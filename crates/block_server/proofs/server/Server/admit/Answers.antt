use Rattle.std.specs.Prelude.{IsTrue}
use Rattle.std.proofs.Common.{false, ℕ, ◌≡◌, ◌≢◌, ◌+◌, ◌<◌, ◌≤◌, refl, sym, ◌∙◌, subst, arith}
use Rattle.std.proofs.lemmas.Bool.{true≢false}
use Rattle.ata_types.specs.declared.limits.TheConstants.{MOST_UNANSWERED_OF_A_CLIENT}
use Rattle.ata_types.specs.declared.refusal.Refusal.TheVariants.{Rule, PortNotReady, OutsideDisk, TrimUnsupported, ClientFull, IdsSpent}
use Rattle.ata_types.specs.declared.refusal.Rule.TheVariants.{NoGrant}
use Rattle.ata_types.specs.declared.request.Op.TheVariants.{Trim, Flush}
use Rattle.block_machine.specs.Refusals.{IsAcceptable, IsFirstRefusal}
use Rattle.block_server.specs.Calls.{IsRequestForPort}
use Rattle.block_server.specs.ServerFieldsView.{server_view_of}
use Rattle.block_server.specs.ServerView.{ServerView, server_of}
use Rattle.host_boot.specs.TakeOver.{probe_result_of}
use Rattle.server_history.specs.ServerState.{last_disk_of, remembered_at, last_sectors_of, admission_context, state_of, zeroes_after_trim_of}
use Rattle.block_server.proofs.Refusing as refusing
use Rattle.block_server.proofs.Ruling.{rule_first}
use Rattle.block_server.proofs.server.Server.admit.Goals as goal

pub returns-in-Err-clause-refused : goal.returns-in-Err-clause-refused
returns-in-Err-clause-refused g c =
    subst (λ (v : ServerView g.row.A.Denot). IsFirstRefusal (admission_context (server_of g.A.Adapter.device v)) c.args.r.now (Rule c.in-Err.rule)) c.self.view_is
    (rule_first (admission_context (server_of g.A.Adapter.device (server_view_of c.self.inside))) c.args.r.now c.in-Err.rule (rw c.deref.ensures at c.in-Err.ensures.err))

pub unreachable-requires : goal.unreachable-requires
unreachable-requires g c =
    c.in_default.ensures.ok NoGrant (λ row named.
    let e = sym c.in_default-row.is ∙ (c.row.ensures row).1 named in cc)

pub returns-in_default-state : goal.returns-in_default-state
returns-in_default-state g c = record {
  admitted = tt;
  refused = subst (λ (v : ServerView g.row.A.Denot). IsFirstRefusal (admission_context (server_of g.A.Adapter.device v)) c.args.r.now (PortNotReady c.state-state.result)) c.self.view_is
      (refusing.not_ready (server_of g.A.Adapter.device (server_view_of c.self.inside)) c.args.r.now (rw c.deref.ensures at c.in_default.ensures.ok) c.in-Some.row c.row.result c.in-Some.is
      (λ other its. (c.row.ensures other).1 its) ((c.row.ensures c.in-Some.row).0 c.in-Some.is) c.state-state.result
      (subst (λ (v : ServerView g.row.A.Denot). c.state-state.result ≡ state_of (probe_result_of v.probe_results c.in-Some.row.port.0)) (sym c.self.view_is) c.state-state.ensures.state)
      c.in_default-state.not-Ready);
}

pub returns-then-exceeds_disk-clause-refused : goal.returns-then-exceeds_disk-clause-refused
returns-then-exceeds_disk-clause-refused g c =
    subst (λ (v : ServerView g.row.A.Denot). IsFirstRefusal (admission_context (server_of g.A.Adapter.device v)) c.args.r.now OutsideDisk) c.self.view_is
    (refusing.outside_disk (server_of g.A.Adapter.device (server_view_of c.self.inside)) c.args.r.now (rw c.deref.ensures at c.in_default.ensures.ok) c.in-Some.row c.row.result c.in-Some.is
    (λ other its. (c.row.ensures other).1 its) ((c.row.ensures c.in-Some.row).0 c.in-Some.is) (sym (subst (λ (v : ServerView g.row.A.Denot). c.state-state.result ≡ state_of (probe_result_of v.probe_results c.in-Some.row.port.0)) (sym c.self.view_is) c.state-state.ensures.state) ∙ c.in-Ready.is)
    (subst (λ (n : ℕ). (c.args.r.now.op ≢ Flush) × (n < c.args.r.now.first.0 + c.args.r.now.count)) (subst (λ (v : ServerView g.row.A.Denot). c.sectors.result ≡ last_sectors_of (last_disk_of (probe_result_of v.probe_results c.in-Some.row.port.0) (remembered_at v.remembered c.in-Some.row.port.0))) (sym c.self.view_is) c.sectors.ensures) (c.exceeds_disk.ensures.0 c.if-exceeds_disk.true)))

pub returns-then-lacks_trim-clause-refused : goal.returns-then-lacks_trim-clause-refused
returns-then-lacks_trim-clause-refused g c =
    subst (λ (v : ServerView g.row.A.Denot). IsFirstRefusal (admission_context (server_of g.A.Adapter.device v)) c.args.r.now TrimUnsupported) c.self.view_is
    (refusing.trim_unsupported (server_of g.A.Adapter.device (server_view_of c.self.inside)) c.args.r.now (rw c.deref.ensures at c.in_default.ensures.ok) c.in-Some.row c.row.result c.in-Some.is
    (λ other its. (c.row.ensures other).1 its) ((c.row.ensures c.in-Some.row).0 c.in-Some.is) (sym (subst (λ (v : ServerView g.row.A.Denot). c.state-state.result ≡ state_of (probe_result_of v.probe_results c.in-Some.row.port.0)) (sym c.self.view_is) c.state-state.ensures.state) ∙ c.in-Ready.is)
    (λ leaves. absurd (true≢false (sym (c.exceeds_disk.ensures.1 (subst (λ (n : ℕ). (c.args.r.now.op ≢ Flush) × (n < c.args.r.now.first.0 + c.args.r.now.count)) (sym (subst (λ (v : ServerView g.row.A.Denot). c.sectors.result ≡ last_sectors_of (last_disk_of (probe_result_of v.probe_results c.in-Some.row.port.0) (remembered_at v.remembered c.in-Some.row.port.0))) (sym c.self.view_is) c.sectors.ensures)) leaves)) ∙ c.if-exceeds_disk.false)))
    (c.lacks_trim.ensures.0 c.if-lacks_trim.true).0
    (subst (λ (v : ServerView g.row.A.Denot). zeroes_after_trim_of (probe_result_of v.probe_results c.in-Some.row.port.0) ≡ false) (sym c.self.view_is) (c.lacks_trim.ensures.0 c.if-lacks_trim.true).1))

pub returns-then-unanswered_count-ge-MOST_UNANSWERED_OF_A_CLIENT-clause-refused : goal.returns-then-unanswered_count-ge-MOST_UNANSWERED_OF_A_CLIENT-clause-refused
returns-then-unanswered_count-ge-MOST_UNANSWERED_OF_A_CLIENT-clause-refused g c =
    subst (λ (v : ServerView g.row.A.Denot). IsFirstRefusal (admission_context (server_of g.A.Adapter.device v)) c.args.r.now ClientFull) c.self.view_is
    (refusing.client_full (server_of g.A.Adapter.device (server_view_of c.self.inside)) c.args.r.now (rw c.deref.ensures at c.in_default.ensures.ok) c.in-Some.row c.row.result c.in-Some.is
    (λ other its. (c.row.ensures other).1 its) ((c.row.ensures c.in-Some.row).0 c.in-Some.is) (sym (subst (λ (v : ServerView g.row.A.Denot). c.state-state.result ≡ state_of (probe_result_of v.probe_results c.in-Some.row.port.0)) (sym c.self.view_is) c.state-state.ensures.state) ∙ c.in-Ready.is)
    (λ leaves. absurd (true≢false (sym (c.exceeds_disk.ensures.1 (subst (λ (n : ℕ). (c.args.r.now.op ≢ Flush) × (n < c.args.r.now.first.0 + c.args.r.now.count)) (sym (subst (λ (v : ServerView g.row.A.Denot). c.sectors.result ≡ last_sectors_of (last_disk_of (probe_result_of v.probe_results c.in-Some.row.port.0) (remembered_at v.remembered c.in-Some.row.port.0))) (sym c.self.view_is) c.sectors.ensures)) leaves)) ∙ c.if-exceeds_disk.false)))
    (refusing.takes_trim _ c.lacks_trim.result (c.args.r.now.op ≡ Trim) (subst (λ (v : ServerView g.row.A.Denot). (c.args.r.now.op ≡ Trim) × (zeroes_after_trim_of (probe_result_of v.probe_results c.in-Some.row.port.0) ≡ false) → IsTrue c.lacks_trim.result) (sym c.self.view_is) c.lacks_trim.ensures.1) c.if-lacks_trim.false)
    (let P : ℕ → Type 0 = λ n. MOST_UNANSWERED_OF_A_CLIENT ≤ n in subst P c.unanswered_count.ensures c.if-unanswered_count-ge-MOST_UNANSWERED_OF_A_CLIENT.true))

pub returns-then-self-ge18446744073709551615-clause-refused : goal.returns-then-self-ge18446744073709551615-clause-refused
returns-then-self-ge18446744073709551615-clause-refused g c =
    subst (λ (v : ServerView g.row.A.Denot). IsFirstRefusal (admission_context (server_of g.A.Adapter.device v)) c.args.r.now IdsSpent) c.self.view_is
    (refusing.ids_spent (server_of g.A.Adapter.device (server_view_of c.self.inside)) c.args.r.now (rw c.deref.ensures at c.in_default.ensures.ok) c.in-Some.row c.row.result c.in-Some.is
    (λ other its. (c.row.ensures other).1 its) ((c.row.ensures c.in-Some.row).0 c.in-Some.is) (sym (subst (λ (v : ServerView g.row.A.Denot). c.state-state.result ≡ state_of (probe_result_of v.probe_results c.in-Some.row.port.0)) (sym c.self.view_is) c.state-state.ensures.state) ∙ c.in-Ready.is)
    (λ leaves. absurd (true≢false (sym (c.exceeds_disk.ensures.1 (subst (λ (n : ℕ). (c.args.r.now.op ≢ Flush) × (n < c.args.r.now.first.0 + c.args.r.now.count)) (sym (subst (λ (v : ServerView g.row.A.Denot). c.sectors.result ≡ last_sectors_of (last_disk_of (probe_result_of v.probe_results c.in-Some.row.port.0) (remembered_at v.remembered c.in-Some.row.port.0))) (sym c.self.view_is) c.sectors.ensures)) leaves)) ∙ c.if-exceeds_disk.false)))
    (refusing.takes_trim _ c.lacks_trim.result (c.args.r.now.op ≡ Trim) (subst (λ (v : ServerView g.row.A.Denot). (c.args.r.now.op ≡ Trim) × (zeroes_after_trim_of (probe_result_of v.probe_results c.in-Some.row.port.0) ≡ false) → IsTrue c.lacks_trim.result) (sym c.self.view_is) c.lacks_trim.ensures.1) c.if-lacks_trim.false)
    (let P : ℕ → Type 0 = λ n. n < MOST_UNANSWERED_OF_A_CLIENT in subst P c.unanswered_count.ensures c.if-unanswered_count-ge-MOST_UNANSWERED_OF_A_CLIENT.false)
    (let h = c.if-self-ge18446744073709551615.true in omega (arith, h)))

pub returns-clause-admitted : goal.returns-clause-admitted
returns-clause-admitted g c =
    subst (λ (v : ServerView g.row.A.Denot). IsAcceptable (admission_context (server_of g.A.Adapter.device v)) c.args.r.now × IsRequestForPort v.grants c.args.r.now c.in-Some.row.port) c.self.view_is (
      refusing.not_found_only_if_none_applies (server_of g.A.Adapter.device (server_view_of c.self.inside)) c.args.r.now (rw c.deref.ensures at c.in_default.ensures.ok) c.in-Some.row c.row.result c.in-Some.is
          (λ other its. (c.row.ensures other).1 its) ((c.row.ensures c.in-Some.row).0 c.in-Some.is) (sym (subst (λ (v : ServerView g.row.A.Denot). c.state-state.result ≡ state_of (probe_result_of v.probe_results c.in-Some.row.port.0)) (sym c.self.view_is) c.state-state.ensures.state) ∙ c.in-Ready.is)
          (λ leaves. absurd (true≢false (sym (c.exceeds_disk.ensures.1 (subst (λ (n : ℕ). (c.args.r.now.op ≢ Flush) × (n < c.args.r.now.first.0 + c.args.r.now.count)) (sym (subst (λ (v : ServerView g.row.A.Denot). c.sectors.result ≡ last_sectors_of (last_disk_of (probe_result_of v.probe_results c.in-Some.row.port.0) (remembered_at v.remembered c.in-Some.row.port.0))) (sym c.self.view_is) c.sectors.ensures)) leaves)) ∙ c.if-exceeds_disk.false)))
          (refusing.takes_trim _ c.lacks_trim.result (c.args.r.now.op ≡ Trim) (subst (λ (v : ServerView g.row.A.Denot). (c.args.r.now.op ≡ Trim) × (zeroes_after_trim_of (probe_result_of v.probe_results c.in-Some.row.port.0) ≡ false) → IsTrue c.lacks_trim.result) (sym c.self.view_is) c.lacks_trim.ensures.1) c.if-lacks_trim.false)
          (let P : ℕ → Type 0 = λ n. n < MOST_UNANSWERED_OF_A_CLIENT in subst P c.unanswered_count.ensures c.if-unanswered_count-ge-MOST_UNANSWERED_OF_A_CLIENT.false)
          (let h = c.if-self-ge18446744073709551615.false in omega (arith, h)),
      (c.in-Some.row, (c.row.ensures c.in-Some.row).0 c.in-Some.is, refl),
    )
