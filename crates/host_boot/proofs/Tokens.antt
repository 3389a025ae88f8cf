-- The tokens of the ports that were booted so far.
use Rattle.std.proofs.Common.{ℕ, ◌≡◌, ◌≢◌, ◌<◌, ◌+◌, List, Option, None, length, inl, inr, sym, subst, arith}
use Rattle.std.specs.Prelude.{slice_set}
use Rattle.std.proofs.lemmas.Bool.{cases_eq}
use Rattle.std.proofs.lemmas.List.{get_or-set_same, get_or-set_other}
use Rattle.refinement.specs.Relation.{port_at}
use Rattle.port_control.specs.declared.Running.{Running}
use Rattle.host_boot.specs.TakeOver.{probe_result_of}
use Rattle.host_boot.specs.Tokens.{HasTokenIfReady, token_of}
use Rattle.host_boot.specs.declared.ProbeResult.{ProbeResult}
use Rattle.host_boot.specs.declared.ProbeResult.TheVariants.{Unserved}

-- so many of the first ports have their tokens
abbrev pub HaveTokens : List ProbeResult → List (Option Running) → ℕ → Type 0
HaveTokens ports running n = (port : ℕ) → port < n → HasTokenIfReady (port_at port) (probe_result_of ports port) (token_of running port)

-- one more has
pub tokens_more : (ports : List ProbeResult) (running : List (Option Running)) (n : ℕ) (found : ProbeResult) (token : Option Running) → length ports ≡ 4 → length running ≡ 4 → n < 4 → HasTokenIfReady (port_at n) found token → HaveTokens ports running n →
    HaveTokens (slice_set ports n found) (slice_set running n token) (n + 1)
tokens_more ports running n found token long as_long below has before port less = elim (cases_eq port n) [
  | inl e ↦
      let P : ℕ → Type 0 = λ k. HasTokenIfReady (port_at k) (probe_result_of (slice_set ports n found) k) (token_of (slice_set running n token) k) in
      let F : ProbeResult → Type 0 = λ f. HasTokenIfReady (port_at n) f (token_of (slice_set running n token) n) in
      let T : Option Running → Type 0 = λ t. HasTokenIfReady (port_at n) found t in
      subst P (sym e) (subst F (sym (get_or-set_same ports n found Unserved (omega (arith, long, below)))) (subst T (sym (get_or-set_same running n token None (omega (arith, as_long, below)))) has))
  | inr other ↦
      let F : ProbeResult → Type 0 = λ f. HasTokenIfReady (port_at port) f (token_of (slice_set running n token) port) in
      let T : Option Running → Type 0 = λ t. HasTokenIfReady (port_at port) (probe_result_of ports port) t in
      subst F (sym (get_or-set_other ports n port found Unserved other)) (subst T (sym (get_or-set_other running n port token None other)) (before port (omega (arith, less, other))))
]
