use Rattle.std.proofs.Common.{ℕ, ◌≡◌, Equal, ap₂, subst, arith}
use Rattle.ata_types.specs.declared.request.ClientId.{ClientId}
use Rattle.grants.specs.NamedRows.{RowName, IsOrderOf}
use Rattle.grants.proofs.key.Key.order.Goals.{then-self-client, else-self-client+then-client-self, else-self-client+else-client-self+then-self-number, else-self-client+else-client-self+else-self-number+then-number-self, else-self-client+else-client-self+else-self-number+else-number-self}
use Rattle.grants.proofs.key.Key.order.Goals as goal

same : (a b : ClientId) (m n : ℕ) → a.0 ≡ b.0 → m ≡ n → IsOrderOf (a, m) (b, n) Equal
same a b m n p q = ap₂ (λ (x : ℕ) (y : ℕ). (record { 0 = x }, y)) p q

pub returns-clause-order : goal.returns-clause-order
returns-clause-order c =
    let a = c.self.inside in
    let small = c.self.invariant in
    let P : RowName → Type 0 = λ n. IsOrderOf n (c.args.client, c.args.number) c.if-self-client.result in
    subst P c.self.view_is (elim c.if-self-client.branch [
      | then-self-client w ↦ rw w.result-is (let h = w.if-self-client.true in omega (arith, small, h))
      | else-self-client+then-client-self w ↦ rw w.result-is (let h = w.if-client-self.true in omega (arith, small, h))
      | else-self-client+else-client-self+then-self-number w ↦ rw w.result-is (let h = w.if-self-number.true in omega (arith, small, h))
      | else-self-client+else-client-self+else-self-number+then-number-self w ↦ rw w.result-is (let h = w.if-number-self.true in omega (arith, small, h))
      | else-self-client+else-client-self+else-self-number+else-number-self w ↦ rw w.result-is (same a.client c.args.client a.number c.args.number (omega arith) (omega arith))
    ])
