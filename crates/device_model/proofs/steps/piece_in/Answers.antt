use Rattle.std.proofs.Common.{ℕ, ◌≡◌, ◌+◌, ◌-◌, sym, ◌∙◌, ap, take, drop, arith}
use Rattle.device_model.proofs.Bytes.{bytes_at-list}
use Rattle.device_model.proofs.steps.piece_in.Goals as goal

pub returns : goal.returns
returns c =
    let whole : c.args.next.address + 512 - c.args.next.address ≡ 512 = omega arith in
    c.in-Some.ensures.cases.same
    ∙ (ap (λ (k : ℕ). take k (drop c.args.next.address c.args.memory.now)) whole
    ∙ sym (bytes_at-list c.args.memory.now c.args.next.address 512 c.requires))
