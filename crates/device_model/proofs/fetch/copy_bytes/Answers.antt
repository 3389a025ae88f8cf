use Rattle.std.proofs.Common.{rules, ◌≡◌, ◌≤◌, ◌+◌, ◌∙◌, drop, length, sym, take}
use Rattle.device_model.proofs.Bytes.{bytes_at-list}
use Rattle.device_model.proofs.fetch.copy_bytes.Goals as goal

pub returns-in-Some : goal.returns-in-Some
returns-in-Some c =
    let found = c.in-Some.ensures.lookup in
    let inside : c.args.at + length c.args.out.now ≤ length c.args.memory.now = search rules in
    let same : c.in-Some.part.now ≡ take (length c.args.out.now) (drop c.args.at c.args.memory.now) = search rules in
    c.copy_from_slice.ensures.after ∙ same ∙ sym (bytes_at-list c.args.memory.now c.args.at (length c.args.out.now) inside)
