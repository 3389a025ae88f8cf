use Rattle.std.proofs.Common.{rules, ℕ, ◌≡◌, ◌<◌, ◌∙◌, ap, below_more, arith, slice_index}
use Rattle.std.specs.Prelude.{bit_xor, slice_set}
use Rattle.std.proofs.lemmas.List.{length-set, get_or-set_same, get_or-set_other}
use Rattle.std.proofs.lemmas.List.Elements.{All-set}
use Rattle.std.proofs.lemmas.Nat.{xor_of_8}
use Rattle.device_model.proofs.bay.flip_bits.Goals as goal

pub loop-offset-preserved : goal.loop-offset-preserved
loop-offset-preserved c =
    let page = c.loop-offset.page in
    let n = c.loop-offset.offset in
    let is = c.loop-offset.invariant in
    let byte : ℕ = bit_xor (slice_index page n) (slice_index c.args.bits.now n) in
    let here : n < 512 = c.loop-offset-test.true in
    record {
      long = length-set page n byte ∙ is.long;
      below = below_more (λ k. slice_index (slice_set page n byte) k ≡ bit_xor (slice_index c.args.page.now k) (slice_index c.args.bits.now k)) n
          (λ k less. get_or-set_other page n k byte 0 (λ e. absurd (omega (arith, e, less))) ∙ is.below k less)
          (get_or-set_same page n byte 0 (omega (arith, is.long, here))
          ∙ ap (λ (old : ℕ). bit_xor old (slice_index c.args.bits.now n)) (is.rest n (omega arith)));
      rest = λ k more. get_or-set_other page n k byte 0 (λ e. absurd (omega (arith, e, more))) ∙ is.rest k (omega (arith, more));
      bytes = λ all.
          let old = is.bytes all n 0 (omega (arith, is.long, here)) in
          let bits = c.type_inv.bits in
          let turned : slice_index c.args.bits.now n < 256 = search (bits, rules) in
          All-set (λ byte. byte < 256) page n byte (xor_of_8 (slice_index page n) (slice_index c.args.bits.now n) old turned) (is.bytes all);
    }
