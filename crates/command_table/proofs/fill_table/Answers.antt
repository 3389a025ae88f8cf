use Rattle.ata_types.specs.declared.memory.TheConstants.{PRD_BYTES, TABLE_HEAD_BYTES}
use Rattle.std.proofs.Common.{◌≡◌, ℕ, ◌+◌, ◌*◌, ◌<◌, ◌≤◌, List, length, slice_index, slice_index_or, sym, subst, ap, ◌∙◌, arith, below_more}
use Rattle.std.proofs.lemmas.List.{get_or_default}
use Rattle.command_table.specs.BufferBytes.{bytes_from}
use Rattle.command_table.proofs.Parts.{part_before, part_whole}
use Rattle.adapter.specs.Encoding.{EncodesCommand}
use Rattle.adapter.specs.declared.command.Prd.{Prd}
use Rattle.adapter.specs.Encoding.{EncodesPrd}
use Rattle.command_table.proofs.fill_table.Goals as goal

pub loop-i-init : goal.loop-i-init
loop-i-init c =
    let n : length c.encode_h2d.result ≡ 20 = c.encode_h2d.ensures.size in
    let stored : bytes_from c.store_at.new.buffer 0 20 ≡ c.encode_h2d.result =
    ap (bytes_from c.store_at.new.buffer 0) (sym n) ∙ part_whole _ _ _ _ c.store_at.ensures (omega arith) in
    let zero_at : (k : ℕ) → 20 ≤ k → k < TABLE_HEAD_BYTES → slice_index c.store_at.new.buffer k ≡ 0 = λ k low high. c.store_at.ensures.after_is_kept k (omega (arith, n)) ∙ c.requires.zeros k (omega arith) high in
    record {
      size = omega (arith, c.store_at.ensures.length_is_kept);
      fis = subst (λ (b : List ℕ). EncodesCommand b c.args.command.now) (sym stored) c.encode_h2d.ensures;
      between = λ k low high. zero_at k low high;
      entries = λ k d lt. absurd (omega arith);
    }

pub loop-i-preserved : goal.loop-i-preserved
loop-i-preserved c =
    let s = c.store_at-in-loop-i.ensures in
    let n : length c.prd_bytes.result ≡ 16 = c.prd_bytes.ensures.size in
    let stored : bytes_from c.store_at-in-loop-i.new.buffer (TABLE_HEAD_BYTES + PRD_BYTES * c.loop-i.i) 16 ≡ c.prd_bytes.result =
    ap (bytes_from c.store_at-in-loop-i.new.buffer (TABLE_HEAD_BYTES + PRD_BYTES * c.loop-i.i)) (sym n) ∙ part_whole _ _ _ _ s (omega arith) in
    let fis_stays : bytes_from c.store_at-in-loop-i.new.buffer 0 20 ≡ bytes_from c.loop-i.bytes 0 20 = part_before _ _ _ _ s (omega arith) 0 20 (omega arith) in
    let Here : ℕ → Type 0 = λ k. (d : Prd) → EncodesPrd (bytes_from c.store_at-in-loop-i.new.buffer (TABLE_HEAD_BYTES + PRD_BYTES * k) 16) (slice_index_or c.args.prds.now k d) in
    let below : (k : ℕ) → k < c.loop-i.i → Here k = λ (k : ℕ) (lt : k < c.loop-i.i) (d : Prd).
    let stays : bytes_from c.store_at-in-loop-i.new.buffer (TABLE_HEAD_BYTES + PRD_BYTES * k) 16 ≡ bytes_from c.loop-i.bytes (TABLE_HEAD_BYTES + PRD_BYTES * k) 16 = part_before _ _ _ _ s (omega arith) (TABLE_HEAD_BYTES + PRD_BYTES * k) 16 (omega arith) in
    subst (λ (b : List ℕ). EncodesPrd b (slice_index_or c.args.prds.now k d)) (sym stays) (c.loop-i.invariant.entries k d lt) in
    let here : Here c.loop-i.i = λ (d : Prd).
    let same = get_or_default c.args.prds.now c.loop-i.i (record { address = 0; bytes = 0 }) d c.loop-i-test.true in
    subst (λ (b : List ℕ). EncodesPrd b (slice_index_or c.args.prds.now c.loop-i.i d)) (sym stored)
    (subst (λ (e : Prd). EncodesPrd c.prd_bytes.result e) same c.prd_bytes.ensures) in
    record {
      size = omega (arith, s.length_is_kept);
      fis = subst (λ (b : List ℕ). EncodesCommand b c.args.command.now) (sym fis_stays) c.loop-i.invariant.fis;
      between = λ k low high. s.before_is_kept k (omega arith) ∙ c.loop-i.invariant.between k low high;
      entries = λ k d lt. below_more Here c.loop-i.i below here k lt d;
    }

pub returns : goal.returns
returns c =
    let v = c.loop-i.invariant in
    record {
      size = v.size;
      fis = v.fis;
      zeros_are_between = v.between;
      prds_are_encoded = λ k d lt. v.entries k d (omega arith);
    }
