use Rattle.std.proofs.Common.{true, ap, rules, ℕ, ◌≡◌, ◌<◌, ◌≤◌, ◌+◌, ◌∙◌, length, slice_index, slice_index_or, sym, subst, arith}
use Rattle.std.proofs.lemmas.Grind.{get_or_default_zero}
use Rattle.std.specs.Vec.{with_items}
use Rattle.std.proofs.lemmas.List.{with_items_is}
use Rattle.device_model.proofs.Absurd.{true-false}
use Rattle.device_model.specs.PortView.{reset_port_without_disk}
use Rattle.device_model.specs.WholeAdapter.{device_of}
use Rattle.device_model.specs.declared.port.PortModel.{PortModel}
use Rattle.device_model.proofs.Bytes.{memory_put}
use Rattle.device_model.proofs.Posting.{received_there}
use Rattle.device_model.proofs.SlotLemmas.{at_port}
use Rattle.device_model.proofs.hardware.Hardware.send.Goals as goal

pub returns-then-area-len-clause-sent : goal.returns-then-area-len-clause-sent
returns-then-area-len-clause-sent c = λ o.
    let h = c.args.self.now in
    let fb : ℕ = (slice_index_or h.ports c.args.port reset_port_without_disk).addresses.fb in
    let size : length c.put.new.memory ≡ h.memory.len = c.put.auto.memory ∙ c.deref_mut.ensures.len in
    let there : c.args.port < length h.ports = search rules in
    let same : (slice_index_or h.ports c.args.port c.index-self-port.result).addresses.fb ≡ fb =
    ap (λ (x : PortModel). x.addresses.fb) (at_port h.ports c.args.port c.index-self-port.result there) in
    let receives : (slice_index_or h.ports c.args.port reset_port_without_disk).fre ≡ true =
    rw (at_port h.ports c.args.port c.index-self-port-2.result there) at c.if-self-port.true in
    let inside : fb + 256 ≤ length h.memory.items = search (same, rules) in
    let fits : (fb + c.args.place) + length c.args.fis.now ≤ length h.memory.items = search (same, rules) in
    let fits_8 = c.type_inv.fis in
    let byte : (k : ℕ) → slice_index c.args.fis.now k < 256 = λ k. search (fits_8, rules) in
    record {
      is_posted_if_received = λ _. record {
        receives = receives;
        from = omega arith;
        to = search rules;
        are_bytes = λ k d small. let P : ℕ → Type 0 = λ n. n < 256 in subst P (sym (get_or_default_zero c.args.fis.now k d small)) (byte k);
        effect = memory_put (device_of h o) h.memory.items c.args.fis.now (with_items h.memory c.put.new.memory).items (fb + c.args.place) fits
            (with_items_is h.memory c.put.new.memory size ∙ rw same at (rw c.deref_mut.ensures.value at c.put.ensures));
      };
      is_lost = λ no. true-false (received_there ((device_of h o).port c.args.port) (length h.memory.items) receives inside) no;
    }
