use Rattle.std.proofs.Common.{rules, ◌≡◌, ◌<◌, ℕ, ◌∙◌, ◌++◌, ap, arith, drop, length, refl, sym, subst, take}
use Rattle.std.proofs.lemmas.List.{take-append-le, take_all}
use Rattle.std.specs.Prelude.{slice_index_or}
use Rattle.adapter.specs.AskedSteps.{IsScribbled}
use Rattle.device_model.specs.FetchedBytes.{bytes_of}
use Rattle.device_model.specs.PortView.{reset_port_without_disk, port_of}
use Rattle.device_model.specs.WholeAdapter.{device_of}
use Rattle.device_model.specs.declared.hardware.Hardware.{Hardware}
use Rattle.device_model.specs.declared.port.PortModel.{PortModel}
use Rattle.device_model.proofs.Filled.{is_held}
use Rattle.device_model.proofs.SlotLemmas.{at_port}
use Rattle.device_model.proofs.hardware.Hardware.scribble.Goals as goal

pub loop-slot-init : goal.loop-slot-init
loop-slot-init c =
    let old : Hardware = c.args.self.now in
    let p = slice_index_or old.ports c.args.port reset_port_without_disk in
    let new = c.put_within.new.memory in
    let small : c.from-place.result < length old.ports = search rules in
    let now : c.deref_mut.result.now ≡ old.memory.items = c.deref_mut.ensures.value in
    let long : old.memory.len ≡ length new = sym (c.put_within.auto.memory ∙ c.deref_mut.ensures.len) in
    let items : take old.memory.len (new ++ drop (length new) old.memory.items) ≡ new = rw long (take-append-le (length new) new (drop (length new) old.memory.items) (omega arith) ∙ take_all (length new) new (omega arith)) in
    let area : (slice_index_or old.ports c.from-place.result c.index-self-place-2.result).addresses.fb ≡ p.addresses.fb =
    ap (λ (port : PortModel). port.addresses.fb) (at_port old.ports c.from-place.result c.index-self-place-2.result small ∙ ap (λ n. slice_index_or old.ports n reset_port_without_disk) c.from-place.ensures) in
    let put = rw area at (rw now at c.put_within.ensures) in
    record {
      filled = λ m.
          let P : (ℕ → ℕ) → Type 0 = λ memory. IsScribbled 0 (length old.memory.items) c.args.byte (port_of p m) (bytes_of old.memory.items) memory in
          subst P (sym (ap bytes_of items ∙ put)) (c.law_scribbled_memory_is_filled_slot_by_slot.ensures.received_fis_area (length old.memory.items) c.args.byte (port_of p m) (bytes_of old.memory.items));
      rest = refl;
      size = ap length items ∙ (c.put_within.auto.memory ∙ ap length now);
    }

pub loop-slot-preserved : goal.loop-slot-preserved
loop-slot-preserved c =
    let old : Hardware = c.args.self.now in
    let inv = c.loop-slot.invariant in
    let ports = ap (λ (h : Hardware). h.ports) inv.rest in
    let one = rw c.from-place.ensures at (rw inv.size at (rw ports at c.scribble_count.ensures.filled)) in
    record {
      filled = λ m. c.law_scribbled_memory_is_filled_slot_by_slot.ensures.prdbc_of_slot c.loop-slot.slot (length old.memory.items) c.args.byte (port_of (slice_index_or old.ports c.args.port reset_port_without_disk) m) _ _ _ (inv.filled m)
          (rw (is_held _) one);
      rest = c.scribble_count.ensures.rest ∙ ap (λ (h : Hardware). record h { memory = c.scribble_count.new.self.memory }) inv.rest;
      size = c.scribble_count.ensures.size ∙ inv.size;
    }

pub returns-clause-did : goal.returns-clause-did
returns-clause-did c = λ _ o.
    let old : Hardware = c.args.self.now in
    let inv = c.loop-slot.invariant in
    let small : c.from-place.result < length old.ports = search rules in
    let all : c.loop-slot.slot ≡ 32 = omega (arith, c.loop-slot-test.false, c.loop-slot.auto.slot-end) in
    let P : ℕ → Type 0 = λ n. IsScribbled n (length old.memory.items) c.args.byte (port_of (slice_index_or old.ports c.args.port reset_port_without_disk) (o.media c.args.port)) (bytes_of old.memory.items) (bytes_of c.loop-slot.self.memory.items) in
    record {
      receives = rw c.from-place.ensures at (rw (at_port old.ports c.from-place.result c.index-self-place.result small) at c.if-not-self-place.false);
      is_byte = omega (arith, c.ranges.byte.fits);
      memory = bytes_of c.loop-slot.self.memory.items;
      scribbled = subst P all (inv.filled (o.media c.args.port));
      effect = ap (λ (h : Hardware). device_of h o) inv.rest ∙ (λ i. record (device_of old o) { memory_size = inv.size i; memory = bytes_of c.loop-slot.self.memory.items });
    }
