use Rattle.std.proofs.Common.{rules, ℕ, Option, ◌≡◌, ◌≢◌, ◌<◌, ◌∙◌, None, Some, length, ap, sym, subst, refl}
use Rattle.std.specs.Prelude.{slice_set}
use Rattle.std.proofs.lemmas.List.{length-set}
use Rattle.adapter.specs.Memory.{changed}
use Rattle.device_model.proofs.Blocks.{block_put}
use Rattle.device_model.proofs.SlotLemmas.{held_list, held_put}
use Rattle.device_model.specs.PortView.{taken_in}
use Rattle.device_model.specs.TakenBlocks.{BlockIsOfTakenTrim, taken_in_slot}
use Rattle.device_model.specs.declared.port.TakenCommand.{TakenCommand}
use Rattle.device_model.proofs.taken.TakenCommands.put.Goals as goal

pub returns : goal.returns
returns c =
    let filled = c.self.inside.filled in
    let items = c.self.inside.slots.items in
    let small : c.from.result < length items = search rules in
    let place : c.from-2.result ≡ c.from.result = c.from-2.ensures ∙ sym c.from.ensures in
    let new : TakenCommand = record c.args.command.now { prds = c.copy_from.new.self; block = None } in
    let bits = rw place at c.with_bit_as-self-inside.ensures in
    let was : taken_in_slot filled items ≡ taken_in c.args.self.now = sym (held_list filled items) ∙ ap taken_in c.self.view_is in
    held_list c.with_bit_as-self-inside.result (slice_set items c.from.result new)
    ∙ (held_put filled c.with_bit_as-self-inside.result items c.from.result new small bits
    ∙ (λ i. changed (was i) (c.from.ensures i) (Some (record c.args.command.now { prds = c.copy_from.ensures i; block = sym c.requires.new i }))))

pub invariant_of-self : goal.invariant_of-self
invariant_of-self c =
    let filled = c.self.inside.filled in
    let items = c.self.inside.slots.items in
    let small : c.from.result < length items = search rules in
    let place : c.from-2.result ≡ c.from.result = c.from-2.ensures ∙ sym c.from.ensures in
    let new : TakenCommand = record c.args.command.now { prds = c.copy_from.new.self; block = None } in
    let bits = rw place at c.with_bit_as-self-inside.ensures in
    let was : taken_in_slot filled items ≡ taken_in c.args.self.now = sym (held_list filled items) ∙ ap taken_in c.self.view_is in
    let beside = λ (other : ℕ) (u : TakenCommand) (ne : other ≢ c.from.result) (is : taken_in_slot filled items other ≡ Some u).
    c.requires.alone other u (rw c.from.ensures at ne) (ap (λ (f : ℕ → Option TakenCommand). f other) (sym was) ∙ is) in
    let P : (ℕ → Option TakenCommand) → Type 0 = λ f. BlockIsOfTakenTrim f c.self.inside.block in (
      simp length-set c.self.invariant.0,
      subst P (sym (held_put filled c.with_bit_as-self-inside.result items c.from.result new small bits))
          (block_put (taken_in_slot filled items) c.self.inside.block c.from.result c.self.invariant.1 new refl c.requires.low beside),
    )
