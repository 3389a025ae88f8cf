use Rattle.std.proofs.Common.{rules, ℕ, ◌<◌, length, None, Some, below_more, arith, subst, inl, inr}
use Rattle.std.proofs.lemmas.Bool.{cases_lt}
use Rattle.device_model.proofs.Ready.{page_unused}
use Rattle.device_model.proofs.SlotLemmas.{at_port}
use Rattle.device_model.specs.Finishing.{FindsPageCommandAndWhetherItCanEnd}
use Rattle.device_model.specs.WholeAdapter.{device_of}
use Rattle.device_model.proofs.hardware.Hardware.next_page_command.Goals as goal

pub loop-slot-preserved : goal.loop-slot-preserved
loop-slot-preserved c = λ o.
    below_more (λ (k : ℕ). FindsPageCommandAndWhetherItCanEnd (device_of c.args.self.now o) c.from-place.result k None) c.loop-slot.slot (c.loop-slot.invariant o) (c.in_default.ensures o)

pub returns-clause-none : goal.returns-clause-none
returns-clause-none c = λ _ o slot small.
    let P : ℕ → Type 0 = λ q. FindsPageCommandAndWhetherItCanEnd (device_of c.args.self.now o) q slot None in
    subst P c.from-place.ensures (c.loop-slot.invariant o slot (omega (arith, small, c.loop-slot-test.false)))

pub returns-in-Some-clause-found : goal.returns-in-Some-clause-found
returns-in-Some-clause-found c = λ o.
    let P : ℕ → Type 0 = λ q. FindsPageCommandAndWhetherItCanEnd (device_of c.args.self.now o) q c.loop-slot.slot (Some c.in-Some.can_end) in
    subst P c.from-place.ensures (c.in-Some.ensures o)

pub returns-in-Some-clause-first : goal.returns-in-Some-clause-first
returns-in-Some-clause-first c = λ o slot below.
    let P : ℕ → Type 0 = λ q. FindsPageCommandAndWhetherItCanEnd (device_of c.args.self.now o) q slot None in
    subst P c.from-place.ensures (c.loop-slot.invariant o slot below)

-- nothing is issued or taken from here on
pub returns-then-none_issued_or_taken_from-clause-none : goal.returns-then-none_issued_or_taken_from-clause-none
returns-then-none_issued_or_taken_from-clause-none c = λ _ o slot small.
    let h = c.args.self.now in
    let P : ℕ → Type 0 = λ q. FindsPageCommandAndWhetherItCanEnd (device_of h o) q slot None in
    let some : c.from-place.result < length h.ports = search rules in
    subst P c.from-place.ensures
    (elim (cases_lt slot c.loop-slot.slot) [
      | inl below ↦ c.loop-slot.invariant o slot below
      | inr behind ↦
          let unused = c.none_issued_or_taken_from.ensures.0 c.if-none_issued_or_taken_from.true slot behind in
          let unissued = rw (at_port h.ports c.from-place.result c.index-self-place.result some) at unused.0 in
          let untaken = rw (at_port h.ports c.from-place.result c.index-self-place.result some) at unused.1 in
          page_unused h c.from-place.result slot unissued untaken o
    ])
