use Rattle.std.proofs.Common.{rules, true, ◌≡◌, ◌<◌, ℕ, length, subst, sym, slice_index_or}
use Rattle.device_model.specs.Slots.{IsFetchableIfHaltAdmits}
use Rattle.adapter.specs.Commands.{Meaning}
use Rattle.adapter.specs.Steps.{IsAloneOrAllAreQueued, admits}
use Rattle.adapter.proofs.SaysLemmas.{says_meaning}
use Rattle.device_model.specs.FetchedBytes.{bytes_of}
use Rattle.device_model.specs.PortView.{halt_of, port_of, taken_of, reset_port_without_disk}
use Rattle.device_model.proofs.Stepping.{port_takes, fetch_says, fetch_takes}
use Rattle.device_model.proofs.Ready.{may_be_taken}
use Rattle.device_model.proofs.SlotLemmas.{at_port}
use Rattle.device_model.proofs.hardware.Hardware.fetch_decoded.Goals as goal

pub take-requires-clause-alone : goal.take-requires-clause-alone
take-requires-clause-alone c = λ m.
    let ports = c.args.self.now.ports in
    let small : c.from-place.result < length ports = search rules in
    rw (at_port ports c.from-place.result c.index-self-place-3.result small)
    (rw (at_port ports c.from-place.result c.index-self-place-2.result small) at ((c.admits_by_halt_and_taken.ensures.open c.if-not-admits_by_halt_and_taken.false).1 m))

pub returns-clause-did : goal.returns-clause-did
returns-clause-did c = λ _ o.
    let h = c.args.self.now in
    let m = o.media c.from-place.result in
    let small : c.from-place.result < length h.ports = search rules in
    let P : ℕ → Type 0 = λ q. IsFetchableIfHaltAdmits (slice_index_or h.ports q reset_port_without_disk) c.args.slot in
    let may = subst P (sym c.from-place.ensures) c.requires.may in
    let taken = may_be_taken (slice_index_or h.ports c.from-place.result reset_port_without_disk) c.args.slot c.in-Some.command may (rw (at_port h.ports c.from-place.result c.index-self-place-2.result small) at (c.admits_by_halt_and_taken.ensures.open c.if-not-admits_by_halt_and_taken.false)) in
    port_takes h o c.from-place.result c.args.port c.args.slot _ c.in-Some.command c.from-place.ensures small (taken m)
    (rw (at_port h.ports c.from-place.result c.index-self-place.result small) at (rw c.deref.ensures.value at c.in-Some.ensures.found.1))
    (rw (at_port h.ports c.from-place.result c.index-self-place-3.result small) at (c.take.ensures m))

pub returns-in_default-clause-only : goal.returns-in_default-clause-only
returns-in_default-clause-only c = λ _ o m places may.
    let says = fetch_says c.args.self.now o c.from-place.result c.args.port c.args.slot m places c.from-place.ensures may in
    let small : c.from-place.result < length c.args.self.now.ports = search rules in
    (rw (at_port c.args.self.now.ports c.from-place.result c.index-self-place.result small) at (c.read_command.ensures.complete c.in_default.is m places))
    (rw (← c.deref.ensures.value) at says)

-- another command is taken
pub returns-then-not-admits_by_halt_and_taken-clause-only : goal.returns-then-not-admits_by_halt_and_taken-clause-only
returns-then-not-admits_by_halt_and_taken-clause-only c = λ _ o m places may.
    let h = c.args.self.now in
    let says = fetch_says h o c.from-place.result c.args.port c.args.slot m places c.from-place.ensures may in
    let small : c.from-place.result < length c.args.self.now.ports = search rules in
    let said = rw (at_port h.ports c.from-place.result c.index-self-place.result small) at (rw c.deref.ensures.value at c.in-Some.ensures.found.1) in
    let one = says_meaning (bytes_of h.memory.items) _ c.args.slot m (taken_of c.in-Some.command).meaning places _ says said in
    let takes = fetch_takes h o c.from-place.result c.args.port c.args.slot m places c.from-place.ensures may in
    let alone = takes.is_alone_or_all_are_queued in
    (rw (at_port h.ports c.from-place.result c.index-self-place-2.result small) at (c.admits_by_halt_and_taken.ensures.complete c.if-not-admits_by_halt_and_taken.true (o.media c.from-place.result)))
    (subst (λ (x : Meaning). admits (halt_of (slice_index_or h.ports c.from-place.result reset_port_without_disk).halting) x.operation ≡ true) one takes.working.admitted)
    (subst (λ (x : Meaning). IsAloneOrAllAreQueued (port_of (slice_index_or h.ports c.from-place.result reset_port_without_disk) (o.media c.from-place.result)) x.operation) one alone)
