use Rattle.std.proofs.Common.{ℕ, ◌≡◌, arith, sym, ap, ◌∙◌, subst}
use Rattle.std.proofs.lemmas.List.Elements.{All-weaker}
use Rattle.ata_types.specs.declared.Port.{Port}
use Rattle.hba_regs.specs.Bits.{bit}
use Rattle.refinement.specs.Fragments.{AnyAccess, ReadsPortOrWrites}
use Rattle.host_boot.specs.declared.ProbeResult.TheVariants.{Ready, Unserved}
use Rattle.port_control.specs.Calls.{MayBeginReceiving}
use Rattle.port_control.specs.Ports.{IsCommandRegister}
use Rattle.server_examples.proofs.tests.waits.received_anew.Goals as goal

pub stop-requires : goal.stop-requires
stop-requires g c =
    let taken = c.take_over-host.ensures.takes_over in
    let none : Ready c.in-Ready.field-0 ≡ Unserved → ⊥ = λ e. absurd cc in
    let there = c.law_ready_ports_run_and_unusable_disks_show.ensures.served_port_exists _ _ 0 _ _ taken (omega arith) (λ e. none (sym c.in-Ready.is ∙ e)) in
    record { on_and_agrees = record { adapter_is_on = taken.adapter_is_on; has_port = there; machine_is_related = (taken.uses, tt, taken.machine_is_related) } }

pub receive-requires : goal.receive-requires
receive-requires g c =
    let taken = c.take_over-host.ensures.takes_over in
    let followed = c.in-Ok.ensures.stops.is_simulated.is_simulated in
    let same = c.law_other_ports_are_untouched.ensures.adapter_is_same _ _ (record {
      accesses = followed.is_driven.accesses;
      all_are_done = followed.is_driven.all_are_done;
      accesses_are_of_kind = All-weaker (ReadsPortOrWrites IsCommandRegister (record { 0 = 0 })) AnyAccess (λ access is. tt) followed.is_driven.accesses followed.is_driven.accesses_are_of_kind;
    }) in
    let none : Ready c.in-Ready.field-0 ≡ Unserved → ⊥ = λ e. absurd cc in
    let there = c.law_ready_ports_run_and_unusable_disks_show.ensures.served_port_exists _ _ 0 _ _ taken (omega arith) (λ e. none (sym c.in-Ready.is ∙ e)) in
    let M : Port → Type 0 = λ p. MayBeginReceiving p (g.A.Adapter.device c.stop.new.adapter) in
    record {
      may = subst M (sym c.in-Ok.ensures.token_is_of_port) (record {
        adapter_is_on = c.stop.ensures.adapter_is_on;
        has_port = (there.0, ap (λ (pi : ℕ). bit pi 0) same.pi ∙ there.1);
        machine_is_related = (taken.uses, tt, c.law_simulated_fragments_keep_agreement.ensures.agreed tt (λ uses. uses) taken.uses _ _ tt followed taken.machine_is_related);
        stopped = c.in-Ok.ensures.stops.stopped;
        driver_memory_fits = let size = same.memory_size in let had = taken.adapter_is_kept.memory_size in let room = c.requires.room in omega (arith, room, size, had);
      });
    }
