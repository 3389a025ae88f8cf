use Rattle.std.proofs.Common.{ℕ, ◌≡◌, ◌+◌, refl, sym, ◌∙◌, ap, subst, arith}
use Rattle.std.proofs.lemmas.List.{length-set}
use Rattle.hba_regs.specs.Bits.{bit, field}
use Rattle.ata_types.specs.declared.Port.{Port}
use Rattle.adapter.specs.Device.{Device}
use Rattle.refinement.specs.PreservedParts.{SameAdapter}
use Rattle.host_boot.specs.TakeOver.{ReadsCapOrPiOrSetsAe}
use Rattle.host_boot.proofs.Taking.{IsUnderway, begins, boots_same, ends, next}
use Rattle.host_boot.proofs.Tokens.{HaveTokens, tokens_more}
use Rattle.host_boot.proofs.Ways.{IsOnWay, way_more, way_over}
use Rattle.host_boot.proofs.take_over.Goals as goal
use Rattle.host_boot.proofs.Stretching.{same_over}
use Rattle.host_boot.proofs.Hosting.{hosted_then}

pub loop-number-init : goal.loop-number-init
loop-number-init g c =
    let old : Device = g.A.Adapter.device c.args.adapter.now in
    let told = g.met.A.Adapter.tells c.args.adapter.now in
    record {
      underway = begins c.law_prerequisites.ensures c.args.wanted.now old _ _ refl c.requires.idle (c.law_prerequisites.ensures.idle_device_is_related old c.requires.idle told) c.survey-implemented.ensures.adapter_is_on
          (λ port. c.law_prerequisites.ensures.leaves_port_is_transitive _ _ _ (c.power_on.ensures.leaves port) (c.survey-implemented.ensures.leaves port))
          (hosted_then c.law_prerequisites.ensures _ _ _ c.power_on.ensures.followed c.survey-implemented.ensures.followed);
      way = record {
        switched = g.A.Adapter.device c.power_on.new.adapter;
        switches = c.power_on.ensures.switches;
        surveyed = g.A.Adapter.device c.survey-implemented.new.adapter;
        surveys = c.survey-implemented.ensures.surveys;
        boots = refl;
      };
      four_tokens = refl;
      tokens = λ port less. absurd (omega (arith, less));
      there = c.survey-implemented.ensures.told.1;
      capable = c.survey-implemented.ensures.told.0;
      cost = omega arith;
    }

pub boot_port-found-requires : goal.boot_port-found-requires
boot_port-found-requires g c =
    let u = c.loop-number.invariant.underway in
    record {
      may = record {
        adapter_is_on = u.on;
        port_in_range = c.loop-number-test.true;
        implemented_is_pi_of_device = c.loop-number.invariant.there;
        driver_memory_fits = let same = u.same.memory_size in let room = c.requires.driver_memory_fits in omega (arith, same, room);
        machine_is_related = (u.uses, λ slot. u.free c.loop-number.number slot (omega arith), u.agreed);
        idle = u.idle c.loop-number.number (omega arith);
      };
    }

pub loop-number-preserved : goal.loop-number-preserved
loop-number-preserved g c =
    let port : Port = record { 0 = c.loop-number.number } in
    let same : SameAdapter (g.A.Adapter.device c.loop-number.adapter) (g.A.Adapter.device c.boot_port-found.new.adapter) =
    boots_same c.law_prerequisites.ensures port _ _ c.boot_port-found.result.0 c.boot_port-found.ensures.finds.boots in
    record {
      underway = next c.law_prerequisites.ensures c.args.wanted.now c.loop-number.ports port c.loop-number-test.true _ _ _ c.boot_port-found.result.0 c.loop-number.invariant.underway
          c.boot_port-found.ensures.adapter_is_on c.boot_port-found.ensures.finds.result_is_backed c.boot_port-found.ensures.finds.sctl_was_written_unless_unserved_or_dead c.boot_port-found.ensures.finds.halt_fits_taken_commands c.boot_port-found.ensures.finds.boots;
      way = way_more c.loop-number.ports c.loop-number.number c.boot_port-found.result.0 _ _ _ c.loop-number.invariant.underway.long c.loop-number-test.true c.loop-number.invariant.way
          c.boot_port-found.ensures.finds.stops_and_boots;
      four_tokens = length-set c.loop-number.running c.loop-number.number c.boot_port-found.result.1 ∙ c.loop-number.invariant.four_tokens;
      tokens = tokens_more c.loop-number.ports c.loop-number.running c.loop-number.number c.boot_port-found.result.0 c.boot_port-found.result.1 c.loop-number.invariant.underway.long c.loop-number.invariant.four_tokens c.loop-number-test.true c.boot_port-found.ensures.token c.loop-number.invariant.tokens;
      there = c.loop-number.invariant.there ∙ sym same.pi;
      capable = c.loop-number.invariant.capable ∙ sym same.cap;
      cost = omega arith;
    }

pub enable_interrupts-requires : goal.enable_interrupts-requires
enable_interrupts-requires g c = record { adapter_is_on = c.loop-number.invariant.underway.on }

pub returns : goal.returns
returns g c =
    let d : Device = g.A.Adapter.device c.loop-number.adapter in
    let new : Device = g.A.Adapter.device c.enable_interrupts.new.adapter in
    let four : c.loop-number.number ≡ 4 = omega (arith, c.loop-number-test.false, c.loop-number.auto.number-end) in
    let same : SameAdapter d new = same_over c.law_prerequisites.ensures ReadsCapOrPiOrSetsAe d new c.enable_interrupts.ensures.followed.is_driven in
    let cap : c.survey-implemented.result.0.0 ≡ new.cap = c.loop-number.invariant.capable ∙ sym same.cap in
    record {
      takes_over = ends c.law_prerequisites.ensures c.args.wanted.now (g.A.Adapter.device c.args.adapter.now) c.loop-number.ports d new
          (subst (λ (n : ℕ). IsUnderway c.args.wanted.now c.loop-number.ports n (g.A.Adapter.device c.args.adapter.now) d) four c.loop-number.invariant.underway)
          c.enable_interrupts.ensures.leaves c.enable_interrupts.ensures.followed _ refl
          (ap (λ (n : ℕ). n + 1) (c.last_slot.ensures ∙ ap (λ (v : ℕ). field v 8 5) cap))
          (c.has_ncq.ensures ∙ ap (λ (v : ℕ). bit v 30) cap)
          c.enable_interrupts.ensures.adapter_is_on c.enable_interrupts.ensures.tells
          (way_over c.loop-number.ports (g.A.Adapter.device c.args.adapter.now) d new c.loop-number.invariant.underway.long
          (subst (λ (n : ℕ). IsOnWay c.loop-number.ports n (g.A.Adapter.device c.args.adapter.now) d) four c.loop-number.invariant.way) c.enable_interrupts.ensures.enables);
      has_four_ports = c.loop-number.invariant.underway.long;
      tokens = subst (λ (n : ℕ). HaveTokens c.loop-number.ports c.loop-number.running n) four c.loop-number.invariant.tokens;
      cost = omega (arith, four);
    }
