use Rattle.std.proofs.Common.{ℕ, List, Option, rules, inl, inr, true, ◌≡◌, ◌≢◌, refl, sym, subst}
use Rattle.ata_types.specs.declared.PortState.{PortState}
use Rattle.ata_types.specs.declared.PortState.TheVariants.{Dead}
use Rattle.hba_regs.specs.Bits.{bit}
use Rattle.identify.specs.declared.wanted.Wanted.TheVariants.{Nothing}
use Rattle.port_boot.specs.Outcomes.{StopsAndEndsReady, StopsAndEndsUnready}
use Rattle.host_boot.specs.TakeOver.{BootsAndFindsPort}
use Rattle.host_boot.proofs.Booting.{finds_booted, finds_stuck}
use Rattle.host_boot.specs.declared.ProbeResult.TheVariants.{Ready, Unready}
use Rattle.host_boot.proofs.boot_port.Goals as goal

pub boot-requires : goal.boot-requires
boot-requires g c =
    let there : bit (g.A.Adapter.device c.args.adapter.now).pi c.args.port.0 ≡ true = search (c.if-not-is_set.ensures, c.from.ensures, c.requires.may.implemented_is_pi_of_device, rules) in
    let may = c.requires.may in
    record {
      bootable = record { adapter_is_on = may.adapter_is_on; has_port = (may.port_in_range, there); driver_memory_fits = may.driver_memory_fits; machine_is_related = may.machine_is_related };
    }

pub returns-in-Ok-clause-finds : goal.returns-in-Ok-clause-finds
returns-in-Ok-clause-finds g c =
    let there : bit (g.A.Adapter.device c.args.adapter.now).pi c.args.port.0 ≡ true = search (c.if-not-is_set.ensures, c.from.ensures, c.requires.may.implemented_is_pi_of_device, rules) in
    let wants : c.args.wanted.now ≢ Nothing = search (c.eq.ensures, c.if-eq.false, rules) in
    let R : Option (List ℕ) → Type 0 = λ s. StopsAndEndsReady s c.args.port c.in-Ok.info (g.A.Adapter.device c.args.adapter.now) (g.A.Adapter.device c.boot.new.adapter) in
    let e = subst R c.serial.ensures c.in-Ok.ensures.ready in
    finds_booted c.law_prerequisites.ensures c.args.port _ _ e.stops.is_simulated c.args.wanted.now _ (Ready c.in-Ok.info) e.ends_ready wants (c.requires.may.port_in_range, there)

pub returns-in-Err-clause-finds : goal.returns-in-Err-clause-finds
returns-in-Err-clause-finds g c =
    let laws = c.law_prerequisites.ensures in
    let there : bit (g.A.Adapter.device c.args.adapter.now).pi c.args.port.0 ≡ true = search (c.if-not-is_set.ensures, c.from.ensures, c.requires.may.implemented_is_pi_of_device, rules) in
    let wants : c.args.wanted.now ≢ Nothing = search (c.eq.ensures, c.if-eq.false, rules) in
    let old = g.A.Adapter.device c.args.adapter.now in
    let new = g.A.Adapter.device c.boot.new.adapter in
    let R : Option (List ℕ) → Type 0 = λ s. StopsAndEndsUnready s c.args.port c.in-Err.state old new in
    let F : PortState → Type 0 = λ s. BootsAndFindsPort c.args.wanted.now c.args.port (Unready s) old new in
    elim (subst R c.serial.ensures c.in-Err.ensures.unready) [
      | inl (mid, stops, ends) ↦ finds_booted laws c.args.port old mid stops.is_simulated c.args.wanted.now new (Unready c.in-Err.state) ends wants (c.requires.may.port_in_range, there)
      | inr (dead, clear, fails) ↦ subst F (sym dead) (finds_stuck laws c.args.port old new c.args.wanted.now wants (c.requires.may.port_in_range, there) clear fails)
    ]
