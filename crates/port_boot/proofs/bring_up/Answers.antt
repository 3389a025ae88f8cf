use Rattle.std.proofs.Common.{inl, inr, refl, sym, ◌∙◌, subst}
use Rattle.ata_types.specs.declared.Port.{Port}
use Rattle.refinement.specs.Fragments.{AnySlotStates, ReadsPortOrWrites, IsSimulated}
use Rattle.refinement.specs.Driver.{AllFree}
use Rattle.port_control.specs.Calls.{ResetsAndFindsDisk, ResetsAndFindsFault, MayBeStarted, MayResetLink, StaysReceivingWithLinkUpIfDet3, Starts}
use Rattle.port_control.specs.Ports.{IsCommandRegister, IsSctlSerrOrIs}
use Rattle.port_boot.proofs.Bringing.{fault_ends, placed_bootable, reset_bootable, reset_boots, reset_since, ends_early, up_boots, brought_up}
use Rattle.port_boot.proofs.Identifying.{faulty_boots, stuck_boots}
use Rattle.port_boot.proofs.bring_up.Goals as goal

pub comreset-requires : goal.comreset-requires
comreset-requires g c =
    let b = placed_bootable c.law_prerequisites.ensures c.args.stopped.port _ _ c.requires.bootable c.in-Ok.ensures.receives.is_simulated.is_simulated in
    let M : Port → Type 0 = λ p. MayResetLink p (g.A.Adapter.device c.receive.new.adapter) in
    record {
      may = subst M (sym c.in-Ok.ensures.token_is_of_port) (record { adapter_is_on = b.adapter_is_on; has_port = b.has_port; machine_is_related = (b.machine_is_related.0, tt, b.machine_is_related.2); receives = c.in-Ok.ensures.receives.receives });
    }

pub returns-in_default-clause-fails : goal.returns-in_default-clause-fails
returns-in_default-clause-fails g c =
    let stuck = c.in_default.ensures.fails.2 in
    record {
      boots = inl (stuck_boots c.law_prerequisites.ensures c.args.stopped.port _ _ stuck.is_simulated);
      state_is_backed = λ wanted. (c.receive.ensures.stays_stopped.stopped.engine_is_stopped.st_is_clear, stuck.stuck_is_backed);
      sctl_written_in_boot = λ other. absurd (other refl);
      dead_or_before_start = inl refl;
    }

pub returns-in-Err-clause-fails : goal.returns-in-Err-clause-fails
returns-in-Err-clause-fails g c =
    let P : Port → Type 0 = λ p. IsSimulated (ReadsPortOrWrites IsSctlSerrOrIs p) AnySlotStates (g.A.Adapter.device c.receive.new.adapter) (g.A.Adapter.device c.comreset.new.adapter) in
    let second = subst P c.in-Ok.ensures.token_is_of_port c.comreset.ensures.followed in
    let F : Port → Type 0 = λ p. StaysReceivingWithLinkUpIfDet3 p (g.A.Adapter.device c.receive.new.adapter) (g.A.Adapter.device c.comreset.new.adapter) × ResetsAndFindsFault p c.in-Err.fault (g.A.Adapter.device c.receive.new.adapter) (g.A.Adapter.device c.comreset.new.adapter) in
    let f = subst F c.in-Ok.ensures.token_is_of_port (c.comreset.ensures.stays_receiving, c.in-Err.ensures.fault.1) in
    let told = c.state_of.ensures in
    record {
      boots = faulty_boots c.law_prerequisites.ensures c.args.stopped.port _ _ c.in-Err.fault f.1.fault_is_backed.1 c.state_of.result told
          (reset_boots c.law_prerequisites.ensures c.args.stopped.port _ _ _ c.requires.bootable c.in-Ok.ensures.receives.is_simulated second);
      state_is_backed = fault_ends c.args.stopped.port.0 _ c.state_of.result c.in-Err.fault told f.1.fault_is_backed.1 f.0.receives f.1.fault_is_backed.0;
      sctl_written_in_boot = λ _. reset_since c.law_prerequisites.ensures c.args.stopped.port _ _ _ c.requires.bootable c.in-Ok.ensures.receives.is_simulated second f.1.comreset_is_sent;
      dead_or_before_start = inr (ends_early c.law_prerequisites.ensures c.args.stopped.port _ _ _ c.requires.bootable c.in-Ok.ensures.receives.is_simulated second c.state_of.result c.in-Err.fault told f.0 f.1);
    }

pub start-requires : goal.start-requires
start-requires g c =
    let at = c.in-Ok.ensures.token_is_of_port in
    let P : Port → Type 0 = λ p. IsSimulated (ReadsPortOrWrites IsSctlSerrOrIs p) AnySlotStates (g.A.Adapter.device c.receive.new.adapter) (g.A.Adapter.device c.comreset.new.adapter) in
    let second = subst P at c.comreset.ensures.followed in
    let found = c.in-Ok-comreset.ensures.finds in
    let F : Port → Type 0 = λ p. StaysReceivingWithLinkUpIfDet3 p (g.A.Adapter.device c.receive.new.adapter) (g.A.Adapter.device c.comreset.new.adapter) × ResetsAndFindsDisk p (g.A.Adapter.device c.receive.new.adapter) (g.A.Adapter.device c.comreset.new.adapter) in
    let f = subst F at (c.comreset.ensures.stays_receiving, found.1) in
    let b = reset_bootable c.law_prerequisites.ensures c.args.stopped.port _ _ _ c.requires.bootable c.in-Ok.ensures.receives.is_simulated second in
    let M : Port → Type 0 = λ p. MayBeStarted p (g.A.Adapter.device c.comreset.new.adapter) in
    record {
      may = subst M (sym (found.0 ∙ at)) (record { adapter_is_on = b.adapter_is_on; has_port = b.has_port; machine_is_related = b.machine_is_related; receives = f.0.receives; link_was_seen = f.1.disk_is_seen.0.0; disk_was_idle = f.1.disk_is_seen.1 });
    }

pub returns-clause-rises : goal.returns-clause-rises
returns-clause-rises g c =
    let at = c.in-Ok.ensures.token_is_of_port in
    let P : Port → Type 0 = λ p. IsSimulated (ReadsPortOrWrites IsSctlSerrOrIs p) AnySlotStates (g.A.Adapter.device c.receive.new.adapter) (g.A.Adapter.device c.comreset.new.adapter) in
    let second = subst P at c.comreset.ensures.followed in
    let found = c.in-Ok-comreset.ensures.finds in
    let then = found.0 ∙ at in
    let Q : Port → Type 0 = λ p. IsSimulated (ReadsPortOrWrites IsCommandRegister p) (λ uses. AllFree uses p.0) (g.A.Adapter.device c.comreset.new.adapter) (g.A.Adapter.device c.start.new.adapter) in
    let third = subst Q then c.start.ensures.followed in
    let F : Port → Type 0 = λ p. ResetsAndFindsDisk p (g.A.Adapter.device c.receive.new.adapter) (g.A.Adapter.device c.comreset.new.adapter) in
    let S : Port → Type 0 = λ p. Starts p (g.A.Adapter.device c.comreset.new.adapter) (g.A.Adapter.device c.start.new.adapter) in
    record {
      boots = up_boots c.law_prerequisites.ensures c.args.stopped.port _ _ _ c.requires.bootable c.in-Ok.ensures.receives.is_simulated second _ third;
      is_brought_up = brought_up c.law_prerequisites.ensures c.args.stopped.port _ _ _ c.requires.bootable c.in-Ok.ensures.receives.is_simulated second _ third (subst F at found.1) (subst S then c.start.ensures.starts);
    }
