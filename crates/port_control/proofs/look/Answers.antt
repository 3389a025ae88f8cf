use Rattle.std.proofs.Common.{ℕ, ◌≡◌, ◌∙◌, refl, subst, arith}
use Rattle.hba_regs.specs.declared.reg.PortReg.TheVariants.{Sig}
use Rattle.port_control.specs.Ports.{FindsSignature}
use Rattle.port_control.specs.declared.PortFault.TheVariants.{Busy, EngineStuck, NoDevice, NotAta}
use Rattle.port_control.proofs.Using.{usable_after}
use Rattle.port_control.proofs.Settling.{settles}
use Rattle.port_control.proofs.Looking.{looks, sig_saw, sig_idle, sig_last, sig_quiet, sig_shown}
use Rattle.port_control.proofs.Resetting.{has_device, finds_link, finds_busy, finds_signature}
use Rattle.port_control.proofs.look.Goals as goal
use Rattle.port_control.specs.Laws.RegisterSet.{ClearingErrors}
use Rattle.port_control.specs.Laws.AccessPurpose.{Controlling}
use Rattle.port_control.proofs.Stretching.{followed_then}

pub clear_errors-requires-clause-usable : goal.clear_errors-requires-clause-usable
clear_errors-requires-clause-usable g c =
    let first = usable_after c.law_prerequisites.ensures ClearingErrors c.args.port _ _ c.requires.usable c.wait_for_device.ensures.followed in
    first

pub clear_errors-requires-clause-receives : goal.clear_errors-requires-clause-receives
clear_errors-requires-clause-receives g c =
    let seen = settles c.law_prerequisites.ensures c.args.port _ _ c.requires.usable.adapter_is_on c.wait_for_device.ensures.followed.is_driven in
    seen.receiving c.requires.receives

pub wait_until_idle-requires-clause-usable : goal.wait_until_idle-requires-clause-usable
wait_until_idle-requires-clause-usable g c =
    let first = usable_after c.law_prerequisites.ensures ClearingErrors c.args.port _ _ c.requires.usable c.wait_for_device.ensures.followed in
    let second = usable_after c.law_prerequisites.ensures ClearingErrors c.args.port _ _ first c.clear_errors.ensures.followed in
    second

pub wait_until_idle-requires-clause-det : goal.wait_until_idle-requires-clause-det
wait_until_idle-requires-clause-det g c =
    let first = usable_after c.law_prerequisites.ensures ClearingErrors c.args.port _ _ c.requires.usable c.wait_for_device.ensures.followed in
    let seen = settles c.law_prerequisites.ensures c.args.port _ _ c.requires.usable.adapter_is_on c.wait_for_device.ensures.followed.is_driven in
    let cleared = settles c.law_prerequisites.ensures c.args.port _ _ first.adapter_is_on c.clear_errors.ensures.followed.is_driven in
    cleared.det ∙ seen.det ∙ c.requires.det

pub wait_until_idle-requires-clause-saw : goal.wait_until_idle-requires-clause-saw
wait_until_idle-requires-clause-saw g c =
    c.clear_errors.ensures.saw (c.wait_for_device.ensures.finds c.if-not-wait_for_device.false).device_was_seen

pub read-signature-requires : goal.read-signature-requires
read-signature-requires g c =
    let first = usable_after c.law_prerequisites.ensures ClearingErrors c.args.port _ _ c.requires.usable c.wait_for_device.ensures.followed in
    let second = usable_after c.law_prerequisites.ensures ClearingErrors c.args.port _ _ first c.clear_errors.ensures.followed in
    let third = usable_after c.law_prerequisites.ensures ClearingErrors c.args.port _ _ second c.wait_until_idle.ensures.followed in
    (third.adapter_is_on, third.has_port)

pub returns-then-not-wait_for_device-clause-fault : goal.returns-then-not-wait_for_device-clause-fault
returns-then-not-wait_for_device-clause-fault g c =
    let missed = c.wait_for_device.ensures.misses c.if-not-wait_for_device.true in
    record {
      sees_reset_fault = missed.reads_in_vain;
      fault_is_backed = (missed.no_device_is_backed, λ (e : NoDevice ≡ EngineStuck). absurd (cc));
      is_clear_and_up_if_stopped_unless_plug_events = λ other. absurd (other refl);
      signature_is_shown = λ signature (e : NoDevice ≡ NotAta signature). absurd (cc);
    }

pub returns-then-not-wait_until_idle-clause-followed : goal.returns-then-not-wait_until_idle-clause-followed
returns-then-not-wait_until_idle-clause-followed g c = followed_then c.law_prerequisites.ensures (Controlling ClearingErrors c.args.port) _ _ _ (followed_then c.law_prerequisites.ensures (Controlling ClearingErrors c.args.port) _ _ _ c.wait_for_device.ensures.followed c.clear_errors.ensures.followed) c.wait_until_idle.ensures.followed

pub returns-then-not-wait_until_idle-clause-fault : goal.returns-then-not-wait_until_idle-clause-fault
returns-then-not-wait_until_idle-clause-fault g c =
    let first = usable_after c.law_prerequisites.ensures ClearingErrors c.args.port _ _ c.requires.usable c.wait_for_device.ensures.followed in
    let seen = settles c.law_prerequisites.ensures c.args.port _ _ c.requires.usable.adapter_is_on c.wait_for_device.ensures.followed.is_driven in
    let second = usable_after c.law_prerequisites.ensures ClearingErrors c.args.port _ _ first c.clear_errors.ensures.followed in
    let cleared = settles c.law_prerequisites.ensures c.args.port _ _ first.adapter_is_on c.clear_errors.ensures.followed.is_driven in
    let waited = settles c.law_prerequisites.ensures c.args.port _ _ second.adapter_is_on c.wait_until_idle.ensures.followed.is_driven in
    let found = c.wait_for_device.ensures.finds c.if-not-wait_for_device.false in
    let errors = c.clear_errors.ensures.clears in
    let awaits = c.wait_until_idle.ensures.awaits in
    let link = finds_link c.args.port found.reads_until_link errors.clears in
    let busy = awaits.busy_is_backed c.if-not-wait_until_idle.true in
    record {
      sees_reset_fault = finds_busy c.args.port link busy.1;
      fault_is_backed = (busy.0, λ (e : Busy ≡ EngineStuck). absurd (cc));
      is_clear_and_up_if_stopped_unless_plug_events = λ _. has_device c.law_prerequisites.ensures c.args.port _ _ _ _ c.requires.receives seen cleared waited found.link_is_up errors.no_cause_is_set errors.serr_shows_only_new_plugs awaits.is_clean_to_start;
      signature_is_shown = λ signature (e : Busy ≡ NotAta signature). absurd (cc);
    }

pub returns-then-signature-ne-ATA_SIGNATURE-clause-followed : goal.returns-then-signature-ne-ATA_SIGNATURE-clause-followed
returns-then-signature-ne-ATA_SIGNATURE-clause-followed g c = followed_then c.law_prerequisites.ensures (Controlling ClearingErrors c.args.port) _ _ _ (followed_then c.law_prerequisites.ensures (Controlling ClearingErrors c.args.port) _ _ _ (followed_then c.law_prerequisites.ensures (Controlling ClearingErrors c.args.port) _ _ _ c.wait_for_device.ensures.followed c.clear_errors.ensures.followed) c.wait_until_idle.ensures.followed) (looks c.law_prerequisites.ensures c.args.port Sig _ _ _ c.read-signature.ensures.does)

pub returns-then-signature-ne-ATA_SIGNATURE-clause-fault : goal.returns-then-signature-ne-ATA_SIGNATURE-clause-fault
returns-then-signature-ne-ATA_SIGNATURE-clause-fault g c =
    let first = usable_after c.law_prerequisites.ensures ClearingErrors c.args.port _ _ c.requires.usable c.wait_for_device.ensures.followed in
    let seen = settles c.law_prerequisites.ensures c.args.port _ _ c.requires.usable.adapter_is_on c.wait_for_device.ensures.followed.is_driven in
    let second = usable_after c.law_prerequisites.ensures ClearingErrors c.args.port _ _ first c.clear_errors.ensures.followed in
    let cleared = settles c.law_prerequisites.ensures c.args.port _ _ first.adapter_is_on c.clear_errors.ensures.followed.is_driven in
    let third = usable_after c.law_prerequisites.ensures ClearingErrors c.args.port _ _ second c.wait_until_idle.ensures.followed in
    let signed = settles c.law_prerequisites.ensures c.args.port _ _ second.adapter_is_on (followed_then c.law_prerequisites.ensures (Controlling ClearingErrors c.args.port) _ _ _ c.wait_until_idle.ensures.followed (looks c.law_prerequisites.ensures c.args.port Sig _ _ _ c.read-signature.ensures.does)).is_driven in
    let found = c.wait_for_device.ensures.finds c.if-not-wait_for_device.false in
    let errors = c.clear_errors.ensures.clears in
    let awaits = c.wait_until_idle.ensures.awaits in
    let link = finds_link c.args.port found.reads_until_link errors.clears in
    let idle = awaits.found_disk_is_idle c.if-not-wait_until_idle.false in
    record {
      sees_reset_fault = finds_signature c.args.port _ link idle.1 c.read-signature.ensures.does;
      fault_is_backed = (
        (sig_saw c.law_prerequisites.ensures c.args.port _ _ _ third c.read-signature.ensures.does awaits.device_was_seen, sig_idle c.law_prerequisites.ensures c.args.port _ _ _ third c.read-signature.ensures.does idle.0, sig_last c.law_prerequisites.ensures c.args.port _ _ _ third c.read-signature.ensures.does, λ ata. absurd (omega arith)),
        λ (e : NotAta c.read-signature.result ≡ EngineStuck). absurd (cc),
      );
      is_clear_and_up_if_stopped_unless_plug_events = λ _. has_device c.law_prerequisites.ensures c.args.port _ _ _ _ c.requires.receives seen cleared signed found.link_is_up errors.no_cause_is_set errors.serr_shows_only_new_plugs (λ awaited unflagged. sig_quiet c.law_prerequisites.ensures c.args.port _ _ _ third c.read-signature.ensures.does (awaits.is_clean_to_start awaited unflagged));
      signature_is_shown = λ signature is. sig_shown c.law_prerequisites.ensures c.args.port _ _ _ third c.read-signature.ensures.does;
    }

pub returns-clause-followed : goal.returns-clause-followed
returns-clause-followed g c = followed_then c.law_prerequisites.ensures (Controlling ClearingErrors c.args.port) _ _ _ (followed_then c.law_prerequisites.ensures (Controlling ClearingErrors c.args.port) _ _ _ (followed_then c.law_prerequisites.ensures (Controlling ClearingErrors c.args.port) _ _ _ c.wait_for_device.ensures.followed c.clear_errors.ensures.followed) c.wait_until_idle.ensures.followed) (looks c.law_prerequisites.ensures c.args.port Sig _ _ _ c.read-signature.ensures.does)

pub returns-clause-sees : goal.returns-clause-sees
returns-clause-sees g c =
    let first = usable_after c.law_prerequisites.ensures ClearingErrors c.args.port _ _ c.requires.usable c.wait_for_device.ensures.followed in
    let seen = settles c.law_prerequisites.ensures c.args.port _ _ c.requires.usable.adapter_is_on c.wait_for_device.ensures.followed.is_driven in
    let second = usable_after c.law_prerequisites.ensures ClearingErrors c.args.port _ _ first c.clear_errors.ensures.followed in
    let cleared = settles c.law_prerequisites.ensures c.args.port _ _ first.adapter_is_on c.clear_errors.ensures.followed.is_driven in
    let third = usable_after c.law_prerequisites.ensures ClearingErrors c.args.port _ _ second c.wait_until_idle.ensures.followed in
    let signed = settles c.law_prerequisites.ensures c.args.port _ _ second.adapter_is_on (followed_then c.law_prerequisites.ensures (Controlling ClearingErrors c.args.port) _ _ _ c.wait_until_idle.ensures.followed (looks c.law_prerequisites.ensures c.args.port Sig _ _ _ c.read-signature.ensures.does)).is_driven in
    let found = c.wait_for_device.ensures.finds c.if-not-wait_for_device.false in
    let errors = c.clear_errors.ensures.clears in
    let awaits = c.wait_until_idle.ensures.awaits in
    let link = finds_link c.args.port found.reads_until_link errors.clears in
    let idle = awaits.found_disk_is_idle c.if-not-wait_until_idle.false in
    let ata : c.read-signature.result ≡ 0x101 = omega arith in
    let F : ℕ → Type 0 = λ n. FindsSignature c.args.port n (g.A.Adapter.device c.args.adapter.now) (g.A.Adapter.device c.read-signature.new.self) in
    record {
      finds_signature = subst F ata (finds_signature c.args.port _ link idle.1 c.read-signature.ensures.does);
      disk_is_seen = (sig_saw c.law_prerequisites.ensures c.args.port _ _ _ third c.read-signature.ensures.does awaits.device_was_seen, sig_idle c.law_prerequisites.ensures c.args.port _ _ _ third c.read-signature.ensures.does idle.0, sig_last c.law_prerequisites.ensures c.args.port _ _ _ third c.read-signature.ensures.does ∙ ata);
      is_clear_and_up_if_stopped_unless_plug_events = has_device c.law_prerequisites.ensures c.args.port _ _ _ _ c.requires.receives seen cleared signed found.link_is_up errors.no_cause_is_set errors.serr_shows_only_new_plugs (λ awaited unflagged. sig_quiet c.law_prerequisites.ensures c.args.port _ _ _ third c.read-signature.ensures.does (awaits.is_clean_to_start awaited unflagged));
      signature_is_shown = sig_shown c.law_prerequisites.ensures c.args.port _ _ _ third c.read-signature.ensures.does;
    }
