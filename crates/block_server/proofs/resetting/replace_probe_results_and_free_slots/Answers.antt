use Rattle.std.proofs.Common.{ℕ, ◌≡◌, ◌+◌, ◌/◌, ◌%◌, ◌∙◌, ap, sym, get_or, subst, arith}
use Rattle.block_machine.specs.declared.due.QueueMode.{QueueMode}
use Rattle.hba_regs.specs.Bits.{bit}
use Rattle.host_boot.specs.TakeOver.{probe_result_of}
use Rattle.host_boot.specs.declared.Host.{Host}
use Rattle.server_history.specs.ServerState.{probed_mode}
use Rattle.port_driver.specs.PortAndShared.{NotesProbeResult}
use Rattle.block_server.specs.FourPorts.{IsAsHostProbed}
use Rattle.port_driver.specs.declared.served_port.ServedPort.{ServedPort}
use Rattle.block_server.proofs.Becoming.{all_become, none_yet, one_more}
use Rattle.block_server.proofs.resetting.replace_probe_results_and_free_slots.Goals as goal

-- it was found so by the host, and has the mode that follows
taken : (host : Host) (number : ℕ) (old new : ServedPort) (mode : QueueMode) → NotesProbeResult (probe_result_of host.ports number) mode old new
    → ((cap : ℕ) → host.slot_count ≡ cap / 256 % 32 + 1 → host.supports_ncq ≡ bit cap 30 → mode ≡ probed_mode cap (probe_result_of host.ports number)) → IsAsHostProbed host number old new
taken host number old new mode anew follows =
    let is = ap (λ (p : ServedPort). p.mode) anew.only_these_change in
    record {
      notes_host_result = subst (λ (m : QueueMode). NotesProbeResult (probe_result_of host.ports number) m old new) (sym is) anew;
      mode_is_probed = λ cap slots queued. is ∙ follows cap slots queued;
    }

pub loop-number-init : goal.loop-number-init
loop-number-init c = none_yet (IsAsHostProbed c.args.host.now) c.args.ports.now c.told-ports

pub loop-number-preserved : goal.loop-number-preserved
loop-number-preserved c =
    let so_far = c.loop-number.invariant in
    let number = c.loop-number.number in
    let low = c.loop-number-test.true in
    let default = c.index-ports-number.result in
    one_more (IsAsHostProbed c.args.host.now) c.args.ports.now c.loop-number.ports number so_far low default c.replace_probe_result_and_free_slots.new.self
    (taken c.args.host.now number (get_or c.loop-number.ports number default) c.replace_probe_result_and_free_slots.new.self c.probed_mode-mode.result c.replace_probe_result_and_free_slots.ensures c.probed_mode-mode.ensures.mode_is_by_cap)

pub returns : goal.returns
returns c = all_become (IsAsHostProbed c.args.host.now) c.args.ports.now c.loop-number.ports c.loop-number.number c.loop-number.invariant (let past = c.loop-number-test.false in omega (arith, past))
