use Rattle.std.proofs.Common.{◌≡◌, None, Some, true, refl, sym, ◌∙◌, subst}
use Rattle.ata_types.specs.declared.Port.{Port}
use Rattle.adapter.specs.Device.Halt.{NotHalted}
use Rattle.adapter.specs.Rules.{HasPort}
use Rattle.adapter.specs.declared.command.Operation.TheVariants.{Identify}
use Rattle.refinement.specs.Fragments.{SomeMachineAgreesWith, GainsNoMove}
use Rattle.refinement.specs.Driver.{AllFree}
use Rattle.disk_page.specs.PageRequests.{LeavesPortWhileAsking}
use Rattle.port_control.specs.Ports.{FailsToStopPort, PortStops, ClearsStAlone}
use Rattle.error_recovery.specs.RecoveryParts.{ReadsLog}
use Rattle.error_recovery.specs.Recovery.{Recovers}
use Rattle.error_recovery.specs.declared.Recovered as recovered
use Rattle.error_recovery.proofs.Finishing.{all_go_again, gets_stuck, is_busy, log_room, may_go_on, names_one, restarts}
use Rattle.error_recovery.proofs.StoppedAndCleared.finish_queued.Goals as goal

pub returns-then-is_bsy_or_drq-clause-finishes : goal.returns-then-is_bsy_or_drq-clause-finishes
returns-then-is_bsy_or_drq-clause-finishes g c = record {
  adapter_is_on = c.requires.resumes.1.stops_and_clears.is_on_with_driver_memory.adapter_is_on;
  recovers = λ old r.
      let port = c.args.self.stopped.port in
      let R : recovered.Recovered → Type 0 = λ result. Recovers port c.args.outstanding true result old (g.A.Adapter.device c.args.adapter.now) in
      subst R (sym c.unnamed.ensures)
      (is_busy c.law_prerequisites.ensures port c.args.outstanding true _ _ old _ r None c.args.outstanding c.args.self.stopped refl (sym c.is_bsy_or_drq.ensures ∙ c.if-is_bsy_or_drq.true) (all_go_again c.args.outstanding) tt
      (λ off. absurd cc) (λ on. refl));
}

pub start_again-running-requires : goal.start_again-running-requires
start_again-running-requires g c =
    let r = c.requires.resumes in
    record { may = may_go_on c.args.self.stopped.port c.args.outstanding true _ _ r.0 _ r.1 (sym c.is_bsy_or_drq.ensures ∙ c.if-is_bsy_or_drq.false) }

pub read_log-requires-clause-some_machine_agrees : goal.read_log-requires-clause-some_machine_agrees
read_log-requires-clause-some_machine_agrees g c =
    let same = c.port-port.ensures ∙ c.start_again-running.ensures.names in
    let A : Port → Type 0 = λ p. SomeMachineAgreesWith (λ uses. AllFree uses p.0) (g.A.Adapter.device c.start_again-running.new.adapter) in
    subst A (sym same) c.start_again-running.ensures.goes.machine_is_related

pub returns-in-Some-clause-finishes : goal.returns-in-Some-clause-finishes
returns-in-Some-clause-finishes g c = record {
  adapter_is_on = c.in-Some.ensures.adapter_is_on;
  recovers = λ old r.
      let port = c.args.self.stopped.port in
      let same = c.port-port.ensures ∙ c.start_again-running.ensures.names in
      let start = g.A.Adapter.device c.start_again-running.new.adapter in
      let log = g.A.Adapter.device c.read_log.new.adapter in
      let P : Port → Type 0 = λ p. LeavesPortWhileAsking p.0 start log × GainsNoMove p.0 Identify start log × ((log.port p.0).halt ≡ NotHalted) × ReadsLog p c.args.outstanding (Some c.in-Some.failed) start log in
      let e = c.in-Some.ensures in
      let x = subst P same (e.asks.leaves, e.asks.no_identify_moves, e.asks.is_not_halted_if_named, e.asks.reads) in
      names_one c.law_prerequisites.ensures port c.args.outstanding true _ _ old _ r _ c.start_again-running.ensures.goes _ refl x.0 x.1 c.in-Some.failed c.others-again.result c.start_again-running.result c.start_again-running.ensures.names
      x.2 x.3 c.others-again.ensures;
}

pub stop-requires : goal.stop-requires
stop-requires g c =
    let same = c.port-port.ensures ∙ c.start_again-running.ensures.names in
    let R : Port → Type 0 = λ p. ReadsLog p c.args.outstanding None (g.A.Adapter.device c.start_again-running.new.adapter) (g.A.Adapter.device c.read_log.new.adapter) in
    let H : Port → Type 0 = λ p. HasPort (g.A.Adapter.device c.read_log.new.adapter) p.0 in
    let e = c.in_default.ensures in
    record { on_and_agrees = record { adapter_is_on = e.adapter_is_on; has_port = subst H (sym same) (log_room c.law_prerequisites.ensures c.args.self.stopped.port c.args.outstanding _ _ e.adapter_is_on (subst R same e.asks.reads) c.start_again-running.ensures.goes.is_on_with_driver_memory).has_port; machine_is_related = e.some_machine_agrees } }

pub returns-in-Ok-clause-finishes : goal.returns-in-Ok-clause-finishes
returns-in-Ok-clause-finishes g c = record {
  adapter_is_on = c.stop.ensures.adapter_is_on;
  recovers = λ old r.
      let port = c.args.self.stopped.port in
      let same = c.port-port.ensures ∙ c.start_again-running.ensures.names in
      let start = g.A.Adapter.device c.start_again-running.new.adapter in
      let log = g.A.Adapter.device c.read_log.new.adapter in
      let new = g.A.Adapter.device c.stop.new.adapter in
      let P : Port → Type 0 = λ p. LeavesPortWhileAsking p.0 start log × GainsNoMove p.0 Identify start log × ReadsLog p c.args.outstanding None start log × PortStops p log new × ClearsStAlone (log.port p.0) (new.port p.0) in
      let e = c.in_default.ensures in
      let x = subst P same (e.asks.leaves, e.asks.no_identify_moves, e.asks.reads, c.in-Ok.ensures.stops, c.stop.ensures.st_is_cleared) in
      let R : recovered.Recovered → Type 0 = λ result. Recovers port c.args.outstanding true result old new in
      subst R (sym c.unnamed-in-Ok.ensures)
      (restarts c.law_prerequisites.ensures port c.args.outstanding true _ _ old _ r _ c.start_again-running.ensures.goes _ refl x.0 x.1 _ c.in-Ok.stopped (c.in-Ok.ensures.token_is_of_port ∙ same) x.4 x.3 x.2);
}

pub returns-in-Err-clause-finishes : goal.returns-in-Err-clause-finishes
returns-in-Err-clause-finishes g c = record {
  adapter_is_on = c.stop.ensures.adapter_is_on;
  recovers = λ old r.
      let port = c.args.self.stopped.port in
      let same = c.port-port.ensures ∙ c.start_again-running.ensures.names in
      let start = g.A.Adapter.device c.start_again-running.new.adapter in
      let log = g.A.Adapter.device c.read_log.new.adapter in
      let new = g.A.Adapter.device c.stop.new.adapter in
      let P : Port → Type 0 = λ p. LeavesPortWhileAsking p.0 start log × GainsNoMove p.0 Identify start log × ReadsLog p c.args.outstanding None start log × FailsToStopPort p log new × ClearsStAlone (log.port p.0) (new.port p.0) in
      let e = c.in_default.ensures in
      let x = subst P same (e.asks.leaves, e.asks.no_identify_moves, e.asks.reads, c.in-Err.ensures.fails.2, c.stop.ensures.st_is_cleared) in
      let R : recovered.Recovered → Type 0 = λ result. Recovers port c.args.outstanding true result old new in
      subst R (sym c.unnamed-in-Err.ensures)
      (gets_stuck c.law_prerequisites.ensures port c.args.outstanding true _ _ old _ r _ c.start_again-running.ensures.goes _ refl x.0 x.1 _ x.4 x.3 x.2);
}
