use Rattle.std.proofs.Common.{false, refl, sym, ◌∙◌}
use Rattle.std.proofs.lemmas.Bool.{false≢true}
use Rattle.error_recovery.proofs.Finishing.{goes_again, goes_again_told, is_busy, is_named, may_go_on, rests_on_fault}
use Rattle.error_recovery.proofs.Whole.{quieted, told}
use Rattle.error_recovery.proofs.StoppedAndCleared.finish_plain.Goals as goal

pub returns-then-is_bsy_or_drq-clause-finishes : goal.returns-then-is_bsy_or_drq-clause-finishes
returns-then-is_bsy_or_drq-clause-finishes g c = record {
  adapter_is_on = c.requires.resumes.1.stops_and_clears.is_on_with_driver_memory.adapter_is_on;
  recovers = λ old r.
      let laws = c.law_prerequisites.ensures in
      let port = c.args.self.stopped.port in
      let t = told laws port c.args.outstanding false _ _ old _ r (λ uses. uses) _ (quieted laws port c.args.outstanding false _ _ old _ r) in
      is_busy laws port c.args.outstanding false _ _ old _ r c.fault_of-failed.result c.others-again.result c.args.self.stopped refl (sym c.is_bsy_or_drq.ensures ∙ c.if-is_bsy_or_drq.true) c.others-again.ensures
      (rests_on_fault port c.args.outstanding c.args.self.fault.0 _ old _ t c.fault_of-failed.result c.fault_of-failed.ensures.named)
      (λ is. is_named c.args.outstanding c.fault_of-failed.result c.fault_of-failed.ensures.none) (λ on. absurd (false≢true on));
}

pub start_again-requires : goal.start_again-requires
start_again-requires g c =
    let r = c.requires.resumes in
    record { may = may_go_on c.args.self.stopped.port c.args.outstanding false _ _ r.0 _ r.1 (sym c.is_bsy_or_drq.ensures ∙ c.if-is_bsy_or_drq.false) }

pub returns-clause-finishes : goal.returns-clause-finishes
returns-clause-finishes g c = record {
  adapter_is_on = c.start_again.ensures.goes.is_on_with_driver_memory.adapter_is_on;
  recovers = λ old r.
      let laws = c.law_prerequisites.ensures in
      let port = c.args.self.stopped.port in
      let s = c.start_again.ensures.goes in
      let t = goes_again_told laws port c.args.outstanding false _ _ old _ r _ s in
      goes_again laws port c.args.outstanding false _ _ old _ r _ s c.fault_of-failed.result c.others-again.result c.start_again.result c.start_again.ensures.names refl c.others-again.ensures
      (rests_on_fault port c.args.outstanding c.args.self.fault.0 _ old _ t c.fault_of-failed.result c.fault_of-failed.ensures.named)
      (is_named c.args.outstanding c.fault_of-failed.result c.fault_of-failed.ensures.none);
}
