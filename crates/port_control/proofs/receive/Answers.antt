use Rattle.std.proofs.Common.{inl, refl}
use Rattle.port_control.specs.Engines.{FailsToStopReceiving, StopsReceiving}
use Rattle.port_control.proofs.Using.{falls_then, same_adapter, usable_after}
use Rattle.port_control.proofs.receive.Goals as goal
use Rattle.port_control.specs.Laws.RegisterSet.{Commanding, Placing}
use Rattle.port_control.specs.Laws.AccessPurpose.{Controlling}
use Rattle.port_control.proofs.Stretching.{followed_then, followed_wider, told_both, told_wider}

pub returns-then-not-stop_receiving-clause-adapter_is_on : goal.returns-then-not-stop_receiving-clause-adapter_is_on
returns-then-not-stop_receiving-clause-adapter_is_on g c =
    let first = usable_after c.law_prerequisites.ensures Commanding c.args.stopped.port _ _ (record { adapter_is_on = c.requires.may.adapter_is_on; has_port = c.requires.may.has_port; machine_is_related = c.requires.may.machine_is_related }) (c.stop_receiving.ensures.sticks c.if-not-stop_receiving.true).0.is_simulated in
    first.adapter_is_on

pub returns-then-not-stop_receiving-clause-fails : goal.returns-then-not-stop_receiving-clause-fails
returns-then-not-stop_receiving-clause-fails g c =
    let stuck = c.if-not-stop_receiving.true in (
      refl,
      refl,
      record {
        is_simulated = told_wider c.law_prerequisites.ensures Commanding Placing c.args.stopped.port _ _ (λ r is. inl is) (FailsToStopReceiving c.args.stopped.port) (c.stop_receiving.ensures.sticks stuck).0;
        stuck_is_backed = (c.stop_receiving.ensures.sticks stuck).1;
        fre_is_clear = c.stop_receiving.ensures.clears.fre_is_clear;
        bases_are_kept = c.stop_receiving.ensures.clears.bases_are_kept;
      },
    )

pub place-requires-clause-usable : goal.place-requires-clause-usable
place-requires-clause-usable g c =
    let first = usable_after c.law_prerequisites.ensures Commanding c.args.stopped.port _ _ (record { adapter_is_on = c.requires.may.adapter_is_on; has_port = c.requires.may.has_port; machine_is_related = c.requires.may.machine_is_related }) (c.stop_receiving.ensures.stops c.if-not-stop_receiving.false).is_simulated in
    first

pub place-requires-clause-room : goal.place-requires-clause-room
place-requires-clause-room g c = rw (same_adapter c.law_prerequisites.ensures Commanding c.args.stopped.port _ _ (c.stop_receiving.ensures.stops c.if-not-stop_receiving.false).is_simulated.is_driven).memory_size c.requires.may.driver_memory_fits

pub start_receiving-requires-clause-usable : goal.start_receiving-requires-clause-usable
start_receiving-requires-clause-usable g c =
    let first = usable_after c.law_prerequisites.ensures Commanding c.args.stopped.port _ _ (record { adapter_is_on = c.requires.may.adapter_is_on; has_port = c.requires.may.has_port; machine_is_related = c.requires.may.machine_is_related }) (c.stop_receiving.ensures.stops c.if-not-stop_receiving.false).is_simulated in
    let second = usable_after c.law_prerequisites.ensures Placing c.args.stopped.port _ _ first c.place.ensures.followed in
    second

pub returns-clause-receives : goal.returns-clause-receives
returns-clause-receives g c = record {
  is_simulated = told_both c.law_prerequisites.ensures (StopsReceiving c.args.stopped.port) (λ late. Unit {0}) (StopsReceiving c.args.stopped.port) (λ early late is any. falls_then early late 4 14 c.args.stopped.port is) (Controlling Placing c.args.stopped.port) _ _ _
      (told_wider c.law_prerequisites.ensures Commanding Placing c.args.stopped.port _ _ (λ r is. inl is) (StopsReceiving c.args.stopped.port) (c.stop_receiving.ensures.stops c.if-not-stop_receiving.false))
      (record {
        is_simulated = followed_then c.law_prerequisites.ensures (Controlling Placing c.args.stopped.port) _ _ _ c.place.ensures.followed
            (followed_wider c.law_prerequisites.ensures Commanding Placing c.args.stopped.port _ _ (λ r is. inl is) c.start_receiving.ensures.followed);
        accesses_are_such = tt;
      });
  receives = c.start_receiving.ensures.receives;
}

pub returns-clause-adapter_is_on : goal.returns-clause-adapter_is_on
returns-clause-adapter_is_on g c =
    let first = usable_after c.law_prerequisites.ensures Commanding c.args.stopped.port _ _ (record { adapter_is_on = c.requires.may.adapter_is_on; has_port = c.requires.may.has_port; machine_is_related = c.requires.may.machine_is_related }) (c.stop_receiving.ensures.stops c.if-not-stop_receiving.false).is_simulated in
    let second = usable_after c.law_prerequisites.ensures Placing c.args.stopped.port _ _ first c.place.ensures.followed in
    (usable_after c.law_prerequisites.ensures Commanding c.args.stopped.port _ _ second c.start_receiving.ensures.followed).adapter_is_on
