use Rattle.std.proofs.Common.{refl, inl, arith}
use Rattle.std.specs.Prelude.{slice_set}
use Rattle.device_model.proofs.Absurd.{true-false}
use Rattle.device_model.proofs.Telling.{gains_none}
use Rattle.device_model.proofs.model.Model.hold.Goals as goal

pub returns-clause-holds : goal.returns-clause-holds
returns-clause-holds g c = λ held.
    let at = c.from-place.ensures in
    let small = c.if-place-ge-PORTS.false in (
      omega (arith, at, small),
      record {
        completes_or_fails = inl (record { does_asked_step = refl; no_call_failed = λ _ _ _. refl; page_source_is = refl; clear_and_finish_do_all_below_4_gib = λ _. tt; lose_plug_loses_cache = λ yes. true-false yes refl });
        held_ports_are = λ i. slice_set c.args.self.now.held (at i) (held i);
        disk_index_is = refl;
        other_bays_are_kept = λ _ _. refl;
        gains_own_pages = gains_none g.S.SectorStore.size _ _ refl;
        disks_are_kept = λ _ _. refl;
        step_keeps = record { disks_not_last_in_are_kept = λ _ _ _. refl; identities_are_kept = λ _ _. refl; cache_modes_are_kept = λ _. refl; queue_is_kept = refl; access_count_is_kept = refl };
        starved_is_kept = refl;
      },
    )

pub returns-clause-releases : goal.returns-clause-releases
returns-clause-releases g c = λ held.
    let at = c.from-place.ensures in
    let small = c.if-place-ge-PORTS.false in (
      omega (arith, at, small),
      record {
        completes_or_fails = inl (record { does_asked_step = refl; no_call_failed = λ _ _ _. refl; page_source_is = refl; clear_and_finish_do_all_below_4_gib = λ _. tt; lose_plug_loses_cache = λ yes. true-false yes refl });
        held_ports_are = λ i. slice_set c.args.self.now.held (at i) (held i);
        disk_index_is = refl;
        other_bays_are_kept = λ _ _. refl;
        gains_own_pages = gains_none g.S.SectorStore.size _ _ refl;
        disks_are_kept = λ _ _. refl;
        step_keeps = record { disks_not_last_in_are_kept = λ _ _ _. refl; identities_are_kept = λ _ _. refl; cache_modes_are_kept = λ _. refl; queue_is_kept = refl; access_count_is_kept = refl };
        starved_is_kept = refl;
      },
    )
