use Rattle.std.proofs.Common.{ℕ, List, true, false, ◌≡◌, ◌≤◌, ◌+◌, ◌∙◌, ap, inl, refl, subst}
use Rattle.std.specs.Global.{Vec}
use Rattle.std.specs.Vec.{vec_len, vec_capacity}
use Rattle.adapter.specs.AskedSteps.{DoesFetch, DoesAtLeastOneSlotStep}
use Rattle.adapter.specs.Commands.{Meaning}
use Rattle.adapter.specs.Device.{Device}
use Rattle.adapter.specs.Steps.{Can}
use Rattle.adapter.specs.Steps.DeviceTransition.{Fetch}
use Rattle.adapter.specs.declared.tape.Entry.{Entry}
use Rattle.adapter.proofs.Going.{goes_one}
use Rattle.device_model.specs.ModelState.{device_at, all_media_at}
use Rattle.device_model.specs.WholeAdapter.{device_of}
use Rattle.device_model.specs.declared.hardware.Hardware.{Hardware}
use Rattle.device_model.specs.SentFises.{SendsEnd}
use Rattle.device_model.proofs.GoingOn.{gone_settled}
use Rattle.device_model.proofs.Paging.{BringsPage, fetched_apart, fetched_busy, fetched_has, fetched_left, found_only}
use Rattle.device_model.proofs.Own.{own_gone}
use Rattle.device_model.proofs.Telling.{gains_none}
use Rattle.device_model.proofs.model.Model.take_page.Goals as goal

pub returns : goal.returns
returns g c =
    let was = c.args.self.now in
    let is = record was { hardware = c.fetch-taken.new.self } in
    let o = all_media_at g.S.SectorStore.size g.S.SectorStore.told was in
    let port : ℕ = c.args.port in
    let slot : ℕ = c.args.slot in
    let old : Device = device_at g.S.SectorStore.size g.S.SectorStore.told was in
    let new : Device = device_at g.S.SectorStore.size g.S.SectorStore.told is in
    let did = c.fetch-taken.result in
    let fetched : did ≡ true → DoesFetch port slot old new = λ (e : did ≡ true). c.fetch-taken.ensures.did e o in
    let same : did ≡ false → new ≡ old = λ (e : did ≡ false). ap (λ (h : Hardware). device_of h o) (c.fetch-taken.ensures.refused e) in
    let never : did ≡ false → (m : Meaning) (places : List ℕ) → Can (Fetch port slot m places) old → ⊥ =
    λ (e : did ≡ false). c.fetch-taken.ensures.complete e o in
    let went : did ≡ true → DoesAtLeastOneSlotStep (SendsEnd slot) port slot old new = λ (e : did ≡ true). goes_one (SendsEnd slot) port slot old new (inl (fetched e)) in
    let apart = fetched_apart port slot did old new fetched same in
    record {
      by_own_steps = λ held loose. (own_gone BringsPage (λ o places is. is) held port slot loose did old new went same (found_only old port slot c.requires.there)).0;
      stays_settled = gone_settled port slot did old new went same;
      has_taken_command = fetched_busy port slot did old new fetched never same c.requires.there;
      finishable_was_finishable = λ may k has. fetched_has port slot k did old new fetched never may has;
      as_much_is_left = λ has. fetched_left port slot did old new has fetched same never;
      other_ports_are_kept = apart.1;
      size_is_kept = apart.0;
      own_steps_keep = record {
        held_ports_are = refl;
        page_source_is = λ _. refl;
        disk_index_is = λ _. refl;
        gains_own_pages = gains_none g.S.SectorStore.size was is (ap (λ (v : Vec Entry). v.items) c.fetch-taken.ensures.tape);
        step_keeps = record { disks_not_last_in_are_kept = λ _ _ _. refl; identities_are_kept = λ _ _. refl; cache_modes_are_kept = λ _. refl; queue_is_kept = refl; access_count_is_kept = refl };
        stays_starved = λ yes. c.fetch-taken.ensures.starved ∙ yes;
      };
      tape_had_room = λ n room.
          let R : Vec Entry → Type 0 = λ tape. vec_len tape + n ≤ vec_capacity tape in
          subst R c.fetch-taken.ensures.tape room;
      starved_is_kept = c.fetch-taken.ensures.starved;
      disks_are_kept = λ _ _. refl;
    }
