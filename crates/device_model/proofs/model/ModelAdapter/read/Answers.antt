use Rattle.adapter.proofs.Runs.{Steps-trans}
use Rattle.std.proofs.Common.{ℕ, Bool, true, ◌≡◌, ◌≤◌, ◌+◌, ◌⊎◌, List, subst, sym, refl, ap, ◌∙◌, inl, inr}
use Rattle.std.specs.Global.{Vec}
use Rattle.std.specs.Vec.{vec_len, vec_capacity}
use Rattle.adapter.specs.Device.{Device}
use Rattle.adapter.specs.declared.tape.Entry.{Entry}
use Rattle.device_model.specs.Finishing.{HasFinishablePageCommand, MayTakePageCommand}
use Rattle.device_model.specs.HeldPorts.{IsPortHeld}
use Rattle.device_model.specs.ModelOwnSteps.{DoesSpontaneousSteps, EndsPendingResetUnlessAllHeld, IsSettled}
use Rattle.device_model.specs.ModelState.{device_at, all_media_at}
use Rattle.device_model.specs.WholeAdapter.{HasDisks, AllMedia, device_of}
use Rattle.device_model.proofs.TwoDisks.{disks_kept, identity_kept}
use Rattle.device_model.proofs.Paging.{noted_page, noted_may}
use Rattle.device_model.proofs.Own.{own_steps, reset_steps}
use Rattle.device_model.proofs.Ports.{has_port_read, noted_settled}
use Rattle.device_model.proofs.Queueing.{begins_steps}
use Rattle.device_model.proofs.Telling.{gains_none, gains_on, noted_tape}
use Rattle.device_model.proofs.model.ModelAdapter.read.Goals as goal

pub shown-value-requires : goal.shown-value-requires
shown-value-requires g c = has_port_read c.args.r _ c.requires

pub update_read_notes-requires : goal.update_read_notes-requires
update_read_notes-requires g c = has_port_read c.args.r _ c.requires

pub returns-clause-reads : goal.returns-clause-reads
returns-clause-reads g c =
    let o : AllMedia = all_media_at g.S.SectorStore.size g.S.SectorStore.told c.do_queued_steps.new.self in
    let last : AllMedia = all_media_at g.S.SectorStore.size g.S.SectorStore.told c.send_pages.new.self in
    let settled = c.end_reset_stop_engines_link_up.ensures.own o in
    record {
      at_access = device_of c.send_pages.new.self.hardware last;
      steps = Steps-trans (begins_steps g.S.SectorStore.size g.S.SectorStore.told g.S.SectorStore.failures _ _ c.do_queued_steps.ensures)
          (Steps-trans (reset_steps _ _ _ _ settled.1) (Steps-trans (own_steps _ _ _ settled.2) (own_steps _ _ _ c.send_pages.ensures.own)));
      shows = c.shown-value.ensures last;
      effect = c.update_read_notes.ensures.notes last;
    }

pub returns-clause-settled : goal.returns-clause-settled
returns-clause-settled g c =
    let o : AllMedia = all_media_at g.S.SectorStore.size g.S.SectorStore.told c.do_queued_steps.new.self in
    let last : AllMedia = all_media_at g.S.SectorStore.size g.S.SectorStore.told c.send_pages.new.self in
    let P : Device → Type 0 = λ d. IsSettled c.send_pages.new.self.held d in
    let Q : List Bool → Type 0 = λ held. IsSettled held (device_of c.send_pages.new.self.hardware last) in
    subst P (sym (c.update_read_notes.ensures.notes last))
    (noted_settled c.args.r c.shown-value.result (device_of c.send_pages.new.self.hardware last) _
    (subst Q (sym c.send_pages.ensures.rest.held_ports_are) (c.send_pages.ensures.settled _ (c.end_reset_stop_engines_link_up.ensures.settled o))))

pub returns-clause-page_command_waits_only_if_held_or_starved : goal.returns-clause-page_command_waits_only_if_held_or_starved
returns-clause-page_command_waits_only_if_held_or_starved g c =
    let last : AllMedia = all_media_at g.S.SectorStore.size g.S.SectorStore.told c.send_pages.new.self in
    let Q : ℕ → Bool → Type 0 = λ port starved. IsPortHeld c.send_pages.new.self.held port ⊎ (starved ≡ true) in
    let sent : Device = device_of c.send_pages.new.self.hardware last in
    let had : (port : ℕ) → HasDisks (device_of c.update_read_notes.new.self last) port → HasDisks sent port =
    λ (port : ℕ) (has : HasDisks (device_of c.update_read_notes.new.self last) port).
    disks_kept g.S.SectorStore.size g.S.SectorStore.told (record c.send_pages.new.self { hardware = c.update_read_notes.new.self }) c.send_pages.new.self port refl has in
    record {
      may_be_taken_only_if_held = λ port slot small low disks may.
          let P : Device → Type 0 = λ d. MayTakePageCommand d port slot in
          c.send_pages.ensures.left.may_be_taken_only_if_held port slot small low (had port disks)
          (noted_may c.args.r c.shown-value.result sent port slot (subst P (c.update_read_notes.ensures.notes last) may));
      may_finish_only_if_held_or_starved = λ port slot small low disks has.
          let P : Device → Type 0 = λ d. HasFinishablePageCommand d port slot in
          subst (Q port) (sym c.update_read_notes.ensures.starved)
          (c.send_pages.ensures.left.may_finish_only_if_held_or_starved port slot small low (had port disks)
          (noted_page c.args.r c.shown-value.result sent port slot (subst P (c.update_read_notes.ensures.notes last) has)));
    }

pub returns-clause-does_read : goal.returns-clause-does_read
returns-clause-does_read g c =
    let mid = c.do_queued_steps.new.self in
    let o : AllMedia = all_media_at g.S.SectorStore.size g.S.SectorStore.told mid in
    let last : AllMedia = all_media_at g.S.SectorStore.size g.S.SectorStore.told c.send_pages.new.self in
    let after = record mid { hardware = c.end_reset_stop_engines_link_up.new.self; held = c.end_reset_stop_engines_link_up.new.held } in
    let settled = c.end_reset_stop_engines_link_up.ensures.own o in
    let own = c.send_pages.ensures.rest in
    let P : List Bool → Type 0 = λ held. EndsPendingResetUnlessAllHeld mid.held held (device_at g.S.SectorStore.size g.S.SectorStore.told mid) settled.0 in
    let Q : List Bool → Type 0 = λ held. DoesSpontaneousSteps held settled.0 (device_of c.send_pages.new.self.hardware last) in
    record {
      after_begin = mid;
      begins_access = c.do_queued_steps.ensures;
      after_reset_end = settled.0;
      ends_reset = subst P (sym own.held_ports_are) settled.1;
      after_own_steps = device_of c.send_pages.new.self.hardware last;
      does_own_steps = subst Q (sym own.held_ports_are) (record { settled = device_of c.end_reset_stop_engines_link_up.new.self o; settles_ports = settled.2; sends_pages = c.send_pages.ensures.own });
      shows = c.shown-value.ensures last;
      effect = c.update_read_notes.ensures.notes last;
      page_source_is = own.page_source_is;
      disk_index_is = own.disk_index_is;
      gains_own_pages = gains_on g.S.SectorStore.size mid after _ (λ _. refl) (λ _. refl)
          (gains_none g.S.SectorStore.size mid after (ap (λ (v : Vec Entry). v.items) c.end_reset_stop_engines_link_up.ensures.tape))
          (gains_on g.S.SectorStore.size after c.send_pages.new.self _ own.page_source_is
          (λ q. identity_kept g.S.SectorStore.size after c.send_pages.new.self q (own.disk_index_is q) (own.step_keeps.identities_are_kept q)) own.gains_own_pages
          (gains_none g.S.SectorStore.size c.send_pages.new.self _
          (ap (λ (d : Device). d.tape) (c.update_read_notes.ensures.notes last) ∙ noted_tape c.args.r c.shown-value.result (device_of c.send_pages.new.self.hardware last))));
      disks_are_kept = c.send_pages.ensures.disks;
      step_keeps = record {
        disks_not_last_in_are_kept = own.step_keeps.disks_not_last_in_are_kept;
        identities_are_kept = own.step_keeps.identities_are_kept;
        cache_modes_are_kept = own.step_keeps.cache_modes_are_kept;
        queue_is_kept = own.step_keeps.queue_is_kept;
        access_count_is_kept = own.step_keeps.access_count_is_kept;
      };
      starves_for_want = λ now.
          elim (c.send_pages.ensures.told (sym c.update_read_notes.ensures.starved ∙ now)) [
            | inl before ↦ inl (sym c.end_reset_stop_engines_link_up.ensures.starved ∙ before)
            | inr one ↦
                let R : Vec Entry → Type 0 = λ tape. vec_len tape + (one.5.moves_left + 1) ≤ vec_capacity tape in
                inr (one.0, one.1, one.2, one.3, one.4, one.5, λ room. one.6 (subst R c.update_read_notes.ensures.tape room))
          ];
      stays_starved = λ told. c.update_read_notes.ensures.starved ∙ own.stays_starved (c.end_reset_stop_engines_link_up.ensures.starved ∙ told);
    }
