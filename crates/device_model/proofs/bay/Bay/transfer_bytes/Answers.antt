use Rattle.std.proofs.Common.{rules, ℕ, ◌≡◌, ◌+◌, ◌∙◌, inl, inr, subst, arith, ap}
use Rattle.device_model.specs.WriteCaches.{HasRoomForOldSectors}
use Rattle.device_model.specs.Disks.{disk_over}
use Rattle.device_model.specs.Trims.{sectors_left_to_write}
use Rattle.adapter.specs.declared.command.Operation.{Operation}
use Rattle.device_model.proofs.Transfers.{fits_sector, replaced_is}
use Rattle.device_model.proofs.bay.Bay.transfer_bytes.Goals as goal

pub returns-in-Write : goal.returns-in-Write
returns-in-Write g c =
    record {
      done_sector_is_on_disk = search rules;
      bytes_are_sector = fits_sector c.args.bytes.now c.told-bytes c.fits-bytes;
      read_gives_told = search rules;
      write_keeps_bytes = search rules;
      failure_keeps_bytes = search rules;
      identify_page_is_sent = search rules;
      log_page_is_sent = search rules;
      unranged_keeps_bay = search rules;
      disk_is = λ done.
          let told = c.put_sector.ensures.writes.sector_is_replaced done ∙ replaced_is (g.S.SectorStore.told c.args.self.now.disk.store) c.args.next.sector c.args.bytes.now in
          elim c.in-Write.is [
            | inl plain ↦ rw plain (λ i. disk_over c.args.self.now.which (c.put_sector.ensures.writes.size_is_kept i) (told i))
            | inr queued ↦ rw queued (λ i. disk_over c.args.self.now.which (c.put_sector.ensures.writes.size_is_kept i) (told i))
          ];
      failure_keeps_told_contents = search rules;
      size_is_kept = search rules;
      no_call_failed = search rules;
      only_ranged_fails = search rules;
      failure_is_noted = search rules;
      lasting_is_kept = search rules;
      cache_mode_is_kept = search rules;
      cache_has_room = λ n room.
          let P : ℕ → Type 0 = λ k. HasRoomForOldSectors c.args.self.now.cache k in
          let one : sectors_left_to_write c.args.next.operation 1 ≡ 1 =
          let Q : Operation → ℕ = λ k. sectors_left_to_write k 1 in
          elim c.in-Write.is [ inl plain ↦ ap Q plain | inr queued ↦ ap Q queued ] in
          let more : sectors_left_to_write c.args.next.operation 1 + n ≡ n + 1 = omega (arith, one) in
          c.put_sector.ensures.room_is_left n (subst P more room);
      rest_is_kept = search rules;
    }

pub returns-in-Trim : goal.returns-in-Trim
returns-in-Trim g c =
    record {
      done_sector_is_on_disk = search rules;
      bytes_are_sector = fits_sector c.args.bytes.now c.told-bytes c.fits-bytes;
      read_gives_told = search rules;
      write_keeps_bytes = search rules;
      failure_keeps_bytes = search rules;
      identify_page_is_sent = search rules;
      log_page_is_sent = search rules;
      unranged_keeps_bay = search rules;
      disk_is = search rules;
      failure_keeps_told_contents = search rules;
      size_is_kept = search rules;
      no_call_failed = search rules;
      only_ranged_fails = search rules;
      failure_is_noted = search rules;
      lasting_is_kept = search rules;
      cache_mode_is_kept = search rules;
      cache_has_room = search rules;
      rest_is_kept = search rules;
    }
