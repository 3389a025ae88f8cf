use Rattle.std.proofs.Common.{ℕ, Bool, true, Option, ◌≡◌, ◌+◌, ◌∙◌, ap, refl, sym, subst, inl, arith}
use Rattle.adapter.specs.Device.{Disk}
use Rattle.adapter.specs.Steps.{disk_cleared}
use Rattle.sector_store.specs.declared.store.Failures.{Failures}
use Rattle.device_model.specs.WriteCaches.{OneMoreCallFails}
use Rattle.device_model.specs.Disks.{disk_over}
use Rattle.device_model.proofs.Caching.{less_room}
use Rattle.device_model.proofs.Cleared.{clears_more, clears_none}
use Rattle.device_model.proofs.bay.clear_sectors.Goals as goal

pub loop-place-init : goal.loop-place-init
loop-place-init g c = record {
  disk = sym (clears_none (disk_over c.args.which (g.S.SectorStore.size c.args.disk.now) (g.S.SectorStore.told c.args.disk.now)) c.args.run.first);
  size = refl;
  fine = refl;
  lasting = λ _. refl;
  cached = refl;
  old_room = λ n room. less_room c.args.cache.now (0 + n) n (omega arith) room;
}

pub put_sector-requires : goal.put_sector-requires
put_sector-requires g c =
    let below = c.loop-place-test.true in
    c.loop-place.invariant.old_room 1 (less_room c.args.cache.now c.args.run.count (c.loop-place.place + 1) (omega (arith, below)) c.requires.room)

pub loop-place-preserved : goal.loop-place-preserved
loop-place-preserved g c =
    let disk : Disk = disk_over c.args.which (g.S.SectorStore.size c.args.disk.now) (g.S.SectorStore.told c.args.disk.now) in
    let put = c.put_sector.ensures in
    let size = put.writes.size_is_kept ∙ c.loop-place.invariant.size in
    let told = clears_more disk c.args.run.first c.loop-place.place (g.S.SectorStore.told c.loop-place.disk) (g.S.SectorStore.told c.put_sector.new.store)
    (ap (λ (d : Disk). d.sectors) c.loop-place.invariant.disk) (rw c.from.ensures at (put.writes.sector_is_replaced c.if-not-put_sector.false)) in
    record {
      disk = λ i. disk_over c.args.which (size i) (told i);
      size = size;
      fine = put.writes.no_call_fails (inl c.if-not-put_sector.false) ∙ c.loop-place.invariant.fine;
      lasting = λ noted. put.lasting noted ∙ c.loop-place.invariant.lasting noted;
      cached = put.is_on ∙ c.loop-place.invariant.cached;
      old_room = λ n room. put.room_is_left n (c.loop-place.invariant.old_room (n + 1) (less_room c.args.cache.now (c.loop-place.place + 1 + n) (c.loop-place.place + (n + 1)) (omega arith) room));
    }

pub returns-then-not-put_sector : goal.returns-then-not-put_sector
returns-then-not-put_sector g c =
    let disk : Disk = disk_over c.args.which (g.S.SectorStore.size c.args.disk.now) (g.S.SectorStore.told c.args.disk.now) in
    let put = c.put_sector.ensures in
    let is = c.loop-place.invariant in
    let below = c.loop-place-test.true in
    let kept = put.writes.failure_keeps_told_contents c.if-not-put_sector.true in
    record {
      count_is_allowed = omega (arith, below);
      disk_is = (λ i. disk_over c.args.which (put.writes.size_is_kept i) (kept i)) ∙ is.disk;
      size_is_kept = put.writes.size_is_kept ∙ is.size;
      no_clear_keeps_sectors = λ none.
          kept
          ∙ (ap (λ (d : Disk). d.sectors) is.disk
          ∙ ap (λ (d : Disk). d.sectors) (ap (λ (n : ℕ). disk_cleared disk c.args.run.first n) none ∙ clears_none disk c.args.run.first));
      no_call_failed = λ whole. absurd (omega (arith, whole, below));
      failure_is_noted = λ _.
          let inside = c.requires.inside in
          let size = is.size in
          let at : c.args.run.first + c.from.result ≡ c.args.run.first + c.loop-place.place = ap (λ (k : ℕ). c.args.run.first + k) c.from.ensures in
          let failed = put.writes.failure_is_noted c.if-not-put_sector.true (omega (arith, at, below, inside, size)) in
          let P : Bool → Type 0 = λ on. OneMoreCallFails on true (c.args.run.first + c.loop-place.place) (g.S.SectorStore.failures c.args.disk.now) (g.S.SectorStore.failures c.put_sector.new.store) in
          let Q : Option Failures → Type 0 = λ was. OneMoreCallFails c.loop-place.cache.is_on true (c.args.run.first + c.loop-place.place) was (g.S.SectorStore.failures c.put_sector.new.store) in
          let R : ℕ → Type 0 = λ k. OneMoreCallFails c.loop-place.cache.is_on true k (g.S.SectorStore.failures c.loop-place.disk) (g.S.SectorStore.failures c.put_sector.new.store) in
          subst P is.cached (subst Q is.fine (subst R at failed));
      lasting_is_kept = λ noted. put.lasting noted ∙ is.lasting noted;
      cache_mode_is_kept = put.is_on ∙ is.cached;
      cache_has_room = λ n room.
          put.room_is_left n (is.old_room (n + 1) (less_room c.args.cache.now (c.args.run.count + n) (c.loop-place.place + (n + 1)) (omega (arith, below)) room));
    }

pub returns : goal.returns
returns g c =
    let disk : Disk = disk_over c.args.which (g.S.SectorStore.size c.args.disk.now) (g.S.SectorStore.told c.args.disk.now) in
    let is = c.loop-place.invariant in
    let past = c.loop-place-test.false in
    let end = c.loop-place.auto.place-end in
    let whole : c.loop-place.place ≡ c.args.run.count = omega (arith, past, end) in
    let cleared = is.disk ∙ ap (λ (n : ℕ). disk_cleared disk c.args.run.first n) whole in
    record {
      count_is_allowed = omega arith;
      disk_is = cleared;
      size_is_kept = is.size;
      no_clear_keeps_sectors = λ none.
          ap (λ (d : Disk). d.sectors) cleared
          ∙ ap (λ (d : Disk). d.sectors) (ap (λ (n : ℕ). disk_cleared disk c.args.run.first n) none ∙ clears_none disk c.args.run.first);
      no_call_failed = λ _. is.fine;
      failure_is_noted = λ less. absurd (omega (arith, less));
      lasting_is_kept = is.lasting;
      cache_mode_is_kept = is.cached;
      cache_has_room = λ n room. is.old_room n (less_room c.args.cache.now (c.args.run.count + n) (c.loop-place.place + n) (omega (arith, past, end)) room);
    }
