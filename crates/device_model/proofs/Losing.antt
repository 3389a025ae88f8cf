-- The disk that was last in is put in again, and what was in its cache is lost.
use Rattle.std.proofs.Common.{ℕ, Bool, true, false, Option, Some, List, [], ◌∷◌, ◌++◌, ◌≡◌, ◌≢◌, ◌<◌, ◌≤◌, ◌+◌, ◌%◌, ◌^◌, ◌⊎◌, ◌&&◌, ◌∙◌, length, refl, ap, sym, subst, inl, inr, arith}
use Rattle.std.specs.Prelude.{Contains, if◌then◌else◌, is_some, nat_eq, option_map, slice_set}
use Rattle.adapter.specs.AskedSteps.{DoesPlug}
use Rattle.adapter.specs.Device.{Device, Disk}
use Rattle.adapter.specs.Steps.{device_after}
use Rattle.adapter.specs.Steps.DeviceTransition.{Plug}
use Rattle.adapter.specs.declared.access.DeviceStep.TheVariants as asked
use Rattle.ata_types.specs.declared.Port.{Port}
use Rattle.sector_store.specs.Stores.{AreSectors}
use Rattle.sector_store.specs.declared.store.Failures.{Failures}
use Rattle.std.proofs.lemmas.Option.{same_Some}
use Rattle.device_model.specs.WriteCaches.{RollsBack, WritesFail, lasting_in, sector_told}
use Rattle.device_model.specs.Disks.{LosesCache, bay_of, disk_in_bay, disk_number, identity, is_same_index, lasting_of, plugged_as}
use Rattle.device_model.specs.StepEffects.{HasBayAndRollsBackIfCached, DidStep, IsLeftOut, LacksMemory, IsPossible}
use Rattle.device_model.specs.ModelState.{device_at, media_of, all_media_at, tells}
use Rattle.device_model.specs.OldSectors.{with_old_bytes}
use Rattle.device_model.specs.WholeAdapter.{AllMedia, device_of, all_media_after_plug}
use Rattle.device_model.specs.declared.bay.Bay.{Bay}
use Rattle.device_model.specs.declared.disks.ModelDisk.{ModelDisk}
use Rattle.device_model.specs.declared.disks.DiskIndex.{DiskIndex}
use Rattle.device_model.specs.declared.model.Model.{Model}
use Rattle.device_model.specs.declared.old_sectors.OldSector.{OldSector}
use Rattle.device_model.proofs.Absurd.{true-false}
use Rattle.device_model.proofs.Caching.{TellsBack, is_there, back_holds, back_lasts, back_some, turned_tells}
use Rattle.device_model.proofs.Plugging.{plug_noted, plugged_so}
use Rattle.device_model.proofs.TwoDisks.{has_disks, kept_in, kept_out, not_same, same_self, seated_behind, seated_here, seated_keeps, seated_others, seated_same}

-- a disk with its old sectors written back, in place of the one that was last in
abbrev pub with_back : {S : Type 0} → Bay S → S → Bay S
with_back b store = record b { disk = record b.disk { store = store } }

module _ {S : Type 0} (size : S → ℕ) (told : S → Option (ℕ → List ℕ)) (failures : S → Option Failures) (a b : Bay S) (lost : LosesCache size told failures a b) where
  -- ---- what such a disk tells, with a cache or without

  abbrev olds : List OldSector
  olds = a.cache.kept.sectors.items

  -- with one what is lasting is what it tells, with its old sectors
  with_cache : a.cache.is_on ≡ true → lasting_of told a ≡ option_map (with_old_bytes olds) (told a.disk.store)
  with_cache e = ap (λ on. if on then option_map (with_old_bytes olds) (told a.disk.store) else told a.lasting.value) e

  tells_back : a.cache.is_on ≡ true → TellsBack olds (told a.disk.store) (told b.disk.store)
  tells_back e =
      let P : Option (ℕ → List ℕ) → Type 0 = λ into. RollsBack size told failures into a.disk.store b.disk.store in
      turned_tells size told failures olds a.disk.store b.disk.store (subst P (with_cache e) (lost.is_rolled_back_with_cache e))

  lost_size : (on : Bool) → a.cache.is_on ≡ on → size b.disk.store ≡ size a.disk.store
  lost_size true e = (lost.is_rolled_back_with_cache e).size_is_kept
  lost_size false e = ap size (lost.store_is_kept_without_cache e)

  lost_tells : (on : Bool) → a.cache.is_on ≡ on → is_some (told b.disk.store) ≡ is_some (told a.disk.store)
  lost_tells true e = back_some olds (told a.disk.store) (told b.disk.store) (tells_back e)
  lost_tells false e = ap (λ (s : S). is_some (told s)) (lost.store_is_kept_without_cache e)

  lost_lasts : (on : Bool) → a.cache.is_on ≡ on → lasting_in a.cache (told b.disk.store) (told a.lasting.value) ≡ lasting_of told a
  lost_lasts true e =
      let Q : Option (ℕ → List ℕ) → Bool → Option (ℕ → List ℕ) = λ x on. if on then option_map (with_old_bytes olds) x else told a.lasting.value in
      ap (Q (told b.disk.store)) e
      ∙ (back_lasts olds (told a.disk.store) (told b.disk.store) (tells_back e) ∙ sym (ap (Q (told a.disk.store)) e))
  lost_lasts false e = ap (λ (s : S). lasting_in a.cache (told s) (told a.lasting.value)) (lost.store_is_kept_without_cache e)

  lost_holds : (on : Bool) → a.cache.is_on ≡ on → (last comes : ℕ → List ℕ) → told a.disk.store ≡ Some last → told b.disk.store ≡ Some comes → (k : ℕ) →
      (comes k ≡ last k) ⊎ (option_map (λ (f : ℕ → List ℕ). f k) (lasting_of told a) ≡ Some (comes k))
  lost_holds true e last comes is at k =
      elim (back_holds olds (told a.disk.store) (told b.disk.store) last comes (tells_back e) is at k) [
        | inl same ↦ inl same
        | inr held ↦
            inr (ap (option_map (λ (f : ℕ → List ℕ). f k)) (with_cache e) ∙ held)
      ]
  lost_holds false e last comes is at k =
      inl (ap (λ (f : ℕ → List ℕ). f k) (same_Some comes last (sym at ∙ (ap told (lost.store_is_kept_without_cache e) ∙ is))))

-- ---- where no call has failed

again_never : (calls n : ℕ) → 1 ≤ n → n < 2 ^ 64 → calls ≡ (calls + n) % 2 ^ 64 → ⊥
again_never calls n some few same = omega (arith, some, few, same)

-- what a store tells of writes of which so many have failed, one at least
counted : (l : List ℕ) (was now : Option Failures) → WritesFail l was now → 1 ≤ length l →
    (f : Failures) × (g : Failures) × (was ≡ Some f) × (now ≡ Some g) × (g.failed_calls ≡ (f.failed_calls + length l) % 2 ^ 64)
counted [] was now fail some = absurd (omega (arith, some))
counted (s ∷ []) was now (mid, (f, is, next), same) some = (f, record { failed_calls = (f.failed_calls + 1) % 2 ^ 64; last_sector = s; last_is_write = true }, is, same ∙ next, refl)
counted (s ∷ t ∷ l) was now (mid, (f, is, next), fail) some =
    let more = counted (t ∷ l) mid now fail (omega arith) in
    let h : Failures = more.0 in
    let g : Failures = more.1 in
    let at : h.failed_calls ≡ (f.failed_calls + 1) % 2 ^ 64 = ap (λ (x : Failures). x.failed_calls) (same_Some h (record { failed_calls = (f.failed_calls + 1) % 2 ^ 64; last_sector = s; last_is_write = true }) (sym more.2 ∙ next)) in
    let up : g.failed_calls ≡ (h.failed_calls + length (t ∷ l)) % 2 ^ 64 = more.4 in
    (f, g, is, more.3, omega (arith, at, up))

none_failed : (l : List ℕ) (was now : Option Failures) → WritesFail l was now → length l < 2 ^ 64 → now ≡ was → (k : ℕ) → Contains l k → ⊥
none_failed l was now fail few same k at =
    let c = counted l was now fail (omega (arith, at.1)) in
    let f : Failures = c.0 in
    let g : Failures = c.1 in
    let one : g.failed_calls ≡ f.failed_calls = ap (λ (x : Failures). x.failed_calls) (same_Some g f (sym c.3 ∙ (same ∙ c.2))) in
    again_never f.failed_calls (length l) (omega (arith, at.1)) few (sym one ∙ c.4)

module _ {S : Type 0} (size : S → ℕ) (told : S → Option (ℕ → List ℕ)) (failures : S → Option Failures) (into : Option (ℕ → List ℕ)) (was now : S) (t : RollsBack size told failures into was now)
    (fits : size was < 2 ^ 64) where
  pub all_back : failures now ≡ failures was → (k : ℕ) → k < size was → sector_told (told now) k ≡ sector_told into k
  all_back same k lt = t.unfailed_sectors_are_rolled_back k lt (none_failed t.failed (failures was) (failures now) t.writes_fail (let few = t.failed_count_is_allowed in omega (arith, few, fits)) same k)

  -- one that isn't was not written back, since a call has failed
  pub each_back_or : (k : ℕ) → k < size was →
      (sector_told (told now) k ≡ sector_told into k) ⊎ ((sector_told (told now) k ≡ sector_told (told was) k) × (failures now ≢ failures was))
  each_back_or k lt =
      elim (is_there t.failed k) [
        | inl at ↦ inr (t.failed_are_kept k (inr at), λ same. none_failed t.failed (failures was) (failures now) t.writes_fail (let few = t.failed_count_is_allowed in omega (arith, few, fits)) same k at)
        | inr never ↦ inl (t.unfailed_sectors_are_rolled_back k lt never)
      ]

-- a LosePlug that was done
pub lost_of : {S : Type 0} (size : S → ℕ) (told : S → Option (ℕ → List ℕ)) (failures : S → Option Failures) (old new : Model S) (p : Port) (a b : Bay S) →
    bay_of old p.0 ≡ Some a → bay_of new p.0 ≡ Some b → DidStep size told failures (asked.LosePlug p) old new → LosesCache size told failures a b
lost_of {S} size told failures old new p a b was is did =
    let both : Option (Bay S) → Option (Bay S) → Type 0 = λ x y. HasBayAndRollsBackIfCached size told failures x y in
    elim did.completes_or_fails [
      | inl whole ↦ subst (both (Some a)) is (subst (λ x. both x (bay_of new p.0)) was (whole.lose_plug_loses_cache refl))
      | inr never ↦ absurd never
    ]

module _ {S : Type 0} (size : S → ℕ) (told : S → Option (ℕ → List ℕ)) (failures : S → Option Failures) (m new : Model S) (p : Port)
    (held : new.held ≡ m.held) (queue : new.queue ≡ m.queue) (accesses : new.accesses ≡ m.accesses) (a b : Bay S) (was : bay_of m p.0 ≡ Some a)
    (items : new.bays.items ≡ slice_set m.bays.items p.0 (Some b)) where
  -- the tape had no room, and no disk is put in
  pub lose_left : b ≡ a → ((o : AllMedia) → device_of new.hardware o ≡ device_of m.hardware o) → IsPossible (asked.LosePlug p) (device_at size told m) →
      LacksMemory (asked.LosePlug p) (device_at size told m) m.hardware m.bays.items → new.hardware.starved ≡ true → IsLeftOut size told failures (asked.LosePlug p) m new
  lose_left rest same may lacks starved =
      let kept : (w : DiskIndex) → disk_in_bay b w ≡ disk_in_bay a w = λ (w : DiskIndex). ap (λ (x : Bay S). disk_in_bay x w) rest in
      record {
        device_is_kept = ap (λ (o : AllMedia). device_of new.hardware o) (seated_behind m new p.0 a b was items size told (ap (λ (x : Bay S). media_of size told (Some x)) rest)
            (ap (λ (x : Bay S). tells told (Some x)) rest))
            ∙ same (all_media_at size told m);
        held_ports_are = held;
        page_source_is = seated_same m new p.0 a b was items (option_map (λ (x : Bay S). x.page_source)) (ap (λ (x : Bay S). Some x.page_source) rest) p.0;
        disk_index_is = seated_same m new p.0 a b was items (option_map (λ (x : Bay S). x.which)) (ap (λ (x : Bay S). Some x.which) rest) p.0;
        other_bays_are_kept = seated_others m new p.0 a b was items;
        disks_are_kept = λ w. seated_same m new p.0 a b was items (option_map (λ (x : Bay S). disk_in_bay x w)) (ap Some (kept w)) p.0;
        possible_step_lacks_memory = λ _ _. (lacks, starved);
        step_keeps = seated_keeps m new p.0 a b was items size (λ w _. kept w) (λ w. ap (identity size) (kept w)) (ap (λ (x : Bay S). x.cache.is_on) rest) queue accesses;
        stays_starved = λ _. starved;
        starves_for_want = λ _. inr (may, lacks);
      }

  module _ (lost : LosesCache size told failures a b) (rest : b ≡ record (with_back a b.disk.store) { plugged_later = b.plugged_later })
      (later : (disk : DiskIndex → S → Disk) → plugged_as disk b.plugged_later ≡ plugged_as disk a.plugged_later ++ disk a.which b.disk.store ∷ []) where
    which_is : b.which ≡ a.which
    which_is = ap (λ (x : Bay S). x.which) rest

    tells_so : tells told (Some b) ≡ tells told (Some a)
    tells_so = ap (λ (x : Bay S). is_some (told b.disk.store) && is_some (told x.other.store)) rest ∙ ap (λ x. x && is_some (told a.other.store)) (lost_tells size told failures a b lost a.cache.is_on refl)

    lasts : lasting_of told b ≡ (if is_same_index b.which a.which then lasting_of told a else told b.disk.store)
    lasts =
        ap (λ (x : Bay S). lasting_in x.cache (told b.disk.store) (told x.lasting.value)) rest
        ∙ (lost_lasts size told failures a b lost a.cache.is_on refl
        ∙ ap (λ x. if x then lasting_of told a else told b.disk.store) (sym (ap (λ (w : DiskIndex). is_same_index w a.which) which_is ∙ same_self a.which)))

    later_so : (disk : DiskIndex → S → Disk) → plugged_as disk b.plugged_later ≡ plugged_as disk a.plugged_later ++ disk b.which b.disk.store ∷ []
    later_so disk = later disk ∙ ap (λ (w : DiskIndex). plugged_as disk a.plugged_later ++ disk w b.disk.store ∷ []) (sym which_is)

    that : b.which ≡ a.which → (size b.disk.store ≡ size a.disk.store)
        × ((last comes : ℕ → List ℕ) → told a.disk.store ≡ Some last → told b.disk.store ≡ Some comes → (k : ℕ) →
        (comes k ≡ last k) ⊎ (option_map (λ (f : ℕ → List ℕ). f k) (lasting_of told a) ≡ Some (comes k)))
    that _ = (lost_size size told failures a b lost a.cache.is_on refl, lost_holds size told failures a b lost a.cache.is_on refl)

    first : b.first ≡ a.first
    first = ap (λ (x : Bay S). x.first) rest

    lost_out : (w : DiskIndex) → w ≢ a.which → disk_in_bay b w ≡ disk_in_bay a w
    lost_out w ne = ap (λ (x : Bay S). disk_in_bay x w) rest ∙ kept_out (is_same_index w a.which) (record a.disk { store = b.disk.store }) a.disk a.other (not_same w a.which ne)

    lost_kept : {X : Type 0} (f : ModelDisk S → X) → f (record a.disk { store = b.disk.store }) ≡ f a.disk → (w : DiskIndex) → f (disk_in_bay b w) ≡ f (disk_in_bay a w)
    lost_kept f same w = ap (λ (x : Bay S). f (disk_in_bay x w)) rest ∙ kept_in f (is_same_index w a.which) (record a.disk { store = b.disk.store }) a.disk a.other same

    pub did_lose : p.0 < 4 → ((d : Device) → d ≡ device_at size told m → ((d.port p.0).present ≡ false)) → ((s : S) → AreSectors (size s) (told s)) →
        ((o : AllMedia) (disk : Disk) → disk.name ≡ disk_number a.which → true ≡ nat_eq disk.name (o.media p.0).disk.name → device_of new.hardware (all_media_after_plug o p.0 disk) ≡ device_after (Plug p.0 disk) (device_of m.hardware o)) →
        new.hardware.starved ≡ m.hardware.starved →
        IsPossible (asked.LosePlug p) (device_at size told m) × DidStep size told failures (asked.LosePlug p) m new
    did_lose small free are did starved =
        let may : IsPossible (asked.LosePlug p) (device_at size told m) = (small, has_disks size told m p.0 a was, free _ refl) in
        let name : disk_number a.which ≡ ((device_at size told m).port p.0).disk.name = sym (ap (λ x. (media_of size told x).disk.name) was) in
        let so : (o : AllMedia) (disk : Disk) → disk.name ≡ disk_number a.which → is_same_index b.which a.which ≡ nat_eq disk.name (o.media p.0).disk.name →
        device_of new.hardware (all_media_after_plug o p.0 disk) ≡ device_after (Plug p.0 disk) (device_of m.hardware o) =
        λ o disk named same. did o disk named (sym (ap (λ (w : DiskIndex). is_same_index w a.which) which_is ∙ same_self a.which) ∙ same) in
        let P : ℕ → Type 0 = λ n. DoesPlug p.0 n (device_at size told m) (device_at size told new) in
        let both : Option (Bay S) → Option (Bay S) → Type 0 = λ x y. HasBayAndRollsBackIfCached size told failures x y in (
          may,
          record {
            completes_or_fails = inl (record {
              does_asked_step = subst P name
                  (plugged_so size told failures m new p held queue accesses a b was items tells_so first later_so lasts that (disk_number a.which) (ap disk_number which_is) free are so);
              no_call_failed = λ no. true-false refl no;
              page_source_is = seated_same m new p.0 a b was items (option_map (λ (x : Bay S). x.page_source)) (ap (λ (x : Bay S). Some x.page_source) rest) p.0;
              clear_and_finish_do_all_below_4_gib = λ _. tt;
              lose_plug_loses_cache = λ _. subst (λ x. both x (bay_of new p.0)) (sym was) (subst (both (Some a)) (sym (seated_here m new p.0 a b was items)) lost);
            });
            held_ports_are = held;
            disk_index_is = seated_same m new p.0 a b was items (option_map (λ (x : Bay S). x.which)) (ap Some which_is) p.0;
            other_bays_are_kept = seated_others m new p.0 a b was items;
            gains_own_pages = plug_noted size told failures m new p held queue accesses a b was items tells_so first later_so lasts that (disk_number a.which) (ap disk_number which_is) so;
            disks_are_kept = λ never. absurd (never may);
            step_keeps = seated_keeps m new p.0 a b was items size lost_out
                (lost_kept (identity size) (ap (λ (n : ℕ). record { serial = a.disk.serial; size = n }) (lost_size size told failures a b lost a.cache.is_on refl)))
                (ap (λ (x : Bay S). x.cache.is_on) rest) queue accesses;
            starved_is_kept = starved;
          },
        )
