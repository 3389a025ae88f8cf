-- A disk is put into a port, or isn't.
use Rattle.std.proofs.Common.{ℕ, true, false, ◌⊎◌, ◌≡◌, ◌<◌, ◌∙◌, ◌++◌, ◌∷◌, [], List, Option, Some, refl, sym, ap, inl, inr, arith}
use Rattle.std.specs.Prelude.{if◌then◌else◌, is_some, nat_eq, option_map, slice_set}
use Rattle.adapter.specs.AskedSteps.{DoesPlug}
use Rattle.adapter.specs.Device.{Device, Disk}
use Rattle.std.proofs.lemmas.Option.{same_Some}
use Rattle.adapter.specs.Steps.{device_after}
use Rattle.adapter.specs.Steps.DeviceTransition.{Plug}
use Rattle.adapter.specs.declared.access.DeviceStep.TheVariants as asked
use Rattle.adapter.specs.declared.access.DiskNumber.{DiskNumber}
use Rattle.adapter.specs.declared.tape.Entry.TheVariants as entry
use Rattle.ata_types.specs.declared.Port.{Port}
use Rattle.sector_store.specs.Stores.{AreSectors}
use Rattle.sector_store.specs.declared.store.Failures.{Failures}
use Rattle.device_model.specs.Disks.{bay_of, disk_in_bay, disk_number, disk_over, identity, is_same_index, lasting_of, plugged_as}
use Rattle.device_model.specs.StepEffects.{DidStep, IsLeftOut, LacksMemory, IsPossible}
use Rattle.device_model.specs.ModelState.{device_at, media_of, all_media_at, tells}
use Rattle.device_model.specs.ToldDisks.{bay_disk_has_known_sectors, each_bay_store_is_known}
use Rattle.device_model.specs.WholeAdapter.{AllMedia, device_of, media_after_plug, all_media_after_plug}
use Rattle.device_model.specs.declared.bay.Bay.{Bay}
use Rattle.device_model.specs.declared.disks.ModelDisk.{ModelDisk}
use Rattle.device_model.specs.declared.disks.DiskIndex.{DiskIndex}
use Rattle.device_model.specs.declared.disks.DiskIndex.TheVariants.{Disk0, Disk1}
use Rattle.device_model.specs.declared.model.Model.{Model}
use Rattle.device_model.specs.DiskPages.{GainsOwnPages}
use Rattle.device_model.proofs.Absurd.{true-false}
use Rattle.device_model.proofs.NewModel.{disks_are}
use Rattle.device_model.proofs.Telling.{gains_one}
use Rattle.device_model.proofs.TwoDisks.{both_turned, has_disks, in_kept, number_small, of_number, one_number, seated_behind, seated_here, seated_keeps, seated_others, seated_outside, seated_same}

same_number : (w v : DiskIndex) → is_same_index w v ≡ nat_eq (disk_number w) (disk_number v)
same_number Disk0 Disk0 = refl
same_number Disk0 Disk1 = refl
same_number Disk1 Disk0 = refl
same_number Disk1 Disk1 = refl

-- whichever it is, by its name
by_name : (w v : DiskIndex) (was comes : Option (ℕ → List ℕ)) → (if is_same_index w v then was else comes) ≡ (if nat_eq (disk_number w) (disk_number v) then was else comes)
by_name w v was comes = ap (λ x. if x then was else comes) (same_number w v)

module _ {S : Type 0} (size : S → ℕ) (told : S → Option (ℕ → List ℕ)) (failures : S → Option Failures) (m new : Model S) (p : Port)
    (held : new.held ≡ m.held) (queue : new.queue ≡ m.queue) (accesses : new.accesses ≡ m.accesses) (a b : Bay S) (was : bay_of m p.0 ≡ Some a)
    (items : new.bays.items ≡ slice_set m.bays.items p.0 (Some b)) where
  -- the tape had no room, and no disk is put in
  pub plug_left : (number : DiskNumber) → b ≡ a → ((o : AllMedia) → device_of new.hardware o ≡ device_of m.hardware o) →
      IsPossible (asked.Plug p number) (device_at size told m) → LacksMemory (asked.Plug p number) (device_at size told m) m.hardware m.bays.items →
      new.hardware.starved ≡ true → IsLeftOut size told failures (asked.Plug p number) m new
  plug_left number rest same may lacks starved =
      let kept : (w : DiskIndex) → disk_in_bay b w ≡ disk_in_bay a w = λ (w : DiskIndex). ap (λ (x : Bay S). disk_in_bay x w) rest in
      record {
        device_is_kept = ap (λ (o : AllMedia). device_of new.hardware o) (seated_behind m new p.0 a b was items size told (ap (λ (x : Bay S). media_of size told (Some x)) rest)
            (ap (λ (x : Bay S). tells told (Some x)) rest))
            ∙ same (all_media_at size told m);
        held_ports_are = held;
        page_source_is = seated_same m new p.0 a b was items (option_map (λ (x : Bay S). x.page_source)) (ap (λ (x : Bay S). Some x.page_source) rest) p.0;
        disk_index_is = seated_same m new p.0 a b was items (option_map (λ (x : Bay S). x.which)) (ap (λ (x : Bay S). Some x.which) rest) p.0;
        other_bays_are_kept = seated_others m new p.0 a b was items;
        disks_are_kept = λ w. seated_same m new p.0 a b was items (option_map (λ (x : Bay S). disk_in_bay x w)) (ap Some (kept w)) p.0;
        possible_step_lacks_memory = λ _ _. (lacks, starved);
        step_keeps = seated_keeps m new p.0 a b was items size (λ w _. kept w) (λ w. ap (identity size) (kept w)) (ap (λ (x : Bay S). x.cache.is_on) rest) queue accesses;
        stays_starved = λ _. starved;
        starves_for_want = λ _. inr (may, lacks);
      }

  -- a disk is put in, as it is then
  module _ (tells_so : tells told (Some b) ≡ tells told (Some a)) (first : b.first ≡ a.first)
      (later : (disk : DiskIndex → S → Disk) → plugged_as disk b.plugged_later ≡ plugged_as disk a.plugged_later ++ disk b.which b.disk.store ∷ [])
      (lasts : lasting_of told b ≡ (if is_same_index b.which a.which then lasting_of told a else told b.disk.store))
      (that : b.which ≡ a.which → (size b.disk.store ≡ size a.disk.store)
      × ((last comes : ℕ → List ℕ) → told a.disk.store ≡ Some last → told b.disk.store ≡ Some comes → (k : ℕ) →
      (comes k ≡ last k) ⊎ (option_map (λ (f : ℕ → List ℕ). f k) (lasting_of told a) ≡ Some (comes k)))) where
    abbrev put_disk : Disk
    put_disk = disk_over b.which (size b.disk.store) (told b.disk.store)

    media : media_of size told (Some b) ≡ media_after_plug (media_of size told (bay_of m p.0)) put_disk
    media =
        let more = later (λ w s. disk_over w (size s) (told s)) in
        let named = lasts ∙ by_name b.which a.which (lasting_of told a) (told b.disk.store) in
        (λ i. record { disk = put_disk; plug_history = disk_over Disk0 (size (first i).value) (told (first i).value) ∷ more i; lasting = named i })
        ∙ ap (λ x. media_after_plug (media_of size told x) put_disk) (sym was)

    disk_is : (media_of size told (bay_of m p.0)).disk ≡ disk_over a.which (size a.disk.store) (told a.disk.store)
    disk_is = ap (λ x. (media_of size told x).disk) was

    -- whether it is the one that was in last
    same_named : is_same_index b.which a.which ≡ nat_eq put_disk.name (media_of size told (bay_of m p.0)).disk.name
    same_named = same_number b.which a.which ∙ ap (λ (d : Disk). nat_eq (disk_number b.which) d.name) (sym disk_is)

    pub plugged_so : (number : ℕ) → disk_number b.which ≡ number → ((d : Device) → d ≡ device_at size told m → ((d.port p.0).present ≡ false)) → ((s : S) → AreSectors (size s) (told s)) →
        ((o : AllMedia) (disk : Disk) → disk.name ≡ number → is_same_index b.which a.which ≡ nat_eq disk.name (o.media p.0).disk.name → device_of new.hardware (all_media_after_plug o p.0 disk) ≡ device_after (Plug p.0 disk) (device_of m.hardware o)) →
        DoesPlug p.0 number (device_at size told m) (device_at size told new)
    plugged_so number name free are did =
        let o : AllMedia = all_media_at size told m in
        record {
          disk = put_disk;
          name = name;
          can = (
            free _ refl,
            disks_are size told are (Some b),
            λ disks_tell_sectors. bay_disk_has_known_sectors size told (Some b) (tells_so ∙ (ap (tells told) (sym was) ∙ each_bay_store_is_known size told m.bays.items disks_tell_sectors p.0)),
            λ same.
                let which_same : b.which ≡ a.which = one_number b.which a.which (same ∙ ap (λ (d : Disk). d.name) disk_is) in
                let so = that which_same in
                record {
                  size = so.0 ∙ sym (ap (λ (d : Disk). d.sector_count) disk_is);
                  holds = λ last comes is_last is_comes k lt.
                      elim (so.1 last comes (sym (ap (λ (d : Disk). d.sectors) disk_is) ∙ is_last) is_comes k) [
                        | inl kept ↦ inl kept
                        | inr lost ↦ inr (inl (ap (λ x. option_map (λ (f : ℕ → List ℕ). f k) (media_of size told x).lasting) was ∙ lost))
                      ];
                },
          );
          effect = ap (λ (x : AllMedia). device_of new.hardware x) (seated_outside m new p.0 a b was items size told _ tells_so media) ∙ did o put_disk name same_named;
        }

    pub plug_noted : (number : ℕ) → disk_number b.which ≡ number →
        ((o : AllMedia) (disk : Disk) → disk.name ≡ number → is_same_index b.which a.which ≡ nat_eq disk.name (o.media p.0).disk.name → device_of new.hardware (all_media_after_plug o p.0 disk) ≡ device_after (Plug p.0 disk) (device_of m.hardware o)) →
        GainsOwnPages size m new
    plug_noted number name did =
        gains_one size m new (entry.Plug p (disk_number b.which)) (ap (λ (d : Device). d.tape) (did (all_media_at size told m) put_disk name same_named)) (λ x e. absurd (cc e))

  -- one of the two is put in by its number, with the sectors that it had
  module _ (number : DiskNumber) (which : DiskIndex) (found : disk_number which ≡ number.0) (which_is : b.which ≡ which) (kept : (w : DiskIndex) → disk_in_bay b w ≡ disk_in_bay a w)
      (later : (disk : DiskIndex → S → Disk) → plugged_as disk b.plugged_later ≡ plugged_as disk a.plugged_later ++ disk which b.disk.store ∷ [])
      (says : b.page_source ≡ a.page_source) (first : b.first ≡ a.first) (cached : b.cache.is_on ≡ a.cache.is_on)
      (lasting : lasting_of told b ≡ (if is_same_index which a.which then lasting_of told a else told b.disk.store)) where
    tells_so : tells told (Some b) ≡ tells told (Some a)
    tells_so = both_turned (λ (x : ModelDisk S). is_some (told x.store)) a b kept

    later_so : (disk : DiskIndex → S → Disk) → plugged_as disk b.plugged_later ≡ plugged_as disk a.plugged_later ++ disk b.which b.disk.store ∷ []
    later_so disk = later disk ∙ ap (λ (w : DiskIndex). plugged_as disk a.plugged_later ++ disk w b.disk.store ∷ []) (sym which_is)

    lasts_so : lasting_of told b ≡ (if is_same_index b.which a.which then lasting_of told a else told b.disk.store)
    lasts_so = lasting ∙ ap (λ (w : DiskIndex). if is_same_index w a.which then lasting_of told a else told b.disk.store) (sym which_is)

    that_so : b.which ≡ a.which → (size b.disk.store ≡ size a.disk.store)
        × ((last comes : ℕ → List ℕ) → told a.disk.store ≡ Some last → told b.disk.store ≡ Some comes → (k : ℕ) →
        (comes k ≡ last k) ⊎ (option_map (λ (f : ℕ → List ℕ). f k) (lasting_of told a) ≡ Some (comes k)))
    that_so same = (
      in_kept (λ (x : ModelDisk S). size x.store) a b same (λ w. ap (λ (x : ModelDisk S). size x.store) (kept w)),
      λ last comes is_last is_comes k.
          let told_same : told b.disk.store ≡ told a.disk.store = in_kept (λ (x : ModelDisk S). told x.store) a b same (λ w. ap (λ (x : ModelDisk S). told x.store) (kept w)) in
          inl (ap (λ (f : ℕ → List ℕ). f k) (same_Some comes last (sym is_comes ∙ (told_same ∙ is_last)))),
    )

    pub did_plug : p.0 < 4 → ((d : Device) → d ≡ device_at size told m → ((d.port p.0).present ≡ false)) → ((s : S) → AreSectors (size s) (told s)) →
        ((o : AllMedia) (disk : Disk) → disk.name ≡ number.0 → is_same_index which a.which ≡ nat_eq disk.name (o.media p.0).disk.name → device_of new.hardware (all_media_after_plug o p.0 disk) ≡ device_after (Plug p.0 disk) (device_of m.hardware o)) →
        new.hardware.starved ≡ m.hardware.starved →
        IsPossible (asked.Plug p number) (device_at size told m) × DidStep size told failures (asked.Plug p number) m new
    did_plug small free are did starved =
        let few = number_small which in
        let name : disk_number b.which ≡ number.0 = ap disk_number which_is ∙ found in
        let so : (o : AllMedia) (disk : Disk) → disk.name ≡ number.0 → is_same_index b.which a.which ≡ nat_eq disk.name (o.media p.0).disk.name → device_of new.hardware (all_media_after_plug o p.0 disk) ≡ device_after (Plug p.0 disk) (device_of m.hardware o) =
        λ o disk named same. did o disk named (ap (λ (w : DiskIndex). is_same_index w a.which) (sym which_is) ∙ same) in (
          (small, has_disks size told m p.0 a was, omega (arith, few, found), free _ refl),
          record {
            completes_or_fails = inl (record {
              does_asked_step = plugged_so tells_so first later_so lasts_so that_so number.0 name free are so;
              no_call_failed = λ _ q w. seated_same m new p.0 a b was items (λ x. option_map (λ (y : ModelDisk S). failures y.store) (option_map (λ (y : Bay S). disk_in_bay y w) x))
                  (ap (λ (y : ModelDisk S). Some (failures y.store)) (kept w)) q;
              page_source_is = seated_same m new p.0 a b was items (option_map (λ (x : Bay S). x.page_source)) (ap Some says) p.0;
              clear_and_finish_do_all_below_4_gib = λ _. tt;
              lose_plug_loses_cache = λ yes. true-false yes refl;
            });
            held_ports_are = held;
            disk_index_is = ap (option_map (λ (x : Bay S). x.which)) (seated_here m new p.0 a b was items)
                ∙ (ap Some (which_is ∙ of_number which number.0 found)
                ∙ sym (ap (λ x. option_map (λ (_ : DiskIndex). if nat_eq number.0 0 then Disk0 else Disk1) (option_map (λ (y : Bay S). y.which) x)) was));
            other_bays_are_kept = seated_others m new p.0 a b was items;
            gains_own_pages = plug_noted tells_so first later_so lasts_so that_so number.0 name so;
            disks_are_kept = λ _ w. seated_same m new p.0 a b was items (option_map (λ (x : Bay S). disk_in_bay x w)) (ap Some (kept w)) p.0;
            step_keeps = seated_keeps m new p.0 a b was items size (λ w _. kept w) (λ w. ap (identity size) (kept w)) cached queue accesses;
            starved_is_kept = starved;
          },
        )
