-- A clear that a model makes, or leaves.
use Rattle.std.proofs.Common.{ℕ, Bool, true, false, ◌≡◌, ◌<◌, ◌≤◌, ◌+◌, ◌-◌, min, ◌⊎◌, List, [], ◌∷◌, Option, Some, length, refl, sym, ◌∙◌, ap, subst, inl, inr, arith, zero, suc, drop, take}
use Rattle.std.proofs.lemmas.Bool.{cases_lt}
use Rattle.std.specs.Prelude.{if◌then◌else◌, option_map, slice_set}
use Rattle.adapter.specs.AskedSteps.{DoesClear}
use Rattle.adapter.specs.Commands.{is_queued}
use Rattle.adapter.specs.Device.{Disk, DevicePort, FetchedCommand, Device}
use Rattle.adapter.specs.Steps.{Can, IsWorking, MayClear, device_after, clear_entry, disk_cleared, port_after_clear}
use Rattle.adapter.specs.Steps.DeviceTransition.{Clear, Fault}
use Rattle.adapter.specs.Trim.{consecutive}
use Rattle.adapter.specs.declared.access.DeviceStep.TheVariants as asked
use Rattle.adapter.specs.declared.command.Operation.TheVariants.{Trim}
use Rattle.ata_types.specs.declared.Port.{Port}
use Rattle.ata_types.specs.declared.Slot.{Slot}
use Rattle.sector_store.specs.declared.store.Failures.{Failures}
use Rattle.device_model.specs.Disks.{bay_of, port_has_cache, disk_over, bay_failures, disk_failures, has_cache, lasting_of, page_source_of}
use Rattle.device_model.specs.StepEffects.{ClearsFewerSectorsThan, HasCleared, CommandOfStepFails, SectorIsPastDiskOrStoreFails}
use Rattle.device_model.specs.ModelState.{device_at, media_of, all_media_at}
use Rattle.device_model.specs.DiskPages.{GainsOwnPages, with_logged_error}
use Rattle.device_model.specs.SentFises.{SendsFault}
use Rattle.device_model.specs.Slots.{IsNextRun}
use Rattle.device_model.specs.Trims.{HasClear, next_uncleared, next_run_length, uncleared}
use Rattle.device_model.specs.PortView.{taken_of}
use Rattle.device_model.specs.WholeAdapter.{HasDisks, AllMedia, device_of, all_media_after_clear}
use Rattle.device_model.specs.declared.bay.Bay.{Bay}
use Rattle.device_model.specs.declared.clearing.SectorExtent.{SectorExtent}
use Rattle.device_model.specs.declared.hardware.Hardware.{Hardware}
use Rattle.device_model.specs.declared.model.Model.{Model}
use Rattle.device_model.specs.declared.port.TakenCommand.{TakenCommand}
use Rattle.device_model.proofs.Cleared.{clears_none}
use Rattle.device_model.proofs.Finishing.{here_after, taken_after, next_has_clear, still_works}
use Rattle.device_model.proofs.Doing.{IsFailed}
use Rattle.device_model.proofs.Telling.{gains_none, gains_one}
use Rattle.device_model.proofs.Trimming.{next_on, next_one, span_most, span_sectors}
use Rattle.device_model.proofs.TwoDisks.{has_disks, outside_kept, outside_zeros, store_says, with_store}

-- where sectors can be cleared, each number of them that can be cleared at once, and is on the disk, may be
pub may_clear : (d : Device) (port slot most first count : ℕ) (t : FetchedCommand) → HasClear d port slot most t → first ≡ next_uncleared t →
    count ≤ next_run_length most t → (count ≡ 0) ⊎ (first + count ≤ (d.port port).disk.sector_count) → MayClear d port slot t first count
may_clear d port slot most first count t has start few on_disk =
    let enough = has.enough_are_left in
    record {
      works = has.works;
      trim = has.trim;
      block_is_moved = has.block_is_moved;
      first_is_next = next_one t has.some_are_left ∙ ap (λ (k : ℕ). k ∷ []) (sym start);
      sectors_follow = span_sectors most count t few enough ∙ ap (λ (k : ℕ). consecutive k count) (sym start);
      inside = on_disk;
    }

-- and where a clear may be made, sectors can be cleared
pub can_clear : (d : Device) (port slot first count : ℕ) (t : FetchedCommand) → ((sector : ℕ) → sector < (d.port port).disk.sector_count → HasDisks d port) → 1 ≤ count →
    MayClear d port slot t first count → HasClear d port slot count t
can_clear d port slot first count t sized some can = record {
  has_disks = elim can.inside [
    | inl none ↦ absurd (omega (arith, some, none))
    | inr fits ↦ sized first (omega (arith, fits, some))
  ];
  works = can.works;
  trim = can.trim;
  block_is_moved = can.block_is_moved;
  some_are_left = one (uncleared t) can.first_is_next;
  enough_are_left = by count (uncleared t) first can.sectors_follow;
}
  where
    one : (xs : List ℕ) → take 1 xs ≡ first ∷ [] → 1 ≤ length xs
    one [] same = absurd (cc same)
    one (x ∷ xs) same = omega arith

    by : (n : ℕ) (xs : List ℕ) (a : ℕ) → take n xs ≡ consecutive a n → n ≤ length xs
    by zero xs a same = omega arith
    by (suc n) [] a same = absurd (cc same)
    by (suc n) (x ∷ xs) a same = let rest = by n xs (suc a) (ap (λ (l : List ℕ). drop 1 l) same) in omega (arith, rest)

module _ (old new : Device) (port slot most first count : ℕ) (t : FetchedCommand) (has : HasClear old port slot most t)
    (effect : new ≡ device_after (Clear port slot t first count) old) where
  abbrev further : FetchedCommand
  further = record t { cleared = t.cleared + count }

  cleared_port : new.port port ≡ port_after_clear (old.port port) slot t first count
  cleared_port = ap (λ (d : Device). d.port port) effect ∙ here_after old port (port_after_clear (old.port port) slot t first count)

  cleared_taken : (new.port port).taken slot ≡ Some further
  cleared_taken = ap (λ (p : DevicePort). p.taken slot) cleared_port ∙ taken_after (old.port port) slot (Some further)

  disks : HasDisks old port → HasDisks new port
  disks has none = has (sym (ap (λ (p : DevicePort). p.plug_history) cleared_port) ∙ none)

  -- all that could be is cleared
  pub all_cleared : count ≡ next_run_length most t → HasCleared old new port slot most
  all_cleared whole = record {
    fetched_command = t;
    command_before = has.works.taken;
    command_after = cleared_taken ∙ ap (λ (n : ℕ). Some (record t { cleared = t.cleared + n })) whole;
  }

  -- or the next one still can be
  pub more_clear : count < next_run_length most t → HasClear new port slot 1 further
  more_clear more =
      let next = next_on most count t more has.enough_are_left in
      let P : DevicePort → Type 0 = λ p. IsWorking p Trim in
      record {
        has_disks = disks has.has_disks;
        works = record {
          taken = cleared_taken;
          working = subst P (sym cleared_port) (still_works (old.port port) (port_after_clear (old.port port) slot t first count) Trim has.works.working refl refl refl refl refl);
        };
        trim = has.trim;
        block_is_moved = has.block_is_moved;
        some_are_left = next.0;
        enough_are_left = next.0;
      }

  pub cleared_size : (new.port port).disk.sector_count ≡ (old.port port).disk.sector_count
  cleared_size = ap (λ (p : DevicePort). p.disk.sector_count) cleared_port

-- what the hardware has found to clear can be, on a port that has disks
pub found_clear : (h : Hardware) (o : AllMedia) (d : Device) (port slot most : ℕ) (run : SectorExtent) (r : TakenCommand) → HasDisks d port → device_of h o ≡ d →
    IsNextRun h port slot most run r → HasClear d port slot most (taken_of r)
found_clear h o d port slot most run r has same is = next_has_clear h o d port slot most r has same is.works_on is.can_clear

-- A clear is noted of so many sectors, of so many that were asked for.
abbrev IsNoted : (most count : ℕ) → Type 0
IsNoted most count = (1 ≤ count) ⊎ (most ≡ 0)

noted_or_none : (most count : ℕ) → IsNoted most count ⊎ ((count ≡ 0) × (1 ≤ most))
noted_or_none most (suc count) = inl (inl (omega arith))
noted_or_none zero zero = inl (inr refl)
noted_or_none (suc most) zero = inr (refl, omega arith)

not_both : {X : Type 0} (most count : ℕ) → count ≡ 0 → 1 ≤ most → IsNoted most count → X
not_both most count none asked (inl some) = absurd (omega (arith, none, some))
not_both most count none asked (inr unasked) = absurd (omega (arith, asked, unasked))

-- So many of the next sectors of a trim are cleared, or none: the rest is as it was, and the next one, if there is one, can be cleared.
pub record IsPart {S : Type 0} (size : S → ℕ) (told : S → Option (ℕ → List ℕ)) (p : Port) (slot : Slot) (most first count : ℕ) (t : FetchedCommand) (old new : Model S) : Type 0 where
  pub before : count < next_run_length most t → (device_at size told new ≡ device_at size told old) ⊎ ClearsFewerSectorsThan p.0 slot.0 most (device_at size told old) (device_at size told new)
  pub whole : IsNoted most count → DoesClear p.0 slot.0 most (device_at size told old) (device_at size told new)
  pub all : IsNoted most count → count ≡ next_run_length most t → HasCleared (device_at size told old) (device_at size told new) p.0 slot.0 most
  pub more : count < next_run_length most t → HasClear (device_at size told new) p.0 slot.0 1 (record t { cleared = t.cleared + count })
  pub disk_size : ((device_at size told new).port p.0).disk.sector_count ≡ ((device_at size told old).port p.0).disk.sector_count
  pub gains_own_pages : GainsOwnPages size old new

module _ {S : Type 0} (size : S → ℕ) (told : S → Option (ℕ → List ℕ)) (failures : S → Option Failures) (p : Port) (slot : Slot) (most : ℕ) (m then_model : Model S)
    (a b : Bay S) (was : bay_of m p.0 ≡ Some a) (items : then_model.bays.items ≡ slice_set m.bays.items p.0 (Some b)) (rest : b ≡ with_store a b.disk.store b.cache) (lasts : lasting_of told b ≡ lasting_of told a)
    (h : Hardware) (first count : ℕ) (r : TakenCommand) (same : (o : AllMedia) → device_of h o ≡ device_of m.hardware o) where
  abbrev old_device : Device
  old_device = device_at size told m

  abbrev old_disk : Disk
  old_disk = disk_over a.which (size a.disk.store) (told a.disk.store)

  abbrev new_disk : Disk
  new_disk = disk_over a.which (size b.disk.store) (told b.disk.store)

  pub size_is : (old_device.port p.0).disk.sector_count ≡ size a.disk.store
  size_is = ap (λ x. (media_of size told x).disk.sector_count) was

  module _ (cleared : (o : AllMedia) → device_of then_model.hardware (all_media_after_clear o p.0 first count) ≡ device_after (Clear p.0 slot.0 (taken_of r) first count) (device_of h o))
      (zeros : new_disk ≡ disk_cleared old_disk first count) where
    clear_effect : device_at size told then_model ≡ device_after (Clear p.0 slot.0 (taken_of r) first count) old_device
    clear_effect =
        let o : AllMedia = all_media_at size told m in
        ap (λ (x : AllMedia). device_of then_model.hardware x) (outside_zeros m then_model p.0 a b was items rest size told first count lasts zeros)
        ∙ (cleared o ∙ ap (λ (d : Device). device_after (Clear p.0 slot.0 (taken_of r) first count) d) (same o))

    some_part : HasClear old_device p.0 slot.0 most (taken_of r) → first ≡ next_uncleared (taken_of r) → IsNoted most count → count ≤ next_run_length most (taken_of r) →
        (count ≡ 0) ⊎ (first + count ≤ size a.disk.store) → IsPart size told p slot most first count (taken_of r) m then_model
    some_part has start some few on_disk =
        let end : (count ≡ 0) ⊎ (first + count ≤ (old_device.port p.0).disk.sector_count) = subst (λ (n : ℕ). (count ≡ 0) ⊎ (first + count ≤ n)) (sym size_is) on_disk in
        let limit = span_most most (taken_of r) in
        let did : DoesClear p.0 slot.0 most old_device (device_at size told then_model) = record {
          fetched_command = taken_of r;
          first = first;
          count = count;
          count_is_positive_if_asked = some;
          count_is_allowed = omega (arith, few, limit);
          can = may_clear old_device p.0 slot.0 most first count (taken_of r) has start few end;
          effect = clear_effect;
        } in
        record {
          before = λ fewer. inr (did, omega (arith, fewer, limit));
          whole = λ _. did;
          all = λ _ is. all_cleared old_device _ p.0 slot.0 most first count (taken_of r) has clear_effect is;
          more = λ fewer. more_clear old_device _ p.0 slot.0 most first count (taken_of r) has clear_effect fewer;
          disk_size = cleared_size old_device _ p.0 slot.0 most first count (taken_of r) has clear_effect;
          gains_own_pages = gains_one size m then_model (clear_entry p.0 slot.0 first count) (ap (λ (d : Device). d.tape) clear_effect) (λ x e. absurd (cc e));
        }

  -- none is
  none_part : count ≡ 0 → 1 ≤ most → then_model.hardware ≡ h → told b.disk.store ≡ told a.disk.store → size b.disk.store ≡ size a.disk.store →
      HasClear old_device p.0 slot.0 most (taken_of r) → IsPart size told p slot most first count (taken_of r) m then_model
  none_part none asked left tells sizes has =
      let around : all_media_at size told then_model ≡ all_media_at size told m = outside_kept m then_model p.0 a b was items rest size told sizes tells lasts in
      let kept : device_at size told then_model ≡ old_device = (λ i. device_of (left i) (around i)) ∙ same (all_media_at size told m) in
      let t : FetchedCommand = taken_of r in
      let here : t ≡ record t { cleared = t.cleared + count } =
      let number : t.cleared ≡ t.cleared + count = omega (arith, none) in ap (λ (n : ℕ). record t { cleared = n }) number in
      let P : Device → Type 0 = λ d. HasClear d p.0 slot.0 1 t in
      record {
        before = λ _. inl kept;
        whole = λ noted. not_both most count none asked noted;
        all = λ noted. not_both most count none asked noted;
        more = λ fewer.
            subst (λ (x : FetchedCommand). HasClear (device_at size told then_model) p.0 slot.0 1 x) here
            (subst P (sym kept)
            (record { has_disks = has.has_disks; works = has.works; trim = has.trim; block_is_moved = has.block_is_moved; some_are_left = has.some_are_left; enough_are_left = has.some_are_left }));
        disk_size = ap (λ (d : Device). (d.port p.0).disk.sector_count) kept;
        gains_own_pages = gains_none size m then_model (ap (λ (d : Device). d.tape) kept);
      }

  -- as many as the store has cleared
  pub is_part : HasClear old_device p.0 slot.0 most (taken_of r) → first ≡ next_uncleared (taken_of r) → count ≤ next_run_length most (taken_of r) →
      (count ≡ 0) ⊎ (first + count ≤ size a.disk.store) → (count ≡ 0 → 1 ≤ most → then_model.hardware ≡ h) → (count ≡ 0 → told b.disk.store ≡ told a.disk.store) →
      size b.disk.store ≡ size a.disk.store →
      (IsNoted most count → (o : AllMedia) → device_of then_model.hardware (all_media_after_clear o p.0 first count) ≡ device_after (Clear p.0 slot.0 (taken_of r) first count) (device_of h o)) →
      new_disk ≡ disk_cleared old_disk first count → IsPart size told p slot most first count (taken_of r) m then_model
  is_part has start few on_disk left tells sizes cleared zeros =
      elim (noted_or_none most count) [
        | inl noted ↦ some_part (cleared noted) zeros has start noted few on_disk
        | inr none ↦ none_part none.0 none.1 (left none.0 none.1) (tells none.0) sizes has
      ]

  -- of a run that the hardware has found, as far as it is on the disk
  pub cut_part : (run on : SectorExtent) (sectors : ℕ) → first ≡ run.first → IsNextRun h p.0 slot.0 most run r → sectors ≡ size a.disk.store → on.first + on.count ≤ sectors →
      on.count ≡ min run.count (sectors - run.first) → (1 ≤ on.count → on.first ≡ run.first) → count ≤ on.count →
      new_disk ≡ disk_cleared old_disk on.first count → (count ≡ 0 → told b.disk.store ≡ told a.disk.store) → size b.disk.store ≡ size a.disk.store →
      (count ≡ 0 → 1 ≤ most → then_model.hardware ≡ h) →
      (IsNoted most count → (o : AllMedia) → device_of then_model.hardware (all_media_after_clear o p.0 first count) ≡ device_after (Clear p.0 slot.0 (taken_of r) first count) (device_of h o)) →
      IsPart size told p slot most first count (taken_of r) m then_model
  cut_part run on sectors at is listed inside cut begins few zeros tells sizes left cleared =
      let whole : run.count ≡ next_run_length most (taken_of r) = is.count_is in
      let start : first ≡ next_uncleared (taken_of r) = at ∙ is.first_is in
      let on_first : 1 ≤ count → on.first ≡ first = λ (some : 1 ≤ count). begins (omega (arith, some, few)) ∙ sym at in
      is_part (found_clear h (all_media_at size told m) old_device p.0 slot.0 most run r (has_disks size told m p.0 a was) (same (all_media_at size told m)) is) start
      (omega (arith, few, cut, whole)) (within on_first) left tells sizes cleared (zeros ∙ alike on_first)
    where
      within : (1 ≤ count → on.first ≡ first) → (count ≡ 0) ⊎ (first + count ≤ size a.disk.store)
      within on_first = elim (cases_lt 0 count) [
        | inl some ↦ let here = on_first (omega (arith, some)) in inr (omega (arith, here, inside, listed, few))
        | inr none ↦ inl (omega (arith, none))
      ]

      alike : (1 ≤ count → on.first ≡ first) → disk_cleared old_disk on.first count ≡ disk_cleared old_disk first count
      alike on_first = elim (cases_lt 0 count) [
        | inl some ↦ ap (λ (k : ℕ). disk_cleared old_disk k count) (on_first (omega (arith, some)))
        | inr none ↦
            let zero : count ≡ 0 = omega (arith, none) in
            ap (disk_cleared old_disk on.first) zero ∙ (clears_none old_disk on.first ∙ sym (ap (disk_cleared old_disk first) zero ∙ clears_none old_disk first))
      ]

  -- the next one can't be: its command fails on it
  pub part_fails : (small : slot.0 < 32) → HasClear old_device p.0 slot.0 most (taken_of r) → IsPart size told p slot most first count (taken_of r) m then_model →
      count < next_run_length most (taken_of r) → (error : ℕ) → (last : Model S) → disk_failures failures last p.0 ≡ failures b.disk.store →
      SectorIsPastDiskOrStoreFails a.cache.is_on true (first + count) (size a.disk.store) error (failures a.disk.store) (failures b.disk.store) → first ≡ next_uncleared (taken_of r) →
      IsFailed size told failures p slot error (record (taken_of r) { cleared = r.cleared + count }) then_model last →
      CommandOfStepFails size told failures (asked.Clear p slot most) m last
  part_fails small has part fewer error last fine cause start failed =
      let t : FetchedCommand = record (taken_of r) { cleared = r.cleared + count } in
      let more = part.more fewer in
      let next : next_uncleared t ≡ next_uncleared (taken_of r) + count = (next_on most count (taken_of r) fewer has.enough_are_left).1 in
      let sector : first + count ≡ next_uncleared t = (let same : first + count ≡ next_uncleared (taken_of r) + count = ap (λ (k : ℕ). k + count) start in same) ∙ sym next in
      let sizes : size a.disk.store ≡ ((device_at size told then_model).port p.0).disk.sector_count = sym size_is ∙ sym part.disk_size in
      let then_size : ℕ = ((device_at size told then_model).port p.0).disk.sector_count in
      let P : Option Failures → Option Failures → Type 0 = λ before now. SectorIsPastDiskOrStoreFails (port_has_cache m p.0) true (next_uncleared t) then_size error before now in
      let Q : ℕ → Type 0 = λ n. SectorIsPastDiskOrStoreFails (port_has_cache m p.0) true (next_uncleared t) n error (failures a.disk.store) (failures b.disk.store) in
      let R : ℕ → Type 0 = λ k. SectorIsPastDiskOrStoreFails (port_has_cache m p.0) true k (size a.disk.store) error (failures a.disk.store) (failures b.disk.store) in
      let O : Bool → Type 0 = λ on. SectorIsPastDiskOrStoreFails on true (first + count) (size a.disk.store) error (failures a.disk.store) (failures b.disk.store) in
      let before : failures a.disk.store ≡ disk_failures failures m p.0 = sym (ap (bay_failures failures) was) in
      let plain : is_queued t.meaning.operation ≡ false = ap is_queued has.trim in
      let one : failed.fails.fault.fetched_command ≡ t = failed.same in
      let T : FetchedCommand → Device → Type 0 = λ x d. SendsFault (is_queued x.meaning.operation) p.0 d (device_at size told last) in (
        device_at size told then_model,
        part.before fewer,
        record {
          fetched_command = t;
          has_clear = more;
          error = error;
          cause = subst (λ x. P x (disk_failures failures last p.0)) before (subst (P (failures a.disk.store)) (sym fine) (subst Q sizes (subst R sector (subst O (sym (ap has_cache was)) cause))));
          can = subst (λ (x : FetchedCommand). Can (Fault p.0 slot.0 error 0 x) (device_at size told then_model)) one failed.fails.fault.can;
          sends = subst (T t) (failed.fails.fault.effect ∙ ap (λ (x : FetchedCommand). device_after (Fault p.0 slot.0 error 0 x) (device_at size told then_model)) one)
              (subst (λ (x : FetchedCommand). T x failed.fails.after_failure) one failed.fails.posts);
          page_source_after_is = failed.says
              ∙ (ap (λ (x : Bool). if x then option_map (with_logged_error (record { tag = slot.0; error = error })) (page_source_of then_model p.0) else page_source_of then_model p.0) plain
              ∙ store_says m then_model p.0 a b was items rest p.0);
        },
      )
