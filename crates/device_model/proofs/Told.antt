-- Steps of the hardware, as a model answers them.
use Rattle.std.proofs.Common.{ℕ, Bool, true, false, ◌≡◌, ◌<◌, ◌∙◌, List, [], ◌∷◌, ◌++◌, Option, None, Some, refl, sym, ap, subst, inl, inr}
use Rattle.std.specs.Global.{Vec}
use Rattle.std.specs.Prelude.{if◌then◌else◌, option_map, slice_set}
use Rattle.adapter.specs.AskedSteps.{DoesFatal, DoesFault, DoesFetch, DoesScribble, DoesAskedStep, EndsAndPosts, FailsAndPosts, fatal_bit}
use Rattle.adapter.specs.AskedSteps.{bsy_mask as busy_bit}
use Rattle.adapter.specs.Commands.{Meaning, is_queued}
use Rattle.adapter.specs.Device.{Device, FetchedCommand}
use Rattle.adapter.specs.Steps.{Can, device_after, fault_entry}
use Rattle.adapter.specs.Steps.DeviceTransition.{Fetch, FetchFault, Done, Fault, Fatal, Unplug}
use Rattle.adapter.specs.declared.access.DeviceStep.{DeviceStep}
use Rattle.adapter.specs.declared.access.DeviceStep.TheVariants as asked
use Rattle.adapter.specs.declared.access.FatalError.{FatalError}
use Rattle.adapter.specs.declared.command.Operation.{Operation}
use Rattle.adapter.specs.declared.command.Operation.TheVariants as operation
use Rattle.adapter.specs.declared.tape.Entry.{Entry}
use Rattle.adapter.specs.declared.tape.Entry.TheVariants as entry
use Rattle.adapter.specs.declared.tape.Move.{Move}
use Rattle.ata_types.specs.declared.Port.{Port}
use Rattle.ata_types.specs.declared.Slot.{Slot}
use Rattle.sector_store.specs.declared.store.Failures.{Failures}
use Rattle.device_model.specs.Disks.{EndsCommandIn, OnlyEndsCommand, BayEndsCommand, OnlyChangesPageSource, bay_of, disk_in_bay, lasting_of, page_source_of, disk_index_of}
use Rattle.device_model.specs.StepEffects.{AnswersStep, EndsIfFinishAndClearsRunIfClear, IsLeftOut, is_cache_loss, MayBeFetchedOrAborted, StepKeeps, LacksMemory, IsPossible, asked_fault, asked_port, page_source_after, page_source_after_failure, disk_index_after}
use Rattle.device_model.specs.Finishing.{TapeHasRoom, IsImpossibleOrLacksTape}
use Rattle.device_model.specs.HeldPorts.{held_after}
use Rattle.device_model.specs.ModelState.{device_at, media_of, all_media_at, tells}
use Rattle.device_model.specs.SentFises.{SendsFisOfAskedEndOrFault, SendsEnd, SendsFaultOfOperation, SendsFault}
use Rattle.device_model.specs.PortView.{bsy_if_disk_left_busy, media_after_end}
use Rattle.device_model.specs.WholeAdapter.{AllMedia, device_of, all_media_after_end}
use Rattle.device_model.specs.declared.hardware.Hardware.{Hardware}
use Rattle.device_model.specs.WriteCaches.{lasting_in}
use Rattle.device_model.specs.OldSectors.{with_old_bytes}
use Rattle.device_model.specs.declared.old_sectors.OldSector.{OldSector}
use Rattle.device_model.specs.declared.bay.Bay.{Bay}
use Rattle.device_model.specs.declared.bay.PageSource.{PageSource}
use Rattle.device_model.specs.declared.disks.ModelDisk.{ModelDisk}
use Rattle.device_model.specs.declared.model.Model.{Model}
use Rattle.device_model.proofs.Absurd.{some-none, some_one, true-false}
use Rattle.device_model.proofs.Doing.{left_same}
use Rattle.device_model.proofs.Posting.{fault_rest}
use Rattle.device_model.proofs.Telling.{gains_none, gains_one, gains_done}
use Rattle.device_model.proofs.TwoDisks.{put_keeps, put_others, put_outside, put_same, saying_here, saying_keeps, saying_others, saying_outside, saying_same}
use Rattle.device_model.specs.DiskPages.{with_logged_error}

-- a command failed, and then its FIS was sent
abbrev pub fault_sent : (port at slot error kept : ℕ) (queued : Bool) (old mid new : Device) (f : DoesFault port slot error kept old mid) → queued ≡ is_queued f.fetched_command.meaning.operation →
    at ≡ port → SendsFault queued at mid new → FailsAndPosts SendsFaultOfOperation port slot error kept old new
fault_sent port at slot error kept queued old mid new f kind here sent = record {
  after_failure = mid;
  fault = f;
  posts = subst (λ (b : Bool). SendsFault b port mid new) kind (subst (λ (q : ℕ). SendsFault queued q mid new) here sent);
}

-- the bay of a port becomes one whose command has ended
ended_put : {S : Type 0} (o : Operation) (x bay : Option (Bay S)) → EndsCommandIn o x bay →
    (put : Bay S → Bay S) × (bay ≡ option_map put x) × ((b : Bay S) → x ≡ Some b → BayEndsCommand o b (put b))
ended_put o None bay is = ((λ b. b), is, λ b e. some-none e refl)
ended_put o (Some a) None is = absurd is
ended_put o (Some a) (Some c) is = ((λ _. c), refl, λ b e. subst (λ x. BayEndsCommand o x c) (some_one e) is)

module _ {S : Type 0} (size : S → ℕ) (told : S → Option (ℕ → List ℕ)) where
  -- what such a one leaves
  ended_rest : (o : Operation) (a b : Bay S) → BayEndsCommand o a b → (b ≡ record a { lasting = b.lasting; cache = b.cache }) × (b.cache.is_on ≡ a.cache.is_on)
  ended_rest operation.Flush a b is = (is.1 ∙ (λ i. record a { lasting = (sym (ap (λ (x : Bay S). x.lasting) is.1)) i; cache = b.cache }), is.0.cache_mode_is_kept)
  ended_rest operation.Identify a b is = (is ∙ (λ i. record a { lasting = (sym is i).lasting; cache = (sym is i).cache }), ap (λ (x : Bay S). x.cache.is_on) is)
  ended_rest operation.ReadLog a b is = (is ∙ (λ i. record a { lasting = (sym is i).lasting; cache = (sym is i).cache }), ap (λ (x : Bay S). x.cache.is_on) is)
  ended_rest operation.Read a b is = (is ∙ (λ i. record a { lasting = (sym is i).lasting; cache = (sym is i).cache }), ap (λ (x : Bay S). x.cache.is_on) is)
  ended_rest operation.ReadQueued a b is = (is ∙ (λ i. record a { lasting = (sym is i).lasting; cache = (sym is i).cache }), ap (λ (x : Bay S). x.cache.is_on) is)
  ended_rest operation.Write a b is = (is ∙ (λ i. record a { lasting = (sym is i).lasting; cache = (sym is i).cache }), ap (λ (x : Bay S). x.cache.is_on) is)
  ended_rest operation.WriteQueued a b is = (is ∙ (λ i. record a { lasting = (sym is i).lasting; cache = (sym is i).cache }), ap (λ (x : Bay S). x.cache.is_on) is)
  ended_rest operation.Trim a b is = (is ∙ (λ i. record a { lasting = (sym is i).lasting; cache = (sym is i).cache }), ap (λ (x : Bay S). x.cache.is_on) is)

  -- all that a disk tells is lasting where nothing older is kept
  none_older : (on : Bool) (items : List OldSector) (now : Option (ℕ → List ℕ)) → items ≡ [] → (if on then option_map (with_old_bytes items) now else now) ≡ now
  none_older false items now none = refl
  none_older true items None none = refl
  none_older true items (Some f) none = ap (λ (l : List OldSector). Some (with_old_bytes l f)) none

  -- what is behind a port once a command has ended
  ended_some : (o : Operation) (a b : Bay S) → BayEndsCommand o a b → media_of size told (Some b) ≡ media_after_end (media_of size told (Some a)) o
  ended_some operation.Flush a b is =
      let lasts : lasting_of told b ≡ told a.disk.store =
      ap (λ (x : Bay S). lasting_in b.cache (told x.disk.store) (told x.lasting.value)) is.1 ∙ none_older b.cache.is_on b.cache.kept.sectors.items (told a.disk.store) is.0.old_sectors_are in
      λ i. record {
        disk = (media_of size told (Some (is.1 i))).disk;
        plug_history = (media_of size told (Some (is.1 i))).plug_history;
        lasting = lasts i;
      }
  ended_some operation.Identify a b is = ap (λ (x : Bay S). media_of size told (Some x)) is
  ended_some operation.ReadLog a b is = ap (λ (x : Bay S). media_of size told (Some x)) is
  ended_some operation.Read a b is = ap (λ (x : Bay S). media_of size told (Some x)) is
  ended_some operation.ReadQueued a b is = ap (λ (x : Bay S). media_of size told (Some x)) is
  ended_some operation.Write a b is = ap (λ (x : Bay S). media_of size told (Some x)) is
  ended_some operation.WriteQueued a b is = ap (λ (x : Bay S). media_of size told (Some x)) is
  ended_some operation.Trim a b is = ap (λ (x : Bay S). media_of size told (Some x)) is

  ended_media : (o : Operation) (x bay : Option (Bay S)) → EndsCommandIn o x bay → media_of size told bay ≡ media_after_end (media_of size told x) o
  ended_media o None bay is = ap (media_of size told) is ∙ ended_none o
    where
      ended_none : (o : Operation) → media_of size told None ≡ media_after_end (media_of size told None) o
      ended_none operation.Flush = refl
      ended_none operation.Identify = refl
      ended_none operation.ReadLog = refl
      ended_none operation.Read = refl
      ended_none operation.ReadQueued = refl
      ended_none operation.Write = refl
      ended_none operation.WriteQueued = refl
      ended_none operation.Trim = refl
  ended_media o (Some a) None is = absurd is
  ended_media o (Some a) (Some b) is = ended_some o a b is

module _ {S : Type 0} (size : S → ℕ) (told : S → Option (ℕ → List ℕ)) (failures : S → Option Failures) (m : Model S) (h : Hardware) where
  abbrev new : Model S
  new = record m { hardware = h }

  abbrev behind : AllMedia
  behind = all_media_at size told m

  pub on_hardware : StepKeeps size m new
  on_hardware = record { identities_are_kept = λ _ _. refl; disks_not_last_in_are_kept = λ _ _ _. refl; cache_modes_are_kept = λ _. refl; queue_is_kept = refl; access_count_is_kept = refl }

  -- a step that notes one entry wasn't done
  passed_left : (s : DeviceStep) (possible : Type 0) → (IsPossible s (device_at size told m) → possible) → (possible → IsPossible s (device_at size told m)) →
      ((TapeHasRoom m.hardware 1 → ⊥) → LacksMemory s (device_at size told m) m.hardware m.bays.items) → device_of h behind ≡ device_of m.hardware behind →
      IsImpossibleOrLacksTape m.hardware h possible → IsLeftOut size told failures s m new
  passed_left s possible forth back lacks same (inl never) = record {
    device_is_kept = same;
    held_ports_are = refl;
    page_source_is = refl;
    disk_index_is = refl;
    other_bays_are_kept = λ _ _. refl;
    disks_are_kept = λ _. refl;
    possible_step_lacks_memory = λ _ may. absurd (never.0 (forth may));
    step_keeps = on_hardware;
    stays_starved = λ yes. ap (λ (x : Hardware). x.starved) never.1 ∙ yes;
    starves_for_want = λ yes. inl (sym (ap (λ (x : Hardware). x.starved) never.1) ∙ yes);
  }
  passed_left s possible forth back lacks same (inr missed) = record {
    device_is_kept = same;
    held_ports_are = refl;
    page_source_is = refl;
    disk_index_is = refl;
    other_bays_are_kept = λ _ _. refl;
    disks_are_kept = λ _. refl;
    possible_step_lacks_memory = λ _ may. (lacks missed.1, missed.2);
    step_keeps = on_hardware;
    stays_starved = λ _. missed.2;
    starves_for_want = λ _. inr (back missed.0, lacks missed.1);
  }

  -- nothing was taken, and nothing failed
  fetch_left : (p : Port) (s : Slot) → p.0 < 4 → s.0 < 32 → ((g : Meaning) (places : List ℕ) → Can (Fetch p.0 s.0 g places) (device_of m.hardware behind) → ⊥) →
      device_of h behind ≡ device_of m.hardware behind → IsImpossibleOrLacksTape m.hardware h (Can (FetchFault p.0 s.0 false 0) (device_of m.hardware behind)) →
      IsLeftOut size told failures (asked.Fetch p s) m new
  fetch_left p s port slot only same (inl never) = record {
    device_is_kept = same;
    held_ports_are = refl;
    page_source_is = refl;
    disk_index_is = refl;
    other_bays_are_kept = λ _ _. refl;
    disks_are_kept = λ _. refl;
    possible_step_lacks_memory = λ _ may. absurd (none may.2);
    step_keeps = on_hardware;
    stays_starved = λ yes. ap (λ (x : Hardware). x.starved) never.1 ∙ yes;
    starves_for_want = λ yes. inl (sym (ap (λ (x : Hardware). x.starved) never.1) ∙ yes);
  }
    where
      none : MayBeFetchedOrAborted (device_of m.hardware behind) p.0 s.0 → ⊥
      none (inl may) = only may.0 may.1 may.2
      none (inr may) = never.0 may
  fetch_left p s port slot only same (inr missed) = record {
    device_is_kept = same;
    held_ports_are = refl;
    page_source_is = refl;
    disk_index_is = refl;
    other_bays_are_kept = λ _ _. refl;
    disks_are_kept = λ _. refl;
    possible_step_lacks_memory = λ _ _. ((missed.0, missed.1), missed.2);
    step_keeps = on_hardware;
    stays_starved = λ _. missed.2;
    starves_for_want = λ _. inr ((port, slot, inr missed.0), (missed.0, missed.1));
  }

  -- a command was taken
  pub fetch_answers : (p : Port) (s : Slot) → p.0 < 4 → s.0 < 32 → (f : DoesFetch p.0 s.0 (device_of m.hardware behind) (device_of h behind)) →
      h.tape ≡ m.hardware.tape → h.starved ≡ m.hardware.starved → AnswersStep size told failures (asked.Fetch p s) true m new
  fetch_answers p s port slot f tape starved = (
    (port, slot, inl (f.meaning, f.places, f.can)),
    record {
      completes_or_fails = inl (record { does_asked_step = f; no_call_failed = λ _ _ _. refl; page_source_is = refl; clear_and_finish_do_all_below_4_gib = λ _. tt; lose_plug_loses_cache = λ yes. true-false yes refl });
      held_ports_are = refl;
      disk_index_is = refl;
      other_bays_are_kept = λ _ _. refl;
      gains_own_pages = gains_none size m new (ap (λ (v : Vec Entry). v.items) tape);
      disks_are_kept = λ _ _. refl;
      step_keeps = on_hardware;
      starved_is_kept = starved;
    },
  )

  -- or what is issued means none, and it failed for that; or neither
  pub senseless_answers : (p : Port) (s : Slot) (did : Bool) → p.0 < 4 → s.0 < 32 →
      ((g : Meaning) (places : List ℕ) → Can (Fetch p.0 s.0 g places) (device_of m.hardware behind) → ⊥) →
      (did ≡ true → Can (FetchFault p.0 s.0 false 0) (device_of m.hardware behind) × SendsFault false p.0 (device_after (FetchFault p.0 s.0 false 0) (device_of m.hardware behind)) (device_of h behind)) →
      (did ≡ false → device_of h behind ≡ device_of m.hardware behind) → (did ≡ false → IsImpossibleOrLacksTape m.hardware h (Can (FetchFault p.0 s.0 false 0) (device_of m.hardware behind))) →
      (did ≡ true → h.starved ≡ m.hardware.starved) → AnswersStep size told failures (asked.Fetch p s) did m new
  senseless_answers p s true port slot only done same passed starved =
      let d = done refl in (
        (port, slot, inr d.0),
        record {
          completes_or_fails = inr (record { can = d.0; sends = d.1; failures_are_kept = refl; page_source_after_is = refl });
          held_ports_are = refl;
          disk_index_is = refl;
          other_bays_are_kept = λ _ _. refl;
          gains_own_pages = gains_one size m new (fault_entry p.0 s.0 4 0) (ap (λ (x : Device). x.tape) (fault_rest false p.0 (device_after (FetchFault p.0 s.0 false 0) (device_of m.hardware behind)) (device_of h behind) d.1)) (λ x e. absurd (cc e));
          disks_are_kept = λ _ _. refl;
          step_keeps = on_hardware;
          starved_is_kept = starved refl;
        },
      )
  senseless_answers p s false port slot only done same passed starved =
      fetch_left p s port slot only (same refl) (passed refl)

  -- a command ended
  pub done_answers : (p : Port) (s : Slot) (o : Operation) (bays : Vec (Option (Bay S))) → p.0 < 4 → s.0 < 32 →
      EndsAndPosts (SendsEnd s.0) p.0 s.0 (device_of m.hardware behind) (device_of h (all_media_after_end behind p.0 o)) →
      h.starved ≡ m.hardware.starved → OnlyEndsCommand o p.0 m.bays.items bays.items → AnswersStep size told failures (asked.Done p s) true m (record new { bays = bays })
  done_answers p s o bays port slot d starved (bay, is, only) =
      let last : Model S = record new { bays = bays } in
      let ended = ended_put o (bay_of m p.0) bay is in
      let put : Bay S → Bay S = ended.0 in
      let items : bays.items ≡ slice_set m.bays.items p.0 (option_map put (bay_of m p.0)) = only ∙ ap (λ x. slice_set m.bays.items p.0 x) ended.1 in
      let rest : (b : Bay S) → bay_of m p.0 ≡ Some b → (put b ≡ record b { lasting = (put b).lasting; cache = (put b).cache }) × ((put b).cache.is_on ≡ b.cache.is_on) =
      λ b e. ended_rest size told o b (put b) (ended.2 b e) in
      let behind_then : all_media_at size told last ≡ all_media_after_end behind p.0 o =
      put_outside put m last p.0 items size told (λ x. media_after_end x o) (λ b e. ap (λ (x : Bay S). tells told (Some x)) (rest b e).0)
      (ap (media_of size told) (sym ended.1) ∙ ended_media size told o (bay_of m p.0) bay is) in
      let P : AllMedia → Type 0 = λ x. EndsAndPosts (SendsEnd s.0) p.0 s.0 (device_of m.hardware behind) (device_of h x) in (
        (port, slot, d.done.cause_bit, d.done.fetched_command, d.done.can),
        record {
          completes_or_fails = inl (record {
            does_asked_step = subst P (sym behind_then) d;
            no_call_failed = λ _ q w. put_same put m last p.0 items (λ x. option_map (λ (y : ModelDisk S). failures y.store) (option_map (λ (y : Bay S). disk_in_bay y w) x))
                (λ b e. ap (λ (x : Bay S). Some (failures (disk_in_bay x w).store)) (rest b e).0) q;
            page_source_is = put_same put m last p.0 items (option_map (λ (y : Bay S). y.page_source)) (λ b e. ap (λ (x : Bay S). Some x.page_source) (rest b e).0) p.0;
            clear_and_finish_do_all_below_4_gib = λ _. tt;
            lose_plug_loses_cache = λ yes. true-false yes refl;
          });
          held_ports_are = refl;
          disk_index_is = put_same put m last p.0 items (option_map (λ (y : Bay S). y.which)) (λ b e. ap (λ (x : Bay S). Some x.which) (rest b e).0) p.0;
          other_bays_are_kept = put_others put m last p.0 items;
          gains_own_pages = gains_done size behind (all_media_after_end behind p.0 o) p.0 s.0 m last d;
          disks_are_kept = λ _ w. put_same put m last p.0 items (option_map (λ (y : Bay S). disk_in_bay y w)) (λ b e. ap (λ (x : Bay S). Some (disk_in_bay x w)) (rest b e).0) p.0;
          step_keeps = put_keeps put m last p.0 items size (λ b e w. ap (λ (x : Bay S). disk_in_bay x w) (rest b e).0) (λ b e. (rest b e).1) refl refl;
          starved_is_kept = starved;
        },
      )

  -- none did
  pub done_left : (p : Port) (s : Slot) → p.0 < 4 → s.0 < 32 → device_of h behind ≡ device_of m.hardware behind →
      IsImpossibleOrLacksTape m.hardware h ((flag : ℕ) × (t : FetchedCommand) × Can (Done p.0 s.0 flag t) (device_of m.hardware behind)) → AnswersStep size told failures (asked.Done p s) false m new
  done_left p s port slot same passed =
      passed_left (asked.Done p s) ((flag : ℕ) × (t : FetchedCommand) × Can (Done p.0 s.0 flag t) (device_of m.hardware behind)) (λ may. (may.2, may.3, may.4))
      (λ may. (port, slot, may.0, may.1, may.2)) (λ none. none) same passed

  -- a command that is taken fails: in the model the log names it, if it is queued
  module _ (step : DeviceStep) (s : Slot) (error kept : ℕ) (may : IsPossible step (device_at size told m))
      (f : FailsAndPosts SendsFaultOfOperation (asked_port step) s.0 error kept (device_of m.hardware behind) (device_of h behind)) (starved : h.starved ≡ m.hardware.starved)
      (done : (old last : Device) → FailsAndPosts SendsFaultOfOperation (asked_port step) s.0 error kept old last → DoesAskedStep (SendsFisOfAskedEndOrFault step) step old last)
      (ends : (old last : Device) → EndsIfFinishAndClearsRunIfClear step old last)
      (safe : is_cache_loss step ≡ false)
      (tells : (said : Option PageSource) → page_source_after step (device_at size told m) said ≡ page_source_after_failure (((device_at size told m).port (asked_port step)).taken s.0) s.0 error said)
      (held : m.held ≡ held_after step m.held) (which : disk_index_of m (asked_port step) ≡ disk_index_after step (disk_index_of m (asked_port step))) where
    abbrev at : ℕ
    at = asked_port step

    abbrev name : PageSource → PageSource
    name = with_logged_error (record { tag = s.0; error = error })

    noted : h.tape.items ≡ m.hardware.tape.items ++ fault_entry at s.0 error kept ∷ []
    noted = ap (λ (x : Device). x.tape) (fault_rest (is_queued f.fault.fetched_command.meaning.operation) at f.after_failure (device_of h behind) f.posts) ∙ ap (λ (x : Device). x.tape) f.fault.effect

    said : (queued : Bool) → is_queued f.fault.fetched_command.meaning.operation ≡ queued →
        (if queued then option_map name (page_source_of m at) else page_source_of m at) ≡ page_source_after step (device_at size told m) (page_source_of m at)
    said queued e =
        ap (λ (b : Bool). if b then option_map name (page_source_of m at) else page_source_of m at) (sym e)
        ∙ (ap (λ (t : Option FetchedCommand). page_source_after_failure t s.0 error (page_source_of m at)) (sym f.fault.can.taken) ∙ sym (tells (page_source_of m at)))

    plain_fails : is_queued f.fault.fetched_command.meaning.operation ≡ false → AnswersStep size told failures step true m new
    plain_fails plain = (
      may,
      record {
        completes_or_fails = inl (record { does_asked_step = done _ _ f; no_call_failed = λ _ _ _. refl; page_source_is = said false plain; clear_and_finish_do_all_below_4_gib = λ _. ends _ _; lose_plug_loses_cache = λ yes. true-false yes safe });
        held_ports_are = held;
        disk_index_is = which;
        other_bays_are_kept = λ _ _. refl;
        gains_own_pages = gains_one size m new (fault_entry at s.0 error kept) noted (λ x e. absurd (cc e));
        disks_are_kept = λ _ _. refl;
        step_keeps = on_hardware;
        starved_is_kept = starved;
      },
    )

    queued_fails : (bays : Vec (Option (Bay S))) → OnlyChangesPageSource name at m.bays.items bays.items → is_queued f.fault.fetched_command.meaning.operation ≡ true →
        AnswersStep size told failures step true m (record new { bays = bays })
    queued_fails bays only queued =
        let last : Model S = record new { bays = bays } in
        let P : AllMedia → Type 0 = λ o. FailsAndPosts SendsFaultOfOperation at s.0 error kept (device_of m.hardware behind) (device_of h o) in (
          may,
          record {
            completes_or_fails = inl (record {
              does_asked_step = done _ _ (subst P (sym (saying_outside name m last at only size told)) f);
              no_call_failed = λ _ q w. saying_same name m last at only (λ x. option_map (λ (y : ModelDisk S). failures y.store) (option_map (λ (y : Bay S). disk_in_bay y w) x)) (λ b. refl) q;
              page_source_is = saying_here name m last at only ∙ said true queued;
              clear_and_finish_do_all_below_4_gib = λ _. ends _ _;
              lose_plug_loses_cache = λ yes. true-false yes safe;
            });
            held_ports_are = held;
            disk_index_is = saying_same name m last at only (option_map (λ (y : Bay S). y.which)) (λ b. refl) at ∙ which;
            other_bays_are_kept = saying_others name m last at only;
            gains_own_pages = gains_one size m last (fault_entry at s.0 error kept) noted (λ x e. absurd (cc e));
            disks_are_kept = λ _ w. saying_same name m last at only (option_map (λ (y : Bay S). disk_in_bay y w)) (λ b. refl) at;
            step_keeps = saying_keeps name m last at only size refl refl;
            starved_is_kept = starved;
          },
        )

  -- the one or the other: its disk is left busy, or not
  pub plain_answers : (busy : Bool) (p : Port) (s : Slot) (error : ℕ) → p.0 < 4 → s.0 < 32 →
      (f : FailsAndPosts SendsFaultOfOperation p.0 s.0 error (bsy_if_disk_left_busy busy) (device_of m.hardware behind) (device_of h behind)) → h.starved ≡ m.hardware.starved →
      is_queued f.fault.fetched_command.meaning.operation ≡ false → AnswersStep size told failures (asked_fault busy p s error) true m new
  plain_answers false p s error port slot f starved plain =
      plain_fails (asked.Fault p s error) s error 0 (port, slot, f.fault.fetched_command, f.fault.can) f starved (λ _ _ g. g) (λ _ _. tt) refl (λ _. refl) refl refl plain
  plain_answers true p s error port slot f starved plain =
      plain_fails (asked.FaultBusy p s error) s error busy_bit (port, slot, f.fault.fetched_command, f.fault.can) f starved (λ _ _ g. g) (λ _ _. tt) refl (λ _. refl) refl refl plain

  pub queued_answers : (busy : Bool) (p : Port) (s : Slot) (error : ℕ) → p.0 < 4 → s.0 < 32 →
      (f : FailsAndPosts SendsFaultOfOperation p.0 s.0 error (bsy_if_disk_left_busy busy) (device_of m.hardware behind) (device_of h behind)) → h.starved ≡ m.hardware.starved →
      (bays : Vec (Option (Bay S))) → OnlyChangesPageSource (with_logged_error (record { tag = s.0; error = error })) p.0 m.bays.items bays.items →
      is_queued f.fault.fetched_command.meaning.operation ≡ true → AnswersStep size told failures (asked_fault busy p s error) true m (record new { bays = bays })
  queued_answers false p s error port slot f starved bays only queued =
      queued_fails (asked.Fault p s error) s error 0 (port, slot, f.fault.fetched_command, f.fault.can) f starved (λ _ _ g. g) (λ _ _. tt) refl (λ _. refl) refl refl bays only queued
  queued_answers true p s error port slot f starved bays only queued =
      queued_fails (asked.FaultBusy p s error) s error busy_bit (port, slot, f.fault.fetched_command, f.fault.can) f starved (λ _ _ g. g) (λ _ _. tt) refl (λ _. refl) refl refl bays only queued

  -- none did
  pub fail_left : (busy : Bool) (p : Port) (s : Slot) (error : ℕ) → p.0 < 4 → s.0 < 32 → device_of h behind ≡ device_of m.hardware behind →
      IsImpossibleOrLacksTape m.hardware h ((t : FetchedCommand) × Can (Fault p.0 s.0 error (bsy_if_disk_left_busy busy) t) (device_of m.hardware behind)) →
      AnswersStep size told failures (asked_fault busy p s error) false m new
  fail_left false p s error port slot same passed =
      passed_left (asked.Fault p s error) ((t : FetchedCommand) × Can (Fault p.0 s.0 error 0 t) (device_of m.hardware behind)) (λ may. (may.2, may.3))
      (λ may. (port, slot, may.0, may.1)) (λ none. none) same passed
  fail_left true p s error port slot same passed =
      passed_left (asked.FaultBusy p s error) ((t : FetchedCommand) × Can (Fault p.0 s.0 error busy_bit t) (device_of m.hardware behind)) (λ may. (may.2, may.3))
      (λ may. (port, slot, may.0, may.1)) (λ none. none) same passed

  -- what the device may write as it wants is filled, or the port receives no FISes
  pub scribble_answers : (p : Port) (byte : ℕ) (did : Bool) → p.0 < 4 → (did ≡ true → DoesScribble p.0 byte (device_of m.hardware behind) (device_of h behind)) →
      (did ≡ false → ((device_of m.hardware behind).port p.0).fre ≡ true → ⊥) → (did ≡ false → h ≡ m.hardware) → h ≡ record m.hardware { memory = h.memory } →
      AnswersStep size told failures (asked.Scribble p byte) did m new
  scribble_answers p byte true port done never same rest =
      let d = done refl in (
        (port, d.receives),
        record {
          completes_or_fails = inl (record { does_asked_step = d; no_call_failed = λ _ _ _. refl; page_source_is = refl; clear_and_finish_do_all_below_4_gib = λ _. tt; lose_plug_loses_cache = λ yes. true-false yes refl });
          held_ports_are = refl;
          disk_index_is = refl;
          other_bays_are_kept = λ _ _. refl;
          gains_own_pages = gains_none size m new (ap (λ (x : Hardware). x.tape.items) rest);
          disks_are_kept = λ _ _. refl;
          step_keeps = on_hardware;
          starved_is_kept = ap (λ (x : Hardware). x.starved) rest;
        },
      )
  scribble_answers p byte false port done never same rest =
      subst (λ (x : Hardware). IsLeftOut size told failures (asked.Scribble p byte) m (record m { hardware = x })) (sym (same refl))
      (left_same size told failures (asked.Scribble p byte) m (λ may. never refl may.1))

  -- a step that notes one entry, which is no move, and changes nothing of the model but the device, was done, or wasn't
  noted_answers : (s : DeviceStep) (did : Bool) (possible : Type 0) (note : Entry) → ((x : Move) → note ≡ entry.Move x → ⊥) →
      (IsPossible s (device_at size told m) → possible) → (possible → IsPossible s (device_at size told m)) →
      ((TapeHasRoom m.hardware 1 → ⊥) → LacksMemory s (device_at size told m) m.hardware m.bays.items) → page_source_of m (asked_port s) ≡ page_source_after s (device_at size told m) (page_source_of m (asked_port s)) →
      m.held ≡ held_after s m.held → disk_index_of m (asked_port s) ≡ disk_index_after s (disk_index_of m (asked_port s)) → EndsIfFinishAndClearsRunIfClear s (device_of m.hardware behind) (device_of h behind) →
      is_cache_loss s ≡ false →
      (did ≡ true → possible × DoesAskedStep (SendsFisOfAskedEndOrFault s) s (device_of m.hardware behind) (device_of h behind) × (h.tape.items ≡ m.hardware.tape.items ++ note ∷ [])) →
      (did ≡ false → device_of h behind ≡ device_of m.hardware behind) → (did ≡ false → IsImpossibleOrLacksTape m.hardware h possible) →
      (did ≡ true → h.starved ≡ m.hardware.starved) → AnswersStep size told failures s did m new
  noted_answers s true possible note no_move forth back lacks says held which ends safe done same passed starved =
      let d = done refl in (
        back d.0,
        record {
          completes_or_fails = inl (record { does_asked_step = d.1; no_call_failed = λ _ _ _. refl; page_source_is = says; clear_and_finish_do_all_below_4_gib = λ _. ends; lose_plug_loses_cache = λ yes. true-false yes safe });
          held_ports_are = held;
          disk_index_is = which;
          other_bays_are_kept = λ _ _. refl;
          gains_own_pages = gains_one size m new note d.2 (λ x e. absurd (no_move x e));
          disks_are_kept = λ _ _. refl;
          step_keeps = on_hardware;
          starved_is_kept = starved refl;
        },
      )
  noted_answers s false possible note no_move forth back lacks says held which ends safe done same passed starved =
      passed_left s possible forth back lacks (same refl) (passed refl)

  pub fatal_answers : (p : Port) (error : FatalError) (did : Bool) → p.0 < 4 → (did ≡ true → DoesFatal p.0 error (device_of m.hardware behind) (device_of h behind)) →
      (did ≡ false → device_of h behind ≡ device_of m.hardware behind) →
      (did ≡ false → IsImpossibleOrLacksTape m.hardware h (Can (Fatal p.0 (fatal_bit error)) (device_of m.hardware behind))) →
      (did ≡ true → h.starved ≡ m.hardware.starved) → AnswersStep size told failures (asked.Fatal p error) did m new
  fatal_answers p error did port done same passed starved =
      noted_answers (asked.Fatal p error) did (Can (Fatal p.0 (fatal_bit error)) (device_of m.hardware behind)) (entry.Fatal p) (λ x e. absurd (cc e))
      (λ may. may.1) (λ may. (port, may)) (λ none. none) refl refl refl tt refl
      (λ e. let d = done e in (d.can, d, ap (λ (x : Device). x.tape) d.effect)) same passed starved

  pub unplug_answers : (p : Port) (did : Bool) → p.0 < 4 →
      (did ≡ true → Can (Unplug p.0) (device_of m.hardware behind) × (device_of h behind ≡ device_after (Unplug p.0) (device_of m.hardware behind))) →
      (did ≡ false → device_of h behind ≡ device_of m.hardware behind) → (did ≡ false → IsImpossibleOrLacksTape m.hardware h (Can (Unplug p.0) (device_of m.hardware behind))) →
      (did ≡ true → h.starved ≡ m.hardware.starved) → AnswersStep size told failures (asked.Unplug p) did m new
  unplug_answers p did port done same passed starved =
      noted_answers (asked.Unplug p) did (Can (Unplug p.0) (device_of m.hardware behind)) (entry.Unplug p) (λ x e. absurd (cc e))
      (λ may. may.1) (λ may. (port, may)) (λ none. none) refl refl refl tt refl
      (λ e. let d = done e in (d.0, record { can = d.0; effect = d.1 }, ap (λ (x : Device). x.tape) d.1)) same passed starved

-- ---- what the disks of a port say is another

module _ {S : Type 0} (size : S → ℕ) (told : S → Option (ℕ → List ℕ)) (failures : S → Option Failures) (m : Model S) (s : DeviceStep) (name : PageSource → PageSource)
    (bays : Vec (Option (Bay S))) (only : OnlyChangesPageSource name (asked_port s) m.bays.items bays.items) where
  abbrev lied : Model S
  lied = record m { bays = bays }

  -- a step that asks for nothing else is done
  pub lie_answers : IsPossible s (device_at size told m) → ((old new : Device) → new ≡ old → DoesAskedStep (SendsFisOfAskedEndOrFault s) s old new) → ((old new : Device) → EndsIfFinishAndClearsRunIfClear s old new) →
      is_cache_loss s ≡ false →
      option_map name (page_source_of m (asked_port s)) ≡ page_source_after s (device_at size told m) (page_source_of m (asked_port s)) → m.held ≡ held_after s m.held →
      disk_index_of m (asked_port s) ≡ disk_index_after s (disk_index_of m (asked_port s)) → AnswersStep size told failures s true m lied
  lie_answers may done ends safe says held which =
      let port : ℕ = asked_port s in (
        may,
        record {
          completes_or_fails = inl (record {
            does_asked_step = done _ _ (ap (λ (o : AllMedia). device_of m.hardware o) (saying_outside name m lied port only size told));
            no_call_failed = λ _ q w. saying_same name m lied port only (λ x. option_map (λ (y : ModelDisk S). failures y.store) (option_map (λ (y : Bay S). disk_in_bay y w) x)) (λ b. refl) q;
            page_source_is = saying_here name m lied port only ∙ says;
            clear_and_finish_do_all_below_4_gib = λ _. ends _ _;
            lose_plug_loses_cache = λ yes. true-false yes safe;
          });
          held_ports_are = held;
          disk_index_is = saying_same name m lied port only (option_map (λ (y : Bay S). y.which)) (λ b. refl) port ∙ which;
          other_bays_are_kept = saying_others name m lied port only;
          gains_own_pages = gains_none size m lied refl;
          disks_are_kept = λ _ w. saying_same name m lied port only (option_map (λ (y : Bay S). disk_in_bay y w)) (λ b. refl) port;
          step_keeps = saying_keeps name m lied port only size refl refl;
          starved_is_kept = refl;
        },
      )
