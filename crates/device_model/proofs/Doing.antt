-- What a model makes of a step that it is told.
use Rattle.std.proofs.Common.{ℕ, Bool, true, false, ◌≡◌, ◌≢◌, ◌<◌, ◌≤◌, ◌^◌, ◌⊎◌, ◌∙◌, List, Option, Some, ⊎_elim, refl, sym, ap, subst, inl, inr, arith}
use Rattle.std.specs.Prelude.{option_map}
use Rattle.adapter.specs.AskedSteps.{FailsAndPosts, DoesAtLeastOneSlotStep}
use Rattle.adapter.specs.declared.access.DeviceStep.TheVariants as asked
use Rattle.ata_types.specs.declared.Port.{Port}
use Rattle.ata_types.specs.declared.Slot.{Slot}
use Rattle.adapter.specs.Device.{Device, FetchedCommand}
use Rattle.adapter.specs.declared.access.DeviceStep.{DeviceStep}
use Rattle.adapter.proofs.Going.{asked_steps, goes_next}
use Rattle.adapter.proofs.Runs.{Steps-refl}
use Rattle.adapter.specs.Steps.{Can, Steps}
use Rattle.adapter.specs.Steps.DeviceTransition.{Fault}
use Rattle.sector_store.specs.declared.store.Failures.{Failures}
use Rattle.device_model.specs.StepEffects.{AnswersStep, MayAskStore, ClearsFewerSectorsThan, Completes, DidStep, FailsToClear, FailsToMove, OwnStepsKeep, CommandOfStepFails, IsLeftOut, LacksMemory, MemoryIs4GibAtMostIfMoveOrTakenFinish, NoCallFailed, StepKeeps, IsPossible, asked_port, page_source_after_failure}
use Rattle.device_model.specs.Disks.{bay_of, port_has_cache, disk_in_bay, numbered_disk, disk_failures, identity_of, page_source_of, disk_index_of}
use Rattle.device_model.specs.ModelState.{device_at}
use Rattle.device_model.specs.DiskPages.{GainsOwnPages}
use Rattle.device_model.proofs.TwoDisks.{each_port, failures_kept, identity_kept}
use Rattle.device_model.specs.SentFises.{SendsEnd, SendsFaultOfOperation}
use Rattle.device_model.proofs.Posting.{did_may}
use Rattle.device_model.proofs.Absurd.{some_one, true-false}
use Rattle.device_model.specs.Finishing.{TapeHasRoom}
use Rattle.device_model.proofs.Telling.{gains_none, gains_on}
use Rattle.device_model.specs.declared.bay.Bay.{Bay}
use Rattle.device_model.specs.declared.disks.ModelDisk.{ModelDisk}
use Rattle.device_model.specs.declared.disks.DiskIndex.{DiskIndex}
use Rattle.device_model.specs.declared.model.Model.{Model}
use Rattle.device_model.specs.declared.model.QueuedStep.{QueuedStep}
use Rattle.std.specs.Global.{Vec}

-- what stays while a command of a port goes on
pub record Meanwhile {S : Type 0} (size : S → ℕ) (port : ℕ) (old new : Model S) : Type 0 where
  pub held : new.held ≡ old.held
  pub says : page_source_of new port ≡ page_source_of old port
  pub which : disk_index_of new port ≡ disk_index_of old port
  pub others : (q : ℕ) → q ≢ port → bay_of new q ≡ bay_of old q
  pub pages : GainsOwnPages size old new
  pub keeps : StepKeeps size old new
  pub starved : new.hardware.starved ≡ old.hardware.starved

-- where the one is as the other was, and never ceases to be, they are one
pub same_flag : (a b : Bool) → (a ≡ true → b ≡ true) → (b ≡ true → a ≡ true) → b ≡ a
same_flag true b forth back = forth refl
same_flag false true forth back = sym (back refl)
same_flag false false forth back = refl

module _ {S : Type 0} (size : S → ℕ) (told : S → Option (ℕ → List ℕ)) (failures : S → Option Failures) where
  pub keeps_same : (m : Model S) → StepKeeps size m m
  keeps_same m = record { identities_are_kept = λ _ _. refl; disks_not_last_in_are_kept = λ _ _ _. refl; cache_modes_are_kept = λ _. refl; queue_is_kept = refl; access_count_is_kept = refl }

  pub keeps_on : (a b c : Model S) → ((q : ℕ) → disk_index_of b q ≡ disk_index_of a q) → StepKeeps size a b → StepKeeps size b c → StepKeeps size a c
  keeps_on a b c same first then = record {
    disks_not_last_in_are_kept = λ q w ne. then.disks_not_last_in_are_kept q w (λ is. ne (sym (same q) ∙ is)) ∙ first.disks_not_last_in_are_kept q w ne;
    identities_are_kept = λ q w. then.identities_are_kept q w ∙ first.identities_are_kept q w;
    cache_modes_are_kept = λ q. then.cache_modes_are_kept q ∙ first.cache_modes_are_kept q;
    queue_is_kept = then.queue_is_kept ∙ first.queue_is_kept;
    access_count_is_kept = then.access_count_is_kept ∙ first.access_count_is_kept;
  }

  -- what is so of the port is so of each, where no other one's disks are others
  pub whichs : (port : ℕ) (a b : Model S) → disk_index_of b port ≡ disk_index_of a port → ((q : ℕ) → q ≢ port → bay_of b q ≡ bay_of a q) → (q : ℕ) → disk_index_of b q ≡ disk_index_of a q
  whichs port a b here others = each_port (option_map (λ (x : Bay S). x.which)) a b port here others

  pub all_say : (port : ℕ) (a b : Model S) → page_source_of b port ≡ page_source_of a port → ((q : ℕ) → q ≢ port → bay_of b q ≡ bay_of a q) → (q : ℕ) → page_source_of b q ≡ page_source_of a q
  all_say port a b here others = each_port (option_map (λ (x : Bay S). x.page_source)) a b port here others

  pub all_identities : (port : ℕ) (a b : Model S) → disk_index_of b port ≡ disk_index_of a port → ((q : ℕ) → q ≢ port → bay_of b q ≡ bay_of a q) → StepKeeps size a b →
      (q : ℕ) → identity_of size b q ≡ identity_of size a q
  all_identities port a b which others keeps q = identity_kept size a b q (whichs port a b which others q) (keeps.identities_are_kept q)

  -- pages that are gained later are as the disks said before
  pub pages_on : (port : ℕ) (a b c : Model S) → page_source_of b port ≡ page_source_of a port → disk_index_of b port ≡ disk_index_of a port → ((q : ℕ) → q ≢ port → bay_of b q ≡ bay_of a q) →
      StepKeeps size a b → GainsOwnPages size a b → GainsOwnPages size b c → GainsOwnPages size a c
  pages_on port a b c says which others keeps first then =
      gains_on size a b c (all_say port a b says others) (all_identities port a b which others keeps) first then

  pub meanwhile_on : (port : ℕ) (a b c : Model S) → Meanwhile size port a b → Meanwhile size port b c → Meanwhile size port a c
  meanwhile_on port a b c first then = record {
    held = then.held ∙ first.held;
    says = then.says ∙ first.says;
    which = then.which ∙ first.which;
    others = λ q ne. then.others q ne ∙ first.others q ne;
    pages = pages_on port a b c first.says first.which first.others first.keeps first.pages then.pages;
    keeps = keeps_on a b c (whichs port a b first.which first.others) first.keeps then.keeps;
    starved = then.starved ∙ first.starved;
  }

  -- a step that isn't possible is left, and nothing is another
  pub left_same : (s : DeviceStep) (m : Model S) → (IsPossible s (device_at size told m) → ⊥) → IsLeftOut size told failures s m m
  left_same s m never = record {
    device_is_kept = refl;
    held_ports_are = refl;
    page_source_is = refl;
    disk_index_is = refl;
    other_bays_are_kept = λ _ _. refl;
    disks_are_kept = λ _. refl;
    possible_step_lacks_memory = λ _ possible. absurd (never possible);
    step_keeps = keeps_same m;
    stays_starved = λ yes. yes;
    starves_for_want = λ yes. inl yes;
  }

  -- a command that ended did so whole
  pub done_whole : (p : Port) (slot : Slot) (old new : Model S) → DidStep size told failures (asked.Done p slot) old new → Completes size told failures (asked.Done p slot) old new
  done_whole p slot old new did = ⊎_elim (λ whole. whole) (λ failed. absurd failed) did.completes_or_fails

  module _ (s : DeviceStep) (old new : Model S) where
    pub did_it : (answer : Bool) → AnswersStep size told failures s answer old new → answer ≡ true → DidStep size told failures s old new
    did_it true a e = a.1
    did_it false a e = absurd (let no : false ≡ true = e in cc)

    pub answered_true : (answer : Bool) → answer ≡ true → IsPossible s (device_at size told old) × DidStep size told failures s old new →
        AnswersStep size told failures s answer old new
    answered_true true e did = did
    answered_true false e did = absurd (let no : false ≡ true = e in cc)

    pub left_it : (answer : Bool) → AnswersStep size told failures s answer old new → answer ≡ false → IsLeftOut size told failures s old new
    left_it true a e = absurd (let no : true ≡ false = e in cc)
    left_it false a e = a

    pub did_or_left_keeps : (answer : Bool) → AnswersStep size told failures s answer old new → StepKeeps size old new
    did_or_left_keeps true a = a.1.step_keeps
    did_or_left_keeps false a = a.step_keeps

    pub answers_steps : (answer : Bool) → AnswersStep size told failures s answer old new → Steps (device_at size told old) (device_at size told new)
    answers_steps true a = asked_steps s _ _ (did_may size told failures s old new a.1)
    answers_steps false a = let P : Device → Type 0 = λ d. Steps (device_at size told old) d in subst P (sym a.device_is_kept) (Steps-refl (device_at size told old))

  -- the same, whatever is queued
  keeps_queued : (old new : Model S) (q : Vec QueuedStep) → StepKeeps size old new → StepKeeps size (record old { queue = q }) (record new { queue = q })
  keeps_queued old new q k = record { disks_not_last_in_are_kept = k.disks_not_last_in_are_kept; identities_are_kept = k.identities_are_kept; cache_modes_are_kept = k.cache_modes_are_kept; queue_is_kept = refl; access_count_is_kept = k.access_count_is_kept }

  pub answers_queued : (s : DeviceStep) (answer : Bool) (old new : Model S) (q : Vec QueuedStep) → AnswersStep size told failures s answer old new →
      AnswersStep size told failures s answer (record old { queue = q }) (record new { queue = q })
  answers_queued s true old new q a = (
    a.0,
    record {
      completes_or_fails = elim a.1.completes_or_fails [
        | inl whole ↦ inl (record { does_asked_step = whole.does_asked_step; no_call_failed = whole.no_call_failed; page_source_is = whole.page_source_is; clear_and_finish_do_all_below_4_gib = whole.clear_and_finish_do_all_below_4_gib; lose_plug_loses_cache = whole.lose_plug_loses_cache })
        | inr failed ↦ inr failed
      ];
      held_ports_are = a.1.held_ports_are;
      disk_index_is = a.1.disk_index_is;
      other_bays_are_kept = a.1.other_bays_are_kept;
      gains_own_pages = record { new_entries = a.1.gains_own_pages.new_entries; tape_grows = a.1.gains_own_pages.tape_grows; pages_are_own = a.1.gains_own_pages.pages_are_own };
      disks_are_kept = a.1.disks_are_kept;
      step_keeps = keeps_queued old new q a.1.step_keeps;
      starved_is_kept = a.1.starved_is_kept;
    },
  )
  answers_queued s false old new q a = record {
    device_is_kept = a.device_is_kept;
    held_ports_are = a.held_ports_are;
    page_source_is = a.page_source_is;
    disk_index_is = a.disk_index_is;
    other_bays_are_kept = a.other_bays_are_kept;
    disks_are_kept = a.disks_are_kept;
    possible_step_lacks_memory = a.possible_step_lacks_memory;
    step_keeps = keeps_queued old new q a.step_keeps;
    stays_starved = a.stays_starved;
    starves_for_want = a.starves_for_want;
  }

  -- A Finish came to a step that was left, for which there was room, and which was possible. So it has no address.
  pub cut_short : (s : DeviceStep) (p : Port) (slot : Slot) (did : Bool) (old mid new : Model S) → IsPossible (asked.Finish p slot) (device_at size told old) →
      (did ≡ true → DoesAtLeastOneSlotStep (SendsEnd slot.0) p.0 slot.0 (device_at size told old) (device_at size told mid)) → (did ≡ false → device_at size told mid ≡ device_at size told old) →
      Meanwhile size p.0 old mid → ((MayAskStore (asked.Finish p slot) (device_at size told old) → ⊥) → (which : DiskIndex) → numbered_disk mid p.0 which ≡ numbered_disk old p.0 which) →
      (did ≡ false → (which : DiskIndex) → numbered_disk mid p.0 which ≡ numbered_disk old p.0 which) → NoCallFailed failures old mid → asked_port s ≡ p.0 → IsLeftOut size told failures s mid new →
      ((device_at size told old).memory_size ≤ 2 ^ 32 → MemoryIs4GibAtMostIfMoveOrTakenFinish s (device_at size told mid)) → IsPossible s (device_at size told mid) →
      (LacksMemory s (device_at size told mid) mid.hardware mid.bays.items → ⊥) → (t : FetchedCommand) → ((device_at size told mid).port p.0).taken slot.0 ≡ Some t →
      AnswersStep size told failures (asked.Finish p slot) did old new
  cut_short s p slot did old mid new may went stayed meanwhile same untouched none at step needs possible room t taken = by did went stayed untouched
    where
      -- what it leaves of its port
      of_port : {X : Type 0} (f : Model S → ℕ → X) → f new (asked_port s) ≡ f mid (asked_port s) → f new p.0 ≡ f mid p.0
      of_port f here = subst (λ q. f new q ≡ f mid q) at here

      others : (q : ℕ) → q ≢ p.0 → bay_of new q ≡ bay_of mid q
      others q ne = step.other_bays_are_kept q (λ is. ne (is ∙ at))

      disks : (q : ℕ) (which : DiskIndex) → numbered_disk new q which ≡ numbered_disk mid q which
      disks q which = each_port (option_map (λ (x : Bay S). disk_in_bay x which)) mid new p.0 (of_port (λ m k. numbered_disk m k which) (step.disks_are_kept which)) others q

      unserved : (device_at size told old).memory_size ≤ 2 ^ 32 → ⊥
      unserved small_enough = room (step.possible_step_lacks_memory (needs small_enough) possible).0

      told_before : new.hardware.starved ≡ true → mid.hardware.starved ≡ true
      told_before now = elim (step.starves_for_want now) [ inl before ↦ before | inr lacks ↦ absurd (room lacks.1) ]

      all : Meanwhile size p.0 old new
      all = meanwhile_on p.0 old mid new meanwhile (record {
        held = step.held_ports_are;
        says = of_port page_source_of step.page_source_is;
        which = of_port disk_index_of step.disk_index_is;
        others = others;
        pages = gains_none size mid new (ap (λ (d : Device). d.tape) step.device_is_kept);
        keeps = step.step_keeps;
        starved = same_flag mid.hardware.starved new.hardware.starved step.stays_starved told_before;
      })

      by : (b : Bool) → (b ≡ true → DoesAtLeastOneSlotStep (SendsEnd slot.0) p.0 slot.0 (device_at size told old) (device_at size told mid)) →
          (b ≡ false → device_at size told mid ≡ device_at size told old) → (b ≡ false → (which : DiskIndex) → numbered_disk mid p.0 which ≡ numbered_disk old p.0 which) →
          AnswersStep size told failures (asked.Finish p slot) b old new
      by true on stays first = (
        may,
        record {
          completes_or_fails = inl (record {
            does_asked_step = subst (λ (d : Device). DoesAtLeastOneSlotStep (SendsEnd slot.0) p.0 slot.0 (device_at size told old) d) (sym step.device_is_kept) (on refl);
            no_call_failed = λ _ q which. ap (option_map (λ (x : ModelDisk S). failures x.store)) (disks q which) ∙ none q which;
            page_source_is = all.says;
            clear_and_finish_do_all_below_4_gib = λ small_enough. absurd (unserved small_enough);
            lose_plug_loses_cache = λ yes. true-false yes refl;
          });
          held_ports_are = all.held;
          disk_index_is = all.which;
          other_bays_are_kept = all.others;
          gains_own_pages = all.pages;
          disks_are_kept = λ never which. disks p.0 which ∙ same never which;
          step_keeps = all.keeps;
          starved_is_kept = all.starved;
        },
      )
      by false on stays first = record {
        device_is_kept = step.device_is_kept ∙ stays refl;
        held_ports_are = all.held;
        page_source_is = all.says;
        disk_index_is = all.which;
        other_bays_are_kept = all.others;
        disks_are_kept = λ which. disks p.0 which ∙ first refl which;
        possible_step_lacks_memory = λ served _.
            let there = ap (λ (d : Device). (d.port p.0).taken slot.0) (sym (stays refl)) ∙ taken in
            absurd (unserved (served t there));
        step_keeps = all.keeps;
        stays_starved = λ yes. all.starved ∙ yes;
        starves_for_want = λ yes. inl (sym all.starved ∙ yes);
      }

  -- what is before a fault of a Finish
  before_it : (p : Port) (slot : Slot) (did : Bool) (old mid : Device) → (did ≡ true → DoesAtLeastOneSlotStep (SendsEnd slot.0) p.0 slot.0 old mid) → (did ≡ false → mid ≡ old) →
      (mid ≡ old) ⊎ DoesAtLeastOneSlotStep (SendsEnd slot.0) p.0 slot.0 old mid
  before_it p slot true old mid went stayed = inr (went refl)
  before_it p slot false old mid went stayed = inl (stayed refl)

  module _ (p : Port) (slot : Slot) (did : Bool) (old mid new : Model S) (may : IsPossible (asked.Finish p slot) (device_at size told old))
      (went : did ≡ true → DoesAtLeastOneSlotStep (SendsEnd slot.0) p.0 slot.0 (device_at size told old) (device_at size told mid))
      (stayed : did ≡ false → device_at size told mid ≡ device_at size told old) (meanwhile : Meanwhile size p.0 old mid)
      (asks : MayAskStore (asked.Finish p slot) (device_at size told old)) (none : NoCallFailed failures old mid) where
    fine : disk_failures failures mid p.0 ≡ disk_failures failures old p.0
    fine = failures_kept failures old mid p.0 meanwhile.which (none p.0)

    -- a Finish came to a sector on which its command failed
    fails_finish : new.held ≡ mid.held → disk_index_of new p.0 ≡ disk_index_of mid p.0 → ((q : ℕ) → q ≢ p.0 → bay_of new q ≡ bay_of mid q) → GainsOwnPages size mid new →
        StepKeeps size mid new → new.hardware.starved ≡ mid.hardware.starved →
        CommandOfStepFails size told failures (asked.Finish p slot) old new → AnswersStep size told failures (asked.Finish p slot) true old new
    fails_finish held which others pages keeps starved failed = (
      may,
      record {
        completes_or_fails = inr failed;
        held_ports_are = held ∙ meanwhile.held;
        disk_index_is = which ∙ meanwhile.which;
        other_bays_are_kept = λ q ne. others q ne ∙ meanwhile.others q ne;
        gains_own_pages = pages_on p.0 old mid new meanwhile.says meanwhile.which meanwhile.others meanwhile.keeps meanwhile.pages pages;
        disks_are_kept = λ never. absurd (never asks);
        step_keeps = keeps_on old mid new (whichs p.0 old mid meanwhile.which meanwhile.others) meanwhile.keeps keeps;
        starved_is_kept = starved ∙ meanwhile.starved;
      },
    )

    pub move_fails : DidStep size told failures (asked.Move p slot) mid new → CommandOfStepFails size told failures (asked.Move p slot) mid new →
        AnswersStep size told failures (asked.Finish p slot) true old new
    move_fails step f =
        fails_finish step.held_ports_are step.disk_index_is step.other_bays_are_kept step.gains_own_pages step.step_keeps step.starved_is_kept (
          device_at size told mid,
          before_it p slot did _ _ went stayed,
          inl (subst (λ on. FailsToMove on p.0 slot.0 (disk_failures failures old p.0) (disk_failures failures new p.0) (page_source_of old p.0) (page_source_of new p.0) (device_at size told mid) (device_at size told new)) (meanwhile.keeps.cache_modes_are_kept p.0)
              (subst (λ was. FailsToMove (port_has_cache mid p.0) p.0 slot.0 was (disk_failures failures new p.0) (page_source_of old p.0) (page_source_of new p.0) (device_at size told mid) (device_at size told new)) fine
              (subst (λ says. FailsToMove (port_has_cache mid p.0) p.0 slot.0 (disk_failures failures mid p.0) (disk_failures failures new p.0) says (page_source_of new p.0) (device_at size told mid) (device_at size told new)) meanwhile.says f))),
        )

    pub clear_fails : (most : ℕ) → DidStep size told failures (asked.Clear p slot most) mid new → CommandOfStepFails size told failures (asked.Clear p slot most) mid new →
        AnswersStep size told failures (asked.Finish p slot) true old new
    clear_fails most step (last, cleared, f) =
        fails_finish step.held_ports_are step.disk_index_is step.other_bays_are_kept step.gains_own_pages step.step_keeps step.starved_is_kept (
          last,
          on cleared,
          inr (subst (λ on. FailsToClear on p.0 slot.0 (disk_failures failures old p.0) (disk_failures failures new p.0) (page_source_of old p.0) (page_source_of new p.0) last (device_at size told new)) (meanwhile.keeps.cache_modes_are_kept p.0)
              (subst (λ was. FailsToClear (port_has_cache mid p.0) p.0 slot.0 was (disk_failures failures new p.0) (page_source_of old p.0) (page_source_of new p.0) last (device_at size told new)) fine
              (subst (λ says. FailsToClear (port_has_cache mid p.0) p.0 slot.0 (disk_failures failures mid p.0) (disk_failures failures new p.0) says (page_source_of new p.0) last (device_at size told new)) meanwhile.says f))),
        )
      where
        on : (last ≡ device_at size told mid) ⊎ ClearsFewerSectorsThan p.0 slot.0 most (device_at size told mid) last →
            (last ≡ device_at size told old) ⊎ DoesAtLeastOneSlotStep (SendsEnd slot.0) p.0 slot.0 (device_at size told old) last
        on (inl same) =
            subst (λ (d : Device). (d ≡ device_at size told old) ⊎ DoesAtLeastOneSlotStep (SendsEnd slot.0) p.0 slot.0 (device_at size told old) d) (sym same)
            (before_it p slot did _ _ went stayed)
        on (inr more) = inr (goes_next (SendsEnd slot.0) p.0 slot.0 _ _ last did went stayed (inr (inr (inr (most, (let few = more.1 in omega (arith, few)), more.0)))))

  -- ---- a command that is taken fails

  -- it is done, where the tape has memory for it
  pub record IsFailed (p : Port) (slot : Slot) (error : ℕ) (t : FetchedCommand) (old new : Model S) : Type 0 where
    pub fails : FailsAndPosts SendsFaultOfOperation p.0 slot.0 error 0 (device_at size told old) (device_at size told new)
    pub same : fails.fault.fetched_command ≡ t
    pub says : page_source_of new p.0 ≡ page_source_after_failure (Some t) slot.0 error (page_source_of old p.0)
    pub held : new.held ≡ old.held
    pub which : disk_index_of new p.0 ≡ disk_index_of old p.0
    pub others : (q : ℕ) → q ≢ p.0 → bay_of new q ≡ bay_of old q
    pub pages : GainsOwnPages size old new
    pub disks : (which : DiskIndex) → numbered_disk new p.0 which ≡ numbered_disk old p.0 which
    pub keeps : StepKeeps size old new
    pub starved : new.hardware.starved ≡ old.hardware.starved

  pub is_failed : (p : Port) (slot : Slot) (error : ℕ) (t : FetchedCommand) (answer : Bool) (old new : Model S) → AnswersStep size told failures (asked.Fault p slot error) answer old new →
      p.0 < 4 → slot.0 < 32 → Can (Fault p.0 slot.0 error 0 t) (device_at size told old) → TapeHasRoom old.hardware 1 → IsFailed p slot error t old new
  is_failed p slot error t true old new a port small can room =
      elim a.1.completes_or_fails [
        | inr never ↦ absurd never
        | inl whole ↦
            let one : whole.does_asked_step.fault.fetched_command ≡ t = some_one (sym whole.does_asked_step.fault.can.taken ∙ can.taken) in
            record {
              fails = whole.does_asked_step;
              same = one;
              says = whole.page_source_is ∙ ap (λ (x : Option FetchedCommand). page_source_after_failure x slot.0 error (page_source_of old p.0)) can.taken;
              held = a.1.held_ports_are;
              which = a.1.disk_index_is;
              others = a.1.other_bays_are_kept;
              pages = a.1.gains_own_pages;
              disks = a.1.disks_are_kept (λ never. never);
              keeps = a.1.step_keeps;
              starved = a.1.starved_is_kept;
            }
      ]
  is_failed p slot error t false old new a port small can room = absurd ((a.possible_step_lacks_memory tt (port, small, t, can)).0 room)

  -- ---- what the model does by itself

  pub goes_so_on : (a b c : Model S) → OwnStepsKeep size a b → OwnStepsKeep size b c → OwnStepsKeep size a c
  goes_so_on a b c first then = record {
    held_ports_are = then.held_ports_are ∙ first.held_ports_are;
    page_source_is = λ q. then.page_source_is q ∙ first.page_source_is q;
    disk_index_is = λ q. then.disk_index_is q ∙ first.disk_index_is q;
    gains_own_pages = gains_on size a b c first.page_source_is (λ q. identity_kept size a b q (first.disk_index_is q) (first.step_keeps.identities_are_kept q)) first.gains_own_pages then.gains_own_pages;
    step_keeps = keeps_on a b c first.disk_index_is first.step_keeps then.step_keeps;
    stays_starved = λ yes. then.stays_starved (first.stays_starved yes);
  }

  pub finish_goes_so : (p : Port) (slot : Slot) (answer : Bool) (old new : Model S) → AnswersStep size told failures (asked.Finish p slot) answer old new →
      (answer ≡ true → page_source_of new p.0 ≡ page_source_of old p.0) → OwnStepsKeep size old new
  finish_goes_so p slot true old new a says = record {
    held_ports_are = a.1.held_ports_are;
    page_source_is = all_say p.0 old new (says refl) a.1.other_bays_are_kept;
    disk_index_is = whichs p.0 old new a.1.disk_index_is a.1.other_bays_are_kept;
    gains_own_pages = a.1.gains_own_pages;
    step_keeps = a.1.step_keeps;
    stays_starved = λ yes. a.1.starved_is_kept ∙ yes;
  }
  finish_goes_so p slot false old new a says = record {
    held_ports_are = a.held_ports_are;
    page_source_is = all_say p.0 old new a.page_source_is a.other_bays_are_kept;
    disk_index_is = whichs p.0 old new a.disk_index_is a.other_bays_are_kept;
    gains_own_pages = gains_none size old new (ap (λ (d : Device). d.tape) a.device_is_kept);
    step_keeps = a.step_keeps;
    stays_starved = a.stays_starved;
  }
