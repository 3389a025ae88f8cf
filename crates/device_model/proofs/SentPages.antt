-- The model goes on by itself with commands that send a page, of one port after another.
use Rattle.std.proofs.Common.{ℕ, Bool, true, false, ◌≡◌, ◌≢◌, ◌<◌, ◌+◌, ◌⊎◌, ◌∙◌, List, Option, None, length, refl, sym, ap, subst, inl, inr, slice_index_or, slice_set, get_or-set_same, get_or-set_other, arith}
use Rattle.std.specs.Prelude.{if◌then◌else◌, is_some}
use Rattle.std.proofs.lemmas.List.{length-set}
use Rattle.std.proofs.lemmas.Bool.Decides.{eqb_tells}
use Rattle.adapter.specs.AskedSteps.{DoesAtLeastOneSlotStep}
use Rattle.adapter.specs.Device.{Device, DevicePort}
use Rattle.adapter.specs.OneCommand.{SlotHasNoCommand}
use Rattle.adapter.specs.declared.access.DeviceStep.TheVariants as asked
use Rattle.ata_types.specs.declared.Port.{Port}
use Rattle.ata_types.specs.declared.Slot.{Slot}
use Rattle.sector_store.specs.declared.store.Failures.{Failures}
use Rattle.device_model.specs.Disks.{numbered_disk, disk_index_of}
use Rattle.device_model.specs.StepEffects.{AnswersStep, Completes, OwnStepsKeep}
use Rattle.device_model.specs.Finishing.{FindsPageCommandAndWhetherItCanEnd, HasFinishablePageCommand, TapeHasRoom, HasTakenCommand, MayTakePageCommand}
use Rattle.device_model.specs.HeldPorts.{IsPortHeld, IsPortReleased}
use Rattle.device_model.specs.ModelState.{device_at}
use Rattle.device_model.specs.PageTaking.{TakesPageCommandUnlessOneIsTaken}
use Rattle.device_model.specs.SentFises.{SendsEnd}
use Rattle.device_model.specs.ModelOwnSteps.{IsSettled, LeadsBySteps, LeavesPageWithoutTapeRoom, PageCommandWaitsOnlyIfHeldOrStarved, SendsPages}
use Rattle.device_model.specs.WholeAdapter.{HasDisks}
use Rattle.device_model.specs.declared.disks.DiskIndex.{DiskIndex}
use Rattle.device_model.specs.declared.model.Model.{Model}
use Rattle.device_model.proofs.Absurd.{true-false}
use Rattle.device_model.proofs.Doing.{did_it, finish_goes_so, goes_so_on, left_it}
use Rattle.device_model.proofs.GoingOn.{gone_settled}
use Rattle.device_model.proofs.Own.{own_gone, own_on}
use Rattle.device_model.proofs.Paging.{IsPage, busy_bars, busy_stays, fewer_left, finish_keeps, gone_apart, has_only, is_page, page_completes, page_stays, total, total_less, weight}
use Rattle.device_model.proofs.TwoDisks.{disks_kept}

still_long : (xs : List Bool) (k : ℕ) → length xs ≡ 4 → length (slice_set xs k true) ≡ 4
still_long xs k long = length-set xs k true ∙ long

weight_same : (old new : Device) (q : ℕ) → new.port q ≡ old.port q → total (weight new q) 32 ≡ total (weight old q) 32
weight_same old new q same =
    ap (λ (p : DevicePort). total (λ k. (if p.ci k then 1 else 0) + (if is_some (p.taken k) then 1 else 0)) 32) same

module _ {S : Type 0} (size : S → ℕ) (told : S → Option (ℕ → List ℕ)) (failures : S → Option Failures) where
  -- one is left, for which the tape has no memory, of a port that is left out; it is taken
  pub record Lacks (left_out : List Bool) (m : Model S) : Type 0 where
    pub port : ℕ
    pub slot : ℕ
    pub small : port < 4
    pub low : slot < 32
    pub out : IsPortHeld left_out port
    pub disks : HasDisks (device_at size told m) port
    pub busy : HasTakenCommand (device_at size told m) port
    pub has : HasFinishablePageCommand (device_at size told m) port slot
    pub lacks : TapeHasRoom m.hardware (has.moves_left + 1) → ⊥

  -- a port on which nothing more goes on by itself: a command is taken, and one that can be done to its end lacks memory
  abbrev pub Waits : Model S → ℕ → Type 0
  Waits m q = HasTakenCommand (device_at size told m) q × ((k : ℕ) → HasFinishablePageCommand (device_at size told m) q k → m.hardware.starved ≡ true)

  -- So far it came: these ports are left out, each since it is held, or waits; and the tape has lacked memory, or not.
  pub record IsSoFar (first m : Model S) (left_out : List Bool) (lacks : Bool) : Type 0 where
    pub own : LeadsBySteps (SendsPages first.held) (device_at size told first) (device_at size told m)
    pub settled : (held : List Bool) → IsSettled held (device_at size told first) → IsSettled held (device_at size told m)
    pub rest : OwnStepsKeep size first m
    pub disks : (q : ℕ) (w : DiskIndex) → numbered_disk m q w ≡ numbered_disk first q w
    pub long : length left_out ≡ 4
    pub out : (q : ℕ) → IsPortHeld left_out q → IsPortHeld first.held q ⊎ Waits m q
    pub loose : (q : ℕ) → IsPortReleased left_out q → IsPortReleased first.held q
    pub fed : lacks ≡ false → m.hardware.starved ≡ first.hardware.starved
    pub lacking : lacks ≡ true → (m.hardware.starved ≡ true) × Lacks left_out m

  -- what goes on on one port leaves another one waiting
  waits_on : (old new : Model S) (q : ℕ) → (device_at size told new).port q ≡ (device_at size told old).port q → (device_at size told new).memory_size ≡ (device_at size told old).memory_size →
      (old.hardware.starved ≡ true → new.hardware.starved ≡ true) → Waits old q → Waits new q
  waits_on old new q same large on waits =
      let busy = busy_stays (device_at size told old) (device_at size told new) q same waits.0 in (
        busy,
        λ k has. on (waits.1 k (page_stays (device_at size told new) (device_at size told old) q k (sym same) (sym large) busy has).0),
      )

  -- and one that lacks memory lacking it, where no more is found
  lacks_on : (old new : Model S) (left_out out_then : List Bool) (p : ℕ) → IsPortReleased left_out p → ((q : ℕ) → q ≢ p → IsPortHeld left_out q → IsPortHeld out_then q) →
      ((q : ℕ) → q ≢ p → (device_at size told new).port q ≡ (device_at size told old).port q) → (device_at size told new).memory_size ≡ (device_at size told old).memory_size →
      ((q : ℕ) → disk_index_of new q ≡ disk_index_of old q) → ((n : ℕ) → TapeHasRoom new.hardware n → TapeHasRoom old.hardware n) → Lacks left_out old → Lacks out_then new
  lacks_on old new left_out out_then p loose on others large which room one =
      let apart : one.port ≢ p = λ (same : one.port ≡ p). true-false one.out (subst (IsPortReleased left_out) (sym same) loose) in
      let same = others one.port apart in
      let now = page_stays (device_at size told old) (device_at size told new) one.port one.slot same large one.busy one.has in
      record {
        port = one.port;
        slot = one.slot;
        small = one.small;
        low = one.low;
        out = on one.port apart one.out;
        disks = disks_kept size told old new one.port (which one.port) one.disks;
        busy = busy_stays (device_at size told old) (device_at size told new) one.port same one.busy;
        has = now.0;
        lacks = λ some. one.lacks (room _ (let R : ℕ → Type 0 = λ n. TapeHasRoom new.hardware (n + 1) in subst R now.1 some));
      }

  module _ (first m : Model S) (left_out : List Bool) (lacks : Bool) (is : IsSoFar first m left_out lacks) (p : Port) (s : Slot) (small : p.0 < 4) (low : s.0 < 32)
      (loose : IsPortReleased left_out p.0) (disks : HasDisks (device_at size told m) p.0) where
    abbrev old_device : Device
    old_device = device_at size told m

    apart_of : (q : ℕ) → IsPortHeld left_out q → q ≢ p.0
    apart_of q held = λ same. true-false held (subst (IsPortReleased left_out) (sym same) loose)

    -- the port is left out from then on, and waits
    out_then : (new : Model S) → HasTakenCommand (device_at size told new) p.0 → ((k : ℕ) → HasFinishablePageCommand (device_at size told new) p.0 k → new.hardware.starved ≡ true) →
        ((q : ℕ) → q ≢ p.0 → (device_at size told new).port q ≡ old_device.port q) → (device_at size told new).memory_size ≡ old_device.memory_size →
        (m.hardware.starved ≡ true → new.hardware.starved ≡ true) → (q : ℕ) → IsPortHeld (slice_set left_out p.0 true) q → IsPortHeld first.held q ⊎ Waits new q
    out_then new busy starves ports large on q held =
        elim (eqb_tells q p.0) [
          | inl here ↦ inr (subst (Waits new) (sym here.1) (busy, starves))
          | inr there ↦
              elim (is.out q (sym (get_or-set_other left_out p.0 q true false there.1) ∙ held)) [
                | inl before ↦ inl before
                | inr waits ↦ inr (waits_on m new q (ports q there.1) large on waits)
              ]
        ]

    loose_then : p.0 < length left_out → (q : ℕ) → IsPortReleased (slice_set left_out p.0 true) q → IsPortReleased first.held q
    loose_then long q is_loose =
        elim (eqb_tells q p.0) [
          | inl here ↦
              let now : slice_index_or (slice_set left_out p.0 true) q false ≡ true =
              subst (λ k. slice_index_or (slice_set left_out p.0 true) k false ≡ true) (sym here.1) (get_or-set_same left_out p.0 true false long) in
              true-false now is_loose
          | inr there ↦ is.loose q (sym (get_or-set_other left_out p.0 q true false there.1) ∙ is_loose)
        ]

    -- ---- one that can be done to its end is done

    module _ (new : Model S) (answer : Bool) (answers : AnswersStep size told failures (asked.Finish p s) answer m new) (has : HasFinishablePageCommand (device_at size told m) p.0 s.0) where
      completes : answer ≡ true → Completes size told failures (asked.Finish p s) m new
      completes e = page_completes size told failures m new p s (did_it size told failures (asked.Finish p s) m new answer answers e) has

      went : answer ≡ true → DoesAtLeastOneSlotStep (SendsEnd s.0) p.0 s.0 old_device (device_at size told new)
      went e = (completes e).does_asked_step

      same : answer ≡ false → device_at size told new ≡ old_device
      same e = (left_it size told failures (asked.Finish p s) m new answer answers e).device_is_kept

      goes : OwnStepsKeep size m new
      goes = finish_goes_so size told failures p s answer m new answers (λ e. (completes e).page_source_is)

      leads : LeadsBySteps (SendsPages first.held) (device_at size told first) (device_at size told new)
      leads = own_on (SendsPages first.held) _ old_device (device_at size told new) is.own
          (own_gone IsPage is_page first.held p.0 s.0 (is.loose p.0 loose) answer old_device (device_at size told new) went same (has_only old_device p.0 s.0 has)).0

      settles : (held : List Bool) → IsSettled held (device_at size told first) → IsSettled held (device_at size told new)
      settles held x = gone_settled p.0 s.0 answer old_device (device_at size told new) went same held (is.settled held x)

      pub so_far_done : lacks ≡ false → answer ≡ true → IsSoFar first new left_out lacks
      so_far_done fed done =
          let far = gone_apart p.0 s.0 old_device (device_at size told new) (went done) in
          let did = did_it size told failures (asked.Finish p s) m new answer answers done in
          record {
            own = leads;
            settled = settles;
            rest = goes_so_on size told failures first m new is.rest goes;
            disks = λ q w. finish_keeps size told failures m new p s answer answers has q w ∙ is.disks q w;
            long = is.long;
            out = λ q held.
                elim (is.out q held) [
                  | inl before ↦ inl before
                  | inr waits ↦ inr (waits_on m new q (far.1 q (apart_of q held)) far.0 goes.stays_starved waits)
                ];
            loose = is.loose;
            fed = λ e. did.starved_is_kept ∙ is.fed e;
            lacking = λ never. true-false never fed;
          }

      -- fewer are left then, of the ports that aren't left out
      pub fewer : answer ≡ true → SlotHasNoCommand ((device_at size told new).port p.0) s.0 →
          (total (weight (device_at size told new) p.0) 32 < total (weight old_device p.0) 32)
          × ((q : ℕ) → q ≢ p.0 → total (weight (device_at size told new) q) 32 ≡ total (weight old_device q) 32)
      fewer done free =
          let far = gone_apart p.0 s.0 old_device (device_at size told new) (went done) in (
            fewer_left p.0 s.0 old_device (device_at size told new) low has (went done) free,
            λ q ne. weight_same old_device (device_at size told new) q (far.1 q ne),
          )

      -- ---- one that lacks memory is taken, and no more

      pub so_far_lacking : (last : Model S) → lacks ≡ false → answer ≡ false → (new.hardware.starved ≡ true) × (TapeHasRoom new.hardware (has.moves_left + 1) → ⊥) →
          TakesPageCommandUnlessOneIsTaken size told p.0 s.0 new last → IsSoFar first last (slice_set left_out p.0 true) true
      so_far_lacking last fed left missed t =
          let P : Device → Type 0 = λ d. (there : HasFinishablePageCommand d p.0 s.0) × (TapeHasRoom new.hardware (there.moves_left + 1) → ⊥) in
          let one = subst P (sym (same left)) (has, missed.1) in
          let now = t.as_much_is_left one.0 in
          let long : p.0 < length left_out = subst (λ (n : ℕ). p.0 < n) (sym is.long) small in
          let rest = goes_so_on size told failures m new last goes t.own_steps_keep in
          let ports : (q : ℕ) → q ≢ p.0 → (device_at size told last).port q ≡ old_device.port q =
          λ (q : ℕ) (ne : q ≢ p.0). t.other_ports_are_kept q ne ∙ ap (λ (d : Device). d.port q) (same left) in
          let large : (device_at size told last).memory_size ≡ old_device.memory_size = t.size_is_kept ∙ ap (λ (d : Device). d.memory_size) (same left) in
          let told_so : last.hardware.starved ≡ true = t.starved_is_kept ∙ missed.0 in
          record {
            own = own_on (SendsPages first.held) _ (device_at size told new) (device_at size told last) leads (t.by_own_steps first.held (is.loose p.0 loose));
            settled = λ held x. t.stays_settled held (settles held x);
            rest = goes_so_on size told failures first m last is.rest rest;
            disks = λ q w. t.disks_are_kept q w ∙ (finish_keeps size told failures m new p s answer answers has q w ∙ is.disks q w);
            long = still_long left_out p.0 is.long;
            out = out_then last t.has_taken_command (λ k there. told_so) ports large rest.stays_starved;
            loose = loose_then long;
            fed = λ never. absurd (let e : true ≡ false = never in cc);
            lacking = λ _. (
              told_so,
              record {
                port = p.0;
                slot = s.0;
                small = small;
                low = low;
                out = get_or-set_same left_out p.0 true false long;
                disks = disks_kept size told m last p.0 (rest.disk_index_is p.0) disks;
                busy = t.has_taken_command;
                has = now.0;
                lacks = λ some. one.1 (t.tape_had_room _ (let R : ℕ → Type 0 = λ n. TapeHasRoom last.hardware (n + 1) in subst R now.1 some));
              },
            );
          }

    -- ---- one that can't be done to its end, or for which no memory is looked for, is taken

    pub so_far_taken : (new : Model S) → TakesPageCommandUnlessOneIsTaken size told p.0 s.0 m new → (lacks ≡ false → (MayTakePageCommand old_device p.0 s.0) × (HasFinishablePageCommand old_device p.0 s.0 → ⊥)) →
        IsSoFar first new (slice_set left_out p.0 true) lacks
    so_far_taken new t stuck =
        let long : p.0 < length left_out = subst (λ (n : ℕ). p.0 < n) (sym is.long) small in
        record {
          own = own_on (SendsPages first.held) _ old_device (device_at size told new) is.own (t.by_own_steps first.held (is.loose p.0 loose));
          settled = λ held x. t.stays_settled held (is.settled held x);
          rest = goes_so_on size told failures first m new is.rest t.own_steps_keep;
          disks = λ q w. t.disks_are_kept q w ∙ is.disks q w;
          long = still_long left_out p.0 is.long;
          out = out_then new t.has_taken_command (λ k has. starves lacks refl k has) t.other_ports_are_kept t.size_is_kept t.own_steps_keep.stays_starved;
          loose = loose_then long;
          fed = λ e. t.starved_is_kept ∙ is.fed e;
          lacking = λ e.
              let before = is.lacking e in (
                t.starved_is_kept ∙ before.0,
                lacks_on m new left_out (slice_set left_out p.0 true) p.0 loose (λ q ne held. get_or-set_other left_out p.0 q true false ne ∙ held) t.other_ports_are_kept t.size_is_kept
                    t.own_steps_keep.disk_index_is t.tape_had_room before.1,
              );
        }
      where
        starves : (b : Bool) → lacks ≡ b → (k : ℕ) → HasFinishablePageCommand (device_at size told new) p.0 k → new.hardware.starved ≡ true
        starves true e k has = t.starved_is_kept ∙ (is.lacking e).0
        starves false e k has = let one = stuck e in absurd (one.1 (t.finishable_was_finishable one.0 k has))

  -- ---- none is left, on the ports that aren't left out

  module _ (first m : Model S) (left_out : List Bool) (lacks : Bool) (is : IsSoFar first m left_out lacks)
      (none : (port slot : ℕ) → port < 4 → IsPortReleased left_out port → HasDisks (device_at size told m) port → slot < 32 → FindsPageCommandAndWhetherItCanEnd (device_at size told m) port slot None) where
    by_port : (port : ℕ) → (IsPortReleased left_out port) ⊎ (IsPortHeld first.held port) ⊎ Waits m port
    by_port port = by (slice_index_or left_out port false) refl
      where
        by : (b : Bool) → slice_index_or left_out port false ≡ b → (IsPortReleased left_out port) ⊎ (IsPortHeld first.held port) ⊎ Waits m port
        by false e = inl e
        by true e = inr (is.out port e)

    held_still : (port : ℕ) → IsPortHeld first.held port → IsPortHeld m.held port
    held_still port held = ap (λ (l : List Bool). slice_index_or l port false) is.rest.held_ports_are ∙ held

    pub none_left : PageCommandWaitsOnlyIfHeldOrStarved m.held m.hardware.starved (device_at size told m)
    none_left = record {
      may_be_taken_only_if_held = λ port slot small low disks may.
          elim (by_port port) [
            | inl loose ↦ absurd ((none port slot small loose disks low).0 may)
            | inr (inl held) ↦ held_still port held
            | inr (inr waits) ↦ absurd (busy_bars (device_at size told m) port slot waits.0 may)
          ];
      may_finish_only_if_held_or_starved = λ port slot small low disks has.
          elim (by_port port) [
            | inl loose ↦ absurd ((none port slot small loose disks low).1 has)
            | inr (inl held) ↦ inl (held_still port held)
            | inr (inr waits) ↦ inr (waits.1 slot has)
          ];
    }

    pub lacking_told : m.hardware.starved ≡ true → (first.hardware.starved ≡ true) ⊎ LeavesPageWithoutTapeRoom m.hardware (device_at size told m)
    lacking_told starved = by lacks refl
      where
        by : (b : Bool) → lacks ≡ b → (first.hardware.starved ≡ true) ⊎ LeavesPageWithoutTapeRoom m.hardware (device_at size told m)
        by false e = inl (sym (is.fed e) ∙ starved)
        by true e = let one = (is.lacking e).1 in inr (one.port, one.slot, one.small, one.low, one.disks, one.has, one.lacks)

-- ---- each step leaves fewer ports to look at, or less to do on one

-- what is left to do on a port that isn't left out, and one more
abbrev pub left_on : Device → List Bool → ℕ → ℕ
left_on d left_out port = if slice_index_or left_out port false then 0 else 1 + total (weight d port) 32

abbrev pub left_in_all : Device → List Bool → ℕ
left_in_all d left_out = total (left_on d left_out) 4

-- one more is left out
pub less_taken : (old new : Device) (left_out : List Bool) (p place : ℕ) → place ≡ p → p < 4 → length left_out ≡ 4 → IsPortReleased left_out p →
    ((q : ℕ) → q ≢ p → new.port q ≡ old.port q) → left_in_all new (slice_set left_out place true) < left_in_all old left_out
less_taken old new left_out p place at small long loose ports =
    let P : ℕ → Type 0 = λ k. left_in_all new (slice_set left_out k true) < left_in_all old left_out in
    subst P (sym at) (total_less (left_on new (slice_set left_out p true)) (left_on old left_out) p 4 small others here)
  where
    others : (k : ℕ) → k ≢ p → left_on new (slice_set left_out p true) k ≡ left_on old left_out k
    others k ne =
        λ i. if get_or-set_other left_out p k true false ne i then 0 else 1 + weight_same old new k (ports k ne) i

    here : left_on new (slice_set left_out p true) p < left_on old left_out p
    here =
        let now : left_on new (slice_set left_out p true) p ≡ 0 =
        ap (λ (b : Bool). if b then 0 else 1 + total (weight new p) 32) (get_or-set_same left_out p true false (omega (arith, small, long))) in
        let was : left_on old left_out p ≡ 1 + total (weight old p) 32 = ap (λ (b : Bool). if b then 0 else 1 + total (weight old p) 32) loose in
        omega (arith, now, was)

-- or less is left on one
pub less_done : (old new : Device) (left_out : List Bool) (p : ℕ) → p < 4 → IsPortReleased left_out p → total (weight new p) 32 < total (weight old p) 32 →
    ((q : ℕ) → q ≢ p → total (weight new q) 32 ≡ total (weight old q) 32) → left_in_all new left_out < left_in_all old left_out
less_done old new left_out p small loose less same =
    total_less (left_on new left_out) (left_on old left_out) p 4 small
    (λ k ne. ap (λ (n : ℕ). if slice_index_or left_out k false then 0 else 1 + n) (same k ne)) here
  where
    here : left_on new left_out p < left_on old left_out p
    here =
        let now : left_on new left_out p ≡ 1 + total (weight new p) 32 = ap (λ (b : Bool). if b then 0 else 1 + total (weight new p) 32) loose in
        let was : left_on old left_out p ≡ 1 + total (weight old p) 32 = ap (λ (b : Bool). if b then 0 else 1 + total (weight old p) 32) loose in
        omega (arith, now, was, less)
