-- A command that sends a page, and can be done to its end, as the model does it by itself.
use Rattle.std.proofs.Common.{ℕ, length, Bool, zero, suc, true, false, ◌≡◌, ◌≢◌, ◌<◌, ◌≤◌, ◌+◌, ◌^◌, ◌⊎◌, ◌∙◌, List, Option, None, Some, refl, sym, ap, subst, inl, inr, arith}
use Rattle.std.specs.Prelude.{◌&&◌, not, if◌then◌else◌, is_some, option_map}
use Rattle.std.proofs.lemmas.Bool.Decides.{eqb_tells}
use Rattle.adapter.specs.Access.{notes_after_reading, device_after_reading}
use Rattle.adapter.specs.AskedSteps.{DoesFetch, DoesSlotStep, DoesExactlySlotSteps, DoesAtLeastOneSlotStep}
use Rattle.adapter.specs.Commands.{Meaning, is_queued, moves_disk_sectors, sends_page}
use Rattle.adapter.specs.Device.{Notes, DevicePort, Device, FetchedCommand}
use Rattle.adapter.specs.Memory.{changed}
use Rattle.adapter.specs.OneCommand.{SlotHasNoCommand}
use Rattle.adapter.specs.Decoding.{DecodesTo}
use Rattle.adapter.specs.Steps.{Can, IsFetchable, IsWorking, IsAloneOrAllAreQueued, WorksOn, newly_fetched, port_after_clear, port_after_done_except_lasting, port_with_lasting_after_operation, port_after_fetch, port_after_move}
use Rattle.adapter.specs.Steps.DeviceTransition.{Fetch}
use Rattle.adapter.specs.declared.command.Operation.{Operation}
use Rattle.device_model.proofs.Absurd.{some-none, some_one, true-false}
use Rattle.device_model.proofs.Places.{changed_other, changed_same}
use Rattle.adapter.proofs.SaysLemmas.{says_meaning, says_places}
use Rattle.hba_regs.specs.declared.reg.Reg.{Reg}
use Rattle.hba_regs.specs.declared.reg.Reg.TheVariants.{Cap, Ghc, Is, Pi, Vs, Cap2, Bohc, Px}
use Rattle.ata_types.specs.declared.Port.{Port}
use Rattle.ata_types.specs.declared.Slot.{Slot}
use Rattle.adapter.specs.declared.access.DeviceStep.TheVariants as asked
use Rattle.sector_store.specs.declared.store.Failures.{Failures}
use Rattle.device_model.specs.StepEffects.{AnswersStep, HasSectorMovesOrClearsLeft, MayAskStore, Completes, DidStep, StepFails, FailsToClear, FailsToMove}
use Rattle.device_model.specs.Finishing.{PiecesInside, HasFinishablePageCommand, FindsPageCommandAndWhetherItCanEnd, HasTakenCommand, HasMovesLeftInMemory, MayFinish, MayTakePageCommand}
use Rattle.device_model.specs.ModelState.{device_at}
use Rattle.device_model.specs.SentFises.{SendsEnd}
use Rattle.device_model.specs.Slots.{IsNextMove}
use Rattle.device_model.specs.PortView.{taken_of}
use Rattle.device_model.specs.Disks.{disk_in_bay, numbered_disk}
use Rattle.device_model.specs.WholeAdapter.{HasDisks, AllMedia, device_of}
use Rattle.device_model.specs.declared.bay.Bay.{Bay}
use Rattle.device_model.specs.declared.disks.DiskIndex.{DiskIndex}
use Rattle.device_model.specs.declared.hardware.Hardware.{Hardware}
use Rattle.device_model.specs.declared.bay.PageSource.{PageSource}
use Rattle.device_model.specs.declared.model.Model.{Model}
use Rattle.device_model.specs.declared.port.TakenCommand.{TakenCommand}
use Rattle.device_model.specs.declared.steps.NextMove.{NextMove}
use Rattle.adapter.proofs.Going.{goes_one}
use Rattle.device_model.proofs.Finishing.{fetched_goes, next_has_move}
use Rattle.device_model.proofs.Own.{IsOnly, only_gone}
use Rattle.device_model.proofs.Posting.{end_rest}
use Rattle.device_model.proofs.Transfers.{alone_none, page_plain, page_unranged, unranged_plain}
use Rattle.device_model.proofs.Trimming.{page_cleared, page_clears}
use Rattle.device_model.proofs.TwoDisks.{each_port}

-- a command that sends a page, and whose pieces have addresses of 32 bits
abbrev pub IsPage : Operation → List ℕ → Type 0
IsPage operation places = (sends_page operation ≡ true) × PiecesInside (2 ^ 32) places

pub is_page : (o : Operation) (places : List ℕ) → IsPage o places → sends_page o ≡ true
is_page o places page = page.0

-- whatever may be done to its end in a slot, no other command is taken there, or may be
pub only_of : (P : Operation → List ℕ → Type 0) (d : Device) (port slot left clears : ℕ) (may : MayFinish d port slot left clears) →
    P may.fetched_command.meaning.operation may.fetched_command.places → IsOnly P d port slot
only_of P d port slot left clears may holds = by may.is_begun_or_fetchable
  where
    t : FetchedCommand
    t = may.fetched_command

    by : WorksOn (d.port port) slot t t.meaning.operation ⊎ (Can (Fetch port slot t.meaning t.places) d × (t ≡ newly_fetched t.meaning t.places)) → IsOnly P d port slot
    by (inl works) = record {
      taken = λ u is.
          let same : t ≡ u = some_one (sym works.taken ∙ is) in
          subst (λ (x : FetchedCommand). P x.meaning.operation x.places) same holds;
      fetched = λ m places can. some-none works.taken can.fetchable.free;
    }
    by (inr begins) = record {
      taken = λ u is. some-none is begins.0.fetchable.free;
      fetched = λ m places can.
          let list = (d.port port).bases.clb in
          let meaning = says_meaning d.memory list slot t.meaning m t.places places begins.0.says can.says in
          let same = says_places d.memory list slot t.meaning m t.places places begins.0.says can.says in
          subst (λ (x : List ℕ). P m.operation x) same (subst (λ (x : Meaning). P x.operation t.places) meaning holds);
    }

pub has_only : (d : Device) (port slot : ℕ) → HasFinishablePageCommand d port slot → IsOnly IsPage d port slot
has_only d port slot has = only_of IsPage d port slot has.moves_left 0 has.may_finish (has.sends_page, has.addresses_are_low)

-- nor afterwards
pub page_taken : (port slot : ℕ) (did : Bool) (old new : Device) → (did ≡ true → DoesAtLeastOneSlotStep (SendsEnd slot) port slot old new) → (did ≡ false → new ≡ old) →
    HasFinishablePageCommand old port slot → (t : FetchedCommand) → (new.port port).taken slot ≡ Some t → IsPage t.meaning.operation t.places
page_taken port slot did old new went same has t is =
    (only_gone IsPage (λ o places page. page_plain o page.0) port slot did old new went same (has_only old port slot has)).taken t is

-- ---- which steps ask the store

abbrev pub BringsPage : Operation → List ℕ → Type 0
BringsPage operation places = sends_page operation ≡ true

-- a command that names no sectors
abbrev IsUnranged : Operation → List ℕ → Type 0
IsUnranged operation places = moves_disk_sectors operation ≡ false

-- a Finish of it asks for none
pub page_asks_none : (d : Device) (port slot left clears : ℕ) → HasFinishablePageCommand d port slot → (may : MayFinish d port slot left clears) →
    HasSectorMovesOrClearsLeft may.fetched_command.meaning.operation left clears → ⊥
page_asks_none d port slot left clears has may asks = by asks
  where
    t : FetchedCommand
    t = may.fetched_command

    kind : WorksOn (d.port port) slot t t.meaning.operation ⊎ (Can (Fetch port slot t.meaning t.places) d × (t ≡ newly_fetched t.meaning t.places)) →
        sends_page t.meaning.operation ≡ true
    kind (inl works) = ((has_only d port slot has).taken t works.taken).0
    kind (inr begins) = ((has_only d port slot has).fetched t.meaning t.places begins.0).0

    by : HasSectorMovesOrClearsLeft t.meaning.operation left clears → ⊥
    by (inl moves) = true-false moves.0 (page_unranged _ (kind may.is_begun_or_fetchable))
    by (inr some) =
        let none = page_cleared t.meaning.operation d.memory t clears (kind may.is_begun_or_fetchable) may.has_trim_runs_left in absurd (omega (arith, some, none))

-- so it comes to no sector on which it fails
page_whole : (p : Port) (s : Slot) (cached : Bool) (was now : Option Failures) (says later : Option PageSource) (old new : Device) → HasFinishablePageCommand old p.0 s.0 →
    StepFails (asked.Finish p s) cached was now says later old new → ⊥
page_whole p s cached was now says later old new has (mid, before, fails) = by before fails
  where
    page : (mid ≡ old) ⊎ DoesAtLeastOneSlotStep (SendsEnd s.0) p.0 s.0 old mid → (t : FetchedCommand) → (mid.port p.0).taken s.0 ≡ Some t → IsPage t.meaning.operation t.places
    page (inl same) = page_taken p.0 s.0 false old mid (λ never. absurd (let no : false ≡ true = never in cc)) (λ _. same) has
    page (inr went) = page_taken p.0 s.0 true old mid (λ _. went) (λ never. absurd (let no : true ≡ false = never in cc)) has

    by : (mid ≡ old) ⊎ DoesAtLeastOneSlotStep (SendsEnd s.0) p.0 s.0 old mid →
        FailsToMove cached p.0 s.0 was now says later mid new ⊎ FailsToClear cached p.0 s.0 was now says later mid new → ⊥
    by gone (inl moves) = true-false moves.moves_sectors (page_unranged _ (page gone moves.fetched_command moves.has_move.works.taken).0)
    by gone (inr clears) = true-false (page gone clears.fetched_command clears.has_clear.works.taken).0 (ap sends_page clears.has_clear.trim)

pub page_completes : {S : Type 0} (size : S → ℕ) (told : S → Option (ℕ → List ℕ)) (failures : S → Option Failures) (old new : Model S) (p : Port) (s : Slot) →
    DidStep size told failures (asked.Finish p s) old new → HasFinishablePageCommand (device_at size told old) p.0 s.0 → Completes size told failures (asked.Finish p s) old new
page_completes size told failures old new p s did has =
    elim did.completes_or_fails [
      | inl whole ↦ whole
      | inr failed ↦ absurd (page_whole p s _ _ _ _ _ _ _ has failed)
    ]

-- each disk stays as it is
pub finish_keeps : {S : Type 0} (size : S → ℕ) (told : S → Option (ℕ → List ℕ)) (failures : S → Option Failures) (old new : Model S) (p : Port) (s : Slot) (answer : Bool) →
    AnswersStep size told failures (asked.Finish p s) answer old new → HasFinishablePageCommand (device_at size told old) p.0 s.0 → (q : ℕ) (w : DiskIndex) →
    numbered_disk new q w ≡ numbered_disk old q w
finish_keeps {S} size told failures old new p s true a has q w =
    each_port (option_map (λ (b : Bay S). disk_in_bay b w)) old new p.0
    (a.1.disks_are_kept (λ asks. page_asks_none (device_at size told old) p.0 s.0 _ _ has asks.4 asks.5) w) a.1.other_bays_are_kept q
finish_keeps {S} size told failures old new p s false a has q w = each_port (option_map (λ (b : Bay S). disk_in_bay b w)) old new p.0 (a.disks_are_kept w) a.other_bays_are_kept q

-- a Move of what a Finish has begun asks for one only where the Finish does
pub finish_moves : (p : Port) (s : Slot) (did : Bool) (old new : Device) (left clears : ℕ) → HasDisks old p.0 → 1 ≤ left →
    (did ≡ true → DoesAtLeastOneSlotStep (SendsEnd s.0) p.0 s.0 old new) → (did ≡ false → new ≡ old) → MayFinish old p.0 s.0 left clears →
    MayAskStore (asked.Move p s) new → MayAskStore (asked.Finish p s) old
finish_moves p s did old new left clears here some went stayed may moves = by (moves_disk_sectors may.fetched_command.meaning.operation) refl
  where
    by : (b : Bool) → moves_disk_sectors may.fetched_command.meaning.operation ≡ b → MayAskStore (asked.Finish p s) old
    by true e = (here, moves.0, left, clears, may, inl (e, some))
    by false e =
        let only = only_of IsUnranged old p.0 s.0 left clears may e in
        let gone = only_gone IsUnranged (λ o places none. unranged_plain o none) p.0 s.0 did old new went stayed only in
        true-false moves.3 (gone.taken moves.1 moves.2.works.taken)

-- and so does a Finish that has a clear left
pub finish_clears : (p : Port) (s : Slot) (old : Device) (left clears : ℕ) → HasDisks old p.0 → s.0 < 32 → 1 ≤ clears → MayFinish old p.0 s.0 left clears →
    MayAskStore (asked.Finish p s) old
finish_clears p s old left clears here small some ready = (here, small, left, clears, ready, inr some)

-- what the hardware moves next is a sector only where a Move moves one
pub next_moves : (h : Hardware) (o : AllMedia) (d : Device) (p : Port) (s : Slot) (next : NextMove) (r : TakenCommand) → HasDisks d p.0 → s.0 < 32 →
    device_of h o ≡ d → IsNextMove h p.0 s.0 next r → moves_disk_sectors next.operation ≡ true → MayAskStore (asked.Move p s) d
next_moves h o d p s next r here small same is moves_sectors = (
  small,
  taken_of r,
  next_has_move h o d p.0 s.0 next r here same is,
  ap moves_disk_sectors (sym is.operation_is) ∙ moves_sectors,
)

-- and else it is none
pub next_unranged : (h : Hardware) (o : AllMedia) (d : Device) (p : Port) (s : Slot) (next : NextMove) (r : TakenCommand) → HasDisks d p.0 → s.0 < 32 →
    device_of h o ≡ d → IsNextMove h p.0 s.0 next r → (MayAskStore (asked.Move p s) d → ⊥) → moves_disk_sectors next.operation ≡ false
next_unranged h o d p s next r here small same is none = by (moves_disk_sectors next.operation) refl
  where
    by : (b : Bool) → moves_disk_sectors next.operation ≡ b → moves_disk_sectors next.operation ≡ false
    by true e = absurd (none (next_moves h o d p s next r here small same is e))
    by false e = e

-- ---- one that is taken, and no more

plain_right : (a b : Bool) → b ≡ false → (a && b) ≡ false
plain_right true b e = e
plain_right false b e = refl

-- no other command is in its slot
may_only : (d : Device) (port slot : ℕ) → MayTakePageCommand d port slot → IsOnly BringsPage d port slot
may_only d port slot may = record {
  taken = λ u is. some-none is may.can.fetchable.free;
  fetched = λ m places can.
      let meaning = says_meaning d.memory (d.port port).bases.clb slot may.meaning m may.places places may.can.says can.says in
      ap (λ (x : Meaning). sends_page x.operation) (sym meaning) ∙ may.sends_page;
}

pub found_only : (d : Device) (port slot : ℕ) → MayTakePageCommand d port slot ⊎ HasFinishablePageCommand d port slot → IsOnly BringsPage d port slot
found_only d port slot (inl may) = may_only d port slot may
found_only d port slot (inr has) = only_of BringsPage d port slot has.moves_left 0 has.may_finish has.sends_page

-- what a look at a slot has found
pub found_ends : (d : Device) (port slot : ℕ) (ends : Bool) → not ends ≡ false → FindsPageCommandAndWhetherItCanEnd d port slot (Some ends) → HasFinishablePageCommand d port slot
found_ends d port slot true e found = found
found_ends d port slot false e found = absurd (let no : true ≡ false = e in cc)

pub found_stuck : (d : Device) (port slot : ℕ) (ends : Bool) → not ends ≡ true → FindsPageCommandAndWhetherItCanEnd d port slot (Some ends) → MayTakePageCommand d port slot × (HasFinishablePageCommand d port slot → ⊥)
found_stuck d port slot true e found = absurd (let no : false ≡ true = e in cc)
found_stuck d port slot false e found = found

-- where a command is taken, none that sends a page may be
pub taken_bars : (d : Device) (port slot k : ℕ) (t : FetchedCommand) → (d.port port).taken slot ≡ Some t → MayTakePageCommand d port k → ⊥
taken_bars d port slot k t is may = some-none is (alone_none (d.port port) may.meaning.operation (page_plain _ may.sends_page) may.can.is_alone_or_all_are_queued slot)

fetched_is : (port slot : ℕ) (old new : Device) (f : DoesFetch port slot old new) → (new.port port).taken ≡ changed (old.port port).taken slot (Some (newly_fetched f.meaning f.places))
fetched_is port slot old new f =
    ap (λ (d : Device). (d.port port).taken) f.effect ∙ ap (λ (p : DevicePort). p.taken) (changed_same old.port port (port_after_fetch (old.port port) slot f.meaning f.places))

fetched_taken : (port slot : ℕ) (old new : Device) (f : DoesFetch port slot old new) → (new.port port).taken slot ≡ Some (newly_fetched f.meaning f.places)
fetched_taken port slot old new f =
    ap (λ (g : ℕ → Option FetchedCommand). g slot) (fetched_is port slot old new f) ∙ changed_same (old.port port).taken slot (Some (newly_fetched f.meaning f.places))

-- a port on which a command is taken is busy
pub busy_bars : (d : Device) (port k : ℕ) → HasTakenCommand d port → MayTakePageCommand d port k → ⊥
busy_bars d port k busy = taken_bars d port busy.0 k busy.1 busy.2

-- once it was taken, or was already, the port is
pub fetched_busy : (port slot : ℕ) (did : Bool) (old new : Device) → (did ≡ true → DoesFetch port slot old new) →
    (did ≡ false → (m : Meaning) (places : List ℕ) → Can (Fetch port slot m places) old → ⊥) → (did ≡ false → new ≡ old) →
    MayTakePageCommand old port slot ⊎ HasFinishablePageCommand old port slot → HasTakenCommand new port
fetched_busy port slot true old new went never same there = let f = went refl in (slot, newly_fetched f.meaning f.places, fetched_taken port slot old new f)
fetched_busy port slot false old new went never same (inl may) = absurd (never refl may.meaning may.places may.can)
fetched_busy port slot false old new went never same (inr has) = by has.may_finish.is_begun_or_fetchable
  where
    t : FetchedCommand
    t = has.may_finish.fetched_command

    by : WorksOn (old.port port) slot t t.meaning.operation ⊎ (Can (Fetch port slot t.meaning t.places) old × (t ≡ newly_fetched t.meaning t.places)) → HasTakenCommand new port
    by (inl works) = (slot, t, ap (λ (d : Device). (d.port port).taken slot) (same refl) ∙ works.taken)
    by (inr may) = absurd (never refl t.meaning t.places may.0)

-- and what can be done to its end then, could before
taken_has : (port slot k : ℕ) (old new : Device) → DoesFetch port slot old new → HasFinishablePageCommand new port k → HasFinishablePageCommand old port slot
taken_has port slot k old new f has = by has.may_finish.is_begun_or_fetchable
  where
    t : FetchedCommand
    t = has.may_finish.fetched_command

    size : new.memory_size ≡ old.memory_size
    size = ap (λ (d : Device). d.memory_size) f.effect

    by : WorksOn (new.port port) k t t.meaning.operation ⊎ (Can (Fetch port k t.meaning t.places) new × (t ≡ newly_fetched t.meaning t.places)) → HasFinishablePageCommand old port slot
    by (inr may) =
        absurd (taken_bars new port slot k (newly_fetched f.meaning f.places) (fetched_taken port slot old new f)
        (record { meaning = t.meaning; places = t.places; sends_page = has.sends_page; can = may.0 }))
    by (inl works) =
        elim (eqb_tells k slot) [
          | inl here ↦
              let P : ℕ → Type 0 = λ q. (new.port port).taken q ≡ Some t in
              let one : t ≡ newly_fetched f.meaning f.places = some_one (sym (subst P here.1 works.taken) ∙ fetched_taken port slot old new f) in
              let Q : ℕ → Type 0 = λ n. HasMovesLeftInMemory t n has.moves_left in
              let R : FetchedCommand → Type 0 = λ x. HasMovesLeftInMemory x old.memory_size has.moves_left in
              record {
                moves_left = has.moves_left;
                may_finish = record {
                  fetched_command = newly_fetched f.meaning f.places;
                  has_moves_left = subst R one (subst Q size has.may_finish.has_moves_left);
                  has_trim_runs_left = page_clears f.meaning.operation old.memory (newly_fetched f.meaning f.places)
                      (ap (λ (x : FetchedCommand). sends_page x.meaning.operation) (sym one) ∙ has.sends_page);
                  is_begun_or_fetchable = inr (f.can, refl);
                };
                sends_page = ap (λ (x : FetchedCommand). sends_page x.meaning.operation) (sym one) ∙ has.sends_page;
                addresses_are_low = subst (λ (x : FetchedCommand). PiecesInside (2 ^ 32) x.places) one has.addresses_are_low;
              }
          | inr there ↦
              let was : (old.port port).taken k ≡ Some t =
              sym (changed_other (old.port port).taken slot (Some (newly_fetched f.meaning f.places)) k there.1)
              ∙ (ap (λ (g : ℕ → Option FetchedCommand). g k) (sym (fetched_is port slot old new f)) ∙ works.taken) in
              let no : (is_queued f.meaning.operation && is_queued t.meaning.operation) ≡ false =
              plain_right (is_queued f.meaning.operation) (is_queued t.meaning.operation) (page_plain _ has.sends_page) in
              true-false (f.can.is_alone_or_all_are_queued k t was) no
        ]

pub fetched_has : (port slot k : ℕ) (did : Bool) (old new : Device) → (did ≡ true → DoesFetch port slot old new) →
    (did ≡ false → (m : Meaning) (places : List ℕ) → Can (Fetch port slot m places) old → ⊥) →
    MayTakePageCommand old port slot → HasFinishablePageCommand new port k → HasFinishablePageCommand old port slot
fetched_has port slot k true old new went never may has = taken_has port slot k old new (went refl) has
fetched_has port slot k false old new went never may has = absurd (never refl may.meaning may.places may.can)

-- one that can be done to its end still can be once it is taken
pub fetched_left : (port slot : ℕ) (did : Bool) (old new : Device) (has : HasFinishablePageCommand old port slot) → (did ≡ true → DoesFetch port slot old new) →
    (did ≡ false → new ≡ old) → (did ≡ false → (m : Meaning) (places : List ℕ) → Can (Fetch port slot m places) old → ⊥) →
    (now : HasFinishablePageCommand new port slot) × (now.moves_left ≡ has.moves_left)
fetched_left port slot did old new has went same never =
    let going = fetched_goes port slot has.moves_left 0 did old new has.may_finish went same never in
    let page = page_taken port slot did old new (λ e. goes_one (SendsEnd slot) port slot old new (inl (went e))) same has going.fetched_command going.works.taken in (
      record {
        moves_left = has.moves_left;
        may_finish = record { fetched_command = going.fetched_command; has_moves_left = going.has_moves_left; has_trim_runs_left = going.has_trim_runs_left; is_begun_or_fetchable = inl going.works };
        sends_page = page.0;
        addresses_are_low = page.1;
      },
      refl,
    )

-- ---- each that is done leaves fewer

-- how many numbers these are, up to one
abbrev pub total : (ℕ → ℕ) → ℕ → ℕ
total weight zero = 0
total weight (suc n) = total weight n + weight n

total_same : (v w : ℕ → ℕ) (n : ℕ) → ((k : ℕ) → k < n → v k ≡ w k) → total v n ≡ total w n
total_same v w zero same = refl
total_same v w (suc n) same =
    let rest = total_same v w n (λ k small. same k (omega (arith, small))) in
    let here = same n (omega arith) in
    omega (arith, rest, here)

pub total_less : (v w : ℕ → ℕ) (slot n : ℕ) → slot < n → ((k : ℕ) → k ≢ slot → v k ≡ w k) → v slot < w slot → total v n < total w n
total_less v w slot zero small others less = absurd (omega (arith, small))
total_less v w slot (suc n) small others less =
    elim (eqb_tells slot n) [
      | inl here ↦
          let same : slot ≡ n = here.1 in
          let rest = total_same v w n (λ k lt. others k (λ e. omega (arith, e, lt, same))) in
          let last = subst (λ k. v k < w k) same less in
          omega (arith, rest, last)
      | inr there ↦
          let ne : slot ≢ n = there.1 in
          let rest = total_less v w slot n (omega (arith, small, ne)) others less in
          let last = others n (λ e. ne (sym e)) in
          omega (arith, rest, last)
    ]

-- whether a slot of a port is issued, and whether it is taken, as a number
abbrev pub weight : Device → (port : ℕ) → ℕ → ℕ
weight d port k = (if (d.port port).ci k then 1 else 0) + (if is_some ((d.port port).taken k) then 1 else 0)

-- a step of one slot's command leaves the other slots
weight_with : (old new : Device) (port : ℕ) (p : DevicePort) (k : ℕ) → new.port port ≡ p → p.ci k ≡ (old.port port).ci k → p.taken k ≡ (old.port port).taken k →
    weight new port k ≡ weight old port k
weight_with old new port p k there ci taken =
    ap (λ (x : DevicePort). (if x.ci k then 1 else 0) + (if is_some (x.taken k) then 1 else 0)) there
    ∙ (λ i. (if ci i then 1 else 0) + (if is_some (taken i) then 1 else 0))

pub cleared_other : (b : Bool) (f : ℕ → Bool) (slot k : ℕ) → k ≢ slot → (if b then changed f slot false else f) k ≡ f k
cleared_other true f slot k ne = changed_other f slot false k ne
cleared_other false f slot k ne = refl

kept_other : (b : Bool) (f : ℕ → Bool) (slot k : ℕ) → k ≢ slot → (if b then f else changed f slot false) k ≡ f k
kept_other true f slot k ne = refl
kept_other false f slot k ne = changed_other f slot false k ne

one_elsewhere : (port slot : ℕ) (old new : Device) → DoesSlotStep (SendsEnd slot) port slot old new → (k : ℕ) → k ≢ slot → weight new port k ≡ weight old port k
one_elsewhere port slot old new (inl f) k ne =
    let p : DevicePort = port_after_fetch (old.port port) slot f.meaning f.places in
    weight_with old new port p k (ap (λ (d : Device). d.port port) f.effect ∙ changed_same old.port port p)
    (cleared_other (is_queued f.meaning.operation) (old.port port).ci slot k ne) (changed_other (old.port port).taken slot _ k ne)
one_elsewhere port slot old new (inr (inl m)) k ne =
    let p : DevicePort = port_after_move (old.port port) slot m.fetched_command m.bytes in
    weight_with old new port p k (ap (λ (d : Device). d.port port) m.effect ∙ changed_same old.port port p) refl (changed_other (old.port port).taken slot _ k ne)
one_elsewhere port slot old new (inr (inr (inr (most, some, c)))) k ne =
    let p : DevicePort = port_after_clear (old.port port) slot c.fetched_command c.first c.count in
    weight_with old new port p k (ap (λ (d : Device). d.port port) c.effect ∙ changed_same old.port port p) refl (changed_other (old.port port).taken slot _ k ne)
one_elsewhere port slot old new (inr (inr (inl e))) k ne =
    let p : DevicePort = port_with_lasting_after_operation (port_after_done_except_lasting (old.port port) slot e.done.cause_bit e.done.fetched_command.meaning.operation) e.done.fetched_command.meaning.operation (length old.tape) in
    weight_with old new port p k
    (ap (λ (d : Device). d.port port) (end_rest port slot e.done.cause_bit e.done.fetched_command.meaning.operation e.after_end new e.posts)
    ∙ (ap (λ (d : Device). d.port port) e.done.effect ∙ changed_same old.port port p))
    (kept_other (is_queued e.done.fetched_command.meaning.operation) (old.port port).ci slot k ne) (changed_other (old.port port).taken slot None k ne)

some_elsewhere : (n port slot : ℕ) (old new : Device) → DoesExactlySlotSteps (SendsEnd slot) n port slot old new → (k : ℕ) → k ≢ slot → weight new port k ≡ weight old port k
some_elsewhere zero port slot old new e k ne = ap (λ (d : Device). weight d port k) e
some_elsewhere (suc n) port slot old new s k ne = one_elsewhere port slot s.0 new s.2 k ne ∙ some_elsewhere n port slot old s.0 s.1 k ne

-- one that was done is neither issued nor taken
pub fewer_left : (port slot : ℕ) (old new : Device) → slot < 32 → HasFinishablePageCommand old port slot → DoesAtLeastOneSlotStep (SendsEnd slot) port slot old new → SlotHasNoCommand (new.port port) slot →
    total (weight new port) 32 < total (weight old port) 32
fewer_left port slot old new small has went free =
    total_less (weight new port) (weight old port) slot 32 small (some_elsewhere (suc went.0) port slot old new went.1) (less has.may_finish.is_begun_or_fetchable)
  where
    none : weight new port slot ≡ 0
    none = λ i. (if free.is_not_issued i then 1 else 0) + (if is_some (free.is_not_taken i) then 1 else 0)

    less : WorksOn (old.port port) slot has.may_finish.fetched_command has.may_finish.fetched_command.meaning.operation
        ⊎ (Can (Fetch port slot has.may_finish.fetched_command.meaning has.may_finish.fetched_command.places) old × (has.may_finish.fetched_command ≡ newly_fetched has.may_finish.fetched_command.meaning has.may_finish.fetched_command.places)) →
        weight new port slot < weight old port slot
    less (inl works) =
        let one : weight old port slot ≡ (if (old.port port).ci slot then 1 else 0) + 1 =
        ap (λ (x : Option FetchedCommand). (if (old.port port).ci slot then 1 else 0) + (if is_some x then 1 else 0)) works.taken in
        omega (arith, none, one)
    less (inr may) =
        let one : weight old port slot ≡ 1 + (if is_some ((old.port port).taken slot) then 1 else 0) =
        ap (λ (b : Bool). (if b then 1 else 0) + (if is_some ((old.port port).taken slot) then 1 else 0)) may.0.fetchable.issued in
        omega (arith, none, one)

-- ---- a command of one port leaves the others

one_apart : (port slot : ℕ) (old new : Device) → DoesSlotStep (SendsEnd slot) port slot old new → (new.memory_size ≡ old.memory_size) × ((q : ℕ) → q ≢ port → new.port q ≡ old.port q)
one_apart port slot old new (inl f) = (
  ap (λ (d : Device). d.memory_size) f.effect,
  λ q ne. ap (λ (d : Device). d.port q) f.effect ∙ changed_other old.port port (port_after_fetch (old.port port) slot f.meaning f.places) q ne,
)
one_apart port slot old new (inr (inl m)) = (
  ap (λ (d : Device). d.memory_size) m.effect,
  λ q ne. ap (λ (d : Device). d.port q) m.effect ∙ changed_other old.port port (port_after_move (old.port port) slot m.fetched_command m.bytes) q ne,
)
one_apart port slot old new (inr (inr (inr (most, some, c)))) = (
  ap (λ (d : Device). d.memory_size) c.effect,
  λ q ne. ap (λ (d : Device). d.port q) c.effect ∙ changed_other old.port port (port_after_clear (old.port port) slot c.fetched_command c.first c.count) q ne,
)
one_apart port slot old new (inr (inr (inl e))) =
    let rest = end_rest port slot e.done.cause_bit e.done.fetched_command.meaning.operation e.after_end new e.posts in (
      ap (λ (d : Device). d.memory_size) rest ∙ ap (λ (d : Device). d.memory_size) e.done.effect,
      λ q ne.
          ap (λ (d : Device). d.port q) rest
          ∙ (ap (λ (d : Device). d.port q) e.done.effect
          ∙ changed_other old.port port (port_with_lasting_after_operation (port_after_done_except_lasting (old.port port) slot e.done.cause_bit e.done.fetched_command.meaning.operation) e.done.fetched_command.meaning.operation (length old.tape)) q ne),
    )

some_apart : (n port slot : ℕ) (old new : Device) → DoesExactlySlotSteps (SendsEnd slot) n port slot old new → (new.memory_size ≡ old.memory_size) × ((q : ℕ) → q ≢ port → new.port q ≡ old.port q)
some_apart zero port slot old new e = (ap (λ (d : Device). d.memory_size) e, λ q ne. ap (λ (d : Device). d.port q) e)
some_apart (suc n) port slot old new s =
    let first = some_apart n port slot old s.0 s.1 in
    let last = one_apart port slot s.0 new s.2 in
    (last.0 ∙ first.0, λ q ne. last.1 q ne ∙ first.1 q ne)

pub gone_apart : (port slot : ℕ) (old new : Device) → DoesAtLeastOneSlotStep (SendsEnd slot) port slot old new → (new.memory_size ≡ old.memory_size) × ((q : ℕ) → q ≢ port → new.port q ≡ old.port q)
gone_apart port slot old new went = some_apart (suc went.0) port slot old new went.1

pub fetched_apart : (port slot : ℕ) (did : Bool) (old new : Device) → (did ≡ true → DoesFetch port slot old new) → (did ≡ false → new ≡ old) →
    (new.memory_size ≡ old.memory_size) × ((q : ℕ) → q ≢ port → new.port q ≡ old.port q)
fetched_apart port slot true old new went same = one_apart port slot old new (inl (went refl))
fetched_apart port slot false old new went same = (ap (λ (d : Device). d.memory_size) (same refl), λ q ne. ap (λ (d : Device). d.port q) (same refl))

-- so what such a port has taken, and can be done to its end, still can be, and could before
pub page_stays : (old new : Device) (port k : ℕ) → new.port port ≡ old.port port → new.memory_size ≡ old.memory_size → HasTakenCommand old port → (has : HasFinishablePageCommand old port k) →
    (now : HasFinishablePageCommand new port k) × (now.moves_left ≡ has.moves_left)
page_stays old new port k same size busy has = by has.may_finish.is_begun_or_fetchable
  where
    t : FetchedCommand
    t = has.may_finish.fetched_command

    by : WorksOn (old.port port) k t t.meaning.operation ⊎ (Can (Fetch port k t.meaning t.places) old × (t ≡ newly_fetched t.meaning t.places)) →
        (now : HasFinishablePageCommand new port k) × (now.moves_left ≡ has.moves_left)
    by (inr may) = absurd (busy_bars old port k busy (record { meaning = t.meaning; places = t.places; sends_page = has.sends_page; can = may.0 }))
    by (inl works) =
        let P : DevicePort → Type 0 = λ p. WorksOn p k t t.meaning.operation in
        let Q : ℕ → Type 0 = λ n. HasMovesLeftInMemory t n has.moves_left in (
          record {
            moves_left = has.moves_left;
            may_finish = record {
              fetched_command = t;
              has_moves_left = subst Q (sym size) has.may_finish.has_moves_left;
              has_trim_runs_left = page_clears t.meaning.operation new.memory t has.sends_page;
              is_begun_or_fetchable = inl (subst P (sym same) works);
            };
            sends_page = has.sends_page;
            addresses_are_low = has.addresses_are_low;
          },
          refl,
        )

pub busy_stays : (old new : Device) (port : ℕ) → new.port port ≡ old.port port → HasTakenCommand old port → HasTakenCommand new port
busy_stays old new port same busy = (busy.0, busy.1, ap (λ (p : DevicePort). p.taken busy.0) same ∙ busy.2)

-- ---- a reading leaves none where none was left

working_noted : (p : DevicePort) (n : Notes) (operation : Operation) → IsWorking (record p { notes = n }) operation → IsWorking p operation
working_noted p n operation w = record { cr_is_set = w.cr_is_set; present = w.present; fresh = w.fresh; admitted = w.admitted; is_not_broken = w.is_not_broken }

works_noted : (p : DevicePort) (n : Notes) (slot : ℕ) (t : FetchedCommand) (operation : Operation) → WorksOn (record p { notes = n }) slot t operation → WorksOn p slot t operation
works_noted p n slot t operation w = record { taken = w.taken; working = working_noted p n operation w.working }

has_noted : (d : Device) (f : ℕ → DevicePort) (n : Notes) (port slot : ℕ) → f port ≡ record (d.port port) { notes = n } → HasFinishablePageCommand (record d { port = f }) port slot → HasFinishablePageCommand d port slot
has_noted d f n port slot is has = record {
  moves_left = has.moves_left;
  may_finish = record {
    fetched_command = has.may_finish.fetched_command;
    has_moves_left = has.may_finish.has_moves_left;
    has_trim_runs_left = has.may_finish.has_trim_runs_left;
    is_begun_or_fetchable = by has.may_finish.is_begun_or_fetchable;
  };
  sends_page = has.sends_page;
  addresses_are_low = has.addresses_are_low;
}
  where
    t : FetchedCommand
    t = has.may_finish.fetched_command

    by : WorksOn (f port) slot t t.meaning.operation ⊎ (Can (Fetch port slot t.meaning t.places) (record d { port = f }) × (t ≡ newly_fetched t.meaning t.places)) →
        WorksOn (d.port port) slot t t.meaning.operation ⊎ (Can (Fetch port slot t.meaning t.places) d × (t ≡ newly_fetched t.meaning t.places))
    by (inl works) = inl (works_noted (d.port port) n slot t t.meaning.operation (subst (λ (p : DevicePort). WorksOn p slot t t.meaning.operation) is works))
    by (inr may) =
        let fetchable = subst (λ (p : DevicePort). IsFetchable p slot) is may.0.fetchable in
        let working = subst (λ (p : DevicePort). IsWorking p t.meaning.operation) is may.0.working in
        inr (
          record {
            fetchable = record { st_is_set = fetchable.st_is_set; issued = fetchable.issued; free = fetchable.free };
            working = working_noted (d.port port) n t.meaning.operation working;
            is_alone_or_all_are_queued = subst (λ (p : DevicePort). IsAloneOrAllAreQueued p t.meaning.operation) is may.0.is_alone_or_all_are_queued;
            says = subst (λ (p : DevicePort). DecodesTo d.memory p.bases.clb slot t.meaning t.places) is may.0.says;
          },
          may.1,
        )

may_noted : (d : Device) (f : ℕ → DevicePort) (n : Notes) (port slot : ℕ) → f port ≡ record (d.port port) { notes = n } → MayTakePageCommand (record d { port = f }) port slot → MayTakePageCommand d port slot
may_noted d f n port slot is may =
    let fetchable = subst (λ (p : DevicePort). IsFetchable p slot) is may.can.fetchable in
    let working = subst (λ (p : DevicePort). IsWorking p may.meaning.operation) is may.can.working in
    record {
      meaning = may.meaning;
      places = may.places;
      sends_page = may.sends_page;
      can = record {
        fetchable = record { st_is_set = fetchable.st_is_set; issued = fetchable.issued; free = fetchable.free };
        working = working_noted (d.port port) n may.meaning.operation working;
        is_alone_or_all_are_queued = subst (λ (p : DevicePort). IsAloneOrAllAreQueued p may.meaning.operation) is may.can.is_alone_or_all_are_queued;
        says = subst (λ (p : DevicePort). DecodesTo d.memory p.bases.clb slot may.meaning may.places) is may.can.says;
      };
    }

pub noted_may : (r : Reg) (v : ℕ) (d : Device) (port slot : ℕ) → MayTakePageCommand (device_after_reading r v d) port slot → MayTakePageCommand d port slot
noted_may (Px q r) v d port slot may =
    let p : DevicePort = record (d.port q.0) { notes = notes_after_reading r v (d.port q.0) } in
    elim (eqb_tells port q.0) [
      | inl here ↦
          let same : port ≡ q.0 = here.1 in
          may_noted d (changed d.port q.0 p) (notes_after_reading r v (d.port q.0)) port slot
          (ap (λ k. changed d.port q.0 p k) same ∙ (changed_same d.port q.0 p ∙ ap (λ k. record (d.port k) { notes = notes_after_reading r v (d.port q.0) }) (sym same))) may
      | inr there ↦ may_noted d (changed d.port q.0 p) (d.port port).notes port slot (changed_other d.port q.0 p port there.1) may
    ]
noted_may Cap v d port slot may = may
noted_may Ghc v d port slot may = may
noted_may Is v d port slot may = may
noted_may Pi v d port slot may = may
noted_may Vs v d port slot may = may
noted_may Cap2 v d port slot may = may
noted_may Bohc v d port slot may = may

pub noted_page : (r : Reg) (v : ℕ) (d : Device) (port slot : ℕ) → HasFinishablePageCommand (device_after_reading r v d) port slot → HasFinishablePageCommand d port slot
noted_page (Px q r) v d port slot has =
    let p : DevicePort = record (d.port q.0) { notes = notes_after_reading r v (d.port q.0) } in
    elim (eqb_tells port q.0) [
      | inl here ↦
          let same : port ≡ q.0 = here.1 in
          has_noted d (changed d.port q.0 p) (notes_after_reading r v (d.port q.0)) port slot
          (ap (λ k. changed d.port q.0 p k) same ∙ (changed_same d.port q.0 p ∙ ap (λ k. record (d.port k) { notes = notes_after_reading r v (d.port q.0) }) (sym same))) has
      | inr there ↦ has_noted d (changed d.port q.0 p) (d.port port).notes port slot (changed_other d.port q.0 p port there.1) has
    ]
noted_page Cap v d port slot has = has
noted_page Ghc v d port slot has = has
noted_page Is v d port slot has = has
noted_page Pi v d port slot has = has
noted_page Vs v d port slot has = has
noted_page Cap2 v d port slot has = has
noted_page Bohc v d port slot has = has
