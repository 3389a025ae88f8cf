-- What the device's steps leave of requests that wait, and of slots.
use Rattle.std.proofs.Common.{ℕ, zero, suc, ◌≡◌, ◌≢◌, ◌⊎◌, ◌++◌, true, false, map, Option, None, Some, List, [], ◌∷◌, refl, sym, ◌∙◌, ap, subst, ⊎_elim}
use Rattle.std.specs.List.{All, Contains}
use Rattle.std.proofs.lemmas.Bool.{and_parts, not-true}
use Rattle.std.proofs.lemmas.List.Elements.{All-head, All-tail}
use Rattle.ata_types.specs.declared.grant.GrantRow.{GrantRow}
use Rattle.ata_types.specs.declared.request.Op.{Op}
use Rattle.ata_types.specs.declared.request.Op.TheVariants.{Read, Write, Trim, Flush}
use Rattle.ata_types.specs.declared.request.RequestId.{RequestId}
use Rattle.adapter.specs.Device.{Device}
use Rattle.adapter.specs.declared.tape.Move as tape_move
use Rattle.adapter.specs.declared.tape.Done as tape_done
use Rattle.adapter.specs.declared.tape.Entry.{Entry}
use Rattle.adapter.specs.declared.tape.Entry.TheVariants as entry
use Rattle.block_machine.specs.declared.due.QueueMode.{QueueMode}
use Rattle.block_machine.specs.declared.due.Unanswered.{Unanswered}
use Rattle.block_machine.specs.State.{Accepted, Pending, Machine, unanswered}
use Rattle.block_machine.specs.DueRequests.{IsDue, with_issued}
use Rattle.block_machine.specs.Rules.{HasRow}
use Rattle.block_machine.specs.Steps.{Step, Accept, Issue, Touch, End, Age, WaitAgain, Answer, Revoke, Release, Unplug, PlugDisk, Store, Load, IsEnabled, IsIssuedOrKept, after_step, update_pending, newly_issued, touch, mark_ended}
use Rattle.block_machine.specs.Expected as left
use Rattle.block_machine.specs.Events.{AllEnabled, IsByDevice, AllByDevice}
use Rattle.block_machine.specs.Histories.{IsReachable}
use Rattle.block_machine.proofs.Members.{map_in, into_map, at_cases}
use Rattle.block_machine.proofs.Keeps.{at_keeps}
use Rattle.block_machine.proofs.Sound.{Sound}
use Rattle.block_machine.proofs.Standing.{standing}
use Rattle.block_machine.proofs.Stepping.{asks_issued}
use Rattle.block_machine.proofs.HistoryLemmas.{reached_more}
use Rattle.refinement.specs.Acts.{IsIssueStep}
use Rattle.refinement.specs.Slots.{Serves, SlotStates, client_operation_of}
use Rattle.refinement.specs.Relation.{HaveSlotsUnlessParked}
use Rattle.refinement.specs.Tape.{TellsTouchOrIsScratchMove, TellsDone, TellsEntry, TapeTells, touch_steps}
use Rattle.refinement.specs.Simulation.{SimulatesSteps}
use Rattle.refinement.proofs.relation.TouchesAndEnds.{Goes, touch_goes, end_goes}
use Rattle.refinement.proofs.relation.OtherSlots.{true_false}

-- ---- what an entry tells is the device's

pub device_append : (late early : List Step) → AllByDevice late → AllByDevice early → AllByDevice (late ++ early)
device_append [] early a b = b
device_append (step ∷ late) early a b = (device_append late early a.0 b, a.1)

touches_device : (e : Pending) (from n : ℕ) → AllByDevice (touch_steps e from n)
touches_device e from zero = tt
touches_device e from (suc n) = (touches_device e from n, tt)

from_steps : {steps all : List Step} → steps ≡ all → AllByDevice all → AllByDevice steps
from_steps e a = subst AllByDevice (sym e) a

move_device : (o : Option Op) (m : Machine) (move : tape_move.Move) (steps : List Step) → TellsTouchOrIsScratchMove o m move steps → AllByDevice steps
move_device None m move steps t = from_steps t.1 tt
move_device (Some Read) m move steps t = from_steps t.step_is (tt, tt)
move_device (Some Write) m move steps t = from_steps t.step_is (tt, tt)
move_device (Some Trim) m move steps t = from_steps t.1 tt
move_device (Some Flush) m move steps t = absurd t

done_device : (o : Option Op) (m : Machine) (done : tape_done.Done) (steps : List Step) → TellsDone o m done steps → AllByDevice steps
done_device None m done steps t = from_steps t tt
done_device (Some op) m done steps t = from_steps t.step_is (tt, tt)

pub entry_device : (m : Machine) (e : Entry) (steps : List Step) → TellsEntry m e steps → AllByDevice steps
entry_device m (entry.Move move) steps t = move_device (client_operation_of move.operation) m move steps t
entry_device m (entry.Clear clear) steps t = from_steps t.step_is (touches_device t.pending t.first_number clear.count)
entry_device m (entry.Done done) steps t = done_device (client_operation_of done.operation) m done steps t
entry_device m (entry.Fault fault) steps t = from_steps t tt
entry_device m (entry.Fatal port) steps t = from_steps t tt
entry_device m (entry.Unplug port) steps t = from_steps t (tt, tt)
entry_device m (entry.Plug port name) steps t = from_steps t.2 (tt, tt)

pub tells_device : (m : Machine) (entries : List Entry) (steps : List Step) → TapeTells m entries steps → AllByDevice steps
tells_device m [] steps t = from_steps t tt
tells_device m (e ∷ entries) steps t =
    from_steps t.4 (device_append t.1 t.0 (tells_device (left.after m t.0) entries t.1 t.3) (entry_device m e t.0 t.2))

-- ---- requests keep their slots

pub have_on : (uses : SlotStates) (m m' : Machine) (id : RequestId) → Goes m m' id → (port : ℕ) (parked : List RequestId) → HaveSlotsUnlessParked uses m port parked → HaveSlotsUnlessParked uses m' port parked
have_on uses m m' id goes port parked have e r at_port =
    let q = goes.back e r in
    subst (λ (j : Accepted). Contains parked j.id ⊎ ((slot : ℕ) × (uses port slot ≡ Serves j.id))) (sym q.2) (have q.0 q.1 (ap (λ (j : Accepted). j.port.0) (sym q.2) ∙ at_port))

step_have : (uses : SlotStates) (m : Machine) (step : Step) → IsByDevice step → (port : ℕ) (parked : List RequestId) → HaveSlotsUnlessParked uses m port parked → HaveSlotsUnlessParked uses (after_step m step) port parked
step_have uses m (Touch x i block) is port parked had = have_on uses m (after_step m (Touch x i block)) x.request.id (touch_goes m x i block) port parked had
step_have uses m (End x) is port parked had = have_on uses m (after_step m (End x)) x.request.id (end_goes m x) port parked had
step_have uses m (Unplug p) is port parked had = had
step_have uses m (PlugDisk p name size disk) is port parked had = had
step_have uses m (Accept r) is port parked had = absurd is
step_have uses m (Issue mode x) is port parked had = absurd is
step_have uses m (Age ready) is port parked had = absurd is
step_have uses m (WaitAgain x) is port parked had = absurd is
step_have uses m (Answer x outcome) is port parked had = absurd is
step_have uses m (Revoke client number) is port parked had = absurd is
step_have uses m Release is port parked had = absurd is
step_have uses m (Store client frame offset bytes) is port parked had = absurd is
step_have uses m (Load client frame offset bytes) is port parked had = absurd is

steps_have : (uses : SlotStates) (m : Machine) (steps : List Step) → AllByDevice steps → (port : ℕ) (parked : List RequestId) → HaveSlotsUnlessParked uses m port parked → HaveSlotsUnlessParked uses (left.after m steps) port parked
steps_have uses m [] is port parked had = had
steps_have uses m (step ∷ before) is port parked had = step_have uses (left.after m before) step is.1 port parked (steps_have uses m before is.0 port parked had)

pub follows_have : (uses : SlotStates) (m : Machine) (old new : Device) (f : SimulatesSteps uses m old new) (port : ℕ) (parked : List RequestId) → HaveSlotsUnlessParked uses m port parked → HaveSlotsUnlessParked uses (left.after m f.steps) port parked
follows_have uses m old new f = steps_have uses m f.steps (tells_device m f.new_entries f.steps f.tape_tells_steps)

-- ---- requests that may be issued may be so still

-- What the device's steps leave, of what says which requests may be issued: those that wait, as they are; what all ask; on which ports some are kept; and the grants.
record LeavesWaiting (m later : Machine) : Type 0 where
  waits : (e : Pending) → Contains m.book e → e.issued ≡ false → Contains later.book e
  asks : map unanswered later.book ≡ map unanswered m.book
  kept : (y : Pending) → Contains later.kept y → (x : Pending) × Contains m.kept x × (x.request ≡ y.request)
  rows : later.rows ≡ m.rows

leaves_none : (m : Machine) → LeavesWaiting m m
leaves_none m = record { waits = λ e here waits. here; asks = refl; kept = λ y here. (y, here, refl); rows = refl }

leaves_more : (m mid later : Machine) → LeavesWaiting m mid → LeavesWaiting mid later → LeavesWaiting m later
leaves_more m mid later a b = record {
  waits = λ e here waits. b.waits e (a.waits e here waits) waits;
  asks = b.asks ∙ a.asks;
  kept = λ y here. let p = b.kept y here in let q = a.kept p.0 p.1 in (q.0, q.1, q.2 ∙ p.2);
  rows = b.rows ∙ a.rows;
}

module _ (m : Machine) (s : Sound m) (x : Pending) (r : IsIssuedOrKept m x) where
  not_moving : (e : Pending) → Contains m.book e → e.issued ≡ false → e.request.id.0 ≢ x.request.id.0
  not_moving e here waits same = ⊎_elim
      (λ (z : Contains m.book x × (x.issued ≡ true)). true_false (ap (λ (y : Pending). y.issued) (s.one e x here z.0 same) ∙ z.1) waits)
      (λ (z : Contains m.kept x). s.apart e x here z same) r

  module _ (f : Pending → Pending) (request : (y : Pending) → (f y).request ≡ y.request) (issued : (y : Pending) → (f y).issued ≡ y.issued) where
    -- what says which are due stays
    same_unanswered : (y : Pending) → unanswered (update_pending x.request.id f y) ≡ unanswered y
    same_unanswered y = ⊎_elim
        (λ p. ap unanswered p.1 ∙ both y)
        (λ p. ap unanswered p.1)
        (at_cases x.request.id f y)
      where
        both : (z : Pending) → unanswered (f z) ≡ unanswered z
        both z = let a : (f z).request ≡ z.request = request z in let b : (f z).issued ≡ z.issued = issued z in λ i. unanswered (record z { request = a i; issued = b i })

    same_book : (es : List Pending) → map unanswered (map (update_pending x.request.id f) es) ≡ map unanswered es
    same_book [] = refl
    same_book (y ∷ ys) = let a : unanswered (update_pending x.request.id f y) ≡ unanswered y = same_unanswered y in let b : map unanswered (map (update_pending x.request.id f) ys) ≡ map unanswered ys = same_book ys in λ i. a i ∷ b i

    changed_leaves : (later : Machine) → later.book ≡ map (update_pending x.request.id f) m.book → later.kept ≡ map (update_pending x.request.id f) m.kept → later.rows ≡ m.rows → LeavesWaiting m later
    changed_leaves later book kept rows = record {
      waits = λ e here waits.
          subst (λ (es : List Pending). Contains es e) (sym book)
          (subst (λ (y : Pending). Contains (map (update_pending x.request.id f) m.book) y)
          (⊎_elim (λ p. absurd (not_moving e here waits p.0)) (λ p. p.1) (at_cases x.request.id f e)) (into_map (update_pending x.request.id f) m.book e here));
      asks = ap (map unanswered) book ∙ same_book m.book;
      kept = λ y here.
          let q = map_in (update_pending x.request.id f) m.kept y (subst (λ (es : List Pending). Contains es y) kept here) in
          (q.0, q.1, sym (ap (λ (z : Pending). z.request) q.2 ∙ at_keeps x.request.id f request q.0));
      rows = rows;
    }

step_leaves : (m : Machine) → Sound m → (step : Step) → IsByDevice step → IsEnabled m step → LeavesWaiting m (after_step m step)
step_leaves m s (Touch x i block) is can = changed_leaves m s x can.0 (touch i) (λ y. refl) (λ y. refl) (after_step m (Touch x i block)) refl refl refl
step_leaves m s (End x) is can = changed_leaves m s x can.0 mark_ended (λ y. refl) (λ y. refl) (after_step m (End x)) refl refl refl
step_leaves m s (Unplug port) is can = record { waits = λ e here waits. here; asks = refl; kept = λ y here. (y, here, refl); rows = refl }
step_leaves m s (PlugDisk port name size disk) is can = record { waits = λ e here waits. here; asks = refl; kept = λ y here. (y, here, refl); rows = refl }
step_leaves m s (Accept r) is can = absurd is
step_leaves m s (Issue other x) is can = absurd is
step_leaves m s (Age ready) is can = absurd is
step_leaves m s (WaitAgain x) is can = absurd is
step_leaves m s (Answer x outcome) is can = absurd is
step_leaves m s (Revoke client number) is can = absurd is
step_leaves m s Release is can = absurd is
step_leaves m s (Store client frame offset bytes) is can = absurd is
step_leaves m s (Load client frame offset bytes) is can = absurd is

device_leaves : (m : Machine) (steps : List Step) → IsReachable m → AllByDevice steps → AllEnabled m steps → LeavesWaiting m (left.after m steps)
device_leaves m [] r is all = leaves_none m
device_leaves m (step ∷ before) r is all =
    leaves_more m (left.after m before) (after_step (left.after m before) step) (device_leaves m before r is.0 all.0)
    (step_leaves (left.after m before) (standing (left.after m before) (reached_more m before r all.0)).sound step is.1 all.1)

module _ (m later : Machine) (l : LeavesWaiting m later) (mode : QueueMode) (e : Pending) where
  issue_may : IsEnabled m (Issue mode e) → IsEnabled later (Issue mode e)
  issue_may may = (
    l.waits e may.0 (not-true e.issued (and_parts _ _ may.1.waits_and_nothing_blocks).0),
    subst (λ (b : List Unanswered). IsDue mode b (unanswered e)) (sym l.asks) may.1,
    λ y here same. let q = l.kept y here in may.2 q.0 q.1 (ap (λ (j : Accepted). j.port) q.2 ∙ same),
    subst (λ (rows : List GrantRow). HasRow e.request.asked.client e.request.asked.grant rows) (sym l.rows) may.3,
  )

  -- what is left goes on so once the request is issued
  issue_leaves : LeavesWaiting (after_step m (Issue mode e)) (after_step later (Issue mode e))
  issue_leaves = record {
    waits = λ y here waits.
        let f : Pending → Pending = update_pending e.request.id newly_issued in
        let q = map_in f m.book y here in
        ⊎_elim
        (λ p. absurd (true_false (ap (λ (z : Pending). z.issued) (q.2 ∙ p.1)) waits))
        (λ p.
        let is : y ≡ q.0 = q.2 ∙ p.1 in
        subst (λ (z : Pending). Contains (map f later.book) z) (sym q.2)
        (into_map f later.book q.0 (l.waits q.0 q.1 (ap (λ (z : Pending). z.issued) (sym is) ∙ waits))))
        (at_cases e.request.id newly_issued q.0);
    asks = asks_issued later.book e.request.id ∙ (ap (with_issued e.request.id) l.asks ∙ sym (asks_issued m.book e.request.id));
    kept = l.kept;
    rows = l.rows;
  }

-- the same for issues, one after another
issues_may : (m later : Machine) (l : LeavesWaiting m later) (own : List Step) → All IsIssueStep own → AllEnabled m own → AllEnabled later own × LeavesWaiting (left.after m own) (left.after later own)
issues_may m later l [] only may = (tt, l)
issues_may m later l (step ∷ own) only may =
    let before : AllEnabled later own × LeavesWaiting (left.after m own) (left.after later own) = issues_may m later l own (All-tail IsIssueStep step own only) may.0 in
    let now : IsEnabled (left.after later own) step × LeavesWaiting (after_step (left.after m own) step) (after_step (left.after later own) step) =
    one before.1 step (All-head IsIssueStep step own only) may.1 in
    ((before.0, now.0), now.1)
  where
    one : LeavesWaiting (left.after m own) (left.after later own) → (step : Step) → IsIssueStep step → IsEnabled (left.after m own) step →
        IsEnabled (left.after later own) step × LeavesWaiting (after_step (left.after m own) step) (after_step (left.after later own) step)
    one before (Issue mode e) is can = (issue_may (left.after m own) (left.after later own) before mode e can, issue_leaves (left.after m own) (left.after later own) before mode e)
    one before (Touch x i block) is can = absurd is
    one before (End x) is can = absurd is
    one before (Unplug port) is can = absurd is
    one before (PlugDisk port name size disk) is can = absurd is
    one before (Accept r) is can = absurd is
    one before (Age ready) is can = absurd is
    one before (WaitAgain x) is can = absurd is
    one before (Answer x outcome) is can = absurd is
    one before (Revoke client number) is can = absurd is
    one before Release is can = absurd is
    one before (Store client frame offset bytes) is can = absurd is
    one before (Load client frame offset bytes) is can = absurd is

pub steps_may : (m : Machine) (steps : List Step) → IsReachable m → AllByDevice steps → AllEnabled m steps → (own : List Step) → All IsIssueStep own → AllEnabled m own → AllEnabled (left.after m steps) own
steps_may m steps r is all own only may = (issues_may m (left.after m steps) (device_leaves m steps r is all) own only may).0
