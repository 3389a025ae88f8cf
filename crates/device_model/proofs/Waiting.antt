-- A disk that is out waits, as it is, until it is put in.
use Rattle.std.proofs.Common.{ℕ, zero, suc, Bool, true, false, ◌≡◌, ◌≢◌, ◌<◌, ◌⊎◌, ◌∙◌, List, [], ◌∷◌, All, Option, None, Some, refl, sym, ap, subst, inl, inr, arith}
use Rattle.std.proofs.lemmas.Bool.Decides.{eqb_tells}
use Rattle.std.proofs.lemmas.List.Elements.{All-head, All-tail}
use Rattle.std.specs.Prelude.{if◌then◌else◌, nat_eq, option_map}
use Rattle.adapter.specs.AskedSteps.{DoesPlug, DoesUnplug, DoesAskedStep, DoesAtLeastOneSlotStep, bsy_mask}
use Rattle.adapter.specs.Device.{Device, DevicePort, FetchedCommand}
use Rattle.adapter.specs.Steps.{Can, WorksOn, newly_fetched}
use Rattle.adapter.specs.Steps.DeviceTransition.{Fetch}
use Rattle.adapter.specs.declared.access.DeviceStep.{DeviceStep}
use Rattle.adapter.specs.declared.access.DeviceStep.TheVariants as asked
use Rattle.sector_store.specs.declared.store.Failures.{Failures}
use Rattle.device_model.specs.Disks.{disk_in_bay, disk_number, numbered_disk, disk_index_of}
use Rattle.device_model.specs.StepEffects.{AnswersStep, MayAskStore, ClearsFewerSectorsThan, StepFails, FailsToClear, FailsToMove, IsPossible, PutsDiskIntoPort, asked_port, disk_index_after}
use Rattle.device_model.specs.ModelState.{device_at}
use Rattle.device_model.specs.Queue.{AnswersEachStep}
use Rattle.device_model.specs.SentFises.{SendsFisOfAskedEndOrFault, SendsEnd}
use Rattle.device_model.specs.declared.disks.DiskIndex.{DiskIndex}
use Rattle.device_model.specs.declared.disks.DiskIndex.TheVariants.{Disk0, Disk1}
use Rattle.device_model.specs.declared.bay.PageSource.{PageSource}
use Rattle.device_model.specs.declared.model.Model.{Model}
use Rattle.device_model.proofs.Places.{changed_each, changed_other}
use Rattle.device_model.specs.declared.bay.Bay.{Bay}
use Rattle.device_model.proofs.Absurd.{some-none, some_one, true-false}
use Rattle.device_model.proofs.Doing.{whichs}
use Rattle.device_model.proofs.TwoDisks.{each_port}
use Rattle.device_model.proofs.Posting.{clearing_fails, moving_fails}
use Rattle.device_model.proofs.Own.{clear_keeps_present, fatal_keeps_present, fault_keeps_present, one_keeps_present, senseless_keeps_present, some_keep_present}

named_by : (w : DiskIndex) (number : ℕ) → number < 2 → w ≡ (if nat_eq number 0 then Disk0 else Disk1) → number ≡ disk_number w
named_by w zero small e = sym (ap disk_number e)
named_by w (suc zero) small e = sym (ap disk_number e)
named_by w (suc (suc n)) small e = absurd (omega (arith, small))

-- a port that works has a disk in it
there : (d : Device) (port : ℕ) {q : ℕ} → q ≡ port → (d.port q).present ≡ false → (d.port port).present ≡ true → ⊥
there d port {q} at empty present = true-false present (subst (λ k. (d.port k).present ≡ false) at empty)

-- a disk that is taken out of a port leaves the others as they are
unplug_empties : (q port : ℕ) (old new : Device) → DoesUnplug port old new → (old.port q).present ≡ false → (new.port q).present ≡ false
unplug_empties q port old new did empty =
    ap (λ (d : Device). (d.port q).present) did.effect
    ∙ changed_each old.port port _ (λ k p. k ≡ q → p.present ≡ false) (λ _. refl) (λ k here. ap (λ n. (old.port n).present) here ∙ empty) q refl

-- and so does one that is put in
plug_elsewhere : (q port number : ℕ) (old new : Device) → DoesPlug port number old new → (old.port q).present ≡ false → (q ≡ port → ⊥) → (new.port q).present ≡ false
plug_elsewhere q port number old new did empty apart =
    ap (λ (d : Device). (d.port q).present) did.effect ∙ (ap (λ (p : DevicePort). p.present) (changed_other old.port port _ q apart) ∙ empty)

-- a step of this port that doesn't put the disk in leaves it out
still_out : (l : Option DiskIndex) (s : DeviceStep) (d : Device) (q : ℕ) (w : DiskIndex) (v : Option DiskIndex) → q ≡ asked_port s → v ≢ Some w → (PutsDiskIntoPort l q w s → ⊥) → IsPossible s d → disk_index_after s v ≢ Some w
still_out l (asked.Plug p number) d q w None at out never may = λ e. some-none e refl
still_out l (asked.Plug p number) d q w (Some v) at out never may = λ e. never (sym at, named_by w number.0 may.2 (sym (some_one e)))
still_out l (asked.Fetch p s) d q w v at out never may = out
still_out l (asked.Move p s) d q w v at out never may = out
still_out l (asked.Clear p s n) d q w v at out never may = out
still_out l (asked.Done p s) d q w v at out never may = out
still_out l (asked.Finish p s) d q w v at out never may = out
still_out l (asked.Fault p s error) d q w v at out never may = out
still_out l (asked.FaultBusy p s error) d q w v at out never may = out
still_out l (asked.Fatal p error) d q w v at out never may = out
still_out l (asked.Scribble p byte) d q w v at out never may = out
still_out l (asked.Lie p page offset bits) d q w v at out never may = out
still_out l (asked.Truth p) d q w v at out never may = out
still_out l (asked.Hold p) d q w v at out never may = out
still_out l (asked.Release p) d q w v at out never may = out
still_out l (asked.Unplug p) d q w v at out never may = out
still_out l (asked.LosePlug p) d q w v at out never may = out

-- where a port has no disk in it, nothing that is asked puts one in, but a Plug
still_empty : (s : DeviceStep) (old new : Device) (q : ℕ) (w : DiskIndex) (v : Option DiskIndex) → (old.port q).present ≡ false → (PutsDiskIntoPort (Some w) q w s → ⊥) → IsPossible s old →
    DoesAskedStep (SendsFisOfAskedEndOrFault s) s old new → (q ≡ asked_port s → disk_index_after s v ≡ Some w) → (new.port q).present ≡ false
still_empty (asked.Fetch p s) old new q w v empty never may did same = one_keeps_present q p.0 s.0 old new (inl did) ∙ empty
still_empty (asked.Move p s) old new q w v empty never may did same = one_keeps_present q p.0 s.0 old new (inr (inl did)) ∙ empty
still_empty (asked.Clear p s n) old new q w v empty never may did same = clear_keeps_present q p.0 s.0 n old new did ∙ empty
still_empty (asked.Done p s) old new q w v empty never may did same = one_keeps_present q p.0 s.0 old new (inr (inr (inl did))) ∙ empty
still_empty (asked.Finish p s) old new q w v empty never may did same = some_keep_present q (suc did.0) p.0 s.0 old new did.1 ∙ empty
still_empty (asked.Fault p s error) old new q w v empty never may did same = fault_keeps_present q p.0 s.0 error 0 old new did ∙ empty
still_empty (asked.FaultBusy p s error) old new q w v empty never may did same = fault_keeps_present q p.0 s.0 error bsy_mask old new did ∙ empty
still_empty (asked.Scribble p byte) old new q w v empty never may did same = ap (λ (d : Device). (d.port q).present) did.effect ∙ empty
still_empty (asked.Fatal p error) old new q w v empty never may did same = fatal_keeps_present q p.0 error old new did ∙ empty
still_empty (asked.Lie p page offset bits) old new q w v empty never may did same = ap (λ (d : Device). (d.port q).present) did ∙ empty
still_empty (asked.Truth p) old new q w v empty never may did same = ap (λ (d : Device). (d.port q).present) did ∙ empty
still_empty (asked.Hold p) old new q w v empty never may did same = ap (λ (d : Device). (d.port q).present) did ∙ empty
still_empty (asked.Release p) old new q w v empty never may did same = ap (λ (d : Device). (d.port q).present) did ∙ empty
still_empty (asked.Unplug p) old new q w v empty never may did same = unplug_empties q p.0 old new did empty
still_empty (asked.Plug p number) old new q w None empty never may did same = plug_elsewhere q p.0 number.0 old new did empty (λ here. some-none (same here) refl)
still_empty (asked.Plug p number) old new q w (Some v) empty never may did same =
    plug_elsewhere q p.0 number.0 old new did empty (λ here. absurd (never (sym here, named_by w number.0 may.2 (sym (some_one (same here))))))
still_empty (asked.LosePlug p) old new q w v empty never may did same = plug_elsewhere q p.0 (old.port p.0).disk.name old new did empty (λ here. never (sym here, refl))

moving_keeps : (cached : Bool) (q port slot : ℕ) (was now : Option Failures) (says later : Option PageSource) (old new : Device) → FailsToMove cached port slot was now says later old new →
    (new.port q).present ≡ (old.port q).present
moving_keeps cached q port slot was now says later old new f =
    fault_keeps_present q port slot f.error 0 old new (moving_fails cached port slot was now says later old new f)

clearing_keeps : (cached : Bool) (q port slot : ℕ) (was now : Option Failures) (says later : Option PageSource) (old new : Device) → FailsToClear cached port slot was now says later old new →
    (new.port q).present ≡ (old.port q).present
clearing_keeps cached q port slot was now says later old new f =
    fault_keeps_present q port slot f.error 0 old new (clearing_fails cached port slot was now says later old new f)

-- nor does a fault
still_failed : (q : ℕ) (s : DeviceStep) (cached : Bool) (was now : Option Failures) (says later : Option PageSource) (old new : Device) → (old.port q).present ≡ false →
    StepFails s cached was now says later old new → (new.port q).present ≡ false
still_failed q (asked.Move p s) cached was now says later old new empty f = moving_keeps cached q p.0 s.0 was now says later old new f ∙ empty
still_failed q (asked.Clear p s most) cached was now says later old new empty (mid, before, f) =
    clearing_keeps cached q p.0 s.0 was now says later mid new f ∙ (by before ∙ empty)
  where
    by : (mid ≡ old) ⊎ ClearsFewerSectorsThan p.0 s.0 most old mid → (mid.port q).present ≡ (old.port q).present
    by (inl same) = ap (λ (d : Device). (d.port q).present) same
    by (inr did) = clear_keeps_present q p.0 s.0 most old mid did.0
still_failed q (asked.Finish p s) cached was now says later old new empty (mid, before, f) = by f ∙ (went before ∙ empty)
  where
    went : (mid ≡ old) ⊎ DoesAtLeastOneSlotStep (SendsEnd s.0) p.0 s.0 old mid → (mid.port q).present ≡ (old.port q).present
    went (inl same) = ap (λ (d : Device). (d.port q).present) same
    went (inr did) = some_keep_present q (suc did.0) p.0 s.0 old mid did.1

    by : FailsToMove cached p.0 s.0 was now says later mid new ⊎ FailsToClear cached p.0 s.0 was now says later mid new → (new.port q).present ≡ (mid.port q).present
    by (inl moves) = moving_keeps cached q p.0 s.0 was now says later mid new moves
    by (inr clears) = clearing_keeps cached q p.0 s.0 was now says later mid new clears
still_failed q (asked.Fetch p s) cached was now says later old new empty f = senseless_keeps_present q p.0 s.0 old new f.sends ∙ empty
still_failed q (asked.Done p s) cached was now says later old new empty f = absurd f
still_failed q (asked.Fault p s error) cached was now says later old new empty f = absurd f
still_failed q (asked.FaultBusy p s error) cached was now says later old new empty f = absurd f
still_failed q (asked.Fatal p error) cached was now says later old new empty f = absurd f
still_failed q (asked.Scribble p byte) cached was now says later old new empty f = absurd f
still_failed q (asked.Lie p page offset bits) cached was now says later old new empty f = absurd f
still_failed q (asked.Truth p) cached was now says later old new empty f = absurd f
still_failed q (asked.Hold p) cached was now says later old new empty f = absurd f
still_failed q (asked.Release p) cached was now says later old new empty f = absurd f
still_failed q (asked.Unplug p) cached was now says later old new empty f = absurd f
still_failed q (asked.Plug p number) cached was now says later old new empty f = absurd f
still_failed q (asked.LosePlug p) cached was now says later old new empty f = absurd f

-- the disk is the one that is in or was last, or it isn't
is_it : (v : Option DiskIndex) (w : DiskIndex) → (v ≡ Some w) ⊎ (v ≢ Some w)
is_it None w = inr (λ e. some-none e refl)
is_it (Some Disk0) Disk0 = inl refl
is_it (Some Disk0) Disk1 = inr (λ e. absurd (let no : Disk0 ≡ Disk1 = some_one e in cc))
is_it (Some Disk1) Disk0 = inr (λ e. absurd (let no : Disk1 ≡ Disk0 = some_one e in cc))
is_it (Some Disk1) Disk1 = inl refl

module _ {S : Type 0} (size : S → ℕ) (told : S → Option (ℕ → List ℕ)) (failures : S → Option Failures) (q : ℕ) where
  -- where it is the disk that is in or was last, the port has none in it
  abbrev pub IsOut : DiskIndex → Model S → Type 0
  IsOut w m = disk_index_of m q ≡ Some w → ((device_at size told m).port q).present ≡ false

  -- where the port has no disk in it, its store isn't asked
  none_moves : (s : DeviceStep) (w : DiskIndex) (m : Model S) → (PutsDiskIntoPort (Some w) q w s → ⊥) → q ≡ asked_port s → ((device_at size told m).port q).present ≡ false →
      MayAskStore s (device_at size told m) → ⊥
  none_moves (asked.Move p s) w m never at empty moves = there (device_at size told m) p.0 at empty moves.2.works.working.present
  none_moves (asked.Finish p s) w m never at empty moves = by moves.4.is_begun_or_fetchable
    where
      d : Device
      d = device_at size told m

      t : FetchedCommand
      t = moves.4.fetched_command

      by : WorksOn (d.port p.0) s.0 t t.meaning.operation ⊎ (Can (Fetch p.0 s.0 t.meaning t.places) d × (t ≡ newly_fetched t.meaning t.places)) → ⊥
      by (inl works) = there d p.0 at empty works.working.present
      by (inr begins) = there d p.0 at empty begins.0.working.present
  none_moves (asked.Fetch p s) w m never at empty moves = moves
  none_moves (asked.Clear p s most) w m never at empty moves = there (device_at size told m) p.0 at empty moves.2.works.working.present
  none_moves (asked.Done p s) w m never at empty moves = moves
  none_moves (asked.Fault p s error) w m never at empty moves = moves
  none_moves (asked.FaultBusy p s error) w m never at empty moves = moves
  none_moves (asked.Fatal p error) w m never at empty moves = moves
  none_moves (asked.Scribble p byte) w m never at empty moves = moves
  none_moves (asked.Lie p page offset bits) w m never at empty moves = moves
  none_moves (asked.Truth p) w m never at empty moves = moves
  none_moves (asked.Hold p) w m never at empty moves = moves
  none_moves (asked.Release p) w m never at empty moves = moves
  none_moves (asked.Unplug p) w m never at empty moves = moves
  none_moves (asked.Plug p number) w m never at empty moves = moves
  none_moves (asked.LosePlug p) w m never at empty moves = never (sym at, refl)

  one_stays : (l : Option DiskIndex) (s : DeviceStep) (answer : Bool) (old new : Model S) (w : DiskIndex) → disk_index_of old q ≢ Some w → (PutsDiskIntoPort l q w s → ⊥) →
      AnswersStep size told failures s answer old new → (disk_index_of new q ≢ Some w) × (numbered_disk new q w ≡ numbered_disk old q w)
  one_stays l s true old new w out never a = (
    elim (eqb_tells q (asked_port s)) [
      | inl here ↦
          λ e.
          let P : ℕ → Type 0 = λ k. disk_index_of new k ≡ disk_index_after s (disk_index_of old k) in
          still_out l s _ q w (disk_index_of old q) here.1 out never a.0 (sym (subst P (sym here.1) a.1.disk_index_is) ∙ e)
      | inr there ↦ λ e. out (sym (ap (option_map (λ (b : Bay S). b.which)) (a.1.other_bays_are_kept q there.1)) ∙ e)
    ],
    a.1.step_keeps.disks_not_last_in_are_kept q w out,
  )
  one_stays l s false old new w out never a = (
    λ e. out (sym (whichs size told failures (asked_port s) old new a.disk_index_is a.other_bays_are_kept q) ∙ e),
    a.step_keeps.disks_not_last_in_are_kept q w out,
  )

  pub out_stays : (l : Option DiskIndex) (steps : List DeviceStep) (old new : Model S) (w : DiskIndex) → disk_index_of old q ≢ Some w → All (λ s. PutsDiskIntoPort l q w s → ⊥) steps →
      AnswersEachStep size told failures steps old new → (disk_index_of new q ≢ Some w) × (numbered_disk new q w ≡ numbered_disk old q w)
  out_stays l [] old new w out none same = (λ e. out (sym (ap (λ (m : Model S). disk_index_of m q) same) ∙ e), ap (λ (m : Model S). numbered_disk m q w) same)
  out_stays l (s ∷ steps) old new w out none does =
      let P : DeviceStep → Type 0 = λ x. PutsDiskIntoPort l q w x → ⊥ in
      let first = one_stays l s does.0 old does.1 w out (All-head P s steps none) does.2 in
      let last = out_stays l steps does.1 new w first.0 (All-tail P s steps none) does.3 in
      (last.0, last.1 ∙ first.1)

  last_stays : (s : DeviceStep) (answer : Bool) (old new : Model S) (w : DiskIndex) → ((device_at size told old).port q).present ≡ false →
      (PutsDiskIntoPort (Some w) q w s → ⊥) → AnswersStep size told failures s answer old new → IsOut w new × (numbered_disk new q w ≡ numbered_disk old q w)
  last_stays s true old new w empty never a = (
    λ same.
        elim a.1.completes_or_fails [
          | inl whole ↦ still_empty s _ _ q w (disk_index_of old q) empty never a.0 whole.does_asked_step (after same)
          | inr failed ↦ still_failed q s _ _ _ _ _ _ _ empty failed
        ],
    elim (eqb_tells q (asked_port s)) [
      | inl here ↦
          let P : ℕ → Type 0 = λ k. numbered_disk new k w ≡ numbered_disk old k w in
          subst P (sym here.1) (a.1.disks_are_kept (none_moves s w old never here.1 empty) w)
      | inr there ↦ ap (option_map (λ (b : Bay S). disk_in_bay b w)) (a.1.other_bays_are_kept q there.1)
    ],
  )
    where
      after : disk_index_of new q ≡ Some w → q ≡ asked_port s → disk_index_after s (disk_index_of old q) ≡ Some w
      after same here = let P : ℕ → Type 0 = λ k. disk_index_of new k ≡ disk_index_after s (disk_index_of old k) in sym (subst P (sym here) a.1.disk_index_is) ∙ same
  last_stays s false old new w empty never a = (
    λ _. ap (λ (d : Device). (d.port q).present) a.device_is_kept ∙ empty,
    each_port (option_map (λ (b : Bay S). disk_in_bay b w)) old new (asked_port s) (a.disks_are_kept w) a.other_bays_are_kept q,
  )

  one_waits : (s : DeviceStep) (answer : Bool) (old new : Model S) (w : DiskIndex) → IsOut w old → (PutsDiskIntoPort (Some w) q w s → ⊥) → AnswersStep size told failures s answer old new →
      IsOut w new × (numbered_disk new q w ≡ numbered_disk old q w)
  one_waits s answer old new w out never a =
      elim (is_it (disk_index_of old q) w) [
        | inl is ↦ last_stays s answer old new w (out is) never a
        | inr ne ↦ let other = one_stays (Some w) s answer old new w ne never a in ((λ e. absurd (other.0 e)), other.1)
      ]

  pub last_waits : (steps : List DeviceStep) (old new : Model S) (w : DiskIndex) → IsOut w old → All (λ s. PutsDiskIntoPort (Some w) q w s → ⊥) steps →
      AnswersEachStep size told failures steps old new → IsOut w new × (numbered_disk new q w ≡ numbered_disk old q w)
  last_waits [] old new w out none same =
      let P : Model S → Type 0 = λ m. IsOut w m in (subst P (sym same) out, ap (λ (m : Model S). numbered_disk m q w) same)
  last_waits (s ∷ steps) old new w out none does =
      let P : DeviceStep → Type 0 = λ x. PutsDiskIntoPort (Some w) q w x → ⊥ in
      let first = one_waits s does.0 old does.1 w out (All-head P s steps none) does.2 in
      let rest = last_waits steps does.1 new w first.0 (All-tail P s steps none) does.3 in
      (rest.0, rest.1 ∙ first.1)
