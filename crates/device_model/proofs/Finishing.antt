-- A command that may be done is taken, goes on piece by piece and clear by clear, and ends.
use Rattle.std.proofs.Common.{[], ◌∷◌, ℕ, Bool, true, false, zero, suc, ◌≡◌, ◌<◌, ◌≤◌, ◌+◌, ◌⊎◌, List, length, slice_index, slice_index_or, Option, None, Some, refl, sym, ◌∙◌, ap, subst, inl, inr, arith}
use Rattle.std.specs.Prelude.{if◌then◌else◌}
use Rattle.adapter.specs.AskedSteps.{DoesClear, DoesFetch, DoesMove, DoesDone, DoesSlotStep, DoesExactlySlotSteps, EndsAndPosts, DoesAtLeastOneSlotStep}
use Rattle.adapter.specs.Commands.{Meaning, is_queued, moves_disk_sectors}
use Rattle.adapter.specs.Device.{Disk, FetchedCommand, Halt, DevicePort, Device}
use Rattle.adapter.specs.Memory.{changed}
use Rattle.adapter.specs.OneCommand.{SlotHasNoCommand}
use Rattle.adapter.specs.Decoding.{pieces}
use Rattle.adapter.specs.Steps.{Can, IsWorking, WorksOn, admits, newly_fetched, MayBring, next_place, next_sector, port_after_fetch, port_after_move, port_after_clear, port_after_done_except_lasting, port_with_lasting_after_operation, block_after}
use Rattle.adapter.specs.Steps.DeviceTransition.{Fetch, Move, Done}
use Rattle.adapter.specs.declared.command.Operation.{Operation}
use Rattle.adapter.specs.declared.command.Operation.TheVariants.{Trim}
use Rattle.device_model.proofs.Absurd.{some-none, some_one, true-false}
use Rattle.device_model.proofs.Places.{changed_same}
use Rattle.adapter.proofs.SaysLemmas.{says_meaning, says_places}
use Rattle.device_model.specs.StepEffects.{HasCleared, HasEndedSlot}
use Rattle.device_model.specs.Finishing.{HasDisksOrOperationMovesSectors, HasMove, HasMovesLeftInMemory, IsInProgress, MayFinish}
use Rattle.device_model.specs.SentFises.{SendsEnd}
use Rattle.device_model.specs.Slots.{IsMovedTrimWithSectorsLeftAtLeast, WorksOnIn, IsNextMove}
use Rattle.device_model.specs.Trims.{HasClear, HasClearsLeft, next_run_length, uncleared}
use Rattle.device_model.specs.PortView.{halt_of, taken_in, taken_of, reset_port_without_disk}
use Rattle.device_model.specs.WholeAdapter.{HasDisks, AllMedia, device_of}
use Rattle.device_model.specs.declared.port.PortModel.{PortModel}
use Rattle.device_model.specs.declared.hardware.Hardware.{Hardware}
use Rattle.device_model.specs.declared.port.TakenCommand.{TakenCommand}
use Rattle.adapter.specs.declared.command.Operation.TheVariants as operation
use Rattle.device_model.specs.declared.steps.NextMove.{NextMove}
use Rattle.device_model.proofs.Posting.{end_rest}
use Rattle.device_model.proofs.Trimming.{is_a_trim, moved_clears, none_left, some_uncleared, span_less}
use Rattle.device_model.proofs.SlotLemmas.{slot_taken, taken_slot}

cleared : (queued : Bool) (p : DevicePort) (slot : ℕ) →
    (if queued then (if queued then changed p.sact slot false else p.sact) slot else (if queued then p.ci else changed p.ci slot false) slot) ≡ false
cleared true p slot = changed_same p.sact slot false
cleared false p slot = changed_same p.ci slot false

-- ---- a command goes on

-- a port that was changed, and a slot of one
pub here_after : (d : Device) (port : ℕ) (p : DevicePort) → changed d.port port p port ≡ p
here_after d port p = changed_same d.port port p

pub taken_after : (p : DevicePort) (slot : ℕ) (t : Option FetchedCommand) → changed p.taken slot t slot ≡ t
taken_after p slot t = changed_same p.taken slot t

-- a port goes on to work where none of what that rests on changed
pub still_works : (p new : DevicePort) (o : Operation) → IsWorking p o → new.cr ≡ p.cr → new.present ≡ p.present → new.fresh ≡ p.fresh → new.halt ≡ p.halt →
    new.broken ≡ p.broken → IsWorking new o
still_works p new o w cr present fresh halt broken = record {
  cr_is_set = cr ∙ w.cr_is_set;
  present = present ∙ w.present;
  fresh = fresh ∙ w.fresh;
  admitted = ap (λ (h : Halt). admits h o) halt ∙ w.admitted;
  is_not_broken = broken ∙ w.is_not_broken;
}

module _ (port slot : ℕ) where
  -- it was just taken
  just_fetched : (left clears : ℕ) (old new : Device) (m : Meaning) (places : List ℕ) → HasMovesLeftInMemory (newly_fetched m places) old.memory_size left →
      HasClearsLeft m.operation old.memory (newly_fetched m places) clears → Can (Fetch port slot m places) old → DoesFetch port slot old new →
      IsInProgress new port slot left clears
  just_fetched left clears old new m places covered clearing can f =
      let p : DevicePort = old.port port in
      let state : DevicePort = port_after_fetch p slot f.meaning f.places in
      let meaning : f.meaning ≡ m = says_meaning old.memory p.bases.clb slot f.meaning m f.places places f.can.says can.says in
      let same : f.places ≡ places = says_places old.memory p.bases.clb slot f.meaning m f.places places f.can.says can.says in
      let there : new.port port ≡ state = ap (λ (d : Device). d.port port) f.effect ∙ changed_same old.port port state in
      let taken : state.taken slot ≡ Some (newly_fetched m places) =
      changed_same p.taken slot (Some (newly_fetched f.meaning f.places)) ∙ (λ i. Some (newly_fetched (meaning i) (same i))) in
      let P : DevicePort → Type 0 = λ x. WorksOn x slot (newly_fetched m places) m.operation in
      let Q : ℕ → Type 0 = λ size. HasMovesLeftInMemory (newly_fetched m places) size left in
      record {
        fetched_command = newly_fetched m places;
        has_moves_left = subst Q (sym (ap (λ (d : Device). d.memory_size) f.effect)) covered;
        has_trim_runs_left = subst (λ (memory : ℕ → ℕ). HasClearsLeft m.operation memory (newly_fetched m places) clears) (sym (ap (λ (d : Device). d.memory) f.effect)) clearing;
        works = subst P (sym there)
            (record { taken = taken; working = still_works p state m.operation can.working refl refl refl refl refl });
      }

  -- it is taken, or was
  pub fetched_goes : (left clears : ℕ) (did : Bool) (old new : Device) → MayFinish old port slot left clears → (did ≡ true → DoesFetch port slot old new) →
      (did ≡ false → new ≡ old) →
      (did ≡ false → (m : Meaning) (places : List ℕ) → Can (Fetch port slot m places) old → ⊥) → IsInProgress new port slot left clears
  fetched_goes left clears did old new ready fetched same only =
      by did refl ready.is_begun_or_fetchable
    where
      by : (b : Bool) → did ≡ b → WorksOn (old.port port) slot ready.fetched_command ready.fetched_command.meaning.operation
          ⊎ (Can (Fetch port slot ready.fetched_command.meaning ready.fetched_command.places) old × (ready.fetched_command ≡ newly_fetched ready.fetched_command.meaning ready.fetched_command.places)) → IsInProgress new port slot left clears
      by true e (inl works) = some-none works.taken (fetched e).can.fetchable.free
      by true e (inr (can, is)) =
          let P : FetchedCommand → Type 0 = λ t. HasMovesLeftInMemory t old.memory_size left in
          let Q : FetchedCommand → Type 0 = λ t. HasClearsLeft t.meaning.operation old.memory t clears in
          just_fetched left clears old new ready.fetched_command.meaning ready.fetched_command.places (subst P is ready.has_moves_left) (subst Q is ready.has_trim_runs_left) can (fetched e)
      by false e (inl works) =
          let P : Device → Type 0 = λ d. IsInProgress d port slot left clears in
          subst P (sym (same e)) (record { fetched_command = ready.fetched_command; has_moves_left = ready.has_moves_left; has_trim_runs_left = ready.has_trim_runs_left; works = works })
      by false e (inr (can, is)) = absurd (only e ready.fetched_command.meaning ready.fetched_command.places can)

  -- a piece of it is moved
  pub moved_goes : (left clears : ℕ) (old new : Device) → IsInProgress old port slot (suc left) clears → DoesMove port slot old new →
      IsInProgress new port slot left clears
  moved_goes left clears old new going m =
      let p : DevicePort = old.port port in
      let t : FetchedCommand = going.fetched_command in
      let u : FetchedCommand = record m.fetched_command { moved = m.fetched_command.moved + 1; block = block_after m.fetched_command.meaning.operation m.bytes m.fetched_command.block } in
      let state : DevicePort = port_after_move p slot m.fetched_command m.bytes in
      let same : m.fetched_command ≡ t = some_one (sym m.can.works.taken ∙ going.works.taken) in
      let there : new.port port ≡ state = ap (λ (d : Device). d.port port) m.effect ∙ changed_same old.port port state in
      let size : new.memory_size ≡ old.memory_size = ap (λ (d : Device). d.memory_size) m.effect in
      let P : DevicePort → Type 0 = λ x. WorksOn x slot u m.fetched_command.meaning.operation in
      let Q : FetchedCommand → Type 0 = λ x. HasMovesLeftInMemory x old.memory_size (suc left) in
      let covered : HasMovesLeftInMemory m.fetched_command old.memory_size (suc left) = subst Q (sym same) going.has_moves_left in
      record {
        fetched_command = u;
        has_trim_runs_left = subst (λ (memory : ℕ → ℕ). HasClearsLeft m.fetched_command.meaning.operation memory u clears) (sym (ap (λ (d : Device). d.memory) m.effect))
            (moved_clears m.fetched_command.meaning.operation p.disk old.memory m.fetched_command m.bytes clears m.can.piece_is_left m.can.brings
            (subst (λ (x : FetchedCommand). HasClearsLeft x.meaning.operation old.memory x clears) (sym same) going.has_trim_runs_left));
        has_moves_left = record {
          moves_left_are = omega (arith, covered.moves_left_are);
          pieces_are_inside = λ k small. omega (arith, size, covered.pieces_are_inside k small);
        };
        works = subst P (sym there)
            (record {
              taken = changed_same p.taken slot (Some u);
              working = still_works p state m.fetched_command.meaning.operation m.can.works.working refl refl refl refl refl;
            });
      }

  -- a run of its sectors is cleared
  pub cleared_goes : (clears : ℕ) (old new : Device) → (going : IsInProgress old port slot 0 (suc clears)) → (most : ℕ) →
      most ≡ length (uncleared going.fetched_command) → (c : DoesClear port slot most old new) → HasCleared old new port slot most → IsInProgress new port slot 0 clears
  cleared_goes clears old new going most whole c has =
      let p : DevicePort = old.port port in
      let t : FetchedCommand = going.fetched_command in
      let u : FetchedCommand = record t { cleared = t.cleared + next_run_length (length (uncleared t)) t } in
      let state : DevicePort = port_after_clear p slot c.fetched_command c.first c.count in
      let there : new.port port ≡ state = ap (λ (d : Device). d.port port) c.effect ∙ changed_same old.port port state in
      let same : has.fetched_command ≡ t = some_one (sym has.command_before ∙ going.works.taken) in
      let taken : (new.port port).taken slot ≡ Some u =
      has.command_after ∙ (λ i. Some (record (same i) { cleared = (same i).cleared + next_run_length (whole i) (same i) })) in
      let size : new.memory_size ≡ old.memory_size = ap (λ (d : Device). d.memory_size) c.effect in
      let all : t.moved ≡ length t.places = omega (arith, going.has_moves_left.moves_left_are) in
      record {
        fetched_command = u;
        has_moves_left = record {
          moves_left_are = going.has_moves_left.moves_left_are;
          pieces_are_inside = λ k small. omega (arith, size, going.has_moves_left.pieces_are_inside k small);
        };
        has_trim_runs_left = subst (λ (memory : ℕ → ℕ). HasClearsLeft t.meaning.operation memory u clears) (sym (ap (λ (d : Device). d.memory) c.effect))
            (span_less old.memory t clears all going.has_trim_runs_left);
        works = record {
          taken = taken;
          working =
              let P : DevicePort → Type 0 = λ x. IsWorking x t.meaning.operation in
              subst P (sym there) (still_works p state t.meaning.operation going.works.working refl refl refl refl refl);
        };
      }

  -- and it has ended
  pub done_port : (old new : Device) (e : EndsAndPosts (SendsEnd slot) port slot old new) → new.port port ≡ port_with_lasting_after_operation (port_after_done_except_lasting (old.port port) slot e.done.cause_bit e.done.fetched_command.meaning.operation) e.done.fetched_command.meaning.operation (length old.tape)
  done_port old new e =
      let f : DoesDone port slot old e.after_end = e.done in
      ap (λ (d : Device). d.port port) (end_rest port slot f.cause_bit f.fetched_command.meaning.operation e.after_end new e.posts)
      ∙ (ap (λ (d : Device). d.port port) f.effect ∙ changed_same old.port port (port_with_lasting_after_operation (port_after_done_except_lasting (old.port port) slot f.cause_bit f.fetched_command.meaning.operation) f.fetched_command.meaning.operation (length old.tape)))

  done_gone : (old new : Device) → EndsAndPosts (SendsEnd slot) port slot old new → (new.port port).taken slot ≡ None
  done_gone old new e = ap (λ (p : DevicePort). p.taken slot) (done_port old new e) ∙ changed_same (old.port port).taken slot None

  -- A queued command that is taken has its bit of PxCI clear, if it was taken since this state, or had it clear then.
  abbrev pub IsIssuedNoMore : Device → Device → Type 0
  IsIssuedNoMore since d =
      (t : FetchedCommand) → (d.port port).taken slot ≡ Some t → is_queued t.meaning.operation ≡ true →
      ((since.port port).taken slot ≡ None) ⊎ ((since.port port).ci slot ≡ false) → (d.port port).ci slot ≡ false

  no_more_yet : (since : Device) → IsIssuedNoMore since since
  no_more_yet since t taken queued (inl none) = some-none taken none
  no_more_yet since t taken queued (inr clear) = clear

  no_more_on : (since mid new : Device) → IsIssuedNoMore since mid → DoesSlotStep (SendsEnd slot) port slot mid new → IsIssuedNoMore since new
  no_more_on since mid new was (inl f) t taken queued before =
      let p : DevicePort = mid.port port in
      let state : DevicePort = port_after_fetch p slot f.meaning f.places in
      let there : new.port port ≡ state = ap (λ (d : Device). d.port port) f.effect ∙ changed_same mid.port port state in
      let same : newly_fetched f.meaning f.places ≡ t =
      some_one (sym (changed_same p.taken slot (Some (newly_fetched f.meaning f.places))) ∙ (sym (ap (λ (x : DevicePort). x.taken slot) there) ∙ taken)) in
      let kind : is_queued f.meaning.operation ≡ true = ap (λ (x : FetchedCommand). is_queued x.meaning.operation) same ∙ queued in
      ap (λ (x : DevicePort). x.ci slot) there
      ∙ (ap (λ (b : Bool). (if b then changed p.ci slot false else p.ci) slot) kind ∙ changed_same p.ci slot false)
  no_more_on since mid new was (inr (inl m)) t taken queued before =
      let p : DevicePort = mid.port port in
      let u : FetchedCommand = record m.fetched_command { moved = m.fetched_command.moved + 1; block = block_after m.fetched_command.meaning.operation m.bytes m.fetched_command.block } in
      let state : DevicePort = port_after_move p slot m.fetched_command m.bytes in
      let there : new.port port ≡ state = ap (λ (d : Device). d.port port) m.effect ∙ changed_same mid.port port state in
      let same : u ≡ t = some_one (sym (changed_same p.taken slot (Some u)) ∙ (sym (ap (λ (x : DevicePort). x.taken slot) there) ∙ taken)) in
      let kind : is_queued m.fetched_command.meaning.operation ≡ true = ap (λ (x : FetchedCommand). is_queued x.meaning.operation) same ∙ queued in
      ap (λ (x : DevicePort). x.ci slot) there ∙ was m.fetched_command m.can.works.taken kind before
  no_more_on since mid new was (inr (inr (inl e))) t taken queued before = some-none taken (done_gone mid new e)
  no_more_on since mid new was (inr (inr (inr (most, some, c)))) t taken queued before =
      let p : DevicePort = mid.port port in
      let u : FetchedCommand = record c.fetched_command { cleared = c.fetched_command.cleared + c.count } in
      let state : DevicePort = port_after_clear p slot c.fetched_command c.first c.count in
      let there : new.port port ≡ state = ap (λ (d : Device). d.port port) c.effect ∙ changed_same mid.port port state in
      let same : u ≡ t = some_one (sym (changed_same p.taken slot (Some u)) ∙ (sym (ap (λ (x : DevicePort). x.taken slot) there) ∙ taken)) in
      let kind : is_queued c.fetched_command.meaning.operation ≡ true = ap (λ (x : FetchedCommand). is_queued x.meaning.operation) same ∙ queued in
      ap (λ (x : DevicePort). x.ci slot) there ∙ was c.fetched_command c.can.works.taken kind before

  no_more_after : (n : ℕ) (since new : Device) → DoesExactlySlotSteps (SendsEnd slot) n port slot since new → IsIssuedNoMore since new
  no_more_after zero since new same = subst (IsIssuedNoMore since) (sym same) (no_more_yet since)
  no_more_after (suc n) since new s = no_more_on since s.0 new (no_more_after n since s.0 s.1) s.2

  pub no_more_going : (did : Bool) (since new : Device) → (did ≡ true → DoesAtLeastOneSlotStep (SendsEnd slot) port slot since new) → (did ≡ false → new ≡ since) →
      IsIssuedNoMore since new
  no_more_going true since new goes same = let g = goes refl in no_more_after (suc g.0) since new g.1
  no_more_going false since new goes same = subst (IsIssuedNoMore since) (sym (same refl)) (no_more_yet since)

  pub done_ended : (since old new : Device) → IsIssuedNoMore since old → EndsAndPosts (SendsEnd slot) port slot old new → HasEndedSlot since new port slot
  done_ended since old new was e =
      let f : DoesDone port slot old e.after_end = e.done in
      let o : Operation = f.fetched_command.meaning.operation in
      let p : DevicePort = old.port port in
      record {
        operation = o;
        before = old.tape;
        done_is_last = ap (λ (d : Device). d.tape) (end_rest port slot f.cause_bit o e.after_end new e.posts) ∙ ap (λ (d : Device). d.tape) f.effect;
        is_not_taken = done_gone old new e;
        bit_is_clear = ap (λ (p : DevicePort). if is_queued o then p.sact slot else p.ci slot) (done_port old new e) ∙ cleared (is_queued o) (old.port port) slot;
        ci_is_clear = λ queued before.
            ap (λ (x : DevicePort). x.ci slot) (done_port old new e)
            ∙ (ap (λ (b : Bool). (if b then p.ci else changed p.ci slot false) slot) queued ∙ was f.fetched_command f.can.works.taken queued before);
      }

  -- a plain one is issued no more
  pub done_frees : (old new : Device) (going : IsInProgress old port slot 0 0) → is_queued going.fetched_command.meaning.operation ≡ false → EndsAndPosts (SendsEnd slot) port slot old new →
      SlotHasNoCommand (new.port port) slot
  done_frees old new going plain e =
      let f : DoesDone port slot old e.after_end = e.done in
      let p : DevicePort = old.port port in
      let state : DevicePort = port_with_lasting_after_operation (port_after_done_except_lasting p slot f.cause_bit f.fetched_command.meaning.operation) f.fetched_command.meaning.operation (length old.tape) in
      let same : f.fetched_command ≡ going.fetched_command = some_one (sym f.can.works.taken ∙ going.works.taken) in
      let issued : state.ci ≡ changed p.ci slot false =
      ap (λ b. if b then p.ci else changed p.ci slot false) (ap (λ (x : FetchedCommand). is_queued x.meaning.operation) same ∙ plain) in
      record {
        is_not_issued = ap (λ (x : DevicePort). x.ci slot) (done_port old new e) ∙ (ap (λ (f : ℕ → Bool). f slot) issued ∙ changed_same p.ci slot false);
        is_not_taken = done_gone old new e;
      }

  -- when nothing is left, it may end
  pub going_may_end : (d : Device) (going : IsInProgress d port slot 0 0) → Can (Done port slot 0 going.fetched_command) d
  going_may_end d going = record {
    works = going.works;
    finished = record {
      all_is_moved = omega (arith, going.has_moves_left.moves_left_are);
      all_is_cleared = none_left going.fetched_command.meaning.operation d.memory going.fetched_command (omega (arith, going.has_moves_left.moves_left_are)) going.has_trim_runs_left;
    };
    cause_is_allowed = inl refl;
  }

-- ---- what a move and an end find

-- a command that a port works on is one that its slot holds
pub holds : (h : Hardware) (o : AllMedia) (port slot : ℕ) (t : FetchedCommand) → WorksOn ((device_of h o).port port) slot t t.meaning.operation →
    (r : TakenCommand) × WorksOnIn (slice_index_or h.ports port reset_port_without_disk) slot r × (t ≡ taken_of r)
holds h o port slot t works =
    let p : PortModel = slice_index_or h.ports port reset_port_without_disk in
    let w = taken_slot (taken_in p.taken) slot t works.taken in (
      w.0,
      record {
        is_taken = w.1;
        works = λ m. record {
          taken = slot_taken (taken_in p.taken) w.0 slot w.1;
          working = record {
            cr_is_set = works.working.cr_is_set;
            present = works.working.present;
            fresh = works.working.fresh;
            admitted = subst (λ (x : FetchedCommand). admits (halt_of p.halting) x.meaning.operation ≡ true) w.2 works.working.admitted;
            is_not_broken = works.working.is_not_broken;
          };
        };
      },
      w.2,
    )

-- what a move that is possible says of the command
pub record MoveFits (h : Hardware) (port slot : ℕ) : Type 0 where
  pub r : TakenCommand
  pub holds : WorksOnIn (slice_index_or h.ports port reset_port_without_disk) slot r
  pub left : r.moved < length (pieces r.prds)
  pub inside : slice_index (pieces r.prds) r.moved + 512 ≤ length h.memory.items

pub move_fits : (h : Hardware) (o : AllMedia) (d : Device) (port slot : ℕ) (t : FetchedCommand) → device_of h o ≡ d → HasMove d port slot t → MoveFits h port slot
move_fits h o d port slot t same move =
    let P : Device → Type 0 = λ x. HasMove x port slot t in
    let on_port : HasMove (device_of h o) port slot t = subst P (sym same) move in
    let w = holds h o port slot t on_port.works in
    let Q : FetchedCommand → Type 0 = λ x. HasMove (device_of h o) port slot x in
    let here : HasMove (device_of h o) port slot (taken_of w.0) = subst Q w.2 on_port in
    record { r = w.0; holds = w.1; left = here.piece_is_left; inside = here.piece_is_inside }

-- what the hardware finds to move next is possible on a port that has disks
pub next_has_move : (h : Hardware) (o : AllMedia) (d : Device) (port slot : ℕ) (next : NextMove) (r : TakenCommand) → HasDisks d port → device_of h o ≡ d →
    IsNextMove h port slot next r → HasMove d port slot (taken_of r)
next_has_move h o d port slot next r has same is =
    let P : Device → Type 0 = λ x. HasMove x port slot (taken_of r) in
    let place : next.address ≡ slice_index (pieces r.prds) r.moved = is.address_is in
    let there = is.inside in
    let Q : Device → Type 0 = λ x. HasDisks x port in
    subst P same (record { works = is.works_on.works (o.media port); piece_is_left = is.piece_is_left; piece_is_inside = omega (arith, place, there); has_disks = subst Q (sym same) has })

-- a move of a device is of a sector on its disk, if it is of one
brings_on_disk : (disk : Disk) (memory : ℕ → ℕ) (t : FetchedCommand) (k : Operation) (bytes : List ℕ) → moves_disk_sectors k ≡ true →
    MayBring disk memory t k bytes → next_sector t < disk.sector_count
brings_on_disk disk memory t operation.Read bytes moves_sectors brings = brings.0
brings_on_disk disk memory t operation.Write bytes moves_sectors brings = brings.0
brings_on_disk disk memory t operation.ReadQueued bytes moves_sectors brings = brings.0
brings_on_disk disk memory t operation.WriteQueued bytes moves_sectors brings = brings.0
brings_on_disk disk memory t operation.Identify bytes moves_sectors brings = absurd (cc moves_sectors)
brings_on_disk disk memory t operation.Flush bytes moves_sectors brings = absurd (cc moves_sectors)
brings_on_disk disk memory t operation.Trim bytes moves_sectors brings = absurd (cc moves_sectors)
brings_on_disk disk memory t operation.ReadLog bytes moves_sectors brings = absurd (cc moves_sectors)

-- where a move may be made on a port that has disks, and its piece is in the memory, it is possible
pub has_move : (d : Device) (port slot : ℕ) (t : FetchedCommand) (bytes : List ℕ) → ((sector : ℕ) → sector < (d.port port).disk.sector_count → HasDisks d port) →
    HasDisksOrOperationMovesSectors d port t.meaning.operation → next_place t + 512 ≤ d.memory_size → Can (Move port slot t bytes) d → HasMove d port slot t
has_move d port slot t bytes sized has inside can =
    record { works = can.works; piece_is_left = can.piece_is_left; piece_is_inside = inside; has_disks = elim has [ inl here ↦ here | inr moves_sectors ↦ on moves_sectors ] }
  where
    on : moves_disk_sectors t.meaning.operation ≡ true → HasDisks d port
    on moves_sectors = sized (next_sector t) (brings_on_disk (d.port port).disk d.memory t t.meaning.operation bytes moves_sectors can.brings)

-- where a move is left, one is possible
pub going_has_move : (d : Device) (port slot left clears : ℕ) → HasDisks d port → (going : IsInProgress d port slot (suc left) clears) → HasMove d port slot going.fetched_command
going_has_move d port slot left clears has going =
    let t : FetchedCommand = going.fetched_command in
    record {
      works = going.works;
      piece_is_left = omega (arith, going.has_moves_left.moves_left_are);
      piece_is_inside = going.has_moves_left.pieces_are_inside t.moved (omega (arith, going.has_moves_left.moves_left_are));
      has_disks = has;
    }

-- where a clear is left, a sector is
pub going_has_sector : (d : Device) (port slot clears : ℕ) → (going : IsInProgress d port slot 0 (suc clears)) → 1 ≤ length (uncleared going.fetched_command)
going_has_sector d port slot clears going =
    some_uncleared d.memory going.fetched_command clears (omega (arith, going.has_moves_left.moves_left_are)) going.has_trim_runs_left

-- and it is possible
pub going_has_clear : (d : Device) (port slot clears : ℕ) → HasDisks d port → (going : IsInProgress d port slot 0 (suc clears)) →
    HasClear d port slot (length (uncleared going.fetched_command)) going.fetched_command
going_has_clear d port slot clears has going =
    let t : FetchedCommand = going.fetched_command in
    let all : t.moved ≡ length t.places = omega (arith, going.has_moves_left.moves_left_are) in
    let trim = is_a_trim d.memory t clears all going.has_trim_runs_left in
    record {
      has_disks = has;
      works = subst (λ (o : Operation). WorksOn (d.port port) slot t o) trim going.works;
      trim = trim;
      block_is_moved = all;
      some_are_left = going_has_sector d port slot clears going;
      enough_are_left = omega arith;
    }

-- what a clear that is possible says of the command
pub clear_fits : (h : Hardware) (o : AllMedia) (d : Device) (port slot most : ℕ) (t : FetchedCommand) → device_of h o ≡ d → HasClear d port slot most t →
    (r : TakenCommand) × WorksOnIn (slice_index_or h.ports port reset_port_without_disk) slot r × IsMovedTrimWithSectorsLeftAtLeast r most × (t ≡ taken_of r)
clear_fits h o d port slot most t same clear =
    let P : Device → Type 0 = λ x. HasClear x port slot most t in
    let on_port : HasClear (device_of h o) port slot most t = subst P (sym same) clear in
    let w = holds h o port slot t (subst (λ (x : Operation). WorksOn ((device_of h o).port port) slot t x) (sym on_port.trim) on_port.works) in
    let Q : FetchedCommand → Type 0 = λ x. HasClear (device_of h o) port slot most x in
    let here : HasClear (device_of h o) port slot most (taken_of w.0) = subst Q w.2 on_port in
    (w.0, w.1, record { trim = here.trim; block_is_moved = here.block_is_moved; some_are_left = here.some_are_left; enough_are_left = here.enough_are_left }, w.2)

-- and where the hardware finds one, it is possible on a port that has disks
pub next_has_clear : (h : Hardware) (o : AllMedia) (d : Device) (port slot most : ℕ) (r : TakenCommand) → HasDisks d port → device_of h o ≡ d →
    WorksOnIn (slice_index_or h.ports port reset_port_without_disk) slot r → IsMovedTrimWithSectorsLeftAtLeast r most → HasClear d port slot most (taken_of r)
next_has_clear h o d port slot most r has same holds can =
    let P : Device → Type 0 = λ x. HasClear x port slot most (taken_of r) in
    let trim : r.operation ≡ Trim = can.trim in
    subst P same (record {
      has_disks = subst (λ (x : Device). HasDisks x port) (sym same) has;
      works = subst (λ (x : Operation). WorksOn ((device_of h o).port port) slot (taken_of r) x) trim (holds.works (o.media port));
      trim = trim;
      block_is_moved = can.block_is_moved;
      some_are_left = can.some_are_left;
      enough_are_left = can.enough_are_left;
    })

-- ---- memory stays as large

pub fetched_size : (port slot : ℕ) (did : Bool) (old new : Device) → (did ≡ true → DoesFetch port slot old new) → (did ≡ false → new ≡ old) → new.memory_size ≡ old.memory_size
fetched_size port slot true old new fetched same = ap (λ (d : Device). d.memory_size) (fetched refl).effect
fetched_size port slot false old new fetched same = ap (λ (d : Device). d.memory_size) (same refl)

-- ---- a port past the last one

pub past_last : {X : Type 0} (xs : List X) (k : ℕ) (d : X) → length xs ≤ k → slice_index_or xs k d ≡ d
past_last [] k d past = refl
past_last (x ∷ xs) zero d past = absurd (omega (arith, past))
past_last (x ∷ xs) (suc k) d past = past_last xs k d (omega (arith, past))

-- its engine stands
pub stopped_past : (h : Hardware) (o : AllMedia) (port : ℕ) → length h.ports ≤ port → ((device_of h o).port port).cr ≡ true → ⊥
stopped_past h o port past runs =
    let off : (slice_index_or h.ports port reset_port_without_disk).cr ≡ false = ap (λ (p : PortModel). p.cr) (past_last h.ports port reset_port_without_disk past) in
    true-false runs off

-- nothing can be done on it
pub never_past : (h : Hardware) (o : AllMedia) (port slot left clears : ℕ) → length h.ports ≤ port → MayFinish (device_of h o) port slot left clears → ⊥
never_past h o port slot left clears past may = by may.is_begun_or_fetchable
  where
    d : Device
    d = device_of h o

    stopped : ((device_of h o).port port).cr ≡ true → ⊥
    stopped = stopped_past h o port past

    by : WorksOn (d.port port) slot may.fetched_command may.fetched_command.meaning.operation ⊎ (Can (Fetch port slot may.fetched_command.meaning may.fetched_command.places) d × (may.fetched_command ≡ newly_fetched may.fetched_command.meaning may.fetched_command.places)) → ⊥
    by (inl works) = stopped works.working.cr_is_set
    by (inr begins) = stopped begins.0.working.cr_is_set
