-- Where the moves of a history go.
use Rattle.std.proofs.Common.{◌≡◌, List, [], ◌∷◌, ◌++◌, Option, Some, None, slice_index, refl, sym, ap, ◌∙◌, subst, inl, inr, ⊎_elim, append_assoc}
use Rattle.std.specs.List.{All, Contains}
use Rattle.std.proofs.lemmas.List.Elements.{All-cons, All-contains, All-nil, All-weaker}
use Rattle.ata_types.specs.declared.request.Op.{Op}
use Rattle.ata_types.specs.declared.request.Op.TheVariants.{Read, Write, Trim, Flush}
use Rattle.adapter.specs.Device.{Device}
use Rattle.adapter.specs.declared.access.DeviceStep.{DeviceStep}
use Rattle.adapter.specs.declared.tape.Entry.{Entry}
use Rattle.adapter.specs.declared.tape.Entry.TheVariants as entry
use Rattle.adapter.specs.declared.tape.Move as tape_move
use Rattle.adapter.specs.declared.tape.Clear as tape_clear
use Rattle.refinement.specs.Slots.{client_operation_of}
use Rattle.refinement.specs.MemoryLayout.{scratch_frame_address}
use Rattle.refinement.specs.Tape.{MovesSector, ClearsSectors, TellsDeviceSteps, TellsEntry, TellsTouchOrIsScratchMove}
use Rattle.block_machine.specs.Events.{IsRun, steps_of, AllEnabled}
use Rattle.block_machine.specs.Histories.{JointState, JointEvent, events_of, joint_state_after}
use Rattle.block_machine.specs.Expected.{after}
use Rattle.block_machine.specs.State.{Machine}
use Rattle.block_machine.specs.Steps.{Step, Touch}
use Rattle.identify.specs.declared.wanted.Wanted.{Wanted}
use Rattle.driver_history.specs.Histories.{IsDriverHistory}
use Rattle.driver_history.specs.Laws.{RunLaws}
use Rattle.driver_history.specs.ConfinedMoves.{IsConfinedClear, IsConfinedMove, ConfinesCallMovesAndClears, KeepsToLentOrScratchFrames}
use Rattle.driver_history.proofs.Telling.{history_runs, machine_is}

-- ---- among a call's steps

-- the move is a touch among the steps, from this machine on
record IsAmong (m : Machine) (steps : List Step) (op : Op) (move : tape_move.Move) : Type 0 where
  later : List Step
  step : Step
  before : List Step
  here : steps ≡ later ++ step ∷ before
  touch : MovesSector (after m before) op move (step ∷ [])

-- The move goes on as the tape tells it.
abbrev Goes : Option Op → Machine → List Step → tape_move.Move → Type 0
Goes (Some Read) m steps move = IsAmong m steps Read move
Goes (Some Write) m steps move = IsAmong m steps Write move
Goes other m steps move = move.address ≡ scratch_frame_address move.port.0

among_first : (m : Machine) (op : Op) (move : tape_move.Move) (own first rest : List Step) → MovesSector (after m own) op move first → IsAmong m (rest ++ (first ++ own)) op move
among_first m op move own first rest t = record {
  later = rest;
  step = Touch t.pending t.sector_number (slice_index move.bytes.value);
  before = own;
  here = ap (λ (steps : List Step). rest ++ (steps ++ own)) t.step_is;
  touch = subst (MovesSector (after m own) op move) t.step_is t;
}

goes_first : (o : Option Op) (m : Machine) (move : tape_move.Move) (own first rest : List Step) → TellsTouchOrIsScratchMove o (after m own) move first → Goes o m (rest ++ (first ++ own)) move
goes_first None m move own first rest t = t.0
goes_first (Some Read) m move own first rest t = among_first m Read move own first rest t
goes_first (Some Write) m move own first rest t = among_first m Write move own first rest t
goes_first (Some Trim) m move own first rest t = t.0
goes_first (Some Flush) m move own first rest t = absurd t

among_later : RunLaws → (m : Machine) (op : Op) (move : tape_move.Move) (rest early : List Step) → IsAmong (after m early) rest op move → IsAmong m (rest ++ early) op move
among_later laws m op move rest early a = record {
  later = a.later;
  step = a.step;
  before = a.before ++ early;
  here = ap (λ (steps : List Step). steps ++ early) a.here ∙ append_assoc a.later (a.step ∷ a.before) early;
  touch = subst (λ (n : Machine). MovesSector n op move (a.step ∷ [])) (sym (laws.after_joins m a.before early)) a.touch;
}

goes_later : RunLaws → (o : Option Op) (m : Machine) (move : tape_move.Move) (rest early : List Step) → Goes o (after m early) rest move → Goes o m (rest ++ early) move
goes_later laws (Some Read) m move rest early a = among_later laws m Read move rest early a
goes_later laws (Some Write) m move rest early a = among_later laws m Write move rest early a
goes_later laws None m move rest early a = a
goes_later laws (Some Trim) m move rest early a = a
goes_later laws (Some Flush) m move rest early a = a

abbrev GoesAs : Machine → List Step → Entry → Type 0
GoesAs m steps e = (move : tape_move.Move) → e ≡ entry.Move move → Goes (client_operation_of move.operation) m steps move

all_go : RunLaws → (m : Machine) (entries : List Entry) (steps : List Step) → TellsDeviceSteps m entries steps → All (GoesAs m steps) entries
all_go laws m [] steps tells = All-nil (GoesAs m steps)
all_go laws m (e ∷ entries) steps (own, first, rest, alone, tells, more, is) = All-cons (GoesAs m steps) e entries
    (λ move same. subst (λ (all : List Step). Goes (client_operation_of move.operation) m all move) (sym is)
    (goes_first (client_operation_of move.operation) m move own first rest (subst (λ (x : Entry). TellsEntry (after m own) x first) same tells)))
    (All-weaker (GoesAs (after m (first ++ own)) rest) (GoesAs m steps)
    (λ x later move same. subst (λ (all : List Step). Goes (client_operation_of move.operation) m all move) (sym is) (goes_later laws (client_operation_of move.operation) m move rest (first ++ own) (later move same)))
    entries (all_go laws (after m (first ++ own)) entries rest more))

goes : RunLaws → (m : Machine) (entries : List Entry) (steps : List Step) → TellsDeviceSteps m entries steps → (move : tape_move.Move) → Contains entries (entry.Move move) → Goes (client_operation_of move.operation) m steps move
goes laws m entries steps tells move here = All-contains (GoesAs m steps) entries (entry.Move move) (all_go laws m entries steps tells) here move refl

-- the clear is among the steps, from this machine on
record IsCleared (m : Machine) (steps : List Step) (clear : tape_clear.Clear) : Type 0 where
  later : List Step
  touches : List Step
  before : List Step
  here : steps ≡ later ++ (touches ++ before)
  clears : ClearsSectors (after m before) clear touches

cleared_first : (m : Machine) (clear : tape_clear.Clear) (own first rest : List Step) → ClearsSectors (after m own) clear first → IsCleared m (rest ++ (first ++ own)) clear
cleared_first m clear own first rest c = record { later = rest; touches = first; before = own; here = refl; clears = c }

cleared_later : RunLaws → (m : Machine) (clear : tape_clear.Clear) (rest early : List Step) → IsCleared (after m early) rest clear → IsCleared m (rest ++ early) clear
cleared_later laws m clear rest early c = record {
  later = c.later;
  touches = c.touches;
  before = c.before ++ early;
  here = ap (λ (steps : List Step). steps ++ early) c.here ∙ append_assoc c.later (c.touches ++ c.before) early
      ∙ ap (λ (steps : List Step). c.later ++ steps) (append_assoc c.touches c.before early);
  clears = subst (λ (n : Machine). ClearsSectors n clear c.touches) (sym (laws.after_joins m c.before early)) c.clears;
}

abbrev ClearsAs : Machine → List Step → Entry → Type 0
ClearsAs m steps e = (clear : tape_clear.Clear) → e ≡ entry.Clear clear → IsCleared m steps clear

all_cleared : RunLaws → (m : Machine) (entries : List Entry) (steps : List Step) → TellsDeviceSteps m entries steps → All (ClearsAs m steps) entries
all_cleared laws m [] steps tells = All-nil (ClearsAs m steps)
all_cleared laws m (e ∷ entries) steps (own, first, rest, alone, tells, more, is) = All-cons (ClearsAs m steps) e entries
    (λ clear same. subst (λ (all : List Step). IsCleared m all clear) (sym is)
    (cleared_first m clear own first rest (subst (λ (x : Entry). TellsEntry (after m own) x first) same tells)))
    (All-weaker (ClearsAs (after m (first ++ own)) rest) (ClearsAs m steps)
    (λ x later clear same. subst (λ (all : List Step). IsCleared m all clear) (sym is) (cleared_later laws m clear rest (first ++ own) (later clear same)))
    entries (all_cleared laws (after m (first ++ own)) entries rest more))

cleared : RunLaws → (m : Machine) (entries : List Entry) (steps : List Step) → TellsDeviceSteps m entries steps → (clear : tape_clear.Clear) → Contains entries (entry.Clear clear) → IsCleared m steps clear
cleared laws m entries steps tells clear here = All-contains (ClearsAs m steps) entries (entry.Clear clear) (all_cleared laws m entries steps tells) here clear refl

enabled_before : (start : Machine) (late early : List Step) → AllEnabled start (late ++ early) → AllEnabled start early
enabled_before start [] early enabled = enabled
enabled_before start (step ∷ late) early enabled = enabled_before start late early enabled.0

-- ---- in a history

module _ (laws : RunLaws) (wanted : List Wanted) (first : JointState Device) (past : List (JointEvent Device DeviceStep)) (h : JointEvent Device DeviceStep) (history : IsDriverHistory wanted first (h ∷ past)) where
  abbrev start : Machine
  start = first.abstract.machine

  abbrev early : List Step
  early = steps_of (events_of past)

  run : IsRun first.abstract (events_of (h ∷ past))
  run = history_runs wanted first (h ∷ past) history

  abbrev m : Machine
  m = (joint_state_after first past).abstract.machine

  confined : (op : Op) (move : tape_move.Move) → IsAmong m h.event.steps op move → IsConfinedMove start early h.event.steps op move
  confined op move a = record {
    later = a.later;
    step = a.step;
    before = a.before;
    steps_are_split = a.here;
    moves_sector = then;
    is_confined = laws.touches_are_confined first.abstract (events_of (h ∷ past)) a.later (a.before ++ early) then.pending then.sector_number (slice_index move.bytes.value) run split;
  }
    where
      then : MovesSector (after start (a.before ++ early)) op move (a.step ∷ [])
      then = subst (λ (n : Machine). MovesSector n op move (a.step ∷ [])) (ap (λ (n : Machine). after n a.before) (machine_is laws wanted first past history.0) ∙ sym (laws.after_joins start a.before early)) a.touch

      split : h.event.steps ++ early ≡ a.later ++ Touch then.pending then.sector_number (slice_index move.bytes.value) ∷ (a.before ++ early)
      split = ap (λ (steps : List Step). steps ++ early) a.here ∙ append_assoc a.later (a.step ∷ a.before) early
          ∙ ap (λ (steps : List Step). a.later ++ (steps ++ (a.before ++ early))) then.step_is

  keeps : (o : Option Op) (move : tape_move.Move) → Goes o m h.event.steps move → KeepsToLentOrScratchFrames o start early h.event.steps move
  keeps (Some Read) move a = confined Read move a
  keeps (Some Write) move a = confined Write move a
  keeps None move a = a
  keeps (Some Trim) move a = a
  keeps (Some Flush) move a = a

  confined_clear : (clear : tape_clear.Clear) → IsCleared m h.event.steps clear → IsConfinedClear start early h.event.steps clear
  confined_clear clear c = record {
    later = c.later;
    touches = c.touches;
    before = c.before;
    steps_are_split = c.here;
    clears_sectors = then;
    was_accepted =
        let whole = laws.run_steps_are_enabled first.abstract (events_of (h ∷ past)) run in
        laws.holders_were_accepted start (c.before ++ early) then.pending whole.0 (enabled_before start (c.later ++ c.touches) (c.before ++ early) (subst (AllEnabled start) split whole.1))
        (⊎_elim (λ issued. inl issued.0) (λ kept. inr kept) then.may_still_move);
  }
    where
      then : ClearsSectors (after start (c.before ++ early)) clear c.touches
      then = subst (λ (n : Machine). ClearsSectors n clear c.touches) (ap (λ (n : Machine). after n c.before) (machine_is laws wanted first past history.0) ∙ sym (laws.after_joins start c.before early)) c.clears

      split : h.event.steps ++ early ≡ (c.later ++ c.touches) ++ (c.before ++ early)
      split = ap (λ (steps : List Step). steps ++ early) (c.here ∙ sym (append_assoc c.later c.touches c.before)) ∙ append_assoc (c.later ++ c.touches) c.before early

  pub keeps_moves : ConfinesCallMovesAndClears start early h.event.steps (joint_state_after first past).device h.device
  keeps_moves = record {
    new_entries = history.2.is_backed.new_entries;
    tape_is = history.2.is_backed.tape_is;
    moves_keep_to_frames = λ move here. keeps (client_operation_of move.operation) move (goes laws m history.2.is_backed.new_entries h.event.steps history.2.is_backed.tells_device_steps move here);
    clears_are_confined = λ clear here. confined_clear clear (cleared laws m history.2.is_backed.new_entries h.event.steps history.2.is_backed.tells_device_steps clear here);
  }
