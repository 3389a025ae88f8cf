-- Runs of events as histories of steps, and the laws over them.
use Rattle.std.proofs.Common.{◌≡◌, ◌⊎◌, ℕ, ◌+◌, ◌*◌, ◌/◌, ◌%◌, ◌<◌, Bool, true, false, List, [], ◌∷◌, ◌++◌, length, Option, Some, None, inl, inr, ⊎_elim, refl, sym, ap, ◌∙◌, subst, arith, eq-eqb}
use Rattle.std.proofs.lemmas.Bool.{cond-true, cond-false, cond_both}
use Rattle.std.specs.List.{list_any}
use Rattle.ata_types.specs.declared.request.ClientId.{ClientId}
use Rattle.ata_types.specs.declared.request.Frame.{Frame}
use Rattle.ata_types.specs.declared.request.RequestId.{RequestId}
use Rattle.ata_types.specs.declared.request.Op.TheVariants.{Read}
use Rattle.ata_types.specs.declared.request.Outcome.TheVariants.{Ok, DeviceError, Aborted, Unplugged, PortDead, Revoked}
use Rattle.block_machine.specs.State.{Block, Memory, Pending, Machine, nth_frame, is_reader}
use Rattle.block_machine.specs.Steps.{Step, Accept, Touch, WaitAgain, Answer, Release, Store, IsEnabled, after_step, is_kept_at_answer, unlend, is_lent_to, put_bytes, memory_after_touch, AllTouched}
use Rattle.block_machine.specs.Expected.{after, IsInitial, AllStepsFaithful, HoldsExpected}
use Rattle.block_machine.specs.Ports.{Ports, Evidence}
use Rattle.block_machine.specs.Events.{AbstractState, AbstractCall, Submit, StoreAt, LoadAt, Service, Tick, Reset, RevokeOf, State, StepDevice, CallRecord, AllEnabled, IsByDevice, IsByServer, AreStepsOfCall, AnswersLawfulAndWaitsOnStoppedPorts, abstract_after_all, IsRun, steps_of, EveryReadHoldsExpected}
use Rattle.block_machine.proofs.Order.{In}
use Rattle.block_machine.proofs.Sound.{Sound}
use Rattle.block_machine.proofs.Trace.{runs_lives}
use Rattle.block_machine.proofs.Reading.{put_other}
use Rattle.block_machine.proofs.Runs.{traced, law_fully_touched_read_holds_expected}

-- Steps one after the other.

pub after-append : (start : Machine) (late early : List Step) → after start (late ++ early) ≡ after (after start early) late
after-append start [] early = refl
after-append start (step ∷ late) early = ap (λ (m : Machine). after_step m step) (after-append start late early)

pub enabled_histories_join : (start : Machine) (late early : List Step) → AllEnabled start early → AllEnabled (after start early) late → AllEnabled start (late ++ early)
enabled_histories_join start [] early l a = l
enabled_histories_join start (step ∷ late) early l a =
    (enabled_histories_join start late early l a.0, subst (λ (m : Machine). IsEnabled m step) (sym (after-append start late early)) a.1)

-- the machine of a run is the one that its steps leave
pub moment_is : {D : Type 0} (first : AbstractState) (run : List (CallRecord D)) → (abstract_after_all first run).machine ≡ after first.machine (steps_of run)
moment_is first [] = refl
moment_is first (event ∷ past) = ap (λ (m : Machine). after m event.steps) (moment_is first past) ∙ sym (after-append first.machine event.steps (steps_of past))

pub run_starts : {D : Type 0} (first : AbstractState) (run : List (CallRecord D)) → IsRun first run → IsInitial first.machine
run_starts first [] r = r.0
run_starts first (event ∷ past) r = run_starts first past r.0

pub run_steps_are_enabled : {D : Type 0} (first : AbstractState) (run : List (CallRecord D)) → IsRun first run → AllEnabled first.machine (steps_of run)
run_steps_are_enabled first [] r = tt
run_steps_are_enabled first (event ∷ past) r = enabled_histories_join first.machine event.steps (steps_of past) (run_steps_are_enabled first past r.0)
    (subst (λ (m : Machine). AllEnabled m event.steps) (moment_is first past) r.1.steps_are_enabled)

-- Each Ok is told of a whole request.

-- where the step tells an Ok, its request has all its sectors touched, and ended
abbrev pub IsWhole : Step → Type 0
IsWhole (Answer e Ok) = AllTouched e × (e.ended ≡ true)
IsWhole _ = Unit {0}

abbrev pub AllWhole : List Step → Type 0
AllWhole [] = Unit {0}
AllWhole (step ∷ past) = AllWhole past × IsWhole step

answer_whole : (old : AbstractState) (evidence : Evidence) (ports : Ports) (step : Step) (before : List Step) → AnswersLawfulAndWaitsOnStoppedPorts old evidence ports (step ∷ before) → AnswersLawfulAndWaitsOnStoppedPorts old evidence ports before × IsWhole step
answer_whole old evidence ports (Answer e Ok) before l = (l.0, (l.1.2, l.1.3))
answer_whole old evidence ports (Answer e (DeviceError status error)) before l = (l.0, tt)
answer_whole old evidence ports (Answer e Aborted) before l = (l.0, tt)
answer_whole old evidence ports (Answer e Unplugged) before l = (l.0, tt)
answer_whole old evidence ports (Answer e PortDead) before l = (l.0, tt)
answer_whole old evidence ports (Answer e Revoked) before l = (l.0, tt)
answer_whole old evidence ports (WaitAgain e) before l = (l.0, tt)
answer_whole old evidence ports _ before l = (l, tt)

call_whole : (old : AbstractState) (evidence : Evidence) (ports : Ports) (steps past : List Step) → AnswersLawfulAndWaitsOnStoppedPorts old evidence ports steps → AllWhole past → AllWhole (steps ++ past)
call_whole old evidence ports [] past l w = w
call_whole old evidence ports (step ∷ before) past l w =
    let q = answer_whole old evidence ports step before l in (call_whole old evidence ports before past q.0 w, q.1)

pub run_whole : {D : Type 0} (first : AbstractState) (run : List (CallRecord D)) → IsRun first run → AllWhole (steps_of run)
run_whole first [] r = tt
run_whole first (event ∷ past) r = call_whole (abstract_after_all first past) event.evidence event.ports event.steps (steps_of past) r.1.answers_are_lawful (run_whole first past r.0)

-- the history up to a step of it
pub up_to : (start : Machine) (late : List Step) (step : Step) (early : List Step) → AllEnabled start (late ++ step ∷ early) → AllWhole (late ++ step ∷ early) → AllEnabled start early × IsEnabled (after start early) step × IsWhole step
up_to start [] step early l w = (l.0, l.1, w.1)
up_to start (x ∷ late) step early l w = up_to start late step early l.0 w.0

-- a step of a run
pub step_of_run : {D : Type 0} (first : AbstractState) (run : List (CallRecord D)) (late : List Step) (step : Step) (early : List Step) → IsRun first run → steps_of run ≡ late ++ step ∷ early
    → AllEnabled first.machine early × IsEnabled (after first.machine early) step × IsWhole step
step_of_run first run late step early r split = up_to first.machine late step early (subst (AllEnabled first.machine) split (run_steps_are_enabled first run r)) (subst AllWhole split (run_whole first run r))

-- In a call that answers, no request is accepted and no client stores.

abbrev IsQuiet : Step → Type 0
IsQuiet (Accept r) = ⊥
IsQuiet (Store client frame offset bytes) = ⊥
IsQuiet _ = Unit {0}

abbrev IsSilent : Step → Type 0
IsSilent (Answer e outcome) = ⊥
IsSilent _ = Unit {0}

devices_quiet : (step : Step) → IsByDevice step → IsQuiet step × IsSilent step
devices_quiet (Accept r) d = absurd d
devices_quiet (Store client frame offset bytes) d = absurd d
devices_quiet (Answer e outcome) d = absurd d
devices_quiet _ d = (tt, tt)

quiet_service : (D : Type 0) (ports : Ports) (step : Step) → IsByServer {D = D} Service ports step → IsQuiet step
quiet_service D ports (Accept r) h = absurd h
quiet_service D ports (Store client frame offset bytes) h = absurd h
quiet_service D ports _ h = tt

quiet_tick : (D : Type 0) (ports : Ports) (step : Step) → IsByServer {D = D} Tick ports step → IsQuiet step
quiet_tick D ports (Accept r) h = absurd h
quiet_tick D ports (Store client frame offset bytes) h = absurd h
quiet_tick D ports _ h = tt

quiet_reset : (D : Type 0) (ports : Ports) (step : Step) → IsByServer {D = D} Reset ports step → IsQuiet step
quiet_reset D ports (Accept r) h = absurd h
quiet_reset D ports (Store client frame offset bytes) h = absurd h
quiet_reset D ports _ h = tt

quiet_revoke : (D : Type 0) (client : ClientId) (number : ℕ) (ports : Ports) (step : Step) → IsByServer {D = D} (RevokeOf client number) ports step → IsQuiet step
quiet_revoke D client number ports (Accept r) h = absurd h
quiet_revoke D client number ports (Store c frame offset bytes) h = absurd h
quiet_revoke D client number ports _ h = tt

abbrev Quiet : {D : Type 0} → AbstractCall D → Ports → Type 0
Quiet ask ports = (step : Step) → IsByServer ask ports step → IsQuiet step

abbrev Silent : {D : Type 0} → AbstractCall D → Ports → Type 0
Silent ask ports = (step : Step) → IsByServer ask ports step → IsSilent step

quiet_or_silent : {D : Type 0} (ask : AbstractCall D) (ports : Ports) → Quiet ask ports ⊎ Silent ask ports
quiet_or_silent {D} Service ports = inl (quiet_service D ports)
quiet_or_silent {D} Tick ports = inl (quiet_tick D ports)
quiet_or_silent {D} Reset ports = inl (quiet_reset D ports)
quiet_or_silent {D} (RevokeOf client number) ports = inl (quiet_revoke D client number ports)
quiet_or_silent {D} (Submit r) ports = inr go
  where
    go : (step : Step) → IsByServer {D = D} (Submit r) ports step → IsSilent step
    go (Answer e outcome) h = absurd h
    go _ h = tt
quiet_or_silent {D} (StoreAt c f o b) ports = inr go
  where
    go : (step : Step) → IsByServer {D = D} (StoreAt c f o b) ports step → IsSilent step
    go (Answer e outcome) h = absurd h
    go _ h = tt
quiet_or_silent {D} (LoadAt c f o n) ports = inr go
  where
    go : (step : Step) → IsByServer {D = D} (LoadAt c f o n) ports step → IsSilent step
    go (Answer e outcome) h = absurd h
    go _ h = tt
quiet_or_silent {D} (State port) ports = inr go
  where
    go : (step : Step) → IsByServer {D = D} (State port) ports step → IsSilent step
    go (Answer e outcome) h = absurd h
    go _ h = tt
quiet_or_silent {D} (StepDevice d) ports = inr go
  where
    go : (step : Step) → IsByServer {D = D} (StepDevice d) ports step → IsSilent step
    go (Answer e outcome) h = absurd h
    go _ h = tt

-- What stands in frames that are lent to none stays, until a request is accepted or a client stores.

abbrev Stays : Memory → Machine → Type 0
Stays memory m = (f : Frame) → m.lent f ≡ None → (b : ℕ) → memory f b ≡ m.memory f b

some_none : (o : Option RequestId) (id : RequestId) → o ≡ Some id → o ≡ None → ⊥
some_none o id p q = none_some (sym q ∙ p)
  where
    none_some : None ≡ Some id → ⊥
    none_some p = cc

unlent_none : (id : RequestId) (lent : Frame → Option RequestId) (f : Frame) → lent f ≡ None → unlend id lent f ≡ None
unlent_none id lent f e = cond-false (is_lent_to id (lent f)) None (lent f) (ap (is_lent_to id) e) ∙ e

stays_touch : (m : Machine) → Sound m → (e : Pending) (i : ℕ) (block : Block) → IsEnabled m (Touch e i block) → (f : Frame) → m.lent f ≡ None → (b : ℕ) → (after_step m (Touch e i block)).memory f b ≡ m.memory f b
stays_touch m s e i block may f none b = by (is_reader e.request.asked.op) refl
  where
    by : (t : Bool) → is_reader e.request.asked.op ≡ t → memory_after_touch e.request i block m.memory f b ≡ m.memory f b
    by false t = ap (λ (x : Memory). x f b) (cond-false (is_reader e.request.asked.op) (put_bytes (nth_frame e.request.asked.frames.items (i / 8)) (512 * (i % 8)) 512 block m.memory) m.memory t)
    by true t =
        let l = runs_lives m e may.0 in
        let room = s.room e l t in
        let place : i / 8 < length e.request.asked.frames.items = omega (arith, room, may.1) in
        ap (λ (x : Memory). x f b) (cond-true (is_reader e.request.asked.op) (put_bytes (nth_frame e.request.asked.frames.items (i / 8)) (512 * (i % 8)) 512 block m.memory) m.memory t)
        ∙ put_other (nth_frame e.request.asked.frames.items (i / 8)) f (512 * (i % 8)) b 512 block m.memory
        (λ same _ _. some_none (m.lent f) e.request.id (ap m.lent (sym same) ∙ s.lent e l (i / 8) place) none)

stays_step : (memory : Memory) (m : Machine) (step : Step) → IsEnabled m step → Sound m → IsQuiet step → Stays memory (after_step m step) → Stays memory m
stays_step memory m (Touch e i block) may s q h = λ f none b. h f none b ∙ stays_touch m s e i block may f none b
stays_step memory m (Answer e outcome) may s q h = λ f none b. h f
    (cond_both (is_kept_at_answer e outcome) m.lent (unlend e.request.id m.lent) (λ lent. lent f ≡ None) (λ _. none) (λ _. unlent_none e.request.id m.lent f none)) b
stays_step memory m Release may s q h = λ f none b. h f
    (cond_both (list_any (λ e. is_lent_to e.request.id (m.lent f)) m.kept) None (m.lent f) (λ o. o ≡ None) (λ _. refl) (λ _. none)) b
stays_step memory m (Accept r) may s q h = absurd q
stays_step memory m (Store client frame offset bytes) may s q h = absurd q
stays_step memory m _ may s q h = h

-- a read that is answered Ok has in the last memory what is left
answer_holds : (start : Machine) (memory : Memory) (past : List Step) (e : Pending) → IsInitial start → AllEnabled start (Answer e Ok ∷ past) → AllStepsFaithful start past → IsWhole (Answer e Ok)
    → Stays memory (after start (Answer e Ok ∷ past)) → e.request.asked.op ≡ Read → HoldsExpected start past memory e.request
answer_holds start memory past e s l told w is_kept_at_answer op =
    let m = after start past in
    let sound = (traced start past s l.0).sound in
    let holds = law_fully_touched_read_holds_expected start past e s l.0 told l.1.0 w.0 op in
    let room = sound.room e (inl l.1.0) (ap is_reader op) in
    let gone : (i : ℕ) → i < length e.request.asked.frames.items → unlend e.request.id m.lent (nth_frame e.request.asked.frames.items i) ≡ None = λ i lt.
    cond-true (is_lent_to e.request.id (m.lent (nth_frame e.request.asked.frames.items i))) None (m.lent (nth_frame e.request.asked.frames.items i))
    (ap (is_lent_to e.request.id) (sound.lent e (inl l.1.0) i lt) ∙ eq-eqb e.request.id.0 e.request.id.0 refl) in
    record {
      sectors_are_expected = λ i lt. let q = holds.sectors_are_expected i lt in
          (q.0, q.1, λ b lb. is_kept_at_answer (nth_frame e.request.asked.frames.items (i / 8)) (gone (i / 8) (omega (arith, room, lt))) (512 * (i % 8) + b) ∙ q.2 b lb);
      rest_is_as_accepted = λ i b beyond lt lb. is_kept_at_answer (nth_frame e.request.asked.frames.items (i / 8)) (gone (i / 8) (omega (arith, lt))) (512 * (i % 8) + b) ∙ holds.rest_is_as_accepted i b beyond lt lb;
    }

-- a call's steps in which the read is answered Ok
abbrev answering : List Step → Pending → List Step → List Step
answering rest e before = rest ++ Answer e Ok ∷ before

-- so has each read that a call answers, at the call's end
answers_hold : (start : Machine) (memory : Memory) (rest : List Step) (e : Pending) (before past : List Step) → IsInitial start → AllEnabled start (answering rest e before ++ past)
    → AllStepsFaithful start (answering rest e before ++ past) → AllWhole (answering rest e before ++ past) → ((step : Step) → In step (answering rest e before) → IsQuiet step)
    → Stays memory (after start (answering rest e before ++ past)) → e.request.asked.op ≡ Read → HoldsExpected start (before ++ past) memory e.request
answers_hold start memory [] e before past s l told w quiet stays = answer_holds start memory (before ++ past) e s l told.0 w.1 stays
answers_hold start memory (step ∷ rest) e before past s l told w quiet stays = answers_hold start memory rest e before past s l.0 told.0 w.0 (λ x i. quiet x (inr i))
    (stays_step memory (after start (answering rest e before ++ past)) step l.1 (traced start (answering rest e before ++ past) s l.0).sound (quiet step (inl refl)) stays)

answer_is_in : (rest : List Step) (e : Pending) (before : List Step) → In (Answer e Ok) (answering rest e before)
answer_is_in [] e before = inl refl
answer_is_in (step ∷ rest) e before = inr (answer_is_in rest e before)

belongs : {D : Type 0} (ask : AbstractCall D) (ports : Ports) (steps : List Step) → AreStepsOfCall ask ports steps → (step : Step) → In step steps → IsByDevice step ⊎ IsByServer ask ports step
belongs ask ports [] b step i = absurd i
belongs ask ports (x ∷ xs) b step (inl e) = subst (λ (y : Step). IsByDevice y ⊎ IsByServer ask ports y) (sym e) b.1
belongs ask ports (x ∷ xs) b step (inr i) = belongs ask ports xs b.0 step i

-- each read of a run that was answered Ok has, at the end of its call, what is left
pub law_answered_reads_hold_expected : {D : Type 0} (first : AbstractState) (run : List (CallRecord D)) → IsRun first run → AllStepsFaithful first.machine (steps_of run) → EveryReadHoldsExpected first run
law_answered_reads_hold_expected {D} first run r told later earlier event rest before e is split op =
    in_run later (subst (IsRun first) is r) (subst (λ (l : List (CallRecord D)). AllStepsFaithful first.machine (steps_of l)) is told)
  where
    told_before : (late early : List Step) → AllStepsFaithful first.machine (late ++ early) → AllStepsFaithful first.machine early
    told_before [] early t = t
    told_before (step ∷ late) early t = told_before late early t.0

    Held : Type 0
    Held = HoldsExpected first.machine (before ++ steps_of earlier) (abstract_after_all first (event ∷ earlier)).machine.memory e.request

    in_call : IsRun first (event ∷ earlier) → AllStepsFaithful first.machine (steps_of (event ∷ earlier)) → Held
    in_call r told = ⊎_elim
        (λ (q : Quiet event.call event.ports). answers_hold first.machine (abstract_after_all first (event ∷ earlier)).machine.memory rest e before (steps_of earlier)
        (run_starts first earlier r.0)
        (subst (λ (steps : List Step). AllEnabled first.machine (steps ++ steps_of earlier)) split (run_steps_are_enabled first (event ∷ earlier) r))
        (subst (λ (steps : List Step). AllStepsFaithful first.machine (steps ++ steps_of earlier)) split told)
        (subst (λ (steps : List Step). AllWhole (steps ++ steps_of earlier)) split (run_whole first (event ∷ earlier) r))
        (λ step i. ⊎_elim (λ d. (devices_quiet step d).0) (λ h. q step h) (its step i))
        (λ f none b. ap (λ (m : Machine). m.memory f b) (moment_is first (event ∷ earlier)
        ∙ ap (λ (steps : List Step). after first.machine (steps ++ steps_of earlier)) split))
        op)
        (λ (q : Silent event.call event.ports). absurd (⊎_elim (λ d. (devices_quiet (Answer e Ok) d).1) (λ h. q (Answer e Ok) h) (its (Answer e Ok) (answer_is_in rest e before))))
        (quiet_or_silent event.call event.ports)
      where
        its : (step : Step) → In step (answering rest e before) → IsByDevice step ⊎ IsByServer event.call event.ports step
        its step i = belongs event.call event.ports event.steps r.1.steps_are_of_call step (subst (In step) (sym split) i)

    in_run : (later : List (CallRecord D)) → IsRun first (later ++ event ∷ earlier) → AllStepsFaithful first.machine (steps_of (later ++ event ∷ earlier)) → Held
    in_run [] r told = in_call r told
    in_run (x ∷ later) r told = in_run later r.0 (told_before x.steps (steps_of (later ++ event ∷ earlier)) told)
