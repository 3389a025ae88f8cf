-- The page of a command of the driver's own is awaited over steps and accesses.
use Rattle.std.proofs.Common.{ℕ, ◌≡◌, ◌⊎◌, ◌≤◌, ◌+◌, ◌++◌, Bool, true, false, List, [], ◌∷◌, length, Some, refl, sym, ◌∙◌, ap, subst, arith, inl, inr, ⊎_elim, append_assoc, le_refl, if◌then◌else◌}
use Rattle.std.proofs.lemmas.Bool.{cases_eq, cond-true, cond-false, or_left, or_right, both_ways, false≢true, true≢false}
use Rattle.std.proofs.lemmas.List.{length-append}
use Rattle.std.proofs.lemmas.List.Elements.{All-head, All-tail}
use Rattle.std.proofs.lemmas.Option.{none-some, same_Some}
use Rattle.ata_types.specs.declared.Port.{Port}
use Rattle.hba_regs.specs.Bits.{bit}
use Rattle.hba_regs.specs.declared.reg.Reg.TheVariants.{Px}
use Rattle.hba_regs.specs.declared.reg.PortReg.{PortReg}
use Rattle.hba_regs.specs.declared.reg.PortReg.TheVariants.{Cmd, Ci}
use Rattle.adapter.specs.Access.{Access, Does, Reads, Writes, Loads, port_after_write, port_after_st_write, port_after_fre_write}
use Rattle.adapter.specs.Access.Access.{Writing}
use Rattle.adapter.specs.Commands.{Meaning, is_queued}
use Rattle.adapter.specs.Device.{FetchedCommand, DevicePort, Device}
use Rattle.adapter.specs.KeptBySteps.{KeepsOverSteps, KeepsOutsideReset}
use Rattle.adapter.specs.Memory.{changed}
use Rattle.adapter.specs.Decoding.{DecodesTo}
use Rattle.adapter.specs.Steps.{DeviceTransition, Can, device_after, TransitionsLead, Steps, newly_fetched, move_of}
use Rattle.adapter.specs.Steps.DeviceTransition.{Fetch, FetchFault, Move, Clear, Done, Fault, Fatal, Fall, FrFall, LinkUp, Unplug, Plug, ResetEnds, Scribble}
use Rattle.adapter.specs.declared.command.Operation.{Operation}
use Rattle.adapter.specs.declared.tape.Entry.{Entry}
use Rattle.adapter.specs.declared.tape.Move as tape_move
use Rattle.adapter.specs.declared.tape.Entry.TheVariants as entry
use Rattle.adapter.proofs.Changed.{changed_same, changed_other}
use Rattle.adapter.proofs.SaysLemmas.{says_meaning}
use Rattle.block_machine.specs.Histories.{IsReachable}
use Rattle.block_machine.specs.Expected as left
use Rattle.block_machine.specs.State.{Machine}
use Rattle.refinement.specs.StepLaws.{StepLaws}
use Rattle.refinement.specs.Relation.{StateRelation}
use Rattle.refinement.specs.AwaitedPage.{Slot0IsIssuedAndUnmoved, PageHasCome, AwaitsOrHasPage}
use Rattle.refinement.specs.Driver.{IsOwnCommandPreparedInSlot0}
use Rattle.refinement.specs.PortFacts.{FollowsAndHasPageSinceStSet}
use Rattle.refinement.specs.Simulation.{SimulatesSteps}
use Rattle.refinement.specs.MemoryLayout.{scratch_frame_address}
use Rattle.adapter.specs.OneCommand.{SlotHasNoCommand}
use Rattle.refinement.specs.Slots.{SlotState, Own, SlotStates, set_slot_state, IsMove, PageCameSinceAndStandsInScratch, OwnAwaitsFetch, OwnIsTaken, OwnIsOverWithPageIfSt, ServesOwn, RelatesSlot, client_operation_of}
use Rattle.refinement.specs.StartedPort.{WritesCmdOnlyWithStSet}
use Rattle.refinement.proofs.driver.IssueWrite.{own_prepared_stays}
use Rattle.refinement.proofs.device.FactsOverAccesses.{access_steps, effect_keeps}
use Rattle.refinement.proofs.driver.EndedRequests.{page_is_read, page_is_loaded}
use Rattle.refinement.proofs.steps.FollowedSteps.{step_follows, steps_follow}
use Rattle.refinement.proofs.device.TapeGains.{NoneOf}
use Rattle.refinement.proofs.device.HealthyPort.{at_port}
use Rattle.refinement.proofs.driver.PutSlot.{put_same, own_over, issued_port}
use Rattle.refinement.proofs.steps.TakenCommand.{own_plain}

-- ---- a page that has come

come_more : (tape gained : List Entry) (port : ℕ) (o : Operation) (since : ℕ) → PageHasCome tape port o since → PageHasCome (tape ++ gained) port o since
come_more tape gained port o since h = record {
  before = h.before;
  move = h.move;
  later = h.later ++ gained;
  tape_is_split = ap (λ (l : List Entry). l ++ gained) h.tape_is_split ∙ append_assoc h.before (h.move ∷ h.later) gained;
  came_since = h.came_since;
  is_move = h.is_move;
}

come_since : (tape : List Entry) (port : ℕ) (o : Operation) (since n : ℕ) → since ≤ n → PageHasCome tape port o n → PageHasCome tape port o since
come_since tape port o since n le h = record {
  before = h.before;
  move = h.move;
  later = h.later;
  tape_is_split = h.tape_is_split;
  came_since = (let a = h.came_since in omega (arith, le, a));
  is_move = h.is_move;
}

-- none of these entries is of the kind, so none stands in their midst
none_within : (IsKind : Entry → Type 0) (early : List Entry) (e : Entry) (late : List Entry) → NoneOf IsKind (early ++ e ∷ late) → IsKind e → ⊥
none_within IsKind [] e late none = All-head (λ x. IsKind x → ⊥) e late none
none_within IsKind (x ∷ early) e late none = none_within IsKind early e late (All-tail (λ x. IsKind x → ⊥) x (early ++ e ∷ late) none)

tail_same : (x y : Entry) (xs ys : List Entry) → x ∷ xs ≡ y ∷ ys → xs ≡ ys
tail_same x y xs ys e = cc

-- an entry of a kind doesn't come after the last one
not_later : (IsKind : Entry → Type 0) (before : List Entry) (last : Entry) (later : List Entry) (early : List Entry) (e : Entry) (late : List Entry) →
    before ++ last ∷ later ≡ early ++ e ∷ late → NoneOf IsKind later → IsKind e → length early ≤ length before
not_later IsKind before last later [] e late same none is = omega arith
not_later IsKind [] last later (x ∷ early) e late same none is =
    absurd (none_within IsKind early e late (subst (NoneOf IsKind) (tail_same last x later (early ++ e ∷ late) same) none) is)
not_later IsKind (y ∷ before) last later (x ∷ early) e late same none is =
    let less = not_later IsKind before last later early e late (tail_same y x (before ++ last ∷ later) (early ++ e ∷ late) same) none is in
    omega (arith, less)

-- so the page that stands in the scratch frame came since then
brought_since : (memory : ℕ → ℕ) (tape : List Entry) (port : ℕ) (o : Operation) (since n : ℕ) → PageHasCome tape port o since → (b : PageCameSinceAndStandsInScratch memory tape port o n) → (c : PageCameSinceAndStandsInScratch memory tape port o since) × (c.move ≡ b.move)
brought_since memory tape port o since n h b = (
  record {
    before = b.before;
    came_since = (let a = h.came_since in let l = not_later (IsMove port o) b.before (entry.Move b.move) b.later h.before h.move h.later (sym b.tape_is_split ∙ h.tape_is_split) b.no_later_move h.is_move in omega (arith, a, l));
    move = b.move;
    later = b.later;
    tape_is_split = b.tape_is_split;
    is_move = b.is_move;
    no_later_move = b.no_later_move;
    scratch_holds_page = b.scratch_holds_page;
  },
  refl,
)

-- ---- a step

abbrev Un : DevicePort → Type 0
Un p = (p.ci 0 ≡ true) × ((t : FetchedCommand) → p.taken 0 ≡ Some t → t.moved ≡ 0)

-- bits of CI beside a slot
other_left : (b : Bool) (f : ℕ → Bool) (slot : ℕ) → (slot ≡ 0 → ⊥) → (if b then changed f slot false else f) 0 ≡ f 0
other_left true f slot ne = changed_other f slot false 0 (λ z. ne (sym z))
other_left false f slot ne = refl

other_right : (b : Bool) (f : ℕ → Bool) (slot : ℕ) → (slot ≡ 0 → ⊥) → (if b then f else changed f slot false) 0 ≡ f 0
other_right true f slot ne = refl
other_right false f slot ne = changed_other f slot false 0 (λ z. ne (sym z))

plain_left : (b : Bool) (f g : ℕ → Bool) → b ≡ false → (if b then g else f) 0 ≡ f 0
plain_left false f g plain = refl
plain_left true f g plain = absurd (true≢false plain)

module _ (uses : SlotStates) (m : Machine) (d : Device) (a : StateRelation uses m d) (port : ℕ) (o : Operation) (u : uses port 0 ≡ Own o) (off : d.hr ≡ false) (st : (d.port port).st ≡ true) (h : Un (d.port port)) where
  served : ServesOwn d.memory d.tape (d.port port) port 0 o
  served = subst (λ (v : SlotState). RelatesSlot m d.memory d.tape (d.port port) port 0 v) u (a.relates_slots port 0)

  -- what slot 0 has taken is the driver's command
  taken_of : (t : FetchedCommand) → (d.port port).taken 0 ≡ Some t → (t.meaning ≡ served.command) × (t.places ≡ scratch_frame_address port ∷ [])
  taken_of t is = of served.stage
    where
      of : OwnAwaitsFetch (d.port port) 0 ⊎ (OwnIsTaken d.memory d.tape (d.port port) port 0 served.command ⊎ OwnIsOverWithPageIfSt d.memory d.tape (d.port port) port 0 served.command) → (t.meaning ≡ served.command) × (t.places ≡ scratch_frame_address port ∷ [])
      of (inl y) = absurd (none-some _ (sym y.is_not_taken ∙ is))
      of (inr (inl y)) =
          let same : y.command ≡ t = same_Some _ _ (sym y.taken ∙ is) in
          (ap (λ (z : FetchedCommand). z.meaning) (sym same) ∙ y.meaning, ap (λ (z : FetchedCommand). z.places) (sym same) ∙ y.places_are)
      of (inr (inr y)) = absurd (none-some _ (sym y.over.is_not_taken ∙ is))

  plain : (c : Meaning) → c ≡ served.command → is_queued c.operation ≡ false
  plain c same = own_plain c.operation (ap (λ (w : Meaning). client_operation_of w.operation) same ∙ ap client_operation_of served.operation_is ∙ served.operation_is_drivers_own)

  -- a step of this slot, or of another
  which : (p slot : ℕ) → ((p ≡ port) × (slot ≡ 0)) ⊎ (p ≡ port → slot ≡ 0 → ⊥)
  which p slot = ⊎_elim
      (λ (e : p ≡ port). ⊎_elim (λ (f : slot ≡ 0). inl (e, f)) (λ (n : slot ≡ 0 → ⊥). inr (λ _ f. n f)) (cases_eq slot 0))
      (λ (n : p ≡ port → ⊥). inr (λ e _. n e))
      (cases_eq p port)

  there : {A : Type 0} (f : DevicePort → A) (p : ℕ) → p ≡ port → f (d.port port) ≡ f (d.port p)
  there f p e = ap (λ (q : ℕ). f (d.port q)) (sym e)

  taken_here : (p slot : ℕ) (t : FetchedCommand) → (p ≡ port) × (slot ≡ 0) → (d.port p).taken slot ≡ Some t → (d.port port).taken 0 ≡ Some t
  taken_here p slot t x is = there (λ (q : DevicePort). q.taken 0) p x.0 ∙ ap (λ (s : ℕ). (d.port p).taken s) (sym x.1) ∙ is

  still : (p : ℕ) (new : DevicePort) → (p ≡ port → new.ci 0 ≡ (d.port p).ci 0) → (p ≡ port → new.taken 0 ≡ (d.port p).taken 0) → Un (changed d.port p new port)
  still p new ci taken = at_port Un Un d p port new h (λ e x. (ci e ∙ x.0, λ t is. x.1 t (sym (taken e) ∙ is))) (λ ne x. x)

  -- slot 0 has taken this one then, with nothing moved
  now : (p slot : ℕ) (new : DevicePort) (t : FetchedCommand) → (p ≡ port) × (slot ≡ 0) → new.ci 0 ≡ (d.port p).ci 0 → new.taken ≡ changed (d.port p).taken slot (Some t) → t.moved ≡ 0 → Un (changed d.port p new port)
  now p slot new t x ci taken none = at_port Un Un d p port new h
      (λ e y. (ci ∙ y.0, λ z is. ap (λ (w : FetchedCommand). w.moved) (sym (same_Some _ _ (sym (ap (λ (f : ℕ → _). f 0) taken ∙ ap (λ (s : ℕ). changed (d.port p).taken s (Some t) 0) x.1 ∙ changed_same (d.port p).taken 0 (Some t)) ∙ is))) ∙ none))
      (λ ne y. absurd (ne (sym x.0)))

  taken_beside : (p slot : ℕ) (x : _) → (p ≡ port → slot ≡ 0 → ⊥) → p ≡ port → changed (d.port p).taken slot x 0 ≡ (d.port p).taken 0
  taken_beside p slot x ne e = changed_other (d.port p).taken slot x 0 (λ z. ne e (sym z))

  abbrev Out : Device → Type 0
  Out new = Un (new.port port) ⊎ PageHasCome new.tape port o (length d.tape)

  step_awaits : (step : DeviceTransition) → Can step d → Out (device_after step d)
  step_awaits (Fetch p slot c places) can = ⊎_elim
      (λ x. inl (now p slot _ (newly_fetched c places) x
      (plain_left (is_queued c.operation) (d.port p).ci _
      (plain c (says_meaning d.memory (d.port port).bases.clb 0 c served.command places (scratch_frame_address port ∷ [])
      (subst (λ (q : ℕ). DecodesTo d.memory (d.port q).bases.clb 0 c places) x.0 (subst (λ (s : ℕ). DecodesTo d.memory (d.port p).bases.clb s c places) x.1 can.says)) served.slot_decodes_to.decodes_to)))
      refl refl))
      (λ ne. inl (still p _ (λ e. other_left (is_queued c.operation) (d.port p).ci slot (ne e)) (taken_beside p slot _ ne)))
      (which p slot)
  step_awaits (Move p slot t bytes) can = ⊎_elim
      (λ x. inr (record {
        before = d.tape;
        move = entry.Move (move_of p slot t bytes);
        later = [];
        tape_is_split = refl;
        came_since = le_refl (length d.tape);
        is_move = (x.0, ap (λ (c : Meaning). c.operation) (taken_of t (taken_here p slot t x can.works.taken)).0 ∙ served.operation_is);
      }))
      (λ ne. inl (still p _ (λ e. refl) (taken_beside p slot _ ne)))
      (which p slot)
  step_awaits (Clear p slot t first count) can = ⊎_elim
      (λ x. inl (now p slot _ (record t { cleared = t.cleared + count }) x refl refl (h.1 t (taken_here p slot t x can.works.taken))))
      (λ ne. inl (still p _ (λ e. refl) (taken_beside p slot _ ne)))
      (which p slot)
  step_awaits (Done p slot flag t) can = ⊎_elim
      (λ x.
      let is = taken_here p slot t x can.works.taken in
      let none : t.moved ≡ 0 = h.1 t is in
      let one : length t.places ≡ 1 = ap length (taken_of t is).1 in
      let full : t.moved ≡ length t.places = can.finished.all_is_moved in
      absurd (omega (arith, none, one, full)))
      (λ ne. inl (still p _ (λ e. other_right (is_queued t.meaning.operation) (d.port p).ci slot (ne e)) (taken_beside p slot _ ne)))
      (which p slot)
  step_awaits (Fall p) can = inl (at_port Un Un d p port _ h (λ e x. absurd (both_ways _ can.0 (sym (there (λ (q : DevicePort). q.st) p e) ∙ st))) (λ ne x. x))
  step_awaits ResetEnds can = absurd (both_ways _ off can)
  step_awaits (FetchFault p slot queued kept_bits) can = inl (still p _ (λ e. refl) (λ e. refl))
  step_awaits (Fault p slot error kept_bits t) can = inl (still p _ (λ e. refl) (λ e. refl))
  step_awaits (Fatal p place) can = inl (still p _ (λ e. refl) (λ e. refl))
  step_awaits (FrFall p) can = inl (still p _ (λ e. refl) (λ e. refl))
  step_awaits (LinkUp p sig n) can = inl (still p _ (λ e. refl) (λ e. refl))
  step_awaits (Unplug p) can = inl (still p _ (λ e. refl) (λ e. refl))
  step_awaits (Plug p disk) can = inl (still p _ (λ e. refl) (λ e. refl))
  step_awaits (Scribble p slot at bytes) can = inl h

-- ---- steps

longer : (tape gained new : List Entry) (n : ℕ) → new ≡ tape ++ gained → n ≤ length tape → n ≤ length new
longer tape gained new n is le = let l = length-append tape gained in let same : length new ≡ length (tape ++ gained) = ap length is in omega (arith, l, same, le)

step_waits : StepLaws → (uses : SlotStates) (m : Machine) (port : ℕ) (o : Operation) (since : ℕ) (step : DeviceTransition) (d : Device) → StateRelation uses m d → Can step d → AwaitsOrHasPage uses port o since d → AwaitsOrHasPage uses port o since (device_after step d)
step_waits laws uses m port o since step d a can w =
    let k : KeepsOverSteps d (device_after step d) = laws.one_step_keeps step _ can in
    let on : KeepsOutsideReset d (device_after step d) = k.keeps_outside_reset w.hr_is_clear in
    record {
      hr_is_clear = on.no_reset;
      st_is_set = (on.controls_are_kept port).st_is_kept ∙ w.st_is_set;
      slot_0_has_own_command = w.slot_0_has_own_command;
      since_is_on_tape = longer d.tape k.new_entries (device_after step d).tape since k.tape_grows w.since_is_on_tape;
      page_is_awaited_or_came = ⊎_elim
          (λ (x : Slot0IsIssuedAndUnmoved (d.port port)). ⊎_elim
          (λ (y : Un ((device_after step d).port port)). inl (record { issued = y.0; unmoved = y.1 }))
          (λ (y : PageHasCome (device_after step d).tape port o (length d.tape)). inr (come_since (device_after step d).tape port o since (length d.tape) w.since_is_on_tape y))
          (step_awaits uses m d a port o w.slot_0_has_own_command w.hr_is_clear w.st_is_set (x.issued, x.unmoved) step can))
          (λ (x : PageHasCome d.tape port o since). inr (subst (λ (t : List Entry). PageHasCome t port o since) (sym k.tape_grows) (come_more d.tape k.new_entries port o since x)))
          w.page_is_awaited_or_came;
    }

leads_wait : StepLaws → (uses : SlotStates) (m : Machine) (port : ℕ) (o : Operation) (since : ℕ) (steps : List DeviceTransition) (old new : Device) → IsReachable m → StateRelation uses m old → TransitionsLead steps old new → AwaitsOrHasPage uses port o since old → AwaitsOrHasPage uses port o since new
leads_wait laws uses m port o since [] old new r a e w = subst (AwaitsOrHasPage uses port o since) (sym e) w
leads_wait laws uses m port o since (step ∷ steps) old new r a (can, lead) w =
    let f : SimulatesSteps uses m old (device_after step old) = step_follows uses m old step r a can in
    leads_wait laws uses (left.after m f.steps) port o since steps (device_after step old) new (laws.reachable_goes_on m f.steps r f.steps_are_enabled) f.state_relation lead (step_waits laws uses m port o since step old a can w)

pub steps_wait : StepLaws → (uses : SlotStates) (m : Machine) (port : ℕ) (o : Operation) (since : ℕ) (old new : Device) → IsReachable m → StateRelation uses m old → Steps old new → AwaitsOrHasPage uses port o since old → AwaitsOrHasPage uses port o since new
steps_wait laws uses m port o since old new r a s w = leads_wait laws uses m port o since s.steps old new r a s.lead w

-- ---- accesses

-- a write leaves ST one, and each bit of CI
abbrev Runs : DevicePort → Type 0
Runs p = p.st ≡ true

command_same : (v tape : ℕ) (p : DevicePort) → ((port_after_write Cmd v tape p).taken ≡ p.taken) × (bit v 0 ≡ true → p.st ≡ true → (port_after_write Cmd v tape p).st ≡ true) × (bit v 0 ≡ true → (port_after_write Cmd v tape p).ci ≡ p.ci)
command_same v tape p = by (bit v 0) p.st refl
  where
    by : (b s : Bool) → p.st ≡ s → ((port_after_fre_write (bit v 4) (port_after_st_write b tape p)).taken ≡ p.taken) × (b ≡ true → p.st ≡ true → (port_after_fre_write (bit v 4) (port_after_st_write b tape p)).st ≡ true) × (b ≡ true → (port_after_fre_write (bit v 4) (port_after_st_write b tape p)).ci ≡ p.ci)
    by false s is = (refl, λ on _. absurd (false≢true on), λ on. absurd (false≢true on))
    by true true is = subst (λ (x : DevicePort). (x.taken ≡ p.taken) × (true ≡ true → p.st ≡ true → x.st ≡ true) × (true ≡ true → x.ci ≡ p.ci)) (sym (cond-true p.st p _ is)) (refl, λ _ st. st, λ _. refl)
    by true false is = subst (λ (x : DevicePort). (x.taken ≡ p.taken) × (true ≡ true → p.st ≡ true → x.st ≡ true) × (true ≡ true → x.ci ≡ p.ci)) (sym (cond-false p.st p _ is)) (refl, λ _ st. refl, λ _. refl)

written_runs : (r : PortReg) (v tape : ℕ) (p : DevicePort) → (r ≡ Cmd → bit v 0 ≡ true) → Runs p → Runs (port_after_write r v tape p)
written_runs Cmd v tape p on h = (command_same v tape p).1 (on refl) h
written_runs _ v tape p on h = h

written_un : (r : PortReg) (v tape : ℕ) (p : DevicePort) → (r ≡ Cmd → bit v 0 ≡ true) → Un p → Un (port_after_write r v tape p)
written_un Cmd v tape p on h =
    let same = command_same v tape p in
    (ap (λ (f : ℕ → Bool). f 0) (same.2 (on refl)) ∙ h.0, λ t is. h.1 t (sym (ap (λ (f : ℕ → _). f 0) same.0) ∙ is))
written_un Ci v tape p on h = (or_left (p.ci 0) (bit v 0) h.0, h.1)
written_un _ v tape p on h = h

pub access_waits : StepLaws → (uses : SlotStates) (m : Machine) (port : Port) (o : Operation) (since : ℕ) (access : Access) (old new : Device) → IsReachable m → StateRelation uses m old → WritesCmdOnlyWithStSet port access → new.hr ≡ false → Does access old new →
    AwaitsOrHasPage uses port.0 o since old → AwaitsOrHasPage uses port.0 o since new
access_waits laws uses m port o since access old new r a keeps off x w =
    let s = access_steps access old new x in
    let y : AwaitsOrHasPage uses port.0 o since s.0 = steps_wait laws uses m port.0 o since old s.0 r a s.1 w in
    record {
      hr_is_clear = off;
      st_is_set = effect_keeps Runs port (λ p q v h. h) (λ p h. h) access old new x
          (λ q v mid is steps h. written_runs q v (length mid.tape) (mid.port port.0) (λ e. keeps v (is ∙ ap (λ (z : PortReg). Writing (Px port z) v) e)) h) y.st_is_set;
      slot_0_has_own_command = w.slot_0_has_own_command;
      since_is_on_tape = subst (λ (t : List Entry). since ≤ length t) (sym s.2) y.since_is_on_tape;
      page_is_awaited_or_came = ⊎_elim
          (λ (z : Slot0IsIssuedAndUnmoved (s.0.port port.0)).
          let n : Un (new.port port.0) = effect_keeps Un port (λ p q v h. h) (λ p h. h) access old new x
          (λ q v mid is steps h. written_un q v (length mid.tape) (mid.port port.0) (λ e. keeps v (is ∙ ap (λ (z : PortReg). Writing (Px port z) v) e)) h) (z.issued, z.unmoved) in
          inl (record { issued = n.0; unmoved = n.1 }))
          (λ (z : PageHasCome s.0.tape port.0 o since). inr (subst (λ (t : List Entry). PageHasCome t port.0 o since) (sym s.2) z))
          y.page_is_awaited_or_came;
    }

-- ---- it is issued, found and loaded

pub page_is_issued : StepLaws → (uses : SlotStates) (m : Machine) (port : Port) (o : Operation) (v : ℕ) (old new : Device) → IsReachable m → StateRelation uses m old → old.hr ≡ false → IsOwnCommandPreparedInSlot0 uses old port.0 o v → Writes (Px port Ci) v old new →
    AwaitsOrHasPage (set_slot_state uses port.0 0 (Own o)) port.0 o (length new.tape) new
page_is_issued laws uses m port o v old new r a off x call =
    let f : SimulatesSteps uses m old call.at_access = steps_follow uses m old call.at_access r a call.steps in
    let y : IsOwnCommandPreparedInSlot0 uses call.at_access port.0 o v = own_prepared_stays uses m old call.at_access port.0 o v r a off call.steps x in
    let over : SlotHasNoCommand (call.at_access.port port.0) 0 = own_over uses (left.after m f.steps) call.at_access f.state_relation port.0 o v y in
    let is : new.port port.0 ≡ issued_port (call.at_access.port port.0) v = ap (λ (d : Device). d.port port.0) call.effect ∙ changed_same call.at_access.port port.0 _ in
    record {
      hr_is_clear = ap (λ (d : Device). d.hr) call.effect ∙ ((laws.steps_keep _ _ call.steps).keeps_outside_reset off).no_reset;
      st_is_set = ap (λ (p : DevicePort). p.st) is ∙ y.st_is_set;
      slot_0_has_own_command = put_same uses port.0 0 (Own o);
      since_is_on_tape = le_refl (length new.tape);
      page_is_awaited_or_came = inl (record {
        issued = ap (λ (p : DevicePort). p.ci 0) is ∙ or_right ((call.at_access.port port.0).ci 0) (bit v 0) y.bit_is_set;
        unmoved = λ t taken. absurd (none-some _ (sym over.is_not_taken ∙ (sym (ap (λ (p : DevicePort). p.taken 0) is) ∙ taken)));
      });
    }

-- the command isn't issued any more
come_of : (uses : SlotStates) (port : ℕ) (o : Operation) (since : ℕ) (d : Device) → AwaitsOrHasPage uses port o since d → (d.port port).ci 0 ≡ false → PageHasCome d.tape port o since
come_of uses port o since d w clear = ⊎_elim (λ (x : Slot0IsIssuedAndUnmoved (d.port port)). absurd (both_ways _ clear x.issued)) (λ (x : PageHasCome d.tape port o since). x) w.page_is_awaited_or_came

pub law_ci_read_clear_means_page_has_come : StepLaws → (uses : SlotStates) (m : Machine) (port : Port) (o : Operation) (since v : ℕ) (old new : Device) → IsReachable m → StateRelation uses m old → AwaitsOrHasPage uses port.0 o since old → Reads (Px port Ci) v old new → bit v 0 ≡ false →
    FollowsAndHasPageSinceStSet uses m port.0 o old new × PageCameSinceAndStandsInScratch new.memory new.tape port.0 o since
law_ci_read_clear_means_page_has_come laws uses m port o since v old new r a w call clear =
    let page : FollowsAndHasPageSinceStSet uses m port.0 o old new = page_is_read laws uses m port o v old new r a w.hr_is_clear w.st_is_set w.slot_0_has_own_command call clear in
    let y : AwaitsOrHasPage uses port.0 o since call.at_access = steps_wait laws uses m port.0 o since old call.at_access r a call.steps w in
    let come : PageHasCome call.at_access.tape port.0 o since = come_of uses port.0 o since call.at_access y (sym (call.shows 0 (omega arith)) ∙ clear) in
    let there : PageHasCome new.tape port.0 o since = subst (λ (t : List Entry). PageHasCome t port.0 o since) (sym (ap (λ (d : Device). d.tape) call.effect)) come in
    (page, (brought_since new.memory new.tape port.0 o since (new.port port.0).notes.st_set_at there page.page_since_st_set_is_in_scratch).0)

pub awaited_is_loaded : StepLaws → (uses : SlotStates) (m : Machine) (port : ℕ) (o : Operation) (since : ℕ) (bytes : List ℕ) (old new : Device) → IsReachable m → StateRelation uses m old → AwaitsOrHasPage uses port o since old → SlotHasNoCommand (old.port port) 0 →
    Loads (scratch_frame_address port) bytes old new → length bytes ≡ 512 → (b : PageCameSinceAndStandsInScratch new.memory new.tape port o since) × (bytes ≡ b.move.bytes.value)
awaited_is_loaded laws uses m port o since bytes old new r a w over call size =
    let page = page_is_loaded laws uses m port o bytes old new r a w.hr_is_clear w.st_is_set w.slot_0_has_own_command over call size in
    let y : AwaitsOrHasPage uses port o since new = steps_wait laws uses m port o since old new r a call.steps w in
    let come : PageHasCome new.tape port o since = come_of uses port o since new y (((laws.steps_keep _ _ call.steps).port_bits_only_fall port).ci_stays_clear 0 over.is_not_issued) in
    let b = brought_since new.memory new.tape port o since (new.port port).notes.st_set_at come page.0.page_since_st_set_is_in_scratch in
    (b.0, page.1 ∙ ap (λ (x : tape_move.Move). x.bytes.value) (sym b.1))
