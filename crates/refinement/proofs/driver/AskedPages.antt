-- The pages that come are those of the driver's own commands, one for each.
use Rattle.std.proofs.Common.{ℕ, ◌≡◌, ◌⊎◌, ◌<◌, ◌+◌, ◌++◌, false, List, [], ◌∷◌, length, Option, Some, None, refl, sym, ◌∙◌, ap, subst, arith, inl, inr, ⊎_elim, append-nil}
use Rattle.std.specs.Prelude.{All}
use Rattle.std.proofs.lemmas.Bool.{cases_eq}
use Rattle.std.proofs.lemmas.List.{append_cancel_left}
use Rattle.std.proofs.lemmas.List.Elements.{All-nil, All-cons, All-append}
use Rattle.std.proofs.lemmas.Option.{none-some, same_Some}
use Rattle.adapter.specs.Access.{Access, Does}
use Rattle.adapter.specs.Commands.{Meaning, is_queued}
use Rattle.adapter.specs.Device.{FetchedCommand, DevicePort, Device}
use Rattle.adapter.specs.KeptBySteps.{KeepsOverSteps, PortBitsOnlyFallFreeSlotsStay}
use Rattle.adapter.specs.Memory.{changed}
use Rattle.adapter.specs.Steps.{Can, device_after, TransitionsLead, Steps, MayMove, block_after, move_of}
use Rattle.adapter.specs.Steps as steps
use Rattle.adapter.specs.Steps.DeviceTransition.{Fetch, FetchFault, Move, Clear, Done, Fault, Fatal, Fall, FrFall, LinkUp, Unplug, Plug, ResetEnds, Scribble}
use Rattle.adapter.specs.declared.command.Operation.{Operation}
use Rattle.adapter.specs.declared.tape.Entry.{Entry}
use Rattle.adapter.specs.declared.tape.Entry.TheVariants as entry
use Rattle.adapter.proofs.Changed.{changed_same, changed_other}
use Rattle.block_machine.specs.Histories.{IsReachable}
use Rattle.block_machine.specs.Expected as left
use Rattle.block_machine.specs.State.{Machine}
use Rattle.refinement.specs.StepLaws.{StepLaws}
use Rattle.refinement.specs.Relation.{StateRelation}
use Rattle.refinement.specs.Simulation.{SimulatesSteps}
use Rattle.refinement.specs.MemoryLayout.{scratch_frame_address}
use Rattle.adapter.specs.OneCommand.{SlotHasNoCommand}
use Rattle.refinement.specs.Slots.{SlotState, Free, Own, Serves, SlotStates, IsMove, OwnAwaitsFetch, OwnIsTaken, OwnIsOverWithPageIfSt, ServesOwn, RelatesSlot, client_operation_of, Armed}
use Rattle.refinement.specs.Tape.{OneAtMost}
use Rattle.refinement.proofs.device.FactsOverAccesses.{access_steps}
use Rattle.refinement.proofs.steps.EndedCommand.{own_clear}
use Rattle.refinement.proofs.steps.FollowedSteps.{step_follows}
use Rattle.refinement.proofs.device.TapeGains.{NoneOf, GainsNone, gained_parts}
use Rattle.refinement.proofs.device.HealthyPort.{at_port}
use Rattle.refinement.proofs.steps.MovedSector.{TakenAs, taken_as}
use Rattle.refinement.proofs.steps.TakenCommand.{none_op, own_plain}

-- slot 0 has no page to bring: its command is over, or has brought what it brings
abbrev IsSpent : DevicePort → Type 0
IsSpent p = SlotHasNoCommand p 0 ⊎ ((t : FetchedCommand) × (p.taken 0 ≡ Some t) × (t.moved ≡ length t.places))

-- ---- a step

module _ (laws : StepLaws) (uses : SlotStates) (m : Machine) (d : Device) (a : StateRelation uses m d) (port : ℕ) (o : Operation) (own : client_operation_of o ≡ None) where
  -- a page that comes is of the command in slot 0
  page_asked : (p slot : ℕ) (t : FetchedCommand) (bytes : List ℕ) → MayMove d p slot t bytes → IsMove port o (entry.Move (move_of p slot t bytes)) →
      (uses port 0 ≡ Own o) × (p ≡ port) × (slot ≡ 0)
  page_asked p slot t bytes can x = by (uses p slot) refl (a.relates_slots p slot)
    where
      by : (u : SlotState) → uses p slot ≡ u → RelatesSlot m d.memory d.tape (d.port p) p slot u → (uses port 0 ≡ Own o) × (p ≡ port) × (slot ≡ 0)
      by Free u h = absurd (none-some _ (sym h.is_not_taken ∙ can.works.taken))
      by Armed u h = absurd (none-some _ (sym h.is_not_taken ∙ can.works.taken))
      by (Serves id) u h =
          let known : TakenAs d.memory (d.port p) p slot h.pending h.command h.places t = taken_as d.memory (d.port p) p slot h.pending h.command h.places t can.works.taken h.stage in
          none_op (sym own ∙ ap client_operation_of (sym x.1) ∙ ap (λ (c : Meaning). client_operation_of c.operation) known.meaning ∙ h.means.op_is)
      by (Own w) u h = of h.stage
        where
          of : OwnAwaitsFetch (d.port p) slot ⊎ (OwnIsTaken d.memory d.tape (d.port p) p slot h.command ⊎ OwnIsOverWithPageIfSt d.memory d.tape (d.port p) p slot h.command) → (uses port 0 ≡ Own o) × (p ≡ port) × (slot ≡ 0)
          of (inl y) = absurd (none-some _ (sym y.is_not_taken ∙ can.works.taken))
          of (inr (inr y)) = absurd (none-some _ (sym y.over.is_not_taken ∙ can.works.taken))
          of (inr (inl y)) =
              let same : y.command ≡ t = same_Some _ _ (sym y.taken ∙ can.works.taken) in
              let is : w ≡ o = sym h.operation_is ∙ ap (λ (c : Meaning). c.operation) (sym y.meaning) ∙ ap (λ (z : FetchedCommand). z.meaning.operation) same ∙ x.1 in
              (ap (λ (q : ℕ). uses q 0) (sym x.0) ∙ ap (uses p) (sym h.slot_is_0) ∙ u ∙ ap Own is, x.0, h.slot_is_0)

  -- a page that comes has slot 0 bring it, which had it to bring and has none then
  pub record MayBring (new : Device) : Type 0 where
    pub asked : uses port 0 ≡ Own o
    pub unspent : IsSpent (d.port port) → ⊥
    pub spent : IsSpent (new.port port)

  move_brings : (p slot : ℕ) (t : FetchedCommand) (bytes : List ℕ) → MayMove d p slot t bytes → IsMove port o (entry.Move (move_of p slot t bytes)) → MayBring (device_after (Move p slot t bytes) d)
  move_brings p slot t bytes can x = record { asked = asked.0; unspent = unspent; spent = of served.stage }
    where
      asked : (uses port 0 ≡ Own o) × (p ≡ port) × (slot ≡ 0)
      asked = page_asked p slot t bytes can x

      served : ServesOwn d.memory d.tape (d.port port) port 0 o
      served = subst (λ (u : SlotState). RelatesSlot m d.memory d.tape (d.port port) port 0 u) asked.0 (a.relates_slots port 0)

      taken : (d.port port).taken 0 ≡ Some t
      taken = ap (λ (s : ℕ). (d.port port).taken s) (sym asked.2) ∙ ap (λ (q : ℕ). (d.port q).taken slot) (sym asked.1) ∙ can.works.taken

      left : t.moved < length t.places
      left = can.piece_is_left

      unspent : IsSpent (d.port port) → ⊥
      unspent (inl over) = absurd (none-some _ (sym over.is_not_taken ∙ taken))
      unspent (inr (z, there, all)) =
          let full : t.moved ≡ length t.places = subst (λ (y : FetchedCommand). y.moved ≡ length y.places) (same_Some _ _ (sym there ∙ taken)) all in
          let l = left in
          omega (arith, full, l)

      of : OwnAwaitsFetch (d.port port) 0 ⊎ (OwnIsTaken d.memory d.tape (d.port port) port 0 served.command ⊎ OwnIsOverWithPageIfSt d.memory d.tape (d.port port) port 0 served.command) → IsSpent ((device_after (Move p slot t bytes) d).port port)
      of (inl y) = absurd (none-some _ (sym y.is_not_taken ∙ taken))
      of (inr (inr y)) = absurd (none-some _ (sym y.over.is_not_taken ∙ taken))
      of (inr (inl y)) =
          let same : y.command ≡ t = same_Some _ _ (sym y.taken ∙ taken) in
          let places : t.places ≡ scratch_frame_address port ∷ [] = ap (λ (z : FetchedCommand). z.places) (sym same) ∙ y.places_are in
          let one : length t.places ≡ 1 = ap length places in
          let l = left in
          at_port (λ q. Unit {0}) IsSpent d p port _ tt
          (λ e q. inr (record t { moved = t.moved + 1; block = block_after t.meaning.operation bytes t.block }, ap (λ (s : ℕ). changed (d.port p).taken s (Some (record t { moved = t.moved + 1; block = block_after t.meaning.operation bytes t.block })) 0) asked.2 ∙ changed_same (d.port p).taken 0 _, omega (arith, one, l)))
          (λ ne q. absurd (ne (sym asked.1)))

  -- a step gains no entry, or one
  abbrev Gains : Device → List Entry → Type 0
  Gains new gained = (gained ≡ []) ⊎ ((e : Entry) × (gained ≡ e ∷ []) × (IsMove port o e → MayBring new))

  step_gains : (step : steps.DeviceTransition) → Can step d → (gained : List Entry) → (device_after step d).tape ≡ d.tape ++ gained → Gains (device_after step d) gained
  step_gains step can gained is = by step can is
    where
      nothing : {new : Device} → d.tape ≡ d.tape ++ gained → Gains new gained
      nothing is = inl (sym (append_cancel_left d.tape [] gained (append-nil d.tape ∙ is)))

      one : {new : Device} (e : Entry) → (IsMove port o e → MayBring new) → d.tape ++ e ∷ [] ≡ d.tape ++ gained → Gains new gained
      one e brings is = inr (e, sym (append_cancel_left d.tape (e ∷ []) gained is), brings)

      by : (step : steps.DeviceTransition) → Can step d → (device_after step d).tape ≡ d.tape ++ gained → Gains (device_after step d) gained
      by (Fetch p slot c places) can is = nothing is
      by (FetchFault p slot queued kept_bits) can is = one _ (λ x. absurd x) is
      by (Move p slot t bytes) can is = one _ (move_brings p slot t bytes can) is
      by (Clear p slot t first count) can is = one _ (λ x. absurd x) is
      by (Done p slot flag t) can is = one _ (λ x. absurd x) is
      by (Fault p slot error kept_bits t) can is = one _ (λ x. absurd x) is
      by (Fatal p place) can is = one _ (λ x. absurd x) is
      by (Fall p) can is = nothing is
      by (FrFall p) can is = nothing is
      by (LinkUp p sig n) can is = nothing is
      by (Unplug p) can is = one _ (λ x. absurd x) is
      by (Plug p disk) can is = one _ (λ x. absurd x) is
      by ResetEnds can is = nothing is
      by (Scribble p slot at bytes) can is = nothing is

  -- and it goes on having none
  step_spent : (uses port 0 ≡ Own o) → (step : steps.DeviceTransition) → Can step d → IsSpent (d.port port) → IsSpent ((device_after step d).port port)
  step_spent u step can (inl over) =
      let k : PortBitsOnlyFallFreeSlotsStay (d.port port) ((device_after step d).port port) = (laws.one_step_keeps step _ can).port_bits_only_fall port in
      inl (record { is_not_issued = k.ci_stays_clear 0 over.is_not_issued; is_not_taken = k.slots_stay_free 0 over.is_not_issued over.is_not_taken })
  step_spent u step can (inr (t, is, all)) = by step can
    where
      served : ServesOwn d.memory d.tape (d.port port) port 0 o
      served = subst (λ (x : SlotState). RelatesSlot m d.memory d.tape (d.port port) port 0 x) u (a.relates_slots port 0)

      taken : OwnIsTaken d.memory d.tape (d.port port) port 0 served.command
      taken = of served.stage
        where
          of : OwnAwaitsFetch (d.port port) 0 ⊎ (OwnIsTaken d.memory d.tape (d.port port) port 0 served.command ⊎ OwnIsOverWithPageIfSt d.memory d.tape (d.port port) port 0 served.command) → OwnIsTaken d.memory d.tape (d.port port) port 0 served.command
          of (inl y) = absurd (none-some _ (sym y.is_not_taken ∙ is))
          of (inr (inl y)) = y
          of (inr (inr y)) = absurd (none-some _ (sym y.over.is_not_taken ∙ is))

      plain : is_queued t.meaning.operation ≡ false
      plain =
          let same : taken.command ≡ t = same_Some _ _ (sym taken.taken ∙ is) in
          own_plain t.meaning.operation (ap (λ (z : FetchedCommand). client_operation_of z.meaning.operation) (sym same) ∙ ap (λ (c : Meaning). client_operation_of c.operation) taken.meaning ∙ ap client_operation_of served.operation_is ∙ own)

      -- what slot 0 has taken is the same, or another slot's changed
      still : (p : ℕ) (new : DevicePort) → (p ≡ port → new.taken 0 ≡ (d.port p).taken 0) → IsSpent (changed d.port p new port)
      still p new same = at_port (λ x. x.taken 0 ≡ Some t) IsSpent d p port new is (λ e x. inr (t, same e ∙ x, all)) (λ ne x. inr (t, x, all))

      slot_still : (p slot : ℕ) (new : DevicePort) (x : Option FetchedCommand) → (p ≡ port → slot ≡ 0 → ⊥) → new.taken ≡ changed (d.port p).taken slot x → IsSpent (changed d.port p new port)
      slot_still p slot new x ne e = still p new (λ here. ap (λ (f : ℕ → Option FetchedCommand). f 0) e ∙ changed_other (d.port p).taken slot x 0 (λ zero. ne here (sym zero)))

      at_slot : (p slot : ℕ) (z : FetchedCommand) → p ≡ port → slot ≡ 0 → (d.port p).taken slot ≡ Some z → t ≡ z
      at_slot p slot z e f there = same_Some _ _ (sym is ∙ ap (λ (q : ℕ). (d.port q).taken 0) (sym e) ∙ ap (λ (s : ℕ). (d.port p).taken s) (sym f) ∙ there)

      by : (step : steps.DeviceTransition) → Can step d → IsSpent ((device_after step d).port port)
      by (Fetch p slot c places) can = slot_still p slot _ _ (λ e f. absurd (none-some _ (sym (ap (λ (q : ℕ). (d.port q).taken 0) (sym e) ∙ ap (λ (s : ℕ). (d.port p).taken s) (sym f) ∙ can.fetchable.free) ∙ is))) refl
      by (Move p slot z bytes) can = slot_still p slot _ _
          (λ e f. let full : z.moved ≡ length z.places = subst (λ (y : FetchedCommand). y.moved ≡ length y.places) (at_slot p slot z e f can.works.taken) all in
          let left : z.moved < length z.places = can.piece_is_left in
          omega (arith, full, left))
          refl
      by (Clear p slot z first count) can = ⊎_elim
          (λ (f : slot ≡ 0). at_port (λ x. x.taken 0 ≡ Some t) IsSpent d p port _ is
          (λ e x. inr (record z { cleared = z.cleared + count }, ap (λ (s : ℕ). changed (d.port p).taken s (Some (record z { cleared = z.cleared + count })) 0) f ∙ changed_same (d.port p).taken 0 _, subst (λ (y : FetchedCommand). y.moved ≡ length y.places) (at_slot p slot z e f can.works.taken) all))
          (λ ne x. inr (t, x, all)))
          (λ (ne : slot ≡ 0 → ⊥). slot_still p slot _ _ (λ e f. ne f) refl)
          (cases_eq slot 0)
      by (Done p slot flag z) can = ⊎_elim
          (λ (f : slot ≡ 0). at_port (λ x. x.taken 0 ≡ Some t) IsSpent d p port _ is
          (λ e x. inl (subst (λ (s : ℕ). SlotHasNoCommand (steps.port_with_lasting_after_operation (steps.port_after_done_except_lasting (d.port p) s flag z.meaning.operation) z.meaning.operation (length d.tape)) 0) (sym f) (record {
            is_not_issued = own_clear (is_queued z.meaning.operation) (d.port p).ci 0 (subst (λ (y : FetchedCommand). is_queued y.meaning.operation ≡ false) (at_slot p slot z e f can.works.taken) plain);
            is_not_taken = changed_same (d.port p).taken 0 None;
          })))
          (λ ne x. inr (t, x, all)))
          (λ (ne : slot ≡ 0 → ⊥). slot_still p slot _ _ (λ e f. ne f) refl)
          (cases_eq slot 0)
      by (Fall p) can = at_port (λ x. x.ci 0 ≡ x.st) IsSpent d p port _ taken.issued
          (λ e x. inl (record { is_not_issued = x ∙ can.0; is_not_taken = refl }))
          (λ ne x. inr (t, is, all))
      by ResetEnds can = inl (record { is_not_issued = refl; is_not_taken = refl })
      by (FetchFault p slot queued kept_bits) can = still p _ (λ e. refl)
      by (Fault p slot error kept_bits z) can = still p _ (λ e. refl)
      by (Fatal p place) can = still p _ (λ e. refl)
      by (FrFall p) can = still p _ (λ e. refl)
      by (LinkUp p sig n) can = still p _ (λ e. refl)
      by (Unplug p) can = still p _ (λ e. refl)
      by (Plug p disk) can = still p _ (λ e. refl)
      by (Scribble p slot at bytes) can = inr (t, is, all)

-- ---- lists of steps

module _ (laws : StepLaws) (uses : SlotStates) (port : ℕ) (o : Operation) (own : client_operation_of o ≡ None) where
  no_pages : NoneOf (IsMove port o) []
  no_pages = All-nil (λ e. IsMove port o e → ⊥)

  nothing_gained : (d new : Device) (gained : List Entry) → new ≡ d → new.tape ≡ d.tape ++ gained → gained ≡ []
  nothing_gained d new gained e is = sym (append_cancel_left d.tape [] gained (append-nil d.tape ∙ ap (λ (x : Device). x.tape) (sym e) ∙ is))

  leads_none : (m : Machine) (steps : List steps.DeviceTransition) (old new : Device) → IsReachable m → StateRelation uses m old → TransitionsLead steps old new → (uses port 0 ≡ Own o → IsSpent (old.port port)) → (gained : List Entry) → new.tape ≡ old.tape ++ gained →
      NoneOf (IsMove port o) gained
  leads_none m [] old new r a e spent gained is = subst (NoneOf (IsMove port o)) (sym (nothing_gained old new gained e is)) no_pages
  leads_none m (step ∷ steps) old new r a (can, lead) spent gained is =
      let f : SimulatesSteps uses m old (device_after step old) = step_follows uses m old step r a can in
      let later = laws.steps_keep _ _ (record { steps = steps; lead = lead }) in
      subst (NoneOf (IsMove port o)) (sym (gained_parts old.tape (device_after step old).tape new.tape f.new_entries later.new_entries gained f.tape_is later.tape_grows is))
      (All-append (λ e. IsMove port o e → ⊥) f.new_entries later.new_entries
      (first f.new_entries (step_gains laws uses m old a port o own step can f.new_entries f.tape_is))
      (leads_none (left.after m f.steps) steps (device_after step old) new (laws.reachable_goes_on m f.steps r f.steps_are_enabled) f.state_relation lead (λ u. step_spent laws uses m old a port o own u step can (spent u)) later.new_entries later.tape_grows))
    where
      first : (entries : List Entry) → (Gains laws) uses m old a port o own (device_after step old) entries → NoneOf (IsMove port o) entries
      first entries (inl e) = subst (NoneOf (IsMove port o)) (sym e) no_pages
      first entries (inr (x, e, brings)) = subst (NoneOf (IsMove port o)) (sym e) (All-cons (λ y. IsMove port o y → ⊥) x [] (λ k. let b = brings k in b.unspent (spent b.asked)) no_pages)

  leads_once : (m : Machine) (steps : List steps.DeviceTransition) (old new : Device) → IsReachable m → StateRelation uses m old → TransitionsLead steps old new → (gained : List Entry) → new.tape ≡ old.tape ++ gained → OneAtMost (IsMove port o) gained
  leads_once m [] old new r a e gained is = subst (OneAtMost (IsMove port o)) (sym (nothing_gained old new gained e is)) tt
  leads_once m (step ∷ steps) old new r a (can, lead) gained is =
      let f : SimulatesSteps uses m old (device_after step old) = step_follows uses m old step r a can in
      let later = laws.steps_keep _ _ (record { steps = steps; lead = lead }) in
      subst (OneAtMost (IsMove port o)) (sym (gained_parts old.tape (device_after step old).tape new.tape f.new_entries later.new_entries gained f.tape_is later.tape_grows is))
      (first f.new_entries later.new_entries (step_gains laws uses m old a port o own step can f.new_entries f.tape_is)
      (λ spent. leads_none (left.after m f.steps) steps (device_after step old) new (laws.reachable_goes_on m f.steps r f.steps_are_enabled) f.state_relation lead (λ u. spent) later.new_entries later.tape_grows)
      (leads_once (left.after m f.steps) steps (device_after step old) new (laws.reachable_goes_on m f.steps r f.steps_are_enabled) f.state_relation lead later.new_entries later.tape_grows))
    where
      first : (entries later : List Entry) → (Gains laws) uses m old a port o own (device_after step old) entries → (IsSpent ((device_after step old).port port) → NoneOf (IsMove port o) later) → OneAtMost (IsMove port o) later → OneAtMost (IsMove port o) (entries ++ later)
      first entries later (inl e) none once = subst (λ (l : List Entry). OneAtMost (IsMove port o) (l ++ later)) (sym e) once
      first entries later (inr (x, e, brings)) none once = subst (λ (l : List Entry). OneAtMost (IsMove port o) (l ++ later)) (sym e) (λ k. none (brings k).spent, once)

-- ---- accesses

pub pages_asked : StepLaws → (uses : SlotStates) (m : Machine) (old new : Device) (port : ℕ) (o : Operation) (gained : List Entry) → IsReachable m → StateRelation uses m old → Steps old new → new.tape ≡ old.tape ++ gained → client_operation_of o ≡ None →
    (uses port 0 ≡ Own o → SlotHasNoCommand (old.port port) 0) → All (λ e. IsMove port o e → ⊥) gained
pages_asked laws uses m old new port o gained r a s is own over = leads_none laws uses port o own m s.steps old new r a s.lead (λ u. inl (over u)) gained is

pub pages_once : StepLaws → (uses : SlotStates) (m : Machine) (old new : Device) (port : ℕ) (o : Operation) (gained : List Entry) → IsReachable m → StateRelation uses m old → Steps old new → new.tape ≡ old.tape ++ gained → client_operation_of o ≡ None →
    OneAtMost (IsMove port o) gained
pages_once laws uses m old new port o gained r a s is own = leads_once laws uses port o own m s.steps old new r a s.lead gained is

pub access_pages_asked : StepLaws → (uses : SlotStates) (m : Machine) (access : Access) (old new : Device) (port : ℕ) (o : Operation) (gained : List Entry) → IsReachable m → StateRelation uses m old → Does access old new → new.tape ≡ old.tape ++ gained → client_operation_of o ≡ None →
    (uses port 0 ≡ Own o → SlotHasNoCommand (old.port port) 0) → All (λ e. IsMove port o e → ⊥) gained
access_pages_asked laws uses m access old new port o gained r a x is own over =
    let s = access_steps access old new x in
    (pages_asked laws) uses m old s.0 port o gained r a s.1 (sym s.2 ∙ is) own over

-- where slot 0 has no command for such a page
pub access_sends_none : StepLaws → (uses : SlotStates) (m : Machine) (access : Access) (old new : Device) (port : ℕ) (o : Operation) → IsReachable m → StateRelation uses m old → Does access old new → client_operation_of o ≡ None →
    (uses port 0 ≡ Own o → ⊥) → GainsNone (IsMove port o) old new
access_sends_none laws uses m access old new port o r a x own none =
    let s = access_steps access old new x in
    let k : KeepsOverSteps old s.0 = laws.steps_keep _ _ s.1 in
    let is : new.tape ≡ old.tape ++ k.new_entries = s.2 ∙ k.tape_grows in
    (k.new_entries, is, access_pages_asked laws uses m access old new port o k.new_entries r a x is own (λ u. absurd (none u)))

pub access_pages_once : StepLaws → (uses : SlotStates) (m : Machine) (access : Access) (old new : Device) (port : ℕ) (o : Operation) (gained : List Entry) → IsReachable m → StateRelation uses m old → Does access old new → new.tape ≡ old.tape ++ gained → client_operation_of o ≡ None →
    OneAtMost (IsMove port o) gained
access_pages_once laws uses m access old new port o gained r a x is own =
    let s = access_steps access old new x in
    (pages_once laws) uses m old s.0 port o gained r a s.1 (sym s.2 ∙ is) own
