-- Acts of the driver, one after another, and what they give.
use Rattle.std.proofs.Common.{ℕ, ◌≡◌, ◌++◌, List, [], ◌∷◌, Option, None, Some, get_or, refl, sym, ◌∙◌, ap, subst, append_assoc, append-nil}
use Rattle.std.specs.Prelude.{All}
use Rattle.std.proofs.lemmas.List.Elements.{All-nil, All-cons, All-head, All-tail}
use Rattle.ata_types.specs.declared.Port.{Port}
use Rattle.hba_regs.specs.declared.reg.Reg.TheVariants.{Px}
use Rattle.hba_regs.specs.declared.reg.PortReg.TheVariants.{Sact}
use Rattle.adapter.specs.Access.{Access, DoesAll}
use Rattle.adapter.specs.Device.{Device}
use Rattle.adapter.specs.declared.command.Operation.{Operation}
use Rattle.block_machine.specs.Histories.{IsReachable}
use Rattle.block_machine.specs.Expected as left
use Rattle.block_machine.specs.State.{Machine}
use Rattle.block_machine.specs.Steps.{Step}
use Rattle.block_machine.proofs.EventLemmas.{after-append}
use Rattle.refinement.specs.StepLaws.{StepLaws}
use Rattle.refinement.specs.Acts.{Act, AccessIsDoneOrDeviceIsSame, IsActDone, AreActsDone, prepend_access, accesses_of, newest_first_steps_of_acts}
use Rattle.refinement.specs.Fragments.{GainsNoMove}
use Rattle.refinement.specs.Driver.{DriverState, DriverRelation, DriverAdvances}
use Rattle.refinement.specs.PreservedParts.{DoesNotWrite}
use Rattle.refinement.specs.HaltRecovery.{WorksOnUnqueuedCommandsOnly}
use Rattle.refinement.specs.Slots.{SlotState, Own, IsMove, client_operation_of}
use Rattle.refinement.proofs.driver.ComposedMoves.{goes_none, goes_more, going_reaches}
use Rattle.refinement.proofs.device.TapeGains.{gains_nothing, gains_more}
use Rattle.refinement.proofs.driver.AskedPages.{access_sends_none}
use Rattle.refinement.proofs.device.PlainPort.{access_plain}

-- ---- one part after another

pub accesses_append : (early late : List Act) → accesses_of (early ++ late) ≡ accesses_of early ++ accesses_of late
accesses_append [] late = refl
accesses_append (act ∷ early) late = ap (prepend_access act.access) (accesses_append early late) ∙ with_append act.access (accesses_of early)
  where
    with_append : (access : Option Access) (first : List Access) → prepend_access access (first ++ accesses_of late) ≡ prepend_access access first ++ accesses_of late
    with_append None first = refl
    with_append (Some access) first = refl

pub steps_append : (early late : List Act) → newest_first_steps_of_acts (early ++ late) ≡ newest_first_steps_of_acts late ++ newest_first_steps_of_acts early
steps_append [] late = sym (append-nil (newest_first_steps_of_acts late))
steps_append (act ∷ early) late = ap (λ (steps : List Step). steps ++ act.steps) (steps_append early late) ∙ append_assoc (newest_first_steps_of_acts late) (newest_first_steps_of_acts early) act.steps

pub done_more : (early late : List Act) (a b c : DriverState) (m : Machine) → AreActsDone early a m b → AreActsDone late b (left.after m (newest_first_steps_of_acts early)) c → AreActsDone (early ++ late) a m c
done_more [] late a b c m x y = subst (λ (k : DriverState). AreActsDone late k m c) x y
done_more (act ∷ early) late a b c m x y = (
  x.0,
  done_more early late act.state_after b c (left.after m act.steps) x.1 (subst (λ (n : Machine). AreActsDone late b n c) (after-append m (newest_first_steps_of_acts early) act.steps) y),
)

-- ---- what they give

pub done_goes : (acts : List Act) (k later : DriverState) (m : Machine) → DriverRelation m k → AreActsDone acts k m later → DriverAdvances k m (newest_first_steps_of_acts acts) later
done_goes [] k later m x done = subst (λ (end : DriverState). DriverAdvances k m [] end) (sym done) (goes_none k m x)
done_goes (act ∷ acts) k later m x done =
    goes_more k act.state_after later m act.steps (newest_first_steps_of_acts acts) done.0.driver_advances (done_goes acts act.state_after later (left.after m act.steps) done.0.driver_advances.driver_relation done.1)

-- what the accesses are alone in, over acts without one
leads_then : (access : Option Access) (rest : List Access) (old mid new : Device) → AccessIsDoneOrDeviceIsSame access old mid → DoesAll rest mid new → DoesAll (prepend_access access rest) old new
leads_then None rest old mid new same all = subst (λ (d : Device). DoesAll rest d new) same all
leads_then (Some access) rest old mid new does all = (mid, does, all)

pub done_does : (acts : List Act) (k later : DriverState) (m : Machine) → AreActsDone acts k m later → DoesAll (accesses_of acts) k.device later.device
done_does [] k later m done = ap (λ (x : DriverState). x.device) done
done_does (act ∷ acts) k later m done =
    leads_then act.access (accesses_of acts) k.device act.state_after.device later.device done.0.access_is_done_or_device_is_same (done_does acts act.state_after later (left.after m act.steps) done.1)

-- What each act keeps, with a machine that agrees before it, all of them keep.
pub done_keeps : (P : DriverState → Type 0) (Q : Act → Type 0) → ((k : DriverState) (m : Machine) (act : Act) → IsReachable m → DriverRelation m k → IsActDone k m act → Q act → P k → P act.state_after) →
    (acts : List Act) (k later : DriverState) (m : Machine) → IsReachable m → DriverRelation m k → All Q acts → AreActsDone acts k m later → P k → P later
done_keeps P Q each [] k later m reached x all done here = subst P (sym done) here
done_keeps P Q each (act ∷ acts) k later m reached x all done here =
    done_keeps P Q each acts act.state_after later (left.after m act.steps) (going_reaches k act.state_after m act.steps reached done.0.driver_advances) done.0.driver_advances.driver_relation
    (All-tail Q act acts all) done.1 (each k m act reached x done.0 (All-head Q act acts all) here)

-- what each of these acts is said to be, it is said to be in other words
pub all_acts : (P Q : Act → Type 0) (acts : List Act) → ((act : Act) → P act → Q act) → All P acts → All Q acts
all_acts P Q acts each all k d small = each (get_or acts k d) (all k d small)

-- uses of a port's slots that stay after each act
pub done_uses : (port : ℕ) (uses : ℕ → SlotState) (acts : List Act) (k later : DriverState) (m : Machine) → k.slot_states port ≡ uses → All (λ act. act.state_after.slot_states port ≡ uses) acts → AreActsDone acts k m later → later.slot_states port ≡ uses
done_uses port uses [] k later m here all done = ap (λ (x : DriverState). x.slot_states port) done ∙ here
done_uses port uses (act ∷ acts) k later m here all done =
    let Q = λ (a : Act). a.state_after.slot_states port ≡ uses in
    done_uses port uses acts act.state_after later (left.after m act.steps) (All-head Q act acts all) (All-tail Q act acts all) done.1

-- the access of an act, if it has one, is of this kind
abbrev pub IsOfKind : (Access → Type 0) → Option Access → Type 0
IsOfKind May None = Unit {0}
IsOfKind May (Some access) = May access

pub acts_of_kind : (May : Access → Type 0) (acts : List Act) → All May (accesses_of acts) → All (λ act. IsOfKind May act.access) acts
acts_of_kind May [] all = All-nil (λ (act : Act). IsOfKind May act.access)
acts_of_kind May (act ∷ acts) all = let x = apart act.access (accesses_of acts) all in All-cons (λ (act : Act). IsOfKind May act.access) act acts x.0 (acts_of_kind May acts x.1)
  where
    apart : (access : Option Access) (rest : List Access) → All May (prepend_access access rest) → IsOfKind May access × All May rest
    apart None rest all = (tt, all)
    apart (Some access) rest all = (All-head May access rest all, All-tail May access rest all)

-- A port for whose disk slot 0 has no command of this operation, before any of the acts, is sent no page by it.
module _ (laws : StepLaws) (port : ℕ) (o : Operation) (own : client_operation_of o ≡ None) where
  act_silent : (k : DriverState) (m : Machine) (act : Act) → IsReachable m → DriverRelation m k → IsActDone k m act → (k.slot_states port 0 ≡ Own o → ⊥) → GainsNoMove port o k.device act.state_after.device
  act_silent k m act reached x done none = over act.access done.access_is_done_or_device_is_same
    where
      over : (access : Option Access) → AccessIsDoneOrDeviceIsSame access k.device act.state_after.device → GainsNoMove port o k.device act.state_after.device
      over None same = subst (λ (d : Device). GainsNoMove port o k.device d) (sym same) (gains_nothing (IsMove port o) k.device)
      over (Some access) does = access_sends_none laws k.slot_states m access k.device act.state_after.device port o reached x.state_relation does own none

  pub done_silent : (acts : List Act) (k later : DriverState) (m : Machine) → IsReachable m → DriverRelation m k → (k.slot_states port 0 ≡ Own o → ⊥) →
      All (λ act. act.state_after.slot_states port 0 ≡ Own o → ⊥) acts → AreActsDone acts k m later → GainsNoMove port o k.device later.device
  done_silent [] k later m reached x none all done = subst (λ (end : DriverState). GainsNoMove port o k.device end.device) (sym done) (gains_nothing (IsMove port o) k.device)
  done_silent (act ∷ acts) k later m reached x none all done =
      let Q = λ (act : Act). act.state_after.slot_states port 0 ≡ Own o → ⊥ in
      gains_more (IsMove port o) k.device act.state_after.device later.device (act_silent k m act reached x done.0 none)
      (done_silent acts act.state_after later (left.after m act.steps) (going_reaches k act.state_after m act.steps reached done.0.driver_advances) done.0.driver_advances.driver_relation
      (All-head Q act acts all) (All-tail Q act acts all) done.1)

-- a port that works on plain commands alone goes on so, where none of the accesses writes its PxSACT
pub done_plain : StepLaws → (acts : List Act) (k later : DriverState) (m : Machine) (port : Port) → IsReachable m → DriverRelation m k → All (DoesNotWrite (Px port Sact)) (accesses_of acts) → AreActsDone acts k m later →
    WorksOnUnqueuedCommandsOnly (k.device.port port.0) → WorksOnUnqueuedCommandsOnly (later.device.port port.0)
done_plain laws acts k later m port reached x all done = done_keeps (λ (z : DriverState). WorksOnUnqueuedCommandsOnly (z.device.port port.0)) (λ act. IsOfKind (DoesNotWrite (Px port Sact)) act.access)
    (λ z n act r knows is spares. over z n act r knows act.access is.access_is_done_or_device_is_same spares) acts k later m reached x (acts_of_kind (DoesNotWrite (Px port Sact)) acts all) done
  where
    over : (z : DriverState) (n : Machine) (act : Act) → IsReachable n → DriverRelation n z → (access : Option Access) → AccessIsDoneOrDeviceIsSame access z.device act.state_after.device → IsOfKind (DoesNotWrite (Px port Sact)) access →
        WorksOnUnqueuedCommandsOnly (z.device.port port.0) → WorksOnUnqueuedCommandsOnly (act.state_after.device.port port.0)
    over z n act r knows None same spares here = subst (λ (d : Device). WorksOnUnqueuedCommandsOnly (d.port port.0)) (sym same) here
    over z n act r knows (Some access) does spares here = access_plain laws z.slot_states n port access z.device act.state_after.device r knows.state_relation spares does here
