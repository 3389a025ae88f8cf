-- What holds at each instant of a history.
use Rattle.std.proofs.Common.{ℕ, ◌≡◌, ◌<◌, Bool, true, false, List, [], ◌∷◌, refl, sym, ◌∙◌, subst, inl, ⊎_elim}
use Rattle.std.proofs.lemmas.Bool.{cases_Bool, cases_lt}
use Rattle.std.specs.List.{Contains}
use Rattle.std.proofs.lemmas.List.Elements.{All-contains, All-nil}
use Rattle.ata_types.specs.declared.Port.{Port}
use Rattle.ata_types.specs.declared.PortState.{PortState}
use Rattle.ata_types.specs.declared.PortState.TheVariants.{Absent, Ready}
use Rattle.ata_types.specs.declared.request.RequestId.{RequestId}
use Rattle.adapter.specs.Device.{Device}
use Rattle.adapter.specs.declared.access.DeviceStep.{DeviceStep}
use Rattle.refinement.specs.Acts.{DriverSlots}
use Rattle.refinement.specs.Slots.{Free, Serves, ServesRequest, RelatesSlot, SlotState}
use Rattle.block_machine.specs.Histories.{JointState, JointEvent, joint_state_after}
use Rattle.block_machine.specs.Histories as histories
use Rattle.block_machine.specs.Ports.{PortsWellFormed}
use Rattle.block_machine.specs.State.{Pending}
use Rattle.host_boot.specs.TakeOver.{wanted_of}
use Rattle.identify.specs.declared.wanted.Wanted.{Wanted}
use Rattle.driver_history.specs.Histories.{IsDriverHistory}
use Rattle.driver_history.specs.PortInvariants.{DriverInvariant, PortStateInvariant, DriverInvariantWith, IsReadyAt}

-- the ports of a history are fit
pub history_fit : {D E : Type 0} (Begins : JointState D → Type 0) (Relation : JointState D → JointEvent D E → Type 0) (first : JointState D) (past : List (JointEvent D E))
    → histories.IsJointRun Begins Relation first past → PortsWellFormed (joint_state_after first past).abstract.ports
history_fit Begins Relation first [] h = h.0.1
history_fit Begins Relation first (x ∷ past) h = h.1.ports_are_well_formed

-- a port that is ready is served, and one of the four
pub ready_low : (i : JointState Device) (port : Port) → PortsWellFormed i.abstract.ports → i.abstract.ports.state port ≡ Ready → (i.abstract.ports.served port ≡ true) × (port.0 < 4)
ready_low i port fit ready = ⊎_elim
    (λ (served : i.abstract.ports.served port ≡ true). (served, fit.served_are_ports_0_to_3 port served))
    (λ (other : i.abstract.ports.served port ≡ false). let z : Absent ≡ Ready = sym (fit.unserved_are_absent port other) ∙ ready in absurd cc)
    (cases_Bool (i.abstract.ports.served port))

pub ready_at : (wanted : List Wanted) (i : JointState Device) (port : Port) → PortsWellFormed i.abstract.ports → (s : DriverSlots) → DriverInvariantWith wanted s i → i.abstract.ports.state port ≡ Ready
    → IsReadyAt (wanted_of wanted port.0) s i port
ready_at wanted i port fit s holds ready =
    let low = ready_low i port fit ready in
    subst (λ (state : PortState). PortStateInvariant (wanted_of wanted port.0) s i port true state) ready
    (subst (λ (b : Bool). PortStateInvariant (wanted_of wanted port.0) s i port b (i.abstract.ports.state port)) low.0 (holds.ports_hold port low.1))

module _ (wanted : List Wanted) where
  pub holds_at : (first : JointState Device) (past : List (JointEvent Device DeviceStep)) → IsDriverHistory wanted first past → DriverInvariant wanted (joint_state_after first past)
  holds_at first [] h = h.1.0
  holds_at first (x ∷ past) h = h.2.invariant_holds

  pub fit_at : (first : JointState Device) (past : List (JointEvent Device DeviceStep)) → IsDriverHistory wanted first past → PortsWellFormed (joint_state_after first past).abstract.ports
  fit_at first [] h = h.0.1
  fit_at first (x ∷ past) h = h.1.ports_are_well_formed

  module _ (first : JointState Device) (past : List (JointEvent Device DeviceStep)) (e : Pending) (h : IsDriverHistory wanted first past) (is_ready : (joint_state_after first past).abstract.ports.state e.request.port ≡ Ready)
      (here : Contains (joint_state_after first past).abstract.machine.book e) (issued : e.issued ≡ true) where
    abbrev i : JointState Device
    i = joint_state_after first past

    abbrev s : DriverSlots
    s = (holds_at first past h).0

    holds : DriverInvariantWith wanted s i
    holds = (holds_at first past h).1

    ready : IsReadyAt (wanted_of wanted e.request.port.0) s i e.request.port
    ready = ready_at wanted i e.request.port (fit_at first past h) s holds is_ready

    slot : (slot : ℕ) × (s.slot_states e.request.port.0 slot ≡ Serves e.request.id)
    slot = ⊎_elim
        (λ parked. absurd (All-contains (λ _. ⊥) [] e.request.id (All-nil (λ _. ⊥)) (subst (λ (ids : List RequestId). Contains ids e.request.id) ready.slots_invariant.none_is_parked parked)))
        (λ has. has)
        (holds.driver_relation.have_slots_unless_parked e.request.port.0 e (inl (here, issued)) refl)

    usable : slot.0 < (i.abstract.ports.mode e.request.port).usable_slots
    usable = ⊎_elim
        (λ low. low)
        (λ high. let z : Free ≡ Serves e.request.id = sym (ready.slots_invariant.unusable_are_free slot.0 high) ∙ slot.1 in absurd cc)
        (cases_lt slot.0 (i.abstract.ports.mode e.request.port).usable_slots)

    pub has_slot : (slot : ℕ) × (slot < (i.abstract.ports.mode e.request.port).usable_slots)
        × ServesRequest i.abstract.machine i.device.memory (i.device.port e.request.port.0) e.request.port.0 slot e.request.id
        × ((i.device.port e.request.port.0).st ≡ true)
    has_slot = (
      slot.0,
      usable,
      subst (λ (u : SlotState). RelatesSlot i.abstract.machine i.device.memory i.device.tape (i.device.port e.request.port.0) e.request.port.0 slot.0 u) slot.1 (holds.driver_relation.state_relation.relates_slots e.request.port.0 slot.0),
      ready.engine_runs.st_is_set,
    )
