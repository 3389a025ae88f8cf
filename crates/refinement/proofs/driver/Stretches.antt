-- Stretches of accesses: one after another, and what they leave.
use Rattle.std.proofs.Common.{ℕ, ◌≡◌, ◌≢◌, ◌++◌, true, false, List, [], ◌∷◌, None, Some, length, refl, sym, ◌∙◌, ap, subst, inl, append-nil}
use Rattle.std.proofs.lemmas.List.Elements.{All-append, All-cons, All-nil, All-head, All-tail, All-weaker}
use Rattle.std.specs.List.{All}
use Rattle.ata_types.specs.declared.Port.{Port}
use Rattle.ata_types.specs.declared.request.RequestId.{RequestId}
use Rattle.hba_regs.specs.Bits.{bit}
use Rattle.hba_regs.specs.declared.reg.Reg.{Reg}
use Rattle.hba_regs.specs.declared.reg.Reg.TheVariants.{Ghc, Px}
use Rattle.hba_regs.specs.declared.reg.PortReg.TheVariants.{Sact, Ci}
use Rattle.adapter.specs.Access.{Access, Does, DoesAll, Reads, Writes, Loads, Stores}
use Rattle.adapter.specs.Access.Access.{Reading, Writing, Loading, Storing}
use Rattle.adapter.specs.Device.{Device}
use Rattle.adapter.specs.Rules.{IsOn, MayWrite, IsStable}
use Rattle.adapter.specs.declared.command.Operation.{Operation}
use Rattle.adapter.proofs.Calls.{does_append}
use Rattle.adapter.proofs.Changed.{changed_other}
use Rattle.block_machine.specs.Events.{AllByDevice}
use Rattle.block_machine.specs.Histories.{IsReachable, IsSimulatedBySteps}
use Rattle.block_machine.specs.Expected.{after}
use Rattle.block_machine.specs.State.{Machine}
use Rattle.refinement.specs.StepLaws.{StepLaws}
use Rattle.refinement.specs.Acts.{Act, DriverSlots, IsActDone, driver_state_of_slots, accesses_of, newest_first_steps_of_acts}
use Rattle.refinement.specs.Driver.{DriverRelation, IsBackedByDeviceAlone, KeepsSlotStates, IsInMemoryOfFreeSlot, IsOwnCommandPreparedInSlot0}
use Rattle.refinement.specs.Fragments.{driver_state_of, AnySlotStates, IsDrivenBy, IsSimulated, IsSimulatedChangingUses, IsSimulatedAlong, IsSimulatedAlongChangingUses, NoneWrites, GainsNoMove}
use Rattle.refinement.specs.PreservedParts.{DoesNotWrite}
use Rattle.refinement.specs.HaltRecovery.{WorksOnUnqueuedCommandsOnly}
use Rattle.refinement.specs.Relation.{port_at}
use Rattle.refinement.specs.Slots.{SlotState, Own, SlotStates, set_slot_state, client_operation_of}
use Rattle.refinement.proofs.driver.ActParts.{accesses_append, steps_append, all_acts, done_more, done_goes, done_plain, done_silent, done_uses}
use Rattle.refinement.proofs.driver.AddedSteps.{read_adds, load_adds, store_adds, write_adds}
use Rattle.refinement.proofs.driver.IssueWrite.{own_adds}
use Rattle.refinement.proofs.driver.ComposedMoves.{goes_access, goes_still, going_reaches}
use Rattle.refinement.proofs.device.AdapterOverAccesses.{access_on}
use Rattle.refinement.proofs.steps.WaitingRequests.{device_append}

-- ---- accesses of one kind

pub by_none : (May : Access → Type 0) (d : Device) → IsDrivenBy May d d
by_none May d = record { accesses = []; all_are_done = refl; accesses_are_of_kind = All-nil May }

pub by_one : (May : Access → Type 0) (access : Access) (old new : Device) → May access → Does access old new → IsDrivenBy May old new
by_one May access old new may does = record { accesses = access ∷ []; all_are_done = (new, does, refl); accesses_are_of_kind = All-cons May access [] may (All-nil May) }

pub by_then : {May : Access → Type 0} {old mid new : Device} → IsDrivenBy May old mid → IsDrivenBy May mid new → IsDrivenBy May old new
by_then {May} {old} {mid} {new} a b = record {
  accesses = a.accesses ++ b.accesses;
  all_are_done = does_append a.accesses b.accesses old mid new a.all_are_done b.all_are_done;
  accesses_are_of_kind = All-append May a.accesses b.accesses a.accesses_are_of_kind b.accesses_are_of_kind;
}

-- ---- what they leave

-- over accesses of which each keeps so much
pub along : (Keeps : Device → Device → Type 0) → ((d : Device) → Keeps d d) → ((a b c : Device) → Keeps a b → Keeps b c → Keeps a c) → (May : Access → Type 0)
    → ((access : Access) (old new : Device) → May access → Does access old new → Keeps old new)
    → (accesses : List Access) (old new : Device) → All May accesses → DoesAll accesses old new → Keeps old new
along Keeps none more May each [] old new all is = subst (Keeps old) (sym is) (none old)
along Keeps none more May each (access ∷ accesses) old new all (mid, does, rest) =
    more old mid new (each access old mid (All-head May access accesses all) does) (along Keeps none more May each accesses mid new (All-tail May access accesses all) rest)

pub written_ghc : (access : Access) → DoesNotWrite Ghc access → (v : ℕ) → access ≡ Writing Ghc v → (bit v 31 ≡ true) × (bit v 0 ≡ false)
written_ghc access spares v is = absurd (subst (DoesNotWrite Ghc) is spares refl)

-- over accesses of which each keeps so much of an adapter that is on; and it stays on
pub over : (Keeps : Device → Device → Type 0) → ((d : Device) → Keeps d d) → ((a b c : Device) → Keeps a b → Keeps b c → Keeps a c) → (May : Access → Type 0)
    → ((access : Access) → May access → DoesNotWrite Ghc access) → ((access : Access) (old new : Device) → IsOn old → May access → Does access old new → Keeps old new)
    → (accesses : List Access) (old new : Device) → IsOn old → All May accesses → DoesAll accesses old new → Keeps old new × IsOn new
over Keeps none more May spares each accesses old new on all does =
    along (λ a b. IsOn a → Keeps a b × IsOn b) (λ d here. (none d, here))
    (λ a b c x y here. let u = x here in let w = y u.1 in (more a b c u.0 w.0, w.1)) May
    (λ access a b may x here. (each access a b here may x, access_on access a b here (written_ghc access (spares access may)) x)) accesses old new all does on

-- ---- accesses of another kind

pub driven_as : (May More : Access → Type 0) (old new : Device) → ((access : Access) → May access → More access) → IsDrivenBy May old new → IsDrivenBy More old new
driven_as May More old new kind a = record { accesses = a.accesses; all_are_done = a.all_are_done; accesses_are_of_kind = all_as a.accesses a.accesses_are_of_kind }
  where
    all_as : (accesses : List Access) → All May accesses → All More accesses
    all_as [] all = All-nil More
    all_as (access ∷ rest) all = All-cons More access rest (kind access (All-head May access rest all)) (all_as rest (All-tail May access rest all))

none_writes : (May More : Access → Type 0) (r : Reg) → ((access : Access) → May access → More access) → NoneWrites More r → NoneWrites May r
none_writes May More r kind none access may = none access (kind access may)

-- ---- one stretch that is followed after another

-- what was put into the slots after a stretch
abbrev then : (SlotStates → SlotStates) → DriverSlots → DriverSlots
then next s = record s { slot_states = next s.slot_states }

module _ (May : Access → Type 0) (Fits Less : SlotStates → Type 0) (first second : SlotStates → SlotStates) (on : (uses : SlotStates) → Fits uses → Less (first uses)) where
  pub followed_both : (old mid new : Device) → IsSimulatedChangingUses May Fits first old mid → IsSimulatedChangingUses May Less second mid new → IsSimulatedChangingUses May Fits (λ uses. second (first uses)) old new
  unfolding by_then
  followed_both old mid new a b = record {
    is_driven = by_then a.is_driven b.is_driven;
    acts_reach = λ s m reached x fits.
        let c = a.acts_reach s m reached x fits in
        let g = done_goes c.acts (driver_state_of_slots s old) (driver_state_of_slots (then first s) mid) m x c.acts_are_done in
        let e = b.acts_reach (then first s) (after m (newest_first_steps_of_acts c.acts)) (going_reaches (driver_state_of_slots s old) (driver_state_of_slots (then first s) mid) m (newest_first_steps_of_acts c.acts) reached g) g.driver_relation (on s.slot_states fits) in
        record {
          acts = c.acts ++ e.acts;
          acts_are_done = done_more c.acts e.acts (driver_state_of_slots s old) (driver_state_of_slots (then first s) mid) (driver_state_of_slots (then second (then first s)) new) m c.acts_are_done e.acts_are_done;
          accesses_match_acts = accesses_append c.acts e.acts ∙ (ap (λ (early : List Access). early ++ accesses_of e.acts) c.accesses_match_acts ∙ ap (λ (late : List Access). a.is_driven.accesses ++ late) e.accesses_match_acts);
          acts_are_such = record {
            all_steps_are_by_device = subst AllByDevice (sym (steps_append c.acts e.acts)) (device_append (newest_first_steps_of_acts e.acts) (newest_first_steps_of_acts c.acts) e.acts_are_such.all_steps_are_by_device c.acts_are_such.all_steps_are_by_device);
            unwritten_ports_keep_slots = λ port issues arms.
                let early = c.acts_are_such.unwritten_ports_keep_slots port issues arms in
                let mids : first s.slot_states port.0 ≡ s.slot_states port.0 = done_uses port.0 (s.slot_states port.0) c.acts (driver_state_of_slots s old) (driver_state_of_slots (then first s) mid) m refl early c.acts_are_done in
                All-append (λ (act : Act). act.state_after.slot_states port.0 ≡ s.slot_states port.0) c.acts e.acts early
                (all_acts (λ act. act.state_after.slot_states port.0 ≡ first s.slot_states port.0) (λ act. act.state_after.slot_states port.0 ≡ s.slot_states port.0) e.acts (λ act y. y ∙ mids) (e.acts_are_such.unwritten_ports_keep_slots port issues arms));
          };
        };
  }

module _ (May : Access → Type 0) (Fits : SlotStates → Type 0) where
  pub followed_none : (d : Device) → IsSimulated May Fits d d
  unfolding by_none
  followed_none d = record {
    is_driven = by_none May d;
    acts_reach = λ s m reached x fits. record {
      acts = [];
      acts_are_done = refl;
      accesses_match_acts = refl;
      acts_are_such = record { all_steps_are_by_device = tt; unwritten_ports_keep_slots = λ port issues arms. All-nil (λ (act : Act). act.state_after.slot_states port.0 ≡ s.slot_states port.0) };
    };
  }

  pub told_none : (d : Device) → IsSimulatedAlong (λ made. made ≡ []) May Fits d d
  unfolding followed_none
  told_none d = record { is_simulated = followed_none d; accesses_are_such = refl }

  pub followed_then : (old mid new : Device) → IsSimulated May Fits old mid → IsSimulated May Fits mid new → IsSimulated May Fits old new
  followed_then old mid new a b = followed_both May Fits Fits (λ uses. uses) (λ uses. uses) (λ uses fits. fits) old mid new a b

-- of another kind, and with uses that fit less
module _ (May More : Access → Type 0) (Fits Less : SlotStates → Type 0) where
  pub followed_to_as : (next : SlotStates → SlotStates) (old new : Device) → ((access : Access) → May access → More access) → ((uses : SlotStates) → Less uses → Fits uses) →
      IsSimulatedChangingUses May Fits next old new → IsSimulatedChangingUses More Less next old new
  unfolding driven_as
  followed_to_as next old new kind fits a = record {
    is_driven = driven_as May More old new kind a.is_driven;
    acts_reach = λ s m reached x less.
        let c = a.acts_reach s m reached x (fits s.slot_states less) in
        record {
          acts = c.acts;
          acts_are_done = c.acts_are_done;
          accesses_match_acts = c.accesses_match_acts;
          acts_are_such = record { all_steps_are_by_device = c.acts_are_such.all_steps_are_by_device; unwritten_ports_keep_slots = λ port issues arms. c.acts_are_such.unwritten_ports_keep_slots port (none_writes May More (Px port Ci) kind issues) (none_writes May More (Px port Sact) kind arms) };
        };
  }

  pub followed_as : (old new : Device) → ((access : Access) → May access → More access) → ((uses : SlotStates) → Less uses → Fits uses) →
      IsSimulated May Fits old new → IsSimulated More Less old new
  followed_as old new kind fits a = followed_to_as (λ uses. uses) old new kind fits a

-- ---- what is told of a list of accesses

-- of one stretch after another
module _ (First Second Tells : List Access → Type 0) (join : (early late : List Access) → First early → Second late → Tells (early ++ late)) (May : Access → Type 0) where
  pub told_both : (Fits Less : SlotStates → Type 0) (first second : SlotStates → SlotStates) → ((uses : SlotStates) → Fits uses → Less (first uses)) → (old mid new : Device) →
      IsSimulatedAlongChangingUses First May Fits first old mid → IsSimulatedAlongChangingUses Second May Less second mid new → IsSimulatedAlongChangingUses Tells May Fits (λ uses. second (first uses)) old new
  unfolding followed_both by_then
  told_both Fits Less first second on old mid new a b = record {
    is_simulated = followed_both May Fits Less first second on old mid new a.is_simulated b.is_simulated;
    accesses_are_such = join a.is_simulated.is_driven.accesses b.is_simulated.is_driven.accesses a.accesses_are_such b.accesses_are_such;
  }

-- of accesses that are of another kind, too, where the uses fit less
module _ (Tells : List Access → Type 0) (May More : Access → Type 0) (Fits Less : SlotStates → Type 0) where
  pub told_as : (next : SlotStates → SlotStates) (old new : Device) → ((access : Access) → May access → More access) → ((uses : SlotStates) → Less uses → Fits uses) →
      IsSimulatedAlongChangingUses Tells May Fits next old new → IsSimulatedAlongChangingUses Tells More Less next old new
  unfolding followed_to_as driven_as
  told_as next old new kind fits a = record { is_simulated = followed_to_as May More Fits Less next old new kind fits a.is_simulated; accesses_are_such = a.accesses_are_such }

-- which accesses they are: those of the one, and then those of the other
module _ (May More : Access → Type 0) (Fits Less : SlotStates → Type 0) (first second : SlotStates → SlotStates) where
  pub told_joined : ((access : Access) → More access → May access) → ((uses : SlotStates) → Fits uses → Less (first uses)) → (old mid new : Device) →
      (a : IsSimulatedChangingUses May Fits first old mid) → (b : IsSimulatedChangingUses More Less second mid new) →
      IsSimulatedAlongChangingUses (λ made. made ≡ a.is_driven.accesses ++ b.is_driven.accesses) May Fits (λ uses. second (first uses)) old new
  told_joined kind on old mid new a b =
      told_both (λ made. made ≡ a.is_driven.accesses) (λ made. made ≡ b.is_driven.accesses) (λ made. made ≡ a.is_driven.accesses ++ b.is_driven.accesses)
      (λ early late e f. ap (λ (x : List Access). x ++ late) e ∙ ap (λ (x : List Access). a.is_driven.accesses ++ x) f) May Fits Less first second on old mid new
      (record { is_simulated = a; accesses_are_such = refl })
      (told_as (λ made. made ≡ b.is_driven.accesses) More May Less Less second mid new kind (λ uses is. is) (record { is_simulated = b; accesses_are_such = refl }))

-- the driver knows then of the same device that its slots are used so
module _ (May : Access → Type 0) (Fits : SlotStates → Type 0) (next later : SlotStates → SlotStates) (old new : Device) where
  pub followed_known : ((uses : SlotStates) (parked : ℕ → List RequestId) (m : Machine) → Fits uses → DriverRelation m (driver_state_of (next uses) parked new) → DriverRelation m (driver_state_of (later uses) parked new)) →
      ((uses : SlotStates) (port : Port) → NoneWrites May (Px port Ci) → NoneWrites May (Px port Sact) → later uses port.0 ≡ uses port.0) → IsSimulatedChangingUses May Fits next old new → IsSimulatedChangingUses May Fits later old new
  followed_known knows stays a = record {
    is_driven = a.is_driven;
    acts_reach = λ s m reached x fits.
        let c = a.acts_reach s m reached x fits in
        let mid : Machine = after m (newest_first_steps_of_acts c.acts) in
        let goes = done_goes c.acts (driver_state_of_slots s old) (driver_state_of_slots (then next s) new) m x c.acts_are_done in
        let is : DriverRelation mid (driver_state_of_slots (then later s) new) = knows s.slot_states s.awaiting_disposition mid fits goes.driver_relation in
        let act : Act = record { access = None; steps = []; state_after = driver_state_of_slots (then later s) new } in
        let last : IsActDone (driver_state_of_slots (then next s) new) mid act = record { access_is_done_or_device_is_same = refl; are_device_steps_then_decision = inl refl; driver_advances = goes_still (driver_state_of_slots (then next s) new) (driver_state_of_slots (then later s) new) mid refl is } in
        record {
          acts = c.acts ++ act ∷ [];
          acts_are_done = done_more c.acts (act ∷ []) (driver_state_of_slots s old) (driver_state_of_slots (then next s) new) (driver_state_of_slots (then later s) new) m c.acts_are_done (last, refl);
          accesses_match_acts = accesses_append c.acts (act ∷ []) ∙ (append-nil (accesses_of c.acts) ∙ c.accesses_match_acts);
          acts_are_such = record {
            all_steps_are_by_device = subst AllByDevice (sym (steps_append c.acts (act ∷ []))) c.acts_are_such.all_steps_are_by_device;
            unwritten_ports_keep_slots = λ port issues arms.
                let Q = λ (x : Act). x.state_after.slot_states port.0 ≡ s.slot_states port.0 in
                All-append Q c.acts (act ∷ []) (c.acts_are_such.unwritten_ports_keep_slots port issues arms) (All-cons Q act [] (stays s.slot_states port issues arms) (All-nil Q));
          };
        };
  }

  -- and as much is told of the list
  pub told_known : (Tells : List Access → Type 0) →
      ((uses : SlotStates) (parked : ℕ → List RequestId) (m : Machine) → Fits uses → DriverRelation m (driver_state_of (next uses) parked new) → DriverRelation m (driver_state_of (later uses) parked new)) →
      ((uses : SlotStates) (port : Port) → NoneWrites May (Px port Ci) → NoneWrites May (Px port Sact) → later uses port.0 ≡ uses port.0) → IsSimulatedAlongChangingUses Tells May Fits next old new →
      IsSimulatedAlongChangingUses Tells May Fits later old new
  unfolding followed_known
  told_known Tells knows stays a = record { is_simulated = followed_known knows stays a.is_simulated; accesses_are_such = a.accesses_are_such }

-- ---- what it gives

-- steps of the machine, all of them the device's
pub followed_adds : {May : Access → Type 0} {Fits : SlotStates → Type 0} {next : SlotStates → SlotStates} {old new : Device} → IsSimulatedChangingUses May Fits next old new →
    (uses : SlotStates) (parked : ℕ → List RequestId) → Fits uses → IsSimulatedBySteps DriverRelation (driver_state_of uses parked old) (driver_state_of (next uses) parked new) (IsBackedByDeviceAlone old new)
followed_adds {May} {Fits} {next} {old} {new} a uses parked fits = record {
  simulates = λ m reached x.
      let c = a.acts_reach (record { slot_states = uses; awaiting_disposition = parked }) m reached x fits in
      let g = done_goes c.acts (driver_state_of uses parked old) (driver_state_of (next uses) parked new) m x c.acts_are_done in
      (newest_first_steps_of_acts c.acts, g.steps_are_enabled, g.driver_relation, record { is_backed = g.is_backed; all_steps_are_by_device = c.acts_are_such.all_steps_are_by_device });
}

-- no page of a port that issues nothing and whose slot 0 has no such command
pub followed_silent : StepLaws → {May : Access → Type 0} {Fits : SlotStates → Type 0} {next : SlotStates → SlotStates} {old new : Device} → IsSimulatedChangingUses May Fits next old new →
    (uses : SlotStates) (parked : ℕ → List RequestId) (m : Machine) → Fits uses → IsReachable m → DriverRelation m (driver_state_of uses parked old) → (port : Port) (o : Operation) → client_operation_of o ≡ None →
    NoneWrites May (Px port Ci) → NoneWrites May (Px port Sact) → (uses port.0 0 ≡ Own o → ⊥) → GainsNoMove port.0 o old new
followed_silent laws {May} {Fits} {next} {old} {new} a uses parked m fits reached x port o own issues arms none =
    let c = a.acts_reach (record { slot_states = uses; awaiting_disposition = parked }) m reached x fits in
    (done_silent laws) port.0 o own c.acts (driver_state_of uses parked old) (driver_state_of (next uses) parked new) m reached x none
    (all_acts (λ act. act.state_after.slot_states port.0 ≡ uses port.0) (λ act. act.state_after.slot_states port.0 0 ≡ Own o → ⊥) c.acts
    (λ act e is. none (ap (λ (f : ℕ → SlotState). f 0) (sym e) ∙ is)) (c.acts_are_such.unwritten_ports_keep_slots port issues arms)) c.acts_are_done

-- a port that works on plain commands alone, and whose PxSACT isn't written
pub followed_plain : StepLaws → {May : Access → Type 0} {Fits : SlotStates → Type 0} {next : SlotStates → SlotStates} {old new : Device} → IsSimulatedChangingUses May Fits next old new →
    (uses : SlotStates) (parked : ℕ → List RequestId) (m : Machine) → Fits uses → IsReachable m → DriverRelation m (driver_state_of uses parked old) → (port : Port) → NoneWrites May (Px port Sact) →
    WorksOnUnqueuedCommandsOnly (old.port port.0) → WorksOnUnqueuedCommandsOnly (new.port port.0)
followed_plain laws {May} {Fits} {next} {old} {new} a uses parked m fits reached x port arms =
    let c = a.acts_reach (record { slot_states = uses; awaiting_disposition = parked }) m reached x fits in
    let spares = All-weaker May (DoesNotWrite (Px port Sact)) arms a.is_driven.accesses a.is_driven.accesses_are_of_kind in
    (done_plain laws) c.acts (driver_state_of uses parked old) (driver_state_of (next uses) parked new) m port reached x (subst (All (DoesNotWrite (Px port Sact))) (sym c.accesses_match_acts) spares) c.acts_are_done

-- ---- one access

module _ (May : Access → Type 0) (Fits : SlotStates → Type 0) (next : SlotStates → SlotStates) (access : Access) (old new : Device) (kind : May access) (does : Does access old new) where
  pub followed_by : ((uses : SlotStates) (parked : ℕ → List RequestId) → Fits uses → IsSimulatedBySteps DriverRelation (driver_state_of uses parked old) (driver_state_of (next uses) parked new) (IsBackedByDeviceAlone old new)) →
      ((uses : SlotStates) (port : Port) → NoneWrites May (Px port Ci) → NoneWrites May (Px port Sact) → next uses port.0 ≡ uses port.0) → IsSimulatedChangingUses May Fits next old new
  unfolding by_one
  followed_by adds stays = record {
    is_driven = by_one May access old new kind does;
    acts_reach = λ s m reached x fits.
        let later = driver_state_of (next s.slot_states) s.awaiting_disposition new in
        let y = goes_access (driver_state_of_slots s old) later m (adds s.slot_states s.awaiting_disposition fits) reached x in
        let act : Act = record { access = Some access; steps = y.0; state_after = later } in
        record {
          acts = act ∷ [];
          acts_are_done = (record { access_is_done_or_device_is_same = does; are_device_steps_then_decision = inl y.1; driver_advances = y.2 }, refl);
          accesses_match_acts = refl;
          acts_are_such = record {
            all_steps_are_by_device = y.1;
            unwritten_ports_keep_slots = λ port issues arms.
                let Q = λ (a : Act). a.state_after.slot_states port.0 ≡ s.slot_states port.0 in All-cons Q act [] (stays s.slot_states port issues arms) (All-nil Q);
          };
        };
  }

pub followed_read : (May : Access → Type 0) (r : Reg) (v : ℕ) (old new : Device) → May (Reading r v) → Reads r v old new → IsSimulated May AnySlotStates old new
followed_read May r v old new kind call =
    followed_by May AnySlotStates (λ uses. uses) (Reading r v) old new kind call (λ uses parked is. read_adds (driver_state_of uses parked old) r v new call) (λ uses q issues arms. refl)

pub followed_load : (May : Access → Type 0) (driver_state_of_slots : ℕ) (bytes : List ℕ) (old new : Device) → May (Loading driver_state_of_slots bytes) → Loads driver_state_of_slots bytes old new → IsSimulated May AnySlotStates old new
followed_load May driver_state_of_slots bytes old new kind call =
    followed_by May AnySlotStates (λ uses. uses) (Loading driver_state_of_slots bytes) old new kind call (λ uses parked is. load_adds (driver_state_of uses parked old) driver_state_of_slots bytes new call) (λ uses q issues arms. refl)

pub followed_store : (May : Access → Type 0) (Fits : SlotStates → Type 0) (driver_state_of_slots : ℕ) (bytes : List ℕ) (old new : Device) → May (Storing driver_state_of_slots bytes) →
    ((uses : SlotStates) → Fits uses → IsInMemoryOfFreeSlot uses driver_state_of_slots (length bytes)) → Stores driver_state_of_slots bytes old new → IsSimulated May Fits old new
followed_store May Fits driver_state_of_slots bytes old new kind may call =
    followed_by May Fits (λ uses. uses) (Storing driver_state_of_slots bytes) old new kind call (λ uses parked is. store_adds (driver_state_of uses parked old) driver_state_of_slots bytes new (may uses is) call) (λ uses q issues arms. refl)

pub followed_write : (May : Access → Type 0) (Fits : SlotStates → Type 0) (r : Reg) (v : ℕ) (old new : Device) → May (Writing r v) → IsStable (MayWrite r v) old →
    ((uses : SlotStates) → Fits uses → KeepsSlotStates uses r v old) → Writes r v old new → IsSimulated May Fits old new
followed_write May Fits r v old new kind may leaves call =
    followed_by May Fits (λ uses. uses) (Writing r v) old new kind call (λ uses parked is. write_adds (driver_state_of uses parked old) r v new may (leaves uses is) call) (λ uses q issues arms. refl)

-- the list of one reading, of one write, or of one load
module _ (May : Access → Type 0) (driver_state_of_slots : ℕ) (bytes : List ℕ) (old new : Device) where
  pub told_load : May (Loading driver_state_of_slots bytes) → Loads driver_state_of_slots bytes old new → IsSimulatedAlong (λ accesses. accesses ≡ Loading driver_state_of_slots bytes ∷ []) May AnySlotStates old new
  unfolding followed_load followed_by by_one
  told_load kind call = record { is_simulated = followed_load May driver_state_of_slots bytes old new kind call; accesses_are_such = refl }

module _ (May : Access → Type 0) (Fits : SlotStates → Type 0) (r : Reg) (v : ℕ) (old new : Device) where
  pub told_read : May (Reading r v) → Reads r v old new → IsSimulatedAlong (λ accesses. accesses ≡ Reading r v ∷ []) May AnySlotStates old new
  unfolding followed_read followed_by by_one
  told_read kind call = record { is_simulated = followed_read May r v old new kind call; accesses_are_such = refl }

  pub told_write : May (Writing r v) → IsStable (MayWrite r v) old → ((uses : SlotStates) → Fits uses → KeepsSlotStates uses r v old) → Writes r v old new →
      IsSimulatedAlong (λ accesses. accesses ≡ Writing r v ∷ []) May Fits old new
  unfolding followed_write followed_by by_one
  told_write kind may leaves call = record { is_simulated = followed_write May Fits r v old new kind may leaves call; accesses_are_such = refl }

-- a command of the driver's own is issued
pub followed_asking : (May : Access → Type 0) (Fits : SlotStates → Type 0) (port : Port) (o : Operation) (v : ℕ) (old new : Device) → May (Writing (Px port Ci) v) → old.hr ≡ false →
    ((uses : SlotStates) → Fits uses → IsOwnCommandPreparedInSlot0 uses old port.0 o v) → Writes (Px port Ci) v old new → IsSimulatedChangingUses May Fits (λ uses. set_slot_state uses port.0 0 (Own o)) old new
followed_asking May Fits port o v old new kind off prepared call =
    followed_by May Fits (λ uses. set_slot_state uses port.0 0 (Own o)) (Writing (Px port Ci) v) old new kind call
    (λ uses parked is. own_adds (driver_state_of uses parked old) port o v new off (prepared uses is) call) (λ uses q issues arms. changed_other uses port.0 _ q.0 (elsewhere q issues))
  where
    elsewhere : (q : Port) → NoneWrites May (Px q Ci) → q.0 ≢ port.0
    elsewhere q issues e = issues (Writing (Px port Ci) v) kind (ap (λ (driver_state_of_slots : Port). Px driver_state_of_slots Ci) (sym (ap port_at e)))
