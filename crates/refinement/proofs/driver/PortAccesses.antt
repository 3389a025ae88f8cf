-- What accesses of one port's registers leave.
use Rattle.std.proofs.Common.{ℕ, ◌≡◌, ◌≢◌, ◌⊎◌, ◌++◌, false, List, [], inl, inr, refl, sym, ap, ◌∙◌, subst, append_assoc, append-nil}
use Rattle.std.specs.List.{All}
use Rattle.ata_types.specs.declared.Port.{Port}
use Rattle.hba_regs.specs.declared.reg.PortReg.{PortReg}
use Rattle.hba_regs.specs.declared.reg.Reg.{Reg}
use Rattle.hba_regs.specs.declared.reg.Reg.TheVariants.{Cap, Ghc, Is, Pi, Vs, Cap2, Bohc, Px}
use Rattle.adapter.specs.Access.{Access, Does, DoesAll}
use Rattle.adapter.specs.Access.Access.{Reading, Writing, Loading, Storing}
use Rattle.adapter.specs.Device.{DevicePort, Device}
use Rattle.adapter.specs.KeptBySteps.{KeepsOverSteps, KeepsOutsideReset}
use Rattle.adapter.specs.Rules.{IsOn}
use Rattle.adapter.specs.declared.tape.Entry.{Entry}
use Rattle.adapter.proofs.KeptLemmas.{law_step_lists_keep_what_steps_keep, PortBitsOnlyFallFreeSlotsStay-refl, PortBitsOnlyFallFreeSlotsStay-trans, KeepsControlsFlagsRise-refl, KeepsControlsFlagsRise-trans}
use Rattle.block_machine.proofs.HistoryLemmas.{reached_more}
use Rattle.block_machine.specs.Expected.{after}
pub use Rattle.refinement.specs.Fragments.{TapeGrows}
use Rattle.refinement.specs.Fragments.{SomeMachineAgrees, ReadsPortOrWrites, IsDrivenBy, IsSimulated, IsSimulatedChangingUses, AccessesNoOtherPort, OnlyDeviceChangesPort, NoneWrites}
use Rattle.refinement.specs.PortFacts.{RecordsFaultsIfSt}
use Rattle.refinement.specs.PreservedParts.{DoesNotWrite, SameAdapter}
use Rattle.refinement.specs.Slots.{SlotStates}
use Rattle.refinement.proofs.device.FactsOverAccesses.{access_steps, beside_same}
use Rattle.refinement.proofs.driver.Stretches.{followed_adds, along, over}
use Rattle.refinement.proofs.device.AdapterOverAccesses.{access_same, same_more, same_refl}
use Rattle.refinement.proofs.device.RecordedFaults.{steps_recorded}

-- ---- accesses that touch no register of another port

of_spares : (port : Port) (r : Reg) → ((s : PortReg) → Px port s ≢ r) → Is ≢ r → NoneWrites (AccessesNoOtherPort port) r
of_spares port r never apart (Writing (Px p s) v) is = λ e. never s (ap (λ (q : Port). Px q s) (sym is) ∙ e)
of_spares port r never apart (Writing Cap v) is = absurd is
of_spares port r never apart (Writing Ghc v) is = absurd is
of_spares port r never apart (Writing Is v) is = apart
of_spares port r never apart (Writing Pi v) is = absurd is
of_spares port r never apart (Writing Vs v) is = absurd is
of_spares port r never apart (Writing Cap2 v) is = absurd is
of_spares port r never apart (Writing Bohc v) is = absurd is
of_spares port r never apart (Reading s v) is = tt
of_spares port r never apart (Loading at bytes) is = tt
of_spares port r never apart (Storing at bytes) is = tt

pub of_spares_ghc : (port : Port) → NoneWrites (AccessesNoOtherPort port) Ghc
of_spares_ghc port = of_spares port Ghc (λ s e. absurd (let z : Px port s ≡ Ghc = e in cc)) (λ e. absurd (let z : Is ≡ Ghc = e in cc))

pub of_spares_others : (port q : Port) (r : PortReg) → q.0 ≢ port.0 → NoneWrites (AccessesNoOtherPort port) (Px q r)
of_spares_others port q r other = of_spares port (Px q r) (λ s e. let z : Px port s ≡ Px q r = e in let same : port ≡ q = cc in other (ap (λ (x : Port). x.0) (sym same))) (λ e. absurd (let z : Is ≡ Px q r = e in cc))

-- ---- controls

module _ (Written : PortReg → Type 0) (port : Port) where
  abbrev IsReading : Access → Type 0
  IsReading access = (r : PortReg) × (v : ℕ) × (access ≡ Reading (Px port r) v)

  abbrev IsWriting : Access → Type 0
  IsWriting access = (r : PortReg) × (v : ℕ) × (access ≡ Writing (Px port r) v) × Written r

  pub is_control : (access : Access) → ReadsPortOrWrites Written port access → IsReading access ⊎ IsWriting access
  is_control (Reading (Px at r) v) is = inl (r, v, ap (λ (p : Port). Reading (Px p r) v) is)
  is_control (Writing (Px at r) v) is = inr (r, v, ap (λ (p : Port). Writing (Px p r) v) is.0, is.1)
  is_control (Reading Cap v) is = absurd is
  is_control (Reading Ghc v) is = absurd is
  is_control (Reading Is v) is = absurd is
  is_control (Reading Pi v) is = absurd is
  is_control (Reading Vs v) is = absurd is
  is_control (Reading Cap2 v) is = absurd is
  is_control (Reading Bohc v) is = absurd is
  is_control (Writing Cap v) is = absurd is
  is_control (Writing Ghc v) is = absurd is
  is_control (Writing Is v) is = absurd is
  is_control (Writing Pi v) is = absurd is
  is_control (Writing Vs v) is = absurd is
  is_control (Writing Cap2 v) is = absurd is
  is_control (Writing Bohc v) is = absurd is
  is_control (Loading at bytes) is = absurd is
  is_control (Storing at bytes) is = absurd is

  -- it doesn't write what the kind has not
  control_spares_at : (at : Port) (spared : PortReg) → (Written spared → ⊥) → NoneWrites (ReadsPortOrWrites Written port) (Px at spared)
  control_spares_at at spared not access is =
      elim (is_control access is) [
        | inl (r, v, e) ↦ subst (DoesNotWrite (Px at spared)) (sym e) tt
        | inr (r, v, e, w) ↦ subst (DoesNotWrite (Px at spared)) (sym e) (λ (z : Px port r ≡ Px at spared). let same : r ≡ spared = cc in not (subst Written same w))
      ]

  pub control_spares : (spared : PortReg) → (Written spared → ⊥) → NoneWrites (ReadsPortOrWrites Written port) (Px port spared)
  control_spares = control_spares_at port

  -- where more registers may be written
  pub control_wider : (More : PortReg → Type 0) → ((r : PortReg) → Written r → More r) → (access : Access) → ReadsPortOrWrites Written port access → ReadsPortOrWrites More port access
  control_wider More wider access is =
      elim (is_control access is) [
        | inl (r, v, e) ↦ subst (ReadsPortOrWrites More port) (sym e) refl
        | inr (r, v, e, w) ↦ subst (ReadsPortOrWrites More port) (sym e) (refl, wider r w)
      ]

  pub control_is_of : (access : Access) → ReadsPortOrWrites Written port access → AccessesNoOtherPort port access
  control_is_of access is =
      elim (is_control access is) [
        | inl (r, v, e) ↦ subst (AccessesNoOtherPort port) (sym e) refl
        | inr (r, v, e, w) ↦ subst (AccessesNoOtherPort port) (sym e) refl
      ]

-- ---- a port that isn't theirs

module _ (port : Port) (q : ℕ) (other : q ≢ port.0) where
  beside_left : (access : Access) (old new : Device) → old.hr ≡ false → AccessesNoOtherPort port access → Does access old new → OnlyDeviceChangesPort (old.port q) (new.port q)
  beside_left access old new off is x =
      let s = access_steps access old new x in
      let k : KeepsOverSteps old s.0 = law_step_lists_keep_what_steps_keep s.1 in
      let c : KeepsOutsideReset old s.0 = k.keeps_outside_reset off in
      subst (OnlyDeviceChangesPort (old.port q)) (sym (beside_same port q other access old new x is)) (record { bits_only_fall = k.port_bits_only_fall q; controls = c.controls_are_kept q; notes = k.notes_are_kept q })

  beside_recorded : (access : Access) (old new : Device) → AccessesNoOtherPort port access → Does access old new → RecordsFaultsIfSt old.tape (old.port q) q → RecordsFaultsIfSt new.tape (new.port q) q
  beside_recorded access old new is x h =
      let s = access_steps access old new x in
      subst (λ (p : DevicePort). RecordsFaultsIfSt new.tape p q) (sym (beside_same port q other access old new x is))
      (subst (λ (tape : List Entry). RecordsFaultsIfSt tape (s.0.port q) q) (sym s.2) (steps_recorded q old s.0 s.1 h))

pub leaves_none : (p : DevicePort) → OnlyDeviceChangesPort p p
leaves_none p = record { bits_only_fall = PortBitsOnlyFallFreeSlotsStay-refl p; controls = KeepsControlsFlagsRise-refl p; notes = refl }

pub leaves_more : (old mid new : DevicePort) → OnlyDeviceChangesPort old mid → OnlyDeviceChangesPort mid new → OnlyDeviceChangesPort old new
leaves_more old mid new a b = record { bits_only_fall = PortBitsOnlyFallFreeSlotsStay-trans a.bits_only_fall b.bits_only_fall; controls = KeepsControlsFlagsRise-trans a.controls b.controls; notes = b.notes ∙ a.notes }

-- ---- the tape

pub grows_none : (d : Device) → TapeGrows d d
grows_none d = ([], sym (append-nil d.tape))

pub grows_more : (a b c : Device) → TapeGrows a b → TapeGrows b c → TapeGrows a c
grows_more a b c x y = (x.0 ++ y.0, y.1 ∙ (ap (λ (t : List Entry). t ++ y.0) x.1 ∙ append_assoc a.tape x.0 y.0))

pub access_grows : (access : Access) (old new : Device) → Does access old new → TapeGrows old new
access_grows access old new does = let s = access_steps access old new does in let k : KeepsOverSteps old s.0 = law_step_lists_keep_what_steps_keep s.1 in (k.new_entries, s.2 ∙ k.tape_grows)

-- ---- stretches

-- the adapter stays on where GHC isn't written
pub on_all : (accesses : List Access) (old new : Device) → IsOn old → All (DoesNotWrite Ghc) accesses → DoesAll accesses old new → IsOn new
on_all accesses old new on spares all =
    (over (λ a b. Unit {0}) (λ d. tt) (λ a b c x y. tt) (DoesNotWrite Ghc) (λ access is. is) (λ access a b here may does. tt) accesses old new on spares all).1

module _ (May : Access → Type 0) (old new : Device) (driven : IsDrivenBy May old new) where
  pub same_over : SameAdapter old new
  same_over = along SameAdapter same_refl same_more May (λ access a b may does. access_same access a b does) driven.accesses old new driven.accesses_are_of_kind driven.all_are_done

  pub tape_over : TapeGrows old new
  tape_over = along TapeGrows grows_none grows_more May (λ access a b may does. access_grows access a b does) driven.accesses old new driven.accesses_are_of_kind driven.all_are_done

  pub on_over : NoneWrites May Ghc → IsOn old → IsOn new
  on_over spares on =
      (over (λ a b. Unit {0}) (λ d. tt) (λ a b c x y. tt) May spares (λ access a b here may does. tt) driven.accesses old new on driven.accesses_are_of_kind driven.all_are_done).1

module _ (port : Port) (old new : Device) (driven : IsDrivenBy (AccessesNoOtherPort port) old new) (q : ℕ) (other : q ≢ port.0) where
  pub other_left : IsOn old → OnlyDeviceChangesPort (old.port q) (new.port q)
  other_left on =
      (over (λ a b. OnlyDeviceChangesPort (a.port q) (b.port q)) (λ d. leaves_none (d.port q)) (λ a b c x y. leaves_more (a.port q) (b.port q) (c.port q) x y) (AccessesNoOtherPort port) (of_spares_ghc port)
      (λ access a b here may does. beside_left port q other access a b here.no_reset may does)
      driven.accesses old new on driven.accesses_are_of_kind driven.all_are_done).0

  pub other_recorded : RecordsFaultsIfSt old.tape (old.port q) q → RecordsFaultsIfSt new.tape (new.port q) q
  other_recorded =
      along (λ a b. RecordsFaultsIfSt a.tape (a.port q) q → RecordsFaultsIfSt b.tape (b.port q) q) (λ d h. h) (λ a b c x y h. y (x h)) (AccessesNoOtherPort port)
      (λ access a b may does. beside_recorded port q other access a b may does)
      driven.accesses old new driven.accesses_are_of_kind driven.all_are_done

-- ---- a machine that agrees

pub agreed_to : (May : Access → Type 0) (Fits : SlotStates → Type 0) (next : SlotStates → SlotStates) (uses : SlotStates) (old new : Device) → Fits uses →
    IsSimulatedChangingUses May Fits next old new → SomeMachineAgrees uses old → SomeMachineAgrees (next uses) new
agreed_to May Fits next uses old new fits followed a =
    let x = (followed_adds followed uses a.parked fits).simulates a.machine a.reached a.driver_relation in
    record {
      machine = after a.machine x.0;
      parked = a.parked;
      reached = reached_more a.machine x.0 a.reached x.1;
      driver_relation = x.2;
    }

-- over accesses that put no slot to use
pub agreed_on : (May : Access → Type 0) (Fits : SlotStates → Type 0) (uses : SlotStates) (old new : Device) → Fits uses →
    IsSimulated May Fits old new → SomeMachineAgrees uses old → SomeMachineAgrees uses new
agreed_on May Fits uses old new = agreed_to May Fits (λ uses. uses) uses old new

pub law_some_machine_agrees_after_simulation : (Written : PortReg → Type 0) (Fits : SlotStates → Type 0) (port : Port) (uses : SlotStates) (old new : Device) → Fits uses →
    IsSimulated (ReadsPortOrWrites Written port) Fits old new → SomeMachineAgrees uses old → SomeMachineAgrees uses new
law_some_machine_agrees_after_simulation Written Fits port uses old new = agreed_on (ReadsPortOrWrites Written port) Fits uses old new
