-- A flag of a port tells of each disk that goes or comes.
use Rattle.std.proofs.Common.{ℕ, ◌≡◌, ◌⊎◌, ◌++◌, Bool, true, false, List, [], ◌∷◌, refl, sym, ◌∙◌, ap, subst, inl, inr, append-nil, length, ◌≢◌}
use Rattle.std.proofs.lemmas.List.{append_cancel_left}
use Rattle.std.proofs.lemmas.List.Elements.{All-nil, All-cons, All-append}
use Rattle.std.proofs.lemmas.Bool.{both_ways}
use Rattle.ata_types.specs.declared.Port.{Port}
use Rattle.hba_regs.specs.Bits.{bit}
use Rattle.hba_regs.specs.declared.reg.Reg.TheVariants.{Px}
use Rattle.hba_regs.specs.declared.reg.PortReg.{PortReg}
use Rattle.hba_regs.specs.declared.reg.PortReg.TheVariants.{Cmd, Serr}
use Rattle.adapter.specs.Access.{Access, Does, Reads, notes_after_reading, port_after_write}
use Rattle.adapter.specs.Access.Access.{Reading}
use Rattle.adapter.specs.Device.{DevicePort, Device}
use Rattle.adapter.specs.KeptBySteps.{KeepsOverSteps}
use Rattle.adapter.specs.Memory.{changed}
use Rattle.adapter.specs.Steps.{DeviceTransition, Can, device_after, TransitionsLead, Steps}
use Rattle.adapter.specs.Steps.DeviceTransition.{Fetch, FetchFault, Move, Clear, Done, Fault, Fatal, Fall, FrFall, LinkUp, Unplug, Plug, ResetEnds, Scribble}
use Rattle.adapter.specs.declared.tape.Entry.{Entry}
use Rattle.adapter.proofs.Changed.{changed_same}
use Rattle.refinement.specs.StepLaws.{StepLaws}
use Rattle.refinement.specs.PreservedParts.{DoesNotWrite, IsPlugEvent, NoPlugEvents}
use Rattle.refinement.proofs.device.FactsOverAccesses.{access_steps, effect_keeps}
use Rattle.refinement.proofs.device.ErrorBits.{command_beside}
use Rattle.refinement.proofs.device.TapeGains.{NoneOf, gained_parts}
use Rattle.refinement.proofs.device.PortControls.{spared}
use Rattle.refinement.proofs.device.TroubleBits.{was_false}

-- the flag of a disk that goes or comes
abbrev IsNoted : DevicePort → Type 0
IsNoted p = p.serr_n ≡ true

-- ---- a step

-- a step gains no entry, or one, and then the flag tells of a disk
abbrev Raises : ℕ → Bool → List Entry → Type 0
Raises port noted gained = (gained ≡ []) ⊎ ((e : Entry) × (gained ≡ e ∷ []) × (IsPlugEvent port e → noted ≡ true))

-- what is shown of a port that was changed
at_changed : (Q : DevicePort → Type 0) (d : Device) (p port : ℕ) (new : DevicePort) → p ≡ port → Q new → Q (changed d.port p new port)
at_changed Q d p port new e h = subst (λ (k : ℕ). Q (changed d.port p new k)) e (subst Q (sym (changed_same d.port p new)) h)

step_raises : (port : ℕ) (d : Device) (step : DeviceTransition) → Can step d → (gained : List Entry) → (device_after step d).tape ≡ d.tape ++ gained → Raises port ((device_after step d).port port).serr_n gained
step_raises port d step can gained is = by step can is
  where
    nothing : {noted : Bool} → d.tape ≡ d.tape ++ gained → Raises port noted gained
    nothing is = inl (sym (append_cancel_left d.tape [] gained (append-nil d.tape ∙ is)))

    one : {noted : Bool} (e : Entry) → (IsPlugEvent port e → noted ≡ true) → d.tape ++ e ∷ [] ≡ d.tape ++ gained → Raises port noted gained
    one e notes is = inr (e, sym (append_cancel_left d.tape (e ∷ []) gained is), notes)

    plugged : (p : ℕ) (new : DevicePort) → new.serr_n ≡ true → p ≡ port → IsNoted (changed d.port p new port)
    plugged p new n e = at_changed IsNoted d p port new e n

    by : (step : DeviceTransition) → Can step d → (device_after step d).tape ≡ d.tape ++ gained → Raises port ((device_after step d).port port).serr_n gained
    by (Fetch p slot c places) can is = nothing is
    by (FetchFault p slot queued kept_bits) can is = one _ (λ x. absurd x) is
    by (Move p slot t bytes) can is = one _ (λ x. absurd x) is
    by (Clear p slot t first count) can is = one _ (λ x. absurd x) is
    by (Done p slot flag t) can is = one _ (λ x. absurd x) is
    by (Fault p slot error kept_bits t) can is = one _ (λ x. absurd x) is
    by (Fatal p place) can is = one _ (λ x. absurd x) is
    by (Fall p) can is = nothing is
    by (FrFall p) can is = nothing is
    by (LinkUp p sig n) can is = nothing is
    by (Unplug p) can is = one _ (plugged p _ refl) is
    by (Plug p disk) can is = one _ (plugged p _ refl) is
    by ResetEnds can is = nothing is
    by (Scribble p slot at bytes) can is = nothing is

-- ---- lists of steps

-- The flag stays raised while no reset is pending: what it doesn't tell hasn't come.
leads_untold : StepLaws → (port : ℕ) (steps : List DeviceTransition) (old new : Device) → old.hr ≡ false → TransitionsLead steps old new → (IsNoted (new.port port) → ⊥) → (gained : List Entry) → new.tape ≡ old.tape ++ gained → NoneOf (IsPlugEvent port) gained
leads_untold laws port [] old new off e untold gained is =
    subst (NoneOf (IsPlugEvent port)) (append_cancel_left old.tape [] gained (append-nil old.tape ∙ ap (λ (d : Device). d.tape) (sym e) ∙ is)) (All-nil (λ e. IsPlugEvent port e → ⊥))
leads_untold laws port (step ∷ steps) old new off (can, lead) untold gained is =
    let k : KeepsOverSteps old (device_after step old) = laws.one_step_keeps step _ can in
    let l : KeepsOverSteps (device_after step old) new = laws.steps_keep _ _ (record { steps = steps; lead = lead }) in
    let off' : (device_after step old).hr ≡ false = (k.keeps_outside_reset off).no_reset in
    subst (NoneOf (IsPlugEvent port)) (sym (gained_parts old.tape (device_after step old).tape new.tape k.new_entries l.new_entries gained k.tape_grows l.tape_grows is))
    (All-append (λ e. IsPlugEvent port e → ⊥) k.new_entries l.new_entries
    (plugs port ((device_after step old).port port).serr_n k.new_entries (step_raises port old step can k.new_entries k.tape_grows) (λ x. untold (((l.keeps_outside_reset off').controls_are_kept port).serr_n_stays_set x)))
    (leads_untold laws port steps (device_after step old) new off' lead untold l.new_entries l.tape_grows))
  where
    plugs : (port : ℕ) (noted : Bool) (gained : List Entry) → Raises port noted gained → (noted ≡ true → ⊥) → NoneOf (IsPlugEvent port) gained
    plugs port noted gained (inl e) untold = subst (NoneOf (IsPlugEvent port)) (sym e) (All-nil (λ e. IsPlugEvent port e → ⊥))
    plugs port noted gained (inr (x, e, notes)) untold = subst (NoneOf (IsPlugEvent port)) (sym e) (All-cons (λ e. IsPlugEvent port e → ⊥) x [] (λ k. untold (notes k)) (All-nil (λ e. IsPlugEvent port e → ⊥)))

pub noted_plugs : StepLaws → (port : ℕ) (old new : Device) → old.hr ≡ false → Steps old new → (new.port port).serr_n ≡ false → ((old.port port).serr_n ≡ false) × NoPlugEvents port old new
noted_plugs laws port old new off s clear =
    let k : KeepsOverSteps old new = laws.steps_keep _ _ s in (
      was_false (old.port port).serr_n (new.port port).serr_n ((k.keeps_outside_reset off).controls_are_kept port).serr_n_stays_set clear,
      record { new_entries = k.new_entries; tape_is = k.tape_grows; no_such_entry = leads_untold laws port s.steps old new off s.lead (λ n. absurd (both_ways _ clear n)) k.new_entries k.tape_grows },
    )

-- ---- accesses

-- the flag is that of a port that an access finds
abbrev SameFlag : DevicePort → DevicePort → Type 0
SameFlag first p = p.serr_n ≡ first.serr_n

written_flag : (first : DevicePort) (r : PortReg) (v tape : ℕ) (p : DevicePort) → r ≢ Serr → SameFlag first p → SameFlag first (port_after_write r v tape p)
written_flag first Serr v tape p other h = absurd (other refl)
written_flag first Cmd v tape p other h = (command_beside v tape p).1 ∙ h
written_flag first _ v tape p other h = h

effect_flag : (port : Port) (access : Access) (old new : Device) (x : Does access old new) → DoesNotWrite (Px port Serr) access → SameFlag ((access_steps access old new x).0.port port.0) (new.port port.0)
effect_flag port access old new x spares =
    let first : DevicePort = (access_steps access old new x).0.port port.0 in
    effect_keeps (SameFlag first) port (λ p r v h. h) (λ p h. h) access old new x
    (λ r v mid is steps h. written_flag first r v (length mid.tape) (mid.port port.0) (spared port r Serr access v spares is) h)
    refl

pub access_plugs : StepLaws → (port : Port) (access : Access) (old new : Device) → old.hr ≡ false → DoesNotWrite (Px port Serr) access → Does access old new → (new.port port.0).serr_n ≡ false →
    ((old.port port.0).serr_n ≡ false) × NoPlugEvents port.0 old new
access_plugs laws port access old new off spares x clear =
    let s = access_steps access old new x in
    let before : (s.0.port port.0).serr_n ≡ false = sym (effect_flag port access old new x spares) ∙ clear in
    let found = noted_plugs laws port.0 old s.0 off s.1 before in
    (found.0, record { new_entries = found.1.new_entries; tape_is = s.2 ∙ found.1.tape_is; no_such_entry = found.1.no_such_entry })

-- ---- what is read

pub read_plugs : StepLaws → (port : Port) (v : ℕ) (old new : Device) → old.hr ≡ false → Reads (Px port Serr) v old new → bit v 16 ≡ false →
    ((new.port port.0).serr_n ≡ false) × ((old.port port.0).serr_n ≡ false) × NoPlugEvents port.0 old new
read_plugs laws port v old new off x clear =
    let is : new.port port.0 ≡ record (x.at_access.port port.0) { notes = notes_after_reading Serr v (x.at_access.port port.0) } = ap (λ (d : Device). d.port port.0) x.effect ∙ changed_same x.at_access.port port.0 _ in
    let n : (new.port port.0).serr_n ≡ false = ap (λ (p : DevicePort). p.serr_n) is ∙ sym x.shows.0 ∙ clear in
    let found = access_plugs laws port (Reading (Px port Serr) v) old new off tt x n in
    (n, found.0, found.1)
