-- One port of a device is changed, by an access or by a step of the device; and what accesses leave.
use Rattle.std.proofs.Common.{ℕ, zero, suc, inl, inr, ◌/◌, ◌≡◌, ◌≢◌, ◌+◌, ◌≤◌, ◌++◌, ◌==◌, true, false, List, [], ◌∷◌, length, None, arith, refl, sym, ◌∙◌, ap, subst, ⊎_elim}
use Rattle.std.specs.List.{All}
use Rattle.std.proofs.lemmas.Bool.{cases_eq, cond-false, cond-true, eq-eqb, ne_eqb, true≢false}
use Rattle.std.proofs.lemmas.List.Elements.{All-nil, All-cons}
use Rattle.std.proofs.lemmas.Nat.Bits.{bit_at-suc, bit_at-zero}
use Rattle.std.specs.Int.{bit_at}
use Rattle.ata_types.specs.declared.Port.{Port}
use Rattle.ata_types.specs.declared.memory.TheConstants.{DRIVER_BYTES}
use Rattle.hba_regs.specs.Bits.{bit}
use Rattle.hba_regs.specs.declared.reg.Reg.{Reg}
use Rattle.hba_regs.specs.declared.reg.Reg.TheVariants.{Ghc, Px}
use Rattle.hba_regs.specs.declared.reg.PortReg.{PortReg}
use Rattle.hba_regs.specs.declared.reg.PortReg.TheVariants.{Cmd, Sctl}
use Rattle.adapter.specs.Access.{Access, DoesAll, PortShows, Reads, Stores, Writes, notes_after_reading, port_after_write}
use Rattle.adapter.specs.Access.Access.{Reading, Writing, Loading, Storing}
use Rattle.adapter.specs.Device.{DevicePort, Device}
use Rattle.adapter.specs.Memory.{changed, patched}
use Rattle.adapter.specs.Rules.{MayWriteCmd, MayStart}
use Rattle.adapter.specs.Steps.{Can, TransitionsLead, DeviceTransition, Steps, device_after}
use Rattle.adapter.specs.Steps.DeviceTransition.{Fall}
use Rattle.adapter.specs.declared.tape.Entry.{Entry}
use Rattle.refinement.specs.Relation.{port_at}
use Rattle.driver_history.specs.AccessTrace.{WritesNeitherCmdNorSctl, UsesPortsAndNotGhc, UsesPortRegistersOf}
use Rattle.witnesses.specs.RunningAdapter.{running_device, port_or_empty}

-- ---- one port is changed

put : (k : ℕ) (f g : ℕ → DevicePort) (x : DevicePort) → g k ≡ x → ((n : ℕ) → n ≢ k → g n ≡ f n) → g ≡ changed f k x
unfolding changed
put k f g x here others = λ i n. each n i
  where
    each : (n : ℕ) → g n ≡ changed f k x n
    each n = ⊎_elim
        (λ (same : n ≡ k). ap g same ∙ here ∙ sym (cond-true (n == k) x (f n) (eq-eqb n k same)))
        (λ (ne : n ≢ k). others n ne ∙ sym (cond-false (n == k) x (f n) (ne_eqb n k ne)))
        (cases_eq n k)

-- a function that was changed at a place has the new value there
pub changed_here : {A : Type 0} (f : ℕ → A) (k : ℕ) (new : A) → changed f k new k ≡ new
unfolding changed
changed_here f k new = cond-true (k == k) new (f k) (eq-eqb k k refl)

-- what a change of its first place leaves of a function
pub past_first : {A : Type 0} (f : ℕ → A) (new : A) (k : ℕ) → changed f 0 new (suc k) ≡ f (suc k)
unfolding changed
past_first f new k = cond-false (suc k == 0) new (f (suc k)) (ne_eqb (suc k) 0 (omega arith))

-- and one of its second place
pub past_second : {A : Type 0} (f : ℕ → A) (new : A) (k : ℕ) → changed f 1 new (suc (suc k)) ≡ f (suc (suc k))
unfolding changed
past_second f new k = cond-false (suc (suc k) == 1) new (f (suc (suc k))) (ne_eqb (suc (suc k)) 1 (omega arith))

-- these ports differ from those at one place at most
abbrev pub AlikeBut : ℕ → List DevicePort → List DevicePort → Type 0
AlikeBut k old new = (n : ℕ) → n ≢ k → port_or_empty new n ≡ port_or_empty old n

pub but_first : (p q : DevicePort) (rest : List DevicePort) → AlikeBut 0 (p ∷ rest) (q ∷ rest)
but_first p q rest zero ne = absurd (ne refl)
but_first p q rest (suc n) ne = refl

pub but_second : (o p q : DevicePort) (rest : List DevicePort) → AlikeBut 1 (o ∷ p ∷ rest) (o ∷ q ∷ rest)
but_second o p q rest zero ne = refl
but_second o p q rest (suc zero) ne = absurd (ne refl)
but_second o p q rest (suc (suc n)) ne = refl

pub put_device : (tape : List Entry) (memory : ℕ → ℕ) (k : ℕ) (old new : List DevicePort) (x : DevicePort) → port_or_empty new k ≡ x → AlikeBut k old new
    → running_device tape memory new ≡ record (running_device tape memory old) { port = changed (port_or_empty old) k x }
put_device tape memory k old new x here others = ap (λ (f : ℕ → DevicePort). record (running_device tape memory old) { port = f }) (put k (port_or_empty old) (port_or_empty new) x here others)

-- bytes are stored, and the device does nothing first
pub stores : (at : ℕ) (bytes : List ℕ) (tape : List Entry) (memory : ℕ → ℕ) (ports : List DevicePort) → Stores at bytes (running_device tape memory ports) (running_device tape (patched memory at bytes) ports)
stores at bytes tape memory ports = record { at_access = running_device tape memory ports; steps = record { steps = []; lead = refl }; effect = refl }

module _ (tape : List Entry) (memory : ℕ → ℕ) (k : ℕ) (old new : List DevicePort) (others : AlikeBut k old new) where
  abbrev p : DevicePort
  p = port_or_empty old k

  unfoldable pub reads : (r : PortReg) (v : ℕ) → PortShows r v p → port_or_empty new k ≡ record p { notes = notes_after_reading r v p } → Reads (Px (port_at k) r) v (running_device tape memory old) (running_device tape memory new)
  reads r v shows here = record {
    at_access = running_device tape memory old;
    steps = record { steps = []; lead = refl };
    shows = shows;
    effect = put_device tape memory k old new (record p { notes = notes_after_reading r v p }) here others;
  }

  unfoldable pub writes : (r : PortReg) (v : ℕ) → port_or_empty new k ≡ port_after_write r v (length tape) p → Writes (Px (port_at k) r) v (running_device tape memory old) (running_device tape memory new)
  writes r v here = record {
    at_access = running_device tape memory old;
    steps = record { steps = []; lead = refl };
    effect = put_device tape memory k old new (port_after_write r v (length tape) p) here others;
  }

-- CR has fallen, and no command is taken
abbrev pub fall : DevicePort → DevicePort
fall p = record p { cr = false; taken = λ _. None }

-- PxCMD is read when CR has just fallen
unfoldable pub falls_reads : (tape : List Entry) (memory : ℕ → ℕ) (k v : ℕ) (old mid new : List DevicePort) → AlikeBut k old mid → AlikeBut k mid new
    → (port_or_empty old k).st ≡ false → (port_or_empty old k).cr ≡ true → port_or_empty mid k ≡ fall (port_or_empty old k)
    → PortShows Cmd v (port_or_empty mid k) → port_or_empty new k ≡ record (port_or_empty mid k) { notes = notes_after_reading Cmd v (port_or_empty mid k) }
    → Reads (Px (port_at k) Cmd) v (running_device tape memory old) (running_device tape memory new)
falls_reads tape memory k v old mid new first then st cr fallen shows here = record {
  at_access = running_device tape memory mid;
  steps = record { steps = Fall k ∷ []; lead = ((st, cr), put_device tape memory k old mid (fall (port_or_empty old k)) fallen first) };
  shows = shows;
  effect = put_device tape memory k mid new (record (port_or_empty mid k) { notes = notes_after_reading Cmd v (port_or_empty mid k) }) here then;
}

pub no_bit : (k : ℕ) → bit 0 k ≡ false
no_bit k = ap (λ (b : ℕ). b == 1) (bit_at-zero k)

-- a step of the device's, and what it does then
pub step_first : (step : DeviceTransition) (old mid new : Device) → Can step old → mid ≡ device_after step old → Steps mid new → Steps old new
step_first step old mid new can is rest = record { steps = step ∷ rest.steps; lead = (can, subst (λ (d : Device). TransitionsLead rest.steps d new) is rest.lead) }

-- ---- PxCMD

-- values that differ in bit 0 at most
same_above : (v w : ℕ) → v / 2 ≡ w / 2 → (place : ℕ) → place ≢ 0 → bit v place ≡ bit w place
same_above v w half zero ne = absurd (ne refl)
same_above v w half (suc k) ne = ap (λ (b : ℕ). b == 1) (bit_at-suc v k ∙ ap (λ (x : ℕ). bit_at x k) half ∙ sym (bit_at-suc w k))

-- 1 has no other bit than the first
pub other_bit : (k : ℕ) → k ≢ 0 → bit 1 k ≡ false
other_bit k ne = same_above 1 0 refl k ne ∙ no_bit k

-- ST may be cleared where FRE is set, and where the value is as it was read but for ST
pub may_stop : (p : DevicePort) (v was : ℕ) → bit v 0 ≡ false → bit v 4 ≡ true → p.fre ≡ true → p.notes.last_cmd ≡ was → v / 2 ≡ was / 2 → MayWriteCmd p v
may_stop p v was clear receives fre read half = record {
  start = λ h. absurd (true≢false (sym h ∙ clear));
  receive = λ h. inl fre;
  stop_receiving = λ h. absurd (true≢false (sym receives ∙ h));
  other_bits_are_kept = λ place low ne other. same_above v was half place ne ∙ ap (λ (x : ℕ). bit x place) (sym read);
}

-- and ST may be set so, where the port may start
pub may_start : (p : DevicePort) (v was : ℕ) → bit v 4 ≡ true → p.fre ≡ true → p.notes.last_cmd ≡ was → v / 2 ≡ was / 2 → MayStart p → MayWriteCmd p v
may_start p v was receives fre read half may = record {
  start = λ h. inr may;
  receive = λ h. inl fre;
  stop_receiving = λ h. absurd (true≢false (sym receives ∙ h));
  other_bits_are_kept = λ place low ne other. same_above v was half place ne ∙ ap (λ (x : ℕ). bit x place) (sym read);
}

-- values that differ in bits 0 and 4 at most
pub same_beside : (v w : ℕ) → bit v 1 ≡ bit w 1 → bit v 2 ≡ bit w 2 → bit v 3 ≡ bit w 3 → v / 2 / 2 / 2 / 2 / 2 ≡ w / 2 / 2 / 2 / 2 / 2 → (place : ℕ) → place ≢ 0 → place ≢ 4 → bit v place ≡ bit w place
same_beside v w one two three high zero ne apart = absurd (ne refl)
same_beside v w one two three high (suc zero) ne apart = one
same_beside v w one two three high (suc (suc zero)) ne apart = two
same_beside v w one two three high (suc (suc (suc zero))) ne apart = three
same_beside v w one two three high (suc (suc (suc (suc zero)))) ne apart = absurd (apart refl)
same_beside v w one two three high (suc (suc (suc (suc (suc k))))) ne apart = down v ∙ ap (λ (x : ℕ). bit x k) high ∙ sym (down w)
  where
    shift : (x n : ℕ) → bit x (suc n) ≡ bit (x / 2) n
    shift x n = ap (λ (b : ℕ). b == 1) (bit_at-suc x n)

    down : (x : ℕ) → bit x (suc (suc (suc (suc (suc k))))) ≡ bit (x / 2 / 2 / 2 / 2 / 2) k
    down x = shift x (suc (suc (suc (suc k)))) ∙ shift (x / 2) (suc (suc (suc k))) ∙ shift (x / 2 / 2) (suc (suc k)) ∙ shift (x / 2 / 2 / 2) (suc k) ∙ shift (x / 2 / 2 / 2 / 2) k

-- ---- accesses

-- the register is of this port
abbrev pub IsOf : Port → Reg → Type 0
IsOf port (Px other r) = other ≡ port
IsOf port r = ⊥

-- each write is of such a register, and each store and each load of the driver's own frames
abbrev pub WritesOf : (Reg → Type 0) → List Access → Type 0
WritesOf IsSuch [] = Unit {0}
WritesOf IsSuch (Reading r v ∷ accesses) = WritesOf IsSuch accesses
WritesOf IsSuch (Writing r v ∷ accesses) = IsSuch r × WritesOf IsSuch accesses
WritesOf IsSuch (Loading at bytes ∷ accesses) = (at + length bytes ≤ DRIVER_BYTES) × WritesOf IsSuch accesses
WritesOf IsSuch (Storing at bytes ∷ accesses) = (at + length bytes ≤ DRIVER_BYTES) × WritesOf IsSuch accesses

module _ (IsSuch : Reg → Type 0) where
  pub leaves : (port : Port) → (IsSuch (Px port Cmd) → ⊥) → (IsSuch (Px port Sctl) → ⊥) → (accesses : List Access) → WritesOf IsSuch accesses → All (WritesNeitherCmdNorSctl port) accesses
  leaves port command control [] of = All-nil (WritesNeitherCmdNorSctl port)
  leaves port command control (Reading r v ∷ accesses) of = All-cons (WritesNeitherCmdNorSctl port) (Reading r v) accesses (tt, tt) (leaves port command control accesses of)
  leaves port command control (Writing r v ∷ accesses) of =
      All-cons (WritesNeitherCmdNorSctl port) (Writing r v) accesses
      (λ is. command (subst IsSuch is of.0), λ is. control (subst IsSuch is of.0))
      (leaves port command control accesses of.1)
  leaves port command control (Loading at bytes ∷ accesses) of = All-cons (WritesNeitherCmdNorSctl port) (Loading at bytes) accesses (tt, tt) (leaves port command control accesses of.1)
  leaves port command control (Storing at bytes ∷ accesses) of = All-cons (WritesNeitherCmdNorSctl port) (Storing at bytes) accesses (tt, tt) (leaves port command control accesses of.1)

-- a service of such ports may make each of these
abbrev pub AreServing : (Port → Type 0) → List Access → Type 0
AreServing Such [] = Unit {0}
AreServing Such (Reading r v ∷ accesses) = UsesPortRegistersOf Such (Reading r v) × AreServing Such accesses
AreServing Such (Writing r v ∷ accesses) = ((r ≢ Ghc) × UsesPortRegistersOf Such (Writing r v)) × AreServing Such accesses
AreServing Such (Loading at bytes ∷ accesses) = (at + length bytes ≤ DRIVER_BYTES) × AreServing Such accesses
AreServing Such (Storing at bytes ∷ accesses) = (at + length bytes ≤ DRIVER_BYTES) × AreServing Such accesses

pub serving : (Such : Port → Type 0) (accesses : List Access) → AreServing Such accesses → All (UsesPortsAndNotGhc Such) accesses
serving Such [] of = All-nil (UsesPortsAndNotGhc Such)
serving Such (Reading r v ∷ accesses) of = All-cons (UsesPortsAndNotGhc Such) (Reading r v) accesses (tt, tt, of.0) (serving Such accesses of.1)
serving Such (Writing r v ∷ accesses) of = All-cons (UsesPortsAndNotGhc Such) (Writing r v) accesses (tt, of.0.0, of.0.1) (serving Such accesses of.1)
serving Such (Loading at bytes ∷ accesses) of = All-cons (UsesPortsAndNotGhc Such) (Loading at bytes) accesses (of.0, tt, tt) (serving Such accesses of.1)
serving Such (Storing at bytes ∷ accesses) of = All-cons (UsesPortsAndNotGhc Such) (Storing at bytes) accesses (of.0, tt, tt) (serving Such accesses of.1)

-- accesses follow others
pub does_append : (early late : List Access) (old mid new : Device) → DoesAll early old mid → DoesAll late mid new → DoesAll (early ++ late) old new
does_append [] late old mid new first then = subst (λ (d : Device). DoesAll late d new) first then
does_append (access ∷ early) late old mid new first then = (first.0, first.1, does_append early late first.0 mid new first.2 then)
