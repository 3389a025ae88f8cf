-- The interrupt of a port: what leaves it pending, and what leaves it so.
use Rattle.std.proofs.Common.{ℕ, ◌≡◌, ◌⊎◌, ◌||◌, Bool, true, false, refl, subst, sym, ◌∙◌, ap, inl, inr, ⊎_elim, List, [], ◌∷◌, ◌++◌, arith, eqb-true, append_assoc, append-nil}
use Rattle.std.specs.List.{All, Contains, list_any}
use Rattle.std.specs.Prelude.{◌&&◌, ◌<◌, not, zero, suc, Option, Some, None, if◌then◌else◌, nat_eq, nat_le}
use Rattle.std.proofs.lemmas.Bool.{and_from, and_parts, cases_eq, leb-true, or_cases, or_left, or_right}
use Rattle.std.proofs.lemmas.List.{append_cancel_left}
use Rattle.std.proofs.lemmas.List.Elements.{All-cons, All-head, All-nil, All-tail, Contains-push_cases}
use Rattle.ata_types.specs.declared.Port.{Port}
use Rattle.std.proofs.lemmas.List.Folds.{list_any_at}
use Rattle.hba_regs.specs.Bits.{bit}
use Rattle.hba_regs.specs.declared.reg.Reg.{Reg}
use Rattle.hba_regs.specs.declared.reg.Reg.TheVariants.{Cap, Ghc, Pi, Vs, Cap2, Bohc, Px}
use Rattle.hba_regs.specs.declared.reg.Reg.TheVariants as adapter
use Rattle.hba_regs.specs.declared.reg.PortReg.{PortReg}
use Rattle.hba_regs.specs.declared.reg.PortReg.TheVariants.{Clb, Clbu, Fb, Fbu, Is, Ie, Cmd, Tfd, Sig, Ssts, Sctl, Serr, Sact, Ci}
use Rattle.adapter.specs.Access.{Access, ShowsPendingAndPerhapsUnnamedCause, Does, DoesAll, Reads, Writes, named_cause_bits, is_named_cause, is_ips_set, named_causes_mask, device_after_reading, port_after_write, raises_cause, raises_interrupt, shown_interrupt, port_after_hba_is_write, port_after_st_write, device_after_write}
use Rattle.adapter.specs.Access.Access.{Reading, Writing, Loading, Storing}
use Rattle.adapter.specs.Device.{DevicePort, Device}
use Rattle.adapter.specs.KeptBySteps.{KeepsControlsFlagsRise}
use Rattle.adapter.specs.Memory.{changed}
use Rattle.adapter.specs.PendingInterrupts.{LeavesPxIeUnwritten, KeepsIsBit, SetsCause, EnablesNamedCauses, interrupting_port}
use Rattle.adapter.specs.Rules.{HasPort}
use Rattle.adapter.specs.Steps.{DeviceTransition, Can, device_after, clear_entry, done_entry, fault_entry, TransitionsLead, move_of, halt_after_start, Steps}
use Rattle.adapter.specs.Steps.DeviceTransition.{Fetch, FetchFault, Move, Clear, Done, Fault, Fatal, Fall, FrFall, LinkUp, Unplug, Plug, ResetEnds, Scribble}
use Rattle.adapter.proofs.Absurd.{some-none, true-false}
use Rattle.adapter.proofs.Changed.{changed_same, changed_each}
use Rattle.adapter.proofs.KeptLemmas.{step_keeps, law_step_lists_keep_what_steps_keep}
use Rattle.adapter.specs.declared.tape.Entry.{Entry}
use Rattle.adapter.specs.declared.tape.Entry.TheVariants as entry

-- ---- one cause is enough

-- what holds of each of the nine holds of each cause
module _ (P : ℕ → Type 0) (dhrs : P 0) (pss : P 1) (sdbs : P 3) (pcs : P 6) (prcs : P 22) (ifs : P 27) (hbds : P 28) (hbfs : P 29) (tfes : P 30) where
  pub named_each : (place : ℕ) → is_named_cause place ≡ true → P place
  named_each place is =
      ⊎_elim (λ m. ⊎_elim (λ m. ⊎_elim (λ m. ⊎_elim (λ m. ⊎_elim (at 0 dhrs)
      (at 1 pss) (or_cases _ _ m))
      (at 3 sdbs) (or_cases _ _ m))
      (at 6 pcs) (or_cases _ _ m))
      (at 22 prcs) (or_cases _ _ m))
      (λ m. last (and_parts _ _ m)) (or_cases _ _ is)
    where
      at : (k : ℕ) → P k → nat_eq place k ≡ true → P place
      at k h e = subst P (sym (eqb-true place k e)) h

      it : (k : ℕ) → P k → place ≡ k → P place
      it k h e = subst P (sym e) h

      last : (nat_le 27 place ≡ true) × (nat_le place 30 ≡ true) → P place
      last (from, to) =
          let low = leb-true 27 place from in
          let up = leb-true place 30 to in
          ⊎_elim (it 27 ifs)
          (λ a. ⊎_elim (it 28 hbds)
          (λ b. ⊎_elim (it 29 hbfs)
          (λ c. it 30 tfes (omega (arith, low, up, a, b, c)))
          (cases_eq place 29)) (cases_eq place 28)) (cases_eq place 27)

-- the two sets are the same, place by place
alike : Bool → Bool → Bool
alike a b = if a then b else not b

alike_same : (a b : Bool) → alike a b ≡ true → a ≡ b
unfolding alike
alike_same true b h = sym h
alike_same false false h = refl
alike_same false true h = true-false refl (sym h)

all_below : (ℕ → Bool) → ℕ → Bool
all_below f zero = true
all_below f (suc n) = f n && all_below f n

each_below : (f : ℕ → Bool) (n : ℕ) → all_below f n ≡ true → (k : ℕ) → k < n → f k ≡ true
unfolding all_below
each_below f zero h k small = absurd (omega (arith, small))
each_below f (suc n) h k small =
    let both = and_parts (f n) (all_below f n) h in
    ⊎_elim (λ e. subst (λ (m : ℕ). f m ≡ true) (sym e) both.0) (λ e. each_below f n both.1 k (omega (arith, small, e))) (cases_eq k n)

pub named_exactly : (place : ℕ) → place < 32 → bit named_causes_mask place ≡ is_named_cause place
unfolding alike all_below
named_exactly place small = alike_same (bit named_causes_mask place) (is_named_cause place) (each_below (λ k. alike (bit named_causes_mask k) (is_named_cause k)) 32 refl place small)

pub named_enabled : (place : ℕ) → is_named_cause place ≡ true → bit named_causes_mask place ≡ true
named_enabled = named_each (λ place. bit named_causes_mask place ≡ true) refl refl refl refl refl refl refl refl refl

named_raises : (f : ℕ → Bool) (place : ℕ) → is_named_cause place ≡ true → f place ≡ true → list_any f named_cause_bits ≡ true
named_raises f = named_each (λ place. f place ≡ true → list_any f named_cause_bits ≡ true)
    (list_any_at f named_cause_bits 0 0 (omega arith))
    (list_any_at f named_cause_bits 1 0 (omega arith))
    (list_any_at f named_cause_bits 2 0 (omega arith))
    (list_any_at f named_cause_bits 3 0 (omega arith))
    (list_any_at f named_cause_bits 4 0 (omega arith))
    (list_any_at f named_cause_bits 5 0 (omega arith))
    (list_any_at f named_cause_bits 6 0 (omega arith))
    (list_any_at f named_cause_bits 7 0 (omega arith))
    (list_any_at f named_cause_bits 8 0 (omega arith))

-- a list of tests, each of which passes where another does
any_more : (f g : ℕ → Bool) → ((k : ℕ) → f k ≡ true → g k ≡ true) → (ks : List ℕ) → list_any f ks ≡ true → list_any g ks ≡ true
any_more f g more [] h = h
any_more f g more (k ∷ ks) h = ⊎_elim (λ x. or_left (g k) (list_any g ks) (more k x)) (λ x. or_right (g k) (list_any g ks) (any_more f g more ks x)) (or_cases (f k) (list_any f ks) h)

pub shown_pends : (p : DevicePort) (place : ℕ) → is_named_cause place ≡ true → shown_interrupt p place ≡ true → bit p.ie place ≡ true → is_ips_set p ≡ true
shown_pends p place is shown enabled = or_right p.ips_latched (raises_interrupt p) (named_raises (raises_cause p) place is (and_from _ _ shown enabled))

-- ---- what was pending stays so, where no cause falls

-- what raises an interrupt has not fallen
record Rises (old new : DevicePort) : Type 0 where
  ips : old.ips_latched ≡ true → new.ips_latched ≡ true
  ie : new.ie ≡ old.ie
  is : (place : ℕ) → old.is place ≡ true → new.is place ≡ true
  serr_n : old.serr_n ≡ true → new.serr_n ≡ true
  serr_x : old.serr_x ≡ true → new.serr_x ≡ true

module _ (old new : DevicePort) (r : Rises old new) where
  shown_on : (place : ℕ) → shown_interrupt old place ≡ true → shown_interrupt new place ≡ true
  shown_on place = by (nat_eq place 6) (nat_eq place 22)
    where
      by : (x n : Bool) → (if x then old.serr_x else (if n then old.serr_n else old.is place)) ≡ true → (if x then new.serr_x else (if n then new.serr_n else new.is place)) ≡ true
      by true n h = r.serr_x h
      by false true h = r.serr_n h
      by false false h = r.is place h

  raises_on : (place : ℕ) → raises_cause old place ≡ true → raises_cause new place ≡ true
  raises_on place h =
      let both = and_parts (shown_interrupt old place) (bit old.ie place) h in
      and_from (shown_interrupt new place) (bit new.ie place) (shown_on place both.0) (ap (λ (n : ℕ). bit n place) r.ie ∙ both.1)

  pending_on : is_ips_set old ≡ true → is_ips_set new ≡ true
  pending_on h = ⊎_elim (λ x. or_left new.ips_latched (raises_interrupt new) (r.ips x)) (λ x. or_right new.ips_latched (raises_interrupt new) (any_more (raises_cause old) (raises_cause new) raises_on named_cause_bits x)) (or_cases old.ips_latched (raises_interrupt old) h)

controls_rise : (old new : DevicePort) → KeepsControlsFlagsRise old new → Rises old new
controls_rise old new k = record { ips = λ h. k.ips_is_kept ∙ h; ie = k.ie_is_kept; is = k.causes_stay_set; serr_n = k.serr_n_stays_set; serr_x = k.serr_x_stays_set }

pub steps_pend : (port : ℕ) (old new : Device) → Steps old new → old.hr ≡ false → is_ips_set (old.port port) ≡ true → is_ips_set (new.port port) ≡ true
steps_pend port old new s off = pending_on (old.port port) (new.port port) (controls_rise (old.port port) (new.port port) (((law_step_lists_keep_what_steps_keep s).keeps_outside_reset off).controls_are_kept port))

-- ---- a step that raises a cause

module _ (d : Device) (its : ℕ) (new : DevicePort) where
  -- at the port where it is raised
  here : (port place : ℕ) → port ≡ its → is_named_cause place ≡ true → shown_interrupt new place ≡ true → new.ie ≡ (d.port its).ie → bit (d.port port).ie place ≡ true → is_ips_set (changed d.port its new port) ≡ true
  here port place at is shown same enabled =
      let P : ℕ → Type 0 = λ q. bit (d.port q).ie place ≡ true → is_ips_set (changed d.port its new q) ≡ true in
      subst P (sym at) (λ e. subst (λ (p : DevicePort). is_ips_set p ≡ true) (sym (changed_same d.port its new)) (shown_pends new place is shown (ap (λ (n : ℕ). bit n place) same ∙ e))) enabled

-- a flag of PxIS that was raised is shown
flag_shown : (p : DevicePort) (flag : ℕ) → nat_eq flag 6 ≡ false → nat_eq flag 22 ≡ false → (is : ℕ → Bool) → p.is ≡ changed is flag true → shown_interrupt p flag ≡ true
flag_shown p flag x n is same = by (nat_eq flag 6) (nat_eq flag 22) x n
  where
    by : (a b : Bool) → a ≡ false → b ≡ false → (if a then p.serr_x else (if b then p.serr_n else p.is flag)) ≡ true
    by false false x n = ap (λ (f : ℕ → Bool). f flag) same ∙ changed_same is flag true
    by true b x n = true-false refl x
    by false true x n = true-false refl n

-- the causes that steps raise in PxIS itself
record IsFlag (place : ℕ) : Type 0 where
  cause : is_named_cause place ≡ true
  no_x : nat_eq place 6 ≡ false
  no_n : nat_eq place 22 ≡ false

flag_of : (place k : ℕ) → place ≡ k → IsFlag k → IsFlag place
flag_of place k is = subst (λ (n : ℕ). IsFlag n) (sym is)

done_flag : (flag : ℕ) → (flag ≡ 0) ⊎ (flag ≡ 1) ⊎ (flag ≡ 3) → IsFlag flag
done_flag flag (inl e) = flag_of flag 0 e (record { cause = refl; no_x = refl; no_n = refl })
done_flag flag (inr (inl e)) = flag_of flag 1 e (record { cause = refl; no_x = refl; no_n = refl })
done_flag flag (inr (inr e)) = flag_of flag 3 e (record { cause = refl; no_x = refl; no_n = refl })

fatal_flag : (place : ℕ) → (place ≡ 27) ⊎ (place ≡ 29) → IsFlag place
fatal_flag place (inl e) = flag_of place 27 e (record { cause = refl; no_x = refl; no_n = refl })
fatal_flag place (inr e) = flag_of place 29 e (record { cause = refl; no_x = refl; no_n = refl })

fault_flag : IsFlag 30
fault_flag = record { cause = refl; no_x = refl; no_n = refl }

its_cause : (place k : ℕ) → place ≡ k → is_named_cause k ≡ true → is_named_cause place ≡ true
its_cause place k is = subst (λ (n : ℕ). is_named_cause n ≡ true) (sym is)

module _ (d : Device) (its : ℕ) (new : DevicePort) where
  flag_raised : (port place flag : ℕ) → port ≡ its → place ≡ flag → IsFlag flag → new.is ≡ changed (d.port its).is flag true → new.ie ≡ (d.port its).ie → bit (d.port port).ie place ≡ true → is_ips_set (changed d.port its new port) ≡ true
  flag_raised port place flag at is flags raised same enabled =
      let f : IsFlag place = flag_of place flag is flags in
      here d its new port place at f.cause (subst (λ (n : ℕ). shown_interrupt new n ≡ true) (sym is) (flag_shown new flag flags.no_x flags.no_n (d.port its).is raised)) same enabled

  -- PCS and PRCS show PxSERR
  x_raised : (port place : ℕ) → port ≡ its → place ≡ 6 → new.serr_x ≡ true → new.ie ≡ (d.port its).ie → bit (d.port port).ie place ≡ true → is_ips_set (changed d.port its new port) ≡ true
  x_raised port place at is x same = here d its new port place at (its_cause place 6 is refl) (subst (λ (n : ℕ). shown_interrupt new n ≡ true) (sym is) x) same

  n_raised : (port place : ℕ) → port ≡ its → place ≡ 22 → new.serr_n ≡ true → new.ie ≡ (d.port its).ie → bit (d.port port).ie place ≡ true → is_ips_set (changed d.port its new port) ≡ true
  n_raised port place at is n same = here d its new port place at (its_cause place 22 is refl) (subst (λ (k : ℕ). shown_interrupt new k ≡ true) (sym is) n) same

pub raised_pends : (step : DeviceTransition) (port place : ℕ) (d : Device) → Can step d → SetsCause step port place → bit (d.port port).ie place ≡ true → is_ips_set ((device_after step d).port port) ≡ true
raised_pends (FetchFault its slot queued kept_bits) port place d can (at, is) = flag_raised d its _ port place 30 at is fault_flag refl refl
raised_pends (Done its slot flag t) port place d can (at, is) = flag_raised d its _ port place flag at is (done_flag flag can.cause_is_allowed) refl refl
raised_pends (Fault its slot error kept_bits t) port place d can (at, is) = flag_raised d its _ port place 30 at is fault_flag refl refl
raised_pends (Fatal its error) port place d can (at, is) = flag_raised d its _ port place error at is (fatal_flag error can.1) refl refl
raised_pends (LinkUp its sig n) port place d can (at, inl is) = x_raised d its _ port place at is refl refl
raised_pends (LinkUp its sig n) port place d can (at, inr (is, new)) = n_raised d its _ port place at is (or_right (d.port its).serr_n n new) refl
raised_pends (Unplug its) port place d can (at, is) = n_raised d its _ port place at is refl refl
raised_pends (Plug its disk) port place d can (at, inl is) = x_raised d its _ port place at is refl refl
raised_pends (Plug its disk) port place d can (at, inr is) = n_raised d its _ port place at is refl refl
raised_pends (Fetch p slot meaning places) port place d can none = absurd none
raised_pends (Move p slot t bytes) port place d can none = absurd none
raised_pends (Clear p slot t first count) port place d can none = absurd none
raised_pends (Fall p) port place d can none = absurd none
raised_pends (FrFall p) port place d can none = absurd none
raised_pends ResetEnds port place d can none = absurd none
raised_pends (Scribble p slot at bytes) port place d can none = absurd none

-- what a step raises is one of the causes that are named
pub raised_named : (step : DeviceTransition) (port place : ℕ) (d : Device) → Can step d → SetsCause step port place → is_named_cause place ≡ true
raised_named (FetchFault its slot queued kept_bits) port place d can (at, is) = (flag_of place 30 is fault_flag).cause
raised_named (Done its slot flag t) port place d can (at, is) = (flag_of place flag is (done_flag flag can.cause_is_allowed)).cause
raised_named (Fault its slot error kept_bits t) port place d can (at, is) = (flag_of place 30 is fault_flag).cause
raised_named (Fatal its error) port place d can (at, is) = (flag_of place error is (fatal_flag error can.1)).cause
raised_named (LinkUp its sig n) port place d can (at, inl is) = its_cause place 6 is refl
raised_named (LinkUp its sig n) port place d can (at, inr (is, new)) = its_cause place 22 is refl
raised_named (Unplug its) port place d can (at, is) = its_cause place 22 is refl
raised_named (Plug its disk) port place d can (at, inl is) = its_cause place 6 is refl
raised_named (Plug its disk) port place d can (at, inr is) = its_cause place 22 is refl
raised_named (Fetch p slot meaning places) port place d can none = absurd none
raised_named (Move p slot t bytes) port place d can none = absurd none
raised_named (Clear p slot t first count) port place d can none = absurd none
raised_named (Fall p) port place d can none = absurd none
raised_named (FrFall p) port place d can none = absurd none
raised_named ResetEnds port place d can none = absurd none
raised_named (Scribble p slot at bytes) port place d can none = absurd none

-- ---- the effect of an access

-- what it leaves of the adapter: what is on the tape, what PxIE of the port enables, and what is pending on it
record Leaves (port : ℕ) (access : Access) (d new : Device) : Type 0 where
  off : d.hr ≡ false → new.hr ≡ false
  tape : new.tape ≡ d.tape
  ie : LeavesPxIeUnwritten port access → (new.port port).ie ≡ (d.port port).ie
  pends : is_ips_set (d.port port) ≡ true → is_ips_set (new.port port) ≡ true

leaves_all : (port : ℕ) (access : Access) (d : Device) → Leaves port access d d
leaves_all port access d = record { off = λ h. h; tape = refl; ie = λ spares. refl; pends = λ h. h }

noted_leaves : (port : ℕ) (r : Reg) (v : ℕ) (d : Device) → Leaves port (Reading r v) d (device_after_reading r v d)
noted_leaves port Cap v d = leaves_all port _ d
noted_leaves port Ghc v d = leaves_all port _ d
noted_leaves port Pi v d = leaves_all port _ d
noted_leaves port Vs v d = leaves_all port _ d
noted_leaves port Cap2 v d = leaves_all port _ d
noted_leaves port Bohc v d = leaves_all port _ d
noted_leaves port adapter.Is v d = leaves_all port _ d
noted_leaves port (Px its r) v d = record {
  off = λ h. h;
  tape = refl;
  ie = λ spares. changed_each d.port its.0 _ (λ q p. p.ie ≡ (d.port q).ie) refl (λ q. refl) port;
  pends = changed_each d.port its.0 _ (λ q p. is_ips_set (d.port q) ≡ true → is_ips_set p ≡ true) (λ x. x) (λ q x. x) port;
}

-- ST, and what else a write of a register of the port changes beside what raises an interrupt
st_pends : (st : Bool) (tape : ℕ) (p : DevicePort) → is_ips_set p ≡ true → is_ips_set (port_after_st_write st tape p) ≡ true
st_pends true tape p h = by p.st
  where
    by : (st : Bool) → is_ips_set (if st then p else record p { st = true; cr = true; broken = false; halt = halt_after_start p.halt; notes = record p.notes { st_set_at = tape } }) ≡ true
    by true = h
    by false = h
st_pends false tape p h = h

port_pends : (r : PortReg) (v tape : ℕ) (p : DevicePort) → is_ips_set p ≡ true → is_ips_set (port_after_write r v tape p) ≡ true
port_pends Clb v tape p h = h
port_pends Clbu v tape p h = h
port_pends Fb v tape p h = h
port_pends Fbu v tape p h = h
port_pends Cmd v tape p h = st_pends (bit v 0) tape p h
port_pends Sctl v tape p h = h
port_pends Serr v tape p h = or_left (is_ips_set p) _ h
port_pends Is v tape p h = or_left (is_ips_set p) _ h
port_pends Ie v tape p h = or_left (is_ips_set p) _ h
port_pends Ci v tape p h = h
port_pends Sact v tape p h = h
port_pends Tfd v tape p h = h
port_pends Sig v tape p h = h
port_pends Ssts v tape p h = h

-- PxIE, of a port on which another register is written
st_enables : (st : Bool) (tape : ℕ) (p : DevicePort) → (port_after_st_write st tape p).ie ≡ p.ie
st_enables true tape p = by p.st
  where
    by : (st : Bool) → (if st then p else record p { st = true; cr = true; broken = false; halt = halt_after_start p.halt; notes = record p.notes { st_set_at = tape } }).ie ≡ p.ie
    by true = refl
    by false = refl
st_enables false tape p = refl

port_enables : (its : Port) (port : ℕ) (r : PortReg) (v tape : ℕ) (p : DevicePort) → port ≡ its.0 → LeavesPxIeUnwritten port (Writing (Px its r) v) → (port_after_write r v tape p).ie ≡ p.ie
port_enables its port Ie v tape p at spares = absurd (spares (sym at))
port_enables its port Clb v tape p at spares = refl
port_enables its port Clbu v tape p at spares = refl
port_enables its port Fb v tape p at spares = refl
port_enables its port Fbu v tape p at spares = refl
port_enables its port Cmd v tape p at spares = st_enables (bit v 0) tape p
port_enables its port Sctl v tape p at spares = refl
port_enables its port Serr v tape p at spares = refl
port_enables its port Is v tape p at spares = refl
port_enables its port Ci v tape p at spares = refl
port_enables its port Sact v tape p at spares = refl
port_enables its port Tfd v tape p at spares = refl
port_enables its port Sig v tape p at spares = refl
port_enables its port Ssts v tape p at spares = refl

or_false : (a b : Bool) → a ≡ false → b ≡ false → (a || b) ≡ false
or_false false b x y = y
or_false true b x y = true-false refl x

written_leaves : (port : ℕ) (r : Reg) (v : ℕ) (d : Device) → KeepsIsBit port (Writing r v) → Leaves port (Writing r v) d (device_after_write r v d)
written_leaves port Ghc v d none = record { off = λ h. or_false d.hr (bit v 0) h none; tape = refl; ie = λ spares. refl; pends = λ h. h }
written_leaves port adapter.Is v d none = record { off = λ h. h; tape = refl; ie = λ spares. same (bit v port); pends = by (bit v port) none }
  where
    same : (b : Bool) → (if b then port_after_hba_is_write (d.port port) else d.port port).ie ≡ (d.port port).ie
    same true = refl
    same false = refl

    by : (b : Bool) → b ≡ false → is_ips_set (d.port port) ≡ true → is_ips_set (if b then port_after_hba_is_write (d.port port) else d.port port) ≡ true
    by false is h = h
    by true is h = true-false refl is
written_leaves port (Px its r) v d none = record {
  off = λ h. h;
  tape = refl;
  ie = λ spares. changed_each d.port its.0 _ (λ q p. q ≡ port → p.ie ≡ (d.port q).ie) (λ at. port_enables its port r v _ (d.port its.0) (sym at) spares) (λ q at. refl) port refl;
  pends = changed_each d.port its.0 _ (λ q p. is_ips_set (d.port q) ≡ true → is_ips_set p ≡ true) (port_pends r v _ (d.port its.0)) (λ q x. x) port;
}
written_leaves port Cap v d none = leaves_all port _ d
written_leaves port Pi v d none = leaves_all port _ d
written_leaves port Vs v d none = leaves_all port _ d
written_leaves port Cap2 v d none = leaves_all port _ d
written_leaves port Bohc v d none = leaves_all port _ d

-- ---- accesses

-- A fact that steps of the device and effects of accesses keep goes on.
module _ (port : ℕ) (P : Device → Type 0) (May : Access → Type 0)
    (on : (old new : Device) → Steps old new → P old → P new) (over : (access : Access) (d new : Device) → May access → Leaves port access d new → P d → P new) where
  access_goes : (access : Access) (old new : Device) → May access → KeepsIsBit port access → Does access old new → P old → P new
  access_goes (Reading r v) old new may none x h = subst P (sym x.effect) (over (Reading r v) x.at_access (device_after_reading r v x.at_access) may (noted_leaves port r v x.at_access) (on old x.at_access x.steps h))
  access_goes (Writing r v) old new may none x h = subst P (sym x.effect) (over (Writing r v) x.at_access (device_after_write r v x.at_access) may (written_leaves port r v x.at_access none) (on old x.at_access x.steps h))
  access_goes (Loading at bytes) old new may none x h = on old new x.steps h
  access_goes (Storing at bytes) old new may none x h =
      subst P (sym x.effect) (over (Storing at bytes) x.at_access _ may (record { off = λ h. h; tape = refl; ie = λ spares. refl; pends = λ h. h }) (on old x.at_access x.steps h))

  all_go : (accesses : List Access) (old new : Device) → DoesAll accesses old new → All May accesses → All (KeepsIsBit port) accesses → P old → P new
  all_go [] old new e may none h = subst P (sym e) h
  all_go (access ∷ accesses) old new (mid, does, rest) may none h =
      all_go accesses mid new rest (All-tail May access accesses may) (All-tail (KeepsIsBit port) access accesses none)
      (access_goes access old mid (All-head May access accesses may) (All-head (KeepsIsBit port) access accesses none) does h)

-- what is pending on the port, with no reset
record Pends (port : ℕ) (d : Device) : Type 0 where
  off : d.hr ≡ false
  pends : is_ips_set (d.port port) ≡ true

any_access : (accesses : List Access) → All (λ (access : Access). Unit {0}) accesses
any_access [] = All-nil (λ (access : Access). Unit {0})
any_access (access ∷ accesses) = All-cons (λ (access : Access). Unit {0}) access accesses tt (any_access accesses)

pub accesses_pend : (port : ℕ) (accesses : List Access) (old new : Device) → DoesAll accesses old new → All (KeepsIsBit port) accesses → old.hr ≡ false → is_ips_set (old.port port) ≡ true → is_ips_set (new.port port) ≡ true
accesses_pend port accesses old new does none off h =
    (all_go port (Pends port) (λ access. Unit {0})
    (λ old new s p. record { off = ((law_step_lists_keep_what_steps_keep s).keeps_outside_reset p.off).no_reset; pends = steps_pend port old new s p.off p.pends })
    (λ access d new may l p. record { off = l.off p.off; pends = l.pends p.pends })
    accesses old new does (any_access accesses) none (record { off = off; pends = h })).pends

-- ---- ends of commands

port_is : (a b : ℕ) → Some a ≡ Some b → b ≡ a
port_is a b e = sym (ap (λ (o : Option ℕ). its_port o) e)
  where
    its_port : Option ℕ → ℕ
    its_port (Some port) = port
    its_port None = 0

module _ (port : ℕ) (told : Entry) (its : interrupting_port told ≡ Some port) (begun : List Entry) where
  -- since the tape was so, what it tells of left the port's interrupt pending
  record Waits (d : Device) : Type 0 where
    off : d.hr ≡ false
    tells : EnablesNamedCauses (d.port port)
    gained : List Entry
    tape : d.tape ≡ begun ++ gained
    pends : Contains gained told → is_ips_set (d.port port) ≡ true

  enables_on : (p q : DevicePort) → q.ie ≡ p.ie → EnablesNamedCauses p → EnablesNamedCauses q
  enables_on p q same all place is = ap (λ (n : ℕ). bit n place) same ∙ all place is

  module _ (step : DeviceTransition) (d : Device) (can : Can step d) (w : Waits d) where
    controls : KeepsControlsFlagsRise (d.port port) ((device_after step d).port port)
    controls = ((step_keeps step d can).keeps_outside_reset w.off).controls_are_kept port

    goes_on : is_ips_set (d.port port) ≡ true → is_ips_set ((device_after step d).port port) ≡ true
    goes_on = pending_on (d.port port) ((device_after step d).port port) (controls_rise (d.port port) ((device_after step d).port port) controls)

    quiet : (device_after step d).tape ≡ d.tape → Waits (device_after step d)
    quiet same = record {
      off = ((step_keeps step d can).keeps_outside_reset w.off).no_reset;
      tells = enables_on (d.port port) ((device_after step d).port port) controls.ie_is_kept w.tells;
      gained = w.gained;
      tape = same ∙ w.tape;
      pends = λ has. goes_on (w.pends has);
    }

    recorded : (e : Entry) → (device_after step d).tape ≡ d.tape ++ e ∷ [] → (interrupting_port e ≡ Some port → is_ips_set ((device_after step d).port port) ≡ true) → Waits (device_after step d)
    recorded e same raised = record {
      off = ((step_keeps step d can).keeps_outside_reset w.off).no_reset;
      tells = enables_on (d.port port) ((device_after step d).port port) controls.ie_is_kept w.tells;
      gained = w.gained ++ e ∷ [];
      tape = same ∙ (ap (λ (t : List Entry). t ++ e ∷ []) w.tape ∙ append_assoc begun w.gained (e ∷ []));
      pends = λ has. ⊎_elim (λ x. goes_on (w.pends x)) (λ is. raised (ap (λ (x : Entry). interrupting_port x) is ∙ its)) (Contains-push_cases w.gained e told has);
    }

    -- one that raises a cause, where the entry is of the port
    raising : (e : Entry) (q place : ℕ) → (device_after step d).tape ≡ d.tape ++ e ∷ [] → interrupting_port e ≡ Some q → (port ≡ q → SetsCause step port place) → Waits (device_after step d)
    raising e q place same of_q raises_cause = recorded e same (λ is.
        let r = raises_cause (port_is q port (sym of_q ∙ is)) in
        raised_pends step port place d can r (w.tells place (raised_named step port place d can r)))

    other : (e : Entry) → interrupting_port e ≡ None → (device_after step d).tape ≡ d.tape ++ e ∷ [] → Waits (device_after step d)
    other e none same = recorded e same (λ is. some-none is none)

  step_waits : (step : DeviceTransition) (d : Device) → Can step d → Waits d → Waits (device_after step d)
  step_waits (Fetch p s meaning places) d can w = quiet (Fetch p s meaning places) d can w refl
  step_waits (FetchFault p s queued kept_bits) d can w = raising (FetchFault p s queued kept_bits) d can w (fault_entry p s 4 kept_bits) p 30 refl refl (λ at. (at, refl))
  step_waits (Move p s t bytes) d can w = other (Move p s t bytes) d can w (entry.Move (move_of p s t bytes)) refl refl
  step_waits (Clear p s t first count) d can w = other (Clear p s t first count) d can w (clear_entry p s first count) refl refl
  step_waits (Done p s flag t) d can w = raising (Done p s flag t) d can w (done_entry p s t.meaning.operation) p flag refl refl (λ at. (at, refl))
  step_waits (Fault p s error kept_bits t) d can w = raising (Fault p s error kept_bits t) d can w (fault_entry p s error kept_bits) p 30 refl refl (λ at. (at, refl))
  step_waits (Fatal p place) d can w = raising (Fatal p place) d can w (entry.Fatal (record { 0 = p })) p place refl refl (λ at. (at, refl))
  step_waits (Fall p) d can w = quiet (Fall p) d can w refl
  step_waits (FrFall p) d can w = quiet (FrFall p) d can w refl
  step_waits (LinkUp p sig n) d can w = quiet (LinkUp p sig n) d can w refl
  step_waits (Unplug p) d can w = raising (Unplug p) d can w (entry.Unplug (record { 0 = p })) p 22 refl refl (λ at. (at, refl))
  step_waits (Plug p disk) d can w = raising (Plug p disk) d can w (entry.Plug (record { 0 = p }) disk.name) p 6 refl refl (λ at. (at, inl refl))
  step_waits ResetEnds d can w = true-false can w.off
  step_waits (Scribble p s at bytes) d can w = quiet (Scribble p s at bytes) d can w refl

  leads_wait : (steps : List DeviceTransition) (old new : Device) → TransitionsLead steps old new → Waits old → Waits new
  leads_wait [] old new e w = subst Waits (sym e) w
  leads_wait (step ∷ steps) old new (can, rest) w = leads_wait steps (device_after step old) new rest (step_waits step old can w)

  effect_waits : (access : Access) (d new : Device) → LeavesPxIeUnwritten port access → Leaves port access d new → Waits d → Waits new
  effect_waits access d new spares l w = record {
    off = l.off w.off;
    tells = enables_on (d.port port) (new.port port) (l.ie spares) w.tells;
    gained = w.gained;
    tape = l.tape ∙ w.tape;
    pends = λ has. l.pends (w.pends has);
  }

pub told_pend : (port : ℕ) (told : Entry) (accesses : List Access) (gained : List Entry) (old new : Device) → interrupting_port told ≡ Some port → DoesAll accesses old new → All (KeepsIsBit port) accesses → All (LeavesPxIeUnwritten port) accesses
    → old.hr ≡ false → EnablesNamedCauses (old.port port) → new.tape ≡ old.tape ++ gained → Contains gained told → is_ips_set (new.port port) ≡ true
told_pend port told accesses gained old new its does none spares off tells tape has =
    let w : Waits port told its old.tape new = all_go port (Waits port told its old.tape) (LeavesPxIeUnwritten port)
    (λ a b s. leads_wait port told its old.tape s.steps a b s.lead) (effect_waits port told its old.tape) accesses old new does spares none
    (record { off = off; tells = tells; gained = []; tape = sym (append-nil old.tape); pends = λ (x : Contains [] told). absurd (let small = x.1 in omega (arith, small)) }) in
    w.pends (subst (λ (g : List Entry). Contains g told) (append_cancel_left old.tape gained w.gained (sym tape ∙ w.tape)) has)

-- ---- IS itself

pub pending_shown : (port v : ℕ) (old new : Device) → Reads adapter.Is v old new → HasPort new port → ShowsPendingAndPerhapsUnnamedCause (bit v port) (new.port port)
pending_shown port v old new x has =
    let low = has.0 in
    subst (λ (d : Device). ShowsPendingAndPerhapsUnnamedCause (bit v port) (d.port port)) (sym x.effect)
    (x.shows port (omega (arith, low)) (subst (λ (d : Device). bit d.pi port ≡ true) x.effect has.1))

pub pending_cleared : (port v : ℕ) (old new : Device) → Writes adapter.Is v old new → bit v port ≡ true → is_ips_set (new.port port) ≡ raises_interrupt (new.port port)
pending_cleared port v old new x set = subst (λ (d : Device). is_ips_set (d.port port) ≡ raises_interrupt (d.port port)) (sym x.effect) (by (bit v port) set)
  where
    by : (b : Bool) → b ≡ true → is_ips_set (if b then port_after_hba_is_write (x.at_access.port port) else x.at_access.port port) ≡ raises_interrupt (if b then port_after_hba_is_write (x.at_access.port port) else x.at_access.port port)
    by true is = refl
    by false is = true-false is refl
