-- The faults since ST was set stand on the tape.
use Rattle.std.proofs.Common.{ℕ, ◌≡◌, ◌⊎◌, ◌<◌, ◌≤◌, ◌+◌, ◌*◌, ◌++◌, Bool, true, false, List, [], ◌∷◌, length, drop, refl, sym, ◌∙◌, ap, subst, arith, inl, inr, append_assoc, le_refl}
use Rattle.std.specs.Prelude.{bit_and}
use Rattle.std.proofs.lemmas.Nat.{and_le_r}
use Rattle.std.proofs.lemmas.List.{drop-append-le, length-append}
use Rattle.std.proofs.lemmas.List.Elements.{All-nil, All-push}
use Rattle.std.proofs.lemmas.Bool.{both_ways, false≢true}
use Rattle.adapter.specs.Device.{Bases, Disk, DurableState, Halt, DevicePort, Device}
use Rattle.adapter.specs.Device.Halt.{NotHalted, HaltedByPlain, HaltedByQueued, LogOnly}
use Rattle.adapter.specs.Memory.{changed}
use Rattle.adapter.specs.Rules.{InUse}
use Rattle.adapter.specs.Steps.{DeviceTransition, Can, device_after, TransitionsLead, Steps, AreBsyDrqBits, admits, halt_after_fault, halt_after_start, fault_entry}
use Rattle.adapter.specs.Steps.DeviceTransition.{Fetch, FetchFault, Move, Clear, Done, Fault, Fatal, Fall, FrFall, LinkUp, Unplug, Plug, ResetEnds, Scribble}
use Rattle.adapter.specs.declared.command.Operation.{Operation}
use Rattle.adapter.specs.declared.tape.Entry.{Entry}
use Rattle.adapter.specs.declared.tape.Entry.TheVariants as entry
use Rattle.adapter.proofs.Changed.{changed_other}
use Rattle.refinement.specs.PortFacts.{IsHaltedByPlainOrQueued, IsFaultOf, ShowsFault, RecordsFaults, RecordsFaultsIfSt}
use Rattle.refinement.proofs.device.HealthyPort.{at_port}

-- ---- halts

-- a port that a fault has halted takes no command, and goes on with none
pub faulted_admits : {A : Type 0} (h : Halt) (o : Operation) → IsHaltedByPlainOrQueued h → admits h o ≡ true → A
faulted_admits h o (inl e) a = absurd (false≢true (ap (λ (x : Halt). admits x o) (sym e) ∙ a))
faulted_admits h o (inr e) a = absurd (false≢true (ap (λ (x : Halt). admits x o) (sym e) ∙ a))

pub running_faulted : {A : Type 0} → IsHaltedByPlainOrQueued NotHalted → A
running_faulted (inl e) = absurd cc
running_faulted (inr e) = absurd cc

pub restarted_faulted : {A : Type 0} (h : Halt) → IsHaltedByPlainOrQueued (halt_after_start h) → A
restarted_faulted NotHalted f = running_faulted f
restarted_faulted HaltedByPlain f = running_faulted f
restarted_faulted HaltedByQueued (inl e) = absurd cc
restarted_faulted HaltedByQueued (inr e) = absurd cc
restarted_faulted LogOnly (inl e) = absurd cc
restarted_faulted LogOnly (inr e) = absurd cc

pub fault_halts : (h : Halt) (queued : Bool) → IsHaltedByPlainOrQueued (halt_after_fault h queued)
fault_halts HaltedByQueued queued = inr refl
fault_halts LogOnly queued = inr refl
fault_halts NotHalted true = inr refl
fault_halts NotHalted false = inl refl
fault_halts HaltedByPlain true = inr refl
fault_halts HaltedByPlain false = inl refl

-- ---- what a record rests on

-- a port that looks the same to its record
pub record SameRecord (p new : DevicePort) : Type 0 where
  pub st : new.st ≡ p.st
  pub set_at : new.notes.st_set_at ≡ p.notes.st_set_at
  pub linked : new.link_due ≡ p.link_due
  pub flag : new.is 30 ≡ true → p.is 30 ≡ true
  pub halt : new.halt ≡ p.halt
  pub tfd : new.tfd ≡ p.tfd
  pub used : (slot : ℕ) → InUse p slot → InUse new slot

-- where the command list and the received FIS area are, which disk is in, PxIE, and the bits of IS, SACT, SSTS and SERR, don't matter to it
pub same_with : (p : DevicePort) (bases : Bases) (fre fr : Bool) (ie ssts_det : ℕ) (serr_n serr_x ips other_causes : Bool) (sact : ℕ → Bool) (disk : Disk) (plugged : List Disk) (lasting : DurableState) (present fresh : Bool) →
    SameRecord p (record p {
      bases = bases;
      fre = fre;
      fr = fr;
      ie = ie;
      ssts_det = ssts_det;
      serr_n = serr_n;
      serr_x = serr_x;
      ips_latched = ips;
      other_causes = other_causes;
      sact = sact;
      disk = disk;
      plug_history = plugged;
      lasting = lasting;
      present = present;
      fresh = fresh;
    })
same_with p bases fre fr ie ssts_det serr_n serr_x ips other_causes sact disk plugged lasting present fresh =
    record { st = refl; set_at = refl; linked = refl; flag = λ f. f; halt = refl; tfd = refl; used = λ slot u. u }

shows_on : (entries : List Entry) (p new : DevicePort) (port : ℕ) → SameRecord p new → ShowsFault entries p port → ShowsFault entries new port
shows_on entries p new port same s = record {
  before = s.before;
  fault = s.fault;
  later = s.later;
  entries_are_split = s.entries_are_split;
  port_is = s.port_is;
  no_later_fault = s.no_later_fault;
  bytes_fit = s.bytes_fit;
  tfd_is = same.tfd ∙ s.tfd_is;
  slot_is_issued_or_taken = same.used s.fault.slot.0 s.slot_is_issued_or_taken;
}

pub recorded_on : (tape : List Entry) (p new : DevicePort) (port : ℕ) → SameRecord p new → RecordsFaultsIfSt tape p port → RecordsFaultsIfSt tape new port
recorded_on tape p new port same h st =
    let x : RecordsFaults tape p port = h (sym same.st ∙ st) in
    record {
      st_set_is_on_tape = subst (λ (n : ℕ). n ≤ length tape) (sym same.set_at) x.st_set_is_on_tape;
      no_link_is_due = same.linked ∙ x.no_link_is_due;
      tfes_tells_fault = λ f. subst IsHaltedByPlainOrQueued (sym same.halt) (x.tfes_tells_fault (same.flag f));
      shows_last_fault = λ f. subst (λ (n : ℕ). ShowsFault (drop n tape) new port) (sym same.set_at)
          (shows_on (drop p.notes.st_set_at tape) p new port same (x.shows_last_fault (subst IsHaltedByPlainOrQueued same.halt f)));
    }

-- one more entry, which is no fault of the port's
shows_more : (entries : List Entry) (e : Entry) (p : DevicePort) (port : ℕ) → (IsFaultOf port e → ⊥) → ShowsFault entries p port → ShowsFault (entries ++ e ∷ []) p port
shows_more entries e p port none s = record {
  before = s.before;
  fault = s.fault;
  later = s.later ++ e ∷ [];
  entries_are_split = ap (λ (l : List Entry). l ++ e ∷ []) s.entries_are_split ∙ append_assoc s.before (entry.Fault s.fault ∷ s.later) (e ∷ []);
  port_is = s.port_is;
  no_later_fault = All-push (λ x. IsFaultOf port x → ⊥) s.later e s.no_later_fault none;
  bytes_fit = s.bytes_fit;
  tfd_is = s.tfd_is;
  slot_is_issued_or_taken = s.slot_is_issued_or_taken;
}

longer : (tape : List Entry) (e : Entry) (n : ℕ) → n ≤ length tape → n ≤ length (tape ++ e ∷ [])
longer tape e n le = let l = length-append tape (e ∷ []) in omega (arith, le, l)

recorded_more : (tape : List Entry) (e : Entry) (p : DevicePort) (port : ℕ) → (IsFaultOf port e → ⊥) → RecordsFaultsIfSt tape p port → RecordsFaultsIfSt (tape ++ e ∷ []) p port
recorded_more tape e p port none h st =
    let x : RecordsFaults tape p port = h st in
    record {
      st_set_is_on_tape = longer tape e p.notes.st_set_at x.st_set_is_on_tape;
      no_link_is_due = x.no_link_is_due;
      tfes_tells_fault = x.tfes_tells_fault;
      shows_last_fault = λ f. subst (λ (entries : List Entry). ShowsFault entries p port) (sym (drop-append-le p.notes.st_set_at tape (e ∷ []) x.st_set_is_on_tape))
          (shows_more (drop p.notes.st_set_at tape) e p port none (x.shows_last_fault f));
    }

-- a port that goes on with a command is halted by no fault
record Worked (o : Operation) (p new : DevicePort) : Type 0 where
  pub admitted : admits p.halt o ≡ true
  pub st : new.st ≡ p.st
  pub set_at : new.notes.st_set_at ≡ p.notes.st_set_at
  pub linked : new.link_due ≡ p.link_due
  pub flag : new.is 30 ≡ true → p.is 30 ≡ true
  pub halt : IsHaltedByPlainOrQueued new.halt → IsHaltedByPlainOrQueued p.halt

recorded_worked : (tape later : List Entry) (o : Operation) (p new : DevicePort) (port : ℕ) → length tape ≤ length later → Worked o p new → RecordsFaultsIfSt tape p port → RecordsFaultsIfSt later new port
recorded_worked tape later o p new port more w h st =
    let x : RecordsFaults tape p port = h (sym w.st ∙ st) in
    record {
      st_set_is_on_tape = let k = x.st_set_is_on_tape in let s = w.set_at in omega (arith, k, s, more);
      no_link_is_due = w.linked ∙ x.no_link_is_due;
      tfes_tells_fault = λ f. faulted_admits p.halt o (x.tfes_tells_fault (w.flag f)) w.admitted;
      shows_last_fault = λ f. faulted_admits p.halt o (w.halt f) w.admitted;
    }

-- a status of ERR, DRDY and what was left of BSY and DRQ
status_fits : (kept_bits : ℕ) → AreBsyDrqBits kept_bits → 0x41 + kept_bits < 256
status_fits kept_bits kept = let l = and_le_r kept_bits 0x88 in let k : bit_and kept_bits 0x88 ≡ kept_bits = kept in omega (arith, l, k)

-- a fault
recorded_fault : (tape : List Entry) (p new : DevicePort) (port q slot error kept_bits : ℕ) (queued : Bool) → q ≡ port → new.st ≡ p.st → new.notes.st_set_at ≡ p.notes.st_set_at → new.link_due ≡ p.link_due →
    new.halt ≡ halt_after_fault p.halt queued → new.tfd ≡ 0x41 + kept_bits + 256 * error → (0x41 + kept_bits < 256) × (error < 256) → InUse new slot →
    RecordsFaultsIfSt tape p port → RecordsFaultsIfSt (tape ++ fault_entry q slot error kept_bits ∷ []) new port
recorded_fault tape p new port q slot error kept_bits queued here st set_at linked halt tfd fits used h on =
    let x : RecordsFaults tape p port = h (sym st ∙ on) in
    let n : ℕ = p.notes.st_set_at in
    record {
      st_set_is_on_tape = subst (λ (k : ℕ). k ≤ length (tape ++ fault_entry q slot error kept_bits ∷ [])) (sym set_at) (longer tape (fault_entry q slot error kept_bits) p.notes.st_set_at x.st_set_is_on_tape);
      no_link_is_due = linked ∙ x.no_link_is_due;
      tfes_tells_fault = λ _. subst IsHaltedByPlainOrQueued (sym halt) (fault_halts p.halt queued);
      shows_last_fault = λ _. subst (λ (k : ℕ). ShowsFault (drop k (tape ++ fault_entry q slot error kept_bits ∷ [])) new port) (sym set_at) (record {
        before = drop p.notes.st_set_at tape;
        fault = record { port = record { 0 = q }; slot = record { 0 = slot }; status = 0x41 + kept_bits; error = error };
        later = [];
        entries_are_split = drop-append-le p.notes.st_set_at tape (fault_entry q slot error kept_bits ∷ []) x.st_set_is_on_tape;
        port_is = here;
        no_later_fault = All-nil (λ e. IsFaultOf port e → ⊥);
        bytes_fit = fits;
        tfd_is = tfd;
        slot_is_issued_or_taken = used;
      });
    }

-- a port whose ST is 0 has nothing to record
pub stopped_recorded : (tape : List Entry) (p : DevicePort) (port : ℕ) → p.st ≡ false → RecordsFaultsIfSt tape p port
stopped_recorded tape p port off on = absurd (both_ways _ off on)

-- ---- a step

-- TFES isn't among the flags of a command's end, nor of a fatal error
other_flag : (p : DevicePort) (flag : ℕ) → (flag ≡ 30 → ⊥) → changed p.is flag true 30 ≡ true → p.is 30 ≡ true
other_flag p flag ne h = sym (changed_other p.is flag true 30 (λ e. ne (sym e))) ∙ h

end_flag : (flag : ℕ) → (flag ≡ 0) ⊎ (flag ≡ 1) ⊎ (flag ≡ 3) → flag ≡ 30 → ⊥
end_flag flag (inl z) e = omega (arith, z, e)
end_flag flag (inr (inl z)) e = omega (arith, z, e)
end_flag flag (inr (inr z)) e = omega (arith, z, e)

fatal_flag : (place : ℕ) → (place ≡ 27) ⊎ (place ≡ 29) → place ≡ 30 → ⊥
fatal_flag place (inl z) e = omega (arith, z, e)
fatal_flag place (inr z) e = omega (arith, z, e)

one_longer : (tape : List Entry) (e : Entry) → length tape ≤ length (tape ++ e ∷ [])
one_longer tape e = longer tape e (length tape) (le_refl (length tape))

module _ (port : ℕ) (d : Device) (h : RecordsFaultsIfSt d.tape (d.port port) port) where
  -- a step of a port with an entry
  entered : (p : ℕ) (new : DevicePort) (e : Entry) → (IsFaultOf port e → p ≡ port) → (p ≡ port → RecordsFaultsIfSt d.tape (d.port p) port → RecordsFaultsIfSt (d.tape ++ e ∷ []) new port) →
      RecordsFaultsIfSt (d.tape ++ e ∷ []) (changed d.port p new port) port
  entered p new e own here =
      at_port (λ x. RecordsFaultsIfSt d.tape x port) (λ x. RecordsFaultsIfSt (d.tape ++ e ∷ []) x port) d p port new h here
      (λ ne x. recorded_more d.tape e (d.port port) port (λ f. ne (sym (own f))) x)

  -- and one without
  silent : (p : ℕ) (new : DevicePort) → (p ≡ port → RecordsFaultsIfSt d.tape (d.port p) port → RecordsFaultsIfSt d.tape new port) → RecordsFaultsIfSt d.tape (changed d.port p new port) port
  silent p new here = at_port (λ x. RecordsFaultsIfSt d.tape x port) (λ x. RecordsFaultsIfSt d.tape x port) d p port new h here (λ ne x. x)

  step_recorded : (step : DeviceTransition) → Can step d → RecordsFaultsIfSt (device_after step d).tape ((device_after step d).port port) port
  step_recorded (Fetch p slot c places) can = silent p _
      (λ e x. recorded_worked d.tape d.tape c.operation (d.port p) _ port (le_refl (length d.tape))
      (record { admitted = can.working.admitted; st = refl; set_at = refl; linked = refl; flag = λ f. f; halt = λ f. f }) x)
  step_recorded (FetchFault p slot queued kept_bits) can = entered p _ (fault_entry p slot 4 kept_bits) (λ f. f)
      (λ e x. recorded_fault d.tape (d.port p) _ port p slot 4 kept_bits queued e refl refl refl refl refl (status_fits kept_bits can.kept_bits_are_allowed, omega arith) (inl can.fetchable.issued) x)
  step_recorded (Move p slot t bytes) can = entered p _ _ (λ f. absurd f)
      (λ e x. recorded_worked d.tape _ t.meaning.operation (d.port p) _ port (one_longer d.tape _)
      (record { admitted = can.works.working.admitted; st = refl; set_at = refl; linked = refl; flag = λ f. f; halt = λ f. f }) x)
  step_recorded (Clear p slot t first count) can = entered p _ _ (λ f. absurd f)
      (λ e x. recorded_worked d.tape _ _ (d.port p) _ port (one_longer d.tape _)
      (record { admitted = can.works.working.admitted; st = refl; set_at = refl; linked = refl; flag = λ f. f; halt = λ f. f }) x)
  step_recorded (Done p slot flag t) can = entered p _ _ (λ f. absurd f)
      (λ e x. recorded_worked d.tape _ t.meaning.operation (d.port p) _ port (one_longer d.tape _)
      (record { admitted = can.works.working.admitted; st = refl; set_at = refl; linked = refl; flag = other_flag (d.port p) flag (end_flag flag can.cause_is_allowed); halt = λ f. running_faulted f }) x)
  step_recorded (Fault p slot error kept_bits t) can = entered p _ (fault_entry p slot error kept_bits) (λ f. f)
      (λ e x. recorded_fault d.tape (d.port p) _ port p slot error kept_bits _ e refl refl refl refl refl (status_fits kept_bits can.kept_bits_are_allowed, can.is_byte) (inr (t, can.taken)) x)
  step_recorded (Fatal p place) can = entered p _ _ (λ f. absurd f)
      (λ e x. recorded_more d.tape _ _ port (λ f. f) (recorded_on d.tape (d.port p) _ port
      (record { st = refl; set_at = refl; linked = refl; flag = other_flag (d.port p) place (fatal_flag place can.1); halt = refl; tfd = refl; used = λ slot u. u }) x))
  step_recorded (Fall p) can = silent p _ (λ e x. stopped_recorded d.tape _ port can.0)
  step_recorded (FrFall p) can = silent p _ (λ e x. recorded_on d.tape (d.port p) _ port
      (same_with (d.port p) _ _ _ _ _ _ _ _ _ _ _ _ _ _ _) x)
  step_recorded (LinkUp p sig n) can = silent p _ (λ e x st. absurd (both_ways _ (x st).no_link_is_due can.link_is_due))
  step_recorded (Unplug p) can = entered p _ _ (λ f. absurd f)
      (λ e x. recorded_more d.tape _ _ port (λ f. f) (recorded_on d.tape (d.port p) _ port
      (same_with (d.port p) _ _ _ _ _ _ _ _ _ _ _ _ _ _ _) x))
  step_recorded (Plug p disk) can = entered p _ _ (λ f. absurd f)
      (λ e x. recorded_more d.tape _ _ port (λ f. f) (recorded_on d.tape (d.port p) _ port
      (same_with (d.port p) _ _ _ _ _ _ _ _ _ _ _ _ _ _ _) x))
  step_recorded ResetEnds can = stopped_recorded d.tape _ port refl
  step_recorded (Scribble p slot at bytes) can = h

leads_recorded : (port : ℕ) (steps : List DeviceTransition) (old new : Device) → TransitionsLead steps old new → RecordsFaultsIfSt old.tape (old.port port) port → RecordsFaultsIfSt new.tape (new.port port) port
leads_recorded port [] old new e h = subst (λ (d : Device). RecordsFaultsIfSt d.tape (d.port port) port) (sym e) h
leads_recorded port (step ∷ steps) old new (can, lead) h = leads_recorded port steps (device_after step old) new lead (step_recorded port old h step can)

pub steps_recorded : (port : ℕ) (old new : Device) → Steps old new → RecordsFaultsIfSt old.tape (old.port port) port → RecordsFaultsIfSt new.tape (new.port port) port
steps_recorded port old new s h = leads_recorded port s.steps old new s.lead h
