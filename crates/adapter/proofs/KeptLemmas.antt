-- Each step keeps what `Keeps` says, and so does a list of steps.
use Rattle.std.proofs.Common.{ℕ, ◌≡◌, Bool, true, false, refl, subst, sym, ◌∙◌, ap, List, [], ◌∷◌, ◌++◌, Option, None, Some, ◌||◌, if◌then◌else◌, append_assoc, append-nil}
use Rattle.adapter.proofs.Absurd.{true-false, some-none}
use Rattle.adapter.proofs.Changed.{changed_each}
use Rattle.adapter.specs.Memory.{changed}
use Rattle.adapter.specs.Commands.{is_queued}
use Rattle.adapter.specs.Device.{FetchedCommand, DevicePort, Device}
use Rattle.adapter.specs.KeptBySteps.{KeepsOverSteps, KeepsOutsideReset, PortBitsOnlyFallFreeSlotsStay, KeepsControlsFlagsRise}
use Rattle.adapter.specs.Steps.{DeviceTransition, Can, device_after, TransitionsLead, Steps, with_port}
use Rattle.adapter.specs.Steps.DeviceTransition.{Fetch, FetchFault, Move, Clear, Done, Fault, Fatal, Fall, FrFall, LinkUp, Unplug, Plug, ResetEnds, Scribble}
use Rattle.adapter.specs.declared.tape.Entry.{Entry}

-- ---- sets of bits that only fall, or only rise

fall_keeps : (f : ℕ → Bool) (place k : ℕ) → f k ≡ false → changed f place false k ≡ false
fall_keeps f place k h = changed_each f place false (λ q v. f q ≡ false → v ≡ false) (λ _. refl) (λ q e. e) k h

rise_keeps : (f : ℕ → Bool) (place k : ℕ) → f k ≡ true → changed f place true k ≡ true
rise_keeps f place k h = changed_each f place true (λ q v. f q ≡ true → v ≡ true) (λ _. refl) (λ q e. e) k h

fall_if : (b : Bool) (f : ℕ → Bool) (place k : ℕ) → f k ≡ false → (if b then changed f place false else f) k ≡ false
fall_if true f place k h = fall_keeps f place k h
fall_if false f place k h = h

fall_unless : (b : Bool) (f : ℕ → Bool) (place k : ℕ) → f k ≡ false → (if b then f else changed f place false) k ≡ false
fall_unless false f place k h = fall_keeps f place k h
fall_unless true f place k h = h

or_keeps : (a b : Bool) → a ≡ true → (a || b) ≡ true
or_keeps true b h = refl
or_keeps false b h = true-false h refl

-- ---- a port

-- what the command engine of a port is, and its addresses, are the same
abbrev pub SameEngine : DevicePort → DevicePort → Type 0
SameEngine old new =
    (new.bases ≡ old.bases) × (new.st ≡ old.st) × (new.fre ≡ old.fre)
    × (new.cr ≡ old.cr) × (new.fr ≡ old.fr) × (new.ci ≡ old.ci) × (new.sact ≡ old.sact) × (new.taken ≡ old.taken)

pub same_engine : (p : DevicePort) → SameEngine p p
same_engine p = (refl, refl, refl, refl, refl, refl, refl, refl)

pub still : (old new : DevicePort) → SameEngine old new → PortBitsOnlyFallFreeSlotsStay old new
still old new (bases, st, fre, cr, fr, ci, sact, taken) =
    let at : (slot : ℕ) → new.taken slot ≡ old.taken slot = λ slot. ap (λ (f : ℕ → Option FetchedCommand). f slot) taken in
    record {
      bases_are_kept = bases;
      st_stays_clear = λ h. st ∙ h;
      fre_stays_clear = λ h. fre ∙ h;
      cr_stays_clear = λ h. cr ∙ h;
      fr_stays_clear = λ h. fr ∙ h;
      ci_stays_clear = λ k h. ap (λ (f : ℕ → Bool). f k) ci ∙ h;
      sact_stays_clear = λ k h. ap (λ (f : ℕ → Bool). f k) sact ∙ h;
      none_stays_taken_while_cr_is_clear = λ quiet none slot. at slot ∙ none slot;
      cr_fall_drops_taken_commands = λ ran quiet. true-false ran (sym cr ∙ quiet);
      slots_stay_free = λ slot unset none. at slot ∙ none;
    }

pub PortBitsOnlyFallFreeSlotsStay-refl : (p : DevicePort) → PortBitsOnlyFallFreeSlotsStay p p
PortBitsOnlyFallFreeSlotsStay-refl p = still p p (same_engine p)

-- what the driver's controls are, and the flags, are the same, and CR is
abbrev pub SameControls : DevicePort → DevicePort → Type 0
SameControls old new =
    (new.st ≡ old.st) × (new.fre ≡ old.fre) × (new.sctl_det ≡ old.sctl_det) × (new.ie ≡ old.ie) × (new.is ≡ old.is)
    × (new.ips_latched ≡ old.ips_latched) × (new.serr_n ≡ old.serr_n) × (new.serr_x ≡ old.serr_x) × (new.cr ≡ old.cr)

pub same_controls : (p : DevicePort) → SameControls p p
same_controls p = (refl, refl, refl, refl, refl, refl, refl, refl, refl)

pub calm : (old new : DevicePort) → SameControls old new → KeepsControlsFlagsRise old new
calm old new (st, fre, det, ie, is, ips, n, x, cr) = record {
  st_is_kept = st;
  fre_is_kept = fre;
  sctl_det_is_kept = det;
  ie_is_kept = ie;
  causes_stay_set = λ k h. ap (λ (f : ℕ → Bool). f k) is ∙ h;
  ips_is_kept = ips;
  serr_n_stays_set = λ h. n ∙ h;
  serr_x_stays_set = λ h. x ∙ h;
  engine_stays_running = λ _ ran. cr ∙ ran;
}

pub KeepsControlsFlagsRise-refl : (p : DevicePort) → KeepsControlsFlagsRise p p
KeepsControlsFlagsRise-refl p = calm p p (same_controls p)

-- a flag rises
flagged : (p : DevicePort) (place : ℕ) (new : DevicePort) → SameControls (record p { is = changed p.is place true }) new → KeepsControlsFlagsRise p new
flagged p place new (st, fre, det, ie, is, ips, n, x, cr) = record {
  st_is_kept = st;
  fre_is_kept = fre;
  sctl_det_is_kept = det;
  ie_is_kept = ie;
  causes_stay_set = λ k h. ap (λ (f : ℕ → Bool). f k) is ∙ rise_keeps p.is place k h;
  ips_is_kept = ips;
  serr_n_stays_set = λ h. n ∙ h;
  serr_x_stays_set = λ h. x ∙ h;
  engine_stays_running = λ _ ran. cr ∙ ran;
}

-- a slot that was in use holds something else now
slot_keeps : (p : DevicePort) (slot : ℕ) (new : Option FetchedCommand) → (p.ci slot ≡ false → p.taken slot ≡ None → new ≡ None)
    → (k : ℕ) → p.ci k ≡ false → p.taken k ≡ None → changed p.taken slot new k ≡ None
slot_keeps p slot new used =
    changed_each p.taken slot new (λ k o. p.ci k ≡ false → p.taken k ≡ None → o ≡ None) used (λ k unset none. none)

-- the command of a slot of a working port goes on
worked : (p : DevicePort) (slot : ℕ) (t u : FetchedCommand) (new : DevicePort) → p.cr ≡ true → p.taken slot ≡ Some t
    → SameEngine (record p { taken = changed p.taken slot (Some u) }) new → PortBitsOnlyFallFreeSlotsStay p new
worked p slot t u new running is (bases, st, fre, cr, fr, ci, sact, taken) = record {
  bases_are_kept = bases;
  st_stays_clear = λ h. st ∙ h;
  fre_stays_clear = λ h. fre ∙ h;
  cr_stays_clear = λ h. cr ∙ h;
  fr_stays_clear = λ h. fr ∙ h;
  ci_stays_clear = λ k h. ap (λ (f : ℕ → Bool). f k) ci ∙ h;
  sact_stays_clear = λ k h. ap (λ (f : ℕ → Bool). f k) sact ∙ h;
  none_stays_taken_while_cr_is_clear = λ quiet. true-false running quiet;
  cr_fall_drops_taken_commands = λ ran quiet. true-false ran (sym cr ∙ quiet);
  slots_stay_free = λ k unset none. ap (λ (f : ℕ → Option FetchedCommand). f k) taken ∙ slot_keeps p slot (Some u) (λ _ n. some-none is n) k unset none;
}

-- ---- one step, at its port

module _ (d : Device) (port : ℕ) (new : DevicePort) (keeps : PortBitsOnlyFallFreeSlotsStay (d.port port) new) (controls : KeepsControlsFlagsRise (d.port port) new) (same : new.notes ≡ (d.port port).notes) where
  ports : (q : ℕ) → PortBitsOnlyFallFreeSlotsStay (d.port q) (changed d.port port new q)
  ports = changed_each d.port port new (λ q p. PortBitsOnlyFallFreeSlotsStay (d.port q) p) keeps (λ q. PortBitsOnlyFallFreeSlotsStay-refl (d.port q))

  all_controls : (q : ℕ) → KeepsControlsFlagsRise (d.port q) (changed d.port port new q)
  all_controls = changed_each d.port port new (λ q p. KeepsControlsFlagsRise (d.port q) p) controls (λ q. KeepsControlsFlagsRise-refl (d.port q))

  all_notes : (q : ℕ) → (changed d.port port new q).notes ≡ (d.port q).notes
  all_notes = changed_each d.port port new (λ q p. p.notes ≡ (d.port q).notes) same (λ q. refl)

  -- one port changes, and the tape and memory with it
  keeps_recorded : (memory : ℕ → ℕ) (gained : List Entry) →
      KeepsOverSteps d (record d { memory = memory; port = changed d.port port new; tape = d.tape ++ gained })
  keeps_recorded memory gained = record {
    disks_tell_sectors_is_kept = refl;
    memory_size_is_kept = refl;
    cap_is_kept = refl;
    pi_is_kept = refl;
    port_bits_only_fall = ports;
    notes_are_kept = all_notes;
    new_entries = gained;
    tape_grows = refl;
    keeps_outside_reset = λ h. record { no_reset = h; ae_is_kept = refl; ie_is_kept = refl; controls_are_kept = all_controls };
  }

  keeps_quiet : KeepsOverSteps d (with_port d port new)
  keeps_quiet = record {
    disks_tell_sectors_is_kept = refl;
    memory_size_is_kept = refl;
    cap_is_kept = refl;
    pi_is_kept = refl;
    port_bits_only_fall = ports;
    notes_are_kept = all_notes;
    new_entries = [];
    tape_grows = sym (append-nil d.tape);
    keeps_outside_reset = λ h. record { no_reset = h; ae_is_kept = refl; ie_is_kept = refl; controls_are_kept = all_controls };
  }

pub Keeps-refl : (d : Device) → KeepsOverSteps d d
Keeps-refl d = record {
  disks_tell_sectors_is_kept = refl;
  memory_size_is_kept = refl;
  cap_is_kept = refl;
  pi_is_kept = refl;
  port_bits_only_fall = λ q. PortBitsOnlyFallFreeSlotsStay-refl (d.port q);
  notes_are_kept = λ q. refl;
  new_entries = [];
  tape_grows = sym (append-nil d.tape);
  keeps_outside_reset = λ h. record { no_reset = h; ae_is_kept = refl; ie_is_kept = refl; controls_are_kept = λ q. KeepsControlsFlagsRise-refl (d.port q) };
}

pub step_keeps : (step : DeviceTransition) (d : Device) → Can step d → KeepsOverSteps d (device_after step d)
step_keeps (Fetch port slot meaning places) d can =
    let p : DevicePort = d.port port in
    keeps_quiet d port _
    (record {
      bases_are_kept = refl;
      st_stays_clear = λ h. h;
      fre_stays_clear = λ h. h;
      cr_stays_clear = λ h. h;
      fr_stays_clear = λ h. h;
      ci_stays_clear = λ k h. fall_if (is_queued meaning.operation) p.ci slot k h;
      sact_stays_clear = λ k h. h;
      none_stays_taken_while_cr_is_clear = λ quiet. true-false can.working.cr_is_set quiet;
      cr_fall_drops_taken_commands = λ ran quiet. true-false ran quiet;
      slots_stay_free = slot_keeps p slot _ (λ unset _. true-false can.fetchable.issued unset);
    })
    (calm _ _ (same_controls p))
    refl
step_keeps (FetchFault port slot queued kept_bits) d can =
    keeps_recorded d port _ (still _ _ (same_engine (d.port port))) (flagged (d.port port) 30 _ (same_controls (record (d.port port) { is = changed (d.port port).is 30 true }))) refl d.memory _
step_keeps (Move port slot t bytes) d can =
    keeps_recorded d port _ (worked (d.port port) slot t _ _ can.works.working.cr_is_set can.works.taken (same_engine (record (d.port port) { taken = changed (d.port port).taken slot (Some _) }))) (calm _ _ (same_controls (d.port port))) refl _ _
step_keeps (Clear port slot t first count) d can =
    keeps_recorded d port _ (worked (d.port port) slot t _ _ can.works.working.cr_is_set can.works.taken (same_engine (record (d.port port) { taken = changed (d.port port).taken slot (Some _) }))) (calm _ _ (same_controls (d.port port))) refl d.memory _
step_keeps (Done port slot flag t) d can =
    let p : DevicePort = d.port port in
    keeps_recorded d port _
    (record {
      bases_are_kept = refl;
      st_stays_clear = λ h. h;
      fre_stays_clear = λ h. h;
      cr_stays_clear = λ h. h;
      fr_stays_clear = λ h. h;
      ci_stays_clear = λ k h. fall_unless (is_queued t.meaning.operation) p.ci slot k h;
      sact_stays_clear = λ k h. fall_if (is_queued t.meaning.operation) p.sact slot k h;
      none_stays_taken_while_cr_is_clear = λ quiet. true-false can.works.working.cr_is_set quiet;
      cr_fall_drops_taken_commands = λ ran quiet. true-false ran quiet;
      slots_stay_free = slot_keeps p slot None (λ _ _. refl);
    })
    (flagged p flag _ (same_controls (record p { is = changed p.is flag true })))
    refl d.memory _
step_keeps (Fault port slot error kept_bits t) d can =
    keeps_recorded d port _ (still _ _ (same_engine (d.port port))) (flagged (d.port port) 30 _ (same_controls (record (d.port port) { is = changed (d.port port).is 30 true }))) refl d.memory _
step_keeps (Fatal port place) d can =
    keeps_recorded d port _ (still _ _ (same_engine (d.port port))) (flagged (d.port port) place _ (same_controls (record (d.port port) { is = changed (d.port port).is place true }))) refl d.memory _
step_keeps (Fall port) d can =
    keeps_quiet d port _
    (record {
      bases_are_kept = refl;
      st_stays_clear = λ h. h;
      fre_stays_clear = λ h. h;
      cr_stays_clear = λ _. refl;
      fr_stays_clear = λ h. h;
      ci_stays_clear = λ k h. h;
      sact_stays_clear = λ k h. h;
      none_stays_taken_while_cr_is_clear = λ quiet none slot. refl;
      cr_fall_drops_taken_commands = λ ran quiet slot. refl;
      slots_stay_free = λ slot unset none. refl;
    })
    (record {
      st_is_kept = refl;
      fre_is_kept = refl;
      sctl_det_is_kept = refl;
      ie_is_kept = refl;
      causes_stay_set = λ k h. h;
      ips_is_kept = refl;
      serr_n_stays_set = λ h. h;
      serr_x_stays_set = λ h. h;
      engine_stays_running = λ st ran. true-false st can.0;
    })
    refl
step_keeps (FrFall port) d can =
    keeps_quiet d port _
    (record {
      bases_are_kept = refl;
      st_stays_clear = λ h. h;
      fre_stays_clear = λ h. h;
      cr_stays_clear = λ h. h;
      fr_stays_clear = λ _. refl;
      ci_stays_clear = λ k h. h;
      sact_stays_clear = λ k h. h;
      none_stays_taken_while_cr_is_clear = λ quiet none. none;
      cr_fall_drops_taken_commands = λ ran quiet. true-false ran quiet;
      slots_stay_free = λ slot unset none. none;
    })
    (calm _ _ (same_controls (d.port port)))
    refl
step_keeps (LinkUp port sig n) d can =
    keeps_quiet d port _ (still _ _ (same_engine (d.port port)))
    (record {
      st_is_kept = refl;
      fre_is_kept = refl;
      sctl_det_is_kept = refl;
      ie_is_kept = refl;
      causes_stay_set = λ k h. h;
      ips_is_kept = refl;
      serr_n_stays_set = or_keeps (d.port port).serr_n n;
      serr_x_stays_set = λ _. refl;
      engine_stays_running = λ st ran. ran;
    })
    refl
step_keeps (Unplug port) d can =
    keeps_recorded d port _ (still _ _ (same_engine (d.port port)))
    (record {
      st_is_kept = refl;
      fre_is_kept = refl;
      sctl_det_is_kept = refl;
      ie_is_kept = refl;
      causes_stay_set = λ k h. h;
      ips_is_kept = refl;
      serr_n_stays_set = λ _. refl;
      serr_x_stays_set = λ h. h;
      engine_stays_running = λ st ran. ran;
    })
    refl d.memory _
step_keeps (Plug port disk) d can =
    keeps_recorded d port _ (still _ _ (same_engine (d.port port)))
    (record {
      st_is_kept = refl;
      fre_is_kept = refl;
      sctl_det_is_kept = refl;
      ie_is_kept = refl;
      causes_stay_set = λ k h. h;
      ips_is_kept = refl;
      serr_n_stays_set = λ _. refl;
      serr_x_stays_set = λ _. refl;
      engine_stays_running = λ st ran. ran;
    })
    refl d.memory _
step_keeps ResetEnds d can = record {
  disks_tell_sectors_is_kept = refl;
  memory_size_is_kept = refl;
  cap_is_kept = refl;
  pi_is_kept = refl;
  port_bits_only_fall = λ q. record {
    bases_are_kept = refl;
    st_stays_clear = λ _. refl;
    fre_stays_clear = λ _. refl;
    cr_stays_clear = λ _. refl;
    fr_stays_clear = λ _. refl;
    ci_stays_clear = λ k _. refl;
    sact_stays_clear = λ k _. refl;
    none_stays_taken_while_cr_is_clear = λ quiet none slot. refl;
    cr_fall_drops_taken_commands = λ ran quiet slot. refl;
    slots_stay_free = λ slot unset none. refl;
  };
  notes_are_kept = λ q. refl;
  new_entries = [];
  tape_grows = sym (append-nil d.tape);
  keeps_outside_reset = λ h. true-false can h;
}
step_keeps (Scribble port slot at bytes) d can = record {
  disks_tell_sectors_is_kept = refl;
  memory_size_is_kept = refl;
  cap_is_kept = refl;
  pi_is_kept = refl;
  port_bits_only_fall = λ q. PortBitsOnlyFallFreeSlotsStay-refl (d.port q);
  notes_are_kept = λ q. refl;
  new_entries = [];
  tape_grows = sym (append-nil d.tape);
  keeps_outside_reset = λ h. record { no_reset = h; ae_is_kept = refl; ie_is_kept = refl; controls_are_kept = λ q. KeepsControlsFlagsRise-refl (d.port q) };
}

-- ---- lists of steps

module _ {old mid new : DevicePort} (a : PortBitsOnlyFallFreeSlotsStay old mid) (b : PortBitsOnlyFallFreeSlotsStay mid new) where
  -- CR fell in the first part or in the second
  fell_between : (cr : Bool) → mid.cr ≡ cr → old.cr ≡ true → new.cr ≡ false → (slot : ℕ) → new.taken slot ≡ None
  fell_between true is ran quiet = b.cr_fall_drops_taken_commands is quiet
  fell_between false is ran quiet = b.none_stays_taken_while_cr_is_clear is (a.cr_fall_drops_taken_commands ran is)

  pub PortBitsOnlyFallFreeSlotsStay-trans : PortBitsOnlyFallFreeSlotsStay old new
  PortBitsOnlyFallFreeSlotsStay-trans = record {
    bases_are_kept = b.bases_are_kept ∙ a.bases_are_kept;
    st_stays_clear = λ h. b.st_stays_clear (a.st_stays_clear h);
    fre_stays_clear = λ h. b.fre_stays_clear (a.fre_stays_clear h);
    cr_stays_clear = λ h. b.cr_stays_clear (a.cr_stays_clear h);
    fr_stays_clear = λ h. b.fr_stays_clear (a.fr_stays_clear h);
    ci_stays_clear = λ k h. b.ci_stays_clear k (a.ci_stays_clear k h);
    sact_stays_clear = λ k h. b.sact_stays_clear k (a.sact_stays_clear k h);
    none_stays_taken_while_cr_is_clear = λ quiet none. b.none_stays_taken_while_cr_is_clear (a.cr_stays_clear quiet) (a.none_stays_taken_while_cr_is_clear quiet none);
    cr_fall_drops_taken_commands = λ ran quiet. fell_between mid.cr refl ran quiet;
    slots_stay_free = λ slot unset none. b.slots_stay_free slot (a.ci_stays_clear slot unset) (a.slots_stay_free slot unset none);
  }

pub KeepsControlsFlagsRise-trans : {old mid new : DevicePort} → KeepsControlsFlagsRise old mid → KeepsControlsFlagsRise mid new → KeepsControlsFlagsRise old new
KeepsControlsFlagsRise-trans a b = record {
  st_is_kept = b.st_is_kept ∙ a.st_is_kept;
  fre_is_kept = b.fre_is_kept ∙ a.fre_is_kept;
  sctl_det_is_kept = b.sctl_det_is_kept ∙ a.sctl_det_is_kept;
  ie_is_kept = b.ie_is_kept ∙ a.ie_is_kept;
  causes_stay_set = λ k h. b.causes_stay_set k (a.causes_stay_set k h);
  ips_is_kept = b.ips_is_kept ∙ a.ips_is_kept;
  serr_n_stays_set = λ h. b.serr_n_stays_set (a.serr_n_stays_set h);
  serr_x_stays_set = λ h. b.serr_x_stays_set (a.serr_x_stays_set h);
  engine_stays_running = λ st ran. b.engine_stays_running (a.st_is_kept ∙ st) (a.engine_stays_running st ran);
}

pub KeepsOutsideReset-trans : {old mid new : Device} → KeepsOutsideReset old mid → KeepsOutsideReset mid new → KeepsOutsideReset old new
KeepsOutsideReset-trans a b = record {
  no_reset = b.no_reset;
  ae_is_kept = b.ae_is_kept ∙ a.ae_is_kept;
  ie_is_kept = b.ie_is_kept ∙ a.ie_is_kept;
  controls_are_kept = λ q. KeepsControlsFlagsRise-trans (a.controls_are_kept q) (b.controls_are_kept q);
}

pub Keeps-trans : {old mid new : Device} → KeepsOverSteps old mid → KeepsOverSteps mid new → KeepsOverSteps old new
Keeps-trans {old} {mid} {new} a b = record {
  disks_tell_sectors_is_kept = b.disks_tell_sectors_is_kept ∙ a.disks_tell_sectors_is_kept;
  memory_size_is_kept = b.memory_size_is_kept ∙ a.memory_size_is_kept;
  cap_is_kept = b.cap_is_kept ∙ a.cap_is_kept;
  pi_is_kept = b.pi_is_kept ∙ a.pi_is_kept;
  port_bits_only_fall = λ q. PortBitsOnlyFallFreeSlotsStay-trans (a.port_bits_only_fall q) (b.port_bits_only_fall q);
  notes_are_kept = λ q. b.notes_are_kept q ∙ a.notes_are_kept q;
  new_entries = a.new_entries ++ b.new_entries;
  tape_grows = b.tape_grows ∙ (ap (λ t. t ++ b.new_entries) a.tape_grows ∙ append_assoc old.tape a.new_entries b.new_entries);
  keeps_outside_reset = λ h. let first : KeepsOutsideReset old mid = a.keeps_outside_reset h in KeepsOutsideReset-trans first (b.keeps_outside_reset first.no_reset);
}

leads_keeps : (steps : List DeviceTransition) (old new : Device) → TransitionsLead steps old new → KeepsOverSteps old new
leads_keeps [] old new e = let P : Device → Type 0 = λ d. KeepsOverSteps old d in subst P (sym e) (Keeps-refl old)
leads_keeps (step ∷ steps) old new (can, rest) = Keeps-trans (step_keeps step old can) (leads_keeps steps (device_after step old) new rest)

-- whatever the device does, it keeps this
pub law_step_lists_keep_what_steps_keep : {old new : Device} → Steps old new → KeepsOverSteps old new
law_step_lists_keep_what_steps_keep {old} {new} s = leads_keeps s.steps old new s.lead
