-- Trouble of a port is shown from when it comes until its bits are cleared: faults by TFES of PxIS, fatal errors by its IFS, HBDS and HBFS, and disks that go or come by N of PxSERR.
-- So is a change of the link that X of PxSERR tells of.
use Rattle.std.proofs.Common.{ℕ, ◌≡◌, ◌≤◌, ◌⊎◌, ◌++◌, Bool, true, false, List, sym, ap, ◌∙◌, subst, inl, inr, ⊎_elim, append_assoc}
use Rattle.std.specs.List.{All, Contains}
use Rattle.std.proofs.lemmas.Bool.{cases_Bool, false≢true}
use Rattle.std.proofs.lemmas.List.{append-nil, append_cancel_left}
use Rattle.std.proofs.lemmas.List.Elements.{All-contains, All-nil, Contains-append_cases}
use Rattle.ata_types.specs.declared.Port.{Port}
use Rattle.hba_regs.specs.declared.reg.Reg.TheVariants.{Px}
use Rattle.hba_regs.specs.declared.reg.PortReg.{PortReg}
use Rattle.hba_regs.specs.declared.reg.PortReg.TheVariants.{Is, Serr}
use Rattle.adapter.specs.Access.{Access, Does}
use Rattle.adapter.specs.Device.{Device, DevicePort}
use Rattle.adapter.specs.Steps.{Steps}
use Rattle.adapter.specs.declared.tape.Entry.{Entry}
use Rattle.refinement.specs.Fragments.{TapeGrows}
use Rattle.refinement.specs.Errors.{IsFatalEntryOf, NoFaults, NoFatalErrors}
use Rattle.refinement.specs.PortFacts.{IsFaultOf}
use Rattle.refinement.specs.PreservedParts.{IsPlugEvent, NoPlugEvents, DoesNotWrite}
use Rattle.error_recovery.specs.Evidence.{ShowsFatal}
use Rattle.driver_history.specs.Evidence.{TapeGainsEntry, ShowsLinkChange, ShowsFailure}
use Rattle.driver_history.specs.Laws.{AccessLaws}

-- ---- what the tape gained

-- what the tape gained none of, it gained none of
pub denies : (Such : Entry → Type 0) (old new : Device) (gained : List Entry) → new.tape ≡ old.tape ++ gained → All (λ e. Such e → ⊥) gained → TapeGainsEntry Such old new → ⊥
denies Such old new gained tape none g =
    let same : g.new_entries ≡ gained = append_cancel_left old.tape g.new_entries gained (sym g.tape_is ∙ tape) in
    All-contains (λ e. Such e → ⊥) gained g.entry none (subst (λ (xs : List Entry). Contains xs g.entry) same g.entry_is_new) g.entry_is_of_kind

-- what it gained, it gained in the one part or in the other
pub in_parts : (Such : Entry → Type 0) (old mid new : Device) → TapeGrows old mid → TapeGrows mid new → TapeGainsEntry Such old new → TapeGainsEntry Such old mid ⊎ TapeGainsEntry Such mid new
in_parts Such old mid new early late g =
    let tape : new.tape ≡ old.tape ++ (early.0 ++ late.0) = late.1 ∙ ap (λ (tape : List Entry). tape ++ late.0) early.1 ∙ append_assoc old.tape early.0 late.0 in
    let same : g.new_entries ≡ early.0 ++ late.0 = append_cancel_left old.tape g.new_entries (early.0 ++ late.0) (sym g.tape_is ∙ tape) in
    ⊎_elim
    (λ here. inl (record { new_entries = early.0; tape_is = early.1; entry = g.entry; entry_is_new = here; entry_is_of_kind = g.entry_is_of_kind }))
    (λ here. inr (record { new_entries = late.0; tape_is = late.1; entry = g.entry; entry_is_new = here; entry_is_of_kind = g.entry_is_of_kind }))
    (Contains-append_cases early.0 late.0 g.entry (subst (λ (xs : List Entry). Contains xs g.entry) same g.entry_is_new))

-- ---- the kinds

-- errors, disks that go or come, and a link that was told to have changed, of which the tape has no entry of its own
pub data TroubleKind : Type 0 where
  faults fatals disks links : TroubleKind

-- the port shows one
abbrev pub Shows : TroubleKind → DevicePort → Type 0
Shows faults p = p.is 30 ≡ true
Shows fatals p = ShowsFatal p
Shows disks p = p.serr_n ≡ true
Shows links p = p.serr_x ≡ true

-- the entry is one of the port
abbrev pub IsOne : TroubleKind → ℕ → Entry → Type 0
IsOne faults port = IsFaultOf port
IsOne fatals port = IsFatalEntryOf port
IsOne disks port = IsPlugEvent port
IsOne links port = λ e. ⊥

-- the register with its bits
abbrev pub register_of : TroubleKind → PortReg
register_of faults = Is
register_of fatals = Is
register_of disks = Serr
register_of links = Serr

-- the port shows a failure; or a change, where the kind is one of those
abbrev pub Tells : TroubleKind → DevicePort → Type 0
Tells faults p = ShowsFailure p
Tells fatals p = ShowsFailure p
Tells disks p = ShowsLinkChange p
Tells links p = ShowsLinkChange p

-- where one is shown, that is
pub told : (kind : TroubleKind) (p : DevicePort) → Shows kind p → Tells kind p
told faults p set = inr set
told fatals p shown = inl shown
told disks p set = inl set
told links p set = inr set

-- which is trouble
pub is_trouble : (kind : TroubleKind) (p : DevicePort) → Tells kind p → ShowsFailure p ⊎ ShowsLinkChange p
is_trouble faults p tells = inl tells
is_trouble fatals p tells = inl tells
is_trouble disks p tells = inr tells
is_trouble links p tells = inr tells

-- ---- stretches that clear none

-- What was shown is shown still, and what came is shown.
pub record AreShown (kind : TroubleKind) (port : ℕ) (old new : Device) : Type 0 where
  pub still : Shows kind (old.port port) → Shows kind (new.port port)
  pub came : TapeGainsEntry (IsOne kind port) old new → Shows kind (new.port port)

pub shown_none : (kind : TroubleKind) (port : ℕ) (d : Device) → AreShown kind port d d
shown_none kind port d = record { still = λ shown. shown; came = λ g. absurd (denies (IsOne kind port) d d _ (sym (append-nil d.tape)) (All-nil (λ e. IsOne kind port e → ⊥)) g) }

pub shown_more : (kind : TroubleKind) (port : ℕ) (old mid new : Device) → TapeGrows old mid → TapeGrows mid new → AreShown kind port old mid → AreShown kind port mid new → AreShown kind port old new
shown_more kind port old mid new first last early late = record {
  still = λ shown. late.still (early.still shown);
  came = λ g. ⊎_elim (λ before. late.still (early.came before)) late.came (in_parts (IsOne kind port) old mid new first last g);
}

-- a failure that was shown is shown still
pub failure_still : (port : ℕ) (old new : Device) → ((kind : TroubleKind) → AreShown kind port old new) → ShowsFailure (old.port port) → ShowsFailure (new.port port)
failure_still port old new shown f = ⊎_elim (λ fatal. inl ((shown fatals).still fatal)) (λ fault. inr ((shown faults).still fault)) f

-- and so is a change
pub change_still : (port : ℕ) (old new : Device) → ((kind : TroubleKind) → AreShown kind port old new) → ShowsLinkChange (old.port port) → ShowsLinkChange (new.port port)
change_still port old new shown c = ⊎_elim (λ n. inl ((shown disks).still n)) (λ x. inr ((shown links).still x)) c

pub tells_still : (kind : TroubleKind) (port : ℕ) (old new : Device) → ((kind : TroubleKind) → AreShown kind port old new) → Tells kind (old.port port) → Tells kind (new.port port)
tells_still faults port old new shown f = failure_still port old new shown f
tells_still fatals port old new shown f = failure_still port old new shown f
tells_still disks port old new shown c = change_still port old new shown c
tells_still links port old new shown c = change_still port old new shown c

-- where a bit that is clear was, and tells that none came, those that came are shown
pub by_bit : (Such : Entry → Type 0) (old new : Device) (was is : Bool) → (is ≡ false → (was ≡ false) × ((gained : List Entry) × (new.tape ≡ old.tape ++ gained) × All (λ e. Such e → ⊥) gained))
    → (was ≡ true → is ≡ true) × (TapeGainsEntry Such old new → is ≡ true)
by_bit Such old new was is tells = (
  (λ set. unless (λ clear. false≢true (sym (tells clear).0 ∙ set))),
  (λ g. unless (λ clear. let none = (tells clear).1 in denies Such old new none.0 none.1 none.2 g)),
)
  where
    unless : (is ≡ false → ⊥) → is ≡ true
    unless not = ⊎_elim (λ set. set) (λ clear. absurd (not clear)) (cases_Bool is)

module _ (laws : AccessLaws) where
  -- what isn't shown wasn't, and hasn't come
  of_faults : (port : ℕ) (old new : Device) → ((new.port port).is 30 ≡ false → ((old.port port).is 30 ≡ false) × NoFaults port old new) → AreShown faults port old new
  of_faults port old new tells =
      let b = by_bit (IsFaultOf port) old new ((old.port port).is 30) ((new.port port).is 30) (λ clear. let t = tells clear in (t.0, (t.1.new_entries, t.1.tape_is, t.1.no_such_entry))) in
      record { still = b.0; came = b.1 }

  of_disks : (port : ℕ) (old new : Device) → ((new.port port).serr_n ≡ false → ((old.port port).serr_n ≡ false) × NoPlugEvents port old new) → AreShown disks port old new
  of_disks port old new tells =
      let b = by_bit (IsPlugEvent port) old new (old.port port).serr_n (new.port port).serr_n (λ clear. let t = tells clear in (t.0, (t.1.new_entries, t.1.tape_is, t.1.no_such_entry))) in
      record { still = b.0; came = b.1 }

  pub of_links : (port : ℕ) (old new : Device) → ((old.port port).serr_x ≡ true → (new.port port).serr_x ≡ true) → AreShown links port old new
  of_links port old new keeps = record { still = keeps; came = λ g. absurd g.entry_is_of_kind }

  of_fatals : (port : ℕ) (old new : Device)
      → (((place : ℕ) → 27 ≤ place → place ≤ 29 → (new.port port).is place ≡ false) → ((place : ℕ) → 27 ≤ place → place ≤ 29 → (old.port port).is place ≡ false) × NoFatalErrors port old new)
      → AreShown fatals port old new
  of_fatals port old new tells = record {
    still = λ shown. laws.shows_fatal_unless_clear (new.port port) (λ clear. false≢true (sym ((tells clear).0 shown.place shown.from shown.to) ∙ shown.cause_is_set));
    came = λ g. laws.shows_fatal_unless_clear (new.port port) (λ clear. let none = (tells clear).1 in denies (IsFatalEntryOf port) old new none.new_entries none.tape_is none.no_such_entry g);
  }

  -- the device's own steps clear none
  pub steps_show : (kind : TroubleKind) (port : ℕ) (old new : Device) → old.hr ≡ false → Steps old new → AreShown kind port old new
  steps_show faults port old new on steps = of_faults port old new (laws.steps_end_tfes_clear_no_fault port old new on steps)
  steps_show fatals port old new on steps = of_fatals port old new (laws.steps_end_fatal_clear_no_fatal port old new on steps)
  steps_show disks port old new on steps = of_disks port old new (laws.steps_end_n_clear_no_plug_event port old new on steps)
  steps_show links port old new on steps = of_links port old new (laws.steps_keep_errors port old new on steps).serr_x_is_kept

  -- nor does an access that doesn't write their register
  pub access_shows : (kind : TroubleKind) (port : Port) (access : Access) (old new : Device) → old.hr ≡ false → DoesNotWrite (Px port (register_of kind)) access → Does access old new → AreShown kind port.0 old new
  access_shows faults port access old new on spares does = of_faults port.0 old new (laws.access_ends_tfes_clear_no_fault port access old new on spares does)
  access_shows fatals port access old new on spares does = of_fatals port.0 old new (laws.access_ends_fatal_clear_no_fatal port access old new on spares does)
  access_shows disks port access old new on spares does = of_disks port.0 old new (laws.access_ends_n_clear_no_plugs port access old new on spares does)
  access_shows links port access old new on spares does = of_links port.0 old new (laws.access_but_serr_write_keeps_set_n_and_x port access old new on spares does).1
