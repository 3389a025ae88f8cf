-- What the accesses of a port's turn in a service are, one by one, and of what kind.
use Rattle.std.proofs.Common.{zero, suc, ℕ, ◌≡◌, ◌≢◌, ◌⊎◌, ◌+◌, ◌≤◌, ◌<◌, ◌++◌, ◌==◌, ap, true, false, List, [], ◌∷◌, length, refl, sym, ◌∙◌, subst, inl, inr, arith, ⊎_elim}
use Rattle.std.specs.List.{All}
use Rattle.std.proofs.lemmas.Bool.{cases_Bool, cases_eq, false≢true}
use Rattle.std.proofs.lemmas.Nat.Bits.{bit_at-zero}
use Rattle.std.proofs.lemmas.List.Elements.{All-append, All-cons, All-nil, All-weaker}
use Rattle.ata_types.specs.declared.Port.{Port}
use Rattle.ata_types.specs.declared.request.Reply.{Reply}
use Rattle.ata_types.specs.declared.memory.TheConstants.{DRIVER_BYTES}
use Rattle.hba_regs.specs.Bits.{bit}
use Rattle.hba_regs.specs.declared.reg.Reg.TheVariants as reg
use Rattle.hba_regs.specs.declared.reg.Reg.TheVariants.{Px}
use Rattle.hba_regs.specs.declared.reg.PortReg.TheVariants.{Is, Cmd, Ssts, Sctl, Sact, Ci}
use Rattle.adapter.specs.Access.{Access, Does, DoesAll}
use Rattle.adapter.specs.Access.Access.{Reading, Writing, Loading, Storing}
use Rattle.adapter.specs.Device.{Device}
use Rattle.adapter.specs.Memory as memory
use Rattle.adapter.specs.Rules.{IsOn}
use Rattle.adapter.specs.Steps.{Steps}
use Rattle.refinement.specs.Fragments.{IsSoleBit, IsDrivenBy, AccessesNoOtherPort}
use Rattle.refinement.specs.PortFacts.{RunsWell, Undisturbed}
use Rattle.command_table.specs.TableStores.{IsHeaderTableOrBlockStore, IsHeaderOrTableStore}
use Rattle.driver_history.specs.Histories.{StoresOrWritesSactOrCi}
use Rattle.ncq.specs.Batches.{IsCommandIssueAccess}
use Rattle.driver_history.specs.AccessTrace.{StaysInDriverFrames, DoesNotWriteCmd, WritesNeitherCmdNorSctl, ReadsMasksBeforeCmdWrite}
use Rattle.server_history.specs.Prerequisites.{PrerequisiteLaws}
use Rattle.server_history.specs.IssuingAndAnswering.{PollsSlots, IsEmptyMask, PollsInTurnWithoutEvent, IsMaskOf, is_used}
use Rattle.slots.specs.SlotUses.{PortSlots, use_at}
use Rattle.server_history.proofs.state.TransferAccesses.{both_read, issuing_serves}
use Rattle.port_control.specs.PortEvents.{TakesEvent}
use Rattle.port_control.specs.ServiceAccesses.{WritesOnlyHbaIsPxIsCiOrSact}
use Rattle.port_control.specs.declared.events.PortEvent.{PortEvent}
use Rattle.port_control.specs.declared.events.PortEvent.TheVariants.{NoEvent}

-- ---- the device's steps

-- as a load of no bytes
pub none_loaded : (old new : Device) → Steps old new → Does (Loading 0 []) old new
unfolding memory.bytes_at
none_loaded old new steps = record { steps = steps; shows = refl }

-- ---- kinds of accesses

-- it serves ports, is of this one, and what it loads or stores is the driver's own
abbrev pub IsTurn : Port → Access → Type 0
IsTurn port access = WritesOnlyHbaIsPxIsCiOrSact access × (StaysInDriverFrames access × AccessesNoOtherPort port access)

-- header and table of a slot lie in the driver's frames
pub table_own : (port slot at : ℕ) (bytes : List ℕ) → port < 4 → slot < 32 → IsHeaderOrTableStore port slot (Storing at bytes) → at + length bytes ≤ DRIVER_BYTES
table_own port slot at bytes low small (inl h) = omega (arith, low, small, h.0, h.1)
table_own port slot at bytes low small (inr h) = omega (arith, low, small, h.0, h.1)

-- and so does a trim's block
stored_own : (port slot at : ℕ) (bytes : List ℕ) → port < 4 → slot < 32 → IsHeaderTableOrBlockStore port slot (Storing at bytes) → at + length bytes ≤ DRIVER_BYTES
stored_own port slot at bytes low small (inl table) = table_own port slot at bytes low small table
stored_own port slot at bytes low small (inr block) = let here = block.1 in let size = block.2 in omega (arith, low, here, size)

pub issuing_is : (port : Port) → port.0 < 4 → (access : Access) → IsCommandIssueAccess port access → StoresOrWritesSactOrCi port access
issuing_is port low (Writing r v) here = here
issuing_is port low (Storing at bytes) (slot, small, is) = stored_own port.0 slot at bytes low small is
issuing_is port low (Reading r v) here = absurd here
issuing_is port low (Loading at bytes) here = absurd here

pub issuing_turns : PrerequisiteLaws → (port : Port) → port.0 < 4 → (access : Access) → IsCommandIssueAccess port access → IsTurn port access
issuing_turns laws port low access here = (issuing_serves port access here, (own access (issuing_is port low access here), laws.batch_access_is_of_port port access here))
  where
    own : (access : Access) → StoresOrWritesSactOrCi port access → StaysInDriverFrames access
    own (Writing r v) on = tt
    own (Storing at bytes) on = on
    own (Reading r v) on = tt
    own (Loading at bytes) on = absurd on

-- what serves ports writes neither PxCMD nor PxSCTL, nor GHC
service_leaves : PrerequisiteLaws → (port : Port) (access : Access) → WritesOnlyHbaIsPxIsCiOrSact access → WritesNeitherCmdNorSctl port access
service_leaves laws port access here = (laws.look_laws.services_spare_other_registers port Cmd (λ e. cc) (λ e. cc) (λ e. cc) access here, laws.look_laws.services_spare_other_registers port Sctl (λ e. cc) (λ e. cc) (λ e. cc) access here)

pub issuing_leaves : PrerequisiteLaws → (port other : Port) (access : Access) → IsCommandIssueAccess port access → WritesNeitherCmdNorSctl other access
issuing_leaves laws port other access here = service_leaves laws other access (issuing_serves port access here)

pub turn_leaves : PrerequisiteLaws → (port other : Port) (access : Access) → IsTurn port access → WritesNeitherCmdNorSctl other access
turn_leaves laws port other access here = service_leaves laws other access here.0

-- ---- a port's turn

-- some slot is used
abbrev pub IsBusy : PortSlots → Type 0
IsBusy slots = (slot : ℕ) × (slot < 32) × (is_used (use_at slots slot) ≡ true)

pub bit_zero : (k : ℕ) → bit 0 k ≡ false
bit_zero k = ap (λ (n : ℕ). n == 1) (bit_at-zero k)

-- so the mask has its bit
unmasked : (slots : PortSlots) (mask : ℕ) → IsMaskOf slots mask → IsEmptyMask mask → IsBusy slots → ⊥
unmasked slots mask its none busy = false≢true (sym (none busy.0 busy.1) ∙ its busy.0 busy.1 ∙ busy.2)

-- a mask has a bit of these, or it has none
pub none_or_some : (n mask : ℕ) → ((slot : ℕ) → slot < n → bit mask slot ≡ false) ⊎ ((slot : ℕ) × (slot < n) × (bit mask slot ≡ true))
none_or_some zero mask = inl (λ slot small. absurd (omega (arith, small)))
none_or_some (suc n) mask = ⊎_elim
    (λ (none : (slot : ℕ) → slot < n → bit mask slot ≡ false). ⊎_elim
    (λ (here : bit mask n ≡ true). inr (n, omega arith, here))
    (λ (clear : bit mask n ≡ false). inl (λ slot small. ⊎_elim
    (λ (same : slot ≡ n). ap (bit mask) same ∙ clear)
    (λ (other : slot ≢ n). none slot (omega (arith, small, other)))
    (cases_eq slot n)))
    (cases_Bool (bit mask n)))
    (λ (some : (slot : ℕ) × (slot < n) × (bit mask slot ≡ true)). let small = some.1 in inr (some.0, omega (arith, small), some.2))
    (none_or_some n mask)

module _ (port : Port) where
  -- a look, access by access
  abbrev pub look_list : (causes own status : ℕ) → List Access
  look_list causes own status =
      Reading (Px port Is) causes ∷ Writing (Px port Is) causes ∷ Writing reg.Is own ∷ Reading (Px port Ssts) status ∷ []

  pub look_turns : (causes own status : ℕ) → IsSoleBit port.0 own → All (IsTurn port) (look_list causes own status)
  look_turns causes own status alone =
      All-cons (IsTurn port) (Reading (Px port Is) causes) (Writing (Px port Is) causes ∷ Writing reg.Is own ∷ Reading (Px port Ssts) status ∷ []) (tt, (tt, refl))
      (All-cons (IsTurn port) (Writing (Px port Is) causes) (Writing reg.Is own ∷ Reading (Px port Ssts) status ∷ []) (inr (port, inl refl), (tt, refl))
      (All-cons (IsTurn port) (Writing reg.Is own) (Reading (Px port Ssts) status ∷ []) (inl refl, (tt, alone))
      (All-cons (IsTurn port) (Reading (Px port Ssts) status) [] (tt, (tt, refl)) (All-nil (IsTurn port)))))

  pub look_does : (look : PortEvent) (old new : Device) → (l : TakesEvent port look old new) → DoesAll (look_list l.causes l.port_mask l.status) old new
  look_does look old new l = (l.after_is_read, l.reads, (l.cleared, l.clears, (l.acknowledged, l.acknowledges, (new, l.reads_status, refl))))

  -- The accesses of a turn. Where the port goes well, the look tells nothing; and where slots were checked, they read the masks.
  pub record TurnList (slots : PortSlots) (replies : List Reply) (old new : Device) (t : PollsInTurnWithoutEvent port slots replies old new) : Type 0 where
    pub driven : IsDrivenBy (IsTurn port) old new
    pub of : All (AccessesNoOtherPort port) driven.accesses
    pub own : All StaysInDriverFrames driven.accesses
    pub leaves : All (WritesNeitherCmdNorSctl port) driven.accesses
    pub no_disturbance : IsOn old → RunsWell (old.port port.0) → Undisturbed port.0 old new → t.look ≡ NoEvent
    pub masks : t.look ≡ NoEvent → IsBusy slots → (mask : ℕ) × IsMaskOf slots mask × ((c : PollsSlots port slots mask replies t.device_after_look new) × ReadsMasksBeforeCmdWrite port c.reads.issued c.reads.active driven.accesses)

  module _ (laws : PrerequisiteLaws) (low : port.0 < 4) (slots : PortSlots) (replies : List Reply) (old new : Device) (t : PollsInTurnWithoutEvent port slots replies old new) where
    of_all : (driven : IsDrivenBy (IsTurn port) old new) → All (AccessesNoOtherPort port) driven.accesses
    of_all driven = All-weaker (IsTurn port) (AccessesNoOtherPort port) (λ access is. is.1.1) driven.accesses driven.accesses_are_of_kind

    own_all : (driven : IsDrivenBy (IsTurn port) old new) → All StaysInDriverFrames driven.accesses
    own_all driven = All-weaker (IsTurn port) StaysInDriverFrames (λ access is. is.1.0) driven.accesses driven.accesses_are_of_kind

    leaves_all : (driven : IsDrivenBy (IsTurn port) old new) → All (WritesNeitherCmdNorSctl port) driven.accesses
    leaves_all driven = All-weaker (IsTurn port) (WritesNeitherCmdNorSctl port) (turn_leaves laws port port) driven.accesses driven.accesses_are_of_kind

    -- it was looked at, and that was all
    looked : (replies ≡ []) × (new ≡ t.device_after_look) → (t.look ≡ NoEvent → IsBusy slots → ⊥) → TurnList slots replies old new t
    looked stop never = record {
      driven = driven;
      of = of_all driven;
      own = own_all driven;
      leaves = leaves_all driven;
      no_disturbance = λ on well undisturbed. (laws.look_laws.undisturbed_well_port_shows_no_event port t.look old t.device_after_look on t.takes_event well (subst (Undisturbed port.0 old) stop.1 undisturbed)).0;
      masks = λ is busy. absurd (never is busy);
    }
      where
        driven : IsDrivenBy (IsTurn port) old new
        driven = subst (IsDrivenBy (IsTurn port) old) (sym stop.1) (record {
          accesses = look_list t.takes_event.causes t.takes_event.port_mask t.takes_event.status;
          all_are_done = look_does t.look old t.device_after_look t.takes_event;
          accesses_are_of_kind = look_turns t.takes_event.causes t.takes_event.port_mask t.takes_event.status t.takes_event.is_sole_bit;
        })

    module _ (some : IsEmptyMask t.polls_used_slots.mask → ⊥) where
      abbrev c : PollsSlots port slots t.polls_used_slots.mask replies t.device_after_look new
      c = t.polls_used_slots.polls_slots some

      -- the accesses that come after the masks
      more : IsDrivenBy (IsTurn port) c.device_after_read new
      more = record { accesses = c.only_issuing_follows.accesses; all_are_done = c.only_issuing_follows.all_are_done; accesses_are_of_kind = λ i e small. issuing_turns laws port low _ (c.only_issuing_follows.accesses_are_of_kind i e small) }

      abbrev early : List Access
      early = look_list t.takes_event.causes t.takes_event.port_mask t.takes_event.status

      abbrev late : List Access
      late = Reading (Px port Ci) c.reads.issued ∷ Reading (Px port Sact) c.reads.active ∷ more.accesses

      leaves : All (DoesNotWriteCmd port) early
      leaves i e small = (turn_leaves laws port port _ (look_turns t.takes_event.causes t.takes_event.port_mask t.takes_event.status t.takes_event.is_sole_bit i e small)).0

      checked_driven : IsDrivenBy (IsTurn port) old new
      checked_driven = record {
        accesses = early ++ late;
        all_are_done = laws.steps_and_accesses.does_append early late old t.device_after_look new (look_does t.look old t.device_after_look t.takes_event) (let r = both_read port t.polls_used_slots.mask c.done t.device_after_look c.device_after_read c.reads in (r.0, r.1, (c.device_after_read, r.2, more.all_are_done)));
        accesses_are_of_kind = All-append (IsTurn port) early late (look_turns t.takes_event.causes t.takes_event.port_mask t.takes_event.status t.takes_event.is_sole_bit)
            (All-cons (IsTurn port) (Reading (Px port Ci) c.reads.issued) (Reading (Px port Sact) c.reads.active ∷ more.accesses) (tt, (tt, refl))
            (All-cons (IsTurn port) (Reading (Px port Sact) c.reads.active) more.accesses (tt, (tt, refl)) more.accesses_are_of_kind));
      }

      masks_there : ReadsMasksBeforeCmdWrite port c.reads.issued c.reads.active checked_driven.accesses
      unfolding checked_driven
      masks_there = record { before = early; later = more.accesses; accesses_are_split = refl; cmd_is_unwritten_before = leaves }

    with_masks : (IsEmptyMask t.polls_used_slots.mask → ⊥) → TurnList slots replies old new t
    with_masks some = record {
      driven = checked_driven some;
      of = of_all (checked_driven some);
      own = own_all (checked_driven some);
      leaves = leaves_all (checked_driven some);
      no_disturbance = λ _ _ _. t.look_is_no_event;
      masks = λ _ _. (t.polls_used_slots.mask, t.polls_used_slots.is_mask_of, (c some, masks_there some));
    }

    pub turn_list : TurnList slots replies old new t
    turn_list =
        ⊎_elim
        (λ (none : IsEmptyMask t.polls_used_slots.mask). looked (t.polls_used_slots.none_used_reads_nothing none) (λ _ busy. unmasked slots t.polls_used_slots.mask t.polls_used_slots.is_mask_of none busy))
        (λ some. with_masks (λ none. false≢true (sym (none some.0 some.1) ∙ some.2)))
        (none_or_some 32 t.polls_used_slots.mask)
