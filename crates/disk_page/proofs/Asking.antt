-- A driver's own command is issued, waited for, and its page loaded.
use Rattle.std.proofs.Common.{ℕ, ◌≡◌, ◌≢◌, ◌==◌, ◌+◌, ◌<◌, ◌≤◌, ◌++◌, Bool, true, false, List, [], ◌∷◌, length, None, inl, inr, refl, sym, ◌∙◌, ap, subst, arith, lit<, le_trans, append_assoc, append-nil, if◌then◌else◌, nat_eq}
use Rattle.std.proofs.lemmas.Bool.{true≢false}
use Rattle.std.proofs.lemmas.List.{length-append}
use Rattle.ata_types.specs.declared.Port.{Port}
use Rattle.ata_types.specs.declared.memory.TheConstants.{DRIVER_BYTES}
use Rattle.ata_types.specs.declared.limits.TheConstants.{MOST_READINGS}
use Rattle.hba_regs.specs.Bits.{bit}
use Rattle.hba_regs.specs.declared.reg.Reg.{Reg}
use Rattle.hba_regs.specs.declared.reg.Reg.TheVariants.{Ghc, Px}
use Rattle.hba_regs.specs.declared.reg.PortReg.TheVariants.{Ci, Sact}
use Rattle.adapter.specs.Access.{Access, Does, Reads, Writes, Loads, capped_count_after_reading}
use Rattle.adapter.specs.Access.Access.{Reading, Writing, Loading, Storing}
use Rattle.adapter.specs.Commands.{IsValidMeaning, Meaning, command_of, moves_disk_sectors, transfer_sector_count}
use Rattle.adapter.specs.Device.{Bases, Notes, DevicePort, Device}
use Rattle.adapter.specs.Device.Halt.{NotHalted}
use Rattle.adapter.specs.KeptBySteps.{KeepsOverSteps, KeepsControlsFlagsRise, PortBitsOnlyFallFreeSlotsStay}
use Rattle.adapter.specs.Rules.{IsOn, HasPort, IsInMemoryNotOwnedByDevice, IsStable, MayWrite}
use Rattle.adapter.specs.declared.command.Command.{Command}
use Rattle.adapter.specs.declared.command.Operation.{Operation}
use Rattle.adapter.specs.declared.command.Prd.{Prd}
use Rattle.adapter.specs.RegisterEffects.{PortRegisterRead, PortRegisterWritten}
use Rattle.adapter.specs.declared.tape.Entry.{Entry}
use Rattle.refinement.specs.Fragments.{SomeMachineAgrees, IsDrivenBy, IsSimulated, IsSimulatedChangingUses, AccessesNoOtherPort, IsSimulatedAlong, IsSimulatedAlongChangingUses, AnySlotStates, NoneWrites, AnyAccess, GainsNoMove}
use Rattle.refinement.specs.Driver.{IsOwnCommandPreparedInSlot0}
use Rattle.refinement.specs.PortFacts.{IsSlotClear}
use Rattle.refinement.specs.MemoryLayout.{command_list_address, scratch_frame_address}
use Rattle.adapter.specs.OneCommand.{SlotHasNoCommand}
use Rattle.refinement.specs.Slots.{Free, Own, SlotStates, set_slot_state as used, SlotDecodesTo, client_operation_of, PageCameSinceAndStandsInScratch}
use Rattle.command_table.specs.TableStores.{IsTableFor, IsHeaderOrTableStore, IsSlotStateFree}
use Rattle.disk_page.specs.PageRequests.{page_operation, AreSlot0IssuedReadings, PortMayAskForPage, IsPxciOrSlot0PageMemoryAccess, BringsLastPage, ShowsSlot0Issued, WaitsForSlot0InVain}
use Rattle.disk_page.specs.PageWaits.{IsPageAwaitedOrReceived}
use Rattle.disk_page.specs.declared.Page.{Page}
use Rattle.disk_page.specs.declared.Page.TheVariants.{Identity, ErrorLog}
use Rattle.disk_page.specs.Laws.{Laws}
use Rattle.std.proofs.lemmas.List.Elements.{All-nil, All-cons, All-append, All-weaker}
use Rattle.disk_page.specs.Laws.AccessPurpose.{Asking, AwaitingWithAnySlots, StoringTable as Stored}
use Rattle.refinement.specs.PreservedParts.{SameAdapter}
use Rattle.std.proofs.lemmas.Nat.Bits.{bit_at_ones_above}

-- The adapter is what it was, the port's controls and its slots are as the device leaves them, and the tape has only gained.
pub record Leaves (port : ℕ) (old new : Device) : Type 0 where
  pub same : SameAdapter old new
  pub keeps : PortBitsOnlyFallFreeSlotsStay (old.port port) (new.port port)
  pub controls : KeepsControlsFlagsRise (old.port port) (new.port port)
  pub set_at : (new.port port).notes.st_set_at ≡ (old.port port).notes.st_set_at
  pub later : length old.tape ≤ length new.tape

abbrev pub meaning_of : Page → Meaning
meaning_of page = record { operation = page_operation page; first = 0; count = 0 }

-- so many readings of PxCI showed bit 0
pub record IsPending (port : Port) (start : Device) (n : ℕ) (d : Device) : Type 0 where
  pub on : IsOn d
  pub there : HasPort d port.0
  pub det : (d.port port.0).sctl_det ≡ 0
  pub told : IsSimulatedAlong (AreSlot0IssuedReadings port n) (IsPxciOrSlot0PageMemoryAccess port) AnySlotStates start d
  pub waiting : (o : Operation) (since : ℕ) (uses : SlotStates) (begun : Device) → IsPageAwaitedOrReceived port o since uses begun start → IsPageAwaitedOrReceived port o since uses begun d
  pub low : n ≤ (d.port port.0).notes.slot0_issued_count
  pub high : 0 < n → (d.port port.0).notes.slot0_issued_count ≤ MOST_READINGS

-- and one without it
pub record IsFoundOver (port : Port) (start d : Device) : Type 0 where
  pub on : IsOn d
  pub followed : IsSimulated (IsPxciOrSlot0PageMemoryAccess port) AnySlotStates start d
  pub waiting : (o : Operation) (since : ℕ) (uses : SlotStates) (begun : Device) → IsPageAwaitedOrReceived port o since uses begun start → IsPageAwaitedOrReceived port o since uses begun d
  pub over : (o : Operation) (since : ℕ) (uses : SlotStates) (begun : Device) → IsPageAwaitedOrReceived port o since uses begun start → IsSlotClear (d.port port.0) 0

abbrev next : Port → Port
next port = record { 0 = port.0 + 1 }

pub grown : (old new more : List Entry) → new ≡ old ++ more → length old ≤ length new
grown old new more is = let n = ap length is ∙ length-append old more in omega (arith, n)

-- the bits of one but the lowest are clear
pub bit_one_other : (k : ℕ) → k ≢ 0 → bit 1 k ≡ false
bit_one_other k other = ap (λ (n : ℕ). n == 1) (bit_at_ones_above 1 k (omega (arith, other)))

-- none is of a register of another port
pub asking_is_of : (port : Port) (access : Access) → IsPxciOrSlot0PageMemoryAccess port access → AccessesNoOtherPort port access
asking_is_of port (Reading r v) is = subst (λ (q : Reg). AccessesNoOtherPort port (Reading q v)) (sym is) refl
asking_is_of port (Writing r v) is = subst (λ (q : Reg). AccessesNoOtherPort port (Writing q v)) (sym is.0) refl
asking_is_of port (Loading at bytes) is = tt
asking_is_of port (Storing at bytes) is = tt

own : (page : Page) → client_operation_of (page_operation page) ≡ None
own Identity = refl
own ErrorLog = refl

pub unranged : (page : Page) → moves_disk_sectors (page_operation page) ≡ false
unranged Identity = refl
unranged ErrorLog = refl

pub one_piece : (page : Page) → transfer_sector_count (page_operation page) 0 ≡ 1
one_piece Identity = refl
one_piece ErrorLog = refl

pub may_after : (port : ℕ) (old new : Device) → Leaves port old new → PortMayAskForPage port old → PortMayAskForPage port new
may_after port old new l may =
    let controls = l.controls in
    let keeps = l.keeps in
    record {
      st_is_set = controls.st_is_kept ∙ may.st_is_set;
      list_is_in_place = ap (λ (b : Bases). b.clb) keeps.bases_are_kept ∙ may.list_is_in_place;
      no_comreset = controls.sctl_det_is_kept ∙ may.no_comreset;
      st_set_in_tape = let same = l.set_at in let later = l.later in let known = may.st_set_in_tape in omega (arith, same, later, known);
    }

-- the meaning of the page's command is one that a command may have
page_means : (page : Page) → IsValidMeaning (meaning_of page)
page_means page = record { sectors_fit_if_it_moves_some = λ moves_sectors. absurd (true≢false (sym moves_sectors ∙ (unranged page))); sectors_are_zero_if_it_moves_none = λ _. (refl, refl) }

-- header and table say the page's command
pub page_is_told : (page : Page) (command : Command) (prd : Prd) (port : ℕ) (memory : ℕ → ℕ) → command ≡ command_of (page_operation page) 0 0 0 →
    ((slot : ℕ) (command : Command) (m : Meaning) → IsValidMeaning m → command ≡ command_of m.operation slot m.first m.count → transfer_sector_count m.operation m.count ≡ 1 → IsTableFor slot command (prd ∷ []) m (scratch_frame_address port ∷ [])) →
    ((m : Meaning) (places : List ℕ) → IsTableFor 0 command (prd ∷ []) m places → SlotDecodesTo memory (command_list_address port) port 0 m places) →
    SlotDecodesTo memory (command_list_address port) port 0 (meaning_of page) (scratch_frame_address port ∷ [])
page_is_told page command prd port memory is one says = says (meaning_of page) (scratch_frame_address port ∷ []) (one 0 command (meaning_of page) (page_means page) is (one_piece page))

-- one more reading that shows the command
vain_more : (port : Port) (n v : ℕ) (early late : List Access) → AreSlot0IssuedReadings port n early → late ≡ Reading (Px port Ci) v ∷ [] → bit v 0 ≡ true → AreSlot0IssuedReadings port (n + 1) (early ++ late)
vain_more port n v early late (number, all) is set =
    let P : List Access → Type 0 = λ last. AreSlot0IssuedReadings port (n + 1) (early ++ last) in
    let both = length-append early (Reading (Px port Ci) v ∷ []) in
    subst P (sym is) (
      omega (arith, both, number),
      All-append (ShowsSlot0Issued port) early (Reading (Px port Ci) v ∷ []) all (All-cons (ShowsSlot0Issued port) (Reading (Px port Ci) v) [] (refl, set) (All-nil (ShowsSlot0Issued port))),
    )

-- what is told of a wait, is told of more
pub vain_then : (port : Port) (early late : List Access) → WaitsForSlot0InVain port early → WaitsForSlot0InVain port (early ++ late)
vain_then port early late w = record {
  before = w.before;
  waits = w.waits;
  later = w.later ++ late;
  accesses_are = ap (λ (made : List Access). made ++ late) w.accesses_are
      ∙ (append_assoc w.before (w.waits ++ w.later) late ∙ ap (λ (made : List Access). w.before ++ made) (append_assoc w.waits w.later late));
  waits_are_vain = w.waits_are_vain;
}

pub vain_since : (port : Port) (early late : List Access) → WaitsForSlot0InVain port late → WaitsForSlot0InVain port (early ++ late)
vain_since port early late w = record {
  before = early ++ w.before;
  waits = w.waits;
  later = w.later;
  accesses_are = ap (λ (made : List Access). early ++ made) w.accesses_are ∙ sym (append_assoc early w.before (w.waits ++ w.later));
  waits_are_vain = w.waits_are_vain;
}

module _ (laws : Laws) where
  -- stores are accesses of any port, so of the next one
  stores_of : (port : Port) (old new : Device) → IsDrivenBy (IsHeaderOrTableStore port.0 0) old new → IsDrivenBy (AccessesNoOtherPort (next port)) old new
  stores_of port old new a = record {
    accesses = a.accesses;
    all_are_done = a.all_are_done;
    accesses_are_of_kind = All-weaker (IsHeaderOrTableStore port.0 0) (AccessesNoOtherPort (next port)) (laws.stores_spare_other_ports (next port) port.0 0) a.accesses a.accesses_are_of_kind;
  }

  any : (May : Access → Type 0) (old new : Device) → IsDrivenBy May old new → IsDrivenBy AnyAccess old new
  any May old new a = record { accesses = a.accesses; all_are_done = a.all_are_done; accesses_are_of_kind = All-weaker May AnyAccess (λ access is. tt) a.accesses a.accesses_are_of_kind }

  tables_leave : (port : Port) (old new : Device) → IsOn old → IsDrivenBy (IsHeaderOrTableStore port.0 0) old new → Leaves port.0 old new
  tables_leave port old new on a =
      let l = laws.other_ports_are_left (next port) port.0 old new (λ (e : port.0 ≡ port.0 + 1). omega (arith, e)) on (stores_of port old new a) in
      let g = laws.accesses_extend_tape old new (any (IsHeaderOrTableStore port.0 0) old new a) in
      record {
        same = laws.accesses_keep_adapter old new (any (IsHeaderOrTableStore port.0 0) old new a);
        keeps = l.bits_only_fall;
        controls = l.controls;
        set_at = ap (λ (n : Notes). n.st_set_at) l.notes;
        later = grown old.tape new.tape g.0 g.1;
      }

  -- a reading
  pub reading_leaves : (port : Port) (v : ℕ) (old new : Device) → IsOn old → Reads (Px port Ci) v old new → Leaves port.0 old new
  reading_leaves port v old new on x =
      let s : PortRegisterRead port.0 Ci v old new = laws.read_changes_port_register port Ci v old new x on.no_reset in
      let k : KeepsOverSteps old x.at_access = laws.law_step_lists_keep_what_steps_keep _ _ x.steps in
      record {
        same = laws.access_keeps_adapter (Reading (Px port Ci) v) old new x;
        keeps = s.keeps.ports_keep_what_steps_keep port.0;
        controls = s.keeps.keeps_outside_reset.controls_are_kept port.0;
        set_at = ap (λ (n : Notes). n.st_set_at) s.notes;
        later = grown old.tape new.tape k.new_entries (ap (λ (d : Device). d.tape) x.effect ∙ k.tape_grows);
      }

  pub asking_spares_ghc : (port : Port) → NoneWrites (IsPxciOrSlot0PageMemoryAccess port) Ghc
  asking_spares_ghc port access is = laws.accesses_of_port_spare_ghc port access (asking_is_of port access is)

  -- an access brings a page of the command in slot 0 alone
  access_silent : (port : Port) (uses : SlotStates) (other : Operation) (access : Access) (old new : Device) → SomeMachineAgrees uses old → client_operation_of other ≡ None → (uses port.0 0 ≡ Own other → ⊥) → Does access old new →
      GainsNoMove port.0 other old new
  access_silent port uses other access old new a page none x =
      let g = laws.tape.access_grows access old new x in
      (g.0, g.1, laws.unused_slot_moves_no_page uses a.machine access old new port.0 other g.0 a.reached a.driver_relation.state_relation x g.1 page (λ is. absurd (none is)))

  -- slot 0 has another command
  other_own : (port : ℕ) (o other : Operation) (uses : SlotStates) → uses port 0 ≡ Own o → other ≢ o → uses port 0 ≡ Own other → ⊥
  other_own port o other uses own differs is = let both : Own other ≡ Own o = sym is ∙ own in let same : other ≡ o = cc in differs same

  module _ (port : Port) (page : Page) (mid new : Device) (on : IsOn mid) (there : HasPort mid port.0) (room : DRIVER_BYTES ≤ mid.memory_size) (may : PortMayAskForPage port.0 mid)
      (told : SlotDecodesTo mid.memory (command_list_address port.0) port.0 0 (meaning_of page) (scratch_frame_address port.0 ∷ [])) where
    o : Operation
    o = page_operation page

    prepared : (uses : SlotStates) → IsSlotStateFree port.0 0 uses → IsOwnCommandPreparedInSlot0 uses mid port.0 (page_operation page) 1
    prepared uses free =
        let T : ℕ → Type 0 = λ list. SlotDecodesTo mid.memory list port.0 0 (meaning_of page) (scratch_frame_address port.0 ∷ []) in
        record {
          operation_is_drivers_own = own page;
          free = free;
          st_is_set = may.st_is_set;
          list_is_in_place = record { port_below = there.0; slot_below = lit< tt; list = may.list_is_in_place };
          command = meaning_of page;
          operation_is = refl;
          slot_decodes_to = subst T (sym may.list_is_in_place) told;
          st_set_is_on_tape = may.st_set_in_tape;
          bit_is_set = refl;
          no_other_bit_is_set = bit_one_other;
        }

    pub ask_permitted : (uses : SlotStates) → IsSlotStateFree port.0 0 uses → SomeMachineAgrees uses mid → IsStable (MayWrite (Px port Ci) 1) mid
    ask_permitted uses free a = laws.issuing_page_command_is_permitted uses a.machine mid a.reached a.driver_relation.state_relation port (page_operation page) 1 on there (prepared uses free)

    module _ (call : Writes (Px port Ci) 1 mid new) where
      pub asked_to : IsSimulatedChangingUses (IsPxciOrSlot0PageMemoryAccess port) (IsSlotStateFree port.0 0) (λ uses. used uses port.0 0 (Own (page_operation page))) mid new
      asked_to = laws.fragments.own_command_is_issued (Asking port) port (page_operation page) 1 mid new (refl, refl) on.no_reset prepared call

      put_ci : PortRegisterWritten port.0 Ci 1 mid new
      put_ci = laws.write_changes_port_register port Ci 1 mid new call on.no_reset

      pub asked_det : (new.port port.0).sctl_det ≡ 0
      asked_det = ap (λ (p : DevicePort). p.sctl_det) put_ci.port_is_written ∙ (put_ci.keeps.keeps_outside_reset.controls_are_kept port.0).sctl_det_is_kept ∙ may.no_comreset

      pub asked_on : IsOn new
      asked_on = laws.access_keeps_on (Writing (Px port Ci) 1) mid new on (λ v e. absurd cc) call

      pub asked_there : HasPort new port.0
      asked_there = (there.0, ap (λ (pi : ℕ). bit pi port.0) (laws.access_keeps_adapter (Writing (Px port Ci) 1) mid new call).pi ∙ there.1)

      pub asked_later : length mid.tape ≤ length new.tape
      asked_later =
          let k : KeepsOverSteps mid put_ci.at_access = laws.law_step_lists_keep_what_steps_keep _ _ put_ci.steps in
          let l = grown mid.tape put_ci.at_access.tape k.new_entries k.tape_grows in
          let same = ap (λ (es : List Entry). length es) put_ci.tape_is_as_at_access in omega (arith, l, same)

      pub asked_waits : (start : Device) (uses : SlotStates) → IsSlotStateFree port.0 0 uses → SomeMachineAgrees uses mid → ((other : Operation) → client_operation_of other ≡ None → GainsNoMove port.0 other start mid) →
          IsPageAwaitedOrReceived port (page_operation page) (length new.tape) (used uses port.0 0 (Own (page_operation page))) start new
      asked_waits start uses free a before = record {
        adapter_is_on = laws.access_keeps_on (Writing (Px port Ci) 1) mid new on (λ v e. absurd cc) call;
        driver_memory_fits = let same = (laws.access_keeps_adapter (Writing (Px port Ci) 1) mid new call).memory_size in omega (arith, same, room);
        machine_is_related = laws.fragments.some_machine_agrees (Asking port) (λ uses. used uses port.0 0 (Own (page_operation page))) uses mid new free asked_to a;
        awaits = laws.page_is_issued uses a.machine port (page_operation page) 1 mid new a.reached a.driver_relation.state_relation on.no_reset (prepared uses free) call;
        ends_halt = λ alone. laws.issued_own_command_is_unended_or_unhalted uses a.machine port (page_operation page) 1 mid new a.reached a.driver_relation.state_relation on.no_reset
            (λ slot other. sym (laws.other_slots_are_kept uses port.0 0 (Own (page_operation page)) port.0 slot (λ same here. other here)) ∙ alone slot other) (prepared uses free) call;
        no_other_page_moves = λ other page differs. laws.no_moves_compose port.0 other start mid new (before other page)
            (access_silent port uses other (Writing (Px port Ci) 1) mid new a page (λ is. let e : Free ≡ Own other = sym free ∙ is in absurd cc) call);
      }

  -- ---- stretches, one after another

  -- it is asked for after the stores
  pub stored_then : (port : Port) (next : SlotStates → SlotStates) (old mid new : Device) → IsSimulated (IsPxciOrSlot0PageMemoryAccess port) (IsSlotStateFree port.0 0) old mid → IsSimulatedChangingUses (IsPxciOrSlot0PageMemoryAccess port) (IsSlotStateFree port.0 0) next mid new →
      IsSimulatedChangingUses (IsPxciOrSlot0PageMemoryAccess port) (IsSlotStateFree port.0 0) next old new
  stored_then port next old mid new a b = (laws.fragments.fragments_join (Asking port) (Asking port) (λ uses. uses) next (λ access may. may) (λ uses free. free) old mid new a b).is_simulated

  -- what was asked for is awaited
  pub asked_then : (port : Port) (next : SlotStates → SlotStates) (old mid new : Device) → IsSimulatedChangingUses (IsPxciOrSlot0PageMemoryAccess port) (IsSlotStateFree port.0 0) next old mid → IsSimulated (IsPxciOrSlot0PageMemoryAccess port) AnySlotStates mid new →
      IsSimulatedChangingUses (IsPxciOrSlot0PageMemoryAccess port) (IsSlotStateFree port.0 0) next old new
  asked_then port next old mid new a b = (laws.fragments.fragments_join (Asking port) (AwaitingWithAnySlots port) next (λ uses. uses) (λ access may. may) (λ uses free. tt) old mid new a b).is_simulated

  -- in vain, as is told of the accesses
  pub asked_in_vain : (port : Port) (next : SlotStates → SlotStates) (old mid new : Device) → IsSimulatedChangingUses (IsPxciOrSlot0PageMemoryAccess port) (IsSlotStateFree port.0 0) next old mid → IsSimulatedAlong (AreSlot0IssuedReadings port MOST_READINGS) (IsPxciOrSlot0PageMemoryAccess port) AnySlotStates mid new →
      IsSimulatedAlongChangingUses (WaitsForSlot0InVain port) (IsPxciOrSlot0PageMemoryAccess port) (IsSlotStateFree port.0 0) next old new
  asked_in_vain port next old mid new a b =
      let both = laws.fragments.fragments_join (Asking port) (AwaitingWithAnySlots port) next (λ uses. uses) (λ access may. may) (λ uses free. tt) old mid new a b.is_simulated in
      let early = a.is_driven.accesses in
      let waits = b.is_simulated.is_driven.accesses in
      record {
        is_simulated = both.is_simulated;
        accesses_are_such = subst (WaitsForSlot0InVain port) (sym both.accesses_are_such)
            (record { before = early; waits = waits; later = []; accesses_are = ap (λ (rest : List Access). early ++ rest) (sym (append-nil waits)); waits_are_vain = b.accesses_are_such });
      }

  awaited_then : (port : Port) (old mid new : Device) → IsSimulated (IsPxciOrSlot0PageMemoryAccess port) AnySlotStates old mid → IsSimulated (IsPxciOrSlot0PageMemoryAccess port) AnySlotStates mid new → IsSimulated (IsPxciOrSlot0PageMemoryAccess port) AnySlotStates old new
  awaited_then port old mid new a b = (laws.fragments.fragments_join (AwaitingWithAnySlots port) (AwaitingWithAnySlots port) (λ uses. uses) (λ uses. uses) (λ access may. may) (λ uses any. tt) old mid new a b).is_simulated

  -- a page that came leaves its slot
  pub asked_back : (port : Port) (o : Operation) (old new : Device) → SlotHasNoCommand (new.port port.0) 0 → IsSimulatedChangingUses (IsPxciOrSlot0PageMemoryAccess port) (IsSlotStateFree port.0 0) (λ uses. used uses port.0 0 (Own o)) old new →
      IsSimulated (IsPxciOrSlot0PageMemoryAccess port) (IsSlotStateFree port.0 0) old new
  asked_back port o old new over a = (laws.fragments.own_command_is_over (Asking port) port o 1 old new (refl, refl) (λ uses free. free) over a).is_simulated

  -- ---- header and table are stored first

  module _ (port : Port) (old mid : Device) (on : IsOn old) (stores : IsSimulated (IsHeaderOrTableStore port.0 0) (IsSlotStateFree port.0 0) old mid) where
    pub stores_leave : Leaves port.0 old mid
    stores_leave = tables_leave port old mid on stores.is_driven

    pub stores_asking : IsSimulated (IsPxciOrSlot0PageMemoryAccess port) (IsSlotStateFree port.0 0) old mid
    stores_asking = (laws.fragments.is_of_wider_kind (Stored port) (Asking port) (λ uses. uses) kind (λ uses free. free) old mid stores).is_simulated
      where
        kind : (access : Access) → IsHeaderOrTableStore port.0 0 access → IsPxciOrSlot0PageMemoryAccess port access
        kind (Storing at bytes) here = here
        kind (Reading r v) here = absurd here
        kind (Writing r v) here = absurd here
        kind (Loading at bytes) here = absurd here

    pub stores_agree : (uses : SlotStates) → IsSlotStateFree port.0 0 uses → SomeMachineAgrees uses old → SomeMachineAgrees uses mid
    stores_agree uses free = laws.fragments.some_machine_agrees (Stored port) (λ uses. uses) uses old mid free stores

    pub stores_silent : (uses : SlotStates) (other : Operation) → IsSlotStateFree port.0 0 uses → SomeMachineAgrees uses old → client_operation_of other ≡ None → GainsNoMove port.0 other old mid
    stores_silent uses other free a page = laws.fragments.unused_slot_gains_no_move (Stored port) (λ uses. uses) uses port other old mid free (laws.stores_write_no_register port.0 0 (Px port Ci)) (laws.stores_write_no_register port.0 0 (Px port Sact)) page
        (λ is. let e : Free ≡ Own other = sym free ∙ is in absurd cc) stores a

    pub stores_there : HasPort old port.0 → HasPort mid port.0
    stores_there there = (there.0, ap (λ (pi : ℕ). bit pi port.0) stores_leave.same.pi ∙ there.1)

    pub stores_room : DRIVER_BYTES ≤ old.memory_size → DRIVER_BYTES ≤ mid.memory_size
    stores_room room = let same = stores_leave.same.memory_size in omega (arith, same, room)

  module _ (port : Port) (v : ℕ) (d e : Device) (on : IsOn d) (call : Reads (Px port Ci) v d e) where
    reads_on : IsOn e
    reads_on = laws.access_keeps_on (Reading (Px port Ci) v) d e on (λ w f. absurd cc) call

    reads_followed : IsSimulated (IsPxciOrSlot0PageMemoryAccess port) AnySlotStates d e
    reads_followed = (laws.fragments.reads (AwaitingWithAnySlots port) (Px port Ci) v d e refl call).is_simulated

    -- the driver goes on to wait
    reads_wait : (o : Operation) (since : ℕ) (uses : SlotStates) (begun : Device) → IsPageAwaitedOrReceived port o since uses begun d → IsPageAwaitedOrReceived port o since uses begun e
    reads_wait o since uses begun w =
        let a = w.machine_is_related in
        record {
          adapter_is_on = reads_on;
          driver_memory_fits = let same = (laws.access_keeps_adapter (Reading (Px port Ci) v) d e call).memory_size in let room = w.driver_memory_fits in omega (arith, same, room);
          machine_is_related = laws.fragments.some_machine_agrees (AwaitingWithAnySlots port) (λ uses. uses) uses d e tt reads_followed a;
          awaits = laws.access_keeps_awaiting uses a.machine port o since (Reading (Px port Ci) v) d e a.reached a.driver_relation.state_relation (λ w f. absurd cc) reads_on.no_reset call w.awaits;
          ends_halt = λ alone. laws.access_keeps_ends_halt uses a.machine port (Reading (Px port Ci) v) d e a.reached a.driver_relation.state_relation (λ w f. absurd cc) tt reads_on.no_reset call (w.ends_halt alone);
          no_other_page_moves = λ other page differs. laws.no_moves_compose port.0 other begun d e (w.no_other_page_moves other page differs)
              (access_silent port uses other (Reading (Px port Ci) v) d e a page (other_own port.0 o other uses w.awaits.slot_0_has_own_command differs) call);
        }

    -- or it finds the command over
    reads_over : bit v 0 ≡ false → (o : Operation) (since : ℕ) (uses : SlotStates) (begun : Device) → IsPageAwaitedOrReceived port o since uses begun d → IsSlotClear (e.port port.0) 0
    reads_over clear o since uses begun w =
        let a = w.machine_is_related in
        (laws.page_is_found uses a.machine port o since v d e a.reached a.driver_relation.state_relation w.awaits call clear).0.slot_is_clear

    reads_there : HasPort d port.0 → HasPort e port.0
    reads_there there = (there.0, ap (λ (pi : ℕ). bit pi port.0) (reading_leaves port v d e on call).same.pi ∙ there.1)

    reads_det : (d.port port.0).sctl_det ≡ 0 → (e.port port.0).sctl_det ≡ 0
    reads_det det = (reading_leaves port v d e on call).controls.sctl_det_is_kept ∙ det

    count_read : (d.port port.0).sctl_det ≡ 0 → (e.port port.0).notes.slot0_issued_count ≡ capped_count_after_reading (bit v 0) (d.port port.0).notes.slot0_issued_count
    count_read det =
        let s : PortRegisterRead port.0 Ci v d e = laws.read_changes_port_register port Ci v d e call on.no_reset in
        let P : ℕ → Type 0 = λ x. (e.port port.0).notes.slot0_issued_count ≡ (if nat_eq x 0 then capped_count_after_reading (bit v 0) (d.port port.0).notes.slot0_issued_count else (d.port port.0).notes.slot0_issued_count) in
        subst P (reads_det det) (ap (λ (n : Notes). n.slot0_issued_count) s.notes)

  pub pending_first : (port : Port) (d : Device) → IsOn d → HasPort d port.0 → (d.port port.0).sctl_det ≡ 0 → IsPending port d 0 d
  pending_first port d on there det = record {
    on = on;
    there = there;
    det = det;
    told = let none = laws.fragments.empty_fragment_is_simulated (AwaitingWithAnySlots port) d in
        record { is_simulated = none.is_simulated; accesses_are_such = subst (AreSlot0IssuedReadings port 0) (sym none.accesses_are_such) (refl, All-nil (ShowsSlot0Issued port)) };
    waiting = λ o since uses begun w. w;
    low = omega arith;
    high = λ some. absurd (omega (arith, some));
  }

  -- one more reading with the bit
  pub pending_again : (port : Port) (start : Device) (n : ℕ) (v : ℕ) (d e : Device) → n < MOST_READINGS → IsPending port start n d → Reads (Px port Ci) v d e → bit v 0 ≡ true → IsPending port start (n + 1) e
  pending_again port start n v d e small p call set =
      let count : (e.port port.0).notes.slot0_issued_count ≡ capped_count_after_reading true (d.port port.0).notes.slot0_issued_count =
      count_read port v d e p.on call p.det ∙ ap (λ (b : Bool). capped_count_after_reading b (d.port port.0).notes.slot0_issued_count) set in
      let low = p.low in
      record {
        on = reads_on port v d e p.on call;
        there = reads_there port v d e p.on call p.there;
        det = reads_det port v d e p.on call p.det;
        told =
            let more = laws.fragments.reads (AwaitingWithAnySlots port) (Px port Ci) v d e refl call in
            let both = laws.fragments.fragments_join (AwaitingWithAnySlots port) (AwaitingWithAnySlots port) (λ uses. uses) (λ uses. uses) (λ access may. may) (λ uses any. tt) start d e p.told.is_simulated more.is_simulated in
            record {
              is_simulated = both.is_simulated;
              accesses_are_such = subst (AreSlot0IssuedReadings port (n + 1)) (sym both.accesses_are_such) (vain_more port n v p.told.is_simulated.is_driven.accesses more.is_simulated.is_driven.accesses p.told.accesses_are_such more.accesses_are_such set);
            };
        waiting = λ o since uses begun w. reads_wait port v d e p.on call o since uses begun (p.waiting o since uses begun w);
        low = rw count (omega (arith, low, small));
        high = λ _. rw count (omega arith);
      }

  pub pending_over : (port : Port) (start : Device) (n : ℕ) (v : ℕ) (d e : Device) → IsPending port start n d → Reads (Px port Ci) v d e → bit v 0 ≡ false → IsFoundOver port start e
  pending_over port start n v d e p call clear = record {
    on = reads_on port v d e p.on call;
    followed = awaited_then port start d e p.told.is_simulated (reads_followed port v d e p.on call);
    waiting = λ o since uses begun w. reads_wait port v d e p.on call o since uses begun (p.waiting o since uses begun w);
    over = λ o since uses begun w. reads_over port v d e p.on call clear o since uses begun (p.waiting o since uses begun w);
  }

  -- ---- the page

  -- a page that came since a time came since an earlier one
  sooner : (memory : ℕ → ℕ) (tape : List Entry) (port : ℕ) (o : Operation) (since early : ℕ) → early ≤ since → (b : PageCameSinceAndStandsInScratch memory tape port o since) → (bytes : List ℕ) → bytes ≡ b.move.bytes.value →
      (c : PageCameSinceAndStandsInScratch memory tape port o early) × (bytes ≡ c.move.bytes.value)
  sooner memory tape port o since early le b bytes same = (
    record { before = b.before; came_since = le_trans le b.came_since; move = b.move; later = b.later; tape_is_split = b.tape_is_split; is_move = b.is_move; no_later_move = b.no_later_move; scratch_holds_page = b.scratch_holds_page },
    same,
  )

  module _ (port : Port) (o : Operation) (since : ℕ) (uses : SlotStates) (begun old : Device) (below : port.0 < 4) (w : IsPageAwaitedOrReceived port o since uses begun old) (clear : IsSlotClear (old.port port.0) 0) where
    pub page_free : IsStable (IsInMemoryNotOwnedByDevice (scratch_frame_address port.0) 512) old
    page_free =
        let a = w.machine_is_related in
        let room = w.driver_memory_fits in
        laws.device_owns_no_scratch uses a.machine old a.reached a.driver_relation.state_relation port.0 below (omega (arith, room, below)) clear.over

    module _ (bytes : List ℕ) (new : Device) (call : Loads (scratch_frame_address port.0) bytes old new) (size : length bytes ≡ 512) where
      pub load_on : IsOn new
      load_on = laws.access_keeps_on (Loading (scratch_frame_address port.0) bytes) old new w.adapter_is_on (λ v e. absurd cc) call

      pub load_clear : IsSlotClear (new.port port.0) 0
      load_clear = laws.access_keeps_slot_clear port 0 (Loading (scratch_frame_address port.0) bytes) old new (λ v e. absurd cc) (λ v e. absurd cc) call clear

      pub load_followed : IsSimulated (IsPxciOrSlot0PageMemoryAccess port) AnySlotStates old new
      load_followed = (laws.fragments.loads (AwaitingWithAnySlots port) (scratch_frame_address port.0) bytes old new (refl, size) call).is_simulated

      pub load_brings : (early : ℕ) → early ≤ since → BringsLastPage port.0 o early bytes new
      load_brings early le =
          let a = w.machine_is_related in
          let x = laws.awaited_is_loaded uses a.machine port.0 o since bytes old new a.reached a.driver_relation.state_relation w.awaits clear.over call size in
          let y = sooner new.memory new.tape port.0 o since early le x.0 bytes x.1 in
          record { page_stands = y.0; page_bytes_are = y.1; slot_is_clear = load_clear }

      pub load_agrees : SomeMachineAgrees uses new
      load_agrees = laws.fragments.some_machine_agrees (AwaitingWithAnySlots port) (λ uses. uses) uses old new tt load_followed w.machine_is_related

      pub load_running : ((slot : ℕ) → slot ≢ 0 → uses port.0 slot ≡ Free) → (new.port port.0).halt ≡ NotHalted
      load_running alone =
          let a = w.machine_is_related in
          let h = laws.access_keeps_ends_halt uses a.machine port (Loading (scratch_frame_address port.0) bytes) old new a.reached a.driver_relation.state_relation (λ v e. absurd cc) tt load_on.no_reset call (w.ends_halt alone) in
          elim h.unfinished_or_not_halted [
            | inl issued ↦ absurd (true≢false (sym issued ∙ load_clear.over.is_not_issued))
            | inr running ↦ running
          ]

      pub load_silent : (other : Operation) → client_operation_of other ≡ None → other ≢ o → GainsNoMove port.0 other begun new
      load_silent other page differs = laws.no_moves_compose port.0 other begun old new (w.no_other_page_moves other page differs)
          (access_silent port uses other (Loading (scratch_frame_address port.0) bytes) old new w.machine_is_related page (other_own port.0 o other uses w.awaits.slot_0_has_own_command differs) call)
