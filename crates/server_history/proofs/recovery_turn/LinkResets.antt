-- A boot of a stopped port that doesn't end with a dead one resets the port's link: by one list of accesses that are of the boot's way.
use Rattle.std.proofs.Common.{ℕ, ◌≡◌, ◌≢◌, ◌++◌, List, [], ◌∷◌, refl, sym, ap, ◌∙◌, subst, inl, inr, append_assoc}
use Rattle.std.specs.List.{All}
use Rattle.std.proofs.lemmas.List.{append-nil}
use Rattle.std.proofs.lemmas.List.Elements.{All-append, All-cons, All-nil, All-weaker}
use Rattle.ata_types.specs.declared.Port.{Port}
use Rattle.ata_types.specs.declared.PortState.{PortState as Shown}
use Rattle.ata_types.specs.declared.limits.TheConstants.{MOST_READINGS}
use Rattle.hba_regs.specs.declared.reg.PortReg.{PortReg}
use Rattle.hba_regs.specs.declared.reg.PortReg.TheVariants.{Cmd, Clb, Clbu, Fb, Fbu, Ie, Is, Sctl, Serr, Sig, Ssts, Tfd, Ci}
use Rattle.hba_regs.specs.declared.reg.Reg.{Reg}
use Rattle.hba_regs.specs.declared.reg.Reg.TheVariants.{Px}
use Rattle.adapter.specs.Access.{Access, Does, Reads, Writes, named_causes_mask}
use Rattle.adapter.specs.Access.Access.{Loading, Reading, Storing, Writing}
use Rattle.adapter.specs.Device.{Device}
use Rattle.refinement.specs.Fragments.{ReadsPortOrWrites, IsDrivenBy}
use Rattle.refinement.specs.PreservedParts.{DoesNotWrite}
use Rattle.server_history.proofs.state.DrivenAccesses.{by_none, by_then, driven_as}
use Rattle.disk_page.specs.PageRequests.{IsPxciOrSlot0PageMemoryAccess}
use Rattle.driver_history.specs.AccessTrace.{LastSctlWritesResetLink}
use Rattle.error_recovery.specs.Recovery.{IsCmdSerrOrIs, IsRecoveryAccess}
use Rattle.port_boot.specs.States.{EndsBeforeStart, EndsAfterStart, BringsReady, BringsUpPort, IsWrittenInBootButCi, IsBootAccess}
use Rattle.port_control.specs.Ports.{ClearsErrors, FindsLinkAndClearsErrors, FindsSignature, IsCmdOrBaseRegister, SeesResetFault, IsVainReading, ReadsUntil, ReadsInVain, IsCommandRegister}
use Rattle.port_control.specs.declared.PortFault.{PortFault}
use Rattle.port_control.specs.declared.PortFault.TheVariants.{NoDevice, Busy, EngineStuck, NotAta}
use Rattle.server_history.specs.Prerequisites.{PrerequisiteLaws}

-- By these accesses, of a boot, the link was reset.
pub record ResetsBy (port : Port) (old new : Device) : Type 0 where
  pub driven : IsDrivenBy (IsBootAccess port) old new
  pub resets : LastSctlWritesResetLink port driven.accesses

-- more accesses before, and after, that don't write PxSCTL
pub resets_more : (port : Port) (early part late : List Access) → LastSctlWritesResetLink port part → All (DoesNotWrite (Px port Sctl)) late → LastSctlWritesResetLink port (early ++ (part ++ late))
resets_more port early part late r spared = record {
  before = early ++ r.before;
  between = r.between;
  later = r.later ++ late;
  comreset_value = r.comreset_value;
  end_of_comreset_value = r.end_of_comreset_value;
  accesses_are_split =
      ap (λ (list : List Access). early ++ (list ++ late)) r.accesses_are_split
      ∙ ap (λ (list : List Access). early ++ list) (append_assoc r.before (Writing (Px port Sctl) r.comreset_value ∷ (r.between ++ (Writing (Px port Sctl) r.end_of_comreset_value ∷ r.later))) late)
      ∙ ap (λ (list : List Access). early ++ (r.before ++ (Writing (Px port Sctl) r.comreset_value ∷ list))) (append_assoc r.between (Writing (Px port Sctl) r.end_of_comreset_value ∷ r.later) late)
      ∙ sym (append_assoc early r.before (Writing (Px port Sctl) r.comreset_value ∷ (r.between ++ (Writing (Px port Sctl) r.end_of_comreset_value ∷ (r.later ++ late)))));
  sends_comreset = r.sends_comreset;
  ends_comreset = r.ends_comreset;
  sctl_is_unwritten_between = r.sctl_is_unwritten_between;
  sctl_is_unwritten_later = All-append (DoesNotWrite (Px port Sctl)) r.later late r.sctl_is_unwritten_later spared;
}

pub resets_since : (port : Port) (early part : List Access) → LastSctlWritesResetLink port part → LastSctlWritesResetLink port (early ++ part)
resets_since port early part r =
    subst (λ (list : List Access). LastSctlWritesResetLink port (early ++ list)) (append-nil part) (resets_more port early part [] r (All-nil (DoesNotWrite (Px port Sctl))))

-- ---- accesses of a boot's way but those that reset the link

abbrev pub IsBeside : Port → Access → Type 0
IsBeside port access = IsBootAccess port access × DoesNotWrite (Px port Sctl) access

apart : (port at : Port) (r other : PortReg) → r ≢ other → Px at r ≢ Px port other
apart port at r other ne same = ne cc

module _ (laws : PrerequisiteLaws) (port : Port) where
  control_beside : (Such : PortReg → Type 0) → ((r : PortReg) → Such r → IsWrittenInBootButCi r × (r ≢ Sctl)) → (access : Access) → ReadsPortOrWrites Such port access → IsBeside port access
  control_beside Such each (Reading (Px at r) v) is = (inl is, tt)
  control_beside Such each (Reading r v) is = absurd is
  control_beside Such each (Writing (Px at r) v) is = let e = each r is.1 in (inl (is.0, e.0), apart port at r Sctl e.1)
  control_beside Such each (Writing r v) is = absurd is
  control_beside Such each (Loading at bytes) is = absurd is
  control_beside Such each (Storing at bytes) is = absurd is

  command_beside : (r : PortReg) → IsCommandRegister r → IsWrittenInBootButCi r × (r ≢ Sctl)
  command_beside r is = (inl (inl is), λ same. let z : Cmd ≡ Sctl = sym is ∙ same in absurd cc)

  placing_beside : (r : PortReg) → IsCmdOrBaseRegister r → IsWrittenInBootButCi r × (r ≢ Sctl)
  placing_beside r is = (inl is, no is)
    where
      no : IsCmdOrBaseRegister r → r ≢ Sctl
      no (inl x) same = let z : Cmd ≡ Sctl = sym x ∙ same in absurd cc
      no (inr (inl x)) same = let z : Clb ≡ Sctl = sym x ∙ same in absurd cc
      no (inr (inr (inl x))) same = let z : Clbu ≡ Sctl = sym x ∙ same in absurd cc
      no (inr (inr (inr (inl x)))) same = let z : Fb ≡ Sctl = sym x ∙ same in absurd cc
      no (inr (inr (inr (inr x)))) same = let z : Fbu ≡ Sctl = sym x ∙ same in absurd cc

  pub placing_boots : (access : Access) → ReadsPortOrWrites IsCmdOrBaseRegister port access → IsBootAccess port access
  placing_boots access is = (control_beside IsCmdOrBaseRegister placing_beside access is).0

  asking_beside : (access : Access) → IsPxciOrSlot0PageMemoryAccess port access → IsBeside port access
  asking_beside (Reading r v) is = (inr is, tt)
  asking_beside (Writing r v) is = (inr is, λ same. let z : Px port Ci ≡ Px port Sctl = sym is.0 ∙ same in absurd cc)
  asking_beside (Loading at bytes) is = (inr is, tt)
  asking_beside (Storing at bytes) is = (inr is, tt)

  unread : (r : PortReg) (Sees : ℕ → Type 0) (access : Access) → IsVainReading port r Sees access → IsBeside port access
  unread r Sees (Reading at v) is = (inl (subst (λ (x : Reg). ReadsPortOrWrites IsWrittenInBootButCi port (Reading x v)) (sym is.0) refl), tt)
  unread r Sees (Writing at v) is = absurd is
  unread r Sees (Loading at bytes) is = absurd is
  unread r Sees (Storing at bytes) is = absurd is

  -- one access
  one : (access : Access) (old new : Device) → IsBeside port access → Does access old new → IsDrivenBy (IsBeside port) old new
  one access old new is does = record { accesses = access ∷ []; all_are_done = (new, does, refl); accesses_are_of_kind = All-cons (IsBeside port) access [] is (All-nil (IsBeside port)) }

  read_one : (r : PortReg) (v : ℕ) (old new : Device) → Reads (Px port r) v old new → IsDrivenBy (IsBeside port) old new
  read_one r v old new reads = one (Reading (Px port r) v) old new (inl refl, tt) reads

  write_one : (r : PortReg) (v : ℕ) (old new : Device) → IsWrittenInBootButCi r → r ≢ Sctl → Writes (Px port r) v old new → IsDrivenBy (IsBeside port) old new
  write_one r v old new is other writes = one (Writing (Px port r) v) old new (inl (refl, is), apart port port r Sctl other) writes

  pub without : (r : PortReg) (Sees : ℕ → Type 0) (count : ℕ) (old new : Device) → ReadsInVain port r Sees count old new → IsDrivenBy (IsBeside port) old new
  without r Sees count old new w = driven_as (IsVainReading port r Sees) (IsBeside port) old new (unread r Sees) w.reads

  pub until : (r : PortReg) (Sees : ℕ → Type 0) (old new : Device) → ReadsUntil port r Sees old new → IsDrivenBy (IsBeside port) old new
  until r Sees old new u = by_then laws (without r Sees u.count old u.waited u.waits) (read_one r u.value u.waited new u.reads)

  clearing : (old new : Device) → ClearsErrors port old new → IsDrivenBy (IsBeside port) old new
  clearing old new c = by_then laws
      (write_one Serr 0xffffffff old c.between (inr (inl (inr (inl refl)))) (λ e. let z : Serr ≡ Sctl = e in cc) c.clears_serr)
      (write_one Is 0xffffffff c.between new (inr (inl (inr (inr refl)))) (λ e. let z : Is ≡ Sctl = e in cc) c.clears_is)

  -- where a device was seen, errors are cleared, and this comes then
  pub cleared_then : (old mid new : Device) → ClearsErrors port old mid → IsDrivenBy (IsBeside port) mid new → IsDrivenBy (IsBeside port) old new
  cleared_then old mid new c rest = by_then laws (clearing old mid c) rest

  linking : (old new : Device) → FindsLinkAndClearsErrors port old new → IsDrivenBy (IsBeside port) old new
  linking old new l = by_then laws (until Ssts _ old l.after_link_is_seen l.reads_until_link) (clearing l.after_link_is_seen new l.clears)

  -- what comes once the link was found, and the errors were cleared
  pub linked_then : (signature : ℕ) (old new : Device) → (f : FindsSignature port signature old new) → IsDrivenBy (IsBeside port) f.linked new
  linked_then signature old new f = by_then laws (until Tfd _ f.linked f.idle f.waits) (read_one Sig signature f.idle new f.reads)

  signing : (signature : ℕ) (old new : Device) → FindsSignature port signature old new → IsDrivenBy (IsBeside port) old new
  signing signature old new f = by_then laws (linking old f.linked f.finds_link) (linked_then signature old new f)

  looking : (fault : PortFault) (old new : Device) → SeesResetFault port fault old new → IsDrivenBy (IsBeside port) old new
  looking NoDevice old new l = without Ssts _ MOST_READINGS old new l
  looking Busy old new l = by_then laws (linking old l.linked l.finds_link) (without Tfd _ MOST_READINGS l.linked new l.waits)
  looking (NotAta signature) old new l = signing signature old new l
  looking EngineStuck old new l = absurd l

  pub commanding : (old new : Device) → IsDrivenBy (ReadsPortOrWrites IsCommandRegister port) old new → IsDrivenBy (IsBeside port) old new
  commanding old new driven = driven_as (ReadsPortOrWrites IsCommandRegister port) (IsBeside port) old new (control_beside IsCommandRegister command_beside) driven

  asking : (old new : Device) → IsDrivenBy (IsPxciOrSlot0PageMemoryAccess port) old new → IsDrivenBy (IsBeside port) old new
  asking old new driven = driven_as (IsPxciOrSlot0PageMemoryAccess port) (IsBeside port) old new asking_beside driven

  -- what comes once the link was found of a port that is started, and then
  pub started_then : (old up new : Device) (g : BringsUpPort port old up) → IsDrivenBy (IsBeside port) up new → IsDrivenBy (IsBeside port) g.resets.does_rest.linked new
  started_then old up new g rest = by_then laws (linked_then 0x101 g.resets.ended g.found g.resets.does_rest) (by_then laws (commanding g.found up g.starts) rest)

  -- what comes once a port was started that is ready then, or stopped
  pub ready_then : (old new : Device) (g : BringsReady port old new) → IsDrivenBy (IsBeside port) g.up new
  ready_then old new g = by_then laws (asking g.up g.asks_disk.asked g.asks_disk.asks) (write_one Ie named_causes_mask g.asks_disk.asked new (inr (inr refl)) (λ e. let z : Ie ≡ Sctl = e in cc) g.asks_disk.enables_interrupts)

  pub late_then : (old new : Device) (g : EndsAfterStart port old new) → IsDrivenBy (IsBeside port) g.up new
  late_then old new g = by_then laws (asking g.up g.asks_then_stops.asked g.asks_then_stops.asks) (commanding g.asks_then_stops.asked new g.asks_then_stops.stops)

  -- ---- the whole

  pub resetting : (old placed sent ended new : Device) → IsDrivenBy (ReadsPortOrWrites IsCmdOrBaseRegister port) old placed → Writes (Px port Sctl) 1 placed sent → Writes (Px port Sctl) 0 sent ended → IsDrivenBy (IsBeside port) ended new → ResetsBy port old new
  resetting old placed sent ended new places sends ends rest = record {
    driven = record {
      accesses = places.accesses ++ list;
      all_are_done = laws.steps_and_accesses.does_append places.accesses list old placed new places.all_are_done (sent, sends, (ended, ends, rest.all_are_done));
      accesses_are_of_kind = All-append (IsBootAccess port) places.accesses list
          (All-weaker (ReadsPortOrWrites IsCmdOrBaseRegister port) (IsBootAccess port) placing_boots places.accesses places.accesses_are_of_kind)
          (All-cons (IsBootAccess port) (Writing (Px port Sctl) 1) (Writing (Px port Sctl) 0 ∷ rest.accesses) (inl (refl, inr (inl (inl refl))))
          (All-cons (IsBootAccess port) (Writing (Px port Sctl) 0) rest.accesses (inl (refl, inr (inl (inl refl)))) (All-weaker (IsBeside port) (IsBootAccess port) (λ access is. is.0) rest.accesses rest.accesses_are_of_kind)));
    };
    resets = record {
      before = places.accesses;
      between = [];
      later = rest.accesses;
      comreset_value = 1;
      end_of_comreset_value = 0;
      accesses_are_split = refl;
      sends_comreset = refl;
      ends_comreset = refl;
      sctl_is_unwritten_between = All-nil (DoesNotWrite (Px port Sctl));
      sctl_is_unwritten_later = All-weaker (IsBeside port) (DoesNotWrite (Px port Sctl)) (λ access is. is.1) rest.accesses rest.accesses_are_of_kind;
    };
  }
    where
      list : List Access
      list = Writing (Px port Sctl) 1 ∷ Writing (Px port Sctl) 0 ∷ rest.accesses

  getting_up : (old up new : Device) → BringsUpPort port old up → IsDrivenBy (IsBeside port) up new → ResetsBy port old new
  getting_up old up new g rest = resetting old g.placed g.resets.sent g.resets.ended new g.places g.resets.sends g.resets.ends (by_then laws (linking g.resets.ended g.resets.does_rest.linked g.resets.does_rest.finds_link) (started_then old up new g rest))

  pub ready_resets : (old new : Device) → BringsReady port old new → ResetsBy port old new
  ready_resets old new g = getting_up old g.up new g.brings_up (ready_then old new g)

  pub early_resets : (state : Shown) (old new : Device) → EndsBeforeStart port state old new → ResetsBy port old new
  early_resets state old new g = resetting old g.placed g.resets.sent g.resets.ended new g.places g.resets.sends g.resets.ends (looking g.fault g.resets.ended new g.resets.does_rest)

  pub late_resets : (old new : Device) → EndsAfterStart port old new → ResetsBy port old new
  late_resets old new g = getting_up old g.up new g.brings_up (late_then old new g)

  pub up_driven : (old up : Device) → BringsUpPort port old up → IsDrivenBy (IsBootAccess port) old up
  up_driven old up g = (getting_up old up up g (by_none (IsBeside port) up)).driven

  -- ---- recovery

  control_spares : (Such : PortReg → Type 0) → ((r : PortReg) → Such r → r ≢ Sctl) → (access : Access) → ReadsPortOrWrites Such port access → DoesNotWrite (Px port Sctl) access
  control_spares Such each (Reading r v) is = tt
  control_spares Such each (Writing (Px at r) v) is = apart port at r Sctl (each r is.1)
  control_spares Such each (Writing r v) is = absurd is
  control_spares Such each (Loading at bytes) is = tt
  control_spares Such each (Storing at bytes) is = tt

  -- recovery leaves the link alone
  pub recovering_spares : (access : Access) → IsRecoveryAccess port access → DoesNotWrite (Px port Sctl) access
  recovering_spares access (inl is) = control_spares IsCmdSerrOrIs no access is
    where
      no : (r : PortReg) → IsCmdSerrOrIs r → r ≢ Sctl
      no r (inl x) same = let z : Cmd ≡ Sctl = sym x ∙ same in absurd cc
      no r (inr (inl x)) same = let z : Serr ≡ Sctl = sym x ∙ same in absurd cc
      no r (inr (inr x)) same = let z : Is ≡ Sctl = sym x ∙ same in absurd cc
  recovering_spares access (inr is) = (asking_beside access is).1
