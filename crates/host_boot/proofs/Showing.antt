-- A port in which a disk was found that isn't served shows a device once all ports were booted, or has none in.
use Rattle.std.proofs.Common.{ℕ, ◌≡◌, ◌≢◌, List, [], ◌∷◌, inl, inr, refl, sym, ◌∙◌, subst, ⊎_elim}
use Rattle.std.proofs.lemmas.Bool.{cases_eq}
use Rattle.ata_types.specs.declared.Port.{Port}
use Rattle.ata_types.specs.declared.PortState.{PortState}
use Rattle.ata_types.specs.declared.PortState.TheVariants.{Absent, Ready, Foreign, Unfit, Dead}
use Rattle.ata_types.specs.declared.limits.TheConstants.{MOST_READINGS}
use Rattle.hba_regs.specs.declared.reg.Reg.TheVariants.{Ghc, Px}
use Rattle.hba_regs.specs.declared.reg.PortReg.{PortReg}
use Rattle.hba_regs.specs.declared.reg.PortReg.TheVariants.{Ci, Is, Sctl, Serr, Sig, Ssts, Tfd}
use Rattle.adapter.specs.Access.{Access, Reads, DoesAll}
use Rattle.adapter.specs.Access.Access.{Reading, Writing, Loading, Storing}
use Rattle.adapter.specs.Device.{Device}
use Rattle.adapter.specs.Idle.{IsIdle}
use Rattle.adapter.specs.Rules.{IsOn}
use Rattle.refinement.specs.Fragments.{ReadsPortOrWrites, IsDrivenBy, AccessesNoOtherPort}
use Rattle.refinement.specs.PreservedParts.{HasDet3IfDiskPresent, DoesNotWrite}
use Rattle.disk_page.specs.PageRequests.{IsPxciOrSlot0PageMemoryAccess}
use Rattle.port_control.specs.Ports.{FindsLinkAndClearsErrors, FindsSignature, HasLink, IsCmdOrBaseRegister, SeesResetFault, IsVainReading, ReadsUntil, ReadsInVain, ShowsIdle, SendsComresetThen, IsCommandRegister}
use Rattle.port_control.specs.declared.PortFault.{PortFault}
use Rattle.port_control.specs.declared.PortFault.TheVariants.{NoDevice, Busy, EngineStuck, NotAta}
use Rattle.port_boot.specs.States.{EndsBeforeStart, EndsAfterStart, IsStateOfFault}
use Rattle.host_boot.specs.TakeOver.{FoundUnusableDevice, SwitchesOnBootsAndEnablesInterrupts, StopsAndBootsOrDoesNothing, probe_result_of}
use Rattle.host_boot.specs.declared.ProbeResult.{ProbeResult}
use Rattle.host_boot.specs.declared.ProbeResult.TheVariants.{Unserved, Unready}
use Rattle.host_boot.proofs.Running.{IsOfOther, other_spares, taken_last}
use Rattle.host_boot.specs.Laws.{Laws}
use Rattle.host_boot.proofs.Stretching.{by_one, by_then, driven_as, on_over, placing_driven, stop_driven}
use Rattle.std.specs.List.{All}
use Rattle.std.proofs.lemmas.List.Elements.{All-head, All-tail}

-- it resets neither the adapter nor the link
abbrev IsGentle : Port → Access → Type 0
IsGentle port access = DoesNotWrite Ghc access × DoesNotWrite (Px port Sctl) access

written_gentle : (port : Port) (r : PortReg) (v : ℕ) → r ≢ Sctl → IsGentle port (Writing (Px port r) v)
written_gentle port r v other =
    ((λ e. absurd (let z : Px port r ≡ Ghc = e in cc)), (λ e. other (let z : Px port r ≡ Px port Sctl = e in cc)))

reading_gentle : (port at : Port) (r : PortReg) (Shown : ℕ → Type 0) (access : Access) → IsVainReading at r Shown access → IsGentle port access
reading_gentle port at r Shown (Reading q v) is = (tt, tt)
reading_gentle port at r Shown (Writing q v) is = absurd is
reading_gentle port at r Shown (Loading place bytes) is = absurd is
reading_gentle port at r Shown (Storing place bytes) is = absurd is

without_gentle : (port : Port) (r : PortReg) (Shown : ℕ → Type 0) (count : ℕ) (old new : Device) → ReadsInVain port r Shown count old new → IsDrivenBy (IsGentle port) old new
without_gentle port r Shown count old new w = driven_as (IsVainReading port r Shown) (IsGentle port) old new (reading_gentle port port r Shown) w.reads

read_gentle : (port : Port) (r : PortReg) (v : ℕ) (old new : Device) → Reads (Px port r) v old new → IsDrivenBy (IsGentle port) old new
read_gentle port r v old new does = by_one (IsGentle port) (Reading (Px port r) v) old new (tt, tt) does

module _ (laws : Laws) where
  until_gentle : (port : Port) (r : PortReg) (Shown : ℕ → Type 0) (old new : Device) → ReadsUntil port r Shown old new → IsDrivenBy (IsGentle port) old new
  until_gentle port r Shown old new u = by_then laws (without_gentle port r Shown u.count old u.waited u.waits) (read_gentle port r u.value u.waited new u.reads)

  module _ (port : Port) where
    abbrev Shown : Device → Type 0
    Shown d = HasDet3IfDiskPresent (d.port port.0)

    gently_over : (accesses : List Access) (old new : Device) → IsOn old → All (IsGentle port) accesses → DoesAll accesses old new → Shown old → Shown new
    gently_over [] old new on all is h = subst Shown (sym is) h
    gently_over (access ∷ accesses) old new on all (mid, does, rest) h =
        let gentle = All-head (IsGentle port) access accesses all in
        let later = laws.access_keeps_adapter_on access old mid on (λ v is. absurd (subst (DoesNotWrite Ghc) is gentle.0 refl)) does in
        gently_over accesses mid new later (All-tail (IsGentle port) access accesses all) rest (laws.disk_in_stays_shown_over_access port access old mid on.no_reset gentle.1 does h)

    pub gently : (old new : Device) → IsOn old → IsDrivenBy (IsGentle port) old new → Shown old → Shown new
    gently old new on driven = gently_over driven.accesses old new on driven.accesses_are_of_kind driven.all_are_done

    still_on : (old new : Device) → IsOn old → IsDrivenBy (IsGentle port) old new → IsOn new
    still_on old new on driven = on_over laws (IsGentle port) old new driven (λ access is. is.0) on

    -- PxSSTS showed it, and it was left so
    link_shown : (old new : Device) → IsOn old → FindsLinkAndClearsErrors port old new → Shown new
    link_shown old new on l =
        let before : IsDrivenBy (IsGentle port) old l.after_link_is_seen = until_gentle port Ssts HasLink old l.after_link_is_seen l.reads_until_link in
        let clears : IsDrivenBy (IsGentle port) l.after_link_is_seen new = by_then laws
        (by_one (IsGentle port) (Writing (Px port Serr) 0xffffffff) l.after_link_is_seen l.clears.between (written_gentle port Serr 0xffffffff (λ e. absurd (let z : Serr ≡ Sctl = e in cc))) l.clears.clears_serr)
        (by_one (IsGentle port) (Writing (Px port Is) 0xffffffff) l.clears.between new (written_gentle port Is 0xffffffff (λ e. absurd (let z : Is ≡ Sctl = e in cc))) l.clears.clears_is) in
        gently l.after_link_is_seen new (still_on old l.after_link_is_seen on before) clears (laws.ssts_reading_shows_disk port l.reads_until_link.value l.reads_until_link.waited l.after_link_is_seen l.reads_until_link.reads l.reads_until_link.shown)

    link_on : (old new : Device) → IsOn old → FindsLinkAndClearsErrors port old new → IsOn new
    link_on old new on l =
        still_on old new on (by_then laws (until_gentle port Ssts HasLink old l.after_link_is_seen l.reads_until_link) (by_then laws
        (by_one (IsGentle port) (Writing (Px port Serr) 0xffffffff) l.after_link_is_seen l.clears.between (written_gentle port Serr 0xffffffff (λ e. absurd (let z : Serr ≡ Sctl = e in cc))) l.clears.clears_serr)
        (by_one (IsGentle port) (Writing (Px port Is) 0xffffffff) l.clears.between new (written_gentle port Is 0xffffffff (λ e. absurd (let z : Is ≡ Sctl = e in cc))) l.clears.clears_is)))

    signature_shown : (signature : ℕ) (old new : Device) → IsOn old → FindsSignature port signature old new → Shown new
    signature_shown signature old new on f =
        gently f.linked new (link_on old f.linked on f.finds_link)
        (by_then laws (until_gentle port Tfd ShowsIdle f.linked f.idle f.waits) (read_gentle port Sig signature f.idle new f.reads))
        (link_shown old f.linked on f.finds_link)

    looks_shown : (fault : PortFault) (old new : Device) → fault ≢ NoDevice → IsOn old → SeesResetFault port fault old new → Shown new
    looks_shown NoDevice old new other on l = absurd (other refl)
    looks_shown Busy old new other on l =
        gently l.linked new (link_on old l.linked on l.finds_link) (without_gentle port Tfd ShowsIdle MOST_READINGS l.linked new l.waits) (link_shown old l.linked on l.finds_link)
    looks_shown (NotAta signature) old new other on l = signature_shown signature old new on l
    looks_shown EngineStuck old new other on l = absurd l

    -- COMRESET itself resets no adapter
    reset_on : (Then : Device → Device → Type 0) (old new : Device) → IsOn old → (w : SendsComresetThen port Then old new) → IsOn w.ended
    reset_on Then old new on w =
        on_over laws (AccessesNoOtherPort port) old w.ended
        (by_then laws (by_one (AccessesNoOtherPort port) (Writing (Px port Sctl) 1) old w.sent refl w.sends) (by_one (AccessesNoOtherPort port) (Writing (Px port Sctl) 0) w.sent w.ended refl w.ends))
        (laws.one_port_spares_ghc port) on

    placing_on : (old new : Device) → IsOn old → IsDrivenBy (ReadsPortOrWrites IsCmdOrBaseRegister port) old new → IsOn new
    placing_on old new on driven = on_over laws (AccessesNoOtherPort port) old new (placing_driven laws port old new driven) (laws.one_port_spares_ghc port) on

    early_shown : (state : PortState) (old new : Device) → state ≢ Absent → IsOn old → EndsBeforeStart port state old new → Shown new
    early_shown state old new other on e =
        looks_shown e.fault e.resets.ended new (λ none. other (subst (IsStateOfFault state) none e.state_is))
        (reset_on (SeesResetFault port e.fault) e.placed new (placing_on old e.placed on e.places) e.resets) e.resets.does_rest

    stop_gentle : (old new : Device) → IsDrivenBy (ReadsPortOrWrites IsCommandRegister port) old new → IsDrivenBy (IsGentle port) old new
    stop_gentle old new driven =
        driven_as (ReadsPortOrWrites IsCommandRegister port) (IsGentle port) old new
        (λ access is. let c = laws.cmd_access_is_of_port port access is in (laws.one_port_spares_ghc port access c.0, c.1)) driven

    asking_gentle : (access : Access) → IsPxciOrSlot0PageMemoryAccess port access → IsGentle port access
    asking_gentle (Reading r v) is = (tt, tt)
    asking_gentle (Writing r v) is =
        ((λ e. absurd (let z : Px port Ci ≡ Ghc = sym is.0 ∙ e in cc)), (λ e. absurd (let z : Px port Ci ≡ Px port Sctl = sym is.0 ∙ e in cc)))
    asking_gentle (Loading at bytes) is = (tt, tt)
    asking_gentle (Storing at bytes) is = (tt, tt)

    late_shown : (old new : Device) → IsOn old → EndsAfterStart port old new → Shown new
    late_shown old new on e =
        let up = e.brings_up in
        let ended : IsOn up.resets.ended = reset_on (FindsSignature port 0x101) up.placed up.found (placing_on old up.placed on up.places) up.resets in
        let found : IsOn up.found = signature_on up.resets.ended up.found ended up.resets.does_rest in
        gently up.found new found
        (by_then laws (stop_gentle up.found e.up up.starts)
        (by_then laws (driven_as (IsPxciOrSlot0PageMemoryAccess port) (IsGentle port) e.up e.asks_then_stops.asked asking_gentle e.asks_then_stops.asks) (stop_gentle e.asks_then_stops.asked new e.asks_then_stops.stops)))
        (signature_shown 0x101 up.resets.ended up.found ended up.resets.does_rest)
      where
        signature_on : (a b : Device) → IsOn a → FindsSignature port 0x101 a b → IsOn b
        signature_on a b on_a f =
            still_on f.linked b (link_on a f.linked on_a f.finds_link)
            (by_then laws (until_gentle port Tfd ShowsIdle f.linked f.idle f.waits) (read_gentle port Sig 0x101 f.idle b f.reads))

    -- where a disk was found that isn't served, its way ends so
    pub way_shown : (state : PortState) (old new : Device) → FoundUnusableDevice state → IsOn old → StopsAndBootsOrDoesNothing port (Unready state) old new → Shown new
    way_shown Foreign old new bad on (stopped, stop, boot, early, late, sticks) =
        late_shown stopped new (on_over laws (AccessesNoOtherPort port) old stopped (stop_driven laws port old stopped stop) (laws.one_port_spares_ghc port) on) (late tt)
    way_shown (Unfit n) old new bad on (stopped, stop, boot, early, late, sticks) = ⊎_elim
        (λ (seven : n ≡ 7). early_shown (Unfit n) stopped new (λ e. let z : Unfit n ≡ Absent = e in absurd cc) begun (early (inl seven)))
        (λ (a : n ≢ 7). ⊎_elim
        (λ (eight : n ≡ 8). early_shown (Unfit n) stopped new (λ e. let z : Unfit n ≡ Absent = e in absurd cc) begun (early (inr eight)))
        (λ (b : n ≢ 8). late_shown stopped new begun (late (a, b)))
        (cases_eq n 8))
        (cases_eq n 7)
      where
        begun : IsOn stopped
        begun = on_over laws (AccessesNoOtherPort port) old stopped (stop_driven laws port old stopped stop) (laws.one_port_spares_ghc port) on
    way_shown Absent old new bad on way = absurd bad
    way_shown Ready old new bad on way = absurd bad
    way_shown Dead old new bad on way = absurd bad

  -- and so it is once all were booted
  pub taken_shown : (port : Port) (state : PortState) (ports : List ProbeResult) (old new : Device) → IsIdle old → FoundUnusableDevice state → probe_result_of ports port.0 ≡ Unready state
      → SwitchesOnBootsAndEnablesInterrupts ports old new → HasDet3IfDiskPresent (new.port port.0)
  taken_shown port state ports old new idle bad is way =
      taken_last laws (λ d. HasDet3IfDiskPresent (d.port port.0)) port (Unready state) (λ e. absurd (let z : Unready state ≡ Unserved = e in cc))
      (λ a b on through. way_shown port state a b bad on through)
      (λ a b on driven h. gently port a b on
      (driven_as (IsOfOther port.0) (IsGentle port) a b (λ access is. (laws.one_port_spares_ghc is.0 access is.2, other_spares laws port Sctl access is)) driven) h)
      (λ a b on does h. laws.disk_in_stays_shown_over_access port (Writing Ghc 0x80000002) a b on.no_reset (λ (e : Ghc ≡ Px port Sctl). absurd cc) does h)
      ports old new idle is way
