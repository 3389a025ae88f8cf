-- Of a ready port a device was seen, or none so often as a boot looks for one; and so it stays while the port is mended.
use Rattle.std.proofs.Common.{◌≡◌, List, [], ◌∷◌, refl, sym, subst}
use Rattle.std.specs.List.{All}
use Rattle.std.proofs.lemmas.List.Elements.{All-head, All-tail}
use Rattle.ata_types.specs.declared.Port.{Port}
use Rattle.ata_types.specs.declared.limits.TheConstants.{MOST_READINGS}
use Rattle.hba_regs.specs.declared.reg.Reg.TheVariants.{Ghc}
use Rattle.adapter.specs.Access.{Access, DoesAll}
use Rattle.adapter.specs.Device.{Device}
use Rattle.adapter.specs.Rules.{IsOn}
use Rattle.refinement.specs.PreservedParts.{DoesNotWrite}
use Rattle.error_recovery.specs.Recovery.{IsRecoveryAccess}
use Rattle.server_history.specs.Prerequisites.{PrerequisiteLaws}
use Rattle.server_history.proofs.recovery_turn.LinkResets.{recovering_spares}
use Rattle.server_history.proofs.state.RunningPorts.{link_still}

pub saw_still : PrerequisiteLaws → (port : Port) (accesses : List Access) (old new : Device) → All (IsRecoveryAccess port) accesses → DoesAll accesses old new → IsOn old
    → (old.port port.0).notes.link_wait_count ≡ MOST_READINGS → (new.port port.0).notes.link_wait_count ≡ MOST_READINGS
saw_still laws port [] old new only is on saw = subst (λ (d : Device). (d.port port.0).notes.link_wait_count ≡ MOST_READINGS) (sym is) saw
saw_still laws port (access ∷ accesses) old new only (mid, does, rest) on saw =
    let its = All-head (IsRecoveryAccess port) access accesses only in
    let spares = laws.one_port_spares_ghc port access (laws.recovery_access_is_of_port port access its) in
    saw_still laws port accesses mid new (All-tail (IsRecoveryAccess port) access accesses only) rest
    (laws.port_event_laws.access_keeps_on access old mid on (λ v e. absurd (subst (DoesNotWrite Ghc) e spares refl)) does)
    (link_still laws port access old mid on (recovering_spares laws port access its) does saw)
