-- Ordinary accesses lose no trouble of a port.
use Rattle.std.proofs.Common.{ℕ, ◌≡◌, ◌≢◌, ◌≤◌, ◌⊎◌, ◌&&◌, not, Bool, true, false, List, [], ◌∷◌, refl, sym, ap, ◌∙◌, subst, inl, inr, ⊎_elim, arith}
use Rattle.std.specs.List.{All}
use Rattle.std.proofs.lemmas.Bool.{cases_eq}
use Rattle.std.proofs.lemmas.List.Elements.{All-cons, All-head, All-nil, All-tail}
use Rattle.ata_types.specs.declared.Port.{Port}
use Rattle.hba_regs.specs.Bits.{bit}
use Rattle.hba_regs.specs.declared.reg.Reg.TheVariants.{Ghc, Px}
use Rattle.hba_regs.specs.declared.reg.PortReg.{PortReg}
use Rattle.hba_regs.specs.declared.reg.PortReg.TheVariants as register
use Rattle.adapter.specs.Access.{Access, Does, DoesAll, Writes}
use Rattle.adapter.specs.Access.Access.{Loading, Reading, Storing, Writing}
use Rattle.adapter.specs.Device.{Device, DevicePort}
use Rattle.adapter.specs.RegisterEffects.{PortRegisterWritten}
use Rattle.adapter.specs.Rules.{IsOn}
use Rattle.refinement.specs.Relation.{port_at}
use Rattle.refinement.specs.Errors.{IsFatalEntryOf}
use Rattle.refinement.specs.PortFacts.{IsFaultOf}
use Rattle.refinement.specs.PreservedParts.{IsPlugEvent, DoesNotWrite}
use Rattle.block_machine.specs.Histories.{JointState}
use Rattle.block_machine.specs.Ports.{Evidence, Ports}
use Rattle.driver_history.specs.Histories.{LosesNoPortError}
use Rattle.driver_history.specs.Laws.{AccessLaws}
use Rattle.driver_history.specs.AccessTrace.{WritesOneToNoTroubleBit}
use Rattle.driver_history.proofs.Calm.{gains_of}
use Rattle.driver_history.proofs.Errors.{AreShown, Shows, TroubleKind, access_shows, change_still, disks, failure_still, faults, fatals, links, register_of, shown_more, shown_none, steps_show}
use Rattle.driver_history.proofs.Parting.{grows_over}

and_true : (b : Bool) → (b && true) ≡ b
and_true true = refl
and_true false = refl

-- ---- whether an access writes a kind's register

is_causes : (r : PortReg) → (r ≡ register.Is) ⊎ (r ≢ register.Is)
is_causes register.Is = inl refl
is_causes r = inr (λ q. let z : r ≡ register.Is = q in cc)

is_errors : (r : PortReg) → (r ≡ register.Serr) ⊎ (r ≢ register.Serr)
is_errors register.Serr = inl refl
is_errors r = inr (λ q. let z : r ≡ register.Serr = q in cc)

is_its : (kind : TroubleKind) (r : PortReg) → (r ≡ register_of kind) ⊎ (r ≢ register_of kind)
is_its faults r = is_causes r
is_its fatals r = is_causes r
is_its disks r = is_errors r
is_its links r = is_errors r

module _ (laws : AccessLaws) (port : Port) where
  module _ (kind : TroubleKind) where
    writes_or_spares : (access : Access) → DoesNotWrite (Px port (register_of kind)) access ⊎ ((v : ℕ) × (access ≡ Writing (Px port (register_of kind)) v))
    writes_or_spares (Writing (Px at r) v) = ⊎_elim
        (λ (same : at.0 ≡ port.0). ⊎_elim
        (λ (its : r ≡ register_of kind). inr (v, ap (λ (n : ℕ). Writing (Px (port_at n) r) v) same ∙ ap (λ (r : PortReg). Writing (Px port r) v) its))
        (λ (other : r ≢ register_of kind). inl (λ q. let z : Px at r ≡ Px port (register_of kind) = q in let e : r ≡ register_of kind = cc in other e))
        (is_its kind r))
        (λ (apart : at.0 ≢ port.0). inl (λ q. let z : Px at r ≡ Px port (register_of kind) = q in let e : at ≡ port = cc in apart (ap (λ (p : Port). p.0) e)))
        (cases_eq at.0 port.0)
    writes_or_spares (Writing r v) = inl (λ q. absurd (let z : r ≡ Px port (register_of kind) = q in cc))
    writes_or_spares (Reading r v) = inl tt
    writes_or_spares (Loading at bytes) = inl tt
    writes_or_spares (Storing at bytes) = inl tt

  -- a bit that the write leaves
  cleared_of : (was written : Bool) → written ≡ false → was ≡ true → (was && not written) ≡ true
  cleared_of was written clear set = ap (λ (b : Bool). was && not b) clear ∙ and_true was ∙ set

  -- a write of a kind's register that leaves its bits
  module _ (v : ℕ) (old new : Device) where
    module _ (x : PortRegisterWritten port.0 register.Is v old new) (leaves : WritesOneToNoTroubleBit port (Writing (Px port register.Is) v)) where
      cause_left : (place : ℕ) → 27 ≤ place → place ≤ 30 → (x.at_access.port port.0).is place ≡ true → (new.port port.0).is place ≡ true
      cause_left place low high set =
          ap (λ (p : DevicePort). p.is place) x.port_is_written
          ∙ cleared_of ((x.at_access.port port.0).is place) (bit v place) (leaves.pxis_trouble_is_kept refl place low high) set

    module _ (x : PortRegisterWritten port.0 register.Serr v old new) (leaves : WritesOneToNoTroubleBit port (Writing (Px port register.Serr) v)) where
      disk_left : (x.at_access.port port.0).serr_n ≡ true → (new.port port.0).serr_n ≡ true
      disk_left set =
          ap (λ (p : DevicePort). p.serr_n) x.port_is_written
          ∙ cleared_of (x.at_access.port port.0).serr_n (bit v 16) (leaves.serr_trouble_is_kept refl).0 set

      link_left : (x.at_access.port port.0).serr_x ≡ true → (new.port port.0).serr_x ≡ true
      link_left set =
          ap (λ (p : DevicePort). p.serr_x) x.port_is_written
          ∙ cleared_of (x.at_access.port port.0).serr_x (bit v 26) (leaves.serr_trouble_is_kept refl).1 set

    left_set : (kind : TroubleKind) → WritesOneToNoTroubleBit port (Writing (Px port (register_of kind)) v) → (x : PortRegisterWritten port.0 (register_of kind) v old new) → Shows kind (x.at_access.port port.0) → Shows kind (new.port port.0)
    left_set faults leaves x set = cause_left x leaves 30 (omega arith) (omega arith) set
    left_set fatals leaves x shown =
        let high = shown.to in
        record { place = shown.place; from = shown.from; to = high; cause_is_set = cause_left x leaves shown.place shown.from (omega (arith, high)) shown.cause_is_set }
    left_set disks leaves x set = disk_left x leaves set
    left_set links leaves x set = link_left x leaves set

    write_shows : (kind : TroubleKind) → old.hr ≡ false → WritesOneToNoTroubleBit port (Writing (Px port (register_of kind)) v) → Writes (Px port (register_of kind)) v old new → AreShown kind port.0 old new
    write_shows kind on leaves writes =
        let x = laws.port_register_written port (register_of kind) v old new writes on in
        let y = steps_show laws kind port.0 old x.at_access on x.steps in
        record {
          still = λ shown. left_set kind leaves x (y.still shown);
          came = λ g. left_set kind leaves x (y.came (record { new_entries = g.new_entries; tape_is = sym x.tape_is_as_at_access ∙ g.tape_is; entry = g.entry; entry_is_new = g.entry_is_new; entry_is_of_kind = g.entry_is_of_kind }));
        }

  one_shows : (kind : TroubleKind) (access : Access) (old new : Device) → old.hr ≡ false → WritesOneToNoTroubleBit port access → Does access old new → AreShown kind port.0 old new
  one_shows kind access old new on clears does = ⊎_elim
      (λ (spares : DoesNotWrite (Px port (register_of kind)) access). access_shows laws kind port access old new on spares does)
      (λ (w : (v : ℕ) × (access ≡ Writing (Px port (register_of kind)) v)).
      write_shows w.0 old new kind on (subst (WritesOneToNoTroubleBit port) w.1 clears) (subst (λ (a : Access). Does a old new) w.1 does))
      (writes_or_spares kind access)

  -- accesses that clear none of it, while the adapter is on
  pub accesses_show : (accesses : List Access) (old new : Device) → IsOn old → DoesAll accesses old new → All (DoesNotWrite Ghc) accesses → All (WritesOneToNoTroubleBit port) accesses → (kind : TroubleKind) → AreShown kind port.0 old new
  accesses_show [] old new on same spares clears kind = subst (AreShown kind port.0 old) (sym same) (shown_none kind port.0 old)
  accesses_show (access ∷ accesses) old new on (mid, does, rest) spares clears kind =
      let on_mid = laws.accesses_keep_adapter_on (access ∷ []) old mid on (All-cons (DoesNotWrite Ghc) access [] (All-head (DoesNotWrite Ghc) access accesses spares) (All-nil (DoesNotWrite Ghc))) (mid, does, refl) in
      shown_more kind port.0 old mid new (laws.tape.access_grows access old mid does) (grows_over laws port accesses mid new rest)
      (one_shows kind access old mid on.no_reset (All-head (WritesOneToNoTroubleBit port) access accesses clears) does)
      (accesses_show accesses mid new on_mid rest (All-tail (DoesNotWrite Ghc) access accesses spares) (All-tail (WritesOneToNoTroubleBit port) access accesses clears) kind)

  -- ---- trouble is shown

  -- what was shown is shown still, and so is what came
  pub loses_none : (old : JointState Device) (new : Device) → ((kind : TroubleKind) → AreShown kind port.0 old.device new) → (evidence : Evidence) (ports : Ports) → LosesNoPortError evidence old ports new port
  loses_none old new shows evidence ports = record {
    ready_errors_are_handled_or_shown = λ ready port_error. inr (⊎_elim
        (failure_still port.0 old.device new shows)
        (λ came. ⊎_elim (λ g. inr ((shows faults).came g)) (λ g. inl ((shows fatals).came g)) came)
        port_error);
    changes_are_handled_or_shown_unless_dead = λ tends port_error. inr (⊎_elim (change_still port.0 old.device new shows) (λ g. inl ((shows disks).came g)) port_error);
    ready_shows_fault_since_start = λ ready g. (shows faults).came (gains_of port.0 (IsFaultOf port.0) old.device new g);
    ready_shows_fatal_since_start = λ ready g. (shows fatals).came (gains_of port.0 (IsFatalEntryOf port.0) old.device new g);
    ready_shows_plug_event_since_start = λ ready g. (shows disks).came (gains_of port.0 (IsPlugEvent port.0) old.device new g);
  }
