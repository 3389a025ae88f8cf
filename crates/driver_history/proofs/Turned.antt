-- A port's turn in a call: what its trouble then is in the whole, and what was done of its disk.
use Rattle.std.proofs.Common.{◌≡◌, ◌≢◌, ◌⊎◌, ◌<◌, ◌≤◌, ◌+◌, ◌++◌, true, false, List, [], ◌∷◌, subst, length, refl, sym, ap, ◌∙◌, inl, inr, ⊎_elim, append_assoc, length-append, arith}
use Rattle.std.specs.List.{All}
use Rattle.std.proofs.lemmas.Bool.{cases_Bool, cases_eq, false≢true}
use Rattle.std.proofs.lemmas.List.{append_cancel_left}
use Rattle.std.proofs.lemmas.List.Elements.{All-weaker, Contains-append_right}
use Rattle.ata_types.specs.declared.Port.{Port}
use Rattle.ata_types.specs.declared.PortState.TheVariants.{Absent, Dead, Ready}
use Rattle.hba_regs.specs.declared.reg.Reg.TheVariants.{Ghc, Px}
use Rattle.hba_regs.specs.declared.reg.PortReg.TheVariants.{Cmd, Sctl}
use Rattle.adapter.specs.Access.{Access, Does, DoesAll}
use Rattle.adapter.specs.Device.{Device, DevicePort}
use Rattle.adapter.specs.Rules.{IsOn}
use Rattle.adapter.specs.declared.tape.Entry.{Entry}
use Rattle.refinement.specs.Fragments.{TapeGrows}
use Rattle.refinement.specs.Errors.{ErrorBitsRiseByErrors, IsFatalEntryOf, NoDiskComes, NoFatalErrors}
use Rattle.refinement.specs.PortFacts.{IsFaultOf}
use Rattle.refinement.specs.PreservedParts.{HasDet3IfDiskPresent, IsPlugEvent, NoPlugEvents, DoesNotWrite}
use Rattle.refinement.specs.Vacant.{HasFirstFisIfDet3, IsVacant}
use Rattle.block_machine.specs.Events.{AbstractState, AbstractCallResult, Service}
use Rattle.block_machine.specs.Histories.{JointState}
use Rattle.block_machine.specs.Ports.{Evidence, IsStoppedOrStuck, Ports, SamePort}
use Rattle.error_recovery.specs.Evidence.{GainsSinceStart, ShowsFatal}
use Rattle.driver_history.specs.Evidence.{TapeGainsEntry, ShowsLinkChange, ShowsFailure}
use Rattle.driver_history.specs.Histories.{BootsAnewWhereRequired, IsForeignOrUnfit, HasOnlyTaskFileError, HasFirstFisOrNoDevice, LosesNoPortError, RunsWellAnew, IsServedAndNotDead, ProbesDisk}
use Rattle.driver_history.specs.Laws.{AccessLaws}
use Rattle.driver_history.specs.PortTurn.{NoLinkDueAfterXUnlessAbsentDeadOrDiskComes, HasTurnIn, KeepsToAnotherPort, EvidenceAgreesOn, call_accesses}
use Rattle.driver_history.specs.AccessTrace.{LastSctlWritesResetLink}
use Rattle.driver_history.proofs.Parting.{IsLeft, gains_within, grows_over, loss_then, others_leave, plugged_or_not}
use Rattle.driver_history.proofs.Since.{calm_since, running_in_part}
use Rattle.driver_history.proofs.Errors.{IsOne, Shows, Tells, TroubleKind, change_still, disks, failure_still, faults, fatals, in_parts, is_trouble, links, tells_still, told}
use Rattle.driver_history.proofs.Within.{parts_at, reset_after, reset_before, reset_within}

-- what the tape gained, as a list in two parts or three
gained_at : (Such : Entry → Type 0) (old new : Device) (before : List Entry) (e : Entry) (later : List Entry) → new.tape ≡ old.tape ++ (before ++ e ∷ later) → Such e → TapeGainsEntry Such old new
gained_at Such old new before e later tape is = record {
  new_entries = before ++ e ∷ later;
  tape_is = tape;
  entry = e;
  entry_is_new = Contains-append_right before (e ∷ later) e (0, omega arith, refl);
  entry_is_of_kind = is;
}

fresh_or_gone : (p : DevicePort) → HasFirstFisIfDet3 p → HasFirstFisOrNoDevice p
fresh_or_gone p fresh = ⊎_elim (λ (shows : p.ssts_det ≡ 3). inl (fresh shows)) (λ gone. inr gone) (cases_eq p.ssts_det 3)

fresh_if_shown : (p : DevicePort) → HasFirstFisOrNoDevice p → HasFirstFisIfDet3 p
fresh_if_shown p fresh shows = ⊎_elim (λ came. came) (λ gone. absurd (gone shows)) fresh

module _ (laws : AccessLaws) (port : Port) where
  -- what each access leaves of the port where no disk of it comes, accesses one after another do
  stays_over : (P : DevicePort → Type 0) → ((access : Access) (old new : Device) → NoDiskComes port.0 old new → Does access old new → P (old.port port.0) → P (new.port port.0))
      → (accesses : List Access) (old new : Device) → DoesAll accesses old new → NoDiskComes port.0 old new → P (old.port port.0) → P (new.port port.0)
  stays_over P one [] old new same none so = subst (λ (d : Device). P (d.port port.0)) (sym same) so
  stays_over P one (access ∷ accesses) old new (mid, does, rest) none so =
      let early = laws.tape.access_grows access old mid does in
      let late = grows_over laws port accesses mid new rest in
      let parts = laws.tape.no_disk_comes_in_parts port.0 old mid new early.0 late.0 early.1 late.1 none in
      stays_over P one accesses mid new rest parts.1 (one access old mid parts.0 does so)

  -- where none was shown, and none came, none is shown
  no_fatal_then : (old new : Device) → ErrorBitsRiseByErrors port.0 old new → NoFatalErrors port.0 old new → (ShowsFatal (old.port port.0) → ⊥) → ShowsFatal (new.port port.0) → ⊥
  no_fatal_then old new rises none clear shown =
      let low = shown.from in
      let high = shown.to in
      ⊎_elim
      (λ (set : (old.port port.0).is shown.place ≡ true). clear (record { place = shown.place; from = low; to = high; cause_is_set = set }))
      (λ (off : (old.port port.0).is shown.place ≡ false). false≢true (sym (rises.fatal none shown.place low high off) ∙ shown.cause_is_set))
      (cases_Bool ((old.port port.0).is shown.place))

  module _ (old : JointState Device) (begun : AbstractState) (new : Device) (on : IsOn old.device) (t : HasTurnIn port old.device new) (on_then : IsOn t.end) where
    first : IsLeft laws port old.device t.start
    first = others_leave laws port t.before old.device t.start on t.leads_to_start t.earlier_are_of_others

    last : IsLeft laws port t.end new
    last = others_leave laws port t.later t.end new on_then t.leads_to_new t.later_are_of_others

    middle : TapeGrows t.start t.end
    middle = grows_over laws port t.turn t.start t.end t.turn_leads_to_end

    since : TapeGrows t.start new
    since = laws.tape.growth_is_transitive t.start t.end new middle last.grows

    abbrev began : JointState Device
    began = record { device = t.start; abstract = begun }

    -- ---- what didn't come in the call didn't in the turn

    plug_parts : NoPlugEvents port.0 old.device new → NoPlugEvents port.0 old.device t.start × NoPlugEvents port.0 t.start t.end
    plug_parts none =
        let a = laws.tape.no_plug_events_in_parts port.0 old.device t.start new first.grows.0 since.0 first.grows.1 since.1 none in
        (a.0, (laws.tape.no_plug_events_in_parts port.0 t.start t.end new middle.0 last.grows.0 middle.1 last.grows.1 a.1).0)

    -- ---- and what was done then was done in the whole

    module _ (ended ports : Ports) (stays : SamePort ended ports port) where
      -- boots

      spares_other : (accesses : List Access) → All (KeepsToAnotherPort port) accesses → All (DoesNotWrite (Px port Sctl)) accesses
      spares_other accesses of = All-weaker (KeepsToAnotherPort port) (DoesNotWrite (Px port Sctl)) (λ access x. laws.one_port_spares_registers x.0 port Sctl x.1 access x.2) accesses of

      reset_in_call : LastSctlWritesResetLink port t.turn → LastSctlWritesResetLink port (call_accesses t)
      reset_in_call r = reset_within port t.before t.turn t.later (spares_other t.later t.later_are_of_others) r

      reset_in_turn : LastSctlWritesResetLink port (call_accesses t) → LastSctlWritesResetLink port t.turn
      reset_in_turn r = reset_before port t.turn t.later (spares_other t.later t.later_are_of_others) (reset_after port t.before (t.turn ++ t.later) (spares_other t.before t.earlier_are_of_others) r)

      pub boots_are_the_calls : (one other : AbstractCallResult) → (old.abstract.ports.state port ≡ Ready → (old.device.port port.0).link_due ≡ false) → SamePort old.abstract.ports begun.ports port → BootsAnewWhereRequired Service one t.turn began ended t.end port
          → BootsAnewWhereRequired Service other (call_accesses t) old ports new port
      boots_are_the_calls one other undue was its = (
        λ ready port_error. booted (its.0 (was.1 ∙ ready) (⊎_elim
            (λ fatal. inl ((first.trouble_shown fatals).still fatal))
            (λ loss. inr (loss_then laws port old.device new on (undue ready) t loss))
            port_error)),
        ⊎_elim
            (λ (same : SamePort begun.ports ended port). inl (
              stays.0 ∙ same.0 ∙ was.0,
              stays.1 ∙ same.1 ∙ was.1,
              stays.2 ∙ same.2 ∙ was.2,
              stays.3 ∙ same.3 ∙ was.3,
              stays.4 ∙ same.4 ∙ was.4,
              stays.5 ∙ same.5 ∙ was.5,
            ))
            (λ anew. inr (booted anew))
            its.1,
      )
        where
          booted : (ended.state port ≡ Dead) ⊎ ((ended.state port ≡ Absent) ⊎ LastSctlWritesResetLink port t.turn) → (ports.state port ≡ Dead) ⊎ ((ports.state port ≡ Absent) ⊎ LastSctlWritesResetLink port (call_accesses t))
          booted anew = ⊎_elim (λ dead. inl (stays.1 ∙ dead)) (λ rest. inr (⊎_elim (λ absent. inl (stays.1 ∙ absent)) (λ r. inr (reset_in_call r)) rest)) anew

      -- a disk that is tried

      -- no disk came in the parts
      comes : NoDiskComes port.0 old.device new → NoDiskComes port.0 old.device t.start × NoDiskComes port.0 t.start t.end × NoDiskComes port.0 t.end new
      comes none =
          let a = laws.tape.no_disk_comes_in_parts port.0 old.device t.start new first.grows.0 since.0 first.grows.1 since.1 none in
          let b = laws.tape.no_disk_comes_in_parts port.0 t.start t.end new middle.0 last.grows.0 middle.1 last.grows.1 a.1 in
          (a.0, b.0, b.1)

      bad_then : SamePort old.abstract.ports begun.ports port → IsForeignOrUnfit old.abstract.ports port → IsForeignOrUnfit begun.ports port
      bad_then was bad = ⊎_elim (λ foreign. inl (was.1 ∙ foreign)) (λ unfit. inr (unfit.0, was.1 ∙ unfit.1)) bad

      -- X that was shown is shown still
      x_then : (old.device.port port.0).serr_x ≡ true → (t.start.port port.0).serr_x ≡ true
      x_then x = (first.trouble_shown links).still x

      pub linked_is_the_calls : SamePort old.abstract.ports begun.ports port → NoLinkDueAfterXUnlessAbsentDeadOrDiskComes port began ended t.end → NoLinkDueAfterXUnlessAbsentDeadOrDiskComes port old ports new
      linked_is_the_calls was linked bad x none =
          let parts = comes none in
          ⊎_elim
          (λ absent. inl (stays.1 ∙ absent))
          (λ rest. inr (⊎_elim (λ dead. inl (stays.1 ∙ dead)) (λ undue. inr (last.undue undue)) rest))
          (linked (bad_then was bad) (x_then x) parts.1)

      -- the disk's first FIS has come, or no device shows, at the call's end, where it has at the turn's
      fresh_still : NoDiskComes port.0 t.end new → HasFirstFisOrNoDevice (t.end.port port.0) → HasFirstFisOrNoDevice (new.port port.0)
      fresh_still none fresh = fresh_or_gone (new.port port.0) (stays_over HasFirstFisIfDet3 (laws.first_fis_if_det_3_stays_if_no_disk_comes port) t.later t.end new t.leads_to_new none (fresh_if_shown (t.end.port port.0) fresh))

      pub tries_are_the_calls : SamePort old.abstract.ports begun.ports port → (IsForeignOrUnfit old.abstract.ports port → HasDet3IfDiskPresent (old.device.port port.0)) → NoLinkDueAfterXUnlessAbsentDeadOrDiskComes port began ended t.end
          → (NoDiskComes port.0 t.start t.end → ProbesDisk t.turn began ended t.end port) → NoDiskComes port.0 old.device new → ProbesDisk (call_accesses t) old ports new port
      tries_are_the_calls was there linked tried none = record {
        absent_with_device_is_booted_dead_or_has_plug_event = λ absent shows. ⊎_elim
            (λ gained. inr (inr (gains_within (IsPlugEvent port.0) old.device old.device t.start new (laws.tape.growth_is_reflexive old.device) since gained)))
            (λ still. ⊎_elim
            (λ dead. inl (stays.1 ∙ dead))
            (λ rest. inr (⊎_elim (λ r. inl (reset_in_call r)) (λ gained. inr (gains_within (IsPlugEvent port.0) old.device t.start t.end new first.grows last.grows gained)) rest))
            (its.absent_with_device_is_booted_dead_or_has_plug_event (was.1 ∙ absent) (first.shown still shows)))
            (plugged_or_not port.0 old.device t.start first.grows);
        absent_gets_first_fis_or_dead_or_no_device = λ absent shows stale. ⊎_elim
            (λ (shows_then : (t.start.port port.0).ssts_det ≡ 3). ⊎_elim
            (λ (fresh : (t.start.port port.0).fresh ≡ true). inr (from_start (λ _. fresh)))
            (λ (stale_then : (t.start.port port.0).fresh ≡ false). ⊎_elim (λ dead. inl (stays.1 ∙ dead)) (λ fresh. inr (fresh_still parts.2 fresh)) (its.absent_gets_first_fis_or_dead_or_no_device (was.1 ∙ absent) shows_then stale_then))
            (cases_Bool (t.start.port port.0).fresh))
            (λ (gone : (t.start.port port.0).ssts_det ≢ 3). inr (from_start (λ shows_then. absurd (gone shows_then))))
            (cases_eq (t.start.port port.0).ssts_det 3);
        missing_disk_makes_absent_or_dead = λ bad out. ⊎_elim (λ absent. inl (stays.1 ∙ absent)) (λ dead. inr (stays.1 ∙ dead)) (its.missing_disk_makes_absent_or_dead (bad_then was bad) (vacant_then bad out).det_is_not_3);
        changed_disk_is_booted_or_absent_or_dead = λ bad x. ⊎_elim
            (λ absent. inl (stays.1 ∙ absent))
            (λ rest. ⊎_elim
            (λ dead. inr (inl (stays.1 ∙ dead)))
            (λ anew. ⊎_elim
            (λ absent. inl (stays.1 ∙ absent))
            (λ more. inr (⊎_elim
            (λ dead. inl (stays.1 ∙ dead))
            (λ undue. inr (reset_in_call anew.0, (last.disks undue).serr_x_rises_by_disk_coming parts.2 anew.1, fresh_still parts.2 anew.2))
            more))
            (linked (bad_then was bad) (x_then x) parts.1))
            rest)
            (its.changed_disk_is_booted_or_absent_or_dead (bad_then was bad) (x_then x));
      }
        where
          parts : NoDiskComes port.0 old.device t.start × NoDiskComes port.0 t.start t.end × NoDiskComes port.0 t.end new
          parts = comes none

          its : ProbesDisk t.turn began ended t.end port
          its = tried parts.1

          -- what is so of the disk's first FIS when the turn begins is so at the call's end
          from_start : HasFirstFisIfDet3 (t.start.port port.0) → HasFirstFisOrNoDevice (new.port port.0)
          from_start fresh = fresh_or_gone (new.port port.0)
              (stays_over HasFirstFisIfDet3 (laws.first_fis_if_det_3_stays_if_no_disk_comes port) t.later t.end new t.leads_to_new parts.2 (stays_over HasFirstFisIfDet3 (laws.first_fis_if_det_3_stays_if_no_disk_comes port) t.turn t.start t.end t.turn_leads_to_end parts.1 fresh))

          -- where no disk was in, none is when the turn begins
          vacant_then : IsForeignOrUnfit old.abstract.ports port → (old.device.port port.0).ssts_det ≢ 3 → IsVacant (t.start.port port.0)
          vacant_then bad out = stays_over IsVacant (laws.vacant_port_stays_vacant_if_no_disk_comes port) t.before old.device t.start t.leads_to_start parts.0
              (⊎_elim (λ (shows : (old.device.port port.0).ssts_det ≡ 3). absurd (out shows)) (λ gone. record { no_disk_is_in = gone; det_is_not_3 = out }) (there bad))

      module _ (turn call : Evidence) (alike : EvidenceAgreesOn port turn call) where
        named : IsStoppedOrStuck turn port → IsStoppedOrStuck call port
        named i = ⊎_elim (λ stopped. inl (alike.stopped.0 stopped)) (λ stuck. inr (alike.stuck.0 stuck)) i

        unnamed : IsStoppedOrStuck call port → IsStoppedOrStuck turn port
        unnamed i = ⊎_elim (λ stopped. inl (alike.stopped.1 stopped)) (λ stuck. inr (alike.stuck.1 stuck)) i

        -- the tape, as what the three parts of the call gained
        whole_tape : new.tape ≡ old.device.tape ++ (first.grows.0 ++ (middle.0 ++ last.grows.0))
        whole_tape = last.grows.1 ∙ ap (λ (tape : List Entry). tape ++ last.grows.0) (middle.1 ∙ ap (λ (tape : List Entry). tape ++ middle.0) first.grows.1)
            ∙ append_assoc (old.device.tape ++ first.grows.0) middle.0 last.grows.0 ∙ append_assoc old.device.tape first.grows.0 (middle.0 ++ last.grows.0)

        -- an entry that the call gained came before the turn, in it, or after it
        module _ (Such : Entry → Type 0) (Result : Type 0) (before : List Entry) (e : Entry) (later : List Entry) (tape : new.tape ≡ old.device.tape ++ (before ++ e ∷ later)) (is : Such e)
            (early : TapeGainsEntry Such old.device t.start → length old.device.tape + length before < length t.start.tape → Result)
            (within : (ahead rest : List Entry) → t.end.tape ≡ t.start.tape ++ (ahead ++ e ∷ rest) → length old.device.tape + length before ≡ length t.start.tape + length ahead → Result)
            (late : TapeGainsEntry Such t.end new → Result) where
          by_parts : Result
          by_parts = ⊎_elim
              (λ (i : (rest : List Entry) × (first.grows.0 ≡ before ++ e ∷ rest) × (later ≡ rest ++ (middle.0 ++ last.grows.0))).
              let tape_then : t.start.tape ≡ old.device.tape ++ (before ++ e ∷ i.0) = first.grows.1 ∙ ap (λ (xs : List Entry). old.device.tape ++ xs) i.1 in
              let long = ap (λ (xs : List Entry). length xs) tape_then ∙ length-append old.device.tape (before ++ e ∷ i.0) in
              let more = length-append before (e ∷ i.0) in
              early (gained_at Such old.device t.start before e i.0 tape_then is) (omega (arith, long, more)))
              (λ (o : (ahead : List Entry) × (before ≡ first.grows.0 ++ ahead) × (middle.0 ++ last.grows.0 ≡ ahead ++ e ∷ later)).
              ⊎_elim
              (λ (i : (rest : List Entry) × (middle.0 ≡ o.0 ++ e ∷ rest) × (later ≡ rest ++ last.grows.0)).
              let long = ap (λ (xs : List Entry). length xs) first.grows.1 ∙ length-append old.device.tape first.grows.0 in
              let more = ap (λ (xs : List Entry). length xs) o.1 ∙ length-append first.grows.0 o.0 in
              within o.0 i.0 (middle.1 ∙ ap (λ (xs : List Entry). t.start.tape ++ xs) i.1) (omega (arith, long, more)))
              (λ (p : (ahead : List Entry) × (o.0 ≡ middle.0 ++ ahead) × (last.grows.0 ≡ ahead ++ e ∷ later)).
              late (gained_at Such t.end new p.0 e later (last.grows.1 ∙ ap (λ (xs : List Entry). t.end.tape ++ xs) p.2) is))
              (parts_at middle.0 last.grows.0 o.0 later e o.2))
              (parts_at first.grows.0 (middle.0 ++ last.grows.0) before later e (append_cancel_left old.device.tape (first.grows.0 ++ (middle.0 ++ last.grows.0)) (before ++ e ∷ later) (sym whole_tape ∙ tape)))

        module _ (was : SamePort old.abstract.ports begun.ports port) (set_since : ended.state port ≡ Ready → IsStoppedOrStuck turn port → length t.start.tape ≤ (t.end.port port.0).notes.st_set_at)
            (stops : (begun.ports.state port ≡ Ready) ⊎ (ended.state port ≡ Ready) → ShowsFailure (t.start.port port.0) ⊎ ShowsLinkChange (t.start.port port.0) → IsStoppedOrStuck turn port) (its : LosesNoPortError turn began ended t.end port) where
          -- trouble that came before the turn stopped a ready port in it
          stopped : (begun.ports.state port ≡ Ready) ⊎ (ended.state port ≡ Ready) → (kind : TroubleKind) → TapeGainsEntry (IsOne kind port.0) old.device t.start → IsStoppedOrStuck turn port
          stopped ready kind early = stops ready (is_trouble kind (t.start.port port.0) (told kind (t.start.port port.0) ((first.trouble_shown kind).came early)))

          -- what is told at the turn's end is so at the call's, unless the port was stopped
          still : (kind : TroubleKind) → IsStoppedOrStuck turn port ⊎ Tells kind (t.end.port port.0) → IsStoppedOrStuck call port ⊎ Tells kind (new.port port.0)
          still kind it = ⊎_elim (λ i. inl (named i)) (λ tells. inr (tells_still kind port.0 t.end new last.trouble_shown tells)) it

          -- what came in the call is shown at its end, where what was told, or came, in the turn is told at the end of that, unless the port was stopped
          came : (kind : TroubleKind) → (Tells kind (t.start.port port.0) ⊎ TapeGainsEntry (IsOne kind port.0) t.start t.end → IsStoppedOrStuck turn port ⊎ Tells kind (t.end.port port.0)) → TapeGainsEntry (IsOne kind port.0) old.device new
              → IsStoppedOrStuck call port ⊎ Tells kind (new.port port.0)
          came kind then g = ⊎_elim
              (λ early. still kind (then (inl (told kind (t.start.port port.0) ((first.trouble_shown kind).came early)))))
              (λ rest. ⊎_elim
              (λ within. still kind (then (inr within)))
              (λ late. inr (told kind (new.port port.0) ((last.trouble_shown kind).came late)))
              (in_parts (IsOne kind port.0) t.start t.end new middle last.grows rest))
              (in_parts (IsOne kind port.0) old.device t.start new first.grows since g)

          -- and what came since ST was set is shown
          came_since : (kind : TroubleKind) → (ended.state port ≡ Ready → GainsSinceStart (IsOne kind port.0) port.0 t.start t.end → Shows kind (t.end.port port.0)) → ports.state port ≡ Ready
              → GainsSinceStart (IsOne kind port.0) port.0 old.device new → Shows kind (new.port port.0)
          came_since kind its_own ready g =
              let at : (new.port port.0).notes.st_set_at ≡ (t.end.port port.0).notes.st_set_at = ap (λ n. n.st_set_at) last.leaves.notes in
              let least = g.came_since_start in
              let is_ready : ended.state port ≡ Ready = sym stays.1 ∙ ready in
              by_parts (IsOne kind port.0) (Shows kind (new.port port.0)) g.before g.entry g.later g.tape_grows g.is_of_kind
              (λ early small. let set = set_since is_ready (stopped (inr is_ready) kind early) in absurd (omega (arith, at, least, set, small)))
              (λ ahead rest tape place.
              (last.trouble_shown kind).still (its_own is_ready (record { before = ahead; entry = g.entry; later = rest; tape_grows = tape; is_of_kind = g.is_of_kind; came_since_start = omega (arith, at, least, place) })))
              (last.trouble_shown kind).came

          pub trouble_is_the_calls : LosesNoPortError call old ports new port
          trouble_is_the_calls = record {
            ready_errors_are_handled_or_shown = λ ready port_error. ⊎_elim
                (λ shown. still faults (its.ready_errors_are_handled_or_shown (was.1 ∙ ready) (inl (failure_still port.0 old.device t.start first.trouble_shown shown))))
                (λ g. ⊎_elim
                (came faults (λ it. its.ready_errors_are_handled_or_shown (was.1 ∙ ready) (⊎_elim (λ tells. inl tells) (λ g. inr (inl g)) it)))
                (came fatals (λ it. its.ready_errors_are_handled_or_shown (was.1 ∙ ready) (⊎_elim (λ tells. inl tells) (λ g. inr (inr g)) it)))
                g)
                port_error;
            changes_are_handled_or_shown_unless_dead = λ tends port_error.
                let tends_then : IsServedAndNotDead begun.ports port = (was.0 ∙ tends.0, λ dead. tends.1 (sym was.1 ∙ dead)) in
                ⊎_elim
                (λ shown. still disks (its.changes_are_handled_or_shown_unless_dead tends_then (inl (change_still port.0 old.device t.start first.trouble_shown shown))))
                (came disks (its.changes_are_handled_or_shown_unless_dead tends_then))
                port_error;
            ready_shows_fault_since_start = came_since faults its.ready_shows_fault_since_start;
            ready_shows_fatal_since_start = came_since fatals its.ready_shows_fatal_since_start;
            ready_shows_plug_event_since_start = came_since disks its.ready_shows_plug_event_since_start;
          }

        pub well_is_the_calls : (ended.state port ≡ Ready → ((old.device.port port.0).link_due ≡ false) ⊎ LastSctlWritesResetLink port t.turn) → (ended.state port ≡ Ready → (t.end.port port.0).notes.st_set_at ≤ length t.end.tape) → RunsWellAnew turn t.turn began ended t.end port
            → RunsWellAnew call (call_accesses t) old ports new port
        well_is_the_calls linked known its i ready plugs unfailed unbroken how =
            let is_ready : ended.state port ≡ Ready = sym stays.1 ∙ ready in
            let same : (new.port port.0).notes.st_set_at ≡ (t.end.port port.0).notes.st_set_at = ap (λ n. n.st_set_at) last.leaves.notes in
            let small = known is_ready in
            let parts = plug_parts plugs in
            let up : LastSctlWritesResetLink port t.turn ⊎ ((t.start.port port.0).fresh ≡ true) = ⊎_elim (λ r. inl (reset_in_turn r)) (λ fresh. ⊎_elim (λ undue. inr (first.fresh undue parts.0 ∙ fresh)) (λ r. inl r) (linked is_ready)) how in
            laws.stays_well_if_undisturbed port.0 t.end new
            (laws.runs_on_after_accesses port t.later t.end new on_then t.leads_to_new
            (All-weaker (KeepsToAnotherPort port) (DoesNotWrite Ghc) (λ access x. laws.one_port_spares_ghc x.0 access x.2) t.later t.later_are_of_others)
            (spares_other t.later t.later_are_of_others)
            (All-weaker (KeepsToAnotherPort port) (DoesNotWrite (Px port Cmd)) (λ access x. laws.one_port_spares_registers x.0 port Cmd x.1 access x.2) t.later t.later_are_of_others))
            (calm_since laws port.0 old.device t.end new (laws.tape.growth_is_transitive old.device t.start t.end first.grows middle) last.grows (omega (arith, same, small)) plugs unfailed unbroken)
            (its (unnamed i) is_ready parts.1
            (λ g. unfailed (running_in_part (IsFaultOf port.0) port.0 old.device t.start t.end new first.grows last.grows same g))
            (λ g. unbroken (running_in_part (IsFatalEntryOf port.0) port.0 old.device t.start t.end new first.grows last.grows same g))
            up)

-- ---- a plain request's fault

module _ (laws : AccessLaws) (port : Port) (old : JointState Device) (begun : AbstractState) (new : Device) (on : IsOn old.device) (undue : (old.device.port port.0).link_due ≡ false) (t : HasTurnIn port old.device new) (on_then : IsOn t.end)
    (ready_then : begun.ports.state port ≡ Ready) (alone : HasOnlyTaskFileError port old new) where
  first_left : IsLeft laws port old.device t.start
  first_left = others_leave laws port t.before old.device t.start on t.leads_to_start t.earlier_are_of_others

  parts : NoPlugEvents port.0 old.device t.start × NoPlugEvents port.0 t.start t.end
  parts = plug_parts laws port old begun new on t on_then alone.no_plug_events

  -- no change of its link is shown when the turn begins, since none was
  unchanged : ShowsLinkChange (t.start.port port.0) → ⊥
  unchanged shown = alone.shows_only_tfes.no_change_is_shown (⊎_elim
      (λ n. inl (⊎_elim (λ set. set) (λ clear. absurd (false≢true (sym ((first_left.disks undue).serr_n_rises_by_plug_events parts.0 clear) ∙ n))) (cases_Bool (old.device.port port.0).serr_n)))
      (λ x. inr (⊎_elim (λ set. set) (λ clear. absurd (false≢true (sym ((first_left.disks undue).serr_x_rises_by_disk_coming (laws.tape.no_plug_event_no_disk port.0 old.device t.start parts.0) clear) ∙ x))) (cases_Bool (old.device.port port.0).serr_x)))
      shown)

  -- where TFES alone is shown, with no other trouble in the call, so it is in its turn
  pub alone_then : HasOnlyTaskFileError port (record { device = t.start; abstract = begun }) t.end
  alone_then =
      let middle = grows_over laws port t.turn t.start t.end t.turn_leads_to_end in
      let last = grows_over laws port t.later t.end new t.leads_to_new in
      let since = laws.tape.growth_is_transitive t.start t.end new middle last in
      let a = laws.tape.no_fatal_errors_in_parts port.0 old.device t.start new first_left.grows.0 since.0 first_left.grows.1 since.1 alone.none_is_fatal in
      record {
        ready = ready_then;
        shows_only_tfes = record {
          tfes_is_set = (first_left.trouble_shown faults).still alone.shows_only_tfes.tfes_is_set;
          no_fatal_is_shown = no_fatal_then laws port old.device t.start first_left.errors a.0 alone.shows_only_tfes.no_fatal_is_shown;
          no_change_is_shown = unchanged;
          device_is_shown = first_left.shows undue parts.0 ∙ alone.shows_only_tfes.device_is_shown;
        };
        none_is_fatal = (laws.tape.no_fatal_errors_in_parts port.0 t.start t.end new middle.0 last.0 middle.1 last.1 a.1).0;
        no_plug_events = parts.1;
      }
