-- A port of which a look told no loss showed a device: so it had a disk when the turn began, or one went or came in it.
use Rattle.std.proofs.Common.{ℕ, ◌≡◌, ◌≢◌, ◌⊎◌, ◌++◌, true, false, List, [], ◌∷◌, append_assoc, inl, inr, refl, sym, ap, ◌∙◌, subst, ⊎_elim}
use Rattle.std.specs.List.{Contains, list_any}
use Rattle.std.proofs.lemmas.Bool.{cases_Bool, cases_eq, false≢true}
use Rattle.std.proofs.lemmas.List.{append_cancel_left}
use Rattle.std.proofs.lemmas.List.Elements.{All-weaker, Contains-append_left}
use Rattle.ata_types.specs.declared.Port.{Port}
use Rattle.hba_regs.specs.declared.reg.PortReg.TheVariants.{Is, Ssts}
use Rattle.hba_regs.specs.declared.reg.Reg.TheVariants as reg
use Rattle.hba_regs.specs.declared.reg.Reg.TheVariants.{Ghc, Px}
use Rattle.adapter.specs.Access.{Access, Does, DoesAll}
use Rattle.adapter.specs.Access.Access.{Reading, Writing}
use Rattle.adapter.specs.Device.{Device, DevicePort}
use Rattle.adapter.specs.Rules.{IsOn}
use Rattle.adapter.specs.declared.tape.Entry.{Entry}
use Rattle.adapter.specs.declared.tape.Entry.TheVariants as entry
use Rattle.refinement.specs.Fragments.{TapeGrows}
use Rattle.refinement.specs.Driver.{TapeBacksSteps}
use Rattle.refinement.specs.Errors.{IsDiskComing, NoDiskComes}
use Rattle.refinement.specs.PreservedParts.{IsPlugEvent, NoPlugEvents, DoesNotWrite}
use Rattle.block_machine.specs.Events.{changes_disk}
use Rattle.block_machine.specs.State.{Machine}
use Rattle.block_machine.specs.Steps.{Step}
use Rattle.port_control.specs.PortEvents.{TakesEvent}
use Rattle.port_control.specs.declared.events.PortEvent.{PortEvent}
use Rattle.server_history.specs.Prerequisites.{PrerequisiteLaws}
use Rattle.server_history.proofs.any_turn.ShownTrouble.{grows_over}
use Rattle.server_history.specs.ServerState.{ServerState, MachineRelation}
use Rattle.server_history.proofs.any_turn.ToldTrouble.{one_or_none, shows_link}
use Rattle.port_control.specs.declared.events.PortEvent.TheVariants.{LinkChanged}

-- ---- disks that come

is_coming : (port : ℕ) (e : Entry) → IsDiskComing port e ⊎ (IsDiskComing port e → ⊥)
is_coming port (entry.Plug at name) = cases_eq at.0 port
is_coming port (entry.Unplug at) = inr (λ is. is)
is_coming port (entry.Move x) = inr (λ is. is)
is_coming port (entry.Clear x) = inr (λ is. is)
is_coming port (entry.Done x) = inr (λ is. is)
is_coming port (entry.Fault x) = inr (λ is. is)
is_coming port (entry.Fatal x) = inr (λ is. is)

coming_plugs : (port : ℕ) (e : Entry) → IsDiskComing port e → IsPlugEvent port e
coming_plugs port (entry.Plug at name) is = is
coming_plugs port (entry.Unplug at) is = absurd is
coming_plugs port (entry.Move x) is = absurd is
coming_plugs port (entry.Clear x) is = absurd is
coming_plugs port (entry.Done x) is = absurd is
coming_plugs port (entry.Fault x) is = absurd is
coming_plugs port (entry.Fatal x) is = absurd is

-- where no disk goes or comes, none comes
pub none_comes : (port : ℕ) (old new : Device) → NoPlugEvents port old new → NoDiskComes port old new
none_comes port old new none = record {
  new_entries = none.new_entries;
  tape_is = none.tape_is;
  no_such_entry = All-weaker (λ e. IsPlugEvent port e → ⊥) (λ e. IsDiskComing port e → ⊥) (λ e plugs is. plugs (coming_plugs port e is)) none.new_entries none.no_such_entry;
}

-- where none comes, this goes on
StaysSo : (DevicePort → Type 0) → Port → Device → Device → Type 0
StaysSo P port old new = TapeGrows old new × (NoDiskComes port.0 old new → P (old.port port.0) → P (new.port port.0))

module _ (laws : PrerequisiteLaws) (port : Port) (P : DevicePort → Type 0) (one : (access : Access) (old new : Device) → NoDiskComes port.0 old new → Does access old new → P (old.port port.0) → P (new.port port.0)) where
  so_over : (access : Access) (old new : Device) → Does access old new → StaysSo P port old new
  unfolding StaysSo
  so_over access old new does = (laws.port_event_laws.tape.access_grows access old new does, λ none so. one access old new none does so)

  so_more : (a b c : Device) → StaysSo P port a b → StaysSo P port b c → StaysSo P port a c
  unfolding StaysSo
  so_more a b c p q = (
    laws.port_event_laws.tape.growth_is_transitive a b c p.0 q.0,
    λ none so. let parts = laws.port_event_laws.tape.no_disk_comes_in_parts port.0 a b c p.0.0 q.0.0 p.0.1 q.0.1 none in q.1 parts.1 (p.1 parts.0 so),
  )

  so_all : (accesses : List Access) (old new : Device) → DoesAll accesses old new → StaysSo P port old new
  unfolding StaysSo
  so_all [] old new is = subst (StaysSo P port old) (sym is) (laws.port_event_laws.tape.growth_is_reflexive old, λ none so. so)
  so_all (access ∷ accesses) old new (mid, does, rest) = so_more old mid new (so_over access old mid does) (so_all accesses mid new rest)

  pub stays_so : (accesses : List Access) (old new : Device) → DoesAll accesses old new → NoDiskComes port.0 old new → P (old.port port.0) → P (new.port port.0)
  unfolding StaysSo
  stays_so accesses old new does = (so_all accesses old new does).1

module _ (laws : PrerequisiteLaws) (port : Port) where
  module _ (old seen : Device) (look : PortEvent) (l : TakesEvent port look old seen) (on : IsOn old) (not_lost : look ≢ LinkChanged) where
    on_over : (access : Access) (a b : Device) → DoesNotWrite Ghc access → Does access a b → IsOn a → IsOn b
    on_over access a b spares does here = laws.port_event_laws.access_keeps_on access a b here (λ v is. absurd (subst (DoesNotWrite Ghc) is spares refl)) does

    -- a device shows at its end
    pub shows_device : (seen.port port.0).ssts_det ≡ 3
    shows_device =
        let read = on_over (Reading (Px port Is) l.causes) old l.after_is_read tt l.reads on in
        let cleared = on_over (Writing (Px port Is) l.causes) l.after_is_read l.cleared (λ e. absurd (let z : Px port Is ≡ Ghc = e in cc)) l.clears read in
        let acknowledged = on_over (Writing reg.Is l.port_mask) l.cleared l.acknowledged (λ e. absurd (let z : reg.Is ≡ Ghc = e in cc)) l.acknowledges cleared in
        sym (laws.port_event_laws.shown_after port Ssts l.status l.acknowledged seen acknowledged.no_reset l.reads_status) ∙ shows_link laws port look old seen l on not_lost

  -- where a disk is in at a moment, one was in before, or the tape tells that one came
  was_in : (accesses : List Access) (old seen : Device) → DoesAll accesses old seen → (seen.port port.0).present ≡ true → ((old.port port.0).present ≡ true) ⊎ ((gained : List Entry) × (seen.tape ≡ old.tape ++ gained) × ((e : Entry) × Contains gained e × IsDiskComing port.0 e))
  was_in accesses old seen does own = let grows = grows_over laws accesses old seen does in ⊎_elim
      (λ (is : (old.port port.0).present ≡ true). inl is)
      (λ (out : (old.port port.0).present ≡ false). inr (
        grows.0,
        grows.1,
        ⊎_elim
            (λ found. found)
            (λ none. absurd (false≢true (sym (stays_so laws port (λ p. p.present ≡ false) (laws.absent_disk_stays_out_if_no_disk_comes port) accesses old seen does (record { new_entries = grows.0; tape_is = grows.1; no_such_entry = none }) out) ∙ own)))
            (one_or_none (IsDiskComing port.0) (is_coming port.0) grows.0),
      ))
      (cases_Bool ((old.port port.0).present))

-- Steps that the device backs, from the beginning of the turn to any moment after one at which a disk is in: the machine had a disk in the port before them, or one of them takes
-- its disk out or puts one in.
pub had_disk : (laws : PrerequisiteLaws) (port : Port) (s : ServerState) (seen new : Device) (m : Machine) (accesses : List Access) → DoesAll accesses s.device seen → (seen.port port.0).present ≡ true
    → MachineRelation s m → TapeGrows seen new → (steps : List Step) → TapeBacksSteps s.device new m steps → (m.present port ≡ true) ⊎ (list_any (changes_disk port) steps ≡ true)
had_disk laws port s seen new m accesses does own is later steps backed = ⊎_elim
    (λ was. inl ((is.driver_relation.state_relation.disks_are_same port.0).present ∙ was))
    (λ came. inr (
    let whole : backed.new_entries ≡ came.0 ++ later.0 = append_cancel_left s.device.tape backed.new_entries (came.0 ++ later.0) (sym backed.tape_is ∙ later.1 ∙ ap (λ (tape : List Entry). tape ++ later.0) came.1 ∙ append_assoc s.device.tape came.0 later.0) in
    laws.plug_events_are_told port m backed.new_entries steps backed.tells_device_steps came.2.0 (subst (λ (list : List Entry). Contains list came.2.0) (sym whole) (Contains-append_left came.0 later.0 came.2.0 came.2.1)) (coming_plugs port.0 came.2.0 came.2.2)))
    (was_in laws port accesses s.device seen does own)
