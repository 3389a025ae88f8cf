-- What the device and accesses leave of a port's controls, of its disk and of its link.
use Rattle.std.proofs.Common.{ℕ, ◌≡◌, ◌≢◌, ◌++◌, Bool, true, false, List, [], ◌∷◌, length, refl, sym, ◌∙◌, ap, subst, inl, inr, ⊎_elim}
use Rattle.std.proofs.lemmas.Bool.{cond-true, cond-false, both_ways}
use Rattle.ata_types.specs.declared.Port.{Port}
use Rattle.hba_regs.specs.Bits.{bit}
use Rattle.hba_regs.specs.declared.reg.Reg.TheVariants.{Px}
use Rattle.hba_regs.specs.declared.reg.PortReg.{PortReg}
use Rattle.hba_regs.specs.declared.reg.PortReg.TheVariants.{Clb, Clbu, Fb, Fbu, Ie, Is, Cmd, Sctl, Serr, Sact, Ci}
use Rattle.adapter.specs.Access.{Access, Does, notes_after_reading, port_after_write, port_after_st_write, port_after_fre_write}
use Rattle.adapter.specs.Access.Access.{Writing}
use Rattle.adapter.specs.Device.{Bases, Disk, Notes, DevicePort, Device}
use Rattle.adapter.specs.KeptBySteps.{KeepsOverSteps, KeepsControlsFlagsRise}
use Rattle.adapter.specs.Steps.{DeviceTransition, Can, device_after, TransitionsLead, Steps, disk_after}
use Rattle.adapter.specs.Steps.DeviceTransition.{Fetch, FetchFault, Move, Clear, Done, Fault, Fatal, Fall, FrFall, LinkUp, Unplug, Plug, ResetEnds, Scribble}
use Rattle.adapter.specs.declared.command.Operation.{Operation}
use Rattle.adapter.specs.declared.command.Operation.TheVariants as operation
use Rattle.adapter.specs.declared.tape.Entry.{Entry}
use Rattle.adapter.specs.declared.tape.Entry.TheVariants as entry
use Rattle.refinement.specs.StepLaws.{StepLaws}
use Rattle.refinement.specs.Relation.{port_at}
use Rattle.refinement.specs.PortFacts.{IsDisturbance, Undisturbed}
use Rattle.refinement.specs.PreservedParts.{DoesNotWrite, ControlsChangeOnlyByTheirWrites, IsPlugEvent, NoPlugEvents, KeepsDisk, SameLink, ComesUp, LinkIsSameOrComesUp}
use Rattle.refinement.proofs.steps.AdapterCalls.{note_times}
use Rattle.refinement.proofs.device.FactsOverAccesses.{access_steps, effect_keeps}
use Rattle.refinement.proofs.device.TapeGains.{NoneOf, gains_nothing, gains_more, gains_parts, gained_none, none_narrower}
use Rattle.refinement.proofs.device.HealthyPort.{at_port}

-- ---- disks that go or come

pub plugs_nothing : (port : ℕ) (d : Device) → NoPlugEvents port d d
plugs_nothing port d = let g = gains_nothing (IsPlugEvent port) d in record { new_entries = g.0; tape_is = g.1; no_such_entry = g.2 }

pub plugs_more : (port : ℕ) (old mid new : Device) → NoPlugEvents port old mid → NoPlugEvents port mid new → NoPlugEvents port old new
plugs_more port old mid new a b =
    let g = gains_more (IsPlugEvent port) old mid new (a.new_entries, a.tape_is, a.no_such_entry) (b.new_entries, b.tape_is, b.no_such_entry) in
    record { new_entries = g.0; tape_is = g.1; no_such_entry = g.2 }

pub plugs_parts : (port : ℕ) (old mid new : Device) (early late : List Entry) → mid.tape ≡ old.tape ++ early → new.tape ≡ mid.tape ++ late → NoPlugEvents port old new → NoPlugEvents port old mid × NoPlugEvents port mid new
plugs_parts port old mid new early late a b h =
    let g = gains_parts (IsPlugEvent port) old mid new early late a b (h.new_entries, h.tape_is, h.no_such_entry) in
    (record { new_entries = g.0.0; tape_is = g.0.1; no_such_entry = g.0.2 }, record { new_entries = g.1.0; tape_is = g.1.1; no_such_entry = g.1.2 })

pub undisturbed_plugs : (port : ℕ) (old new : Device) → Undisturbed port old new → NoPlugEvents port old new
undisturbed_plugs port old new u = record { new_entries = u.new_entries; tape_is = u.tape_is; no_such_entry = none_narrower (IsDisturbance port) (IsPlugEvent port) narrower u.new_entries u.no_disturbance }
  where
    narrower : (e : Entry) → IsPlugEvent port e → IsDisturbance port e
    narrower (entry.Unplug at) x = x
    narrower (entry.Plug at name) x = x
    narrower (entry.Move move) x = absurd x
    narrower (entry.Clear clear) x = absurd x
    narrower (entry.Done done) x = absurd x
    narrower (entry.Fault fault) x = absurd x
    narrower (entry.Fatal at) x = absurd x

-- ---- the disk

disk_refl : (p : DevicePort) → KeepsDisk p p
disk_refl p = record { present = refl; plug_history = refl; name = refl; size = refl }

disk_on : (p q new : DevicePort) → new.present ≡ q.present → new.plug_history ≡ q.plug_history → new.disk.name ≡ q.disk.name → new.disk.sector_count ≡ q.disk.sector_count → KeepsDisk p q → KeepsDisk p new
disk_on p q new present plugged name size h = record { present = present ∙ h.present; plug_history = plugged ∙ h.plug_history; name = name ∙ h.name; size = size ∙ h.size }

-- a move changes sectors alone
moved_disk : (o : Operation) (disk : Disk) (sector : ℕ) (bytes : List ℕ) → ((disk_after o disk sector bytes).name ≡ disk.name) × ((disk_after o disk sector bytes).sector_count ≡ disk.sector_count)
moved_disk operation.Write disk sector bytes = (refl, refl)
moved_disk operation.WriteQueued disk sector bytes = (refl, refl)
moved_disk operation.Read disk sector bytes = (refl, refl)
moved_disk operation.ReadQueued disk sector bytes = (refl, refl)
moved_disk operation.Flush disk sector bytes = (refl, refl)
moved_disk operation.Trim disk sector bytes = (refl, refl)
moved_disk operation.Identify disk sector bytes = (refl, refl)
moved_disk operation.ReadLog disk sector bytes = (refl, refl)

module _ (first : DevicePort) (port : ℕ) (d : Device) (gained : List Entry) (none : NoneOf (IsPlugEvent port) gained) where
  abbrev Stays : DevicePort → Type 0
  Stays p = KeepsDisk first p

  step_disk : (step : DeviceTransition) → (device_after step d).tape ≡ d.tape ++ gained → Stays (d.port port) → Stays ((device_after step d).port port)
  step_disk (Fetch p slot c places) is h = at_port Stays Stays d p port _ h (λ e x. disk_on first _ _ refl refl refl refl x) (λ ne x. x)
  step_disk (FetchFault p slot queued kept_bits) is h = at_port Stays Stays d p port _ h (λ e x. disk_on first _ _ refl refl refl refl x) (λ ne x. x)
  step_disk (Move p slot t bytes) is h = at_port Stays Stays d p port _ h
      (λ e x. let same = moved_disk t.meaning.operation (d.port p).disk _ bytes in disk_on first _ _ refl refl same.0 same.1 x) (λ ne x. x)
  step_disk (Clear p slot t from count) is h = at_port Stays Stays d p port _ h (λ e x. disk_on first _ _ refl refl refl refl x) (λ ne x. x)
  step_disk (Done p slot flag t) is h = at_port Stays Stays d p port _ h (λ e x. disk_on first _ _ refl refl refl refl x) (λ ne x. x)
  step_disk (Fault p slot error kept_bits t) is h = at_port Stays Stays d p port _ h (λ e x. disk_on first _ _ refl refl refl refl x) (λ ne x. x)
  step_disk (Fatal p place) is h = at_port Stays Stays d p port _ h (λ e x. disk_on first _ _ refl refl refl refl x) (λ ne x. x)
  step_disk (Fall p) is h = at_port Stays Stays d p port _ h (λ e x. disk_on first _ _ refl refl refl refl x) (λ ne x. x)
  step_disk (FrFall p) is h = at_port Stays Stays d p port _ h (λ e x. disk_on first _ _ refl refl refl refl x) (λ ne x. x)
  step_disk (LinkUp p sig n) is h = at_port Stays Stays d p port _ h (λ e x. disk_on first _ _ refl refl refl refl x) (λ ne x. x)
  step_disk (Unplug p) is h = at_port Stays Stays d p port _ h (λ e x. absurd (gained_none (IsPlugEvent port) d.tape _ gained is none e)) (λ ne x. x)
  step_disk (Plug p disk) is h = at_port Stays Stays d p port _ h (λ e x. absurd (gained_none (IsPlugEvent port) d.tape _ gained is none e)) (λ ne x. x)
  step_disk ResetEnds is h = disk_on first (d.port port) _ refl refl refl refl h
  step_disk (Scribble p slot at bytes) is h = h

leads_disk : StepLaws → (first : DevicePort) (port : ℕ) (steps : List DeviceTransition) (old new : Device) → TransitionsLead steps old new → NoPlugEvents port old new → KeepsDisk first (old.port port) → KeepsDisk first (new.port port)
leads_disk laws first port [] old new e plugs h = subst (λ (d : Device). KeepsDisk first (d.port port)) (sym e) h
leads_disk laws first port (step ∷ steps) old new (can, lead) plugs h =
    let k : KeepsOverSteps old (device_after step old) = laws.one_step_keeps step _ can in
    let l : KeepsOverSteps (device_after step old) new = laws.steps_keep _ _ (record { steps = steps; lead = lead }) in
    let parts = plugs_parts port old (device_after step old) new k.new_entries l.new_entries k.tape_grows l.tape_grows plugs in
    leads_disk laws first port steps (device_after step old) new lead parts.1 (step_disk first port old parts.0.new_entries parts.0.no_such_entry step parts.0.tape_is h)

pub steps_disk : StepLaws → (port : ℕ) (old new : Device) → Steps old new → NoPlugEvents port old new → KeepsDisk (old.port port) (new.port port)
steps_disk laws port old new s plugs = leads_disk laws (old.port port) port s.steps old new s.lead plugs (disk_refl (old.port port))

command_disk : (first : DevicePort) (v tape : ℕ) (p : DevicePort) → KeepsDisk first p → KeepsDisk first (port_after_write Cmd v tape p)
command_disk first v tape p h = by (bit v 0) p.st refl
  where
    by : (b s : Bool) → p.st ≡ s → KeepsDisk first (port_after_fre_write (bit v 4) (port_after_st_write b tape p))
    by false s is = disk_on first p _ refl refl refl refl h
    by true true is = subst (λ (x : DevicePort). KeepsDisk first (port_after_fre_write (bit v 4) x)) (sym (cond-true p.st p _ is)) (disk_on first p _ refl refl refl refl h)
    by true false is = subst (λ (x : DevicePort). KeepsDisk first (port_after_fre_write (bit v 4) x)) (sym (cond-false p.st p _ is)) (disk_on first p _ refl refl refl refl h)

written_disk : (first : DevicePort) (r : PortReg) (v tape : ℕ) (p : DevicePort) → KeepsDisk first p → KeepsDisk first (port_after_write r v tape p)
written_disk first Cmd v tape p h = command_disk first v tape p h
written_disk first Clb v tape p h = disk_on first p _ refl refl refl refl h
written_disk first Clbu v tape p h = disk_on first p _ refl refl refl refl h
written_disk first Fb v tape p h = disk_on first p _ refl refl refl refl h
written_disk first Fbu v tape p h = disk_on first p _ refl refl refl refl h
written_disk first Ie v tape p h = disk_on first p _ refl refl refl refl h
written_disk first Is v tape p h = disk_on first p _ refl refl refl refl h
written_disk first Sctl v tape p h = disk_on first p _ refl refl refl refl h
written_disk first Serr v tape p h = disk_on first p _ refl refl refl refl h
written_disk first Sact v tape p h = disk_on first p _ refl refl refl refl h
written_disk first Ci v tape p h = disk_on first p _ refl refl refl refl h
written_disk first _ v tape p h = h

-- before the effect of an access the tape has what it has after it
pub plugs_before : (port : ℕ) (old mid new : Device) → new.tape ≡ mid.tape → NoPlugEvents port old new → NoPlugEvents port old mid
plugs_before port old mid new same plugs = record { new_entries = plugs.new_entries; tape_is = sym same ∙ plugs.tape_is; no_such_entry = plugs.no_such_entry }

pub access_disk : StepLaws → (port : ℕ) (access : Access) (old new : Device) → Does access old new → NoPlugEvents port old new → KeepsDisk (old.port port) (new.port port)
access_disk laws port access old new x plugs =
    let s = access_steps access old new x in
    effect_keeps (KeepsDisk (old.port port)) (port_at port) (λ p r v h. disk_on (old.port port) p _ refl refl refl refl h) (λ p h. disk_on (old.port port) p _ refl refl refl refl h) access old new x
    (λ r v mid is steps h. written_disk (old.port port) r v (length mid.tape) (mid.port port) h)
    (steps_disk laws port old s.0 s.1 (plugs_before port old s.0 new s.2 plugs))

-- ---- the link

link_refl : (p : DevicePort) → LinkIsSameOrComesUp p p
link_refl p = inl (record { due = refl; det = refl; fresh = refl; sig = refl })

link_on : (p q new : DevicePort) → new.link_due ≡ q.link_due → new.ssts_det ≡ q.ssts_det → new.fresh ≡ q.fresh → new.sig ≡ q.sig → new.present ≡ q.present → new.sctl_det ≡ q.sctl_det → LinkIsSameOrComesUp p q → LinkIsSameOrComesUp p new
link_on p q new due det fresh sig present control (inl h) = inl (record { due = due ∙ h.due; det = det ∙ h.det; fresh = fresh ∙ h.fresh; sig = sig ∙ h.sig })
link_on p q new due det fresh sig present control (inr h) =
    inr (record { link_was_due = h.link_was_due; link_is_not_due_any_more = due ∙ h.link_is_not_due_any_more; det = det ∙ h.det; fresh = fresh ∙ h.fresh; present = present ∙ h.present; comreset_is_over = control ∙ h.comreset_is_over })

module _ (first : DevicePort) (port : ℕ) (d : Device) (gained : List Entry) (none : NoneOf (IsPlugEvent port) gained) where
  abbrev Linked : DevicePort → Type 0
  Linked p = LinkIsSameOrComesUp first p

  step_link : (step : DeviceTransition) → d.hr ≡ false → Can step d → (device_after step d).tape ≡ d.tape ++ gained → Linked (d.port port) → Linked ((device_after step d).port port)
  step_link (Fetch p slot c places) off can is h = at_port Linked Linked d p port _ h (λ e x. link_on first _ _ refl refl refl refl refl refl x) (λ ne x. x)
  step_link (FetchFault p slot queued kept_bits) off can is h = at_port Linked Linked d p port _ h (λ e x. link_on first _ _ refl refl refl refl refl refl x) (λ ne x. x)
  step_link (Move p slot t bytes) off can is h = at_port Linked Linked d p port _ h (λ e x. link_on first _ _ refl refl refl refl refl refl x) (λ ne x. x)
  step_link (Clear p slot t from count) off can is h = at_port Linked Linked d p port _ h (λ e x. link_on first _ _ refl refl refl refl refl refl x) (λ ne x. x)
  step_link (Done p slot flag t) off can is h = at_port Linked Linked d p port _ h (λ e x. link_on first _ _ refl refl refl refl refl refl x) (λ ne x. x)
  step_link (Fault p slot error kept_bits t) off can is h = at_port Linked Linked d p port _ h (λ e x. link_on first _ _ refl refl refl refl refl refl x) (λ ne x. x)
  step_link (Fatal p place) off can is h = at_port Linked Linked d p port _ h (λ e x. link_on first _ _ refl refl refl refl refl refl x) (λ ne x. x)
  step_link (Fall p) off can is h = at_port Linked Linked d p port _ h (λ e x. link_on first _ _ refl refl refl refl refl refl x) (λ ne x. x)
  step_link (FrFall p) off can is h = at_port Linked Linked d p port _ h (λ e x. link_on first _ _ refl refl refl refl refl refl x) (λ ne x. x)
  step_link (LinkUp p sig n) off can is h = at_port Linked Linked d p port _ h
      (λ e x. ⊎_elim
      (λ (s : SameLink first (d.port p)). inr (record { link_was_due = sym s.due ∙ can.link_is_due; link_is_not_due_any_more = refl; det = refl; fresh = refl; present = can.present; comreset_is_over = can.no_comreset }))
      (λ (s : ComesUp first (d.port p)). absurd (both_ways _ s.link_is_not_due_any_more can.link_is_due))
      x)
      (λ ne x. x)
  step_link (Unplug p) off can is h = at_port Linked Linked d p port _ h (λ e x. absurd (gained_none (IsPlugEvent port) d.tape _ gained is none e)) (λ ne x. x)
  step_link (Plug p disk) off can is h = at_port Linked Linked d p port _ h (λ e x. absurd (gained_none (IsPlugEvent port) d.tape _ gained is none e)) (λ ne x. x)
  step_link ResetEnds off can is h = absurd (both_ways _ off can)
  step_link (Scribble p slot at bytes) off can is h = h

leads_link : StepLaws → (first : DevicePort) (port : ℕ) (steps : List DeviceTransition) (old new : Device) → old.hr ≡ false → TransitionsLead steps old new → NoPlugEvents port old new → LinkIsSameOrComesUp first (old.port port) → LinkIsSameOrComesUp first (new.port port)
leads_link laws first port [] old new off e plugs h = subst (λ (d : Device). LinkIsSameOrComesUp first (d.port port)) (sym e) h
leads_link laws first port (step ∷ steps) old new off (can, lead) plugs h =
    let k : KeepsOverSteps old (device_after step old) = laws.one_step_keeps step _ can in
    let l : KeepsOverSteps (device_after step old) new = laws.steps_keep _ _ (record { steps = steps; lead = lead }) in
    let parts = plugs_parts port old (device_after step old) new k.new_entries l.new_entries k.tape_grows l.tape_grows plugs in
    leads_link laws first port steps (device_after step old) new (k.keeps_outside_reset off).no_reset lead parts.1 (step_link first port old parts.0.new_entries parts.0.no_such_entry step off can parts.0.tape_is h)

pub steps_link : StepLaws → (port : ℕ) (old new : Device) → old.hr ≡ false → Steps old new → NoPlugEvents port old new → LinkIsSameOrComesUp (old.port port) (new.port port)
steps_link laws port old new off s plugs = leads_link laws (old.port port) port s.steps old new off s.lead plugs (link_refl (old.port port))

command_link : (first : DevicePort) (v tape : ℕ) (p : DevicePort) → LinkIsSameOrComesUp first p → LinkIsSameOrComesUp first (port_after_write Cmd v tape p)
command_link first v tape p h = by (bit v 0) p.st refl
  where
    by : (b s : Bool) → p.st ≡ s → LinkIsSameOrComesUp first (port_after_fre_write (bit v 4) (port_after_st_write b tape p))
    by false s is = link_on first p _ refl refl refl refl refl refl h
    by true true is = subst (λ (x : DevicePort). LinkIsSameOrComesUp first (port_after_fre_write (bit v 4) x)) (sym (cond-true p.st p _ is)) (link_on first p _ refl refl refl refl refl refl h)
    by true false is = subst (λ (x : DevicePort). LinkIsSameOrComesUp first (port_after_fre_write (bit v 4) x)) (sym (cond-false p.st p _ is)) (link_on first p _ refl refl refl refl refl refl h)

written_link : (first : DevicePort) (r : PortReg) (v tape : ℕ) (p : DevicePort) → r ≢ Sctl → LinkIsSameOrComesUp first p → LinkIsSameOrComesUp first (port_after_write r v tape p)
written_link first Sctl v tape p other h = absurd (other refl)
written_link first Cmd v tape p other h = command_link first v tape p h
written_link first Clb v tape p other h = link_on first p _ refl refl refl refl refl refl h
written_link first Clbu v tape p other h = link_on first p _ refl refl refl refl refl refl h
written_link first Fb v tape p other h = link_on first p _ refl refl refl refl refl refl h
written_link first Fbu v tape p other h = link_on first p _ refl refl refl refl refl refl h
written_link first Ie v tape p other h = link_on first p _ refl refl refl refl refl refl h
written_link first Is v tape p other h = link_on first p _ refl refl refl refl refl refl h
written_link first Serr v tape p other h = link_on first p _ refl refl refl refl refl refl h
written_link first Sact v tape p other h = link_on first p _ refl refl refl refl refl refl h
written_link first Ci v tape p other h = link_on first p _ refl refl refl refl refl refl h
written_link first _ v tape p other h = h

-- a write of the port's register is of another one
pub spared : (port : Port) (r q : PortReg) (access : Access) (v : ℕ) → DoesNotWrite (Px port q) access → access ≡ Writing (Px port r) v → r ≢ q
spared port r q access v spares is e = subst (DoesNotWrite (Px port q)) is spares (ap (Px port) e)

pub access_link : StepLaws → (port : Port) (access : Access) (old new : Device) → old.hr ≡ false → DoesNotWrite (Px port Sctl) access → Does access old new → NoPlugEvents port.0 old new → LinkIsSameOrComesUp (old.port port.0) (new.port port.0)
access_link laws port access old new off spares x plugs =
    let s = access_steps access old new x in
    effect_keeps (LinkIsSameOrComesUp (old.port port.0)) port (λ p r v h. link_on (old.port port.0) p _ refl refl refl refl refl refl h) (λ p h. link_on (old.port port.0) p _ refl refl refl refl refl refl h) access old new x
    (λ r v mid is steps h. written_link (old.port port.0) r v (length mid.tape) (mid.port port.0) (spared port r Sctl access v spares is) h)
    (steps_link laws port.0 old s.0 off s.1 (plugs_before port.0 old s.0 new s.2 plugs))

-- ---- the controls

-- PxSCTL, the addresses and PxIE are the same
abbrev SameRest : DevicePort → DevicePort → Type 0
SameRest p new = (new.sctl_det ≡ p.sctl_det) × (new.notes.sctl_written_at ≡ p.notes.sctl_written_at) × (new.bases ≡ p.bases) × (new.ie ≡ p.ie)

module _ (access : Access) (port : Port) (first : DevicePort) where
  abbrev Controls : DevicePort → Type 0
  Controls p = ControlsChangeOnlyByTheirWrites access port first p

  controls_on : (p new : DevicePort) → new.st ≡ p.st → new.fre ≡ p.fre → new.notes.st_set_at ≡ p.notes.st_set_at → new.cr ≡ p.cr → new.sctl_det ≡ p.sctl_det → new.notes.sctl_written_at ≡ p.notes.sctl_written_at → new.bases ≡ p.bases → new.ie ≡ p.ie →
      Controls p → Controls new
  controls_on p new st fre set cr det written bases ie h = record {
    command = λ s. (st ∙ (h.command s).0, fre ∙ (h.command s).1, set ∙ (h.command s).2, λ on runs. cr ∙ (h.command s).3 on runs);
    control = λ s. (det ∙ (h.control s).0, written ∙ (h.control s).1);
    interrupt_enable = λ s. ie ∙ h.interrupt_enable s;
    list = λ s. (ap (λ (b : Bases). b.clb) bases ∙ (h.list s).0, ap (λ (b : Bases). b.clb_set) bases ∙ (h.list s).1);
    list_upper = λ s. ap (λ (b : Bases). b.clbu_set) bases ∙ h.list_upper s;
    received = λ s. (ap (λ (b : Bases). b.fb) bases ∙ (h.received s).0, ap (λ (b : Bases). b.fb_set) bases ∙ (h.received s).1);
    received_upper = λ s. ap (λ (b : Bases). b.fbu_set) bases ∙ h.received_upper s;
  }

  noted_controls : (p : DevicePort) (r : PortReg) (v : ℕ) → Controls p → Controls (record p { notes = notes_after_reading r v p })
  noted_controls p r v h = controls_on p _ refl refl (note_times r v p).0 refl refl (note_times r v p).1 refl refl h

  -- PxCMD leaves the others
  command_controls : (v tape : ℕ) (p : DevicePort) → (DoesNotWrite (Px port Cmd) access → ⊥) → Controls p → Controls (port_after_write Cmd v tape p)
  command_controls v tape p here h = record {
    command = λ s. absurd (here s);
    control = λ s. (rest.0 ∙ (h.control s).0, rest.1 ∙ (h.control s).1);
    interrupt_enable = λ s. rest.3 ∙ h.interrupt_enable s;
    list = λ s. (ap (λ (b : Bases). b.clb) rest.2 ∙ (h.list s).0, ap (λ (b : Bases). b.clb_set) rest.2 ∙ (h.list s).1);
    list_upper = λ s. ap (λ (b : Bases). b.clbu_set) rest.2 ∙ h.list_upper s;
    received = λ s. (ap (λ (b : Bases). b.fb) rest.2 ∙ (h.received s).0, ap (λ (b : Bases). b.fb_set) rest.2 ∙ (h.received s).1);
    received_upper = λ s. ap (λ (b : Bases). b.fbu_set) rest.2 ∙ h.received_upper s;
  }
    where
      by : (b s : Bool) → p.st ≡ s → SameRest p (port_after_fre_write (bit v 4) (port_after_st_write b tape p))
      by false s is = (refl, refl, refl, refl)
      by true true is = subst (λ (x : DevicePort). SameRest p (port_after_fre_write (bit v 4) x)) (sym (cond-true p.st p _ is)) (refl, refl, refl, refl)
      by true false is = subst (λ (x : DevicePort). SameRest p (port_after_fre_write (bit v 4) x)) (sym (cond-false p.st p _ is)) (refl, refl, refl, refl)

      rest : SameRest p (port_after_fre_write (bit v 4) (port_after_st_write (bit v 0) tape p))
      rest = by (bit v 0) p.st refl

  written_controls : (r : PortReg) (v tape : ℕ) (p : DevicePort) → (DoesNotWrite (Px port r) access → ⊥) → Controls p → Controls (port_after_write r v tape p)
  written_controls Cmd v tape p here h = command_controls v tape p here h
  written_controls Sctl v tape p here h = record { command = h.command; control = λ s. absurd (here s); interrupt_enable = h.interrupt_enable; list = h.list; list_upper = h.list_upper; received = h.received; received_upper = h.received_upper }
  written_controls Clb v tape p here h = record { command = h.command; control = h.control; interrupt_enable = h.interrupt_enable; list = λ s. absurd (here s); list_upper = h.list_upper; received = h.received; received_upper = h.received_upper }
  written_controls Clbu v tape p here h = record { command = h.command; control = h.control; interrupt_enable = h.interrupt_enable; list = h.list; list_upper = λ s. absurd (here s); received = h.received; received_upper = h.received_upper }
  written_controls Fb v tape p here h = record { command = h.command; control = h.control; interrupt_enable = h.interrupt_enable; list = h.list; list_upper = h.list_upper; received = λ s. absurd (here s); received_upper = h.received_upper }
  written_controls Fbu v tape p here h = record { command = h.command; control = h.control; interrupt_enable = h.interrupt_enable; list = h.list; list_upper = h.list_upper; received = h.received; received_upper = λ s. absurd (here s) }
  written_controls Ie v tape p here h = record { command = h.command; control = h.control; interrupt_enable = λ s. absurd (here s); list = h.list; list_upper = h.list_upper; received = h.received; received_upper = h.received_upper }
  written_controls Is v tape p here h = controls_on p _ refl refl refl refl refl refl refl refl h
  written_controls Serr v tape p here h = controls_on p _ refl refl refl refl refl refl refl refl h
  written_controls Sact v tape p here h = controls_on p _ refl refl refl refl refl refl refl refl h
  written_controls Ci v tape p here h = controls_on p _ refl refl refl refl refl refl refl refl h
  written_controls _ v tape p here h = h

pub access_controls : StepLaws → (port : Port) (access : Access) (old new : Device) → old.hr ≡ false → Does access old new → ControlsChangeOnlyByTheirWrites access port (old.port port.0) (new.port port.0)
access_controls laws port access old new off x =
    let s = access_steps access old new x in
    let k : KeepsOverSteps old s.0 = laws.steps_keep _ _ s.1 in
    let c : KeepsControlsFlagsRise (old.port port.0) (s.0.port port.0) = (k.keeps_outside_reset off).controls_are_kept port.0 in
    effect_keeps (ControlsChangeOnlyByTheirWrites access port (old.port port.0)) port (noted_controls access port (old.port port.0)) (λ p h. controls_on access port (old.port port.0) p _ refl refl refl refl refl refl refl refl h) access old new x
    (λ r v mid is steps h. written_controls access port (old.port port.0) r v (length mid.tape) (mid.port port.0) (λ spares. spared port r r access v spares is refl) h)
    (record {
      command = λ s. (c.st_is_kept, c.fre_is_kept, ap (λ (n : Notes). n.st_set_at) (k.notes_are_kept port.0), c.engine_stays_running);
      control = λ s. (c.sctl_det_is_kept, ap (λ (n : Notes). n.sctl_written_at) (k.notes_are_kept port.0));
      interrupt_enable = λ s. c.ie_is_kept;
      list = λ s. (ap (λ (b : Bases). b.clb) (k.port_bits_only_fall port.0).bases_are_kept, ap (λ (b : Bases). b.clb_set) (k.port_bits_only_fall port.0).bases_are_kept);
      list_upper = λ s. ap (λ (b : Bases). b.clbu_set) (k.port_bits_only_fall port.0).bases_are_kept;
      received = λ s. (ap (λ (b : Bases). b.fb) (k.port_bits_only_fall port.0).bases_are_kept, ap (λ (b : Bases). b.fb_set) (k.port_bits_only_fall port.0).bases_are_kept);
      received_upper = λ s. ap (λ (b : Bases). b.fbu_set) (k.port_bits_only_fall port.0).bases_are_kept;
    })
