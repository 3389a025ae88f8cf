-- Where a port shows a device, a disk is in: whatever is done, and after each boot that leaves the port ready.
use Rattle.std.proofs.Common.{ℕ, Bool, true, false, ◌≡◌, ◌%◌, List, [], ◌∷◌, length, inl, inr, refl, sym, subst}
use Rattle.std.specs.Prelude.{if◌then◌else◌, nat_eq}
use Rattle.std.proofs.lemmas.Bool.{eq-eqb}
use Rattle.std.proofs.lemmas.Bool.Decides.{eqb_tells}
use Rattle.ata_types.specs.declared.Port.{Port}
use Rattle.hba_regs.specs.Bits.{bit}
use Rattle.hba_regs.specs.declared.reg.PortReg.{PortReg}
use Rattle.hba_regs.specs.declared.reg.PortReg.TheVariants.{Is, Ie, Cmd, Tfd, Sig, Ssts, Sctl, Serr}
use Rattle.hba_regs.specs.declared.reg.Reg.{Reg}
use Rattle.hba_regs.specs.declared.reg.Reg.TheVariants.{Cap, Ghc, Pi, Vs, Cap2, Bohc, Px}
use Rattle.hba_regs.specs.declared.reg.Reg.TheVariants as adapter
use Rattle.adapter.specs.Steps.{halt_after_start}
use Rattle.adapter.specs.Access.{Access, Does, DoesAll, device_after_reading, port_after_write, port_after_hba_is_write, port_after_fre_write, port_after_st_write, device_after_write, named_causes_mask}
use Rattle.adapter.specs.Access.Access.{Reading, Writing, Loading, Storing}
use Rattle.adapter.specs.Device.{Device, DevicePort}
use Rattle.adapter.specs.Memory.{changed}
use Rattle.adapter.specs.Steps.{DeviceTransition, Can, TransitionsLead, Steps, device_after}
use Rattle.adapter.specs.Steps.DeviceTransition.{Fetch, FetchFault, Move, Clear, Done, Fault, Fatal, Fall, FrFall, LinkUp, Unplug, Plug, ResetEnds, Scribble}
use Rattle.refinement.specs.Fragments.{IsDrivenBy}
use Rattle.port_control.specs.Ports.{FindsSignature, ReadsUntil}
use Rattle.port_boot.specs.States.{BringsReady, ShownDiskIsIn}

not_three : ◌≡◌ {A = ℕ} 0 3 → ⊥
not_three none = absurd cc

-- one port changed
at : (f : ℕ → DevicePort) (p port : ℕ) (new : DevicePort) → ShownDiskIsIn (f port) → (ShownDiskIsIn (f p) → ShownDiskIsIn new) → ShownDiskIsIn (changed f p new port)
unfolding changed
at f p port new h here =
    elim (eqb_tells port p) [
      | inl both ↦ rw both.0 (here (subst (λ (q : ℕ). ShownDiskIsIn (f q)) both.1 h))
      | inr both ↦ rw both.0 h
    ]

-- the port itself
itself : (f : ℕ → DevicePort) (p : ℕ) (new : DevicePort) → ShownDiskIsIn new → ShownDiskIsIn (changed f p new p)
unfolding changed
itself f p new h = rw (eq-eqb p p refl) h

-- ---- the device's steps

own_step : (port : ℕ) (d : Device) (step : DeviceTransition) → Can step d → ShownDiskIsIn (d.port port) → ShownDiskIsIn ((device_after step d).port port)
own_step port d (Fetch p slot c places) can h = at d.port p port _ h (λ x. x)
own_step port d (FetchFault p slot queued kept_bits) can h = at d.port p port _ h (λ x. x)
own_step port d (Move p slot t bytes) can h = at d.port p port _ h (λ x. x)
own_step port d (Clear p slot t first count) can h = at d.port p port _ h (λ x. x)
own_step port d (Done p slot flag t) can h = at d.port p port _ h (λ x. x)
own_step port d (Fault p slot error kept_bits t) can h = at d.port p port _ h (λ x. x)
own_step port d (Fatal p place) can h = at d.port p port _ h (λ x. x)
own_step port d (Fall p) can h = at d.port p port _ h (λ x. x)
own_step port d (FrFall p) can h = at d.port p port _ h (λ x. x)
own_step port d (LinkUp p sig n) can h = at d.port p port _ h (λ x up. can.present)
own_step port d (Unplug p) can h = at d.port p port _ h (λ x none. absurd (not_three none))
own_step port d (Plug p disk) can h = at d.port p port _ h (λ x up. refl)
own_step port d ResetEnds can h = λ none. absurd (not_three none)
own_step port d (Scribble p slot at_byte bytes) can h = h

leads_own : (port : ℕ) (steps : List DeviceTransition) (old new : Device) → TransitionsLead steps old new → ShownDiskIsIn (old.port port) → ShownDiskIsIn (new.port port)
leads_own port [] old new e h = subst (λ (d : Device). ShownDiskIsIn (d.port port)) (sym e) h
leads_own port (step ∷ steps) old new (can, lead) h = leads_own port steps (device_after step old) new lead (own_step port old step can h)

pub steps_own : (port : ℕ) (old new : Device) → Steps old new → ShownDiskIsIn (old.port port) → ShownDiskIsIn (new.port port)
steps_own port old new s h = leads_own port s.steps old new s.lead h

-- ---- what a call does beside

noted_own : (port : ℕ) (r : Reg) (v : ℕ) (d : Device) → ShownDiskIsIn (d.port port) → ShownDiskIsIn ((device_after_reading r v d).port port)
noted_own port (Px p r) v d h = at d.port p.0 port _ h (λ x. x)
noted_own port adapter.Is v d h = h
noted_own port Cap v d h = h
noted_own port Ghc v d h = h
noted_own port Pi v d h = h
noted_own port Vs v d h = h
noted_own port Cap2 v d h = h
noted_own port Bohc v d h = h

-- ST, where it is set already or isn't
started_own : (already fre : Bool) (tape : ℕ) (p : DevicePort) → ShownDiskIsIn p
    → ShownDiskIsIn (port_after_fre_write fre (if already then p else record p { st = true; cr = true; broken = false; halt = halt_after_start p.halt; notes = record p.notes { st_set_at = tape } }))
started_own true fre tape p h = h
started_own false fre tape p h = h

command_own : (st fre : Bool) (tape : ℕ) (p : DevicePort) → ShownDiskIsIn p → ShownDiskIsIn (port_after_fre_write fre (port_after_st_write st tape p))
command_own true fre tape p h = started_own p.st fre tape p h
command_own false fre tape p h = h

-- COMRESET has the port show no device
control_own : (sends : Bool) (p : DevicePort) → ShownDiskIsIn p → (if sends then 0 else p.ssts_det) ≡ 3 → p.present ≡ true
control_own true p h none = absurd (not_three none)
control_own false p h up = h up

written_own : (r : PortReg) (v tape : ℕ) (p : DevicePort) → ShownDiskIsIn p → ShownDiskIsIn (port_after_write r v tape p)
written_own Cmd v tape p h = command_own (bit v 0) (bit v 4) tape p h
written_own Sctl v tape p h = control_own (nat_eq (v % 16) 1) p h
written_own _ v tape p h = h

acknowledged_own : (is : Bool) (p : DevicePort) → ShownDiskIsIn p → ShownDiskIsIn (if is then port_after_hba_is_write p else p)
acknowledged_own true p h = h
acknowledged_own false p h = h

put_own : (port : ℕ) (r : Reg) (v : ℕ) (d : Device) → ShownDiskIsIn (d.port port) → ShownDiskIsIn ((device_after_write r v d).port port)
put_own port (Px p r) v d h = at d.port p.0 port _ h (written_own r v (length d.tape) (d.port p.0))
put_own port adapter.Is v d h = acknowledged_own (bit v port) (d.port port) h
put_own port Cap v d h = h
put_own port Ghc v d h = h
put_own port Pi v d h = h
put_own port Vs v d h = h
put_own port Cap2 v d h = h
put_own port Bohc v d h = h

-- ---- calls

pub access_own : (port : ℕ) (access : Access) (old new : Device) → Does access old new → ShownDiskIsIn (old.port port) → ShownDiskIsIn (new.port port)
access_own port (Reading r v) old new x h = subst (λ (d : Device). ShownDiskIsIn (d.port port)) (sym x.effect) (noted_own port r v x.at_access (steps_own port old x.at_access x.steps h))
access_own port (Writing r v) old new x h = subst (λ (d : Device). ShownDiskIsIn (d.port port)) (sym x.effect) (put_own port r v x.at_access (steps_own port old x.at_access x.steps h))
access_own port (Loading at_byte bytes) old new x h = steps_own port old new x.steps h
access_own port (Storing at_byte bytes) old new x h = subst (λ (d : Device). ShownDiskIsIn (d.port port)) (sym x.effect) (steps_own port old x.at_access x.steps h)

pub all_own : (port : ℕ) (accesses : List Access) (old new : Device) → DoesAll accesses old new → ShownDiskIsIn (old.port port) → ShownDiskIsIn (new.port port)
all_own port [] old new e h = subst (λ (d : Device). ShownDiskIsIn (d.port port)) (sym e) h
all_own port (access ∷ accesses) old new (mid, does, rest) h = all_own port accesses mid new rest (access_own port access old mid does h)

-- ---- a boot

module _ (port : Port) where
  abbrev Own : Device → Type 0
  Own d = ShownDiskIsIn (d.port port.0)

  driven_own : (May : Access → Type 0) (old new : Device) → IsDrivenBy May old new → Own old → Own new
  driven_own May old new driven = all_own port.0 driven.accesses old new driven.all_are_done

  until_own : (r : PortReg) (Shown : ℕ → Type 0) (old new : Device) → ReadsUntil port r Shown old new → Own old → Own new
  until_own r Shown old new u h = access_own port.0 (Reading (Px port r) u.value) u.waited new u.reads (driven_own _ old u.waited u.waits.reads h)

  signature_own : (signature : ℕ) (old new : Device) → FindsSignature port signature old new → Own old → Own new
  signature_own signature old new f h =
      let seen = until_own Ssts _ old f.finds_link.after_link_is_seen f.finds_link.reads_until_link h in
      let between = access_own port.0 (Writing (Px port Serr) 0xffffffff) f.finds_link.after_link_is_seen f.finds_link.clears.between f.finds_link.clears.clears_serr seen in
      let linked = access_own port.0 (Writing (Px port Is) 0xffffffff) f.finds_link.clears.between f.linked f.finds_link.clears.clears_is between in
      access_own port.0 (Reading (Px port Sig) signature) f.idle new f.reads (until_own Tfd _ f.linked f.idle f.waits linked)

  pub ready_own : (old new : Device) → BringsReady port old new → Own new
  ready_own old new way =
      let up = way.brings_up in
      let resets = up.resets in
      let sends = resets.sends in
      let sent : Own resets.sent = subst (λ (d : Device). Own d) (sym sends.effect)
      (itself sends.at_access.port port.0 _ (λ none. absurd (not_three none))) in
      let ended = access_own port.0 (Writing (Px port Sctl) 0) resets.sent resets.ended resets.ends sent in
      let found = signature_own 0x101 resets.ended up.found resets.does_rest ended in
      let started = driven_own _ up.found way.up up.starts found in
      access_own port.0 (Writing (Px port Ie) named_causes_mask) way.asks_disk.asked new way.asks_disk.enables_interrupts (driven_own _ way.up way.asks_disk.asked way.asks_disk.asks started)
