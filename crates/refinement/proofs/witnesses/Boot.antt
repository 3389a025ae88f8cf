-- A boot of port 0, from COMRESET until the port runs well.
use Rattle.std.proofs.Common.{ℕ, ◌≡◌, ◌≢◌, ◌==◌, ◌++◌, Bool, true, false, [], refl, sym, ◌∙◌, ap, arith, inl, inr, if◌then◌else◌, ◌∷◌}
use Rattle.std.specs.Int.{bit_at}
use Rattle.std.specs.Prelude.{nat_eq, max}
use Rattle.std.proofs.lemmas.Nat.Bits.{bit_at-zero, bit_at-pow_other, bit_at_or}
use Rattle.ata_types.specs.declared.Port.{Port}
use Rattle.std.proofs.lemmas.List.Elements.{All-nil}
use Rattle.std.proofs.lemmas.Bool.{true≢false}
use Rattle.hba_regs.specs.Bits.{bit}
use Rattle.hba_regs.specs.declared.reg.Reg.{Reg}
use Rattle.hba_regs.specs.declared.reg.Reg.TheVariants.{Px}
use Rattle.hba_regs.specs.declared.reg.PortReg.{PortReg}
use Rattle.hba_regs.specs.declared.reg.PortReg.TheVariants.{Is, Cmd, Tfd, Ssts, Sctl, Serr, Ci}
use Rattle.adapter.specs.Access.{Reads, Writes, device_after_reading, device_after_write, shown_interrupt}
use Rattle.adapter.specs.Access.Access.{Reading, Writing}
use Rattle.adapter.specs.Device.{DevicePort, Device}
use Rattle.adapter.specs.Memory.{changed}
use Rattle.adapter.specs.Rules.{MayStart, MayWrite, MayWritePort, IsStable}
use Rattle.adapter.specs.Steps.{Can, device_after}
use Rattle.adapter.specs.Steps.DeviceTransition.{LinkUp}
use Rattle.refinement.specs.StepLaws.{StepLaws}
use Rattle.refinement.specs.Relation.{port_at}
use Rattle.refinement.specs.BootWitness.{waking_device, BootWitness}
use Rattle.refinement.specs.Errors.{IsDiskComing, NoDiskComes}
use Rattle.refinement.specs.PortFacts.{PxisValueTellsNoTrouble}
use Rattle.refinement.specs.PreservedParts.{IsPlugEvent, NoPlugEvents}
use Rattle.refinement.specs.StartedPort.{IsUpForStart, IsStoppedAndUpForStartIfDet3, WritesCmdOnlyWithStClear}
use Rattle.refinement.proofs.device.AllowedWrites.{write_stays}
use Rattle.refinement.proofs.device.BootedPort.{well_is_found}
use Rattle.refinement.proofs.device.RisingLink.{comreset_comes, access_coming, up_is_found, access_up}

-- ---- what the port is, access by access

abbrev port_reg : PortReg → Reg
port_reg r = Px (port_at 0) r

abbrev sent : Device
sent = device_after_write (port_reg Sctl) 1 waking_device

abbrev released : Device
released = device_after_write (port_reg Sctl) 0 sent

abbrev up : Device
up = device_after (LinkUp 0 0x101 true) released

abbrev linked : Device
linked = device_after_reading (port_reg Ssts) 3 up

abbrev cleared : Device
cleared = device_after_write (port_reg Serr) 0xffffffff linked

abbrev quieted : Device
quieted = device_after_write (port_reg Is) 0xffffffff cleared

abbrev ready : Device
ready = device_after_reading (port_reg Tfd) 0x77 quieted

abbrev started : Device
started = device_after_write (port_reg Cmd) 0x11 ready

abbrev found : Device
found = device_after_reading (port_reg Is) 0 started

-- a write at once
writes : (r : Reg) (v : ℕ) (d : Device) → Writes r v d (device_after_write r v d)
writes r v d = record { at_access = d; steps = record { steps = []; lead = refl }; effect = refl }

can_link : Can (LinkUp 0 0x101 true) released
unfolding changed
can_link = record { present = refl; no_comreset = refl; link_is_due = refl; sig_is_32_bit = omega arith }

links : Reads (port_reg Ssts) 3 released linked
unfolding changed
links = record { at_access = up; steps = record { steps = (LinkUp 0 0x101 true) ∷ []; lead = (can_link, refl) }; shows = refl; effect = refl }

waits : Reads (port_reg Tfd) 0x77 quieted ready
unfolding changed
waits = record { at_access = quieted; steps = record { steps = []; lead = refl }; shows = refl; effect = refl }

is_startable : MayStart (ready.port 0)
unfolding changed
is_startable = record { cr_is_clear = refl; receives = refl; programmed = record { clb_is_written = refl; clbu_is_written = refl; fb_is_written = refl; fbu_is_written = refl }; link_was_seen = refl; last_tfd_was_idle = refl }

-- 0 has no bit
no_bit : (place : ℕ) → bit 0 place ≡ false
no_bit place = ap (λ (n : ℕ). n == 1) (bit_at-zero place)

-- where no bit is set PxIS may be read 0
none_shown : (p : DevicePort) → p.serr_x ≡ false → p.serr_n ≡ false → ((place : ℕ) → p.is place ≡ false) → (place : ℕ) → bit 0 place ≡ shown_interrupt p place
none_shown p x n is place = no_bit place ∙ sym (by (nat_eq place 6) (nat_eq place 22))
  where
    by : (b c : Bool) → (if b then p.serr_x else (if c then p.serr_n else p.is place)) ≡ false
    by true c = x
    by false true = n
    by false false = is place

tells : Reads (port_reg Is) 0 started found
unfolding changed
tells = record { at_access = started; steps = record { steps = []; lead = refl }; shows = λ place cause. none_shown (started.port 0) refl refl (λ k. refl) place; effect = refl }

no_trouble : PxisValueTellsNoTrouble 0
no_trouble = record { pcs_is_clear = no_bit 6; prcs_is_clear = no_bit 22; bits_27_to_30_are_clear = λ place low high. no_bit place }

-- ---- the writes are permitted

permitted : (r : PortReg) (v : ℕ) (d : Device) → ((p : Port) → port_reg r ≢ Px p Ci) → d.ae ≡ true → d.hr ≡ false → d.pi ≡ 0x0f → MayWritePort r v d (d.port 0) → IsStable (MayWrite (port_reg r) v) d
permitted r v d other ae hr pi x = write_stays (port_reg r) v d other (record { ae_is_set = ae; no_reset = hr }, (omega arith, ap (λ (n : ℕ). bit n 0) pi), x)

may_send : IsStable (MayWrite (port_reg Sctl) 1) waking_device
unfolding changed
may_send = permitted Sctl 1 waking_device (λ p e. cc) refl refl refl (refl, inr refl)

may_release : IsStable (MayWrite (port_reg Sctl) 0) sent
unfolding changed
may_release = permitted Sctl 0 sent (λ p e. cc) refl refl refl (refl, inl refl)

-- 11h has the bits of ST and FRE alone
two_bits : (place : ℕ) → place ≢ 0 → place ≢ 4 → bit_at 0x11 place ≡ 0
two_bits place start receive =
    bit_at_or 0x10 1 place ∙ ap (λ (n : ℕ). max n (bit_at 1 place)) (bit_at-pow_other 4 place receive) ∙ ap (λ (n : ℕ). max 0 n) (bit_at-pow_other 0 place start)

-- PxCMD wasn't read as yet
may_start : IsStable (MayWrite (port_reg Cmd) 0x11) ready
unfolding changed
may_start = permitted Cmd 0x11 ready (λ p e. cc) refl refl refl (record {
  start = λ b. inr is_startable;
  receive = λ b. inl refl;
  stop_receiving = λ b. absurd (true≢false b);
  other_bits_are_kept = λ place lt start receive. ap (λ (n : ℕ). n == 1) (two_bits place start receive ∙ sym (bit_at-zero place));
})

-- ---- what is known of it

-- the tape stays empty
none_comes : (old new : Device) → new.tape ≡ old.tape ++ [] → NoDiskComes 0 old new
none_comes old new same = record { new_entries = []; tape_is = same; no_such_entry = All-nil (λ e. IsDiskComing 0 e → ⊥) }

plugs_none : (old new : Device) → new.tape ≡ old.tape ++ [] → NoPlugEvents 0 old new
plugs_none old new same = record { new_entries = []; tape_is = same; no_such_entry = All-nil (λ e. IsPlugEvent 0 e → ⊥) }

-- no write of PxCMD
no_start : (r : PortReg) (v : ℕ) → (r ≡ Cmd → ⊥) → WritesCmdOnlyWithStClear (port_at 0) (Writing (port_reg r) v)
no_start r v other w e = absurd (other (let same : port_reg r ≡ port_reg Cmd = cc in cc))

stands : ((waking_device.port 0).cr ≡ false) × ((linked.port 0).cr ≡ false) × ((cleared.port 0).cr ≡ false) × ((quieted.port 0).cr ≡ false) × ((ready.port 0).cr ≡ false) × ((ready.port 0).st ≡ false)
unfolding changed
stands = (refl, refl, refl, refl, refl, refl)

coming : StepLaws → IsStoppedAndUpForStartIfDet3 (released.port 0)
coming laws = access_coming laws (port_at 0) (Writing (port_reg Sctl) 0) sent released (no_start Sctl 0 (λ e. cc)) (writes (port_reg Sctl) 0 sent) (none_comes sent released refl)
    (comreset_comes laws (port_at 0) 1 waking_device sent stands.0 refl (writes (port_reg Sctl) 1 waking_device))

is_linked : StepLaws → IsUpForStart (linked.port 0)
is_linked laws = up_is_found laws (port_at 0) 3 released linked (none_comes released linked refl) links refl (coming laws)

is_quieted : StepLaws → IsUpForStart (quieted.port 0)
is_quieted laws = access_up laws (port_at 0) (Writing (port_reg Is) 0xffffffff) cleared quieted refl stands.2 (no_start Is 0xffffffff (λ e. cc)) (λ e. cc) (plugs_none cleared quieted refl) (writes (port_reg Is) 0xffffffff cleared)
    (access_up laws (port_at 0) (Writing (port_reg Serr) 0xffffffff) linked cleared refl stands.1 (no_start Serr 0xffffffff (λ e. cc)) (λ e. cc) (plugs_none linked cleared refl) (writes (port_reg Serr) 0xffffffff linked) (is_linked laws))

is_ready : StepLaws → IsUpForStart (ready.port 0)
is_ready laws = access_up laws (port_at 0) (Reading (port_reg Tfd) 0x77) quieted ready refl stands.3 (λ w e. absurd (let z : Reading (port_reg Tfd) 0x77 ≡ Writing (port_reg Cmd) w = e in cc)) tt (plugs_none quieted ready refl) waits (is_quieted laws)

pub boot_is_found : StepLaws → BootWitness
boot_is_found laws = record {
  sent = sent;
  may_send = may_send;
  sends = writes (port_reg Sctl) 1 waking_device;
  released = released;
  may_release = may_release;
  releases = writes (port_reg Sctl) 0 sent;
  linked = linked;
  links = links;
  cleared = cleared;
  may_clear = permitted Serr 0xffffffff linked (λ p e. cc) refl refl refl tt;
  clears = writes (port_reg Serr) 0xffffffff linked;
  quieted = quieted;
  may_quiet = permitted Is 0xffffffff cleared (λ p e. cc) refl refl refl tt;
  quiets = writes (port_reg Is) 0xffffffff cleared;
  ready = ready;
  tfd_is_read_idle = waits;
  port_may_start = is_startable;
  may_start = may_start;
  started = started;
  starts = writes (port_reg Cmd) 0x11 ready;
  found = found;
  pxis_is_read_clear = tells;
  port_runs_well = well_is_found laws (port_at 0) 0x11 0 ready started found refl stands.5 stands.4 refl (is_ready laws) (writes (port_reg Cmd) 0x11 ready) tells no_trouble;
}
