-- One port of the hardware is changed.
use Rattle.std.proofs.Common.{ℕ, Bool, true, false, ◌≡◌, ◌≢◌, ◌<◌, List, [], ◌∷◌, ◌++◌, length, refl, sym, ◌∙◌, ap, subst, inl, inr, get_or-set_same, get_or-set_other}
use Rattle.std.specs.Prelude.{slice_set, slice_index_or}
use Rattle.std.specs.Global.{Vec}
use Rattle.std.proofs.lemmas.Bool.Decides.{eqb_tells}
use Rattle.adapter.specs.Memory.{changed}
use Rattle.adapter.specs.Device.{DevicePort, Device}
use Rattle.adapter.specs.Steps.{MayLinkUp, port_after_link_up, with_port, with_port_and_entry}
use Rattle.adapter.specs.Access.{notes_after_reading, device_after_reading}
use Rattle.adapter.specs.Rules.{MayRead, MayWrite}
use Rattle.adapter.specs.declared.tape.Entry.{Entry}
use Rattle.device_model.proofs.Places.{fun_ext, changed_same, changed_other, changed_each}
use Rattle.hba_regs.specs.declared.reg.Reg.{Reg}
use Rattle.hba_regs.specs.declared.reg.Reg.TheVariants.{Cap, Ghc, Is, Pi, Vs, Cap2, Bohc, Px}
use Rattle.device_model.specs.FetchedBytes.{bytes_of}
use Rattle.device_model.specs.HeldPorts.{IsPortHeld, IsPortReleased}
use Rattle.device_model.specs.SentFises.{SendsDeviceToHost, signature_fis}
use Rattle.device_model.specs.ModelOwnSteps.{LeadsBySteps, Settles, PortChangesBySettlingSteps, IsSettled}
use Rattle.device_model.specs.PortView.{Media, port_of, reset_port_without_disk}
use Rattle.device_model.specs.WholeAdapter.{AllMedia, device_of, HasRegister}
use Rattle.device_model.specs.declared.port.PortModel.{PortModel}
use Rattle.device_model.specs.declared.hardware.Hardware.{Hardware}
use Rattle.device_model.proofs.GoingOn.{own_linked, with_same}

abbrev ports_of : List PortModel → AllMedia → ℕ → DevicePort
ports_of ports o = λ port. port_of (slice_index_or ports port reset_port_without_disk) (o.media port)

ports_set : (ports : List PortModel) (o after : AllMedia) (p : ℕ) (new : PortModel) → p < length ports →
    ((k : ℕ) → k ≢ p → after.media k ≡ o.media k) → (k : ℕ) →
    ports_of (slice_set ports p new) after k ≡ changed (ports_of ports o) p (port_of new (after.media p)) k
ports_set ports o after p new small others k =
    elim (eqb_tells k p) [
      | inl same ↦
          rw same.1
          (ap (λ (m : PortModel). port_of m (after.media p)) (get_or-set_same ports p new reset_port_without_disk small)
          ∙ sym (changed_same (ports_of ports o) p (port_of new (after.media p))))
      | inr differ ↦
          ap (λ (m : PortModel). port_of m (after.media k)) (get_or-set_other ports p k new reset_port_without_disk differ.1)
          ∙ (ap (λ (m : Media). port_of (slice_index_or ports k reset_port_without_disk) m) (others k differ.1)
          ∙ sym (changed_other (ports_of ports o) p (port_of new (after.media p)) k differ.1))
    ]

-- and so is what is behind it
set_both : (h : Hardware) (o : AllMedia) (p : ℕ) (new : PortModel) (media : Media) (state : DevicePort) → p < length h.ports →
    port_of new media ≡ state →
    device_of (record h { ports = slice_set h.ports p new }) (record o { media = changed o.media p media }) ≡ with_port (device_of h o) p state
set_both h o p new media state small is =
    let after : AllMedia = record o { media = changed o.media p media } in
    ap (λ (f : ℕ → DevicePort). record (device_of h o) { port = f })
    (fun_ext (ports_set h.ports o after p new small (λ k other. changed_other o.media p media k other)))
    ∙ ap (λ (s : DevicePort). with_port (device_of h o) p s) (ap (port_of new) (changed_same o.media p media) ∙ is)

pub set_port : (h : Hardware) (o : AllMedia) (p : ℕ) (new : PortModel) (state : DevicePort) → p < length h.ports →
    port_of new (o.media p) ≡ state →
    device_of (record h { ports = slice_set h.ports p new }) o ≡ with_port (device_of h o) p state
set_port h o p new state small is =
    ap (λ (f : ℕ → DevicePort). record (device_of h o) { port = f }) (fun_ext (ports_set h.ports o o p new small (λ k _. refl)))
    ∙ ap (λ (s : DevicePort). with_port (device_of h o) p s) is

pub has_port_read : (r : Reg) (d : Device) → MayRead r d → HasRegister r
has_port_read (Px port r) d may = may.1.0
has_port_read Cap d may = tt
has_port_read Ghc d may = tt
has_port_read Is d may = tt
has_port_read Pi d may = tt
has_port_read Vs d may = tt
has_port_read Cap2 d may = tt
has_port_read Bohc d may = tt

pub has_port_write : (r : Reg) (v : ℕ) (d : Device) → MayWrite r v d → HasRegister r
has_port_write (Px port r) v d may = may.1.0
has_port_write Cap v d may = tt
has_port_write Ghc v d may = tt
has_port_write Is v d may = tt
has_port_write Pi v d may = tt
has_port_write Vs v d may = tt
has_port_write Cap2 v d may = tt
has_port_write Bohc v d may = tt

-- one port that isn't held did what it does by itself
pub port_settles : (h : Hardware) (o : AllMedia) (p : ℕ) (new : PortModel) (held : List Bool) → p < length h.ports → IsPortReleased held p →
    PortChangesBySettlingSteps (port_of (slice_index_or h.ports p reset_port_without_disk) (o.media p)) (port_of new (o.media p)) →
    LeadsBySteps (Settles held) (device_of h o) (device_of (record h { ports = slice_set h.ports p new }) o)
port_settles h o p new held small loose goes =
    let P : Device → Type 0 = λ d. LeadsBySteps (Settles held) (device_of h o) d in
    subst P (sym (set_port h o p new _ small refl)) (goes held (device_of h o) p loose refl)

-- its link came up, and the disk's first FIS was sent
pub port_links : (h : Hardware) (o : AllMedia) (p : ℕ) (linked : PortModel) (held : List Bool) (new : Device) → p < length h.ports → IsPortReleased held p →
    MayLinkUp (port_of (slice_index_or h.ports p reset_port_without_disk) (o.media p)) 0x101 →
    port_of linked (o.media p) ≡ port_after_link_up (port_of (slice_index_or h.ports p reset_port_without_disk) (o.media p)) 0x101 true →
    SendsDeviceToHost p (signature_fis ((device_of (record h { ports = slice_set h.ports p linked }) o).port p)) (device_of (record h { ports = slice_set h.ports p linked }) o) new →
    LeadsBySteps (Settles held) (device_of h o) new
port_links h o p linked held new small loose may is sends =
    own_linked held (device_of h o) (device_of (record h { ports = slice_set h.ports p linked }) o) new p (port_of (slice_index_or h.ports p reset_port_without_disk) (o.media p)) loose refl may
    (set_port h o p linked _ small is) sends

-- one port is as it was
pub port_same : (h : Hardware) (o : AllMedia) (p : ℕ) (new : PortModel) → p < length h.ports → new ≡ slice_index_or h.ports p reset_port_without_disk →
    device_of (record h { ports = slice_set h.ports p new }) o ≡ device_of h o
port_same h o p new small is =
    set_port h o p new (port_of (slice_index_or h.ports p reset_port_without_disk) (o.media p)) small (ap (λ (x : PortModel). port_of x (o.media p)) is)
    ∙ with_same (device_of h o) p (port_of (slice_index_or h.ports p reset_port_without_disk) (o.media p)) refl

-- one port is changed, and the tape has one more entry
pub set_port_recorded : (h : Hardware) (o : AllMedia) (p : ℕ) (new : PortModel) (state : DevicePort) (tape : Vec Entry) (entry : Entry) →
    p < length h.ports → port_of new (o.media p) ≡ state → tape.items ≡ h.tape.items ++ entry ∷ [] →
    device_of (record h { ports = slice_set h.ports p new; tape = tape }) o ≡ with_port_and_entry (device_of h o) p state entry
set_port_recorded h o p new state tape entry small is more =
    set_port (record h { tape = tape }) o p new state small is
    ∙ ap (λ (entries : List Entry). record (with_port (device_of h o) p state) { tape = entries }) more

-- one port is changed with what is behind it, and the tape has one more entry
pub set_port_plugged : (h : Hardware) (o : AllMedia) (p : ℕ) (new : PortModel) (media : Media) (state : DevicePort) (tape : Vec Entry) (entry : Entry) →
    p < length h.ports → port_of new media ≡ state → tape.items ≡ h.tape.items ++ entry ∷ [] →
    device_of (record h { ports = slice_set h.ports p new; tape = tape }) (record o { media = changed o.media p media }) ≡ with_port_and_entry (device_of h o) p state entry
set_port_plugged h o p new media state tape entry small is more =
    set_both (record h { tape = tape }) o p new media state small is
    ∙ ap (λ (entries : List Entry). record (with_port (device_of h o) p state) { tape = entries }) more

-- one port is changed with what is behind it, the tape has one more entry, and the memory other bytes
pub set_port_moved : (h : Hardware) (o : AllMedia) (p : ℕ) (new : PortModel) (media : Media) (state : DevicePort) (tape : Vec Entry) (entry : Entry)
    (memory : Vec ℕ) (bytes : ℕ → ℕ) →
    p < length h.ports → port_of new media ≡ state → tape.items ≡ h.tape.items ++ entry ∷ [] →
    length memory.items ≡ length h.memory.items → bytes_of memory.items ≡ bytes →
    device_of (record h { memory = memory; ports = slice_set h.ports p new; tape = tape }) (record o { media = changed o.media p media })
    ≡ record (with_port_and_entry (device_of h o) p state entry) { memory = bytes }
set_port_moved h o p new media state tape entry memory bytes small is more size same =
    set_both (record h { memory = memory; tape = tape }) o p new media state small is
    ∙ (λ i. record (with_port (device_of h o) p state) { memory_size = size i; memory = same i; tape = more i })

-- a reading leaves settled what is
pub noted_settled : (r : Reg) (v : ℕ) (d : Device) (held : List Bool) → IsSettled held d → IsSettled held (device_after_reading r v d)
noted_settled (Px q r) v d held s =
    let new : DevicePort = record (d.port q.0) { notes = notes_after_reading r v (d.port q.0) } in
    record {
      reset_waits_only_if_all_are_held = s.reset_waits_only_if_all_are_held;
      cr_may_fall_only_where_held = changed_each d.port q.0 new (λ k p. (p.st ≡ false) × (p.cr ≡ true) → IsPortHeld held k) (s.cr_may_fall_only_where_held q.0) s.cr_may_fall_only_where_held;
      fr_may_fall_only_where_held = changed_each d.port q.0 new (λ k p. (p.fre ≡ false) × (p.cr ≡ false) × (p.fr ≡ true) → IsPortHeld held k) (s.fr_may_fall_only_where_held q.0) s.fr_may_fall_only_where_held;
      link_may_come_up_only_where_held = λ port sig n may.
          changed_each d.port q.0 new (λ k p. MayLinkUp p sig → IsPortHeld held k)
          (λ m. s.link_may_come_up_only_where_held q.0 sig n (record { present = m.present; no_comreset = m.no_comreset; link_is_due = m.link_is_due; sig_is_32_bit = m.sig_is_32_bit })) (λ k m. s.link_may_come_up_only_where_held k sig n m) port may;
    }
noted_settled Cap v d held s = s
noted_settled Ghc v d held s = s
noted_settled Is v d held s = s
noted_settled Pi v d held s = s
noted_settled Vs v d held s = s
noted_settled Cap2 v d held s = s
noted_settled Bohc v d held s = s
