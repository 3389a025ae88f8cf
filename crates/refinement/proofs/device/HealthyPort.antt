-- A port on which nothing goes wrong.
use Rattle.std.proofs.Common.{ℕ, ◌≡◌, ◌++◌, List, refl, sym, ◌∙◌, subst}
use Rattle.hba_regs.specs.declared.reg.Reg.{Reg}
use Rattle.hba_regs.specs.declared.reg.Reg.TheVariants.{Cap, Ghc, Pi, Vs, Cap2, Bohc, Px}
use Rattle.hba_regs.specs.declared.reg.Reg.TheVariants as adapter
use Rattle.adapter.specs.Access.{device_after_write}
use Rattle.adapter.specs.Device.{DevicePort, Device}
use Rattle.adapter.specs.FirstRead.{first_read_device, reading_port, empty_port}
use Rattle.adapter.specs.Memory.{changed}
use Rattle.adapter.specs.declared.tape.Entry.{Entry}
use Rattle.adapter.proofs.Changed.{changed_same}
use Rattle.refinement.specs.PortFacts.{RunsWell, IsDisturbance, Undisturbed}
use Rattle.refinement.proofs.relation.OneSlot.{changed_at}
use Rattle.refinement.proofs.device.TapeGains.{gains_nothing, gains_more, gains_parts}

-- ---- lists of entries

pub undisturbed_none : (port : ℕ) (d : Device) → Undisturbed port d d
undisturbed_none port d = let g = gains_nothing (IsDisturbance port) d in record { new_entries = g.0; tape_is = g.1; no_disturbance = g.2 }

pub undisturbed_more : (port : ℕ) (old mid new : Device) → Undisturbed port old mid → Undisturbed port mid new → Undisturbed port old new
undisturbed_more port old mid new a b =
    let g = gains_more (IsDisturbance port) old mid new (a.new_entries, a.tape_is, a.no_disturbance) (b.new_entries, b.tape_is, b.no_disturbance) in
    record { new_entries = g.0; tape_is = g.1; no_disturbance = g.2 }

pub undisturbed_parts : (port : ℕ) (old mid new : Device) (early late : List Entry) → mid.tape ≡ old.tape ++ early → new.tape ≡ mid.tape ++ late → Undisturbed port old new →
    Undisturbed port old mid × Undisturbed port mid new
undisturbed_parts port old mid new early late a b h =
    let g = gains_parts (IsDisturbance port) old mid new early late a b (h.new_entries, h.tape_is, h.no_disturbance) in
    (record { new_entries = g.0.0; tape_is = g.0.1; no_disturbance = g.0.2 }, record { new_entries = g.1.0; tape_is = g.1.1; no_disturbance = g.1.2 })

-- ---- a step, and a write

-- one port changed: what is to be shown at the port
pub at_port : (H Q : DevicePort → Type 0) (d : Device) (p port : ℕ) (new : DevicePort) → H (d.port port) → (p ≡ port → H (d.port p) → Q new) → ((port ≡ p → ⊥) → H (d.port port) → Q (d.port port)) →
    Q (changed d.port p new port)
at_port H Q d p port new h here other =
    changed_at d.port p new (λ k x. k ≡ port → Q x)
    (λ e. here e (subst (λ (k : ℕ). H (d.port k)) (sym e) h))
    (λ k ne e. subst (λ (k : ℕ). Q (d.port k)) (sym e) (other (λ x. ne (e ∙ x)) h))
    port refl

pub written_tape : (r : Reg) (v : ℕ) (d : Device) → (device_after_write r v d).tape ≡ d.tape
written_tape (Px p r) v d = refl
written_tape adapter.Is v d = refl
written_tape Cap v d = refl
written_tape Ghc v d = refl
written_tape Pi v d = refl
written_tape Vs v d = refl
written_tape Cap2 v d = refl
written_tape Bohc v d = refl

-- ---- one that runs

pub first_healthy : RunsWell (first_read_device.port 0)
first_healthy = subst RunsWell (sym (changed_same (λ _. empty_port) 0 reading_port)) (record {
  st_is_set = refl;
  cr_is_set = refl;
  det_is_3 = refl;
  present = refl;
  fresh = refl;
  no_link_is_due = refl;
  is_not_halted = refl;
  is_not_broken = refl;
  shows_no_trouble = record { serr_n_is_clear = refl; serr_x_is_clear = refl; bits_27_to_30_are_clear = λ place low up. refl };
})
