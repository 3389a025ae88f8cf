-- Two states that differ in notes, flags and what else isn't the command engine's.
use Rattle.std.proofs.Common.{ℕ, ◌≡◌, ◌+◌, Option, refl, sym, ◌∙◌, ap, subst}
use Rattle.hba_regs.specs.declared.reg.Reg.{Reg}
use Rattle.hba_regs.specs.declared.reg.Reg.TheVariants.{Cap, Ghc, Is, Pi, Vs, Cap2, Bohc, Px}
use Rattle.adapter.specs.Device.{FetchedCommand, Bases, DevicePort, Device}
use Rattle.adapter.specs.KeptBySteps.{PortBitsOnlyFallFreeSlotsStay}
use Rattle.adapter.specs.Steps.{with_port}
use Rattle.adapter.specs.Access.{Reads, notes_after_reading, device_after_reading}
use Rattle.adapter.specs.Guarded.{MissesRange, IsGuardedSlot, IsGuarded}
use Rattle.adapter.proofs.Changed.{changed_each}
use Rattle.adapter.proofs.Guards.{in_use_before, steps_guard}
use Rattle.adapter.proofs.KeptLemmas.{SameEngine, same_engine, still}

pub record IsAlike (old new : Device) : Type 0 where
  pub disks_tell_sectors : new.disks_tell_sectors ≡ old.disks_tell_sectors
  pub size : new.memory_size ≡ old.memory_size
  pub memory : new.memory ≡ old.memory
  pub cap : new.cap ≡ old.cap
  pub pi : new.pi ≡ old.pi
  pub hr : new.hr ≡ old.hr
  pub ae : new.ae ≡ old.ae
  pub ie : new.ie ≡ old.ie
  pub tape : new.tape ≡ old.tape
  pub port : (q : ℕ) → SameEngine (old.port q) (new.port q)

-- a port's engine is the same, and so are the other ports
pub port_alike : (d : Device) (port : ℕ) (new : DevicePort) → SameEngine (d.port port) new → IsAlike d (with_port d port new)
port_alike d port new same = record {
  disks_tell_sectors = refl;
  size = refl;
  memory = refl;
  cap = refl;
  pi = refl;
  hr = refl;
  ae = refl;
  ie = refl;
  tape = refl;
  port = changed_each d.port port new (λ q p. SameEngine (d.port q) p) same (λ q. same_engine (d.port q));
}

pub IsAlike-refl : (d : Device) → IsAlike d d
IsAlike-refl d = record { disks_tell_sectors = refl; size = refl; memory = refl; cap = refl; pi = refl; hr = refl; ae = refl; ie = refl; tape = refl; port = λ q. same_engine (d.port q) }

-- a reading changes notes alone
pub noted_alike : (r : Reg) (v : ℕ) (d : Device) → IsAlike d (device_after_reading r v d)
noted_alike Cap v d = IsAlike-refl d
noted_alike Ghc v d = IsAlike-refl d
noted_alike Is v d = IsAlike-refl d
noted_alike Pi v d = IsAlike-refl d
noted_alike Vs v d = IsAlike-refl d
noted_alike Cap2 v d = IsAlike-refl d
noted_alike Bohc v d = IsAlike-refl d
noted_alike (Px port r) v d = port_alike d port.0 (record (d.port port.0) { notes = notes_after_reading r v (d.port port.0) }) (same_engine (d.port port.0))

module _ (Tables Kept : ℕ → Type 0) where
  -- what is guarded is guarded in a state that is alike
  pub guard_alike : (old new : Device) → IsAlike old new → IsGuarded Tables Kept old → IsGuarded Tables Kept new
  guard_alike old new a g = record {
    tables_are_kept = g.tables_are_kept;
    ports_are_guarded = λ q.
        let k : PortBitsOnlyFallFreeSlotsStay (old.port q) (new.port q) = still (old.port q) (new.port q) (a.port q) in
        record {
          slots_are_guarded = λ slot used.
              let P : (ℕ → ℕ) → Type 0 = λ memory. IsGuardedSlot Tables Kept memory (new.port q).bases.clb slot in
              let Q : Bases → Type 0 = λ b. IsGuardedSlot Tables Kept old.memory b.clb slot in
              subst P (sym a.memory) (subst Q (sym k.bases_are_kept) ((g.ports_are_guarded q).slots_are_guarded slot (in_use_before (old.port q) (new.port q) k slot used)));
          taken_pieces_are_not_kept = λ slot t is. (g.ports_are_guarded q).taken_pieces_are_not_kept slot t (sym (ap (λ (f : ℕ → Option FetchedCommand). f slot) ((a.port q).7)) ∙ is);
          received_fis_is_not_kept = λ set.
              let P : Bases → Type 0 = λ b. MissesRange Kept b.fb (b.fb + 256) in
              subst P (sym k.bases_are_kept) ((g.ports_are_guarded q).received_fis_is_not_kept (sym ((a.port q).2) ∙ set));
        };
  }

  -- and after a reading
  pub reads_guard : (old new : Device) (r : Reg) (v : ℕ) → Reads r v old new → IsGuarded Tables Kept old →
      IsGuarded Tables Kept new × ((at : ℕ) → Kept at → new.memory at ≡ old.memory at)
  reads_guard old new r v call g =
      let s = steps_guard Tables Kept old call.at_access g call.steps in
      let a : IsAlike call.at_access (device_after_reading r v call.at_access) = noted_alike r v call.at_access in
      let P : Device → Type 0 = λ d. IsGuarded Tables Kept d × ((at : ℕ) → Kept at → d.memory at ≡ old.memory at) in
      subst P (sym call.effect)
      (guard_alike call.at_access (device_after_reading r v call.at_access) a s.0, λ at kept. ap (λ (f : ℕ → ℕ). f at) a.memory ∙ s.1 at kept)
