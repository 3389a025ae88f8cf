-- What the machine has put aside of a sector, the sector held since a flush was last ended: so the disks of each history are volatile ones.
use Rattle.std.proofs.Common.{◌≡◌, ◌⊎◌, ℕ, Bool, true, false, cond, not, ◌&&◌, ◌==◌, List, [], ◌∷◌, inl, inr, ⊎_elim, refl, sym, ap, ◌∙◌, subst, eqb-true, eq-eqb, ne_eqb}
use Rattle.std.proofs.lemmas.Bool.{eqb-false}
use Rattle.std.specs.List.{Contains}
use Rattle.ata_types.specs.declared.Port.{Port}
use Rattle.block_machine.specs.State.{Block, DiskBytes, Pending, Machine, sector_of}
use Rattle.block_machine.specs.DueRequests.{is_flush, changes_sectors}
use Rattle.block_machine.specs.Steps.{Step, Touch, End, PlugDisk, SameBytes, after_step}
use Rattle.block_machine.specs.Expected.{after, AllStepsFaithful, StepIsFaithful}
use Rattle.durability.specs.Durable.{EveryReplugFindsFlushedOrLater}
use Rattle.block_machine.proofs.Members.{contains_none, contains_cases}
use Rattle.block_machine.specs.Events.{AbstractState, CallRecord, IsRun, steps_of}
use Rattle.durability.proofs.Lasting.{starts_lasting, HeldSince, ComesBack, IsVolatile, held_now, run_finds as flushed_found}

-- what is put aside after a step was so before, or is what the sector held before; and the step doesn't make it lasting
abbrev Aside : Machine → Step → Port → ℕ → Block → Type 0
Aside m step port k old = (starts_lasting m port step ≡ false) × ((old ≡ m.disk_bytes port k) ⊎ Contains (m.overwritten_since_flush port k) old)

aside_touch : (m : Machine) (e : Pending) (i : ℕ) (block : Block) (port : Port) (k : ℕ) (old : Block) → Contains ((after_step m (Touch e i block)).overwritten_since_flush port k) old → Aside m (Touch e i block) port k old
aside_touch m e i block port k old h = (refl, go (changes_sectors e.request.asked.op && ((port.0 == e.request.port.0) && (k == sector_of e.request i))) h)
  where
    go : (b : Bool) → Contains (cond b (m.disk_bytes port k ∷ m.overwritten_since_flush port k) (m.overwritten_since_flush port k)) old → (old ≡ m.disk_bytes port k) ⊎ Contains (m.overwritten_since_flush port k) old
    go true c = contains_cases (m.disk_bytes port k) (m.overwritten_since_flush port k) old c
    go false c = inr c

aside_end : (m : Machine) (e : Pending) (port : Port) (k : ℕ) (old : Block) → Contains ((after_step m (End e)).overwritten_since_flush port k) old → Aside m (End e) port k old
aside_end m e port k old h = go ((e.request.port.0 == port.0) && is_flush e.request.asked.op) refl h
  where
    go : (b : Bool) → ((e.request.port.0 == port.0) && is_flush e.request.asked.op) ≡ b → Contains (cond b [] (m.overwritten_since_flush port k)) old → Aside m (End e) port k old
    go true t c = absurd (contains_none old c)
    go false t c = (t, inr c)

aside_replace : (m : Machine) (p : Port) (id size : ℕ) (disk : DiskBytes) (port : Port) (k : ℕ) (old : Block) → Contains ((after_step m (PlugDisk p id size disk)).overwritten_since_flush port k) old → Aside m (PlugDisk p id size disk) port k old
aside_replace m p id size disk port k old h = go (port.0 == p.0) (id == m.disk_ids port) refl refl h
  where
    other : (b : Bool) → (port.0 == p.0) ≡ b → (p.0 == port.0) ≡ b
    other true t = eq-eqb p.0 port.0 (sym (eqb-true port.0 p.0 t))
    other false t = ne_eqb p.0 port.0 (λ e. eqb-false port.0 p.0 t (sym e))

    go : (here same : Bool) → (port.0 == p.0) ≡ here → (id == m.disk_ids port) ≡ same → Contains (cond here (cond same (m.disk_bytes port k ∷ m.overwritten_since_flush port k) []) (m.overwritten_since_flush port k)) old → Aside m (PlugDisk p id size disk) port k old
    go true true t u c = (ap (λ (b : Bool). b && not (id == m.disk_ids port)) (other true t) ∙ ap not u, contains_cases (m.disk_bytes port k) (m.overwritten_since_flush port k) old c)
    go true false t u c = absurd (contains_none old c)
    go false same t u c = (ap (λ (b : Bool). b && not (id == m.disk_ids port)) (other false t), inr c)

aside : (m : Machine) (step : Step) (port : Port) (k : ℕ) (old : Block) → Contains ((after_step m step).overwritten_since_flush port k) old → Aside m step port k old
aside m (Touch e i block) port k old h = aside_touch m e i block port k old h
aside m (End e) port k old h = aside_end m e port k old h
aside m (PlugDisk p id size disk) port k old h = aside_replace m p id size disk port k old h
aside m _ port k old h = (refl, inr h)

-- of what is put aside each was held since a flush was last ended
aside_held : (start : Machine) (h : List Step) → (port : Port) (k : ℕ) (old : Block) → Contains ((after start h).overwritten_since_flush port k) old → HeldSince start port k old h
aside_held start [] port k old c = inr (old, c, λ b lt. refl)
aside_held start (step ∷ past) port k old c =
    let a = aside (after start past) step port k old c in
    inr (
      a.0,
      ⊎_elim
          (λ (p : old ≡ (after start past).disk_bytes port k). subst (λ (b : Block). HeldSince start port k b past) (sym p) (held_now start port k past))
          (λ (i : Contains ((after start past).overwritten_since_flush port k) old). aside_held start past port k old i)
          a.1,
    )

held_bytes : (start : Machine) (port : Port) (k : ℕ) (h : List Step) (one other : Block) → SameBytes one other → HeldSince start port k other h → HeldSince start port k one h
held_bytes start port k [] one other same (inl now) = inl (λ b lt. same b lt ∙ now b lt)
held_bytes start port k [] one other same (inr (old, here, held)) = inr (old, here, λ b lt. same b lt ∙ held b lt)
held_bytes start port k (step ∷ past) one other same (inl now) = inl (λ b lt. same b lt ∙ now b lt)
held_bytes start port k (step ∷ past) one other same (inr (kept, before)) = inr (kept, held_bytes start port k past one other same before)

comes_back : (start : Machine) (past : List Step) (step : Step) → StepIsFaithful (after start past) step → ComesBack start past step
comes_back start past (PlugDisk port id size disk) told = λ same k lt. ⊎_elim
    (λ now. held_bytes start port k past (disk k) ((after start past).disk_bytes port k) now (held_now start port k past))
    (λ (a : (old : Block) × Contains ((after start past).overwritten_since_flush port k) old × SameBytes (disk k) old). held_bytes start port k past (disk k) a.0 a.2 (aside_held start past port k a.0 a.1))
    (told same k lt)
comes_back start past _ told = tt

-- so each history of disks that tell their sectors is one of volatile disks
pub volatile : (start : Machine) (h : List Step) → AllStepsFaithful start h → IsVolatile start h
volatile start [] told = tt
volatile start (step ∷ past) told = (volatile start past told.0, comes_back start past step told.1)

-- a disk that comes back in a run has the writes that were flushed
pub run_finds : {D : Type 0} (first : AbstractState) (run : List (CallRecord D)) → IsRun first run → AllStepsFaithful first.machine (steps_of run) → EveryReplugFindsFlushedOrLater first.machine (steps_of run)
run_finds first run r told = flushed_found first run r (volatile first.machine (steps_of run) told)
