-- The frames of a request that lives hold what they held at its acceptance, but for the sectors that a read asked.
use Rattle.std.proofs.Common.{◌≡◌, ℕ, ⊎_elim, sym, ap, ◌∙◌, subst, arith}
use Rattle.block_machine.specs.State.{Block, Accepted, Pending, Machine, is_reader}
use Rattle.block_machine.specs.Steps.{Step, Accept, Issue, Touch, End, Age, WaitAgain, Answer, Revoke, Release, Unplug, PlugDisk, Store, Load, IsEnabled, IsInBookOrKept, after_step}
use Rattle.block_machine.specs.Confinement.{FramesAreAsAcceptedOutsideReadRange}
use Rattle.block_machine.proofs.Sound.{Sound}
use Rattle.block_machine.proofs.Trace.{Before, Comes, lives_before, lives_one, runs_lives}
use Rattle.block_machine.proofs.Reading.{memory_touch, memory_store}

abbrev pub AllHeld : Machine → Type 0
AllHeld m = (e : Pending) → IsInBookOrKept m e → FramesAreAsAcceptedOutsideReadRange m e.request

held_touch : (m : Machine) (e : Pending) (i : ℕ) (block : Block) → IsEnabled m (Touch e i block) → Sound m → (o : Pending) → IsInBookOrKept m o → FramesAreAsAcceptedOutsideReadRange m o.request → FramesAreAsAcceptedOutsideReadRange (after_step m (Touch e i block)) o.request
held_touch m e i block may s o l h k b past room lb =
    memory_touch m s e o may.0 l i block k b may.1 room lb
    (λ reads id same.
    let one : e.request ≡ o.request = lives_one m s e o (runs_lives m e may.0) l id in
    let beyond = past (ap (λ (r : Accepted). is_reader r.asked.op) (sym one) ∙ reads) in
    let count : e.request.asked.count ≡ o.request.asked.count = ap (λ (r : Accepted). r.asked.count) one in
    omega (arith, beyond, count, same, may.1))
    ∙ h k b past room lb

held_step : (m : Machine) (step : Step) → IsEnabled m step → Sound m → (o : Pending) → IsInBookOrKept m o → FramesAreAsAcceptedOutsideReadRange m o.request → FramesAreAsAcceptedOutsideReadRange (after_step m step) o.request
held_step m (Touch e i block) may s o l h = held_touch m e i block may s o l h
held_step m (Store client frame offset bytes) may s o l h =
    λ i b past room lb. memory_store m s o l client frame offset bytes may i b room ∙ h i b past room lb
held_step m (Accept r) may s o l h = h
held_step m (Issue mode e) may s o l h = h
held_step m (End e) may s o l h = h
held_step m (Age ready) may s o l h = h
held_step m (WaitAgain e) may s o l h = h
held_step m (Answer e outcome) may s o l h = h
held_step m (Revoke client number) may s o l h = h
held_step m Release may s o l h = h
held_step m (Unplug port) may s o l h = h
held_step m (PlugDisk port id size disk) may s o l h = h
held_step m (Load client frame offset bytes) may s o l h = h

new_held : (m : Machine) (step : Step) (r : Accepted) → Comes m step r → FramesAreAsAcceptedOutsideReadRange (after_step m step) r
new_held m (Accept new) r c = λ i b past room lb. ap (λ (f : ℕ → Block). f i b) (sym c.1.blocks_are_in_memory)
new_held m _ r c = absurd c.0

pub all_held : (m : Machine) (step : Step) → IsEnabled m step → Sound m → AllHeld m → AllHeld (after_step m step)
all_held m step may s h e l = ⊎_elim
    (λ (r : Before m e). subst (λ (j : Accepted). FramesAreAsAcceptedOutsideReadRange (after_step m step) j) (sym r.2) (held_step m step may s r.0 r.1 (h r.0 r.1)))
    (λ (c : Comes m step e.request). new_held m step e.request c)
    (lives_before m step may e l)
