use Rattle.std.proofs.Common.{◌≡◌, ◌≤◌, ◌+◌, length}
use Rattle.sector_store.specs.Stores.{filled_with_zeros_to_size}
use Rattle.sector_store.proofs.store.MemStore.extend_to.Given as goal

abbrev pub invariant-loop-sector : goal.invariant-loop-sector
invariant-loop-sector l =
    (l.self.size ≡ l.initial.self.size) × (length l.self.written.items ≡ l._sector)
    × (filled_with_zeros_to_size l.self.size l.self.written.items
    ≡ filled_with_zeros_to_size l.initial.self.size l.initial.self.written.items)
    × (l.sector + 1 ≤ length l.initial.self.written.items
    → length l.self.written.items ≡ length l.initial.self.written.items)
