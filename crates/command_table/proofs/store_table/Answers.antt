use Rattle.std.proofs.Common.{ℕ, List, ◌≡◌, ◌+◌, ◌*◌, ◌≤◌, subst, sym, arith, length, take}
use Rattle.std.proofs.lemmas.List.{length-take}
use Rattle.ata_types.specs.declared.memory.TheConstants.{PRD_BYTES, TABLE_HEAD_BYTES}
use Rattle.adapter.specs.Device.{Device}
use Rattle.adapter.specs.Rules.{IsInMemoryNotOwnedByDevice, IsStable}
use Rattle.command_table.proofs.Zeros.{zero_of}
use Rattle.command_table.proofs.store_table.Goals as goal

-- the place is free for as many bytes as are stored
front_free : (d : Device) (at n : ℕ) (bytes : List ℕ) → n ≤ length bytes → IsStable (IsInMemoryNotOwnedByDevice at n) d → IsStable (IsInMemoryNotOwnedByDevice at (length (take n bytes))) d
front_free d at n bytes fits free =
    let same : length (take n bytes) ≡ n = let size = length-take n bytes in omega (arith, size, fits) in
    let Free : ℕ → Type 0 = λ k. IsStable (IsInMemoryNotOwnedByDevice at k) d in
    subst Free (sym same) free

pub fill_table-requires-clause-zeros : goal.fill_table-requires-clause-zeros
fill_table-requires-clause-zeros g c = λ k _ _. zero_of 256 k

pub store-requires : goal.store-requires
store-requires g c = front_free _ c.args.at (TABLE_HEAD_BYTES + PRD_BYTES * length c.args.prds.now) c.fill_table.new.bytes c.fill_table.ensures.size c.requires.free

pub fill_table-requires-else-size-le-SHORT_TABLE-clause-zeros : goal.fill_table-requires-else-size-le-SHORT_TABLE-clause-zeros
fill_table-requires-else-size-le-SHORT_TABLE-clause-zeros g c = λ k _ _. zero_of 2176 k

pub store-requires-else-size-le-SHORT_TABLE : goal.store-requires-else-size-le-SHORT_TABLE
store-requires-else-size-le-SHORT_TABLE g c =
    front_free _ c.args.at (TABLE_HEAD_BYTES + PRD_BYTES * length c.args.prds.now) c.fill_table-else-size-le-SHORT_TABLE.new.bytes
    c.fill_table-else-size-le-SHORT_TABLE.ensures.size c.requires.free
