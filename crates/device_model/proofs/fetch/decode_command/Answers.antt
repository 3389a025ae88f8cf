use Rattle.std.proofs.Common.{◌≡◌, ◌+◌, ◌∙◌, ℕ, sym, ap, subst, length, arith, Some}
use Rattle.byteorder.specs.Endian.{little_from}
use Rattle.adapter.specs.Commands.{transfer_sector_count}
use Rattle.adapter.specs.Memory.{bytes_at}
use Rattle.adapter.specs.Decoding.{pieces, HasPrds}
use Rattle.device_model.proofs.Absurd.{some-none, some_one}
use Rattle.device_model.specs.FetchedBytes.{bytes_of}
use Rattle.device_model.specs.declared.fetch.Header.{Header}
use Rattle.device_model.specs.declared.fetch.Sectors.{Sectors}
use Rattle.device_model.proofs.Fetches.{said_header, said_command, said_meaning, said_count, has_once}
use Rattle.device_model.proofs.fetch.decode_command.Goals as goal

pub returns-in_default-clause-only : goal.returns-in_default-clause-only
returns-in_default-clause-only c = λ _ list header m places is s.
    let said = c.decode_header.ensures.only (record { entries = length s.prds; table = s.table })
    (rw (← header, ← c.reads_memory.ensures) at (said_header c.args.operation (bytes_of c.args.memory.now) list c.args.slot m places is s)) in
    some-none said c.in_default.is

pub returns-in_default-decode_sectors-clause-only : goal.returns-in_default-decode_sectors-clause-only
returns-in_default-decode_sectors-clause-only c = λ _ list header m places is s.
    let memory : ℕ → ℕ = bytes_of c.args.memory.now in
    let points : little_from 8 4 c.args.header.now ≡ s.table = rw (← header) at s.header.table_address_is in
    let fis : c.args.fis.now ≡ bytes_at memory s.table 20 = c.requires.fis ∙ ap (λ (at : ℕ). bytes_at memory at 20) points in
    let said = c.decode_sectors.ensures.only (record { first = m.first; count = m.count })
    (said_meaning c.args.operation memory list c.args.slot m places is s) (rw (← fis) at (said_command c.args.operation memory list c.args.slot m places is s)) in
    some-none said c.in_default-decode_sectors.is

pub returns-then-count_pieces-transfer_sector_count-clause-only : goal.returns-then-count_pieces-transfer_sector_count-clause-only
returns-then-count_pieces-transfer_sector_count-clause-only c = λ _ list header m places is s.
    let memory : ℕ → ℕ = bytes_of c.args.memory.now in
    let k = c.args.operation in
    let there = c.decode_header.ensures.only (record { entries = length s.prds; table = s.table })
    (rw (← header, ← c.reads_memory.ensures) at (said_header k memory list c.args.slot m places is s)) in
    let one : Some c.in-Some.header ≡ Some (record { entries = length s.prds; table = s.table }) = sym c.in-Some.is ∙ there in
    let found : c.in-Some.header ≡ record { entries = length s.prds; table = s.table } = some_one one in
    let table : s.table ≡ c.in-Some.header.table = ap (λ (h : Header). h.table) (sym found) in
    let entries : c.in-Some.header.entries ≡ length s.prds = ap (λ (h : Header). h.entries) found in
    let points : little_from 8 4 c.args.header.now ≡ s.table = rw (← header) at s.header.table_address_is in
    let fis : c.args.fis.now ≡ bytes_at memory s.table 20 = c.requires.fis ∙ ap (λ (at : ℕ). bytes_at memory at 20) points in
    let said = c.decode_sectors.ensures.only (record { first = m.first; count = m.count })
    (said_meaning k memory list c.args.slot m places is s) (rw (← fis) at (said_command k memory list c.args.slot m places is s)) in
    let sectors : Some c.in-Some-decode_sectors.sectors ≡ Some (record { first = m.first; count = m.count }) = sym c.in-Some-decode_sectors.is ∙ said in
    let count : c.in-Some-decode_sectors.sectors.count ≡ m.count = ap (λ (x : Sectors). x.count) (some_one sectors) in
    let are = c.read_prds.ensures.found c.if-not-read_prds.false in
    let stand : HasPrds memory (c.in-Some.header.table + 128) s.prds = subst (λ t. HasPrds memory (t + 128) s.prds) table s.prds_are_encoded in
    let same : are.stored_prds ≡ s.prds = has_once memory _ are.stored_prds s.prds (omega (arith, are.prd_count_is, c.from-entries.ensures, entries)) are.prds_are_encoded stand in
    let many : length (pieces c.read_prds.new.prds) ≡ length (pieces s.prds) = ap length (are.pieces_are ∙ ap pieces same) in
    let asked : c.transfer_sector_count.result ≡ transfer_sector_count k m.count = c.transfer_sector_count.ensures ∙ ap (λ n. transfer_sector_count k n) count in
    c.if-count_pieces-transfer_sector_count.true (rw c.as_slice.ensures.same at c.count_pieces.ensures ∙ (many ∙ (said_count k memory list c.args.slot m places is s ∙ sym asked)))
