use Rattle.ata_types.specs.declared.memory.TheConstants.{PRD_BYTES, TABLE_HEAD_BYTES}
use Rattle.std.proofs.Common.{ℕ, ◌+◌, ◌*◌, ◌<◌, ◌≤◌, length, slice_index_or}
use Rattle.command_table.specs.BufferBytes.{bytes_from}
use Rattle.adapter.specs.Encoding.{AreZero, EncodesCommand}
use Rattle.adapter.specs.declared.command.Prd.{Prd}
use Rattle.adapter.specs.Encoding.{EncodesPrd}
use Rattle.command_table.proofs.fill_table.Given as goal

abbrev pub invariant-loop-i : goal.invariant-loop-i
invariant-loop-i l = record {
  size : TABLE_HEAD_BYTES + PRD_BYTES * length l.prds ≤ length l.bytes;
  fis : EncodesCommand (bytes_from l.bytes 0 20) l.command;
  between : AreZero l.bytes 20 TABLE_HEAD_BYTES;
  entries : (k : ℕ) (d : Prd) → k < l.i → EncodesPrd (bytes_from l.bytes (TABLE_HEAD_BYTES + PRD_BYTES * k) 16) (slice_index_or l.prds k d);
}
