use Rattle.adapter.proofs.MemoryLemmas.{bytes_index, bytes_length, bytes_same, patched_apart, patched_bytes}
use Rattle.adapter.proofs.laws.law_memory_reads_back.Goals as goal

pub returns-clause-stored_bytes_are_read : goal.returns-clause-stored_bytes_are_read
returns-clause-stored_bytes_are_read c = patched_bytes

pub returns-clause-other_bytes_are_kept : goal.returns-clause-other_bytes_are_kept
returns-clause-other_bytes_are_kept c = patched_apart

pub returns-clause-equal_bytes_read_equal : goal.returns-clause-equal_bytes_read_equal
returns-clause-equal_bytes_read_equal c = bytes_same

pub returns-clause-length_is : goal.returns-clause-length_is
returns-clause-length_is c = bytes_length

pub returns-clause-byte_at_index : goal.returns-clause-byte_at_index
returns-clause-byte_at_index c = bytes_index
