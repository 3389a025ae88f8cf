-- What is printed of a call: what the tape gained, and what the call said (this project's own).
use Rattle.std.specs.Prelude.{ℕ, zero, suc, Bool, true, false, List, [], ◌++◌, drop, Ok, Err}
use Rattle.std.specs.Borrow.{Bor}
use Rattle.std.specs.List.{flat_map}
use Rattle.block_server.specs.declared.said.Said.{Said}
use Rattle.block_server.specs.declared.said.Said.TheVariants as said
use Rattle.ata_types.specs.declared.refusal.Refusal.TheVariants as refusal
use Rattle.ata_types.specs.declared.refusal.Rule.TheVariants.{NoGrant}
use Rattle.adapter.specs.declared.command.Operation.{Operation}
use Rattle.adapter.specs.declared.command.Operation.TheVariants.{Flush}
use Rattle.adapter.specs.declared.tape.Done.{Done}
use Rattle.adapter.specs.declared.tape.Entry.{Entry}
use Rattle.adapter.specs.declared.tape.Entry.TheVariants as entry
use Rattle.script.specs.Answer.{answer_line}
use Rattle.script.specs.declared.answer.Answer.TheVariants as answer

-- A value as an answer refers to it. No line shows its address.
abbrev pub as_reference : {X : Type 0} → X → Bor X
as_reference x = record { ref_ptr = (0, 0); now = x }

-- What is printed of one thing that was said. If replies follow, their lines are what is printed of a service or a
-- tick. If none follows, there is a line that it is quiet.
abbrev pub said_text : Said → List ℕ
said_text (said.Submitted (Ok id)) = answer_line (answer.Accepted id)
said_text (said.Submitted (Err refusal)) = answer_line (answer.Refused refusal)
said_text (said.Stored (Ok done)) = answer_line answer.Stored
said_text (said.Stored (Err fault)) = answer_line (answer.AccessRefused fault)
said_text (said.Loaded (Ok bytes)) = answer_line (answer.Bytes (as_reference bytes.items))
said_text (said.Loaded (Err fault)) = answer_line (answer.AccessRefused fault)
said_text (said.Replied zero) = answer_line answer.Quiet
said_text (said.Replied (suc count)) = []
said_text (said.WasReset (Ok count)) = answer_line answer.Done
said_text (said.WasReset (Err stuck)) = answer_line answer.AdapterStuck
said_text (said.WasRevoked (Ok count)) = answer_line answer.Done
said_text (said.WasRevoked (Err none)) = answer_line (answer.Refused (refusal.Rule NoGrant))
said_text (said.State state) = answer_line (answer.State state)
said_text (said.Stepped done) = answer_line (answer.Stepped done)
said_text (said.Reply reply) = answer_line (answer.Replied reply)

-- a flush that has ended has a line, and no other command has
abbrev pub line_of_ended_flush_else_empty : Operation → Done → List ℕ
line_of_ended_flush_else_empty Flush done = answer_line (answer.Flushed done)
line_of_ended_flush_else_empty _ done = []

-- A move, a clear and the end of a flush have a line. Nothing else on a tape has one.
abbrev pub entry_text : Entry → List ℕ
entry_text (entry.Move moved) = answer_line (answer.Moved (as_reference moved))
entry_text (entry.Clear cleared) = answer_line (answer.Cleared cleared)
entry_text (entry.Done done) = line_of_ended_flush_else_empty done.operation done
entry_text (entry.Fault fault) = []
entry_text (entry.Fatal port) = []
entry_text (entry.Unplug port) = []
entry_text (entry.Plug port name) = []

-- The lines of these entries of the tape.
abbrev pub entries_text : List Entry → List ℕ
entries_text entries = flat_map entry_text entries

-- With a trace, the entries that a tape has past this number.
abbrev pub trace_text : Bool → ℕ → List Entry → List ℕ
trace_text true shown tape = entries_text (drop shown tape)
trace_text false shown tape = []

-- what is printed of a call: with a trace, what the tape has gained past the entries that were shown before, and then
-- what the call said
abbrev pub call_text : Bool → ℕ → List Entry → List Said → List ℕ
call_text trace shown tape said = trace_text trace shown tape ++ flat_map said_text said
