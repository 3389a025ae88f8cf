-- The lines that answer a script, and those of a trace: what the device moved and cleared, and that a flush ended (this
-- project's own). A line feed ends each.
use Rattle.std.specs.Prelude.{ℕ, ◌++◌, ◌∷◌, [], List, true, false, codes}
use Rattle.std.specs.List.{join_with_byte}
use Rattle.std.specs.Fmt.{decimal}
use Rattle.hex.specs.Hex.{encode_lower}
use Rattle.std.specs.Int.{to_be_bytes, w32}
use Rattle.ata_types.specs.declared.PortState.{PortState}
use Rattle.ata_types.specs.declared.PortState.TheVariants.{Absent, Ready, Foreign, Unfit, Dead}
use Rattle.ata_types.specs.declared.request.Outcome.{Outcome}
use Rattle.ata_types.specs.declared.request.Outcome.TheVariants as outcome
use Rattle.ata_types.specs.declared.refusal.FrameFault.{FrameFault}
use Rattle.ata_types.specs.declared.refusal.FrameFault.TheVariants as fault
use Rattle.ata_types.specs.declared.refusal.Rule.{Rule}
use Rattle.ata_types.specs.declared.refusal.Rule.TheVariants.{NoGrant, NoRight, BadCount, OutsideGrant, FrameCount, Frames}
use Rattle.ata_types.specs.declared.refusal.Refusal.{Refusal}
use Rattle.ata_types.specs.declared.refusal.Refusal.TheVariants as refused
use Rattle.ata_types.specs.declared.refusal.MemFault.{MemFault}
use Rattle.ata_types.specs.declared.refusal.MemFault.TheVariants.{FrameForeign, FrameLent, OutsideFrame}
use Rattle.adapter.specs.declared.command.Operation.{Operation}
use Rattle.adapter.specs.declared.command.Operation.TheVariants as command
use Rattle.block_machine.specs.Rules.{refusal_rank}
use Rattle.script.specs.FieldWords.{Word}
use Rattle.script.specs.declared.answer.Answer.{Answer}
use Rattle.script.specs.declared.answer.Answer.TheVariants as answer

-- The words of a port's state.
abbrev pub state_words : PortState → List Word
state_words Absent = codes "Absent" ∷ []
state_words Ready = codes "Ready" ∷ []
state_words Foreign = codes "Foreign" ∷ []
state_words (Unfit cause) = codes "Unfit" ∷ decimal cause ∷ []
state_words Dead = codes "Dead" ∷ []

-- The words of an outcome.
abbrev pub outcome_words : Outcome → List Word
outcome_words outcome.Ok = codes "Ok" ∷ []
outcome_words (outcome.DeviceError status error) = codes "DeviceError" ∷ encode_lower (status ∷ [])
    ∷ encode_lower (error ∷ []) ∷ []
outcome_words outcome.Aborted = codes "Aborted" ∷ []
outcome_words outcome.Unplugged = codes "Unplugged" ∷ []
outcome_words outcome.PortDead = codes "PortDead" ∷ []
outcome_words outcome.Revoked = codes "Revoked" ∷ []

-- a fault of frames, with the place of the frame
abbrev pub frame_fault_words : FrameFault → List Word
frame_fault_words (fault.FrameForeign place) = codes "FrameForeign" ∷ decimal place ∷ []
frame_fault_words (fault.FrameTwice place) = codes "FrameTwice" ∷ decimal place ∷ []
frame_fault_words (fault.FrameLent place) = codes "FrameLent" ∷ decimal place ∷ []

-- The words of a rule that a request breaks.
abbrev pub rule_words : Rule → List Word
rule_words NoGrant = codes "NoGrant" ∷ []
rule_words NoRight = codes "NoRight" ∷ []
rule_words BadCount = codes "BadCount" ∷ []
rule_words OutsideGrant = codes "OutsideGrant" ∷ []
rule_words FrameCount = codes "FrameCount" ∷ []
rule_words (Frames f) = frame_fault_words f

-- a refusal's name, then the place or state if it has one
abbrev pub refusal_words : Refusal → List Word
refusal_words (refused.Rule rule) = rule_words rule
refusal_words (refused.PortNotReady state) = codes "PortNotReady" ∷ state_words state
refusal_words refused.OutsideDisk = codes "OutsideDisk" ∷ []
refusal_words refused.TrimUnsupported = codes "TrimUnsupported" ∷ []
refusal_words refused.ClientFull = codes "ClientFull" ∷ []
refusal_words refused.IdsSpent = codes "IdsSpent" ∷ []

-- The word of a fault of a store or load.
abbrev pub mem_fault_word : MemFault → Word
mem_fault_word FrameForeign = codes "FrameForeign"
mem_fault_word FrameLent = codes "FrameLent"
mem_fault_word OutsideFrame = codes "OutsideFrame"

-- The word for a move, for queued and plain commands alike.
abbrev pub moved_word : Operation → Word
moved_word command.Identify = codes "identify"
moved_word command.Read = codes "read"
moved_word command.Write = codes "write"
moved_word command.ReadQueued = codes "read"
moved_word command.WriteQueued = codes "write"
moved_word command.Flush = codes "flush"
moved_word command.Trim = codes "block"
moved_word command.ReadLog = codes "log"

-- The words of an answer.
abbrev pub answer_words : Answer → List Word
answer_words (answer.Accepted id) = codes "ok" ∷ decimal id.0 ∷ []
answer_words (answer.Refused refusal) = codes "refused" ∷ decimal ((refusal_rank refusal).0) ∷ refusal_words refusal
answer_words answer.Stored = codes "stored" ∷ []
answer_words (answer.AccessRefused f) = codes "refused" ∷ mem_fault_word f ∷ []
answer_words (answer.Bytes bytes) = codes "bytes" ∷ encode_lower bytes.now ∷ []
answer_words (answer.Replied reply) = codes "reply" ∷ decimal reply.id.0 ∷ outcome_words reply.outcome
answer_words answer.Quiet = codes "quiet" ∷ []
answer_words answer.Done = codes "done" ∷ []
answer_words answer.AdapterStuck = codes "stuck" ∷ []
answer_words (answer.State state) = codes "state" ∷ state_words state
answer_words (answer.Stepped true) = codes "did" ∷ []
answer_words (answer.Stepped false) = codes "no" ∷ []
answer_words (answer.Moved m) = codes "move" ∷ decimal m.now.port.0 ∷ decimal m.now.slot.0 ∷ moved_word m.now.operation
    ∷ decimal m.now.sector ∷ encode_lower (to_be_bytes w32 m.now.address) ∷ []
answer_words (answer.Cleared c) = codes "clear" ∷ decimal c.port.0 ∷ decimal c.slot.0 ∷ decimal c.first
    ∷ decimal c.count ∷ []
answer_words (answer.Flushed d) = codes "flush" ∷ decimal d.port.0 ∷ decimal d.slot.0 ∷ []

-- the words, parted by one space
abbrev pub answer_text : Answer → List ℕ
answer_text a = join_with_byte 32 (answer_words a)

-- with its line feed
abbrev pub answer_line : Answer → List ℕ
answer_line a = answer_text a ++ 10 ∷ []
