-- How a line of a script is spelled (this project's own): each line in one way, and some values have no line.
use Rattle.std.specs.Prelude.{ℕ, ◌≡◌, ◌<◌, ◌≤◌, ◌^◌, ⊤, List, [], ◌∷◌, length, codes, Option, Some, IfSome, OnSome}
use Rattle.std.specs.List.{All, join_with_byte}
use Rattle.std.specs.Fmt.{decimal}
use Rattle.hex.specs.Hex.{encode_lower}
use Rattle.ata_types.specs.declared.Port.{Port}
use Rattle.ata_types.specs.declared.Slot.{Slot}
use Rattle.ata_types.specs.declared.call.Call.{Call}
use Rattle.ata_types.specs.declared.call.Call.TheVariants.{Submit, ClientStore, ClientLoad, Service, Tick, Reset, Revoke, State, Device}
use Rattle.ata_types.specs.declared.request.Op.{Op}
use Rattle.ata_types.specs.declared.request.Op.TheVariants.{Read, Write, Trim, Flush}
use Rattle.ata_types.specs.declared.request.Request.{Request}
use Rattle.ata_types.specs.declared.limits.TheConstants.{MOST_CALL_BYTES, MOST_REQUEST_FRAMES}
use Rattle.adapter.specs.declared.access.DiskPage.{DiskPage}
use Rattle.adapter.specs.declared.access.DiskPage.TheVariants.{Identity, Log}
use Rattle.adapter.specs.declared.access.DeviceStep.{DeviceStep}
use Rattle.adapter.specs.declared.access.DeviceStep.TheVariants as step
use Rattle.script.specs.FieldWords.{Word, fatal_word, frames_word}

-- The word of an operation.
abbrev pub op_word : Op → Word
op_word Read = codes "read"
op_word Write = codes "write"
op_word Trim = codes "trim"
op_word Flush = codes "flush"

-- The word of a page.
abbrev pub page_word : DiskPage → Word
page_word Identity = codes "id"
page_word Log = codes "log"

-- what stands after `read` or `write`
abbrev pub transfer_words : Request → List Word
transfer_words r = decimal r.client.0 ∷ decimal r.grant ∷ decimal r.first.0 ∷ decimal r.count
    ∷ frames_word r.frames.items ∷ []

-- what stands after the operation's word: of a trim no frames, and of a flush no sectors either
abbrev pub request_field_words : Op → Request → List Word
request_field_words Read r = transfer_words r
request_field_words Write r = transfer_words r
request_field_words Trim r = decimal r.client.0 ∷ decimal r.grant ∷ decimal r.first.0 ∷ decimal r.count ∷ []
request_field_words Flush r = decimal r.client.0 ∷ decimal r.grant ∷ []

-- a port, and a slot of it
abbrev pub port_and_slot_words : Port → Slot → List Word
port_and_slot_words port slot = decimal port.0 ∷ decimal slot.0 ∷ []

-- what stands after `dev`
abbrev pub step_words : DeviceStep → List Word
step_words (step.Fetch port slot) = codes "fetch" ∷ port_and_slot_words port slot
step_words (step.Move port slot) = codes "move" ∷ port_and_slot_words port slot
step_words (step.Clear port slot count) = codes "clear" ∷ decimal port.0 ∷ decimal slot.0 ∷ decimal count ∷ []
step_words (step.Done port slot) = codes "done" ∷ port_and_slot_words port slot
step_words (step.Finish port slot) = codes "finish" ∷ port_and_slot_words port slot
step_words (step.Fault port slot error) = codes "fault" ∷ decimal port.0 ∷ decimal slot.0 ∷ encode_lower (error ∷ [])
    ∷ []
step_words (step.FaultBusy port slot error) =
    codes "faultbusy" ∷ decimal port.0 ∷ decimal slot.0 ∷ encode_lower (error ∷ []) ∷ []
step_words (step.Fatal port error) = codes "fatal" ∷ decimal port.0 ∷ fatal_word error ∷ []
step_words (step.Scribble port byte) = codes "scribble" ∷ decimal port.0 ∷ encode_lower (byte ∷ []) ∷ []
step_words (step.Lie port page offset bits) =
    codes "lie" ∷ decimal port.0 ∷ page_word page ∷ decimal offset ∷ encode_lower (bits ∷ []) ∷ []
step_words (step.Truth port) = codes "truth" ∷ decimal port.0 ∷ []
step_words (step.Hold port) = codes "hold" ∷ decimal port.0 ∷ []
step_words (step.Release port) = codes "release" ∷ decimal port.0 ∷ []
step_words (step.Unplug port) = codes "unplug" ∷ decimal port.0 ∷ []
step_words (step.Plug port disk) = codes "plug" ∷ decimal port.0 ∷ decimal disk.0 ∷ []
step_words (step.LosePlug port) = codes "loseplug" ∷ decimal port.0 ∷ []

-- The words of a line, by the call that it asks for.
abbrev pub line_words : Call DeviceStep → List Word
line_words (Submit request) = op_word request.op ∷ request_field_words request.op request
line_words (ClientStore client frame offset bytes) =
    codes "store" ∷ decimal client.0 ∷ decimal frame.0 ∷ decimal offset ∷ encode_lower bytes.items ∷ []
line_words (ClientLoad client frame offset count) =
    codes "load" ∷ decimal client.0 ∷ decimal frame.0 ∷ decimal offset ∷ decimal count ∷ []
line_words Service = codes "service" ∷ []
line_words Tick = codes "tick" ∷ []
line_words Reset = codes "reset" ∷ []
line_words (Revoke client grant) = codes "revoke" ∷ decimal client.0 ∷ decimal grant ∷ []
line_words (State port) = codes "state" ∷ decimal port.0 ∷ []
line_words (Device asked) = codes "dev" ∷ step_words asked

-- the words, parted by one space
abbrev pub line_text : Call DeviceStep → List ℕ
line_text call = join_with_byte 32 (line_words call)

-- the request asks for nothing that a line of its operation has no word for: of a trim there are no frames, and of a
-- flush no sectors either
abbrev pub HasNoFieldsWithoutWord : Op → Request → Type 0
HasNoFieldsWithoutWord Read r = Unit {0}
HasNoFieldsWithoutWord Write r = Unit {0}
HasNoFieldsWithoutWord Trim r = r.frames.items ≡ []
HasNoFieldsWithoutWord Flush r = (r.first.0 ≡ 0) × (r.count ≡ 0) × (r.frames.items ≡ [])

-- the request's numbers are in their ranges
pub record RequestFitsTypes (r : Request) : Type 0 where
  pub client_in_range : r.client.0 < 256
  pub grant_in_range : r.grant < 256
  pub first_in_range : r.first.0 < 2 ^ 64
  pub count_in_range : r.count < 2 ^ 32
  pub frames_in_range : All (λ f. f.0 < 65536) r.frames.items
  pub frame_count_in_range : length r.frames.items ≤ MOST_REQUEST_FRAMES

-- the port and slot are ones that an adapter can have
abbrev pub PortBelow4AndSlotBelow32 : Port → Slot → Type 0
PortBelow4AndSlotBelow32 port slot = (port.0 < 4) × (slot.0 < 32)

-- the step's port, slot, disk and bytes are ones that the modelled adapter can have
abbrev pub StepFitsModelledAdapter : DeviceStep → Type 0
StepFitsModelledAdapter (step.Fetch port slot) = PortBelow4AndSlotBelow32 port slot
StepFitsModelledAdapter (step.Move port slot) = PortBelow4AndSlotBelow32 port slot
StepFitsModelledAdapter (step.Clear port slot count) = (port.0 < 4) × (slot.0 < 32) × (count < 2 ^ 32)
StepFitsModelledAdapter (step.Done port slot) = PortBelow4AndSlotBelow32 port slot
StepFitsModelledAdapter (step.Finish port slot) = PortBelow4AndSlotBelow32 port slot
StepFitsModelledAdapter (step.Fault port slot error) = (port.0 < 4) × (slot.0 < 32) × (error < 256)
StepFitsModelledAdapter (step.FaultBusy port slot error) = (port.0 < 4) × (slot.0 < 32) × (error < 256)
StepFitsModelledAdapter (step.Fatal port error) = port.0 < 4
StepFitsModelledAdapter (step.Scribble port byte) = (port.0 < 4) × (byte < 256)
StepFitsModelledAdapter (step.Lie port page offset bits) = (port.0 < 4) × (offset < 512) × (bits < 256)
StepFitsModelledAdapter (step.Truth port) = port.0 < 4
StepFitsModelledAdapter (step.Hold port) = port.0 < 4
StepFitsModelledAdapter (step.Release port) = port.0 < 4
StepFitsModelledAdapter (step.Unplug port) = port.0 < 4
StepFitsModelledAdapter (step.Plug port disk) = (port.0 < 4) × (disk.0 < 2)
StepFitsModelledAdapter (step.LosePlug port) = port.0 < 4

-- the value has a line
abbrev pub HasLine : Call DeviceStep → Type 0
HasLine (Submit request) = HasNoFieldsWithoutWord request.op request × RequestFitsTypes request
HasLine (ClientStore client frame offset bytes) = (client.0 < 256) × (frame.0 < 65536) × (offset < 2 ^ 32)
    × All (λ b. b < 256) bytes.items × (1 ≤ length bytes.items) × (length bytes.items ≤ MOST_CALL_BYTES)
HasLine (ClientLoad client frame offset count) = (client.0 < 256) × (frame.0 < 65536) × (offset < 2 ^ 32) × (1 ≤ count)
    × (count ≤ MOST_CALL_BYTES)
HasLine Service = Unit {0}
HasLine Tick = Unit {0}
HasLine Reset = Unit {0}
HasLine (Revoke client grant) = (client.0 < 256) × (grant < 256)
HasLine (State port) = port.0 < 4
HasLine (Device asked) = StepFitsModelledAdapter asked

-- ---- what is read from words

-- if a step is found, these are its words
abbrev pub FoundStepHasWords : List Word → Option DeviceStep → Type 0
FoundStepHasWords words found = IfSome found (λ s. StepFitsModelledAdapter s × (step_words s ≡ words))

-- the step whose words these are is found
abbrev pub FindsSpelledStep : List Word → Option DeviceStep → Type 0
FindsSpelledStep words found = (s : DeviceStep) → StepFitsModelledAdapter s → step_words s ≡ words → found ≡ Some s

-- if a call is found, which then stands in the place, these are its line's words
abbrev pub FoundCallHasWords : List Word → Option ⊤ → Call DeviceStep → Type 0
FoundCallHasWords words found call = OnSome found (HasLine call × (line_words call ≡ words))

-- the call whose line has these words is found
abbrev pub FindsSpelledLine : List Word → Option ⊤ → Call DeviceStep → Type 0
FindsSpelledLine words found call = (c : Call DeviceStep) → HasLine c → line_words c ≡ words
    → (found ≡ Some tt) × (call ≡ c)
