-- The words of each line are such that parting its text gives them back.
use Rattle.std.proofs.Common.{◌≡◌, ◌<◌, ◌≤◌, ◌^◌, ◌∙◌, ℕ, true, List, [], ◌∷◌, length, get_or, arith, ap, sym, refl, Option, Some, None, nat_le, nat_lt, ◌&&◌, map}
use Rattle.std.proofs.lemmas.List.Elements.{All-nil, All-cons}
use Rattle.std.specs.Prelude.{codes, OnSome}
use Rattle.std.specs.Bool.{◌==◌}
use Rattle.std.specs.Fmt.{decimal}
use Rattle.std.specs.List.{All, list_all, join_with_byte, slice_split}
use Rattle.std.specs.Str.{IsUtf8}
use Rattle.hex.specs.Hex.{encode_lower}
use Rattle.ata_types.specs.declared.request.Frame.{Frame}
use Rattle.ata_types.specs.declared.request.Op.{Op}
use Rattle.ata_types.specs.declared.request.Op.TheVariants.{Read, Write, Trim, Flush}
use Rattle.ata_types.specs.declared.request.Request.{Request}
use Rattle.ata_types.specs.declared.Port.{Port}
use Rattle.ata_types.specs.declared.Slot.{Slot}
use Rattle.adapter.specs.declared.access.DiskPage.{DiskPage}
use Rattle.adapter.specs.declared.access.DiskPage.TheVariants.{Identity, Log}
use Rattle.adapter.specs.declared.access.DeviceStep.{DeviceStep}
use Rattle.adapter.specs.declared.access.DeviceStep.TheVariants as step
use Rattle.adapter.specs.declared.access.FatalError.{FatalError}
use Rattle.adapter.specs.declared.access.FatalError.TheVariants.{Interface, HostBus}
use Rattle.ata_types.specs.declared.call.Call.{Call}
use Rattle.ata_types.specs.declared.call.Call.TheVariants.{Submit, ClientStore, ClientLoad, Service, Tick, Reset, Revoke, State, Device}
use Rattle.script.specs.FieldWords.{Word, fatal_word, frames_word}
use Rattle.script.specs.Line.{HasLine, PortBelow4AndSlotBelow32, RequestFitsTypes, StepFitsModelledAdapter, line_text, line_words, op_word, page_word, port_and_slot_words, request_field_words, step_words}
use Rattle.script.proofs.FrameLemmas.{IsFrame, decimals}
use Rattle.script.proofs.FrameLemmas as frame
use Rattle.script.proofs.WordLemmas.{Lacks-below, Within, Within-decimal, Within-hex, Within-join, Within-literal, Within-weaker, IsUtf8-from_Within, slice_split-join}

-- printable bytes without a space
record IsWord (w : Word) : Type 0 where
  within : Within 33 128 w

data AreWords : List Word → Type 0 where
  none : AreWords []
  more : {w : Word} {words : List Word} → IsWord w → AreWords words → AreWords (w ∷ words)

number : (n : ℕ) → n < 2 ^ 64 → IsWord (decimal n)
number n fits = record { within = Within-weaker 48 58 33 128 (decimal n) (omega arith) (omega arith) (Within-decimal n fits) }

fixed : (w : Word) → list_all (λ b. nat_le 33 b && nat_lt b 128) w ≡ true → IsWord w
fixed w passes = record { within = Within-literal w passes }

pairs : (bytes : List ℕ) → All (λ b. b < 256) bytes → IsWord (encode_lower bytes)
pairs bytes all = record { within = Within-hex bytes all }

listed : (frames : List Frame) → All IsFrame frames → IsWord (frames_word frames)
listed [] h = fixed (codes "-") refl
listed (f ∷ frames) h = record {
  within = Within-join 33 128 44 (omega arith) (omega arith) (map frame.spelled (f ∷ frames))
      (λ k d l. Within-weaker 48 58 33 128 (get_or (map frame.spelled (f ∷ frames)) k d) (omega arith) (omega arith) (decimals (f ∷ frames) h k d l));
}

op_is : (op : Op) → IsWord (op_word op)
op_is Read = fixed (op_word Read) refl
op_is Write = fixed (op_word Write) refl
op_is Trim = fixed (op_word Trim) refl
op_is Flush = fixed (op_word Flush) refl

page_is : (page : DiskPage) → IsWord (page_word page)
page_is Identity = fixed (page_word Identity) refl
page_is Log = fixed (page_word Log) refl

fatal_is : (error : FatalError) → IsWord (fatal_word error)
fatal_is Interface = fixed (fatal_word Interface) refl
fatal_is HostBus = fixed (fatal_word HostBus) refl

by_are : (r : Request) (words : List Word) → RequestFitsTypes r → AreWords words → AreWords (decimal r.client.0 ∷ decimal r.grant ∷ words)
by_are r words h rest = more (number r.client.0 (omega (arith, h.client_in_range))) (more (number r.grant (omega (arith, h.grant_in_range))) rest)

sectors_are : (r : Request) (words : List Word) → RequestFitsTypes r → AreWords words
    → AreWords (decimal r.client.0 ∷ decimal r.grant ∷ decimal r.first.0 ∷ decimal r.count ∷ words)
sectors_are r words h rest = by_are r (decimal r.first.0 ∷ decimal r.count ∷ words) h
    (more (number r.first.0 h.first_in_range) (more (number r.count (omega (arith, h.count_in_range))) rest))

request_are : (op : Op) (r : Request) → RequestFitsTypes r → AreWords (request_field_words op r)
request_are Read r h = sectors_are r (frames_word r.frames.items ∷ []) h (more (listed r.frames.items h.frames_in_range) none)
request_are Write r h = sectors_are r (frames_word r.frames.items ∷ []) h (more (listed r.frames.items h.frames_in_range) none)
request_are Trim r h = sectors_are r [] h none
request_are Flush r h = by_are r [] h none

place_are : (port : Port) (slot : Slot) → PortBelow4AndSlotBelow32 port slot → AreWords (port_and_slot_words port slot)
place_are port slot h = more (number port.0 (omega (arith, h.0))) (more (number slot.0 (omega (arith, h.1))) none)

port_are : (w : Word) (port : Port) → IsWord w → port.0 < 4 → AreWords (w ∷ decimal port.0 ∷ [])
port_are w port first small = more first (more (number port.0 (omega (arith, small))) none)

step_are : (s : DeviceStep) → StepFitsModelledAdapter s → AreWords (step_words s)
step_are (step.Fetch port slot) h = more (fixed (codes "fetch") refl) (place_are port slot h)
step_are (step.Move port slot) h = more (fixed (codes "move") refl) (place_are port slot h)
step_are (step.Clear port slot count) h =
    more (fixed (codes "clear") refl) (more (number port.0 (omega (arith, h.0))) (more (number slot.0 (omega (arith, h.1)))
    (more (number count (omega (arith, h.2))) none)))
step_are (step.Done port slot) h = more (fixed (codes "done") refl) (place_are port slot h)
step_are (step.Finish port slot) h = more (fixed (codes "finish") refl) (place_are port slot h)
step_are (step.Fault port slot error) h =
    more (fixed (codes "fault") refl) (more (number port.0 (omega (arith, h.0))) (more (number slot.0 (omega (arith, h.1)))
    (more (pairs (error ∷ []) (All-cons (λ b. b < 256) error [] h.2 (All-nil (λ b. b < 256)))) none)))
step_are (step.FaultBusy port slot error) h =
    more (fixed (codes "faultbusy") refl) (more (number port.0 (omega (arith, h.0))) (more (number slot.0 (omega (arith, h.1)))
    (more (pairs (error ∷ []) (All-cons (λ b. b < 256) error [] h.2 (All-nil (λ b. b < 256)))) none)))
step_are (step.Scribble port byte) h =
    more (fixed (codes "scribble") refl) (more (number port.0 (omega (arith, h.0)))
    (more (pairs (byte ∷ []) (All-cons (λ b. b < 256) byte [] h.1 (All-nil (λ b. b < 256)))) none))
step_are (step.Lie port page offset bits) h =
    more (fixed (codes "lie") refl) (more (number port.0 (omega (arith, h.0))) (more (page_is page)
    (more (number offset (omega (arith, h.1))) (more (pairs (bits ∷ []) (All-cons (λ b. b < 256) bits [] h.2 (All-nil (λ b. b < 256)))) none))))
step_are (step.Fatal port error) h =
    more (fixed (codes "fatal") refl) (more (number port.0 (omega (arith, h))) (more (fatal_is error) none))
step_are (step.Truth port) h = port_are (codes "truth") port (fixed (codes "truth") refl) h
step_are (step.Hold port) h = port_are (codes "hold") port (fixed (codes "hold") refl) h
step_are (step.Release port) h = port_are (codes "release") port (fixed (codes "release") refl) h
step_are (step.LosePlug port) h = port_are (codes "loseplug") port (fixed (codes "loseplug") refl) h
step_are (step.Unplug port) h = port_are (codes "unplug") port (fixed (codes "unplug") refl) h
step_are (step.Plug port disk) h =
    more (fixed (codes "plug") refl) (more (number port.0 (omega (arith, h.0))) (more (number disk.0 (omega (arith, h.1))) none))

line_are : (line : Call DeviceStep) → HasLine line → AreWords (line_words line)
line_are (Submit r) h = more (op_is r.op) (request_are r.op r h.1)
line_are (ClientStore client frame offset bytes) h =
    more (fixed (codes "store") refl) (more (number client.0 (omega (arith, h.0))) (more (number frame.0 (omega (arith, h.1)))
    (more (number offset (omega (arith, h.2))) (more (pairs bytes.items h.3) none))))
line_are (ClientLoad client frame offset count) h =
    more (fixed (codes "load") refl) (more (number client.0 (omega (arith, h.0))) (more (number frame.0 (omega (arith, h.1)))
    (more (number offset (omega (arith, h.2))) (more (number count (omega (arith, h.4))) none))))
line_are Service h = more (fixed (codes "service") refl) none
line_are Tick h = more (fixed (codes "tick") refl) none
line_are Reset h = more (fixed (codes "reset") refl) none
line_are (Revoke client grant) h =
    more (fixed (codes "revoke") refl) (more (number client.0 (omega (arith, h.0))) (more (number grant (omega (arith, h.1))) none))
line_are (State port) h = port_are (codes "state") port (fixed (codes "state") refl) h
line_are (Device s) h = more (fixed (codes "dev") refl) (step_are s h)

all_within : (words : List Word) → AreWords words → All (Within 33 128) words
all_within [] h = All-nil (Within 33 128)
all_within (w ∷ words) (more first rest) = All-cons (Within 33 128) w words first.within (all_within words rest)

step_few : (s : DeviceStep) → length (step_words s) ≤ 5
step_few (step.Fetch port slot) = omega arith
step_few (step.Move port slot) = omega arith
step_few (step.Clear port slot count) = omega arith
step_few (step.Done port slot) = omega arith
step_few (step.Finish port slot) = omega arith
step_few (step.Fault port slot error) = omega arith
step_few (step.Lie port page offset bits) = omega arith
step_few (step.FaultBusy port slot error) = omega arith
step_few (step.Fatal port error) = omega arith
step_few (step.Scribble port byte) = omega arith
step_few (step.Truth port) = omega arith
step_few (step.Hold port) = omega arith
step_few (step.Release port) = omega arith
step_few (step.Unplug port) = omega arith
step_few (step.Plug port disk) = omega arith
step_few (step.LosePlug port) = omega arith

request_few : (op : Op) (r : Request) → length (request_field_words op r) ≤ 5
request_few Read r = omega arith
request_few Write r = omega arith
request_few Trim r = omega arith
request_few Flush r = omega arith

-- no line has more words
pub few_words : (line : Call DeviceStep) → length (line_words line) ≤ 6
few_words (Submit r) = omega (arith, request_few r.op r)
few_words (ClientStore client frame offset bytes) = omega arith
few_words (ClientLoad client frame offset count) = omega arith
few_words Service = omega arith
few_words Tick = omega arith
few_words Reset = omega arith
few_words (Revoke client grant) = omega arith
few_words (State port) = omega arith
few_words (Device s) = omega (arith, step_few s)

some_words : (line : Call DeviceStep) → 0 < length (line_words line)
some_words (Submit r) = omega arith
some_words (ClientStore client frame offset bytes) = omega arith
some_words (ClientLoad client frame offset count) = omega arith
some_words Service = omega arith
some_words Tick = omega arith
some_words Reset = omega arith
some_words (Revoke client grant) = omega arith
some_words (State port) = omega arith
some_words (Device s) = omega arith

parted : (words : List Word) → 0 < length words → AreWords words → slice_split (λ b. b == 32) (join_with_byte 32 words) ≡ words
parted [] l h = absurd (omega arith)
parted (w ∷ words) l h = slice_split-join 32 w words
    (λ k d l. Lacks-below 33 128 32 (get_or (w ∷ words) k d) (omega arith) (all_within (w ∷ words) h k d l))

-- parting a line's text gives its words back
pub parted_line : (line : Call DeviceStep) (text : List ℕ) → HasLine line → line_text line ≡ text → slice_split (λ b. b == 32) text ≡ line_words line
parted_line line text h e = ap (slice_split (λ b. b == 32)) (sym e) ∙ parted (line_words line) (some_words line) (line_are line h)

-- a line's words are UTF-8
pub word_is_utf8 : (line : Call DeviceStep) (k : ℕ) → HasLine line → k < length (line_words line) → IsUtf8 (get_or (line_words line) k [])
word_is_utf8 line k h below = IsUtf8-from_Within 33 (get_or (line_words line) k []) (all_within (line_words line) (line_are line h) k [] below)

pub fatal_is_utf8 : (error : FatalError) → IsUtf8 (fatal_word error)
fatal_is_utf8 error = IsUtf8-from_Within 33 (fatal_word error) (fatal_is error).within

pub page_is_utf8 : (page : DiskPage) → IsUtf8 (page_word page)
page_is_utf8 page = IsUtf8-from_Within 33 (page_word page) (page_is page).within

-- what spells the words spells the text that they make
pub spelled : (found : Option (Unit {0})) (line : Call DeviceStep) (words : List Word) (text : List ℕ) → join_with_byte 32 words ≡ text
    → OnSome found (HasLine line × (line_words line ≡ words)) → OnSome found (HasLine line × (line_text line ≡ text))
spelled None line words text e h = h
spelled (Some x) line words text e h = (h.0, ap (join_with_byte 32) h.1 ∙ e)
