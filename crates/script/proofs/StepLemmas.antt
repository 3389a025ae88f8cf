-- The one step that each list of words asks.
use Rattle.std.proofs.Common.{◌≡◌, ◌<◌, ◌≤◌, ◌^◌, ℕ, ◌∷◌, [], ap, arith, length, get_or, refl}
use Rattle.std.specs.Prelude.{codes}
use Rattle.std.specs.Fmt.{decimal}
use Rattle.hex.specs.Hex.{encode_lower}
use Rattle.ata_types.specs.declared.Port.{Port}
use Rattle.ata_types.specs.declared.limits.TheConstants.{MOST_CALL_BYTES}
use Rattle.adapter.specs.declared.access.DiskPage.{DiskPage}
use Rattle.adapter.specs.declared.access.DeviceStep.{DeviceStep}
use Rattle.adapter.specs.declared.access.DeviceStep.TheVariants as step
use Rattle.std.specs.List.{All}
use Rattle.arrayvec.specs.ArrayVec.{ArrayVec as Items}
use Rattle.ata_types.specs.declared.request.ClientId.{ClientId}
use Rattle.ata_types.specs.declared.request.Frame.{Frame}
use Rattle.ata_types.specs.declared.request.Op.{Op}
use Rattle.ata_types.specs.declared.request.Op.TheVariants.{Read, Write, Trim, Flush}
use Rattle.ata_types.specs.declared.call.Call.{Call}
use Rattle.ata_types.specs.declared.call.Call.TheVariants.{Submit, ClientStore, ClientLoad, Service, Tick, Reset, Revoke, State, Device}
use Rattle.script.specs.Line.{HasLine, StepFitsModelledAdapter, line_words, op_word, page_word, step_words}
use Rattle.script.specs.FieldWords.{Word}

pub record IsLie (s : DeviceStep) (port page offset bits : Word) : Type 0 where
  pub on : Port
  pub of : DiskPage
  pub at : ℕ
  pub turned : ℕ
  pub small : on.0 < 4
  pub below : at < 512
  pub byte : turned < 256
  pub port_is : decimal on.0 ≡ port
  pub page_is : page_word of ≡ page
  pub offset_is : decimal at ≡ offset
  pub bits_is : encode_lower (turned ∷ []) ≡ bits
  pub step_is : s ≡ step.Lie on of at turned

-- what follows `lie` is its fields; the first letters part it from the other steps
pub as_lie : (s : DeviceStep) (port page offset bits : Word) → StepFitsModelledAdapter s
    → step_words s ≡ codes "lie" ∷ port ∷ page ∷ offset ∷ bits ∷ [] → IsLie s port page offset bits
as_lie (step.Lie p q o b) port page offset bits h e = record {
  on = p;
  of = q;
  at = o;
  turned = b;
  small = h.0;
  below = h.1;
  byte = h.2;
  port_is = ap (λ ws. get_or ws 1 []) e;
  page_is = ap (λ ws. get_or ws 2 []) e;
  offset_is = ap (λ ws. get_or ws 3 []) e;
  bits_is = ap (λ ws. get_or ws 4 []) e;
  step_is = refl;
}
as_lie (step.Fetch p s) port page offset bits h e = absurd (omega (arith, ap length e))
as_lie (step.Move p s) port page offset bits h e = absurd (omega (arith, ap length e))
as_lie (step.Clear p s n) port page offset bits h e = absurd (omega (arith, ap length e))
as_lie (step.Done p s) port page offset bits h e = absurd (omega (arith, ap length e))
as_lie (step.Finish p s) port page offset bits h e = absurd (omega (arith, ap length e))
as_lie (step.Fault p s x) port page offset bits h e = absurd (omega (arith, ap length e))
as_lie (step.FaultBusy p s x) port page offset bits h e = absurd (omega (arith, ap length e))
as_lie (step.Scribble p x) port page offset bits h e = absurd (omega (arith, ap length e))
as_lie (step.Fatal p x) port page offset bits h e = absurd (omega (arith, ap length e))
as_lie (step.Truth p) port page offset bits h e = absurd (omega (arith, ap length e))
as_lie (step.Hold p) port page offset bits h e = absurd (omega (arith, ap length e))
as_lie (step.Release p) port page offset bits h e = absurd (omega (arith, ap length e))
as_lie (step.Unplug p) port page offset bits h e = absurd (omega (arith, ap length e))
as_lie (step.Plug p d) port page offset bits h e = absurd (omega (arith, ap length e))
as_lie (step.LosePlug p) port page offset bits h e = absurd (omega (arith, ap length e))

-- no operation's word is one of these: it has another length, or other letters
no_store : {X : Type 0} (op : Op) → op_word op ≡ codes "store" → X
no_store Read e = absurd (omega (arith, ap length e))
no_store Write e = absurd (omega (arith, ap (λ w. get_or w 0 0) e))
no_store Trim e = absurd (omega (arith, ap length e))
no_store Flush e = absurd (omega (arith, ap (λ w. get_or w 0 0) e))

no_load : {X : Type 0} (op : Op) → op_word op ≡ codes "load" → X
no_load Read e = absurd (omega (arith, ap (λ w. get_or w 0 0) e))
no_load Write e = absurd (omega (arith, ap length e))
no_load Trim e = absurd (omega (arith, ap (λ w. get_or w 0 0) e))
no_load Flush e = absurd (omega (arith, ap length e))

pub record IsStore (line : Call DeviceStep) (client frame offset bytes : Word) : Type 0 where
  pub by : ClientId
  pub in_frame : Frame
  pub at : ℕ
  pub put : Items ℕ
  pub by_small : by.0 < 256
  pub frame_small : in_frame.0 < 65536
  pub at_small : at < 2 ^ 32
  pub all : All (λ b. b < 256) put.items
  pub least : 1 ≤ length put.items
  pub most : length put.items ≤ MOST_CALL_BYTES
  pub client_is : decimal by.0 ≡ client
  pub frame_is : decimal in_frame.0 ≡ frame
  pub offset_is : decimal at ≡ offset
  pub bytes_are : encode_lower put.items ≡ bytes
  pub line_is : line ≡ ClientStore by in_frame at put

-- what follows `store` is its fields; the number of words or the first word parts it from the other lines
pub as_store : (line : Call DeviceStep) (client frame offset bytes : Word) → HasLine line
    → line_words line ≡ codes "store" ∷ client ∷ frame ∷ offset ∷ bytes ∷ [] → IsStore line client frame offset bytes
as_store (ClientStore c f o b) client frame offset bytes h e = record {
  by = c;
  in_frame = f;
  at = o;
  put = b;
  by_small = h.0;
  frame_small = h.1;
  at_small = h.2;
  all = h.3;
  least = h.4;
  most = h.5;
  client_is = ap (λ ws. get_or ws 1 []) e;
  frame_is = ap (λ ws. get_or ws 2 []) e;
  offset_is = ap (λ ws. get_or ws 3 []) e;
  bytes_are = ap (λ ws. get_or ws 4 []) e;
  line_is = refl;
}
as_store (Submit r) client frame offset bytes h e = no_store r.op (ap (λ ws. get_or ws 0 []) e)
as_store (ClientLoad c f o n) client frame offset bytes h e = absurd (omega (arith, ap (λ ws. length (get_or ws 0 [])) e))
as_store Service client frame offset bytes h e = absurd (omega (arith, ap length e))
as_store Tick client frame offset bytes h e = absurd (omega (arith, ap length e))
as_store Reset client frame offset bytes h e = absurd (omega (arith, ap length e))
as_store (Revoke c g) client frame offset bytes h e = absurd (omega (arith, ap length e))
as_store (State p) client frame offset bytes h e = absurd (omega (arith, ap length e))
as_store (Device s) client frame offset bytes h e = absurd (omega (arith, ap (λ ws. length (get_or ws 0 [])) e))

pub record IsLoad (line : Call DeviceStep) (client frame offset count : Word) : Type 0 where
  pub by : ClientId
  pub in_frame : Frame
  pub at : ℕ
  pub many : ℕ
  pub by_small : by.0 < 256
  pub frame_small : in_frame.0 < 65536
  pub at_small : at < 2 ^ 32
  pub least : 1 ≤ many
  pub most : many ≤ MOST_CALL_BYTES
  pub client_is : decimal by.0 ≡ client
  pub frame_is : decimal in_frame.0 ≡ frame
  pub offset_is : decimal at ≡ offset
  pub count_is : decimal many ≡ count
  pub line_is : line ≡ ClientLoad by in_frame at many

-- and so for `load`
pub as_load : (line : Call DeviceStep) (client frame offset count : Word) → HasLine line
    → line_words line ≡ codes "load" ∷ client ∷ frame ∷ offset ∷ count ∷ [] → IsLoad line client frame offset count
as_load (ClientLoad c f o n) client frame offset count h e = record {
  by = c;
  in_frame = f;
  at = o;
  many = n;
  by_small = h.0;
  frame_small = h.1;
  at_small = h.2;
  least = h.3;
  most = h.4;
  client_is = ap (λ ws. get_or ws 1 []) e;
  frame_is = ap (λ ws. get_or ws 2 []) e;
  offset_is = ap (λ ws. get_or ws 3 []) e;
  count_is = ap (λ ws. get_or ws 4 []) e;
  line_is = refl;
}
as_load (Submit r) client frame offset count h e = no_load r.op (ap (λ ws. get_or ws 0 []) e)
as_load (ClientStore c f o b) client frame offset count h e = absurd (omega (arith, ap (λ ws. length (get_or ws 0 [])) e))
as_load Service client frame offset count h e = absurd (omega (arith, ap length e))
as_load Tick client frame offset count h e = absurd (omega (arith, ap length e))
as_load Reset client frame offset count h e = absurd (omega (arith, ap length e))
as_load (Revoke c g) client frame offset count h e = absurd (omega (arith, ap length e))
as_load (State p) client frame offset count h e = absurd (omega (arith, ap length e))
as_load (Device s) client frame offset count h e = absurd (omega (arith, ap (λ ws. length (get_or ws 0 [])) e))
