-- A port's part of a server, as it is lent to what handles its error (this project's own).
use Rattle.std.specs.Prelude.{◌≡◌, ◌++◌, List, Option, None, Some, map}
use Rattle.ata_types.specs.declared.Port.{Port}
use Rattle.ata_types.specs.declared.PortState.TheVariants.{Ready}
use Rattle.ata_types.specs.declared.request.Reply.{Reply}
use Rattle.adapter.specs.Device.{Device}
use Rattle.refinement.specs.Fragments.{AnySlotStates, IsSimulated}
use Rattle.dma_frames.specs.FrameTables.{OwnersAndLoans}
use Rattle.error_recovery.specs.declared.Next.{Next}
use Rattle.host_boot.specs.TakeOver.{probe_result_of}
use Rattle.port_control.specs.PortEvents.{IsPxisSstsOrOwnIsAccess}
use Rattle.port_control.specs.declared.events.PortEvent.{PortEvent}
use Rattle.port_control.specs.declared.events.PortEvent.TheVariants as look
use Rattle.request_queue.specs.BookEntries.{BookEntry}
use Rattle.request_queue.specs.declared.disposition.FailedRequest.{FailedRequest}
use Rattle.server_history.specs.ErrorHandling.{IsFailedRequest, LookTellsErrorUnlessTimedOut, IsErrorHandled, HandlesPortError}
use Rattle.server_history.specs.IssuingAndAnswering.{done_reply}
use Rattle.server_history.specs.ServerState.{ServerState, InCallInvariant, state_of}
use Rattle.port_control.specs.declared.events.PortError.{PortError}
use Rattle.port_control.specs.declared.events.PortError.TheVariants.{FatalError, TaskFileError, LinkChanged}
use Rattle.slots.specs.SlotUses.{PortSlots}
use Rattle.port_driver.specs.PortAndShared.{HasNoneDueAndParts}
use Rattle.port_driver.specs.LentSlots.{with_answers}
use Rattle.port_driver.specs.declared.served_port.ServedPort.{ServedPort}
use Rattle.port_driver.specs.declared.served_port.Shared.{Shared}

-- the trouble that a look tells
abbrev pub error_of : PortEvent → Option PortError
error_of look.TaskFileError = Some TaskFileError
error_of look.FatalError = Some FatalError
error_of look.LinkChanged = Some LinkChanged
error_of look.NoEvent = None

-- the server keeps what it keeps, and this trouble of its port, which is ready, was found out; so it came to this
-- device
pub record SeesPortError (s : ServerState) (port : Port) (port_error : PortError) (device : Device) : Type 0 where
  pub in_call_invariant : InCallInvariant s
  pub ready : state_of (probe_result_of s.probe_results port.0) ≡ Ready
  pub error_is_found : LookTellsErrorUnlessTimedOut port port_error s.device device
  pub is_simulated : IsSimulated (IsPxisSstsOrOwnIsAccess port) AnySlotStates s.device device

-- No request of the server was due when this error of its port was found out, and it has these loans and requests; its
-- port is this one.
pub record IsInError (s : ServerState) (device : Device) (shared : Shared) (port : Port) (p : ServedPort)
    (port_error : PortError) : Type 0 where
  pub had_none_due_and_parts : HasNoneDueAndParts s s.device shared port p
  pub sees_port_error : SeesPortError s port port_error device

-- What was done was answered by replies that came after others, and the port's error was handled; the server keeps what
-- it keeps until then. So it came to these loans, this book and these slots, and to this device; to the request whose
-- command failed, and to what the port has to go through.
pub record AnswersDoneAndHandlesError (port : Port) (port_error : PortError) (before after : List Reply)
    (failed : Option FailedRequest)
    (next : Next) (s : ServerState) (table : OwnersAndLoans) (book : List BookEntry)
    (slots : PortSlots) (new : Device) : Type 0 where
  pub server_after_done_answers : ServerState
  pub in_call_invariant : InCallInvariant server_after_done_answers
  pub error_handled : IsErrorHandled port s server_after_done_answers new
  pub port_error_is : error_handled.port_error ≡ port_error
  pub is_simulated : IsSimulated (IsPxisSstsOrOwnIsAccess port) AnySlotStates s.device error_handled.device_after_look
  pub mid_server_has_parts : server_after_done_answers
      ≡ with_answers (record s { device = error_handled.device_after_read }) table book slots port
  pub next_is : error_handled.result.next ≡ next
  pub failed_request_is : IsFailedRequest slots error_handled.result.failed failed
  pub replies_are : after ≡ before ++ map done_reply error_handled.requests

-- This error of the port was handled, which was found out by accesses of a look alone.
pub record HandlesPortErrorOf (port : Port) (port_error : PortError) (replies : List Reply)
    (old new : ServerState) : Type 0 where
  pub handling : HandlesPortError port replies old new
  pub port_error_is : handling.has_resolved.error_handled.port_error ≡ port_error
  pub is_simulated : IsSimulated (IsPxisSstsOrOwnIsAccess port) AnySlotStates old.device
      handling.has_resolved.error_handled.device_after_look
