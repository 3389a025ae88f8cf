-- Which part of a buffer has the call that was read last (this project's own).
use Rattle.adapter.specs.declared.access.DeviceStep.{DeviceStep}
use Rattle.ata_types.specs.declared.call.Call.{Call}
use Rattle.script.specs.declared.call_buffer.CallPart.{CallPart}
use Rattle.script.specs.declared.call_buffer.CallPart.TheVariants as part

-- the call in this part, of a read or write, a step, and another
abbrev pub part_of : CallPart → Call DeviceStep → Call DeviceStep → Call DeviceStep → Call DeviceStep
part_of part.Transfer transfer step other = transfer
part_of part.Step transfer step other = step
part_of part.Other transfer step other = other
