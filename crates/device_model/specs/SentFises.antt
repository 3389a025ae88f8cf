-- The FISes that the model sends, in the received FIS area of a port (Serial ATA; AHCI 1.3.1, 4.2.1).
use Rattle.std.specs.Prelude.{ℕ, Bool, true, false, ◌≡◌, ◌+◌, ◌/◌, ◌%◌, ◌^◌, ◌&&◌, List, bit_and, bit_or, nat_le}
use Rattle.ata_types.specs.declared.memory.TheConstants.{RECEIVED_FIS_BYTES}
use Rattle.adapter.specs.AskedSteps.{IsPosted, PostsNone}
use Rattle.adapter.specs.Commands.{is_queued}
use Rattle.adapter.specs.Device.{DevicePort, Device}
use Rattle.adapter.specs.Steps.{DeviceTransition}
use Rattle.adapter.specs.Steps.DeviceTransition.{Done, LinkUp}
use Rattle.adapter.specs.declared.access.DeviceStep.{DeviceStep}
use Rattle.adapter.specs.declared.access.DeviceStep.TheVariants as asked
use Rattle.adapter.specs.declared.command.Operation.{Operation}
use Rattle.adapter.specs.declared.command.Operation.TheVariants.{Identify, ReadLog, ReadQueued, WriteQueued}
use Rattle.fis.specs.Encoding.{EncodesDeviceToHost, EncodesPioSetup, EncodesSetDeviceBits}
use Rattle.fis.specs.declared.DeviceToHost.{DeviceToHost}
use Rattle.fis.specs.declared.PioSetup.{PioSetup}
use Rattle.fis.specs.declared.SetDeviceBits.{SetDeviceBits}

-- ---- what is sent: status and error are those of PxTFD

-- The page of IDENTIFY DEVICE or READ LOG EXT, 512 bytes by PIO: DRQ was set beside the ending status; I asks for an
-- interrupt. A disk sends it before the page's bytes: here it stands as the command ends, since nobody may look there
-- meanwhile.
abbrev pub page_setup_fis : DevicePort → PioSetup
page_setup_fis p =
    record {
      interrupt = true;
      to_host = true;
      status = bit_or (p.tfd % 256) 0x08;
      error = p.tfd / 256;
      lba = 0;
      device = 0;
      count = 0;
      ending_status = p.tfd % 256;
      transfer_count = 512;
    }

-- A command ended, or a plain one failed: LBA, device and count, which are reserved where it ended (ACS-3), are zero. A
-- disk may tell in LBA where a command failed: the model's tells 0.
abbrev pub end_or_failure_d2h_fis : DevicePort → DeviceToHost
end_or_failure_d2h_fis p = record {
  interrupt = true;
  status = p.tfd % 256;
  error = p.tfd / 256;
  lba = 0;
  device = 0;
  count = 0;
}

-- the queued command of a slot ended without error: its tag, and the status without BSY and DRQ, which this FIS doesn't
-- set
abbrev pub ended_tag_fis : ℕ → DevicePort → SetDeviceBits
ended_tag_fis slot p =
    record { interrupt = true; status = bit_and (p.tfd % 256) 0x77; error = p.tfd / 256; tags = 2 ^ slot }

-- a queued command failed: no tag is named, since none has ended
abbrev pub queued_failure_fis : DevicePort → SetDeviceBits
queued_failure_fis p = record (ended_tag_fis 0 p) { tags = 0 }

-- the first FIS of an ATA disk: its signature has LBA 1 and count 1 (ACS-3), as PxSIG shows it; it asks for no
-- interrupt
abbrev pub signature_fis : DevicePort → DeviceToHost
signature_fis p = record {
  interrupt = false;
  status = p.tfd % 256;
  error = p.tfd / 256;
  lba = 1;
  device = 0;
  count = 1;
}

-- ---- where it comes

-- FRE is set, and the received FIS area is in the memory.
abbrev pub fre_is_set_and_area_fits : DevicePort → ℕ → Bool
fre_is_set_and_area_fits p size = p.fre && nat_le (p.bases.fb + RECEIVED_FIS_BYTES) size

-- The bytes stand at this place of the port's received FIS area, and nothing else is another; or they are lost, where
-- the port doesn't receive them.
pub record IsSentOrLost (port place : ℕ) (bytes : List ℕ) (old new : Device) : Type 0 where
  pub is_posted_if_received : fre_is_set_and_area_fits (old.port port) old.memory_size ≡ true
      → IsPosted port ((old.port port).bases.fb + place) bytes old
      new
  pub is_lost : fre_is_set_and_area_fits (old.port port) old.memory_size ≡ false → new ≡ old

-- where a PIO Setup FIS, a Register FIS and a Set Device Bits FIS stand in the area (AHCI 1.3.1, 4.2.1)
abbrev pub SendsPioSetup : ℕ → PioSetup → Device → Device → Type 0
SendsPioSetup port fis old new = (bytes : List ℕ) × EncodesPioSetup bytes fis × IsSentOrLost port 0x20 bytes old new

-- The port sends this Register FIS, unless its FIS area is outside of the memory.
abbrev pub SendsDeviceToHost : ℕ → DeviceToHost → Device → Device → Type 0
SendsDeviceToHost port fis old new = (bytes : List ℕ) × EncodesDeviceToHost bytes fis
    × IsSentOrLost port 0x40 bytes old new

-- The port sends this Set Device Bits FIS, unless its FIS area is outside of the memory.
abbrev pub SendsSetDeviceBits : ℕ → SetDeviceBits → Device → Device → Type 0
SendsSetDeviceBits port fis old new = (bytes : List ℕ) × EncodesSetDeviceBits bytes fis
    × IsSentOrLost port 0x58 bytes old new

-- ---- when it is sent

-- As a slot's command ends: of IDENTIFY DEVICE and READ LOG EXT a PIO Setup FIS, which PSS of PxIS tells; of a queued
-- one a Set Device Bits FIS, which SDBS tells; and of the others that the model takes a Register FIS, which DHRS tells
-- (AHCI 1.3.1, 3.3.5). A disk sends a Register FIS as it takes a queued command, and a DMA Setup FIS, too: nobody may
-- look there meanwhile, and the last FIS covers them.
abbrev pub SendsEnd : (slot port cause_bit : ℕ) → Operation → Device → Device → Type 0
SendsEnd slot port cause_bit Identify old new = (cause_bit ≡ 1)
    × SendsPioSetup port (page_setup_fis (old.port port)) old new
SendsEnd slot port cause_bit ReadLog old new = (cause_bit ≡ 1)
    × SendsPioSetup port (page_setup_fis (old.port port)) old new
SendsEnd slot port cause_bit ReadQueued old new = (cause_bit ≡ 3)
    × SendsSetDeviceBits port (ended_tag_fis slot (old.port port)) old new
SendsEnd slot port cause_bit WriteQueued old new = (cause_bit ≡ 3)
    × SendsSetDeviceBits port (ended_tag_fis slot (old.port port)) old new
SendsEnd slot port cause_bit _ old new = (cause_bit ≡ 0) × SendsDeviceToHost port (end_or_failure_d2h_fis (old.port
    port)) old new

-- As a command fails, with TFES of PxIS: of a queued one a Set Device Bits FIS, and of another one, or of what means
-- none, a Register FIS (TFES: AHCI 1.3.1, 3.3.5).
abbrev pub SendsFault : (queued : Bool) → (port : ℕ) → Device → Device → Type 0
SendsFault true port old new = SendsSetDeviceBits port (queued_failure_fis (old.port port)) old new
SendsFault false port old new = SendsDeviceToHost port (end_or_failure_d2h_fis (old.port port)) old new

-- The port sends the FIS of a fault of this operation.
abbrev pub SendsFaultOfOperation : (port cause_bit : ℕ) → Operation → Device → Device → Type 0
SendsFaultOfOperation port cause_bit operation old new = SendsFault (is_queued operation) port old new

-- as the command of the slot that a step names ends or fails
abbrev pub SendsFisOfAskedEndOrFault : DeviceStep → (port cause_bit : ℕ) → Operation → Device → Device → Type 0
SendsFisOfAskedEndOrFault (asked.Done p s) = SendsEnd s.0
SendsFisOfAskedEndOrFault (asked.Finish p s) = SendsEnd s.0
SendsFisOfAskedEndOrFault (asked.Fault p s error) = SendsFaultOfOperation
SendsFisOfAskedEndOrFault (asked.FaultBusy p s error) = SendsFaultOfOperation
SendsFisOfAskedEndOrFault step = PostsNone

-- after a step that the model does by itself: as a command ends, and as the link comes up
abbrev pub SendsFisAfterSpontaneousStep : DeviceTransition → Device → Device → Type 0
SendsFisAfterSpontaneousStep (Done port slot cause_bit t) old new =
    SendsEnd slot port cause_bit t.meaning.operation old new
SendsFisAfterSpontaneousStep (LinkUp port sig n) old new =
    SendsDeviceToHost port (signature_fis (old.port port)) old new
SendsFisAfterSpontaneousStep step old new = new ≡ old
