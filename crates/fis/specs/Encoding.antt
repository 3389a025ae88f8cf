-- The bytes of each FIS that a device sends, by place (Serial ATA; AHCI 1.3.1, 4.2.1). A byte or a bit that no line
-- names is zero.
use Rattle.std.specs.Prelude.{◌≡◌, ◌<◌, ℕ, ◌+◌, ◌*◌, ◌^◌, Bool, if◌then◌else◌, List, length, slice_index}
use Rattle.std.specs.Int.RustNames.{bit_and}
use Rattle.byteorder.specs.Endian.{little_from}
use Rattle.adapter.specs.Encoding.{AreZero}
use Rattle.fis.specs.declared.DeviceToHost.{DeviceToHost}
use Rattle.fis.specs.declared.SetDeviceBits.{SetDeviceBits}
use Rattle.fis.specs.declared.PioSetup.{PioSetup}

-- each number is one that a byte has
abbrev pub AreBytes : List ℕ → Type 0
AreBytes bytes = (i : ℕ) → slice_index bytes i < 256

-- a bit at its place, where it is one
abbrev pub placed_bit : Bool → ℕ → ℕ
placed_bit b place = if b then 2 ^ place else 0

-- the LBA of a register FIS: bits 23:0 in bytes 4 to 6, bits 47:24 in bytes 8 to 10
abbrev pub lba_at : List ℕ → ℕ
lba_at bytes = little_from 4 3 bytes + 2 ^ 24 * little_from 8 3 bytes

-- A Register FIS from device to host: I in bit 6 of byte 1
pub record EncodesDeviceToHost (bytes : List ℕ) (d : DeviceToHost) : Type 0 where
  pub size : length bytes ≡ 20
  pub fis_type : slice_index bytes 0 ≡ 0x34
  pub i_bit : slice_index bytes 1 ≡ placed_bit d.interrupt 6
  pub status : slice_index bytes 2 ≡ d.status
  pub error : slice_index bytes 3 ≡ d.error
  pub lba : lba_at bytes ≡ d.lba
  pub device : slice_index bytes 7 ≡ d.device
  pub byte_11_is_zero : slice_index bytes 11 ≡ 0
  pub count : little_from 12 2 bytes ≡ d.count
  pub rest_is_zero : AreZero bytes 14 20

-- A Set Device Bits FIS: I in bit 6 of byte 1, and a status without bits 7 and 3
pub record EncodesSetDeviceBits (bytes : List ℕ) (s : SetDeviceBits) : Type 0 where
  pub size : length bytes ≡ 8
  pub fis_type : slice_index bytes 0 ≡ 0xa1
  pub i_bit : slice_index bytes 1 ≡ placed_bit s.interrupt 6
  pub status : slice_index bytes 2 ≡ s.status
  pub reserved_status_bits_are_zero : bit_and s.status 0x88 ≡ 0
  pub error : slice_index bytes 3 ≡ s.error
  pub tags : little_from 4 4 bytes ≡ s.tags

-- A PIO Setup FIS: I and D in bits 6 and 5 of byte 1
pub record EncodesPioSetup (bytes : List ℕ) (p : PioSetup) : Type 0 where
  pub size : length bytes ≡ 20
  pub fis_type : slice_index bytes 0 ≡ 0x5f
  pub i_and_d_bits : slice_index bytes 1 ≡ placed_bit p.interrupt 6 + placed_bit p.to_host 5
  pub status : slice_index bytes 2 ≡ p.status
  pub error : slice_index bytes 3 ≡ p.error
  pub lba : lba_at bytes ≡ p.lba
  pub device : slice_index bytes 7 ≡ p.device
  pub byte_11_is_zero : slice_index bytes 11 ≡ 0
  pub count : little_from 12 2 bytes ≡ p.count
  pub byte_14_is_zero : slice_index bytes 14 ≡ 0
  pub ending_status : slice_index bytes 15 ≡ p.ending_status
  pub transfer_count : little_from 16 2 bytes ≡ p.transfer_count
  pub rest_is_zero : AreZero bytes 18 20
