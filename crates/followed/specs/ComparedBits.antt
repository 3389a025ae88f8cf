-- Which bits of a register the model and its peer have to show alike (this project's own).
use Rattle.std.specs.Prelude.{ℕ, ◌≡◌, ◌-◌, ◌^◌, Option, None, Some, bit_and, if◌then◌else◌, nat_eq}
use Rattle.hba_regs.specs.declared.reg.PortReg.{PortReg}
use Rattle.hba_regs.specs.declared.reg.PortReg.TheVariants.{Clb, Clbu, Fb, Fbu, Is, Ie, Cmd, Tfd, Sig, Ssts, Sctl, Serr, Sact, Ci}
use Rattle.hba_regs.specs.declared.reg.Reg.{Reg}
use Rattle.hba_regs.specs.declared.reg.Reg.TheVariants.{Cap, Ghc, Pi, Vs, Px}
use Rattle.followed.specs.declared.differences.KnownDifference.{KnownDifference}
use Rattle.followed.specs.declared.differences.KnownDifference.TheVariants.{OtherCapabilities, FurtherPorts, AlwaysAhci, InterruptCauses, TaskFileWhileNoPlainFailed, FailedSlots, SactOfUntakenSlots}

-- the bits of a port's register that `PortShows` of the crate `adapter` names (of an address, once it was written)
abbrev pub modelled_port_bits : PortReg → ℕ
modelled_port_bits Cmd = 0xc011
modelled_port_bits Tfd = 0xffff
modelled_port_bits Ssts = 0xf
modelled_port_bits Sctl = 0xf
modelled_port_bits Serr = 0x4010000
modelled_port_bits Is = 0x7840004b
modelled_port_bits Ie = 0x7840004b
modelled_port_bits Sig = 0xffffffff
modelled_port_bits Ci = 0xffffffff
modelled_port_bits Sact = 0xffffffff
modelled_port_bits Clb = 0xffffffff
modelled_port_bits Clbu = 0xffffffff
modelled_port_bits Fb = 0xffffffff
modelled_port_bits Fbu = 0xffffffff

-- Those of any register that `Shows` names, except IS, whose bits follow causes that are known to differ.
abbrev pub modelled_bits : Reg → ℕ
modelled_bits Cap = 0xffffffff
modelled_bits Pi = 0xffffffff
modelled_bits Vs = 0xffffffff
modelled_bits Ghc = 0x80000003
modelled_bits (Px port r) = modelled_port_bits r
modelled_bits _ = 0

-- The bits of a known difference, if these slots of its port are known to differ.
abbrev pub difference_bits : KnownDifference → ℕ → ℕ
difference_bits OtherCapabilities slot_mask = 0xbfffe0ff
difference_bits FurtherPorts slot_mask = 0xfffffff0
difference_bits AlwaysAhci slot_mask = 0x80000000
difference_bits InterruptCauses slot_mask = 0xb
difference_bits TaskFileWhileNoPlainFailed slot_mask = if nat_eq slot_mask 0 then 0xff77 else 0
difference_bits FailedSlots slot_mask = slot_mask
difference_bits SactOfUntakenSlots slot_mask = slot_mask

-- the known difference that a register may show
abbrev pub difference_of : Reg → Option KnownDifference
difference_of Cap = Some OtherCapabilities
difference_of Pi = Some FurtherPorts
difference_of Ghc = Some AlwaysAhci
difference_of (Px port Is) = Some InterruptCauses
difference_of (Px port Tfd) = Some TaskFileWhileNoPlainFailed
difference_of (Px port Ci) = Some FailedSlots
difference_of (Px port Sact) = Some SactOfUntakenSlots
difference_of _ = None

-- These bits of 32 without those.
abbrev pub bits_without : ℕ → Option KnownDifference → ℕ → ℕ
bits_without bits None slot_mask = bits
bits_without bits (Some known) slot_mask = bit_and bits (2 ^ 32 - 1 - difference_bits known slot_mask)

-- What is compared: the bits that the definitions name, without those of the known difference.
abbrev pub compared_bits : Reg → ℕ → ℕ
compared_bits r slot_mask = bits_without (modelled_bits r) (difference_of r) slot_mask

-- Two values of a register agree, if these slots of its port are known to differ.
abbrev pub AgreesInComparedBits : Reg → (slot_mask model_value peer_value : ℕ) → Type 0
AgreesInComparedBits r slot_mask model_value peer_value = bit_and model_value (compared_bits r slot_mask)
    ≡ bit_and peer_value (compared_bits r slot_mask)

-- each known difference has a place
abbrev pub difference_index : KnownDifference → ℕ
difference_index OtherCapabilities = 0
difference_index FurtherPorts = 1
difference_index AlwaysAhci = 2
difference_index InterruptCauses = 3
difference_index TaskFileWhileNoPlainFailed = 4
difference_index FailedSlots = 5
difference_index SactOfUntakenSlots = 6

-- The difference that a register may show, if two values differ by its bits, among those that the definitions name.
abbrev pub difference_if_shown : Option KnownDifference → (named slot_mask model_value peer_value : ℕ)
    → Option KnownDifference
difference_if_shown None named slot_mask model_value peer_value = None
difference_if_shown (Some known) named slot_mask model_value peer_value =
    if nat_eq (bit_and model_value (bit_and named (difference_bits known slot_mask)))
    (bit_and peer_value (bit_and named (difference_bits known slot_mask)))
    then None else Some known

-- the known difference that two values of a register show
abbrev pub shown_difference : Reg → (slot_mask model_value peer_value : ℕ) → Option KnownDifference
shown_difference r slot_mask model_value peer_value =
    difference_if_shown (difference_of r) (modelled_bits r) slot_mask model_value peer_value
