-- Slots that are noted, and forgotten.
use Rattle.std.proofs.Common.{ℕ, ◌≡◌, ◌∙◌, List, ap, false, refl, subst, sym}
use Rattle.std.proofs.lemmas.Nat.Bits.{bit_at-zero}
use Rattle.ata_types.specs.declared.Port.{Port}
use Rattle.hba_regs.specs.Bits.{bit}
use Rattle.hba_regs.specs.declared.reg.PortReg.{PortReg}
use Rattle.hba_regs.specs.declared.reg.Reg.{Reg}
use Rattle.hba_regs.specs.declared.reg.Reg.TheVariants.{Px}
use Rattle.followed.specs.DifferingSlots.{AddsSlotsOf, GoesOnNotingSlots, NotesSlotsOf, StaysElsewhere}
use Rattle.followed.specs.declared.differing.DifferingSlotMasks.{DifferingSlotMasks}

elsewhere_twice : (port : ℕ) (old mid new : List ℕ) → StaysElsewhere port old mid → StaysElsewhere port mid new → StaysElsewhere port old new
elsewhere_twice port old mid new one two q other = two q other ∙ one q other

adds_twice : (port : ℕ) (old mid new : List ℕ) → AddsSlotsOf port old mid → AddsSlotsOf port mid new → AddsSlotsOf port old new
adds_twice port old mid new one two = record {
  slots_are_kept = λ k small is. two.slots_are_kept k small (one.slots_are_kept k small is);
  others_stay = elsewhere_twice port old mid new one.others_stay two.others_stay;
}

-- more is noted, and then more
pub notes_on : (port : ℕ) (old new : DifferingSlotMasks) → NotesSlotsOf port old new → GoesOnNotingSlots port old new
notes_on port old new two start one = record {
  failed_slots = adds_twice port start.failed old.failed new.failed one.failed_slots two.failed_slots;
  plain_slots = adds_twice port start.plain old.plain new.plain one.plain_slots two.plain_slots;
  untaken_slots_of_others_stay = elsewhere_twice port start.untaken old.untaken new.untaken one.untaken_slots_of_others_stay two.untaken_slots_of_others_stay;
}

adds_none : (port : ℕ) (slots : List ℕ) → AddsSlotsOf port slots slots
adds_none port slots = record { slots_are_kept = λ k small is. is; others_stay = λ q other. refl }

-- nothing is noted
pub notes_none : (port : ℕ) (slots : DifferingSlotMasks) → NotesSlotsOf port slots slots
notes_none port slots = record {
  failed_slots = adds_none port slots.failed;
  plain_slots = adds_none port slots.plain;
  untaken_slots_of_others_stay = λ q other. refl;
}

pub notes_same : (port : ℕ) (old new : DifferingSlotMasks) → new ≡ old → NotesSlotsOf port old new
notes_same port old new same = let To : DifferingSlotMasks → Type 0 = λ d. NotesSlotsOf port old d in subst To (sym same) (notes_none port old)

pub noted : (port : ℕ) (old new : DifferingSlotMasks) → GoesOnNotingSlots port old new → NotesSlotsOf port old new
noted port old new goes = goes old (notes_none port old)

-- zero has no bits
pub no_bit : (bits place : ℕ) → bits ≡ 0 → bit bits place ≡ false
no_bit bits place zero =
    let None : ℕ → Type 0 = λ n. bit n place ≡ false in
    subst None (sym zero) (simp bit_at-zero)

-- what was noted up to slots that are the same
pub to_same : {port : ℕ} {start old new : DifferingSlotMasks} → new ≡ old → NotesSlotsOf port start old → NotesSlotsOf port start new
to_same {port = port} {start = start} same so = let To : DifferingSlotMasks → Type 0 = λ d. NotesSlotsOf port start d in subst To (sym same) so

-- a register is of one port
pub same_port : (r : Reg) (one other : Port) (its others : PortReg) → r ≡ Px one its → r ≡ Px other others → one.0 ≡ other.0
same_port r one other its others is too = let both : Px one its ≡ Px other others = sym is ∙ too in let same : one ≡ other = cc in ap (λ (p : Port). p.0) same
