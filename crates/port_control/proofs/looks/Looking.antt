-- The accesses of a look.
use Rattle.std.proofs.Common.{ℕ, ◌≡◌, ◌≢◌, ◌<◌, ◌^◌, true, false, ◌==◌, inl, inr, refl, sym, ◌∙◌, ap, subst}
use Rattle.std.proofs.lemmas.Bool.{cases_eq, cases_lt, true≢false}
use Rattle.std.proofs.lemmas.Nat.Bits.{bit_at-zero, bit_at_above}
use Rattle.ata_types.specs.declared.Port.{Port}
use Rattle.hba_regs.specs.Bits.{bit}
use Rattle.hba_regs.specs.declared.reg.Reg.TheVariants as reg
use Rattle.hba_regs.specs.declared.reg.Reg.TheVariants.{Px}
use Rattle.hba_regs.specs.declared.reg.PortReg.TheVariants.{Is, Ssts}
use Rattle.adapter.specs.Access.{Reads, Writes}
use Rattle.adapter.specs.Access.Access.{Reading, Writing}
use Rattle.adapter.specs.Device.{Device}
use Rattle.adapter.specs.Rules.{IsOn, HasPort, MayWrite, IsStable}
use Rattle.refinement.specs.Fragments.{AnySlotStates, IsSoleBit, IsSimulated}
use Rattle.refinement.specs.PreservedParts.{SameAdapter}
use Rattle.port_control.specs.EventLaws.{Laws}
use Rattle.port_control.specs.EventLaws.AccessPurpose.{TakingEvents}
use Rattle.port_control.specs.PortEvents.{port_event_of, IsPxisSstsOrOwnIsAccess, TakesEvent}
use Rattle.port_control.specs.declared.events.PortEvent.{PortEvent}
use Rattle.port_control.proofs.looks.Stretching.{spared_on}

-- the adapter has the port still
there_after : (port : ℕ) (old new : Device) → SameAdapter old new → HasPort old port → HasPort new port
there_after port old new s there = (there.0, ap (λ (pi : ℕ). bit pi port) s.pi ∙ there.1)

-- a bit that was set in no other bits
pub bit_alone : (port place v : ℕ) → place ≡ port → v < 2 ^ 32 → bit v place ≡ true → ((k : ℕ) → k < 32 → k ≢ place → bit v k ≡ bit 0 k) → IsSoleBit port v
bit_alone port place v same fits set others =
    let P : ℕ → Type 0 = λ p. IsSoleBit p v in
    subst P same (record { bit_is_set = set; no_other_bit_is_set = alone })
  where
    alone : (k : ℕ) → k ≢ place → bit v k ≡ false
    alone k other = elim (cases_lt k 32) [
      | inl small ↦ others k small other ∙ ap (λ (n : ℕ). n == 1) (bit_at-zero k)
      | inr above ↦ ap (λ (n : ℕ). n == 1) (bit_at_above v 32 k fits above)
    ]

module _ (laws : Laws) (port : Port) (d0 d1 : Device) (causes : ℕ) (on : IsOn d0) (there : HasPort d0 port.0) (first : Reads (Px port Is) causes d0 d1) where
  -- one stretch of the look after another
  then : (old mid new : Device) → IsSimulated (IsPxisSstsOrOwnIsAccess port) AnySlotStates old mid → IsSimulated (IsPxisSstsOrOwnIsAccess port) AnySlotStates mid new → IsSimulated (IsPxisSstsOrOwnIsAccess port) AnySlotStates old new
  then old mid new a b = (laws.fragments.fragments_join (TakingEvents port) (TakingEvents port) (λ uses. uses) (λ uses. uses) (λ access may. may) (λ uses fits. fits) old mid new a b).is_simulated

  pub one_on : IsOn d1
  one_on = spared_on laws (Reading (Px port Is) causes) d0 d1 tt first on

  pub one_there : HasPort d1 port.0
  one_there = there_after port.0 d0 d1 (laws.access_keeps_adapter (Reading (Px port Is) causes) d0 d1 first) there

  -- PxSSTS is read then
  module _ (status : ℕ) (d2 : Device) (second : Reads (Px port Ssts) status d1 d2) where
    pub changing_on : IsOn d2
    changing_on = spared_on laws (Reading (Px port Ssts) status) d1 d2 tt second one_on

    pub changing_followed : IsSimulated (IsPxisSstsOrOwnIsAccess port) AnySlotStates d0 d2
    changing_followed =
        then d0 d1 d2 (laws.fragments.reads (TakingEvents port) (Px port Is) causes d0 d1 (inl refl) first).is_simulated
        (laws.fragments.reads (TakingEvents port) (Px port Ssts) status d1 d2 (inr refl) second).is_simulated

  pub clearing_may : (v : ℕ) → IsStable (MayWrite (Px port Is) v) d1
  clearing_may v = laws.write_stays (Px port Is) v d1 (λ p e. cc) (one_on, one_there, tt)

  module _ (v : ℕ) (d2 : Device) (second : Writes (Px port Is) v d1 d2) where
    two_on : IsOn d2
    two_on = spared_on laws (Writing (Px port Is) v) d1 d2 (λ e. cc) second one_on

    -- PxIS was written, so the port's bit of IS may be
    pub acknowledging_may : (own : ℕ) → IsSoleBit port.0 own → IsStable (MayWrite reg.Is own) d2
    acknowledging_may own alone = laws.acknowledging_is_permitted port v d1 d2 one_on second own (λ q small set. elim (cases_eq q port.0) [
      | inl e ↦ inl e
      | inr other ↦ absurd (true≢false (sym set ∙ alone.no_other_bit_is_set q other))
    ])

    module _ (own : ℕ) (alone : IsSoleBit port.0 own) (d3 : Device) (third : Writes reg.Is own d2 d3) where
      three_on : IsOn d3
      three_on = spared_on laws (Writing reg.Is own) d2 d3 (λ e. cc) third two_on

      pub showing_may : IsOn d3 × HasPort d3 port.0
      showing_may = (
        three_on,
        there_after port.0 d2 d3 (laws.access_keeps_adapter (Writing reg.Is own) d2 d3 third)
            (there_after port.0 d1 d2 (laws.access_keeps_adapter (Writing (Px port Is) v) d1 d2 second) one_there),
      )

      module _ (status : ℕ) (d4 : Device) (fourth : Reads (Px port Ssts) status d3 d4) where
        pub looking_on : IsOn d4
        looking_on = spared_on laws (Reading (Px port Ssts) status) d3 d4 tt fourth three_on

        pub looking_followed : IsSimulated (IsPxisSstsOrOwnIsAccess port) AnySlotStates d0 d4
        looking_followed =
            then d0 d1 d4 (laws.fragments.reads (TakingEvents port) (Px port Is) causes d0 d1 (inl refl) first).is_simulated
            (then d1 d2 d4 (laws.fragments.writes (TakingEvents port) (Px port Is) v d1 d2 (inl refl) (clearing_may v) (λ uses is. tt) second).is_simulated
            (then d2 d3 d4 (laws.fragments.writes (TakingEvents port) reg.Is own d2 d3 (inr (refl, alone)) (acknowledging_may own alone) (λ uses is. tt) third).is_simulated
            (laws.fragments.reads (TakingEvents port) (Px port Ssts) status d3 d4 (inr refl) fourth).is_simulated))

-- where what was read is written back, it was a look
pub looked : (port : Port) (result : PortEvent) (d0 d1 d2 d3 d4 : Device) (causes own status : ℕ) → IsSoleBit port.0 own → Reads (Px port Is) causes d0 d1 → Writes (Px port Is) causes d1 d2 →
    Writes reg.Is own d2 d3 → Reads (Px port Ssts) status d3 d4 → result ≡ port_event_of causes status → TakesEvent port result d0 d4
looked port result d0 d1 d2 d3 d4 causes own status alone first second third fourth is = record {
  causes = causes;
  after_is_read = d1;
  reads = first;
  cleared = d2;
  clears = second;
  port_mask = own;
  is_sole_bit = alone;
  acknowledged = d3;
  acknowledges = third;
  status = status;
  reads_status = fourth;
  result_is = is;
}
