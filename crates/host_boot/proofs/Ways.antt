-- The way of each port, one after another.
use Rattle.std.proofs.Common.{ℕ, ◌≡◌, ◌<◌, ◌≤◌, ◌+◌, ◌++◌, List, [], ◌∷◌, length, take, refl, sym, subst, arith}
use Rattle.std.specs.Prelude.{slice_set}
use Rattle.std.proofs.lemmas.List.{take_more_set, length-take-le, take_all}
use Rattle.hba_regs.specs.declared.reg.Reg.TheVariants.{Ghc}
use Rattle.adapter.specs.Access.{Writes}
use Rattle.adapter.specs.Device.{Device}
use Rattle.refinement.specs.Relation.{port_at}
use Rattle.refinement.specs.Fragments.{IsDrivenBy}
use Rattle.host_boot.specs.TakeOver.{StopsAndBootsOrDoesNothing, BootsEachServedPortOrSticks, SwitchesOnBootsAndEnablesInterrupts, ReadsCapOrPi}
use Rattle.host_boot.specs.declared.ProbeResult.{ProbeResult}

-- the adapter was switched on and surveyed, and so many ports have gone their way
pub record IsOnWay (ports : List ProbeResult) (n : ℕ) (old d : Device) : Type 0 where
  pub switched : Device
  pub switches : Writes Ghc 0x80000000 old switched
  pub surveyed : Device
  pub surveys : IsDrivenBy ReadsCapOrPi switched surveyed
  pub boots : BootsEachServedPortOrSticks 0 (take n ports) surveyed d

-- one more port goes its way
pub go_more : (ports : List ProbeResult) (first next : ℕ) (found : ProbeResult) (old mid new : Device) → next ≡ first + length ports → BootsEachServedPortOrSticks first ports old mid →
    StopsAndBootsOrDoesNothing (port_at next) found mid new → BootsEachServedPortOrSticks first (ports ++ found ∷ []) old new
go_more [] first next found old mid new at so way =
    let P : ℕ → Device → Type 0 = λ n d. StopsAndBootsOrDoesNothing (port_at n) found d new in
    let is : next ≡ first = omega (arith, at) in
    (new, subst (λ n. P n old) is (subst (λ d. P next d) so way), refl)
go_more (one ∷ rest) first next found old mid new at (after, here, so) way = (after, here, go_more rest (first + 1) next found after mid new (omega (arith, at)) so way)

pub way_more : (ports : List ProbeResult) (n : ℕ) (found : ProbeResult) (old d new : Device) → length ports ≡ 4 → n < 4 → IsOnWay ports n old d → StopsAndBootsOrDoesNothing (port_at n) found d new →
    IsOnWay (slice_set ports n found) (n + 1) old new
way_more ports n found old d new long less w way = record {
  switched = w.switched;
  switches = w.switches;
  surveyed = w.surveyed;
  surveys = w.surveys;
  boots =
      let small : n ≤ length ports = omega (arith, long, less) in
      let is = length-take-le n ports small in
      let number : n ≡ 0 + length (take n ports) = omega (arith, is) in
      subst (λ (ps : List ProbeResult). BootsEachServedPortOrSticks 0 ps w.surveyed new) (sym (take_more_set ports n found (omega (arith, long, less))))
      (go_more (take n ports) 0 n found w.surveyed d new number w.boots way);
}

pub way_over : (ports : List ProbeResult) (old d new : Device) → length ports ≡ 4 → IsOnWay ports 4 old d → Writes Ghc 0x80000002 d new → SwitchesOnBootsAndEnablesInterrupts ports old new
way_over ports old d new long w call = record {
  device_switched_on = w.switched;
  switches = w.switches;
  device_after_survey = w.surveyed;
  surveys = w.surveys;
  device_after_boots = d;
  boots = subst (λ (ps : List ProbeResult). BootsEachServedPortOrSticks 0 ps w.surveyed d) (take_all 4 ports (omega (arith, long))) w.boots;
  enables_interrupts = call;
}
