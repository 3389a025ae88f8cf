-- A driver that has its received FIS area where a command table stands keeps to the rules for registers; what the device writes
-- there leaves a command that means none.
use Rattle.std.proofs.Common.{ℕ, ◌≡◌, ◌+◌, ◌*◌, true, List, [], ◌∷◌, slice_index, inl, arith, refl, sym, subst, ◌∙◌}
use Rattle.byteorder.specs.Endian.{little_from}
use Rattle.adapter.specs.Commands.{Meaning, command_of}
use Rattle.adapter.specs.Device.{Device}
use Rattle.adapter.specs.Memory.{bytes_at, changed, patched}
use Rattle.adapter.specs.Decoding.{DecodesTo}
use Rattle.adapter.specs.Encoding.{EncodesCommand}
use Rattle.adapter.specs.Steps.{Can}
use Rattle.adapter.specs.Steps.DeviceTransition.{FetchFault, Scribble}
use Rattle.witnesses.specs.AdapterRuns.{AccessOrStep, IsReachableByRun, device_after_run}
use Rattle.witnesses.specs.AdapterRuns.AccessOrStep.{DeviceStepCame}
use Rattle.witnesses.proofs.adapter.Ports.{reached_more}
use Rattle.witnesses.proofs.adapter.Queued.{issued_at, issued_at_reached}
use Rattle.witnesses.proofs.adapter.RunningAdapter.{memory}
use Rattle.witnesses.proofs.adapter.Sets.{all_bytes, are_bytes}

-- the first byte of the FIS is written over
abbrev scribble : List AccessOrStep
scribble = DeviceStepCame (Scribble 0 0 0x1000 (0 ∷ [])) ∷ []

abbrev pub senseless : Device
senseless = device_after_run scribble (issued_at 0x1000)

pub senseless_reached : IsReachableByRun senseless
unfolding changed are_bytes
senseless_reached = reached_more (issued_at_reached 0x1000 refl (omega arith)) scribble
    (record { fre_is_set = refl; place = inl (omega arith, omega arith); are_bytes = all_bytes (0 ∷ []) refl }, tt)

abbrev scribbled : ℕ → ℕ
scribbled = patched memory 0x1000 (0 ∷ [])

points : little_from 8 4 (bytes_at scribbled (0 + 32 * 0) 32) ≡ 0x1000
unfolding memory patched bytes_at
points = refl

starts : slice_index (bytes_at scribbled 0x1000 20) 0 ≡ 0
unfolding memory patched bytes_at
starts = refl

says_nothing : (m : Meaning) (places : List ℕ) → DecodesTo scribbled 0 0 m places → ⊥
says_nothing m places says =
    let at : says.table ≡ 0x1000 = sym says.header.table_address_is ∙ points in
    let P : ℕ → Type 0 = λ table. EncodesCommand (bytes_at scribbled table 20) (command_of m.operation 0 m.first m.count) in
    let fis : EncodesCommand (bytes_at scribbled 0x1000 20) (command_of m.operation 0 m.first m.count) = subst P at says.fis in
    let no : 0x27 ≡ 0 = sym fis.fis_type ∙ starts in
    omega (arith, no)

pub may_fail : Can (FetchFault 0 0 true 0) senseless
unfolding changed
may_fail = record {
  fetchable = record { st_is_set = refl; issued = refl; free = refl };
  working = record { cr_is_set = refl; present = refl; fresh = refl; admitted = refl; is_not_broken = refl };
  says_nothing = says_nothing;
  kept_bits_are_allowed = refl;
}
