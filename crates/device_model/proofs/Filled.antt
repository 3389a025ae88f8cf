-- Bytes of a memory are filled.
use Rattle.std.proofs.Common.{ℕ, Option, None, Some, ◌≡◌, ◌≤◌, ◌+◌, ◌++◌, List, length, take, drop, refl, inl, inr, arith}
use Rattle.std.specs.Prelude.{if◌then◌else◌, is_some, nat_le, option_map}
use Rattle.std.proofs.lemmas.Bool.Decides.{leb_tells}
use Rattle.adapter.specs.Memory.{patched}
use Rattle.device_model.specs.PortView.{taken_of}
use Rattle.device_model.specs.declared.port.TakenCommand.{TakenCommand}
use Rattle.device_model.specs.FetchedBytes.{bytes_of}
use Rattle.device_model.proofs.Absurd.{fun_ext}
use Rattle.device_model.proofs.Bytes.{put_reads}

pub is_held : (x : Option TakenCommand) → is_some (option_map taken_of x) ≡ is_some x
is_held None = refl
is_held (Some t) = refl

-- bytes that lie in the memory are put there
pub put_there : (xs new bytes : List ℕ) (at : ℕ) → at + length bytes ≤ length xs → new ≡ take at xs ++ (bytes ++ drop (at + length bytes) xs) →
    bytes_of new ≡ (if nat_le (at + length bytes) (length xs) then patched (bytes_of xs) at bytes else bytes_of xs)
put_there xs new bytes at fits put =
    elim (leb_tells (at + length bytes) (length xs)) [
      | inl there ↦ rw there.0 (rw put (fun_ext (λ a. put_reads xs bytes at a fits)))
      | inr past ↦ let over = past.1 in absurd (omega (arith, fits, over))
    ]
