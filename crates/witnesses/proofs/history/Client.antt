-- The machine that these histories begin with: two disks, frames of zeros, and one client, which owns every frame behind the driver's and has a grant on each of two ports.
use Rattle.std.proofs.Common.{◌≡◌, ℕ, ◌<◌, ◌≤◌, Bool, true, false, ◌&&◌, List, [], ◌∷◌, slice_index_or, Some, None, refl, ap, arith, leb-true, ltb-true}
use Rattle.std.proofs.lemmas.Bool.{and_parts, cond_both}
use Rattle.std.proofs.lemmas.List.Elements.{All-contains, All-from_recursion, All-nil}
use Rattle.std.proofs.lemmas.List.Kept.{AllPairs-cons}
use Rattle.std.specs.List.{Contains}
use Rattle.std.specs.Prelude.{nat_le, nat_lt, if◌then◌else◌}
use Rattle.ata_types.specs.declared.grant.GrantRow.{GrantRow}
use Rattle.ata_types.specs.declared.memory.TheConstants.{DRIVER_FRAMES, MOST_FRAMES}
use Rattle.ata_types.specs.declared.request.ClientId.{ClientId}
use Rattle.ata_types.specs.declared.request.Frame.{Frame}
use Rattle.block_machine.specs.Expected.{IsInitial, IsValidRow}
use Rattle.block_machine.specs.Rules.{DifferInName, HasRow}
use Rattle.block_machine.specs.State.{Machine}
use Rattle.refinement.specs.Relation.{port_at}

abbrev pub client : ClientId
client = record { 0 = 1 }

abbrev pub frame : ℕ → Frame
frame n = record { 0 = n }

-- its grant of this number is on the port of this number
abbrev pub row : ℕ → GrantRow
row n = record { client = client; number = n; port = port_at n; first = record { 0 = 100 }; count = 64; rights = record { read = true; write = true; trim = true; flush = true } }

abbrev pub two_rows : List GrantRow
two_rows = row 0 ∷ row 1 ∷ []

-- its first row is there
abbrev pub granted : HasRow client 0 two_rows
granted = (row 0, (0, omega arith, refl), (refl, refl))

-- a row's number says which it is
pub its_row : (r : GrantRow) → Contains two_rows r → r ≡ row r.number
its_row r here = All-contains (λ x. x ≡ row x.number) two_rows r (All-from_recursion (λ x. x ≡ row x.number) two_rows (refl, (refl, tt))) here

-- the client owns the frame
abbrev pub is_behind_driver : Frame → Bool
is_behind_driver f = nat_le DRIVER_FRAMES f.0 && nat_lt f.0 MOST_FRAMES

abbrev pub start : Machine
start = record {
  present = λ p. slice_index_or (true ∷ true ∷ []) p.0 false;
  disk_ids = λ p. 0;
  sizes = λ p. slice_index_or (256 ∷ 256 ∷ []) p.0 0;
  disk_bytes = λ p k b. k;
  overwritten_since_flush = λ p k. [];
  book = [];
  kept = [];
  lent = λ f. None;
  memory = λ f b. 0;
  rows = two_rows;
  owner = λ f. if is_behind_driver f then Some client else None;
  next_id = 1;
}

pub starts : IsInitial start
starts = record {
  book_is_empty = refl;
  none_is_kept = refl;
  no_frame_is_lent = λ f. refl;
  next_id_is_1 = refl;
  rows_are_at_most_64 = omega arith;
  rows_differ_in_name = AllPairs-cons DifferInName (row 0) (row 1 ∷ []) (All-from_recursion (DifferInName (row 0)) (row 1 ∷ []) (apart, tt))
      (AllPairs-cons DifferInName (row 1) [] (All-nil (DifferInName (row 1))) (λ i j d less below. absurd (omega (arith, below))));
  rows_are_valid = λ r here. All-contains IsValidRow two_rows r (All-from_recursion IsValidRow two_rows (valid 0 (omega arith), (valid 1 (omega arith), tt))) here;
  owned_frames_are_clients = λ f c. cond_both (is_behind_driver f) (Some client) None (λ o. o ≡ Some c → (1 ≤ c.0) × (c.0 ≤ 8) × (DRIVER_FRAMES ≤ f.0) × (f.0 < MOST_FRAMES))
      (λ behind is.
      let parts = and_parts (nat_le DRIVER_FRAMES f.0) (nat_lt f.0 MOST_FRAMES) behind in
      let same : client ≡ c = cc in
      let one : 1 ≡ c.0 = ap (λ (x : ClientId). x.0) same in
      (omega (arith, one), omega (arith, one), leb-true DRIVER_FRAMES f.0 parts.0, ltb-true f.0 MOST_FRAMES parts.1))
      (λ other is. cc);
}
  where
    apart : DifferInName (row 0) (row 1)
    apart (_, same) = let number : 1 ≡ 0 = same in cc

    valid : (n : ℕ) → n ≤ 1 → IsValidRow (row n)
    valid n low = grind (arith, low)
