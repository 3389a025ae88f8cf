-- What PRDs of runs are: as many as the frames at most, of sizes that a PRD may have, and cut into the places of the sectors.
use Rattle.std.proofs.Common.{◌≡◌, ℕ, zero, suc, ◌+◌, ◌-◌, ◌*◌, ◌/◌, ◌%◌, ◌<◌, ◌≤◌, ◌⊎◌, inl, inr, min, List, [], ◌∷◌, ◌++◌, length, drop, map, refl, sym, ap, ◌∙◌, subst, arith}
use Rattle.std.specs.List.{All, range_with_len}
use Rattle.std.proofs.lemmas.Bool.{cases_lt}
use Rattle.std.proofs.lemmas.List.{append-nil, map-append, get_or-drop, length-drop, drop-drop}
use Rattle.std.proofs.lemmas.List.Elements.{All-cons, All-nil}
use Rattle.ata_types.specs.declared.request.Frame.{Frame}
use Rattle.adapter.specs.declared.command.Prd.{Prd}
use Rattle.adapter.specs.Decoding.{pieces, piece_addresses, IsWholePieces}
use Rattle.adapter.specs.Encoding.{IsAllowedPrd}
use Rattle.command_table.specs.SectorPlaces.{place_of, places_of, frame_number}
use Rattle.command_table.specs.FrameRuns.{IsLongestRunFromFirst, CoversRun, PrdsCoverFrames, frame_count_in}

-- the frames hold so many bytes, and the last of them at least one
pub record Fits (frames : List Frame) (bytes : ℕ) : Type 0 where
  pub within : bytes ≤ 4096 * length frames
  pub last : 4096 * length frames < bytes + 4096

module _ (frames : List Frame) (bytes : ℕ) (e : Prd) (fits : Fits frames bytes) (c : CoversRun frames bytes e) where
  -- where frames follow, the PRD's are covered wholly
  size_is : e.bytes ≡ min bytes (4096 * frame_count_in e)
  size_is = c.size

  pub some_bytes : 0 < e.bytes
  some_bytes = let s = size_is in let n = c.run.is_not_empty in let l = fits.last in let w = c.run.length_in_range in omega (arith, s, n, l, w)

  pub few_bytes : e.bytes ≤ 4096 * length frames
  few_bytes = let s = size_is in let w = c.run.length_in_range in omega (arith, s, w)

  pub fits_on : Fits (drop (frame_count_in e) frames) (bytes - e.bytes)
  fits_on =
      let s = size_is in let w = c.run.length_in_range in let l = fits.last in let h = fits.within in
      let d : length (drop (frame_count_in e) frames) ≡ length frames - frame_count_in e = length-drop (frame_count_in e) frames in
      record { within = omega (arith, s, w, l, h, d); last = omega (arith, s, w, l, h, d) }

pub all_allowed : (es : List Prd) (frames : List Frame) (bytes : ℕ) → Fits frames bytes → bytes % 2 ≡ 0 → length frames ≤ 1024 → PrdsCoverFrames frames bytes es → All IsAllowedPrd es
all_allowed [] frames bytes fits even few j = All-nil IsAllowedPrd
all_allowed (e ∷ es) frames bytes fits even few j =
    let s = j.0.size in
    let d : length (drop (frame_count_in e) frames) ≡ length frames - frame_count_in e = length-drop (frame_count_in e) frames in
    All-cons IsAllowedPrd e es
    (record {
      even_address = let a = j.0.address in omega (arith, a);
      even_bytes = omega (arith, s, even);
      is_not_empty = some_bytes frames bytes e fits j.0;
      is_at_most_4_mib = omega (arith, few_bytes frames bytes e fits j.0, few);
    })
    (all_allowed es _ _ (fits_on frames bytes e fits j.0) (omega (arith, s, even)) (omega (arith, d, few)) j.1)

pub all_whole : (es : List Prd) (frames : List Frame) (bytes : ℕ) → bytes % 512 ≡ 0 → PrdsCoverFrames frames bytes es → All IsWholePieces es
all_whole [] frames bytes whole j = All-nil IsWholePieces
all_whole (e ∷ es) frames bytes whole j =
    let s = j.0.size in
    All-cons IsWholePieces e es (omega (arith, s, whole)) (all_whole es _ _ (omega (arith, s, whole)) j.1)

range_with_len-add : (m n a : ℕ) → range_with_len a (m + n) ≡ range_with_len a m ++ range_with_len (a + m) n
range_with_len-add zero n a =
    let e : zero + n ≡ n = omega arith in
    let f : a + zero ≡ a = omega arith in
    rw (e, f) refl
range_with_len-add (suc m) n a =
    let e : suc m + n ≡ suc (m + n) = omega arith in
    let f : (a + 1) + m ≡ a + suc m = omega arith in
    rw (e, range_with_len-add m n (a + 1), f) refl

-- the front of a run of numbers, and the rest of it
split_at : (a b m n k : ℕ) → m + n ≡ k → (n ≡ 0) ⊎ (b ≡ a + m) → range_with_len a m ++ range_with_len b n ≡ range_with_len a k
split_at a b m n k e (inl none) =
    let same : m ≡ k = omega arith in
    rw (none, append-nil, same) refl
split_at a b m n k e (inr next) = rw (next, ← e) (sym (range_with_len-add m n a))

-- the pieces of a run of frames, from the j-th on
run_pieces : (frames : List Frame) (a s n m j : ℕ) → a ≡ 4096 * frame_number frames s → ((k : ℕ) → k < n → frame_number frames (s + k) ≡ frame_number frames s + k)
    → j + m ≤ 8 * n → piece_addresses (a + 512 * j) m ≡ map (place_of frames) (range_with_len (8 * s + j) m)
run_pieces frames a s n zero j a-is rising fits = refl
run_pieces frames a s n (suc m) j a-is rising fits =
    let frame : (8 * s + j) / 8 ≡ s + j / 8 = omega arith in
    let piece : (8 * s + j) % 8 ≡ j % 8 = omega arith in
    let number = rising (j / 8) (omega (arith, fits)) in
    let here : a + 512 * j ≡ 4096 * frame_number frames (s + j / 8) + 512 * (j % 8) = omega (arith, number, a-is) in
    let next : 8 * s + (j + 1) ≡ 8 * s + j + 1 = omega arith in
    let more : a + 512 * j + 512 ≡ a + 512 * (j + 1) = omega arith in
    let rest = run_pieces frames a s n m (j + 1) a-is rising (omega (arith, fits)) in
    rw (frame, piece, ← here, more, rest, next) refl

module _ (frames : List Frame) where
  cover_from : (es : List Prd) (s left : ℕ) → left % 512 ≡ 0 → Fits (drop s frames) left → PrdsCoverFrames (drop s frames) left es
      → pieces es ≡ map (place_of frames) (range_with_len (8 * s) (left / 512))
  cover_from [] s left whole fits j =
      let none : left / 512 ≡ 0 = let z = j.1 in omega (arith, z) in
      rw none refl
  cover_from (e ∷ es) s left whole fits j =
      let n : ℕ = frame_count_in e in
      let size = j.0.size in
      let some = j.0.run.is_not_empty in
      let number : (k : ℕ) → frame_number (drop s frames) k ≡ frame_number frames (s + k) = λ (k : ℕ). ap (λ (f : Frame). f.0) (get_or-drop s frames k (record { 0 = 0 })) in
      let base : s + 0 ≡ s = omega arith in
      let start : frame_number (drop s frames) 0 ≡ frame_number frames s = number 0 ∙ ap (frame_number frames) base in
      let rising : (k : ℕ) → k < n → frame_number frames (s + k) ≡ frame_number frames s + k = λ (k : ℕ) (lt : k < n). sym (number k) ∙ (j.0.run.numbers_rise_by_one k lt ∙ ap (λ (x : ℕ). x + k) start) in
      let address : e.address ≡ 4096 * frame_number frames s = j.0.address ∙ ap (λ (x : ℕ). 4096 * x) start in
      let later : pieces es ≡ map (place_of frames) (range_with_len (8 * (s + n)) ((left - e.bytes) / 512)) =
      cover_from es (s + n) (left - e.bytes) (omega (arith, size, whole)) (subst (λ (fs : List Frame). Fits fs (left - e.bytes)) (drop-drop n s frames) (fits_on (drop s frames) left e fits j.0)) (subst (λ (fs : List Frame). PrdsCoverFrames fs (left - e.bytes) es) (drop-drop n s frames) j.1) in
      let first : e.address + 512 * 0 ≡ e.address = omega arith in
      let front_at : 8 * s + 0 ≡ 8 * s = omega arith in
      let front : piece_addresses e.address (e.bytes / 512) ≡ map (place_of frames) (range_with_len (8 * s) (e.bytes / 512)) =
      rw (first, front_at) at (run_pieces frames e.address s n (e.bytes / 512) 0 address rising (omega (arith, size))) in
      let rest : ((left - e.bytes) / 512 ≡ 0) ⊎ (8 * (s + n) ≡ 8 * s + e.bytes / 512) =
      elim (cases_lt e.bytes left) [ inl more ↦ inr (omega (arith, size)) | inr done ↦ inl (omega (arith, done)) ] in
      let whole_run = split_at (8 * s) (8 * (s + n)) (e.bytes / 512) ((left - e.bytes) / 512) (left / 512) (omega (arith, size, whole)) rest in
      ap (λ (ps : List ℕ). piece_addresses e.address (e.bytes / 512) ++ ps) later
      ∙ (ap (λ (ps : List ℕ). ps ++ map (place_of frames) (range_with_len (8 * (s + n)) ((left - e.bytes) / 512))) front
      ∙ (sym (map-append (place_of frames) (range_with_len (8 * s) (e.bytes / 512)) (range_with_len (8 * (s + n)) ((left - e.bytes) / 512)))
      ∙ ap (map (place_of frames)) whole_run))

pub joined_cover : (frames : List Frame) (bytes : ℕ) (es : List Prd) → Fits frames bytes → PrdsCoverFrames frames bytes es → bytes % 512 ≡ 0
    → pieces es ≡ places_of frames (bytes / 512)
joined_cover frames bytes es fits j whole = cover_from frames es 0 bytes whole fits j

-- the frames from a place on whose numbers were seen to rise, and no further
pub longest : (frames : List Frame) (from n : ℕ) → from + n ≤ length frames → 0 < n
    → ((k : ℕ) → k < n → frame_number frames (from + k) ≡ frame_number frames from + k)
    → (n < length frames - from → frame_number frames (from + n) ≡ frame_number frames from + n → ⊥) → IsLongestRunFromFirst (drop from frames) n
longest frames from n within some rising ends =
    let d : length (drop from frames) ≡ length frames - from = length-drop from frames in
    let number : (k : ℕ) → frame_number (drop from frames) k ≡ frame_number frames (from + k) = λ (k : ℕ). ap (λ (f : Frame). f.0) (get_or-drop from frames k (record { 0 = 0 })) in
    let base : from + 0 ≡ from = omega arith in
    let first : frame_number (drop from frames) 0 ≡ frame_number frames from = number 0 ∙ ap (frame_number frames) base in
    record {
      is_not_empty = some;
      length_in_range = omega (arith, d, within);
      numbers_rise_by_one = λ k lt. number k ∙ (rising k lt ∙ ap (λ (x : ℕ). x + k) (sym first));
      run_ends = λ lt e. ends (omega (arith, d, lt)) (sym (number n) ∙ (e ∙ ap (λ (x : ℕ). x + n) first));
    }

-- one PRD more, of the longest run of the frames that are left
pub joined_more : (frames : List Frame) (covered left count : ℕ) (e : Prd) (es : List Prd) → covered < length frames → 4096 * (length frames - covered) < left + 4096
    → IsLongestRunFromFirst (drop covered frames) count → e.address ≡ 4096 * frame_number frames covered → e.bytes ≡ min left (4096 * count)
    → PrdsCoverFrames (drop (covered + count) frames) (left - e.bytes) es → PrdsCoverFrames (drop covered frames) left (e ∷ es)
joined_more frames covered left count e es lt last run address size rest =
    let d : length (drop covered frames) ≡ length frames - covered = length-drop covered frames in
    let w = run.length_in_range in
    let all : frame_count_in e ≡ count = omega (arith, d, w, size, last) in
    let base : covered + 0 ≡ covered = omega arith in
    let first : frame_number (drop covered frames) 0 ≡ frame_number frames covered = ap (λ (f : Frame). f.0) (get_or-drop covered frames 0 (record { 0 = 0 })) ∙ ap (frame_number frames) base in
    let back : drop (covered + count) frames ≡ drop (frame_count_in e) (drop covered frames) = sym (drop-drop count covered frames) ∙ ap (λ (n : ℕ). drop n (drop covered frames)) (sym all) in (
      record {
        run = subst (IsLongestRunFromFirst (drop covered frames)) (sym all) run;
        address = address ∙ ap (λ (x : ℕ). 4096 * x) (sym first);
        size = size ∙ ap (λ (n : ℕ). min left (4096 * n)) (sym all);
      },
      subst (λ (fs : List Frame). PrdsCoverFrames fs (left - e.bytes) es) back rest,
    )
