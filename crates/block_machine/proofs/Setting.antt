-- A machine with one client, a row on each of two ports, and small requests, and what holds of requests there.
use Rattle.std.proofs.Common.{◌≡◌, ◌≢◌, ℕ, ◌+◌, ◌^◌, ◌<◌, ◌≤◌, Bool, true, false, cond, ◌&&◌, List, [], ◌∷◌, length, slice_get, Option, Some, None, ◌⊎◌, inl, inr, ⊎_elim, refl, sym, ap, ◌∙◌, subst, arith, leb-true, ltb-true}
use Rattle.std.proofs.lemmas.List.Kept.{AllPairs-cons}
use Rattle.std.specs.List.{Contains, AllPairs}
use Rattle.std.specs.Prelude.{nat_le, nat_lt, slice_index_or}
use Rattle.ata_types.specs.declared.limits.TheConstants.{MOST_UNANSWERED_OF_A_CLIENT}
use Rattle.ata_types.specs.declared.Port.{Port}
use Rattle.ata_types.specs.declared.PortState.TheVariants.{Ready}
use Rattle.ata_types.specs.declared.request.ClientId.{ClientId}
use Rattle.ata_types.specs.declared.request.Frame.{Frame}
use Rattle.ata_types.specs.declared.request.Request.{Request}
use Rattle.ata_types.specs.declared.request.Op.{Op}
use Rattle.ata_types.specs.declared.request.Op.TheVariants.{Trim, Flush}
use Rattle.ata_types.specs.declared.grant.GrantRow.{GrantRow}
use Rattle.ata_types.specs.SectorGrants.{AllowsOp, CoversSectors}
use Rattle.ata_types.specs.declared.memory.TheConstants.{DRIVER_FRAMES}
use Rattle.block_machine.specs.Rules.{DifferInName, HasRow, IsAllowedCount, frame_count_for}
use Rattle.block_machine.specs.Refusals.{AdmissionContext, IsAcceptable}
use Rattle.block_machine.specs.State.{Memory, Machine}
use Rattle.block_machine.specs.Expected.{IsValidRow, IsInitial}
use Rattle.block_machine.proofs.Fitting.{fit_acceptable}
use Rattle.block_machine.proofs.Members.{contains_none, contains_cases}

abbrev pub client : ClientId
client = record { 0 = 1 }

abbrev pub on : ℕ → Port
on n = record { 0 = n }

abbrev pub port : Port
port = on 0

abbrev pub frame : ℕ → Frame
frame n = record { 0 = n }

-- the row of this number is on the port of this number
abbrev pub row : ℕ → GrantRow
row n = record { client = client; number = n; port = on n; first = record { 0 = 100 }; count = 64; rights = record { read = true; write = true; trim = true; flush = true } }

abbrev pub two_rows : List GrantRow
two_rows = row 0 ∷ row 1 ∷ []

-- the client has the grant of this number
pub granted : {rows : List GrantRow} (n : ℕ) → Contains two_rows (row n) → rows ≡ two_rows → HasRow client n rows
granted n mine same = (row n, subst (λ (rows : List GrantRow). Contains rows (row n)) (sym same) mine, (refl, refl))

abbrev pub request : ℕ → Op → ℕ → ℕ → List Frame → Request
request n op first count frames = record { client = client; grant = n; op = op; first = record { 0 = first }; count = count; frames = record { items = frames } }

abbrev pub owner : Frame → Option ClientId
owner f = cond (nat_le DRIVER_FRAMES f.0 && nat_lt f.0 (DRIVER_FRAMES + 100)) (Some client) None

-- frames of zeros, and disks of 200 zero sectors
abbrev pub empty : Machine
empty = record {
  present = λ p. true;
  disk_ids = λ p. 0;
  sizes = λ p. 200;
  disk_bytes = λ p k b. 0;
  overwritten_since_flush = λ p k. [];
  book = [];
  kept = [];
  lent = λ f. None;
  memory = λ f b. 0;
  rows = two_rows;
  owner = owner;
  next_id = 1;
}

-- a row of one of two numbers
row_cases : (r : GrantRow) → Contains two_rows r → (r ≡ row 0) ⊎ (r ≡ row 1)
row_cases r h = ⊎_elim (λ p. inl p) (λ i. ⊎_elim (λ p. inr p) (λ n. absurd (contains_none r n)) (contains_cases (row 1) [] r i)) (contains_cases (row 0) (row 1 ∷ []) r h)

-- its number says which it is
pub its_row : (r : GrantRow) → Contains two_rows r → r ≡ row r.number
its_row r h = ⊎_elim
    (λ p. p ∙ ap row (sym (ap (λ (x : GrantRow). x.number) p)))
    (λ p. p ∙ ap row (sym (ap (λ (x : GrantRow). x.number) p)))
    (row_cases r h)

-- each may be given by a configuration, and they differ in name
fits_row : (n : ℕ) → n ≤ 1 → IsValidRow (row n)
fits_row n few = record { client_is_valid = (omega arith, omega arith); number_is_at_most_63 = omega (arith, few); port_is_at_most_3 = omega (arith, few); count_is_positive = omega arith; sectors_are_below_2_48 = omega arith }

differ : AllPairs DifferInName two_rows
differ = AllPairs-cons DifferInName (row 0) (row 1 ∷ [])
    (λ k d lt. let z : k ≡ 0 = omega (arith, lt) in subst (λ (i : ℕ). DifferInName (row 0) (slice_index_or (row 1 ∷ []) i d)) (sym z) apart)
    (λ i j d lt below. absurd (omega (arith, lt, below)))
  where
    apart : DifferInName (row 0) (row 1)
    apart named = let same = named.1 in omega (arith, same)

-- it is a start, whatever its frames hold
pub filled_starts : (memory : Memory) → IsInitial (record empty { memory = memory })
filled_starts memory = record {
  book_is_empty = refl;
  none_is_kept = refl;
  no_frame_is_lent = λ f. refl;
  next_id_is_1 = refl;
  rows_are_at_most_64 = omega arith;
  rows_differ_in_name = differ;
  rows_are_valid = λ r h. ⊎_elim (λ p. subst IsValidRow (sym p) (fits_row 0 (omega arith))) (λ p. subst IsValidRow (sym p) (fits_row 1 (omega arith))) (row_cases r h);
  owned_frames_are_clients = λ f c e. within f (nat_le DRIVER_FRAMES f.0) (nat_lt f.0 (DRIVER_FRAMES + 100)) refl refl c e;
}
  where
    within : (f : Frame) (a b : Bool) → nat_le DRIVER_FRAMES f.0 ≡ a → nat_lt f.0 (DRIVER_FRAMES + 100) ≡ b → (c : ClientId) → cond (a && b) (Some client) None ≡ Some c → (1 ≤ c.0) × (c.0 ≤ 8) × (DRIVER_FRAMES ≤ f.0) × (f.0 < 1024)
    within f true true low high c e =
        let is : client ≡ c = cc in
        let n : 1 ≡ c.0 = ap (λ (x : ClientId). x.0) is in
        let l : DRIVER_FRAMES ≤ f.0 = leb-true DRIVER_FRAMES f.0 low in
        let h : f.0 < DRIVER_FRAMES + 100 = ltb-true f.0 (DRIVER_FRAMES + 100) high in
        (omega (arith, n), omega (arith, n), l, omega (arith, h))
    within f true false low high c e = absurd (none_some c e)
      where
        none_some : (c : ClientId) → None ≡ Some c → ⊥
        none_some c e = cc
    within f false b low high c e = absurd (none_some c e)
      where
        none_some : (c : ClientId) → None ≡ Some c → ⊥
        none_some c e = cc

pub empty_starts : IsInitial empty
empty_starts = filled_starts (λ f b. 0)

abbrev pub is_trim : Op → Bool
is_trim Trim = true
is_trim _ = false

-- what makes a request of this client, on the port of this number, acceptable
pub record IsFit (n : ℕ) (s : AdmissionContext) (r : Request) : Type 0 where
  pub rows : s.rows ≡ two_rows
  pub mine : Contains two_rows (row n)
  pub client_is : r.client ≡ client
  pub grant : r.grant ≡ n
  pub allowed : AllowsOp (row n).rights r.op
  pub count : IsAllowedCount r.op r.count
  pub covered : r.op ≢ Flush → CoversSectors (row n) r.first.0 r.count
  pub frames : length r.frames.items ≡ frame_count_for r.op r.count
  pub single : length r.frames.items ≤ 1
  pub owned : (f : Frame) → slice_get r.frames.items 0 ≡ Some f → s.owner f ≡ Some client
  pub free : (f : Frame) → slice_get r.frames.items 0 ≡ Some f → s.lent f ≡ None
  pub ready : s.state (on n) ≡ Ready
  pub on_disk : r.op ≢ Flush → r.first.0 + r.count ≤ s.sectors (on n)
  pub no_trim : r.op ≢ Trim
  pub few : s.unanswered_count client < MOST_UNANSWERED_OF_A_CLIENT
  pub ids : s.next_id < 2 ^ 64

pub acceptable : (n : ℕ) (s : AdmissionContext) (r : Request) → IsFit n s r → IsAcceptable s r
acceptable n s r fit = fit_acceptable (row n) s r (record {
  named = (subst (λ (xs : List GrantRow). Contains xs (row n)) (sym fit.rows) fit.mine, (sym fit.client_is, sym fit.grant));
  only = λ x h. its_row x (subst (λ (xs : List GrantRow). Contains xs x) fit.rows h.0) ∙ ap row (h.1.1 ∙ fit.grant);
  allowed = fit.allowed;
  count = fit.count;
  covered = fit.covered;
  frames = fit.frames;
  single = fit.single;
  owned = λ f e. fit.owned f e ∙ ap Some (sym fit.client_is);
  free = fit.free;
  ready = fit.ready;
  on_disk = fit.on_disk;
  no_trim = fit.no_trim;
  few = subst (λ (c : ClientId). s.unanswered_count c < MOST_UNANSWERED_OF_A_CLIENT) (sym fit.client_is) fit.few;
  ids = fit.ids;
})
