-- Requests that a witness's machine accepts.
use Rattle.std.proofs.Common.{ℕ, ◌≡◌, ◌<◌, ◌≤◌, ◌+◌, ◌*◌, ◌/◌, ◌^◌, true, List, [], ◌∷◌, slice_index, slice_get, Some, None, refl, sym, ◌∙◌, ap, subst, arith}
use Rattle.std.specs.List.{Contains}
use Rattle.ata_types.specs.declared.PortState.TheVariants.{Ready}
use Rattle.ata_types.specs.declared.request.Frame.{Frame}
use Rattle.ata_types.specs.declared.request.Op.TheVariants.{Read, Trim}
use Rattle.ata_types.specs.declared.request.Request.{Request}
use Rattle.ata_types.specs.declared.refusal.Refusal.TheVariants as refused
use Rattle.ata_types.specs.declared.grant.GrantRow.{GrantRow}
use Rattle.adapter.specs.Decoding.{piece_addresses}
use Rattle.adapter.proofs.SaysLemmas.{cut_index}
use Rattle.block_machine.specs.Refusals.{AdmissionContext}
use Rattle.ata_types.specs.declared.refusal.FrameFault.TheVariants.{FrameForeign, FrameTwice, FrameLent}
use Rattle.ata_types.specs.declared.refusal.Rule.TheVariants.{NoGrant, NoRight, BadCount, OutsideGrant, FrameCount, Frames}
use Rattle.ata_types.specs.SectorGrants.{AllowsOp, CoversSectors}
use Rattle.block_machine.specs.Rules.{IsNamed, BreaksNone, HasRow}
use Rattle.block_machine.specs.State.{Accepted, Machine, block_of, nth_frame}
use Rattle.block_machine.specs.Steps.{MayAccept, unanswered_count}
use Rattle.block_machine.proofs.Setting.{client, port, frame, row, request, two_rows, granted, its_row, IsFit, acceptable}
use Rattle.refinement.specs.MemoryLayout.{sector_address}

-- the request as the machine accepts it next
abbrev pub accepted_of : Machine → Request → Accepted
accepted_of m r = record { id = record { 0 = m.next_id }; port = port; asked = r; blocks_at_acceptance = block_of m.memory r.frames.items }

-- it breaks no rule, and names the row of port 0
pub new_of : (m : Machine) (r : Request) → m.rows ≡ two_rows → r.grant ≡ 0 → BreaksNone m.rows m.owner m.lent r → unanswered_count m.book r.client < 16 → m.next_id < 2 ^ 64 → MayAccept m (accepted_of m r)
new_of m r rows grant unbroken few ids = record {
  id_is_next = refl;
  an_id_is_left = ids;
  breaks_no_rule = unbroken;
  port_is_of_its_row = λ x named. sym (ap (λ (x : GrantRow). x.port) (its_row x (subst (λ (rs : List GrantRow). Contains rs x) rows named.0) ∙ ap row (named.1.1 ∙ grant)));
  client_has_room = few;
  blocks_are_in_memory = refl;
}

-- and that row is there
pub has_its_grant : {rows : List GrantRow} → rows ≡ two_rows → HasRow client 0 rows
has_its_grant same = granted 0 (0, omega arith, refl) same

-- ---- a read of eight sectors into one frame

abbrev pub read_into : ℕ → ℕ → Request
read_into first n = request 0 Read first 8 (frame n ∷ [])

abbrev admission_context_of : Machine → AdmissionContext
admission_context_of m = record { rows = m.rows; owner = m.owner; lent = m.lent; state = λ p. Ready; sectors = λ p. 256; zeroes_after_trim = λ p. true; unanswered_count = λ c. 0; next_id = 1 }

pub read_no_trim : Read ≡ Trim → ⊥
read_no_trim e = cc

-- where its sectors lie
pub places_in : (n i : ℕ) → i < 8 → slice_index (piece_addresses (4096 * n) 8) i ≡ sector_address (frame n ∷ []) i
places_in n i lt =
    let zero_is : i / 8 ≡ 0 = omega (arith, lt) in
    let same : (nth_frame (frame n ∷ []) (i / 8)).0 ≡ n = ap (λ (k : ℕ). (nth_frame (frame n ∷ []) k).0) zero_is in
    cut_index (4096 * n) 8 i lt ∙ omega (arith, same, lt)

read_fits : (m : Machine) (first n : ℕ) → m.rows ≡ two_rows → m.owner (frame n) ≡ Some client → m.lent (frame n) ≡ None → 100 ≤ first → first + 8 ≤ 164 → IsFit 0 (admission_context_of m) (read_into first n)
read_fits m first n rows mine free low high = record {
  rows = rows;
  mine = (0, omega arith, refl);
  client_is = refl;
  grant = refl;
  allowed = refl;
  count = (omega arith, omega arith);
  covered = λ _. (low, omega (arith, high));
  frames = refl;
  single = omega arith;
  owned = λ f e. let g : frame n ≡ f = cc in subst (λ (x : Frame). m.owner x ≡ Some client) g mine;
  free = λ f e. let g : frame n ≡ f = cc in subst (λ (x : Frame). m.lent x ≡ None) g free;
  ready = refl;
  on_disk = λ _. omega (arith, high);
  no_trim = λ e. read_no_trim e;
  few = omega arith;
  ids = omega arith;
}

pub read_is_new : (m : Machine) (first n : ℕ) → m.rows ≡ two_rows → m.owner (frame n) ≡ Some client → m.lent (frame n) ≡ None → 100 ≤ first → first + 8 ≤ 164 → unanswered_count m.book client < 16 → m.next_id < 2 ^ 64 →
    MayAccept m (accepted_of m (read_into first n))
read_is_new m first n rows mine free low high few ids =
    new_of m (read_into first n) rows refl (λ rule h. acceptable 0 (admission_context_of m) (read_into first n) (read_fits m first n rows mine free low high) (refused.Rule rule) h) few ids

-- ---- a trim of eight sectors

abbrev pub trim_of : ℕ → Request
trim_of first = request 0 Trim first 8 []

trim_breaks_none : (m : Machine) (first : ℕ) → m.rows ≡ two_rows → 100 ≤ first → first + 8 ≤ 164 → BreaksNone m.rows m.owner m.lent (trim_of first)
trim_breaks_none m first rows low high = none
  where
    named : IsNamed m.rows (trim_of first) (row 0)
    named = (subst (λ (rs : List GrantRow). Contains rs (row 0)) (sym rows) ((0, omega arith, refl)), (refl, refl))

    is_row : (x : GrantRow) → IsNamed m.rows (trim_of first) x → x ≡ row 0
    is_row x h = its_row x (subst (λ (rs : List GrantRow). Contains rs x) rows h.0) ∙ ap row h.1.1

    no_frame : (i : ℕ) (f : Frame) → slice_get [] i ≡ Some f → ⊥
    no_frame i f e = let z : None ≡ Some f = e in cc

    none : BreaksNone m.rows m.owner m.lent (trim_of first)
    none NoGrant h = h (row 0) named
    none NoRight h = h.2 (subst (λ (x : GrantRow). AllowsOp x.rights Trim) (sym (is_row h.0 h.1)) refl)
    none BadCount h = h (omega arith, omega arith)
    none OutsideGrant h = h.1.2 (subst (λ (x : GrantRow). CoversSectors x first 8) (sym (is_row h.1.0 h.1.1)) (low, omega (arith, high)))
    none FrameCount h = h refl
    none (Frames (FrameForeign i)) h = no_frame i h.0 h.1
    none (Frames (FrameTwice i)) h = no_frame i h.0 h.4
    none (Frames (FrameLent i)) h = no_frame i h.0 h.1

pub trim_is_new : (m : Machine) (first : ℕ) → m.rows ≡ two_rows → 100 ≤ first → first + 8 ≤ 164 → unanswered_count m.book client < 16 → m.next_id < 2 ^ 64 → MayAccept m (accepted_of m (trim_of first))
trim_is_new m first rows low high few ids = new_of m (trim_of first) rows refl (trim_breaks_none m first rows low high) few ids
