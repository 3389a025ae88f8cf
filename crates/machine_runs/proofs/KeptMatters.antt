-- Without the rule on kept requests: a write is kept when its port dies, a later one of its sector is answered Ok, the kept
-- one touches the sector after it, and a read finds the kept one's bytes.
use Rattle.std.proofs.Common.{◌≡◌, ◌≢◌, ◌⊎◌, ℕ, ◌+◌, ◌-◌, ◌<◌, ◌≤◌, ◌^◌, true, false, ◌||◌, ◌==◌, List, [], ◌∷◌, slice_get, Some, None, inl, inr, refl, sym, ap, ◌∙◌, subst, arith, eq-eqb}
use Rattle.std.proofs.lemmas.Bool.{or_left, false≢true}
use Rattle.std.proofs.lemmas.List.Elements.{All-contains, All-nil}
use Rattle.std.proofs.lemmas.Option.{get_or_from_slice_get}
use Rattle.std.specs.List.{Contains}
use Rattle.ata_types.specs.declared.PortState.TheVariants.{Ready}
use Rattle.ata_types.specs.declared.request.Frame.{Frame}
use Rattle.ata_types.specs.declared.request.Op.{Op}
use Rattle.ata_types.specs.declared.request.Op.TheVariants.{Read, Write, Trim, Flush}
use Rattle.ata_types.specs.declared.request.Outcome.TheVariants as outcome
use Rattle.ata_types.specs.declared.refusal.Refusal.TheVariants as refused
use Rattle.ata_types.specs.declared.grant.GrantRow.{GrantRow}
use Rattle.ata_types.specs.SectorGrants.{AllowsOp}
use Rattle.block_machine.specs.declared.due.QueueMode.{QueueMode}
use Rattle.block_machine.specs.Rules.{IsAllowedCount, frame_count_for}
use Rattle.block_machine.specs.Refusals.{AdmissionContext}
use Rattle.block_machine.specs.DueRequests.{is_flush, changes_sectors}
use Rattle.block_machine.specs.State.{Block, Memory, Accepted, Pending, Machine, block_of, is_reader, block_written}
use Rattle.block_machine.specs.Steps.{Step, Accept, Issue, Touch, End, Answer, newly_accepted, newly_issued, touch, mark_ended, unanswered_count, MayAccept}
use Rattle.block_machine.specs.Expected.{after, HoldsExpected, IsExpectedBlock, HasTouched, ChangedSector}
use Rattle.machine_runs.specs.ExampleRuns.{AllEnabledWithoutKeptRule, ReadsWrongWithoutKeptRule}
use Rattle.block_machine.proofs.Setting.{client, port, frame, row, two_rows, granted, request, empty, its_row, is_trim, filled_starts, IsFit, acceptable}

-- each frame is filled with its number
abbrev start : Machine
start = record empty { memory = λ f b. f.0 }

abbrev mode : QueueMode
mode = record { queued = true; usable_slots = 32 }

-- request number n, of one sector, has frame 100 + n
abbrev one_sector : ℕ → Op → Accepted
one_sector n op = record { id = record { 0 = n }; port = port; asked = request 0 op 100 1 (frame (100 + n) ∷ []); blocks_at_acceptance = block_of start.memory (frame (100 + n) ∷ []) }

abbrev one : Pending
one = newly_issued (newly_accepted (one_sector 1 Write))

abbrev two : Pending
two = newly_issued (newly_accepted (one_sector 2 Write))

abbrev read : Pending
read = newly_issued (newly_accepted (one_sector 3 Read))

-- a write is issued, and kept when its port dies
abbrev first_part : List Step
first_part = Answer one outcome.PortDead ∷ Issue mode (newly_accepted (one_sector 1 Write)) ∷ Accept (one_sector 1 Write) ∷ []

-- another is issued, touches the sector, and is answered Ok; the kept one touches it in between
abbrev second_part : List Step
second_part =
    Answer (mark_ended (touch 0 two)) outcome.Ok ∷ End (touch 0 two) ∷ Touch one 0 (λ b. 101) ∷ Touch two 0 (λ b. 102)
    ∷ Issue mode (newly_accepted (one_sector 2 Write)) ∷ Accept (one_sector 2 Write) ∷ first_part

-- a read finds the kept one's bytes
abbrev history : List Step
history = Touch read 0 (λ b. 101) ∷ Issue mode (newly_accepted (one_sector 3 Read)) ∷ Accept (one_sector 3 Read) ∷ second_part

-- what a request meets at a machine whose ports are ready
abbrev meets : Machine → AdmissionContext
meets m = record { rows = m.rows; owner = m.owner; lent = m.lent; state = λ p. Ready; sectors = λ p. 200; zeroes_after_trim = λ p. true; unanswered_count = unanswered_count m.book; next_id = m.next_id }

fit : (m : Machine) (n : ℕ) (op : Op) → m.rows ≡ two_rows → m.owner (frame (100 + n)) ≡ Some client → m.lent (frame (100 + n)) ≡ None → unanswered_count m.book client ≡ 0 → m.next_id < 2 ^ 64
    → op ≢ Trim → op ≢ Flush → frame_count_for op 1 ≡ 1 → IsAllowedCount op 1 → AllowsOp (row 0).rights op → IsFit 0 (meets m) (one_sector n op).asked
fit m n op same_rows own free none ids no_trim no_flush frames count allowed = record {
  rows = same_rows;
  mine = (0, omega arith, refl);
  client_is = refl;
  grant = refl;
  allowed = allowed;
  count = count;
  covered = λ _. (omega arith, omega arith);
  frames = sym frames;
  single = omega arith;
  owned = λ f e. ap m.owner (same f e) ∙ own;
  free = λ f e. ap m.lent (same f e) ∙ free;
  ready = refl;
  on_disk = λ _. omega arith;
  no_trim = no_trim;
  few = omega (arith, none);
  ids = ids;
}
  where
    same : (f : Frame) → slice_get (frame (100 + n) ∷ []) 0 ≡ Some f → f ≡ frame (100 + n)
    same f e = sym (get_or_from_slice_get (frame (100 + n) ∷ []) 0 f f e)

-- such a request is new to a machine whose frames hold what they held
new : (m : Machine) (n : ℕ) (op : Op) → IsFit 0 (meets m) (one_sector n op).asked → m.rows ≡ two_rows → n ≡ m.next_id → m.memory ≡ start.memory → MayAccept m (one_sector n op)
new m n op fits same_rows next memory = record {
  id_is_next = next;
  an_id_is_left = fits.ids;
  breaks_no_rule = λ rule h. acceptable 0 (meets m) (one_sector n op).asked fits (refused.Rule rule) h;
  port_is_of_its_row = λ r h. ap (λ (x : GrantRow). x.port) (sym (its_row r (subst (λ (xs : List GrantRow). Contains xs r) same_rows h.0) ∙ ap row h.1.1));
  client_has_room = fits.few;
  blocks_are_in_memory = ap (λ (x : Memory). block_of x (frame (100 + n) ∷ [])) (sym memory);
}

write_fits : (m : Machine) (n : ℕ) → m.rows ≡ two_rows → m.owner (frame (100 + n)) ≡ Some client → m.lent (frame (100 + n)) ≡ None → unanswered_count m.book client ≡ 0 → m.next_id < 2 ^ 64
    → IsFit 0 (meets m) (one_sector n Write).asked
write_fits m n same own free none ids = fit m n Write same own free none ids (λ e. false≢true (ap is_trim e)) (λ e. false≢true (ap is_flush e)) refl (omega arith, omega arith) refl

read_fits : (m : Machine) (n : ℕ) → m.rows ≡ two_rows → m.owner (frame (100 + n)) ≡ Some client → m.lent (frame (100 + n)) ≡ None → unanswered_count m.book client ≡ 0 → m.next_id < 2 ^ 64
    → IsFit 0 (meets m) (one_sector n Read).asked
read_fits m n same own free none ids = fit m n Read same own free none ids (λ e. false≢true (ap is_trim e)) (λ e. false≢true (ap is_flush e)) refl (omega arith, omega arith) refl

touched_only : (w : Accepted) → changes_sectors w.asked.op ≡ true → HasTouched w 100 0 history → (w ≡ one_sector 2 Write) ⊎ (w ≡ one_sector 1 Write)
touched_only w op (inl t) = absurd (false≢true (subst (λ (j : Accepted). changes_sectors j.asked.op ≡ true) (sym t.0.0) op))
touched_only w op (inr (inl t)) = absurd t.0
touched_only w op (inr (inr (inl t))) = absurd t.0
touched_only w op (inr (inr (inr (inl t)))) = absurd t.0
touched_only w op (inr (inr (inr (inr (inl t))))) = absurd t.0
touched_only w op (inr (inr (inr (inr (inr (inl t)))))) = inr (sym t.0.0)
touched_only w op (inr (inr (inr (inr (inr (inr (inl t))))))) = inl (sym t.0.0)
touched_only w op (inr (inr (inr (inr (inr (inr (inr t))))))) = absurd (elim t [ inl a ↦ a.0 | inr a ↦ elim a [ inl b ↦ b.0 | inr b ↦ elim b [ inl c ↦ c.0 | inr c ↦ elim c [ inl d ↦ d.0 | inr d ↦ elim d [ inl e ↦ e.0 | inr e ↦ e ] ] ] ] ])

two_wrote : ChangedSector port 100 0 3 history (one_sector 2 Write)
two_wrote = record { op_changes_sectors = refl; port_is = refl; earlier = omega arith; touched = inr (inr (inr (inr (inr (inr (inl ((refl, refl), refl))))))) }

wrong : HoldsExpected start history (after start history).memory (one_sector 3 Read) → ⊥
wrong h = go (h.sectors_are_expected 0 (omega arith)).1
  where
    block : Block
    block = (h.sectors_are_expected 0 (omega arith)).0

    finds : 101 ≡ block 0
    finds = (h.sectors_are_expected 0 (omega arith)).2 0 (omega arith)

    differ : ◌≡◌ {A = ℕ} 101 102 → ⊥
    differ e = omega (arith, e)

    last : (w : Accepted) → (w ≡ one_sector 2 Write) ⊎ (w ≡ one_sector 1 Write) → 2 ≤ w.id.0 → block ≡ block_written w.asked.op w.blocks_at_acceptance (100 - w.asked.first.0) → ⊥
    last w (inl p) le e = differ (finds ∙ ap (λ (f : Block). f 0) (e ∙ ap (λ (r : Accepted). block_written r.asked.op r.blocks_at_acceptance (100 - r.asked.first.0)) p))
    last w (inr p) le e = let id : w.id.0 ≡ 1 = ap (λ (r : Accepted). r.id.0) p in omega (arith, le, id)

    go : IsExpectedBlock start history (one_sector 3 Read) 100 block → ⊥
    go (inl r) = last r.0 (touched_only r.0 r.1.op_changes_sectors r.1.touched) (r.2 (one_sector 2 Write) two_wrote) r.3
    go (inr r) = r.0 (one_sector 2 Write) two_wrote

here : (e : Pending) → Contains (e ∷ []) e
here e = (0, omega arith, refl)

nowhere : (e : Pending) → Contains [] e → ⊥
nowhere e none = All-contains (λ _. ⊥) [] e (All-nil (λ _. ⊥)) none

one_touched : (i : ℕ) → i < 1 → ((i == 0) || false) ≡ true
one_touched i lt = or_left _ _ (eq-eqb i 0 (omega arith))

mine : Contains two_rows (row 0)
mine = (0, omega arith, refl)

loose : AllEnabledWithoutKeptRule start history
loose = ((((((((((((tt, new start 1 Write (write_fits start 1 refl refl refl refl (omega arith)) refl refl refl), (here (newly_accepted (one_sector 1 Write)), record { is_in_book = (0, omega arith, refl); waits_and_nothing_blocks = refl; slot_is_left = λ _. omega arith }, λ e none. absurd (nowhere e none), granted 0 mine refl)), (here one, tt)), new (after start first_part) 2 Write (write_fits (after start first_part) 2 refl refl refl refl (omega arith)) refl refl refl), (here (newly_accepted (one_sector 2 Write)), record { is_in_book = (0, omega arith, refl); waits_and_nothing_blocks = refl; slot_is_left = λ _. omega arith }, λ e none. absurd (nowhere e none), granted 0 mine refl)), (inl (here two, refl), omega arith, refl, omega arith, λ _ b lt. refl)), (inr (here one), omega arith, refl, omega arith, λ _ b lt. refl)), (inl (here (touch 0 two), refl), one_touched, refl)), (here (mark_ended (touch 0 two)), tt)), new (after start second_part) 3 Read (read_fits (after start second_part) 3 refl refl refl refl (omega arith)) refl refl refl), (here (newly_accepted (one_sector 3 Read)), record { is_in_book = (0, omega arith, refl); waits_and_nothing_blocks = refl; slot_is_left = λ _. omega arith }, λ e none. absurd (nowhere e none), granted 0 mine refl)), (inl (here read, refl), omega arith, refl, omega arith, λ e. absurd (false≢true (sym (ap is_reader e)))))

pub goes_wrong : ReadsWrongWithoutKeptRule
goes_wrong = record {
  start = start;
  history = history;
  read = touch 0 read;
  start_is_initial = filled_starts (λ f b. f.0);
  enabled_without_kept_rule = loose;
  steps_are_faithful = ((((((((((((tt, tt), tt), tt), tt), tt), λ e. absurd (false≢true (ap is_reader e))), λ e. absurd (false≢true (ap is_reader e))), tt), tt), tt), tt), λ _ b lt. refl);
  is_in_book = here (touch 0 read);
  all_is_touched = one_touched;
  reads = refl;
  read_holds_other_bytes = wrong;
}
