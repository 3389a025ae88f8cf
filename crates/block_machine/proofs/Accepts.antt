-- What is known of requests from their acceptance on.
use Rattle.std.proofs.Common.{◌≡◌, ◌⊎◌, ℕ, ◌+◌, ◌/◌, ◌<◌, ◌≤◌, Bool, List, [], ◌∷◌, length, inl, inr, ⊎_elim, refl, sym, ap, ◌∙◌, subst, arith}
use Rattle.std.proofs.lemmas.Bool.{cases_Bool, cases_eq, cases_lt, false≢true}
use Rattle.std.specs.List.{Contains}
use Rattle.std.specs.Bool.{IsTrue}
use Rattle.ata_types.specs.declared.request.ClientId.{ClientId}
use Rattle.ata_types.specs.declared.request.Request.{Request}
use Rattle.ata_types.specs.declared.request.Op.{Op}
use Rattle.ata_types.specs.declared.request.Op.TheVariants.{Read, Write, Trim, Flush}
use Rattle.ata_types.specs.declared.refusal.Rule.TheVariants.{NoGrant, NoRight, BadCount, OutsideGrant, FrameCount}
use Rattle.ata_types.specs.declared.grant.GrantRow.{GrantRow}
use Rattle.ata_types.specs.declared.grant.Rights.{Rights}
use Rattle.ata_types.specs.SectorGrants.{AllowsOp}
use Rattle.block_machine.specs.Rules.{IsNamed, IsAllowedCount, frame_count_for}
use Rattle.block_machine.specs.State.{Block, Accepted, Pending, Machine}
use Rattle.block_machine.specs.Steps.{Step, Accept, Touch, IsEnabled, MayAccept, IsInBookOrKept, after_step}
use Rattle.block_machine.specs.Events.{AllEnabled}
use Rattle.block_machine.specs.Expected.{after, IsInitial, IsAccept}
use Rattle.block_machine.specs.Confinement.{IsGranted, IsConfined, WasAccepted, MovesBytes}
use Rattle.block_machine.proofs.Members.{contains_none, contains_here, contains_there, contains_cases}
use Rattle.block_machine.proofs.Trace.{Before, Comes, lives_before, next_grows, runs_lives}
use Rattle.block_machine.proofs.Runs.{traced, nobody}

-- each request that lives was accepted
pub living_accepted : (start : Machine) (h : List Step) → IsInitial start → AllEnabled start h → (e : Pending) → IsInBookOrKept (after start h) e → WasAccepted start h e.request
living_accepted start [] s enabled e l = absurd (nobody start s e l)
living_accepted start (step ∷ past) s enabled e l = ⊎_elim
    (λ (r : Before (after start past) e). inr (subst (λ (j : Accepted). WasAccepted start past j) (sym r.2) (living_accepted start past s enabled.0 r.0 r.1)))
    (λ (c : Comes (after start past) step e.request). inl c)
    (lives_before (after start past) step enabled.1 e l)

-- it was new to some machine
pub was_new : (start : Machine) (h : List Step) (r : Accepted) → WasAccepted start h r → (m : Machine) × MayAccept m r
was_new start [] r w = absurd w
was_new start (step ∷ past) r (inl c) = (after start past, c.1)
was_new start (step ∷ past) r (inr w) = was_new start past r w

-- its id was handed out
id_below : (start : Machine) (h : List Step) (r : Accepted) → WasAccepted start h r → r.id.0 < (after start h).next_id
id_below start [] r w = absurd w
id_below start (step ∷ past) r (inl c) = grown step r c
  where
    grown : (y : Step) (r : Accepted) → Comes (after start past) y r → r.id.0 < (after_step (after start past) y).next_id
    grown (Accept new) r c = let e = c.1.id_is_next in omega (arith, e)
    grown _ r c = absurd c.0
id_below start (step ∷ past) r (inr w) = let g = next_grows (after start past) step in let b = id_below start past r w in omega (arith, g, b)

same_accept : (step : Step) (a b : Accepted) → IsAccept step a → IsAccept step b → a ≡ b
same_accept (Accept new) a b p q = sym p ∙ q
same_accept _ a b p q = absurd p

-- one id is one request, in the whole history
pub law_one_id_is_one_request : (start : Machine) (h : List Step) (a b : Accepted) → WasAccepted start h a → WasAccepted start h b → a.id ≡ b.id → a ≡ b
law_one_id_is_one_request start [] a b p q e = absurd p
law_one_id_is_one_request start (step ∷ past) a b (inl p) (inl q) e = same_accept step a b p.0 q.0
law_one_id_is_one_request start (step ∷ past) a b (inl p) (inr q) e =
    let low = id_below start past b q in let new = p.1.id_is_next in let n : a.id.0 ≡ b.id.0 = ap (λ i. i.0) e in absurd (omega (arith, low, new, n))
law_one_id_is_one_request start (step ∷ past) a b (inr p) (inl q) e =
    let low = id_below start past a p in let new = q.1.id_is_next in let n : a.id.0 ≡ b.id.0 = ap (λ i. i.0) e in absurd (omega (arith, low, new, n))
law_one_id_is_one_request start (step ∷ past) a b (inr p) (inr q) e = law_one_id_is_one_request start past a b p q e

-- What an accepted request is.

same_client : (a b : ClientId) → a.0 ≡ b.0 → a ≡ b
same_client a b e = ap (λ n. record { 0 = n }) e

-- the row that the request names, or none
row_of : (rows : List GrantRow) (q : Request) → ((row : GrantRow) × IsNamed rows q row) ⊎ ((row : GrantRow) → IsNamed rows q row → ⊥)
row_of [] q = inr (λ row h. contains_none row h.0)
row_of (r ∷ rs) q = ⊎_elim
    (λ (x : (row : GrantRow) × IsNamed rs q row). inl (x.0, (contains_there r rs x.0 x.1.0, x.1.1)))
    (λ (none : (row : GrantRow) → IsNamed rs q row → ⊥). ⊎_elim
    (λ (client : r.client.0 ≡ q.client.0). ⊎_elim
    (λ (number : r.number ≡ q.grant). inl (r, (contains_here r rs r refl, (same_client r.client q.client client, number))))
    (λ (ne : r.number ≡ q.grant → ⊥). inr (λ row h. ⊎_elim
    (λ (p : row ≡ r). ne (ap (λ (x : GrantRow). x.number) (sym p) ∙ h.1.1))
    (λ (k : Contains rs row). none row (k, h.1)) (contains_cases r rs row h.0)))
    (cases_eq r.number q.grant))
    (λ (ne : r.client.0 ≡ q.client.0 → ⊥). inr (λ row h. ⊎_elim
    (λ (p : row ≡ r). ne (ap (λ (x : GrantRow). x.client.0) (sym p) ∙ ap (λ (c : ClientId). c.0) h.1.0))
    (λ (k : Contains rs row). none row (k, h.1)) (contains_cases r rs row h.0)))
    (cases_eq r.client.0 q.client.0))
    (row_of rs q)

true_cases : (b : Bool) → IsTrue b ⊎ (IsTrue b → ⊥)
true_cases b = ⊎_elim (λ t. inl t) (λ f. inr (λ t. false≢true (sym f ∙ t))) (cases_Bool b)

-- whether the operation is allowed
allows_cases : (rights : Rights) (op : Op) → AllowsOp rights op ⊎ (AllowsOp rights op → ⊥)
allows_cases rights Read = true_cases rights.read
allows_cases rights Write = true_cases rights.write
allows_cases rights Trim = true_cases rights.trim
allows_cases rights Flush = true_cases rights.flush

-- a request that breaks no rule is granted
pub law_accepted_is_granted : (m : Machine) (r : Accepted) → MayAccept m r → IsGranted m.rows r
law_accepted_is_granted m r new = ⊎_elim
    (λ (x : (row : GrantRow) × IsNamed m.rows r.asked row). record {
      row = x.0;
      is_named = x.1;
      row_port_is = new.port_is_of_its_row x.0 x.1;
      op_is_allowed = ⊎_elim (λ t. t) (λ f. absurd (new.breaks_no_rule NoRight (x.0, x.1, f))) (allows_cases x.0.rights r.asked.op);
      sectors_are_covered = λ op. ⊎_elim
          (λ (lt : r.asked.first.0 < x.0.first.0). absurd (new.breaks_no_rule OutsideGrant (op, (x.0, x.1, λ c. let le = c.0 in omega (arith, lt, le)))))
          (λ (from : x.0.first.0 ≤ r.asked.first.0). ⊎_elim
          (λ (lt : x.0.first.0 + x.0.count < r.asked.first.0 + r.asked.count). absurd (new.breaks_no_rule OutsideGrant (op, (x.0, x.1, λ c. let le = c.1 in omega (arith, lt, le)))))
          (λ (to : r.asked.first.0 + r.asked.count ≤ x.0.first.0 + x.0.count). (from, to))
          (cases_lt (x.0.first.0 + x.0.count) (r.asked.first.0 + r.asked.count)))
          (cases_lt r.asked.first.0 x.0.first.0);
    })
    (λ none. absurd (new.breaks_no_rule NoGrant none))
    (row_of m.rows r.asked)

-- the numbers of its frames and sectors fit
frames_fit : (m : Machine) (r : Accepted) → MayAccept m r → length r.asked.frames.items ≡ frame_count_for r.asked.op r.asked.count
frames_fit m r new = ⊎_elim (λ e. e) (λ ne. absurd (new.breaks_no_rule FrameCount ne)) (cases_eq (length r.asked.frames.items) (frame_count_for r.asked.op r.asked.count))

pub flush_empty : (m : Machine) (r : Accepted) → MayAccept m r → r.asked.op ≡ Flush → r.asked.count ≡ 0
flush_empty m r new op = ⊎_elim (λ e. e) (λ ne. absurd (new.breaks_no_rule BadCount (subst (λ (o : Op). IsAllowedCount o r.asked.count → ⊥) (sym op) ne))) (cases_eq r.asked.count 0)

framed : (op : Op) (count n i : ℕ) → n ≡ frame_count_for op count → MovesBytes op → i < count → i / 8 < n
framed Read count n i e b lt = omega arith
framed Write count n i e b lt = omega arith
framed Trim count n i e b lt = absurd b
framed Flush count n i e b lt = absurd b

-- a frame for each sector that is moved
pub has_frame : (m : Machine) (r : Accepted) → MayAccept m r → MovesBytes r.asked.op → (i : ℕ) → i < r.asked.count → i / 8 < length r.asked.frames.items
has_frame m r new moves i lt = framed r.asked.op r.asked.count (length r.asked.frames.items) i (frames_fit m r new) moves lt

-- each touch is confined
pub law_touch_is_confined : (start : Machine) (h : List Step) (e : Pending) (i : ℕ) (block : Block) → IsInitial start → AllEnabled start h → IsEnabled (after start h) (Touch e i block) → IsConfined start h e.request i
law_touch_is_confined start h e i block s enabled may =
    let l = runs_lives (after start h) e may.0 in
    let accepted = living_accepted start h s enabled e l in
    let new = was_new start h e.request accepted in
    let place : MovesBytes e.request.asked.op → i / 8 < length e.request.asked.frames.items = λ b. has_frame new.0 e.request new.1 b i may.1 in
    record {
      was_accepted = accepted;
      number_is_in_range = may.1;
      has_frame = place;
      frame_is_lent = λ b. (traced start h s enabled).sound.lent e l (i / 8) (place b);
    }
