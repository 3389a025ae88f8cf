-- Rows only go and owners stay what they were, so clients are those of the start, and at most 128 requests are unanswered.
use Rattle.std.proofs.Common.{◌≡◌, ℕ, ◌+◌, ◌*◌, ◌≤◌, Bool, cond, not, ◌==◌, List, [], ◌∷◌, length, zero, suc, inl, inr, ⊎_elim, refl, sym, ap, ◌∙◌, subst, arith, eq-eqb, le_refl}
use Rattle.std.proofs.lemmas.Bool.{cases_eq}
use Rattle.std.proofs.lemmas.List.Kept.{AllPairs-filter}
use Rattle.std.specs.List.{AllPairs, Contains}
use Rattle.ata_types.specs.declared.request.ClientId.{ClientId}
use Rattle.ata_types.specs.declared.request.Frame.{Frame}
use Rattle.ata_types.specs.declared.grant.GrantRow.{GrantRow}
use Rattle.ata_types.specs.declared.limits.TheConstants.{MOST_UNANSWERED_OF_ALL_CLIENTS, MOST_UNANSWERED_OF_A_CLIENT}
use Rattle.block_machine.specs.Histories.{IsReachable}
use Rattle.block_machine.specs.State.{Accepted, Pending, Machine}
use Rattle.block_machine.specs.Rules.{DifferInName, is_same_grant_name}
use Rattle.block_machine.specs.Steps.{Step, Accept, Revoke, after_step, unanswered_count}
use Rattle.block_machine.specs.Events.{AllEnabled}
use Rattle.block_machine.specs.Expected.{after, IsInitial}
use Rattle.block_machine.specs.Confinement.{IsGranted, WasAccepted}
use Rattle.block_machine.proofs.Members.{filter_in, contains_here, contains_there}
use Rattle.block_machine.proofs.Counting.{count_cons}
use Rattle.block_machine.proofs.Accepts.{living_accepted, law_accepted_is_granted}

-- each of the rows that the step leaves was there
row_step : (m : Machine) (step : Step) (row : GrantRow) → Contains (after_step m step).rows row → Contains m.rows row
row_step m (Revoke client number) row h = (filter_in (λ (r : GrantRow). not (is_same_grant_name client number r.client r.number)) m.rows row h).0
row_step m _ row h = h

pub rows_shrink : (m : Machine) (h : List Step) (row : GrantRow) → Contains (after m h).rows row → Contains m.rows row
rows_shrink m [] row h = h
rows_shrink m (step ∷ past) row h = rows_shrink m past row (row_step (after m past) step row h)

-- those that differ in name do so still
differ_step : (m : Machine) (step : Step) → AllPairs DifferInName m.rows → AllPairs DifferInName (after_step m step).rows
differ_step m (Revoke client number) differ = AllPairs-filter DifferInName (λ (r : GrantRow). not (is_same_grant_name client number r.client r.number)) m.rows differ
differ_step m _ differ = differ

pub rows_differ : (m : Machine) (h : List Step) → AllPairs DifferInName m.rows → AllPairs DifferInName (after m h).rows
rows_differ m [] differ = differ
rows_differ m (step ∷ past) differ = differ_step (after m past) step (rows_differ m past differ)

-- so the rows of a machine that is reached do
pub names_differ : (m : Machine) → IsReachable m → AllPairs DifferInName m.rows
names_differ m reached =
    subst (λ (n : Machine). AllPairs DifferInName n.rows) (sym reached.leads_to_machine)
    (rows_differ reached.initial_machine reached.steps_since reached.is_initial.rows_differ_in_name)

pub owner_step : (m : Machine) (step : Step) (f : Frame) → (after_step m step).owner f ≡ m.owner f
owner_step m (Accept r) f = refl
owner_step m _ f = refl

pub owners_stay : (m : Machine) (h : List Step) (f : Frame) → (after m h).owner f ≡ m.owner f
owners_stay m [] f = refl
owners_stay m (step ∷ past) f = owner_step (after m past) step f ∙ owners_stay m past f

pub law_rows_shrink_and_owners_stay : (start : Machine) (h : List Step) → ((row : GrantRow) → Contains (after start h).rows row → Contains start.rows row) × ((f : Frame) → (after start h).owner f ≡ start.owner f)
law_rows_shrink_and_owners_stay start h = (rows_shrink start h, owners_stay start h)

-- a request that more rows grant
granted_by_more : (few more : List GrantRow) (r : Accepted) → ((row : GrantRow) → Contains few row → Contains more row) → IsGranted few r → IsGranted more r
granted_by_more few more r shrunk g = record { row = g.row; is_named = (shrunk g.row g.is_named.0, g.is_named.1); row_port_is = g.row_port_is; op_is_allowed = g.op_is_allowed; sectors_are_covered = g.sectors_are_covered }

-- the rows of the start grant each request that was accepted
pub was_granted : (start : Machine) (h : List Step) (r : Accepted) → WasAccepted start h r → IsGranted start.rows r
was_granted start [] r w = absurd w
was_granted start (step ∷ past) r (inl c) = granted_by_more (after start past).rows start.rows r (rows_shrink start past) (law_accepted_is_granted (after start past) r c.1)
was_granted start (step ∷ past) r (inr w) = was_granted start past r w

-- the client of an accepted request is one that a row may have
accepted_client : (start : Machine) (h : List Step) (r : Accepted) → IsInitial start → WasAccepted start h r → (1 ≤ r.asked.client.0) × (r.asked.client.0 ≤ 8)
accepted_client start h r s w =
    let g = was_granted start h r w in
    let row = s.rows_are_valid g.row g.is_named.0 in
    let low = row.client_is_valid.0 in
    let high = row.client_is_valid.1 in
    let same : g.row.client.0 ≡ r.asked.client.0 = ap (λ (x : ClientId). x.0) g.is_named.1.0 in
    (omega (arith, low, same), omega (arith, high, same))

-- how many requests the clients 1 to n have
abbrev total : List Pending → ℕ → ℕ
total es zero = 0
total es (suc n) = total es n + unanswered_count es (record { 0 = suc n })

total_grows : (x : Pending) (xs : List Pending) (n : ℕ) → total xs n ≤ total (x ∷ xs) n
total_grows x xs zero = le_refl 0
total_grows x xs (suc n) =
    let rest = total_grows x xs n in
    let here = count_cons (λ (e : Pending). e.request.asked.client.0 == suc n) x xs in
    omega (arith, rest, here)

total_more : (x : Pending) (xs : List Pending) (n : ℕ) → 1 ≤ x.request.asked.client.0 → x.request.asked.client.0 ≤ n → suc (total xs n) ≤ total (x ∷ xs) n
total_more x xs zero low high = absurd (omega (arith, low, high))
total_more x xs (suc n) low high =
    let here = count_cons (λ (e : Pending). e.request.asked.client.0 == suc n) x xs in
    ⊎_elim
    (λ (e : x.request.asked.client.0 ≡ suc n).
    let one : ◌≡◌ {A = ℕ} (cond (x.request.asked.client.0 == suc n) 1 0) 1 = ap (λ (b : Bool). cond {A = ℕ} b 1 0) (eq-eqb x.request.asked.client.0 (suc n) e) in
    let rest = total_grows x xs n in
    omega (arith, rest, here, one))
    (λ (ne : x.request.asked.client.0 ≡ suc n → ⊥).
    let below : x.request.asked.client.0 ≤ n = nearly x.request.asked.client.0 n high ne in
    let rest = total_more x xs n low below in
    omega (arith, rest, here))
    (cases_eq x.request.asked.client.0 (suc n))
  where
    nearly : (a b : ℕ) → a ≤ suc b → (a ≡ suc b → ⊥) → a ≤ b
    nearly a b le ne = omega (arith, le, ne)

total_all : (es : List Pending) (n : ℕ) → ((e : Pending) → Contains es e → (1 ≤ e.request.asked.client.0) × (e.request.asked.client.0 ≤ n)) → length es ≤ total es n
total_all [] n c = omega arith
total_all (x ∷ xs) n c =
    let rest = total_all xs n (λ e h. c e (contains_there x xs e h)) in
    let own = c x (contains_here x xs x refl) in
    let more = total_more x xs n own.0 own.1 in
    omega (arith, rest, more)

total_most : (es : List Pending) (n : ℕ) → ((c : ClientId) → unanswered_count es c ≤ MOST_UNANSWERED_OF_A_CLIENT) → total es n ≤ 16 * n
total_most es zero few = le_refl 0
total_most es (suc n) few =
    let rest = total_most es n few in
    let own = few (record { 0 = suc n }) in
    omega (arith, rest, own)

-- 16 of each of 8 clients
pub all_few : (start : Machine) (h : List Step) → IsInitial start → AllEnabled start h → ((c : ClientId) → unanswered_count (after start h).book c ≤ MOST_UNANSWERED_OF_A_CLIENT) → length (after start h).book ≤ MOST_UNANSWERED_OF_ALL_CLIENTS
all_few start h s enabled few =
    let all = total_all (after start h).book 8 (λ e i. accepted_client start h e.request s (living_accepted start h s enabled e (inl i))) in
    let most = total_most (after start h).book 8 few in
    omega (arith, all, most)
