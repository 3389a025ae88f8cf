-- What the worked runs are made of: ports, calls and requests, and what holds of them.
use Rattle.std.proofs.Common.{◌≡◌, ◌≢◌, ◌⊎◌, ℕ, ◌+◌, ◌<◌, ◌≤◌, true, false, not, List, [], ◌∷◌, ◌++◌, map, slice_get, Some, is_some, ◌||◌, ◌==◌, eq-eqb, None, inl, inr, ⊎_elim, refl, sym, ap, ◌∙◌, subst, arith, Bool, cond, eqb-true}
use Rattle.std.proofs.lemmas.Bool.{false≢true, or_left, or_from, cond-true, cond-false}
use Rattle.std.specs.List.{Contains, list_any}
use Rattle.std.specs.List.Sorted.{IsPermutation}
use Rattle.std.proofs.lemmas.Option.{slice_get_within, get_or_from_slice_get}
use Rattle.std.proofs.lemmas.List.Sorted.{IsPermutation-refl}
use Rattle.ata_types.specs.declared.limits.TheConstants.{MOST_UNANSWERED_OF_A_CLIENT}
use Rattle.ata_types.specs.declared.Port.{Port}
use Rattle.ata_types.specs.declared.PortState.{PortState}
use Rattle.ata_types.specs.declared.PortState.TheVariants.{Absent, Ready, Unfit, Dead}
use Rattle.ata_types.specs.declared.request.Frame.{Frame}
use Rattle.ata_types.specs.declared.request.RequestId.{RequestId}
use Rattle.ata_types.specs.declared.request.Reply.{Reply}
use Rattle.ata_types.specs.declared.request.Op.{Op}
use Rattle.ata_types.specs.declared.request.Op.TheVariants.{Read, Write, Trim, Flush}
use Rattle.ata_types.specs.declared.request.Outcome.{Outcome}
use Rattle.ata_types.specs.declared.request.Outcome.TheVariants as outcome
use Rattle.ata_types.specs.declared.refusal.Refusal.TheVariants as refused
use Rattle.ata_types.specs.declared.refusal.MemFault.TheVariants as fault
use Rattle.ata_types.specs.declared.grant.GrantRow.{GrantRow}
use Rattle.block_machine.specs.declared.due.QueueMode.{QueueMode}
use Rattle.block_machine.specs.declared.due.Unanswered.{Unanswered}
use Rattle.ata_types.specs.SectorGrants.{AllowsOp}
use Rattle.block_machine.specs.Rules.{IsAllowedCount, frame_count_for}
use Rattle.block_machine.specs.Refusals.{MayAccessFrame}
use Rattle.block_machine.specs.DueRequests.{NoneDue, is_flush}
use Rattle.block_machine.specs.State.{Accepted, Pending, Machine, block_of, unanswered}
use Rattle.block_machine.specs.Steps.{Step, Touch, End, Answer, newly_accepted, newly_issued, touch, mark_ended, MayAccept}
use Rattle.block_machine.specs.Ports.{Ports, Evidence, PortsWellFormed, SamePort, IsStoppedOrStuck, MayBecome, MayBecomeInService}
use Rattle.block_machine.specs.Events.{AbstractState, AbstractCall, AbstractCallResult, CallRecord, ShowsDisk, TimesOutAtTick, AnswersOkWhatHadEnded, UnpluggedOutcomeEmptiesPort, UnpluggedExcludesDeadAndSameDisk, AnswersService, RepliesMatch, admission_context_of, answers_of, reply_of}
use Rattle.block_machine.proofs.Members.{contains_none, contains_here, contains_cases, append_in, none_of}
use Rattle.block_machine.proofs.Counting.{issued_not_due}
use Rattle.block_machine.proofs.Setting.{client, on, port, frame, row, two_rows, request, empty, its_row, is_trim, IsFit, acceptable}

-- no evidence
abbrev pub none : Evidence
none = record { faults = []; lost = []; link_changed = []; showing_error = []; showing_fatal_error = []; stopped = []; stuck = [] }

abbrev pub mode : QueueMode
mode = record { queued = true; usable_slots = 32 }

-- port 0 in this state, and no other port
abbrev pub at_port : PortState → Port → PortState
at_port state p = cond (p.0 == 0) state Absent

abbrev pub ports_in : PortState → Ports
ports_in state = record { served = λ p. p.0 == 0; state = at_port state; serial = λ p. []; sectors = λ p. 200; zeroes_after_trim = λ p. true; mode = λ p. mode }

abbrev pub ports : Ports
ports = ports_in Ready

abbrev pub first : AbstractState
first = record { machine = empty; ports = ports }

abbrev pub id : ℕ → RequestId
id n = record { 0 = n }

abbrev pub call : AbstractCall (Unit {0}) → AbstractCallResult → List Step → CallRecord (Unit {0})
call ask said steps = record { call = ask; result = said; evidence = none; steps = steps; ports = ports }

abbrev pub reply : ℕ → Reply
reply n = record { id = id n; client = client; outcome = outcome.Ok }

-- a request of one sector of a port, with its frame's bytes at a moment
abbrev pub one_sector : ℕ → Machine → ℕ → Op → ℕ → ℕ → Accepted
one_sector p m n op sector f = record { id = id n; port = on p; asked = request p op sector 1 (frame f ∷ []); blocks_at_acceptance = block_of m.memory (frame f ∷ []) }

-- the same of sector 100 of port 0
abbrev pub sector_request : Machine → ℕ → Op → ℕ → Accepted
sector_request m n op f = one_sector 0 m n op 100 f

-- a request of one sector that is touched, ended and answered
abbrev pub done : Accepted → Pending
done r = mark_ended (touch 0 (newly_issued (newly_accepted r)))

abbrev pub served : Accepted → List Step
served r = Answer (done r) outcome.Ok ∷ End (touch 0 (newly_issued (newly_accepted r))) ∷ Touch (newly_issued (newly_accepted r)) 0 (r.blocks_at_acceptance 0) ∷ []

-- What holds of the parts.

-- a frame of the client that is lent to none
pub is_open : (m : Machine) (n offset count : ℕ) → m.owner (frame n) ≡ Some client → m.lent (frame n) ≡ None → offset + count ≤ 4096 → MayAccessFrame m.owner m.lent client (frame n) offset count
is_open m n offset count own free fits fault.FrameForeign h = h own
is_open m n offset count own free fits fault.FrameLent h = false≢true (sym (ap is_some free) ∙ h)
is_open m n offset count own free fits fault.OutsideFrame h = omega (arith, fits, h)

-- a moment of a run at which the client may ask for more of the port of this number
pub record IsQuiet (p : ℕ) (m : AbstractState) : Type 0 where
  pub rows : m.machine.rows ≡ two_rows
  pub mine : Contains two_rows (row p)
  pub ready : m.ports.state (on p) ≡ Ready
  pub size : m.ports.sectors (on p) ≡ 200
  pub room : (admission_context_of m).unanswered_count client < MOST_UNANSWERED_OF_A_CLIENT
  pub few : m.machine.next_id ≤ 5

pub row_zero : Contains two_rows (row 0)
row_zero = contains_here (row 0) (row 1 ∷ []) (row 0) refl

-- a request of one sector is fit there
pub fit_sector : (p : ℕ) (m : AbstractState) (op : Op) (k n : ℕ) → IsQuiet p m → op ≢ Trim → op ≢ Flush → frame_count_for op 1 ≡ 1 → IsAllowedCount op 1 → AllowsOp (row p).rights op → 100 ≤ k → k < 164
    → m.machine.owner (frame n) ≡ Some client → m.machine.lent (frame n) ≡ None → IsFit p (admission_context_of m) (request p op k 1 (frame n ∷ []))
fit_sector p m op k n q no_trim no_flush frames count allowed from to own free = record {
  rows = q.rows;
  mine = q.mine;
  client_is = refl;
  grant = refl;
  allowed = allowed;
  count = count;
  covered = λ _. (from, omega (arith, to));
  frames = sym frames;
  single = omega arith;
  owned = λ f e. ap m.machine.owner (same f e) ∙ own;
  free = λ f e. ap m.machine.lent (same f e) ∙ free;
  ready = q.ready;
  on_disk = λ _. let size = q.size in omega (arith, size, to);
  no_trim = no_trim;
  few = q.room;
  ids = let few = q.few in omega (arith, few);
}
  where
    same : (f : Frame) → slice_get (frame n ∷ []) 0 ≡ Some f → f ≡ frame n
    same f e = sym (get_or_from_slice_get (frame n ∷ []) 0 f f e)

pub write_at : (p : ℕ) (m : AbstractState) (k n : ℕ) → IsQuiet p m → 100 ≤ k → k < 164 → m.machine.owner (frame n) ≡ Some client → m.machine.lent (frame n) ≡ None → IsFit p (admission_context_of m) (request p Write k 1 (frame n ∷ []))
write_at p m k n q from to own free = fit_sector p m Write k n q (λ e. false≢true (ap is_trim e)) (λ e. false≢true (ap is_flush e)) refl (omega arith, omega arith) refl from to own free

pub fit_write : (m : AbstractState) (n : ℕ) → IsQuiet 0 m → m.machine.owner (frame n) ≡ Some client → m.machine.lent (frame n) ≡ None → IsFit 0 (admission_context_of m) (request 0 Write 100 1 (frame n ∷ []))
fit_write m n q own free = write_at 0 m 100 n q (omega arith) (omega arith) own free

pub fit_read : (p : ℕ) (m : AbstractState) (n : ℕ) → IsQuiet p m → m.machine.owner (frame n) ≡ Some client → m.machine.lent (frame n) ≡ None → IsFit p (admission_context_of m) (request p Read 100 1 (frame n ∷ []))
fit_read p m n q own free = fit_sector p m Read 100 n q (λ e. false≢true (ap is_trim e)) (λ e. false≢true (ap is_flush e)) refl (omega arith, omega arith) refl (omega arith) (omega arith) own free

pub fit_flush : (m : AbstractState) → IsQuiet 0 m → IsFit 0 (admission_context_of m) (request 0 Flush 0 0 [])
fit_flush m q = record {
  rows = q.rows;
  mine = q.mine;
  client_is = refl;
  grant = refl;
  allowed = refl;
  count = refl;
  covered = λ ne. absurd (ne refl);
  frames = refl;
  single = omega arith;
  owned = λ f e. absurd (nothing f e);
  free = λ f e. absurd (nothing f e);
  ready = q.ready;
  on_disk = λ ne. absurd (ne refl);
  no_trim = λ e. false≢true (ap is_trim e);
  few = q.room;
  ids = let few = q.few in omega (arith, few);
}
  where
    nothing : (f : Frame) → slice_get [] 0 ≡ Some f → ⊥
    nothing f e = let lt = slice_get_within [] 0 f e in omega (arith, lt)

-- a fit request is new to the machine
pub new : (p : ℕ) (m : AbstractState) (a : Accepted) → IsQuiet p m → IsFit p (admission_context_of m) a.asked → a.id.0 ≡ m.machine.next_id → a.port ≡ on p → a.blocks_at_acceptance ≡ block_of m.machine.memory a.asked.frames.items → MayAccept m.machine a
new p m a q fit next here held = record {
  id_is_next = next;
  an_id_is_left = let few = q.few in omega (arith, few);
  breaks_no_rule = λ rule h. acceptable p (admission_context_of m) a.asked fit (refused.Rule rule) h;
  port_is_of_its_row = λ r h. here ∙ ap (λ (x : GrantRow). x.port) (sym (its_row r (subst (λ (xs : List GrantRow). Contains xs r) q.rows h.0) ∙ ap row (h.1.1 ∙ fit.grant)));
  client_has_room = let none = fit.few in subst (λ c. (admission_context_of m).unanswered_count c < MOST_UNANSWERED_OF_A_CLIENT) (sym fit.client_is) none;
  blocks_are_in_memory = held;
}

-- no request of a book is due where all are issued
pub none_waits : (us : List Unanswered) → list_any (λ u. not u.issued) us ≡ false → (p : Port) → NoneDue mode us p
none_waits us all p r here due = issued_not_due mode us r (is_issued r.issued (none_of (λ u. not u.issued) us r all due.is_in_book)) due
  where
    is_issued : (b : Bool) → not b ≡ false → b ≡ true
    is_issued true e = refl
    is_issued false e = sym e

-- as of the one request of a book, or where there is none
pub one_issued : (u : Unanswered) → u.issued ≡ true → (p : Port) → NoneDue mode (u ∷ []) p
one_issued u issued p = none_waits (u ∷ []) (or_from _ _ (ap not issued) refl) p

pub none_there : (p : Port) → NoneDue mode [] p
none_there p r here due = contains_none r due.is_in_book

-- an only answer is told
pub one_told : (e : Pending) (o : Outcome) (steps : List Step) → answers_of steps ≡ (e, o) ∷ [] → (r : Reply) → r ≡ reply_of (e, o) → RepliesMatch steps (r ∷ [])
one_told e o steps only r is = record {
  answers = (e, o) ∷ [];
  is_permutation = subst (λ xs. IsPermutation ((e, o) ∷ []) xs) (sym only) (IsPermutation-refl _);
  ordered = λ i j d lt below. absurd (omega (arith, lt, below));
  replies_are_of_answers = ap (λ (x : Reply). x ∷ []) is;
}

pub none_told : (steps : List Step) → answers_of steps ≡ [] → RepliesMatch steps []
none_told steps only = record {
  answers = [];
  is_permutation = subst (λ xs. IsPermutation [] xs) (sym only) (IsPermutation-refl _);
  ordered = λ i j d lt below. absurd (omega (arith, lt, below));
  replies_are_of_answers = refl;
}

pub one_touched : (i : ℕ) → i < 1 → ((i == 0) || false) ≡ true
one_touched i lt = or_left _ _ (eq-eqb i 0 (omega arith))

abbrev pub is_unfit : PortState → Bool
is_unfit (Unfit cause) = true
is_unfit _ = false

pub ports_fit : (state : PortState) → is_unfit state ≡ false → PortsWellFormed (ports_in state)
ports_fit state known = record {
  served_are_ports_0_to_3 = λ p e. let zero = eqb-true p.0 0 e in omega (arith, zero);
  unserved_are_absent = λ p e. cond-false (p.0 == 0) state Absent e;
  modes_are_valid = λ p e. (omega arith, omega arith, λ f. absurd (false≢true (sym f)));
  causes_are_valid = λ p cause e. go cause (p.0 == 0) e;
}
  where
    go : (cause : ℕ) (b : Bool) → cond b state Absent ≡ Unfit cause → (1 ≤ cause) × (cause ≤ 9)
    go cause true e = absurd (false≢true (sym known ∙ ap is_unfit e))
    go cause false e = absurd (false≢true (ap is_unfit e))

-- where port 0 is in a state, and where another is
pub at_here : (state : PortState) (p : Port) → (p.0 == 0) ≡ true → at_port state p ≡ state
at_here state p e = cond-true (p.0 == 0) state Absent e

abbrev pub is_ready : PortState → Bool
is_ready Ready = true
is_ready _ = false

abbrev pub is_dead : PortState → Bool
is_dead Dead = true
is_dead _ = false

pub ready_here : (p : Port) → at_port Ready p ≡ Ready → (p.0 == 0) ≡ true
ready_here p e = go (p.0 == 0) e
  where
    go : (b : Bool) → cond b Ready Absent ≡ Ready → b ≡ true
    go true e = refl
    go false e = absurd (false≢true (ap is_ready e))

-- the ready port is port 0
pub ready_port : (p : Port) → at_port Ready p ≡ Ready → p ≡ port
ready_port p e = ap (λ (n : ℕ). record { 0 = n }) (eqb-true p.0 0 (ready_here p e))

-- where port 0 is absent, so are all
pub absent_not_ready : {A : Type 0} (p : Port) → at_port Absent p ≡ Ready → A
absent_not_ready {A} p e = go (p.0 == 0) e
  where
    go : (b : Bool) → cond b Absent Absent ≡ Ready → A
    go true e = absurd (false≢true (ap is_ready e))
    go false e = absurd (false≢true (ap is_ready e))

pub absent_not_dead : {A : Type 0} (p : Port) → at_port Absent p ≡ Dead → A
absent_not_dead {A} p e = go (p.0 == 0) e
  where
    go : (b : Bool) → cond b Absent Absent ≡ Dead → A
    go true e = absurd (false≢true (ap is_dead e))
    go false e = absurd (false≢true (ap is_dead e))

-- no port is dead in most calls
pub none_dead : {A : Type 0} (p : Port) → at_port Ready p ≡ Dead → A
none_dead {A} p e = go (p.0 == 0) e
  where
    go : (b : Bool) → cond b Ready Absent ≡ Dead → A
    go true e = absurd (false≢true (ap is_dead e))
    go false e = absurd (false≢true (ap is_dead e))

-- and in them no port changes
pub serviced : (p : Port) → MayBecomeInService ports none ports p
serviced p = (
  λ dead. none_dead p dead,
  λ _. (
    record { served_is_unchanged = refl; dead_exactly_if_stuck = (λ e. none_dead p e, λ h. absurd (contains_none p h)); disk_is_remembered_unless_ready = λ _. (refl, refl) },
    inl (refl, refl, refl, refl, refl, refl),
  ),
)

-- a state of port 0 that shows no disk shows none at any port
pub shows_none : {A : Type 0} (state : PortState) → (ShowsDisk state → ⊥) → (p : Port) → ShowsDisk (at_port state p) → A
shows_none {A} state none p shows = go (p.0 == 0) shows
  where
    go : (b : Bool) → ShowsDisk (cond b state Absent) → A
    go true s = absurd (none s)
    go false s = absurd s

-- where port 0 was interrupted, the others are what they were
pub changed_here : (old new : PortState) (evidence : Evidence) → IsStoppedOrStuck evidence port → (p : Port) → SamePort (ports_in old) (ports_in new) p ⊎ IsStoppedOrStuck evidence p
changed_here old new evidence here p = go (p.0 == 0) refl
  where
    go : (b : Bool) → (p.0 == 0) ≡ b → SamePort (ports_in old) (ports_in new) p ⊎ IsStoppedOrStuck evidence p
    go true e = inr (subst (λ (x : Port). IsStoppedOrStuck evidence x) (sym (ap (λ (n : ℕ). record { 0 = n }) (eqb-true p.0 0 e))) here)
    go false e = inl (refl, cond-false (p.0 == 0) new Absent e ∙ sym (cond-false (p.0 == 0) old Absent e), refl, refl, refl, refl)

-- a port that no call got stuck stays ready
pub stay_ready : (evidence : Evidence) → evidence.stuck ≡ [] → (p : Port) → MayBecome ports evidence ports p
stay_ready evidence none p = record {
  served_is_unchanged = refl;
  dead_exactly_if_stuck = (λ dead. none_dead p dead, λ h. absurd (contains_none p (subst (λ (stuck : List Port). Contains stuck p) none h)));
  disk_is_remembered_unless_ready = λ _. (refl, refl);
}

-- what a tick makes of each port where port 0 is hung: that becomes what it may, in this state, and the others stay as they are
pub restarts_into : (m : Machine) (state : PortState) (evidence : Evidence) → TimesOutAtTick (record { machine = m; ports = ports }) port → ((p : Port) → MayBecome ports evidence (ports_in state) p)
    → (p : Port) → ((TimesOutAtTick (record { machine = m; ports = ports }) p → ⊥) × SamePort ports (ports_in state) p) ⊎ (TimesOutAtTick (record { machine = m; ports = ports }) p × MayBecome ports evidence (ports_in state) p)
restarts_into m state evidence hung becomes p = go (p.0 == 0) refl
  where
    old : AbstractState
    old = record { machine = m; ports = ports }

    go : (b : Bool) → (p.0 == 0) ≡ b → ((TimesOutAtTick old p → ⊥) × SamePort ports (ports_in state) p) ⊎ (TimesOutAtTick old p × MayBecome ports evidence (ports_in state) p)
    go true e = inr (subst (λ (x : Port). TimesOutAtTick old x) (sym (ap (λ (n : ℕ). record { 0 = n }) (eqb-true p.0 0 e))) hung, becomes p)
    go false e = inl (
      λ h. false≢true (sym e ∙ eq-eqb p.0 0 (ap (λ (x : Port). x.0) (ready_port p h.ready))),
      (refl, cond-false (p.0 == 0) state Absent e ∙ sym (cond-false (p.0 == 0) Ready Absent e), refl, refl, refl, refl),
    )

-- a tick that restarts port 0 and finds it ready again
pub restarts_here : (m : Machine) (evidence : Evidence) → evidence.stuck ≡ [] → TimesOutAtTick (record { machine = m; ports = ports }) port
    → (p : Port) → ((TimesOutAtTick (record { machine = m; ports = ports }) p → ⊥) × SamePort ports ports p) ⊎ (TimesOutAtTick (record { machine = m; ports = ports }) p × MayBecome ports evidence ports p)
restarts_here m evidence none hung = restarts_into m Ready evidence hung (stay_ready evidence none)

-- What a service does where it has nothing to do but to answer.

abbrev pub is_unplugged : Step → Bool
is_unplugged (Answer e outcome.Unplugged) = true
is_unplugged _ = false

pub never_unplugged : {A : Type 0} (steps : List Step) → list_any is_unplugged steps ≡ false → (e : Pending) → Contains steps (Answer e outcome.Unplugged) → A
never_unplugged steps none e h = absurd (false≢true (sym (none_of is_unplugged steps (Answer e outcome.Unplugged) none h)))

pub none_unplugged : (steps : List Step) (m : Machine) → list_any is_unplugged steps ≡ false → UnpluggedOutcomeEmptiesPort steps m
none_unplugged steps m none = record {
  none_is_left = λ e other h i. never_unplugged steps none e h;
  none_is_told_dead = λ e other h i. never_unplugged steps none e h;
}

pub finds_none : (steps : List Step) (old new : Ports) → list_any is_unplugged steps ≡ false → UnpluggedExcludesDeadAndSameDisk steps old new
finds_none steps old new none e h = never_unplugged steps none e h

-- the step tells that a port is dead
abbrev pub is_told_dead : Step → Bool
is_told_dead (Answer e outcome.PortDead) = true
is_told_dead _ = false

pub none_ended : (m : Machine) (steps : List Step) → list_any (λ e. e.ended) m.book ≡ false → (p : Port) → AnswersOkWhatHadEnded m steps p
none_ended m steps none p e h here ended = absurd (false≢true (sym (none_of (λ (x : Pending). x.ended) m.book e none h) ∙ ended))

-- what had ended is the last of the book, which is answered
pub last_ended : (m : Machine) (steps : List Step) (others : List Pending) (one : Pending) → m.book ≡ others ++ one ∷ [] → list_any (λ e. e.ended) others ≡ false
    → (done : Pending) → done.request ≡ one.request → Contains steps (Answer done outcome.Ok) → (p : Port) → AnswersOkWhatHadEnded m steps p
last_ended m steps others one is none done same told p e h here ended = ⊎_elim
    (λ h. absurd (false≢true (sym (none_of (λ (x : Pending). x.ended) others e none h) ∙ ended)))
    (λ (q : e ≡ one). (done, same ∙ ap (λ (x : Pending). x.request) (sym q), told))
    (append_in others one e (subst (λ (es : List Pending). Contains es e) is h))

-- a book of this port's requests has none of a port that isn't ready
pub emptied_of : (book : List Pending) → ((e : Pending) → Contains book e → e.request.port ≡ port) → (p : Port) → at_port Ready p ≢ Ready → (e : Pending) → Contains book e → e.request.port ≢ p
emptied_of book mine p ne e h q = ne (subst (λ (x : Port). at_port Ready x ≡ Ready) (sym (mine e h) ∙ q) refl)

-- a service with no evidence, of a server whose one port stays ready
pub plain_service : (old new : Machine) (steps : List Step) (replies : List Reply) → RepliesMatch steps replies → list_any is_unplugged steps ≡ false
    → ((p : Port) → AnswersOkWhatHadEnded old steps p) → ((p : Port) → NoneDue mode (map unanswered new.book) p) → ((e : Pending) → Contains new.book e → e.request.port ≡ port)
    → AnswersService (record { machine = old; ports = ports }) none steps replies (record { machine = new; ports = ports })
plain_service old new steps replies tells plugged ended issues mine = record {
  replies_match = tells;
  dead_ports_tell_only_port_dead = λ e o h dead. none_dead e.request.port dead;
  unplugged_outcome_empties_port = none_unplugged steps new plugged;
  none_is_due_where_ready = λ p _. issues p;
  empty_unless_ready = emptied_of new.book mine;
  answers_ok_what_had_ended = λ p _. ended p;
  port_is_serviced = serviced;
  shown_disk_was_in_or_came = λ p. inl (refl, refl, refl, refl, refl, refl);
}

-- of the one request of a book, or of none
pub only_one : (one : Pending) (P : Pending → Type 0) → P one → (e : Pending) → Contains (one ∷ []) e → P e
only_one one P a e h = ⊎_elim (λ (same : e ≡ one). subst P (sym same) a) (λ n. absurd (contains_none e n)) (contains_cases one [] e h)

-- of the two requests of a book
pub of_two : (a b : Pending) (P : Pending → Type 0) → P a → P b → (e : Pending) → Contains (a ∷ b ∷ []) e → P e
of_two a b P x y e h = ⊎_elim
    (λ (same : e ≡ a). subst P (sym same) x)
    (λ i. only_one b P y e i)
    (contains_cases a (b ∷ []) e h)

-- where a port is ready, one request of it is no other port's
pub emptied_at : (state : Port → PortState) (one : Pending) → state one.request.port ≡ Ready → (p : Port) → state p ≢ Ready → (e : Pending) → Contains (one ∷ []) e → e.request.port ≢ p
emptied_at state one ready p ne e h q = ⊎_elim
    (λ (same : e ≡ one). ne (subst (λ (x : Port). state x ≡ Ready) (ap (λ (x : Pending). x.request.port) (sym same) ∙ q) ready))
    (λ n. contains_none e n)
    (contains_cases one [] e h)

pub emptied_one : (one : Pending) → at_port Ready one.request.port ≡ Ready → (p : Port) → at_port Ready p ≢ Ready → (e : Pending) → Contains (one ∷ []) e → e.request.port ≢ p
emptied_one one ready = emptied_at (at_port Ready) one ready
