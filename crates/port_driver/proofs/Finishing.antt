-- Requests of a ready port are answered whose commands are over: what is asked of the calls, and what the server then is.
use Rattle.std.proofs.Common.{ℕ, zero, suc, Bool, true, false, not, cond, ◌≡◌, ◌≢◌, ◌<◌, ◌≤◌, ◌++◌, List, [], ◌∷◌, map, length, Some, None, refl, sym, ap, ◌∙◌, subst, arith, get_or, set, eq-eqb, append_assoc, ⊎_elim}
use Rattle.std.specs.List.{All, AllPairs, Contains}
use Rattle.std.specs.Prelude.{◌↔◌, Option}
use Rattle.std.specs.Int.{bit_at}
use Rattle.std.proofs.lemmas.Bool.{cases_eq, eqb-true}
use Rattle.std.proofs.lemmas.List.{append-nil, get_or-set_same, get_or-set_other, map_push, set-get_or, set-set}
use Rattle.std.proofs.lemmas.List.Elements.{All-push}
use Rattle.std.proofs.lemmas.List.Quantifiers.{all_pairs_push}
use Rattle.ata_types.specs.declared.Port.{Port}
use Rattle.ata_types.specs.declared.PortState.TheVariants.{Ready}
use Rattle.ata_types.specs.declared.request.Outcome.TheVariants.{Ok}
use Rattle.ata_types.specs.declared.request.Reply.{Reply}
use Rattle.ata_types.specs.declared.request.RequestId.{RequestId}
use Rattle.hba_regs.specs.Bits.{bit}
use Rattle.adapter.specs.Device.{Device}
use Rattle.block_machine.specs.declared.due.QueueMode.{QueueMode}
use Rattle.adapter.specs.OneCommand.{SlotHasNoCommand}
use Rattle.port_driver.specs.LentSlots.{AnswersDoneSlots, AnswersSlot, HasPortToIssue, HasPortToAnswer, with_answers, with_port_slots}
use Rattle.dma_frames.specs.FrameTables.{SetsLoanOnly, OwnersAndLoans}
use Rattle.host_boot.specs.TakeOver.{probe_result_of}
use Rattle.host_boot.specs.declared.ProbeResult.{ProbeResult}
use Rattle.request_queue.specs.BookEntries.{BookEntry, IsEarlier, BookIsWellFormed, has_id, without_entry}
use Rattle.server_history.specs.IssuingAndAnswering.{AnswersDoneAndIssues, AnswersEach, AnswersOne, IssuesDueOfPort, done_reply}
use Rattle.server_history.specs.ServerState.{ServerState, InCallInvariant, mode_in, no_slots, state_of, used_for}
use Rattle.slots.specs.SlotUses.{PortSlots, HasLeastId, use_at, with_use}
use Rattle.slots.specs.declared.SlotUse.{SlotUse}
use Rattle.port_driver.proofs.Sending.{ready_listed, ready_there}

-- each slot that is used has a request
abbrev pub HaveRequests : Type 0
HaveRequests = (s : ServerState) (port : Port) (slot : ℕ) (used : SlotUse) → InCallInvariant s → state_of (probe_result_of s.probe_results port.0) ≡ Ready → used_for s.slots port.0 slot ≡ Some used
    → (request : BookEntry) × Contains s.book request × (request.request.id ≡ used.id) × (request.request.port ≡ port) × (request.request.issued ≡ true)

-- an id is one request's
abbrev pub IdsDiffer : Type 0
IdsDiffer = (entries : List BookEntry) (a b : BookEntry) → BookIsWellFormed entries → Contains entries a → Contains entries b → a.request.id ≡ b.request.id → a ≡ b

-- a server goes on while one is answered
abbrev pub AnswersKeep : Type 0
AnswersKeep = (s new : ServerState) (port : Port) (request : BookEntry) → InCallInvariant s → state_of (probe_result_of s.probe_results port.0) ≡ Ready
    → (one : AnswersOne port request s new) → SlotHasNoCommand (s.device.port port.0) one.slot → InCallInvariant new

-- what is left of a book once the request with this id is taken out
abbrev pub LeavesOtherPortsGrantsAndLastId : Type 0
LeavesOtherPortsGrantsAndLastId = (entries : List BookEntry) (id : RequestId) (e : BookEntry) → Contains (without_entry id entries) e ↔ (Contains entries e × (e.request.id ≢ id))

-- ---- a book without a request

-- where one stands in front, or not
either : (b : Bool) (x : BookEntry) (xs : List BookEntry) → length (cond b (x ∷ xs) xs) ≤ suc (length xs)
either true x xs = omega arith
either false x xs = omega arith

left : (id : RequestId) (book : List BookEntry) → length (without_entry id book) ≤ length book
left id [] = omega arith
left id (x ∷ xs) = let e = either (not (has_id id x)) x (without_entry id xs) in let l = left id xs in omega (arith, e, l)

shorter_at : (id : RequestId) (book : List BookEntry) (place : ℕ) (d : BookEntry) → place < length book → has_id id (get_or book place d) ≡ true → length (without_entry id book) < length book
shorter_at id [] place d low is = absurd (omega (arith, low))
shorter_at id (x ∷ xs) zero d low is =
    let l = left id xs in
    let same : length (without_entry id (x ∷ xs)) ≡ length (without_entry id xs) = ap (λ (b : Bool). length (cond (not b) (x ∷ without_entry id xs) (without_entry id xs))) is in
    omega (arith, l, same)
shorter_at id (x ∷ xs) (suc place) d low is =
    let e = either (not (has_id id x)) x (without_entry id xs) in
    let l = shorter_at id xs place d (omega (arith, low)) is in
    omega (arith, e, l)

-- it is shorter
pub shorter : (id : RequestId) (book : List BookEntry) (e : BookEntry) → Contains book e → e.request.id ≡ id → length (without_entry id book) < length book
shorter id book e here same =
    shorter_at id book here.0 e here.1 (ap (has_id id) here.2 ∙ eq-eqb e.request.id.0 id.0 (ap (λ (i : RequestId). i.0) same))

-- ---- one request

module _ (s : ServerState) (table : OwnersAndLoans) (book : List BookEntry) (slots : PortSlots) (port : Port) (done : ℕ) (l : HasPortToAnswer s table book slots port done) where
  -- what is lent is where it was
  pub answers_same : with_answers s table book slots port ≡ s
  answers_same =
      (λ i. record s { table = sym l.table_is i; slots = set s.slots port.0 (sym l.slots_are i); book = sym l.book_is i })
      ∙ ap (λ (list : List PortSlots). record s { slots = list }) (set-get_or s.slots port.0 no_slots)

  pub answers_again : (t : OwnersAndLoans) (b : List BookEntry) (u : PortSlots) (t' : OwnersAndLoans) (b' : List BookEntry) (u' : PortSlots)
      → with_answers (with_answers s t b u port) t' b' u' port ≡ with_answers s t' b' u' port
  answers_again t b u t' b' u' = ap (λ (list : List PortSlots). record s { table = t'; slots = list; book = b' }) (set-set s.slots port.0 u u')

  -- other parts in its place
  pub lends_then : (t : OwnersAndLoans) (b : List BookEntry) (u : PortSlots) → InCallInvariant (with_answers s t b u port) → HasPortToAnswer (with_answers s t b u port) t b u port done
  lends_then t b u kept = record {
    in_call_invariant = kept;
    ready = l.ready;
    table_is = refl;
    book_is = refl;
    slots_are = get_or-set_same s.slots port.0 u no_slots (ready_listed s port l.in_call_invariant l.ready);
    over = l.over;
  }

  module _ (have : HaveRequests) (slot : ℕ) (used : SlotUse) (taken : use_at slots slot ≡ Some used) where
    served : used_for s.slots port.0 slot ≡ Some used
    served = ap (λ (u : PortSlots). use_at u slot) l.slots_are ∙ taken

    its : (request : BookEntry) × Contains book request × (request.request.id ≡ used.id) × (request.request.port ≡ port)
    its = let x = have s port slot used l.in_call_invariant l.ready served in (x.0, subst (λ (b : List BookEntry). Contains b x.0) l.book_is x.1, x.2, x.3)

    pub unanswered : (request : BookEntry) × Contains book request × (request.request.id ≡ used.id)
    unanswered = (its.0, its.1, its.2)

    -- this one was taken out of the book, its frames were given back, and its slot is free
    pub answered : IdsDiffer → slot < 32 → (e : BookEntry) → Contains book e → e.request.id ≡ used.id → (new : OwnersAndLoans) → SetsLoanOnly table new e.frames None
        → (later : List BookEntry) → later ≡ without_entry used.id book → (u : PortSlots) → u ≡ with_use slots slot None → AnswersSlot port slot (record { id = used.id; client = e.request.client; outcome = Ok }) s (with_answers s new later u port)
    answered one small e here id_is new lent later later_is u freed = record {
      request = e;
      answers = record {
        is_in_book = subst (λ (b : List BookEntry). Contains b e) (sym l.book_is) here;
        port_is = subst (λ (x : BookEntry). x.request.port ≡ port) (one book its.0 e (subst BookIsWellFormed l.book_is l.in_call_invariant.book_is_well_formed) its.1 here (its.2 ∙ sym id_is)) its.3;
        slot = slot;
        slot_is_below_32 = small;
        used = used;
        slot_use_is = served;
        id_is = sym id_is;
        lends_only = subst (λ (t : OwnersAndLoans). SetsLoanOnly t new e.frames None) (sym l.table_is) lent;
        server_is = λ i. record s {
          table = new;
          slots = set s.slots port.0 ((freed ∙ ap (λ (x : PortSlots). with_use x slot None) (sym l.slots_are)) i);
          book = (later_is ∙ ap (λ (b : List BookEntry). without_entry used.id b) (sym l.book_is) ∙ ap (λ (i : RequestId). without_entry i s.book) (sym id_is)) i;
        };
      };
      slot_is = refl;
      reply_is = ap (λ (i : RequestId). record { id = i; client = e.request.client; outcome = Ok }) (sym id_is);
    }

-- ---- one after another

-- one more was answered, after those
each_more : (port : Port) (done : ℕ) (requests : List BookEntry) (old mid new : ServerState) (e : BookEntry) → AnswersEach port done requests old mid → (one : AnswersOne port e mid new) → bit done one.slot ≡ true
    → AnswersEach port done (requests ++ e ∷ []) old new
each_more port done [] old mid new e each one its_bit =
    subst (λ (from : ServerState). AnswersEach port done (e ∷ []) from new) each (new, one, its_bit, refl)
each_more port done (x ∷ xs) old mid new e each one its_bit = (each.0, each.1, each.2, each_more port done xs each.0 mid new e each.3 one its_bit)

-- each of these was accepted before the request
abbrev pub AllBefore : List BookEntry → RequestId → Type 0
AllBefore requests id = All (λ e. e.request.id.0 < id.0) requests

-- the id that a slot is used for
abbrev id_of : Option SlotUse → RequestId
id_of None = record { 0 = 0 }
id_of (Some used) = used.id

is_none : {used : SlotUse} → None ≡ Some used → ⊥
is_none same = cc

-- What was answered so far of what was found done: what is still to be answered comes after it.
pub record AnswersSome (port : Port) (done : ℕ) (before after : List Reply) (old new : ServerState) (table : OwnersAndLoans) (book : List BookEntry) (slots : PortSlots) : Type 0 where
  pub requests : List BookEntry
  pub told : after ≡ before ++ map done_reply requests
  pub ordered : AllPairs IsEarlier requests
  pub each : AnswersEach port done requests old new
  pub lends : HasPortToAnswer new table book slots port done
  pub later : (slot : ℕ) (used : SlotUse) → slot < 32 → bit done slot ≡ true → use_at slots slot ≡ Some used → AllBefore requests used.id

-- none, at first
pub none_answered : (s : ServerState) (table : OwnersAndLoans) (book : List BookEntry) (slots : PortSlots) (port : Port) (done : ℕ) → HasPortToAnswer s table book slots port done → (before : List Reply)
    → AnswersSome port done before before s (with_answers s table book slots port) table book slots
none_answered s table book slots port done l before = record {
  requests = [];
  told = sym (append-nil before);
  ordered = λ i j d lt low. absurd (omega (arith, low));
  each = answers_same s table book slots port done l;
  lends = subst (λ (x : ServerState). HasPortToAnswer x table book slots port done) (sym (answers_same s table book slots port done l)) l;
  later = λ slot used small its_bit taken k d low. absurd (omega (arith, low));
}

-- all, once no slot of it is used
pub all_answered : (port : Port) (done : ℕ) (before after : List Reply) (old new : ServerState) (table : OwnersAndLoans) (book : List BookEntry) (slots : PortSlots) → AnswersSome port done before after old new table book slots
    → ((slot : ℕ) → slot < 32 → bit_at done slot ≡ 1 → use_at slots slot ≡ None) → AnswersDoneSlots port done before after old new
all_answered port done before after old new table book slots some none = record {
  requests = some.requests;
  replies_are_appended = some.told;
  ordered = some.ordered;
  answers_each = some.each;
  done_slots_are_free = λ slot small its_bit. ap (λ (u : PortSlots). use_at u slot) some.lends.slots_are ∙ none slot small (eqb-true (bit_at done slot) 1 its_bit);
}

-- the earliest of those that are left is answered
module _ (have : HaveRequests) (keep : AnswersKeep) (leaves : LeavesOtherPortsGrantsAndLastId) (port : Port) (done : ℕ) (before after : List Reply) (old s : ServerState) (table : OwnersAndLoans) (book : List BookEntry) (slots : PortSlots)
    (some : AnswersSome port done before after old s table book slots) (slot : ℕ) (earliest : HasLeastId slots done slot)
    (reply : Reply) (t : OwnersAndLoans) (b : List BookEntry) (u : PortSlots) (answers : AnswersSlot port slot reply s (with_answers s t b u port)) (freed : u ≡ with_use slots slot None) where
  abbrev new : ServerState
  new = with_answers s t b u port

  abbrev e : BookEntry
  e = answers.request

  its_bit : bit done slot ≡ true
  its_bit = eq-eqb (bit_at done slot) 1 earliest.mask_has_slot

  kept : InCallInvariant new
  kept = keep s new port e some.lends.in_call_invariant some.lends.ready answers.answers
      (subst (SlotHasNoCommand (s.device.port port.0)) (sym answers.slot_is) (some.lends.over slot earliest.slot_in_range its_bit))

  -- the slot is used for the request
  id_is : earliest.slot_use.id ≡ e.request.id
  id_is =
      ap id_of (sym earliest.use_is ∙ ap (λ (u : PortSlots). use_at u slot) (sym some.lends.slots_are) ∙ ap (λ (n : ℕ). used_for s.slots port.0 n) (sym answers.slot_is) ∙ answers.answers.slot_use_is)
      ∙ answers.answers.id_is

  -- what is used then was used before, for a later one
  module _ (k : ℕ) (small : k < 32) (marked : bit done k ≡ true) (used : SlotUse) (taken : use_at u k ≡ Some used) where
    was : use_at slots k ≡ Some used
    was = ⊎_elim
        (λ (same : k ≡ slot). absurd (is_none (sym (gone same) ∙ taken)))
        (λ (other : k ≢ slot). sym (get_or-set_other slots.slot_uses slot k None None other) ∙ ap (λ (x : PortSlots). use_at x k) (sym freed) ∙ taken)
        (cases_eq k slot)
      where
        places : length slots.slot_uses ≡ 32
        places = ap (λ (x : PortSlots). length x.slot_uses) (sym some.lends.slots_are) ∙ (some.lends.in_call_invariant.slots_invariant port.0 (ready_there s port some.lends.in_call_invariant some.lends.ready).0).has_32_slots

        gone : k ≡ slot → use_at u k ≡ None
        gone same = ap (λ (n : ℕ). use_at u n) same ∙ ap (λ (x : PortSlots). use_at x slot) freed ∙ get_or-set_same slots.slot_uses slot None None (let p = places in let e = earliest.slot_in_range in omega (arith, p, e))

    differs : used.id ≢ e.request.id
    differs =
        let x = have new port k used kept some.lends.ready (ap (λ (x : PortSlots). use_at x k) (lends_then s table book slots port done some.lends t b u kept).slots_are ∙ taken) in
        let left : Contains (without_entry e.request.id s.book) x.0 = subst (λ (c : List BookEntry). Contains c x.0) (ap (λ (x : ServerState). x.book) answers.answers.server_is) x.1 in
        λ same. ((leaves s.book e.request.id x.0).0 left).1 (x.2 ∙ same)

    comes_later : e.request.id.0 < used.id.0
    comes_later =
        let least = earliest.least k used small (eqb-true (bit_at done k) 1 marked) was in
        let from = ap (λ (id : RequestId). id.0) id_is in
        ⊎_elim
        (λ (same : used.id.0 ≡ e.request.id.0). absurd (differs (ap (λ (n : ℕ). record { 0 = n }) same)))
        (λ (other : used.id.0 ≢ e.request.id.0). omega (arith, least, from, other))
        (cases_eq used.id.0 e.request.id.0)

  pub one_more : AnswersSome port done before (after ++ reply ∷ []) old new t b u
  one_more = record {
    requests = some.requests ++ e ∷ [];
    told = ap (λ (rs : List Reply). rs ++ reply ∷ []) some.told ∙ append_assoc before (map done_reply some.requests) (reply ∷ [])
        ∙ ap (λ (rs : List Reply). before ++ rs) (ap (λ (r : Reply). map done_reply some.requests ++ r ∷ []) answers.reply_is ∙ sym (map_push done_reply some.requests e));
    ordered = all_pairs_push IsEarlier some.requests e some.ordered
        (λ place d low. subst (λ (id : RequestId). (get_or some.requests place d).request.id.0 < id.0) id_is (some.later slot earliest.slot_use earliest.slot_in_range its_bit earliest.use_is place d low));
    each = each_more port done some.requests old s new e some.each answers.answers (subst (λ (n : ℕ). bit done n ≡ true) (sym answers.slot_is) its_bit);
    lends = lends_then s table book slots port done some.lends t b u kept;
    later = λ k used small marked taken.
        All-push (λ x. x.request.id.0 < used.id.0) some.requests e (some.later k used small marked (was k small marked used taken)) (comes_later k small marked used taken);
  }

-- ---- what was found done on the port

-- it was answered, and what is due then is issued
module _ (s : ServerState) (port : Port) (done : ℕ) (before after : List Reply) (table : OwnersAndLoans) (book : List BookEntry) (slots : PortSlots)
    (answers : AnswersDoneSlots port done before after s (with_answers s table book slots port)) (lent : HasPortToAnswer (with_answers s table book slots port) table book slots port done) where
  pub lends_on : (mode : QueueMode) → mode_in s port ≡ mode → (found : ProbeResult) → probe_result_of s.probe_results port.0 ≡ found → HasPortToIssue (with_answers s table book slots port) s.device book slots port mode found
  lends_on mode mode_is found found_is = record { in_call_invariant = lent.in_call_invariant; probe_result_is = found_is; device_is = refl; book_is = refl; slots_are = lent.slots_are; mode_is = mode_is }

  pub finishes : (device : Device) (later : List BookEntry) (u : PortSlots) → IssuesDueOfPort port (with_answers s table book slots port) (with_port_slots (with_answers s table book slots port) device later u port)
      → (number : ℕ) → number ≡ port.0 → AnswersDoneAndIssues port done (map done_reply answers.requests) s (record s { device = device; table = table; slots = set s.slots number u; book = later })
  finishes device later u issues number is = record {
    requests = answers.requests;
    replies_are = refl;
    ordered = answers.ordered;
    server_after_answers = with_answers s table book slots port;
    answers_each = answers.answers_each;
    done_slots_are_free = answers.done_slots_are_free;
    issued = subst (λ (n : ℕ). IssuesDueOfPort port (with_answers s table book slots port) (record s { device = device; table = table; slots = set s.slots n u; book = later })) (sym is)
        (subst (λ (list : List PortSlots). IssuesDueOfPort port (with_answers s table book slots port) (record s { device = device; table = table; slots = list; book = later })) (set-set s.slots port.0 slots u) issues);
  }
