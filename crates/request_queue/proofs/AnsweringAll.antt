-- Requests of a book that are answered one after another, all with one outcome: what comes of it at once, and that it may come.
use Rattle.std.proofs.Common.{ℕ, zero, suc, ◌≡◌, ◌≢◌, ◌<◌, Bool, true, false, not, filter, get_or, List, [], ◌∷◌, ◌++◌, map, set, Option, None, refl, sym, ap, ◌∙◌, subst, arith, inl, inr, ◌⊎◌, ⊎_elim, eq-eqb}
use Rattle.std.specs.List.{All, AllPairs, Contains}
use Rattle.std.proofs.lemmas.Bool.{cases_eq, cond-false, cond-true, ne_eqb}
use Rattle.std.proofs.lemmas.List.{get_or-set_other}
use Rattle.std.proofs.lemmas.List.Elements.{All-contains, All-cons, All-filter, All-contains_itself, All-nil}
use Rattle.std.proofs.lemmas.List.Kept.{AllPairs-filter}
use Rattle.ata_types.specs.declared.request.Frame.{Frame}
use Rattle.ata_types.specs.declared.request.Outcome.{Outcome}
use Rattle.ata_types.specs.declared.request.Reply.{Reply}
use Rattle.ata_types.specs.declared.request.RequestId.{RequestId}
use Rattle.dma_frames.specs.FrameTables.{SetsLoanOnly, OwnersAndLoans, lent_to}
use Rattle.request_queue.specs.BookEntries.{GivesBack, BookEntry, IsWellFormedEntry, IsEarlier, BookIsWellFormed, FramesAreLentToIt, has_id, without_entry}
use Rattle.request_queue.specs.Dispositions.{CompletesAllWith, KeepsOrEndsLoan, BookAndLoans, AreResolved, keeps_loan, reply_to}
use Rattle.request_queue.specs.declared.PendingRequest.{PendingRequest}
use Rattle.request_queue.specs.declared.disposition.Disposition.TheVariants.{Complete}
use Rattle.request_queue.proofs.Ending.{more_given, none_given, ordered_rest, stand_still}
use Rattle.request_queue.proofs.Members.{contains_cases, contains_here, contains_none, contains_there}

-- ---- the book

-- the requests but for these
abbrev withouts : List BookEntry → List BookEntry → List BookEntry
withouts [] book = book
withouts (e ∷ es) book = withouts es (without_entry e.request.id book)

-- one that is none of these stays first
stays_first : (es : List BookEntry) (x : BookEntry) (xs : List BookEntry) → ((e : BookEntry) → Contains es e → x.request.id.0 ≢ e.request.id.0) → withouts es (x ∷ xs) ≡ x ∷ withouts es xs
stays_first [] x xs other = refl
stays_first (e ∷ es) x xs other =
    ap (withouts es) (cond-true (not (has_id e.request.id x)) (x ∷ without_entry e.request.id xs) (without_entry e.request.id xs) (ap not (ne_eqb x.request.id.0 e.request.id.0 (other e (contains_here e es e refl)))))
    ∙ stays_first es x (without_entry e.request.id xs) (λ y there. other y (contains_there e es y there))

-- none has the id
none_without : (id : RequestId) (xs : List BookEntry) → ((x : BookEntry) → Contains xs x → x.request.id.0 ≢ id.0) → without_entry id xs ≡ xs
none_without id [] other = refl
none_without id (x ∷ xs) other =
    cond-true (not (has_id id x)) (x ∷ without_entry id xs) (without_entry id xs) (ap not (ne_eqb x.request.id.0 id.0 (other x (contains_here x xs x refl))))
    ∙ ap (λ (ys : List BookEntry). x ∷ ys) (none_without id xs (λ y there. other y (contains_there x xs y there)))

first_goes : (x : BookEntry) (xs : List BookEntry) → ((y : BookEntry) → Contains xs y → y.request.id.0 ≢ x.request.id.0) → without_entry x.request.id (x ∷ xs) ≡ xs
first_goes x xs other =
    cond-false (not (has_id x.request.id x)) (x ∷ without_entry x.request.id xs) (without_entry x.request.id xs) (ap not (eq-eqb x.request.id.0 x.request.id.0 refl))
    ∙ none_without x.request.id xs other

module _ (passes : PendingRequest → Bool) where
  abbrev those : List BookEntry → List BookEntry
  those book = filter (λ (e : BookEntry). passes e.request) book

  abbrev others : List BookEntry → List BookEntry
  others book = filter (λ (e : BookEntry). not (passes e.request)) book

  those_in : (book : List BookEntry) (e : BookEntry) → Contains (those book) e → Contains book e
  those_in book e there = All-contains (Contains book) (those book) e (All-filter (λ (x : BookEntry). passes x.request) (Contains book) book (All-contains_itself book)) there

  later_differs : (x : BookEntry) (xs : List BookEntry) → AllPairs IsEarlier (x ∷ xs) → (y : BookEntry) → Contains xs y → x.request.id.0 < y.request.id.0
  later_differs x xs ordered y there = All-contains (IsEarlier x) xs y (λ i d small. ordered 0 (suc i) d (omega arith) (omega (arith, small))) there

  -- but for those that pass, the others are left
  left_over : (book : List BookEntry) → AllPairs IsEarlier book → withouts (those book) book ≡ others book
  left_over [] ordered = refl
  left_over (x ∷ xs) ordered = by (passes x.request) refl (left_over xs (ordered_rest x xs ordered))
    where
      by : (b : Bool) → passes x.request ≡ b → withouts (those xs) xs ≡ others xs → withouts (those (x ∷ xs)) (x ∷ xs) ≡ others (x ∷ xs)
      by true is rest =
          ap (λ (es : List BookEntry). withouts es (x ∷ xs)) (cond-true (passes x.request) (x ∷ those xs) (those xs) is)
          ∙ (ap (withouts (those xs)) (first_goes x xs (λ y there. let late = later_differs x xs ordered y there in λ same. omega (arith, late, same)))
          ∙ (rest ∙ sym (cond-false (not (passes x.request)) (x ∷ others xs) (others xs) (ap not is))))
      by false is rest =
          ap (λ (es : List BookEntry). withouts es (x ∷ xs)) (cond-false (passes x.request) (x ∷ those xs) (those xs) is)
          ∙ (stays_first (those xs) x xs (λ y there. let late = later_differs x xs ordered y (those_in xs y there) in λ same. omega (arith, late, same))
          ∙ (ap (λ (ys : List BookEntry). x ∷ ys) rest ∙ sym (cond-true (not (passes x.request)) (x ∷ others xs) (others xs) (ap not is))))

-- ---- what came of it

module _ (o : Outcome) (back : (e : PendingRequest) → keeps_loan o e ≡ false) where
  abbrev replies_to : List BookEntry → List Reply
  replies_to es = map (λ (e : BookEntry). reply_to e o) es

  -- what comes of these, one after another
  record AllMet (es : List BookEntry) (replies : List Reply) (old new : BookAndLoans) : Type 0 where
    told : replies ≡ replies_to es
    left : new.book ≡ withouts es old.book
    given : GivesBack old.table new.table es
    kept : new.kept ≡ old.kept

  all_met : (es : List BookEntry) (replies : List Reply) (old new : BookAndLoans) → AllPairs IsEarlier es → All (FramesAreLentToIt old.table) es → AreResolved (λ e. Complete o) es replies old new → AllMet es replies old new
  all_met [] replies old new ordered stands (none, same) = record {
    told = none;
    left = ap (λ (h : BookAndLoans). h.book) same;
    given = subst (λ (h : BookAndLoans). GivesBack old.table h.table []) (sym same) (none_given old.table);
    kept = ap (λ (h : BookAndLoans). h.kept) same;
  }
  all_met (e ∷ es) replies old new ordered stands (mid, its, later, split, meets, rest) =
      let ends : KeepsOrEndsLoan false e old mid = subst (λ (b : Bool). KeepsOrEndsLoan b e old mid) (back e.request) meets.2 in
      let still = stand_still old.table mid.table e es ends.1 stands ordered in
      let r = all_met es later mid new (ordered_rest e es ordered) still rest in
      record {
        told = split ∙ (λ i. meets.0 i ++ r.told i);
        left = r.left ∙ ap (withouts es) meets.1;
        given = more_given old.table mid.table new.table e es ends.1 still r.given;
        kept = r.kept ∙ ends.0;
      }

  -- ---- that it may come

  -- these frames lent to none
  abbrev give : List Frame → OwnersAndLoans → OwnersAndLoans
  give [] t = t
  give (f ∷ fs) t = give fs (record t { lent = set t.lent f.0 None })

  given_one : (t : OwnersAndLoans) (f : Frame) → lent_to (record t { lent = set t.lent f.0 None }) f ≡ None
  given_one t f = slice_none t.lent f.0
    where
      slice_none : (lent : List (Option RequestId)) (i : ℕ) → get_or (set lent i None) i None ≡ None
      slice_none [] i = refl
      slice_none (x ∷ lent) zero = refl
      slice_none (x ∷ lent) (suc i) = slice_none lent i

  given_other : (t : OwnersAndLoans) (f g : Frame) → g.0 ≢ f.0 → lent_to (record t { lent = set t.lent f.0 None }) g ≡ lent_to t g
  given_other t f g other = get_or-set_other t.lent f.0 g.0 None None other

  stays_given : (fs : List Frame) (t : OwnersAndLoans) (g : Frame) → lent_to t g ≡ None → lent_to (give fs t) g ≡ None
  stays_given [] t g none = none
  stays_given (f ∷ fs) t g none =
      stays_given fs (record t { lent = set t.lent f.0 None }) g
      (⊎_elim
      (λ (same : g.0 ≡ f.0). ap (λ (n : ℕ). get_or (set t.lent f.0 None) n None) same ∙ given_one t f)
      (λ (other : g.0 ≢ f.0). given_other t f g other ∙ none)
      (cases_eq g.0 f.0))

  all_given : (fs : List Frame) (t : OwnersAndLoans) → All (λ (f : Frame). lent_to (give fs t) f ≡ None) fs
  all_given [] t = All-nil (λ (f : Frame). lent_to t f ≡ None)
  all_given (f ∷ fs) t = All-cons (λ (g : Frame). lent_to (give (f ∷ fs) t) g ≡ None) f fs (stays_given fs (record t { lent = set t.lent f.0 None }) f (given_one t f)) (all_given fs (record t { lent = set t.lent f.0 None }))

  others_left : (fs : List Frame) (t : OwnersAndLoans) (g : Frame) → (Contains fs g → ⊥) → lent_to (give fs t) g ≡ lent_to t g
  others_left [] t g apart = refl
  others_left (f ∷ fs) t g apart =
      others_left fs (record t { lent = set t.lent f.0 None }) g (λ there. apart (contains_there f fs g there))
      ∙ given_other t f g (λ same. apart (contains_here f fs g (ap (λ (n : ℕ). record { 0 = n }) same)))

  owners_left : (fs : List Frame) (t : OwnersAndLoans) → (give fs t).owners ≡ t.owners
  owners_left [] t = refl
  owners_left (f ∷ fs) t = owners_left fs (record t { lent = set t.lent f.0 None })

  gives : (fs : List Frame) (t : OwnersAndLoans) → SetsLoanOnly t (give fs t) fs None
  gives fs t = record { owners_are_kept = owners_left fs t; these_are_lent = all_given fs t; others_are_kept = others_left fs t }

  may_come : (es : List BookEntry) (old : BookAndLoans) → (new : BookAndLoans) × AreResolved (λ e. Complete o) es (replies_to es) old new
  may_come [] old = (old, (refl, refl))
  may_come (e ∷ es) old =
      let mid : BookAndLoans = record { book = without_entry e.request.id old.book; table = give e.frames old.table; kept = old.kept } in
      let r = may_come es mid in
      (r.0, (mid, reply_to e o ∷ [], replies_to es, refl, (refl, refl, subst (λ (b : Bool). KeepsOrEndsLoan b e old mid) (sym (back e.request)) (refl, gives e.frames old.table)), r.1))

-- ---- what is given back is told by what it is

-- whether a frame is one of a request's, and of one of these
has_it : (f : Frame) (fs : List Frame) → Contains fs f ⊎ (Contains fs f → ⊥)
has_it f [] = inr (contains_none f)
has_it f (g ∷ fs) = ⊎_elim
    (λ (same : f.0 ≡ g.0). inl (contains_here g fs f (ap (λ (n : ℕ). record { 0 = n }) same)))
    (λ (other : f.0 ≢ g.0). ⊎_elim
    (λ there. inl (contains_there g fs f there))
    (λ none. inr (λ here. ⊎_elim (λ (same : f ≡ g). other (ap (λ (x : Frame). x.0) same)) none (contains_cases g fs f here)))
    (has_it f fs))
    (cases_eq f.0 g.0)

have_it : (f : Frame) (es : List BookEntry) → ((e : BookEntry) × Contains es e × Contains e.frames f) ⊎ ((e : BookEntry) → Contains es e → Contains e.frames f → ⊥)
have_it f [] = inr (λ e here. absurd (contains_none e here))
have_it f (x ∷ es) = ⊎_elim
    (λ its. inl (x, contains_here x es x refl, its))
    (λ (none : Contains x.frames f → ⊥). ⊎_elim
    (λ (r : (e : BookEntry) × Contains es e × Contains e.frames f). inl (r.0, contains_there x es r.0 r.1, r.2))
    (λ (rest : (e : BookEntry) → Contains es e → Contains e.frames f → ⊥). inr (λ e here its. ⊎_elim
    (λ (same : e ≡ x). none (subst (λ (y : BookEntry). Contains y.frames f) same its))
    (λ (later : Contains es e). rest e later its)
    (contains_cases x es e here)))
    (have_it f es))
    (has_it f x.frames)

same_given : (old one other : OwnersAndLoans) (es : List BookEntry) → GivesBack old one es → GivesBack old other es → SetsLoanOnly one other [] None
same_given old one other es a b = record {
  owners_are_kept = b.owners_are_unchanged ∙ sym a.owners_are_unchanged;
  these_are_lent = All-nil (λ (f : Frame). lent_to other f ≡ None);
  others_are_kept = λ f _. ⊎_elim
      (λ (r : (e : BookEntry) × Contains es e × Contains e.frames f). b.their_frames_are_free r.0 f r.1 r.2 ∙ sym (a.their_frames_are_free r.0 f r.1 r.2))
      (λ (apart : (e : BookEntry) → Contains es e → Contains e.frames f → ⊥). b.other_loans_are_unchanged f apart ∙ sym (a.other_loans_are_unchanged f apart))
      (have_it f es);
}

-- ---- both ways

module _ (passes : PendingRequest → Bool) (o : Outcome) (back : (e : PendingRequest) → keeps_loan o e ≡ false) (old : BookAndLoans) (order : BookIsWellFormed old.book) (accepted : All (IsWellFormedEntry old.table) old.book) where
  abbrev es : List BookEntry
  es = filter (λ (e : BookEntry). passes e.request) old.book

  ordered : AllPairs IsEarlier es
  ordered = AllPairs-filter IsEarlier (λ (e : BookEntry). passes e.request) old.book order.ids_rise

  stand : All (FramesAreLentToIt old.table) es
  stand = All-filter (λ (e : BookEntry). passes e.request) (FramesAreLentToIt old.table) old.book (λ i d small. (accepted i d small).frames_are_lent)

  pub one_by_one_is_at_once : (replies : List Reply) (new : BookAndLoans) → AreResolved (λ e. Complete o) es replies old new → CompletesAllWith passes o replies old new
  one_by_one_is_at_once replies new meets =
      let m = all_met o back es replies old new ordered stand meets in
      record { replies_are_of_passing = m.told; others_stay_in_book = m.left ∙ left_over passes old.book order.ids_rise; loans_are_given_back = m.given; kept_is_same = m.kept }

  pub at_once_is_one_by_one : (replies : List Reply) (new : BookAndLoans) → CompletesAllWith passes o replies old new
      → (now : BookAndLoans) × AreResolved (λ e. Complete o) es replies old now × (now.book ≡ new.book) × (now.kept ≡ new.kept) × SetsLoanOnly now.table new.table [] None
  at_once_is_one_by_one replies new answers =
      let r = may_come o back es old in
      let m = one_by_one_is_at_once (replies_to o back es) r.0 r.1 in (
        r.0,
        subst (λ (list : List Reply). AreResolved (λ e. Complete o) es list old r.0) (sym answers.replies_are_of_passing) r.1,
        m.others_stay_in_book ∙ sym answers.others_stay_in_book,
        m.kept_is_same ∙ sym answers.kept_is_same,
        same_given old.table r.0.table new.table es m.loans_are_given_back answers.loans_are_given_back,
      )
