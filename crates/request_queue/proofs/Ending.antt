-- What is lent, as the first of the requests goes.
use Rattle.std.proofs.Common.{suc, ◌≡◌, ◌<◌, List, [], ◌∷◌, get_or, Option, Some, None, refl, sym, ap, ◌∙◌, subst, arith, ⊎_elim}
use Rattle.std.specs.List.{All, AllPairs, Contains, remove, slice_get}
use Rattle.std.proofs.lemmas.List.Elements.{All-head, All-tail, All-contains}
use Rattle.std.proofs.lemmas.Option.{same_Some}
use Rattle.ata_types.specs.declared.request.Frame.{Frame}
use Rattle.ata_types.specs.declared.request.RequestId.{RequestId}
use Rattle.dma_frames.specs.FrameTables.{OwnersAndLoans, lent_to, SetsLoanOnly}
use Rattle.request_queue.specs.BookEntries.{BookEntry, IsEarlier, FramesAreLentToIt, GivesBack}
use Rattle.request_queue.proofs.Members.{contains_none, contains_here, contains_there, contains_cases}

pub first_and_rest : (es rest : List BookEntry) (e : BookEntry) → slice_get es 0 ≡ Some e → rest ≡ remove es 0 → es ≡ e ∷ rest
first_and_rest [] rest e is left = let no : ◌≡◌ {A = Option BookEntry} None (Some e) = is in cc
first_and_rest (x ∷ xs) rest e is left = ap (λ (y : BookEntry). y ∷ xs) (same_Some x e is) ∙ ap (λ (ys : List BookEntry). e ∷ ys) (sym left)

pub ordered_rest : (e : BookEntry) (rest : List BookEntry) → AllPairs IsEarlier (e ∷ rest) → AllPairs IsEarlier rest
ordered_rest e rest ordered i j d lt small = ordered (suc i) (suc j) d (omega arith) (omega arith)

-- the frames of the first are given back: those of the others stay lent
pub stand_still : (old new : OwnersAndLoans) (e : BookEntry) (rest : List BookEntry) → SetsLoanOnly old new e.frames None → All (FramesAreLentToIt old) (e ∷ rest) → AllPairs IsEarlier (e ∷ rest) → All (FramesAreLentToIt new) rest
stand_still old new e rest lends all ordered k d small i f inside =
    let x : BookEntry = get_or rest k d in
    let lent : lent_to old (get_or x.frames i f) ≡ Some x.request.id = All-tail (FramesAreLentToIt old) e rest all k d small i f inside in
    let later : e.request.id.0 < x.request.id.0 = ordered 0 (suc k) d (omega arith) (omega arith) in
    lends.others_are_kept (get_or x.frames i f) (λ own.
    let mine = All-contains (λ (g : Frame). lent_to old g ≡ Some e.request.id) e.frames (get_or x.frames i f) (All-head (FramesAreLentToIt old) e rest all) own in
    let ids = ap (λ (n : RequestId). n.0) (same_Some x.request.id e.request.id (sym lent ∙ mine)) in
    let no : ⊥ = omega (arith, later, ids) in no)
    ∙ lent

-- the frames of the first are given back, and then those of the others
pub more_given : (old mid new : OwnersAndLoans) (e : BookEntry) (rest : List BookEntry) → SetsLoanOnly old mid e.frames None → All (FramesAreLentToIt mid) rest → GivesBack mid new rest → GivesBack old new (e ∷ rest)
more_given old mid new e rest lends stands given = record {
  owners_are_unchanged = given.owners_are_unchanged ∙ lends.owners_are_kept;
  their_frames_are_free = λ x f here there. ⊎_elim
      (λ (same : x ≡ e).
      let free : lent_to mid f ≡ None = All-contains (λ (y : Frame). lent_to mid y ≡ None) e.frames f lends.these_are_lent (subst (λ (z : BookEntry). Contains z.frames f) same there) in
      given.other_loans_are_unchanged f (λ y member has. taken y f member has free) ∙ free)
      (λ (later : Contains rest x). given.their_frames_are_free x f later there)
      (contains_cases e rest x here);
  other_loans_are_unchanged = λ f apart. given.other_loans_are_unchanged f (λ y member has. apart y (contains_there e rest y member) has) ∙ lends.others_are_kept f (λ there. apart e (contains_here e rest e refl) there);
}
  where
    taken : (y : BookEntry) (f : Frame) → Contains rest y → Contains y.frames f → lent_to mid f ≡ None → ⊥
    taken y f member has free =
        let a : FramesAreLentToIt mid y = All-contains (FramesAreLentToIt mid) rest y stands member in
        let both : Some y.request.id ≡ None = sym (All-contains (λ (z : Frame). lent_to mid z ≡ Some y.request.id) y.frames f a has) ∙ free in
        cc

-- and of no requests there are none
pub none_given : (table : OwnersAndLoans) → GivesBack table table []
none_given table = record { owners_are_unchanged = refl; their_frames_are_free = λ e f here there. absurd (contains_none e here); other_loans_are_unchanged = λ f apart. refl }
