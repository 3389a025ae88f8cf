use Rattle.std.proofs.Common.{◌≡◌, ◌∷◌, [], Some, refl, sym, subst, arith, length, List}
use Rattle.std.specs.List.{All, AllPairs}
use Rattle.std.proofs.lemmas.List.Elements.{All-head}
use Rattle.ata_types.specs.declared.request.RequestId.{RequestId}
use Rattle.dma_frames.specs.FrameTables.{lent_to}
use Rattle.request_queue.specs.BookEntries.{BookEntry, FramesAreLentToIt, IsEarlier, GivesBack}
use Rattle.request_queue.proofs.Ending.{first_and_rest, stand_still, ordered_rest, more_given, none_given}
use Rattle.request_queue.proofs.book.give_back.Goals as goal

pub give_back-requires : goal.give_back-requires
give_back-requires c =
    let e : BookEntry = record { request = c.remove-loan.result.0; frames = c.remove-loan.result.1.frames } in
    let is = first_and_rest c.loop-store.store c.remove-loan.new.self e c.remove-loan.ensures.entry c.remove-loan.ensures.rest in
    let stands = All-head (FramesAreLentToIt c.loop-store.table) e c.remove-loan.new.self (subst (λ (es : List BookEntry). All (FramesAreLentToIt c.loop-store.table) es) is c.loop-store.invariant.stands) in
    subst (λ (id : RequestId). All (λ f. lent_to c.loop-store.table f ≡ Some id) e.frames) (sym c.remove-loan.ensures.id) stands

pub loop-store-preserved : goal.loop-store-preserved
loop-store-preserved c =
    let e : BookEntry = record { request = c.remove-loan.result.0; frames = c.remove-loan.result.1.frames } in
    let rest = c.remove-loan.new.self in
    let is = first_and_rest c.loop-store.store rest e c.remove-loan.ensures.entry c.remove-loan.ensures.rest in
    let stands = subst (λ (es : List BookEntry). All (FramesAreLentToIt c.loop-store.table) es) is c.loop-store.invariant.stands in
    let ordered = subst (λ (es : List BookEntry). AllPairs IsEarlier es) is c.loop-store.invariant.ordered in
    let still = stand_still c.loop-store.table c.give_back.new.self e rest c.give_back.ensures stands ordered in
    record {
      stands = still;
      ordered = ordered_rest e rest ordered;
      goes = λ new given. c.loop-store.invariant.goes new (subst (λ (es : List BookEntry). GivesBack c.loop-store.table new es) (sym is)
          (more_given c.loop-store.table c.give_back.new.self new e rest c.give_back.ensures still given));
    }

pub returns : goal.returns
returns c =
    let none : c.loop-store.store ≡ [] = empty c.loop-store.store (omega (arith, c.len.ensures, c.loop-store-test.false)) in
    c.loop-store.invariant.goes c.loop-store.table (subst (λ (es : List BookEntry). GivesBack c.loop-store.table c.loop-store.table es) (sym none) (none_given c.loop-store.table))
  where
    empty : (xs : List BookEntry) → length xs ≡ 0 → xs ≡ []
    empty [] is = refl
    empty (x ∷ xs) is = absurd (omega (arith, is))
