-- The laws over whole histories.
use Rattle.std.proofs.Common.{◌≡◌, true, List, [], ◌∷◌, inl, inr, ⊎_elim, refl, ap, subst}
use Rattle.std.specs.List.{Contains}
use Rattle.ata_types.specs.declared.request.Op.{Op}
use Rattle.ata_types.specs.declared.request.Op.TheVariants.{Read}
use Rattle.block_machine.specs.State.{Pending, Machine, is_reader}
use Rattle.block_machine.specs.Steps.{Step, IsEnabled, AllTouched, IsInBookOrKept}
use Rattle.block_machine.specs.Events.{AllEnabled}
use Rattle.block_machine.specs.Expected.{after, IsInitial, HoldsExpected, IsTouch, HasTouched, AllStepsFaithful}
use Rattle.block_machine.proofs.Members.{contains_none}
use Rattle.block_machine.proofs.Sound.{Sound}
use Rattle.block_machine.proofs.Keeps.{keeps}
use Rattle.block_machine.proofs.Trace.{seen_step, seen_touch}
use Rattle.block_machine.proofs.Content.{AllSeen, Holds, content_step}
use Rattle.block_machine.proofs.Reading.{AllGood, good_step}
use Rattle.block_machine.proofs.Held.{AllHeld, all_held}

-- What holds after every history.
pub record Traced (start : Machine) (h : List Step) : Type 0 where
  pub sound : Sound (after start h)
  pub seen : AllSeen (after start h) h
  pub holds : Holds start h (after start h)
  pub held : AllHeld (after start h)

pub nobody : (m : Machine) → IsInitial m → (e : Pending) → IsInBookOrKept m e → ⊥
nobody m s e (inl i) = contains_none e (subst (λ (es : List Pending). Contains es e) s.book_is_empty i)
nobody m s e (inr i) = contains_none e (subst (λ (es : List Pending). Contains es e) s.none_is_kept i)

sound_start : (m : Machine) → IsInitial m → Sound m
sound_start m s = record {
  below = λ e l. absurd (nobody m s e l);
  one = λ a b i j eq. absurd (nobody m s a (inl i));
  kept_one = λ a b i j eq. absurd (nobody m s a (inr i));
  apart = λ a b i j eq. nobody m s a (inl i);
  lent = λ e l i lt. absurd (nobody m s e l);
  distinct = λ e l i j a b c. nobody m s e l;
  room = λ e l r. absurd (nobody m s e l);
  order = λ e a r l lt con. nobody m s a l;
}

pub traced : (start : Machine) (h : List Step) → IsInitial start → AllEnabled start h → Traced start h
traced start [] s enabled = record {
  sound = sound_start start s;
  seen = λ w k n t. absurd t;
  holds = λ port k. inr (λ w o. o.touched, refl);
  held = λ e l. absurd (nobody start s e l);
}
traced start (step ∷ past) s enabled =
    let t = traced start past s enabled.0 in
    let may : IsEnabled (after start past) step = enabled.1 in
    record {
      sound = keeps (after start past) step may t.sound;
      seen = λ w k n x. ⊎_elim
          (λ (y : IsTouch step w k × _). seen_step (after start past) step may w k (seen_touch (after start past) step may t.sound w k y.0))
          (λ (y : HasTouched w k n past). seen_step (after start past) step may w k (t.seen w k n y)) x;
      holds = content_step start past (after start past) step may t.sound t.seen t.holds;
      held = all_held (after start past) step may t.sound t.held;
    }

-- where the bytes that reads moved are their disks', what a read touched is good
good_all : (start : Machine) (h : List Step) → IsInitial start → AllEnabled start h → AllStepsFaithful start h → AllGood start h (after start h)
good_all start [] s enabled told = λ e i r k lt t. absurd (nobody start s e (inl i))
good_all start (step ∷ past) s enabled told =
    let t = traced start past s enabled.0 in
    good_step start past (after start past) step enabled.1 told.1 t.sound t.seen t.holds (good_all start past s enabled.0 told.0)

reads : (op : Op) → op ≡ Read → is_reader op ≡ true
reads op e = ap is_reader e

-- a read with all its sectors touched holds what was left
pub law_fully_touched_read_holds_expected : (start : Machine) (h : List Step) (e : Pending) → IsInitial start → AllEnabled start h → AllStepsFaithful start h
    → Contains (after start h).book e → AllTouched e → e.request.asked.op ≡ Read → HoldsExpected start h (after start h).memory e.request
law_fully_touched_read_holds_expected start h e s enabled told here whole op = record {
  sectors_are_expected = λ i lt. (good_all start h s enabled told e here (reads e.request.asked.op op) i lt (whole i lt)).1;
  rest_is_as_accepted = λ i b past room lb. (traced start h s enabled).held e (inl here) i b (λ _. past) room lb;
}
