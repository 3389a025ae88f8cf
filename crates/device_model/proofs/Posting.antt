-- What the model sends is one of the device's own steps, and changes the memory alone.
use Rattle.std.proofs.Common.{ℕ, Bool, true, false, zero, suc, ◌≡◌, ◌∙◌, ◌+◌, ◌≤◌, ◌⊎◌, List, Option, refl, sym, ap, inl, inr, arith}
use Rattle.std.proofs.lemmas.Bool.Decides.{leb_tells}
use Rattle.adapter.specs.AskedSteps.{DoesOrFailsStep, DoesClear, DoesSlotStep, DoesAskedStep, FailsAndPosts, FailsAfter, DoesAtLeastOneSlotStep, DoesExactlySlotSteps, EndsAndPosts, PostsAnyBytesOrNone, bsy_mask}
use Rattle.adapter.specs.Commands.{is_queued}
use Rattle.adapter.specs.Device.{DevicePort, Device}
use Rattle.adapter.specs.Steps.{DeviceTransition, Steps, device_after}
use Rattle.adapter.specs.Steps.DeviceTransition.{Fetch, FetchFault, Move, Clear, Done, Fault, Fatal, Fall, FrFall, LinkUp, Unplug, Plug, ResetEnds, Scribble}
use Rattle.adapter.specs.declared.access.DeviceStep.{DeviceStep}
use Rattle.adapter.specs.declared.access.DeviceStep.TheVariants as asked
use Rattle.adapter.specs.declared.command.Operation.{Operation}
use Rattle.adapter.specs.declared.command.Operation.TheVariants as operation
use Rattle.adapter.proofs.Going.{post_steps}
use Rattle.sector_store.specs.declared.store.Failures.{Failures}
use Rattle.device_model.specs.StepEffects.{ClearsFewerSectorsThan, DidStep, StepFails, FailsToClear, FailsToMove}
use Rattle.device_model.specs.ModelState.{device_at}
use Rattle.device_model.specs.SentFises.{IsSentOrLost, SendsFisOfAskedEndOrFault, SendsFisAfterSpontaneousStep, SendsEnd, SendsFaultOfOperation, SendsFault, fre_is_set_and_area_fits}
use Rattle.device_model.specs.declared.bay.PageSource.{PageSource}
use Rattle.device_model.specs.declared.model.Model.{Model}

pub received_there : (p : DevicePort) (size : ℕ) → p.fre ≡ true → p.bases.fb + 256 ≤ size → fre_is_set_and_area_fits p size ≡ true
received_there p size fre inside =
    elim (leb_tells (p.bases.fb + 256) size) [
      | inl fits ↦ rw fre fits.0
      | inr past ↦ let over = past.1 in absurd (omega (arith, inside, over))
    ]

-- a FIS is posted or lost
sent_may : (port place : ℕ) (bytes : List ℕ) (old new : Device) → IsSentOrLost port place bytes old new → PostsAnyBytesOrNone port 0 operation.Read old new
sent_may port place bytes old new s = by (fre_is_set_and_area_fits (old.port port) old.memory_size) refl
  where
    by : (b : Bool) → fre_is_set_and_area_fits (old.port port) old.memory_size ≡ b → PostsAnyBytesOrNone port 0 operation.Read old new
    by true e = inr ((old.port port).bases.fb + place, bytes, s.is_posted_if_received e)
    by false e = inl (s.is_lost e)

pub end_may : (port slot flag : ℕ) (o : Operation) (old new : Device) → SendsEnd slot port flag o old new → PostsAnyBytesOrNone port flag o old new
end_may port slot flag operation.Identify old new s = sent_may port 0x20 s.1.0 old new s.1.2
end_may port slot flag operation.Read old new s = sent_may port 0x40 s.1.0 old new s.1.2
end_may port slot flag operation.Write old new s = sent_may port 0x40 s.1.0 old new s.1.2
end_may port slot flag operation.ReadQueued old new s = sent_may port 0x58 s.1.0 old new s.1.2
end_may port slot flag operation.WriteQueued old new s = sent_may port 0x58 s.1.0 old new s.1.2
end_may port slot flag operation.Flush old new s = sent_may port 0x40 s.1.0 old new s.1.2
end_may port slot flag operation.Trim old new s = sent_may port 0x40 s.1.0 old new s.1.2
end_may port slot flag operation.ReadLog old new s = sent_may port 0x20 s.1.0 old new s.1.2

fault_may : (queued : Bool) (port : ℕ) (o : Operation) (old new : Device) → SendsFault queued port old new → PostsAnyBytesOrNone port 30 o old new
fault_may true port o old new s = sent_may port 0x58 s.0 old new s.2
fault_may false port o old new s = sent_may port 0x40 s.0 old new s.2

after_may : (step : DeviceTransition) (old new : Device) → SendsFisAfterSpontaneousStep step old new → (port : ℕ) × PostsAnyBytesOrNone port 0 operation.Read old new
after_may (Done port slot flag t) old new s = (port, end_may port slot flag t.meaning.operation old new s)
after_may (LinkUp port sig n) old new s = (port, sent_may port 0x40 s.0 old new s.2)
after_may (Fetch port slot meaning places) old new e = (0, inl e)
after_may (FetchFault port slot queued kept_bits) old new e = (0, inl e)
after_may (Move port slot t bytes) old new e = (0, inl e)
after_may (Clear port slot t first count) old new e = (0, inl e)
after_may (Fault port slot error kept_bits t) old new e = (0, inl e)
after_may (Fatal port place) old new e = (0, inl e)
after_may (Fall port) old new e = (0, inl e)
after_may (FrFall port) old new e = (0, inl e)
after_may (Unplug port) old new e = (0, inl e)
after_may (Plug port disk) old new e = (0, inl e)
after_may ResetEnds old new e = (0, inl e)
after_may (Scribble port slot at bytes) old new e = (0, inl e)

-- ---- it changes the memory alone

with_memory : (old new : Device) (memory : ℕ → ℕ) → new ≡ record old { memory = memory } → new ≡ record old { memory = new.memory }
with_memory old new memory e = e ∙ ap (λ (m : ℕ → ℕ). record old { memory = m }) (sym (ap (λ (d : Device). d.memory) e))

may_rest : (port flag : ℕ) (o : Operation) (old new : Device) → PostsAnyBytesOrNone port flag o old new → new ≡ record old { memory = new.memory }
may_rest port flag o old new (inl same) = with_memory old new old.memory same
may_rest port flag o old new (inr post) = with_memory old new _ post.2.effect

pub end_rest : (port slot flag : ℕ) (o : Operation) (old new : Device) → SendsEnd slot port flag o old new → new ≡ record old { memory = new.memory }
end_rest port slot flag o old new s = may_rest port flag o old new (end_may port slot flag o old new s)

pub fault_rest : (queued : Bool) (port : ℕ) (old new : Device) → SendsFault queued port old new → new ≡ record old { memory = new.memory }
fault_rest queued port old new s = may_rest port 30 operation.Read old new (fault_may queued port operation.Read old new s)

pub after_rest : (step : DeviceTransition) (old new : Device) → SendsFisAfterSpontaneousStep step old new → new ≡ record old { memory = new.memory }
after_rest step old new s = let m = after_may step old new s in may_rest m.0 0 operation.Read old new m.1

-- ---- it is a step of the device

pub after_steps : (step : DeviceTransition) (old new : Device) → SendsFisAfterSpontaneousStep step old new → Steps old new
after_steps step old new s = let m = after_may step old new s in post_steps m.0 0 operation.Read old new m.1

-- ---- what was asked of the model was asked of an adapter

ends_may : (port slot : ℕ) (old new : Device) → EndsAndPosts (SendsEnd slot) port slot old new → EndsAndPosts PostsAnyBytesOrNone port slot old new
ends_may port slot old new e = record { after_end = e.after_end; done = e.done; posts = end_may port slot e.done.cause_bit e.done.fetched_command.meaning.operation e.after_end new e.posts }

one_may : (port slot : ℕ) (old new : Device) → DoesSlotStep (SendsEnd slot) port slot old new → DoesSlotStep PostsAnyBytesOrNone port slot old new
one_may port slot old new (inl f) = inl f
one_may port slot old new (inr (inl m)) = inr (inl m)
one_may port slot old new (inr (inr (inl e))) = inr (inr (inl (ends_may port slot old new e)))
one_may port slot old new (inr (inr (inr c))) = inr (inr (inr c))

some_may : (n port slot : ℕ) (old new : Device) → DoesExactlySlotSteps (SendsEnd slot) n port slot old new → DoesExactlySlotSteps PostsAnyBytesOrNone n port slot old new
some_may zero port slot old new e = e
some_may (suc n) port slot old new s = (s.0, some_may n port slot old s.0 s.1, one_may port slot s.0 new s.2)

failed_may : (port slot error kept : ℕ) (old new : Device) → FailsAndPosts SendsFaultOfOperation port slot error kept old new → FailsAndPosts PostsAnyBytesOrNone port slot error kept old new
failed_may port slot error kept old new f =
    let o : Operation = f.fault.fetched_command.meaning.operation in
    record { after_failure = f.after_failure; fault = f.fault; posts = fault_may (is_queued o) port o f.after_failure new f.posts }

done_may : (s : DeviceStep) (old new : Device) → DoesAskedStep (SendsFisOfAskedEndOrFault s) s old new → DoesAskedStep PostsAnyBytesOrNone s old new
done_may (asked.Fetch p slot) old new did = did
done_may (asked.Move p slot) old new did = did
done_may (asked.Clear p slot most) old new did = did
done_may (asked.Done p slot) old new did = ends_may p.0 slot.0 old new did
done_may (asked.Finish p slot) old new did = (did.0, some_may (suc did.0) p.0 slot.0 old new did.1)
done_may (asked.Fault p slot error) old new did = failed_may p.0 slot.0 error 0 old new did
done_may (asked.FaultBusy p slot error) old new did = failed_may p.0 slot.0 error bsy_mask old new did
done_may (asked.Scribble p byte) old new did = did
done_may (asked.Fatal p error) old new did = did
done_may (asked.Lie p page offset bits) old new did = did
done_may (asked.Truth p) old new did = did
done_may (asked.Hold p) old new did = did
done_may (asked.Release p) old new did = did
done_may (asked.Unplug p) old new did = did
done_may (asked.Plug p number) old new did = did
done_may (asked.LosePlug p) old new did = did

-- a fault in the place of a step, or on its way, is one of the device's own
pub moving_fails : (cached : Bool) (port slot : ℕ) (was now : Option Failures) (says later : Option PageSource) (old new : Device) (f : FailsToMove cached port slot was now says later old new) →
    FailsAndPosts SendsFaultOfOperation port slot f.error 0 old new
moving_fails cached port slot was now says later old new f =
    record { after_failure = device_after (Fault port slot f.error 0 f.fetched_command) old; fault = record { fetched_command = f.fetched_command; can = f.can; effect = refl }; posts = f.sends }

pub clearing_fails : (cached : Bool) (port slot : ℕ) (was now : Option Failures) (says later : Option PageSource) (old new : Device) (f : FailsToClear cached port slot was now says later old new) →
    FailsAndPosts SendsFaultOfOperation port slot f.error 0 old new
clearing_fails cached port slot was now says later old new f =
    record { after_failure = device_after (Fault port slot f.error 0 f.fetched_command) old; fault = record { fetched_command = f.fetched_command; can = f.can; effect = refl }; posts = f.sends }

fails_after_may : (port slot error : ℕ) (Part More : Device → Device → Type 0) → ((old mid : Device) → Part old mid → More old mid) → (old mid new : Device) →
    (mid ≡ old) ⊎ Part old mid → FailsAndPosts SendsFaultOfOperation port slot error 0 mid new → FailsAfter PostsAnyBytesOrNone More port slot old new
fails_after_may port slot error Part More more old mid new (inl same) f =
    record { after_part = mid; part_is_done_or_nothing = inl same; error = error; fails = failed_may port slot error 0 mid new f }
fails_after_may port slot error Part More more old mid new (inr some) f =
    record { after_part = mid; part_is_done_or_nothing = inr (more old mid some); error = error; fails = failed_may port slot error 0 mid new f }

fails_may : (s : DeviceStep) (cached : Bool) (was now : Option Failures) (says later : Option PageSource) (old new : Device) → StepFails s cached was now says later old new → DoesOrFailsStep s old new
fails_may (asked.Fetch p s) cached was now says later old new f = inr (record {
  after_failure = device_after (FetchFault p.0 s.0 false 0) old;
  fault = record { queued = false; can = f.can; effect = refl };
  posts = λ o. fault_may false p.0 o (device_after (FetchFault p.0 s.0 false 0) old) new f.sends;
})
fails_may (asked.Move p s) cached was now says later old new f =
    inr (f.error, failed_may p.0 s.0 f.error 0 old new (moving_fails cached p.0 s.0 was now says later old new f))
fails_may (asked.Clear p s most) cached was now says later old new (mid, before, f) =
    inr (fails_after_may p.0 s.0 f.error (ClearsFewerSectorsThan p.0 s.0 most) (DoesClear p.0 s.0 most) (λ a b some. some.0) old mid new before
    (clearing_fails cached p.0 s.0 was now says later mid new f))
fails_may (asked.Finish p s) cached was now says later old new (mid, before, inl f) =
    inr (fails_after_may p.0 s.0 f.error (DoesAtLeastOneSlotStep (SendsEnd s.0) p.0 s.0) (DoesAtLeastOneSlotStep PostsAnyBytesOrNone p.0 s.0) (λ a b g. (g.0, some_may (suc g.0) p.0 s.0 a b g.1)) old mid new before
    (moving_fails cached p.0 s.0 was now says later mid new f))
fails_may (asked.Finish p s) cached was now says later old new (mid, before, inr f) =
    inr (fails_after_may p.0 s.0 f.error (DoesAtLeastOneSlotStep (SendsEnd s.0) p.0 s.0) (DoesAtLeastOneSlotStep PostsAnyBytesOrNone p.0 s.0) (λ a b g. (g.0, some_may (suc g.0) p.0 s.0 a b g.1)) old mid new before
    (clearing_fails cached p.0 s.0 was now says later mid new f))
fails_may (asked.Done p s) cached was now says later old new f = absurd f
fails_may (asked.Fault p s error) cached was now says later old new f = absurd f
fails_may (asked.FaultBusy p s error) cached was now says later old new f = absurd f
fails_may (asked.Fatal p error) cached was now says later old new f = absurd f
fails_may (asked.Scribble p byte) cached was now says later old new f = absurd f
fails_may (asked.Lie p page offset bits) cached was now says later old new f = absurd f
fails_may (asked.Truth p) cached was now says later old new f = absurd f
fails_may (asked.Hold p) cached was now says later old new f = absurd f
fails_may (asked.Release p) cached was now says later old new f = absurd f
fails_may (asked.Unplug p) cached was now says later old new f = absurd f
fails_may (asked.Plug p number) cached was now says later old new f = absurd f
fails_may (asked.LosePlug p) cached was now says later old new f = absurd f

pub did_may : {S : Type 0} (size : S → ℕ) (told : S → Option (ℕ → List ℕ)) (failures : S → Option Failures) (s : DeviceStep) (old new : Model S) →
    DidStep size told failures s old new → DoesOrFailsStep s (device_at size told old) (device_at size told new)
did_may size told failures s old new did =
    elim did.completes_or_fails [
      | inl whole ↦ inl (done_may s _ _ whole.does_asked_step)
      | inr failed ↦ fails_may s _ _ _ _ _ _ _ failed
    ]
