-- Queued commands go on side by side: one that is taken, or that ends, leaves the others as they were.
use Rattle.std.proofs.Common.{ℕ, Bool, true, ◌≡◌, ◌≢◌, ◌∙◌, ◌&&◌, List, None, Some, refl, sym, ap, subst}
use Rattle.adapter.specs.AskedSteps.{DoesFetch, EndsAndPosts}
use Rattle.adapter.specs.Commands.{Meaning, is_queued}
use Rattle.adapter.specs.Device.{FetchedCommand, DevicePort, Device}
use Rattle.adapter.specs.Steps.{Can, IsAloneOrAllAreQueued, IsFetchable, IsWorking, WorksOn, newly_fetched, port_after_fetch}
use Rattle.adapter.specs.Steps.DeviceTransition.{Fetch}
use Rattle.adapter.specs.Decoding.{DecodesTo}
use Rattle.adapter.specs.declared.command.Operation.{Operation}
use Rattle.device_model.proofs.Absurd.{some_one}
use Rattle.device_model.proofs.Places.{changed_same, changed_other, changed_each}
use Rattle.adapter.proofs.SaysLemmas.{says_meaning}
use Rattle.device_model.specs.SentFises.{SendsEnd}
use Rattle.device_model.proofs.Finishing.{done_port}
use Rattle.device_model.proofs.Paging.{cleared_other}

module _ (port slot other : ℕ) (apart : other ≢ slot) (old new : Device) where
  abbrev was : DevicePort
  was = old.port port

  -- what is taken is as it was, but for a queued command that is taken now, beside which a queued one may be taken, too
  beside : (m : Meaning) (places : List ℕ) (o : Operation) → is_queued o && is_queued m.operation ≡ true → IsAloneOrAllAreQueued was o →
      IsAloneOrAllAreQueued (port_after_fetch was slot m places) o
  beside m places o both alone =
      changed_each was.taken slot (Some (newly_fetched m places)) (λ k x. (t : FetchedCommand) → x ≡ Some t → is_queued o && is_queued t.meaning.operation ≡ true)
      (λ t is. subst (λ (x : FetchedCommand). is_queued o && is_queued x.meaning.operation ≡ true) (some_one is) both) alone

  -- another one that may be taken may still be, once one was
  pub fetched_leaves : (m n : Meaning) (xs ys : List ℕ) → is_queued m.operation ≡ true → is_queued n.operation ≡ true → Can (Fetch port slot m xs) old →
      Can (Fetch port other n ys) old → DoesFetch port slot old new → Can (Fetch port other n ys) new
  fetched_leaves m n xs ys first second here there f =
      let p : DevicePort = port_after_fetch was slot f.meaning f.places in
      let now : p ≡ new.port port = sym (ap (λ (d : Device). d.port port) f.effect ∙ changed_same old.port port p) in
      let memory : old.memory ≡ new.memory = sym (ap (λ (d : Device). d.memory) f.effect) in
      let meant : m ≡ f.meaning = says_meaning old.memory was.bases.clb slot m f.meaning xs f.places here.says f.can.says in
      let both : is_queued n.operation && is_queued f.meaning.operation ≡ true =
      ap (λ (b : Bool). b && is_queued f.meaning.operation) second ∙ (ap (λ (x : Meaning). is_queued x.operation) (sym meant) ∙ first) in
      record {
        fetchable = subst (λ (x : DevicePort). IsFetchable x other) now
            (record {
              st_is_set = there.fetchable.st_is_set;
              issued = cleared_other (is_queued f.meaning.operation) was.ci slot other apart ∙ there.fetchable.issued;
              free = changed_other was.taken slot (Some (newly_fetched f.meaning f.places)) other apart ∙ there.fetchable.free;
            });
        working = subst (λ (x : DevicePort). IsWorking x n.operation) now
            (record {
              cr_is_set = there.working.cr_is_set;
              present = there.working.present;
              fresh = there.working.fresh;
              admitted = there.working.admitted;
              is_not_broken = there.working.is_not_broken;
            });
        is_alone_or_all_are_queued = subst (λ (x : DevicePort). IsAloneOrAllAreQueued x n.operation) now (beside f.meaning f.places n.operation both there.is_alone_or_all_are_queued);
        says = subst (λ (x : DevicePort). DecodesTo new.memory x.bases.clb other n ys) now
            (subst (λ (bytes : ℕ → ℕ). DecodesTo bytes was.bases.clb other n ys) memory there.says);
      }

  -- another one on which the port works is worked on still, once one has ended
  pub ended_leaves : (u : FetchedCommand) → WorksOn was other u u.meaning.operation → EndsAndPosts (SendsEnd slot) port slot old new →
      WorksOn (new.port port) other u u.meaning.operation
  ended_leaves u works e =
      subst (λ (x : DevicePort). WorksOn x other u u.meaning.operation) (sym (done_port port slot old new e))
      (record {
        taken = changed_other was.taken slot None other apart ∙ works.taken;
        working = record {
          cr_is_set = works.working.cr_is_set;
          present = works.working.present;
          fresh = works.working.fresh;
          admitted = refl;
          is_not_broken = works.working.is_not_broken;
        };
      })
