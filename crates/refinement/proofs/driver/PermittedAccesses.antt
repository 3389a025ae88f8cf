-- The conditions of accesses, from what the driver knows.
use Rattle.std.proofs.Common.{ℕ, ◌≡◌, ◌≢◌, ◌<◌, ◌≤◌, ◌+◌, ◌*◌, ◌/◌, ◌%◌, true, false, List, [], ◌∷◌, Some, None, sym, ◌∙◌, ap, subst, arith, inl, inr, ⊎_elim}
use Rattle.std.proofs.lemmas.Bool.{cases_eq}
use Rattle.ata_types.specs.declared.Port.{Port}
use Rattle.ata_types.specs.declared.request.ClientId.{ClientId}
use Rattle.ata_types.specs.declared.request.Frame.{Frame}
use Rattle.hba_regs.specs.Bits.{bit}
use Rattle.hba_regs.specs.declared.reg.Reg.TheVariants.{Px}
use Rattle.hba_regs.specs.declared.reg.PortReg.TheVariants as px
use Rattle.adapter.specs.Commands.{Meaning, is_queued}
use Rattle.adapter.specs.Device.{Device}
use Rattle.adapter.specs.KeptBySteps.{KeepsOverSteps, KeepsOutsideReset}
use Rattle.adapter.specs.Rules.{InUse, IsInMemoryNotOwnedByDevice, IsOn, HasPort, MayWrite, IsStable}
use Rattle.adapter.specs.Decoding.{DecodesTo}
use Rattle.adapter.specs.declared.command.Operation.{Operation}
use Rattle.adapter.proofs.SaysLemmas.{says_meaning}
use Rattle.block_machine.specs.declared.due.QueueMode.{QueueMode}
use Rattle.block_machine.specs.Histories.{IsReachable}
use Rattle.block_machine.specs.Expected as left
use Rattle.block_machine.specs.Refusals.{MayAccessFrame}
use Rattle.block_machine.specs.State.{Pending, Machine}
use Rattle.refinement.specs.StepLaws.{StepLaws}
use Rattle.refinement.specs.MemoryLayout.{scratch_frame_address}
use Rattle.adapter.specs.OneCommand.{SlotHasNoCommand}
use Rattle.refinement.specs.Slots.{SlotStates, client_operation_of}
use Rattle.refinement.specs.Relation.{StateRelation}
use Rattle.refinement.specs.Driver.{IsInMemoryOfFreeSlot, IsRequestPreparedToIssue, IsOwnCommandPreparedInSlot0}
use Rattle.refinement.specs.Simulation.{SimulatesSteps}
use Rattle.refinement.proofs.relation.WrittenBytes.{same_port}
use Rattle.refinement.proofs.driver.IssueWrite.{own_prepared_stays}
use Rattle.refinement.proofs.driver.ReadySlot.{prepared_readied, readied_permitted}
use Rattle.refinement.specs.ReadySlots.{IsReadyToIssue}
use Rattle.refinement.proofs.driver.ClientBytes.{open_in}
use Rattle.refinement.proofs.steps.StillFrames.{unlent_is_still, still_is_free}
use Rattle.block_machine.proofs.Reading.{open_unlent}
use Rattle.refinement.proofs.steps.FollowedSteps.{steps_follow}
use Rattle.refinement.proofs.steps.FreeBytes.{IsUsed, is_used, of_slot_in, stores_unused}
use Rattle.refinement.proofs.driver.PutSlot.{own_over}
use Rattle.refinement.proofs.relation.OtherSlots.{true_false}
use Rattle.refinement.proofs.relation.ReachedMachine.{client_frame}
use Rattle.refinement.proofs.steps.TakenCommand.{own_plain}

module _ (laws : StepLaws) (uses : SlotStates) (m : Machine) (old : Device) (reached : IsReachable m) (a : StateRelation uses m old) where
  -- ---- the driver's own bytes

  pub stores_are_free : (at n : ℕ) → at + n ≤ old.memory_size → IsInMemoryOfFreeSlot uses at n → IsStable (IsInMemoryNotOwnedByDevice at n) old
  stores_are_free at n inside may mid s =
      let f : SimulatesSteps uses m old mid = steps_follow uses m old mid reached a s in
      let r : IsReachable (left.after m f.steps) = laws.reachable_goes_on m f.steps reached f.steps_are_enabled in
      let size : mid.memory_size ≡ old.memory_size = (laws.steps_keep _ _ s).memory_size_is_kept in
      record {
        inside = omega (arith, inside, size);
        is_not_owned = λ port slot byte low high used. stores_unused uses (left.after m f.steps) mid at n byte may low high (λ e moves i lt. client_frame (left.after m f.steps) r e moves (i / 8) lt) (is_used uses (left.after m f.steps) mid r f.state_relation port slot byte used);
      }

  -- the page of a command of the driver's own that is over
  pub page_is_free : (port : ℕ) → port < 4 → scratch_frame_address port + 512 ≤ old.memory_size → SlotHasNoCommand (old.port port) 0 → IsStable (IsInMemoryNotOwnedByDevice (scratch_frame_address port) 512) old
  page_is_free port below inside over mid s =
      let f : SimulatesSteps uses m old mid = steps_follow uses m old mid reached a s in
      let r : IsReachable (left.after m f.steps) = laws.reachable_goes_on m f.steps reached f.steps_are_enabled in
      let k : KeepsOverSteps old mid = laws.steps_keep _ _ s in
      let still : SlotHasNoCommand (mid.port port) 0 = record { is_not_issued = (k.port_bits_only_fall port).ci_stays_clear 0 over.is_not_issued; is_not_taken = (k.port_bits_only_fall port).slots_stay_free 0 over.is_not_issued over.is_not_taken } in
      record {
        inside = (let size = k.memory_size_is_kept in omega (arith, inside, size));
        is_not_owned = λ q slot byte low high used. by still byte low high (left.after m f.steps) r (is_used uses (left.after m f.steps) mid r f.state_relation q slot byte used);
      }
    where
      by : SlotHasNoCommand (mid.port port) 0 → (byte : ℕ) → scratch_frame_address port ≤ byte → byte < scratch_frame_address port + 512 → (n : Machine) → IsReachable n → IsUsed uses n mid byte → ⊥
      by still byte low high n r (inl u) =
          let x = of_slot_in u.port u.slot byte u.slot_below u.here in
          let e : u.port ≡ port = same_port u.port port byte x.0 (omega (arith, x.1)) (omega (arith, low)) (omega (arith, high)) in
          omega (arith, e, x.1, low)
      by still byte low high n r (inr (inl u)) =
          let e : u.port ≡ port = same_port u.port port byte (omega (arith, u.from)) (omega (arith, u.to)) (omega (arith, low)) (omega (arith, high)) in
          omega (arith, e, u.to, low)
      by still byte low high n r (inr (inr (inl u))) =
          let e : u.port ≡ port = same_port u.port port byte (omega (arith, u.from)) (omega (arith, u.to)) (omega (arith, low)) (omega (arith, high)) in
          in_use_over (subst (λ (q : ℕ). InUse (mid.port q) 0) e u.in_use) still
        where
          in_use_over : InUse (mid.port port) 0 → SlotHasNoCommand (mid.port port) 0 → ⊥
          in_use_over (inl i) x = true_false i x.is_not_issued
          in_use_over (inr t) x = let z : Some t.0 ≡ None = sym t.1 ∙ x.is_not_taken in cc
      by still byte low high n r (inr (inr (inr u))) = let c = client_frame n r u.pending u.moves (u.number / 8) u.framed in omega (arith, high, below, u.from, c)

  -- ---- a client's bytes

  pub clients_are_free : (client : ClientId) (frame : Frame) (offset n : ℕ) → 4096 * frame.0 + 4096 ≤ old.memory_size → MayAccessFrame m.owner m.lent client frame offset n → IsStable (IsInMemoryNotOwnedByDevice (4096 * frame.0 + offset) n) old
  clients_are_free client frame offset n inside opens =
      let x = open_in m reached client frame offset n opens in
      still_is_free old frame offset n (unlent_is_still uses m old frame reached a (open_unlent m client frame offset n opens) x.0) inside x.1

  -- ---- the write of CI

  only_bit : (v slot k : ℕ) → ((j : ℕ) → j ≢ slot → bit v j ≡ false) → bit v k ≡ true → k ≡ slot
  only_bit v slot k alone b = ⊎_elim (λ (e : k ≡ slot). e) (λ (ne : k ≡ slot → ⊥). true_false b (alone k ne)) (cases_eq k slot)

  pub issue_is_permitted : (port : Port) (slot : ℕ) (mode : QueueMode) (e : Pending) (v : ℕ) → IsOn old → HasPort old port.0 → slot ≤ old.cap / 256 % 32 → IsRequestPreparedToIssue uses m old port.0 slot mode e v → IsStable (MayWrite (Px port px.Ci) v) old
  issue_is_permitted port slot mode e v on there usable x =
      readied_permitted laws uses m old port v reached a on there x.st_is_set (λ j b. subst (IsReadyToIssue uses old port.0) (sym (only_bit v slot j x.no_other_bit_is_set b)) (record {
        slot_is_implemented = usable;
        command = x.command;
        places = x.places;
        readied = prepared_readied uses m old port.0 slot mode e v x;
      }))

  pub issuing_page_command_is_permitted : (port : Port) (o : Operation) (v : ℕ) → IsOn old → HasPort old port.0 → IsOwnCommandPreparedInSlot0 uses old port.0 o v → IsStable (MayWrite (Px port px.Ci) v) old
  issuing_page_command_is_permitted port o v on there x mid s =
      let f : SimulatesSteps uses m old mid = steps_follow uses m old mid reached a s in
      let y : IsOwnCommandPreparedInSlot0 uses mid port.0 o v = own_prepared_stays uses m old mid port.0 o v reached a on.no_reset s x in
      let k : KeepsOverSteps old mid = laws.steps_keep _ _ s in
      let c : KeepsOutsideReset old mid = k.keeps_outside_reset on.no_reset in
      let over : SlotHasNoCommand (mid.port port.0) 0 = own_over uses (left.after m f.steps) mid f.state_relation port.0 o v y in (
        record { ae_is_set = c.ae_is_kept ∙ on.ae_is_set; no_reset = c.no_reset },
        (there.0, ap (λ (n : ℕ). bit n port.0) k.pi_is_kept ∙ there.1),
        record {
          st_is_set = y.st_is_set;
          slots_are_usable = λ j b. subst (λ (n : ℕ). n ≤ mid.cap / 256 % 32) (sym (only_bit v 0 j y.no_other_bit_is_set b)) (omega arith);
          slots_are_free = λ j b. subst (λ (n : ℕ). ((mid.port port.0).ci n ≡ false) × ((mid.port port.0).taken n ≡ None)) (sym (only_bit v 0 j y.no_other_bit_is_set b)) (over.is_not_issued, over.is_not_taken);
          slots_say_commands = λ j b. subst (λ (n : ℕ). (meaning : Meaning) × (places : List ℕ) × DecodesTo mid.memory (mid.port port.0).bases.clb n meaning places) (sym (only_bit v 0 j y.no_other_bit_is_set b)) (y.command, scratch_frame_address port.0 ∷ [], y.slot_decodes_to.decodes_to);
          sact_is_set = λ j meaning places b says q.
              let z : DecodesTo mid.memory (mid.port port.0).bases.clb 0 meaning places = subst (λ (n : ℕ). DecodesTo mid.memory (mid.port port.0).bases.clb n meaning places) (only_bit v 0 j y.no_other_bit_is_set b) says in
              true_false (ap (λ (w : Meaning). is_queued w.operation) (sym (says_meaning mid.memory (mid.port port.0).bases.clb 0 meaning y.command places (scratch_frame_address port.0 ∷ []) z y.slot_decodes_to.decodes_to)) ∙ q)
              (own_plain y.command.operation (ap client_operation_of y.operation_is ∙ y.operation_is_drivers_own));
        },
      )
