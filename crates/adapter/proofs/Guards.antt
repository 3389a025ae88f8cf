-- The device changes no kept byte, and its commands go on to stand on them.
use Rattle.std.proofs.Common.{ℕ, ◌≡◌, ◌+◌, Bool, true, false, List, [], ◌∷◌, length, Option, None, Some, refl, sym, ◌∙◌, subst, arith, inl, inr, if◌then◌else◌}
use Rattle.adapter.specs.Memory.{patched, changed}
use Rattle.adapter.specs.Commands.{Meaning, reads_memory}
use Rattle.adapter.specs.Device.{FetchedCommand, Bases, DevicePort, Device}
use Rattle.adapter.specs.KeptBySteps.{KeepsOverSteps, PortBitsOnlyFallFreeSlotsStay}
use Rattle.adapter.specs.Rules.{InUse}
use Rattle.adapter.specs.Steps.{DeviceTransition, Can, device_after, TransitionsLead, Steps, MayFetch, MayScribble, next_place}
use Rattle.adapter.specs.Steps.DeviceTransition.{Fetch, FetchFault, Move, Clear, Done, Fault, Fatal, Fall, FrFall, LinkUp, Unplug, Plug, ResetEnds, Scribble}
use Rattle.adapter.specs.Guarded.{MissesRange, MissesPieces, IsGuardedSlot, IsGuardedPort, IsGuarded}
use Rattle.adapter.proofs.Absurd.{some-none, some_one, set_before}
use Rattle.adapter.proofs.Changed.{changed_each}
use Rattle.adapter.proofs.KeptLemmas.{step_keeps}
use Rattle.adapter.proofs.MemoryLemmas.{patched_apart}
use Rattle.adapter.proofs.SaysLemmas.{says_same, says_places}

-- ---- kept bytes stay

module _ (Tables Kept : ℕ → Type 0) where
  spared : (memory : ℕ → ℕ) (at : ℕ) (bytes : List ℕ) → MissesRange Kept at (at + length bytes) → (a : ℕ) → Kept a → patched memory at bytes a ≡ memory a
  spared memory at bytes spares a kept = patched_apart memory at bytes a (λ low high. spares a low high kept)

  scribble_spares : (d : Device) (port slot at : ℕ) (bytes : List ℕ) → IsGuarded Tables Kept d → MayScribble (d.port port) slot at bytes →
      MissesRange Kept at (at + length bytes)
  scribble_spares d port slot at bytes g may =
      elim may.place [
        | inl area ↦ λ a low high kept. (g.ports_are_guarded port).received_fis_is_not_kept may.fre_is_set a (omega (arith, area.0)) (omega (arith, area.1)) kept
        | inr count ↦ λ a low high kept. ((g.ports_are_guarded port).slots_are_guarded slot (inr (count.0, count.1))).prdbc_is_not_kept a (omega (arith, count.2)) (omega (arith, count.2, count.3)) kept
      ]

  pub step_bytes : (step : DeviceTransition) (d : Device) → Can step d → IsGuarded Tables Kept d → (a : ℕ) → Kept a → (device_after step d).memory a ≡ d.memory a
  step_bytes (Move port slot t bytes) d can g a kept =
      by (reads_memory t.meaning.operation)
    where
      spares : MissesRange Kept (next_place t) (next_place t + length bytes)
      spares at low high kept_at =
          (g.ports_are_guarded port).taken_pieces_are_not_kept slot t can.works.taken at kept_at (record { number = t.moved; number_in_range = can.piece_is_left; from = low; to = omega (arith, can.bytes_are_sector.0) })

      by : (b : Bool) → (if b then d.memory else patched d.memory (next_place t) bytes) a ≡ d.memory a
      by true = refl
      by false = spared d.memory (next_place t) bytes spares a kept
  step_bytes (Scribble port slot at bytes) d can g a kept = spared d.memory at bytes (scribble_spares d port slot at bytes g can) a kept
  step_bytes _ d can g a kept = refl

  -- ---- and what stands on them stays

  held_same : (memory new : ℕ → ℕ) (list slot : ℕ) → ((a : ℕ) → Tables a → new a ≡ memory a) →
      IsGuardedSlot Tables Kept memory list slot → IsGuardedSlot Tables Kept new list slot
  unfolding says_same
  held_same memory new list slot same h = record {
    meaning = h.meaning;
    places = h.places;
    says = says_same memory new list slot h.meaning h.places h.says
        (λ a low high. same a (h.header_start_is_table a low high)) (λ a low high. same a (h.header_end_is_table a low high)) (λ a low high. same a (h.table_is_guarded a low high));
    header_start_is_table = h.header_start_is_table;
    header_end_is_table = h.header_end_is_table;
    table_is_guarded = h.table_is_guarded;
    prdbc_is_not_kept = h.prdbc_is_not_kept;
    pieces_are_not_kept = h.pieces_are_not_kept;
  }

-- a slot that is in use was in use
module _ (old new : DevicePort) (k : PortBitsOnlyFallFreeSlotsStay old new) (slot : ℕ) where
  taken_before : (ci : Bool) (o : Option FetchedCommand) → old.ci slot ≡ ci → old.taken slot ≡ o → (t : FetchedCommand) → new.taken slot ≡ Some t → InUse old slot
  taken_before true o set is t now = inl set
  taken_before false (Some u) unset is t now = inr (u, is)
  taken_before false None unset is t now = some-none now (k.slots_stay_free slot unset is)

  pub in_use_before : InUse new slot → InUse old slot
  in_use_before (inl set) = inl (set_before (old.ci slot) (new.ci slot) (k.ci_stays_clear slot) set)
  in_use_before (inr (t, is)) = taken_before (old.ci slot) (old.taken slot) refl refl t is

-- a slot is filled with a command, or emptied
module _ (P : ℕ → FetchedCommand → Type 0) (old : ℕ → Option FetchedCommand) (slot : ℕ) (g : (k : ℕ) (t : FetchedCommand) → old k ≡ Some t → P k t) where
  pub filled : (new : FetchedCommand) → P slot new → (k : ℕ) (t : FetchedCommand) → changed old slot (Some new) k ≡ Some t → P k t
  filled new here =
      changed_each old slot (Some new) (λ k o. (t : FetchedCommand) → o ≡ Some t → P k t)
      (λ t e. let Q : FetchedCommand → Type 0 = λ u. P slot u in subst Q (some_one e) here) g

  pub emptied : (k : ℕ) (t : FetchedCommand) → changed old slot None k ≡ Some t → P k t
  emptied =
      changed_each old slot None (λ k o. (t : FetchedCommand) → o ≡ Some t → P k t) (λ t e. some-none e refl) g

module _ (Tables Kept : ℕ → Type 0) (d : Device) (g : IsGuarded Tables Kept d) where
  -- the pieces of what a port has taken avoid the kept bytes
  abbrev TakenAvoid : DevicePort → Type 0
  TakenAvoid p = (slot : ℕ) (t : FetchedCommand) → p.taken slot ≡ Some t → MissesPieces Kept t.places

  now : (port : ℕ) → TakenAvoid (d.port port)
  now port = (g.ports_are_guarded port).taken_pieces_are_not_kept

  -- one port is another now
  at_port : (port : ℕ) (new : DevicePort) → TakenAvoid new → (q : ℕ) → TakenAvoid (changed d.port port new q)
  at_port port new here = changed_each d.port port new (λ q p. TakenAvoid p) here now

  abbrev at_slot : ℕ → FetchedCommand → Type 0
  at_slot slot t = MissesPieces Kept t.places

  fetch_avoids : (port slot : ℕ) (m : Meaning) (places : List ℕ) → MayFetch d port slot m places → MissesPieces Kept places
  fetch_avoids port slot m places can =
      let h : IsGuardedSlot Tables Kept d.memory (d.port port).bases.clb slot = (g.ports_are_guarded port).slots_are_guarded slot (inl can.fetchable.issued) in
      let P : List ℕ → Type 0 = λ l. MissesPieces Kept l in
      subst P (says_places d.memory (d.port port).bases.clb slot h.meaning m h.places places h.says can.says) h.pieces_are_not_kept

  step_taken : (step : DeviceTransition) → Can step d → (q : ℕ) → TakenAvoid ((device_after step d).port q)
  step_taken (Fetch port slot m places) can = at_port port _ (filled at_slot (d.port port).taken slot (now port) _ (fetch_avoids port slot m places can))
  step_taken (FetchFault port slot queued kept_bits) can = at_port port _ (now port)
  step_taken (Move port slot t bytes) can = at_port port _ (filled at_slot (d.port port).taken slot (now port) _ (now port slot t can.works.taken))
  step_taken (Clear port slot t first count) can = at_port port _ (filled at_slot (d.port port).taken slot (now port) _ (now port slot t can.works.taken))
  step_taken (Done port slot flag t) can = at_port port _ (emptied at_slot (d.port port).taken slot (now port))
  step_taken (Fault port slot error kept_bits t) can = at_port port _ (now port)
  step_taken (Fatal port place) can = at_port port _ (now port)
  step_taken (Fall port) can = at_port port _ (λ slot t e. some-none e refl)
  step_taken (FrFall port) can = at_port port _ (now port)
  step_taken (LinkUp port sig n) can = at_port port _ (now port)
  step_taken (Unplug port) can = at_port port _ (now port)
  step_taken (Plug port disk) can = at_port port _ (now port)
  step_taken ResetEnds can = λ q slot t e. some-none e refl
  step_taken (Scribble port slot at bytes) can = now

  pub step_guards : (step : DeviceTransition) → Can step d → IsGuarded Tables Kept (device_after step d)
  step_guards step can =
      let all : KeepsOverSteps d (device_after step d) = step_keeps step d can in
      let same : (a : ℕ) → Tables a → (device_after step d).memory a ≡ d.memory a = λ a table. step_bytes Tables Kept step d can g a (g.tables_are_kept a table) in
      record {
        tables_are_kept = g.tables_are_kept;
        ports_are_guarded = λ q.
            let k : PortBitsOnlyFallFreeSlotsStay (d.port q) ((device_after step d).port q) = all.port_bits_only_fall q in
            let p : IsGuardedPort Tables Kept d.memory (d.port q) = g.ports_are_guarded q in
            record {
              slots_are_guarded = λ slot used.
                  let P : Bases → Type 0 = λ b. IsGuardedSlot Tables Kept (device_after step d).memory b.clb slot in
                  subst P (sym k.bases_are_kept)
                  (held_same Tables Kept d.memory (device_after step d).memory (d.port q).bases.clb slot same
                  (p.slots_are_guarded slot (in_use_before (d.port q) ((device_after step d).port q) k slot used)));
              taken_pieces_are_not_kept = step_taken step can q;
              received_fis_is_not_kept = λ set.
                  let P : Bases → Type 0 = λ b. MissesRange Kept b.fb (b.fb + 256) in
                  subst P (sym k.bases_are_kept) (p.received_fis_is_not_kept (set_before (d.port q).fre ((device_after step d).port q).fre k.fre_stays_clear set));
            };
      }

leads_guard : (Tables Kept : ℕ → Type 0) (steps : List DeviceTransition) (old new : Device) → IsGuarded Tables Kept old → TransitionsLead steps old new →
    IsGuarded Tables Kept new × ((a : ℕ) → Kept a → new.memory a ≡ old.memory a)
leads_guard Tables Kept [] old new g e =
    let P : Device → Type 0 = λ d. IsGuarded Tables Kept d × ((a : ℕ) → Kept a → d.memory a ≡ old.memory a) in
    subst P (sym e) (g, λ a kept. refl)
leads_guard Tables Kept (step ∷ steps) old new g (can, lead) =
    let rest = leads_guard Tables Kept steps (device_after step old) new (step_guards Tables Kept old g step can) lead in
    (rest.0, λ a kept. rest.1 a kept ∙ step_bytes Tables Kept step old can g a kept)

-- whatever the device does: kept bytes stay, and every command in use stands on them still
pub steps_guard : (Tables Kept : ℕ → Type 0) (old new : Device) → IsGuarded Tables Kept old → Steps old new →
    IsGuarded Tables Kept new × ((a : ℕ) → Kept a → new.memory a ≡ old.memory a)
steps_guard Tables Kept old new g s = leads_guard Tables Kept s.steps old new g s.lead
