-- Steps of one slot's command, one after another.
use Rattle.std.proofs.Common.{ℕ, Bool, true, false, zero, suc, ◌≡◌, ◌⊎◌, ◌+◌, ◌*◌, ◌<◌, All, Option, None, Some, refl, sym, subst, inl, inr, arith}
use Rattle.std.specs.Prelude.{if◌then◌else◌, is_some, nat_le, replicate}
use Rattle.std.proofs.lemmas.List.Elements.{All-replicate}
use Rattle.ata_types.specs.declared.memory.TheConstants.{HEADER_BYTES, RECEIVED_FIS_BYTES}
use Rattle.adapter.specs.Memory.{patched}
use Rattle.adapter.specs.Device.{FetchedCommand, DevicePort, Device}
use Rattle.adapter.specs.Steps.{MayScribble, Steps}
use Rattle.adapter.specs.Steps.DeviceTransition.{Fetch, FetchFault, Move, Clear, Done, Fault, Fatal, Unplug, Plug, Scribble}
use Rattle.adapter.specs.declared.command.Operation.{Operation}
use Rattle.adapter.specs.declared.command.Operation.TheVariants.{Identify}
use Rattle.adapter.specs.declared.access.DeviceStep.{DeviceStep}
use Rattle.adapter.specs.declared.access.DeviceStep.TheVariants as asked
use Rattle.adapter.proofs.Runs.{Steps-refl, Steps-one, Steps-trans}
use Rattle.adapter.proofs.Scribbling.{area_filled, one_filled, scribbled_is_one}
use Rattle.adapter.specs.AskedSteps.{DoesClear, DoesSlotStep, DoesExactlySlotSteps, FailsAndPosts, FailsAfter, FailsAskedStep, DoesAtLeastOneSlotStep, PostsAnyBytesOrNone, DoesOrFailsStep, DoesAskedStep, DoesScribble, IsScribbled, bsy_mask, fatal_bit, memory_filled_if_all_inside}

module _ (Posts : (port flag : ℕ) → Operation → Device → Device → Type 0) where
  pub goes_one : (port slot : ℕ) (old new : Device) → DoesSlotStep Posts port slot old new → DoesAtLeastOneSlotStep Posts port slot old new
  goes_one port slot old new one = (0, (old, refl, one))

  -- a step that happened or not, after some or none
  pub goes_next : (port slot : ℕ) (old mid new : Device) (did : Bool) → (did ≡ true → DoesAtLeastOneSlotStep Posts port slot old mid) → (did ≡ false → mid ≡ old) →
      DoesSlotStep Posts port slot mid new → DoesAtLeastOneSlotStep Posts port slot old new
  goes_next port slot old mid new true before same one = let b = before refl in (suc b.0, (mid, b.1, one))
  goes_next port slot old mid new false before same one =
      let P : Device → Type 0 = λ d. DoesSlotStep Posts port slot d new in
      goes_one port slot old new (subst P (same refl) one)

-- what is posted is a step of the device
pub post_steps : (port flag : ℕ) (operation : Operation) (old new : Device) → PostsAnyBytesOrNone port flag operation old new → Steps old new
post_steps port flag operation old new (inl same) = let P : Device → Type 0 = λ d. Steps old d in subst P (sym same) (Steps-refl old)
post_steps port flag operation old new (inr post) =
    Steps-one (Scribble port 0 post.0 post.1) old new
    (record { fre_is_set = post.2.receives; place = inl (post.2.from, post.2.to); are_bytes = post.2.are_bytes }) post.2.effect

clear_steps : (port slot most : ℕ) (old new : Device) → DoesClear port slot most old new → Steps old new
clear_steps port slot most old new c = Steps-one (Clear port slot c.fetched_command c.first c.count) old new c.can c.effect

one_steps : (port slot : ℕ) (old new : Device) → DoesSlotStep PostsAnyBytesOrNone port slot old new → Steps old new
one_steps port slot old new (inl f) = Steps-one (Fetch port slot f.meaning f.places) old new f.can f.effect
one_steps port slot old new (inr (inl m)) = Steps-one (Move port slot m.fetched_command m.bytes) old new m.can m.effect
one_steps port slot old new (inr (inr (inr c))) = clear_steps port slot c.0 old new c.2
one_steps port slot old new (inr (inr (inl e))) =
    Steps-trans (Steps-one (Done port slot e.done.cause_bit e.done.fetched_command) old e.after_end e.done.can e.done.effect)
    (post_steps port e.done.cause_bit e.done.fetched_command.meaning.operation e.after_end new e.posts)

some_steps : (n port slot : ℕ) (old new : Device) → DoesExactlySlotSteps PostsAnyBytesOrNone n port slot old new → Steps old new
some_steps zero port slot old new e = let P : Device → Type 0 = λ d. Steps old d in subst P (sym e) (Steps-refl old)
some_steps (suc n) port slot old new s = Steps-trans (some_steps n port slot old s.0 s.1) (one_steps port slot s.0 new s.2)

fault_steps : (port slot error kept : ℕ) (old new : Device) → FailsAndPosts PostsAnyBytesOrNone port slot error kept old new → Steps old new
fault_steps port slot error kept old new f =
    Steps-trans (Steps-one (Fault port slot error kept f.fault.fetched_command) old f.after_failure f.fault.can f.fault.effect)
    (post_steps port 30 f.fault.fetched_command.meaning.operation f.after_failure new f.posts)

-- a command failed after some steps, or none
fails_steps : (Part : Device → Device → Type 0) → ((old new : Device) → Part old new → Steps old new) → (port slot : ℕ) (old new : Device) →
    FailsAfter PostsAnyBytesOrNone Part port slot old new → Steps old new
fails_steps Part steps port slot old new f = Steps-trans (before f.part_is_done_or_nothing) (fault_steps port slot f.error 0 f.after_part new f.fails)
  where
    before : (f.after_part ≡ old) ⊎ Part old f.after_part → Steps old f.after_part
    before (inl same) = let P : Device → Type 0 = λ d. Steps old d in subst P (sym same) (Steps-refl old)
    before (inr some) = steps old f.after_part some

goes_steps : (port slot : ℕ) (old new : Device) → DoesAtLeastOneSlotStep PostsAnyBytesOrNone port slot old new → Steps old new
goes_steps port slot old new did = some_steps (suc did.0) port slot old new did.1

-- a place that the device may fill, or that isn't in the memory
fill_steps : (port slot at count byte : ℕ) (d : Device) → (inside : Bool) → MayScribble (d.port port) slot at (replicate count byte) →
    Steps d (record d { memory = if inside then patched d.memory at (replicate count byte) else d.memory })
fill_steps port slot at count byte d true may = Steps-one (Scribble port slot at (replicate count byte)) d _ may refl
fill_steps port slot at count byte d false may = Steps-refl d

bytes_of : (count byte : ℕ) → byte < 256 → All (λ b. b < 256) (replicate count byte)
bytes_of count byte small = All-replicate (λ b. b < 256) count byte small

-- PRDBC of a slot, after others
count_steps : (slot port byte : ℕ) (d : Device) (before : ℕ → ℕ) → (d.port port).fre ≡ true → byte < 256 → (held : Option FetchedCommand) → (d.port port).taken slot ≡ held →
    {from : Device} → Steps from (record d { memory = before }) →
    Steps from (record d { memory = if is_some held then memory_filled_if_all_inside d.memory_size ((d.port port).bases.clb + HEADER_BYTES * slot + 4) 4 byte before else before })
count_steps slot port byte d before fre small None e so_far = so_far
count_steps slot port byte d before fre small (Some t) e so_far =
    let at : ℕ = (d.port port).bases.clb + HEADER_BYTES * slot + 4 in
    Steps-trans so_far (fill_steps port slot at 4 byte (record d { memory = before }) (nat_le (at + 4) d.memory_size)
    (record { fre_is_set = fre; place = inr (t, e, refl, refl); are_bytes = bytes_of 4 byte small }))

-- the received FIS area, and then PRDBC of the slots, one after another
scribbles : (slots port byte : ℕ) (d : Device) → (d.port port).fre ≡ true → byte < 256 →
    (memory : ℕ → ℕ) × IsScribbled slots d.memory_size byte (d.port port) d.memory memory × Steps d (record d { memory = memory })
scribbles zero port byte d fre small =
    let at : ℕ = (d.port port).bases.fb in (
      memory_filled_if_all_inside d.memory_size at RECEIVED_FIS_BYTES byte d.memory,
      area_filled d.memory_size byte (d.port port) d.memory,
      fill_steps port 0 at RECEIVED_FIS_BYTES byte d (nat_le (at + RECEIVED_FIS_BYTES) d.memory_size)
          (record { fre_is_set = fre; place = inl (omega arith, omega arith); are_bytes = bytes_of RECEIVED_FIS_BYTES byte small }),
    )
scribbles (suc slot) port byte d fre small =
    let p : DevicePort = d.port port in
    let before = scribbles slot port byte d fre small in
    let memory : ℕ → ℕ = if is_some (p.taken slot) then memory_filled_if_all_inside d.memory_size (p.bases.clb + HEADER_BYTES * slot + 4) 4 byte before.0 else before.0 in
    let next : slot + 1 ≡ suc slot = omega arith in
    let P : ℕ → Type 0 = λ n. IsScribbled n d.memory_size byte p d.memory memory in
    (memory, subst P next (one_filled d.memory_size byte p slot d.memory before.0 memory before.1 refl), count_steps slot port byte d before.0 fre small (p.taken slot) refl before.2)

scribble_steps : (port byte : ℕ) (old new : Device) → DoesScribble port byte old new → Steps old new
scribble_steps port byte old new did =
    let way = scribbles 32 port byte old did.receives did.is_byte in
    let same : way.0 ≡ did.memory = scribbled_is_one old.memory_size byte (old.port port) 32 old.memory way.0 did.memory way.1 did.scribbled in
    let P : (ℕ → ℕ) → Type 0 = λ memory. Steps old (record old { memory = memory }) in
    let Q : Device → Type 0 = λ d. Steps old d in
    subst Q (sym did.effect) (subst P same way.2)

done_steps : (s : DeviceStep) (old new : Device) → DoesAskedStep PostsAnyBytesOrNone s old new → Steps old new
done_steps (asked.Fetch p slot) old new did = one_steps p.0 slot.0 old new (inl did)
done_steps (asked.Move p slot) old new did = one_steps p.0 slot.0 old new (inr (inl did))
done_steps (asked.Clear p slot most) old new did = clear_steps p.0 slot.0 most old new did
done_steps (asked.Done p slot) old new did = one_steps p.0 slot.0 old new (inr (inr (inl did)))
done_steps (asked.Finish p slot) old new did = goes_steps p.0 slot.0 old new did
done_steps (asked.Fault p slot error) old new did = fault_steps p.0 slot.0 error 0 old new did
done_steps (asked.FaultBusy p slot error) old new did = fault_steps p.0 slot.0 error bsy_mask old new did
done_steps (asked.Scribble p byte) old new did = scribble_steps p.0 byte old new did
done_steps (asked.Fatal p error) old new did = Steps-one (Fatal p.0 (fatal_bit error)) old new did.can did.effect
done_steps (asked.Lie p page offset bits) old new did = let P : Device → Type 0 = λ d. Steps old d in subst P (sym did) (Steps-refl old)
done_steps (asked.Truth p) old new did = let P : Device → Type 0 = λ d. Steps old d in subst P (sym did) (Steps-refl old)
done_steps (asked.Hold p) old new did = let P : Device → Type 0 = λ d. Steps old d in subst P (sym did) (Steps-refl old)
done_steps (asked.Release p) old new did = let P : Device → Type 0 = λ d. Steps old d in subst P (sym did) (Steps-refl old)
done_steps (asked.Unplug p) old new did = Steps-one (Unplug p.0) old new did.can did.effect
done_steps (asked.Plug p number) old new did = Steps-one (Plug p.0 did.disk) old new did.can did.effect
done_steps (asked.LosePlug p) old new did = Steps-one (Plug p.0 did.disk) old new did.can did.effect

failed_steps : (s : DeviceStep) (old new : Device) → FailsAskedStep PostsAnyBytesOrNone s old new → Steps old new
failed_steps (asked.Fetch p slot) old new f =
    Steps-trans (Steps-one (FetchFault p.0 slot.0 f.fault.queued 0) old f.after_failure f.fault.can f.fault.effect)
    (post_steps p.0 30 Identify f.after_failure new (f.posts Identify))
failed_steps (asked.Move p slot) old new f = fault_steps p.0 slot.0 f.0 0 old new f.1
failed_steps (asked.Clear p slot most) old new f = fails_steps (DoesClear p.0 slot.0 most) (clear_steps p.0 slot.0 most) p.0 slot.0 old new f
failed_steps (asked.Finish p slot) old new f = fails_steps (DoesAtLeastOneSlotStep PostsAnyBytesOrNone p.0 slot.0) (goes_steps p.0 slot.0) p.0 slot.0 old new f
failed_steps (asked.Done p slot) old new f = absurd f
failed_steps (asked.Fault p slot error) old new f = absurd f
failed_steps (asked.FaultBusy p slot error) old new f = absurd f
failed_steps (asked.Fatal p error) old new f = absurd f
failed_steps (asked.Scribble p byte) old new f = absurd f
failed_steps (asked.Lie p page offset bits) old new f = absurd f
failed_steps (asked.Truth p) old new f = absurd f
failed_steps (asked.Hold p) old new f = absurd f
failed_steps (asked.Release p) old new f = absurd f
failed_steps (asked.Unplug p) old new f = absurd f
failed_steps (asked.Plug p number) old new f = absurd f
failed_steps (asked.LosePlug p) old new f = absurd f

pub asked_steps : (s : DeviceStep) (old new : Device) → DoesOrFailsStep s old new → Steps old new
asked_steps s old new (inl did) = done_steps s old new did
asked_steps s old new (inr failed) = failed_steps s old new failed
