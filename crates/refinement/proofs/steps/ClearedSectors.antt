-- Sectors of a trim become zero.
use Rattle.std.proofs.Common.{◌/◌, ◌%◌, ℕ, zero, suc, ◌++◌, ◌≡◌, ◌⊎◌, ◌<◌, ◌≤◌, ◌+◌, ◌-◌, ◌*◌, Bool, true, false, ◌&&◌, cond, List, [], ◌∷◌, length, slice_index, take, drop, replicate, min, Some, refl, sym, ◌∙◌, ap, subst, arith, inl, inr, ⊎_elim, nat_lt, nat_le, lt-ltb, le-leb, ltb-true, leb-true}
use Rattle.std.specs.Prelude.{option_map, if◌then◌else◌}
use Rattle.std.proofs.lemmas.Bool.{cases_eq, cases_lt, cond-true, cond-false, and_from, and_parts}
use Rattle.std.proofs.lemmas.List.{length-take, get_or-replicate}
use Rattle.ata_types.specs.declared.Port.{Port}
use Rattle.ata_types.specs.declared.request.Op.{Op}
use Rattle.ata_types.specs.declared.request.Op.TheVariants.{Read, Write, Trim}
use Rattle.ata_types.specs.declared.request.RequestId.{RequestId}
use Rattle.adapter.specs.Commands.{Meaning}
use Rattle.adapter.specs.Memory.{bytes_at, changed}
use Rattle.adapter.specs.Device.{FetchedCommand, Device}
use Rattle.adapter.specs.Trim.{consecutive}
use Rattle.adapter.specs.Steps.{device_after, MayClear, disk_cleared, clear_entry}
use Rattle.adapter.specs.Steps.DeviceTransition.{Clear}
use Rattle.adapter.proofs.Changed.{changed_same, changed_other}
use Rattle.block_machine.specs.State.{Accepted, Block, Memory, Pending, Machine, nth_frame, sector_of, is_reader, block_written}
use Rattle.block_machine.specs.State as state
use Rattle.block_machine.specs.DueRequests.{changes_sectors}
use Rattle.block_machine.specs.Steps.{Touch, IsIssuedOrKept, after_step, put_sector, put_bytes}
use Rattle.block_machine.specs.Expected as left
use Rattle.block_machine.specs.Expected.{AllStepsFaithful}
use Rattle.block_machine.specs.Events.{AllEnabled}
use Rattle.refinement.specs.MemoryLayout.{scratch_frame_address}
use Rattle.refinement.specs.Slots.{SlotState, Free, Own, Serves, SlotStates, MeansRequest, MeansRange, AreRequestPlaces, TouchedUpTo, TouchedAsMovedOrCleared, ServesRequest, OwnAwaitsFetch, OwnIsTaken, OwnIsOverWithPageIfSt, RelatesSlot, client_operation_of, Armed}
use Rattle.refinement.specs.Relation.{StateRelation, port_at, SameSectors}
use Rattle.refinement.specs.Tape.{PortPlugsPutInDisks, with_sectors_touched, touch_steps}
use Rattle.refinement.specs.Simulation.{SimulatesSteps}
use Rattle.refinement.proofs.relation.SlotRelation.{NoPort, placed_on}
use Rattle.refinement.proofs.relation.TouchesAndEnds.{Goes, Goes-refl, Goes-trans, touch_goes, touch_moves}
use Rattle.refinement.proofs.relation.LastingSectors.{gains_clear, lasting_on, lasting_swept}
use Rattle.refinement.proofs.relation.OneSlot.{acted, sectors_on, others_move}
use Rattle.refinement.proofs.relation.OtherSlots.{some_none, fixed_more, plugged_kept}
use Rattle.refinement.proofs.steps.MovedSector.{TakenAs, taken_as, means_taken, upto_more, some_same}
use Rattle.refinement.proofs.steps.TakenCommand.{none_op}
use Rattle.refinement.proofs.steps.WrittenSector.{put_there, put_elsewhere}

-- ---- a run of sectors

pub length_consecutive : (first n : ℕ) → length (consecutive first n) ≡ n
length_consecutive first zero = refl
length_consecutive first (suc n) = let e : length (consecutive (suc first) n) ≡ n = length_consecutive (suc first) n in omega (arith, e)

head_consecutive : (first n : ℕ) → 1 ≤ n → slice_index (consecutive first n) 0 ≡ first
head_consecutive first zero some = absurd (omega arith)
head_consecutive first (suc n) some = refl

drop_consecutive : (first n c : ℕ) → c ≤ n → drop c (consecutive first n) ≡ consecutive (first + c) (n - c)
drop_consecutive first n zero le = let e : first ≡ first + 0 = omega arith in let g : n ≡ n - 0 = omega arith in λ i. consecutive (e i) (g i)
drop_consecutive first zero (suc c) le = absurd (omega arith)
drop_consecutive first (suc n) (suc c) le =
    drop_consecutive (suc first) n c (omega arith)
    ∙ (let e : suc first + c ≡ first + suc c = omega arith in let g : n - c ≡ suc n - suc c = omega arith in λ i. consecutive (e i) (g i))

drop_past : (first n c : ℕ) → n ≤ c → drop c (consecutive first n) ≡ []
drop_past first zero zero le = refl
drop_past first zero (suc c) le = refl
drop_past first (suc n) zero le = absurd (omega arith)
drop_past first (suc n) (suc c) le = drop_past (suc first) n c (omega arith)

take_head : (n : ℕ) (l : List ℕ) → 1 ≤ n → slice_index (take n l) 0 ≡ slice_index l 0
take_head zero l some = absurd (omega arith)
take_head (suc n) [] some = refl
take_head (suc n) (x ∷ xs) some = refl

-- where a cut of a run begins, and that it fits
cut_of : (first total c start n : ℕ) → 1 ≤ n → take n (drop c (consecutive first total)) ≡ consecutive start n → (start ≡ first + c) × (c + n ≤ total)
cut_of first total c start n some e = ⊎_elim inside past (cases_lt c total)
  where
    size : length (take n (drop c (consecutive first total))) ≡ n
    size = ap length e ∙ length_consecutive start n

    past : total ≤ c → (start ≡ first + c) × (c + n ≤ total)
    past le =
        let l : length (take n (drop c (consecutive first total))) ≡ min n 0 = length-take n (drop c (consecutive first total)) ∙ ap (λ (x : List ℕ). min n (length x)) (drop_past first total c le) in
        absurd (omega (arith, l, size, some))

    inside : c < total → (start ≡ first + c) × (c + n ≤ total)
    inside lt =
        let d : drop c (consecutive first total) ≡ consecutive (first + c) (total - c) = drop_consecutive first total c (omega (arith, lt)) in
        let l : length (take n (drop c (consecutive first total))) ≡ min n (total - c) =
        length-take n (drop c (consecutive first total)) ∙ ap (λ (x : List ℕ). min n (length x)) d ∙ ap (min n) (length_consecutive (first + c) (total - c)) in
        let h : start ≡ first + c =
        sym (head_consecutive start n some) ∙ ap (λ (x : List ℕ). slice_index x 0) (sym e) ∙ take_head n (drop c (consecutive first total)) some
        ∙ ap (λ (x : List ℕ). slice_index x 0) d ∙ head_consecutive (first + c) (total - c) (omega (arith, lt)) in
        (h, omega (arith, l, size, lt))

-- ---- the touches, one after another

touched_request : (e : Pending) (from n : ℕ) → (with_sectors_touched e from n).request ≡ e.request
touched_request e from zero = refl
touched_request e from (suc n) = touched_request e from n

touched_ended : (e : Pending) (from n : ℕ) → (with_sectors_touched e from n).ended ≡ e.ended
touched_ended e from zero = refl
touched_ended e from (suc n) = touched_ended e from n

touched_upto : (e : Pending) (from n : ℕ) → TouchedUpTo e.touched from → TouchedUpTo (with_sectors_touched e from n).touched (from + n)
touched_upto e from zero h = subst (λ (k : ℕ). TouchedUpTo e.touched k) (let q : from ≡ from + 0 = omega arith in q) h
touched_upto e from (suc n) h =
    subst (λ (k : ℕ). TouchedUpTo (with_sectors_touched e from (suc n)).touched k) (let q : from + n + 1 ≡ from + suc n = omega arith in q)
    (upto_more (with_sectors_touched e from n).touched (from + n) (touched_upto e from n h))

-- touches put no disk in
touches_put : (e : Pending) (from n q : ℕ) → PortPlugsPutInDisks q [] (touch_steps e from n)
touches_put e from zero q = refl
touches_put e from (suc n) q = touches_put e from n q

-- what n touches of a trim leave
record Swept (m : Machine) (e : Pending) (from n : ℕ) : Type 0 where
  may : AllEnabled m (touch_steps e from n)
  told : AllStepsFaithful m (touch_steps e from n)
  goes : Goes m (left.after m (touch_steps e from n)) e.request.id
  moves : IsIssuedOrKept (left.after m (touch_steps e from n)) (with_sectors_touched e from n)
  memory : (left.after m (touch_steps e from n)).memory ≡ m.memory
  zeros : (k b : ℕ) → e.request.asked.first.0 + from ≤ k → k < e.request.asked.first.0 + from + n → (left.after m (touch_steps e from n)).disk_bytes e.request.port k b ≡ 0
  others : (q : Port) (k b : ℕ) → (q.0 ≡ e.request.port.0 → e.request.asked.first.0 + from ≤ k → k < e.request.asked.first.0 + from + n → ⊥) → (left.after m (touch_steps e from n)).disk_bytes q k b ≡ m.disk_bytes q k b

trim_is_no_read : {A : Type 0} → Trim ≡ Read → A
trim_is_no_read e = absurd cc

trim_is_no_write : {A : Type 0} → Trim ≡ Write → A
trim_is_no_write e = absurd cc

swept : (m : Machine) (e : Pending) (from n : ℕ) → e.request.asked.op ≡ Trim → IsIssuedOrKept m e → m.present e.request.port ≡ true → from + n ≤ e.request.asked.count
    → e.request.asked.first.0 + from + n ≤ m.sizes e.request.port ⊎ (n ≡ 0) → Swept m e from n
swept m e from zero op r there fits inside = record {
  may = tt;
  told = tt;
  goes = Goes-refl m e.request.id;
  moves = r;
  memory = refl;
  zeros = λ k b low high. absurd (omega (arith, low, high));
  others = λ q k b ne. refl;
}
swept m e from (suc n) op r there fits inside =
    let old : Swept m e from n = swept m e from n op r there (omega (arith, fits)) (inl (omega (arith, room))) in
    more old
  where
    room : e.request.asked.first.0 + from + suc n ≤ m.sizes e.request.port
    room = ⊎_elim (λ (x : e.request.asked.first.0 + from + suc n ≤ m.sizes e.request.port). x) (λ (z : suc n ≡ 0). absurd (omega (arith, z))) inside

    request : (with_sectors_touched e from n).request ≡ e.request
    request = touched_request e from n

    is_trim : (with_sectors_touched e from n).request.asked.op ≡ Trim
    is_trim = ap (λ (j : Accepted). j.asked.op) request ∙ op

    disks_now : (q : Port) (k b : ℕ) → (after_step (left.after m (touch_steps e from n)) (Touch (with_sectors_touched e from n) (from + n) (λ b. 0))).disk_bytes q k b
        ≡ put_sector e.request.port (e.request.asked.first.0 + (from + n)) (λ _. 0) (left.after m (touch_steps e from n)).disk_bytes q k b
    disks_now q k b =
        ap (λ (f : Port → state.DiskBytes). f q k b) (cond-true (changes_sectors (with_sectors_touched e from n).request.asked.op) (put_sector (with_sectors_touched e from n).request.port (sector_of (with_sectors_touched e from n).request (from + n)) (block_written (with_sectors_touched e from n).request.asked.op (with_sectors_touched e from n).request.blocks_at_acceptance (from + n)) (left.after m (touch_steps e from n)).disk_bytes) (left.after m (touch_steps e from n)).disk_bytes (ap changes_sectors is_trim))
        ∙ ap (λ (o : Op). put_sector (with_sectors_touched e from n).request.port (sector_of (with_sectors_touched e from n).request (from + n)) (block_written o (with_sectors_touched e from n).request.blocks_at_acceptance (from + n)) (left.after m (touch_steps e from n)).disk_bytes q k b) is_trim
        ∙ ap (λ (j : Accepted). put_sector j.port (j.asked.first.0 + (from + n)) (λ _. 0) (left.after m (touch_steps e from n)).disk_bytes q k b) request

    memory_now : (after_step (left.after m (touch_steps e from n)) (Touch (with_sectors_touched e from n) (from + n) (λ b. 0))).memory ≡ (left.after m (touch_steps e from n)).memory
    memory_now = cond-false (is_reader (with_sectors_touched e from n).request.asked.op) (put_bytes (nth_frame (with_sectors_touched e from n).request.asked.frames.items ((from + n) / 8)) (512 * ((from + n) % 8)) 512 (λ b. 0) (left.after m (touch_steps e from n)).memory) (left.after m (touch_steps e from n)).memory (ap is_reader is_trim)

    more : Swept m e from n → Swept m e from (suc n)
    more old = record {
      may = (
        old.may,
        (
          old.moves,
          omega (arith, fits, ap (λ (j : Accepted). j.asked.count) request),
          ap (λ (j : Accepted). (left.after m (touch_steps e from n)).present j.port) request ∙ old.goes.present e.request.port ∙ there,
          (let s : (left.after m (touch_steps e from n)).sizes (with_sectors_touched e from n).request.port ≡ m.sizes e.request.port = ap (λ (j : Accepted). (left.after m (touch_steps e from n)).sizes j.port) request ∙ old.goes.sizes e.request.port in
              let f : (with_sectors_touched e from n).request.asked.first.0 ≡ e.request.asked.first.0 = ap (λ (j : Accepted). j.asked.first.0) request in
              let l = room in omega (arith, s, f, l)),
          λ w. trim_is_no_write (sym is_trim ∙ w),
        ),
      );
      told = (old.told, λ w. trim_is_no_read (sym is_trim ∙ w));
      goes = Goes-trans m (left.after m (touch_steps e from n)) (after_step (left.after m (touch_steps e from n)) (Touch (with_sectors_touched e from n) (from + n) (λ b. 0))) e.request.id old.goes
          (subst (λ (j : Accepted). Goes (left.after m (touch_steps e from n)) (after_step (left.after m (touch_steps e from n)) (Touch (with_sectors_touched e from n) (from + n) (λ b. 0))) j.id) request (touch_goes (left.after m (touch_steps e from n)) (with_sectors_touched e from n) (from + n) (λ b. 0)));
      moves = touch_moves (left.after m (touch_steps e from n)) (with_sectors_touched e from n) (from + n) (λ b. 0) old.moves;
      memory = memory_now ∙ old.memory;
      zeros = λ k b low high. disks_now e.request.port k b ∙ ⊎_elim
          (λ (eq : k ≡ e.request.asked.first.0 + (from + n)). ap (λ (x : ℕ). put_sector e.request.port (e.request.asked.first.0 + (from + n)) (λ _. 0) (left.after m (touch_steps e from n)).disk_bytes e.request.port x b) eq
          ∙ ap (λ (f : Block). f b) (put_there e.request.port (e.request.asked.first.0 + (from + n)) (λ _. 0) (left.after m (touch_steps e from n)).disk_bytes))
          (λ (ne : k ≡ e.request.asked.first.0 + (from + n) → ⊥). ap (λ (f : Block). f b) (put_elsewhere e.request.port (e.request.asked.first.0 + (from + n)) (λ _. 0) (left.after m (touch_steps e from n)).disk_bytes e.request.port k (λ _ eq. ne eq))
          ∙ old.zeros k b low (⊎_elim (λ (l : k < e.request.asked.first.0 + from + n). l) (λ (g : e.request.asked.first.0 + from + n ≤ k). absurd (ne (omega (arith, g, high)))) (cases_lt k (e.request.asked.first.0 + from + n))))
          (cases_eq k (e.request.asked.first.0 + (from + n)));
      others = λ q k b ne. disks_now q k b
          ∙ ap (λ (f : Block). f b) (put_elsewhere e.request.port (e.request.asked.first.0 + (from + n)) (λ _. 0) (left.after m (touch_steps e from n)).disk_bytes q k (λ e1 e2. ne e1 (omega (arith, e2)) (omega (arith, e2))))
          ∙ old.others q k b (λ e1 low high. ne e1 low (omega (arith, high)));
    }

-- ---- the step

module _ (uses : SlotStates) (m : Machine) (d : Device) (a : StateRelation uses m d) (port slot : ℕ) (t : FetchedCommand) (first count : ℕ) (can : MayClear d port slot t first count) where
  module _ (id : RequestId) (u : uses port slot ≡ Serves id) (h : ServesRequest m d.memory (d.port port) port slot id) (x : TakenAs d.memory (d.port port) port slot h.pending h.command h.places t) where
    means : MeansRequest port slot h.pending.request t.meaning t.places
    means = means_taken port slot h.pending.request h.command t.meaning h.places t.places x.meaning x.places_are h.means

    op : h.pending.request.asked.op ≡ Trim
    op = let e : Some Trim ≡ Some h.pending.request.asked.op = ap client_operation_of (sym can.trim) ∙ means.op_is in cc

    here_port : h.pending.request.port ≡ port_at port
    here_port = ap port_at h.port_is

    was : TouchedAsMovedOrCleared Trim d.memory port h.pending t
    was = subst (λ (o : Op). TouchedAsMovedOrCleared o d.memory port h.pending t) op x.progress

    one_place : length t.places ≡ 1
    one_place = ap length (subst (λ (o : Op). AreRequestPlaces o port h.pending.request t.places) op means.places_are)

    range : MeansRange t.block h.pending.request
    range = ⊎_elim
        (λ (y : (t.moved ≡ 0) × (t.cleared ≡ 0) × MeansRange (bytes_at d.memory (scratch_frame_address port) 512) h.pending.request). absurd (let mv : t.moved ≡ length t.places = can.block_is_moved in omega (arith, one_place, mv, y.0)))
        (λ (y : (t.moved ≡ 1) × MeansRange t.block h.pending.request). y.1) was.1

    starts : (first ≡ h.pending.request.asked.first.0 + t.cleared) × (t.cleared + 1 ≤ h.pending.request.asked.count)
    starts = cut_of h.pending.request.asked.first.0 h.pending.request.asked.count t.cleared first 1 (omega arith) (ap (λ (l : List ℕ). take 1 (drop t.cleared l)) (sym range) ∙ can.first_is_next)

    fits : t.cleared + count ≤ h.pending.request.asked.count
    fits = ⊎_elim
        (λ (none : count ≡ 0). let s = starts.1 in omega (arith, none, s))
        (λ (some : count ≡ 0 → ⊥). (cut_of h.pending.request.asked.first.0 h.pending.request.asked.count t.cleared first count
        (⊎_elim (λ (l : count < 1). absurd (some (omega (arith, l)))) (λ (g : 1 ≤ count). g) (cases_lt count 1))
        (ap (λ (l : List ℕ). take count (drop t.cleared l)) (sym range) ∙ can.sectors_follow)).1)
        (cases_eq count 0)

    size_is : m.sizes h.pending.request.port ≡ (d.port port).disk.sector_count
    size_is = ap m.sizes here_port ∙ (a.disks_are_same port).sector_count

    done : Swept m h.pending t.cleared count
    done = swept m h.pending t.cleared count op h.may_still_move (ap m.present here_port ∙ (a.disks_are_same port).present ∙ can.works.working.present) fits
        (⊎_elim (λ (none : count ≡ 0). inr none) (λ (i : first + count ≤ (d.port port).disk.sector_count). inl (let f = starts.0 in omega (arith, f, i, size_is))) can.inside)

    abbrev swept_machine : Machine
    swept_machine = left.after m (touch_steps h.pending t.cleared count)

    zeroed : (k b : ℕ) → first ≤ k → k < first + count → b < 512 → slice_index (replicate 512 0) b ≡ swept_machine.disk_bytes (port_at port) k b
    zeroed k b low high bl =
        get_or-replicate 512 b 0 0 bl
        ∙ sym (done.zeros k b (let c = starts.0 in omega (arith, c, low)) (let c = starts.0 in omega (arith, c, high)))
        ∙ ap (λ (p : Port). swept_machine.disk_bytes p k b) here_port

    cleared : SameSectors m (d.port port).disk port → SameSectors swept_machine (disk_cleared (d.port port).disk first count) port
    cleared s = record {
      told_sectors = λ k. if nat_le first k && nat_lt k (first + count) then replicate 512 0 else s.told_sectors k;
      disk_tells = ap (option_map {U = ℕ → List ℕ} (λ (told : ℕ → List ℕ) (k : ℕ). if nat_le first k && nat_lt k (first + count) then replicate 512 0 else told k)) s.disk_tells;
      bytes_are_same = λ k b kl bl. by k b kl bl (nat_le first k && nat_lt k (first + count)) refl;
    }
      where
        by : (k b : ℕ) → k < (d.port port).disk.sector_count → b < 512 → (v : Bool) → (nat_le first k && nat_lt k (first + count)) ≡ v
            → slice_index (cond (nat_le first k && nat_lt k (first + count)) (replicate 512 0) (s.told_sectors k)) b ≡ swept_machine.disk_bytes (port_at port) k b
        by k b kl bl true e =
            let q = and_parts (nat_le first k) (nat_lt k (first + count)) e in
            let low : first ≤ k = leb-true first k q.0 in
            let high : k < first + count = ltb-true k (first + count) q.1 in
            ap (λ (l : List ℕ). slice_index l b) (cond-true (nat_le first k && nat_lt k (first + count)) (replicate 512 0) (s.told_sectors k) e)
            ∙ zeroed k b low high bl
        by k b kl bl false e =
            ap (λ (l : List ℕ). slice_index l b) (cond-false (nat_le first k && nat_lt k (first + count)) (replicate 512 0) (s.told_sectors k) e)
            ∙ s.bytes_are_same k b kl bl
            ∙ sym (done.others (port_at port) k b (λ _ low high.
            let c = starts.0 in
            let t' : (nat_le first k && nat_lt k (first + count)) ≡ true = and_from _ _ (le-leb first k (omega (arith, c, low))) (lt-ltb k (first + count) (omega (arith, c, high))) in
            let z : true ≡ false = sym t' ∙ e in cc))

    clear_serves : SimulatesSteps uses m d (device_after (Clear port slot t first count) d)
    clear_serves = record {
      steps = touch_steps h.pending t.cleared count;
      steps_are_enabled = done.may;
      disks_tell_sectors_is_same = refl;
      steps_are_faithful = λ _. done.told;
      new_entries = _;
      tape_is = refl;
      tape_tells_steps = (
        touch_steps h.pending t.cleared count,
        [],
        record { pending = h.pending; may_still_move = h.may_still_move; port_is = here_port; op_is = op; first_number = t.cleared; numbers_are_in_range = fits; first_is = starts.0; step_is = refl },
        refl,
        refl,
      );
      plugged_disks_match_steps = plugged_kept d port _ (touch_steps h.pending t.cleared count) refl (λ q. touches_put h.pending t.cleared count q);
      state_relation = acted NoPort uses m swept_machine d a d.memory (d.tape ++ clear_entry port slot first count ∷ []) port slot _ (record {
        id = h.pending.request.id;
        goes = done.goes;
        moves = others_move uses m swept_machine d a port slot id u (subst (λ (n : RequestId). Goes m swept_machine n) h.id_is done.goes);
        only = λ q z. absurd z;
        fixed = fixed_more uses d.memory d.tape (clear_entry port slot first count) (λ q o v z. z);
        others = λ k ne. record { issued = refl; sact = refl; taken = changed_other (d.port port).taken slot _ k ne; st = refl; cr = refl; since = refl; list = refl };
        here = subst (λ (v : SlotState). RelatesSlot swept_machine d.memory (d.tape ++ clear_entry port slot first count ∷ []) (record (d.port port) { taken = changed (d.port port).taken slot (Some (record t { cleared = t.cleared + count })); disk = disk_cleared (d.port port).disk first count }) port slot v) (sym u)
            (record {
              pending = with_sectors_touched h.pending t.cleared count;
              may_still_move = done.moves;
              id_is = ap (λ (j : Accepted). j.id) (touched_request h.pending t.cleared count) ∙ h.id_is;
              port_is = ap (λ (j : Accepted). j.port.0) (touched_request h.pending t.cleared count) ∙ h.port_is;
              list_is_in_place = placed_on (d.port port) _ port slot refl h.list_is_in_place;
              command = h.command;
              places = h.places;
              slot_decodes_to = h.slot_decodes_to;
              means = subst (λ (j : Accepted). MeansRequest port slot j h.command h.places) (sym (touched_request h.pending t.cleared count)) h.means;
              stage = inr (inl (record {
                command = record t { cleared = t.cleared + count };
                taken = changed_same (d.port port).taken slot _;
                meaning = x.meaning;
                places_are = x.places_are;
                running = x.running;
                ci_is_set_iff_st_and_plain = x.issued;
                sact = x.sact;
                progress = subst (λ (o : Op). TouchedAsMovedOrCleared o d.memory port (with_sectors_touched h.pending t.cleared count) (record t { cleared = t.cleared + count })) (sym (ap (λ (j : Accepted). j.asked.op) (touched_request h.pending t.cleared count) ∙ op))
                    (touched_upto h.pending t.cleared count was.0, inr ((let mv : t.moved ≡ length t.places = can.block_is_moved in let r : t.moved ≡ 1 = omega (arith, mv, one_place) in r), subst (λ (j : Accepted). MeansRange t.block j) (sym (touched_request h.pending t.cleared count)) range));
                unended = touched_ended h.pending t.cleared count ∙ x.unended;
              }));
            });
        fre = refl;
        received_at = refl;
        present = refl;
        name = refl;
        size = refl;
        sectors = λ t'. cleared (a.sectors_are_same_if_disks_tell t' port);
        other_sectors = λ t' q ne. sectors_on m swept_machine (d.port q).disk q (λ k b lb. done.others (port_at q) k b (λ e _ _. ne (e ∙ h.port_is))) (a.sectors_are_same_if_disks_tell t' q);
        lasting = λ t'. lasting_on m swept_machine d.tape _ (d.port port) (d.port port) port refl refl (lasting_swept m h.pending t.cleared count port) (gains_clear d.tape swept_machine port slot first count port zeroed) (a.knows_replug_candidates_if_disks_tell t' port);
        other_lasting = λ t' q ne. lasting_on m swept_machine d.tape _ (d.port q) (d.port q) q refl refl (lasting_swept m h.pending t.cleared count q) (gains_clear d.tape swept_machine port slot first count q zeroed) (a.knows_replug_candidates_if_disks_tell t' q);
        memory = λ f b from small. a.client_frames_are_same f b from small ∙ ap (λ (g : Memory). g f b) (sym done.memory);
      });
    }

  pub clear_follows : SimulatesSteps uses m d (device_after (Clear port slot t first count) d)
  clear_follows = by (uses port slot) refl (a.relates_slots port slot)
    where
      by : (v : SlotState) → uses port slot ≡ v → RelatesSlot m d.memory d.tape (d.port port) port slot v → SimulatesSteps uses m d (device_after (Clear port slot t first count) d)
      by Free u h = some_none can.works.taken h.is_not_taken
      by Armed u h = some_none can.works.taken h.is_not_taken
      by (Own o) u h = own h.stage
        where
          own : OwnAwaitsFetch (d.port port) slot ⊎ (OwnIsTaken d.memory d.tape (d.port port) port slot h.command ⊎ OwnIsOverWithPageIfSt d.memory d.tape (d.port port) port slot h.command) → SimulatesSteps uses m d (device_after (Clear port slot t first count) d)
          own (inl x) = some_none can.works.taken x.is_not_taken
          own (inr (inl x)) =
              let e : x.command ≡ t = some_same (sym x.taken ∙ can.works.taken) in
              none_op (sym h.operation_is_drivers_own ∙ ap client_operation_of (sym h.operation_is) ∙ ap (λ (c : Meaning). client_operation_of c.operation) (sym x.meaning) ∙ ap (λ (y : FetchedCommand). client_operation_of y.meaning.operation) e ∙ ap client_operation_of can.trim)
          own (inr (inr x)) = some_none can.works.taken x.over.is_not_taken
      by (Serves id) u h = clear_serves id u h (taken_as d.memory (d.port port) port slot h.pending h.command h.places t can.works.taken h.stage)
