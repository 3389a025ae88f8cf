-- A read that may be fetched can be done: one piece after another.
use Rattle.std.proofs.Common.{ℕ, zero, suc, true, ◌≡◌, ◌+◌, ◌<◌, ◌≤◌, List, [], ◌∷◌, ◌++◌, length, slice_index, Option, None, Some, IfSome, Bool, false, refl, sym, ◌∙◌, ap, subst, arith, inl, inr, append_assoc, append-nil}
use Rattle.std.proofs.lemmas.Bool.{cases_eq}
use Rattle.adapter.specs.AskedSteps.{DoesExactlySlotSteps, EndsAndPosts, PostsNone}
use Rattle.adapter.specs.Memory.{patched, bytes_at, changed}
use Rattle.adapter.specs.Device.{Disk, IsValidSector, FetchedCommand, Halt, DevicePort, Device}
use Rattle.adapter.specs.OneCommand.{SlotHasNoCommand}
use Rattle.adapter.specs.ReadDone.{read_of, IsReadThatCanComplete, read_move_entries, IsReadDone}
use Rattle.adapter.specs.Steps.{device_after, Steps, WorksOn, IsWorking, admits, newly_fetched, MayMove, MayBeDone, port_after_fetch, port_after_move, port_after_done_except_lasting, done_entry, move_of}
use Rattle.adapter.specs.Steps.DeviceTransition.{Fetch, Move, Done}
use Rattle.adapter.specs.declared.command.Operation.{Operation}
use Rattle.adapter.specs.declared.command.Operation.TheVariants.{Read, Trim}
use Rattle.adapter.specs.declared.tape.Entry.{Entry}
use Rattle.adapter.specs.declared.tape.Entry.TheVariants as entry
use Rattle.adapter.proofs.Changed.{changed_same}
use Rattle.adapter.proofs.MemoryLemmas.{bytes_same, patched_apart, patched_bytes}
use Rattle.adapter.proofs.Runs.{Steps-one, Steps-trans}

-- a port that works goes on to, with other slots and registers
pub still_working : (p new : DevicePort) (o : Operation) → o ≡ Read → IsWorking p o → new.cr ≡ p.cr → new.present ≡ p.present → new.fresh ≡ p.fresh → new.halt ≡ p.halt → new.broken ≡ p.broken → IsWorking new Read
still_working p new o read w cr present fresh halt broken = record {
  cr_is_set = cr ∙ w.cr_is_set;
  present = present ∙ w.present;
  fresh = fresh ∙ w.fresh;
  admitted = ap (λ (h : Halt). admits h Read) halt ∙ (ap (admits p.halt) (sym read) ∙ w.admitted);
  is_not_broken = broken ∙ w.is_not_broken;
}

module _ (old : Device) (port slot first count : ℕ) (places : List ℕ) (told : ℕ → List ℕ) (may : IsReadThatCanComplete old port slot first count places told) where
  -- the command when so many of its pieces were moved
  abbrev command : ℕ → FetchedCommand
  command n = record (newly_fetched (read_of first count) places) { moved = n }

  -- so many pieces were moved
  record IsMoved (n : ℕ) (d : Device) : Type 0 where
    pub steps : Steps old d
    pub goes : DoesExactlySlotSteps PostsNone (suc n) port slot old d
    pub is : (d.port port).is ≡ (old.port port).is
    pub works : WorksOn (d.port port) slot (command n) Read
    pub disk : (d.port port).disk ≡ (old.port port).disk
    pub size : d.memory_size ≡ old.memory_size
    pub tape : d.tape ≡ old.tape ++ read_move_entries port slot first places told n
    pub bytes : (k : ℕ) → k < n → bytes_at d.memory (slice_index places k) 512 ≡ told (first + k)

  many : length places ≡ count
  many = may.may_be_fetched.says.place_count_is

  none_moved : IsMoved 0 (device_after (Fetch port slot (read_of first count) places) old)
  none_moved =
      let d : Device = device_after (Fetch port slot (read_of first count) places) old in
      let new : DevicePort = port_after_fetch (old.port port) slot (read_of first count) places in
      let here : d.port port ≡ new = changed_same old.port port new in
      let P : DevicePort → Type 0 = λ p. WorksOn p slot (command 0) Read in
      record {
        steps = Steps-one (Fetch port slot (read_of first count) places) old d may.may_be_fetched refl;
        goes = (old, refl, inl (record { meaning = read_of first count; places = places; can = may.may_be_fetched; effect = refl }));
        is = ap (λ (p : DevicePort). p.is) here;
        works = subst P (sym here)
            (record {
              taken = changed_same (old.port port).taken slot (Some (command 0));
              working = still_working (old.port port) new Read refl may.may_be_fetched.working refl refl refl refl refl;
            });
        disk = ap (λ (p : DevicePort). p.disk) here;
        size = refl;
        tape = sym (append-nil old.tape);
        bytes = λ k small. absurd (omega arith);
      }

  -- the next piece is moved
  module _ (n : ℕ) (left : n < count) (d : Device) (m : IsMoved n d) where
    sector : List ℕ
    sector = told (first + n)

    is_sector : IsValidSector sector
    unfolding sector
    is_sector = may.disk_holds_sectors told may.told_is (first + n) (omega (arith, left, may.on_disk))

    may_move : MayMove d port slot (command n) sector
    unfolding sector
    may_move = record {
      works = m.works;
      piece_is_left = omega (arith, left, many);
      bytes_are_sector = is_sector;
      brings =
          let P : Disk → Type 0 = λ disk. (first + n < disk.sector_count) × IfSome disk.sectors (λ f. told (first + n) ≡ f (first + n)) in
          let Q : Option (ℕ → List ℕ) → Type 0 = λ o. IfSome o (λ f. told (first + n) ≡ f (first + n)) in
          subst P (sym m.disk) (omega (arith, left, may.on_disk), subst Q (sym may.told_is) refl);
    }

    next : Device
    next = device_after (Move port slot (command n) sector) d

    moved_bytes : (k : ℕ) → k < suc n → bytes_at next.memory (slice_index places k) 512 ≡ told (first + k)
    unfolding next sector
    moved_bytes k small =
        elim (cases_eq k n) [
          | inl e ↦
              let P : ℕ → Type 0 = λ j. bytes_at (patched d.memory (slice_index places n) (told (first + n))) (slice_index places j) 512 ≡ told (first + j) in
              let Q : ℕ → Type 0 = λ l. bytes_at (patched d.memory (slice_index places n) (told (first + n))) (slice_index places n) l ≡ told (first + n) in
              subst P (sym e) (subst Q (is_sector.0) (patched_bytes d.memory (slice_index places n) (told (first + n))))
          | inr ne ↦
              let before : k < n = omega (arith, small, ne) in
              let size : length (told (first + n)) ≡ 512 = is_sector.0 in
              let apart = may.pieces_are_apart k n before left in
              bytes_same d.memory (patched d.memory (slice_index places n) (told (first + n))) (slice_index places k) 512
              (λ a low high.
              patched_apart d.memory (slice_index places n) (told (first + n)) a
              (λ from to. elim apart [ inl below ↦ absurd (omega (arith, below, from, high)) | inr above ↦ absurd (omega (arith, above, to, size, low)) ]))
              ∙ m.bytes k before
        ]

    one_more : IsMoved (suc n) next
    unfolding next sector
    one_more =
        let new : DevicePort = port_after_move (d.port port) slot (command n) (told (first + n)) in
        let here : next.port port ≡ new = changed_same d.port port new in
        let P : DevicePort → Type 0 = λ p. WorksOn p slot (command (suc n)) Read in
        let number : n + 1 ≡ suc n = omega arith in
        record {
          steps = Steps-trans m.steps (Steps-one (Move port slot (command n) (told (first + n))) d next may_move refl);
          goes = (d, m.goes, inr (inl (record { fetched_command = command n; bytes = told (first + n); can = may_move; effect = refl })));
          is = ap (λ (p : DevicePort). p.is) here ∙ m.is;
          works = subst P (sym here)
              (record {
                taken = changed_same (d.port port).taken slot (Some (command (n + 1))) ∙ ap (λ (j : ℕ). Some (command j)) number;
                working = still_working (d.port port) new Read refl m.works.working refl refl refl refl refl;
              });
          disk = ap (λ (p : DevicePort). p.disk) here ∙ m.disk;
          size = m.size;
          tape = ap (λ (entries : List Entry). entries ++ entry.Move (move_of port slot (command n) (told (first + n))) ∷ []) m.tape ∙ append_assoc old.tape (read_move_entries port slot first places told n) _;
          bytes = moved_bytes;
        }

  all_moved : (n : ℕ) → n ≤ count → (d : Device) × IsMoved n d
  all_moved zero few = (device_after (Fetch port slot (read_of first count) places) old, none_moved)
  all_moved (suc n) few =
      let before = all_moved n (omega arith) in (next n few before.0 before.1, one_more n few before.0 before.1)

  pub read_done : (new : Device) × IsReadDone old new port slot first count places told
  read_done =
      let before = all_moved count (omega arith) in
      let d : Device = before.0 in
      let m : IsMoved count d = before.1 in
      let end : Device = device_after (Done port slot 0 (command count)) d in
      let new : DevicePort = port_after_done_except_lasting (d.port port) slot 0 Read in
      let here : end.port port ≡ new = changed_same d.port port new in
      let can : MayBeDone d port slot 0 (command count) = record {
        works = m.works;
        finished = record { all_is_moved = sym many; all_is_cleared = λ trim. absurd (let f : Read ≡ Trim = trim in cc) };
        cause_is_allowed = inl refl;
      } in
      let ended : EndsAndPosts PostsNone port slot d end =
      record { after_end = end; done = record { cause_bit = 0; fetched_command = command count; can = can; effect = refl }; posts = refl } in
      let P : DevicePort → Type 0 = λ p. SlotHasNoCommand p slot in (
        end,
        record {
          steps = Steps-trans m.steps (Steps-one (Done port slot 0 (command count)) d end can refl);
          slot_goes_on = (suc count, (d, m.goes, inr (inr (inl ended))));
          dhrs_is_shown = ap (λ (p : DevicePort). p.is) here ∙ ap (λ (f : ℕ → Bool). changed f 0 true) m.is;
          slot_has_no_command = subst P (sym here)
              (record { is_not_issued = changed_same (d.port port).ci slot false; is_not_taken = changed_same (d.port port).taken slot None });
          tape_tells_read = ap (λ (entries : List Entry). entries ++ done_entry port slot Read ∷ []) m.tape ∙ append_assoc old.tape (read_move_entries port slot first places told count) _;
          sectors_are_in_memory = m.bytes;
        },
      )
