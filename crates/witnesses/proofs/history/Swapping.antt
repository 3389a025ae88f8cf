-- The device takes two queued reads, ends the second, and then the first; a service reads the masks after each. This is the way of the device.
use Rattle.std.proofs.Common.{ℕ, zero, suc, ◌≡◌, ◌<◌, ◌≤◌, ◌*◌, ◌+◌, ◌∙◌, ◌++◌, ◌==◌, Bool, true, false, List, [], ◌∷◌, None, Some, inr, refl, sym, ap, subst, arith}
use Rattle.std.proofs.lemmas.Bool.{cond-false, ne_eqb}
use Rattle.hba_regs.specs.Bits.{bit}
use Rattle.hba_regs.specs.declared.reg.Reg.TheVariants.{Px}
use Rattle.hba_regs.specs.declared.reg.PortReg.TheVariants.{Sact, Ci}
use Rattle.adapter.specs.Access.{Access, DoesAll, PortShows, notes_after_reading}
use Rattle.adapter.specs.Access.Access.{Reading}
use Rattle.adapter.specs.Commands.{is_queued}
use Rattle.adapter.specs.Device.{Disk, DevicePort, FetchedCommand, Device}
use Rattle.adapter.specs.FirstRead.{first_disk_sector}
use Rattle.adapter.specs.Memory.{changed, patched}
use Rattle.adapter.specs.Decoding.{DecodesTo, piece_addresses}
use Rattle.adapter.specs.Steps.{admits, MayBring, IsAloneOrAllAreQueued, IsWorking, Steps, newly_fetched, done_entry, move_of, port_after_done_except_lasting, port_after_fetch, port_after_move}
use Rattle.adapter.specs.Steps.DeviceTransition.{Fetch, Move, Done}
use Rattle.adapter.specs.declared.command.Operation.TheVariants.{ReadQueued, Trim}
use Rattle.adapter.specs.declared.tape.Entry.{Entry}
use Rattle.adapter.specs.declared.tape.Entry.TheVariants as entry
use Rattle.refinement.specs.Relation.{port_at}
use Rattle.refinement.specs.Slots.{SlotDecodesTo}
use Rattle.witnesses.specs.AllowedAccesses.{AreAllowed}
use Rattle.witnesses.specs.QueuedReads.{first_done_accesses, second_done_accesses}
use Rattle.witnesses.specs.RunningAdapter.{running_device, queueing_page}
use Rattle.witnesses.proofs.history.Command.{queued_read}
use Rattle.witnesses.proofs.history.Devices.{but_first, changed_here, no_bit, other_bit, past_first, past_second, put_device, reads, step_first}
use Rattle.witnesses.proofs.history.Losing.{is_sector}
use Rattle.witnesses.proofs.history.Queueing.{first_told, neither, second_told, two_issued, two_reads_memory}
use Rattle.witnesses.proofs.history.Ready.{Stands}
use Rattle.witnesses.proofs.history.Submitting.{second, sent}

-- ---- steps on port 0

abbrev pub reads_into : ℕ → ℕ → FetchedCommand
reads_into k n = newly_fetched (queued_read k) (piece_addresses (4096 * n) 1)

-- the sector is moved, and the command ends with a Set Device Bits FIS
abbrev pub finished : ℕ → ℕ → ℕ → DevicePort → DevicePort
finished slot k n p = port_after_done_except_lasting (port_after_move p slot (reads_into k n) (first_disk_sector k)) slot 3 ReadQueued

works : (p : DevicePort) → Stands p → IsWorking p ReadQueued
works p stands = record {
  cr_is_set = ap (λ (q : DevicePort). q.cr) stands.same;
  present = ap (λ (q : DevicePort). q.present) stands.same;
  fresh = ap (λ (q : DevicePort). q.fresh) stands.same;
  admitted = ap (λ (q : DevicePort). admits q.halt ReadQueued) stands.same;
  is_not_broken = ap (λ (q : DevicePort). q.broken) stands.same;
}

module _ (tape : List Entry) (memory : ℕ → ℕ) (p : DevicePort) (stands : Stands p) (slot k n : ℕ) where
  -- the command is taken, and then the device does more
  fetches : p.ci slot ≡ true → p.taken slot ≡ None → IsAloneOrAllAreQueued p ReadQueued → SlotDecodesTo memory 0 0 slot (queued_read k) (piece_addresses (4096 * n) 1) → (new : Device)
      → Steps (running_device tape memory (port_after_fetch p slot (queued_read k) (piece_addresses (4096 * n) 1) ∷ second ∷ [])) new → Steps (running_device tape memory (p ∷ second ∷ [])) new
  fetches issued free alone told new = step_first (Fetch 0 slot (queued_read k) (piece_addresses (4096 * n) 1)) (running_device tape memory (p ∷ second ∷ [])) (running_device tape memory (taken ∷ second ∷ [])) new
      (record {
        fetchable = record { st_is_set = ap (λ (q : DevicePort). q.st) stands.same; issued = issued; free = free };
        working = works p stands;
        is_alone_or_all_are_queued = alone;
        says = subst (λ (list : ℕ). DecodesTo memory list slot (queued_read k) (piece_addresses (4096 * n) 1)) (sym (ap (λ (q : DevicePort). q.bases.clb) stands.same)) told.decodes_to;
      })
      (put_device tape memory 0 (p ∷ second ∷ []) (taken ∷ second ∷ []) taken refl (but_first p taken (second ∷ [])))
    where
      taken : DevicePort
      taken = port_after_fetch p slot (queued_read k) (piece_addresses (4096 * n) 1)

  -- so it is once the sector was moved, and the command has ended
  finishes : p.taken slot ≡ Some (reads_into k n) → k < 256 → (new : Device)
      → Steps (running_device ((tape ++ entry.Move (move_of 0 slot (reads_into k n) (first_disk_sector k)) ∷ []) ++ done_entry 0 slot ReadQueued ∷ []) (patched memory (4096 * n) (first_disk_sector k)) (finished slot k n p ∷ second ∷ [])) new
      → Steps (running_device tape memory (p ∷ second ∷ [])) new
  finishes taken low new rest =
      step_first (Move 0 slot (reads_into k n) (first_disk_sector k)) (running_device tape memory (p ∷ second ∷ [])) (running_device tape_moved memory_moved (moved ∷ second ∷ [])) new
      (record {
        works = record { taken = taken; working = works p stands };
        piece_is_left = omega arith;
        bytes_are_sector = is_sector k low;
        brings = subst (λ (disk : Disk). MayBring disk memory (reads_into k n) ReadQueued (first_disk_sector k)) (sym (ap (λ (q : DevicePort). q.disk) stands.same)) (omega (arith, low), ap first_disk_sector (let same : k ≡ k + 0 = omega arith in same));
      })
      (put_device tape_moved memory_moved 0 (p ∷ second ∷ []) (moved ∷ second ∷ []) moved refl (but_first p moved (second ∷ [])))
      (step_first (Done 0 slot 3 (record (reads_into k n) { moved = 1 })) (running_device tape_moved memory_moved (moved ∷ second ∷ [])) (running_device tape_done memory_moved (finished slot k n p ∷ second ∷ [])) new
      (record {
        works = record { taken = moved_taken; working = works_moved };
        finished = record { all_is_moved = refl; all_is_cleared = λ e. absurd (let x : ReadQueued ≡ Trim = e in cc) };
        cause_is_allowed = inr (inr refl);
      })
      (put_device tape_done memory_moved 0 (moved ∷ second ∷ []) (finished slot k n p ∷ second ∷ []) (finished slot k n p) refl (but_first moved (finished slot k n p) (second ∷ []))) rest)
    where
      moved : DevicePort
      moved = port_after_move p slot (reads_into k n) (first_disk_sector k)

      tape_moved : List Entry
      tape_moved = tape ++ entry.Move (move_of 0 slot (reads_into k n) (first_disk_sector k)) ∷ []

      tape_done : List Entry
      tape_done = tape_moved ++ done_entry 0 slot ReadQueued ∷ []

      memory_moved : ℕ → ℕ
      memory_moved = patched memory (4096 * n) (first_disk_sector k)

      works_moved : IsWorking moved ReadQueued
      works_moved = let w = works p stands in record { cr_is_set = w.cr_is_set; present = w.present; fresh = w.fresh; admitted = w.admitted; is_not_broken = w.is_not_broken }

      moved_taken : moved.taken slot ≡ Some (record (reads_into k n) { moved = 1 })
      moved_taken = changed_here p.taken slot (Some (record (reads_into k n) { moved = 1 }))

-- ---- the masks are read

abbrev pub seen : ℕ → ℕ → DevicePort → DevicePort
seen ci sact p = record p { notes = notes_after_reading Sact sact (record p { notes = notes_after_reading Ci ci p }) }

module _ (old : Device) (tape : List Entry) (memory : ℕ → ℕ) (p : DevicePort) (ci sact : ℕ) (steps : Steps old (running_device tape memory (p ∷ second ∷ []))) (waits : PortShows Ci ci p) (active : PortShows Sact sact p) where
  abbrev masks : List Access
  masks = Reading (Px (port_at 0) Ci) ci ∷ Reading (Px (port_at 0) Sact) sact ∷ []

  abbrev with_ci : DevicePort
  with_ci = record p { notes = notes_after_reading Ci ci p }

  unfoldable reads_masks : DoesAll masks old (running_device tape memory (seen ci sact p ∷ second ∷ []))
  reads_masks = (
    running_device tape memory (with_ci ∷ second ∷ []),
    record {
      at_access = running_device tape memory (p ∷ second ∷ []);
      steps = steps;
      shows = waits;
      effect = put_device tape memory 0 (p ∷ second ∷ []) (with_ci ∷ second ∷ []) with_ci refl (but_first p with_ci (second ∷ []));
    },
    (
      running_device tape memory (seen ci sact p ∷ second ∷ []),
      reads tape memory 0 (with_ci ∷ second ∷ []) (seen ci sact p ∷ second ∷ []) (but_first with_ci (seen ci sact p) (second ∷ [])) Sact sact active refl,
      refl,
    ),
  )

  -- and that keeps to the rules
  pub finds : (does : DoesAll masks old (running_device tape memory (seen ci sact p ∷ second ∷ []))) × AreAllowed masks old (running_device tape memory (seen ci sact p ∷ second ∷ [])) does
  unfolding reads_masks reads
  finds = (reads_masks, ((record { ae_is_set = refl; no_reset = refl }, (omega arith, refl)), ((record { ae_is_set = refl; no_reset = refl }, (omega arith, refl)), tt)))

-- ---- both are taken

abbrev first_taken : DevicePort
first_taken = port_after_fetch two_issued 0 (queued_read 100) (piece_addresses (4096 * 100) 1)

abbrev both_taken : DevicePort
both_taken = port_after_fetch first_taken 1 (queued_read 101) (piece_addresses (4096 * 101) 1)

-- the first command is queued, so the second may be taken beside it
beside : IsAloneOrAllAreQueued first_taken ReadQueued
beside zero t is = let same : reads_into 100 100 ≡ t = some_same (sym (changed_here two_issued.taken 0 (Some (reads_into 100 100))) ∙ is) in ap (λ (t : FetchedCommand). is_queued t.meaning.operation) (sym same)
  where
    some_same : {t : FetchedCommand} → Some (reads_into 100 100) ≡ Some t → reads_into 100 100 ≡ t
    some_same e = cc
beside (suc k) t is = absurd (let x : None ≡ Some t = sym (past_first two_issued.taken (Some (reads_into 100 100)) k) ∙ is in cc)

-- no bit of PxCI is left
none_waits : (k : ℕ) → both_taken.ci k ≡ false
unfolding changed
none_waits zero = refl
none_waits (suc zero) = refl
none_waits (suc (suc k)) = past_second (changed two_issued.ci 0 false) false k ∙ past_first two_issued.ci false (suc k) ∙ neither k

-- ---- the second ends

abbrev second_done : DevicePort
second_done = finished 1 101 101 both_taken

abbrev pub found : DevicePort
found = seen 0 1 second_done

-- the bit of the first is left in PxSACT
pub one_active : (k : ℕ) → found.sact k ≡ bit 1 k
unfolding changed
one_active zero = refl
one_active (suc zero) = refl
one_active (suc (suc k)) = past_second two_issued.sact false k ∙ neither k ∙ sym (other_bit (suc (suc k)) (omega arith))

pub found_waits : (k : ℕ) → found.ci k ≡ false
found_waits = none_waits

pub found_taken : found.taken 0 ≡ Some (reads_into 100 100)
unfolding changed
found_taken = refl

pub found_free : (k : ℕ) → found.taken (suc k) ≡ None
unfolding changed
found_free zero = refl
found_free (suc k) =
    past_second (changed both_taken.taken 1 (Some (record (reads_into 101 101) { moved = 1 }))) None k
    ∙ past_second both_taken.taken (Some (record (reads_into 101 101) { moved = 1 })) k
    ∙ past_second first_taken.taken (Some (reads_into 101 101)) k
    ∙ past_first two_issued.taken (Some (reads_into 100 100)) (suc k)

-- SDBS tells of no trouble
undisturbed : (is : ℕ → Bool) → ((place : ℕ) → 27 ≤ place → is place ≡ false) → (place : ℕ) → 27 ≤ place → changed is 3 true place ≡ false
unfolding changed
undisturbed is calm place from = cond-false (place == 3) true (is place) (ne_eqb place 3 (omega (arith, from))) ∙ calm place from

pub found_stands : Stands found
found_stands = record { same = refl; quiet = undisturbed both_taken.is (λ place from. refl) }

-- ---- and then the first

abbrev first_done : DevicePort
first_done = finished 0 100 100 found

abbrev pub found_again : DevicePort
found_again = seen 0 0 first_done

pub none_active : (k : ℕ) → found_again.sact k ≡ false
unfolding changed
none_active zero = refl
none_active (suc k) = past_first found.sact false k ∙ one_active (suc k) ∙ other_bit (suc k) (omega arith)

pub again_free : (k : ℕ) → found_again.taken k ≡ None
unfolding changed
again_free zero = refl
again_free (suc k) = past_first (changed found.taken 0 (Some (record (reads_into 100 100) { moved = 1 }))) None k ∙ past_first found.taken (Some (record (reads_into 100 100) { moved = 1 })) k ∙ found_free k

pub again_stands : Stands found_again
again_stands = record { same = refl; quiet = undisturbed found.is found_stands.quiet }

-- ---- what the services do

abbrev pub ends : ℕ → ℕ → ℕ → List Entry
ends slot k n = entry.Move (move_of 0 slot (reads_into k n) (first_disk_sector k)) ∷ done_entry 0 slot ReadQueued ∷ []

abbrev pub pages : List Entry
pages = sent queueing_page

abbrev pub swapped_memory : ℕ → ℕ
swapped_memory = patched two_reads_memory (4096 * 101) (first_disk_sector 101)

abbrev pub swapped : Device
swapped = running_device (pages ++ ends 1 101 101) swapped_memory (found ∷ second ∷ [])

abbrev pub ended : Device
ended = running_device (pages ++ (ends 1 101 101 ++ ends 0 100 100)) (patched swapped_memory (4096 * 100) (first_disk_sector 100)) (found_again ∷ second ∷ [])

abbrev issued_device : Device
issued_device = running_device pages two_reads_memory (two_issued ∷ second ∷ [])

abbrev second_ended : Device
second_ended = running_device (pages ++ ends 1 101 101) swapped_memory (second_done ∷ second ∷ [])

abbrev first_ended : Device
first_ended = running_device (pages ++ (ends 1 101 101 ++ ends 0 100 100)) (patched swapped_memory (4096 * 100) (first_disk_sector 100)) (first_done ∷ second ∷ [])

stays : (d : Device) → Steps d d
stays d = record { steps = []; lead = refl }

second_ends : Steps issued_device second_ended
second_ends =
    fetches pages two_reads_memory two_issued (record { same = refl; quiet = λ place from. refl }) 0 100 100
    refl refl (λ slot t is. absurd (let x : None ≡ Some t = is in cc)) first_told second_ended
    (fetches pages two_reads_memory first_taken (record { same = refl; quiet = λ place from. refl }) 1 101 101
    (past_first two_issued.ci false 0) (past_first two_issued.taken (Some (reads_into 100 100)) 0) beside second_told second_ended
    (finishes pages two_reads_memory both_taken (record { same = refl; quiet = λ place from. refl }) 1 101 101
    (changed_here first_taken.taken 1 (Some (reads_into 101 101))) (omega arith) second_ended (stays second_ended)))

first_ends : Steps swapped first_ended
first_ends = finishes (pages ++ ends 1 101 101) swapped_memory found found_stands 0 100 100 found_taken (omega arith) first_ended (stays first_ended)

pub finds_second : (does : DoesAll second_done_accesses issued_device swapped) × AreAllowed second_done_accesses issued_device swapped does
finds_second = finds issued_device (pages ++ ends 1 101 101) swapped_memory second_done 0 1 second_ends (λ k low. no_bit k ∙ sym (none_waits k)) (λ k low. sym (one_active k))

pub finds_first : (does : DoesAll first_done_accesses swapped ended) × AreAllowed first_done_accesses swapped ended does
finds_first = finds swapped (pages ++ (ends 1 101 101 ++ ends 0 100 100)) (patched swapped_memory (4096 * 100) (first_disk_sector 100)) first_done 0 0 first_ends
    (λ k low. no_bit k ∙ sym (none_waits k)) (λ k low. no_bit k ∙ sym (none_active k))
