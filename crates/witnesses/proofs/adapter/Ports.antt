-- The adapter that the runs begin with, and what makes accesses allowed and commands safe there.
use Rattle.std.proofs.Common.{ℕ, zero, suc, ◌≡◌, ◌≢◌, ◌<◌, ◌≤◌, ◌+◌, ◌*◌, ◌/◌, ◌%◌, ◌^◌, ◌&&◌, ◌||◌, Bool, true, false, List, [], ◌∷◌, ◌++◌, Some, None, length, nat_eq, ne_eqb, ◌==◌, subst, inl, inr, arith, refl, sym, ap, ◌∙◌}
use Rattle.std.proofs.lemmas.Bool.{eqb-true}
use Rattle.std.proofs.lemmas.Bool.Decides.{eqb_tells, nat_tests}
use Rattle.std.proofs.lemmas.List.{length-replicate}
use Rattle.std.proofs.lemmas.List.Elements.{All-replicate}
use Rattle.std.proofs.lemmas.Nat.Bits.{bit_at-pow_other}
use Rattle.std.specs.Int.{bit_at}
use Rattle.hba_regs.specs.Bits.{bit}
use Rattle.hba_regs.specs.declared.reg.Reg.TheVariants.{Ghc, Px}
use Rattle.adapter.specs.Access.Access.{Reading, Writing}
use Rattle.adapter.specs.Steps.DeviceTransition.{Fall, LinkUp, Unplug}
use Rattle.witnesses.specs.AdapterRuns.AccessOrStep.{MadeAccess, DeviceStepCame}
use Rattle.adapter.specs.Commands.{Meaning, is_queued}
use Rattle.adapter.specs.Device.{Disk, HasValidSectors, IsValidSector, HasKnownSectors, DevicePort, Device}
use Rattle.adapter.specs.FirstRead.{first_disk, no_disk, empty_port, first_disk_sector}
use Rattle.adapter.specs.Guarded.{IsGuardedSlot, IsGuardedPort, PassesTest}
use Rattle.adapter.specs.Idle.{IsIdle, IsIdlePort, HoldsBytesAndTellsDisks}
use Rattle.adapter.specs.Memory.{changed}
use Rattle.adapter.specs.Rules.{IsProgrammed, MayWriteCmd, MayIssue}
use Rattle.adapter.specs.Decoding.{DecodesTo}
use Rattle.witnesses.specs.AdapterRuns.{AccessOrStep, IsAsReset, IsReachableByRun, CommandBytesAreGuarded, AllMayCome, device_after_run, after_access_or_step}
use Rattle.witnesses.proofs.adapter.RunningAdapter.{memory, memory_bytes}
use Rattle.witnesses.proofs.adapter.Sets.{Range, is_in, covers, spares, spares_all, covered, spared, avoided, both, true-false}

-- ---- the adapter

-- a port with a disk, as after a reset
abbrev pub disk_port : DevicePort
disk_port = record empty_port { disk = first_disk; plug_history = first_disk ∷ []; present = true }

-- Ports 0 and 1 have a disk; the memory has the commands.
abbrev pub first : Device
first = record {
  disks_tell_sectors = true;
  memory_size = 4096 * 256;
  memory = memory;
  cap = 0x1f03;
  pi = 0x0f;
  hr = false;
  ae = false;
  ie = false;
  port = changed (changed (λ _. empty_port) 0 disk_port) 1 disk_port;
  tape = [];
}

pub at_each : (P : DevicePort → Type 0) → P disk_port → P empty_port → (q : ℕ) → P (first.port q)
unfolding changed
at_each P with_disk without q =
    elim (eqb_tells q 1) [
      | inl one ↦ rw one.0 with_disk
      | inr more ↦ rw more.0 (elim (eqb_tells q 0) [ inl none ↦ rw none.0 with_disk | inr some ↦ rw some.0 without ])
    ]

pub first_idle : IsIdle first
first_idle = record {
  no_reset = refl;
  ports_are_idle = at_each IsIdlePort
      (record { st_is_clear = refl; cr_is_clear = refl; fre_is_clear = refl; fr_is_clear = refl; ci_is_clear = λ _. refl; sact_is_clear = λ _. refl; none_is_taken = λ _. refl })
      (record { st_is_clear = refl; cr_is_clear = refl; fre_is_clear = refl; fr_is_clear = refl; ci_is_clear = λ _. refl; sact_is_clear = λ _. refl; none_is_taken = λ _. refl });
}

-- ---- runs go on

run_append : (xs ys : List AccessOrStep) (d : Device) → device_after_run ys (device_after_run xs d) ≡ device_after_run (xs ++ ys) d
run_append [] ys d = refl
run_append (x ∷ xs) ys d = run_append xs ys (after_access_or_step x d)

may_append : (xs ys : List AccessOrStep) (d : Device) → AllMayCome xs d → AllMayCome ys (device_after_run xs d) → AllMayCome (xs ++ ys) d
may_append [] ys d h more = more
may_append (x ∷ xs) ys d h more = (h.0, may_append xs ys (after_access_or_step x d) h.1 more)

pub reached_more : {d : Device} → IsReachableByRun d → (events : List AccessOrStep) → AllMayCome events d → IsReachableByRun (device_after_run events d)
reached_more {d} r events may = record {
  initial_device = r.initial_device;
  starts_idle = r.starts_idle;
  is_off = r.is_off;
  ports_are_as_reset = r.ports_are_as_reset;
  holds_bytes_and_tells_disks = r.holds_bytes_and_tells_disks;
  events = r.events ++ events;
  events_may_come = may_append r.events events r.initial_device r.events_may_come (let P : Device → Type 0 = λ e. AllMayCome events e in subst P r.device_is may);
  device_is = ap (λ (e : Device). device_after_run events e) r.device_is ∙ run_append r.events events r.initial_device;
}

-- an event of this port, or one that leaves all ports
unfoldable pub is_of : ℕ → AccessOrStep → Bool
is_of p (MadeAccess (Reading (Px port r) v)) = nat_eq port.0 p
is_of p (MadeAccess (Writing (Px port r) v)) = nat_eq port.0 p
is_of p (MadeAccess (Writing Ghc v)) = true
is_of p (DeviceStepCame (LinkUp q sig n)) = nat_eq q p
is_of p (DeviceStepCame (Fall q)) = nat_eq q p
is_of p (DeviceStepCame (Unplug q)) = nat_eq q p
is_of p _ = false

unfoldable pub are_of : ℕ → List AccessOrStep → Bool
are_of p [] = true
are_of p (event ∷ events) = is_of p event && are_of p events

changed_elsewhere : (f : ℕ → DevicePort) (place p q : ℕ) (new : DevicePort) → nat_eq place p ≡ true → q ≢ p → changed f place new q ≡ f q
unfolding changed
changed_elsewhere f place p q new here other =
    let same : place ≡ p = eqb-true place p here in
    let ne : q ≢ place = (λ e. other (e ∙ same)) in
    rw (ne_eqb q place ne) refl

event_elsewhere : (p : ℕ) (event : AccessOrStep) (d : Device) → is_of p event ≡ true → (q : ℕ) → q ≢ p → (after_access_or_step event d).port q ≡ d.port q
unfolding is_of
event_elsewhere p (MadeAccess (Reading (Px port r) v)) d h q other = changed_elsewhere d.port port.0 p q _ h other
event_elsewhere p (MadeAccess (Writing (Px port r) v)) d h q other = changed_elsewhere d.port port.0 p q _ h other
event_elsewhere p (MadeAccess (Writing Ghc v)) d h q other = refl
event_elsewhere p (DeviceStepCame (LinkUp port sig n)) d h q other = changed_elsewhere d.port port p q _ h other
event_elsewhere p (DeviceStepCame (Fall port)) d h q other = changed_elsewhere d.port port p q _ h other
event_elsewhere p (DeviceStepCame (Unplug port)) d h q other = changed_elsewhere d.port port p q _ h other
event_elsewhere p _ d h q other = absurd (true-false h refl)

-- the events of one port leave the others
pub run_elsewhere : (p : ℕ) (events : List AccessOrStep) (d : Device) → are_of p events ≡ true → (q : ℕ) → q ≢ p → (device_after_run events d).port q ≡ d.port q
unfolding are_of
run_elsewhere p [] d h q other = refl
run_elsewhere p (event ∷ events) d h q other =
    run_elsewhere p events (after_access_or_step event d) (both _ _ h).1 q other ∙ event_elsewhere p event d (both _ _ h).0 q other

-- ---- what is allowed

-- two values have the same bits below a place, but for bits 0 and 4
unfoldable pub same_others : ℕ → ℕ → ℕ → Bool
same_others v w zero = true
same_others v w (suc n) = (nat_eq n 0 || nat_eq n 4 || nat_eq (bit_at v n) (bit_at w n)) && same_others v w n

same_here : (v w n place : ℕ) → place ≡ n → nat_eq n 0 || nat_eq n 4 || nat_eq (bit_at v n) (bit_at w n) ≡ true → place ≢ 0 → place ≢ 4 → bit v place ≡ bit w place
same_here v w n place here h no_st no_fre =
    let same : bit_at v n ≡ bit_at w n = grind (arith, nat_tests) in
    ap (λ (k : ℕ). bit v k) here ∙ (ap (λ (b : ℕ). b == 1) same ∙ ap (λ (k : ℕ). bit w k) (sym here))

others_below : (v w n : ℕ) → same_others v w n ≡ true → (place : ℕ) → place < n → place ≢ 0 → place ≢ 4 → bit v place ≡ bit w place
unfolding same_others
others_below v w zero h place less no_st no_fre = absurd (omega (arith, less))
others_below v w (suc n) h place less no_st no_fre =
    elim (eqb_tells place n) [
      | inl here ↦ same_here v w n place here.1 (both _ _ h).0 no_st no_fre
      | inr other ↦ others_below v w n (both _ _ h).1 place (omega (arith, less, other.1)) no_st no_fre
    ]

-- a command register's value that changes ST and FRE alone
pub others_are : (v w : ℕ) → same_others v w 32 ≡ true → (place : ℕ) → place < 32 → place ≢ 0 → place ≢ 4 → bit v place ≡ bit w place
others_are v w h = others_below v w 32 h

-- a power of two has one bit
pub no_bit : (n k : ℕ) → k ≢ n → bit (2 ^ n) k ≡ false
no_bit n k other = ap (λ (b : ℕ). b == 1) (bit_at-pow_other n k other)

one_bit : (n k : ℕ) → bit (2 ^ n) k ≡ true → k ≡ n
one_bit n k set = elim (eqb_tells k n) [ inl same ↦ same.1 | inr other ↦ absurd (true-false set (no_bit n k other.1)) ]

-- PxCMD: FRE is set; ST is set beside it
pub may_receive : (p : DevicePort) → p.fr ≡ false → p.bases.fb_set ≡ true → p.bases.fbu_set ≡ true → same_others 0x10 p.notes.last_cmd 32 ≡ true → MayWriteCmd p 0x10
may_receive p fallen fb fbu same = record {
  start = λ h. absurd (true-false h refl);
  receive = λ _. inr (record { fr_is_clear = fallen; fb_is_written = fb; fbu_is_written = fbu });
  stop_receiving = λ h. absurd (true-false refl h);
  other_bits_are_kept = others_are 0x10 p.notes.last_cmd same;
}

pub may_start : (p : DevicePort) → p.cr ≡ false → p.fre ≡ true → IsProgrammed p → p.notes.last_ssts % 16 ≡ 3
    → bit p.notes.last_tfd 7 || bit p.notes.last_tfd 3 ≡ false → same_others 0x11 p.notes.last_cmd 32 ≡ true → MayWriteCmd p 0x11
may_start p fallen receives programmed link last_tfd_was_idle same = record {
  start = λ _. inr (record { cr_is_clear = fallen; receives = receives; programmed = programmed; link_was_seen = link; last_tfd_was_idle = last_tfd_was_idle });
  receive = λ _. inl receives;
  stop_receiving = λ h. absurd (true-false refl h);
  other_bits_are_kept = others_are 0x11 p.notes.last_cmd same;
}

-- one slot is issued, by its own bit
pub issue_allowed : (d : Device) (p : DevicePort) (k : ℕ) → p.st ≡ true → k ≤ d.cap / 256 % 32 → p.ci k ≡ false → p.taken k ≡ None
    → (m : Meaning) (places : List ℕ) → DecodesTo d.memory p.bases.clb k m places
    → ((n : Meaning) (more : List ℕ) → DecodesTo d.memory p.bases.clb k n more → is_queued n.operation ≡ true → p.sact k ≡ true)
    → MayIssue d p (2 ^ k)
issue_allowed d p k running usable free none m places says armed = record {
  st_is_set = running;
  slots_are_usable = λ slot set. rw (one_bit k slot set) usable;
  slots_are_free = λ slot set. (ap p.ci (one_bit k slot set) ∙ free, ap p.taken (one_bit k slot set) ∙ none);
  slots_say_commands = λ slot set. (m, places, (let P : ℕ → Type 0 = λ s. DecodesTo d.memory p.bases.clb s m places in subst P (sym (one_bit k slot set)) says));
  sact_is_set = λ slot n more set said. (let P : ℕ → Type 0 = λ s. DecodesTo d.memory p.bases.clb s n more → is_queued n.operation ≡ true → p.sact s ≡ true in
      subst P (sym (one_bit k slot set)) (armed n more) said);
}

-- ---- sectors and bytes

pub told_bytes : (k : ℕ) → k < 256 → IsValidSector (first_disk_sector k)
unfolding first_disk_sector
told_bytes k small = (length-replicate 512 k, All-replicate (λ b. b < 256) 512 k small)

is_disk : (disk : Disk) (told : ℕ → List ℕ) → disk.sectors ≡ Some told → ((k : ℕ) → k < disk.sector_count → IsValidSector (told k)) → HasValidSectors disk
is_disk disk told is each = λ other other_is k small.
    let same : Some told ≡ Some other = sym is ∙ other_is in
    let P : (ℕ → List ℕ) → Type 0 = λ f. IsValidSector (f k) in
    subst P (let e : told ≡ other = (cc) in e) (each k small)

pub disk_is : HasValidSectors first_disk
disk_is = is_disk first_disk first_disk_sector refl (λ k small. told_bytes k small)

none_is : HasValidSectors no_disk
none_is = is_disk no_disk (λ k. []) refl (λ k small. absurd (omega (arith, small)))

pub first_sane : HoldsBytesAndTellsDisks first
first_sane = record {
  memory_holds_bytes = memory_bytes;
  disks_hold_sectors = at_each (λ p. HasValidSectors p.disk) disk_is none_is;
  disks_are_known_if_telling = λ _. at_each (λ p. HasKnownSectors p.disk) (first_disk_sector, refl) (λ k. [], refl);
}

first_reset : (q : ℕ) → IsAsReset (first.port q)
first_reset = at_each IsAsReset
    (record { bases_are_unprogrammed = refl; sctl_det_is_zero = refl; ssts_det_is_zero = refl; no_link_is_due = refl; is_not_fresh = refl; is_not_halted = refl; is_not_broken = refl; nothing_is_noted = refl })
    (record { bases_are_unprogrammed = refl; sctl_det_is_zero = refl; ssts_det_is_zero = refl; no_link_is_due = refl; is_not_fresh = refl; is_not_halted = refl; is_not_broken = refl; nothing_is_noted = refl })

pub first_reached : IsReachableByRun first
first_reached = record { initial_device = first; starts_idle = first_idle; is_off = refl; ports_are_as_reset = first_reset; holds_bytes_and_tells_disks = first_sane; events = []; events_may_come = tt; device_is = refl }

-- ---- what is safe

pub slot_guarded : (rs : List Range) (mem : ℕ → ℕ) (list slot : ℕ) (m : Meaning) (places : List ℕ) (s : DecodesTo mem list slot m places) (table : ℕ)
    → (s.table ≡ table) × (length s.prds ≡ 1)
    → covers rs (list + 32 * slot) (list + 32 * slot + 4) ≡ true → covers rs (list + 32 * slot + 8) (list + 32 * slot + 32) ≡ true
    → covers rs table (table + 144) ≡ true → spares rs (list + 32 * slot + 4) (list + 32 * slot + 8) ≡ true → spares_all rs places ≡ true
    → IsGuardedSlot (PassesTest (is_in rs)) (PassesTest (is_in rs)) mem list slot
slot_guarded rs mem list slot m places s table is head rest whole count apart = record {
  meaning = m;
  places = places;
  says = s;
  header_start_is_table = covered rs _ _ head;
  header_end_is_table = covered rs _ _ rest;
  table_is_guarded = λ at low high. covered rs table (table + 144) whole at (omega (arith, low, is.0)) (omega (arith, high, is.0, is.1));
  prdbc_is_not_kept = spared rs _ _ count;
  pieces_are_not_kept = avoided rs places apart;
}

-- a port that nothing was issued on
pub unused_port : (rs : List Range) (mem : ℕ → ℕ) (p : DevicePort) → ((k : ℕ) → p.ci k ≡ false) → ((k : ℕ) → p.taken k ≡ None)
    → (p.fre ≡ true → spares rs p.bases.fb (p.bases.fb + 256) ≡ true) → IsGuardedPort (PassesTest (is_in rs)) (PassesTest (is_in rs)) mem p
unused_port rs mem p clear none area = record {
  slots_are_guarded = λ k used. absurd (elim used [ inl issued ↦ true-false issued (clear k) | inr t ↦ (let e : None ≡ Some t.0 = sym (none k) ∙ t.1 in (cc)) ]);
  taken_pieces_are_not_kept = λ k t is. absurd (let e : None ≡ Some t = sym (none k) ∙ is in (cc));
  received_fis_is_not_kept = λ on. spared rs _ _ (area on);
}

-- one with commands that are issued and not taken
pub issued_port : (rs : List Range) (mem : ℕ → ℕ) (p : DevicePort)
    → ((k : ℕ) → p.ci k ≡ true → IsGuardedSlot (PassesTest (is_in rs)) (PassesTest (is_in rs)) mem p.bases.clb k) → ((k : ℕ) → p.taken k ≡ None)
    → (p.fre ≡ true → spares rs p.bases.fb (p.bases.fb + 256) ≡ true) → IsGuardedPort (PassesTest (is_in rs)) (PassesTest (is_in rs)) mem p
issued_port rs mem p issued none area = record {
  slots_are_guarded = λ k used. elim used [ inl set ↦ issued k set | inr t ↦ absurd (let e : None ≡ Some t.0 = sym (none k) ∙ t.1 in (cc)) ];
  taken_pieces_are_not_kept = λ k t is. absurd (let e : None ≡ Some t = sym (none k) ∙ is in (cc));
  received_fis_is_not_kept = λ on. spared rs _ _ (area on);
}

-- a port as it was at first
pub untouched : (rs : List Range) (mem : ℕ → ℕ) (q : ℕ) → IsGuardedPort (PassesTest (is_in rs)) (PassesTest (is_in rs)) mem (first.port q)
untouched rs mem =
    at_each (IsGuardedPort (PassesTest (is_in rs)) (PassesTest (is_in rs)) mem)
    (unused_port rs mem disk_port (λ k. refl) (λ k. refl) (λ on. absurd (true-false on refl)))
    (unused_port rs mem empty_port (λ k. refl) (λ k. refl) (λ on. absurd (true-false on refl)))

-- An adapter is safe on which nothing was issued, where port 0 alone was touched.
pub unused_safe : (d : Device) → ((k : ℕ) → (d.port 0).ci k ≡ false) → ((k : ℕ) → (d.port 0).taken k ≡ None)
    → ((q : ℕ) → q ≢ 0 → d.port q ≡ first.port q) → CommandBytesAreGuarded d
unfolding spares
unused_safe d clear none elsewhere = record {
  tables = is_in [];
  kept_addresses = is_in [];
  guarded = record {
    tables_are_kept = λ at h. h;
    ports_are_guarded = λ q. elim (eqb_tells q 0) [
      | inl here ↦ (let P : ℕ → Type 0 = λ n. IsGuardedPort (PassesTest (is_in [])) (PassesTest (is_in [])) d.memory (d.port n) in
          subst P (sym here.1) (unused_port [] d.memory (d.port 0) clear none (λ on. refl)))
      | inr away ↦ (let P : DevicePort → Type 0 = λ p. IsGuardedPort (PassesTest (is_in [])) (PassesTest (is_in [])) d.memory p in
          subst P (sym (elsewhere q away.1)) (untouched [] d.memory q))
    ];
  };
}
