-- Four ports become others, one after another: what the server then has by port.
use Rattle.std.proofs.Common.{ℕ, ◌≡◌, ◌≢◌, ◌+◌, ◌/◌, ◌%◌, ◌<◌, ◌≤◌, List, None, get_or, length, map, set, refl, sym, ap, ◌∙◌, subst, arith, ⊎_elim}
use Rattle.std.proofs.Math.ListN.{get_or-eq_default, get_or-map}
use Rattle.std.proofs.lemmas.Bool.{cases_eq, cases_lt}
use Rattle.std.proofs.lemmas.List.{ext_get_or, get_or_default, get_or-set_other, get_or-set_same, length-map, length-set}
use Rattle.adapter.specs.Device.{Device}
use Rattle.block_machine.specs.declared.due.QueueMode.{QueueMode}
use Rattle.dma_frames.specs.Loan.{Lending}
use Rattle.hba_regs.specs.Bits.{bit}
use Rattle.host_boot.specs.Resets.{Resets, ResetStaysPending}
use Rattle.host_boot.specs.TakeOver.{TakesOver, probe_result_of}
use Rattle.host_boot.specs.declared.Host.{Host}
use Rattle.host_boot.specs.declared.ProbeResult.{ProbeResult}
use Rattle.host_boot.specs.declared.ProbeResult.TheVariants.{Unserved}
use Rattle.identify.specs.declared.wanted.Wanted.{Wanted}
use Rattle.slots.specs.SlotUses.{PortSlots, use_at}
use Rattle.server_history.specs.KeptLoans.{IsKeptIn, GivesBackLoans}
use Rattle.server_history.specs.Resets.{IsReinitialized}
use Rattle.server_history.specs.ServerState.{ServerState, quarantined_at, last_disk_of, mode_at, probed_mode, plain_mode, remembered_at, slots_at, used_for}
use Rattle.server_history.specs.StuckServer.{ResetGetsStuck, found_after_stuck_reset}
use Rattle.block_server.specs.FourPorts.{EachBecomes, IsAsHostProbed, by_port, port_in, without_kept_loans}
use Rattle.block_server.specs.ServerFieldsView.{with_ports}
use Rattle.port_driver.specs.PortAndShared.{NotesProbeResult, no_port}
use Rattle.port_driver.specs.declared.served_port.ServedPort.{ServedPort}
use Rattle.port_driver.specs.declared.served_port.Shared.{Shared}

-- ---- one after another

-- those below this number have become such ones, and the others are as they were
pub record BecomesSoFar (Such : ℕ → ServedPort → ServedPort → Type 0) (old now : List ServedPort) (count : ℕ) : Type 0 where
  pub four : length now ≡ 4
  pub done : (number : ℕ) → number < count → Such number (port_in old number) (port_in now number)
  pub left : (number : ℕ) → count ≤ number → port_in now number ≡ port_in old number

module _ (Such : ℕ → ServedPort → ServedPort → Type 0) (old : List ServedPort) where
  pub none_yet : length old ≡ 4 → BecomesSoFar Such old old 0
  none_yet four = record { four = four; done = λ number low. absurd (omega (arith, low)); left = λ number more. refl }

  module _ (now : List ServedPort) (count : ℕ) (so_far : BecomesSoFar Such old now count) where
    pub one_more : count < 4 → (default p : ServedPort) → Such count (get_or now count default) p → BecomesSoFar Such old (set now count p) (count + 1)
    one_more low default p becomes = record {
      four = length-set now count p ∙ so_far.four;
      done = λ number below. ⊎_elim
          (λ (same : number ≡ count). subst (λ (n : ℕ). Such n (port_in old n) (port_in (set now count p) n)) (sym same)
          (subst (Such count (port_in old count)) (sym (get_or-set_same now count p no_port (let four = so_far.four in omega (arith, four, low)))) such))
          (λ (other : number ≢ count).
          subst (Such number (port_in old number)) (sym (get_or-set_other now count number p no_port other)) (so_far.done number (omega (arith, below, other))))
          (cases_eq number count);
      left = λ number more. get_or-set_other now count number p no_port (λ same. omega (arith, more, same)) ∙ so_far.left number (omega (arith, more));
    }
      where
        such : Such count (port_in old count) p
        such = subst (λ (q : ServedPort). Such count q p) (get_or_default now count default no_port (let four = so_far.four in omega (arith, four, low)) ∙ so_far.left count (omega arith)) becomes

    pub all_become : 4 ≤ count → EachBecomes Such old now
    all_become all = record { four_ports = so_far.four; each_becomes = λ number low. so_far.done number (omega (arith, all, low)) }

-- ---- what the server has of them then

-- there are four ports, and no other
beyond : (ports : List ServedPort) → length ports ≡ 4 → (number : ℕ) → 4 ≤ number → port_in ports number ≡ no_port
beyond ports four number more = get_or-eq_default ports no_port (omega (arith, four, more))

-- what is the same of each port
same_field : {X : Type 0} (field : ServedPort → X) (old new : List ServedPort) → length old ≡ 4 → length new ≡ 4 → ((number : ℕ) → number < 4 → field (port_in new number) ≡ field (port_in old number)) → map field new ≡ map field old
same_field field old new four_old four each =
    let long_new = length-map new field in
    let long_old = length-map old field in
    ext_get_or (field no_port) (map field new) (map field old) (omega (arith, long_new, long_old, four, four_old))
    (λ number low. get_or-map field new number no_port ∙ each number (omega (arith, low, long_new, four)) ∙ sym (get_or-map field old number no_port))

module _ (found : ℕ → ProbeResult) (mode : ℕ → QueueMode) (old new : List ServedPort) (four_old : length old ≡ 4) (four : length new ≡ 4)
    (each : (number : ℕ) → number < 4 → NotesProbeResult (found number) (mode number) (port_in old number) (port_in new number)) where
  pub its_found : (number : ℕ) → number < 4 → probe_result_of (by_port (λ p. p.probe_result) new) number ≡ found number
  its_found number low = get_or-map (λ (p : ServedPort). p.probe_result) new number no_port ∙ ap (λ (p : ServedPort). p.probe_result) (each number low).only_these_change

  pub its_last_disk : (number : ℕ) → remembered_at (by_port (λ p. p.remembered) new) number ≡ last_disk_of (probe_result_of (by_port (λ p. p.probe_result) old) number) (remembered_at (by_port (λ p. p.remembered) old) number)
  its_last_disk number =
      get_or-map (λ (p : ServedPort). p.remembered) new number no_port
      ∙ ⊎_elim
      (λ (low : number < 4). ap (λ (p : ServedPort). p.remembered) (each number low).only_these_change)
      (λ (more : 4 ≤ number). ap (λ (p : ServedPort). p.remembered) (beyond new four number more) ∙ sym (ap (λ (p : ServedPort). last_disk_of p.probe_result p.remembered) (beyond old four_old number more)))
      (cases_lt number 4)
      ∙ (λ i. last_disk_of (sym (get_or-map (λ (p : ServedPort). p.probe_result) old number no_port) i) (sym (get_or-map (λ (p : ServedPort). p.remembered) old number no_port) i))

  pub its_mode : (number : ℕ) → number < 4 → mode_at (by_port (λ p. p.mode) new) number ≡ mode number
  its_mode number low = get_or-map (λ (p : ServedPort). p.mode) new number no_port ∙ ap (λ (p : ServedPort). p.mode) (each number low).only_these_change

  pub its_places : (number : ℕ) → number < 4 → length (slots_at (by_port (λ p. p.slots) new) number).slot_uses ≡ 32
  its_places number low = ap (λ (u : PortSlots). length u.slot_uses) (get_or-map (λ (p : ServedPort). p.slots) new number no_port) ∙ (each number low).has_no_used_slot.has_32_slots

  pub its_usable : (number : ℕ) → number < 4 → (slots_at (by_port (λ p. p.slots) new) number).usable_count ≡ (mode_at (by_port (λ p. p.mode) new) number).usable_slots
  its_usable number low =
      ap (λ (u : PortSlots). u.usable_count) (get_or-map (λ (p : ServedPort). p.slots) new number no_port) ∙ (each number low).has_no_used_slot.usable_count_is_of_mode
      ∙ sym (ap (λ (m : QueueMode). m.usable_slots) (its_mode number low))

  pub none_used : (number slot : ℕ) → used_for (by_port (λ p. p.slots) new) number slot ≡ None
  none_used number slot =
      ap (λ (u : PortSlots). use_at u slot) (get_or-map (λ (p : ServedPort). p.slots) new number no_port)
      ∙ ⊎_elim
      (λ (low : number < 4). (each number low).has_no_used_slot.all_slots_are_free slot)
      (λ (more : 4 ≤ number). ap (λ (p : ServedPort). use_at p.slots slot) (beyond new four number more))
      (cases_lt number 4)

  pub same_wanted : by_port (λ p. p.wanted) new ≡ by_port (λ p. p.wanted) old
  same_wanted = same_field (λ (p : ServedPort). p.wanted) old new four_old four (λ number low. ap (λ (p : ServedPort). p.wanted) (each number low).only_these_change)

  pub same_kept : by_port (λ p. p.kept) new ≡ by_port (λ p. p.kept) old
  same_kept = same_field (λ (p : ServedPort). p.kept) old new four_old four (λ number low. ap (λ (p : ServedPort). p.kept) (each number low).only_these_change)

-- ---- the adapter didn't end its reset

module _ (s : ServerState) (before device : Device) (shared : Shared) (old new : List ServedPort) (four_old : length old ≡ 4)
    (stuck : EachBecomes (λ number was now. NotesProbeResult (found_after_stuck_reset was.probe_result) plain_mode was now) old new) where
  abbrev found : ℕ → ProbeResult
  found number = found_after_stuck_reset (port_in old number).probe_result

  abbrev mode : ℕ → QueueMode
  mode number = plain_mode

  pub gets_stuck : ResetStaysPending before device → ResetGetsStuck (with_ports s before shared old) (with_ports s device shared new)
  gets_stuck stays = record {
    reset_stays_pending = stays;
    served_ports_become_dead = λ number. ⊎_elim
        (λ (low : number < 4). its_found found mode old new four_old stuck.four_ports stuck.each_becomes number low ∙ sym (ap found_after_stuck_reset (get_or-map (λ (p : ServedPort). p.probe_result) old number no_port)))
        (λ (more : 4 ≤ number).
        get_or-map (λ (p : ServedPort). p.probe_result) new number no_port ∙ ap (λ (p : ServedPort). p.probe_result) (beyond new stuck.four_ports number more)
        ∙ sym (ap (λ (p : ServedPort). found_after_stuck_reset p.probe_result) (beyond old four_old number more)) ∙ sym (ap found_after_stuck_reset (get_or-map (λ (p : ServedPort). p.probe_result) old number no_port)))
        (cases_lt number 4);
    last_disks_are_remembered = its_last_disk found mode old new four_old stuck.four_ports stuck.each_becomes;
    remembered_is_of_four_ports = length-map new (λ (p : ServedPort). p.remembered) ∙ stuck.four_ports;
    modes_are_of_four_ports = length-map new (λ (p : ServedPort). p.mode) ∙ stuck.four_ports;
    modes_are_plain = its_mode found mode old new four_old stuck.four_ports stuck.each_becomes;
    slots_are_of_four_ports = length-map new (λ (p : ServedPort). p.slots) ∙ stuck.four_ports;
    has_32_slots = its_places found mode old new four_old stuck.four_ports stuck.each_becomes;
    usable_count_is_of_mode = its_usable found mode old new four_old stuck.four_ports stuck.each_becomes;
    no_slot_is_used = none_used found mode old new four_old stuck.four_ports stuck.each_becomes;
    server_is = λ i. record (with_ports s device shared new) { wanted = same_wanted found mode old new four_old stuck.four_ports stuck.each_becomes i; kept_loans = same_kept found mode old new four_old stuck.four_ports stuck.each_becomes i };
  }

-- ---- the adapter was taken over

module _ (host : Host) (four_host : length host.ports ≡ 4) (old new : List ServedPort) (four_old : length old ≡ 4) (taken : EachBecomes (IsAsHostProbed host) old new) where
  abbrev pub found_by : ℕ → ProbeResult
  found_by number = probe_result_of host.ports number

  abbrev pub mode_by : ℕ → QueueMode
  mode_by number = (port_in new number).mode

  pub each : (number : ℕ) → number < 4 → NotesProbeResult (found_by number) (mode_by number) (port_in old number) (port_in new number)
  each number low = (taken.each_becomes number low).notes_host_result

  pub found_host : by_port (λ p. p.probe_result) new ≡ host.ports
  found_host =
      let long = length-map new (λ (p : ServedPort). p.probe_result) in
      let four = taken.four_ports in
      ext_get_or Unserved (by_port (λ p. p.probe_result) new) host.ports (long ∙ taken.four_ports ∙ sym four_host)
      (λ number low. its_found found_by mode_by old new four_old taken.four_ports each number (omega (arith, low, long, four)))

  pub modes_follow : (cap : ℕ) → host.slot_count ≡ cap / 256 % 32 + 1 → host.supports_ncq ≡ bit cap 30 → (number : ℕ) → number < 4 → mode_at (by_port (λ p. p.mode) new) number ≡ probed_mode cap (probe_result_of host.ports number)
  modes_follow cap slots queued number low = its_mode found_by mode_by old new four_old taken.four_ports each number low ∙ (taken.each_becomes number low).mode_is_probed cap slots queued

-- again, after a reset
module _ (s : ServerState) (before idle device : Device) (first later : Shared) (old new : List ServedPort) (four_old : length old ≡ 4) (host : Host) (four_host : length host.ports ≡ 4)
    (taken : EachBecomes (IsAsHostProbed host) (map without_kept_loans old) new) where
  abbrev mid : List ServedPort
  mid = map without_kept_loans old

  four_mid : length mid ≡ 4
  four_mid = length-map old without_kept_loans ∙ four_old

  -- a port without its loans has all else
  mid_is : (number : ℕ) → port_in mid number ≡ without_kept_loans (port_in old number)
  mid_is number = get_or-map without_kept_loans old number no_port

  wanted_still : by_port (λ p. p.wanted) mid ≡ by_port (λ p. p.wanted) old
  wanted_still = same_field (λ (p : ServedPort). p.wanted) old mid four_old four_mid (λ number low. ap (λ (p : ServedPort). p.wanted) (mid_is number))

  found_mid : (number : ℕ) → probe_result_of (by_port (λ p. p.probe_result) mid) number ≡ probe_result_of (by_port (λ p. p.probe_result) old) number
  found_mid number = get_or-map (λ (p : ServedPort). p.probe_result) mid number no_port ∙ ap (λ (p : ServedPort). p.probe_result) (mid_is number) ∙ sym (get_or-map (λ (p : ServedPort). p.probe_result) old number no_port)

  remembered_mid : (number : ℕ) → remembered_at (by_port (λ p. p.remembered) mid) number ≡ remembered_at (by_port (λ p. p.remembered) old) number
  remembered_mid number = get_or-map (λ (p : ServedPort). p.remembered) mid number no_port ∙ ap (λ (p : ServedPort). p.remembered) (mid_is number) ∙ sym (get_or-map (λ (p : ServedPort). p.remembered) old number no_port)

  abbrev f : ℕ → ProbeResult
  f = found_by host four_host mid new four_mid taken

  abbrev m : ℕ → QueueMode
  m = mode_by host four_host mid new four_mid taken

  e : (number : ℕ) → number < 4 → NotesProbeResult (f number) (m number) (port_in mid number) (port_in new number)
  e = each host four_host mid new four_mid taken

  pub takes_again : Resets before idle → GivesBackLoans first.table.value later.table.value (IsKeptIn (by_port (λ p. p.kept) old)) → TakesOver (by_port (λ p. p.wanted) mid) host idle device → later.book ≡ first.book
      → IsReinitialized (with_ports s before first old) (with_ports s device later new)
  takes_again resets back takes book = record {
    idle_device = idle;
    resets = resets;
    loans_are_taken_back = back;
    no_loan_is_kept = λ number.
        ap (λ (lists : List (List Lending)). quarantined_at lists number) (same_kept f m mid new four_mid taken.four_ports e)
        ∙ get_or-map (λ (p : ServedPort). p.kept) mid number no_port ∙ ap (λ (p : ServedPort). p.kept) (mid_is number);
    kept_loans_are_of_four_ports = length-map new (λ (p : ServedPort). p.kept) ∙ taken.four_ports;
    host = host;
    takes_over = subst (λ (wanted : List Wanted). TakesOver wanted host idle device) wanted_still takes;
    host_has_four_ports = four_host;
    last_disks_are_remembered = λ number. its_last_disk f m mid new four_mid taken.four_ports e number ∙ (λ i. last_disk_of (found_mid number i) (remembered_mid number i));
    remembered_is_of_four_ports = length-map new (λ (p : ServedPort). p.remembered) ∙ taken.four_ports;
    modes_are_of_four_ports = length-map new (λ (p : ServedPort). p.mode) ∙ taken.four_ports;
    modes_are_probed = modes_follow host four_host mid new four_mid taken device.cap takes.slot_count_is_of_cap takes.ncq_is_of_cap;
    slots_are_of_four_ports = length-map new (λ (p : ServedPort). p.slots) ∙ taken.four_ports;
    has_32_slots = its_places f m mid new four_mid taken.four_ports e;
    usable_count_is_of_mode = its_usable f m mid new four_mid taken.four_ports e;
    no_slot_is_used = none_used f m mid new four_mid taken.four_ports e;
    server_is = λ i. record (with_ports s device later new) { wanted = (same_wanted f m mid new four_mid taken.four_ports e ∙ wanted_still) i; probe_results = found_host host four_host mid new four_mid taken i; book = book i };
  }
