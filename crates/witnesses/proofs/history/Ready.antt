-- An adapter with two ports that run, each with a disk of one kind: what holds there, and what is no trouble.
use Rattle.std.proofs.Common.{ℕ, zero, suc, ◌≡◌, ◌<◌, ◌≤◌, ◌↔◌, ◌∙◌, ◌++◌, Bool, true, false, List, [], ◌∷◌, slice_index_or, None, inl, inr, ⊎_elim, refl, sym, ap, subst, arith}
use Rattle.std.proofs.lemmas.Bool.{true≢false}
use Rattle.std.specs.List.{All, Contains}
use Rattle.std.proofs.lemmas.List.Elements.{All-nil, All-cons}
use Rattle.ata_types.specs.declared.Port.{Port}
use Rattle.ata_types.specs.declared.PortState as shown
use Rattle.ata_types.specs.declared.PortState.TheVariants.{Absent, Ready, Unfit, Dead}
use Rattle.adapter.specs.Device.{Bases, Disk, DevicePort, Device}
use Rattle.adapter.specs.FirstRead.{first_disk, first_disk_sector}
use Rattle.adapter.specs.declared.command.Operation.TheVariants.{Identify}
use Rattle.adapter.specs.declared.tape.Entry.{Entry}
use Rattle.refinement.specs.Acts.{DriverSlots, driver_state_of_slots}
use Rattle.refinement.specs.Relation.{ServeDistinctRequests, HaveSlotsUnlessParked, HasReceivedArea, SameClientFrames, SameSectors, KnowsAllReplugCandidates, port_at}
use Rattle.refinement.specs.Driver.{DriverRelation}
use Rattle.refinement.specs.Slots.{Free, Serves, IsEmptySlot, IsMove, RelatesSlot}
use Rattle.block_machine.specs.Histories.{JointState}
use Rattle.block_machine.specs.Ports.{Ports, PortsWellFormed}
use Rattle.block_machine.specs.State.{Machine, Pending}
use Rattle.block_machine.specs.Steps.{NoneKept}
use Rattle.driver_history.specs.Evidence.{ShowsFailure, ShowedLinkChangeOrNoDeviceAndNoneCame}
use Rattle.driver_history.specs.Histories.{HasDriverInvariantAeAndIe}
use Rattle.driver_history.specs.PortInvariants.{ReadySlotsInvariant, PortStateInvariant, DriverInvariantWith, IsReadyAt, mode_of_disk}
use Rattle.host_boot.specs.TakeOver.{IsWantedAndImplemented, wanted_of}
use Rattle.identify.specs.declared.wanted.Wanted.TheVariants.{Any, Nothing}
use Rattle.port_control.specs.Ports.{programmed_bases}
pub use Rattle.witnesses.proofs.history.Client.{client, frame, granted, its_row, row, start, starts, two_rows}
use Rattle.witnesses.specs.RunningAdapter.{running_device, port_or_empty, page_entry, queueing_cap, running_port, ports_with_disks}
use Rattle.witnesses.proofs.history.Still.{all_still, first_lasting, still_bytes}
use Rattle.witnesses.proofs.history.Holding.{fit_disk, no_slots, requests_none, runs_on, unfailing, unlost, unserved_at}
use Rattle.witnesses.proofs.history.Command.{zeros}
use Rattle.witnesses.proofs.history.Memory.{tells}
use Rattle.witnesses.proofs.history.Members.{nowhere}
use Rattle.witnesses.proofs.history.Pages.{Kind}
use Rattle.witnesses.proofs.history.Submitting.{second, sent}

-- ---- device and machine agree

-- Two ports that run with disks, or did, in their own places; the machine has their disks, and no others.
pub record AreDisks (m : Machine) (tape : List Entry) (p q : DevicePort) : Type 0 where
  pub own_first : p.bases ≡ programmed_bases 0
  pub own_second : q.bases ≡ programmed_bases 1
  pub disks : (p.disk ≡ first_disk) × (q.disk ≡ first_disk)
  pub present : (n : ℕ) → m.present (port_at n) ≡ (port_or_empty (p ∷ q ∷ []) n).present
  pub ids : m.disk_ids ≡ start.disk_ids
  pub sizes : m.sizes ≡ start.sizes
  pub bytes : m.disk_bytes ≡ start.disk_bytes
  -- nothing was put on them
  pub lasting : (p.lasting ≡ first_lasting) × (q.lasting ≡ first_lasting)
  pub still : all_still tape ≡ true

module _ (m : Machine) (s : DriverSlots) (tape : List Entry) (memory : ℕ → ℕ) (p q : DevicePort) (are : AreDisks m tape p q) where
  received : (n : ℕ) → (port_or_empty (p ∷ q ∷ []) n).fre ≡ true → HasReceivedArea (port_or_empty (p ∷ q ∷ []) n) n
  received zero f = record { port_is_below_4 = omega arith; area_is_in_place = ap (λ (b : Bases). b.fb) are.own_first }
  received (suc zero) f = record { port_is_below_4 = omega arith; area_is_in_place = ap (λ (b : Bases). b.fb) are.own_second }
  received (suc (suc n)) f = absurd (true≢false (sym f))

  name_of : (n : ℕ) → start.disk_ids (port_at n) ≡ (port_or_empty (p ∷ q ∷ []) n).disk.name
  name_of zero = sym (ap (λ (d : Disk). d.name) are.disks.0)
  name_of (suc zero) = sym (ap (λ (d : Disk). d.name) are.disks.1)
  name_of (suc (suc n)) = refl

  size_of : (n : ℕ) → start.sizes (port_at n) ≡ (port_or_empty (p ∷ q ∷ []) n).disk.sector_count
  size_of zero = sym (ap (λ (d : Disk). d.sector_count) are.disks.0)
  size_of (suc zero) = sym (ap (λ (d : Disk). d.sector_count) are.disks.1)
  size_of (suc (suc n)) = refl

  sectors_of : (n : ℕ) → SameSectors start (port_or_empty (p ∷ q ∷ []) n).disk n
  sectors_of zero = record { told_sectors = first_disk_sector; disk_tells = ap (λ (d : Disk). d.sectors) are.disks.0; bytes_are_same = λ k b kl bl. tells k b bl }
  sectors_of (suc zero) = record { told_sectors = first_disk_sector; disk_tells = ap (λ (d : Disk). d.sectors) are.disks.1; bytes_are_same = λ k b kl bl. tells k b bl }
  sectors_of (suc (suc n)) = record { told_sectors = λ k. []; disk_tells = refl; bytes_are_same = λ k b kl bl. absurd (omega (arith, kl)) }

  lasts : (n : ℕ) → KnowsAllReplugCandidates m tape (port_or_empty (p ∷ q ∷ []) n) n
  lasts zero k inside bytes w = inl (λ b bl. still_bytes tape (p.lasting) 0 k bytes are.lasting.0 are.still w b bl ∙ sym (ap (λ (f : Port → ℕ → ℕ → ℕ). f (port_at 0) k b) are.bytes))
  lasts (suc zero) k inside bytes w = inl (λ b bl. still_bytes tape (q.lasting) 1 k bytes are.lasting.1 are.still w b bl ∙ sym (ap (λ (f : Port → ℕ → ℕ → ℕ). f (port_at 1) k b) are.bytes))
  lasts (suc (suc n)) k inside bytes w = absurd (omega (arith, inside))

  pub agreeing : ((n k : ℕ) → RelatesSlot m memory tape (port_or_empty (p ∷ q ∷ []) n) n k (s.slot_states n k)) → ServeDistinctRequests s.slot_states → SameClientFrames m memory → ((n : ℕ) → HaveSlotsUnlessParked s.slot_states m n (s.awaiting_disposition n))
      → DriverRelation m (driver_state_of_slots s (running_device tape memory (p ∷ q ∷ [])))
  agreeing slots apart same have = record {
    state_relation = record {
      relates_slots = slots;
      serve_distinct_requests = apart;
      received_areas_in_use_are_placed = received;
      disks_are_same = λ n. record {
        present = are.present n;
        id = ap (λ (f : Port → ℕ). f (port_at n)) are.ids ∙ name_of n;
        sector_count = ap (λ (f : Port → ℕ). f (port_at n)) are.sizes ∙ size_of n;
      };
      client_frames_are_same = same;
      sectors_are_same_if_disks_tell = λ _ n. let d = sectors_of n in record { told_sectors = d.told_sectors; disk_tells = d.disk_tells; bytes_are_same = λ k b kl bl. d.bytes_are_same k b kl bl ∙ sym (ap (λ (f : Port → ℕ → ℕ → ℕ). f (port_at n) k b) are.bytes) };
      knows_replug_candidates_if_disks_tell = λ _ n. lasts n;
    };
    have_slots_unless_parked = have;
  }

-- ---- ports

-- both ports are ready
abbrev pub two_ready : Kind → Ports
two_ready disk = ports_with_disks disk.info (true ∷ true ∷ []) (Ready ∷ Ready ∷ [])

-- so they are whatever the disks
abbrev pub two_served : Port → Bool
two_served port = slice_index_or (true ∷ true ∷ []) port.0 false

abbrev pub two_states : Port → shown.PortState
two_states port = slice_index_or (Ready ∷ Ready ∷ []) port.0 Absent

-- a port that is served is ready
pub served_ready : (n : ℕ) → two_served (port_at n) ≡ true → two_states (port_at n) ≡ Ready
served_ready zero is = refl
served_ready (suc zero) is = refl
served_ready (suc (suc n)) is = absurd (true≢false (sym is))

pub not_dead : (n : ℕ) → two_states (port_at n) ≡ Dead → ⊥
not_dead zero is = let x : Ready ≡ Dead = is in cc
not_dead (suc zero) is = let x : Ready ≡ Dead = is in cc
not_dead (suc (suc n)) is = let x : Absent ≡ Dead = is in cc

pub fit_ready : (disk : Kind) → PortsWellFormed (two_ready disk)
fit_ready disk = record {
  served_are_ports_0_to_3 = λ port is. few_of port.0 is;
  unserved_are_absent = λ port is. absent_of port.0 is;
  modes_are_valid = λ port is. disk.mode;
  causes_are_valid = λ port cause is. absurd (no_cause port.0 cause is);
}
  where
    few_of : (n : ℕ) → two_served (port_at n) ≡ true → n < 4
    few_of zero is = omega arith
    few_of (suc zero) is = omega arith
    few_of (suc (suc n)) is = absurd (true≢false (sym is))

    absent_of : (n : ℕ) → two_served (port_at n) ≡ false → two_states (port_at n) ≡ Absent
    absent_of zero is = absurd (true≢false is)
    absent_of (suc zero) is = absurd (true≢false is)
    absent_of (suc (suc n)) is = refl

    no_cause : (n cause : ℕ) → two_states (port_at n) ≡ Unfit cause → ⊥
    no_cause zero cause is = let x : Ready ≡ Unfit cause = is in cc
    no_cause (suc zero) cause is = let x : Ready ≡ Unfit cause = is in cc
    no_cause (suc (suc n)) cause is = let x : Absent ≡ Unfit cause = is in cc

pub served_of : (tape : List Entry) (memory : ℕ → ℕ) (ports : List DevicePort) (n : ℕ) → (two_served (port_at n) ≡ true) ↔ IsWantedAndImplemented (wanted_of (Any ∷ Any ∷ []) n) n (running_device tape memory ports)
served_of tape memory ports zero = (λ _. ((λ e. let x : Any ≡ Nothing = e in absurd cc), refl), λ _. refl)
served_of tape memory ports (suc zero) = (λ _. ((λ e. let x : Any ≡ Nothing = e in absurd cc), refl), λ _. refl)
served_of tape memory ports (suc (suc n)) = (λ f. absurd (true≢false (sym f)), λ (s : IsWantedAndImplemented (wanted_of (Any ∷ Any ∷ []) (suc (suc n))) (suc (suc n)) (running_device tape memory ports)). absurd (s.0 refl))

-- no ready port shows trouble before its call
pub calm : (tape : List Entry) (memory : ℕ → ℕ) (p : DevicePort) → p.serr_n ≡ false → p.serr_x ≡ false → p.ssts_det ≡ 3 → ((place : ℕ) → 27 ≤ place → p.is place ≡ false) → (new : Device) (n : ℕ) → two_states (port_at n) ≡ Ready
    → (ShowedLinkChangeOrNoDeviceAndNoneCame (port_at n) (running_device tape memory (p ∷ second ∷ [])) new → ⊥) × (ShowsFailure (port_or_empty (p ∷ second ∷ []) n) → ⊥)
calm tape memory p n x there quiet new zero is = (unlost (port_at 0) (running_device tape memory (p ∷ second ∷ [])) new n x there, unfailing p quiet)
calm tape memory p n x there quiet new (suc zero) is = (unlost (port_at 1) (running_device tape memory (p ∷ second ∷ [])) new refl refl refl, unfailing second (λ place from. refl))
calm tape memory p n x there quiet new (suc (suc k)) is = absurd (let z : Absent ≡ Ready = is in cc)

-- ---- what holds

-- the page of port 1 is none of port 0
pub other_page : (page : List ℕ) (later : List Entry) → All (λ e. IsMove 0 Identify e → ⊥) later → All (λ e. IsMove 0 Identify e → ⊥) (page_entry page 1 ∷ later)
other_page page later more = All-cons (λ e. IsMove 0 Identify e → ⊥) (page_entry page 1) later (λ (x : _ × _). let same : 1 ≡ 0 = x.0 in omega (arith, same)) more

pub no_page : (port : ℕ) → All (λ e. IsMove port Identify e → ⊥) []
no_page port = All-nil (λ e. IsMove port Identify e → ⊥)

-- but for its commands the port is as when it was booted, and no bit of PxIS tells of trouble
abbrev pub but_commands : DevicePort → DevicePort
but_commands p = record p {
  tfd = 0;
  is = λ _. false;
  ci = λ _. false;
  sact = λ _. false;
  taken = λ _. None;
  notes = record p.notes { last_ci = 0; last_sact = 0; slot0_issued_count = 0 };
}

pub record Stands (p : DevicePort) : Type 0 where
  pub same : but_commands p ≡ but_commands (running_port 0)
  pub quiet : (place : ℕ) → 27 ≤ place → p.is place ≡ false

-- such a port shows none
pub shows_none : (tape : List Entry) (memory : ℕ → ℕ) (p : DevicePort) → Stands p → (new : Device) (n : ℕ) → two_states (port_at n) ≡ Ready
    → (ShowedLinkChangeOrNoDeviceAndNoneCame (port_at n) (running_device tape memory (p ∷ second ∷ [])) new → ⊥) × (ShowsFailure (port_or_empty (p ∷ second ∷ []) n) → ⊥)
shows_none tape memory p stands =
    calm tape memory p (ap (λ (q : DevicePort). q.serr_n) stands.same) (ap (λ (q : DevicePort). q.serr_x) stands.same) (ap (λ (q : DevicePort). q.ssts_det) stands.same) stands.quiet

module _ (disk : Kind) (s : DriverSlots) (m : Machine) (more : List Entry) (memory : ℕ → ℕ) (p : DevicePort) where
  -- both disks have sent their pages, and this was done since
  abbrev pub served_with : Device
  served_with = running_device (sent disk.page ++ more) memory (p ∷ second ∷ [])

  abbrev pub instant_with : JointState Device
  instant_with = record { device = served_with; abstract = record { machine = m; ports = two_ready disk } }

  -- port 1 is ready as long as its disk is in
  pub second_ready : All (λ e. IsMove 1 Identify e → ⊥) more → ((slot : ℕ) → s.slot_states 1 slot ≡ Free) → s.awaiting_disposition 1 ≡ [] → m.kept ≡ [] → IsReadyAt Any s instant_with (port_at 1)
  second_ready unpaged free unparked unkept = record {
    adapter_is_on = record { ae_is_set = refl; no_reset = refl };
    engine_runs = runs_on 1 served_with refl refl refl refl refl (omega arith) refl refl refl;
    info = disk.info;
    has_fit_disk = fit_disk disk 1 served_with (page_entry disk.page 0 ∷ []) more refl refl refl refl unpaged;
    shows_disk_info = record { serial = refl; sectors = refl; zeroes_after_trim_is = refl; mode = refl };
    slots_invariant = requests_none s instant_with (port_at 1) (mode_of_disk queueing_cap disk.info) free unparked;
    none_is_quarantined = λ e k. absurd (nowhere e (subst (λ (es : List Pending). Contains es e) unkept k));
  }

  -- What is in the slots, all of them port 0's, is in the machine's book.
  pub record Agreeing : Type 0 where
    pub stands : Stands p
    pub disks : (m.present ≡ start.present) × (m.disk_ids ≡ start.disk_ids) × (m.sizes ≡ start.sizes) × (m.disk_bytes ≡ start.disk_bytes)
    pub unkept : m.kept ≡ []
    pub unpaged : (port : ℕ) → All (λ e. IsMove port Identify e → ⊥) more
    pub still : all_still more ≡ true
    pub first_alone : (e : Pending) → Contains m.book e → e.request.port.0 ≡ 0
    pub slots : (k : ℕ) → RelatesSlot m memory (sent disk.page ++ more) p 0 k (s.slot_states 0 k)
    pub others : (n k : ℕ) → s.slot_states (suc n) k ≡ Free
    pub unparked : (n : ℕ) → s.awaiting_disposition n ≡ []
    pub apart : ServeDistinctRequests s.slot_states
    pub frames : SameClientFrames m memory
    pub have : (e : Pending) → Contains m.book e → (slot : ℕ) × (s.slot_states 0 slot ≡ Serves e.request.id)
    pub requests : ReadySlotsInvariant s instant_with (port_at 0) (mode_of_disk queueing_cap disk.info)

  module _ (a : Agreeing) where
    -- what was so when the port was booted
    was : {A : Type 0} (part : DevicePort → A) → part (but_commands p) ≡ part (but_commands (running_port 0))
    was part = ap part a.stands.same

    are_disks : AreDisks m (sent disk.page ++ more) p second
    are_disks = record {
      own_first = was (λ q. q.bases);
      own_second = refl;
      disks = (was (λ q. q.disk), refl);
      present = λ n. ap (λ (f : Port → Bool). f (port_at n)) a.disks.0 ∙ present n;
      ids = a.disks.1;
      sizes = a.disks.2;
      bytes = a.disks.3;
      lasting = (was (λ q. q.lasting), refl);
      still = a.still;
    }
      where
        present : (n : ℕ) → start.present (port_at n) ≡ (port_or_empty (p ∷ second ∷ []) n).present
        present zero = sym (was (λ q. q.present))
        present (suc zero) = refl
        present (suc (suc n)) = refl

    slot_of : (n k : ℕ) → RelatesSlot m memory (sent disk.page ++ more) (port_or_empty (p ∷ second ∷ []) n) n k (s.slot_states n k)
    slot_of zero k = a.slots k
    slot_of (suc n) k = subst (RelatesSlot m memory (sent disk.page ++ more) (port_or_empty (p ∷ second ∷ []) (suc n)) (suc n) k) (sym (a.others n k)) (free n)
      where
        free : (n : ℕ) → IsEmptySlot (port_or_empty (p ∷ second ∷ []) (suc n)) k
        free zero = record { is_not_issued = refl; is_not_taken = refl; unarmed = refl }
        free (suc n) = record { is_not_issued = refl; is_not_taken = refl; unarmed = refl }

    have_of : (n : ℕ) → HaveSlotsUnlessParked s.slot_states m n (s.awaiting_disposition n)
    have_of n e may at_port = inr (⊎_elim
        (λ here. let found = a.have e here.0 in (found.0, subst (λ (q : ℕ). s.slot_states q found.0 ≡ Serves e.request.id) (sym (a.first_alone e here.0) ∙ at_port) found.1))
        (λ kept. absurd (nowhere e (subst (λ (es : List Pending). Contains es e) a.unkept kept))) may)

    unkept : (n : ℕ) → NoneKept m (port_at n)
    unkept n e kept = absurd (nowhere e (subst (λ (es : List Pending). Contains es e) a.unkept kept))

    first_ready : IsReadyAt Any s instant_with (port_at 0)
    first_ready = record {
      adapter_is_on = record { ae_is_set = refl; no_reset = refl };
      engine_runs = runs_on 0 served_with (was (λ q. q.st)) (was (λ q. q.cr)) (was (λ q. q.fre)) (was (λ q. q.bases)) (was (λ q. q.notes.link_wait_count))
          (let set = was (λ q. q.notes.st_set_at) in omega (arith, set)) (was (λ q. q.link_due)) (a.stands.quiet 30 (omega arith)) (was (λ q. q.halt));
      info = disk.info;
      has_fit_disk = fit_disk disk 0 served_with [] (page_entry disk.page 1 ∷ more) refl (was (λ q. q.sctl_det)) (was (λ q. q.ie)) (was (λ q. q.notes.sctl_written_at)) (other_page disk.page more (a.unpaged 0));
      shows_disk_info = record { serial = refl; sectors = refl; zeroes_after_trim_is = refl; mode = refl };
      slots_invariant = a.requests;
      none_is_quarantined = unkept 0;
    }

    port_of : (n : ℕ) → PortStateInvariant (wanted_of (Any ∷ Any ∷ []) n) s instant_with (port_at n) (two_served (port_at n)) (two_states (port_at n))
    port_of zero = first_ready
    port_of (suc zero) = second_ready (a.unpaged 1) (a.others 0) (a.unparked 1) a.unkept
    port_of (suc (suc n)) = unserved_at s instant_with (suc (suc n)) refl refl (record { all_are_free = a.others (suc n); none_is_parked = a.unparked (suc (suc n)) })
        (λ e here is. let z : 0 ≡ suc (suc n) = sym (a.first_alone e here) ∙ ap (λ (q : Port). q.0) is in omega (arith, z))
        (unkept (suc (suc n)))

    pub holds : DriverInvariantWith (Any ∷ Any ∷ []) s instant_with
    holds = record {
      driver_relation = agreeing m s (sent disk.page ++ more) memory p second are_disks slot_of a.apart a.frames have_of;
      served_iff_wanted_and_there = λ port low. served_of (sent disk.page ++ more) memory (p ∷ second ∷ []) port.0;
      is_on_or_served_are_dead = inl (record { ae_is_set = refl; no_reset = refl });
      ports_hold = λ port low. port_of port.0;
    }

-- ---- it begins

pub free_apart : ServeDistinctRequests no_slots.slot_states
free_apart q k q' k' id u v = absurd (let z : Free ≡ Serves id = u in cc)

-- no request is in the book, and none in a slot
pub agrees_none : (disk : Kind) (m : Machine) (more : List Entry) (memory : ℕ → ℕ) (p : DevicePort) → Stands p → (m.present ≡ start.present) × (m.disk_ids ≡ start.disk_ids) × (m.sizes ≡ start.sizes) × (m.disk_bytes ≡ start.disk_bytes)
    → m.book ≡ [] → m.kept ≡ [] → ((port : ℕ) → All (λ e. IsMove port Identify e → ⊥) more) → all_still more ≡ true → ((k : ℕ) → IsEmptySlot p k) → SameClientFrames m memory → Agreeing disk no_slots m more memory p
agrees_none disk m more memory p stands disks none unkept unpaged still free frames = record {
  stands = stands;
  disks = disks;
  unkept = unkept;
  unpaged = unpaged;
  still = still;
  first_alone = λ e here. absurd (empty_book e here);
  slots = free;
  others = λ n k. refl;
  unparked = λ n. refl;
  apart = free_apart;
  frames = frames;
  have = λ e here. absurd (empty_book e here);
  requests = requests_none no_slots (instant_with disk no_slots m more memory p) (port_at 0) (mode_of_disk queueing_cap disk.info) (λ slot. refl) refl;
}
  where
    empty_book : (e : Pending) → Contains m.book e → ⊥
    empty_book e here = nowhere e (subst (λ (es : List Pending). Contains es e) none here)

holds_first : (disk : Kind) → DriverInvariantWith (Any ∷ Any ∷ []) no_slots (instant_with disk no_slots start [] zeros (running_port 0))
holds_first disk = holds disk no_slots start [] zeros (running_port 0)
    (agrees_none disk start [] zeros (running_port 0) (record { same = refl; quiet = λ place from. refl }) (refl, refl, refl, refl) refl refl no_page refl
    (λ k. record { is_not_issued = refl; is_not_taken = refl; unarmed = refl }) (λ f b from small. refl))

pub begins : (disk : Kind) → HasDriverInvariantAeAndIe (Any ∷ Any ∷ []) (instant_with disk no_slots start [] zeros (running_port 0))
begins disk = ((no_slots, holds_first disk), (record { ae_is_set = refl; no_reset = refl }, refl))
