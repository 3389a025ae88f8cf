-- The machine after a service that answered the read and lost the other disk, and what holds then.
use Rattle.std.proofs.Common.{ℕ, zero, suc, ne_eqb, ◌==◌, ◌≡◌, true, false, List, [], ◌∷◌, slice_index, inl, ⊎_elim, refl, arith}
use Rattle.std.specs.List.{All}
use Rattle.std.proofs.lemmas.Bool.{cond-false}
use Rattle.std.proofs.lemmas.List.Elements.{All-nil, All-cons}
use Rattle.ata_types.specs.declared.PortState.TheVariants.{Absent, Ready}
use Rattle.ata_types.specs.declared.request.Outcome.TheVariants as outcome
use Rattle.adapter.specs.Device.{Device}
use Rattle.adapter.specs.FirstRead.{first_disk_sector}
use Rattle.adapter.specs.Memory.{changed}
use Rattle.adapter.specs.Steps.{done_entry, move_of}
use Rattle.adapter.specs.declared.command.Operation.TheVariants as operation
use Rattle.adapter.specs.declared.command.Operation.TheVariants.{Identify}
use Rattle.adapter.specs.declared.tape.Entry.{Entry}
use Rattle.adapter.specs.declared.tape.Entry.TheVariants as entry
use Rattle.refinement.specs.Acts.{driver_state_of_slots}
use Rattle.refinement.specs.Relation.{port_at}
use Rattle.refinement.specs.Driver.{DriverRelation}
use Rattle.refinement.specs.Slots.{IsEmptySlot, IsMove}
use Rattle.block_machine.specs.Histories.{JointState}
use Rattle.block_machine.specs.Expected.{after}
use Rattle.block_machine.specs.Ports.{Ports}
use Rattle.block_machine.specs.State.{Machine, Pending}
use Rattle.block_machine.specs.Steps.{Step, Touch, End, Answer, Unplug, AllTouched, mark_ended, touch}
use Rattle.host_boot.specs.TakeOver.{wanted_of}
use Rattle.identify.specs.declared.wanted.Wanted.TheVariants.{Any}
use Rattle.driver_history.specs.PortInvariants.{PortStateInvariant, DriverInvariantWith, IsReadyAt, IsStoppedAt}
use Rattle.witnesses.specs.RunningAdapter.{port_or_empty, page_entry, plain_disk_mode, ports_with_disks}
use Rattle.witnesses.proofs.history.Holding.{fit_disk, no_slots, requests_none, runs_on, unserved_at}
use Rattle.witnesses.proofs.history.Submitting.{command}
use Rattle.witnesses.proofs.history.Accepting.{issuing, waiting}
use Rattle.witnesses.proofs.history.Pages.{plain_disks}
use Rattle.witnesses.proofs.history.Ready.{agreeing, free_apart, other_page, served_of}
use Rattle.witnesses.proofs.history.Losing.{found, found_free, gone, lost, memory_done, tape_lost}
use Rattle.witnesses.proofs.history.Memory.{moved_in_place}
use Rattle.witnesses.proofs.history.Members.{nowhere}

-- ---- the machine

abbrev pub one : Ports
one = ports_with_disks plain_disks.info (true ∷ true ∷ []) (Ready ∷ Absent ∷ [])

abbrev pub touched : Pending
touched = touch 0 waiting

abbrev pub ended : Pending
ended = mark_ended touched

abbrev pub touching : Step
touching = Touch waiting 0 (slice_index (first_disk_sector 100))

abbrev pub service_steps : List Step
service_steps = Unplug (port_at 1) ∷ Answer ended outcome.Ok ∷ End touched ∷ touching ∷ []

abbrev pub served : Machine
served = after issuing service_steps

pub all_touched : AllTouched touched
all_touched zero low = refl
all_touched (suc i) low = absurd (omega (arith, low))

abbrev pub lost_at : JointState Device
lost_at = record { device = lost; abstract = record { machine = served; ports = one } }

-- ---- what holds

lost_free : (n k : ℕ) → IsEmptySlot (port_or_empty (found ∷ gone ∷ []) n) k
lost_free zero k = found_free k
lost_free (suc zero) k = record { is_not_issued = refl; is_not_taken = refl; unarmed = refl }
lost_free (suc (suc n)) k = record { is_not_issued = refl; is_not_taken = refl; unarmed = refl }

one_in : (n : ℕ) → served.present (port_at n) ≡ (port_or_empty (found ∷ gone ∷ []) n).present
one_in zero = refl
one_in (suc zero) = refl
one_in (suc (suc n)) = cond-false (suc (suc n) == 1) false false (ne_eqb (suc (suc n)) 1 (omega arith))

knows_lost : DriverRelation served (driver_state_of_slots no_slots lost)
unfolding changed
knows_lost = agreeing served no_slots tape_lost memory_done found gone
    (record { own_first = refl; own_second = refl; disks = (refl, refl); present = one_in; ids = refl; sizes = refl; bytes = refl; lasting = (refl, refl); still = refl })
    lost_free free_apart moved_in_place (λ n e may at_port. ⊎_elim (λ z. absurd (nowhere e z.0)) (λ z. absurd (nowhere e z)) may)

-- what the tape gains in the service
abbrev pub gained : List Entry
gained = entry.Move (move_of 0 0 command (first_disk_sector 100)) ∷ done_entry 0 0 operation.Read ∷ entry.Unplug (port_at 1) ∷ []

-- no page came after those of the two ports
unpaged : (port : ℕ) → All (λ e. IsMove port Identify e → ⊥) gained
unpaged port =
    All-cons (λ e. IsMove port Identify e → ⊥) (entry.Move (move_of 0 0 command (first_disk_sector 100))) (done_entry 0 0 operation.Read ∷ entry.Unplug (port_at 1) ∷ [])
    (λ (x : _ × _). let same : operation.Read ≡ Identify = x.1 in cc)
    (All-cons (λ e. IsMove port Identify e → ⊥) (done_entry 0 0 operation.Read) (entry.Unplug (port_at 1) ∷ []) (λ x. x)
    (All-cons (λ e. IsMove port Identify e → ⊥) (entry.Unplug (port_at 1)) [] (λ x. x) (All-nil (λ e. IsMove port Identify e → ⊥))))

lost_ready : IsReadyAt Any no_slots lost_at (port_at 0)
unfolding changed
lost_ready = record {
  adapter_is_on = record { ae_is_set = refl; no_reset = refl };
  engine_runs = runs_on 0 lost refl refl refl refl refl (omega arith) refl refl refl;
  info = plain_disks.info;
  has_fit_disk = fit_disk plain_disks 0 lost [] (page_entry plain_disks.page 1 ∷ gained) refl refl refl refl (other_page plain_disks.page gained (unpaged 0));
  shows_disk_info = record { serial = refl; sectors = refl; zeroes_after_trim_is = refl; mode = refl };
  slots_invariant = requests_none no_slots lost_at (port_at 0) plain_disk_mode (λ slot. refl) refl;
  none_is_quarantined = λ e k. absurd (nowhere e k);
}

lost_absent : IsStoppedAt Any no_slots lost_at (port_at 1) Absent
lost_absent = record {
  adapter_is_on = record { ae_is_set = refl; no_reset = refl };
  shows_disk_if_in = λ bad. absurd bad;
  backs_state = (
    record { engine_is_stopped = record { st_is_clear = refl; cr_is_clear = refl; no_command_is_issued = λ k. refl; no_command_is_taken = λ k. refl }; sact_is_clear = λ k. refl },
    ((λ e. let x : 0 ≡ 3 = e in omega (arith, x)), refl),
  );
  has_nothing_in_slots = record { all_are_free = λ k. refl; none_is_parked = refl };
  has_no_unanswered = λ e here. absurd (nowhere e here);
  none_is_quarantined = λ e k. absurd (nowhere e k);
}

port_lost : (n : ℕ) → PortStateInvariant (wanted_of (Any ∷ Any ∷ []) n) no_slots lost_at (port_at n) (one.served (port_at n)) (one.state (port_at n))
port_lost zero = lost_ready
port_lost (suc zero) = lost_absent
port_lost (suc (suc n)) = unserved_at no_slots lost_at (suc (suc n)) refl refl (record { all_are_free = λ slot. refl; none_is_parked = refl }) (λ e here. absurd (nowhere e here)) (λ e kept. absurd (nowhere e kept))

pub holds_lost : DriverInvariantWith (Any ∷ Any ∷ []) no_slots lost_at
holds_lost = record {
  driver_relation = knows_lost;
  served_iff_wanted_and_there = λ port low. served_of tape_lost memory_done (found ∷ gone ∷ []) port.0;
  is_on_or_served_are_dead = inl (record { ae_is_set = refl; no_reset = refl });
  ports_hold = λ port low. port_lost port.0;
}
