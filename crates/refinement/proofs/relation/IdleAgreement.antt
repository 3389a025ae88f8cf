-- An idle device and a machine with nothing in it.
use Rattle.std.proofs.Common.{ℕ, zero, suc, ◌≡◌, ◌<◌, ◌+◌, ◌*◌, ◌++◌, ◌∷◌, true, List, [], length, drop, get_or, Option, None, Some, slice_index, inl, inr, refl, sym, ◌∙◌, ap, subst, arith, ⊎_elim}
use Rattle.std.specs.Prelude.{option_map}
use Rattle.std.specs.List.{Contains}
use Rattle.std.proofs.lemmas.List.Elements.{All-contains, All-nil, Contains-append_left, Contains-append_right}
use Rattle.ata_types.specs.declared.grant.GrantRow.{GrantRow}
use Rattle.ata_types.specs.declared.request.ClientId.{ClientId}
use Rattle.ata_types.specs.declared.request.Frame.{Frame}
use Rattle.adapter.specs.Device.{Device, DurableState}
use Rattle.adapter.specs.Steps.{WereHeldSinceFlush, bytes_put_into}
use Rattle.adapter.specs.declared.tape.Entry.{Entry}
use Rattle.adapter.specs.Idle.{IsIdle, DisksAreKnownIfTheyTell}
use Rattle.block_machine.specs.State.{Block, DiskBytes, Machine}
use Rattle.block_machine.specs.Expected.{IsInitial}
use Rattle.refinement.specs.Slots.{Free, Serves}
use Rattle.refinement.specs.Relation.{IsDiskOf, SameClientFrames, SameSectors, port_at}
use Rattle.refinement.specs.Replug.{optional_block, blocks_put, replug_candidates}
use Rattle.refinement.specs.Fragments.{SomeMachineAgrees}
use Rattle.refinement.specs.Driver.{DriverRelation, idle_driver_state}
use Rattle.refinement.proofs.relation.OtherSlots.{true_false}

-- the list has all that may come back
in_block : (o : Option (List ℕ)) (bytes : List ℕ) → o ≡ Some bytes → Contains (optional_block o) (slice_index bytes)
in_block o bytes is = subst (λ (x : Option (List ℕ)). Contains (optional_block x) (slice_index bytes)) (sym is) (0, omega arith, refl)

in_blocks : (port k : ℕ) (entries : List Entry) (entry : Entry) (bytes : List ℕ) → Contains entries entry → bytes_put_into port k entry ≡ Some bytes → Contains (blocks_put port k entries) (slice_index bytes)
in_blocks port k [] entry bytes here is = let lt = here.1 in absurd (omega (arith, lt))
in_blocks port k (e ∷ es) entry bytes here is = by (λ (c : Contains es entry). in_blocks port k es entry bytes c is) here.0 here.1 here.2
  where
    by : (Contains es entry → Contains (blocks_put port k es) (slice_index bytes)) → (i : ℕ) → i < suc (length es) → get_or (e ∷ es) i entry ≡ entry → Contains (optional_block (bytes_put_into port k e) ++ blocks_put port k es) (slice_index bytes)
    by rest zero lt at = Contains-append_left (optional_block (bytes_put_into port k e)) (blocks_put port k es) (slice_index bytes) (in_block (bytes_put_into port k e) bytes (ap (bytes_put_into port k) at ∙ is))
    by rest (suc i) lt at = Contains-append_right (optional_block (bytes_put_into port k e)) (blocks_put port k es) (slice_index bytes) (rest (i, omega (arith, lt), at))

returns : (tape : List Entry) (lasting : DurableState) (port k : ℕ) (bytes : List ℕ) → WereHeldSinceFlush tape lasting port k bytes → Contains (replug_candidates tape lasting port k) (slice_index bytes)
returns tape lasting port k bytes (inl is) = Contains-append_left (optional_block (option_map (λ (sectors : ℕ → List ℕ). sectors k) lasting.sectors)) (blocks_put port k (drop lasting.tape_length tape)) (slice_index bytes)
    (in_block (option_map (λ (sectors : ℕ → List ℕ). sectors k) lasting.sectors) bytes is)
returns tape lasting port k bytes (inr (entry, here, is)) = Contains-append_right (optional_block (option_map (λ (sectors : ℕ → List ℕ). sectors k) lasting.sectors)) (blocks_put port k (drop lasting.tape_length tape)) (slice_index bytes)
    (in_blocks port k (drop lasting.tape_length tape) entry bytes here is)

pub idle_knows : (m : Machine) (d : Device) → IsInitial m → IsIdle d → ((port : ℕ) → IsDiskOf m (d.port port) port) → SameClientFrames m d.memory →
    (d.disks_tell_sectors ≡ true → (port : ℕ) → SameSectors m (d.port port).disk port) → (d.disks_tell_sectors ≡ true → (port k : ℕ) → m.overwritten_since_flush (port_at port) k ≡ replug_candidates d.tape (d.port port).lasting port k) → DriverRelation m (idle_driver_state d)
idle_knows m d s i disk memory sectors aside = record {
  state_relation = record {
    relates_slots = λ q k. record { is_not_issued = (i.ports_are_idle q).ci_is_clear k; is_not_taken = (i.ports_are_idle q).none_is_taken k; unarmed = (i.ports_are_idle q).sact_is_clear k };
    serve_distinct_requests = λ q k q' k' id u v. absurd (let z : Free ≡ Serves id = u in cc);
    received_areas_in_use_are_placed = λ q f. true_false f (i.ports_are_idle q).fre_is_clear;
    disks_are_same = disk;
    client_frames_are_same = memory;
    sectors_are_same_if_disks_tell = sectors;
    knows_replug_candidates_if_disks_tell = λ t port k inside bytes w. inr (slice_index bytes, subst (λ (l : List Block). Contains l (slice_index bytes)) (sym (aside t port k)) (returns d.tape (d.port port).lasting port k bytes w), λ b lb. refl);
  };
  have_slots_unless_parked = λ q e may at_port. ⊎_elim
      (λ z. absurd (All-contains (λ _. ⊥) [] e (All-nil (λ _. ⊥)) (subst (λ es. Contains es e) s.book_is_empty z.0)))
      (λ z. absurd (All-contains (λ _. ⊥) [] e (All-nil (λ _. ⊥)) (subst (λ es. Contains es e) s.none_is_kept z)))
      may;
}

-- ---- the machine of an idle device

-- what a disk holds, or zeros where it doesn't tell
abbrev pub told_bytes : Option (ℕ → List ℕ) → DiskBytes
told_bytes None k b = 0
told_bytes (Some told) k b = slice_index (told k) b

-- the device's disks and client frames, with these grants and owners
abbrev pub machine_of : Device → List GrantRow → (Frame → Option ClientId) → Machine
machine_of d rows owner = record {
  present = λ port. (d.port port.0).present;
  disk_ids = λ port. (d.port port.0).disk.name;
  sizes = λ port. (d.port port.0).disk.sector_count;
  disk_bytes = λ port. told_bytes (d.port port.0).disk.sectors;
  overwritten_since_flush = λ port k. replug_candidates d.tape (d.port port.0).lasting port.0 k;
  book = [];
  kept = [];
  lent = λ frame. None;
  memory = λ frame b. d.memory (4096 * frame.0 + b);
  rows = rows;
  owner = owner;
  next_id = 1;
}

pub machine_knows : (d : Device) (rows : List GrantRow) (owner : Frame → Option ClientId) → IsInitial (machine_of d rows owner) → IsIdle d
    → DisksAreKnownIfTheyTell d → DriverRelation (machine_of d rows owner) (idle_driver_state d)
machine_knows d rows owner start is told =
    idle_knows (machine_of d rows owner) d start is (λ q. record { present = refl; id = refl; sector_count = refl }) (λ f b low small. refl) sectors (λ _ port k. refl)
  where
    sectors : d.disks_tell_sectors ≡ true → (port : ℕ) → SameSectors (machine_of d rows owner) (d.port port).disk port
    sectors tells q =
        let t = told tells q in
        record { told_sectors = t.0; disk_tells = t.1; bytes_are_same = λ k b inside small. sym (ap (λ (s : Option (ℕ → List ℕ)). told_bytes s k b) t.1) }

-- with no grants, and frames that are nobody's
pub unowned_starts : (d : Device) → IsInitial (machine_of d [] (λ frame. None))
unowned_starts d = record {
  book_is_empty = refl;
  none_is_kept = refl;
  no_frame_is_lent = λ frame. refl;
  next_id_is_1 = refl;
  rows_are_at_most_64 = omega arith;
  rows_differ_in_name = λ i j d lt small. absurd (omega (arith, small));
  rows_are_valid = λ row here. absurd (All-contains (λ _. ⊥) [] row (All-nil (λ _. ⊥)) here);
  owned_frames_are_clients = λ frame client (e : None ≡ Some client). absurd (cc);
}

pub idle_agrees : (d : Device) → IsIdle d → DisksAreKnownIfTheyTell d → SomeMachineAgrees (λ port slot. Free) d
idle_agrees d is told = record {
  machine = machine_of d [] (λ frame. None);
  parked = λ port. [];
  reached = record { initial_machine = machine_of d [] (λ frame. None); steps_since = []; is_initial = unowned_starts d; steps_since_are_enabled = tt; leads_to_machine = refl };
  driver_relation = machine_knows d [] (λ frame. None) (unowned_starts d) is told;
}
