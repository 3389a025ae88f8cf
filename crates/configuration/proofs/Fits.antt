-- The plan of a sound configuration is one that a server can serve.
use Rattle.ata_types.specs.declared.memory.TheConstants.{FEWEST_FRAMES, MOST_FRAMES}
use Rattle.std.proofs.Common.{ℕ, ◌≢◌, ◌<◌, ◌≤◌, ◌∙◌, List, [], ◌∷◌, Option, Some, None, All, AllPairs, ap, arith, eqb-true, get_or, length, map, subst, sym}
use Rattle.std.proofs.Math.Dec.{eqb}
use Rattle.std.proofs.lemmas.Bool.Decides.{Decides-eqb}
use Rattle.std.proofs.lemmas.List.{get_or-map, length-map}
use Rattle.std.proofs.lemmas.List.Elements.{All-cons, All-map}
use Rattle.std.proofs.lemmas.List.Folds.{Any-from_list_any}
use Rattle.std.proofs.lemmas.List.Kept.{AllPairs-cons}
use Rattle.std.proofs.lemmas.Map.Made.{IsDistinct-from_AllPairs}
use Rattle.std.proofs.lemmas.Map.Steps.{length-le_from_distinct_below}
use Rattle.block_machine.specs.Rules.{DifferInName}
use Rattle.configuration.specs.Ranges.{IsClientInRange}
use Rattle.configuration.specs.Rules.{ConfiguresPort, IsInRange, LacksEveryFault}
use Rattle.configuration.specs.declared.ClientConfig.{ClientConfig}
use Rattle.configuration.specs.declared.Config.{Config}
use Rattle.configuration.specs.declared.FaultKind.TheVariants.{OutOfRange, Duplicate, SharedFrames, UnknownPort}
use Rattle.dma_frames.specs.FrameTables.{FrameExtent, ExtentsApart}
use Rattle.identify.specs.declared.wanted.Wanted.{Wanted}
use Rattle.identify.specs.declared.wanted.Wanted.TheVariants.{Nothing}
use Rattle.configuration.specs.PlanParts.{AreWantedOf, wanted_disk, row_of, owner_extent}
use Rattle.configuration.specs.Plan.{AreClientExtents, HasClientFrames, IsClientNumber, IsServablePlan, IsPlanOf, IsServableGrant, PlanView}

-- what each two elements have in common, each two of their images have
AllPairs-map : {X Y : Type 0} (R : Y → Y → Type 0) (f : X → Y) (xs : List X) → AllPairs (λ x y. R (f x) (f y)) xs
    → AllPairs R (map f xs)
AllPairs-map R f [] h i j d before within = absurd (omega (arith, within))
AllPairs-map R f (x ∷ xs) h i j d before within =
    let high : j < length (x ∷ xs) = omega (arith, within, length-map (x ∷ xs) f) in
    let low : i < length (x ∷ xs) = omega (arith, before, high) in
    let first = sym (get_or-map f (x ∷ xs) i x d low) in
    let second = sym (get_or-map f (x ∷ xs) j x d high) in
    subst (λ y. R y (get_or (map f (x ∷ xs)) j d)) first
    (subst (R (f (get_or (x ∷ xs) i x))) second (h i j x before high))

-- numbers from 1 to 8, no two of them the same, are eight at most
eight : (ids : List ℕ) → All (λ id. (1 ≤ id) × (id ≤ 8)) ids → AllPairs (λ a b. a ≢ b) ids → length ids ≤ 8
eight ids range once =
    let all = 0 ∷ ids in
    let zero_apart : All (λ id. 0 ≢ id) ids = λ k d low is. omega (arith, (range k d low).0, is) in
    let apart = AllPairs-cons (λ a b. a ≢ b) 0 ids zero_apart once in
    let small : All (λ id. id < 9) all = All-cons (λ id. id < 9) 0 ids (omega arith) (λ k d low. omega (arith, (range k d low).1)) in
    let below : (q : ℕ) → _ → q < 9 = λ q has.
    let any = Any-from_list_any (eqb q) all has in
    omega (arith, eqb-true q any.1 any.4, small any.0 any.1 any.2, any.3)
    in
    omega (arith, length-le_from_distinct_below all 9 (IsDistinct-from_AllPairs Decides-eqb all apart) below)

-- what a port asks for is a disk
some_disk : (serial : Option (List ℕ)) → wanted_disk serial ≢ Nothing
some_disk None = λ is. cc
some_disk (Some serial) = λ is. cc

module _ (c : Config) (sound : LacksEveryFault c) where
  pub in_range : IsInRange c
  in_range = sound OutOfRange

  pub clients_within : All (IsClientInRange MOST_FRAMES) c.client.items
  clients_within = λ k d low.
      let is = in_range.parts.clients k d low in
      record {
        id_is_positive = is.id_is_positive;
        id_is_a_clients = is.id_is_a_clients;
        first_frame_is_no_drivers = is.first_frame_is_no_drivers;
        has_a_frame = is.has_a_frame;
        frames_end_in_memory = omega (arith, is.frames_end_in_memory, in_range.numbers.frames.1);
      }

  pub few_clients : length c.client.items ≤ 8
  few_clients =
      let clients = c.client.items in
      let id = λ (client : ClientConfig). client.id in
      let range = All-map (λ n. (1 ≤ n) × (n ≤ 8)) id clients
      (λ k d low. ((in_range.parts.clients k d low).id_is_positive, (in_range.parts.clients k d low).id_is_a_clients)) in
      let once = AllPairs-map (λ a b. a ≢ b) id clients (sound Duplicate).clients in
      omega (arith, eight (map id clients) range once, length-map clients id)

  runs : AreClientExtents c.frames (map owner_extent c.client.items)
  runs = record {
    owners_are_clients = All-map (λ (run : FrameExtent). IsClientNumber run.0) owner_extent c.client.items
        (λ k d low. ((in_range.parts.clients k d low).id_is_positive, (in_range.parts.clients k d low).id_is_a_clients));
    frames_are_clients_frames = All-map (HasClientFrames c.frames) owner_extent c.client.items
        (λ k d low. let is = in_range.parts.clients k d low in (is.first_frame_is_no_drivers, is.has_a_frame, is.frames_end_in_memory));
    extents_share_no_frame = AllPairs-map ExtentsApart owner_extent c.client.items
        (λ i j d before high f a b. (sound SharedFrames i j d before high).no_common_frame f.0 a b);
  }

  served : (wanted : List Wanted) → AreWantedOf c.port.items wanted → All (λ g. IsServableGrant wanted (row_of g)) c.grant.items
  unfolding ConfiguresPort
  served wanted are k d low =
      let g = get_or c.grant.items k d in
      let is = in_range.parts.grants k d low in
      let port = sound UnknownPort k d low in
      let disk = are g.port (omega (arith, is.port)) in
      let named = disk.2.configured_port_wants_disk port.0 port.1 port.2 (ap (λ p. p.number) port.3 ∙ port.4) in
      record {
        row_is_valid =
            record {
              client_is_valid = (is.client_is_positive, is.client_is_a_clients);
              number_is_at_most_63 = is.number;
              port_is_at_most_3 = is.port;
              count_is_positive = is.has_a_sector;
              sectors_are_below_2_48 = is.sectors_end_by_2_48;
            };
        disk_is_wanted = (disk.0, disk.1, λ nothing. some_disk _ (sym named ∙ nothing));
      }

  names : AllPairs DifferInName (map row_of c.grant.items)
  names = AllPairs-map DifferInName row_of c.grant.items
      (λ i j d before high same. (sound Duplicate).grants i j d before high (sym (ap (λ client. client.0) same.0)) (sym same.1))

  pub plan_fits : (p : PlanView) → IsPlanOf c p → IsServablePlan p
  plan_fits p is = record {
    memory = subst (λ n. (FEWEST_FRAMES ≤ n) × (n ≤ MOST_FRAMES)) (sym is.frames) in_range.numbers.frames;
    runs = subst (λ n. AreClientExtents n p.owners) (sym is.frames) (subst (AreClientExtents c.frames) (sym is.owners) runs);
    at_most_64_grants = omega (arith, ap length is.grants, length-map c.grant.items row_of, in_range.numbers.at_most_64_grants);
    grants = subst (All (IsServableGrant p.wanted)) (sym is.grants)
        (All-map (IsServableGrant p.wanted) row_of c.grant.items (served p.wanted is.wanted));
    grants_differ_in_name = subst (AllPairs DifferInName) (sym is.grants) names;
  }
