-- What a request is that may be accepted.
use Rattle.std.proofs.Common.{ℕ, ◌≡◌, ◌≢◌, ◌+◌, ◌^◌, ◌<◌, ◌≤◌, List, [], ◌∷◌, length, Option, Some, None, inl, inr, refl, sym, ap, ◌∙◌, subst, ⊎_elim, arith, get_or}
use Rattle.std.specs.List.{All, AllPairs, Contains}
use Rattle.std.specs.Prelude.{IsSome}
use Rattle.std.proofs.lemmas.Bool.{cases_eq, cases_lt}
use Rattle.std.proofs.lemmas.List.Elements.{All-contains}
use Rattle.std.proofs.lemmas.Option.{slice_get-get_or}
use Rattle.ata_types.specs.declared.Port.{Port}
use Rattle.ata_types.specs.declared.PortState.{PortState}
use Rattle.ata_types.specs.declared.limits.TheConstants.{MOST_READ_OR_WRITE_SECTORS}
use Rattle.ata_types.specs.declared.PortState.TheVariants.{Absent, Ready as ReadyState, Foreign, Unfit, Dead}
use Rattle.ata_types.specs.declared.grant.GrantRow.{GrantRow}
use Rattle.ata_types.specs.declared.refusal.FrameFault.TheVariants.{FrameTwice, FrameLent}
use Rattle.ata_types.specs.declared.refusal.Refusal.TheVariants.{Rule, PortNotReady, ClientFull, IdsSpent}
use Rattle.ata_types.specs.declared.refusal.Rule.TheVariants.{BadCount, FrameCount, Frames}
use Rattle.ata_types.specs.declared.request.ClientId.{ClientId}
use Rattle.ata_types.specs.declared.request.Op.{Op}
use Rattle.ata_types.specs.declared.request.Op.TheVariants.{Read, Write, Trim, Flush}
use Rattle.ata_types.specs.declared.request.Request.{Request}
use Rattle.ata_types.specs.declared.request.RequestId.{RequestId}
use Rattle.adapter.specs.Device.{Device}
use Rattle.block_machine.specs.Confinement.{IsGranted, WasAccepted}
use Rattle.block_machine.specs.Events as events
use Rattle.block_machine.specs.Histories.{JointState, IsReachable}
use Rattle.block_machine.specs.Refusals.{AdmissionContext, IsAcceptable}
use Rattle.block_machine.specs.Rules.{IsAllowedCount, IsNamed, HasGrantName, frame_count_for}
use Rattle.block_machine.specs.State as machine
use Rattle.block_machine.specs.State.{Machine, block_of}
use Rattle.block_machine.specs.Steps as steps
use Rattle.block_machine.specs.Steps.{IsInBookOrKept, MayAccept, Step, newly_accepted}
use Rattle.dma_frames.specs.FrameTables.{OwnersAndLoans, owner_of, lent_to, SetsLoanOnly}
use Rattle.host_boot.specs.TakeOver.{probe_result_of}
use Rattle.request_queue.specs.BookEntries.{IsWellFormedEntry, entry_count_of_client}
use Rattle.request_queue.specs.BookRelation.{EntryRelation}
use Rattle.server_history.specs.IssuingAndAnswering.{accepted_as}
use Rattle.block_machine.specs.Expected.{IsValidRow, after}
use Rattle.server_history.specs.ServerState.{ServerState, InCallInvariant, MachineRelation, ports_of, admission_context, state_of}
use Rattle.server_history.specs.BasicLaws.{FrameHolderLaws}
use Rattle.server_history.specs.Prerequisites.{PrerequisiteLaws}
use Rattle.server_history.proofs.plain_calls.RefusalsAndBytes.{situation_is}

-- ---- what isn't refused holds

between : (n top : ℕ) → (((1 ≤ n) × (n ≤ top) → ⊥) → ⊥) → (1 ≤ n) × (n ≤ top)
between n top twice = (
  ⊎_elim (λ (low : n < 1). absurd (twice (λ c. let from = c.0 in omega (arith, low, from)))) (λ (high : 1 ≤ n). high) (cases_lt n 1),
  ⊎_elim (λ (high : top < n). absurd (twice (λ c. let to = c.1 in omega (arith, high, to)))) (λ (low : n ≤ top). low) (cases_lt top n),
)

count_is : (op : Op) (n : ℕ) → ((IsAllowedCount op n → ⊥) → ⊥) → IsAllowedCount op n
count_is Read n twice = between n MOST_READ_OR_WRITE_SECTORS twice
count_is Write n twice = between n MOST_READ_OR_WRITE_SECTORS twice
count_is Trim n twice = between n 4194240 twice
count_is Flush n twice = ⊎_elim (λ (same : n ≡ 0). same) (λ (other : n ≢ 0). absurd (twice other)) (cases_eq n 0)

ready_is : (state : PortState) → (state ≢ ReadyState → ⊥) → state ≡ ReadyState
ready_is ReadyState twice = refl
ready_is Absent twice = absurd (twice (λ e. cc))
ready_is Foreign twice = absurd (twice (λ e. cc))
ready_is (Unfit n) twice = absurd (twice (λ e. cc))
ready_is Dead twice = absurd (twice (λ e. cc))

-- ---- the grant of a request that was accepted

-- it is of the start
was_granted : FrameHolderLaws → (start : Machine) (history : List Step) (r : machine.Accepted) → WasAccepted start history r → IsGranted start.rows r
was_granted laws start [] r was = absurd was
was_granted laws start (step ∷ past) r (inl came) =
    let g = laws.acceptable_is_granted (after start past) r came.1 in
    record { row = g.row; is_named = ((laws.rows_shrink_and_owners_stay start past).0 g.row g.is_named.0, g.is_named.1); row_port_is = g.row_port_is; op_is_allowed = g.op_is_allowed; sectors_are_covered = g.sectors_are_covered }
was_granted laws start (step ∷ past) r (inr was) = was_granted laws start past r was

-- so an unanswered request is on the port of the row that it names
pub on_its_port : FrameHolderLaws → (m : Machine) → IsReachable m → (e : machine.Pending) → Contains m.book e → (row : GrantRow) → Contains m.rows row → HasGrantName e.request.asked.client e.request.asked.grant row
    → e.request.port ≡ row.port
on_its_port laws m reached e here row there named =
    let was = laws.frame_holders_were_accepted reached.initial_machine reached.steps_since e reached.is_initial reached.steps_since_are_enabled (subst (λ (n : Machine). IsInBookOrKept n e) reached.leads_to_machine (inl here)) in
    let g = was_granted laws reached.initial_machine reached.steps_since e.request was in
    let at_first : IsReachable reached.initial_machine = record { initial_machine = reached.initial_machine; steps_since = []; is_initial = reached.is_initial; steps_since_are_enabled = tt; leads_to_machine = refl } in
    let at_start = (laws.rows_shrink_and_owners_stay reached.initial_machine reached.steps_since).0 row (subst (λ (n : Machine). Contains n.rows row) reached.leads_to_machine there) in
    g.row_port_is ∙ ap (λ (x : GrantRow). x.port) (laws.a_name_is_one_row reached.initial_machine e.request.asked.client e.request.asked.grant g.row row at_first g.is_named.0 g.is_named.1 at_start named)

module _ (s : ServerState) (r : Request) (acc : IsAcceptable (admission_context s) r) (row : GrantRow) (named : IsNamed s.grants r row) (port : Port) (port_is : row.port ≡ port) where
  -- its port is ready
  pub on_ready : state_of (probe_result_of s.probe_results port.0) ≡ ReadyState
  on_ready =
      let at : state_of (probe_result_of s.probe_results row.port.0) ≡ ReadyState = ready_is (state_of (probe_result_of s.probe_results row.port.0)) (λ other. acc (PortNotReady (state_of (probe_result_of s.probe_results row.port.0))) (other, (row, named, refl))) in
      ap (λ (p : Port). state_of (probe_result_of s.probe_results p.0)) (sym port_is) ∙ at

  -- its client has room
  pub has_room : entry_count_of_client s.book r.client.0 < 16
  has_room = ⊎_elim (λ (low : entry_count_of_client s.book r.client.0 < 16). low) (λ high. absurd (acc ClientFull high)) (cases_lt (entry_count_of_client s.book r.client.0) 16)

  -- none of its frames is lent
  pub unlent : All (λ f. lent_to s.table f ≡ None) r.frames.items
  unlent i d small = free (lent_to s.table (get_or r.frames.items i d)) refl
    where
      free : (o : Option RequestId) → lent_to s.table (get_or r.frames.items i d) ≡ o → lent_to s.table (get_or r.frames.items i d) ≡ None
      free None is = is
      free (Some id) is =
          absurd (acc (Rule (Frames (FrameLent i))) (get_or r.frames.items i d, slice_get-get_or r.frames.items i d small, subst (λ (o : Option RequestId). IsSome o) (sym is) refl))

  module _ (id : RequestId) (id_is : id.0 ≡ s.last_id + 1) where
    -- ---- it is new to the machine

    -- what a machine has of it
    abbrev pub request_in : Machine → machine.Accepted
    request_in m = record { id = id; port = port; asked = r; blocks_at_acceptance = block_of m.memory r.frames.items }

    pub entry_in : (m : Machine) → EntryRelation (accepted_as port r id) (newly_accepted (request_in m))
    entry_in m = record { id = refl; client = refl; grant = refl; port = refl; op = refl; range = refl; frames = refl; issued = refl; issues = refl; age = refl }

    module _ (laws : PrerequisiteLaws) (m : Machine) (reached : IsReachable m) (is : MachineRelation s m) where
      abbrev at : JointState Device
      at = record { device = s.device; abstract = record { machine = m; ports = ports_of s } }

      allowed : IsAcceptable (events.admission_context_of at.abstract) r
      allowed = subst (λ (x : AdmissionContext). IsAcceptable x r) (sym (situation_is laws s at (record { device_is = refl; ports_are = refl; machine_stands_for_it = is }))) acc

      pub is_new : MayAccept m (request_in m)
      is_new = record {
        id_is_next = id_is ∙ sym is.next_id_is;
        an_id_is_left = ⊎_elim (λ (low : m.next_id < 2 ^ 64). low) (λ high. absurd (allowed IdsSpent high)) (cases_lt m.next_id (2 ^ 64));
        breaks_no_rule = λ rule broken. allowed (Rule rule) broken;
        port_is_of_its_row = λ other there.
            let here = subst (λ (rows : List GrantRow). Contains rows row) (sym is.rows) named.0 in
            sym port_is ∙ ap (λ (x : GrantRow). x.port) (laws.frame_holders.a_name_is_one_row m r.client r.grant row other reached here named.1 there.0 there.1);
        client_has_room = ⊎_elim (λ (low : steps.unanswered_count m.book r.client < 16). low) (λ high. absurd (allowed ClientFull high)) (cases_lt (steps.unanswered_count m.book r.client) 16);
        blocks_are_in_memory = refl;
      }

    -- ---- it is as the book has it

    module _ (laws : PrerequisiteLaws) (k : InCallInvariant s) where
      granted : IsGranted k.machine.rows (request_in k.machine)
      granted = laws.frame_holders.acceptable_is_granted k.machine (request_in k.machine) (is_new laws k.machine k.reached k.machine_relation)

      there : Contains s.grants granted.row
      there = subst (λ (rows : List GrantRow). Contains rows granted.row) k.machine_relation.rows granted.is_named.0

      row_is : IsValidRow granted.row
      row_is = All-contains IsValidRow s.grants granted.row k.rows_are_valid there

      count : IsAllowedCount r.op r.count
      count = count_is r.op r.count (λ other. acc (Rule BadCount) other)

      -- a grant's sectors are below 2^48
      below : r.op ≢ Flush → r.first.0 + r.count ≤ 2 ^ 48
      below other =
          let covers = granted.sectors_are_covered other in
          let last = row_is.sectors_are_below_2_48 in
          omega (arith, covers.1, last)

      own : All (λ frame. owner_of s.table frame ≡ Some r.client) r.frames.items
      own = laws.acceptable_frames_are_owned (admission_context s) r acc

      apart : AllPairs (λ a b. a ≢ b) r.frames.items
      apart i j d before small same =
          acc (Rule (Frames (FrameTwice j))) (
            get_or r.frames.items j d,
            i,
            before,
            slice_get-get_or r.frames.items i d (omega (arith, before, small)) ∙ ap Some same,
            slice_get-get_or r.frames.items j d small,
          )

      pub is_accepted : (table : OwnersAndLoans) → SetsLoanOnly s.table table r.frames.items (Some id) → IsWellFormedEntry table (accepted_as port r id)
      is_accepted table lends = record {
        client_is_at_least_1 = subst (λ (c : ClientId). 1 ≤ c.0) granted.is_named.1.0 row_is.client_is_valid.0;
        client_is_at_most_8 = subst (λ (c : ClientId). c.0 ≤ 8) granted.is_named.1.0 row_is.client_is_valid.1;
        count_is_allowed = count;
        range_is_below_2_48_unless_flush = below;
        frame_count_is = ⊎_elim (λ (same : length r.frames.items ≡ frame_count_for r.op r.count). same) (λ other. absurd (acc (Rule FrameCount) other)) (cases_eq (length r.frames.items) (frame_count_for r.op r.count));
        frames_are_not_drivers = λ i d small. (k.owned_frames_are_clients (get_or r.frames.items i d) r.client (own i d small)).0;
        frames_are_own = λ i d small. ap (λ (owners : List (Option ClientId)). get_or owners (get_or r.frames.items i d).0 None) lends.owners_are_kept ∙ own i d small;
        frames_are_distinct = apart;
        frames_are_lent = lends.these_are_lent;
      }
