-- A read of one sector is accepted, and issued in the same call; nothing else is done meanwhile.
use Rattle.std.proofs.Common.{ℕ, zero, suc, ◌≡◌, ◌<◌, ◌≤◌, ◌^◌, ◌∙◌, ◌↔◌, ◌++◌, List, [], ◌∷◌, false, map, None, Some, inr, ⊎_elim, refl, sym, ap, subst, arith, append-nil}
use Rattle.std.specs.Prelude.{Ok, is_some, slice_get}
use Rattle.std.proofs.lemmas.Bool.{true≢false}
use Rattle.std.specs.List.{All, Contains}
use Rattle.std.proofs.lemmas.List.Elements.{All-nil}
use Rattle.ata_types.specs.declared.Port.{Port}
use Rattle.ata_types.specs.declared.grant.GrantRow.{GrantRow}
use Rattle.ata_types.specs.SectorGrants.{CoversSectors}
use Rattle.ata_types.specs.declared.refusal.FrameFault.TheVariants.{FrameForeign, FrameLent, FrameTwice}
use Rattle.ata_types.specs.declared.refusal.Refusal.TheVariants as refused
use Rattle.ata_types.specs.declared.refusal.Rule.TheVariants.{BadCount, FrameCount, Frames, NoGrant, NoRight, OutsideGrant}
use Rattle.ata_types.specs.declared.request.Frame.{Frame}
use Rattle.ata_types.specs.declared.request.Op.TheVariants.{Read, Trim}
use Rattle.ata_types.specs.declared.request.Request.{Request}
use Rattle.ata_types.specs.declared.request.RequestId.{RequestId}
use Rattle.hba_regs.specs.declared.reg.Reg.TheVariants.{Px}
use Rattle.hba_regs.specs.declared.reg.PortReg.TheVariants.{Cmd, Sctl, Sact, Ci}
use Rattle.adapter.specs.Access.{Access, DoesAll}
use Rattle.adapter.specs.Access.Access.{Reading, Writing, Loading, Storing}
use Rattle.adapter.specs.Device.{DevicePort, Device}
use Rattle.adapter.specs.declared.access.DeviceStep.{DeviceStep}
use Rattle.refinement.specs.Acts.{DriverSlots}
use Rattle.refinement.specs.Relation.{port_at}
use Rattle.refinement.specs.Driver.{TapeBacksSteps}
use Rattle.block_machine.specs.DueRequests.{IsDue}
use Rattle.block_machine.specs.Events.{Happens, Submit, Submitted, NoneDueWhereReady, IsIssuedIn, admission_context_of}
use Rattle.block_machine.specs.Histories.{JointState, JointEvent}
use Rattle.block_machine.specs.Expected.{after}
use Rattle.block_machine.specs.Ports.{Evidence}
use Rattle.block_machine.specs.Refusals.{IsAcceptable}
use Rattle.block_machine.specs.Rules.{IsNamed}
use Rattle.block_machine.specs.State.{Accepted, Block, Machine, block_of, unanswered}
use Rattle.block_machine.specs.Steps.{Step, Accept, Issue, MayAccept, IsEnabled, newly_accepted, unanswered_count}
use Rattle.block_machine.specs.declared.due.Unanswered.{Unanswered}
use Rattle.identify.specs.declared.wanted.Wanted.TheVariants.{Any}
use Rattle.driver_history.specs.Evidence.{IsEvidencedOf}
use Rattle.driver_history.specs.Histories.{IssuesDue, StoresOrWritesSactOrCi, CallCorresponds, PortCorresponds, with_issue_undone}
use Rattle.driver_history.specs.PortInvariants.{mode_of_disk}
use Rattle.driver_history.specs.AccessTrace.{WritesNeitherCmdNorSctl}
use Rattle.witnesses.specs.RunningAdapter.{port_or_empty, queueing_cap}
use Rattle.witnesses.proofs.history.Holding.{IsCalm, IsUnnamed, each, no_trouble, unnamed_evidenced}
use Rattle.witnesses.proofs.history.Members.{nowhere, only}
use Rattle.witnesses.proofs.history.Pages.{Kind}
use Rattle.witnesses.proofs.history.Ready.{Agreeing, Stands, client, fit_ready, frame, holds, instant_with, its_row, row, served_ready, shows_none, two_ready, two_rows, two_states}
use Rattle.witnesses.proofs.history.Submitting.{second}

-- ---- the request

-- a read of sector k into the first 512 bytes of frame n
abbrev pub reading : ℕ → ℕ → Request
reading k n = record { client = client; grant = 0; op = Read; first = record { 0 = k }; count = 1; frames = record { items = frame n ∷ [] } }

abbrev pub accepted_as : RequestId → ℕ → ℕ → (ℕ → Block) → Accepted
accepted_as id k n held = record { id = id; port = port_at 0; asked = reading k n; blocks_at_acceptance = held }

-- The machine may take it next: its frame is free, and the client hasn't too many.
pub record MayTakeIfDecoded (disk : Kind) (m : Machine) (id : RequestId) (k n : ℕ) : Type 0 where
  pub rows : m.rows ≡ two_rows
  pub id_is : id.0 ≡ m.next_id
  pub left : m.next_id < 2 ^ 64
  pub few : unanswered_count m.book client < 16
  pub owned : m.owner (frame n) ≡ Some client
  pub free : m.lent (frame n) ≡ None
  pub from : 100 ≤ k
  pub to : k < 164
  pub on_disk : k < disk.info.sectors

module _ (disk : Kind) (m : Machine) (id : RequestId) (k n : ℕ) (may : MayTakeIfDecoded disk m id k n) where
  -- the request names one row, and has one frame
  named_row : (r : GrantRow) → IsNamed m.rows (reading k n) r → r ≡ row 0
  named_row r named = its_row r (subst (λ (rows : List GrantRow). Contains rows r) may.rows named.0) ∙ ap row named.1.1

  its_frame : (i : ℕ) (f : Frame) → slice_get (frame n ∷ []) i ≡ Some f → (i ≡ 0) × (frame n ≡ f)
  its_frame zero f e = (refl, cc)
  its_frame (suc i) f e = absurd (let none : None ≡ Some f = e in cc)

  pub is_acceptable : IsAcceptable (admission_context_of (record { machine = m; ports = two_ready disk })) (reading k n)
  is_acceptable (refused.Rule NoGrant) h = h (row 0) (subst (λ (rows : List GrantRow). Contains rows (row 0)) (sym may.rows) (0, omega arith, refl), (refl, refl))
  is_acceptable (refused.Rule NoRight) (r, named, not_allowed) = not_allowed (ap (λ (x : GrantRow). x.rights.read) (named_row r named))
  is_acceptable (refused.Rule BadCount) h = h (omega arith, omega arith)
  is_acceptable (refused.Rule OutsideGrant) (_, (r, named, uncovered)) =
      let from = may.from in
      let to = may.to in
      uncovered (subst (λ (x : GrantRow). CoversSectors x k 1) (sym (named_row r named)) (from, omega (arith, to)))
  is_acceptable (refused.Rule FrameCount) h = h refl
  is_acceptable (refused.Rule (Frames (FrameForeign i))) (f, there, foreign) = foreign (subst (λ (x : Frame). m.owner x ≡ Some client) (its_frame i f there).1 may.owned)
  is_acceptable (refused.Rule (Frames (FrameTwice i))) (f, j, earlier, _, there) = let last = (its_frame i f there).0 in omega (arith, earlier, last)
  is_acceptable (refused.Rule (Frames (FrameLent i))) (f, there, lent) = true≢false (sym lent ∙ subst (λ (x : Frame). is_some (m.lent x) ≡ false) (its_frame i f there).1 (ap is_some may.free))
  is_acceptable (refused.PortNotReady state) (not_ready, (r, named, is)) = not_ready (sym is ∙ ap (λ (x : GrantRow). two_states x.port) (named_row r named))
  is_acceptable refused.OutsideDisk (_, (r, named, small)) =
      let on_disk = may.on_disk in
      let size = ap (λ (x : GrantRow). (admission_context_of (record { machine = m; ports = two_ready disk })).sectors x.port) (named_row r named) in
      omega (arith, on_disk, size, small)
  is_acceptable refused.TrimUnsupported h = let is : Read ≡ Trim = h.0 in cc
  is_acceptable refused.ClientFull many = let few = may.few in omega (arith, few, many)
  is_acceptable refused.IdsSpent spent = let left = may.left in omega (arith, left, spent)

  pub is_new : MayAccept m (accepted_as id k n (block_of m.memory (frame n ∷ [])))
  is_new = record {
    id_is_next = may.id_is;
    an_id_is_left = may.left;
    breaks_no_rule = λ rule h. is_acceptable (refused.Rule rule) h;
    port_is_of_its_row = λ x named. sym (ap (λ (r : GrantRow). r.port) (named_row x named));
    client_has_room = may.few;
    blocks_are_in_memory = refl;
  }

-- ---- evidence

-- nothing is named
abbrev pub nothing : Evidence
nothing = record { faults = []; lost = []; link_changed = []; showing_error = []; showing_fatal_error = []; stopped = []; stuck = [] }

pub none_named : (port : Port) → IsUnnamed nothing port
none_named port = record { lost = nowhere port; gone = nowhere port; failed = nowhere port; fatal = nowhere port; stopped = nowhere port; stuck = nowhere port }

-- what issues on port 0 leaves each engine alone
leaves_engine : (port : Port) (access : Access) → StoresOrWritesSactOrCi (port_at 0) access → WritesNeitherCmdNorSctl port access
leaves_engine port (Reading r v) i = absurd i
leaves_engine port (Loading at bytes) i = absurd i
leaves_engine port (Storing at bytes) i = (tt, tt)
leaves_engine port (Writing r v) i = (
  λ is. ⊎_elim (λ e. let x : Px (port_at 0) Sact ≡ Px port Cmd = sym e ∙ is in absurd cc) (λ e. let x : Px (port_at 0) Ci ≡ Px port Cmd = sym e ∙ is in absurd cc) i,
  λ is. ⊎_elim (λ e. let x : Px (port_at 0) Sact ≡ Px port Sctl = sym e ∙ is in absurd cc) (λ e. let x : Px (port_at 0) Ci ≡ Px port Sctl = sym e ∙ is in absurd cc) i,
)

-- no disk is put in where port 0 stands before and after
pub unplugged : (p p' : DevicePort) → Stands p → Stands p' → (n : ℕ) → (port_or_empty (p' ∷ second ∷ []) n).plug_history ≡ (port_or_empty (p ∷ second ∷ []) n).plug_history ++ []
unplugged p p' a b zero =
    let same : p'.plug_history ≡ p.plug_history = ap (λ (q : DevicePort). q.plug_history) (b.same ∙ sym a.same) in
    same ∙ sym (append-nil p.plug_history)
unplugged p p' a b (suc zero) = refl
unplugged p p' a b (suc (suc n)) = refl

-- ---- the call

-- A read of a sector is submitted on port 0, by these accesses: what was in memory, and the port, before it and after it.
pub record Submission : Type 0 where
  pub disk : Kind
  pub machine : Machine
  pub slots : DriverSlots
  pub slots_then : DriverSlots
  pub memory : ℕ → ℕ
  pub memory_then : ℕ → ℕ
  pub port : DevicePort
  pub port_then : DevicePort
  pub id : RequestId
  pub sector : ℕ
  pub frame_number : ℕ
  pub accesses : List Access

module _ (c : Submission) where
  abbrev pub accepted : Accepted
  accepted = accepted_as c.id c.sector c.frame_number (block_of c.machine.memory (frame c.frame_number ∷ []))

  abbrev pub submit_steps : List Step
  submit_steps = Issue (mode_of_disk queueing_cap c.disk.info) (newly_accepted accepted) ∷ Accept accepted ∷ []

  abbrev pub issuing : Machine
  issuing = after c.machine submit_steps

  abbrev pub before : JointState Device
  before = instant_with c.disk c.slots c.machine [] c.memory c.port

  abbrev pub submitted_at : JointState Device
  submitted_at = instant_with c.disk c.slots_then issuing [] c.memory_then c.port_then

  abbrev pub submit : JointEvent Device DeviceStep
  submit = record {
    event = record { call = Submit (reading c.sector c.frame_number); result = Submitted (Ok c.id); evidence = nothing; steps = submit_steps; ports = two_ready c.disk };
    device = submitted_at.device;
  }

  pub record IsIssued : Type 0 where
    pub stands : Stands c.port
    pub agreeing : Agreeing c.disk c.slots_then issuing [] c.memory_then c.port_then
    pub takes : MayTakeIfDecoded c.disk c.machine c.id c.sector c.frame_number
    pub may : IsEnabled (after c.machine (Accept accepted ∷ [])) (Issue (mode_of_disk queueing_cap c.disk.info) (newly_accepted accepted))
    pub all_issued : NoneDueWhereReady submitted_at.abstract
    pub due : (port : Port) → IssuesDue (mode_of_disk queueing_cap c.disk.info) submit_steps issuing port
    pub does : DoesAll c.accesses before.device submitted_at.device
    pub only : All (StoresOrWritesSactOrCi (port_at 0)) c.accesses

  -- A request that was due while no other was unanswered, and is issued: so exactly what is due is issued.
  pub due_alone : with_issue_undone submit_steps (map unanswered issuing.book) ≡ unanswered (newly_accepted accepted) ∷ []
      → IsDue (mode_of_disk queueing_cap c.disk.info) (unanswered (newly_accepted accepted) ∷ []) (unanswered (newly_accepted accepted)) → IsIssuedIn c.id submit_steps
      → (port : Port) → IssuesDue (mode_of_disk queueing_cap c.disk.info) submit_steps issuing port
  due_alone alone due issued port r here at_port = subst AllRight (sym alone) right r here
    where
      AllRight : List Unanswered → Type 0
      AllRight book = (r : Unanswered) → Contains book r → IsIssuedIn r.id submit_steps ↔ IsDue (mode_of_disk queueing_cap c.disk.info) book r

      right : AllRight (unanswered (newly_accepted accepted) ∷ [])
      right r here =
          subst (λ (x : Unanswered). IsIssuedIn x.id submit_steps ↔ IsDue (mode_of_disk queueing_cap c.disk.info) (unanswered (newly_accepted accepted) ∷ []) x)
          (sym (only (unanswered (newly_accepted accepted)) r here)) (λ _. due, λ _. issued)

  module _ (is : IsIssued) where
    pub submit_happens : Happens before.abstract submit.event
    submit_happens = record {
      steps_are_enabled = ((tt, is_new c.disk c.machine c.id c.sector c.frame_number is.takes), is.may);
      steps_are_of_call = ((tt, inr refl), inr (refl, refl));
      issue_is_last_of_request = ((tt, λ id handled issued_in. absurd (true≢false (sym handled))), λ id handled issued_in. absurd (true≢false (sym issued_in)));
      answers_are_lawful = tt;
      ports_are_well_formed = fit_ready c.disk;
      unanswered_keep_serial_and_size = λ e o here there same. (refl, refl);
      result_matches_steps = (is_acceptable c.disk c.machine c.id c.sector c.frame_number is.takes, (accepted, refl, refl), λ port. (refl, refl, refl, refl, refl, refl), is.all_issued);
    }

    pub backed : TapeBacksSteps before.device submitted_at.device c.machine submit_steps
    backed = record {
      disks_tell_sectors_is_same = refl;
      new_entries = [];
      tape_is = sym (append-nil _);
      tells_device_steps = ((tt, λ d. d), λ d. d);
      steps_are_faithful = λ _. ((tt, tt), tt);
      plugged_disks_match_steps = λ port. ([], unplugged c.port c.port_then is.stands is.agreeing.stands port, refl);
    }

    pub evidenced : (port : ℕ) → IsEvidencedOf submit.event.call submit.event.result c.accesses before (two_ready c.disk) submitted_at.device nothing (port_at port)
    evidenced port = unnamed_evidenced submit.event.call submit.event.result c.accesses before (two_ready c.disk) submitted_at.device nothing (port_at port) (none_named (port_at port))
        (shows_none before.device.tape c.memory c.port is.stands submitted_at.device port)
        (each c.accesses (leaves_engine (port_at port)) is.only)

    pub submit_part : (port : ℕ) → PortCorresponds before submit c.accesses (port_at port)
    submit_part port = record {
      finds_done = tt;
      lone_plain_faults_are_told_unless_dead = tt;
      probes_disk = tt;
      boots_anew = tt;
      loses_no_error = no_trouble nothing before (two_ready c.disk) submitted_at.device (port_at port) [] (sym (append-nil _)) (All-nil (IsCalm port)) (served_ready port)
          (shows_none before.device.tape c.memory c.port is.stands submitted_at.device port);
      runs_well_anew = λ why. absurd (⊎_elim (nowhere (port_at port)) (nowhere (port_at port)) why);
      handles_evidence = λ why. ⊎_elim (λ h. nowhere (port_at port) h) (λ h. nowhere (port_at port) h) why;
    }

    unfoldable pub submit_ties : CallCorresponds (Any ∷ Any ∷ []) before submit
    submit_ties = record {
      accesses = c.accesses;
      accesses_are_explained = (is.does, (row 0, (subst (λ (rows : List GrantRow). Contains rows (row 0)) (sym is.takes.rows) (0, omega arith, refl), (refl, refl)), is.only));
      is_backed = backed;
      is_evidenced = record { faults_are_told = λ f here. absurd (nowhere f here); each_port_is_evidenced = λ port. evidenced port.0 };
      only_failed_requeue_if_service = tt;
      issues_all_due = λ port ready. is.due port;
      ports_correspond = λ port. submit_part port.0;
      invariant_holds = (c.slots_then, holds c.disk c.slots_then issuing [] c.memory_then c.port_then is.agreeing);
    }
