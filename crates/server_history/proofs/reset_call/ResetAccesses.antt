-- The accesses of a reset that ended, and the devices that they lead to.
use Rattle.std.proofs.Common.{ℕ, suc, ◌≡◌, ◌≢◌, ◌+◌, ◌<◌, ◌++◌, true, false, List, [], ◌∷◌, refl, sym, ap, ◌∙◌, subst, arith}
use Rattle.std.specs.List.{All}
use Rattle.std.proofs.lemmas.List.Elements.{All-append, All-cons, All-head, All-nil, All-tail, All-weaker}
use Rattle.ata_types.specs.declared.Port.{Port}
use Rattle.ata_types.specs.declared.request.Reply.{Reply}
use Rattle.hba_regs.specs.Bits.{bit}
use Rattle.hba_regs.specs.declared.reg.PortReg.TheVariants.{Cmd, Is as PortIs, Sctl, Serr}
use Rattle.hba_regs.specs.declared.reg.Reg.{Reg}
use Rattle.hba_regs.specs.declared.reg.Reg.TheVariants.{Bohc, Cap, Cap2, Ghc, Is, Pi, Px, Vs}
use Rattle.adapter.specs.Access.{Access, Does, DoesAll, device_after_reading, device_after_write}
use Rattle.adapter.specs.Access.Access.{Loading, Reading, Storing, Writing}
use Rattle.adapter.specs.Device.{Device}
use Rattle.adapter.specs.Rules.{IsOn}
use Rattle.adapter.specs.Steps.{Steps}
use Rattle.refinement.specs.Relation.{port_at}
use Rattle.refinement.specs.Fragments.{TapeGrows, ReadsPortOrWrites, IsDrivenBy, AccessesNoOtherPort}
use Rattle.refinement.specs.Errors.{IsFatalEntryOf}
use Rattle.refinement.specs.PortFacts.{IsFaultOf, RunsWell}
use Rattle.refinement.specs.PreservedParts.{NoPlugEvents, DoesNotWrite}
use Rattle.error_recovery.specs.Evidence.{GainsSinceStart, HidesNoTrouble}
use Rattle.driver_history.specs.Histories.{HasAeAndIe, IsPortServed}
use Rattle.driver_history.specs.PortTurn.{HasTurnIn, KeepsToAnotherPort}
use Rattle.driver_history.specs.AccessTrace.{StaysInDriverFrames, UsesPortRegistersOf, LastSctlWritesResetLink}
use Rattle.host_boot.specs.Resets.{BeginsWithReset, IsResetAccess}
use Rattle.host_boot.specs.TakeOver.{SwitchesOnBootsAndEnablesInterrupts, IsWantedAndImplemented, ReadsCapOrPi, BacksProbeResult, probe_result_of, wanted_of}
use Rattle.host_boot.specs.declared.ProbeResult.{ProbeResult}
use Rattle.host_boot.specs.declared.ProbeResult.TheVariants.{Unserved, Ready, Unready}
use Rattle.identify.specs.declared.DiskInfo.{DiskInfo}
use Rattle.port_boot.specs.States.{BringsReady, IsBootAccess}
use Rattle.port_control.specs.Engines.{EngineSticks}
use Rattle.port_control.specs.Ports.{IsCommandRegister}
use Rattle.request_queue.specs.BookEntries.{unanswered_of, due_ids}
use Rattle.server_history.specs.Prerequisites.{PrerequisiteLaws}
use Rattle.server_history.specs.Resets.{IsReinitialized, IssuesOnEachReadyPort, ResetsServer, ResolvesEachPort}
use Rattle.ncq.specs.Batches.{IsCommandIssueAccess}
use Rattle.server_history.specs.ServerState.{ServerState, is_served, mode_in, ports_of}
use Rattle.server_history.specs.StuckServer.{ServerInvariant}
use Rattle.server_history.proofs.reset_call.BootedPorts.{DidBoot, IsOfFound, TookTurn, WentBy, command_boots, went_by}
use Rattle.server_history.proofs.state.TurnAccesses.{issuing_turns}
use Rattle.server_history.proofs.state.DrivenAccesses.{driven_as}
use Rattle.server_history.proofs.recovery_turn.LastingTrouble.{issuing_leaves, ready_shows}
use Rattle.server_history.proofs.recovery_turn.RecoveryAccesses.{booting_part}
use Rattle.server_history.proofs.recovery_turn.ReplacedPort.{is_listed}
use Rattle.server_history.proofs.recovery_turn.LinkResets.{ready_resets, resets_more, resets_since}
use Rattle.server_history.proofs.plain_calls.IssueRounds.{each_driven, each_settings}
use Rattle.server_history.proofs.any_turn.ShownTrouble.{LeavesTrouble, StaysOn, grows_over, on_over, stays_on}
use Rattle.server_history.proofs.recovery_turn.HealthyPort.{ready_well}

-- ---- what is left of the server

-- while requests meet their fates
pub settles_as : (port : ℕ) (found : List ProbeResult) (replies : List Reply) (old new : ServerState) → ResolvesEachPort port found replies old new → new ≡ record old { table = new.table; kept_loans = new.kept_loans; book = new.book }
settles_as port [] replies old new is = is.1 ∙ ap (λ (n : ServerState). record old { table = n.table; kept_loans = n.kept_loans; book = n.book }) (sym is.1)
settles_as port (found ∷ rest) replies old new (mid, its, later, are, one, more) =
    settles_as (port + 1) rest later mid new more ∙ ap (λ (n : ServerState). record n { table = new.table; kept_loans = new.kept_loans; book = new.book }) one.server_is

-- an access that issues requests of one of these ports, which is ready; the first of them has this number
abbrev pub IsOfReady : ℕ → List ProbeResult → Access → Type 0
IsOfReady first ports access = (port : Port) × (k : ℕ) × (info : DiskInfo) × (port.0 ≡ first + k) × (probe_result_of ports k ≡ Ready info) × IsCommandIssueAccess port access

ready_later : (first : ℕ) (found : ProbeResult) (rest : List ProbeResult) (access : Access) → IsOfReady (first + 1) rest access → IsOfReady first (found ∷ rest) access
ready_later first found rest access (port, k, info, at, is, its) = (port, suc k, info, (omega (arith, at)), is, its)

module _ (laws : PrerequisiteLaws) where
  -- while what is due is issued
  pub issues_as : (port : ℕ) (found : List ProbeResult) (old new : ServerState) → IssuesOnEachReadyPort port found old new → new ≡ record old { device = new.device; slots = new.slots; book = new.book }
  issues_as port [] old new none = none ∙ ap (λ (n : ServerState). record old { device = n.device; slots = n.slots; book = n.book }) (sym none)
  issues_as port (Ready info ∷ rest) old new (mid, all, more) =
      issues_as (port + 1) rest mid new more
      ∙ ap (λ (n : ServerState). record n { device = new.device; slots = new.slots; book = new.book }) (each_settings laws (port_at port) (due_ids (mode_in old (port_at port)) (port_at port) (unanswered_of old.book)) old mid all)
  issues_as port (Unserved ∷ rest) old new more = issues_as (port + 1) rest old new more
  issues_as port (Unready state ∷ rest) old new more = issues_as (port + 1) rest old new more

  -- and the accesses of that
  pub issues_driven : (first : ℕ) (found : List ProbeResult) (old new : ServerState) → IssuesOnEachReadyPort first found old new → IsDrivenBy (IsOfReady first found) old.device new.device
  issues_driven first [] old new none = record { accesses = []; all_are_done = ap (λ (n : ServerState). n.device) none; accesses_are_of_kind = All-nil (IsOfReady first []) }
  issues_driven first (Ready info ∷ rest) old new (mid, all, more) =
      let early = each_driven laws (port_at first) (due_ids (mode_in old (port_at first)) (port_at first) (unanswered_of old.book)) old mid all in
      let late = issues_driven (first + 1) rest mid new more in
      record {
        accesses = early.accesses ++ late.accesses;
        all_are_done = laws.steps_and_accesses.does_append early.accesses late.accesses old.device mid.device new.device early.all_are_done late.all_are_done;
        accesses_are_of_kind = All-append (IsOfReady first (Ready info ∷ rest)) early.accesses late.accesses
            (All-weaker (IsCommandIssueAccess (port_at first)) (IsOfReady first (Ready info ∷ rest)) (λ access is. (port_at first, 0, info, (omega arith), refl, is)) early.accesses early.accesses_are_of_kind)
            (All-weaker (IsOfReady (first + 1) rest) (IsOfReady first (Ready info ∷ rest)) (ready_later first (Ready info) rest) late.accesses late.accesses_are_of_kind);
      }
  issues_driven first (Unserved ∷ rest) old new more = driven_as (IsOfReady (first + 1) rest) (IsOfReady first (Unserved ∷ rest)) old.device new.device (ready_later first Unserved rest) (issues_driven (first + 1) rest old new more)
  issues_driven first (Unready state ∷ rest) old new more =
      driven_as (IsOfReady (first + 1) rest) (IsOfReady first (Unready state ∷ rest)) old.device new.device (ready_later first (Unready state) rest) (issues_driven (first + 1) rest old new more)

-- ---- whether the adapter interrupts

noted_same : (r : Reg) (v : ℕ) (d : Device) → (device_after_reading r v d).ie ≡ d.ie
noted_same (Px port r) v d = refl
noted_same Cap v d = refl
noted_same Ghc v d = refl
noted_same Is v d = refl
noted_same Pi v d = refl
noted_same Vs v d = refl
noted_same Cap2 v d = refl
noted_same Bohc v d = refl

written_same : (r : Reg) (v : ℕ) (d : Device) → r ≢ Ghc → (device_after_write r v d).ie ≡ d.ie
written_same (Px port r) v d other = refl
written_same Cap v d other = refl
written_same Ghc v d other = absurd (other refl)
written_same Is v d other = refl
written_same Pi v d other = refl
written_same Vs v d other = refl
written_same Cap2 v d other = refl
written_same Bohc v d other = refl

module _ (laws : PrerequisiteLaws) where
  steps_same : (old new : Device) → old.hr ≡ false → Steps old new → new.ie ≡ old.ie
  steps_same old new off steps = ((laws.steps_and_accesses.steps_keep_adapter_and_notes old new steps).keeps_outside_reset off).ie_is_kept

  interrupts_one : (access : Access) (old new : Device) → old.hr ≡ false → DoesNotWrite Ghc access → Does access old new → new.ie ≡ old.ie
  interrupts_one (Reading r v) old new off spares does = ap (λ (d : Device). d.ie) does.effect ∙ noted_same r v does.at_access ∙ steps_same old does.at_access off does.steps
  interrupts_one (Writing r v) old new off spares does = ap (λ (d : Device). d.ie) does.effect ∙ written_same r v does.at_access spares ∙ steps_same old does.at_access off does.steps
  interrupts_one (Loading at bytes) old new off spares does = steps_same old new off does.steps
  interrupts_one (Storing at bytes) old new off spares does = ap (λ (d : Device). d.ie) does.effect ∙ steps_same old does.at_access off does.steps

  -- it does so still over accesses that don't write GHC
  interrupts_over : (accesses : List Access) (old new : Device) → IsOn old → All (DoesNotWrite Ghc) accesses → DoesAll accesses old new → new.ie ≡ old.ie
  interrupts_over [] old new on all is = ap (λ (d : Device). d.ie) is
  interrupts_over (access ∷ accesses) old new on all (mid, does, rest) =
      let spares = All-head (DoesNotWrite Ghc) access accesses all in
      interrupts_over accesses mid new (laws.port_event_laws.access_keeps_on access old mid on (stays_on access spares) does) (All-tail (DoesNotWrite Ghc) access accesses all) rest
      ∙ interrupts_one access old mid on.no_reset spares does

-- ---- kinds of accesses

reset_own : (access : Access) → IsResetAccess access → StaysInDriverFrames access
reset_own (Reading r v) is = tt
reset_own (Writing r v) is = tt
reset_own (Loading at bytes) is = absurd is
reset_own (Storing at bytes) is = absurd is

survey_own : (access : Access) → ReadsCapOrPi access → StaysInDriverFrames access
survey_own (Reading r v) is = tt
survey_own (Writing r v) is = tt
survey_own (Loading at bytes) is = absurd is
survey_own (Storing at bytes) is = absurd is

survey_spares : (access : Access) → ReadsCapOrPi access → DoesNotWrite Ghc access
survey_spares (Reading r v) is = tt
survey_spares (Writing r v) is = absurd is
survey_spares (Loading at bytes) is = tt
survey_spares (Storing at bytes) is = tt

module _ (Such : Port → Type 0) where
  reset_of : (access : Access) → IsResetAccess access → UsesPortRegistersOf Such access
  reset_of (Reading (Px port r) v) is = absurd is
  reset_of (Reading r v) is = tt
  reset_of (Writing (Px port r) v) is = absurd is
  reset_of (Writing r v) is = tt
  reset_of (Loading at bytes) is = tt
  reset_of (Storing at bytes) is = tt

  survey_of : (access : Access) → ReadsCapOrPi access → UsesPortRegistersOf Such access
  survey_of (Reading (Px port r) v) is = absurd is
  survey_of (Reading r v) is = tt
  survey_of (Writing r v) is = absurd is
  survey_of (Loading at bytes) is = tt
  survey_of (Storing at bytes) is = tt

  its_of : (port : Port) → Such port → (access : Access) → AccessesNoOtherPort port access → UsesPortRegistersOf Such access
  its_of port such (Reading (Px at r) v) is = subst Such (sym is) such
  its_of port such (Reading r v) is = tt
  its_of port such (Writing (Px at r) v) is = subst Such (sym is) such
  its_of port such (Writing r v) is = tt
  its_of port such (Loading at bytes) is = tt
  its_of port such (Storing at bytes) is = tt

-- a write of GHC is no write of a port's register, and one with AE and without HR leaves the adapter on
enabling_leaves : (port : Port) → LeavesTrouble port (Writing Ghc 0x80000002)
enabling_leaves port = (
  (λ e. let z : Ghc ≡ Px port PortIs = e in cc),
  (λ e. let z : Ghc ≡ Px port Serr = e in cc),
  (λ e. let z : Ghc ≡ Px port Cmd = e in cc),
  (λ e. let z : Ghc ≡ Px port Sctl = e in cc),
  λ v is. let same : 0x80000002 ≡ v = (let z : Writing Ghc 0x80000002 ≡ Writing Ghc v = is in cc) in subst (λ (n : ℕ). (bit n 31 ≡ true) × (bit n 0 ≡ false)) same (refl, refl),
)

-- those of another port leave this one
other_leaves : PrerequisiteLaws → (port : Port) (access : Access) → KeepsToAnotherPort port access → LeavesTrouble port access
other_leaves laws port access (at, apart, is) = (
  laws.one_port_spares_registers at port PortIs apart access is,
  laws.one_port_spares_registers at port Serr apart access is,
  laws.one_port_spares_registers at port Cmd apart access is,
  laws.one_port_spares_registers at port Sctl apart access is,
  stays_on access (laws.one_port_spares_ghc at access is),
)

-- ---- the whole

served_if : (found : ProbeResult) → found ≢ Unserved → is_served found ≡ true
served_if Unserved other = absurd (other refl)
served_if (Ready info) other = refl
served_if (Unready state) other = refl

module _ (laws : PrerequisiteLaws) (s new : ServerState) (replies : List Reply) (k : ServerInvariant s) (r : ResetsServer replies s new) where
  abbrev t : IsReinitialized s r.server_after_take_over
  t = r.is_reinitialized

  abbrev pub ports : List ProbeResult
  ports = t.host.ports

  abbrev way : SwitchesOnBootsAndEnablesInterrupts ports t.idle_device r.server_after_take_over.device
  way = t.takes_over.switches_on_and_boots

  -- ---- what it is then

  ports_taken : r.server_after_take_over.probe_results ≡ ports
  ports_taken = ap (λ (n : ServerState). n.probe_results) t.server_is

  settled : r.server_after_resolving ≡ record r.server_after_take_over { table = r.server_after_resolving.table; kept_loans = r.server_after_resolving.kept_loans; book = r.server_after_resolving.book }
  settled = settles_as 0 r.server_after_take_over.probe_results replies r.server_after_take_over r.server_after_resolving r.resolves_each_port

  issued : new ≡ record r.server_after_resolving { device = new.device; slots = new.slots; book = new.book }
  issued = issues_as laws 0 r.server_after_take_over.probe_results r.server_after_resolving new r.issues_on_each_ready_port

  pub ports_new : new.probe_results ≡ ports
  ports_new = ap (λ (n : ServerState). n.probe_results) issued ∙ ap (λ (n : ServerState). n.probe_results) settled ∙ ports_taken

  device_settled : r.server_after_resolving.device ≡ r.server_after_take_over.device
  device_settled = ap (λ (n : ServerState). n.device) settled

  -- ---- its accesses

  pub went : WentBy 0 ports way.device_after_survey way.device_after_boots
  went = went_by laws 0 ports way.device_after_survey way.device_after_boots way.boots

  pub issues : IsDrivenBy (IsOfReady 0 ports) r.server_after_take_over.device new.device
  issues = subst (λ (d : Device). IsDrivenBy (IsOfReady 0 ports) d new.device) device_settled
      (subst (λ (found : List ProbeResult). IsDrivenBy (IsOfReady 0 found) r.server_after_resolving.device new.device) ports_taken (issues_driven laws 0 r.server_after_take_over.probe_results r.server_after_resolving new r.issues_on_each_ready_port))

  abbrev first : List Access
  first = t.resets.followed.is_driven.accesses

  abbrev survey : List Access
  survey = way.surveys.accesses

  abbrev last : List Access
  last = Writing Ghc 0x80000002 ∷ issues.accesses

  abbrev pub accesses : List Access
  accesses = first ++ (Writing Ghc 0x80000000 ∷ (survey ++ (went.driven.accesses ++ last)))

  last_does : DoesAll last way.device_after_boots new.device
  last_does = (r.server_after_take_over.device, way.enables_interrupts, issues.all_are_done)

  pub does : DoesAll accesses s.device new.device
  does = laws.steps_and_accesses.does_append first (Writing Ghc 0x80000000 ∷ (survey ++ (went.driven.accesses ++ last))) s.device t.idle_device new.device t.resets.followed.is_driven.all_are_done (
    way.device_switched_on,
    way.switches,
    laws.steps_and_accesses.does_append survey (went.driven.accesses ++ last) way.device_switched_on way.device_after_survey new.device way.surveys.all_are_done
        (laws.steps_and_accesses.does_append went.driven.accesses last way.device_after_survey way.device_after_boots new.device went.driven.all_are_done last_does),
  )

  each : (P : Access → Type 0) → ((access : Access) → IsResetAccess access → P access) → P (Writing Ghc 0x80000000) → ((access : Access) → ReadsCapOrPi access → P access)
      → ((access : Access) → IsOfFound 0 ports access → P access) → P (Writing Ghc 0x80000002) → ((access : Access) → IsOfReady 0 ports access → P access) → All P accesses
  each P resets on surveys boots enables issuing =
      All-append P first (Writing Ghc 0x80000000 ∷ (survey ++ (went.driven.accesses ++ last))) (All-weaker IsResetAccess P resets first t.resets.followed.is_driven.accesses_are_of_kind)
      (All-cons P (Writing Ghc 0x80000000) (survey ++ (went.driven.accesses ++ last)) on
      (All-append P survey (went.driven.accesses ++ last) (All-weaker ReadsCapOrPi P surveys survey way.surveys.accesses_are_of_kind)
      (All-append P went.driven.accesses last (All-weaker (IsOfFound 0 ports) P boots went.driven.accesses went.driven.accesses_are_of_kind)
      (All-cons P (Writing Ghc 0x80000002) issues.accesses enables (All-weaker (IsOfReady 0 ports) P issuing issues.accesses issues.accesses_are_of_kind)))))

  -- ---- whose they are

  pub low_of : (port : Port) (n : ℕ) → port.0 ≡ 0 + n → probe_result_of ports n ≢ Unserved → port.0 < 4
  low_of port n at other = let listed = is_listed ports n (served_if (probe_result_of ports n) other) in let four = t.host_has_four_ports in omega (arith, at, listed, four)

  served_then : (port : ℕ) → port < 4 → (found : ProbeResult) → found ≢ Unserved → BacksProbeResult (wanted_of s.wanted port) found port r.server_after_take_over.device → IsWantedAndImplemented (wanted_of s.wanted port) port s.device
  served_then port low Unserved other stands = absurd (other refl)
  served_then port low (Ready info) other stands = (stands.0.0, ap (λ (pi : ℕ). bit pi port) (sym t.resets.adapter_is_kept.pi) ∙ ap (λ (pi : ℕ). bit pi port) (sym t.takes_over.adapter_is_kept.pi) ∙ stands.0.1)
  served_then port low (Unready state) other stands = (stands.0.0, ap (λ (pi : ℕ). bit pi port) (sym t.resets.adapter_is_kept.pi) ∙ ap (λ (pi : ℕ). bit pi port) (sym t.takes_over.adapter_is_kept.pi) ∙ stands.0.1)

  -- a port that was found to be anything was served before
  pub was_served : (port : ℕ) → port < 4 → probe_result_of ports port ≢ Unserved → is_served (probe_result_of s.probe_results port) ≡ true
  was_served port low other = (k.served_iff_wanted_and_there port low).1 (served_then port low (probe_result_of ports port) other (t.takes_over.results_are_backed port low))

  -- and one that was served is found to be something
  pub is_found : (port : ℕ) → is_served (probe_result_of s.probe_results port) ≡ true → probe_result_of ports port ≢ Unserved
  is_found port served unserved =
      let low = k.served_are_below_4 port served in
      let its = (k.served_iff_wanted_and_there port low).0 served in
      (subst (λ (f : ProbeResult). BacksProbeResult (wanted_of s.wanted port) f port r.server_after_take_over.device) unserved (t.takes_over.results_are_backed port low)).0
      (its.0, ap (λ (pi : ℕ). bit pi port) t.takes_over.adapter_is_kept.pi ∙ ap (λ (pi : ℕ). bit pi port) t.resets.adapter_is_kept.pi ∙ its.1)

  number_is : (port : Port) (n : ℕ) → port.0 ≡ 0 + n → n ≡ port.0
  number_is port n at = omega (arith, at)

  serves : (port : Port) (n : ℕ) → port.0 ≡ 0 + n → probe_result_of ports n ≢ Unserved → IsPortServed (ports_of s) port
  serves port n at other = was_served port.0 (low_of port n at other) (subst (λ (q : ℕ). probe_result_of ports q ≢ Unserved) (number_is port n at) other)

  ready_other : (n : ℕ) (info : DiskInfo) → probe_result_of ports n ≡ Ready info → probe_result_of ports n ≢ Unserved
  ready_other n info is unserved = let z : Ready info ≡ Unserved = sym is ∙ unserved in cc

  pub own : All StaysInDriverFrames accesses
  own = each StaysInDriverFrames reset_own tt survey_own
      (λ access (port, n, at, its). (booting_part laws port (low_of port n at its.0) access its.1).0) tt
      (λ access (port, n, info, at, is, its). (issuing_turns laws port (low_of port n at (ready_other n info is)) access its).1.0)

  pub of : All (UsesPortRegistersOf (IsPortServed (ports_of s))) accesses
  of = each (UsesPortRegistersOf (IsPortServed (ports_of s))) (reset_of (IsPortServed (ports_of s))) tt (survey_of (IsPortServed (ports_of s)))
      (λ access (port, n, at, its). its_of (IsPortServed (ports_of s)) port (serves port n at its.0) access (laws.boot_access_is_of_port port access its.1)) tt
      (λ access (port, n, info, at, is, its). its_of (IsPortServed (ports_of s)) port (serves port n at (ready_other n info is)) access (laws.batch_access_is_of_port port access its))

  pub begins : BeginsWithReset accesses
  begins = record { reset_accesses = first; rest = Writing Ghc 0x80000000 ∷ (survey ++ (went.driven.accesses ++ last)); accesses_are = refl; hr_is_awaited = t.resets.awaited }

  -- ---- the adapter

  issuing_host : (access : Access) → IsOfReady 0 ports access → DoesNotWrite Ghc access
  issuing_host access (port, n, info, at, is, its) = laws.one_port_spares_ghc port access (laws.batch_access_is_of_port port access its)

  pub tells : HasAeAndIe new.device
  tells =
      let spares = All-weaker (IsOfReady 0 ports) (DoesNotWrite Ghc) issuing_host issues.accesses issues.accesses_are_of_kind in (
        on_over laws issues.accesses r.server_after_take_over.device new.device t.takes_over.adapter_is_on (All-weaker (DoesNotWrite Ghc) StaysOn stays_on issues.accesses spares) issues.all_are_done,
        interrupts_over laws issues.accesses r.server_after_take_over.device new.device t.takes_over.adapter_is_on spares issues.all_are_done ∙ t.takes_over.ie_is_set,
      )

  surveyed_on : IsOn way.device_after_survey
  surveyed_on =
      let switched = laws.ghc_write_switches_on 0x80000000 t.idle_device way.device_switched_on t.resets.idle.no_reset refl refl way.switches in
      on_over laws survey way.device_switched_on way.device_after_survey switched (All-weaker ReadsCapOrPi StaysOn (λ access is. stays_on access (survey_spares access is)) survey way.surveys.accesses_are_of_kind) way.surveys.all_are_done

  last_leaves : (port : Port) → All (LeavesTrouble port) last
  last_leaves port = All-cons (LeavesTrouble port) (Writing Ghc 0x80000002) issues.accesses (enabling_leaves port)
      (All-weaker (IsOfReady 0 ports) (LeavesTrouble port) (λ access (q, n, info, at, is, its). issuing_leaves q port access its) issues.accesses issues.accesses_are_of_kind)

  -- ---- a port

  module _ (port : Port) (low : port.0 < 4) where
    pub turn : TookTurn port (probe_result_of ports port.0) went.driven.accesses way.device_after_survey way.device_after_boots
    turn = went.each port port.0 (omega arith) (let four = t.host_has_four_ports in omega (arith, low, four))

    abbrev its : HasTurnIn port way.device_after_survey way.device_after_boots
    its = turn.turn

    -- what resets its link in its part does so in the whole
    pub resets : LastSctlWritesResetLink port turn.turn.turn → LastSctlWritesResetLink port accesses
    resets is =
        let later = All-weaker (KeepsToAnotherPort port) (DoesNotWrite (Px port Sctl)) (λ access other. (other_leaves laws port access other).3) its.later its.later_are_of_others in
        let part = subst (LastSctlWritesResetLink port) turn.all (resets_more port its.before its.turn its.later is later) in
        resets_since port first (Writing Ghc 0x80000000 ∷ (survey ++ (went.driven.accesses ++ last))) (resets_since port (Writing Ghc 0x80000000 ∷ []) (survey ++ (went.driven.accesses ++ last))
        (resets_more port survey went.driven.accesses last part (All-weaker (LeavesTrouble port) (DoesNotWrite (Px port Sctl)) (λ access leaves. leaves.3) last (last_leaves port))))

    -- and what tells of an engine that is stuck
    pub sticks : EngineSticks port turn.turn.turn → EngineSticks port accesses
    sticks is =
        let part = subst (EngineSticks port) turn.all (laws.sticking_holds_with_earlier its.before (its.turn ++ its.later) port (laws.sticking_holds_with_later its.turn its.later port is)) in
        laws.sticking_holds_with_earlier first (Writing Ghc 0x80000000 ∷ (survey ++ (went.driven.accesses ++ last))) port (laws.sticking_holds_with_earlier (Writing Ghc 0x80000000 ∷ []) (survey ++ (went.driven.accesses ++ last)) port
        (laws.sticking_holds_with_earlier survey (went.driven.accesses ++ last) port (laws.sticking_holds_with_later went.driven.accesses last port part)))

    -- one that is ready
    module _ (info : DiskInfo) (is : probe_result_of ports port.0 ≡ Ready info) where
      pub did : DidBoot port (Ready info) turn.turn.turn turn.turn.start turn.turn.end
      did = subst (λ (f : ProbeResult). DidBoot port f turn.turn.turn turn.turn.start turn.turn.end) is turn.did

      abbrev stopped : Device
      stopped = did.1.0

      abbrev gets : BringsReady port stopped its.end
      gets = did.1.2

      start_on : IsOn its.start
      start_on = on_over laws its.before way.device_after_survey its.start surveyed_on (All-weaker (KeepsToAnotherPort port) StaysOn (λ access other. (other_leaves laws port access other).4) its.before its.earlier_are_of_others) its.leads_to_start

      stopped_on : IsOn stopped
      stopped_on = laws.one_port_keeps_adapter_on port its.start stopped start_on (driven_as (ReadsPortOrWrites IsCommandRegister port) (AccessesNoOtherPort port) its.start stopped (λ access x. laws.boot_access_is_of_port port access (command_boots port access x)) did.1.1)

      end_on : IsOn its.end
      end_on = laws.one_port_keeps_adapter_on port stopped its.end stopped_on (driven_as (IsBootAccess port) (AccessesNoOtherPort port) stopped its.end (laws.boot_access_is_of_port port) (ready_resets laws port stopped its.end gets).driven)

      early : TapeGrows s.device stopped
      early =
          laws.port_event_laws.tape.growth_is_transitive s.device t.idle_device stopped (grows_over laws first s.device t.idle_device t.resets.followed.is_driven.all_are_done)
          (laws.port_event_laws.tape.growth_is_transitive t.idle_device way.device_switched_on stopped (laws.port_event_laws.tape.access_grows (Writing Ghc 0x80000000) t.idle_device way.device_switched_on way.switches)
          (laws.port_event_laws.tape.growth_is_transitive way.device_switched_on way.device_after_survey stopped (grows_over laws survey way.device_switched_on way.device_after_survey way.surveys.all_are_done)
          (laws.port_event_laws.tape.growth_is_transitive way.device_after_survey its.start stopped (grows_over laws its.before way.device_after_survey its.start its.leads_to_start) (grows_over laws did.1.1.accesses its.start stopped did.1.1.all_are_done))))

      later : IsDrivenBy (LeavesTrouble port) its.end new.device
      later = record {
        accesses = its.later ++ last;
        all_are_done = laws.steps_and_accesses.does_append its.later last its.end way.device_after_boots new.device its.leads_to_new last_does;
        accesses_are_of_kind = All-append (LeavesTrouble port) its.later last (All-weaker (KeepsToAnotherPort port) (LeavesTrouble port) (other_leaves laws port) its.later its.later_are_of_others) (last_leaves port);
      }

      -- what came since ST was set is shown
      pub shows : HidesNoTrouble port.0 s.device new.device
      shows = ready_shows laws port s.device stopped its.end new.device stopped_on gets later

      -- and where nothing did, it runs well
      pub goes_well : NoPlugEvents port.0 s.device new.device → (GainsSinceStart (IsFaultOf port.0) port.0 s.device new.device → ⊥) → (GainsSinceStart (IsFatalEntryOf port.0) port.0 s.device new.device → ⊥) → RunsWell (new.device.port port.0)
      goes_well = ready_well laws port s.device stopped its.end new.device stopped_on gets later end_on early
