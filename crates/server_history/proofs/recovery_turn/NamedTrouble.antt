-- What stands behind the trouble that a turn which mends its port names: what a look told, or what the port showed when the turn began.
use Rattle.std.proofs.Common.{◌≡◌, ◌≢◌, ◌⊎◌, false, [], inl, inr, refl, ⊎_elim}
use Rattle.std.specs.List.{Contains}
use Rattle.ata_types.specs.declared.Port.{Port}
use Rattle.hba_regs.specs.declared.reg.PortReg.TheVariants.{Is, Ssts}
use Rattle.hba_regs.specs.declared.reg.Reg.TheVariants as reg
use Rattle.hba_regs.specs.declared.reg.Reg.TheVariants.{Px}
use Rattle.adapter.specs.Access.Access.{Reading, Writing}
use Rattle.adapter.specs.Device.{Device, DevicePort}
use Rattle.adapter.specs.Rules.{IsOn}
use Rattle.refinement.specs.Fragments.{TapeGrows}
use Rattle.refinement.specs.Errors.{IsFatalEntryOf}
use Rattle.refinement.specs.PortFacts.{IsFaultOf}
use Rattle.refinement.specs.PreservedParts.{IsPlugEvent}
use Rattle.driver_history.specs.Evidence.{TapeGainsEntry, ShowsLinkChange, ShowsFailure, ShowedLinkChangeOrNoDeviceAndNoneCame}
use Rattle.error_recovery.specs.Evidence.{ShowsFatal}
use Rattle.port_control.specs.PortEvents.{TakesEvent}
use Rattle.port_control.specs.declared.events.PortEvent.{PortEvent}
use Rattle.port_control.specs.declared.events.PortEvent.TheVariants as look
use Rattle.server_history.specs.Prerequisites.{PrerequisiteLaws}
use Rattle.server_history.specs.ErrorHandling.{LookTellsErrorUnlessTimedOut}
use Rattle.port_control.specs.declared.events.PortError.{PortError}
use Rattle.port_control.specs.declared.events.PortError.TheVariants.{FatalError, TaskFileError, TimedOut, LinkChanged}
use Rattle.server_history.proofs.any_turn.ToldTrouble.{errors_shown, fatal_shown, loss_shown, no_change, no_fatal, not_missing}
use Rattle.server_history.proofs.state.FirstMembers.{first_here, nowhere}
use Rattle.server_history.proofs.recovery_turn.TurnParts.{failed_of, fatal_of, gone_of, is_named_if, named_if_is}
use Rattle.server_history.proofs.state.CallEvidence.{failure_shows, fatal_shows, loss_shows, shows_failure, shows_fatal, shows_loss, unfailed, unfatal, unlost}

module _ (laws : PrerequisiteLaws) (port : Port) (old seen new : Device) (on : IsOn old) (undue : (old.port port.0).link_due ≡ false) (later : TapeGrows seen new) where
  abbrev p : DevicePort
  p = old.port port.0

  -- what came since PxIS was read
  since_read : (told : PortEvent) (l : TakesEvent port told old seen) → TapeGrows l.after_is_read new
  since_read told l =
      laws.port_event_laws.tape.growth_is_transitive l.after_is_read l.cleared new (laws.port_event_laws.tape.access_grows (Writing (Px port Is) l.causes) l.after_is_read l.cleared l.clears)
      (laws.port_event_laws.tape.growth_is_transitive l.cleared l.acknowledged new (laws.port_event_laws.tape.access_grows (Writing reg.Is l.port_mask) l.cleared l.acknowledged l.acknowledges)
      (laws.port_event_laws.tape.growth_is_transitive l.acknowledged seen new (laws.port_event_laws.tape.access_grows (Reading (Px port Ssts) l.status) l.acknowledged seen l.reads_status) later))

  -- ---- failures

  pub failed_all : (t : PortError) → ShowsFailure p → Contains (failed_of port t p) port
  failed_all TaskFileError shows = first_here port []
  failed_all FatalError shows = first_here port []
  failed_all LinkChanged shows = is_named_if (shows_failure p) port (failure_shows p shows)
  failed_all TimedOut shows = is_named_if (shows_failure p) port (failure_shows p shows)

  pub failed_only : (t : PortError) → LookTellsErrorUnlessTimedOut port t old seen → Contains (failed_of port t p) port
      → ShowsFailure p ⊎ (TapeGainsEntry (IsFaultOf port.0) old new ⊎ TapeGainsEntry (IsFatalEntryOf port.0) old new)
  failed_only TaskFileError l here = errors_shown laws port look.TaskFileError old seen l on (inl refl) new (since_read look.TaskFileError l)
  failed_only FatalError l here = errors_shown laws port look.FatalError old seen l on (inr refl) new (since_read look.FatalError l)
  failed_only LinkChanged l here = inl (unfailed p (named_if_is (shows_failure p) port here))
  failed_only TimedOut same here = inl (unfailed p (named_if_is (shows_failure p) port here))

  -- ---- fatal errors

  pub fatal_all : (t : PortError) → LookTellsErrorUnlessTimedOut port t old seen → ShowsFatal p → Contains (fatal_of port t p) port
  fatal_all TaskFileError l fatal = absurd (no_fatal laws port look.TaskFileError old seen l on refl fatal)
  fatal_all FatalError l fatal = first_here port []
  fatal_all LinkChanged l fatal = is_named_if (shows_fatal p) port (fatal_shows p fatal)
  fatal_all TimedOut same fatal = is_named_if (shows_fatal p) port (fatal_shows p fatal)

  pub fatal_only : (t : PortError) → LookTellsErrorUnlessTimedOut port t old seen → Contains (fatal_of port t p) port → ShowsFatal p ⊎ TapeGainsEntry (IsFatalEntryOf port.0) old new
  fatal_only TaskFileError l here = absurd (nowhere port here)
  fatal_only FatalError l here = fatal_shown laws port look.FatalError old seen l on refl new (since_read look.FatalError l)
  fatal_only LinkChanged l here = inl (unfatal p (named_if_is (shows_fatal p) port here))
  fatal_only TimedOut same here = inl (unfatal p (named_if_is (shows_fatal p) port here))

  -- ---- a loss

  -- a look that told something else found nothing of it
  unlost_by : (told : PortEvent) → TakesEvent port told old seen → told ≢ look.LinkChanged → ShowedLinkChangeOrNoDeviceAndNoneCame port old new → ⊥
  unlost_by told l other shows = ⊎_elim
      (no_change laws port told old seen l on other)
      (λ missing. not_missing laws port told old seen l on other new later undue missing.0 missing.1)
      shows

  pub gone_all : (t : PortError) → LookTellsErrorUnlessTimedOut port t old seen → ShowedLinkChangeOrNoDeviceAndNoneCame port old new → Contains (gone_of port t p) port
  gone_all TaskFileError l shows = absurd (unlost_by look.TaskFileError l (λ e. let z : look.TaskFileError ≡ look.LinkChanged = e in cc) shows)
  gone_all FatalError l shows = absurd (unlost_by look.FatalError l (λ e. let z : look.FatalError ≡ look.LinkChanged = e in cc) shows)
  gone_all LinkChanged l shows = first_here port []
  gone_all TimedOut same shows = is_named_if (shows_loss p) port (loss_shows p (⊎_elim (λ change. inl change) (λ missing. inr missing.0) shows))

  -- a change that was there to tell, a missing device, or a disk that went or came
  abbrev pub IsLoss : Type 0
  IsLoss = ShowsLinkChange p ⊎ ((p.ssts_det ≢ 3) ⊎ TapeGainsEntry (IsPlugEvent port.0) old new)

  pub loss : (t : PortError) → LookTellsErrorUnlessTimedOut port t old seen → t ≡ LinkChanged → IsLoss
  loss TaskFileError l lost = let z : TaskFileError ≡ LinkChanged = lost in absurd cc
  loss FatalError l lost = let z : FatalError ≡ LinkChanged = lost in absurd cc
  loss LinkChanged l lost = loss_shown laws port look.LinkChanged old seen l on refl undue new later
  loss TimedOut same lost = let z : TimedOut ≡ LinkChanged = lost in absurd cc

  pub gone_only : (t : PortError) → LookTellsErrorUnlessTimedOut port t old seen → Contains (gone_of port t p) port → IsLoss
  gone_only TaskFileError l here = absurd (nowhere port here)
  gone_only FatalError l here = absurd (nowhere port here)
  gone_only LinkChanged l here = loss_shown laws port look.LinkChanged old seen l on refl undue new later
  gone_only TimedOut same here = ⊎_elim (λ change. inl change) (λ out. inr (inl out)) (unlost p (named_if_is (shows_loss p) port here))

-- unless a request is hung, who is gone was lost
pub gone_is : (port : Port) (p : DevicePort) (t : PortError) → t ≢ TimedOut → Contains (gone_of port t p) port → t ≡ LinkChanged
gone_is port p TaskFileError other here = absurd (nowhere port here)
gone_is port p FatalError other here = absurd (nowhere port here)
gone_is port p LinkChanged other here = refl
gone_is port p TimedOut other here = absurd (other refl)
