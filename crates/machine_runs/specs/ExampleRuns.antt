-- What runs are that show that the laws speak of something.
use Rattle.std.specs.Prelude.{◌≡◌, ◌≢◌, ◌⊎◌, ◌<◌, true, false, List, [], ◌∷◌, ◌++◌, Contains, Some, None}
use Rattle.ata_types.specs.declared.Port.{Port}
use Rattle.ata_types.specs.declared.PortState.TheVariants.{Absent, Ready, Dead}
use Rattle.ata_types.specs.declared.request.Frame.{Frame}
use Rattle.ata_types.specs.declared.request.Op.TheVariants.{Read, Write, Flush}
use Rattle.ata_types.specs.declared.request.Outcome.TheVariants.{Ok, DeviceError, Aborted, Unplugged, PortDead}
use Rattle.block_machine.specs.declared.due.QueueMode.{QueueMode}
use Rattle.block_machine.specs.State.{DiskBytes, Memory, Accepted, Pending, Machine, block_of, sector_of, unanswered}
use Rattle.block_machine.specs.DueRequests.{conflict_on_port_by_flush_or_overlap}
use Rattle.block_machine.specs.Steps.{Step, Issue, WaitAgain, Answer, Unplug, PlugDisk, IsEnabled, AllTouched, SameBytes}
use Rattle.block_machine.specs.Expected.{after, IsInitial, AllStepsFaithful, HoldsExpected, StepIsFaithful}
use Rattle.durability.specs.Durable.{IsFlushed}
use Rattle.block_machine.specs.Events.{AbstractState, CallRecord, Service, Tick, Reset, StepDevice, Replied, WasReset, IsRun, accepts_of, reply_of, steps_of, abstract_after_all}

-- the disk that was last in at the port is put in again after this run, with these bytes
abbrev pub replug_of : AbstractState → List (CallRecord (Unit {0})) → Port → DiskBytes → Step
replug_of first run port disk = PlugDisk port ((abstract_after_all first run).machine.disk_ids port)
    ((abstract_after_all first run).machine.sizes port) disk

-- to put the port's disk in again with these bytes is a faithful step: if it is the same one, each sector has what it
-- held at some moment since its last flush
abbrev pub ReplugIsFaithful : AbstractState → List (CallRecord (Unit {0})) → Port → DiskBytes → Type 0
ReplugIsFaithful first run port disk =
    StepIsFaithful (abstract_after_all first run).machine (replug_of first run port disk)

-- The run goes on: the disk is put in again with these bytes, a service boots the port, and a read of the first sector
-- of the two writes is answered Ok. Its frame then has the bytes of the one, or those of the other.
pub record ReadsOneOf (first : AbstractState) (run : List (CallRecord (Unit {0}))) (disk : DiskBytes)
    (one other : Accepted) : Type 0 where
  pub plug : CallRecord (Unit {0})
  pub service : CallRecord (Unit {0})
  pub late : List (CallRecord (Unit {0}))
  pub runs : IsRun first (late ++ service ∷ plug ∷ run)
  pub steps_are_faithful : AllStepsFaithful first.machine (steps_of (late ++ service ∷ plug ∷ run))
  pub plug_is_replug : plug.steps ≡ replug_of first run one.port disk ∷ []
  pub asks_for_service : service.call ≡ Service
  pub port_becomes_ready : (abstract_after_all first (service ∷ plug ∷ run)).ports.state one.port ≡ Ready
  pub read : Pending
  pub reads : read.request.asked.op ≡ Read
  pub read_is_of_port : read.request.port ≡ one.port
  pub read_is_of_sector : sector_of read.request 0 ≡ sector_of one 0
  pub read_is_of_one_sector : read.request.asked.count ≡ 1
  pub answered : Contains (steps_of late) (Answer read Ok)
  pub memory : Memory
  pub memory_is_at_end : memory ≡ (abstract_after_all first (late ++ service ∷ plug ∷ run)).machine.memory
  pub frame_holds_either : SameBytes (block_of memory read.request.asked.frames.items 0) (one.blocks_at_acceptance 0)
      ⊎ SameBytes (block_of memory read.request.asked.frames.items 0) (other.blocks_at_acceptance 0)

-- In a run of calls a write of one sector is answered Ok and flushed. A later write of it, of other bytes, is answered
-- Ok too, and not flushed. The disk is taken out, and a service notices. Whatever the disk holds when it comes back, as
-- one with a volatile cache may, a read then finds the bytes of the one write or of the other; and it may come back
-- with either.
pub record FindsFlushedOrLater : Type 0 where
  pub initial_state : AbstractState
  pub early : List (CallRecord (Unit {0}))
  pub unplug : CallRecord (Unit {0})
  pub service : CallRecord (Unit {0})
  pub runs : IsRun initial_state (service ∷ unplug ∷ early)
  pub write : Accepted
  pub flush : Accepted
  pub later : Accepted
  pub writes : write.asked.op ≡ Write
  pub write_is_of_one_sector : write.asked.count ≡ 1
  pub flushed : IsFlushed initial_state.machine write flush (steps_of early)
  pub later_overwrites : (later.port ≡ write.port) × (later.asked ≡ write.asked)
  pub later_writes_other_bytes : later.blocks_at_acceptance 0 0 ≢ write.blocks_at_acceptance 0 0
  pub done : Pending
  pub request_is : done.request ≡ later
  pub answered : Contains (steps_of early) (Answer done Ok)
  pub later_is_unflushed : (r : Accepted) → Contains (accepts_of (steps_of early)) r → r.asked.op ≡ Flush
      → r.id.0 < later.id.0
  pub disk_is_unplugged : unplug.steps ≡ Unplug write.port ∷ []
  pub asks_for_service : service.call ≡ Service
  pub port_becomes_absent : (abstract_after_all initial_state (service ∷ unplug ∷ early)).ports.state write.port
      ≡ Absent
  pub reads_find_either : (disk : DiskBytes) → ReplugIsFaithful initial_state (service ∷ unplug ∷ early) write.port disk
      → ReadsOneOf initial_state (service ∷ unplug ∷ early) disk write later
  pub later_may_survive : (disk : DiskBytes) × ReplugIsFaithful initial_state (service ∷ unplug ∷ early) write.port disk
      × SameBytes (disk (sector_of write 0)) (later.blocks_at_acceptance 0)
  pub later_may_be_lost : (disk : DiskBytes) × ReplugIsFaithful initial_state (service ∷ unplug ∷ early) write.port disk
      × SameBytes (disk (sector_of write 0)) (write.blocks_at_acceptance 0)

-- In a run of calls two requests are unanswered at once: one is issued, and the other waits for it. One call then
-- answers the one and issues the other. The device is asked to end that, and a service then finds it ended and answers
-- it too.
pub record WaitsItsTurn : Type 0 where
  pub initial_state : AbstractState
  pub run : List (CallRecord (Unit {0}))
  pub runs : IsRun initial_state run
  pub steps_are_faithful : AllStepsFaithful initial_state.machine (steps_of run)
  -- the run's events: these before that call, and the two after it
  pub early : List (CallRecord (Unit {0}))
  pub answering_call : CallRecord (Unit {0})
  pub ending : CallRecord (Unit {0})
  pub service : CallRecord (Unit {0})
  pub run_is : run ≡ service ∷ ending ∷ answering_call ∷ early
  pub issued : Pending
  pub waiter : Pending
  pub book_has_both : (abstract_after_all initial_state early).machine.book ≡ issued ∷ waiter ∷ []
  pub is_issued : issued.issued ≡ true
  pub is_waiting : waiter.issued ≡ false
  pub waiter_conflicts : conflict_on_port_by_flush_or_overlap (unanswered issued) (unanswered waiter) ≡ true
  pub done : Pending
  pub answers : Contains answering_call.steps (Answer done Ok)
  pub request_is : done.request ≡ issued.request
  pub mode : QueueMode
  pub issues : Contains answering_call.steps (Issue mode waiter)
  pub issued_waiter : Pending
  pub book_has_issued_waiter : (abstract_after_all initial_state (answering_call ∷ early)).machine.book
      ≡ issued_waiter ∷ []
  pub not_ended : (issued_waiter.request ≡ waiter.request) × (issued_waiter.ended ≡ false)
  pub device_is_told : ending.call ≡ StepDevice tt
  pub ended_waiter : Pending
  pub last_is_waiter : ended_waiter.request ≡ waiter.request
  pub book_has_ended_waiter : (abstract_after_all initial_state (ending ∷ answering_call ∷ early)).machine.book
      ≡ ended_waiter ∷ []
  pub had_ended : ended_waiter.ended ≡ true
  pub asks_for_service : service.call ≡ Service
  pub answered : Contains service.steps (Answer ended_waiter Ok)

-- In a run of calls three ticks go by after a request was issued, and the third issues it again. A reset is then stuck,
-- and a service answers the request PortDead: it is kept, and its frame stays lent. A reset that ends gives the frame
-- back.
pub record ResetReleasesFrameOfDeadPort : Type 0 where
  pub initial_state : AbstractState
  pub earlier_calls : List (CallRecord (Unit {0}))
  pub first_call : CallRecord (Unit {0})
  pub second_call : CallRecord (Unit {0})
  pub third_call : CallRecord (Unit {0})
  pub stuck_reset : CallRecord (Unit {0})
  pub service : CallRecord (Unit {0})
  pub reset : CallRecord (Unit {0})
  pub runs : IsRun initial_state (reset ∷ service ∷ stuck_reset ∷ third_call ∷ second_call ∷ first_call ∷ earlier_calls)
  pub ticks : (first_call.call ≡ Tick) × (second_call.call ≡ Tick) × (third_call.call ≡ Tick)
  pub aged : Pending
  pub book_is : (abstract_after_all initial_state (second_call ∷ first_call ∷ earlier_calls)).machine.book ≡ aged ∷ []
  pub issued_once : (aged.issue_count ≡ 1) × (aged.issued ≡ true) × (aged.age ≡ 2)
  pub reissued : Pending
  pub request_is_same : reissued.request ≡ aged.request
  pub book_has_reissued : (abstract_after_all initial_state (third_call ∷ second_call ∷ first_call
      ∷ earlier_calls)).machine.book
      ≡ reissued ∷ []
  pub issued_twice : (reissued.issue_count ≡ 2) × (reissued.issued ≡ true) × (reissued.age ≡ 0)
  pub reset_is_stuck : stuck_reset.result ≡ WasReset None
  pub asks_for_service : service.call ≡ Service
  pub answers : Contains service.steps (Answer reissued PortDead)
  pub reissued_is_kept : (abstract_after_all initial_state (service ∷ stuck_reset ∷ third_call ∷ second_call
      ∷ first_call
      ∷ earlier_calls)).machine.kept ≡ reissued ∷ []
  pub frame : Frame
  pub frames_are : reissued.request.asked.frames.items ≡ frame ∷ []
  pub lent : (abstract_after_all initial_state (service ∷ stuck_reset ∷ third_call ∷ second_call ∷ first_call
      ∷ earlier_calls)).machine.lent frame
      ≡ Some reissued.request.id
  pub reset_ends : reset.result ≡ WasReset (Some [])
  pub frame_is_given_back : (abstract_after_all initial_state (reset ∷ service ∷ stuck_reset ∷ third_call ∷ second_call
      ∷ first_call
      ∷ earlier_calls)).machine.lent frame ≡ None
  pub ready : (abstract_after_all initial_state
      (reset ∷ service ∷ stuck_reset ∷ third_call ∷ second_call ∷ first_call ∷ earlier_calls)).ports.state
      reissued.request.port
      ≡ Ready

-- In a run of calls four requests are issued, one on one port and three on another. One of the three ends, and the
-- first port's disk is taken out. One service then answers the first port's request Unplugged. Because the other port
-- failed too, it answers what had ended there Ok, answers one request with its fault, and issues the last anew. That
-- one fails with its port each time, and is aborted after its fourth issue.
pub record ServiceHandlesTwoFailedPorts : Type 0 where
  pub initial_state : AbstractState
  pub earlier_calls : List (CallRecord (Unit {0}))
  pub service : CallRecord (Unit {0})
  pub third : CallRecord (Unit {0})
  pub fourth : CallRecord (Unit {0})
  pub last : CallRecord (Unit {0})
  pub runs : IsRun initial_state (last ∷ fourth ∷ third ∷ service ∷ earlier_calls)
  pub steps_are_faithful : AllStepsFaithful initial_state.machine
      (steps_of (last ∷ fourth ∷ third ∷ service ∷ earlier_calls))
  pub lost : Pending
  pub failed : Pending
  pub again : Pending
  pub ended : Pending
  pub book : (abstract_after_all initial_state earlier_calls).machine.book ≡ lost ∷ failed ∷ again ∷ ended ∷ []
  pub issued : (lost.issued ≡ true) × (failed.issued ≡ true) × (again.issued ≡ true) × (ended.issued ≡ true)
  pub had_ended : ended.ended ≡ true
  pub ports_differ : lost.request.port ≢ failed.request.port
  pub share_failed_port : (again.request.port ≡ failed.request.port) × (ended.request.port ≡ failed.request.port)
  pub disk_is_unplugged : Contains (steps_of earlier_calls) (Unplug lost.request.port)
  pub asks_for_service : (service.call ≡ Service) × (third.call ≡ Service) × (fourth.call ≡ Service)
      × (last.call ≡ Service)
  -- the failed port's answers first, which so has the lower number
  pub tells : service.result ≡ Replied (reply_of (failed, DeviceError 65 64) ∷ reply_of (ended, Ok)
      ∷ reply_of (lost, Unplugged) ∷ [])
  pub requeues : Contains service.steps (WaitAgain again)
  pub absent : (abstract_after_all initial_state (service ∷ earlier_calls)).ports.state lost.request.port ≡ Absent
  pub ready : (abstract_after_all initial_state (service ∷ earlier_calls)).ports.state failed.request.port ≡ Ready
  -- how it stands after this call, and before the last
  pub reissued : Pending
  pub book_has_reissued : (abstract_after_all initial_state (service ∷ earlier_calls)).machine.book ≡ reissued ∷ []
  pub issued_twice : (reissued.request ≡ again.request) × (reissued.issued ≡ true) × (reissued.issue_count ≡ 2)
  pub issued_last : Pending
  pub book_has_issued_last : (abstract_after_all initial_state (fourth ∷ third ∷ service ∷ earlier_calls)).machine.book
      ≡ issued_last ∷ []
  pub issued_four_times : (issued_last.request ≡ again.request) × (issued_last.issued ≡ true)
      × (issued_last.issue_count ≡ 4)
  pub last_tells_aborted : last.result ≡ Replied (reply_of (issued_last, Aborted) ∷ [])
  pub book_becomes_empty : (abstract_after_all initial_state (last ∷ fourth ∷ third ∷ service
      ∷ earlier_calls)).machine.book ≡ []
  pub frame : Frame
  pub frames_are : again.request.asked.frames.items ≡ frame ∷ []
  pub frame_is_given_back : (abstract_after_all initial_state (last ∷ fourth ∷ third ∷ service
      ∷ earlier_calls)).machine.lent frame ≡ None

-- In a run of calls a request is two ticks old, and the device is asked to end it. The third tick finds its port hung,
-- and answers the request Ok.
pub record TickAnswersEnded : Type 0 where
  pub initial_state : AbstractState
  pub early : List (CallRecord (Unit {0}))
  pub ending : CallRecord (Unit {0})
  pub tick : CallRecord (Unit {0})
  pub runs : IsRun initial_state (tick ∷ ending ∷ early)
  pub aged : Pending
  pub book_is : (abstract_after_all initial_state early).machine.book ≡ aged ∷ []
  pub not_ended : (aged.ended ≡ false) × (aged.age ≡ 2)
  pub device_is_told : ending.call ≡ StepDevice tt
  pub ended : Pending
  pub request_is_same : ended.request ≡ aged.request
  pub book : (abstract_after_all initial_state (ending ∷ early)).machine.book ≡ ended ∷ []
  pub is_ended_at_age_two : (ended.ended ≡ true) × (ended.age ≡ 2)
  pub ticks : tick.call ≡ Tick
  pub answers : tick.result ≡ Replied (reply_of (ended, Ok) ∷ [])
  pub book_becomes_empty : (abstract_after_all initial_state (tick ∷ ending ∷ early)).machine.book ≡ []

-- In a run of calls two requests are unanswered, one issued two ticks ago and one that waits for it, and their disk is
-- taken out. No service notices, but the third tick, which finds the port hung: it answers both Unplugged, and the port
-- is absent then.
pub record TickFindsUnplugged : Type 0 where
  pub initial_state : AbstractState
  pub early : List (CallRecord (Unit {0}))
  pub unplug : CallRecord (Unit {0})
  pub tick : CallRecord (Unit {0})
  pub runs : IsRun initial_state (tick ∷ unplug ∷ early)
  pub issued : Pending
  pub waiter : Pending
  pub book : (abstract_after_all initial_state early).machine.book ≡ issued ∷ waiter ∷ []
  pub requests_are : (issued.issued ≡ true) × (issued.age ≡ 2) × (issued.ended ≡ false) × (waiter.issued ≡ false)
  pub device_is_told : unplug.call ≡ StepDevice tt
  pub disk_is_unplugged : unplug.steps ≡ Unplug issued.request.port ∷ []
  pub ticks : tick.call ≡ Tick
  pub tells : tick.result ≡ Replied (reply_of (issued, Unplugged) ∷ reply_of (waiter, Unplugged) ∷ [])
  pub port_is_lost_and_stopped : (Contains tick.evidence.lost issued.request.port)
      × (Contains tick.evidence.stopped issued.request.port)
  pub absent : (abstract_after_all initial_state (tick ∷ unplug ∷ early)).ports.state issued.request.port ≡ Absent
  pub book_becomes_empty : (abstract_after_all initial_state (tick ∷ unplug ∷ early)).machine.book ≡ []
  pub frame : Frame
  pub frames_are : issued.request.asked.frames.items ≡ frame ∷ []
  pub lent : (abstract_after_all initial_state (unplug ∷ early)).machine.lent frame ≡ Some issued.request.id
  pub frame_is_given_back : (abstract_after_all initial_state (tick ∷ unplug ∷ early)).machine.lent frame ≡ None

-- In a run of calls two requests are unanswered, one issued and one that waits for it, and the server is reset four
-- times, with success. Three resets issue the one anew. The fourth aborts it, and issues the other.
pub record ResetsReissueThenAbort : Type 0 where
  pub initial_state : AbstractState
  pub earlier_calls : List (CallRecord (Unit {0}))
  pub first_call : CallRecord (Unit {0})
  pub second_call : CallRecord (Unit {0})
  pub third_call : CallRecord (Unit {0})
  pub fourth_call : CallRecord (Unit {0})
  pub runs : IsRun initial_state (fourth_call ∷ third_call ∷ second_call ∷ first_call ∷ earlier_calls)
  pub resets : (first_call.call ≡ Reset) × (second_call.call ≡ Reset) × (third_call.call ≡ Reset)
      × (fourth_call.call ≡ Reset)
  pub issued : Pending
  pub waiter : Pending
  pub book : (abstract_after_all initial_state earlier_calls).machine.book ≡ issued ∷ waiter ∷ []
  pub issued_once : (issued.issued ≡ true) × (issued.issue_count ≡ 1) × (waiter.issued ≡ false)
  pub reissued : Pending
  pub after_one : (abstract_after_all initial_state (first_call ∷ earlier_calls)).machine.book ≡ reissued ∷ waiter ∷ []
  pub issued_twice : (reissued.request ≡ issued.request) × (reissued.issued ≡ true) × (reissued.issue_count ≡ 2)
  pub issued_last : Pending
  pub after_three : (abstract_after_all initial_state (third_call ∷ second_call ∷ first_call
      ∷ earlier_calls)).machine.book
      ≡ issued_last ∷ waiter ∷ []
  pub four_times : (issued_last.request ≡ issued.request) × (issued_last.issued ≡ true) × (issued_last.issue_count ≡ 4)
  pub aborts : fourth_call.result ≡ WasReset (Some (reply_of (issued_last, Aborted) ∷ []))
  pub issued_waiter : Pending
  pub after_four : (abstract_after_all initial_state (fourth_call ∷ third_call ∷ second_call ∷ first_call
      ∷ earlier_calls)).machine.book ≡ issued_waiter ∷ []
  pub issues : (issued_waiter.request ≡ waiter.request) × (issued_waiter.issued ≡ true)

-- In a run of calls two requests are issued on a port that meets a fatal error. A service stops it and boots it, and it
-- gets stuck in that. So the requests are answered PortDead, and their frames stay lent.
pub record PortStuckInBootAnswersPortDead : Type 0 where
  pub initial_state : AbstractState
  pub earlier_calls : List (CallRecord (Unit {0}))
  pub service : CallRecord (Unit {0})
  pub runs : IsRun initial_state (service ∷ earlier_calls)
  pub first_request : Pending
  pub second_request : Pending
  pub book : (abstract_after_all initial_state earlier_calls).machine.book ≡ first_request ∷ second_request ∷ []
  pub issued : (first_request.issued ≡ true) × (second_request.issued ≡ true)
  pub share_port : second_request.request.port ≡ first_request.request.port
  pub ready : (abstract_after_all initial_state earlier_calls).ports.state first_request.request.port ≡ Ready
  pub asks_for_service : service.call ≡ Service
  pub port_is_named_fatal : Contains service.evidence.showing_fatal_error first_request.request.port
  pub stops : Contains service.evidence.stopped first_request.request.port
  pub sticks : Contains service.evidence.stuck first_request.request.port
  pub answers : service.result ≡ Replied (reply_of (first_request, PortDead) ∷ reply_of (second_request, PortDead) ∷ [])
  pub port_becomes_dead : service.ports.state first_request.request.port ≡ Dead
  pub kept_is : (abstract_after_all initial_state (service ∷ earlier_calls)).machine.kept
      ≡ second_request ∷ first_request ∷ []
  pub frame : Frame
  pub frames_are : second_request.request.asked.frames.items ≡ frame ∷ []
  pub lent : (abstract_after_all initial_state (service ∷ earlier_calls)).machine.lent frame
      ≡ Some second_request.request.id

-- The machine without the rule that nothing is issued while a kept request is left on the port: an issue is judged as
-- if none were kept.
abbrev pub IsEnabledWithoutKeptRule : Machine → Step → Type 0
IsEnabledWithoutKeptRule m (Issue mode e) = IsEnabled (record m { kept = [] }) (Issue mode e)
IsEnabledWithoutKeptRule m step = IsEnabled m step

-- each step of the history came when it might there
abbrev pub AllEnabledWithoutKeptRule : Machine → List Step → Type 0
AllEnabledWithoutKeptRule start [] = Unit {0}
AllEnabledWithoutKeptRule start (step ∷ past) = AllEnabledWithoutKeptRule start past
    × IsEnabledWithoutKeptRule (after start past) step

-- a read with all its sectors touched that doesn't have what was left, though it moved its disk's bytes
pub record ReadsWrongWithoutKeptRule : Type 0 where
  pub start : Machine
  pub history : List Step
  pub read : Pending
  pub start_is_initial : IsInitial start
  pub enabled_without_kept_rule : AllEnabledWithoutKeptRule start history
  pub steps_are_faithful : AllStepsFaithful start history
  pub is_in_book : Contains (after start history).book read
  pub all_is_touched : AllTouched read
  pub reads : read.request.asked.op ≡ Read
  pub read_holds_other_bytes : HoldsExpected start history (after start history).memory read.request → ⊥
