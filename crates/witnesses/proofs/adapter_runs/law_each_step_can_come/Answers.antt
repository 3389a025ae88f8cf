use Rattle.std.proofs.Common.{◌≡◌, ◌≢◌, ℕ, Bool, true, [], ◌∷◌, refl}
use Rattle.adapter.specs.Device.{Device}
use Rattle.adapter.specs.FirstRead.{first_disk, first_disk_sector}
use Rattle.adapter.specs.Guarded.{IsGuarded, PassesTest}
use Rattle.adapter.specs.Steps.{DeviceTransition, Steps, Can}
use Rattle.adapter.specs.Steps.DeviceTransition.{Fetch as Fetching, FetchFault as SenselessFetching, Move as Moving, Clear as Clearing, Done as Ending, Fault as Failing, Fatal as FailingFatally, Fall as Falling, FrFall as FallingSilent, LinkUp as Linking, Unplug as Unplugging, Plug as Plugging, ResetEnds as EndingReset, Scribble as Scribbling}
use Rattle.witnesses.specs.AdapterRuns.{CanComeWithGuardedCommands, IsReachableByRun, CommandBytesAreGuarded, TransitionKind, kind_of}
use Rattle.witnesses.specs.AdapterRuns.TransitionKind.{Fetch, FetchFault, Move, Clear, Done, Fault, Fatal, Fall, FrFall, LinkUp, Unplug, Plug, ResetEnds, Scribble}
use Rattle.witnesses.proofs.adapter.Queued as queued
use Rattle.witnesses.proofs.adapter.Resetting as resetting
use Rattle.witnesses.proofs.adapter.RunningAdapter.{memory, queued_read, a_trim, trim_says}
use Rattle.witnesses.proofs.adapter.Senseless.{senseless, senseless_reached, may_fail}
use Rattle.witnesses.proofs.adapter.Sets.{is_in}
use Rattle.witnesses.proofs.adapter.Stopping as stopping
use Rattle.witnesses.proofs.adapter.Trimming as trimming
use Rattle.witnesses.proofs.adapter_runs.law_each_step_can_come.Goals as goal

safely : (kind : TransitionKind) (d : Device) → IsReachableByRun d → CommandBytesAreGuarded d → (s : DeviceTransition) → kind_of s ≡ kind → Can s d → CanComeWithGuardedCommands kind
safely kind d reached safe s is can = record { comes = record { device = d; reached = reached; step = s; kind_is = is; step_can_come = can }; safe = safe }

-- what steps of the device keep safe
abbrev StaySafe : Type 0
StaySafe = (tables kept : ℕ → Bool) (old new : Device) → IsGuarded (PassesTest tables) (PassesTest kept) old → Steps old new
    → IsGuarded (PassesTest tables) (PassesTest kept) new × ((at : ℕ) → PassesTest kept at → new.memory at ≡ old.memory at)

reads_safe : StaySafe → (d : Device) → Steps queued.issued d → CommandBytesAreGuarded d
reads_safe stay d steps = record {
  tables = is_in queued.kept;
  kept_addresses = is_in queued.kept;
  guarded = (stay (is_in queued.kept) (is_in queued.kept) queued.issued d queued.issued_safe steps).0;
}

trim_safe : StaySafe → CommandBytesAreGuarded trimming.moved
trim_safe stay = record {
  tables = is_in trimming.kept;
  kept_addresses = is_in trimming.kept;
  guarded = (stay (is_in trimming.kept) (is_in trimming.kept) trimming.issued trimming.moved trimming.issued_safe trimming.moved_steps).0;
}

reset_safe : CommandBytesAreGuarded resetting.resetting
reset_safe = record { tables = is_in resetting.kept; kept_addresses = is_in resetting.kept; guarded = resetting.resetting_safe }

by_kind : StaySafe → trimming.OneMeaning → (kind : TransitionKind) → kind ≢ FetchFault → CanComeWithGuardedCommands kind
by_kind stay alone Fetch other =
    safely Fetch queued.issued queued.issued_reached (reads_safe stay queued.issued queued.no_steps) (Fetching 0 0 queued_read (0x28000 ∷ [])) refl queued.may_fetch
by_kind stay alone FetchFault other = absurd (other refl)
by_kind stay alone Move other =
    safely Move queued.taken queued.taken_reached (reads_safe stay queued.taken queued.taken_steps) (Moving 0 1 queued.other (first_disk_sector 100)) refl queued.may_move
by_kind stay alone Clear other =
    safely Clear trimming.moved (trimming.moved_reached alone) (trim_safe stay) (Clearing 0 2 trimming.block_moved 100 8) refl trimming.may_clear
by_kind stay alone Done other =
    safely Done queued.moved queued.moved_reached (reads_safe stay queued.moved queued.moved_steps) (Ending 0 1 3 queued.other_moved) refl queued.may_end
by_kind stay alone Fault other =
    safely Fault queued.taken queued.taken_reached (reads_safe stay queued.taken queued.taken_steps) (Failing 0 0 0x40 0 queued.one) refl queued.may_fail
by_kind stay alone Fatal other = safely Fatal stopping.running stopping.running_reached stopping.running_safe (FailingFatally 0 27) refl stopping.may_break
by_kind stay alone Fall other = safely Fall stopping.stopped stopping.stopped_reached stopping.stopped_safe (Falling 0) refl stopping.may_fall
by_kind stay alone FrFall other = safely FrFall stopping.silent stopping.silent_reached stopping.silent_safe (FallingSilent 0) refl stopping.may_fall_silent
by_kind stay alone LinkUp other = safely LinkUp stopping.linking stopping.linking_reached stopping.linking_safe (Linking 0 0x101 true) refl stopping.may_link
by_kind stay alone Unplug other = safely Unplug stopping.running stopping.running_reached stopping.running_safe (Unplugging 0) refl stopping.may_unplug
by_kind stay alone Plug other = safely Plug stopping.unplugged stopping.unplugged_reached stopping.unplugged_safe (Plugging 0 first_disk) refl stopping.may_plug
by_kind stay alone ResetEnds other = safely ResetEnds resetting.resetting resetting.resetting_reached reset_safe EndingReset refl refl
by_kind stay alone Scribble other =
    safely Scribble stopping.running stopping.running_reached stopping.running_safe (Scribbling 0 0 0x400 (0xff ∷ [])) refl stopping.may_scribble

pub returns-clause-safely : goal.returns-clause-safely
returns-clause-safely c =
    by_kind c.law_kept_bytes_stay_over_device_steps.ensures (λ m places says. (c.law_slot_decodes_to_at_most_one_command.ensures memory 0 2 m a_trim places (0x9000 ∷ []) says trim_says).0)

pub returns-clause-senseless : goal.returns-clause-senseless
returns-clause-senseless c = record {
  device = senseless;
  reached = senseless_reached;
  step = SenselessFetching 0 0 true 0;
  kind_is = refl;
  step_can_come = may_fail;
}
