-- Stretches of the tape with no fatal error of a port, and with no fault of it.
use Rattle.std.proofs.Common.{ℕ, ◌≡◌, ◌++◌, List}
use Rattle.adapter.specs.Device.{Device}
use Rattle.adapter.specs.declared.tape.Entry.{Entry}
use Rattle.adapter.specs.declared.tape.Entry.TheVariants as entry
use Rattle.refinement.specs.Errors.{IsFatalEntryOf, NoFatalErrors, NoFaults}
use Rattle.refinement.specs.PortFacts.{IsDisturbance, IsFaultOf, Undisturbed}
use Rattle.refinement.proofs.device.TapeGains.{GainsNone, gains_nothing, gains_more, gains_parts, none_narrower}

-- ---- fatal errors

as_fatal : (port : ℕ) (old new : Device) → GainsNone (IsFatalEntryOf port) old new → NoFatalErrors port old new
as_fatal port old new g = record { new_entries = g.0; tape_is = g.1; no_such_entry = g.2 }

pub fatal_gains : (port : ℕ) (old new : Device) → NoFatalErrors port old new → GainsNone (IsFatalEntryOf port) old new
fatal_gains port old new h = (h.new_entries, h.tape_is, h.no_such_entry)

pub fatal_nothing : (port : ℕ) (d : Device) → NoFatalErrors port d d
fatal_nothing port d = as_fatal port d d (gains_nothing (IsFatalEntryOf port) d)

pub fatal_more : (port : ℕ) (old mid new : Device) → NoFatalErrors port old mid → NoFatalErrors port mid new → NoFatalErrors port old new
fatal_more port old mid new a b = as_fatal port old new (gains_more (IsFatalEntryOf port) old mid new (fatal_gains port old mid a) (fatal_gains port mid new b))

pub fatal_parts : (port : ℕ) (old mid new : Device) (early late : List Entry) → mid.tape ≡ old.tape ++ early → new.tape ≡ mid.tape ++ late → NoFatalErrors port old new → NoFatalErrors port old mid × NoFatalErrors port mid new
fatal_parts port old mid new early late a b h =
    let g = gains_parts (IsFatalEntryOf port) old mid new early late a b (fatal_gains port old new h) in
    (as_fatal port old mid g.0, as_fatal port mid new g.1)

pub undisturbed_fatal : (port : ℕ) (old new : Device) → Undisturbed port old new → NoFatalErrors port old new
undisturbed_fatal port old new u = record { new_entries = u.new_entries; tape_is = u.tape_is; no_such_entry = none_narrower (IsDisturbance port) (IsFatalEntryOf port) narrower u.new_entries u.no_disturbance }
  where
    narrower : (e : Entry) → IsFatalEntryOf port e → IsDisturbance port e
    narrower (entry.Fatal at) x = x
    narrower _ x = absurd x

-- ---- faults

as_fails : (port : ℕ) (old new : Device) → GainsNone (IsFaultOf port) old new → NoFaults port old new
as_fails port old new g = record { new_entries = g.0; tape_is = g.1; no_such_entry = g.2 }

pub fails_gains : (port : ℕ) (old new : Device) → NoFaults port old new → GainsNone (IsFaultOf port) old new
fails_gains port old new h = (h.new_entries, h.tape_is, h.no_such_entry)

pub fails_nothing : (port : ℕ) (d : Device) → NoFaults port d d
fails_nothing port d = as_fails port d d (gains_nothing (IsFaultOf port) d)

pub fails_more : (port : ℕ) (old mid new : Device) → NoFaults port old mid → NoFaults port mid new → NoFaults port old new
fails_more port old mid new a b = as_fails port old new (gains_more (IsFaultOf port) old mid new (fails_gains port old mid a) (fails_gains port mid new b))

pub fails_parts : (port : ℕ) (old mid new : Device) (early late : List Entry) → mid.tape ≡ old.tape ++ early → new.tape ≡ mid.tape ++ late → NoFaults port old new → NoFaults port old mid × NoFaults port mid new
fails_parts port old mid new early late a b h =
    let g = gains_parts (IsFaultOf port) old mid new early late a b (fails_gains port old new h) in
    (as_fails port old mid g.0, as_fails port mid new g.1)

pub undisturbed_fails : (port : ℕ) (old new : Device) → Undisturbed port old new → NoFaults port old new
undisturbed_fails port old new u = record { new_entries = u.new_entries; tape_is = u.tape_is; no_such_entry = none_narrower (IsDisturbance port) (IsFaultOf port) narrower u.new_entries u.no_disturbance }
  where
    narrower : (e : Entry) → IsFaultOf port e → IsDisturbance port e
    narrower (entry.Fault fault) x = x
    narrower _ x = absurd x
