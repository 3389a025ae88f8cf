-- The slot is in use, so it says a command.
use Rattle.std.proofs.Common.{inl}
use Rattle.witnesses.proofs.adapter_runs.law_guarded_commands_cannot_fail_fetch.Goals as goal

pub returns : goal.returns
returns c = λ d port slot kept_bits queued safe can.
    let command = (safe.guarded.ports_are_guarded port).slots_are_guarded slot (inl can.fetchable.issued) in
    can.says_nothing command.meaning command.places command.says
