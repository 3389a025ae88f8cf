use Rattle.block_server.proofs.Healthy.{HistoryLaws, more_calls, no_call, one_call}
use Rattle.block_server.proofs.laws.law_calls_that_extend_history_keep_promise.Goals as goal

pub returns : goal.returns
returns g c =
    let laws : HistoryLaws = record {
      seen = c.law_services_answer_where_bits_are_clear.ensures;
      well = c.law_healthy_calls_tell_no_fault_and_issue_due.ensures;
      rest = c.law_answers_justified.ensures;
      moves = c.law_device_moves_and_clears_are_confined.ensures;
      run = c.law_histories_are_runs.ensures;
      reads = c.law_ok_reads_hold_expected_if_sectors_told.ensures;
      lasts = c.law_replugs_keep_flushed_if_sectors_told.ensures;
    } in
    record { no_calls = no_call laws g.A.Adapter.device; one_call = one_call laws g.A.Adapter.device; calls_join = more_calls laws g.A.Adapter.device }
