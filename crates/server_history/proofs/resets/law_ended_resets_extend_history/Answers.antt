use Rattle.server_history.proofs.reset_call.Reset.{resets_add_given}
use Rattle.server_history.proofs.reset_call.ResetEvidence.{is_rebooted}
use Rattle.server_history.proofs.resets.law_ended_resets_extend_history.Goals as goal

pub returns : goal.returns
returns c = λ s new replies booked resets.
    let laws = c.law_reset_prerequisites.ensures in
    resets_add_given laws s new replies (is_rebooted laws.prerequisites s new replies booked resets) booked resets
