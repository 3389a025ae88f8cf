use Rattle.disk_page.proofs.Asking.{vain_since, vain_then}
use Rattle.disk_page.proofs.laws.law_slot_0_wait_in_vain_shows_in_longer_trace.Goals as goal

pub returns-clause-later : goal.returns-clause-later
returns-clause-later c = vain_then

pub returns-clause-earlier : goal.returns-clause-earlier
returns-clause-earlier c = vain_since
