use Rattle.refinement.proofs.steps.SparedBook.{steps_spare, spares_refl, spares_more, same_due, entry_is_found_in_later_book, entry_is_found_in_earlier_book, frames_stay, none_kept_after}
use Rattle.refinement.proofs.laws.law_requests_only_advance_over_device_steps.Goals as goal

pub returns-clause-spares : goal.returns-clause-spares
returns-clause-spares c = steps_spare

pub returns-clause-reflexive : goal.returns-clause-reflexive
returns-clause-reflexive c = spares_refl

pub returns-clause-transitive : goal.returns-clause-transitive
returns-clause-transitive c = spares_more

pub returns-clause-due_is_the_same : goal.returns-clause-due_is_the_same
returns-clause-due_is_the_same c = same_due

pub returns-clause-is_found_later : goal.returns-clause-is_found_later
returns-clause-is_found_later c = entry_is_found_in_later_book

pub returns-clause-was_found_before : goal.returns-clause-was_found_before
returns-clause-was_found_before c = entry_is_found_in_earlier_book

pub returns-clause-unlent_frames_keep_bytes : goal.returns-clause-unlent_frames_keep_bytes
returns-clause-unlent_frames_keep_bytes c = frames_stay

pub returns-clause-none_quarantined_stays : goal.returns-clause-none_quarantined_stays
returns-clause-none_quarantined_stays c = none_kept_after
