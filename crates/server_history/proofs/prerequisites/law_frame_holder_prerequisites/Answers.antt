use Rattle.server_history.proofs.prerequisites.law_frame_holder_prerequisites.Goals as goal

pub returns : goal.returns
returns c = record {
  enabled_histories_stay_in_limits = c.law_book_limits_hold_and_frames_are_lent.ensures;
  frame_holders_were_accepted = c.law_request_in_book_or_kept_was_accepted.ensures;
  acceptable_is_granted = c.law_accepted_is_granted.ensures;
  rows_shrink_and_owners_stay = c.law_rows_shrink_and_owners_stay.ensures;
  an_id_is_accepted_once = c.law_one_id_is_one_request.ensures;
  a_name_is_one_row = c.law_a_grant_name_is_of_at_most_one_row.ensures;
  held_frame_is_of_request = c.law_lent_frame_is_of_its_request.ensures;
  kept_is_not_in_book = c.law_kept_is_not_in_book.ensures;
}
