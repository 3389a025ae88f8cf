use Rattle.ncq.proofs.Performed.{Laws, ends, silent}
use Rattle.ncq.proofs.laws.law_batch_issues_come_last.Goals as goal

pub returns : goal.returns
returns c =
    let laws : Laws = record { goes = c.law_acts_advance_driver.ensures.driver_advances; silent = c.law_acts_advance_driver.ensures.gains_no_move } in
    record {
      ends_in_issues = λ port tasks mode es old new s m i is reached knows fits. ends laws port tasks mode es old new s m i is reached knows fits;
      no_unasked_page_moves = λ port tasks mode es old new s m i is reached knows fits. silent laws port tasks mode es old new s m i is reached knows fits;
    }
