use Rattle.grants.proofs.RowLemmas.{found_row}
use Rattle.grants.proofs.Grants.row.Goals as goal

pub returns-in-Some : goal.returns-in-Some
returns-in-Some c = found_row _ _ c.self.view_is c.self.invariant.rows_differ_in_name c.args.client c.args.number c.in-Some.place _ _ c.index.ensures c.in-Some.ensures.place

pub returns-in-None : goal.returns-in-None
returns-in-None c = λ row. (λ e. absurd (cc), λ w. absurd (c.in-None.ensures.place row w.0 w.1))
