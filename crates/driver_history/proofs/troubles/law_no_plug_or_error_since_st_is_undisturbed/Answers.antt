use Rattle.driver_history.proofs.Since.{calm_since}
use Rattle.driver_history.proofs.troubles.law_no_plug_or_error_since_st_is_undisturbed.Goals as goal

pub returns : goal.returns
returns c = λ port old mid new early late. calm_since c.law_prerequisites.ensures port old mid new early late
