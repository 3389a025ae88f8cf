use Rattle.blockd.proofs.program.play.Goals as goal

pub returns : goal.returns
returns g c = (c.play_script.result.model, c.play_script.ensures)
