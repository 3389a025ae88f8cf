use Rattle.std.proofs.Common.{◌∙◌, [], ◌∷◌, refl, sym}
use Rattle.server_examples.proofs.Showing.{has_said, shows_a_release}
use Rattle.server_examples.proofs.histories.releases_a_frame.Goals as goal

pub returns-in-Some : goal.returns-in-Some
returns-in-Some g c = λ yes.
    let told = c.is_released.ensures yes in
    let ran = has_said c.in-Some.ensures.laws c.in-Some.ensures.has_run (sym c.deref.ensures.value ∙ told.3) in
    shows_a_release g.A.Adapter.device c.args.server.now c.calls.new.server c.args.request c.args.client c.args.frame c.new.result.items c.new-2.result.items told.0 (told.1 ∷ []) told.1 [] c.in-Some.ensures.laws ran refl refl told.2
