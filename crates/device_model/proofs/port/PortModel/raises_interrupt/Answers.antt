use Rattle.std.proofs.Common.{ℕ, ◌≡◌, ◌||◌, Bool, true, false, refl}
use Rattle.adapter.specs.Access.{raises_cause}
use Rattle.device_model.specs.PortView.{port_of}
use Rattle.device_model.proofs.port.PortModel.raises_interrupt.Goals as goal

-- nine of them, whichever are taken together first
nine : (a b c d e f g h i : Bool) → (a || b || c || d || e || f || g || h || i) ≡ (a || (b || (c || (d || (e || (f || (g || (h || (i || false)))))))))
nine true b c d e f g h i = refl
nine false true c d e f g h i = refl
nine false false true d e f g h i = refl
nine false false false true e f g h i = refl
nine false false false false true f g h i = refl
nine false false false false false true g h i = refl
nine false false false false false false true h i = refl
nine false false false false false false false true i = refl
nine false false false false false false false false true = refl
nine false false false false false false false false false = refl

pub returns : goal.returns
returns c = λ m.
    let r : ℕ → Bool = raises_cause (port_of c.args.self.now m) in
    rw (c.raises_cause.ensures m, c.raises_cause-2.ensures m, c.raises_cause-3.ensures m, c.raises_cause-4.ensures m, c.raises_cause-5.ensures m, c.raises_cause-6.ensures m, c.raises_cause-7.ensures m, c.raises_cause-8.ensures m, c.raises_cause-9.ensures m)
    (nine (r 0) (r 1) (r 3) (r 6) (r 22) (r 27) (r 28) (r 29) (r 30))
