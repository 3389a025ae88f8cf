use Rattle.std.proofs.Common.{◌≡◌, ◌∙◌, [], ◌∷◌, refl, sym}
use Rattle.std.proofs.lemmas.Bool.{true≢false}
use Rattle.ata_types.specs.declared.request.Op.TheVariants.{Read}
use Rattle.server_examples.proofs.Showing.{has_said, shows_a_read_anew}
use Rattle.server_examples.proofs.histories.serves_a_read_anew.Goals as goal
use Rattle.server_examples.proofs.histories.serves_a_read_anew.Goals.{then-is_read, else-is_read}

pub returns-after-is_read : goal.returns-after-is_read
returns-after-is_read g c = λ yes.
    elim c.if-is_read.branch [
      | then-is_read w ↦
          let asks = c.is_read.ensures w.if-is_read.true in
          let is = asks.1 in
          let op = asks.2 in
          let reads : c.args.read.op ≡ Read = cc (is, op) in
          let told = w.is_served_anew.ensures (sym w.result-is ∙ yes) in
          let ran = has_said c.calls.ensures.laws c.in-Some.ensures.has_run (sym w.deref.ensures.value ∙ told.3) in
          shows_a_read_anew g.A.Adapter.device c.args.server.now c.calls.new.server c.args.read _ told.0 [] (told.1 ∷ []) told.1 c.calls.ensures.laws ran refl told.2 reads
      | else-is_read w ↦ absurd (true≢false (sym yes ∙ (w.result-is ∙ w.if-is_read.false)))
    ]
