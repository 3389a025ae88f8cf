use Rattle.std.proofs.Common.{ℕ, ◌%◌, ap, sym, ◌∙◌, arith}
use Rattle.dma_frames.specs.TableWords.{client_of, number_at}
use Rattle.dma_frames.proofs.OwnerWords.{owner_is, owner_past}
use Rattle.dma_frames.proofs.owner_in.Goals as goal

pub returns-in-Some : goal.returns-in-Some
returns-in-Some c =
    let h = c.in-Some.ensures.lookup.3 in
    let within = h.0 in
    c.client_of.ensures ∙ (ap (λ (w : ℕ). client_of (number_at w (c.args.frame.0 % 16))) (h.1 0) ∙ sym (owner_is c.args.owners.now c.args.frame.0 (omega (arith, within))))

pub returns-in-None : goal.returns-in-None
returns-in-None c = let past = c.in-None.ensures.lookup.3 in sym (owner_past c.args.owners.now c.args.frame.0 (omega (arith, past)))
