use Rattle.std.proofs.Common.{rules, ℕ, List, ◌≡◌, ◌∙◌, length, arith, subst, sym}
use Rattle.std.proofs.lemmas.Grind.{get_or_default_zero}
use Rattle.std.proofs.lemmas.List.{take_all}
use Rattle.sector_store.specs.Stores.{IsSectorBytes}
use Rattle.sector_store.proofs.sector_file.copy.Goals as goal

pub returns-clause-same : goal.returns-clause-same
returns-clause-same c =
    let m : List ℕ = c.args.bytes.now in
    let o : List ℕ = c.copy_quarter-4.new.out in
    let long = c.requires in
    let fits : length o ≡ 512 = search rules in
    sym (take_all 512 o (omega (arith, fits))) ∙ (c.copy_quarter-4.ensures ∙ take_all 512 m (omega (arith, long)))

pub returns-clause-bytes : goal.returns-clause-bytes
returns-clause-bytes c =
    let m : List ℕ = c.args.bytes.now in
    subst IsSectorBytes (sym (returns-clause-same c))
    (c.requires, λ k d less. rw (get_or_default_zero m k d less) (let fits = c.type_inv.bytes k in omega (arith, fits)))
