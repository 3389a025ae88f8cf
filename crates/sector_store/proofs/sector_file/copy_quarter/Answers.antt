use Rattle.std.proofs.Common.{rules, ◌≡◌, ◌+◌, ◌-◌, ◌∙◌, ℕ, List, drop, length, take, arith, ap}
use Rattle.sector_store.proofs.Quarters.{take_copied}
use Rattle.sector_store.proofs.sector_file.copy_quarter.Goals as goal

pub returns : goal.returns
returns c =
    let m : List ℕ = c.args.bytes.now in
    let o : List ℕ = c.args.out.now in
    let at : ℕ = c.args.at in
    let whole : at + 128 - at ≡ 128 = omega arith in
    let long = c.requires.long in
    let within = c.requires.within in
    let fits : length o ≡ 512 = search rules in
    take_copied at 128 m o c.copy_part.new.to _ (omega (arith, long, within)) (omega (arith, fits, within)) c.requires.before
    (c.copy_part.ensures ∙ ap (λ (k : ℕ). take k (drop at m)) whole)
