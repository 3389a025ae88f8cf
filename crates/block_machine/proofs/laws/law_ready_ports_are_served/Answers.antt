use Rattle.std.proofs.Common.{◌≡◌, true, false, sym, ◌∙◌, ⊎_elim}
use Rattle.std.proofs.lemmas.Bool.{cases_Bool}
use Rattle.ata_types.specs.declared.PortState.TheVariants.{Absent, Ready}
use Rattle.block_machine.proofs.laws.law_ready_ports_are_served.Goals as goal

pub returns : goal.returns
returns c = λ ports port fit ready. ⊎_elim
    (λ (served : ports.served port ≡ true). (served, fit.served_are_ports_0_to_3 port served))
    (λ (other : ports.served port ≡ false). let z : Absent ≡ Ready = sym (fit.unserved_are_absent port other) ∙ ready in absurd cc)
    (cases_Bool (ports.served port))
