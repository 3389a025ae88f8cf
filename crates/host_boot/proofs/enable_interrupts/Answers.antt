use Rattle.std.proofs.Common.{inr, refl}
use Rattle.host_boot.proofs.Hosting.{ghc_followed}
use Rattle.host_boot.proofs.Leaving.{ghc_leaves}
use Rattle.host_boot.proofs.enable_interrupts.Goals as goal

pub returns-clause-adapter_is_on : goal.returns-clause-adapter_is_on
returns-clause-adapter_is_on g c = c.law_prerequisites.ensures.ghc_write_switches_on 0x80000002 _ _ c.requires.adapter_is_on.no_reset refl refl c.write.ensures.does

pub returns-clause-leaves : goal.returns-clause-leaves
returns-clause-leaves g c = λ port. ghc_leaves c.law_prerequisites.ensures _ c.requires.adapter_is_on.no_reset port 0x80000002 _ c.write.ensures.does

pub returns-clause-followed : goal.returns-clause-followed
returns-clause-followed g c = ghc_followed c.law_prerequisites.ensures 0x80000002 _ _ (inr refl) c.write.ensures.does
