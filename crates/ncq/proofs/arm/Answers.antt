use Rattle.std.proofs.Common.{◌≡◌}
use Rattle.ata_types.specs.declared.Port.{Port}
use Rattle.hba_regs.specs.declared.reg.Reg.TheVariants.{Px}
use Rattle.hba_regs.specs.declared.reg.PortReg.TheVariants.{Ci, Sact}
use Rattle.ncq.proofs.arm.Goals as goal

pub write-requires : goal.write-requires
write-requires g c =
    c.law_writes_but_ci_stay_permitted.ensures.rules (Px c.args.port Sact) c.args.own _ (λ (q : Port) (e : Px c.args.port Sact ≡ Px q Ci). absurd cc) (c.requires.adapter_is_on, c.requires.has_port, c.requires.started)
