use Rattle.std.proofs.Common.{ℕ, ◌∙◌, ap, arith}
use Rattle.hba_regs.specs.Bits.{bit}
use Rattle.hba_regs.specs.declared.reg.Reg.TheVariants.{Px}
use Rattle.hba_regs.specs.declared.reg.PortReg.TheVariants.{Ci, Sact}
use Rattle.adapter.specs.Access.Access.{Reading}
use Rattle.ncq.proofs.done.Goals as goal

pub read-active-requires : goal.read-active-requires
read-active-requires g c =
    let does = c.read-issued.ensures.does in (
      c.law_adapter_stays_same_and_on_until_ghc_write.ensures.stays_on (Reading (Px c.args.port Ci) c.read-issued.result) _ _ c.requires.adapter_is_on (λ v e. absurd cc) does,
      (c.requires.has_port.0, ap (λ (pi : ℕ). bit pi c.args.port.0) (c.law_adapter_stays_same_and_on_until_ghc_write.ensures.access_keeps_adapter (Reading (Px c.args.port Ci) c.read-issued.result) _ _ does).pi ∙ c.requires.has_port.1),
    )

pub returns : goal.returns
returns g c =
    let found = c.law_ci_then_sact_reads_find_done_slots.ensures c.args.port c.args.mask c.clear_in_both.result c.read-issued.result c.read-active.result _ _ _ c.requires.adapter_is_on
    c.read-issued.ensures.does c.read-active.ensures.does c.clear_in_both.ensures in
    record {
      adapter_is_on = c.law_adapter_stays_same_and_on_until_ghc_write.ensures.stays_on (Reading (Px c.args.port Sact) c.read-active.result) _ _
          (c.law_adapter_stays_same_and_on_until_ghc_write.ensures.stays_on (Reading (Px c.args.port Ci) c.read-issued.result) _ _ c.requires.adapter_is_on (λ v e. absurd cc) c.read-issued.ensures.does) (λ v e. absurd cc) c.read-active.ensures.does;
      finds = found.0;
      finds_each_that_was_clear = found.1;
      cost = omega arith;
    }
