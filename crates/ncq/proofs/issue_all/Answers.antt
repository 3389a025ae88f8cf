use Rattle.std.proofs.Common.{◌≡◌, true}
use Rattle.ata_types.specs.declared.Port.{Port}
use Rattle.hba_regs.specs.declared.reg.Reg.TheVariants.{Px}
use Rattle.hba_regs.specs.declared.reg.PortReg.TheVariants.{Ci, Sact}
use Rattle.ncq.specs.Batches.{IsStoreForBatch}
use Rattle.ncq.proofs.Armed.{armed_batch}
use Rattle.ncq.proofs.Stores.{Leaving, batch_stores, stores_may, stores_on, stores_there}
use Rattle.ncq.proofs.issue_all.Goals as goal

pub write-requires : goal.write-requires
write-requires g c =
    let q = c.requires.stored in
    let b = q.2 in
    let laws : Leaving = record {
      left = c.law_other_ports_are_untouched.ensures.other_port_is_untouched;
      on = c.law_other_ports_are_untouched.ensures.adapter_stays_on;
      adapter = c.law_other_ports_are_untouched.ensures.adapter_is_same;
    } in
    let kind = IsStoreForBatch c.args.port.0 q.1 in
    c.law_writes_but_ci_stay_permitted.ensures.rules (Px c.args.port Sact) c.args.mask _ (λ (at : Port) (e : Px c.args.port Sact ≡ Px at Ci). absurd cc) (
      stores_on laws c.args.port kind (batch_stores c.args.port.0 q.1) _ _ b.stores.is_driven b.adapter_is_on,
      stores_there laws c.args.port kind (batch_stores c.args.port.0 q.1) _ _ b.stores.is_driven b.has_port,
      (stores_may laws c.args.port kind (batch_stores c.args.port.0 q.1) _ _ b.stores.is_driven b.adapter_is_on b.list_runs).st_is_set,
    )

pub write-requires-2 : goal.write-requires-2
write-requires-2 g c =
    let q = c.requires.stored in
    (c.law_ci_write_issues_armed_batch.ensures c.args.port true q.1 c.args.mask q.0 _ (armed_batch c.args.port q.1 c.args.mask q.0 _ _ q.2 q.3 c.write.ensures.does)).0

pub returns-clause-issued : goal.returns-clause-issued
returns-clause-issued g c = λ start tasks stored bits.
    (c.law_ci_write_issues_armed_batch.ensures c.args.port true tasks c.args.mask start _ (armed_batch c.args.port tasks c.args.mask start _ _ stored bits c.write.ensures.does)).1 _ c.write-2.ensures.does
