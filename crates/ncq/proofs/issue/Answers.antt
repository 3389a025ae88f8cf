use Rattle.std.proofs.Common.{[], ◌∷◌}
use Rattle.command_table.specs.TableStores.{IsHeaderOrTableStore}
use Rattle.ncq.specs.Batches.{PlacedTask}
use Rattle.ncq.specs.Issuing.{placed_task_of}
use Rattle.ncq.proofs.Armed.{armed_transfer}
use Rattle.ncq.proofs.Stores.{Leaving, stores_may, stores_there, table_stores}
use Rattle.ncq.proofs.issue.Goals as goal

pub arm-requires-clause-has_port : goal.arm-requires-clause-has_port
arm-requires-clause-has_port g c =
    let q = c.requires.may.may_issue_task in
    let stores = c.store_transfer.ensures.stores.stores in
    let laws : Leaving = record {
      left = c.law_other_ports_are_untouched.ensures.other_port_is_untouched;
      on = c.law_other_ports_are_untouched.ensures.adapter_stays_on;
      adapter = c.law_other_ports_are_untouched.ensures.adapter_is_same;
    } in
    stores_there laws c.args.port (IsHeaderOrTableStore c.args.port.0 c.args.what.now.slot.0)
    (table_stores c.args.port.0 c.args.what.now.slot.0) _ _ stores.is_driven q.has_port

pub arm-requires-clause-started : goal.arm-requires-clause-started
arm-requires-clause-started g c =
    let q = c.requires.may.may_issue_task in
    let stores = c.store_transfer.ensures.stores.stores in
    let laws : Leaving = record {
      left = c.law_other_ports_are_untouched.ensures.other_port_is_untouched;
      on = c.law_other_ports_are_untouched.ensures.adapter_stays_on;
      adapter = c.law_other_ports_are_untouched.ensures.adapter_is_same;
    } in
    (stores_may laws c.args.port (IsHeaderOrTableStore c.args.port.0 c.args.what.now.slot.0)
    (table_stores c.args.port.0 c.args.what.now.slot.0) _ _ stores.is_driven q.adapter_is_on q.list_runs).st_is_set

pub write-requires : goal.write-requires
write-requires g c =
    let t : PlacedTask = placed_task_of c.args.what.now in
    (c.law_ci_write_issues_armed_batch.ensures c.args.port t.task.queued (t ∷ []) c.bit_of-own.result _ _
    (armed_transfer c.args.port t c.bit_of-own.result _ _ _ c.requires.may c.store_transfer.ensures.stores c.bit_of-own.ensures c.arm.ensures.arms)).0

pub returns-clause-issued : goal.returns-clause-issued
returns-clause-issued g c =
    let t : PlacedTask = placed_task_of c.args.what.now in
    (c.law_ci_write_issues_armed_batch.ensures c.args.port t.task.queued (t ∷ []) c.bit_of-own.result _ _
    (armed_transfer c.args.port t c.bit_of-own.result _ _ _ c.requires.may c.store_transfer.ensures.stores c.bit_of-own.ensures c.arm.ensures.arms)).1
    _ c.write.ensures.does
