use Rattle.std.proofs.Common.{le_trans}
use Rattle.refinement.specs.Slots.{Own, set_slot_state}
use Rattle.disk_page.specs.PageRequests.{page_operation}
use Rattle.disk_page.proofs.Asking.{page_is_told, stored_then, may_after, ask_permitted, asked_to, asked_det, asked_on, asked_there, asked_later, asked_waits, stores_leave, stores_asking, stores_agree, stores_silent, stores_there, stores_room}
use Rattle.disk_page.proofs.ask.Goals as goal

pub write-requires : goal.write-requires
write-requires g c =
    let r = c.requires.may in
    let w = c.write_table.ensures in
    let told = page_is_told c.args.page c.command.result c.scratch_prd.result c.args.port.0 _ c.command.ensures c.scratch_prd.ensures.one_block w.slot_decodes in
    ask_permitted c.law_prerequisites.ensures c.args.port c.args.page _ (g.A.Adapter.device c.write_table.new.adapter) w.adapter_is_on (stores_there c.law_prerequisites.ensures c.args.port _ _ r.adapter_is_on w.followed r.has_port) (stores_room c.law_prerequisites.ensures c.args.port _ _ r.adapter_is_on w.followed r.driver_memory_fits)
    (may_after c.args.port.0 _ _ (stores_leave c.law_prerequisites.ensures c.args.port _ _ r.adapter_is_on w.followed) r.may_ask) told r.machine_is_related.0 r.machine_is_related.1 (stores_agree c.law_prerequisites.ensures c.args.port _ _ r.adapter_is_on w.followed r.machine_is_related.0 r.machine_is_related.1 r.machine_is_related.2)

pub returns-clause-adapter_is_on : goal.returns-clause-adapter_is_on
returns-clause-adapter_is_on g c =
    let r = c.requires.may in
    let w = c.write_table.ensures in
    let told = page_is_told c.args.page c.command.result c.scratch_prd.result c.args.port.0 _ c.command.ensures c.scratch_prd.ensures.one_block w.slot_decodes in
    asked_on c.law_prerequisites.ensures c.args.port c.args.page _ _ w.adapter_is_on (stores_there c.law_prerequisites.ensures c.args.port _ _ r.adapter_is_on w.followed r.has_port) (stores_room c.law_prerequisites.ensures c.args.port _ _ r.adapter_is_on w.followed r.driver_memory_fits)
    (may_after c.args.port.0 _ _ (stores_leave c.law_prerequisites.ensures c.args.port _ _ r.adapter_is_on w.followed) r.may_ask) told c.write.ensures.does

pub returns-clause-asks : goal.returns-clause-asks
returns-clause-asks g c =
    let r = c.requires.may in
    let w = c.write_table.ensures in
    let told = page_is_told c.args.page c.command.result c.scratch_prd.result c.args.port.0 _ c.command.ensures c.scratch_prd.ensures.one_block w.slot_decodes in
    record {
      followed = stored_then c.law_prerequisites.ensures c.args.port (λ uses. set_slot_state uses c.args.port.0 0 (Own (page_operation c.args.page))) _ _ _ (stores_asking c.law_prerequisites.ensures c.args.port _ _ r.adapter_is_on w.followed)
          (asked_to c.law_prerequisites.ensures c.args.port c.args.page _ _ w.adapter_is_on (stores_there c.law_prerequisites.ensures c.args.port _ _ r.adapter_is_on w.followed r.has_port) (stores_room c.law_prerequisites.ensures c.args.port _ _ r.adapter_is_on w.followed r.driver_memory_fits)
          (may_after c.args.port.0 _ _ (stores_leave c.law_prerequisites.ensures c.args.port _ _ r.adapter_is_on w.followed) r.may_ask) told c.write.ensures.does);
      page_is_awaited = λ uses free a. asked_waits c.law_prerequisites.ensures c.args.port c.args.page _ _ w.adapter_is_on (stores_there c.law_prerequisites.ensures c.args.port _ _ r.adapter_is_on w.followed r.has_port) (stores_room c.law_prerequisites.ensures c.args.port _ _ r.adapter_is_on w.followed r.driver_memory_fits)
          (may_after c.args.port.0 _ _ (stores_leave c.law_prerequisites.ensures c.args.port _ _ r.adapter_is_on w.followed) r.may_ask) told c.write.ensures.does (g.A.Adapter.device c.args.adapter.now) uses free (stores_agree c.law_prerequisites.ensures c.args.port _ _ r.adapter_is_on w.followed uses free a)
          (λ other page. stores_silent c.law_prerequisites.ensures c.args.port _ _ r.adapter_is_on w.followed uses other free a page);
      has_port = asked_there c.law_prerequisites.ensures c.args.port c.args.page _ _ w.adapter_is_on (stores_there c.law_prerequisites.ensures c.args.port _ _ r.adapter_is_on w.followed r.has_port) (stores_room c.law_prerequisites.ensures c.args.port _ _ r.adapter_is_on w.followed r.driver_memory_fits)
          (may_after c.args.port.0 _ _ (stores_leave c.law_prerequisites.ensures c.args.port _ _ r.adapter_is_on w.followed) r.may_ask) told c.write.ensures.does;
      tape_is_not_shorter = le_trans (stores_leave c.law_prerequisites.ensures c.args.port _ _ r.adapter_is_on w.followed).later
          (asked_later c.law_prerequisites.ensures c.args.port c.args.page _ _ w.adapter_is_on (stores_there c.law_prerequisites.ensures c.args.port _ _ r.adapter_is_on w.followed r.has_port) (stores_room c.law_prerequisites.ensures c.args.port _ _ r.adapter_is_on w.followed r.driver_memory_fits)
          (may_after c.args.port.0 _ _ (stores_leave c.law_prerequisites.ensures c.args.port _ _ r.adapter_is_on w.followed) r.may_ask) told c.write.ensures.does);
      no_comreset = asked_det c.law_prerequisites.ensures c.args.port c.args.page _ _ w.adapter_is_on (stores_there c.law_prerequisites.ensures c.args.port _ _ r.adapter_is_on w.followed r.has_port) (stores_room c.law_prerequisites.ensures c.args.port _ _ r.adapter_is_on w.followed r.driver_memory_fits)
          (may_after c.args.port.0 _ _ (stores_leave c.law_prerequisites.ensures c.args.port _ _ r.adapter_is_on w.followed) r.may_ask) told c.write.ensures.does;
    }
