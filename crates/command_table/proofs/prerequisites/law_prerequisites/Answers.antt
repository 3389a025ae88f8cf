use Rattle.command_table.proofs.prerequisites.law_prerequisites.Goals as goal

pub returns : goal.returns
returns c = record {
  memory = record {
    reads_back_patch = c.law_memory_reads_back.ensures.stored_bytes_are_read;
    patch_leaves_others = c.law_memory_reads_back.ensures.other_bytes_are_kept;
    same_memory_same_bytes = c.law_memory_reads_back.ensures.equal_bytes_read_equal;
    length_is_count = c.law_memory_reads_back.ensures.length_is;
    byte_at_index = c.law_memory_reads_back.ensures.byte_at_index;
  };
  access_keeps_on = c.law_adapter_stays_same_and_on_until_ghc_write.ensures.stays_on;
  access_keeps_adapter = c.law_adapter_stays_same_and_on_until_ghc_write.ensures.access_keeps_adapter;
  device_owns_no_storable_bytes = c.law_driver_stores_are_permitted.ensures;
  store_keeps_tables = c.law_tables_and_idle_scratch_are_kept.ensures.stores;
  kept_tables_keep_meaning = c.law_stored_commands_stay.ensures.told;
  store_keeps_other_tables = c.law_stored_commands_stay.ensures.beside;
  fragments = c.law_access_kinds_satisfy_fragment_laws.ensures;
}
