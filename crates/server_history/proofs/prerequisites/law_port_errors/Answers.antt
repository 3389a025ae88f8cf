use Rattle.server_history.proofs.prerequisites.law_port_errors.Goals as goal

pub returns : goal.returns
returns c = record {
  pxis_shows_fatal_errors = c.law_clear_pxis_error_bits_mean_no_error.ensures.fatal_access;
  serr_n_shows_plug_events = c.law_serr_n_clear_means_no_plug_event.ensures.access;
  undisturbed_has_no_fatal = c.law_undisturbed_has_no_error_or_plug.ensures.fatal;
  undisturbed_has_no_plug_event = c.law_undisturbed_has_no_error_or_plug.ensures.plugs;
  disk_stays_without_plug_events = c.law_disk_stays_without_plug_events.ensures.access;
  halt_of_taken_stays_over_acts = c.law_halt_fits_taken_until_pxcmd_written.ensures.acts;
  halt_of_taken_stays_but_for_cmd_write = c.law_halt_fits_taken_until_pxcmd_written.ensures.access;
  not_halted_fits_taken_commands = c.law_halt_fits_taken_until_pxcmd_written.ensures.without_halt;
  plain_port_halt_is_of_taken = c.law_halt_fits_taken_until_pxcmd_written.ensures.plain;
}
