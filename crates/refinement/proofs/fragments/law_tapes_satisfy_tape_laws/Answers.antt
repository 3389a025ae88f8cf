use Rattle.refinement.proofs.fragments.law_tapes_satisfy_tape_laws.Goals as goal

pub returns : goal.returns
returns c = record {
  growth_is_reflexive = c.law_tapes_grow.ensures.reflexive;
  growth_is_transitive = c.law_tapes_grow.ensures.transitive;
  access_grows = c.law_tapes_grow.ensures.access;
  no_disk_comes_in_parts = c.law_tape_absence_composes.ensures.comes.whole_gives_parts;
  no_plug_event_no_disk = c.law_undisturbed_has_no_error_or_plug.ensures.comes;
  no_plug_events_reflexive = c.law_tape_absence_composes.ensures.plugs.reflexive;
  no_plug_events_transitive = c.law_tape_absence_composes.ensures.plugs.transitive;
  no_plug_events_in_parts = c.law_tape_absence_composes.ensures.plugs.whole_gives_parts;
  no_fatal_errors_reflexive = c.law_tape_absence_composes.ensures.fatal.reflexive;
  no_fatal_errors_transitive = c.law_tape_absence_composes.ensures.fatal.transitive;
  no_fatal_errors_in_parts = c.law_tape_absence_composes.ensures.fatal.whole_gives_parts;
  no_faults_reflexive = c.law_tape_absence_composes.ensures.fails.reflexive;
  no_faults_transitive = c.law_tape_absence_composes.ensures.fails.transitive;
  no_faults_in_parts = c.law_tape_absence_composes.ensures.fails.whole_gives_parts;
  undisturbed_in_parts = c.law_tape_absence_composes.ensures.undisturbed.whole_gives_parts;
  link_errors_reflexive = c.law_serr_nx_rise_only_by_plugs_if_no_link_due.ensures.reflexive;
  link_errors_transitive = c.law_serr_nx_rise_only_by_plugs_if_no_link_due.ensures.transitive;
  access_raises_link_errors_by_disks = c.law_serr_nx_rise_only_by_plugs_if_no_link_due.ensures.access;
  access_but_sctl_write_makes_no_link_due = c.law_serr_nx_rise_only_by_plugs_if_no_link_due.ensures.no_link_becomes_due_over_access;
}
