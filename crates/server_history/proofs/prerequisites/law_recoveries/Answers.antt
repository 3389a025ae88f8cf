use Rattle.server_history.proofs.prerequisites.law_recoveries.Goals as goal

pub returns : goal.returns
returns c = record {
  serving_slots_are_issued_count = c.law_no_more_slots_serve_than_requests_issued.ensures.as_many_serve;
  advancing_keeps_reachable = c.law_driver_advances_compose.ensures.reached;
  setting_slot_keeps_others = c.law_setting_changes_one_slot.ensures.others;
  shown_disk_stays_in = c.law_det_3_means_disk_present_is_invariant.ensures.accesses;
  other_port_keeps_record = c.law_other_ports_are_untouched.ensures.recorded;
  other_port_keeps_shown_disk = c.law_reboot_is_of_port_and_backs_result.ensures.other_port_keeps_shown_disk;
  reboot_is_of_port = c.law_reboot_is_of_port_and_backs_result.ensures.reboot_is_of_port;
  reboot_backs_result = c.law_reboot_is_of_port_and_backs_result.ensures.reboot_backs_result;
  reboot_shows_bad_disk = c.law_reboot_is_of_port_and_backs_result.ensures.reboot_shows_bad_disk;
  boot_start_access_is_of_port = c.law_reboot_is_of_port_and_backs_result.ensures.boot_start_access_is_of_port;
  backing_begins = c.law_probe_result_backed_until_next_port_boot.ensures.begins;
  backing_goes_on = c.law_probe_result_backed_until_next_port_boot.ensures.goes_on;
  conditional_boot_is_of_port = c.law_reboot_is_of_port_and_backs_result.ensures.conditional_boot_is_of_port;
  conditional_boot_backs_result = c.law_reboot_is_of_port_and_backs_result.ensures.conditional_boot_backs_result;
  conditional_boot_shows_bad_disk = c.law_reboot_is_of_port_and_backs_result.ensures.conditional_boot_shows_bad_disk;
}
