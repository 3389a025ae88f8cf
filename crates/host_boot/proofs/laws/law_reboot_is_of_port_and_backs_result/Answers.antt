use Rattle.host_boot.proofs.Served.{again_driven, again_shown, again_stands, beside_shown, start_of, there_driven, there_shown, there_stands}
use Rattle.host_boot.proofs.laws.law_reboot_is_of_port_and_backs_result.Goals as goal

pub returns-clause-reboot_is_of_port : goal.returns-clause-reboot_is_of_port
returns-clause-reboot_is_of_port c = again_driven c.law_prerequisites.ensures

pub returns-clause-reboot_backs_result : goal.returns-clause-reboot_backs_result
returns-clause-reboot_backs_result c = again_stands c.law_prerequisites.ensures

pub returns-clause-reboot_shows_bad_disk : goal.returns-clause-reboot_shows_bad_disk
returns-clause-reboot_shows_bad_disk c = λ wanted port booted state old new on again. again_shown c.law_prerequisites.ensures wanted port booted old new again state on

pub returns-clause-conditional_boot_is_of_port : goal.returns-clause-conditional_boot_is_of_port
returns-clause-conditional_boot_is_of_port c = there_driven c.law_prerequisites.ensures

pub returns-clause-conditional_boot_backs_result : goal.returns-clause-conditional_boot_backs_result
returns-clause-conditional_boot_backs_result c = there_stands c.law_prerequisites.ensures

pub returns-clause-conditional_boot_shows_bad_disk : goal.returns-clause-conditional_boot_shows_bad_disk
returns-clause-conditional_boot_shows_bad_disk c = λ wanted port booted state old new. there_shown c.law_prerequisites.ensures wanted port booted old new state

pub returns-clause-boot_start_access_is_of_port : goal.returns-clause-boot_start_access_is_of_port
returns-clause-boot_start_access_is_of_port c = start_of c.law_prerequisites.ensures

pub returns-clause-other_port_keeps_shown_disk : goal.returns-clause-other_port_keeps_shown_disk
returns-clause-other_port_keeps_shown_disk c = beside_shown c.law_prerequisites.ensures
