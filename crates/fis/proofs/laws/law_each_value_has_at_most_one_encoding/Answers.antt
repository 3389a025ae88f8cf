use Rattle.fis.proofs.OneSpelling.{command_is_one, registers_are_one, tags_are_one, setup_is_one}
use Rattle.fis.proofs.laws.law_each_value_has_at_most_one_encoding.Goals as goal

pub returns-clause-command : goal.returns-clause-command
returns-clause-command c = command_is_one

pub returns-clause-device_to_host : goal.returns-clause-device_to_host
returns-clause-device_to_host c = registers_are_one

pub returns-clause-set_device_bits : goal.returns-clause-set_device_bits
returns-clause-set_device_bits c = tags_are_one

pub returns-clause-pio_setup : goal.returns-clause-pio_setup
returns-clause-pio_setup c = setup_is_one
