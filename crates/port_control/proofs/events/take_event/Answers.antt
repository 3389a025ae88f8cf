use Rattle.port_control.proofs.looks.Looking.{bit_alone, clearing_may, acknowledging_may, showing_may, looking_on, looking_followed, looked}
use Rattle.port_control.proofs.events.take_event.Goals as goal

pub write-requires : goal.write-requires
write-requires g c = clearing_may c.law_prerequisites.ensures c.args.port _ _ _ c.requires.adapter_is_on c.requires.has_port c.read.ensures.does c.read.result

pub write-requires-2 : goal.write-requires-2
write-requires-2 g c =
    acknowledging_may c.law_prerequisites.ensures c.args.port _ _ _ c.requires.adapter_is_on c.requires.has_port c.read.ensures.does _ _ c.write.ensures.does _
    (bit_alone c.args.port.0 _ _ c.from.ensures c.with_bit.type_inv c.with_bit.ensures.set c.with_bit.ensures.others_are_kept)

pub read-requires-2 : goal.read-requires-2
read-requires-2 g c =
    showing_may c.law_prerequisites.ensures c.args.port _ _ _ c.requires.adapter_is_on c.requires.has_port c.read.ensures.does _ _ c.write.ensures.does _
    (bit_alone c.args.port.0 _ _ c.from.ensures c.with_bit.type_inv c.with_bit.ensures.set c.with_bit.ensures.others_are_kept) _ c.write-2.ensures.does

pub returns-clause-adapter_is_on : goal.returns-clause-adapter_is_on
returns-clause-adapter_is_on g c =
    looking_on c.law_prerequisites.ensures c.args.port _ _ _ c.requires.adapter_is_on c.requires.has_port c.read.ensures.does _ _ c.write.ensures.does _
    (bit_alone c.args.port.0 _ _ c.from.ensures c.with_bit.type_inv c.with_bit.ensures.set c.with_bit.ensures.others_are_kept) _ c.write-2.ensures.does _ _ c.read-2.ensures.does

pub returns-clause-looks : goal.returns-clause-looks
returns-clause-looks g c =
    looked c.args.port _ _ _ _ _ _ _ _ _ (bit_alone c.args.port.0 _ _ c.from.ensures c.with_bit.type_inv c.with_bit.ensures.set c.with_bit.ensures.others_are_kept)
    c.read.ensures.does c.write.ensures.does c.write-2.ensures.does c.read-2.ensures.does c.told.ensures

pub returns-clause-followed : goal.returns-clause-followed
returns-clause-followed g c =
    looking_followed c.law_prerequisites.ensures c.args.port _ _ _ c.requires.adapter_is_on c.requires.has_port c.read.ensures.does _ _ c.write.ensures.does _
    (bit_alone c.args.port.0 _ _ c.from.ensures c.with_bit.type_inv c.with_bit.ensures.set c.with_bit.ensures.others_are_kept) _ c.write-2.ensures.does _ _ c.read-2.ensures.does
