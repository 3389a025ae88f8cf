use Rattle.std.proofs.Common.{rules}
use Rattle.std.proofs.lemmas.List.Sorted.{IsNonDecreasingBy-from_sort_by_key}
use Rattle.ata_types.specs.declared.request.Reply.{Reply}
use Rattle.port_driver.proofs.Mending.{ordered_last, ordered_pairs, part_ordered}
use Rattle.port_driver.proofs.recovery.sort_replies_from.Goals as goal

pub returns : goal.returns
returns c =
    let new = c.sort_unstable_by_key.new.self in
    let x = part_ordered c.args.replies.now.items c.as_mut_slice.result.now new c.args.first c.as_mut_slice.ensures.value c.requires c.sort_unstable_by_key.ensures.permutation in (
      new,
      ordered_last c.args.replies.now.items c.as_mut_slice.result.now new c.args.first c.as_mut_slice.ensures.value c.requires x.1,
      x.0,
      ordered_pairs new (IsNonDecreasingBy-from_sort_by_key (λ (r : Reply). r.id.0) new c.sort_unstable_by_key.ensures.sorted (λ a r q k. search rules)),
    )
