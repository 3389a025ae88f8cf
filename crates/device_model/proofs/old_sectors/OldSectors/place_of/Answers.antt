use Rattle.std.proofs.Common.{rules}
use Rattle.std.proofs.lemmas.List.Sorted.{answers_always}
use Rattle.device_model.proofs.OldSectors.{searched}
use Rattle.device_model.proofs.old_sectors.OldSectors.place_of.Goals as goal

pub returns-clause-found : goal.returns-clause-found
returns-clause-found c =
    let facts = c.binary_search_by_key.ensures in
    let by_key = facts.position (λ o. o.sector) (answers_always _ _ _ (λ f a r g called. search rules)) in
    (searched c.args.self.now.sectors.items c.args.self.now.rising c.args.sector _ (rw c.deref.ensures.value at facts.bound) (rw c.deref.ensures.value at by_key)).found

pub returns-clause-absent : goal.returns-clause-absent
returns-clause-absent c =
    let facts = c.binary_search_by_key.ensures in
    let by_key = facts.position (λ o. o.sector) (answers_always _ _ _ (λ f a r g called. search rules)) in
    (searched c.args.self.now.sectors.items c.args.self.now.rising c.args.sector _ (rw c.deref.ensures.value at facts.bound) (rw c.deref.ensures.value at by_key)).absent
