use Rattle.std.proofs.Common.{refl, inl, inr}
use Rattle.device_model.specs.ModelState.{device_at}
use Rattle.device_model.proofs.SideBySide.{ended_leaves, fetched_leaves}
use Rattle.device_model.proofs.laws.law_queued_commands_go_on_side_by_side.Goals as goal

pub returns-clause-taken : goal.returns-clause-taken
returns-clause-taken g c = λ old new p slot other m n xs ys small below apart port first second here there. (
  (port, small, inl (m, xs, here)),
  λ did.
      let still = fetched_leaves p.0 slot.0 other.0 apart (device_at g.S.SectorStore.size g.S.SectorStore.told old) (device_at g.S.SectorStore.size g.S.SectorStore.told new) m n xs ys first second here there (elim did.completes_or_fails [ inl whole ↦ whole.does_asked_step | inr failed ↦ absurd (failed.can.says_nothing m xs here.says) ]) in
      (still, (port, below, inl (n, ys, still))),
)

pub returns-clause-ended : goal.returns-clause-ended
returns-clause-ended g c = λ old new p slot other t u small below apart port here there done all. (
  (port, small, 3, t, record { works = here; finished = done; cause_is_allowed = inr (inr refl) }),
  λ did.
      let still = ended_leaves p.0 slot.0 other.0 apart (device_at g.S.SectorStore.size g.S.SectorStore.told old) (device_at g.S.SectorStore.size g.S.SectorStore.told new) u there (elim did.completes_or_fails [ inl whole ↦ whole.does_asked_step | inr never ↦ absurd never ]) in
      (still, (port, below, 3, u, record { works = still; finished = all; cause_is_allowed = inr (inr refl) })),
)
