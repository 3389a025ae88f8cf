use Rattle.std.proofs.Common.{refl}
use Rattle.device_model.proofs.fetch.decode_sectors.Goals as goal

pub returns-in-Identify-clause-only : goal.returns-in-Identify-clause-only
returns-in-Identify-clause-only c = rw c.in-Identify.is
    (λ s is spells. let none = is.sectors_are_zero_if_it_moves_none refl in c.decode_bare.ensures.only s none.0 none.1 spells)

pub returns-in-Flush-clause-only : goal.returns-in-Flush-clause-only
returns-in-Flush-clause-only c = rw c.in-Flush.is
    (λ s is spells. let none = is.sectors_are_zero_if_it_moves_none refl in c.decode_bare-in-Flush.ensures.only s none.0 none.1 spells)

pub returns-in-Trim-clause-only : goal.returns-in-Trim-clause-only
returns-in-Trim-clause-only c = rw c.in-Trim.is
    (λ s is spells. let none = is.sectors_are_zero_if_it_moves_none refl in c.decode_bare-in-Trim.ensures.only s none.0 none.1 spells)

pub returns-in-ReadLog-clause-only : goal.returns-in-ReadLog-clause-only
returns-in-ReadLog-clause-only c = rw c.in-ReadLog.is
    (λ s is spells. let none = is.sectors_are_zero_if_it_moves_none refl in c.decode_log.ensures.only s none.0 none.1 spells)
