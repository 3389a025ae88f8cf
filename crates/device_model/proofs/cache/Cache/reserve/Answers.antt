use Rattle.device_model.proofs.cache.Cache.reserve.Goals as goal

pub returns-else-more-eq0-clause-room_is_kept : goal.returns-else-more-eq0-clause-room_is_kept
returns-else-more-eq0-clause-room_is_kept c = λ n room on some. c.reserve.ensures.room_is_kept n (room on some)
