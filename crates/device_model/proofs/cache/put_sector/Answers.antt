use Rattle.std.proofs.Common.{arith}
use Rattle.device_model.proofs.cache.put_sector.Goals as goal

pub returns-then-cache-clause-room_is_left : goal.returns-then-cache-clause-room_is_left
returns-then-cache-clause-room_is_left g c = λ n room on some. c.put_over_old.ensures.left n (room on (omega (arith, some)))
