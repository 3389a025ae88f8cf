use Rattle.std.proofs.Common.{length, arith}
use Rattle.device_model.proofs.Bytes.{bytes_copied}
use Rattle.device_model.specs.FetchedBytes.{bytes_of}
use Rattle.device_model.proofs.fetch.copy_end.Goals as goal

pub returns : goal.returns
returns c = bytes_copied (bytes_of c.args.memory.now) c.args.at c.loop-i.out (length c.args.out.now) c.loop-i.invariant.size (λ k lt. c.loop-i.invariant.copied k (omega arith))
