use Rattle.std.proofs.Common.{◌≡◌, ◌+◌, ◌++◌, ◌∷◌, map, take, vec_len}
use Rattle.std.specs.Vec.{vec_capacity}
use Rattle.block_server.specs.declared.said.Said.TheVariants.{Reply as OneReply}
use Rattle.block_server.proofs.said.say_with_replies.Given as goal

abbrev pub invariant-loop-reply : goal.invariant-loop-reply
invariant-loop-reply l = record {
  said : l.out.items ≡ l.fn.out.items ++ l.fn.first ∷ map OneReply (take l.reply-index l.replies);
  len : vec_len l.out ≡ vec_len l.fn.out + 1 + l.reply-index;
  capacity : vec_capacity l.out ≡ vec_capacity l.fn.out;
}
