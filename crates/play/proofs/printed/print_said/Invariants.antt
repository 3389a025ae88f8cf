use Rattle.std.proofs.Common.{take}
use Rattle.std.specs.Io.KnownBytes.{Appends}
use Rattle.std.specs.List.{flat_map}
use Rattle.play.specs.PrintedText.{said_text}
use Rattle.play.proofs.printed.print_said.Given as goal

abbrev pub invariant-loop-one : goal.invariant-loop-one
invariant-loop-one g l = Appends (g.W.Write.contents l.initial.out) (g.W.Write.contents l.out) (flat_map said_text (take l.one-index l.said))
