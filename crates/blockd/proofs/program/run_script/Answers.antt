use Rattle.std.specs.Io.Buffered.{writer_contents}
use Rattle.blockd.proofs.program.run_script.Goals as goal

pub returns : goal.returns
returns g c = record {
  ended = c.play-ended.result;
  model = c.play-ended.ensures.0;
  printed = writer_contents g.W.Write.contents c.play-ended.new.out;
  ends = c.play-ended.ensures.1;
  output_is_kept = c.flush_output.ensures.keeps;
  reports_end = c.flush_output.ensures.reports;
}
