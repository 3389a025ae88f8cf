use Rattle.block_machine.proofs.Runs.{traced}
use Rattle.block_machine.proofs.laws.law_frames_keep_bytes_outside_read_range.Goals as goal

pub returns : goal.returns
returns c start history e starts enabled living = (traced start history starts enabled).held e living
