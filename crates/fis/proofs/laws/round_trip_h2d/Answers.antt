use Rattle.fis.proofs.laws.round_trip_h2d.Goals as goal

pub returns : goal.returns
returns c = c.decode_h2d.ensures.complete c.args.command.now c.encode_h2d.ensures
