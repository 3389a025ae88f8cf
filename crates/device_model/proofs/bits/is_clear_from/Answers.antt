use Rattle.std.proofs.Common.{rules, ◌<◌, ◌/◌, ◌^◌, eq-eqb, eqb-true}
use Rattle.device_model.proofs.BitLemmas.{clear_shifted, shifted_clear}
use Rattle.device_model.proofs.bits.is_clear_from.Goals as goal

pub returns : goal.returns
returns c =
    let fits : c.args.value < 2 ^ 32 = search rules in (
      λ zero k high. shifted_clear c.args.value c.args.place k (eqb-true (c.args.value / 2 ^ c.args.place) 0 zero) high,
      λ none. eq-eqb (c.args.value / 2 ^ c.args.place) 0 (clear_shifted c.args.value c.args.place fits none),
    )
