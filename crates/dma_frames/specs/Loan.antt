-- What a loan is to its holder.
use Rattle.std.specs.Prelude.{List}
use Rattle.ata_types.specs.declared.request.Frame.{Frame}
use Rattle.ata_types.specs.declared.request.RequestId.{RequestId}

-- the frames that are lent, in the request's order, and the request that they are lent to
pub record Lending : Type 0 where
  pub frames : List Frame
  pub request : RequestId
