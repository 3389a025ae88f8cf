use Rattle.std.proofs.Common.{subst, sym}
use Rattle.identify.specs.IdentityPage.{Describes}
use Rattle.identify.specs.declared.DiskInfo.{DiskInfo}
use Rattle.followed.proofs.memory.read_same.Goals as goal

pub returns : goal.returns
returns c = λ same.
    let Told : DiskInfo → Type 0 = Describes c.args.said.now in
    record {
      info = c.in-Ok.of_model;
      shown_is_fit = c.in-Ok.ensures.fit;
      said_is_fit = c.in-Ok-parse.ensures.fit;
      shown_describes = c.in-Ok.ensures.info;
      said_describes = subst Told (sym (c.is_same_disk.ensures same)) c.in-Ok-parse.ensures.info;
    }
