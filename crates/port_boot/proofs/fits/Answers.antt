use Rattle.std.proofs.Common.{rules}
use Rattle.port_boot.proofs.fits.Goals as goal

pub returns-in-Some : goal.returns-in-Some
returns-in-Some c = search rules
