use Rattle.std.proofs.Common.{true}
use Rattle.std.specs.Prelude.{bit_or}
use Rattle.device_model.proofs.port.PortModel.page_setup_fis.Goals as goal

pub returns : goal.returns
returns c = λ m.
    let e = c.status_and_error-status.ensures m in
    λ i. record {
      interrupt = true;
      to_host = true;
      status = bit_or (e.0 i) 8;
      error = e.1 i;
      lba = 0;
      device = 0;
      count = 0;
      ending_status = e.0 i;
      transfer_count = 512;
    }
