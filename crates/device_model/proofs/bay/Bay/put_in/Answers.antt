use Rattle.std.proofs.Common.{ap}
use Rattle.device_model.specs.declared.bay.Bay.{Bay}
use Rattle.device_model.proofs.bay.Bay.put_in.Goals as goal

pub returns-clause-selects : goal.returns-clause-selects
returns-clause-selects g c =
    let s = c.select_disk.ensures in
    record {
      it_is_in = s.it_is_in;
      disks_are_kept = s.disks_are_kept;
      lasting_is = s.lasting_is;
      has_cache_as_before = s.has_cache_as_before;
      rest_is_kept = ap (λ (b : Bay g.row.S.Denot). record b { plugged_later = c.args.self.now.plugged_later }) s.rest_is_kept;
    }
