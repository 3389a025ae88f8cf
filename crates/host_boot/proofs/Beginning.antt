-- What a server begins with once an adapter was taken over.
use Rattle.std.proofs.Common.{ℕ, List, true, ◌≡◌, ◌≢◌, ◌<◌, ap, subst, sym, ◌∙◌}
use Rattle.adapter.specs.Device as device
use Rattle.adapter.specs.Device.{Device}
use Rattle.adapter.specs.Idle.{IsIdle}
use Rattle.adapter.specs.Rules.{HasPort}
use Rattle.refinement.specs.Relation.{port_at}
use Rattle.refinement.specs.PortFacts.{RecordsFaultsIfSt, RunsWell, Undisturbed}
use Rattle.refinement.specs.MemoryLayout.{command_list_address}
use Rattle.identify.specs.declared.DiskInfo.{DiskInfo}
use Rattle.identify.specs.declared.wanted.Wanted.{Wanted}
use Rattle.host_boot.specs.TakeOver.{BacksProbeResult, TakesOver, probe_result_of, wanted_of}
use Rattle.host_boot.specs.declared.ProbeResult.{ProbeResult}
use Rattle.host_boot.specs.declared.ProbeResult.TheVariants.{Unserved, Ready}
use Rattle.host_boot.specs.declared.Host.{Host}
use Rattle.host_boot.proofs.Leaving.{is_served}
use Rattle.host_boot.proofs.Running.{taken_recorded, taken_well}
use Rattle.host_boot.specs.Laws.{Laws}

module _ (wanted : Wanted) (port : ℕ) (d : Device) where
  still_has : (found : ProbeResult) → port < 4 → found ≢ Unserved → BacksProbeResult wanted found port d → HasPort d port
  still_has found below other h = (below, (is_served wanted port d found other h).1)

  may_begin : (info : DiskInfo) → BacksProbeResult wanted (Ready info) port d → ((d.port port).st ≡ true) × ((d.port port).bases.clb ≡ command_list_address port)
  may_begin info (is, ready) = (ready.runs.st_is_set, ap (λ (b : device.Bases). b.clb) ready.runs.areas_are_in_place)

module _ (wanted : List Wanted) (host : Host) (port : ℕ) (old new : Device) (taken : TakesOver wanted host old new) where
  pub taken_there : port < 4 → probe_result_of host.ports port ≢ Unserved → HasPort new port
  taken_there below other = still_has (wanted_of wanted port) port new (probe_result_of host.ports port) below other (taken.results_are_backed port below)

  pub taken_ready : (info : DiskInfo) → port < 4 → probe_result_of host.ports port ≡ Ready info → ((new.port port).st ≡ true) × ((new.port port).bases.clb ≡ command_list_address port) × HasPort new port
  taken_ready info below is =
      let may = may_begin (wanted_of wanted port) port new info (subst (λ (f : ProbeResult). BacksProbeResult (wanted_of wanted port) f port new) is (taken.results_are_backed port below)) in
      (may.0, may.1, taken_there below (λ e. absurd (let k : Ready info ≡ Unserved = sym is ∙ e in cc)))

module _ (laws : Laws) (wanted : List Wanted) (host : Host) (port : ℕ) (old new : Device) (taken : TakesOver wanted host old new) where
  pub taken_runs : (info : DiskInfo) → IsIdle old → probe_result_of host.ports port ≡ Ready info → Undisturbed port old new → RunsWell (new.port port)
  taken_runs info idle is = taken_well laws (port_at port) info host.ports old new idle is taken.switches_on_and_boots

  pub taken_faults : (info : DiskInfo) → IsIdle old → probe_result_of host.ports port ≡ Ready info → RecordsFaultsIfSt new.tape (new.port port) port
  taken_faults info idle is = taken_recorded laws (port_at port) info host.ports old new idle is taken.switches_on_and_boots
