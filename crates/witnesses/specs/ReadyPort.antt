-- An instant at which a history may begin, with a ready port (this project's own).
use Rattle.std.specs.Prelude.{◌≡◌, [], ◌∷◌, Contains}
use Rattle.ata_types.specs.declared.PortState.TheVariants.{Ready}
use Rattle.adapter.specs.Device.{Device}
use Rattle.refinement.specs.Relation.{port_at}
use Rattle.block_machine.specs.Histories.{JointState}
use Rattle.identify.specs.declared.wanted.Wanted.TheVariants.{Any}
use Rattle.driver_history.specs.Histories.{IsDriverHistory}
use Rattle.witnesses.specs.RunningAdapter.{fit_page, page_entry}

-- Any disk is wanted in ports 0 and 1. Both are ready, and the pages of their disks stand on the tape.
pub record HistoryBeginsReady : Type 0 where
  pub initial_state : JointState Device
  pub ready : (initial_state.abstract.ports.state (port_at 0) ≡ Ready)
      × (initial_state.abstract.ports.state (port_at 1) ≡ Ready)
  pub pages_are_on_tape : Contains initial_state.device.tape (page_entry fit_page 0)
      × Contains initial_state.device.tape (page_entry fit_page 1)
  pub history_begins : IsDriverHistory (Any ∷ Any ∷ []) initial_state []
