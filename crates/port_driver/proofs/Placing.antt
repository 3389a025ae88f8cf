-- A port of a server: what the server has of it, and what the server is with another in its place.
use Rattle.std.proofs.Common.{ℕ, ◌≡◌, List, [], get_or, set, None, refl, sym, ap, ◌∙◌}
use Rattle.std.proofs.lemmas.List.{set-get_or}
use Rattle.ata_types.specs.declared.Port.{Port}
use Rattle.adapter.specs.Device.{Device}
use Rattle.block_machine.specs.declared.due.QueueMode.{QueueMode}
use Rattle.dma_frames.specs.Loan.{Lending}
use Rattle.host_boot.specs.declared.ProbeResult.{ProbeResult}
use Rattle.host_boot.specs.declared.ProbeResult.TheVariants.{Unserved}
use Rattle.identify.specs.declared.wanted.Wanted.{Wanted}
use Rattle.identify.specs.declared.wanted.Wanted.TheVariants.{Nothing}
use Rattle.server_history.specs.ServerState.{ServerState, no_slots, plain_mode}
use Rattle.slots.specs.SlotUses.{PortSlots}
use Rattle.port_driver.specs.PortAndShared.{HasPortAt, HasNoneDueAndParts, with_served_port}
use Rattle.port_driver.specs.declared.served_port.ServedPort.{ServedPort}
use Rattle.port_driver.specs.declared.served_port.Shared.{Shared}

-- what is put where it stood changes nothing
put_back : {X : Type 0} (xs : List X) (place : ℕ) (default x : X) → get_or xs place default ≡ x → set xs place x ≡ xs
put_back xs place default x is = ap (set xs place) (sym is) ∙ set-get_or xs place default

-- ---- one port of a server

module _ (s : ServerState) (port : Port) (p : ServedPort) (has : HasPortAt s port.0 p) where
  same_wanted : set s.wanted port.0 p.wanted ≡ s.wanted
  same_wanted = put_back s.wanted port.0 Nothing p.wanted has.wanted_is

  same_found : set s.probe_results port.0 p.probe_result ≡ s.probe_results
  same_found = put_back s.probe_results port.0 Unserved p.probe_result has.probe_result_is

  same_remembered : set s.remembered port.0 p.remembered ≡ s.remembered
  same_remembered = put_back s.remembered port.0 None p.remembered has.remembered_is

  same_mode : set s.modes port.0 p.mode ≡ s.modes
  same_mode = put_back s.modes port.0 plain_mode p.mode has.mode_is

  same_slots : set s.slots port.0 p.slots ≡ s.slots
  same_slots = put_back s.slots port.0 no_slots p.slots has.slots_are

  same_kept : set s.kept_loans port.0 p.kept ≡ s.kept_loans
  same_kept = put_back s.kept_loans port.0 [] p.kept has.quarantine_is

  module _ (device : Device) (shared : Shared) where
    -- nothing of the port changed
    pub with_same : with_served_port s device shared port p ≡ record s { device = device; table = shared.table.value; book = shared.book }
    with_same = λ i. record (with_served_port s device shared port p) {
      wanted = same_wanted i;
      probe_results = same_found i;
      remembered = same_remembered i;
      modes = same_mode i;
      slots = same_slots i;
      kept_loans = same_kept i;
    }

    -- its slots are others
    pub with_slots : (slots : PortSlots) → with_served_port s device shared port (record p { slots = slots })
        ≡ record s { device = device; table = shared.table.value; slots = set s.slots port.0 slots; book = shared.book }
    with_slots slots = λ i. record (with_same i) { slots = set s.slots port.0 slots }

    -- other loans are kept of it
    pub with_kept : (kept : List Lending) → with_served_port s device shared port (record p { kept = kept })
        ≡ record s { device = device; table = shared.table.value; kept_loans = set s.kept_loans port.0 kept; book = shared.book }
    with_kept kept = λ i. record (with_same i) { kept_loans = set s.kept_loans port.0 kept }

    -- it was found anew
    pub with_found : (found : ProbeResult) (mode : QueueMode) (slots : PortSlots) → with_served_port s device shared port (record p { probe_result = found; mode = mode; slots = slots }) ≡ record s {
      device = device;
      table = shared.table.value;
      probe_results = set s.probe_results port.0 found;
      modes = set s.modes port.0 mode;
      slots = set s.slots port.0 slots;
      book = shared.book;
    }
    with_found found mode slots = λ i. record (with_same i) { probe_results = set s.probe_results port.0 found; modes = set s.modes port.0 mode; slots = set s.slots port.0 slots }

    -- only the disk that is wanted is the same
    pub with_other : (q : ServedPort) → q.wanted ≡ p.wanted → with_served_port s device shared port q ≡ record s {
      device = device;
      table = shared.table.value;
      probe_results = set s.probe_results port.0 q.probe_result;
      remembered = set s.remembered port.0 q.remembered;
      modes = set s.modes port.0 q.mode;
      slots = set s.slots port.0 q.slots;
      kept_loans = set s.kept_loans port.0 q.kept;
      book = shared.book;
    }
    with_other q is = ap (λ (list : List Wanted). record (with_served_port s device shared port q) { wanted = list }) (ap (set s.wanted port.0) is ∙ same_wanted)

-- it has the port on another device
pub on_device : (s : ServerState) (device : Device) (number : ℕ) (p : ServedPort) → HasPortAt s number p → HasPortAt (record s { device = device }) number p
on_device s device number p has = record {
  wanted_is = has.wanted_is;
  probe_result_is = has.probe_result_is;
  remembered_is = has.remembered_is;
  mode_is = has.mode_is;
  slots_are = has.slots_are;
  quarantine_is = has.quarantine_is;
}

-- a settled server has its parts on its own device
pub on_its_device : (s : ServerState) (shared : Shared) (port : Port) (p : ServedPort) {device : Device} → HasNoneDueAndParts s device shared port p → HasNoneDueAndParts s s.device shared port p
on_its_device s shared port p its = record {
  invariant_with_none_due = its.invariant_with_none_due;
  has_port_and_shared = record { device_is = refl; table_is = its.has_port_and_shared.table_is; book_is = its.has_port_and_shared.book_is; port_is = its.has_port_and_shared.port_is };
}
