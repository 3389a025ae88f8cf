-- The ports of a server: what it has of each, and what it is with another in its place.
use Rattle.std.proofs.Common.{ℕ, ◌≡◌, ◌≢◌, ◌<◌, List, length, get_or, set, refl, sym, ap, ◌∙◌, subst}
use Rattle.std.proofs.Math.ListN.{get_or-map}
use Rattle.std.proofs.Math.Seq.{map-set_same}
use Rattle.std.proofs.lemmas.List.{get_or-set_other, get_or_default, length-map, map-set}
use Rattle.adapter.specs.Device.{Device}
use Rattle.refinement.specs.Relation.{port_at}
use Rattle.host_boot.specs.TakeOver.{probe_result_of}
use Rattle.host_boot.specs.declared.ProbeResult.{ProbeResult}
use Rattle.host_boot.specs.declared.ProbeResult.TheVariants.{Unserved}
use Rattle.server_history.specs.ServerState.{ServerState}
use Rattle.port_driver.specs.PortAndShared.{HasPortAndShared, HasPortAt, no_port, with_served_port}
use Rattle.block_server.specs.FourPorts.{by_port, port_in}
use Rattle.block_server.specs.ServerFieldsView.{with_ports}
use Rattle.port_driver.specs.declared.served_port.ServedPort.{ServedPort}
use Rattle.port_driver.specs.declared.served_port.Shared.{Shared}

-- there are as many as there are slots
pub four_ports : (ports : List ServedPort) → length (by_port (λ p. p.slots) ports) ≡ 4 → length ports ≡ 4
four_ports ports four = sym (length-map ports (λ (p : ServedPort). p.slots)) ∙ four

module _ (s : ServerState) (device : Device) (shared : Shared) (ports : List ServedPort) (number : ℕ) where
  -- the port of this number has its part
  pub has_port : HasPortAt (with_ports s device shared ports) number (port_in ports number)
  has_port = record {
    wanted_is = get_or-map (λ (p : ServedPort). p.wanted) ports number no_port;
    probe_result_is = get_or-map (λ (p : ServedPort). p.probe_result) ports number no_port;
    remembered_is = get_or-map (λ (p : ServedPort). p.remembered) ports number no_port;
    mode_is = get_or-map (λ (p : ServedPort). p.mode) ports number no_port;
    slots_are = get_or-map (λ (p : ServedPort). p.slots) ports number no_port;
    quarantine_is = get_or-map (λ (p : ServedPort). p.kept) ports number no_port;
  }

  pub has_parts : (default : ServedPort) → number < length ports → HasPortAndShared (with_ports s device shared ports) device shared (port_at number) (get_or ports number default)
  has_parts default low =
      subst (HasPortAndShared (with_ports s device shared ports) device shared (port_at number)) (get_or_default ports number no_port default low)
      (record { device_is = refl; table_is = refl; book_is = refl; port_is = has_port })

  -- the server, with another in its place
  pub placed : (d : Device) (other : Shared) (p : ServedPort) → with_served_port (with_ports s device shared ports) d other (port_at number) p ≡ with_ports s d other (set ports number p)
  placed d other p = λ i. record s {
    device = d;
    table = other.table.value;
    wanted = sym (map-set (λ (q : ServedPort). q.wanted) ports number p) i;
    probe_results = sym (map-set (λ (q : ServedPort). q.probe_result) ports number p) i;
    remembered = sym (map-set (λ (q : ServedPort). q.remembered) ports number p) i;
    modes = sym (map-set (λ (q : ServedPort). q.mode) ports number p) i;
    slots = sym (map-set (λ (q : ServedPort). q.slots) ports number p) i;
    kept_loans = sym (map-set (λ (q : ServedPort). q.kept) ports number p) i;
    book = other.book;
  }

-- what the others were found to be stays
pub other_found : (ports : List ServedPort) (number : ℕ) (p : ServedPort) (q : ℕ) → q ≢ number → probe_result_of (by_port (λ p. p.probe_result) (set ports number p)) q ≡ probe_result_of (by_port (λ p. p.probe_result) ports) q
other_found ports number p q other =
    ap (λ (list : List ProbeResult). probe_result_of list q) (map-set (λ (x : ServedPort). x.probe_result) ports number p) ∙ get_or-set_other (by_port (λ p. p.probe_result) ports) number q p.probe_result Unserved other

-- the port, wherever its place is told
pub at_place : (ports : List ServedPort) (port place : ℕ) → place ≡ port → (default : ServedPort) → place < length ports → port_in ports port ≡ get_or ports place default
at_place ports port place is default low = ap (port_in ports) (sym is) ∙ get_or_default ports place no_port default low

pub has_at_place : (s : ServerState) (device : Device) (shared : Shared) (ports : List ServedPort) (port place : ℕ) → place ≡ port → (default : ServedPort) → place < length ports
    → HasPortAt (with_ports s device shared ports) port (get_or ports place default)
has_at_place s device shared ports port place is default low = subst (HasPortAt (with_ports s device shared ports) port) (at_place ports port place is default low) (has_port s device shared ports port)

-- the server, where only the slots of a port are others
pub slots_placed : (s : ServerState) (ports : List ServedPort) (place : ℕ) (default : ServedPort) (device : Device) (shared : Shared) (p : ServedPort) → p ≡ record (get_or ports place default) { slots = p.slots }
    → with_ports s device shared (set ports place p) ≡ record (with_ports s device shared ports) { slots = set (by_port (λ p. p.slots) ports) place p.slots }
slots_placed s ports place default device shared p is = λ i. record s {
  device = device;
  table = shared.table.value;
  wanted = map-set_same (λ (q : ServedPort). q.wanted) ports place p default (ap (λ (q : ServedPort). q.wanted) is) i;
  probe_results = map-set_same (λ (q : ServedPort). q.probe_result) ports place p default (ap (λ (q : ServedPort). q.probe_result) is) i;
  remembered = map-set_same (λ (q : ServedPort). q.remembered) ports place p default (ap (λ (q : ServedPort). q.remembered) is) i;
  modes = map-set_same (λ (q : ServedPort). q.mode) ports place p default (ap (λ (q : ServedPort). q.mode) is) i;
  slots = map-set (λ (q : ServedPort). q.slots) ports place p i;
  kept_loans = map-set_same (λ (q : ServedPort). q.kept) ports place p default (ap (λ (q : ServedPort). q.kept) is) i;
  book = shared.book;
}
