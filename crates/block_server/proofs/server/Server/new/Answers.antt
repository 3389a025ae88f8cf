use Rattle.std.proofs.Common.{rules, false, ◌∙◌, ◌*◌, ◌≤◌, List, ap, refl, sym, subst, arith}
use Rattle.std.specs.List.{AllPairs}
use Rattle.ata_types.specs.declared.grant.GrantRow.{GrantRow}
use Rattle.block_machine.specs.Rules.{DifferInName}
use Rattle.dma_frames.specs.FrameTables.{ExtentsApart}
use Rattle.grants.specs.Rows.{SameRows}
use Rattle.host_boot.specs.TakeOver.{TakesOver, probe_result_of}
use Rattle.host_boot.specs.declared.ProbeResult.{ProbeResult}
use Rattle.identify.specs.declared.wanted.Wanted.{Wanted}
use Rattle.server_history.specs.Histories.{StartsHistory}
use Rattle.server_history.specs.ServerState.{ServerState, InvariantWithNoneDue, probed_mode}
use Rattle.block_server.specs.ServerFieldsView.{server_view_of}
use Rattle.block_server.specs.ServerView.{server_of}
use Rattle.block_server.proofs.Making.{NewPorts, new_fits, new_ports}
use Rattle.block_server.proofs.server.Server.new.Given.{Over}
use Rattle.block_server.proofs.server.Server.new.Goals as goal
use Rattle.block_server.proofs.server.Server.new.Goals.{After-law_new_server_starts_history}

pub from_rows-requires-clause-names_differ : goal.from_rows-requires-clause-names_differ
from_rows-requires-clause-names_differ g c =
    subst (AllPairs DifferInName) (sym c.grants.ensures.grants) c.in-Ok.ensures.is_servable.grants_differ_in_name

pub boxed-requires-clause-apart : goal.boxed-requires-clause-apart
boxed-requires-clause-apart g c = subst (AllPairs ExtentsApart) (sym c.owners.ensures.owners) c.owners.ensures.is_servable.runs.extents_share_no_frame

-- the server then
abbrev new_server : (g : Over) (c : After-law_new_server_starts_history g) → ServerState
new_server g c = server_of g.A.Adapter.device (server_view_of (record {
  adapter = c.take_over-host.new.adapter;
  grants = c.in-Ok-from_rows.grants;
  shared = record { table = c.in-Ok-boxed.table; book = c.in-Ok-new.book };
  ports = c.replace_probe_results_and_free_slots.new.ports;
  last = 0;
  stuck = false;
}))

-- what it has of its ports
has_ports : (g : Over) (c : After-law_new_server_starts_history g) → NewPorts c.take_over-host.result c.wanted.result.now c.replace_probe_results_and_free_slots.new.ports
has_ports g c =
    new_ports c.take_over-host.result c.take_over-host.ensures.has_four_ports c.wanted.result.now c.in-Ok-empty_quarantines.kept c.in-Ok-empty_quarantines.ensures c.unserved_ports-ports.result c.replace_probe_results_and_free_slots.new.ports
    c.unserved_ports-ports.ensures.wanted c.unserved_ports-ports.ensures.kept c.unserved_ports-ports.ensures.found c.unserved_ports-ports.ensures.forgotten c.replace_probe_results_and_free_slots.ensures

its_rows : (g : Over) (c : After-law_new_server_starts_history g) → SameRows c.in-Ok.plan.grants c.in-Ok-from_rows.grants
its_rows g c = subst (λ (rows : List GrantRow). SameRows rows c.in-Ok-from_rows.grants) c.grants.ensures.grants c.in-Ok-from_rows.ensures.holds_same_rows

-- it was taken over for the disks that it wants
its_taken : (g : Over) (c : After-law_new_server_starts_history g) → TakesOver (new_server g c).wanted c.take_over-host.result (g.A.Adapter.device c.args.adapter) (new_server g c).device
its_taken g c =
    let same = c.wanted-2.ensures.wanted ∙ sym c.wanted.ensures.wanted ∙ sym (has_ports g c).wanted in
    subst (λ (wanted : List Wanted). TakesOver wanted c.take_over-host.result (g.A.Adapter.device c.args.adapter) (new_server g c).device) same c.take_over-host.ensures.takes_over

begun : (g : Over) (c : After-law_new_server_starts_history g) → InvariantWithNoneDue (new_server g c) × StartsHistory (new_server g c)
begun g c =
    let device = g.A.Adapter.device in
    let plan = c.in-Ok.plan in
    let s = new_server g c in
    let host = c.take_over-host.result in
    let has = has_ports g c in
    let room : 4096 * plan.frames ≤ s.device.memory_size = let f = c.in-Ok.ensures.is_plan_of.frames in let r = c.requires.ready.memory_has_frames c.in-Ok.ensures.config_has_no_fault in let z = c.take_over-host.ensures.takes_over.adapter_is_kept.memory_size in omega (arith, f, r, z) in
    c.law_new_server_starts_history.ensures s host (device c.args.adapter) c.requires.ready.idle (g.met.A.Adapter.tells c.args.adapter) (its_taken g c)
    (new_fits s host plan c.in-Ok.ensures.is_servable (its_rows g c)
    (rw c.owners.ensures.owners at c.in-Ok-boxed.ensures.no_other_is_owned) room c.in-Ok-from_rows.ensures.names_differ c.in-Ok-from_rows.ensures.kept_rows_are_at_most_64 c.in-Ok-boxed.ensures.nothing_is_lent has.found c.take_over-host.ensures.has_four_ports has.four_remembered has.forgotten has.four_kept has.unkept has.four_slots has.four_modes has.places
    (λ port low. has.modes s.device.cap c.take_over-host.ensures.takes_over.slot_count_is_of_cap c.take_over-host.ensures.takes_over.ncq_is_of_cap port low ∙ ap (λ (found : List ProbeResult). probed_mode s.device.cap (probe_result_of found port)) (sym has.found)) has.usable has.unused c.in-Ok-new.ensures refl)

pub invariant_of-result : goal.invariant_of-result
invariant_of-result g c = (begun g c).0

pub returns-clause-made : goal.returns-clause-made
returns-clause-made g c =
    let a = (goal.at.returns-clause-made g c).After-law_new_server_starts_history in
    let has = has_ports g a in
    record {
      plan = c.in-Ok.plan;
      is_plan = c.in-Ok.ensures.is_servable;
      planned = c.in-Ok.ensures.is_plan_of;
      grants_are_planned = its_rows g a;
      extents_are_owned = rw c.owners.ensures.owners at c.in-Ok-boxed.ensures.extents_are_owned;
      no_other_frame_is_owned = rw c.owners.ensures.owners at c.in-Ok-boxed.ensures.no_other_is_owned;
      no_frame_is_lent = c.in-Ok-boxed.ensures.nothing_is_lent;
      wanted_is_planned = has.wanted ∙ c.wanted.ensures.wanted;
      host = c.take_over-host.result;
      probe_results_are_hosts = has.found;
      no_disk_is_remembered = has.forgotten;
      takes_over = subst (λ (wanted : List Wanted). TakesOver wanted c.take_over-host.result (g.A.Adapter.device c.args.adapter) (g.A.Adapter.device c.take_over-host.new.adapter)) c.wanted-2.ensures.wanted c.take_over-host.ensures.takes_over;
      no_loan_is_kept = has.unkept;
      book_is_empty = c.in-Ok-new.ensures;
      last_id_is_0 = refl;
      is_not_stuck = refl;
      no_slot_is_used = has.unused;
      invariant_with_none_due = (begun g a).0;
      starts_history = (begun g a).1;
    }

pub returns-in-Err-clause-refused : goal.returns-in-Err-clause-refused
returns-in-Err-clause-refused g c = search rules
