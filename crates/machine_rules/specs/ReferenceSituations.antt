-- What the plain programs of this crate are about: small tables and histories, as the machine's own.
use Rattle.std.specs.Prelude.{◌≡◌, ℕ, ◌+◌, ◌<◌, ◌==◌, false, List, count_by, Option, None, IsTrue, IfSome, IfNone, slice_index_or}
use Rattle.ata_types.specs.declared.Port.{Port}
use Rattle.ata_types.specs.declared.PortState.TheVariants.{Absent}
use Rattle.ata_types.specs.declared.request.Frame.{Frame}
use Rattle.ata_types.specs.declared.request.Request.{Request}
use Rattle.ata_types.specs.declared.grant.GrantRow.{GrantRow}
use Rattle.ata_types.specs.declared.refusal.Refusal.{Refusal}
use Rattle.ata_types.specs.declared.refusal.Refusal.TheVariants as refused
use Rattle.ata_types.specs.declared.refusal.Rule.TheVariants.{NoRight, OutsideGrant}
use Rattle.ata_types.specs.SectorGrants.{AllowsOp, CoversSectors}
use Rattle.machine_rules.specs.declared.refuse.ShownPort.{ShownPort}
use Rattle.machine_rules.specs.declared.refuse.ReferenceSituation.{ReferenceSituation}
use Rattle.block_machine.specs.Rules.{IsNamed, refusal_rank}
use Rattle.block_machine.specs.Refusals.{AdmissionContext, RefusalApplies}

-- what a table has for a frame; past its end nothing
abbrev pub frame_or_none : {X : Type 0} → List (Option X) → Frame → Option X
frame_or_none table f = slice_index_or table f.0 None

-- a port past the table's end is absent
abbrev pub port_or_absent : List ShownPort → Port → ShownPort
port_or_absent ports p = slice_index_or ports p.0 (record { state = Absent; sectors = 0; zeroes_after_trim = false })

-- what a request meets by these tables
abbrev pub reference_admission_context : ReferenceSituation → AdmissionContext
reference_admission_context t = record {
  rows = t.rows.items;
  owner = frame_or_none t.owners.items;
  lent = frame_or_none t.lent.items;
  state = λ p. (port_or_absent t.ports.items p).state;
  sectors = λ p. (port_or_absent t.ports.items p).sectors;
  zeroes_after_trim = λ p. (port_or_absent t.ports.items p).zeroes_after_trim;
  unanswered_count = λ client. count_by (λ c. c.0 == client.0) t.unanswered_clients.items;
  next_id = t.last_id + 1;
}

-- the row has what the cause says of a row that the request names
abbrev pub RowHasRowPartOfCause : AdmissionContext → Request → Refusal → GrantRow → Type 0
RowHasRowPartOfCause s r (refused.Rule NoRight) row = AllowsOp row.rights r.op → ⊥
RowHasRowPartOfCause s r (refused.Rule OutsideGrant) row = CoversSectors row r.first.0 r.count → ⊥
RowHasRowPartOfCause s r (refused.PortNotReady state) row = s.state row.port ≡ state
RowHasRowPartOfCause s r refused.OutsideDisk row = s.sectors row.port < r.first.0 + r.count
RowHasRowPartOfCause s r refused.TrimUnsupported row = IsTrue (s.zeroes_after_trim row.port) → ⊥
RowHasRowPartOfCause s r refusal row = Unit {0}

-- a row that the request names has it
abbrev pub SomeNamedRowMeetsCause : AdmissionContext → Request → Refusal → Type 0
SomeNamedRowMeetsCause s r refusal = (row : GrantRow) × IsNamed s.rows r row × RowHasRowPartOfCause s r refusal row

-- of the causes with this number, the first that applies, or that none does
pub record IsFirstApplyingCauseOfNumber (s : AdmissionContext) (r : Request) (number : ℕ)
    (found : Option Refusal) : Type 0 where
  pub applies : IfSome found (RefusalApplies s r)
  pub has_number : IfSome found (λ cause. (refusal_rank cause).0 ≡ number)
  pub none_of_number_before_it_applies : IfSome found (λ cause. (other : Refusal) → (refusal_rank other).0 ≡ number
      → (refusal_rank other).1 < (refusal_rank cause).1
      → RefusalApplies s r other → ⊥)
  pub not_found_only_if_none_applies : IfNone found ((other : Refusal) → (refusal_rank other).0 ≡ number
      → RefusalApplies s r other → ⊥)
