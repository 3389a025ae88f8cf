-- Where the adapter is reset: a port's requests are resolved.
use Rattle.std.proofs.Common.{List, Option, None, set, refl, sym, subst}
use Rattle.ata_types.specs.declared.Port.{Port}
use Rattle.ata_types.specs.declared.request.Reply.{Reply}
use Rattle.dma_frames.specs.Loan.{Lending}
use Rattle.dma_frames.specs.FrameTables.{OwnersAndLoans}
use Rattle.host_boot.specs.TakeOver.{probe_result_of}
use Rattle.host_boot.specs.declared.ProbeResult.{ProbeResult}
use Rattle.identify.specs.declared.DiskInfo.{DiskInfo}
use Rattle.request_queue.specs.BookEntries.{BookEntry}
use Rattle.request_queue.specs.Dispositions.{BookAndLoans, AreResolved, disposition_of}
use Rattle.request_queue.specs.declared.PendingRequest.{PendingRequest}
use Rattle.request_queue.specs.declared.disposition.Disposition.{Disposition}
use Rattle.request_queue.specs.declared.disposition.Revalidation.{Revalidation}
use Rattle.server_history.specs.ErrorHandling.{requests_of}
use Rattle.server_history.specs.Resets.{IsResetRevalidation, ResolvesPort}
use Rattle.server_history.specs.ServerState.{ServerState, quarantined_at}
use Rattle.port_driver.specs.LoanRoom.{book_and_loans}
use Rattle.port_driver.specs.PortAndShared.{HasPortAndShared}
use Rattle.port_driver.specs.declared.served_port.ServedPort.{ServedPort}
use Rattle.port_driver.specs.declared.served_port.Shared.{Shared}

-- The port's requests were resolved.
pub settles_port : (s : ServerState) (shared : Shared) (port : Port) (p : ServedPort) → HasPortAndShared s s.device shared port p → (table : OwnersAndLoans) (book : List BookEntry) (kept : List Lending)
    → (revalidation : Revalidation) → IsResetRevalidation p.remembered p.probe_result revalidation → (its : List Reply)
    → AreResolved (disposition_of None revalidation) (requests_of port shared.book) its (book_and_loans shared.book shared.table.value p.kept) (book_and_loans book table kept)
    → ResolvesPort port its s (record s { table = table; kept_loans = set s.kept_loans port.0 kept; book = book })
settles_port s shared port p has table book kept revalidation expects its meets = record {
  revalidation = revalidation;
  is_revalidation = subst (λ (x : Option DiskInfo). IsResetRevalidation x (probe_result_of s.probe_results port.0) revalidation) (sym has.port_is.remembered_is)
      (subst (λ (x : ProbeResult). IsResetRevalidation p.remembered x revalidation) (sym has.port_is.probe_result_is) expects);
  book_and_loans_after = now;
  are_resolved = subst (λ (x : List BookEntry). AreResolved disposition (requests_of port x) its (record { book = x; table = s.table; kept = quarantined_at s.kept_loans port.0 }) now) (sym has.book_is)
      (subst (λ (x : OwnersAndLoans). AreResolved disposition (requests_of port shared.book) its (record { book = shared.book; table = x; kept = quarantined_at s.kept_loans port.0 }) now) (sym has.table_is)
      (subst (λ (x : List Lending). AreResolved disposition (requests_of port shared.book) its (book_and_loans shared.book shared.table.value x) now) (sym has.port_is.quarantine_is) meets));
  server_is = refl;
}
  where
    now : BookAndLoans
    now = book_and_loans book table kept

    disposition : PendingRequest → Disposition
    disposition = disposition_of None revalidation
