-- What becomes of a request fits how far it is and whether it is marked, and loans are kept on dead ports alone.
use Rattle.std.proofs.Common.{◌≡◌, ◌≢◌, ◌==◌, Bool, true, false, if◌then◌else◌, List, Option, Some, None, refl}
use Rattle.std.specs.List.{Contains}
use Rattle.ata_types.specs.declared.request.Outcome.{Outcome}
use Rattle.ata_types.specs.declared.request.Outcome.TheVariants.{Aborted, DeviceError, PortDead, Revoked, Unplugged}
use Rattle.request_queue.specs.BookEntries.{BookEntry}
use Rattle.request_queue.specs.Dispositions.{disposition_of, disposition_of_unfailed}
use Rattle.request_queue.specs.declared.PendingRequest.{PendingRequest}
use Rattle.request_queue.specs.declared.disposition.FailedRequest.{FailedRequest}
use Rattle.request_queue.specs.declared.disposition.Disposition.{Disposition}
use Rattle.request_queue.specs.declared.disposition.Disposition.TheVariants.{Complete, Requeue, Wait}
use Rattle.request_queue.specs.declared.disposition.Revalidation.{Revalidation}
use Rattle.request_queue.specs.declared.disposition.Revalidation.TheVariants.{Dead, DiskLost, SameDisk}
use Rattle.server_history.specs.ResolvedRequests.{completes_keeping_loan}

-- One that waits isn't issued; one that goes again is, was fewer than four times, and isn't marked; nor is one that is
-- aborted; and one that is told Revoked is marked.
pub record FitsEntry (disposition : Disposition) (e : PendingRequest) : Type 0 where
  pub waits : disposition ≡ Wait → e.issued ≡ false
  pub again : disposition ≡ Requeue → (e.issued ≡ true) × ((e.issue_count == 4) ≡ false) × (e.revoked ≡ false)
  pub aborted : disposition ≡ Complete Aborted → e.revoked ≡ false
  pub revoked : disposition ≡ Complete Revoked → e.revoked ≡ true

-- so it is of what becomes of each of these
abbrev pub AllFit : (PendingRequest → Disposition) → List BookEntry → Type 0
AllFit disposition requests = (e : BookEntry) → Contains requests e → FitsEntry (disposition e.request) e.request

-- so it is of one that ends
pub ends_fits : (e : PendingRequest) (o : Outcome) → (o ≡ Aborted → e.revoked ≡ false) → (o ≡ Revoked → e.revoked ≡ true) → FitsEntry (Complete o) e
ends_fits e o plain marked = record {
  waits = λ z. let w : Complete o ≡ Wait = z in absurd cc;
  again = λ z. let w : Complete o ≡ Requeue = z in absurd cc;
  aborted = λ z. let w : Complete o ≡ Complete Aborted = z in let is : o ≡ Aborted = cc in plain is;
  revoked = λ z. let w : Complete o ≡ Complete Revoked = z in let is : o ≡ Revoked = cc in marked is;
}

-- a loan is kept on a dead port alone
record Fits (revalidation : Revalidation) (disposition : Disposition) (e : PendingRequest) : Type 0 where
  entry : FitsEntry disposition e
  alive : revalidation ≢ Dead → completes_keeping_loan disposition e ≡ false

fits_on : (revalidation : Revalidation) (e : PendingRequest) → Fits revalidation (disposition_of_unfailed revalidation e) e
fits_on SameDisk e = by e.issued e.revoked (e.issue_count == 4) refl refl refl
  where
    by : (a b c : Bool) → e.issued ≡ a → e.revoked ≡ b → (e.issue_count == 4) ≡ c
        → Fits SameDisk (if a then (if b then Complete Revoked else (if c then Complete Aborted else Requeue)) else Wait) e
    by true true c x y z = record { entry = ends_fits e Revoked (λ is. let w : Revoked ≡ Aborted = is in absurd cc) (λ is. y); alive = λ lives. refl }
    by true false true x y z = record { entry = ends_fits e Aborted (λ is. y) (λ is. let w : Aborted ≡ Revoked = is in absurd cc); alive = λ lives. refl }
    by true false false x y z = record {
      entry = record {
        waits = λ is. let w : Requeue ≡ Wait = is in absurd cc;
        again = λ is. (x, z, y);
        aborted = λ is. let w : Requeue ≡ Complete Aborted = is in absurd cc;
        revoked = λ is. let w : Requeue ≡ Complete Revoked = is in absurd cc;
      };
      alive = λ lives. refl;
    }
    by false b c x y z = record {
      entry = record {
        waits = λ is. x;
        again = λ is. let w : Wait ≡ Requeue = is in absurd cc;
        aborted = λ is. let w : Wait ≡ Complete Aborted = is in absurd cc;
        revoked = λ is. let w : Wait ≡ Complete Revoked = is in absurd cc;
      };
      alive = λ lives. refl;
    }
fits_on DiskLost e = record { entry = ends_fits e Unplugged (λ is. let w : Unplugged ≡ Aborted = is in absurd cc) (λ is. let w : Unplugged ≡ Revoked = is in absurd cc); alive = λ lives. refl }
fits_on Dead e = record { entry = ends_fits e PortDead (λ is. let w : PortDead ≡ Aborted = is in absurd cc) (λ is. let w : PortDead ≡ Revoked = is in absurd cc); alive = λ lives. absurd (lives refl) }

fits : (failed : Option FailedRequest) (revalidation : Revalidation) (e : PendingRequest) → Fits revalidation (disposition_of failed revalidation e) e
fits None revalidation e = fits_on revalidation e
fits (Some failed) revalidation e = by (failed.id.0 == e.id.0)
  where
    by : (b : Bool) → Fits revalidation (if b then Complete (DeviceError failed.status failed.error) else disposition_of_unfailed revalidation e) e
    by true = record {
      entry = ends_fits e (DeviceError failed.status failed.error) (λ is. let w : DeviceError failed.status failed.error ≡ Aborted = is in absurd cc)
          (λ is. let w : DeviceError failed.status failed.error ≡ Revoked = is in absurd cc);
      alive = λ lives. refl;
    }
    by false = fits_on revalidation e

-- so it is of what becomes of requests after a recovery or a reset
pub fits_each : (failed : Option FailedRequest) (revalidation : Revalidation) (requests : List BookEntry) → AllFit (disposition_of failed revalidation) requests
fits_each failed revalidation requests e here = (fits failed revalidation e.request).entry

pub kept_dead_alone : (failed : Option FailedRequest) (revalidation : Revalidation) (e : PendingRequest) → revalidation ≢ Dead → completes_keeping_loan (disposition_of failed revalidation e) e ≡ false
kept_dead_alone failed revalidation e = (fits failed revalidation e).alive
