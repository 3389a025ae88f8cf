-- Accepted requests, as frames change hands.
use Rattle.std.proofs.Common.{min, ℕ, ◌≡◌, ◌≢◌, ◌&&◌, Bool, true, false, suc, List, get_or, map, Option, Some, None, sym, ap, ◌∙◌, subst, refl}
use Rattle.std.specs.List.{All, Contains}
use Rattle.std.proofs.lemmas.Bool.{cond-true, cond-false}
use Rattle.std.proofs.lemmas.List.{get_or_default}
use Rattle.std.proofs.lemmas.List.Elements.{All-contains}
use Rattle.std.proofs.lemmas.Option.{same_Some}
use Rattle.ata_types.specs.declared.Port.{Port}
use Rattle.ata_types.specs.declared.request.ClientId.{ClientId}
use Rattle.ata_types.specs.declared.request.Frame.{Frame}
use Rattle.ata_types.specs.declared.request.RequestId.{RequestId}
use Rattle.dma_frames.specs.FrameTables.{OwnersAndLoans, lent_to, SetsLoanOnly}
use Rattle.request_queue.specs.BookEntries.{BookEntry, IsWellFormedEntry, FramesAreLentToIt, has_id, update_if_id, without_entry, issued_request, request_with_issued_cleared, aged_request, aged_entries, with_revoked_mark_if_under_grant, with_requests_under_grant_revoked}
use Rattle.request_queue.specs.declared.PendingRequest.{PendingRequest}
use Rattle.request_queue.proofs.Members.{map_in}
use Rattle.request_queue.proofs.Changing.{either_way, without_in}
use Rattle.request_queue.proofs.Finding.{without_other}
use Rattle.block_machine.specs.Rules.{is_same_grant_name}

pub still_accepted : (old new : OwnersAndLoans) (frames : List Frame) (to : Option RequestId) (e : BookEntry) → SetsLoanOnly old new frames to → IsWellFormedEntry old e
    → ((f : Frame) → Contains e.frames f → Contains frames f → ⊥) → IsWellFormedEntry new e
still_accepted old new frames to e lends a apart = record {
  client_is_at_least_1 = a.client_is_at_least_1;
  client_is_at_most_8 = a.client_is_at_most_8;
  count_is_allowed = a.count_is_allowed;
  range_is_below_2_48_unless_flush = a.range_is_below_2_48_unless_flush;
  frame_count_is = a.frame_count_is;
  frames_are_not_drivers = a.frames_are_not_drivers;
  frames_are_own = λ k d small. ap (λ (owners : List (Option ClientId)). get_or owners (get_or e.frames k d).0 None) lends.owners_are_kept ∙ a.frames_are_own k d small;
  frames_are_distinct = a.frames_are_distinct;
  frames_are_lent = λ k d small.
      let f : Frame = get_or e.frames k d in
      lends.others_are_kept f (λ there. apart f (k, small, get_or_default e.frames k f d small) there) ∙ a.frames_are_lent k d small;
}

pub frames_apart : (table : OwnersAndLoans) (a b : BookEntry) → a.request.id ≢ b.request.id → IsWellFormedEntry table a → IsWellFormedEntry table b → (f : Frame) → Contains a.frames f → Contains b.frames f → ⊥
frames_apart table a b other x y f mine its =
    let to_a = All-contains (λ (z : Frame). lent_to table z ≡ Some a.request.id) a.frames f x.frames_are_lent mine in
    let to_b = All-contains (λ (z : Frame). lent_to table z ≡ Some b.request.id) b.frames f y.frames_are_lent its in
    other (same_Some a.request.id b.request.id (sym to_a ∙ to_b))

-- what each has, all have
each : (P : BookEntry → Type 0) (es : List BookEntry) → ((e : BookEntry) → Contains es e → P e) → All P es
each P es has k d small = has (get_or es k d) (k, small, get_or_default es k (get_or es k d) d small)

pub all_lent : (old new : OwnersAndLoans) (es : List BookEntry) (frames : List Frame) (to : Option RequestId) → SetsLoanOnly old new frames to → All (λ f. lent_to old f ≡ None) frames
    → All (IsWellFormedEntry old) es → All (IsWellFormedEntry new) es
all_lent old new es frames to lends free all = each (IsWellFormedEntry new) es (λ e h.
    let a = All-contains (IsWellFormedEntry old) es e all h in
    still_accepted old new frames to e lends a (λ f mine there.
    let lent = All-contains (λ (z : Frame). lent_to old z ≡ Some e.request.id) e.frames f a.frames_are_lent mine in
    let none = All-contains (λ (z : Frame). lent_to old z ≡ None) frames f free there in
    let both : Some e.request.id ≡ None = sym lent ∙ none in cc))

pub all_answered : (old new : OwnersAndLoans) (es : List BookEntry) (e : BookEntry) → Contains es e → SetsLoanOnly old new e.frames None → All (IsWellFormedEntry old) es
    → All (IsWellFormedEntry new) (without_entry e.request.id es)
all_answered old new es e here lends all = each (IsWellFormedEntry new) (without_entry e.request.id es) (λ x h.
    let a = All-contains (IsWellFormedEntry old) es x all (without_in e.request.id es x h) in
    let b = All-contains (IsWellFormedEntry old) es e all here in
    still_accepted old new e.frames None x lends a (frames_apart old x e (without_other e.request.id es x h) a b))

-- ---- what a request was accepted with says nothing of how far it is, nor whether its grant is there still

further : (table : OwnersAndLoans) (e : BookEntry) (issued : Bool) (issues age : ℕ) (revoked : Bool) → IsWellFormedEntry table e
    → IsWellFormedEntry table (record e { request = record (e.request) { issued = issued; issue_count = issues; age = age; revoked = revoked } })
further table e issued issues age revoked a = record {
  client_is_at_least_1 = a.client_is_at_least_1;
  client_is_at_most_8 = a.client_is_at_most_8;
  count_is_allowed = a.count_is_allowed;
  range_is_below_2_48_unless_flush = a.range_is_below_2_48_unless_flush;
  frame_count_is = a.frame_count_is;
  frames_are_not_drivers = a.frames_are_not_drivers;
  frames_are_own = a.frames_are_own;
  frames_are_distinct = a.frames_are_distinct;
  frames_are_lent = a.frames_are_lent;
}

all_changed : (table : OwnersAndLoans) (es : List BookEntry) (g : BookEntry → BookEntry) → ((e : BookEntry) → IsWellFormedEntry table e → IsWellFormedEntry table (g e))
    → All (IsWellFormedEntry table) es → All (IsWellFormedEntry table) (map g es)
all_changed table es g keeps all = each (IsWellFormedEntry table) (map g es) (λ x h.
    let old = map_in g es x h in
    subst (λ (y : BookEntry). IsWellFormedEntry table y) (sym old.2) (keeps old.0 (All-contains (IsWellFormedEntry table) es old.0 all old.1)))

at_one : (table : OwnersAndLoans) (id : RequestId) (f : PendingRequest → PendingRequest) → ((e : BookEntry) → IsWellFormedEntry table e → IsWellFormedEntry table (record e { request = f e.request }))
    → (e : BookEntry) → IsWellFormedEntry table e → IsWellFormedEntry table (update_if_id id f e)
at_one table id f keeps e a = go (has_id id e) refl
  where
    go : (b : Bool) → has_id id e ≡ b → IsWellFormedEntry table (update_if_id id f e)
    go true t = subst (λ (x : BookEntry). IsWellFormedEntry table x) (sym (cond-true (has_id id e) (record e { request = f e.request }) e t)) (keeps e a)
    go false t = subst (λ (x : BookEntry). IsWellFormedEntry table x) (sym (cond-false (has_id id e) (record e { request = f e.request }) e t)) a

pub all_issued : (table : OwnersAndLoans) (es : List BookEntry) (id : RequestId) → All (IsWellFormedEntry table) es → All (IsWellFormedEntry table) (map (update_if_id id issued_request) es)
all_issued table es id all = all_changed table es (update_if_id id issued_request) (at_one table id issued_request (λ e a. further table e true (suc e.request.issue_count) 0 e.request.revoked a)) all

pub all_requeued : (table : OwnersAndLoans) (es : List BookEntry) (id : RequestId) → All (IsWellFormedEntry table) es → All (IsWellFormedEntry table) (map (update_if_id id request_with_issued_cleared) es)
all_requeued table es id all = all_changed table es (update_if_id id request_with_issued_cleared) (at_one table id request_with_issued_cleared (λ e a. further table e false e.request.issue_count e.request.age e.request.revoked a)) all

pub all_aged : (table : OwnersAndLoans) (es : List BookEntry) (ports : Port → Bool) → All (IsWellFormedEntry table) es → All (IsWellFormedEntry table) (aged_entries ports es)
all_aged table es ports all = all_changed table es (λ (e : BookEntry). record e { request = aged_request ports e.request })
    (λ e a. either_way (λ (r : PendingRequest). IsWellFormedEntry table (record e { request = r })) (e.request.issued && ports e.request.port) (record (e.request) { age = min (suc e.request.age) 3 }) e.request
    (further table e e.request.issued e.request.issue_count (min (suc e.request.age) 3) e.request.revoked a) a) all

pub all_revoked : (table : OwnersAndLoans) (es : List BookEntry) (client : ClientId) (grant : ℕ) → All (IsWellFormedEntry table) es → All (IsWellFormedEntry table) (with_requests_under_grant_revoked client grant es)
all_revoked table es client grant all = all_changed table es (λ (e : BookEntry). record e { request = with_revoked_mark_if_under_grant client grant e.request })
    (λ e a. either_way (λ (r : PendingRequest). IsWellFormedEntry table (record e { request = r })) (is_same_grant_name client grant e.request.client e.request.grant) (record (e.request) { revoked = true }) e.request
    (further table e e.request.issued e.request.issue_count e.request.age true a) a) all

pub all_stand : (table : OwnersAndLoans) (es : List BookEntry) → All (IsWellFormedEntry table) es → All (FramesAreLentToIt table) es
all_stand table es all = each (FramesAreLentToIt table) es (λ e h. (All-contains (IsWellFormedEntry table) es e all h).frames_are_lent)
