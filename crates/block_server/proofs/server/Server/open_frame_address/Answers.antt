use Rattle.std.proofs.Common.{rules, ◌≡◌, ℕ, Bool, List, length, Err, subst, sym}
use Rattle.adapter.specs.Device.{Device}
use Rattle.ata_types.specs.declared.ClientId.{ClientId}
use Rattle.ata_types.specs.declared.refusal.MemFault.{MemFault}
use Rattle.ata_types.specs.declared.request.Frame.{Frame}
use Rattle.block_machine.specs.Events.{LoadAt, StoreAt}
use Rattle.block_machine.specs.Refusals.{IsFirstMemFault}
use Rattle.block_server.specs.ServerView.{ServerView, server_of}
use Rattle.dma_frames.specs.FrameTables.{lent_to, owner_of}
use Rattle.server_history.specs.Histories.{ExtendsHistory, InvariantBetweenCalls, load_result, store_result}
use Rattle.server_history.specs.ServerState.{ServerState}
use Rattle.block_server.proofs.Standing.{holds_either}
use Rattle.block_server.proofs.server.Server.open_frame_address.Goals as goal

-- what the law on refusals says of a server's fields holds of its view
refused_store : {A : Type 0} (device : A → Device) (inside now : ServerView A) (client : ClientId) (frame : Frame) (offset count : ℕ) (fault : MemFault) (stuck : Bool)
    → ((stuck : Bool) (s : ServerState) (client : ClientId) (frame : Frame) (offset : ℕ) (bytes : List ℕ) (fault : MemFault) → InvariantBetweenCalls stuck s → IsFirstMemFault (owner_of s.table) (lent_to s.table) client frame offset (length bytes) fault
    → ExtendsHistory s s (StoreAt client frame offset bytes) (store_result (Err fault)))
    → InvariantBetweenCalls stuck (server_of device inside) → inside ≡ now → IsFirstMemFault (owner_of now.table) (lent_to now.table) client frame offset count fault
    → (bytes : List ℕ) → length bytes ≡ count → ExtendsHistory (server_of device now) (server_of device now) (StoreAt client frame offset bytes) (store_result (Err fault))
refused_store {A} device inside now client frame offset count fault stuck law holds is why bytes many =
    law stuck (server_of device now) client frame offset bytes fault (subst (λ (v : ServerView A). InvariantBetweenCalls stuck (server_of device v)) is holds)
    (subst (λ (n : ℕ). IsFirstMemFault (owner_of now.table) (lent_to now.table) client frame offset n fault) (sym many) why)

refused_load : {A : Type 0} (device : A → Device) (inside now : ServerView A) (client : ClientId) (frame : Frame) (offset count : ℕ) (fault : MemFault) (stuck : Bool)
    → ((stuck : Bool) (s : ServerState) (client : ClientId) (frame : Frame) (offset count : ℕ) (out : List ℕ) (fault : MemFault) → InvariantBetweenCalls stuck s → IsFirstMemFault (owner_of s.table) (lent_to s.table) client frame offset count fault
    → ExtendsHistory s s (LoadAt client frame offset count) (load_result (Err fault) out))
    → InvariantBetweenCalls stuck (server_of device inside) → inside ≡ now → IsFirstMemFault (owner_of now.table) (lent_to now.table) client frame offset count fault
    → (out : List ℕ) → ExtendsHistory (server_of device now) (server_of device now) (LoadAt client frame offset count) (load_result (Err fault) out)
refused_load {A} device inside now client frame offset count fault stuck law holds is why out =
    law stuck (server_of device now) client frame offset count out fault (subst (λ (v : ServerView A). InvariantBetweenCalls stuck (server_of device v)) is holds) why

pub returns-then-ne-clause-err : goal.returns-then-ne-clause-err
returns-then-ne-clause-err g c = search rules

pub returns-then-ne-clause-refused_store : goal.returns-then-ne-clause-refused_store
returns-then-ne-clause-refused_store g c =
    refused_store g.A.Adapter.device _ _ c.args.client c.args.frame c.args.offset c.args.count _ c.self.inside.stuck c.law_refusals_extend_history.ensures.store c.self.invariant c.self.view_is (returns-then-ne-clause-err g c)

pub returns-then-ne-clause-refused_load : goal.returns-then-ne-clause-refused_load
returns-then-ne-clause-refused_load g c =
    refused_load g.A.Adapter.device _ _ c.args.client c.args.frame c.args.offset c.args.count _ c.self.inside.stuck c.law_refusals_extend_history.ensures.load c.self.invariant c.self.view_is (returns-then-ne-clause-err g c)

pub returns-then-is_some-clause-err : goal.returns-then-is_some-clause-err
returns-then-is_some-clause-err g c = search rules

pub returns-then-is_some-clause-refused_store : goal.returns-then-is_some-clause-refused_store
returns-then-is_some-clause-refused_store g c =
    refused_store g.A.Adapter.device _ _ c.args.client c.args.frame c.args.offset c.args.count _ c.self.inside.stuck c.law_refusals_extend_history.ensures.store c.self.invariant c.self.view_is (returns-then-is_some-clause-err g c)

pub returns-then-is_some-clause-refused_load : goal.returns-then-is_some-clause-refused_load
returns-then-is_some-clause-refused_load g c =
    refused_load g.A.Adapter.device _ _ c.args.client c.args.frame c.args.offset c.args.count _ c.self.inside.stuck c.law_refusals_extend_history.ensures.load c.self.invariant c.self.view_is (returns-then-is_some-clause-err g c)

pub returns-then-offset-count-clause-err : goal.returns-then-offset-count-clause-err
returns-then-offset-count-clause-err g c = search rules

pub returns-then-offset-count-clause-refused_store : goal.returns-then-offset-count-clause-refused_store
returns-then-offset-count-clause-refused_store g c =
    refused_store g.A.Adapter.device _ _ c.args.client c.args.frame c.args.offset c.args.count _ c.self.inside.stuck c.law_refusals_extend_history.ensures.store c.self.invariant c.self.view_is (returns-then-offset-count-clause-err g c)

pub returns-then-offset-count-clause-refused_load : goal.returns-then-offset-count-clause-refused_load
returns-then-offset-count-clause-refused_load g c =
    refused_load g.A.Adapter.device _ _ c.args.client c.args.frame c.args.offset c.args.count _ c.self.inside.stuck c.law_refusals_extend_history.ensures.load c.self.invariant c.self.view_is (returns-then-offset-count-clause-err g c)

pub returns-clause-ok : goal.returns-clause-ok
returns-clause-ok g c = search rules

pub returns-clause-accessible : goal.returns-clause-accessible
returns-clause-accessible g c =
    let s = server_of g.A.Adapter.device c.args.self.now in
    let holds = subst (λ (v : ServerView g.row.A.Denot). InvariantBetweenCalls c.self.inside.stuck (server_of g.A.Adapter.device v)) c.self.view_is c.self.invariant in
    let booked = holds_either c.self.inside.stuck holds (λ _ settled. c.law_in_call_gives_server_invariant.ensures.server_invariant s settled.in_call_invariant) (λ _ stalled. stalled.server_invariant) in
    c.law_device_never_owns_accessible_frames.ensures s c.args.client c.args.frame c.args.offset c.args.count booked (returns-clause-ok g c).0
