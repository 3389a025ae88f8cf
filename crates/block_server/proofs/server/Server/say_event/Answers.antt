use Rattle.std.proofs.Common.{ℕ, ◌≡◌, ◌++◌, ◌∷◌, ◌∙◌, [], List, Ok, Err, sym, subst, ap, refl}
use Rattle.std.specs.Prelude.{IfOk, IfErr}
use Rattle.std.specs.declared.result.Result.{Result}
use Rattle.arrayvec.specs.ArrayVec.{ArrayVec}
use Rattle.adapter.specs.declared.access.DeviceStep.{DeviceStep}
use Rattle.ata_types.specs.declared.call.Call.{Call}
use Rattle.ata_types.specs.declared.refusal.MemFault.{MemFault}
use Rattle.block_machine.specs.Events.{AbstractCall, StoreAt, Loaded, PortStateShown, Stepped, Submitted}
use Rattle.server_history.specs.Histories.{ExtendsHistory, store_result}
use Rattle.server_history.specs.ServerState.{ServerState}
use Rattle.block_server.specs.AbstractCalls.{abstract_call_of}
use Rattle.block_server.specs.Said.{SaysResult, said_of}
use Rattle.block_server.specs.ServerView.{server_of}
use Rattle.block_server.specs.declared.said.Said.{Said}
use Rattle.block_server.specs.declared.said.Said.TheVariants as said
use Rattle.block_server.proofs.Wanted.{submit_wants}
use Rattle.block_server.proofs.server.Server.say_event.Goals as goal

pub returns-in-Submit-clause-wanted_is_unchanged : goal.returns-in-Submit-clause-wanted_is_unchanged
returns-in-Submit-clause-wanted_is_unchanged g c = submit_wants g.A.Adapter.device c.args.self.now c.submit-result.new.self _ c.submit-result.result c.submit-result.ensures.submits

pub returns-in-Submit-clause-says : goal.returns-in-Submit-clause-says
returns-in-Submit-clause-says g c =
    subst (λ (event : Call DeviceStep). SaysResult (server_of g.A.Adapter.device c.args.self.now) (server_of g.A.Adapter.device c.submit-result.new.self) (abstract_call_of event) c.args.out.now.items c.push_reserved.new.self.items) (sym c.in-Submit.is)
    (Submitted c.submit-result.result, c.submit-result.ensures.extends_history, c.push_reserved.ensures.items)

stored_says : (result : Result (Unit {0}) MemFault) → said.Stored result ∷ [] ≡ said_of (store_result result)
stored_says (Ok done) = refl
stored_says (Err fault) = refl

pub returns-in-ClientStore-clause-says : goal.returns-in-ClientStore-clause-says
returns-in-ClientStore-clause-says g c =
    let old = server_of g.A.Adapter.device c.args.self.now in
    let new = server_of g.A.Adapter.device c.client_store-result.new.self in
    subst (λ (event : Call DeviceStep). SaysResult (server_of g.A.Adapter.device c.args.self.now) (server_of g.A.Adapter.device c.client_store-result.new.self) (abstract_call_of event) c.args.out.now.items c.push_reserved-in-ClientStore.new.self.items) (sym c.in-ClientStore.is) (
      store_result c.client_store-result.result,
      subst (λ (bytes : List ℕ). ExtendsHistory old new (StoreAt c.in-ClientStore.client c.in-ClientStore.frame c.in-ClientStore.offset bytes) (store_result c.client_store-result.result)) c.as_slice.ensures.value c.client_store-result.ensures.extends_history,
      c.push_reserved-in-ClientStore.ensures.items ∙ ap (λ (l : List Said). c.args.out.now.items ++ l) (stored_says c.client_store-result.result),
    )

loaded_says : (old new : ServerState) (asked : AbstractCall DeviceStep) (before after : List Said) (result : Result (ArrayVec ℕ) MemFault)
    → IfOk result (λ bytes. ExtendsHistory old new asked (Loaded (Ok bytes.items))) → IfErr result (λ fault. ExtendsHistory old new asked (Loaded (Err fault)))
    → after ≡ before ++ said.Loaded result ∷ [] → SaysResult old new asked before after
loaded_says old new asked before after (Ok bytes) ok err is = (Loaded (Ok bytes.items), ok, is)
loaded_says old new asked before after (Err fault) ok err is = (Loaded (Err fault), err, is)

pub returns-in-ClientLoad-clause-says : goal.returns-in-ClientLoad-clause-says
returns-in-ClientLoad-clause-says g c =
    subst (λ (event : Call DeviceStep). SaysResult (server_of g.A.Adapter.device c.args.self.now) (server_of g.A.Adapter.device c.load_few-result.new.self) (abstract_call_of event) c.args.out.now.items c.push_reserved-in-ClientLoad.new.self.items) (sym c.in-ClientLoad.is)
    (loaded_says (server_of g.A.Adapter.device c.args.self.now) (server_of g.A.Adapter.device c.load_few-result.new.self) _ c.args.out.now.items c.push_reserved-in-ClientLoad.new.self.items
    c.load_few-result.result c.load_few-result.ensures.loaded c.load_few-result.ensures.refused c.push_reserved-in-ClientLoad.ensures.items)

pub returns-in-State-clause-says : goal.returns-in-State-clause-says
returns-in-State-clause-says g c =
    subst (λ (event : Call DeviceStep). SaysResult (server_of g.A.Adapter.device c.args.self.now) (server_of g.A.Adapter.device c.args.self.now) (abstract_call_of event) c.args.out.now.items c.push_reserved-in-State.new.self.items) (sym c.in-State.is)
    (PortStateShown c.state.result, c.state.ensures.extends_history, c.push_reserved-in-State.ensures.items)

pub returns-in-Device-clause-says : goal.returns-in-Device-clause-says
returns-in-Device-clause-says g c =
    subst (λ (event : Call DeviceStep). SaysResult (server_of g.A.Adapter.device c.args.self.now) (server_of g.A.Adapter.device c.device.new.self) (abstract_call_of event) c.args.out.now.items c.push_reserved-in-Device.new.self.items) (sym c.in-Device.is)
    (Stepped c.device.result, c.device.ensures.extends_history, c.push_reserved-in-Device.ensures.items)
