-- What the calls that were printed answered.
use Rattle.std.proofs.Common.{ℕ, Bool, true, ◌≡◌, ◌&&◌, List, [], ◌∷◌, ◌++◌, Option, Some, None, refl, ap, ◌∙◌}
use Rattle.std.specs.Prelude.{IsSome, is_some}
use Rattle.ata_types.specs.declared.call.Call.{Call}
use Rattle.block_machine.specs.Events.{AbstractCallResult}
use Rattle.adapter.specs.Device.{Device}
use Rattle.adapter.specs.declared.access.DeviceStep.{DeviceStep}
use Rattle.configuration.specs.Document.{TextReadsAsValidConfig}
use Rattle.configuration.specs.declared.Config.{Config}
use Rattle.device_model.specs.ModelState.{device_at, is_starved}
use Rattle.device_model.specs.declared.model.Model.{Model}
use Rattle.block_server.specs.Promise.{Simulates}
use Rattle.block_server.specs.ServerView.{ServerView}
use Rattle.play.specs.PlayedScript.{CallsAnswerAndPrint, prints_nothing, prints_call, IsNewServerOfNewModel, PlaysFirstLines, RanFirstLines}

-- no call keeps the promise, nor do calls after others that keep it break it
pub record GoOn {A : Type 0} (device : A → Device) : Type 0 where
  pub none : (s : ServerView A) → Simulates device s s [] []
  pub more : (old mid new : ServerView A) (calls further : List (Call DeviceStep)) (said more : List AbstractCallResult) → Simulates device old mid calls said
      → Simulates device mid new further more → Simulates device old new (calls ++ further) (said ++ more)

pub all_keep : {A : Type 0} (device : A → Device) (starved : A → Bool) (trace : Bool) → GoOn device → (old new : ServerView A) (shown : ℕ) (calls : List (Call DeviceStep))
    (said : List AbstractCallResult) (text last : List ℕ) → CallsAnswerAndPrint device starved trace old new shown calls said text last → Simulates device old new calls said
all_keep device starved trace laws old new shown calls said text last prints_nothing = laws.none old
all_keep device starved trace laws old new shown all said text last (prints_call {mid = mid} {shown = before} {calls = calls} {asked = asked} {said = saying} {one = one} {before = printed} {last = latest} prints fed keeps) =
    laws.more old mid new calls (asked ∷ []) saying (one ∷ []) (all_keep device starved trace laws old mid before calls saying printed latest prints) keeps

-- where both tell, the test of both is true
pub both_tell : {T : Type 0} (one other : Option T) → IsSome one → IsSome other → (is_some one && is_some other) ≡ true
both_tell None other a b = a
both_tell (Some x) None a b = b
both_tell (Some x) (Some y) a b = refl

-- What a new server ran of a script was played.
abbrev pub played_of : {S : Type 0} (size : S → ℕ) (told : S → Option (ℕ → List ℕ)) (config script : List ℕ) (image blank : S) (trace : Bool)
    (old new : Option (List ℕ)) (values : Config) → TextReadsAsValidConfig config values → (server last : ServerView (Model S))
    → IsNewServerOfNewModel size told values image blank server → RanFirstLines (device_at size told) is_starved trace script server last old new
    → GoOn (device_at size told) → (model : Model S) → model ≡ last.adapter → PlaysFirstLines size told config script image blank trace old new model
played_of size told config script image blank trace old new values read server last started ran laws model left =
    let begun = started.is_initial_server.starts_history in
    record {
      values = values;
      config_is_read = read;
      server = server;
      last_server = last;
      ran = ran;
      answers = record {
        is_server_of_model = started;
        initial_state = begun.0;
        history_begins = begun.1;
        told_disks_are_told = λ image_tells blank_tells.
            ap (λ (d : Device). d.disks_tell_sectors) begun.1.state_is_at_history_end.device_is ∙ started.is_initial_server.takes_over.adapter_is_kept.disks_tell_sectors ∙ started.is_model.is_new_model.disks_tell_sectors_is ∙ ap (λ (b : Bool). b && true) (both_tell _ _ image_tells blank_tells);
        keeps_promise = all_keep (device_at size told) is_starved trace laws server last ran.shown_entry_count ran.played ran.call_results ran.text ran.last_text ran.prints begun.0 [] begun.1;
      };
      model_is_adapter_at_end = left;
    }
