-- What holds of a server, by whether its last reset got stuck.
use Rattle.std.proofs.Common.{Bool, true, false, ◌≡◌, ◌∙◌, ap, refl, subst, sym}
use Rattle.adapter.specs.Device.{Device}
use Rattle.server_history.specs.ServerState.{ServerState, InvariantWithNoneDue}
use Rattle.server_history.specs.StuckServer.{StuckInvariant}
use Rattle.server_history.specs.Histories.{InvariantBetweenCalls}
use Rattle.block_server.specs.ServerView.{ServerView, server_of}

-- the field says what the view says
pub still : {A : Type 0} {s v : ServerView A} (b : Bool) → s ≡ v → v.stuck ≡ b → s.stuck ≡ b
still {A} b is stuck = ap (λ (x : ServerView A). x.stuck) is ∙ stuck

-- a server whose adapter is on is settled
pub is_on : {A : Type 0} (device : A → Device) (s v : ServerView A) → s ≡ v → v.stuck ≡ false → InvariantBetweenCalls s.stuck (server_of device s) → InvariantWithNoneDue (server_of device s)
is_on device s v is on holds = subst (λ (b : Bool). InvariantBetweenCalls b (server_of device s)) (still false is on) holds

-- and what is settled holds of it
pub of_on : {A : Type 0} {s v : ServerView A} {t : ServerState} → s ≡ v → v.stuck ≡ false → InvariantWithNoneDue t → InvariantBetweenCalls s.stuck t
of_on {t = t} is on settled = subst (λ (b : Bool). InvariantBetweenCalls b t) (sym (still false is on)) settled

-- either it is settled, or it is stalled
pub holds_either : {X : Type 0} {t : ServerState} (b : Bool) → InvariantBetweenCalls b t → (b ≡ false → InvariantWithNoneDue t → X) → (b ≡ true → StuckInvariant t → X) → X
holds_either false holds on off = on refl holds
holds_either true holds on off = off refl holds

-- the same, of the view; and what is so of a server whose adapter is on, or isn't
pub now_on : {A : Type 0} (device : A → Device) {s v : ServerView A} → s ≡ v → s.stuck ≡ false → InvariantBetweenCalls s.stuck (server_of device s) → InvariantWithNoneDue (server_of device v)
now_on {A} device {s} is on holds = subst (λ (x : ServerView A). InvariantWithNoneDue (server_of device x)) is (subst (λ (b : Bool). InvariantBetweenCalls b (server_of device s)) on holds)

pub now_off : {A : Type 0} (device : A → Device) {s v : ServerView A} → s ≡ v → s.stuck ≡ true → InvariantBetweenCalls s.stuck (server_of device s) → StuckInvariant (server_of device v)
now_off {A} device {s} is off holds = subst (λ (x : ServerView A). StuckInvariant (server_of device x)) is (subst (λ (b : Bool). InvariantBetweenCalls b (server_of device s)) off holds)

pub by_on : {A : Type 0} (P : Bool → Type 0) {s v : ServerView A} {b : Bool} → s ≡ v → s.stuck ≡ b → P b → P v.stuck
by_on {A} P is on p = subst P (sym on ∙ ap (λ (x : ServerView A). x.stuck) is) p
