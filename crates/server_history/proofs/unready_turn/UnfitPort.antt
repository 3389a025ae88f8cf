-- A port in which a disk was found that isn't served: it is served, it isn't dead, and it isn't ready.
use Rattle.std.proofs.Common.{ℕ, true, ◌≡◌, ◌≢◌, ◌⊎◌, refl, sym, ◌∙◌, subst, inl, inr}
use Rattle.ata_types.specs.declared.PortState.{PortState}
use Rattle.ata_types.specs.declared.PortState.TheVariants.{Absent, Dead, Foreign, Ready as ReadyState, Unfit}
use Rattle.host_boot.specs.TakeOver.{FoundUnusableDevice}
use Rattle.host_boot.specs.declared.ProbeResult.{ProbeResult}
use Rattle.host_boot.specs.declared.ProbeResult.TheVariants.{Ready, Unready, Unserved}
use Rattle.server_history.specs.ServerState.{is_served, state_of}

pub found_bad : (state : PortState) → (state ≡ Foreign) ⊎ ((cause : ℕ) × (state ≡ Unfit cause)) → FoundUnusableDevice state
found_bad state (inl foreign) = subst FoundUnusableDevice (sym foreign) tt
found_bad state (inr (cause, unfit)) = subst FoundUnusableDevice (sym unfit) tt

-- a port with a disk that isn't served is served, and isn't dead
pub bad_tends : (found : ProbeResult) → (state_of found ≡ Foreign) ⊎ ((cause : ℕ) × (state_of found ≡ Unfit cause)) → (is_served found ≡ true) × (state_of found ≢ Dead)
bad_tends Unserved (inl is) = let z : Absent ≡ Foreign = is in absurd cc
bad_tends Unserved (inr (cause, is)) = let z : Absent ≡ Unfit cause = is in absurd cc
bad_tends (Ready info) (inl is) = let z : ReadyState ≡ Foreign = is in absurd cc
bad_tends (Ready info) (inr (cause, is)) = let z : ReadyState ≡ Unfit cause = is in absurd cc
bad_tends (Unready state) (inl is) = (refl, λ dead. let z : Foreign ≡ Dead = sym is ∙ dead in cc)
bad_tends (Unready state) (inr (cause, is)) = (refl, λ dead. let z : Unfit cause ≡ Dead = sym is ∙ dead in cc)

-- in one that is ready no disk was found that isn't served
pub ready_fits : (state : PortState) → state ≡ ReadyState → (state ≡ Foreign) ⊎ ((cause : ℕ) × (state ≡ Unfit cause)) → ⊥
ready_fits state ready (inl foreign) = let z : Foreign ≡ ReadyState = sym foreign ∙ ready in absurd cc
ready_fits state ready (inr (cause, unfit)) = let z : Unfit cause ≡ ReadyState = sym unfit ∙ ready in absurd cc
