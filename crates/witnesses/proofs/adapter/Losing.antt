-- A disk comes back that has lost what its cache held.
use Rattle.std.proofs.Common.{ℕ, ◌≡◌, ◌⊎◌, ◌<◌, false, List, Some, inl, inr, ⊎_elim, refl, sym, ap, ◌∙◌, subst}
use Rattle.std.specs.Prelude.{option_map}
use Rattle.std.proofs.lemmas.Option.{same_Some}
use Rattle.adapter.specs.Device.{Device, IsValidSector}
use Rattle.adapter.specs.Steps.{Can}
use Rattle.adapter.specs.Steps.DeviceTransition.{Plug}

pub may_be_lost : (d : Device) (port : ℕ) (last lasting told : ℕ → List ℕ) → (d.port port).present ≡ false
    → (d.port port).disk.sectors ≡ Some last → (d.port port).lasting.sectors ≡ Some lasting → ((k : ℕ) → (told k ≡ last k) ⊎ (told k ≡ lasting k))
    → ((k : ℕ) → k < (d.port port).disk.sector_count → IsValidSector (told k)) → Can (Plug port (record (d.port port).disk { sectors = Some told })) d
may_be_lost d port last lasting told gone was lasts each bytes = (
  gone,
  λ comes is k lt. subst (λ (f : ℕ → List ℕ). IsValidSector (f k)) (same_Some told comes is) (bytes k lt),
  λ _. (told, refl),
  λ _. record {
    size = refl;
    holds = λ went comes is_went is_comes k lt.
        let here : told k ≡ comes k = ap (λ (f : ℕ → List ℕ). f k) (same_Some told comes is_comes) in
        let there : last k ≡ went k = ap (λ (f : ℕ → List ℕ). f k) (same_Some last went (sym was ∙ is_went)) in
        ⊎_elim
        (λ (now : told k ≡ last k). inl (sym here ∙ now ∙ there))
        (λ (lost : told k ≡ lasting k). inr (inl (ap (option_map (λ (sectors : ℕ → List ℕ). sectors k)) lasts ∙ ap (λ (l : List ℕ). Some l) (sym lost ∙ here))))
        (each k);
  },
)
