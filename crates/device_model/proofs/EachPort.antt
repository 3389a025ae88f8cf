-- Ports one by one, while each is changed by its number.
use Rattle.std.proofs.Common.{ℕ, ◌≡◌, ◌≢◌, ◌<◌, ◌≤◌, ◌+◌, List, length, sym, ◌∙◌, ap, inl, inr, refl, arith, below_more, get_or-set_same, get_or-set_other}
use Rattle.std.proofs.lemmas.List.{length-set, get_or_past}
use Rattle.std.specs.Prelude.{slice_set, slice_index_or}
use Rattle.std.proofs.lemmas.Bool.{cases_lt}
use Rattle.adapter.specs.Device.{DevicePort}
use Rattle.device_model.specs.PortView.{Media, port_of, reset_port_without_disk}
use Rattle.device_model.specs.declared.port.PortModel.{PortModel}

-- what becomes of a port, by its number
module _ (f : ℕ → DevicePort → DevicePort) where
  abbrev pub IsDoneAt : (old new : List PortModel) (port : ℕ) → Type 0
  IsDoneAt old new port = (m : Media) → port_of (slice_index_or new port reset_port_without_disk) m ≡ f port (port_of (slice_index_or old port reset_port_without_disk) m)

  -- the ports below are done, and the others are as they were
  pub record IsDoneUpTo (old new : List PortModel) (port : ℕ) : Type 0 where
    pub done : (k : ℕ) → k < port → IsDoneAt old new k
    pub same : (k : ℕ) → port ≤ k → slice_index_or new k reset_port_without_disk ≡ slice_index_or old k reset_port_without_disk
    pub size : length new ≡ length old

  pub none_done : (ports : List PortModel) → IsDoneUpTo ports ports 0
  none_done ports = record { done = λ k lt. absurd (omega arith); same = λ k le. refl; size = refl }

  -- one more, which stays as it is
  pub skip_port : (old new : List PortModel) (port : ℕ) → ((p : DevicePort) → f port p ≡ p) → IsDoneUpTo old new port → IsDoneUpTo old new (port + 1)
  skip_port old new port stays upto = record {
    done = below_more (IsDoneAt old new) port upto.done
        (λ m. ap (λ (p : PortModel). port_of p m) (upto.same port (omega arith)) ∙ sym (stays (port_of (slice_index_or old port reset_port_without_disk) m)));
    same = λ k le. upto.same k (omega arith);
    size = upto.size;
  }

  -- one more, which is changed
  pub change_port : (old new : List PortModel) (port : ℕ) (p : PortModel) → port < length new →
      ((m : Media) → port_of p m ≡ f port (port_of (slice_index_or new port reset_port_without_disk) m)) → IsDoneUpTo old new port →
      IsDoneUpTo old (slice_set new port p) (port + 1)
  change_port old new port p small is upto =
      let others : (k : ℕ) → k ≢ port → slice_index_or (slice_set new port p) k reset_port_without_disk ≡ slice_index_or new k reset_port_without_disk =
      λ (k : ℕ) (ne : k ≢ port). get_or-set_other new port k p reset_port_without_disk ne in
      record {
        done = below_more (IsDoneAt old (slice_set new port p)) port
            (λ k lt m. ap (λ (q : PortModel). port_of q m) (others k (omega arith)) ∙ upto.done k lt m)
            (λ m.
            ap (λ (q : PortModel). port_of q m) (get_or-set_same new port p reset_port_without_disk small)
            ∙ (is m ∙ ap (λ (q : PortModel). f port (port_of q m)) (upto.same port (omega arith))));
        same = λ k le. others k (omega arith) ∙ upto.same k (omega arith);
        size = simp length-set (upto.size);
      }

  -- each port, also those that aren't there, if they stay as they are
  pub all_done : (old new : List PortModel) (port : ℕ) → length old ≤ port → ((k : ℕ) (m : Media) → f k (port_of reset_port_without_disk m) ≡ port_of reset_port_without_disk m) →
      IsDoneUpTo old new port → (k : ℕ) → IsDoneAt old new k
  all_done old new port past stays upto k =
      elim (cases_lt k port) [
        | inl lt ↦ upto.done k lt
        | inr le ↦ λ m.
            let s = upto.size in
            ap (λ (q : PortModel). port_of q m) (get_or_past new k reset_port_without_disk (omega arith))
            ∙ (sym (stays k m) ∙ ap (λ (q : PortModel). f k (port_of q m)) (sym (get_or_past old k reset_port_without_disk (omega arith))))
      ]
