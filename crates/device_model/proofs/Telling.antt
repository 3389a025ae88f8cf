-- What a tape gains tells of the disk as before.
use Rattle.std.proofs.Common.{ℕ, zero, suc, ◌≡◌, [], ◌∷◌, ◌++◌, List, Some, All, refl, sym, ◌∙◌, ap, subst, arith, append-nil, append_assoc}
use Rattle.std.proofs.lemmas.List.Elements.{All-append, All-nil}
use Rattle.std.specs.Prelude.{option_map}
use Rattle.adapter.specs.Access.{device_after_reading}
use Rattle.adapter.specs.AskedSteps.{EndsAndPosts}
use Rattle.adapter.specs.Device.{Device}
use Rattle.adapter.specs.Steps.{done_entry}
use Rattle.adapter.specs.declared.tape.Entry.{Entry}
use Rattle.adapter.specs.declared.tape.Entry.TheVariants as entry
use Rattle.adapter.specs.declared.tape.Move.{Move}
use Rattle.hba_regs.specs.declared.reg.Reg.{Reg}
use Rattle.hba_regs.specs.declared.reg.Reg.TheVariants.{Cap, Ghc, Is, Pi, Vs, Cap2, Bohc, Px}
use Rattle.device_model.specs.Disks.{bay_of, identity, identity_of, page_source_of}
use Rattle.device_model.specs.DiskPages.{HasDiskAndBringsOwnPageIfAny, GainsOwnPages, IsSentLog, IsSentIdentify}
use Rattle.device_model.specs.SentFises.{SendsEnd}
use Rattle.device_model.specs.WholeAdapter.{AllMedia, device_of}
use Rattle.device_model.specs.declared.bay.Bay.{Bay}
use Rattle.device_model.specs.declared.model.Model.{Model}
use Rattle.adapter.specs.declared.command.Operation.{Operation}
use Rattle.device_model.proofs.Posting.{end_rest}
use Rattle.adapter.specs.declared.command.Operation.TheVariants as operation

-- a reading and a write leave the tape
pub noted_tape : (r : Reg) (v : ℕ) (d : Device) → (device_after_reading r v d).tape ≡ d.tape
noted_tape (Px q r) v d = refl
noted_tape Cap v d = refl
noted_tape Ghc v d = refl
noted_tape Is v d = refl
noted_tape Pi v d = refl
noted_tape Vs v d = refl
noted_tape Cap2 v d = refl
noted_tape Bohc v d = refl

all_one : {X : Type 0} (P : X → Type 0) (x : X) → P x → All P (x ∷ [])
all_one P x here zero d small = here
all_one P x here (suc k) d small = absurd (omega (arith, small))

module _ {S : Type 0} (size : S → ℕ) where
  -- an entry is no page, or one of the disk that was in
  abbrev pub Tells : Model S → Entry → Type 0
  Tells old e = (m : Move) → e ≡ entry.Move m → HasDiskAndBringsOwnPageIfAny (identity_of size old m.port.0) (page_source_of old m.port.0) m

  pub gains_none : (old new : Model S) → new.hardware.tape.items ≡ old.hardware.tape.items → GainsOwnPages size old new
  gains_none old new same = record {
    new_entries = [];
    tape_grows = same ∙ sym (append-nil old.hardware.tape.items);
    pages_are_own = All-nil (Tells old);
  }

  -- one more entry, which is no page or the disk's
  pub gains_one : (old new : Model S) (e : Entry) → new.hardware.tape.items ≡ old.hardware.tape.items ++ e ∷ [] →
      ((m : Move) → e ≡ entry.Move m → HasDiskAndBringsOwnPageIfAny (identity_of size old m.port.0) (page_source_of old m.port.0) m) → GainsOwnPages size old new
  gains_one old new e more here = record {
    new_entries = e ∷ [];
    tape_grows = more;
    pages_are_own = all_one (Tells old) e here;
  }

  pub gains_on : (a b c : Model S) → ((q : ℕ) → page_source_of b q ≡ page_source_of a q) → ((q : ℕ) → identity_of size b q ≡ identity_of size a q) → GainsOwnPages size a b →
      GainsOwnPages size b c → GainsOwnPages size a c
  gains_on a b c says disks first then = record {
    new_entries = first.new_entries ++ then.new_entries;
    tape_grows = then.tape_grows ∙ (ap (λ (t : List Entry). t ++ then.new_entries) first.tape_grows ∙ append_assoc a.hardware.tape.items first.new_entries then.new_entries);
    pages_are_own = All-append (Tells a) first.new_entries then.new_entries first.pages_are_own
        (λ k d small m e.
        subst (λ x. HasDiskAndBringsOwnPageIfAny x (page_source_of a m.port.0) m) (disks m.port.0)
        (subst (λ x. HasDiskAndBringsOwnPageIfAny (identity_of size b m.port.0) x m) (says m.port.0) (then.pages_are_own k d small m e)));
  }

  -- a move was noted, of a port that has these disks
  pub gains_moved : (old new : Model S) (bay : Bay S) (k : Operation) (m : Move) → bay_of old m.port.0 ≡ Some bay →
      new.hardware.tape.items ≡ old.hardware.tape.items ++ entry.Move m ∷ [] → m.operation ≡ k →
      (k ≡ operation.Identify → IsSentIdentify (identity size bay.disk) bay.page_source m.bytes.value) → (k ≡ operation.ReadLog → IsSentLog bay.page_source m.bytes.value) →
      GainsOwnPages size old new
  gains_moved old new bay k m was more named page log =
      gains_one old new (entry.Move m) more
      (λ x e.
      let same : m ≡ x = cc in
      let its : HasDiskAndBringsOwnPageIfAny (Some (identity size bay.disk)) (Some bay.page_source) m =
      record { identify_page_is_sent = λ is. page (sym named ∙ is); log_page_is_sent = λ is. log (sym named ∙ is) } in
      let here : HasDiskAndBringsOwnPageIfAny (identity_of size old m.port.0) (page_source_of old m.port.0) m =
      subst (λ b. HasDiskAndBringsOwnPageIfAny (option_map (λ (y : Bay S). identity size y.disk) b) (option_map (λ (y : Bay S). y.page_source) b) m) (sym was) its in
      subst (λ (y : Move). HasDiskAndBringsOwnPageIfAny (identity_of size old y.port.0) (page_source_of old y.port.0) y) same here)

  -- a command ended
  pub gains_done : (o later : AllMedia) (port slot : ℕ) (old new : Model S) → EndsAndPosts (SendsEnd slot) port slot (device_of old.hardware o) (device_of new.hardware later) →
      GainsOwnPages size old new
  gains_done o later port slot old new e =
      let rest = end_rest port slot e.done.cause_bit e.done.fetched_command.meaning.operation e.after_end (device_of new.hardware later) e.posts in
      gains_one old new (done_entry port slot e.done.fetched_command.meaning.operation) (ap (λ (x : Device). x.tape) rest ∙ ap (λ (x : Device). x.tape) e.done.effect)
      (λ x is. absurd (cc is))
