-- Stretches of the tape that have no entry of a kind.
use Rattle.std.proofs.Common.{◌≡◌, ◌++◌, List, [], ◌∷◌, get_or, sym, ◌∙◌, ap, subst, append_assoc, append-nil}
use Rattle.std.specs.Prelude.{All}
use Rattle.std.proofs.lemmas.List.{append_cancel_left}
use Rattle.std.proofs.lemmas.List.Elements.{All-nil, All-cons, All-head, All-tail, All-append}
use Rattle.adapter.specs.Device.{Device}
use Rattle.adapter.specs.declared.tape.Entry.{Entry}

abbrev pub NoneOf : (Entry → Type 0) → List Entry → Type 0
NoneOf IsKind entries = All (λ e. IsKind e → ⊥) entries

abbrev pub GainsNone : (Entry → Type 0) → Device → Device → Type 0
GainsNone IsKind old new = (gained : List Entry) × (new.tape ≡ old.tape ++ gained) × NoneOf IsKind gained

-- what two parts gained is what the whole did
pub gained_parts : (old mid new early late all : List Entry) → mid ≡ old ++ early → new ≡ mid ++ late → new ≡ old ++ all → all ≡ early ++ late
gained_parts old mid new early late all a b c =
    append_cancel_left old all (early ++ late) (sym c ∙ b ∙ ap (λ (t : List Entry). t ++ late) a ∙ append_assoc old early late)

module _ (IsKind : Entry → Type 0) where
  none_left : (early late : List Entry) → NoneOf IsKind (early ++ late) → NoneOf IsKind early
  none_left [] late h = All-nil (λ e. IsKind e → ⊥)
  none_left (e ∷ early) late h =
      All-cons (λ e. IsKind e → ⊥) e early (All-head (λ e. IsKind e → ⊥) e (early ++ late) h)
      (none_left early late (All-tail (λ e. IsKind e → ⊥) e (early ++ late) h))

  none_right : (early late : List Entry) → NoneOf IsKind (early ++ late) → NoneOf IsKind late
  none_right [] late h = h
  none_right (e ∷ early) late h = none_right early late (All-tail (λ e. IsKind e → ⊥) e (early ++ late) h)

  pub gains_nothing : (d : Device) → GainsNone IsKind d d
  gains_nothing d = ([], sym (append-nil d.tape), All-nil (λ e. IsKind e → ⊥))

  pub gains_more : (old mid new : Device) → GainsNone IsKind old mid → GainsNone IsKind mid new → GainsNone IsKind old new
  gains_more old mid new a b = (
    a.0 ++ b.0,
    b.1 ∙ (ap (λ (t : List Entry). t ++ b.0) a.1 ∙ append_assoc old.tape a.0 b.0),
    All-append (λ e. IsKind e → ⊥) a.0 b.0 a.2 b.2,
  )

  pub gains_parts : (old mid new : Device) (early late : List Entry) → mid.tape ≡ old.tape ++ early → new.tape ≡ mid.tape ++ late → GainsNone IsKind old new →
      GainsNone IsKind old mid × GainsNone IsKind mid new
  gains_parts old mid new early late a b h =
      let none : NoneOf IsKind (early ++ late) = subst (NoneOf IsKind) (gained_parts old.tape mid.tape new.tape early late h.0 a b h.1) h.2 in
      ((early, a, none_left early late none), (late, b, none_right early late none))

  -- an entry that the tape gained is none
  pub gained_none : (tape : List Entry) (e : Entry) (gained : List Entry) → tape ++ e ∷ [] ≡ tape ++ gained → NoneOf IsKind gained → IsKind e → ⊥
  gained_none tape e gained is none =
      All-head (λ e. IsKind e → ⊥) e [] (subst (NoneOf IsKind) (sym (append_cancel_left tape (e ∷ []) gained is)) none)

-- what is no entry of one kind is none of a narrower one
pub none_narrower : (IsKind IsNarrower : Entry → Type 0) → ((e : Entry) → IsNarrower e → IsKind e) → (entries : List Entry) → NoneOf IsKind entries → NoneOf IsNarrower entries
none_narrower IsKind IsNarrower narrower entries none k d small x = none k d small (narrower (get_or entries k d) x)
