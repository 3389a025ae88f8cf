-- Where accesses stand in a call: what resets the link, and when ST was set.
use Rattle.std.proofs.Common.{ℕ, ◌≡◌, ◌≢◌, ◌⊎◌, ◌≤◌, ◌++◌, Bool, true, false, List, [], ◌∷◌, length, refl, sym, ap, ◌∙◌, subst, inl, inr, ⊎_elim, append_assoc, length-append, arith}
use Rattle.std.specs.List.{All}
use Rattle.std.proofs.lemmas.Bool.{cases_Bool, cases_eq, cond-true, false≢true}
use Rattle.std.proofs.lemmas.List.Elements.{All-append, All-cons, All-contains, All-head, All-nil, All-tail, Contains-append_right}
use Rattle.ata_types.specs.declared.Port.{Port}
use Rattle.hba_regs.specs.Bits.{bit}
use Rattle.hba_regs.specs.declared.reg.Reg.TheVariants.{Ghc, Px}
use Rattle.hba_regs.specs.declared.reg.PortReg.TheVariants.{Cmd, Sctl}
use Rattle.adapter.specs.Access.{Access, Does, DoesAll, Writes, port_after_st_write}
use Rattle.adapter.specs.Access.Access.{Loading, Reading, Storing, Writing}
use Rattle.adapter.specs.Device.{Device, DevicePort}
use Rattle.adapter.specs.Rules.{IsOn}
use Rattle.adapter.specs.declared.tape.Entry.{Entry}
use Rattle.refinement.specs.Relation.{port_at}
use Rattle.refinement.specs.PreservedParts.{DoesNotWrite}
use Rattle.port_control.specs.Engines.{Stops}
use Rattle.driver_history.specs.Laws.{AccessLaws}
use Rattle.driver_history.specs.AccessTrace.{LastSctlWritesResetLink}

-- ---- lists

-- where an element stands in two lists that are joined: in the first, or in the second
pub parts_at : {X : Type 0} (xs ys before later : List X) (x : X) → xs ++ ys ≡ before ++ x ∷ later
    → ((rest : List X) × (xs ≡ before ++ x ∷ rest) × (later ≡ rest ++ ys)) ⊎ ((ahead : List X) × (before ≡ xs ++ ahead) × (ys ≡ ahead ++ x ∷ later))
parts_at [] ys before later x is = inr (before, refl, is)
parts_at (y ∷ xs) ys [] later x is = inl (xs, (let e : y ≡ x = cc in ap (λ z. z ∷ xs) e), (let e : xs ++ ys ≡ later = cc in sym e))
parts_at (y ∷ xs) ys (b ∷ before) later x is =
    let head : y ≡ b = cc in
    let tail : xs ++ ys ≡ before ++ x ∷ later = cc in
    ⊎_elim
    (λ (i : (rest : List _) × (xs ≡ before ++ x ∷ rest) × (later ≡ rest ++ ys)). inl (i.0, ap (λ z. z ∷ xs) head ∙ ap (λ (zs : List _). b ∷ zs) i.1, i.2))
    (λ (o : (ahead : List _) × (before ≡ xs ++ ahead) × (ys ≡ ahead ++ x ∷ later)). inr (o.0, ap (λ z. z ∷ before) (sym head) ∙ ap (λ (zs : List _). y ∷ zs) o.1, o.2))
    (parts_at xs ys before later x tail)

-- ---- resets of the link

module _ (port : Port) where
  abbrev Spares : Access → Type 0
  Spares access = DoesNotWrite (Px port Sctl) access

  -- no write of PxSCTL is among accesses that spare it
  spared : (xs before rest : List Access) (v : ℕ) → All Spares xs → xs ≡ before ++ Writing (Px port Sctl) v ∷ rest → ⊥
  spared xs before rest v all is =
      All-contains Spares (before ++ Writing (Px port Sctl) v ∷ rest) (Writing (Px port Sctl) v) (subst (All Spares) is all)
      (Contains-append_right before (Writing (Px port Sctl) v ∷ rest) (Writing (Px port Sctl) v) (0, omega arith, refl)) refl

  pub reset_after : (xs ys : List Access) → All Spares xs → LastSctlWritesResetLink port (xs ++ ys) → LastSctlWritesResetLink port ys
  reset_after xs ys all r = ⊎_elim
      (λ (i : (rest : List Access) × (xs ≡ r.before ++ Writing (Px port Sctl) r.comreset_value ∷ rest) × (r.between ++ Writing (Px port Sctl) r.end_of_comreset_value ∷ r.later ≡ rest ++ ys)).
      absurd (spared xs r.before i.0 r.comreset_value all i.1))
      (λ (o : (ahead : List Access) × (r.before ≡ xs ++ ahead) × (ys ≡ ahead ++ Writing (Px port Sctl) r.comreset_value ∷ (r.between ++ Writing (Px port Sctl) r.end_of_comreset_value ∷ r.later))).
      record { before = o.0; between = r.between; later = r.later; comreset_value = r.comreset_value; end_of_comreset_value = r.end_of_comreset_value; accesses_are_split = o.2; sends_comreset = r.sends_comreset; ends_comreset = r.ends_comreset; sctl_is_unwritten_between = r.sctl_is_unwritten_between; sctl_is_unwritten_later = r.sctl_is_unwritten_later })
      (parts_at xs ys r.before (r.between ++ Writing (Px port Sctl) r.end_of_comreset_value ∷ r.later) (Writing (Px port Sctl) r.comreset_value) r.accesses_are_split)

  front : (xs ys : List Access) → All Spares (xs ++ ys) → All Spares xs
  front [] ys all = All-nil Spares
  front (x ∷ xs) ys all = All-cons Spares x xs (All-head Spares x (xs ++ ys) all) (front xs ys (All-tail Spares x (xs ++ ys) all))

  pub reset_before : (ys zs : List Access) → All Spares zs → LastSctlWritesResetLink port (ys ++ zs) → LastSctlWritesResetLink port ys
  reset_before ys zs all r = ⊎_elim
      (λ (i : (rest : List Access) × (ys ≡ r.before ++ Writing (Px port Sctl) r.comreset_value ∷ rest) × (r.between ++ Writing (Px port Sctl) r.end_of_comreset_value ∷ r.later ≡ rest ++ zs)).
      ⊎_elim
      (λ (j : (last : List Access) × (i.0 ≡ r.between ++ Writing (Px port Sctl) r.end_of_comreset_value ∷ last) × (r.later ≡ last ++ zs)).
      record {
        before = r.before;
        between = r.between;
        later = j.0;
        comreset_value = r.comreset_value;
        end_of_comreset_value = r.end_of_comreset_value;
        accesses_are_split = i.1 ∙ ap (λ (list : List Access). r.before ++ Writing (Px port Sctl) r.comreset_value ∷ list) j.1;
        sends_comreset = r.sends_comreset;
        ends_comreset = r.ends_comreset;
        sctl_is_unwritten_between = r.sctl_is_unwritten_between;
        sctl_is_unwritten_later = front j.0 zs (subst (All Spares) j.2 r.sctl_is_unwritten_later);
      })
      (λ (o : (ahead : List Access) × (r.between ≡ i.0 ++ ahead) × (zs ≡ ahead ++ Writing (Px port Sctl) r.end_of_comreset_value ∷ r.later)). absurd (spared zs o.0 r.later r.end_of_comreset_value all o.2))
      (parts_at i.0 zs r.between r.later (Writing (Px port Sctl) r.end_of_comreset_value) (sym i.2)))
      (λ (o : (ahead : List Access) × (r.before ≡ ys ++ ahead) × (zs ≡ ahead ++ Writing (Px port Sctl) r.comreset_value ∷ (r.between ++ Writing (Px port Sctl) r.end_of_comreset_value ∷ r.later))).
      absurd (spared zs o.0 (r.between ++ Writing (Px port Sctl) r.end_of_comreset_value ∷ r.later) r.comreset_value all o.2))
      (parts_at ys zs r.before (r.between ++ Writing (Px port Sctl) r.end_of_comreset_value ∷ r.later) (Writing (Px port Sctl) r.comreset_value) r.accesses_are_split)

  pub reset_within : (xs ys zs : List Access) → All Spares zs → LastSctlWritesResetLink port ys → LastSctlWritesResetLink port (xs ++ (ys ++ zs))
  reset_within xs ys zs all r = record {
    before = xs ++ r.before;
    between = r.between;
    later = r.later ++ zs;
    comreset_value = r.comreset_value;
    end_of_comreset_value = r.end_of_comreset_value;
    accesses_are_split = ap (λ (list : List Access). xs ++ (list ++ zs)) r.accesses_are_split
        ∙ ap (λ (list : List Access). xs ++ list) (append_assoc r.before (Writing (Px port Sctl) r.comreset_value ∷ (r.between ++ Writing (Px port Sctl) r.end_of_comreset_value ∷ r.later)) zs)
        ∙ ap (λ (list : List Access). xs ++ (r.before ++ Writing (Px port Sctl) r.comreset_value ∷ list)) (append_assoc r.between (Writing (Px port Sctl) r.end_of_comreset_value ∷ r.later) zs)
        ∙ sym (append_assoc xs r.before (Writing (Px port Sctl) r.comreset_value ∷ (r.between ++ Writing (Px port Sctl) r.end_of_comreset_value ∷ (r.later ++ zs))));
    sends_comreset = r.sends_comreset;
    ends_comreset = r.ends_comreset;
    sctl_is_unwritten_between = r.sctl_is_unwritten_between;
    sctl_is_unwritten_later = All-append Spares r.later zs r.sctl_is_unwritten_later all;
  }

module _ (laws : AccessLaws) (port : Port) where
  -- ---- when ST was set

  -- ST is zero, or was set when the tape was so long
  abbrev SetSince : ℕ → DevicePort → Type 0
  SetSince least p = (p.st ≡ false) ⊎ (least ≤ p.notes.st_set_at)

  command_or_spares : (access : Access) → DoesNotWrite (Px port Cmd) access ⊎ ((v : ℕ) × (access ≡ Writing (Px port Cmd) v))
  command_or_spares (Writing (Px at Cmd) v) = ⊎_elim
      (λ (same : at.0 ≡ port.0). inr (v, ap (λ (n : ℕ). Writing (Px (port_at n) Cmd) v) same))
      (λ (apart : at.0 ≢ port.0). inl (λ q. let z : Px at Cmd ≡ Px port Cmd = q in let e : at ≡ port = cc in apart (ap (λ (p : Port). p.0) e)))
      (cases_eq at.0 port.0)
  command_or_spares (Writing (Px at r) v) = inl (λ q. absurd (let z : Px at r ≡ Px port Cmd = q in cc))
  command_or_spares (Writing r v) = inl (λ q. absurd (let z : r ≡ Px port Cmd = q in cc))
  command_or_spares (Reading r v) = inl tt
  command_or_spares (Loading at bytes) = inl tt
  command_or_spares (Storing at bytes) = inl tt

  -- where ST is one, and is written so, when it was set stays
  stays_set : (v : ℕ) (old new : Device) → old.hr ≡ false → (old.port port.0).st ≡ true → bit v 0 ≡ true → Writes (Px port Cmd) v old new → (new.port port.0).notes.st_set_at ≡ (old.port port.0).notes.st_set_at
  stays_set v old new on runs set x =
      let put = laws.port_register_written port Cmd v old new x on in
      let k = laws.steps_keep_adapter_and_notes old put.at_access put.steps in
      ap (λ (p : DevicePort). p.notes.st_set_at) put.port_is_written ∙ ap (λ (p : DevicePort). p.notes.st_set_at) (left (bit v 0) (length put.at_access.tape) (put.at_access.port port.0) set (((k.keeps_outside_reset on).controls_are_kept port.0).st_is_kept ∙ runs)) ∙ ap (λ n. n.st_set_at) (k.notes_are_kept port.0)
    where
      left : (b : Bool) (tape : ℕ) (p : DevicePort) → b ≡ true → p.st ≡ true → port_after_st_write b tape p ≡ p
      left b tape p one other = cond-true b _ _ one ∙ cond-true p.st p _ other

  since_access : (least : ℕ) (access : Access) (old new : Device) → old.hr ≡ false → least ≤ length old.tape → Does access old new → SetSince least (old.port port.0) → SetSince least (new.port port.0)
  since_access least access old new on long does was = ⊎_elim
      (λ (spares : DoesNotWrite (Px port Cmd) access).
      let c = (laws.access_leaves_controls port access old new on does).command spares in
      ⊎_elim (λ off. inl (c.0 ∙ off)) (λ (since : least ≤ (old.port port.0).notes.st_set_at). inr (subst (λ (n : ℕ). least ≤ n) (sym c.2) since)) was)
      (λ (w : (v : ℕ) × (access ≡ Writing (Px port Cmd) v)). written w.0 (subst (λ (a : Access). Does a old new) w.1 does))
      (command_or_spares access)
    where
      written : (v : ℕ) → Writes (Px port Cmd) v old new → SetSince least (new.port port.0)
      written v x = ⊎_elim
          (λ (set : bit v 0 ≡ true). ⊎_elim
          (λ (off : (old.port port.0).st ≡ false).
          let grown = laws.tape.access_grows (Writing (Px port Cmd) v) old new x in
          let whole = ap (λ (tape : List Entry). length tape) grown.1 ∙ length-append old.tape grown.0 in
          let at = (laws.setting_st_is_noted port v old new off set x).1 in
          inr (omega (arith, long, whole, at)))
          (λ (since : least ≤ (old.port port.0).notes.st_set_at). ⊎_elim
          (λ (runs : (old.port port.0).st ≡ true). inr (subst (λ (n : ℕ). least ≤ n) (sym (stays_set v old new on runs set x)) since))
          (λ (off : (old.port port.0).st ≡ false).
          let grown = laws.tape.access_grows (Writing (Px port Cmd) v) old new x in
          let whole = ap (λ (tape : List Entry). length tape) grown.1 ∙ length-append old.tape grown.0 in
          let at = (laws.setting_st_is_noted port v old new off set x).1 in
          inr (omega (arith, long, whole, at)))
          (cases_Bool (old.port port.0).st))
          was)
          (λ (clear : bit v 0 ≡ false). inl ((laws.cmd_write_sets_st_and_fre port v old new x).0 ∙ clear))
          (cases_Bool (bit v 0))

  on_more : (access : Access) (accesses : List Access) (old mid : Device) → IsOn old → All (DoesNotWrite Ghc) (access ∷ accesses) → Does access old mid → IsOn mid
  on_more access accesses old mid on spares does =
      laws.accesses_keep_adapter_on (access ∷ []) old mid on (All-cons (DoesNotWrite Ghc) access [] (All-head (DoesNotWrite Ghc) access accesses spares) (All-nil (DoesNotWrite Ghc))) (mid, does, refl)

  longer : (least : ℕ) (access : Access) (old mid : Device) → least ≤ length old.tape → Does access old mid → least ≤ length mid.tape
  longer least access old mid long does =
      let grown = laws.tape.access_grows access old mid does in
      let whole = ap (λ (tape : List Entry). length tape) grown.1 ∙ length-append old.tape grown.0 in
      omega (arith, long, whole)

  since_all : (least : ℕ) (accesses : List Access) (old new : Device) → IsOn old → All (DoesNotWrite Ghc) accesses → least ≤ length old.tape → DoesAll accesses old new → SetSince least (old.port port.0) → SetSince least (new.port port.0)
  since_all least [] old new on spares long same was = subst (λ (d : Device). SetSince least (d.port port.0)) (sym same) was
  since_all least (access ∷ accesses) old new on spares long (mid, does, rest) was =
      since_all least accesses mid new (on_more access accesses old mid on spares does) (All-tail (DoesNotWrite Ghc) access accesses spares) (longer least access old mid long does) rest
      (since_access least access old mid on.no_reset long does was)

  -- where a write cleared ST among the accesses, it is zero, or was set since they began
  cleared_among : (least : ℕ) (before rest : List Access) (v : ℕ) (old new : Device) → IsOn old → All (DoesNotWrite Ghc) (before ++ Writing (Px port Cmd) v ∷ rest) → least ≤ length old.tape
      → bit v 0 ≡ false → DoesAll (before ++ Writing (Px port Cmd) v ∷ rest) old new → SetSince least (new.port port.0)
  cleared_among least [] rest v old new on spares long clears (mid, does, more) =
      since_all least rest mid new (on_more (Writing (Px port Cmd) v) rest old mid on spares does) (All-tail (DoesNotWrite Ghc) (Writing (Px port Cmd) v) rest spares) (longer least (Writing (Px port Cmd) v) old mid long does) more
      (inl ((laws.cmd_write_sets_st_and_fre port v old mid does).0 ∙ clears))
  cleared_among least (access ∷ before) rest v old new on spares long clears (mid, does, more) =
      cleared_among least before rest v mid new (on_more access (before ++ Writing (Px port Cmd) v ∷ rest) old mid on spares does) (All-tail (DoesNotWrite Ghc) access (before ++ Writing (Px port Cmd) v ∷ rest) spares)
      (longer least access old mid long does) clears more

  pub set_since : (accesses : List Access) (old new : Device) → IsOn old → All (DoesNotWrite Ghc) accesses → DoesAll accesses old new → Stops port accesses → (new.port port.0).st ≡ true
      → length old.tape ≤ (new.port port.0).notes.st_set_at
  set_since accesses old new on spares does stops runs =
      let rest : List Access = stops.between ++ (Reading (Px port Cmd) stops.read_cmd ∷ stops.later) in
      ⊎_elim
      (λ (off : (new.port port.0).st ≡ false). absurd (false≢true (sym off ∙ runs)))
      (λ (since : length old.tape ≤ (new.port port.0).notes.st_set_at). since)
      (cleared_among (length old.tape) stops.before rest stops.written_cmd old new on (subst (All (DoesNotWrite Ghc)) stops.accesses_are spares) (omega arith) stops.start_is_cleared
      (subst (λ (list : List Access). DoesAll list old new) stops.accesses_are does))

  -- what was noted of a write of PxSCTL stays where no other comes
  noted_all : (least : ℕ) (accesses : List Access) (old new : Device) → IsOn old → All (DoesNotWrite Ghc) accesses → All (DoesNotWrite (Px port Sctl)) accesses → DoesAll accesses old new
      → least ≤ (old.port port.0).notes.sctl_written_at → least ≤ (new.port port.0).notes.sctl_written_at
  noted_all least [] old new on host spares same was = subst (λ (d : Device). least ≤ (d.port port.0).notes.sctl_written_at) (sym same) was
  noted_all least (access ∷ accesses) old new on host spares (mid, does, rest) was =
      let same = ((laws.access_leaves_controls port access old mid on.no_reset does).control (All-head (DoesNotWrite (Px port Sctl)) access accesses spares)).1 in
      noted_all least accesses mid new (on_more access accesses old mid on host does) (All-tail (DoesNotWrite Ghc) access accesses host) (All-tail (DoesNotWrite (Px port Sctl)) access accesses spares) rest
      (omega (arith, was, same))

  -- where PxSCTL was written among the accesses, that was noted since they began
  written_among : (least : ℕ) (before rest : List Access) (v : ℕ) (old new : Device) → IsOn old → All (DoesNotWrite Ghc) (before ++ Writing (Px port Sctl) v ∷ rest)
      → All (DoesNotWrite (Px port Sctl)) rest → least ≤ length old.tape → DoesAll (before ++ Writing (Px port Sctl) v ∷ rest) old new → least ≤ (new.port port.0).notes.sctl_written_at
  written_among least [] rest v old new on host spares long (mid, does, more) =
      let set = (laws.sctl_write_sets_det port v old mid does).1 in
      let later = longer least (Writing (Px port Sctl) v) old mid long does in
      noted_all least rest mid new (on_more (Writing (Px port Sctl) v) rest old mid on host does) (All-tail (DoesNotWrite Ghc) (Writing (Px port Sctl) v) rest host) spares more (omega (arith, set, later))
  written_among least (access ∷ before) rest v old new on host spares long (mid, does, more) =
      written_among least before rest v mid new (on_more access (before ++ Writing (Px port Sctl) v ∷ rest) old mid on host does) (All-tail (DoesNotWrite Ghc) access (before ++ Writing (Px port Sctl) v ∷ rest) host)
      spares (longer least access old mid long does) more

  pub reset_noted : (accesses : List Access) (old new : Device) → IsOn old → All (DoesNotWrite Ghc) accesses → DoesAll accesses old new → LastSctlWritesResetLink port accesses
      → length old.tape ≤ (new.port port.0).notes.sctl_written_at
  reset_noted accesses old new on host does resets =
      let first : List Access = resets.before ++ Writing (Px port Sctl) resets.comreset_value ∷ resets.between in
      let here : accesses ≡ first ++ Writing (Px port Sctl) resets.end_of_comreset_value ∷ resets.later =
      resets.accesses_are_split ∙ sym (append_assoc resets.before (Writing (Px port Sctl) resets.comreset_value ∷ resets.between) (Writing (Px port Sctl) resets.end_of_comreset_value ∷ resets.later)) in
      written_among (length old.tape) first resets.later resets.end_of_comreset_value old new on (subst (All (DoesNotWrite Ghc)) here host) resets.sctl_is_unwritten_later (omega arith)
      (subst (λ (list : List Access). DoesAll list old new) here does)
