-- What a port does by itself is steps, which compose.
use Rattle.std.proofs.Common.{ℕ, length, Bool, zero, suc, true, false, ◌≡◌, ◌%◌, List, None, refl, sym, ◌∙◌, ap, subst, inl, inr}
use Rattle.std.proofs.lemmas.Bool.Decides.{eqb_tells}
use Rattle.adapter.specs.Device.{DevicePort, Device}
use Rattle.adapter.specs.Memory.{changed}
use Rattle.adapter.specs.AskedSteps.{DoesSlotStep, DoesExactlySlotSteps, DoesAtLeastOneSlotStep}
use Rattle.adapter.specs.Steps.{MayLinkUp, port_after_clear, port_after_done_except_lasting, port_with_lasting_after_operation, port_after_fetch, port_after_link_up, port_after_move, with_port, port_after_hba_reset}
use Rattle.adapter.specs.Steps.DeviceTransition.{Fall, FrFall, LinkUp}
use Rattle.device_model.proofs.Places.{fun_ext, changed_same, changed_other, changed_each}
use Rattle.device_model.proofs.Own.{own_none, own_on, own_one}
use Rattle.device_model.specs.WordBits.{word_bits}
use Rattle.device_model.specs.HeldPorts.{IsPortHeld, IsPortReleased}
use Rattle.device_model.specs.SentFises.{SendsEnd, SendsDeviceToHost, signature_fis}
use Rattle.device_model.proofs.Posting.{end_rest}
use Rattle.device_model.specs.ModelOwnSteps.{LeadsBySteps, Settles, PortChangesBySettlingSteps, IsSettled, IsSettledPort}
use Rattle.device_model.specs.PortView.{Media, port_of, reset_port_without_disk}
use Rattle.device_model.specs.declared.port.PortModel.{PortModel}
use Rattle.device_model.proofs.NewModel.{zero_bit}

pub with_same : (d : Device) (port : ℕ) (p : DevicePort) → d.port port ≡ p → with_port d port p ≡ d
with_same d port p is =
    ap (λ (f : ℕ → DevicePort). record d { port = f })
    (fun_ext (changed_each d.port port p (λ k v. v ≡ d.port k) (sym is) (λ k. refl)))

with_twice : (d : Device) (port : ℕ) (a b : DevicePort) → with_port (with_port d port a) port b ≡ with_port d port b
with_twice d port a b =
    ap (λ (f : ℕ → DevicePort). record d { port = f })
    (fun_ext
    (λ k.
    elim (eqb_tells k port) [
      | inl same ↦ rw same.1 (changed_same (changed d.port port a) port b ∙ sym (changed_same d.port port b))
      | inr differ ↦
          changed_other (changed d.port port a) port b k differ.1
          ∙ (changed_other d.port port a k differ.1 ∙ sym (changed_other d.port port b k differ.1))
    ]))

pub goes_nowhere : (p : DevicePort) → PortChangesBySettlingSteps p p
goes_nowhere p held d port loose is = let P : Device → Type 0 = λ x. LeadsBySteps (Settles held) d x in subst P (sym (with_same d port p is)) (own_none (Settles held) d)

pub goes_on : (a b c : DevicePort) → PortChangesBySettlingSteps a b → PortChangesBySettlingSteps b c → PortChangesBySettlingSteps a c
goes_on a b c first then held d port loose is =
    let P : Device → Type 0 = λ x. LeadsBySteps (Settles held) (with_port d port b) x in
    own_on (Settles held) d (with_port d port b) (with_port d port c) (first held d port loose is)
    (subst P (with_twice d port b c) (then held (with_port d port b) port loose (changed_same d.port port b)))

abbrev fallen : DevicePort → DevicePort
fallen p = record p { cr = false; taken = λ _. None }

pub goes_fallen : (old new : DevicePort) → old.st ≡ false → old.cr ≡ true → new ≡ fallen old → PortChangesBySettlingSteps old new
goes_fallen old new st cr is held d port loose here =
    own_one (Settles held) (Fall port) d _ (loose, tt) (ap (λ (p : DevicePort). p.st) here ∙ st, ap (λ (p : DevicePort). p.cr) here ∙ cr)
    (ap (λ (p : DevicePort). with_port d port p) (is ∙ ap fallen (sym here)))

abbrev area_fallen : DevicePort → DevicePort
area_fallen p = record p { fr = false }

pub goes_area_fallen : (old new : DevicePort) → old.fre ≡ false → old.cr ≡ false → old.fr ≡ true → new ≡ area_fallen old → PortChangesBySettlingSteps old new
goes_area_fallen old new fre cr fr is held d port loose here =
    own_one (Settles held) (FrFall port) d _ (loose, tt)
    (ap (λ (p : DevicePort). p.fre) here ∙ fre, ap (λ (p : DevicePort). p.cr) here ∙ cr, ap (λ (p : DevicePort). p.fr) here ∙ fr)
    (ap (λ (p : DevicePort). with_port d port p) (is ∙ ap area_fallen (sym here)))

-- the link of a port in this state comes up, and the disk's first FIS is sent
pub own_linked : (held : List Bool) (d linked new : Device) (port : ℕ) (p : DevicePort) → IsPortReleased held port → d.port port ≡ p → MayLinkUp p 0x101 →
    linked ≡ with_port d port (port_after_link_up p 0x101 true) → SendsDeviceToHost port (signature_fis (linked.port port)) linked new → LeadsBySteps (Settles held) d new
own_linked held d linked new port p loose here may is sends =
    let P : Device → Type 0 = λ x. SendsDeviceToHost port (signature_fis (x.port port)) x new in
    let same : linked ≡ with_port d port (port_after_link_up (d.port port) 0x101 true) = is ∙ ap (λ (x : DevicePort). with_port d port (port_after_link_up x 0x101 true)) (sym here) in
    own_one (Settles held) (LinkUp port 0x101 true) d new ((loose, refl, refl), tt) (subst (λ (x : DevicePort). MayLinkUp x 0x101) (sym here) may) (subst P same sends)

-- a port is settled after its link may have come up, where CR and FR had fallen before
pub linked_settled : (settled was linked : PortModel) (m : Media) → was ≡ settled → (settled.st ≡ false → settled.cr ≡ true → false ≡ true) →
    (settled.fre ≡ false → settled.cr ≡ false → settled.fr ≡ true → false ≡ true) →
    (linked.present ≡ true → linked.sctl_det % 16 ≡ 0 → linked.link_due ≡ true → false ≡ true) → (linked.st ≡ was.st) × (linked.cr ≡ was.cr) →
    (linked.fre ≡ was.fre) × (linked.fr ≡ was.fr) → IsSettledPort (port_of linked m)
linked_settled settled was linked m same fallen area due engine received =
    let cr : linked.cr ≡ settled.cr = engine.1 ∙ ap (λ (x : PortModel). x.cr) same in
    let st : linked.st ≡ settled.st = engine.0 ∙ ap (λ (x : PortModel). x.st) same in
    let fre : linked.fre ≡ settled.fre = received.0 ∙ ap (λ (x : PortModel). x.fre) same in
    let fr : linked.fr ≡ settled.fr = received.1 ∙ ap (λ (x : PortModel). x.fr) same in
    record {
      cr_is_clear_without_st = λ off on. let e : false ≡ true = fallen (sym st ∙ off) (sym cr ∙ on) in cc;
      fr_is_clear_without_fre_and_cr = λ off stopped on. let e : false ≡ true = area (sym fre ∙ off) (sym cr ∙ stopped) (sym fr ∙ on) in cc;
      no_link_may_come = λ sig may. let e : false ≡ true = due may.present may.no_comreset may.link_is_due in cc;
    }

pub no_bits : word_bits 0 ≡ (λ _. false)
no_bits = fun_ext zero_bit

pub blank_reset : (m : Media) → port_after_hba_reset (port_of reset_port_without_disk m) ≡ port_of reset_port_without_disk m
blank_reset m = λ i. record (port_of reset_port_without_disk m) { ci = sym no_bits i; sact = sym no_bits i; is = sym no_bits i }

pub blank_settled : (m : Media) → IsSettledPort (port_of reset_port_without_disk m)
blank_settled m = record { cr_is_clear_without_st = λ _ cr. cc; fr_is_clear_without_fre_and_cr = λ _ _ fr. cc; no_link_may_come = λ sig may. let e : false ≡ true = may.present in cc }

-- ---- a command goes on, and what the model does by itself stays done

record SameControls (p new : DevicePort) : Type 0 where
  st : new.st ≡ p.st
  cr : new.cr ≡ p.cr
  fre : new.fre ≡ p.fre
  fr : new.fr ≡ p.fr
  present : new.present ≡ p.present
  det : new.sctl_det ≡ p.sctl_det
  due : new.link_due ≡ p.link_due

settled_with : (old new : Device) (port : ℕ) (p : DevicePort) → new.hr ≡ old.hr → new.port ≡ changed old.port port p → SameControls (old.port port) p →
    (held : List Bool) → IsSettled held old → IsSettled held new
settled_with old new port p hr is same held settled =
    let ports : (P : ℕ → DevicePort → Type 0) → P port p → ((k : ℕ) → P k (old.port k)) → (k : ℕ) → P k (new.port k) =
    λ (P : ℕ → DevicePort → Type 0) (here : P port p) (others : (k : ℕ) → P k (old.port k)) (k : ℕ).
    subst (λ (f : ℕ → DevicePort). P k (f k)) (sym is) (changed_each old.port port p P here others k) in
    record {
      reset_waits_only_if_all_are_held = λ on. settled.reset_waits_only_if_all_are_held (sym hr ∙ on);
      cr_may_fall_only_where_held = ports (λ k x. (x.st ≡ false) × (x.cr ≡ true) → IsPortHeld held k) (λ may. settled.cr_may_fall_only_where_held port (sym same.st ∙ may.0, sym same.cr ∙ may.1)) settled.cr_may_fall_only_where_held;
      fr_may_fall_only_where_held = ports (λ k x. (x.fre ≡ false) × (x.cr ≡ false) × (x.fr ≡ true) → IsPortHeld held k)
          (λ may. settled.fr_may_fall_only_where_held port (sym same.fre ∙ may.0, sym same.cr ∙ may.1, sym same.fr ∙ may.2)) settled.fr_may_fall_only_where_held;
      link_may_come_up_only_where_held = λ k sig n.
          ports (λ q x. MayLinkUp x sig → IsPortHeld held q)
          (λ may. settled.link_may_come_up_only_where_held port sig n
          (record {
            present = sym same.present ∙ may.present;
            no_comreset = sym same.det ∙ may.no_comreset;
            link_is_due = sym same.due ∙ may.link_is_due;
            sig_is_32_bit = may.sig_is_32_bit;
          }))
          (λ q may. settled.link_may_come_up_only_where_held q sig n may) k;
    }

-- what a step of a command changes is none of these
abbrev same : (p new : DevicePort) → new.st ≡ p.st → new.cr ≡ p.cr → new.fre ≡ p.fre → new.fr ≡ p.fr → new.present ≡ p.present →
    new.sctl_det ≡ p.sctl_det → new.link_due ≡ p.link_due → SameControls p new
same p new st cr fre fr present det due = record { st = st; cr = cr; fre = fre; fr = fr; present = present; det = det; due = due }

one_settled : (port slot : ℕ) (old new : Device) → DoesSlotStep (SendsEnd slot) port slot old new → (held : List Bool) → IsSettled held old → IsSettled held new
one_settled port slot old new (inl f) =
    settled_with old new port (port_after_fetch (old.port port) slot f.meaning f.places) (ap (λ (d : Device). d.hr) f.effect) (ap (λ (d : Device). d.port) f.effect)
    (same _ _ refl refl refl refl refl refl refl)
one_settled port slot old new (inr (inl m)) =
    settled_with old new port (port_after_move (old.port port) slot m.fetched_command m.bytes) (ap (λ (d : Device). d.hr) m.effect) (ap (λ (d : Device). d.port) m.effect)
    (same _ _ refl refl refl refl refl refl refl)
one_settled port slot old new (inr (inr (inr (most, some, c)))) =
    settled_with old new port (port_after_clear (old.port port) slot c.fetched_command c.first c.count) (ap (λ (d : Device). d.hr) c.effect) (ap (λ (d : Device). d.port) c.effect)
    (same _ _ refl refl refl refl refl refl refl)
one_settled port slot old new (inr (inr (inl e))) =
    let rest = end_rest port slot e.done.cause_bit e.done.fetched_command.meaning.operation e.after_end new e.posts in
    settled_with old new port (port_with_lasting_after_operation (port_after_done_except_lasting (old.port port) slot e.done.cause_bit e.done.fetched_command.meaning.operation) e.done.fetched_command.meaning.operation (length old.tape))
    (ap (λ (d : Device). d.hr) rest ∙ ap (λ (d : Device). d.hr) e.done.effect)
    (ap (λ (d : Device). d.port) rest ∙ ap (λ (d : Device). d.port) e.done.effect) (same _ _ refl refl refl refl refl refl refl)

some_settled : (n port slot : ℕ) (old new : Device) → DoesExactlySlotSteps (SendsEnd slot) n port slot old new → (held : List Bool) → IsSettled held old → IsSettled held new
some_settled zero port slot old new e held settled = let P : Device → Type 0 = λ d. IsSettled held d in subst P (sym e) settled
some_settled (suc n) port slot old new s held settled = one_settled port slot s.0 new s.2 held (some_settled n port slot old s.0 s.1 held settled)

-- a command went on, or didn't
pub gone_settled : (port slot : ℕ) (did : Bool) (old new : Device) → (did ≡ true → DoesAtLeastOneSlotStep (SendsEnd slot) port slot old new) → (did ≡ false → new ≡ old) →
    (held : List Bool) → IsSettled held old → IsSettled held new
gone_settled port slot true old new went stayed held settled = let g = went refl in some_settled (suc g.0) port slot old new g.1 held settled
gone_settled port slot false old new went stayed held settled = let P : Device → Type 0 = λ d. IsSettled held d in subst P (sym (stayed refl)) settled
