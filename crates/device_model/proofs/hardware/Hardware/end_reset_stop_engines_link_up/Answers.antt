use Rattle.std.proofs.Common.{rules, ℕ, Bool, true, false, ◌≡◌, ◌<◌, length, slice_index_or, ◌∙◌, ap, subst, sym, arith, refl, inl, inr}
use Rattle.std.proofs.lemmas.Bool.{cases_lt}
use Rattle.std.proofs.lemmas.Bool.Decides.{eqb_tells}
use Rattle.std.proofs.lemmas.List.{get_or_past}
use Rattle.adapter.specs.Device.{DevicePort}
use Rattle.device_model.proofs.Absurd.{true-false}
use Rattle.device_model.proofs.Own.{own_none, own_on}
use Rattle.device_model.specs.ModelOwnSteps.{Settles, IsSettledPort}
use Rattle.device_model.specs.PortView.{port_of, reset_port_without_disk}
use Rattle.device_model.specs.WholeAdapter.{device_of}
use Rattle.device_model.specs.declared.port.PortModel.{PortModel}
use Rattle.device_model.proofs.GoingOn.{blank_settled}
use Rattle.device_model.proofs.hardware.Hardware.end_reset_stop_engines_link_up.Goals as goal
use Rattle.device_model.proofs.hardware.Hardware.end_reset_stop_engines_link_up.Goals.{then-not-held-port, else-not-held-port}

pub loop-port-init : goal.loop-port-init
loop-port-init c =
    let r = c.end_reset_unless_all_held.ensures in
    let four : length c.args.self.now.ports ≡ 4 = search rules in record {
      own = λ o. own_none (Settles c.end_reset_unless_all_held.new.held) (device_of c.end_reset_unless_all_held.new.self o);
      settled = λ o q small free. absurd (omega (arith, small));
      number = r.number ∙ four;
      left = r.left;
      tape = r.tape;
      starved = r.starved;
    }

pub loop-port-preserved : goal.loop-port-preserved
loop-port-preserved c =
    let is = c.loop-port.invariant in
    elim c.if-not-held-port.branch [
      | then-not-held-port w ↦
          let s = w.settle_port.ensures in
          rw w.self-is
          (record {
            own = λ o. own_on (Settles c.end_reset_unless_all_held.new.held) _ _ _ (is.own o) (s.own o c.end_reset_unless_all_held.new.held (search rules));
            settled = λ o q small free.
                elim (eqb_tells q c.loop-port.port) [
                  | inl same ↦ let P : ℕ → Type 0 = λ k. IsSettledPort ((device_of w.settle_port.new.self o).port k) in subst P (sym same.1) (s.settled o)
                  | inr differ ↦
                      let P : DevicePort → Type 0 = λ p. IsSettledPort p in
                      let ne = differ.1 in
                      subst P (sym (s.others o q ne)) (is.settled o q (let lt : q < c.loop-port.port = omega (arith, ne, small) in lt) free)
                ];
            number = s.spares.port_count_is_kept ∙ is.number;
            left = λ on. is.left (sym s.spares.hr_is_kept ∙ on);
            tape = s.spares.tape_is_kept ∙ is.tape;
            starved = s.spares.starved_is_kept ∙ is.starved;
          })
      | else-not-held-port w ↦
          rw w.self-is
          (record {
            own = is.own;
            settled = λ o q small free.
                elim (eqb_tells q c.loop-port.port) [
                  | inl same ↦ absurd (true-false (search rules) (ap (λ k. slice_index_or c.end_reset_unless_all_held.new.held k false) (sym same.1) ∙ free))
                  | inr differ ↦ let ne = differ.1 in is.settled o q (let lt : q < c.loop-port.port = omega (arith, ne, small) in lt) free
                ];
            number = is.number;
            left = is.left;
            tape = is.tape;
            starved = is.starved;
          })
    ]

pub returns-clause-own : goal.returns-clause-own
returns-clause-own c = λ o.
    (device_of c.end_reset_unless_all_held.new.self o, c.end_reset_unless_all_held.ensures.resets o, c.loop-port.invariant.own o)

-- each port that isn't held is settled, also those that aren't there
pub returns-clause-settled : goal.returns-clause-settled
returns-clause-settled c = λ o.
    let h = c.loop-port.self in
    let four = c.loop-port.invariant.number in
    let all : (q : ℕ) → slice_index_or c.end_reset_unless_all_held.new.held q false ≡ false → IsSettledPort ((device_of h o).port q) =
    λ (q : ℕ) (free : slice_index_or c.end_reset_unless_all_held.new.held q false ≡ false).
    elim (cases_lt q 4) [
      | inl small ↦ c.loop-port.invariant.settled o q (omega (arith, small, c.loop-port-test.false)) free
      | inr past ↦
          let P : PortModel → Type 0 = λ p. IsSettledPort (port_of p (o.media q)) in
          subst P (sym (get_or_past h.ports q reset_port_without_disk (omega (arith, past, four)))) (blank_settled (o.media q))
    ] in
    record {
      reset_waits_only_if_all_are_held = λ on. c.loop-port.invariant.left on;
      cr_may_fall_only_where_held = λ q may. held_if _ (λ free. (all q free).cr_is_clear_without_st may.0 may.1);
      fr_may_fall_only_where_held = λ q may. held_if _ (λ free. (all q free).fr_is_clear_without_fre_and_cr may.0 may.1 may.2);
      link_may_come_up_only_where_held = λ q sig n may. held_if _ (λ free. (all q free).no_link_may_come sig may);
    }
  where
    held_if : (b : Bool) → (b ≡ false → ⊥) → b ≡ true
    held_if true = λ no. refl
    held_if false = λ no. absurd (no refl)

pub returns-clause-tape : goal.returns-clause-tape
returns-clause-tape c = c.loop-port.invariant.tape

pub returns-clause-starved : goal.returns-clause-starved
returns-clause-starved c = c.loop-port.invariant.starved
