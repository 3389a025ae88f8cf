-- The evidence of a call in which no port is stopped: it names each ready port that showed trouble when the call began.
use Rattle.std.proofs.Common.{ℕ, ◌≡◌, ◌≢◌, ◌⊎◌, ◌<◌, ◌||◌, ◌&&◌, not, nat_eq, Bool, true, false, cond, eq-eqb, List, [], ◌∷◌, inl, inr, refl, sym, ap, ◌∙◌, subst, arith, ⊎_elim}
use Rattle.std.proofs.lemmas.List.Elements.{All-cons, All-head, All-tail}
use Rattle.std.specs.List.{All, Contains}
use Rattle.std.proofs.lemmas.Bool.{cases_Bool, cases_eq, cond-true, cond-false, false≢true, or_cases, or_left, or_right, and_from, and_parts, ne_eqb}
use Rattle.ata_types.specs.declared.Port.{Port}
use Rattle.ata_types.specs.declared.PortState as shown
use Rattle.ata_types.specs.declared.PortState.TheVariants.{Absent, Ready, Foreign, Unfit, Dead}
use Rattle.adapter.specs.Access.{Access}
use Rattle.adapter.specs.Device.{DevicePort, Device}
use Rattle.adapter.specs.declared.access.DeviceStep.{DeviceStep}
use Rattle.refinement.specs.Relation.{port_at}
use Rattle.block_machine.specs.Events.{AbstractCall, AbstractCallResult, AbstractState, AnswersLawfulAndWaitsOnStoppedPorts}
use Rattle.block_machine.specs.Histories.{JointState}
use Rattle.block_machine.specs.Ports.{Ports, Evidence, IsStoppedOrStuck}
use Rattle.block_machine.specs.Steps.{Step, WaitAgain, Answer}
use Rattle.ata_types.specs.declared.request.Outcome.TheVariants as outcome
use Rattle.server_history.proofs.state.ListMembers.{contains_cases, contains_here, contains_there}
use Rattle.error_recovery.specs.Evidence.{ShowsFatal}
use Rattle.driver_history.specs.Evidence.{IsEvidenced, IsEvidencedOf, ShowsLinkChange, ShowsFailure}
use Rattle.driver_history.specs.AccessTrace.{WritesNeitherCmdNorSctl}
use Rattle.server_history.proofs.state.FirstMembers.{nowhere}

-- no item in any list
abbrev pub no_evidence : Evidence
no_evidence = record { faults = []; lost = []; link_changed = []; showing_error = []; showing_fatal_error = []; stopped = []; stuck = [] }

-- ---- ports that are chosen by what they show

pub chosen : (Port → Bool) → List Port → List Port
chosen is [] = []
chosen is (port ∷ ports) = cond (is port) (port ∷ chosen is ports) (chosen is ports)

-- those that are chosen are so
pub chosen_is : (is : Port → Bool) (ports : List Port) (port : Port) → Contains (chosen is ports) port → is port ≡ true
unfolding chosen
chosen_is is [] port here = absurd (nowhere port here)
chosen_is is (first ∷ ports) port here = ⊎_elim
    (λ (its : is first ≡ true). ⊎_elim
    (λ (same : port ≡ first). ap is same ∙ its)
    (λ (there : Contains (chosen is ports) port). chosen_is is ports port there)
    (contains_cases first (chosen is ports) port (subst (λ (list : List Port). Contains list port) (cond-true (is first) (first ∷ chosen is ports) (chosen is ports) its) here)))
    (λ (its : is first ≡ false). chosen_is is ports port (subst (λ (list : List Port). Contains list port) (cond-false (is first) (first ∷ chosen is ports) (chosen is ports) its) here))
    (cases_Bool (is first))

-- and all that are so are chosen
pub is_chosen : (is : Port → Bool) (ports : List Port) (port : Port) → Contains ports port → is port ≡ true → Contains (chosen is ports) port
unfolding chosen
is_chosen is [] port here so = absurd (nowhere port here)
is_chosen is (first ∷ ports) port here so = ⊎_elim
    (λ (its : is first ≡ true). subst (λ (list : List Port). Contains list port) (sym (cond-true (is first) (first ∷ chosen is ports) (chosen is ports) its)) (⊎_elim
    (λ (same : port ≡ first). contains_here first (chosen is ports) port same)
    (λ (there : Contains ports port). contains_there first (chosen is ports) port (is_chosen is ports port there so))
    (contains_cases first ports port here)))
    (λ (its : is first ≡ false). subst (λ (list : List Port). Contains list port) (sym (cond-false (is first) (first ∷ chosen is ports) (chosen is ports) its)) (⊎_elim
    (λ (same : port ≡ first). absurd (false≢true (sym its ∙ ap is (sym same) ∙ so)))
    (λ (there : Contains ports port). is_chosen is ports port there so)
    (contains_cases first ports port here)))
    (cases_Bool (is first))

-- and they are among these
pub chosen_of : (Such : Port → Type 0) (is : Port → Bool) (ports : List Port) → All Such ports → All Such (chosen is ports)
unfolding chosen
chosen_of Such is [] all = all
chosen_of Such is (port ∷ ports) all = by (is port) (chosen_of Such is ports (All-tail Such port ports all))
  where
    by : (b : Bool) → All Such (chosen is ports) → All Such (cond b (port ∷ chosen is ports) (chosen is ports))
    by true rest = All-cons Such port (chosen is ports) (All-head Such port ports all) rest
    by false rest = rest

pub four : List Port
four = port_at 0 ∷ port_at 1 ∷ port_at 2 ∷ port_at 3 ∷ []

pub in_four : (port : Port) → port.0 < 4 → Contains four port
unfolding four
in_four port low = ⊎_elim
    (λ (e : port.0 ≡ 0). contains_here (port_at 0) (port_at 1 ∷ port_at 2 ∷ port_at 3 ∷ []) port (ap port_at e))
    (λ (a : port.0 ≢ 0). contains_there (port_at 0) (port_at 1 ∷ port_at 2 ∷ port_at 3 ∷ []) port (⊎_elim
    (λ (e : port.0 ≡ 1). contains_here (port_at 1) (port_at 2 ∷ port_at 3 ∷ []) port (ap port_at e))
    (λ (b : port.0 ≢ 1). contains_there (port_at 1) (port_at 2 ∷ port_at 3 ∷ []) port (⊎_elim
    (λ (e : port.0 ≡ 2). contains_here (port_at 2) (port_at 3 ∷ []) port (ap port_at e))
    (λ (c : port.0 ≢ 2). contains_there (port_at 2) (port_at 3 ∷ []) port (contains_here (port_at 3) [] port (let e : port.0 ≡ 3 = omega (arith, low, a, b, c) in ap port_at e)))
    (cases_eq port.0 2)))
    (cases_eq port.0 1)))
    (cases_eq port.0 0)

pub is_ready : shown.PortState → Bool
is_ready Ready = true
is_ready _ = false

ready_is : (state : shown.PortState) → is_ready state ≡ true → state ≡ Ready
unfolding is_ready
ready_is Ready so = refl
ready_is Absent so = absurd (false≢true so)
ready_is Foreign so = absurd (false≢true so)
ready_is (Unfit n) so = absurd (false≢true so)
ready_is Dead so = absurd (false≢true so)

-- ---- what a port shows

abbrev pub shows_fatal : DevicePort → Bool
shows_fatal p = p.is 27 || (p.is 28 || p.is 29)

abbrev pub shows_failure : DevicePort → Bool
shows_failure p = shows_fatal p || p.is 30

abbrev pub shows_loss : DevicePort → Bool
shows_loss p = p.serr_n || (p.serr_x || not (nat_eq p.ssts_det 3))

-- a ready port that shows this
abbrev pub ready_that : (DevicePort → Bool) → Device → Ports → Port → Bool
ready_that shows d ports port = is_ready (ports.state port) && shows (d.port port.0)

-- what is told of these ports, where it began with this device, and ports were this
abbrev pub told_of : List Port → Device → Ports → Evidence
told_of list d ports = record no_evidence {
  link_changed = chosen (ready_that shows_loss d ports) list;
  showing_error = chosen (ready_that shows_failure d ports) list;
  showing_fatal_error = chosen (ready_that shows_fatal d ports) list;
}

-- so a call tells of all four
abbrev pub told_by : Device → Ports → Evidence
told_by d ports = told_of four d ports

pub unfatal : (p : DevicePort) → shows_fatal p ≡ true → ShowsFatal p
unfatal p h = ⊎_elim
    (λ a. record { place = 27; from = omega arith; to = omega arith; cause_is_set = a })
    (λ more. ⊎_elim
    (λ a. record { place = 28; from = omega arith; to = omega arith; cause_is_set = a })
    (λ a. record { place = 29; from = omega arith; to = omega arith; cause_is_set = a })
    (or_cases (p.is 28) (p.is 29) more))
    (or_cases (p.is 27) (p.is 28 || p.is 29) h)

pub fatal_shows : (p : DevicePort) → ShowsFatal p → shows_fatal p ≡ true
fatal_shows p f = by (cases_eq f.place 27)
  where
    P : ℕ → Type 0
    P place = p.is place ≡ true

    by : (f.place ≡ 27) ⊎ (f.place ≢ 27) → shows_fatal p ≡ true
    by (inl e) = or_left (p.is 27) (p.is 28 || p.is 29) (subst P e f.cause_is_set)
    by (inr a) = or_right (p.is 27) (p.is 28 || p.is 29) (⊎_elim
        (λ e. or_left (p.is 28) (p.is 29) (subst P e f.cause_is_set))
        (λ b. or_right (p.is 28) (p.is 29) (subst P (let low = f.from in let high = f.to in omega (arith, low, high, a, b)) f.cause_is_set))
        (cases_eq f.place 28))

pub unfailed : (p : DevicePort) → shows_failure p ≡ true → ShowsFailure p
unfailed p h = ⊎_elim (λ a. inl (unfatal p a)) (λ a. inr a) (or_cases (shows_fatal p) (p.is 30) h)

pub failure_shows : (p : DevicePort) → ShowsFailure p → shows_failure p ≡ true
failure_shows p (inl f) = or_left (shows_fatal p) (p.is 30) (fatal_shows p f)
failure_shows p (inr a) = or_right (shows_fatal p) (p.is 30) a

pub unlost : (p : DevicePort) → shows_loss p ≡ true → ShowsLinkChange p ⊎ (p.ssts_det ≢ 3)
unlost p h = ⊎_elim
    (λ n. inl (inl n))
    (λ more. ⊎_elim (λ x. inl (inr x)) (λ other. inr (λ is. false≢true (sym (ap not (eq-eqb p.ssts_det 3 is)) ∙ other))) (or_cases p.serr_x (not (nat_eq p.ssts_det 3)) more))
    (or_cases p.serr_n (p.serr_x || not (nat_eq p.ssts_det 3)) h)

pub loss_shows : (p : DevicePort) → ShowsLinkChange p ⊎ (p.ssts_det ≢ 3) → shows_loss p ≡ true
loss_shows p (inl (inl n)) = or_left p.serr_n (p.serr_x || not (nat_eq p.ssts_det 3)) n
loss_shows p (inl (inr x)) = or_right p.serr_n (p.serr_x || not (nat_eq p.ssts_det 3)) (or_left p.serr_x (not (nat_eq p.ssts_det 3)) x)
loss_shows p (inr other) = or_right p.serr_n (p.serr_x || not (nat_eq p.ssts_det 3)) (or_right p.serr_x (not (nat_eq p.ssts_det 3)) (ap not (ne_eqb p.ssts_det 3 other)))

-- ---- what stands behind it

module _ (list : List Port) (d : Device) (ports : Ports) (shows : DevicePort → Bool) where
  -- who is named is ready, and shows it
  pub named_is : (port : Port) → Contains (chosen (ready_that shows d ports) list) port → (ports.state port ≡ Ready) × (shows (d.port port.0) ≡ true)
  named_is port here =
      let both = and_parts (is_ready (ports.state port)) (shows (d.port port.0)) (chosen_is (ready_that shows d ports) list port here) in
      (ready_is (ports.state port) both.0, both.1)

  -- and who is so is named
  is_named : (port : Port) → Contains list port → ports.state port ≡ Ready → shows (d.port port.0) ≡ true → Contains (chosen (ready_that shows d ports) list) port
  unfolding is_ready
  is_named port there ready its =
      is_chosen (ready_that shows d ports) list port there (and_from (is_ready (ports.state port)) (shows (d.port port.0)) (ap is_ready ready) its)

-- what is told of such a port has that behind it
pub evidenced_of : (list : List Port) (ask : AbstractCall DeviceStep) (said : AbstractCallResult) (accesses : List Access) (old : JointState Device) (ports : Ports) (new : Device) (port : Port)
    → (old.abstract.ports.state port ≡ Ready → Contains list port) → All (WritesNeitherCmdNorSctl port) accesses
    → IsEvidencedOf ask said accesses old ports new (told_of list old.device old.abstract.ports) port
evidenced_of list ask said accesses old ports new port there leaves = record {
  named_lost_showed_loss_or_changed = λ here. absurd (nowhere port here);
  shown_loss_of_ready_is_named = λ ready loss. is_named list old.device old.abstract.ports shows_loss port (there ready) ready (loss_shows (old.device.port port.0) (⊎_elim (λ change. inl change) (λ out. inr out.0) loss));
  named_link_changed_had_change_or_no_device = λ here.
      let x = named_is list old.device old.abstract.ports shows_loss port here in
      (x.0, ⊎_elim (λ change. inl change) (λ out. inr (inl out)) (unlost (old.device.port port.0) x.1));
  shown_failure_of_ready_is_named = λ ready failure. is_named list old.device old.abstract.ports shows_failure port (there ready) ready (failure_shows (old.device.port port.0) failure);
  named_showing_error_had_error = λ here. let x = named_is list old.device old.abstract.ports shows_failure port here in (x.0, inl (unfailed (old.device.port port.0) x.1));
  shown_fatal_of_ready_is_named = λ ready fatal. is_named list old.device old.abstract.ports shows_fatal port (there ready) ready (fatal_shows (old.device.port port.0) fatal);
  named_showing_fatal_had_fatal = λ here. let x = named_is list old.device old.abstract.ports shows_fatal port here in (x.0, inl (unfatal (old.device.port port.0) x.1));
  engine_is_left_or_stopped = inl leaves;
  named_stopped_was_stopped_or_reset = λ here. absurd (nowhere port here);
  stuck_only = λ here. absurd (nowhere port here);
}

pub evidenced : (ask : AbstractCall DeviceStep) (said : AbstractCallResult) (accesses : List Access) (old : JointState Device) (ports : Ports) (new : Device)
    → ((port : Port) → old.abstract.ports.state port ≡ Ready → port.0 < 4) → ((port : Port) → All (WritesNeitherCmdNorSctl port) accesses)
    → IsEvidenced ask said accesses old ports new (told_by old.device old.abstract.ports)
evidenced ask said accesses old ports new low leaves = record {
  faults_are_told = λ told here. absurd (nowhere told here);
  each_port_is_evidenced = λ port. evidenced_of four ask said accesses old ports new port (λ ready. in_four port (low port ready)) (leaves port);
}

-- ---- what it changes of what is asked of a call

module _ (d : Device) (ports : Ports) where
  abbrev told : Evidence
  told = told_by d ports

  -- nothing interrupts a port in it
  pub uninterrupted : (port : Port) → IsStoppedOrStuck told port → ⊥
  uninterrupted port i = ⊎_elim (nowhere port) (nowhere port) i

  pub lawful_told : (old : AbstractState) (after : Ports) (steps : List Step) → AnswersLawfulAndWaitsOnStoppedPorts old no_evidence after steps → AnswersLawfulAndWaitsOnStoppedPorts old told after steps
  lawful_told old after [] l = l
  lawful_told old after (Answer e outcome.Ok ∷ steps) l = (lawful_told old after steps l.0, l.1)
  lawful_told old after (Answer e (outcome.DeviceError status error) ∷ steps) l = (lawful_told old after steps l.0, l.1)
  lawful_told old after (Answer e outcome.Aborted ∷ steps) l = (lawful_told old after steps l.0, l.1)
  lawful_told old after (Answer e outcome.Unplugged ∷ steps) l = (lawful_told old after steps l.0, l.1)
  lawful_told old after (Answer e outcome.Revoked ∷ steps) l = (lawful_told old after steps l.0, l.1)
  lawful_told old after (Answer e outcome.PortDead ∷ steps) l = (lawful_told old after steps l.0, l.1)
  lawful_told old after (WaitAgain e ∷ steps) l = (lawful_told old after steps l.0, l.1)
  lawful_told old after (step ∷ steps) l = lawful_told old after steps l
