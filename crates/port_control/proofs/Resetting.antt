-- COMRESET is sent and ended, and what was found since.
use Rattle.std.proofs.Common.{ℕ, ◌≡◌, false, ◌+◌, ◌<◌, ◌≤◌, ◌%◌, ◌⊎◌, length, inl, inr, refl, ◌∙◌, ap, subst, arith}
use Rattle.std.proofs.lemmas.List.{length-append}
use Rattle.ata_types.specs.declared.Port.{Port}
use Rattle.ata_types.specs.declared.limits.TheConstants.{MOST_READINGS}
use Rattle.hba_regs.specs.Bits.{bit}
use Rattle.hba_regs.specs.declared.reg.PortReg.TheVariants.{Cmd, Tfd, Sig, Ssts, Sctl}
use Rattle.hba_regs.specs.declared.reg.Reg.TheVariants.{Px}
use Rattle.adapter.specs.Access.{Reads, Writes}
use Rattle.adapter.specs.Access.Access.{Writing}
use Rattle.adapter.specs.Device.{Device}
use Rattle.adapter.specs.Rules.{IsOn, MayWrite, IsStable}
use Rattle.refinement.specs.Fragments.{AnySlotStates, ReadsPortOrWrites, IsSimulated}
use Rattle.refinement.specs.Errors.{NoDiskComes}
use Rattle.refinement.specs.PortFacts.{WhileLinkAwaitedCrIsClearAndDrqSet, IsCleanToStart, CrAndTfesAreClear}
use Rattle.refinement.specs.StartedPort.{IsUpForStart, IsStoppedAndUpForStartIfDet3}
use Rattle.refinement.specs.Fragments.{TapeGrows}
use Rattle.port_control.specs.Ports.{IsSerrOrIs, IsSctlSerrOrIs, IsOnWithPortAndAgrees, IsStoppedReceiving, HasLink, ShowsIdle, ReadsInVain, ReadsUntil, ClearsErrors, FindsLinkAndClearsErrors, FindsSignature, FindsBusy, SendsComresetThen, SerrShowsOnlyNewPlugs, IsClearAndUpIfStoppedUnlessPlugEvents, IsClearAndUpUnlessPlugEvents}
use Rattle.port_control.proofs.Using.{usable_after, receiving_write, stays_on, tape_gains}
use Rattle.port_control.proofs.Settling.{comes_in_parts, plugs_in_parts, no_start, Settles, settles}
use Rattle.port_control.specs.Laws.RegisterSet.{ClearingErrors, ResettingLink}
use Rattle.port_control.specs.Laws.AccessPurpose.{Controlling}
use Rattle.port_control.specs.Laws.{Laws}
use Rattle.port_control.proofs.Stretching.{followed_then, followed_wider, followed_write}

pub grows_longer : (old new : Device) → TapeGrows old new → length old.tape ≤ length new.tape
grows_longer old new g =
    let sum : length new.tape ≡ length old.tape + length g.0 = ap length g.1 ∙ length-append old.tape g.0 in
    omega (arith, sum)

module _ (port : Port) (Then : Device → Device → Type 0) (old mid new : Device) (reset : SendsComresetThen port (λ ended now. now ≡ ended) old mid) (then : Then mid new) (s : Settles port mid new) where
  pub reset_on : SendsComresetThen port Then old new
  reset_on =
      let longer = grows_longer mid new s.grows in
      let same = s.written in
      let since = reset.sctl_written_in_call in
      let marked = reset.sctl_time_in_tape in
      record {
        sent = reset.sent;
        sends = reset.sends;
        ended = reset.ended;
        ends = reset.ends;
        does_rest = subst (λ (d : Device). Then d new) reset.does_rest then;
        no_comreset = s.det ∙ reset.no_comreset;
        sctl_written_in_call = omega (arith, same, since);
        sctl_time_in_tape = omega (arith, same, marked, longer);
      }

-- and how it was found
pub finds_link : (port : Port) {old seen new : Device} → ReadsUntil port Ssts HasLink old seen → ClearsErrors port seen new → FindsLinkAndClearsErrors port old new
finds_link port {old} {seen} {new} sees clears = record { after_link_is_seen = seen; reads_until_link = sees; clears = clears }

pub finds_busy : (port : Port) {old linked new : Device} → FindsLinkAndClearsErrors port old linked → ReadsInVain port Tfd ShowsIdle MOST_READINGS linked new → FindsBusy port old new
finds_busy port {old} {linked} {new} links waits = record { linked = linked; finds_link = links; waits = waits }

pub finds_signature : (port : Port) (signature : ℕ) {old linked idle new : Device} → FindsLinkAndClearsErrors port old linked → ReadsUntil port Tfd ShowsIdle linked idle →
    Reads (Px port Sig) signature idle new → FindsSignature port signature old new
finds_signature port signature {old} {linked} {idle} {new} links waits reads = record { linked = linked; finds_link = links; idle = idle; waits = waits; reads = reads }

module _ (laws : Laws) where
  pub sctl_may : (port : Port) (v : ℕ) (d : Device) → IsOnWithPortAndAgrees AnySlotStates port d → IsStoppedReceiving port.0 (d.port port.0) → (v % 16 ≡ 0) ⊎ (v % 16 ≡ 1) → IsStable (MayWrite (Px port Sctl) v) d
  sctl_may port v d u r det = laws.write_stays (Px port Sctl) v d (λ p e. cc) (u.adapter_is_on, u.has_port, (r.stopped.engine_is_stopped.st_is_clear, det))

  module _ (port : Port) (old sent : Device) (u : IsOnWithPortAndAgrees AnySlotStates port old) (receives : IsStoppedReceiving port.0 (old.port port.0)) (one : Writes (Px port Sctl) 1 old sent) where
    first : IsSimulated (ReadsPortOrWrites IsSctlSerrOrIs port) AnySlotStates old sent
    first = followed_write laws (Controlling ResettingLink port) (Px port Sctl) 1 old sent (refl, inl refl) (sctl_may port 1 old u receives (inr refl)) (λ uses is. tt) one

    sending : IsOnWithPortAndAgrees AnySlotStates port sent
    sending = usable_after laws ResettingLink port old sent u first

    receives_still : IsStoppedReceiving port.0 (sent.port port.0)
    receives_still = receiving_write laws port Sctl 1 old sent u.adapter_is_on.no_reset (inl refl) one receives

    pub ending_may : IsStable (MayWrite (Px port Sctl) 0) sent
    ending_may = sctl_may port 0 sent sending receives_still (inl refl)

    module _ (new : Device) (zero : Writes (Px port Sctl) 0 sent new) where
      pub reset_followed : IsSimulated (ReadsPortOrWrites IsSctlSerrOrIs port) AnySlotStates old new
      reset_followed = followed_then laws (Controlling ResettingLink port) old sent new first
          (followed_write laws (Controlling ResettingLink port) (Px port Sctl) 0 sent new (refl, inl refl) ending_may (λ uses is. tt) zero)

      pub reset_receives : IsStoppedReceiving port.0 (new.port port.0)
      reset_receives = receiving_write laws port Sctl 0 sent new sending.adapter_is_on.no_reset (inl refl) zero receives_still

      early : TapeGrows old sent
      early = laws.tape.access_grows (Writing (Px port Sctl) 1) old sent one

      late : TapeGrows sent new
      late = laws.tape.access_grows (Writing (Px port Sctl) 0) sent new zero

      pub was_reset : SendsComresetThen port (λ ended now. now ≡ ended) old new
      was_reset =
          let set = laws.sctl_write_sets_det port 0 sent new zero in
          let longer = grows_longer old new (laws.tape.growth_is_transitive old sent new early late) in
          let at = set.1 in
          record {
            sent = sent;
            sends = one;
            ended = new;
            ends = zero;
            does_rest = refl;
            no_comreset = set.0;
            sctl_written_in_call = rw at longer;
            sctl_time_in_tape = omega (arith, at);
          }

      pub reset_awaited : WhileLinkAwaitedCrIsClearAndDrqSet (new.port port.0)
      reset_awaited = laws.writes_keep_drq_till_link port.0 (Px port Sctl) 0 sent new ending_may
          (λ d steps. ((laws.law_step_lists_keep_what_steps_keep _ _ steps).port_bits_only_fall port.0).cr_stays_clear receives_still.stopped.engine_is_stopped.cr_is_clear) zero
          (laws.comreset_shows_drq_till_link port 1 old sent receives.stopped.engine_is_stopped.cr_is_clear refl one)

      pub reset_coming : NoDiskComes port.0 old new → IsStoppedAndUpForStartIfDet3 (new.port port.0)
      reset_coming none =
          let parts = comes_in_parts laws port.0 old sent new early late none in
          laws.access_keeps_coming_up port (Writing (Px port Sctl) 0) sent new
          (no_start port (Writing (Px port Sctl) 0) (λ (e : Px port Sctl ≡ Px port Cmd). absurd (cc))) zero parts.1
          (laws.comreset_begins_coming_up port 1 old sent receives.stopped.engine_is_stopped.cr_is_clear refl one)

  -- what was found since, where the link was coming up
  pub found_on : (port : ℕ) (old mid new : Device) → TapeGrows old mid → TapeGrows mid new → (NoDiskComes port old mid → IsStoppedAndUpForStartIfDet3 (mid.port port)) → WhileLinkAwaitedCrIsClearAndDrqSet (mid.port port) → IsClearAndUpIfStoppedUnlessPlugEvents port mid new → IsClearAndUpUnlessPlugEvents port old new
  found_on port old mid new early late coming awaited finds = record {
    no_cause_is_set = finds.no_cause_is_set;
    serr_shows_only_new_plugs = record {
      serr_n_is_clear = λ none. let parts = plugs_in_parts laws port old mid new early late none in (finds.serr_shows_only_new_plugs (coming (laws.tape.no_plug_event_no_disk port old mid parts.0))).serr_n_is_clear parts.1;
      serr_x_is_clear = λ none. let parts = comes_in_parts laws port old mid new early late none in (finds.serr_shows_only_new_plugs (coming parts.0)).serr_x_is_clear parts.1;
    };
    no_link_is_due = λ none. let parts = comes_in_parts laws port old mid new early late none in finds.no_link_is_due parts.1 (coming parts.0);
    link_is_up = λ none. let parts = plugs_in_parts laws port old mid new early late none in finds.link_is_up parts.1 (coming (laws.tape.no_plug_event_no_disk port old mid parts.0));
    is_clean_to_start = finds.is_clean_to_start awaited;
  }

  -- the two together
  module _ (port : Port) (old mid new : Device) (u : IsOnWithPortAndAgrees AnySlotStates port old) (sends : IsSimulated (ReadsPortOrWrites IsSctlSerrOrIs port) AnySlotStates old mid) (looks : IsSimulated (ReadsPortOrWrites IsSerrOrIs port) AnySlotStates mid new) where
    pub looking : IsOnWithPortAndAgrees AnySlotStates port mid
    looking = usable_after laws ResettingLink port old mid u sends

    pub looked : Settles port mid new
    looked = settles laws port mid new looking.adapter_is_on looks.is_driven

    pub both_followed : IsSimulated (ReadsPortOrWrites IsSctlSerrOrIs port) AnySlotStates old new
    both_followed = followed_then laws (Controlling ResettingLink port) old mid new sends (followed_wider laws ClearingErrors ResettingLink port mid new (λ r is. inr is) looks)

    pub both_on : IsOn new
    both_on = stays_on laws ResettingLink port old new both_followed.is_driven u.adapter_is_on

    sent_grows : TapeGrows old mid
    sent_grows = tape_gains laws ResettingLink port old mid sends.is_driven

    module _ (coming : NoDiskComes port.0 old mid → IsStoppedAndUpForStartIfDet3 (mid.port port.0)) where
      pub both_coming : NoDiskComes port.0 old new → IsStoppedAndUpForStartIfDet3 (new.port port.0)
      both_coming none = let parts = comes_in_parts laws port.0 old mid new sent_grows looked.grows none in looked.coming parts.1 (coming parts.0)

      pub both_found : WhileLinkAwaitedCrIsClearAndDrqSet (mid.port port.0) → IsClearAndUpIfStoppedUnlessPlugEvents port.0 mid new → IsClearAndUpUnlessPlugEvents port.0 old new
      both_found awaited finds = found_on port.0 old mid new sent_grows looked.grows coming awaited finds

  -- ---- looking for the device

  module _ (port : Port) (old seen cleared new : Device) (receives : IsStoppedReceiving port.0 (old.port port.0)) (a : Settles port old seen) (b : Settles port seen cleared) (c : Settles port cleared new)
      (up : NoDiskComes port.0 old seen → IsStoppedAndUpForStartIfDet3 (old.port port.0) → IsUpForStart (seen.port port.0))
      (calm : (place : ℕ) → place < 32 → (cleared.port port.0).is place ≡ false)
      (clear : (seen.port port.0).link_due ≡ false → SerrShowsOnlyNewPlugs port.0 seen cleared)
      (quiet : WhileLinkAwaitedCrIsClearAndDrqSet (cleared.port port.0) → CrAndTfesAreClear (cleared.port port.0) → bit (new.port port.0).notes.last_tfd 3 ≡ false → IsCleanToStart (new.port port.0)) where
    early_half : TapeGrows old cleared
    early_half = laws.tape.growth_is_transitive old seen cleared a.grows b.grows

    late_half : TapeGrows seen new
    late_half = laws.tape.growth_is_transitive seen cleared new b.grows c.grows

    receives_seen : IsStoppedReceiving port.0 (seen.port port.0)
    receives_seen = a.receiving receives

    receives_cleared : IsStoppedReceiving port.0 (cleared.port port.0)
    receives_cleared = b.receiving receives_seen

    -- where no disk came until the device was seen, no link is due from then on
    undue_seen : NoDiskComes port.0 old seen → IsStoppedAndUpForStartIfDet3 (old.port port.0) → (seen.port port.0).link_due ≡ false
    undue_seen none coming = (up none coming).no_link_is_due

    -- and what shows then came since
    clear_since : (seen.port port.0).link_due ≡ false → SerrShowsOnlyNewPlugs port.0 seen new
    clear_since undue =
        let change = c.change (b.undue undue) in
        record {
          serr_n_is_clear = λ none. let parts = plugs_in_parts laws port.0 seen cleared new b.grows c.grows none in change.serr_n_rises_by_plug_events parts.1 ((clear undue).serr_n_is_clear parts.0);
          serr_x_is_clear = λ none. let parts = comes_in_parts laws port.0 seen cleared new b.grows c.grows none in change.serr_x_rises_by_disk_coming parts.1 ((clear undue).serr_x_is_clear parts.0);
        }

    pub has_device : IsClearAndUpIfStoppedUnlessPlugEvents port.0 old new
    has_device = record {
      no_cause_is_set = λ place small. c.calm receives_cleared place (calm place small);
      serr_shows_only_new_plugs = λ coming. record {
        serr_n_is_clear = λ none.
            let parts = plugs_in_parts laws port.0 old seen new a.grows late_half none in
            (clear_since (undue_seen (laws.tape.no_plug_event_no_disk port.0 old seen parts.0) coming)).serr_n_is_clear parts.1;
        serr_x_is_clear = λ none.
            let parts = comes_in_parts laws port.0 old seen new a.grows late_half none in
            (clear_since (undue_seen parts.0 coming)).serr_x_is_clear parts.1;
      };
      no_link_is_due = λ none coming.
          let parts = comes_in_parts laws port.0 old seen new a.grows late_half none in
          c.undue (b.undue (undue_seen parts.0 coming));
      link_is_up = λ none coming.
          let parts = plugs_in_parts laws port.0 old cleared new early_half c.grows none in
          let first = plugs_in_parts laws port.0 old seen cleared a.grows b.grows parts.0 in
          c.up parts.1 receives_cleared (b.up first.1 receives_seen (up (laws.tape.no_plug_event_no_disk port.0 old seen first.0) coming));
      is_clean_to_start = λ awaited. quiet (b.awaited (a.awaited awaited)) (receives_cleared.stopped.engine_is_stopped.cr_is_clear, calm 30 (omega arith));
    }
