-- The waits for a device and until it is idle, and what clears the port's errors.
use Rattle.std.proofs.Common.{ℕ, ◌≡◌, ◌≢◌, ◌+◌, ◌<◌, ◌≤◌, ◌%◌, ◌||◌, true, false, [], ◌∷◌, ◌++◌, inl, inr, refl, sym, ◌∙◌, ap, arith, nat_eq, if◌then◌else◌}
use Rattle.std.proofs.lemmas.Bool.{true≢false}
use Rattle.std.proofs.lemmas.Bool.Decides.{eqb_tells}
use Rattle.std.proofs.lemmas.List.{length-append}
use Rattle.std.proofs.lemmas.List.Elements.{All-nil, All-cons, All-append}
use Rattle.ata_types.specs.declared.Port.{Port}
use Rattle.ata_types.specs.declared.limits.TheConstants.{MOST_READINGS}
use Rattle.hba_regs.specs.Bits.{bit}
use Rattle.hba_regs.specs.declared.reg.PortReg.{PortReg}
use Rattle.hba_regs.specs.declared.reg.PortReg.TheVariants.{Tfd, Sig, Ssts}
use Rattle.hba_regs.specs.declared.reg.Reg.TheVariants.{Px}
use Rattle.adapter.specs.Access.{Reads, capped_count_after_reading, link_wait_count_full_once_linked}
use Rattle.adapter.specs.Access.Access.{Reading}
use Rattle.adapter.specs.Device.{Notes, DevicePort, Device}
use Rattle.refinement.specs.Fragments.{AnySlotStates, ReadsPortOrWrites, IsSimulated}
use Rattle.refinement.specs.Errors.{NoDiskComes}
use Rattle.refinement.specs.PortFacts.{WhileLinkAwaitedCrIsClearAndDrqSet, IsCleanToStart, CrAndTfesAreClear}
use Rattle.refinement.specs.StartedPort.{IsUpForStart, IsStoppedAndUpForStartIfDet3}
use Rattle.port_control.specs.Ports.{IsSerrOrIs, IsOnWithPortAndAgrees, HasLink, ShowsIdle, SawDeviceSinceSctlWrite, SawIdle, IsVainReading, ReadsInVain, ReadsUntil, LastSignatureIsShown}
use Rattle.port_control.proofs.Using.{usable_read}
use Rattle.port_control.proofs.Ceasing.{counted_again}
use Rattle.port_control.proofs.Settling.{comes_in_parts, Settles, settles}
use Rattle.port_control.specs.Laws.RegisterSet.{ClearingErrors}
use Rattle.port_control.specs.Laws.AccessPurpose.{Controlling}
use Rattle.port_control.specs.Laws.{Laws}
use Rattle.port_control.proofs.Stretching.{followed_read, followed_then}

-- so many readings of PxSSTS showed no device with a link
pub record IsMissing (port : Port) (start : Device) (n : ℕ) (d : Device) : Type 0 where
  pub followed : IsSimulated (ReadsPortOrWrites IsSerrOrIs port) AnySlotStates start d
  pub usable : IsOnWithPortAndAgrees AnySlotStates port d
  pub on : IsOnWithPortAndAgrees AnySlotStates port start
  pub det : (d.port port.0).sctl_det ≡ 0
  pub low : n ≤ (d.port port.0).notes.link_wait_count
  pub high : 0 < n → (d.port port.0).notes.link_wait_count ≤ MOST_READINGS
  pub far : 0 < n → (d.port port.0).notes.last_ssts % 16 ≢ 3
  pub misses : ReadsInVain port Ssts HasLink n start d

-- a link is awaited on a port whose TFES is clear
abbrev AwaitsEngineStop : DevicePort → Type 0
AwaitsEngineStop p = WhileLinkAwaitedCrIsClearAndDrqSet p × CrAndTfesAreClear p

-- so many readings of PxTFD showed BSY or DRQ
pub record IsBusyStill (port : Port) (start : Device) (n : ℕ) (d : Device) : Type 0 where
  pub followed : IsSimulated (ReadsPortOrWrites IsSerrOrIs port) AnySlotStates start d
  pub usable : IsOnWithPortAndAgrees AnySlotStates port d
  pub det : (d.port port.0).sctl_det ≡ 0
  pub saw : SawDeviceSinceSctlWrite (d.port port.0).notes
  pub low : n ≤ (d.port port.0).notes.busy_count
  pub high : 0 < n → (d.port port.0).notes.busy_count ≤ MOST_READINGS
  pub stays : ReadsInVain port Tfd ShowsIdle n start d
  pub awaits : AwaitsEngineStop (start.port port.0) → AwaitsEngineStop (d.port port.0)
  pub quiet : 0 < n → AwaitsEngineStop (start.port port.0) → bit (d.port port.0).notes.last_tfd 3 ≡ false → IsCleanToStart (d.port port.0)

counted_far : (det n count : ℕ) → det ≢ 3 → n ≤ count → n < MOST_READINGS → (n + 1 ≤ link_wait_count_full_once_linked det count) × (link_wait_count_full_once_linked det count ≤ MOST_READINGS)
counted_far det n count far low small =
    elim (eqb_tells det 3) [
      | inl both ↦ absurd (far both.1)
      | inr both ↦ rw both.0 (omega arith, omega arith)
    ]

module _ (laws : Laws) where
  pub looks : (port : Port) (r : PortReg) (v : ℕ) (old new : Device) → Reads (Px port r) v old new → IsSimulated (ReadsPortOrWrites IsSerrOrIs port) AnySlotStates old new
  looks port r v old new call = followed_read laws (Controlling ClearingErrors port) (Px port r) v old new refl call

  looks_more : (port : Port) (r : PortReg) (v : ℕ) (start d e : Device) → IsSimulated (ReadsPortOrWrites IsSerrOrIs port) AnySlotStates start d → Reads (Px port r) v d e → IsSimulated (ReadsPortOrWrites IsSerrOrIs port) AnySlotStates start e
  looks_more port r v start d e f call = followed_then laws (Controlling ClearingErrors port) start d e f (looks port r v d e call)

  -- ---- readings until something shows

  module _ (port : Port) (r : PortReg) (Shown : ℕ → Type 0) where
    pub without_none : (d : Device) → ReadsInVain port r Shown 0 d d
    without_none d = record { reads = record { accesses = []; all_are_done = refl; accesses_are_of_kind = All-nil (IsVainReading port r Shown) }; count_is = refl }

    module _ {v : ℕ} {start d e : Device} (n : ℕ) where
      pub without_more : ReadsInVain port r Shown n start d → Reads (Px port r) v d e → (Shown v → ⊥) → ReadsInVain port r Shown (n + 1) start e
      without_more w call not = record {
        reads = record {
          accesses = w.reads.accesses ++ Reading (Px port r) v ∷ [];
          all_are_done = laws.does_append w.reads.accesses (Reading (Px port r) v ∷ []) start d e w.reads.all_are_done (e, call, refl);
          accesses_are_of_kind = All-append (IsVainReading port r Shown) w.reads.accesses (Reading (Px port r) v ∷ []) w.reads.accesses_are_of_kind
              (All-cons (IsVainReading port r Shown) (Reading (Px port r) v) [] (refl, not) (All-nil (IsVainReading port r Shown)));
        };
        count_is = length-append w.reads.accesses (Reading (Px port r) v ∷ []) ∙ ap (λ (k : ℕ). k + 1) w.count_is;
      }

      pub until_shown : n < MOST_READINGS → ReadsInVain port r Shown n start d → Reads (Px port r) v d e → Shown v → ReadsUntil port r Shown start e
      until_shown small w call is = record { count = n; count_is_allowed = small; waited = d; waits = w; value = v; shown = is; reads = call }

  module _ (port : Port) (start d e : Device) (v n : ℕ) (w : IsMissing port start n d) (call : Reads (Px port Ssts) v d e) where
    off : d.hr ≡ false
    off = w.usable.adapter_is_on.no_reset

    pub missing_followed : IsSimulated (ReadsPortOrWrites IsSerrOrIs port) AnySlotStates start e
    missing_followed = looks_more port Ssts v start d e w.followed call

    missing_count : (e.port port.0).notes.link_wait_count ≡ link_wait_count_full_once_linked (v % 16) (d.port port.0).notes.link_wait_count
    missing_count =
        ap (λ (k : Notes). k.link_wait_count) (laws.notes_read port Ssts v d e off call)
        ∙ ap (λ (det : ℕ). if nat_eq det 0 then link_wait_count_full_once_linked (v % 16) (d.port port.0).notes.link_wait_count else (d.port port.0).notes.link_wait_count) w.det

    missing_last : (e.port port.0).notes.last_ssts ≡ v
    missing_last = ap (λ (k : Notes). k.last_ssts) (laws.notes_read port Ssts v d e off call)

    pub device_seen : v % 16 ≡ 3 → SawDeviceSinceSctlWrite (e.port port.0).notes
    device_seen three = (ap (λ (k : ℕ). k % 16) missing_last ∙ three, missing_count ∙ ap (λ (k : ℕ). link_wait_count_full_once_linked k (d.port port.0).notes.link_wait_count) three)

    pub device_up : v % 16 ≡ 3 → NoDiskComes port.0 start e → IsStoppedAndUpForStartIfDet3 (start.port port.0) → IsUpForStart (e.port port.0)
    device_up three none coming =
        let s : Settles port start d = settles laws port start d w.on.adapter_is_on w.followed.is_driven in
        let t : Settles port d e = settles laws port d e w.usable.adapter_is_on (looks port Ssts v d e call).is_driven in
        let parts = comes_in_parts laws port.0 start d e s.grows t.grows none in
        laws.up_is_found port v d e parts.1 call three (s.coming parts.0 coming)

    pub sees_device : n < MOST_READINGS → v % 16 ≡ 3 → ReadsUntil port Ssts HasLink start e
    sees_device small three = until_shown port Ssts HasLink n small w.misses call three

    pub missing_still : n < MOST_READINGS → v % 16 ≢ 3 → IsMissing port start (n + 1) e
    missing_still small far =
        let one = counted_far (v % 16) n (d.port port.0).notes.link_wait_count far w.low small in
        let count = missing_count in
        record {
          followed = missing_followed;
          usable = usable_read laws AnySlotStates port Ssts v d e w.usable call;
          on = w.on;
          det = (settles laws port d e w.usable.adapter_is_on (looks port Ssts v d e call).is_driven).det ∙ w.det;
          low = rw count one.0;
          high = λ _. rw count one.1;
          far = λ _ three. far (sym (ap (λ (k : ℕ). k % 16) missing_last) ∙ three);
          misses = without_more port Ssts HasLink n w.misses call far;
        }

  module _ (port : Port) (start d e : Device) (v n : ℕ) (w : IsBusyStill port start n d) (call : Reads (Px port Tfd) v d e) where
    quiet : d.hr ≡ false
    quiet = w.usable.adapter_is_on.no_reset

    pub busy_followed : IsSimulated (ReadsPortOrWrites IsSerrOrIs port) AnySlotStates start e
    busy_followed = looks_more port Tfd v start d e w.followed call

    pub busy_saw : SawDeviceSinceSctlWrite (e.port port.0).notes
    busy_saw = let same = laws.notes_read port Tfd v d e quiet call in (ap (λ (k : Notes). k.last_ssts % 16) same ∙ w.saw.0, ap (λ (k : Notes). k.link_wait_count) same ∙ w.saw.1)

    pub idle_seen : bit v 7 || bit v 3 ≡ false → SawIdle (e.port port.0).notes
    idle_seen neither = ap (λ (k : Notes). bit k.last_tfd 7 || bit k.last_tfd 3) (laws.notes_read port Tfd v d e quiet call) ∙ neither

    pub busy_waits : n < MOST_READINGS → bit v 7 || bit v 3 ≡ false → ReadsUntil port Tfd ShowsIdle start e
    busy_waits small neither = until_shown port Tfd ShowsIdle n small w.stays call neither

    -- without DRQ the link isn't due
    pub busy_quiet : AwaitsEngineStop (start.port port.0) → bit (e.port port.0).notes.last_tfd 3 ≡ false → IsCleanToStart (e.port port.0)
    busy_quiet awaits clear =
        let h = w.awaits awaits in
        let last : (e.port port.0).notes.last_tfd ≡ v = ap (λ (k : Notes). k.last_tfd) (laws.notes_read port Tfd v d e quiet call) in
        laws.law_tfes_and_drq_clear_mean_clean_to_start port v d e h.0 h.1 call (ap (λ (k : ℕ). bit k 3) (sym last) ∙ clear)

    pub busy_still : n < MOST_READINGS → bit v 7 || bit v 3 ≡ true → IsBusyStill port start (n + 1) e
    busy_still small busy =
        let one = counted_again (bit v 7 || bit v 3) n (d.port port.0).notes.busy_count busy w.low small in
        let count =
        ap (λ (k : Notes). k.busy_count) (laws.notes_read port Tfd v d e quiet call)
        ∙ ap (λ (det : ℕ). if nat_eq det 0 then capped_count_after_reading (bit v 7 || bit v 3) (d.port port.0).notes.busy_count else (d.port port.0).notes.busy_count) w.det in
        record {
          followed = busy_followed;
          usable = usable_read laws AnySlotStates port Tfd v d e w.usable call;
          det = (settles laws port d e w.usable.adapter_is_on (looks port Tfd v d e call).is_driven).det ∙ w.det;
          saw = busy_saw;
          low = rw count one.0;
          high = λ _. rw count one.1;
          stays = without_more port Tfd ShowsIdle n w.stays call (λ neither. absurd (true≢false (sym busy ∙ neither)));
          awaits = λ h. let a = w.awaits h in (laws.reads_keep_drq_till_link port.0 (Px port Tfd) v d e call a.0, laws.reads_keep_tfes_clear port.0 (Px port Tfd) v d e call a.1);
          quiet = λ _. busy_quiet;
        }

  -- ---- the signature is read

  module _ (port : Port) (d e : Device) (v : ℕ) (u : IsOnWithPortAndAgrees AnySlotStates port d) (call : Reads (Px port Sig) v d e) where
    signed : (e.port port.0).notes ≡ record (d.port port.0).notes { last_sig = v }
    signed = laws.notes_read port Sig v d e u.adapter_is_on.no_reset call

    pub sig_saw : SawDeviceSinceSctlWrite (d.port port.0).notes → SawDeviceSinceSctlWrite (e.port port.0).notes
    sig_saw saw = (ap (λ (k : Notes). k.last_ssts % 16) signed ∙ saw.0, ap (λ (k : Notes). k.link_wait_count) signed ∙ saw.1)

    pub sig_idle : SawIdle (d.port port.0).notes → SawIdle (e.port port.0).notes
    sig_idle idle = ap (λ (k : Notes). bit k.last_tfd 7 || bit k.last_tfd 3) signed ∙ idle

    pub sig_last : (e.port port.0).notes.last_sig ≡ v
    sig_last = ap (λ (k : Notes). k.last_sig) signed

    -- what PxTFD was read as stays, and so what it showed
    pub sig_quiet : (bit (d.port port.0).notes.last_tfd 3 ≡ false → IsCleanToStart (d.port port.0)) → bit (e.port port.0).notes.last_tfd 3 ≡ false → IsCleanToStart (e.port port.0)
    sig_quiet was clear = laws.reads_keep_clean_to_start port.0 (Px port Sig) v d e call (was (ap (λ (k : Notes). bit k.last_tfd 3) (sym signed) ∙ clear))

    pub sig_shown : LastSignatureIsShown (e.port port.0)
    sig_shown = sig_last ∙ laws.shown_after port Sig v d e u.adapter_is_on.no_reset call
