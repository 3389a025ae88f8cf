use Rattle.std.proofs.Common.{ℕ, Option, ap, refl}
use Rattle.std.specs.Prelude.{option_map}
use Rattle.device_model.specs.PortView.{taken_of}
use Rattle.device_model.specs.declared.port.TakenCommand.{TakenCommand}
use Rattle.device_model.proofs.NewModel.{zero_bit}
use Rattle.device_model.proofs.port.PortModel.new.Goals as goal

pub returns-clause-idle : goal.returns-clause-idle
returns-clause-idle c = λ m. record {
  st_is_clear = refl;
  cr_is_clear = refl;
  fre_is_clear = refl;
  fr_is_clear = refl;
  ci_is_clear = zero_bit;
  sact_is_clear = zero_bit;
  none_is_taken = λ slot. ap (λ (f : ℕ → Option TakenCommand). option_map taken_of (f slot)) c.in_ok-taken.ensures;
}

pub returns-clause-reset : goal.returns-clause-reset
returns-clause-reset c = λ m. record {
  bases_are = λ i. record {
    clb = c.default.ensures.0 i;
    fb = c.default.ensures.1.0 i;
    clb_set = c.default.ensures.1.1.0 i;
    clbu_set = c.default.ensures.1.1.1.0 i;
    fb_set = c.default.ensures.1.1.1.1.0 i;
    fbu_set = c.default.ensures.1.1.1.1.1 i;
  };
  tfd = refl;
  sig = refl;
  ssts_det = refl;
  sctl_det = refl;
  ie = refl;
  serr_n = refl;
  serr_x = refl;
  is = zero_bit;
  ips = refl;
  other_causes = refl;
  fresh = refl;
  link_due = refl;
  halt = refl;
  no_fatal_error = refl;
  notes = λ i. record {
    st_set_at = c.default-2.ensures.0 i;
    sctl_written_at = c.default-2.ensures.1.0 i;
    last_cmd = c.default-2.ensures.1.1.0 i;
    last_ssts = c.default-2.ensures.1.1.1.0 i;
    last_tfd = c.default-2.ensures.1.1.1.1.0 i;
    last_sig = c.default-2.ensures.1.1.1.1.1.0 i;
    last_ci = c.default-2.ensures.1.1.1.1.1.1.0 i;
    last_sact = c.default-2.ensures.1.1.1.1.1.1.1.0 i;
    engine_wait_count = c.default-2.ensures.1.1.1.1.1.1.1.1.0 i;
    link_wait_count = c.default-2.ensures.1.1.1.1.1.1.1.1.1.0 i;
    busy_count = c.default-2.ensures.1.1.1.1.1.1.1.1.1.1.0 i;
    slot0_issued_count = c.default-2.ensures.1.1.1.1.1.1.1.1.1.1.1.0 i;
    acknowledged = c.default-2.ensures.1.1.1.1.1.1.1.1.1.1.1.1 i;
  };
}
