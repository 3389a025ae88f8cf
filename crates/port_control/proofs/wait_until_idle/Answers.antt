use Rattle.ata_types.specs.declared.limits.TheConstants.{MOST_READINGS}
use Rattle.std.proofs.Common.{ℕ, ◌≡◌, sym, ◌∙◌, subst, arith, rules}
use Rattle.hba_regs.specs.declared.reg.PortReg.TheVariants.{Tfd}
use Rattle.port_control.proofs.Looking.{busy_followed, busy_saw, busy_waits, busy_quiet, idle_seen, busy_still, without_none}
use Rattle.port_control.specs.Ports.{ShowsIdle, ReadsInVain}
use Rattle.port_control.proofs.wait_until_idle.Goals as goal
use Rattle.port_control.specs.Laws.RegisterSet.{ClearingErrors}
use Rattle.port_control.specs.Laws.AccessPurpose.{Controlling}

pub loop-reading-init : goal.loop-reading-init
loop-reading-init g c = record {
  known = record {
    followed = (c.law_prerequisites.ensures.fragments.empty_fragment_is_simulated (Controlling ClearingErrors c.args.port) _).is_simulated;
    usable = c.requires.usable;
    det = c.requires.det;
    saw = c.requires.saw;
    low = omega arith;
    high = λ h. absurd (omega (arith, h));
    stays = without_none c.law_prerequisites.ensures c.args.port Tfd ShowsIdle _;
    awaits = λ h. h;
    quiet = λ h. absurd (omega (arith, h));
  };
  cost = omega arith;
}

pub returns-then-not-is_bsy_or_drq-clause-followed : goal.returns-then-not-is_bsy_or_drq-clause-followed
returns-then-not-is_bsy_or_drq-clause-followed g c = busy_followed c.law_prerequisites.ensures _ _ _ _ _ _ c.loop-reading.invariant.known c.read.ensures.does

pub returns-then-not-is_bsy_or_drq-clause-awaits : goal.returns-then-not-is_bsy_or_drq-clause-awaits
returns-then-not-is_bsy_or_drq-clause-awaits g c =
    let known = c.loop-reading.invariant.known in
    let clear = sym c.is_bsy_or_drq.ensures ∙ c.if-not-is_bsy_or_drq.true in
    record {
      device_was_seen = busy_saw c.law_prerequisites.ensures _ _ _ _ _ _ known c.read.ensures.does;
      found_disk_is_idle = λ _. (
        idle_seen c.law_prerequisites.ensures _ _ _ _ _ _ known c.read.ensures.does clear,
        busy_waits c.law_prerequisites.ensures _ _ _ _ _ _ known c.read.ensures.does (omega arith) clear,
      );
      busy_is_backed = λ is. absurd (cc);
      is_clean_to_start = λ awaited unflagged. busy_quiet c.law_prerequisites.ensures _ _ _ _ _ _ known c.read.ensures.does (awaited, unflagged);
    }

pub loop-reading-preserved : goal.loop-reading-preserved
loop-reading-preserved g c = record {
  known = busy_still c.law_prerequisites.ensures _ _ _ _ _ _ c.loop-reading.invariant.known c.read.ensures.does (omega arith) (sym c.is_bsy_or_drq.ensures ∙ c.if-not-is_bsy_or_drq.false);
  cost = omega arith;
}

pub returns-clause-awaits : goal.returns-clause-awaits
returns-clause-awaits g c =
    let all : c.loop-reading._reading ≡ MOST_READINGS = omega arith in
    record {
      device_was_seen = c.loop-reading.invariant.known.saw;
      found_disk_is_idle = λ is. absurd (cc);
      busy_is_backed = λ _. (
        search rules,
        subst (λ (n : ℕ). ReadsInVain c.args.port Tfd ShowsIdle n (g.A.Adapter.device c.args.adapter.now) (g.A.Adapter.device c.loop-reading.adapter)) all c.loop-reading.invariant.known.stays,
      );
      is_clean_to_start = search rules;
    }
