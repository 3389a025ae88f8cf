use Rattle.ata_types.specs.declared.limits.TheConstants.{MOST_READINGS}
use Rattle.std.proofs.Common.{ℕ, ◌≡◌, subst, arith, rules}
use Rattle.hba_regs.specs.declared.reg.PortReg.TheVariants.{Ssts}
use Rattle.port_control.proofs.Looking.{missing_followed, device_seen, device_up, sees_device, without_none, missing_still}
use Rattle.port_control.specs.Ports.{HasLink, ReadsInVain}
use Rattle.port_control.proofs.wait_for_device.Goals as goal
use Rattle.port_control.specs.Laws.RegisterSet.{ClearingErrors}
use Rattle.port_control.specs.Laws.AccessPurpose.{Controlling}

pub loop-reading-init : goal.loop-reading-init
loop-reading-init g c = record {
  known = record {
    followed = (c.law_prerequisites.ensures.fragments.empty_fragment_is_simulated (Controlling ClearingErrors c.args.port) _).is_simulated;
    usable = c.requires.usable;
    on = c.requires.usable;
    det = c.requires.det;
    low = omega arith;
    high = λ h. absurd (omega (arith, h));
    far = λ h. absurd (omega (arith, h));
    misses = without_none c.law_prerequisites.ensures c.args.port Ssts HasLink _;
  };
  cost = omega arith;
}

pub returns-then-detection-eq-DEVICE_WITH_LINK-clause-followed : goal.returns-then-detection-eq-DEVICE_WITH_LINK-clause-followed
returns-then-detection-eq-DEVICE_WITH_LINK-clause-followed g c = missing_followed c.law_prerequisites.ensures _ _ _ _ _ _ c.loop-reading.invariant.known c.read.ensures.does

pub returns-then-detection-eq-DEVICE_WITH_LINK-clause-finds : goal.returns-then-detection-eq-DEVICE_WITH_LINK-clause-finds
returns-then-detection-eq-DEVICE_WITH_LINK-clause-finds g c = λ _. record {
  reads_until_link = sees_device c.law_prerequisites.ensures _ _ _ _ _ _ c.loop-reading.invariant.known c.read.ensures.does (omega arith) (omega arith);
  device_was_seen = device_seen c.law_prerequisites.ensures _ _ _ _ _ _ c.loop-reading.invariant.known c.read.ensures.does (omega arith);
  link_is_up = device_up c.law_prerequisites.ensures _ _ _ _ _ _ c.loop-reading.invariant.known c.read.ensures.does (omega arith);
}

pub loop-reading-preserved : goal.loop-reading-preserved
loop-reading-preserved g c = record {
  known = missing_still c.law_prerequisites.ensures _ _ _ _ _ _ c.loop-reading.invariant.known c.read.ensures.does (omega arith) (λ three. absurd (omega arith));
  cost = omega arith;
}

pub returns-clause-misses : goal.returns-clause-misses
returns-clause-misses g c = λ _.
    let all : c.loop-reading._reading ≡ MOST_READINGS = omega arith in
    record {
      reads_in_vain = subst (λ (n : ℕ). ReadsInVain c.args.port Ssts HasLink n (g.A.Adapter.device c.args.adapter.now) (g.A.Adapter.device c.loop-reading.adapter)) all c.loop-reading.invariant.known.misses;
      no_device_is_backed = search rules;
    }
