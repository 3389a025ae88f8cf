use Rattle.std.proofs.Common.{ℕ, subst}
use Rattle.hba_regs.specs.declared.reg.PortReg.TheVariants.{Ie}
use Rattle.hba_regs.specs.declared.reg.Reg.TheVariants.{Px}
use Rattle.adapter.specs.Access.{Writes}
use Rattle.port_boot.proofs.Identifying.{halt_driven, identified, unasked_there, unasked_agreed, unasked_boots, unasked_ends, enabling, enabled_on, enabled_since, enabled_ready, enabled_boots, enabled_halts, halted_boots, halted_ends}
use Rattle.port_boot.proofs.Outcomes.{halted_late, judged_late, no_page_late, told_runs_on, stops_then}
use Rattle.port_boot.proofs.identify_disk.Goals as goal

pub halt-requires-clause-has_port : goal.halt-requires-clause-has_port
halt-requires-clause-has_port g c = let e = c.in_default.ensures in unasked_there c.law_prerequisites.ensures c.args.port _ _ _ c.requires.up.1 e.on e.gets.leaves_running e.gets.reads e.gets.agrees

pub halt-requires-clause-some_machine_agrees : goal.halt-requires-clause-some_machine_agrees
halt-requires-clause-some_machine_agrees g c = let e = c.in_default.ensures in unasked_agreed c.law_prerequisites.ensures c.args.port _ _ _ c.requires.up.1 e.on e.gets.leaves_running e.gets.reads e.gets.agrees

pub write-requires : goal.write-requires
write-requires g c = let e = c.in-Some.ensures in enabling c.law_prerequisites.ensures c.args.port c.causes.result _ (identified c.law_prerequisites.ensures c.args.port _ _ _ c.in-Some.page c.requires.up.1 e.on e.gets.leaves_running e.gets.reads e.gets.agrees).bootable

pub halt-requires-in-Err-clause-has_port : goal.halt-requires-in-Err-clause-has_port
halt-requires-in-Err-clause-has_port g c = let e = c.in-Some.ensures in (identified c.law_prerequisites.ensures c.args.port _ _ _ c.in-Some.page c.requires.up.1 e.on e.gets.leaves_running e.gets.reads e.gets.agrees).bootable.has_port

pub halt-requires-in-Err-clause-some_machine_agrees : goal.halt-requires-in-Err-clause-some_machine_agrees
halt-requires-in-Err-clause-some_machine_agrees g c =
    let e = c.in-Some.ensures in
    let a = (identified c.law_prerequisites.ensures c.args.port _ _ _ c.in-Some.page c.requires.up.1 e.on e.gets.leaves_running e.gets.reads e.gets.agrees).bootable.machine_is_related in
    (a.0, tt, a.2)

pub returns-in-Ok-clause-adapter_is_on : goal.returns-in-Ok-clause-adapter_is_on
returns-in-Ok-clause-adapter_is_on g c = let e = c.in-Some.ensures in enabled_on c.law_prerequisites.ensures c.args.port _ _ _ c.in-Some.page c.requires.up.1 e.on e.gets.leaves_running e.gets.reads e.gets.agrees _ _ c.write.ensures.does

pub returns-in-Ok-clause-written : goal.returns-in-Ok-clause-written
returns-in-Ok-clause-written g c =
    let e = c.in-Some.ensures in
    enabled_since c.law_prerequisites.ensures c.args.port _ _ _ c.in-Some.page c.requires.up.1 e.on e.gets.leaves_running e.gets.reads e.gets.agrees _ _ c.write.ensures.does

pub returns-in-Ok-clause-identifies : goal.returns-in-Ok-clause-identifies
returns-in-Ok-clause-identifies g c =
    let e = c.in-Some.ensures in
    let W : ℕ → Type 0 = λ causes. Writes (Px c.args.port Ie) causes (g.A.Adapter.device c.read_page.new.adapter) (g.A.Adapter.device c.write.new.self) in
    record {
      ready = enabled_ready c.law_prerequisites.ensures c.args.port _ _ _ c.in-Some.page c.requires.up.1 e.on e.gets.leaves_running e.gets.reads e.gets.agrees _ _ c.write.ensures.does c.args.wanted.now _ c.causes.ensures c.in-Ok.ensures.fit;
      boots = enabled_boots c.law_prerequisites.ensures c.args.port _ _ _ c.in-Some.page c.requires.up.1 e.on e.gets.leaves_running e.gets.reads e.gets.agrees _ _ c.write.ensures.does;
      asks_disk = record { asked = _; asks = e.gets.reads.1.is_driven; enables_interrupts = subst W c.causes.ensures c.write.ensures.does };
      halt_fits_taken_commands = enabled_halts c.law_prerequisites.ensures c.args.port _ _ _ c.in-Some.page c.requires.up.1 e.on e.gets.leaves_running e.gets.reads e.gets.agrees _ _ c.write.ensures.does e.gets.page_ends_halt c.args.wanted.now _ c.causes.ensures c.in-Ok.ensures.fit;
      runs_on = told_runs_on c.law_prerequisites.ensures c.args.port _ _ _ c.requires.up.1 e.gets.reads.1.is_driven _ _ e.on c.write.ensures.does;
    }

pub returns-in_default-clause-fails : goal.returns-in_default-clause-fails
returns-in_default-clause-fails g c =
    let e = c.in_default.ensures in
    let h = c.halt.ensures in
    record {
      state_is_backed = unasked_ends c.law_prerequisites.ensures c.args.port _ _ _ c.requires.up.1 e.on e.gets.leaves_running e.gets.reads e.gets.agrees _ h.has c.args.wanted.now _ h.halted;
      boots = unasked_boots c.law_prerequisites.ensures c.args.port _ _ _ c.requires.up.1 e.on e.gets.leaves_running e.gets.reads e.gets.agrees _ h.has _ h.halted;
      stops_with_link_up = stops_then c.law_prerequisites.ensures c.args.port _ _ _ c.requires.up.1 e.gets.reads.1.is_simulated.is_driven _ e.on e.gets.leaves_running (halt_driven c.args.port _ _ _ _ c.halt.ensures.halted);
      was_started = halted_late c.args.port _ _ _ _ no_page_late h.halted;
    }

pub returns-in-Err-clause-fails : goal.returns-in-Err-clause-fails
returns-in-Err-clause-fails g c =
    let e = c.in-Some.ensures in
    let h = c.halt-in-Err.ensures in
    record {
      state_is_backed = halted_ends c.law_prerequisites.ensures c.args.port _ _ _ c.in-Some.page c.requires.up.1 e.on e.gets.leaves_running e.gets.reads e.gets.agrees _ (halt_driven c.args.port _ _ _ _ h.halted) h.has c.args.wanted.now _ _ c.in-Err.ensures.judged h.halted;
      boots = halted_boots c.law_prerequisites.ensures c.args.port _ _ _ c.in-Some.page c.requires.up.1 e.on e.gets.leaves_running e.gets.reads e.gets.agrees c.args.wanted.now _ _ _ c.in-Err.ensures.judged h.halted;
      stops_with_link_up = stops_then c.law_prerequisites.ensures c.args.port _ _ _ c.requires.up.1 e.gets.reads.1.is_driven _ e.on e.gets.leaves_running (halt_driven c.args.port _ _ _ _ c.halt-in-Err.ensures.halted);
      was_started = halted_late c.args.port _ _ _ _ (judged_late c.args.wanted.now _ _ c.in-Err.ensures.judged) h.halted;
    }
