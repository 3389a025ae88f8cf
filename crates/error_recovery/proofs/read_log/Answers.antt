use Rattle.std.proofs.Common.{ℕ, ◌≡◌, inl, inr, refl, sym, ◌∙◌, ap, arith}
use Rattle.hba_regs.specs.Bits.{bit}
use Rattle.adapter.specs.declared.command.Operation.TheVariants.{Identify, ReadLog}
use Rattle.error_recovery.proofs.Starting.{tag_is_small}
use Rattle.error_recovery.proofs.read_log.Goals as goal

pub read_page-requires : goal.read_page-requires
read_page-requires g c =
    let r = c.requires in
    let a = r.some_machine_agrees in
    record { may = record { adapter_is_on = r.room.adapter_is_on; has_port = r.room.has_port; driver_memory_fits = r.room.driver_memory_fits; machine_is_related = (a.0, a.1 0, a.2); may_ask = r.may } }

pub returns-in_default-clause-some_machine_agrees : goal.returns-in_default-clause-some_machine_agrees
returns-in_default-clause-some_machine_agrees g c = let a = c.requires.some_machine_agrees in (_, tt, c.in_default.ensures.gets.agrees a.0 (a.1 0) a.2)

pub is_set-requires : goal.is_set-requires
is_set-requires g c =
    let told = (c.in-Some-parse_log.ensures.failure_is_named c.in-Some-parse_log.tag c.in-Some-parse_log.status c.in-Some-parse_log.error).0 refl in
    let small = tag_is_small _ _ _ _ told in
    let same = c.from.ensures in
    omega (arith, small, same)

pub returns-in_default-clause-asks : goal.returns-in_default-clause-asks
returns-in_default-clause-asks g c =
    record {
      reads = inl c.in_default.ensures.gets.reads;
      leaves = c.in_default.ensures.gets.leaves_running;
      is_not_halted_if_named = tt;
      no_identify_moves = c.in_default.ensures.gets.no_other_page_moves Identify refl (λ (e : Identify ≡ ReadLog). absurd (cc));
    }

pub returns-in_default-parse_log-clause-asks : goal.returns-in_default-parse_log-clause-asks
returns-in_default-parse_log-clause-asks g c =
    record {
      reads = inr (_, c.in-Some.ensures.gets.reads, inl (c.in_default-parse_log.ensures.no_failure_is_named.0 refl));
      leaves = c.in-Some.ensures.gets.leaves_running;
      is_not_halted_if_named = tt;
      no_identify_moves = c.in-Some.ensures.gets.no_other_page_moves Identify refl (λ (e : Identify ≡ ReadLog). absurd (cc));
    }

pub returns-then-is_set-clause-asks : goal.returns-then-is_set-clause-asks
returns-then-is_set-clause-asks g c =
    let told = (c.in-Some-parse_log.ensures.failure_is_named c.in-Some-parse_log.tag c.in-Some-parse_log.status c.in-Some-parse_log.error).0 refl in
    record {
      reads = (_, c.in-Some.ensures.gets.reads, told, ap (λ (n : ℕ). bit c.args.outstanding n) (sym c.from.ensures) ∙ (sym c.is_set.ensures ∙ c.if-is_set.true));
      leaves = c.in-Some.ensures.gets.leaves_running;
      is_not_halted_if_named = c.in-Some.ensures.gets.page_ends_halt c.requires.some_machine_agrees;
      no_identify_moves = c.in-Some.ensures.gets.no_other_page_moves Identify refl (λ (e : Identify ≡ ReadLog). absurd (cc));
    }

pub returns-else-is_set-clause-asks : goal.returns-else-is_set-clause-asks
returns-else-is_set-clause-asks g c =
    let told = (c.in-Some-parse_log.ensures.failure_is_named c.in-Some-parse_log.tag c.in-Some-parse_log.status c.in-Some-parse_log.error).0 refl in
    record {
      reads = inr (
        _,
        c.in-Some.ensures.gets.reads,
        inr (record {
          tag = _;
          status = _;
          error = _;
          tells = told;
          is_not_outstanding = ap (λ (n : ℕ). bit c.args.outstanding n) (sym c.from.ensures) ∙ (sym c.is_set.ensures ∙ c.if-is_set.false);
        }),
      );
      leaves = c.in-Some.ensures.gets.leaves_running;
      is_not_halted_if_named = tt;
      no_identify_moves = c.in-Some.ensures.gets.no_other_page_moves Identify refl (λ (e : Identify ≡ ReadLog). absurd (cc));
    }
