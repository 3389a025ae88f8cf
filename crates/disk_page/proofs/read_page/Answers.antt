use Rattle.std.proofs.Common.{ℕ, ◌≡◌, sym, ◌∙◌, ap, subst}
use Rattle.adapter.specs.Access.{Loads}
use Rattle.adapter.specs.declared.command.Prd.{Prd}
use Rattle.adapter.specs.Rules.{IsInMemoryNotOwnedByDevice, IsStable}
use Rattle.refinement.specs.MemoryLayout.{scratch_frame_address}
use Rattle.refinement.specs.Slots.{Own, set_slot_state}
use Rattle.disk_page.specs.PageRequests.{page_operation}
use Rattle.disk_page.proofs.Asking.{asked_back, asked_then, asked_in_vain, page_free, load_on, load_clear, load_agrees, load_followed, load_brings, load_running, load_silent}
use Rattle.disk_page.proofs.Leaving.{asking_leaves_running}
use Rattle.disk_page.proofs.read_page.Goals as goal

pub load-requires : goal.load-requires
load-requires g c =
    let r = c.requires.may in
    let at : c.scratch_prd.result.address ≡ scratch_frame_address c.args.port.0 = ap (λ (e : Prd). e.address) c.scratch_prd.ensures.is in
    let asked = c.ask.ensures.asks.page_is_awaited r.machine_is_related.0 r.machine_is_related.1 r.machine_is_related.2 in
    let waiting = c.wait.ensures.waiting _ _ _ _ asked in
    let clear = c.wait.ensures.over c.if-not-wait.false _ _ _ _ asked in
    let F : ℕ → Type 0 = λ place. IsStable (IsInMemoryNotOwnedByDevice place 512) (g.A.Adapter.device c.wait.new.adapter) in
    subst F (sym at) (page_free c.law_prerequisites.ensures c.args.port _ _ _ _ _ r.has_port.0 waiting clear)

pub returns-clause-on : goal.returns-clause-on
returns-clause-on g c =
    let r = c.requires.may in
    let at : c.scratch_prd.result.address ≡ scratch_frame_address c.args.port.0 = ap (λ (e : Prd). e.address) c.scratch_prd.ensures.is in
    let asked = c.ask.ensures.asks.page_is_awaited r.machine_is_related.0 r.machine_is_related.1 r.machine_is_related.2 in
    let waiting = c.wait.ensures.waiting _ _ _ _ asked in
    let clear = c.wait.ensures.over c.if-not-wait.false _ _ _ _ asked in
    let L : ℕ → Type 0 = λ place. Loads place c.load.new.out (g.A.Adapter.device c.wait.new.adapter) (g.A.Adapter.device c.load.new.self) in
    let load : Loads (scratch_frame_address c.args.port.0) c.load.new.out (g.A.Adapter.device c.wait.new.adapter) (g.A.Adapter.device c.load.new.self) = subst L at c.load.ensures.does in
    let size = c.load.auto.out in
    load_on c.law_prerequisites.ensures c.args.port _ _ _ _ _ r.has_port.0 waiting clear _ _ load size

pub returns-then-not-wait-clause-gets : goal.returns-then-not-wait-clause-gets
returns-then-not-wait-clause-gets g c =
    let r = c.requires.may in
    let told = asked_in_vain c.law_prerequisites.ensures c.args.port (λ uses. set_slot_state uses c.args.port.0 0 (Own (page_operation c.args.page))) _ _ _ c.ask.ensures.asks.followed (c.wait.ensures.vain c.if-not-wait.true).1 in
    record {
      leaves_running = asking_leaves_running c.law_prerequisites.ensures c.args.port _ _ r.adapter_is_on told.is_simulated.is_driven;
      agrees = λ uses free agreed. (c.wait.ensures.waiting _ _ _ _ (c.ask.ensures.asks.page_is_awaited uses free agreed)).machine_is_related;
      reads = ((c.wait.ensures.vain c.if-not-wait.true).0, told);
      page_ends_halt = tt;
      no_other_page_moves = λ o page differs. (c.wait.ensures.waiting _ _ _ _ (c.ask.ensures.asks.page_is_awaited r.machine_is_related.0 r.machine_is_related.1 r.machine_is_related.2)).no_other_page_moves o page differs;
    }

pub returns-clause-gets : goal.returns-clause-gets
returns-clause-gets g c =
    let r = c.requires.may in
    let at : c.scratch_prd.result.address ≡ scratch_frame_address c.args.port.0 = ap (λ (e : Prd). e.address) c.scratch_prd.ensures.is in
    let asked = c.ask.ensures.asks.page_is_awaited r.machine_is_related.0 r.machine_is_related.1 r.machine_is_related.2 in
    let waiting = c.wait.ensures.waiting _ _ _ _ asked in
    let clear = c.wait.ensures.over c.if-not-wait.false _ _ _ _ asked in
    let L : ℕ → Type 0 = λ place. Loads place c.load.new.out (g.A.Adapter.device c.wait.new.adapter) (g.A.Adapter.device c.load.new.self) in
    let load : Loads (scratch_frame_address c.args.port.0) c.load.new.out (g.A.Adapter.device c.wait.new.adapter) (g.A.Adapter.device c.load.new.self) = subst L at c.load.ensures.does in
    let size = c.load.auto.out in
    let followed =
    asked_then c.law_prerequisites.ensures c.args.port (λ uses. set_slot_state uses c.args.port.0 0 (Own (page_operation c.args.page))) _ _ _
    (asked_then c.law_prerequisites.ensures c.args.port (λ uses. set_slot_state uses c.args.port.0 0 (Own (page_operation c.args.page))) _ _ _ c.ask.ensures.asks.followed c.wait.ensures.followed)
    (load_followed c.law_prerequisites.ensures c.args.port _ _ _ _ _ r.has_port.0 waiting clear _ _ load size) in
    let back = asked_back c.law_prerequisites.ensures c.args.port (page_operation c.args.page) _ _ (load_clear c.law_prerequisites.ensures c.args.port _ _ _ _ _ r.has_port.0 waiting clear _ _ load size).over followed in
    record {
      leaves_running = asking_leaves_running c.law_prerequisites.ensures c.args.port _ _ r.adapter_is_on back.is_driven;
      agrees = λ uses free agreed.
          let asked = c.ask.ensures.asks.page_is_awaited uses free agreed in
          let waiting = c.wait.ensures.waiting _ _ _ _ asked in
          let clear = c.wait.ensures.over c.if-not-wait.false _ _ _ _ asked in
          c.law_prerequisites.ensures.release_keeps_relation uses c.args.port.0 (page_operation c.args.page) _ free (load_clear c.law_prerequisites.ensures c.args.port _ _ _ _ _ r.has_port.0 waiting clear _ _ load size).over
          (load_agrees c.law_prerequisites.ensures c.args.port _ _ _ _ _ r.has_port.0 waiting clear _ _ load size);
      reads = (load_brings c.law_prerequisites.ensures c.args.port _ _ _ _ _ r.has_port.0 waiting clear _ _ load size _ c.ask.ensures.asks.tape_is_not_shorter, back);
      page_ends_halt = λ (uses, free, agreed).
          let asked = c.ask.ensures.asks.page_is_awaited uses (free 0) agreed in
          let waiting = c.wait.ensures.waiting _ _ _ _ asked in
          let clear = c.wait.ensures.over c.if-not-wait.false _ _ _ _ asked in
          load_running c.law_prerequisites.ensures c.args.port _ _ _ _ _ r.has_port.0 waiting clear _ _ load c.load.auto.out
          (λ slot other. c.law_prerequisites.ensures.other_slots_are_kept uses c.args.port.0 0 (Own (page_operation c.args.page)) c.args.port.0 slot (λ same here. other here) ∙ free slot);
      no_other_page_moves = λ o page differs.
          load_silent c.law_prerequisites.ensures c.args.port _ _ _ _ _ r.has_port.0 waiting clear _ _ load c.load.auto.out o page differs;
    }
