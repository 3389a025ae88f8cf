-- `more` makes a value of no bytes, with the count that its clause names. Assumes `Logic`.
use mathlib.Core.Path.{sym, subst}
use Rattle.std.proofs.Common.{ℕ, ◌+◌, List, [], ◌∷◌, ◌++◌, refl}
use seplogic.Ra.Ura.{Ura}
use mir.Val.{Val, vptr, vstruct, vcons, vnil}
use base.Logic.{SProp, ent, via, fst∗, snd∗}
use base.Fml.{Fml}
use prog.Memory.{Memory}
use prog.Routine.{Routine}
use prog.Wp.{Calls, Loops, WpFn, Tables}
use contract.Monad.{Fun, fact_use}
use contract.Running.{tables, tables_of}
use sound.WpLaws.{WpFn-mono}
use types.Logic.{Logic, sem}
use types.Kit.{‵, raw, ◌⊛◌, ◌$◌, ◌∵◌, !, qed, move, keep, split, join, fjoin, suffices, use0, done}
use types.Part.{agg}
use types.Run.{enter, returns, and_then, no_more}
use types.ByLocal.{alloc_all, pass_all, free_all, look_at, get, sets}
use denote.Exit.{yes}
use denote.Builtin.{RefOf}
use denote.RattleType.{RattleType, owns}
use denote.Laws.{Are, Ises, owns_show, showss}
use denote.Shadow.{makes_shadow}
use denote.Signature.{plain, types_at, type_at}
use denote.Steps.{nothing}
use denote.Triple.Clauses.{Clauses, closing}
use denote.Triple.Entry.{alive, on_entry, Res}
use denote.Triple.Spec.{Meets, triple_of}
use denote.Triple.Table.{entered}
use denote.Triple.Walked.{says, Stays, stay_dropped, walk_of, ends_at, walk_Meets, Goes-dropped}
use Rattle.adapter.specs.contracts.counting.AccessCount.{the_row}
use Rattle.adapter.specs.contracts.counting.AccessCount.more as F
use Rattle.adapter.specs.contracts.counting.AccessCount.more.Key.{name as #self}
use Rattle.adapter.proofs.counting.AccessCount.more.Statement as stated
use Rattle.adapter.proofs.counting.AccessCount.more.Code as code

abbrev stayed : Stays F.ended.signature.params F.ended.kept
stayed = (stay_dropped (RefOf (0 ∷ []) tt (plain (λ _. the_row)) (λ _. tt)) yes, tt)

module _ {M : Type 1} {𝓤 : Ura M} (𝓛 : Logic 𝓤) (at_mem : Memory → SProp 𝓤) (run : Routine → Fun 𝓤) where
  open 𝓛 use {H}

  abbrev held : Clauses 𝓤 F.ended
  held = F.clauses 𝓛 at_mem run

  module _ (C : Calls 𝓤 H) (Λ : Loops 𝓤 H) (z : (walk_of 𝓛 F.ended stayed held).Ghost) where
    abbrev At : List Val → (walk_of 𝓛 F.ended stayed held).Ghost
    At us = ((z.0.0, z.0.1, z.0.2, z.0.3, (us, tt)), z.1)

    abbrev Post : List Val → Val → SProp 𝓤
    Post us = (walk_of 𝓛 F.ended stayed held).post (At us)

    abbrev Goes : List Val → Type 1
    Goes us = ent 𝓤 ((walk_of 𝓛 F.ended stayed held).pre (At us)) (WpFn 𝓤 H C Λ code.function (us ++ []) (Post us))

    abbrev b : ℕ
    b = z.0.3.0.ref_ptr.0

    abbrev o : ℕ
    o = z.0.3.0.ref_ptr.1

    abbrev toks : SProp 𝓤
    toks = alive 𝓛 F.ended.signature z.0.0 z.0.1

    abbrev passed : Fml
    passed = owns (types_at F.ended.signature.params z.0.0) z.0.3 (vptr b o ∷ [], tt)

    walks : Goes (vptr b o ∷ [])
    walks =
        let v : Val = vstruct (vcons (vstruct vnil) vnil) in
        let r : Res F.ended.signature z.0.0 = record { marker = record {}; made = z.0.3.0.now.made + 1 } in
        let O : Fml = (type_at F.ended.signature.result z.0.0).own_val r (v ∷ []) in
        qed 𝓛 ((raw toks ⊛ ‵ passed) ∷ raw ((held z.0.0 z.0.3).requires z.1) ∷ []) ∵ split ! $ keep ! (0 ∷ []) $
        enter ! C Λ code.function (vptr b o ∷ []) _ $ alloc_all ! (λ l. pass_all ! refl ((tt, tt), tt) $
        sets ! (agg ! (no_more !)) refl (tt, tt) $ sets ! (agg ! (and_then ! (get ! refl) (no_more !))) refl (tt, (tt, tt)) $
        returns ! (look_at ! 0 refl) $ free_all ! refl $
        use0 𝓛 (‵ O) (makes_shadow 𝓛 O ((λ vss. (tt, ((λ uss. (tt, tt)), tt))), tt) (((vstruct vnil ∷ [], tt), (refl, ((tt, (refl, tt)), tt))), tt)) $
        suffices ! _ (ends_at 𝓛 F.ended stayed held (At (vptr b o ∷ [])) v r (tt, tt) (tt, tt)) $ says ! refl $
        nothing ! $ nothing ! $ fjoin ! $ join ! $ move ! (1 ∷ 0 ∷ []) $ join ! $ done !)

  meets : (𝓣 : Tables 𝓤 H) → Meets 𝓛 F.ended.signature (WpFn 𝓤 H 𝓣.C 𝓣.Λ code.function) (closing 𝓛 F.ended held)
  meets 𝓣 =
      walk_Meets 𝓛 F.ended stayed (Goes-dropped 𝓛 1 (RefOf (0 ∷ []) tt (plain (λ _. the_row)) (λ _. tt)) yes (λ κs x f. refl), tt) held
      (WpFn 𝓤 H 𝓣.C 𝓣.Λ code.function) (WpFn-mono 𝓤 H 𝓛.laws 𝓣 code.function)
      (λ z. let a = z.0.3 in let vss = z.0.4 in let Rs : List RattleType = types_at F.ended.signature.params z.0.0 in
      fact_use 𝓤 (Are Rs (Ises Rs) a vss) (via 𝓤 (sem 𝓛 (owns Rs a vss)) (via 𝓤 (on_entry 𝓛 F.ended.signature z.0.0 z.0.1 a vss) (fst∗ 𝓤 (on_entry 𝓛 F.ended.signature z.0.0 z.0.1 a vss) ((held z.0.0 a).requires z.1)) (snd∗ 𝓤 (alive 𝓛 F.ended.signature z.0.0 z.0.1) (sem 𝓛 (owns Rs a vss)))) (owns_show 𝓛 Rs (Ises Rs) (showss 𝓛 Rs) a vss)) (λ are.
      subst (Goes 𝓣.C 𝓣.Λ z) (sym are.0.0) (walks 𝓣.C 𝓣.Λ z)))

pub more_spec : {M : Type 1} → stated.statement M
unfolding tables_of
more_spec 𝓤 𝓛 𝓜 𝓡 wired =
    let 𝓣 : Tables 𝓤 𝓛.H = tables_of 𝓤 𝓛.H 𝓜 (tables 𝓤 𝓛.H 𝓜 𝓡 𝓡.env) in
    entered 𝓤 𝓛.H (triple_of 𝓛 F.ended.signature (closing 𝓛 F.ended (held 𝓛 𝓜.mem 𝓡.returns))) 𝓣.C 𝓣.Λ #self code.function
    (code.unfolded 𝓤 𝓛.H 𝓜 𝓡 wired) (meets 𝓛 𝓜.mem 𝓡.returns 𝓣)
