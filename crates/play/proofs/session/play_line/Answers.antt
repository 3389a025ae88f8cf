use Rattle.std.proofs.Common.{◌≡◌, ◌∙◌, refl, ap, sym, false}
use Rattle.std.proofs.lemmas.Bool.{false≢true}
use Rattle.block_server.specs.Said.{said_of}
use Rattle.play.specs.PrintedText.{call_text}
use Rattle.play.proofs.Printing.{appends_none, part_of}
use Rattle.play.proofs.session.play_line.Goals as goal

-- nothing of it is printed
pub returns-then-is_starved-clause-printed : goal.returns-then-is_starved-clause-printed
returns-then-is_starved-clause-printed g c =
    let device = g.A.Adapter.device in
    let call = c.make_call.ensures.keeps in
    let out = g.W.Write.contents c.args.out.now in
    let tape = (device c.make_call.new.server.adapter).tape in (
      part_of device g.A.TapedAdapter.ended c.args.trace c.args.shown _ call.0 c.args.server.now c.make_call.new.server out out 0
          (call_text c.args.trace c.args.shown tape (said_of call.0)) tape call.2 refl refl (appends_none out) (λ is. refl),
      tt,
      refl,
    )

pub returns-in_default-clause-printed : goal.returns-in_default-clause-printed
returns-in_default-clause-printed g c =
    let device = g.A.Adapter.device in
    let call = c.make_call.ensures.keeps in
    let out = g.W.Write.contents c.args.out.now in
    let tape = (device c.make_call.new.server.adapter).tape in (
      part_of device g.A.TapedAdapter.ended c.args.trace c.args.shown _ call.0 c.args.server.now c.make_call.new.server out out 0
          (call_text c.args.trace c.args.shown tape (said_of call.0)) tape call.2 refl refl (appends_none out) (λ is. refl),
      tt,
      refl,
    )

pub returns-in_default-write_out-clause-printed : goal.returns-in_default-write_out-clause-printed
returns-in_default-write_out-clause-printed g c =
    let device = g.A.Adapter.device in
    let call = c.make_call.ensures.keeps in
    let tape : c.tape-tape.result.now ≡ (device c.make_call.new.server.adapter).tape =
    c.tape-tape.ensures ∙ ap (λ (m : g.row.A.Denot). (device m).tape) c.adapter-adapter.ensures in
    let fed : g.A.TapedAdapter.ended c.make_call.new.server.adapter ≡ false =
    ap g.A.TapedAdapter.ended (sym c.adapter-adapter.ensures) ∙ sym c.is_exhausted-is_starved.ensures ∙ c.if-is_starved.false in
    let said : c.as_slice.result.now ≡ said_of call.0 = c.as_slice.ensures.value ∙ call.1 in
    let wrote = c.in_default-write_out.ensures.written in (
      part_of device g.A.TapedAdapter.ended c.args.trace c.args.shown _ call.0 c.args.server.now c.make_call.new.server _ _ wrote.0
          c.as_slice-2.result.now c.tape-tape.result.now call.2 tape (c.as_slice-2.ensures.value ∙ c.in-Ok.ensures ∙ ap (call_text c.args.trace c.args.shown c.tape-tape.result.now) said) wrote.1 (λ is. absurd (false≢true (sym fed ∙ is))),
      tt,
      fed,
    )

pub returns-clause-printed : goal.returns-clause-printed
returns-clause-printed g c =
    let device = g.A.Adapter.device in
    let call = c.make_call.ensures.keeps in
    let tape : c.tape-tape.result.now ≡ (device c.make_call.new.server.adapter).tape =
    c.tape-tape.ensures ∙ ap (λ (m : g.row.A.Denot). (device m).tape) c.adapter-adapter.ensures in
    let fed : g.A.TapedAdapter.ended c.make_call.new.server.adapter ≡ false =
    ap g.A.TapedAdapter.ended (sym c.adapter-adapter.ensures) ∙ sym c.is_exhausted-is_starved.ensures ∙ c.if-is_starved.false in
    let said : c.as_slice.result.now ≡ said_of call.0 = c.as_slice.ensures.value ∙ call.1 in
    let wrote = c.in-Ok-write_out.ensures.written in (
      part_of device g.A.TapedAdapter.ended c.args.trace c.args.shown _ call.0 c.args.server.now c.make_call.new.server _ _ wrote.0
          c.as_slice-2.result.now c.tape-tape.result.now call.2 tape (c.as_slice-2.ensures.value ∙ c.in-Ok.ensures ∙ ap (call_text c.args.trace c.args.shown c.tape-tape.result.now) said) wrote.1 (λ is. absurd (false≢true (sym fed ∙ is))),
      wrote.2,
      tt,
    )
