use Rattle.std.proofs.Common.{[], ◌∷◌, ◌++◌, take, refl, sym, ◌∙◌, ap, option_map, subst, arith}
use Rattle.std.proofs.lemmas.List.{take_more}
use Rattle.std.proofs.lemmas.Option.{get_or_from_slice_get, slice_get_within}
use Rattle.irc_batch.specs.Batches.{sent_of}
use Rattle.irc_journal.specs.Signs.{EntersAll}
use Rattle.irc_engine.specs.Loops.Connections.{Carries}
use Rattle.irc_engine.specs.Noting.{out_signs}
use Rattle.irc_engine.proofs.ConnectionSteps.{carries_none, carries_on}
use Rattle.irc_engine.proofs.NotingLaws.{enters_next}
use Rattle.irc_engine.proofs.connections.Connections.dispatch.Goals as goal

pub loop-place-init : goal.loop-place-init
loop-place-init g c = record {
  carries = carries_none _ _ _ refl (λ q. refl) refl (omega arith);
  marks = λ q pending is. is;
  noted = refl;
}

pub loop-place-preserved : goal.loop-place-preserved
loop-place-preserved g c =
    let outs = c.args.outs.now.outs in
    let out = sent_of c.in-Some.out in
    let is = sym c.get.ensures.there ∙ ap (option_map sent_of) c.in-Some.is in
    let more =
    sym (take_more outs c.loop-place.place out (slice_get_within outs c.loop-place.place out is)
    ∙ ap (λ o. take c.loop-place.place outs ++ o ∷ [])
    (get_or_from_slice_get outs c.loop-place.place out out is)) in
    record {
      carries =
          subst (λ os. Carries g.W.Wire.is_after [] c.args.self.now os c.dispatch_one.new.self) more
          (carries_on _ _ _ _ _ _ _ _ c.loop-place.invariant.carries
          c.in_ok-dispatch_one.ensures.carries);
      marks = λ q pending is. c.in_ok-dispatch_one.ensures.marks q pending
          (c.loop-place.invariant.marks q pending is);
      noted =
          subst (λ os. EntersAll (out_signs os) c.args.journal.now c.dispatch_one.new.journal) more
          (enters_next (take c.loop-place.place outs) out _ _ _ c.loop-place.invariant.noted
          c.in_ok-dispatch_one.ensures.noted);
    }
