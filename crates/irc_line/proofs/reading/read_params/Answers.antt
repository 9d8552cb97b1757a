use Rattle.std.proofs.Common.{[], refl, ap, length, arith}
use Rattle.std.proofs.lemmas.List.{nil_from_length}
use Rattle.irc_line.proofs.ReadingSteps.{loop_starts, colon_ends, rest_ends, word_goes_on}
use Rattle.irc_line.proofs.ReadingSteps.{no_more_comes}
use Rattle.irc_line.proofs.reading.read_params.Goals as goal

pub loop-first-init : goal.loop-first-init
loop-first-init c = record {
  room = omega (arith, ap length c.requires);
  no_space = c.skip_spaces-rest.ensures.after.no_space;
  completes = loop_starts _ _ c.args.params.now.items c.requires c.skip_spaces-rest.ensures.after;
}

pub returns-then-first-eq-COLON : goal.returns-then-first-eq-COLON
returns-then-first-eq-COLON c =
    colon_ends _ _ [] _ _ _ c.in-Some.behind_colon c.loop-first.invariant.completes
    c.in-Some.ensures.cases.0 c.if-first-eq-COLON.true c.push.ensures.items

pub returns-then-len-eq-MAX_PARAMETERS : goal.returns-then-len-eq-MAX_PARAMETERS
returns-then-len-eq-MAX_PARAMETERS c =
    rest_ends _ _ _ _ _ _ c.loop-first.rest c.loop-first.invariant.completes
    c.loop-first.invariant.no_space c.in-Some.ensures.cases.0
    c.if-first-eq-COLON.false (omega arith) refl c.push-then-len-eq-MAX_PARAMETERS.ensures.items

pub loop-first-preserved : goal.loop-first-preserved
loop-first-preserved c = record {
  room = omega arith;
  no_space = c.skip_spaces-rest-in-Some.ensures.after.no_space;
  completes = word_goes_on _ _ _ _ _ _ _ _ c.split_word.result.0 c.loop-first.invariant.completes
      c.loop-first.invariant.no_space c.in-Some.ensures.cases.0
      c.if-first-eq-COLON.false (omega arith) c.split_word.ensures
      c.skip_spaces-rest-in-Some.ensures.after c.push-in-Some.ensures.items;
}

pub returns : goal.returns
returns c = no_more_comes _ _ _ c.loop-first.invariant.completes
    (nil_from_length _ c.in_default.ensures.cases)
