use Rattle.std.proofs.Common.{refl, ◌∙◌, ap, arith, Some, Option, ℕ, Vec, Global}
use Rattle.std.specs.List.{slice_range}
use Rattle.irc_engine.specs.declared.kind.ConnectionKind.{ConnectionKind}
use Rattle.irc_engine.specs.Loops.Tables.{with_line}
use Rattle.irc_engine.proofs.RunLaws.{ran_unfed, ran_step, ran_rest, ran_framed, ran_refused}
use Rattle.irc_engine.proofs.RunLaws.{frames_within, used_within}
use Rattle.irc_engine.proofs.KnowingLaws.{at_one_framed, framed_open}
use Rattle.irc_engine.proofs.MarkLaws.{marks_framed}
use Rattle.irc_engine.proofs.engine.Core.take_lines.Goals as goal

pub loop-used-init : goal.loop-used-init
loop-used-init g c = record {
  ran = ran_unfed _ _ _;
  at_one = c.requires.at_one;
  told = λ told.
      told;
  marks = λ q pending is. is;
  within = omega arith;
  same = refl;
  items = refl;
}

pub pass_line-requires-clause-at_one : goal.pass_line-requires-clause-at_one
pass_line-requires-clause-at_one g c =
    at_one_framed _ _ _ c.loop-used.self.connections.table c.take.new.self _ _ c.in-Some.ensures.at
    c.loop-used.invariant.at_one

pub pass_line-requires-clause-open : goal.pass_line-requires-clause-open
pass_line-requires-clause-open g c =
    framed_open _ _ _ c.take.new.self _ c.in-Some.kind c.take.new.line c.in-Some.ensures.at

pub loop-used-preserved : goal.loop-used-preserved
loop-used-preserved g c = record {
  ran = ran_step _ _ _ _ _ c.args.self.now.buffer.items _ c.loop-used.used _ c.args.count
      (ap (λ bs. slice_range bs c.loop-used.used c.args.count)
      (c.deref.ensures.value ∙ c.loop-used.invariant.items)) c.loop-used.invariant.within
      (frames_within _ _ _ _ _ c.in-Some.kind c.take.new.line c.in-Some.ensures.at)
      c.loop-used.invariant.ran
      (ran_framed _ _ _ _ c.loop-used.self.connections
      (record c.loop-used.self.connections { table = c.take.new.self }) _ _ _ _ c.in-Some.kind
      c.take.new.line (Some _) refl c.in-Some.ensures.at refl refl
      c.in_ok-pass_line.ensures.ran);
  at_one = c.in_ok-pass_line.ensures.at_one;
  told = λ told. c.in_ok-pass_line.ensures.told (c.loop-used.invariant.told told);
  marks = λ q pending is. c.in_ok-pass_line.ensures.marks q pending
      (marks_framed _ c.loop-used.self.connections (record c.loop-used.self.connections
      { table = c.take.new.self }) _ _ c.in-Some.ensures.at (λ p. refl) q pending
      (c.loop-used.invariant.marks q pending is));
  within = used_within _ _ _ _ c.loop-used-test.true
      (frames_within _ _ _ _ _ c.in-Some.kind c.take.new.line c.in-Some.ensures.at);
  same = c.pass_line.ensures.same ∙ c.loop-used.invariant.same;
  items =
      ap (λ (b : Vec ℕ Global). b.items) (c.pass_line.ensures.same ∙ c.loop-used.invariant.same);
}

pub returns-in_default-clause-ran : goal.returns-in_default-clause-ran
returns-in_default-clause-ran g c =
    ran_rest _ _ _ _ _ _ c.loop-used.used c.args.count c.loop-used.invariant.within
    c.loop-used.invariant.ran
    (ran_refused _ _ _ _ c.loop-used.self.connections
    (record c.loop-used.self.connections { table = c.take.new.self }) _ _ _ _
    (ap (λ (taken : Option (ℕ × ConnectionKind)). with_line taken c.take.new.line) c.in_default.is)
    c.take.ensures.at refl refl)

pub returns-in_default-clause-marks : goal.returns-in_default-clause-marks
returns-in_default-clause-marks g c = λ q pending is.
    marks_framed _ c.loop-used.self.connections (record c.loop-used.self.connections
    { table = c.take.new.self }) _ _ c.take.ensures.at (λ p. refl) q pending
    (c.loop-used.invariant.marks q pending is)

pub returns-in_default-clause-at_one : goal.returns-in_default-clause-at_one
returns-in_default-clause-at_one g c =
    at_one_framed _ _ _ c.loop-used.self.connections.table c.take.new.self _ _ c.take.ensures.at
    c.loop-used.invariant.at_one
