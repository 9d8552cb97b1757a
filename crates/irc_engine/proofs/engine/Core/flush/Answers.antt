use Rattle.std.proofs.Common.{false, ◌∙◌, ap}
use Rattle.std.specs.BTreeMap.{is_at}
use Rattle.std.specs.List.{list_any}
use Rattle.std.specs.Ordering.{nat_cmp}
use Rattle.irc_engine.specs.Moments.{has}
use Rattle.irc_engine.proofs.FlushLaws.{never, emptied, flushes_none, flushes_one, flushes_all}
use Rattle.irc_engine.proofs.FlushLaws.{in_order_again}
use Rattle.irc_engine.proofs.KnowingLaws.{at_one_carried}
use Rattle.irc_engine.proofs.TableLaws.{set_at}
use Rattle.irc_engine.proofs.engine.Core.flush.Goals as goal

pub loop-conn-init : goal.loop-conn-init
loop-conn-init g c = record {
  so_far = flushes_none _ c.args.self.now _ _
      (λ q. ap (λ s. has s q) c.replace-waiting.ensures.after ∙ ap
      (list_any (is_at (nat_cmp q))) c.new.ensures.empty) c.replace-waiting.ensures.value;
  at_one = c.requires;
}

pub tell_losses-requires : goal.tell_losses-requires
tell_losses-requires g c =
    at_one_carried _ _ _ _ c.write.new.self c.in_ok-write.ensures.carries
    c.loop-conn.invariant.at_one

pub loop-conn-preserved : goal.loop-conn-preserved
loop-conn-preserved g c = record {
  so_far = flushes_one _ _ c.loop-conn.self _ c.write.new.self _ _ _ c.in-Some.ensures.member
      (λ q. c.in-Some.ensures.updates.0 q
      ∙ set_at (has c.loop-conn.waiting) false _ q) c.in-Some.ensures.least
      c.in_ok-write.ensures c.in_ok-tell_losses.ensures.ran c.in_ok-tell_losses.ensures.told
      c.in_ok-tell_losses.ensures.marks c.loop-conn.invariant.so_far;
  at_one = c.in_ok-tell_losses.ensures.at_one;
}

pub returns-clause-done : goal.returns-clause-done
returns-clause-done g c =
    flushes_all _ _ _ _ (emptied _ c.in_default.ensures.variant.1) c.loop-conn.invariant.so_far

pub returns-clause-in_order : goal.returns-clause-in_order
returns-clause-in_order g c =
    in_order_again _ _ _ _ (emptied _ c.in_default.ensures.variant.1) c.loop-conn.invariant.so_far

pub returns-in_err-write-clause-quiet : goal.returns-in_err-write-clause-quiet
returns-in_err-write-clause-quiet g c = λ nobody.
    absurd (never _ c.in-Some.ensures.member (c.loop-conn.invariant.so_far.quiet nobody _))

pub returns-in_err-tell_losses-clause-quiet : goal.returns-in_err-tell_losses-clause-quiet
returns-in_err-tell_losses-clause-quiet g c = λ nobody.
    absurd (never _ c.in-Some.ensures.member (c.loop-conn.invariant.so_far.quiet nobody _))
