use Rattle.std.proofs.Common.{ℕ, List, None, refl, sym, ◌∙◌, subst}
use Rattle.std.specs.BTreeMap.{is_at}
use Rattle.std.specs.Map.{lookup}
use Rattle.std.specs.Ordering.{nat_cmp}
use Rattle.std.proofs.lemmas.Map.Keys.{le_from_not_gt}
use Rattle.irc_engine.specs.Moments.{lost_at, moment_of, connection_of}
use Rattle.irc_engine.specs.declared.kind.ConnectionKind.{ConnectionKind}
use Rattle.irc_engine.specs.Running.{RanOnBy, TellsLossesBy, none_so_far, tells_lowest}
use Rattle.irc_engine.proofs.TableLaws.{set_at}
use Rattle.irc_engine.specs.Knowing.{IsAtOne}
use Rattle.irc_engine.proofs.KnowingLaws.{hears_end}
use Rattle.irc_engine.proofs.RunLaws.{ran_none, ran_on, ran_gone}
use Rattle.irc_engine.proofs.engine.Core.tell_losses.Goals as goal

pub loop-conn-init : goal.loop-conn-init
loop-conn-init g c = record {
  ran = ran_none _ _;
  at_one = c.requires;
  in_order = none_so_far;
  marks = λ q pending is. is;
  same = refl;
}

pub handle_end-requires : goal.handle_end-requires
handle_end-requires g c =
    hears_end _ _ _ c.loop-conn.invariant.at_one _ _ _ _ refl c.in-Some.ensures.member
    (λ q. c.in-Some.ensures.updates.0 q
    ∙ set_at (lost_at c.loop-conn.self.connections.lost) None _ q)

pub loop-conn-preserved : goal.loop-conn-preserved
loop-conn-preserved g c =
    record {
      ran = ran_on _ _ _ _ c.loop-conn.invariant.ran
          (ran_gone _ _ _ _ _ _ c.loop-conn.self.connections (record c.loop-conn.self.connections
          { lost = c.take_lowest.new.lost }) _ refl refl c.in-Some.ensures.member
          (λ q. c.in-Some.ensures.updates.0 q ∙ set_at (lost_at c.loop-conn.self.connections.lost)
          None _ q) c.in_ok-handle_end.ensures.asks.0);
      at_one = c.in_ok-handle_end.ensures.at_one;
      in_order = tells_lowest _ _ _ _ _ c.loop-conn.invariant.in_order
          (record {
            is_lost = c.in-Some.ensures.member;
            is_lowest = λ q there. le_from_not_gt _ q (c.in-Some.ensures.least q there);
          }) refl
          (λ q. c.in-Some.ensures.updates.0 q ∙ set_at (lost_at c.loop-conn.self.connections.lost)
          None _ q) c.in_ok-handle_end.ensures.asks;
      marks = λ q pending is. c.in_ok-handle_end.ensures.marks q pending
          (c.loop-conn.invariant.marks q pending is);
      same = c.handle_end.ensures.same ∙ c.loop-conn.invariant.same;
    }

pub returns-clause-ran : goal.returns-clause-ran
returns-clause-ran g c =
    subst (λ (es : List (ℕ × ConnectionKind)). RanOnBy g.W.Wire.is_after g.M.Machine.server_of
    g.M.Machine.handles (moment_of c.args.self.now)
    (record (moment_of c.loop-conn.self) { lost = λ q. lookup (is_at (nat_cmp q)) es }))
    (sym c.in_default.ensures.unchanged) c.loop-conn.invariant.ran

pub returns-clause-in_order : goal.returns-clause-in_order
returns-clause-in_order g c =
    subst (λ (es : List (ℕ × ConnectionKind)). TellsLossesBy g.W.Wire.is_after
    g.M.Machine.server_of g.M.Machine.handles
    (moment_of c.args.self.now)
    (record (moment_of c.loop-conn.self) { lost = λ q. lookup (is_at (nat_cmp q)) es }))
    (sym c.in_default.ensures.unchanged) c.loop-conn.invariant.in_order

pub returns-clause-at_one : goal.returns-clause-at_one
returns-clause-at_one g c =
    subst (λ (es : List (ℕ × ConnectionKind)). IsAtOne (g.M.Machine.server_of
    c.loop-conn.self.machine)
    (connection_of c.loop-conn.self.connections.table) (λ q. lookup (is_at (nat_cmp q)) es))
    (sym c.in_default.ensures.unchanged) c.loop-conn.invariant.at_one
