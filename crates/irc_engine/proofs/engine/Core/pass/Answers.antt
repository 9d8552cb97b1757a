use Rattle.irc_engine.proofs.RunLaws.{on_ok, ran_after}
use Rattle.irc_engine.proofs.engine.Core.pass.Goals as goal

pub returns-clause-ran : goal.returns-clause-ran
returns-clause-ran g c = on_ok c.tell_losses.result _ _
    (λ ran. ran_after _ _ _ _ _ _ _ c.in_ok-handle.ensures.asks.0 ran) c.tell_losses.ensures.ran

pub returns-clause-in_order : goal.returns-clause-in_order
returns-clause-in_order g c =
    on_ok c.tell_losses.result _ _ (λ losses. record {
      between = _;
      asks = c.in_ok-handle.ensures.asks;
      losses = losses;
    }) c.tell_losses.ensures.in_order

pub returns-clause-marks : goal.returns-clause-marks
returns-clause-marks g c =
    on_ok c.tell_losses.result _ _ (λ marks q pending is.
    marks q pending (c.in_ok-handle.ensures.marks q pending is)) c.tell_losses.ensures.marks
