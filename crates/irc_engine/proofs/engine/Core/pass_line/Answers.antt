use Rattle.irc_engine.proofs.RunLaws.{on_ok, ran_no_line}
use Rattle.irc_engine.proofs.KnowingLaws.{hears_line}
use Rattle.irc_engine.proofs.engine.Core.pass_line.Goals as goal

pub pass-requires : goal.pass-requires
pass-requires g c = hears_line _ _ _ c.requires.at_one _ _ _ _ c.line_event.ensures c.requires.open

pub returns-in-Some-clause-told : goal.returns-in-Some-clause-told
returns-in-Some-clause-told g c = on_ok c.pass.result _ _ (λ told before. told) c.pass.ensures.told

pub returns-in-None-clause-ran : goal.returns-in-None-clause-ran
returns-in-None-clause-ran g c = ran_no_line _ _ _ _ _ c.in-None.is
