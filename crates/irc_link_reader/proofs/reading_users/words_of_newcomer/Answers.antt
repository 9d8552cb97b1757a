use Rattle.irc_link_reader.proofs.Newcomers.{refused}
use Rattle.irc_link_reader.proofs.reading_users.words_of_newcomer.Goals as goal

pub returns-in_err-end : goal.returns-in_err-end
returns-in_err-end c =
    refused c.args.params _ _ _ _ _ _ _ _ _ _ _ _ _ _ c.in_err-end.field-0.0
    c.from_residual-in_err-end.result c.in_ok-nick.ensures c.in_ok-distance.ensures
    c.in_ok-user.ensures c.in_ok-host.ensures c.in_ok-token.ensures c.in_ok-mode.ensures
    c.in_ok-real.ensures c.in_err-end.ensures.left c.from_residual-in_err-end.ensures.1
