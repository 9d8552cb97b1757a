use Rattle.std.proofs.Common.{◌∙◌, sym}
use Rattle.irc_link_words.proofs.AwayRead.{away_read}
use Rattle.irc_link_words.proofs.user_changes.read_user_change.Goals as goal

pub returns-in-len2 : goal.returns-in-len2
returns-in-len2 c =
    c.read_away.ensures
    ∙ away_read c.args.words.now _ c.in-len2.len_at_least c.in-len2.len_below
    (sym c.is_with_a.ensures ∙ c.if-is_with_a.true)
