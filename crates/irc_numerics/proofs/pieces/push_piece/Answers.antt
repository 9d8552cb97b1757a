use Rattle.std.proofs.Common.{◌++◌, map, sym, ◌∙◌, ap}
use Rattle.irc_line.specs.Bytes.{cut}
use Rattle.irc_numerics.specs.Loops.Heads.{piece_now}
use Rattle.irc_numerics.specs.Replies.{spaced, marked_nick, on_channel}
use Rattle.irc_numerics.proofs.Written.{whole_text}
use Rattle.irc_numerics.proofs.pieces.push_piece.Goals as goal

pub returns-in-Members-clause-pushed : goal.returns-in-Members-clause-pushed
returns-in-Members-clause-pushed c =
    whole_text c.args.line.now.items _ (spaced (map marked_nick c.in-Members.names.now))
    c.push_cut-in-Members.ensures.appended (c.deref.ensures.0 ∙ c.names_text.ensures)
    ∙ ap (λ piece. cut (c.args.line.now.items ++ piece_now piece)) (sym c.in-Members.is)

pub returns-in-Places-clause-pushed : goal.returns-in-Places-clause-pushed
returns-in-Places-clause-pushed c =
    whole_text c.args.line.now.items _ (spaced (map on_channel c.in-Places.channels.now))
    c.push_cut-in-Places.ensures.appended (c.deref-in-Places.ensures.0 ∙ c.channels_text.ensures)
    ∙ ap (λ piece. cut (c.args.line.now.items ++ piece_now piece)) (sym c.in-Places.is)
