use Rattle.std.proofs.Common.{◌∙◌, ap, sym}
use Rattle.std.specs.Option.{option_copied}
use Rattle.irc_line.specs.MessageViews.{optional_now}
use Rattle.irc_crossing.specs.Logs.{means_as}
use Rattle.irc_crossing.proofs.Placing.{none_put_right, one_gone, one_put_right}
use Rattle.irc_crossing.proofs.log.Log.put_right_at.Goals as goal

pub returns-then-place-words : goal.returns-then-place-words
returns-then-place-words c =
    none_put_right (means_as c.args.self.now (optional_now c.args.channel)) c.args.place
    c.args.words.now c.if-place-words.true

pub returns-in-Some : goal.returns-in-Some
returns-in-Some c =
    one_put_right (means_as c.args.self.now (optional_now c.args.channel)) c.args.place
    c.args.words.now _ c.in-Some.word c.if-place-words.false
    (sym (ap option_copied c.in-Some.is) ∙ c.word_now.ensures)

pub returns-in-None : goal.returns-in-None
returns-in-None c =
    one_gone (means_as c.args.self.now (optional_now c.args.channel)) c.args.place
    c.args.words.now _ c.if-place-words.false
    (sym (ap option_copied c.in-None.is) ∙ c.word_now.ensures)
