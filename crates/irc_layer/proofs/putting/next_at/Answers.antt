use Rattle.std.proofs.Common.{◌∙◌, ◌+◌, ap, drop, sym}
use Rattle.std.specs.Option.{option_map}
use Rattle.irc_batch.specs.Batches.{sent_of}
use Rattle.irc_layer.specs.Putting.{squits_ahead, with_next}
use Rattle.irc_layer.proofs.Following.{never_none, next_first}
use Rattle.irc_layer.proofs.putting.next_at.Goals as goal

pub returns-in-Some : goal.returns-in-Some
returns-in-Some c =
    next_first c.args.link c.args.held.now.outs c.args.place (sent_of c.in-Some.out)
    (sym c.get.ensures.there ∙ ap (option_map sent_of) c.in-Some.is)
    ∙ ap (λ next. with_next next
    (squits_ahead c.args.link (drop (c.args.place + 1) c.args.held.now.outs)))
    (sym c.next_on.ensures)

pub returns-in-None : goal.returns-in-None
returns-in-None c =
    never_none c.args.held.now.outs c.args.place c.requires.there
    (sym (ap (option_map sent_of) c.in-None.is) ∙ c.get.ensures.there)
