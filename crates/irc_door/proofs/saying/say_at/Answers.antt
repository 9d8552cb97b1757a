use Rattle.std.proofs.Common.{◌∙◌, ap, sym}
use Rattle.std.specs.Option.{option_map}
use Rattle.irc_batch.specs.Batches.{sent_of}
use Rattle.irc_door.specs.Capabilities.{asked_now}
use Rattle.irc_door.proofs.Places.{never_none, said_on}
use Rattle.irc_door.proofs.saying.say_at.Goals as goal

pub returns-in-Some : goal.returns-in-Some
returns-in-Some c =
    said_on c.args.manner.now (option_map asked_now c.args.asked) c.args.held.now.outs c.args.place
    c.say.result
    (sent_of c.in-Some.sent) c.say.new.out.outs c.args.out.now.outs
    (sym c.get.ensures.there ∙ ap (option_map sent_of) c.in-Some.is) c.say.ensures

pub returns-in-None : goal.returns-in-None
returns-in-None c =
    never_none c.args.manner.now (option_map asked_now c.args.asked) c.args.held.now.outs
    c.args.place c.requires.there
    (sym (ap (option_map sent_of) c.in-None.is) ∙ c.get.ensures.there)
