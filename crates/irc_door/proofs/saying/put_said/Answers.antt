use Rattle.std.proofs.Common.{◌∙◌, ap, not, sym}
use Rattle.std.specs.Option.{option_map}
use Rattle.irc_door.specs.Capabilities.{asked_now}
use Rattle.irc_door.proofs.Plainly.{appended_plainly, none_of}
use Rattle.irc_door.proofs.saying.put_said.Goals as goal

pub returns-then-is_none : goal.returns-then-is_none
returns-then-is_none c =
    appended_plainly c.args.manner.now (option_map asked_now c.args.asked) c.append.result
    c.args.held.now.outs c.args.out.now.outs c.append.new.self.outs
    (sym c.is_plain.ensures ∙ c.if-is_plain.true)
    (none_of asked_now c.args.asked (c.is_none.ensures ∙ ap not c.if-is_none.true))
    c.append.ensures.ok
