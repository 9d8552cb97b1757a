use Rattle.std.proofs.Common.{◌∙◌, ap, subst, sym, OnOk}
use Rattle.std.specs.Option.{option_and_then}
use Rattle.irc_layer.specs.Asking.{asked_of}
use Rattle.irc_layer.specs.Ends.{end_at}
use Rattle.irc_layer.specs.Layers.{state_of, HearsBy}
use Rattle.irc_layer.proofs.layer.Layer.hear_one.Goals as goal

pub returns-in-Some-clause-heard : goal.returns-in-Some-clause-heard
returns-in-Some-clause-heard c =
    subst (λ asked. OnOk c.tell_of.result (HearsBy asked c.args.mark c.args.link c.args.line.items
    (state_of c.args.self.now c.args.out.now) (state_of c.tell_of.new.self c.tell_of.new.out)))
    (sym c.in-Some.is ∙ c.asked_at.ensures
    ∙ ap (λ line. option_and_then (asked_of line) (end_at c.args.self.now.ends c.args.link))
    c.as_slice.ensures.value) c.tell_of.ensures.tells
