use Rattle.std.specs.Prelude.{IfOk}
use Rattle.std.proofs.Common.{◌≡◌, List, ◌∙◌, sym, ap, subst}
use Rattle.irc_acts.specs.declared.act.Act.{Act}
use Rattle.irc_acts.specs.CommaLists.{entries}
use Rattle.irc_channel_commands.specs.Kick.{kick_all}
use Rattle.irc_channel_commands.proofs.KickAsked.{one_asked, each_asked}
use Rattle.irc_channel_commands.proofs.kick.kick_asked.Goals as goal

pub returns-then-count-eq1 : goal.returns-then-count-eq1
returns-then-count-eq1 c =
    subst (λ (steps : List Act). IfOk c.kick_list.result (λ kept. kept.items ≡ steps))
    (sym (ap (kick_all c.args.context.now.me.now c.args.text.now c.args.context.now.room.now.room)
    (one_asked (entries c.args.channels.now) (entries c.args.nicks.now)
    (sym c.entry_count-count.ensures ∙ c.if-count-eq1.true))))
    c.kick_list.ensures

pub returns-then-count-entry_count : goal.returns-then-count-entry_count
returns-then-count-entry_count c =
    subst (λ (steps : List Act). IfOk c.kick_list-then-count-entry_count.result
    (λ kept. kept.items ≡ steps))
    (sym (ap (kick_all c.args.context.now.me.now c.args.text.now c.args.context.now.room.now.room)
    (each_asked (entries c.args.channels.now) (entries c.args.nicks.now)
    (λ one. c.if-count-eq1.false (c.entry_count-count.ensures ∙ one))
    (sym c.entry_count-count.ensures ∙ c.if-count-entry_count.true ∙ c.entry_count.ensures))))
    c.kick_list-then-count-entry_count.ensures
