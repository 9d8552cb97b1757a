use Rattle.std.proofs.Common.{◌≡◌, List, ◌∙◌, sym, subst}
use Rattle.std.specs.Result.{IfOk}
use Rattle.irc_acts.specs.declared.act.Act.{Act}
use Rattle.irc_channel_commands.proofs.JoinAsked.{all_left}
use Rattle.irc_channel_commands.proofs.join.steps.Goals as goal

pub returns-then-is_zero : goal.returns-then-is_zero
returns-then-is_zero c =
    subst (λ (target : List Act). IfOk c.leave_each.result (λ steps. steps.items ≡ target))
    (all_left c.args.context.now.room.now.room c.args.context.now.me.now c.args.list.now
    c.args.keys.now (sym c.is_zero.ensures ∙ c.if-is_zero.true))
    c.leave_each.ensures
