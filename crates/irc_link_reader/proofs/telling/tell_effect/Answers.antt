use Rattle.std.proofs.Common.{◌≡◌, subst, rules}
use Rattle.irc_line.specs.MessageViews.{optional_now, params_now}
use Rattle.irc_link_words.specs.declared.commands.EffectCommand.TheVariants as command
use Rattle.irc_link_reader.specs.Loops.Readings.{first_effect, found, reader}
use Rattle.irc_link_reader.specs.Means.{nick_line}
use Rattle.irc_link_reader.proofs.RowsTold.{named_told, row_told}
use Rattle.irc_link_reader.proofs.telling.tell_effect.Goals as goal

pub returns-in-Nick-default-clause-told : goal.returns-in-Nick-default-clause-told
returns-in-Nick-default-clause-told c =
    row_told command.Nick c.args.command c.args.at (optional_now c.args.message.now.prefix)
    (params_now c.args.message.now.params) c.nick_line.result c.done.result (search rules) tt
    (subst (λ words. found c.nick_line.result ≡ first_effect
    (nick_line (reader c.args.at) (optional_now c.args.message.now.prefix) words))
    (search rules) c.nick_line.ensures) c.done.ensures

pub returns-in-Quit-Some-clause-told : goal.returns-in-Quit-Some-clause-told
returns-in-Quit-Some-clause-told c =
    named_told command.Quit c.args.command c.args.at
    (optional_now c.args.message.now.prefix) c.in-Quit-Some.name.now
    (params_now c.args.message.now.params) c.new-params.result
    c.quit_line.result c.done-in-Quit-Some.result
    (search rules) (search rules) (search rules) tt c.quit_line.ensures
    c.done-in-Quit-Some.ensures

pub returns-in-Join-Some-clause-told : goal.returns-in-Join-Some-clause-told
returns-in-Join-Some-clause-told c =
    named_told command.Join c.args.command c.args.at
    (optional_now c.args.message.now.prefix) c.in-Join-Some.name.now
    (params_now c.args.message.now.params) c.new-params.result
    c.join_line.result c.done-in-Join-Some.result
    (search rules) (search rules) (search rules) tt c.join_line.ensures
    c.done-in-Join-Some.ensures

pub returns-in-Part-Some-clause-told : goal.returns-in-Part-Some-clause-told
returns-in-Part-Some-clause-told c =
    named_told command.Part c.args.command c.args.at
    (optional_now c.args.message.now.prefix) c.in-Part-Some.name.now
    (params_now c.args.message.now.params) c.new-params.result
    c.part_line.result c.done-in-Part-Some.result
    (search rules) (search rules) (search rules) tt c.part_line.ensures
    c.done-in-Part-Some.ensures

pub returns-in-Kick-Some-clause-told : goal.returns-in-Kick-Some-clause-told
returns-in-Kick-Some-clause-told c =
    named_told command.Kick c.args.command c.args.at
    (optional_now c.args.message.now.prefix) c.in-Kick-Some.name.now
    (params_now c.args.message.now.params) c.new-params.result
    c.kick_line.result c.done-in-Kick-Some.result
    (search rules) (search rules) (search rules) tt c.kick_line.ensures
    c.done-in-Kick-Some.ensures

pub returns-in-Say-Some-clause-told : goal.returns-in-Say-Some-clause-told
returns-in-Say-Some-clause-told c =
    named_told (command.Say c.in-Say-Some.notice) c.args.command c.args.at
    (optional_now c.args.message.now.prefix) c.in-Say-Some.name.now
    (params_now c.args.message.now.params) c.new-params.result
    c.say_line.result c.done-in-Say-Some.result
    (search rules) (search rules) (search rules) tt c.say_line.ensures
    c.done-in-Say-Some.ensures

pub returns-in-Invite-Some-clause-told : goal.returns-in-Invite-Some-clause-told
returns-in-Invite-Some-clause-told c =
    named_told command.Invite c.args.command c.args.at
    (optional_now c.args.message.now.prefix) c.in-Invite-Some.name.now
    (params_now c.args.message.now.params) c.new-params.result
    c.invite_line.result c.done-in-Invite-Some.result
    (search rules) (search rules) (search rules) tt c.invite_line.ensures
    c.done-in-Invite-Some.ensures
