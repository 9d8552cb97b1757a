use Rattle.std.proofs.Common.{◌∙◌, sym, ap}
use Rattle.std.specs.Option.{option_map}
use Rattle.irc_channels.specs.declared.channel.Channel.{Channel}
use Rattle.irc_acts.specs.MoveLaws.{leaves_are_moves}
use Rattle.irc_acts.proofs.MovesAhead.{named_ahead, none_left, some_left}
use Rattle.irc_acts.proofs.ahead.channel.Goals as goal

pub members-requires : goal.members-requires
members-requires c = leaves_are_moves c.args.room.now.room c.args.steps.now c.requires

pub returns-then-members-eq0 : goal.returns-then-members-eq0
returns-then-members-eq0 c =
    sym (named_ahead c.args.name.now c.args.room.now.room c.args.steps.now
    c.know_well_formed.ensures c.requires
    ∙ none_left _ _ (sym c.members.ensures ∙ c.if-members-eq0.true))

pub returns-else-members-eq0 : goal.returns-else-members-eq0
returns-else-members-eq0 c =
    ap (option_map (λ (channel : Channel). channel.name)) c.channel.ensures
    ∙ sym (named_ahead c.args.name.now c.args.room.now.room c.args.steps.now
    c.know_well_formed.ensures c.requires
    ∙ some_left _ _ (λ none. c.if-members-eq0.false (c.members.ensures ∙ none)))
