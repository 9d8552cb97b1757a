use Rattle.std.proofs.Common.{◌∙◌, ap, map, not, filter}
use Rattle.std.specs.FinMap.{values}
use Rattle.irc_names.specs.Fold.{same}
use Rattle.irc_effects.specs.Effects.{is_member}
use Rattle.irc_room.proofs.WhoSees.{chosen_now, chosen_twice}
use Rattle.irc_room.proofs.viewers.others.Goals as goal

pub returns : goal.returns
returns c =
    ap (map (λ user. user.now)) c.leave_out.ensures
    ∙ chosen_now (λ user. not (same c.args.by.now user.nick)) c.in_ok-found.found.items
    ∙ ap (filter (λ user. not (same c.args.by.now user.nick))) c.in_ok-found.ensures
    ∙ chosen_twice (λ user. not (same c.args.by.now user.nick)) (λ user.
    is_member c.args.tables.now user.nick c.args.channel.now) (values c.args.tables.now.users)
