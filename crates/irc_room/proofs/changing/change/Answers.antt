use Rattle.std.proofs.Common.{rules}
use Rattle.irc_effects.specs.After.{after}
use Rattle.irc_room.proofs.Memberships.{free_in_room, inhabited_room}
use Rattle.irc_room.proofs.changing.change.Goals as goal

pub rename_user-requires-clause-free : goal.rename_user-requires-clause-free
rename_user-requires-clause-free c =
    free_in_room c.args.users.now.users c.args.channels.now c.args.effect.now _ _ c.requires.well
    c.in-Rename.is c.requires.possible.nick_free

pub returns-in-Quit-clause-ok : goal.returns-in-Quit-clause-ok
unfolding after
returns-in-Quit-clause-ok c = search rules

pub returns-in-Join-clause-ok : goal.returns-in-Join-clause-ok
unfolding after
returns-in-Join-clause-ok c = search rules

pub returns-in-Part-clause-ok : goal.returns-in-Part-clause-ok
unfolding after
returns-in-Part-clause-ok c = search rules

pub remove_user-requires : goal.remove_user-requires
remove_user-requires c = inhabited_room c.args.users.now.users c.args.channels.now c.requires.well
