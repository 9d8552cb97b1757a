use Rattle.irc_world.proofs.WorldKept.{taken_make_world}
use Rattle.irc_world.proofs.laws.taken_make_world.Goals as goal

pub returns : goal.returns
returns c = taken_make_world c.world_is_sound.ensures c.users_homes_are_servers.ensures
    c.users_homes_are_joined.ensures c.registered_are_users.ensures c.rooms_keep_limits.ensures
