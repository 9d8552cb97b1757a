-- What a line does at its user's server is what it does in the whole room.
use Rattle.std.proofs.Common.{sym}
use Rattle.irc_names.specs.Fold.{key}
use Rattle.irc_room.specs.Invitations.{of_home}
use Rattle.irc_room.specs.OtherInvitations.{HomeIsAlike}
use Rattle.irc_room.specs.SentAlike.{HomeKnowsItsInvited}
use Rattle.irc_commands.specs.AtHome.{HomeIsAlikeForItsOwn, DecidedAtHome, RegisteringAtHome}
use Rattle.irc_commands.specs.OwnInvitations.{DecidedByOwnInvitations}
use Rattle.irc_commands.proofs.RegisteringCases.{registering_by_users}

pub home_is_alike_for_its_own : HomeIsAlike → HomeKnowsItsInvited → HomeIsAlikeForItsOwn
home_is_alike_for_its_own alike invited home room who own = record {
  alike = record {
    users = sym (alike home room).users;
    channels = λ fold. sym ((alike home room).channels fold);
  };
  invited = λ fold. sym (invited home room (key who) fold own);
}

pub decided_at_home : DecidedByOwnInvitations → HomeIsAlikeForItsOwn → DecidedAtHome
decided_at_home decided alike home room place who message well own =
    sym (decided room (of_home home room) place who message well (alike home room who own))

pub registering_at_home : HomeIsAlike → RegisteringAtHome
registering_at_home alike home room place pending message =
    registering_by_users (of_home home room) room place pending message (alike home room).users
