-- All that holds of a network holds after each item.
use Rattle.irc_world.specs.Laws.{StepStaysSound, WorldIsSound}
use Rattle.irc_world.specs.UsersHomes.{StepKeepsHomes, UsersHomesAreServers, StepKeepsHomesJoined}
use Rattle.irc_world.specs.UsersHomes.{UsersHomesAreJoined}
use Rattle.irc_world.specs.ClientsUsers.{StepKeepsMatched, RegisteredAreUsers}
use Rattle.irc_world.specs.WithinLimits.{StepKeepsLimits, RoomsKeepLimits}
use Rattle.irc_world.specs.WorldHolds.{StepKeepsWorld, TakenMakeWorld}

pub step_keeps_world : StepStaysSound → StepKeepsHomes → StepKeepsHomesJoined → StepKeepsMatched
    → StepKeepsLimits → StepKeepsWorld
step_keeps_world sound homes joined users limits settings world item named is within taken =
    record {
      sound = sound settings world item is.sound taken;
      homes_there = homes settings world item is.sound is.homes_there taken;
      homes_joined = joined settings world item is.sound is.homes_there is.homes_joined taken;
      clients_users =
          users settings world item is.sound is.homes_there is.homes_joined is.clients_users taken;
      within = limits settings world item named is.sound is.within within taken;
    }

pub taken_make_world : WorldIsSound → UsersHomesAreServers → UsersHomesAreJoined
    → RegisteredAreUsers → RoomsKeepLimits → TakenMakeWorld
taken_make_world sound homes joined users limits settings items named within taken = record {
  sound = sound settings items taken;
  homes_there = homes settings items taken;
  homes_joined = joined settings items taken;
  clients_users = users settings items taken;
  within = limits settings items named within taken;
}
