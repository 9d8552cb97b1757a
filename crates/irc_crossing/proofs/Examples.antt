-- Lines in known forms.
use Rattle.std.proofs.Common.{refl}
use Rattle.std.specs.Fmt.{digits}
use Rattle.irc_line.specs.Bytes.{cut}
use Rattle.irc_line.specs.Messages.{line_text}
use Rattle.irc_line.specs.Reading.{read_of}
use Rattle.irc_names.specs.Fold.{fold, fold_table}
use Rattle.irc_modes.specs.Modes.{is_limit}
use Rattle.irc_names.specs.Names.{is_ban_mask, is_channel, is_key, is_nick, is_server}
use Rattle.irc_crossing.specs.Examples.{BegunIsAsked, BegunIsOne, BegunTwiceIsOne, EndedIsAsked}
use Rattle.irc_crossing.specs.Examples.{NextIsUnset, RaisesBehindOut, SpellingStays}
use Rattle.irc_crossing.specs.Examples.{ComerIsBrought, OthersAreNotAsked}
use Rattle.irc_crossing.specs.Examples.{GoneIsLeftOut, InviteIsLeftOut, KeyStays, KeyYields}
use Rattle.irc_crossing.specs.Examples.{KickIsFollowed, KickIsSet, ModeIsSet, OperatorIsBrought}
use Rattle.irc_crossing.specs.Examples.{OperatorStays, OthersStay, OwnGoesWithIt, PrivateYields}
use Rattle.irc_crossing.specs.Examples.{TopicIsSet, TopicStays, TopicYields}
use Rattle.irc_crossing.specs.Examples.{KickIsLeftOut, KillIsFollowed, KilledIsFollowed}
use Rattle.irc_crossing.specs.Examples.{LetterIsLeftOut, MetGoes, MetIsGiven, MetIsKilled}
use Rattle.irc_crossing.specs.Examples.{ModeIsLeftOut, NextIsSpared, PartIsLeftOut, TextIsLeftOut}

pub kick_is_followed : KickIsFollowed
unfolding read_of is_nick is_channel fold fold_table line_text cut
kick_is_followed = refl

pub kill_is_followed : KillIsFollowed
unfolding read_of is_nick is_channel fold fold_table line_text cut
kill_is_followed = refl

pub gone_is_left_out : GoneIsLeftOut
unfolding read_of is_nick is_channel fold fold_table
gone_is_left_out = refl

pub part_is_left_out : PartIsLeftOut
unfolding read_of is_nick is_channel fold fold_table
part_is_left_out = refl

pub kick_is_left_out : KickIsLeftOut
unfolding read_of is_nick is_channel fold fold_table
kick_is_left_out = refl

pub text_is_left_out : TextIsLeftOut
unfolding read_of is_nick is_channel fold fold_table
text_is_left_out = refl

pub invite_is_left_out : InviteIsLeftOut
unfolding read_of is_nick is_channel fold fold_table
invite_is_left_out = refl

pub next_is_spared : NextIsSpared
unfolding read_of is_nick is_channel fold fold_table
next_is_spared = refl

pub met_is_given : MetIsGiven
unfolding read_of is_nick is_channel fold fold_table
met_is_given = refl

pub met_goes : MetGoes
unfolding read_of is_nick is_channel fold fold_table
met_goes = refl

pub met_is_killed : MetIsKilled
unfolding read_of is_nick is_channel fold fold_table
met_is_killed = refl

pub letter_is_left_out : LetterIsLeftOut
unfolding read_of is_nick is_channel is_limit fold fold_table line_text cut digits
letter_is_left_out = refl

pub mode_is_left_out : ModeIsLeftOut
unfolding read_of is_nick is_channel fold fold_table
mode_is_left_out = refl

pub key_stays : KeyStays
unfolding read_of is_nick is_channel is_key fold fold_table line_text cut
key_stays = refl

pub killed_is_followed : KilledIsFollowed
unfolding read_of is_nick is_channel fold fold_table
killed_is_followed = record {
  before = refl;
  bob = refl;
  log_bob = refl;
  rob = refl;
  log_rob = refl;
  read = refl;
}

pub topic_yields : TopicYields
unfolding read_of is_nick is_channel fold fold_table line_text cut
topic_yields = refl

pub topic_stays : TopicStays
unfolding read_of is_nick is_channel fold fold_table line_text cut
topic_stays = refl

pub key_yields : KeyYields
unfolding read_of is_nick is_channel is_key fold fold_table line_text cut
key_yields = refl

pub private_yields : PrivateYields
unfolding read_of is_nick is_channel fold fold_table line_text cut
private_yields = refl

pub operator_stays : OperatorStays
unfolding read_of is_nick is_channel fold fold_table line_text cut
operator_stays = refl

pub others_stay : OthersStay
unfolding read_of is_nick is_channel is_ban_mask fold fold_table line_text cut
others_stay = refl

pub mode_is_set : ModeIsSet
unfolding read_of is_nick is_channel fold fold_table line_text cut
mode_is_set = refl

pub topic_is_set : TopicIsSet
unfolding read_of is_nick is_channel fold fold_table line_text cut
topic_is_set = refl

pub kick_is_set : KickIsSet
unfolding read_of is_nick is_channel fold fold_table line_text cut
kick_is_set = refl

pub own_goes_with_it : OwnGoesWithIt
unfolding read_of is_nick is_channel fold fold_table line_text cut
own_goes_with_it = record { mode = refl; away = refl; next = refl; logged = refl }

pub operator_is_brought : OperatorIsBrought
unfolding read_of is_nick is_channel fold fold_table line_text cut
operator_is_brought = refl

pub begun_is_one : BegunIsOne
unfolding read_of is_nick is_channel fold fold_table line_text cut
begun_is_one = refl

pub begun_twice_is_one : BegunTwiceIsOne
unfolding read_of is_nick is_channel fold fold_table line_text cut
begun_twice_is_one = refl

pub spelling_stays : SpellingStays
unfolding read_of is_nick is_channel fold fold_table
spelling_stays = record { lesser = refl; greater = refl; next = refl }

pub raises_behind_out : RaisesBehindOut
unfolding read_of is_nick is_channel is_server fold fold_table
raises_behind_out = record { modes = refl; topic = refl; elsewhere = refl; user = refl }

pub next_is_unset : NextIsUnset
unfolding read_of is_nick is_channel fold fold_table line_text cut
next_is_unset = refl

pub ended_is_asked : EndedIsAsked
unfolding read_of is_nick is_channel fold fold_table
ended_is_asked = record { out = refl; gone = refl; lost = refl; far = refl }

pub begun_is_asked : BegunIsAsked
unfolding read_of is_nick is_channel fold fold_table
begun_is_asked = record { anew = refl; passed_on = refl }

pub others_are_not_asked : OthersAreNotAsked
unfolding read_of is_nick is_channel fold fold_table
others_are_not_asked = record { held = refl; other = refl; told = refl }

pub comer_is_brought : ComerIsBrought
unfolding read_of is_nick is_channel fold fold_table line_text cut
comer_is_brought = record { anew = refl; spelled = refl; other = refl }
