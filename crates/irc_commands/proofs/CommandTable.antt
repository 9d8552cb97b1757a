-- Each row of the command table keeps the laws of commands, so each line of a user does.
use Rattle.std.proofs.Common.{sym, ◌≡◌, ℕ, Option, Some, None, List, [], ◌∷◌, refl, cond, drop}
use Rattle.std.proofs.Common.{length, nat_lt, ◌∙◌, ap}
use Rattle.irc_names.specs.Fold.{key}
use Rattle.irc_names.specs.Tables.{row}
use Rattle.irc_line.specs.Messages.{Parsed}
use Rattle.irc_users.specs.declared.user.User.{User}
use Rattle.irc_numerics.specs.declared.replies.Reply.TheVariants.{AlreadyRegistered, NoMotd}
use Rattle.irc_numerics.specs.declared.replies.Reply.TheVariants.{NeedMoreParams, UnknownCommand}
use Rattle.irc_room.specs.Room.{Room, IsWellFormed}
use Rattle.irc_room.specs.Readers.{is_invited_at}
use Rattle.irc_routes.specs.Place.{Place}
use Rattle.irc_acts.specs.declared.act.Act.TheVariants.{Answer}
use Rattle.irc_acts.specs.Acts.{client_words, effects_among}
use Rattle.irc_acts.specs.Words.{word_at}
use Rattle.irc_acts.specs.ByTest.{by_test}
use Rattle.irc_acts.specs.OtherInvitations.{AreAlikeFor}
use Rattle.irc_queries.specs.Laws.IsonLaw.{ison_only_asks}
use Rattle.irc_queries.specs.Laws.UserhostLaw.{userhost_only_asks}
use Rattle.irc_queries.specs.Laws.LusersLaw.{lusers_only_asks}
use Rattle.irc_queries.specs.Laws.ListLaw.{list_only_asks}
use Rattle.irc_queries.specs.Laws.WhoisLaw.{whois_only_asks}
use Rattle.irc_queries.specs.Laws.WhoLaw.{who_only_asks}
use Rattle.irc_queries.specs.Laws.NamesAsks.{names_only_asks}
use Rattle.irc_channel_commands.specs.Laws.AwayLaw.{away_is_lawful}
use Rattle.irc_channel_commands.specs.Laws.InviteLaw.{invite_is_lawful}
use Rattle.irc_channel_commands.specs.Laws.ModeLaw.{mode_is_lawful}
use Rattle.irc_channel_commands.specs.Laws.JoinLaw.{join_is_lawful}
use Rattle.irc_channel_commands.specs.Laws.KickLaw.{kick_is_lawful}
use Rattle.irc_channel_commands.specs.Laws.PartLaw.{part_is_lawful}
use Rattle.irc_commands.specs.declared.command_names.Command.{Command}
use Rattle.irc_commands.specs.Table.{decided_by, command_row, row_for}
use Rattle.irc_commands.specs.Decisions.{Decided, nothing}
use Rattle.irc_commands.specs.Decide.{decide_for, decide}
use Rattle.irc_commands.specs.Ping.{ping_steps}
use Rattle.irc_commands.specs.CommandNames.{CommandRow, row_named}
use Rattle.irc_commands.specs.OwnLines.{is_from}
use Rattle.irc_commands.specs.OwnInvitations.{DecidedByOwnInvitations}
use Rattle.irc_commands.specs.Quit.{quit_decided}
use Rattle.irc_commands.specs.Whowas.{whowas_steps}
use Rattle.irc_commands.proofs.LawfulRows.{IsSoDecided, IsLawfulRow, lawful, asks, says, either}
use Rattle.irc_commands.proofs.NickLaw.{nick_is_lawful}
use Rattle.irc_commands.proofs.SayLaw.{say_is_lawful}
use Rattle.irc_commands.proofs.TopicLaw.{topic_is_lawful}
use Rattle.irc_commands.specs.declared.command_names.Command.TheVariants as command
use Rattle.irc_commands.specs.declared.say.Verb.TheVariants as verb

pinged : (place : Place) (params : List (List ℕ)) → effects_among (ping_steps place params) ≡ []
unfolding ping_steps
pinged place [] = refl
pinged place (word ∷ more) = refl

whowas_quiet : (params : List (List ℕ)) → effects_among (whowas_steps params) ≡ []
unfolding whowas_steps
whowas_quiet [] = refl
whowas_quiet (name ∷ more) = refl

quit_is_lawful : (params : List (List ℕ)) → IsLawfulRow params (λ me room. quit_decided me params)
quit_is_lawful params = record {
  cases = λ me room who Q so is. so.quits me _ _ is refl;
  alike = λ me room other so. refl;
}

-- a line for each row of the table
by_command : (place : Place) (params : List (List ℕ)) (which : Command)
    → IsLawfulRow params (λ me room. command_row room place me params which)
unfolding command_row
by_command place params command.Pass = says params (Answer AlreadyRegistered ∷ []) refl
by_command place params command.User = says params (Answer AlreadyRegistered ∷ []) refl
by_command place params command.Pong = says params [] refl
by_command place params command.Motd = says params (Answer NoMotd ∷ []) refl
by_command place params command.Ping = says params (ping_steps place params) (pinged place params)
by_command place params command.Quit = quit_is_lawful params
by_command place params command.Privmsg =
    lawful 0 params (say_is_lawful place.about.programs verb.Privmsg params)
by_command place params command.Notice =
    lawful 0 params (say_is_lawful place.about.programs verb.Notice params)
by_command place params command.Nick = nick_is_lawful params
by_command place params command.Join =
    lawful 0 params (join_is_lawful (word_at params 0) (word_at params 1))
by_command place params command.Part =
    lawful 1 params (part_is_lawful (word_at params 0) (drop 1 params))
by_command place params command.Topic =
    lawful 1 params (topic_is_lawful (word_at params 0) (drop 1 params))
by_command place params command.Names = asks params (names_only_asks params)
by_command place params command.Kick =
    lawful 2 params (kick_is_lawful (word_at params 0) (word_at params 1) (drop 2 params))
by_command place params command.Invite =
    lawful 0 params (invite_is_lawful (word_at params 0) (word_at params 1))
by_command place params command.Mode =
    lawful 1 params (mode_is_lawful (word_at params 0) (drop 1 params))
by_command place params command.Ison = asks params (ison_only_asks params)
by_command place params command.Lusers = asks params (lusers_only_asks place)
by_command place params command.List = asks params (list_only_asks params)
by_command place params command.Whois = asks params (whois_only_asks place params)
by_command place params command.Who = asks params (who_only_asks place params)
by_command place params command.Away = lawful 0 params (away_is_lawful params)
by_command place params command.Userhost = asks params (userhost_only_asks place params)
by_command place params command.Whowas = says params (whowas_steps params) (whowas_quiet params)

by_row : (place : Place) (message : Parsed) (which : Option CommandRow)
    → IsLawfulRow message.params (λ me room. decided_by room place me message which)
by_row place message None =
    says message.params (Answer (UnknownCommand (client_words message.command)) ∷ []) refl
by_row place message (Some found) = either message.params
    (nat_lt (length message.params) found.least)
    (says message.params (Answer (NeedMoreParams (client_words found.name)) ∷ []) refl)
    (by_command place message.params found.command)

-- ---- so it is with each line of a user

by_user : (room : Room) (place : Place) (who : List ℕ) (message : Parsed) (Q : Decided → Type 0)
    → IsSoDecided room who message.params Q → (found : Option User)
    → row room.users (key who) ≡ found → Q (decide_for room place message found)
by_user room place who message Q so None is = so.silent
by_user room place who message Q so (Some me) is =
    by_test Q (is_from message.prefix (Some me.nick)) (row_for room place me message) nothing
    (λ own. (by_row place message (row_named place.about.programs message.command)).cases
    me room who Q so is)
    (λ foreign. so.silent)

pub decided_so : (room : Room) (place : Place) (who : List ℕ) (message : Parsed)
    (Q : Decided → Type 0) → IsSoDecided room who message.params Q
    → Q (decide room place who message)
unfolding decide
decided_so room place who message Q so =
    by_user room place who message Q so (row room.users (key who)) refl

-- rooms that are alike for a nickname are so for each of its spellings
by_spelling : (room other : Room) (who nick : List ℕ) → key nick ≡ key who
    → AreAlikeFor who room other → AreAlikeFor nick room other
by_spelling room other who nick folds so = record {
  alike = so.alike;
  invited = λ fold. ap (λ k. is_invited_at room k fold) folds ∙ so.invited fold
      ∙ sym (ap (λ k. is_invited_at other k fold) folds);
}

user_alike : (room other : Room) (place : Place) (who : List ℕ) (message : Parsed)
    → IsWellFormed room → AreAlikeFor who room other
    → (found : Option User) → row room.users (key who) ≡ found
    → decide_for room place message found ≡ decide_for other place message found
user_alike room other place who message well so None is = refl
user_alike room other place who message well so (Some me) is =
    ap (λ d. cond (is_from message.prefix (Some me.nick)) d nothing)
    ((by_row place message (row_named place.about.programs message.command)).alike me room other
    (by_spelling room other who me.nick (well.users_named (key who) me is) so))

pub decided_by_own_invitations : DecidedByOwnInvitations
unfolding decide
decided_by_own_invitations room other place who message well so =
    user_alike room other place who message well so (row room.users (key who)) refl
    ∙ ap (λ users. decide_for other place message (row users (key who))) so.alike.users
