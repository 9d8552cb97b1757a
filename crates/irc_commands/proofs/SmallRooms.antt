-- What is found in small rooms, and the examples that follow.
use Rattle.std.proofs.Common.{◌≡◌, ℕ, true, false, cond, not, ◌&&◌, ◌||◌, Option, Some, None, List}
use Rattle.std.proofs.Common.{[], ◌∷◌, ◌++◌, refl, ◌∙◌, ap, codes, is_some}
use Rattle.std.specs.FinMap.{empty, get-empty}
use Rattle.irc_names.specs.Fold.{fold, fold_table, key}
use Rattle.irc_names.specs.Tables.{fold_cmp, row}
use Rattle.irc_names.specs.TableLaws.{row-alter_same, row-alter_other}
use Rattle.irc_names.specs.Names.{is_nick}
use Rattle.irc_line.specs.Bytes.{cut}
use Rattle.irc_line.specs.Messages.{line_text}
use Rattle.irc_names.specs.UserTexts.{clean_user, cut_real}
use Rattle.irc_users.specs.declared.user.User.{User}
use Rattle.irc_channels.specs.declared.flags.Flags.{Flags}
use Rattle.irc_channels.specs.declared.channel.Channel.{Channel}
use Rattle.irc_channels.specs.Texts.{cut_words}
use Rattle.irc_room.specs.effect.Target.TheVariants as target
use Rattle.irc_numerics.specs.declared.replies.Reply.TheVariants.{NicknameInUse, CannotSendToChan}
use Rattle.irc_numerics.specs.declared.replies.Reply.TheVariants.{TooManyTargets}
use Rattle.irc_acts.specs.declared.act.Act.{Act}
use Rattle.irc_acts.specs.declared.act.Act.TheVariants.{Answer}
use Rattle.irc_commands.specs.declared.pending.Pending.{Pending}
use Rattle.irc_acts.specs.Acts.{client_words}
use Rattle.irc_commands.specs.Decisions.{Decided, does}
use Rattle.irc_commands.specs.Decide.{decide, decide_for}
use Rattle.irc_commands.specs.Table.{command_row}
use Rattle.irc_commands.specs.Register.{register, replies, complete, welcomed, user_of}
use Rattle.irc_commands.specs.Register.{Registered}
use Rattle.irc_acts.specs.CommaLists.{entries}
use Rattle.irc_acts.specs.Standing.{is_banned}
use Rattle.irc_commands.specs.declared.say.Verb.TheVariants as verb
use Rattle.irc_routes.specs.declared.programs.Programs.TheVariants as programs
use Rattle.irc_commands.specs.Say.{say_steps, is_raised, say_text, to_channel, to_user}
use Rattle.irc_commands.specs.Say.{unless_notice}
use Rattle.irc_commands.specs.Lines.{al, al_alone, a_net, line, newcomer, UnknownTarget}
use Rattle.irc_commands.specs.Lines.{FifthTarget, SilentNotice, QuitWithText, UnknownWord}
use Rattle.irc_commands.specs.Lines.{ForeignPrefix, EarlyJoin, TakenByFold, TakenMeanwhile, bo}
use Rattle.irc_commands.specs.Lines.{als_channel, with_channel, to_channel_line, MemberIsHeard}
use Rattle.irc_commands.specs.Lines.{OutsiderIsKeptOut, al_away, al_away_alone, a_net_serves}
use Rattle.irc_commands.specs.Lines.{AwayIsTold, NoticeIsNotTold, AwayIsUnknown, AwayIsHidden}

al_there : row al_alone.users (key (codes "al")) ≡ Some al
al_there = row-alter_same (key (codes "al")) (λ _. Some al) empty

nobody : (nick : List ℕ) → row (empty {X = User} {R = fold_cmp}) nick ≡ None
nobody nick = get-empty fold_cmp nick

bo_missing : row al_alone.users (key (codes "bo")) ≡ None
unfolding fold fold_table
bo_missing = row-alter_other (key (codes "al")) (λ _. Some al) empty (key (codes "bo")) refl
    ∙ nobody (key (codes "bo"))

pub unknown_word : UnknownWord
unfolding decide command_row
unknown_word = ap (decide_for al_alone a_net (line (codes "FOO") [])) al_there

pub foreign_prefix : ForeignPrefix
unfolding decide command_row fold fold_table
foreign_prefix = ap (decide_for al_alone a_net (record {
  prefix = Some (codes "zz");
  command = codes "PING";
  params = codes "x" ∷ [];
})) al_there

pub early_join : EarlyJoin
unfolding register
early_join = refl

pub unknown_target : UnknownTarget
unfolding decide command_row say_steps entries
unknown_target =
    ap (decide_for al_alone a_net (line (codes "PRIVMSG") (codes "bo" ∷ codes "hi" ∷ []))) al_there
    ∙ ap (λ o. does ((to_user programs.Off al verb.Privmsg (codes "bo") (codes "hi") o ++ [])
    ++ [])) bo_missing

abbrev said : Option User → List Act
said o = to_user programs.Off al verb.Privmsg (codes "al") (codes "x") o

pub fifth_target : FifthTarget
unfolding decide command_row say_steps entries
fifth_target =
    ap (decide_for al_alone a_net
    (line (codes "privmsg") (codes "al,al,al,al,zz" ∷ codes "x" ∷ []))) al_there
    ∙ ap (λ o. does ((said o ++ (said o ++ (said o ++ (said o ++ []))))
    ++ Answer (TooManyTargets (client_words (codes "zz"))) ∷ [])) al_there

pub silent_notice : SilentNotice
unfolding decide command_row say_steps entries
silent_notice =
    ap (decide_for al_alone a_net (line (codes "NOTICE") (codes "bo" ∷ codes "hi" ∷ []))) al_there
    ∙ ap (λ o. does (unless_notice verb.Notice
    ((to_user programs.Off al verb.Notice (codes "bo") (codes "hi") o ++ []) ++ []))) bo_missing

pub quit_with_text : QuitWithText
unfolding decide command_row cut_words line_text cut
quit_with_text = ap (decide_for al_alone a_net (line (codes "QUIT") (codes "bye" ∷ []))) al_there

pub taken_by_fold : TakenByFold
unfolding register is_nick fold fold_table
taken_by_fold =
    ap (λ o. cond (is_some o) (replies (newcomer None) (Answer (NicknameInUse (codes "AL")) ∷ []))
    (complete al_alone a_net (record (newcomer None) { nick = Some (codes "AL") }))) al_there

abbrev given : Pending
given = record {
  nick = Some (codes "al");
  user = Some (codes "u");
  real = codes "Xy";
  host = codes "h";
}

abbrev registered_now : Pending → List Act → Registered
registered_now pending steps =
    record { pending = pending; steps = steps; registered = true; close = false }

pub taken_meanwhile : TakenMeanwhile
unfolding register clean_user cut_real
taken_meanwhile =
    ap (λ o. cond (is_some o)
    (replies (record given { nick = None }) (Answer (NicknameInUse (codes "al")) ∷ []))
    (registered_now given (welcomed a_net (user_of a_net given (codes "al") (codes "u"))))) al_there

al_with_channel : row with_channel.users (key (codes "al")) ≡ Some al
unfolding fold fold_table
al_with_channel = row-alter_other (key (codes "bo")) (λ _. Some bo) al_alone.users
    (key (codes "al")) refl ∙ al_there

bo_with_channel : row with_channel.users (key (codes "bo")) ≡ Some bo
bo_with_channel = row-alter_same (key (codes "bo")) (λ _. Some bo) al_alone.users

channel_there : row with_channel.channels (key (codes "#RUST")) ≡ Some als_channel
unfolding fold fold_table
channel_there = row-alter_same (key (codes "#Rust")) (λ _. Some als_channel) empty

al_member : row als_channel.members (key (codes "al")) ≡ Some (record { op = false; voice = false })
al_member =
    row-alter_same (key (codes "al")) (λ _. Some (record { op = false; voice = false })) empty

bo_outside : row als_channel.members (key (codes "bo")) ≡ None
unfolding fold fold_table
bo_outside = row-alter_other (key (codes "al")) (λ _. Some (record { op = false; voice = false }))
    empty (key (codes "bo")) refl ∙ get-empty fold_cmp (key (codes "bo"))

-- what comes of the line, by the channel that is found and by the flags of who says it
abbrev in_channel : User → Option Channel → Decided
in_channel me found =
    does ((to_channel me verb.Privmsg (codes "#RUST") (codes "hi") found ++ []) ++ [])

abbrev with_flags : User → Option Flags → Decided
with_flags me flags =
    does ((cond ((not als_channel.modes.no_outside || is_some flags)
    && (not als_channel.modes.moderated || is_raised flags)
    && (is_raised flags || not (is_banned me als_channel)))
    (say_text me verb.Privmsg (target.Channel als_channel.name) als_channel.name (codes "hi"))
    (Answer (CannotSendToChan als_channel.name) ∷ []) ++ []) ++ [])

pub member_is_heard : MemberIsHeard
unfolding decide command_row say_steps entries
member_is_heard =
    ap (decide_for with_channel a_net to_channel_line) al_with_channel
    ∙ ap (in_channel al) channel_there
    ∙ ap (with_flags al) al_member

pub outsider_is_kept_out : OutsiderIsKeptOut
unfolding decide command_row say_steps entries
outsider_is_kept_out =
    ap (decide_for with_channel a_net to_channel_line) bo_with_channel
    ∙ ap (in_channel bo) channel_there
    ∙ ap (with_flags bo) bo_outside

al_away_there : row al_away_alone.users (key (codes "al")) ≡ Some al_away
al_away_there = row-alter_same (key (codes "al")) (λ _. Some al_away) empty

pub away_is_told : AwayIsTold
unfolding decide command_row say_steps entries
away_is_told =
    ap (decide_for al_away_alone a_net_serves
    (line (codes "PRIVMSG") (codes "al" ∷ codes "x" ∷ []))) al_away_there
    ∙ ap (λ o. does ((to_user programs.On al_away verb.Privmsg (codes "al") (codes "x") o ++ [])
    ++ [])) al_away_there

pub notice_is_not_told : NoticeIsNotTold
unfolding decide command_row say_steps entries
notice_is_not_told =
    ap (decide_for al_away_alone a_net_serves
    (line (codes "NOTICE") (codes "al" ∷ codes "x" ∷ []))) al_away_there
    ∙ ap (λ o. does (unless_notice verb.Notice
    ((to_user programs.On al_away verb.Notice (codes "al") (codes "x") o ++ []) ++ [])))
    al_away_there

pub away_is_unknown : AwayIsUnknown
unfolding decide command_row
away_is_unknown =
    ap (decide_for al_alone a_net (line (codes "AWAY") (codes "at lunch" ∷ []))) al_there

pub away_is_hidden : AwayIsHidden
unfolding decide command_row say_steps entries
away_is_hidden =
    ap (decide_for al_away_alone a_net (line (codes "PRIVMSG") (codes "al" ∷ codes "x" ∷ [])))
    al_away_there
    ∙ ap (λ o. does ((to_user programs.Off al_away verb.Privmsg (codes "al") (codes "x") o ++ [])
    ++ [])) al_away_there
