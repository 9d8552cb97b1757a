-- The examples.
use Rattle.std.proofs.Common.{true, false, Some, None, [], ◌∷◌, ◌++◌, refl, codes}
use Rattle.irc_names.specs.Fold.{fold, fold_table}
use Rattle.irc_names.specs.Names.{is_ban_mask, is_key}
use Rattle.irc_users.specs.declared.user_change.UserChange.TheVariants.{Away}
use Rattle.irc_modes.specs.declared.modes.ModeLetter.TheVariants as letter
use Rattle.irc_effects.specs.declared.effect.Effect.{Effect}
use Rattle.irc_effects.specs.declared.effect.Effect.TheVariants.{Rename, Quit, Join, Part, Kick}
use Rattle.irc_effects.specs.declared.effect.Effect.TheVariants.{ChangeUser}
use Rattle.irc_effects.specs.Examples.{comes, set, clear}
use Rattle.irc_room_edits.specs.Examples.{al, ally, bo, hash_c, changes_mode, sets_topic, one_in}
use Rattle.irc_room_edits.specs.Examples.{two_in, two_operators, with_key, set_in, members, flag}
use Rattle.irc_room_edits.specs.Examples.{users, spelled, text_of, secret_by, private_by, ban_by}
use Rattle.irc_room_edits.specs.Examples.{JoinMakesChannel, SecondJoins, TextsAreSet, ModesAreSet}
use Rattle.irc_room_edits.specs.Examples.{LeaversGo, RenameIsSpelled, TopicsCross, KeysCross}
use Rattle.irc_room_edits.specs.Examples.{PrivaciesCross, BansCross, LeavesCross}
use Rattle.irc_room_edits.specs.Examples.{NamesAreFollowed, TwoToOneName, ChannelComesBack}
use Rattle.irc_room_edits.specs.Examples.{BothMakeChannel, NoChangeIsWritten}
use Rattle.irc_room_edits.specs.Places.{operator, voice, spelling, topic, privacy, channel_key, ban}
use Rattle.irc_room_edits.proofs.ComputedEdits.{makes, agree}

pub join_makes_channel : JoinMakesChannel
unfolding fold fold_table
join_makes_channel =
    let before = comes al ∷ [] in
    let joins : Effect = Join al (codes "#C") true in record {
      is_member = makes before joins members _ refl refl;
      is_operator = makes before joins (flag operator al) _ refl refl;
      has_no_voice = makes before joins (flag voice al) _ refl refl;
      as_spelled = makes before joins (set_in spelling) _ refl refl;
    }

pub second_joins : SecondJoins
unfolding fold fold_table
second_joins =
    let joins : Effect = Join bo (codes "#C") false in record {
      are_members = makes one_in joins members _ refl refl;
      is_none = makes one_in joins (flag operator bo) _ refl refl;
      as_before = makes one_in joins (set_in spelling) _ refl refl;
      still_set = makes one_in joins (set_in topic) _ refl refl;
    }

pub texts_are_set : TextsAreSet
unfolding fold fold_table
texts_are_set = record {
  of_channel = makes two_in (sets_topic bo (codes "new")) (set_in topic) _ refl refl;
  of_user = makes two_in (ChangeUser bo (Away (Some (codes "out")))) (text_of bo) _ refl refl;
}

pub modes_are_set : ModesAreSet
unfolding fold fold_table is_ban_mask is_key
modes_are_set = record {
  key_set = makes two_in (changes_mode al (set letter.Key (Some (codes "x"))))
      (set_in channel_key) _ refl refl;
  key_taken = makes with_key (changes_mode al (clear letter.Key None)) (set_in channel_key) _
      refl refl;
  is_operator = makes two_in (changes_mode al (set letter.Operator (Some bo))) (flag operator bo)
      _ refl refl;
  is_operator_no_more = makes two_operators (changes_mode al (clear letter.Operator (Some bo)))
      (flag operator bo) _ refl refl;
  is_private = makes two_in (private_by al) (set_in privacy) _ refl refl;
  is_secret = makes (two_in ++ private_by al ∷ []) (secret_by al) (set_in privacy) _ refl refl;
  still_secret = makes (two_in ++ secret_by al ∷ []) (private_by al) (set_in privacy) _ refl refl;
  is_banned = makes two_in (ban_by al (codes "a[!*@*")) (set_in (ban (codes "A{!*@*"))) _
      refl refl;
  stands_once = makes (two_in ++ ban_by al (codes "a[!*@*") ∷ []) (ban_by al (codes "A{!*@*"))
      (set_in (ban (codes "a[!*@*"))) _ refl refl;
  no_other = makes two_in (ban_by al (codes "a[!*@*")) (set_in (ban (codes "b!*@*"))) _ refl refl;
}

pub leavers_go : LeaversGo
unfolding fold fold_table
leavers_go =
    let kicks : Effect = Kick al hash_c bo (codes "out") in
    let quits : Effect = Quit al (codes "bye") in record {
      is_kicked = makes two_in kicks members _ refl refl;
      still_user = makes two_in kicks users _ refl refl;
      still_set = makes two_in kicks (set_in topic) _ refl refl;
      is_gone = makes one_in quits users _ refl refl;
      no_member = makes one_in quits members _ refl refl;
      nothing_set = makes one_in quits (set_in topic) _ refl refl;
      no_name = makes one_in quits (set_in spelling) _ refl refl;
    }

pub rename_is_spelled : RenameIsSpelled
unfolding fold fold_table
rename_is_spelled =
    let takes : Effect = Rename al (codes "Ally") in
    let respells : Effect = Rename al (codes "AL") in record {
      is_user = makes two_in takes users _ refl refl;
      is_member = makes two_in takes members _ refl refl;
      is_operator = makes two_in takes (flag operator ally) _ refl refl;
      as_given = makes two_in takes (spelled ally) _ refl refl;
      is_the_same = makes two_in respells users _ refl refl;
      as_given_too = makes two_in respells (spelled al) _ refl refl;
    }

pub topics_cross : TopicsCross
unfolding fold fold_table
topics_cross = agree two_in (sets_topic al (codes "one")) (sets_topic bo (codes "two"))
    (set_in topic) _ refl refl

pub keys_cross : KeysCross
unfolding fold fold_table is_key
keys_cross = agree with_key (changes_mode al (clear letter.Key None))
    (changes_mode bo (set letter.Key (Some (codes "y")))) (set_in channel_key) _ refl refl

pub privacies_cross : PrivaciesCross
unfolding fold fold_table
privacies_cross = agree two_operators (private_by al) (secret_by bo) (set_in privacy) _ refl refl

pub no_change_is_written : NoChangeIsWritten
unfolding fold fold_table
no_change_is_written =
    agree (two_operators ++ secret_by al ∷ []) (changes_mode al (clear letter.Private None))
    (changes_mode bo (clear letter.Secret None)) (set_in privacy) _ refl refl

pub bans_cross : BansCross
unfolding fold fold_table is_ban_mask
bans_cross = agree two_operators (ban_by al (codes "a[!*@*")) (ban_by bo (codes "A{!*@*"))
    (set_in (ban (codes "a{!*@*"))) _ refl refl

pub leaves_cross : LeavesCross
unfolding fold fold_table
leaves_cross =
    let kicks : Effect = Kick al hash_c bo (codes "out") in
    let leaves : Effect = Part bo hash_c (codes "bye") in record {
      are_members = agree two_in kicks leaves members _ refl refl;
      still_set = agree two_in kicks leaves (set_in topic) _ refl refl;
    }

pub names_are_followed : NamesAreFollowed
unfolding fold fold_table
names_are_followed =
    let takes : Effect = Rename al ally in
    let kicks : Effect = Kick bo hash_c al (codes "out") in record {
      is_renamed = agree two_operators takes kicks users _ refl refl;
      is_kicked = agree two_operators takes kicks members _ refl refl;
    }

pub two_to_one_name : TwoToOneName
unfolding fold fold_table
two_to_one_name = agree two_in (Rename al ally) (Rename bo ally) users _ refl refl

pub channel_comes_back : ChannelComesBack
unfolding fold fold_table
channel_comes_back =
    let leaves : Effect = Part al hash_c (codes "bye") in
    let joins : Effect = Join bo hash_c false in record {
      is_member = agree one_in leaves joins members _ refl refl;
      still_set = agree one_in leaves joins (set_in topic) _ refl refl;
      as_spelled = agree one_in leaves joins (set_in spelling) _ refl refl;
    }

pub both_make_channel : BothMakeChannel
unfolding fold fold_table
both_make_channel =
    let before = comes al ∷ comes bo ∷ [] in
    let one : Effect = Join al hash_c true in
    let other : Effect = Join bo (codes "#C") true in record {
      are_members = agree before one other members _ refl refl;
      are_operators = agree before one other (flag operator bo) _ refl refl;
      as_greater = agree before one other (set_in spelling) _ refl refl;
    }
