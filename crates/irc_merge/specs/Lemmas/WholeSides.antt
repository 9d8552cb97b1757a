-- The side of a room whose homes all pass is the room.
use Rattle.std.proofs.Common.{◌≡◌, ℕ, Bool, true, false, cond, Option, Some, None, List, refl, ◌∙◌}
use Rattle.std.proofs.Common.{ap, is_some}
use Rattle.std.specs.Option.{option_and_then, option_map_or}
use Rattle.std.specs.FinMap.{retain_keys}
use Rattle.irc_names.specs.Lemmas.PlainFacts.{same_either_way}
use Rattle.irc_names.specs.Tables.{Table, row, each}
use Rattle.irc_names.specs.TableLaws.{same_table, row-each}
use Rattle.irc_users.specs.declared.user.User.{User}
use Rattle.irc_channels.specs.declared.channel.Channel.{Channel}
use Rattle.irc_room.specs.Room.{IsSoundRow}
use Rattle.irc_merge.specs.Bursts.{home_passes, user_passes, channel_side, side_of}
use Rattle.irc_merge.specs.Laws.{WholeSide}
use Rattle.irc_merge.specs.Lemmas.TableWords.{row-kept}
use Rattle.irc_merge.specs.Lemmas.Quitting.{peopled}

abbrev any_home : List ℕ → Bool
any_home home = true

all_pass : (users : Table User) (q : List ℕ) → is_some (row users q) ≡ true
    → home_passes any_home users q ≡ true
all_pass users q there = by_row (row users q) there
  where
    by_row : (o : Option User) → is_some o ≡ true
        → option_map_or (λ (user : User). true) o false ≡ true
    by_row None there = there
    by_row (Some user) there = refl

-- rows whose folds are users' are all kept
known_kept : {X : Type 0} (users : Table User) (table : Table X)
    → ((q : List ℕ) → is_some (row table q) ≡ true → is_some (row users q) ≡ true)
    → retain_keys table (home_passes any_home users) ≡ table
known_kept {X} users table known =
    same_table (retain_keys table (home_passes any_home users)) table (λ q.
    row-kept table (home_passes any_home users) q ∙ by_row q (row table q) refl)
  where
    by_row : (q : List ℕ) (o : Option X) → row table q ≡ o
        → cond (home_passes any_home users q) o None ≡ o
    by_row q None at = same_either_way (home_passes any_home users q) None
    by_row q (Some x) at =
        ap (λ b. cond b (Some x) None) (all_pass users q (known q (ap is_some at)))

pub whole_side : WholeSide
unfolding side_of
whole_side room well = λ i. record { users = same_users i; channels = same_channels i }
  where
    user_row : (o : Option User) → option_and_then (user_passes any_home) o ≡ o
    user_row None = refl
    user_row (Some user) = refl

    same_users : each (user_passes any_home) room.users ≡ room.users
    same_users = same_table (each (user_passes any_home) room.users) room.users
        (λ q. row-each (user_passes any_home) room.users q ∙ user_row (row room.users q))

    channel_row : (fold : List ℕ) (o : Option Channel) → row room.channels fold ≡ o
        → option_and_then (channel_side any_home room.users) o ≡ o
    channel_row fold None at = refl
    channel_row fold (Some channel) at =
        let sound : IsSoundRow room.users fold channel = well.channels_sound fold channel at in
        (λ i. peopled channel (known_kept room.users channel.members sound.members_known i)
        (known_kept room.users channel.invited sound.invited_known i))
        ∙ ap (λ b. cond b None (Some channel)) sound.some_member

    same_channels : each (channel_side any_home room.users) room.channels ≡ room.channels
    same_channels =
        same_table (each (channel_side any_home room.users) room.channels) room.channels (λ q.
        row-each (channel_side any_home room.users) room.channels q
        ∙ channel_row q (row room.channels q) refl)
