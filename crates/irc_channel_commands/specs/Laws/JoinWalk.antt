-- What is so of each Join by which a user may come to a channel is so of each effect of a JOIN of
-- one channel.
use Rattle.std.proofs.Common.{◌≡◌, ℕ, Bool, true, false, not, ◌&&◌, Option, Some, None, List, []}
use Rattle.std.proofs.Common.{◌∷◌, ◌++◌, length, map, nat_le, refl, sym, ap, subst, if◌then◌else◌}
use Rattle.std.proofs.lemmas.Bool.{not-false}
use Rattle.irc_names.specs.Fold.{key}
use Rattle.irc_names.specs.Names.{is_channel}
use Rattle.irc_names.specs.Tables.{Table, row}
use Rattle.irc_users.specs.declared.user.User.{User}
use Rattle.irc_channels.specs.declared.channel.Channel.{Channel}
use Rattle.irc_channels.specs.Channels.{is_invited, joined, new_channel}
use Rattle.irc_numerics.specs.Limits.{max_names}
use Rattle.irc_numerics.specs.declared.replies.Listed.{Listed}
use Rattle.irc_numerics.specs.declared.replies.Reply.TheVariants.{NoSuchChannel, TooManyChannels}
use Rattle.irc_numerics.specs.declared.replies.Reply.TheVariants.{InviteOnlyChan, BannedFromChan}
use Rattle.irc_numerics.specs.declared.replies.Reply.TheVariants.{BadChannelKey, ChannelIsFull}
use Rattle.irc_room.specs.effect.Effect.{Effect}
use Rattle.irc_room.specs.effect.Effect.TheVariants.{Join}
use Rattle.irc_room.specs.Room.{Room}
use Rattle.irc_room.specs.Effects.{is_member}
use Rattle.irc_room.specs.After.{after}
use Rattle.irc_room.specs.InTurn.{EachInTurn}
use Rattle.irc_acts.specs.declared.act.Act.{Act}
use Rattle.irc_acts.specs.declared.act.Act.TheVariants.{Answer, Do}
use Rattle.irc_acts.specs.Acts.{client_words, effects_among}
use Rattle.irc_acts.specs.AheadLaws.{none-both}
use Rattle.irc_acts.specs.ByTest.{by_test}
use Rattle.irc_acts.specs.Moves.{own_channels}
use Rattle.irc_acts.specs.Standing.{is_banned}
use Rattle.irc_acts.specs.Names.{in_lines, name_line, named_members, names_of, end_of_names}
use Rattle.irc_channel_commands.specs.Limits.{max_joined}
use Rattle.irc_channel_commands.specs.Join.{JoinEntry, opens, is_full, kept_out, topic_for_joiner}
use Rattle.irc_channel_commands.specs.Join.{joins, admitted, joins_found, join_one}

lines_answer : (channel : Channel) (lines : List (List Listed))
    → effects_among (map (name_line channel) lines) ≡ []
lines_answer channel [] = refl
lines_answer channel (line ∷ lines) = lines_answer channel lines

topic_answers : (name topic : List ℕ) → effects_among (topic_for_joiner name topic) ≡ []
topic_answers name [] = refl
topic_answers name (b ∷ bytes) = refl

-- what a joiner is told has no effect
told_answers : (users : Table User) (me : User) (name : List ℕ) (now : Channel) → effects_among
    ((topic_for_joiner now.name now.topic ++ names_of users me now) ++ end_of_names name ∷ []) ≡ []
told_answers users me name now =
    none-both (topic_for_joiner now.name now.topic ++ names_of users me now)
    (end_of_names name ∷ [])
    (none-both (topic_for_joiner now.name now.topic) (names_of users me now)
    (topic_answers now.name now.topic)
    (lines_answer now (in_lines max_names (named_members users me now))))
    refl

-- the user is outside, and the channel is made by a name that may be one, or was found under the
-- name
pub record IsSoOfJoins (Q : Room → Effect → Type 0) (me : User) (room : Room)
    (name : List ℕ) : Type 0 where
  pub makes : is_member room me.nick name ≡ false → is_channel name ≡ true
      → row room.channels (key name) ≡ None → Q room (Join me.nick name true)
  pub enters : is_member room me.nick name ≡ false → (channel : Channel)
      → row room.channels (key name) ≡ Some channel → Q room (Join me.nick channel.name false)

-- ---- what it does looks at the users alone, and at the row of the channel

joins_by_users : (room now : Room) (me : User) (name : List ℕ) (op : Bool) (channel : Channel)
    → now.users ≡ room.users → joins now me name op channel ≡ joins room me name op channel
joins_by_users room now me name op channel same =
    let after_join = joined (key me.nick) op channel in
    ap (λ users.
    Do (Join me.nick channel.name op) ∷ topic_for_joiner after_join.name after_join.topic
    ++ names_of users me after_join ++ end_of_names name ∷ [])
    same

admitted_by_users : (room now : Room) (me : User) (name : List ℕ)
    (channel : Channel) (refusal : Option Act) → now.users ≡ room.users
    → admitted now me name channel refusal ≡ admitted room me name channel refusal
admitted_by_users room now me name channel None same =
    joins_by_users room now me name false channel same
admitted_by_users room now me name channel (Some refusal) same = refl

pub found_by_users : (room now : Room) (me : User) (asked : JoinEntry) (found : Option Channel)
    → now.users ≡ room.users → joins_found now me asked found ≡ joins_found room me asked found
found_by_users room now me asked None same =
    joins_by_users room now me asked.channel true (new_channel asked.channel) same
found_by_users room now me asked (Some channel) same =
    admitted_by_users room now me asked.channel channel (kept_out me asked.key channel) same

-- ---- the walk

module _ (Q : Room → Effect → Type 0) (me : User) (room : Room) where
  joins_so : (name : List ℕ) (op : Bool) (channel : Channel) → Q room (Join me.nick channel.name op)
      → EachInTurn Q room (effects_among (joins room me name op channel))
  joins_so name op channel first =
      let later = after room (Join me.nick channel.name op) in
      record {
        now = first;
        later = subst (EachInTurn Q later)
            (sym (told_answers room.users me name (joined (key me.nick) op channel))) tt;
      }

  admitted_so : (name given : List ℕ) (channel : Channel)
      → Q room (Join me.nick channel.name false) → EachInTurn Q room
      (effects_among (admitted room me name channel (kept_out me given channel)))
  admitted_so name given channel first =
      let R = λ (refusal : Option Act). EachInTurn Q room
      (effects_among (admitted room me name channel refusal)) in
      let full : Option Act = if is_full channel.modes.limit channel
      then Some (Answer (ChannelIsFull channel.name)) else None in
      let closed : Option Act = if not (opens channel.modes.key given)
      then Some (Answer (BadChannelKey channel.name)) else full in
      let banned : Option Act =
      if is_banned me channel then Some (Answer (BannedFromChan channel.name)) else closed in
      by_test R (channel.modes.invite_only && not (is_invited (key me.nick) channel))
      (Some (Answer (InviteOnlyChan channel.name))) banned (λ uninvited. tt)
      (λ invited. by_test R (is_banned me channel)
      (Some (Answer (BannedFromChan channel.name))) closed (λ is. tt)
      (λ is_not. by_test R (not (opens channel.modes.key given))
      (Some (Answer (BadChannelKey channel.name))) full (λ wrong. tt)
      (λ right. by_test R (is_full channel.modes.limit channel)
      (Some (Answer (ChannelIsFull channel.name))) None (λ no_room. tt)
      (λ some_room. joins_so name false channel first))))

  found_so : (asked : JoinEntry) → IsSoOfJoins Q me room asked.channel
      → is_member room me.nick asked.channel ≡ false → is_channel asked.channel ≡ true
      → (found : Option Channel) → row room.channels (key asked.channel) ≡ found
      → EachInTurn Q room (effects_among (joins_found room me asked found))
  found_so asked so outside named None is =
      joins_so asked.channel true (new_channel asked.channel) (so.makes outside named is)
  found_so asked so outside named (Some channel) is =
      admitted_so asked.channel asked.key channel (so.enters outside channel is)

  pub one_so : (asked : JoinEntry) → IsSoOfJoins Q me room asked.channel
      → EachInTurn Q room (effects_among (join_one me room asked))
  one_so asked so =
      let S = λ (acts : List Act). EachInTurn Q room (effects_among acts) in
      let found = joins_found room me asked (row room.channels (key asked.channel)) in
      let few : List Act = if nat_le max_joined (length (own_channels room me))
      then Answer (TooManyChannels asked.channel) ∷ [] else found in
      let outside : List Act = if is_member room me.nick asked.channel then [] else few in
      by_test S (not (is_channel asked.channel))
      (Answer (NoSuchChannel (client_words asked.channel)) ∷ []) outside (λ bad. tt)
      (λ named. by_test S (is_member room me.nick asked.channel) [] few (λ member. tt)
      (λ outsider. by_test S (nat_le max_joined (length (own_channels room me)))
      (Answer (TooManyChannels asked.channel) ∷ []) found (λ many. tt)
      (λ some_left. found_so asked so outsider (not-false (is_channel asked.channel) named)
      (row room.channels (key asked.channel)) refl)))
