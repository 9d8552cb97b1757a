-- One channel of a JOIN, after the Joins of the channels before it.
use Rattle.std.proofs.Common.{◌≡◌, ◌<◌, ℕ, Bool, true, false, not, Option, Some, None, List, []}
use Rattle.std.proofs.Common.{◌∷◌, ◌++◌, length, nat_le, refl, sym, ◌∙◌, ap, subst, is_some}
use Rattle.std.proofs.Common.{if◌then◌else◌}
use Rattle.std.specs.Option.{option_map_or, option_and_then}
use Rattle.std.specs.FinMap.{get-empty}
use Rattle.std.proofs.lemmas.Bool.{lt-leb}
use Rattle.irc_names.specs.Fold.{key}
use Rattle.irc_names.specs.Names.{is_channel}
use Rattle.irc_names.specs.Tables.{fold_cmp, row}
use Rattle.irc_users.specs.declared.user.User.{User}
use Rattle.irc_channels.specs.declared.channel.Channel.{Channel}
use Rattle.irc_channels.specs.Channels.{has_member, new_channel}
use Rattle.irc_numerics.specs.declared.replies.Reply.TheVariants.{NoSuchChannel, TooManyChannels}
use Rattle.irc_room.specs.Room.{Room, IsWellFormed}
use Rattle.irc_room.specs.Effects.{is_member}
use Rattle.irc_room.specs.Readers.{flags_at}
use Rattle.irc_acts.specs.declared.act.Act.{Act}
use Rattle.irc_acts.specs.declared.act.Act.TheVariants.{Answer}
use Rattle.irc_acts.specs.Acts.{client_words}
use Rattle.irc_acts.specs.Ahead.{ahead}
use Rattle.irc_acts.specs.AheadLaws.{each-both}
use Rattle.irc_acts.specs.Moves.{IsOwnJoin, AreOwnJoins, own_channels}
use Rattle.irc_acts.specs.MoveLaws.{joined_as_it_was, joins_keep_users}
use Rattle.irc_channel_commands.specs.declared.TheConstants.{MAX_JOINED}
use Rattle.irc_channel_commands.specs.Join.{JoinEntry, joins_found, join_one}
use Rattle.irc_channel_commands.specs.Laws.JoinWalk.{found_by_users, one_so}

-- ---- one channel, case by case

module _ (me : User) (now : Room) (name given : List ℕ) where
  abbrev asked : JoinEntry
  asked = record { channel = name; key = given }

  named : is_channel name ≡ true → join_one me now asked
      ≡ (if is_member now me.nick name then []
      else (if nat_le MAX_JOINED (length (own_channels now me))
      then Answer (TooManyChannels name) ∷ []
      else joins_found now me asked (row now.channels (key name))))
  named fine =
      ap (λ b. if not b then Answer (NoSuchChannel (client_words name)) ∷ []
      else (if is_member now me.nick name then []
      else (if nat_le MAX_JOINED (length (own_channels now me))
      then Answer (TooManyChannels name) ∷ []
      else joins_found now me asked (row now.channels (key name))))) fine

  outside : is_channel name ≡ true → is_member now me.nick name ≡ false → join_one me now asked
      ≡ (if nat_le MAX_JOINED (length (own_channels now me)) then Answer (TooManyChannels name) ∷ []
      else joins_found now me asked (row now.channels (key name)))
  outside fine none =
      named fine
      ∙ ap (λ b. if b then []
      else (if nat_le MAX_JOINED (length (own_channels now me))
      then Answer (TooManyChannels name) ∷ []
      else joins_found now me asked (row now.channels (key name)))) none

  pub one_more : is_channel name ≡ true → is_member now me.nick name ≡ false
      → nat_le MAX_JOINED (length (own_channels now me)) ≡ false
      → join_one me now asked ≡ joins_found now me asked (row now.channels (key name))
  one_more fine none fewer =
      outside fine none
      ∙ ap (λ b. if b then Answer (TooManyChannels name) ∷ []
      else joins_found now me asked (row now.channels (key name))) fewer

-- ---- after the Joins so far

-- who is outside then was so before
pub was_outside : (me : User) (room : Room) (acts : List Act) (name : List ℕ)
    → AreOwnJoins me.nick room acts → is_member (ahead room acts) me.nick name ≡ false
    → is_member room me.nick name ≡ false
was_outside me room acts name all out =
    ap (λ o. option_map_or (has_member (key me.nick)) o false)
    (sym (joined_as_it_was me.nick name room acts all out)) ∙ out

-- as the code's tests tell it, of the steps that it looks at
pub tested_outside : (me : User) (room : Room) (steps acts : List Act) (name : List ℕ)
    (found : Bool) → steps ≡ acts → found ≡ is_member (ahead room steps) me.nick name
    → found ≡ false → is_member (ahead room acts) me.nick name ≡ false
tested_outside me room steps acts name found same is out =
    ap (λ s. is_member (ahead room s) me.nick name) (sym same) ∙ sym is ∙ out

pub tested_few : (me : User) (room : Room) (steps acts : List Act) (count limit : ℕ)
    → steps ≡ acts → count ≡ length (own_channels (ahead room steps) me) → count < limit
    → nat_le limit (length (own_channels (ahead room acts) me)) ≡ false
tested_few me room steps acts count limit same is few =
    ap (λ s. nat_le limit (length (own_channels (ahead room s) me))) (sym same)
    ∙ ap (nat_le limit) (sym is) ∙ lt-leb limit count few

-- a channel that may be joined is served as it was
pub served_as : (me : User) (room : Room) (acts : List Act) (name given : List ℕ)
    → AreOwnJoins me.nick room acts → is_channel name ≡ true
    → is_member (ahead room acts) me.nick name ≡ false
    → nat_le MAX_JOINED (length (own_channels (ahead room acts) me)) ≡ false
    → join_one me (ahead room acts) (record { channel = name; key = given })
    ≡ joins_found room me (record { channel = name; key = given }) (row room.channels (key name))
served_as me room acts name given all fine out fewer =
    one_more me (ahead room acts) name given fine out fewer
    ∙ found_by_users room (ahead room acts) me (record { channel = name; key = given })
    (row (ahead room acts).channels (key name)) (joins_keep_users me.nick room acts all)
    ∙ ap (joins_found room me (record { channel = name; key = given }))
    (joined_as_it_was me.nick name room acts all out)

-- so are all the steps, once it is served
pub joins_more : (me : User) (room : Room) (acts new : List Act) (asked : JoinEntry)
    → IsWellFormed room → AreOwnJoins me.nick room acts
    → new ≡ acts ++ join_one me (ahead room acts) asked → AreOwnJoins me.nick room new
joins_more me room acts new asked well all new_is =
    let now = ahead room acts in
    subst (AreOwnJoins me.nick room) (sym new_is)
    (each-both (IsOwnJoin me.nick) room acts (join_one me now asked) all
    (one_so (IsOwnJoin me.nick) me now asked (record {
      makes = λ out named none. (refl, out);
      enters = λ out channel is.
          let named = (well.channels_sound (key asked.channel) channel
          (sym (joined_as_it_was me.nick asked.channel room acts all out) ∙ is)).named in (
            refl,
            ap (λ fold. option_map_or (has_member (key me.nick)) (row now.channels fold) false)
                named ∙ out,
          );
    })))

pub nobody_in_new : (nick name : List ℕ) → has_member nick (new_channel name) ≡ false
nobody_in_new nick name = ap is_some (get-empty fold_cmp nick)

-- whether there are flags is whether there is a member
pub flags_tell : (room : Room) (nick name : List ℕ)
    → is_some (flags_at room (key nick) (key name)) ≡ is_member room nick name
flags_tell room nick name = by_channel (row room.channels (key name))
  where
    by_channel : (o : Option Channel)
        → is_some (option_and_then (λ (c : Channel). row c.members (key nick)) o)
        ≡ option_map_or (has_member (key nick)) o false
    by_channel None = refl
    by_channel (Some channel) = refl
