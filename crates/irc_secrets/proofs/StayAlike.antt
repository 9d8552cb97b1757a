-- Rooms stay alike but for a channel: each effect makes the row at a fold of the row that was
-- there, and one that is in a channel changes that row alone.
use Rattle.std.proofs.Common.{◌≡◌, ℕ, Bool, true, false, cond, Option, Some, None, List, refl, sym}
use Rattle.std.proofs.Common.{◌∙◌, ap, unwrap_or, option_map}
use Rattle.std.specs.Prelude.{◌≢◌}
use Rattle.std.specs.Option.{option_and_then}
use Rattle.irc_names.specs.Fold.{key, same}
use Rattle.irc_names.specs.FoldLaws.{same-tells}
use Rattle.irc_names.specs.Tables.{row, alter, each, moved}
use Rattle.irc_users.specs.UserTable.{with_nick, with_change}
use Rattle.irc_names.specs.TableLaws.{same_fold, one_fold, row-alter, row-alter_other}
use Rattle.irc_names.specs.TableLaws.{row-each}
use Rattle.irc_channels.specs.declared.channel.Channel.{Channel}
use Rattle.irc_channels.specs.Channels.{new_channel, joined, left, without_user, renamed}
use Rattle.irc_channels.specs.Channels.{invited_too, with_topic, all_changed}
use Rattle.irc_effects.specs.declared.effect.Effect.TheVariants.{AddUser, Rename, Quit, Join, Part}
use Rattle.irc_effects.specs.declared.effect.Effect.TheVariants.{Kick, ChangeModes, SetTopic, Say}
use Rattle.irc_effects.specs.declared.effect.Effect.TheVariants.{Invite, ChangeUser}
use Rattle.irc_effects.specs.declared.effect.Target.TheVariants as target
use Rattle.irc_effects.specs.Room.{Room}
use Rattle.irc_effects.specs.After.{after}
use Rattle.irc_secrets.specs.ButForOne.{AreAlikeButFor}
use Rattle.irc_secrets.specs.Laws.{ButForIsEquivalence, BothStayAlike, OneStaysAlike}
use Rattle.irc_secrets.proofs.Unlike.{not_one_fold}

pub but_for_is_equivalence : ButForIsEquivalence
but_for_is_equivalence = record {
  itself = λ channel room. record { users = refl; channels = λ fold two. refl };
  turned = λ channel one other alike.
      record { users = sym alike.users; channels = λ fold two. sym (alike.channels fold two) };
  joined = λ channel one other third first second. record {
    users = first.users ∙ second.users;
    channels = λ fold two. first.channels fold two ∙ second.channels fold two;
  };
  taken_out = λ channel room. record {
    users = refl;
    channels = λ fold two.
        sym (row-alter_other (key channel) (λ _. None) room.channels fold
        (not_one_fold fold (key channel) two));
  };
}

-- one row is changed in both
both_altered : (channel name : List ℕ) (change : Option Channel → Option Channel) (one other : Room)
    → AreAlikeButFor channel one other → (q : List ℕ) → q ≢ key channel
    → row (alter (key name) change one.channels) q ≡ row (alter (key name) change other.channels) q
both_altered channel name change one other alike q two =
    row-alter (key name) change one.channels q ∙ by (same_fold q (key name)) refl
    ∙ sym (row-alter (key name) change other.channels q)
  where
    by : (b : Bool) → same_fold q (key name) ≡ b
        → cond b (change (row one.channels (key name))) (row one.channels q)
        ≡ cond b (change (row other.channels (key name))) (row other.channels q)
    by true here = ap change (alike.channels (key name)
        (λ equal. two (one_fold q (key name) here ∙ equal)))
    by false apart = alike.channels q two

-- each row is changed in both
both_changed : (channel : List ℕ) (change : Channel → Option Channel) (one other : Room)
    → AreAlikeButFor channel one other → (q : List ℕ) → q ≢ key channel
    → row (each change one.channels) q ≡ row (each change other.channels) q
both_changed channel change one other alike q two =
    row-each change one.channels q ∙ ap (option_and_then change) (alike.channels q two)
    ∙ sym (row-each change other.channels q)

pub both_stay_alike : BothStayAlike
unfolding after
both_stay_alike channel one other (AddUser user) alike = record {
  users = ap (alter (key user.nick) (λ _. Some user)) alike.users;
  channels = alike.channels;
}
both_stay_alike channel one other (Rename nick new) alike = record {
  users = ap (moved (key nick) (key new) (with_nick new)) alike.users;
  channels = both_changed channel (λ c. Some (renamed (key nick) (key new) c)) one other alike;
}
both_stay_alike channel one other (Quit nick text) alike = record {
  users = ap (alter (key nick) (λ _. None)) alike.users;
  channels = both_changed channel (without_user (key nick)) one other alike;
}
both_stay_alike channel one other (Join nick name op) alike = record {
  users = alike.users;
  channels = both_altered channel name
      (λ c. Some (joined (key nick) op (unwrap_or c (new_channel name)))) one other alike;
}
both_stay_alike channel one other (Part nick name text) alike = record {
  users = alike.users;
  channels = both_altered channel name (option_and_then (left (key nick))) one other alike;
}
both_stay_alike channel one other (Kick by name nick text) alike = record {
  users = alike.users;
  channels = both_altered channel name (option_and_then (left (key nick))) one other alike;
}
both_stay_alike channel one other (ChangeModes by name changes) alike = record {
  users = alike.users;
  channels = both_altered channel name (option_map (all_changed changes)) one other alike;
}
both_stay_alike channel one other (SetTopic by name text) alike = record {
  users = alike.users;
  channels = both_altered channel name (option_map (with_topic text)) one other alike;
}
both_stay_alike channel one other (Say by notice to text) alike = alike
both_stay_alike channel one other (Invite by nick name) alike = record {
  users = alike.users;
  channels = both_altered channel name (option_map (invited_too (key nick))) one other alike;
}
both_stay_alike channel one other (ChangeUser nick change) alike = record {
  users = ap (alter (key nick) (option_map (with_change change))) alike.users;
  channels = alike.channels;
}

-- the channel's own row is changed in one
one_altered : (channel name : List ℕ) (change : Option Channel → Option Channel) (one other : Room)
    → AreAlikeButFor channel one other → same channel name ≡ true
    → AreAlikeButFor channel
    (record { users = one.users; channels = alter (key name) change one.channels }) other
one_altered channel name change one other alike here = record {
  users = alike.users;
  channels = λ q two.
      row-alter_other (key name) change one.channels q
      (not_one_fold q (key name) (λ equal. two (equal ∙ sym ((same-tells channel name).0 here))))
      ∙ alike.channels q two;
}

pub one_stays_alike : OneStaysAlike
unfolding after
one_stays_alike channel one other (Join nick name op) alike here = one_altered channel name
    (λ c. Some (joined (key nick) op (unwrap_or c (new_channel name)))) one other alike here
one_stays_alike channel one other (Part nick name text) alike here =
    one_altered channel name (option_and_then (left (key nick))) one other alike here
one_stays_alike channel one other (Kick by name nick text) alike here =
    one_altered channel name (option_and_then (left (key nick))) one other alike here
one_stays_alike channel one other (ChangeModes by name changes) alike here =
    one_altered channel name (option_map (all_changed changes)) one other alike here
one_stays_alike channel one other (SetTopic by name text) alike here =
    one_altered channel name (option_map (with_topic text)) one other alike here
one_stays_alike channel one other (Say by notice (target.Channel name) text) alike here = alike
one_stays_alike channel one other (Invite by nick name) alike here =
    one_altered channel name (option_map (invited_too (key nick))) one other alike here
one_stays_alike channel one other other_effect alike here = cc here
