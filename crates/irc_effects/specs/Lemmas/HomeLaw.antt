-- What a server has of a room follows the effects on the room.
use Rattle.std.proofs.Common.{◌≡◌, ℕ, Bool, true, false, cond, not, ◌||◌, Option, Some, None, List}
use Rattle.std.proofs.Common.{refl, sym, ◌∙◌, ap, is_some, unwrap_or, option_map}
use Rattle.std.specs.Option.{option_and_then, option_map_or}
use Rattle.std.specs.FinMap.{retain_keys}
use Rattle.std.proofs.Math.Bool.{false≢true}
use Rattle.irc_names.specs.Fold.{key, same}
use Rattle.irc_names.specs.FoldLaws.{same-tells}
use Rattle.irc_names.specs.Tables.{Table, row, alter, each, moved}
use Rattle.irc_names.specs.TableLaws.{same_fold, same_fold-refl, one_fold, row-alter}
use Rattle.irc_names.specs.TableLaws.{row-alter_other, retain_keys-alike, each-alike, each-turned}
use Rattle.irc_names.specs.TableLaws.{each-alter}
use Rattle.irc_users.specs.declared.user.User.{User}
use Rattle.irc_users.specs.declared.user_change.UserChange.{UserChange}
use Rattle.irc_users.specs.UserTable.{is_home, with_nick, with_change}
use Rattle.irc_channels.specs.declared.channel.Channel.{Channel}
use Rattle.irc_channels.specs.Channels.{new_channel, joined, left, without_user, renamed}
use Rattle.irc_channels.specs.Channels.{invited_too, with_topic, all_changed}
use Rattle.irc_effects.specs.declared.effect.Effect.TheVariants.{AddUser, Rename, Quit, Join, Part}
use Rattle.irc_effects.specs.declared.effect.Effect.TheVariants.{Kick, ChangeModes, SetTopic, Say}
use Rattle.irc_effects.specs.declared.effect.Effect.TheVariants.{Invite, ChangeUser}
use Rattle.irc_effects.specs.Room.{Room}
use Rattle.irc_effects.specs.After.{after, alter_channel}
use Rattle.irc_effects.specs.Invitations.{is_at, with_invited, of_home, HomeFollows}
use Rattle.irc_effects.specs.Lemmas.Rows.{alter_same}
use Rattle.irc_effects.specs.Lemmas.InvitingOnly.{keeping, left_only, joined_only, changed_only}
use Rattle.irc_effects.specs.Lemmas.InvitingOnly.{topic_only, invited_only, invited_elsewhere}
use Rattle.irc_effects.specs.Lemmas.InvitingOnly.{without_only, renamed_only}
use Rattle.irc_effects.specs.Lemmas.InvitationsMoved.{invited_moved}

-- these users with these channels
abbrev pub of_tables : Table User → Table Channel → Room
of_tables users channels = record { users = users; channels = channels }

-- one channel is changed
pub only_altered : (stays : List ℕ → Bool) (name : List ℕ) (change : Option Channel
    → Option Channel) (room : Room) → ((found : Option Channel) → option_and_then (keeping stays)
    (change found) ≡ change (option_and_then (keeping stays) found)) → with_invited stays
    (alter_channel name change room) ≡ alter_channel name change (with_invited stays room)
only_altered stays name change room turned =
    ap (of_tables room.users) (each-alter (keeping stays) (key name) change change room.channels
    (turned (row room.channels (key name))))

-- an invitation of one who does not pass the test
pub only_unchanged : (stays : List ℕ → Bool) (name nick : List ℕ) (room : Room)
    → stays (key nick) ≡ false → with_invited stays
    (alter_channel name (option_map (invited_too (key nick))) room) ≡ with_invited stays room
only_unchanged stays name nick room away =
    ap (of_tables room.users)
    (each-alter (keeping stays) (key name) (option_map (invited_too (key nick)))
    (λ o. o) room.channels
    (invited_elsewhere stays (key nick) away (row room.channels (key name)))
    ∙ alter_same (key name) (λ o. o) (each (keeping stays) room.channels) refl)

-- users are changed, and where each of those who are invited is stays as it was
pub only_users : (before after : List ℕ → Bool) (users : Table User) (channels : Table Channel)
    → ((fold : List ℕ) (channel : Channel) → row channels fold ≡ Some channel → (q : List ℕ)
    → is_some (row channel.invited q) ≡ true → after q ≡ before q) → with_invited after
    (of_tables users channels) ≡ of_tables users (each (keeping before) channels)
only_users before after users channels agree =
    ap (of_tables users) (each-alike (keeping after) (keeping before) channels (λ fold channel at.
    ap (λ t. Some (record channel { invited = t }))
    (retain_keys-alike channel.invited after before (agree fold channel at))))

-- a user is gone
pub only_without : (before after : List ℕ → Bool) (users : Table User) (nick : List ℕ)
    (channels : Table Channel) → ((q : List ℕ) → same_fold q nick ≡ false → after q ≡ before q)
    → with_invited after (of_tables users (each (without_user nick) channels))
    ≡ of_tables users (each (without_user nick) (each (keeping before) channels))
only_without before after users nick channels elsewhere =
    ap (of_tables users)
    (each-turned (keeping after) (without_user nick) (without_user nick) (keeping before) channels
    (λ fold channel at.
    without_only before after nick channel elsewhere))

-- a user has another nickname
pub only_renamed : (before after : List ℕ → Bool) (users : Table User) (old new : List ℕ)
    (channels : Table Channel) → ((fold : List ℕ) (channel : Channel) → row channels fold
    ≡ Some channel → retain_keys (moved old new (λ u. u) channel.invited) after
    ≡ moved old new (λ u. u) (retain_keys channel.invited before))
    → with_invited after (of_tables users (each (λ c. Some (renamed old new c)) channels))
    ≡ of_tables users (each (λ c. Some (renamed old new c)) (each (keeping before) channels))
only_renamed before after users old new channels agree =
    ap (of_tables users)
    (each-turned (keeping after) (λ c. Some (renamed old new c)) (λ c. Some (renamed old new c))
    (keeping before) channels
    (λ fold channel at.
    ap Some (renamed_only before after old new channel (agree fold channel at))))

-- ---- where users are, after an effect

-- who is where when one user's row is changed
elsewhere : (home fold : List ℕ) (change : Option User → Option User)
    (users : Table User) (q : List ℕ) → same_fold q fold ≡ false
    → is_at home (alter fold change users) q ≡ is_at home users q
elsewhere home fold change users q apart =
    ap (λ o. option_map_or (is_home home) o false) (row-alter_other fold change users q apart)

-- a user that is new is none of those who were there
new_elsewhere : (home fold : List ℕ) (user : User) (users : Table User)
    → row users fold ≡ None → (q : List ℕ) → is_some (row users q) ≡ true
    → is_at home (alter fold (λ _. Some user) users) q ≡ is_at home users q
new_elsewhere home fold user users free q there = by_fold (same_fold q fold) refl
  where
    by_fold : (b : Bool) → same_fold q fold ≡ b
        → is_at home (alter fold (λ _. Some user) users) q ≡ is_at home users q
    by_fold true one =
        absurd (false≢true (sym (ap is_some (ap (row users) (one_fold q fold one) ∙ free)) ∙ there))
    by_fold false apart = elsewhere home fold (λ _. Some user) users q apart

-- a user's own mode is no matter
mode_same : (home fold : List ℕ) (change : UserChange) (users : Table User) (q : List ℕ)
    → is_at home (alter fold (option_map (with_change change)) users) q ≡ is_at home users q
mode_same home fold change users q =
    ap (λ o. option_map_or (is_home home) o false) (row-alter fold
    (option_map (with_change change)) users q) ∙ by_fold (same_fold q fold) refl
  where
    at_home : (o : Option User) → option_map_or (is_home home)
        (option_map (with_change change) o) false ≡ option_map_or (is_home home) o false
    at_home None = refl
    at_home (Some user) = refl

    by_fold : (b : Bool) → same_fold q fold ≡ b → option_map_or (is_home home)
        (cond b (option_map (with_change change) (row users fold)) (row users q)) false
        ≡ is_at home users q
    by_fold true one = at_home (row users fold) ∙ ap (is_at home users) (sym (one_fold q fold one))
    by_fold false apart = refl

-- ---- one effect

none_there : {X : Type 0} (o : Option X) → not (is_some o) ≡ true → o ≡ None
none_there None e = refl
none_there (Some x) e = absurd (false≢true e)

-- a nickname that may be taken is nobody's, or the taker's own
own_or_free : (nick new : List ℕ) (there : Bool) → (not there || same nick new) ≡ true
    → there ≡ true → same_fold (key new) (key nick) ≡ true
own_or_free nick new true may is = ap (same_fold (key new)) ((same-tells nick new).0 may)
    ∙ same_fold-refl (key new)
own_or_free nick new false may is = absurd (false≢true is)

home_invite : (home : List ℕ) (room : Room) (nick name : List ℕ) (b : Bool)
    → is_at home room.users (key nick) ≡ b → with_invited (is_at home room.users)
    (alter_channel name (option_map (invited_too (key nick))) room)
    ≡ cond b
    (alter_channel name (option_map (invited_too (key nick)))
    (with_invited (is_at home room.users) room))
    (with_invited (is_at home room.users) room)
home_invite home room nick name true here =
    only_altered (is_at home room.users) name (option_map (invited_too (key nick))) room
    (invited_only (is_at home room.users) (key nick) here)
home_invite home room nick name false away =
    only_unchanged (is_at home room.users) name nick room away

pub home_follows : HomeFollows
unfolding after of_home
home_follows home room (AddUser user) well free =
    let users = alter (key user.nick) (λ _. Some user) room.users in
    only_users (is_at home room.users) (is_at home users) users room.channels
    (λ fold channel at q there.
    new_elsewhere home (key user.nick) user room.users
    (none_there (row room.users (key user.nick)) free) q
    ((well.channels_sound fold channel at).invited_known q there))
home_follows home room (Rename nick new) well free =
    let users = moved (key nick) (key new) (with_nick new) room.users in
    only_renamed (is_at home room.users) (is_at home users) users (key nick) (key new) room.channels
    (λ fold channel at.
    invited_moved home (key nick) (key new) new room.users channel.invited
    ((well.channels_sound fold channel at).invited_known)
    (λ there. own_or_free nick new (is_some (row room.users (key new))) free there))
home_follows home room (Quit nick text) well free =
    let users = alter (key nick) (λ _. None) room.users in
    only_without (is_at home room.users) (is_at home users) users (key nick) room.channels
    (elsewhere home (key nick) (λ _. None) room.users)
home_follows home room (Join nick name op) well free =
    only_altered (is_at home room.users) name
    (λ c. Some (joined (key nick) op (unwrap_or c (new_channel name)))) room
    (joined_only (is_at home room.users) (key nick) op name)
home_follows home room (Part nick name text) well free =
    only_altered (is_at home room.users) name (option_and_then (left (key nick))) room
    (left_only (is_at home room.users) (key nick))
home_follows home room (Kick by name nick text) well free =
    only_altered (is_at home room.users) name (option_and_then (left (key nick))) room
    (left_only (is_at home room.users) (key nick))
home_follows home room (ChangeModes by name changes) well free =
    only_altered (is_at home room.users) name (option_map (all_changed changes)) room
    (changed_only (is_at home room.users) changes)
home_follows home room (SetTopic by name text) well free =
    only_altered (is_at home room.users) name (option_map (with_topic text)) room
    (topic_only (is_at home room.users) text)
home_follows home room (Say by notice target text) well free = refl
home_follows home room (Invite by nick name) well free =
    home_invite home room nick name (is_at home room.users (key nick)) refl
home_follows home room (ChangeUser nick change) well free =
    let users = alter (key nick) (option_map (with_change change)) room.users in
    only_users (is_at home room.users) (is_at home users) users room.channels
    (λ fold channel at q there. mode_same home (key nick) change room.users q)
