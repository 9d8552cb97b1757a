-- What an effect that is not in a channel is, and shows, in two rooms that are alike but for it:
-- the users of both may be taken for one table, and only the rows of channels differ.
use Rattle.std.proofs.Common.{◌≡◌, ℕ, Bool, true, false, not, ◌&&◌, ◌||◌, Option, Some, None, List}
use Rattle.std.proofs.Common.{[], ◌∷◌, codes, refl, sym, ◌∙◌, ap, subst, if◌then◌else◌, is_some}
use Rattle.std.specs.Prelude.{◌≢◌}
use Rattle.std.specs.Cmp.{second_so}
use Rattle.std.specs.Option.{option_and_then, option_map_or}
use Rattle.irc_names.specs.Fold.{key, same}
use Rattle.irc_names.specs.Tables.{Table, row}
use Rattle.irc_routes.specs.Lemmas.TableRows.{some_stands, row_passes}
use Rattle.irc_users.specs.declared.user.User.{User}
use Rattle.irc_channels.specs.declared.channel.Channel.{Channel}
use Rattle.irc_channels.specs.Channels.{has_member}
use Rattle.irc_effects.specs.declared.effect.Effect.{Effect}
use Rattle.irc_effects.specs.declared.effect.Effect.TheVariants.{Rename, Quit, Join, Part, Kick}
use Rattle.irc_effects.specs.declared.effect.Effect.TheVariants.{ChangeModes, SetTopic, Say, Invite}
use Rattle.irc_effects.specs.declared.effect.Target.TheVariants as target
use Rattle.irc_effects.specs.Room.{Room, IsWellFormed}
use Rattle.irc_effects.specs.Effects.{IsPossible, has_channel, is_member, is_idle, needs_channel}
use Rattle.irc_effects.specs.Seen.{sees, shown_line, share_channel, stored_channel, stored_nick}
use Rattle.irc_effects.specs.Seen.{line_from, from_nick, from_by, changes_words}
use Rattle.irc_effects.specs.Viewers.{line_for, shows_to}
use Rattle.irc_secrets.specs.ButForOne.{AreAlikeButFor, IsNoMember}
use Rattle.irc_secrets.specs.Outside.{is_in}
use Rattle.irc_secrets.specs.Laws.{IsShownAlike, OthersShowAlike, SharesAlike}
use Rattle.irc_secrets.proofs.Unlike.{not_both, other_row}

same_answer : (a b : Bool) → (a ≡ true → b ≡ true) → (b ≡ true → a ≡ true) → a ≡ b
same_answer true b one other = sym (one refl)
same_answer false true one other = other refl
same_answer false false one other = refl

-- a channel that one who is no member of this one shares with somebody is another, which both have
shared_too : (channel viewer : List ℕ) (one other : Room) → AreAlikeButFor channel one other
    → IsNoMember viewer channel one → (nick stored : List ℕ) → key stored ≡ key viewer
    → share_channel one nick stored ≡ true → share_channel other nick stored ≡ true
shared_too channel viewer one other alike out nick stored named shared =
    let both : Channel → Bool = λ c. has_member (key nick) c && has_member (key stored) c in
    let stands = some_stands both one.channels shared in
    let elsewhere : stands.name ≢ key channel = λ equal.
    not_both (is_member one viewer channel)
    ((λ i. option_map_or (has_member (sym named i)) ((sym (ap (row one.channels) equal)
    ∙ stands.there) i) false) ∙ second_so (has_member (key nick) stands.value)
    (has_member (key stored) stands.value) stands.passes) out in
    row_passes both other.channels stands.name stands.value
    (sym (alike.channels stands.name elsewhere) ∙ stands.there) stands.passes

turned : (channel : List ℕ) (one other : Room) → AreAlikeButFor channel one other
    → AreAlikeButFor channel other one
turned channel one other alike =
    record { users = sym alike.users; channels = λ fold two. sym (alike.channels fold two) }

share_same : (channel viewer : List ℕ) (one other : Room) → AreAlikeButFor channel one other
    → IsNoMember viewer channel one → IsNoMember viewer channel other → (nick stored : List ℕ)
    → key stored ≡ key viewer → share_channel one nick stored ≡ share_channel other nick stored
share_same channel viewer one other alike out other_out nick stored named =
    same_answer (share_channel one nick stored) (share_channel other nick stored)
    (shared_too channel viewer one other alike out nick stored named)
    (shared_too channel viewer other one (turned channel one other alike) other_out nick stored
    named)

pub shares_alike : SharesAlike
shares_alike channel viewer one other alike out other_out nick =
    share_same channel viewer one other alike out other_out nick viewer refl

module _ (channel viewer : List ℕ) (one : Room) (channels : Table Channel) where
  abbrev other : Room
  other = record { users = one.users; channels = channels }

  module _ (alike : AreAlikeButFor channel one other) where
    row_same : (name : List ℕ) → same channel name ≡ false
        → row one.channels (key name) ≡ row channels (key name)
    row_same name two = other_row channel one other alike name two

    member_same : (nick name : List ℕ) → same channel name ≡ false
        → is_member one nick name ≡ is_member other nick name
    member_same nick name two =
        ap (λ found. option_map_or (has_member (key nick)) found false) (row_same name two)

    there_same : (name : List ℕ) → same channel name ≡ false
        → has_channel one name ≡ has_channel other name
    there_same name two = ap (λ found. is_some found) (row_same name two)

    stored_same : (name : List ℕ) → same channel name ≡ false
        → stored_channel one name ≡ stored_channel other name
    stored_same name two =
        ap (λ found. option_map_or (λ (c : Channel). c.name) found name) (row_same name two)

    idle_same : (effect : Effect) → is_in channel effect ≡ false
        → is_idle one effect ≡ is_idle other effect
    idle_same (Join nick name op) two = member_same nick name two
    idle_same (Part nick name text) two = λ i.
        there_same name two i && not (member_same nick name two i)
    idle_same (Kick by name nick text) two = λ i.
        there_same name two i && not (member_same nick name two i)
    idle_same effect two = refl

    needed_same : (effect : Effect) → is_in channel effect ≡ false
        → option_map_or (has_channel one) (needs_channel effect) true
        ≡ option_map_or (has_channel other) (needs_channel effect) true
    needed_same (Part nick name text) two = there_same name two
    needed_same (Kick by name nick text) two = there_same name two
    needed_same (ChangeModes by name changes) two = there_same name two
    needed_same (SetTopic by name text) two = there_same name two
    needed_same (Say by notice (target.Channel name) text) two = there_same name two
    needed_same effect two = refl

    line_same : (effect : Effect) (user : User) → is_in channel effect ≡ false
        → shown_line one effect user ≡ shown_line other effect user
    line_same (Join nick name op) user two =
        ap (λ c. line_from (codes "JOIN") (c ∷ []) None (from_nick one nick))
        (stored_same name two)
    line_same (Part nick name text) user two =
        ap (λ c. line_from (codes "PART") (c ∷ []) (Some text) (from_nick one nick))
        (stored_same name two)
    line_same (Kick by name nick text) user two =
        ap (λ c. line_from (codes "KICK") (c ∷ stored_nick one nick ∷ []) (Some text)
        (from_nick one by)) (stored_same name two)
    line_same (ChangeModes by name changes) user two =
        ap (λ c. line_from (codes "MODE") (c ∷ changes_words one changes) None
        (from_by one by user)) (stored_same name two)
    line_same (SetTopic by name text) user two =
        ap (λ c. line_from (codes "TOPIC") (c ∷ []) (Some text) (from_by one by user))
        (stored_same name two)
    line_same (Say by notice (target.Channel name) text) user two =
        ap (λ c. line_from (if notice then codes "NOTICE" else codes "PRIVMSG") (c ∷ [])
        (Some text.items) (from_nick one by)) (stored_same name two)
    line_same (Invite by nick name) user two =
        ap (λ c. line_from (codes "INVITE") (stored_nick one nick ∷ c ∷ []) None
        (from_nick one by)) (stored_same name two)
    line_same effect user two = refl

    possible_too : (effect : Effect) → is_in channel effect ≡ false → IsPossible one effect
        → IsPossible other effect
    possible_too effect two possible = record {
      users_there = possible.users_there;
      channel_there = sym (needed_same effect two) ∙ possible.channel_there;
      nick_free = possible.nick_free;
    }

    possible_here : (effect : Effect) → is_in channel effect ≡ false → IsPossible other effect
        → IsPossible one effect
    possible_here effect two possible = record {
      users_there = possible.users_there;
      channel_there = needed_same effect two ∙ possible.channel_there;
      nick_free = possible.nick_free;
    }

    module _ (out : IsNoMember viewer channel one)
        (other_out : IsNoMember viewer channel other) where
      sees_same : (effect : Effect) (stored : List ℕ) → is_in channel effect ≡ false
          → key stored ≡ key viewer → sees one effect stored ≡ sees other effect stored
      sees_same (Rename nick new) stored two named = ap (λ b. same nick stored || b)
          (share_same channel viewer one other alike out other_out nick stored named)
      sees_same (Quit nick text) stored two named = ap (λ b. not (same nick stored) && b)
          (share_same channel viewer one other alike out other_out nick stored named)
      sees_same (Join nick name op) stored two named =
          ap (λ b. same nick stored || b) (member_same stored name two)
      sees_same (Part nick name text) stored two named = member_same stored name two
      sees_same (Kick by name nick text) stored two named = member_same stored name two
      sees_same (ChangeModes by name changes) stored two named = member_same stored name two
      sees_same (SetTopic by name text) stored two named = member_same stored name two
      sees_same (Say by notice (target.Channel name) text) stored two named =
          ap (λ b. not (same by stored) && b) (member_same stored name two)
      sees_same effect stored two named = refl

      shows_same : IsWellFormed one → (effect : Effect) → is_in channel effect ≡ false
          → shows_to one effect viewer ≡ shows_to other effect viewer
      unfolding shows_to
      shows_same well effect two = λ i.
          if idle_same effect two i then None else by (row one.users (key viewer)) refl i
        where
          by : (found : Option User) → row one.users (key viewer) ≡ found
              → option_and_then (line_for one effect) found
              ≡ option_and_then (line_for other effect) found
          by None at = refl
          by (Some user) at = λ i.
              if sees_same effect user.nick two (well.users_named (key viewer) user at) i
              then line_same effect user two i else None

      pub shown_alike : IsWellFormed one → (effect : Effect) → is_in channel effect ≡ false
          → IsShownAlike viewer one other effect
      shown_alike well effect two = record {
        possible = (possible_too effect two, possible_here effect two);
        idle = idle_same effect two;
        shows = shows_same well effect two;
      }

pub others_show_alike : OthersShowAlike
others_show_alike channel viewer one other_room effect well alike out other_out two =
    subst (λ room. IsShownAlike viewer one room effect)
    (λ i. record { users = alike.users i; channels = other_room.channels })
    (shown_alike channel viewer one other_room.channels
    (record { users = refl; channels = alike.channels }) out other_out well effect two)
