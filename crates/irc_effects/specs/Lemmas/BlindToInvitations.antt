-- What is asked of a room, and what an effect shows, without a look at who is invited.
use Rattle.std.proofs.Common.{◌≡◌, ℕ, Bool, true, false, not, ◌&&◌, ◌||◌, if◌then◌else◌, Option}
use Rattle.std.proofs.Common.{Some, None, List, [], ◌∷◌, refl, ◌∙◌, ap, is_some, is_none, codes}
use Rattle.std.proofs.Common.{filter_map, option_map}
use Rattle.std.specs.List.{list_any, list_all}
use Rattle.std.specs.Option.{option_and_then, option_map_or}
use Rattle.std.specs.FinMap.{values}
use Rattle.irc_names.specs.Lemmas.PlainFacts.{list_any-map}
use Rattle.irc_names.specs.Fold.{key, same}
use Rattle.irc_names.specs.Tables.{row}
use Rattle.irc_names.specs.TableLaws.{row-each, values-each}
use Rattle.irc_users.specs.declared.user.User.{User}
use Rattle.irc_channels.specs.declared.channel.Channel.{Channel}
use Rattle.irc_channels.specs.Channels.{has_member}
use Rattle.irc_effects.specs.declared.effect.Effect.{Effect}
use Rattle.irc_effects.specs.declared.effect.Effect.TheVariants.{Rename, Quit, Join, Part}
use Rattle.irc_effects.specs.declared.effect.Effect.TheVariants.{Kick, ChangeModes, SetTopic, Say}
use Rattle.irc_effects.specs.declared.effect.Effect.TheVariants.{Invite}
use Rattle.irc_effects.specs.declared.effect.Target.TheVariants as target
use Rattle.irc_effects.specs.declared.fault.RoomFault.TheVariants.{NoSuchUser, NoSuchChannel}
use Rattle.irc_effects.specs.Room.{Room}
use Rattle.irc_effects.specs.Effects.{has_user, has_channel, is_member, is_idle, needs_users}
use Rattle.irc_effects.specs.Effects.{needs_channel, brings_free}
use Rattle.irc_effects.specs.Seen.{seen, sees, share_channel, shown_line, stored_nick}
use Rattle.irc_effects.specs.Seen.{stored_channel, from_nick, from_by, line_from, changes_words}
use Rattle.irc_effects.specs.Applying.{missing_fault, does}
use Rattle.irc_effects.specs.Invitations.{inviting_only, with_invited}
use Rattle.irc_effects.specs.Viewers.{shows_to}
use Rattle.irc_effects.specs.Lemmas.InvitingOnly.{keeping}

module _ (stays : List ℕ → Bool) (room : Room) where
  abbrev now : Room
  now = with_invited stays room

  -- what does not look at who is invited in a channel
  row_now : {X : Type 0} (asks : Option Channel → X)
      → ((found : Option Channel) → asks (option_and_then (keeping stays) found) ≡ asks found)
      → (name : List ℕ)
      → asks (row now.channels name) ≡ asks (row room.channels name)
  row_now asks blind name =
      ap asks (row-each (keeping stays) room.channels name) ∙ blind (row room.channels name)

  pub channel_same : (name : List ℕ) → has_channel now name ≡ has_channel room name
  channel_same name = row_now (λ found. is_some found) blind (key name)
    where
      blind : (found : Option Channel)
          → is_some (option_and_then (keeping stays) found) ≡ is_some found
      blind None = refl
      blind (Some channel) = refl

  pub member_same : (nick name : List ℕ) → is_member now nick name ≡ is_member room nick name
  member_same nick name =
      row_now (λ found. option_map_or (has_member (key nick)) found false) blind (key name)
    where
      blind : (found : Option Channel)
          → option_map_or (has_member (key nick)) (option_and_then (keeping stays) found) false
          ≡ option_map_or (has_member (key nick)) found false
      blind None = refl
      blind (Some channel) = refl

  stored_same : (name : List ℕ) → stored_channel now name ≡ stored_channel room name
  stored_same name =
      row_now (λ found. option_map_or (λ (c : Channel). c.name) found name) blind (key name)
    where
      blind : (found : Option Channel)
          → option_map_or (λ (c : Channel). c.name) (option_and_then (keeping stays) found) name
          ≡ option_map_or (λ (c : Channel). c.name) found name
      blind None = refl
      blind (Some channel) = refl

  share_same : (one other : List ℕ) → share_channel now one other ≡ share_channel room one other
  share_same one other =
      ap (list_any (λ channel. has_member (key one) channel && has_member (key other) channel))
      (values-each (inviting_only stays) room.channels)
      ∙ list_any-map (λ channel. has_member (key one) channel && has_member (key other) channel)
      (inviting_only stays) (values room.channels)

  pub idle_same : (effect : Effect) → is_idle now effect ≡ is_idle room effect
  idle_same (Join nick name op) = member_same nick name
  idle_same (Part nick name text) = λ i. channel_same name i && not (member_same nick name i)
  idle_same (Kick by name nick text) = λ i. channel_same name i && not (member_same nick name i)
  idle_same other = refl

  pub free_same : (effect : Effect) → brings_free now effect ≡ brings_free room effect
  free_same effect = refl

  pub needed_same : (effect : Effect) → option_map_or (has_channel now) (needs_channel effect) true
      ≡ option_map_or (has_channel room) (needs_channel effect) true
  needed_same effect = λ i. option_map_or (λ name. channel_same name i) (needs_channel effect) true

  pub missing_same : (effect : Effect) → missing_fault now effect ≡ missing_fault room effect
  missing_same effect = λ i.
      if not (list_all (has_user room) (needs_users effect)) then Some NoSuchUser
      else (if not (needed_same effect i) then Some NoSuchChannel else None)

  pub does_same : (effect : Effect) → does now effect ≡ does room effect
  does_same effect = λ i. is_none (missing_same effect i) && not (idle_same effect i)

  sees_same : (effect : Effect) (viewer : List ℕ) → sees now effect viewer ≡ sees room effect viewer
  sees_same (Rename nick new) viewer = ap (λ b. same nick viewer || b) (share_same nick viewer)
  sees_same (Quit nick text) viewer = ap (λ b. not (same nick viewer) && b) (share_same nick viewer)
  sees_same (Join nick name op) viewer = ap (λ b. same nick viewer || b) (member_same viewer name)
  sees_same (Part nick name text) viewer = member_same viewer name
  sees_same (Kick by name nick text) viewer = member_same viewer name
  sees_same (ChangeModes by name changes) viewer = member_same viewer name
  sees_same (SetTopic by name text) viewer = member_same viewer name
  sees_same (Say by notice (target.Channel name) text) viewer =
      ap (λ b. not (same by viewer) && b) (member_same viewer name)
  sees_same other viewer = refl

  line_same : (effect : Effect) (viewer : User)
      → shown_line now effect viewer ≡ shown_line room effect viewer
  line_same (Join nick name op) viewer =
      ap (λ c. line_from (codes "JOIN") (c ∷ []) None (from_nick room nick)) (stored_same name)
  line_same (Part nick name text) viewer = ap
      (λ c. line_from (codes "PART") (c ∷ []) (Some text) (from_nick room nick)) (stored_same name)
  line_same (Kick by name nick text) viewer =
      ap (λ c. line_from (codes "KICK") (c ∷ stored_nick room nick ∷ []) (Some text)
      (from_nick room by)) (stored_same name)
  line_same (ChangeModes by name changes) viewer =
      ap (λ c. line_from (codes "MODE") (c ∷ changes_words room changes) None
      (from_by room by viewer)) (stored_same name)
  line_same (SetTopic by name text) viewer =
      ap (λ c. line_from (codes "TOPIC") (c ∷ []) (Some text) (from_by room by viewer))
      (stored_same name)
  line_same (Say by notice (target.Channel name) text) viewer =
      ap (λ c. line_from (if notice then codes "NOTICE" else codes "PRIVMSG") (c ∷ [])
      (Some text.items) (from_nick room by)) (stored_same name)
  line_same (Invite by nick name) viewer =
      ap (λ c. line_from (codes "INVITE") (stored_nick room nick ∷ c ∷ []) None (from_nick room by))
      (stored_same name)
  line_same other viewer = refl

  pub seen_same : (effect : Effect) → seen now effect ≡ seen room effect
  unfolding seen
  seen_same effect = λ i.
      if idle_same effect i then [] else filter_map (λ (user : User).
      if sees_same effect user.nick i then option_map
      (λ line. record { viewer = user.nick; line = line }) (line_same effect user i) else None)
      (values room.users)

  pub shows_same : (effect : Effect) (nick : List ℕ)
      → shows_to now effect nick ≡ shows_to room effect nick
  unfolding shows_to
  shows_same effect nick = λ i.
      if idle_same effect i then None else option_and_then (λ (user : User).
      if sees_same effect user.nick i then line_same effect user i
      else None) (row room.users (key nick))
