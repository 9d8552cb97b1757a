-- Who is at one server keeps its memberships when another server is lost.
use Rattle.std.proofs.Common.{◌≡◌, ℕ, Bool, true, false, cond, not, Option, Some, None, List, refl}
use Rattle.std.proofs.Common.{sym, ◌∙◌, ap, is_some}
use Rattle.std.specs.Option.{option_and_then, option_map_or}
use Rattle.std.specs.FinMap.{keys, retain_keys}
use Rattle.std.proofs.Math.Bool.{false≢true}
use Rattle.irc_names.specs.Spellings.{exactly_same}
use Rattle.irc_names.specs.Tables.{row}
use Rattle.irc_users.specs.declared.user.User.{User}
use Rattle.irc_users.specs.UserTable.{is_home}
use Rattle.irc_channels.specs.declared.flags.Flags.{Flags}
use Rattle.irc_channels.specs.declared.channel.Channel.{Channel}
use Rattle.irc_modes.specs.Modes.{is_nil}
use Rattle.irc_room.specs.Room.{Room, IsWellFormed}
use Rattle.irc_room.specs.Lemmas.Rows.{some_key}
use Rattle.irc_merge.specs.Quits.{users_at}
use Rattle.irc_merge.specs.Split.{lost_home}
use Rattle.irc_merge.specs.StayingMembers.{MembersStay}
use Rattle.irc_merge.specs.Lemmas.Quitting.{among, thinned, channels_left, among_values}
use Rattle.irc_merge.specs.Lemmas.TableWords.{row-kept}
use Rattle.irc_merge.specs.Lemmas.SplitInTurn.{two_homes}

module _ (text home other : List ℕ) (room : Room) (nick : List ℕ) (user : User)
    (two : exactly_same home other ≡ false) (well : IsWellFormed room)
    (at : row room.users nick ≡ Some user) (there : is_home other user ≡ true) where
  abbrev gone : List ℕ → Bool
  gone = among (users_at home room)

  not_gone : gone nick ≡ false
  not_gone =
      among_values room.users well.users_named (is_home home) nick
      ∙ ap (λ o. option_map_or (is_home home) o false) at
      ∙ by (is_home home user) refl
    where
      by : (b : Bool) → is_home home user ≡ b → b ≡ false
      by true here = absurd (false≢true (sym (two_homes home other two user here) ∙ there))
      by false away = refl

  flags_kept : (before : Channel)
      → row (retain_keys before.members (λ q. not (gone q))) nick ≡ row before.members nick
  flags_kept before = row-kept before.members (λ q. not (gone q)) nick
      ∙ ap (λ b. cond (not b) (row before.members nick) None) not_gone

  -- a channel that ended had it for no member
  no_member : (before : Channel) → is_nil (keys (retain_keys before.members (λ q. not (gone q))))
      ≡ true → (o : Option Flags) → row before.members nick ≡ o → None ≡ o
  no_member before none None is = refl
  no_member before none (Some flags) is =
      absurd (false≢true (sym (some_key (retain_keys before.members (λ q. not (gone q))) nick
      (ap is_some (flags_kept before ∙ is))) ∙ none))

  in_channel : (o : Option Channel) → option_and_then (λ (c : Channel). row c.members nick)
      (option_and_then (thinned gone) o) ≡ option_and_then (λ (c : Channel). row c.members nick) o
  in_channel None = refl
  in_channel (Some before) =
      by_test (is_nil (keys (retain_keys before.members (λ q. not (gone q))))) refl
    where
      by_test : (b : Bool) → is_nil (keys (retain_keys before.members (λ q. not (gone q)))) ≡ b
          → option_and_then (λ (c : Channel). row c.members nick)
          (cond b None (Some (record before {
            members = retain_keys before.members (λ q.
                not (gone q));
            invited = retain_keys before.invited (λ q. not (gone q));
          })))
          ≡ row before.members nick
      by_test true none = no_member before none (row before.members nick) refl
      by_test false some = flags_kept before

pub members_stay : MembersStay
unfolding lost_home
members_stay text home other room nick channel user two well at there =
    ap (option_and_then (λ (c : Channel). row c.members nick))
    (channels_left room text (users_at home room) well channel)
    ∙ in_channel text home other room nick user two well at there (row room.channels channel)
