-- Who is a member of which channel after each effect.
use Rattle.std.proofs.Common.{◌≡◌, ℕ, Bool, true, false, cond, not, ◌&&◌, ◌||◌}
use Rattle.std.proofs.Common.{Option, Some, None, List, refl, sym, ◌∙◌, ap, is_some}
use Rattle.std.proofs.Common.{option_map, unwrap_or}
use Rattle.std.specs.Option.{option_and_then}
use Rattle.std.proofs.Math.Bool.{and-false}
use Rattle.irc_names.specs.Fold.{key, same}
use Rattle.irc_names.specs.FoldLaws.{same-tells}
use Rattle.irc_names.specs.Tables.{Table, row, alter}
use Rattle.irc_names.specs.TableLaws.{same_fold, one_fold, row-alter, row-each}
use Rattle.irc_channels.specs.declared.channel.Channel.{Channel}
use Rattle.irc_channels.specs.Channels.{has_member, new_channel, joined, left, without_user}
use Rattle.irc_channels.specs.Channels.{renamed, respelled, invited_too, with_topic}
use Rattle.irc_channels.specs.Channels.{all_changed}
use Rattle.irc_room.specs.effect.Effect.{Effect}
use Rattle.irc_room.specs.effect.Effect.TheVariants.{AddUser, Rename, Quit, Join, Part, Kick}
use Rattle.irc_room.specs.effect.Effect.TheVariants.{ChangeModes, SetTopic, Say, Invite, ChangeUser}
use Rattle.irc_room.specs.After.{after, titled_by}
use Rattle.irc_room.specs.Effects.{IsPossible}
use Rattle.irc_room.specs.Room.{Room, IsWellFormed}
use Rattle.irc_room.specs.Lemmas.Members.{is_member_of, joined_said, left_said}
use Rattle.irc_room.specs.Lemmas.Members.{member_changed_modes, member_while, moved_row, taken_out}
use Rattle.irc_stage.specs.Loops.Listening.{is_in, IsNoMove}

-- one channel is changed, or each
said_alter : (name : List ℕ) (change : Option Channel → Option Channel)
    (channels : Table Channel) (n c : List ℕ) → is_member_of n (row (alter name change channels) c)
    ≡ cond (same_fold c name) (is_member_of n (change (row channels name)))
    (is_member_of n (row channels c))
said_alter name change channels n c =
    ap (is_member_of n) (row-alter name change channels c) ∙ by_test (same_fold c name)
  where
    by_test : (b : Bool) → is_member_of n (cond b (change (row channels name)) (row channels c))
        ≡ cond b (is_member_of n (change (row channels name))) (is_member_of n (row channels c))
    by_test true = refl
    by_test false = refl

-- a change that keeps the members of a channel
said_kept : (name : List ℕ) (change : Channel → Channel)
    → ((n : List ℕ) (channel : Channel) → has_member n (change channel) ≡ has_member n channel)
    → (channels : Table Channel) (n c : List ℕ) → is_member_of n
    (row (alter name (option_map change) channels) c) ≡ is_member_of n (row channels c)
said_kept name change same channels n c = said_alter name (option_map change) channels n c
    ∙ by_name (same_fold c name) refl
  where
    mapped : (o : Option Channel) → is_member_of n (option_map change o) ≡ is_member_of n o
    mapped None = refl
    mapped (Some channel) = same n channel

    by_name : (b : Bool) → same_fold c name ≡ b → cond b
        (is_member_of n (option_map change (row channels name))) (is_member_of n (row channels c))
        ≡ is_member_of n (row channels c)
    by_name true one =
        mapped (row channels name)
        ∙ ap (λ q. is_member_of n (row channels q)) (sym (one_fold c name one))
    by_name false two = refl

-- ---- each effect

pub joins : (room : Room) (nick channel : List ℕ) (op : Bool) (n c : List ℕ)
    → is_in (after room (Join nick channel op)) n c
    ≡ ((same_fold c (key channel) && same_fold n (key nick)) || is_in room n c)
unfolding after
joins room nick channel op n c =
    said_alter (key channel) (λ o. Some (joined (key nick) op (unwrap_or o (new_channel channel))))
    room.channels n c ∙ by_channel (same_fold c (key channel)) refl
  where
    by_channel : (b : Bool) → same_fold c (key channel) ≡ b → cond b (is_member_of n (Some (joined
        (key nick) op (unwrap_or (row room.channels (key channel)) (new_channel channel)))))
        (is_in room n c)
        ≡ ((b && same_fold n (key nick)) || is_in room n c)
    by_channel true one =
        joined_said (key nick) channel op (row room.channels (key channel)) n
        ∙ ap (λ q. same_fold n (key nick) || is_in room n q) (sym (one_fold c (key channel) one))
    by_channel false two = refl

leaves : (nick channel : List ℕ) (channels : Table Channel) (n c : List ℕ)
    → is_member_of n (row (alter (key channel) (option_and_then (left (key nick))) channels) c)
    ≡ (not (same_fold c (key channel) && same_fold n (key nick)) && is_member_of n (row channels c))
leaves nick channel channels n c = said_alter (key channel)
    (option_and_then (left (key nick))) channels n c ∙ by_channel (same_fold c (key channel)) refl
  where
    by_channel : (b : Bool) → same_fold c (key channel) ≡ b
        → cond b (is_member_of n (option_and_then (left (key nick)) (row channels (key channel))))
        (is_member_of n (row channels c))
        ≡ (not (b && same_fold n (key nick)) && is_member_of n (row channels c))
    by_channel true one =
        left_said (key nick) (row channels (key channel)) n
        ∙ ap (λ q. not (same_fold n (key nick)) && is_member_of n (row channels q))
        (sym (one_fold c (key channel) one))
    by_channel false two = refl

pub parts : (room : Room) (nick channel text : List ℕ) (n c : List ℕ)
    → is_in (after room (Part nick channel text)) n c
    ≡ (not (same_fold c (key channel) && same_fold n (key nick)) && is_in room n c)
unfolding after
parts room nick channel text n c = leaves nick channel room.channels n c

pub kicks : (room : Room) (by nick channel text : List ℕ) (n c : List ℕ)
    → is_in (after room (Kick by channel nick text)) n c
    ≡ (not (same_fold c (key channel) && same_fold n (key nick)) && is_in room n c)
unfolding after
kicks room by nick channel text n c = leaves nick channel room.channels n c

pub quits : (room : Room) (nick text : List ℕ) (n c : List ℕ)
    → is_in (after room (Quit nick text)) n c ≡ (not (same_fold n (key nick)) && is_in room n c)
unfolding after
quits room nick text n c = ap (is_member_of n) (row-each (without_user (key nick)) room.channels c)
    ∙ by_row (row room.channels c)
  where
    by_row : (o : Option Channel) → is_member_of n (option_and_then (without_user (key nick)) o)
        ≡ (not (same_fold n (key nick)) && is_member_of n o)
    by_row None = sym (and-false (not (same_fold n (key nick))))
    by_row (Some channel) =
        member_while (record channel {
          members = alter (key nick) (λ _. None) channel.members;
          invited = alter (key nick) (λ _. None) channel.invited;
        }) n
        ∙ taken_out (key nick) channel.members n

-- a user has another nickname, which is no other member's
module _ (room : Room) (nick new : List ℕ) (well : IsWellFormed room)
    (possible : IsPossible room (Rename nick new)) where
  pub free : (c : List ℕ) → is_in room (key new) c ≡ true → key new ≡ key nick
  free c there = by_row (row room.channels c) refl there
    where
      by_test : (b : Bool) → same nick new ≡ b → is_some (row room.users (key new)) ≡ true
          → (not (is_some (row room.users (key new))) || b) ≡ true → key new ≡ key nick
      by_test true one there free = sym ((same-tells nick new).0 one)
      by_test false two there free = cc (there, free)

      by_row : (o : Option Channel) → row room.channels c ≡ o → is_member_of (key new) o ≡ true
          → key new ≡ key nick
      by_row None at there = cc there
      by_row (Some channel) at there = by_test (same nick new) refl
          ((well.channels_sound c channel at).members_known (key new) there) possible.nick_free

  pub renames : (n c : List ℕ) → is_in (after room (Rename nick new)) n c ≡ cond (same_fold n
      (key new)) (is_in room (key nick) c) (cond (same_fold n (key nick)) false (is_in room n c))
  unfolding after
  renames n c =
      ap (is_member_of n)
      (row-each (λ channel. Some (renamed (key nick) (key new) channel)) room.channels c)
      ∙ by_row (row room.channels c) (free c)
    where
      by_tests : (a b : Bool) → false ≡ cond a false (cond b false false)
      by_tests true b = refl
      by_tests false true = refl
      by_tests false false = refl

      by_row : (o : Option Channel)
          → (is_member_of (key new) o ≡ true → key new ≡ key nick) → is_member_of n
          (option_and_then (λ channel. Some (renamed (key nick) (key new) channel)) o)
          ≡ cond (same_fold n (key new)) (is_member_of (key nick) o)
          (cond (same_fold n (key nick)) false (is_member_of n o))
      by_row None out = by_tests (same_fold n (key new)) (same_fold n (key nick))
      by_row (Some channel) out = moved_row (key nick) (key new) channel.members n out

-- ---- effects by which nobody comes, leaves or has another nickname

pub stays : (room : Room) (effect : Effect) → IsNoMove effect → (n c : List ℕ)
    → is_in (after room effect) n c ≡ is_in room n c
unfolding after
stays room (AddUser user) unmoved n c = refl
stays room (ChangeModes by channel changes) unmoved n c =
    said_kept (key channel) (all_changed changes) (member_changed_modes changes) room.channels n c
stays room (SetTopic by channel text) unmoved n c =
    said_kept (key channel) (with_topic text) (λ n channel. refl) room.channels n c
stays room (Say by notice target text) unmoved n c = refl
stays room (Invite by nick channel) unmoved n c =
    said_kept (key channel) (invited_too (key nick)) (λ n channel. refl) room.channels n c
stays room (ChangeUser nick change) unmoved n c = refl
stays room other unmoved n c = absurd unmoved

-- another spelling of a channel's name
pub titles : (room : Room) (channel : List ℕ) (n c : List ℕ)
    → is_in (titled_by channel room) n c ≡ is_in room n c
titles room channel n c =
    said_kept (key channel) (respelled channel) (λ n channel. refl) room.channels n c
