-- A room that is made of lists, and what each effect makes of it: it computes, and it is the room
-- after the effect.
use Rattle.std.proofs.Common.{◌≡◌, ℕ, Bool, true, false, Option, Some, None, List, [], ◌∷◌, refl}
use Rattle.std.proofs.Common.{sym, ◌∙◌, ap, is_some, fold, unwrap_or, if◌then◌else◌, option_map}
use Rattle.std.specs.Option.{option_and_then}
use Rattle.std.specs.FinMap.Entries.{find}
use Rattle.std.proofs.lemmas.Iterator.Adapters.{option_map_id}
use Rattle.irc_names.specs.Lemmas.PlainFacts.{is_some-map}
use Rattle.irc_names.specs.Fold.{key}
use Rattle.irc_names.specs.Greater.{bytes_cmp, greater}
use Rattle.irc_names.specs.Tables.{Table, fold_cmp, alter}
use Rattle.irc_users.specs.declared.user.User.{User}
use Rattle.irc_users.specs.UserTable.{with_nick, with_change}
use Rattle.irc_channels.specs.declared.flags.Flags.{Flags}
use Rattle.irc_modes.specs.declared.modes.Modes.{Modes}
use Rattle.irc_modes.specs.declared.modes.ModeChange.{ModeChange}
use Rattle.irc_modes.specs.declared.modes.ModeLetter.{ModeLetter}
use Rattle.irc_modes.specs.declared.modes.ModeLetter.TheVariants as letter
use Rattle.irc_channels.specs.declared.channel.Channel.{Channel}
use Rattle.irc_modes.specs.Modes.{no_modes, is_nil, private_changed, secret_changed, key_changed}
use Rattle.irc_modes.specs.Modes.{limit_changed, bans_changed}
use Rattle.irc_channels.specs.Channels.{new_channel, has_member, while_members, joined, left}
use Rattle.irc_channels.specs.Channels.{without_user, renamed, invited_too, with_topic, respelled}
use Rattle.irc_channels.specs.Channels.{letter_changed, all_changed}
use Rattle.irc_effects.specs.declared.effect.Effect.{Effect}
use Rattle.irc_effects.specs.declared.effect.Effect.TheVariants.{AddUser, Rename, Quit, Join, Part}
use Rattle.irc_effects.specs.declared.effect.Effect.TheVariants.{Kick, ChangeModes, SetTopic, Say}
use Rattle.irc_effects.specs.declared.effect.Effect.TheVariants.{Invite, ChangeUser}
use Rattle.irc_effects.specs.Room.{Room}
use Rattle.irc_effects.specs.After.{after, titled_by}
use Rattle.irc_effects.specs.Lemmas.Listed.{table_of, row_listed, alter_entry}
use Rattle.irc_effects.specs.Lemmas.Listed.{alter_listed, each_entry, each_listed, move_entry}
use Rattle.irc_effects.specs.Lemmas.Listed.{moved_listed, keys_listed}

pub record ListedChannel : Type 0 where
  pub name : List ℕ
  pub modes : Modes
  pub topic : List ℕ
  pub members : List (List ℕ × Flags)
  pub invited : List (List ℕ × Unit {0})

pub record ListedRoom : Type 0 where
  pub users : List (List ℕ × User)
  pub channels : List (List ℕ × ListedChannel)

abbrev pub channel_of : ListedChannel → Channel
channel_of c = record {
  name = c.name;
  modes = c.modes;
  topic = c.topic;
  members = table_of (λ f. f) c.members;
  invited = table_of (λ u. u) c.invited;
}

abbrev pub room_of : ListedRoom → Room
room_of room =
    record { users = table_of (λ u. u) room.users; channels = table_of channel_of room.channels }

-- What each effect makes of one channel.

abbrev pub lists_member : List ℕ → ListedChannel → Bool
lists_member nick c = is_some (find fold_cmp nick c.members)

abbrev list_while_members : ListedChannel → Option ListedChannel
list_while_members c = if is_nil c.members then None else Some c

abbrev list_new : List ℕ → ListedChannel
list_new name = record { name = name; modes = no_modes; topic = []; members = []; invited = [] }

abbrev list_joined : List ℕ → Bool → ListedChannel → ListedChannel
list_joined nick op c =
    if lists_member nick c then c else record c {
      members = alter_entry nick (λ _. Some (record { op = op; voice = false })) c.members;
      invited = alter_entry nick (λ _. None) c.invited;
    }

abbrev list_left : List ℕ → ListedChannel → Option ListedChannel
list_left nick c =
    if lists_member nick c then list_while_members
    (record c { members = alter_entry nick (λ _. None) c.members }) else Some c

abbrev list_without : List ℕ → ListedChannel → Option ListedChannel
list_without nick c = list_while_members (record c {
  members = alter_entry nick (λ _. None) c.members;
  invited = alter_entry nick (λ _. None) c.invited;
})

abbrev list_renamed : List ℕ → List ℕ → ListedChannel → ListedChannel
list_renamed old new c = record c {
  members = move_entry old new (λ f. f) c.members;
  invited = move_entry old new (λ u. u) c.invited;
}

abbrev list_invited : List ℕ → ListedChannel → ListedChannel
list_invited nick c = record c { invited = alter_entry nick (λ _. Some tt) c.invited }

abbrev list_topic : List ℕ → ListedChannel → ListedChannel
list_topic topic c = record c { topic = topic }

abbrev list_respelled : List ℕ → ListedChannel → ListedChannel
list_respelled name c = record c { name = greater bytes_cmp c.name name }

abbrev list_modes : (Modes → Modes) → ListedChannel → ListedChannel
list_modes change c = record c { modes = change c.modes }

abbrev list_member : List ℕ → (Flags → Flags) → ListedChannel → ListedChannel
list_member nick change c =
    record c { members = alter_entry (key nick) (option_map change) c.members }

abbrev list_letter : Bool → ModeLetter → Option (List ℕ) → ListedChannel → ListedChannel
list_letter plus letter.InviteOnly word c = list_modes (λ m. record m { invite_only = plus }) c
list_letter plus letter.Moderated word c = list_modes (λ m. record m { moderated = plus }) c
list_letter plus letter.NoOutside word c = list_modes (λ m. record m { no_outside = plus }) c
list_letter plus letter.TopicLocked word c = list_modes (λ m. record m { topic_locked = plus }) c
list_letter plus letter.Private word c =
    list_modes (λ m. record m { privacy = private_changed plus m.privacy }) c
list_letter plus letter.Secret word c =
    list_modes (λ m. record m { privacy = secret_changed plus m.privacy }) c
list_letter true letter.Key (Some word) c =
    list_modes (λ m. record m { key = key_changed true (Some word) m.key }) c
list_letter false letter.Key word c = list_modes (λ m. record m { key = None }) c
list_letter true letter.Limit (Some word) c =
    list_modes (λ m. record m { limit = limit_changed true (Some word) m.limit }) c
list_letter false letter.Limit word c = list_modes (λ m. record m { limit = None }) c
list_letter plus letter.Ban (Some word) c =
    list_modes (λ m. record m { bans = bans_changed plus word m.bans }) c
list_letter plus letter.Operator (Some word) c = list_member word (λ f. record f { op = plus }) c
list_letter plus letter.Voice (Some word) c = list_member word (λ f. record f { voice = plus }) c
list_letter plus other None c = c

abbrev list_changed : List ModeChange → ListedChannel → ListedChannel
list_changed [] c = c
list_changed (change ∷ changes) c =
    list_changed changes (list_letter change.plus change.letter change.word c)

-- They are what the effects make of the channels.

cond_of : {X Y : Type 0} (f : X → Y) (b d : Bool) (x y : Y) (v w : X) → b ≡ d → x ≡ f v → y ≡ f w
    → (if b then x else y) ≡ f (if d then v else w)
cond_of f b true x y v w is first second = ap (λ t. if t then x else y) is ∙ first
cond_of f b false x y v w is first second = ap (λ t. if t then x else y) is ∙ second

itself : {X : Type 0} (change : Option X → Option X) (o : Option X)
    → change (option_map (λ x. x) o) ≡ option_map (λ x. x) (change o)
itself change o = ap change (option_map_id o) ∙ sym (option_map_id (change o))

pub altered_plain : {X : Type 0} (fold : List ℕ)
    (change : Option X → Option X) (es : List (List ℕ × X))
    → alter fold change (table_of (λ x. x) es) ≡ table_of (λ x. x) (alter_entry fold change es)
altered_plain fold change es = alter_listed (λ x. x) fold change change es (itself change)

pub member_listed : (nick : List ℕ) (c : ListedChannel)
    → has_member nick (channel_of c) ≡ lists_member nick c
member_listed nick c = ap is_some (row_listed (λ f. f) c.members nick)
    ∙ is_some-map (λ f. f) (find fold_cmp nick c.members)

while_listed : (c : ListedChannel)
    → while_members (channel_of c) ≡ option_map channel_of (list_while_members c)
while_listed c = cond_of (option_map channel_of) _ (is_nil c.members) None
    (Some (channel_of c)) None (Some c) (keys_listed (λ f. f) c.members) refl refl

joined_listed : (nick : List ℕ) (op : Bool) (c : ListedChannel)
    → joined nick op (channel_of c) ≡ channel_of (list_joined nick op c)
joined_listed nick op c =
    cond_of channel_of _ (lists_member nick c) (channel_of c) _ c _ (member_listed nick c) refl
    (λ i. record (channel_of c) {
      members = altered_plain nick (λ _. Some (record { op = op; voice = false })) c.members i;
      invited = altered_plain nick (λ _. None) c.invited i;
    })

left_listed : (nick : List ℕ) (c : ListedChannel)
    → left nick (channel_of c) ≡ option_map channel_of (list_left nick c)
left_listed nick c =
    cond_of (option_map channel_of) _ (lists_member nick c) _ (Some (channel_of c)) _ (Some c)
    (member_listed nick c)
    (ap (λ (members : Table Flags). while_members (record (channel_of c) { members = members }))
    (altered_plain nick (λ _. None) c.members)
    ∙ while_listed (record c { members = alter_entry nick (λ _. None) c.members }))
    refl

without_listed : (nick : List ℕ) (c : ListedChannel)
    → without_user nick (channel_of c) ≡ option_map channel_of (list_without nick c)
without_listed nick c =
    (λ i. while_members (record (channel_of c) {
      members = altered_plain nick (λ _. None) c.members i;
      invited = altered_plain nick (λ _. None) c.invited i;
    }))
    ∙ while_listed (record c {
      members = alter_entry nick (λ _. None) c.members;
      invited = alter_entry nick (λ _. None) c.invited;
    })

renamed_listed : (old new : List ℕ) (c : ListedChannel)
    → renamed old new (channel_of c) ≡ channel_of (list_renamed old new c)
renamed_listed old new c = λ i. record (channel_of c) {
  members = moved_listed old new (λ f. f) c.members i;
  invited = moved_listed old new (λ u. u) c.invited i;
}

invited_listed : (nick : List ℕ) (c : ListedChannel)
    → invited_too nick (channel_of c) ≡ channel_of (list_invited nick c)
invited_listed nick c =
    λ i. record (channel_of c) { invited = altered_plain nick (λ _. Some tt) c.invited i }

flags_listed : (nick : List ℕ) (change : Flags → Flags) (c : ListedChannel)
    → (record (channel_of c) {
      members = alter (key nick) (option_map change)
          (table_of (λ f. f) c.members);
    }) ≡ channel_of (list_member nick change c)
flags_listed nick change c = λ i.
    record (channel_of c) { members = altered_plain (key nick) (option_map change) c.members i }

letter_listed : (plus : Bool) (which : ModeLetter) (word : Option (List ℕ)) (c : ListedChannel)
    → letter_changed plus which word (channel_of c) ≡ channel_of (list_letter plus which word c)
letter_listed plus letter.InviteOnly word c = refl
letter_listed plus letter.Moderated word c = refl
letter_listed plus letter.NoOutside word c = refl
letter_listed plus letter.TopicLocked word c = refl
letter_listed plus letter.Private word c = refl
letter_listed plus letter.Secret word c = refl
letter_listed true letter.Key (Some word) c = refl
letter_listed true letter.Key None c = refl
letter_listed false letter.Key word c = refl
letter_listed true letter.Limit (Some word) c = refl
letter_listed true letter.Limit None c = refl
letter_listed false letter.Limit word c = refl
letter_listed plus letter.Ban (Some word) c = refl
letter_listed plus letter.Ban None c = refl
letter_listed plus letter.Operator (Some word) c = flags_listed word (λ f. record f { op = plus }) c
letter_listed plus letter.Operator None c = refl
letter_listed plus letter.Voice (Some word) c = flags_listed word (λ f. record f { voice = plus }) c
letter_listed plus letter.Voice None c = refl

changed_listed : (changes : List ModeChange) (c : ListedChannel)
    → all_changed changes (channel_of c) ≡ channel_of (list_changed changes c)
changed_listed [] c = refl
changed_listed (change ∷ changes) c =
    ap (all_changed changes) (letter_listed change.plus change.letter change.word c)
    ∙ changed_listed changes (list_letter change.plus change.letter change.word c)

-- What each effect makes of the room.

abbrev alter_list_channel : List ℕ → (Option ListedChannel → Option ListedChannel) → ListedRoom
    → ListedRoom
alter_list_channel name change room =
    record room { channels = alter_entry (key name) change room.channels }

abbrev alter_list_user : List ℕ → (Option User → Option User) → ListedRoom → ListedRoom
alter_list_user nick change room = record room { users = alter_entry (key nick) change room.users }

abbrev pub list_after : ListedRoom → Effect → ListedRoom
list_after room (AddUser user) = alter_list_user user.nick (λ _. Some user) room
list_after room (Rename nick new) = record {
  users = move_entry (key nick) (key new) (with_nick new) room.users;
  channels = each_entry (λ c. Some (list_renamed (key nick) (key new) c)) room.channels;
}
list_after room (Quit nick text) = record {
  users = alter_entry (key nick) (λ _. None) room.users;
  channels = each_entry (list_without (key nick)) room.channels;
}
list_after room (Join nick name op) = alter_list_channel name
    (λ c. Some (list_joined (key nick) op (unwrap_or c (list_new name)))) room
list_after room (Part nick name text) =
    alter_list_channel name (option_and_then (list_left (key nick))) room
list_after room (Kick by name nick text) =
    alter_list_channel name (option_and_then (list_left (key nick))) room
list_after room (ChangeModes by name changes) =
    alter_list_channel name (option_map (list_changed changes)) room
list_after room (SetTopic by name text) =
    alter_list_channel name (option_map (list_topic text)) room
list_after room (Say by notice target text) = room
list_after room (Invite by nick name) =
    alter_list_channel name (option_map (list_invited (key nick))) room
list_after room (ChangeUser nick change) =
    alter_list_user nick (option_map (with_change change)) room

with_channels : (room : ListedRoom) (channels : Table Channel)
    (es : List (List ℕ × ListedChannel)) → channels ≡ table_of channel_of es
    → (record (room_of room) { channels = channels }) ≡ room_of (record room { channels = es })
with_channels room channels es is = λ i. record (room_of room) { channels = is i }

map_map : {X Y : Type 0} (f : X → Y) (change : Y → Y) (here : X → X)
    → ((x : X) → change (f x) ≡ f (here x)) → (o : Option X)
    → option_map change (option_map f o) ≡ option_map f (option_map here o)
map_map f change here alike None = refl
map_map f change here alike (Some x) = ap Some (alike x)

then_map : {X Y : Type 0} (f : X → Y) (change : Y → Option Y) (here : X → Option X)
    → ((x : X) → change (f x) ≡ option_map f (here x)) → (o : Option X)
    → option_and_then change (option_map f o) ≡ option_map f (option_and_then here o)
then_map f change here alike None = refl
then_map f change here alike (Some x) = alike x

join_row : (nick : List ℕ) (op : Bool) (name : List ℕ) (o : Option ListedChannel)
    → Some (joined nick op (unwrap_or (option_map channel_of o) (new_channel name)))
    ≡ option_map channel_of (Some (list_joined nick op (unwrap_or o (list_new name))))
join_row nick op name None = ap Some (joined_listed nick op (list_new name))
join_row nick op name (Some c) = ap Some (joined_listed nick op c)

leaves_listed : (nick name : List ℕ) (room : ListedRoom)
    → alter (key name) (option_and_then (left nick)) (table_of channel_of room.channels)
    ≡ table_of channel_of (alter_entry (key name) (option_and_then (list_left nick)) room.channels)
leaves_listed nick name room =
    alter_listed channel_of (key name) (option_and_then (left nick))
    (option_and_then (list_left nick)) room.channels
    (then_map channel_of (left nick) (list_left nick) (left_listed nick))

maps_listed : (name : List ℕ) (change : Channel → Channel) (here : ListedChannel → ListedChannel)
    (room : ListedRoom) → ((c : ListedChannel) → change (channel_of c) ≡ channel_of (here c))
    → alter (key name) (option_map change) (table_of channel_of room.channels)
    ≡ table_of channel_of (alter_entry (key name) (option_map here) room.channels)
maps_listed name change here room alike =
    alter_listed channel_of (key name) (option_map change) (option_map here) room.channels
    (map_map channel_of change here alike)

pub after_listed : (room : ListedRoom) (effect : Effect)
    → after (room_of room) effect ≡ room_of (list_after room effect)
unfolding after
after_listed room (AddUser user) = λ i.
    record (room_of room) { users = altered_plain (key user.nick) (λ _. Some user) room.users i }
after_listed room (Rename nick new) = λ i. record {
  users = moved_listed (key nick) (key new) (with_nick new) room.users i;
  channels = each_listed channel_of (λ channel. Some (renamed (key nick) (key new) channel))
      (λ c. Some (list_renamed (key nick) (key new) c)) room.channels
      (λ c. ap Some (renamed_listed (key nick) (key new) c)) i;
}
after_listed room (Quit nick text) = λ i. record {
  users = altered_plain (key nick) (λ _. None) room.users i;
  channels = each_listed channel_of (without_user (key nick))
      (list_without (key nick)) room.channels (without_listed (key nick)) i;
}
after_listed room (Join nick name op) =
    with_channels room _ _ (alter_listed channel_of (key name)
    (λ c. Some (joined (key nick) op (unwrap_or c (new_channel name))))
    (λ c. Some (list_joined (key nick) op (unwrap_or c (list_new name)))) room.channels
    (join_row (key nick) op name))
after_listed room (Part nick name text) =
    with_channels room _ _ (leaves_listed (key nick) name room)
after_listed room (Kick by name nick text) =
    with_channels room _ _ (leaves_listed (key nick) name room)
after_listed room (ChangeModes by name changes) =
    with_channels room _ _
    (maps_listed name (all_changed changes) (list_changed changes) room (changed_listed changes))
after_listed room (SetTopic by name text) =
    with_channels room _ _ (maps_listed name (with_topic text) (list_topic text) room (λ c. refl))
after_listed room (Say by notice target text) = refl
after_listed room (Invite by nick name) =
    with_channels room _ _
    (maps_listed name (invited_too (key nick)) (list_invited (key nick)) room
    (invited_listed (key nick)))
after_listed room (ChangeUser nick change) =
    λ i. record (room_of room) {
      users = altered_plain (key nick)
          (option_map (with_change change)) room.users i;
    }

-- a channel's name spelled in the greater of two ways
abbrev pub list_titled : List ℕ → ListedRoom → ListedRoom
list_titled name room = alter_list_channel name (option_map (list_respelled name)) room

pub titled_listed : (name : List ℕ) (room : ListedRoom)
    → titled_by name (room_of room) ≡ room_of (list_titled name room)
titled_listed name room =
    with_channels room _ _
    (maps_listed name (respelled name) (list_respelled name) room (λ c. refl))

-- effects one after another
pub all_listed : (room : ListedRoom) (effects : List Effect)
    → fold after (room_of room) effects ≡ room_of (fold list_after room effects)
all_listed room [] = refl
all_listed room (effect ∷ effects) = ap (λ r. fold after r effects) (after_listed room effect)
    ∙ all_listed (list_after room effect) effects

abbrev pub no_list : ListedRoom
no_list = record { users = []; channels = [] }
