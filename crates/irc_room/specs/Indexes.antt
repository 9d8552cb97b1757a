-- Names of channels by nickname: what the code keeps beside the table of channels, so that it need
-- not look through all of them.
use Rattle.std.specs.Prelude.{◌≡◌, ℕ, Bool, true, false, not, ◌&&◌, ◌||◌, is_some, Option, Some}
use Rattle.std.specs.Prelude.{None, List, [], map, filter, option_to_list, unwrap_or}
use Rattle.std.specs.List.{flat_map, list_any}
use Rattle.std.specs.Option.{option_map, option_map_or}
use Rattle.std.specs.FinMap.{entries, keys}
use Rattle.irc_names.specs.Fold.{key}
use Rattle.irc_names.specs.Tables.{Table, row, alter}
use Rattle.irc_names.specs.TableLaws.{same_fold}
use Rattle.irc_channels.specs.declared.channel.Channel.{Channel}
use Rattle.irc_channels.specs.Channels.{has_member, is_invited, joined, new_channel}
use Rattle.irc_modes.specs.Modes.{is_nil}

-- some names, by their folds
abbrev pub Names : Type 0
Names = Table (Unit {0})

-- names by the folds of nicknames
abbrev pub Index : Type 0
Index = Table Names

-- whether a name is one of those, if there are any
abbrev pub is_among : List ℕ → Option Names → Bool
is_among name names = option_map_or (λ (ns : Names). is_some (row ns name)) names false

-- whether a name stands by a nickname
abbrev pub stands : Index → List ℕ → List ℕ → Bool
stands index nick name = is_among name (row index nick)

-- these names in folded order
abbrev pub names_in : Option Names → List (List ℕ × Unit {0})
names_in None = []
names_in (Some names) = entries names

-- whether a test of a nickname holds of the channel with a name, if there is one
abbrev pub holds : (List ℕ → Channel → Bool) → Table Channel → List ℕ → List ℕ → Bool
holds test channels nick name = option_map_or (test nick) (row channels name) false

-- whether a channel has both members
abbrev pub joins_both : List ℕ → List ℕ → Channel → Bool
joins_both one other channel = has_member one channel && has_member other channel

-- whether a user is not invited to a channel
abbrev pub is_uninvited : List ℕ → Channel → Bool
is_uninvited nick channel = not (is_invited nick channel)

-- whether nobody but a user is a member of a channel
abbrev pub is_alone : List ℕ → Channel → Bool
is_alone nick channel = is_nil (keys (alter nick (λ _. None) channel.members))

-- whether somebody is invited to a channel that ends when a user is gone
abbrev pub is_ended_with : List ℕ → List ℕ → Channel → Bool
is_ended_with nick invited channel = is_alone nick channel && is_invited invited channel

-- the folds of some entries, and whether one is among them
abbrev pub folds_of : {V : Type 0} → List (List ℕ × V) → List (List ℕ)
folds_of es = map (λ e. e.0) es

abbrev pub is_named : List (List ℕ) → List ℕ → Bool
is_named names name = list_any (same_fold name) names

-- the names of the channels that a user is a member of, in folded order
abbrev pub own_names : List ℕ → Table Channel → List (List ℕ × Unit {0})
own_names nick channels =
    map (λ e. (e.0, tt)) (filter (λ e. has_member nick e.1) (entries channels))

-- the channel with this fold, beside it
abbrev pub entry_at : Table Channel → List ℕ → Option (List ℕ × Channel)
entry_at channels name = option_map (λ (channel : Channel). (name, channel)) (row channels name)

-- the row of a channel that a user joins
abbrev pub row_joined : List ℕ → Bool → List ℕ → Option Channel → Option Channel
row_joined nick op channel there =
    Some (joined (key nick) op (unwrap_or there (new_channel channel)))

-- the channel of a name is changed, if there is one
abbrev pub with_row : List ℕ → (Channel → Channel) → Table Channel → Table Channel
with_row name change channels = alter (key name) (option_map change) channels

-- the same for a name, in a list
abbrev pub channel_named : Table Channel → List ℕ → List (List ℕ × Channel)
channel_named channels name = option_to_list (entry_at channels (key name))

-- the channels under the names of some entries, as far as there are any
abbrev pub entries_under : {V : Type 0} → Table Channel → List (List ℕ × V)
    → List (List ℕ × Channel)
entries_under channels es = flat_map (λ e. option_to_list (entry_at channels e.0)) es

-- names stand by nicknames just where a test says so
pub record Tells (index : Index) (test : List ℕ → List ℕ → Bool) : Type 0 where
  pub at : (nick name : List ℕ) → stands index nick name ≡ test nick name

-- two indexes that tell the same
pub record IsAlike (before after : Index) : Type 0 where
  pub at : (n c : List ℕ) → stands after n c ≡ stands before n c

-- a nickname has a row, though there may be nothing in it
pub record IsOpened (before after : Index) (nick : List ℕ) : Type 0 where
  pub there : is_some (row after nick) ≡ true
  pub alike : IsAlike before after

-- where nothing stands by a nickname it has no row
pub record IsUsed (index : Index) (nick : List ℕ) : Type 0 where
  pub at : is_nil (names_in (row index nick)) ≡ true → row index nick ≡ None

-- where one nickname has a row, another has one too, in place of which its row can be put
pub record HasWay (index : Index) (nick new : List ℕ) : Type 0 where
  pub there : is_some (row index nick) ≡ true → is_some (row index new) ≡ true

-- one name more by one nickname
pub record Adds (before after : Index) (nick name : List ℕ) : Type 0 where
  pub at : (n c : List ℕ)
      → stands after n c ≡ ((same_fold n nick && same_fold c name) || stands before n c)

-- one name less by each nickname of which it is said
pub record DropsWhere (gone : List ℕ → Bool) (before after : Index) (name : List ℕ) : Type 0 where
  pub at : (n c : List ℕ)
      → stands after n c ≡ (not (gone n && same_fold c name) && stands before n c)

-- one name less by one nickname
abbrev pub Drops : Index → Index → List ℕ → List ℕ → Type 0
Drops before after nick name = DropsWhere (λ n. same_fold n nick) before after name

-- in no channel is there another user of this nickname, nor is another invited to one
pub record IsFreeOf (channels : Table Channel) (nick new : List ℕ) : Type 0 where
  pub member : (name : List ℕ) → holds has_member channels new name ≡ true → new ≡ nick
  pub invited : (name : List ℕ) → holds is_invited channels new name ≡ true → new ≡ nick

-- each channel has a member
pub record AreInhabited (channels : Table Channel) : Type 0 where
  pub at : (name : List ℕ) (channel : Channel) → row channels name ≡ Some channel
      → is_nil (keys channel.members) ≡ false

-- the names by each user's nickname are those of its channels, and of those that it is invited to
pub record AreIndexed (channels : Table Channel) (of_members of_invited : Index) : Type 0 where
  pub joined : Tells of_members (holds has_member channels)
  pub invited : Tells of_invited (holds is_invited channels)

-- whether another than a user is invited
abbrev pub invited_beside : List ℕ → List ℕ → Channel → Bool
invited_beside nick other channel = not (same_fold other nick) && is_invited other channel

-- the names by all nicknames but one are those of the channels that the user is invited to
abbrev pub TellsOfOthers : List ℕ → Table Channel → Index → Type 0
TellsOfOthers nick channels index = Tells index (holds (invited_beside nick) channels)
