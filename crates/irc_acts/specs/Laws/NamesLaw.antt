-- The steps of a NAMES are answers.
use Rattle.std.proofs.Common.{◌≡◌, ℕ, Bool, true, false, cond, Option, Some, None, List, [], ◌∷◌}
use Rattle.std.proofs.Common.{filter, map, refl}
use Rattle.std.specs.List.{flat_map}
use Rattle.std.specs.FinMap.{values}
use Rattle.irc_names.specs.Fold.{key}
use Rattle.irc_names.specs.Tables.{Table, row}
use Rattle.irc_users.specs.declared.user.User.{User}
use Rattle.irc_channels.specs.declared.channel.Channel.{Channel}
use Rattle.irc_numerics.specs.Limits.{max_names}
use Rattle.irc_numerics.specs.declared.replies.Listed.{Listed}
use Rattle.irc_room.specs.Room.{Room}
use Rattle.irc_acts.specs.Acts.{effects_among}
use Rattle.irc_acts.specs.AheadLaws.{none-both, none-flat}
use Rattle.irc_acts.specs.CommaLists.{entries}
use Rattle.irc_acts.specs.Standing.{is_listed, is_known}
use Rattle.irc_acts.specs.Names.{in_lines, name_line, named_members, names_of, known_names}
use Rattle.irc_acts.specs.Names.{end_of_names, one_names, names_steps}

-- a NAMES changes nothing and says nothing to others
abbrev pub NamesOnlyAnswers : Type 0
NamesOnlyAnswers = (room : Room) (me : User) (params : List (List ℕ))
    → effects_among (names_steps room me params) ≡ []

lines_answer : (channel : Channel) (lines : List (List Listed))
    → effects_among (map (name_line channel) lines) ≡ []
lines_answer channel [] = refl
lines_answer channel (line ∷ lines) = lines_answer channel lines

names_answer : (users : Table User) (me : User) (channel : Channel)
    → effects_among (names_of users me channel) ≡ []
names_answer users me channel =
    lines_answer channel (in_lines max_names (named_members users me channel))

known_answer : (users : Table User) (me : User) (found : Option Channel)
    → effects_among (known_names users me found) ≡ []
known_answer users me None = refl
known_answer users me (Some channel) = by_test (is_known me channel)
  where
    by_test : (b : Bool) → effects_among (cond b (names_of users me channel) []) ≡ []
    by_test true = names_answer users me channel
    by_test false = refl

one_answer : (room : Room) (me : User) (name : List ℕ) → effects_among (one_names room me name) ≡ []
one_answer room me name =
    let found = row room.channels (key name) in
    none-both (known_names room.users me found) (end_of_names name ∷ [])
    (known_answer room.users me found) refl

pub names_only_answers : NamesOnlyAnswers
unfolding names_steps
names_only_answers room me [] =
    let channels = filter (is_listed me) (values room.channels) in
    none-both (flat_map (names_of room.users me) channels) (end_of_names _ ∷ [])
    (none-flat (names_of room.users me) (names_answer room.users me) channels) refl
names_only_answers room me (list ∷ more) =
    none-flat (one_names room me) (one_answer room me) (entries list)
