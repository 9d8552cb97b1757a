-- The steps of a LIST are answers, the same whoever is invited.
use Rattle.std.proofs.Common.{◌≡◌, ℕ, Bool, true, false, cond, Option, Some, None, List, [], ◌∷◌}
use Rattle.std.proofs.Common.{filter, map, refl, ◌++◌, ◌∙◌, ap}
use Rattle.std.specs.List.{flat_map}
use Rattle.std.specs.FinMap.{values}
use Rattle.std.proofs.Math.Path.{fun_ext}
use Rattle.std.specs.Option.{option_map}
use Rattle.irc_names.specs.Fold.{key}
use Rattle.irc_names.specs.Tables.{Table, row}
use Rattle.irc_users.specs.declared.user.User.{User}
use Rattle.irc_channels.specs.declared.channel.Channel.{Channel}
use Rattle.irc_numerics.specs.declared.replies.Reply.TheVariants.{ListEnd}
use Rattle.irc_room.specs.Room.{Room}
use Rattle.irc_acts.specs.declared.act.Act.TheVariants.{Answer}
use Rattle.irc_acts.specs.Acts.{effects_among}
use Rattle.irc_acts.specs.AheadLaws.{none-both, none-flat}
use Rattle.irc_acts.specs.Standing.{is_listed, is_known}
use Rattle.irc_acts.specs.AlikeChannels.{row_alike, listing_alike}
use Rattle.irc_acts.specs.AlikeRows.{filter_changed, map_changed}
use Rattle.irc_acts.specs.OtherInvitations.{uninviting, AreAlike}
use Rattle.irc_acts.specs.CommaLists.{entries}
use Rattle.irc_queries.specs.List.{channel_entry, known_entry, asked_entry, list_steps}
use Rattle.irc_queries.specs.List.{listed_entries}
use Rattle.irc_queries.specs.Laws.OnlyAsks.{OnlyAsks}

-- a LIST changes nothing and says nothing to others
abbrev pub ListOnlyAnswers : Type 0
ListOnlyAnswers = (room : Room) (me : User) (params : List (List ℕ))
    → effects_among (list_steps room me params) ≡ []

entries_answer : (users : Table User) (me : User) (channels : List Channel)
    → effects_among (map (channel_entry users me) channels) ≡ []
entries_answer users me [] = refl
entries_answer users me (channel ∷ channels) = entries_answer users me channels

known_answers : (users : Table User) (me : User) (found : Option Channel)
    → effects_among (known_entry users me found) ≡ []
known_answers users me None = refl
known_answers users me (Some channel) = by_test (is_known me channel)
  where
    by_test : (b : Bool) → effects_among (cond b (channel_entry users me channel ∷ []) []) ≡ []
    by_test true = refl
    by_test false = refl

asked_answers : (room : Room) (me : User) (name : List ℕ)
    → effects_among (asked_entry room me name) ≡ []
asked_answers room me name = known_answers room.users me (row room.channels (key name))

pub list_only_answers : ListOnlyAnswers
unfolding list_steps
list_only_answers room me [] =
    let channels = filter (is_listed me) (values room.channels) in
    none-both (map (channel_entry room.users me) channels) (Answer ListEnd ∷ [])
    (entries_answer room.users me channels) refl
list_only_answers room me (list ∷ more) =
    none-both (flat_map (asked_entry room me) (entries list)) (Answer ListEnd ∷ [])
    (none-flat (asked_entry room me) (asked_answers room me) (entries list)) refl

module _ (room other : Room) (alike : AreAlike room other) where
  entries_aside : (me : User) (users : Table User) (channels : List Channel)
      → listed_entries users me (map uninviting channels) ≡ listed_entries users me channels
  entries_aside me users channels =
      ap (map (channel_entry users me))
      (filter_changed uninviting (is_listed me) (λ channel. refl) channels)
      ∙ map_changed uninviting (channel_entry users me) (λ channel. refl)
      (filter (is_listed me) channels)

  known_entry_aside : (me : User) (users : Table User) (found : Option Channel)
      → known_entry users me found ≡ known_entry users me (option_map uninviting found)
  known_entry_aside me users None = refl
  known_entry_aside me users (Some channel) = refl

  asked_entry_alike : (me : User) (name : List ℕ)
      → asked_entry room me name ≡ asked_entry other me name
  asked_entry_alike me name =
      row_alike (λ users. known_entry users me) (known_entry_aside me) room other alike (key name)

  list_alike : (me : User) (params : List (List ℕ))
      → list_steps room me params ≡ list_steps other me params
  unfolding list_steps
  list_alike me [] =
      ap (λ acts. acts ++ Answer ListEnd ∷ []) (listing_alike (λ users channels.
      listed_entries users me channels) (entries_aside me) room other alike)
  list_alike me (list ∷ more) =
      ap (λ serve. flat_map serve (entries list) ++ Answer ListEnd ∷ [])
      (fun_ext (asked_entry_alike me))

pub list_only_asks : (params : List (List ℕ)) → OnlyAsks (λ me room. list_steps room me params)
list_only_asks params = record {
  answers = λ me room. list_only_answers room me params;
  alike = λ me room other alike. list_alike room other alike me params;
}
