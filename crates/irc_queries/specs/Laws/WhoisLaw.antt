-- The steps of a WHOIS are answers, the same whoever is invited.
use Rattle.std.proofs.Common.{◌≡◌, ℕ, Option, Some, None, List, [], ◌∷◌, map, refl, ◌++◌, ◌∙◌, ap}
use Rattle.std.proofs.Common.{option_to_list, option_map}
use Rattle.std.specs.List.{flat_map, filter_map}
use Rattle.std.proofs.Math.Path.{fun_ext}
use Rattle.irc_names.specs.Fold.{key}
use Rattle.irc_names.specs.Tables.{row}
use Rattle.irc_users.specs.declared.user.User.{User}
use Rattle.irc_numerics.specs.Limits.{max_whois_channels}
use Rattle.irc_numerics.specs.declared.replies.OnChannel.{OnChannel}
use Rattle.irc_numerics.specs.declared.replies.Reply.TheVariants.{EndOfWhois, WhoisUser}
use Rattle.irc_numerics.specs.declared.replies.Reply.TheVariants.{WhoisServer}
use Rattle.irc_room.specs.Room.{Room}
use Rattle.irc_routes.specs.Place.{Place}
use Rattle.irc_routes.specs.declared.programs.Programs.{Programs}
use Rattle.irc_acts.specs.declared.act.Act.TheVariants.{Answer}
use Rattle.irc_acts.specs.Acts.{client_words, effects_among, bytes_kept}
use Rattle.irc_acts.specs.AheadLaws.{none-both, none-flat}
use Rattle.irc_acts.specs.Away.{away_line, away_shown, away_told}
use Rattle.irc_acts.specs.CommaLists.{entries}
use Rattle.irc_acts.specs.Names.{in_lines}
use Rattle.irc_acts.specs.AlikeChannels.{own_alike}
use Rattle.irc_acts.specs.AlikeRows.{filter_map_changed}
use Rattle.irc_acts.specs.OtherInvitations.{uninviting, AreAlike}
use Rattle.irc_queries.specs.Whois.{channels_line, places, told_if_there, told_of_one, told_of_list}
use Rattle.irc_queries.specs.Whois.{whois_steps, info_of, place_in}
use Rattle.irc_queries.specs.Laws.OnlyAsks.{OnlyAsks}

-- a WHOIS changes nothing and says nothing to others
abbrev pub WhoisOnlyAnswers : Type 0
WhoisOnlyAnswers = (room : Room) (place : Place) (me : User) (params : List (List ℕ))
    → effects_among (whois_steps room place me params) ≡ []

channels_answer : (user : User) (lines : List (List OnChannel))
    → effects_among (map (channels_line user) lines) ≡ []
channels_answer user [] = refl
channels_answer user (line ∷ lines) = channels_answer user lines

away_answers : (programs : Programs) (user : User)
    → effects_among (away_told programs user) ≡ []
away_answers programs user = by (away_shown programs user)
  where
    by : (text : Option (List ℕ))
        → effects_among (option_to_list (option_map (away_line user) text)) ≡ []
    by None = refl
    by (Some text) = refl

there_answers : (room : Room) (place : Place) (me : User) (name : List ℕ) (found : Option User)
    → effects_among (told_if_there room place me name found) ≡ []
there_answers room place me name None = refl
there_answers room place me name (Some user) =
    none-both (away_told place.about.programs user)
    (map (channels_line user) (in_lines max_whois_channels (places room me user)))
    (away_answers place.about.programs user)
    (channels_answer user (in_lines max_whois_channels (places room me user)))

one_answers : (room : Room) (place : Place) (me : User) (name : List ℕ)
    → effects_among (told_of_one room place me name) ≡ []
one_answers room place me name = there_answers room place me name (row room.users (key name))

list_answers : (room : Room) (place : Place) (me : User) (list : List ℕ)
    → effects_among (told_of_list room place me list) ≡ []
list_answers room place me list =
    none-both (flat_map (told_of_one room place me) (entries list))
    (Answer (EndOfWhois (client_words list)) ∷ [])
    (none-flat (told_of_one room place me) (one_answers room place me) (entries list)) refl

pub whois_only_answers : WhoisOnlyAnswers
unfolding whois_steps
whois_only_answers room place me [] = refl
whois_only_answers room place me (list ∷ []) = list_answers room place me list
whois_only_answers room place me (server ∷ list ∷ more) = list_answers room place me list

module _ (room other : Room) (alike : AreAlike room other) where
  places_alike : (me user : User) → places room me user ≡ places other me user
  places_alike me user =
      own_alike (filter_map (place_in me user))
      (filter_map_changed uninviting (place_in me user) (λ channel. refl)) room other alike user

  there_alike : (place : Place) (me : User) (name : List ℕ) (found : Option User)
      → told_if_there room place me name found ≡ told_if_there other place me name found
  there_alike place me name None = refl
  there_alike place me name (Some user) =
      ap (λ (channels : List OnChannel). Answer (WhoisUser user.nick user.user user.host user.real)
      ∷ Answer (WhoisServer user.nick user.home (bytes_kept (info_of place user.home)))
      ∷ away_told place.about.programs user
      ++ map (channels_line user) (in_lines max_whois_channels channels)) (places_alike me user)

  one_told_alike : (place : Place) (me : User) (name : List ℕ)
      → told_of_one room place me name ≡ told_of_one other place me name
  one_told_alike place me name =
      there_alike place me name (row room.users (key name))
      ∙ ap (λ users. told_if_there other place me name (row users (key name))) alike.users

  told_alike : (place : Place) (me : User) (list : List ℕ)
      → told_of_list room place me list ≡ told_of_list other place me list
  told_alike place me list =
      ap (λ serve. flat_map serve (entries list)
      ++ Answer (EndOfWhois (client_words list)) ∷ []) (fun_ext (one_told_alike place me))

  whois_alike : (place : Place) (me : User) (params : List (List ℕ))
      → whois_steps room place me params ≡ whois_steps other place me params
  unfolding whois_steps
  whois_alike place me [] = refl
  whois_alike place me (list ∷ []) = told_alike place me list
  whois_alike place me (server ∷ list ∷ more) = told_alike place me list

pub whois_only_asks : (place : Place) (params : List (List ℕ))
    → OnlyAsks (λ me room. whois_steps room place me params)
whois_only_asks place params = record {
  answers = λ me room. whois_only_answers room place me params;
  alike = λ me room other alike. whois_alike room other alike place me params;
}
