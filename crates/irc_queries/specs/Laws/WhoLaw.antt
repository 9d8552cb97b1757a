-- The steps of a WHO are answers, the same whoever is invited.
use Rattle.std.proofs.Common.{◌≡◌, ℕ, Bool, true, false, cond, Option, Some, None, List, [], ◌∷◌}
use Rattle.std.proofs.Common.{codes, ◌&&◌, filter, map, refl, not, ◌||◌, ◌++◌, sym, ◌∙◌, ap}
use Rattle.std.specs.List.{cons_option, filter_map}
use Rattle.std.specs.Option.{option_and_then, option_map}
use Rattle.std.specs.FinMap.{entries, values}
use Rattle.std.proofs.Math.Path.{fun_ext}
use Rattle.irc_names.specs.Fold.{key, same}
use Rattle.irc_names.specs.Tables.{row, Table}
use Rattle.irc_users.specs.declared.user.User.{User}
use Rattle.irc_channels.specs.declared.flags.Flags.{Flags}
use Rattle.irc_channels.specs.declared.channel.Channel.{Channel}
use Rattle.irc_channels.specs.Channels.{has_member}
use Rattle.irc_numerics.specs.declared.replies.MemberMark.TheVariants.{Plain}
use Rattle.irc_room.specs.Room.{Room}
use Rattle.irc_routes.specs.Place.{Place}
use Rattle.irc_acts.specs.declared.act.Act.{Act}
use Rattle.irc_acts.specs.Acts.{effects_among}
use Rattle.irc_acts.specs.AheadLaws.{none-both}
use Rattle.irc_acts.specs.Marks.{asterisk}
use Rattle.irc_acts.specs.Standing.{is_known, is_seen, mark_of, is_seen_from}
use Rattle.irc_acts.specs.Words.{names_channel}
use Rattle.irc_acts.specs.AlikeChannels.{own_alike}
use Rattle.irc_acts.specs.AlikeRows.{any_changed}
use Rattle.irc_acts.specs.OtherInvitations.{uninviting, AreAlike}
use Rattle.irc_queries.specs.Who.{user_line, member_if_seen, member_line, replies_of_members}
use Rattle.irc_queries.specs.Who.{replies_of_users, is_asked_for, who_replies, asks_for_operators}
use Rattle.irc_queries.specs.Who.{end_of_who, who_steps, replies_of_seen}
use Rattle.irc_queries.specs.Laws.OnlyAsks.{OnlyAsks}

-- a WHO changes nothing and says nothing to others
abbrev pub WhoOnlyAnswers : Type 0
WhoOnlyAnswers = (room : Room) (place : Place) (me : User) (params : List (List ℕ))
    → effects_among (who_steps room place me params) ≡ []

-- either of two lists of answers
either : (b : Bool) (a c : List Act) → effects_among a ≡ [] → effects_among c ≡ []
    → effects_among (cond b a c) ≡ []
either true a c one other = one
either false a c one other = other

users_answer : (place : Place) (users : List User)
    → effects_among (map (user_line place None Plain) users) ≡ []
users_answer place [] = refl
users_answer place (user ∷ users) = users_answer place users

first_answers : (room : Room) (place : Place) (seen : User → Bool)
    (channel : Channel) (flags : Flags) (found : Option User) (acts : List Act)
    → effects_among acts ≡ [] → effects_among
    (cons_option (option_and_then (member_if_seen place seen channel flags) found) acts) ≡ []
first_answers room place seen channel flags None acts none = none
first_answers room place seen channel flags (Some user) acts none = by_test (seen user)
  where
    line : Act
    line = user_line place (Some channel.name) (mark_of flags) user

    by_test : (b : Bool) → effects_among (cons_option (cond b (Some line) None) acts) ≡ []
    by_test true = none
    by_test false = none

members_answer : (room : Room) (place : Place) (seen : User → Bool)
    (channel : Channel) (members : List (List ℕ × Flags))
    → effects_among (filter_map (member_line room place seen channel) members) ≡ []
members_answer room place seen channel [] = refl
members_answer room place seen channel (member ∷ members) =
    first_answers room place seen channel member.1 (row room.users member.0)
    (filter_map (member_line room place seen channel) members)
    (members_answer room place seen channel members)

channel_answers : (room : Room) (place : Place) (seen : User → Bool) (me : User)
    (found : Option Channel)
    → effects_among (replies_of_members room place seen me found) ≡ []
channel_answers room place seen me None = refl
channel_answers room place seen me (Some channel) =
    either (is_known me channel)
    (filter_map (member_line room place seen channel) (entries channel.members)) []
    (members_answer room place seen channel (entries channel.members)) refl

told_answers : (room : Room) (place : Place) (me : User) (asked : List ℕ)
    → effects_among (who_replies room place me asked) ≡ []
told_answers room place me asked =
    let seen = λ (user : User). is_seen room me user in
    either (names_channel asked)
    (replies_of_members room place seen me (row room.channels (key asked)))
    (replies_of_users place seen asked (values room.users))
    (channel_answers room place seen me (row room.channels (key asked)))
    (users_answer place (filter (λ user. is_asked_for asked user && seen user) (values room.users)))

pub who_only_answers : WhoOnlyAnswers
unfolding who_steps
who_only_answers room place me [] =
    none-both (who_replies room place me (codes "0")) (end_of_who (asterisk ∷ []) ∷ [])
    (told_answers room place me (codes "0")) refl
who_only_answers room place me (asked ∷ more) =
    none-both (cond (asks_for_operators more) [] (who_replies room place me asked))
    (end_of_who asked ∷ [])
    (either (asks_for_operators more) [] (who_replies room place me asked) refl
    (told_answers room place me asked)) refl

module _ (room other : Room) (alike : AreAlike room other) where
  seen_alike : (me user : User) → is_seen room me user ≡ is_seen other me user
  seen_alike me user =
      own_alike (λ own. is_seen_from own me user)
      (λ own. ap (λ b. same me.nick user.nick || (not user.invisible || b))
      (any_changed uninviting (has_member (key user.nick)) (λ channel. refl) own))
      room other alike me

  members_by_users : (place : Place) (seen : User → Bool) (me : User) (found : Option Channel)
      → replies_of_members room place seen me found ≡ replies_of_members other place seen me found
  members_by_users place seen me None = refl
  members_by_users place seen me (Some channel) =
      ap (λ (users : Table User). cond (is_known me channel)
      (filter_map (λ member. option_and_then (member_if_seen place seen channel member.1)
      (row users member.0)) (entries channel.members)) []) alike.users

  members_aside : (place : Place) (seen : User → Bool) (me : User) (found : Option Channel)
      → replies_of_members other place seen me found ≡ replies_of_members other place seen me
      (option_map uninviting found)
  members_aside place seen me None = refl
  members_aside place seen me (Some channel) = refl

  members_alike : (place : Place) (seen : User → Bool) (me : User) (fold : List ℕ)
      → replies_of_members room place seen me (row room.channels fold)
      ≡ replies_of_members other place seen me (row other.channels fold)
  members_alike place seen me fold =
      members_by_users place seen me (row room.channels fold)
      ∙ members_aside place seen me (row room.channels fold)
      ∙ ap (replies_of_members other place seen me) (alike.channels fold)
      ∙ sym (members_aside place seen me (row other.channels fold))

  who_told_alike : (place : Place) (me : User) (asked : List ℕ)
      → who_replies room place me asked ≡ who_replies other place me asked
  who_told_alike place me asked =
      ap (λ (seen : User → Bool). replies_of_seen room place seen me asked)
      (fun_ext (seen_alike me))
      ∙ ap (λ acts. cond (names_channel asked) acts
      (replies_of_users place (λ user. is_seen other me user) asked (values room.users)))
      (members_alike place (λ user. is_seen other me user) me (key asked))
      ∙ ap (λ users. cond (names_channel asked) (replies_of_members other place
      (λ user. is_seen other me user) me (row other.channels (key asked)))
      (replies_of_users place (λ user. is_seen other me user) asked (values users))) alike.users

  who_alike : (place : Place) (me : User) (params : List (List ℕ))
      → who_steps room place me params ≡ who_steps other place me params
  unfolding who_steps
  who_alike place me [] =
      ap (λ acts. acts ++ end_of_who (asterisk ∷ []) ∷ []) (who_told_alike place me (codes "0"))
  who_alike place me (asked ∷ more) =
      ap (λ acts. cond (asks_for_operators more) [] acts ++ end_of_who asked ∷ [])
      (who_told_alike place me asked)

pub who_only_asks : (place : Place) (params : List (List ℕ))
    → OnlyAsks (λ me room. who_steps room place me params)
who_only_asks place params = record {
  answers = λ me room. who_only_answers room place me params;
  alike = λ me room other alike. who_alike room other alike place me params;
}
