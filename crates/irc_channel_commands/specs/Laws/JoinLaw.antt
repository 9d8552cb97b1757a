-- The steps of a JOIN are its user's own, or leave all its channels; each does something; what they
-- carry can be sent, names and the user's nickname; and of invitations they look at the user's own.
use Rattle.std.proofs.Common.{◌≡◌, ℕ, Bool, true, false, List, map, refl, sym, ◌∙◌, ap}
use Rattle.std.proofs.Common.{if◌then◌else◌, ◌⊎◌, inl, inr, cond, not, ◌&&◌, Option, Some, None, []}
use Rattle.std.proofs.Common.{◌∷◌, ◌++◌, length, nat_le, subst}
use Rattle.std.specs.Option.{option_map_or, option_map}
use Rattle.std.proofs.lemmas.List.{length-map}
use Rattle.irc_names.specs.Fold.{key}
use Rattle.irc_names.specs.Names.{is_channel}
use Rattle.irc_names.specs.Tables.{row}
use Rattle.irc_line.specs.Carried.{IsCarried}
use Rattle.irc_users.specs.declared.user.User.{User}
use Rattle.irc_channels.specs.Channels.{has_member, is_invited}
use Rattle.irc_channels.specs.declared.channel.Channel.{Channel}
use Rattle.irc_channels.specs.Texts.{cut_words}
use Rattle.irc_numerics.specs.declared.replies.Reply.TheVariants.{NoSuchChannel, TooManyChannels}
use Rattle.irc_numerics.specs.declared.replies.Reply.TheVariants.{InviteOnlyChan, BannedFromChan}
use Rattle.irc_numerics.specs.declared.replies.Reply.TheVariants.{BadChannelKey, ChannelIsFull}
use Rattle.irc_room.specs.Room.{Room, IsWellFormed}
use Rattle.irc_room.specs.effect.Effect.TheVariants.{Join, Part}
use Rattle.irc_room.specs.Effects.{has_user}
use Rattle.irc_room.specs.InTurn.{EachInTurn}
use Rattle.irc_room.specs.After.{after}
use Rattle.irc_acts.specs.declared.act.Act.{Act}
use Rattle.irc_acts.specs.Ahead.{in_turn}
use Rattle.irc_acts.specs.AheadLaws.{each-in_turn}
use Rattle.irc_acts.specs.Moves.{own_channels}
use Rattle.irc_acts.specs.Own.{IsOwn, AreOwn}
use Rattle.irc_acts.specs.declared.act.Act.TheVariants.{Answer, Do}
use Rattle.irc_acts.specs.Acts.{client_words, effects_among}
use Rattle.irc_acts.specs.AlikeChannels.{own_alike}
use Rattle.irc_acts.specs.AlikeRows.{map_changed}
use Rattle.irc_acts.specs.Doing.{AreDoing}
use Rattle.irc_acts.specs.DoingLaws.{own_are_doing}
use Rattle.irc_acts.specs.OtherInvitations.{uninviting, AreAlikeFor}
use Rattle.irc_acts.specs.OtherInvitationsLaws.{IsKeeping, in_turn_alike, joined_aside}
use Rattle.irc_acts.specs.OtherInvitationsLaws.{member_alike, join_keeps_alike}
use Rattle.irc_acts.specs.Standing.{is_banned}
use Rattle.irc_acts.specs.Names.{names_of, end_of_names}
use Rattle.irc_acts.specs.ByTest.{by_test}
use Rattle.irc_acts.specs.CarriedWords.{cut_carried}
use Rattle.irc_acts.specs.Sendable.{CarriesSendable, CarrySendable}
use Rattle.irc_acts.specs.Own as own
use Rattle.irc_channel_commands.specs.Join.{JoinEntry, asked_for, is_zero, join_one, join_steps}
use Rattle.irc_channel_commands.specs.Join.{leaves, opens, is_full, kept_out, topic_for_joiner}
use Rattle.irc_channel_commands.specs.Join.{joins, admitted, joins_found, joins_asked}
use Rattle.irc_channel_commands.specs.Laws.JoinWalk.{one_so, found_by_users}
use Rattle.irc_channel_commands.specs.Laws.JoinZero.{leaving_own}
use Rattle.irc_channel_commands.specs.Limits.{max_joined}
use Rattle.irc_channel_commands.specs.Laws.Lawful.{IsLawful, own_nick}

-- The steps of a JOIN are its user's own in any room, or they leave all the channels that the user
-- is in.
abbrev pub JoinIsOwnOrLeaves : Type 0
JoinIsOwnOrLeaves = (me : User) (room : Room) (list keys : List ℕ)
    → AreOwn me room (join_steps room me list keys)
    ⊎ (join_steps room me list keys ≡ map (leaves me) (own_channels room me))

-- To leave all channels is its user's own doing too, where the room is well formed.
abbrev pub LeavingAllIsOwn : Type 0
LeavingAllIsOwn = (me : User) (room : Room) → IsWellFormed room
    → AreOwn me room (map (leaves me) (own_channels room me))

one_own : (me : User) (room : Room) (asked : JoinEntry) → AreOwn me room (join_one me room asked)
one_own me room asked =
    one_so (IsOwn me) me room asked (record {
      makes = λ outside named none. own.makes asked.channel named none;
      enters = λ outside channel is.
          own.enters asked.channel channel is (sym
          (ap (λ found. option_map_or (has_member (key me.nick)) found false) is) ∙ outside);
    })

own_or_leaves : (me : User) (room : Room) (asked : List JoinEntry) (zero : Bool)
    → let acts : List Act =
    if zero then map (leaves me) (own_channels room me) else in_turn (join_one me) room asked in
    AreOwn me room acts ⊎ (acts ≡ map (leaves me) (own_channels room me))
own_or_leaves me room asked true = inr refl
own_or_leaves me room asked false =
    inl (each-in_turn (IsOwn me) (join_one me) (one_own me) room asked)

pub join_is_own_or_leaves : JoinIsOwnOrLeaves
unfolding join_steps
join_is_own_or_leaves me room list keys = own_or_leaves me room (asked_for list keys) (is_zero list)

pub leaving_all_is_own : LeavingAllIsOwn
leaving_all_is_own me room well = leaving_own room me well

-- Each effect of a JOIN does something: the user is no member yet of what it joins, and a member of
-- what it leaves.
abbrev pub JoinDoes : Type 0
JoinDoes = (me : User) (room : Room) (list keys : List ℕ) → IsWellFormed room
    → has_user room me.nick ≡ true
    → AreDoing room (join_steps room me list keys)

-- Whoever else is invited, its steps are the same.
abbrev pub JoinLooksAtOwnInvitations : Type 0
JoinLooksAtOwnInvitations = (me : User) (room other : Room) (list keys : List ℕ)
    → AreAlikeFor me.nick room other
    → join_steps room me list keys ≡ join_steps other me list keys

either_does : (me : User) (room : Room) (acts : List Act)
    → IsWellFormed room → has_user room me.nick ≡ true
    → AreOwn me room acts ⊎ (acts ≡ map (leaves me) (own_channels room me)) → AreDoing room acts
either_does me room acts well there (inl own) = own_are_doing me room acts well there own
either_does me room acts well there (inr all) =
    own_are_doing me room acts well there
    (subst (AreOwn me room) (sym all) (leaving_all_is_own me room well))

pub join_does : JoinDoes
join_does me room list keys well there = either_does me room
    (join_steps room me list keys) well there (join_is_own_or_leaves me room list keys)

-- ---- it looks at its own user's invitations alone

-- what a joiner is told is the same, whoever is invited
joins_aside : (room : Room) (me : User) (name : List ℕ) (op : Bool) (channel : Channel)
    → joins room me name op channel ≡ joins room me name op (uninviting channel)
joins_aside room me name op channel =
    ap (λ (now : Channel).
    Do (Join me.nick channel.name op) ∷ topic_for_joiner now.name now.topic
    ++ names_of room.users me now ++ end_of_names name ∷ [])
    (joined_aside (key me.nick) op channel)

admitted_aside : (room : Room) (me : User) (name : List ℕ)
    (channel : Channel) (refusal : Option Act)
    → admitted room me name channel refusal ≡ admitted room me name (uninviting channel) refusal
admitted_aside room me name channel None = joins_aside room me name false channel
admitted_aside room me name channel (Some refusal) = refl

-- why a user is kept out, by whether it is invited
abbrev kept_out_by : User → List ℕ → Channel → Bool → Option Act
kept_out_by me given channel invited =
    if channel.modes.invite_only && not invited then Some (Answer (InviteOnlyChan channel.name))
    else (if is_banned me channel then Some (Answer (BannedFromChan channel.name))
    else (if not (opens channel.modes.key given) then Some (Answer (BadChannelKey channel.name))
    else (if is_full channel.modes.limit channel then Some (Answer (ChannelIsFull channel.name))
    else None)))

full_aside : (limit : Option ℕ) (channel : Channel)
    → is_full limit channel ≡ is_full limit (uninviting channel)
full_aside None channel = refl
full_aside (Some limit) channel = refl

kept_out_aside : (me : User) (given : List ℕ) (channel : Channel) → kept_out me given channel
    ≡ kept_out_by me given (uninviting channel) (is_invited (key me.nick) channel)
kept_out_aside me given channel =
    ap (λ full. cond (channel.modes.invite_only && not (is_invited (key me.nick) channel))
    (Some (Answer (InviteOnlyChan channel.name)))
    (cond (is_banned me channel) (Some (Answer (BannedFromChan channel.name)))
    (cond (not (opens channel.modes.key given)) (Some (Answer (BadChannelKey channel.name)))
    (cond full (Some (Answer (ChannelIsFull channel.name))) None))))
    (full_aside channel.modes.limit channel)

found_alike : (room : Room) (me : User) (asked : JoinEntry) (one two : Option Channel)
    → option_map uninviting one ≡ option_map uninviting two → option_map_or
    (is_invited (key me.nick)) one false ≡ option_map_or (is_invited (key me.nick)) two false
    → joins_found room me asked one ≡ joins_found room me asked two
found_alike room me asked None None same invited = refl
found_alike room me asked None (Some two) same invited = cc same
found_alike room me asked (Some one) None same invited = cc same
found_alike room me asked (Some one) (Some two) same invited =
    let alike : uninviting one ≡ uninviting two = cc same in
    admitted_aside room me asked.channel one (kept_out me asked.key one)
    ∙ ap (admitted room me asked.channel (uninviting one)) (kept_out_aside me asked.key one)
    ∙ ap (λ (channel : Channel). admitted room me asked.channel channel
    (kept_out_by me asked.key channel (is_invited (key me.nick) one))) alike
    ∙ ap (λ b. admitted room me asked.channel (uninviting two)
    (kept_out_by me asked.key (uninviting two) b)) invited
    ∙ sym (ap (admitted room me asked.channel (uninviting two)) (kept_out_aside me asked.key two))
    ∙ sym (admitted_aside room me asked.channel two (kept_out me asked.key two))

asked_alike : (room other : Room) (me : User) (asked : JoinEntry) → AreAlikeFor me.nick room other
    → joins_asked room me asked ≡ joins_asked other me asked
asked_alike room other me asked so =
    found_alike room me asked (row room.channels (key asked.channel))
    (row other.channels (key asked.channel)) (so.alike.channels (key asked.channel))
    (so.invited (key asked.channel))
    ∙ found_by_users other room me asked (row other.channels (key asked.channel)) so.alike.users

one_alike : (me : User) (room other : Room) (asked : JoinEntry) → AreAlikeFor me.nick room other
    → join_one me room asked ≡ join_one me other asked
one_alike me room other asked so =
    let member = member_alike room other so.alike (key me.nick) (key asked.channel) in
    let count = own_alike length (λ channels. length-map channels uninviting) room other so.alike
    me in
    let found = asked_alike room other me asked so in
    λ i. if not (is_channel asked.channel)
    then Answer (NoSuchChannel (client_words asked.channel)) ∷ []
    else (if member i then []
    else (if nat_le max_joined (count i) then Answer (TooManyChannels asked.channel) ∷ []
    else found i))

one_keeps : (me : User) (room : Room) (asked : JoinEntry)
    → EachInTurn (IsKeeping (AreAlikeFor me.nick)) room (effects_among (join_one me room asked))
one_keeps me room asked = one_so (IsKeeping (AreAlikeFor me.nick)) me room asked (record {
  makes = λ outside named none. join_keeps_alike me.nick asked.channel true;
  enters = λ outside channel is. join_keeps_alike me.nick channel.name false;
})

pub join_looks_at_own_invitations : JoinLooksAtOwnInvitations
unfolding join_steps
join_looks_at_own_invitations me room other list keys so =
    let asked = asked_for list keys in
    ap (λ acts. cond (is_zero list) acts (in_turn (join_one me) room asked))
    (own_alike (map (leaves me))
    (map_changed uninviting (leaves me) (λ channel. refl)) room other so.alike me)
    ∙ ap (cond (is_zero list) (map (leaves me) (own_channels other me)))
    (in_turn_alike (AreAlikeFor me.nick) (join_one me) (one_alike me)
    (one_keeps me) room other so asked)

pub leaving_carries : (me : User) → IsCarried me.nick → (room : Room) (channels : List Channel)
    → CarrySendable room (map (leaves me) channels)
leaving_carries me nick room [] = tt
leaving_carries me nick room (channel ∷ channels) = record {
  now = cut_carried me.nick nick;
  later =
      leaving_carries me nick (after room (Part me.nick channel.name (cut_words me.nick))) channels;
}

pub join_carries : (me : User) (room : Room) (list keys : List ℕ) → IsCarried me.nick
    → CarrySendable room (join_steps room me list keys)
unfolding join_steps
join_carries me room list keys nick =
    by_test (λ (acts : List Act). CarrySendable room acts) (is_zero list)
    (map (leaves me) (own_channels room me))
    (in_turn (join_one me) room (asked_for list keys))
    (λ zero. leaving_carries me nick room (own_channels room me))
    (λ other. each-in_turn CarriesSendable (join_one me)
    (λ now asked. one_so CarriesSendable me now asked
    (record { makes = λ outside named none. tt; enters = λ outside channel is. tt })) room
    (asked_for list keys))

pub join_is_lawful : {given : List (List ℕ)} (list keys : List ℕ)
    → IsLawful given (λ me room. join_steps room me list keys)
join_is_lawful list keys = record {
  own = λ me room. join_is_own_or_leaves me room list keys;
  carries = λ me room well within mine carried.
      join_carries me room list keys (own_nick me room within mine);
  alike = λ me room other. join_looks_at_own_invitations me room other list keys;
}
