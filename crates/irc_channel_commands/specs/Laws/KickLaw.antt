-- The steps of a KICK are its user's own, so they can be done and each does something; what they
-- carry can be sent; and they look at no invitation.
use Rattle.std.proofs.Common.{◌≡◌, ℕ, true, Option, Some, None, List, refl, inl}
use Rattle.std.specs.Option.{option_map}
use Rattle.std.specs.List.{AllByRecursion}
use Rattle.irc_names.specs.Fold.{key}
use Rattle.irc_names.specs.Tables.{row, Table}
use Rattle.irc_line.specs.Carried.{IsCarried}
use Rattle.irc_users.specs.declared.user.User.{User}
use Rattle.irc_channels.specs.declared.channel.Channel.{Channel}
use Rattle.irc_channels.specs.Channels.{has_member}
use Rattle.irc_numerics.specs.declared.replies.Reply.{Reply}
use Rattle.irc_room.specs.effect.Effect.{Effect}
use Rattle.irc_room.specs.effect.Effect.TheVariants.{Kick}
use Rattle.irc_room.specs.Room.{Room, IsWellFormed}
use Rattle.irc_room.specs.InTurn.{EachInTurn}
use Rattle.irc_room.specs.Effects.{has_user}
use Rattle.irc_room.specs.Limits.{IsWithinLimits}
use Rattle.irc_acts.specs.declared.act.Act.{Act}
use Rattle.irc_acts.specs.Acts.{effects_among}
use Rattle.irc_acts.specs.AheadLaws.{each-in_turn}
use Rattle.irc_acts.specs.ByTest.{by_test}
use Rattle.irc_acts.specs.CommaLists.{entries}
use Rattle.irc_acts.specs.Own.{IsOwn, AreOwn}
use Rattle.irc_acts.specs.Refusing.{first_refusal, unless_refused}
use Rattle.irc_acts.specs.Words.{reason_given}
use Rattle.irc_acts.specs.AlikeChannels.{row_alike}
use Rattle.irc_acts.specs.Doing.{AreDoing}
use Rattle.irc_acts.specs.DoingLaws.{own_are_doing}
use Rattle.irc_acts.specs.OtherInvitations.{uninviting, AreAlike}
use Rattle.irc_acts.specs.OtherInvitationsLaws.{IsKeeping, in_turn_alike, kick_keeps_alike}
use Rattle.irc_acts.specs.OwnLaws.{own_are_possible}
use Rattle.irc_acts.specs.Possible.{ArePossible}
use Rattle.irc_acts.specs.CarriedWords.{reason_carried}
use Rattle.irc_acts.specs.Sendable.{AreSendable, CarriesSendable, CarrySendable}
use Rattle.irc_acts.specs.SendableLaws.{nick_stored, own_are_sendable}
use Rattle.irc_acts.specs.Own as own
use Rattle.irc_channel_commands.specs.Kick.{Kicking, kicks_asked, member_named, kick_refusals}
use Rattle.irc_channel_commands.specs.Kick.{kicks, kicks_found, kick_one, kick_all, kick_steps}
use Rattle.irc_channel_commands.specs.Laws.Lawful.{IsLawful, own_nick}

abbrev pub KickIsOwn : Type 0
KickIsOwn = (me : User) (room : Room) (channels nicks : List ℕ) (more : List (List ℕ))
    → AreOwn me room (kick_steps room me channels nicks more)

-- ---- what is so of each Kick of a member is so of each effect of a KICK of one nickname

-- the channel was found under the name, and the member under the nickname
pub record IsSoOfKicks (Q : Room → Effect → Type 0) (me : User) (text : List ℕ) (room : Room)
    (asked : Kicking) : Type 0 where
  pub kicks_it : (channel : Channel) (other : User) → row room.channels (key asked.channel)
      ≡ Some channel → has_member (key asked.nick) channel ≡ true → row room.users (key asked.nick)
      ≡ Some other → Q room (Kick me.nick channel.name other.nick text)

-- steps that are so, are so unless they are refused
pub refused_so : (Q : Room → Effect → Type 0) (room : Room) (refusal : Option Reply)
    (steps : List Act) → EachInTurn Q room (effects_among steps)
    → EachInTurn Q room (effects_among (unless_refused refusal steps))
refused_so Q room None steps so = so
refused_so Q room (Some reply) steps so = tt

module _ (Q : Room → Effect → Type 0) (me : User) (text : List ℕ) (room : Room) (asked : Kicking)
    (so : IsSoOfKicks Q me text room asked) where
  user_so : (channel : Channel) → row room.channels (key asked.channel) ≡ Some channel
      → has_member (key asked.nick) channel ≡ true
      → (found : Option User) → row room.users (key asked.nick) ≡ found
      → EachInTurn Q room (effects_among (kicks me text channel.name asked.nick found))
  user_so channel is member None known = tt
  user_so channel is member (Some other) known =
      record { now = so.kicks_it channel other is member known; later = tt }

  member_so : (channel : Channel) → row room.channels (key asked.channel) ≡ Some channel
      → EachInTurn Q room (effects_among
      (kicks me text channel.name asked.nick (member_named room.users channel asked.nick)))
  member_so channel is =
      by_test (λ (found : Option User). EachInTurn Q room (effects_among
      (kicks me text channel.name asked.nick found))) (has_member (key asked.nick) channel)
      (row room.users (key asked.nick)) None (λ member. user_so channel is member
      (row room.users (key asked.nick)) refl) (λ outside. tt)

  found_so : (found : Option Channel) → row room.channels (key asked.channel) ≡ found
      → EachInTurn Q room (effects_among (kicks_found room.users me text asked found))
  found_so None is = tt
  found_so (Some channel) is =
      refused_so Q room
      (first_refusal (kick_refusals channel.name (row channel.members (key me.nick))))
      (kicks me text channel.name asked.nick (member_named room.users channel asked.nick))
      (member_so channel is)

  pub one_so : EachInTurn Q room (effects_among (kick_one me text room asked))
  one_so = found_so (row room.channels (key asked.channel)) refl

all_so : (Q : Room → Effect → Type 0) (me : User) (text : List ℕ)
    → ((room : Room) (asked : Kicking) → IsSoOfKicks Q me text room asked)
    → (room : Room) (asked : Option (List Kicking))
    → EachInTurn Q room (effects_among (kick_all me text room asked))
all_so Q me text so room None = tt
all_so Q me text so room (Some asked) = each-in_turn Q (kick_one me text)
    (λ now one. one_so Q me text now one (so now one)) room asked

pub kick_is_own : KickIsOwn
unfolding kick_steps
kick_is_own me room channels nicks more =
    all_so (IsOwn me) me (reason_given more me.nick) (λ now asked. record {
      kicks_it = λ channel other is member known.
          own.kicks asked.channel asked.nick _ channel other is member known;
    }) room (kicks_asked (entries channels) (entries nicks))

-- A user's KICK can be done, effect by effect.
abbrev pub KickIsPossible : Type 0
KickIsPossible = (me : User) (room : Room) (channels nicks : List ℕ) (more : List (List ℕ))
    → IsWellFormed room → has_user room me.nick ≡ true
    → ArePossible room (kick_steps room me channels nicks more)

-- Each of its effects does something: whoever is kicked is a member then.
abbrev pub KickDoes : Type 0
KickDoes = (me : User) (room : Room) (channels nicks : List ℕ) (more : List (List ℕ))
    → IsWellFormed room → has_user room me.nick ≡ true
    → AreDoing room (kick_steps room me channels nicks more)

-- Whoever is invited, its steps are the same.
abbrev pub KickLooksAtNoInvitation : Type 0
KickLooksAtNoInvitation = (me : User) (room other : Room) (channels nicks : List ℕ)
    (more : List (List ℕ)) → AreAlike room other
    → kick_steps room me channels nicks more ≡ kick_steps other me channels nicks more

pub kick_is_possible : KickIsPossible
kick_is_possible me room channels nicks more well there =
    own_are_possible me room (kick_steps room me channels nicks more) well there
    (kick_is_own me room channels nicks more)

pub kick_does : KickDoes
kick_does me room channels nicks more well there =
    own_are_doing me room (kick_steps room me channels nicks more) well there
    (kick_is_own me room channels nicks more)

-- ---- it looks at no invitation

found_aside : (me : User) (text : List ℕ) (asked : Kicking) (users : Table User)
    (found : Option Channel) → kicks_found users me text asked found
    ≡ kicks_found users me text asked (option_map uninviting found)
found_aside me text asked users None = refl
found_aside me text asked users (Some channel) = refl

one_alike : (me : User) (text : List ℕ) (room other : Room) (asked : Kicking) → AreAlike room other
    → kick_one me text room asked ≡ kick_one me text other asked
one_alike me text room other asked alike =
    row_alike (λ users. kicks_found users me text asked)
    (found_aside me text asked) room other alike (key asked.channel)

one_keeps : (me : User) (text : List ℕ) (room : Room) (asked : Kicking)
    → EachInTurn (IsKeeping AreAlike) room (effects_among (kick_one me text room asked))
one_keeps me text room asked = one_so (IsKeeping AreAlike) me text room asked (record {
  kicks_it = λ channel other is member known. kick_keeps_alike me.nick channel.name other.nick text;
})

all_alike : (me : User) (text : List ℕ) (room other : Room) → AreAlike room other
    → (asked : Option (List Kicking)) → kick_all me text room asked ≡ kick_all me text other asked
all_alike me text room other alike None = refl
all_alike me text room other alike (Some asked) = in_turn_alike AreAlike (kick_one me text)
    (one_alike me text) (one_keeps me text) room other alike asked

pub kick_looks_at_no_invitation : KickLooksAtNoInvitation
unfolding kick_steps
kick_looks_at_no_invitation me room other channels nicks more alike =
    all_alike me (reason_given more me.nick) room other alike
    (kicks_asked (entries channels) (entries nicks))

-- of a user that is there, in a room within limits, where a line can carry its words
abbrev pub KickIsSendable : Type 0
KickIsSendable =
    (me : User) (room : Room) (channels nicks : List ℕ) (more : List (List ℕ)) → IsWellFormed room
    → IsWithinLimits room → row room.users (key me.nick) ≡ Some me
    → AllByRecursion IsCarried more → AreSendable room (kick_steps room me channels nicks more)

pub kick_carries : (me : User) (room : Room) (channels nicks : List ℕ) (more : List (List ℕ))
    → IsCarried me.nick → AllByRecursion IsCarried more
    → CarrySendable room (kick_steps room me channels nicks more)
unfolding kick_steps
kick_carries me room channels nicks more nick carried =
    let within = reason_carried more me.nick carried nick in
    all_so CarriesSendable me (reason_given more me.nick)
    (λ now asked. record { kicks_it = λ channel other is member known. within }) room
    (kicks_asked (entries channels) (entries nicks))

pub kick_is_sendable : KickIsSendable
kick_is_sendable me room channels nicks more well within mine carried =
    own_are_sendable me room (kick_steps room me channels nicks more) well
    (nick_stored room well (key me.nick) me mine)
    (kick_is_own me room channels nicks more)
    (kick_carries me room channels nicks more (own_nick me room within mine) carried)

pub kick_is_lawful : (channels nicks : List ℕ) (more : List (List ℕ))
    → IsLawful more (λ me room. kick_steps room me channels nicks more)
kick_is_lawful channels nicks more = record {
  own = λ me room. inl (kick_is_own me room channels nicks more);
  carries = λ me room well within mine.
      kick_carries me room channels nicks more (own_nick me room within mine);
  alike = λ me room other so.
      kick_looks_at_no_invitation me room other channels nicks more so.alike;
}
