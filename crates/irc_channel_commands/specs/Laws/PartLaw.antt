-- The steps of a PART are its user's own, so each does something; what they carry can be sent; and
-- they look at no invitation.
use Rattle.std.proofs.Common.{◌≡◌, ℕ, true, Option, Some, None, List, [], ◌∷◌, refl, inl}
use Rattle.std.specs.Option.{option_map}
use Rattle.std.specs.List.{AllByRecursion}
use Rattle.irc_names.specs.Fold.{key}
use Rattle.irc_names.specs.Tables.{row, Table}
use Rattle.irc_line.specs.Carried.{IsCarried}
use Rattle.irc_users.specs.declared.user.User.{User}
use Rattle.irc_channels.specs.declared.channel.Channel.{Channel}
use Rattle.irc_channels.specs.Channels.{has_member}
use Rattle.irc_numerics.specs.declared.replies.Reply.TheVariants.{NotOnChannel}
use Rattle.irc_room.specs.effect.Effect.{Effect}
use Rattle.irc_room.specs.effect.Effect.TheVariants.{Part}
use Rattle.irc_room.specs.Room.{Room, IsWellFormed}
use Rattle.irc_room.specs.InTurn.{EachInTurn}
use Rattle.irc_room.specs.Effects.{has_user}
use Rattle.irc_acts.specs.declared.act.Act.{Act}
use Rattle.irc_acts.specs.declared.act.Act.TheVariants.{Answer, Do}
use Rattle.irc_acts.specs.Acts.{effects_among}
use Rattle.irc_acts.specs.AheadLaws.{each-in_turn}
use Rattle.irc_acts.specs.ByTest.{by_test}
use Rattle.irc_acts.specs.CommaLists.{entries}
use Rattle.irc_acts.specs.Own.{IsOwn, AreOwn}
use Rattle.irc_acts.specs.Words.{reason_given}
use Rattle.irc_acts.specs.AlikeChannels.{row_alike}
use Rattle.irc_acts.specs.Doing.{AreDoing}
use Rattle.irc_acts.specs.DoingLaws.{own_are_doing}
use Rattle.irc_acts.specs.OtherInvitations.{uninviting, AreAlike}
use Rattle.irc_acts.specs.OtherInvitationsLaws.{IsKeeping, in_turn_alike, part_keeps_alike}
use Rattle.irc_acts.specs.CarriedWords.{reason_carried}
use Rattle.irc_acts.specs.Sendable.{CarriesSendable, CarrySendable}
use Rattle.irc_acts.specs.Own as own
use Rattle.irc_channel_commands.specs.Part.{left_by, part_one, part_steps}
use Rattle.irc_channel_commands.specs.Laws.Lawful.{IsLawful, own_nick}

abbrev pub PartIsOwn : Type 0
PartIsOwn = (me : User) (room : Room) (list : List ℕ) (more : List (List ℕ))
    → AreOwn me room (part_steps room me list more)

-- ---- what is so of each Part of a member is so of each effect of a PART of one channel

-- the user is a member of a channel that was found under the name
pub record IsSoOfParts (Q : Room → Effect → Type 0) (me : User) (text : List ℕ) (room : Room)
    (name : List ℕ) : Type 0 where
  pub leaves_it : (channel : Channel) → row room.channels (key name) ≡ Some channel
      → has_member (key me.nick) channel ≡ true → Q room (Part me.nick channel.name text)

pub found_so : (Q : Room → Effect → Type 0) (me : User) (text : List ℕ) (room : Room)
    (name : List ℕ) → IsSoOfParts Q me text room name → (found : Option Channel) → row room.channels
    (key name) ≡ found → EachInTurn Q room (effects_among (left_by me text name found))
found_so Q me text room name so None is = tt
found_so Q me text room name so (Some channel) is =
    by_test (λ (acts : List Act). EachInTurn Q room (effects_among acts))
    (has_member (key me.nick) channel)
    (Do (Part me.nick channel.name text) ∷ []) (Answer (NotOnChannel channel.name) ∷ [])
    (λ member. record { now = so.leaves_it channel is member; later = tt }) (λ outside. tt)

one_own : (me : User) (text : List ℕ) (room : Room) (name : List ℕ)
    → AreOwn me room (part_one me text room name)
one_own me text room name =
    found_so (IsOwn me) me text room name
    (record { leaves_it = λ channel is member. own.parts name text channel is member })
    (row room.channels (key name)) refl

pub part_is_own : PartIsOwn
unfolding part_steps
part_is_own me room list more =
    let text = reason_given more me.nick in
    each-in_turn (IsOwn me) (part_one me text) (one_own me text) room (entries list)

-- Each effect of a PART does something: the user is a member of what it leaves.
abbrev pub PartDoes : Type 0
PartDoes = (me : User) (room : Room) (list : List ℕ) (more : List (List ℕ)) → IsWellFormed room
    → has_user room me.nick ≡ true
    → AreDoing room (part_steps room me list more)

-- Whoever is invited, its steps are the same.
abbrev pub PartLooksAtNoInvitation : Type 0
PartLooksAtNoInvitation = (me : User) (room other : Room) (list : List ℕ) (more : List (List ℕ))
    → AreAlike room other
    → part_steps room me list more ≡ part_steps other me list more

pub part_does : PartDoes
part_does me room list more well there =
    own_are_doing me room (part_steps room me list more) well there (part_is_own me room list more)

left_aside : (me : User) (text name : List ℕ) (users : Table User) (found : Option Channel)
    → left_by me text name found ≡ left_by me text name (option_map uninviting found)
left_aside me text name users None = refl
left_aside me text name users (Some channel) = refl

one_alike : (me : User) (text : List ℕ) (room other : Room) (name : List ℕ) → AreAlike room other
    → part_one me text room name ≡ part_one me text other name
one_alike me text room other name alike =
    row_alike (λ users. left_by me text name) (left_aside me text name) room other alike (key name)

one_keeps : (me : User) (text : List ℕ) (room : Room) (name : List ℕ)
    → EachInTurn (IsKeeping AreAlike) room (effects_among (part_one me text room name))
one_keeps me text room name =
    found_so (IsKeeping AreAlike) me text room name
    (record { leaves_it = λ channel is member. part_keeps_alike me.nick channel.name text })
    (row room.channels (key name)) refl

pub part_looks_at_no_invitation : PartLooksAtNoInvitation
unfolding part_steps
part_looks_at_no_invitation me room other list more alike =
    let text = reason_given more me.nick in
    in_turn_alike AreAlike (part_one me text) (one_alike me text)
    (one_keeps me text) room other alike (entries list)

pub part_carries : (me : User) (room : Room) (list : List ℕ) (more : List (List ℕ))
    → IsCarried me.nick → AllByRecursion IsCarried more
    → CarrySendable room (part_steps room me list more)
unfolding part_steps
part_carries me room list more nick carried =
    let text = reason_given more me.nick in
    let within = reason_carried more me.nick carried nick in
    each-in_turn CarriesSendable (part_one me text)
    (λ now name. found_so CarriesSendable me text now name (record
    { leaves_it = λ channel is member. within }) (row now.channels (key name)) refl) room
    (entries list)

pub part_is_lawful : (list : List ℕ) (more : List (List ℕ))
    → IsLawful more (λ me room. part_steps room me list more)
part_is_lawful list more = record {
  own = λ me room. inl (part_is_own me room list more);
  carries = λ me room well within mine.
      part_carries me room list more (own_nick me room within mine);
  alike = λ me room other so. part_looks_at_no_invitation me room other list more so.alike;
}
