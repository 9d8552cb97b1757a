-- A MODE looks at no invitations.
use Rattle.std.proofs.Common.{◌≡◌, ℕ, Bool, cond, ◌++◌, Option, Some, None, List, [], ◌∷◌, refl}
use Rattle.std.proofs.Common.{sym, ◌∙◌, ap, option_map}
use Rattle.std.specs.List.{flat_map}
use Rattle.irc_names.specs.Fold.{key}
use Rattle.irc_names.specs.Tables.{Table, row}
use Rattle.irc_users.specs.declared.user.User.{User}
use Rattle.irc_channels.specs.declared.channel.Channel.{Channel}
use Rattle.irc_modes.specs.declared.modes.ModeChange.{ModeChange}
use Rattle.irc_modes.specs.declared.modes.ModeLetter.{ModeLetter}
use Rattle.irc_modes.specs.declared.modes.ModeLetter.TheVariants as letter
use Rattle.irc_channels.specs.Channels.{letter_changed, changed, all_changed}
use Rattle.irc_modes.specs.ModeWords.{Asked, change, list, no_word, unknown, modes_read}
use Rattle.irc_numerics.specs.declared.replies.Reply.TheVariants.{ChanOPrivsNeeded}
use Rattle.irc_room.specs.Room.{Room}
use Rattle.irc_acts.specs.declared.act.Act.TheVariants.{Answer}
use Rattle.irc_acts.specs.OtherInvitations.{uninviting, AreAlike}
use Rattle.irc_acts.specs.Standing.{is_operator}
use Rattle.irc_channel_commands.specs.Judging.{judge}
use Rattle.irc_channel_commands.specs.UserMode.{user_mode}
use Rattle.irc_channel_commands.specs.ChannelMode.{ModeOutcome, outcome_of, letter_replies}
use Rattle.irc_channel_commands.specs.ChannelMode.{one_served, served, denied, in_one, asked_of}
use Rattle.irc_channel_commands.specs.ChannelMode.{channel_mode}
use Rattle.irc_acts.specs.Words.{names_channel}
use Rattle.irc_channel_commands.specs.Mode.{mode_steps}

-- In rooms that differ in invitations alone a MODE does the same.
abbrev pub ModeLooksAtNoInvitations : Type 0
ModeLooksAtNoInvitations = (me : User) (room other : Room) (target : List ℕ) (more : List (List ℕ))
    → AreAlike room other
    → mode_steps room me target more ≡ mode_steps other me target more

letter_aside : (plus : Bool) (which : ModeLetter) (word : Option (List ℕ)) (now : Channel)
    → letter_changed plus which word (uninviting now) ≡ uninviting
    (letter_changed plus which word now)
letter_aside plus letter.InviteOnly word now = refl
letter_aside plus letter.Moderated word now = refl
letter_aside plus letter.NoOutside word now = refl
letter_aside plus letter.TopicLocked word now = refl
letter_aside plus letter.Private word now = refl
letter_aside plus letter.Secret word now = refl
letter_aside plus letter.Key word now = refl
letter_aside plus letter.Limit word now = refl
letter_aside plus letter.Ban word now = refl
letter_aside plus letter.Operator None now = refl
letter_aside plus letter.Operator (Some word) now = refl
letter_aside plus letter.Voice None now = refl
letter_aside plus letter.Voice (Some word) now = refl

changed_aside : (changes : List ModeChange) (now : Channel)
    → all_changed changes (uninviting now) ≡ uninviting (all_changed changes now)
changed_aside [] now = refl
changed_aside (first ∷ changes) now =
    ap (all_changed changes) (letter_aside first.plus first.letter first.word now)
    ∙ changed_aside changes (changed first now)

judged_aside : (users : Table User) (now : Channel)
    (plus : Bool) (which : ModeLetter) (word : Option (List ℕ))
    → judge users (uninviting now) plus which word ≡ judge users now plus which word
judged_aside users now plus letter.InviteOnly word = refl
judged_aside users now plus letter.Moderated word = refl
judged_aside users now plus letter.NoOutside word = refl
judged_aside users now plus letter.TopicLocked word = refl
judged_aside users now plus letter.Private word = refl
judged_aside users now plus letter.Secret word = refl
judged_aside users now plus letter.Key word = refl
judged_aside users now plus letter.Limit word = refl
judged_aside users now plus letter.Ban word = refl
judged_aside users now plus letter.Operator None = refl
judged_aside users now plus letter.Operator (Some word) = refl
judged_aside users now plus letter.Voice None = refl
judged_aside users now plus letter.Voice (Some word) = refl

told_aside : (start : Channel) (item : Asked)
    → letter_replies (uninviting start) item ≡ letter_replies start item
told_aside start list = refl
told_aside start no_word = refl
told_aside start (unknown byte) = refl
told_aside start (change plus which word) = refl

one_aside : (users : Table User) (start now : Channel) (item : Asked)
    → one_served users (uninviting start) (uninviting now) item ≡ one_served users start now item
one_aside users start now (change plus which word) =
    ap outcome_of (judged_aside users now plus which word)
one_aside users start now list = refl
one_aside users start now no_word = refl
one_aside users start now (unknown byte) = refl

abbrev both_outcomes : ModeOutcome → ModeOutcome → ModeOutcome
both_outcomes first rest =
    record { replies = first.replies ++ rest.replies; changes = first.changes ++ rest.changes }

served_aside : (users : Table User) (start now : Channel) (items : List Asked)
    → served users (uninviting start) (uninviting now) items ≡ served users start now items
served_aside users start now [] = refl
served_aside users start now (item ∷ items) =
    let first = one_served users start now item in
    ap (λ (o : ModeOutcome). both_outcomes o (served users (uninviting start)
    (all_changed o.changes (uninviting now)) items)) (one_aside users start now item)
    ∙ ap (λ (c : Channel). both_outcomes first (served users (uninviting start) c items))
    (changed_aside first.changes now)
    ∙ ap (both_outcomes first) (served_aside users start (all_changed first.changes now) items)

flat_aside : (start : Channel) (items : List Asked)
    → flat_map (letter_replies (uninviting start)) items ≡ flat_map (letter_replies start) items
flat_aside start [] = refl
flat_aside start (item ∷ items) =
    ap (λ acts. acts ++ flat_map (letter_replies (uninviting start)) items) (told_aside start item)
    ∙ ap (λ acts. letter_replies start item ++ acts) (flat_aside start items)

denied_aside : (start : Channel) (items : List Asked)
    → denied (uninviting start) items ≡ denied start items
denied_aside start [] = refl
denied_aside start (change plus which word ∷ items) =
    ap (λ acts. Answer (ChanOPrivsNeeded start.name) ∷ acts) (flat_aside start items)
denied_aside start (list ∷ items) =
    ap (λ acts. letter_replies start list ++ acts) (denied_aside start items)
denied_aside start (no_word ∷ items) =
    ap (λ acts. letter_replies start no_word ++ acts) (denied_aside start items)
denied_aside start (unknown byte ∷ items) =
    ap (λ acts. letter_replies start (unknown byte) ++ acts) (denied_aside start items)

asked_aside : (users : Table User) (me : User) (channel : Channel) (items : List Asked)
    → asked_of users me (uninviting channel) items ≡ asked_of users me channel items
asked_aside users me channel items =
    ap (λ o.
    cond (is_operator (row channel.members (key me.nick))) (in_one me channel o)
    (denied (uninviting channel) items))
    (served_aside users channel channel items)
    ∙ ap (cond (is_operator (row channel.members (key me.nick)))
    (in_one me channel (served users channel channel items))) (denied_aside channel items)

channel_aside : (users : Table User) (me : User) (name : List ℕ) (more : List (List ℕ))
    (found : Option Channel) → channel_mode users me name more (option_map uninviting found)
    ≡ channel_mode users me name more found
unfolding channel_mode
channel_aside users me name more None = refl
channel_aside users me name [] (Some channel) = refl
channel_aside users me name (letters ∷ words) (Some channel) =
    asked_aside users me channel (modes_read (letters ∷ words))

pub mode_looks_at_no_invitations : ModeLooksAtNoInvitations
unfolding mode_steps
mode_looks_at_no_invitations me room other target more alike =
    ap (λ acts. cond (names_channel target) acts (user_mode me target more))
    (sym (channel_aside room.users me target more (row room.channels (key target)))
    ∙ ap (channel_mode room.users me target more) (alike.channels (key target))
    ∙ channel_aside room.users me target more (row other.channels (key target))
    ∙ ap (λ users. channel_mode users me target more (row other.channels (key target))) alike.users)
