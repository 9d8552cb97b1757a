-- The steps of a MODE are its user's own, and what it changes can be sent: each change has a word
-- of its letter, which a line can carry, and together they keep the limits of one command.
use Rattle.std.proofs.Common.{◌≡◌, ℕ, Bool, true, false, cond, ◌++◌, find, unwrap_or, Option, Some}
use Rattle.std.proofs.Common.{List, [], ◌∷◌, get_or, nat_eq, refl, sym, ◌∙◌, ap, subst, inl}
use Rattle.std.specs.List.{AllByRecursion, list_all}
use Rattle.std.specs.Option.{IfSome}
use Rattle.std.specs.Cmp.{first_so, second_so}
use Rattle.irc_names.specs.Fold.{key, same}
use Rattle.irc_names.specs.Tables.{row}
use Rattle.irc_names.specs.Names.{IsKey}
use Rattle.irc_line.specs.Carried.{is_carried, IsCarried}
use Rattle.irc_users.specs.declared.user.User.{User}
use Rattle.irc_users.specs.declared.user_change.UserChange.TheVariants.{Invisible}
use Rattle.irc_channels.specs.declared.channel.Channel.{Channel}
use Rattle.irc_channels.specs.Channels.{all_changed}
use Rattle.irc_modes.specs.declared.modes.ModeChange.{ModeChange}
use Rattle.irc_modes.specs.declared.modes.ModeLetter.{ModeLetter}
use Rattle.irc_modes.specs.Modes.{is_limit, is_nil}
use Rattle.irc_modes.specs.ModeWords.{Asked, change, list, no_word, unknown, modes_read}
use Rattle.irc_modes.specs.Readable.{is_written_limit, has_its_word, AreSomeAsked}
use Rattle.irc_modes.specs.Lemmas.LimitFacts.{limit-digits}
use Rattle.irc_modes.specs.Lemmas.FewRead.{some_asked_are_readable}
use Rattle.irc_modes.specs.Lemmas.WrittenLimit.{plain_limit}
use Rattle.irc_modes.specs.Readable as some
use Rattle.irc_room.specs.Limits.{IsChannelWithin, IsWithinLimits, IsBanCarried}
use Rattle.irc_room.specs.Room.{Room, IsWellFormed}
use Rattle.irc_room.specs.Sendable.{IsSentChange}
use Rattle.irc_room.specs.Lemmas.ModesWithin.{changes_within}
use Rattle.irc_acts.specs.CarriedWords.{key_carried, digits_carried}
use Rattle.irc_acts.specs.Sendable.{AreSendable, AreSentWhole, CarriesSendable, CarrySendable}
use Rattle.irc_acts.specs.SendableLaws.{nick_stored, own_are_sendable}
use Rattle.irc_acts.specs.Own.{IsOwn, AreOwn}
use Rattle.irc_acts.specs.Own as own
use Rattle.irc_channel_commands.specs.declared.verdict.Verdict.{Verdict}
use Rattle.irc_channel_commands.specs.declared.verdict.Verdict.TheVariants.{Says, Keeps, Nothing}
use Rattle.irc_channel_commands.specs.Judging.{without_zeros, judge}
use Rattle.irc_channel_commands.specs.ChannelMode.{outcome_of, served}
use Rattle.irc_channel_commands.specs.Mode.{mode_steps}
use Rattle.irc_channel_commands.specs.Laws.BansFound.{stored_is_mask}
use Rattle.irc_channel_commands.specs.Laws.JudgedWalk.{IsAskedFor, IsSo, judged_for}
use Rattle.irc_channel_commands.specs.Laws.LimitsWritten.{limit_still}
use Rattle.irc_channel_commands.specs.Laws.ModeWalk.{changed_by, mode_so}
use Rattle.irc_channel_commands.specs.Laws.WordsCarried.{IsCarriedAsked, read_carried}
use Rattle.irc_channel_commands.specs.Laws.Lawful.{IsLawful}
use Rattle.irc_channel_commands.specs.Laws.InvitationsLaw.{mode_looks_at_no_invitations}

abbrev pub ModeIsOwn : Type 0
ModeIsOwn = (me : User) (room : Room) (name : List ℕ) (words : List (List ℕ))
    → AreOwn me room (mode_steps room me name words)

-- of a user that is there, in a room within limits, where a line can carry its words
abbrev pub ModeIsSendable : Type 0
ModeIsSendable = (me : User) (room : Room) (name : List ℕ) (words : List (List ℕ))
    → IsWellFormed room → IsWithinLimits room
    → row room.users (key me.nick) ≡ Some me → AllByRecursion IsCarried words
    → AreSendable room (mode_steps room me name words)

-- ---- words that are written

no_zero_first : (digits : List ℕ) → nat_eq (get_or (without_zeros digits) 0 0) 48 ≡ false
no_zero_first [] = refl
no_zero_first (digit ∷ digits) = by (nat_eq digit 48) refl (no_zero_first digits)
  where
    by : (test : Bool) → nat_eq digit 48 ≡ test → nat_eq (get_or (without_zeros digits) 0 0) 48
        ≡ false → nat_eq (get_or (cond test (without_zeros digits) (digit ∷ digits)) 0 0) 48 ≡ false
    by true is rest = rest
    by false is rest = is

limit_written : (word : List ℕ) → is_limit word ≡ true
    → is_written_limit (without_zeros word) ≡ true
limit_written word is = plain_limit (without_zeros word) (limit_still word is) (no_zero_first word)

-- what is so of all is so of one that is found
found_so : {X : Type 0} (q p : X → Bool) (xs : List X) (x : X) → list_all q xs ≡ true
    → find p xs ≡ Some x → q x ≡ true
found_so q p [] x all is = cc is
found_so q p (y ∷ xs) x all is =
    by (p y) is (λ later. found_so q p xs x (second_so (q y) (list_all q xs) all) later)
  where
    by : (test : Bool) → cond test (Some y) (find p xs) ≡ Some x → (find p xs ≡ Some x → q x ≡ true)
        → q x ≡ true
    by true here rest =
        ap q (sym (ap (λ o. unwrap_or o y) here)) ∙ first_so (q y) (list_all q xs) all
    by false later rest = rest later

-- ---- one change

-- it has the word of its letter, which is a nickname as stored or is carried by a line
record IsSentMade (room : Room) (made : ModeChange) : Type 0 where
  worded : has_its_word made ≡ true
  sent : IsSentChange room made
  ban : IsBanCarried made.letter made.word

judged_sent : (room : Room) → IsWellFormed room → IsWithinLimits room → (now : Channel)
    → IsChannelWithin now → (plus : Bool) (which : ModeLetter)
    (word : Option (List ℕ)) → IfSome word IsCarried
    → IsSo (IsAskedFor (IsSentMade room) plus which) (judge room.users now plus which word)
judged_sent room well limits now within plus which word carried =
    judged_for (IsSentMade room) room.users now plus which word (record {
      invite_only = λ sign other. record { worded = refl; sent = tt; ban = tt };
      moderated = λ sign other. record { worded = refl; sent = tt; ban = tt };
      no_outside = λ sign other. record { worded = refl; sent = tt; ban = tt };
      topic_locked = λ sign other. record { worded = refl; sent = tt; ban = tt };
      private = λ sign turns. record { worded = refl; sent = tt; ban = tt };
      secret = λ sign turns. record { worded = refl; sent = tt; ban = tt };
      key_set = λ given is none. record { worded = is; sent = key_carried given is; ban = tt };
      key_cleared = λ there is.
          let kept : IsKey there = subst (λ o. IfSome o IsKey) is within.modes.key in
          record { worded = kept; sent = key_carried there kept; ban = tt };
      limit_set = λ digits is other. record {
        worded = limit_written digits is;
        sent = digits_carried (without_zeros digits)
            (limit-digits (without_zeros digits) (limit_still digits is));
        ban = tt;
      };
      limit_cleared = λ there. record { worded = refl; sent = tt; ban = tt };
      ban_set = λ mask given is none.
          let at : IsCarried mask = subst (λ o. IfSome o IsCarried) given carried in
          record { worded = is; sent = at; ban = at };
      ban_taken = λ mask there is found.
          let at : IsCarried there =
          found_so is_carried (same mask) now.modes.bans there within.bans_carried found in
          record {
            worded = stored_is_mask mask there now.modes.bans is found;
            sent = at;
            ban = at;
          };
      operator = λ sign name user flags is at other.
          record {
            worded = (limits.users (key name) user is).nick;
            sent = nick_stored room well (key name) user is;
            ban = tt;
          };
      voice = λ sign name user flags is at other.
          record {
            worded = (limits.users (key name) user is).nick;
            sent = nick_stored room well (key name) user is;
            ban = tt;
          };
    })

-- ---- all changes

-- changes that are some of what was asked for, each of which can be sent
record AreServed (room : Room) (items : List Asked) (changes : List ModeChange) : Type 0 where
  asked : AreSomeAsked items changes
  sent : AllByRecursion (IsSentChange room) changes

module _ (room : Room) (well : IsWellFormed room) (limits : IsWithinLimits room) where
  -- what comes of one letter, and what then comes of the others
  verdict_served : (start now : Channel) (plus : Bool) (which : ModeLetter)
      (word : Option (List ℕ)) (items : List Asked) (verdict : Verdict)
      → IsSo (IsAskedFor (IsSentMade room) plus which) verdict → ((changes : List ModeChange)
      → AllByRecursion (λ (c : ModeChange). IsBanCarried c.letter c.word) changes
      → AreServed room items (served room.users start (all_changed changes now) items).changes)
      → AreServed room (change plus which word ∷ items)
      ((outcome_of verdict).changes ++ (served room.users start
      (all_changed (outcome_of verdict).changes now) items).changes)
  verdict_served start now plus which word items (Says reply) so later =
      let rest = later [] tt in
      record { asked = some.one_left_out rest.asked; sent = rest.sent }
  verdict_served start now plus which word items (Keeps made) so later =
      let rest = later (made ∷ []) (so.so.ban, tt) in
      record {
        asked = some.one_made (record {
          given = word;
          asked = ap (λ sign. change sign which word) (sym so.plus_is)
              ∙ ap (λ letter. change made.plus letter word) (sym so.letter_is);
          worded = so.so.worded;
        }) rest.asked;
        sent = (so.so.sent, rest.sent);
      }
  verdict_served start now plus which word items Nothing so later =
      let rest = later [] tt in
      record { asked = some.one_left_out rest.asked; sent = rest.sent }

  all_served : (start now : Channel) → IsChannelWithin now
      → (items : List Asked) → AllByRecursion IsCarriedAsked items
      → AreServed room items (served room.users start now items).changes
  all_served start now within [] carried = record { asked = some.nothing_left; sent = tt }
  all_served start now within (change plus which word ∷ items) carried =
      verdict_served start now plus which word items (judge room.users now plus which word)
      (judged_sent room well limits now within plus which word carried.0)
      (λ changes bans. all_served start (all_changed changes now)
      (changes_within changes now bans within) items carried.1)
  all_served start now within (list ∷ items) carried =
      let rest = all_served start now within items carried.1 in
      record { asked = some.one_left_out rest.asked; sent = rest.sent }
  all_served start now within (no_word ∷ items) carried =
      let rest = all_served start now within items carried.1 in
      record { asked = some.one_left_out rest.asked; sent = rest.sent }
  all_served start now within (unknown byte ∷ items) carried =
      let rest = all_served start now within items carried.1 in
      record { asked = some.one_left_out rest.asked; sent = rest.sent }

  sent_whole : (channel : Channel) → IsChannelWithin channel → (words : List (List ℕ))
      → AllByRecursion IsCarried words → is_nil (changed_by room channel words) ≡ false
      → AreSentWhole room (changed_by room channel words)
  sent_whole channel within words carried filled =
      let changes =
      all_served channel channel within (modes_read words) (read_carried words carried) in
      record {
        changes_readable = some_asked_are_readable words
            (changed_by room channel words) changes.asked filled;
        words_sent = changes.sent;
      }

  pub mode_carries : (me : User) (name : List ℕ) (words : List (List ℕ))
      → AllByRecursion IsCarried words → CarrySendable room (mode_steps room me name words)
  mode_carries me name words carried = mode_so CarriesSendable me room name words (record {
    changes_it = λ channel is operator filled. sent_whole channel
        (limits.channels (key name) channel is) words carried filled;
    sets_own = λ invisible other. tt;
  })

pub mode_is_own : ModeIsOwn
mode_is_own me room name words = mode_so (IsOwn me) me room name words (record {
  changes_it =
      λ channel is operator some. own.changes_modes name (changed_by room channel words) channel is;
  sets_own = λ invisible apart. own.changes_itself (Invisible invisible);
})

pub mode_is_sendable : ModeIsSendable
mode_is_sendable me room name words well limits mine carried =
    own_are_sendable me room (mode_steps room me name words) well
    (nick_stored room well (key me.nick) me mine) (mode_is_own me room name words)
    (mode_carries room well limits me name words carried)

pub mode_is_lawful : (target : List ℕ) (more : List (List ℕ))
    → IsLawful more (λ me room. mode_steps room me target more)
mode_is_lawful target more = record {
  own = λ me room. inl (mode_is_own me room target more);
  carries = λ me room well within mine. mode_carries room well within me target more;
  alike = λ me room other so. mode_looks_at_no_invitations me room other target more so.alike;
}
