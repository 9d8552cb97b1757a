-- What is decided can be sent.
use Rattle.std.proofs.Common.{◌≡◌, ℕ, Some, List, [], ◌∷◌, map, sym, ◌∙◌, ap, subst}
use Rattle.std.specs.List.{AllByRecursion}
use Rattle.irc_line.specs.Carried.{IsCarried, IsWordOf}
use Rattle.irc_names.specs.Fold.{key}
use Rattle.irc_names.specs.Tables.{row}
use Rattle.irc_users.specs.declared.user.User.{User}
use Rattle.irc_room.specs.Limits.{IsCarriedText}
use Rattle.irc_room.specs.Room.{Room, IsWellFormed}
use Rattle.irc_acts.specs.CarriedWords.{nick_carried, reason_carried}
use Rattle.irc_acts.specs.Moves.{own_channels}
use Rattle.irc_acts.specs.Sendable.{AreSendable}
use Rattle.irc_acts.specs.SendableLaws.{nick_stored, own_are_sendable}
use Rattle.irc_channel_commands.specs.Join.{leaves}
use Rattle.irc_channel_commands.specs.Laws.JoinLaw.{leaving_all_is_own, leaving_carries}
use Rattle.irc_commands.specs.Sendable.{DecidedIsSendable}
use Rattle.irc_commands.proofs.CommandTable.{decided_so}

pub all_words : (line : List ℕ) (words : List (List ℕ)) → AllByRecursion (IsWordOf line) words
    → AllByRecursion IsCarried words
all_words line [] all = tt
all_words line (word ∷ words) all = (all.0.carried, all_words line words all.1)

-- a user that was found under a spelling of its nickname is found under its nickname
found_as_stored : (room : Room) → IsWellFormed room → (fold : List ℕ) (me : User)
    → row room.users fold ≡ Some me → row room.users (key me.nick) ≡ Some me
found_as_stored room well fold me is = ap (row room.users) (well.users_named fold me is) ∙ is

pub decided_is_sendable : DecidedIsSendable
decided_is_sendable room place who line message well within words =
    let carried = all_words line message.params words.params in
    let nick = λ (me : User) (is : row room.users (key who) ≡ Some me). nick_carried me.nick
    (within.users (key who) me is).nick in
    decided_so room place who message (λ d. AreSendable room d.steps) (record {
      silent = tt;
      own = λ me steps is own carries.
          own_are_sendable me room steps well (nick_stored room well (key who) me is) own
          (carries well within (found_as_stored room well (key who) me is) carried);
      renamed = λ me nickname is named free. record {
        now = record { nick_stored = nick_stored room well (key who) me is; new_named = named };
        later = tt;
      };
      leaves_all = λ me is.
          own_are_sendable me room (map (leaves me) (own_channels room me)) well
          (nick_stored room well (key who) me is) (leaving_all_is_own me room well)
          (leaving_carries me (nick me is) room (own_channels room me));
      quits = λ me reason raw is reason_is. record {
        now = record {
          nick_stored = nick_stored room well (key who) me is;
          text_within = subst IsCarriedText (sym reason_is)
              (reason_carried message.params me.nick carried (nick me is));
        };
        later = tt;
      };
    })
