-- What is decided can be done.
use Rattle.std.proofs.Common.{◌≡◌, ℕ, Bool, true, false, not, ◌&&◌, ◌||◌, List, map, refl, ◌∙◌, ap}
use Rattle.irc_names.specs.Fold.{key, same}
use Rattle.irc_names.specs.FoldLaws.{same-equivalence}
use Rattle.irc_users.specs.declared.user.User.{User}
use Rattle.irc_room.specs.Room.{Room}
use Rattle.irc_room.specs.Effects.{has_user}
use Rattle.irc_commands.specs.Nick.{is_anothers}
use Rattle.irc_acts.specs.Possible.{ArePossible}
use Rattle.irc_commands.specs.Possible.{DecidedIsPossible, RegisteringIsPossible}
use Rattle.irc_acts.specs.OwnLaws.{stored_there, one_there, own_are_possible}
use Rattle.irc_acts.specs.Moves.{own_channels}
use Rattle.irc_channel_commands.specs.Join.{leaves}
use Rattle.irc_channel_commands.specs.Laws.JoinLaw.{leaving_all_is_own}
use Rattle.irc_commands.proofs.CommandTable.{decided_so}
use Rattle.irc_commands.proofs.RegisteringCases.{registering_so}

-- a nickname that is not another's is nobody's, or the user's own
free_or_own : (room : Room) (me : User) (nickname : List ℕ) → is_anothers room me nickname ≡ false
    → (not (has_user room nickname) || same me.nick nickname) ≡ true
free_or_own room me nickname = by_tests (has_user room nickname) (same nickname me.nick) refl
  where
    by_tests : (b c : Bool) → same nickname me.nick ≡ c → (b && not c) ≡ false
        → (not b || same me.nick nickname) ≡ true
    by_tests false c is none = refl
    by_tests true true is none = same-equivalence.symm me.nick nickname ∙ is
    by_tests true false is none = cc none

pub decided_is_possible : DecidedIsPossible
decided_is_possible room place who message well =
    decided_so room place who message (λ d. ArePossible room d.steps) (record {
      silent = tt;
      own = λ me steps is own carries. own_are_possible me room steps well
          (stored_there room well (key who) me is) own;
      renamed = λ me nickname is named free. record {
        now = record {
          users_there = one_there room me.nick (stored_there room well (key who) me is);
          channel_there = refl;
          nick_free = free_or_own room me nickname free;
        };
        later = tt;
      };
      leaves_all = λ me is. own_are_possible me room (map (leaves me) (own_channels room me)) well
          (stored_there room well (key who) me is) (leaving_all_is_own me room well);
      quits = λ me reason line is reason_is. record {
        now = record {
          users_there = one_there room me.nick
              (stored_there room well (key who) me is);
          channel_there = refl;
          nick_free = refl;
        };
        later = tt;
      };
    })

pub registering_is_possible : RegisteringIsPossible
registering_is_possible room place pending message well =
    registering_so room place pending message (λ r. ArePossible room r.steps) (record {
      silent = λ pending given. tt;
      answered = λ pending given reply. tt;
      told = λ pending given line. tt;
      closed = λ pending given line. tt;
      added = λ pending given nickname username is named free. record {
        now = record {
          users_there = refl;
          channel_there = refl;
          nick_free = ap not free;
        };
        later = tt;
      };
    })
