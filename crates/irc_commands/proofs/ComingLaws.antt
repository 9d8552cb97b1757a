-- Who is a user after what is decided.
use Rattle.std.proofs.Common.{◌≡◌, true, false, not, ◌||◌, refl, ap, true≢false}
use Rattle.std.specs.List.{list_any}
use Rattle.std.proofs.Math.Bool.{false≢true}
use Rattle.irc_names.specs.Fold.{key}
use Rattle.irc_names.specs.FoldLaws.{same-tells}
use Rattle.irc_commands.specs.Comings.{adds_user, adds_or_ends, renames_other, is_effect, QuitFirst}
use Rattle.irc_commands.specs.Comings.{AddsFirst, DecidedAddsNobody, OnlyItselfIsRenamed}
use Rattle.irc_commands.specs.Comings.{WhoStaysIsUser, WhoIsClosedQuits, RegisteredIsAdded}
use Rattle.irc_commands.specs.Comings.{UnregisteredChangesNothing, RegisteredStays}
use Rattle.irc_acts.specs.Moves.{own_channels}
use Rattle.irc_commands.proofs.NeverOwn.{never_own, none_leaving, own_adds_nobody, own_ends_nobody}
use Rattle.irc_commands.proofs.NeverOwn.{own_renames_nobody}
use Rattle.irc_commands.proofs.CommandTable.{decided_so}
use Rattle.irc_commands.proofs.RegisteringCases.{registering_so}

pub decided_adds_nobody : DecidedAddsNobody
decided_adds_nobody room place who message =
    decided_so room place who message (λ d. list_any adds_user d.steps ≡ false) (record {
      silent = refl;
      own = λ me steps is own carries. never_own me adds_user (own_adds_nobody me) room steps own;
      renamed = λ me nickname is named free. refl;
      leaves_all = λ me is. none_leaving me adds_user (own_channels room me) (λ channel. refl);
      quits = λ me reason line is reason_is. refl;
    })

pub only_itself_is_renamed : OnlyItselfIsRenamed
only_itself_is_renamed room place who message well =
    decided_so room place who message (λ d. list_any (renames_other who) d.steps ≡ false) (record {
      silent = refl;
      own = λ me steps is own carries. never_own me (renames_other who)
          (own_renames_nobody me who) room steps own;
      renamed = λ me nickname is named free. ap (λ b. not b || false)
          ((same-tells me.nick who).1 (well.users_named (key who) me is));
      leaves_all =
          λ me is. none_leaving me (renames_other who) (own_channels room me) (λ channel. refl);
      quits = λ me reason line is reason_is. refl;
    })

pub who_stays_is_user : WhoStaysIsUser
who_stays_is_user room place who message =
    decided_so room place who message (λ d. d.close ≡ false → list_any adds_or_ends d.steps ≡ false)
    (record {
      silent = λ stays. refl;
      own = λ me steps is own carries stays. never_own me adds_or_ends
          (own_ends_nobody me) room steps own;
      renamed = λ me nickname is named free stays. refl;
      leaves_all =
          λ me is stays. none_leaving me adds_or_ends (own_channels room me) (λ channel. refl);
      quits = λ me reason line is reason_is stays. absurd (true≢false stays);
    })

pub who_is_closed_quits : WhoIsClosedQuits
who_is_closed_quits room place who message =
    decided_so room place who message (λ d. d.close ≡ true → QuitFirst room who d.steps) (record {
      silent = λ closed. absurd (false≢true closed);
      own = λ me steps is own carries closed. absurd (false≢true closed);
      renamed = λ me nickname is named free closed. absurd (false≢true closed);
      leaves_all = λ me is closed. absurd (false≢true closed);
      quits = λ me reason line is reason_is closed. record {
        me = me;
        reason = reason;
        behind = _;
        is_user = is;
        steps_are = refl;
        no_more = refl;
      };
    })

pub registered_is_added : RegisteredIsAdded
registered_is_added room place pending message =
    registering_so room place pending message (λ r. r.registered ≡ true
    → AddsFirst place r.pending.nick r.steps) (record {
      silent = λ pending given registered. absurd (false≢true registered);
      answered = λ pending given reply registered. absurd (false≢true registered);
      told = λ pending given line registered. absurd (false≢true registered);
      closed = λ pending given line registered. absurd (false≢true registered);
      added = λ pending given nickname username is named free registered. record {
        user = _;
        behind = _;
        steps_are = refl;
        is_home = refl;
        is_nick = is;
        no_more = refl;
      };
    })

pub unregistered_changes_nothing : UnregisteredChangesNothing
unregistered_changes_nothing room place pending message =
    registering_so room place pending message (λ r. r.registered ≡ false
    → list_any is_effect r.steps ≡ false) (record {
      silent = λ pending given unregistered. refl;
      answered = λ pending given reply unregistered. refl;
      told = λ pending given line unregistered. refl;
      closed = λ pending given line unregistered. refl;
      added = λ pending given nickname username is named free unregistered.
          absurd (true≢false unregistered);
    })

pub registered_stays : RegisteredStays
registered_stays room place pending message =
    registering_so room place pending message (λ r. r.registered ≡ true → r.close ≡ false) (record {
      silent = λ pending given registered. refl;
      answered = λ pending given reply registered. refl;
      told = λ pending given line registered. refl;
      closed = λ pending given line registered. absurd (false≢true registered);
      added = λ pending given nickname username is named free registered. refl;
    })
