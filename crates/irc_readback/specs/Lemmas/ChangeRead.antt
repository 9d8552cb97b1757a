-- What the line of a change of a user's own means, whether the reader knows the user or not.
use Rattle.std.proofs.Common.{◌≡◌, ℕ, Bool, true, false, not, ◌&&◌, ◌||◌, if◌then◌else◌, Some, Ok}
use Rattle.std.proofs.Common.{List, ◌∷◌, refl, ◌∙◌, ap}
use Rattle.std.proofs.Math.Bool.{or-true}
use Rattle.std.proofs.lemmas.Bool.{and_from}
use Rattle.irc_line.specs.Messages.{message_of}
use Rattle.irc_names.specs.FoldLaws.{same-tells}
use Rattle.irc_names.specs.Names.{IsNick, is_nick, is_channel}
use Rattle.irc_users.specs.declared.user_change.UserChange.{UserChange}
use Rattle.irc_room.specs.effect.Effect.{Effect}
use Rattle.irc_room.specs.effect.Effect.TheVariants.{ChangeModes, ChangeUser}
use Rattle.irc_room.specs.Limits.{IsChangeWithin}
use Rattle.irc_link_reader.specs.Means.{first_fault, if_there, of_either, is_itself_or_none}
use Rattle.irc_link_reader.specs.Means.{is_told_of, mode_line, change_line, user_mode_line, read_by}
use Rattle.irc_link_reader.specs.Reader.{Reader, may_come}
use Rattle.irc_link_words.specs.Lemmas.UserChangesRead.{are_change_words}
use Rattle.irc_link_words.specs.UserChanges.{change_words}
use Rattle.irc_link_words.specs.Words.{are_changes, are_members_named, changes_of}
use Rattle.irc_link_writer.specs.Written.{wire_change}
use Rattle.irc_readback.specs.Lemmas.NameKinds.{nick-for_user}

-- a line in which nothing is wrong
pub all_right : (parameters direction names : Bool) (effects : List Effect) → parameters ≡ true
    → direction ≡ true → names ≡ true → first_fault (record {
      parameters = parameters;
      token = true;
      direction = direction;
      names = names;
      effects = effects;
    }) ≡ Ok effects
all_right true true true effects p d n = refl
all_right false direction names effects p d n = cc p
all_right true false names effects p d n = cc d
all_right true true false effects p d n = cc n

itself : (nick : List ℕ) → is_itself_or_none nick nick ≡ true
itself nick = ap (λ b. not (is_nick nick && is_nick nick) || b) ((same-tells nick nick).1 refl)
    ∙ or-true (not (is_nick nick && is_nick nick))

for_user : (reader : Reader) (name nick : List ℕ) (words : List (List ℕ)) → IsNick nick
    → mode_line reader (Some name) (nick ∷ words) ≡ user_mode_line reader name nick words
for_user reader name nick words named =
    ap (λ b. if b then of_either reader name (are_changes words)
    (is_channel nick && are_members_named (changes_of words)) nick
    (λ doer. ChangeModes doer nick (changes_of words))
    else user_mode_line reader name nick words) (nick-for_user nick named)

-- the user that it names is done to just where it is there, and the reader is told of such a change
pub change_meant : (reader : Reader) (nick : List ℕ) (change : UserChange) → IsNick nick
    → may_come reader nick ≡ true → is_told_of reader change ≡ true → IsChangeWithin change
    → read_by reader (message_of (wire_change nick change))
    ≡ Ok (if_there reader (ChangeUser nick change))
change_meant reader nick change named comes told_of keeps =
    ap first_fault (for_user reader nick nick (change_words change) named)
    ∙ ap (λ told. first_fault (change_line reader nick nick told))
    (are_change_words change keeps).read_again
    ∙ all_right (is_told_of reader change && is_itself_or_none nick nick) (may_come reader nick)
    (is_nick nick && is_nick nick) (if_there reader (ChangeUser nick change))
    (and_from (is_told_of reader change) (is_itself_or_none nick nick) told_of (itself nick)) comes
    (and_from (is_nick nick) (is_nick nick) named named)
