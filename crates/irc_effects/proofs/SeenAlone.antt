-- What is for one user is shown to that user alone.
use Rattle.std.proofs.Common.{◌≡◌, true, Option, Some, sym, ◌∙◌, ap, map, is_some, option_map}
use Rattle.std.proofs.Common.{option_to_list}
use Rattle.std.specs.FinMap.{values}
use Rattle.irc_names.specs.Fold.{key}
use Rattle.irc_names.specs.Tables.{row}
use Rattle.irc_line.specs.Messages.{Sender, Written, text}
use Rattle.irc_users.specs.declared.user.User.{User}
use Rattle.irc_users.specs.declared.user_change.UserChange.TheVariants.{Invisible}
use Rattle.irc_effects.specs.declared.effect.Effect.TheVariants.{Say, ChangeUser}
use Rattle.irc_effects.specs.declared.effect.Target.TheVariants as target
use Rattle.irc_effects.specs.Seen.{seen, full_sender}
use Rattle.irc_effects.specs.Laws.{OwnModeSeenAlone, PrivateTextSeenAlone}
use Rattle.irc_effects.specs.Lemmas.AllSeen.{all_seen}
use Rattle.irc_effects.specs.Lemmas.FoundInTurn.{one_chosen}

-- there is a line where there is somebody who sends it
sent : (parts : Sender → Written) (doer : Option User) (user : User) → doer ≡ Some user
    → is_some (option_map text (option_map parts (option_map full_sender doer))) ≡ true
sent parts doer user is =
    ap (λ o. is_some (option_map text (option_map parts (option_map full_sender o)))) is

pub own_mode_seen_alone : OwnModeSeenAlone
unfolding seen
own_mode_seen_alone room nick invisible user well at =
    sym (all_seen room (ChangeUser nick (Invisible invisible))
    (λ viewer. sent _ (row room.users (key nick)) user at) (values room.users))
    ∙ ap (map (λ (u : User). u.nick)) (sym (one_chosen room.users well.users_named nick)
    ∙ ap option_to_list at)

pub private_text_seen_alone : PrivateTextSeenAlone
unfolding seen
private_text_seen_alone room by nick notice words sender user well there at =
    sym (all_seen room (Say by notice (target.User nick) words)
    (λ viewer. sent _ (row room.users (key by)) sender there) (values room.users))
    ∙ ap (map (λ (u : User). u.nick)) (sym (one_chosen room.users well.users_named nick)
    ∙ ap option_to_list at)
