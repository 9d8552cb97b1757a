-- What is told of a line of a user, as its contract says it.
use Rattle.std.proofs.Common.{◌≡◌, ℕ, Bool, true, false, not, Option, Some, None, Result, Ok}
use Rattle.std.proofs.Common.{Err, List, [], ◌∷◌, map, if◌then◌else◌, refl, subst, sym, ◌∙◌, ap}
use Rattle.std.specs.Prelude.{⊤}
use Rattle.irc_batch.specs.declared.close_reason.CloseReason.{CloseReason}
use Rattle.irc_batch.specs.declared.close_reason.CloseReason.TheVariants as reason
use Rattle.irc_users.specs.declared.user_change.UserChange.{UserChange}
use Rattle.irc_room.specs.effect.By.TheVariants as by
use Rattle.irc_room.specs.effect.Effect.{Effect}
use Rattle.irc_room.specs.effect.Effect.TheVariants as effect
use Rattle.irc_merge.specs.Deeds.{does}
use Rattle.irc_link_words.specs.UserChanges.{user_change_of}
use Rattle.irc_link_words.specs.Words.{is_marked, target_of, unmarked}
use Rattle.irc_link_words.specs.declared.commands.EffectCommand.{EffectCommand}
use Rattle.irc_link_words.specs.declared.commands.EffectCommand.TheVariants as command
use Rattle.irc_link_reader.specs.declared.arrival.Arrival.{Arrival}
use Rattle.irc_link_reader.specs.declared.deed.Deed.{Deed as Code}
use Rattle.irc_link_reader.specs.Loops.Readings.{TellsRow, check_of, first_effect, found, reader}
use Rattle.irc_link_reader.specs.Loops.Tellings.{done_told, told_found}
use Rattle.irc_link_reader.specs.Means.{Checked, if_there, invite_line, join_line, kick_line}
use Rattle.irc_link_reader.specs.Means.{nick_line, part_line, quit_line, say_line}
use Rattle.irc_link_reader.specs.Means.{change_line, user_mode_line}
use Rattle.irc_link_reader.specs.Reader.{Reader}
use Rattle.irc_link_reader.specs.Told.{a_deed, a_doing, first_reason, judged, kept_prefix}
use Rattle.irc_link_reader.specs.Told.{server_of, told_of, unless_late}

-- ---- an effect that is told on as it stands, whosever line it is

abbrev pub IsPlain : Effect → Type 0
IsPlain (effect.ChangeModes by.Home channel changes) = ⊥
IsPlain (effect.SetTopic by.Home channel topic) = ⊥
IsPlain other = ⊤

pub kept_plain : (server : Option (List ℕ)) (e : Effect) → IsPlain e
    → kept_prefix server e ≡ does e
kept_plain None e plain = refl
kept_plain (Some server) (effect.ChangeModes by.Home channel changes) plain = absurd plain
kept_plain (Some server) (effect.SetTopic by.Home channel topic) plain = absurd plain
kept_plain (Some server) other plain = refl

pub there_plain : (prefix : Option (List ℕ)) (reader : Reader) (e : Effect) → IsPlain e
    → map a_doing (if_there reader e) ≡ map (told_of prefix) (if_there reader e)
there_plain prefix reader e plain = one _
  where
    one : (b : Bool)
        → map a_doing (if b then e ∷ [] else []) ≡ map (told_of prefix) (if b then e ∷ [] else [])
    one true = ap (λ deed. a_deed deed ∷ []) (sym (kept_plain (server_of prefix) e plain))
    one false = refl

-- ---- a line whose effects are such

pub done_judged : (prefix : Option (List ℕ)) (checked : Checked)
    → map a_doing checked.effects ≡ map (told_of prefix) checked.effects
    → done_told (first_effect checked) ≡ first_reason (judged prefix checked)
done_judged prefix checked plain =
    tests checked.parameters checked.token checked.direction checked.names
  where
    tests : (parameters token direction names : Bool)
        → done_told (if not parameters then Err reason.Parameters
        else (if not token then Err reason.BadToken
        else (if not direction then Err reason.WrongDirection
        else (if not names then Err reason.BadName else Ok checked.effects))))
        ≡ (if not parameters then Err reason.Parameters
        else (if not token then Err reason.BadToken
        else (if not direction then Err reason.WrongDirection
        else (if not names then Err reason.BadName
        else unless_late None (map (told_of prefix) checked.effects)))))
    tests false token direction names = refl
    tests true false direction names = refl
    tests true true false names = refl
    tests true true true false = refl
    tests true true true true = ap Ok plain

-- what is read of a line, as a deed
abbrev Told_as : (Reader → Option (List ℕ) → List (List ℕ) → Checked) → Type 0
Told_as line = (reader : Reader) (prefix : Option (List ℕ)) (words : List (List ℕ))
    (read : Result (Option Effect) CloseReason) (told : Result (Option Code) CloseReason)
    → found read ≡ first_effect (line reader prefix words)
    → told_found told ≡ done_told (found read)
    → told_found told ≡ first_reason (judged prefix (line reader prefix words))

-- the effects of a line are told on as they stand
abbrev Plain_of : (Reader → Option (List ℕ) → List (List ℕ) → Checked) → Type 0
Plain_of line = (reader : Reader) (prefix : Option (List ℕ)) (words : List (List ℕ))
    → map a_doing (line reader prefix words).effects
    ≡ map (told_of prefix) (line reader prefix words).effects

told_as : (line : Reader → Option (List ℕ) → List (List ℕ) → Checked) → Plain_of line → Told_as line
told_as line plain reader prefix words read told is done =
    done ∙ ap done_told is
    ∙ done_judged prefix (line reader prefix words) (plain reader prefix words)

quit_plain : Plain_of quit_line
quit_plain reader None words = refl
quit_plain reader (Some nick) [] = refl
quit_plain reader (Some nick) (text ∷ []) =
    there_plain (Some nick) reader (effect.Quit nick text) tt
quit_plain reader (Some nick) (text ∷ more ∷ words) = refl

join_plain : Plain_of join_line
join_plain reader None words = refl
join_plain reader (Some nick) [] = refl
join_plain reader (Some nick) (word ∷ []) =
    there_plain (Some nick) reader (effect.Join nick (unmarked word) (is_marked word)) tt
join_plain reader (Some nick) (word ∷ more ∷ words) = refl

part_plain : Plain_of part_line
part_plain reader None words = refl
part_plain reader (Some nick) [] = refl
part_plain reader (Some nick) (channel ∷ []) = refl
part_plain reader (Some nick) (channel ∷ text ∷ []) =
    there_plain (Some nick) reader (effect.Part nick channel text) tt
part_plain reader (Some nick) (channel ∷ text ∷ more ∷ words) = refl

kick_plain : Plain_of kick_line
kick_plain reader None words = refl
kick_plain reader (Some nick) [] = refl
kick_plain reader (Some nick) (channel ∷ []) = refl
kick_plain reader (Some nick) (channel ∷ kicked ∷ []) = refl
kick_plain reader (Some nick) (channel ∷ kicked ∷ text ∷ []) =
    there_plain (Some nick) reader (effect.Kick nick channel kicked text) tt
kick_plain reader (Some nick) (channel ∷ kicked ∷ text ∷ more ∷ words) = refl

say_plain : (notice : Bool) → Plain_of (say_line notice)
say_plain notice reader None words = refl
say_plain notice reader (Some nick) [] = refl
say_plain notice reader (Some nick) (to ∷ []) = refl
say_plain notice reader (Some nick) (to ∷ text ∷ []) =
    there_plain (Some nick) reader
    (effect.Say nick notice (target_of to) (record { items = text })) tt
say_plain notice reader (Some nick) (to ∷ text ∷ more ∷ words) = refl

invite_plain : Plain_of invite_line
invite_plain reader None words = refl
invite_plain reader (Some nick) [] = refl
invite_plain reader (Some nick) (invited ∷ []) = refl
invite_plain reader (Some nick) (invited ∷ channel ∷ []) =
    there_plain (Some nick) reader (effect.Invite nick invited channel) tt
invite_plain reader (Some nick) (invited ∷ channel ∷ more ∷ words) = refl

nick_plain : Plain_of nick_line
nick_plain reader (Some nick) [] = refl
nick_plain reader (Some nick) (new ∷ []) =
    there_plain (Some nick) reader (effect.Rename nick new) tt
nick_plain reader (Some nick) (new ∷ more ∷ words) = refl
nick_plain reader None [] = refl
nick_plain reader None (a ∷ []) = refl
nick_plain reader None (a ∷ b ∷ []) = refl
nick_plain reader None (a ∷ b ∷ c ∷ []) = refl
nick_plain reader None (a ∷ b ∷ c ∷ d ∷ []) = refl
nick_plain reader None (a ∷ b ∷ c ∷ d ∷ e ∷ []) = refl
nick_plain reader None (a ∷ b ∷ c ∷ d ∷ e ∷ f ∷ []) = refl
nick_plain reader None (a ∷ b ∷ c ∷ d ∷ e ∷ f ∷ g ∷ []) = refl
nick_plain reader None (a ∷ b ∷ c ∷ d ∷ e ∷ f ∷ g ∷ h ∷ words) = refl

pub nick-told : Told_as nick_line
nick-told = told_as nick_line nick_plain

pub quit-told : Told_as quit_line
quit-told = told_as quit_line quit_plain

pub join-told : Told_as join_line
join-told = told_as join_line join_plain

pub part-told : Told_as part_line
part-told = told_as part_line part_plain

pub kick-told : Told_as kick_line
kick-told = told_as kick_line kick_plain

pub say-told : (notice : Bool) → Told_as (say_line notice)
say-told notice = told_as (say_line notice) (say_plain notice)

pub invite-told : Told_as invite_line
invite-told = told_as invite_line invite_plain

-- a command of lines of users alone
abbrev pub IsOfUser : EffectCommand → Type 0
IsOfUser command.Mode = ⊥
IsOfUser command.Topic = ⊥
IsOfUser other = ⊤

pub row_told : (which given : EffectCommand) (at : Arrival) (prefix : Option (List ℕ))
    (words : List (List ℕ)) (read : Result (Option Effect) CloseReason)
    (told : Result (Option Code) CloseReason) → given ≡ which → IsOfUser which
    → found read ≡ first_effect (check_of which (reader at) prefix words)
    → told_found told ≡ done_told (found read) → TellsRow given at prefix words told
row_told which given at prefix words read told is user reads done =
    subst (λ one. TellsRow one at prefix words told) (sym is) (by which user reads done)
  where
    by : (one : EffectCommand) → IsOfUser one
        → found read ≡ first_effect (check_of one (reader at) prefix words)
        → told_found told ≡ done_told (found read) → TellsRow one at prefix words told
    by command.Nick user = nick-told (reader at) prefix words read told
    by command.Quit user = quit-told (reader at) prefix words read told
    by command.Join user = join-told (reader at) prefix words read told
    by command.Part user = part-told (reader at) prefix words read told
    by command.Kick user = kick-told (reader at) prefix words read told
    by command.Mode user = absurd user
    by command.Topic user = absurd user
    by (command.Say notice) user = say-told notice (reader at) prefix words read told
    by command.Invite user = invite-told (reader at) prefix words read told

-- ---- a MODE of a user

own_plain : (reader : Reader) (name target : List ℕ) (words : List (List ℕ))
    → map a_doing (user_mode_line reader name target words).effects
    ≡ map (told_of (Some name)) (user_mode_line reader name target words).effects
own_plain reader name target words = by (user_change_of words)
  where
    by : (change : Option UserChange) → map a_doing (change_line reader name target change).effects
        ≡ map (told_of (Some name)) (change_line reader name target change).effects
    by None = refl
    by (Some change) = there_plain (Some name) reader (effect.ChangeUser name change) tt

pub own_told : (reader : Reader) (name target : List ℕ) (words : List (List ℕ))
    (read : Result (Option Effect) CloseReason) (told : Result (Option Code) CloseReason)
    → found read ≡ first_effect (user_mode_line reader name target words)
    → told_found told ≡ done_told (found read)
    → told_found told ≡ first_reason (judged (Some name) (user_mode_line reader name target words))
own_told reader name target words read told is done =
    done ∙ ap done_told is
    ∙ done_judged (Some name) (user_mode_line reader name target words)
    (own_plain reader name target words)

-- the same of a line that is from a name, by other words for its prefix and its parameters
pub named_told : (which given : EffectCommand) (at : Arrival) (prefix : Option (List ℕ))
    (name : List ℕ) (words these : List (List ℕ)) (read : Result (Option Effect) CloseReason)
    (told : Result (Option Code) CloseReason) → Some name ≡ prefix → these ≡ words
    → given ≡ which → IsOfUser which
    → found read ≡ first_effect (check_of which (reader at) (Some name) these)
    → told_found told ≡ done_told (found read) → TellsRow given at prefix words told
named_told which given at prefix name words these read told named are is user reads done =
    subst (λ from. TellsRow given at from words told) named
    (subst (λ by. TellsRow given at (Some name) by told) are
    (row_told which given at (Some name) these read told is user reads done))
