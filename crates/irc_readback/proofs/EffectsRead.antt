-- The message of each effect is read as that effect.
use Rattle.std.proofs.Common.{◌≡◌, ℕ, ◌≤◌, Bool, true, false, is_some, ◌&&◌, ◌||◌}
use Rattle.std.proofs.Common.{if◌then◌else◌, Option, Some, None, Ok, List, [], ◌∷◌, codes, length}
use Rattle.std.proofs.Common.{refl, ◌∙◌, ap, le-leb}
use Rattle.std.specs.List.{list_all}
use Rattle.std.specs.Option.{option_map_or}
use Rattle.std.proofs.lemmas.Bool.{and_from}
use Rattle.arrayvec.specs.ArrayVec.{ArrayVec}
use Rattle.irc_line.specs.Limits.{max_line}
use Rattle.irc_line.specs.Messages.{message_of}
use Rattle.irc_names.specs.Limits.{max_words}
use Rattle.irc_names.specs.Names.{IsNick, IsChannel, fits, is_nick, is_channel, is_server}
use Rattle.irc_users.specs.declared.user_change.UserChange.{UserChange}
use Rattle.irc_room.specs.effect.By.TheVariants as by
use Rattle.irc_room.specs.effect.Effect.{Effect}
use Rattle.irc_room.specs.effect.Effect.TheVariants.{Rename, Quit, Join, Part, Kick}
use Rattle.irc_room.specs.effect.Effect.TheVariants.{SetTopic, Say, Invite, ChangeUser}
use Rattle.irc_room.specs.effect.Target.{Target}
use Rattle.irc_room.specs.effect.Target.TheVariants as target
use Rattle.irc_room.specs.Effects.{needs_users}
use Rattle.irc_room.specs.Limits.{IsChangeWithin}
use Rattle.irc_room.specs.Sendable.{target_word}
use Rattle.irc_link_reader.specs.Means.{first_fault, if_there, of_user, change_of}
use Rattle.irc_link_reader.specs.Means.{is_told_of, read_by, say_line}
use Rattle.irc_readback.specs.ReadBack.{is_user_far}
use Rattle.irc_link_reader.specs.Reader.{Reader, may_come}
use Rattle.irc_link_words.specs.Words.{marked, is_marked, is_for_channel}
use Rattle.irc_link_words.specs.Words.{target_of}
use Rattle.irc_link_writer.specs.Written.{from, wire_change}
use Rattle.irc_readback.specs.Lemmas.ChangeRead.{all_right, change_meant}
use Rattle.irc_readback.specs.Lemmas.NameKinds.{nick-no_server, nick-for_user, channel-for_channel}
use Rattle.irc_readback.specs.Lemmas.NameKinds.{marked-told, marked-name}

-- what the reader knows of whom a line is from, and of all whom it names
pub record IsExpected (reader : Reader) (nick : List ℕ) (effect : Effect) : Type 0 where
  pub named : IsNick nick
  pub known : list_all (λ nick. is_some (reader.home nick)) (needs_users effect) ≡ true
  pub far : is_user_far reader nick ≡ true

there : (reader : Reader) (effect : Effect) → list_all (λ nick. is_some (reader.home nick))
    (needs_users effect) ≡ true → if_there reader effect ≡ effect ∷ []
there reader effect known = ap (λ b. if b then effect ∷ [] else []) known

pub far_may_come : (reader : Reader) (nick : List ℕ) → IsNick nick → is_user_far reader nick ≡ true
    → may_come reader nick ≡ true
far_may_come reader nick named far =
    ap (λ b. if b then reader.is_far nick else (if is_nick nick then option_map_or reader.is_far
    (reader.home nick) true else true)) (nick-no_server nick named)
    ∙ ap (λ b. if b then option_map_or reader.is_far (reader.home nick) true else true) named
    ∙ by (reader.home nick) far
  where
    by : (o : Option (List ℕ)) → option_map_or reader.is_far o false ≡ true
        → option_map_or reader.is_far o true ≡ true
    by None far = refl
    by (Some home) far = far

-- a line of a user, whose words are as they should be
user_read : (reader : Reader) (nick : List ℕ) (parameters names : Bool) (effect : Effect)
    → IsExpected reader nick effect → parameters ≡ true → names ≡ true
    → first_fault (of_user reader nick parameters names effect) ≡ Ok (effect ∷ [])
user_read reader nick parameters names effect is right names_right =
    all_right parameters (may_come reader nick) (is_nick nick && names)
    (if_there reader effect) right (far_may_come reader nick is.named is.far)
    (and_from (is_nick nick) names is.named names_right)
    ∙ ap Ok (there reader effect is.known)

words_fit : (limit : ℕ) (text : List ℕ) → length text ≤ limit → fits limit text ≡ true
words_fit limit text short = le-leb (length text) limit short

-- ---- whom a text is for

abbrev pub IsTarget : Target → Type 0
IsTarget (target.User nick) = IsNick nick
IsTarget (target.Channel channel) = IsChannel channel

target_named : (to : Target) → IsTarget to → (if is_for_channel (target_word to)
    then is_channel (target_word to) else is_nick (target_word to)) ≡ true
target_named (target.User nick) named =
    ap (λ b. if b then is_channel nick else is_nick nick) (nick-for_user nick named) ∙ named
target_named (target.Channel channel) named = ap (λ b. if b then is_channel channel
    else is_nick channel) (channel-for_channel channel named) ∙ named

target_back : (to : Target) → IsTarget to → target_of (target_word to) ≡ to
target_back (target.User nick) named =
    ap (λ b. if b then target.Channel nick else target.User nick) (nick-for_user nick named)
target_back (target.Channel channel) named = ap (λ b. if b then target.Channel channel
    else target.User channel) (channel-for_channel channel named)

said_read : (reader : Reader) (nick : List ℕ) (notice : Bool) (to : Target) (text : ArrayVec ℕ)
    → IsExpected reader nick (Say nick notice to text) → IsTarget to → length text.items ≤ max_line
    → first_fault (say_line notice reader (Some nick) (target_word to ∷ text.items ∷ []))
    ≡ Ok (Say nick notice to text ∷ [])
said_read reader nick notice to text is named short =
    let names : Bool = if is_for_channel (target_word to) then is_channel (target_word to)
    else is_nick (target_word to) in
    ap (λ whom. first_fault (of_user reader nick (fits max_line text.items) names
    (Say nick notice whom text))) (target_back to named)
    ∙ user_read reader nick (fits max_line text.items) names (Say nick notice to text) is
    (words_fit max_line text.items short) (target_named to named)

-- ---- each line

pub quit_read : (reader : Reader) (nick text : List ℕ)
    → IsExpected reader nick (Quit nick text) → length text ≤ max_words → read_by reader
    (message_of (from nick (codes "QUIT") [] (Some text))) ≡ Ok (Quit nick text ∷ [])
quit_read reader nick text is short = user_read reader nick (fits max_words text) true
    (Quit nick text) is (words_fit max_words text short) refl

pub rename_read : (reader : Reader) (nick new : List ℕ) → IsExpected reader nick (Rename nick new)
    → IsNick new → read_by reader (message_of (from nick (codes "NICK") (new ∷ []) None))
    ≡ Ok (Rename nick new ∷ [])
rename_read reader nick new is named =
    user_read reader nick true (is_nick new) (Rename nick new) is refl named

pub part_read : (reader : Reader) (nick channel text : List ℕ)
    → IsExpected reader nick (Part nick channel text) → IsChannel channel → length text ≤ max_words
    → read_by reader (message_of (from nick (codes "PART") (channel ∷ []) (Some text)))
    ≡ Ok (Part nick channel text ∷ [])
part_read reader nick channel text is named short =
    user_read reader nick (fits max_words text) (is_channel channel) (Part nick channel text) is
    (words_fit max_words text short) named

pub kick_read : (reader : Reader) (nick channel kicked text : List ℕ) → IsExpected reader nick
    (Kick nick channel kicked text) → IsChannel channel → IsNick kicked → length text ≤ max_words
    → read_by reader (message_of (from nick (codes "KICK") (channel ∷ kicked ∷ []) (Some text)))
    ≡ Ok (Kick nick channel kicked text ∷ [])
kick_read reader nick channel kicked text is named other short =
    user_read reader nick (fits max_words text) (is_channel channel && is_nick kicked)
    (Kick nick channel kicked text) is (words_fit max_words text short)
    (and_from (is_channel channel) (is_nick kicked) named other)

pub invite_read : (reader : Reader) (nick invited channel : List ℕ)
    → IsExpected reader nick (Invite nick invited channel) → IsNick invited → IsChannel channel
    → read_by reader (message_of (from nick (codes "INVITE") (invited ∷ channel ∷ []) None))
    ≡ Ok (Invite nick invited channel ∷ [])
invite_read reader nick invited channel is other named =
    user_read reader nick true (is_nick invited && is_channel channel)
    (Invite nick invited channel) is refl
    (and_from (is_nick invited) (is_channel channel) other named)

pub topic_read : (reader : Reader) (nick channel text : List ℕ) → IsExpected reader nick
    (SetTopic (by.User nick) channel text) → IsChannel channel → length text ≤ max_words
    → read_by reader (message_of (from nick (codes "TOPIC") (channel ∷ []) (Some text)))
    ≡ Ok (SetTopic (by.User nick) channel text ∷ [])
topic_read reader nick channel text is named short =
    all_right (fits max_words text) (may_come reader nick)
    ((is_nick nick || is_server nick) && is_channel channel)
    (change_of reader nick channel (λ doer. SetTopic doer channel text))
    (words_fit max_words text short) (far_may_come reader nick is.named is.far)
    (and_from (is_nick nick || is_server nick) (is_channel channel)
    (ap (λ b. b || is_server nick) is.named) named)
    ∙ ap Ok
    (ap (λ b. if b then (if reader.has_far channel then SetTopic by.Home channel text ∷ [] else [])
    else if_there reader (SetTopic (by.User nick) channel text)) (nick-no_server nick is.named)
    ∙ there reader (SetTopic (by.User nick) channel text) is.known)

-- what a user has set of itself
pub change_read : (reader : Reader) (nick : List ℕ) (change : UserChange)
    → IsExpected reader nick (ChangeUser nick change) → is_told_of reader change ≡ true
    → IsChangeWithin change
    → read_by reader (message_of (wire_change nick change)) ≡ Ok (ChangeUser nick change ∷ [])
change_read reader nick change is told_of keeps =
    change_meant reader nick change is.named (far_may_come reader nick is.named is.far) told_of
    keeps
    ∙ ap Ok (there reader (ChangeUser nick change) is.known)

-- a text, for a user or for a channel
pub text_read : (reader : Reader) (nick : List ℕ) (notice : Bool) (to : Target) (text : ArrayVec ℕ)
    → IsExpected reader nick (Say nick notice to text) → IsTarget to → length text.items ≤ max_line
    → read_by reader (message_of (from nick (if notice then codes "NOTICE" else codes "PRIVMSG")
    (target_word to ∷ []) (Some (text.items))))
    ≡ Ok (Say nick notice to text ∷ [])
text_read reader nick true to text is named short =
    said_read reader nick true to text is named short
text_read reader nick false to text is named short =
    said_read reader nick false to text is named short

-- who joins, and becomes an operator or does not
pub join_read : (reader : Reader) (nick channel : List ℕ) (op : Bool)
    → IsExpected reader nick (Join nick channel op) → IsChannel channel → read_by reader (message_of
    (from nick (codes "JOIN") (marked channel op ∷ []) None)) ≡ Ok (Join nick channel op ∷ [])
join_read reader nick channel op is named =
    ap (λ name. first_fault (of_user reader nick true (is_channel name)
    (Join nick name (is_marked (marked channel op))))) (marked-name channel op named)
    ∙ ap (λ mark. first_fault (of_user reader nick true (is_channel channel)
    (Join nick channel mark))) (marked-told channel op named)
    ∙ user_read reader nick true (is_channel channel) (Join nick channel op) is refl named
