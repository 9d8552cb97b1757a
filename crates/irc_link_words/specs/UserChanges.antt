-- What a user changes of itself, as it stands on links: a MODE of its own nickname, the letters of
-- the change, and a text behind them where it has one (RFC 2812 section 3.1.5, RFC 2813 section 4).
--
--   `:bo MODE bo +i`   bo sets mode i
--   `:bo MODE bo -i`   bo takes it away
--   `:bo MODE bo +a :at lunch`   bo is away
--   `:bo MODE bo -a`             bo is back
use Rattle.std.specs.Prelude.{ℕ, true, false, Option, Some, None, List, [], ◌∷◌, option_to_list}
use Rattle.std.specs.Prelude.{if◌then◌else◌}
use Rattle.std.specs.Cmp.Lexicographic.{pointwise}
use Rattle.std.specs.List.{find}
use Rattle.std.specs.Str.{bytes_eq}
use Rattle.irc_users.specs.declared.user_change.UserChange.{UserChange}
use Rattle.irc_names.specs.UserTexts.{is_away}
use Rattle.irc_users.specs.declared.user_change.UserChange.TheVariants.{Invisible, Away}
use Rattle.irc_link_words.specs.Words.{with_a, with_i, without_a, without_i}

-- the letters of a change
abbrev pub change_letters : UserChange → List ℕ
change_letters (Invisible invisible) = if invisible then with_i else without_i
change_letters (Away (Some text)) = with_a
change_letters (Away None) = without_a

-- the text behind them
abbrev pub change_text : UserChange → Option (List ℕ)
change_text (Invisible invisible) = None
change_text (Away text) = text

-- the words behind the nickname
abbrev pub change_words : UserChange → List (List ℕ)
change_words change = change_letters change ∷ option_to_list (change_text change)

-- that a user is away, with the text behind the letters, if it can be one
abbrev pub away_with_text : List (List ℕ) → List UserChange
away_with_text (letters ∷ text ∷ []) = if is_away text then Away (Some text) ∷ [] else []
away_with_text words = []

-- each change that these words could tell of
abbrev pub user_changes : List (List ℕ) → List UserChange
user_changes words =
    Invisible true ∷ Invisible false ∷ Away None ∷ away_with_text words

-- the change that is written as these words
abbrev pub user_change_of : List (List ℕ) → Option UserChange
user_change_of words =
    find (λ change. pointwise bytes_eq words (change_words change)) (user_changes words)
