-- AWAY.
use Rattle.std.specs.Prelude.{ℕ, Bool, true, false, Option, Some, None, List, [], ◌∷◌, nat_eq}
use Rattle.std.specs.Prelude.{if◌then◌else◌}
use Rattle.std.specs.Cmp.Lexicographic.{pointwise}
use Rattle.irc_names.specs.UserTexts.{is_away}
use Rattle.irc_users.specs.declared.user.User.{User}
use Rattle.irc_users.specs.declared.user_change.UserChange.TheVariants.{Away}
use Rattle.irc_channels.specs.Texts.{cut_words}
use Rattle.irc_numerics.specs.declared.replies.Reply.{Reply}
use Rattle.irc_numerics.specs.declared.replies.Reply.TheVariants.{UnAway, NowAway}
use Rattle.irc_room.specs.effect.Effect.TheVariants.{ChangeUser}
use Rattle.irc_acts.specs.declared.act.Act.{Act}
use Rattle.irc_acts.specs.declared.act.Act.TheVariants.{Answer, Do}

-- bytes as the text of a user who is away, where they are one; who gives an empty one is back
abbrev pub as_away : List ℕ → Option (List ℕ)
as_away bytes = if is_away bytes then Some bytes else None

-- the text that is given, cut; none where there is no parameter
abbrev pub away_given : List (List ℕ) → Option (List ℕ)
away_given [] = None
away_given (words ∷ more) = as_away (cut_words words)

-- whether two texts are the same, or both none
abbrev pub is_same_text : Option (List ℕ) → Option (List ℕ) → Bool
is_same_text None None = true
is_same_text (Some one) (Some other) = pointwise nat_eq one other
is_same_text one other = false

-- what a user is told, also where it was so already
abbrev pub away_reply : Option (List ℕ) → Reply
away_reply None = UnAway
away_reply (Some text) = NowAway

-- what makes a user away with a text, or back without one, where it is not so already
abbrev pub made_away : User → Option (List ℕ) → List Act
made_away me text =
    if is_same_text me.set.away text then [] else Do (ChangeUser me.nick (Away text)) ∷ []

-- what comes of a text that is given, or of none
abbrev pub away_taken : User → Option (List ℕ) → List Act
away_taken me text = Answer (away_reply text) ∷ made_away me text

-- what an AWAY does (RFC 2812 section 4.1)
unfoldable pub away_steps : User → List (List ℕ) → List Act
away_steps me params = away_taken me (away_given params)
