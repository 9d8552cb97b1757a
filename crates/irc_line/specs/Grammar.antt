-- How a line is read as a message (RFC 2812 section 2.3.1): a grammar with one case for each rule.
-- Lenient where the standard is not (our own choice): several spaces count as one, spaces may stand
-- before the message and at its end, any byte but NUL may stand in a word, and the standard's words
-- are not checked here.
use Rattle.std.specs.Prelude.{◌≡◌, ◌≢◌, ℕ, ◌<◌, ◌-◌, Bool, true, false, not, ◌||◌, Some, None}
use Rattle.std.specs.Prelude.{Result, Ok, Err, List, [], ◌∷◌, ◌++◌}
use Rattle.std.specs.List.{list_all}
use Rattle.irc_line.specs.Limits.{max_parameters}
use Rattle.irc_line.specs.declared.reading.LineFault.{LineFault}
use Rattle.irc_line.specs.declared.reading.LineFault.TheVariants.{Empty, NoCommand, HasNul}
use Rattle.irc_line.specs.Bytes.{is_space, is_colon, has_nul, begins, colon}
use Rattle.irc_line.specs.Messages.{Parsed}

abbrev pub is_word_byte : ℕ → Bool
is_word_byte b = not (is_space b)

-- nothing but spaces, or nothing
abbrev pub IsGap : List ℕ → Type 0
IsGap gap = list_all is_space gap ≡ true

-- a run of bytes without a space, perhaps of none
abbrev pub HasNoSpace : List ℕ → Type 0
HasNoSpace word = list_all is_word_byte word ≡ true

-- what stands behind a whole word: nothing, or a space comes next
abbrev pub EndsWord : List ℕ → Type 0
EndsWord more = begins is_word_byte more ≡ false

-- The text behind a command holds these parameters, where room is left for so many.
pub data ReadsParams : ℕ → List ℕ → List (List ℕ) → Type 0 where
  -- spaces at the end give no parameter
  no_more : (room : ℕ) (text : List ℕ) → IsGap text → ReadsParams room text []
  -- a parameter that begins with a colon is the rest of the line behind it, and the last
  behind_colon : (room : ℕ) (text gap rest : List ℕ) → IsGap gap → text ≡ gap ++ colon ∷ rest
      → ReadsParams room text (rest ∷ [])
  -- the last that there is room for is the rest of the line
  the_rest : (room : ℕ) (text gap rest : List ℕ) → room ≡ 1 → IsGap gap → rest ≢ []
      → begins (λ b. is_space b || is_colon b) rest ≡ false → text ≡ gap ++ rest
      → ReadsParams room text (rest ∷ [])
  -- a word, and what the text behind it holds
  one_word : (room : ℕ) (text gap word more : List ℕ) (params : List (List ℕ))
      → 1 < room → IsGap gap → word ≢ [] → HasNoSpace word → begins is_colon word ≡ false
      → EndsWord more → text ≡ gap ++ (word ++ more) → ReadsParams (room - 1) more params
      → ReadsParams room text (word ∷ params)

-- the text begins with this command, behind which stand these parameters
pub record CommandAt (text command : List ℕ) (params : List (List ℕ)) : Type 0 where
  pub more : List ℕ
  pub is_some : command ≢ []
  pub no_space : HasNoSpace command
  pub whole : EndsWord more
  pub text_is : text ≡ command ++ more
  pub params_are : ReadsParams max_parameters more params

-- A line is read as this message.
pub data Reads : List ℕ → Parsed → Type 0 where
  -- a command, and its parameters
  plain : (line gap text command : List ℕ) (params : List (List ℕ))
      → has_nul line ≡ false → IsGap gap → begins is_colon text ≡ false
      → line ≡ gap ++ text → CommandAt text command params
      → Reads line (record { prefix = None; command = command; params = params })
  -- a first colon begins a prefix, perhaps an empty one, that ends at the next space
  prefixed : (line gap prefix between text command : List ℕ) (params : List (List ℕ))
      → has_nul line ≡ false → IsGap gap → HasNoSpace prefix → IsGap between → between ≢ []
      → line ≡ gap ++ (colon ∷ (prefix ++ (between ++ text))) → CommandAt text command params
      → Reads line (record { prefix = Some prefix; command = command; params = params })

-- a prefix, and no command behind it
pub record IsPrefixAlone (line : List ℕ) : Type 0 where
  pub gap : List ℕ
  pub prefix : List ℕ
  pub after : List ℕ
  pub gap_is : IsGap gap
  pub prefix_is : HasNoSpace prefix
  pub after_is : IsGap after
  pub line_is : line ≡ gap ++ (colon ∷ (prefix ++ after))

-- What a line is read as: a message, or the fault that it has. A NUL is looked for first.
abbrev pub IsReadAs : List ℕ → Result Parsed LineFault → Type 0
IsReadAs line (Ok message) = Reads line message
IsReadAs line (Err HasNul) = has_nul line ≡ true
IsReadAs line (Err Empty) = (has_nul line ≡ false) × IsGap line
IsReadAs line (Err NoCommand) = (has_nul line ≡ false) × IsPrefixAlone line
