-- The code's table of neighbours' numbers, in order of link and number.
use Rattle.std.specs.Prelude.{◌≡◌, ℕ, Bool, not, Option, Some, None, List, [], ◌∷◌, filter, nat_eq}
use Rattle.std.specs.Option.{option_map}
use Rattle.irc_names.specs.Tables.{row, alter}
use Rattle.irc_tables.specs.FoldedRows.{table_of, IsInFoldedOrder}
use Rattle.irc_routes.specs.About.{About}
use Rattle.irc_routes.specs.Known.{Known, ServerRow, token_in}
use Rattle.irc_routes.specs.Loops.Rows.{known_by, IsKept}
-- the link, the number that the neighbour on it has for a server, and the server's name
pub use Rattle.irc_routes.specs.declared.tokens.TokenRow.{TokenRow}

-- a link and a number on it, as a key
abbrev pub token_key : ℕ → ℕ → List ℕ
token_key link token = link ∷ token ∷ []

abbrev pub token_entry : TokenRow → List ℕ × TokenRow
token_entry t = (token_key t.link t.token, t)

-- the row of a number on a link, and the name of the server that it stands for
abbrev pub row_at : List TokenRow → ℕ → ℕ → Option TokenRow
row_at tokens link token = row (table_of token_entry tokens) (token_key link token)

abbrev pub server_at : List TokenRow → ℕ → ℕ → Option (List ℕ)
server_at tokens link token = option_map (λ (t : TokenRow). t.name) (row_at tokens link token)

-- there is one number more
abbrev pub HasToken : TokenRow → List TokenRow → List TokenRow → Type 0
HasToken new old now = table_of token_entry now ≡ alter (token_key new.link new.token)
    (λ _. Some new) (table_of token_entry old)

-- the number of a server's row stands for it, and nothing else has changed
pub record HasServer (server : ServerRow) (old now : List TokenRow) : Type 0 where
  pub ordered : IsInFoldedOrder token_entry now
  pub told : HasToken
      (record { link = server.link; token = server.token; name = server.name }) old now

-- there is no such number on a link
abbrev pub IsWithoutToken : ℕ → ℕ → List TokenRow → List TokenRow → Type 0
IsWithoutToken link token old now =
    table_of token_entry now ≡ alter (token_key link token) (λ _. None) (table_of token_entry old)

abbrev pub is_on : ℕ → TokenRow → Bool
is_on link t = nat_eq t.link link

-- none of the numbers is on a link
abbrev pub AreElsewhere : ℕ → List TokenRow → List TokenRow → Type 0
AreElsewhere link old now = now ≡ filter (λ t. not (is_on link t)) old

-- the table tells of each number on each link what the rows of the servers tell of it
pub record AreTold (known : Known) (tokens : List TokenRow) : Type 0 where
  pub ordered : IsInFoldedOrder token_entry tokens
  pub told : (link token : ℕ) → server_at tokens link token ≡ token_in known link token

-- what the code's fields always keep
pub record IsTied (name : List ℕ) (about : About) (rows : List ServerRow)
    (tokens : List TokenRow) : Type 0 where
  pub kept : IsKept name about rows
  pub told : AreTold (known_by name about rows) tokens
