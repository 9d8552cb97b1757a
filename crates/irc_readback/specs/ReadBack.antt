-- What is written on a link of an effect is read as that effect (RFC 2813 section 4): of which
-- effects, and by which readers.
use Rattle.std.specs.Prelude.{◌≡◌, ℕ, true, false, ⊤, is_some, Bool, Ok, List, [], ◌∷◌}
use Rattle.std.specs.List.{list_all}
use Rattle.std.specs.Option.{option_map_or, IfSome}
use Rattle.irc_line.specs.Lines.{IsLine}
use Rattle.irc_line.specs.Messages.{line_text, message_of}
use Rattle.irc_line.specs.Reading.{read_of}
use Rattle.irc_room.specs.effect.Effect.{Effect}
use Rattle.irc_room.specs.effect.Effect.TheVariants.{AddUser, ChangeModes, ChangeUser}
use Rattle.irc_room.specs.Effects.{needs_users}
use Rattle.irc_room.specs.Limits.{IsWithinLimits}
use Rattle.irc_room.specs.Room.{Room}
use Rattle.irc_room.specs.Sendable.{IsSendable}
use Rattle.irc_routes.specs.Known.{Known}
use Rattle.irc_link_reader.specs.Means.{is_told_of, means}
use Rattle.irc_link_reader.specs.Reader.{Reader, reader_of}
use Rattle.irc_link_writer.specs.Written.{wire}

-- whether a user is there whose server is behind the link
abbrev pub is_user_far : Reader → List ℕ → Bool
is_user_far reader nick = option_map_or reader.is_far (reader.home nick) false

-- an effect is told of to a reader: what a user changes of itself, as `is_told_of` has it
abbrev pub is_effect_told_of : Reader → Effect → Bool
is_effect_told_of reader (ChangeUser nick change) = is_told_of reader change
is_effect_told_of reader other = true

-- An effect as its writer has it, before it is done there, and a reader of the line.
pub record IsReadable (room : Room) (known : Known) (reader : Reader)
    (effect : Effect) : Type 0 where
  -- the writer's names and texts keep their rules
  pub room_within : IsWithinLimits room
  -- A user does it, and no server; its names are spelled as the writer has them, new ones and its
  -- texts keep their rules.
  pub sendable : IsSendable room effect
  -- each user that it names is known to the reader
  pub users_known : list_all (λ nick. is_some (reader.home nick)) (needs_users effect) ≡ true
  -- whom the line is from, if anybody, is a user whose server is behind the link
  pub doer_far : IfSome (message_of (wire room known effect)).prefix
      (λ nick. is_user_far reader nick ≡ true)
  -- links tell the reader of such an effect
  pub told_of : is_effect_told_of reader effect ≡ true

-- an effect other than that a user comes, or that the modes of a channel change
abbrev pub IsPlainEffect : Effect → Type 0
IsPlainEffect (AddUser user) = ⊥
IsPlainEffect (ChangeModes by channel changes) = ⊥
IsPlainEffect other = ⊤

-- what is written of it is a line that is one message, which means just this effect
pub record IsReadBack (room : Room) (known : Known) (other : Room) (others : Known) (link : ℕ)
    (effect : Effect) : Type 0 where
  pub is_line : IsLine (line_text (wire room known effect))
  pub line : read_of (line_text (wire room known effect)) ≡ Ok (message_of (wire room known effect))
  pub meaning : means other others link (message_of (wire room known effect)) ≡ Ok (effect ∷ [])

abbrev pub WrittenIsReadBack : Type 0
WrittenIsReadBack = (room : Room) (known : Known) (other : Room) (others : Known) (link : ℕ)
    (effect : Effect) → IsPlainEffect effect
    → IsReadable room known (reader_of other others link) effect
    → IsReadBack room known other others link effect
