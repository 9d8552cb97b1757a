-- What a client asks is answered.
use Rattle.std.specs.Prelude.{◌≡◌, ℕ, Option, List, ◌++◌}
use Rattle.std.specs.Option.{option_and_then, option_map}
use Rattle.irc_names.specs.Fold.{key}
use Rattle.irc_names.specs.Tables.{row}
use Rattle.irc_line.specs.MessageViews.{optional_now}
use Rattle.irc_users.specs.declared.user.User.{User}
use Rattle.irc_room.specs.Room.{Room}
use Rattle.irc_routes.specs.Known.{place_of}
use Rattle.irc_batch.specs.Batches.{Batch}
use Rattle.irc_queries.specs.declared.query.Query.{Query}
use Rattle.irc_queries.specs.Said.{all_said}
use Rattle.irc_commands.specs.CodeViews.{asked_steps}
use Rattle.irc_stage.specs.declared.origin.Speaker.{Speaker}
use Rattle.irc_stage.specs.declared.parts.ServerParts.{ServerParts}
use Rattle.irc_stage.specs.View.{View}
use Rattle.irc_stage.specs.Loops.Parts.{view_of}

-- the user of this nickname
abbrev pub user_under : Room → Option (List ℕ) → Option User
user_under room nick = option_and_then (λ n. row room.users (key n)) nick

abbrev pub nick_under : Room → Option (List ℕ) → Option (List ℕ)
nick_under room nick = option_map (λ (user : User). user.nick) (user_under room nick)

-- From what was put out before to what is put out now, that user is told what it asks, if it asks
-- something.
abbrev pub IsAnsweredAt : View → Option (List ℕ) → ℕ → List (List ℕ) → Option Query → Batch → Batch
    → Type 0
IsAnsweredAt view nick conn params query old new =
    let place = place_of view.routes in
    new.outs ≡ old.outs ++ all_said place (nick_under view.room nick) conn
    (asked_steps view.room place (user_under view.room nick) params query)

abbrev pub AnswersSpeaker : Speaker → Option Query → List (List ℕ) → ServerParts → Batch → Batch
    → Type 0
AnswersSpeaker speaker query params stage old new =
    IsAnsweredAt (view_of stage) (optional_now speaker.nick) speaker.conn params query old new
