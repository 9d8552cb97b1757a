-- What steps say to the client itself, line by line.
use Rattle.std.specs.Prelude.{◌≡◌, ℕ, Option, Some, List, [], ◌∷◌, ◌++◌}
use Rattle.std.specs.List.{flat_map}
use Rattle.irc_batch.specs.Batches.{Batch, Sent, line_to}
use Rattle.irc_numerics.specs.Replies.{reply_text}
use Rattle.irc_routes.specs.Known.{place_of}
use Rattle.irc_routes.specs.Place.{Place}
use Rattle.irc_acts.specs.declared.act.Act.{Act}
use Rattle.irc_acts.specs.declared.act.Act.TheVariants.{Answer, Raw, Do}
use Rattle.irc_acts.specs.declared.context.Context.{Context}
use Rattle.irc_queries.specs.declared.query.Query.{Query}
use Rattle.irc_queries.specs.Query.{query_steps}

-- a reply is sent to this name, from the server (RFC 2812 section 5); an effect is shown, and says
-- nothing here
abbrev pub step_said : Place → Option (List ℕ) → ℕ → Act → List Sent
step_said place name conn (Answer reply) = line_to conn (reply_text place.name name reply) ∷ []
step_said place name conn (Raw line) = line_to conn line.items ∷ []
step_said place name conn (Do effect) = []

abbrev pub all_said : Place → Option (List ℕ) → ℕ → List Act → List Sent
all_said place name conn acts = flat_map (step_said place name conn) acts

-- From what was put out before to what is put out now, these steps say something more to the user
-- that asks, on its connection.
abbrev pub SaysSteps : Context → List Act → ℕ → Batch → Batch → Type 0
SaysSteps context acts conn old new = new.outs ≡ old.outs
    ++ all_said (place_of context.routes.now) (Some context.me.now.nick) conn acts

-- A query of that user is answered.
abbrev pub AnswersQuery : Context → Query → List (List ℕ) → ℕ → Batch → Batch → Type 0
AnswersQuery context query params conn old new =
    SaysSteps context (query_steps context.room.now.room
    (place_of context.routes.now) context.me.now params query) conn old new
