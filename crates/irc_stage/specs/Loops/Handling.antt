-- What the code makes of a server while it handles an event, and of what it has put out.
use Rattle.std.specs.Prelude.{◌≡◌, ℕ, Bool, Option, List, [], ◌∷◌}
use Rattle.irc_batch.specs.Batches.{end_of_link, line_on}
use Rattle.irc_batch.specs.declared.batch.Batch.{Batch}
use Rattle.irc_batch.specs.declared.close_reason.CloseReason.{CloseReason}
use Rattle.irc_line.specs.MessageViews.{optional_now}
use Rattle.irc_commands.specs.CodeViews.{asked_steps}
use Rattle.irc_queries.specs.declared.query.Query.{Query}
use Rattle.irc_queries.specs.Said.{all_said}
use Rattle.irc_routes.specs.declared.newcomer.Newcomer.{Newcomer}
use Rattle.irc_routes.specs.Known.{place_of}
use Rattle.irc_stage.specs.declared.clients.Client.{Client}
use Rattle.irc_stage.specs.declared.origin.Speaker.{Speaker}
use Rattle.irc_stage.specs.declared.parts.ServerParts.{ServerParts}
use Rattle.irc_stage.specs.ClientTold.{seated, unseated}
use Rattle.irc_stage.specs.EffectTold.{Served, with_sent}
use Rattle.irc_stage.specs.Ways.{but, met_links}
use Rattle.irc_stage.specs.View.{View}
use Rattle.irc_stage.specs.Loops.Asking.{nick_under, user_under}
use Rattle.irc_stage.specs.Loops.Linking.{takes_newcomer, view_with}
use Rattle.irc_stage.specs.Loops.Parts.{lines_on, IsServing}

-- a server between two events: it serves, and nothing is put out
pub record IsAtRest (parts : ServerParts) (out : Batch) : Type 0 where
  pub serving : IsServing parts
  pub silent : out.outs ≡ []

-- the server is another, and what is put out is the same
abbrev pub where_it_is : View → Served → Served
where_it_is view s = record s { state = view }

-- a connection is this client from now on, or is none
abbrev pub seated_in : ℕ → Client → Served → Served
seated_in conn client s = where_it_is (seated conn client s.state) s

abbrev pub unseated_in : ℕ → Served → Served
unseated_in conn s = where_it_is (unseated conn s.state) s

-- a user is told what it asks, if it asks something
abbrev pub answered_to : Speaker → Option Query → List (List ℕ) → Served → Served
answered_to speaker query params s =
    let place = place_of s.state.routes in
    let nick = optional_now speaker.nick in
    with_sent (all_said place (nick_under s.state.room nick) speaker.conn
    (asked_steps s.state.room place (user_under s.state.room nick) params query)) s

-- a line on every link that counts, but for one
abbrev pub told_to_all : Option ℕ → List ℕ → Served → Served
told_to_all arrival line s = with_sent (lines_on (but arrival (met_links s.state.ends)) line) s

-- a line on one link, and the end of one
abbrev pub told_on : ℕ → List ℕ → Served → Served
told_on link line s = with_sent (line_on link line ∷ []) s

abbrev pub closed_for : ℕ → CloseReason → Served → Served
closed_for link reason s = with_sent (end_of_link link reason ∷ []) s

-- A server more is known from now on, where it is taken.
pub record IsGained (link : ℕ) (newcomer : Newcomer) (old : Served) (is_known : Bool) (new : Served)
    : Type 0 where
  pub known_is : is_known ≡ takes_newcomer link newcomer old.state
  pub new_is : new ≡ where_it_is (view_with link is_known newcomer old.state) old
