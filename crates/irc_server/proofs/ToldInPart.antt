-- A decision whose query is answered before its steps are taken comes to the same.
use Rattle.std.proofs.Common.{◌≡◌, ℕ, Bool, Option, Some, None, List, [], ◌∷◌, ◌++◌, refl, sym, ◌∙◌}
use Rattle.std.proofs.Common.{ap}
use Rattle.std.proofs.Common.{append-nil, append_assoc, subst}
use Rattle.std.specs.Borrow.{Bor}
use Rattle.irc_numerics.specs.Replies.{reply_text}
use Rattle.irc_users.specs.declared.user.User.{User}
use Rattle.irc_line.specs.Messages.{Parsed}
use Rattle.irc_line.specs.MessageViews.{optional_now}
use Rattle.irc_room.specs.Room.{Room}
use Rattle.irc_room.specs.effect.Effect.{Effect}
use Rattle.irc_routes.specs.Known.{Known, place_of}
use Rattle.irc_routes.specs.Place.{Place}
use Rattle.irc_acts.specs.declared.act.Act.{Act}
use Rattle.irc_acts.specs.declared.act.Act.TheVariants.{Answer, Raw, Do}
use Rattle.irc_acts.specs.Acts.{effects_among}
use Rattle.irc_queries.specs.declared.query.Query.{Query}
use Rattle.irc_queries.specs.Laws.QueryLaw.{query_only_answers}
use Rattle.irc_queries.specs.Said.{all_said}
use Rattle.irc_commands.specs.declared.decision.Decision.{Decision}
use Rattle.irc_commands.specs.CodeViews.{asked_steps, IsDecision}
use Rattle.irc_commands.specs.Decide.{decide}
use Rattle.irc_commands.specs.Decisions.{Decided}
use Rattle.irc_batch.specs.Batches.{line_to}
use Rattle.irc_stage.specs.declared.origin.Speaker.{Speaker}
use Rattle.irc_stage.specs.RoomMachine.{RoomMachine}
use Rattle.irc_stage.specs.ClientTold.{closed_told, decision_told, step_told, steps_told}
use Rattle.irc_stage.specs.EffectTold.{Served, in_silence, with_sent}
use Rattle.irc_stage.specs.View.{View}
use Rattle.irc_stage.specs.Loops.Handling.{answered_to}
use Rattle.irc_stage.specs.Loops.Asking.{nick_under, user_under}
use Rattle.irc_stage.specs.Loops.Parts.{AreInTurn}

-- What is decided is told in part: the first steps, which only say something to the client, are put
-- out, and the others are left to do.
pub record IsToldInPart (name : Option (List ℕ)) (conn : ℕ) (want : Decided) (old new : Served)
    (left : Decided) : Type 0 where
  pub told : List Act
  pub is_only_said : effects_among told ≡ []
  pub want_is : want ≡ record left { steps = told ++ left.steps }
  pub new_is : new ≡ with_sent (all_said (place_of old.state.routes) name conn told) old

-- the steps of a decision, without its query
abbrev pub decided_of : Decision → Decided
decided_of d = record { steps = d.steps.items; close = d.close }

-- what answers a query only says something
only_said : (room : Room) (place : Place) (me : Option User) (params : List (List ℕ))
    (query : Option Query) → effects_among (asked_steps room place me params query) ≡ []
unfolding asked_steps
only_said room place me params None = refl
only_said room place None params (Some query) = refl
only_said room place (Some me) params (Some query) = query_only_answers room place me params query

-- steps that only say something put out what they say
said_first : (conn : ℕ) (name : Option (List ℕ)) (told rest : List Act) (s : Served)
    → effects_among told ≡ [] → steps_told conn name (told ++ rest) s ≡ steps_told conn name rest
    (record s { out = s.out ++ all_said (place_of s.state.routes) name conn told })
said_first conn name [] rest s none =
    ap (λ out. steps_told conn name rest (record s { out = out })) (sym (append-nil s.out))
said_first conn name (Answer reply ∷ told) rest s none =
    said_first conn name told rest (step_told conn name (Answer reply) s) none
    ∙ ap (λ out. steps_told conn name rest (record s { out = out }))
    (append_assoc s.out (line_to conn (reply_text s.state.routes.name name reply) ∷ [])
    (all_said (place_of s.state.routes) name conn told))
said_first conn name (Raw line ∷ told) rest s none =
    said_first conn name told rest (step_told conn name (Raw line) s) none
    ∙ ap (λ out. steps_told conn name rest (record s { out = out }))
    (append_assoc s.out (line_to conn line.items ∷ [])
    (all_said (place_of s.state.routes) name conn told))
said_first conn name (Do effect ∷ told) rest s none = cc none

pub so_left : (IsSo : RoomMachine → Effect → Type 0) (machine : RoomMachine) (told rest : List Act)
    → effects_among told ≡ [] → AreInTurn IsSo machine (told ++ rest) → AreInTurn IsSo machine rest
so_left IsSo machine [] rest none are = are
so_left IsSo machine (Answer reply ∷ told) rest none are = so_left IsSo machine told rest none are
so_left IsSo machine (Raw line ∷ told) rest none are = so_left IsSo machine told rest none are
so_left IsSo machine (Do effect ∷ told) rest none are = cc none

pub carried_in_part : (after : Served) (conn : ℕ) (name known : Option (List ℕ)) (acts : List Act)
    (want left : Decided) (old between : Served) → acts ≡ left.steps → known ≡ name
    → IsToldInPart known conn want old between left
    → after ≡ closed_told left.close conn (steps_told conn name acts between)
    → after ≡ decision_told conn name want old
carried_in_part after conn name known acts want left old between acts_are known_is part is =
    is
    ∙ ap (λ a. closed_told left.close conn (steps_told conn name a between)) acts_are
    ∙ ap (λ (s : Served). closed_told left.close conn (steps_told conn name left.steps s))
    part.new_is
    ∙ ap (λ n. closed_told left.close conn (steps_told conn name left.steps
    (with_sent (all_said (place_of old.state.routes) n conn part.told) old))) known_is
    ∙ ap (closed_told left.close conn)
    (sym (said_first conn name part.told left.steps old part.is_only_said))
    ∙ ap (λ (d : Decided). closed_told d.close conn (steps_told conn name d.steps old))
    (sym part.want_is)

-- a decision whose query is answered is told in part
pub answered_first : (view : View) (room : Room) (known : Known) (nick : Bor (List ℕ)) (conn : ℕ)
    (speaker : Speaker) (message : Parsed) (params : List (List ℕ)) (d : Decision)
    (before between : Served) → room ≡ view.room → known ≡ view.routes
    → speaker ≡ record { conn = conn; nick = Some nick } → params ≡ message.params
    → IsDecision room (place_of known) nick.now message d → before ≡ in_silence view
    → between ≡ answered_to speaker d.query params before
    → IsToldInPart (nick_under view.room (Some nick.now)) conn
    (decide view.room (place_of view.routes) nick.now message) (in_silence view) between
    (decided_of d)
answered_first view room known nick conn speaker message params d before between room_is known_is
    speaker_is params_are is silent answered =
    let here = view.room in
    let place = place_of view.routes in
    let me = user_under here (Some nick.now) in
    record {
      told = asked_steps here place me message.params d.query;
      is_only_said = only_said here place me message.params d.query;
      want_is =
          subst (λ (k : Known). IsDecision here (place_of k) nick.now message d) known_is
          (subst (λ (r : Room). IsDecision r (place_of known) nick.now message d) room_is is);
      new_is =
          answered ∙ ap (λ (who : Speaker). answered_to who d.query params before) speaker_is
          ∙ ap (answered_to (record { conn = conn; nick = Some nick }) d.query params) silent
          ∙ ap (λ words. answered_to (record { conn = conn; nick = Some nick }) d.query words
          (in_silence view)) params_are;
    }

-- what a speaker does is done by its connection and its nickname
pub carried_by : (speaker : Speaker) (nick : Bor (List ℕ)) (conn : ℕ) (acts : List Act)
    (close : Bool) (before after : Served) → speaker ≡ record { conn = conn; nick = Some nick }
    → after ≡ closed_told close speaker.conn
    (steps_told speaker.conn (optional_now speaker.nick) acts before)
    → after ≡ closed_told close conn (steps_told conn (Some nick.now) acts before)
carried_by speaker nick conn acts close before after speaker_is is =
    is ∙ ap (λ (who : Speaker). closed_told close who.conn
    (steps_told who.conn (optional_now who.nick) acts before)) speaker_is
