-- What is so of each line of a link when its turn comes: its bytes are a line, it closes no link,
-- and what is put out upon it goes to the server's own clients and on its links alone. On the link
-- by which it came goes what was owed there, and perhaps one line more: the KILL of a nickname that
-- is on both sides (RFC 2812 section 3.7.1).
--
-- a.net and b.net are being linked, a.net calling; bo is at both:
--   SERVER of a.net comes to b.net     b.net puts out PASS, SERVER and its burst on that link: just
--                                      what it owed, and it owes nothing there any more
--   SERVER of b.net comes to a.net     a.net puts out its burst there: just what it owed
--   NICK of b.net's bo comes to a.net  a.net puts out `:a.net KILL bo :Nick collision`, which goes
--                                      back; when it comes to b.net nobody there has the nickname
--                                      any more
use Rattle.std.specs.Prelude.{◌≡◌, ◌≢◌, ◌⊎◌, ℕ, Bool, false, true, Option, Some, None, List, []}
use Rattle.std.specs.Prelude.{◌∷◌, ◌++◌}
use Rattle.std.specs.FinMap.{get}
use Rattle.std.specs.List.{filter_map, AllByRecursion}
use Rattle.irc_batch.specs.Batches.{Sent, end_of_link}
use Rattle.irc_batch.specs.declared.close_reason.CloseReason.{CloseReason}
use Rattle.irc_line.specs.Lines.{IsLine}
use Rattle.irc_line.specs.Reading.{read_of}
use Rattle.irc_relay.specs.Links.{Name, Link, AreLinked}
use Rattle.irc_relay.specs.Relay.{AnswersOnce}
use Rattle.irc_routes.specs.Known.{Known}
use Rattle.irc_stage.specs.View.{End, View}
use Rattle.irc_stage.specs.EffectTold.{Served}
use Rattle.irc_server.specs.Heard.{heard, tells}
use Rattle.irc_server.specs.Owed.{lines_to}
use Rattle.irc_world.specs.World.{World}
use Rattle.irc_follow.specs.AtRest.{side_state_of}
use Rattle.irc_follow.specs.Fits.{Fits}
use Rattle.irc_follow.specs.SideState.{ItemSetting, number, is_home_of}
use Rattle.irc_follow.specs.Says.{neighbour_served, lines_on}
use Rattle.irc_items.specs.Relayed.{is_met_with, owed_to}

-- why a link is closed
abbrev pub reason_of : Sent → Option CloseReason
reason_of (end_of_link link why) = Some why
reason_of other = None

abbrev pub closings : List Sent → List CloseReason
closings out = filter_map reason_of out

-- What is put out on another link is behind all that is owed there: nothing is owed, or nothing is
-- put out.
pub record PaysNothing (s : ItemSetting) (view : View) (after : Served) (u : Name) : Type 0 where
  pub owes_as_before : owed_to s after.state u ≡ owed_to s view u
  pub in_turn : (lines_on (number s u) after.out ≡ []) ⊎ (owed_to s view u ≡ [])

-- `back` goes back on the link of p, by which the line came
pub record IsGoodReply (s : ItemSetting) (links : List Link) (p t : Name) (view : View)
    (after : Served)
    (back : List (List ℕ)) : Type 0 where
  pub closes_none : closings after.out ≡ []
  pub to_linked : (u : Name) (line : List ℕ) (lines : List (List ℕ))
      → lines_on (number s u) after.out ≡ line ∷ lines → AreLinked links t u
  pub to_own : (client : ℕ) (line : List ℕ) (lines : List (List ℕ))
      → lines_to client after.out ≡ line ∷ lines → is_home_of s.homes t client ≡ true
  pub pays : lines_on (number s p) after.out ++ owed_to s after.state p ≡ owed_to s view p ++ back
  pub others : (u : Name) → u ≢ p → PaysNothing s view after u
  pub met_stay : (u : Name) → is_met_with s view u ≡ true → is_met_with s after.state u ≡ true

-- ---- what goes back

-- which lines may be answered, and between which two servers
pub record Answering : Type 0 where
  pub answered : List ℕ → Bool
  pub one : Name
  pub other : Name

-- no line is answered
abbrev pub no_answers : Answering
no_answers = record { answered = λ line. false; one = []; other = [] }

-- a line of t does nothing at such a server
pub record IsUnheard (s : ItemSetting) (t : Name) (view : View) (line : List ℕ) : Type 0 where
  pub is_line : IsLine line
  pub end : End
  pub is_end : get view.ends (number s t) ≡ Some end
  pub nothing : heard view (number s t) end (read_of line) ≡ tells []

-- One line at most goes back, upon one that may be answered, from one end of a new link to the
-- other. There it does nothing, once that end is what it is to be in this world: nobody is left
-- whom it is about.
pub record IsAnswered (s : ItemSetting) (asks : Answering) (world : World) (routes : Name → Known)
    (p t : Name) (line : List ℕ) (back : List (List ℕ))
    : Type 0 where
  pub once : AnswersOnce asks.answered asks.one asks.other p t line back
  pub to_end : (next : List ℕ) (lines : List (List ℕ)) → back ≡ next ∷ lines
      → (s.streams.parent p ≡ t) × (s.streams.depth p ≡ 1)
  pub unheard : (view : View) → Fits s p (side_state_of s world routes p) view
      → AllByRecursion (IsUnheard s t view) back

-- of a line that t takes from p
pub record IsGoodLine (s : ItemSetting) (asks : Answering) (world : World) (routes : Name → Known)
    (p t : Name) (view : View) (line : List ℕ) : Type 0 where
  pub is_line : IsLine line
  pub end : End
  pub is_end : get view.ends (number s p) ≡ Some end
  pub back : List (List ℕ)
  pub good : IsGoodReply s world.links p t view (neighbour_served s p view line) back
  pub answer : IsAnswered s asks world routes p t line back
