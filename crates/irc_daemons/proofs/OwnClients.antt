-- What a server puts out comes to its own clients alone, whatever happens; and so does all that it
-- puts out as it hears lines of a link, one after another.
use Rattle.std.proofs.Common.{◌≡◌, ℕ, Bool, true, false, is_some, List, [], ◌∷◌, ◌++◌, refl}
use Rattle.std.proofs.Common.{sym, ◌∙◌, ap, if◌then◌else◌}
use Rattle.std.proofs.lemmas.Grind.{flat_map-append}
use Rattle.std.specs.FinMap.{get}
use Rattle.irc_names.specs.Lemmas.PlainFacts.{or_first}
use Rattle.irc_line.specs.Reading.{read_of}
use Rattle.irc_stage.specs.Ways.{AreEnds}
use Rattle.irc_server.specs.Served.{ReadEvent, link_says, served}
use Rattle.irc_server.specs.Connected.{client_comes}
use Rattle.irc_server.specs.Own.{ServedGoesToItsOwn, ServedKeepsEnds}
use Rattle.irc_network.specs.Node.{Served, reply, serves_read_event}
use Rattle.irc_stage.specs.View.{View}
use Rattle.irc_daemons.specs.Alike.{bytes_to, client_bytes}
use Rattle.irc_daemons.specs.Clients.{ClientsStay}
use Rattle.irc_daemons.proofs.Silence.{nobody_gets}
use Rattle.irc_daemons.proofs.WhoStays.{is_new}

abbrev replied : Bool → View → ReadEvent → Served
replied b view read_event =
    if b then record { state = (served view read_event).state; out = (served view read_event).out }
    else record { state = view; out = [] }

-- ---- upon one event, as it is read

-- each server that it knows stays behind a link that counts
pub reply_keeps_ends : ServedKeepsEnds
    → (view : View) (read_event : ReadEvent) → AreEnds view.ends view.routes
    → AreEnds (reply view read_event).state.ends (reply view read_event).state.routes
reply_keeps_ends keeps view read_event ends = by (serves_read_event view read_event) refl
  where
    by : (b : Bool) → serves_read_event view read_event ≡ b
        → AreEnds (replied b view read_event).state.ends (replied b view read_event).state.routes
    by true serves = keeps view read_event ends (is_new view read_event serves)
    by false serves = ends

-- ---- upon lines of a link

-- what a server is once it has heard them, and all that it has put out by then
abbrev pub then_reply : Served → Served → Served
then_reply first rest = record { state = rest.state; out = first.out ++ rest.out }

abbrev pub all_replies : ℕ → View → List (List ℕ) → Served
all_replies from view [] = record { state = view; out = [] }
all_replies from view (line ∷ lines) =
    then_reply (reply view (link_says from (read_of line)))
    (all_replies from (reply view (link_says from (read_of line))).state lines)

pub all_keep_ends : ServedKeepsEnds
    → (from : ℕ) (view : View) (lines : List (List ℕ)) → AreEnds view.ends view.routes
    → AreEnds (all_replies from view lines).state.ends (all_replies from view lines).state.routes
all_keep_ends keeps from view [] ends = ends
all_keep_ends keeps from view (line ∷ lines) ends =
    all_keep_ends keeps from (reply view (link_says from (read_of line))).state lines
    (reply_keeps_ends keeps view (link_says from (read_of line)) ends)

-- no client comes by a line of a link
nobody_comes : ClientsStay → (from : ℕ) (view : View) (line : List ℕ) (client : ℕ)
    → is_some (get view.clients client) ≡ false
    → is_some (get (reply view (link_says from (read_of line))).state.clients client) ≡ false
nobody_comes stay from view line client none = by (serves_read_event view it) refl
  where
    it : ReadEvent
    it = link_says from (read_of line)

    there : (b : Bool) → serves_read_event view it ≡ true
        → is_some (get (served view it).state.clients client) ≡ b → b ≡ false
    there true serves is =
        let known = stay view it client serves is in
        cc (sym none ∙ or_first (is_some (get view.clients client))
        (client_comes client it) refl known.was)
    there false serves is = refl

    by : (b : Bool) → serves_read_event view it ≡ b
        → is_some (get (replied b view it).state.clients client) ≡ false
    by true serves = there (is_some (get (served view it).state.clients client)) serves refl
    by false serves = none

pub all_bring_nobody : ClientsStay → (from : ℕ) (view : View) (lines : List (List ℕ)) (client : ℕ)
    → is_some (get view.clients client) ≡ false
    → is_some (get (all_replies from view lines).state.clients client) ≡ false
all_bring_nobody stay from view [] client none = none
all_bring_nobody stay from view (line ∷ lines) client none =
    all_bring_nobody stay from (reply view (link_says from (read_of line))).state lines client
    (nobody_comes stay from view line client none)

-- who was no client gets nothing of it
pub all_to_own : ServedGoesToItsOwn → ClientsStay → ServedKeepsEnds → (from : ℕ) (view : View)
    (lines : List (List ℕ)) (client : ℕ) → AreEnds view.ends view.routes → is_some
    (get view.clients client) ≡ false → client_bytes client (all_replies from view lines).out ≡ []
all_to_own own_law stay keeps from view [] client ends none = refl
all_to_own own_law stay keeps from view (line ∷ lines) client ends none =
    let it : ReadEvent = link_says from (read_of line) in
    let first : Served = reply view it in
    flat_map-append (bytes_to client) first.out (all_replies from first.state lines).out
    ∙ ap (λ bs. bs ++ client_bytes client (all_replies from first.state lines).out)
    (nobody_gets own_law view it ends client none)
    ∙ all_to_own own_law stay keeps from first.state lines client
    (reply_keeps_ends keeps view it ends) (nobody_comes stay from view line client none)
