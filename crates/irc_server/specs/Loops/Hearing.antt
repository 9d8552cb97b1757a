-- What the code that reads lines of a link gives.
use Rattle.std.specs.Prelude.{◌≡◌, ⊤, ℕ, Result, Ok, Err, List, [], unwrap_or}
use Rattle.std.specs.declared.alloc.AllocError.{AllocError}
use Rattle.irc_burst.specs.Loops.Deeds.{told_of_deeds}
use Rattle.irc_link_words.specs.declared.openings.Opening.{Opening}
use Rattle.irc_link_words.specs.Peers.{refusal}
use Rattle.irc_stage.specs.View.{End, View, password_for}
use Rattle.irc_server.specs.declared.heard.Heard.{Heard as Code}
use Rattle.irc_server.specs.declared.heard.Heard.TheVariants as code
use Rattle.irc_server.specs.Heard.{Heard, ignored, closes, password, meets, tells, met_unless}
use Rattle.irc_server.specs.Heard.{opened}

-- what the code's value says
abbrev pub heard_of : Code → Heard
heard_of code.Nothing = ignored
heard_of (code.Closes why) = closes why
heard_of (code.Password word) = password word
heard_of (code.Meets name info) = meets name info
heard_of (code.Tells deeds) = tells (told_of_deeds deeds.items)

-- what is heard, unless memory ran out
abbrev pub IsHeard : Result Code AllocError → Heard → Type 0
IsHeard (Ok code) heard = heard_of code ≡ heard
IsHeard (Err given) heard = ⊤

abbrev pub given_of : End → List ℕ
given_of end = unwrap_or end.password []

-- the handshake's second line
abbrev pub greeted : View → End → List ℕ → List ℕ → Heard
greeted view end name info =
    met_unless (refusal (password_for view name) (given_of end) view.routes name) name info

abbrev pub opened_as : View → End → Opening → Heard
opened_as view end opening = opened view end (Ok opening)
