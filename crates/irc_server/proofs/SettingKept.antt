-- Whatever is served, a server's peers and what it says of itself stay.
use Rattle.std.proofs.Common.{true, false, refl, ◌∙◌}
use Rattle.irc_stage.specs.View.{View}
use Rattle.irc_stage.specs.EffectTold.{Served}
use Rattle.irc_stage.specs.Linked.{unlinked}
use Rattle.irc_stage.specs.ClientTold.{unseated}
use Rattle.irc_server.specs.Served.{ReadEvent, IsSetAlike, ServedKeepsItsSetting}
use Rattle.irc_server.specs.Moves.{Mover, Move, takes_out, Moves, Closings, IsServed, speaks}
use Rattle.irc_server.specs.Moves.{leaves, listens, closes_link, loses_link}
use Rattle.irc_server.specs.Lemmas.ServedByMoves.{kept, served_by_moves}

through : (a b c : View) → IsSetAlike a b → IsSetAlike b c → IsSetAlike a c
through a b c one other = record {
  peers = other.peers ∙ one.peers;
  name = other.name ∙ one.name;
  about = other.about ∙ one.about;
}

-- all but the servers that are known, the ends, the clients and the room
itself : (view : View) → IsSetAlike view view
itself view = record { peers = refl; name = refl; about = refl }

move_keeps : {By : Mover → Type 0} {s t : Served} → Move By s t → IsSetAlike s.state t.state
move_keeps (takes_out arrival nick words true by is) =
    record { peers = refl; name = refl; about = refl }
move_keeps (takes_out arrival nick words false by is) =
    record { peers = refl; name = refl; about = refl }
move_keeps other = record { peers = refl; name = refl; about = refl }

moves_keep : {By : Mover → Type 0} (view : View) {s t : Served} → Moves By s t
    → IsSetAlike view s.state → IsSetAlike view t.state
moves_keep {By} view {s} {t} moves alike =
    kept By (λ now. IsSetAlike view now.state) (λ now later move before.
    through view now.state later.state before (move_keeps move)) moves alike

served_keeps : {view : View} {event : ReadEvent} {closed : Closings} {s : Served}
    → IsServed view event closed s → IsSetAlike view s.state
served_keeps {view} (speaks {s} conn read true clients here same moves) =
    through view s.state (unseated conn s.state)
    (moves_keep view moves (record { peers = refl; name = refl; about = refl }))
    (record { peers = refl; name = refl; about = refl })
served_keeps {view} (speaks conn read false clients here same moves) =
    moves_keep view moves (record { peers = refl; name = refl; about = refl })
served_keeps {view} (leaves conn moves) =
    moves_keep view moves (record { peers = refl; name = refl; about = refl })
served_keeps {view} (listens number read ends lines here still moves) =
    moves_keep view moves (record { peers = refl; name = refl; about = refl })
served_keeps {view} (closes_link {s} number read why here moves) =
    through view s.state (unlinked number s.state) (moves_keep view moves (itself view))
    (record { peers = refl; name = refl; about = refl })
served_keeps {view} (loses_link {s} number moves) =
    through view s.state (unlinked number s.state) (moves_keep view moves (itself view))
    (record { peers = refl; name = refl; about = refl })
served_keeps other = record { peers = refl; name = refl; about = refl }

pub keeps_its_setting : ServedKeepsItsSetting
keeps_its_setting view read_event = served_keeps (served_by_moves view read_event)
