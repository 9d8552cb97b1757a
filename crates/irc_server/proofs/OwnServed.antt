-- Whatever is served, each known server stays behind a link that counts, and what is put out goes
-- to a server's own clients and on its open links.
use Rattle.std.proofs.Common.{◌≡◌, ℕ, Bool, true, false, cond, ◌||◌, nat_eq, is_some, Option, None}
use Rattle.std.proofs.Common.{List, [], ◌∷◌, refl, sym, ◌∙◌, ap, subst}
use Rattle.std.proofs.lemmas.Bool.{eq-eqb, or_left, or_right}
use Rattle.std.specs.FinMap.{get}
use Rattle.std.specs.List.{list_all}
use Rattle.irc_batch.specs.Batches.{end_of, end_of_link, line_on}
use Rattle.irc_line.specs.Messages.{Written, text}
use Rattle.irc_stage.specs.Ends.{fresh_end}
use Rattle.irc_stage.specs.Ways.{AreEnds, IsMetEnd}
use Rattle.irc_stage.specs.RoomMachine.{Clients}
use Rattle.irc_stage.specs.View.{View, with_end}
use Rattle.irc_stage.specs.EffectTold.{Served, in_silence, with_sent}
use Rattle.irc_stage.specs.Linked.{unlinked}
use Rattle.irc_stage.specs.ClientTold.{closed_told, unseated}
use Rattle.irc_stage.specs.Lemmas.Numbers.{get-without, same_number}
use Rattle.irc_server.specs.LinkServed.{on_link}
use Rattle.irc_server.specs.Served.{ReadEvent, link_up}
use Rattle.irc_server.specs.Connected.{has_client, has_link}
use Rattle.irc_server.specs.Own.{IsNewLink, ServedGoesToItsOwn, ServedKeepsEnds, is_its_own}
use Rattle.irc_server.specs.Own.{is_on_new}
use Rattle.irc_server.specs.Moves.{Closings, OfClient, OfLinks, IsServed, seats, ignores, speaks}
use Rattle.irc_server.specs.Moves.{leaves, opens_link, refuses_link, ignores_link, listens}
use Rattle.irc_server.specs.Moves.{closes_link, loses_link}
use Rattle.irc_server.specs.Lemmas.ServedByMoves.{served_by_moves}
use Rattle.irc_server.proofs.AllOf.{all-each, all-one, all-weaker}
use Rattle.irc_server.proofs.MetEnds.{left_no_more, put_met, unlinked_met}
use Rattle.irc_server.proofs.OwnKept.{IsOwn, moves_own, sent_own}

-- what is left by what is served
record IsLeft (view : View) (read_event : ReadEvent) (s : Served) : Type 0 where
  met : IsNewLink view read_event → AreEnds s.state.ends s.state.routes
  out : list_all (λ sent. is_its_own view sent || is_on_new read_event sent) s.out ≡ true

left : (view : View) (read_event : ReadEvent) (s : Served) → IsOwn view s
    → IsLeft view read_event s
left view read_event s own = record {
  met = λ new. own.met;
  out = all-weaker (is_its_own view) (λ sent. is_its_own view sent || is_on_new read_event sent)
      (λ sent is. or_left (is_its_own view sent) (is_on_new read_event sent) is) s.out own.out;
}

on_link_own : (view : View) (number : ℕ) (lines : List Written) → has_link view number ≡ true
    → list_all (is_its_own view) (on_link number lines) ≡ true
on_link_own view number lines here =
    all-each (is_its_own view) (λ parts. line_on number (text parts)) (λ parts. here) lines

-- a client less, or a link
unseated_own : (start : View) (conn : ℕ) (s : Served) → IsOwn start s
    → IsOwn start (record s { state = unseated conn s.state })
unseated_own start conn s own = record {
  clients = λ q is. own.clients q
      (either q (same_number q conn) (sym (ap is_some (get-without s.state.clients conn q)) ∙ is));
  ends = own.ends;
  met = own.met;
  out = own.out;
}
  where
    either : (q : ℕ) (b : Bool) → is_some (cond b None (get s.state.clients q)) ≡ true
        → has_client s.state q ≡ true
    either q true is = absurd (cc is)
    either q false is = is

unlinked_own : (start : View) (number : ℕ) (s : Served) → IsOwn start s
    → IsOwn start (record s { state = unlinked number s.state })
unlinked_own start number s own = record {
  clients = own.clients;
  ends = λ q is. own.ends q (left_no_more s.state.ends number q is);
  met = unlinked_met s.state.ends s.state.routes number own.met;
  out = own.out;
}

module _ (view : View) (met : AreEnds view.ends view.routes) where
  -- what a server is at the start is its own
  itself : IsOwn view (in_silence view)
  itself = record { clients = λ conn is. is; ends = λ link is. is; met = met; out = refl }

  spoken_own : (conn : ℕ) (clients : Clients)
      → ((q : ℕ) → is_some (get clients q) ≡ has_client view q)
      → IsOwn view (in_silence (record view { clients = clients }))
  spoken_own conn clients same = record {
    clients = λ q is. sym (same q) ∙ is;
    ends = λ link is. is;
    met = met;
    out = refl;
  }

  -- a link that opens had nobody behind it
  opened_left : (number : ℕ) (starts : Option (List ℕ)) (lines : List Written)
      → IsLeft view (link_up number starts)
      (with_sent (on_link number lines) (in_silence (with_end number starts view)))
  opened_left number starts lines = record {
    met = λ new. put_met view.ends view.routes number (fresh_end starts) met
        (λ counts. absurd (subst IsMetEnd new counts));
    out = all-each (λ sent. is_its_own view sent || is_on_new (link_up number starts) sent)
        (λ parts. line_on number (text parts)) (λ parts. or_right (has_link view number)
        (nat_eq number number) (eq-eqb number number refl)) lines;
  }

  served_left : {event : ReadEvent} {closed : Closings} {s : Served} → IsServed view event closed s
      → IsLeft view event s
  served_left (seats conn host) = record { met = λ new. met; out = refl }
  served_left {event} (ignores conn read) = left view event (in_silence view) itself
  served_left {event} (speaks {s} conn read close clients here same moves) =
      left view event (closed_told close conn s) (either close
      (moves_own view (OfClient conn) moves (spoken_own conn clients same)))
    where
      either : (close : Bool) → IsOwn view s → IsOwn view (closed_told close conn s)
      either true own = sent_own view (end_of conn ∷ [])
          (all-one (is_its_own view) (end_of conn) here)
          (record s { state = unseated conn s.state }) (unseated_own view conn s own)
      either false own = own
  served_left {event} (leaves {s} conn moves) = left view event s
      (moves_own view (OfClient conn) moves (unseated_own view conn (in_silence view) itself))
  served_left (opens_link number starts lines) = opened_left number starts lines
  served_left (refuses_link number starts why) = record {
    met = λ new. met;
    out = all-one (λ sent. is_its_own view sent || is_on_new (link_up number starts) sent)
        (end_of_link number why)
        (or_right (has_link view number) (nat_eq number number) (eq-eqb number number refl));
  }
  served_left {event} (ignores_link number read) = left view event (in_silence view) itself
  served_left {event} (listens {s} number read ends lines here still moves) = left view event s
      (moves_own view OfLinks moves (record {
        clients = λ conn is. is;
        ends = λ link is. sym (still.there link) ∙ is;
        met = λ name link is. still.met link (met name link is);
        out = on_link_own view number lines here;
      }))
  served_left {event} (closes_link {s} number read why here moves) =
      left view event (record s { state = unlinked number s.state })
      (unlinked_own view number s (moves_own view OfLinks moves
      (sent_own view (end_of_link number why ∷ [])
      (all-one (is_its_own view) (end_of_link number why) here) (in_silence view) itself)))
  served_left {event} (loses_link {s} number moves) =
      left view event (record s { state = unlinked number s.state })
      (unlinked_own view number s (moves_own view OfLinks moves itself))

pub keeps_ends : ServedKeepsEnds
keeps_ends view read_event met new =
    (served_left view met (served_by_moves view read_event)).met new

pub goes_to_its_own : ServedGoesToItsOwn
goes_to_its_own view read_event met = (served_left view met (served_by_moves view read_event)).out
