-- What holds of all that a server has put out, whatever it serves, by which links it has closed.
use Rattle.std.proofs.Common.{◌≡◌, ℕ, Bool, true, false, List, [], ◌∷◌, ◌++◌, sym, subst}
use Rattle.std.specs.List.{list_all}
use Rattle.irc_line.specs.Messages.{Written, text}
use Rattle.irc_batch.specs.Batches.{Sent, end_of, end_of_link, line_on, line_to}
use Rattle.irc_batch.specs.declared.close_reason.CloseReason.{CloseReason}
use Rattle.irc_stage.specs.View.{View}
use Rattle.irc_stage.specs.EffectTold.{Served}
use Rattle.irc_stage.specs.ClientTold.{closed_told}
use Rattle.irc_server.specs.Served.{ReadEvent}
use Rattle.irc_server.specs.LinkServed.{on_link}
use Rattle.irc_server.specs.Moves.{Mover, Moves, Closings, IsServed, seats, ignores, speaks, leaves}
use Rattle.irc_server.specs.Moves.{opens_link, refuses_link, ignores_link, listens, closes_link}
use Rattle.irc_server.specs.Moves.{loses_link}
use Rattle.irc_server.proofs.AllOf.{all-each, all-one}
use Rattle.irc_server.proofs.PutOut.{all_out, always_passes}

-- It holds where nothing is put out, where one link is closed, and still behind things that pass a
-- test; and lines and ends of clients pass it.
pub record IsKeptWhenServed (test : Sent → Bool)
    (Holds : Closings → List Sent → Type 0) : Type 0 where
  pub nothing : Holds [] []
  pub one_closed : (number : ℕ) (why : CloseReason)
      → Holds ((number, why) ∷ []) (end_of_link number why ∷ [])
  pub behind : (closed : Closings) (out sent : List Sent) → list_all test sent ≡ true
      → Holds closed out → Holds closed (out ++ sent)
  pub on_link : (number : ℕ) (parts : Written) → test (line_on number (text parts)) ≡ true
  pub to_client : (conn : ℕ) (line : List ℕ) → test (line_to conn line) ≡ true
  pub closing : (conn : ℕ) → test (end_of conn) ≡ true

module _ (test : Sent → Bool) (Holds : Closings → List Sent → Type 0)
    (keeps : IsKeptWhenServed test Holds) where
  moves_so : (By : Mover → Type 0) (closed : Closings) {s t : Served} → Moves By s t
      → Holds closed s.out → Holds closed t.out
  moves_so By closed {s} moves so =
      let more = all_out By test
      (always_passes By test keeps.on_link keeps.to_client keeps.closing) moves in
      subst (Holds closed) (sym more.behind) (keeps.behind closed s.out more.more more.all so)

  lines_so : (number : ℕ) (lines : List Written) → Holds [] (on_link number lines)
  lines_so number lines =
      keeps.behind [] [] (on_link number lines)
      (all-each test (λ parts. line_on number (text parts)) (keeps.on_link number) lines)
      keeps.nothing

  closed_so : (close : Bool) (conn : ℕ) (s : Served) → Holds [] s.out
      → Holds [] (closed_told close conn s).out
  closed_so true conn s so =
      keeps.behind [] s.out (end_of conn ∷ []) (all-one test (end_of conn) (keeps.closing conn)) so
  closed_so false conn s so = so

  -- all that is put out
  pub served_so : {view : View} {event : ReadEvent} {closed : Closings} {s : Served}
      → IsServed view event closed s → Holds closed s.out
  served_so (seats conn host) = keeps.nothing
  served_so (ignores conn read) = keeps.nothing
  served_so (speaks {s} conn read close clients here same moves) =
      closed_so close conn s (moves_so _ [] moves keeps.nothing)
  served_so (leaves conn moves) = moves_so _ [] moves keeps.nothing
  served_so (opens_link number starts lines) = lines_so number lines
  served_so (refuses_link number starts why) = keeps.one_closed number why
  served_so (ignores_link number read) = keeps.nothing
  served_so (listens number read ends lines here still moves) =
      moves_so _ [] moves (lines_so number lines)
  served_so (closes_link number read why here moves) =
      moves_so _ ((number, why) ∷ []) moves (keeps.one_closed number why)
  served_so (loses_link number moves) = moves_so _ [] moves keeps.nothing
