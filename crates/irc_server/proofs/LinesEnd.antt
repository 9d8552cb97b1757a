-- Whatever is served, each line that is put out on a link ends in CR LF.
use Rattle.std.proofs.Common.{◌≡◌, ℕ, ◌-◌, Bool, true, List, ◌++◌, length, take, bytes_eq, refl}
use Rattle.std.proofs.Common.{sym, ◌∙◌, ap}
use Rattle.std.proofs.lemmas.List.{take-append-drop}
use Rattle.std.proofs.lemmas.List.Prefix.{end_rest}
use Rattle.std.proofs.lemmas.Slice.Eq.{bytes_eq-Decides}
use Rattle.std.specs.FinMap.{get}
use Rattle.std.specs.List.{AllByRecursion, list_all}
use Rattle.irc_line.specs.Bytes.{crlf}
use Rattle.irc_line.specs.Messages.{Written, line_text, text}
use Rattle.irc_batch.specs.Batches.{Sent, end_of, end_of_link, line_on, line_to}
use Rattle.irc_stage.specs.View.{View}
use Rattle.irc_stage.specs.EffectTold.{Served}
use Rattle.irc_server.specs.Served.{ReadEvent}
use Rattle.irc_server.specs.LineEnds.{EndsInLineEnd, ServedLinesEnd, SetLinesEnd}
use Rattle.irc_server.specs.Moves.{Closings, IsServed}
use Rattle.irc_server.specs.Lemmas.ServedByMoves.{served_by_moves, set_by_moves}
use Rattle.irc_server.proofs.AllOf.{all-append, all-told}
use Rattle.irc_server.proofs.AllServed.{IsKeptWhenServed, served_so}

-- ---- one thing that is put out

-- whether it ends so, as a test
abbrev is_ended : Sent → Bool
is_ended (line_on link line) = bytes_eq line (take (length line - 2) line ++ crlf)
is_ended other = true

ends : (sent : Sent) → is_ended sent ≡ true → EndsInLineEnd sent
ends (line_to conn line) is = tt
ends (end_of conn) is = tt
ends (line_on link line) is = (bytes_eq-Decides line (take (length line - 2) line ++ crlf)).0 is
ends (end_of_link link why) is = tt

-- a body, and CR LF behind it
body_ends : (body line : List ℕ) → line ≡ body ++ crlf → line ≡ take (length line - 2) line ++ crlf
body_ends body line is =
    let front = length line - 2 in sym (take-append-drop front line)
    ∙ ap (λ end. take front line ++ end) (end_rest line crlf body is)

text_ended : (link : ℕ) (parts : Written) → is_ended (line_on link (text parts)) ≡ true
text_ended link parts =
    (bytes_eq-Decides (text parts) (take (length (text parts) - 2) (text parts) ++ crlf)).1
    (body_ends (line_text parts) (text parts) refl)

-- ---- all that has been put out, whichever links are closed

abbrev AllEnded : Closings → List Sent → Type 0
AllEnded closed out = list_all is_ended out ≡ true

stay_ended : IsKeptWhenServed is_ended AllEnded
stay_ended = record {
  nothing = refl;
  one_closed = λ number why. refl;
  behind = λ closed out sent all ended. all-append is_ended out sent ended all;
  on_link = text_ended;
  to_client = λ conn line. refl;
  closing = λ conn. refl;
}

served_ends : {view : View} {event : ReadEvent} {closed : Closings} {s : Served}
    → IsServed view event closed s → AllByRecursion EndsInLineEnd s.out
served_ends {s = s} what =
    all-told is_ended EndsInLineEnd ends s.out (served_so is_ended AllEnded stay_ended what)

pub lines_end : ServedLinesEnd
lines_end view read_event = served_ends (served_by_moves view read_event)

pub set_lines_end : SetLinesEnd
set_lines_end view link read = served_ends (set_by_moves view link read (get view.ends link) refl)
