-- What a layer puts out on links, over lines of wire: the examples of `Putting.antt`.
use Rattle.std.specs.Prelude.{◌≡◌, ℕ, true, false, Some, None, List, [], ◌∷◌, ◌++◌, codes, nat_eq}
use Rattle.std.specs.Prelude.{if◌then◌else◌}
use Rattle.irc_line.specs.Bytes.{crlf}
use Rattle.irc_line.specs.Messages.{text}
use Rattle.irc_batch.specs.Batches.{Sent, line_on, line_to}
use Rattle.irc_batch.specs.declared.close_reason.CloseReason.TheVariants.{Parameters}
use Rattle.irc_link_end.specs.declared.greeting.Greeting.TheVariants.{Whole}
use Rattle.irc_link_end.specs.declared.offer.Offer.TheVariants.{Away, Pieces}
use Rattle.irc_link_end.specs.LinkEnds.{alone}
use Rattle.irc_pieces.specs.declared.piece_end.Heard.TheVariants.{Fault}
use Rattle.irc_layer.specs.declared.end.End.{End}
use Rattle.irc_layer.specs.Asking.{asked_of, tell_parts}
use Rattle.irc_layer.specs.Ends.{heard_by, Ends}
use Rattle.irc_layer.specs.Layers.{by_itself, by_line, by_setting}
use Rattle.irc_layer.specs.Putting.{all_put}

-- an end that counts pieces and has met the other one: it has read so many pieces, and told so many
abbrev pub counting : (read told : ℕ) → End
counting read told = record {
  link = record {
    calls = true;
    offers = Some Pieces;
    offered = Some Pieces;
    greeting = Whole;
    is_met = true;
    pieces = record {
      counts = record { sent = 0; taken = 0; read = read; told = told; untold_bytes = 0 };
      left = 0;
      mark = None;
      lines = [];
      bytes = 0;
    };
  };
  left = 0;
  log = [];
}

-- links 3 and 4 are there, each with such an end
abbrev pub two_links : (read told : ℕ) → Ends
two_links read told link = if nat_eq 3 link then Some (counting read told)
    else (if nat_eq 4 link then Some (counting read told) else None)

-- a line on a link
abbrev pub on : ℕ → List ℕ → Sent
on link line = line_on link (line ++ crlf)

-- what was read is told in front of the first line, and what clients are told goes as it is
abbrev pub CountIsInFront : Type 0
CountIsInFront =
    all_put by_itself
    (on 3 (codes ":al JOIN #c") ∷ line_to 1 (codes "hi") ∷ on 3 (codes ":al PART #c :bye")
    ∷ []) (two_links 5 3)
    ≡ on 3 (codes "COUNT 5 1") ∷ on 3 (codes ":al JOIN #c") ∷ line_to 1 (codes "hi")
    ∷ on 3 (codes ":al PART #c :bye") ∷ []

-- servers that are lost together are one piece on each link
abbrev pub LostServersAreOne : Type 0
LostServersAreOne =
    all_put by_itself
    (on 3 (codes ":a.net SQUIT c.net :x") ∷ on 4 (codes ":a.net SQUIT c.net :x")
    ∷ on 3 (codes ":a.net SQUIT d.net :x") ∷ on 4 (codes ":a.net SQUIT d.net :x")
    ∷ on 3 (codes ":al JOIN #c") ∷ []) (two_links 5 5)
    ≡ on 3 (codes "COUNT 5 2") ∷ on 3 (codes ":a.net SQUIT c.net :x") ∷ on 4 (codes "COUNT 5 2")
    ∷ on 4 (codes ":a.net SQUIT c.net :x") ∷ on 3 (codes ":a.net SQUIT d.net :x")
    ∷ on 4 (codes ":a.net SQUIT d.net :x") ∷ on 3 (codes ":al JOIN #c") ∷ []

-- a KILL does not go back on the link by which the NICK came that it answers
abbrev pub KillDoesNotGoBack : Type 0
KillDoesNotGoBack =
    all_put (by_line 3 false)
    (on 3 (codes ":a.net KILL zed :x") ∷ on 4 (codes ":a.net KILL zed :x") ∷ [])
    (two_links 5 5) ≡ on 4 (codes ":a.net KILL zed :x") ∷ []

-- What is set for somebody who is gone is marked.
abbrev pub SetIsMarked : Type 0
SetIsMarked =
    all_put (by_setting 3) (line_to 1 (codes "hi") ∷ on 4 (codes ":b.net MODE #c +i") ∷ [])
    (two_links 5 5)
    ≡ line_to 1 (codes "hi") ∷ on 4 (codes "COUNT 5 1 set") ∷ on 4 (codes ":b.net MODE #c +i") ∷ []

-- A KICK of a server, and an NJOIN of nobody, do not go on a link without counts; 5 is one.
abbrev pub not_counting : End
not_counting = record (counting 0 0) { link = record (counting 0 0).link { offers = None } }

abbrev pub without_counts : Ends
without_counts link = if nat_eq 5 link then Some not_counting else None

abbrev pub KickIsUnspoken : Type 0
KickIsUnspoken =
    all_put (by_setting 3) (on 5 (codes ":b.net KICK #c bo :out")
    ∷ on 5 (codes ":b.net NJOIN #c :") ∷ on 5 (codes ":b.net MODE #c +i") ∷ []) without_counts
    ≡ on 5 (codes ":b.net MODE #c +i") ∷ []

-- What one end asks the other reads, where both count pieces.
pub record AskIsRead : Type 0 where
  pub written : text (tell_parts (codes "#c")) ≡ codes "TELL #c" ++ crlf
  pub read : asked_of (codes "TELL #c") (counting 0 0) ≡ Some (codes "#c")
  pub plain : asked_of (codes "TELL #c") not_counting ≡ None

-- Who is away is told where both ends have offered that. 6 is a link of two that have, of 7 the
-- other end has offered to count pieces alone, and 5 is one without counts.
abbrev pub both_tell : End
both_tell = record (counting 0 0) {
  link = record (counting 0 0).link { offers = Some Away; offered = Some Away };
}

abbrev pub one_tells : End
one_tells = record (counting 0 0) {
  link = record (counting 0 0).link { offers = Some Away };
}

abbrev pub three_links : Ends
three_links link = if nat_eq 5 link then Some not_counting
    else (if nat_eq 6 link then Some both_tell
    else (if nat_eq 7 link then Some one_tells else None))

-- a line on each of them
abbrev pub on_each : List ℕ → List Sent
on_each line = on 5 line ∷ on 6 line ∷ on 7 line ∷ []

abbrev pub AwayIsToldWhereOffered : Type 0
AwayIsToldWhereOffered =
    all_put by_itself (on_each (codes ":al MODE al +a :at lunch") ++ on_each (codes ":al MODE al -a")
    ++ on_each (codes ":al MODE al +i")) three_links
    ≡ on 6 (codes ":al MODE al +a :at lunch") ∷ on 6 (codes ":al MODE al -a")
    ∷ on_each (codes ":al MODE al +i")

-- a line that tells it closes any other link, in any case of the command
pub record AwayIsRefused (end : End) : Type 0 where
  pub away : heard_by (codes ":bo MODE bo +a :at lunch") end ≡ Fault Parameters
  pub back : heard_by (codes ":bo mode bo -a") end ≡ Fault Parameters
  pub other : heard_by (codes ":bo MODE bo +i") end ≡ alone (codes ":bo MODE bo +i")

pub record AwayIsHeardWhereOffered : Type 0 where
  pub both : heard_by (codes ":bo MODE bo +a :at lunch") both_tell
      ≡ alone (codes ":bo MODE bo +a :at lunch")
  pub one : AwayIsRefused one_tells
  pub none : AwayIsRefused not_counting
